-- What is known of a request's body, and what it can be sent as.
use Rattle.std.specs.Prelude.{◌≡◌, ⊤, ℕ, List}
use Rattle.std.specs.List.{Contains}
use Rattle.media_map.specs.declared.form.Form.{Form}
use Rattle.media_map.specs.declared.form.Form.TheVariants.{Format}
use Rattle.ask_model.specs.Maps.{Typing as BodyTyping, Untyped, Typed, Routed, Untypable, Fails}
use Rattle.http_mapping.specs.declared.typing.Typing.{Typing}
use Rattle.http_mapping.specs.declared.typing.Typing.TheVariants as T
use Rattle.http_mapping.specs.declared.sending.Unsent.{Unsent}
use Rattle.http_mapping.specs.declared.sending.Unsent.TheVariants as U

abbrev pub typing_shown : Typing → BodyTyping
typing_shown T.Untyped = Untyped
typing_shown (T.Typed n) = Typed n
typing_shown (T.Routed from n) = Routed from.now n
typing_shown T.Untypable = Untypable

-- Where a body is transformed, that is along one of the routes.
abbrev pub IsAlong : List (Form × Form) → BodyTyping → Type 0
IsAlong routes (Routed from n) = Contains routes (from, Format n)
IsAlong routes _ = ⊤

-- Why the body isn't sent, but for want of memory.
abbrev pub HasFault : (Form → Form → List ℕ → List ℕ → Type 0) → (Form → Form → List ℕ → Type 0)
    → BodyTyping → List ℕ → Unsent → Type 0
HasFault holds takes typing body U.Type = typing ≡ Untypable
HasFault holds takes typing body U.Content = Fails holds takes typing body
HasFault holds takes typing body U.Memory = ⊤
