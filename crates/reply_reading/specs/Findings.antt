-- What an ask comes to, as plain data.
use Rattle.std.specs.Prelude.{◌≡◌, ℕ, List, [], ◌∷◌, ◌++◌, ⊤}
use Rattle.std.specs.Arc.{arc_value}
use Rattle.coap_codec.specs.Spelling.{Content}
use Rattle.ask_model.specs.declared.cause.Cause.{Cause}
use Rattle.journal_book.specs.Entries.{Grounds, Live, Kept, Fault}
use Rattle.history_laws.specs.Responses.{Response, joined}
use Rattle.reply_reading.specs.declared.finding.Outcome.{Outcome}
use Rattle.reply_reading.specs.declared.finding.Outcome.TheVariants as O

-- what an ask came to: a response, or an error of the proxy's own
pub data Told : Type 0 where
  Tells : (response : Response) → Told
  Fails : (cause : Cause) → Told

abbrev pub told_of : Outcome → Told
told_of (O.Whole r) = Tells (arc_value r)
told_of (O.Fault cause) = Fails cause

pub record Found : Type 0 where
  pub told : Told
  pub grounds : Grounds

-- A response rests on replies, and an error of the proxy's own names its cause.
abbrev pub Fits : Told → Grounds → Type 0
Fits (Tells w) (Live js) = ⊤
Fits (Tells w) (Kept js) = ⊤
Fits (Fails cause) (Fault named n) = cause ≡ named
Fits _ _ = ⊥

-- what pieces of a representation say together: those before the last, in order, and the last
abbrev pub joined_all : List Content → Content → Response
joined_all [] last = joined last []
joined_all (first ∷ rest) last = joined first (rest ++ last ∷ [])
