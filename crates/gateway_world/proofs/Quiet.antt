-- Steps of a core after which nothing more waits.
use Rattle.std.proofs.Common.{◌≡◌, ◌⊎◌, ℕ, Bool, true, false, List, [], ◌∷◌, ◌++◌, length, drop, Err, inl, inr, refl, sym, ap, ◌∙◌, subst}
use Rattle.std.proofs.Math.Seq.{drop-append_seam}
use Rattle.std.proofs.lemmas.List.{append-nil}
use Rattle.ask_model.specs.Views.{Ask}
use Rattle.std.specs.Prelude.{if◌then◌else◌}
use Rattle.journal_book.specs.Entries.{Opens, Shuts, Seals, Written}
use Rattle.exchange_model.specs.State.{State}
use Rattle.exchange_model.specs.Steps.{opens, shuts, seals}
use Rattle.exchange_model.specs.Room.{fits}
use Rattle.exchange_model.specs.Hearing.{Numbers}
use Rattle.exchange_model.specs.Growing.{at_moment}
use Rattle.exchange_model.specs.Sealing.{asks_in_room, opens_in_room}
use Rattle.exchange_core.specs.declared.fault.AskFault.TheVariants as Fault
use Rattle.exchange_core.specs.Calls.{IsAsked, IsClosed, AsksSo}
use Rattle.exchange_core.specs.Values.{CoreValue, Untaken, Outgoing, answered_in, sent_in, stepped}
use Rattle.gateway_model.specs.Waiting.{IsDrained}
use Rattle.gateway_world.specs.Engines.{KeepsWaiting}
use Rattle.gateway_model.proofs.CallerLemmas.{denied-is}

record IsQuiet (S S1 : State) : Type 0 where
  more : List Written
  entries : S1.entries ≡ S.entries ++ more
  answers : (n : ℕ) → answered_in n more ≡ []
  sends : sent_in more ≡ []

quiet-none : (S : State) → IsQuiet S S
quiet-none S = record { more = []; entries = sym (append-nil S.entries); answers = λ n. refl; sends = refl }

quiet-seal : (t : ℕ) (S : State) → IsQuiet S (seals t S)
quiet-seal t S = record { more = at_moment t Seals ∷ []; entries = refl; answers = λ n. refl; sends = refl }

quiet-shut : (t c : ℕ) (S : State) → IsQuiet S (shuts t c S)
quiet-shut t c S = record { more = at_moment t (Shuts c) ∷ []; entries = refl; answers = λ n. refl; sends = refl }

quiet-open : (t : ℕ) (S : State) → IsQuiet S (opens t S)
quiet-open t S = record { more = at_moment t (Opens S.opened) ∷ []; entries = refl; answers = λ n. refl; sends = refl }

quiet-opened : (t : ℕ) (S : State) → IsQuiet S (opens_in_room t S)
quiet-opened t S = by S.sealed (fits (opens t S))
  where
    by : (sealed room : Bool) → IsQuiet S (if sealed then S else (if room then opens t S else seals t S))
    by true room = quiet-none S
    by false true = quiet-open t S
    by false false = quiet-seal t S

waits-quiet : (old new : CoreValue) (S : State) → new ≡ stepped S old → IsQuiet old.state S → KeepsWaiting old new
waits-quiet old new S e q =
    let k : ℕ = length old.state.entries in
    let more : drop k S.entries ≡ q.more = ap (drop k) q.entries ∙ drop-append_seam old.state.entries q.more in
    let answers : answered_in k (drop k S.entries) ≡ [] = ap (answered_in k) more ∙ q.answers k in
    let sends : sent_in (drop k S.entries) ≡ [] = ap sent_in more ∙ q.sends in
    record {
      untaken = ap (λ (v : CoreValue). v.untaken) e
          ∙ (ap (λ (us : List Untaken). old.untaken ++ us) answers ∙ append-nil old.untaken);
      unsent = λ none. ap (λ (v : CoreValue). v.unsent) e
          ∙ (ap (λ (os : List Outgoing). old.unsent ++ os) sends ∙ (append-nil old.unsent ∙ none));
    }

waits-same : (old new : CoreValue) → new ≡ old → KeepsWaiting old new
waits-same old new e = record {
  untaken = ap (λ (v : CoreValue). v.untaken) e;
  unsent = λ none. ap (λ (v : CoreValue). v.unsent) e ∙ none;
}

pub closed-waits : (t c : ℕ) (old new : CoreValue) → IsClosed t c old new → KeepsWaiting old new
closed-waits t c old new h = waits-quiet old new (shuts t c old.state) h.1 (quiet-shut t c old.state)

pub opened-waits : (t : ℕ) (old new : CoreValue) → new ≡ stepped (opens_in_room t old.state) old → KeepsWaiting old new
opened-waits t old new e = waits-quiet old new (opens_in_room t old.state) e (quiet-opened t old.state)

-- An ask that the journal doesn't take adds the seal at most.
denied-quiet : (t c : ℕ) (a : Ask) (n : Numbers) (S : State) → (asks_in_room t c a n S).sealed ≡ true
    → IsQuiet S (asks_in_room t c a n S)
denied-quiet t c a n S e = elim (denied-is t c a n S e) [
  | inl same ↦ subst (IsQuiet S) (sym same) (quiet-none S)
  | inr seal ↦ subst (IsQuiet S) (sym seal) (quiet-seal t S)
]

pub denied-waits : (t word c : ℕ) (a : Ask) (old new : CoreValue) → IsAsked (Err Fault.Sealed) t word c a old new
    → KeepsWaiting old new
denied-waits t word c a old new h = by h.2
  where
    by : ((old.state.sealed ≡ true) × (new ≡ old)) ⊎ AsksSo t word c a old new → KeepsWaiting old new
    by (inl same) = waits-same old new same.1
    by (inr so) =
        waits-quiet old new (asks_in_room t c a so.numbers old.state) so.is
        (denied-quiet t c a so.numbers old.state
        (sym (ap (λ (v : CoreValue). v.state.sealed) so.is) ∙ h.0))

-- waiting goes on

pub waits-then : (a b c : CoreValue) → KeepsWaiting a b → KeepsWaiting b c → KeepsWaiting a c
waits-then a b c h k = record { untaken = k.untaken ∙ h.untaken; unsent = λ e. k.unsent (h.unsent e) }

pub still-drained : (old new : CoreValue) → KeepsWaiting old new → IsDrained old → IsDrained new
still-drained old new k d = record { sends = k.unsent d.sends; answers = k.untaken ∙ d.answers }
