-- The worked journals of a body in two pieces, as entries.
use Rattle.std.proofs.Common.{◌≡◌, inl, inr, List, [], ◌∷◌, Some, refl, sym, subst, arith}
use Rattle.coap_codec.specs.Spelling.{Content, Spells}
use Rattle.coap_codec.proofs.Unique.{spells_one}
use Rattle.ask_model.specs.Requests.{CoapRequest}
use Rattle.ask_model.specs.declared.cause.Cause.TheVariants as C
use Rattle.history_laws.specs.Progress.{first_point}
use Rattle.history_laws.specs.Readings.{entries}
use Rattle.history_laws.specs.Responses.{whole_of}
use Rattle.history_laws.specs.Worked.{server, ask_for}
use Rattle.history_laws.specs.WorkedUploads as U
use Rattle.history_laws.proofs.CallerLemmas.{answer-spelled, endless-holds, none-some, turned_down-holds, uploaded-holds}
use Rattle.history_claims.specs.Headline.{AreHeardFor}
use Rattle.history_claims.specs.Worked.{Uploaded, TurnedDown, LeftOut, Endless}
use Rattle.history_claims.proofs.Causes.{causes-in}
use Rattle.history_claims.proofs.Examples.{first-alone, heard-texts, sense-same}
use Rattle.history_claims.proofs.Resting.{rests-heard}
use Rattle.history_claims.proofs.Together.{requests-same}

pub uploaded : Uploaded
uploaded = rests-heard U.uploaded 6 900 0 1 (3 ∷ 5 ∷ []) uploaded-holds.0 refl refl

pub turned-down : TurnedDown
turned-down = rests-heard U.turned_down 4 700 0 1 (3 ∷ []) turned_down-holds.0 refl refl

pub endless : Endless
endless = (causes-in U.endless 6 900 0 1 C.NotUnderstood 5 endless-holds.0 refl).1

-- not so: by itself the second answer isn't one to the request
pub left-out : LeftOut
left-out h = elim (h.heard) [
  | inl heard ↦ go h.messages heard h.whole
  | inr on ↦
      let own = (first-alone (entries U.uploaded) 0 h.request h.entry h.opening h.since 0 0 refl h.shared).0 in
      let begins = on.0 in
      absurd (omega (arith, own, begins))
]
  where
    asks : U.put_file ≡ h.request
    asks = requests-same U.put_file h.request (sense-same 0 h.shared.moment 0 0 (ask_for U.put_file) _ h.shared.asked.stands)

    go : (ms : List Content) → AreHeardFor (entries U.uploaded) h.entry h.request (first_point h.request) (5 ∷ []) ms → whole_of h.request ms ≡ Some h.response → ⊥
    go [] heard whole = heard
    go (m ∷ n ∷ ms) heard whole = heard.1
    go (m ∷ []) heard whole =
        let r = heard.0.response.heard in
        let text : U.changed_bytes ≡ r.bytes = heard-texts 900 heard.0.response.moment server h.request.peer U.changed_bytes r.bytes r.stands in
        let is : m ≡ U.changed_message = spells_one m U.changed_message r.bytes r.spelled (subst (Spells U.changed_message) text answer-spelled) in
        let same : whole_of U.put_file (U.changed_message ∷ []) ≡ Some h.response =
        subst (λ (q : CoapRequest). whole_of q (U.changed_message ∷ []) ≡ Some h.response) (sym asks)
        (subst (λ (n : Content). whole_of h.request (n ∷ []) ≡ Some h.response) is whole) in
        none-some h.response same
