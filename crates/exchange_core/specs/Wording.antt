-- The first message of an exchange: what it asks for beside the request.
use Rattle.std.specs.Prelude.{◌≡◌, ℕ, ◌≤◌, Bool, ◌&&◌, true, false, List, [], length, Option, Some, None, ⊤, if◌then◌else◌}
use Rattle.limits.specs.declared.TheConstants.{MAX_BODY_LEN, MAX_MESSAGE_LEN}
use Rattle.coap_codec.specs.Spelling.{Spells}
use Rattle.observe_share.specs.declared.registration.Registration.{Registration}
use Rattle.resp_cache.specs.Stored.{Stored}
use Rattle.ask_model.specs.Requests.{CoapRequest, Manner, Plainly, Observing, Sense, Requests, Refuses, opening_message}
use Rattle.ask_model.specs.Views.{Mapping}
use Rattle.history_laws.specs.Observing.{manner_by, tag_of}
use Rattle.exchange_model.specs.State.{State}
use Rattle.exchange_core.specs.declared.wording.First.{First}
use Rattle.exchange_core.specs.Renewing.{stale_for}
use Rattle.exchange_core.specs.Watching.{may_watch, observed_by}

abbrev pub IsRequest : Sense → Type 0
IsRequest (Requests q) = ⊤
IsRequest (Refuses cause status) = ⊥

-- the first message of a request, spelled in this manner under ID 0
pub record IsTextFor (manner : Manner) (sense : Sense) (token text : List ℕ) : Type 0 where
  pub request : CoapRequest
  pub is : sense ≡ Requests request
  pub body : length request.body ≤ MAX_BODY_LEN
  pub spelled : Spells (opening_message manner request 0 token) text
  pub short : length text ≤ MAX_MESSAGE_LEN

-- It asks to observe, where its server may be observed, and one more may.
abbrev pub wants_for : Mapping → List Registration → Bool
wants_for m rs = may_watch m.sense rs && observed_by m.rules m.sense

-- Or else it asks whether what is stored for it and isn't fresh is valid still, and keeps that.
abbrev pub keeps_for : ℕ → Mapping → State → Option Stored
keeps_for t m S =
    if wants_for m S.watches then None else stale_for m.sense t S.entries S.store

abbrev pub asks_for : ℕ → Mapping → State → Manner
asks_for t m S = manner_by (tag_of (keeps_for t m S) []) (wants_for m S.watches)

-- the message that asks to observe, where that may be
abbrev pub AsksToObserve : Mapping → List ℕ → State → Option First → Type 0
AsksToObserve m token S None = wants_for m S.watches ≡ false
AsksToObserve m token S (Some x) =
    (wants_for m S.watches ≡ true) × (x.observes ≡ true) × (x.keeps ≡ None)
    × IsTextFor Observing m.sense token x.text

-- the message that asks whether what is stored is valid still, if anything is that isn't fresh
abbrev pub AsksIfValid : ℕ → Mapping → List ℕ → State → Option First → Type 0
AsksIfValid t m token S None = stale_for m.sense t S.entries S.store ≡ None
AsksIfValid t m token S (Some x) =
    (x.keeps ≡ stale_for m.sense t S.entries S.store) × (x.observes ≡ false)
    × IsTextFor (manner_by (tag_of x.keeps []) false) m.sense token x.text

-- the message that asks for the response alone
abbrev pub AsksPlainly : Mapping → List ℕ → First → Type 0
AsksPlainly m token x =
    (x.keeps ≡ None) × (x.observes ≡ false) × IsTextFor Plainly m.sense token x.text

-- It is the one of these that goes before the others.
pub record IsFirst (t : ℕ) (m : Mapping) (token : List ℕ) (S : State) (x : First) : Type 0 where
  pub observes : x.observes ≡ wants_for m S.watches
  pub keeps : x.keeps ≡ keeps_for t m S
  pub text : IsTextFor (asks_for t m S) m.sense token x.text
