-- Runs of a link: any list of calls, the newest first, with what each told and put out.
use Rattle.std.specs.Prelude.{◌≡◌, ℕ, ◌+◌, ◌^◌, ◌≤◌, List, [], ◌∷◌, ◌++◌, map, filter, Option, Bool}
use Rattle.limits.specs.declared.TheConstants.{LAST_MOMENT, MAX_MESSAGE_IDS}
use Rattle.coap_codec.specs.Spelling.{Content}
use Rattle.coap_codec.specs.declared.message.MsgType.TheVariants.{Con}
use Rattle.message_layer.specs.Values.{LinkState, Told, empty_link, is_con}
use Rattle.message_layer.specs.Sending.{Submits, ticked, mids_in_use}
use Rattle.message_layer.specs.Hearing.{hears}
use Rattle.message_layer.specs.Calls.{forgotten, expected, sent_out}

-- a call with its answer; one that is refused changes nothing
pub data Call : Type 0 where
  submit : (message : Content) → (word : ℕ) → Call
  hear : (datagram : List ℕ) → (told : Told) → Call
  tick : (told : Told) → Call
  forget : (token : List ℕ) → Call
  expect : (token : List ℕ) → (on : Bool) → Call
  take_send : (datagram : Option (List ℕ)) → Call
  refuse : Call

pub record Step : Type 0 where
  pub moment : ℕ
  pub call : Call
  -- the datagrams that it put out
  pub sent : List (List ℕ)

-- a message that was taken: there was an ID for it
pub record Takes (t word : ℕ) (m : Content) (old new : LinkState) : Type 0 where
  pub confirmable : m.kind ≡ Con
  pub free : mids_in_use t old + 1 ≤ MAX_MESSAGE_IDS
  pub submits : Submits t word m old new

-- the value that the call leaves, as its contract says
abbrev pub Leaves : ℕ → Call → LinkState → LinkState → Type 0
Leaves t (submit m word) old new = Takes t word m old new
Leaves t (hear d told) old new = hears t d old ≡ (new, told)
Leaves t (tick told) old new = ticked t old ≡ (new, told)
Leaves t (forget token) old new = new ≡ forgotten token old
Leaves t (expect token on) old new = new ≡ expected token on old
Leaves t (take_send d) old new = sent_out old ≡ (new, d)
Leaves t refuse old new = new ≡ old

-- what it put out stands after what was to be given out before
abbrev pub Puts : Call → List (List ℕ) → LinkState → LinkState → Type 0
Puts (submit m word) sent old new = new.out ≡ old.out ++ sent
Puts (hear d told) sent old new = new.out ≡ old.out ++ sent
Puts (tick told) sent old new = new.out ≡ old.out ++ sent
Puts (forget token) sent old new = sent ≡ []
Puts (expect token on) sent old new = sent ≡ []
Puts (take_send d) sent old new = sent ≡ []
Puts refuse sent old new = sent ≡ []

pub record IsStep (last : ℕ) (x : Step) (old new : LinkState) : Type 0 where
  -- moments never fall
  pub later : last ≤ x.moment
  pub in_range : x.moment ≤ LAST_MOMENT
  pub leaves : Leaves x.moment x.call old new
  pub puts : Puts x.call x.sent old new

abbrev pub last_moment : List Step → ℕ
last_moment [] = 0
last_moment (x ∷ older) = x.moment

-- the calls lead from a new link to this one
abbrev pub IsRun : List Step → LinkState → Type 0
IsRun [] s = s ≡ empty_link
IsRun (x ∷ older) s = (before : LinkState) × IsRun older before
    × IsStep (last_moment older) x before s

pub record Transmission : Type 0 where
  pub moment : ℕ
  pub datagram : List ℕ

abbrev pub transmitted : ℕ → List ℕ → Transmission
transmitted t d = record { moment = t; datagram = d }

-- the CONs that a run put out, the newest first
abbrev pub transmissions : List Step → List Transmission
transmissions [] = []
transmissions (x ∷ older) = map (transmitted x.moment) (filter is_con x.sent) ++ transmissions older
