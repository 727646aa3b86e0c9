-- A message is executed at most once.
use Rattle.std.proofs.Common.{◌≡◌, ℕ, ◌+◌, ◌<◌, ◌≤◌, inl, inr, List, Option, Some, refl, subst, arith}
use Rattle.std.specs.Prelude.{slice_get}
use Rattle.limits.specs.declared.TheConstants.{EXCHANGE_LIFETIME}
use Rattle.coap_codec.specs.Spelling.{Content, Spells}
use Rattle.coap_codec.proofs.Again.{message_again}
use Rattle.uri_map.specs.declared.peer.Peer.{Peer}
use Rattle.history_laws.specs.Readings.{Noted}
use Rattle.history_laws.specs.Laws.{IsFirst}
use Rattle.demo_origin.specs.Calls.{Call}
use Rattle.demo_origin.specs.Hearing.{Hears}
use Rattle.demo_origin.specs.Once.{Event, heard, Steps, Executed}
use Rattle.demo_origin.specs.Values.{Device, Relation}
use Rattle.demo_origin.specs.declared.execution.Taken.{Taken}
use Rattle.demo_origin.proofs.Repeats.{executed_once}
use Rattle.story_laws.specs.Executions.{Executes}
use Rattle.story_laws.specs.Lateness.{SendsMessage}
use Rattle.story_laws.specs.Networks.{IsDelivered, IsBrought, Networks}
use Rattle.story_laws.specs.declared.TheConstants.{LONGEST_SENDING, LONGEST_WAY}
use Rattle.story_laws.proofs.Calling.{HearsAt, all-at, in-one-place, runs-between, step-at, timed-between}
use Rattle.story_laws.proofs.Sending.{sent-within}

hears-at : (proxy : Peer) (m : Content) (c : Call) → (x : Executes proxy m c) → HearsAt x.moment c
hears-at proxy m c x = record { peer = proxy; datagram = x.datagram; taken = Some x.taken; comes = x.comes }

-- it arrives within 149 seconds of the first sending
pub arrives : (R : Relation) (l : List Noted) (device proxy p : Peer) (s : Device) (cs : List Call) (t o i a u : ℕ) (m : Content)
    (c : Call) (d : List ℕ) (k : Option Taken) → Networks R l device proxy s cs → IsFirst l t o i p m → slice_get cs a ≡ Some c
    → c.event ≡ heard u proxy d k → Spells m d → (t ≤ u) × (u ≤ t + LONGEST_SENDING + LONGEST_WAY)
arrives R l device proxy p s cs t o i a u m c d k n f e comes spelled =
    let brought = all-at (λ (c : Call). IsBrought l device proxy c.event) cs a c n.brought e in
    elim ((subst (λ (v : Event). IsBrought l device proxy v) comes brought) refl) [
      | inl by ↦
          let sends : SendsMessage l by.number by.moment device m =
          record { bytes = d; timeout = by.timeout; note = by.note; stands = by.stands; spelled = spelled } in
          let within = sent-within l t o i by.number by.moment p device m n.legal n.punctual f sends in
          let low = within.0 in
          let high = within.1 in
          let after = by.after in
          let way = by.within in
          (omega (arith, low, after), omega (arith, high, way))
      | inr other ↦ absurd (other t o i p m m f (message_again m d spelled) refl)
    ]

executed-of : (R : Relation) (proxy : Peer) (m : Content) (c : Call) → (x : Executes proxy m c) → Steps R c.event c.before c.after
    → Executed R x.moment proxy m.mid c.before c.after
executed-of R proxy m c x step = record {
  datagram = x.datagram;
  message = m;
  reads = message_again m x.datagram x.spelled;
  mid_is = refl;
  taken = x.taken;
  hears = subst (λ (v : Event). Steps R v c.before c.after) x.comes step;
}

not-twice : (R : Relation) (l : List Noted) (device proxy p : Peer) (s : Device) (cs : List Call) (t o i a b : ℕ) (m : Content) (x y : Call)
    → Networks R l device proxy s cs → IsFirst l t o i p m → slice_get cs a ≡ Some x → slice_get cs b ≡ Some y
    → Executes proxy m x → Executes proxy m y → a < b → ⊥
not-twice R l device proxy p s cs t o i a b m x y n f e g first second lt =
    let between = runs-between R cs s 0 second.moment a b x y n.follow n.timed e g (hears-at proxy m y second) lt in
    let later = timed-between cs 0 first.moment second.moment a b x y n.timed e g (hears-at proxy m x first) (hears-at proxy m y second) lt in
    let one = (arrives R l device proxy p s cs t o i a first.moment m x first.datagram (Some first.taken) n f e first.comes first.spelled).0 in
    let two = (arrives R l device proxy p s cs t o i b second.moment m y second.datagram (Some second.taken) n f g second.comes second.spelled).1 in
    executed_once R between.events x.before x.after y.before y.after first.moment second.moment proxy m.mid
    (executed-of R proxy m x first (step-at R cs s a x n.follow e)) between.runs between.by (omega (arith, one, two))
    (executed-of R proxy m y second (step-at R cs s b y n.follow g))

pub messages-once : (R : Relation) (l : List Noted) (device proxy p : Peer) (s : Device) (cs : List Call) (t o i a b : ℕ) (m : Content) (x y : Call)
    → Networks R l device proxy s cs → IsFirst l t o i p m → slice_get cs a ≡ Some x → slice_get cs b ≡ Some y
    → Executes proxy m x → Executes proxy m y → a ≡ b
messages-once R l device proxy p s cs t o i a b m x y n f e g first second =
    in-one-place a b (not-twice R l device proxy p s cs t o i a b m x y n f e g first second)
    (not-twice R l device proxy p s cs t o i b a m y x n f g e second first)
