-- What a message is, read backwards from how it is taken: a request, or one that is remembered.
use Rattle.std.proofs.Common.{◌≡◌, ℕ, List, Contains, Option, Some, None, Bool, true, false, not, cond, ◌==◌, ◌||◌, refl}
use Rattle.std.specs.List.{find}
use Rattle.std.proofs.lemmas.Bool.{and_parts}
use Rattle.uri_map.specs.declared.peer.Peer.{Peer}
use Rattle.coap_codec.specs.Spelling.{Content}
use Rattle.coap_codec.specs.declared.message.MsgType.{MsgType}
use Rattle.coap_codec.specs.declared.message.MsgType.TheVariants.{Con, Non, Ack, Rst}
use Rattle.demo_origin.specs.Values.{Device}
use Rattle.uri_map.specs.Peers.{same_peer}
use Rattle.uri_map.proofs.CallerLemmas.{same_peer-same}
use Rattle.demo_origin.specs.Arrivals.{is_live, is_repeat, is_full, is_request, heard_again, heard_first, arrived, is_heeded, arrival_by}
use Rattle.demo_origin.specs.declared.state.Remembered.{Remembered}
use Rattle.demo_origin.specs.declared.arrival.Arrival.TheVariants.{Ignored, Empty, Rejected, Repeated, Fresh, Acknowledged, Reset}
use Rattle.demo_origin.proofs.Again.{found_is}
use Rattle.demo_origin.proofs.First.{again_is_old}

-- a request
is_asked : (c : Bool) (code : ℕ) (o : Option Remembered) (full : Bool)
    → arrived c code o full ≡ Fresh → is_request code ≡ true
is_asked c code (Some r) full e = absurd (again_is_old c r.answer e)
is_asked c code None true e = absurd cc
is_asked c code None false e =
    let P : Bool → Type 0 = λ b. cond b Fresh (cond (c || not (code == 0)) Rejected Empty) ≡ Fresh
    → b ≡ true in
    let Q : Bool → Type 0 = λ b. cond b Rejected Empty ≡ Fresh → ⊥ in
    let no : (b : Bool) → Q b = λ b. elim b as Q [ true ↦ λ f. cc | false ↦ λ f. cc ] in
    let each : (b : Bool) → P b = λ b. elim b as P [
      | true ↦ λ f. refl
      | false ↦ λ f. absurd (no (c || not (code == 0)) f)
    ] in
    each (is_request code) e

pub asked_for : (kind : MsgType) (t : ℕ) (p : Peer) (m : Content) (s : Device)
    → arrival_by kind t p m s ≡ Fresh → is_request m.code ≡ true
asked_for Con t p m s e =
    is_asked true m.code (find (is_repeat t p m.mid) s.remembered) (is_full t p s) e
asked_for Non t p m s e =
    is_asked false m.code (find (is_repeat t p m.mid) s.remembered) (is_full t p s) e
asked_for Ack t p m s e =
    let P : Bool → Type 0 = λ b. cond b Acknowledged Ignored ≡ Fresh → is_request m.code ≡ true in
    let each : (b : Bool) → P b =
    λ b. elim b as P [ true ↦ λ f. absurd cc | false ↦ λ f. absurd cc ] in
    each (is_heeded p m s) e
asked_for Rst t p m s e =
    let P : Bool → Type 0 = λ b. cond b Reset Ignored ≡ Fresh → is_request m.code ≡ true in
    let each : (b : Bool) → P b =
    λ b. elim b as P [ true ↦ λ f. absurd cc | false ↦ λ f. absurd cc ] in
    each (is_heeded p m s) e

-- one that is remembered, with that answer
pub record Knew (t : ℕ) (p : Peer) (m : Content) (s : Device) (answer : List ℕ) : Type 0 where
  pub one : Remembered
  pub among : Contains s.remembered one
  pub same : one.peer ≡ p
  pub answer_is : one.answer ≡ Some answer

again : (c : Bool) (answer : Option (List ℕ)) (bytes : List ℕ)
    → heard_again c answer ≡ Repeated bytes → answer ≡ Some bytes
again true (Some x) bytes e = cc
again true None bytes e = absurd cc
again false (Some x) bytes e = absurd cc
again false None bytes e = absurd cc

first_is_new : (c : Bool) (code : ℕ) (full : Bool) (bytes : List ℕ)
    → cond full Ignored (heard_first c code) ≡ Repeated bytes → ⊥
first_is_new c code true bytes e = cc
first_is_new c code false bytes e =
    let P : Bool → Type 0 = λ b.
    cond b Fresh (cond (c || not (code == 0)) Rejected Empty) ≡ Repeated bytes → ⊥ in
    let Q : Bool → Type 0 = λ b. cond b Rejected Empty ≡ Repeated bytes → ⊥ in
    let no : (b : Bool) → Q b = λ b. elim b as Q [ true ↦ λ f. cc | false ↦ λ f. cc ] in
    let each : (b : Bool) → P b =
    λ b. elim b as P [ true ↦ λ f. cc | false ↦ λ f. no (c || not (code == 0)) f ] in
    each (is_request code) e

knew : (c : Bool) (t : ℕ) (p : Peer) (m : Content) (s : Device) (bytes : List ℕ)
    (o : Option Remembered) → find (is_repeat t p m.mid) s.remembered ≡ o
    → arrived c m.code o (is_full t p s) ≡ Repeated bytes → Knew t p m s bytes
knew c t p m s bytes (Some r) e f =
    let found = found_is (is_repeat t p m.mid) s.remembered r e in
    let a = and_parts (r.mid == m.mid) _ found.1 in
    let b = and_parts (same_peer r.peer p) (is_live t r) a.1 in
    record {
      one = r;
      among = found.0;
      same = same_peer-same r.peer p b.0;
      answer_is = again c r.answer bytes f;
    }
knew c t p m s bytes None e f = absurd (first_is_new c m.code (is_full t p s) bytes f)

pub knows : (kind : MsgType) (t : ℕ) (p : Peer) (m : Content) (s : Device) (bytes : List ℕ)
    → arrival_by kind t p m s ≡ Repeated bytes → Knew t p m s bytes
knows Con t p m s bytes e =
    knew true t p m s bytes (find (is_repeat t p m.mid) s.remembered) refl e
knows Non t p m s bytes e =
    knew false t p m s bytes (find (is_repeat t p m.mid) s.remembered) refl e
knows Ack t p m s bytes e =
    let P : Bool → Type 0 = λ b.
    cond b Acknowledged Ignored ≡ Repeated bytes → Knew t p m s bytes in
    let each : (b : Bool) → P b =
    λ b. elim b as P [ true ↦ λ f. absurd cc | false ↦ λ f. absurd cc ] in
    each (is_heeded p m s) e
knows Rst t p m s bytes e =
    let P : Bool → Type 0 = λ b. cond b Reset Ignored ≡ Repeated bytes → Knew t p m s bytes in
    let each : (b : Bool) → P b =
    λ b. elim b as P [ true ↦ λ f. absurd cc | false ↦ λ f. absurd cc ] in
    each (is_heeded p m s) e
