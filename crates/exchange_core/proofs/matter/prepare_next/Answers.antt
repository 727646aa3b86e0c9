-- Where the link takes the message there is a place for it.
use Rattle.std.proofs.Common.{◌≡◌, ℕ, true, false, refl, rules, arith}
use Rattle.std.proofs.lemmas.Grind.{common_steps}
use Rattle.std.proofs.lemmas.Bool.Decides.{nat_tests}
use Rattle.uri_map.specs.declared.peer.Peer.{Peer}
use Rattle.message_layer.specs.Prepared.{heeded}
use Rattle.message_layer.specs.Sending.{HasPlace, IsRefused}
use Rattle.message_layer.specs.declared.fault.LinkFault.{LinkFault}
use Rattle.message_layer.specs.declared.fault.LinkFault.TheVariants as F
use Rattle.message_layer.specs.declared.prepared.Heeding.{Heeding}
use Rattle.exchange_model.specs.Matters.{has_next_place}
use Rattle.exchange_model.specs.State.{State, link_of}
use Rattle.exchange_core.specs.States.{state_of}
use Rattle.exchange_core.proofs.matter.prepare_next.Goals as goal

place-free : (t : ℕ) (p : Peer) (x : Heeding) (S : State) → HasPlace t (heeded t x (link_of S.links p))
    → true ≡ has_next_place t p x.verdict S
place-free t p x S h = first_of (search rules, grind (arith, common_steps))

place-taken : (t : ℕ) (p : Peer) (x : Heeding) (S : State) (e : LinkFault) → (e ≡ F.Memory → ⊥)
    → IsRefused t (heeded t x (link_of S.links p)) e → false ≡ has_next_place t p x.verdict S
place-taken t p x S F.Queue not h = first_of (search rules, grind (arith, common_steps))
place-taken t p x S F.Numbers not h = first_of (search rules, grind (arith, common_steps))
place-taken t p x S F.Memory not h = absurd (not refl)

pub returns-in-Ok-clause-place : goal.returns-in-Ok-clause-place
returns-in-Ok-clause-place g c =
    place-free c.args.moment c.args.peer.now c.args.heeding.now (state_of c.args.s.now) c.in-Ok.ensures.fault

pub returns : goal.returns
returns g c = record {
  next = λ q e. tt;
  place = place-taken c.args.moment c.args.peer.now c.args.heeding.now (state_of c.args.s.now) c.in-Err.field-0
      (first_of (search rules, grind (arith, common_steps))) c.in-Err.ensures.fault;
}
