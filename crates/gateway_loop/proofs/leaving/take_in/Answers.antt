-- It is taken at once, or tried once more after all that may leave memory did.
use Rattle.std.proofs.Common.{ap, sym, subst, ◌∙◌}
use Rattle.gateway_model.specs.Emissions.{emissions}
use Rattle.gateway_world.specs.Worlds.{WorldValue, memory_of, with_memory}
use Rattle.transformers.specs.Suits.{Suits}
use Rattle.gateway_loop.proofs.Remembering.{all-three, tried-again}
use Rattle.gateway_loop.proofs.Stepping.{counted, quiet-fits, refused, taken}
use Rattle.gateway_loop.proofs.leaving.take_in.Goals as goal

pub advance-requires-clause-room : goal.advance-requires-clause-room
advance-requires-clause-room g c = quiet-fits c.args.input.happening c.args.world c.requires.brings

pub returns-in-Taken : goal.returns-in-Taken
returns-in-Taken g c = record {
  tried = record {
    memory = memory_of c.args.world;
    takes = taken _ _ c.in-Taken.is c.in_ok-world.ensures.takes;
    stays = λ h. absurd h;
    opened = counted _ _ _ _ _ c.in-Taken.is c.in_ok-world.ensures.opened;
  };
}

pub advance-requires-in-Refused : goal.advance-requires-in-Refused
advance-requires-in-Refused g c =
    let same = (refused _ c.in-Refused.is c.in_ok-world.ensures.stays).0 in
    let is = c.let_all_go.ensures.1 ∙ ap (with_memory c.let_all_go.ensures.0) same in
    record {
      suits = subst (λ (w : WorldValue). Suits g.R.Relation.holds g.R.Relation.takes w.rules.routes c.args.bank.now) (sym is) c.requires.suits;
      room = quiet-fits c.args.input.happening c.let_all_go.new.world c.requires.brings;
    }

pub returns-in-Refused : goal.returns-in-Refused
returns-in-Refused g c =
    let same = (refused _ c.in-Refused.is c.in_ok-world.ensures.stays).0 in
    let is = c.let_all_go.ensures.1 ∙ ap (with_memory c.let_all_go.ensures.0) same in
    record {
      tried = all-three c.advance-in-Refused.result _ _ _ _ c.advance-in-Refused.ensures.takes c.advance-in-Refused.ensures.stays
          c.advance-in-Refused.ensures.opened (λ a t s o.
          tried-again g.R.Relation.holds g.R.Relation.takes c.args.input (emissions c.advance-in-Refused.new.outputs.items)
          a.step c.let_all_go.ensures.0 c.args.world c.let_all_go.new.world a.world is t s o);
    }
