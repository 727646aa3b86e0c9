-- All notes stand, and in order.
use Rattle.std.proofs.Common.{subst}
use Rattle.std.specs.List.{All}
use Rattle.gateway_desk.specs.Settled.{HasLine, AreInOrder}
use Rattle.gateway_desk.proofs.standing.stranger.Goals as goal

pub returns-in-None-clause-none : goal.returns-in-None-clause-none
returns-in-None-clause-none g c e =
    let h = c.args.journal.now.entries in record {
      has = subst (λ n. All (HasLine h n) c.args.pass.now.lines) c.conn.ensures
          (subst (All (HasLine h c.conn.result)) c.notes.ensures.lines (c.in_ok-number.ensures.none c.in-None.is));
      order = subst AreInOrder c.notes-in-None.ensures.lines (c.early.ensures.none e);
    }
