use Rattle.std.proofs.Common.{List, ap, ◌∙◌}
use Rattle.demo_origin.specs.Values.{Device, seen}
use Rattle.demo_origin.specs.declared.state.Held.{Held}
use Rattle.demo_origin.proofs.Restoring.{put_back}
use Rattle.demo_origin.proofs.execution.execute.Goals as goal

pub returns-in-Err-clause-err : goal.returns-in-Err-clause-err
returns-in-Err-clause-err c =
    let old = c.args.s.now.resources.items in
    let same = c.in-Err.ensures.err in
    let back = put_back old c.answer_and_tell.new.s.resources.items c.args.place
    c.is_change-changed.result c.args.outcome.after _ _ _ _ _ _ c.requires.place
    c.index_mut.ensures.value c.change-before.ensures.new
    (ap (λ (d : Device). d.resources) same) c.index_mut-in-Err.ensures.value
    c.change-before.ensures.state c.change-before.ensures.version c.restore.ensures in
    ap (λ (rs : List Held). record (seen c.answer_and_tell.new.s) { resources = rs }) back
    ∙ ap (λ (d : Device). record d { resources = old }) same
