use Rattle.std.proofs.Common.{sym, ◌∙◌}
use Rattle.message_layer.proofs.Rising.{free-unused, unused-free}
use Rattle.message_layer.proofs.mids.has_free_first.Goals as goal

pub returns : goal.returns
returns c = (
  λ unused. free-unused c.args.moment c.args.waiting c.args.moments.now.items c.requires.few (sym c.has_unused_first.ensures ∙ unused),
  λ free. c.has_unused_first.ensures ∙ unused-free c.args.moment c.args.waiting c.args.moments.now.items c.requires.rising c.requires.many free,
)
