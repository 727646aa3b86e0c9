use Rattle.std.proofs.Common.{refl, sym, ◌∙◌}
use Rattle.exchange_table.proofs.Joined.{joined-by, unread}
use Rattle.exchange_table.proofs.joining.joined.Goals as goal

pub marked-alike-requires : goal.marked-alike-requires
marked-alike-requires g c = c.requires.marked.order

pub returns-in_default : goal.returns-in_default
returns-in_default g c =
    sym (unread c.args.journal.now.entries c.args.mapped.now.sense c.args.rows.now (sym c.lookup.ensures ∙ c.in_default.is))

pub returns : goal.returns
returns g c =
    c.find_marked.ensures
    ∙ sym (joined-by c.args.journal.now.entries c.args.mapped.now.sense c.args.rows.now _ c.digest_of.result c.args.keys.now c.marked-alike.result.now _
    c.requires.ordered c.requires.marked c.requires.digested (sym c.lookup.ensures ∙ c.in-Some.is) c.digest_of.ensures c.marked-alike.ensures refl)
