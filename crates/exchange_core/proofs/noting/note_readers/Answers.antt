use Rattle.std.proofs.Common.{List, not, eqb, sym, subst}
use Rattle.exchange_model.specs.declared.kept.Reader.{Reader}
use Rattle.exchange_table.specs.Places.{RiseBy}
use Rattle.exchange_table.specs.Readers.{ask_in}
use Rattle.exchange_table.proofs.CallerLemmas.{rise-filter}
use Rattle.exchange_core.proofs.noting.note_readers.Goals as goal

pub returns-in-Answered-clause-ordered : goal.returns-in-Answered-clause-ordered
returns-in-Answered-clause-ordered g c =
    subst (λ (rs : List Reader). RiseBy ask_in rs) (sym c.drop_ask.ensures.items)
    (rise-filter ask_in (λ (r : Reader). not (eqb r.ask c.in-Answered.ask)) c.args.readers.now.items c.requires.ordered)
