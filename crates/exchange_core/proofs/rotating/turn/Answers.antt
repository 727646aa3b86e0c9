use Rattle.std.proofs.Common.{List, map, ap, sym, ◌∙◌}
use Rattle.journal_book.specs.Entries.{Written}
use Rattle.journal_book.specs.Journals.{JournalValue}
use Rattle.journal_copies.specs.Copying.{peers_in}
use Rattle.exchange_model.specs.Rotating.{pair_at, taken}
use Rattle.exchange_core.specs.States.{state_of}
use Rattle.exchange_core.proofs.Turning.{links-kept, state-turned}
use Rattle.exchange_core.proofs.rotating.turn.Goals as goal

pub returns-clause-state : goal.returns-clause-state
returns-clause-state g c =
    let ws : List Written = c.replace.new.dest.entries in
    let after = c.replace.ensures.after in
    state-turned c.args.moment (state_of c.args.s.now) ws c.replace.new.dest.given c.replace.new.dest.kept c.clear.new.self.items c.new.result.exchanges c.new-2.result.pieces c.new-3.result.stales c.new-4.result.items c.new-5.result.standing c.args.store.pairs c.keep.new.self.links
    (ap (λ (j : JournalValue). j.entries) after ∙ c.requires.copied)
    (ap (λ (j : JournalValue). j.given) after ∙ c.requires.counted.given)
    (ap (λ (j : JournalValue). j.kept) after ∙ c.requires.counted.kept) c.clear.ensures.items c.new.ensures c.new-2.ensures c.new-3.ensures c.new-4.ensures c.new-5.ensures
    (c.requires.stored ∙ ap (λ (j : JournalValue). map (pair_at j.entries) (taken c.args.moment (state_of c.args.s.now))) (sym after))
    (links-kept c.args.moment c.args.next.peers.items ws c.args.s.now.endpoints.links c.keep.new.self.links c.args.keeping
    (c.requires.counted.peers ∙ ap (λ (j : JournalValue). peers_in j.entries) (sym after)) c.requires.keeping c.keep.ensures)
