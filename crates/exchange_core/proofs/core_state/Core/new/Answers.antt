use Rattle.std.proofs.Common.{List, map, ap, ◌∙◌}
use Rattle.exchange_core.specs.declared.answer.Answer.{Answer}
use Rattle.exchange_core.specs.Answering.{given_of}
use Rattle.exchange_core.proofs.Sounding.{sound-start}
use Rattle.exchange_core.proofs.core_state.Core.new.Goals as goal

pub invariant_of-result : goal.invariant_of-result
invariant_of-result g c =
    sound-start _ _ _ _ _ _ _ _ _ _ _ _ _ (c.make_room.ensures.same ∙ c.new-journal.ensures.entries)
    (c.make_room.ensures.given ∙ c.new-journal.ensures.given) (c.make_room.ensures.kept ∙ c.new-journal.ensures.kept) c.new-2.ensures.items c.new-3.ensures
    c.new-4.ensures c.new-5.ensures c.new-6.ensures c.new-7.ensures c.new-8.ensures c.in_ok-endpoints.ensures
    (ap (λ (xs : List (Answer g.row.R.Denot)). map given_of xs) c.new-9.ensures.items) c.in_ok-make_room.ensures.ok
