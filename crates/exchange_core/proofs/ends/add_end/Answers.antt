use Rattle.std.proofs.Common.{◌≡◌, List, sym, ap, subst, ◌∙◌}
use Rattle.resp_cache.specs.declared.pair.Pair.{Pair}
use Rattle.exchange_model.specs.State.{State}
use Rattle.exchange_core.specs.declared.matter.Matter.TheVariants as M
use Rattle.exchange_core.specs.Hearing.{tables_after}
use Rattle.exchange_core.specs.Judged.{EndsAlone}
use Rattle.exchange_core.specs.States.{state_of, with_draft}
use Rattle.exchange_core.specs.Storing.{put_in}
use Rattle.exchange_core.proofs.ends.add_end.Goals as goal

pub returns-clause-state : goal.returns-clause-state
returns-clause-state g c = λ x ended k is.
    let t = c.args.moment in
    let e = c.args.exchange.now in
    let made : State = state_of c.make_places.new.s in
    let same : record made { store = c.make_room_for.new.store.pairs } ≡ state_of c.args.s.now =
    ap (λ (ps : List Pair). record made { store = ps }) c.make_room_for.ensures.pairs ∙ c.make_places.ensures.same.state in
    c.commit.ensures.state
    ∙ ap (λ (V : State). with_draft t c.args.draft.now V)
    (c.change_tables.ensures.state x ended (subst (EndsAlone e ended x) (sym same) k) (subst (λ (V : State). c.args.put ≡ put_in V.entries t x.matter) (sym same) is)
    ∙ ap (λ (V : State). tables_after t c.args.peer c.args.heeding (M.Over e ended) x V) same)
