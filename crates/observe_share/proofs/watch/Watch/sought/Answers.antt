use Rattle.std.proofs.Common.{◌≡◌, List, false, sym, ap, ◌∙◌}
use Rattle.std.specs.Prelude.{Bool}
use Rattle.cache_key.specs.Digests.{rank_of}
use Rattle.cache_key.specs.Keys.{key_of}
use Rattle.observe_share.specs.Hints.{is_hinted}
use Rattle.observe_share.proofs.Hinted.{unhinted}
use Rattle.observe_share.proofs.watch.Watch.sought.Goals as goal

pub returns-else-is_hinted-clause-none : goal.returns-else-is_hinted-clause-none
returns-else-is_hinted-clause-none c = λ none.
    let key = key_of c.args.reading.now.peer c.args.reading.now.target.now c.args.reading.now.accept in
    let hints = c.self.inside.hints.items in
    let rank : c.rank.result ≡ rank_of key = c.rank.ensures ∙ ap rank_of c.of-lookup.ensures in
    let unset : is_hinted hints (rank_of key) ≡ false =
    ap (λ (hs : List Bool). is_hinted hs (rank_of key)) (sym c.deref.ensures.value) ∙ ap (is_hinted c.deref.result.now) (sym rank)
    ∙ sym c.is_hinted.ensures ∙ c.if-is_hinted.false in
    rw (← c.self.view_is) (unhinted hints key c.self.inside.standing.items c.self.invariant.hinted unset)
