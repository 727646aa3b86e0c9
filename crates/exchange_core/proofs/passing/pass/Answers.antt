use Rattle.std.proofs.Common.{◌≡◌, ℕ, ◌+◌, List, length, map, refl, sym, ap, ◌∙◌, arith, subst}
use Rattle.std.specs.Prelude.{filter}
use Rattle.observe_share.specs.declared.registration.Registration.{Registration}
use Rattle.observe_share.specs.Watches.{without}
use Rattle.resp_cache.specs.declared.pair.Pair.{Pair}
use Rattle.message_layer.specs.Calls.{is_among}
use Rattle.exchange_model.specs.declared.kept.Exchange.{Exchange}
use Rattle.exchange_model.specs.declared.kept.Piece.{Piece}
use Rattle.exchange_model.specs.declared.kept.Stale.{Stale}
use Rattle.exchange_model.specs.State.{PeerLink, State}
use Rattle.exchange_model.specs.Entering.{link_after, sent_as}
use Rattle.exchange_model.specs.Matters.{left_by}
use Rattle.exchange_model.specs.Hearing.{expires, goes_on, is_of_none, is_stale_of_none, retired}
use Rattle.endpoint_table.specs.Turns.{turns_going}
use Rattle.exchange_core.specs.States.{state_of, with_draft}
use Rattle.exchange_core.specs.Watching.{is_unwatched_by}
use Rattle.std.specs.List.{AllByRecursion}
use Rattle.history_laws.proofs.CallerLemmas.{all-filter}
use Rattle.exchange_table.specs.Asks.{IsAskedHere}
use Rattle.exchange_core.proofs.passing.pass.Goals as goal

-- what moves on, part by part
moved-by : (V : State) (es fs : List Exchange) (xs ys : List Piece) (zs us : List Stale) (rs ws : List Registration) (ps qs : List Pair) (ls ms : List PeerLink)
    → es ≡ fs → xs ≡ ys → zs ≡ us → rs ≡ ws → ps ≡ qs → ls ≡ ms
    → record V { exchanges = es; pieces = xs; stales = zs; watches = rs; store = ps; links = ls } ≡ record V { exchanges = fs; pieces = ys; stales = us; watches = ws; store = qs; links = ms }
moved-by V es fs xs ys zs us rs ws ps qs ls ms e x z r p l =
    ap (λ (v : List Exchange). record V { exchanges = v; pieces = xs; stales = zs; watches = rs; store = ps; links = ls }) e
    ∙ ap (λ (v : List Piece). record V { exchanges = fs; pieces = v; stales = zs; watches = rs; store = ps; links = ls }) x
    ∙ ap (λ (v : List Stale). record V { exchanges = fs; pieces = ys; stales = v; watches = rs; store = ps; links = ls }) z
    ∙ ap (λ (v : List Registration). record V { exchanges = fs; pieces = ys; stales = us; watches = v; store = ps; links = ls }) r
    ∙ ap (λ (v : List Pair). record V { exchanges = fs; pieces = ys; stales = us; watches = ws; store = v; links = ls }) p
    ∙ ap (λ (v : List PeerLink). record V { exchanges = fs; pieces = ys; stales = us; watches = ws; store = qs; links = v }) l

pub note_turns-requires : goal.note_turns-requires
note_turns-requires g c =
    let numbers = c.requires.numbers in
    let len = c.len.ensures in
    omega (arith, numbers, len)

pub returns-clause-state : goal.returns-clause-state
returns-clause-state g c =
    let t = c.args.moment in
    let S : State = state_of c.args.s.now in
    let p = c.args.passing in
    let left : c.end_all.new.exchanges.exchanges ≡ left_by S.entries p.over.items (filter (goes_on t S) S.exchanges) =
    c.end_all.ensures (expires t S.links) (c.deref-3.ensures.value ∙ c.requires.over)
    ∙ ap (λ (xs : List Exchange). left_by S.entries xs (filter (goes_on t S) S.exchanges)) c.deref-3.ensures.value in
    c.commit.ensures.state
    ∙ moved-by (with_draft t c.args.draft S) _ _ _ _ _ _ _ _ _ _ _ _
    (c.note_turns.ensures
    ∙ (ap (λ (n : ℕ). sent_as (turns_going (n + 1) p.turns.items) c.end_all.new.exchanges.exchanges) c.len.ensures
    ∙ ap (sent_as (turns_going (length S.entries + 1) p.turns.items)) left))
    (c.drop_all.ensures.pieces ∙ ap (λ (xs : List Exchange). filter (is_of_none xs) S.pieces) c.deref-5.ensures.value)
    (c.drop_all-2.ensures.stales ∙ ap (λ (xs : List Exchange). filter (is_stale_of_none xs) S.stales) c.deref-6.ensures.value)
    (c.drop_unwatched.ensures ∙ ap (λ (xs : List Exchange). without (is_unwatched_by t S.entries xs) S.watches) c.deref.ensures.value)
    (c.retire_all.ensures ∙ ap (λ (xs : List Exchange). retired S.entries xs S.store) c.deref-2.ensures.value)
    (c.tick.ensures ∙ ap (λ (xs : List (List ℕ)). map (link_after t (is_among xs)) S.links) c.deref-4.ensures.value)

pub drop_unwatched-requires : goal.drop_unwatched-requires
drop_unwatched-requires g c =
    let t = c.args.moment in
    let S : State = state_of c.args.s.now in
    subst (AllByRecursion (IsAskedHere S.given S.kept)) (sym (c.deref.ensures.value ∙ c.requires.over))
    (all-filter (IsAskedHere S.given S.kept) (expires t S.links) S.exchanges c.requires.here)

pub retire_all-requires : goal.retire_all-requires
retire_all-requires g c =
    let t = c.args.moment in
    let S : State = state_of c.args.s.now in
    subst (AllByRecursion (IsAskedHere S.given S.kept)) (sym (c.deref-2.ensures.value ∙ c.requires.over))
    (all-filter (IsAskedHere S.given S.kept) (expires t S.links) S.exchanges c.requires.here)

pub end_all-requires-clause-over : goal.end_all-requires-clause-over
end_all-requires-clause-over g c =
    let t = c.args.moment in
    let S : State = state_of c.args.s.now in
    subst (AllByRecursion (IsAskedHere S.given S.kept)) (sym (c.deref-3.ensures.value ∙ c.requires.over))
    (all-filter (IsAskedHere S.given S.kept) (expires t S.links) S.exchanges c.requires.here)
