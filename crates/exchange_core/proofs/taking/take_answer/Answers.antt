use Rattle.std.proofs.Common.{◌≡◌, ◌≢◌, Some, List, map, not, rules, eqb, refl, sym, ap, ◌∙◌, arith}
use Rattle.std.specs.Prelude.{option_map}
use Rattle.std.specs.List.{All, filter, slice_get}
use Rattle.std.proofs.lemmas.Fn.{filter_same}
use Rattle.exchange_core.specs.declared.answer.Answer.{Answer}
use Rattle.exchange_core.specs.Answering.{Given, given_of}
use Rattle.exchange_core.proofs.Takes.{place-below, key-is, there, left, map-filter, none-taken, none-of}
use Rattle.exchange_core.proofs.taking.take_answer.Goals as goal

pub returns-in_default-clause-none : goal.returns-in_default-clause-none
returns-in_default-clause-none g c =
    let none : All (λ (a : Answer g.row.R.Denot). a.ask ≢ c.args.ask) c.args.answers.now.items = rw (c.deref.ensures.value) at (c.in_default.ensures.none refl) in
    (λ e. none-of given_of (λ (x : Given). x.ask) c.args.answers.now.items c.args.ask none)

pub returns-in_default-clause-others : goal.returns-in_default-clause-others
returns-in_default-clause-others g c =
    let none : All (λ (a : Answer g.row.R.Denot). a.ask ≢ c.args.ask) c.args.answers.now.items = rw (c.deref.ensures.value) at (c.in_default.ensures.none refl) in
    (sym (none-taken (λ (x : Given). x.ask) _ c.args.ask (none-of given_of (λ (x : Given). x.ask) c.args.answers.now.items c.args.ask none)))

pub remove-answer-requires : goal.remove-answer-requires
remove-answer-requires g c =
    let at_it : option_map (λ (a : Answer g.row.R.Denot). a.ask) (slice_get c.args.answers.now.items c.in-Some.place) ≡ Some c.args.ask =
    rw (c.deref.ensures.value) at c.in-Some.ensures.some in
    let below = place-below (λ (a : Answer g.row.R.Denot). a.ask) c.args.answers.now.items c.in-Some.place c.args.ask at_it in
    omega (arith, below, c.args.answers.now.ok.0)

pub returns-clause-some : goal.returns-clause-some
returns-clause-some g c =
    let at_it : option_map (λ (a : Answer g.row.R.Denot). a.ask) (slice_get c.args.answers.now.items c.in-Some.place) ≡ Some c.args.ask =
    rw (c.deref.ensures.value) at c.in-Some.ensures.some in
    let below = place-below (λ (a : Answer g.row.R.Denot). a.ask) c.args.answers.now.items c.in-Some.place c.args.ask at_it in (
      rw (c.remove-answer.ensures.value) (key-is (λ (a : Answer g.row.R.Denot). a.ask) c.args.answers.now.items c.in-Some.place c.args.ask c.remove-answer.result at_it),
      there given_of c.args.answers.now.items c.in-Some.place c.remove-answer.result below c.remove-answer.ensures.value,
    )

pub returns-clause-others : goal.returns-clause-others
returns-clause-others g c =
    let at_it : option_map (λ (a : Answer g.row.R.Denot). a.ask) (slice_get c.args.answers.now.items c.in-Some.place) ≡ Some c.args.ask =
    rw (c.deref.ensures.value) at c.in-Some.ensures.some in
    let kept = filter_same _ (λ (a : Answer g.row.R.Denot). not (eqb a.ask c.args.ask)) _ (λ x b f' k. search rules) _ _ c.retain.ensures.filtered in
    let others = ap (λ (xs : List (Answer g.row.R.Denot)). filter (λ (a : Answer g.row.R.Denot). not (eqb a.ask c.args.ask)) xs) c.remove-answer.ensures.items
    ∙ left (λ (a : Answer g.row.R.Denot). a.ask) c.args.answers.now.items c.in-Some.place c.args.ask at_it in
    (ap (λ (xs : List (Answer g.row.R.Denot)). map given_of xs) (kept ∙ others) ∙ map-filter given_of (λ (x : Given). x.ask) c.args.answers.now.items c.args.ask)
