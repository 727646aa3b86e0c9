use Rattle.std.proofs.Common.{◌≡◌, ℕ, List, ◌++◌, map, sym, ap, subst, ◌∙◌}
use Rattle.exchange_model.specs.declared.kept.Exchange.{Exchange}
use Rattle.exchange_model.specs.State.{State}
use Rattle.exchange_model.specs.Entering.{all_deeds, all_going, gone_tokens, token_of}
use Rattle.exchange_model.specs.Hearing.{is_gone, timed_out, expires}
use Rattle.endpoint_table.specs.Turns.{turns_deeds, turns_going}
use Rattle.exchange_model.specs.Watching.{tokens_of}
use Rattle.exchange_core.specs.States.{state_of}
use Rattle.exchange_core.specs.Watching.{is_unwatched_by}
use Rattle.std.specs.List.{AllByRecursion}
use Rattle.history_laws.proofs.CallerLemmas.{all-filter}
use Rattle.exchange_table.specs.Asks.{IsAskedHere}
use Rattle.exchange_core.proofs.Read.{asks-here}
use Rattle.exchange_core.proofs.passing.prepare.Goals as goal

-- The tokens of the exchanges that end come first, and then those of what is observed no more.
pub returns-clause-gone : goal.returns-clause-gone
returns-clause-gone g c =
    let t = c.args.moment in
    let S : State = state_of c.args.s.now in
    let U : State = state_of c.find_over.new.s in
    let same : U ≡ S = c.in_ok-over.ensures.same.state in
    let over : c.deref.result.now ≡ timed_out t S = c.deref.ensures.value ∙ c.in_ok-over.ensures.over in
    let again : c.deref-2.result.now ≡ timed_out t S = c.deref-2.ensures.value ∙ c.in_ok-over.ensures.over in
    c.in_ok-add_unwatched.ensures
    ∙ ap (λ (ts : List (List ℕ)). ts ++ tokens_of (is_unwatched_by t U.entries c.deref-2.result.now) U.watches)
    (c.in_ok-gone.ensures ∙ ap (map token_of) over)
    ∙ ap (λ (es : List Exchange). map token_of (timed_out t S) ++ tokens_of (is_unwatched_by t U.entries es) U.watches) again
    ∙ ap (λ (V : State). map token_of (timed_out t S) ++ tokens_of (is_unwatched_by t V.entries (timed_out t S)) V.watches) same

-- The same at the state after the sorting, which is the same one.
pub prepare_links-requires-clause-gone : goal.prepare_links-requires-clause-gone
prepare_links-requires-clause-gone g c =
    let t = c.args.moment in
    let S : State = state_of c.args.s.now in
    let U : State = state_of c.find_over.new.s in
    let same : U ≡ S = c.in_ok-over.ensures.same.state in
    let over : c.deref.result.now ≡ timed_out t S = c.deref.ensures.value ∙ c.in_ok-over.ensures.over in
    let again : c.deref-2.result.now ≡ timed_out t S = c.deref-2.ensures.value ∙ c.in_ok-over.ensures.over in
    c.deref-3.ensures.value
    ∙ (c.in_ok-add_unwatched.ensures
    ∙ ap (λ (ts : List (List ℕ)). ts ++ tokens_of (is_unwatched_by t U.entries c.deref-2.result.now) U.watches)
    (c.in_ok-gone.ensures ∙ ap (map token_of) over)
    ∙ ap (λ (es : List Exchange). map token_of (timed_out t S) ++ tokens_of (is_unwatched_by t U.entries es) U.watches) again
    ∙ ap (λ (V : State). map token_of (timed_out t S) ++ tokens_of (is_unwatched_by t V.entries (timed_out t S)) V.watches) same
    ∙ ap (gone_tokens t) (sym same))

pub returns-clause-deeds : goal.returns-clause-deeds
returns-clause-deeds g c =
    let t = c.args.moment in
    subst (λ (S : State). turns_deeds c.in_ok-turns.turns.items ≡ all_deeds t (is_gone t S) S.links)
    c.in_ok-over.ensures.same.state c.in_ok-turns.ensures.deeds

pub returns-clause-going : goal.returns-clause-going
returns-clause-going g c =
    let t = c.args.moment in
    subst (λ (S : State). (n : ℕ) → turns_going n c.in_ok-turns.turns.items ≡ all_going t (is_gone t S) n S.links)
    c.in_ok-over.ensures.same.state c.in_ok-turns.ensures.going

pub add_unwatched-requires : goal.add_unwatched-requires
add_unwatched-requires g c =
    let t = c.args.moment in
    let S : State = state_of c.args.s.now in
    let U : State = state_of c.find_over.new.s in
    let same : U ≡ S = c.in_ok-over.ensures.same.state in
    let again : c.deref-2.result.now ≡ timed_out t S = c.deref-2.ensures.value ∙ c.in_ok-over.ensures.over in
    subst (AllByRecursion (IsAskedHere U.given U.kept)) (sym again)
    (subst (λ (V : State). AllByRecursion (IsAskedHere V.given V.kept) (timed_out t S)) (sym same)
    (all-filter (IsAskedHere S.given S.kept) (expires t S.links) S.exchanges (asks-here S c.requires.sound.kept.here)))
