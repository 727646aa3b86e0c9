use Rattle.std.proofs.Common.{◌≡◌, ℕ, ◌<◌, List, Option, length, sym, ap, subst, ◌∙◌, arith}
use Rattle.std.specs.Prelude.{remove}
use Rattle.endpoint_table.specs.declared.dues.Due.{Due}
use Rattle.endpoint_table.specs.Dues.{Ordered, inserted, put, removed}
use Rattle.endpoint_table.proofs.dues.remove_due.Goals as goal

pub place_due-at-requires : goal.place_due-at-requires
place_due-at-requires c = subst Ordered (sym c.as_slice.ensures.value) c.requires.ordered

pub remove-requires : goal.remove-requires
remove-requires c =
    let ds = c.args.dues.now.items in
    let p = c.args.place in
    let was : ds ≡ inserted (record { due = c.in-Some.moment; place = p }) (removed p ds) =
    c.requires.was ∙ ap (λ (t : Option ℕ). put p t (removed p ds)) c.in-Some.is in
    let lt : c.place_due-at.result < length ds =
    subst (λ (es : List Due). c.place_due-at.result < length es) c.as_slice.ensures.value
    (c.place_due-at.ensures.stands (removed p ds) (c.as_slice.ensures.value ∙ was)).0 in
    let n = c.args.dues.now.ok.0 in
    omega (arith, lt, n)

pub returns-in-Some-clause-items : goal.returns-in-Some-clause-items
returns-in-Some-clause-items c =
    let ds = c.args.dues.now.items in
    let p = c.args.place in
    let was : ds ≡ inserted (record { due = c.in-Some.moment; place = p }) (removed p ds) =
    c.requires.was ∙ ap (λ (t : Option ℕ). put p t (removed p ds)) c.in-Some.is in
    c.remove.ensures.items
    ∙ subst (λ (es : List Due). remove es c.place_due-at.result ≡ removed p ds) c.as_slice.ensures.value
    (c.place_due-at.ensures.stands (removed p ds) (c.as_slice.ensures.value ∙ was)).1
