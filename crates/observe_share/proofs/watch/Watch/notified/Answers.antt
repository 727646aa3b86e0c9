use Rattle.std.proofs.Common.{◌≡◌, Some, refl, sym, ap, ◌∙◌}
use Rattle.std.specs.Prelude.{slice_set}
use Rattle.std.specs.List.{position}
use Rattle.observe_share.specs.declared.registration.Registration.{Registration}
use Rattle.observe_share.specs.Watches.{is_under}
use Rattle.observe_share.proofs.First.{first_at}
use Rattle.observe_share.proofs.Hinted.{kept-renewed}
use Rattle.observe_share.proofs.Noticing.{unknown, older, update, ending, one_read}
use Rattle.observe_share.proofs.watch.Watch.notified.Goals as goal

pub returns-in_default-clause-watches : goal.returns-in_default-clause-watches
returns-in_default-clause-watches c =
    rw (← c.self.view_is) ((unknown c.args.token.now c.args.notice c.args.moment c.self.inside.standing.items (rw (← c.deref.ensures.value) (sym c.place_under.ensures ∙ c.in_default.is))).watches)

pub returns-in_default-clause-told : goal.returns-in_default-clause-told
returns-in_default-clause-told c =
    rw (← c.self.view_is) ((unknown c.args.token.now c.args.notice c.args.moment c.self.inside.standing.items (rw (← c.deref.ensures.value) (sym c.place_under.ensures ∙ c.in_default.is))).told)

pub returns-then-not-counts-clause-watches : goal.returns-then-not-counts-clause-watches
returns-then-not-counts-clause-watches c =
    let there : position (is_under c.args.token.now) c.self.inside.standing.items ≡ Some c.in-Some.place = rw (← c.deref.ensures.value) (sym c.place_under.ensures ∙ c.in-Some.is) in
    rw (← c.self.view_is) ((older c.args.token.now c.args.notice c.args.moment c.self.inside.standing.items c.in-Some.place c.index.result.now there c.index.ensures (sym c.counts.ensures ∙ c.if-not-counts.true)).watches)

pub returns-then-not-counts-clause-told : goal.returns-then-not-counts-clause-told
returns-then-not-counts-clause-told c =
    let there : position (is_under c.args.token.now) c.self.inside.standing.items ≡ Some c.in-Some.place = rw (← c.deref.ensures.value) (sym c.place_under.ensures ∙ c.in-Some.is) in
    rw (← c.self.view_is) ((older c.args.token.now c.args.notice c.args.moment c.self.inside.standing.items c.in-Some.place c.index.result.now there c.index.ensures (sym c.counts.ensures ∙ c.if-not-counts.true)).told)

pub returns-in-Update-clause-watches : goal.returns-in-Update-clause-watches
returns-in-Update-clause-watches c =
    let there : position (is_under c.args.token.now) c.self.inside.standing.items ≡ Some c.in-Some.place = rw (← c.deref.ensures.value) (sym c.place_under.ensures ∙ c.in-Some.is) in
    let same : c.index_mut.result.now ≡ c.index.result.now = one_read (is_under c.args.token.now) c.self.inside.standing.items c.in-Some.place _ _ there c.index_mut.ensures.value c.index.ensures in
    rw (← c.self.view_is, c.renew.ensures, same, c.in-Update.is) ((update c.args.token.now c.in-Update.version c.args.moment c.self.inside.standing.items c.in-Some.place c.index.result.now there c.index.ensures (rw c.in-Update.is at (sym c.counts.ensures ∙ c.if-not-counts.false))).watches)

pub returns-in-Update-clause-told : goal.returns-in-Update-clause-told
returns-in-Update-clause-told c =
    let there : position (is_under c.args.token.now) c.self.inside.standing.items ≡ Some c.in-Some.place = rw (← c.deref.ensures.value) (sym c.place_under.ensures ∙ c.in-Some.is) in
    rw (← c.self.view_is, c.in-Update.is) ((update c.args.token.now c.in-Update.version c.args.moment c.self.inside.standing.items c.in-Some.place c.index.result.now there c.index.ensures (rw c.in-Update.is at (sym c.counts.ensures ∙ c.if-not-counts.false))).told)

pub returns-in-Other-clause-watches : goal.returns-in-Other-clause-watches
returns-in-Other-clause-watches c =
    let there : position (is_under c.args.token.now) c.self.inside.standing.items ≡ Some c.in-Some.place = rw (← c.deref.ensures.value) (sym c.place_under.ensures ∙ c.in-Some.is) in
    rw (← c.self.view_is, c.remove-ended.ensures.items, c.in-Other.is) ((ending c.args.token.now c.in-Other.field-0 c.args.moment c.self.inside.standing.items c.in-Some.place c.index.result.now there c.index.ensures (rw c.in-Other.is at (sym c.counts.ensures ∙ c.if-not-counts.false))).watches)

pub returns-in-Other-clause-told : goal.returns-in-Other-clause-told
returns-in-Other-clause-told c =
    let there : position (is_under c.args.token.now) c.self.inside.standing.items ≡ Some c.in-Some.place = rw (← c.deref.ensures.value) (sym c.place_under.ensures ∙ c.in-Some.is) in
    let same : c.remove-ended.result ≡ c.index.result.now = one_read (is_under c.args.token.now) c.self.inside.standing.items c.in-Some.place _ _ there c.remove-ended.ensures.value c.index.ensures in
    rw (← c.self.view_is, same, c.in-Other.is) ((ending c.args.token.now c.in-Other.field-0 c.args.moment c.self.inside.standing.items c.in-Some.place c.index.result.now there c.index.ensures (rw c.in-Other.is at (sym c.counts.ensures ∙ c.if-not-counts.false))).told)

-- a renewed watch has its key, and was asked for when it was
pub invariant_of-self : goal.invariant_of-self
invariant_of-self c =
    let rs = c.self.inside.standing.items in
    let r = c.index_mut.result.now in
    let q = c.renew.new.self in
    let there : position (is_under c.args.token.now) rs ≡ Some c.in-Some.place = rw (← c.deref.ensures.value) (sym c.place_under.ensures ∙ c.in-Some.is) in
    let at = first_at (is_under c.args.token.now) rs c.in-Some.place r there c.index_mut.ensures.value in
    kept-renewed rs c.in-Some.place r q at.place c.index_mut.ensures.value (ap (λ (x : Registration). x.asked) c.renew.ensures)
    (slice_set rs c.in-Some.place q) c.self.inside.hints.items c.self.inside.first c.self.invariant (ap (λ (x : Registration). x.key) c.renew.ensures) refl
