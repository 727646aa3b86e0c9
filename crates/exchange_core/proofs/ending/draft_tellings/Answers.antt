use Rattle.std.proofs.Common.{◌≡◌, [], ◌∷◌, ◌++◌, List, length, map, refl, sym, ap, subst, ◌∙◌, append_assoc, append-nil, arith}
use Rattle.std.specs.List.{AllByRecursion}
use Rattle.journal_book.specs.Entries.{Deed, Written}
use Rattle.exchange_core.specs.declared.ending.Telling.{Telling}
use Rattle.exchange_core.specs.Drafts.{IsDrafted}
use Rattle.exchange_core.specs.Ending.{IsTold, deed_of}
use Rattle.exchange_core.specs.Reading.{IsTellingHere}
use Rattle.exchange_core.proofs.Endings.{all-told-still}
use Rattle.exchange_core.proofs.ending.draft_tellings.Goals as goal

no-items : (xs : List Telling) → length xs ≡ 0 → xs ≡ []
no-items [] e = refl
no-items (x ∷ xs) e = absurd (omega (arith, e))

pub each-init : goal.each-init
each-init g c = record {
  drafted = λ S ds e h. (ds, h, refl);
  room = c.requires.room;
  here = c.requires.here;
  told = c.requires.told;
}

pub each-preserved : goal.each-preserved
each-preserved g c =
    let t = c.args.moment in
    let h = c.args.journal.now.entries in
    let x = c.in-Some.telling in
    let rest = c.pop_front.new.self.items in
    let items : c.each.told.items ≡ x ∷ rest = c.in-Some.ensures.items in
    let told : AllByRecursion (IsTold h c.each.draft.entries t) (x ∷ rest) =
    subst (AllByRecursion (IsTold h c.each.draft.entries t)) items c.each.invariant.told in
    let here : AllByRecursion (IsTellingHere c.args.journal.now.given c.args.journal.now.kept) (x ∷ rest) =
    subst (AllByRecursion (IsTellingHere c.args.journal.now.given c.args.journal.now.kept)) items c.each.invariant.here in
    let grown = c.in_ok-draft_telling.ensures.grows in
    record {
      drafted = λ S ds e l.
          let before = c.each.invariant.drafted S ds e l in (
            before.0 ++ deed_of x ∷ [],
            c.in_ok-draft_telling.ensures.drafted S before.0 e before.1,
            append_assoc before.0 (deed_of x ∷ []) (map deed_of rest)
                ∙ ap (λ (xs : List Telling). before.0 ++ map deed_of xs) (sym items) ∙ before.2,
          );
      room =
          let room = c.each.invariant.room in
          let next = c.in_ok-draft_telling.ensures.next in
          let len = ap length items in
          omega (arith, room, next, len);
      here = here.1;
      told = subst (λ (ws : List Written). AllByRecursion (IsTold h ws t) rest) (sym grown.1)
          (all-told-still h c.each.draft.entries (grown.0 ∷ []) t rest told.1);
    }

pub returns : goal.returns
returns g c = λ S ds e h.
    let last = c.each.invariant.drafted S ds e h in
    let gone = c.in_default.ensures.cases.0 in
    let len = c.each.told.ok.0 in
    let none = no-items c.each.told.items (omega (arith, gone, len)) in
    subst (λ (es : List Deed). IsDrafted c.args.moment S es c.each.draft)
    (sym (append-nil last.0) ∙ ap (λ (xs : List Telling). last.0 ++ map deed_of xs) (sym none) ∙ last.2) last.1

pub draft_telling-requires-clause-here : goal.draft_telling-requires-clause-here
draft_telling-requires-clause-here g c =
    (subst (AllByRecursion (IsTellingHere c.args.journal.now.given c.args.journal.now.kept)) c.in-Some.ensures.items c.each.invariant.here).0
