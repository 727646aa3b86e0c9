use Rattle.std.proofs.Common.{ℕ, List, Vec, ap, arith, drop, length, length-append, map, refl, subst, sym, take, ◌∙◌, ◌+◌, ◌++◌, ◌<◌, ◌≤◌, ◌⊎◌, ◌≡◌, true}
use Rattle.std.specs.Prelude.{◌↔◌}
use Rattle.std.specs.List.{AllByRecursion}
use Rattle.std.specs.declared.alloc.Global.{Global}
use Rattle.std.proofs.lemmas.List.{length-map}
use Rattle.journal_book.specs.Entries.{Written}
use Rattle.journal_book.specs.Journals.{IsHere, JournalValue, Rise, is_among, kept_after}
use Rattle.journal_book.specs.Keeping.{AreOf, numbers_in}
use Rattle.journal_book.specs.Past.{past_in}
use Rattle.journal_book.specs.Segments.{entries_in}
use Rattle.journal_book.specs.Views.{item_of}
use Rattle.journal_book.specs.declared.entry.Entry.{Entry}
use Rattle.journal_book.specs.declared.kept.KeptEntry.{KeptEntry}
use Rattle.journal_book.proofs.Filled.{first-behind, length-in, passed-on, past-longer}
use Rattle.journal_book.proofs.Leaving.{here-after, kept-so, rise-after}
use Rattle.journal_book.proofs.Named.{of-append, of-below, of-longer, same-first}
use Rattle.journal_book.proofs.journal.Journal.give.Goals as goal

pub returns-then-held-lt-SEGMENT_LEN-clause-none : goal.returns-then-held-lt-SEGMENT_LEN-clause-none
returns-then-held-lt-SEGMENT_LEN-clause-none g c =
    let inside = c.self.inside in
    let count = length-in inside.segments.items inside.held c.self.invariant.0 in
    let all = ap (λ (j : JournalValue). length j.entries) c.self.view_is in
    let given = ap (λ (j : JournalValue). j.given) c.self.view_is in
    let longer = length-append (past_in inside.past) (entries_in inside.segments.items) in
    (refl, refl, omega (arith, c.if-held-lt-SEGMENT_LEN.true, count, all, given, longer, c.self.invariant.2))

pub invariant_of-self-2 : goal.invariant_of-self-2
invariant_of-self-2 g c =
    let inside = c.self.inside in
    let held = c.self.invariant in
    let many = length-map c.take_first-segment.result.0.items item_of ∙ c.take_first-segment.ensures.len in
    let first = same-first inside.segments.items c.index.result.now c.take_first-segment.result.0 c.index.ensures c.take_first-segment.ensures.first
    (omega (arith, c.take_first-segment.ensures.places, inside.segments.ok.0)) in
    let items : c.deref.result.now ≡ c.take_first-segment.result.0.items =
    c.deref.ensures.value ∙ ap (λ (s : Vec (Entry g.row.R.Denot) Global). s.items) first in
    let all : past_in c.pass_on-segment.new.past ≡ past_in inside.past ++ map item_of c.deref.result.now =
    c.pass_on-segment.ensures.entries
    ∙ ap (λ (ws : List Written). ws ++ map item_of c.take_first-segment.result.0.items) c.make_past.ensures.same
    ∙ ap (λ (es : List (Entry g.row.R.Denot)). past_in inside.past ++ map item_of es) (sym items) in
    let kept = kept-so inside.given (length c.deref.result.now) c.args.named.now inside.kept.items c.in_ok-copies.copies.items c.append.new.self.items c.keep_named.new.kept.items
    c.keep_named.ensures.numbers c.in_ok-append.ensures.items c.in_ok-copies.ensures.numbers
    (ap (λ (es : List (Entry g.row.R.Denot)). length es) items ∙ c.take_first-segment.ensures.len) in (
      c.take_first-segment.ensures.filled,
      omega (arith, held.1, c.take_first-segment.ensures.places),
      past-longer inside.given _ _ _ _ held.2 c.pass_on-segment.ensures.entries c.make_past.ensures.same many,
      omega (arith, c.if-given-gt-MAX_GIVEN.false),
      subst Rise (sym kept) (rise-after inside.given (numbers_in inside.kept.items) c.args.named.now held.4
          (subst (λ (m : ℕ). AllByRecursion (λ (n : ℕ). n < m) (numbers_in inside.kept.items)) (sym held.2) (of-below (past_in inside.past) inside.kept.items held.5))
          c.requires),
      subst (λ (ws : List Written). AreOf ws c.keep_named.new.kept.items) (sym all)
          (c.keep_named.ensures.entries (past_in inside.past ++ map item_of c.deref.result.now)
          (subst (λ (ks : List (KeptEntry g.row.R.Denot)). AreOf (past_in inside.past ++ map item_of c.deref.result.now) ks) (sym c.in_ok-append.ensures.items)
          (of-append (past_in inside.past ++ map item_of c.deref.result.now) inside.kept.items c.in_ok-copies.copies.items
          (of-longer (past_in inside.past) (map item_of c.deref.result.now) inside.kept.items held.5)
          (c.in_ok-copies.ensures.entries (past_in inside.past) (sym held.2))))),
    )

pub returns-clause-entries : goal.returns-clause-entries
returns-clause-entries g c =
    passed-on _ _ _ _ _ _ c.pass_on-segment.ensures.entries c.make_past.ensures.same c.take_first-segment.ensures.entries
    ∙ ap (λ (j : JournalValue). j.entries) c.self.view_is

pub returns-clause-room : goal.returns-clause-room
returns-clause-room g c =
    let room = ap (λ (j : JournalValue). j.room) c.self.view_is in
    omega (arith, room, c.take_first-segment.ensures.places, c.take_first-segment.ensures.count)

pub returns-clause-some : goal.returns-clause-some
returns-clause-some g c =
    let held = c.self.invariant in
    let many = length-map c.take_first-segment.result.0.items item_of ∙ c.take_first-segment.ensures.len in
    let longer =
    past-longer c.self.inside.given _ _ _ _ held.2 c.pass_on-segment.ensures.entries c.make_past.ensures.same many in (
      ap (λ s. map item_of s.items) c.pass_on-segment.ensures.same
          ∙ first-behind _ _ _ _ c.self.inside.given held.2 c.take_first-segment.ensures.entries many
          ∙ ap (λ (j : JournalValue). take 1024 (drop j.given j.entries)) c.self.view_is,
      ap (λ (j : JournalValue). j.given + 1024) c.self.view_is,
      omega (arith, longer, length-append (past_in c.pass_on-segment.new.past) (entries_in c.take_first-segment.new.segments.items)),
    )

pub returns-clause-kept : goal.returns-clause-kept
returns-clause-kept g c =
    let inside = c.self.inside in
    let first = same-first inside.segments.items c.index.result.now c.take_first-segment.result.0 c.index.ensures c.take_first-segment.ensures.first
    (omega (arith, c.take_first-segment.ensures.places, inside.segments.ok.0)) in
    let items : c.deref.result.now ≡ c.take_first-segment.result.0.items =
    c.deref.ensures.value ∙ ap (λ (s : Vec (Entry g.row.R.Denot) Global). s.items) first in
    kept-so inside.given (length c.deref.result.now) c.args.named.now inside.kept.items c.in_ok-copies.copies.items c.append.new.self.items c.keep_named.new.kept.items
    c.keep_named.ensures.numbers c.in_ok-append.ensures.items c.in_ok-copies.ensures.numbers
    (ap (λ (es : List (Entry g.row.R.Denot)). length es) items ∙ c.take_first-segment.ensures.len)
    ∙ ap (λ (j : JournalValue). kept_after j.given j.kept c.args.named.now) c.self.view_is

pub returns-clause-here : goal.returns-clause-here
returns-clause-here g c = λ n.
    let now = c.args.self.now in
    let named = c.args.named.now in
    let kept : numbers_in c.keep_named.new.kept.items ≡ kept_after now.given now.kept named = returns-clause-kept g c in
    let given : c.self.inside.given ≡ now.given = ap (λ (j : JournalValue). j.given) c.self.view_is in
    let left : ℕ → Type 0 = λ m. (m + 1024 ≤ n) ⊎ (IsHere now.given now.kept n × (is_among named n ≡ true)) in
    subst (λ (m : ℕ). IsHere (m + 1024) (numbers_in c.keep_named.new.kept.items) n ↔ left m) (sym given)
    (subst (λ (ks : List ℕ). IsHere (now.given + 1024) ks n ↔ left now.given) (sym kept)
    (here-after now.given now.kept named n))
