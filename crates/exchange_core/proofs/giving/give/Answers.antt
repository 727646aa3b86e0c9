use Rattle.std.proofs.Common.{◌≡◌, ◌+◌, ◌-◌, ◌≤◌, ℕ, List, Option, true, map, length, refl, sym, ap, subst, ◌∙◌, arith}
use Rattle.std.specs.Prelude.{◌⊎◌, ◌↔◌, IfSome, OnSome, drop, sum_by, take}
use Rattle.ask_model.specs.Sizes.{capped}
use Rattle.journal_book.specs.Entries.{Written, entry_size}
use Rattle.journal_book.specs.Journals.{IsHere, is_among, kept_after}
use Rattle.journal_book.specs.Views.{item_of}
use Rattle.exchange_model.specs.State.{State}
use Rattle.exchange_model.specs.Room.{gives}
use Rattle.exchange_core.specs.Sound.{SoundState}
use Rattle.exchange_core.specs.Values.{CoreValue}
use Rattle.exchange_core.specs.States.{core_of, given_in, outgoing, state_of}
use Rattle.exchange_core.proofs.Gives.{gives-sound, size-small}
use Rattle.exchange_core.proofs.giving.give.Goals as goal

-- the state with another journal
with-journal : (S : State) (ws : List Written) (n given : ℕ) (ks kept : List ℕ) → ws ≡ S.entries → n ≡ given → ks ≡ kept
    → record S { entries = ws; given = n; kept = ks } ≡ record S { given = given; kept = kept }
with-journal S ws n given ks kept es is same =
    ap (λ (vs : List Written). record S { entries = vs; given = n; kept = ks }) es
    ∙ (ap (λ (m : ℕ). record S { given = m; kept = ks }) is ∙ ap (λ (js : List ℕ). record S { given = given; kept = js }) same)

pub give-requires : goal.give-requires
give-requires g c = rw (c.deref.ensures.value) c.in_ok-named.ensures.rise

pub overflow_sub-s : goal.overflow_sub-s
overflow_sub-s g c =
    let S : State = state_of c.args.s.now in
    let segment = c.in-Some.segment in
    let some = subst (λ (o : Option _). IfSome o (λ v.
    (map item_of v.items ≡ take 1024 (drop S.given S.entries)) × (c.give.new.self.given ≡ S.given + 1024)
    × (c.give.new.self.given ≤ length c.give.new.self.entries))) c.in-Some.is c.in_ok-segment.ensures.some in
    size-small S c.args.s.now.bytes c.args.s.now.journal.room (given_in c.args.s.now) c.requires c.size_of.result
    (c.size_of.ensures ∙ ap (λ (ws : List Written). capped (sum_by entry_size ws)) (ap (map item_of) c.deref-2.ensures.value ∙ some.0))

pub returns-clause-sound : goal.returns-clause-sound
returns-clause-sound g c =
    let s = c.args.s.now in
    let S : State = state_of s in
    let j = c.give.new.self in
    let ns : List ℕ = c.in_ok-named.named.items in
    let ks : List ℕ = kept_after S.given S.kept ns in
    let some = subst (λ (o : Option _). IfSome o (λ v.
    (map item_of v.items ≡ take 1024 (drop S.given S.entries)) × (j.given ≡ S.given + 1024) × (j.given ≤ length j.entries))) c.in-Some.is c.in_ok-segment.ensures.some in
    let kept : j.kept ≡ ks =
    subst (λ (o : Option _). OnSome o (j.kept ≡ ks)) c.in-Some.is (rw (← c.deref.ensures.value) c.in_ok-segment.ensures.kept) in
    let here = subst (λ (o : Option _). OnSome o ((n : ℕ) → IsHere j.given j.kept n ↔ ((j.given ≤ n) ⊎ (IsHere S.given S.kept n × (is_among ns n ≡ true)))))
    c.in-Some.is (rw (← c.deref.ensures.value) c.in_ok-segment.ensures.here) in
    let within : S.given + 1024 ≤ length S.entries =
    subst (λ (n : ℕ). n ≤ length S.entries) some.1 (subst (λ (ws : List Written). j.given ≤ length ws) c.in_ok-segment.ensures.entries some.2) in
    let moved = λ (n : ℕ). subst (λ (m : ℕ). IsHere m ks n ↔ ((m ≤ n) ⊎ (IsHere S.given S.kept n × (is_among ns n ≡ true)))) some.1
    (subst (λ (js : List ℕ). IsHere j.given js n ↔ ((j.given ≤ n) ⊎ (IsHere S.given S.kept n × (is_among ns n ≡ true)))) kept (here n)) in
    let size = c.size_of.ensures ∙ ap (λ (ws : List Written). capped (sum_by entry_size ws)) (ap (map item_of) c.deref-2.ensures.value ∙ some.0) in
    let is = with-journal S j.entries j.given (S.given + 1024) j.kept ks c.in_ok-segment.ensures.entries some.1 kept in
    subst (λ (V : State). SoundState V (s.bytes - c.size_of.result) j.room (given_in s)) (sym is)
    (subst (λ (room : ℕ). SoundState (gives 1024 ks S) (s.bytes - c.size_of.result) room (given_in s)) (sym c.in_ok-segment.ensures.room)
    (gives-sound S s.bytes s.journal.room (given_in s) c.requires ks ns c.size_of.result
    (c.has_numbers.ensures.0 c.if-not-has_numbers.false) within c.in_ok-named.ensures.names moved size))

pub returns-clause-given : goal.returns-clause-given
returns-clause-given g c =
    let s = c.args.s.now in
    let S : State = state_of s in
    let j = c.give.new.self in
    let ns : List ℕ = c.in_ok-named.named.items in
    let ks : List ℕ = kept_after S.given S.kept ns in
    let some = subst (λ (o : Option _). IfSome o (λ v.
    (map item_of v.items ≡ take 1024 (drop S.given S.entries)) × (j.given ≡ S.given + 1024) × (j.given ≤ length j.entries))) c.in-Some.is c.in_ok-segment.ensures.some in
    let kept : j.kept ≡ ks =
    subst (λ (o : Option _). OnSome o (j.kept ≡ ks)) c.in-Some.is (rw (← c.deref.ensures.value) c.in_ok-segment.ensures.kept) in
    record {
      segment_is = some.0;
      numbers = ns;
      names = c.in_ok-named.ensures.names;
      is = ap (λ (V : State). core_of V (given_in s) (outgoing s))
          (with-journal S j.entries j.given (S.given + 1024) j.kept ks c.in_ok-segment.ensures.entries some.1 kept);
    }
