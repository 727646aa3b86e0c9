-- What using, emptying, opening and filling a slot make of a table.
use Rattle.std.proofs.Common.{◌≡◌, ◌≢◌, ℕ, suc, ◌+◌, ◌<◌, ◌≤◌, Bool, true, false, not, eqb, List, [], ◌∷◌, ◌++◌, length, length-append, filter, take, drop, Option, Some, None, inl, inr, refl, sym, ap, subst, ◌∙◌, ◌||◌, arith}
use Rattle.std.specs.List.{AllByRecursion, list_any}
use Rattle.std.proofs.lemmas.Bool.{false≢true}
use Rattle.std.proofs.lemmas.Bool.Decides.{eqb_tells}
use Rattle.std.proofs.lemmas.List.Elements.{filter-append}
use Rattle.resp_cache.specs.Names.{IsNamed, names_slot}
use Rattle.resp_cache.specs.Rings.{Apart, IsOrder, is_in, last_of, without}
use Rattle.resp_cache.specs.Slots.{ArePacked, Puts, pairs_in, slot_at, with_pair}
use Rattle.resp_cache.specs.Stores.{KeysApart, is_of, is_of_another, others}
use Rattle.resp_cache.specs.Tables.{AreStored}
use Rattle.resp_cache.specs.declared.names.Named.{Named}
use Rattle.resp_cache.specs.declared.pair.Pair.{Pair}
use Rattle.resp_cache.proofs.Apart.{alone, apart-filtered, apart-placed, same_itself}
use Rattle.resp_cache.proofs.Linking.{differ, in_rest, lacks_without, length_without, without_first, without_other, is_same}
use Rattle.resp_cache.proofs.Lists.{cut_at, none_dropped, take_roomy}
use Rattle.resp_cache.proofs.Naming.{named-drop, named-same}
use Rattle.resp_cache.proofs.Slotted.{EndsTaken, is_within, last_empty, last_taken, one_empty, packed_emptied, packed_filled, packed_opened, packed_used, pairs_few, pairs_kept, pairs_push, pairs_same, pairs_without, pairs_without_empty, past_empty, puts_here}

pub is_there : (slots : List (Option Pair)) (os : List ℕ) (ns : List Named) (s : ℕ) (p : Pair) → AreStored slots os ns → slot_at slots s ≡ Some p → is_in s os ≡ true
is_there slots os ns s p t at =
    let w = is_within slots s p at in
    let same = t.sized in
    let le = w.1 in
    t.order.all s w.0 (omega (arith, same, le))

length_out : (slots : List (Option Pair)) (os : List ℕ) (s : ℕ) (p : Pair) → is_in s os ≡ true → Apart os → slot_at slots s ≡ Some p → suc (length (pairs_in slots (without s os))) ≡ length (pairs_in slots os)
length_out slots [] s p there apart at = absurd (false≢true there)
length_out slots (x ∷ xs) s p there apart at =
    elim (eqb_tells x s) [
      | inl w ↦
          let here : slot_at slots x ≡ Some p = ap (slot_at slots) w.1 ∙ at in
          ap (λ (ys : List ℕ). suc (length (pairs_in slots ys))) (without_first s x xs w.1 apart.0) ∙ sym (ap (λ (o : Option Pair). length (with_pair o (pairs_in slots xs))) here)
      | inr w ↦
          let other : x ≢ s = differ x s w.0 in
          ap (λ (ys : List ℕ). suc (length (pairs_in slots ys))) (without_other s x xs other)
          ∙ by (slot_at slots x) (length_out slots xs s p (in_rest s x xs other there) apart.1 at)
    ]
  where
    by : (o : Option Pair) → suc (length (pairs_in slots (without s xs))) ≡ length (pairs_in slots xs) → suc (length (with_pair o (pairs_in slots (without s xs)))) ≡ length (with_pair o (pairs_in slots xs))
    by None h = h
    by (Some q) h = ap suc h

pub used : (slots : List (Option Pair)) (os news : List ℕ) (ns : List Named) (s : ℕ) (p : Pair) → slot_at slots s ≡ Some p → news ≡ s ∷ without s os → IsOrder news → AreStored slots os ns
    → (pairs_in slots news ≡ p ∷ others p.key (pairs_in slots os)) × AreStored slots news ns
used slots os news ns s p at is order t =
    let there = is_there slots os ns s p t at in
    let left = pairs_without slots os s p there t.order.apart at t.apart in
    let first : pairs_in slots news ≡ p ∷ pairs_in slots (without s os) = ap (pairs_in slots) is ∙ ap (λ (o : Option Pair). with_pair o (pairs_in slots (without s os))) at in
    let pairs : pairs_in slots news ≡ p ∷ others p.key (pairs_in slots os) = first ∙ ap (λ (ps : List Pair). p ∷ ps) left in
    let P : List Pair → Type 0 = λ ps. KeysApart ps in
    let Q : List ℕ → Type 0 = λ xs. ArePacked slots xs in (
      pairs,
      record {
        few = t.few;
        sized = ap length is ∙ (length_without s os t.order.apart there ∙ t.sized);
        order = order;
        packed = subst Q (sym is) (packed_used slots s p os at t.packed);
        named = t.named;
        counted = t.counted ∙ (sym (length_out slots os s p there t.order.apart at) ∙ sym (ap length first));
        apart = subst P (sym pairs) (apart-placed p (pairs_in slots os) t.apart);
      },
    )

pub emptied : (slots after : List (Option Pair)) (os news : List ℕ) (ns left : List Named) (s : ℕ) (p : Pair) → slot_at slots s ≡ Some p → Puts slots after s None → length after ≡ length slots
    → news ≡ without s os ++ s ∷ [] → IsOrder news → left ≡ filter (λ n. not (names_slot s n)) ns → length left + 1 ≡ length ns → AreStored slots os ns
    → (pairs_in after news ≡ others p.key (pairs_in slots os)) × AreStored after news left
emptied slots after os news ns left s p at puts len is order dropped fewer t =
    let there = is_there slots os ns s p t at in
    let out : pairs_in after news ≡ pairs_in slots (without s os) = ap (pairs_in after) is ∙ (pairs_push after (without s os) s (puts_here slots after s None puts) ∙ pairs_kept slots after (without s os) s None (lacks_without s os) puts) in
    let pairs : pairs_in after news ≡ others p.key (pairs_in slots os) = out ∙ pairs_without slots os s p there t.order.apart at t.apart in
    let P : List Pair → Type 0 = λ ps. KeysApart ps in
    let Q : List ℕ → Type 0 = λ xs. ArePacked after xs in
    let few = t.few in
    let sized = t.sized in
    let counted = t.counted in
    let one_less : suc (length (without s os)) ≡ length os = length_without s os t.order.apart there in
    let long : length news ≡ suc (length (without s os)) = omega (arith, ap length is, length-append (without s os) (s ∷ [])) in
    let out_len : suc (length (pairs_in slots (without s os))) ≡ length (pairs_in slots os) = length_out slots os s p there t.order.apart at in
    let here_len : length (pairs_in after news) ≡ length (pairs_in slots (without s os)) = ap length out in (
      pairs,
      record {
        few = omega (arith, few, len);
        sized = long ∙ (one_less ∙ (sized ∙ sym len));
        order = order;
        packed = subst Q (sym is) (packed_emptied slots after s os puts t.packed);
        named = named-drop slots after ns left s dropped puts t.named;
        counted = omega (arith, fewer, counted, out_len, here_len);
        apart = subst P (sym pairs) (apart-filtered (is_of_another p.key) (pairs_in slots os) t.apart);
      },
    )

pub opened : (slots after : List (Option Pair)) (os news : List ℕ) (ns : List Named) → after ≡ slots ++ None ∷ [] → news ≡ os ++ (length os + 1) ∷ [] → IsOrder news → length slots < 256 → AreStored slots os ns
    → (pairs_in after news ≡ pairs_in slots os) × AreStored after news ns
opened slots after os news ns more is order few t =
    let sized = t.sized in
    let n : ℕ = length os + 1 in
    let same : (k : ℕ) → slot_at after k ≡ slot_at slots k = λ k. ap (λ (xs : List (Option Pair)). slot_at xs k) more ∙ one_empty slots k in
    let empty : slot_at after n ≡ None = same n ∙ past_empty slots n (omega (arith, sized)) in
    let pairs : pairs_in after news ≡ pairs_in slots os = ap (pairs_in after) is ∙ (pairs_push after os n empty ∙ pairs_same slots after os same) in
    let P : List Pair → Type 0 = λ ps. KeysApart ps in
    let Q : List ℕ → Type 0 = λ xs. ArePacked after xs in
    let slots_len : length after ≡ length slots + 1 = omega (arith, ap length more, length-append slots (None ∷ [])) in
    let long : length news ≡ length os + 1 = omega (arith, ap length is, length-append os (n ∷ [])) in (
      pairs,
      record {
        few = omega (arith, slots_len, few);
        sized = omega (arith, long, sized, slots_len);
        order = order;
        packed = subst Q (sym is) (packed_opened slots after n os same empty t.packed);
        named = named-same slots after ns same t.named;
        counted = t.counted ∙ sym (ap length pairs);
        apart = subst P (sym pairs) t.apart;
      },
    )

or_later : (b c : Bool) → c ≡ true → (b || c) ≡ true
or_later true c e = refl
or_later false c e = e

last_in : (a : ℕ) (os : List ℕ) → 0 < length os → is_in (last_of a os) os ≡ true
last_in a [] some = absurd (omega (arith, some))
last_in a (x ∷ []) some = rw (is_same x x refl) refl
last_in a (x ∷ y ∷ ys) some = or_later (eqb x (last_of y ys)) (is_in (last_of y ys) (y ∷ ys)) (last_in x (y ∷ ys) (omega arith))

-- the slot that was used least lately, where one is empty
pub record IsFree (slots : List (Option Pair)) (os : List ℕ) (s : ℕ) : Type 0 where
  pub empty : slot_at slots s ≡ None
  pub there : is_in s os ≡ true
  pub some : 0 < s
  pub within : s ≤ length slots

within_order : (n : ℕ) (os : List ℕ) (s : ℕ) → AllByRecursion (λ t. (0 < t) × (t ≤ n)) os → is_in s os ≡ true → (0 < s) × (s ≤ n)
within_order n [] s w there = absurd (false≢true there)
within_order n (x ∷ xs) s w there =
    elim (eqb_tells x s) [
      | inl v ↦ subst (λ (m : ℕ). (0 < m) × (m ≤ n)) v.1 w.0
      | inr v ↦ within_order n xs s w.1 (in_rest s x xs (differ x s v.0) there)
    ]

pub free_is : (slots : List (Option Pair)) (os : List ℕ) (ns : List Named) (s : ℕ) → s ≡ last_of 0 os → length ns < length slots → AreStored slots os ns → IsFree slots os s
free_is slots os ns s is free t =
    let sized = t.sized in
    let counted = t.counted in
    let there : is_in s os ≡ true = subst (λ (n : ℕ). is_in n os ≡ true) (sym is) (last_in 0 os (omega (arith, free, sized))) in
    let w = within_order (length os) os s t.order.within there in
    let le = w.1 in
    record {
      empty = ap (slot_at slots) is ∙ last_empty slots 0 os t.packed (omega (arith, free, sized, counted));
      there = there;
      some = w.0;
      within = omega (arith, le, sized);
    }

pub filled : (slots after : List (Option Pair)) (os news : List ℕ) (ns more : List Named) (s : ℕ) (p : Pair) → IsFree slots os s → Puts slots after s (Some p) → length after ≡ length slots
    → news ≡ s ∷ without s os → IsOrder news → IsNamed after more → length more ≡ length ns + 1 → list_any (is_of p.key) (pairs_in slots os) ≡ false → AreStored slots os ns
    → (pairs_in after news ≡ p ∷ pairs_in slots os) × AreStored after news more
filled slots after os news ns more s p free puts len is order named longer other t =
    let first : pairs_in after (s ∷ without s os) ≡ p ∷ pairs_in after (without s os) = ap (λ (o : Option Pair). with_pair o (pairs_in after (without s os))) (puts_here slots after s (Some p) puts) in
    let rest : pairs_in after (without s os) ≡ pairs_in slots os = pairs_kept slots after (without s os) s (Some p) (lacks_without s os) puts ∙ pairs_without_empty slots os s free.empty in
    let pairs : pairs_in after news ≡ p ∷ pairs_in slots os = ap (pairs_in after) is ∙ (first ∙ ap (λ (ps : List Pair). p ∷ ps) rest) in
    let P : List Pair → Type 0 = λ ps. KeysApart ps in
    let Q : List ℕ → Type 0 = λ xs. ArePacked after xs in
    let few = t.few in
    let counted = t.counted in
    let count : length (pairs_in after news) ≡ suc (length (pairs_in slots os)) = ap length pairs in (
      pairs,
      record {
        few = omega (arith, few, len);
        sized = ap length is ∙ (length_without s os t.order.apart free.there ∙ (t.sized ∙ sym len));
        order = order;
        packed = subst Q (sym is) (packed_filled slots after s p os puts t.packed);
        named = named;
        counted = omega (arith, longer, counted, count);
        apart = subst P (sym pairs) (other, t.apart);
      },
    )

-- how many pairs there are

pub few_names : (slots : List (Option Pair)) (os : List ℕ) (ns : List Named) → AreStored slots os ns → length ns ≤ length slots
few_names slots os ns t =
    let counted = t.counted in
    let sized = t.sized in
    omega (arith, counted, sized, pairs_few slots os)

pub all_kept : (slots : List (Option Pair)) (os : List ℕ) (ns : List Named) → AreStored slots os ns → length ns ≤ 255 → (take 255 (pairs_in slots os) ≡ pairs_in slots os) × (drop 255 (pairs_in slots os) ≡ [])
all_kept slots os ns t few =
    let counted = t.counted in
    take_roomy 255 (pairs_in slots os) (omega (arith, counted, few))

append_none : (ps : List Pair) → ps ++ [] ≡ ps
append_none [] = refl
append_none (p ∷ ps) = ap (λ (qs : List Pair). p ∷ qs) (append_none ps)

-- The last pair goes, and those before it stay.
pub last_out : (ps front : List Pair) (p : Pair) → KeysApart ps → length ps ≡ 256 → ps ≡ front ++ p ∷ [] → (others p.key ps ≡ take 255 ps) × (p ∷ [] ≡ drop 255 ps)
last_out ps front p apart len is =
    let parts = alone front p [] (subst (λ (qs : List Pair). KeysApart qs) is apart) in
    let long : length front ≡ 255 = omega (arith, len, ap length is, length-append front (p ∷ [])) in
    let cut = cut_at 255 front (p ∷ []) long in
    let gone : others p.key (p ∷ []) ≡ [] = rw (same_itself p.key) refl in
    let left : others p.key (front ++ p ∷ []) ≡ front =
    filter-append (is_of_another p.key) front (p ∷ []) ∙ (ap (λ (qs : List Pair). others p.key front ++ qs) gone ∙ (append_none (others p.key front) ∙ none_dropped (is_of p.key) front parts.before)) in
    (ap (others p.key) is ∙ (left ∙ sym (ap (take 255) is ∙ cut.0)), sym (ap (drop 255) is ∙ cut.1))

pub last_full : (slots : List (Option Pair)) (os : List ℕ) (ns : List Named) → AreStored slots os ns → length slots ≤ length ns → 256 ≤ length slots
    → (length (pairs_in slots os) ≡ 256) × EndsTaken slots (last_of 0 os) (pairs_in slots os)
last_full slots os ns t all full =
    let counted = t.counted in
    let sized = t.sized in
    let few = t.few in
    let most = pairs_few slots os in
    let whole : length (pairs_in slots os) ≡ length os = omega (arith, counted, sized, all, most) in
    (omega (arith, whole, sized, few, full), last_taken slots 0 os (omega (arith, sized, full)) whole)

pub one_fewer : (slots : List (Option Pair)) (os : List ℕ) (ns : List Named) (s : ℕ) (p : Pair) → AreStored slots os ns → slot_at slots s ≡ Some p → length (others p.key (pairs_in slots os)) < length (pairs_in slots os)
one_fewer slots os ns s p t at =
    let there = is_there slots os ns s p t at in
    let left = pairs_without slots os s p there t.order.apart at t.apart in
    omega (arith, ap length left, length_out slots os s p there t.order.apart at)
