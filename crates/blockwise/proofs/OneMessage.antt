-- A body that comes or goes in one message.
use Rattle.std.proofs.Common.{◌≡◌, ◌↔◌, ℕ, zero, suc, ◌+◌, ◌*◌, ◌%◌, ◌<◌, ◌≤◌, ◌==◌, ◌&&◌, ◌||◌, Bool, true, false, not, cond, nat_le, List, [], ◌∷◌, length, Option, Some, None, option_map, refl, sym, ap, subst, ◌∙◌, arith, rules, append-nil}
use Rattle.std.specs.Prelude.{find}
use Rattle.std.proofs.lemmas.Bool.{false≢true}
use Rattle.std.proofs.lemmas.Bool.Decides.{Decides-eqb}
use Rattle.coap_codec.specs.Spelling.{Entry, Content}
use Rattle.coap_codec.specs.Recognition.{class_of, is_defined, is_reserved_block, is_final}
use Rattle.coap_codec.specs.Values.{uint}
use Rattle.coap_codec.specs.declared.block.Block.{Block}
use Rattle.blockwise.specs.Reading.{block_by, block_in, size_of, goes_on, offset_in, IsAlone, is_alone, answers_piece}
use Rattle.blockwise.specs.Representations.{representation_of}
use Rattle.blockwise.specs.Downloads.{is_sized, nothing, given, is_only_piece}
use Rattle.blockwise.specs.Uploads.{begun, if_final, answer_to}
use Rattle.blockwise.specs.Joins.{IsNoLarger, AreWhole, OnlyPieceIsWhole, OnlyAnswerIsLast}
use Rattle.blockwise.specs.declared.upload.Answered.{Answered}
use Rattle.blockwise.specs.declared.upload.Answered.TheVariants.{Next, Last, Wrong}
use Rattle.blockwise.proofs.Answering.{and_both, not_false, alone_found, alone_told}
use Rattle.blockwise.proofs.Fetching.{sized_decided, downloads}

-- A Block option that is defined is of a size below 2,048 bytes.

same_entry : (a b : Entry) → Some a ≡ Some b → a ≡ b
same_entry a b e = cc

found_holds : (p : Entry → Bool) (xs : List Entry) (x : Entry) → find p xs ≡ Some x → p x ≡ true
found_holds p [] x e = absurd cc
found_holds p (y ∷ ys) x e = by (p y) refl (λ f. found_holds p ys x f) e
  where
    by : (b : Bool) → p y ≡ b → (find p ys ≡ Some x → p x ≡ true) → cond b (Some y) (find p ys) ≡ Some x → p x ≡ true
    by true is later e = subst (λ (z : Entry). p z ≡ true) (same_entry y x e) is
    by false is later e = later e

not_reserved : (a b c : Bool) → a ≡ true → not ((a || b) && c) ≡ true → c ≡ false
not_reserved true b c a e = not_false c e
not_reserved false b c a e = absurd (false≢true a)

not_seven : (n : ℕ) → (n % 8 == 7) ≡ false → n % 8 < 7
not_seven n e = by (λ (is : n % 8 ≡ 7). false≢true (sym e ∙ (Decides-eqb (n % 8) 7).1 is))
  where
    by : (n % 8 ≡ 7 → ⊥) → n % 8 < 7
    by other = omega (arith, other)

szx_small : (m : Content) (b : Block) → block_in 23 m ≡ Some b → b.szx < 7
szx_small m b e = by (find p m.options) refl e
  where
    p : Entry → Bool
    p = λ (o : Entry). (o.number == 23) && is_defined o

    same : (x y : Block) → Some x ≡ Some y → x ≡ y
    same x y e = cc

    by : (f : Option Entry) → find p m.options ≡ f → option_map block_by (option_map (λ (o : Entry). o.value) f) ≡ Some b → b.szx < 7
    by None is e = absurd cc
    by (Some o) is e =
        let both = and_both (o.number == 23) (is_defined o) (found_holds p m.options o is) in
        let free = (and_both _ (not (is_reserved_block o)) both.1).1 in
        let small = not_seven (uint o.value) (not_reserved (o.number == 23) (o.number == 27) (uint o.value % 8 == 7) both.0 free) in
        subst (λ (x : Block). x.szx < 7) (same (block_by o.value) b e) small

no_larger : (b : Option Block) → ((x : Block) → b ≡ Some x → x.szx < 7) → IsNoLarger b 6
no_larger None small = tt
no_larger (Some x) small = let lt = small x refl in omega (arith, lt)

-- the only piece

last_alone : (b : Option Block) → IsAlone b → goes_on b ≡ false
last_alone None h = refl
last_alone (Some b) h = h.last

first_alone : (b : Option Block) → IsAlone b → offset_in b ≡ 0
first_alone None h = refl
first_alone (Some b) h = rw (h.first) (none (size_of b.szx))
  where
    none : (n : ℕ) → 0 * n ≡ 0
    none n = omega arith

no_number : (szx num : ℕ) → szx < 7 → num * size_of szx ≡ 0 → num ≡ 0
no_number zero num lt e = omega (arith, e)
no_number (suc zero) num lt e = omega (arith, e)
no_number (suc (suc zero)) num lt e = omega (arith, e)
no_number (suc (suc (suc zero))) num lt e = omega (arith, e)
no_number (suc (suc (suc (suc zero)))) num lt e = omega (arith, e)
no_number (suc (suc (suc (suc (suc zero))))) num lt e = omega (arith, e)
no_number (suc (suc (suc (suc (suc (suc zero)))))) num lt e = omega (arith, e)
no_number (suc (suc (suc (suc (suc (suc (suc n))))))) num lt e = absurd (omega (arith, lt))

alone_by : (b : Option Block) → ((x : Block) → b ≡ Some x → x.szx < 7) → goes_on b ≡ false → offset_in b ≡ 0 → IsAlone b
alone_by None small last first = tt
alone_by (Some b) small last first = record { first = no_number b.szx b.num (small b refl) first; last = last }

pub only_piece : OnlyPieceIsWhole
only_piece m short = (forth, back)
  where
    small : (x : Block) → block_in 23 m ≡ Some x → x.szx < 7
    small x e = szx_small m x e

    forth : is_only_piece m ≡ true → given nothing (m ∷ []) ≡ Some m.payload
    forth e =
        let both = and_both (is_alone (block_in 23 m)) (is_sized (block_in 23 m) (length m.payload)) e in
        let alone = alone_found (block_in 23 m) both.0 in
        (downloads m [] m.payload).1 (record {
          following = (
            record {
              representation = refl;
              sized = (sized_decided (block_in 23 m) (length m.payload)).0 both.1;
              smaller = no_larger (block_in 23 m) small;
              offset = first_alone (block_in 23 m) alone;
            },
            last_alone (block_in 23 m) alone,
          );
          join = sym (append-nil m.payload);
          short = short;
        })

    back : given nothing (m ∷ []) ≡ Some m.payload → is_only_piece m ≡ true
    back e =
        let h = (downloads m [] m.payload).0 e in
        let alone = alone_by (block_in 23 m) small h.following.1 h.following.0.offset in
        rw (alone_told (block_in 23 m) alone, (sized_decided (block_in 23 m) (length m.payload)).1 h.following.0.sized) refl

-- the answer to the only piece

wrong_last : Wrong ≡ Last → ⊥
wrong_last e = cc

last_by : (a f : Bool) (rest : Answered) → (cond (not a) Wrong (cond true (if_final f) rest) ≡ Last) ↔ ((a ≡ true) × (f ≡ true))
last_by true true rest = ((λ e. (refl, refl)), (λ h. refl))
last_by true false rest = ((λ e. absurd (wrong_last e)), (λ h. absurd (false≢true h.1)))
last_by false f rest = ((λ e. absurd (wrong_last e)), (λ h. absurd (false≢true h.0)))

within : (n : ℕ) → n ≤ 1024 → nat_le n 1024 ≡ true
within n le = search rules

pub only_answer : OnlyAnswerIsLast
only_answer len m le =
    rw (within len le) (last_by (answers_piece 0 m) (is_final m)
    (cond (m.code == 95) Next (if_final (is_final m && not (class_of m == 2)))))
