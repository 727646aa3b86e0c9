-- The text of a value, piece by piece.
use Rattle.std.proofs.Common.{◌≡◌, ℕ, suc, ◌||◌, List, [], ◌∷◌, ◌++◌, length, ltb, Bool, true, false, Option, Some, is_some, Ordering, Less, Equal, Greater, String, Vec, Global, string_bytes, string_cmp, is_eq, cond, refl, sym, ap, ◌∙◌, subst, arith, append_assoc, append-nil, lt-ltb}
use Rattle.std.specs.Map.{lookup}
use Rattle.std.specs.BTreeMap.{insert_entry, is_at}
use Rattle.std.specs.Ordering.{match_ordering, nat_cmp}
use Rattle.std.specs.Cmp.Lexicographic.{slice_cmp}
use Rattle.json.specs.Print.{quoted}
use Rattle.serde_json.specs.Data.{Data, Members, no_members, member, put}
use Rattle.serde_json.specs.Find.{get_member}
use Rattle.serde_json.specs.View.{items_of}
use Rattle.serde_json.specs.Written.{comma_if, compact_text, items_text, members_text}
use Rattle.transformers.specs.Told.{AreSound, Hold, Piece, pieces_text}

-- ---- the items of an array

-- items with commas between them, and one before them where something stands there
abbrev pub front : Bool → List Data → List ℕ
front later [] = []
front later (d ∷ ds) = comma_if later ++ (compact_text d ++ front true ds)

regroup : (a b c d : List ℕ) → a ++ (b ++ (c ++ d)) ≡ (a ++ (b ++ c)) ++ d
regroup a b c d = ap (λ (t : List ℕ). a ++ t) (sym (append_assoc b c d)) ∙ sym (append_assoc a (b ++ c) d)

pub front_more : (later : Bool) (ds : List Data) (d : Data) → front later (ds ++ d ∷ []) ≡ front later ds ++ (comma_if (later || ltb 0 (length ds)) ++ compact_text d)
front_more true [] d = ap (λ (t : List ℕ). 44 ∷ t) (append-nil (compact_text d))
front_more false [] d = append-nil (compact_text d)
front_more true (e ∷ ds) d =
    ap (λ (t : List ℕ). comma_if true ++ (compact_text e ++ t)) (front_more true ds d) ∙ regroup (comma_if true) (compact_text e) (front true ds) (44 ∷ compact_text d)
front_more false (e ∷ ds) d =
    let some : ltb 0 (suc (length ds)) ≡ true = lt-ltb 0 (suc (length ds)) (omega arith) in
    ap (λ (t : List ℕ). compact_text e ++ t) (front_more true ds d) ∙ sym (append_assoc (compact_text e) (front true ds) (44 ∷ compact_text d))
    ∙ ap (λ (b : Bool). (compact_text e ++ front true ds) ++ (comma_if b ++ compact_text d)) (sym some)

pub front_closed : (later : Bool) (ds : List Data) → items_text later (items_of ds) ≡ front later ds ++ 93 ∷ []
front_closed later [] = refl
front_closed later (d ∷ ds) =
    ap (λ (t : List ℕ). comma_if later ++ (compact_text d ++ t)) (front_closed true ds) ∙ regroup (comma_if later) (compact_text d) (front true ds) (93 ∷ [])

pub sound_more : (ds : List Data) (d : Data) → AreSound (items_of ds) → AreSound (items_of (d ∷ [])) → AreSound (items_of (ds ++ d ∷ []))
sound_more [] d all one = one
sound_more (e ∷ ds) d all one = (all.0, sound_more ds d all.1 one)

-- ---- the members of an object

hold_at : (o : Ordering) (a b c : List Piece) (x y z : Members) → Hold a x → Hold b y → Hold c z → Hold (match_ordering o a b c) (match_ordering o x y z)
hold_at Less a b c x y z p q r = p
hold_at Equal a b c x y z p q r = q
hold_at Greater a b c x y z p q r = r

pub hold_insert : (es : List Piece) (ms : Members) (key : String Global) (piece : Vec ℕ Global) (d : Data) → Hold es ms → piece.items ≡ compact_text d
    → Hold (insert_entry string_cmp es key piece) (put (string_bytes key) d ms)
hold_insert [] no_members key piece d h is = (refl, is, tt)
hold_insert [] (member l e ms) key piece d h is = absurd h
hold_insert (f ∷ es) no_members key piece d h is = absurd h
hold_insert (f ∷ es) (member l e ms) key piece d h is =
    let same : slice_cmp nat_cmp (string_bytes key) l ≡ string_cmp key f.0 = ap (λ (x : List ℕ). slice_cmp nat_cmp (string_bytes key) x) (sym h.0) in
    subst (λ (o : Ordering). Hold (match_ordering (string_cmp key f.0) ((key, piece) ∷ f ∷ es) ((f.0, piece) ∷ es) (f ∷ insert_entry string_cmp es key piece)) (match_ordering o (member (string_bytes key) d (member l e ms)) (member l d ms) (member l e (put (string_bytes key) d ms))))
    (sym same)
    (hold_at (string_cmp key f.0) ((key, piece) ∷ f ∷ es) ((f.0, piece) ∷ es) (f ∷ insert_entry string_cmp es key piece) (member (string_bytes key) d (member l e ms)) (member l d ms) (member l e (put (string_bytes key) d ms))
    (refl, is, h) (h.0, is, h.2) (h.0, h.1, hold_insert es ms key piece d h.2 is))

found_at : (o : Ordering) (v : Vec ℕ Global) (d : Data) (rest : Option (Vec ℕ Global)) (more : Option Data) → is_some rest ≡ is_some more
    → is_some (cond (is_eq o) (Some v) rest) ≡ is_some (match_ordering o more (Some d) more)
found_at Less v d rest more e = e
found_at Equal v d rest more e = refl
found_at Greater v d rest more e = e

pub hold_lookup : (es : List Piece) (ms : Members) (key : String Global) → Hold es ms → is_some (lookup (is_at (string_cmp key)) es) ≡ is_some (get_member (string_bytes key) ms)
hold_lookup [] no_members key h = refl
hold_lookup [] (member l e ms) key h = absurd h
hold_lookup (f ∷ es) no_members key h = absurd h
hold_lookup (f ∷ es) (member l e ms) key h =
    let same : slice_cmp nat_cmp (string_bytes key) (string_bytes f.0) ≡ slice_cmp nat_cmp (string_bytes key) l = ap (λ (x : List ℕ). slice_cmp nat_cmp (string_bytes key) x) h.0 in
    found_at (string_cmp key f.0) f.1 e (lookup (is_at (string_cmp key)) es) (get_member (string_bytes key) ms) (hold_lookup es ms key h.2)
    ∙ ap (λ (o : Ordering). is_some (match_ordering o (get_member (string_bytes key) ms) (Some e) (get_member (string_bytes key) ms))) same

pub hold_text : (later : Bool) (es : List Piece) (ms : Members) → Hold es ms → pieces_text later es ≡ members_text later ms
hold_text later [] no_members h = refl
hold_text later [] (member k d ms) h = absurd h
hold_text later (e ∷ es) no_members h = absurd h
hold_text later (e ∷ es) (member k d ms) h =
    rw (h.0, h.1, hold_text true es ms h.2) refl

-- what is written, with what the pieces that are left will add, where the first of them is written
pub piece_written : (later : Bool) (old new total : List ℕ) (key : String Global) (piece : Vec ℕ Global) (left next : List Piece) → old ++ pieces_text later left ≡ total → left ≡ (key, piece) ∷ next
    → new ≡ old ++ (comma_if later ++ (quoted (string_bytes key) ++ 58 ∷ piece.items)) → new ++ pieces_text true next ≡ total
piece_written later old new total key piece left next before is one =
    let c = comma_if later in
    let q = quoted (string_bytes key) in
    let rest = pieces_text true next in
    ap (λ (t : List ℕ). t ++ rest) one ∙ append_assoc old (c ++ (q ++ 58 ∷ piece.items)) rest
    ∙ ap (λ (t : List ℕ). old ++ t) (append_assoc c (q ++ 58 ∷ piece.items) rest ∙ ap (λ (t : List ℕ). c ++ t) (append_assoc q (58 ∷ piece.items) rest))
    ∙ ap (λ (es : List Piece). old ++ pieces_text later es) (sym is)
    ∙ before
