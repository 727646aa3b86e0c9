-- The copies of what is marked, and what they count.
use Rattle.std.proofs.Common.{◌≡◌, ℕ, ◌+◌, ◌<◌, Bool, true, false, ◌&&◌, leb, List, [], ◌∷◌, ◌++◌, length, get_or, Option, Some, None, option_map, refl, sym, ap, ◌∙◌, arith, suc, append_assoc, append-nil, length-append, le-leb, leb-false, leb-true}
use Rattle.std.specs.Prelude.{◌||◌, option_to_list, sum_by, ◌-◌, ◌^◌}
use Rattle.std.specs.List.{list_any}
use Rattle.std.proofs.lemmas.Bool.{lt-leb}
use Rattle.std.proofs.lemmas.List.Sums.{sum_by_push, sum_by-append}
use Rattle.ask_model.specs.Sizes.{capped}
use Rattle.limits.specs.declared.TheConstants.{MAX_COPIES, MAX_COPIES_LEN}
use Rattle.uri_map.specs.declared.peer.Peer.{Peer}
use Rattle.uri_map.specs.Peers.{same_peer}
use Rattle.journal_book.specs.Entries.{Mark, Ground, Past, Done, Asked, Sent, Heard, done_of, done_size, deed_size, Deed, Opens, Asks, Sends, Hears, Passes, Answers, Shuts, Seals, Carries, Written, entry_size}
use Rattle.journal_book.specs.declared.entry.Mark.{Mark as RustMark}
use Rattle.exchange_model.specs.Rotating.{Seen, seen, are_few, copies_from, copies_with, copy_if, copy_of, is_of, mark_of}
use Rattle.journal_copies.specs.declared.marks.Marks.{Marks}
use Rattle.journal_copies.specs.Marking.{AreMarks, count_some, kept_as, mark_if, marks_from, one_of, size_if, weigh}
use Rattle.journal_copies.specs.Copying.{copied_by, peer_of, peers_in}

-- the copies of what is marked
abbrev pub copied_from : ℕ → List Written → List (Option RustMark) → List Written
copied_from n [] ms = []
copied_from n (w ∷ ws) [] = []
copied_from n (w ∷ ws) (m ∷ ms) = copied_by m n w ++ copied_from (n + 1) ws ms

-- of one entry more
pub copied-more : (n : ℕ) (vs : List Written) (ms : List (Option RustMark)) (w : Written)
    → copied_from n (vs ++ w ∷ []) ms
    ≡ copied_from n vs ms ++ copied_by (get_or ms (length vs) None) (n + length vs) w
copied-more n [] [] w = refl
copied-more n (v ∷ vs) [] w = refl
copied-more n [] (m ∷ ms) w =
    append-nil (copied_by m n w) ∙ ap (λ (k : ℕ). copied_by m k w) (by n)
  where
    by : (k : ℕ) → k ≡ k + 0
    by k = omega arith
copied-more n (v ∷ vs) (m ∷ ms) w =
    let here = copied_by m n v in
    ap (λ (cs : List Written). here ++ cs) (copied-more (n + 1) vs ms w
    ∙ ap (λ (k : ℕ). copied_from (n + 1) vs ms ++ copied_by (get_or ms (length vs) None) k w)
    (by n (length vs)))
    ∙ sym (append_assoc here (copied_from (n + 1) vs ms) _)
  where
    by : (k i : ℕ) → (k + 1) + i ≡ k + suc i
    by k i = omega arith

-- An entry that is marked is copied.
module _ (t : ℕ) (xs : List Seen) (gs : List ℕ) where
  copy-is : (n : ℕ) (w : Written)
      → copied_by (mark_if t xs gs n w.moment (done_of w.deed)) n w
      ≡ copy_of t xs gs n w.moment (done_of w.deed)
  copy-is n w = by (done_of w.deed) refl
    where
      of : (m : Option Mark) (done : Done) → done_of w.deed ≡ Some done
          → copied_by (option_map kept_as m) n w ≡ copy_if m n w.moment done
      of None done e = refl
      of (Some Ground) done e = rw (e) refl
      of (Some Past) done e = rw (e) refl

      by : (d : Option Done) → done_of w.deed ≡ d
          → copied_by (mark_if t xs gs n w.moment d) n w ≡ copy_of t xs gs n w.moment d
      by None e = refl
      by (Some done) e = of (mark_of t xs gs n w.moment done) done e

  pub copied-is : (n : ℕ) (ws : List Written)
      → copied_from n ws (marks_from t xs gs n ws) ≡ copies_from t xs gs n ws
  copied-is n [] = refl
  copied-is n (w ∷ ws) =
      ap (λ (cs : List Written). cs ++ copied_from (n + 1) ws (marks_from t xs gs (n + 1) ws))
      (copy-is n w)
      ∙ ap (λ (cs : List Written). copy_of t xs gs n w.moment (done_of w.deed) ++ cs)
      (copied-is (n + 1) ws)

  -- how many they are
  one-is : (n s : ℕ) (d : Option Done)
      → length (copy_of t xs gs n s d) ≡ one_of (mark_if t xs gs n s d)
  one-is n s None = refl
  one-is n s (Some done) = by (mark_of t xs gs n s done)
    where
      by : (m : Option Mark) → length (copy_if m n s done) ≡ one_of (option_map kept_as m)
      by None = refl
      by (Some Ground) = refl
      by (Some Past) = refl

  pub count-is : (n : ℕ) (ws : List Written)
      → length (copies_from t xs gs n ws) ≡ count_some (marks_from t xs gs n ws)
  count-is n [] = refl
  count-is n (w ∷ ws) =
      let both = length-append (copy_of t xs gs n w.moment (done_of w.deed)) (copies_from t xs gs (n + 1) ws) in
      let one = one-is n w.moment (done_of w.deed) in
      let ih = count-is (n + 1) ws in
      omega (arith, both, one, ih)

  -- what they count
  abbrev size_of : Option Done → ℕ
  size_of None = 0
  size_of (Some done) = done_size done

  size-same : (d : Deed) (done : Done) → done_of d ≡ Some done → done_size done ≡ deed_size d
  size-same (Asks c a) done e = ap size_of (sym e)
  size-same (Sends p b v) done e = ap size_of (sym e)
  size-same (Hears p b) done e = ap size_of (sym e)
  size-same (Carries k mark d) done e = ap size_of (sym e)
  size-same (Opens c) done e = absurd cc
  size-same Passes done e = absurd cc
  size-same (Answers c k g) done e = absurd cc
  size-same (Shuts c) done e = absurd cc
  size-same Seals done e = absurd cc

  size-is : (n : ℕ) (w : Written)
      → sum_by entry_size (copy_of t xs gs n w.moment (done_of w.deed))
      ≡ size_if (mark_if t xs gs n w.moment (done_of w.deed)) (entry_size w)
  size-is n w = by (done_of w.deed) refl
    where
      of : (m : Option Mark) (done : Done) → done_of w.deed ≡ Some done
          → sum_by entry_size (copy_if m n w.moment done) ≡ size_if (option_map kept_as m) (entry_size w)
      of None done e = refl
      of (Some Ground) done e = let same = size-same w.deed done e in omega (arith, same)
      of (Some Past) done e = let same = size-same w.deed done e in omega (arith, same)

      by : (d : Option Done) → done_of w.deed ≡ d
          → sum_by entry_size (copy_of t xs gs n w.moment d)
          ≡ size_if (mark_if t xs gs n w.moment d) (entry_size w)
      by None e = refl
      by (Some done) e = of (mark_of t xs gs n w.moment done) done e

  pub bytes-are : (n : ℕ) (ws : List Written)
      → sum_by entry_size (copies_from t xs gs n ws) ≡ weigh (marks_from t xs gs n ws) ws
  bytes-are n [] = refl
  bytes-are n (w ∷ ws) =
      let both = sum_by-append entry_size (copy_of t xs gs n w.moment (done_of w.deed)) (copies_from t xs gs (n + 1) ws) in
      let one = size-is n w in
      let ih = bytes-are (n + 1) ws in
      omega (arith, both, one, ih)

-- A count that is capped is as small as it is.
capped-le : (n k : ℕ) → k < 2 ^ 64 - 1 → leb (capped n) k ≡ leb n k
capped-le n k small = by (leb n k) refl
  where
    by : (b : Bool) → leb n k ≡ b → leb (capped n) k ≡ leb n k
    by true e = let le = leb-true n k e in le-leb (capped n) k (omega (arith, le)) ∙ sym e
    by false e = let lt = leb-false n k e in lt-leb (capped n) k (omega (arith, lt, small)) ∙ sym e

pub few-is : (t : ℕ) (ws : List Written) (gs : List ℕ) (m : Marks) → AreMarks t ws gs m
    → (leb m.count MAX_COPIES && leb m.bytes MAX_COPIES_LEN) ≡ are_few (copies_with t ws gs)
few-is t ws gs m h =
    let count : m.count ≡ capped (length (copies_with t ws gs)) =
    h.count ∙ ap capped (ap count_some h.marks ∙ sym (count-is t (seen ws) gs 0 ws)) in
    let bytes : m.bytes ≡ capped (sum_by entry_size (copies_with t ws gs)) =
    h.bytes ∙ ap capped (ap (λ (ms : List (Option RustMark)). weigh ms ws) h.marks ∙ sym (bytes-are t (seen ws) gs 0 ws)) in
    ap (λ (b : Bool). b && leb m.bytes MAX_COPIES_LEN)
    (ap (λ (k : ℕ). leb k MAX_COPIES) count ∙ capped-le (length (copies_with t ws gs)) MAX_COPIES (omega arith))
    ∙ ap (λ (b : Bool). leb (length (copies_with t ws gs)) MAX_COPIES && b)
    (ap (λ (k : ℕ). leb k MAX_COPIES_LEN) bytes ∙ capped-le (sum_by entry_size (copies_with t ws gs)) MAX_COPIES_LEN (omega arith))

-- What a copy adds to the count.
pub counted-bytes : (es : List Written) (w : Written) → capped (capped (sum_by entry_size es) + capped (entry_size w)) ≡ capped (sum_by entry_size (es ++ w ∷ []))
counted-bytes es w = let more = sum_by_push entry_size es w in by (sum_by entry_size es) (entry_size w) (sum_by entry_size (es ++ w ∷ [])) more
  where
    by : (a b c : ℕ) → c ≡ a + b → capped (capped a + capped b) ≡ capped c
    by a b c e = omega (arith, e)

-- The peers of copies.

pub peers-more : (ws vs : List Written) → peers_in (ws ++ vs) ≡ peers_in ws ++ peers_in vs
peers-more [] vs = refl
peers-more (w ∷ ws) vs =
    ap (λ (ps : List Peer). option_to_list (peer_of w.deed) ++ ps) (peers-more ws vs) ∙ sym (append_assoc (option_to_list (peer_of w.deed)) (peers_in ws) (peers_in vs))

pub peers-push : (es : List Written) (w : Written) → peers_in (es ++ w ∷ []) ≡ peers_in es ++ option_to_list (peer_of w.deed)
peers-push es w = peers-more es (w ∷ []) ∙ ap (λ (ps : List Peer). peers_in es ++ ps) (append-nil (option_to_list (peer_of w.deed)))

-- They are those of which something is copied.
pub peers-of : (p : Peer) (ws : List Written) → list_any (λ (q : Peer). same_peer q p) (peers_in ws) ≡ list_any (λ (w : Written). is_of p w.deed) ws
peers-of p [] = refl
peers-of p (w ∷ ws) = by w.deed (peers-of p ws)
  where
    by : (d : Deed) → list_any (λ (q : Peer). same_peer q p) (peers_in ws) ≡ list_any (λ (v : Written). is_of p v.deed) ws
        → list_any (λ (q : Peer). same_peer q p) (option_to_list (peer_of d) ++ peers_in ws) ≡ (is_of p d || list_any (λ (v : Written). is_of p v.deed) ws)
    by (Carries n mark (Sent q b v)) rest = ap (λ (any : Bool). same_peer q p || any) rest
    by (Carries n mark (Heard q b)) rest = ap (λ (any : Bool). same_peer q p || any) rest
    by (Carries n mark (Asked c a)) rest = rest
    by (Opens c) rest = rest
    by (Asks c a) rest = rest
    by (Sends q b v) rest = rest
    by (Hears q b) rest = rest
    by Passes rest = rest
    by (Answers c k g) rest = rest
    by (Shuts c) rest = rest
    by Seals rest = rest
