-- Hosted paths and queries are taken apart into what they were made of.
use Rattle.std.proofs.Common.{◌≡◌, ℕ, ◌<◌, ◌==◌, true, false, nat_lt, List, [], ◌∷◌, ◌++◌, map, length, drop, Option, Some, None, Result, Ok, refl, sym, ap, ◌∙◌, arith, All, append-nil, length-append, lt-ltb, le-ltb, eq-eqb, ⊎_elim, if◌then◌else◌, length-drop}
use Rattle.std.specs.List.{before_first, slice_split, join_with_byte}
use Rattle.std.proofs.lemmas.List.Splits.{slice_split_at, slice_split_none, join_with_byte-slice_split}
use Rattle.std.proofs.lemmas.List.Elements.{All-nil, All-cons, All-append}
use Rattle.percent_encoding.specs.declared.ascii_set.AsciiSet.{AsciiSet}
use Rattle.percent_encoding.specs.AsciiSet.{should_percent_encode}
use Rattle.percent_encoding.specs.Percent.{percent_encode, percent_decode}
use Rattle.percent_encoding.proofs.PercentLemmas.{IsEscapeByte, length-percent_decode, percent_encode_nonempty}
use Rattle.uri_map.specs.declared.hosting.TheConstants.{SEGMENT, ARGUMENT}
use Rattle.uri_map.specs.declared.fault.UriFault.{UriFault}
use Rattle.uri_map.specs.declared.escapes.Part.TheVariants.{Path, Query}
use Rattle.uri_map.specs.Splitting.{written_path, written_query, from_first}
use Rattle.uri_map.specs.Escapes.{texts_at, part_at}
use Rattle.uri_map.specs.Hosting.{texts_behind, query_text}
use Rattle.uri_map.proofs.Cuts.{Ends, place_of, front_cut}
use Rattle.uri_map.proofs.Escaped.{no_byte, texts_again}
use Rattle.uri_map.proofs.TextLists.{texts_decoded}
use Rattle.uri_map.specs.declared.target.Target.{Target}
use Rattle.uri_map.specs.Naming.{target_at}
use Rattle.uri_map.specs.Marks.{ends_authority}
use Rattle.uri_map.proofs.TargetSteps.{reached}
use Rattle.std.proofs.lemmas.Bool.{cases_lt}
use Rattle.std.proofs.Math.Seq.{drop-append-add}

-- no escape has one of these bytes
no_38 : (b : ℕ) → IsEscapeByte b → b ≡ 38 → ⊥
no_38 b escape e = absurd (grind arith)

pub no_47 : (b : ℕ) → IsEscapeByte b → b ≡ 47 → ⊥
no_47 b escape e = absurd (grind arith)

pub no_58 : (b : ℕ) → IsEscapeByte b → b ≡ 58 → ⊥
no_58 b escape e = absurd (grind arith)

pub no_63 : (b : ℕ) → IsEscapeByte b → b ≡ 63 → ⊥
no_63 b escape e = absurd (grind arith)

pub no_64 : (b : ℕ) → IsEscapeByte b → b ≡ 64 → ⊥
no_64 b escape e = absurd (grind arith)

pub segment_no_slash : (bs : List ℕ) → All (λ b. (b == 47) ≡ false) (percent_encode SEGMENT bs)
unfolding should_percent_encode
segment_no_slash bs = no_byte SEGMENT 47 refl no_47 bs

pub segment_no_question : (bs : List ℕ) → All (λ b. (b == 63) ≡ false) (percent_encode SEGMENT bs)
unfolding should_percent_encode
segment_no_question bs = no_byte SEGMENT 63 refl no_63 bs

argument_no_and : (bs : List ℕ) → All (λ b. (b == 38) ≡ false) (percent_encode ARGUMENT bs)
unfolding should_percent_encode
argument_no_and bs = no_byte ARGUMENT 38 refl no_38 bs

-- texts after a byte are split there
pub split_again : (s : ℕ) (set : AsciiSet) → ((bs : List ℕ) → All (λ b. (b == s) ≡ false) (percent_encode set bs)) → (first : List ℕ) (others : List (List ℕ)) → slice_split (λ b. b == s) (percent_encode set first ++ texts_behind set s others) ≡ percent_encode set first ∷ map (percent_encode set) others
split_again s set none first [] = rw (append-nil (percent_encode set first)) (slice_split_none (λ b. b == s) (percent_encode set first) (none first))
split_again s set none first (o ∷ os) =
    slice_split_at (λ b. b == s) (percent_encode set first) s (percent_encode set o ++ texts_behind set s os) (none first) (eq-eqb s s refl)
    ∙ ap (λ ps. percent_encode set first ∷ ps) (split_again s set none o os)

path_no_question : (path : List (List ℕ)) → All (λ b. (b == 63) ≡ false) (texts_behind SEGMENT 47 path)
path_no_question [] = All-nil _
path_no_question (p ∷ ps) =
    All-append (λ b. (b == 63) ≡ false) (47 ∷ percent_encode SEGMENT p) (texts_behind SEGMENT 47 ps)
    (All-cons (λ b. (b == 63) ≡ false) 47 (percent_encode SEGMENT p) refl (segment_no_question p)) (path_no_question ps)

query_ends : (query : List (List ℕ)) → Ends (λ b. b == 63) (query_text query)
query_ends [] = tt
query_ends (q ∷ qs) = refl

abbrev ok : List (List ℕ) → Result (List (List ℕ)) UriFault
ok texts = Ok texts

no_parts : (path : List (List ℕ)) → [] ≡ path → path ≡ [] ∷ [] → ⊥
no_parts path e one = absurd cc

-- A path that was read is not a single empty segment.
pub record Whole (path : List (List ℕ)) : Type 0 where
  pub whole : path ≡ [] ∷ [] → ⊥

first_of : (q : List ℕ) (qs : List (List ℕ)) → map percent_decode (q ∷ qs) ≡ [] ∷ [] → (percent_decode q ≡ []) × (map percent_decode qs ≡ [])
first_of q qs e = (cc, cc)

single : (ps : List (List ℕ)) → map percent_decode ps ≡ [] ∷ [] → ps ≡ [] ∷ []
single [] e = absurd cc
single (q ∷ []) e =
    let h = first_of q [] e in
    let size = (length-percent_decode q).1 in
    let none : length q ≡ 0 = omega (arith, size, ap length h.0) in
    empty q none
  where
    empty : (xs : List ℕ) → length xs ≡ 0 → xs ∷ [] ≡ [] ∷ []
    empty [] n = refl
    empty (x ∷ xs) n = absurd (omega arith)
single (q ∷ r ∷ qs) e = let h = first_of q (r ∷ qs) e in absurd (no_more (percent_decode r) _ h.1)
  where
    no_more : (x : List ℕ) (xs : List (List ℕ)) → x ∷ xs ≡ [] → ⊥
    no_more x xs n = absurd cc

abbrev chosen : List ℕ → Option (List ℕ)
chosen p = if nat_lt 1 (length p) then Some (drop 1 p) else None

no_segment : (path : List (List ℕ)) → ok [] ≡ ok path → path ≡ [] ∷ [] → ⊥
no_segment path e one = absurd (no_parts path (cc) one)

whole_of : (p : List ℕ) (path : List (List ℕ)) → part_at Path (chosen p) ≡ Ok path → Whole path
whole_of p path e =
    ⊎_elim
    (λ long.
    let read : texts_at Path (slice_split (λ b. b == 47) (drop 1 p)) ≡ Ok path = rw (lt-ltb 1 (length p) long) at e in
    let decoded = texts_decoded Path (slice_split (λ b. b == 47) (drop 1 p)) path read in
    record {
      whole = λ same.
          let one = single (slice_split (λ b. b == 47) (drop 1 p)) (sym decoded ∙ same) in
          let joined : drop 1 p ≡ [] = sym (join_with_byte-slice_split 47 (drop 1 p)) ∙ ap (join_with_byte 47) one in
          absurd (omega (arith, ap length joined, length-drop 1 p));
    })
    (λ short.
    let read : ok [] ≡ ok path = rw (le-ltb 1 (length p) short) at e in
    record { whole = no_segment path read })
    (cases_lt 1 (length p))

pub path_whole : (text : List ℕ) (path : List (List ℕ)) → part_at Path (written_path text) ≡ Ok path → Whole path
path_whole text path e = whole_of (before_first (λ b. b == 63) text) path e

pub segment_percent : should_percent_encode SEGMENT 37 ≡ true
unfolding should_percent_encode
segment_percent = refl

argument_percent : should_percent_encode ARGUMENT 37 ≡ true
unfolding should_percent_encode
argument_percent = refl

path_long : (p : List ℕ) (ps : List (List ℕ)) → Whole (p ∷ ps) → 1 < length (texts_behind SEGMENT 47 (p ∷ ps))
path_long [] [] w = absurd (w.whole refl)
path_long (b ∷ bs) [] w =
    let some : 0 < length (b ∷ bs) = omega arith in
    omega (arith, percent_encode_nonempty SEGMENT (b ∷ bs) some, length-append (percent_encode SEGMENT (b ∷ bs)) [])
path_long p (q ∷ qs) w = omega (arith, length-append (percent_encode SEGMENT p) (texts_behind SEGMENT 47 (q ∷ qs)))

-- A hosted path is read again.
pub path_again : (path query ps : List (List ℕ)) → Whole path → texts_at Path ps ≡ Ok path → part_at Path (written_path (texts_behind SEGMENT 47 path ++ query_text query)) ≡ Ok path
path_again [] query ps w e =
    let cut = front_cut (λ b. b == 63) [] (query_text query) (path_no_question []) (query_ends query) in
    rw cut refl
path_again (p ∷ ps) query from w e =
    let cut = front_cut (λ b. b == 63) (texts_behind SEGMENT 47 (p ∷ ps)) (query_text query) (path_no_question (p ∷ ps)) (query_ends query) in
    let more = lt-ltb 1 (length (texts_behind SEGMENT 47 (p ∷ ps))) (path_long p ps w) in
    rw (cut, more, split_again 47 SEGMENT segment_no_slash p ps) (texts_again SEGMENT refl segment_percent Path from (p ∷ ps) e)

-- A hosted query is read again.
pub query_again : (path query qs : List (List ℕ)) → texts_at Query qs ≡ Ok query → part_at Query (written_query (texts_behind SEGMENT 47 path ++ query_text query)) ≡ Ok query
query_again path [] qs e =
    let P = texts_behind SEGMENT 47 path in
    let place = place_of (λ b. b == 63) P [] (path_no_question path) tt in
    let none = le-ltb (length P) (length (P ++ [])) (omega (arith, length-append P [])) in
    rw (place, none) refl
query_again path (q ∷ qs) from e =
    let P = texts_behind SEGMENT 47 path in
    let Q = query_text (q ∷ qs) in
    let place = place_of (λ b. b == 63) P Q (path_no_question path) refl in
    let some = lt-ltb (length P) (length (P ++ Q)) (omega (arith, length-append P Q)) in
    rw (place, some, drop-append-add P Q 1, split_again 38 ARGUMENT argument_no_and q qs) (texts_again ARGUMENT refl argument_percent Query from (q ∷ qs) e)

-- The path and the query of a target are read again from what hosts them.
pub parts_again : (base text : List ℕ) (t : Target) → target_at base text ≡ Ok t → (part_at Path (written_path (texts_behind SEGMENT 47 t.path ++ query_text t.query)) ≡ Ok t.path) × (part_at Query (written_query (texts_behind SEGMENT 47 t.path ++ query_text t.query)) ≡ Ok t.query)
parts_again base text t e =
    let r = reached base text t e in
    let f = r.found in
    rw (← r.same) (path_again f.path f.query _ (path_whole (from_first ends_authority f.rest) f.path f.path_is) f.path_is, query_again f.path f.query _ f.query_is)
