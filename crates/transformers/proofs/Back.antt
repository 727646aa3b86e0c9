-- What is written of a sound value reads back as the value.
use Rattle.std.proofs.Common.{◌≡◌, ℕ, ◌-◌, ◌<◌, ◌≤◌, ◌^◌, ◌++◌, negsuc, List, [], ◌∷◌, length, nat_cmp, Bool, true, false, Greater, Some, None, refl, sym, ap, ◌∙◌, subst, arith, append_assoc, append-nil}
use Rattle.std.proofs.lemmas.List.{length-append}
use Rattle.std.proofs.Math.Seq.{take-append_seam, drop-append_seam}
use Rattle.std.proofs.lemmas.Bool.{lt-ltb}
use Rattle.std.proofs.lemmas.Cmp.{nat_list_cmp_total}
use Rattle.std.specs.Cmp.Lexicographic.{slice_cmp}
use Rattle.std.specs.Ordering.{ordering_reverse}
use Rattle.std.specs.Str.{IsUtf8}
use Rattle.serde_json.specs.Data.{Num, unsigned, negative, float, Data, null, boolean, number, string, array, object, Items, no_items, item, Members, no_members, member, depth, items_depth, members_depth}
use Rattle.serde_json.specs.Events.{items_len, members_len}
use Rattle.serde_json.specs.Find.{get_member}
use Rattle.serde_json.specs.View.{items_of}
use Rattle.serde_json.specs.Written.{has_float, items_have_float, members_have_float}
use Rattle.transformers.specs.declared.head.Major.TheVariants.{Unsigned, Negative, Text, Array, Map}
use Rattle.transformers.specs.Item.{item_at, simple_at, key_at, text_at, negative_of, many_at, next_item, next_member, put_new, denoted}
use Rattle.transformers.specs.ReadBack.{ReadsBack}
use Rattle.transformers.specs.Shortest.{shortest, shortest_head, text_bytes, items_bytes, members_bytes}
use Rattle.transformers.specs.Told.{IsInRange, IsSound, AreSound, AreSoundMembers}
use Rattle.transformers.proofs.Compact.{joined, joined_end, joined_on, below_at, sound_at, put_end}
use Rattle.transformers.proofs.Heads.{head_back}
use Rattle.transformers.proofs.Items.{read_simple, read_body, item_read, member_read, array_read, map_read}
use Rattle.transformers.proofs.Texts.{text_read}
use Rattle.transformers.proofs.Within.{both_false}

-- ---- one value

null_back : (levels : ℕ) → ReadsBack levels null
unfolding simple_at
null_back levels rest = read_simple levels (246 ∷ rest) (null, rest) refl

boolean_back : (levels : ℕ) (b : Bool) → ReadsBack levels (boolean b)
unfolding simple_at
boolean_back levels true rest = read_simple levels (245 ∷ rest) (boolean true, rest) refl
boolean_back levels false rest = read_simple levels (244 ∷ rest) (boolean false, rest) refl

unsigned_back : (levels n : ℕ) → ReadsBack levels (number (unsigned n))
unsigned_back levels n rest =
    let h = head_back Unsigned n rest in
    read_body levels (shortest_head Unsigned n ++ rest) (Unsigned, n, rest) h.1 h.0

negative_back : (levels n : ℕ) → n < 2 ^ 63 → ReadsBack levels (number (negative (negsuc n)))
unfolding negative_of
negative_back levels n lt rest =
    let h = head_back Negative n rest in
    read_body levels (shortest_head Negative n ++ rest) (Negative, n, rest) h.1 h.0 ∙ rw (lt-ltb n (2 ^ 63) lt) refl

number_back : (levels : ℕ) (x : Num) → IsInRange x → ReadsBack levels (number x)
number_back levels (unsigned n) ok rest = unsigned_back levels n rest
number_back levels (negative z) ok rest =
    subst (λ z. ReadsBack levels (number (negative z))) (sym ok.1) (negative_back levels ok.0 ok.2) rest
number_back levels (float x) ok rest = absurd ok

text_again : (s rest : List ℕ) → IsUtf8 s → text_at (length s) (s ++ rest) ≡ Some (s, rest)
text_again s rest utf8 =
    text_read (length s) (s ++ rest) s (rw (length-append s rest) (omega arith)) (sym (take-append_seam s rest)) utf8
    ∙ ap (λ (t : List ℕ). Some (s, t)) (drop-append_seam s rest)

text_back : (levels : ℕ) (s : List ℕ) → IsUtf8 s → ReadsBack levels (string s)
unfolding text_bytes
text_back levels s utf8 rest =
    let h = head_back Text (length s) (s ++ rest) in
    ap (item_at levels) (append_assoc (shortest_head Text (length s)) s rest)
    ∙ read_body levels (shortest_head Text (length s) ++ (s ++ rest)) (Text, length s, s ++ rest) h.1 h.0
    ∙ rw (text_again s rest utf8) refl

key_back : (s rest : List ℕ) → IsUtf8 s → key_at (text_bytes s ++ rest) ≡ Some (s, rest)
unfolding text_bytes key_at
key_back s rest utf8 =
    let h = head_back Text (length s) (s ++ rest) in
    ap key_at (append_assoc (shortest_head Text (length s)) s rest) ∙ rw h.0 (text_again s rest utf8)

-- ---- arrays

abbrev items_list : Items → List Data
items_list no_items = []
items_list (item d ds) = d ∷ items_list ds

items_same : (ds : Items) → items_of (items_list ds) ≡ ds
items_same no_items = refl
items_same (item d ds) = ap (item d) (items_same ds)

abbrev ItemsBack : ℕ → Items → List Data → Type 0
ItemsBack levels ds found = (rest : List ℕ) → many_at (next_item (item_at levels)) (items_len ds) found (items_bytes ds ++ rest) ≡ Some (found ++ items_list ds, rest)

array_back : (levels : ℕ) (ds : Items) → 0 < levels → ItemsBack (levels - 1) ds [] → ReadsBack levels (array ds)
array_back levels ds lt all rest =
    let n = items_len ds in
    let body = items_bytes ds in
    let h = head_back Array n (body ++ rest) in
    ap (item_at levels) (append_assoc (shortest_head Array n) body rest)
    ∙ read_body levels (shortest_head Array n ++ (body ++ rest)) (Array, n, body ++ rest) h.1 h.0
    ∙ array_read levels n (body ++ rest) (items_list ds, rest) lt (all rest)
    ∙ ap (λ (es : Items). Some (array es, rest)) (items_same ds)

-- ---- maps

text_at_key : (found : Members) (k : List ℕ) (d : Data) (ms : Members) → AreSoundMembers (joined found (member k d ms)) → IsUtf8 k
text_at_key no_members k d ms h = h.0
text_at_key (member l e found) k d ms h = text_at_key found k d ms h.3

absent : (found : Members) (k : List ℕ) (d : Data) (ms : Members) → AreSoundMembers (joined found (member k d ms)) → get_member k found ≡ None
absent no_members k d ms h = refl
absent (member l e found) k d ms h =
    let greater : slice_cmp nat_cmp k l ≡ Greater = nat_list_cmp_total.antisymm k l ∙ ap ordering_reverse (below_at l found k d ms h.1) in
    rw greater (absent found k d ms h.3)

put_next : (found : Members) (k : List ℕ) (d : Data) (ms : Members) → AreSoundMembers (joined found (member k d ms)) → put_new k d found ≡ Some (joined found (member k d no_members))
unfolding put_new
put_next found k d ms h = rw (absent found k d ms h, put_end found k d ms h) refl

abbrev MembersBack : ℕ → Members → Members → Type 0
MembersBack levels ms found = (rest : List ℕ) → many_at (next_member (item_at levels)) (members_len ms) found (members_bytes ms ++ rest) ≡ Some (joined found ms, rest)

map_back : (levels : ℕ) (ms : Members) → 0 < levels → MembersBack (levels - 1) ms no_members → ReadsBack levels (object ms)
map_back levels ms lt all rest =
    let n = members_len ms in
    let body = members_bytes ms in
    let h = head_back Map n (body ++ rest) in
    ap (item_at levels) (append_assoc (shortest_head Map n) body rest)
    ∙ read_body levels (shortest_head Map n ++ (body ++ rest)) (Map, n, body ++ rest) h.1 h.0
    ∙ map_read levels n (body ++ rest) (ms, rest) lt (all rest)

-- ---- any value

mutual
  unfolding many_at

  pub sound_back : (d : Data) (levels : ℕ) → IsSound d → depth d ≤ levels → ReadsBack levels d
  sound_back null levels h n rest = null_back levels rest
  sound_back (boolean b) levels h n rest = boolean_back levels b rest
  sound_back (number x) levels h n rest = number_back levels x h rest
  sound_back (string s) levels h n rest = text_back levels s h rest
  sound_back (array ds) levels h n rest = array_back levels ds (omega (arith, n)) (items_back ds (levels - 1) [] h (omega (arith, n))) rest
  sound_back (object ms) levels h n rest = map_back levels ms (omega (arith, n)) (members_back ms (levels - 1) no_members h (omega (arith, n))) rest

  items_back : (ds : Items) (levels : ℕ) (found : List Data) → AreSound ds → items_depth ds ≤ levels → ItemsBack levels ds found
  items_back no_items levels found h n rest = ap (λ (fs : List Data). Some (fs, rest)) (sym (append-nil found))
  items_back (item d ds) levels found h n rest =
      let later = items_bytes ds ++ rest in
      let here : next_item (item_at levels) found ((shortest d ++ items_bytes ds) ++ rest) ≡ Some (found ++ d ∷ [], later) =
      ap (next_item (item_at levels) found) (append_assoc (shortest d) (items_bytes ds) rest)
      ∙ item_read (item_at levels) found (shortest d ++ later) (d, later) (sound_back d levels h.0 (omega (arith, n)) later) in
      rw here (items_back ds levels (found ++ d ∷ []) h.1 (omega (arith, n)) rest) ∙ ap (λ (fs : List Data). Some (fs, rest)) (append_assoc found (d ∷ []) (items_list ds))

  members_back : (ms : Members) (levels : ℕ) (found : Members) → AreSoundMembers (joined found ms) → members_depth ms ≤ levels → MembersBack levels ms found
  members_back no_members levels found h n rest = ap (λ (fs : Members). Some (fs, rest)) (sym (joined_end found))
  members_back (member k d ms) levels found h n rest =
      let one = item_at levels in
      let others = members_bytes ms in
      let later = others ++ rest in
      let next = joined found (member k d no_members) in
      let text : (text_bytes k ++ (shortest d ++ others)) ++ rest ≡ text_bytes k ++ (shortest d ++ later) =
      append_assoc (text_bytes k) (shortest d ++ others) rest ∙ ap (λ (t : List ℕ). text_bytes k ++ t) (append_assoc (shortest d) others rest) in
      let here : next_member one found ((text_bytes k ++ (shortest d ++ others)) ++ rest) ≡ Some (next, later) =
      ap (next_member one found) text ∙ member_read one found (text_bytes k ++ (shortest d ++ later)) (k, shortest d ++ later) (d, later) next
      (key_back k (shortest d ++ later) (text_at_key found k d ms h)) (sound_back d levels (sound_at found k d ms h) (omega (arith, n)) later) (put_next found k d ms h) in
      let same = joined_on found k d ms in
      rw here (members_back ms levels next (subst AreSoundMembers (sym same) h) (omega (arith, n)) rest) ∙ ap (λ (fs : Members). Some (fs, rest)) same

-- ---- a sound value has no float

mutual
  pub sound_whole : (d : Data) → IsSound d → has_float d ≡ false
  sound_whole null h = refl
  sound_whole (boolean b) h = refl
  sound_whole (number (unsigned n)) h = refl
  sound_whole (number (negative z)) h = refl
  sound_whole (number (float x)) h = absurd h
  sound_whole (string s) h = refl
  sound_whole (array ds) h = sound_items_whole ds h
  sound_whole (object ms) h = sound_members_whole ms h

  sound_items_whole : (ds : Items) → AreSound ds → items_have_float ds ≡ false
  sound_items_whole no_items h = refl
  sound_items_whole (item d ds) h = both_false (has_float d) (items_have_float ds) (sound_whole d h.0) (sound_items_whole ds h.1)

  sound_members_whole : (ms : Members) → AreSoundMembers ms → members_have_float ms ≡ false
  sound_members_whole no_members h = refl
  sound_members_whole (member k d ms) h = both_false (has_float d) (members_have_float ms) (sound_whole d h.2) (sound_members_whole ms h.3)

-- ---- a whole output

pub whole_back : (d : Data) → ReadsBack 32 d → denoted (shortest d) ≡ Some d
unfolding denoted
whole_back d back =
    let read : item_at 32 (shortest d) ≡ Some (d, []) = ap (item_at 32) (sym (append-nil (shortest d))) ∙ back [] in
    rw read refl
