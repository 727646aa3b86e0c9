-- The compact text of a sound value is UTF-8, and reads as that value.
use Rattle.std.proofs.Common.{◌≡◌, ℕ, suc, max, ◌≤◌, ℤ, negsuc, List, [], ◌∷◌, Bool, true, false, Some, option_map, option_and_then, Ordering, Less, Equal, Greater, IsUtf8, refl, sym, ap, ap₂, ◌∙◌, subst, arith, append-nil}
use Rattle.std.proofs.lemmas.Cmp.{nat_list_cmp_total}
use Rattle.std.proofs.lemmas.Fmt.{IsAscii-decimal, IsAscii-signed}
use Rattle.std.proofs.lemmas.Str.{IsUtf8-append, IsUtf8-from_ascii}
use Rattle.std.specs.Cmp.Lexicographic.{slice_cmp}
use Rattle.std.specs.Fmt.{signed_decimal}
use Rattle.std.specs.Ordering.{match_ordering, nat_cmp, ordering_reverse}
use Rattle.json.specs.Lex.{tokens}
use Rattle.json.specs.Print.{quoted, IsNumber}
use Rattle.json.specs.Json as json
use Rattle.json.specs.Token.{Token}
use Rattle.json.specs.Tree as tree
use Rattle.json.proofs.Printed.Decimals.{IsNumber-decimal, IsNumber-signed_decimal}
use Rattle.json.proofs.Printed.Tokens.{tokens-print}
use Rattle.json.proofs.Printed.Trees.{value-json_tokens, ArePrintable-json_tokens}
use Rattle.json.proofs.Printed.Utf8.{IsUtf8-are_ascii, IsUtf8-quoted}
use Rattle.serde_json.specs.Data.{Num, unsigned, negative, float, Data, null, boolean, number, string, array, object, Items, no_items, item, Members, no_members, member, put, depth, items_depth, members_depth}
use Rattle.serde_json.specs.Read.{number_of, of_json, of_items, of_members, max_depth, read}
use Rattle.serde_json.specs.Written.{number_text, outline, items_outline, members_outline, comma_if, compact_text, items_text, members_text}
use Rattle.serde_json.proofs.Numbers.{number_of-decimal, number_of-negative}
use Rattle.serde_json.proofs.Texts.{print-outline}
use Rattle.transformers.specs.Told.{IsInRange, IsBelow, IsSound, AreSound, AreSoundMembers}

-- ---- the order of keys

pub above : (k l : List ℕ) → slice_cmp nat_cmp k l ≡ Greater → slice_cmp nat_cmp l k ≡ Less
above k l e = nat_list_cmp_total.antisymm l k ∙ ap ordering_reverse e

pub below_all : (k l : List ℕ) (ms : Members) → slice_cmp nat_cmp k l ≡ Less → IsBelow l ms → IsBelow k ms
below_all k l no_members lt h = tt
below_all k l (member m d ms) lt h = (nat_list_cmp_total.trans k l m lt h.0, below_all k l ms lt h.1)

-- a property of each of three that a comparison chooses from
chosen : (P : Members → Type 0) (o : Ordering) (x y z : Members) → P x → P y → P z → P (match_ordering o x y z)
chosen P Less x y z p q r = p
chosen P Equal x y z p q r = q
chosen P Greater x y z p q r = r

pub below_put : (l k : List ℕ) (d : Data) (ms : Members) → slice_cmp nat_cmp l k ≡ Less → IsBelow l ms → IsBelow l (put k d ms)
below_put l k d no_members lt h = (lt, tt)
below_put l k d (member m e ms) lt h =
    chosen (λ (r : Members). IsBelow l r) (slice_cmp nat_cmp k m) (member k d (member m e ms)) (member m d ms) (member m e (put k d ms)) (lt, h) h (h.0, below_put l k d ms lt h.1)

put_sound_at : (o : Ordering) (k : List ℕ) (d : Data) (l : List ℕ) (e : Data) (ms : Members) → slice_cmp nat_cmp k l ≡ o → IsUtf8 k → IsSound d → AreSoundMembers (member l e ms) → AreSoundMembers (put k d ms)
    → AreSoundMembers (match_ordering o (member k d (member l e ms)) (member l d ms) (member l e (put k d ms)))
put_sound_at Less k d l e ms is text one all later = (text, (is, below_all k l ms is all.1), one, all)
put_sound_at Equal k d l e ms is text one all later = (all.0, all.1, one, all.3)
put_sound_at Greater k d l e ms is text one all later = (all.0, below_put l k d ms (above k l is) all.1, all.2, later)

pub put_sound : (k : List ℕ) (d : Data) (ms : Members) → IsUtf8 k → IsSound d → AreSoundMembers ms → AreSoundMembers (put k d ms)
put_sound k d no_members text one all = (text, tt, one, tt)
put_sound k d (member l e ms) text one all = put_sound_at (slice_cmp nat_cmp k l) k d l e ms refl text one all (put_sound k d ms text one all.3)

-- ---- members that go in one after another, in the order of their keys

abbrev pub joined : Members → Members → Members
joined no_members ms = ms
joined (member k d found) ms = member k d (joined found ms)

pub joined_end : (found : Members) → joined found no_members ≡ found
joined_end no_members = refl
joined_end (member k d found) = ap (member k d) (joined_end found)

pub joined_on : (found : Members) (k : List ℕ) (d : Data) (ms : Members) → joined (joined found (member k d no_members)) ms ≡ joined found (member k d ms)
joined_on no_members k d ms = refl
joined_on (member l e found) k d ms = ap (member l e) (joined_on found k d ms)

pub below_at : (l : List ℕ) (found : Members) (k : List ℕ) (d : Data) (ms : Members) → IsBelow l (joined found (member k d ms)) → slice_cmp nat_cmp l k ≡ Less
below_at l no_members k d ms h = h.0
below_at l (member m e found) k d ms h = below_at l found k d ms h.1

pub sound_at : (found : Members) (k : List ℕ) (d : Data) (ms : Members) → AreSoundMembers (joined found (member k d ms)) → IsSound d
sound_at no_members k d ms h = h.2
sound_at (member l e found) k d ms h = sound_at found k d ms h.3

pub put_end : (found : Members) (k : List ℕ) (d : Data) (ms : Members) → AreSoundMembers (joined found (member k d ms)) → put k d found ≡ joined found (member k d no_members)
put_end no_members k d ms h = refl
put_end (member l e found) k d ms h =
    let greater : slice_cmp nat_cmp k l ≡ Greater = nat_list_cmp_total.antisymm k l ∙ ap ordering_reverse (below_at l found k d ms h.1) in
    rw greater (ap (member l e) (put_end found k d ms h.3))

-- ---- numbers

number_back : (n : Num) → IsInRange n → number_of (number_text n) ≡ Some n
number_back (unsigned n) h = number_of-decimal n h
number_back (negative z) h = subst (λ (y : ℤ). number_of (signed_decimal y) ≡ Some (negative y)) (sym h.1) (number_of-negative h.0 h.2)
number_back (float x) h = absurd h

is_number : (n : Num) → IsInRange n → IsNumber (number_text n)
is_number (unsigned n) h = IsNumber-decimal n h
is_number (negative z) h = subst (λ (y : ℤ). IsNumber (signed_decimal y)) (sym h.1) (IsNumber-signed_decimal (negsuc h.0) (omega (arith, h.2)))
is_number (float x) h = absurd h

number_utf8 : (n : Num) → IsInRange n → IsUtf8 (number_text n)
number_utf8 (unsigned n) h = IsUtf8-from_ascii _ (IsAscii-decimal n h)
number_utf8 (negative z) h = subst (λ (y : ℤ). IsUtf8 (signed_decimal y)) (sym h.1) (IsUtf8-from_ascii _ (IsAscii-signed (negsuc h.0) (omega (arith, h.2))))
number_utf8 (float x) h = absurd h

mutual
  numbers : (d : Data) → IsSound d → tree.HasNumbers (outline d)
  numbers null h = tt
  numbers (boolean b) h = tt
  numbers (number n) h = is_number n h
  numbers (string s) h = tt
  numbers (array ds) h = items_numbers ds h
  numbers (object ms) h = members_numbers ms h

  items_numbers : (ds : Items) → AreSound ds → tree.ItemsHaveNumbers (items_outline ds)
  items_numbers no_items h = tt
  items_numbers (item d ds) h = (numbers d h.0, items_numbers ds h.1)

  members_numbers : (ms : Members) → AreSoundMembers ms → tree.MembersHaveNumbers (members_outline ms)
  members_numbers no_members h = tt
  members_numbers (member k d ms) h = (numbers d h.2, members_numbers ms h.3)

-- ---- the value

mutual
  json_back : (d : Data) → IsSound d → of_json (outline d) ≡ Some d
  json_back null h = refl
  json_back (boolean b) h = refl
  json_back (number n) h = ap (option_map number) (number_back n h)
  json_back (string s) h = refl
  json_back (array ds) h = ap (option_map array) (items_back ds h)
  json_back (object ms) h = ap (option_map object) (members_back no_members ms h)

  items_back : (ds : Items) → AreSound ds → of_items (items_outline ds) ≡ Some ds
  items_back no_items h = refl
  items_back (item d ds) h = rw (json_back d h.0, items_back ds h.1) refl

  members_back : (found ms : Members) → AreSoundMembers (joined found ms) → of_members (members_outline ms) found ≡ Some (joined found ms)
  members_back found no_members h = ap Some (sym (joined_end found))
  members_back found (member k d ms) h =
      let next = members_back (joined found (member k d no_members)) ms (subst AreSoundMembers (sym (joined_on found k d ms)) h) in
      rw (json_back d (sound_at found k d ms h)) (ap (λ (f : Members). of_members (members_outline ms) f) (put_end found k d ms h) ∙ next ∙ ap Some (joined_on found k d ms))

mutual
  same_depth : (d : Data) → tree.depth (outline d) ≡ depth d
  same_depth null = refl
  same_depth (boolean b) = refl
  same_depth (number n) = refl
  same_depth (string s) = refl
  same_depth (array ds) = ap suc (same_items_depth ds)
  same_depth (object ms) = ap suc (same_members_depth ms)

  same_items_depth : (ds : Items) → tree.items_depth (items_outline ds) ≡ items_depth ds
  same_items_depth no_items = refl
  same_items_depth (item d ds) = ap₂ max (same_depth d) (same_items_depth ds)

  same_members_depth : (ms : Members) → tree.members_depth (members_outline ms) ≡ members_depth ms
  same_members_depth no_members = refl
  same_members_depth (member k d ms) = ap₂ max (same_depth d) (same_members_depth ms)

pub read_compact : (d : Data) → IsSound d → depth d ≤ max_depth → read (compact_text d) ≡ Some d
read_compact d sound shallow =
    let j = outline d in
    let lexed : tokens (compact_text d) ≡ tree.json_tokens j = ap tokens (sym (print-outline d)) ∙ tokens-print (tree.json_tokens j) (ArePrintable-json_tokens j (numbers d sound)) in
    ap (λ (ts : List Token). option_and_then of_json (option_and_then (λ p. json.if_last p.0 p.1) (json.value max_depth ts))) (lexed ∙ sym (append-nil (tree.json_tokens j)))
    ∙ ap (λ o. option_and_then of_json (option_and_then (λ p. json.if_last p.0 p.1) o)) (value-json_tokens j max_depth [] (omega (arith, same_depth d, shallow)))
    ∙ json_back d sound

-- ---- UTF-8

comma_utf8 : (later : Bool) → IsUtf8 (comma_if later)
comma_utf8 true = IsUtf8-are_ascii (44 ∷ []) refl
comma_utf8 false = IsUtf8-are_ascii [] refl

mutual
  pub compact_utf8 : (d : Data) → IsSound d → IsUtf8 (compact_text d)
  compact_utf8 null h = IsUtf8-are_ascii _ refl
  compact_utf8 (boolean true) h = IsUtf8-are_ascii _ refl
  compact_utf8 (boolean false) h = IsUtf8-are_ascii _ refl
  compact_utf8 (number n) h = number_utf8 n h
  compact_utf8 (string s) h = IsUtf8-quoted s h
  compact_utf8 (array ds) h = IsUtf8-append (91 ∷ []) (items_text false ds) (IsUtf8-are_ascii (91 ∷ []) refl) (items_utf8 false ds h)
  compact_utf8 (object ms) h = IsUtf8-append (123 ∷ []) (members_text false ms) (IsUtf8-are_ascii (123 ∷ []) refl) (members_utf8 false ms h)

  items_utf8 : (later : Bool) (ds : Items) → AreSound ds → IsUtf8 (items_text later ds)
  items_utf8 later no_items h = IsUtf8-are_ascii (93 ∷ []) refl
  items_utf8 later (item d ds) h = IsUtf8-append (comma_if later) _ (comma_utf8 later) (IsUtf8-append (compact_text d) _ (compact_utf8 d h.0) (items_utf8 true ds h.1))

  members_utf8 : (later : Bool) (ms : Members) → AreSoundMembers ms → IsUtf8 (members_text later ms)
  members_utf8 later no_members h = IsUtf8-are_ascii (125 ∷ []) refl
  members_utf8 later (member k d ms) h =
      let rest = IsUtf8-append (compact_text d) _ (compact_utf8 d h.2) (members_utf8 true ms h.3) in
      IsUtf8-append (comma_if later) _ (comma_utf8 later) (IsUtf8-append (quoted k) _ (IsUtf8-quoted k h.0) (IsUtf8-append (58 ∷ []) _ (IsUtf8-are_ascii (58 ∷ []) refl) rest))
