-- No item that denotes a value is shorter than the one that is written.
use Rattle.std.proofs.Common.{◌≡◌, ℕ, zero, suc, ◌+◌, ◌*◌, ◌/◌, ◌%◌, ◌-◌, ◌<◌, ◌≤◌, ◌==◌, List, [], ◌∷◌, ◌++◌, length, take, drop, Bool, true, false, cond, ltb, Option, Some, None, Ordering, Less, Equal, Greater, refl, sym, ap, ◌∙◌, subst, arith, inl, inr, is_some, nat_cmp}
use Rattle.std.proofs.lemmas.Bool.{ltb-true, ltb-false}
use Rattle.std.proofs.lemmas.List.{length-append, length-take-le, length-drop}
use Rattle.std.proofs.lemmas.Option.{same_Some}
use Rattle.std.specs.Cmp.Lexicographic.{slice_cmp}
use Rattle.std.specs.Ordering.{match_ordering}
use Rattle.std.specs.Str.{is_utf8}
use Rattle.serde_json.specs.Data.{Data, null, boolean, number, string, array, object, unsigned, Members, no_members, member, put}
use Rattle.serde_json.specs.Events.{items_len, members_len}
use Rattle.serde_json.specs.Find.{get_member}
use Rattle.serde_json.specs.View.{items_of}
use Rattle.transformers.specs.declared.head.Major.{Major}
use Rattle.transformers.specs.declared.head.Major.TheVariants.{Unsigned, Negative, Text, Array, Map}
use Rattle.transformers.specs.Item.{◌>>=◌, byte_at, two_at, four_at, eight_at, argument_at, major_of, head_at, key_of, key_at, text_at, negative_of, many_at, next_item, next_member, put_new, array_at, map_at, body_at, simple_at, item_in, item_at, only, denoted}
use Rattle.transformers.specs.Kinds.{IsBytes}
use Rattle.transformers.specs.Shortest.{four_bytes, eight_bytes, shortest_head, text_bytes, shortest, items_bytes, members_bytes}
use Rattle.transformers.proofs.Items.{item_is}
use Rattle.transformers.proofs.Within.{bind_some, either, one_of, negative_is, alone}
use Rattle.transformers.proofs.Writing.{items_count, items_more}

-- a number below a bound in so many bytes of the front
pub record Takes (k bound : ℕ) (bytes : List ℕ) (x : ℕ × List ℕ) : Type 0 where
  pub small : x.0 < bound
  pub count : length bytes ≡ k + length x.1
  pub octets : IsBytes x.1

byte_takes : (bytes : List ℕ) (x : ℕ × List ℕ) → IsBytes bytes → byte_at bytes ≡ Some x → Takes 1 256 bytes x
byte_takes [] x ok e = absurd cc
byte_takes (b ∷ bytes) x ok e =
    subst (λ (y : ℕ × List ℕ). Takes 1 256 (b ∷ bytes) y) (same_Some (b, bytes) x e) (record { small = ok.0; count = omega arith; octets = ok.1 })

-- two numbers of one width, the higher first
twice_takes : (read : List ℕ → Option (ℕ × List ℕ)) (k bound whole : ℕ) → ((high low : ℕ) → high < bound → low < bound → bound * high + low < whole)
    → ((bytes : List ℕ) (x : ℕ × List ℕ) → IsBytes bytes → read bytes ≡ Some x → Takes k bound bytes x)
    → (bytes : List ℕ) (x : ℕ × List ℕ) → IsBytes bytes → (read bytes >>= λ high. read high.1 >>= λ low. Some (bound * high.0 + low.0, low.1)) ≡ Some x
    → Takes (k + k) whole bytes x
twice_takes read k bound whole fits takes bytes x ok e =
    let a = bind_some (read bytes) (λ high. read high.1 >>= λ low. Some (bound * high.0 + low.0, low.1)) x e in
    let s = takes bytes a.0 ok a.1 in
    let b = bind_some (read a.0.1) (λ low. Some (bound * a.0.0 + low.0, low.1)) x a.2 in
    let t = takes a.0.1 b.0 s.octets b.1 in
    subst (λ (y : ℕ × List ℕ). Takes (k + k) whole bytes y) (same_Some (bound * a.0.0 + b.0.0, b.0.1) x b.2)
    (record { small = fits a.0.0 b.0.0 s.small t.small; count = omega (arith, s.count, t.count); octets = t.octets })

two_takes : (bytes : List ℕ) (x : ℕ × List ℕ) → IsBytes bytes → two_at bytes ≡ Some x → Takes 2 65536 bytes x
unfolding two_at
two_takes bytes x ok e = twice_takes byte_at 1 256 65536 (λ high low h l. omega (arith, h, l)) byte_takes bytes x ok e

four_takes : (bytes : List ℕ) (x : ℕ × List ℕ) → IsBytes bytes → four_at bytes ≡ Some x → Takes 4 4294967296 bytes x
unfolding four_at
four_takes bytes x ok e = twice_takes two_at 2 65536 4294967296 (λ high low h l. omega (arith, h, l)) two_takes bytes x ok e

eight_takes : (bytes : List ℕ) (x : ℕ × List ℕ) → IsBytes bytes → eight_at bytes ≡ Some x → Takes 8 18446744073709551616 bytes x
unfolding eight_at
eight_takes bytes x ok e = twice_takes four_at 4 4294967296 18446744073709551616 (λ high low h l. omega (arith, h, l)) four_takes bytes x ok e

-- ---- the length of the shortest head

by_test : (b : Bool) (x y : List ℕ) (k : ℕ) → (b ≡ true → length x ≤ k) → (b ≡ false → length y ≤ k) → length (cond b x y) ≤ k
by_test true x y k f g = f refl
by_test false x y k f g = g refl

four_length : (n : ℕ) → length (four_bytes n) ≡ 4
unfolding four_bytes
four_length n = refl

eight_length : (n : ℕ) → length (eight_bytes n) ≡ 8
unfolding eight_bytes four_bytes
eight_length n = refl

head1 : (m : Major) (n : ℕ) → n < 24 → length (shortest_head m n) ≤ 1
unfolding shortest_head
head1 m n lt = by_test (ltb n 24) _ _ 1 (λ _. omega arith) (λ e. absurd (omega (arith, ltb-false n 24 e, lt)))

head2 : (m : Major) (n : ℕ) → n < 256 → length (shortest_head m n) ≤ 2
unfolding shortest_head
head2 m n lt = by_test (ltb n 24) _ _ 2 (λ _. omega arith)
    (λ _. by_test (ltb n 256) _ _ 2 (λ _. omega arith) (λ e. absurd (omega (arith, ltb-false n 256 e, lt))))

head3 : (m : Major) (n : ℕ) → n < 65536 → length (shortest_head m n) ≤ 3
unfolding shortest_head
head3 m n lt = by_test (ltb n 24) _ _ 3 (λ _. omega arith)
    (λ _. by_test (ltb n 256) _ _ 3 (λ _. omega arith)
    (λ _. by_test (ltb n 65536) _ _ 3 (λ _. omega arith) (λ e. absurd (omega (arith, ltb-false n 65536 e, lt)))))

head5 : (m : Major) (n : ℕ) → n < 4294967296 → length (shortest_head m n) ≤ 5
unfolding shortest_head
head5 m n lt = by_test (ltb n 24) _ _ 5 (λ _. omega arith)
    (λ _. by_test (ltb n 256) _ _ 5 (λ _. omega arith)
    (λ _. by_test (ltb n 65536) _ _ 5 (λ _. omega arith)
    (λ _. by_test (ltb n 4294967296) _ _ 5 (λ _. omega (arith, four_length n)) (λ e. absurd (omega (arith, ltb-false n 4294967296 e, lt))))))

head9 : (m : Major) (n : ℕ) → length (shortest_head m n) ≤ 9
unfolding shortest_head
head9 m n = by_test (ltb n 24) _ _ 9 (λ _. omega arith)
    (λ _. by_test (ltb n 256) _ _ 9 (λ _. omega arith)
    (λ _. by_test (ltb n 65536) _ _ 9 (λ _. omega arith)
    (λ _. by_test (ltb n 4294967296) _ _ 9 (λ _. omega (arith, four_length n)) (λ _. omega (arith, eight_length n)))))

-- ---- a head, and what follows it

-- what is read in front of the rest takes at least the bytes that are written for it
pub record AtLeast (text bytes rest : List ℕ) : Type 0 where
  pub count : length text + length rest ≤ length bytes
  pub octets : IsBytes rest

-- the argument in the bytes after the first
argument_least : (m : Major) (information : ℕ) (bytes : List ℕ) (x : ℕ × List ℕ) → IsBytes bytes → argument_at information bytes ≡ Some x
    → (length (shortest_head m x.0) + length x.1 ≤ suc (length bytes)) × IsBytes x.1
unfolding argument_at
argument_least m i bytes x ok e = elim (either (ltb i 24) (Some (i, bytes)) _ x e) [
  | inl f ↦
      (let is = same_Some (i, bytes) x f.1 in
      subst (λ (y : ℕ × List ℕ). (length (shortest_head m y.0) + length y.1 ≤ suc (length bytes)) × IsBytes y.1) is
      (omega (arith, head1 m i (ltb-true i 24 f.0)), ok))
  | inr f ↦ elim (either (i == 24) (byte_at bytes) _ x f.1) [
    | inl g ↦ (let t = byte_takes bytes x ok g.1 in (omega (arith, t.count, head2 m x.0 t.small), t.octets))
    | inr g ↦ elim (either (i == 25) (two_at bytes) _ x g.1) [
      | inl h ↦ (let t = two_takes bytes x ok h.1 in (omega (arith, t.count, head3 m x.0 t.small), t.octets))
      | inr h ↦ elim (either (i == 26) (four_at bytes) _ x h.1) [
        | inl k ↦ (let t = four_takes bytes x ok k.1 in (omega (arith, t.count, head5 m x.0 t.small), t.octets))
        | inr k ↦ elim (either (i == 27) (eight_at bytes) None x k.1) [
          | inl l ↦ (let t = eight_takes bytes x ok l.1 in (omega (arith, t.count, head9 m x.0), t.octets))
          | inr l ↦ absurd cc
        ]
      ]
    ]
  ]
]

head_least : (bytes : List ℕ) (h : Major × ℕ × List ℕ) → IsBytes bytes → head_at bytes ≡ Some h → AtLeast (shortest_head h.0 h.1) bytes h.2
unfolding head_at
head_least bytes h ok e =
    let first = bind_some (byte_at bytes) _ h e in
    let s = byte_takes bytes first.0 ok first.1 in
    let major = bind_some (major_of (first.0.0 / 32)) _ h first.2 in
    let argument = bind_some (argument_at (first.0.0 % 32) first.0.1) (λ a. Some (major.0, a.0, a.1)) h major.2 in
    let t = argument_least major.0 (first.0.0 % 32) first.0.1 argument.0 s.octets argument.1 in
    subst (λ (y : Major × ℕ × List ℕ). AtLeast (shortest_head y.0 y.1) bytes y.2) (same_Some (major.0, argument.0.0, argument.0.1) h argument.2)
    (record { count = omega (arith, t.0, s.count); octets = t.1 })

-- ---- texts

bytes_drop : (n : ℕ) (bytes : List ℕ) → IsBytes bytes → IsBytes (drop n bytes)
bytes_drop zero bytes ok = ok
bytes_drop (suc n) [] ok = ok
bytes_drop (suc n) (b ∷ bytes) ok = bytes_drop n bytes ok.1

text_least : (n : ℕ) (bytes : List ℕ) (t : List ℕ × List ℕ) → IsBytes bytes → text_at n bytes ≡ Some t
    → (length t.0 ≡ n) × (length t.0 + length t.1 ≡ length bytes) × IsBytes t.1
unfolding text_at
text_least n bytes t ok e = elim (either (ltb (length bytes) n) None _ t e) [
  | inl f ↦ absurd cc
  | inr f ↦ elim (either (is_utf8 (take n bytes)) (Some (take n bytes, drop n bytes)) None t f.1) [
    | inl g ↦
        (let le : n ≤ length bytes = ltb-false (length bytes) n f.0 in
        let front : length (take n bytes) ≡ n = length-take-le n bytes le in
        let back : length (drop n bytes) ≡ length bytes - n = length-drop n bytes in
        subst (λ (y : List ℕ × List ℕ). (length y.0 ≡ n) × (length y.0 + length y.1 ≡ length bytes) × IsBytes y.1) (same_Some (take n bytes, drop n bytes) t g.1)
        (front, omega (arith, front, back, le), bytes_drop n bytes ok))
    | inr g ↦ absurd cc
  ]
]

-- a head and the text that follows it
text_item_least : (n : ℕ) (bytes rest : List ℕ) (t : List ℕ × List ℕ) → AtLeast (shortest_head Text n) bytes rest → text_at n rest ≡ Some t → AtLeast (text_bytes t.0) bytes t.1
unfolding text_bytes
text_item_least n bytes rest t head e =
    let u = text_least n rest t head.octets e in
    let same : shortest_head Text (length t.0) ≡ shortest_head Text n = ap (shortest_head Text) u.0 in
    record { count = rw (length-append (shortest_head Text (length t.0)) t.0, same) (omega (arith, head.count, u.1)); octets = u.2 }

key_of_least : (h : Major × ℕ × List ℕ) (bytes : List ℕ) (k : List ℕ × List ℕ) → AtLeast (shortest_head h.0 h.1) bytes h.2 → key_of h.0 h.1 h.2 ≡ Some k → AtLeast (text_bytes k.0) bytes k.1
key_of_least (Text, n, rest) bytes k head e = text_item_least n bytes rest k head e
key_of_least (Unsigned, n, rest) bytes k head e = absurd cc
key_of_least (Negative, n, rest) bytes k head e = absurd cc
key_of_least (Array, n, rest) bytes k head e = absurd cc
key_of_least (Map, n, rest) bytes k head e = absurd cc

key_least : (bytes : List ℕ) (k : List ℕ × List ℕ) → IsBytes bytes → key_at bytes ≡ Some k → AtLeast (text_bytes k.0) bytes k.1
unfolding key_at
key_least bytes k ok e =
    let h = bind_some (head_at bytes) (λ h. key_of h.0 h.1 h.2) k e in
    key_of_least h.0 bytes k (head_least bytes h.0 ok h.1) h.2

-- ---- arrays and maps

abbrev pub ReadsLeast : (List ℕ → Option (Data × List ℕ)) → Type 0
ReadsLeast one = (bytes : List ℕ) (x : Data × List ℕ) → IsBytes bytes → one bytes ≡ Some x → AtLeast (shortest x.0) bytes x.1

-- n more items, of at least the bytes that are written for them
pub record ItemsLeast (n : ℕ) (found : List Data) (bytes : List ℕ) (y : List Data × List ℕ) : Type 0 where
  pub count : length (items_bytes (items_of y.0)) + length y.1 ≤ length (items_bytes (items_of found)) + length bytes
  pub octets : IsBytes y.1
  pub more : length y.0 ≡ length found + n

next_item_least : (one : List ℕ → Option (Data × List ℕ)) → ReadsLeast one → (found : List Data) (bytes : List ℕ) (y : List Data × List ℕ) → IsBytes bytes
    → next_item one found bytes ≡ Some y → ItemsLeast 1 found bytes y
unfolding next_item
next_item_least one least found bytes y ok e =
    let b = bind_some (one bytes) (λ x. Some (found ++ x.0 ∷ [], x.1)) y e in
    let s = least bytes b.0 ok b.1 in
    let longer : length (items_bytes (items_of (found ++ b.0.0 ∷ []))) ≡ length (items_bytes (items_of found)) + length (shortest b.0.0) =
    ap length (items_more found b.0.0) ∙ length-append (items_bytes (items_of found)) (shortest b.0.0) in
    let one_more : length (found ++ b.0.0 ∷ []) ≡ length found + 1 = length-append found (b.0.0 ∷ []) in
    subst (λ (z : List Data × List ℕ). ItemsLeast 1 found bytes z) (same_Some (found ++ b.0.0 ∷ [], b.0.1) y b.2)
    (record { count = omega (arith, longer, s.count); octets = s.octets; more = one_more })

items_least : (one : List ℕ → Option (Data × List ℕ)) → ReadsLeast one → (n : ℕ) (found : List Data) (bytes : List ℕ) (y : List Data × List ℕ) → IsBytes bytes
    → many_at (next_item one) n found bytes ≡ Some y → ItemsLeast n found bytes y
unfolding many_at
items_least one least zero found bytes y ok e =
    subst (λ (z : List Data × List ℕ). ItemsLeast 0 found bytes z) (same_Some (found, bytes) y e) (record { count = omega arith; octets = ok; more = omega arith })
items_least one least (suc n) found bytes y ok e =
    let b = bind_some (next_item one found bytes) (λ x. many_at (next_item one) n x.0 x.1) y e in
    let s = next_item_least one least found bytes b.0 ok b.1 in
    let t = items_least one least n b.0.0 b.0.1 y s.octets b.2 in
    record { count = omega (arith, s.count, t.count); octets = t.octets; more = omega (arith, s.more, t.more) }

-- what is written for one more member
MoreBytes : List ℕ → Data → Members → Members → Type 0
MoreBytes k d ms all = (length (members_bytes all) ≡ length (members_bytes ms) + (length (text_bytes k) + length (shortest d))) × (members_len all ≡ suc (members_len ms))

front_bytes : (k : List ℕ) (d : Data) (ms : Members) → length (members_bytes (member k d ms)) ≡ length (text_bytes k) + (length (shortest d) + length (members_bytes ms))
front_bytes k d ms = length-append (text_bytes k) (shortest d ++ members_bytes ms) ∙ ap (λ (n : ℕ). length (text_bytes k) + n) (length-append (shortest d) (members_bytes ms))

put_bytes_at : (o : Ordering) (k l : List ℕ) (d e : Data) (ms : Members) → is_some (match_ordering o (get_member k ms) (Some e) (get_member k ms)) ≡ false
    → (is_some (get_member k ms) ≡ false → MoreBytes k d ms (put k d ms))
    → MoreBytes k d (member l e ms) (match_ordering o (member k d (member l e ms)) (member l d ms) (member l e (put k d ms)))
unfolding MoreBytes
put_bytes_at Less k l d e ms new later = (omega (arith, front_bytes k d (member l e ms)), refl)
put_bytes_at Equal k l d e ms new later = absurd cc
put_bytes_at Greater k l d e ms new later =
    let more = later new in
    (omega (arith, front_bytes l e (put k d ms), front_bytes l e ms, more.0), ap suc more.1)

put_bytes : (k : List ℕ) (d : Data) (ms : Members) → is_some (get_member k ms) ≡ false → MoreBytes k d ms (put k d ms)
unfolding MoreBytes
put_bytes k d no_members new = (omega (arith, front_bytes k d no_members), refl)
put_bytes k d (member l e ms) new = put_bytes_at (slice_cmp nat_cmp k l) k l d e ms new (put_bytes k d ms)

put_new_bytes : (k : List ℕ) (d : Data) (ms all : Members) → put_new k d ms ≡ Some all → MoreBytes k d ms all
unfolding put_new
put_new_bytes k d ms all e = elim (either (is_some (get_member k ms)) None (Some (put k d ms)) all e) [
  | inl f ↦ absurd cc
  | inr f ↦ subst (λ (r : Members). MoreBytes k d ms r) (same_Some (put k d ms) all f.1) (put_bytes k d ms f.0)
]

pub record MembersLeast (n : ℕ) (found : Members) (bytes : List ℕ) (y : Members × List ℕ) : Type 0 where
  pub count : length (members_bytes y.0) + length y.1 ≤ length (members_bytes found) + length bytes
  pub octets : IsBytes y.1
  pub more : members_len y.0 ≡ members_len found + n

next_member_least : (one : List ℕ → Option (Data × List ℕ)) → ReadsLeast one → (found : Members) (bytes : List ℕ) (y : Members × List ℕ) → IsBytes bytes
    → next_member one found bytes ≡ Some y → MembersLeast 1 found bytes y
unfolding next_member MoreBytes
next_member_least one least found bytes y ok e =
    let key = bind_some (key_at bytes) _ y e in
    let r = key_least bytes key.0 ok key.1 in
    let value = bind_some (one key.0.1) _ y key.2 in
    let s = least key.0.1 value.0 r.octets value.1 in
    let members = bind_some (put_new key.0.0 value.0.0 found) (λ all. Some (all, value.0.1)) y value.2 in
    let t = put_new_bytes key.0.0 value.0.0 found members.0 members.1 in
    subst (λ (z : Members × List ℕ). MembersLeast 1 found bytes z) (same_Some (members.0, value.0.1) y members.2)
    (record { count = omega (arith, r.count, s.count, t.0); octets = s.octets; more = omega (arith, t.1) })

members_least : (one : List ℕ → Option (Data × List ℕ)) → ReadsLeast one → (n : ℕ) (found : Members) (bytes : List ℕ) (y : Members × List ℕ) → IsBytes bytes
    → many_at (next_member one) n found bytes ≡ Some y → MembersLeast n found bytes y
unfolding many_at
members_least one least zero found bytes y ok e =
    subst (λ (z : Members × List ℕ). MembersLeast 0 found bytes z) (same_Some (found, bytes) y e) (record { count = omega arith; octets = ok; more = omega arith })
members_least one least (suc n) found bytes y ok e =
    let b = bind_some (next_member one found bytes) (λ x. many_at (next_member one) n x.0 x.1) y e in
    let s = next_member_least one least found bytes b.0 ok b.1 in
    let t = members_least one least n b.0.0 b.0.1 y s.octets b.2 in
    record { count = omega (arith, s.count, t.count); octets = t.octets; more = omega (arith, s.more, t.more) }

array_least : (one : List ℕ → Option (Data × List ℕ)) → ReadsLeast one → (n : ℕ) (bytes rest : List ℕ) (x : Data × List ℕ) → AtLeast (shortest_head Array n) bytes rest
    → array_at one n rest ≡ Some x → AtLeast (shortest x.0) bytes x.1
unfolding array_at
array_least one least n bytes rest x head e =
    let b = bind_some (many_at (next_item one) n [] rest) (λ y. Some (array (items_of y.0), y.1)) x e in
    let t = items_least one least n [] rest b.0 head.octets b.1 in
    let counted : items_len (items_of b.0.0) ≡ n = omega (arith, items_count b.0.0, t.more) in
    let same : shortest_head Array (items_len (items_of b.0.0)) ≡ shortest_head Array n = ap (shortest_head Array) counted in
    let whole : length (shortest (array (items_of b.0.0))) ≡ length (shortest_head Array n) + length (items_bytes (items_of b.0.0)) =
    length-append (shortest_head Array (items_len (items_of b.0.0))) (items_bytes (items_of b.0.0)) ∙ ap (λ (h : List ℕ). length h + length (items_bytes (items_of b.0.0))) same in
    subst (λ (y : Data × List ℕ). AtLeast (shortest y.0) bytes y.1) (same_Some (array (items_of b.0.0), b.0.1) x b.2)
    (record { count = omega (arith, whole, head.count, t.count); octets = t.octets })

map_least : (one : List ℕ → Option (Data × List ℕ)) → ReadsLeast one → (n : ℕ) (bytes rest : List ℕ) (x : Data × List ℕ) → AtLeast (shortest_head Map n) bytes rest
    → map_at one n rest ≡ Some x → AtLeast (shortest x.0) bytes x.1
unfolding map_at
map_least one least n bytes rest x head e =
    let b = bind_some (many_at (next_member one) n no_members rest) (λ y. Some (object y.0, y.1)) x e in
    let t = members_least one least n no_members rest b.0 head.octets b.1 in
    let counted : members_len b.0.0 ≡ n = omega (arith, t.more) in
    let same : shortest_head Map (members_len b.0.0) ≡ shortest_head Map n = ap (shortest_head Map) counted in
    let whole : length (shortest (object b.0.0)) ≡ length (shortest_head Map n) + length (members_bytes b.0.0) =
    length-append (shortest_head Map (members_len b.0.0)) (members_bytes b.0.0) ∙ ap (λ (h : List ℕ). length h + length (members_bytes b.0.0)) same in
    subst (λ (y : Data × List ℕ). AtLeast (shortest y.0) bytes y.1) (same_Some (object b.0.0, b.0.1) x b.2)
    (record { count = omega (arith, whole, head.count, t.count); octets = t.octets })

-- ---- items

simple_least : (bytes : List ℕ) (x : Data × List ℕ) → IsBytes bytes → simple_at bytes ≡ Some x → AtLeast (shortest x.0) bytes x.1
unfolding simple_at
simple_least [] x ok e = absurd cc
simple_least (b ∷ bytes) x ok e =
    let P : Data × List ℕ → Type 0 = λ y. AtLeast (shortest y.0) (b ∷ bytes) y.1 in
    elim (either (b == 244) (Some (boolean false, bytes)) _ x e) [
      | inl f ↦ subst P (same_Some (boolean false, bytes) x f.1) (record { count = omega arith; octets = ok.1 })
      | inr f ↦ elim (either (b == 245) (Some (boolean true, bytes)) _ x f.1) [
        | inl g ↦ subst P (same_Some (boolean true, bytes) x g.1) (record { count = omega arith; octets = ok.1 })
        | inr g ↦ elim (either (b == 246) (Some (null, bytes)) None x g.1) [
          | inl h ↦ subst P (same_Some (null, bytes) x h.1) (record { count = omega arith; octets = ok.1 })
          | inr h ↦ absurd cc
        ]
      ]
    ]

InnerLeast : Option (List ℕ → Option (Data × List ℕ)) → Type 0
InnerLeast None = Unit {0}
InnerLeast (Some one) = ReadsLeast one

body_least : (inner : Option (List ℕ → Option (Data × List ℕ))) → InnerLeast inner → (major : Major) (n : ℕ) (bytes rest : List ℕ) (x : Data × List ℕ)
    → AtLeast (shortest_head major n) bytes rest → body_at inner major n rest ≡ Some x → AtLeast (shortest x.0) bytes x.1
unfolding InnerLeast
body_least inner least Unsigned n bytes rest x head e = subst (λ (y : Data × List ℕ). AtLeast (shortest y.0) bytes y.1) (same_Some (number (unsigned n), rest) x e) head
body_least inner least Negative n bytes rest x head e =
    let b = bind_some (negative_of n) (λ d. Some (d, rest)) x e in
    let here = subst (λ (d : Data). AtLeast (shortest d) bytes rest) (negative_is n b.0 b.1) head in
    subst (λ (y : Data × List ℕ). AtLeast (shortest y.0) bytes y.1) (same_Some (b.0, rest) x b.2) here
body_least inner least Text n bytes rest x head e =
    let b = bind_some (text_at n rest) (λ t. Some (string t.0, t.1)) x e in
    subst (λ (y : Data × List ℕ). AtLeast (shortest y.0) bytes y.1) (same_Some (string b.0.0, b.0.1) x b.2) (text_item_least n bytes rest b.0 head b.1)
body_least None least Array n bytes rest x head e = absurd cc
body_least (Some one) least Array n bytes rest x head e = array_least one least n bytes rest x head e
body_least None least Map n bytes rest x head e = absurd cc
body_least (Some one) least Map n bytes rest x head e = map_least one least n bytes rest x head e

in_least : (inner : Option (List ℕ → Option (Data × List ℕ))) → InnerLeast inner → (bytes : List ℕ) (x : Data × List ℕ) → IsBytes bytes → item_in inner bytes ≡ Some x → AtLeast (shortest x.0) bytes x.1
in_least inner least bytes x ok e = elim (one_of (simple_at bytes) _ x e) [
  | inl f ↦ simple_least bytes x ok f
  | inr f ↦
      (let h = bind_some (head_at bytes) (λ h. body_at inner h.0 h.1 h.2) x f in
      body_least inner least h.0.0 h.0.1 bytes h.0.2 x (head_least bytes h.0 ok h.1) h.2)
]

item_least : (levels : ℕ) (bytes : List ℕ) (x : Data × List ℕ) → IsBytes bytes → item_at levels bytes ≡ Some x → AtLeast (shortest x.0) bytes x.1
unfolding InnerLeast
item_least zero bytes x ok e = in_least None tt bytes x ok (sym (item_is zero bytes) ∙ e)
item_least (suc levels) bytes x ok e = in_least (Some (item_at levels)) (λ bs y k f. item_least levels bs y k f) bytes x ok (sym (item_is (suc levels) bytes) ∙ e)

pub shortest_least : (bytes : List ℕ) (d : Data) → IsBytes bytes → denoted bytes ≡ Some d → length (shortest d) ≤ length bytes
unfolding denoted
shortest_least bytes d ok e =
    let b = bind_some (item_at 32 bytes) (λ x. only x.0 x.1) d e in
    let s = item_least 32 bytes b.0 ok b.1 in
    subst (λ (c : Data). length (shortest c) ≤ length bytes) (alone b.0.0 b.0.1 d b.2) (omega (arith, s.count))
