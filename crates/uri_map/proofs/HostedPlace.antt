-- The host and the port of a target, read again from what hosts them.
use Rattle.std.proofs.Common.{◌≡◌, ℕ, zero, suc, ◌^◌, ◌<◌, ◌≤◌, ◌⊎◌, ◌==◌, nat_le, ◌&&◌, ◌||◌, Bool, true, false, if◌then◌else◌, List, [], ◌∷◌, ◌++◌, map, length, get_or, Option, Some, None, Result, Ok, refl, sym, ap, ◌∙◌, subst, arith, inl, inr, All, append-nil, append_assoc, eq-eqb, ne_eqb, le-leb, one-add, ⊎_elim}
use Rattle.std.specs.List.{list_any, before_first}
use Rattle.std.specs.Option.{option_map, option_and_then}
use Rattle.std.specs.Char.{is_ascii_digit, to_ascii_lowercase}
use Rattle.std.specs.Str.{is_utf8, str_to_ascii_lowercase, all_ascii_digits}
use Rattle.std.specs.Str.Parse.{digits_value}
use Rattle.std.specs.Fmt as fmt
use Rattle.std.specs.Net.Addr.{ipv4_octets, ipv6_segments}
use Rattle.std.specs.Net.Text.{ipv4_text, groups_text}
use Rattle.std.specs.Net.Grammar.{IsDotted}
use Rattle.std.specs.declared.net.ipv4_addr.Ipv4Addr.{Ipv4Addr}
use Rattle.std.specs.declared.net.ipv6_addr.Ipv6Addr.{Ipv6Addr}
use Rattle.std.proofs.lemmas.Bool.{cases_eq, cases_Bool}
use Rattle.std.proofs.lemmas.Bool.Decides.{nat_tests}
use Rattle.std.proofs.lemmas.Fmt.{decimal_nonempty, length-decimal-le, decimal_is_IsNumeral}
use Rattle.std.proofs.lemmas.Str.Parse.{digit_at}
use Rattle.std.proofs.lemmas.Str.Ascii.{lowercase_is, lowercase-lowercase}
use Rattle.std.proofs.lemmas.List.Elements.{All-nil, All-cons, All-append, All-head, All-tail, All-weaker, All-from_get_or}
use Rattle.std.proofs.lemmas.List.Folds.{list_any_none}
use Rattle.std.proofs.NetLemmas.Alphabet.{IsDigitOrDot, IsHexOrColon, All-ipv4_text}
use Rattle.std.proofs.NetLemmas.Texts.{AllSegments}
use Rattle.percent_encoding.specs.AsciiSet.{should_percent_encode}
use Rattle.percent_encoding.specs.Percent.{percent_encode}
use Rattle.percent_encoding.proofs.PercentLemmas.{All-percent_encode, percent_decode-nil, percent_decode_not_percent}
use Rattle.uri_map.specs.declared.fault.UriFault.{UriFault}
use Rattle.uri_map.specs.declared.hosting.TheConstants.{SEGMENT}
use Rattle.uri_map.specs.declared.target.Host.{Host}
use Rattle.uri_map.specs.declared.target.Host.TheVariants.{Name, V4, V6}
use Rattle.uri_map.specs.Marks.{ends_address, ends_authority}
use Rattle.uri_map.specs.Splitting.{from_first}
use Rattle.uri_map.specs.Escapes.{well_escaped}
use Rattle.uri_map.specs.Authority.{ipv4_of, ipv6_of, behind_opening, address_at, closed, bracketed_at, port_at, lowered, is_name, host_of_name, named_at, name_and_port, authority_at}
use Rattle.uri_map.specs.Hosting.{host_text, port_text}
use Rattle.uri_map.proofs.Addresses.{ipv4_written, ipv6_found, ipv6_absent}
use Rattle.uri_map.proofs.Cuts.{Ends, Fails, front_cut, rest_cut}
use Rattle.uri_map.proofs.Escaped.{clash, kept_goes_on, escaped_well, decoded_again, no_byte}
use Rattle.uri_map.proofs.HostedParts.{no_47, no_58, no_63, no_64, segment_percent}
use Rattle.uri_map.proofs.Groups.{NoColon, groups_written, groups_bytes, colon_written}
use Rattle.uri_map.proofs.Placed.{IsHost, IsPort, place}

-- a byte that ends no authority, nor stands after user information
abbrev pub Plain : ℕ → Type 0
Plain b = (ends_authority b ≡ false) × ((b == 64) ≡ false)

plain : (b : ℕ) → (b ≡ 47 → ⊥) → (b ≡ 63 → ⊥) → (b ≡ 64 → ⊥) → Plain b
plain b f g h = rw (ne_eqb b 47 f, ne_eqb b 63 g, ne_eqb b 64 h) (refl, refl)

digit_is : (b : ℕ) → IsDigitOrDot b → Plain b
digit_is b (inl h) = plain b (λ e. absurd (omega arith)) (λ e. absurd (omega arith)) (λ e. absurd (omega arith))
digit_is b (inr h) = plain b (λ e. absurd (omega arith)) (λ e. absurd (omega arith)) (λ e. absurd (omega arith))

hex_is : (b : ℕ) → IsHexOrColon b → Plain b
hex_is b (inl h) = plain b (λ e. absurd (omega arith)) (λ e. absurd (omega arith)) (λ e. absurd (omega arith))
hex_is b (inr h) = plain b (λ e. absurd (omega arith)) (λ e. absurd (omega arith)) (λ e. absurd (omega arith))

hex_goes_on : (b : ℕ) → IsHexOrColon b → Fails ends_address b
hex_goes_on b (inl h) = grind (arith, nat_tests)
hex_goes_on b (inr h) = grind (arith, nat_tests)

digits_hex : (n : ℕ) → IsPort n → All IsHexOrColon (fmt.decimal n)
digits_hex n h =
    All-from_get_or IsHexOrColon (fmt.decimal n) 0
    (λ i lt. let d = digit_at (fmt.decimal n) i (decimal_is_IsNumeral n (omega (arith, h.1))).0.1 lt in inl (omega arith))

port_hex : (n : ℕ) → IsPort n → All IsHexOrColon (port_text n)
port_hex n h =
    elim (cases_eq n 5683) [
      | inl same ↦ rw (eq-eqb n 5683 same) (All-nil IsHexOrColon)
      | inr other ↦ rw (ne_eqb n 5683 other) (All-cons IsHexOrColon 58 (fmt.decimal n) (inl (omega arith)) (digits_hex n h))
    ]

port_ends : (n : ℕ) → Ends (λ b. b == 58) (port_text n)
port_ends n =
    elim (cases_eq n 5683) [
      | inl same ↦ rw (eq-eqb n 5683 same) tt
      | inr other ↦ rw (ne_eqb n 5683 other) refl
    ]

own_digits : (ds : List ℕ) → All (λ d. is_ascii_digit d ≡ true) ds → all_ascii_digits ds ≡ true
own_digits [] all = refl
own_digits (d ∷ ds) all =
    let first : is_ascii_digit d ≡ true = All-head (λ d. is_ascii_digit d ≡ true) d ds all in
    rw first (own_digits ds (All-tail (λ d. is_ascii_digit d ≡ true) d ds all))

port_digits : (n : ℕ) → IsPort n → all_ascii_digits (fmt.decimal n) ≡ true
port_digits n h =
    own_digits (fmt.decimal n) (All-from_get_or (λ d. is_ascii_digit d ≡ true) (fmt.decimal n) 0
    (λ i lt. let d = digit_at (fmt.decimal n) i (decimal_is_IsNumeral n (omega (arith, h.1))).0.1 lt in grind (arith, nat_tests)))

port_again : (n : ℕ) → IsPort n → port_at (port_text n) ≡ Ok n
port_again n h =
    elim (cases_eq n 5683) [
      | inl same ↦ rw (eq-eqb n 5683 same) (ap (λ (m : ℕ). Ok m) (sym same))
      | inr other ↦
          let some : 1 ≤ length (fmt.decimal n) = decimal_nonempty n (omega (arith, h.1)) in
          let few : length (fmt.decimal n) ≤ 5 = length-decimal-le 5 n (omega arith) (omega (arith, h.1)) (omega (arith, h.1)) in
          let value : digits_value 10 (fmt.decimal n) ≡ n = (decimal_is_IsNumeral n (omega (arith, h.1))).1 in
          rw (ne_eqb n 5683 other, le-leb 1 _ some, le-leb _ 5 few, port_digits n h, value, le-leb 1 n h.0, le-leb n 65535 h.1) refl
    ]

-- A text without colons, and after it only digits and colons.
record Split (text : List ℕ) : Type 0 where
  front : List ℕ
  back : List ℕ
  whole : text ≡ front ++ back
  no_colon : NoColon front
  hex : All (Fails ends_address) back

nothing_there : (x : ℕ) (xs : List ℕ) → x ∷ xs ≡ [] → ⊥
nothing_there x xs e = absurd cc

tail_same : (x y : ℕ) (xs ys : List ℕ) → x ∷ xs ≡ y ∷ ys → xs ≡ ys
tail_same x y xs ys e = cc

behind_one : (x : ℕ) (rest front back : List ℕ) → x ∷ rest ≡ front ++ back → NoColon front → All (Fails ends_address) back → Split rest
behind_one x rest [] [] e none hex = absurd (nothing_there x rest e)
behind_one x rest [] (b ∷ back) e none hex =
    record { front = []; back = back; whole = tail_same x b rest back e; no_colon = none; hex = All-tail (Fails ends_address) b back hex }
behind_one x rest (f ∷ front) back e none hex =
    record { front = front; back = back; whole = tail_same x f rest (front ++ back) e; no_colon = All-tail (λ b. (b == 58) ≡ false) f front none; hex = hex }

drop_one : (x : ℕ) (rest : List ℕ) → Split (x ∷ rest) → Split rest
drop_one x rest s = behind_one x rest s.front s.back s.whole s.no_colon s.hex

-- Digits and colons end where the text does, or stand before a colon.
address_cut : (front back : List ℕ) → NoColon front → All (Fails ends_address) back → NoColon (before_first ends_address (front ++ back)) ⊎ (from_first ends_address (front ++ back) ≡ [])
address_cut [] back none hex = let all = rest_cut ends_address back [] hex tt in inr (rw append-nil at all)
address_cut (f ∷ front) back none hex =
    elim (cases_Bool (ends_address f)) [
      | inl ends ↦ rw ends (inl (All-nil (λ b. (b == 58) ≡ false)))
      | inr goes_on ↦
          rw (goes_on, one-add)
          (⊎_elim
          (λ before. inl (All-cons (λ b. (b == 58) ≡ false) f _ (All-head (λ b. (b == 58) ≡ false) f front none) before))
          (λ behind. inr behind)
          (address_cut front back (All-tail (λ b. (b == 58) ≡ false) f front none) hex))
    ]

not_closed : (o : Option Ipv6Addr) (rest : List ℕ) → rest ≡ [] → option_and_then closed (option_map (λ a. (a, rest)) o) ≡ None
not_closed None rest e = refl
not_closed (Some a) rest e = rw e refl

no_address : (text : List ℕ) → Split text → option_and_then closed (address_at text) ≡ None
unfolding address_at
no_address text s =
    let cut : NoColon (before_first ends_address text) ⊎ (from_first ends_address text ≡ []) =
    subst (λ t. NoColon (before_first ends_address t) ⊎ (from_first ends_address t ≡ [])) (sym s.whole) (address_cut s.front s.back s.no_colon s.hex) in
    ⊎_elim
    (λ none. rw (ipv6_absent (before_first ends_address text) (λ a h. colon_written (before_first ends_address text) (ipv6_segments a) h none)) refl)
    (λ empty. not_closed (ipv6_of (before_first ends_address text)) (from_first ends_address text) empty)
    cut

abbrev rest_is : List ℕ → Option (List ℕ)
rest_is text = Some text

abbrev no_rest : Option (List ℕ)
no_rest = None

rest_same : (x y : List ℕ) → rest_is x ≡ rest_is y → x ≡ y
rest_same x y e = cc

one_way : (b : Bool) (x y : List ℕ) → (if b then rest_is x else no_rest) ≡ Some y → x ≡ y
one_way true x y e = rest_same x y e
one_way false x y e = absurd cc

two_ways : (b c : Bool) (x y z : List ℕ) → (if b then rest_is x else (if c then rest_is y else no_rest)) ≡ Some z → (x ≡ z) ⊎ (y ≡ z)
two_ways true c x y z e = inl (rest_same x z e)
two_ways false c x y z e = inr (one_way c y z e)

opened : (text inner : List ℕ) → Split text → behind_opening text ≡ Some inner → Split inner
opened [] inner s e = absurd cc
opened (a ∷ []) inner s e = subst Split (one_way (a == 91) [] inner e) (drop_one a [] s)
opened (a ∷ b ∷ []) inner s e = subst Split (one_way (a == 91) (b ∷ []) inner e) (drop_one a (b ∷ []) s)
opened (a ∷ b ∷ c ∷ rest) inner s e =
    let one = drop_one a (b ∷ c ∷ rest) s in
    let three = drop_one c rest (drop_one b (c ∷ rest) one) in
    ⊎_elim (λ x. subst Split x one) (λ y. subst Split y three) (two_ways (a == 91) (a == 37 && b == 53 && (c == 66 || c == 98)) (b ∷ c ∷ rest) rest inner e)

none_behind : {A B : Type 0} (o : Option A) (f : A → Option B) → ((x : A) → o ≡ Some x → f x ≡ None) → option_and_then f o ≡ None
none_behind None f none = refl
none_behind (Some x) f none = none x refl

no_bracket : (text : List ℕ) → Split text → bracketed_at text ≡ None
unfolding bracketed_at
no_bracket text s = none_behind (behind_opening text) (λ inner. option_and_then closed (address_at inner)) (λ inner e. no_address inner (opened text inner s e))

-- A name without colons and a port are read again.
named_again : (name : List ℕ) (h : Host) (n : ℕ) → All Plain name → NoColon name → named_at name ≡ Ok h → IsPort n → authority_at (name ++ port_text n) ≡ place h n
unfolding authority_at name_and_port
named_again name h n bytes none named port =
    let back = port_hex n port in
    let split : Split (name ++ port_text n) = record { front = name; back = port_text n; whole = refl; no_colon = none; hex = All-weaker IsHexOrColon (Fails ends_address) hex_goes_on (port_text n) back } in
    let all = All-append Plain name (port_text n) bytes (All-weaker IsHexOrColon Plain hex_is (port_text n) back) in
    let no_user : list_any (λ b. b == 64) (name ++ port_text n) ≡ false = list_any_none (λ b. b == 64) (name ++ port_text n) (All-weaker Plain (λ b. (b == 64) ≡ false) (λ b p. p.1) (name ++ port_text n) all) in
    let front = front_cut (λ b. b == 58) name (port_text n) none (port_ends n) in
    let rest = rest_cut (λ b. b == 58) name (port_text n) none (port_ends n) in
    rw (no_user, no_bracket (name ++ port_text n) split, rest, port_again n port, front, named) refl

slash_escaped : should_percent_encode SEGMENT 47 ≡ true
unfolding should_percent_encode
slash_escaped = refl

question_escaped : should_percent_encode SEGMENT 63 ≡ true
unfolding should_percent_encode
question_escaped = refl

at_escaped : should_percent_encode SEGMENT 64 ≡ true
unfolding should_percent_encode
at_escaped = refl

colon_escaped : should_percent_encode SEGMENT 58 ≡ true
unfolding should_percent_encode
colon_escaped = refl

name_bytes : (name : List ℕ) → All Plain (percent_encode SEGMENT name)
name_bytes name =
    All-percent_encode Plain SEGMENT name
    (λ b kept. plain b
    (λ e. clash (should_percent_encode SEGMENT b) (rw e slash_escaped) kept)
    (λ e. clash (should_percent_encode SEGMENT b) (rw e question_escaped) kept)
    (λ e. clash (should_percent_encode SEGMENT b) (rw e at_escaped) kept))
    (λ b escape. plain b (no_47 b escape) (no_63 b escape) (no_64 b escape))

map_again : (f : ℕ → ℕ) → ((c : ℕ) → f (f c) ≡ f c) → (text : List ℕ) → map f (map f text) ≡ map f text
map_again f same [] = refl
map_again f same (c ∷ text) = rw (same c, map_again f same text) refl

last_part : (x y z : Bool) → x && y && z ≡ true → z ≡ true
last_part true true true e = refl
last_part true true false e = absurd cc
last_part true false z e = absurd cc
last_part false y z e = absurd cc

name_utf8 : (name : List ℕ) → is_name name ≡ true → is_utf8 name ≡ true
name_utf8 name is = last_part (nat_le 1 (length name)) (nat_le (length name) 255) (is_utf8 name) is

named_as : (text name : List ℕ) → well_escaped text ≡ true → lowered text ≡ name → is_name name ≡ true → named_at text ≡ Ok (host_of_name name (ipv4_of name))
unfolding named_at
named_as text name good low is = rw (good, low, is) refl

name_named : (name text : List ℕ) → name ≡ str_to_ascii_lowercase text → is_name name ≡ true → ipv4_of name ≡ None → named_at (percent_encode SEGMENT name) ≡ Ok (Name name)
name_named name text e is none =
    let same = decoded_again SEGMENT refl name (name_utf8 name is) in
    let low : str_to_ascii_lowercase name ≡ name = ap str_to_ascii_lowercase e ∙ map_again to_ascii_lowercase lowercase-lowercase text ∙ sym e in
    named_as (percent_encode SEGMENT name) name (escaped_well SEGMENT segment_percent name) (ap str_to_ascii_lowercase same ∙ low) is
    ∙ ap (λ (o : Option Ipv4Addr). good (host_of_name name o)) none
  where
    good : Host → Result Host UriFault
    good h = Ok h

octets_fit : (a b c d : ℕ) → (a < 256) × (b < 256) × (c < 256) × (d < 256) → (k : ℕ) → get_or (a ∷ b ∷ c ∷ d ∷ []) k 0 < 2 ^ 8
octets_fit a b c d fit zero = omega (arith, fit)
octets_fit a b c d fit (suc zero) = omega (arith, fit)
octets_fit a b c d fit (suc (suc zero)) = omega (arith, fit)
octets_fit a b c d fit (suc (suc (suc zero))) = omega (arith, fit)
octets_fit a b c d fit (suc (suc (suc (suc k)))) = omega arith

pub dotted_bytes : (text octets : List ℕ) → IsDotted text octets → All IsDigitOrDot (ipv4_text octets)
dotted_bytes text octets h =
    All-ipv4_text octets (subst (λ o. (k : ℕ) → get_or o k 0 < 2 ^ 8) (sym h.value) (octets_fit h.a h.b h.c h.d h.fit))

no_escape : (b : ℕ) → IsDigitOrDot b → b ≡ 37 → ⊥
no_escape b (inl h) e = absurd (omega arith)
no_escape b (inr h) e = absurd (omega arith)

small_letter : (b : ℕ) → IsDigitOrDot b → b < 65
small_letter b (inl h) = omega arith
small_letter b (inr h) = omega arith

no_colon_of : (b : ℕ) → IsDigitOrDot b → (b == 58) ≡ false
no_colon_of b (inl h) = ne_eqb b 58 (λ e. absurd (omega arith))
no_colon_of b (inr h) = ne_eqb b 58 (λ e. absurd (omega arith))

-- Digits and dots stand for themselves.
dotted_good : (text : List ℕ) → All IsDigitOrDot text → well_escaped text ≡ true
dotted_good [] all = refl
dotted_good (b ∷ text) all =
    kept_goes_on b text (ne_eqb b 37 (no_escape b (All-head IsDigitOrDot b text all)))
    ∙ dotted_good text (All-tail IsDigitOrDot b text all)

dotted_same : (text : List ℕ) → All IsDigitOrDot text → lowered text ≡ text
dotted_same [] all = rw percent_decode-nil refl
dotted_same (b ∷ text) all =
    let first = All-head IsDigitOrDot b text all in
    let others = dotted_same text (All-tail IsDigitOrDot b text all) in
    let low : to_ascii_lowercase b ≡ b = (lowercase_is b).1 (small_letter b first) in
    rw (percent_decode_not_percent b text (no_escape b first), low, others) refl

pub address_named : (a : Ipv4Addr) (text : List ℕ) → is_name text ≡ true → ipv4_of text ≡ Some a → All IsDigitOrDot (ipv4_text (ipv4_octets a)) × (named_at (ipv4_text (ipv4_octets a)) ≡ Ok (V4 a))
address_named a text is e =
    let h = ipv4_written text a e in
    let same : text ≡ ipv4_text (ipv4_octets a) = h.spelled ∙ sym (ap ipv4_text h.value) in
    let bytes = dotted_bytes text (ipv4_octets a) h in
    let all : All IsDigitOrDot text = subst (All IsDigitOrDot) (sym same) bytes in
    let named : named_at text ≡ Ok (V4 a) = named_as text text (dotted_good text all) (dotted_same text all) is ∙ ap (λ (o : Option Ipv4Addr). good (host_of_name text o)) e in
    (bytes, subst (λ t. named_at t ≡ good (V4 a)) same named)
  where
    good : Host → Result Host UriFault
    good h = Ok h

-- An address in escaped brackets and a port are read again.
bracket_again : (a : Ipv6Addr) (rest : List ℕ) → length (ipv6_segments a) ≡ 8 → AllSegments (ipv6_segments a) → bracketed_at (37 ∷ 53 ∷ 66 ∷ (groups_text (ipv6_segments a) ++ (37 ∷ 53 ∷ 68 ∷ rest))) ≡ Some (a, rest)
unfolding bracketed_at address_at
bracket_again a rest eight fits =
    let groups = groups_text (ipv6_segments a) in
    let hex = All-weaker IsHexOrColon (Fails ends_address) hex_goes_on groups (groups_bytes (ipv6_segments a) fits) in
    let front = front_cut ends_address groups (37 ∷ 53 ∷ 68 ∷ rest) hex refl in
    let behind = rest_cut ends_address groups (37 ∷ 53 ∷ 68 ∷ rest) hex refl in
    rw (front, ipv6_found groups a (groups_written (ipv6_segments a) eight fits), behind) refl

bracket_bytes : (groups : List ℕ) → All IsHexOrColon groups → (rest : List ℕ) → All Plain rest → All Plain (37 ∷ 53 ∷ 66 ∷ (groups ++ (37 ∷ 53 ∷ 68 ∷ rest)))
bracket_bytes groups hex rest all =
    All-append Plain (37 ∷ 53 ∷ 66 ∷ []) (groups ++ (37 ∷ 53 ∷ 68 ∷ rest)) (three 37 53 66 (refl, refl) (refl, refl) (refl, refl))
    (All-append Plain groups (37 ∷ 53 ∷ 68 ∷ rest) (All-weaker IsHexOrColon Plain hex_is groups hex)
    (All-append Plain (37 ∷ 53 ∷ 68 ∷ []) rest (three 37 53 68 (refl, refl) (refl, refl) (refl, refl)) all))
  where
    three : (a b c : ℕ) → Plain a → Plain b → Plain c → All Plain (a ∷ b ∷ c ∷ [])
    three a b c f g h = All-cons Plain a (b ∷ c ∷ []) f (All-cons Plain b (c ∷ []) g (All-cons Plain c [] h (All-nil Plain)))

-- A host and a port that were read are read again, and nothing in their text ends the authority.
pub record Again (h : Host) (n : ℕ) : Type 0 where
  pub bytes : All Plain (host_text h ++ port_text n)
  pub read : authority_at (host_text h ++ port_text n) ≡ place h n

port_bytes : (n : ℕ) → IsPort n → All Plain (port_text n)
port_bytes n port = All-weaker IsHexOrColon Plain hex_is (port_text n) (port_hex n port)

address_again : (a : Ipv6Addr) (n : ℕ) (text : List ℕ) → All Plain text → bracketed_at text ≡ Some (a, port_text n) → IsPort n → authority_at text ≡ place (V6 a) n
unfolding authority_at
address_again a n text all found port =
    let no_user : list_any (λ b. b == 64) text ≡ false = list_any_none (λ b. b == 64) text (All-weaker Plain (λ b. (b == 64) ≡ false) (λ b p. p.1) text all) in
    rw (no_user, found, port_again n port) refl

pub place_again : (h : Host) (n : ℕ) → IsHost h → IsPort n → Again h n
place_again (Name name) n (text, low, is, none) port =
    let bytes = name_bytes name in
    let no_colon = no_byte SEGMENT 58 colon_escaped no_58 name in
    record {
      bytes = All-append Plain (percent_encode SEGMENT name) (port_text n) bytes (port_bytes n port);
      read = named_again (percent_encode SEGMENT name) (Name name) n bytes no_colon (name_named name text low is none) port;
    }
place_again (V4 a) n (text, is, found) port =
    let facts = address_named a text is found in
    let written = ipv4_text (ipv4_octets a) in
    let bytes = All-weaker IsDigitOrDot Plain digit_is written facts.0 in
    let no_colon = All-weaker IsDigitOrDot (λ b. (b == 58) ≡ false) no_colon_of written facts.0 in
    record {
      bytes = All-append Plain written (port_text n) bytes (port_bytes n port);
      read = named_again written (V4 a) n bytes no_colon facts.1 port;
    }
place_again (V6 a) n (eight, fits) port =
    let groups = groups_text (ipv6_segments a) in
    let shown : host_text (V6 a) ++ port_text n ≡ 37 ∷ 53 ∷ 66 ∷ (groups ++ (37 ∷ 53 ∷ 68 ∷ port_text n)) =
    ap (λ t. 37 ∷ 53 ∷ 66 ∷ t) (append_assoc groups (37 ∷ 53 ∷ 68 ∷ []) (port_text n)) in
    let all = bracket_bytes groups (groups_bytes (ipv6_segments a) fits) (port_text n) (port_bytes n port) in
    let text = 37 ∷ 53 ∷ 66 ∷ (groups ++ (37 ∷ 53 ∷ 68 ∷ port_text n)) in
    record {
      bytes = subst (All Plain) (sym shown) all;
      read = ap authority_at shown ∙ address_again a n text all (bracket_again a (port_text n) eight fits) port;
    }
