-- The text of an IPv4 address names that.
use Rattle.std.proofs.Common.{◌≡◌, ℕ, ◌+◌, ◌<◌, ◌≤◌, true, List, [], ◌∷◌, ◌++◌, length, decimal, Some, Result, Ok, refl, sym, ap, ◌∙◌, subst, arith, inl, inr, All}
use Rattle.std.specs.Str.{is_utf8}
use Rattle.std.specs.Net.Addr.{ipv4_octets}
use Rattle.std.specs.Net.Text.{ipv4_text, dotted_text}
use Rattle.std.specs.Net.Grammar.{IsDotted}
use Rattle.std.specs.declared.net.ipv4_addr.Ipv4Addr.{Ipv4Addr}
use Rattle.std.proofs.lemmas.Fmt.{decimal_nonempty, length-decimal-le}
use Rattle.std.proofs.lemmas.List.{length-append}
use Rattle.std.proofs.lemmas.List.Elements.{All-weaker}
use Rattle.std.proofs.lemmas.Str.{IsUtf8-from_ascii, is_utf8-from_IsUtf8}
use Rattle.std.proofs.lemmas.Str.Ascii.{IsAscii-from_all}
use Rattle.std.proofs.NetLemmas.Alphabet.{IsDigitOrDot}
use Rattle.uri_map.specs.declared.fault.UriFault.{UriFault}
use Rattle.uri_map.specs.declared.target.Host.{Host}
use Rattle.uri_map.specs.declared.target.Host.TheVariants.{V4}
use Rattle.uri_map.specs.Authority.{ipv4_of, is_name, named_at}
use Rattle.uri_map.proofs.Addresses.{ipv4_written}
use Rattle.uri_map.proofs.HostedPlace.{address_named, dotted_bytes}
use Rattle.uri_map.proofs.Lowering.{is_found}

few_digits : (n : ℕ) → n < 256 → length (decimal n) ≤ 3
few_digits n h = length-decimal-le 3 n (omega arith) (omega (arith, h)) (omega (arith, h))

some_digit : (n : ℕ) → n < 256 → 1 ≤ length (decimal n)
some_digit n h = decimal_nonempty n (omega (arith, h))

abbrev dot : List ℕ
dot = 46 ∷ []

dot_len : length dot ≡ 1
dot_len = refl

dots_len : (w x y z : List ℕ) → length (w ++ dot ++ x ++ dot ++ y ++ dot ++ z) ≡ length w + length x + length y + length z + 3
dots_len w x y z = omega (arith, dot_len, length-append w dot, length-append (w ++ dot) x, length-append (w ++ dot ++ x) dot, length-append (w ++ dot ++ x ++ dot) y, length-append (w ++ dot ++ x ++ dot ++ y) dot, length-append (w ++ dot ++ x ++ dot ++ y ++ dot) z)

spelled_len : (a b c d : ℕ) → length (dotted_text a b c d) ≡ length (decimal a) + length (decimal b) + length (decimal c) + length (decimal d) + 3
spelled_len a b c d = dots_len (decimal a) (decimal b) (decimal c) (decimal d)

dotted_len : (text octets : List ℕ) → IsDotted text octets → (1 ≤ length text) × (length text ≤ 255)
dotted_len text octets h =
    let size = ap length h.spelled ∙ spelled_len h.a h.b h.c h.d in
    let first = few_digits h.a h.fit.0 in
    let second = few_digits h.b h.fit.1 in
    let third = few_digits h.c h.fit.2 in
    let fourth = few_digits h.d h.fit.3 in
    (omega (arith, size), omega (arith, size, first, second, third, fourth))

low : (b : ℕ) → IsDigitOrDot b → b < 128
low b (inl h) = omega arith
low b (inr h) = omega arith

plain_utf8 : (text : List ℕ) → All IsDigitOrDot text → is_utf8 text ≡ true
plain_utf8 text all = is_utf8-from_IsUtf8 text (IsUtf8-from_ascii text (IsAscii-from_all text (All-weaker IsDigitOrDot (λ b. b < 128) low text all)))

abbrev good : Host → Result Host UriFault
good h = Ok h

pub address_of_text : (text : List ℕ) (a : Ipv4Addr) → ipv4_of text ≡ Some a → named_at text ≡ good (V4 a)
address_of_text text a e =
    let h = ipv4_written text a e in
    let same : text ≡ ipv4_text (ipv4_octets a) = h.spelled ∙ sym (ap ipv4_text h.value) in
    let all : All IsDigitOrDot text = subst (All IsDigitOrDot) (sym same) (dotted_bytes text (ipv4_octets a) h) in
    let size = dotted_len text (ipv4_octets a) h in
    let is : is_name text ≡ true = is_found text text refl size.0 size.1 (plain_utf8 text all) in
    subst (λ t. named_at t ≡ good (V4 a)) (sym same) (address_named a text is e).1
