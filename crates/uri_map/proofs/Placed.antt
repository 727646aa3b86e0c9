-- What is known of a host and a port that were read.
use Rattle.std.proofs.Common.{◌≡◌, ℕ, ◌≤◌, ◌==◌, nat_le, Bool, true, false, ◌&&◌, if◌then◌else◌, List, [], ◌∷◌, length, Option, Some, None, Result, Ok, Err, refl, ap, ◌∙◌, subst, arith}
use Rattle.std.specs.List.{list_any, before_first}
use Rattle.std.specs.Option.{option_map, option_and_then, ok_or}
use Rattle.std.specs.Str.{str_to_ascii_lowercase}
use Rattle.std.specs.Net.Addr.{ipv6_segments}
use Rattle.std.specs.declared.net.ipv4_addr.Ipv4Addr.{Ipv4Addr}
use Rattle.std.specs.declared.net.ipv6_addr.Ipv6Addr.{Ipv6Addr}
use Rattle.std.proofs.lemmas.Bool.{leb-true}
use Rattle.std.proofs.NetLemmas.Texts.{AllSegments}
use Rattle.percent_encoding.specs.Percent.{percent_decode}
use Rattle.uri_map.specs.declared.fault.UriFault.{UriFault}
use Rattle.uri_map.specs.declared.fault.UriFault.TheVariants.{Authority}
use Rattle.uri_map.specs.declared.target.Host.{Host}
use Rattle.uri_map.specs.declared.target.Host.TheVariants.{Name, V4, V6}
use Rattle.uri_map.specs.Marks.{ends_address}
use Rattle.uri_map.specs.Splitting.{from_first}
use Rattle.uri_map.specs.Escapes.{well_escaped}
use Rattle.uri_map.specs.Authority.{ipv4_of, ipv6_of, behind_opening, behind_closing, address_at, closed, bracketed_at, decimal, in_range, port, written_port, port_at, lowered, is_name, host_of_name, named_at, name_and_port, host_and_port, authority_at}
use Rattle.uri_map.proofs.Addresses.{ipv6_written}
use Rattle.uri_map.proofs.Groups.{segments_fit}
use Rattle.uri_map.proofs.TargetSteps.{by_way}

-- A name is in lower case and writes no address, and an address is one that a text writes.
abbrev pub IsHost : Host → Type 0
IsHost (Name name) = (text : List ℕ) × (name ≡ str_to_ascii_lowercase text) × (is_name name ≡ true) × (ipv4_of name ≡ None)
IsHost (V4 a) = (text : List ℕ) × (is_name text ≡ true) × (ipv4_of text ≡ Some a)
IsHost (V6 a) = (length (ipv6_segments a) ≡ 8) × AllSegments (ipv6_segments a)

abbrev pub IsPort : ℕ → Type 0
IsPort n = (1 ≤ n) × (n ≤ 65535)

abbrev host : Host → Result Host UriFault
host h = Ok h

abbrev no_host : Result Host UriFault
no_host = Err Authority

chosen : (x y : Bool) (g h : Host) → (if x && y then host g else no_host) ≡ Ok h → (y ≡ true) × (g ≡ h)
chosen true true g h e = (refl, cc)
chosen true false g h e = absurd cc
chosen false y g h e = absurd cc

host_is : (text name : List ℕ) (o : Option Ipv4Addr) → name ≡ str_to_ascii_lowercase text → is_name name ≡ true → ipv4_of name ≡ o → IsHost (host_of_name name o)
host_is text name None low is e = (text, low, is, e)
host_is text name (Some a) low is e = (name, is, e)

named_is : (text : List ℕ) (h : Host) → named_at text ≡ Ok h → IsHost h
unfolding named_at
named_is text h e =
    let facts = chosen (well_escaped text) (is_name (lowered text)) (host_of_name (lowered text) (ipv4_of (lowered text))) h e in
    subst IsHost facts.1 (host_is (percent_decode text) (lowered text) (ipv4_of (lowered text)) refl facts.0 refl)

abbrev some : ℕ → Option ℕ
some n = Some n

abbrev nothing : Option ℕ
nothing = None

abbrev done : ℕ → Result ℕ UriFault
done n = Ok n

done_is : (m n : ℕ) → done m ≡ done n → m ≡ n
done_is m n e = cc

there : (o : Option ℕ) (n : ℕ) → ok_or o Authority ≡ done n → o ≡ some n
there (Some m) n e = ap some (done_is m n e)
there None n e = absurd cc

taken : (b : Bool) (o : Option ℕ) (n : ℕ) → (if b then o else nothing) ≡ some n → o ≡ some n
taken true o n e = e
taken false o n e = absurd cc

within : (x y : Bool) (m n : ℕ) → (if x && y then some m else nothing) ≡ some n → (x ≡ true) × (y ≡ true) × (m ≡ n)
within true true m n e = (refl, refl, cc)
within true false m n e = absurd cc
within false y m n e = absurd cc

in_range_is : (m n : ℕ) → in_range m ≡ some n → IsPort n
in_range_is m n e =
    let facts = within (nat_le 1 m) (nat_le m 65535) m n e in
    subst IsPort facts.2 (leb-true 1 m facts.0, leb-true m 65535 facts.1)

value_is : (o : Option ℕ) (n : ℕ) → option_and_then in_range o ≡ some n → IsPort n
value_is (Some m) n e = in_range_is m n e
value_is None n e = absurd cc

port_is : (text : List ℕ) (n : ℕ) → port_at text ≡ Ok n → IsPort n
port_is [] n e = subst IsPort (done_is 5683 n e) (omega arith)
port_is (b ∷ digits) n e =
    let written = there (written_port (b ∷ digits)) n e in
    let all = taken (b == 58) (port digits) n written in
    value_is (decimal digits) n (taken (nat_le 1 (length digits) && nat_le (length digits) 5) (option_and_then in_range (decimal digits)) n all)

then_some : {A B : Type 0} (o : Option A) (f : A → Option B) (y : B) → option_and_then f o ≡ Some y → (x : A) × (o ≡ Some x) × (f x ≡ Some y)
then_some (Some x) f y e = (x, refl, e)
then_some None f y e = absurd cc

mapped : {A B : Type 0} (o : Option A) (f : A → B) (y : B) → option_map f o ≡ Some y → (x : A) × (o ≡ Some x) × (f x ≡ y)
mapped (Some x) f y e = (x, refl, cc)
mapped None f y e = absurd cc

bracketed_is : (text : List ℕ) (x : Ipv6Addr × List ℕ) → bracketed_at text ≡ Some x → IsHost (V6 x.0)
unfolding bracketed_at address_at
bracketed_is text x e =
    let (inner, opened, e₁) = then_some (behind_opening text) (λ inner. option_and_then closed (address_at inner)) x e in
    let (found, at, e₂) = then_some (address_at inner) closed x e₁ in
    let (rest, behind, same) = mapped (behind_closing found.1) (λ rest. (found.0, rest)) x e₂ in
    let (a, read, is) = mapped (ipv6_of (before_first ends_address inner)) (λ a. (a, from_first ends_address inner)) found at in
    let address : a ≡ x.0 = ap (λ (p : Ipv6Addr × List ℕ). p.0) is ∙ ap (λ (p : Ipv6Addr × List ℕ). p.0) same in
    subst (λ a. IsHost (V6 a)) address (segments_fit (before_first ends_address inner) (ipv6_segments a) (ipv6_written (before_first ends_address inner) a read))

abbrev pub place : Host → ℕ → Result (Host × ℕ) UriFault
place h n = Ok (h, n)

abbrev no_place : Result (Host × ℕ) UriFault
no_place = Err Authority

abbrev pair : Host × ℕ → Result (Host × ℕ) UriFault
pair p = Ok p

pair_is : (p q : Host × ℕ) → pair p ≡ pair q → p ≡ q
pair_is p q e = cc

place_is : (g h : Host) (m n : ℕ) → place g m ≡ place h n → (g ≡ h) × (m ≡ n)
place_is g h m n e =
    let same = pair_is (g, m) (h, n) e in
    (ap (λ (p : Host × ℕ). p.0) same, ap (λ (p : Host × ℕ). p.1) same)

unguarded : (b : Bool) (r : Result (Host × ℕ) UriFault) (h : Host) (n : ℕ) → (if b then no_place else r) ≡ place h n → r ≡ place h n
unguarded true r h n e = absurd cc
unguarded false r h n e = e

by_bracket : (text : List ℕ) (o : Option (Ipv6Addr × List ℕ)) (h : Host) (n : ℕ) → bracketed_at text ≡ o → host_and_port o text ≡ place h n → IsHost h × IsPort n
unfolding name_and_port
by_bracket text None h n found e =
    let (m, read, e₁) = by_way (port_at (from_first (λ b. b == 58) text)) _ (h, n) e in
    let (g, named, e₂) = by_way (named_at (before_first (λ b. b == 58) text)) _ (h, n) e₁ in
    let same = place_is g h m n e₂ in
    (subst IsHost same.0 (named_is (before_first (λ b. b == 58) text) g named), subst IsPort same.1 (port_is (from_first (λ b. b == 58) text) m read))
by_bracket text (Some x) h n found e =
    let (m, read, e₁) = by_way (port_at x.1) _ (h, n) e in
    let same = place_is (V6 x.0) h m n e₁ in
    (subst IsHost same.0 (bracketed_is text x found), subst IsPort same.1 (port_is x.1 m read))

pub placed : (text : List ℕ) (h : Host) (n : ℕ) → authority_at text ≡ Ok (h, n) → IsHost h × IsPort n
unfolding authority_at
placed text h n e = by_bracket text (bracketed_at text) h n refl (unguarded (list_any (λ b. b == 64) text) (host_and_port (bracketed_at text) text) h n e)
