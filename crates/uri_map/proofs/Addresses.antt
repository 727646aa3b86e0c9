-- The addresses that std reads are those of the definitions.
use Rattle.std.proofs.Common.{◌≡◌, ℕ, List, [], ◌∷◌, ◌++◌, length, Option, Some, None, Result, Ok, Err, refl, sym, ap, subst, ◌∙◌, lit≤, append-nil, arith, ne_eqb}
use Rattle.std.specs.Option.{option_map}
use Rattle.std.specs.Result.{result_ok}
use Rattle.std.specs.declared.net.ipv4_addr.Ipv4Addr.{Ipv4Addr}
use Rattle.std.specs.declared.net.ipv6_addr.Ipv6Addr.{Ipv6Addr}
use Rattle.std.specs.Net.Addr.{ipv4_octets, ipv6_segments}
use Rattle.std.specs.Net.Grammar.{Parses, IsIpv4Text, IsIpv6Text, IsDotted, IsColonHex}
use Rattle.std.specs.Net.Reader.{read_ipv4, read_ipv6, whole_value}
use Rattle.std.proofs.NetLemmas.Ipv4.{read_ipv4_complete, read_ipv4_sound}
use Rattle.std.proofs.NetLemmas.Ipv6.{read_ipv6_complete, read_ipv6_sound, EndsGroups-nil}
use Rattle.uri_map.specs.Authority.{ipv4_of, ipv6_of}

-- Where no value comes with nothing left, there is no whole one.
no_whole : {A X : Type 0} (f : A → X) (r : Option (A × List ℕ)) → ((a : A) → r ≡ Some (a, []) → ⊥) → option_map f (whole_value r) ≡ None
no_whole f None none = refl
no_whole f (Some (a, [])) none = absurd (none a refl)
no_whole f (Some (a, b ∷ rest)) none = let more : length (b ∷ rest) ≡ 0 → ⊥ = λ e. absurd (omega (arith, e)) in rw (ne_eqb _ _ more) refl

pub ipv4_found : (text : List ℕ) (a : Ipv4Addr) → IsIpv4Text text a → ipv4_of text ≡ Some a
unfolding ipv4_of
ipv4_found text a h =
    let e : read_ipv4 (text ++ []) ≡ Some (ipv4_octets a, []) = read_ipv4_complete text _ [] h (lit≤ tt) in
    let read : read_ipv4 text ≡ Some (ipv4_octets a, []) = rw append-nil at e in
    rw read refl

pub ipv4_absent : (text : List ℕ) → ((a : Ipv4Addr) → ¬ (IsIpv4Text text a)) → ipv4_of text ≡ None
unfolding ipv4_of
ipv4_absent text none =
    no_whole _ (read_ipv4 text) (λ octets e.
    let (front, parts, dotted) = read_ipv4_sound text octets [] e in
    let whole : front ≡ text = sym (parts ∙ append-nil front) in
    let P : List ℕ → Type 0 = λ t. IsDotted t octets in
    none (record { octets = octets }) (subst P whole dotted))

pub ipv6_found : (text : List ℕ) (a : Ipv6Addr) → IsIpv6Text text a → ipv6_of text ≡ Some a
unfolding ipv6_of
ipv6_found text a h =
    let e : read_ipv6 (text ++ []) ≡ Some (ipv6_segments a, []) = read_ipv6_complete text _ [] h EndsGroups-nil in
    let read : read_ipv6 text ≡ Some (ipv6_segments a, []) = rw append-nil at e in
    rw read refl

pub ipv6_absent : (text : List ℕ) → ((a : Ipv6Addr) → ¬ (IsIpv6Text text a)) → ipv6_of text ≡ None
unfolding ipv6_of
ipv6_absent text none =
    no_whole _ (read_ipv6 text) (λ segments e.
    let (front, parts, groups) = read_ipv6_sound text segments [] e in
    let whole : front ≡ text = sym (parts ∙ append-nil front) in
    let P : List ℕ → Type 0 = λ t. IsColonHex t segments in
    none (record { segments = segments }) (subst P whole groups))

pub ipv4_read : {E : Type 0} (text : List ℕ) (r : Result Ipv4Addr E) → Parses IsIpv4Text text r → result_ok r ≡ ipv4_of text
ipv4_read text (Ok a) h = sym (ipv4_found text a h)
ipv4_read text (Err e) h = sym (ipv4_absent text h)

pub ipv6_read : {E : Type 0} (text : List ℕ) (r : Result Ipv6Addr E) → Parses IsIpv6Text text r → result_ok r ≡ ipv6_of text
ipv6_read text (Ok a) h = sym (ipv6_found text a h)
ipv6_read text (Err e) h = sym (ipv6_absent text h)

none_is : {X : Type 0} (x : X) → ◌≡◌ {A = Option X} None (Some x) → ⊥
none_is x e = absurd cc

-- a whole value comes with nothing left
whole_is : {A X : Type 0} (f : A → X) (r : Option (A × List ℕ)) (x : X) → option_map f (whole_value r) ≡ Some x → (a : A) × (r ≡ Some (a, [])) × (f a ≡ x)
whole_is f None x e = absurd cc
whole_is f (Some (a, [])) x e = (a, refl, cc)
whole_is f (Some (a, b ∷ rest)) x e =
    let more : length (b ∷ rest) ≡ 0 → ⊥ = λ z. absurd (omega (arith, z)) in
    absurd (none_is _ (rw (ne_eqb _ _ more) at e))

pub ipv4_written : (text : List ℕ) (a : Ipv4Addr) → ipv4_of text ≡ Some a → IsIpv4Text text a
unfolding ipv4_of
ipv4_written text a e =
    let (octets, read, same) = whole_is _ (read_ipv4 text) a e in
    let (front, parts, dotted) = read_ipv4_sound text octets [] read in
    let whole : front ≡ text = sym (parts ∙ append-nil front) in
    let value : octets ≡ ipv4_octets a = ap ipv4_octets same in
    let P : List ℕ → Type 0 = λ t. IsDotted t octets in
    let Q : List ℕ → Type 0 = λ o. IsDotted text o in
    subst Q value (subst P whole dotted)

pub ipv6_written : (text : List ℕ) (a : Ipv6Addr) → ipv6_of text ≡ Some a → IsIpv6Text text a
unfolding ipv6_of
ipv6_written text a e =
    let (segments, read, same) = whole_is _ (read_ipv6 text) a e in
    let (front, parts, groups) = read_ipv6_sound text segments [] read in
    let whole : front ≡ text = sym (parts ∙ append-nil front) in
    let value : segments ≡ ipv6_segments a = ap ipv6_segments same in
    let P : List ℕ → Type 0 = λ t. IsColonHex t segments in
    let Q : List ℕ → Type 0 = λ s. IsColonHex text s in
    subst Q value (subst P whole groups)
