-- The bytes that options take in a message.
use Rattle.std.proofs.Common.{◌≡◌, ℕ, ◌+◌, ◌-◌, ◌≤◌, Bool, true, false, ◌&&◌, nat_le, List, [], ◌∷◌, ◌++◌, length, Ok, ap, arith, length-append}
use Rattle.std.proofs.lemmas.Bool.{leb-true}
use Rattle.coap_codec.specs.Spelling.{Entry, StandsFor, SpellsOption, SpellsOptions}
use Rattle.uri_map.specs.declared.target.Target.{Target}
use Rattle.uri_map.specs.Limits.{extra, spelled_len, is_short, uri_options}
use Rattle.uri_map.specs.Naming.{target_at}
use Rattle.uri_map.proofs.TargetSteps.{reached}
use Rattle.std.specs.List.{list_all}

extra_is : (nibble : ℕ) (more : List ℕ) (n : ℕ) → StandsFor nibble more n → length more ≡ extra n
extra_is nibble [] n s = grind (arith, s.0, s.1)
extra_is nibble (a ∷ []) n s = grind (arith, s.0, s.1, s.2)
extra_is nibble (a ∷ b ∷ []) n s = grind (arith, s.0, s.1, s.2)
extra_is nibble (a ∷ b ∷ c ∷ more) n s = absurd s

option_len : (before : ℕ) (o : Entry) (text : List ℕ) → SpellsOption before o text → length text ≡ 1 + extra (o.number - before) + extra (length o.value) + length o.value
option_len before o text s =
    let delta : s.delta ≡ o.number - before = omega (arith, s.number) in
    let one = extra_is s.delta_nibble s.delta_more s.delta s.delta_is in
    let two = extra_is s.length_nibble s.length_more (length o.value) s.length_is in
    let whole = ap length s.whole in
    let first = length-append s.delta_more s.length_more in
    let second = length-append (s.delta_more ++ s.length_more) o.value in
    rw (← delta) (omega (arith, one, two, whole, first, second))

pub options_len : (before : ℕ) (os : List Entry) (text : List ℕ) → SpellsOptions before os text → length text ≡ spelled_len before os
options_len before [] text s = ap length s
options_len before (o ∷ os) text s =
    let (front, rest, parts, one, others) = s in
    let a = option_len before o front one in
    let b = options_len o.number os rest others in
    let c = length-append front rest in
    omega (arith, a, b, c, ap length parts)

within : (all : Bool) (len limit : ℕ) → all && nat_le len limit ≡ true → len ≤ limit
within true len limit e = leb-true len limit e
within false len limit e = absurd cc

pub named_fits : (base text bytes : List ℕ) (t : Target) → target_at base text ≡ Ok t → SpellsOptions 0 (uri_options t) bytes → length bytes ≤ 960
named_fits base text bytes t e spelled =
    let r = reached base text t e in
    let len = options_len 0 (uri_options t) bytes spelled in
    let short = within (list_all is_short (uri_options t)) (spelled_len 0 (uri_options t)) 960 r.limits in
    omega (arith, len, short)
