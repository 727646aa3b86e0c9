-- A text of so many bytes.
use Rattle.std.proofs.Common.{◌≡◌, ℕ, ◌≤◌, List, length, take, drop, ltb, cond, Some, None, Bool, true, false, inl, inr, refl, sym, ap, ◌∙◌, subst}
use Rattle.std.proofs.lemmas.Bool.{le-ltb}
use Rattle.std.proofs.lemmas.Option.{cond_some}
use Rattle.std.proofs.lemmas.Str.{IsUtf8-from_is_utf8, is_utf8-from_IsUtf8}
use Rattle.std.specs.Str.{IsUtf8, is_utf8}
use Rattle.transformers.specs.declared.head.Major.{Major}
use Rattle.transformers.specs.declared.head.Major.TheVariants.{Unsigned, Negative, Text, Array, Map}
use Rattle.transformers.specs.Item.{head_at, key_of, key_at, text_at}
use Rattle.transformers.proofs.Within.{bind_some, either}

not_utf8 : (bs : List ℕ) (b : Bool) → is_utf8 bs ≡ b → ¬ IsUtf8 bs → b ≡ false
not_utf8 bs true e never = absurd (never (IsUtf8-from_is_utf8 bs e))
not_utf8 bs false e never = refl

pub text_read : (n : ℕ) (bytes text : List ℕ) → n ≤ length bytes → text ≡ take n bytes → IsUtf8 text → text_at n bytes ≡ Some (text, drop n bytes)
unfolding text_at
text_read n bytes text le e utf8 =
    let good : is_utf8 (take n bytes) ≡ true = sym (ap is_utf8 e) ∙ is_utf8-from_IsUtf8 text utf8 in
    rw (le-ltb (length bytes) n le, good, e) refl

pub text_refused : (n : ℕ) (bytes : List ℕ) → n ≤ length bytes → ¬ IsUtf8 (take n bytes) → text_at n bytes ≡ None
unfolding text_at
text_refused n bytes le never = rw (le-ltb (length bytes) n le, not_utf8 (take n bytes) (is_utf8 (take n bytes)) refl never) refl

-- what is read is UTF-8
pub text_utf8 : (n : ℕ) (bytes : List ℕ) (x : List ℕ × List ℕ) → text_at n bytes ≡ Some x → IsUtf8 x.0
unfolding text_at
text_utf8 n bytes x e = elim (either (ltb (length bytes) n) None (cond (is_utf8 (take n bytes)) (Some (take n bytes, drop n bytes)) None) x e) [
  | inl bad ↦ absurd cc
  | inr good ↦ (let c = cond_some (is_utf8 (take n bytes)) (take n bytes, drop n bytes) x good.1 in
      subst (λ (y : List ℕ × List ℕ). IsUtf8 y.0) c.1 (IsUtf8-from_is_utf8 (take n bytes) c.0))
]

key_of_utf8 : (major : Major) (n : ℕ) (bytes : List ℕ) (x : List ℕ × List ℕ) → key_of major n bytes ≡ Some x → IsUtf8 x.0
key_of_utf8 Unsigned n bytes x e = absurd cc
key_of_utf8 Negative n bytes x e = absurd cc
key_of_utf8 Text n bytes x e = text_utf8 n bytes x e
key_of_utf8 Array n bytes x e = absurd cc
key_of_utf8 Map n bytes x e = absurd cc

pub key_utf8 : (bytes : List ℕ) (x : List ℕ × List ℕ) → key_at bytes ≡ Some x → IsUtf8 x.0
unfolding key_at
key_utf8 bytes x e = let b = bind_some (head_at bytes) (λ h. key_of h.0 h.1 h.2) x e in key_of_utf8 b.0.0 b.0.1 b.0.2 x b.2
