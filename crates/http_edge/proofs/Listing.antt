-- White space at the ends of a member.
use Rattle.std.proofs.Common.{◌≡◌, ℕ, List, [], ◌∷◌, ◌++◌, length, reverse, refl, sym, ap, ◌∙◌, false, arith}
use Rattle.std.proofs.lemmas.List.{reverse-append, reverse-reverse}
use Rattle.httparse.specs.Grammar.{is_ows, skip_ows, trim_ows}

-- bytes that end in no white space stay
pub ends_kept : (rest before : List ℕ) (last : ℕ) (bytes : List ℕ) → rest ≡ before ++ last ∷ [] → is_ows last ≡ false → skip_ows (reverse rest) ≡ skip_ows (reverse (skip_ows bytes)) → rest ≡ trim_ows bytes
unfolding trim_ows
ends_kept rest before last bytes e other h =
    let back : reverse rest ≡ last ∷ reverse before = ap reverse e ∙ reverse-append before (last ∷ []) in
    let stays : skip_ows (reverse rest) ≡ reverse rest = rw back (rw other refl) in
    sym (reverse-reverse rest) ∙ ap reverse (sym stays ∙ h)

pub empty : {A : Type 0} (xs : List A) → length xs ≡ 0 → xs ≡ []
empty [] e = refl
empty (x ∷ xs) e = absurd (omega (arith, e))

pub none_kept : (rest bytes : List ℕ) → length rest ≡ 0 → skip_ows (reverse rest) ≡ skip_ows (reverse (skip_ows bytes)) → rest ≡ trim_ows bytes
unfolding trim_ows
none_kept rest bytes e h =
    let none = empty rest e in
    let stays : skip_ows (reverse rest) ≡ [] = rw none refl in
    none ∙ ap reverse (sym stays ∙ h)
