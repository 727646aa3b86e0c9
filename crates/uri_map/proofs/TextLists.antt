-- The texts of a part, read one piece after the other.
use Rattle.std.proofs.Common.{◌≡◌, ℕ, Bool, true, false, not, ◌&&◌, if◌then◌else◌, IsUtf8, List, [], ◌∷◌, ◌++◌, map, Result, Ok, Err, IsOk, refl, sym, ap, ◌∙◌, append_assoc}
use Rattle.uri_map.specs.declared.fault.UriFault.{UriFault}
use Rattle.uri_map.specs.declared.escapes.Part.{Part}
use Rattle.uri_map.specs.Steps.{◌>>=◌}
use Rattle.uri_map.specs.Escapes.{text_at, texts_at, well_escaped, is_refused}
use Rattle.std.specs.Str.{is_utf8}
use Rattle.std.proofs.lemmas.Str.{IsUtf8-from_is_utf8}
use Rattle.percent_encoding.specs.Percent.{percent_decode}

-- what was read before, put in front of what is read of the rest
abbrev pub with_front : List (List ℕ) → Result (List (List ℕ)) UriFault → Result (List (List ℕ)) UriFault
with_front front read = read >>= λ others. Ok (front ++ others)

-- the second is the first with something in front
abbrev pub SameFault : Result (List (List ℕ)) UriFault → Result (List (List ℕ)) UriFault → Type 0
SameFault rest all = (front : List (List ℕ)) × (all ≡ with_front front rest)

abbrev failed : UriFault → Result (List ℕ) UriFault
failed f = Err f

abbrev done : List (List ℕ) → Result (List (List ℕ)) UriFault
done x = Ok x

with_more : (front : List (List ℕ)) (text : List ℕ) (rest : Result (List (List ℕ)) UriFault) → with_front front (rest >>= λ texts. Ok (text ∷ texts)) ≡ with_front (front ++ text ∷ []) rest
with_more front text (Ok x) = ap done (simp append_assoc)
with_more front text (Err e) = refl

pub same_goes_on : (part : Part) (piece text : List ℕ) (others : List (List ℕ)) (pieces : List (List ℕ)) (all : Result (List (List ℕ)) UriFault) → pieces ≡ piece ∷ others → text_at part piece ≡ Ok text → SameFault (texts_at part pieces) all → SameFault (texts_at part others) all
same_goes_on part piece text others pieces all e read (front, same) =
    let step : texts_at part pieces ≡ (texts_at part others >>= λ texts. Ok (text ∷ texts)) = rw (e, read) refl in
    (front ++ text ∷ [], same ∙ ap (with_front front) step ∙ with_more front text (texts_at part others))

pub same_ends : (part : Part) (pieces : List (List ℕ)) (all : Result (List (List ℕ)) UriFault) → pieces ≡ [] → SameFault (texts_at part pieces) all → (texts : List (List ℕ)) × (all ≡ Ok texts)
same_ends part pieces all none (front, same) =
    let read : texts_at part pieces ≡ Ok [] = rw none refl in
    (front ++ [], same ∙ ap (with_front front) read)

chosen_ok : (x y z : Bool) (text : List ℕ) (f : UriFault) → IsOk (if x && y && z then Ok text else failed f) → y ≡ true
chosen_ok true true z text f ok = refl
chosen_ok true false z text f ok = ok
chosen_ok false y z text f ok = absurd cc

pub ok_is_utf8 : (part : Part) (piece : List ℕ) → IsOk (text_at part piece) → IsUtf8 (percent_decode piece)
unfolding text_at
ok_is_utf8 part piece ok = IsUtf8-from_is_utf8 _ (chosen_ok (well_escaped piece) (is_utf8 (percent_decode piece)) (not (is_refused part (percent_decode piece))) _ _ ok)

only_decoded : (x y z : Bool) (text : List ℕ) (f : UriFault) → IsOk (if x && y && z then Ok text else failed f) → (if x && y && z then Ok text else failed f) ≡ Ok text
only_decoded true true true text f ok = refl
only_decoded true true false text f ok = absurd cc
only_decoded true false z text f ok = absurd cc
only_decoded false y z text f ok = absurd cc

pub ok_is_decoded : (part : Part) (piece : List ℕ) → IsOk (text_at part piece) → text_at part piece ≡ Ok (percent_decode piece)
unfolding text_at
ok_is_decoded part piece ok = only_decoded (well_escaped piece) (is_utf8 (percent_decode piece)) (not (is_refused part (percent_decode piece))) _ _ ok

pub text_good : (part : Part) (piece : List ℕ) → well_escaped piece ≡ true → is_utf8 (percent_decode piece) ≡ true → is_refused part (percent_decode piece) ≡ false → text_at part piece ≡ Ok (percent_decode piece)
unfolding text_at
text_good part piece good utf8 taken = rw (good, utf8, taken) refl

-- the texts are the pieces, decoded
text_is : (x : Bool) (text : List ℕ) (read : List ℕ) (f : UriFault) → (if x then Ok text else failed f) ≡ Ok read → read ≡ text
text_is true text read f e = cc
text_is false text read f e = absurd cc

pub text_decoded : (part : Part) (piece text : List ℕ) → text_at part piece ≡ Ok text → text ≡ percent_decode piece
unfolding text_at
text_decoded part piece text e = text_is _ (percent_decode piece) text _ e

by_cases : (part : Part) (p : List ℕ) (ps texts : List (List ℕ)) (one : Result (List ℕ) UriFault) (others : Result (List (List ℕ)) UriFault) → text_at part p ≡ one → ((more : List (List ℕ)) → others ≡ Ok more → more ≡ map percent_decode ps) → (one >>= λ text. others >>= λ more. Ok (text ∷ more)) ≡ Ok texts → texts ≡ map percent_decode (p ∷ ps)
by_cases part p ps texts (Ok text) (Ok more) one others all =
    let a = text_decoded part p text one in
    let b = others more refl in
    let c : text ∷ more ≡ texts = cc in
    sym c ∙ rw (a, b) refl
by_cases part p ps texts (Ok text) (Err f) one others all = absurd cc
by_cases part p ps texts (Err f) others one more all = absurd cc

pub texts_decoded : (part : Part) (ps texts : List (List ℕ)) → texts_at part ps ≡ Ok texts → texts ≡ map percent_decode ps
texts_decoded part [] texts e = cc
texts_decoded part (p ∷ ps) texts e = by_cases part p ps texts (text_at part p) (texts_at part ps) refl (λ more f. texts_decoded part ps more f) e
