-- Texts that were escaped.
use Rattle.std.proofs.Common.{◌≡◌, ℕ, ◌<◌, ◌≤◌, ◌/◌, ◌%◌, ◌==◌, Bool, true, false, not, ◌&&◌, if◌then◌else◌, List, [], ◌∷◌, ◌++◌, map, Result, Ok, Err, refl, ◌∙◌, arith, All, ne_eqb, ⊎_elim}
use Rattle.std.specs.Char.{is_ascii_hexdigit}
use Rattle.std.specs.Fmt.{digit_glyph}
use Rattle.std.specs.Str.{is_utf8}
use Rattle.std.proofs.lemmas.Bool.{cases_Bool}
use Rattle.std.proofs.lemmas.Bool.Decides.{nat_tests}
use Rattle.std.proofs.lemmas.Str.{IsUtf8-from_is_utf8}
use Rattle.std.proofs.lemmas.List.Elements.{All-nil, All-cons, All-append}
use Rattle.std.proofs.str.Laws as laws
use lib.Utf8.{scalar, scalars, encode, encodes, scalar_cases}
use Rattle.percent_encoding.specs.declared.ascii_set.AsciiSet.{AsciiSet}
use Rattle.percent_encoding.specs.AsciiSet.{contains, should_percent_encode}
use Rattle.percent_encoding.specs.Percent.{percent_encode, percent_decode, percent_encode_byte}
use Rattle.percent_encoding.proofs.PercentLemmas.{IsByte, IsEscapeByte, All-percent_encode, percent_encode-nil, percent_encode_escaped, percent_encode_kept, round_trip}
use Rattle.uri_map.specs.declared.fault.UriFault.{UriFault}
use Rattle.uri_map.specs.declared.escapes.Part.{Part}
use Rattle.uri_map.specs.Steps.{◌>>=◌}
use Rattle.uri_map.specs.Escapes.{well_escaped, is_refused, text_at, texts_at}
use Rattle.uri_map.proofs.Characters.{both}
use Rattle.uri_map.proofs.TextLists.{text_good}

pub clash : (b : Bool) → b ≡ true → b ≡ false → ⊥
clash b t f = absurd cc

-- a byte that is escaped isn't kept, and no escape has it
pub no_byte : (set : AsciiSet) (c : ℕ) → should_percent_encode set c ≡ true → ((b : ℕ) → IsEscapeByte b → b ≡ c → ⊥) → (bs : List ℕ) → All (λ b. (b == c) ≡ false) (percent_encode set bs)
no_byte set c escaped other bs =
    All-percent_encode (λ b. (b == c) ≡ false) set bs
    (λ b kept. ne_eqb b c (λ e. clash (should_percent_encode set b) (rw e escaped) kept))
    (λ b escape. ne_eqb b c (other b escape))

pub kept_goes_on : (b : ℕ) (xs : List ℕ) → (b == 37) ≡ false → well_escaped (b ∷ xs) ≡ well_escaped xs
kept_goes_on b [] e = rw e refl
kept_goes_on b (c ∷ []) e = rw e refl
kept_goes_on b (c ∷ d ∷ more) e = rw e refl

glyph_is_hex : (d : ℕ) → d < 16 → is_ascii_hexdigit (digit_glyph true d) ≡ true
glyph_is_hex d small = grind (arith, nat_tests)

escape_goes_on : (b : ℕ) (xs : List ℕ) → well_escaped (percent_encode_byte b ++ xs) ≡ well_escaped xs
unfolding percent_encode_byte
escape_goes_on b xs = rw (glyph_is_hex (b / 16 % 16) (omega arith), glyph_is_hex (b % 16) (omega arith)) refl

pub escaped_well : (set : AsciiSet) → should_percent_encode set 37 ≡ true → (bs : List ℕ) → well_escaped (percent_encode set bs) ≡ true
escaped_well set percent [] = rw percent_encode-nil refl
escaped_well set percent (b ∷ bs) =
    let others = escaped_well set percent bs in
    ⊎_elim
    (λ chosen. rw (percent_encode_escaped set b bs chosen) (escape_goes_on b _ ∙ others))
    (λ kept. rw (percent_encode_kept set b bs kept) (kept_goes_on b _ (ne_eqb b 37 (λ e. clash (should_percent_encode set b) (rw e percent) kept)) ∙ others))
    (cases_Bool (should_percent_encode set b))

last_byte : (b : ℕ) → (128 ≤ b) × (b < 192) → All IsByte (b ∷ [])
last_byte b h = All-cons IsByte b [] (omega (arith, h.1)) (All-nil IsByte)

char_bytes : (c : ℕ) → laws.Shape c → All IsByte (encode c)
char_bytes c (laws.of1 h e) = rw e (All-cons IsByte c [] (omega arith) (All-nil IsByte))
char_bytes c (laws.of2 a b l h f s e) = rw e (All-cons IsByte a (b ∷ []) (omega arith) (last_byte b (f.0, f.1)))
char_bytes c (laws.of3 a b d l h f g s e) = rw e (All-cons IsByte a (b ∷ d ∷ []) (omega arith) (All-cons IsByte b (d ∷ []) (omega (arith, f.1)) (last_byte d (g.0, g.1))))
char_bytes c (laws.of4 a b d x l h f g k s e) = rw e (All-cons IsByte a (b ∷ d ∷ x ∷ []) (omega arith) (All-cons IsByte b (d ∷ x ∷ []) (omega (arith, f.1)) (All-cons IsByte d (x ∷ []) (omega (arith, g.1)) (last_byte x (k.0, k.1)))))

chars_bytes : (cs : List ℕ) → scalars cs ≡ true → All IsByte (encodes cs)
chars_bytes [] s = All-nil IsByte
chars_bytes (c ∷ cs) s =
    let h = both (scalar c) (scalars cs) s in
    All-append IsByte (encode c) (encodes cs) (char_bytes c (laws.shape c (scalar_cases c h.0))) (chars_bytes cs h.1)

pub text_bytes : (bs : List ℕ) → is_utf8 bs ≡ true → All IsByte bs
text_bytes bs utf8 = let (cs, good) = IsUtf8-from_is_utf8 bs utf8 in rw (← good.1) (chars_bytes cs good.0)

pub decoded_again : (set : AsciiSet) → contains set 37 ≡ true → (bs : List ℕ) → is_utf8 bs ≡ true → percent_decode (percent_encode set bs) ≡ bs
decoded_again set percent bs utf8 = round_trip set bs percent (text_bytes bs utf8)

pub text_again : (set : AsciiSet) → contains set 37 ≡ true → should_percent_encode set 37 ≡ true → (part : Part) (bs : List ℕ) → is_utf8 bs ≡ true → is_refused part bs ≡ false → text_at part (percent_encode set bs) ≡ Ok bs
text_again set percent escaped part bs utf8 taken =
    let same = decoded_again set percent bs utf8 in
    let good = text_good part (percent_encode set bs) (escaped_well set escaped bs) (rw same utf8) (rw same taken) in
    rw same at good

abbrev passed : List ℕ → Result (List ℕ) UriFault
passed text = Ok text

abbrev failed : UriFault → Result (List ℕ) UriFault
failed f = Err f

-- what is known of a text that was read
chosen : (x y z : Bool) (text read : List ℕ) (f : UriFault) → (if x && y && not z then passed text else failed f) ≡ Ok read → (y ≡ true) × (z ≡ false) × (text ≡ read)
chosen true true false text read f e = (refl, refl, cc)
chosen true true true text read f e = absurd cc
chosen true false z text read f e = absurd cc
chosen false y z text read f e = absurd cc

pub text_facts : (part : Part) (piece text : List ℕ) → text_at part piece ≡ Ok text → (is_utf8 text ≡ true) × (is_refused part text ≡ false)
unfolding text_at
text_facts part piece text e =
    let (utf8, taken, same) = chosen (well_escaped piece) (is_utf8 (percent_decode piece)) (is_refused part (percent_decode piece)) (percent_decode piece) text _ e in
    (rw same at utf8, rw same at taken)

texts_step : (set : AsciiSet) → contains set 37 ≡ true → should_percent_encode set 37 ≡ true → (part : Part) (p : List ℕ) (one : Result (List ℕ) UriFault) (others : Result (List (List ℕ)) UriFault) (texts : List (List ℕ)) → text_at part p ≡ one → ((more : List (List ℕ)) → others ≡ Ok more → texts_at part (map (percent_encode set) more) ≡ Ok more) → (one >>= λ text. others >>= λ more. Ok (text ∷ more)) ≡ Ok texts → texts_at part (map (percent_encode set) texts) ≡ Ok texts
texts_step set percent escaped part p (Ok text) (Ok more) texts one others all =
    let facts = text_facts part p text one in
    let same : text ∷ more ≡ texts = cc in
    rw (← same, text_again set percent escaped part text facts.0 facts.1, others more refl) refl
texts_step set percent escaped part p (Ok text) (Err f) texts one others all = absurd cc
texts_step set percent escaped part p (Err f) others texts one more all = absurd cc

-- texts that were read are read again once escaped
pub texts_again : (set : AsciiSet) → contains set 37 ≡ true → should_percent_encode set 37 ≡ true → (part : Part) (ps texts : List (List ℕ)) → texts_at part ps ≡ Ok texts → texts_at part (map (percent_encode set) texts) ≡ Ok texts
texts_again set percent escaped part [] texts e = let none : [] ≡ texts = cc in rw (← none) refl
texts_again set percent escaped part (p ∷ ps) texts e =
    texts_step set percent escaped part p (text_at part p) (texts_at part ps) texts refl (λ more f. texts_again set percent escaped part ps more f) e
