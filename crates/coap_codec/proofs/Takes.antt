-- What is read is spelled so.
use Rattle.std.proofs.Common.{◌≡◌, ℕ, zero, suc, ◌≤◌, ◌<◌, ◌+◌, ◌*◌, ◌/◌, ◌%◌, false, ltb, eqb, List, [], ◌∷◌, ◌++◌, length, take, drop, Ok, refl, sym, ap, subst, ◌∙◌, append_assoc, arith, inl, inr}
use Rattle.std.specs.Prelude.{◌||◌, ◌&&◌}
use Rattle.std.proofs.lemmas.List.{length-append, nil_from_length, take-append-drop, length-take-le}
use Rattle.std.proofs.lemmas.Bool.{eqb-true, eqb-false, ltb-false, ltb-true, or_parts, and_cases}
use Rattle.coap_codec.specs.declared.fault.CodecFault.TheVariants.{Truncated, Reserved, Number, TokenLength, EmptyExtra}
use Rattle.coap_codec.specs.Spelling.{Entry, Content, code_of, StandsFor, SpellsOption, SpellsOptions, SpellsPayload, Spells}
use Rattle.coap_codec.specs.Reading.{value_at, extended_at, one_more, two_more, option_at, options_at, payload_at, kind_of, Head, head_at, message_at}
use Rattle.coap_codec.proofs.Steps.{bind_ok, guard_ok, chosen, ok_is}
use Rattle.coap_codec.proofs.ByteRanges.{IsBytes, IsBytes-behind}

-- ---- a nibble and its bytes

pub record TakesNumber (nibble : ℕ) (bytes : List ℕ) (x : ℕ × List ℕ) : Type 0 where
  pub more : List ℕ
  pub parts : bytes ≡ more ++ x.1
  pub is : StandsFor nibble more x.0

one_takes : (bytes : List ℕ) (x : ℕ × List ℕ) → IsBytes bytes → one_more bytes ≡ Ok x → TakesNumber 13 bytes x
one_takes [] x h e = absurd cc
one_takes (a ∷ rest) x h e = subst (λ (y : ℕ × List ℕ). TakesNumber 13 (a ∷ rest) y) (ok_is (a + 13, rest) x e) (record { more = a ∷ []; parts = refl; is = (refl, refl, h.0) })

two_takes : (bytes : List ℕ) (x : ℕ × List ℕ) → IsBytes bytes → two_more bytes ≡ Ok x → TakesNumber 14 bytes x
two_takes [] x h e = absurd cc
two_takes (a ∷ []) x h e = absurd cc
two_takes (a ∷ b ∷ rest) x h e = subst (λ (y : ℕ × List ℕ). TakesNumber 14 (a ∷ b ∷ rest) y) (ok_is (256 * a + b + 269, rest) x e) (record { more = a ∷ b ∷ []; parts = refl; is = (refl, refl, h.1.0) })

pub extended_takes : (nibble : ℕ) (bytes : List ℕ) (x : ℕ × List ℕ) → nibble < 15 → IsBytes bytes → extended_at nibble bytes ≡ Ok x → TakesNumber nibble bytes x
extended_takes nibble bytes x below h e =
    elim (chosen (ltb nibble 13) _ _ _ e) [
      | inl p ↦ subst (λ (y : ℕ × List ℕ). TakesNumber nibble bytes y) (ok_is (nibble, bytes) x p.1) (record { more = []; parts = refl; is = (ltb-true _ _ p.0, refl) })
      | inr p ↦ elim (chosen (eqb nibble 13) _ _ _ p.1) [
        | inl q ↦ subst (λ (n : ℕ). TakesNumber n bytes x) (sym (eqb-true _ _ q.0)) (one_takes bytes x h q.1)
        | inr q ↦ let fourteen : 14 ≡ nibble = omega (arith, ltb-false _ _ p.0, eqb-false _ _ q.0) in subst (λ (n : ℕ). TakesNumber n bytes x) fourteen (two_takes bytes x h q.1)
      ]
    ]

-- ---- so many bytes

pub value_takes : (len : ℕ) (bytes : List ℕ) (x : List ℕ × List ℕ) → value_at len bytes ≡ Ok x → (bytes ≡ x.0 ++ x.1) × (length x.0 ≡ len)
value_takes len bytes x e =
    let g = guard_ok (ltb (length bytes) len) Truncated _ _ x refl e in
    subst (λ (y : List ℕ × List ℕ). (bytes ≡ y.0 ++ y.1) × (length y.0 ≡ len)) (ok_is (take len bytes, drop len bytes) x g.1) (sym (take-append-drop len bytes), length-take-le len bytes (ltb-false _ _ g.0))

-- ---- an option

pub record TakesOption (before first : ℕ) (bytes : List ℕ) (x : Entry × List ℕ) : Type 0 where
  pub more : List ℕ
  pub parts : bytes ≡ more ++ x.1
  pub spelled : SpellsOption before x.0 (first ∷ more)

pub option_takes : (before first : ℕ) (bytes : List ℕ) (x : Entry × List ℕ) → first < 256 → IsBytes bytes → option_at before first bytes ≡ Ok x → TakesOption before first bytes x
unfolding option_at
option_takes before first bytes x byte h e =
    let a = guard_ok ((eqb (first / 16) 15) || (eqb (first % 16) 15)) Reserved _ _ x refl e in
    let n = or_parts (eqb (first / 16) 15) (eqb (first % 16) 15) a.0 in
    let b = bind_ok (extended_at (first / 16) bytes) _ x a.1 in
    let c = guard_ok (ltb 65535 (before + b.0.0)) Number _ _ x refl b.2 in
    let d = bind_ok (extended_at (first % 16) b.0.1) _ x c.1 in
    let f = bind_ok (value_at d.0.0 d.0.1) _ x d.2 in
    let t1 = extended_takes (first / 16) bytes b.0 (omega (arith, eqb-false _ _ n.0)) h b.1 in
    let t2 = extended_takes (first % 16) b.0.1 d.0 (omega (arith, eqb-false _ _ n.1)) (IsBytes-behind bytes t1.more b.0.1 t1.parts h) d.1 in
    let v = value_takes d.0.0 d.0.1 f.0 f.1 in
    let made : Entry × List ℕ = (record { number = before + b.0.0; value = f.0.0 }, f.0.1) in
    let text : TakesOption before first bytes made = record {
      more = t1.more ++ t2.more ++ f.0.0;
      parts = t1.parts ∙ ap (λ (r : List ℕ). t1.more ++ r) (t2.parts ∙ ap (λ (r : List ℕ). t2.more ++ r) v.0) ∙ simp append_assoc;
      spelled = record {
        delta = b.0.0;
        delta_nibble = first / 16;
        delta_more = t1.more;
        length_nibble = first % 16;
        length_more = t2.more;
        number = refl;
        in_range = omega (arith, ltb-false _ _ c.0);
        delta_is = t1.is;
        length_is = subst (λ (k : ℕ). StandsFor (first % 16) t2.more k) (sym v.1) t2.is;
        whole = ap (λ (k : ℕ). k ∷ t1.more ++ t2.more ++ f.0.0) (omega arith);
      };
    } in
    subst (λ (y : Entry × List ℕ). TakesOption before first bytes y) (ok_is made x f.2) text

-- ---- options

-- the end of the options
abbrev pub IsEnd : List ℕ → Type 0
IsEnd [] = Unit {0}
IsEnd (b ∷ bytes) = b ≡ 255

pub record TakesOptions (before : ℕ) (bytes : List ℕ) (x : List Entry × List ℕ) : Type 0 where
  pub text : List ℕ
  pub parts : bytes ≡ text ++ x.1
  pub spelled : SpellsOptions before x.0 text
  pub ended : IsEnd x.1

pub options_take : (rounds before : ℕ) (bytes : List ℕ) (x : List Entry × List ℕ) → length bytes ≤ rounds → IsBytes bytes → options_at rounds before bytes ≡ Ok x → TakesOptions before bytes x
unfolding options_at
options_take zero before [] x fits h e = subst (λ (y : List Entry × List ℕ). TakesOptions before [] y) (ok_is ([], []) x e) (record { text = []; parts = refl; spelled = refl; ended = tt })
options_take zero before (b ∷ bytes) x fits h e = absurd (omega arith)
options_take (suc rounds) before [] x fits h e = subst (λ (y : List Entry × List ℕ). TakesOptions before [] y) (ok_is ([], []) x e) (record { text = []; parts = refl; spelled = refl; ended = tt })
options_take (suc rounds) before (b ∷ bytes) x fits h e =
    elim (chosen (eqb b 255) _ _ _ e) [
      | inl p ↦ subst (λ (y : List Entry × List ℕ). TakesOptions before (b ∷ bytes) y) (ok_is ([], b ∷ bytes) x p.1) (record { text = []; parts = refl; spelled = refl; ended = eqb-true _ _ p.0 })
      | inr p ↦
          let a = bind_ok (option_at before b bytes) _ x p.1 in
          let c = bind_ok (options_at rounds a.0.0.number a.0.1) _ x a.2 in
          let first = option_takes before b bytes a.0 h.0 h.1 a.1 in
          let shorter : length a.0.1 ≤ rounds = omega (arith, ap length first.parts, length-append first.more a.0.1) in
          let others = options_take rounds a.0.0.number a.0.1 c.0 shorter (IsBytes-behind bytes first.more a.0.1 first.parts h.1) c.1 in
          let made : List Entry × List ℕ = (a.0.0 ∷ c.0.0, c.0.1) in
          let text : TakesOptions before (b ∷ bytes) made = record {
            text = (b ∷ first.more) ++ others.text;
            parts = ap (λ (r : List ℕ). b ∷ r) (first.parts ∙ ap (λ (r : List ℕ). first.more ++ r) others.parts ∙ sym (append_assoc first.more others.text c.0.1));
            spelled = (b ∷ first.more, others.text, refl, first.spelled, others.spelled);
            ended = others.ended;
          } in
          subst (λ (y : List Entry × List ℕ). TakesOptions before (b ∷ bytes) y) (ok_is made x c.2) text
    ]

-- ---- the payload

payload_takes : (bytes payload : List ℕ) → IsEnd bytes → payload_at bytes ≡ Ok payload → SpellsPayload payload bytes
payload_takes [] payload end e = subst (λ (p : List ℕ). SpellsPayload p []) (ok_is [] payload e) refl
payload_takes (marker ∷ []) payload end e = absurd cc
payload_takes (marker ∷ p ∷ ps) payload end e = subst (λ (q : List ℕ). SpellsPayload q (marker ∷ p ∷ ps)) (ok_is (p ∷ ps) payload e) (ap (λ (k : ℕ). k ∷ p ∷ ps) end)

-- ---- the first four bytes

code_of-kind_of : (k : ℕ) → k < 4 → code_of (kind_of k) ≡ k
code_of-kind_of zero lt = refl
code_of-kind_of (suc zero) lt = refl
code_of-kind_of (suc (suc zero)) lt = refl
code_of-kind_of (suc (suc (suc zero))) lt = refl
code_of-kind_of (suc (suc (suc (suc k)))) lt = absurd (omega arith)

pub record TakesHead (bytes : List ℕ) (x : Head × List ℕ) : Type 0 where
  pub high : ℕ
  pub low : ℕ
  pub mid : x.0.mid ≡ 256 * high + low
  pub low_is_byte : low < 256
  pub short : x.0.len ≤ 8
  pub nothing_else : x.0.code ≡ 0 → (x.0.len ≡ 0) × (x.1 ≡ [])
  pub parts : bytes ≡ (64 + 16 * code_of x.0.kind + x.0.len) ∷ x.0.code ∷ high ∷ low ∷ x.1

empty_is : (code len : ℕ) (rest : List ℕ) → ((eqb code 0) && (ltb 0 len || ltb 0 (length rest))) ≡ false → code ≡ 0 → (len ≡ 0) × (rest ≡ [])
empty_is code len rest e z =
    elim (and_cases (eqb code 0) (ltb 0 len || ltb 0 (length rest)) e) [
      | inl p ↦ absurd (eqb-false code 0 p z)
      | inr p ↦
          let q = or_parts (ltb 0 len) (ltb 0 (length rest)) p in
          (omega (arith, ltb-false 0 len q.0), nil_from_length rest (omega (arith, ltb-false 0 (length rest) q.1)))
    ]

pub head_takes : (bytes : List ℕ) (x : Head × List ℕ) → IsBytes bytes → head_at bytes ≡ Ok x → TakesHead bytes x
head_takes [] x h e = absurd cc
head_takes (a ∷ []) x h e = absurd cc
head_takes (a ∷ code ∷ []) x h e = absurd cc
head_takes (a ∷ code ∷ high ∷ []) x h e = absurd cc
head_takes (a ∷ code ∷ high ∷ low ∷ rest) x h e =
    elim (chosen (eqb (a / 64) 1) _ _ _ e) [
      | inl p ↦
          let q = guard_ok (ltb 8 (a % 16)) TokenLength _ _ x refl p.1 in
          let r = guard_ok ((eqb code 0) && (ltb 0 (a % 16) || ltb 0 (length rest))) EmptyExtra _ _ x refl q.1 in
          let made : Head × List ℕ = (record { kind = kind_of (a / 16 % 4); code = code; mid = 256 * high + low; len = a % 16 }, rest) in
          let kind-is : code_of (kind_of (a / 16 % 4)) ≡ a / 16 % 4 = code_of-kind_of (a / 16 % 4) (omega arith) in
          let text : TakesHead (a ∷ code ∷ high ∷ low ∷ rest) made = record {
            high = high;
            low = low;
            mid = refl;
            low_is_byte = h.1.1.1.0;
            short = omega (arith, ltb-false _ _ q.0);
            nothing_else = empty_is code (a % 16) rest r.0;
            parts = ap (λ (k : ℕ). k ∷ code ∷ high ∷ low ∷ rest) (omega (arith, eqb-true _ _ p.0, kind-is));
          } in
          subst (λ (y : Head × List ℕ). TakesHead (a ∷ code ∷ high ∷ low ∷ rest) y) (ok_is made x r.1) text
      | inr p ↦ absurd cc
    ]

-- ---- the message

is_nothing : (xs ys : List ℕ) → xs ++ ys ≡ [] → (xs ≡ []) × (ys ≡ [])
is_nothing [] ys e = (refl, e)
is_nothing (x ∷ xs) ys e = absurd cc

no_options : (before : ℕ) (os : List Entry) (text : List ℕ) → SpellsOptions before os text → text ≡ [] → os ≡ []
no_options before [] text s e = refl
no_options before (o ∷ os) text s e =
    let nothing = is_nothing s.0 s.1 (sym s.2 ∙ e) in
    absurd (let full = s.3.whole in cc)

no_payload : (payload text : List ℕ) → SpellsPayload payload text → text ≡ [] → payload ≡ []
no_payload [] text s e = refl
no_payload (p ∷ ps) text s e = absurd cc

pub message_takes : (bytes : List ℕ) (m : Content) → IsBytes bytes → message_at bytes ≡ Ok m → Spells m bytes
unfolding message_at
message_takes bytes m fits e =
    let a = bind_ok (head_at bytes) _ m e in
    let b = bind_ok (value_at a.0.0.len a.0.1) _ m a.2 in
    let c = bind_ok (options_at (length b.0.1) 0 b.0.1) _ m b.2 in
    let d = bind_ok (payload_at c.0.1) _ m c.2 in
    let head = head_takes bytes a.0 fits a.1 in
    let token = value_takes a.0.0.len a.0.1 b.0 b.1 in
    let rest_fits = IsBytes-behind bytes (_ ∷ _ ∷ _ ∷ _ ∷ []) a.0.1 head.parts fits in
    let options = options_take (length b.0.1) 0 b.0.1 c.0 (omega arith) (IsBytes-behind a.0.1 b.0.0 b.0.1 token.0 rest_fits) c.1 in
    let payload = payload_takes c.0.1 d.0 options.ended d.1 in
    let made : Content = record { kind = a.0.0.kind; code = a.0.0.code; mid = a.0.0.mid; token = b.0.0; options = c.0.0; payload = d.0 } in
    let behind : a.0.1 ≡ b.0.0 ++ options.text ++ c.0.1 = token.0 ∙ ap (λ (r : List ℕ). b.0.0 ++ r) options.parts ∙ sym (append_assoc b.0.0 options.text c.0.1) in
    let text : Spells made bytes = record {
      options = options.text;
      payload = c.0.1;
      mid_high = head.high;
      mid_low = head.low;
      short_token = omega (arith, head.short, token.1);
      mid = head.mid;
      mid_low_is_byte = head.low_is_byte;
      options_are = options.spelled;
      payload_is = payload;
      nothing_else = λ z.
          let none = head.nothing_else z in
          let n1 = is_nothing (b.0.0 ++ options.text) c.0.1 (sym behind ∙ none.1) in
          let n2 = is_nothing b.0.0 options.text n1.0 in
          (n2.0, no_options 0 c.0.0 options.text options.spelled n2.1, no_payload d.0 c.0.1 payload n1.1);
      whole = head.parts ∙ ap (λ (r : List ℕ). (64 + 16 * code_of a.0.0.kind + a.0.0.len) ∷ a.0.0.code ∷ head.high ∷ head.low ∷ r) behind ∙ ap (λ (k : ℕ). (64 + 16 * code_of a.0.0.kind + k) ∷ a.0.0.code ∷ head.high ∷ head.low ∷ b.0.0 ++ options.text ++ c.0.1) (sym token.1);
    } in
    subst (λ (n : Content). Spells n bytes) (ok_is made m d.2) text
