-- The fault that reading gives is the first one.
use Rattle.std.proofs.Common.{◌≡◌, ◌≢◌, ℕ, zero, suc, ◌≤◌, ◌<◌, ◌+◌, ◌/◌, ◌%◌, true, ltb, eqb, List, [], ◌∷◌, ◌++◌, length, Err, refl, sym, ap, subst, ◌∙◌, append_assoc, arith, inl, inr, ◌⊎◌}
use Rattle.std.specs.Prelude.{◌||◌, ◌&&◌}
use Rattle.std.proofs.lemmas.List.{length-append}
use Rattle.std.proofs.lemmas.Bool.{eqb-true, eqb-false, eq-eqb, ltb-true, ltb-false, or_parts, or_cases, and_parts}
use Rattle.coap_codec.specs.declared.fault.CodecFault.{CodecFault}
use Rattle.coap_codec.specs.declared.fault.CodecFault.TheVariants.{Short, Version, TokenLength, Reserved, Truncated, EmptyPayload, EmptyExtra, Number, Memory}
use Rattle.coap_codec.specs.Spelling.{Entry, SpellsOptions}
use Rattle.coap_codec.specs.Faults.{HasHeader, HasDelta, HasLength, extension_length, OptionFault, last_number, HasOptions, FaultInOptions, FirstFault}
use Rattle.coap_codec.specs.Reading.{value_at, extended_at, one_more, two_more, option_at, options_at, payload_at, Head, head_at, message_at}
use Rattle.coap_codec.proofs.Steps.{chosen_err, bind_fails, err_is}
use Rattle.coap_codec.proofs.ByteRanges.{IsBytes, IsBytes-behind}
use Rattle.coap_codec.proofs.Takes.{extended_takes, value_takes, option_takes, IsEnd, options_take, TakesHead, head_takes}

-- ---- a nibble and its bytes, and so many bytes

one_fails : (bytes : List ℕ) (f : CodecFault) → one_more bytes ≡ Err f → (Truncated ≡ f) × (length bytes < 1)
one_fails [] f e = (err_is {A = ℕ × List ℕ} Truncated f e, omega arith)
one_fails (a ∷ rest) f e = absurd cc

two_fails : (bytes : List ℕ) (f : CodecFault) → two_more bytes ≡ Err f → (Truncated ≡ f) × (length bytes < 2)
two_fails [] f e = (err_is {A = ℕ × List ℕ} Truncated f e, omega arith)
two_fails (a ∷ []) f e = (err_is {A = ℕ × List ℕ} Truncated f e, omega arith)
two_fails (a ∷ b ∷ rest) f e = absurd cc

extended_fails : (nibble : ℕ) (bytes : List ℕ) (f : CodecFault) → nibble < 15 → extended_at nibble bytes ≡ Err f → (Truncated ≡ f) × (length bytes < extension_length nibble)
extended_fails nibble bytes f below e =
    elim (chosen_err (ltb nibble 13) _ _ f e) [
      | inl p ↦ absurd (let g = p.1 in cc)
      | inr p ↦ elim (chosen_err (eqb nibble 13) _ _ f p.1) [
        | inl q ↦ let t = one_fails bytes f q.1 in (t.0, rw q.0 t.1)
        | inr q ↦
            let t = two_fails bytes f q.1 in
            let fourteen : eqb nibble 14 ≡ true = eq-eqb nibble 14 (omega (arith, ltb-false _ _ p.0, eqb-false _ _ q.0)) in
            (t.0, rw (q.0, fourteen) t.1)
      ]
    ]

value_fails : (len : ℕ) (bytes : List ℕ) (f : CodecFault) → value_at len bytes ≡ Err f → (Truncated ≡ f) × (length bytes < len)
value_fails len bytes f e =
    elim (chosen_err (ltb (length bytes) len) _ _ f e) [
      | inl p ↦ (err_is {A = List ℕ × List ℕ} Truncated f p.1, ltb-true _ _ p.0)
      | inr p ↦ absurd (let g = p.1 in cc)
    ]

-- ---- options

reserved_is : (first : ℕ) → first ≢ 255 → ((eqb (first / 16) 15) || (eqb (first % 16) 15)) ≡ true → (first ≢ 255) × ((first / 16 ≡ 15) ⊎ (first % 16 ≡ 15))
reserved_is first other h =
    elim (or_cases (eqb (first / 16) 15) (eqb (first % 16) 15) h) [
      | inl high ↦ (other, inl (eqb-true _ _ high))
      | inr low ↦ (other, inr (eqb-true _ _ low))
    ]

option_fails : (before first : ℕ) (bytes : List ℕ) (f : CodecFault) → first < 256 → first ≢ 255 → IsBytes bytes → option_at before first bytes ≡ Err f → OptionFault before first bytes f
unfolding option_at
option_fails before first bytes f byte other h e =
    elim (chosen_err ((eqb (first / 16) 15) || (eqb (first % 16) 15)) _ _ f e) [
      | inl p ↦ subst (OptionFault before first bytes) (err_is {A = Entry × List ℕ} Reserved f p.1) (reserved_is first other p.0)
      | inr p ↦
          let n = or_parts (eqb (first / 16) 15) (eqb (first % 16) 15) p.0 in
          let high : first / 16 < 15 = omega (arith, eqb-false _ _ n.0) in
          let low : first % 16 < 15 = omega (arith, eqb-false _ _ n.1) in
          elim (bind_fails (extended_at (first / 16) bytes) _ f p.1) [
            | inl q ↦
                let t = extended_fails (first / 16) bytes f high q in
                subst (OptionFault before first bytes) t.0 (inl (high, low, t.1))
            | inr b ↦
                let t = extended_takes (first / 16) bytes b.0 high h b.1 in
                let delta : HasDelta first bytes b.0.0 b.0.1 = record { delta_nibble = high; length_nibble = low; more = t.more; delta_is = t.is; parts = t.parts } in
                elim (chosen_err (ltb 65535 (before + b.0.0)) _ _ f b.2) [
                  | inl q ↦ subst (OptionFault before first bytes) (err_is {A = Entry × List ℕ} Number f q.1) (b.0.0, b.0.1, delta, ltb-true _ _ q.0)
                  | inr q ↦
                      let fits : before + b.0.0 < 65536 = omega (arith, ltb-false _ _ q.0) in
                      elim (bind_fails (extended_at (first % 16) b.0.1) _ f q.1) [
                        | inl r ↦
                            let u = extended_fails (first % 16) b.0.1 f low r in
                            subst (OptionFault before first bytes) u.0 (inr (inl (b.0.0, b.0.1, delta, fits, u.1)))
                        | inr d ↦
                            let u = extended_takes (first % 16) b.0.1 d.0 low (IsBytes-behind bytes t.more b.0.1 t.parts h) d.1 in
                            let len : HasLength before first bytes d.0.0 d.0.1 = record { delta = b.0.0; behind_delta = b.0.1; delta_is = delta; in_range = fits; more = u.more; length_is = u.is; parts = u.parts } in
                            elim (bind_fails (value_at d.0.0 d.0.1) _ f d.2) [
                              | inl v ↦
                                  let w = value_fails d.0.0 d.0.1 f v in
                                  subst (OptionFault before first bytes) w.0 (inr (inr (d.0.0, d.0.1, len, w.1)))
                              | inr never ↦ absurd (let g = never.2 in cc)
                            ]
                      ]
                ]
          ]
    ]

-- after options that are spelled, one has the fault
pub record FaultBehind (before : ℕ) (bytes : List ℕ) (f : CodecFault) : Type 0 where
  pub good : List Entry
  pub text : List ℕ
  pub first : ℕ
  pub rest : List ℕ
  pub parts : bytes ≡ text ++ first ∷ rest
  pub spelled : SpellsOptions before good text
  pub fault : OptionFault (last_number before good) first rest f

options_fail : (rounds before : ℕ) (bytes : List ℕ) (f : CodecFault) → length bytes ≤ rounds → IsBytes bytes → options_at rounds before bytes ≡ Err f → FaultBehind before bytes f
unfolding options_at
options_fail zero before bytes f fits h e = absurd cc
options_fail (suc rounds) before [] f fits h e = absurd cc
options_fail (suc rounds) before (b ∷ bytes) f fits h e =
    elim (chosen_err (eqb b 255) _ _ f e) [
      | inl p ↦ absurd (let g = p.1 in cc)
      | inr p ↦ elim (bind_fails (option_at before b bytes) _ f p.1) [
        | inl here ↦ record { good = []; text = []; first = b; rest = bytes; parts = refl; spelled = refl; fault = option_fails before b bytes f h.0 (eqb-false b 255 p.0) h.1 here }
        | inr a ↦ elim (bind_fails (options_at rounds a.0.0.number a.0.1) _ f a.2) [
          | inl later ↦
              let front = option_takes before b bytes a.0 h.0 h.1 a.1 in
              let shorter : length a.0.1 ≤ rounds = omega (arith, ap length front.parts, length-append front.more a.0.1) in
              let others = options_fail rounds a.0.0.number a.0.1 f shorter (IsBytes-behind bytes front.more a.0.1 front.parts h.1) later in
              record {
                good = a.0.0 ∷ others.good;
                text = (b ∷ front.more) ++ others.text;
                first = others.first;
                rest = others.rest;
                parts = ap (λ (r : List ℕ). b ∷ r) (front.parts ∙ ap (λ (r : List ℕ). front.more ++ r) others.parts ∙ sym (append_assoc front.more others.text (others.first ∷ others.rest)));
                spelled = (b ∷ front.more, others.text, refl, front.spelled, others.spelled);
                fault = others.fault;
              }
          | inr never ↦ absurd (let g = never.2 in cc)
        ]
      ]
    ]

-- ---- the payload and the header

payload_fails : (bytes : List ℕ) (f : CodecFault) → IsEnd bytes → payload_at bytes ≡ Err f → (EmptyPayload ≡ f) × (bytes ≡ 255 ∷ [])
payload_fails [] f end e = absurd cc
payload_fails (marker ∷ []) f end e = (err_is {A = List ℕ} EmptyPayload f e, ap (λ (k : ℕ). k ∷ []) end)
payload_fails (marker ∷ p ∷ ps) f end e = absurd cc

extra_is : (code len : ℕ) (rest : List ℕ) → ((eqb code 0) && (ltb 0 len || ltb 0 (length rest))) ≡ true → (code ≡ 0) × ((0 < len) ⊎ (0 < length rest))
extra_is code len rest e =
    let both = and_parts (eqb code 0) (ltb 0 len || ltb 0 (length rest)) e in
    elim (or_cases (ltb 0 len) (ltb 0 (length rest)) both.1) [
      | inl token ↦ (eqb-true _ _ both.0, inl (ltb-true _ _ token))
      | inr more ↦ (eqb-true _ _ both.0, inr (ltb-true _ _ more))
    ]

head_fails : (bytes : List ℕ) (f : CodecFault) → head_at bytes ≡ Err f → FirstFault bytes f
head_fails [] f e = subst (FirstFault []) (err_is {A = Head × List ℕ} Short f e) (omega arith)
head_fails (a ∷ []) f e = subst (FirstFault (a ∷ [])) (err_is {A = Head × List ℕ} Short f e) (omega arith)
head_fails (a ∷ code ∷ []) f e = subst (FirstFault (a ∷ code ∷ [])) (err_is {A = Head × List ℕ} Short f e) (omega arith)
head_fails (a ∷ code ∷ high ∷ []) f e = subst (FirstFault (a ∷ code ∷ high ∷ [])) (err_is {A = Head × List ℕ} Short f e) (omega arith)
head_fails (a ∷ code ∷ high ∷ low ∷ rest) f e =
    elim (chosen_err (eqb (a / 64) 1) _ _ f e) [
      | inl p ↦
          let version : a / 64 ≡ 1 = eqb-true _ _ p.0 in
          elim (chosen_err (ltb 8 (a % 16)) _ _ f p.1) [
            | inl q ↦ subst (FirstFault (a ∷ code ∷ high ∷ low ∷ rest)) (err_is {A = Head × List ℕ} TokenLength f q.1) (version, ltb-true _ _ q.0)
            | inr q ↦
                let short : a % 16 ≤ 8 = omega (arith, ltb-false _ _ q.0) in
                elim (chosen_err ((eqb code 0) && (ltb 0 (a % 16) || ltb 0 (length rest))) _ _ f q.1) [
                  | inl r ↦
                      let extra = extra_is code (a % 16) rest r.0 in
                      subst (FirstFault (a ∷ code ∷ high ∷ low ∷ rest)) (err_is {A = Head × List ℕ} EmptyExtra f r.1) (version, short, extra.0, extra.1)
                  | inr r ↦ absurd (let g = r.1 in cc)
                ]
          ]
      | inr p ↦ subst (FirstFault (a ∷ code ∷ high ∷ low ∷ rest)) (err_is {A = Head × List ℕ} Version f p.1) (eqb-false _ _ p.0)
    ]

-- ---- the message

has_header : (bytes : List ℕ) (x : Head × List ℕ) → TakesHead bytes x → HasHeader bytes x.0.len x.1
has_header bytes x t = record { kind = x.0.kind; code = x.0.code; mid_high = t.high; mid_low = t.low; short_token = t.short; nothing_else = t.nothing_else; whole = t.parts }

has_options : (bytes : List ℕ) (x : Head × List ℕ) (token text tail : List ℕ) (options : List Entry) → TakesHead bytes x → length token ≡ x.0.len → x.1 ≡ token ++ (text ++ tail) → SpellsOptions 0 options text → HasOptions bytes options tail
has_options bytes x token text tail options t len parts spelled =
    let behind : x.1 ≡ token ++ text ++ tail = parts ∙ sym (append_assoc token text tail) in
    record { token = token; text = text; spelled = spelled; header = subst (λ (k : ℕ). HasHeader bytes k (token ++ text ++ tail)) (sym len) (subst (HasHeader bytes x.0.len) behind (has_header bytes x t)) }

in_options : (bytes : List ℕ) (f : CodecFault) → FaultInOptions bytes f → FirstFault bytes f
in_options bytes Short fault = absurd fault.fault
in_options bytes Version fault = absurd fault.fault
in_options bytes TokenLength fault = absurd fault.fault
in_options bytes Reserved fault = fault
in_options bytes Truncated fault = inr fault
in_options bytes EmptyPayload fault = absurd fault.fault
in_options bytes EmptyExtra fault = absurd fault.fault
in_options bytes Number fault = fault
in_options bytes Memory fault = absurd fault.fault

pub message_fails : (bytes : List ℕ) (f : CodecFault) → IsBytes bytes → message_at bytes ≡ Err f → FirstFault bytes f
unfolding message_at
message_fails bytes f fits e =
    elim (bind_fails (head_at bytes) _ f e) [
      | inl p ↦ head_fails bytes f p
      | inr a ↦
          let head = head_takes bytes a.0 fits a.1 in
          elim (bind_fails (value_at a.0.0.len a.0.1) _ f a.2) [
            | inl p ↦
                let t = value_fails a.0.0.len a.0.1 f p in
                subst (FirstFault bytes) t.0 (inl (a.0.0.len, a.0.1, has_header bytes a.0 head, t.1))
            | inr b ↦
                let token = value_takes a.0.0.len a.0.1 b.0 b.1 in
                let behind_head = IsBytes-behind bytes (_ ∷ _ ∷ _ ∷ _ ∷ []) a.0.1 head.parts fits in
                let behind_token = IsBytes-behind a.0.1 b.0.0 b.0.1 token.0 behind_head in
                elim (bind_fails (options_at (length b.0.1) 0 b.0.1) _ f b.2) [
                  | inl p ↦
                      let o = options_fail (length b.0.1) 0 b.0.1 f (omega arith) behind_token p in
                      let parts : a.0.1 ≡ b.0.0 ++ (o.text ++ o.first ∷ o.rest) = token.0 ∙ ap (λ (r : List ℕ). b.0.0 ++ r) o.parts in
                      in_options bytes f (record { good = o.good; first = o.first; rest = o.rest; in_front = has_options bytes a.0 b.0.0 o.text (o.first ∷ o.rest) o.good head token.1 parts o.spelled; fault = o.fault })
                  | inr c ↦
                      let o = options_take (length b.0.1) 0 b.0.1 c.0 (omega arith) behind_token c.1 in
                      elim (bind_fails (payload_at c.0.1) _ f c.2) [
                        | inl p ↦
                            let t = payload_fails c.0.1 f o.ended p in
                            let parts : a.0.1 ≡ b.0.0 ++ (o.text ++ 255 ∷ []) = token.0 ∙ ap (λ (r : List ℕ). b.0.0 ++ r) (o.parts ∙ ap (λ (r : List ℕ). o.text ++ r) t.1) in
                            subst (FirstFault bytes) t.0 (c.0.0, has_options bytes a.0 b.0.0 o.text (255 ∷ []) c.0.0 head token.1 parts o.spelled)
                        | inr never ↦ absurd (let g = never.2 in cc)
                      ]
                ]
          ]
    ]
