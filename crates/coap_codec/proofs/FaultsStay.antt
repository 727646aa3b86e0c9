-- A fault that more bytes don't mend.
use Rattle.std.proofs.Common.{◌≡◌, ◌≢◌, ℕ, ◌<◌, ◌+◌, ◌*◌, ◌%◌, List, [], ◌∷◌, ◌++◌, length, refl, ap, ◌∙◌, append_assoc, arith, inl, inr, ◌⊎◌}
use Rattle.std.proofs.lemmas.List.{length-append}
use Rattle.coap_codec.specs.declared.fault.CodecFault.{CodecFault}
use Rattle.coap_codec.specs.declared.fault.CodecFault.TheVariants.{Short, Version, TokenLength, Reserved, Truncated, EmptyPayload, EmptyExtra, Number, Memory}
use Rattle.coap_codec.specs.Spelling.{Entry, code_of}
use Rattle.coap_codec.specs.Faults.{HeaderIs, HasDelta, OptionFault, last_number, HasOptions, FaultInOptions, FirstFault}

-- a header's bytes stay, and what stands after them grows
header_stays : (bytes more : List ℕ) (P Q : ℕ → ℕ → List ℕ → Type 0) → ((first code : ℕ) (rest : List ℕ) → P first code rest → Q first code (rest ++ more)) → HeaderIs bytes P → HeaderIs (bytes ++ more) Q
header_stays [] more P Q grows s = absurd s
header_stays (a ∷ []) more P Q grows s = absurd s
header_stays (a ∷ b ∷ []) more P Q grows s = absurd s
header_stays (a ∷ b ∷ c ∷ []) more P Q grows s = absurd s
header_stays (a ∷ b ∷ c ∷ d ∷ rest) more P Q grows s = grows a b rest s

not_nothing : (a b : List ℕ) (first : ℕ) (rest : List ℕ) → a ++ b ++ first ∷ rest ≡ [] → ⊥
not_nothing a b first rest e = omega (arith, ap length e, length-append (a ++ b) (first ∷ rest))

options_stay : (bytes more : List ℕ) (os : List Entry) (first : ℕ) (rest : List ℕ) → HasOptions bytes os (first ∷ rest) → HasOptions (bytes ++ more) os (first ∷ (rest ++ more))
options_stay bytes more os first rest s =
    let h = s.header in
    let grown : (s.token ++ s.text ++ first ∷ rest) ++ more ≡ s.token ++ s.text ++ first ∷ (rest ++ more) = append_assoc (s.token ++ s.text) (first ∷ rest) more in
    record {
      token = s.token;
      text = s.text;
      spelled = s.spelled;
      header = record {
        kind = h.kind;
        code = h.code;
        mid_high = h.mid_high;
        mid_low = h.mid_low;
        short_token = h.short_token;
        nothing_else = λ z. absurd (not_nothing s.token s.text first rest (h.nothing_else z).1);
        whole = ap (λ (b : List ℕ). b ++ more) h.whole ∙ ap (λ (b : List ℕ). (64 + 16 * code_of h.kind + length s.token) ∷ h.code ∷ h.mid_high ∷ h.mid_low ∷ b) grown;
      };
    }

delta_stays : (first : ℕ) (rest more : List ℕ) (delta : ℕ) (others : List ℕ) → HasDelta first rest delta others → HasDelta first (rest ++ more) delta (others ++ more)
delta_stays first rest more delta others d = record {
  delta_nibble = d.delta_nibble;
  length_nibble = d.length_nibble;
  more = d.more;
  delta_is = d.delta_is;
  parts = ap (λ (b : List ℕ). b ++ more) d.parts ∙ append_assoc d.more others more;
}

in_options_stays : (bytes more : List ℕ) (f : CodecFault) (s : FaultInOptions bytes f) → OptionFault (last_number 0 s.good) s.first (s.rest ++ more) f → FaultInOptions (bytes ++ more) f
in_options_stays bytes more f s fault = record { good = s.good; first = s.first; rest = s.rest ++ more; in_front = options_stay bytes more s.good s.first s.rest s.in_front; fault = fault }

longer : (len : ℕ) (rest more : List ℕ) → ((0 < len) ⊎ (0 < length rest)) → ((0 < len) ⊎ (0 < length (rest ++ more)))
longer len rest more (inl token) = inl token
longer len rest more (inr some) = inr (omega (arith, length-append rest more))

pub fault_stays : (bytes more : List ℕ) (f : CodecFault) → f ≢ Short → f ≢ Truncated → f ≢ EmptyPayload → FirstFault bytes f → FirstFault (bytes ++ more) f
fault_stays bytes more Short a b c s = absurd (a refl)
fault_stays bytes more Truncated a b c s = absurd (b refl)
fault_stays bytes more EmptyPayload a b c s = absurd (c refl)
fault_stays bytes more Version a b c s = header_stays bytes more _ _ (λ first code rest h. h) s
fault_stays bytes more TokenLength a b c s = header_stays bytes more _ _ (λ first code rest h. h) s
fault_stays bytes more EmptyExtra a b c s = header_stays bytes more _ _ (λ first code rest h. (h.0, h.1, h.2, longer (first % 16) rest more h.3)) s
fault_stays bytes more Reserved a b c s = in_options_stays bytes more Reserved s s.fault
fault_stays bytes more Number a b c s = in_options_stays bytes more Number s (s.fault.0, s.fault.1 ++ more, delta_stays s.first s.rest more s.fault.0 s.fault.1 s.fault.2, s.fault.3)
fault_stays bytes more Memory a b c s = absurd s
