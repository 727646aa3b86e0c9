-- Bytes spell a message or have a first fault.
use Rattle.std.proofs.Common.{◌≡◌, ℕ, List, Result, Ok, Err, refl, sym, ◌∙◌, inl, inr, ◌⊎◌}
use Rattle.coap_codec.specs.declared.fault.CodecFault.{CodecFault}
use Rattle.coap_codec.specs.Spelling.{Content, Spells}
use Rattle.coap_codec.specs.Faults.{FirstFault}
use Rattle.coap_codec.specs.Reading.{message_at}
use Rattle.coap_codec.proofs.Steps.{err_is}
use Rattle.coap_codec.proofs.ByteRanges.{IsBytes}
use Rattle.coap_codec.proofs.Takes.{message_takes}
use Rattle.coap_codec.proofs.Again.{message_again}
use Rattle.coap_codec.proofs.FaultsFound.{message_fails}
use Rattle.coap_codec.proofs.FaultsOnly.{fault_again}

-- what reading gives, one or the other
read_is : (r : Result Content CodecFault) → ((m : Content) × (r ≡ Ok m)) ⊎ ((f : CodecFault) × (r ≡ Err f))
read_is (Ok m) = inl (m, refl)
read_is (Err f) = inr (f, refl)

pub either : (bytes : List ℕ) → IsBytes bytes → ((m : Content) × Spells m bytes) ⊎ ((f : CodecFault) × FirstFault bytes f)
either bytes fits =
    elim (read_is (message_at bytes)) [
      | inl a ↦ inl (a.0, message_takes bytes a.0 fits a.1)
      | inr a ↦ inr (a.0, message_fails bytes a.0 fits a.1)
    ]

pub not_both : (m : Content) (f : CodecFault) (bytes : List ℕ) → Spells m bytes → FirstFault bytes f → ⊥
not_both m f bytes s e = let both = sym (message_again m bytes s) ∙ fault_again bytes f e in absurd cc

pub one_fault : (f g : CodecFault) (bytes : List ℕ) → FirstFault bytes f → FirstFault bytes g → f ≡ g
one_fault f g bytes s t = err_is {A = Content} f g (sym (fault_again bytes f s) ∙ fault_again bytes g t)
