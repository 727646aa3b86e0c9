-- What decoding gives, by what reading gives.
use Rattle.std.proofs.Common.{◌≡◌, ℕ, List, Result, Ok, Err, sym, ◌∙◌, inl, inr, refl, ◌⊎◌}
use Rattle.std.specs.Prelude.{IfOk, IfErr, IsOk, MatchResult}
use Rattle.coap_codec.specs.declared.fault.CodecFault.{CodecFault}
use Rattle.coap_codec.specs.declared.fault.CodecFault.TheVariants.{Memory}
use Rattle.coap_codec.specs.declared.message.Message.{Message}
use Rattle.coap_codec.specs.Spelling.{Content, content, Spells}
use Rattle.coap_codec.specs.Reading.{GivesLast, message_at}
use Rattle.coap_codec.proofs.ByteRanges.{IsBytes}
use Rattle.coap_codec.proofs.Takes.{message_takes}
use Rattle.coap_codec.proofs.Again.{message_again}
use Rattle.coap_codec.specs.Faults.{FirstFault}
use Rattle.coap_codec.proofs.FaultsFound.{message_fails}
use Rattle.coap_codec.proofs.FaultsOnly.{fault_again}

pub is_found : (bytes : List ℕ) (r : Result Message CodecFault) → IsBytes bytes → GivesLast content r (message_at bytes) → IfOk r (λ m. Spells (content m) bytes)
is_found bytes (Ok m) fits given = message_takes bytes (content m) fits given
is_found bytes (Err e) fits given = tt

pub is_only : (bytes : List ℕ) (r : Result Message CodecFault) (m : Content) → GivesLast content r (message_at bytes) → Spells m bytes → MatchResult r (λ n. content n ≡ m) (λ e. e ≡ Memory)
is_only bytes (Ok n) m given s = let both = sym given ∙ message_again m bytes s in cc
is_only bytes (Err e) m (inl memory) s = memory.0
is_only bytes (Err e) m (inr fault) s = let both = sym fault ∙ message_again m bytes s in absurd cc

got : (r : Result Content CodecFault) → IsOk r → (m : Content) × (r ≡ Ok m)
got (Ok m) h = (m, refl)
got (Err e) h = absurd cc

pub is_last : (bytes : List ℕ) (r : Result Message CodecFault) → IsBytes bytes → GivesLast content r (message_at bytes) → r ≡ Err Memory → (m : Content) × Spells m bytes
is_last bytes (Ok n) fits given e = absurd cc
is_last bytes (Err d) fits (inl last) e = let g = got (message_at bytes) last.1 in (g.0, message_takes bytes g.0 fits g.1)
is_last bytes (Err d) fits (inr fault) e = let same : message_at bytes ≡ Err Memory = cc in absurd (message_fails bytes Memory fits same)

pub is_fault : (bytes : List ℕ) (r : Result Message CodecFault) → IsBytes bytes → GivesLast content r (message_at bytes) → IfErr r (λ e. (e ≡ Memory) ⊎ FirstFault bytes e)
is_fault bytes (Ok n) fits given = tt
is_fault bytes (Err d) fits (inl last) = inl last.0
is_fault bytes (Err d) fits (inr fault) = inr (message_fails bytes d fits fault)

pub is_only_fault : (bytes : List ℕ) (r : Result Message CodecFault) (f : CodecFault) → GivesLast content r (message_at bytes) → FirstFault bytes f → r ≡ Err f
is_only_fault bytes (Ok n) f given s = let both = sym given ∙ fault_again bytes f s in absurd cc
is_only_fault bytes (Err d) f (inl last) s = let g = got (message_at bytes) last.1 in let both = sym g.1 ∙ fault_again bytes f s in absurd cc
is_only_fault bytes (Err d) f (inr fault) s = let both = sym fault ∙ fault_again bytes f s in cc
