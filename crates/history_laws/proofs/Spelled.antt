-- Bytes spell the message that is read from them.
use Rattle.std.proofs.Common.{◌≡◌, ℕ, true, List, [], ◌∷◌, Ok}
use Rattle.std.specs.Prelude.{nat_lt}
use Rattle.std.specs.List.{list_all}
use Rattle.std.proofs.lemmas.Bool.{ltb-true}
use Rattle.coap_codec.specs.Spelling.{Content, Spells}
use Rattle.coap_codec.specs.Reading.{message_at}
use Rattle.coap_codec.proofs.ByteRanges.{IsBytes}
use Rattle.coap_codec.proofs.Takes.{message_takes}
use Rattle.history_laws.proofs.Resting.{and-left, and-right}

are_bytes : (bytes : List ℕ) → list_all (λ (b : ℕ). nat_lt b 256) bytes ≡ true → IsBytes bytes
are_bytes [] e = tt
are_bytes (b ∷ bytes) e = (ltb-true _ _ (and-left _ _ e), are_bytes bytes (and-right _ _ e))

pub spelled : (bytes : List ℕ) (m : Content) → list_all (λ (b : ℕ). nat_lt b 256) bytes ≡ true → message_at bytes ≡ Ok m → Spells m bytes
spelled bytes m small e = message_takes bytes m (are_bytes bytes small) e
