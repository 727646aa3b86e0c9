-- Numbers byte by byte.
use Rattle.std.proofs.Common.{◌≡◌, ℕ, zero, suc, ◌≤◌, ◌<◌, ◌+◌, ◌*◌, ◌^◌, List, [], ◌∷◌, ◌++◌, length, take, get_or, add-one, refl, arith}
use Rattle.std.proofs.lemmas.List.{length-append}
use Rattle.std.proofs.Math.Pow.{pow-add}
use Rattle.std.proofs.Math.Seq.{take-suc}
use Rattle.coap_codec.specs.Values.{uint}

pow-step : (k : ℕ) → 256 ^ (k + 1) ≡ 256 * 256 ^ k
pow-step k = let e : 256 ^ (k + 1) ≡ 256 ^ k * 256 = pow-add 256 k 1 in omega (arith, e)

uint-push : (xs : List ℕ) (b : ℕ) → uint (xs ++ b ∷ []) ≡ 256 * uint xs + b
uint-push [] b = omega arith
uint-push (x ∷ xs) b = rw (length-append xs (b ∷ []), pow-step (length xs), uint-push xs b) (omega arith)

small_pow : (i : ℕ) → i < 4 → 256 ^ i ≤ 16777216
small_pow zero lt = omega arith
small_pow (suc zero) lt = omega arith
small_pow (suc (suc zero)) lt = omega arith
small_pow (suc (suc (suc zero))) lt = omega arith
small_pow (suc (suc (suc (suc i)))) lt = absurd (omega arith)

pub three_bytes : (len n : ℕ) → len ≤ 3 → n < 256 ^ len → n < 16777216
three_bytes len n short below = omega (arith, small_pow len (omega arith), below)

pub stays_small : (n i : ℕ) → i < 4 → n < 256 ^ i → n < 16777216
stays_small n i lt below = omega (arith, small_pow i lt)

pub reads_byte : (bytes : List ℕ) (i n : ℕ) → i < length bytes → get_or bytes i 0 < 256 → (n ≡ uint (take i bytes)) × (n < 256 ^ i) → (256 * n + get_or bytes i 0 ≡ uint (take (i + 1) bytes)) × (256 * n + get_or bytes i 0 < 256 ^ (i + 1))
reads_byte bytes i n lt byte so_far = (rw (add-one, take-suc bytes i 0 lt, uint-push (take i bytes) (get_or bytes i 0), ← so_far.0) refl, omega (arith, so_far.1, pow-step i))
