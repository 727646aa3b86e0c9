-- What is told of options is told of their entries.
use Rattle.std.proofs.Common.{◌≡◌, ℕ, ◌<◌, ◌≤◌, ◌^◌, zero, suc, List, [], ◌∷◌, refl, ap, ◌&&◌, Bool, arith}
use Rattle.std.specs.List.{list_all}
use Rattle.coap_codec.specs.Spelling.{Entry, entry, entries}
use Rattle.coap_codec.specs.declared.opt.Opt.{Opt}

pub all_entries : (p : Entry → Bool) (os : List Opt)
    → list_all p (entries os) ≡ list_all (λ (o : Opt). p (entry o)) os
all_entries p [] = refl
all_entries p (o ∷ os) = ap (λ b. p (entry o) && b) (all_entries p os)

-- two bytes stand for less than 65,536
pub two_bytes : (n r : ℕ) → n ≤ 2 → r < 256 ^ n → r < 65536
two_bytes zero r h g = omega arith
two_bytes (suc zero) r h g = omega arith
two_bytes (suc (suc zero)) r h g = omega arith
two_bytes (suc (suc (suc n))) r h g = absurd (omega arith)
