-- How a bank passes on what a transformer gave.
use Rattle.std.proofs.Common.{◌≡◌, ◌<◌, ◌≤◌, ℕ, length, Vec, Global, Ok, Err, Some, refl}
use Rattle.std.proofs.lemmas.Bool.{le-ltb, lt-ltb}
use Rattle.transformers.specs.Keeps.{passed_on}
use Rattle.transformers.specs.declared.apply_fault.ApplyFault.TheVariants.{TooLarge}

pub passed_large : (v : Vec ℕ Global) → 65536 < length v.items → passed_on (Ok v) ≡ Err TooLarge
passed_large v lt = rw (lt-ltb 65536 (length v.items) lt) refl

pub passed_small : (v : Vec ℕ Global) → length v.items ≤ 65536 → passed_on (Ok v) ≡ Ok (Some v)
passed_small v le = rw (le-ltb 65536 (length v.items) le) refl
