-- A piece that was judged to be the next one leaves the whole short enough.
use Rattle.std.proofs.Common.{◌≡◌, ℕ, ◌+◌, ◌≤◌, Bool, true, false, not, cond, length, Option, Some, None, IsOk, rules, nat_lt, ◌==◌, refl}
use Rattle.std.proofs.lemmas.Bool.{false≢true}
use Rattle.coap_codec.specs.Spelling.{Content}
use Rattle.blockwise.specs.Reading.{block_in, offset_in}
use Rattle.blockwise.specs.Downloads.{PiecesValue, differs, fits_blocks, fault_of, step_of, judged, judged_by}
use Rattle.blockwise.specs.declared.fault.BlockFault.{BlockFault}
use Rattle.blockwise.specs.declared.fault.BlockFault.TheVariants.{Changed, Size, Gap, TooLarge}
use Rattle.blockwise.specs.declared.pieces.Step.{Step}

ok_is : (fault : Option BlockFault) (step : Step) → IsOk (judged_by fault step) → fault ≡ None
ok_is None step ok = refl
ok_is (Some fault) step ok = absurd (false≢true ok)

is_short : (a p r d : Bool) → cond a (Some Changed) (cond (not p) (Some Size) (cond (not r) (Some Gap) (cond d (Some TooLarge) None))) ≡ None
    → d ≡ false
is_short true p r d e = absurd cc
is_short false false r d e = absurd cc
is_short false true false d e = absurd cc
is_short false true true true e = absurd cc
is_short false true true false e = refl

not_long : (n : ℕ) → nat_lt 65536 n ≡ false → n ≤ 65536
not_long n e = search rules

pub judged_short : (p : PiecesValue) (m : Content) → IsOk (judged p m) → p.len + length m.payload ≤ 65536
judged_short p m ok =
    not_long (p.len + length m.payload)
    (is_short (differs p.of m) (fits_blocks p (block_in 23 m) (length m.payload)) (offset_in (block_in 23 m) == p.len) (nat_lt 65536 (p.len + length m.payload))
    (ok_is (fault_of p m) (step_of (block_in 23 m)) ok))
