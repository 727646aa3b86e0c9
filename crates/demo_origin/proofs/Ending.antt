-- Which piece is the last.
use Rattle.std.proofs.Common.{◌≡◌, ℕ, ◌+◌, ◌*◌, Bool, true, false, cond, ◌==◌, nat_lt, refl}
use Rattle.coap_codec.specs.declared.block.Block.{Block}
use Rattle.blockwise.specs.Reading.{size_of}
use Rattle.demo_origin.specs.Uploads.{joined}
use Rattle.demo_origin.specs.declared.uploads.Joined.TheVariants.{Gap, TooLarge, Next, Last}

only_last : (a b c : Bool) → cond a (cond b TooLarge (cond c Next Last)) Gap ≡ Last → c ≡ false
only_last true true c e = cc
only_last true false true e = cc
only_last true false false e = refl
only_last false b c e = cc

pub is_last : (b : Block) (len more : ℕ) → joined b len more ≡ Last → b.more ≡ false
is_last b len more e =
    only_last (b.num * size_of b.szx == len) (nat_lt 65536 (len + more)) b.more e

-- more come of a piece that is kept
only_next : (a b c : Bool) → cond a (cond b TooLarge (cond c Next Last)) Gap ≡ Next → c ≡ true
only_next true true c e = cc
only_next true false true e = refl
only_next true false false e = cc
only_next false b c e = cc

pub is_next : (b : Block) (len more : ℕ) → joined b len more ≡ Next → b.more ≡ true
is_next b len more e =
    only_next (b.num * size_of b.szx == len) (nat_lt 65536 (len + more)) b.more e
