-- Whether options may be encoded, told one after the other.
use Rattle.std.proofs.Common.{ℕ, List}
use Rattle.std.specs.List.{AllByRecursion}
use Rattle.coap_codec.specs.Spelling.{Entry}
use Rattle.coap_codec.specs.Writing.{IsInOrder, IsShort}

abbrev MayStand : ℕ → List Entry → Type 0
MayStand before os = IsInOrder before os × AllByRecursion IsShort os

-- all options may be encoded exactly where the others may
pub record Checked (all : List Entry) (before : ℕ) (others : List Entry) : Type 0 where
  pub enough : MayStand before others → MayStand 0 all
  pub needed : MayStand 0 all → MayStand before others
