-- What open exchanges ask about.
use Rattle.std.specs.Prelude.{ℕ, Bool, not, List}
use Rattle.exchange_model.specs.declared.kept.Stale.{Stale}
use Rattle.exchange_model.specs.Matters.{is_stale_of}

-- in the order of the openings, and whether one more can be noted without memory
pub record StalesValue : Type 0 where
  pub stales : List Stale
  pub room : Bool

-- the opening of the exchange that asks
abbrev pub asked_in : Stale → ℕ
asked_in x = x.opening

-- what another exchange asks about than the one that this entry opened
abbrev pub is_about_another : ℕ → Stale → Bool
is_about_another o x = not (is_stale_of o x)
