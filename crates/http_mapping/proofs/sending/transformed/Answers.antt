-- What a transformer made of a body keeps the limit.
use Rattle.std.proofs.Common.{◌≤◌, ℕ, List, length, sym, subst}
use Rattle.http_mapping.proofs.Applies.{made_bytes}
use Rattle.http_mapping.proofs.sending.transformed.Goals as goal

pub returns-in-Ok-Bytes-clause-short : goal.returns-in-Ok-Bytes-clause-short
returns-in-Ok-Bytes-clause-short g c =
    let made = made_bytes _ g.R.Relation.holds g.R.Relation.takes _ _ _ _ c.in-Ok-Bytes.bytes c.in-Ok-Bytes.field-0-is c.in-Ok-Bytes.ensures in
    subst (λ (bytes : List ℕ). length bytes ≤ 65536) (sym c.of.ensures) made.2
