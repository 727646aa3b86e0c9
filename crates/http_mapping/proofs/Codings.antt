-- Content codings, looked at one after the other.
use Rattle.std.specs.Prelude.{Bool, List, codes}
use Rattle.std.specs.List.{list_any}
use Rattle.http_header.specs.FieldValue.{FieldValue}
use Rattle.http_edge.specs.Lists.{has_other}

-- one of the values names a coding
abbrev pub any_coding : List FieldValue → Bool
any_coding values = list_any (λ v. has_other v.bytes (codes "identity")) values
