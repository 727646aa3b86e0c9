-- Status codes of refusals.
use Rattle.std.specs.Prelude.{ℕ}
use Rattle.http_edge.specs.declared.request.BadKind.{BadKind}
use Rattle.http_edge.specs.declared.request.BadKind.TheVariants.{Syntax, Large, Coding}

-- The status code of a refusal (RFC 9110, section 15).
abbrev pub status_of : BadKind → ℕ
status_of Syntax = 400
status_of Large = 413
status_of Coding = 501
