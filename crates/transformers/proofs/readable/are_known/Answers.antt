use Rattle.std.proofs.Common.{sym}
use Rattle.serde_json.specs.Data.{no_members}
use Rattle.transformers.proofs.readable.are_known.Goals as goal

pub returns-then-known : goal.returns-then-known
returns-then-known c = sym (c.requires c.if-known.true)

pub returns-else-known : goal.returns-else-known
returns-else-known c = c.members_are_readable.ensures no_members
