use Rattle.std.proofs.Common.{◌≡◌, ◌++◌, drop, map}
use Rattle.coap_codec.specs.Spelling.{content}
use Rattle.blockwise.specs.Joins.{payloads}
use Rattle.reply_reading.proofs.response.join.Given as goal

abbrev pub invariant-each : goal.invariant-each
invariant-each l =
    l.body.items ++ payloads (map content (drop l.m-index l.earlier)) ≡ payloads (map content l.earlier)
