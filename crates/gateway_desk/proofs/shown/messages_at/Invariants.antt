use Rattle.std.proofs.Common.{map, take}
use Rattle.coap_codec.specs.Spelling.{content}
use Rattle.exchange_core.specs.Answering.{AreHeard}
use Rattle.gateway_desk.proofs.shown.messages_at.Given as goal

abbrev pub invariant-each : goal.invariant-each
invariant-each g l = AreHeard l.journal.entries (take l.number-index l.numbers) (map content l.messages.items)
