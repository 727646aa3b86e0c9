use Rattle.std.proofs.Common.{◌≡◌, take}
use Rattle.coap_codec.specs.Spelling.{entries}
use Rattle.coap_codec.proofs.message.copies_of.Given as goal

abbrev pub invariant-each : goal.invariant-each
invariant-each l = entries l.all.items ≡ entries (take l.o-index l.options)
