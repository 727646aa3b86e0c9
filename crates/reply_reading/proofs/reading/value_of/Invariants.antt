use Rattle.std.proofs.Common.{◌≡◌, ◌&&◌, eqb, drop}
use Rattle.std.specs.List.{find}
use Rattle.coap_codec.specs.Spelling.{Entry, entries}
use Rattle.coap_codec.specs.Recognition.{is_defined}
use Rattle.reply_reading.proofs.reading.value_of.Given as goal

abbrev pub invariant-each : goal.invariant-each
invariant-each l =
    find (λ (o : Entry). eqb o.number l.number && is_defined o) (entries (drop l.o-index l.o-items))
    ≡ find (λ (o : Entry). eqb o.number l.number && is_defined o) (entries l.m.options.items)
