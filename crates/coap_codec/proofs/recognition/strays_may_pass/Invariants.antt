use Rattle.std.proofs.Common.{drop}
use Rattle.coap_codec.specs.Spelling.{Entry, entries}
use Rattle.coap_codec.specs.Recognition.{may_pass}
use Rattle.coap_codec.proofs.Recognising.{Going}
use Rattle.coap_codec.proofs.recognition.strays_may_pass.Given as goal

abbrev pub invariant-each : goal.invariant-each
invariant-each l = Going (λ (o : Entry). may_pass l.forwarded o.number) (entries l.options) (entries (drop l.o-index l.options)) l.marks
