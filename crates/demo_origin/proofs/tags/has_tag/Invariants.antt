-- The rest has one where all have one.
use Rattle.std.specs.Prelude.{◌≡◌, drop}
use Rattle.coap_codec.specs.Spelling.{entries}
use Rattle.coap_codec.specs.Values.{values}
use Rattle.demo_origin.specs.Tags.{has_tag}
use Rattle.demo_origin.proofs.tags.has_tag.Given as goal

abbrev pub invariant-each : goal.invariant-each
invariant-each l =
    has_tag l.version (values 4 (entries (drop l.o-index l.o-items)))
    ≡ has_tag l.version (values 4 (entries l.m.options.items))
