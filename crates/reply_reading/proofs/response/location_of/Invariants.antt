use Rattle.std.proofs.Common.{◌≡◌, ℕ, List, ◌++◌, ◌&&◌, eqb, drop, map}
use Rattle.std.specs.List.{filter}
use Rattle.coap_codec.specs.Spelling.{Entry, entries}
use Rattle.coap_codec.specs.Recognition.{is_defined}
use Rattle.reply_reading.proofs.response.location_of.Given as goal

abbrev values_in : ℕ → List Entry → List (List ℕ)
values_in n os = map (λ (o : Entry). o.value) (filter (λ (o : Entry). eqb o.number n && is_defined o) os)

abbrev pub invariant-each : goal.invariant-each
invariant-each l =
    (l.path.items ++ values_in 8 (entries (drop l.o-index l.o-items)) ≡ values_in 8 (entries l.m.options.items))
    × (l.query.items ++ values_in 20 (entries (drop l.o-index l.o-items)) ≡ values_in 20 (entries l.m.options.items))
