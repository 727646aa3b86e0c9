use Rattle.std.proofs.Common.{rules, refl}
use Rattle.std.proofs.lemmas.Option.{slice_get_read}
use Rattle.coap_codec.specs.Spelling.{entries}
use Rattle.demo_origin.specs.Values.{seen}
use Rattle.demo_origin.proofs.execution.validate.Goals as goal

pub returns-clause-ok : goal.returns-clause-ok
returns-clause-ok c =
    rw (slice_get_read _ _ c.args.place c.index-held.result.now refl
    c.requires c.index-held.ensures)
    (record {
      options = entries c.in_ok-options.options.items;
      describes = search rules;
      middle = seen c.answer.new.s;
      answers = search rules;
      is = search rules;
    })
