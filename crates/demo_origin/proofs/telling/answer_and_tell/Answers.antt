use Rattle.std.proofs.Common.{rules, refl}
use Rattle.demo_origin.specs.Values.{seen}
use Rattle.demo_origin.specs.Answers.{answered}
use Rattle.demo_origin.specs.Drafts.{drafted}
use Rattle.demo_origin.proofs.telling.answer_and_tell.Goals as goal

pub returns-clause-ok : goal.returns-clause-ok
returns-clause-ok c =
    record {
      middle = answered c.args.to c.in_ok-bytes.bytes (seen c.args.s.now);
      answers = record { bytes = c.in_ok-bytes.bytes; spelled = search rules; is = refl };
      settles = record {
        talk = drafted c.draft_answer.new.draft;
        tells = search rules;
        is = search rules;
      };
    }
