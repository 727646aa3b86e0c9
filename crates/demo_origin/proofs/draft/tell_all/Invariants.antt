use Rattle.demo_origin.specs.Notifying.{TellsFirst}
use Rattle.demo_origin.specs.Drafts.{drafted}
use Rattle.demo_origin.proofs.draft.tell_all.Given as goal

abbrev pub invariant-each : goal.invariant-each
invariant-each l =
    TellsFirst l.moment l.block.szx l.resources l.place (drafted l.initial.draft) (drafted l.draft)
