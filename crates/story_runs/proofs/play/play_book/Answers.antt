-- The steps are taken from the opening of a story's gateway and device.
use Rattle.std.proofs.Common.{ap, ◌∙◌}
use Rattle.ask_model.specs.Views.{rules_of}
use Rattle.demo_origin.specs.Origins.{fresh}
use Rattle.demo_origin.specs.Values.{Device}
use Rattle.demo_origin.specs.declared.state.Held.{Held}
use Rattle.device_server.specs.Kinds.{kinds}
use Rattle.device_server.proofs.Listed.{all_held}
use Rattle.route_bank.specs.Profiles.{profile_holds, profile_takes}
use Rattle.std.specs.Prelude.{List}
use Rattle.three_parties.specs.Stories.{opening, scene}
use Rattle.story_runs.proofs.Taking.{steps-from}
use Rattle.story_runs.proofs.play.play_book.Goals as goal

pub returns : goal.returns
returns g c = record {
  played = record {
    rules = rules_of c.in_ok-settings.field-0;
    ruled = c.in_ok-settings.ensures;
    takes_all =
        steps-from profile_holds profile_takes kinds _ c.args.book.now.steps.items _ _ (scene c.take_all.new.stage) c.as_slice.ensures.value
        (c.in-Ok-new.ensures.opens
        ∙ ap (λ (d : Device). opening (rules_of c.in_ok-settings.field-0) d)
        (c.in-Ok.ensures.fresh ∙ ap (λ (hs : List Held). fresh 6 hs) (all_held c.args.book.now.held.items c.args.all.items c.requires.rows)))
        c.in_ok-take_all.ensures.takes;
  };
}
