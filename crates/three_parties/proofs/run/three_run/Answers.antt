-- What the story says of POSTs and of GETs.
use Rattle.std.proofs.Common.{◌≡◌, ℕ, List, map}
use Rattle.ask_model.specs.Views.{rules_of}
use Rattle.history_laws.specs.Justified.{Stands}
use Rattle.demo_origin.specs.Origins.{device, fresh}
use Rattle.demo_origin.specs.declared.state.Held.{Held}
use Rattle.story_laws.specs.Reads.{AreNew}
use Rattle.gateway_model.specs.Emissions.{emissions}
use Rattle.three_parties.specs.Flights.{going}
use Rattle.three_parties.specs.Promises.{PostsOnceInTime}
use Rattle.three_parties.specs.Reads.{GetsShowInTime, WholesShowInTime}
use Rattle.three_parties.specs.Stories.{IsStory}
use Rattle.three_parties.proofs.Executing.{if-ok}
use Rattle.three_parties.proofs.Kept.{story-keeps}
use Rattle.three_parties.proofs.run.three_run.Goals as goal

pub returns-clause-posts : goal.returns-clause-posts
returns-clause-posts g c =
    if-ok (λ s. IsStory g.R.Relation.holds g.R.Relation.takes g.H.Behaviour.relation (rules_of c.args.settings) (device c.args.origin)
    c.args.turns.now (emissions s.outputs.items) (map going s.flights.items) s.journal.entries (device s.origin) s.taken.items)
    (λ s. Stands s.journal.entries)
    (λ s. (block : ℕ) (resources : List Held) → device c.args.origin ≡ fresh block resources
    → PostsOnceInTime c.args.turns.now (emissions s.outputs.items) s.journal.entries (map going s.flights.items) s.taken.items)
    (λ s is stands block resources e. (story-keeps g.H.Behaviour.relation g.R.Relation.holds g.R.Relation.takes c.stories_keep_promises.ensures
    (rules_of c.args.settings) (device c.args.origin) c.args.turns.now (emissions s.outputs.items) (map going s.flights.items) s.journal.entries
    (device s.origin) s.taken.items is stands block resources e).posts)
    c.play.result c.play.ensures.is c.play.ensures.stands

pub returns-clause-reads : goal.returns-clause-reads
returns-clause-reads g c =
    if-ok (λ s. IsStory g.R.Relation.holds g.R.Relation.takes g.H.Behaviour.relation (rules_of c.args.settings) (device c.args.origin)
    c.args.turns.now (emissions s.outputs.items) (map going s.flights.items) s.journal.entries (device s.origin) s.taken.items)
    (λ s. Stands s.journal.entries)
    (λ s. (block : ℕ) (resources : List Held) → device c.args.origin ≡ fresh block resources
    → GetsShowInTime c.args.turns.now resources (emissions s.outputs.items) s.journal.entries (map going s.flights.items) s.taken.items)
    (λ s is stands block resources e. (story-keeps g.H.Behaviour.relation g.R.Relation.holds g.R.Relation.takes c.stories_keep_promises.ensures
    (rules_of c.args.settings) (device c.args.origin) c.args.turns.now (emissions s.outputs.items) (map going s.flights.items) s.journal.entries
    (device s.origin) s.taken.items is stands block resources e).reads)
    c.play.result c.play.ensures.is c.play.ensures.stands

pub returns-clause-wholes : goal.returns-clause-wholes
returns-clause-wholes g c =
    if-ok (λ s. IsStory g.R.Relation.holds g.R.Relation.takes g.H.Behaviour.relation (rules_of c.args.settings) (device c.args.origin)
    c.args.turns.now (emissions s.outputs.items) (map going s.flights.items) s.journal.entries (device s.origin) s.taken.items)
    (λ s. Stands s.journal.entries)
    (λ s. (block : ℕ) (resources : List Held) → device c.args.origin ≡ fresh block resources
    → AreNew resources
    → WholesShowInTime c.args.turns.now resources (emissions s.outputs.items) s.journal.entries (map going s.flights.items) s.taken.items)
    (λ s is stands block resources e. (story-keeps g.H.Behaviour.relation g.R.Relation.holds g.R.Relation.takes c.stories_keep_promises.ensures
    (rules_of c.args.settings) (device c.args.origin) c.args.turns.now (emissions s.outputs.items) (map going s.flights.items) s.journal.entries
    (device s.origin) s.taken.items is stands block resources e).wholes)
    c.play.result c.play.ensures.is c.play.ensures.stands
