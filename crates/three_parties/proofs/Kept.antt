-- A story keeps what is promised of it.
use Rattle.std.proofs.Common.{◌≡◌, ℕ, List, refl, subst}
use Rattle.media_map.specs.declared.form.Form.{Form}
use Rattle.ask_model.specs.Views.{Rules}
use Rattle.journal_book.specs.Entries.{Written}
use Rattle.blockwise.specs.Joins.{DownloadsJoin}
use Rattle.history_laws.specs.Justified.{Stands}
use Rattle.history_claims.specs.Order.{KeepsOrder}
use Rattle.demo_origin.specs.Origins.{fresh}
use Rattle.demo_origin.specs.Values.{Device, Relation}
use Rattle.demo_origin.specs.declared.state.Held.{Held}
use Rattle.gateway_model.specs.Emissions.{Emission}
use Rattle.story_laws.specs.Orders.{WholesShow, WritesShow}
use Rattle.story_laws.specs.Posts.{PostsOnce}
use Rattle.three_parties.specs.Flights.{Going}
use Rattle.three_parties.specs.Kept.{KeepsPromises, StoriesKeepPromises}
use Rattle.three_parties.specs.Stories.{IsStory}
use Rattle.three_parties.specs.declared.story.Execution.{Execution}
use Rattle.three_parties.specs.declared.turn.Turn.{Turn}
use Rattle.three_parties.proofs.Answering.{reads-of}
use Rattle.three_parties.proofs.Executing.{posts-of}
use Rattle.three_parties.proofs.Wholes.{wholes-of}

pub keeps : (R : Relation) → PostsOnce R → KeepsOrder → WritesShow R → WholesShow R → DownloadsJoin
    → (holds : Form → Form → List ℕ → List ℕ → Type 0) (takes : Form → Form → List ℕ → Type 0) → StoriesKeepPromises holds takes R
keeps R posts order writes wholes join holds takes rules block resources turns out flights h last taken story stands =
    let first : Device = fresh block resources in
    record {
      posts = posts-of R posts order holds takes rules first turns out flights h last taken story stands block resources refl;
      reads = reads-of R writes holds takes rules first turns out flights h last taken story stands block resources refl;
      wholes = wholes-of R wholes join holds takes rules first turns out flights h last taken story stands block resources refl;
    }

-- one whose device is a new one
pub story-keeps : (R : Relation) (holds : Form → Form → List ℕ → List ℕ → Type 0) (takes : Form → Form → List ℕ → Type 0) → StoriesKeepPromises holds takes R
    → (rules : Rules) (first : Device) (turns : List Turn) (out : List Emission) (flights : List Going) (h : List Written) (last : Device)
    (taken : List Execution) → IsStory holds takes R rules first turns out flights h last taken → Stands h
    → (block : ℕ) (resources : List Held) → first ≡ fresh block resources → KeepsPromises turns resources out h flights taken
story-keeps R holds takes law rules first turns out flights h last taken story stands block resources e =
    law rules block resources turns out flights h last taken (subst (λ (d : Device). IsStory holds takes R rules d turns out flights h last taken) e story) stands
