-- Each journal of a story, after those before it.
use Rattle.std.proofs.Common.{◌≡◌, ℕ, ◌+◌, ◌≤◌, List, [], ◌∷◌, ◌++◌, map, refl, ap, ◌∙◌, arith}
use Rattle.media_map.specs.declared.form.Form.{Form}
use Rattle.ask_model.specs.Views.{Rules}
use Rattle.journal_book.specs.Entries.{Written}
use Rattle.demo_origin.specs.Origins.{fresh}
use Rattle.demo_origin.specs.Values.{Device, Relation}
use Rattle.demo_origin.specs.declared.state.Held.{Held}
use Rattle.story_laws.specs.Lateness.{ArePunctual}
use Rattle.gateway_model.specs.Emissions.{Emission, Says, Goes, Closed, GivenUp, Turned, Rotated, Unrotated}
use Rattle.gateway_world.specs.Journals.{Part, gives_first, journal_in, parts_of}
use Rattle.three_parties.specs.Flights.{Going}
use Rattle.three_parties.specs.Reads.{journals}
use Rattle.three_parties.specs.Scenes.{Scene}
use Rattle.three_parties.specs.Stories.{IsStory}
use Rattle.three_parties.specs.declared.story.Execution.{Execution}
use Rattle.three_parties.specs.declared.turn.Turn.{Turn}
use Rattle.three_parties.proofs.Executing.{at_end, known-then}
use Rattle.three_parties.proofs.Knowing.{Known}
use Rattle.three_parties.proofs.Chapters.{IsPast}
use Rattle.three_parties.proofs.Orders.{given_in}

-- a journal before this one
pub record IsEarlier (R : Relation) (first : Device) (s : Scene) (known : Known R first s) (top begun : ℕ) (h : List Written) : Type 0 where
  pub past : IsPast first s.flights known.tale.calls top h
  pub early : past.ended ≤ begun
  pub punctual : ArePunctual past.stands.reading

-- What was earlier stays so.
pub still-earlier : (R : Relation) (first : Device) (s : Scene) (known : Known R first s) (top from to : ℕ) → from ≤ to → (h : List Written)
    → IsEarlier R first s known top from h → IsEarlier R first s known top to h
still-earlier R first s known top from to le h e = let early = e.early in record { past = e.past; early = omega (arith, early, le); punctual = e.punctual }

first-same : (e : Emission) (ps : List Part) → map journal_in (gives_first e ps) ≡ map journal_in ps
first-same e [] = refl
first-same e (p ∷ ps) = refl

pub journals-are : (out : List Emission) (last : List Written) → journals out last ≡ given_in out ++ last ∷ []
journals-are [] last = refl
journals-are (Rotated g ∷ out) last = ap (λ (hs : List (List Written)). g ∷ hs) (journals-are out last)
journals-are (Says c x ∷ out) last = first-same (Says c x) (parts_of out last) ∙ journals-are out last
journals-are (Goes d ∷ out) last = first-same (Goes d) (parts_of out last) ∙ journals-are out last
journals-are (Closed c ∷ out) last = first-same (Closed c) (parts_of out last) ∙ journals-are out last
journals-are (GivenUp c ∷ out) last = first-same (GivenUp c) (parts_of out last) ∙ journals-are out last
journals-are (Turned ∷ out) last = first-same Turned (parts_of out last) ∙ journals-are out last
journals-are (Unrotated fault ∷ out) last = first-same (Unrotated fault) (parts_of out last) ∙ journals-are out last

-- A story of a device that is a new one.
module _ (R : Relation) (holds : Form → Form → List ℕ → List ℕ → Type 0) (takes : Form → Form → List ℕ → Type 0) (rules : Rules) (block : ℕ)
    (resources : List Held) (turns : List Turn) (out : List Emission) (flights : List Going) (h : List Written) (last : Device) (taken : List Execution)
    (story : IsStory holds takes R rules (fresh block resources) turns out flights h last taken) where
  abbrev pub end : Scene
  end = at_end holds takes R rules block resources turns out flights h last taken story

  abbrev pub known_end : Known R (fresh block resources) end
  known_end = known-then holds takes R rules block resources turns out flights h last taken story
