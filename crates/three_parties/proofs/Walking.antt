-- Each journal of a story, after those before it, with what it inherits from them.
use Rattle.std.proofs.Common.{ℕ, ◌≤◌, List, [], ◌∷◌, ◌++◌, Option, Some, None, refl, sym, subst, arith}
use Rattle.std.specs.List.{AllByRecursion}
use Rattle.media_map.specs.declared.form.Form.{Form}
use Rattle.ask_model.specs.Views.{Rules}
use Rattle.journal_book.specs.Entries.{Written}
use Rattle.history_laws.specs.Justified.{Stands}
use Rattle.demo_origin.specs.Origins.{fresh}
use Rattle.demo_origin.specs.Values.{Device, Relation}
use Rattle.demo_origin.specs.declared.state.Held.{Held}
use Rattle.story_laws.specs.Lateness.{ArePunctual}
use Rattle.story_laws.proofs.Pacing.{AreTimely}
use Rattle.gateway_model.specs.Emissions.{Emission}
use Rattle.three_parties.specs.Flights.{Going}
use Rattle.three_parties.specs.Reads.{EachAfter, journals}
use Rattle.three_parties.specs.Scenes.{Scene}
use Rattle.three_parties.specs.Stories.{IsStory}
use Rattle.three_parties.specs.Ticks.{LooksInTime}
use Rattle.three_parties.specs.declared.story.Execution.{Execution}
use Rattle.three_parties.specs.declared.turn.Turn.{Turn}
use Rattle.three_parties.proofs.Executing.{timely-then}
use Rattle.three_parties.proofs.Knowing.{Known}
use Rattle.three_parties.proofs.Lists.{all-joined, all-map}
use Rattle.three_parties.proofs.Looking.{punctual-in}
use Rattle.three_parties.proofs.Chapters.{ArePast, IsPast, past-map}
use Rattle.three_parties.proofs.Inherited.{IsInherited, inherits-next, own-inherits}
use Rattle.three_parties.proofs.Linked.{BeginsAfter, Linked, story-linked}
use Rattle.three_parties.proofs.Orders.{given_in, now-past, past-more}
use Rattle.three_parties.proofs.Pages.{IsEarlier, end, journals-are, known_end, still-earlier}

module _ (R : Relation) (block : ℕ) (resources : List Held) (s : Scene) (known : Known R (fresh block resources) s) (top : ℕ)
    (P : List (List Written) → List Written → Type 0)
    (each : (before : List (List Written)) (h : List Written) (page : IsPast (fresh block resources) s.flights known.tale.calls top h)
    → ArePunctual page.stands.reading → AllByRecursion (IsEarlier R (fresh block resources) s known top page.begun) before
    → IsInherited R block resources s known top before h → P before h) where
  -- what was earlier is so to all that comes
  all-still : (from to : ℕ) → from ≤ to → (before : List (List Written)) → AllByRecursion (IsEarlier R (fresh block resources) s known top from) before
      → AllByRecursion (IsEarlier R (fresh block resources) s known top to) before
  all-still from to le before earlier =
      all-map (IsEarlier R (fresh block resources) s known top from) (IsEarlier R (fresh block resources) s known top to)
      (still-earlier R (fresh block resources) s known top from to le) before earlier

  walk : (before hs : List (List Written)) (from to : ℕ) (last : List Written) (g : Option (List Written))
      → AllByRecursion (IsEarlier R (fresh block resources) s known top from) before → ArePast (fresh block resources) s.flights known.tale.calls top from hs to
      → AllByRecursion AreTimely hs
      → (page : IsPast (fresh block resources) s.flights known.tale.calls top last) → to ≤ page.begun → AreTimely last
      → Linked g hs last → ((h : List Written) → BeginsAfter g h → IsInherited R block resources s known top before h)
      → EachAfter P before (hs ++ last ∷ [])
  walk before [] from to last g earlier past timely page le late linked inherits = (
    each before last page (punctual-in last page.stands late) (all-still from page.begun (omega (arith, past, le)) before earlier) (inherits last linked),
    tt,
  )
  walk before (h ∷ hs) from to last g earlier past timely page le late linked inherits =
      let mine = past.0 in
      let punctual = punctual-in h mine.stands timely.0 in
      let ends = mine.within in
      let before_it = all-still from mine.begun past.1 before earlier in
      let has = inherits h linked.0 in (
        each before h mine punctual before_it has,
        walk (before ++ h ∷ []) hs mine.ended to last (Some h)
            (all-joined (IsEarlier R (fresh block resources) s known top mine.ended) before (h ∷ [])
            (all-still from mine.ended (let le = past.1 in omega (arith, le, ends)) before earlier)
            (record { past = mine; early = omega arith; punctual = punctual }, tt)) past.2 timely.1 page le late linked.1
            (λ next b. inherits-next R block resources s known top before h mine punctual before_it has next b),
      )

-- A story of a device that is a new one.
module _ (R : Relation) (holds : Form → Form → List ℕ → List ℕ → Type 0) (takes : Form → Form → List ℕ → Type 0) (rules : Rules) (block : ℕ)
    (resources : List Held) (turns : List Turn) (out : List Emission) (flights : List Going) (h : List Written) (last : Device) (taken : List Execution)
    (story : IsStory holds takes R rules (fresh block resources) turns out flights h last taken) where
  abbrev pub at_last : Scene
  at_last = end R holds takes rules block resources turns out flights h last taken story

  abbrev pub known_last : Known R (fresh block resources) at_last
  known_last = known_end R holds takes rules block resources turns out flights h last taken story

  pub each-after : (P : List (List Written) → List Written → Type 0) → Stands story.world.core.state.entries → LooksInTime turns
      → ((top : ℕ) (before : List (List Written)) (w : List Written) (page : IsPast (fresh block resources) flights known_last.tale.calls top w)
      → ArePunctual page.stands.reading → AllByRecursion (IsEarlier R (fresh block resources) at_last known_last top page.begun) before
      → IsInherited R block resources at_last known_last top before w → P before w)
      → EachAfter P [] (journals out story.world.core.state.entries)
  each-after P stands looks each =
      let timely = timely-then holds takes R rules block resources turns out flights h last taken story looks in
      let linked = story-linked holds takes R rules (fresh block resources) turns at_last story.is in
      let o = known_last.order in
      let top : ℕ = story.world.core.state.issued in
      subst (EachAfter P []) (sym (journals-are out story.world.core.state.entries))
      (walk R block resources at_last known_last top P (each top) [] (given_in out) 0 o.begun
      story.world.core.state.entries None tt
      (past-map (fresh block resources) flights flights known_last.tale.calls known_last.tale.calls o.lo top
      (λ w p. (past-more (fresh block resources) flights known_last.tale.calls o.lo top o.issued.least w p, refl, refl)) 0 o.begun
      (given_in out) o.past)
      timely.0 (now-past (fresh block resources) at_last known_last.tale.calls known_last.tale.places o stands) (omega arith) timely.1
      linked (λ w own. own-inherits R block resources at_last known_last top [] w own))
