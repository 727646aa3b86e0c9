-- What the steps of a story do.
use Rattle.std.specs.Prelude.{◌≡◌, ℕ, List, [], ◌∷◌, codes, map}
use Rattle.std.specs.Borrow.{Bor}
use Rattle.std.specs.Str.{str_to_ascii_lowercase}
use Rattle.ask_model.specs.Views.{Rules}
use Rattle.command_line.specs.declared.script.Event.{Event}
use Rattle.command_line.specs.declared.script.Event.TheVariants as E
use Rattle.command_line.specs.declared.story.StoryTurn.{StoryTurn}
use Rattle.command_line.specs.declared.story.StoryTurn.TheVariants as S
use Rattle.demo_origin.specs.Origins.{fresh}
use Rattle.demo_origin.specs.Values.{Relation}
use Rattle.device_server.specs.Rows.{held_by}
use Rattle.gateway_model.specs.declared.input.Happening.{Happening}
use Rattle.gateway_model.specs.declared.input.Happening.TheVariants as H
use Rattle.gateway_model.specs.declared.input.Input.{Input}
use Rattle.media_map.specs.declared.form.Form.{Form}
use Rattle.three_parties.specs.Flights.{device_at}
use Rattle.three_parties.specs.Scenes.{Scene, TakesTurn}
use Rattle.three_parties.specs.Stories.{opening}
use Rattle.three_parties.specs.declared.turn.Turn.TheVariants as T
use Rattle.story_runs.specs.declared.book.Book.{Book}
use Rattle.story_runs.specs.declared.book.Step.{Step}

-- The gateway of a story: what begins with /hc/ is mapped, the name is that of the device, nothing
-- is observed, and no body is transformed.
pub record AreStoryRules (r : Rules) : Type 0 where
  pub base : r.base ≡ codes "/hc/"
  pub names : r.directory.lines
      ≡ record {
        name = str_to_ascii_lowercase
            (codes "s.example.com");
        address = device_at.address;
      } ∷ []
  pub quiet : r.observed ≡ []
  pub routes : r.routes ≡ []

-- What happens to the gateway is what the line says, with the bytes that it gives.
abbrev pub IsHappening : Event → Happening → Type 0
IsHappening E.Open h = h ≡ H.Open
IsHappening (E.Bytes c bytes) h = (b : Bor (List ℕ)) × (h ≡ H.Bytes c b) × (b.now ≡ bytes.items)
IsHappening (E.Datagram p bytes) h =
    (b : Bor (List ℕ)) × (h ≡ H.Datagram p b) × (b.now ≡ bytes.items)
IsHappening E.Tick h = h ≡ H.Tick
IsHappening (E.Close c) h = h ≡ H.Close c
IsHappening E.Rotate h = h ≡ H.Rotate

-- It does so at that moment, with these random bits.
pub record IsInput (t word : ℕ) (e : Event) (i : Input) : Type 0 where
  pub moment : i.moment ≡ t
  pub word_is : i.word ≡ word
  pub happening : IsHappening e i.happening

module _ (holds : Form → Form → List ℕ → List ℕ → Type 0)
    (takes : Form → Form → List ℕ → Type 0) (R : Relation) where
  -- It happens to the gateway.
  pub record TakesEvent (t word : ℕ) (e : Event) (old new : Scene) : Type 0 where
    pub input : Input
    pub is : IsInput t word e input
    pub takes_it : TakesTurn holds takes R (T.Proxy input) old new

  -- The gateway looks at its timers, and then the device.
  pub record TakesBoth (t word : ℕ) (old new : Scene) : Type 0 where
    pub between : Scene
    pub first : TakesEvent t word E.Tick old between
    pub then : TakesTurn holds takes R (T.Device t) between new

  -- The turns of a step are taken, at its moment, with these random bits.
  abbrev pub TakesSo : ℕ → ℕ → StoryTurn → Scene → Scene → Type 0
  TakesSo t word (S.Gateway e) old new = TakesEvent t word e old new
  TakesSo t word S.Device old new = TakesTurn holds takes R (T.Device t) old new
  TakesSo t word S.Both old new = TakesBoth t word old new
  TakesSo t word (S.Deliver n) old new =
      TakesTurn holds takes R (T.Deliver (record { moment = t; word = word }) n) old new

  abbrev pub TakesStep : Step → Scene → Scene → Type 0
  TakesStep s old new = TakesSo s.moment s.word s.turn old new

  -- Steps are, one after another.
  abbrev pub TakesSteps : List Step → Scene → Scene → Type 0
  TakesSteps [] old new = new ≡ old
  TakesSteps (x ∷ xs) old new = (mid : Scene) × TakesStep x old mid × TakesSteps xs mid new

  -- The three stand so after all steps of the book. At first nothing has happened to the gateway of
  -- a story, and the device has the resources of the book, in pieces of 1,024 bytes at most.
  pub record IsPlayed (book : Book) (new : Scene) : Type 0 where
    pub rules : Rules
    pub ruled : AreStoryRules rules
    pub takes_all : TakesSteps book.steps.items
        (opening rules (fresh 6 (map held_by book.held.items))) new
