-- What a draft stands for, and what calls do that answer or hear first and then tell.
use Rattle.std.specs.Prelude.{ℕ, List, [], ◌∷◌, ◌++◌}
use Rattle.demo_origin.specs.Values.{Device}
use Rattle.demo_origin.specs.Peers.{known_after}
use Rattle.demo_origin.specs.Answers.{Answers}
use Rattle.demo_origin.specs.Notifying.{Talk, talk_of, without_lost, Settles, CopiesAll, TellsAll}
use Rattle.demo_origin.specs.declared.answer.Asker.{Asker}
use Rattle.demo_origin.specs.declared.draft.Draft.{Draft}

abbrev pub drafted : Draft → Talk
drafted d = record {
  clients = d.clients.items;
  observers = d.observers.items;
  out = d.out.items;
}

-- the answer goes out
abbrev pub answering : Asker → List ℕ → Talk → Talk
answering to bytes k = record k {
  clients = known_after to.moment to.peer to.kind k.clients;
  out = k.out ++ record { peer = to.peer; bytes = bytes } ∷ [];
}

-- The request is answered by that code, and then the observers are told.
pub record AnswersAndTells (to : Asker) (code : ℕ) (payload : List ℕ) (old new : Device) : Type 0
  where
    pub middle : Device
    pub answers : Answers to code [] payload old middle
    pub settles : Settles to.moment middle new

-- copies go out, and then what waited for its turn
pub record CopiesAndTells (t : ℕ) (old : Device) (told : Talk) : Type 0 where
  pub copied : Talk
  pub copies : CopiesAll t old.block old.resources (without_lost t (talk_of old)) copied
  pub tells : TellsAll t old.block old.resources copied told
