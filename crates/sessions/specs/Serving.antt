-- What a session does on its connection. The requests that come in are answered one after the
-- other, each with the answer that was given for it. A client that waits with its body for 100
-- Continue is told so once, before the answer (RFC 9110 section 10.1.1, RFC 9112 section 9.3.2).
use Rattle.std.specs.Prelude.{◌≡◌, ◌⊎◌, ⊤, ℕ, Bool, true, false, List, [], ◌∷◌, ◌++◌, map, take, Option}
use Rattle.std.specs.List.{concat, flat_map}
use Rattle.http_edge.specs.Edges.{Expects}
use Rattle.http_edge.specs.Reading.{Item, First, AllOpen, closes}
use Rattle.media_map.specs.declared.form.Form.{Form}
use Rattle.ask_model.specs.Views.{Rules}
use Rattle.gateway_desk.specs.Lines.{Line, Slip, made, got}
use Rattle.sessions.specs.declared.session.End.{End}
use Rattle.sessions.specs.declared.session.End.TheVariants.{Finished, WriteFault}
use Rattle.sessions.specs.Asking.{as_last, IsAskOf, IsReadOut, EndOnce, HaveEnded}
use Rattle.sessions.specs.Devices.{Grown}
use Rattle.sessions.specs.Telling.{continue_text, continue_if, SaysAnswer, IsPartOf}

-- a request that is answered: what came, whether the session made it the last one, whether its
-- client was told to go on before, the receipt of its answer, and the bytes of the answer
pub record Turn : Type 0 where
  pub item : Item
  pub last : Bool
  pub continued : Bool
  pub slip : Slip
  pub bytes : List ℕ

-- the request as it was asked
abbrev pub asked_in : Turn → Item
asked_in t = as_last t.last t.item

abbrev pub written_in : Turn → List ℕ
written_in t = continue_if t.continued ++ t.bytes

-- its notes: the ask and the answer
abbrev pub noted_in : Turn → List Line
noted_in t = made t.slip.number ∷ got t.slip ∷ []

abbrev pub items_of : List Turn → List Item
items_of turns = map asked_in turns

-- what a session leaves undone: nothing; 100 Continue, of which the first bytes are written; an ask
-- that has no answer; or an answer, of which these bytes are written
pub data Undone : Type 0 where
  nothing : Undone
  continuing : (sent : ℕ) → Undone
  asking : (number : ℕ) → Undone
  answering : (slip : Slip) → (sent : List ℕ) → Undone

abbrev pub written_of : Undone → List ℕ
written_of nothing = []
written_of (continuing n) = take n continue_text
written_of (asking k) = []
written_of (answering s part) = part

abbrev pub noted_of : Undone → List Line
noted_of nothing = []
noted_of (continuing n) = []
noted_of (asking k) = made k ∷ []
noted_of (answering s part) = made s.number ∷ got s ∷ []

-- The last turn closes the connection.
pub record ClosesLast (turns : List Turn) : Type 0 where
  pub front : List Turn
  pub last : Turn
  pub are : turns ≡ front ++ last ∷ []
  pub closes_it : closes (asked_in last) ≡ true

-- The client closed the connection, and nothing can be asked of what is left. If that begins with a
-- request that waits for 100 Continue, it was told.
pub record IsLeft (reads : List (List ℕ)) (rest : List ℕ) (told : Bool) : Type 0 where
  pub ended : HaveEnded reads
  pub read_out : IsReadOut rest
  pub went_on : Expects rest → told ≡ true

module _ (holds : Form → Form → List ℕ → List ℕ → Type 0) (takes : Form → Form → List ℕ → Type 0)
    (rules : Rules) where
  -- The turn answers what stands first in a text, of which this is left then.
  pub record Answers (text : List ℕ) (t : Turn) (rest : List ℕ) : Type 0 where
    pub first : First text t.item rest
    pub waits : t.continued ≡ true → Expects text
    pub asked : IsAskOf holds takes rules (asked_in t) t.slip.given.mapping
    pub says : SaysAnswer holds takes rules t.slip.given t.bytes

  -- The turns answer what a text begins with, one after the other, and this is left. After one that
  -- closes the connection comes none.
  abbrev pub AnswersFirst : List ℕ → List Turn → List ℕ → Type 0
  AnswersFirst text [] rest = rest ≡ text
  AnswersFirst text (t ∷ turns) rest =
      (after : List ℕ) × Answers text t after × AnswersFirst after turns rest
      × (closes (asked_in t) ≡ true → turns ≡ [])

  -- What is undone is of this item.
  abbrev pub IsUndoneOf : Item → Undone → Type 0
  IsUndoneOf i nothing = ⊤
  IsUndoneOf i (continuing n) = ⊥
  IsUndoneOf i (asking k) = ⊤
  IsUndoneOf i (answering s part) =
      IsAskOf holds takes rules i s.given.mapping × IsPartOf holds takes rules s.given part

  -- It is of what stands first in a text, whose client was told to go on or not.
  abbrev pub IsUndone : List ℕ → Bool → Undone → Type 0
  IsUndone text told nothing = ⊤
  IsUndone text told (continuing n) = (told ≡ false) × Expects text
  IsUndone text told u =
      (i : Item) × (rest : List ℕ) × (last : Bool) × First text i rest
      × IsUndoneOf (as_last last i) u

  -- Between two moments a session that ends so has answered what its reads gave. It notes and
  -- writes just the turns, in order, and at most one thing that is left undone.
  pub record Serves (end : End) (old new : List Line)
      (gave_before gave_after : Option (List (List ℕ)))
      (before after : Option (List ℕ)) : Type 0 where
    pub reads : List (List ℕ)
    pub gave : Grown gave_before gave_after reads
    pub once : EndOnce reads
    pub turns : List Turn
    pub rest : List ℕ
    pub answers : AnswersFirst (concat reads) turns rest
    pub told : Bool
    pub waits : told ≡ true → Expects rest
    pub undone : Undone
    pub is_undone : IsUndone rest told undone
    pub notes : new ≡ old ++ (flat_map noted_in turns ++ noted_of undone)
    pub wrote :
        Grown before after (flat_map written_in turns ++ (continue_if told ++ written_of undone))
    -- after a turn that closes the connection nothing is begun
    pub last : AllOpen (items_of turns) ⊎ ((told ≡ false) × (undone ≡ nothing))
    -- a part is written only where a write failed
    pub whole : (end ≡ WriteFault → ⊥) → written_of undone ≡ []
    pub finished : end ≡ Finished → (undone ≡ nothing) × (ClosesLast turns ⊎ IsLeft reads rest told)
