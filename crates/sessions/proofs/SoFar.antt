-- What a session that goes on has done so far, and what each step adds.
use Rattle.std.proofs.Common.{◌≡◌, ◌⊎◌, inl, inr, ◌∙◌, ℕ, Bool, true, false, List, [], ◌∷◌, ◌++◌, Option, refl, sym, ap, subst}
use Rattle.std.specs.List.{AllByRecursion, concat, flat_map}
use Rattle.std.proofs.lemmas.List.{append-nil, append_assoc}
use Rattle.http_edge.specs.declared.edge.Edge.{Edge}
use Rattle.http_edge.specs.Edges.{Stands, Expects, is_told}
use Rattle.http_edge.specs.Reading.{Item, First, AllOpen, closes}
use Rattle.media_map.specs.declared.form.Form.{Form}
use Rattle.ask_model.specs.Views.{Rules}
use Rattle.gateway_desk.specs.Lines.{Line}
use Rattle.sessions.specs.Asking.{as_last, IsFilled}
use Rattle.sessions.specs.Devices.{Grown}
use Rattle.sessions.specs.Serving.{Turn, written_in, noted_in, items_of, AnswersFirst}
use Rattle.sessions.specs.Steps.{TakesRead, TellsToGoOn, TakesTurn}
use Rattle.sessions.specs.Telling.{continue_text, continue_if}
use Rattle.sessions.proofs.Growing.{grown_none, grown_join, grown_still, flat_map-more}
use Rattle.sessions.proofs.Gave.{concat_more, filled_more}
use Rattle.sessions.proofs.Turns.{expects_on, open_one, first_answers_on, first_answers_one}

differs : false ≡ true → ⊥
differs e = absurd cc

module _ (holds : Form → Form → List ℕ → List ℕ → Type 0) (takes : Form → Form → List ℕ → Type 0) (rules : Rules) where
  -- It answered all that was whole of what its reads gave, and its edge stands for the rest.
  pub record SoFar (old new : List Line) (gave_before gave_after : Option (List (List ℕ))) (before after : Option (List ℕ)) (e : Edge) : Type 0 where
    pub reads : List (List ℕ)
    pub gave : Grown gave_before gave_after reads
    pub filled : AllByRecursion IsFilled reads
    pub turns : List Turn
    pub rest : List ℕ
    pub answers : AnswersFirst holds takes rules (concat reads) turns rest
    pub goes_on : AllOpen (items_of turns)
    pub told : Bool
    pub waits : told ≡ true → Expects rest
    pub notes : new ≡ old ++ flat_map noted_in turns
    pub wrote : Grown before after (flat_map written_in turns ++ continue_if told)
    pub stands : Stands e rest
    pub edge_told : is_told e ≡ told

  -- nothing came in
  pub far_none : (a : List Line) (f : Option (List (List ℕ))) (w : Option (List ℕ)) (e : Edge) → Stands e [] → is_told e ≡ false → SoFar a a f f w w e
  far_none a f w e stands told = record {
    reads = [];
    gave = grown_none f;
    filled = tt;
    turns = [];
    rest = [];
    answers = refl;
    goes_on = tt;
    told = false;
    waits = λ x. absurd (differs x);
    notes = sym (append-nil a);
    wrote = grown_none w;
    stands = stands;
    edge_told = told;
  }

  -- the edge was looked at
  abbrev pub far_edge : (a b : List Line) (f g : Option (List (List ℕ))) (w x : Option (List ℕ)) (d e : Edge) → (s : SoFar a b f g w x d) → Stands e s.rest
      → is_told e ≡ is_told d → SoFar a b f g w x e
  far_edge a b f g w x d e s stands told = record {
    reads = s.reads;
    gave = s.gave;
    filled = s.filled;
    turns = s.turns;
    rest = s.rest;
    answers = s.answers;
    goes_on = s.goes_on;
    told = s.told;
    waits = s.waits;
    notes = s.notes;
    wrote = s.wrote;
    stands = stands;
    edge_told = told ∙ s.edge_told;
  }

  -- more came in
  pub far_read : (a b : List Line) (f g h : Option (List (List ℕ))) (w x y : Option (List ℕ)) (d e : Edge) → SoFar a b f g w x d → TakesRead true d e g h → Grown x y []
      → SoFar a b f h w y e
  far_read a b f g h w x y d e s t quiet = record {
    reads = s.reads ++ t.bytes ∷ [];
    gave = grown_join f g h s.reads (t.bytes ∷ []) s.gave t.gave;
    filled = filled_more s.reads t.bytes s.filled (t.filled refl);
    turns = s.turns;
    rest = s.rest ++ t.bytes;
    answers = subst (λ (text : List ℕ). AnswersFirst holds takes rules text s.turns (s.rest ++ t.bytes)) (sym (concat_more s.reads t.bytes))
        (first_answers_on holds takes rules (concat s.reads) s.turns s.rest t.bytes s.answers);
    goes_on = s.goes_on;
    told = s.told;
    waits = λ z. expects_on s.rest t.bytes (s.waits z);
    notes = s.notes;
    wrote = grown_still w x y (flat_map written_in s.turns ++ continue_if s.told) s.wrote quiet;
    stands = t.stands s.rest s.stands;
    edge_told = t.told ∙ s.edge_told;
  }

  -- the client of the request begun was told to go on
  pub far_told : (a b : List Line) (f g h : Option (List (List ℕ))) (w x y : Option (List ℕ)) (d e : Edge) → SoFar a b f g w x d → TellsToGoOn d e g h x y → SoFar a b f h w y e
  far_told a b f g h w x y d e s t =
      let asks = t.waits s.rest s.stands in
      let none : s.told ≡ false = sym s.edge_told ∙ asks.1 in
      let front = flat_map written_in s.turns in
      let wrote : Grown w x (front ++ []) = subst (λ (b : Bool). Grown w x (front ++ continue_if b)) none s.wrote in
      record {
        reads = s.reads;
        gave = grown_still f g h s.reads s.gave t.gave;
        filled = s.filled;
        turns = s.turns;
        rest = s.rest;
        answers = s.answers;
        goes_on = s.goes_on;
        told = true;
        waits = λ z. asks.2;
        notes = s.notes;
        wrote = subst (λ (text : List ℕ). Grown w y (text ++ continue_text)) (append-nil front) (grown_join w x y (front ++ []) continue_text wrote t.wrote);
        stands = t.stands s.rest s.stands;
        edge_told = t.told;
      }

  -- it read on
  pub far_on : (a b : List Line) (f g h : Option (List (List ℕ))) (w x y : Option (List ℕ)) (d e : Edge) → SoFar a b f g w x d
      → TellsToGoOn d e g h x y ⊎ (TakesRead true d e g h × Grown x y []) → SoFar a b f h w y e
  far_on a b f g h w x y d e s (inl t) = far_told a b f g h w x y d e s t
  far_on a b f g h w x y d e s (inr t) = far_read a b f g h w x y d e s t.0 t.1

  -- the turn of an item, as one of all
  abbrev pub turn_of : (i : Item) (last told : Bool) (b c : List Line) (x y : Option (List ℕ)) → TakesTurn holds takes rules (as_last last i) b c x y → Turn
  turn_of i last told b c x y t = record { item = i; last = last; continued = told; slip = t.slip; bytes = t.bytes }

  pub notes_turn : (a b c : List Line) (f g : Option (List (List ℕ))) (w x y : Option (List ℕ)) (d : Edge) (i : Item) (last : Bool) → (s : SoFar a b f g w x d)
      → (t : TakesTurn holds takes rules (as_last last i) b c x y) → c ≡ a ++ flat_map noted_in (s.turns ++ turn_of i last s.told b c x y t ∷ [])
  notes_turn a b c f g w x y d i last s t =
      let u = turn_of i last s.told b c x y t in
      let front = flat_map noted_in s.turns in
      t.notes ∙ ap (λ (ls : List Line). ls ++ noted_in u) s.notes ∙ append_assoc a front (noted_in u)
      ∙ ap (λ (ls : List Line). a ++ ls) (sym (flat_map-more noted_in s.turns u))

  pub wrote_turn : (a b c : List Line) (f g : Option (List (List ℕ))) (w x y : Option (List ℕ)) (d : Edge) (i : Item) (last : Bool) → (s : SoFar a b f g w x d)
      → (t : TakesTurn holds takes rules (as_last last i) b c x y) → Grown w y (flat_map written_in (s.turns ++ turn_of i last s.told b c x y t ∷ []))
  wrote_turn a b c f g w x y d i last s t =
      let u = turn_of i last s.told b c x y t in
      let front = flat_map written_in s.turns in
      let joined : Grown w y ((front ++ continue_if s.told) ++ t.bytes) = grown_join w x y (front ++ continue_if s.told) t.bytes s.wrote t.wrote in
      subst (Grown w y) (append_assoc front (continue_if s.told) t.bytes ∙ sym (flat_map-more written_in s.turns u)) joined

  pub answers_turn : (a b c : List Line) (f g : Option (List (List ℕ))) (w x y : Option (List ℕ)) (d : Edge) (i : Item) (last : Bool) (rest : List ℕ) → (s : SoFar a b f g w x d)
      → First s.rest i rest → (t : TakesTurn holds takes rules (as_last last i) b c x y)
      → AnswersFirst holds takes rules (concat s.reads) (s.turns ++ turn_of i last s.told b c x y t ∷ []) rest
  answers_turn a b c f g w x y d i last rest s first t =
      first_answers_one holds takes rules (concat s.reads) s.turns s.rest (turn_of i last s.told b c x y t) rest s.answers s.goes_on
      (record { first = first; waits = s.waits; asked = t.asked; says = t.says })

  -- an item was answered, and the connection goes on
  pub far_turn : (a b c : List Line) (f g h : Option (List (List ℕ))) (w x y : Option (List ℕ)) (d e : Edge) (i : Item) (last : Bool) (rest : List ℕ) → (s : SoFar a b f g w x d)
      → First s.rest i rest → closes (as_last last i) ≡ false → Stands e rest → is_told e ≡ false → Grown g h [] → TakesTurn holds takes rules (as_last last i) b c x y → SoFar a c f h w y e
  far_turn a b c f g h w x y d e i last rest s first goes stands told quiet t =
      let u = turn_of i last s.told b c x y t in
      record {
        reads = s.reads;
        gave = grown_still f g h s.reads s.gave quiet;
        filled = s.filled;
        turns = s.turns ++ u ∷ [];
        rest = rest;
        answers = answers_turn a b c f g w x y d i last rest s first t;
        goes_on = open_one s.turns u s.goes_on goes;
        told = false;
        waits = λ z. absurd (differs z);
        notes = notes_turn a b c f g w x y d i last s t;
        wrote = subst (Grown w y) (sym (append-nil (flat_map written_in (s.turns ++ u ∷ [])))) (wrote_turn a b c f g w x y d i last s t);
        stands = stands;
        edge_told = told;
      }
