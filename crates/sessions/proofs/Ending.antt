-- What a session has done when it ends.
use Rattle.std.proofs.Common.{◌≡◌, ◌∙◌, inl, inr, ℕ, Bool, true, false, List, [], ◌∷◌, ◌++◌, Option, refl, sym, ap, subst}
use Rattle.std.specs.List.{flat_map}
use Rattle.std.proofs.lemmas.List.{append-nil, append_assoc}
use Rattle.http_edge.specs.declared.edge.Edge.{Edge}
use Rattle.http_edge.specs.Edges.{Expects, is_told}
use Rattle.http_edge.specs.Reading.{Item, First, closes}
use Rattle.media_map.specs.declared.form.Form.{Form}
use Rattle.ask_model.specs.Views.{Rules}
use Rattle.gateway_desk.specs.Lines.{Line}
use Rattle.sessions.specs.declared.session.End.{End}
use Rattle.sessions.specs.declared.session.End.TheVariants.{Finished, ReadFault, WriteFault, Sealed, Memory, Held, Closed}
use Rattle.sessions.specs.Asking.{as_last, IsReadOut}
use Rattle.sessions.specs.Devices.{Grown, GrownPartly}
use Rattle.sessions.specs.Serving.{Undone, nothing, continuing, asking, answering, written_in, written_of, noted_in, noted_of, AnswersFirst, IsUndoneOf, IsUndone, Serves}
use Rattle.sessions.specs.Steps.{TakesRead, TakesTurn, CutsTurn, EndsReading, WaitsToGoOn}
use Rattle.sessions.specs.Telling.{continue_text, continue_if}
use Rattle.sessions.proofs.Growing.{grown_none, grown_join, grown_still}
use Rattle.sessions.proofs.Gave.{concat_ended, once_filled, once_ended}
use Rattle.sessions.proofs.SoFar.{SoFar, turn_of, notes_turn, wrote_turn, answers_turn}

differs : false ≡ true → ⊥
differs e = absurd cc

write_no_finished : WriteFault ≡ Finished → ⊥
write_no_finished e = cc

read_no_finished : ReadFault ≡ Finished → ⊥
read_no_finished e = cc

module _ (holds : Form → Form → List ℕ → List ℕ → Type 0) (takes : Form → Form → List ℕ → Type 0) (rules : Rules) where
  -- nothing was read
  pub ends_unread : (end : End) (a : List Line) (f : Option (List (List ℕ))) (w : Option (List ℕ)) → (end ≡ Finished → ⊥) → Serves holds takes rules end a a f f w w
  ends_unread end a f w other = record {
    reads = [];
    gave = grown_none f;
    once = tt;
    turns = [];
    rest = [];
    answers = refl;
    told = false;
    waits = λ x. absurd (differs x);
    undone = nothing;
    is_undone = tt;
    notes = sym (append-nil a);
    wrote = grown_none w;
    last = inl tt;
    whole = λ no. refl;
    finished = λ e. absurd (other e);
  }

  -- this is left undone
  ends_undone : (end : End) (a b c : List Line) (f g h : Option (List (List ℕ))) (w x y : Option (List ℕ)) (d : Edge) (u : Undone) → (s : SoFar holds takes rules a b f g w x d)
      → IsUndone holds takes rules s.rest s.told u → Grown g h [] → c ≡ b ++ noted_of u → Grown x y (written_of u) → ((end ≡ WriteFault → ⊥) → written_of u ≡ [])
      → (end ≡ Finished → ⊥) → Serves holds takes rules end a c f h w y
  ends_undone end a b c f g h w x y d u s of quiet notes wrote whole other =
      let front = flat_map written_in s.turns in
      record {
        reads = s.reads;
        gave = grown_still f g h s.reads s.gave quiet;
        once = once_filled s.reads s.filled;
        turns = s.turns;
        rest = s.rest;
        answers = s.answers;
        told = s.told;
        waits = s.waits;
        undone = u;
        is_undone = of;
        notes = notes ∙ ap (λ (ls : List Line). ls ++ noted_of u) s.notes ∙ append_assoc a (flat_map noted_in s.turns) (noted_of u);
        wrote = subst (Grown w y) (append_assoc front (continue_if s.told) (written_of u)) (grown_join w x y (front ++ continue_if s.told) (written_of u) s.wrote wrote);
        last = inl s.goes_on;
        whole = whole;
        finished = λ e. absurd (other e);
      }

  -- nothing is
  pub ends_between : (end : End) (a b : List Line) (f g h : Option (List (List ℕ))) (w x y : Option (List ℕ)) (d : Edge) → SoFar holds takes rules a b f g w x d → Grown g h []
      → Grown x y [] → (end ≡ Finished → ⊥) → Serves holds takes rules end a b f h w y
  ends_between end a b f g h w x y d s quiet wrote other =
      ends_undone end a b b f g h w x y d nothing s tt quiet (sym (append-nil b)) wrote (λ no. refl) other

  -- 100 Continue is
  pub ends_continuing : (a b : List Line) (f g h : Option (List (List ℕ))) (w x y : Option (List ℕ)) (d : Edge) → SoFar holds takes rules a b f g w x d → WaitsToGoOn d → Grown g h []
      → GrownPartly x y continue_text → Serves holds takes rules WriteFault a b f h w y
  ends_continuing a b f g h w x y d s waits quiet part =
      let asks = waits s.rest s.stands in
      ends_undone WriteFault a b b f g h w x y d (continuing part.0) s (sym s.edge_told ∙ asks.1, asks.2) quiet (sym (append-nil b)) part.1
      (λ no. absurd (no refl)) write_no_finished

  undone_of : (rest : List ℕ) (told : Bool) (i : Item) (last : Bool) (after : List ℕ) (u : Undone) → First rest i after → IsUndoneOf holds takes rules (as_last last i) u
      → IsUndone holds takes rules rest told u
  undone_of rest told i last after nothing first of = tt
  undone_of rest told i last after (continuing n) first of = absurd of
  undone_of rest told i last after (asking k) first of = (i, after, last, first, of)
  undone_of rest told i last after (answering s part) first of = (i, after, last, first, of)

  -- the turn of an item is
  pub ends_cut : (end : End) (a b c : List Line) (f g h : Option (List (List ℕ))) (w x y : Option (List ℕ)) (d : Edge) (i : Item) (last : Bool) (after : List ℕ) → (s : SoFar holds takes rules a b f g w x d)
      → First s.rest i after → Grown g h [] → CutsTurn holds takes rules end (as_last last i) b c x y → (end ≡ Finished → ⊥) → Serves holds takes rules end a c f h w y
  ends_cut end a b c f g h w x y d i last after s first quiet cut other =
      ends_undone end a b c f g h w x y d cut.undone s (undone_of s.rest s.told i last after cut.undone first cut.of_item) quiet cut.notes cut.wrote cut.whole other

  -- The item that was answered last closes the connection.
  pub ends_closed : (a b c : List Line) (f g h : Option (List (List ℕ))) (w x y : Option (List ℕ)) (d : Edge) (i : Item) (last : Bool) (after : List ℕ) → (s : SoFar holds takes rules a b f g w x d)
      → First s.rest i after → closes (as_last last i) ≡ true → Grown g h [] → TakesTurn holds takes rules (as_last last i) b c x y → Serves holds takes rules Finished a c f h w y
  ends_closed a b c f g h w x y d i last after s first closed quiet t =
      let u = turn_of holds takes rules i last s.told b c x y t in
      let turns = s.turns ++ u ∷ [] in
      record {
        reads = s.reads;
        gave = grown_still f g h s.reads s.gave quiet;
        once = once_filled s.reads s.filled;
        turns = turns;
        rest = after;
        answers = answers_turn holds takes rules a b c f g w x y d i last after s first t;
        told = false;
        waits = λ z. absurd (differs z);
        undone = nothing;
        is_undone = tt;
        notes = notes_turn holds takes rules a b c f g w x y d i last s t ∙ ap (λ (ls : List Line). a ++ ls) (sym (append-nil (flat_map noted_in turns)));
        wrote = subst (Grown w y) (sym (append-nil (flat_map written_in turns))) (wrote_turn holds takes rules a b c f g w x y d i last s t);
        last = inr (refl, refl);
        whole = λ no. refl;
        finished = λ e. (refl, inl (record { front = s.turns; last = u; are = refl; closes_it = closed }));
      }

  -- The client closed it.
  pub ends_left : (a b : List Line) (f g h : Option (List (List ℕ))) (w x y : Option (List ℕ)) (d e : Edge) → (s : SoFar holds takes rules a b f g w x d) → IsReadOut s.rest
      → TakesRead false d e g h → Grown x y [] → (Expects s.rest → is_told d ≡ true) → Serves holds takes rules Finished a b f h w y
  ends_left a b f g h w x y d e s out t quiet went =
      let gave : Grown g h ([] ∷ []) = subst (λ (bytes : List ℕ). Grown g h (bytes ∷ [])) (t.ended refl) t.gave in
      let front = flat_map written_in s.turns in
      record {
        reads = s.reads ++ [] ∷ [];
        gave = grown_join f g h s.reads ([] ∷ []) s.gave gave;
        once = once_ended s.reads s.filled;
        turns = s.turns;
        rest = s.rest;
        answers = subst (λ (text : List ℕ). AnswersFirst holds takes rules text s.turns s.rest) (sym (concat_ended s.reads)) s.answers;
        told = s.told;
        waits = s.waits;
        undone = nothing;
        is_undone = tt;
        notes = s.notes ∙ ap (λ (ls : List Line). a ++ ls) (sym (append-nil (flat_map noted_in s.turns)));
        wrote = subst (λ (text : List ℕ). Grown w y (front ++ text)) (sym (append-nil (continue_if s.told))) (grown_still w x y (front ++ continue_if s.told) s.wrote quiet);
        last = inl s.goes_on;
        whole = λ no. refl;
        finished = λ z. (refl, inr (record { ended = (s.reads, refl); read_out = out; went_on = λ q. sym s.edge_told ∙ went q }));
      }

  -- It ends as it reads on.
  pub ends_reading : (end : End) (a b : List Line) (f g h : Option (List (List ℕ))) (w x y : Option (List ℕ)) (d e : Edge) → (s : SoFar holds takes rules a b f g w x d) → IsReadOut s.rest
      → EndsReading end d e g h x y → Serves holds takes rules end a b f h w y
  ends_reading Finished a b f g h w x y d e s out r = ends_left a b f g h w x y d e s out r.0 r.1 (r.2 s.rest s.stands)
  ends_reading ReadFault a b f g h w x y d e s out r = ends_between ReadFault a b f g h w x y d s r.0 r.1 read_no_finished
  ends_reading WriteFault a b f g h w x y d e s out r = ends_continuing a b f g h w x y d s r.2 r.0 r.1
  ends_reading Sealed a b f g h w x y d e s out r = absurd r
  ends_reading Memory a b f g h w x y d e s out r = absurd r
  ends_reading Held a b f g h w x y d e s out r = absurd r
  ends_reading Closed a b f g h w x y d e s out r = absurd r
