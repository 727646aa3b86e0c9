-- What the turn of an item does, and what it leaves undone.
use Rattle.std.proofs.Common.{◌≡◌, ◌∙◌, inl, inr, ℕ, List, [], ◌∷◌, ◌++◌, take, Option, refl, sym, ap, subst}
use Rattle.std.proofs.lemmas.List.{append-nil, append_assoc}
use Rattle.http_edge.specs.declared.request.Incoming.{Incoming}
use Rattle.http_edge.specs.declared.request.Incoming.TheVariants as In
use Rattle.http_edge.specs.Edges.{item}
use Rattle.http_edge.specs.Reading.{Item}
use Rattle.media_map.specs.declared.form.Form.{Form}
use Rattle.ask_model.specs.Maps.{Maps}
use Rattle.ask_model.specs.Views.{came_of, Mapping, Rules}
use Rattle.http_mapping.specs.Limits.{limited}
use Rattle.gateway_desk.specs.Lines.{Line, Slip, made, got}
use Rattle.sessions.specs.declared.session.End.{End}
use Rattle.sessions.specs.declared.session.End.TheVariants.{WriteFault}
use Rattle.sessions.specs.Asking.{IsAskOf, came_at}
use Rattle.sessions.specs.Devices.{Grown}
use Rattle.sessions.specs.Serving.{nothing, asking, answering}
use Rattle.sessions.specs.Steps.{TakesTurn, CutsTurn}
use Rattle.sessions.specs.Telling.{SaysAnswer}

-- What a request brings is what came.
came_same : (i : Incoming) → came_at (item i) ≡ limited (came_of i)
came_same (In.Request r) = refl
came_same (In.Bad kind) = refl

-- an ask and its answer are noted one after the other
two_more : (a b c : List Line) (k : ℕ) (s : Slip) → b ≡ a ++ made k ∷ [] → c ≡ b ++ got s ∷ [] → s.number ≡ k → c ≡ a ++ (made s.number ∷ got s ∷ [])
two_more a b c k s e f own =
    subst (λ (n : ℕ). c ≡ a ++ (made n ∷ got s ∷ [])) (sym own) (f ∙ ap (λ (ls : List Line). ls ++ got s ∷ []) e ∙ append_assoc a (made k ∷ []) (got s ∷ []))

module _ (holds : Form → Form → List ℕ → List ℕ → Type 0) (takes : Form → Form → List ℕ → Type 0) (rules : Rules) where
  -- What was mapped from what came is an ask of its item.
  pub ask_of : (i : Incoming) (m n : Mapping) → m ≡ n → n.came ≡ limited (came_of i) → n.rules ≡ rules → Maps holds takes rules n.came n.sense
      → IsAskOf holds takes rules (item i) m
  ask_of i m n same came by meant = record {
    came = ap (λ (x : Mapping). x.came) same ∙ came ∙ sym (came_same i);
    meant = subst (λ (x : Mapping). Maps holds takes rules x.came x.sense) (sym same) meant;
    by_rules = ap (λ (x : Mapping). x.rules) same ∙ by;
  }

  pub turn_taken : (i : Item) (a b c : List Line) (k : ℕ) (s : Slip) (bytes : List ℕ) (w x : Option (List ℕ)) → b ≡ a ++ made k ∷ [] → c ≡ b ++ got s ∷ []
      → s.number ≡ k → IsAskOf holds takes rules i s.given.mapping → SaysAnswer holds takes rules s.given bytes → Grown w x bytes
      → TakesTurn holds takes rules i a c w x
  turn_taken i a b c k s bytes w x e f own asked says g =
      record { slip = s; bytes = bytes; notes = two_more a b c k s e f own; asked = asked; says = says; wrote = g }

  -- nothing is noted and nothing written
  pub cut_nothing : (end : End) (i : Item) (a b : List Line) (w x : Option (List ℕ)) → b ≡ a → Grown w x [] → CutsTurn holds takes rules end i a b w x
  cut_nothing end i a b w x same g =
      record { undone = nothing; of_item = tt; notes = same ∙ sym (append-nil a); wrote = g; whole = λ no. refl }

  -- an ask has no answer
  pub cut_ask : (end : End) (i : Item) (a b : List Line) (k : ℕ) (w x : Option (List ℕ)) → b ≡ a ++ made k ∷ [] → Grown w x []
      → CutsTurn holds takes rules end i a b w x
  cut_ask end i a b k w x e g = record { undone = asking k; of_item = tt; notes = e; wrote = g; whole = λ no. refl }

  -- nothing of an answer is written
  pub cut_answer : (end : End) (i : Item) (a b c : List Line) (k : ℕ) (s : Slip) (w x : Option (List ℕ)) → b ≡ a ++ made k ∷ [] → c ≡ b ++ got s ∷ []
      → s.number ≡ k → IsAskOf holds takes rules i s.given.mapping → Grown w x [] → CutsTurn holds takes rules end i a c w x
  cut_answer end i a b c k s w x e f own asked g = record {
    undone = answering s [];
    of_item = (asked, inl refl);
    notes = two_more a b c k s e f own;
    wrote = g;
    whole = λ no. refl;
  }

  -- a part of it is
  pub cut_part : (i : Item) (a b c : List Line) (k : ℕ) (s : Slip) (bytes : List ℕ) (n : ℕ) (w x : Option (List ℕ)) → b ≡ a ++ made k ∷ [] → c ≡ b ++ got s ∷ []
      → s.number ≡ k → IsAskOf holds takes rules i s.given.mapping → SaysAnswer holds takes rules s.given bytes → Grown w x (take n bytes)
      → CutsTurn holds takes rules WriteFault i a c w x
  cut_part i a b c k s bytes n w x e f own asked says g = record {
    undone = answering s (take n bytes);
    of_item = (asked, inr (bytes, n, says, refl));
    notes = two_more a b c k s e f own;
    wrote = g;
    whole = λ no. absurd (no refl);
  }
