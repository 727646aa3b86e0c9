-- What an edge gave.
use Rattle.std.proofs.Common.{◌≡◌, ◌⊎◌, inl, inr, ℕ, Bool, true, false, List, Option, Some, None, Result, Ok, IfOk, IfSome, sym, ◌∙◌, subst}
use Rattle.http_edge.specs.declared.edge.Edge.{Edge}
use Rattle.http_edge.specs.declared.memory.Memory.{Memory}
use Rattle.http_edge.specs.declared.request.Incoming.{Incoming}
use Rattle.http_edge.specs.Edges.{Stands, Steps, is_told}
use Rattle.http_edge.specs.Reading.{Item, closes}
use Rattle.sessions.specs.Asking.{IsReadOut}
use Rattle.sessions.specs.Steps.{TakesRead}

pub item_given : (r : Result (Option Incoming) Memory) (e : Edge) (text : List ℕ) (i : Incoming) → r ≡ Ok (Some i) → Steps r e text → Steps (Ok (Some i)) e text
item_given r e text i same s = subst (λ (x : Result (Option Incoming) Memory). Steps x e text) same s

pub none_given : (r : Result (Option Incoming) Memory) (e : Edge) (text : List ℕ) → r ≡ Ok None → Steps r e text → Stands e text
none_given r e text same s = (subst (λ (x : Result (Option Incoming) Memory). Steps x e text) same s).0

pub read_out : (r : Result (Option Incoming) Memory) (e : Edge) (text : List ℕ) → r ≡ Ok None → Steps r e text → IsReadOut text
read_out r e text same s = (subst (λ (x : Result (Option Incoming) Memory). Steps x e text) same s).1

-- what is said of each item is said of this one
pub of_given : (A : Incoming → Type 0) (r : Result (Option Incoming) Memory) (i : Incoming) → r ≡ Ok (Some i) → IfOk r (λ found. IfSome found A) → A i
of_given A r i same f = subst (λ (x : Result (Option Incoming) Memory). IfOk x (λ found. IfSome found A)) same f

pub goes_on : (i : Item) (A B : Type 0) → closes i ≡ false → ((closes i ≡ true) × A) ⊎ ((closes i ≡ false) × B) → B
goes_on i A B e (inl x) = absurd (let f = sym e ∙ x.0 in cc)
goes_on i A B e (inr x) = x.1

-- A read after the edge was looked at is one from what it was.
pub takes_from : (b goes : Bool) → b ≡ goes → (d m e : Edge) (g h : Option (List (List ℕ))) → ((text : List ℕ) → Stands d text → Stands m text) → is_told m ≡ is_told d → TakesRead b m e g h
    → TakesRead goes d e g h
takes_from b goes same d m e g h keeps told t = record {
  bytes = t.bytes;
  gave = t.gave;
  stands = λ text stands. t.stands text (keeps text stands);
  told = t.told ∙ told;
  filled = λ x. t.filled (same ∙ x);
  ended = λ x. t.ended (same ∙ x);
}
