-- The turns of a session, one more of them each time.
use Rattle.std.proofs.Common.{◌≡◌, ◌∙◌, ℕ, Bool, true, false, List, [], ◌∷◌, ◌++◌, refl, sym, ap, subst}
use Rattle.http_edge.specs.Edges.{Expects}
use Rattle.http_edge.specs.Reading.{Item, asked, bad, AllOpen, closes}
use Rattle.http_edge.proofs.Readings.{begins_on, first_on}
use Rattle.media_map.specs.declared.form.Form.{Form}
use Rattle.ask_model.specs.Views.{Rules}
use Rattle.sessions.specs.Asking.{as_last}
use Rattle.sessions.specs.Serving.{Turn, asked_in, items_of, Answers, AnswersFirst}

-- A request that waits for 100 Continue does so whatever comes after it.
pub expects_on : (text more : List ℕ) → Expects text → Expects (text ++ more)
expects_on text more x =
    record { head = x.head; behind = x.behind ++ more; begins = begins_on text x.head x.behind more x.begins; asks = x.asks }

pub open_one : (turns : List Turn) (t : Turn) → AllOpen (items_of turns) → closes (asked_in t) ≡ false → AllOpen (items_of (turns ++ t ∷ []))
open_one [] t goes e = (e, tt)
open_one (u ∷ turns) t goes e = (goes.0, open_one turns t goes.1 e)

differs : false ≡ true → ⊥
differs e = absurd cc

-- What leaves the connection open, as it is asked, does so as it was read.
pub open_before : (last : Bool) (i : Item) → closes (as_last last i) ≡ false → closes i ≡ false
open_before true (asked r) e = absurd (differs (sym e))
open_before true (bad kind) e = e
open_before false i e = e

module _ (holds : Form → Form → List ℕ → List ℕ → Type 0) (takes : Form → Form → List ℕ → Type 0) (rules : Rules) where
  answers_on : (text : List ℕ) (t : Turn) (rest more : List ℕ) → Answers holds takes rules text t rest → Answers holds takes rules (text ++ more) t (rest ++ more)
  answers_on text t rest more x =
      record { first = first_on text t.item rest more x.first; waits = λ e. expects_on text more (x.waits e); asked = x.asked; says = x.says }

  -- What is answered of a text is answered of a longer one.
  pub first_answers_on : (text : List ℕ) (turns : List Turn) (rest more : List ℕ) → AnswersFirst holds takes rules text turns rest
      → AnswersFirst holds takes rules (text ++ more) turns (rest ++ more)
  first_answers_on text [] rest more r = ap (λ (t : List ℕ). t ++ more) r
  first_answers_on text (t ∷ turns) rest more r = (r.0 ++ more, answers_on text t r.0 more r.1, first_answers_on r.0 turns rest more r.2, r.3)

  -- one turn more
  pub first_answers_one : (text : List ℕ) (turns : List Turn) (rest : List ℕ) (t : Turn) (after : List ℕ) → AnswersFirst holds takes rules text turns rest
      → AllOpen (items_of turns) → Answers holds takes rules rest t after → AnswersFirst holds takes rules text (turns ++ t ∷ []) after
  first_answers_one text [] rest t after r goes one = (after, subst (λ (s : List ℕ). Answers holds takes rules s t after) r one, refl, λ e. refl)
  first_answers_one text (u ∷ turns) rest t after r goes one =
      (r.0, r.1, first_answers_one r.0 turns rest t after r.2 goes.1 one, λ last. absurd (differs (sym goes.0 ∙ last)))
