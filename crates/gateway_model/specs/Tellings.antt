-- By which rules requests are asked, and what answers are told by.
use Rattle.std.specs.Prelude.{◌≡◌, ℕ, ◌-◌, ⊤, List}
use Rattle.std.specs.List.{AllByRecursion}
use Rattle.http_edge.specs.Answers.{answer_text}
use Rattle.http_edge.specs.declared.answer.HttpAnswer.{HttpAnswer}
use Rattle.media_map.specs.declared.form.Form.{Form}
use Rattle.ask_model.specs.Maps.{Maps}
use Rattle.ask_model.specs.Views.{Ask, Rules}
use Rattle.journal_book.specs.Entries.{Deed, Asks, Written}
use Rattle.http_mapping.specs.Means.{Means}
use Rattle.exchange_core.specs.Answering.{Given}
use Rattle.gateway_model.specs.Acts.{Terms}

-- What is asked is what the request means by these rules.
pub record IsMapped (holds : Form → Form → List ℕ → List ℕ → Type 0)
    (takes : Form → Form → List ℕ → Type 0) (rules : Rules) (a : Ask) : Type 0 where
  pub by : a.rules ≡ rules
  pub maps : Maps holds takes rules a.came a.sense

-- The response tells what the ask came to. It is as old as the first reply that it rests on.
abbrev pub MeansGiven : (Form → Form → List ℕ → List ℕ → Type 0) → (Form → Form → List ℕ → Type 0)
    → Rules → Given → HttpAnswer → Type 0
MeansGiven holds takes rules g a =
    Means rules.routes holds takes g.mapping g.found (g.moment - g.heard) a

-- what requests mean by these rules, and which responses tell an answer
abbrev pub terms_of : (Form → Form → List ℕ → List ℕ → Type 0) → (Form → Form → List ℕ → Type 0)
    → Rules → Terms
terms_of holds takes rules = record {
  IsMeaning = IsMapped holds takes rules;
  IsTelling = MeansGiven holds takes rules;
}

-- The bytes are of a response that tells the answer.
pub record TellsBytes (M : Terms) (g : Given) (bytes : List ℕ) : Type 0 where
  pub response : HttpAnswer
  pub tells : M.IsTelling g response
  pub text : bytes ≡ answer_text response

-- What entries ask is what requests may be asked.
abbrev pub IsMeantBy : (Ask → Type 0) → Deed → Type 0
IsMeantBy IsMeaning (Asks c a) = IsMeaning a
IsMeantBy IsMeaning _ = ⊤

abbrev pub IsMeant : Terms → Deed → Type 0
IsMeant M d = IsMeantBy M.IsMeaning d

abbrev pub AreMeant : Terms → List Written → Type 0
AreMeant M h = AllByRecursion (λ (e : Written). IsMeant M e.deed) h

-- All that entries ask was mapped by these rules.
abbrev pub AreMapped : (Form → Form → List ℕ → List ℕ → Type 0) → (Form → Form → List ℕ → Type 0)
    → Rules → List Written → Type 0
AreMapped holds takes rules h =
    AllByRecursion (λ (e : Written). IsMeantBy (IsMapped holds takes rules) e.deed) h
