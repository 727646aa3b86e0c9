-- After the seal a tick adds answers alone.
use Rattle.std.proofs.Common.{◌≡◌, ℕ, Bool, true, false, cond, List, [], ◌∷◌, ◌++◌, refl, sym, ap, ◌∙◌}
use Rattle.std.specs.Prelude.{filter, fold}
use Rattle.std.specs.List.{AllByRecursion}
use Rattle.std.proofs.lemmas.Bool.{false≢true}
use Rattle.std.proofs.lemmas.List.{append-nil, append_assoc}
use Rattle.journal_book.specs.Entries.{Written}
use Rattle.exchange_model.specs.State.{State}
use Rattle.exchange_model.specs.Steps.{seals}
use Rattle.exchange_model.specs.Hearing.{is_past}
use Rattle.exchange_model.specs.Calls.{Telling, tells, told_late, ticked}
use Rattle.exchange_model.specs.Room.{fits}
use Rattle.exchange_model.specs.Sealing.{late, IsAnswer, AnswersAlone, SealedAnswers}

none-added : (S : State) → AnswersAlone S S
none-added S = record {
  answers = [];
  entries = sym (append-nil S.entries);
  are = tt;
  sealed = refl;
  opened = refl;
  issued = refl;
  exchanges = refl;
  pieces = refl;
  stales = refl;
  watches = refl;
  links = refl;
}

all-both-lists : (xs ys : List Written)
    → AllByRecursion (λ (w : Written). IsAnswer w.deed) xs
    → AllByRecursion (λ (w : Written). IsAnswer w.deed) ys
    → AllByRecursion (λ (w : Written). IsAnswer w.deed) (xs ++ ys)
all-both-lists [] ys a b = b
all-both-lists (x ∷ xs) ys a b = (a.0, all-both-lists xs ys a.1 b)

both-added : (S S1 S2 : State) → AnswersAlone S S1 → AnswersAlone S1 S2 → AnswersAlone S S2
both-added S S1 S2 a b = record {
  answers = a.answers ++ b.answers;
  entries =
      b.entries ∙ ap (λ (es : List Written). es ++ b.answers) a.entries
      ∙ append_assoc S.entries a.answers b.answers;
  are = all-both-lists a.answers b.answers a.are b.are;
  sealed = b.sealed ∙ a.sealed;
  opened = b.opened ∙ a.opened;
  issued = b.issued ∙ a.issued;
  exchanges = b.exchanges ∙ a.exchanges;
  pieces = b.pieces ∙ a.pieces;
  stales = b.stales ∙ a.stales;
  watches = b.watches ∙ a.watches;
  links = b.links ∙ a.links;
}

one-added : (t : ℕ) (S : State) (x : Telling) → AnswersAlone S (tells t S x)
one-added t S x = record {
  answers = _ ∷ [];
  entries = refl;
  are = (tt, tt);
  sealed = refl;
  opened = refl;
  issued = refl;
  exchanges = refl;
  pieces = refl;
  stales = refl;
  watches = refl;
  links = refl;
}

all-added : (t : ℕ) (xs : List Telling) (S : State) → AnswersAlone S (fold (tells t) S xs)
all-added t [] S = none-added S
all-added t (x ∷ xs) S =
    both-added S (tells t S x) (fold (tells t) (tells t S x) xs)
    (one-added t S x) (all-added t xs (tells t S x))

pub sealed-answers : SealedAnswers
sealed-answers t S sealed = by S.sealed sealed
  where
    by : (b : Bool) → b ≡ true
        → AnswersAlone S
        (cond b (late t S) (cond (fits (ticked t S)) (ticked t S) (late t (seals t S))))
    by true e = all-added t (told_late (filter (is_past t) S.exchanges) S.readers) S
    by false e = absurd (false≢true e)
