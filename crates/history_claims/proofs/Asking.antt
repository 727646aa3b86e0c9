-- The ask of an answer, and what it asks for.
use Rattle.std.proofs.Common.{◌≡◌, ℕ, List, length, Some, ap, subst}
use Rattle.ask_model.specs.Requests.{Sense}
use Rattle.ask_model.specs.Views.{Ask}
use Rattle.journal_book.specs.Entries.{Grounds, Answers, Asks}
use Rattle.history_laws.specs.Readings.{Noted, Note, entries, at, before, noted}
use Rattle.history_laws.specs.Justified.{IsAsk, HasGrounds, Follows, Legal}
use Rattle.history_laws.proofs.CallerLemmas.{asks-stand, at-before, at-same, follows-at, length-before}
use Rattle.history_claims.specs.Headline.{IsEntry, IsAsked}
use Rattle.history_claims.proofs.Entries.{entries-at, asked-entry}

-- the ask of an answer is its connection's
pub record AnswersAsk (l : List Noted) (n t c k : ℕ) (g : Grounds) : Type 0 where
  pub grounds : HasGrounds (before l n) t k g
  pub ask : Ask
  pub asked : IsAsk (before l n) k c ask

answered : (l : List Noted) (n t c k : ℕ) (g : Grounds) (note : Note) → Follows (before l n) t (Answers c k g) note → AnswersAsk l n t c k g
answered l n t c k g note f =
    let ask = asks-stand (before l n) c _ k f.2 in
    record { grounds = f.3; ask = ask.0; asked = ask.1 }

pub answers-ask : (l : List Noted) (n t c k : ℕ) (g : Grounds) → Legal l → IsEntry (entries l) n t (Answers c k g)
    → AnswersAsk l n t c k g × (length (before l n) ≡ n)
answers-ask l n t c k g legal e =
    let there = entries-at l n _ e in
    (answered l n t c k g there.0 (follows-at l n _ legal there.1), length-before l n _ there.1)

-- an ask that opened an exchange asked for its request, by the connection that is answered
conns-same : (s t c d : ℕ) (a b : Ask) (u v : Note) → noted s (Asks c a) u ≡ noted t (Asks d b) v → c ≡ d
conns-same s t c d a b u v e = go (ap (λ (x : Noted). x.written.deed) e)
  where
    go : Asks c a ≡ Asks d b → c ≡ d
    go f = cc

pub asked-by : (l : List Noted) (n c k : ℕ) (a : Ask) (sense : Sense) (s d : ℕ) (b : Ask) (note : Note) → IsAsk (before l n) k c a
    → at l k ≡ Some (noted s (Asks d b) note) → b.sense ≡ sense → IsAsked (entries l) k c s sense
asked-by l n c k a sense s d b note ask there is =
    let same : d ≡ c = conns-same s ask.moment d c b a note ask.note (at-same l k _ _ there (at-before l n k _ ask.stands)) in
    subst (λ (c : ℕ). IsAsked (entries l) k c s sense) same (asked-entry l k d s b note sense there is)
