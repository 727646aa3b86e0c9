-- Facts of histories: openings rise, what is awaited was sent, and what goes on has no reply.
use Rattle.std.proofs.Common.{◌≡◌, ℕ, ◌<◌, ◌⊎◌, inl, inr, Bool, true, false, cond, eqb, List, [], ◌∷◌, ◌++◌, length, Option, Some, None, refl, sym, subst, ◌∙◌, arith}
use Rattle.std.specs.Prelude.{◌&&◌}
use Rattle.journal_book.specs.Entries.{Deed, Sends, Hears, Passes}
use Rattle.history_laws.specs.Readings.{Noted, Note, First, Says}
use Rattle.history_laws.proofs.CallerLemmas.{heard-sends}
use Rattle.history_laws.specs.Progress.{Ending}
use Rattle.history_laws.specs.Exchanges.{Turn, Nothing, Sent, Replied, Rejected, Expired, expires, turn_by, turn, waits_by, waits_for, End, end_by}

-- What is awaited was sent.

sent-here : (l : List Noted) (o t : ℕ) (d : Deed) (note : Note) (w : Option ℕ) (j : ℕ) → turn_by l o t d note w ≡ Sent j → j ≡ length l
sent-here l o t (Sends p b u) (First q m) w j e = by (eqb q o) e
  where
    by : (c : Bool) → cond c (Sent (length l)) Nothing ≡ Sent j → j ≡ length l
    by true e = cc
    by false e = cc
sent-here l o t (Hears p b) (Says m (Some i) notice) w j e = absurd (heard-sends i m notice.place w j e)
sent-here l o t Passes note w j e = by (expires l o t w) e
  where
    by : (c : Bool) → cond c Expired Nothing ≡ Sent j → j ≡ length l
    by true e = cc
    by false e = cc
sent-here l o t _ _ w j e = cc

waits-step : (n : ℕ) (u : Turn) (old : Option ℕ) (i : ℕ) → ((j : ℕ) → u ≡ Sent j → j ≡ n) → waits_by u old ≡ Some i → (i ≡ n) ⊎ (old ≡ Some i)
waits-step n (Sent j) old i h e = let is = h j refl in let same : j ≡ i = cc in inl (sym same ∙ is)
waits-step n (Replied j m place) old i h e = cc
waits-step n Rejected old i h e = cc
waits-step n Expired old i h e = cc
waits-step n Nothing old i h e = inr e

pub waits-below : (l : List Noted) (o i : ℕ) → waits_for l o ≡ Some i → i < length l
waits-below [] o i e = cc
waits-below (x ∷ older) o i e =
    elim (waits-step (length older) (turn older o x) (waits_for older o) i (sent-here older o x.written.moment x.written.deed x.note (waits_for older o)) e) [
      | inl w ↦ omega (arith, w)
      | inr w ↦ let ih = waits-below older o i w in omega (arith, ih)
    ]

-- What hasn't ended hadn't before.

pub none-by : (how : Option Ending) (n : ℕ) (old : Option End) → end_by how n old ≡ None → (how ≡ None) × (old ≡ None)
none-by None n old e = (refl, e)
none-by (Some how) n (Some old) e = cc
none-by (Some how) n None e = cc

-- booleans

pub and-turn : (a b : Bool) → (a && b) ≡ (b && a)
and-turn true true = refl
and-turn true false = refl
and-turn false true = refl
and-turn false false = refl
