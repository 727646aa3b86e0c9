-- What is told takes nothing of a journal's room but what was held free.
use Rattle.std.proofs.Common.{◌≡◌, ◌≢◌, ℕ, ◌≤◌, Bool, true, false, cond, inl, inr, List, [], ◌∷◌, length, map, filter, Some, None, sym, subst, ◌∙◌, arith}
use Rattle.std.specs.Prelude.{count_by, fold}
use Rattle.std.specs.List.{AllByRecursion, Contains}
use Rattle.std.proofs.lemmas.Bool.Decides.{eqb_tells}
use Rattle.journal_book.specs.Entries.{grounds_size}
use Rattle.history_laws.specs.Progress.{Ending}
use Rattle.history_laws.specs.Readings.{Noted}
use Rattle.history_laws.proofs.CallerLemmas.{all-filter, all-more}
use Rattle.exchange_model.specs.declared.kept.Conn.{Conn}
use Rattle.exchange_model.specs.declared.kept.Exchange.{Exchange}
use Rattle.exchange_model.specs.declared.kept.Reader.{Reader}
use Rattle.exchange_model.specs.State.{State, pend}
use Rattle.exchange_model.specs.Matters.{Matter, Over}
use Rattle.exchange_model.specs.Reads.{Reads}
use Rattle.exchange_model.specs.Resting.{HasConn}
use Rattle.exchange_model.specs.Room.{has_asked}
use Rattle.exchange_model.specs.Calls.{Telling, grounds_for, tells, told_for, told_late}
use Rattle.exchange_model.specs.Growing.{RiseByAsk}
use Rattle.exchange_model.proofs.Adding.{Adds, stays, at-most, both-add, answers-adds}
use Rattle.exchange_model.proofs.ConnsTell.{conns-tell}
use Rattle.exchange_model.proofs.Readers.{ReaderIn, readers-wait, readers-rise-in, readers-apart, Apart}
use Rattle.exchange_model.proofs.Telling.{readers_in, all-in}
use Rattle.exchange_model.proofs.Tellings.{over_in, reads_it, readers-for, for-all, late_reads, readers-late, late-all}
use Rattle.exchange_model.proofs.Tidy.{Tidy}
use Rattle.exchange_model.proofs.Waiting.{answers-fewer}

-- Who is told waits, each on a connection of its own.
abbrev pub AreWaiting : List Reader → List Conn → Type 0
AreWaiting rs cs = AllByRecursion (λ (r : Reader). HasConn cs r.conn (Some r.ask)) rs

pub still-waits : (c : ℕ) (rs : List Reader) (cs : List Conn) → AllByRecursion (λ (r : Reader). c ≢ r.conn) rs → AreWaiting rs cs → AreWaiting rs (map (pend c None) cs)
still-waits c [] cs a h = tt
still-waits c (r ∷ rs) cs a h = (by cs h.0, still-waits c rs cs a.1 h.1)
  where
    by : (cs : List Conn) → HasConn cs r.conn (Some r.ask) → HasConn (map (pend c None) cs) r.conn (Some r.ask)
    by [] k = absurd k
    by (x ∷ xs) (inl k) = elim (eqb_tells x.id c) [ inl w ↦ absurd (a.0 (sym w.1 ∙ k.0)) | inr w ↦ rw (w.0) (inl k) ]
    by (x ∷ xs) (inr k) = inr (by xs k)

pub all-told-adds : (t : ℕ) (xs : List Telling) (S : State) → Tidy S.links → AreWaiting (readers_in xs) S.conns → Apart (readers_in xs)
    → AllByRecursion (λ (x : Telling). grounds_size x.grounds ≤ 16392) xs → Adds 0 0 S (fold (tells t) S xs)
all-told-adds t [] S h waits apart small = stays 0 0 S h
all-told-adds t (x ∷ xs) S h waits apart small =
    let one = answers-adds t x.reader.conn x.reader.ask x.grounds S h waits.0 small.0 in
    let left = still-waits x.reader.conn (readers_in xs) S.conns (all-more _ (λ (r : Reader). x.reader.conn ≢ r.conn) (λ r k. k.1) (readers_in xs) apart.0) waits.1 in
    at-most 0 0 0 0 S _ (omega arith) (omega arith)
    (both-add 0 0 0 0 S (tells t S x) _ one (all-told-adds t xs (tells t S x) one.tidy left apart.1 small.1))

-- So they are no more than those that wait.
pub few-waiting : (rs : List Reader) (cs : List Conn) → AreWaiting rs cs → Apart rs
    → length rs ≤ count_by has_asked cs
few-waiting [] cs waits apart = omega arith
few-waiting (r ∷ rs) cs waits apart =
    let left = still-waits r.conn rs cs (all-more _ (λ (x : Reader). r.conn ≢ x.conn) (λ x k. k.1) rs apart.0) waits.1 in
    let rest = few-waiting rs (map (pend r.conn None) cs) left apart.1 in
    let fewer = answers-fewer r.conn r.ask cs waits.0 in
    omega (arith, rest, fewer)

-- So are the readers of a state between two steps.
pub record Served (S : State) : Type 0 where
  pub waits : AreWaiting S.readers S.conns
  pub apart : Apart S.readers

pub kept-served : (l : List Noted) (S : State) → Reads l S → Served S
kept-served l S r = record {
  waits = all-more (ReaderIn l) (λ (x : Reader). HasConn S.conns x.conn (Some x.ask))
      (λ x h. subst (HasConn S.conns x.conn) h.waits ((conns-tell l S x.conn r).0 h.open_now)) S.readers readers;
  apart = readers-apart l S.readers (subst RiseByAsk r.readers_are (readers-rise-in l r.legal)) readers;
}
  where
    readers : AllByRecursion (ReaderIn l) S.readers
    readers = subst (AllByRecursion (ReaderIn l)) r.readers_are (readers-wait l r.legal)

apart-filter : (q : Reader → Bool) (rs : List Reader) → Apart rs → Apart (filter q rs)
apart-filter q [] h = tt
apart-filter q (r ∷ rs) h = by (q r) (apart-filter q rs h.1)
  where
    by : (b : Bool) → Apart (filter q rs) → Apart (cond b (r ∷ filter q rs) (filter q rs))
    by true ih = (all-filter (λ (s : Reader). (r.ask ≢ s.ask) × (r.conn ≢ s.conn)) q rs h.0, ih)
    by false ih = ih

-- those of one exchange, and of all that end at a tick
pub for-served : (n : ℕ) (x : Matter) (rs : List Reader) (cs : List Conn) → AreWaiting rs cs → Apart rs
    → AreWaiting (readers_in (told_for n x rs)) cs × Apart (readers_in (told_for n x rs))
for-served n x rs cs waits apart = (
  rw (readers-for n x rs) (all-filter (λ (r : Reader). HasConn cs r.conn (Some r.ask)) (reads_it (over_in x)) rs waits),
  rw (readers-for n x rs) (apart-filter (reads_it (over_in x)) rs apart),
)

pub late-served : (es : List Exchange) (rs : List Reader) (cs : List Conn) → AreWaiting rs cs → Apart rs
    → AreWaiting (readers_in (told_late es rs)) cs × Apart (readers_in (told_late es rs))
late-served es rs cs waits apart = (
  rw (readers-late es rs) (all-filter (λ (r : Reader). HasConn cs r.conn (Some r.ask)) (late_reads es) rs waits),
  rw (readers-late es rs) (apart-filter (late_reads es) rs apart),
)

-- What is told of it isn't long.
abbrev pub IsBrief : ℕ → Matter → Type 0
IsBrief n x = (e : Exchange) (how : Ending) (r : Reader) → x ≡ Over e how → grounds_size (grounds_for how n e.sending r) ≤ 16392

pub for-adds : (t n : ℕ) (x : Matter) (rs : List Reader) (S : State) → Tidy S.links → AreWaiting rs S.conns → Apart rs → IsBrief n x
    → Adds 0 0 S (fold (tells t) S (told_for n x rs))
for-adds t n x rs S h waits apart brief =
    let served = for-served n x rs S.conns waits apart in
    all-told-adds t (told_for n x rs) S h served.0 served.1
    (for-all (λ (y : Telling). grounds_size y.grounds ≤ 16392) (Contains rs) n x rs (λ e how r is a same. brief e how r is) (all-in rs))

pub late-adds : (t : ℕ) (es : List Exchange) (rs : List Reader) (S : State) → Tidy S.links → AreWaiting rs S.conns → Apart rs
    → Adds 0 0 S (fold (tells t) S (told_late es rs))
late-adds t es rs S h waits apart =
    let served = late-served es rs S.conns waits apart in
    all-told-adds t (told_late es rs) S h served.0 served.1
    (late-all (λ (x : Telling). grounds_size x.grounds ≤ 16392) (Contains rs) es rs (λ e r in_es a same. omega arith) (all-in rs))
