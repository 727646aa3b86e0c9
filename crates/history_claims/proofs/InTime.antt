-- No tick finds an exchange late before it ends, and none comes between its end and the answer.
use Rattle.std.proofs.Common.{◌≡◌, ℕ, ◌+◌, ◌<◌, ◌≤◌, Bool, true, false, cond, inl, inr, List, Option, Some, None, refl, sym, ap, subst, ◌∙◌, arith}
use Rattle.std.specs.Prelude.{is_none}
use Rattle.std.proofs.lemmas.Bool.Decides.{eqb_tells, leb_tells}
use Rattle.std.proofs.lemmas.Bool.{false≢true, le-leb}
use Rattle.limits.specs.declared.TheConstants.{MAX_TRANSMIT_WAIT}
use Rattle.ask_model.specs.Views.{Ask}
use Rattle.resp_cache.specs.Stored.{Stored}
use Rattle.journal_book.specs.Entries.{Grounds, Passes, Answers}
use Rattle.history_laws.specs.Readings.{Noted, Note, entries, at, before, noted}
use Rattle.history_laws.specs.Connections.{is_open}
use Rattle.history_laws.specs.Progress.{Reply, Ending, TimedOut}
use Rattle.history_laws.specs.Exchanges.{Begun, begun, is_late, Turn, Nothing, Expired, expires, turn, waits_for, replies, kept, end_here, end_of, is_going, heard_for}
use Rattle.history_laws.specs.Justified.{IsAsk, Ends, reads, pending, Follows, MayCome, Legal}
use Rattle.history_laws.proofs.CallerLemmas.{at-before, at-below, at-same, at-still, before-twice, begun-opening, ends-first, follows-at, legal-before, length-before, none-some, opens-begun, some-is}
use Rattle.history_claims.specs.Headline.{IsInTime}
use Rattle.history_claims.proofs.Entries.{entries-at}
use Rattle.history_claims.proofs.Unsent.{ended-at}
use Rattle.history_claims.proofs.Hands.{no-input}

-- A tick ends an exchange that it finds late.
is-late-at : (l : List Noted) (o t : ℕ) (b : Begun) → begun l o ≡ Some b → b.since + MAX_TRANSMIT_WAIT ≤ t → is_late t (begun l o) ≡ true
is-late-at l o t b opened late = subst (λ (v : Option Begun). is_late t v ≡ true) (sym opened) (le-leb (b.since + MAX_TRANSMIT_WAIT) t late)

late-expires : (l : List Noted) (o t : ℕ) (b : Begun) (w : Option ℕ) → begun l o ≡ Some b → b.since + MAX_TRANSMIT_WAIT ≤ t → expires l o t w ≡ true
late-expires l o t b None opened late = is-late-at l o t b opened late
late-expires l o t b (Some i) opened late = rw (is-late-at l o t b opened late) refl

pub going-in-time : (l : List Noted) (k o n t : ℕ) (x : Noted) (note : Note) (b : Begun) → Legal l → at l k ≡ Some x → is_going (before l k) o ≡ true
    → begun (before l k) o ≡ Some b → o < n → n < k → at l n ≡ Some (noted t Passes note) → b.since + MAX_TRANSMIT_WAIT ≤ t → ⊥
going-in-time l k o n t x note b legal here going opened after early tick late =
    let opening = begun-opening (before l k) o b opened in
    let stands = at-before l k o _ opening.2 in
    let was = opens-begun (before l n) o b.since opening.0 opening.1 b.request opening.3 (at-still l n o _ _ tick after stands) in
    let over : turn (before l n) o (noted t Passes note) ≡ Expired = rw (late-expires (before l n) o t b (waits_for (before l n) o) was late) refl in
    let twice = before-twice l k n x here early in
    let ends : end_here (begun (before (before l k) n) o) (kept (before (before l k) n) o) n (heard_for (before (before l k) n) o) (turn (before (before l k) n) o (noted t Passes note)) ≡ Some TimedOut =
    subst (λ (v : List Noted). end_here (begun v o) (kept v o) n (heard_for v o) (turn v o (noted t Passes note)) ≡ Some TimedOut) (sym twice)
    (subst (λ (u : Turn). end_here (begun (before l n) o) (kept (before l n) o) n (heard_for (before l n) o) u ≡ Some TimedOut) (sym over) refl) in
    false≢true (sym (ended-at (before l k) o n _ TimedOut (at-still l k n _ _ here early tick) ends) ∙ going)

-- a tick ends an exchange in one way
passes-end : (o : Option Begun) (v : Option Stored) (b : Bool) (n : ℕ) (rs : List Reply) (how : Ending) → end_here o v n rs (cond b Expired Nothing) ≡ Some how
    → how ≡ TimedOut
passes-end o v true n rs how e = sym (some-is TimedOut how e)
passes-end o v false n rs how e = absurd (none-some how e)

ends-at-tick : (l : List Noted) (k e s : ℕ) (note : Note) (how : Ending) → end_here (begun l k) (kept l k) e (heard_for l k) (turn l k (noted s Passes note)) ≡ Some how
    → how ≡ TimedOut
ends-at-tick l k e s note how h = passes-end (begun l k) (kept l k) (expires l k s (waits_for l k)) e (heard_for l k) how h

-- The answer to an ask whose exchange ended otherwise comes before a tick that finds that late.
module _ (l : List Noted) (n t c k o : ℕ) (g : Grounds) (note : Note) (legal : Legal l) (here : at l n ≡ Some (noted t (Answers c k g) note)) (a : Ask)
    (asked : IsAsk (before l n) k c a) (own : reads (before l n) k ≡ Some o) (not_later : o ≤ k) (b : Begun) (opened : begun l o ≡ Some b) where
  early : Legal (before l n)
  early = legal-before l n legal

  tick-before : (e i s : ℕ) (y : Noted) (u : Note) → at (before l n) e ≡ Some y → end_of (before (before l n) e) o ≡ None → k < i → i < e
      → at (before l n) i ≡ Some (noted s Passes u) → b.since + MAX_TRANSMIT_WAIT ≤ s → ⊥
  tick-before e i s y u there going after less tick late =
      let opening = begun-opening l o b opened in
      let ask = subst (λ (m : ℕ). k < m) (length-before l n _ here) (at-below (before l n) k _ asked.stands) in
      let stands = at-still l n o _ _ here (omega (arith, not_later, ask)) opening.2 in
      let was = opens-begun (before (before l n) e) o b.since opening.0 opening.1 b.request opening.3 (at-still (before l n) e o _ _ there (omega (arith, not_later, after, less)) stands) in
      going-in-time (before l n) e o i s y u b early there (ap is_none going) was (omega (arith, not_later, after)) less tick late

  tick-after : (e i s : ℕ) (u : Note) (how : Ending) → Ends (before l n) o e how → k < e → e < i → i < n → at (before l n) i ≡ Some (noted s Passes u) → ⊥
  tick-after e i s u how ended later less soon tick =
      no-input (before l n) c k o e how a early asked own ended later (opened-still (follows-at l n _ legal here)) (waits-still (follows-at l n _ legal here))
      i _ less tick (comes (before (before l n) i) s u (follows-at (before l n) i _ early tick))
    where
      opened-still : Follows (before l n) t (Answers c k g) note → is_open (before l n) c ≡ true
      opened-still may = may.1

      waits-still : Follows (before l n) t (Answers c k g) note → pending (before l n) c ≡ Some k
      waits-still may = may.2

      comes : (v : List Noted) (s : ℕ) (u : Note) → Follows v s Passes u → MayCome v
      comes v s u may = may.0

  pub answered-in-time : (e : ℕ) (how : Ending) → Ends (before l n) o e how → k < e → (how ≡ TimedOut → ⊥) → IsInTime (entries l) b.since k n
  answered-in-time e how ended later other = λ i s after less tick.
      let there = entries-at l i _ tick in
      elim (leb_tells (b.since + MAX_TRANSMIT_WAIT) s) [
        | inl w ↦ absurd (late i s after less there.0 (at-still l n i _ _ here less there.1) w.1)
        | inr w ↦ let young = w.1 in omega (arith, young)
      ]
    where
      late : (i s : ℕ) → k < i → i < n → (u : Note) → at (before l n) i ≡ Some (noted s Passes u) → b.since + MAX_TRANSMIT_WAIT ≤ s → ⊥
      late i s after less u tick old =
          let end = ends-first (before l n) o e how ended in
          elim (leb_tells e i) [
            | inl w ↦ elim (eqb_tells e i) [
              | inl v ↦
                  let y : Noted = end.0 in
                  let stands = subst (λ (e : ℕ). at (before l n) e ≡ Some y) v.1 end.1 in
                  let same : y ≡ noted s Passes u = at-same (before l n) i y (noted s Passes u) stands tick in
                  other (ends-at-tick (before (before l n) e) o e s u how
                  (subst (λ (y : Noted). end_here (begun (before (before l n) e) o) (kept (before (before l n) e) o) e (heard_for (before (before l n) e) o) (turn (before (before l n) e) o y) ≡ Some how) same end.3))
              | inr v ↦ let le = w.1 in let not = v.1 in tick-after e i s u how ended later (omega (arith, le, not)) less tick
            ]
            | inr w ↦ tick-before e i s end.0 u end.1 end.2 after w.1 tick old
          ]
