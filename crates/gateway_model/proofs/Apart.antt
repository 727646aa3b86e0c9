-- The answers that a step gives wait for different connections, which are open.
use Rattle.std.proofs.Common.{◌≡◌, ◌≢◌, ℕ, zero, suc, ◌+◌, ◌<◌, ◌≤◌, Bool, true, false, eqb, inl, inr, List, [], ◌∷◌, ◌++◌, length, drop, Option, Some, refl, sym, ap, subst, ◌∙◌, arith, append_assoc, append-nil, length-append}
use Rattle.std.specs.List.{AllByRecursion, slice_get}
use Rattle.std.proofs.lemmas.Option.{slice_get_within}
use Rattle.std.proofs.Math.Seq.{drop-append_seam}
use Rattle.std.proofs.lemmas.Bool.Decides.{eqb_tells}
use Rattle.std.proofs.lemmas.Bool.{or_right}
use Rattle.journal_book.specs.Entries.{Grounds, Deed, Opens, Asks, Sends, Hears, Passes, Answers, Shuts, Seals, Carries, Written}
use Rattle.history_laws.specs.Readings.{Noted, Note, entries, at, before}
use Rattle.history_laws.specs.Connections.{is_open, open_by}
use Rattle.history_laws.specs.Justified.{Follows, Legal, Stands, pending}
use Rattle.history_laws.proofs.CallerLemmas.{at-below, at-entries, at-new, follows-at, some-is}
use Rattle.history_claims.specs.Headline.{IsEntry}
use Rattle.history_claims.proofs.CallerLemmas.{answers-an-ask, asked-in-turn, entries-at, entry-keeps}
use Rattle.exchange_model.specs.declared.kept.Conn.{Conn}
use Rattle.exchange_model.specs.State.{State}
use Rattle.exchange_model.specs.Resting.{HasConn}
use Rattle.exchange_model.specs.Keeping.{Kept}
use Rattle.exchange_model.specs.Growing.{Adds, by_client, HasNoClient}
use Rattle.exchange_model.proofs.CallerLemmas.{conns-tell, kept-stands}
use Rattle.exchange_core.specs.Values.{CoreValue, Untaken, written, answered_by, answered_in, stepped}
use Rattle.gateway_model.specs.Waiting.{IsOpen, AreApart, AreServed}
use Rattle.gateway_model.proofs.Order.{all-append}

-- entries at their places

pub at-seam : (front : List Written) (w : Written) (ws : List Written) → slice_get (front ++ w ∷ ws) (length front) ≡ Some w
at-seam [] w ws = refl
at-seam (x ∷ front) w ws = at-seam front w ws

-- Entries that no client made have no ask among them, and shut nothing.
abbrev IsNone : List Written → ℕ → ℕ → Type 0
IsNone h i m = (j s : ℕ) (d : Deed) → i ≤ j → j < m → IsEntry h j s d → by_client d ≡ false

none-inside : (more rest : List Written) → HasNoClient more → (j s : ℕ) (d : Deed) → j < length more → IsEntry (more ++ rest) j s d
    → by_client d ≡ false
none-inside [] rest free j s d lt e = absurd (omega (arith, lt))
none-inside (w ∷ more) rest free zero s d lt e =
    subst (λ (v : Written). by_client v.deed ≡ false) (some-is w (written s d) e) free.0
none-inside (w ∷ more) rest free (suc j) s d lt e = none-inside more rest free.1 j s d (omega (arith, lt)) e

none-after : (old more rest : List Written) → HasNoClient more
    → IsNone (old ++ (more ++ rest)) (length old) (length old + length more)
none-after [] more rest free j s d ge lt e = none-inside more rest free j s d (omega (arith, lt)) e
none-after (x ∷ old) more rest free zero s d ge lt e = absurd (omega (arith, ge))
none-after (x ∷ old) more rest free (suc j) s d ge lt e =
    none-after old more rest free j s d (omega (arith, ge)) (omega (arith, lt)) e

not-both : true ≡ false → ⊥
not-both e = cc

-- answers with no ask in between are to different connections

module _ (h : List Written) (stands : Stands h) where
  other-at : (i s c k : ℕ) (g : Grounds) (n t : ℕ) (d : Deed) → IsEntry h i s (Answers c k g) → i < n
      → IsNone h (suc i) n → IsEntry h n t d → AllByRecursion (λ (v : Untaken). c ≢ v.conn) (answered_by n d)
  other-at i s c k g n t (Answers d o e) here lt none there =
      let ask = answers-an-ask h n t d o e stands there in (
        (λ same.
            let turn : i < o = asked-in-turn h i n s t c k o g e stands here (subst (λ (d : ℕ). IsEntry h n t (Answers d o e)) (sym same) there) lt in
            not-both (none o ask.1.0 (Asks d ask.1.1) (omega (arith, turn)) ask.0 ask.1.2)),
        tt,
      )
  other-at i s c k g n t (Opens d) here lt none there = tt
  other-at i s c k g n t (Asks d a) here lt none there = tt
  other-at i s c k g n t (Sends p b w) here lt none there = tt
  other-at i s c k g n t (Hears p b) here lt none there = tt
  other-at i s c k g n t Passes here lt none there = tt
  other-at i s c k g n t (Shuts d) here lt none there = tt
  other-at i s c k g n t Seals here lt none there = tt
  other-at i s c k g n t (Carries number mark done) here lt none there = tt

  others-in : (i s c k : ℕ) (g : Grounds) (front ws rest : List Written) → IsEntry h i s (Answers c k g)
      → h ≡ front ++ (ws ++ rest) → i < length front → IsNone h (suc i) (length front + length ws)
      → AllByRecursion (λ (v : Untaken). c ≢ v.conn) (answered_in (length front) ws)
  others-in i s c k g front [] rest here is lt none = tt
  others-in i s c k g front (w ∷ ws) rest here is lt none =
      let P : Untaken → Type 0 = λ (v : Untaken). c ≢ v.conn in
      let there : slice_get h (length front) ≡ Some w = ap (λ (q : List Written). slice_get q (length front)) is ∙ at-seam front w (ws ++ rest) in
      let len : length (front ++ w ∷ []) ≡ length front + 1 = length-append front (w ∷ []) in
      let later : AllByRecursion P (answered_in (length (front ++ w ∷ [])) ws) =
      others-in i s c k g (front ++ w ∷ []) ws rest here
      (is ∙ sym (append_assoc front (w ∷ []) (ws ++ rest)))
      (omega (arith, len, lt))
      (λ j t d ge below e. none j t d ge (omega (arith, len, below)) e) in
      all-append P (answered_by (length front) w.deed) (answered_in (length front + 1) ws)
      (other-at i s c k g (length front) w.moment w.deed here lt
      (λ j t d ge below e. none j t d ge (omega (arith, below)) e) there)
      (subst (λ (n : ℕ). AllByRecursion P (answered_in n ws)) len later)

  apart-with : (old : List Written) (w : Written) (ws rest : List Written) → h ≡ old ++ (w ∷ ws ++ rest) → HasNoClient (w ∷ ws)
      → AreApart (answered_in (length (old ++ w ∷ [])) ws) → AreApart (answered_in (length old) (w ∷ ws))
  apart-with old w ws rest is free after = go w.deed refl
    where
      len : length (old ++ w ∷ []) ≡ length old + 1
      len = length-append old (w ∷ [])

      longer : h ≡ (old ++ w ∷ []) ++ (ws ++ rest)
      longer = is ∙ sym (append_assoc old (w ∷ []) (ws ++ rest))

      there : slice_get h (length old) ≡ Some w
      there = ap (λ (q : List Written). slice_get q (length old)) is ∙ at-seam old w (ws ++ rest)

      later : AreApart (answered_in (length old + 1) ws)
      later = subst (λ (n : ℕ). AreApart (answered_in n ws)) len after

      none : IsNone h (length old) (length old + suc (length ws))
      none = subst (λ (q : List Written). IsNone q (length old) (length old + suc (length ws))) (sym is) (none-after old (w ∷ ws) rest free)

      others : (c k : ℕ) (g : Grounds) → w.deed ≡ Answers c k g
          → AllByRecursion (λ (v : Untaken). c ≢ v.conn) (answered_in (length old + 1) ws)
      others c k g e =
          subst (λ (n : ℕ). AllByRecursion (λ (v : Untaken). c ≢ v.conn) (answered_in n ws)) len
          (others-in (length old) w.moment c k g (old ++ w ∷ []) ws rest
          (there ∙ ap (λ (d : Deed). Some (written w.moment d)) e)
          longer
          (omega (arith, len))
          (λ j t d ge below f. none j t d (omega (arith, ge)) (omega (arith, len, below)) f))

      go : (d : Deed) → w.deed ≡ d → AreApart (answered_by (length old) d ++ answered_in (length old + 1) ws)
      go (Answers c k g) e = (others c k g e, later)
      go (Opens c) e = later
      go (Asks c a) e = later
      go (Sends p b t) e = later
      go (Hears p b) e = later
      go Passes e = later
      go (Shuts c) e = later
      go Seals e = later
      go (Carries number mark done) e = later

  -- Entries without an ask among them answer each connection at most once.
  apart-in : (old more rest : List Written) → h ≡ old ++ (more ++ rest) → HasNoClient more
      → AreApart (answered_in (length old) more)
  apart-in old [] rest is free = tt
  apart-in old (w ∷ ws) rest is free =
      apart-with old w ws rest is free
      (apart-in (old ++ w ∷ []) ws rest (is ∙ sym (append_assoc old (w ∷ []) (ws ++ rest))) free.1)

pub apart-answers : (h old more rest : List Written) → Stands h → h ≡ old ++ (more ++ rest) → HasNoClient more
    → AreApart (answered_in (length old) more)
apart-answers h old more rest stands is free = apart-in h stands old more rest is free

-- a connection that is answered is open, until it is shut

open-still : (c : ℕ) (d : Deed) (old : Bool) → (d ≡ Shuts c → ⊥) → old ≡ true → open_by c d old ≡ true
open-still c (Opens d) old not e = rw e (or_right (eqb d c) true refl)
open-still c (Shuts d) old not e =
    elim (eqb_tells d c) [
      | inl w ↦ absurd (not (ap Shuts w.1))
      | inr w ↦ rw (w.0) e
    ]
open-still c (Asks d a) old not e = e
open-still c (Sends p b t) old not e = e
open-still c (Hears p b) old not e = e
open-still c Passes old not e = e
open-still c (Answers d k g) old not e = e
open-still c Seals old not e = e
open-still c (Carries number mark done) old not e = e

open-after : (l : List Noted) (n c k : ℕ) (g : Grounds) (t : ℕ) (note : Note)
    → at l n ≡ Some (record { written = written t (Answers c k g); note = note }) → is_open (before l n) c ≡ true
    → ((j s : ℕ) → n < j → IsEntry (entries l) j s (Shuts c) → ⊥) → is_open l c ≡ true
open-after [] n c k g t note e open_then free = absurd cc
open-after (y ∷ older) n c k g t note e open_then free =
    elim (eqb_tells n (length older)) [
      | inl w ↦
          let same : y ≡ record { written = written t (Answers c k g); note = note } = some-is y _ (rw (w.0) at e) in
          let was : is_open older c ≡ true = rw (w.0) at open_then in
          subst (λ (v : Noted). open_by c v.written.deed (is_open older c) ≡ true) (sym same) was
      | inr w ↦
          let there : at older n ≡ Some (record { written = written t (Answers c k g); note = note }) = rw (w.0) at e in
          let was : is_open (before older n) c ≡ true = rw (w.0) at open_then in
          open-still c y.written.deed (is_open older c)
          (λ shut. free (length older) y.written.moment (at-below older n _ there)
          (at-entries (y ∷ older) (length older) (record { written = written y.written.moment (Shuts c); note = y.note })
          (newest shut)))
          (open-after older n c k g t note there was (λ j s lt f. free j s lt (entry-keeps y older j s (Shuts c) f)))
    ]
  where
    newest : y.written.deed ≡ Shuts c
        → at (y ∷ older) (length older) ≡ Some (record { written = written y.written.moment (Shuts c); note = y.note })
    newest shut = at-new y older ∙ ap (λ (d : Deed). Some (record { written = written y.written.moment d; note = y.note })) shut

has-id : (cs : List Conn) (c : ℕ) (p : Option ℕ) → HasConn cs c p → IsOpen c cs
has-id [] c p h = absurd h
has-id (x ∷ cs) c p (inl h) = (zero, omega arith, h.0)
has-id (x ∷ cs) c p (inr h) = let r = has-id cs c p h in (suc r.0, omega (arith, r.1), r.2)

answer-open : (l : List Noted) (t c k : ℕ) (g : Grounds) (note : Note) → Follows l t (Answers c k g) note → is_open l c ≡ true
answer-open l t c k g note may = may.1

module _ (S : State) (kept : Kept S) where
  open-at : (m n t c k : ℕ) (g : Grounds) → length S.entries ≡ m → IsEntry S.entries n t (Answers c k g) → IsNone S.entries n m
      → IsOpen c S.conns
  open-at m n t c k g long e none =
      let l : List Noted = kept.reading in
      let same : entries l ≡ S.entries = kept.rests.reads.entries_are in
      let legal : Legal l = kept.rests.reads.legal in
      let there = entries-at l n _ (subst (λ (h : List Written). IsEntry h n t (Answers c k g)) (sym same) e) in
      let was : is_open (before l n) c ≡ true = answer-open (before l n) t c k g there.0 (follows-at l n _ legal there.1) in
      let is : is_open l c ≡ true =
      open-after l n c k g t there.0 there.1 was
      (λ j s lt f.
      let there : IsEntry S.entries j s (Shuts c) = subst (λ (h : List Written). IsEntry h j s (Shuts c)) same f in
      let within = slice_get_within S.entries j _ there in
      not-both (none j s (Shuts c) (omega (arith, lt)) (omega (arith, within, long)) there)) in
      has-id S.conns c (pending l c) ((conns-tell l S c kept.rests.reads).0 is)

  opens-in : (front ws : List Written) → S.entries ≡ front ++ ws → IsNone S.entries (length front) (length front + length ws)
      → AllByRecursion (λ (u : Untaken). IsOpen u.conn S.conns) (answered_in (length front) ws)
  opens-in front [] is none = tt
  opens-in front (w ∷ ws) is none =
      let P : Untaken → Type 0 = λ (u : Untaken). IsOpen u.conn S.conns in
      let len : length (front ++ w ∷ []) ≡ length front + 1 = length-append front (w ∷ []) in
      let later : AllByRecursion P (answered_in (length (front ++ w ∷ [])) ws) =
      opens-in (front ++ w ∷ []) ws (is ∙ sym (append_assoc front (w ∷ []) ws))
      (λ j t d ge below e. none j t d (omega (arith, len, ge)) (omega (arith, len, below)) e) in
      all-append P (answered_by (length front) w.deed) (answered_in (length front + 1) ws)
      (here w.deed refl)
      (subst (λ (n : ℕ). AllByRecursion P (answered_in n ws)) len later)
    where
      there : slice_get S.entries (length front) ≡ Some w
      there = ap (λ (q : List Written). slice_get q (length front)) is ∙ at-seam front w ws

      long : length S.entries ≡ length front + suc (length ws)
      long = ap length is ∙ length-append front (w ∷ ws)

      here : (d : Deed) → w.deed ≡ d → AllByRecursion (λ (u : Untaken). IsOpen u.conn S.conns) (answered_by (length front) d)
      here (Answers c k g) e = (
        open-at (length front + suc (length ws)) (length front) w.moment c k g long
            (there ∙ ap (λ (d : Deed). Some (written w.moment d)) e) none,
        tt,
      )
      here (Opens c) e = tt
      here (Asks c a) e = tt
      here (Sends p b t) e = tt
      here (Hears p b) e = tt
      here Passes e = tt
      here (Shuts c) e = tt
      here Seals e = tt
      here (Carries number mark done) e = tt

-- After a step of a datagram or a tick the answers that wait are of different connections, which are open.
pub served-after : (t : ℕ) (old new : CoreValue) (S : State) → old.untaken ≡ [] → new ≡ stepped S old
    → (x : Adds t old.state S) → HasNoClient x.more → Kept new.state → AreServed new
served-after t old new S none e x free kept_new =
    let n : ℕ = length old.state.entries in
    let kept : Kept S = subst (λ (v : CoreValue). Kept v.state) e kept_new in
    let more : drop n S.entries ≡ x.more = ap (drop n) x.entries ∙ drop-append_seam old.state.entries x.more in
    let waiting : new.untaken ≡ answered_in n x.more =
    ap (λ (v : CoreValue). v.untaken) e
    ∙ (ap (λ (us : List Untaken). us ++ answered_in n (drop n S.entries)) none
    ∙ ap (answered_in n) more) in
    let is : S.entries ≡ old.state.entries ++ (x.more ++ []) =
    x.entries ∙ ap (λ (ws : List Written). old.state.entries ++ ws) (sym (append-nil x.more)) in
    let clear : IsNone S.entries n (n + length x.more) =
    subst (λ (h : List Written). IsNone h n (n + length x.more)) (sym is) (none-after old.state.entries x.more [] free) in
    let conns : S.conns ≡ new.state.conns = ap (λ (v : CoreValue). v.state.conns) (sym e) in
    record {
      apart = subst AreApart (sym waiting) (apart-answers S.entries old.state.entries x.more [] (kept-stands S kept) is free);
      opened = subst (λ (us : List Untaken). AllByRecursion (λ (u : Untaken). IsOpen u.conn new.state.conns) us) (sym waiting)
          (subst (λ (cs : List Conn). AllByRecursion (λ (u : Untaken). IsOpen u.conn cs) (answered_in n x.more)) conns
          (opens-in S kept old.state.entries x.more x.entries clear));
    }
