-- What is served to an ask is its answer, in its moment, but where its connection is shut first.
use Rattle.std.proofs.Common.{◌≡◌, ◌⊎◌, ℕ, ◌<◌, ◌≤◌, Bool, true, false, not, ◌||◌, eqb, inl, inr, List, [], ◌∷◌, length, Option, Some, None, refl, sym, ap, subst, ◌∙◌, arith}
use Rattle.std.specs.Option.{option_map_or}
use Rattle.std.proofs.lemmas.Bool.Decides.{eqb_tells}
use Rattle.std.proofs.lemmas.Bool.{false≢true, and_parts}
use Rattle.ask_model.specs.declared.cause.Cause.{Cause}
use Rattle.ask_model.specs.declared.cause.Cause.TheVariants as C
use Rattle.ask_model.specs.Requests.{CoapRequest, Requests}
use Rattle.ask_model.specs.Views.{Ask}
use Rattle.journal_book.specs.Entries.{Grounds, Live, Kept, Fault, Deed, Opens, Asks, Sends, Hears, Passes, Answers, Shuts, Seals, Carries}
use Rattle.history_laws.specs.Readings.{Noted, Note, Plain, Serves, carries, are_copies, entries, at, before, noted}
use Rattle.history_laws.specs.Connections.{open_by, is_open, opened}
use Rattle.history_laws.specs.Exchanges.{opens_by}
use Rattle.history_laws.specs.Justified.{IsAsk, IsRefused, Caused, HasGrounds, reads_by, reads_in, reads, reads_open, pending, is_in_hand, Follows, Legal, AtRest, MayCome}
use Rattle.history_laws.specs.Laws.{IsDone}
use Rattle.history_laws.proofs.CallerLemmas.{at-before, at-below, at-entries, at-keeps, at-new, at-old, at-same, at-still, before-twice, follows-at, legal-before, none-some, open-below, range-passes, waited-or-answered}
use Rattle.history_claims.specs.Headline.{IsEntry}
use Rattle.history_claims.specs.Causes.{IsUnsent}
use Rattle.history_claims.specs.Once.{IsServedSo}
use Rattle.history_claims.proofs.Asking.{answers-ask}
use Rattle.history_claims.proofs.Entries.{entries-at}
use Rattle.history_claims.proofs.Hands.{open-back, opened-before, pending-back, reads-something}
use Rattle.history_claims.proofs.Pending.{senses, asks-something, unsent-in}
use Rattle.history_claims.proofs.Unsent.{none-for-other}

moments-same : (s t : ℕ) (d e : Deed) (u v : Note) → noted s d u ≡ noted t e v → s ≡ t
moments-same s t d e u v h = ap (λ (x : Noted). x.written.moment) h

notes-same : (s t : ℕ) (d e : Deed) (u v : Note) → noted s d u ≡ noted t e v → u ≡ v
notes-same s t d e u v h = ap (λ (x : Noted). x.note) h

serves-same : (js ns : List ℕ) → Serves js ≡ Serves ns → js ≡ ns
serves-same js ns e = cc

plain-serves : (js : List ℕ) → Plain ≡ Serves js → ⊥
plain-serves js e = cc

serves-opens : (js : List ℕ) (q : CoapRequest) → opens_by (Serves js) ≡ Some q → ⊥
serves-opens js q e = none-some q e

-- An entry is of a step that goes on, or its input, or a copy.
step-or-input : (l : List Noted) (t : ℕ) (d : Deed) (note : Note) → Follows l t d note → IsDone d ⊎ (MayCome l ⊎ (are_copies l ≡ true))
step-or-input l t (Opens c) note may = inr (inl may.0)
step-or-input l t (Asks c a) note may = inr (inl may.0)
step-or-input l t (Sends p b w) note may = inl tt
step-or-input l t (Hears p b) note may = inr (inl may.0)
step-or-input l t Passes note may = inr (inl may.0)
step-or-input l t (Answers c k g) note may = inl tt
step-or-input l t (Shuts c) note may = inl tt
step-or-input l t Seals note may = inr (inl may.0)
step-or-input l t (Carries n mark done) note may = inr (inr may.0)

no-ask-copied : (l : List Noted) (k t c : ℕ) (a : Ask) (note : Note) → are_copies l ≡ true → at l k ≡ Some (noted t (Asks c a) note) → ⊥
no-ask-copied [] k t c a note all e = absurd (none-some _ e)
no-ask-copied (x ∷ older) k t c a note all e =
    let both = and_parts (carries x.written.deed) (are_copies older) all in
    elim (at-old x older k _ e) [
      | inl w ↦ false≢true (subst (λ (v : Noted). carries v.written.deed ≡ true) w.1 both.0)
      | inr w ↦ no-ask-copied older k t c a note both.1 w
    ]

asks-no-shut : (s t c d : ℕ) (a : Ask) (u v : Note) → noted s (Asks c a) u ≡ noted t (Shuts d) v → ⊥
asks-no-shut s t c d a u v e = go (ap (λ (x : Noted). x.written.deed) e)
  where
    go : Asks c a ≡ Shuts d → ⊥
    go f = cc

-- A connection that isn't open any more was shut.
record WasShut (l : List Noted) (k c : ℕ) : Type 0 where
  number : ℕ
  moment : ℕ
  note : Note
  stands : at l number ≡ Some (noted moment (Shuts c) note)
  later : k ≤ number

shut-still : (x : Noted) (l : List Noted) (k c : ℕ) → WasShut l k c → WasShut (x ∷ l) k c
shut-still x l k c h = record { number = h.number; moment = h.moment; note = h.note; stands = at-keeps x l h.number _ h.stands; later = h.later }

shut-here : (l : List Noted) (k c t : ℕ) (d : Deed) (note : Note) → k ≤ length l → (is_open l c ≡ false → WasShut l k c) → open_by c d (is_open l c) ≡ false
    → WasShut (noted t d note ∷ l) k c
shut-here l k c t (Opens e) note le ih h = shut-still _ l k c (ih (closed (eqb e c) (is_open l c) h))
  where
    closed : (b o : Bool) → (b || o) ≡ false → o ≡ false
    closed true o f = absurd (false≢true (sym f))
    closed false o f = f
shut-here l k c t (Shuts e) note le ih h =
    elim (eqb_tells e c) [
      | inl w ↦
          record {
            number = length l;
            moment = t;
            note = note;
            stands = subst (λ (c : ℕ). at (noted t (Shuts e) note ∷ l) (length l) ≡ Some (noted t (Shuts c) note)) w.1 (at-new (noted t (Shuts e) note) l);
            later = le;
          }
      | inr w ↦ shut-still _ l k c (ih (rw (w.0) at h))
    ]
shut-here l k c t d note le ih h = shut-still _ l k c (ih h)

was-shut : (l : List Noted) (k c : ℕ) → k < length l → is_open (before l k) c ≡ true → is_open l c ≡ false → WasShut l k c
was-shut [] k c lt now h = absurd (omega (arith, lt))
was-shut (x ∷ older) k c lt now h =
    shut-here older k c x.written.moment x.written.deed x.note (omega (arith, lt))
    (λ closed.
    elim (eqb_tells k (length older)) [
      | inl w ↦ absurd (false≢true (sym closed ∙ (rw (w.0) at now)))
      | inr w ↦ let other = w.1 in was-shut older k c (omega (arith, lt, other)) (rw (w.0) at now) closed
    ])
    h

-- the ask k, which is served
module _ (l : List Noted) (k c t : ℕ) (a : Ask) (q : CoapRequest) (js : List ℕ) (legal : Legal l)
    (here : at l k ≡ Some (noted t (Asks c a) (Serves js))) (sense : a.sense ≡ Requests q) where
  module _ (n s : ℕ) where
    reads-no : (p : ℕ) → reads (before l n) k ≡ Some p → ⊥
    reads-no p r = go (at (before l n) k) refl r
      where
        go : (x : Option Noted) → at (before l n) k ≡ x → reads_in k x ≡ Some p → ⊥
        go None is e = none-some p e
        go (Some x) is e =
            none-some p (subst (λ (v : Noted). reads_by k v.note ≡ Some p) (at-same l k x (noted t (Asks c a) (Serves js)) (at-before l n k x is) here) e)

    not-refused : (cause : Cause) → IsRefused (before l n) k cause → ⊥
    not-refused cause h =
        let same = at-same l k _ _ (at-before l n k _ h.asked.stands) here in
        asks-something q cause h.status (sym h.sense ∙ (senses h.asked.moment t h.conn c h.ask a h.asked.note (Serves js) same ∙ sense))

    uncaused : (u j : ℕ) (cause : Cause) → Caused (before l n) u k cause j → ⊥
    uncaused u j C.Busy h =
        elim (h.1) [
          | inl away ↦ plain-serves js (notes-same away.moment t _ _ Plain (Serves js) (at-same l k _ _ (at-before l n k _ away.stands) here))
          | inr cut ↦ reads-no cut.0 cut.2
        ]
    uncaused u j C.Timeout h = reads-no h.0 h.1
    uncaused u j C.Reset h = reads-no h.0 h.1
    uncaused u j C.NotUnderstood h = reads-no h.0 h.1
    uncaused u j C.BadHttp h = not-refused C.BadHttp h.2
    uncaused u j C.NoMap h = not-refused C.NoMap h.2
    uncaused u j C.Method h = not-refused C.Method h.2
    uncaused u j C.Media h = not-refused C.Media h.2

    kept-grounds : (g : Grounds) → HasGrounds (before l n) s k g → (s ≡ t) × (g ≡ Kept js)
    kept-grounds (Live ns) (inl h) = absurd (reads-no h.0 h.4)
    kept-grounds (Live ns) (inr h) = absurd (reads-no h.0 h.4)
    kept-grounds (Kept ns) h =
        let same = at-same l k _ _ (at-before l n k _ h.2) here in (
          moments-same s t _ _ (Serves ns) (Serves js) same,
          ap Kept (serves-same ns js (notes-same s t _ _ (Serves ns) (Serves js) same)),
        )
    kept-grounds (Fault cause j) h = absurd (uncaused s j cause h)

  given-so : (n s d : ℕ) (g : Grounds) → IsEntry (entries l) n s (Answers d k g) → (s ≡ t) × (g ≡ Kept js)
  given-so n s d g e = kept-grounds n s g (answers-ask l n s d k g legal e).0.grounds

  unsent : IsUnsent (entries l) k k k q
  unsent =
      unsent-in l k k k q legal (λ s i p m late. none-for-other l k c t a (Serves js) legal here (λ r e. serves-opens js r e) s i p m)
      (λ s i p m late. none-for-other l k c t a (Serves js) legal here (λ r e. serves-opens js r e) s i p m)

  abbrev IsGiven : Type 0
  IsGiven = (n : ℕ) × IsEntry (entries l) n t (Answers c k (Kept js))

  given-at : (n s : ℕ) (g : Grounds) (note : Note) → at l n ≡ Some (noted s (Answers c k g) note) → IsGiven
  given-at n s g note stands =
      let e = at-entries l n _ stands in
      let it = given-so n s c g e in
      (n, subst (λ (s : ℕ). IsEntry (entries l) n s (Answers c k (Kept js))) it.0 (subst (λ (g : Grounds). IsEntry (entries l) n s (Answers c k g)) it.1 e))

  abbrev IsShutFirst : Type 0
  IsShutFirst =
      (n : ℕ) × (s : ℕ) × (k < n) × IsEntry (entries l) n s (Shuts c)
      × ((i u : ℕ) (d : Deed) → k < i → i < n → IsEntry (entries l) i u d → IsDone d)

  reads-here : (n : ℕ) → reads (before l n) k ≡ None
  reads-here n = go (reads (before l n) k) refl
    where
      go : (r : Option ℕ) → reads (before l n) k ≡ r → reads (before l n) k ≡ None
      go None is = is
      go (Some p) is = absurd (reads-no n 0 p is)

  -- it waits till its connection is shut: so no input comes between
  module _ (n s : ℕ) (note : Note) (shut : at l n ≡ Some (noted s (Shuts c) note)) (lt : k < n)
      (waits : pending (before l n) c ≡ Some k) where
    early : Legal (before l n)
    early = legal-before l n legal

    abbrev ask : IsAsk (before l n) k c a
    ask = record { moment = t; note = Serves js; stands = at-still l n k _ _ shut lt here }

    open-now : is_open (before l n) c ≡ true
    open-now = was (follows-at l n _ legal shut)
      where
        was : Follows (before l n) s (Shuts c) note → is_open (before l n) c ≡ true
        was may = may.1

    open-then : is_open (before l k) c ≡ true
    open-then = was (follows-at l k _ legal here)
      where
        was : Follows (before l k) t (Asks c a) (Serves js) → is_open (before l k) c ≡ true
        was may = may.1

    none-between : (i : ℕ) (x : Noted) → k < i → i < n → at l i ≡ Some x → MayCome (before l i) → ⊥
    none-between i x after less there come =
        let twice = before-twice l n i _ shut less in
        let inner = at-still l n i _ _ shut less there in
        let sooner = before-twice l i k _ there after in
        let below = open-below (before l k) (legal-before l k legal) c open-then in
        let more = opened-before (before l i) k (legal-before l i legal) in
        let size : c < opened (before l i) = omega (arith, subst (λ (v : List Noted). c < opened v) (sym sooner) below, more) in
        let there_open = open-back (before l n) i c early (subst (λ (v : List Noted). c < opened v) (sym twice) size) open-now in
        let asked : IsAsk (before (before l n) i) k c a =
        record { moment = t; note = Serves js; stands = at-still (before l n) i k _ _ inner after ask.stands } in
        let still = pending-back (before l n) i c k a early waits asked in
        reads-something (before l i) k c (legal-before l i legal) come.1
        (subst (λ (v : List Noted). is_open v c ≡ true) twice there_open)
        (subst (λ (v : List Noted). pending v c ≡ Some k) twice still) (reads-here i)

    done-between : (i u : ℕ) (d : Deed) → k < i → i < n → IsEntry (entries l) i u d → IsDone d
    done-between i u d after less e =
        let there = entries-at l i _ e in
        elim (step-or-input (before l i) u d there.0 (follows-at l i _ legal there.1)) [
          | inl done ↦ done
          | inr (inl come) ↦ absurd (none-between i _ after less there.1 come)
          | inr (inr copies) ↦ absurd (no-ask-copied (before l i) k t c a (Serves js) copies (at-still l i k _ _ there.1 after here))
        ]

  given : AtRest l → IsGiven ⊎ IsShutFirst
  given rest = by (is_open l c) refl
    where
      asked : IsAsk l k c a
      asked = record { moment = t; note = Serves js; stands = here }

      open-then : is_open (before l k) c ≡ true
      open-then = was (follows-at l k _ legal here)
        where
          was : Follows (before l k) t (Asks c a) (Serves js) → is_open (before l k) c ≡ true
          was may = may.1

      reads-now : reads l k ≡ None
      reads-now = subst (λ (v : Option Noted). reads_in k v ≡ None) (sym here) refl

      shut : WasShut l k c → IsGiven ⊎ IsShutFirst
      shut it = elim (eqb_tells k it.number) [
        | inl w ↦ absurd (asks-no-shut t it.moment c c a (Serves js) it.note (at-same l it.number _ _ (subst (λ (i : ℕ). at l i ≡ Some (noted t (Asks c a) (Serves js))) w.1 here) it.stands))
        | inr w ↦
            let le = it.later in
            let not = w.1 in
            let lt : k < it.number = omega (arith, le, not) in
            let before_it : IsAsk (before l it.number) k c a = record { moment = t; note = Serves js; stands = at-still l it.number k _ _ it.stands lt here } in
            elim (waited-or-answered (before l it.number) k c a (legal-before l it.number legal) before_it) [
              | inl waits ↦
                  inr (it.number, it.moment, lt, at-entries l it.number _ it.stands, done-between it.number it.moment it.note it.stands lt waits)
              | inr u ↦ inl (given-at u.0 u.2.moment u.1 u.2.note (at-before l it.number u.0 _ u.2.stands))
            ]
      ]

      by : (b : Bool) → is_open l c ≡ b → IsGiven ⊎ IsShutFirst
      by true now =
          elim (waited-or-answered l k c a legal asked) [
            | inl waits ↦ absurd (reads-something l k c legal rest now waits reads-now)
            | inr u ↦ inl (given-at u.0 u.2.moment u.1 u.2.note u.2.stands)
          ]
      by false closed = shut (was-shut l k c (at-below l k _ here) open-then closed)

  pub served-so : AtRest l → IsServedSo (entries l) k c t q js
  served-so rest = record { answered = given rest; alone = given-so; unsent = unsent }
