-- Who is told that exchanges have ended: all who read them.
use Rattle.std.proofs.Common.{◌≡◌, ℕ, inl, inr, Bool, true, false, cond, List, [], ◌∷◌, map, filter, Option, Some, None, is_some, option_map, refl, sym, ap, ◌∙◌}
use Rattle.std.specs.List.{AllByRecursion, Contains, list_any, cons_option}
use Rattle.std.proofs.lemmas.Bool.{false≢true, or_right}
use Rattle.std.proofs.lemmas.Bool.Decides.{eqb_tells}
use Rattle.journal_book.specs.Entries.{Live, Asks}
use Rattle.history_laws.specs.Progress.{Ending, Whole, NotUnderstood, Reset, TimedOut, Turned, Renewed}
use Rattle.history_laws.specs.Readings.{Noted, noted}
use Rattle.history_laws.specs.Transmissions.{sent_last}
use Rattle.history_laws.specs.Justified.{Ends}
use Rattle.history_laws.proofs.CallerLemmas.{all-more, any-find, eqb-itself, find-some}
use Rattle.exchange_model.specs.declared.kept.Exchange.{Exchange}
use Rattle.exchange_model.specs.declared.kept.Reader.{Reader}
use Rattle.exchange_model.specs.Resting.{HasExchange}
use Rattle.exchange_model.specs.Matters.{Matter, Nothing, Tells, Goes, Over, Starts}
use Rattle.exchange_model.specs.Calls.{Telling, grounds_for, tell_of, is_reader_of, told_for, timeout_for, read_by, told_late}
use Rattle.exchange_model.proofs.Bare.{bare_ending, numbers-bare}
use Rattle.exchange_model.proofs.Grounds.{GroundsFor, IsTold}
use Rattle.exchange_model.proofs.Readers.{ReaderIn}
use Rattle.exchange_model.proofs.Telling.{readers_in, IsAmong}

pub is-told : (l : List Noted) (x : Telling) → ReaderIn l x.reader → GroundsFor l x.reader.ask x.reader.opening x.grounds → IsTold l x
is-told l x a g = record { asked = noted a.moment (Asks x.reader.conn a.ask) a.note; stands = a.stands; reads = a.reads; grounds = g }

-- on what grounds: as it ended, whether the replies are known with what they reply to, or without

pub grounds-bare : (how : Ending) (n : ℕ) (sending : Option ℕ) (r : Reader) → grounds_for how n sending r ≡ grounds_for (bare_ending how) n sending r
grounds-bare (Whole w rs) n sending r = ap Live (sym (numbers-bare rs))
grounds-bare (Renewed s u) n sending r = refl
grounds-bare NotUnderstood n sending r = refl
grounds-bare Reset n sending r = refl
grounds-bare TimedOut n sending r = refl
grounds-bare Turned n sending r = refl

pub grounds-as : (l : List Noted) (o n : ℕ) (how : Ending) (sending : Option ℕ) (r : Reader) → Ends l o n how → sent_last l o ≡ sending
    → GroundsFor l r.ask o (grounds_for how n sending r)
grounds-as l o n (Whole w rs) sending r h e = inl (n, w, rs, h, refl)
grounds-as l o n (Renewed s u) sending r h e = inr (n, s, u, h, refl)
grounds-as l o n NotUnderstood sending r h e = h
grounds-as l o n Reset sending r h e = h
grounds-as l o n TimedOut None r h e = (inr (e, refl), (n, h))
grounds-as l o n TimedOut (Some i) r h e = (inl e, (n, h))
grounds-as l o n Turned sending r h e = (refl, (n, h))

-- of one that ends

readers-told : (how : Ending) (n : ℕ) (sending : Option ℕ) (rs : List Reader) → readers_in (map (tell_of how n sending) rs) ≡ rs
readers-told how n sending [] = refl
readers-told how n sending (r ∷ rs) = ap (λ (xs : List Reader). r ∷ xs) (readers-told how n sending rs)

-- the exchange that ends, if one does
abbrev pub over_in : Matter → Option Exchange
over_in (Over e how) = Some e
over_in matter = None

-- whether the exchange is read by it, if there is one
abbrev pub reads_it : Option Exchange → Reader → Bool
reads_it None r = false
reads_it (Some e) r = is_reader_of e r

none-read : (rs : List Reader) → [] ≡ filter (λ (r : Reader). false) rs
none-read [] = refl
none-read (r ∷ rs) = none-read rs

pub readers-for : (n : ℕ) (x : Matter) (rs : List Reader) → readers_in (told_for n x rs) ≡ filter (reads_it (over_in x)) rs
readers-for n Nothing rs = none-read rs
readers-for n (Tells r found) rs = none-read rs
readers-for n (Starts r e progress) rs = none-read rs
readers-for n (Goes e progress) rs = none-read rs
readers-for n (Over e how) rs = readers-told how n e.sending (filter (is_reader_of e) rs)

-- those who read it are told
module _ (f : Reader → Telling) (own : (r : Reader) → (f r).reader ≡ r) where
  among-for-one : (e : Exchange) (rs : List Reader)
      → AllByRecursion (λ (r : Reader). e.opening ≡ r.opening → IsAmong (map f (filter (is_reader_of e) rs)) r.ask) rs
  among-for-one e [] = tt
  among-for-one e (r ∷ rs) = (
    λ same. rw (same, eqb-itself r.opening) (inl (ap (λ (s : Reader). s.ask) (own r))),
    all-more (λ (s : Reader). e.opening ≡ s.opening → IsAmong (map f (filter (is_reader_of e) rs)) s.ask) _ (λ s ih same. later (is_reader_of e r) s.ask (ih same)) rs (among-for-one e rs),
  )
    where
      later : (b : Bool) (k : ℕ) → IsAmong (map f (filter (is_reader_of e) rs)) k
          → IsAmong (map f (cond b (r ∷ filter (is_reader_of e) rs) (filter (is_reader_of e) rs))) k
      later true k h = inr h
      later false k h = h

abbrev pub ended_list : Option Exchange → List Exchange
ended_list None = []
ended_list (Some e) = e ∷ []

none-among : (rs : List Reader) → AllByRecursion (λ (r : Reader). ⊥ → ⊥) rs
none-among [] = tt
none-among (r ∷ rs) = (λ h. h, none-among rs)

pub among-for : (n : ℕ) (x : Matter) (rs : List Reader)
    → AllByRecursion (λ (r : Reader). HasExchange (ended_list (over_in x)) r.opening → IsAmong (told_for n x rs) r.ask) rs
among-for n Nothing rs = none-among rs
among-for n (Tells r found) rs = none-among rs
among-for n (Starts r e progress) rs = none-among rs
among-for n (Goes e progress) rs = none-among rs
among-for n (Over e how) rs =
    all-more (λ (r : Reader). e.opening ≡ r.opening → IsAmong (told_for n (Over e how) rs) r.ask) _ (λ r h k. by r h k) rs (among-for-one (tell_of how n e.sending) (λ r. refl) e rs)
  where
    by : (r : Reader) → (e.opening ≡ r.opening → IsAmong (told_for n (Over e how) rs) r.ask) → HasExchange (e ∷ []) r.opening → IsAmong (told_for n (Over e how) rs) r.ask
    by r h (inl same) = h same
    by r h (inr none) = absurd none

pub for-all : (P : Telling → Type 0) (Q : Reader → Type 0) (n : ℕ) (x : Matter) (rs : List Reader)
    → ((e : Exchange) (how : Ending) (r : Reader) → x ≡ Over e how → Q r → r.opening ≡ e.opening → P (tell_of how n e.sending r)) → AllByRecursion Q rs → AllByRecursion P (told_for n x rs)
for-all P Q n Nothing rs h a = tt
for-all P Q n (Tells r found) rs h a = tt
for-all P Q n (Starts r e progress) rs h a = tt
for-all P Q n (Goes e progress) rs h a = tt
for-all P Q n (Over e how) [] h a = tt
for-all P Q n (Over e how) (r ∷ rs) h a = elim (eqb_tells r.opening e.opening) [
  | inl w ↦ rw (w.0) (h e how r refl a.0 w.1, for-all P Q n (Over e how) rs h a.1)
  | inr w ↦ rw (w.0) (for-all P Q n (Over e how) rs h a.1)
]

-- of all that end at a tick

-- whether it reads one of them
abbrev pub late_reads : List Exchange → Reader → Bool
late_reads es r = is_some (read_by es r)

pub readers-late : (es : List Exchange) (rs : List Reader) → readers_in (told_late es rs) ≡ filter (late_reads es) rs
readers-late es [] = refl
readers-late es (r ∷ rs) = by (read_by es r) (readers-late es rs)
  where
    by : (v : Option Exchange) → readers_in (told_late es rs) ≡ filter (late_reads es) rs
        → readers_in (cons_option (option_map (timeout_for r) v) (told_late es rs)) ≡ cond (is_some v) (r ∷ filter (late_reads es) rs) (filter (late_reads es) rs)
    by None ih = ih
    by (Some e) ih = ap (λ (xs : List Reader). r ∷ xs) ih

has-any : (es : List Exchange) (r : Reader) → HasExchange es r.opening → list_any (λ (e : Exchange). is_reader_of e r) es ≡ true
has-any [] r h = absurd h
has-any (e ∷ es) r (inl same) = rw (same, eqb-itself r.opening) refl
has-any (e ∷ es) r (inr h) = rw (has-any es r h) (or_right (is_reader_of e r) true refl)

pub among-late : (es : List Exchange) (rs : List Reader) → AllByRecursion (λ (r : Reader). HasExchange es r.opening → IsAmong (told_late es rs) r.ask) rs
among-late es [] = tt
among-late es (r ∷ rs) = (
  λ h. here (read_by es r) (sym (any-find (λ (e : Exchange). is_reader_of e r) es) ∙ has-any es r h),
  all-more (λ (s : Reader). HasExchange es s.opening → IsAmong (told_late es rs) s.ask) _ (λ s ih h. later (read_by es r) s.ask (ih h)) rs (among-late es rs),
)
  where
    here : (v : Option Exchange) → is_some v ≡ true → IsAmong (cons_option (option_map (timeout_for r) v) (told_late es rs)) r.ask
    here None h = absurd (false≢true h)
    here (Some e) h = inl refl

    later : (v : Option Exchange) (k : ℕ) → IsAmong (told_late es rs) k → IsAmong (cons_option (option_map (timeout_for r) v) (told_late es rs)) k
    later None k h = h
    later (Some e) k h = inr h

pub late-all : (P : Telling → Type 0) (Q : Reader → Type 0) (es : List Exchange) (rs : List Reader)
    → ((e : Exchange) (r : Reader) → Contains es e → Q r → r.opening ≡ e.opening → P (timeout_for r e)) → AllByRecursion Q rs → AllByRecursion P (told_late es rs)
late-all P Q es [] h a = tt
late-all P Q es (r ∷ rs) h a = by (read_by es r) refl (late-all P Q es rs h a.1)
  where
    same : (e : Exchange) → is_reader_of e r ≡ true → r.opening ≡ e.opening
    same e k = elim (eqb_tells r.opening e.opening) [ inl w ↦ w.1 | inr w ↦ absurd (false≢true (sym w.0 ∙ k)) ]

    by : (v : Option Exchange) → read_by es r ≡ v → AllByRecursion P (told_late es rs) → AllByRecursion P (cons_option (option_map (timeout_for r) v) (told_late es rs))
    by None is ih = ih
    by (Some e) is ih =
        let found = find-some (λ (e : Exchange). is_reader_of e r) es e is in
        (h e r found.0 a.0 (same e found.1), ih)
