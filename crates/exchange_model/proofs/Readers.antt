-- Who waits for an exchange asked for it, in the order of asks, each on a connection of its own.
use Rattle.std.proofs.Common.{◌≡◌, ◌≢◌, ℕ, ◌<◌, Bool, true, false, not, eqb, cond, inl, inr, List, [], ◌∷◌, ◌++◌, length, filter, Some, None, refl, sym, ap, subst, ◌∙◌, arith}
use Rattle.std.specs.List.{AllByRecursion}
use Rattle.std.proofs.lemmas.Bool.Decides.{eqb_tells}
use Rattle.std.proofs.lemmas.Bool.{false≢true, or_right, not-true}
use Rattle.ask_model.specs.Views.{Ask}
use Rattle.journal_book.specs.Entries.{Grounds, Deed, Opens, Asks, Answers, Shuts}
use Rattle.history_laws.specs.Readings.{Noted, Note, Begins, Joins, at, noted, Renews}
use Rattle.history_laws.specs.Connections.{is_open, asks_of, answers_of}
use Rattle.history_laws.specs.Justified.{reads_by, pending, Follows, Legal}
use Rattle.history_laws.proofs.CallerLemmas.{all-filter, all-more, all-passes, all-push, at-below, at-keeps, at-new, eqb-itself}
use Rattle.exchange_model.specs.declared.kept.Reader.{Reader}
use Rattle.exchange_model.specs.Reads.{readers_of, reader_at}
use Rattle.exchange_model.specs.Growing.{RiseByAsk}
use Rattle.exchange_model.proofs.Conns.{slice_get-push}
use Rattle.exchange_model.proofs.ConnsTell.{waits-for}
use Rattle.exchange_model.proofs.Lists.{all-both}

pub record ReaderIn (l : List Noted) (r : Reader) : Type 0 where
  pub open_now : is_open l r.conn ≡ true
  pub waits : pending l r.conn ≡ Some r.ask
  pub moment : ℕ
  pub ask : Ask
  pub note : Note
  pub stands : at l r.ask ≡ Some (noted moment (Asks r.conn ask) note)
  pub reads : reads_by r.ask note ≡ Some r.opening

pub reader-keeps : (x : Noted) (l : List Noted) (r : Reader)
    → (is_open l r.conn ≡ true → is_open (x ∷ l) r.conn ≡ true)
    → asks_of (x ∷ l) r.conn ≡ asks_of l r.conn
    → answers_of (x ∷ l) r.conn ≡ answers_of l r.conn
    → ReaderIn l r → ReaderIn (x ∷ l) r
reader-keeps x l r e f g h = record {
  open_now = e h.open_now;
  waits = rw (f, g) h.waits;
  moment = h.moment;
  ask = h.ask;
  note = h.note;
  stands = at-keeps x l r.ask _ h.stands;
  reads = h.reads;
}

turned : (a b : ℕ) → a ≢ b → eqb b a ≡ false
turned a b e = elim (eqb_tells b a) [ inl u ↦ absurd (e (sym u.1)) | inr u ↦ u.0 ]

apart-by : (a c : ℕ) → eqb a c ≡ false → a ≢ c
apart-by a c e same = elim (eqb_tells a c) [ inl u ↦ false≢true (sym e ∙ u.0) | inr u ↦ u.1 same ]

some-same : (a b : ℕ) → Some a ≡ Some b → a ≡ b
some-same a b e = cc

-- An ask of a connection that waits for nothing leaves those that wait.
asked-reader : (l : List Noted) (t c : ℕ) (a : Ask) (note : Note) → Follows l t (Asks c a) note
    → (r : Reader) → ReaderIn l r → ReaderIn (noted t (Asks c a) note ∷ l) r
asked-reader l t c a note may r w = elim (eqb_tells r.conn c) [
  | inl e ↦ absurd (none-some (subst (λ (d : ℕ). pending l d ≡ None) (sym e.1) (waits-for l c None may.2)) w.waits)
  | inr e ↦ let other = turned r.conn c e.1 in reader-keeps (noted t (Asks c a) note) l r (λ h. h) (rw other refl) refl w
]
  where
    none-some : pending l r.conn ≡ None → pending l r.conn ≡ Some r.ask → ⊥
    none-some u v = cc

-- and waits itself, for what it reads
new-reader : (l : List Noted) (t c o : ℕ) (a : Ask) (note : Note) → Follows l t (Asks c a) note
    → reads_by (length l) note ≡ Some o
    → ReaderIn (noted t (Asks c a) note ∷ l) (reader_at (length l) c o)
new-reader l t c o a note may reads = record {
  open_now = may.1;
  waits = rw (eqb-itself c) (slice_get-push (asks_of l c) (length l) _ may.2);
  moment = t;
  ask = a;
  note = note;
  stands = at-new (noted t (Asks c a) note) l;
  reads = reads;
}

with-reader : (l : List Noted) (t c o : ℕ) (a : Ask) (note : Note) → Follows l t (Asks c a) note
    → reads_by (length l) note ≡ Some o → AllByRecursion (ReaderIn l) (readers_of l)
    → AllByRecursion (ReaderIn (noted t (Asks c a) note ∷ l)) (readers_of l ++ reader_at (length l) c o ∷ [])
with-reader l t c o a note may reads h =
    all-push (ReaderIn (noted t (Asks c a) note ∷ l)) (readers_of l) (reader_at (length l) c o)
    (all-more (ReaderIn l) _ (asked-reader l t c a note may) (readers_of l) h)
    (new-reader l t c o a note may reads)

answered-reader : (l : List Noted) (t c k : ℕ) (g : Grounds) (note : Note) → Follows l t (Answers c k g) note
    → (r : Reader) → ReaderIn l r × (not (eqb r.ask k) ≡ true) → ReaderIn (noted t (Answers c k g) note ∷ l) r
answered-reader l t c k g note may r w = elim (eqb_tells r.conn c) [
  | inl e ↦
      let same = subst (λ (d : ℕ). pending l d ≡ Some k) (sym e.1) may.2 in
      absurd (apart-by r.ask k (not-true (eqb r.ask k) w.1) (some-same r.ask k (sym w.0.waits ∙ same)))
  | inr e ↦ let other = turned r.conn c e.1 in reader-keeps (noted t (Answers c k g) note) l r (λ h. h) refl (rw other refl) w.0
]

readers-step : (l : List Noted) (t : ℕ) (d : Deed) (note : Note) → Follows l t d note
    → AllByRecursion (ReaderIn l) (readers_of l)
    → AllByRecursion (ReaderIn (noted t d note ∷ l)) (readers_of (noted t d note ∷ l))
readers-step l t (Opens c) note may h =
    all-more (ReaderIn l) (ReaderIn (noted t (Opens c) note ∷ l))
    (λ r w. reader-keeps (noted t (Opens c) note) l r (λ e. rw (e) (or_right (eqb c r.conn) true refl)) refl refl w)
    (readers_of l) h
readers-step l t (Asks c a) (Begins q) may h = with-reader l t c (length l) a (Begins q) may refl h
readers-step l t (Asks c a) (Renews q s) may h = with-reader l t c (length l) a (Renews q s) may refl h
readers-step l t (Asks c a) (Joins o) may h = with-reader l t c o a (Joins o) may refl h
readers-step l t (Asks c a) note may h =
    all-more (ReaderIn l) _ (asked-reader l t c a note may) (readers_of l) h
readers-step l t (Answers c k g) note may h =
    let stays : Reader → Bool = λ r. not (eqb r.ask k) in
    let left : List Reader = filter stays (readers_of l) in
    all-more (λ (r : Reader). ReaderIn l r × (stays r ≡ true)) (ReaderIn (noted t (Answers c k g) note ∷ l))
    (answered-reader l t c k g note may) left
    (all-both (ReaderIn l) (λ (r : Reader). stays r ≡ true) left (all-filter (ReaderIn l) stays (readers_of l) h) (all-passes stays (readers_of l)))
readers-step l t (Shuts c) note may h =
    let stays : Reader → Bool = λ r. not (eqb r.conn c) in
    let left : List Reader = filter stays (readers_of l) in
    all-more (λ (r : Reader). ReaderIn l r × (stays r ≡ true)) (ReaderIn (noted t (Shuts c) note ∷ l))
    (λ r w. let other = turned r.conn c (apart-by r.conn c (not-true (eqb r.conn c) w.1)) in reader-keeps (noted t (Shuts c) note) l r (λ h. rw (other, h) refl) refl refl w.0)
    left (all-both (ReaderIn l) (λ (r : Reader). stays r ≡ true) left (all-filter (ReaderIn l) stays (readers_of l) h) (all-passes stays (readers_of l)))
readers-step l t d note may h = all-more (ReaderIn l) _ (λ r w. reader-keeps (noted t d note) l r (λ h. h) refl refl w) (readers_of l) h

pub readers-wait : (l : List Noted) → Legal l → AllByRecursion (ReaderIn l) (readers_of l)
readers-wait [] legal = tt
readers-wait (x ∷ older) legal =
    readers-step older x.written.moment x.written.deed x.note legal.2 (readers-wait older legal.0)

-- the order of asks

pub rise-filter : (q : Reader → Bool) (rs : List Reader) → RiseByAsk rs → RiseByAsk (filter q rs)
rise-filter q [] h = tt
rise-filter q (r ∷ rs) h = by (q r) (rise-filter q rs h.1)
  where
    by : (b : Bool) → RiseByAsk (filter q rs) → RiseByAsk (cond b (r ∷ filter q rs) (filter q rs))
    by true ih = (all-filter (λ (y : Reader). r.ask < y.ask) q rs h.0, ih)
    by false ih = ih

rise-push : (rs : List Reader) (r : Reader) → RiseByAsk rs → AllByRecursion (λ (x : Reader). x.ask < r.ask) rs → RiseByAsk (rs ++ r ∷ [])
rise-push [] r h a = (tt, tt)
rise-push (x ∷ xs) r h a = (all-push (λ (y : Reader). x.ask < y.ask) xs r h.0 a.0, rise-push xs r h.1 a.1)

pub older-asks : (l : List Noted) → Legal l → AllByRecursion (λ (r : Reader). r.ask < length l) (readers_of l)
older-asks l legal = all-more (ReaderIn l) (λ (r : Reader). r.ask < length l) (λ r h. at-below l r.ask _ h.stands) (readers_of l) (readers-wait l legal)

rise-step : (l : List Noted) (t : ℕ) (d : Deed) (note : Note) → Legal l → RiseByAsk (readers_of l) → RiseByAsk (readers_of (noted t d note ∷ l))
rise-step l t (Asks c a) (Begins q) legal h = rise-push (readers_of l) (reader_at (length l) c (length l)) h (older-asks l legal)
rise-step l t (Asks c a) (Renews q s) legal h = rise-push (readers_of l) (reader_at (length l) c (length l)) h (older-asks l legal)
rise-step l t (Asks c a) (Joins o) legal h = rise-push (readers_of l) (reader_at (length l) c o) h (older-asks l legal)
rise-step l t (Asks c a) note legal h = h
rise-step l t (Answers c k g) note legal h = rise-filter (λ (r : Reader). not (eqb r.ask k)) (readers_of l) h
rise-step l t (Shuts c) note legal h = rise-filter (λ (r : Reader). not (eqb r.conn c)) (readers_of l) h
rise-step l t d note legal h = h

pub readers-rise-in : (l : List Noted) → Legal l → RiseByAsk (readers_of l)
readers-rise-in [] legal = tt
readers-rise-in (x ∷ older) legal = rise-step older x.written.moment x.written.deed x.note legal.0 (readers-rise-in older legal.0)

-- Each waits for another ask, on another connection.
abbrev pub Apart : List Reader → Type 0
Apart [] = Unit {0}
Apart (r ∷ rs) = AllByRecursion (λ (s : Reader). (r.ask ≢ s.ask) × (r.conn ≢ s.conn)) rs × Apart rs

pub readers-apart : (l : List Noted) (rs : List Reader) → RiseByAsk rs → AllByRecursion (ReaderIn l) rs → Apart rs
readers-apart l [] h a = tt
readers-apart l (r ∷ rs) h a = (
  all-more (λ (s : Reader). (r.ask < s.ask) × ReaderIn l s) (λ (s : Reader). (r.ask ≢ s.ask) × (r.conn ≢ s.conn)) one rs
      (all-both (λ (s : Reader). r.ask < s.ask) (ReaderIn l) rs h.0 a.1),
  readers-apart l rs h.1 a.1,
)
  where
    one : (s : Reader) → (r.ask < s.ask) × ReaderIn l s → (r.ask ≢ s.ask) × (r.conn ≢ s.conn)
    one s w = (λ e. omega (arith, w.0, e), λ e. let same = some-same r.ask s.ask (sym a.0.waits ∙ (ap (pending l) e ∙ w.1.waits)) in let less = w.0 in omega (arith, less, same))
