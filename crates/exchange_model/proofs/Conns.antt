-- A connection that is kept is open, and waits for its oldest ask that isn't answered.
use Rattle.std.proofs.Common.{◌≡◌, ◌≢◌, ℕ, ◌+◌, ◌<◌, ◌≤◌, Bool, true, false, not, eqb, inl, inr, List, [], ◌∷◌, ◌++◌, length, filter, slice_get, Option, Some, None, refl, sym, ap, subst, ◌∙◌, arith, length-append}
use Rattle.std.specs.List.{AllByRecursion}
use Rattle.std.proofs.lemmas.Option.{slice_get_within}
use Rattle.std.proofs.lemmas.Bool.Decides.{eqb_tells}
use Rattle.std.proofs.lemmas.Bool.{false≢true, or_right, not-true}
use Rattle.ask_model.specs.Views.{Ask}
use Rattle.journal_book.specs.Entries.{Grounds, Deed, Opens, Asks, Answers, Shuts}
use Rattle.history_laws.specs.Readings.{Noted, Note, noted}
use Rattle.history_laws.specs.Connections.{is_open, asks_of, answers_of, opened_by, opened, has_opened}
use Rattle.history_laws.specs.Justified.{pending, Follows, Legal}
use Rattle.history_laws.proofs.CallerLemmas.{all-filter, all-more, all-passes, all-push, next-above, open-below}
use Rattle.exchange_model.specs.declared.kept.Conn.{Conn}
use Rattle.exchange_model.specs.State.{pend}
use Rattle.exchange_model.specs.Reads.{conns_of}
use Rattle.exchange_model.proofs.Lists.{all-map, all-both}

-- what is known of the ask that a connection waits for
abbrev pub PendingIn : List Noted → ℕ → Option ℕ → Type 0
PendingIn l c None = length (asks_of l c) ≡ length (answers_of l c)
PendingIn l c (Some k) = (pending l c ≡ Some k) × (length (asks_of l c) ≡ length (answers_of l c) + 1)

pub record ConnIn (l : List Noted) (x : Conn) : Type 0 where
  pub open_now : is_open l x.id ≡ true
  pub waits : PendingIn l x.id x.pending

-- nothing was asked or answered on a connection
abbrev NothingOf : List Noted → ℕ → Type 0
NothingOf l c = (asks_of l c ≡ []) × (answers_of l c ≡ [])

opened-more : (l : List Noted) (t : ℕ) (d : Deed) (note : Note) → Follows l t d note → opened l ≤ opened_by d (opened l)
opened-more l t (Opens c) note may = let here = next-above (has_opened l) (opened l) c may.1 in omega (arith, here)
opened-more l t d note may = omega arith

asked-step : (older : List Noted) (c t : ℕ) (d : Deed) (note : Note) → Legal older → opened_by d (opened older) ≤ c
    → NothingOf older c → Follows older t d note → NothingOf (noted t d note ∷ older) c
asked-step older c t (Asks e a) note legal lt ih may =
    let b = open-below older legal e may.1 in
    elim (eqb_tells e c) [ inl w ↦ absurd (omega arith) | inr w ↦ rw (w.0) ih ]
asked-step older c t (Answers e k g) note legal lt ih may =
    let b = open-below older legal e may.1 in
    elim (eqb_tells e c) [ inl w ↦ absurd (omega arith) | inr w ↦ rw (w.0) ih ]
asked-step older c t d note legal lt ih may = ih

-- nothing is asked by a connection that wasn't opened
pub none-asked : (l : List Noted) → Legal l → (c : ℕ) → opened l ≤ c → NothingOf l c
none-asked [] legal c h = (refl, refl)
none-asked (x ∷ older) legal c h =
    let more = opened-more older x.written.moment x.written.deed x.note legal.2 in
    asked-step older c x.written.moment x.written.deed x.note legal.0 h (none-asked older legal.0 c (omega arith)) legal.2

pub slice_get-push : {X : Type 0} (xs : List X) (y : X) (n : ℕ) → length xs ≡ n → slice_get (xs ++ y ∷ []) n ≡ Some y
slice_get-push [] y n e = rw (← e) refl
slice_get-push (x ∷ xs) y n e = rw (← e) (slice_get-push xs y (length xs) refl)

conn-keeps : (x' : Noted) (l : List Noted) (x : Conn)
    → is_open (x' ∷ l) x.id ≡ is_open l x.id
    → asks_of (x' ∷ l) x.id ≡ asks_of l x.id
    → answers_of (x' ∷ l) x.id ≡ answers_of l x.id
    → ConnIn l x → ConnIn (x' ∷ l) x
conn-keeps x' l x e f g h = record { open_now = e ∙ h.open_now; waits = waits x.pending h.waits }
  where
    waits : (p : Option ℕ) → PendingIn l x.id p → PendingIn (x' ∷ l) x.id p
    waits None w = ap length f ∙ w ∙ sym (ap length g)
    waits (Some k) w = rw (f, g) w

turned : (a b : ℕ) → a ≢ b → eqb b a ≡ false
turned a b e = elim (eqb_tells b a) [ inl u ↦ absurd (e (sym u.1)) | inr u ↦ u.0 ]

turned-true : (a b : ℕ) → a ≡ b → eqb b a ≡ true
turned-true a b e = elim (eqb_tells b a) [ inl u ↦ u.0 | inr u ↦ absurd (u.1 (sym e)) ]

asked-conn : (l : List Noted) (t c : ℕ) (a : Ask) (note : Note) → Follows l t (Asks c a) note → (x : Conn) → ConnIn l x
    → ConnIn (noted t (Asks c a) note ∷ l) (pend c (Some (length l)) x)
asked-conn l t c a note may x w =
    elim (eqb_tells x.id c) [
      | inl e ↦
          let same = turned-true x.id c e.1 in
          rw (e.0) (record {
            open_now = w.open_now;
            waits =
                let len : length (asks_of l x.id) ≡ length (answers_of l x.id) = subst (λ (c : ℕ). length (asks_of l c) ≡ length (answers_of l c)) (sym e.1) may.2 in
                rw same (slice_get-push (asks_of l x.id) (length l) _ len, length-append (asks_of l x.id) (length l ∷ []) ∙ ap (λ n. n + 1) len);
          })
      | inr e ↦ let other = turned x.id c e.1 in rw (e.0) (conn-keeps (noted t (Asks c a) note) l x refl (rw other refl) refl w)
    ]

more-asked : (l : List Noted) (c : ℕ) (p : Option ℕ) → PendingIn l c p → length (answers_of l c) < length (asks_of l c)
    → length (asks_of l c) ≡ length (answers_of l c) + 1
more-asked l c None v lt = omega arith
more-asked l c (Some k) v lt = v.1

answered-conn : (l : List Noted) (t c k : ℕ) (g : Grounds) (note : Note) → Follows l t (Answers c k g) note → (x : Conn) → ConnIn l x
    → ConnIn (noted t (Answers c k g) note ∷ l) (pend c None x)
answered-conn l t c k g note may x w =
    elim (eqb_tells x.id c) [
      | inl e ↦
          let same = turned-true x.id c e.1 in
          rw (e.0) (record {
            open_now = w.open_now;
            waits =
                let within = slice_get_within (asks_of l x.id) _ _ (subst (λ (c : ℕ). pending l c ≡ Some k) (sym e.1) may.2) in
                let len = more-asked l x.id x.pending w.waits within in
                rw same (len ∙ sym (length-append (answers_of l x.id) (k ∷ [])));
          })
      | inr e ↦ let other = turned x.id c e.1 in rw (e.0) (conn-keeps (noted t (Answers c k g) note) l x refl refl (rw other refl) w)
    ]

-- the connections after an entry
conns-step : (l : List Noted) (t : ℕ) (d : Deed) (note : Note) → Legal l → Follows l t d note
    → AllByRecursion (ConnIn l) (conns_of l) → AllByRecursion (ConnIn (noted t d note ∷ l)) (conns_of (noted t d note ∷ l))
conns-step l t (Opens c) note legal may h =
    let none = none-asked l legal c (next-above (has_opened l) (opened l) c may.1) in
    all-push (ConnIn (noted t (Opens c) note ∷ l)) (conns_of l) (record { id = c; pending = None })
    (all-more (ConnIn l) (ConnIn (noted t (Opens c) note ∷ l))
    (λ x w. record { open_now = rw (w.open_now) (or_right (eqb c x.id) true refl); waits = w.waits }) (conns_of l) h)
    (record {
      open_now = elim (eqb_tells c c) [ inl w ↦ rw (w.0) refl | inr w ↦ absurd (w.1 refl) ];
      waits = ap length none.0 ∙ sym (ap length none.1);
    })
conns-step l t (Asks c a) note legal may h =
    all-map (pend c (Some (length l))) (ConnIn (noted t (Asks c a) note ∷ l)) (conns_of l)
    (all-more (ConnIn l) _ (asked-conn l t c a note may) (conns_of l) h)
conns-step l t (Answers c k g) note legal may h =
    all-map (pend c None) (ConnIn (noted t (Answers c k g) note ∷ l)) (conns_of l)
    (all-more (ConnIn l) _ (answered-conn l t c k g note may) (conns_of l) h)
conns-step l t (Shuts c) note legal may h =
    let stays : Conn → Bool = λ x. not (eqb x.id c) in
    let left : List Conn = filter stays (conns_of l) in
    all-more (λ (x : Conn). ConnIn l x × (stays x ≡ true)) (ConnIn (noted t (Shuts c) note ∷ l))
    (λ x w. let other = turned x.id c (apart x.id (not-true (eqb x.id c) w.1)) in conn-keeps (noted t (Shuts c) note) l x (rw other refl) refl refl w.0)
    left (all-both (ConnIn l) (λ (x : Conn). stays x ≡ true) left (all-filter (ConnIn l) stays (conns_of l) h) (all-passes stays (conns_of l)))
  where
    apart : (a : ℕ) → eqb a c ≡ false → a ≢ c
    apart a e same = elim (eqb_tells a c) [ inl u ↦ false≢true (sym e ∙ u.0) | inr u ↦ u.1 same ]
conns-step l t d note legal may h = all-more (ConnIn l) _ (λ x w. conn-keeps (noted t d note) l x refl refl refl w) (conns_of l) h

pub conns-open : (l : List Noted) → Legal l → AllByRecursion (ConnIn l) (conns_of l)
conns-open [] legal = tt
conns-open (x ∷ older) legal =
    conns-step older x.written.moment x.written.deed x.note legal.0 legal.2 (conns-open older legal.0)
