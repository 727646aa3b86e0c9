-- The connections that are kept are just those that are open, each with what it waits for.
use Rattle.std.proofs.Common.{◌≡◌, ◌≢◌, ℕ, Bool, true, false, not, cond, eqb, ◌⊎◌, inl, inr, List, [], ◌∷◌, ◌++◌, length, map, filter, slice_get, Option, Some, None, refl, sym, subst, ◌∙◌}
use Rattle.std.specs.List.{AllByRecursion}
use Rattle.std.proofs.lemmas.Bool.Decides.{eqb_tells}
use Rattle.std.proofs.lemmas.Bool.{false≢true}
use Rattle.journal_book.specs.Entries.{Deed, Opens, Asks, Answers, Shuts}
use Rattle.history_laws.specs.Readings.{Noted}
use Rattle.history_laws.specs.Connections.{is_open, open_by, asks_of, answers_of}
use Rattle.history_laws.specs.Justified.{pending}
use Rattle.exchange_model.specs.declared.kept.Conn.{Conn}
use Rattle.exchange_model.specs.State.{pend, conns_after}
use Rattle.exchange_model.specs.Reads.{conns_of}
use Rattle.exchange_model.specs.Resting.{HasConn, ConnsTell}
use Rattle.exchange_model.proofs.Conns.{PendingIn, ConnIn, conns-open}

-- a connection with this number is among them
abbrev HasId : List Conn → ℕ → Type 0
HasId [] c = ⊥
HasId (x ∷ xs) c = (x.id ≡ c) ⊎ HasId xs c

has-left : (xs : List Conn) (y : Conn) (c : ℕ) → HasId xs c → HasId (xs ++ y ∷ []) c
has-left [] y c h = elim h [ ]
has-left (x ∷ xs) y c (inl h) = inl h
has-left (x ∷ xs) y c (inr h) = inr (has-left xs y c h)

has-new : (xs : List Conn) (y : Conn) → HasId (xs ++ y ∷ []) y.id
has-new [] y = inl refl
has-new (x ∷ xs) y = inr (has-new xs y)

pend-id : (c : ℕ) (p : Option ℕ) (x : Conn) → (pend c p x).id ≡ x.id
pend-id c p x = elim (eqb_tells x.id c) [ inl w ↦ rw (w.0) refl | inr w ↦ rw (w.0) refl ]

has-map : (d : ℕ) (p : Option ℕ) (xs : List Conn) (c : ℕ) → HasId xs c → HasId (map (pend d p) xs) c
has-map d p [] c h = elim h [ ]
has-map d p (x ∷ xs) c (inl h) = inl (pend-id d p x ∙ h)
has-map d p (x ∷ xs) c (inr h) = inr (has-map d p xs c h)

has-filter : (d : ℕ) (xs : List Conn) (c : ℕ) → d ≢ c → HasId xs c → HasId (filter (λ (x : Conn). not (eqb x.id d)) xs) c
has-filter d [] c other h = elim h [ ]
has-filter d (x ∷ xs) c other (inl h) =
    elim (eqb_tells x.id d) [ inl w ↦ absurd (other (sym w.1 ∙ h)) | inr w ↦ rw (w.0) (inl h) ]
has-filter d (x ∷ xs) c other (inr h) = go (eqb x.id d) (has-filter d xs c other h)
  where
    go : (b : Bool) → HasId (filter (λ (x : Conn). not (eqb x.id d)) xs) c
        → HasId (cond (not b) (x ∷ filter (λ (x : Conn). not (eqb x.id d)) xs) (filter (λ (x : Conn). not (eqb x.id d)) xs)) c
    go true r = r
    go false r = inr r

ids-step : (l : List Noted) (c n : ℕ) (d : Deed) → (is_open l c ≡ true → HasId (conns_of l) c)
    → open_by c d (is_open l c) ≡ true → HasId (conns_after (conns_of l) n d) c
ids-step l c n (Opens e) ih h =
    elim (eqb_tells e c) [
      | inl w ↦ subst (HasId (conns_of l ++ record { id = e; pending = None } ∷ [])) w.1 (has-new (conns_of l) (record { id = e; pending = None }))
      | inr w ↦ has-left (conns_of l) _ c (ih (rw (w.0) at h))
    ]
ids-step l c n (Shuts e) ih h =
    elim (eqb_tells e c) [
      | inl w ↦ absurd (false≢true (rw (w.0) at h))
      | inr w ↦ has-filter e (conns_of l) c w.1 (ih (rw (w.0) at h))
    ]
ids-step l c n (Asks e a) ih h = has-map e (Some n) (conns_of l) c (ih h)
ids-step l c n (Answers e k g) ih h = has-map e None (conns_of l) c (ih h)
ids-step l c n d ih h = ih h

-- a connection that is open is kept
ids-all : (l : List Noted) (c : ℕ) → is_open l c ≡ true → HasId (conns_of l) c
ids-all [] c h = absurd (false≢true h)
ids-all (x ∷ older) c h = ids-step older c (length older) x.written.deed (ids-all older c) h

-- Where all asks are answered, none waits.
slice_get-past : {X : Type 0} (xs : List X) (n : ℕ) → length xs ≡ n → slice_get xs n ≡ None
slice_get-past [] n e = refl
slice_get-past (x ∷ xs) n e = rw (← e) (slice_get-past xs (length xs) refl)

pub waits-for : (l : List Noted) (c : ℕ) (p : Option ℕ) → PendingIn l c p → pending l c ≡ p
waits-for l c None w = slice_get-past (asks_of l c) (length (answers_of l c)) w
waits-for l c (Some k) w = w.0

kept-one : (l : List Noted) (xs : List Conn) (c : ℕ) → AllByRecursion (ConnIn l) xs → HasId xs c → HasConn xs c (pending l c)
kept-one l [] c a h = elim h [ ]
kept-one l (x ∷ xs) c a (inl h) =
    inl (h, sym (subst (λ (c : ℕ). pending l c ≡ x.pending) h (waits-for l x.id x.pending a.0.waits)))
kept-one l (x ∷ xs) c a (inr h) = inr (kept-one l xs c a.1 h)

open-one : (l : List Noted) (xs : List Conn) (c : ℕ) (p : Option ℕ) → AllByRecursion (ConnIn l) xs → HasConn xs c p
    → (is_open l c ≡ true) × (pending l c ≡ p)
open-one l [] c p a h = elim h [ ]
open-one l (x ∷ xs) c p a (inl h) = (
  subst (λ (c : ℕ). is_open l c ≡ true) h.0 a.0.open_now,
  subst (λ (c : ℕ). pending l c ≡ p) h.0 (waits-for l x.id x.pending a.0.waits ∙ h.1),
)
open-one l (x ∷ xs) c p a (inr h) = open-one l xs c p a.1 h

pub conns-tell : ConnsTell
conns-tell l S c reads =
    let kept = subst (AllByRecursion (ConnIn l)) reads.conns_are (conns-open l reads.legal) in (
      λ open_now. kept-one l S.conns c kept (subst (λ (xs : List Conn). HasId xs c) reads.conns_are (ids-all l c open_now)),
      λ p h. open-one l S.conns c p kept h,
    )
