-- What outruns an exchange: a write at the place that ended since. It stays outrun, whatever comes.
use Rattle.std.proofs.Common.{◌≡◌, ℕ, ◌+◌, ◌<◌, ◌≤◌, ◌⊎◌, Bool, true, false, inl, inr, List, [], ◌∷◌, length, Option, Some, None, is_some, refl, sym, ap, ◌∙◌, arith}
use Rattle.std.proofs.lemmas.Bool.{false≢true, and_parts}
use Rattle.std.proofs.lemmas.Bool.Decides.{eqb_tells, Decides-ltb}
use Rattle.cache_key.specs.declared.place.Place.{Place}
use Rattle.history_laws.specs.Readings.{Noted, before}
use Rattle.history_laws.specs.Progress.{Ending}
use Rattle.history_laws.specs.Exchanges.{Begun, begun, openings, turn, heard_for, End, kept, end_here, end_by, end_of}
use Rattle.history_laws.specs.Joining.{writes_at, is_write_at, ended_after, outruns, outrun}
use Rattle.history_laws.specs.Justified.{Legal}
use Rattle.history_laws.proofs.Elements.{any-of, find-any, find-some}
use Rattle.history_laws.proofs.Openings.{begun-listed, ends-first}
use Rattle.history_laws.proofs.Places.{at-below}
use Rattle.history_laws.proofs.Resting.{none-some, some-is}
use Rattle.history_laws.proofs.Sent.{begun-keeps}
use Rattle.history_laws.proofs.Unbegun.{unbegun, unended}

-- an end stands, whatever comes
pub end-keeps : (x : Noted) (l : List Noted) (o : ℕ) (e : End) → end_of l o ≡ Some e → end_of (x ∷ l) o ≡ Some e
end-keeps x l o e is = rw is (by (end_here (begun l o) (kept l o) (length l) (heard_for l o) (turn l o x)))
  where
    by : (how : Option Ending) → end_by how (length l) (Some e) ≡ Some e
    by None = refl
    by (Some how) = refl

pub end-since : (l : List Noted) (k o : ℕ) (e : End) → end_of (before l k) o ≡ Some e → end_of l o ≡ Some e
end-since [] k o e is = is
end-since (x ∷ older) k o e is =
    elim (eqb_tells k (length older)) [
      | inl w ↦ end-keeps x older o e (rw (w.0) at is)
      | inr w ↦ end-keeps x older o e (end-since older k o e (rw (w.0) at is))
    ]

-- it is an older one, or that of the newest entry
pub end-old : (how : Option Ending) (n : ℕ) (old : Option End) (e : End) → end_by how n old ≡ Some e
    → (old ≡ Some e) ⊎ ((old ≡ None) × (n ≡ e.number))
end-old None n old e h = inl h
end-old (Some how) n None e h = inr (refl, ap (λ (e : End). e.number) (some-is _ _ h))
end-old (Some how) n (Some f) e h = inl h

-- what ended below an entry had ended before it
pub end-before : (l : List Noted) (k o : ℕ) (e : End) → k < length l → end_of l o ≡ Some e → e.number < k → end_of (before l k) o ≡ Some e
end-before [] k o e lt is earlier = absurd (none-some e is)
end-before (x ∷ older) k o e lt is earlier =
    elim (end-old (end_here (begun older o) (kept older o) (length older) (heard_for older o) (turn older o x)) (length older) (end_of older o) e is) [
      | inl old ↦ elim (eqb_tells k (length older)) [
        | inl w ↦ rw (w.0) old
        | inr w ↦ let other = w.1 in rw (w.0) (end-before older k o e (omega (arith, lt, other)) old earlier)
      ]
      | inr new ↦ let here = new.1 in absurd (omega (arith, lt, here, earlier))
    ]

-- what has ended was opened
pub ended-begun : (l : List Noted) (o : ℕ) (e : End) → Legal l → end_of l o ≡ Some e → (b : Begun) × (begun l o ≡ Some b)
ended-begun l o e legal is = by (begun l o) refl
  where
    by : (b : Option Begun) → begun l o ≡ b → (b : Begun) × (begun l o ≡ Some b)
    by None f = absurd (none-some e (sym (unbegun l o legal f).1 ∙ is))
    by (Some b) f = (b, f)

-- a write that has outrun what was opened at this entry
pub record Outran (l : List Noted) (place : Place) (n : ℕ) : Type 0 where
  pub opening : ℕ
  pub write : Begun
  pub opened : begun l opening ≡ Some write
  pub changes : writes_at place write ≡ true
  pub end : End
  pub ended : end_of l opening ≡ Some end
  pub later : n < end.number

pub outran : (l : List Noted) (place : Place) (n : ℕ) → outrun l place n ≡ true → Outran l place n
outran l place n e =
    let found = find-any (outruns l place n) (openings l) e in
    let is = find-some (outruns l place n) (openings l) found.0 found.1 in
    let both = and_parts (is_write_at place (begun l found.0)) (ended_after n (end_of l found.0)) is.1 in
    by found.0 (begun l found.0) refl both.0 (end_of l found.0) refl both.1
  where
    by : (w : ℕ) (b : Option Begun) → begun l w ≡ b → is_write_at place b ≡ true → (f : Option End) → end_of l w ≡ f → ended_after n f ≡ true
        → Outran l place n
    by w None is writes f was after = absurd (false≢true writes)
    by w (Some b) is writes None was after = absurd (false≢true after)
    by w (Some b) is writes (Some f) was after =
        record { opening = w; write = b; opened = is; changes = writes; end = f; ended = was; later = (Decides-ltb n f.number).0 after }

pub is-outrun : (l : List Noted) (place : Place) (n : ℕ) → Outran l place n → outrun l place n ≡ true
is-outrun l place n h =
    any-of (outruns l place n) (openings l) h.opening (begun-listed l h.opening (ap is_some h.opened))
    (rw (h.opened, h.changes, h.ended) ((Decides-ltb n h.end.number).1 h.later))

pub outrun-keeps : (x : Noted) (l : List Noted) (place : Place) (n : ℕ) → outrun l place n ≡ true → outrun (x ∷ l) place n ≡ true
outrun-keeps x l place n e =
    let h = outran l place n e in
    is-outrun (x ∷ l) place n (record {
      opening = h.opening;
      write = h.write;
      opened = begun-keeps x l h.opening h.write h.opened;
      changes = h.changes;
      end = h.end;
      ended = end-keeps x l h.opening h.end h.ended;
      later = h.later;
    })

pub outrun-since : (l : List Noted) (k : ℕ) (place : Place) (n : ℕ) → outrun (before l k) place n ≡ true → outrun l place n ≡ true
outrun-since [] k place n e = e
outrun-since (x ∷ older) k place n e =
    elim (eqb_tells k (length older)) [
      | inl w ↦ outrun-keeps x older place n (rw (w.0) at e)
      | inr w ↦ outrun-keeps x older place n (outrun-since older k place n (rw (w.0) at e))
    ]

-- the exchange of a write at this place, which ends at this entry
pub record EndsWrite (x : Noted) (l : List Noted) (place : Place) : Type 0 where
  pub opening : ℕ
  pub write : Begun
  pub opened : begun l opening ≡ Some write
  pub changes : writes_at place write ≡ true
  pub going : end_of l opening ≡ None
  pub ended : is_some (end_of (x ∷ l) opening) ≡ true

-- What is outrun was so before, or the newest entry ends a write at the place.
pub outrun-new : (x : Noted) (l : List Noted) (place : Place) (n : ℕ) → Legal (x ∷ l) → outrun (x ∷ l) place n ≡ true
    → (outrun l place n ≡ true) ⊎ EndsWrite x l place
outrun-new x l place n legal e =
    let h = outran (x ∷ l) place n e in
    elim (end-old (end_here (begun l h.opening) (kept l h.opening) (length l) (heard_for l h.opening) (turn l h.opening x)) (length l) (end_of l h.opening) h.end h.ended) [
      | inl old ↦
          let was = ended-begun l h.opening h.end legal.0 old in
          inl (is-outrun l place n (record {
            opening = h.opening;
            write = h.write;
            opened = was.1 ∙ (sym (begun-keeps x l h.opening was.0 was.1) ∙ h.opened);
            changes = h.changes;
            end = h.end;
            ended = old;
            later = h.later;
          }))
      | inr new ↦
          let was = opened-before h.opening h.end h.ended (begun l h.opening) refl in
          inr (record {
            opening = h.opening;
            write = h.write;
            opened = was.1 ∙ (sym (begun-keeps x l h.opening was.0 was.1) ∙ h.opened);
            changes = h.changes;
            going = new.0;
            ended = ap is_some h.ended;
          })
    ]
  where
    opened-before : (o : ℕ) (f : End) → end_of (x ∷ l) o ≡ Some f → (b : Option Begun) → begun l o ≡ b → (b : Begun) × (begun l o ≡ Some b)
    opened-before o f ended None is = absurd (none-some f (sym (unended x l o legal is) ∙ ended))
    opened-before o f ended (Some b) is = (b, is)

-- An entry that ends a write at the place outruns all that was opened before.
pub write-outruns : (x : Noted) (l : List Noted) (place : Place) (n : ℕ) → EndsWrite x l place → n < length l → outrun (x ∷ l) place n ≡ true
write-outruns x l place n h lt = by (end_of (x ∷ l) h.opening) refl h.ended
  where
    here : (f : End) → (end_of l h.opening ≡ Some f) ⊎ ((end_of l h.opening ≡ None) × (length l ≡ f.number)) → n < f.number
    here f (inl old) = absurd (none-some f (sym h.going ∙ old))
    here f (inr new) = let e = new.1 in omega (arith, e, lt)

    by : (f : Option End) → end_of (x ∷ l) h.opening ≡ f → is_some f ≡ true → outrun (x ∷ l) place n ≡ true
    by None is some = absurd (false≢true some)
    by (Some f) is some =
        is-outrun (x ∷ l) place n (record {
          opening = h.opening;
          write = h.write;
          opened = begun-keeps x l h.opening h.write h.opened;
          changes = h.changes;
          end = f;
          ended = is;
          later = here f (end-old (end_here (begun l h.opening) (kept l h.opening) (length l) (heard_for l h.opening) (turn l h.opening x)) (length l) (end_of l h.opening) f is);
        })

pub not-true : (b : Bool) → (b ≡ true → ⊥) → b ≡ false
not-true true h = absurd (h refl)
not-true false h = refl

-- Nothing has outrun what is opened by the newest entry, or later.
pub none-outran : (l : List Noted) (place : Place) (n : ℕ) → length l ≤ n + 1 → outrun l place n ≡ false
none-outran l place n le = not-true (outrun l place n) (λ e. by (outran l place n e))
  where
    by : Outran l place n → ⊥
    by h =
        let last = ends-first l h.opening h.end.number h.end.how h.ended in
        let below = at-below l h.end.number last.0 last.1 in
        let after = h.later in
        omega (arith, le, below, after)

-- An entry that ends no write at the place changes nothing there.
pub outrun-quiet : (x : Noted) (l : List Noted) (place : Place) (n : ℕ) → Legal (x ∷ l) → (EndsWrite x l place → ⊥) → outrun (x ∷ l) place n ≡ outrun l place n
outrun-quiet x l place n legal none = by (outrun (x ∷ l) place n) refl
  where
    by : (b : Bool) → outrun (x ∷ l) place n ≡ b → outrun (x ∷ l) place n ≡ outrun l place n
    by true e = elim (outrun-new x l place n legal e) [ inl old ↦ e ∙ sym old | inr new ↦ absurd (none new) ]
    by false e = e ∙ sym (not-true (outrun l place n) (λ f. false≢true (sym e ∙ outrun-keeps x l place n f)))
