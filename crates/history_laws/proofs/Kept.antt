-- What an exchange keeps from its opening on.
use Rattle.std.proofs.Common.{◌≡◌, ℕ, ◌<◌, Bool, true, false, cond, eqb, inl, inr, List, [], ◌∷◌, length, Option, Some, None, is_some, refl, sym, ap, subst, ◌∙◌, arith}
use Rattle.std.proofs.lemmas.Bool.{and_parts}
use Rattle.std.proofs.lemmas.Bool.Decides.{eqb_tells}
use Rattle.resp_cache.specs.Stored.{Stored, is_fresh}
use Rattle.ask_model.specs.Requests.{CoapRequest, Sense, Requests, Refuses}
use Rattle.ask_model.specs.Sharing.{is_get}
use Rattle.ask_model.specs.Views.{Ask}
use Rattle.journal_book.specs.Entries.{Deed, Asks}
use Rattle.history_laws.specs.Readings.{Noted, Note, Renews, at, before, noted}
use Rattle.history_laws.specs.Exchanges.{Begun, begun, opens_by, kept_by, kept}
use Rattle.history_laws.specs.Joining.{joins}
use Rattle.history_laws.specs.Hearing.{has_room}
use Rattle.history_laws.specs.Observing.{would_observe}
use Rattle.history_laws.specs.Storing.{IsStored, MissesAlone, pieces_of}
use Rattle.history_laws.specs.Justified.{AskNote, MissNote, UnservedNote, Follows, Legal}
use Rattle.history_laws.proofs.Facts.{at-before, eqb-itself, eqb-same, follows-at}
use Rattle.history_laws.proofs.Copying.{at-still}
use Rattle.history_laws.proofs.Places.{at-below, at-keeps, at-new, at-old}
use Rattle.history_laws.proofs.Resting.{none-some, some-is}
use Rattle.history_laws.proofs.Sent.{AskedFor, opened-for}

-- the note that says so
pub record Keeps (l : List Noted) (o : ℕ) (s : Stored) : Type 0 where
  pub entry : Noted
  pub stands : at l o ≡ Some entry
  pub note : kept_by entry.note ≡ Some s

pub keeps-at : (l : List Noted) (o : ℕ) (s : Stored) → kept l o ≡ Some s → Keeps l o s
keeps-at [] o s e = cc
keeps-at (x ∷ older) o s e = by (eqb (length older) o) refl e (keeps-at older o s)
  where
    by : (b : Bool) → eqb (length older) o ≡ b → cond b (kept_by x.note) (kept older o) ≡ Some s → (kept older o ≡ Some s → Keeps older o s)
        → Keeps (x ∷ older) o s
    by true is e ih = record {
      entry = x;
      stands = subst (λ (n : ℕ). at (x ∷ older) n ≡ Some x) (eqb-same (length older) o is) (at-new x older);
      note = e;
    }
    by false is e ih = let h = ih e in record { entry = h.entry; stands = at-keeps x older o _ h.stands; note = h.note }

pub at-kept : (l : List Noted) (o : ℕ) (x : Noted) → at l o ≡ Some x → kept l o ≡ kept_by x.note
at-kept [] o x e = cc
at-kept (y ∷ older) o x e =
    elim (at-old y older o x e) [
      | inl w ↦
          rw (w.0, eqb-itself (length older)) (ap (λ (v : Noted). kept_by v.note) w.1)
      | inr old ↦
          let below = at-below older o x old in
          elim (eqb_tells (length older) o) [
            | inl w ↦ let same = w.1 in absurd (omega (arith, below, same))
            | inr w ↦ rw (w.0) (at-kept older o x old)
          ]
    ]

pub kept-before : (l : List Noted) (n o : ℕ) (s : Stored) → kept (before l n) o ≡ Some s → kept l o ≡ Some s
kept-before l n o s e =
    let h = keeps-at (before l n) o s e in
    at-kept l o h.entry (at-before l n o h.entry h.stands) ∙ h.note

-- It did so before each entry since.
pub kept-early : (l : List Noted) (n o : ℕ) (x : Noted) (s : Stored) → at l n ≡ Some x → o < n → kept l o ≡ Some s → kept (before l n) o ≡ Some s
kept-early l n o x s stands lt e =
    let h = keeps-at l o s e in
    at-kept (before l n) o h.entry (at-still l n o x h.entry stands lt h.stands) ∙ h.note

-- what the note owed that opened it
pub record RenewsFor (l : List Noted) (o : ℕ) (b : Begun) (s : Stored) : Type 0 where
  pub conn : ℕ
  pub ask : Ask
  pub stands : at l o ≡ Some (noted b.since (Asks conn ask) (Renews b.request s))
  pub sense : ask.sense ≡ Requests b.request
  pub alone : joins (before l o) b.request ≡ None
  pub room : has_room (before l o) b.since b.request ≡ true
  pub get : is_get b.request ≡ true
  pub stored : Stored
  pub is : IsStored (before l o) b.request stored
  pub pieces : s ≡ pieces_of (before l o) stored
  pub stale : is_fresh b.since s ≡ false
  pub tag : List ℕ
  pub has : s.response.etag ≡ Some tag
  pub misses : MissesAlone (before l o) b.since b.request
  pub unobserved : would_observe (before l o) ask b.request ≡ false

keeps-note : (note : Note) (q : CoapRequest) (s : Stored) → opens_by note ≡ Some q → kept_by note ≡ Some s → note ≡ Renews q s
keeps-note (Renews r u) q s e f = rw (some-is r q e, some-is u s f) refl
keeps-note note q s e f = cc

renews-asked : (l : List Noted) (o : ℕ) (b : Begun) (s : Stored) → Legal l → kept l o ≡ Some s → AskedFor l o b → RenewsFor l o b s
renews-asked l o b s legal keeps it = by it.note it.stands (keeps-note it.note b.request s it.opens (sym (at-kept l o _ it.stands) ∙ keeps))
  where
    the-tag : (v : Option (List ℕ)) → is_some v ≡ true → (tag : List ℕ) × (v ≡ Some tag)
    the-tag None e = cc
    the-tag (Some tag) e = (tag, refl)

    made : at l o ≡ Some (noted b.since (Asks it.conn it.ask) (Renews b.request s)) → AskNote (before l o) b.since (Requests b.request) (Renews b.request s)
        → MissNote (before l o) b.since it.ask (Renews b.request s) → RenewsFor l o b s
    made stands h m =
        let tag = the-tag s.response.etag h.8 in
        record {
          conn = it.conn;
          ask = it.ask;
          stands = stands;
          sense = it.sense;
          alone = h.1;
          room = h.2;
          get = h.3;
          stored = h.4;
          is = h.5;
          pieces = h.6;
          stale = h.7;
          tag = tag.0;
          has = tag.1;
          misses = told it.ask.sense it.sense m.0;
          unobserved = m.1;
        }
      where
        told : (v : Sense) → v ≡ Requests b.request → UnservedNote (before l o) b.since v (Renews b.request s) → MissesAlone (before l o) b.since b.request
        told v e u = subst (λ (v : Sense). UnservedNote (before l o) b.since v (Renews b.request s)) e u

    by : (note : Note) → at l o ≡ Some (noted b.since (Asks it.conn it.ask) note) → note ≡ Renews b.request s → RenewsFor l o b s
    by note stands same =
        let here : at l o ≡ Some (noted b.since (Asks it.conn it.ask) (Renews b.request s)) =
        subst (λ (n : Note). at l o ≡ Some (noted b.since (Asks it.conn it.ask) n)) same stands in
        let may : Follows (before l o) b.since (Asks it.conn it.ask) (Renews b.request s) = follows-at l o _ legal here in
        made here (subst (λ (v : Sense). AskNote (before l o) b.since v (Renews b.request s)) it.sense may.3) may.4

pub renews-for : (l : List Noted) (o : ℕ) (b : Begun) (s : Stored) → Legal l → begun l o ≡ Some b → kept l o ≡ Some s → RenewsFor l o b s
renews-for l o b s legal opened keeps = elim (opened-for l o b legal opened) [
  | inl it ↦ renews-asked l o b s legal keeps it
  | inr it ↦ absurd (none-some s (sym (at-kept l o _ it.stands) ∙ keeps))
]
