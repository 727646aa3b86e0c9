-- What an exchange begins with, and all that was heard for it.
use Rattle.std.proofs.Common.{◌≡◌, ℕ, ◌<◌, Bool, true, false, cond, eqb, inl, inr, List, [], ◌∷◌, ◌++◌, length, Option, Some, None, refl, sym, ap, subst, ◌∙◌, arith, append_assoc}
use Rattle.std.specs.List.{Contains}
use Rattle.std.proofs.lemmas.Bool.Decides.{eqb_tells}
use Rattle.std.proofs.lemmas.List.Elements.{Contains-append_left}
use Rattle.coap_codec.specs.Spelling.{Content}
use Rattle.ask_model.specs.Requests.{CoapRequest, Sense, Requests, Refuses}
use Rattle.history_laws.specs.Readings.{Noted, Note, Begins, Renews, Says, Notice, Observation, Starts, at, before}
use Rattle.history_laws.specs.Progress.{Reply}
use Rattle.history_laws.specs.Exchanges.{Begun, begun_by, begun, opens_by, starts_with, begins_by, begins_with, ask_by, ask_behind, Replied, turn, replies, heard_for}
use Rattle.history_laws.specs.Justified.{AskNote, Follows, Legal}
use Rattle.history_laws.proofs.Copying.{at-still}
use Rattle.history_laws.proofs.Elements.{contains-none}
use Rattle.history_laws.proofs.Facts.{eqb-itself, follows-at}
use Rattle.history_laws.proofs.Places.{at-below, at-old}
use Rattle.history_laws.proofs.Queue.{submitted-cases}
use Rattle.history_laws.proofs.Sent.{AskedFor, StartedFor, begun-below}
use Rattle.history_laws.proofs.Unbegun.{replies-none}

-- Before it is opened it has begun with nothing.
no-start : (n : ℕ) (note : Note) → opens_by note ≡ None → begins_by n note ≡ []
no-start n (Says m to notice) e = ap (λ (v : Option CoapRequest). starts_with n m v to) e
no-start n note e = refl

pub begins-none : (l : List Noted) (o : ℕ) → begun l o ≡ None → begins_with l o ≡ []
begins-none [] o e = refl
begins-none (x ∷ older) o e = by (eqb (length older) o) (opens_by x.note) refl e (begins-none older o)
  where
    some-none : (b : Begun) → Some b ≡ None → ⊥
    some-none b e = cc

    by : (b : Bool) (q : Option CoapRequest) → opens_by x.note ≡ q → begun_by q b x.written.moment (begun older o) ≡ None
        → (begun older o ≡ None → begins_with older o ≡ []) → cond b (begins_by o x.note) (begins_with older o) ≡ []
    by true None is e ih = no-start o x.note is
    by true (Some q) is e ih = absurd (some-none _ e)
    by false None is e ih = ih e
    by false (Some q) is e ih = ih e

-- From then on it stays.
pub begins-keeps : (x : Noted) (l : List Noted) (o : ℕ) (b : Begun) → begun l o ≡ Some b → begins_with (x ∷ l) o ≡ begins_with l o
begins-keeps x l o b e =
    let below = begun-below l o b e in
    elim (eqb_tells (length l) o) [ inl w ↦ let a = w.1 in absurd (omega (arith, a, below)) | inr w ↦ rw (w.0) refl ]

pub heard-stays : (x : Noted) (l : List Noted) (o : ℕ) (b : Begun) → begun l o ≡ Some b → replies (x ∷ l) o ≡ replies l o
    → heard_for (x ∷ l) o ≡ heard_for l o
heard-stays x l o b e same =
    ap (λ (bs : List Reply). bs ++ replies (x ∷ l) o) (begins-keeps x l o b e) ∙ ap (λ (rs : List Reply). begins_with l o ++ rs) same

pub heard-push : (x : Noted) (l : List Noted) (o i : ℕ) (m : Content) (place : Bool) (b : Begun) → begun l o ≡ Some b → turn l o x ≡ Replied i m place
    → heard_for (x ∷ l) o ≡ heard_for l o ++ record { number = length l; sending = i; message = m } ∷ []
heard-push x l o i m place b e is =
    ap (λ (bs : List Reply). bs ++ replies (x ∷ l) o) (begins-keeps x l o b e)
    ∙ (ap (λ (rs : List Reply). begins_with l o ++ rs) pushed ∙ sym (append_assoc (begins_with l o) (replies l o) (record { number = length l; sending = i; message = m } ∷ [])))
  where
    pushed : replies (x ∷ l) o ≡ replies l o ++ record { number = length l; sending = i; message = m } ∷ []
    pushed = rw (is) refl

pub heard-none : (l : List Noted) (o : ℕ) → Legal l → begun l o ≡ None → heard_for l o ≡ []
heard-none l o legal e = ap (λ (bs : List Reply). bs ++ replies l o) (begins-none l o e) ∙ (replies-none l o legal e).1

pub heard-keeps : (x : Noted) (l : List Noted) (o : ℕ) (r : Reply) → Legal l → Contains (heard_for l o) r → Contains (heard_for (x ∷ l) o) r
heard-keeps x l o r legal has = by (begun l o) refl
  where
    by : (b : Option Begun) → begun l o ≡ b → Contains (heard_for (x ∷ l) o) r
    by None e = absurd (contains-none r (subst (λ (rs : List Reply). Contains rs r) (heard-none l o legal e) has))
    by (Some b) e = elim (submitted-cases x l o) [
      | inl same ↦ subst (λ (rs : List Reply). Contains rs r) (sym (heard-stays x l o b e same)) has
      | inr it ↦
          subst (λ (rs : List Reply). Contains rs r) (sym (heard-push x l o it.0 it.1 it.2 b e it.3))
          (Contains-append_left (heard_for l o) _ r has)
    ]

-- It is what the note of its opening says.
pub begins-at : (l : List Noted) (o : ℕ) (x : Noted) → at l o ≡ Some x → begins_with l o ≡ begins_by o x.note
begins-at [] o x e = cc
begins-at (y ∷ older) o x e =
    elim (at-old y older o x e) [
      | inl w ↦ rw (w.0, eqb-itself (length older)) (ap (λ (v : Noted). begins_by (length older) v.note) w.1)
      | inr old ↦
          let below = at-below older o x old in
          elim (eqb_tells (length older) o) [
            | inl w ↦ let same = w.1 in absurd (omega (arith, below, same))
            | inr w ↦ rw (w.0) (begins-at older o x old)
          ]
    ]

pub behind-at : (l : List Noted) (o : ℕ) (x : Noted) → at l o ≡ Some x → ask_behind l o ≡ ask_by o x.note
behind-at [] o x e = cc
behind-at (y ∷ older) o x e =
    elim (at-old y older o x e) [
      | inl w ↦ rw (w.0, eqb-itself (length older)) (ap (λ (v : Noted). ask_by (length older) v.note) w.1)
      | inr old ↦
          let below = at-below older o x old in
          elim (eqb_tells (length older) o) [
            | inl w ↦ let same = w.1 in absurd (omega (arith, below, same))
            | inr w ↦ rw (w.0) (behind-at older o x old)
          ]
    ]

-- An ask begins with nothing.
pub asked-nothing : (l : List Noted) (t o : ℕ) (s : Sense) (note : Note) → AskNote l t s note → (begins_by o note ≡ []) × (ask_by o note ≡ o)
asked-nothing l t o (Requests q) (Says m to notice) h = absurd h
asked-nothing l t o (Refuses cause status) (Says m to notice) h = absurd h
asked-nothing l t o s note h = (refl, refl)

pub ask-begins : (l : List Noted) (o : ℕ) (b : Begun) → Legal l → AskedFor l o b → begins_with l o ≡ []
ask-begins l o b legal it =
    begins-at l o _ it.stands ∙ (asked-nothing (before l o) b.since o it.ask.sense it.note (follows-at l o _ legal it.stands).3).0

pub ask-own : (l : List Noted) (o : ℕ) (b : Begun) → Legal l → AskedFor l o b → ask_behind l o ≡ o
ask-own l o b legal it =
    behind-at l o _ it.stands ∙ (asked-nothing (before l o) b.since o it.ask.sense it.note (follows-at l o _ legal it.stands).3).1

-- A notification begins with its message.
abbrev pub first_of : (l : List Noted) (o : ℕ) (b : Begun) → StartedFor l o b → Reply
first_of l o b it = record { number = o; sending = it.sending; message = it.message }

pub notice-begins : (l : List Noted) (o : ℕ) (b : Begun) → (it : StartedFor l o b) → begins_with l o ≡ first_of l o b it ∷ []
notice-begins l o b it =
    begins-at l o _ it.stands
    ∙ ap (λ (v : Observation). begins_by o (Says it.message (Some it.sending) (record { place = it.notice.place; observation = v }))) it.starts

pub notice-behind : (l : List Noted) (o : ℕ) (b : Begun) → (it : StartedFor l o b) → ask_behind l o ≡ it.ask
notice-behind l o b it =
    behind-at l o _ it.stands
    ∙ ap (λ (v : Observation). ask_by o (Says it.message (Some it.sending) (record { place = it.notice.place; observation = v }))) it.starts

-- So it was before each entry since.
pub begins-early : (l : List Noted) (n o : ℕ) (x y : Noted) → at l n ≡ Some x → at l o ≡ Some y → o < n → begins_with (before l n) o ≡ begins_with l o
begins-early l n o x y stands opened lt =
    begins-at (before l n) o y (at-still l n o x y stands lt opened) ∙ sym (begins-at l o y opened)
