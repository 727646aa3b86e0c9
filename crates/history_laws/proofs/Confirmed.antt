-- What is owed is an ACK or RST, to the peer of the datagram that was just heard.
use Rattle.std.proofs.Common.{◌≡◌, ℕ, ◌+◌, ◌/◌, Bool, true, false, cond, eqb, ◌⊎◌, inl, inr, List, [], ◌∷◌, length, Option, Some, None, is_some, refl, ap, subst, arith}
use Rattle.std.specs.Prelude.{⊤}
use Rattle.coap_codec.specs.declared.message.MsgType.{MsgType}
use Rattle.coap_codec.specs.declared.message.MsgType.TheVariants.{Con, Non, Ack, Rst}
use Rattle.coap_codec.specs.Recognition.{is_rejected}
use Rattle.uri_map.specs.declared.peer.Peer.{Peer}
use Rattle.journal_book.specs.Entries.{Deed, Hears}
use Rattle.history_laws.specs.Confirmations.{answer_by, Confirmation, given, rejects_bytes}
use Rattle.history_laws.specs.Readings.{Noted, Note, Says, Repeats, Garbled, at, noted, Recalls, Acknowledged, Rejected, Ignored}
use Rattle.history_laws.specs.Confirming.{answered, answered_as, answered_again, owed_by, owed}
use Rattle.history_laws.proofs.Places.{at-new}
use Rattle.history_laws.proofs.Resting.{some-is}

abbrev Confirms : Option MsgType → Type 0
Confirms None = ⊤
Confirms (Some kind) = (kind ≡ Ack) ⊎ (kind ≡ Rst)

by-kind : (k : MsgType) (matched rejected vain : Bool) → Confirms (answer_by k matched rejected vain)
by-kind Con true true vain = inr refl
by-kind Con true false vain = inl refl
by-kind Con false rejected vain = inr refl
by-kind Non true true vain = inr refl
by-kind Non true false vain = tt
by-kind Non false rejected true = tt
by-kind Non false rejected false = inr refl
by-kind Ack matched rejected vain = tt
by-kind Rst matched rejected vain = tt

as-answered : (note : Note) → Confirms (answered note)
as-answered (Says m to notice) = by-kind m.kind (is_some to) (is_rejected m) (eqb m.code 0)
as-answered (Recalls m Acknowledged) = inl refl
as-answered (Recalls m Rejected) = inr refl
as-answered (Recalls m Ignored) = tt
as-answered note = tt

as-first : (x : Option Noted) → Confirms (answered_as x)
as-first None = tt
as-first (Some x) = as-answered x.note

again : (k : MsgType) (first : Option MsgType) → Confirms first → Confirms (answered_again k first)
again Con first h = h
again Non first h = tt
again Ack first h = tt
again Rst first h = tt

given-is : (p : Peer) (mid : ℕ) (k : Option MsgType) (c : Confirmation) → Confirms k → given p mid k ≡ Some c → (p ≡ c.peer) × Confirms (Some c.kind)
given-is p mid None c f e = cc
given-is p mid (Some k) c f e =
    let same : record { peer = p; kind = k; mid = mid } ≡ c = some-is _ _ e in
    (ap (λ (v : Confirmation). v.peer) same, subst (λ (v : Confirmation). Confirms (Some v.kind)) same f)

rejects-is : (p : Peer) (b : List ℕ) (c : Confirmation) → rejects_bytes p b ≡ Some c → (p ≡ c.peer) × Confirms (Some c.kind)
rejects-is p (first ∷ code ∷ high ∷ low ∷ more) c e = go (eqb (first / 16) 4) _ e
  where
    go : (b : Bool) (mid : ℕ) → cond b (given p mid (Some Rst)) None ≡ Some c → (p ≡ c.peer) × Confirms (Some c.kind)
    go true mid e = given-is p mid (Some Rst) c (inr refl) e
    go false mid e = cc
rejects-is p b c e = cc

-- the datagram that was just heard, and what is owed to its peer
pub record OwedTo (l : List Noted) (c : Confirmation) : Type 0 where
  pub heard : ℕ
  pub just_before : heard + 1 ≡ length l
  pub moment : ℕ
  pub datagram : List ℕ
  pub note : Note
  pub stands : at l heard ≡ Some (noted moment (Hears c.peer datagram) note)
  pub ack_or_rst : (c.kind ≡ Ack) ⊎ (c.kind ≡ Rst)

owed-heard : (l : List Noted) (t : ℕ) (p : Peer) (b : List ℕ) (note : Note) (c : Confirmation) → (p ≡ c.peer) × Confirms (Some c.kind)
    → OwedTo (noted t (Hears p b) note ∷ l) c
owed-heard l t p b note c h =
    record {
      heard = length l;
      just_before = omega arith;
      moment = t;
      datagram = b;
      note = note;
      stands = subst (λ (v : Peer). at (noted t (Hears p b) note ∷ l) (length l) ≡ Some (noted t (Hears v b) note)) h.0 (at-new (noted t (Hears p b) note) l);
      ack_or_rst = h.1;
    }

owed-step : (l : List Noted) (t : ℕ) (d : Deed) (note : Note) (c : Confirmation) → owed_by l d note ≡ Some c → OwedTo (noted t d note ∷ l) c
owed-step l t (Hears p b) (Says m to notice) c e =
    owed-heard l t p b (Says m to notice) c (given-is p m.mid (answered (Says m to notice)) c (as-answered (Says m to notice)) e)
owed-step l t (Hears p b) (Repeats m j) c e =
    owed-heard l t p b (Repeats m j) c
    (given-is p m.mid (answered_again m.kind (answered_as (at l j))) c (again m.kind (answered_as (at l j)) (as-first (at l j))) e)
owed-step l t (Hears p b) Garbled c e = owed-heard l t p b Garbled c (rejects-is p b c e)
owed-step l t d note c e = cc

pub owed-to : (l : List Noted) (c : Confirmation) → owed l ≡ Some c → OwedTo l c
owed-to [] c e = cc
owed-to (x ∷ older) c e = owed-step older x.written.moment x.written.deed x.note c e
