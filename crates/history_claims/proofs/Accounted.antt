-- What goes out is a message, a copy of one, or a confirmation of what was just heard.
use Rattle.std.proofs.Common.{◌≡◌, ◌⊎◌, ℕ, ◌+◌, ◌*◌, ◌/◌, ◌<◌, Bool, true, false, not, ◌&&◌, cond, eqb, inl, inr, List, [], ◌∷◌, length, Option, Some, None, refl, sym, ap, subst, ◌∙◌, arith}
use Rattle.std.specs.Prelude.{is_some}
use Rattle.coap_codec.specs.declared.message.MsgType.{MsgType}
use Rattle.coap_codec.specs.declared.message.MsgType.TheVariants.{Con, Non, Ack, Rst}
use Rattle.coap_codec.specs.Spelling.{Content, Spells}
use Rattle.coap_codec.specs.Recognition.{is_rejected}
use Rattle.coap_codec.proofs.Unique.{spells_one}
use Rattle.uri_map.specs.declared.peer.Peer.{Peer}
use Rattle.journal_book.specs.Entries.{Deed, Sends, Hears}
use Rattle.history_laws.specs.Confirmations.{answer_by, Confirmation, given, rejects_bytes}
use Rattle.history_laws.specs.Confirming.{answered, answered_as, answered_again, owed_by, owed}
use Rattle.history_laws.specs.Readings.{Noted, Note, First, Copies, Confirms, Says, Repeats, Garbled, Recalls, Acknowledged, Rejected, Ignored, entries, at, before, noted}
use Rattle.history_laws.specs.Justified.{MayBeFirst, MayBeCopy, MayConfirm, MaySay, Follows, Legal}
use Rattle.history_laws.proofs.CallerLemmas.{at-before, at-below, at-entries, at-new, follows-at, legal-before, length-before, none-some, some-is}
use Rattle.history_claims.specs.Headline.{IsEntry}
use Rattle.history_claims.specs.Order.{IsCopy, IsConfirmation, IsAccounted}
use Rattle.history_claims.proofs.Entries.{entries-at}

abbrev AckOrRst : MsgType → Type 0
AckOrRst kind = (kind ≡ Ack) ⊎ (kind ≡ Rst)

cond-kind : (b : Bool) (kind : MsgType) → cond b (Some Ack) (Some Rst) ≡ Some kind → AckOrRst kind
cond-kind true kind e = inl (sym (some-is Ack kind e))
cond-kind false kind e = inr (sym (some-is Rst kind e))

non-kind : (a b c : Bool) (kind : MsgType) → cond a (cond b (Some Rst) None) (cond c None (Some Rst)) ≡ Some kind → AckOrRst kind
non-kind true true c kind e = inr (sym (some-is Rst kind e))
non-kind true false c kind e = absurd (none-some kind e)
non-kind false b true kind e = absurd (none-some kind e)
non-kind false b false kind e = inr (sym (some-is Rst kind e))

answer-kind : (k : MsgType) (matched rejected vain : Bool) (kind : MsgType) → answer_by k matched rejected vain ≡ Some kind → AckOrRst kind
answer-kind Con matched rejected vain kind e = cond-kind (matched && not rejected) kind e
answer-kind Non matched rejected vain kind e = non-kind matched rejected vain kind e
answer-kind k matched rejected vain kind e = absurd (none-some kind e)

answered-kind : (note : Note) (kind : MsgType) → answered note ≡ Some kind → AckOrRst kind
answered-kind (Says m to notice) kind e = answer-kind m.kind (is_some to) (is_rejected m) (eqb m.code 0) kind e
answered-kind (Recalls m Acknowledged) kind e = inl (sym (some-is Ack kind e))
answered-kind (Recalls m Rejected) kind e = inr (sym (some-is Rst kind e))
answered-kind (Recalls m Ignored) kind e = absurd (none-some kind e)
answered-kind note kind e = absurd (none-some kind e)

as-kind : (o : Option Noted) (kind : MsgType) → answered_as o ≡ Some kind → AckOrRst kind
as-kind None kind e = absurd (none-some kind e)
as-kind (Some x) kind e = answered-kind x.note kind e

again-kind : (k : MsgType) (first : Option MsgType) (kind : MsgType) → (first ≡ Some kind → AckOrRst kind) → answered_again k first ≡ Some kind
    → AckOrRst kind
again-kind Con first kind h e = h e
again-kind k first kind h e = absurd (none-some kind e)

-- what is owed is owed to whom the datagram came from, for its ID
record Owed (p : Peer) (b : List ℕ) (c : Confirmation) : Type 0 where
  peer : p ≡ c.peer
  kind : AckOrRst c.kind
  id : (m : Content) → Spells m b → m.mid ≡ c.mid

given-owed : (p : Peer) (b : List ℕ) (mid : ℕ) (k : Option MsgType) (c : Confirmation) → ((kind : MsgType) → k ≡ Some kind → AckOrRst kind)
    → ((m : Content) → Spells m b → m.mid ≡ mid) → given p mid k ≡ Some c → Owed p b c
given-owed p b mid None c kinds id e = absurd (none-some c e)
given-owed p b mid (Some kind) c kinds id e =
    let is : record { peer = p; kind = kind; mid = mid } ≡ c = some-is _ c e in
    subst (Owed p b) is (record { peer = refl; kind = kinds kind refl; id = id })

bytes-owed : (p : Peer) (b : List ℕ) (c : Confirmation) → ((m : Content) → Spells m b → ⊥) → rejects_bytes p b ≡ Some c → Owed p b c
bytes-owed p (first ∷ code ∷ high ∷ low ∷ more) c none e = by (eqb (first / 16) 4) e
  where
    by : (f : Bool) → cond f (given p (256 * high + low) (Some Rst)) None ≡ Some c → Owed p (first ∷ code ∷ high ∷ low ∷ more) c
    by true f =
        given-owed p (first ∷ code ∷ high ∷ low ∷ more) (256 * high + low) (Some Rst) c (λ kind is. inr (sym (some-is Rst kind is)))
        (λ m s. absurd (none m s)) f
    by false f = absurd (none-some c f)
bytes-owed p b c none e = absurd (none-some c e)

owed-is : (l : List Noted) (t : ℕ) (d : Deed) (note : Note) (c : Confirmation) → Follows l t d note → owed_by l d note ≡ Some c
    → (p : Peer) × (b : List ℕ) × (d ≡ Hears p b) × Owed p b c
owed-is l t (Hears p b) (Says m to notice) c may e =
    let says : MaySay l t p b (Says m to notice) m = may.3 in (
      p,
      b,
      refl,
      given-owed p b m.mid (answered (Says m to notice)) c (answered-kind (Says m to notice))
          (λ n s. ap (λ (m : Content). m.mid) (spells_one n m b s says.spelled)) e,
    )
owed-is l t (Hears p b) (Repeats m j) c may e = (
  p,
  b,
  refl,
  given-owed p b m.mid (answered_again m.kind (answered_as (at l j))) c
      (λ kind is. again-kind m.kind (answered_as (at l j)) kind (as-kind (at l j) kind) is)
      (λ n s. ap (λ (m : Content). m.mid) (spells_one n m b s may.3.0)) e,
)
owed-is l t (Hears p b) Garbled c may e = (p, b, refl, bytes-owed p b c may.3.1 e)
owed-is l t d note c may e = absurd (none-some c e)

confirmed-in : (l : List Noted) (i : ℕ) (p : Peer) (bytes : List ℕ) → Legal l → length (before l i) ≡ i → MayConfirm (before l i) p bytes
    → IsConfirmation (entries l) i p bytes
confirmed-in l i p bytes legal size may = by (before l i) refl may.is_owed
  where
    by : (v : List Noted) → before l i ≡ v → owed v ≡ Some may.confirmation → IsConfirmation (entries l) i p bytes
    by [] is e = absurd (none-some _ e)
    by (x ∷ older) is e =
        let legal_then : Legal (x ∷ older) = subst Legal is (legal-before l i legal) in
        let it = owed-is older x.written.moment x.written.deed x.note may.confirmation legal_then.2 e in
        let both : length (x ∷ older) ≡ i = sym (ap (λ (v : List Noted). length v) is) ∙ size in
        let len : length older + 1 ≡ i = omega (arith, both) in
        let here : at (before l i) (length older) ≡ Some x = subst (λ (v : List Noted). at v (length older) ≡ Some x) (sym is) (at-new x older) in
        let stands = at-entries l (length older) x (at-before l i (length older) x here) in
        let peer : it.0 ≡ p = it.3.peer ∙ sym may.peer in
        record {
          kind = may.confirmation.kind;
          mid = may.confirmation.mid;
          ack_or_rst = it.3.kind;
          spelled = may.spelled;
          heard = length older;
          just_before = len;
          moment = x.written.moment;
          datagram = it.1;
          stands = subst (λ (p : Peer). IsEntry (entries l) (length older) x.written.moment (Hears p it.1)) peer
              (subst (λ (d : Deed). IsEntry (entries l) (length older) x.written.moment d) it.2 stands);
          id = it.3.id;
        }

-- a first sending bears a timeout
first-timeout : (l : List Noted) (j t o : ℕ) (p : Peer) (b : List ℕ) (w : Option ℕ) (m : Content) → Legal l
    → at l j ≡ Some (noted t (Sends p b w) (First o m)) → (v : ℕ) × IsEntry (entries l) j t (Sends p b (Some v))
first-timeout l j t o p b w m legal stands =
    let may : MayBeFirst (before l j) t o p b m w = (follows-at l j _ legal stands).1.1 in
    (may.wait, subst (λ (w : Option ℕ). IsEntry (entries l) j t (Sends p b w)) may.first_wait (at-entries l j _ stands))

pub accounted-in : (l : List Noted) → Legal l → (i t : ℕ) (p : Peer) (b : List ℕ) (w : Option ℕ) → IsEntry (entries l) i t (Sends p b w)
    → IsAccounted (entries l) i p b w
accounted-in l legal i t p b w e =
    let there = entries-at l i _ e in
    go there.0 there.1 w (follows-at l i _ legal there.1)
  where
    first : (w : Option ℕ) (o : ℕ) (m : Content) → MayBeFirst (before l i) t o p b m w → IsAccounted (entries l) i p b w
    first (Some v) o m may = (m, may.spelled)
    first None o m may = absurd (none-some _ may.first_wait)

    copy : (j : ℕ) (x : Noted) → at l i ≡ Some x → MayBeCopy (before l i) j p b → IsCopy (entries l) i p b
    copy j x here may =
        let it = first-timeout l j may.moment may.opening p b may.timeout may.message legal (at-before l i j _ may.stands) in
        (j, may.moment, it.0, subst (λ (n : ℕ). j < n) (length-before l i x here) (at-below (before l i) j _ may.stands), it.1)

    go : (note : Note) → at l i ≡ Some (noted t (Sends p b w) note) → (v : Option ℕ) → Follows (before l i) t (Sends p b v) note → IsAccounted (entries l) i p b v
    go (First o m) here v f = first v o m f.1.1
    go (Copies j) here v f = subst (IsAccounted (entries l) i p b) (sym f.1.1) (inl (copy j _ here f.1.2))
    go Confirms here v f = subst (IsAccounted (entries l) i p b) (sym f.1.0) (inr (confirmed-in l i p b legal (length-before l i _ here) f.1.1))
    go note here v f = absurd f.1
