-- First sendings among the entries, and what they were sent for.
use Rattle.std.proofs.Common.{◌≡◌, ◌⊎◌, ℕ, zero, eqb, inl, inr, List, [], ◌∷◌, length, Option, Some, refl, sym, ap, subst, ◌∙◌, arith}
use Rattle.std.specs.List.{Contains}
use Rattle.coap_codec.specs.Spelling.{Content, Spells}
use Rattle.coap_codec.proofs.Unique.{spells_one}
use Rattle.coap_codec.specs.declared.block.Block.{Block}
use Rattle.uri_map.specs.declared.peer.Peer.{Peer}
use Rattle.ask_model.specs.Requests.{CoapRequest}
use Rattle.journal_book.specs.Entries.{Mark, Ground, Past, Sent, Deed, Sends, Carries, Written}
use Rattle.history_laws.specs.Readings.{Noted, Note, First, Copies, Confirms, Bygone, entries, at, before, noted}
use Rattle.history_laws.specs.Transmissions.{FirstSending, firsts_by, firsts}
use Rattle.history_laws.specs.Exchanges.{Begun, begun}
use Rattle.history_laws.specs.Justified.{MayBeFirst, IsApart, CopiedNote, Follows, Legal}
use Rattle.history_laws.specs.Laws.{IsFirst}
use Rattle.history_laws.proofs.CallerLemmas.{at-before, at-entries, at-old, contains-later, find-some, first-found, firsts-tokens, follows-at, is-some, IsListed, next-is, none-some, sent-for, some-is}
use Rattle.history_claims.specs.Headline.{IsFirstSending, WasFirstSent, IsSentFor, AsksFor}
use Rattle.history_claims.proofs.Entries.{entries-at, own-or-copied}

-- a sending with a timeout is a first one, of the message that it spells
first-note : (l : List Noted) (t : ℕ) (p : Peer) (b : List ℕ) (w : ℕ) (note : Note) → Follows l t (Sends p b (Some w)) note
    → (o : ℕ) × (m : Content) × (note ≡ First o m) × Spells m b
first-note l t p b w (First o m) f = (o, m, refl, f.1.1.spelled)
first-note l t p b w (Copies i) f = absurd (none-some w (sym f.1.1))
first-note l t p b w Confirms f = absurd (none-some w (sym f.1.0))
first-note l t p b w note f = absurd f.1

pub first-of : (l : List Noted) (i t : ℕ) (p : Peer) (m : Content) → Legal l → IsFirstSending (entries l) i t p m
    → (o : ℕ) × IsFirst l t o i p m
first-of l i t p m legal f =
    let there = entries-at l i _ f.stands in
    let it = first-note (before l i) t p f.bytes f.timeout there.0 (follows-at l i _ legal there.1) in
    let same : it.1 ≡ m = spells_one it.1 m f.bytes it.3 f.spelled in (
      it.0,
      record {
        bytes = f.bytes;
        timeout = Some f.timeout;
        stands = subst (λ (m : Content). at l i ≡ Some (noted t (Sends p f.bytes (Some f.timeout)) (First it.0 m))) same
            (subst (λ (note : Note). at l i ≡ Some (noted t (Sends p f.bytes (Some f.timeout)) note)) it.2 there.1);
      },
    )

pub first-entry : (l : List Noted) (t o i : ℕ) (p : Peer) (m : Content) → Legal l → IsFirst l t o i p m → IsFirstSending (entries l) i t p m
first-entry l t o i p m legal f =
    let may : MayBeFirst (before l i) t o p f.bytes m f.timeout = (follows-at l i _ legal f.stands).1.1 in
    record {
      bytes = f.bytes;
      timeout = may.wait;
      stands = at-entries l i _ (subst (λ (w : Option ℕ). at l i ≡ Some (noted t (Sends p f.bytes w) (First o m))) may.first_wait f.stands);
      spelled = may.spelled;
    }

-- What was first sent is listed, whether here or as a copy.
abbrev pub sending_of : ℕ → ℕ → ℕ → Peer → Content → FirstSending
sending_of i t o p m = record { number = i; moment = t; opening = o; peer = p; message = m }

pub first-member : (l : List Noted) (t o i : ℕ) (p : Peer) (m : Content) → IsFirst l t o i p m → Contains (firsts l) (sending_of i t o p m)
first-member l t o i p m f = (find-some (λ (f : FirstSending). eqb f.number i) (firsts l) (sending_of i t o p m) (first-found l t o i p m f)).0

firsts-keep : (n t : ℕ) (d : Deed) (note : Note) (old : List FirstSending) (f : FirstSending) → Contains old f → Contains (firsts_by n t d note old) f
firsts-keep n t (Sends p b w) (First o m) old f h = contains-later (sending_of n t o p m) old f h
firsts-keep n t (Carries k mark (Sent p b w)) (Bygone m) old f h = contains-later (sending_of n t n p m) old f h
firsts-keep n t (Carries k mark (Sent p b w)) (First o m) old f h = contains-later (sending_of n t o p m) old f h
firsts-keep n t d note old f h = h

copy-member : (l : List Noted) (i t k : ℕ) (mark : Mark) (p : Peer) (b : List ℕ) (w : Option ℕ) (m : Content)
    → at l i ≡ Some (noted t (Carries k mark (Sent p b w)) (Bygone m)) → Contains (firsts l) (sending_of i t i p m)
copy-member [] i t k mark p b w m e = absurd (none-some _ e)
copy-member (x ∷ older) i t k mark p b w m e =
    let copy : Noted = noted t (Carries k mark (Sent p b w)) (Bygone m) in
    elim (at-old x older i copy e) [
      | inl u ↦
          subst (λ (v : Noted). Contains (firsts (v ∷ older)) (sending_of i t i p m)) (sym u.1)
          (subst (λ (n : ℕ). Contains (firsts (copy ∷ older)) (sending_of n t n p m)) (sym u.0) (zero, omega arith, refl))
      | inr u ↦
          firsts-keep (length older) x.written.moment x.written.deed x.note (firsts older) (sending_of i t i p m)
          (copy-member older i t k mark p b w m u)
    ]

pub carried-member : (l : List Noted) (i t k o : ℕ) (mark : Mark) (p : Peer) (b : List ℕ) (w : Option ℕ) (m : Content)
    → at l i ≡ Some (noted t (Carries k mark (Sent p b w)) (First o m)) → Contains (firsts l) (sending_of i t o p m)
carried-member [] i t k o mark p b w m e = absurd (none-some _ e)
carried-member (x ∷ older) i t k o mark p b w m e =
    let copy : Noted = noted t (Carries k mark (Sent p b w)) (First o m) in
    elim (at-old x older i copy e) [
      | inl u ↦
          subst (λ (v : Noted). Contains (firsts (v ∷ older)) (sending_of i t o p m)) (sym u.1)
          (subst (λ (n : ℕ). Contains (firsts (copy ∷ older)) (sending_of n t o p m)) (sym u.0) (zero, omega arith, refl))
      | inr u ↦
          firsts-keep (length older) x.written.moment x.written.deed x.note (firsts older) (sending_of i t o p m)
          (carried-member older i t k o mark p b w m u)
    ]

copied-first : (l : List Noted) (i t k : ℕ) (mark : Mark) (p : Peer) (b : List ℕ) (w : Option ℕ) (m : Content) (note : Note)
    → at l i ≡ Some (noted t (Carries k mark (Sent p b w)) note) → Spells m b → CopiedNote (before l i) t mark (Sent p b w) note
    → (o : ℕ) × Contains (firsts l) (sending_of i t o p m)
copied-first l i t k Past p b w m (Bygone n) e spelled may = (
  i,
  subst (λ (m : Content). Contains (firsts l) (sending_of i t i p m)) (spells_one n m b may.spelled spelled) (copy-member l i t k Past p b w n e),
)
copied-first l i t k Ground p b w m (First o n) e spelled may = (
  o,
  subst (λ (m : Content). Contains (firsts l) (sending_of i t o p m)) (spells_one n m b may.0.spelled spelled)
      (carried-member l i t k o Ground p b w n e),
)
copied-first l i t k mark p b w m note e spelled may = absurd may

pub first-sent : (l : List Noted) (i t : ℕ) (p : Peer) (m : Content) → Legal l → WasFirstSent (entries l) i t p m
    → (o : ℕ) × Contains (firsts l) (sending_of i t o p m)
first-sent l i t p m legal f =
    elim (own-or-copied (entries l) i t (Sent p f.bytes (Some f.timeout)) f.done) [
      | inl own ↦
          let it = first-of l i t p m legal (record { bytes = f.bytes; timeout = f.timeout; stands = own; spelled = f.spelled }) in
          (it.0, first-member l t it.0 i p m it.1)
      | inr old ↦
          let there = entries-at l i _ old.2 in
          copied-first l i t old.0 old.1 p f.bytes (Some f.timeout) m there.0 there.1 f.spelled (follows-at l i _ legal there.1).2
    ]

-- And what is listed was first sent.
own-first : (h : List Written) (i t : ℕ) (p : Peer) (m : Content) → IsFirstSending h i t p m → WasFirstSent h i t p m
own-first h i t p m f =
    record {
      bytes = f.bytes;
      timeout = f.timeout;
      done = record { deed = Sends p f.bytes (Some f.timeout); stands = f.stands; says = refl };
      spelled = f.spelled;
    }

copy-apart : (l : List Noted) (t o : ℕ) (mark : Mark) (p : Peer) (b : List ℕ) (w : Option ℕ) (m : Content) (note : Note)
    → CopiedNote l t mark (Sent p b w) note → (note ≡ Bygone m) ⊎ (note ≡ First o m) → IsApart l t p b m w
copy-apart l t o mark p b w m note may is =
    elim is [
      | inl u ↦ bygone mark (subst (CopiedNote l t mark (Sent p b w)) u may)
      | inr u ↦ carried mark (subst (CopiedNote l t mark (Sent p b w)) u may)
    ]
  where
    bygone : (mark : Mark) → CopiedNote l t mark (Sent p b w) (Bygone m) → IsApart l t p b m w
    bygone Past may = may
    bygone Ground may = absurd may

    carried : (mark : Mark) → CopiedNote l t mark (Sent p b w) (First o m) → IsApart l t p b m w
    carried Past may = absurd may
    carried Ground may = may.0

pub listed-sent : (l : List Noted) (f : FirstSending) → Legal l → IsListed l f → WasFirstSent (entries l) f.number f.moment f.peer f.message
listed-sent l f legal (inl h) =
    own-first (entries l) f.number f.moment f.peer f.message (first-entry l f.moment f.opening f.number f.peer f.message legal h)
listed-sent l f legal (inr h) =
    let is : (h.note ≡ Bygone f.message) ⊎ (h.note ≡ First f.opening f.message) = elim (h.own) [ inl u ↦ inl u.0 | inr u ↦ inr u ] in
    let may = copy-apart (before l f.number) f.moment f.opening h.mark f.peer h.bytes h.timeout f.message h.note (follows-at l f.number _ legal h.stands).2 is in
    let wait = is-some h.timeout may.first_wait in
    record {
      bytes = h.bytes;
      timeout = wait.0;
      done = record {
        deed = Carries h.old h.mark (Sent f.peer h.bytes h.timeout);
        stands = at-entries l f.number _ h.stands;
        says = ap (λ (w : Option ℕ). Some (Sent f.peer h.bytes w)) wait.1;
      };
      spelled = may.spelled;
    }

-- a first sending was sent for the request that its exchange was opened for, or for a block of it
pub record SentIn (l : List Noted) (o i : ℕ) (p : Peer) (m : Content) : Type 0 where
  pub exchange : Begun
  pub opened : begun l o ≡ Some exchange
  pub peer : p ≡ exchange.request.peer
  pub block : Option Block
  pub sent_for : IsSentFor (entries l) o exchange.request block i m

pub sent-in : (l : List Noted) (t o i : ℕ) (p : Peer) (m : Content) → Legal l → IsFirst l t o i p m → SentIn l o i p m
sent-in l t o i p m legal f =
    let it = sent-for l t o i p m legal f in
    let asks = next-is _ it.exchange.request _ m.mid m.token m it.next in
    record {
      exchange = it.exchange;
      opened = it.opened;
      peer = it.peer;
      block = asks.0;
      sent_for = record {
        after = it.after;
        moment = t;
        first = subst (λ (p : Peer). IsFirstSending (entries l) i t p m) it.peer (first-entry l t o i p m legal f);
        asks = (asks.1, asks.2);
        issued = λ j s r n g e.
            let other = first-sent l j s r n legal g in
            firsts-tokens l (sending_of j s other.0 r n) (sending_of i t o p m) legal other.1 (first-member l t o i p m f) e;
      };
    }

pub sent-as : (l : List Noted) (t o i : ℕ) (p : Peer) (m : Content) (b : Begun) → Legal l → begun l o ≡ Some b → IsFirst l t o i p m
    → (p ≡ b.request.peer) × (block : Option Block) × IsSentFor (entries l) o b.request block i m
sent-as l t o i p m b legal e f =
    let it = sent-in l t o i p m legal f in
    subst (λ (b : Begun). (p ≡ b.request.peer) × (block : Option Block) × IsSentFor (entries l) o b.request block i m) (some-is it.exchange b (sym it.opened ∙ e))
    (it.peer, it.block, it.sent_for)

-- What asks for a block was sent for that.
abbrev pub sent-block : (h : List Written) (o : ℕ) (q : CoapRequest) (block other : Option Block) (i : ℕ) (m : Content)
    → AsksFor q other m → IsSentFor h o q block i m → IsSentFor h o q other i m
sent-block h o q block other i m asks s =
    record { after = s.after; moment = s.moment; first = s.first; asks = asks; issued = s.issued }

pub first-before : (l : List Noted) (n t o i : ℕ) (p : Peer) (m : Content) → IsFirst (before l n) t o i p m → IsFirst l t o i p m
first-before l n t o i p m f = record { bytes = f.bytes; timeout = f.timeout; stands = at-before l n i _ f.stands }
