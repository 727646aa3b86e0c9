-- For which ask each message was sent, and that those for a write are its message, or its body in blocks.
use Rattle.std.proofs.Common.{◌≡◌, ◌≢◌, ◌⊎◌, ℕ, ◌+◌, ◌<◌, ◌≤◌, inl, inr, List, length, Option, Some, None, sym, ap, subst, ◌∙◌}
use Rattle.coap_codec.specs.declared.block.Block.{Block}
use Rattle.coap_codec.specs.Spelling.{Content}
use Rattle.blockwise.specs.Reading.{offset_in}
use Rattle.uri_map.specs.declared.peer.Peer.{Peer}
use Rattle.ask_model.specs.Requests.{CoapRequest, Requests, Plainly, block_message, carried_by}
use Rattle.history_laws.specs.Readings.{Noted, Note, First, entries, at}
use Rattle.history_laws.specs.Exchanges.{Begun, begun}
use Rattle.history_laws.specs.Justified.{Legal}
use Rattle.history_laws.specs.Laws.{IsFirst, IsSending, IsPart, WritesInOrder, block_sent}
use Rattle.history_claims.specs.Headline.{IsAsked, IsFirstSending, IsSentFor, IsResponse, IsOpen}
use Rattle.history_claims.specs.Order.{MayAsk, SaysMore, IsSendingFor, IsSentAsSaid, CanBeSpared, AreSentFor}
use Rattle.history_claims.proofs.AtHand.{spared-in}
use Rattle.history_claims.proofs.Manners.{AskedSo, asked-so}
use Rattle.history_claims.proofs.Pending.{sent-open}
use Rattle.history_claims.proofs.Remaining.{more-left, says-more}
use Rattle.history_claims.proofs.Replied.{replied}
use Rattle.history_claims.proofs.Sending.{first-entry, first-of, sent-block, sent-in}
use Rattle.history_laws.proofs.CallerLemmas.{asking-plain}

-- the ask that a note names, and the block of its body that the message brings
abbrev owner_by : Note → ℕ
owner_by (First o m) = o
owner_by note = 0

abbrev owner_at : Option Noted → ℕ
owner_at None = 0
owner_at (Some x) = owner_by x.note

abbrev owner_in : List Noted → ℕ → ℕ
owner_in l i = owner_at (at l i)

abbrev block_by : List Noted → ℕ → ℕ → Option Begun → Option Block
block_by l o i None = None
block_by l o i (Some b) = block_sent l o b.request i

abbrev block_in : List Noted → ℕ → Option Block
block_in l i = block_by l (owner_in l i) i (begun l (owner_in l i))

owner-is : (l : List Noted) (t o i : ℕ) (p : Peer) (m : Content) → IsFirst l t o i p m → owner_in l i ≡ o
owner-is l t o i p m f = ap owner_at f.stands

module _ (l : List Noted) (legal : Legal l) (o : ℕ) (b : Begun) (opened : begun l o ≡ Some b) where
  block-is : (i : ℕ) → owner_in l i ≡ o → block_in l i ≡ block_sent l o b.request i
  block-is i own =
      subst (λ (w : ℕ). block_by l w i (begun l w) ≡ block_sent l o b.request i) (sym own)
      (ap (block_by l o i) opened)

  sending-to : (j : ℕ) → IsSending l o j → IsSendingFor (entries l) (owner_in l) o j
  sending-to j s = (owner-is l s.0 o j s.1 s.2 s.3, s.0, s.1, s.2, first-entry l s.0 o j s.1 s.2 legal s.3)

  sending-from : (j : ℕ) → IsSendingFor (entries l) (owner_in l) o j → IsSending l o j
  sending-from j s =
      let it = first-of l j s.1 s.2 s.3 legal s.4 in
      let same : it.0 ≡ o = sym (owner-is l s.1 it.0 j s.2 s.3 it.1) ∙ s.0 in
      (s.1, s.2, s.3, subst (λ (o : ℕ). IsFirst l s.1 o j s.2 s.3) same it.1)

  abbrev Series : ℕ → ℕ → Type 0
  Series i w =
      (((j : ℕ) → IsSendingFor (entries l) (owner_in l) w j → i ≤ j) × (offset_in (block_in l i) ≡ 0))
      ⊎ ((j : ℕ) × IsSendingFor (entries l) (owner_in l) w j × (j < i)
      × ((k : ℕ) → IsSendingFor (entries l) (owner_in l) w k → k < i → k ≤ j)
      × (offset_in (block_in l j) + length (carried_by b.request.method (block_in l j) b.request.body) ≡ offset_in (block_in l i))
      × (offset_in (block_in l i) < length b.request.body))

  series-of : (i : ℕ) → owner_in l i ≡ o → b.request.method ≢ 1 → IsSending l o i → IsPart l o b.request i → Series i o
  series-of i own write sends (inl first) =
      inl (λ j s. first.0 j (sending-from j s), ap offset_in (block-is i own) ∙ first.1)
  series-of i own write sends (inr later) =
      let j : ℕ = later.0 in
      let s = sending-to j later.1 in
      let there = block-is j s.0 in
      inr (
        j,
        s,
        later.2,
        λ k h lt. later.3 k (sending-from k h) lt,
        ap (λ (c : Option Block). offset_in c + length (carried_by b.request.method c b.request.body)) there
            ∙ (later.4 ∙ ap offset_in (sym (block-is i own))),
        subst (λ (c : Option Block). offset_in c < length b.request.body) (sym (block-is i own))
            (more-left l o b legal opened write i sends j later.1 later.2),
      )

-- what a message is sent for, by whom, and in which manner
abbrev IsFor : List Noted → CoapRequest → Option Block → ℕ → Content → ℕ → Type 0
IsFor l q part i m o = IsOpen (entries l) i o q × (s : IsSentFor (entries l) o q part i m) × MayAsk (entries l) o q s.asks.0

sent-as-said : WritesInOrder → (l : List Noted) → Legal l → (i t : ℕ) (p : Peer) (m : Content) → IsFirstSending (entries l) i t p m
    → IsSentAsSaid (entries l) (owner_in l) (block_in l) i m
sent-as-said law l legal i t p m f =
    let first = first-of l i t p m legal f in
    let o : ℕ = first.0 in
    let it = sent-in l t o i p m legal first.1 in
    let own : owner_in l i ≡ o = owner-is l t o i p m first.1 in
    let b : Begun = it.exchange in
    let so : AskedSo l o b.request m = asked-so l legal o b it.opened t i p m first.1 in
    let sent : IsSentFor (entries l) o b.request so.block i m = sent-block (entries l) o b.request it.block so.block i m (so.manner, so.asks) it.sent_for in
    let for_it : IsFor l b.request so.block i m (owner_in l i) =
    subst (IsFor l b.request so.block i m) (sym own) (sent-open l t o i p m b legal first.1 it.opened, sent, so.may) in
    record {
      request = b.request;
      pending = for_it.0;
      part = so.block;
      sent_for = for_it.1;
      manner = for_it.2;
      series = λ write.
          let whole = law l t o i p m b legal it.opened write first.1 in
          let asks = whole.0 ∙ (ap (λ (c : Option Block). block_message b.request c m.mid m.token) (sym (block-is l legal o b it.opened i own))
          ∙ sym (asking-plain b.request (block_in l i) m.mid m.token)) in (
            subst (λ (o : ℕ). IsSentFor (entries l) o b.request (block_in l i) i m) (sym own)
                (sent-block (entries l) o b.request it.block (block_in l i) i m (Plainly, asks) it.sent_for),
            subst (Series l legal o b it.opened i) (sym own) (series-of l legal o b it.opened i own write (t, p, m, first.1) whole.1),
            subst (λ (c : Option Block). SaysMore c b.request.body) (sym (block-is l legal o b it.opened i own))
                (says-more l o b legal it.opened write i (t, p, m, first.1)),
          );
    }

replied-in : (l : List Noted) → Legal l → (i j s t : ℕ) (p r : Peer) (m n : Content) → IsFirstSending (entries l) i s p m
    → IsFirstSending (entries l) j t r n → owner_in l i ≡ owner_in l j → i < j → (k : ℕ) × (x : Content) × (k < j) × IsResponse (entries l) p i m k x
replied-in l legal i j s t p r m n f g same lt =
    let a = first-of l i s p m legal f in
    let c = first-of l j t r n legal g in
    let one : a.0 ≡ c.0 = sym (owner-is l s a.0 i p m a.1) ∙ (same ∙ owner-is l t c.0 j r n c.1) in
    replied l legal c.0 s t i j p r m n (subst (λ (o : ℕ). IsFirst l s o i p m) one a.1) c.1 lt

spared : (l : List Noted) → Legal l → (k c t i s : ℕ) (p : Peer) (m : Content) (q : CoapRequest) → IsAsked (entries l) k c t (Requests q)
    → CanBeSpared (entries l) k t q → IsFirstSending (entries l) i s p m → owner_in l i ≢ k
spared l legal k c t i s p m q asked can f same =
    let a = first-of l i s p m legal f in
    let one : a.0 ≡ k = sym (owner-is l s a.0 i p m a.1) ∙ same in
    spared-in l legal k c t q asked can s i p m (subst (λ (o : ℕ). IsFirst l s o i p m) one a.1)

pub are-sent-for : WritesInOrder → (l : List Noted) → Legal l → AreSentFor (entries l)
are-sent-for law l legal =
    record {
      owner = owner_in l;
      block = block_in l;
      each = sent-as-said law l legal;
      replied = replied-in l legal;
      spared = spared l legal;
    }
