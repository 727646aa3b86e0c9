-- Replies and notifications are heard under the token of a message that was sent for a request.
use Rattle.std.proofs.Common.{ℕ, ◌≤◌, inl, inr, List, [], ◌∷◌, Option, None, sym, subst, ◌∙◌, arith}
use Rattle.coap_codec.specs.Spelling.{Content}
use Rattle.coap_codec.specs.declared.block.Block.{Block}
use Rattle.uri_map.specs.declared.peer.Peer.{Peer}
use Rattle.ask_model.specs.Requests.{CoapRequest}
use Rattle.journal_book.specs.Entries.{Written}
use Rattle.history_laws.specs.Progress.{Point, block_for, first_point, point_after}
use Rattle.history_claims.specs.Headline.{AreHeardFor, AreHeardOn, IsFirstSending, IsNotified, IsResponse, IsSameGet, IsSentFor, IsShared, RestsOn}
use Rattle.history_claims.specs.Stored.{WasHeardHere}
use Rattle.story_laws.specs.Reads.{AreToldFor, IsToldFor}

-- What was sent after an entry was sent after an older one,
pub sent-since : (h : List Written) (q : CoapRequest) (k o : ℕ) (b : Option Block) (i : ℕ) (m : Content) → k ≤ o → IsSentFor h o q b i m → IsSentFor h k q b i m
sent-since h q k o b i m le x =
    let after = x.after in
    record { after = omega (arith, le, after); moment = x.moment; first = x.first; asks = x.asks; issued = x.issued }

-- and what was sent for a GET was sent for one that asks the same.
same-sent : (h : List Written) (k : ℕ) (q r : CoapRequest) (i : ℕ) (m : Content) → IsSameGet q r → IsSentFor h k r None i m → IsSentFor h k q None i m
same-sent h k q r i m same x = record {
  after = x.after;
  moment = x.moment;
  first = subst (λ (p : Peer). IsFirstSending h i x.moment p m) (sym same.1) x.first;
  asks = (x.asks.0, x.asks.1 ∙ sym (same.2 x.asks.0 m.mid m.token));
  issued = x.issued;
}

-- A notification is heard so.
notice-told : (h : List Written) (o : ℕ) (q r : CoapRequest) (j : ℕ) (m : Content) → IsSameGet q r → IsNotified h o r j m → IsToldFor h o q j m
notice-told h o q r j m same x =
    let asked = x.observed.heard in record {
      block = None;
      sending = asked.sending;
      sent = asked.sent;
      sent_for = same-sent h o q r asked.sending asked.sent same asked.sent_for;
      response = subst (λ (p : Peer). IsResponse h p asked.sending asked.sent j m) (sym same.1) x.response;
    }

-- Replies, one after another, were heard for what was asked before.
pub replies-told : (h : List Written) (k o : ℕ) (q : CoapRequest) (point : Point) (js : List ℕ) (ms : List Content) → k ≤ o
    → AreHeardFor h o q point js ms → AreToldFor h k q js ms
replies-told h k o q point [] [] le x = tt
replies-told h k o q point [] (m ∷ ms) le x = absurd x
replies-told h k o q point (j ∷ js) [] le x = absurd x
replies-told h k o q point (j ∷ js) (m ∷ ms) le x =
    let it = x.0 in
    let sent = it.sent_for.after in
    let came = it.response.after in (
      record {
        block = block_for point;
        sending = it.sending;
        sent = it.sent;
        sent_for = sent-since h q k o (block_for point) it.sending it.sent le it.sent_for;
        response = it.response;
      },
      replies-told h k j q (point_after point m) js ms (omega (arith, le, sent, came)) x.1,
    )

-- So were those of which the first is a notification.
pub notices-told : (h : List Written) (o : ℕ) (q : CoapRequest) (js : List ℕ) (ms : List Content) → AreHeardOn h o q js ms → AreToldFor h o q js ms
notices-told h o q [] ms x = absurd x
notices-told h o q (j ∷ js) [] x = absurd x
notices-told h o q (j ∷ js) (m ∷ ms) x =
    let first = x.0.2 in
    let sent = first.observed.heard.sent_for.after in
    let came = first.response.after in
    (notice-told h o q x.0.0 j m x.0.1 first, replies-told h o j q (point_after (first_point q) m) js ms (omega (arith, sent, came)) x.1)

-- ---- what answers rest on

-- What was begun for an ask was begun by it, or later.
opening-first : (h : List Written) (c k n o since : ℕ) (q : CoapRequest) → IsShared h c k q n o since → o ≤ n
opening-first h c k n o since q s = elim s.shares [
  | inl own ↦ let here = own.0 in let there = own.1 in omega (arith, here, there)
  | inr other ↦ elim other [
    | inl joined ↦ let same = joined.0 in omega (arith, same)
    | inr fetched ↦
        let told = fetched.fetching.notified in
        let sent = told.observed.heard.sent_for.after in
        let came = told.response.after in
        omega (arith, sent, came)
  ]
]

pub rests-told : (h : List Written) (n c k : ℕ) (js : List ℕ) (r : RestsOn h n c k js) → AreToldFor h r.opening r.request js r.messages
rests-told h n c k js r = elim r.heard [
  | inl x ↦
      replies-told h r.opening r.entry r.request (first_point r.request) js r.messages (opening-first h c k r.entry r.opening r.since r.request r.shared) x
  | inr x ↦ notices-told h r.opening r.request js r.messages x.1
]

pub kept-told : (h : List Written) (o : ℕ) (q : CoapRequest) (js : List ℕ) (ms : List Content) (since : ℕ) → WasHeardHere h o q js ms since → AreToldFor h o q js ms
kept-told h o q js ms since w = elim w.heard [
  | inl x ↦ replies-told h o o q (first_point q) js ms (omega arith) x
  | inr x ↦ notices-told h o q js ms x
]
