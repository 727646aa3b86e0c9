-- What an answer rests on: replies to the exchange that its ask reads.
use Rattle.std.proofs.Common.{◌≡◌, ℕ, zero, suc, Bool, false, ◌<◌, inl, inr, List, [], ◌∷◌, ◌++◌, length, Option, Some, None, refl, sym, ap, subst, ◌∙◌, arith}
use Rattle.std.specs.List.{Contains}
use Rattle.std.proofs.lemmas.List.Elements.{Contains-append_right}
use Rattle.coap_codec.specs.Spelling.{Content}
use Rattle.uri_map.specs.declared.peer.Peer.{Peer}
use Rattle.coap_codec.specs.declared.block.Block.{Block}
use Rattle.uri_map.specs.Limits.{option_with}
use Rattle.ask_model.specs.Requests.{CoapRequest, Requests, Manner, Plainly, asking, request_message, block_message, block_option, block_value, carried_by, uint_bytes}
use Rattle.ask_model.specs.Views.{Ask}
use Rattle.journal_book.specs.Entries.{Grounds, Live, Asks, Answers}
use Rattle.history_laws.specs.Responses.{Response}
use Rattle.history_laws.specs.Readings.{Noted, Note, at}
use Rattle.history_laws.specs.Progress.{Reply, numbers, Ending, Whole}
use Rattle.history_laws.specs.Exchanges.{Begun, begun, kept, turn, replies, heard_for, End, end_here, end_by, end_of}
use Rattle.history_laws.specs.Justified.{IsAsk, Ends as EndsAs, reads_in, reads, HasGrounds, Follows, Legal}
use Rattle.history_laws.specs.Laws.{IsFirst, IsAnswer, IsReplyTo}
use Rattle.history_laws.specs.Grounds.{RestsOn}
use Rattle.history_laws.proofs.Facts.{IsAsk-keeps, IsFirst-keeps}
use Rattle.history_laws.proofs.Answering.{IsAnswer-old}
use Rattle.history_laws.proofs.Replies.{IsReplyTo-keeps, replies-fit}
use Rattle.history_laws.proofs.Sent.{next-is, sent-for}
use Rattle.resp_cache.specs.Stored.{Stored}
use Rattle.history_laws.proofs.Beginnings.{heard-keeps, heard-push}
use Rattle.history_laws.proofs.Going.{goes-so, made-turn}
use Rattle.history_laws.proofs.Joining.{Alike, reader, reader-alike, reads-opened}
use Rattle.history_laws.proofs.Places.{at-keeps, at-same}
use Rattle.history_laws.proofs.Resting.{none-some, some-is}

-- a whole response is made of what was heard for its exchange

abbrev ending : ℕ → Ending → End
ending n how = record { number = n; how = how }

end-how : (k how : Ending) (n e : ℕ) → Some (ending n k) ≡ Some (ending e how) → k ≡ how
end-how k how n e f = ap (λ (x : End). x.how) (some-is _ _ f)

stays-ended : (how : Option Ending) (n : ℕ) (f : End) → end_by how n (Some f) ≡ Some f
stays-ended None n f = refl
stays-ended (Some how) n f = refl

pub made-of : (l : List Noted) (o e : ℕ) (w : Response) (ws : List Reply) (x : Reply) → Legal l → EndsAs l o e (Whole w ws) → Contains ws x → Contains (heard_for l o) x
made-of [] o e w ws x legal h has = cc
made-of (y ∷ older) o e w ws x legal h has =
    step (λ f. made-of older o e w ws x legal.0 f has) (end_here (begun older o) (kept older o) (length older) (heard_for older o) (turn older o y)) refl (end_of older o) refl h
  where
    step : (EndsAs older o e (Whole w ws) → Contains (heard_for older o) x)
        → (how : Option Ending) → end_here (begun older o) (kept older o) (length older) (heard_for older o) (turn older o y) ≡ how
        → (old : Option End) → end_of older o ≡ old → end_by how (length older) old ≡ Some (record { number = e; how = Whole w ws })
        → Contains (heard_for (y ∷ older) o) x
    step ih how is (Some f) was h = heard-keeps y older o x legal.0 (ih (was ∙ (sym (stays-ended how (length older) f) ∙ h)))
    step ih None is None was h = absurd (none-some _ h)
    step ih (Some how) is None was h =
        let m = made-turn (begun older o) (kept older o) (length older) (heard_for older o) (turn older o y) w ws (goes-so older o legal.0 was)
        (is ∙ ap (λ (v : Ending). Some v) (end-how how (Whole w ws) (length older) e h)) in
        subst (λ (rs : List Reply). Contains rs x) (sym (heard-push y older o m.sending m.message m.place m.exchange m.asked m.is))
        (subst (λ (rs : List Reply). Contains rs x) (sym m.made.split) (Contains-append_right m.made.before ws x has))

pub number-of : (rs : List Reply) (j : ℕ) → Contains (numbers rs) j → (r : Reply) × Contains rs r × (r.number ≡ j)
number-of [] j h = absurd (omega (arith, h.1))
number-of (r ∷ rs) j (zero, lt, e) = (r, (zero, omega arith, refl), e)
number-of (r ∷ rs) j (suc i, lt, e) =
    let h = number-of rs j (i, omega arith, e) in
    let place = h.1 in
    (h.0, (suc place.0, let b = place.1 in omega arith, place.2), h.2)

-- A reply to an exchange came to a message that asks just what an equal request means, or for a block of that.
pub record Brought (l : List Noted) (o : ℕ) (q : CoapRequest) (r : Reply) : Type 0 where
  pub fits : IsReplyTo l o r
  pub after : o < r.sending
  pub moment : ℕ
  pub mid : ℕ
  pub token : List ℕ
  pub block : Option Block
  pub manner : Manner
  pub first : IsFirst l moment o r.sending q.peer (asking manner q block mid token)

-- A request that is alike is so with each block.
pub blocks-alike : (q r : CoapRequest) (mid : ℕ) (token : List ℕ) (block : Option Block) → request_message q mid token ≡ request_message r mid token
    → block_message q block mid token ≡ block_message r block mid token
blocks-alike q r mid token None e = e
blocks-alike q r mid token (Some b) e =
    ap (λ (m : Content). record m {
      options = m.options ++ option_with (block_option m.code) (uint_bytes (block_value b)) ∷ [];
      payload = carried_by m.code (Some b) m.payload;
    }) e

pub asking-alike : (manner : Manner) (q r : CoapRequest) (mid : ℕ) (token : List ℕ) (block : Option Block) → Alike q r
    → asking manner q block mid token ≡ asking manner r block mid token
asking-alike manner q r mid token None alike = alike.1 manner mid token
asking-alike manner q r mid token (Some b) alike = blocks-alike q r mid token (Some b) (alike.1 Plainly mid token)

-- The same of what was heard for the exchange.
pub brought-by : (l : List Noted) (o : ℕ) (b : Begun) (q : CoapRequest) (r : Reply) → Legal l → begun l o ≡ Some b → Alike q b.request
    → IsReplyTo l o r → Brought l o q r
brought-by l o b q r legal opened alike fits =
    let sent = sent-for l fits.sent_at o r.sending fits.peer fits.sent legal fits.first in
    let asks = next-is _ sent.exchange.request _ fits.sent.mid fits.sent.token fits.sent sent.next in
    let same : sent.exchange ≡ b = some-is _ _ (sym sent.opened ∙ opened) in
    let peer : fits.peer ≡ q.peer = sent.peer ∙ (ap (λ (b : Begun). b.request.peer) same ∙ sym alike.0) in
    let message : fits.sent ≡ asking asks.1 q asks.0 fits.sent.mid fits.sent.token =
    asks.2 ∙ (ap (λ (b : Begun). asking asks.1 b.request asks.0 fits.sent.mid fits.sent.token) same
    ∙ sym (asking-alike asks.1 q b.request fits.sent.mid fits.sent.token asks.0 alike)) in
    record {
      fits = fits;
      after = sent.after;
      moment = fits.sent_at;
      mid = fits.sent.mid;
      token = fits.sent.token;
      block = asks.0;
      manner = asks.1;
      first = subst (λ (p : Peer). IsFirst l fits.sent_at o r.sending p (asking asks.1 q asks.0 fits.sent.mid fits.sent.token)) peer
          (subst (λ (m : Content). IsFirst l fits.sent_at o r.sending fits.peer m) message fits.first);
    }

pub brought : (l : List Noted) (o : ℕ) (b : Begun) (q : CoapRequest) (r : Reply) → Legal l → begun l o ≡ Some b → Alike q b.request
    → Contains (replies l o) r → Brought l o q r
brought l o b q r legal opened alike has = brought-by l o b q r legal opened alike (replies-fit l o r legal has)

pub rests-own : (l : List Noted) (k o : ℕ) (r : Reply) → Legal l → reads l k ≡ Some o → Contains (replies l o) r → RestsOn l k r.number
rests-own l k o r legal e has =
    let it = reader l k o legal e in
    let came = brought l o it.exchange it.request r legal it.opened (reader-alike l k o it) has in
    record {
      conn = it.conn;
      ask = it.ask;
      request = it.request;
      asked = it.asked;
      sense = it.sense;
      opening = o;
      reads = e;
      not_later = (reads-opened l k o legal e).0;
      reply = r;
      number = refl;
      fits = came.fits;
      after = came.after;
      moment = came.moment;
      mid = came.mid;
      token = came.token;
      block = came.block;
      manner = came.manner;
      first = came.first;
    }

pub grounds-of : (l : List Noted) (t c k : ℕ) (g : Grounds) (note : Note) → Follows l t (Answers c k g) note → HasGrounds l t k g
grounds-of l t c k g note f = f.3

pub requests-same : (l : List Noted) (k c d : ℕ) (a b : Ask) (q r : CoapRequest) → IsAsk l k c a → IsAsk l k d b → a.sense ≡ Requests q → b.sense ≡ Requests r
    → q ≡ r
requests-same l k c d a b q r f g e h =
    let same : Asks c a ≡ Asks d b = ap (λ (x : Noted). x.written.deed) (at-same l k _ _ f.stands g.stands) in
    request (sym e ∙ (ap (λ (a : Ask). a.sense) (ask same) ∙ h))
  where
    ask : Asks c a ≡ Asks d b → a ≡ b
    ask i = cc

    request : Requests q ≡ Requests r → q ≡ r
    request i = cc
