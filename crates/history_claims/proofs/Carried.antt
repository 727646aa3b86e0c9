-- What an answer rests on that the journal begins with, as entries.
use Rattle.std.proofs.Common.{◌≡◌, ℕ, zero, List, [], ◌∷◌, Option, Some, None, refl, sym, subst, arith}
use Rattle.std.specs.List.{Contains}
use Rattle.coap_codec.specs.declared.block.Block.{Block}
use Rattle.coap_codec.specs.Spelling.{Content}
use Rattle.uri_map.specs.declared.peer.Peer.{Peer}
use Rattle.ask_model.specs.Requests.{CoapRequest, Sense, Manner, Plainly, Observing, Validating, asking}
use Rattle.journal_book.specs.Entries.{Ground, Asked, Sent, Carries}
use Rattle.history_laws.specs.Readings.{Noted, First, entries, before}
use Rattle.history_laws.specs.Progress.{Reply, numbers, messages}
use Rattle.history_laws.specs.Exchanges.{Begun}
use Rattle.history_laws.specs.Carrying.{carried}
use Rattle.history_laws.specs.Hearing.{IsReplyKind}
use Rattle.history_laws.specs.Justified.{CopiedNote, Follows, Legal}
use Rattle.history_laws.specs.Grounds.{IsCarriedReply}
use Rattle.history_laws.proofs.CallerLemmas.{at-entries, carried-at, contains-later, firsts-tokens, follows-at, is-some}
use Rattle.history_claims.specs.Headline.{IsEntry, AsksFor}
use Rattle.history_claims.specs.Carried.{IsAskCopied, IsCarriedFor, AreCarriedFor}
use Rattle.history_claims.proofs.Sending.{carried-member, first-sent, sending_of}
use Rattle.history_claims.proofs.Waiting.{asks-own, brings}

-- the copy of the ask
pub ask-copied : (l : List Noted) (o : ℕ) (b : Begun) → carried l o ≡ Some b → IsAskCopied (entries l) o b.request
ask-copied l o b e =
    let it = carried-at l o b e in
    record {
      conn = it.conn;
      moment = b.since;
      number = it.old;
      came = it.ask.came;
      rules = it.ask.rules;
      stands = subst (λ (s : Sense). IsEntry (entries l) o b.since (Carries it.old Ground (Asked it.conn (record { came = it.ask.came; sense = s; rules = it.ask.rules }))))
          it.sense (at-entries l o _ it.stands);
    }

-- the message that was sent for it
pub asking-mid : (manner : Manner) (q : CoapRequest) (block : Option Block) (mid : ℕ) (token : List ℕ) → (asking manner q block mid token).mid ≡ mid
asking-mid Plainly q None mid token = refl
asking-mid Observing q None mid token = refl
asking-mid (Validating tag) q None mid token = refl
asking-mid manner q (Some b) mid token = refl

pub asking-token : (manner : Manner) (q : CoapRequest) (block : Option Block) (mid : ℕ) (token : List ℕ) → (asking manner q block mid token).token ≡ token
asking-token Plainly q None mid token = refl
asking-token Observing q None mid token = refl
asking-token (Validating tag) q None mid token = refl
asking-token manner q (Some b) mid token = refl

asks-so : (manner : Manner) (q : CoapRequest) (block : Option Block) (mid : ℕ) (token : List ℕ) → AsksFor q block (asking manner q block mid token)
asks-so manner q block mid token = (manner, asks-own manner q block mid token _ refl)

first-wait : (l : List Noted) (t k o : ℕ) (p : Peer) (b : List ℕ) (w : Option ℕ) (m : Content) → Follows l t (Carries k Ground (Sent p b w)) (First o m)
    → (wait : ℕ) × (w ≡ Some wait)
first-wait l t k o p b w m may = by may.2
  where
    by : CopiedNote l t Ground (Sent p b w) (First o m) → (wait : ℕ) × (w ≡ Some wait)
    by copy = is-some w copy.0.first_wait

-- the copies of its replies
pub carried-for : (l : List Noted) (o : ℕ) (q : CoapRequest) (r : Reply) → Legal l → IsCarriedReply l o q r → IsCarriedFor (entries l) o q r.number r.message
carried-for l o q r legal h =
    let sent : Content = asking h.manner q h.block h.mid r.message.token in
    let wait = first-wait (before l r.sending) h.sent_at h.old o q.peer h.text h.timeout sent (follows-at l r.sending _ legal h.sent) in
    record {
      sending = r.sending;
      sent_at = h.sent_at;
      sent_as = h.old;
      sent = sent;
      text = h.text;
      timeout = wait.0;
      first = subst (λ (w : Option ℕ). IsEntry (entries l) r.sending h.sent_at (Carries h.old Ground (Sent q.peer h.text w))) wait.1
          (at-entries l r.sending _ h.sent);
      sent_spelled = h.asks;
      block = h.block;
      asks = asks-so h.manner q h.block h.mid r.message.token;
      issued = λ i s p n was e.
          let other = first-sent l i s p n legal was in
          firsts-tokens l (sending_of i s other.0 p n) (sending_of r.sending h.sent_at o q.peer sent) legal other.1
          (carried-member l r.sending h.sent_at h.old o Ground q.peer h.text h.timeout sent h.sent) e;
      heard_at = h.moment;
      heard_as = h.number;
      bytes = h.bytes;
      heard = at-entries l r.number _ h.heard;
      spelled = h.spelled;
      order = (h.opened, h.after);
      response = h.response;
      token = asking-token h.manner q h.block h.mid r.message.token;
      kind = brings r.message.kind r.message.mid sent.mid
          (subst (λ (mid : ℕ). IsReplyKind r.message.kind r.message.mid mid) (sym (asking-mid h.manner q h.block h.mid r.message.token)) h.kind);
    }

pub carried-all : (l : List Noted) (o : ℕ) (q : CoapRequest) (rs : List Reply) → Legal l → ((r : Reply) → Contains rs r → IsCarriedReply l o q r)
    → AreCarriedFor (entries l) o q (numbers rs) (messages rs)
carried-all l o q [] legal fits = tt
carried-all l o q (r ∷ rs) legal fits =
    (carried-for l o q r legal (fits r (zero, omega arith, refl)), carried-all l o q rs legal (λ v has. fits v (contains-later r rs v has)))
