-- A notification that counts for a watch is one of what an ask observes.
use Rattle.std.proofs.Common.{◌≡◌, ℕ, ◌<◌, true, List, Some, None, sym, ap, subst, ◌∙◌, arith}
use Rattle.std.proofs.lemmas.Bool.{false≢true, and_parts}
use Rattle.coap_codec.specs.declared.message.MsgType.{MsgType}
use Rattle.coap_codec.specs.declared.message.MsgType.TheVariants.{Con, Non, Ack, Rst}
use Rattle.coap_codec.specs.Spelling.{Content, Spells}
use Rattle.coap_codec.proofs.Unique.{spells_one}
use Rattle.uri_map.specs.declared.peer.Peer.{Peer}
use Rattle.ask_model.specs.Requests.{CoapRequest, Sense, Requests, Observing, observe_message}
use Rattle.ask_model.specs.Sharing.{asked_key, is_get}
use Rattle.ask_model.specs.Observing.{is_named}
use Rattle.ask_model.specs.Views.{Ask}
use Rattle.journal_book.specs.Entries.{Asks, Sends, Written}
use Rattle.history_laws.specs.Responses.{Response}
use Rattle.history_laws.specs.Readings.{Noted, entries, at, before}
use Rattle.history_laws.specs.Progress.{Reply}
use Rattle.history_laws.specs.Exchanges.{Begun, begun}
use Rattle.history_laws.specs.Observing.{Watch}
use Rattle.history_laws.specs.Hearing.{is_such}
use Rattle.history_laws.specs.Storing.{UpdatesSo}
use Rattle.history_laws.specs.Justified.{Legal}
use Rattle.history_laws.specs.Laws.{IsFirst, IsFetched, IsReplyTo}
use Rattle.history_laws.proofs.CallerLemmas.{at-before, at-below, at-entries, at-same, begun-before, IsNews, legal-before, length-before, news-fits, replies-fit, some-is, started, StartedFor, update-news, WatchFits, IsTold, news-told, tell-fits}
use Rattle.history_claims.specs.Headline.{IsEntry, IsFirstSending, IsResponse, IsHeardFor, IsNew, BringsResponse, MayRepeat, IsNotified}
use Rattle.history_claims.proofs.Entries.{entries-at}
use Rattle.history_claims.proofs.Repeats.{heard-entry, says-new}
use Rattle.history_claims.proofs.Sending.{first-entry}
use Rattle.history_claims.proofs.Waiting.{heard-so}

-- One entry sent one message, to one endpoint.
pub one-sent : (h : List Written) (i s t : ℕ) (p r : Peer) (m n : Content) → IsFirstSending h i s p m → IsFirstSending h i t r n → (p ≡ r) × (m ≡ n)
one-sent h i s t p r m n f g =
    let same : Sends p f.bytes (Some f.timeout) ≡ Sends r g.bytes (Some g.timeout) =
    ap (λ (x : Written). x.deed) (some-is _ _ (sym f.stands ∙ g.stands)) in (
      peers f.bytes g.bytes f.timeout g.timeout same,
      spells_one m n f.bytes f.spelled (subst (Spells n) (sym (texts f.bytes g.bytes f.timeout g.timeout same)) g.spelled),
    )
  where
    peers : (b c : List ℕ) (v w : ℕ) → Sends p b (Some v) ≡ Sends r c (Some w) → p ≡ r
    peers b c v w e = cc

    texts : (b c : List ℕ) (v w : ℕ) → Sends p b (Some v) ≡ Sends r c (Some w) → b ≡ c
    texts b c v w e = cc

such-may : (k : MsgType) → is_such k ≡ true → MayRepeat k
such-may Con e = tt
such-may Non e = tt
such-may Ack e = absurd (false≢true e)
such-may Rst e = absurd (false≢true e)

such-brings : (k : MsgType) (mid sent : ℕ) → is_such k ≡ true → BringsResponse k mid sent
such-brings Con mid sent e = tt
such-brings Non mid sent e = tt
such-brings Ack mid sent e = absurd (false≢true e)
such-brings Rst mid sent e = absurd (false≢true e)

-- what it is one of
pub record Notified (l : List Noted) (e : ℕ) (w : Watch) (m : Content) : Type 0 where
  pub exchange : Begun
  pub opened : begun l w.held.opening ≡ Some exchange
  pub key : w.held.key ≡ asked_key exchange.request
  pub get : is_get exchange.request ≡ true
  pub is : IsNotified (entries l) w.held.opening exchange.request e m
  pub sending : is.observed.heard.sending ≡ w.sending

pub notified-by : (l : List Noted) (e : ℕ) (w : Watch) → Legal l → (n : IsTold l e w) → Notified l e w n.message
notified-by l e w legal n =
    let f = tell-fits l e w legal n in
    let fit : WatchFits (before l e) w = f.watched in
    let o : ℕ = w.held.opening in
    let b : Begun = fit.exchange in
    let q : CoapRequest = b.request in
    let r : Reply = fit.reply in
    let opened : begun l o ≡ Some b = begun-before l e o b fit.opened in
    let fits : IsReplyTo (before l e) o r = replies-fit (before l e) o r (legal-before l e legal) fit.replied in
    let first : IsFirst (before l e) fit.moment o r.sending q.peer (observe_message q fit.mid w.held.token) =
    subst (λ (i : ℕ). IsFirst (before l e) fit.moment o i q.peer (observe_message q fit.mid w.held.token)) (sym fit.under) fit.first in
    let fetched : IsFetched (before l e) o q None r =
    record { fits = fits; moment = fit.moment; mid = fit.mid; token = w.held.token; manner = Observing; first = first } in
    let heard = heard-so l e o r b _ None legal opened n.stands fit.replied fetched in
    let it : IsHeardFor (entries l) o q None r.number r.message = heard.0 in
    let sending : n.sending ≡ it.sending = f.sending ∙ (sym fit.under ∙ sym heard.1) in
    let mine : IsFirstSending (entries l) it.sending f.fits.sent_at f.fits.peer f.fits.sent =
    subst (λ (i : ℕ). IsFirstSending (entries l) i f.fits.sent_at f.fits.peer f.fits.sent) sending
    (first-entry l f.fits.sent_at o n.sending f.fits.peer f.fits.sent legal f.fits.first) in
    let same = one-sent (entries l) it.sending f.fits.sent_at it.sent_for.moment f.fits.peer q.peer f.fits.sent it.sent mine it.sent_for.first in
    let response : IsResponse (entries l) f.fits.peer it.sending it.sent e n.message =
    record {
      after = subst (λ (i : ℕ). i < e) sending f.fits.after;
      moment = f.fits.moment;
      heard = heard-entry l f.fits.peer e f.fits.moment f.fits.bytes n.message _ f.fits.heard f.fits.spelled;
      response = f.fits.response;
      token = f.fits.token ∙ ap (λ (m : Content). m.token) same.1;
      kind = such-brings n.message.kind n.message.mid it.sent.mid n.such;
    } in
    let below = at-below (before l e) r.number _ fits.heard in
    let len = length-before l e _ n.stands in
    let a : Ask = fit.for_it.ask in
    let stands : IsEntry (entries l) o b.since (Asks fit.for_it.conn (record { came = a.came; sense = Requests q; rules = a.rules })) =
    subst (λ (s : Sense). IsEntry (entries l) o b.since (Asks fit.for_it.conn (record { came = a.came; sense = s; rules = a.rules }))) fit.for_it.sense
    (at-entries l o _ (at-before l e o _ fit.for_it.stands)) in
    record {
      exchange = b;
      opened = opened;
      key = fit.key;
      get = (and_parts (is_get q) (is_named a.rules.observed q.target.host) fit.may).0;
      is = record {
        registered = r.number;
        observed = record {
          conn = fit.for_it.conn;
          moment = b.since;
          asked = record { came = a.came; rules = a.rules; stands = stands };
          may = fit.may;
          reply = r.message;
          heard = it;
          observes = heard.2;
        };
        later = omega (arith, below, len);
        response = subst (λ (p : Peer). IsResponse (entries l) p it.sending it.sent e n.message) same.0 response;
        kind = such-may n.message.kind n.such;
        new = subst (λ (p : Peer). IsNew (entries l) p e) same.0 (says-new l f.fits.peer e _ legal f.fits.heard tt);
      };
      sending = heard.1 ∙ fit.under;
    }

-- So is one that counts.
pub notified-news : (l : List Noted) (e : ℕ) (w : Watch) → Legal l → (n : IsNews l e w) → Notified l e w n.message
notified-news l e w legal n = notified-by l e w legal (news-told l e w n (news-fits l e w legal n))

-- So is an update of what the exchange that the ask opened registered.
pub update-is : (l : List Noted) (o e : ℕ) (w : Response) (rs : List Reply) (b : Begun) → Legal l → begun l o ≡ Some b → (u : UpdatesSo l o e w rs)
    → IsNotified (entries l) o b.request e u.message × (is_get b.request ≡ true)
update-is l o e w rs b legal opened u = registers b opened
  where
    it : Notified l e u.watch u.message
    it = notified-news l e u.watch legal (update-news l o e w rs u)

    registers : (c : Begun) → begun l o ≡ Some c → IsNotified (entries l) o c.request e u.message × (is_get c.request ≡ true)
    registers =
        subst (λ (i : ℕ). (c : Begun) → begun l i ≡ Some c → IsNotified (entries l) i c.request e u.message × (is_get c.request ≡ true)) u.registered
        (λ c is. subst (λ (c : Begun). IsNotified (entries l) u.watch.held.opening c.request e u.message × (is_get c.request ≡ true))
        (some-is it.exchange c (sym it.opened ∙ is)) (it.is, it.get))

-- What opened an exchange is one too, heard when that began.
pub record BegunBy (l : List Noted) (o : ℕ) (b : Begun) (it : StartedFor l o b) : Type 0 where
  pub notified : IsNotified (entries l) it.ask b.request o it.message
  pub moment : notified.response.moment ≡ b.since

pub notice-began : (l : List Noted) (o : ℕ) (b : Begun) → Legal l → (it : StartedFor l o b) → BegunBy l o b it
notice-began l o b legal it =
    let s = started l o b legal it in
    let told : IsTold l o s.counts.watch =
    record {
      moment = b.since;
      peer = it.peer;
      bytes = it.bytes;
      message = it.message;
      sending = it.sending;
      notice = it.notice;
      stands = it.stands;
      response = s.counts.response;
      such = s.counts.such;
      under = s.counts.under;
    } in
    let n : Notified l o s.counts.watch it.message = notified-by l o s.counts.watch legal told in
    let opened : begun l it.ask ≡ Some n.exchange = subst (λ (i : ℕ). begun l i ≡ Some n.exchange) s.starts.ask n.opened in
    let same : n.exchange ≡ s.starts.exchange = some-is _ _ (sym opened ∙ begun-before l o it.ask s.starts.exchange s.starts.opened) in
    let request : n.exchange.request ≡ b.request = ap (λ (b : Begun). b.request) same ∙ s.starts.request in
    let is : IsNotified (entries l) it.ask b.request o it.message =
    subst (λ (q : CoapRequest). IsNotified (entries l) it.ask q o it.message) request
    (subst (λ (i : ℕ). IsNotified (entries l) i n.exchange.request o it.message) s.starts.ask n.is) in
    let there = entries-at l o _ is.response.heard.stands in
    record {
      notified = is;
      moment = ap (λ (x : Noted). x.written.moment) (at-same l o _ _ there.1 it.stands);
    }
