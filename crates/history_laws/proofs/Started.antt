-- What a notification that counts came to, and what one is that opens an exchange.
use Rattle.std.proofs.Common.{◌≡◌, ℕ, Bool, true, false, cond, not, ◌&&◌, leb, List, Option, Some, None, refl, sym, ap, subst, ◌∙◌}
use Rattle.std.proofs.lemmas.Bool.{false≢true, and_parts}
use Rattle.coap_codec.specs.Spelling.{Content}
use Rattle.ask_model.specs.Requests.{CoapRequest}
use Rattle.ask_model.specs.Sharing.{is_get}
use Rattle.ask_model.specs.Observing.{is_named}
use Rattle.observe_share.specs.declared.registration.Registration.{Registration}
use Rattle.observe_share.specs.declared.notice.Notice as Shared
use Rattle.observe_share.specs.declared.notice.Notice.TheVariants.{Update, Other}
use Rattle.observe_share.specs.Watches.{counts_for}
use Rattle.history_laws.specs.Readings.{Noted, Observation, Unobserved, Updates, Outdates, Cancels, Starts, before}
use Rattle.history_laws.specs.Progress.{Progress, Fetches, Gives, Ends, Ending}
use Rattle.history_laws.specs.Transmissions.{FirstSending, first_at}
use Rattle.history_laws.specs.Exchanges.{Begun, begun, waits_for}
use Rattle.history_laws.specs.Observing.{Watch, as_first, counts, is_under, notice_in, watch_under, watches}
use Rattle.history_laws.specs.Hearing.{counts_as, has_room, is_read, is_such, is_this, may_register, notified, observation_by, observation_of, registers, starts_for}
use Rattle.history_laws.specs.Justified.{Legal}
use Rattle.history_laws.proofs.Elements.{find-some}
use Rattle.history_laws.proofs.Facts.{legal-before}
use Rattle.history_laws.proofs.Registering.{not-false}
use Rattle.history_laws.proofs.Resting.{some-is}
use Rattle.history_laws.proofs.Sent.{StartedFor}
use Rattle.history_laws.proofs.Watching.{watch-fits, WatchFits}

-- A notification that counts came under the token of a watch, and is newer than what counted before.
pub record IsCounted (l : List Noted) (t : ℕ) (m : Content) (i : ℕ) (o : Observation) : Type 0 where
  pub response : leb 32 m.code ≡ true
  pub first : FirstSending
  pub sent : first_at l i ≡ Some first
  pub unwaited : is_this i (waits_for l first.opening) ≡ false
  pub watch : Watch
  pub under : watch_under l m.token ≡ Some watch
  pub such : is_such m.kind ≡ true
  pub newer : counts_for (notice_in m) t watch.held ≡ true
  pub is : counts_as l t watch.held (notice_in m) (as_first 0 0 m) ≡ o

pub counted : (l : List Noted) (t : ℕ) (m : Content) (i : ℕ) (o : Observation) → counts o ≡ true → observation_of l t m (Some i) ≡ o
    → IsCounted l t m i o
counted l t m i o c e = by (leb 32 m.code) refl (first_at l i) refl e
  where
    no : Unobserved ≡ o → ⊥
    no e = false≢true (subst (λ (v : Observation). counts v ≡ true) (sym e) c)

    unregistered : (b : Bool) → registers b ≡ o → ⊥
    unregistered true e = false≢true (subst (λ (v : Observation). counts v ≡ true) (sym e) c)
    unregistered false e = no e

    so : leb 32 m.code ≡ true → (f : FirstSending) → first_at l i ≡ Some f → is_this i (waits_for l f.opening) ≡ false
        → (w : Watch) → watch_under l m.token ≡ Some w
        → (b : Bool) → (is_such m.kind && counts_for (notice_in m) t w.held) ≡ b
        → cond b (counts_as l t w.held (notice_in m) (as_first 0 0 m)) Unobserved ≡ o → IsCounted l t m i o
    so response f sent unwaited w under false is e = absurd (no e)
    so response f sent unwaited w under true is e =
        let both = and_parts (is_such m.kind) (counts_for (notice_in m) t w.held) is in
        record {
          response = response;
          first = f;
          sent = sent;
          unwaited = unwaited;
          watch = w;
          under = under;
          such = both.0;
          newer = both.1;
          is = e;
        }

    found-so : leb 32 m.code ≡ true → (f : FirstSending) → first_at l i ≡ Some f → is_this i (waits_for l f.opening) ≡ false
        → (w : Option Watch) → watch_under l m.token ≡ w → notified l t m w ≡ o → IsCounted l t m i o
    found-so response f sent unwaited None under e = absurd (no e)
    found-so response f sent unwaited (Some w) under e =
        so response f sent unwaited w under (is_such m.kind && counts_for (notice_in m) t w.held) refl e

    sent-so : leb 32 m.code ≡ true → (f : FirstSending) → first_at l i ≡ Some f → (b : Bool) → is_this i (waits_for l f.opening) ≡ b
        → cond b (registers (may_register l f.opening m)) (notified l t m (watch_under l m.token)) ≡ o → IsCounted l t m i o
    sent-so response f sent true is e = absurd (unregistered (may_register l f.opening m) e)
    sent-so response f sent false is e = found-so response f sent is (watch_under l m.token) refl e

    by : (b : Bool) → leb 32 m.code ≡ b → (f : Option FirstSending) → first_at l i ≡ f → cond b (observation_by l t m i f) Unobserved ≡ o
        → IsCounted l t m i o
    by false response f sent e = absurd (no e)
    by true response None sent e = absurd (no e)
    by true response (Some f) sent e = sent-so response f sent (is_this i (waits_for l f.opening)) refl e

-- What opens an exchange is the first piece of what is observed: there is room for that, and no exchange of an equal GET is open.
pub record StartsSo (l : List Noted) (t : ℕ) (r : Registration) (u : Progress) (k : ℕ) (q : CoapRequest) : Type 0 where
  pub ask : r.opening ≡ k
  pub exchange : Begun
  pub opened : begun l k ≡ Some exchange
  pub request : exchange.request ≡ q
  pub room : has_room l t q ≡ true
  pub unread : is_read l q ≡ false
  pub goes : (how : Ending) → u ≡ Ends how → ⊥

starts-same : (j k : ℕ) (q r : CoapRequest) → Starts j q ≡ Starts k r → (j ≡ k) × (q ≡ r)
starts-same j k q r e = (cc, cc)

can-starts : (k : ℕ) (q : CoapRequest) → Cancels ≡ Starts k q → ⊥
can-starts k q e = cc

up-starts : (k : ℕ) (q : CoapRequest) → Updates ≡ Starts k q → ⊥
up-starts k q e = cc

out-starts : (k : ℕ) (q : CoapRequest) → Outdates ≡ Starts k q → ⊥
out-starts k q e = cc

starts-by : (l : List Noted) (t : ℕ) (r : Registration) (u : Progress) (k : ℕ) (q : CoapRequest) → ((how : Ending) → u ≡ Ends how → ⊥)
    → (b : Option Begun) → begun l r.opening ≡ b → starts_for l t r.opening b ≡ Starts k q → StartsSo l t r u k q
starts-by l t r u k q goes None is e = absurd (out-starts k q e)
starts-by l t r u k q goes (Some b) is e = by (has_room l t b.request && not (is_read l b.request)) refl e
  where
    by : (v : Bool) → (has_room l t b.request && not (is_read l b.request)) ≡ v → cond v (Starts r.opening b.request) Outdates ≡ Starts k q → StartsSo l t r u k q
    by false may e = absurd (out-starts k q e)
    by true may e =
        let same = starts-same r.opening k b.request q e in
        let both = and_parts (has_room l t b.request) (not (is_read l b.request)) may in
        record {
          ask = same.0;
          exchange = b;
          opened = subst (λ (n : ℕ). begun l n ≡ Some b) same.0 is;
          request = same.1;
          room = subst (λ (q : CoapRequest). has_room l t q ≡ true) same.1 both.0;
          unread = not-false (is_read l q) (subst (λ (q : CoapRequest). not (is_read l q) ≡ true) same.1 both.1);
          goes = goes;
        }

gives-not : (u : _) (got : _) (how : Ending) → Gives u got ≡ Ends how → ⊥
gives-not u got how e = cc

fetches-not : (j : ℕ) (p : _) (got : _) (how : Ending) → Fetches j p got ≡ Ends how → ⊥
fetches-not j p got how e = cc

pub starts-so : (l : List Noted) (t : ℕ) (r : Registration) (n : Shared.Notice) (u : Progress) (k : ℕ) (q : CoapRequest) → counts_as l t r n u ≡ Starts k q
    → StartsSo l t r u k q
starts-so l t r (Other v) u k q e = absurd (can-starts k q e)
starts-so l t r (Update v) (Ends how) k q e = absurd (up-starts k q e)
starts-so l t r (Update v) (Fetches j p got) k q e = starts-by l t r (Fetches j p got) k q (fetches-not j p got) (begun l r.opening) refl e
starts-so l t r (Update v) (Gives w got) k q e = starts-by l t r (Gives w got) k q (gives-not w got) (begun l r.opening) refl e

pub starts-unread : (l : List Noted) (t : ℕ) (m : Content) (i k : ℕ) (q : CoapRequest) → observation_of l t m (Some i) ≡ Starts k q → is_read l q ≡ false
starts-unread l t m i k q e =
    let c = counted l t m i (Starts k q) refl e in
    (starts-so l t c.watch.held (notice_in m) (as_first 0 0 m) k q c.is).unread

-- the facts of such a notification
pub record Started (l : List Noted) (o : ℕ) (b : Begun) (it : StartedFor l o b) : Type 0 where
  pub counts : IsCounted (before l o) b.since it.message it.sending (Starts it.ask b.request)
  pub starts : StartsSo (before l o) b.since counts.watch.held (as_first 0 0 it.message) it.ask b.request
  pub watched : WatchFits (before l o) counts.watch
  pub request : watched.exchange.request ≡ b.request
  pub get : is_get b.request ≡ true

pub started : (l : List Noted) (o : ℕ) (b : Begun) → Legal l → (it : StartedFor l o b) → Started l o b it
started l o b legal it =
    let k : List Noted = before l o in
    let c = counted k b.since it.message it.sending (Starts it.ask b.request) refl it.said in
    let s = starts-so k b.since c.watch.held (notice_in it.message) (as_first 0 0 it.message) it.ask b.request c.is in
    let has = find-some (is_under it.message.token) (watches k) c.watch c.under in
    let fits = watch-fits k c.watch (legal-before l o legal) has.0 in
    let opened : begun k it.ask ≡ Some fits.exchange = subst (λ (n : ℕ). begun k n ≡ Some fits.exchange) s.ask fits.opened in
    let same : fits.exchange ≡ s.exchange = some-is _ _ (sym opened ∙ s.opened) in
    let request : fits.exchange.request ≡ b.request = ap (λ (v : Begun). v.request) same ∙ s.request in
    record {
      counts = c;
      starts = s;
      watched = fits;
      request = request;
      get = subst (λ (q : CoapRequest). is_get q ≡ true) request
          (and_parts (is_get fits.exchange.request) (is_named fits.for_it.ask.rules.observed fits.exchange.request.target.host) fits.may).0;
    }
