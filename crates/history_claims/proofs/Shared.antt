-- A reply is part of the answers to one ask, or to GETs for the same.
use Rattle.std.proofs.Common.{◌≡◌, ◌⊎◌, ℕ, zero, suc, ◌<◌, true, inl, inr, List, ◌∷◌, Option, Some, sym, ap, subst, ◌∙◌, None, arith}
use Rattle.std.specs.List.{Contains}
use Rattle.std.proofs.lemmas.List.Elements.{Contains-push_cases}
use Rattle.coap_codec.specs.Spelling.{Content}
use Rattle.uri_map.specs.declared.peer.Peer.{Peer}
use Rattle.ask_model.specs.Requests.{CoapRequest, Requests, asking}
use Rattle.ask_model.specs.Sharing.{asks_same}
use Rattle.ask_model.specs.Views.{Ask}
use Rattle.journal_book.specs.Entries.{Grounds, Live, Kept, Fault, Mark, Ground, Done, Sent, Heard, Deed, Sends, Hears, Answers, Carries, Written}
use Rattle.history_laws.specs.Readings.{Noted, Note, Serves, First, Says, Recalls, Answered, Notice, entries, at, before, noted}
use Rattle.history_laws.specs.Progress.{Reply}
use Rattle.history_laws.specs.Exchanges.{Begun, begun}
use Rattle.history_laws.specs.Transmissions.{firsts}
use Rattle.history_laws.specs.Carrying.{carried}
use Rattle.resp_cache.specs.Stored.{Stored}
use Rattle.history_laws.specs.Storing.{IsAsHeard, IsStored}
use Rattle.history_laws.specs.Justified.{IsAsk, Legal, Stands}
use Rattle.history_laws.specs.Laws.{IsFirst, IsAnswer, IsReplyTo}
use Rattle.history_laws.specs.Grounds.{RestsOn, RestsOnKept, RestsOnNotice, IsCarriedReply, replies_in}
use Rattle.history_laws.proofs.CallerLemmas.{at-same, begun-before, carried-before, carried-fit, comes-fit, comes-since, contains-none, firsts-tokens, heard-of, kept-listed, kept-served, legal-before, number-of, reader, renewed-here, renews-for, reply-before, rests-on-its-own, shared-is, some-is}
use Rattle.history_claims.specs.Headline.{IsEntry}
use Rattle.history_claims.specs.Apart.{AreSameGets}
use Rattle.history_claims.proofs.Entries.{asked-entry}
use Rattle.history_claims.proofs.Apart.{answer-at}
use Rattle.history_claims.proofs.Carried.{asking-token}
use Rattle.history_claims.proofs.Sending.{carried-member, sending_of}
use Rattle.history_claims.proofs.Quiet.{asks-through}
use Rattle.history_claims.proofs.Unshared.{asks-itself}
use Rattle.history_claims.proofs.Alike.{IsLike, asks-like, like-method, reader-like, reader-get, same-get}

-- a reply came to one first sending, which is that of one exchange
says-same : (s t : ℕ) (p r : Peer) (b x : List ℕ) (m n : Content) (i j : ℕ) (u v : Notice)
    → noted s (Hears p b) (Says m (Some i) u) ≡ noted t (Hears r x) (Says n (Some j) v) → i ≡ j
says-same s t p r b x m n i j u v e = go (ap (λ (y : Noted). y.note) e)
  where
    go : Says m (Some i) u ≡ Says n (Some j) v → i ≡ j
    go f = cc

first-same : (s t : ℕ) (p r : Peer) (b x : List ℕ) (w y : Option ℕ) (o q : ℕ) (m n : Content)
    → noted s (Sends p b w) (First o m) ≡ noted t (Sends r x y) (First q n) → o ≡ q
first-same s t p r b x w y o q m n e = go (ap (λ (z : Noted). z.note) e)
  where
    go : First o m ≡ First q n → o ≡ q
    go f = cc

-- an ask whose answer rests on this reply, and the exchange that this is to
record Rests (l : List Noted) (k n : ℕ) : Type 0 where
  conn : ℕ
  ask : Ask
  request : CoapRequest
  asked : IsAsk l k conn ask
  sense : ask.sense ≡ Requests request
  opening : ℕ
  exchange : Begun
  opened : begun l opening ≡ Some exchange
  like : IsLike exchange.request request
  way : (opening ≡ k) ⊎ (request.method ≡ 1)
  reply : Reply
  number : reply.number ≡ n
  fits : IsReplyTo l opening reply

rests-live : (l : List Noted) (k n : ℕ) → Legal l → RestsOn l k n → Rests l k n
rests-live l k n legal a =
    let it = reader l k a.opening legal a.reads in
    record {
      conn = it.conn;
      ask = it.ask;
      request = it.request;
      asked = it.asked;
      sense = it.sense;
      opening = a.opening;
      exchange = it.exchange;
      opened = it.opened;
      like = reader-like l k a.opening it;
      way = reader-get l k a.opening it;
      reply = a.reply;
      number = a.number;
      fits = a.fits;
    }

-- or that of which it is a notification
rests-notice : (l : List Noted) (k n : ℕ) → RestsOnNotice l k n → Rests l k n
rests-notice l k n h = record {
  conn = h.conn;
  ask = h.ask;
  request = h.request;
  asked = h.asked;
  sense = h.sense;
  opening = h.begun_by.ask;
  exchange = record { since = h.begun_by.since; request = h.exchange.request };
  opened = h.begun_by.asked;
  like = asks-like h.request h.exchange.request h.same;
  way = inr (same-get h.request h.exchange.request h.same);
  reply = h.reply;
  number = h.number;
  fits = h.begun_by.fits;
}

-- or one whose answer rests on the copy of a reply
record RestsCopied (l : List Noted) (k n : ℕ) : Type 0 where
  conn : ℕ
  ask : Ask
  request : CoapRequest
  asked : IsAsk l k conn ask
  sense : ask.sense ≡ Requests request
  opening : ℕ
  exchange : Begun
  carries : carried l opening ≡ Some exchange
  same : asks_same request exchange.request ≡ true
  reply : Reply
  number : reply.number ≡ n
  fits : IsCarriedReply l opening exchange.request reply

-- What is stored for an ask rests on such a reply, or on a copy.
record For (l : List Noted) (q : CoapRequest) (n : ℕ) : Type 0 where
  opening : ℕ
  exchange : Begun
  opened : begun l opening ≡ Some exchange
  same : asks_same q exchange.request ≡ true
  reply : Reply
  number : reply.number ≡ n
  fits : IsReplyTo l opening reply

record CopiedFor (l : List Noted) (q : CoapRequest) (n : ℕ) : Type 0 where
  opening : ℕ
  exchange : Begun
  carries : carried l opening ≡ Some exchange
  same : asks_same q exchange.request ≡ true
  reply : Reply
  number : reply.number ≡ n
  fits : IsCarriedReply l opening exchange.request reply

again : (l : List Noted) (q r : CoapRequest) (n : ℕ) → asks_same q r ≡ true → For l r n ⊎ CopiedFor l r n → For l q n ⊎ CopiedFor l q n
again l q r n e (inl h) = inl (record {
  opening = h.opening;
  exchange = h.exchange;
  opened = h.opened;
  same = asks-through q r h.exchange.request e h.same;
  reply = h.reply;
  number = h.number;
  fits = h.fits;
})
again l q r n e (inr h) = inr (record {
  opening = h.opening;
  exchange = h.exchange;
  carries = h.carries;
  same = asks-through q r h.exchange.request e h.same;
  reply = h.reply;
  number = h.number;
  fits = h.fits;
})

heard-for : (l : List Noted) (k : ℕ) (x : Noted) (q : CoapRequest) (s : Stored) (j : ℕ) → Legal l → at l k ≡ Some x → IsAsHeard (before l k) q s
    → Contains s.list j → For l q j ⊎ CopiedFor l q j
heard-for l k x q s j legal here (inl is) has =
    let it = shared-is (before l k) q is.opening is.shared in
    let rs : List Reply = is.first ∷ is.more in
    let r = number-of rs j (subst (λ (js : List ℕ). Contains js j) is.list has) in
    let came = comes-fit l is.opening is.ending s.response rs r.0 legal (comes-since l k x is.opening is.ending s.response rs here is.comes) r.1 in
    let own = came.own it.exchange (begun-before l k is.opening it.exchange it.opened) in
    inl (record {
      opening = came.owner;
      exchange = came.exchange;
      opened = came.opened;
      same = subst (λ (r : CoapRequest). asks_same q r ≡ true) (sym own) it.same;
      reply = r.0;
      number = r.2;
      fits = came.fits;
    })
heard-for l k x q s j legal here (inr is) has =
    let rs : List Reply = is.first ∷ is.more in
    let r = number-of rs j (subst (λ (js : List ℕ). Contains js j) is.list has) in
    let b : Begun = is.carries.exchange in
    inr (record {
      opening = is.opening;
      exchange = b;
      carries = carried-before l k is.opening b is.carries.asked;
      same = is.same;
      reply = r.0;
      number = r.2;
      fits = reply-before l k is.opening b.request r.0
          (carried-fit (before l k) is.opening b r.0 (legal-before l k legal) is.carries.asked
          (subst (λ (rs : List Reply). Contains rs r.0) (sym is.carries.replies) r.1));
    })

stored-for : (fuel : ℕ) (l : List Noted) (k : ℕ) (x : Noted) (q : CoapRequest) (s : Stored) (j : ℕ) → k < fuel → Legal l → at l k ≡ Some x
    → IsStored (before l k) q s → Contains s.list j → For l q j ⊎ CopiedFor l q j
stored-for zero l k x q s j lt legal here is has = absurd (omega (arith, lt))
stored-for (suc fuel) l k x q s j lt legal here (inl u) has = heard-for l k x q s j legal here (heard-of (before l k) q s u) has
stored-for (suc fuel) l k x q s j lt legal here (inr it) has =
    let n = renewed-here l k x q s legal here it in
    let earlier = n.earlier in
    elim (Contains-push_cases it.renewal.kept.list it.renewal.reply.number j (subst (λ (js : List ℕ). Contains js j) it.list has)) [
      | inl w ↦
          again l q n.exchange.request j n.same
          (stored-for fuel l n.opening _ n.exchange.request n.renews.stored j (omega (arith, lt, earlier)) legal n.renews.stands n.renews.is
          (kept-listed (before l n.opening) it.renewal.kept n.renews.stored j n.renews.pieces w))
      | inr w ↦ inl (record {
        opening = n.opening;
        exchange = n.exchange;
        opened = n.opened;
        same = n.same;
        reply = it.renewal.reply;
        number = w;
        fits = n.fits.fits;
      })
    ]

rests-for : (l : List Noted) (k n c : ℕ) (a : Ask) (q : CoapRequest) → IsAsk l k c a → a.sense ≡ Requests q → For l q n ⊎ CopiedFor l q n
    → Rests l k n ⊎ RestsCopied l k n
rests-for l k n c a q asked sense (inl h) = inl (record {
  conn = c;
  ask = a;
  request = q;
  asked = asked;
  sense = sense;
  opening = h.opening;
  exchange = h.exchange;
  opened = h.opened;
  like = asks-like q h.exchange.request h.same;
  way = inr (same-get q h.exchange.request h.same);
  reply = h.reply;
  number = h.number;
  fits = h.fits;
})
rests-for l k n c a q asked sense (inr h) = inr (record {
  conn = c;
  ask = a;
  request = q;
  asked = asked;
  sense = sense;
  opening = h.opening;
  exchange = h.exchange;
  carries = h.carries;
  same = h.same;
  reply = h.reply;
  number = h.number;
  fits = h.fits;
})

-- So does what an exchange keeps that an ask reads.
rests-older : (l : List Noted) (k n : ℕ) → Legal l → RestsOnKept l k n → Rests l k n ⊎ RestsCopied l k n
rests-older l k n legal h =
    let it = reader l k h.opening legal h.reads in
    let for_it = renews-for l h.opening h.exchange _ legal h.opened h.keeps in
    let same : it.exchange ≡ h.exchange = some-is _ _ (sym it.opened ∙ h.opened) in
    let asks : asks_same it.request h.exchange.request ≡ true =
    elim (it.way) [
      | inl own ↦
          subst (λ (r : CoapRequest). asks_same r h.exchange.request ≡ true) (sym (own.1 ∙ ap (λ (b : Begun). b.request) same))
          (asks-itself h.exchange.request for_it.get)
      | inr along ↦ subst (λ (b : Begun). asks_same it.request b.request ≡ true) same along.same
    ] in
    rests-for l k n it.conn it.ask it.request it.asked it.sense
    (again l it.request h.exchange.request n asks
    (stored-for (suc h.opening) l h.opening _ h.exchange.request h.stored n (omega arith) legal for_it.stands h.is h.listed))

rests : (l : List Noted) (i c k n : ℕ) (g : Grounds) → Legal l → IsAnswer l i c k g → Contains (replies_in g) n → Rests l k n ⊎ RestsCopied l k n
rests l i c k n (Live js) legal a has = by (rests-on-its-own l i c k n js legal a has)
  where
    by : RestsOn l k n ⊎ (RestsOnNotice l k n ⊎ RestsOnKept l k n) → Rests l k n ⊎ RestsCopied l k n
    by (inl h) = inl (rests-live l k n legal h)
    by (inr (inl h)) = inl (rests-notice l k n h)
    by (inr (inr h)) = rests-older l k n legal h
rests l i c k n (Kept js) legal a has =
    let it = kept-served l i a.moment c k a.note js legal a.stands in
    let s = it.2 in
    rests-for l k n it.0 it.1 s.request (record { moment = a.moment; note = Serves js; stands = s.stands }) s.sense
    (stored-for (suc k) l k _ s.request s.stored n (omega arith) legal s.stands s.is (subst (λ (ns : List ℕ). Contains ns n) (sym s.list) has))
rests l i c k n (Fault cause j) legal a has = absurd (contains-none n has)

one-exchange : (l : List Noted) (k o n : ℕ) (a : Rests l k n) (b : Rests l o n) → a.opening ≡ b.opening
one-exchange l k o n a b =
    let heard = at-same l b.reply.number _ _ (subst (λ (i : ℕ). at l i ≡ Some (noted a.fits.moment (Hears a.fits.peer a.fits.bytes) (Says a.reply.message (Some a.reply.sending) a.fits.notice))) (a.number ∙ sym b.number) a.fits.heard) b.fits.heard in
    let sending = says-same a.fits.moment b.fits.moment a.fits.peer b.fits.peer a.fits.bytes b.fits.bytes a.reply.message b.reply.message a.reply.sending b.reply.sending a.fits.notice b.fits.notice heard in
    let first = subst (λ (i : ℕ). IsFirst l a.fits.sent_at a.opening i a.fits.peer a.fits.sent) sending a.fits.first in
    first-same a.fits.sent_at b.fits.sent_at a.fits.peer b.fits.peer first.bytes b.fits.first.bytes first.timeout b.fits.first.timeout a.opening b.opening a.fits.sent b.fits.sent
    (at-same l b.reply.sending _ _ first.stands b.fits.first.stands)

like-both : (q r x y : CoapRequest) → x ≡ y → IsLike x q → IsLike y r → IsLike q r
like-both q r x y same a b =
    record {
      peer = sym a.peer ∙ (ap (λ (q : CoapRequest). q.peer) same ∙ b.peer);
      message = λ manner mid token.
          sym (a.message manner mid token) ∙ (ap (λ (q : CoapRequest). asking manner q None mid token) same ∙ b.message manner mid token);
    }

gets-same : (l : List Noted) (k o c d : ℕ) (a b : Ask) (q r : CoapRequest) (f : IsAsk l k c a) → a.sense ≡ Requests q → (g : IsAsk l o d b) → b.sense ≡ Requests r
    → q.method ≡ 1 → IsLike q r → AreSameGets (entries l) k o
gets-same l k o c d a b q r f sense g other get like =
    record {
      conn = c;
      moment = f.moment;
      request = q;
      asked = asked-entry l k c f.moment a f.note (Requests q) f.stands sense;
      other_conn = d;
      other_moment = g.moment;
      other = r;
      other_asked = asked-entry l o d g.moment b g.note (Requests r) g.stands other;
      same = (get, like.peer, like.message);
    }

-- of two that rest on one, both are GETs for the same, or they are one
module _ (l : List Noted) (k o n : ℕ) (a : Rests l k n) (b : Rests l o n) where
  requests : a.exchange.request ≡ b.exchange.request
  requests =
      let there : begun l b.opening ≡ Some a.exchange = subst (λ (i : ℕ). begun l i ≡ Some a.exchange) (one-exchange l k o n a b) a.opened in
      ap (λ (b : Begun). b.request) (some-is a.exchange b.exchange (sym there ∙ b.opened))

  likes : IsLike a.request b.request
  likes = like-both a.request b.request a.exchange.request b.exchange.request requests a.like b.like

  same-gets : a.request.method ≡ 1 → AreSameGets (entries l) k o
  same-gets get = gets-same l k o a.conn b.conn a.ask b.ask a.request b.request a.asked a.sense b.asked b.sense get likes

  both-rest : (k ≡ o) ⊎ AreSameGets (entries l) k o
  both-rest =
      elim (a.way) [
        | inl u ↦ elim (b.way) [
          | inl v ↦ inl (sym u ∙ (one-exchange l k o n a b ∙ v))
          | inr get ↦ inr (same-gets (like-method a.request b.request likes ∙ get))
        ]
        | inr get ↦ inr (same-gets get)
      ]

-- No copy of a reply is one.
heard-no-copy : (s t k : ℕ) (p : Peer) (b : List ℕ) (mark : Mark) (done : Done) (u v : Note) → noted s (Hears p b) u ≡ noted t (Carries k mark done) v → ⊥
heard-no-copy s t k p b mark done u v e = go (ap (λ (x : Noted). x.written.deed) e)
  where
    go : Hears p b ≡ Carries k mark done → ⊥
    go f = cc

never-both : (l : List Noted) (k o n : ℕ) → Rests l k n → RestsCopied l o n → ⊥
never-both l k o n a b =
    let there = subst (λ (i : ℕ). at l i ≡ Some (noted b.fits.moment (Carries b.fits.number Ground (Heard b.exchange.request.peer b.fits.bytes)) (Recalls b.reply.message b.fits.answer))) (b.number ∙ sym a.number) b.fits.heard in
    heard-no-copy a.fits.moment b.fits.moment b.fits.number a.fits.peer a.fits.bytes Ground (Heard b.exchange.request.peer b.fits.bytes)
    (Says a.reply.message (Some a.reply.sending) a.fits.notice) (Recalls b.reply.message b.fits.answer) (at-same l a.reply.number _ _ a.fits.heard there)

-- Two that rest on one copy are GETs for the same.
module _ (l : List Noted) (k o n : ℕ) (legal : Legal l) (a : RestsCopied l k n) (b : RestsCopied l o n) where
  recalls-same : (s t j i : ℕ) (p r : Peer) (x y : List ℕ) (m c : Content) (u v : Answered)
      → noted s (Carries j Ground (Heard p x)) (Recalls m u) ≡ noted t (Carries i Ground (Heard r y)) (Recalls c v) → m ≡ c
  recalls-same s t j i p r x y m c u v e = go (ap (λ (z : Noted). z.note) e)
    where
      go : Recalls m u ≡ Recalls c v → m ≡ c
      go f = cc

  firsts-same : (s t : ℕ) (d f : Deed) (o q : ℕ) (m c : Content) → noted s d (First o m) ≡ noted t f (First q c) → o ≡ q
  firsts-same s t d f o q m c e = go (ap (λ (z : Noted). z.note) e)
    where
      go : First o m ≡ First q c → o ≡ q
      go f = cc

  message : a.reply.message ≡ b.reply.message
  message =
      recalls-same a.fits.moment b.fits.moment a.fits.number b.fits.number a.exchange.request.peer b.exchange.request.peer a.fits.bytes b.fits.bytes a.reply.message b.reply.message
      a.fits.answer b.fits.answer
      (at-same l b.reply.number _ _ (subst (λ (i : ℕ). at l i ≡ Some (noted a.fits.moment (Carries a.fits.number Ground (Heard a.exchange.request.peer a.fits.bytes)) (Recalls a.reply.message a.fits.answer)))
      (a.number ∙ sym b.number) a.fits.heard) b.fits.heard)

  abbrev sent : {j : ℕ} → RestsCopied l j n → Content
  sent x = asking x.fits.manner x.exchange.request x.fits.block x.fits.mid x.reply.message.token

  listed : {j : ℕ} → (x : RestsCopied l j n) → Contains (firsts l) (sending_of x.reply.sending x.fits.sent_at x.opening x.exchange.request.peer (sent x))
  listed x =
      carried-member l x.reply.sending x.fits.sent_at x.fits.old x.opening Ground x.exchange.request.peer x.fits.text x.fits.timeout (sent x) x.fits.sent

  token : {j : ℕ} → (x : RestsCopied l j n) → (sent x).token ≡ x.reply.message.token
  token x = asking-token x.fits.manner x.exchange.request x.fits.block x.fits.mid x.reply.message.token

  sending : a.reply.sending ≡ b.reply.sending
  sending =
      firsts-tokens l (sending_of a.reply.sending a.fits.sent_at a.opening a.exchange.request.peer (sent a)) (sending_of b.reply.sending b.fits.sent_at b.opening b.exchange.request.peer (sent b))
      legal (listed a) (listed b) (token a ∙ (ap (λ (m : Content). m.token) message ∙ sym (token b)))

  opening : a.opening ≡ b.opening
  opening =
      firsts-same a.fits.sent_at b.fits.sent_at _ _ a.opening b.opening (sent a) (sent b)
      (at-same l b.reply.sending _ _ (subst (λ (i : ℕ). at l i ≡ Some (noted a.fits.sent_at (Carries a.fits.old Ground (Sent a.exchange.request.peer a.fits.text a.fits.timeout)) (First a.opening (sent a)))) sending a.fits.sent) b.fits.sent)

  exchanges : a.exchange ≡ b.exchange
  exchanges = some-is _ _ (sym a.carries ∙ (ap (carried l) opening ∙ b.carries))

  copied-same : AreSameGets (entries l) k o
  copied-same =
      gets-same l k o a.conn b.conn a.ask b.ask a.request b.request a.asked a.sense b.asked b.sense (same-get a.request a.exchange.request a.same)
      (like-both a.request b.request a.exchange.request b.exchange.request (ap (λ (b : Begun). b.request) exchanges) (asks-like a.request a.exchange.request a.same)
      (asks-like b.request b.exchange.request b.same))

any-rest : (l : List Noted) (k o n : ℕ) → Legal l → Rests l k n ⊎ RestsCopied l k n → Rests l o n ⊎ RestsCopied l o n → (k ≡ o) ⊎ AreSameGets (entries l) k o
any-rest l k o n legal (inl a) (inl b) = both-rest l k o n a b
any-rest l k o n legal (inl a) (inr b) = absurd (never-both l k o n a b)
any-rest l k o n legal (inr a) (inl b) = absurd (never-both l o k n b a)
any-rest l k o n legal (inr a) (inr b) = inr (copied-same l k o n legal a b)

pub replies-once : (h : List Written) (i j s t c d k o n : ℕ) (g e : Grounds) → Stands h → IsEntry h i s (Answers c k g) → IsEntry h j t (Answers d o e)
    → Contains (replies_in g) n → Contains (replies_in e) n → (k ≡ o) ⊎ AreSameGets h k o
replies-once h i j s t c d k o n g e stands =
    subst (λ (h : List Written). IsEntry h i s (Answers c k g) → IsEntry h j t (Answers d o e) → Contains (replies_in g) n → Contains (replies_in e) n → (k ≡ o) ⊎ AreSameGets h k o) stands.entries_are
    (λ a b first second.
    let l : List Noted = stands.reading in
    any-rest l k o n stands.legal (rests l i c k n g stands.legal (answer-at l i s c k g a) first) (rests l j d o n e stands.legal (answer-at l j t d o e b) second))
