-- What is renewed: by the reply to a message that asks for that, and what stood for it before.
use Rattle.std.proofs.Common.{◌≡◌, ◌&&◌, ◌⊎◌, ℕ, zero, suc, ◌+◌, ◌<◌, ◌≤◌, Bool, true, false, cond, not, eqb, inl, inr, List, [], ◌∷◌, ◌++◌, length, Option, Some, None, is_some, refl, sym, ap, subst, ◌∙◌, arith}
use Rattle.std.specs.List.{Contains, filter}
use Rattle.std.proofs.lemmas.Bool.{false≢true, and_parts}
use Rattle.std.proofs.lemmas.Bool.Decides.{Decides-eqb, eqb_tells}
use Rattle.std.proofs.lemmas.Slice.Eq.{bytes_eq-Decides}
use Rattle.std.proofs.lemmas.List.Elements.{Contains-append_right, Contains-push_cases}
use Rattle.coap_codec.specs.Spelling.{Content}
use Rattle.coap_codec.specs.Recognition.{is_forwardable, value_of}
use Rattle.uri_map.specs.declared.peer.Peer.{Peer}
use Rattle.cache_key.specs.Keys.{same_key}
use Rattle.cache_key.proofs.CallerLemmas.{keys_decided}
use Rattle.resp_cache.specs.Stored.{Stored}
use Rattle.ask_model.specs.Requests.{CoapRequest, Manner, Validating, asking}
use Rattle.ask_model.specs.Requests as Q
use Rattle.ask_model.specs.Sharing.{asked_key, asked_place, asks_same, is_get}
use Rattle.ask_model.proofs.CallerLemmas.{asks-alike, asks-onward}
use Rattle.journal_book.specs.Entries.{Asks, Carries}
use Rattle.journal_book.specs.Entries as D
use Rattle.history_laws.specs.Responses.{confirms, has_tag, valid}
use Rattle.history_laws.specs.Readings.{Noted, Note, Renews, at, before, noted}
use Rattle.history_laws.specs.Progress.{Reply, Ending, Renewed, progress, next_message}
use Rattle.history_laws.specs.Exchanges.{Begun, begun, begins_with, ask_behind, heard_for, kept, Turn, Replied, turn, waits_for, replies_by, replies, End, end_here, end_by, end_of}
use Rattle.history_laws.specs.Observing.{manner, manner_by, observes, tag_of, unless_replied, wants_in}
use Rattle.history_laws.specs.Joining.{outrun, asks_the_same}
use Rattle.history_laws.specs.Carrying.{carried}
use Rattle.history_laws.specs.Storing.{IsAsHeard, IsBrought, IsCarried, IsRenewed, IsStored, is_valid_in, pieces_of, renewed_list}
use Rattle.history_laws.specs.Justified.{Ends, Legal}
use Rattle.history_laws.specs.Laws.{IsFirst, IsReplyTo}
use Rattle.history_laws.specs.Grounds.{IsReplyFor, IsHeardFor, IsCopiedFor, IsToldFor, IsCarriedReply, IsConfirmed, ConfirmedAsAsked}
use Rattle.history_laws.proofs.Basis.{Brought, asking-alike, brought-by, number-of}
use Rattle.history_laws.proofs.Carrying.{heard-of, carried-below, carried-fit, carried-before, reply-before}
use Rattle.history_laws.proofs.Copying.{at-still, before-twice}
use Rattle.history_laws.proofs.Elements.{filtered-from}
use Rattle.history_laws.proofs.Facts.{at-before, legal-before, length-before}
use Rattle.history_laws.proofs.Going.{ends-renewed, renewed-turn}
use Rattle.cache_key.specs.declared.place.Place.{Place}
use Rattle.ask_model.proofs.CallerLemmas.{same-place}
use Rattle.history_laws.proofs.Joining.{Alike, Shared, shared-is}
use Rattle.history_laws.proofs.Kept.{RenewsFor, kept-before, kept-early, renews-for}
use Rattle.history_laws.proofs.Notified.{comes-since}
use Rattle.history_laws.proofs.Beginnings.{begins-at}
use Rattle.history_laws.proofs.Begun.{behind-below, behind-since, behind-unoutrun, comes-fit}
use Rattle.history_laws.proofs.Quiet.{quiet-since, sends-next}
use Rattle.history_laws.proofs.Outrunning.{end-since, ended-begun}
use Rattle.history_laws.proofs.Places.{at-below}
use Rattle.history_laws.proofs.Replies.{replies-fit}
use Rattle.history_laws.proofs.Resting.{none-some, some-is}
use Rattle.history_laws.proofs.Sent.{SentFor, begun-before, begun-below, sent-for}
use Rattle.history_laws.proofs.Turns.{ReplyTurn, turn-replied}
use Rattle.history_laws.proofs.Watching.{replies-keep}

-- The reply by which something is renewed is one to the exchange.
renewed-step : (x : Noted) (l : List Noted) (o e : ℕ) (s : Stored) (r : Reply) → (Ends l o e (Renewed s r) → Contains (replies l o) r)
    → (how : Option Ending) → end_here (begun l o) (kept l o) (length l) (heard_for l o) (turn l o x) ≡ how
    → (old : Option End) → end_of l o ≡ old → end_by how (length l) old ≡ Some (record { number = e; how = Renewed s r })
    → Contains (replies (x ∷ l) o) r
renewed-step x l o e s r ih None is old was h = replies-keep x l o r (ih (was ∙ h))
renewed-step x l o e s r ih (Some how) is (Some f) was h = replies-keep x l o r (ih (was ∙ h))
renewed-step x l o e s r ih (Some how) is None was h =
    let renews : how ≡ Renewed s r = ap (λ (f : End). f.how) (some-is _ _ h) in
    let t = renewed-turn (begun l o) (kept l o) (length l) (heard_for l o) (turn l o x) s r (is ∙ ap (λ (v : Ending). Some v) renews) in
    subst (λ (u : Turn). Contains (replies_by (length l) u (replies l o)) r) (sym t.is)
    (Contains-append_right (replies l o) _ r (zero, omega arith, t.reply))

pub renewed-of : (l : List Noted) (o e : ℕ) (s : Stored) (r : Reply) → Ends l o e (Renewed s r) → Contains (replies l o) r
renewed-of [] o e s r h = absurd (none-some _ h)
renewed-of (x ∷ older) o e s r h =
    renewed-step x older o e s r (renewed-of older o e s r) (end_here (begun older o) (kept older o) (length older) (heard_for older o) (turn older o x)) refl
    (end_of older o) refl h

-- what it is confirmed by
confirmed : (tag : List ℕ) (m : Content) → confirms (Some tag) m ≡ true → (m.code ≡ valid) × (value_of 4 m ≡ Some tag)
confirmed tag m e =
    let a = and_parts (is_forwardable m.options) (eqb m.code valid && has_tag tag (value_of 4 m)) e in
    let b = and_parts (eqb m.code valid) (has_tag tag (value_of 4 m)) a.1 in
    ((Decides-eqb m.code valid).0 b.0, by (value_of 4 m) b.1)
  where
    by : (v : Option (List ℕ)) → has_tag tag v ≡ true → v ≡ Some tag
    by None e = absurd (false≢true e)
    by (Some other) e = ap (λ (v : List ℕ). Some v) ((bytes_eq-Decides other tag).0 e)

validates : (q : CoapRequest) (tag : List ℕ) (mid : ℕ) (token : List ℕ) (m : Content) → is_get q ≡ true
    → next_message (Validating tag) q (progress q []) mid token ≡ Some m → m ≡ asking (Validating tag) q None mid token
validates q tag mid token m get e =
    let one = (and_parts (eqb q.method 1) _ get).0 in
    sym (some-is _ _ (rw (one) at e))

append-both : (xs ys : List Reply) → xs ++ ys ≡ [] → (xs ≡ []) × (ys ≡ [])
append-both [] ys e = (refl, e)
append-both (x ∷ xs) ys e = cc

pub confirmed-as-asked : ConfirmedAsAsked
confirmed-as-asked l o e b s r legal opened ended =
    let it = ends-renewed l o e s r ended in
    let k : List Noted = before l e in
    let t : ReplyTurn k o it.entry it.turned.sending it.turned.message it.turned.place = turn-replied k o it.entry it.turned.sending it.turned.message it.turned.place it.turned.is in
    let sending : it.turned.sending ≡ r.sending = ap (λ (v : Reply). v.sending) it.turned.reply in
    let keeps : kept l o ≡ Some s = kept-before l e o s it.turned.keeps in
    let for_it = renews-for l o b s legal opened keeps in
    let fits : IsReplyTo l o r = replies-fit l o r legal (renewed-of l o e s r ended) in
    let i : ℕ = r.sending in
    let sent : SentFor l o i fits.peer fits.sent fits.first.bytes = sent-for l fits.sent_at o i fits.peer fits.sent legal fits.first in
    let same : sent.exchange ≡ b = some-is _ _ (sym sent.opened ∙ opened) in
    let after = fits.after in
    let number : r.number ≡ e = sym (ap (λ (v : Reply). v.number) it.turned.reply) in
    let twice : before k i ≡ before l i = before-twice l e i it.entry it.stands (omega (arith, after, number)) in
    let none_before : replies k o ≡ [] =
    (append-both (begins_with k o) (replies k o) it.turned.first).1 in
    let quiet : replies (before l i) o ≡ [] =
    ap (λ (v : List Noted). replies v o) (sym twice)
    ∙ (quiet-since k o i (t.waited ∙ ap (λ (v : ℕ). Some v) sending) ∙ none_before) in
    let still = at-still l i o _ _ fits.first.stands sent.after for_it.stands in
    let heard : heard_for (before l i) o ≡ [] =
    ap (λ (bs : List Reply). bs ++ replies (before l i) o) (begins-at (before l i) o _ still) ∙ quiet in
    let early : kept (before l i) o ≡ Some s = kept-early l i o _ s fits.first.stands sent.after keeps in
    let tag : tag_of (kept (before l i) o) (replies (before l i) o) ≡ Some for_it.tag =
    ap (λ (v : Option Stored). tag_of v (replies (before l i) o)) early ∙ (ap (tag_of (Some s)) quiet ∙ for_it.has) in
    let unobserving : observes (before l i) o ≡ false =
    ap (unless_replied (wants_in (before (before l i) o) (at (before l i) o))) quiet
    ∙ ap (wants_in (before (before l i) o)) still in
    let how : manner (before l i) o ≡ Validating for_it.tag =
    ap (λ (v : Option (List ℕ)). manner_by v (observes (before l i) o)) tag ∙ ap (manner_by (Some for_it.tag)) unobserving in
    let next : next_message (Validating for_it.tag) b.request (progress b.request []) fits.sent.mid fits.sent.token ≡ Some fits.sent =
    subst (λ (rs : List Reply). next_message (Validating for_it.tag) b.request (progress b.request rs) fits.sent.mid fits.sent.token ≡ Some fits.sent) heard
    (subst (λ (f : Manner). next_message f b.request (progress b.request (heard_for (before l i) o)) fits.sent.mid fits.sent.token ≡ Some fits.sent) how
    (sends-next l fits.sent_at o i fits.peer fits.sent b legal fits.first opened)) in
    let asks : fits.sent ≡ asking (Validating for_it.tag) b.request None fits.sent.mid fits.sent.token =
    validates b.request for_it.tag fits.sent.mid fits.sent.token fits.sent for_it.get next in
    let peer : fits.peer ≡ b.request.peer = sent.peer ∙ ap (λ (b : Begun). b.request.peer) same in
    let tells = confirmed for_it.tag r.message (subst (λ (v : Option (List ℕ)). confirms v r.message ≡ true) for_it.has it.turned.tells) in
    record {
      keeps = keeps;
      stored = for_it.stored;
      is = for_it.is;
      pieces = for_it.pieces;
      stale = for_it.stale;
      tag = for_it.tag;
      has = for_it.has;
      fits = fits;
      moment = fits.sent_at;
      mid = fits.sent.mid;
      token = fits.sent.token;
      first = subst (λ (p : Peer). IsFirst l fits.sent_at o i p (asking (Validating for_it.tag) b.request None fits.sent.mid fits.sent.token)) peer
          (subst (λ (m : Content). IsFirst l fits.sent_at o i fits.peer m) asks fits.first);
      code = tells.0;
      same = tells.1;
    }

-- Of what is stored no write has ended at the place since the exchange was opened that it came of.
pub brought-unoutrun : (l : List Noted) (q : CoapRequest) (s : Stored) → Legal l → (is : IsBrought l q s) → outrun l (asked_place q) s.opening ≡ false
brought-unoutrun l q s legal is =
    let b = shared-is l q is.opening is.shared in
    let place : asked_place q ≡ asked_place b.exchange.request = same-place q b.exchange.request b.same in
    let fresh : outrun l (asked_place b.exchange.request) is.opening ≡ false = subst (λ (p : Place). outrun l p is.opening ≡ false) place b.fresh in
    ap (outrun l (asked_place q)) is.origin
    ∙ (ap (λ (p : Place). outrun l p (ask_behind l is.opening)) place ∙ behind-unoutrun l is.opening b.exchange legal b.opened fresh)

pub stored-unoutrun : (l : List Noted) (q : CoapRequest) (s : Stored) → Legal l → IsStored l q s → outrun l (asked_place q) s.opening ≡ false
stored-unoutrun l q s legal (inl it) = by (heard-of l q s it)
  where
    by : IsAsHeard l q s → outrun l (asked_place q) s.opening ≡ false
    by (inl is) = brought-unoutrun l q s legal is
    by (inr is) = ap (outrun l (asked_place q)) is.origin ∙ is.current
stored-unoutrun l q s legal (inr it) = ap (outrun l (asked_place q)) it.origin ∙ it.renewal.current

-- A renewal is of an exchange for an equal GET.
pub renewal-shared : (l : List Noted) (q : CoapRequest) (o : ℕ) → asks_the_same q (begun l o) ≡ true
    → (b : Begun) × (begun l o ≡ Some b) × (asks_same q b.request ≡ true)
renewal-shared l q o e = by (begun l o) refl e
  where
    by : (b : Option Begun) → begun l o ≡ b → asks_the_same q b ≡ true → (b : Begun) × (begun l o ≡ Some b) × (asks_same q b.request ≡ true)
    by None is h = absurd (false≢true h)
    by (Some b) is h = (b, is, h)

pub asks-back : (q r : CoapRequest) → asks_same q r ≡ true → asks_same r q ≡ true
asks-back q r e =
    let a = and_parts (is_get q) (is_get r && same_key (asked_key q) (asked_key r)) e in
    let b = and_parts (is_get r) (same_key (asked_key q) (asked_key r)) a.1 in
    rw (b.0, a.0, (keys_decided (asked_key r) (asked_key q)).1 (sym ((keys_decided (asked_key q) (asked_key r)).0 b.1))) refl

pub reply-for : (l : List Noted) (o : ℕ) (q : CoapRequest) (r : Reply) → Brought l o q r → IsReplyFor l o q r
reply-for l o q r h = record {
  fits = h.fits;
  after = h.after;
  moment = h.moment;
  mid = h.mid;
  token = h.token;
  block = h.block;
  manner = h.manner;
  first = h.first;
}

-- What is told for one request is told for an equal one.
pub told-same : (l : List Noted) (since : ℕ) (q r : CoapRequest) (j : ℕ) → Legal l → asks_same q r ≡ true → IsToldFor l since r j → IsToldFor l since q j
told-same l since q r j legal same (inl h) =
    inl (record {
      opening = h.opening;
      reply = h.reply;
      number = h.number;
      fits = again (asks-alike q r same) h.fits;
      late = h.late;
    })
  where
    again : Alike q r → IsReplyFor l h.opening r h.reply → IsReplyFor l h.opening q h.reply
    again alike f = record {
      fits = f.fits;
      after = f.after;
      moment = f.moment;
      mid = f.mid;
      token = f.token;
      block = f.block;
      manner = f.manner;
      first = subst (λ (p : Peer). IsFirst l f.moment h.opening h.reply.sending p (asking f.manner q f.block f.mid f.token)) (sym alike.0)
          (subst (λ (m : Content). IsFirst l f.moment h.opening h.reply.sending r.peer m) (sym (asking-alike f.manner q r f.mid f.token f.block alike)) f.first);
    }
told-same l since q r j legal same (inr h) =
    inr (record {
      exchange = h.exchange;
      asked = h.asked;
      same = asks-onward r q h.exchange.request (asks-back q r same) h.same;
      reply = h.reply;
      number = h.number;
      fits = h.fits;
    })

-- What is renewed for a GET, before an entry.
pub record RenewedHere (l : List Noted) (k : ℕ) (q : CoapRequest) (s : Stored) (it : IsRenewed (before l k) q s) : Type 0 where
  pub opening : ℕ
  pub is_it : it.renewal.opening ≡ opening
  pub earlier : opening < k
  pub exchange : Begun
  pub opened : begun l opening ≡ Some exchange
  pub same : asks_same q exchange.request ≡ true
  pub renews : RenewsFor l opening exchange it.renewal.kept
  pub fits : IsReplyFor l opening q it.renewal.reply
  pub below : it.renewal.reply.number < k

pub renewed-here : (l : List Noted) (k : ℕ) (x : Noted) (q : CoapRequest) (s : Stored) → Legal l → at l k ≡ Some x → (it : IsRenewed (before l k) q s)
    → RenewedHere l k q s it
renewed-here l k x q s legal stands it =
    let o : ℕ = it.renewal.opening in
    let r : Reply = it.renewal.reply in
    let b = renewal-shared (before l k) q o it.renewal.same in
    let opened : begun l o ≡ Some b.0 = begun-before l k o b.0 b.1 in
    let begins = begun-below (before l k) o b.0 b.1 in
    let len = length-before l k x stands in
    let was = ends-renewed (before l k) o it.ending it.renewal.kept r it.renewal.ended in
    let keeps : kept l o ≡ Some it.renewal.kept =
    kept-before l k o it.renewal.kept (kept-before (before l k) it.ending o it.renewal.kept was.turned.keeps) in
    let now = renewed-of l o it.ending it.renewal.kept r (end-since l k o _ it.renewal.ended) in
    let fits = brought-by l o b.0 q r legal opened (asks-alike q b.0.request b.2) (replies-fit l o r legal now) in
    let heard = replies-fit (before l k) o r (legal-before l k legal) (renewed-of (before l k) o it.ending it.renewal.kept r it.renewal.ended) in
    let below = at-below (before l k) r.number _ heard.heard in
    record {
      opening = o;
      is_it = refl;
      earlier = omega (arith, begins, len);
      exchange = b.0;
      opened = opened;
      same = b.2;
      renews = renews-for l o b.0 it.renewal.kept legal opened keeps;
      fits = reply-for l o q r fits;
      below = omega (arith, below, len);
    }

-- What was brought for a GET came to a message that asks the same, sent after what it goes back to.
pub record BroughtOf (l : List Noted) (k : ℕ) (q : CoapRequest) (s : Stored) (is : IsBrought (before l k) q s) (r : Reply) : Type 0 where
  pub owner : ℕ
  pub owned : (owner ≡ is.opening) ⊎ (owner ≡ s.opening)
  pub came : Brought l owner q r
  pub late : s.opening < r.sending

pub brought-of : (l : List Noted) (k : ℕ) (x : Noted) (q : CoapRequest) (s : Stored) (r : Reply) → Legal l → at l k ≡ Some x
    → (is : IsBrought (before l k) q s) → Contains (is.first ∷ is.more) r → BroughtOf l k q s is r
brought-of l k x q s r legal stands is has =
    let o : ℕ = is.opening in
    let ws : List Reply = is.first ∷ is.more in
    let now = comes-fit l o is.ending s.response ws r legal (comes-since l k x o is.ending s.response ws stands is.comes) has in
    let exchange : Shared (before l k) q o = shared-is (before l k) q o is.shared in
    let opened : begun l o ≡ Some exchange.exchange = begun-before l k o exchange.exchange exchange.opened in
    let request : now.exchange.request ≡ exchange.exchange.request = now.own exchange.exchange opened in
    let alike : Alike q now.exchange.request = subst (Alike q) (sym request) (asks-alike q exchange.exchange.request exchange.same) in
    let came = brought-by l now.owner now.exchange q r legal now.opened alike now.fits in
    let origin : s.opening ≡ ask_behind l o = is.origin ∙ behind-since l k o exchange.exchange exchange.opened in
    let below = behind-below l o exchange.exchange legal opened in
    record {
      owner = now.owner;
      owned = by now.owner now.owned origin;
      came = came;
      late = late now.owner now.owned origin below came.after;
    }
  where
    by : (owner : ℕ) → (owner ≡ is.opening) ⊎ (owner ≡ ask_behind l is.opening) → s.opening ≡ ask_behind l is.opening → (owner ≡ is.opening) ⊎ (owner ≡ s.opening)
    by owner (inl e) origin = inl e
    by owner (inr e) origin = inr (e ∙ sym origin)

    late : (owner : ℕ) → (owner ≡ is.opening) ⊎ (owner ≡ ask_behind l is.opening) → s.opening ≡ ask_behind l is.opening → ask_behind l is.opening ≤ is.opening
        → owner < r.sending → s.opening < r.sending
    late owner (inl e) origin below after = omega (arith, e, origin, below, after)
    late owner (inr e) origin below after = omega (arith, e, origin, below, after)

-- What is as it was heard rests on replies to the exchange that it came of, or on copies.
pub heard-told : (l : List Noted) (k : ℕ) (x : Noted) (q : CoapRequest) (s : Stored) (j : ℕ) → Legal l → at l k ≡ Some x
    → IsAsHeard (before l k) q s → Contains s.list j → IsToldFor l s.opening q j × (j < k)
heard-told l k x q s j legal stands (inl is) has =
    let ws : List Reply = is.first ∷ is.more in
    let found = number-of ws j (subst (λ (ns : List ℕ). Contains ns j) is.list has) in
    let r : Reply = found.0 in
    let o : ℕ = is.opening in
    let was = comes-fit (before l k) o is.ending s.response ws r (legal-before l k legal) is.comes found.1 in
    let below = at-below (before l k) r.number _ was.fits.heard in
    let it = brought-of l k x q s r legal stands is found.1 in
    let same = found.2 in
    let len = length-before l k x stands in (
      inl (record {
        opening = it.owner;
        reply = r;
        number = same;
        fits = reply-for l it.owner q r it.came;
        late = it.late;
      }),
      omega (arith, below, len, same),
    )
heard-told l k x q s j legal stands (inr is) has =
    let ws : List Reply = is.first ∷ is.more in
    let found = number-of ws j (subst (λ (ns : List ℕ). Contains ns j) is.list has) in
    let r : Reply = found.0 in
    let was = carried-fit (before l k) is.opening is.carries.exchange r (legal-before l k legal) is.carries.asked
    (subst (λ (rs : List Reply). Contains rs r) (sym is.carries.replies) found.1) in
    let below = at-below (before l k) r.number _ was.heard in
    let same = found.2 in
    let len = length-before l k x stands in (
      inr (record {
        exchange = is.carries.exchange;
        asked = subst (λ (o : ℕ). carried l o ≡ Some is.carries.exchange) (sym is.origin) (carried-before l k is.opening is.carries.exchange is.carries.asked);
        same = is.same;
        reply = r;
        number = same;
        fits = subst (λ (o : ℕ). IsCarriedReply l o is.carries.exchange.request r) (sym is.origin)
            (reply-before l k is.opening is.carries.exchange.request r was);
      }),
      omega (arith, below, len, same),
    )

-- What is kept has no other entries than what was stored.
pub kept-listed : (l : List Noted) (kept stored : Stored) (j : ℕ) → kept ≡ pieces_of l stored → Contains kept.list j → Contains stored.list j
kept-listed l kept stored j e has =
    (filtered-from (λ (j : ℕ). not (is_valid_in (at l j))) stored.list j (subst (λ (v : Stored). Contains v.list j) e has)).0

-- What is stored came of an exchange that was opened, or copied, before.
pub stored-since : (fuel : ℕ) (l : List Noted) (k : ℕ) (x : Noted) (q : CoapRequest) (s : Stored) → k < fuel → Legal l → at l k ≡ Some x
    → IsStored (before l k) q s → s.opening < k
stored-since zero l k x q s lt legal stands is = absurd (omega (arith, lt))
stored-since (suc fuel) l k x q s lt legal stands (inl it) = by (heard-of (before l k) q s it)
  where
    by : IsAsHeard (before l k) q s → s.opening < k
    by (inl is) =
        let b = shared-is (before l k) q is.opening is.shared in
        let below = begun-below (before l k) is.opening b.exchange b.opened in
        let behind = behind-below (before l k) is.opening b.exchange (legal-before l k legal) b.opened in
        let len = length-before l k x stands in
        let origin = is.origin in
        omega (arith, below, behind, len, origin)
    by (inr is) =
        let below = carried-below (before l k) is.opening is.carries.exchange is.carries.asked in
        let len = length-before l k x stands in
        let origin = is.origin in
        omega (arith, below, len, origin)
stored-since (suc fuel) l k x q s lt legal stands (inr it) =
    let n = renewed-here l k x q s legal stands it in
    let earlier = n.earlier in
    let was = stored-since fuel l n.opening _ n.exchange.request n.renews.stored (omega (arith, lt, earlier)) legal n.renews.stands n.renews.is in
    let origin = it.origin in
    let same = ap (λ (v : Stored). v.opening) n.renews.pieces in
    omega (arith, earlier, was, origin, same)

-- What is stored rests on replies that were asked for since then.
pub stored-told : (fuel : ℕ) (l : List Noted) (k : ℕ) (x : Noted) (q : CoapRequest) (s : Stored) (j : ℕ) → k < fuel → Legal l → at l k ≡ Some x
    → IsStored (before l k) q s → Contains s.list j → IsToldFor l s.opening q j × (j < k)
stored-told zero l k x q s j lt legal stands is has = absurd (omega (arith, lt))
stored-told (suc fuel) l k x q s j lt legal stands (inl it) has = heard-told l k x q s j legal stands (heard-of (before l k) q s it) has
stored-told (suc fuel) l k x q s j lt legal stands (inr it) has =
    let n = renewed-here l k x q s legal stands it in
    let earlier = n.earlier in
    let r : Reply = it.renewal.reply in
    let was_it : Stored = n.renews.stored in
    let since : s.opening ≡ was_it.opening = it.origin ∙ ap (λ (v : Stored). v.opening) n.renews.pieces in
    elim (Contains-push_cases it.renewal.kept.list r.number j (subst (λ (js : List ℕ). Contains js j) it.list has)) [
      | inl w ↦
          let listed = kept-listed (before l n.opening) it.renewal.kept was_it j n.renews.pieces w in
          let was = stored-told fuel l n.opening _ n.exchange.request was_it j (omega (arith, lt, earlier)) legal n.renews.stands n.renews.is listed in
          let below = was.1 in (
            subst (λ (o : ℕ). IsToldFor l o q j) (sym since) (told-same l was_it.opening q n.exchange.request j legal n.same was.0),
            omega (arith, below, earlier),
          )
      | inr w ↦
          let fits = n.fits in
          let below = stored-since k l n.opening _ n.exchange.request was_it earlier legal n.renews.stands n.renews.is in
          let after = fits.after in
          let number = n.below in (
            inl (record {
              opening = n.opening;
              reply = r;
              number = w;
              fits = fits;
              late = omega (arith, since, below, after);
            }),
            omega (arith, number, w),
          )
    ]
