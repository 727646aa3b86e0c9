-- What is stored, and what exchanges keep of that, was heard whole.
use Rattle.std.proofs.Common.{◌∷◌, eqb, ◌≡◌, ℕ, zero, inl, inr, List, [], Option, Some, None, refl, sym, ap, subst, ◌∙◌, arith, suc, ◌<◌, ◌⊎◌, not, length, true, false}
use Rattle.exchange_model.proofs.Comes.{heard-fits}
use Rattle.std.specs.List.{AllByRecursion, Contains, slice_get, list_all}
use Rattle.std.proofs.lemmas.Bool.{and_parts}
use Rattle.std.specs.Prelude.{is_some}
use Rattle.coap_codec.specs.Spelling.{Content, Spells}
use Rattle.uri_map.specs.declared.peer.Peer.{Peer}
use Rattle.resp_cache.specs.declared.pair.Pair.{Pair}
use Rattle.ask_model.specs.Requests.{CoapRequest}
use Rattle.journal_book.specs.Entries.{Ground, Hears, Carries, Written}
use Rattle.journal_book.specs.Entries as D
use Rattle.history_laws.specs.Responses.{Response, confirms, first_some, response_of, whole_fetched, renewed_response, valid, is_tellable}
use Rattle.history_laws.specs.Readings.{Note, Says, Recalls, at, Noted, noted, before}
use Rattle.history_laws.specs.Progress.{Reply, numbers, messages}
use Rattle.history_laws.specs.Joining.{asks_the_same}
use Rattle.history_laws.specs.Exchanges.{begun, Begun, heard_for}
use Rattle.history_laws.specs.Laws.{IsReplyTo}
use Rattle.history_laws.specs.Grounds.{IsCarriedReply}
use Rattle.history_laws.specs.Storing.{IsBrought, IsCarried, IsStored, IsAsHeard, IsRenewed, is_valid_in, pieces_in}
use Rattle.history_laws.proofs.CallerLemmas.{comes-fit, shared-is, contains-later, replies-fit, some-is, all-more, at-entries, at-before, before-twice, begun-below, comes-since, ends-renewed, heard-of, legal-before, length-before, renewed-of, reply-before, all-of, filter-all, entries-length, renews-for, RenewsFor}
use Rattle.exchange_model.specs.Reads.{PairIn, Reads, ExchangeIn, kept_in}
use Rattle.exchange_model.specs.Growing.{IsHeardAt, AreHeardAt, IsCopiedAt, AreCopiedAt, IsHeardIn, StoreHeard, IsRenewedIn, IsKeptIn, IsNamedIn, StalesHeard}
use Rattle.exchange_model.specs.State.{State}
use Rattle.exchange_model.proofs.Carried.{reply-stands}
use Rattle.resp_cache.specs.Stored.{Stored}
use Rattle.history_laws.specs.Justified.{Legal}
use Rattle.exchange_model.specs.Matters.{stale_in}
use Rattle.exchange_model.proofs.Renewals.{renewal-for, pieces-before, pieces-since, was-kept}
use Rattle.exchange_model.proofs.Shape.{get-by, whole-come, whole-get, all-tellable, tellable-not}
use Rattle.exchange_model.specs.Keeping.{Kept}
use Rattle.exchange_model.specs.declared.kept.Exchange.{Exchange}
use Rattle.exchange_model.specs.declared.kept.Stale.{Stale}

-- Each reply to an exchange was heard in the journal.
pub heard-at : (l : List Noted) (S : State) → Reads l S → (o : ℕ) (r : Reply) → IsReplyTo l o r → IsHeardAt S r.number r.message
heard-at l S reads o r fits = record {
  moment = fits.moment;
  peer = fits.peer;
  bytes = fits.bytes;
  stands = subst (λ (h : List Written). slice_get h r.number ≡ Some (record { moment = fits.moment; deed = Hears fits.peer fits.bytes })) reads.entries_are (at-entries l r.number _ fits.heard);
  spelled = fits.spelled;
}

all-heard : (l : List Noted) (S : State) → Reads l S → (rs : List Reply) → ((r : Reply) → Contains rs r → (o : ℕ) × IsReplyTo l o r) → AreHeardAt S (numbers rs) (messages rs)
all-heard l S reads [] h = tt
all-heard l S reads (r ∷ rs) h = (
  let it = h r (zero, omega arith, refl) in heard-at l S reads it.0 r it.1,
  all-heard l S reads rs (λ x has. h x (contains-later r rs x has)),
)

pub are-heard : (l : List Noted) (S : State) → Reads l S → (o : ℕ) (b : Begun) (rs : List Reply) → begun l o ≡ Some b
    → ((r : Reply) → Contains rs r → Contains (heard_for l o) r) → AreHeardAt S (numbers rs) (messages rs)
are-heard l S reads o b rs opened h = all-heard l S reads rs (λ r has. heard-fits l o b r reads.legal opened (h r has))

brought-one : (l : List Noted) (S : State) → Reads l S → (p : Pair) (q : CoapRequest) → IsBrought l q p.stored → IsHeardIn S p
unfolding are-heard all-heard heard-at
brought-one l S r p q s =
    let rs : List Reply = s.first ∷ s.more in
    let fit : ((x : Reply) → Contains rs x → (o : ℕ) × IsReplyTo l o x) =
    λ x has. let it = comes-fit l s.opening s.ending p.stored.response rs x r.legal s.comes has in (it.owner, it.fits) in
    let fits = (fit s.first (zero, omega arith, refl)).1 in
    let both = and_parts (asks_the_same q (begun l s.opening)) _ s.shared in
    let joined = shared-is l q s.opening s.shared in
    let entry : noted fits.moment (Hears fits.peer fits.bytes) (Says s.first.message (Some s.first.sending) fits.notice) ≡ s.entry =
    some-is _ _ (sym fits.heard ∙ s.heard_in) in
    let heard = all-heard l S r rs fit in
    record {
      number = s.first.number;
      others = numbers s.more;
      message = s.first.message;
      more = messages s.more;
      list = s.list;
      heard = inl (heard.0, ap (λ (x : Noted). x.written.moment) entry ∙ sym s.heard, heard.1);
      whole = whole-come l s.opening s.ending p.stored.response s.first s.more q r.legal both.0 (get-by q joined.exchange.request joined.same) s.comes;
    }

-- Or they stand as copies.
copied-at : (l : List Noted) (S : State) → Reads l S → (o : ℕ) (q : CoapRequest) (r : Reply) → IsCarriedReply l o q r → IsCopiedAt S r.number r.message
copied-at l S reads o q r fits = record {
  moment = fits.moment;
  number = fits.number;
  peer = q.peer;
  bytes = fits.bytes;
  stands = subst (λ (h : List Written). slice_get h r.number ≡ Some (record { moment = fits.moment; deed = Carries fits.number Ground (D.Heard q.peer fits.bytes) })) reads.entries_are
      (at-entries l r.number _ fits.heard);
  spelled = fits.spelled;
}

all-copied : (l : List Noted) (S : State) → Reads l S → (o : ℕ) (q : CoapRequest) (rs : List Reply) → ((r : Reply) → Contains rs r → IsCarriedReply l o q r) → AreCopiedAt S (numbers rs) (messages rs)
all-copied l S reads o q [] h = tt
all-copied l S reads o q (r ∷ rs) h = (copied-at l S reads o q r (h r (zero, omega arith, refl)), all-copied l S reads o q rs (λ x has. h x (contains-later r rs x has)))

carried-one : (l : List Noted) (S : State) → Reads l S → (p : Pair) (q : CoapRequest) → IsCarried l q p.stored → IsHeardIn S p
unfolding all-copied copied-at
carried-one l S r p q s =
    let rs : List Reply = s.first ∷ s.more in
    let asked : CoapRequest = s.carries.exchange.request in
    let fit : ((x : Reply) → Contains rs x → IsCarriedReply l s.opening asked x) =
    λ x has. reply-stands l s.opening p.stored.response rs r.legal s.carries x has in
    let fits = fit s.first (zero, omega arith, refl) in
    let entry : noted fits.moment (Carries fits.number Ground (D.Heard asked.peer fits.bytes)) (Recalls s.first.message fits.answer) ≡ s.entry =
    some-is _ _ (sym fits.heard ∙ s.heard_in) in
    let copied = all-copied l S r s.opening asked rs fit in
    record {
      number = s.first.number;
      others = numbers s.more;
      message = s.first.message;
      more = messages s.more;
      list = s.list;
      heard = inr (copied.0, ap (λ (x : Noted). x.written.moment) entry ∙ sym s.heard, copied.1);
      whole = sym (whole-get asked s.first.message (messages s.more) (and_parts (eqb asked.method 1) _ s.carries.get).0) ∙ s.carries.whole;
    }

-- What an exchange keeps was heard whole, whatever has renewed it since.
abbrev pub Stand : List Noted → List Reply → Type 0
Stand l rs =
    ((r : Reply) → Contains rs r → (o : ℕ) × IsReplyTo l o r)
    ⊎ ((o : ℕ) × (q : CoapRequest) × ((r : Reply) → Contains rs r → IsCarriedReply l o q r))

-- a 2.03 that names this format, for what has this ETag
record Named (l : List Noted) (tag : Option (List ℕ)) (format : Option ℕ) : Type 0 where
  pub number : ℕ
  pub moment : ℕ
  pub peer : Peer
  pub bytes : List ℕ
  pub note : Note
  pub message : Content
  pub stands : at l number ≡ Some (noted moment (Hears peer bytes) note)
  pub spelled : Spells message bytes
  pub says : confirms tag message ≡ true
  pub names : (response_of message).format ≡ format
  pub some : is_some format ≡ true

record HeardWhole (l : List Noted) (s : Stored) : Type 0 where
  pub first : Reply
  pub more : List Reply
  pub stand : Stand l (first ∷ more)
  pub response : Response
  pub whole : whole_fetched first.message (messages more) ≡ Some response
  pub pieces : pieces_in l s.list ≡ numbers (first ∷ more)
  pub renewed : s.response ≡ record response { format = s.response.format; max_age = s.response.max_age }
  pub format : (s.response.format ≡ response.format) ⊎ Named l s.response.etag s.response.format

-- None of it is a 2.03.
no-valid : (l : List Noted) (rs : List Reply) → Stand l rs → (r : Reply) → Contains rs r → eqb r.message.code valid ≡ false → is_valid_in (at l r.number) ≡ false
no-valid l rs (inl h) r has other = ap is_valid_in (h r has).1.heard ∙ other
no-valid l rs (inr h) r has other = ap is_valid_in (h.2 r has).heard

all-other : (rs : List Reply) → list_all is_tellable (messages rs) ≡ true → AllByRecursion (λ (r : Reply). eqb r.message.code valid ≡ false) rs
all-other [] e = tt
all-other (r ∷ rs) e = let b = and_parts (is_tellable r.message) (list_all is_tellable (messages rs)) e in (tellable-not r.message b.0, all-other rs b.1)

each-piece : (l : List Noted) (rs : List Reply) → ((r : Reply) → Contains rs r → is_valid_in (at l r.number) ≡ false)
    → AllByRecursion (λ (j : ℕ). not (is_valid_in (at l j)) ≡ true) (numbers rs)
each-piece l [] h = tt
each-piece l (r ∷ rs) h = (ap not (h r (zero, omega arith, refl)), each-piece l rs (λ x has. h x (contains-later r rs x has)))

all-pieces : (l : List Noted) (first : Reply) (more : List Reply) (w : Response) → Stand l (first ∷ more) → whole_fetched first.message (messages more) ≡ Some w
    → pieces_in l (numbers (first ∷ more)) ≡ numbers (first ∷ more)
all-pieces l first more w stand whole =
    let rs : List Reply = first ∷ more in
    let other = all-other rs (all-tellable first.message (messages more) w whole) in
    filter-all (λ (j : ℕ). not (is_valid_in (at l j))) (numbers rs)
    (each-piece l rs (λ r has. no-valid l rs stand r has (all-of (λ (v : Reply). eqb v.message.code valid ≡ false) rs r other has)))

as-it-was : (w : Response) → w ≡ record w { format = w.format; max_age = w.max_age }
as-it-was w = refl

as-kept : (s u : Stored) (w : Response) → s.response ≡ u.response → u.response ≡ record w { format = u.response.format; max_age = u.response.max_age }
    → s.response ≡ record w { format = s.response.format; max_age = s.response.max_age }
as-kept s u w e f = subst (λ (z : Response). z ≡ record w { format = z.format; max_age = z.max_age }) (sym e) f

heard-whole : (fuel : ℕ) (l : List Noted) (k : ℕ) (x : Noted) (q : CoapRequest) (s : Stored) → k < fuel → Legal l → at l k ≡ Some x → IsStored (before l k) q s → HeardWhole l s
heard-whole zero l k x q s lt legal stands is = absurd (omega (arith, lt))
heard-whole (suc fuel) l k x q s lt legal stands (inl it) = by (heard-of (before l k) q s it)
  where
    by : IsAsHeard (before l k) q s → HeardWhole l s
    by (inl a) =
        let joined = shared-is (before l k) q a.opening a.shared in
        let both = and_parts (asks_the_same q (begun (before l k) a.opening)) _ a.shared in
        let comes = comes-since l k x a.opening a.ending s.response (a.first ∷ a.more) stands a.comes in
        let stand : Stand l (a.first ∷ a.more) = inl (λ r has. let it = comes-fit l a.opening a.ending s.response (a.first ∷ a.more) r legal comes has in (it.owner, it.fits)) in
        let whole = whole-come (before l k) a.opening a.ending s.response a.first a.more q (legal-before l k legal) both.0 (get-by q joined.exchange.request joined.same) a.comes in
        record {
          first = a.first;
          more = a.more;
          stand = stand;
          response = s.response;
          whole = whole;
          pieces = ap (pieces_in l) a.list ∙ all-pieces l a.first a.more s.response stand whole;
          renewed = as-it-was s.response;
          format = inl refl;
        }
    by (inr a) =
        let asked : CoapRequest = a.carries.exchange.request in
        let stand : Stand l (a.first ∷ a.more) = inr (
          a.opening,
          asked,
          λ r has.
              reply-before l k a.opening asked r
              (reply-stands (before l k) a.opening s.response (a.first ∷ a.more) (legal-before l k legal) a.carries r has),
        ) in
        let whole : whole_fetched a.first.message (messages a.more) ≡ Some s.response =
        sym (whole-get asked a.first.message (messages a.more) (and_parts (eqb asked.method 1) _ a.carries.get).0) ∙ a.carries.whole in
        record {
          first = a.first;
          more = a.more;
          stand = stand;
          response = s.response;
          whole = whole;
          pieces = ap (pieces_in l) a.list ∙ all-pieces l a.first a.more s.response stand whole;
          renewed = as-it-was s.response;
          format = inl refl;
        }
heard-whole (suc fuel) l k x q s lt legal stands (inr it) =
    let m : List Noted = before l k in
    let legal_m = legal-before l k legal in
    let f = renewal-for m q it.ending legal_m it.renewal in
    let o : ℕ = it.renewal.opening in
    let below = begun-below m o f.exchange f.opened in
    let len = length-before l k x stands in
    let lower : o < k = omega (arith, below, len) in
    let stands_o = at-before l k o _ f.renews.stands in
    let is = subst (λ (h : List Noted). IsStored h f.exchange.request f.renews.stored) (before-twice l k o x stands lower) f.renews.is in
    let was = heard-whole fuel l o _ f.exchange.request f.renews.stored (omega (arith, lt, lower)) legal stands_o is in
    record {
      first = was.first;
      more = was.more;
      stand = was.stand;
      response = was.response;
      whole = was.whole;
      pieces = ap (pieces_in l) it.list ∙ (pieces-since l k x q it.ending legal stands it.renewal f ∙ was.pieces);
      renewed = renews-as s it.renewal.kept was.response it.renewal.reply.message it.response (as-kept it.renewal.kept f.renews.stored was.response (ap (λ (v : Stored). v.response) f.renews.pieces) was.renewed);
      format =
          let u : Reply = it.renewal.reply in
          let fits = replies-fit m o u legal_m (renewed-of m o it.ending it.renewal.kept u it.renewal.ended) in
          let ends = ends-renewed m o it.ending it.renewal.kept u it.renewal.ended in
          subst (λ (w : Response). (w.format ≡ was.response.format) ⊎ Named l w.etag w.format) (sym it.response)
          (names-as l it.renewal.kept.response was.response u.number fits.moment fits.peer fits.bytes _ u.message
          (at-before l k u.number _ fits.heard) fits.spelled ends.turned.tells
          (subst (λ (w : Response). (w.format ≡ was.response.format) ⊎ Named l w.etag w.format)
          (sym (ap (λ (v : Stored). v.response) f.renews.pieces)) was.format) ((response_of u.message).format) refl);
    }
  where
    -- the format of what is renewed: that of the 2.03, where it names one
    names-as : (l : List Noted) (u w : Response) (n t : ℕ) (p : Peer) (b : List ℕ) (note : Note) (m : Content)
        → at l n ≡ Some (noted t (Hears p b) note) → Spells m b → confirms u.etag m ≡ true
        → (u.format ≡ w.format) ⊎ Named l u.etag u.format
        → (v : Option ℕ) → (response_of m).format ≡ v
        → (first_some v u.format ≡ w.format) ⊎ Named l u.etag (first_some v u.format)
    names-as l u w n t p b note m stands spelled says old None e = old
    names-as l u w n t p b note m stands spelled says old (Some f) e = inr (record {
      number = n;
      moment = t;
      peer = p;
      bytes = b;
      note = note;
      message = m;
      stands = stands;
      spelled = spelled;
      says = says;
      names = e;
      some = refl;
    })

    renews-as : (s u : Stored) (w : Response) (m : Content) → s.response ≡ renewed_response u.response m
        → u.response ≡ record w { format = u.response.format; max_age = u.response.max_age }
        → s.response ≡ record w { format = s.response.format; max_age = s.response.max_age }
    renews-as s u w m e f =
        e ∙ (ap (λ (v : Response). renewed_response v m) f
        ∙ sym (ap (λ (v : Response). record w { format = v.format; max_age = v.max_age }) (e ∙ ap (λ (v : Response). renewed_response v m) f)))

-- So what it keeps stands in the state.
stand-in : (l : List Noted) (S : State) → Reads l S → (rs : List Reply) → Stand l rs → AreHeardAt S (numbers rs) (messages rs) ⊎ AreCopiedAt S (numbers rs) (messages rs)
stand-in l S r rs (inl h) = inl (all-heard l S r rs h)
stand-in l S r rs (inr h) = inr (all-copied l S r h.0 h.1 rs h.2)

named-in : (l : List Noted) (S : State) → Reads l S → (tag : Option (List ℕ)) (format : Option ℕ) → Named l tag format → IsNamedIn S tag format
named-in l S r tag format n = record {
  number = n.number;
  message = n.message;
  heard = record {
    moment = n.moment;
    peer = n.peer;
    bytes = n.bytes;
    stands = subst (λ (h : List Written). slice_get h n.number ≡ Some (record { moment = n.moment; deed = Hears n.peer n.bytes })) r.entries_are
        (at-entries l n.number _ n.stands);
    spelled = n.spelled;
  };
  says = n.says;
  names = n.names;
  some = n.some;
}

pub kept-heard : (l : List Noted) (S : State) → Reads l S → (o : ℕ) (b : Begun) (s : Stored) → RenewsFor l o b s → IsKeptIn S s
kept-heard l S r o b s it =
    let was = heard-whole (suc o) l o _ b.request it.stored (omega arith) r.legal it.stands it.is in
    let rs : List Reply = was.first ∷ was.more in
    let list : s.list ≡ numbers rs = ap (λ (v : Stored). v.list) it.pieces ∙ (pieces-before l o b s r.legal it ∙ was.pieces) in
    record {
      message = was.first.message;
      more = messages was.more;
      heard = subst (λ (js : List ℕ). AreHeardAt S js (messages rs) ⊎ AreCopiedAt S js (messages rs)) (sym list) (stand-in l S r rs was.stand);
      response = was.response;
      whole = was.whole;
      renewed = as-kept s it.stored was.response (ap (λ (v : Stored). v.response) it.pieces) was.renewed;
      format = subst (λ (w : Response). (w.format ≡ was.response.format) ⊎ IsNamedIn S w.etag w.format)
          (sym (ap (λ (v : Stored). v.response) it.pieces))
          (elim (was.format) [ inl same ↦ inl same | inr n ↦ inr (named-in l S r _ _ n) ]);
    }

pub stales-heard : StalesHeard
stales-heard S k e s has is =
    let r = k.kept.rests.reads in
    let l = k.kept.reading in
    let a = all-of (ExchangeIn r.start l) S.exchanges e r.exchanges_are has in
    let keeps = all-of (λ (f : Exchange). kept_in l f.opening ≡ stale_in f.opening S.stales) S.exchanges e r.stales_are.kept has ∙ is in
    kept-heard l S r e.opening _ s (renews-for l e.opening _ s r.legal a.opening (was-kept l e.opening s keeps))

-- Each was opened by an entry of the journal.
pub stales-below : (S : State) → Kept S → AllByRecursion (λ (x : Stale). x.opening < length S.entries) S.stales
stales-below S k =
    let r = k.rests.reads in
    subst (λ (n : ℕ). AllByRecursion (λ (x : Stale). x.opening < n) S.stales) (sym (entries-length k.reading) ∙ ap length r.entries_are) r.stales_are.below

renewed-in : (l : List Noted) (S : State) → Reads l S → (p : Pair) (q : CoapRequest) → IsRenewed l q p.stored → IsRenewedIn S p
unfolding heard-at
renewed-in l S r p q it =
    let f = renewal-for l q it.ending r.legal it.renewal in
    let o : ℕ = it.renewal.opening in
    let u : Reply = it.renewal.reply in
    let fits = replies-fit l o u r.legal (renewed-of l o it.ending it.renewal.kept u it.renewal.ended) in
    let entry : noted fits.moment (Hears fits.peer fits.bytes) (Says u.message (Some u.sending) fits.notice) ≡ it.entry = some-is _ _ (sym fits.heard ∙ it.heard_in) in
    record {
      kept = it.renewal.kept;
      was = kept-heard l S r o f.exchange it.renewal.kept f.renews;
      number = u.number;
      renewal = u.message;
      list = it.list;
      confirmed = (heard-at l S r o u fits, ap (λ (y : Noted). y.written.moment) entry ∙ sym it.heard);
      says = (ends-renewed l o it.ending it.renewal.kept u it.renewal.ended).turned.tells;
      opening = it.origin;
      renewed = it.response;
    }

heard-one : (l : List Noted) (S : State) → Reads l S → (p : Pair) → PairIn l p → IsHeardIn S p ⊎ IsRenewedIn S p
heard-one l S r p a = by a.stored
  where
    by : IsStored l a.request p.stored → IsHeardIn S p ⊎ IsRenewedIn S p
    by (inl (inl s)) = inl (brought-one l S r p a.request s.0)
    by (inl (inr s)) = inl (carried-one l S r p a.request s.0)
    by (inr s) = inr (renewed-in l S r p a.request s)

pub store-heard : StoreHeard
store-heard S k =
    let r = k.kept.rests.reads in
    all-more (PairIn k.kept.reading) (λ (p : Pair). IsHeardIn S p ⊎ IsRenewedIn S p) (heard-one k.kept.reading S r) S.store r.store_is.pairs
