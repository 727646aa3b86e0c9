-- What is stored for a GET, as entries: what was heard first of it, and by what that was renewed.
use Rattle.std.proofs.Common.{◌≡◌, ◌⊎◌, ℕ, zero, suc, ◌<◌, Bool, true, false, not, ◌&&◌, cond, eqb, inl, inr, List, [], ◌∷◌, ◌++◌, length, Some, None, refl, sym, ap, subst, ◌∙◌, arith}
use Rattle.std.specs.Prelude.{is_some}
use Rattle.std.specs.List.{Contains, list_all}
use Rattle.std.proofs.lemmas.Bool.{and_parts}
use Rattle.coap_codec.specs.Recognition.{is_forwardable}
use Rattle.coap_codec.specs.Spelling.{Content}
use Rattle.blockwise.specs.Downloads.{given, nothing}
use Rattle.uri_map.specs.declared.peer.Peer.{Peer}
use Rattle.cache_key.specs.declared.place.Place.{Place}
use Rattle.ask_model.specs.Requests.{CoapRequest, Requests, Validating}
use Rattle.ask_model.specs.Sharing.{asked_key, asked_place, asks_same}
use Rattle.ask_model.specs.Views.{Ask}
use Rattle.ask_model.proofs.CallerLemmas.{asks-alike, asks-onward, same-place}
use Rattle.journal_book.specs.Entries.{Asks, Written}
use Rattle.resp_cache.specs.Stored.{Stored}
use Rattle.history_laws.specs.Responses.{Response, is_tellable, joined, renewed_response, whole_fetched, whole_of}
use Rattle.history_laws.specs.Readings.{Noted, entries, at, before, noted}
use Rattle.history_laws.specs.Progress.{Reply, Renewed, messages, numbers}
use Rattle.history_laws.specs.Exchanges.{Begun, begun, ask_behind}
use Rattle.history_laws.specs.Joining.{outrun}
use Rattle.history_laws.specs.Observing.{outdated}
use Rattle.history_laws.specs.Carrying.{carried}
use Rattle.history_laws.specs.Storing.{IsAsHeard, IsBrought, IsCarried, IsRenewed, IsStored, first_in, is_valid_in, pieces_in}
use Rattle.history_laws.specs.Justified.{Ends, IsAsk, Legal}
use Rattle.history_laws.specs.Laws.{IsFetched}
use Rattle.history_laws.specs.Grounds.{IsCarriedReply, IsConfirmed}
use Rattle.history_laws.proofs.CallerLemmas.{ask-behind, asking-alike, at-before, at-below, at-entries, at-same, at-still, begun-before, begun-below, begun-early, behind-below, behind-since, behind-unoutrun, carried-before, carried-below, carried-fit, comes-fit, confirmed-as-asked, contains-none, filter-all, first-or-later, heard-of, legal-before, length-before, listed-are, none-some, number-of, renewed-here, RenewedHere, renewed-of, reply-before, shared-is, some-is}
use Rattle.history_claims.specs.Headline.{IsFirstSending, IsNew, IsNewest, IsResponse, IsSameGet, IsUnanswered, IsWriteAnswer}
use Rattle.history_claims.specs.Stored.{WasWhole, IsValid, WasRenewed, never, again, WasStored}
use Rattle.history_claims.proofs.Alike.{IsLike, same-get}
use Rattle.history_claims.proofs.Carried.{ask-copied, carried-all}
use Rattle.history_claims.proofs.Entries.{asked-entry, entries-at}
use Rattle.history_claims.proofs.Newest.{newest-in}
use Rattle.history_claims.proofs.Heard.{came-heard}
use Rattle.history_claims.proofs.Quiet.{asks-back, at-there}
use Rattle.history_claims.proofs.Waiting.{heard-so}
use Rattle.history_claims.proofs.Written.{IsAskedAt, carried-unwritten, fresh-at}

-- What is stored for a GET is stored for each that asks the same.
pub get-through : (q r o : CoapRequest) → asks_same q r ≡ true → IsSameGet r o → IsSameGet q o
get-through q r o e g =
    let alike = asks-alike q r e in
    (same-get q r e, alike.0 ∙ g.1, λ manner mid token. alike.1 manner mid token ∙ g.2 manner mid token)

whole-through : (h : List Written) (q r : CoapRequest) (s : Stored) → asks_same q r ≡ true → WasWhole h r s → WasWhole h q s
whole-through h q r s e w = record {
  other = w.other;
  same = get-through q r w.other e w.same;
  messages = w.messages;
  heard = w.heard;
  whole = w.whole;
  content = w.content;
}

renewed-through : (h : List Written) (q r : CoapRequest) (first : Stored) (n : ℕ) (s : Stored) → asks_same q r ≡ true → WasRenewed h r first n s
    → WasRenewed h q first n s
renewed-through h q r first n s e (never below) = never below
renewed-through h q r first n s e (again o c t j other m asked same was it below) =
    again o c t j other m asked (get-through q r other e same) (renewed-through h q r first o _ e was) it below

write-through : (h : List Written) (q r : CoapRequest) (n : ℕ) → asks_same q r ≡ true → IsWriteAnswer h q n → IsWriteAnswer h r n
write-through h q r n e w =
    let place = same-place q r e in
    record {
      ask = w.ask;
      write = record {
        conn = w.write.conn;
        moment = w.write.moment;
        request = w.write.request;
        asked = w.write.asked;
        changes = w.write.changes;
        place = (w.write.place.0 ∙ ap (λ (p : Place). p.peer) place, w.write.place.1 ∙ ap (λ (p : Place). p.path) place);
      };
      moment = w.moment;
      grounds = w.grounds;
      answers = w.answers;
      had_room = w.had_room;
    }

newest-through : (h : List Written) (q r : CoapRequest) (js : List ℕ) (n : ℕ) → asks_same q r ≡ true → IsNewest h js n r → IsNewest h js n q
newest-through h q r [] n e w = tt
newest-through h q r (s ∷ js) n e w = λ p j m after below notice.
    let it = w p j m after below notice in
    (it.0, it.1, it.2, λ same. it.3 (asks-onward q r it.1 e same))

pub stored-through : (h : List Written) (n : ℕ) (q r : CoapRequest) (s : Stored) → asks_same q r ≡ true → (w : WasStored h n r s)
    → (v : WasStored h n q s) × (v.first ≡ w.first)
stored-through h n q r s e w = (
  record {
    first = w.first;
    whole = whole-through h q r w.first e w.whole;
    earlier = w.earlier;
    renewed = renewed-through h q r w.first n s e w.renewed;
    newest = newest-through h q r w.first.list n e w.newest;
    current = λ i it lt. w.current i (write-through h q r i e it) lt;
  },
  refl,
)

pub valid-like : (h : List Written) (o : ℕ) (r q : CoapRequest) (w : Response) (j : ℕ) (m : Content) → IsLike r q → IsValid h o r w j m → IsValid h o q w j m
valid-like h o r q w j m like v =
    let it = v.heard in
    let s = it.sent_for in
    record {
      tag = v.tag;
      has = v.has;
      heard = record {
        sending = it.sending;
        sent = it.sent;
        sent_for = record {
          after = s.after;
          moment = s.moment;
          first = subst (λ (p : Peer). IsFirstSending h it.sending s.moment p it.sent) like.peer s.first;
          asks = (s.asks.0, s.asks.1 ∙ asking-alike s.asks.0 r q it.sent.mid it.sent.token None (like.peer, like.message));
          issued = s.issued;
        };
        response = subst (λ (p : Peer). IsResponse h p it.sending it.sent j m) like.peer it.response;
        new = subst (λ (p : Peer). IsNew h p j) like.peer it.new;
        first = subst (λ (p : Peer). IsUnanswered h p it.sending it.sent j) like.peer it.first;
      };
      asked = v.asked;
      code = v.code;
      confirmed = v.confirmed;
    }

-- No piece of a whole response is a 2.03.
flip : (b : Bool) → not b ≡ true → b ≡ false
flip true e = sym e
flip false e = refl

pub tellable-not : (m : Content) → is_tellable m ≡ true → eqb m.code 67 ≡ false
tellable-not m e =
    let a = and_parts (is_forwardable m.options) _ e in
    let b = and_parts _ (not (eqb m.code 67) && (not (eqb m.code 95) && not (eqb m.code 136))) a.1 in
    flip (eqb m.code 67) (and_parts (not (eqb m.code 67)) _ b.1).0

cond-some : (b : Bool) (v w : Response) → cond b (Some v) None ≡ Some w → b ≡ true
cond-some true v w e = refl
cond-some false v w e = absurd (none-some w e)

pub whole-tells : (q : CoapRequest) (ms : List Content) (w : Response) → q.method ≡ 1 → whole_of q ms ≡ Some w → list_all is_tellable ms ≡ true
whole-tells q [] w get e = absurd (none-some w e)
whole-tells q (m ∷ ms) w get e =
    let one : eqb q.method 1 ≡ true = subst (λ (n : ℕ). eqb n 1 ≡ true) (sym get) refl in
    let plain : whole_fetched m ms ≡ Some w = rw (one) at e in
    (and_parts (list_all is_tellable (m ∷ ms)) (is_some (given nothing (m ∷ ms))) (cond-some _ (joined m ms) w plain)).0

pub each-tells : (rs : List Reply) (r : Reply) → list_all is_tellable (messages rs) ≡ true → Contains rs r → is_tellable r.message ≡ true
each-tells [] r e has = absurd (contains-none r has)
each-tells (x ∷ rs) r e has =
    let both = and_parts (is_tellable x.message) (list_all is_tellable (messages rs)) e in
    elim (first-or-later x rs r has) [
      | inl same ↦ subst (λ (v : Reply). is_tellable v.message ≡ true) same both.0
      | inr later ↦ each-tells rs r both.1 later
    ]

-- So what an exchange keeps of such a list is all of it; and what renewed it before goes.
pieces-all : (l : List Noted) (js : List ℕ) → ((j : ℕ) → Contains js j → is_valid_in (at l j) ≡ false) → pieces_in l js ≡ js
pieces-all l js none =
    filter-all (λ (j : ℕ). not (is_valid_in (at l j))) js
    (listed-are (λ (j : ℕ). not (is_valid_in (at l j)) ≡ true) js (λ j has. ap not (none j has)))

pieces-drop : (l : List Noted) (js : List ℕ) (n : ℕ) → is_valid_in (at l n) ≡ true → pieces_in l (js ++ n ∷ []) ≡ pieces_in l js
pieces-drop l [] n e = rw (e) refl
pieces-drop l (j ∷ js) n e = by (not (is_valid_in (at l j))) (pieces-drop l js n e)
  where
    by : (b : Bool) → pieces_in l (js ++ n ∷ []) ≡ pieces_in l js
        → cond b (j ∷ pieces_in l (js ++ n ∷ [])) (pieces_in l (js ++ n ∷ [])) ≡ cond b (j ∷ pieces_in l js) (pieces_in l js)
    by true ih = ap (λ (v : List ℕ). j ∷ v) ih
    by false ih = ih

-- What an exchange kept is valid still, as a reply to its first message says.
pub record ValidIn (l : List Noted) (n o : ℕ) (q : CoapRequest) (w : Response) (r : Reply) : Type 0 where
  pub is : IsValid (entries l) o q w r.number r.message
  pub below : r.number < n
  pub at_it : is_valid_in (at l r.number) ≡ true

pub valid-in : (l : List Noted) (n o e : ℕ) (x : Noted) (b : Begun) (s : Stored) (r : Reply) (w : Response) → Legal l → at l n ≡ Some x
    → begun (before l n) o ≡ Some b → Ends (before l n) o e (Renewed s r) → s.response ≡ w → ValidIn l n o b.request w r
valid-in l n o e x b s r w legal here opened ended same =
    let early = legal-before l n legal in
    let c : IsConfirmed (before l n) o b s r = confirmed-as-asked (before l n) o e b s r early opened ended in
    let fetched : IsFetched (before l n) o b.request None r =
    record { fits = c.fits; moment = c.moment; mid = c.mid; token = c.token; manner = Validating c.tag; first = c.first } in
    let so = heard-so l n o r b x None legal (begun-before l n o b opened) here (renewed-of (before l n) o e s r ended) fetched in
    let heard = at-before l n r.number _ c.fits.heard in
    let below = at-below (before l n) r.number _ c.fits.heard in
    record {
      is = record {
        tag = c.tag;
        has = subst (λ (w : Response). w.etag ≡ Some c.tag) same c.has;
        heard = so.0;
        asked = so.2;
        code = c.code;
        confirmed = c.same;
      };
      below = subst (λ (m : ℕ). r.number < m) (length-before l n x here) below;
      at_it = ap is_valid_in heard ∙ subst (λ (code : ℕ). eqb code 67 ≡ true) (sym c.code) refl;
    }

-- What is stored before an ask, by what was heard first of it.
pub record KeptHere (l : List Noted) (k : ℕ) (q : CoapRequest) (s : Stored) : Type 0 where
  pub first : Stored
  pub whole : WasWhole (entries l) q first
  pub earlier : first.opening < k
  pub renewed : WasRenewed (entries l) q first k s
  pub origin : s.opening ≡ first.opening
  pub pieces : pieces_in (before l k) s.list ≡ first.list
  pub plain : (j : ℕ) → Contains first.list j → (is_valid_in (at l j) ≡ false) × (j < k)
  pub start : ℕ
  pub more : List ℕ
  pub starts : first.list ≡ start ∷ more
  pub newest : outdated (before l k) (asked_key q) start ≡ false
  pub unoutrun : outrun (before l k) (asked_place q) first.opening ≡ false
  pub opened : IsAskedAt l first.opening ⊎ ((b : Begun) × (carried l first.opening ≡ Some b))

stored-path : (w v : Response) (o p t u : ℕ) (js ns : List ℕ) → w ≡ v → o ≡ p → t ≡ u → js ≡ ns
    → ◌≡◌ {A = Stored} (record { response = w; opening = o; heard = t; list = js }) (record { response = v; opening = p; heard = u; list = ns })
stored-path w v o p t u js ns a b c d = rw (a, b, c, d) refl

-- what is stored before the entry k
module _ (l : List Noted) (k : ℕ) (x : Noted) (q : CoapRequest) (s : Stored) (legal : Legal l) (here : at l k ≡ Some x) where
  early : Legal (before l k)
  early = legal-before l k legal

  below-ask : (o : ℕ) → o < length (before l k) → o < k
  below-ask o lt = subst (λ (i : ℕ). o < i) (length-before l k x here) lt

  same-at : (j : ℕ) → j < k → at (before l k) j ≡ at l j
  same-at j lt =
      let deep = at-below l k x here in
      let it = at-there l j (omega (arith, lt, deep)) in
      at-still l k j x it.0 here lt it.1 ∙ sym it.1

  pieces-then : (js : List ℕ) → ((j : ℕ) → Contains js j → (is_valid_in (at l j) ≡ false) × (j < k)) → pieces_in (before l k) js ≡ js
  pieces-then js plain = pieces-all (before l k) js (λ j has. let it = plain j has in ap is_valid_in (same-at j it.1) ∙ it.0)

  -- it was brought in this journal,
  kept-brought : IsBrought (before l k) q s → KeptHere l k q s
  kept-brought is =
      let o : ℕ = is.opening in
      let exchange = shared-is (before l k) q o is.shared in
      let b : Begun = exchange.exchange in
      let opened = begun-before l k o b exchange.opened in
      let first_ask = ask-behind l o b legal opened in
      let a : ℕ = ask_behind l o in
      let then = behind-since l k o b exchange.opened in
      let origin : s.opening ≡ a = is.origin ∙ then in
      let start = subst (λ (i : ℕ). at l i ≡ Some (noted first_ask.asked.moment (Asks first_ask.conn first_ask.ask) first_ask.asked.note)) (sym first_ask.is) first_ask.asked.stands in
      let rs : List Reply = is.first ∷ is.more in
      let was = came-heard l k o is.ending s.response rs b x legal here exchange.opened is.comes in
      let r : Reply = is.first in
      let fits = (comes-fit (before l k) o is.ending s.response rs r early is.comes (zero, omega arith, refl)).fits in
      let entry = some-is _ _ (sym is.heard_in ∙ fits.heard) in
      let path = stored-path s.response s.response s.opening a s.heard fits.moment s.list (numbers rs) refl origin
      (is.heard ∙ ap (λ (x : Noted). x.written.moment) entry) is.list in
      let plain = brought-plain is (whole-tells b.request (messages rs) s.response (same-get b.request q (asks-back q b.request exchange.same)) was.1) in
      record {
        first = record { response = s.response; opening = a; heard = fits.moment; list = numbers rs };
        whole = record {
          other = b.request;
          same = get-of q b.request exchange.same;
          messages = messages rs;
          heard = inl (record {
            conn = first_ask.conn;
            moment = first_ask.asked.moment;
            asked = asked-entry l a first_ask.conn first_ask.asked.moment first_ask.ask first_ask.asked.note (Requests b.request) start first_ask.sense;
            heard = was.0;
            first = (fits.peer, fits.bytes, at-entries l r.number _ (at-before l k r.number _ fits.heard));
          });
          whole = was.1;
          content = was.2;
        };
        earlier =
            let below = behind-below l o b legal opened in
            let less = below-ask o (begun-below (before l k) o b exchange.opened) in
            omega (arith, below, less);
        renewed = subst (λ (v : Stored). WasRenewed (entries l) q (record { response = s.response; opening = a; heard = fits.moment; list = numbers rs }) k v) (sym path)
            (never (λ j has. (plain j has).1));
        origin = origin;
        pieces = ap (pieces_in (before l k)) is.list ∙ pieces-then (numbers rs) plain;
        plain = plain;
        start = r.number;
        more = numbers is.more;
        starts = refl;
        newest = is.newest;
        unoutrun =
            let place = same-place q b.request exchange.same in
            subst (λ (i : ℕ). outrun (before l k) (asked_place q) i ≡ false) then
            (subst (λ (p : Place). outrun (before l k) p (ask_behind (before l k) o) ≡ false) (sym place)
            (behind-unoutrun (before l k) o b early exchange.opened
            (subst (λ (p : Place). outrun (before l k) p o ≡ false) place exchange.fresh)));
        opened = inl (first_ask.asked.moment, first_ask.conn, first_ask.ask, first_ask.asked.note, start);
      }
    where
      get-of : (q r : CoapRequest) → asks_same q r ≡ true → IsSameGet q r
      get-of q r e = let alike = asks-alike q r e in (same-get q r e, alike.0, alike.1)

      brought-plain : (is : IsBrought (before l k) q s) → list_all is_tellable (messages (is.first ∷ is.more)) ≡ true
          → (j : ℕ) → Contains (numbers (is.first ∷ is.more)) j → (is_valid_in (at l j) ≡ false) × (j < k)
      brought-plain is tells j has =
          let rs : List Reply = is.first ∷ is.more in
          let it = number-of rs j has in
          let fits = (comes-fit (before l k) is.opening is.ending s.response rs it.0 early is.comes it.1).fits in
          let heard = at-before l k it.0.number _ fits.heard in
          let not_valid : is_valid_in (at l it.0.number) ≡ false = ap is_valid_in heard ∙ tellable-not it.0.message (each-tells rs it.0 tells it.1) in
          let below = below-ask it.0.number (at-below (before l k) it.0.number _ fits.heard) in
          subst (λ (j : ℕ). (is_valid_in (at l j) ≡ false) × (j < k)) it.2 (not_valid, below)

  -- or the journal begins with it,
  kept-carried : IsCarried (before l k) q s → KeptHere l k q s
  kept-carried is =
      let o : ℕ = is.opening in
      let b : Begun = is.carries.exchange in
      let rs : List Reply = is.first ∷ is.more in
      let r : Reply = is.first in
      let first = fits-then is r (zero, omega arith, refl) in
      let entry = some-is _ _ (sym is.heard_in ∙ first.heard) in
      let path = stored-path s.response s.response s.opening o s.heard first.moment s.list (numbers rs) refl is.origin
      (is.heard ∙ ap (λ (x : Noted). x.written.moment) entry) is.list in
      let alike = asks-alike q b.request is.same in
      let asked = carried-before l k o b is.carries.asked in
      record {
        first = record { response = s.response; opening = o; heard = first.moment; list = numbers rs };
        whole = record {
          other = b.request;
          same = (same-get q b.request is.same, alike.0, alike.1);
          messages = messages rs;
          heard = inr (record {
            asked = ask-copied l o b asked;
            heard = carried-all l o b.request rs legal (λ v has. reply-before l k o b.request v (fits-then is v has));
            first = (b.request.peer, first.number, first.bytes, at-entries l r.number _ (at-before l k r.number _ first.heard));
          });
          whole = is.carries.whole;
          content = is.code;
        };
        earlier = below-ask o (carried-below (before l k) o b is.carries.asked);
        renewed = subst (λ (v : Stored). WasRenewed (entries l) q (record { response = s.response; opening = o; heard = first.moment; list = numbers rs }) k v) (sym path)
            (never (λ j has. (carried-plain is j has).1));
        origin = is.origin;
        pieces = ap (pieces_in (before l k)) is.list ∙ pieces-then (numbers rs) (carried-plain is);
        plain = carried-plain is;
        start = r.number;
        more = numbers is.more;
        starts = refl;
        newest = is.newest;
        unoutrun = is.current;
        opened = inr (b, asked);
      }
    where
      fits-then : (is : IsCarried (before l k) q s) (r : Reply) → Contains (is.first ∷ is.more) r
          → IsCarriedReply (before l k) is.opening is.carries.exchange.request r
      fits-then is r has =
          carried-fit (before l k) is.opening is.carries.exchange r early is.carries.asked
          (subst (λ (rs : List Reply). Contains rs r) (sym is.carries.replies) has)

      carried-plain : (is : IsCarried (before l k) q s) (j : ℕ) → Contains (numbers (is.first ∷ is.more)) j → (is_valid_in (at l j) ≡ false) × (j < k)
      carried-plain is j has =
          let it = number-of (is.first ∷ is.more) j has in
          let fits = fits-then is it.0 it.1 in
          let none : is_valid_in (at l it.0.number) ≡ false = ap is_valid_in (at-before l k it.0.number _ fits.heard) in
          let below = below-ask it.0.number (at-below (before l k) it.0.number _ fits.heard) in
          subst (λ (j : ℕ). (is_valid_in (at l j) ≡ false) × (j < k)) it.2 (none, below)

  -- or either of these was renewed
  module _ (it : IsRenewed (before l k) q s) where
    n : RenewedHere l k q s it
    n = renewed-here l k x q s legal here it

    kept-renewed : KeptHere l n.opening n.exchange.request n.renews.stored → KeptHere l k q s
    kept-renewed old =
        let o : ℕ = n.opening in
        let r : Reply = it.renewal.reply in
        let kept : Stored = it.renewal.kept in
        let stored : Stored = n.renews.stored in
        let response : kept.response ≡ stored.response = ap (λ (v : Stored). v.response) n.renews.pieces in
        let list : kept.list ≡ old.first.list = ap (λ (v : Stored). v.list) n.renews.pieces ∙ old.pieces in
        let origin : s.opening ≡ old.first.opening = it.origin ∙ (ap (λ (v : Stored). v.opening) n.renews.pieces ∙ old.origin) in
        let v = valid-here in
        let stands = entries-at l r.number _ v.is.heard.response.heard.stands in
        let entry = at-same l r.number _ _ (at-before l k r.number _ it.heard_in) stands.1 in
        let path = stored-path s.response (renewed_response stored.response r.message) s.opening stored.opening s.heard v.is.heard.response.moment s.list (old.first.list ++ r.number ∷ [])
        (it.response ∙ ap (λ (w : Response). renewed_response w r.message) response) (origin ∙ sym old.origin)
        (it.heard ∙ ap (λ (x : Noted). x.written.moment) entry) (it.list ∙ ap (λ (js : List ℕ). js ++ r.number ∷ []) list) in
        let earlier = n.earlier in
        let before_it = old.earlier in
        let plain = plain-then old in
        record {
          first = old.first;
          whole = whole-through (entries l) q n.exchange.request old.first n.same old.whole;
          earlier = omega (arith, earlier, before_it);
          renewed = subst (λ (v : Stored). WasRenewed (entries l) q old.first k v) (sym path)
              (again o n.renews.conn n.exchange.since r.number n.exchange.request r.message
              (asked-entry l o n.renews.conn n.exchange.since n.renews.ask _ (Requests n.exchange.request) n.renews.stands n.renews.sense)
              (let alike = asks-alike q n.exchange.request n.same in (same-get q n.exchange.request n.same, alike.0, alike.1))
              (renewed-through (entries l) q n.exchange.request old.first o stored n.same old.renewed) v.is v.below);
          origin = origin;
          pieces = ap (pieces_in (before l k)) (it.list ∙ ap (λ (js : List ℕ). js ++ r.number ∷ []) list)
              ∙ (pieces-drop (before l k) old.first.list r.number (ap is_valid_in (same-at r.number v.below) ∙ v.at_it)
              ∙ pieces-then old.first.list plain);
          plain = plain;
          start = old.start;
          more = old.more;
          starts = old.starts;
          newest = subst (λ (i : ℕ). outdated (before l k) (asked_key q) i ≡ false) (ap first_in (list ∙ old.starts)) it.renewal.newest;
          unoutrun = subst (λ (o : ℕ). outrun (before l k) (asked_place q) o ≡ false) (sym it.origin ∙ origin) it.renewal.current;
          opened = old.opened;
        }
      where
        valid-here : ValidIn l k n.opening n.exchange.request n.renews.stored.response it.renewal.reply
        valid-here =
            valid-in l k n.opening it.ending x n.exchange it.renewal.kept it.renewal.reply n.renews.stored.response legal here opened-then ended-then
            (ap (λ (v : Stored). v.response) n.renews.pieces)
          where
            ended-then : Ends (before l k) n.opening it.ending (Renewed it.renewal.kept it.renewal.reply)
            ended-then = subst (λ (o : ℕ). Ends (before l k) o it.ending (Renewed it.renewal.kept it.renewal.reply)) n.is_it it.renewal.ended

            opened-then : begun (before l k) n.opening ≡ Some n.exchange
            opened-then = begun-early l k n.opening n.exchange (at-below l k x here) n.opened n.earlier

        plain-then : (old : KeptHere l n.opening n.exchange.request n.renews.stored) (j : ℕ) → Contains old.first.list j
            → (is_valid_in (at l j) ≡ false) × (j < k)
        plain-then old j has =
            let it = old.plain j has in
            let less = it.1 in
            let earlier = n.earlier in
            (it.0, omega (arith, less, earlier))

pub kept-here : (fuel : ℕ) (l : List Noted) (k : ℕ) (x : Noted) (q : CoapRequest) (s : Stored) → k < fuel → Legal l → at l k ≡ Some x
    → IsStored (before l k) q s → KeptHere l k q s
kept-here zero l k x q s lt legal here is = absurd (omega (arith, lt))
kept-here (suc fuel) l k x q s lt legal here (inl u) = by (heard-of (before l k) q s u)
  where
    by : IsAsHeard (before l k) q s → KeptHere l k q s
    by (inl is) = kept-brought l k x q s legal here is
    by (inr is) = kept-carried l k x q s legal here is
kept-here (suc fuel) l k x q s lt legal here (inr it) =
    let m = n l k x q s legal here it in
    let less = m.earlier in
    kept-renewed l k x q s legal here it
    (kept-here fuel l m.opening _ m.exchange.request m.renews.stored (omega (arith, lt, less)) legal m.renews.stands m.renews.is)

-- So it is as entries, before an ask.
pub was-stored : (l : List Noted) (k c : ℕ) (a : Ask) (q : CoapRequest) (s : Stored) → Legal l → IsAsk l k c a → (it : KeptHere l k q s)
    → (w : WasStored (entries l) k q s) × (w.first ≡ it.first)
was-stored l k c a q s legal ask it = (
  record {
    first = it.first;
    whole = it.whole;
    earlier = it.earlier;
    renewed = it.renewed;
    newest = subst (λ (js : List ℕ). IsNewest (entries l) js k q) (sym it.starts) (newest-in l k _ q it.start it.more legal ask.stands it.newest);
    current = current;
  },
  refl,
)
  where
    current : (n : ℕ) → IsWriteAnswer (entries l) q n → n < k → n < it.first.opening
    current n w lt =
        elim (it.opened) [
          | inl h ↦ fresh-at l k c a q legal ask n w lt it.first.opening h it.unoutrun
          | inr h ↦ absurd (carried-unwritten l k c a q legal ask n w lt it.first.opening h.0 h.1 it.unoutrun)
        ]
