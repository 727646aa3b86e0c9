-- The message that waits first goes out.
use Rattle.std.proofs.Common.{◌≡◌, ℕ, zero, ◌+◌, inl, inr, Bool, true, false, not, cond, eqb, List, [], ◌∷◌, ◌++◌, length, map, Option, Some, refl, sym, ap, subst, ◌∙◌, arith}
use Rattle.std.specs.Prelude.{is_none}
use Rattle.std.specs.List.{AllByRecursion, Contains}
use Rattle.std.specs.Str.{bytes_eq}
use Rattle.std.proofs.lemmas.Bool.{false≢true}
use Rattle.std.proofs.lemmas.Bool.Decides.{eqb_tells}
use Rattle.std.proofs.lemmas.Slice.Eq.{bytes_eq-Decides}
use Rattle.std.proofs.lemmas.List.Elements.{filter_agree}
use Rattle.coap_codec.specs.Spelling.{Content}
use Rattle.uri_map.specs.declared.peer.Peer.{Peer}
use Rattle.uri_map.specs.Peers.{same_peer}
use Rattle.uri_map.proofs.CallerLemmas.{same_peer-same}
use Rattle.message_layer.specs.Values.{LinkState}
use Rattle.message_layer.specs.Sending.{first_sent, with_outstanding}
use Rattle.message_layer.specs.declared.state.Waiting.{Waiting}
use Rattle.ask_model.specs.Sharing.{asked_key, asked_place}
use Rattle.journal_book.specs.Entries.{Sends, Written}
use Rattle.history_laws.specs.Numbering.{token_number}
use Rattle.history_laws.specs.Readings.{Noted}
use Rattle.history_laws.specs.Progress.{Reply, numbers, progress}
use Rattle.history_laws.specs.Transmissions.{FirstSending, bears_token, sent_last}
use Rattle.history_laws.specs.Exchanges.{Begun, begun, goes_to, openings, is_going, is_waiting, waits_for, rank, replies}
use Rattle.history_laws.specs.Joining.{outrun}
use Rattle.history_laws.specs.Justified.{Legal}
use Rattle.history_laws.proofs.CallerLemmas.{all-more, outrun-same, and-left, begun-keeps, contains-later, entries-length, eqb-itself, issued-same, rank-below, rank-keeps, replies-stay, waiting-goes, heard-stays}
use Rattle.history_links.specs.Agrees.{Start, IsWaitingFor, Agrees}
use Rattle.history_links.proofs.CallerLemmas.{ends-sent, next-follows, observes-keep, send-elsewhere, sent, sent-quiet, waits-sent}
use Rattle.exchange_model.specs.declared.kept.Exchange.{Exchange}
use Rattle.exchange_model.specs.State.{link_of}
use Rattle.exchange_model.specs.Reads.{ExchangeIn, got_in, IsNewest, PiecesIn, WaitsUnder, opening_of}
use Rattle.exchange_model.proofs.Pieces.{got-stays, pieces-quiet, behind-stays}
use Rattle.exchange_model.specs.Steps.{given_out, is_under, went_out}
use Rattle.exchange_model.specs.Matters.{numbers_of, progress_with}
use Rattle.exchange_model.specs.declared.kept.Piece.{Piece}
use Rattle.exchange_model.specs.Laws.{FirstLeads}
use Rattle.exchange_model.proofs.Begins.{waits-with}
use Rattle.exchange_model.proofs.Lists.{all-map, all-both}
use Rattle.exchange_model.proofs.Opened.{cancel, OpenIn, one-rank, open-ones}
use Rattle.exchange_model.proofs.Silent.{later-than, link-before, moment-now}
use Rattle.exchange_model.proofs.Watches.{newest-quiet, outdated-quiet}
use Rattle.exchange_model.proofs.Stores.{store-still}
use Rattle.exchange_model.proofs.Tables.{given-agrees, exchange-stays, all-links}
use Rattle.exchange_model.proofs.Stales.{kept-stays, stales-quiet, stales-sent}
use Rattle.history_laws.specs.Storing.{first_in}

keys-kept : (token : List ℕ) (i : ℕ) (es : List Exchange) → map opening_of es ≡ map opening_of (map (went_out token i) es)
keys-kept token i [] = refl
keys-kept token i (e ∷ es) = rw (← keys-kept token i es) (ap (λ (o : ℕ). o ∷ map opening_of es) (by (is_under token e)))
  where
    by : (b : Bool) → e.opening ≡ (cond b (record e { sending = Some i; awaits = true }) e).opening
    by true = refl
    by false = refl

-- The pieces are those of the same exchanges.
pieces-sent : (n : List Noted) (token : List ℕ) (i : ℕ) (es : List Exchange) (xs : List Piece) → PiecesIn n es xs → PiecesIn n (map (went_out token i) es) xs
pieces-sent n token i es xs h = record { fetched = all-map (went_out token i) _ es (all-more _ _ (λ e g. by e g (is_under token e)) es h.fetched); below = h.below }
  where
    by : (e : Exchange) → numbers (got_in n e.opening) ≡ numbers_of e.opening xs → (b : Bool)
        → (let f : Exchange = cond b (record e { sending = Some i; awaits = true }) e in numbers (got_in n f.opening) ≡ numbers_of f.opening xs)
    by e g true = g
    by e g false = g

current-sent : {start : Start} (l : List Noted) (t : ℕ) (p : Peer) (bytes : List ℕ) (timeout : Option ℕ) (o : ℕ) (m : Content) (e : Exchange) (a : ExchangeIn start l e)
    → e.current ≡ not (outrun (sent t p bytes timeout o m ∷ l) (asked_place a.request) e.opening)
current-sent l t p bytes timeout o m e a =
    a.current ∙ ap not (sym (outrun-same l (sent t p bytes timeout o m ∷ l) refl (λ q. refl) (λ q. ends-sent l t p bytes timeout o m q) (asked_place a.request) e.opening))

-- what is kept of an exchange after it
mine : {start : Start} (l : List Noted) (t : ℕ) (p : Peer) (bytes : List ℕ) (timeout : Option ℕ) (o : ℕ) (m : Content) (w : Waiting)
    → Legal l → is_waiting l p o ≡ true → (a : IsWaitingFor start l o w) → m.token ≡ w.token → (e : Exchange) → ExchangeIn start l e → is_going l e.opening ≡ true → (e.peer ≡ p → token_number w.token ≡ token_number e.token → w.token ≡ e.token)
    → (b : Bool) → bytes_eq e.token w.token ≡ b → ExchangeIn start (sent t p bytes timeout o m ∷ l) (cond b (record e { sending = Some (length l); awaits = true }) e)
mine {start = start} l t p bytes timeout o m w legal waits a token e h goes_on under true is =
    let same : e.token ≡ w.token = (bytes_eq-Decides e.token w.token).0 is in
    let at : o ≡ e.opening = one-rank l o e.opening _ _ legal a.opening h.opening (ap is_none (waiting-goes l p o waits)) goes_on (cancel start.issued _ _ (sym a.numbered ∙ (ap token_number (sym same) ∙ sym h.number))) in
    let x = sent t p bytes timeout o m in
    let f : FirstSending = record { number = length l; moment = t; opening = o; peer = p; message = m } in
    let quiet : replies (x ∷ l) e.opening ≡ replies l e.opening = replies-stay (length l) _ _ (sent-quiet l t p bytes timeout o m e.opening) in
    let goes : goes_to p (begun l e.opening) ≡ true = subst (λ (k : ℕ). goes_to p (begun l k) ≡ true) at (and-left (goes_to p (begun l o)) _ waits) in
    let peer : same_peer h.request.peer p ≡ true = subst (λ (v : Option Begun). goes_to p v ≡ true) h.opening goes in
    record {
      request = h.request;
      opening = begun-keeps x l e.opening _ h.opening;
      peer = h.peer;
      method = h.method;
      number = ap (λ (k : ℕ). start.issued + k) (rank-keeps x l e.opening _ h.opening (replies-stay (length l) _ _ (sent-quiet l t p bytes timeout o m e.opening))) ∙ h.number;
      sending = subst (λ (k : ℕ). sent_last (x ∷ l) k ≡ Some (length l)) at (rw (eqb-itself o) refl);
      awaits = waits-sent l t p bytes timeout o m e.opening ∙ ap (λ (k : ℕ). cond (eqb o k) (Some (length l)) (waits_for l k)) (sym at) ∙ rw (eqb-itself o) refl;
      observes = observes-keep x l e.opening _ h.opening quiet ∙ h.observes;
      asked = h.asked;
      named = λ u. refl;
      sent = (f, rw (eqb-itself (length l)) refl, sym (same_peer-same h.request.peer p peer) ∙ h.peer, token ∙ sym same);
      current = current-sent l t p bytes timeout o m e h;
      newest = λ get. subst (λ (rs : List Reply). IsNewest (x ∷ l) (asked_key h.request) rs e.newest) (sym (got-stays x l e.opening _ h.opening quiet))
          (newest-quiet x l (asked_key h.request) (got_in l e.opening) e.newest refl (h.newest get));
      newest_kept = λ s k. outdated-quiet x l (asked_key h.request) (first_in s.list) refl
          ∙ h.newest_kept s (sym (kept-stays x l e.opening _ h.opening quiet) ∙ k);
      progress = ap (progress h.request) (heard-stays x l e.opening _ h.opening quiet) ∙ (h.progress ∙ ap (progress_with e.work) (sym (got-stays x l e.opening _ h.opening quiet)));
      short = h.short;
      digests = h.digests;
      behind = behind-stays x l e.opening _ h.opening ∙ h.behind;
    }
mine {start = start} l t p bytes timeout o m w legal waits a token e h goes_on under false is =
    let x = sent t p bytes timeout o m in
    exchange-stays x l e e.current e.newest unborne (waits-sent l t p bytes timeout o m e.opening ∙ rw (other) refl) (rw (other) refl) refl h (current-sent l t p bytes timeout o m e h)
    (λ get. newest-quiet x l (asked_key h.request) (got_in l e.opening) e.newest refl (h.newest get))
    (λ s k. outdated-quiet x l (asked_key h.request) (first_in s.list) refl ∙ h.newest_kept s k)
  where
    peer-of : o ≡ e.opening → e.peer ≡ p
    peer-of at =
        let goes : goes_to p (begun l e.opening) ≡ true = subst (λ (k : ℕ). goes_to p (begun l k) ≡ true) at (and-left (goes_to p (begun l o)) _ waits) in
        let peer : same_peer h.request.peer p ≡ true = subst (λ (v : Option Begun). goes_to p v ≡ true) h.opening goes in
        sym h.peer ∙ same_peer-same h.request.peer p peer

    differs : w.token ≡ e.token → ⊥
    differs same = false≢true (sym is ∙ (bytes_eq-Decides e.token w.token).1 (sym same))

    other : eqb o e.opening ≡ false
    other = elim (eqb_tells o e.opening) [
      | inl v ↦ absurd (differs (under (peer-of v.1) (a.numbered ∙ (ap (λ (k : ℕ). start.issued + rank l k) v.1 ∙ h.number))))
      | inr v ↦ v.0
    ]

    apart : (b : Bool) → bytes_eq m.token e.token ≡ b → b ≡ false
    apart true q = absurd (differs (sym token ∙ (bytes_eq-Decides m.token e.token).0 q))
    apart false q = refl

    unborne : bears_token l e.token ≡ false → bears_token (sent t p bytes timeout o m ∷ l) e.token ≡ false
    unborne q = rw (apart (bytes_eq m.token e.token) refl) q

pub first-leads : FirstLeads
first-leads l t p w ws S b q small few free is =
    let r = b.reads in
    let later = later-than l t S b in
    let link = link-before l t S b in
    let made = next-follows _ l t p (link_of S.links p) w ws (link p) q small few free is in
    let o = made.0 in
    let m = made.1 in
    let v = first_sent t (link_of S.links p).last_mid w in
    let x = sent t p v.datagram (Some v.timeout) o m in
    let n = x ∷ l in
    let s = given_out (with_outstanding (link_of S.links p) ws v) in
    let here : length S.entries ≡ length l = ap length (sym r.entries_are) ∙ entries-length l in
    let kept = all-both (OpenIn b.reads.start l) _ S.exchanges (open-ones l S r) r.waiting_are in (
      o,
      m,
      record {
        follows = made.5.follows;
        reads = record {
          start = r.start;
          few = r.few;
          entries_are = ap (λ (es : List Written). es ++ record { moment = t; deed = Sends p v.datagram (Some v.timeout) } ∷ []) r.entries_are;
          legal = (r.legal, later, made.5.follows);
          sealed_is = r.sealed_is;
          moment_is = moment-now l t S b;
          opened_are = r.opened_are;
          opens_are = r.opens_are;
          issued_are = ap (λ (k : ℕ). r.start.issued + k) (issued-same x l refl (λ k goes. sent-quiet l t p v.datagram (Some v.timeout) o m k)) ∙ r.issued_are;
          conns_are = r.conns_are;
          readers_are = r.readers_are;
          keys = filter_agree (is_going n) (is_going l) (λ k. ap is_none (ends-sent l t p v.datagram (Some v.timeout) o m k)) (openings l) ∙ (r.keys ∙ keys-kept w.token (length S.entries) S.exchanges);
          exchanges_are = subst (λ (k : ℕ). AllByRecursion (ExchangeIn b.reads.start n) (map (went_out w.token k) S.exchanges)) (sym here)
              (all-map (went_out w.token (length l)) (ExchangeIn b.reads.start n) S.exchanges
              (all-more _ _ (λ e h. mine l t p v.datagram (Some v.timeout) o m w r.legal made.2 made.3 made.4 e h.0.0 h.0.1 (first-waits e h.1) (bytes_eq e.token w.token) refl) S.exchanges kept));
          pieces_are = pieces-sent n w.token (length S.entries) S.exchanges S.pieces
              (pieces-quiet x l S.exchanges S.pieces (OpenIn b.reads.start l) (λ e h. (_, h.0.opening))
              (λ e h. replies-stay (length l) _ _ (sent-quiet l t p v.datagram (Some v.timeout) o m e.opening)) (open-ones l S r) r.pieces_are);
          stales_are = stales-sent n w.token (length S.entries) S.exchanges S.stales
              (stales-quiet x l S.exchanges S.stales (OpenIn b.reads.start l) (λ e h. (_, h.0.opening))
              (λ e h. replies-stay (length l) _ _ (sent-quiet l t p v.datagram (Some v.timeout) o m e.opening)) (open-ones l S r) r.stales_are);
          watches_are = r.watches_are;
          store_is = store-still x l (r.legal, later, made.5.follows) (λ k. ends-sent l t p v.datagram (Some v.timeout) o m k) refl tt S.store r.store_is;
          tokens_are = (let less = rank-below l o _ r.legal made.3.opening (ap is_none (waiting-goes l p o made.2)) in let number = made.3.numbered in let issued = r.issued_are in let token = ap token_number made.4 in omega (arith, less, number, issued, token), r.tokens_are);
          waiting_are = waits-with p s S.links (map (went_out w.token (length S.entries)) S.exchanges)
              (all-map (went_out w.token (length S.entries)) _ S.exchanges (all-more _ _ (λ e h. fewer e h (is_under w.token e)) S.exchanges r.waiting_are))
              (all-map (went_out w.token (length S.entries)) _ S.exchanges (all-more _ _ (λ e h. same e h (is_under w.token e)) S.exchanges r.waiting_are));
          links_are = all-links (λ (k : Peer) (u : LinkState). Agrees b.reads.start n k u) p s S.links (given-agrees n p (with_outstanding (link_of S.links p) ws v) made.5.agrees)
              (λ k other. send-elsewhere _ l t k p (link_of S.links k) v.datagram (Some v.timeout) o m w (link k) other made.2 made.3 made.4);
        };
      },
    )
  where
    first-waits : (e : Exchange) → WaitsUnder (link_of S.links e.peer).waiting e → e.peer ≡ p → token_number w.token ≡ token_number e.token → w.token ≡ e.token
    first-waits e h at_p number = h w (subst (λ (k : List Waiting). Contains k w) (sym (subst (λ (k : Peer). (link_of S.links k).waiting ≡ w ∷ ws) (sym at_p) is)) (zero, omega arith, refl)) number

    fewer : (e : Exchange) → WaitsUnder (link_of S.links e.peer).waiting e → (c : Bool)
        → (cond c (record e { sending = Some (length S.entries); awaits = true }) e).peer ≡ p → WaitsUnder ws (cond c (record e { sending = Some (length S.entries); awaits = true }) e)
    fewer e h true at_p u has number = h u (subst (λ (k : List Waiting). Contains k u) (sym (subst (λ (k : Peer). (link_of S.links k).waiting ≡ w ∷ ws) (sym at_p) is)) (contains-later w ws u has)) number
    fewer e h false at_p u has number = h u (subst (λ (k : List Waiting). Contains k u) (sym (subst (λ (k : Peer). (link_of S.links k).waiting ≡ w ∷ ws) (sym at_p) is)) (contains-later w ws u has)) number

    same : (e : Exchange) → WaitsUnder (link_of S.links e.peer).waiting e → (c : Bool)
        → WaitsUnder (link_of S.links (cond c (record e { sending = Some (length S.entries); awaits = true }) e).peer).waiting (cond c (record e { sending = Some (length S.entries); awaits = true }) e)
    same e h true = h
    same e h false = h
