-- A notification that counts leaves all exchanges, of which those for the same are out of date.
use Rattle.std.proofs.Common.{◌≡◌, ◌<◌, ℕ, zero, ◌+◌, Bool, true, false, not, cond, ltb, List, [], ◌∷◌, length, map, Option, Some, None, refl, sym, ap, subst, ◌∙◌, arith}
use Rattle.exchange_model.proofs.Starting.{turned-key}
use Rattle.std.specs.Prelude.{is_none, ◌&&◌, ◌||◌}
use Rattle.std.specs.List.{AllByRecursion, Contains}
use Rattle.std.specs.Option.{option_map_or}
use Rattle.std.proofs.lemmas.Bool.{false≢true, and_parts}
use Rattle.std.proofs.lemmas.Bool.Decides.{Decides-ltb}
use Rattle.coap_codec.specs.Spelling.{Content, Spells}
use Rattle.uri_map.specs.declared.peer.Peer.{Peer}
use Rattle.cache_key.specs.Keys.{CacheKey, same_key}
use Rattle.observe_share.specs.declared.registration.Registration.{Registration}
use Rattle.observe_share.specs.Watches.{noticed}
use Rattle.resp_cache.specs.Stored.{Stored}
use Rattle.ask_model.specs.Requests.{CoapRequest}
use Rattle.ask_model.specs.Sharing.{asked_key, is_get}
use Rattle.journal_book.specs.Entries.{Written}
use Rattle.message_layer.specs.declared.state.Waiting.{Waiting}
use Rattle.history_laws.specs.Readings.{Noted}
use Rattle.history_laws.specs.Hearing.{answers, can_be_remembered, notice_of, repeated}
use Rattle.history_laws.specs.Progress.{Reply, numbers}
use Rattle.history_laws.specs.Exchanges.{is_going, opens_by}
use Rattle.history_laws.specs.Observing.{Watch, is_of_key, notice_in, outdated, outdates, watches}
use Rattle.history_laws.proofs.CallerLemmas.{all-more, at-below, contains-none, filter-all}
use Rattle.history_links.specs.Steps.{heard}
use Rattle.history_links.proofs.CallerLemmas.{says-agrees}
use Rattle.exchange_model.specs.declared.kept.Exchange.{Exchange}
use Rattle.exchange_model.specs.State.{State, link_of}
use Rattle.exchange_model.specs.Watching.{is_one_of}
use Rattle.exchange_model.specs.Reads.{ExchangeIn, got_in, held_of, IsNewest, opening_of, PiecesIn, WaitsUnder, StalesIn, kept_in}
use Rattle.exchange_model.specs.Matters.{Tells, answered_in, numbers_of, reads_key, stale_in, is_reading}
use Rattle.exchange_model.specs.Hearing.{Numbers, outdated_by, unless_updated}
use Rattle.exchange_model.specs.Laws.{MayHear}
use Rattle.exchange_model.proofs.Answered.{ended, hits, issued-still, kept-in, none-goes-on, none-hit, openings-same}
use Rattle.exchange_model.proofs.Begins.{waits-with}
use Rattle.exchange_model.proofs.Comes.{got-fits}
use Rattle.exchange_model.proofs.Hearing.{end-kept, kept-one, open-later, replies-kept}
use Rattle.exchange_model.proofs.Left.{follows-so, Left, legal-so}
use Rattle.exchange_model.proofs.Lists.{all-map, each-of}
use Rattle.exchange_model.proofs.Noticing.{told}
use Rattle.exchange_model.proofs.ToldAlone.{IsTold, told-changed, told-counting}
use Rattle.exchange_model.proofs.Observed.{told-forgets, told-resets, told-unnoticed}
use Rattle.exchange_model.proofs.Outrun.{asked-here, current-still, EndsThose}
use Rattle.exchange_model.proofs.Over.{kept-open}
use Rattle.exchange_model.proofs.Pieces.{pieces-quiet}
use Rattle.exchange_model.proofs.Retold.{store-told}
use Rattle.exchange_model.proofs.Silent.{link-before}
use Rattle.exchange_model.proofs.Written.{none-dropped, told-stand, written-left}
use Rattle.exchange_model.proofs.Stales.{stales-quiet}
use Rattle.exchange_model.proofs.Renewals.{kept-first, kept-get}
use Rattle.history_laws.specs.Storing.{first_in}

pub outdated-openings : (ws : List Written) (key : CacheKey) (es : List Exchange) → map opening_of (map (outdated_by ws key) es) ≡ map opening_of es
outdated-openings ws key [] = refl
outdated-openings ws key (e ∷ es) = by (is_reading ws key e) (outdated-openings ws key es)
  where
    by : (b : Bool) → map opening_of (map (outdated_by ws key) es) ≡ map opening_of es
        → (opening_of (cond b (record e { newest = false }) e) ∷ map opening_of (map (outdated_by ws key) es)) ≡ (e.opening ∷ map opening_of es)
    by true ih = ap (λ (os : List ℕ). e.opening ∷ os) ih
    by false ih = ap (λ (os : List ℕ). e.opening ∷ os) ih

module _ (l : List Noted) (t : ℕ) (p : Peer) (d : List ℕ) (m : Content) (n : Numbers) (S : State) (h : MayHear l t p d S)
    (spelled : Spells m d) (none : repeated l t p m ≡ None) (room : can_be_remembered l t p m ≡ true)
    (is : answered_in (ended l t p d m S h none room) S.exchanges ≡ None) (r : Registration) (found : Option Stored)
    (k : IsTold l t p d m S h none room is r found) where
  abbrev x : Noted
  x = heard l t p d m

  pub unhit : (e : Exchange) → Contains S.exchanges e → hits l t p d m S h none room e.opening ≡ false
  unhit e has = none-hit l t p d m S h none room is e has

  pub goes : (e : Exchange) → Contains S.exchanges e → is_going (x ∷ l) e.opening ≡ true
  goes e has = ap is_none (end-kept l t p d m e.opening (unhit e has) ∙ kept-open l S e h.before.reads has)

  pub ends : EndsThose x l S []
  ends = record { ended = λ f c. absurd (contains-none f c); all = λ f has gone. absurd (false≢true (sym gone ∙ goes f has)) }

  no-over : (e : Exchange) → Contains S.exchanges e → hits l t p d m S h none room e.opening ≡ true → is_going (x ∷ l) e.opening ≡ false
  no-over e has hit = absurd (false≢true (sym (unhit e has) ∙ hit))

  pub left : map held_of (watches (x ∷ l)) ≡ noticed m.token (notice_in m) t S.watches
  left =
      let legal = legal-so l t p d m n S h spelled none room in
      written-left x l S h.before.reads [] ends legal (told l t p d m S h none room)
      (told-stand l t p d m (answers l p m) (notice_of l t p m (answers l p m)) h.before.reads.legal (follows-so l t p d m n S h spelled none room))
      ∙ (none-dropped (map held_of (told l t p d m S h none room)) ∙ told-changed l t p d m S h none room is r found k)

  -- what it makes out of date
  outdates-is : (key : CacheKey) → outdates l key x.note ≡ same_key r.key key
  outdates-is key =
      ap (λ (v : Option Watch). option_map_or (is_of_key key) v false) (told-counting l t p d m S h none room is r found k)
      ∙ ap (λ (z : Registration). same_key z.key key) k.held

  pub out-now : (key : CacheKey) (i : ℕ) → same_key r.key key ≡ true → i < length l → outdated (x ∷ l) key i ≡ true
  out-now key i same below =
      ap (λ (b : Bool). (b && outdates l key x.note) || outdated l key i) ((Decides-ltb i (length l)).1 below)
      ∙ ap (λ (b : Bool). b || outdated l key i) (outdates-is key ∙ same)

  pub out-not : (key : CacheKey) (i : ℕ) → same_key r.key key ≡ false → outdated (x ∷ l) key i ≡ outdated l key i
  out-not key i other = ap (λ (b : Bool). (ltb i (length l) && b) || outdated l key i) (outdates-is key ∙ other) ∙ by (ltb i (length l))
    where
      by : (b : Bool) → ((b && false) || outdated l key i) ≡ outdated l key i
      by true = refl
      by false = refl

  -- the exchanges
  got-before : (e : Exchange) → Contains S.exchanges e → (y : Reply) → Contains (got_in l e.opening) y → y.number < length l
  got-before e has y among =
      let a = kept-in l t p d m S h none room e has in
      let fits = got-fits l e.opening _ h.before.reads.legal a.opening (kept-open l S e h.before.reads has) y among in
      at-below l y.number _ fits.1.heard

  pub one-told : (e : Exchange) → Contains S.exchanges e → ExchangeIn h.before.reads.start (x ∷ l) (outdated_by S.entries r.key e)
  one-told e has = by (is_reading S.entries r.key e) refl
    where
      a : ExchangeIn h.before.reads.start l e
      a = kept-in l t p d m S h none room e has

      kept : (c : Bool) → (is_get a.request ≡ true → IsNewest (x ∷ l) (asked_key a.request) (got_in l e.opening) c)
          → ((s : Stored) → kept_in l e.opening ≡ Some s → outdated (x ∷ l) (asked_key a.request) (first_in s.list) ≡ not c)
          → ExchangeIn h.before.reads.start (x ∷ l) (record e { newest = c })
      kept c newest kept_newest =
          kept-one l t p (link_of S.links p) d m h.before.reads.legal e e.current c a (unhit e has)
          (current-still x l S h.before.reads [] ends (legal-so l t p d m n S h spelled none room) refl e a) newest kept_newest

      test : is_reading S.entries r.key e ≡ reads_key r.key a.request
      test = ap (λ (v : Option CoapRequest). option_map_or (reads_key r.key) v false) (asked-here l S h.before.reads e a)

      turned : (b : Bool) → same_key (asked_key a.request) r.key ≡ b → same_key r.key (asked_key a.request) ≡ b
      turned b f = turned-key r.key (asked_key a.request) ∙ f

      first-out : (got : List Reply) → ((y : Reply) → Contains got y → y.number < length l) → same_key r.key (asked_key a.request) ≡ true → IsNewest (x ∷ l) (asked_key a.request) got false
      first-out [] below same = tt
      first-out (y ∷ got) below same = out-now (asked_key a.request) y.number same (below y (zero, omega arith, refl))

      first-not : (got : List Reply) → same_key r.key (asked_key a.request) ≡ false → IsNewest l (asked_key a.request) got e.newest → IsNewest (x ∷ l) (asked_key a.request) got e.newest
      first-not [] other b = tt
      first-not (y ∷ got) other b = out-not (asked_key a.request) y.number other ∙ b

      by : (b : Bool) → is_reading S.entries r.key e ≡ b
          → ExchangeIn h.before.reads.start (x ∷ l) (cond b (record e { newest = false }) e)
      by true f = kept false (λ get. first-out (got_in l e.opening) (got-before e has) (turned true (and_parts (is_get a.request) _ (sym test ∙ f)).1))
          (λ s k. out-now (asked_key a.request) (first_in s.list) (turned true (and_parts (is_get a.request) _ (sym test ∙ f)).1)
          (kept-first l e.opening _ s h.before.reads.legal a.opening k))
      by false f = kept e.newest (λ get. first-not (got_in l e.opening) (turned false (ap (λ (b : Bool). b && same_key (asked_key a.request) r.key) (sym get) ∙ (sym test ∙ f))) (a.newest get))
          (λ s k. out-not (asked_key a.request) (first_in s.list)
          (turned false (ap (λ (b : Bool). b && same_key (asked_key a.request) r.key) (sym (kept-get l e.opening _ s h.before.reads.legal a.opening k)) ∙ (sym test ∙ f)))
          ∙ a.newest_kept s k)

  pub pieces : PiecesIn (x ∷ l) (map (outdated_by S.entries r.key) S.exchanges) S.pieces
  pieces =
      let old = pieces-quiet x l S.exchanges S.pieces (λ (e : Exchange). ExchangeIn h.before.reads.start l e × (hits l t p d m S h none room e.opening ≡ false))
      (λ e k. (_, k.0.opening)) (λ e k. replies-kept l t p d m e.opening k.1) (each-of _ S.exchanges (λ e has. (kept-in l t p d m S h none room e has, unhit e has))) h.before.reads.pieces_are in
      record {
        fetched = all-map (outdated_by S.entries r.key) (λ (e : Exchange). numbers (got_in (x ∷ l) e.opening) ≡ numbers_of e.opening S.pieces) S.exchanges
            (all-more (λ (e : Exchange). numbers (got_in (x ∷ l) e.opening) ≡ numbers_of e.opening S.pieces) _ one S.exchanges old.fetched);
        below = old.below;
      }
    where
      one : (e : Exchange) → numbers (got_in (x ∷ l) e.opening) ≡ numbers_of e.opening S.pieces
          → numbers (got_in (x ∷ l) (outdated_by S.entries r.key e).opening) ≡ numbers_of (outdated_by S.entries r.key e).opening S.pieces
      one e a = by (is_reading S.entries r.key e)
        where
          by : (b : Bool) → numbers (got_in (x ∷ l) (cond b (record e { newest = false }) e).opening) ≡ numbers_of (cond b (record e { newest = false }) e).opening S.pieces
          by true = a
          by false = a

  pub stales : StalesIn (x ∷ l) (map (outdated_by S.entries r.key) S.exchanges) S.stales
  stales =
      let old = stales-quiet x l S.exchanges S.stales (λ (e : Exchange). ExchangeIn h.before.reads.start l e × (hits l t p d m S h none room e.opening ≡ false))
      (λ e k. (_, k.0.opening)) (λ e k. replies-kept l t p d m e.opening k.1) (each-of _ S.exchanges (λ e has. (kept-in l t p d m S h none room e has, unhit e has))) h.before.reads.stales_are in
      record {
        kept = all-map (outdated_by S.entries r.key) (λ (e : Exchange). kept_in (x ∷ l) e.opening ≡ stale_in e.opening S.stales) S.exchanges
            (all-more (λ (e : Exchange). kept_in (x ∷ l) e.opening ≡ stale_in e.opening S.stales) _ one S.exchanges old.kept);
        below = old.below;
      }
    where
      one : (e : Exchange) → kept_in (x ∷ l) e.opening ≡ stale_in e.opening S.stales
          → kept_in (x ∷ l) (outdated_by S.entries r.key e).opening ≡ stale_in (outdated_by S.entries r.key e).opening S.stales
      one e a = by (is_reading S.entries r.key e)
        where
          by : (b : Bool) → kept_in (x ∷ l) (cond b (record e { newest = false }) e).opening ≡ stale_in (cond b (record e { newest = false }) e).opening S.stales
          by true = a
          by false = a

  -- No exchange waits under another message.
  pub waits : (f : Peer → List Waiting) → AllByRecursion (λ (e : Exchange). WaitsUnder (f e.peer) e) S.exchanges
      → AllByRecursion (λ (e : Exchange). WaitsUnder (f e.peer) e) (map (outdated_by S.entries r.key) S.exchanges)
  waits f all = all-map (outdated_by S.entries r.key) (λ (e : Exchange). WaitsUnder (f e.peer) e) S.exchanges (all-more _ _ one S.exchanges all)
    where
      one : (e : Exchange) → WaitsUnder (f e.peer) e → WaitsUnder (f (outdated_by S.entries r.key e).peer) (outdated_by S.entries r.key e)
      one e a = by (is_reading S.entries r.key e)
        where
          by : (b : Bool) → WaitsUnder (f (cond b (record e { newest = false }) e).peer) (cond b (record e { newest = false }) e)
          by true = a
          by false = a

  pub left-told : opens_by x.note ≡ None → Left l t p d m n S h spelled none room (Tells r found)
  left-told unopened =
      let b = h.before.reads in
      let legal = legal-so l t p d m n S h spelled none room in
      let waiting = waits (λ (q : Peer). (link_of S.links q).waiting) b.waiting_are in
      record {
        issued_are = ap (λ (i : ℕ). b.start.issued + i) (issued-still l t p d m S h none room unopened no-over) ∙ b.issued_are;
        keys = open-later x l S.exchanges (openings-same l t p d m S h none room unopened) b.keys
            ∙ (ap (map opening_of) (filter-all (λ (e : Exchange). is_going (x ∷ l) e.opening) S.exchanges (each-of _ S.exchanges goes))
            ∙ sym (outdated-openings S.entries r.key S.exchanges));
        exchanges_are = all-map (outdated_by S.entries r.key) (ExchangeIn b.start (x ∷ l)) S.exchanges (each-of _ S.exchanges one-told);
        pieces_are = pieces;
        stales_are = stales;
        watches_are = left;
        unnoticed = λ q away. told-unnoticed l t p d m n S h spelled none room is r found k left (notice_in m) refl q away;
        store_is = store-told l t p d m n S h spelled none room is r found k ends out-now out-not;
        tokens_are = b.tokens_are;
        waiting_are = waits-with p _ S.links (map (outdated_by S.entries r.key) S.exchanges)
            (all-more _ _ (λ e a at_p. subst (λ (q : Peer). WaitsUnder (link_of S.links q).waiting e) at_p a) (map (outdated_by S.entries r.key) S.exchanges) waiting) waiting;
        link_is = says-agrees _ l t p (link_of S.links p) d m (is_one_of (unless_updated (notice_in m) r)) (link-before l t S h.before p) none room
            (told-forgets l t p d m n S h spelled none room is r found k left (notice_in m) refl) (told-resets l t p d m n S h spelled none room is r found k (is_one_of (unless_updated (notice_in m) r)))
            (none-goes-on l t p d m S h none room unopened no-over);
      }
