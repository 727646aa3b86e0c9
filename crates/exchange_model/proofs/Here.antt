-- What a state looks up stands in memory, from call to call.
use Rattle.std.proofs.Common.{◌≡◌, ℕ, ◌+◌, ◌≤◌, Bool, true, false, cond, inl, List, [], ◌∷◌, length, length-append, map, Option, Some, None, Result, Ok, Err, refl, sym, subst, ◌∙◌, arith}
use Rattle.std.specs.Prelude.{◌==◌, ◌&&◌, not, filter, fold, is_some, nat_le}
use Rattle.std.specs.List.{AllByRecursion, list_any}
use Rattle.std.proofs.lemmas.Bool.{false≢true}
use Rattle.limits.specs.declared.TheConstants.{MAX_DATAGRAM_LEN}
use Rattle.coap_codec.specs.Spelling.{Content}
use Rattle.coap_codec.specs.Reading.{message_at}
use Rattle.coap_codec.specs.declared.fault.CodecFault.{CodecFault}
use Rattle.uri_map.specs.declared.peer.Peer.{Peer}
use Rattle.message_layer.specs.Hearing.{replies, reset_for, verdict_of}
use Rattle.message_layer.specs.declared.state.Outstanding.{Outstanding}
use Rattle.message_layer.specs.declared.state.Waiting.{Waiting}
use Rattle.message_layer.specs.declared.verdict.News.{News}
use Rattle.message_layer.specs.declared.verdict.News.TheVariants as N
use Rattle.message_layer.specs.declared.verdict.Verdict.{Verdict}
use Rattle.observe_share.specs.declared.registration.Registration.{Registration}
use Rattle.resp_cache.specs.Stored.{Stored}
use Rattle.resp_cache.specs.Stores.{is_elsewhere}
use Rattle.resp_cache.specs.declared.pair.Pair.{Pair}
use Rattle.ask_model.specs.declared.cause.Cause.{Cause}
use Rattle.ask_model.specs.declared.cause.Cause.TheVariants as C
use Rattle.ask_model.specs.Requests.{CoapRequest, Sense, Requests, Refuses}
use Rattle.ask_model.specs.Sharing.{asked_key, asked_place, is_get}
use Rattle.ask_model.specs.Views.{Ask}
use Rattle.journal_book.specs.Entries.{Grounds, Deed, Asks, Hears, Written}
use Rattle.journal_book.specs.Journals.{IsHere}
use Rattle.history_laws.specs.Progress.{Reply, Ending, Progress}
use Rattle.history_laws.proofs.CallerLemmas.{all-filter, all-push}
use Rattle.exchange_model.specs.declared.kept.Exchange.{Exchange}
use Rattle.exchange_model.specs.declared.kept.Piece.{Piece}
use Rattle.exchange_model.specs.State.{State, link_of}
use Rattle.exchange_model.specs.Steps.{answers, asks, begins, confirms, entered, exchange_for, hears_nothing, is_under, joins, opens, reader_for, read_at, recalls, seals, sends_copy, sends_first, shuts, went_out}
use Rattle.exchange_model.specs.Watching.{is_renewed_by}
use Rattle.exchange_model.specs.Matters.{Matter, Nothing, Tells, Starts, Goes, Over, asked_in, content_by, has_place, is_other, is_reading, left_by, matter_of, outrun_by, outruns}
use Rattle.exchange_model.specs.Hearing.{Numbers, continued, exchanges_by, goes_on, goes_so, got_by, hears, issued_by, is_newest, is_past, newest_content, outdated_by, passes, pieces_by, pieces_with, put_by, retired, settled_by, store_by, timed_out, watches_by}
use Rattle.exchange_model.specs.Calls.{Telling, asked, asked_by, asked_for, asked_with, given_back, heard, is_due, joined, move_all, moves, moves_by, next, next_by, peer_of, reads_so, refused, repeats, resets, served_in, something_due, takes, takes_by, takes_new, tells, ticked, told_for, told_late}
use Rattle.exchange_model.specs.Room.{fits}
use Rattle.exchange_model.specs.Rotating.{turned}
use Rattle.exchange_model.specs.Sealing.{if_unsealed, in_room, late, ticks_in_room}
use Rattle.exchange_model.specs.Memory.{AreCounted, AreNamed, Here, IsNamedBy}
use Rattle.exchange_model.specs.Here.{AsksHere, GivesHere, HearsHere, IsHereStill, OpensHere, ShutsHere, StartsHere, TicksHere, TurnsHere}
use Rattle.exchange_model.proofs.Named.{all-kept, last-any, moved-named, named-if, noticed-named, put-named, read-named, readers-left, registered-named, retold-named, touched-named, went-named, IsFound, IsOpener, IsReader, RestsOn}
use Rattle.exchange_model.proofs.NamedMatters.{content-last, matter-named, IsMatterOf, RestsOnLast}
use Rattle.exchange_model.proofs.Turned.{few-left}

module _ (g : ℕ) (ks : List ℕ) where
  abbrev P : ℕ → Type 0
  P = IsHere g ks

  -- nothing was given out since, and what is looked up stands in memory
  pub record Held (S : State) : Type 0 where
    pub given : S.given ≡ g
    pub kept : S.kept ≡ ks
    pub counted : AreCounted g S.issued S.opened S.entries
    pub named : AreNamed P S

  abbrev new-here : (S : State) → Held S → P (length S.entries)
  new-here S h = inl h.counted.within

  longer : (t issued opened : ℕ) (d : Deed) (S : State) → Held S → issued ≤ S.issued + 1 → opened ≤ S.opened + 1
      → AreCounted g issued opened (entered t d S).entries
  longer t issued opened d S h more wider =
      let c = h.counted in
      let long = length-append S.entries (record { moment = t; deed = d } ∷ []) in record {
        within = let k = c.within in omega (arith, k, long);
        issued = let k = c.issued in omega (arith, k, long, more);
        opened = let k = c.opened in omega (arith, k, long, wider);
      }

  as-long : (t : ℕ) (d : Deed) (S : State) → Held S → AreCounted g S.issued S.opened (entered t d S).entries
  as-long t d S h = longer t S.issued S.opened d S h (omega arith) (omega arith)

  -- each kind of entry

  enters : (t : ℕ) (d : Deed) (S : State) → Held S → Held (entered t d S)
  enters t d S h = record {
    given = h.given;
    kept = h.kept;
    counted = as-long t d S h;
    named = record {
      exchanges = h.named.exchanges;
      pieces = h.named.pieces;
      readers = readers-left P d S.readers h.named.readers;
      watches = h.named.watches;
      store = h.named.store;
    };
  }

  -- where nothing else changes that names an entry
  same : (S S1 : State) → S1.given ≡ S.given → S1.kept ≡ S.kept → S1.entries ≡ S.entries → S1.exchanges ≡ S.exchanges
      → S1.pieces ≡ S.pieces → S1.readers ≡ S.readers → S1.watches ≡ S.watches → S1.store ≡ S.store
      → AreCounted g S1.issued S1.opened S1.entries → Held S → Held S1
  same S S1 given kept entries exchanges pieces readers watches store counted h = record {
    given = given ∙ h.given;
    kept = kept ∙ h.kept;
    counted = counted;
    named = record {
      exchanges = subst (AllByRecursion (IsNamedBy P)) (sym exchanges) h.named.exchanges;
      pieces = subst (AllByRecursion (λ (x : Piece). P x.number)) (sym pieces) h.named.pieces;
      readers = subst (AllByRecursion (IsReader P)) (sym readers) h.named.readers;
      watches = subst (AllByRecursion (IsOpener P)) (sym watches) h.named.watches;
      store = subst (AllByRecursion (RestsOn P)) (sym store) h.named.store;
    };
  }

  opens-held : (t : ℕ) (S : State) → Held S → Held (opens t S)
  opens-held t S h = same _ (opens t S) refl refl refl refl refl refl refl refl (longer t S.issued (S.opened + 1) _ S h (omega arith) (omega arith)) (enters t _ S h)

  seals-held : (t : ℕ) (S : State) → Held S → Held (seals t S)
  seals-held t S h = same _ (seals t S) refl refl refl refl refl refl refl refl (as-long t _ S h) (enters t _ S h)

  shuts-held : (t c : ℕ) (S : State) → Held S → Held (shuts t c S)
  shuts-held t c S h = enters t _ S h

  answers-held : (t c k : ℕ) (grounds : Grounds) (S : State) → Held S → Held (answers t c k grounds S)
  answers-held t c k grounds S h = enters t _ S h

  asks-held : (t c : ℕ) (a : Ask) (S : State) → Held S → Held (asks t c a S)
  asks-held t c a S h = record {
    given = h.given;
    kept = h.kept;
    counted = as-long t (Asks c a) S h;
    named = record {
      exchanges = h.named.exchanges;
      pieces = h.named.pieces;
      readers = h.named.readers;
      watches = touched-named P t a.sense S.watches h.named.watches;
      store = h.named.store;
    };
  }

  begins-held : (t c : ℕ) (a : Ask) (q : CoapRequest) (token text : List ℕ) (word : ℕ) (S : State) → Held S
      → Held (begins t c a q token text word S)
  begins-held t c a q token text word S h = record {
    given = h.given;
    kept = h.kept;
    counted = longer t (S.issued + 1) S.opened (Asks c a) S h (omega arith) (omega arith);
    named = record {
      exchanges = all-push (IsNamedBy P) S.exchanges (exchange_for t a q token S) h.named.exchanges
          (record { ask = new-here S h; registers = λ is. new-here S h });
      pieces = h.named.pieces;
      readers = all-push (IsReader P) S.readers (reader_for c S) h.named.readers (new-here S h);
      watches = all-filter (IsOpener P) (λ (r : Registration). not (is_renewed_by q r)) S.watches h.named.watches;
      store = h.named.store;
    };
  }

  recalls-held : (t c : ℕ) (a : Ask) (q : CoapRequest) (S : State) → Held S → Held (recalls t c a (asked_key q) S)
  recalls-held t c a q S h =
      let k = asks-held t c a S h in record {
        given = k.given;
        kept = k.kept;
        counted = k.counted;
        named = record {
          exchanges = k.named.exchanges;
          pieces = k.named.pieces;
          readers = k.named.readers;
          watches = k.named.watches;
          store = moved-named P (asked_key q) t S.store h.named.store;
        };
      }

  joins-held : (t c : ℕ) (a : Ask) (o : ℕ) (S : State) → Held S → Held (joins t c a o S)
  joins-held t c a o S h =
      let k = asks-held t c a S h in record {
        given = k.given;
        kept = k.kept;
        counted = k.counted;
        named = record {
          exchanges = all-kept (IsNamedBy P) (read_at t o) S.exchanges (λ e n. read-named P t o e n) h.named.exchanges;
          pieces = k.named.pieces;
          readers = all-push (IsReader P) S.readers _ h.named.readers (new-here S h);
          watches = k.named.watches;
          store = k.named.store;
        };
      }

  confirms-held : (t : ℕ) (p : Peer) (bytes : List ℕ) (S : State) → Held S → Held (confirms t p bytes S)
  confirms-held t p bytes S h = enters t _ S h

  hears-nothing-held : (t : ℕ) (p : Peer) (d : List ℕ) (S : State) → Held S → Held (hears_nothing t p d S)
  hears-nothing-held t p d S h = enters t _ S h

  sends-first-held : (t : ℕ) (p : Peer) (w : Waiting) (ws : List Waiting) (S : State) → Held S → Held (sends_first t p w ws S)
  sends-first-held t p w ws S h = record {
    given = h.given;
    kept = h.kept;
    counted = as-long t _ S h;
    named = record {
      exchanges = all-kept (IsNamedBy P) (went_out w.token (length S.entries)) S.exchanges
          (λ e n. went-named P w.token (length S.entries) e n) h.named.exchanges;
      pieces = h.named.pieces;
      readers = h.named.readers;
      watches = h.named.watches;
      store = h.named.store;
    };
  }

  sends-copy-held : (t : ℕ) (p : Peer) (o : Outstanding) (S : State) → Held S → Held (sends_copy t p o S)
  sends-copy-held t p o S h = same _ (sends_copy t p o S) refl refl refl refl refl refl refl refl (as-long t _ S h) (enters t _ S h)

  -- a message that is new

  outdated-named : (ws : List Written) (r : Registration) (e : Exchange) → IsNamedBy P e → IsNamedBy P (outdated_by ws r.key e)
  outdated-named ws r e h =
      named-if P (is_reading ws r.key e) (record e { newest = false }) e (record { ask = h.ask; registers = h.registers }) h

  goes-named : (e : Exchange) (token : List ℕ) (progress : Progress) (x : Exchange) → IsNamedBy P x → IsNamedBy P (goes_so e token progress x)
  goes-named e token progress x h =
      named-if P (is_under e.token x) (continued token progress x) x (record { ask = h.ask; registers = λ is. absurd (false≢true is) }) h

  outrun-named : (ws : List Written) (over : List Exchange) (e : Exchange) → IsNamedBy P e → IsNamedBy P (outrun_by ws over e)
  outrun-named ws over e h =
      named-if P (list_any (outruns ws (asked_in ws e.ask)) over) (record e { current = false }) e (record { ask = h.ask; registers = h.registers }) h

  left-named : (ws : List Written) (over es : List Exchange) → AllByRecursion (IsNamedBy P) es → AllByRecursion (IsNamedBy P) (left_by ws over es)
  left-named ws over es a = all-kept (IsNamedBy P) (outrun_by ws over) es (λ e n. outrun-named ws over e n) a

  exchanges-held : (ws : List Written) (token : List ℕ) (x : Matter) (es : List Exchange) → IsMatterOf P x
      → AllByRecursion (IsNamedBy P) es → AllByRecursion (IsNamedBy P) (exchanges_by ws token x es)
  exchanges-held ws token Nothing es m a = a
  exchanges-held ws token (Tells r found) es m a = all-kept (IsNamedBy P) (outdated_by ws r.key) es (λ e n. outdated-named ws r e n) a
  exchanges-held ws token (Starts r e progress) es m a =
      all-push (IsNamedBy P) (map (outdated_by ws r.key) es) (record e { token = token })
      (all-kept (IsNamedBy P) (outdated_by ws r.key) es (λ x n. outdated-named ws r x n) a)
      (record { ask = m.ask; registers = m.registers })
  exchanges-held ws token (Goes e progress) es m a = all-kept (IsNamedBy P) (goes_so e token progress) es (λ x n. goes-named e token progress x n) a
  exchanges-held ws token (Over e how) es m a = left-named ws (e ∷ []) (filter (is_other e.token) es) (all-filter (IsNamedBy P) (is_other e.token) es a)

  abbrev IsPieceHere : Piece → Type 0
  IsPieceHere x = P x.number

  with-piece : (e : Exchange) (n : ℕ) (rs : List Reply) (xs : List Piece) → P n → AllByRecursion IsPieceHere xs
      → AllByRecursion IsPieceHere (pieces_with e n rs xs)
  with-piece e n [] xs h a = all-filter IsPieceHere _ xs a
  with-piece e n (r ∷ rs) xs h a = all-push IsPieceHere xs _ a h

  pieces-held : (n : ℕ) (x : Matter) (xs : List Piece) → P n → AllByRecursion IsPieceHere xs → AllByRecursion IsPieceHere (pieces_by n x xs)
  pieces-held n Nothing xs h a = a
  pieces-held n (Tells r found) xs h a = a
  pieces-held n (Starts r e progress) xs h a = with-piece e n (got_by progress) xs h a
  pieces-held n (Goes e progress) xs h a = with-piece e n (got_by progress) xs h a
  pieces-held n (Over e how) xs h a = all-filter IsPieceHere _ xs a

  watches-held : (t : ℕ) (m : Content) (ws : List Written) (x : Matter) (rs : List Registration) → IsMatterOf P x
      → AllByRecursion (IsOpener P) rs → AllByRecursion (IsOpener P) (watches_by t m ws x rs)
  watches-held t m ws Nothing rs h a = a
  watches-held t m ws (Tells r found) rs h a = noticed-named P m.token _ t rs a
  watches-held t m ws (Starts r e progress) rs h a = noticed-named P m.token _ t rs a
  watches-held t m ws (Goes e progress) rs h a = registered-named P t m e (asked_in ws e.ask) rs h a
  watches-held t m ws (Over e how) rs h a = all-filter (IsOpener P) _ _ (registered-named P t m e (asked_in ws e.ask) rs h.0 a)

  settled-if : (get : Bool) (current : Bool) (q : CoapRequest) (found : Option Stored) (ps : List Pair) → IsFound P found → AllByRecursion (RestsOn P) ps
      → AllByRecursion (RestsOn P) (cond get (cond current (put_by found (asked_key q) ps) ps) (filter (is_elsewhere (asked_place q)) ps))
  settled-if true true q found ps h a = put-named P found (asked_key q) ps h a
  settled-if true false q found ps h a = a
  settled-if false current q found ps h a = all-filter (RestsOn P) (is_elsewhere (asked_place q)) ps a

  settled-held : (q : Option CoapRequest) (current : Bool) (found : Option Stored) (ps : List Pair) → IsFound P found → AllByRecursion (RestsOn P) ps
      → AllByRecursion (RestsOn P) (settled_by q current found ps)
  settled-held None current found ps h a = a
  settled-held (Some q) current found ps h a = settled-if (q.method == 1) (is_get q && current) q found ps h a

  found-if : (b : Bool) (found : Option Stored) → IsFound P found → IsFound P (cond b found None)
  found-if true found h = h
  found-if false found h = tt

  newest-held : (ws : List Written) (t : ℕ) (e : Exchange) (how : Ending) → RestsOnLast P how → IsFound P (newest_content ws t e how)
  newest-held ws t e how h = found-if (is_newest e how) (content_by ws t e.ask how) (content-last P ws t e.ask how h)

  store-held : (ws : List Written) (t : ℕ) (x : Matter) (ps : List Pair) → IsMatterOf P x → AllByRecursion (RestsOn P) ps
      → AllByRecursion (RestsOn P) (store_by ws t x ps)
  store-held ws t Nothing ps h a = a
  store-held ws t (Tells r found) ps h a = retold-named P found r.key ps h a
  store-held ws t (Starts r e progress) ps h a = retold-named P None r.key ps tt a
  store-held ws t (Goes e progress) ps h a = a
  store-held ws t (Over e how) ps h a = settled-held (asked_in ws e.ask) e.current (newest_content ws t e how) ps (newest-held ws t e how h.1) a

  issued-few : (x : Matter) (n : ℕ) → issued_by x n ≤ n + 1
  issued-few Nothing n = omega arith
  issued-few (Tells r found) n = omega arith
  issued-few (Starts r e progress) n = omega arith
  issued-few (Goes e progress) n = omega arith
  issued-few (Over e how) n = omega arith

  hears-held : (t : ℕ) (p : Peer) (d : List ℕ) (m : Content) (n : Numbers) (S : State) → Held S → Held (hears t p d m n S)
  hears-held t p d m n S h =
      let x : Matter = matter_of t p m (verdict_of t (link_of S.links p) m) S in
      let is : IsMatterOf P x = matter-named P S (new-here S h) h.named t p m (verdict_of t (link_of S.links p) m) in record {
        given = h.given;
        kept = h.kept;
        counted = longer t (issued_by x S.issued) S.opened (Hears p d) S h (issued-few x S.issued) (omega arith);
        named = record {
          exchanges = exchanges-held S.entries n.token x S.exchanges is h.named.exchanges;
          pieces = pieces-held (length S.entries) x S.pieces (new-here S h) h.named.pieces;
          readers = h.named.readers;
          watches = watches-held t m S.entries x S.watches is h.named.watches;
          store = store-held S.entries t x S.store is h.named.store;
        };
      }

  -- time passes

  retired-held : (ws : List Written) (es : List Exchange) (ps : List Pair) → AllByRecursion (RestsOn P) ps → AllByRecursion (RestsOn P) (retired ws es ps)
  retired-held ws [] ps a = a
  retired-held ws (e ∷ es) ps a = retired-held ws es _ (settled-held (asked_in ws e.ask) e.current None ps tt a)

  passes-held : (t : ℕ) (S : State) → Held S → Held (passes t S)
  passes-held t S h = record {
    given = h.given;
    kept = h.kept;
    counted = as-long t _ S h;
    named = record {
      exchanges = left-named S.entries (timed_out t S) (filter (goes_on t S) S.exchanges) (all-filter (IsNamedBy P) (goes_on t S) S.exchanges h.named.exchanges);
      pieces = all-filter IsPieceHere _ S.pieces h.named.pieces;
      readers = h.named.readers;
      watches = all-filter (IsOpener P) _ S.watches h.named.watches;
      store = retired-held S.entries (timed_out t S) S.store h.named.store;
    };
  }

  -- what each call is made of

  next-by : (t : ℕ) (p : Peer) (o : Option Outstanding) (ws : List Waiting) (S : State) → Held S → Held (next_by t p o ws S)
  next-by t p None (w ∷ ws) S h = sends-first-held t p w ws S h
  next-by t p None [] S h = h
  next-by t p (Some o) ws S h = h

  next-held : (t : ℕ) (p : Peer) (S : State) → Held S → Held (next t p S)
  next-held t p S h = next-by t p (link_of S.links p).outstanding (link_of S.links p).waiting S h

  refused-held : (t c : ℕ) (a : Ask) (cause : Cause) (S : State) → Held S → Held (refused t c a cause S)
  refused-held t c a cause S h = answers-held t c _ _ (asks t c a S) (asks-held t c a S h)

  either : (b : Bool) (S1 S2 : State) → Held S1 → Held S2 → Held (cond b S1 S2)
  either true S1 S2 h k = h
  either false S1 S2 h k = k

  with-held : (e : Option Exchange) (t c : ℕ) (a : Ask) (q : CoapRequest) (n : Numbers) (S : State) → Held S → Held (asked_with e t c a q n S)
  with-held (Some e) t c a q n S h = joins-held t c a e.opening S h
  with-held None t c a q n S h =
      either (has_place t q.peer S) _ _ (next-held t q.peer _ (begins-held t c a q n.token n.text n.word S h)) (refused-held t c a C.Busy S h)

  for-held : (s : Option Stored) (t c : ℕ) (a : Ask) (q : CoapRequest) (n : Numbers) (S : State) → Held S → Held (asked_for s t c a q n S)
  for-held (Some s) t c a q n S h = answers-held t c _ _ _ (recalls-held t c a q S h)
  for-held None t c a q n S h = with-held (joined q S) t c a q n S h

  asked-held : (sense : Sense) (t c : ℕ) (a : Ask) (n : Numbers) (S : State) → Held S → Held (asked_by sense t c a n S)
  asked-held (Refuses cause status) t c a n S h = refused-held t c a cause S h
  asked-held (Requests q) t c a n S h = for-held (served_in q t S) t c a q n S h

  given-held : (t : ℕ) (p : Peer) (bs : List (List ℕ)) (S : State) → Held S → Held (given_back t p bs S)
  given-held t p [] S h = h
  given-held t p (b ∷ bs) S h = given-held t p bs _ (confirms-held t p b S h)

  told-held : (t : ℕ) (xs : List Telling) (S : State) → Held S → Held (fold (tells t) S xs)
  told-held t [] S h = h
  told-held t (x ∷ xs) S h = told-held t xs _ (answers-held t x.reader.conn x.reader.ask x.grounds S h)

  new-held : (t : ℕ) (p : Peer) (d : List ℕ) (m : Content) (v : Verdict) (n : Numbers) (S : State) → Held S → Held (takes_new t p d m v n S)
  new-held t p d m v n S h =
      told-held t (told_for (length S.entries) (matter_of t p m v S) S.readers) _
      (next-held t p _ (given-held t p (replies m.mid v.reply) _ (hears-held t p d m n S h)))

  news-held : (t : ℕ) (p : Peer) (d : List ℕ) (m : Content) (v : Verdict) (n : Numbers) (news : News) (S : State) → Held S
      → Held (takes_by t p d m v n news S)
  news-held t p d m v n N.Lost S h = h
  news-held t p d m v n N.Quiet S h = new-held t p d m v n S h
  news-held t p d m v n N.Response S h = new-held t p d m v n S h
  news-held t p d m v n (N.Reset token) S h = new-held t p d m v n S h

  takes-held : (t : ℕ) (p : Peer) (d : List ℕ) (m : Content) (v : Verdict) (n : Numbers) (S : State) → Held S → Held (takes t p d m v n S)
  takes-held t p d m v n S h =
      either (repeats t (link_of S.links p) m) _ _ (given-held t p (replies m.mid v.reply) _ (hears-nothing-held t p d S h))
      (news-held t p d m v n v.news S h)

  read-held : (t : ℕ) (p : Peer) (d : List ℕ) (n : Numbers) (r : Result Content CodecFault) (S : State) → Held S → Held (reads_so t p d n r S)
  read-held t p d n (Ok m) S h = takes-held t p d m (verdict_of t (link_of S.links p) m) n S h
  read-held t p d n (Err e) S h = given-held t p (resets (reset_for d)) _ (hears-nothing-held t p d S h)

  heard-held : (t : ℕ) (p : Peer) (d : List ℕ) (n : Numbers) (S : State) → Held S → Held (heard t p d n S)
  heard-held t p d n S h =
      either (is_some (link_of S.links p).last_mid && nat_le (length d) MAX_DATAGRAM_LEN) _ S (read-held t p d n (message_at d) S h) h

  moves-by : (t : ℕ) (p : Peer) (o : Option Outstanding) (S : State) → Held S → Held (moves_by t p o S)
  moves-by t p None S h = next-held t p S h
  moves-by t p (Some o) S h = either (is_due t (Some o)) _ S (sends-copy-held t p o S h) h

  moves-held : (t : ℕ) (ps : List Peer) (S : State) → Held S → Held (fold (moves t) S ps)
  moves-held t [] S h = h
  moves-held t (p ∷ ps) S h = moves-held t ps _ (moves-by t p (link_of S.links p).outstanding S h)

  ticked-held : (t : ℕ) (S : State) → Held S → Held (ticked t S)
  ticked-held t S h =
      let P1 : State = passes t S in
      either (something_due t S) _ S
      (told-held t (told_late (timed_out t S) S.readers) (move_all t P1) (moves-held t (map peer_of P1.links) P1 (passes-held t S h))) h

  -- and within the room of a journal

  pub in-room : (t : ℕ) (S1 S : State) → Held S1 → Held S → Held (in_room t S1 S)
  in-room t S1 S h k = either (fits S1) S1 (seals t S) h (seals-held t S k)

  pub if-unsealed : (t : ℕ) (S1 S : State) → Held S1 → Held S → Held (if_unsealed t S1 S)
  if-unsealed t S1 S h k = either S.sealed S (in_room t S1 S) k (in-room t S1 S h k)

  pub late-held : (t : ℕ) (S : State) → Held S → Held (late t S)
  late-held t S h = told-held t (told_late (filter (is_past t) S.exchanges) S.readers) S h

  pub ticks-held : (t : ℕ) (S : State) → Held S → Held (ticks_in_room t S)
  ticks-held t S h =
      either S.sealed _ _ (late-held t S h)
      (either (fits (ticked t S)) (ticked t S) (late t (seals t S)) (ticked-held t S h) (late-held t (seals t S) (seals-held t S h)))

held : (S : State) → Here S → Held S.given S.kept S
held S h = record { given = refl; kept = refl; counted = h.counted; named = h.named }

still : (S S1 : State) → Here S → Held S.given S.kept S1 → IsHereStill S S1
still S S1 was h = record {
  given = h.given;
  kept = h.kept;
  here = record {
    named = subst (λ (n : ℕ). AreNamed (IsHere n S1.kept) S1) (sym h.given)
        (subst (λ (ks : List ℕ). AreNamed (IsHere S.given ks) S1) (sym h.kept) h.named);
    counted = subst (λ (n : ℕ). AreCounted n S1.issued S1.opened S1.entries) (sym h.given) h.counted;
    numbered = let k = was.numbered in let same = h.given in omega (arith, k, same);
  };
}

pub starts-here : StartsHere
starts-here = record {
  named = record { exchanges = tt; pieces = tt; readers = tt; watches = tt; store = tt };
  counted = record { within = omega arith; issued = omega arith; opened = omega arith };
  numbered = omega arith;
}

-- what each call leaves, be there room for it or not

pub opened-here : (t : ℕ) (S : State) → Here S → Here (opens t S)
opened-here t S h = (still S _ h (opens-held S.given S.kept t S (held S h))).here

pub sealed-here : (t : ℕ) (S : State) → Here S → Here (seals t S)
sealed-here t S h = (still S _ h (seals-held S.given S.kept t S (held S h))).here

pub asked-here : (t c : ℕ) (a : Ask) (n : Numbers) (S : State) → Here S → Here (asked t c a n S)
asked-here t c a n S h = (still S _ h (asked-held S.given S.kept a.sense t c a n S (held S h))).here

pub heard-here : (t : ℕ) (p : Peer) (d : List ℕ) (n : Numbers) (S : State) → Here S
    → Here (heard t p d n S)
heard-here t p d n S h = (still S _ h (heard-held S.given S.kept t p d n S (held S h))).here

pub ticked-here : (t : ℕ) (S : State) → Here S → Here (ticked t S)
ticked-here t S h = (still S _ h (ticked-held S.given S.kept t S (held S h))).here

pub late-here : (t : ℕ) (S : State) → Here S → Here (late t S)
late-here t S h = (still S _ h (late-held S.given S.kept t S (held S h))).here

pub opens-here : OpensHere
opens-here t S h =
    let k = held S h in still S _ h (if-unsealed S.given S.kept t (opens t S) S (opens-held S.given S.kept t S k) k)

pub shuts-here : ShutsHere
shuts-here t c S h = still S _ h (shuts-held S.given S.kept t c S (held S h))

pub asks-here : AsksHere
asks-here t c a n S h =
    let k = held S h in
    still S _ h (if-unsealed S.given S.kept t (asked t c a n S) S (asked-held S.given S.kept a.sense t c a n S k) k)

pub hears-here : HearsHere
hears-here t p d n S h =
    let k = held S h in
    still S _ h (if-unsealed S.given S.kept t (heard t p d n S) S (heard-held S.given S.kept t p d n S k) k)

pub ticks-here : TicksHere
ticks-here t S h = still S _ h (ticks-held S.given S.kept t S (held S h))

pub gives-here : GivesHere
gives-here n ks S few within left named = record {
  named = record {
    exchanges = named.exchanges;
    pieces = named.pieces;
    readers = named.readers;
    watches = named.watches;
    store = named.store;
  };
  counted = record {
    within = within;
    issued = let k = left.issued in omega (arith, k, within);
    opened = let k = left.opened in omega (arith, k, within);
  };
  numbered = let k = left.given in omega (arith, k, few);
}

all-any : (ps : List Pair) → AllByRecursion (RestsOn (IsHere 0 [])) ps
all-any [] = tt
all-any (p ∷ ps) = (last-any (IsHere 0 []) p.stored.list (λ n. inl (omega arith)), all-any ps)

pub turns-here : TurnsHere
turns-here t S fit = record {
  named = record { exchanges = tt; pieces = tt; readers = tt; watches = tt; store = all-any (turned t S).store };
  counted = record {
    within = omega arith;
    issued = let k = (few-left t S fit).0 in omega (arith, k);
    opened = let k = (few-left t S fit).1 in omega (arith, k);
  };
  numbered = omega arith;
}
