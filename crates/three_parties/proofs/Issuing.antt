-- Which tokens a core gives out by its calls.
use Rattle.std.proofs.Common.{◌≡◌, inl, inr, ℕ, ◌+◌, ◌≤◌, Bool, true, false, cond, List, [], ◌∷◌, ◌++◌, length, map, Option, Some, None, Result, Ok, Err, refl, sym, ap, subst, ◌∙◌, arith}
use Rattle.std.specs.Prelude.{◌&&◌, fold, filter, is_some, nat_le, not}
use Rattle.std.specs.List.{AllByRecursion}
use Rattle.coap_codec.specs.Spelling.{Content, Spells}
use Rattle.coap_codec.specs.Reading.{message_at}
use Rattle.coap_codec.specs.declared.block.Block.{Block}
use Rattle.coap_codec.specs.declared.fault.CodecFault.{CodecFault}
use Rattle.uri_map.specs.declared.peer.Peer.{Peer}
use Rattle.uri_map.specs.Peers.{same_peer}
use Rattle.message_layer.specs.Values.{LinkState}
use Rattle.message_layer.specs.Hearing.{replies, reset_for, verdict_of}
use Rattle.message_layer.specs.Sending.{first_sent, next_mid, queued, waits}
use Rattle.message_layer.specs.declared.state.Outstanding.{Outstanding}
use Rattle.message_layer.specs.declared.state.Reply.{Reply}
use Rattle.message_layer.specs.declared.state.Reply.TheVariants as R
use Rattle.message_layer.specs.declared.state.Waiting.{Waiting}
use Rattle.message_layer.specs.declared.verdict.News.{News}
use Rattle.message_layer.specs.declared.verdict.News.TheVariants as N
use Rattle.message_layer.specs.declared.verdict.Verdict.{Verdict}
use Rattle.blockwise.specs.Uploads.{next_block}
use Rattle.resp_cache.specs.Stored.{Stored}
use Rattle.ask_model.specs.Requests.{CoapRequest, Manner, Plainly, Observing, Validating, Sense, Requests, Refuses, asking, block_message, first_block, opening_message}
use Rattle.ask_model.specs.Sharing.{asked_key}
use Rattle.ask_model.specs.Views.{Ask}
use Rattle.ask_model.specs.declared.cause.Cause.{Cause}
use Rattle.ask_model.specs.declared.cause.Cause.TheVariants as C
use Rattle.journal_book.specs.Entries.{Kept, Fault, Deed, Opens, Asks, Sends, Hears, Passes, Answers, Shuts, Seals, Written}
use Rattle.history_laws.specs.Numbering.{token_number}
use Rattle.history_laws.specs.Progress.{Progress, Fetches, Gives, Ends, next_message}
use Rattle.history_laws.proofs.CallerLemmas.{none-some, some-is}
use Rattle.history_links.specs.Steps.{heard_link, is_over, passed_link}
use Rattle.exchange_model.specs.Calls.{served_in, asked_for, joined, asked_with, serves, next_by, next, refused, has_place, asked_by, asked, given_back, goes_as, goes_with, Telling, tells, told_for, told_late, takes_new, takes_by, repeats, resets, reads_so, heard, is_due, moves_by, moves, move_all, peer_of, something_due, ticked, IsAlone}
use Rattle.exchange_model.specs.Keeping.{MayGoOn}
use Rattle.exchange_model.specs.Laws.{IsContinued}
use Rattle.exchange_model.specs.Room.{fits}
use Rattle.exchange_model.specs.Sealing.{in_room, if_unsealed, opens_in_room, asks_in_room, hears_in_room, late, ticks_in_room}
use Rattle.exchange_model.specs.State.{PeerLink, State, link_of, with_link}
use Rattle.exchange_model.specs.Steps.{asks, asks_so, confirms, joins, opens, shuts, seals, begins, hears_nothing, sends_copy, sends_first, recalls, unwatched}
use Rattle.exchange_model.specs.Matters.{Matter, Nothing, Tells, Starts, Goes, Over, matter_of}
use Rattle.exchange_model.specs.Hearing.{Numbers, gone_by, issued_by, more_by, hears, is_past, link_with, passed, passes, timed_out}
use Rattle.exchange_model.specs.Watching.{is_one_of}
use Rattle.exchange_model.specs.declared.kept.Exchange.{Exchange}
use Rattle.exchange_core.specs.Calls.{IsSpelled}
use Rattle.three_parties.proofs.Pacing.{link-cases}
use Rattle.three_parties.proofs.Bearing.{Bears, spelled-bears, mid-bears, IsIssued, AreIssued, LinkIssued, Issued, are-more, link-more, all-both, all-filter}

module _ (lo t : ℕ) where
  one : (S S1 : State) (d : Deed) → S1.entries ≡ S.entries ++ record { moment = t; deed = d } ∷ [] → S.issued ≤ S1.issued → IsIssued lo S1.issued d
      → ((p : Peer) → LinkIssued lo S1.issued (link_of S1.links p)) → Issued lo S → Issued lo S1
  one S S1 d e le its links h =
      let least = h.least in record {
        least = omega (arith, least, le);
        sent = subst (AreIssued lo S1.issued) (sym e)
            (all-both (λ (w : Written). IsIssued lo S1.issued w.deed) S.entries (record { moment = t; deed = d } ∷ [])
            (are-more lo S.issued S1.issued le S.entries h.sent) (its, tt));
        links = links;
      }

  -- the link of a peer is another one
  put : (hi : ℕ) (xs : List PeerLink) (p : Peer) (s : LinkState) → LinkIssued lo hi s → ((q : Peer) → LinkIssued lo hi (link_of xs q))
      → (q : Peer) → LinkIssued lo hi (link_of (with_link p s xs) q)
  put hi xs p s its all q =
      elim (link-cases p q s xs) [
        | inl w ↦ subst (LinkIssued lo hi) (sym w.1) its
        | inr w ↦ subst (LinkIssued lo hi) (sym w) (all q)
      ]

  either : (b : Bool) (S1 S2 : State) → Issued lo S1 → Issued lo S2 → Issued lo (cond b S1 S2)
  either true S1 S2 x y = x
  either false S1 S2 x y = y

  seals-issue : (S : State) → Issued lo S → Issued lo (seals t S)
  seals-issue S h = one S (seals t S) Seals refl (omega arith) tt h.links h

  in-room : (S S1 : State) → Issued lo S → Issued lo S1 → Issued lo (in_room t S1 S)
  in-room S S1 h x = either (fits S1) S1 (seals t S) x (seals-issue S h)

  unsealed : (S S1 : State) → Issued lo S → Issued lo S1 → Issued lo (if_unsealed t S1 S)
  unsealed S S1 h x = either S.sealed S (in_room t S1 S) h (in-room S S1 h x)

  next-issues : (p : Peer) (S : State) → Issued lo S → Issued lo (next t p S)
  next-issues p S h = by (link_of S.links p).outstanding (link_of S.links p).waiting refl
    where
      by : (v : Option Outstanding) (ws : List Waiting) → (link_of S.links p).waiting ≡ ws → Issued lo (next_by t p v ws S)
      by None [] e = h
      by (Some o) ws e = h
      by None (w ∷ ws) e =
          let all = subst (AllByRecursion (λ (w : Waiting). Bears lo S.issued w.datagram)) e (h.links p).waits in
          let sent = mid-bears lo S.issued (next_mid (link_of S.links p).last_mid w.first_mid) w.datagram all.0 in
          one S (sends_first t p w ws S) (Sends p (first_sent t (link_of S.links p).last_mid w).datagram (Some w.timeout)) refl (omega arith) sent
          (put S.issued S.links p _ (record {
            out = λ o f. subst (λ (o : Outstanding). Bears lo S.issued o.datagram) (some-is _ o f) sent;
            waits = all.1;
          }) h.links) h

  told-issue : (xs : List Telling) (S : State) → Issued lo S → Issued lo (fold (tells t) S xs)
  told-issue [] S h = h
  told-issue (x ∷ xs) S h =
      told-issue xs (tells t S x) (one S (tells t S x) (Answers x.reader.conn x.reader.ask x.grounds) refl (omega arith) tt h.links h)

  -- ---- an ask

  refused-issues : (c : ℕ) (a : Ask) (cause : Cause) (S : State) → Issued lo S → Issued lo (refused t c a cause S)
  refused-issues c a cause S h =
      let k = length S.entries in
      let S1 = asks t c a S in
      let asked : Issued lo S1 = one S S1 (Asks c a) refl (omega arith) tt h.links h in
      one S1 (refused t c a cause S) (Answers c k (Fault cause k)) refl (omega arith) tt asked.links asked

  asking-token : (f : Manner) (q : CoapRequest) (b : Option Block) (mid : ℕ) (token : List ℕ) → (asking f q b mid token).token ≡ token
  asking-token f q (Some b) mid token = refl
  asking-token Plainly q None mid token = refl
  asking-token Observing q None mid token = refl
  asking-token (Validating etag) q None mid token = refl

  begun-issues : (c : ℕ) (a : Ask) (q : CoapRequest) (n : Numbers) (S : State) → Spells (opening_message (asks_so t a q S) q 0 n.token) n.text
      → length n.token ≡ 8 → token_number n.token ≡ S.issued → Issued lo S → Issued lo (begins t c a q n.token n.text n.word S)
  begun-issues c a q n S spelled size number h =
      let S1 = begins t c a q n.token n.text n.word S in
      let is = asking-token (asks_so t a q S) q (first_block q) 0 n.token in
      let bears : Bears lo (S.issued + 1) n.text =
      spelled-bears lo S.issued (opening_message (asks_so t a q S) q 0 n.token) n.text spelled (ap length is ∙ size) (ap token_number is ∙ number) h.least in
      let le : S.issued ≤ S.issued + 1 = omega arith in
      let old = link-more lo S.issued (S.issued + 1) le (link_of S.links q.peer) (h.links q.peer) in
      one S S1 (Asks c a) refl le tt
      (put (S.issued + 1) S.links q.peer (queued t (waits n.token n.text n.word) (unwatched q S)) (record {
        out = old.out;
        waits = all-both (λ (w : Waiting). Bears lo (S.issued + 1) w.datagram) (link_of S.links q.peer).waiting (waits n.token n.text n.word ∷ []) old.waits (bears, tt);
      }) (λ p. link-more lo S.issued (S.issued + 1) le (link_of S.links p) (h.links p))) h

  asked-issues : (c : ℕ) (a : Ask) (n : Numbers) (S : State) → IsSpelled t a n S → length n.token ≡ 8 → token_number n.token ≡ S.issued
      → Issued lo S → Issued lo (asked t c a n S)
  asked-issues c a n S spelled size number h = sense a.sense refl
    where
      served : (q : CoapRequest) (s : Stored) → Issued lo (serves t c a q s S)
      served q s =
          let S1 = recalls t c a (asked_key q) S in
          let k = length S.entries in
          let asked : Issued lo S1 = one S S1 (Asks c a) refl (omega arith) tt h.links h in
          one S1 (serves t c a q s S) (Answers c k (Kept s.list)) refl (omega arith) tt asked.links asked

      sense : (s : Sense) → a.sense ≡ s → Issued lo (asked_by s t c a n S)
      sense (Refuses cause status) is = refused-issues c a cause S h
      sense (Requests q) is = for (served_in q t S) refl
        where
          placed : (b : Bool) → has_place t q.peer S ≡ b → IsAlone t q S
              → Issued lo (cond b (next t q.peer (begins t c a q n.token n.text n.word S)) (refused t c a C.Busy S))
          placed true there alone =
              next-issues q.peer (begins t c a q n.token n.text n.word S) (begun-issues c a q n S (spelled q is alone there) size number h)
          placed false there alone = refused-issues c a C.Busy S h

          with : (v : Option Exchange) → joined q S ≡ v → served_in q t S ≡ None → Issued lo (asked_with v t c a q n S)
          with (Some e) found none = one S (joins t c a e.opening S) (Asks c a) refl (omega arith) tt h.links h
          with None found none = placed (has_place t q.peer S) refl (none, found)

          for : (v : Option Stored) → served_in q t S ≡ v → Issued lo (asked_for v t c a q n S)
          for (Some s) found = served q s
          for None found = with (joined q S) refl found

  -- ---- a datagram

  given-issue : (p : Peer) (bs : List (List ℕ)) (S : State) → AllByRecursion (λ (b : List ℕ). length b ≡ 4) bs → Issued lo S → Issued lo (given_back t p bs S)
  given-issue p [] S four h = h
  given-issue p (b ∷ bs) S four h =
      given-issue p bs (confirms t p b S) four.1 (one S (confirms t p b S) (Sends p b None) refl (omega arith) (inl four.0) h.links h)

  four : (mid : ℕ) (r : Reply) → AllByRecursion (λ (b : List ℕ). length b ≡ 4) (replies mid r)
  four mid R.Nothing = tt
  four mid R.Ack = (refl, tt)
  four mid R.Rst = (refl, tt)

  issued-later : (x : Matter) (k : ℕ) → k ≤ issued_by x k
  issued-later Nothing k = omega arith
  issued-later (Tells r found) k = omega arith
  issued-later (Starts r e progress) k = omega arith
  issued-later (Goes e progress) k = omega arith
  issued-later (Over e how) k = omega arith

  block-token : (q : CoapRequest) (b : Option Block) (token : List ℕ) → (block_message q b 0 token).token ≡ token
  block-token q None token = refl
  block-token q (Some b) token = refl

  next-token : (q : CoapRequest) (progress : Progress) (token : List ℕ) (m : Content) → next_message Plainly q progress 0 token ≡ Some m → m.token ≡ token
  next-token q (Fetches restarts pieces got) token m e =
      ap (λ (m : Content). m.token) (sym (some-is _ m e)) ∙ asking-token Plainly q _ 0 token
  next-token q (Gives upload got) token m e =
      ap (λ (m : Content). m.token) (sym (some-is _ m e)) ∙ block-token q (next_block upload) token
  next-token q (Ends how) token m e = absurd (none-some m e)

  -- the next message of an exchange waits at its endpoint
  continues : (e : Exchange) (progress : Progress) (n : Numbers) (S : State) (s : LinkState) → IsContinued e progress n S
      → lo ≤ S.issued → LinkIssued lo S.issued s → LinkIssued lo (S.issued + 1) (link_with t (Some (waits n.token n.text n.word)) s)
  continues e progress n S s it le h =
      let is = next-token it.request progress n.token it.message it.next in
      let bears : Bears lo (S.issued + 1) n.text =
      spelled-bears lo S.issued it.message n.text it.spelled (ap length is ∙ it.token_size) (ap token_number is ∙ it.number) le in
      let old = link-more lo S.issued (S.issued + 1) (omega arith) s h in record {
        out = old.out;
        waits = all-both (λ (w : Waiting). Bears lo (S.issued + 1) w.datagram) s.waiting (waits n.token n.text n.word ∷ []) old.waits (bears, tt);
      }

  more-issued : (x : Matter) (n : Numbers) (S : State) (s : LinkState) → ((e : Exchange) (progress : Progress) → goes_with x ≡ Some (e, progress) → IsContinued e progress n S)
      → lo ≤ S.issued → LinkIssued lo S.issued s → LinkIssued lo (issued_by x S.issued) (link_with t (more_by n x) s)
  more-issued Nothing n S s may le h = h
  more-issued (Tells r found) n S s may le h = h
  more-issued (Over e how) n S s may le h = h
  more-issued (Starts r e progress) n S s may le h = continues e progress n S s (may e progress refl) le h
  more-issued (Goes e progress) n S s may le h = continues e progress n S s (may e progress refl) le h

  hears-issue : (p : Peer) (d : List ℕ) (m : Content) (n : Numbers) (S : State)
      → ((e : Exchange) (progress : Progress) → goes_with (matter_of t p m (verdict_of t (link_of S.links p) m) S) ≡ Some (e, progress) → IsContinued e progress n S)
      → Issued lo S → Issued lo (hears t p d m n S)
  hears-issue p d m n S may h =
      one S (hears t p d m n S) (Hears p d) refl (issued-later x S.issued) tt
      (put (issued_by x S.issued) S.links p _ (more-issued x n S now may h.least heard-now)
      (λ q. link-more lo S.issued (issued_by x S.issued) (issued-later x S.issued) (link_of S.links q) (h.links q))) h
    where
      s : LinkState
      s = link_of S.links p

      v : Verdict
      v = verdict_of t s m

      x : Matter
      x = matter_of t p m v S

      now : LinkState
      now = heard_link t m.mid m.token (is_one_of (gone_by m S.entries x S.watches)) v s

      heard-now : LinkIssued lo S.issued now
      heard-now = record { out = λ o e. by v.ends o e; waits = (h.links p).waits }
        where
          by : (b : Bool) (o : Outstanding) → cond b None s.outstanding ≡ Some o → Bears lo S.issued o.datagram
          by true o e = absurd (none-some o e)
          by false o e = (h.links p).out o e

  -- the datagram, where it is taken in
  heard-issues : (p : Peer) (d : List ℕ) (n : Numbers) (S : State)
      → (is_some (link_of S.links p).last_mid && nat_le (length d) 2048 ≡ true → MayGoOn t p d n S) → Issued lo S → Issued lo (heard t p d n S)
  heard-issues p d n S may h = taken-in (is_some (link_of S.links p).last_mid && nat_le (length d) 2048) refl
    where
      nothing : (bs : List (List ℕ)) → AllByRecursion (λ (b : List ℕ). length b ≡ 4) bs → Issued lo (given_back t p bs (hears_nothing t p d S))
      nothing bs f = given-issue p bs (hears_nothing t p d S) f (one S (hears_nothing t p d S) (Hears p d) refl (omega arith) tt h.links h)

      new : (m : Content) (v : Verdict) → v ≡ verdict_of t (link_of S.links p) m
          → ((e : Exchange) (progress : Progress) → goes_with (matter_of t p m v S) ≡ Some (e, progress) → IsContinued e progress n S)
          → Issued lo (takes_new t p d m v n S)
      new m v is goes =
          let S1 = hears t p d m n S in
          let S2 = given_back t p (replies m.mid v.reply) S1 in
          let S3 = next t p S2 in
          let i1 : Issued lo S1 =
          hears-issue p d m n S (subst (λ (v : Verdict). (e : Exchange) (progress : Progress) → goes_with (matter_of t p m v S) ≡ Some (e, progress) → IsContinued e progress n S) is goes) h in
          let i2 : Issued lo S2 = given-issue p (replies m.mid v.reply) S1 (four m.mid v.reply) i1 in
          told-issue (told_for (length S.entries) (matter_of t p m v S) S.readers) S3 (next-issues p S2 i2)

      taken : (m : Content) (v : Verdict) (news : News) → v ≡ verdict_of t (link_of S.links p) m
          → ((e : Exchange) (progress : Progress) → goes_with (matter_of t p m v S) ≡ Some (e, progress) → IsContinued e progress n S)
          → Issued lo (takes_by t p d m v n news S)
      taken m v N.Lost is goes = h
      taken m v N.Quiet is goes = new m v is goes
      taken m v N.Response is goes = new m v is goes
      taken m v (N.Reset token) is goes = new m v is goes

      goes-on : (m : Content) → MayGoOn t p d n S → message_at d ≡ Ok m → repeats t (link_of S.links p) m ≡ false
          → (e : Exchange) (progress : Progress) → goes_with (matter_of t p m (verdict_of t (link_of S.links p) m) S) ≡ Some (e, progress) → IsContinued e progress n S
      goes-on m go reads fresh e progress is =
          go e progress (ap (λ (r : Result Content CodecFault). goes_as t p r S) reads
          ∙ (ap (λ (b : Bool). cond b None (goes_with (matter_of t p m (verdict_of t (link_of S.links p) m) S))) fresh ∙ is))

      message : (m : Content) (v : Verdict) → v ≡ verdict_of t (link_of S.links p) m → MayGoOn t p d n S → message_at d ≡ Ok m
          → (b : Bool) → repeats t (link_of S.links p) m ≡ b
          → Issued lo (cond b (given_back t p (replies m.mid v.reply) (hears_nothing t p d S)) (takes_by t p d m v n v.news S))
      message m v is go reads true again = nothing (replies m.mid v.reply) (four m.mid v.reply)
      message m v is go reads false fresh =
          taken m v v.news is
          (subst (λ (v : Verdict). (e : Exchange) (progress : Progress) → goes_with (matter_of t p m v S) ≡ Some (e, progress) → IsContinued e progress n S) (sym is) (goes-on m go reads fresh))

      reset : (o : Option ℕ) → AllByRecursion (λ (b : List ℕ). length b ≡ 4) (resets o)
      reset None = tt
      reset (Some mid) = (refl, tt)

      read : (r : Result Content CodecFault) → message_at d ≡ r → MayGoOn t p d n S → Issued lo (reads_so t p d n r S)
      read (Ok m) reads go = message m (verdict_of t (link_of S.links p) m) refl go reads (repeats t (link_of S.links p) m) refl
      read (Err e) reads go = nothing (resets (reset_for d)) (reset (reset_for d))

      taken-in : (b : Bool) → is_some (link_of S.links p).last_mid && nat_le (length d) 2048 ≡ b → Issued lo (cond b (reads_so t p d n (message_at d) S) S)
      taken-in true is = read (message_at d) refl (may is)
      taken-in false is = h

  -- ---- a tick

  passed-issue : (S : State) (hi : ℕ) (xs : List PeerLink) (q : Peer) → LinkIssued lo hi (link_of xs q) → LinkIssued lo hi (link_of (map (passed t S) xs) q)
  passed-issue S hi [] q h = h
  passed-issue S hi (x ∷ xs) q h = by (same_peer x.peer q) h (λ k. passed-issue S hi xs q k)
    where
      left : (s : LinkState) (gone : List ℕ → Bool) → LinkIssued lo hi s → LinkIssued lo hi (passed_link t gone s)
      left s gone k = record {
        out = λ o e. lets (is_over t s.outstanding) o e;
        waits = all-filter (λ (w : Waiting). Bears lo hi w.datagram) (λ (w : Waiting). not (gone w.token)) s.waiting k.waits;
      }
        where
          lets : (b : Bool) (o : Outstanding) → cond b None s.outstanding ≡ Some o → Bears lo hi o.datagram
          lets true o e = absurd (none-some o e)
          lets false o e = k.out o e

      by : (b : Bool) → LinkIssued lo hi (cond b x.link (link_of xs q)) → (LinkIssued lo hi (link_of xs q) → LinkIssued lo hi (link_of (map (passed t S) xs) q))
          → LinkIssued lo hi (cond b (passed t S x).link (link_of (map (passed t S) xs) q))
      by true k others = left x.link _ k
      by false k others = others k

  passes-issue : (S : State) → Issued lo S → Issued lo (passes t S)
  passes-issue S h = one S (passes t S) Passes refl (omega arith) tt (λ p. passed-issue S S.issued S.links p (h.links p)) h

  late-issue : (S : State) → Issued lo S → Issued lo (late t S)
  late-issue S h = told-issue (told_late (filter (is_past t) S.exchanges) S.readers) S h

  moves-issue : (S : State) (p : Peer) → Issued lo S → Issued lo (moves t S p)
  moves-issue S p h = by (link_of S.links p).outstanding refl
    where
      by : (v : Option Outstanding) → (link_of S.links p).outstanding ≡ v → Issued lo (moves_by t p v S)
      by None e = next-issues p S h
      by (Some o) e =
          let sent = (h.links p).out o e in
          either (is_due t (Some o)) (sends_copy t p o S) S
          (one S (sends_copy t p o S) (Sends p o.datagram None) refl (omega arith) (inr sent)
          (put S.issued S.links p _ (record {
            out = λ u f. subst (λ (u : Outstanding). Bears lo S.issued u.datagram) (some-is _ u f) sent;
            waits = (h.links p).waits;
          }) h.links) h) h

  all-move : (ps : List Peer) (S : State) → Issued lo S → Issued lo (fold (moves t) S ps)
  all-move [] S h = h
  all-move (p ∷ ps) S h = all-move ps (moves t S p) (moves-issue S p h)

  ticked-issues : (S : State) → Issued lo S → Issued lo (ticked t S)
  ticked-issues S h =
      let S1 = passes t S in
      let S2 = move_all t S1 in
      either (something_due t S) (fold (tells t) S2 (told_late (timed_out t S) S.readers)) S
      (told-issue (told_late (timed_out t S) S.readers) S2 (all-move (map peer_of S1.links) S1 (passes-issue S h))) h

  -- ---- all calls

  pub opens-issue : (S : State) → Issued lo S → Issued lo (opens_in_room t S)
  opens-issue S h = unsealed S (opens t S) h (one S (opens t S) (Opens S.opened) refl (omega arith) tt h.links h)

  pub shuts-issue : (c : ℕ) (S : State) → Issued lo S → Issued lo (shuts t c S)
  shuts-issue c S h = one S (shuts t c S) (Shuts c) refl (omega arith) tt h.links h

  pub asks-issue : (c : ℕ) (a : Ask) (n : Numbers) (S : State) → IsSpelled t a n S → length n.token ≡ 8 → token_number n.token ≡ S.issued
      → Issued lo S → Issued lo (asks_in_room t c a n S)
  asks-issue c a n S spelled size number h = unsealed S (asked t c a n S) h (asked-issues c a n S spelled size number h)

  pub hears-in-room-issue : (p : Peer) (d : List ℕ) (n : Numbers) (S : State)
      → (S.sealed ≡ false → is_some (link_of S.links p).last_mid && nat_le (length d) 2048 ≡ true → MayGoOn t p d n S)
      → Issued lo S → Issued lo (hears_in_room t p d n S)
  hears-in-room-issue p d n S may h = by S.sealed refl
    where
      by : (b : Bool) → S.sealed ≡ b → Issued lo (cond b S (in_room t (heard t p d n S) S))
      by true is = h
      by false is = in-room S (heard t p d n S) h (heard-issues p d n S (may is) h)

  pub ticks-issue : (S : State) → Issued lo S → Issued lo (ticks_in_room t S)
  ticks-issue S h =
      either S.sealed (late t S) _ (late-issue S h)
      (either (fits (ticked t S)) (ticked t S) (late t (seals t S)) (ticked-issues S h) (late-issue (seals t S) (seals-issue S h)))
