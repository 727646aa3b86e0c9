-- The moment of a core's last entry after a call: that before it, or that of the call.
use Rattle.std.proofs.Common.{◌≡◌, ◌⊎◌, inl, inr, ℕ, Bool, true, false, cond, List, [], ◌∷◌, length, Option, Some, None, Result, Ok, Err, refl, ◌∙◌}
use Rattle.std.specs.Prelude.{◌&&◌, fold, filter, map, is_some, nat_le}
use Rattle.coap_codec.specs.Spelling.{Content}
use Rattle.coap_codec.specs.Reading.{message_at}
use Rattle.coap_codec.specs.declared.fault.CodecFault.{CodecFault}
use Rattle.uri_map.specs.declared.peer.Peer.{Peer}
use Rattle.message_layer.specs.Hearing.{replies, reset_for, verdict_of}
use Rattle.message_layer.specs.declared.state.Outstanding.{Outstanding}
use Rattle.message_layer.specs.declared.state.Waiting.{Waiting}
use Rattle.message_layer.specs.declared.verdict.News.{News}
use Rattle.message_layer.specs.declared.verdict.News.TheVariants as N
use Rattle.message_layer.specs.declared.verdict.Verdict.{Verdict}
use Rattle.resp_cache.specs.Stored.{Stored}
use Rattle.ask_model.specs.Requests.{CoapRequest, Sense, Requests, Refuses}
use Rattle.ask_model.specs.Views.{Ask}
use Rattle.ask_model.specs.declared.cause.Cause.{Cause}
use Rattle.ask_model.specs.declared.cause.Cause.TheVariants as C
use Rattle.exchange_model.specs.Calls.{served_in, asked_for, joined, asked_with, next_by, next, refused, has_place, asked_by, asked, given_back, Telling, tells, told_for, told_late, takes_new, takes_by, repeats, resets, reads_so, heard, is_due, moves_by, moves, move_all, peer_of, something_due, ticked}
use Rattle.exchange_model.specs.Room.{fits}
use Rattle.exchange_model.specs.Sealing.{in_room, if_unsealed, opens_in_room, asks_in_room, hears_in_room, late, ticks_in_room}
use Rattle.exchange_model.specs.State.{State, link_of}
use Rattle.exchange_model.specs.Steps.{confirms, opens, shuts, seals, begins, hears_nothing, sends_copy}
use Rattle.exchange_model.specs.Matters.{matter_of}
use Rattle.exchange_model.specs.Hearing.{Numbers, hears, is_past, passes, timed_out}
use Rattle.exchange_model.specs.declared.kept.Exchange.{Exchange}

abbrev pub Counts : ℕ → State → State → Type 0
Counts t S S1 = (S1.moment ≡ S.moment) ⊎ (S1.moment ≡ t)

module _ (t : ℕ) where
  stays : (S : State) → Counts t S S
  stays S = inl refl

  both : (S S1 S2 : State) → Counts t S S1 → Counts t S1 S2 → Counts t S S2
  both S S1 S2 a (inr e) = inr e
  both S S1 S2 (inl d) (inl e) = inl (e ∙ d)
  both S S1 S2 (inr d) (inl e) = inr (e ∙ d)

  either : (b : Bool) (S S1 S2 : State) → Counts t S S1 → Counts t S S2 → Counts t S (cond b S1 S2)
  either true S S1 S2 x y = x
  either false S S1 S2 x y = y

  all-fold : {X : Type 0} (f : State → X → State) → ((S : State) (x : X) → Counts t S (f S x)) → (xs : List X) (S : State)
      → Counts t S (fold f S xs)
  all-fold f step [] S = stays S
  all-fold f step (x ∷ xs) S = both S (f S x) (fold f (f S x) xs) (step S x) (all-fold f step xs (f S x))

  in-room : (S S1 : State) → Counts t S S1 → Counts t S (in_room t S1 S)
  in-room S S1 x = either (fits S1) S S1 (seals t S) x (inr refl)

  unsealed : (S S1 : State) → Counts t S S1 → Counts t S (if_unsealed t S1 S)
  unsealed S S1 x = either S.sealed S S (in_room t S1 S) (stays S) (in-room S S1 x)

  next-counts : (p : Peer) (S : State) → Counts t S (next t p S)
  next-counts p S = by (link_of S.links p).outstanding (link_of S.links p).waiting
    where
      by : (v : Option Outstanding) (ws : List Waiting) → Counts t S (next_by t p v ws S)
      by None [] = stays S
      by (Some o) ws = stays S
      by None (w ∷ ws) = inr refl

  given-counts : (p : Peer) (bs : List (List ℕ)) (S : State) → Counts t S (given_back t p bs S)
  given-counts p [] S = stays S
  given-counts p (b ∷ bs) S =
      both S (confirms t p b S) (given_back t p (b ∷ bs) S) (inr refl) (given-counts p bs (confirms t p b S))

  moves-counts : (S : State) (p : Peer) → Counts t S (moves t S p)
  moves-counts S p = by (link_of S.links p).outstanding
    where
      by : (v : Option Outstanding) → Counts t S (moves_by t p v S)
      by None = next-counts p S
      by (Some o) = either (is_due t (Some o)) S (sends_copy t p o S) S (inr refl) (stays S)

  told-counts : (xs : List Telling) (S : State) → Counts t S (fold (tells t) S xs)
  told-counts xs S = all-fold (tells t) (λ S x. inr refl) xs S

  -- ---- an ask

  refused-counts : (c : ℕ) (a : Ask) (cause : Cause) (S : State) → Counts t S (refused t c a cause S)
  refused-counts c a cause S = inr refl

  asked-counts : (c : ℕ) (a : Ask) (n : Numbers) (S : State) → Counts t S (asked t c a n S)
  asked-counts c a n S = sense a.sense
    where
      begun : (q : CoapRequest) → Counts t S (next t q.peer (begins t c a q n.token n.text n.word S))
      begun q =
          let S1 = begins t c a q n.token n.text n.word S in
          both S S1 (next t q.peer S1) (inr refl) (next-counts q.peer S1)

      sense : (s : Sense) → Counts t S (asked_by s t c a n S)
      sense (Refuses cause status) = refused-counts c a cause S
      sense (Requests q) = for (served_in q t S)
        where
          with : (v : Option Exchange) → Counts t S (asked_with v t c a q n S)
          with (Some e) = inr refl
          with None = either (has_place t q.peer S) S (next t q.peer (begins t c a q n.token n.text n.word S)) (refused t c a C.Busy S)
              (begun q) (refused-counts c a C.Busy S)

          for : (v : Option Stored) → Counts t S (asked_for v t c a q n S)
          for (Some s) = inr refl
          for None = with (joined q S)

  -- ---- a datagram

  heard-counts : (p : Peer) (d : List ℕ) (n : Numbers) (S : State) → Counts t S (heard t p d n S)
  heard-counts p d n S =
      either (is_some (link_of S.links p).last_mid && nat_le (length d) 2048) S (reads_so t p d n (message_at d) S) S (read (message_at d)) (stays S)
    where
      nothing : (bs : List (List ℕ)) → Counts t S (given_back t p bs (hears_nothing t p d S))
      nothing bs =
          both S (hears_nothing t p d S) (given_back t p bs (hears_nothing t p d S)) (inr refl) (given-counts p bs (hears_nothing t p d S))

      new : (m : Content) (v : Verdict) → Counts t S (takes_new t p d m v n S)
      new m v =
          let S1 = hears t p d m n S in
          let S2 = given_back t p (replies m.mid v.reply) S1 in
          let S3 = next t p S2 in
          both S S3 (takes_new t p d m v n S)
          (both S S2 S3 (both S S1 S2 (inr refl) (given-counts p (replies m.mid v.reply) S1)) (next-counts p S2))
          (told-counts (told_for (length S.entries) (matter_of t p m v S) S.readers) S3)

      taken : (m : Content) (v : Verdict) (news : News) → Counts t S (takes_by t p d m v n news S)
      taken m v N.Lost = stays S
      taken m v N.Quiet = new m v
      taken m v N.Response = new m v
      taken m v (N.Reset token) = new m v

      message : (m : Content) (v : Verdict)
          → Counts t S
          (cond (repeats t (link_of S.links p) m) (given_back t p (replies m.mid v.reply) (hears_nothing t p d S)) (takes_by t p d m v n v.news S))
      message m v = either (repeats t (link_of S.links p) m) S _ _ (nothing (replies m.mid v.reply)) (taken m v v.news)

      read : (r : Result Content CodecFault) → Counts t S (reads_so t p d n r S)
      read (Ok m) = message m (verdict_of t (link_of S.links p) m)
      read (Err e) = nothing (resets (reset_for d))

  -- ---- a tick

  late-counts : (S : State) → Counts t S (late t S)
  late-counts S = told-counts (told_late (filter (is_past t) S.exchanges) S.readers) S

  ticked-counts : (S : State) → Counts t S (ticked t S)
  ticked-counts S =
      let S1 = passes t S in
      let S2 = move_all t S1 in
      either (something_due t S) S (fold (tells t) S2 (told_late (timed_out t S) S.readers)) S
      (both S S2 (fold (tells t) S2 (told_late (timed_out t S) S.readers))
      (both S S1 S2 (inr refl) (all-fold (moves t) moves-counts (map peer_of S1.links) S1))
      (told-counts (told_late (timed_out t S) S.readers) S2)) (stays S)

  -- ---- all calls

  pub opens-count : (S : State) → Counts t S (opens_in_room t S)
  opens-count S = unsealed S (opens t S) (inr refl)

  pub shuts-count : (c : ℕ) (S : State) → Counts t S (shuts t c S)
  shuts-count c S = inr refl

  pub asks-count : (c : ℕ) (a : Ask) (n : Numbers) (S : State) → Counts t S (asks_in_room t c a n S)
  asks-count c a n S = unsealed S (asked t c a n S) (asked-counts c a n S)

  pub hears-count : (p : Peer) (d : List ℕ) (n : Numbers) (S : State) → Counts t S (hears_in_room t p d n S)
  hears-count p d n S = unsealed S (heard t p d n S) (heard-counts p d n S)

  pub ticks-count : (S : State) → Counts t S (ticks_in_room t S)
  ticks-count S =
      either S.sealed S (late t S) _ (late-counts S)
      (either (fits (ticked t S)) S (ticked t S) (late t (seals t S)) (ticked-counts S)
      (both S (seals t S) (late t (seals t S)) (inr refl) (late-counts (seals t S))))
