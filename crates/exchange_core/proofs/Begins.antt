-- An ask that begins an exchange leaves what the step says.
use Rattle.std.proofs.Common.{◌≡◌, ℕ, ◌+◌, ◌≤◌, ◌<◌, Bool, true, false, cond, List, [], ◌∷◌, ◌++◌, length, Option, Some, None, Ok, Err, refl, sym, ap, subst, ◌∙◌, arith, append-nil}
use Rattle.std.specs.Prelude.{option_map, is_some, nat_lt, not, sum_by, ◌&&◌}
use Rattle.std.proofs.lemmas.Bool.{lt-ltb}
use Rattle.coap_codec.specs.Spelling.{Spells}
use Rattle.uri_map.specs.declared.peer.Peer.{Peer}
use Rattle.ask_model.specs.Requests.{CoapRequest, Manner, Sense, Requests, Refuses, opening_message}
use Rattle.observe_share.specs.Watches.{without}
use Rattle.ask_model.specs.Observing.{is_named}
use Rattle.ask_model.specs.Sharing.{asked_key, is_get}
use Rattle.cache_key.specs.Keys.{CacheKey}
use Rattle.resp_cache.specs.Stored.{Stored}
use Rattle.resp_cache.specs.Stores.{stale_under}
use Rattle.resp_cache.specs.declared.pair.Pair.{Pair}
use Rattle.history_laws.specs.Observing.{manner_by, tag_of}
use Rattle.ask_model.specs.Views.{Ask, Mapping}
use Rattle.ask_model.specs.Sizes.{capped}
use Rattle.ask_model.specs.Datagrams.{asked_peer}
use Rattle.journal_book.specs.Entries.{Deed, Asks, Seals, Written, entry_size}
use Rattle.journal_book.specs.Views.{ask_of}
use Rattle.message_layer.specs.Sending.{waits, IsNext, HasPlace, mids_in_use, submitted}
use Rattle.message_layer.specs.Prepared.{at_once as next_list}
use Rattle.message_layer.specs.declared.prepared.FirstSending.{FirstSending}
use Rattle.message_layer.specs.declared.prepared.Submission.{Submission}
use Rattle.message_layer.specs.declared.state.Outstanding.{Outstanding}
use Rattle.message_layer.specs.declared.state.Waiting.{Waiting}
use Rattle.message_layer.specs.Values.{LinkState}
use Rattle.exchange_model.specs.declared.kept.Exchange.{Exchange}
use Rattle.exchange_model.specs.declared.kept.Reader.{Reader}
use Rattle.exchange_model.specs.State.{PeerLink, State, link_of, with_link}
use Rattle.exchange_model.specs.Steps.{as_pieces, asks_so, entered, given_out, if_tagged, kept_for, seals, stale_for as kept_as}
use Rattle.exchange_model.specs.Hearing.{Numbers}
use Rattle.exchange_model.specs.Calls.{asked, has_place}
use Rattle.exchange_model.specs.Keeping.{IsProper, IsNumbered}
use Rattle.exchange_model.specs.Room.{fits, KeptInRoom}
use Rattle.exchange_model.specs.Watching.{is_renewed_by, tokens_of, wants}
use Rattle.exchange_model.specs.Sealing.{asks_in_room}
use Rattle.exchange_model.specs.Entering.{entered_all, at_once, awaits_no_more, begin_deeds, begun, begun_exchange, first_deeds, IsDrained}
use Rattle.exchange_model.proofs.CallerLemmas.{asks-in-room, begins-enter, stays-drained}
use Rattle.exchange_core.specs.Answering.{Given}
use Rattle.exchange_core.specs.Renewing.{stale_for, stale_read}
use Rattle.exchange_core.specs.Wording.{IsRequest, asks_for, keeps_for, wants_for}
use Rattle.exchange_core.specs.Beginning.{exchange_by, reader_by, with_exchange, numbers_of, MayBegin, IsBegunBy}
use Rattle.exchange_core.specs.Sending.{IsTimed, sent_first}
use Rattle.exchange_core.specs.declared.fault.AskFault.TheVariants as Ask
use Rattle.exchange_core.specs.Calls.{IsSpelled}
use Rattle.exchange_core.proofs.Recalls.{alone-by}
use Rattle.exchange_core.specs.Drafts.{DraftValue, Drafts, empty_draft, draft_with}
use Rattle.exchange_core.specs.Sound.{SoundState}
use Rattle.exchange_core.specs.States.{with_draft, core_of}
use Rattle.exchange_core.specs.Values.{Outgoing, written, stepped}
use Rattle.exchange_core.specs.Watching.{may_watch, observed_by}
use Rattle.exchange_core.proofs.BeginLinks.{LinkTakes}
use Rattle.exchange_core.proofs.Drafting.{answers-none, drafts-none, drafts-alone}
use Rattle.exchange_core.proofs.Sounding.{first-of, second-of, sound-drafted, sound-seal}
use Rattle.exchange_core.proofs.Stepping.{with-draft, committed}

-- what goes out at once

goes-at-once : (t n : ℕ) (p : Peer) (last : Option ℕ) (w : Waiting) (v : Option Outstanding)
    (sent : Option FirstSending) → IsNext t last (next_list w v) sent
    → (sent_first p sent ≡ first_deeds t p last (at_once w v))
    × (option_map (λ (x : FirstSending). n + 1) sent ≡ option_map (λ (x : Waiting). n + 1) (at_once w v))
    × (is_some sent ≡ is_some (at_once w v))
goes-at-once t n p last w None None next = absurd next
goes-at-once t n p last w None (Some x) next = (rw (next.1, next.0) refl, refl, refl)
goes-at-once t n p last w (Some o) None next = (refl, refl, refl)
goes-at-once t n p last w (Some o) (Some x) next = absurd next

timely-by : (t : ℕ) (last : Option ℕ) (w : Waiting) (v : Option Outstanding)
    (sent : Option FirstSending) → w.timeout ≤ 3000 → IsNext t last (next_list w v) sent → IsTimed sent
timely-by t last w v None short next = tt
timely-by t last w None (Some x) short next = rw (next.0) (omega (arith, short))
timely-by t last w (Some o) (Some x) short next = absurd next

pub timely : (t : ℕ) (p : Peer) (xs : List PeerLink) (x : Submission) → LinkTakes t p xs x → IsTimed x.sent
timely t p xs x k =
    timely-by t k.link.state.last_mid x.waiting k.link.state.outstanding x.sent k.may.sound.short k.may.sent

pub sent-next : (t : ℕ) (p : Peer) (xs : List PeerLink) (x : Submission) (w : Waiting) → LinkTakes t p xs x → x.waiting ≡ w
    → IsNext t (link_of xs p).last_mid (next_list w (link_of xs p).outstanding) x.sent
sent-next t p xs x w k same =
    subst (λ (u : Waiting). IsNext t (link_of xs p).last_mid (next_list u (link_of xs p).outstanding) x.sent) same
    (subst (λ (s : LinkState). IsNext t s.last_mid (next_list x.waiting s.outstanding) x.sent) k.is k.may.sent)

-- a place

all-three : (a b c : Bool) → a ≡ true → b ≡ true → c ≡ true → (a && (b && c)) ≡ true
all-three a b c e f g = rw (e, f, g) refl

pub has-place : (t : ℕ) (p : Peer) (S : State) → length S.exchanges < 256
    → HasPlace t (link_of S.links p) → has_place t p S ≡ true
has-place t p S few h =
    all-three _ _ _ (lt-ltb (length S.exchanges) 256 few) (lt-ltb (length (link_of S.links p).waiting) 64 h.0)
    (lt-ltb (mids_in_use t (link_of S.links p)) 32768 h.1)

-- the request

request-of : (q r : CoapRequest) → Requests q ≡ Requests r → q ≡ r
request-of q r e = cc

peer-same : (q : CoapRequest) (p : Peer) → Some q.peer ≡ Some p → q.peer ≡ p
peer-same q p e = cc

pub is-request : (s : Sense) (p : Peer) → asked_peer s ≡ Some p → IsRequest s
is-request (Requests q) p e = tt
is-request (Refuses cause status) p e = absurd cc

-- which of three states it is
room-taken : (b c : Bool) (x y z : State) → b ≡ false → c ≡ true → cond b x (cond c y z) ≡ y
room-taken b c x y z e f = rw (e, f) refl

room-sealed : (b c : Bool) (x y z : State) → b ≡ false → c ≡ false → cond b x (cond c y z) ≡ z
room-sealed b c x y z e f = rw (e, f) refl

-- what goes out leaves those who wait
first-readers : (t : ℕ) (p : Peer) (last : Option ℕ) (v : Option Waiting) (S : State)
    → (entered_all t (first_deeds t p last v) S).readers ≡ S.readers
first-readers t p last None S = refl
first-readers t p last (Some x) S = refl

-- A test that is made twice counts once.
get-once : (g n k : Bool) → ((g && n) && (g && k)) ≡ ((g && k) && n)
get-once false n k = refl
get-once true true true = refl
get-once true true false = refl
get-once true false true = refl
get-once true false false = refl

-- What it keeps is looked for where it is a GET that doesn't ask to observe.
keeps-by : (g w : Bool) (k : CacheKey) (t : ℕ) (ws : List Written) (ps : List Pair)
    → cond w None (option_map (as_pieces ws) (stale_read (cond g (Some k) None) t ps))
    ≡ cond (g && not w) (option_map (as_pieces ws) (if_tagged (stale_under k t ps))) None
keeps-by true true k t ws ps = refl
keeps-by true false k t ws ps = refl
keeps-by false true k t ws ps = refl
keeps-by false false k t ws ps = refl

module _ (t word c : ℕ) (m : Mapping) (p : Peer) (token text : List ℕ) (S : State) where
  abbrev a : Ask
  a = ask_of m

  abbrev n : Numbers
  n = numbers_of token text word

  abbrev w : Waiting
  w = waits token text word

  -- what its first message asks for
  asks-to : (q : CoapRequest) → m.sense ≡ Requests q → wants_for m S.watches ≡ wants a q S.watches
  asks-to q e =
      ap (λ (s : Sense). may_watch s S.watches && observed_by m.rules s) e
      ∙ get-once (is_get q) (nat_lt (length (without (is_renewed_by q) S.watches)) 64) (is_named m.rules.observed q.target.host)

  -- what it keeps
  keeps-to : (q : CoapRequest) → m.sense ≡ Requests q → keeps_for t m S ≡ kept_for t a q S
  keeps-to q e =
      ap (λ (b : Bool). cond b None (stale_for m.sense t S.entries S.store)) (asks-to q e)
      ∙ (ap (λ (s : Sense). cond (wants a q S.watches) None (stale_for s t S.entries S.store)) e
      ∙ keeps-by (is_get q) (wants a q S.watches) (asked_key q) t S.entries S.store)

  manner-to : (q : CoapRequest) → m.sense ≡ Requests q → asks_for t m S ≡ asks_so t a q S
  manner-to q e =
      ap (λ (s : Option Stored). manner_by (tag_of s []) (wants_for m S.watches)) (keeps-to q e)
      ∙ ap (manner_by (tag_of (kept_for t a q S) [])) (asks-to q e)

  spelled-by : (b : MayBegin t word c m p token text S) → Spells (opening_message (asks_so t a b.spelled.request S) b.spelled.request 0 token) text
  spelled-by b = subst (λ (v : Manner). Spells (opening_message v b.spelled.request 0 token) text) (manner-to b.spelled.request b.spelled.is) b.spelled.spelled

  asked-is : (bytes room : ℕ) (gs : List Given) → SoundState S bytes room gs
      → (b : MayBegin t word c m p token text S)
      → asked t c a n S ≡ begun t c a b.spelled.request n S
  asked-is bytes room gs s b =
      let q = b.spelled.request in
      let same : q.peer ≡ p = peer-same q p (ap asked_peer (sym b.spelled.is) ∙ b.peer) in
      begins-enter t c a q n S
      (record { kept = s.kept.kept; unsealed = b.unsealed; later = b.later }) s.drained
      (record { short = b.spelled.body; spelled = spelled-by b; token_size = b.worded.token_size; number = b.worded.number })
      b.spelled.is (alone-by t m.sense q S b.spelled.is b.unserved b.alone) (subst (λ (z : Peer). has_place t z S ≡ true) (sym same) b.place)

  in-room : (bytes room : ℕ) (gs : List Given) → SoundState S bytes room gs
      → MayBegin t word c m p token text S → KeptInRoom (asks_in_room t c a n S)
  in-room bytes room gs s b =
      let q = b.spelled.request in
      let numbered : IsNumbered t a q n S = record { short = b.spelled.body; spelled = spelled-by b; token_size = b.worded.token_size; number = b.worded.number } in
      asks-in-room t c a n S s.kept b.later b.idle (subst IsProper (sym b.spelled.is) tt)
      (λ r e j h. subst (λ (z : CoapRequest). IsNumbered t a z n S) (request-of q r (sym b.spelled.is ∙ e)) numbered)
      (record { request = b.small; message = b.spelled.short })

  spelled-so : MayBegin t word c m p token text S → IsSpelled t a n S
  spelled-so b = λ r e j h. subst (λ (z : CoapRequest). Spells (opening_message (asks_so t a z S) z 0 token) text) (request-of b.spelled.request r (sym b.spelled.is ∙ e)) (spelled-by b)

  module _ (sent : Option FirstSending) (d : DraftValue) where
    abbrev ds : List Deed
    ds = Asks c a ∷ sent_first p sent

    abbrev S1 : State
    S1 = with_exchange t m.sense (exchange_by t token p m.sense (wants_for m S.watches) sent (length S.entries)) (reader_by c (length S.entries)) (keeps_for t m S) w (with_draft t d S)

    begun-at : (q : CoapRequest) (o : Bool) (f : Option Stored) → o ≡ wants a q S.watches → f ≡ kept_for t a q S → Drafts t S (Asks c a ∷ sent_first q.peer sent) d
        → IsNext t (link_of S.links q.peer).last_mid (next_list w (link_of S.links q.peer).outstanding) sent
        → with_exchange t (Requests q) (exchange_by t token q.peer (Requests q) o sent (length S.entries)) (reader_by c (length S.entries)) f w (with_draft t d S) ≡ begun t c a q n S
    begun-at q o f asks keeps h next =
        let s = link_of S.links q.peer in
        let both = goes-at-once t (length S.entries) q.peer s.last_mid w s.outstanding sent next in
        let links = with_link q.peer (given_out (awaits_no_more (tokens_of (is_renewed_by q) S.watches) (submitted t w s))) S.links in
        let rest = without (is_renewed_by q) S.watches in
        let draft : with_draft t d S ≡ entered_all t (begin_deeds t c a q n S) S =
        with-draft t S (Asks c a) (sent_first q.peer sent) d h ∙ ap (λ (xs : List Deed). entered_all t (Asks c a ∷ xs) S) both.0 in
        let e = exchange_by t token q.peer (Requests q) o sent (length S.entries) in
        let r = reader_by c (length S.entries) in
        let rs : (entered_all t (begin_deeds t c a q n S) S).readers ≡ S.readers = first-readers t q.peer s.last_mid (at_once w s.outstanding) (entered t (Asks c a) S) in
        let out = at_once w s.outstanding in
        let ex : e ≡ begun_exchange t a q n S =
        ap (λ (v : Option ℕ). record e { sending = v }) both.1
        ∙ ap (λ (b : Bool). record e { sending = option_map (λ (x : Waiting). length S.entries + 1) out; awaits = b }) both.2
        ∙ ap (λ (b : Bool). record e { sending = option_map (λ (x : Waiting). length S.entries + 1) out; awaits = is_some out; observes = b }) asks in
        ap (λ (U : State). record U { issued = S.issued + 1; exchanges = S.exchanges ++ e ∷ []; stales = S.stales ++ kept_as (length S.entries) f; readers = U.readers ++ r ∷ []; watches = rest; links = links }) draft
        ∙ ap (λ (qs : List Reader). record (entered_all t (begin_deeds t c a q n S) S) { issued = S.issued + 1; exchanges = S.exchanges ++ e ∷ []; stales = S.stales ++ kept_as (length S.entries) f; readers = qs ++ r ∷ []; watches = rest; links = links }) rs
        ∙ ap (λ (x : Exchange). record (entered_all t (begin_deeds t c a q n S) S) { issued = S.issued + 1; exchanges = S.exchanges ++ x ∷ []; stales = S.stales ++ kept_as (length S.entries) f; readers = S.readers ++ r ∷ []; watches = rest; links = links }) ex
        ∙ ap (λ (v : Option Stored). record (entered_all t (begin_deeds t c a q n S) S) { issued = S.issued + 1; exchanges = S.exchanges ++ begun_exchange t a q n S ∷ []; stales = S.stales ++ kept_as (length S.entries) v; readers = S.readers ++ r ∷ []; watches = rest; links = links }) keeps

    begun-is : (b : MayBegin t word c m p token text S) → Drafts t S ds d
        → IsNext t (link_of S.links p).last_mid (next_list w (link_of S.links p).outstanding) sent
        → S1 ≡ begun t c a b.spelled.request n S
    begun-is b h next =
        let q = b.spelled.request in
        let same : q.peer ≡ p = peer-same q p (ap asked_peer (sym b.spelled.is) ∙ b.peer) in
        let sense : Requests q ≡ m.sense = sym b.spelled.is in
        subst (λ (z : Peer). Drafts t S (Asks c a ∷ sent_first z sent) d
        → IsNext t (link_of S.links z).last_mid (next_list w (link_of S.links z).outstanding) sent
        → with_exchange t m.sense (exchange_by t token z m.sense (wants_for m S.watches) sent (length S.entries)) (reader_by c (length S.entries)) (keeps_for t m S) w (with_draft t d S) ≡ begun t c a q n S)
        same (subst (λ (k : Sense). Drafts t S (Asks c a ∷ sent_first q.peer sent) d
        → IsNext t (link_of S.links q.peer).last_mid (next_list w (link_of S.links q.peer).outstanding) sent
        → with_exchange t k (exchange_by t token q.peer k (wants_for m S.watches) sent (length S.entries)) (reader_by c (length S.entries)) (keeps_for t m S) w (with_draft t d S) ≡ begun t c a q n S)
        sense (begun-at q (wants_for m S.watches) (keeps_for t m S) (asks-to q b.spelled.is) (keeps-to q b.spelled.is))) h next

    module _ (bytes room : ℕ) (gs : List Given) (os : List Outgoing) (s : SoundState S bytes room gs)
        (b : MayBegin t word c m p token text S) (h : Drafts t S ds d)
        (next : IsNext t (link_of S.links p).last_mid (next_list w (link_of S.links p).outstanding) sent)
        (none : d.answers ≡ []) where
      is : S1 ≡ asked t c a n S
      is = begun-is b h next ∙ sym (asked-is bytes room gs s b)

      fit-same : fits (asked t c a n S) ≡ fits (with_draft t d S)
      fit-same = ap fits (sym is)

      rests : KeptInRoom (cond S.sealed S (cond (fits (asked t c a n S)) (asked t c a n S) (seals t S)))
      rests = in-room bytes room gs s b

      pub sound-begun : (S2 : State) (bytes1 room1 : ℕ) (gs1 : List Given) → fits (with_draft t d S) ≡ true → S2 ≡ S1
          → bytes1 ≡ capped (bytes + capped (sum_by entry_size d.entries)) → length S.conns + 1 ≤ room1 → gs1 ≡ gs ++ d.answers
          → SoundState S2 bytes1 room1 gs1
      sound-begun S2 bytes1 room1 gs1 fit at bs rs gave =
          let kept : KeptInRoom (asked t c a n S) =
          first-of (fits (asked t c a n S)) (asked t c a n S) (seals t S) (fit-same ∙ fit)
          (second-of S.sealed S (cond (fits (asked t c a n S)) (asked t c a n S) (seals t S)) b.unsealed rests) in
          let drained : IsDrained S1 = subst IsDrained (sym (begun-is b h next)) ((stays-drained t S s.drained).0 c a b.spelled.request n) in
          subst (λ (U : State). SoundState U bytes1 room1 gs1) (sym at)
          (sound-drafted t S S1 bytes bytes1 room room1 gs gs1 ds d s (answers-none t S ds d h none) refl refl b.early refl
          (subst KeptInRoom (sym is) kept) drained bs rs gave)

      pub begun-so : (S2 : State) (gs1 : List Given) (os1 : List Outgoing) → fits (with_draft t d S) ≡ true → S2 ≡ S1
          → gs1 ≡ gs ++ d.answers → os1 ≡ os ++ d.sends
          → IsBegunBy (Ok (length S.entries)) t word c m (core_of S gs os) (core_of S2 gs1 os1)
      begun-so S2 gs1 os1 fit at gave sends =
          let whole : core_of S1 gs1 os1 ≡ stepped S1 (core_of S gs os) =
          committed t S S1 ds d gs gs1 os os1 h refl gave sends in
          let room-is : asks_in_room t c a n S ≡ S1 =
          room-taken S.sealed (fits (asked t c a n S)) S (asked t c a n S) (seals t S) b.unsealed (fit-same ∙ fit) ∙ sym is in
          subst (λ (U : State). IsBegunBy (Ok (length S.entries)) t word c m (core_of S gs os) (core_of U gs1 os1)) (sym at) (
            refl,
            b.unsealed,
            record {
              numbers = n;
              worded = b.worded;
              spelled = spelled-so b;
              idle = b.idle;
              is = whole ∙ ap (λ (U : State). stepped U (core_of S gs os)) (sym room-is);
            },
          )

      pub sound-sealed : (S2 : State) (bytes1 room1 : ℕ) (gs1 : List Given) → fits (with_draft t d S) ≡ false → S2 ≡ seals t S
          → bytes1 ≡ capped (bytes + 64) → room1 + 1 ≡ room → gs1 ≡ gs → SoundState S2 bytes1 room1 gs1
      sound-sealed S2 bytes1 room1 gs1 fit at bs rs gave =
          sound-seal t S S2 bytes bytes1 room room1 gs gs1 s b.unsealed
          (second-of (fits (asked t c a n S)) (asked t c a n S) (seals t S) (fit-same ∙ fit)
          (second-of S.sealed S (cond (fits (asked t c a n S)) (asked t c a n S) (seals t S)) b.unsealed rests)) b.early at bs rs gave

      pub sealed-so : (S2 : State) (gs1 : List Given) (os1 : List Outgoing) → fits (with_draft t d S) ≡ false → S2 ≡ seals t S
          → gs1 ≡ gs → os1 ≡ os
          → IsBegunBy (Err Ask.Sealed) t word c m (core_of S gs os) (core_of S2 gs1 os1)
      sealed-so S2 gs1 os1 fit at gave sends =
          let d0 = draft_with (written t Seals) (empty_draft (length S.entries)) in
          let whole : core_of (seals t S) gs os ≡ stepped (seals t S) (core_of S gs os) =
          committed t S (seals t S) (Seals ∷ []) d0 gs gs os os (drafts-alone t S [] Seals _ tt tt (drafts-none t S)) refl
          (sym (append-nil gs)) (sym (append-nil os)) in
          let room-is : asks_in_room t c a n S ≡ seals t S =
          room-sealed S.sealed (fits (asked t c a n S)) S (asked t c a n S) (seals t S) b.unsealed (fit-same ∙ fit) in
          rw (at, gave, sends) (
            refl,
            record {
              numbers = n;
              worded = b.worded;
              spelled = spelled-so b;
              idle = b.idle;
              is = whole ∙ ap (λ (U : State). stepped U (core_of S gs os)) (sym room-is);
            },
          )
