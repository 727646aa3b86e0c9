-- What a core has outstanding after a call, and which copies it sent by it.
use Rattle.std.proofs.Common.{◌≡◌, ◌⊎◌, inl, inr, ℕ, Bool, true, false, cond, ◌||◌, List, [], ◌∷◌, ◌++◌, append-nil, append_assoc, length, Option, Some, None, Result, Ok, Err, refl, sym, ap, subst, ◌∙◌}
use Rattle.std.specs.Prelude.{◌&&◌, fold, filter, map, is_some, nat_le, ⊤}
use Rattle.std.specs.List.{AllByRecursion, list_any}
use Rattle.std.proofs.lemmas.Bool.{false≢true}
use Rattle.coap_codec.specs.Spelling.{Content}
use Rattle.coap_codec.specs.Reading.{message_at}
use Rattle.coap_codec.specs.declared.fault.CodecFault.{CodecFault}
use Rattle.uri_map.specs.declared.peer.Peer.{Peer}
use Rattle.uri_map.specs.Peers.{same_peer}
use Rattle.uri_map.proofs.CallerLemmas.{same_peer-same, same_peer-itself}
use Rattle.message_layer.specs.Values.{LinkState, empty_link}
use Rattle.message_layer.specs.Hearing.{replies, reset_for, verdict_of}
use Rattle.message_layer.specs.Sending.{first_sent, queued, waits}
use Rattle.message_layer.specs.declared.state.Outstanding.{Outstanding}
use Rattle.message_layer.specs.declared.state.Reply.{Reply}
use Rattle.message_layer.specs.declared.state.Reply.TheVariants as R
use Rattle.message_layer.specs.declared.state.Waiting.{Waiting}
use Rattle.message_layer.specs.declared.verdict.News.{News}
use Rattle.message_layer.specs.declared.verdict.News.TheVariants as N
use Rattle.message_layer.specs.declared.verdict.Verdict.{Verdict}
use Rattle.resp_cache.specs.Stored.{Stored}
use Rattle.ask_model.specs.Requests.{CoapRequest, Sense, Requests, Refuses}
use Rattle.ask_model.specs.Sharing.{asked_key}
use Rattle.ask_model.specs.Views.{Ask}
use Rattle.ask_model.specs.declared.cause.Cause.{Cause}
use Rattle.ask_model.specs.declared.cause.Cause.TheVariants as C
use Rattle.journal_book.specs.Entries.{Kept, Fault, Deed, Opens, Asks, Sends, Hears, Passes, Answers, Shuts, Seals, Written}
use Rattle.history_laws.proofs.CallerLemmas.{none-some, some-is}
use Rattle.history_links.specs.Steps.{heard_link, is_over}
use Rattle.exchange_model.specs.Calls.{served_in, asked_for, joined, asked_with, serves, next_by, next, refused, has_place, asked_by, asked, given_back, Telling, tells, told_for, told_late, takes_new, takes_by, repeats, resets, reads_so, heard, is_due, moves_by, moves, move_all, peer_of, something_due, ticked}
use Rattle.exchange_model.specs.Room.{AreApart, fits}
use Rattle.exchange_model.specs.Sealing.{in_room, if_unsealed, opens_in_room, asks_in_room, hears_in_room, late, ticks_in_room}
use Rattle.exchange_model.specs.State.{PeerLink, State, link_of, with_link}
use Rattle.exchange_model.specs.Steps.{asks, confirms, joins, opens, shuts, seals, begins, hears_nothing, sends_copy, sends_first, recalls, unwatched}
use Rattle.exchange_model.specs.Matters.{Matter, matter_of}
use Rattle.exchange_model.specs.Hearing.{Numbers, gone_by, more_by, hears, is_past, link_with, passed, passes, timed_out}
use Rattle.exchange_model.specs.Watching.{is_one_of}
use Rattle.exchange_model.specs.declared.kept.Exchange.{Exchange}
use Rattle.three_parties.proofs.Moments.{Counts}

-- what is outstanding at a peer
abbrev pub out_at : State → Peer → Option Outstanding
out_at S p = (link_of S.links p).outstanding

-- Whatever is outstanding was so before, or was sent at this moment.
abbrev pub StillOut : ℕ → State → State → Type 0
StillOut t S S1 = (p : Peer) (o : Outstanding) → out_at S1 p ≡ Some o → (out_at S p ≡ Some o) ⊎ (o.sent ≡ t)

-- Of what a deed sends once more, this holds.
abbrev pub IsCopyOf : (Peer → List ℕ → Type 0) → Deed → Type 0
IsCopyOf P (Sends p b None) = P p b
IsCopyOf P (Sends p b (Some w)) = ⊤
IsCopyOf P d = ⊤

abbrev pub AreCopiesOf : (Peer → List ℕ → Type 0) → List Written → Type 0
AreCopiesOf P ws = AllByRecursion (λ (w : Written). IsCopyOf P w.deed) ws

pub record Paces (P : Peer → List ℕ → Type 0) (t : ℕ) (S S1 : State) : Type 0 where
  pub more : List Written
  pub added : S1.entries ≡ S.entries ++ more
  pub bear : AllByRecursion (λ (w : Written). w.moment ≡ t) more
  pub copies : AreCopiesOf P more
  pub still : StillOut t S S1
  pub sealed : S.sealed ≡ true → S1.sealed ≡ true
  pub counts : Counts t S S1

all-both : {X : Type 0} (Q : X → Type 0) (xs ys : List X) → AllByRecursion Q xs → AllByRecursion Q ys → AllByRecursion Q (xs ++ ys)
all-both Q [] ys a b = b
all-both Q (x ∷ xs) ys a b = (a.0, all-both Q xs ys a.1 b)

pub counts-both : (t : ℕ) (S S1 S2 : State) → Counts t S S1 → Counts t S1 S2 → Counts t S S2
counts-both t S S1 S2 a (inr e) = inr e
counts-both t S S1 S2 (inl d) (inl e) = inl (e ∙ d)
counts-both t S S1 S2 (inr d) (inl e) = inr (e ∙ d)

still-both : (t : ℕ) (S S1 S2 : State) → StillOut t S S1 → StillOut t S1 S2 → StillOut t S S2
still-both t S S1 S2 a b p o e = elim (b p o e) [ inl w ↦ a p o w | inr w ↦ inr w ]

-- ---- the links of a core

pub link-cases : (p q : Peer) (s : LinkState) (xs : List PeerLink) → ((q ≡ p) × (link_of (with_link p s xs) q ≡ s)) ⊎ (link_of (with_link p s xs) q ≡ link_of xs q)
link-cases p q s [] = by (same_peer p q) refl
  where
    by : (b : Bool) → same_peer p q ≡ b → ((q ≡ p) × (cond b s empty_link ≡ s)) ⊎ (cond b s empty_link ≡ empty_link)
    by true e = inl (sym (same_peer-same p q e), refl)
    by false e = inr refl
link-cases p q s (x ∷ xs) = by (same_peer x.peer p) refl (link-cases p q s xs)
  where
    here : same_peer x.peer p ≡ true → (b : Bool) → same_peer x.peer q ≡ b
        → ((q ≡ p) × (cond b s (link_of xs q) ≡ s)) ⊎ (cond b s (link_of xs q) ≡ cond b x.link (link_of xs q))
    here first true e = inl (sym (same_peer-same x.peer q e) ∙ same_peer-same x.peer p first, refl)
    here first false e = inr refl

    below : (b : Bool) → ((q ≡ p) × (link_of (with_link p s xs) q ≡ s)) ⊎ (link_of (with_link p s xs) q ≡ link_of xs q)
        → ((same_peer x.peer q ≡ b) → (same_peer x.peer p ≡ false)
        → ((q ≡ p) × (cond b x.link (link_of (with_link p s xs) q) ≡ s)) ⊎ (cond b x.link (link_of (with_link p s xs) q) ≡ cond b x.link (link_of xs q)))
    below true ih e other = inr refl
    below false ih e other = ih

    by : (b : Bool) → same_peer x.peer p ≡ b
        → ((q ≡ p) × (link_of (with_link p s xs) q ≡ s)) ⊎ (link_of (with_link p s xs) q ≡ link_of xs q)
        → ((q ≡ p) × (link_of (cond b (record { peer = x.peer; link = s } ∷ xs) (x ∷ with_link p s xs)) q ≡ s))
        ⊎ (link_of (cond b (record { peer = x.peer; link = s } ∷ xs) (x ∷ with_link p s xs)) q ≡ link_of (x ∷ xs) q)
    by true e ih = here e (same_peer x.peer q) refl
    by false e ih = below (same_peer x.peer q) ih refl e

-- another link of a peer
put-still : (t : ℕ) (S S1 : State) (p : Peer) (s : LinkState) → S1.links ≡ with_link p s S.links
    → ((o : Outstanding) → s.outstanding ≡ Some o → (out_at S p ≡ Some o) ⊎ (o.sent ≡ t)) → StillOut t S S1
put-still t S S1 p s links may q o e =
    let f : (link_of (with_link p s S.links) q).outstanding ≡ Some o = subst (λ (xs : List PeerLink). (link_of xs q).outstanding ≡ Some o) links e in
    elim (link-cases p q s S.links) [
      | inl w ↦
          let was = may o (ap (λ (v : LinkState). v.outstanding) (sym w.1) ∙ f) in
          subst (λ (r : Peer). (out_at S r ≡ Some o) ⊎ (o.sent ≡ t)) (sym w.0) was
      | inr w ↦ inl (ap (λ (v : LinkState). v.outstanding) (sym w) ∙ f)
    ]

-- the same links
same-still : (t : ℕ) (S S1 : State) → S1.links ≡ S.links → StillOut t S S1
same-still t S S1 e p o out = inl (subst (λ (xs : List PeerLink). (link_of xs p).outstanding ≡ Some o) e out)

-- ---- steps

module _ (P : Peer → List ℕ → Type 0) (t : ℕ) where
  pub paces-none : (S S1 : State) → S1 ≡ S → Paces P t S S1
  paces-none S S1 e = record {
    more = [];
    added = ap (λ (S : State). S.entries) e ∙ sym (append-nil S.entries);
    bear = tt;
    copies = tt;
    still = same-still t S S1 (ap (λ (S : State). S.links) e);
    sealed = λ s. ap (λ (S : State). S.sealed) e ∙ s;
    counts = inl (ap (λ (S : State). S.moment) e);
  }

  pub paces-both : (S S1 S2 : State) → Paces P t S S1 → Paces P t S1 S2 → Paces P t S S2
  paces-both S S1 S2 a b = record {
    more = a.more ++ b.more;
    added = b.added ∙ ap (λ (es : List Written). es ++ b.more) a.added ∙ append_assoc S.entries a.more b.more;
    bear = all-both (λ (w : Written). w.moment ≡ t) a.more b.more a.bear b.bear;
    copies = all-both (λ (w : Written). IsCopyOf P w.deed) a.more b.more a.copies b.copies;
    still = still-both t S S1 S2 a.still b.still;
    sealed = λ s. b.sealed (a.sealed s);
    counts = counts-both t S S1 S2 a.counts b.counts;
  }

  -- one entry
  one : (S S1 : State) (d : Deed) → S1.entries ≡ S.entries ++ record { moment = t; deed = d } ∷ [] → S1.moment ≡ t → IsCopyOf P d → StillOut t S S1
      → (S.sealed ≡ true → S1.sealed ≡ true) → Paces P t S S1
  one S S1 d e m c still sealed = record {
    more = record { moment = t; deed = d } ∷ [];
    added = e;
    bear = (refl, tt);
    copies = (c, tt);
    still = still;
    sealed = sealed;
    counts = inr m;
  }

  either : (b : Bool) (S S1 S2 : State) → Paces P t S S1 → Paces P t S S2 → Paces P t S (cond b S1 S2)
  either true S S1 S2 x y = x
  either false S S1 S2 x y = y

  all-fold : {X : Type 0} (f : State → X → State) → ((S : State) (x : X) → Paces P t S (f S x)) → (xs : List X) (S : State)
      → Paces P t S (fold f S xs)
  all-fold f step [] S = paces-none S S refl
  all-fold f step (x ∷ xs) S = paces-both S (f S x) (fold f (f S x) xs) (step S x) (all-fold f step xs (f S x))

  seals-pace : (S : State) → Paces P t S (seals t S)
  seals-pace S = one S (seals t S) Seals refl refl tt (same-still t S (seals t S) refl) (λ s. refl)

  in-room : (S S1 : State) → Paces P t S S1 → Paces P t S (in_room t S1 S)
  in-room S S1 x = either (fits S1) S S1 (seals t S) x (seals-pace S)

  unsealed : (S S1 : State) → Paces P t S S1 → Paces P t S (if_unsealed t S1 S)
  unsealed S S1 x = either S.sealed S S (in_room t S1 S) (paces-none S S refl) (in-room S S1 x)

  next-paces : (p : Peer) (S : State) → Paces P t S (next t p S)
  next-paces p S = by (link_of S.links p).outstanding (link_of S.links p).waiting
    where
      by : (v : Option Outstanding) (ws : List Waiting) → Paces P t S (next_by t p v ws S)
      by None [] = paces-none S S refl
      by (Some o) ws = paces-none S S refl
      by None (w ∷ ws) =
          one S (sends_first t p w ws S) (Sends p (first_sent t (link_of S.links p).last_mid w).datagram (Some w.timeout)) refl refl tt
          (put-still t S (sends_first t p w ws S) p _ refl (λ o e. inr (sym (ap (λ (v : Outstanding). v.sent) (some-is _ o e))))) (λ s. s)

  told-paces : (xs : List Telling) (S : State) → Paces P t S (fold (tells t) S xs)
  told-paces xs S = all-fold (tells t) (λ S x. one S (tells t S x) (Answers x.reader.conn x.reader.ask x.grounds) refl refl tt (same-still t S (tells t S x) refl) (λ s. s)) xs S

  -- ---- an ask

  refused-paces : (c : ℕ) (a : Ask) (cause : Cause) (S : State) → Paces P t S (refused t c a cause S)
  refused-paces c a cause S =
      let k = length S.entries in
      paces-both S (asks t c a S) (refused t c a cause S)
      (one S (asks t c a S) (Asks c a) refl refl tt (same-still t S (asks t c a S) refl) (λ s. s))
      (one (asks t c a S) (refused t c a cause S) (Answers c k (Fault cause k)) refl refl tt (same-still t (asks t c a S) (refused t c a cause S) refl) (λ s. s))

  asked-paces : (c : ℕ) (a : Ask) (n : Numbers) (S : State) → Paces P t S (asked t c a n S)
  asked-paces c a n S = sense a.sense
    where
      begun : (q : CoapRequest) → Paces P t S (next t q.peer (begins t c a q n.token n.text n.word S))
      begun q =
          let S1 = begins t c a q n.token n.text n.word S in
          paces-both S S1 (next t q.peer S1)
          (one S S1 (Asks c a) refl refl tt (put-still t S S1 q.peer (queued t (waits n.token n.text n.word) (unwatched q S)) refl (λ o e. inl e)) (λ s. s))
          (next-paces q.peer S1)

      served : (q : CoapRequest) (s : Stored) → Paces P t S (serves t c a q s S)
      served q s =
          let S1 = recalls t c a (asked_key q) S in
          let k = length S.entries in
          paces-both S S1 (serves t c a q s S)
          (one S S1 (Asks c a) refl refl tt (same-still t S S1 refl) (λ s. s))
          (one S1 (serves t c a q s S) (Answers c k (Kept s.list)) refl refl tt (same-still t S1 (serves t c a q s S) refl) (λ s. s))

      sense : (s : Sense) → Paces P t S (asked_by s t c a n S)
      sense (Refuses cause status) = refused-paces c a cause S
      sense (Requests q) = for (served_in q t S)
        where
          with : (v : Option Exchange) → Paces P t S (asked_with v t c a q n S)
          with (Some e) =
              one S (joins t c a e.opening S) (Asks c a) refl refl tt (same-still t S (joins t c a e.opening S) refl) (λ s. s)
          with None =
              either (has_place t q.peer S) S (next t q.peer (begins t c a q n.token n.text n.word S)) (refused t c a C.Busy S)
              (begun q) (refused-paces c a C.Busy S)

          for : (v : Option Stored) → Paces P t S (asked_for v t c a q n S)
          for (Some s) = served q s
          for None = with (joined q S)

  -- ---- a datagram

  module _ (short : (p : Peer) (b : List ℕ) → length b ≡ 4 → P p b) where
    given-paces : (p : Peer) (bs : List (List ℕ)) (S : State) → AllByRecursion (λ (b : List ℕ). length b ≡ 4) bs → Paces P t S (given_back t p bs S)
    given-paces p [] S h = paces-none S S refl
    given-paces p (b ∷ bs) S h =
        paces-both S (confirms t p b S) (given_back t p (b ∷ bs) S)
        (one S (confirms t p b S) (Sends p b None) refl refl (short p b h.0) (same-still t S (confirms t p b S) refl) (λ s. s))
        (given-paces p bs (confirms t p b S) h.1)

    four : (mid : ℕ) (r : Reply) → AllByRecursion (λ (b : List ℕ). length b ≡ 4) (replies mid r)
    four mid R.Nothing = tt
    four mid R.Ack = (refl, tt)
    four mid R.Rst = (refl, tt)

    link-out : (v : Option Waiting) (s : LinkState) → (link_with t v s).outstanding ≡ s.outstanding
    link-out None s = refl
    link-out (Some w) s = refl

    hears-paces : (p : Peer) (d : List ℕ) (m : Content) (n : Numbers) (S : State) → Paces P t S (hears t p d m n S)
    hears-paces p d m n S =
        one S (hears t p d m n S) (Hears p d) refl refl tt (put-still t S (hears t p d m n S) p _ refl may) (λ s. s)
      where
        s : LinkState
        s = link_of S.links p

        v : Verdict
        v = verdict_of t s m

        x : Matter
        x = matter_of t p m v S

        now : LinkState
        now = heard_link t m.mid m.token (is_one_of (gone_by m S.entries x S.watches)) v s

        may : (o : Outstanding) → (link_with t (more_by n x) now).outstanding ≡ Some o → (out_at S p ≡ Some o) ⊎ (o.sent ≡ t)
        may o e = by v.ends (sym (link-out (more_by n x) now) ∙ e)
          where
            by : (b : Bool) → cond b None s.outstanding ≡ Some o → (out_at S p ≡ Some o) ⊎ (o.sent ≡ t)
            by true f = absurd (none-some o f)
            by false f = inl f

    heard-paces : (p : Peer) (d : List ℕ) (n : Numbers) (S : State) → Paces P t S (heard t p d n S)
    heard-paces p d n S =
        either (is_some (link_of S.links p).last_mid && nat_le (length d) 2048) S (reads_so t p d n (message_at d) S) S (read (message_at d)) (paces-none S S refl)
      where
        nothing : (bs : List (List ℕ)) → AllByRecursion (λ (b : List ℕ). length b ≡ 4) bs → Paces P t S (given_back t p bs (hears_nothing t p d S))
        nothing bs h =
            paces-both S (hears_nothing t p d S) (given_back t p bs (hears_nothing t p d S))
            (one S (hears_nothing t p d S) (Hears p d) refl refl tt (same-still t S (hears_nothing t p d S) refl) (λ s. s))
            (given-paces p bs (hears_nothing t p d S) h)

        new : (m : Content) (v : Verdict) → Paces P t S (takes_new t p d m v n S)
        new m v =
            let S1 = hears t p d m n S in
            let S2 = given_back t p (replies m.mid v.reply) S1 in
            let S3 = next t p S2 in
            paces-both S S3 (takes_new t p d m v n S)
            (paces-both S S2 S3 (paces-both S S1 S2 (hears-paces p d m n S) (given-paces p (replies m.mid v.reply) S1 (four m.mid v.reply))) (next-paces p S2))
            (told-paces (told_for (length S.entries) (matter_of t p m v S) S.readers) S3)

        taken : (m : Content) (v : Verdict) (news : News) → Paces P t S (takes_by t p d m v n news S)
        taken m v N.Lost = paces-none S S refl
        taken m v N.Quiet = new m v
        taken m v N.Response = new m v
        taken m v (N.Reset token) = new m v

        message : (m : Content) (v : Verdict)
            → Paces P t S
            (cond (repeats t (link_of S.links p) m) (given_back t p (replies m.mid v.reply) (hears_nothing t p d S)) (takes_by t p d m v n v.news S))
        message m v =
            either (repeats t (link_of S.links p) m) S _ _ (nothing (replies m.mid v.reply) (four m.mid v.reply)) (taken m v v.news)

        reset : (o : Option ℕ) → AllByRecursion (λ (b : List ℕ). length b ≡ 4) (resets o)
        reset None = tt
        reset (Some mid) = (refl, tt)

        read : (r : Result Content CodecFault) → Paces P t S (reads_so t p d n r S)
        read (Ok m) = message m (verdict_of t (link_of S.links p) m)
        read (Err e) = nothing (resets (reset_for d)) (reset (reset_for d))

  -- ---- a tick

  passed-out : (S : State) (xs : List PeerLink) (q : Peer) (o : Outstanding) → (link_of (map (passed t S) xs) q).outstanding ≡ Some o
      → (link_of xs q).outstanding ≡ Some o
  passed-out S [] q o e = e
  passed-out S (x ∷ xs) q o e = by (same_peer x.peer q) e (λ f. passed-out S xs q o f)
    where
      left : (b : Bool) → cond b None x.link.outstanding ≡ Some o → x.link.outstanding ≡ Some o
      left true f = absurd (none-some o f)
      left false f = f

      by : (b : Bool) → (cond b (passed t S x).link (link_of (map (passed t S) xs) q)).outstanding ≡ Some o
          → ((link_of (map (passed t S) xs) q).outstanding ≡ Some o → (link_of xs q).outstanding ≡ Some o)
          → (cond b x.link (link_of xs q)).outstanding ≡ Some o
      by true f others = left (is_over t x.link.outstanding) f
      by false f others = others f

  passes-pace : (S : State) → Paces P t S (passes t S)
  passes-pace S = one S (passes t S) Passes refl refl tt (λ p o e. inl (passed-out S S.links p o e)) (λ s. s)

  late-paces : (S : State) → Paces P t S (late t S)
  late-paces S = told-paces (told_late (filter (is_past t) S.exchanges) S.readers) S

  -- Copies are of what was outstanding at first.
  module _ (S0 : State) (copies : (p : Peer) (o : Outstanding) → out_at S0 p ≡ Some o → P p o.datagram) where
    abbrev Knows : State → Peer → Type 0
    Knows T p = (o : Outstanding) → out_at T p ≡ Some o → out_at S0 p ≡ Some o

    move-paces : (T : State) (p : Peer) → Knows T p → Paces P t T (moves t T p)
    move-paces T p known = by (link_of T.links p).outstanding refl
      where
        by : (v : Option Outstanding) → out_at T p ≡ v → Paces P t T (moves_by t p v T)
        by None e = next-paces p T
        by (Some o) e =
            either (is_due t (Some o)) T (sends_copy t p o T) T
            (one T (sends_copy t p o T) (Sends p o.datagram None) refl refl (copies p o (known o e))
            (put-still t T (sends_copy t p o T) p _ refl (λ u f. inr (sym (ap (λ (v : Outstanding). v.sent) (some-is _ u f))))) (λ s. s))
            (paces-none T T refl)

    -- the other links stay
    put-other : (T T1 : State) (p q : Peer) (s : LinkState) → T1.links ≡ with_link p s T.links → same_peer q p ≡ false → (o : Outstanding)
        → out_at T1 q ≡ Some o → out_at T q ≡ Some o
    put-other T T1 p q s links other o e =
        let f : (link_of (with_link p s T.links) q).outstanding ≡ Some o = subst (λ (xs : List PeerLink). (link_of xs q).outstanding ≡ Some o) links e in
        elim (link-cases p q s T.links) [
          | inl w ↦ absurd (false≢true (sym other ∙ (ap (λ (r : Peer). same_peer r p) w.0 ∙ same_peer-itself p)))
          | inr w ↦ ap (λ (v : LinkState). v.outstanding) (sym w) ∙ f
        ]

    move-other : (T : State) (p q : Peer) → same_peer q p ≡ false → (o : Outstanding) → out_at (moves t T p) q ≡ Some o → out_at T q ≡ Some o
    move-other T p q other o e = by (link_of T.links p).outstanding e
      where
        next-other : (v : Option Outstanding) (ws : List Waiting) → out_at (next_by t p v ws T) q ≡ Some o → out_at T q ≡ Some o
        next-other None [] f = f
        next-other (Some u) ws f = f
        next-other None (w ∷ ws) f = put-other T (sends_first t p w ws T) p q _ refl other o f

        copied : (u : Outstanding) (b : Bool) → out_at (cond b (sends_copy t p u T) T) q ≡ Some o → out_at T q ≡ Some o
        copied u true f = put-other T (sends_copy t p u T) p q _ refl other o f
        copied u false f = f

        by : (v : Option Outstanding) → out_at (moves_by t p v T) q ≡ Some o → out_at T q ≡ Some o
        by None f = next-other (link_of T.links p).outstanding (link_of T.links p).waiting f
        by (Some u) f = copied u (is_due t (Some u)) f

    neither : (a b : Bool) → (a || b) ≡ false → (a ≡ false) × (b ≡ false)
    neither true b e = absurd (false≢true (sym e))
    neither false b e = (refl, e)

    all-moves : (ps : List Peer) → AreApart ps → (T : State) → AllByRecursion (Knows T) ps → Paces P t T (fold (moves t) T ps)
    all-moves [] apart T known = paces-none T T refl
    all-moves (p ∷ ps) apart T known =
        paces-both T (moves t T p) (fold (moves t) (moves t T p) ps) (move-paces T p known.0)
        (all-moves ps apart.1 (moves t T p) (rest ps apart.0 known.1))
      where
        rest : (qs : List Peer) → list_any (λ (q : Peer). same_peer q p) qs ≡ false → AllByRecursion (Knows T) qs
            → AllByRecursion (Knows (moves t T p)) qs
        rest [] none k = tt
        rest (q ∷ qs) none k =
            let both = neither (same_peer q p) (list_any (λ (q : Peer). same_peer q p) qs) none in
            (λ o e. k.0 o (move-other T p q both.0 o e), rest qs both.1 k.1)

    peers-same : (S : State) (xs : List PeerLink) → map peer_of (map (passed t S) xs) ≡ map peer_of xs
    peers-same S [] = refl
    peers-same S (x ∷ xs) = ap (λ (ps : List Peer). x.peer ∷ ps) (peers-same S xs)

    all-known : (T : State) → ((p : Peer) → Knows T p) → (ps : List Peer) → AllByRecursion (Knows T) ps
    all-known T k [] = tt
    all-known T k (p ∷ ps) = (k p, all-known T k ps)

    ticked-paces : AreApart (map peer_of S0.links) → Paces P t S0 (ticked t S0)
    ticked-paces apart =
        let S1 = passes t S0 in
        let S2 = move_all t S1 in
        either (something_due t S0) S0 (fold (tells t) S2 (told_late (timed_out t S0) S0.readers)) S0
        (paces-both S0 S2 (fold (tells t) S2 (told_late (timed_out t S0) S0.readers))
        (paces-both S0 S1 S2 (passes-pace S0)
        (all-moves (map peer_of S1.links) (subst AreApart (sym (peers-same S0 S0.links)) apart) S1
        (all-known S1 (λ p o e. passed-out S0 S0.links p o e) (map peer_of S1.links))))
        (told-paces (told_late (timed_out t S0) S0.readers) S2)) (paces-none S0 S0 refl)

-- ---- all calls

-- an ACK or RST
abbrev pub IsShort : Peer → List ℕ → Type 0
IsShort p b = length b ≡ 4

-- what was outstanding in a journal that isn't sealed
abbrev pub IsOutIn : State → Peer → List ℕ → Type 0
IsOutIn S p b = (S.sealed ≡ false) × ((o : Outstanding) × (out_at S p ≡ Some o) × (o.datagram ≡ b))

pub opens-pace : (t : ℕ) (S : State) → Paces IsShort t S (opens_in_room t S)
opens-pace t S = unsealed IsShort t S (opens t S) (one IsShort t S (opens t S) (Opens S.opened) refl refl tt (same-still t S (opens t S) refl) (λ s. s))

pub shuts-pace : (t c : ℕ) (S : State) → Paces IsShort t S (shuts t c S)
shuts-pace t c S = one IsShort t S (shuts t c S) (Shuts c) refl refl tt (same-still t S (shuts t c S) refl) (λ s. s)

pub asks-pace : (t c : ℕ) (a : Ask) (n : Numbers) (S : State) → Paces IsShort t S (asks_in_room t c a n S)
asks-pace t c a n S = unsealed IsShort t S (asked t c a n S) (asked-paces IsShort t c a n S)

pub hears-pace : (t : ℕ) (p : Peer) (d : List ℕ) (n : Numbers) (S : State) → Paces IsShort t S (hears_in_room t p d n S)
hears-pace t p d n S = unsealed IsShort t S (heard t p d n S) (heard-paces IsShort t (λ p b e. e) p d n S)

pub ticks-pace : (t : ℕ) (S : State) → AreApart (map peer_of S.links) → Paces (IsOutIn S) t S (ticks_in_room t S)
ticks-pace t S apart = by S.sealed refl
  where
    P : Peer → List ℕ → Type 0
    P = IsOutIn S

    new : S.sealed ≡ false → Paces P t S (ticked t S)
    new s = ticked-paces P t S (λ p o e. (s, (o, e, refl))) apart

    by : (b : Bool) → S.sealed ≡ b → Paces P t S (cond b (late t S) (cond (fits (ticked t S)) (ticked t S) (late t (seals t S))))
    by true s = late-paces P t S
    by false s =
        either P t (fits (ticked t S)) S (ticked t S) (late t (seals t S)) (new s)
        (paces-both P t S (seals t S) (late t (seals t S)) (seals-pace P t S) (late-paces P t (seals t S)))
