-- Each call adds to the journal, and the connections follow.
use Rattle.std.proofs.Common.{◌≡◌, ◌⊎◌, inl, inr, ℕ, ◌+◌, Bool, true, false, cond, List, [], ◌∷◌, ◌++◌, length, Option, Some, None, Result, Ok, Err, refl, sym, ap, ◌∙◌, subst, arith, length-append}
use Rattle.std.specs.Prelude.{◌&&◌, fold, filter, map, is_some, nat_le}
use Rattle.std.specs.List.{AllByRecursion}
use Rattle.std.proofs.lemmas.List.{append-nil, append_assoc, append_cancel_left}
use Rattle.coap_codec.specs.Spelling.{Content}
use Rattle.coap_codec.specs.Reading.{message_at}
use Rattle.coap_codec.specs.declared.fault.CodecFault.{CodecFault}
use Rattle.uri_map.specs.declared.peer.Peer.{Peer}
use Rattle.message_layer.specs.Hearing.{replies, reset_for, verdict_of}
use Rattle.message_layer.specs.declared.state.Outstanding.{Outstanding}
use Rattle.message_layer.specs.declared.state.Waiting.{Waiting}
use Rattle.message_layer.specs.declared.verdict.News.{News}
use Rattle.message_layer.specs.declared.verdict.Verdict.{Verdict}
use Rattle.message_layer.specs.declared.verdict.News.TheVariants as N
use Rattle.resp_cache.specs.Stored.{Stored}
use Rattle.ask_model.specs.Sharing.{asked_key}
use Rattle.ask_model.specs.declared.cause.Cause.{Cause}
use Rattle.ask_model.specs.Requests.{CoapRequest, Sense, Requests, Refuses}
use Rattle.ask_model.specs.Views.{Ask}
use Rattle.ask_model.specs.declared.cause.Cause.TheVariants as C
use Rattle.journal_book.specs.Entries.{Kept, Grounds, Fault, Deed, Opens, Asks, Sends, Hears, Passes, Answers, Shuts, Seals, Carries, Written}
use Rattle.history_laws.specs.Readings.{carries}
use Rattle.history_laws.proofs.CallerLemmas.{all-more}
use Rattle.exchange_model.specs.Steps.{recalls, joins, opens, asks, shuts, seals, begins, hears_nothing, sends_first, sends_copy}
use Rattle.exchange_model.specs.Matters.{matter_of}
use Rattle.exchange_model.specs.Hearing.{Numbers, hears, is_past, passes, timed_out}
use Rattle.exchange_model.specs.Calls.{served_in, serves, asked_for, joined, asked_with, next_by, next, refused, has_place, asked_by, asked, given_back, Telling, tells, told_for, told_late, takes_new, takes_by, repeats, resets, reads_so, heard, is_due, moves_by, moves, move_all, peer_of, something_due, ticked}
use Rattle.exchange_model.specs.declared.kept.Conn.{Conn}
use Rattle.exchange_model.specs.declared.kept.Exchange.{Exchange}
use Rattle.exchange_model.specs.State.{State, link_of, conns_after}
use Rattle.exchange_model.specs.Entering.{answer_of}
use Rattle.exchange_model.specs.Room.{fits}
use Rattle.exchange_model.specs.Sealing.{in_room, if_unsealed, opens_in_room, asks_in_room, hears_in_room, late, ticks_in_room}
use Rattle.exchange_model.specs.Growing.{conns_with, Adds, OpensAdd, ShutsAdd, SealsAdd, AsksAdd, HearsAdd, LateAdds, TicksAdd, at_moment, OpensAlone, IsOfAsk, AsksAnswer, by_client, HasNoClient, HearsAnswer, TicksAnswer}

pub conns-both : (cs : List Conn) (n : ℕ) (xs ys : List Written)
    → conns_with cs n (xs ++ ys) ≡ conns_with (conns_with cs n xs) (n + length xs) ys
conns-both cs n [] ys = let e : n ≡ n + 0 = omega arith in ap (λ (k : ℕ). conns_with cs k ys) e
conns-both cs n (x ∷ xs) ys =
    let e : n + 1 + length xs ≡ n + length (x ∷ xs) = omega arith in
    conns-both (conns_after cs n x.deed) (n + 1) xs ys
    ∙ ap (λ (k : ℕ). conns_with (conns_with (conns_after cs n x.deed) (n + 1) xs) k ys) e

-- A step adds entries that are such.
record Such (t : ℕ) (P : Deed → Type 0) (S S1 : State) : Type 0 where
  more : List Written
  entries : S1.entries ≡ S.entries ++ more
  are : AllByRecursion (λ (w : Written). (w.moment ≡ t) × P w.deed) more
  conns : S1.conns ≡ conns_with S.conns (length S.entries) more
  memory : (S1.given ≡ S.given) × (S1.kept ≡ S.kept)

all-both-lists : (Q : Written → Type 0) (xs ys : List Written)
    → AllByRecursion Q xs → AllByRecursion Q ys → AllByRecursion Q (xs ++ ys)
all-both-lists Q [] ys a b = b
all-both-lists Q (x ∷ xs) ys a b = (a.0, all-both-lists Q xs ys a.1 b)

module _ (t : ℕ) (P : Deed → Type 0) where
  none : (S : State) → Such t P S S
  none S = record { more = []; entries = sym (append-nil S.entries); are = tt; conns = refl; memory = (refl, refl) }

  one : (d : Deed) (S S1 : State) → S1.entries ≡ S.entries ++ at_moment t d ∷ []
      → S1.conns ≡ conns_after S.conns (length S.entries) d → (S1.given ≡ S.given) × (S1.kept ≡ S.kept) → P d
      → Such t P S S1
  one d S S1 entries conns memory p = record {
    more = at_moment t d ∷ [];
    entries = entries;
    are = ((refl, p), tt);
    conns = conns;
    memory = memory;
  }

  both : (S S1 S2 : State) → Such t P S S1 → Such t P S1 S2 → Such t P S S2
  both S S1 S2 a b =
      let long = ap length a.entries ∙ length-append S.entries a.more in
      record {
        more = a.more ++ b.more;
        entries =
            b.entries ∙ ap (λ (es : List Written). es ++ b.more) a.entries
            ∙ append_assoc S.entries a.more b.more;
        are = all-both-lists (λ (w : Written). (w.moment ≡ t) × P w.deed) a.more b.more a.are b.are;
        conns =
            b.conns ∙ ap (λ (cs : List Conn). conns_with cs (length S1.entries) b.more) a.conns
            ∙ ap (λ (k : ℕ). conns_with (conns_with S.conns (length S.entries) a.more) k b.more) long
            ∙ sym (conns-both S.conns (length S.entries) a.more b.more);
        memory = (b.memory.0 ∙ a.memory.0, b.memory.1 ∙ a.memory.1);
      }

  either : (b : Bool) (S S1 S2 : State) → Such t P S S1 → Such t P S S2
      → Such t P S (cond b S1 S2)
  either true S S1 S2 x y = x
  either false S S1 S2 x y = y

  all-fold : {X : Type 0} (f : State → X → State) → ((S : State) (x : X) → Such t P S (f S x))
      → (xs : List X) (S : State) → Such t P S (fold f S xs)
  all-fold f step [] S = none S
  all-fold f step (x ∷ xs) S =
      both S (f S x) (fold f (f S x) xs) (step S x) (all-fold f step xs (f S x))

  in-room : (S S1 : State) → P Seals → Such t P S S1 → Such t P S (in_room t S1 S)
  in-room S S1 p x = either (fits S1) S S1 (seals t S) x (one Seals S (seals t S) refl refl (refl, refl) p)

  unsealed : (S S1 : State) → P Seals → Such t P S S1 → Such t P S (if_unsealed t S1 S)
  unsealed S S1 p x = either S.sealed S S (in_room t S1 S) (none S) (in-room S S1 p x)

  module _ (sends : (p : Peer) (bytes : List ℕ) (timeout : Option ℕ) → P (Sends p bytes timeout)) where
    next-such : (p : Peer) (S : State) → Such t P S (next t p S)
    next-such p S = by (link_of S.links p).outstanding (link_of S.links p).waiting
      where
        by : (v : Option Outstanding) (ws : List Waiting) → Such t P S (next_by t p v ws S)
        by None [] = none S
        by (Some o) ws = none S
        by None (w ∷ ws) = one (Sends p _ _) S (sends_first t p w ws S) refl refl (refl, refl) (sends p _ _)

    given-such : (p : Peer) (bs : List (List ℕ)) (S : State) → Such t P S (given_back t p bs S)
    given-such p [] S = none S
    given-such p (b ∷ bs) S =
        both S _ (given_back t p (b ∷ bs) S) (one (Sends p b None) S _ refl refl (refl, refl) (sends p b None))
        (given-such p bs _)

    moves-such : (S : State) (p : Peer) → Such t P S (moves t S p)
    moves-such S p = by (link_of S.links p).outstanding
      where
        by : (v : Option Outstanding) → Such t P S (moves_by t p v S)
        by None = next-such p S
        by (Some o) = either (is_due t (Some o)) S (sends_copy t p o S) S
            (one (Sends p _ None) S (sends_copy t p o S) refl refl (refl, refl) (sends p _ None)) (none S)

  module _ (answer : (c k : ℕ) (g : Grounds) → P (Answers c k g)) where
    all-told-such : (xs : List Telling) (S : State) → Such t P S (fold (tells t) S xs)
    all-told-such xs S = all-fold (tells t) (λ S x. one (answer_of x) S (tells t S x) refl refl (refl, refl) (answer x.reader.conn x.reader.ask x.grounds)) xs S

-- An ask.

asked-such : (t c : ℕ) (a : Ask) (n : Numbers) (S : State)
    → Such t (IsOfAsk (length S.entries) c a) S (asked t c a n S)
asked-such t c a n S = by (IsOfAsk (length S.entries) c a) (refl, refl) (λ g. (refl, refl))
    (λ p bytes timeout. tt) a.sense
  where
    by : (P : Deed → Type 0) → P (Asks c a) → ((g : Grounds) → P (Answers c (length S.entries) g))
        → ((p : Peer) (bytes : List ℕ) (timeout : Option ℕ) → P (Sends p bytes timeout))
        → (s : Sense) → Such t P S (asked_by s t c a n S)
    by P ask answer sends s = sense s
      where
        turned_away : (cause : Cause) → Such t P S (refused t c a cause S)
        turned_away cause =
            both t P S (asks t c a S) (refused t c a cause S)
            (one t P (Asks c a) S (asks t c a S) refl refl (refl, refl) ask)
            (one t P (Answers c (length S.entries) (Fault cause (length S.entries))) (asks t c a S)
            (refused t c a cause S) refl refl (refl, refl) (answer (Fault cause (length S.entries))))

        begun : (q : CoapRequest)
            → Such t P S (next t q.peer (begins t c a q n.token n.text n.word S))
        begun q =
            let S1 = begins t c a q n.token n.text n.word S in
            both t P S S1 (next t q.peer S1) (one t P (Asks c a) S S1 refl refl (refl, refl) ask)
            (next-such t P sends q.peer S1)

        sense : (s : Sense) → Such t P S (asked_by s t c a n S)
        sense (Refuses cause status) = turned_away cause
        sense (Requests q) = for (served_in q t S)
          where
            with : (v : Option Exchange) → Such t P S (asked_with v t c a q n S)
            with (Some e) = one t P (Asks c a) S (joins t c a e.opening S) refl refl (refl, refl) ask
            with None = either t P (has_place t q.peer S)
                S (next t q.peer (begins t c a q n.token n.text n.word S)) (refused t c a C.Busy S)
                (begun q) (turned_away C.Busy)

            for : (v : Option Stored) → Such t P S (asked_for v t c a q n S)
            for (Some s) =
                both t P S (recalls t c a (asked_key q) S) (serves t c a q s S)
                (one t P (Asks c a) S (recalls t c a (asked_key q) S) refl refl (refl, refl) ask)
                (one t P (Answers c (length S.entries) (Kept s.list)) (recalls t c a (asked_key q) S)
                (serves t c a q s S) refl refl (refl, refl) (answer (Kept s.list)))
            for None = with (joined q S)

asks-such : (t c : ℕ) (a : Ask) (n : Numbers) (S : State)
    → Such t (IsOfAsk (length S.entries) c a) S (asks_in_room t c a n S)
asks-such t c a n S = unsealed t _ S (asked t c a n S) tt (asked-such t c a n S)

-- A datagram, and a tick.

abbrev Own : Deed → Type 0
Own d = carries d ≡ false

abbrev Inner : Deed → Type 0
Inner d = (by_client d ≡ false) × Own d

sends-inner : (p : Peer) (bytes : List ℕ) (timeout : Option ℕ) → Inner (Sends p bytes timeout)
sends-inner p bytes timeout = (refl, refl)

answer-inner : (c k : ℕ) (g : Grounds) → Inner (Answers c k g)
answer-inner c k g = (refl, refl)

heard-such : (t : ℕ) (p : Peer) (d : List ℕ) (n : Numbers) (S : State)
    → Such t Inner S (heard t p d n S)
heard-such t p d n S =
    either t Inner (is_some (link_of S.links p).last_mid && nat_le (length d) 2048) S
    (reads_so t p d n (message_at d) S) S (read (message_at d)) (none t Inner S)
  where
    nothing : (bs : List (List ℕ)) → Such t Inner S (given_back t p bs (hears_nothing t p d S))
    nothing bs =
        both t Inner S (hears_nothing t p d S) (given_back t p bs (hears_nothing t p d S))
        (one t Inner (Hears p d) S (hears_nothing t p d S) refl refl (refl, refl) (refl, refl))
        (given-such t Inner sends-inner p bs (hears_nothing t p d S))

    new : (m : Content) (v : Verdict) → Such t Inner S (takes_new t p d m v n S)
    new m v =
        let S1 = hears t p d m n S in
        let S2 = given_back t p (replies m.mid v.reply) S1 in
        let S3 = next t p S2 in
        both t Inner S S3 (takes_new t p d m v n S)
        (both t Inner S S2 S3
        (both t Inner S S1 S2 (one t Inner (Hears p d) S S1 refl refl (refl, refl) (refl, refl))
        (given-such t Inner sends-inner p (replies m.mid v.reply) S1))
        (next-such t Inner sends-inner p S2))
        (all-told-such t Inner answer-inner (told_for (length S.entries) (matter_of t p m v S) S.readers) S3)

    taken : (m : Content) (v : Verdict) (news : News) → Such t Inner S (takes_by t p d m v n news S)
    taken m v N.Lost = none t Inner S
    taken m v N.Quiet = new m v
    taken m v N.Response = new m v
    taken m v (N.Reset token) = new m v

    message : (m : Content) (v : Verdict)
        → Such t Inner S
        (cond (repeats t (link_of S.links p) m)
        (given_back t p (replies m.mid v.reply) (hears_nothing t p d S))
        (takes_by t p d m v n v.news S))
    message m v = either t Inner (repeats t (link_of S.links p) m) S _ _
        (nothing (replies m.mid v.reply)) (taken m v v.news)

    read : (r : Result Content CodecFault) → Such t Inner S (reads_so t p d n r S)
    read (Ok m) = message m (verdict_of t (link_of S.links p) m)
    read (Err e) = nothing (resets (reset_for d))

hears-such : (t : ℕ) (p : Peer) (d : List ℕ) (n : Numbers) (S : State)
    → Such t Inner S (hears_in_room t p d n S)
hears-such t p d n S = unsealed t Inner S (heard t p d n S) (refl, refl) (heard-such t p d n S)

late-such : (t : ℕ) (S : State) → Such t Inner S (late t S)
late-such t S = all-told-such t Inner answer-inner (told_late (filter (is_past t) S.exchanges) S.readers) S

ticked-such : (t : ℕ) (S : State) → Such t Inner S (ticked t S)
ticked-such t S =
    let S1 = passes t S in
    let S2 = move_all t S1 in
    either t Inner (something_due t S) S (fold (tells t) S2 (told_late (timed_out t S) S.readers)) S
    (both t Inner S S2 (fold (tells t) S2 (told_late (timed_out t S) S.readers))
    (both t Inner S S1 S2 (one t Inner Passes S S1 refl refl (refl, refl) (refl, refl))
    (all-fold t Inner (moves t) (moves-such t Inner sends-inner) (map peer_of S1.links) S1))
    (all-told-such t Inner answer-inner (told_late (timed_out t S) S.readers) S2)) (none t Inner S)

ticks-such : (t : ℕ) (S : State) → Such t Inner S (ticks_in_room t S)
ticks-such t S =
    either t Inner S.sealed S (late t S) _ (late-such t S)
    (either t Inner (fits (ticked t S)) S (ticked t S) (late t (seals t S)) (ticked-such t S)
    (both t Inner S (seals t S) (late t (seals t S))
    (one t Inner Seals S (seals t S) refl refl (refl, refl) (refl, refl)) (late-such t (seals t S))))

-- What is added is the same, however it is said.

adds-such : (t : ℕ) (P : Deed → Type 0) (S S1 : State) → ((d : Deed) → P d → Own d) → Such t P S S1 → Adds t S S1
adds-such t P S S1 own a = record {
  more = a.more;
  entries = a.entries;
  at = all-more (λ (w : Written). (w.moment ≡ t) × P w.deed) (λ (w : Written). w.moment ≡ t)
      (λ w h. h.0) a.more a.are;
  own = all-more (λ (w : Written). (w.moment ≡ t) × P w.deed) (λ (w : Written). Own w.deed)
      (λ w h. own w.deed h.1) a.more a.are;
  given = a.memory.0;
  kept = a.memory.1;
  conns = a.conns;
}

all-such : (t : ℕ) (P : Deed → Type 0) (S S1 : State) → Such t P S S1 → (x : Adds t S S1)
    → AllByRecursion (λ (w : Written). P w.deed) x.more
all-such t P S S1 a x =
    subst (λ (ws : List Written). AllByRecursion (λ (w : Written). P w.deed) ws)
    (append_cancel_left S.entries a.more x.more (sym a.entries ∙ x.entries))
    (all-more (λ (w : Written). (w.moment ≡ t) × P w.deed) (λ (w : Written). P w.deed)
    (λ w h. h.1) a.more a.are)

own-itself : (d : Deed) → Own d → Own d
own-itself d h = h

inner-own : (d : Deed) → Inner d → Own d
inner-own d h = h.1

of-ask-own : (k c : ℕ) (a : Ask) (d : Deed) → IsOfAsk k c a d → Own d
of-ask-own k c a (Carries n mark done) h = absurd h
of-ask-own k c a d h = refl

pub opens-add : OpensAdd
opens-add t S = adds-such t Own S (opens_in_room t S) own-itself
    (unsealed t Own S (opens t S) refl (one t Own (Opens S.opened) S (opens t S) refl refl (refl, refl) refl))

pub shuts-add : ShutsAdd
shuts-add t c S = adds-such t Own S (shuts t c S) own-itself (one t Own (Shuts c) S (shuts t c S) refl refl (refl, refl) refl)

pub seals-add : SealsAdd
seals-add t S = adds-such t Own S (seals t S) own-itself (one t Own Seals S (seals t S) refl refl (refl, refl) refl)

pub asks-add : AsksAdd
asks-add t c a n S = adds-such t _ S (asks_in_room t c a n S) (of-ask-own (length S.entries) c a) (asks-such t c a n S)

pub hears-add : HearsAdd
hears-add t p d n S = adds-such t Inner S (hears_in_room t p d n S) inner-own (hears-such t p d n S)

pub late-adds : LateAdds
late-adds t S = adds-such t Inner S (late t S) inner-own (late-such t S)

pub ticks-add : TicksAdd
ticks-add t S = adds-such t Inner S (ticks_in_room t S) inner-own (ticks-such t S)

pub asks-answer : AsksAnswer
asks-answer t c a n S x = all-such t _ S (asks_in_room t c a n S) (asks-such t c a n S) x

no-client : (ws : List Written) → AllByRecursion (λ (w : Written). Inner w.deed) ws → HasNoClient ws
no-client ws h = all-more (λ (w : Written). Inner w.deed) (λ (w : Written). by_client w.deed ≡ false) (λ w h. h.0) ws h

pub hears-answer : HearsAnswer
hears-answer t p d n S x = no-client x.more (all-such t Inner S (hears_in_room t p d n S) (hears-such t p d n S) x)

pub ticks-answer : TicksAnswer
ticks-answer t S x = no-client x.more (all-such t Inner S (ticks_in_room t S) (ticks-such t S) x)

abbrev OpenedBy : ℕ → State → List Written → Type 0
OpenedBy t S more =
    (more ≡ []) ⊎ ((more ≡ at_moment t (Opens S.opened) ∷ []) ⊎ (more ≡ at_moment t Seals ∷ []))

pub opens-alone : OpensAlone
opens-alone t S x = sealed S.sealed x.more x.entries
  where
    tail : (ws more : List Written) → S.entries ++ ws ≡ S.entries ++ more → more ≡ ws
    tail ws more e = sym (append_cancel_left S.entries ws more e)

    fit : (b : Bool) (more : List Written)
        → (cond b (opens t S) (seals t S)).entries ≡ S.entries ++ more → OpenedBy t S more
    fit true more e = inr (inl (tail (at_moment t (Opens S.opened) ∷ []) more e))
    fit false more e = inr (inr (tail (at_moment t Seals ∷ []) more e))

    sealed : (b : Bool) (more : List Written)
        → (cond b S (in_room t (opens t S) S)).entries ≡ S.entries ++ more → OpenedBy t S more
    sealed true more e = inl (tail [] more (append-nil S.entries ∙ e))
    sealed false more e = fit (fits (opens t S)) more e
