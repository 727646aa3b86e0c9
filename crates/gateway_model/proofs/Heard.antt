-- What each call of a core adds, as to datagrams that came in.
use Rattle.std.proofs.Common.{◌≡◌, ◌⊎◌, inl, inr, ℕ, ◌≤◌, ◌<◌, Bool, true, false, cond, List, [], ◌∷◌, ◌++◌, length, Option, Some, None, Result, Ok, Err, refl, sym, ap, ◌∙◌, subst}
use Rattle.std.specs.Prelude.{◌&&◌, ◌==◌, fold, filter, map, is_some, nat_le, nat_lt, count_by}
use Rattle.std.specs.List.{list_any, find}
use Rattle.std.proofs.lemmas.Bool.{ltb-false, leb-false}
use Rattle.std.proofs.lemmas.List.{append-nil, append_assoc}
use Rattle.coap_codec.specs.Spelling.{Content}
use Rattle.coap_codec.specs.Reading.{message_at}
use Rattle.coap_codec.specs.declared.fault.CodecFault.{CodecFault}
use Rattle.coap_codec.specs.declared.message.MsgType.{MsgType}
use Rattle.coap_codec.specs.declared.message.MsgType.TheVariants.{Con, Non, Ack, Rst}
use Rattle.uri_map.specs.declared.peer.Peer.{Peer}
use Rattle.message_layer.specs.Values.{LinkState}
use Rattle.message_layer.specs.Hearing.{ignored, is_fresh, is_repeat, is_awaited, is_awaited_by_ack, new_verdict, heard_verdict, rst_verdict, verdict_by, verdict_of, replies, reset_for}
use Rattle.message_layer.specs.declared.state.Heard.{Heard}
use Rattle.message_layer.specs.declared.state.Outstanding.{Outstanding}
use Rattle.message_layer.specs.declared.state.Reply.{Reply}
use Rattle.message_layer.specs.declared.state.Waiting.{Waiting}
use Rattle.message_layer.specs.declared.verdict.News.{News}
use Rattle.message_layer.specs.declared.verdict.Verdict.{Verdict}
use Rattle.message_layer.specs.declared.state.Reply.TheVariants as R
use Rattle.message_layer.specs.declared.verdict.News.TheVariants as N
use Rattle.resp_cache.specs.Stored.{Stored}
use Rattle.ask_model.specs.Sharing.{asked_key}
use Rattle.ask_model.specs.declared.cause.Cause.{Cause}
use Rattle.ask_model.specs.Requests.{CoapRequest, Sense, Requests, Refuses}
use Rattle.ask_model.specs.Views.{Ask}
use Rattle.ask_model.specs.declared.cause.Cause.TheVariants as C
use Rattle.journal_book.specs.Entries.{Kept, Fault, Deed, Opens, Asks, Sends, Hears, Passes, Answers, Shuts, Seals, Written}
use Rattle.exchange_model.specs.Steps.{recalls, opens, asks, shuts, seals, begins, hears_nothing, sends_first, sends_copy, joins}
use Rattle.exchange_model.specs.Matters.{matter_of}
use Rattle.exchange_model.specs.Hearing.{Numbers, hears, is_past, timed_out, passes}
use Rattle.exchange_model.specs.Calls.{asked_for, served_in, serves, next_by, next, refused, has_place, asked_by, asked, given_back, Telling, tells, told_for, told_late, joined, asked_with, takes_new, takes_by, repeats, resets, reads_so, heard, is_due, moves_by, moves, move_all, peer_of, something_due, ticked}
use Rattle.exchange_model.specs.declared.kept.Exchange.{Exchange}
use Rattle.exchange_model.specs.State.{State, link_of}
use Rattle.exchange_model.specs.Entering.{answer_of}
use Rattle.exchange_model.specs.Growing.{at_moment}
use Rattle.exchange_model.specs.Keeping.{IsDone}
use Rattle.exchange_model.specs.Room.{fits, KeptInRoom}
use Rattle.exchange_model.specs.Sealing.{in_room, opens_in_room, asks_in_room, hears_in_room, late, ticks_in_room}
use Rattle.exchange_model.proofs.CallerLemmas.{ticks-do}
use Rattle.history_laws.specs.Hearing.{is_such}
use Rattle.gateway_model.specs.Hearing.{IsUnheard, AreUnheard, is_such_in, may_come_again}

-- what the core keeps tells why a datagram is dropped
abbrev pub KeepsMany : ℕ → Peer → List ℕ → State → Type 0
KeepsMany t p d S = (may_come_again d ≡ true) × (1024 ≤ count_by (is_fresh t) (link_of S.links p).heard)

abbrev pub WhyLost : ℕ → Peer → List ℕ → State → Type 0
WhyLost t p d S = ((link_of S.links p).last_mid ≡ None) ⊎ ((2048 < length d) ⊎ KeepsMany t p d S)

abbrev pub IsLost : ℕ → Peer → List ℕ → State → State → Type 0
IsLost t p d S S1 = (S1.sealed ≡ true) ⊎ WhyLost t p d S

-- A step adds entries of no datagram that came in.
pub record Unheard (S S1 : State) : Type 0 where
  pub more : List Written
  pub entries : S1.entries ≡ S.entries ++ more
  pub unheard : AreUnheard more

unheard-both : (xs ys : List Written) → AreUnheard xs → AreUnheard ys → AreUnheard (xs ++ ys)
unheard-both [] ys a b = b
unheard-both (x ∷ xs) ys a b = (a.0, unheard-both xs ys a.1 b)

pub none : (S : State) → Unheard S S
none S = record { more = []; entries = sym (append-nil S.entries); unheard = tt }

one : (t : ℕ) (d : Deed) (S S1 : State) → S1.entries ≡ S.entries ++ at_moment t d ∷ [] → IsUnheard d → Unheard S S1
one t d S S1 entries i = record { more = at_moment t d ∷ []; entries = entries; unheard = (i, tt) }

pub both : (S S1 S2 : State) → Unheard S S1 → Unheard S1 S2 → Unheard S S2
both S S1 S2 a b = record {
  more = a.more ++ b.more;
  entries =
      b.entries ∙ ap (λ (es : List Written). es ++ b.more) a.entries
      ∙ append_assoc S.entries a.more b.more;
  unheard = unheard-both a.more b.more a.unheard b.unheard;
}

either : (b : Bool) (S S1 S2 : State) → Unheard S S1 → Unheard S S2 → Unheard S (cond b S1 S2)
either true S S1 S2 x y = x
either false S S1 S2 x y = y

all-fold : {X : Type 0} (f : State → X → State) → ((S : State) (x : X) → Unheard S (f S x))
    → (xs : List X) (S : State) → Unheard S (fold f S xs)
all-fold f step [] S = none S
all-fold f step (x ∷ xs) S = both S (f S x) (fold f (f S x) xs) (step S x) (all-fold f step xs (f S x))

seals-unheard : (t : ℕ) (S : State) → Unheard S (seals t S)
seals-unheard t S = one t Seals S (seals t S) refl tt

pub shuts-unheard : (t c : ℕ) (S : State) → Unheard S (shuts t c S)
shuts-unheard t c S = one t (Shuts c) S (shuts t c S) refl tt

next-unheard : (t : ℕ) (p : Peer) (S : State) → Unheard S (next t p S)
next-unheard t p S = by (link_of S.links p).outstanding (link_of S.links p).waiting
  where
    by : (v : Option Outstanding) (ws : List Waiting) → Unheard S (next_by t p v ws S)
    by None [] = none S
    by (Some o) ws = none S
    by None (w ∷ ws) = one t (Sends p _ _) S (sends_first t p w ws S) refl tt

given-unheard : (t : ℕ) (p : Peer) (bs : List (List ℕ)) (S : State) → Unheard S (given_back t p bs S)
given-unheard t p [] S = none S
given-unheard t p (b ∷ bs) S =
    both S _ (given_back t p (b ∷ bs) S) (one t (Sends p b None) S _ refl tt) (given-unheard t p bs _)

turn-unheard : (t : ℕ) (S : State) (p : Peer) → Unheard S (moves t S p)
turn-unheard t S p = by (link_of S.links p).outstanding
  where
    by : (v : Option Outstanding) → Unheard S (moves_by t p v S)
    by None = next-unheard t p S
    by (Some o) = either (is_due t (Some o)) S (sends_copy t p o S) S
        (one t (Sends p _ None) S (sends_copy t p o S) refl tt) (none S)

all-told-unheard : (t : ℕ) (xs : List Telling) (S : State) → Unheard S (fold (tells t) S xs)
all-told-unheard t xs S = all-fold (tells t) (λ S x. one t (answer_of x) S (tells t S x) refl tt) xs S

in-room : (t : ℕ) (S S1 : State) → Unheard S S1 → Unheard S (in_room t S1 S)
in-room t S S1 x = either (fits S1) S S1 (seals t S) x (seals-unheard t S)

pub opens-unheard : (t : ℕ) (S : State) → Unheard S (opens_in_room t S)
opens-unheard t S = either S.sealed S S (in_room t (opens t S) S) (none S)
    (in-room t S (opens t S) (one t (Opens S.opened) S (opens t S) refl tt))

asked-unheard : (t c : ℕ) (a : Ask) (n : Numbers) (S : State) → Unheard S (asked t c a n S)
asked-unheard t c a n S = sense a.sense
  where
    turned_away : (cause : Cause) → Unheard S (refused t c a cause S)
    turned_away cause =
        both S (asks t c a S) (refused t c a cause S) (one t (Asks c a) S (asks t c a S) refl tt)
        (one t (Answers c (length S.entries) (Fault cause (length S.entries))) (asks t c a S) (refused t c a cause S) refl tt)

    begun : (q : CoapRequest) → Unheard S (next t q.peer (begins t c a q n.token n.text n.word S))
    begun q =
        let S1 = begins t c a q n.token n.text n.word S in
        both S S1 (next t q.peer S1) (one t (Asks c a) S S1 refl tt) (next-unheard t q.peer S1)

    sense : (s : Sense) → Unheard S (asked_by s t c a n S)
    sense (Refuses cause status) = turned_away cause
    sense (Requests q) = for (served_in q t S)
      where
        with : (v : Option Exchange) → Unheard S (asked_with v t c a q n S)
        with (Some e) = one t (Asks c a) S (joins t c a e.opening S) refl tt
        with None = either (has_place t q.peer S)
            S (next t q.peer (begins t c a q n.token n.text n.word S)) (refused t c a C.Busy S)
            (begun q) (turned_away C.Busy)

        for : (v : Option Stored) → Unheard S (asked_for v t c a q n S)
        for (Some s) =
            let S1 = recalls t c a (asked_key q) S in
            both S S1 (serves t c a q s S) (one t (Asks c a) S S1 refl tt)
            (one t (Answers c (length S.entries) (Kept s.list)) S1 (serves t c a q s S) refl tt)
        for None = with (joined q S)

pub asks-unheard : (t c : ℕ) (a : Ask) (n : Numbers) (S : State) → Unheard S (asks_in_room t c a n S)
asks-unheard t c a n S = either S.sealed S S (in_room t (asked t c a n S) S) (none S)
    (in-room t S (asked t c a n S) (asked-unheard t c a n S))

-- a tick

late-unheard : (t : ℕ) (S : State) → Unheard S (late t S)
late-unheard t S = all-told-unheard t (told_late (filter (is_past t) S.exchanges) S.readers) S

-- Something stands first.
pub record Firstly (t : ℕ) (d : Deed) (S S1 : State) : Type 0 where
  pub rest : List Written
  pub entries : S1.entries ≡ S.entries ++ at_moment t d ∷ rest
  pub unheard : AreUnheard rest

first : (t : ℕ) (d : Deed) (S S1 S2 : State) → S1.entries ≡ S.entries ++ at_moment t d ∷ [] → Unheard S1 S2 → Firstly t d S S2
first t d S S1 S2 e x = record {
  rest = x.more;
  entries =
      x.entries ∙ ap (λ (es : List Written). es ++ x.more) e
      ∙ append_assoc S.entries (at_moment t d ∷ []) x.more;
  unheard = x.unheard;
}

pub firstly-then : (t : ℕ) (d : Deed) (S S1 S2 : State) → Firstly t d S S1 → Unheard S1 S2 → Firstly t d S S2
firstly-then t d S S1 S2 a b = record {
  rest = a.rest ++ b.more;
  entries =
      b.entries ∙ ap (λ (es : List Written). es ++ b.more) a.entries
      ∙ append_assoc S.entries (at_moment t d ∷ a.rest) b.more;
  unheard = unheard-both a.rest b.more a.unheard b.unheard;
}

tick-unheard : (t : ℕ) (S : State)
    → Unheard (passes t S) (fold (tells t) (move_all t (passes t S)) (told_late (timed_out t S) S.readers))
tick-unheard t S =
    let S1 = passes t S in
    let S2 = move_all t S1 in
    both S1 S2 (fold (tells t) S2 (told_late (timed_out t S) S.readers))
    (all-fold (moves t) (turn-unheard t) (map peer_of S1.links) S1)
    (all-told-unheard t (told_late (timed_out t S) S.readers) S2)

ticked-unheard : (t : ℕ) (S : State) → Unheard S (ticked t S)
ticked-unheard t S =
    either (something_due t S) S (fold (tells t) (move_all t (passes t S)) (told_late (timed_out t S) S.readers)) S
    (both S (passes t S) (fold (tells t) (move_all t (passes t S)) (told_late (timed_out t S) S.readers))
    (one t Passes S (passes t S) refl tt) (tick-unheard t S)) (none S)

pub ticks-unheard : (t : ℕ) (S : State) → Unheard S (ticks_in_room t S)
ticks-unheard t S =
    either S.sealed S (late t S) _ (late-unheard t S)
    (either (fits (ticked t S)) S (ticked t S) (late t (seals t S)) (ticked-unheard t S)
    (both S (seals t S) (late t (seals t S)) (seals-unheard t S) (late-unheard t (seals t S))))

pub late-sealed : (t : ℕ) (S : State) → S.sealed ≡ true → (late t S).sealed ≡ true
late-sealed t S e = all (told_late (filter (is_past t) S.exchanges) S.readers) S e
  where
    all : (xs : List Telling) (S : State) → S.sealed ≡ true → (fold (tells t) S xs).sealed ≡ true
    all [] S e = e
    all (x ∷ xs) S e = all xs (tells t S x) e

-- After a tick all that was due is done, and that time passed stands first; or the journal is sealed.
pub ticks-first : (t : ℕ) (S : State) → KeptInRoom S → S.moment ≤ t
    → ((ticks_in_room t S).sealed ≡ true)
    ⊎ (IsDone t (ticks_in_room t S) × (something_due t S ≡ true → Firstly t Passes S (ticks_in_room t S))
    × (something_due t S ≡ false → ticks_in_room t S ≡ S))
ticks-first t S kept le = by S.sealed refl
  where
    due : (b : Bool) → b ≡ true → Firstly t Passes S (cond b (fold (tells t) (move_all t (passes t S)) (told_late (timed_out t S) S.readers)) S)
    due true e = first t Passes S (passes t S) (fold (tells t) (move_all t (passes t S)) (told_late (timed_out t S) S.readers)) refl (tick-unheard t S)
    due false e = absurd cc

    idle : (b : Bool) → b ≡ false → cond b (fold (tells t) (move_all t (passes t S)) (told_late (timed_out t S) S.readers)) S ≡ S
    idle true e = absurd cc
    idle false e = refl

    fit : S.sealed ≡ false → (b : Bool)
        → ((cond b (ticked t S) (late t (seals t S))).sealed ≡ true)
        ⊎ (IsDone t (cond b (ticked t S) (late t (seals t S)))
        × (something_due t S ≡ true → Firstly t Passes S (cond b (ticked t S) (late t (seals t S))))
        × (something_due t S ≡ false → cond b (ticked t S) (late t (seals t S)) ≡ S))
    fit s true = inr (
      ticks-do t S (record { kept = kept.kept; unsealed = s; later = le }),
      λ e. due (something_due t S) e,
      λ e. idle (something_due t S) e,
    )
    fit s false = inl (late-sealed t (seals t S) refl)

    by : (b : Bool) → S.sealed ≡ b
        → ((cond b (late t S) (cond (fits (ticked t S)) (ticked t S) (late t (seals t S)))).sealed ≡ true)
        ⊎ (IsDone t (cond b (late t S) (cond (fits (ticked t S)) (ticked t S) (late t (seals t S))))
        × (something_due t S ≡ true → Firstly t Passes S (cond b (late t S) (cond (fits (ticked t S)) (ticked t S) (late t (seals t S)))))
        × (something_due t S ≡ false → cond b (late t S) (cond (fits (ticked t S)) (ticked t S) (late t (seals t S))) ≡ S))
    by true s = inl (late-sealed t S s)
    by false s = fit s (fits (ticked t S))

-- a datagram

-- Only where the memory is full a message is lost, and only one that may come again.
lost-crowded : (t : ℕ) (s : LinkState) (m : Content) → (verdict_of t s m).news ≡ N.Lost
    → (is_such m.kind ≡ true) × (1024 ≤ count_by (is_fresh t) s.heard)
lost-crowded t s m e = kind m.kind e
  where
    fresh : (n : ℕ) (b : Bool) (r : Reply) (q : Bool) (v : Verdict) → (nat_lt (count_by (is_fresh t) s.heard) 1024) ≡ b
        → (v.news ≡ N.Lost → ⊥)
        → (cond b v (record { reply = R.Nothing; remembered = false; ends = false; news = N.Lost })).news ≡ N.Lost
        → 1024 ≤ count_by (is_fresh t) s.heard
    fresh n true r q v b other e = absurd (other e)
    fresh n false r q v b other e = ltb-false (count_by (is_fresh t) s.heard) 1024 b

    ack : (x y : Bool) (a b c : Verdict) → (a.news ≡ N.Lost → ⊥) → (b.news ≡ N.Lost → ⊥) → (c.news ≡ N.Lost → ⊥)
        → (cond x a (cond y b c)).news ≡ N.Lost → ⊥
    ack true y a b c p q r e = p e
    ack false true a b c p q r e = q e
    ack false false a b c p q r e = r e

    quiet : N.Quiet ≡ N.Lost → ⊥
    quiet e = cc

    response : N.Response ≡ N.Lost → ⊥
    response e = cc

    reset : (token : List ℕ) → N.Reset token ≡ N.Lost → ⊥
    reset token e = cc

    either_news : (z : Bool) → cond z N.Response N.Quiet ≡ N.Lost → ⊥
    either_news true e = response e
    either_news false e = quiet e

    found : (confirms : Bool) (o : Option Heard) → (heard_verdict t s m confirms o).news ≡ N.Lost → 1024 ≤ count_by (is_fresh t) s.heard
    found confirms (Some h) e = absurd cc
    found confirms None e =
        fresh 0 (nat_lt (count_by (is_fresh t) s.heard) 1024) R.Nothing true
        (new_verdict s m (cond confirms R.Ack R.Nothing) (cond confirms R.Rst R.Nothing)) refl
        (ack (m.code == 0) (nat_lt 31 m.code && list_any (is_awaited m.token) s.awaited) _ _ _ quiet response quiet) e

    rst : (o : Option Outstanding) → (rst_verdict m o).news ≡ N.Lost → ⊥
    rst None e = quiet e
    rst (Some o) e = one ((m.code == 0) && (o.mid == m.mid))
        (record { reply = R.Nothing; remembered = false; ends = true; news = N.Reset o.token }) ignored (reset o.token) quiet e
      where
        one : (b : Bool) (x y : Verdict) → (x.news ≡ N.Lost → ⊥) → (y.news ≡ N.Lost → ⊥) → (cond b x y).news ≡ N.Lost → ⊥
        one true x y p q e = p e
        one false x y p q e = q e

    kind : (k : MsgType) → (verdict_by t s m k).news ≡ N.Lost → (is_such k ≡ true) × (1024 ≤ count_by (is_fresh t) s.heard)
    kind Con e = (refl, found true (find (is_repeat t m.mid) s.heard) e)
    kind Non e = (refl, found false (find (is_repeat t m.mid) s.heard) e)
    kind Ack e = absurd (ack (m.code == 0) (nat_lt 31 m.code) _ _ ignored quiet
        (either_news (list_any (is_awaited_by_ack m.mid m.token) s.awaited)) quiet e)
    kind Rst e = absurd (rst s.outstanding e)

-- It stands first; or nothing changes, since it was lost.
reads-first : (t : ℕ) (p : Peer) (d : List ℕ) (n : Numbers) (S : State)
    → Firstly t (Hears p d) S (reads_so t p d n (message_at d) S) ⊎ ((reads_so t p d n (message_at d) S ≡ S) × KeepsMany t p d S)
reads-first t p d n S = read (message_at d) refl
  where
    nothing : (bs : List (List ℕ)) → Firstly t (Hears p d) S (given_back t p bs (hears_nothing t p d S))
    nothing bs = first t (Hears p d) S (hears_nothing t p d S) _ refl (given-unheard t p bs (hears_nothing t p d S))

    new : (m : Content) (v : Verdict) → Firstly t (Hears p d) S (takes_new t p d m v n S)
    new m v =
        let S1 = hears t p d m n S in
        let S2 = given_back t p (replies m.mid v.reply) S1 in
        let S3 = next t p S2 in
        first t (Hears p d) S S1 (takes_new t p d m v n S) refl
        (both S1 S3 (takes_new t p d m v n S)
        (both S1 S2 S3 (given-unheard t p (replies m.mid v.reply) S1) (next-unheard t p S2))
        (all-told-unheard t (told_for (length S.entries) (matter_of t p m v S) S.readers) S3))

    taken : (m : Content) (v : Verdict) → (v.news ≡ N.Lost → KeepsMany t p d S) → (news : News) → v.news ≡ news
        → Firstly t (Hears p d) S (takes_by t p d m v n news S) ⊎ ((takes_by t p d m v n news S ≡ S) × KeepsMany t p d S)
    taken m v crowded N.Lost e = inr (refl, crowded e)
    taken m v crowded N.Quiet e = inl (new m v)
    taken m v crowded N.Response e = inl (new m v)
    taken m v crowded (N.Reset token) e = inl (new m v)

    message : (m : Content) (v : Verdict) → (v.news ≡ N.Lost → KeepsMany t p d S) → (b : Bool)
        → Firstly t (Hears p d) S (cond b (given_back t p (replies m.mid v.reply) (hears_nothing t p d S)) (takes_by t p d m v n v.news S))
        ⊎ ((cond b (given_back t p (replies m.mid v.reply) (hears_nothing t p d S)) (takes_by t p d m v n v.news S) ≡ S) × KeepsMany t p d S)
    message m v crowded true = inl (nothing (replies m.mid v.reply))
    message m v crowded false = taken m v crowded v.news refl

    read : (r : Result Content CodecFault) → message_at d ≡ r → Firstly t (Hears p d) S (reads_so t p d n r S) ⊎ ((reads_so t p d n r S ≡ S) × KeepsMany t p d S)
    read (Ok m) is =
        message m (verdict_of t (link_of S.links p) m)
        (λ e. let it = lost-crowded t (link_of S.links p) m e in (ap is_such_in is ∙ it.0, it.1)) (repeats t (link_of S.links p) m)
    read (Err e) is = inl (nothing (resets (reset_for d)))

none-said : (o : Option ℕ) → is_some o ≡ false → o ≡ None
none-said None e = refl
none-said (Some n) e = absurd cc

heard-first : (t : ℕ) (p : Peer) (d : List ℕ) (n : Numbers) (S : State)
    → Firstly t (Hears p d) S (heard t p d n S) ⊎ ((heard t p d n S ≡ S)
    × WhyLost t p d S)
heard-first t p d n S = known (is_some (link_of S.links p).last_mid) refl
  where
    lost : Firstly t (Hears p d) S (reads_so t p d n (message_at d) S) ⊎ ((reads_so t p d n (message_at d) S ≡ S) × KeepsMany t p d S)
        → Firstly t (Hears p d) S (reads_so t p d n (message_at d) S) ⊎ ((reads_so t p d n (message_at d) S ≡ S)
        × WhyLost t p d S)
    lost (inl f) = inl f
    lost (inr k) = inr (k.0, inr (inr k.1))

    short : (b : Bool) → nat_le (length d) 2048 ≡ b
        → Firstly t (Hears p d) S (cond b (reads_so t p d n (message_at d) S) S)
        ⊎ ((cond b (reads_so t p d n (message_at d) S) S ≡ S)
        × WhyLost t p d S)
    short true e = lost (reads-first t p d n S)
    short false e = inr (refl, inr (inl (leb-false (length d) 2048 e)))

    known : (b : Bool) → is_some (link_of S.links p).last_mid ≡ b
        → Firstly t (Hears p d) S (cond (b && nat_le (length d) 2048) (reads_so t p d n (message_at d) S) S)
        ⊎ ((cond (b && nat_le (length d) 2048) (reads_so t p d n (message_at d) S) S ≡ S)
        × WhyLost t p d S)
    known true e = short (nat_le (length d) 2048) refl
    known false e = inr (refl, inl (none-said (link_of S.links p).last_mid e))

pub hears-first : (t : ℕ) (p : Peer) (d : List ℕ) (n : Numbers) (S : State)
    → Firstly t (Hears p d) S (hears_in_room t p d n S)
    ⊎ (Unheard S (hears_in_room t p d n S) × IsLost t p d S (hears_in_room t p d n S))
hears-first t p d n S = by S.sealed refl
  where
    came : Firstly t (Hears p d) S (heard t p d n S) ⊎ ((heard t p d n S ≡ S)
        × WhyLost t p d S)
        → Firstly t (Hears p d) S (heard t p d n S) ⊎ (Unheard S (heard t p d n S) × IsLost t p d S (heard t p d n S))
    came (inl f) = inl f
    came (inr k) = inr (subst (λ (S1 : State). Unheard S S1) (sym k.0) (none S), inr k.1)

    fit : (b : Bool) → Firstly t (Hears p d) S (cond b (heard t p d n S) (seals t S))
        ⊎ (Unheard S (cond b (heard t p d n S) (seals t S)) × IsLost t p d S (cond b (heard t p d n S) (seals t S)))
    fit true = came (heard-first t p d n S)
    fit false = inr (seals-unheard t S, inl refl)

    by : (b : Bool) → S.sealed ≡ b → Firstly t (Hears p d) S (cond b S (cond (fits (heard t p d n S)) (heard t p d n S) (seals t S)))
        ⊎ (Unheard S (cond b S (cond (fits (heard t p d n S)) (heard t p d n S) (seals t S)))
        × IsLost t p d S (cond b S (cond (fits (heard t p d n S)) (heard t p d n S) (seals t S))))
    by true e = inr (none S, inl e)
    by false e = fit (fits (heard t p d n S))
