-- What each call takes of a journal's room.
use Rattle.std.proofs.Common.{◌≡◌, ℕ, ◌+◌, ◌≤◌, Bool, true, false, cond, leb, inl, inr, List, [], ◌∷◌, length, map, Option, Some, None, Result, Ok, Err, refl, sym, ap, ◌∙◌, arith, length-append}
use Rattle.std.specs.Prelude.{count_by, is_some, ◌&&◌}
use Rattle.std.proofs.lemmas.Bool.{leb-true}
use Rattle.std.proofs.lemmas.List.{length-map}
use Rattle.std.proofs.lemmas.Bool.Decides.{eqb_tells}
use Rattle.coap_codec.specs.Spelling.{Content}
use Rattle.coap_codec.specs.Reading.{message_at}
use Rattle.coap_codec.specs.declared.fault.CodecFault.{CodecFault}
use Rattle.uri_map.specs.declared.peer.Peer.{Peer}
use Rattle.message_layer.specs.Values.{LinkState}
use Rattle.message_layer.specs.Hearing.{reset_for, replies, verdict_of}
use Rattle.message_layer.specs.declared.state.Reply.{Reply}
use Rattle.message_layer.specs.declared.verdict.News.{News}
use Rattle.message_layer.specs.declared.verdict.Verdict.{Verdict}
use Rattle.message_layer.specs.declared.state.Reply.TheVariants as R
use Rattle.message_layer.specs.declared.verdict.News.TheVariants as N
use Rattle.resp_cache.specs.Stored.{Stored}
use Rattle.ask_model.specs.Sharing.{asked_key}
use Rattle.ask_model.specs.declared.cause.Cause.{Cause}
use Rattle.ask_model.specs.Requests.{CoapRequest, Sense, Requests, Refuses}
use Rattle.ask_model.specs.Views.{Ask}
use Rattle.ask_model.specs.Sizes.{came_size}
use Rattle.ask_model.specs.declared.cause.Cause.TheVariants as C
use Rattle.journal_book.specs.Entries.{Kept, Fault}
use Rattle.history_laws.specs.Progress.{Progress}
use Rattle.history_laws.specs.Readings.{Noted}
use Rattle.exchange_model.specs.Watching.{is_one_of}
use Rattle.exchange_model.specs.Steps.{recalls, joins, opens, asks, begins, hears_nothing, unwatched}
use Rattle.exchange_model.specs.Matters.{Matter, Nothing, Tells, Goes, Over, matter_of, Starts}
use Rattle.exchange_model.specs.Hearing.{gone_by, Numbers, more_by, link_with, hears}
use Rattle.exchange_model.specs.Calls.{served_in, serves, asked_for, joined, asked_with, next, refused, has_place, asked_by, asked, given_back, takes_new, takes_by, repeats, resets, reads_so, goes_with, goes_as, goes_by, heard}
use Rattle.exchange_model.specs.declared.kept.Conn.{Conn}
use Rattle.exchange_model.specs.declared.kept.Exchange.{Exchange}
use Rattle.exchange_model.specs.State.{State, link_of, pend}
use Rattle.exchange_model.specs.Reads.{Reads}
use Rattle.exchange_model.specs.Resting.{HasConn}
use Rattle.exchange_model.specs.Room.{IsShort, has_asked}
use Rattle.exchange_model.proofs.Quiet.{served-stored}
use Rattle.exchange_model.proofs.Brief.{stored-few}
use Rattle.exchange_model.proofs.Adding.{Adds, stays, both-add, at-most, counted, still-adds, given-adds, next-adds, answers-adds}
use Rattle.exchange_model.proofs.ToldAdds.{IsBrief, for-adds, Served}
use Rattle.exchange_model.proofs.Heeded.{given-conns, next-conns}
use Rattle.exchange_model.proofs.Tallies.{id-once}
use Rattle.exchange_model.proofs.Tidy.{Tidy, short-link, tidy-with, short-queued, short-heard}
use Rattle.exchange_model.proofs.Waiting.{opens-none, asks-more}

pub opens-adds : (t : ℕ) (S : State) → Tidy S.links → Adds 2 128 S (opens t S)
opens-adds t S h =
    let all = length-append S.conns (record { id = S.opened; pending = None } ∷ []) in
    let none = opens-none S.opened S.conns in
    counted 2 128 S (opens t S) _ refl refl refl h (omega (arith, all, none)) (omega (arith, all, none))

-- An ask, its message and its answer.

has-asked : (c n : ℕ) (p : Option ℕ) (cs : List Conn) → HasConn cs c p
    → HasConn (map (pend c (Some n)) cs) c (Some n)
has-asked c n p [] h = absurd h
has-asked c n p (x ∷ xs) (inr h) = inr (has-asked c n p xs h)
has-asked c n p (x ∷ xs) (inl h) = inl
    (elim (eqb_tells x.id c) [ inl w ↦ rw (w.0) (h.0, refl) | inr w ↦ absurd (w.1 h.0) ])

asks-counts : (l : List Noted) (t c : ℕ) (a : Ask) (S S1 : State) → Reads l S
    → S1.entries ≡ (asks t c a S).entries → S1.given ≡ S.given → S1.sealed ≡ S.sealed → S1.conns ≡ (asks t c a S).conns
    → Tidy S1.links
    → Adds 2 (90064 + came_size a.came) S S1
asks-counts l t c a S S1 r is given same conns tidy =
    let all = ap (λ (cs : List Conn). length cs) conns ∙ length-map S.conns
    (pend c (Some (length S.entries))) in
    let waiting = ap (count_by has_asked) conns in
    let more = asks-more c (length S.entries) S.conns in
    let once = id-once l S c r in
    counted 2 (90064 + came_size a.came) S S1 _ is given same tidy
    (omega (arith, all, waiting, more, once)) (omega (arith, all, waiting, more, once))

refused-adds : (l : List Noted) (t c : ℕ) (a : Ask) (cause : Cause) (S : State) → Reads l S
    → Tidy S.links → HasConn S.conns c None
    → Adds 2 (90064 + came_size a.came) S (refused t c a cause S)
refused-adds l t c a cause S r h has =
    let one = asks-counts l t c a S (asks t c a S) r refl refl refl refl h in
    let two = answers-adds t c (length S.entries) (Fault cause (length S.entries)) (asks t c a S) h
    (has-asked c (length S.entries) None S.conns has) (omega arith) in
    at-most 2 (90064 + came_size a.came + 0) 2 (90064 + came_size a.came) S (refused t c a cause S)
    (omega arith) (omega arith)
    (both-add 2 (90064 + came_size a.came) 0 0 S (asks t c a S) (refused t c a cause S) one two)

begun-adds : (l : List Noted) (t c : ℕ) (a : Ask) (q : CoapRequest) (n : Numbers) (S : State)
    → Reads l S → Tidy S.links → length n.text ≤ 2024
    → Adds 3 (92152 + came_size a.came) S (next t q.peer (begins t c a q n.token n.text n.word S))
begun-adds l t c a q n S r h short =
    let S1 = begins t c a q n.token n.text n.word S in
    let tidy = tidy-with q.peer _ S.links h
    (short-queued t (unwatched q S) n.token n.text n.word
    (record { outstanding = (short-link S.links q.peer h.short).outstanding; waiting = (short-link S.links q.peer h.short).waiting }) short) in
    let one = asks-counts l t c a S S1 r refl refl refl refl tidy in
    let two = next-adds t q.peer S1 tidy in
    at-most 3 (90064 + came_size a.came + 2088) 3 (92152 + came_size a.came) S (next t q.peer S1)
    (omega arith) (omega arith)
    (both-add 2 (90064 + came_size a.came) 1 2088 S S1 (next t q.peer S1) one two)

pub asked-adds : (l : List Noted) (t c : ℕ) (a : Ask) (n : Numbers) (S : State) → Reads l S
    → Tidy S.links → HasConn S.conns c None → length n.text ≤ 2024
    → Adds 3 (92152 + came_size a.came) S (asked t c a n S)
asked-adds l t c a n S r h has short = by a.sense
  where
    turned_away : (cause : Cause) → Adds 3 (92152 + came_size a.came) S (refused t c a cause S)
    turned_away cause = at-most 2 (90064 + came_size a.came) 3 (92152 + came_size a.came) S
        (refused t c a cause S) (omega arith) (omega arith) (refused-adds l t c a cause S r h has)

    by : (s : Sense) → Adds 3 (92152 + came_size a.came) S (asked_by s t c a n S)
    by (Refuses cause status) = turned_away cause
    by (Requests q) = for (served_in q t S) refl
      where
        joining : (e : Exchange) → Adds 3 (92152 + came_size a.came) S (joins t c a e.opening S)
        joining e = at-most 2 (90064 + came_size a.came) 3 (92152 + came_size a.came) S
            (joins t c a e.opening S) (omega arith) (omega arith)
            (asks-counts l t c a S (joins t c a e.opening S) r refl refl refl refl h)

        place : (b : Bool)
            → Adds 3 (92152 + came_size a.came) S
            (cond b (next t q.peer (begins t c a q n.token n.text n.word S))
            (refused t c a C.Busy S))
        place true = begun-adds l t c a q n S r h short
        place false = turned_away C.Busy

        with : (v : Option Exchange) → Adds 3 (92152 + came_size a.came) S (asked_with v t c a q n S)
        with (Some e) = joining e
        with None = place (has_place t q.peer S)

        -- Of what is stored the replies are named.
        serving : (s : Stored) → length s.list ≤ 4098 → Adds 3 (92152 + came_size a.came) S (serves t c a q s S)
        serving s few =
            let S1 = recalls t c a (asked_key q) S in
            at-most 2 (90064 + came_size a.came + 0) 3 (92152 + came_size a.came) S (serves t c a q s S)
            (omega arith) (omega arith)
            (both-add 2 (90064 + came_size a.came) 0 0 S S1 (serves t c a q s S)
            (asks-counts l t c a S S1 r refl refl refl refl h)
            (answers-adds t c (length S.entries) (Kept s.list) S1 h
            (has-asked c (length S.entries) None S.conns has) (omega (arith, few))))

        for : (v : Option Stored) → served_in q t S ≡ v → Adds 3 (92152 + came_size a.came) S (asked_for v t c a q n S)
        for (Some s) is = serving s (stored-few l q s r.legal (served-stored l t q s S r is).0)
        for None is = with (joined q S)

-- A datagram, its ACK or RST, the next message, and an answer.

nothing-adds : (t : ℕ) (p : Peer) (d : List ℕ) (S : State) → Tidy S.links → length d ≤ 2048
    → Adds 1 2112 S (hears_nothing t p d S)
nothing-adds t p d S h short = still-adds 2112 S (hears_nothing t p d S) _ refl refl refl refl h
    (omega (arith, short))

answered-adds : (t : ℕ) (p : Peer) (d : List ℕ) (mid : ℕ) (r : Reply) (S : State) → Tidy S.links
    → length d ≤ 2048 → Adds 3 4268 S (given_back t p (replies mid r) (hears_nothing t p d S))
answered-adds t p d mid r S h short =
    let one = nothing-adds t p d S h short in
    at-most 2 2180 3 4268 S _ (omega arith) (omega arith)
    (both-add 1 2112 1 68 S (hears_nothing t p d S) _ one
    (given-adds t p mid r (hears_nothing t p d S) h))

-- The message that an exchange goes on or begins with is short.
abbrev pub IsShortBy : Matter → Numbers → Type 0
IsShortBy x n = (e : Exchange) (progress : Progress) → goes_with x ≡ Some (e, progress) → length n.text ≤ 2024

short-more : (t : ℕ) (x : Matter) (n : Numbers) (s : LinkState) → IsShortBy x n → IsShort s → IsShort (link_with t (more_by n x) s)
short-more t Nothing n s h short = short
short-more t (Tells r stored) n s h short = short
short-more t (Over e how) n s h short = short
short-more t (Starts r e progress) n s h short = short-queued t s n.token n.text n.word short (h e progress refl)
short-more t (Goes e progress) n s h short = short-queued t s n.token n.text n.word short (h e progress refl)

new-adds : (t : ℕ) (p : Peer) (d : List ℕ) (m : Content) (v : Verdict) (n : Numbers) (S : State) → Tidy S.links
    → Served S → length d ≤ 2048
    → IsShortBy (matter_of t p m (verdict_of t (link_of S.links p) m) S) n → IsBrief (length S.entries) (matter_of t p m v S)
    → Adds 3 4268 S (takes_new t p d m v n S)
new-adds t p d m v n S h served short little brief =
    let S1 = hears t p d m n S in
    let x = matter_of t p m (verdict_of t (link_of S.links p) m) S in
    let tidy = tidy-with p _ S.links h
    (short-more t x n _ little (short-heard t m.mid m.token (is_one_of (gone_by m S.entries x S.watches)) (verdict_of t (link_of S.links p) m) (link_of S.links p)
    (short-link S.links p h.short))) in
    let one = still-adds 2112 S S1 _ refl refl refl refl tidy (omega (arith, short)) in
    let S2 = given_back t p (replies m.mid v.reply) S1 in
    let two = given-adds t p m.mid v.reply S1 tidy in
    let S3 = next t p S2 in
    let three = next-adds t p S2 two.tidy in
    let four = for-adds t (length S.entries) (matter_of t p m v S) S.readers S3 three.tidy
    (rw (next-conns t p S2, given-conns t p (replies m.mid v.reply) S1) served.waits) served.apart brief in
    at-most 3 4268 3 4268 S _ (omega arith) (omega arith)
    (both-add 3 4268 0 0 S S3 _
    (both-add 2 2180 1 2088 S S2 S3 (both-add 1 2112 1 68 S S1 S2 one two) three) four)

-- Of a message that is new, what an exchange ends with by it isn't long.
abbrev pub IsBriefBy : ℕ → Peer → List ℕ → State → Type 0
IsBriefBy t p d S =
    (m : Content) → message_at d ≡ Ok m → repeats t (link_of S.links p) m ≡ false
    → ((verdict_of t (link_of S.links p) m).news ≡ N.Lost → ⊥) → is_some (link_of S.links p).last_mid ≡ true → leb (length d) 2048 ≡ true
    → IsBrief (length S.entries) (matter_of t p m (verdict_of t (link_of S.links p) m) S)

pub heard-adds : (t : ℕ) (p : Peer) (d : List ℕ) (n : Numbers) (S : State) → Tidy S.links
    → Served S → (is_some (goes_by t p d S) ≡ true → length n.text ≤ 2024) → IsBriefBy t p d S → Adds 3 4268 S (heard t p d n S)
heard-adds t p d n S h served little brief = by (is_some (link_of S.links p).last_mid) refl (leb (length d) 2048) refl
  where
    s : LinkState
    s = link_of S.links p

    brings : (m : Content) → message_at d ≡ Ok m → repeats t s m ≡ false → IsShortBy (matter_of t p m (verdict_of t s m) S) n
    brings m is again e progress at =
        little (ap (λ (r : Result Content CodecFault). is_some (goes_as t p r S)) is
        ∙ (ap (λ (b : Bool). is_some (cond b None (goes_with (matter_of t p m (verdict_of t s m) S)))) again
        ∙ ap is_some at))

    by : (b : Bool) → is_some s.last_mid ≡ b → (c : Bool) → leb (length d) 2048 ≡ c
        → Adds 3 4268 S (cond (b && c) (reads_so t p d n (message_at d) S) S)
    by true known true is = read (message_at d) refl
      where
        short : length d ≤ 2048
        short = leb-true _ _ is

        new : (m : Content) → message_at d ≡ Ok m → repeats t s m ≡ false → ((verdict_of t s m).news ≡ N.Lost → ⊥)
            → Adds 3 4268 S (takes_new t p d m (verdict_of t s m) n S)
        new m at again kept = new-adds t p d m (verdict_of t s m) n S h served short (brings m at again) (brief m at again kept known is)

        taken : (m : Content) → message_at d ≡ Ok m → repeats t s m ≡ false → (news : News) → (verdict_of t s m).news ≡ news
            → Adds 3 4268 S (takes_by t p d m (verdict_of t s m) n news S)
        taken m at again N.Lost told = stays 3 4268 S h
        taken m at again N.Quiet told = new m at again (λ lost. quiet-lost (sym told ∙ lost))
          where
            quiet-lost : N.Quiet ≡ N.Lost → ⊥
            quiet-lost e = cc
        taken m at again N.Response told = new m at again (λ lost. response-lost (sym told ∙ lost))
          where
            response-lost : N.Response ≡ N.Lost → ⊥
            response-lost e = cc
        taken m at again (N.Reset token) told = new m at again (λ lost. reset-lost (sym told ∙ lost))
          where
            reset-lost : N.Reset token ≡ N.Lost → ⊥
            reset-lost e = cc

        message : (m : Content) → message_at d ≡ Ok m → (b : Bool) → repeats t s m ≡ b
            → Adds 3 4268 S
            (cond b (given_back t p (replies m.mid (verdict_of t s m).reply) (hears_nothing t p d S))
            (takes_by t p d m (verdict_of t s m) n (verdict_of t s m).news S))
        message m at true again = answered-adds t p d m.mid (verdict_of t s m).reply S h short
        message m at false again = taken m at again (verdict_of t s m).news refl

        reset : (v : Option ℕ) → Adds 3 4268 S (given_back t p (resets v) (hears_nothing t p d S))
        reset None = answered-adds t p d 0 R.Nothing S h short
        reset (Some mid) = answered-adds t p d mid R.Rst S h short

        read : (r : Result Content CodecFault) → message_at d ≡ r → Adds 3 4268 S (reads_so t p d n r S)
        read (Ok m) at = message m at (repeats t s m) refl
        read (Err e) at = reset (reset_for d)
    by true known false is = stays 3 4268 S h
    by false none c is = stays 3 4268 S h
