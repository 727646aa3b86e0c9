-- What a datagram leaves.
use Rattle.std.proofs.Common.{◌≡◌, ℕ, ◌⊎◌, inl, inr, ◌+◌, Bool, true, false, cond, leb, List, [], ◌∷◌, ◌++◌, length, map, Option, Some, None, Result, Ok, Err, refl, sym, ap, ◌∙◌, arith, append_assoc, append-nil}
use Rattle.message_layer.specs.Sending.{waits}
use Rattle.std.specs.Prelude.{fold, ◌&&◌}
use Rattle.std.proofs.lemmas.Bool.{false≢true, le-leb}
use Rattle.std.proofs.lemmas.List.{length-map}
use Rattle.limits.specs.declared.TheConstants.{MAX_DATAGRAM_LEN}
use Rattle.coap_codec.specs.Spelling.{Content}
use Rattle.coap_codec.specs.Reading.{message_at}
use Rattle.coap_codec.specs.declared.fault.CodecFault.{CodecFault}
use Rattle.uri_map.specs.declared.peer.Peer.{Peer}
use Rattle.message_layer.specs.Values.{LinkState}
use Rattle.message_layer.specs.Hearing.{replies, reset_for, verdict_of, applied}
use Rattle.message_layer.specs.declared.state.Outstanding.{Outstanding}
use Rattle.message_layer.specs.declared.state.Waiting.{Waiting}
use Rattle.message_layer.specs.declared.verdict.News.{News}
use Rattle.message_layer.specs.declared.verdict.Verdict.{Verdict}
use Rattle.message_layer.specs.declared.state.Reply.TheVariants as R
use Rattle.message_layer.specs.declared.verdict.News.TheVariants as N
use Rattle.journal_book.specs.Entries.{Deed, Hears}
use Rattle.history_laws.specs.Numbering.{token_number}
use Rattle.history_laws.specs.Progress.{Progress}
use Rattle.history_laws.specs.Transmissions.{bears_token, firsts}
use Rattle.history_laws.specs.Exchanges.{waiting}
use Rattle.history_laws.proofs.CallerLemmas.{some-is, none-some}
use Rattle.history_links.specs.Steps.{ended_token, heard_link}
use Rattle.exchange_model.specs.Watching.{is_one_of}
use Rattle.exchange_model.specs.Steps.{given_out, hears_nothing, confirms}
use Rattle.exchange_model.specs.Matters.{Matter, Nothing, Tells, Goes, Over, matter_by, matter_of, has_next_place, answered_in, Starts}
use Rattle.exchange_model.specs.Hearing.{Numbers, gone_by, watches_by, more_by, link_with, issued_by, exchanges_by, pieces_by, store_by, hears, stales_by}
use Rattle.exchange_model.specs.Calls.{next_by, next, given_back, Telling, tells, told_for, takes_new, takes_by, repeats, resets, reads_so, goes_with, goes_as, heard}
use Rattle.exchange_model.specs.declared.kept.Exchange.{Exchange}
use Rattle.exchange_model.specs.State.{PeerLink, State, link_of, with_link}
use Rattle.exchange_model.specs.Keeping.{MayStep, MayGoOn}
use Rattle.exchange_model.specs.Laws.{IsContinued}
use Rattle.exchange_model.specs.Reads.{Reads}
use Rattle.exchange_model.specs.Entering.{awaits_no_more, taken_with, next_out, effect_of, no_effect, going_as, sent_as, first_deeds, answer_of, confirm, heeded, garbled, IsMid, Comes, MessageEnters, GarbledEnters}
use Rattle.exchange_model.proofs.Begins.{unborne}
use Rattle.exchange_model.proofs.Gone.{gone-borne}
use Rattle.exchange_model.proofs.Entered.{turn_of, issued-stored, put, after, next-put, entries-more, link-there, out-at, given-itself}
use Rattle.exchange_model.proofs.Idle.{repeat-idle}
use Rattle.exchange_model.proofs.LinksHeard.{turned, Turns, turns, links-given, IsFresh, out-with, last-with, turn-with, link-turned, new-unborne}

-- one deed of the step after another

pub given-put : (t : ℕ) (p : Peer) (bs : List (List ℕ)) (S : State)
    → given_back t p bs S ≡ put t (map (confirm p) bs) S.exchanges S.links S
given-put t p [] S = refl
given-put t p (b ∷ bs) S = given-put t p bs (confirms t p b S)

pub told-put : (t : ℕ) (xs : List Telling) (S : State)
    → fold (tells t) S xs ≡ put t (map answer_of xs) S.exchanges S.links S
told-put t [] S = refl
told-put t (x ∷ xs) S = told-put t xs (tells t S x)

pub given-conns : (t : ℕ) (p : Peer) (bs : List (List ℕ)) (S : State)
    → (given_back t p bs S).conns ≡ S.conns
given-conns t p [] S = refl
given-conns t p (b ∷ bs) S = given-conns t p bs (confirms t p b S)

pub next-conns : (t : ℕ) (p : Peer) (S : State) → (next t p S).conns ≡ S.conns
next-conns t p S = by (link_of S.links p).outstanding (link_of S.links p).waiting
  where
    by : (v : Option Outstanding) (ws : List Waiting) → (next_by t p v ws S).conns ≡ S.conns
    by None [] = refl
    by (Some o) ws = refl
    by None (w ∷ ws) = refl

-- A message that is new.

-- By it the exchange goes on, or begins, under the next token.
abbrev IsNext : Matter → Numbers → State → Type 0
IsNext x n S = (e : Exchange) (progress : Progress) → goes_with x ≡ Some (e, progress) → token_number n.token ≡ S.issued

-- It bears no token that went out.
is-fresh : (t : ℕ) (p : Peer) (m : Content) (n : Numbers) (S : State) (may : MayStep t S) (x : Matter) → IsNext x n S
    → IsFresh (more_by n x) (gone_by m S.entries (matter_of t p m (verdict_of t (link_of S.links p) m) S) S.watches)
is-fresh t p m n S may x ahead w is = by x ahead is
  where
    r : Reads may.kept.reading S
    r = may.kept.rests.reads

    gone : List (List ℕ)
    gone = gone_by m S.entries (matter_of t p m (verdict_of t (link_of S.links p) m) S) S.watches

    fresh : token_number w.token ≡ S.issued → is_one_of gone w.token ≡ false
    fresh next = of (is_one_of gone w.token) refl
      where
        unborne-next : bears_token may.kept.reading w.token ≡ false
        unborne-next = unborne w.token S.issued next (firsts may.kept.reading) r.tokens_are

        of : (b : Bool) → is_one_of gone w.token ≡ b → b ≡ false
        of true h = absurd (false≢true (sym unborne-next ∙ gone-borne t p m may.kept.reading S r w.token h))
        of false e = refl

    token-is : Some (waits n.token n.text n.word) ≡ Some w → token_number n.token ≡ S.issued → token_number w.token ≡ S.issued
    token-is waits number = ap token_number (ap (λ (v : Waiting). v.token) (sym (some-is _ w waits))) ∙ number

    by : (x : Matter) → IsNext x n S → more_by n x ≡ Some w → is_one_of gone w.token ≡ false
    by Nothing next waits = absurd (none-some w waits)
    by (Tells r stored) next waits = absurd (none-some w waits)
    by (Over e how) next waits = absurd (none-some w waits)
    by (Starts r e progress) next waits = fresh (token-is waits (next e progress refl))
    by (Goes e progress) next waits = fresh (token-is waits (next e progress refl))

new-heeded : (t : ℕ) (p : Peer) (d : List ℕ) (m : Content) (n : Numbers) (S : State) → Comes t p d S
    → let v = verdict_of t (link_of S.links p) m in IsNext (matter_of t p m v S) n S
    → takes_new t p d m v n S ≡ heeded t p d m.mid m.token v (effect_of t p m v n S) S
new-heeded t p d m n S come ahead =
    after t (H ++ F) G es2 es2 xs2 xs2 K C (fold (tells t) C (told_for (length S.entries) x S.readers)) whole told
    ∙ (ap (λ (ds : List Deed). put t (Hears p d ∷ ds) es2 xs2 K) (append_assoc R F G)
    ∙ ap (λ (U : State). record U { exchanges = es2; links = xs2 })
    (issued-stored t (Hears p d ∷ (R ++ (F ++ G))) (issued_by x S.issued) (pieces_by (length S.entries) x S.pieces) (stales_by x S.stales) (watches_by t m S.entries x S.watches) (store_by S.entries t x S.store) S))
  where
    s : LinkState
    s = link_of S.links p

    v : Verdict
    v = verdict_of t s m

    x : Matter
    x = matter_of t p m v S

    more : Option Waiting
    more = more_by n x

    over : List (List ℕ)
    over = gone_by m S.entries x S.watches

    new : LinkState
    new = link_with t more (heard_link t m.mid m.token (is_one_of over) v s)

    up : Option Waiting
    up = next_out v s more

    -- the state with the number of tokens, the pieces, and what is observed and stored after it
    K : State
    K = record S {
      issued = issued_by x S.issued;
      pieces = pieces_by (length S.entries) x S.pieces;
      stales = stales_by x S.stales;
      watches = watches_by t m S.entries x S.watches;
      store = store_by S.entries t x S.store;
    }

    A : State
    A = hears t p d m n S

    B : State
    B = given_back t p (replies m.mid v.reply) A

    C : State
    C = next t p B

    R : List Deed
    R = map (confirm p) (replies m.mid v.reply)

    H : List Deed
    H = Hears p d ∷ R

    F : List Deed
    F = first_deeds t p s.last_mid up

    G : List Deed
    G = map answer_of (told_for (length S.entries) x S.readers)

    k : ℕ
    k = length S.entries + 1 + length (replies m.mid v.reply)

    es1 : List Exchange
    es1 = exchanges_by S.entries n.token x S.exchanges

    es2 : List Exchange
    es2 = sent_as (going_as k up) es1

    xs1 : List PeerLink
    xs1 = with_link p new S.links

    last : LinkState
    last = given_out (awaits_no_more over (taken_with t more (applied t m.mid m.token v s)))

    xs2 : List PeerLink
    xs2 = with_link p last S.links

    rest : Turns s.outstanding s.waiting
    rest = turns _ s.outstanding s.waiting (come.may.kept.rests.links p)

    replied : B ≡ put t H es1 xs1 K
    replied = after t (Hears p d ∷ []) R es1 es1 xs1 xs1 K A B refl
        (given-put t p (replies m.mid v.reply) A)

    count : length B.entries ≡ k
    count =
        let j = length-map (replies m.mid v.reply) (confirm p) in
        ap (λ (U : State). length U.entries) replied ∙ (entries-more t H K ∙ omega (arith, j))

    same : given_out (turned t new) ≡ last
    same =
        let r = come.may.kept.rests.reads in
        link-turned t m.mid m.token over v more s rest
        (new-unborne r.start come.may.kept.reading (waiting come.may.kept.reading p) s.waiting over (r.links_are p).waits (gone-borne t p m come.may.kept.reading S r))
        (is-fresh t p m n S come.may x ahead)

    sent : C ≡ put t F es2 xs2 B
    sent =
        next-put t p new S.links B (links-given t p (replies m.mid v.reply) A)
        (out-with t more (heard_link t m.mid m.token (is_one_of over) v s) ∙ out-at p S.links come.drained.out)
        ∙ (ap (λ (mid : Option ℕ). put t (first_deeds t p mid (turn_of new))
        (sent_as (going_as (length B.entries) (turn_of new)) B.exchanges)
        (with_link p (given_out (turned t new)) S.links) B)
        (last-with t more (heard_link t m.mid m.token (is_one_of over) v s))
        ∙ (ap (λ (w : Option Waiting). put t (first_deeds t p s.last_mid w)
        (sent_as (going_as (length B.entries) w) B.exchanges)
        (with_link p (given_out (turned t new)) S.links) B)
        (turn-with t m.mid m.token (is_one_of over) v more s rest)
        ∙ (ap (λ (j : ℕ). put t F (sent_as (going_as j up) B.exchanges)
        (with_link p (given_out (turned t new)) S.links) B) count
        ∙ (ap (λ (U : State). put t F (sent_as (going_as k up) U.exchanges)
        (with_link p (given_out (turned t new)) S.links) B) replied
        ∙ ap (λ (u : LinkState). put t F es2 (with_link p u S.links) B) same))))

    whole : C ≡ put t (H ++ F) es2 xs2 K
    whole = after t H F es1 es2 xs1 xs2 K B C replied sent

    told : fold (tells t) C (told_for (length S.entries) x S.readers) ≡ put t G es2 xs2 C
    told =
        told-put t (told_for (length S.entries) x S.readers) C
        ∙ ap (λ (U : State). put t G U.exchanges U.links C) whole

-- What is nothing new leaves all but the entries.

abbrev quiet_with : Verdict → Verdict
quiet_with v = record { reply = v.reply; remembered = false; ends = false; news = N.Quiet }

quiet-is : (v : Verdict) → v.remembered ≡ false → v.ends ≡ false → v.news ≡ N.Quiet
    → quiet_with v ≡ v
quiet-is v r e n =
    ap (λ (b : Bool). record v { remembered = b; ends = false; news = N.Quiet }) (sym r)
    ∙ (ap (λ (b : Bool). record v { ends = b; news = N.Quiet }) (sym e)
    ∙ ap (λ (k : News). record v { news = k }) (sym n))

quiet-nothing : (t : ℕ) (p : Peer) (news : News) (place : Bool) (m : Content) (S : State) → news ≡ N.Quiet
    → Nothing ≡ matter_by t p news place m S (answered_in (ended_token news m.token) S.exchanges)
quiet-nothing t p news place m S e =
    sym (ap (λ (k : News). matter_by t p k place m S (answered_in (ended_token k m.token) S.exchanges)) e)

idle-heeded : (t : ℕ) (p : Peer) (d : List ℕ) (mid : ℕ) (token : List ℕ) (v : Verdict) (n : Numbers)
    (S : State) → Comes t p d S
    → v.remembered ≡ false → v.ends ≡ false → v.news ≡ N.Quiet
    → given_back t p (replies mid v.reply) (hears_nothing t p d S)
    ≡ heeded t p d mid token v (no_effect n S) S
idle-heeded t p d mid token v n S come r e q =
    given-put t p (replies mid v.reply) (hears_nothing t p d S)
    ∙ (sym (ap (λ (ds : List Deed). put t (Hears p d ∷ ds) S.exchanges S.links S)
    (append-nil (map (confirm p) (replies mid v.reply))))
    ∙ (sym (ap (λ (xs : List PeerLink). put t (Hears p d ∷
    (map (confirm p) (replies mid v.reply) ++ [])) S.exchanges xs S)
    (ap (λ (u : LinkState). with_link p u S.links)
    (given-itself (link_of S.links p) (out-at p S.links come.drained.out))
    ∙ link-there p S.links come.known))
    ∙ (ap (λ (U : State). record U { exchanges = S.exchanges; links = with_link p (given_out (link_of S.links p)) S.links })
    (issued-stored t (Hears p d ∷ (map (confirm p) (replies mid v.reply) ++ [])) S.issued S.pieces S.stales S.watches S.store S)
    ∙ ap (λ (k : Verdict). heeded t p d mid token k (no_effect n S) S) (quiet-is v r e q))))

-- a datagram

heard-read : (t : ℕ) (p : Peer) (d : List ℕ) (n : Numbers) (r : Result Content CodecFault) (S : State)
    → Comes t p d S → message_at d ≡ r → heard t p d n S ≡ reads_so t p d n r S
heard-read t p d n r S come e =
    ap (λ (b : Bool). cond (b && leb (length d) MAX_DATAGRAM_LEN) (reads_so t p d n (message_at d) S) S)
    come.known
    ∙ (ap (λ (b : Bool). cond b (reads_so t p d n (message_at d) S) S)
    (le-leb (length d) MAX_DATAGRAM_LEN come.short)
    ∙ ap (λ (k : Result Content CodecFault). reads_so t p d n k S) e)

taken : (t : ℕ) (p : Peer) (d : List ℕ) (m : Content) (v : Verdict) (n : Numbers) (news : News) (S : State)
    → (news ≡ N.Lost → ⊥) → takes_by t p d m v n news S ≡ takes_new t p d m v n S
taken t p d m v n N.Lost S h = absurd (h refl)
taken t p d m v n N.Quiet S h = refl
taken t p d m v n N.Response S h = refl
taken t p d m v n (N.Reset token) S h = refl

-- It is the next token, where a message that is new brings an exchange on, or begins one.
pub next-token : (t : ℕ) (p : Peer) (d : List ℕ) (m : Content) (n : Numbers) (S : State) → message_at d ≡ Ok m → MayGoOn t p d n S
    → repeats t (link_of S.links p) m ≡ false → (e : Exchange) (progress : Progress)
    → goes_with (matter_of t p m (verdict_of t (link_of S.links p) m) S) ≡ Some (e, progress) → IsContinued e progress n S
next-token t p d m n S is goes new e progress at =
    goes e progress (ap (λ (r : Result Content CodecFault). goes_as t p r S) is
    ∙ (ap (λ (b : Bool). cond b None (goes_with (matter_of t p m (verdict_of t (link_of S.links p) m) S))) new ∙ at))

pub message-enters : MessageEnters
message-enters t p d m n S come e goes kept = heard-read t p d n (Ok m) S come e ∙ by (repeats t s m) refl
  where
    s : LinkState
    s = link_of S.links p

    v : Verdict
    v = verdict_of t s m

    quiet : (news : News) → (news ≡ N.Quiet) ⊎ ((news ≡ N.Lost) × (v.reply ≡ R.Nothing))
        → (news ≡ N.Lost → ⊥) → news ≡ N.Quiet
    quiet news (inl q) h = q
    quiet news (inr q) h = absurd (h q.0)

    by : (b : Bool) → repeats t s m ≡ b → cond b
        (given_back t p (replies m.mid v.reply) (hears_nothing t p d S))
        (takes_by t p d m v n v.news S)
        ≡ heeded t p d m.mid m.token v (effect_of t p m v n S) S
    by true k =
        let i = repeat-idle t s m m.kind k in
        let is_quiet = quiet v.news i.2 kept in
        idle-heeded t p d m.mid m.token v n S come i.0 i.1 is_quiet
        ∙ ap (λ (x : Matter). heeded t p d m.mid m.token v
        (record { matter = x; watches = watches_by t m S.entries x S.watches; gone = gone_by m S.entries x S.watches; numbers = n }) S)
        (quiet-nothing t p v.news (has_next_place t p v S) m S is_quiet)
    by false k = taken t p d m v n v.news S kept
        ∙ new-heeded t p d m n S come (λ f progress at. (next-token t p d m n S e goes k f progress at).number)

pub garbled-enters : GarbledEnters
garbled-enters t p d e mid token n S come is at = heard-read t p d n (Err e) S come is
    ∙ by (reset_for d) at
  where
    by : (k : Option ℕ) → IsMid k mid → given_back t p (resets k) (hears_nothing t p d S)
        ≡ heeded t p d mid token (garbled k) (no_effect n S) S
    by None h = idle-heeded t p d mid token (garbled None) n S come refl refl refl
    by (Some i) h =
        ap (λ (k : ℕ). given_back t p (replies k R.Rst) (hears_nothing t p d S)) (sym h)
        ∙ idle-heeded t p d mid token (garbled (Some i)) n S come refl refl refl
