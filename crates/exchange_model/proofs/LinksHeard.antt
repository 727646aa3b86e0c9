-- What hearing a datagram makes of a link, as the step does it.
use Rattle.std.proofs.Common.{◌≡◌, ℕ, Bool, true, false, cond, not, ◌||◌, ltb, leb, inl, inr, List, [], ◌∷◌, ◌++◌, Option, Some, None, refl, sym, ap, ◌∙◌}
use Rattle.std.specs.Prelude.{is_none, is_some}
use Rattle.std.specs.Str.{bytes_eq}
use Rattle.std.proofs.lemmas.Bool.{false≢true, lt-ltb, le-ltb}
use Rattle.std.proofs.lemmas.Bool.Decides.{leb_tells}
use Rattle.uri_map.specs.declared.peer.Peer.{Peer}
use Rattle.message_layer.specs.Values.{LinkState}
use Rattle.message_layer.specs.Calls.{expected, expected_in}
use Rattle.message_layer.specs.Sending.{first_sent, with_outstanding, next_by as call_next_by, queued, submitted, submitted_by}
use Rattle.message_layer.specs.Laws.{heard_so}
use Rattle.message_layer.proofs.After.{takes-after}
use Rattle.message_layer.specs.Hearing.{replies, answered_in, remembered_in, applied, ended}
use Rattle.message_layer.specs.declared.state.Awaited.{Awaited}
use Rattle.message_layer.specs.declared.state.Outstanding.{Outstanding}
use Rattle.message_layer.specs.declared.state.Waiting.{Waiting}
use Rattle.message_layer.specs.declared.verdict.Verdict.{Verdict}
use Rattle.history_laws.specs.Readings.{Noted}
use Rattle.history_laws.specs.Transmissions.{bears_token}
use Rattle.history_laws.proofs.CallerLemmas.{filter-push}
use Rattle.history_links.specs.Agrees.{Start, WaitIn}
use Rattle.history_links.specs.Steps.{but_gone, heard_link, lets_go}
use Rattle.exchange_model.specs.State.{State}
use Rattle.exchange_model.specs.Watching.{is_one_of}
use Rattle.exchange_model.specs.Steps.{given_out}
use Rattle.exchange_model.specs.Hearing.{link_with}
use Rattle.exchange_model.specs.Calls.{given_back}
use Rattle.exchange_model.specs.Resting.{IsUndue}
use Rattle.exchange_model.specs.Entering.{in_turn, next_out, awaits_no_more, taken_with}

-- ACKs, RSTs and answers change no link.

pub links-given : (t : ℕ) (p : Peer) (bs : List (List ℕ)) (S : State) → (given_back t p bs S).links ≡ S.links
links-given t p [] S = refl
links-given t p (b ∷ bs) S = links-given t p bs _

-- Nothing is expected any more under the tokens of what ends, whether the next message goes out before or
-- after that.

-- the message that waits first bears none of them
abbrev pub Unborne : List (List ℕ) → List Waiting → Type 0
Unborne of [] = Unit {0}
Unborne of (w ∷ ws) = is_one_of of w.token ≡ false

abbrev pub without : List (List ℕ) → LinkState → LinkState
without of s = lets_go (is_one_of of) s

none-gone : (xs : List Awaited) → but_gone (is_one_of []) xs ≡ xs
none-gone [] = refl
none-gone (x ∷ xs) = ap (λ (ys : List Awaited). x ∷ ys) (none-gone xs)

one-gone : (token : List ℕ) (of : List (List ℕ)) (xs : List Awaited) → but_gone (is_one_of of) (expected_in token false xs) ≡ but_gone (is_one_of (token ∷ of)) xs
one-gone token of [] = refl
one-gone token of (x ∷ xs) = by (bytes_eq x.token token) (one-gone token of xs)
  where
    by : (b : Bool) → but_gone (is_one_of of) (expected_in token false xs) ≡ but_gone (is_one_of (token ∷ of)) xs
        → but_gone (is_one_of of) (cond (not b) (x ∷ expected_in token false xs) (expected_in token false xs))
        ≡ cond (not (b || is_one_of of x.token)) (x ∷ but_gone (is_one_of (token ∷ of)) xs) (but_gone (is_one_of (token ∷ of)) xs)
    by true ih = ih
    by false ih = ap (λ (ys : List Awaited). cond (not (is_one_of of x.token)) (x ∷ ys) ys) ih

pub without-is : (of : List (List ℕ)) (s : LinkState) → awaits_no_more of s ≡ without of s
without-is [] s = ap (λ (xs : List Awaited). record s { awaited = xs }) (sym (none-gone s.awaited))
without-is (token ∷ of) s =
    without-is of (expected token false s) ∙ ap (λ (xs : List Awaited). record s { awaited = xs }) (one-gone token of s.awaited)

pushed : (of : List (List ℕ)) (w : Waiting) (mid : Option ℕ) (xs : List Awaited) → is_one_of of w.token ≡ false
    → but_gone (is_one_of of) xs ++ record { token = w.token; mid = mid } ∷ [] ≡ but_gone (is_one_of of) (xs ++ record { token = w.token; mid = mid } ∷ [])
pushed of w mid xs h = sym (filter-push (λ (a : Awaited). not (is_one_of of a.token)) xs (record { token = w.token; mid = mid }) (ap not h))

next-without : (t : ℕ) (of : List (List ℕ)) (s : LinkState) (ws : List Waiting) → Unborne of ws → call_next_by t (without of s) ws ≡ without of (call_next_by t s ws)
next-without t of s [] h = refl
next-without t of s (w ∷ ws) h =
    ap (λ (xs : List Awaited). record (with_outstanding s ws (first_sent t s.last_mid w)) { awaited = xs }) (pushed of w (Some (first_sent t s.last_mid w).mid) s.awaited h)

-- A message that is new.

-- a link whose turn is looked at
abbrev pub turned : ℕ → LinkState → LinkState
turned t s = submitted_by t s s.outstanding

-- the link of the message layer before its next message has its turn
abbrev answering : ℕ → ℕ → List ℕ → Verdict → LinkState → LinkState
answering t mid token v s = record s {
  awaited = answered_in token v.news s.awaited;
  heard = remembered_in t mid v.reply v.remembered s.heard;
  out = s.out ++ replies mid v.reply;
}

-- where nothing is outstanding, nothing waits
abbrev pub Turns : Option Outstanding → List Waiting → Type 0
Turns None ws = ws ≡ []
Turns (Some o) ws = Unit {0}

pub turns : (tick : ℕ) (v : Option Outstanding) (ws : List Waiting) → IsUndue tick v ws → Turns v ws
turns tick None ws h = h
turns tick (Some o) ws h = tt

-- a turn at which nothing goes out
kept-turn : (t : ℕ) (s : LinkState) (v : Option Outstanding) → s.outstanding ≡ v → Turns v s.waiting → submitted_by t s v ≡ s
kept-turn t s (Some o) e h = refl
kept-turn t s None e h =
    ap (λ (ws : List Waiting). call_next_by t s ws) h ∙ ap (λ (u : Option Outstanding). record s { outstanding = u }) (sym e)

unanswered : (t : ℕ) (s : LinkState) (ws : List Waiting) (out : List (List ℕ)) (u : Option Outstanding)
    → given_out (call_next_by t (record s { out = out; outstanding = u }) ws) ≡ given_out (call_next_by t s ws)
unanswered t s [] out u = refl
unanswered t s (w ∷ ws) out u = refl

pub heard-turned : (t mid : ℕ) (token : List ℕ) (of : List (List ℕ)) (v : Verdict) (s : LinkState) (b : Bool) → v.ends ≡ b → Turns s.outstanding s.waiting → Unborne of s.waiting
    → given_out (turned t (heard_link t mid token (is_one_of of) v s)) ≡ given_out (without of (applied t mid token v s))
heard-turned t mid token of v s b e rest h = ap (λ (c : Bool). given_out (turned t (record (heard_link t mid token (is_one_of of) v s) { outstanding = cond c None s.outstanding }))) e
    ∙ (by b ∙ sym (ap (λ (c : Bool). given_out (without of (ended t c (answering t mid token v s)))) e))
  where
    by : (c : Bool) → given_out (turned t (record (heard_link t mid token (is_one_of of) v s) { outstanding = cond c None s.outstanding }))
        ≡ given_out (without of (ended t c (answering t mid token v s)))
    by false = ap given_out (kept-turn t (record (heard_link t mid token (is_one_of of) v s) { outstanding = s.outstanding }) s.outstanding refl rest)
    by true =
        sym (unanswered t (record (heard_link t mid token (is_one_of of) v s) { outstanding = None }) s.waiting (s.out ++ replies mid v.reply) s.outstanding)
        ∙ ap given_out (next-without t of (answering t mid token v s) s.waiting h)

-- the same where the message is queued by which an exchange goes on

unanswered-all : (t : ℕ) (s : LinkState) (v : Option Outstanding) (out : List (List ℕ))
    → given_out (submitted_by t (record s { out = out; outstanding = v }) v) ≡ given_out (submitted_by t (record s { outstanding = v }) v)
unanswered-all t s None out = unanswered t s s.waiting out None ∙ sym (unanswered t s s.waiting s.out None)
unanswered-all t s (Some o) out = refl

turned-without : (t : ℕ) (of : List (List ℕ)) (s : LinkState) (v : Option Outstanding) → Unborne of s.waiting
    → submitted_by t (without of s) v ≡ without of (submitted_by t s v)
turned-without t of s None h = next-without t of s s.waiting h
turned-without t of s (Some o) h = refl

unborne-more : (of : List (List ℕ)) (ws : List Waiting) (w : Waiting) → Unborne of ws → is_one_of of w.token ≡ false → Unborne of (ws ++ w ∷ [])
unborne-more of [] w h new = new
unborne-more of (v ∷ ws) w h new = h

went-on : (t mid : ℕ) (token : List ℕ) (of : List (List ℕ)) (v : Verdict) (w : Waiting) (s : LinkState)
    → Unborne of s.waiting → is_one_of of w.token ≡ false
    → given_out (turned t (queued t w (heard_link t mid token (is_one_of of) v s)))
    ≡ given_out (without of (submitted t w (applied t mid token v s)))
went-on t mid token of v w s h new =
    let so : LinkState = queued t w (heard_so t mid token v s) in
    sym (unanswered-all t (record so { awaited = but_gone (is_one_of of) so.awaited; out = s.out }) so.outstanding so.out)
    ∙ (ap given_out (turned-without t of so so.outstanding (unborne-more of s.waiting w h new))
    ∙ sym (ap (λ (u : LinkState). given_out (without of u)) (takes-after t mid token v w s)))

-- with the next message of an exchange that goes on, or without

pub out-with : (t : ℕ) (more : Option Waiting) (s : LinkState) → (link_with t more s).out ≡ s.out
out-with t None s = refl
out-with t (Some w) s = refl

pub last-with : (t : ℕ) (more : Option Waiting) (s : LinkState) → (link_with t more s).last_mid ≡ s.last_mid
last-with t None s = refl
last-with t (Some w) s = refl

pub waits-with : (t : ℕ) (more : Option Waiting) (s : LinkState) → (link_with t more s).outstanding ≡ s.outstanding
waits-with t None s = refl
waits-with t (Some w) s = refl

turn-ended : (b : Bool) (v : Option Outstanding) (ws : List Waiting) → Turns v ws
    → in_turn (is_none (cond b None v)) ws ≡ in_turn b ws
turn-ended true v ws h = refl
turn-ended false (Some o) ws h = refl
turn-ended false None ws h = ap (in_turn true) h

free-then : (b : Bool) (v : Option Outstanding) → is_none (cond b None v) ≡ (b || not (is_some v))
free-then true v = refl
free-then false (Some o) = refl
free-then false None = refl

-- what has its turn then
pub turn-with : (t mid : ℕ) (token : List ℕ) (gone : List ℕ → Bool) (v : Verdict) (more : Option Waiting) (s : LinkState) → Turns s.outstanding s.waiting
    → (let u = link_with t more (heard_link t mid token gone v s) in in_turn (is_none u.outstanding) u.waiting) ≡ next_out v s more
turn-with t mid token gone v None s h = turn-ended v.ends s.outstanding s.waiting h
turn-with t mid token gone v (Some w) s h = ap (λ (b : Bool). in_turn b (s.waiting ++ w ∷ [])) (free-then v.ends s.outstanding)

-- the new message bears none of the tokens under which nothing is expected any more
abbrev pub IsFresh : Option Waiting → List (List ℕ) → Type 0
IsFresh more of = (w : Waiting) → more ≡ Some w → is_one_of of w.token ≡ false

pub link-turned : (t mid : ℕ) (token : List ℕ) (of : List (List ℕ)) (v : Verdict) (more : Option Waiting) (s : LinkState)
    → Turns s.outstanding s.waiting → Unborne of s.waiting → IsFresh more of
    → given_out (turned t (link_with t more (heard_link t mid token (is_one_of of) v s)))
    ≡ given_out (awaits_no_more of (taken_with t more (applied t mid token v s)))
link-turned t mid token of v None s rest h fresh =
    heard-turned t mid token of v s v.ends refl rest h ∙ sym (ap given_out (without-is of (applied t mid token v s)))
link-turned t mid token of v (Some w) s rest h fresh =
    went-on t mid token of v w s h (fresh w refl)
    ∙ sym (ap given_out (without-is of (submitted t w (applied t mid token v s))))

-- Where each of them went out, none that waits bears it.
pub new-unborne : (start : Start) (l : List Noted) (os : List ℕ) (ws : List Waiting) (of : List (List ℕ)) → WaitIn start l os ws
    → ((token : List ℕ) → is_one_of of token ≡ true → bears_token l token ≡ true) → Unborne of ws
new-unborne start l os [] of a h = tt
new-unborne start l [] (w ∷ ws) of a h = absurd a
new-unborne start l (o ∷ os) (w ∷ ws) of a h = by (is_one_of of w.token) refl
  where
    by : (b : Bool) → is_one_of of w.token ≡ b → b ≡ false
    by false e = refl
    by true e = absurd (false≢true (sym a.0.token_apart ∙ h w.token e))

pub limits : (n : ℕ) → ltb 2048 n ≡ not (leb n 2048)
limits n = elim (leb_tells n 2048) [ inl w ↦ rw (w.0) (le-ltb 2048 n w.1) | inr w ↦ rw (w.0) (lt-ltb 2048 n w.1) ]
