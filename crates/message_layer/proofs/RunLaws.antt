-- What a link transmits in a whole run.
use Rattle.std.proofs.Common.{◌≡◌, ◌≢◌, ℕ, ◌+◌, ◌*◌, ◌/◌, ◌%◌, ◌^◌, ◌≤◌, ◌<◌, List, [], ◌∷◌, ◌++◌, length, filter, map, Option, Some, None, Bool, true, false, nat_lt, ◌⊎◌, inl, inr, refl, sym, ◌∙◌, ap, subst, arith}
use Rattle.std.proofs.Math.Nat.{mul-pos}
use Rattle.std.proofs.lemmas.Nat.{pow_pos}
use Rattle.std.specs.List.{AllByRecursion}
use borrow.Author.Tests.{ltb-true}
use Rattle.message_layer.specs.Values.{LinkState, Told, IsSound, IsSoundWaiting, IsSoundOutstanding, is_con}
use Rattle.message_layer.specs.Sending.{with_mid, next_mid, due_of, next_by, ticked, ticked_by, submitted, unnumbered, waits}
use Rattle.message_layer.specs.Mids.{is_in_use}
use Rattle.message_layer.specs.Hearing.{hears}
use Rattle.message_layer.specs.Calls.{sent_out, taken_by, waits_not_under}
use Rattle.message_layer.specs.Runs.{Step, Call, submit, hear, tick, forget, expect, take_send, refuse, Leaves, Puts, IsStep, IsRun, last_moment, Transmission, transmitted, transmissions}
use Rattle.message_layer.specs.Transmissions.{SentMessage, mid_of, latest, IsSpaced, HasNextMid, IsBehind, first_of, recent, IsSent, IsSequence, sendings, IsLatest, IsOpen, tick_of, ticks, IsFirst, ArePrompt, IsPrompt, IsUndue, Queues, HasQueued, AreSentAs, RunTransmits, RunKeepsTurn}
use Rattle.message_layer.specs.declared.state.Waiting.{Waiting}
use Rattle.message_layer.specs.declared.state.Outstanding.{Outstanding}
use Rattle.message_layer.proofs.Sound.{ticked-sound, hears-sound, Submits-sound, forgotten-sound, waits-sound, either}
use Rattle.message_layer.proofs.Effects.{Effect, Rests, SendsFirst, SendsCopy, in_use, rest, submit-effect, tick-effect, hear-effect}

-- what a step leaves, by what it did
step-sound : (last : ℕ) (x : Step) (old new : LinkState) → IsSound old → IsStep last x old new → IsSound new
step-sound last x old new h i = by x.call i.leaves
  where
    by : (c : Call) → Leaves x.moment c old new → IsSound new
    by (submit m word) e = Submits-sound x.moment word m old new i.in_range e.confirmable h (omega (arith, e.free)) e.submits
    by (hear d told) e = hears-sound x.moment d old new told i.in_range h e
    by (tick told) e = subst (λ (r : LinkState × Told). IsSound r.0) e (ticked-sound x.moment old i.in_range h)
    by (forget token) e = rw e (forgotten-sound token old h)
    by (expect token on) e = rw e (record { turn = h.turn; waiting = h.waiting; given = h.given })
    by (take_send d) e = subst (λ (r : LinkState × Option (List ℕ)). IsSound r.0) e (taken old.out)
      where
        taken : (out : List (List ℕ)) → IsSound (taken_by old out).0
        taken [] = h
        taken (y ∷ ys) = record { turn = h.turn; waiting = h.waiting; given = h.given }
    by refuse e = rw e h

quiet-rests : (t : ℕ) (old new : LinkState) (sent : List (List ℕ)) → new.outstanding ≡ old.outstanding → new.last_mid ≡ old.last_mid → new.given ≡ old.given → sent ≡ [] → (queue : List Waiting) → new.waiting ≡ queue → Effect t old new sent queue
quiet-rests t old new sent same last given none queue waiting = inl (record {
  outstanding = inl same;
  last = last;
  given = λ u later. ap (λ (xs : List ℕ). in_use u xs) given;
  quiet = rw none refl;
  waiting = waiting;
})

-- what waits once the call has changed that, and what the step does
abbrev pub Does : Step → Call → LinkState → LinkState → Type 0
Does x c old new = (queue : List Waiting) × Queues c old.waiting queue × Effect x.moment old new x.sent queue

step-effect : (last : ℕ) (x : Step) (old new : LinkState) → IsSound old → IsStep last x old new → Does x x.call old new
step-effect last x old new h i = by x.call i.leaves i.puts
  where
    by : (c : Call) → Leaves x.moment c old new → Puts c x.sent old new → Does x c old new
    by (submit m word) e p =
        let w : Waiting = waits m.token e.submits.text word in
        let is : new ≡ submitted x.moment w old = e.submits.is in
        let effect = submit-effect x.moment w old x.sent h (waits-sound (unnumbered m) e.submits.text word e.confirmable e.submits.spelled) (omega (arith, e.free)) (rw is at p) in
        (old.waiting ++ w ∷ [], (w, record { token = refl; spelled = e.submits.spelled; timeout = refl }, refl), rw is effect)
    by (hear d told) e p =
        let is : (hears x.moment d old).0 ≡ new = ap (λ (r : LinkState × Told). r.0) e in
        (old.waiting, refl, rw (← is) (hear-effect x.moment d old x.sent h (rw (← is) at p)))
    by (tick told) e p =
        let is : (ticked x.moment old).0 ≡ new = ap (λ (r : LinkState × Told). r.0) e in
        (old.waiting, refl, rw (← is) (tick-effect x.moment old x.sent h (rw (← is) at p)))
    by (forget token) e p =
        let queue : List Waiting = filter (waits_not_under token) old.waiting in
        let same : new.waiting ≡ queue = rw e refl in
        (queue, refl, quiet-rests x.moment old new x.sent (rw e refl) (rw e refl) (rw e refl) p queue same)
    by (expect token on) e p = (old.waiting, refl, quiet-rests x.moment old new x.sent (rw e refl) (rw e refl) (rw e refl) p old.waiting (rw e refl))
    by (take_send d) e p =
        let is : (sent_out old).0 ≡ new = ap (λ (r : LinkState × Option (List ℕ)). r.0) e in
        (old.waiting, refl, rw (← is) (taken old.out))
      where
        taken : (out : List (List ℕ)) → Effect x.moment old (taken_by old out).0 x.sent old.waiting
        taken [] = quiet-rests x.moment old old x.sent refl refl refl p old.waiting refl
        taken (y ∷ ys) = quiet-rests x.moment old _ x.sent refl refl refl p old.waiting refl
    by refuse e p = (old.waiting, refl, quiet-rests x.moment old new x.sent (rw e refl) (rw e refl) (rw e refl) p old.waiting (rw e refl))

-- after a tick nothing is due
abbrev NotYet : ℕ → Option Outstanding → Type 0
NotYet t None = Unit {0}
NotYet t (Some o) = t < due_of o

due-later : (timeout n t : ℕ) → 2000 ≤ timeout → t < t + timeout * 2 ^ n
due-later timeout n t long = let p : 0 < timeout * 2 ^ n = mul-pos (omega arith) (pow_pos n) in omega (arith, p)

next-not-yet : (t : ℕ) (s : LinkState) (ws : List Waiting) → AllByRecursion IsSoundWaiting ws → NotYet t (next_by t s ws).outstanding
next-not-yet t s [] all = tt
next-not-yet t s (w ∷ ws) all = due-later w.timeout 0 t all.0.long

tick-not-yet : (t : ℕ) (s : LinkState) → IsSound s → NotYet t (ticked t s).0.outstanding
tick-not-yet t s h = by s.outstanding refl
  where
    P : LinkState × Told → Type 0
    P r = NotYet t r.0.outstanding

    by : (o : Option Outstanding) → s.outstanding ≡ o → P (ticked_by t s o)
    by None e = rw e tt
    by (Some o) e =
        let turn : IsSoundOutstanding o = rw e at h.turn in
        either P (nat_lt t (due_of o)) _ _ (λ early. rw e (ltb-true t (due_of o) early))
        (λ due. either P (nat_lt o.retransmissions 4) _ _ (λ few. due-later o.timeout (o.retransmissions + 1) t turn.long) (λ few. next-not-yet t s s.waiting h.waiting))

pub run-sound : (run : List Step) (s : LinkState) → IsRun run s → IsSound s
run-sound [] s r = rw r (record { turn = refl; waiting = tt; given = omega arith })
run-sound (x ∷ older) s r = step-sound (last_moment older) x r.0 s (run-sound older r.0 r.1) r.2

-- the ID given last is the one of the last message
abbrev pub IsLastMid : Option ℕ → List SentMessage → Type 0
IsLastMid None [] = Unit {0}
IsLastMid None (m ∷ older) = ⊥
IsLastMid (Some mid) [] = ⊥
IsLastMid (Some mid) (m ∷ older) = mid_of m.datagram ≡ mid

-- the messages that a run sent are those that the link remembers of
pub record Tied (now : ℕ) (ms : List SentMessage) (s : LinkState) : Type 0 where
  pub outstanding : IsOpen s.outstanding ms
  pub last : IsLastMid s.last_mid ms
  pub given : (u : ℕ) → now ≤ u → recent u ms ≡ in_use u s.given
  pub behind : IsBehind now ms

-- messages that are the transmissions, up to a moment and over these ticks
pub record Explains (run : List Step) (now : ℕ) (sent : List Transmission) (ts : List ℕ) (s : LinkState) : Type 0 where
  pub messages : List SentMessage
  pub sequence : IsSequence messages
  pub all : sent ≡ sendings messages
  pub tied : Tied now messages s
  pub prompt : AllByRecursion (IsPrompt ts) messages
  pub undue : IsUndue ts s.outstanding
  pub queue : List Waiting
  pub queued : HasQueued run queue s.waiting
  pub handed_in : AreSentAs queue messages

-- the transmissions with those of a step
abbrev with-sent : Step → List Transmission → List Transmission
with-sent x all = map (transmitted x.moment) (filter is_con x.sent) ++ all

behind-later : (t u : ℕ) (ms : List SentMessage) → t ≤ u → IsBehind t ms → IsBehind u ms
behind-later t u [] later b = tt
behind-later t u (m ∷ older) later b = omega (arith, later, b)

-- nothing is sent
rests-tied : (now t : ℕ) (ms : List SentMessage) (old new : LinkState) (sent : List (List ℕ)) (queue : List Waiting) → now ≤ t → Tied now ms old → Rests t old new sent queue → Tied t ms new
rests-tied now t ms old new sent queue later h r = record {
  outstanding = by r.outstanding;
  last = rw r.last h.last;
  given = λ u up. h.given u (omega (arith, later, up)) ∙ sym (r.given u up);
  behind = behind-later now t ms later h.behind;
}
  where
    by : ((new.outstanding ≡ old.outstanding) ⊎ (new.outstanding ≡ None)) → IsOpen new.outstanding ms
    by (inl e) = rw e h.outstanding
    by (inr e) = rw e tt

pub mid_of-with_mid : (mid : ℕ) (d : List ℕ) → 4 ≤ length d → mid_of (with_mid mid d) ≡ mid
mid_of-with_mid mid [] h = absurd (omega arith)
mid_of-with_mid mid (a ∷ []) h = absurd (omega arith)
mid_of-with_mid mid (a ∷ b ∷ []) h = absurd (omega arith)
mid_of-with_mid mid (a ∷ b ∷ e ∷ []) h = absurd (omega arith)
mid_of-with_mid mid (a ∷ b ∷ e ∷ f ∷ rest) h = let is : 256 * (mid / 256) + mid % 256 ≡ mid = omega arith in is

next-mid : (mid first : ℕ) (last : Option ℕ) (ms : List SentMessage) → first < 65536 → IsLastMid last ms → mid ≡ next_mid last first → HasNextMid mid ms
next-mid mid first None [] few h e = rw e few
next-mid mid first None (m ∷ older) few h e = absurd h
next-mid mid first (Some n) [] few h e = absurd h
next-mid mid first (Some n) (m ∷ older) few h e = rw h e

-- a first sending
abbrev first-message : ℕ → LinkState → Waiting → SentMessage
first-message t old w = record { datagram = with_mid (next_mid old.last_mid w.first_mid) w.datagram; timeout = w.timeout; first = t; copies = [] }

in_use-cons : (u t : ℕ) (xs : List ℕ) (b : Bool) → is_in_use u t ≡ b → length (filter (is_in_use u) (t ∷ xs)) ≡ in_use u xs + in_use u (t ∷ [])
in_use-cons u t xs true e = rw e (omega arith)
in_use-cons u t xs false e = rw e (omega arith)

-- ticks of a run are not later than its last call
all-later : (a b : ℕ) (ts : List ℕ) → a ≤ b → AllByRecursion (λ t. t ≤ a) ts → AllByRecursion (λ t. t ≤ b) ts
all-later a b [] later h = tt
all-later a b (t ∷ ts) later h = (omega (arith, later, h.0), all-later a b ts later h.1)

with-tick : (t : ℕ) (c : Call) (ts : List ℕ) → AllByRecursion (λ u. u ≤ t) ts → AllByRecursion (λ u. u ≤ t) (tick_of t c ++ ts)
with-tick t (submit m word) ts h = h
with-tick t (hear d told) ts h = h
with-tick t (tick told) ts h = (omega arith, h)
with-tick t (forget token) ts h = h
with-tick t (expect token on) ts h = h
with-tick t (take_send d) ts h = h
with-tick t refuse ts h = h

ticks-past : (run : List Step) (s : LinkState) → IsRun run s → AllByRecursion (λ t. t ≤ last_moment run) (ticks run)
ticks-past [] s r = tt
ticks-past (x ∷ older) s r = with-tick x.moment x.call (ticks older) (all-later (last_moment older) x.moment (ticks older) r.2.later (ticks-past older r.0 r.1))

all-before : (t due : ℕ) (ts : List ℕ) → t < due → AllByRecursion (λ u. u ≤ t) ts → AllByRecursion (λ u. u < due) ts
all-before t due [] later h = tt
all-before t due (u ∷ ts) later h = (omega (arith, later, h.0), all-before t due ts later h.1)

all-first : (due copy : ℕ) (ts : List ℕ) → AllByRecursion (λ u. u < due) ts → AllByRecursion (IsFirst due copy) ts
all-first due copy [] h = tt
all-first due copy (u ∷ ts) h = (inl h.0, all-first due copy ts h.1)

pub first-latest : (timeout first : ℕ) (copies : List ℕ) → IsSpaced timeout first copies → first ≤ latest first copies
first-latest timeout first [] s = omega arith
first-latest timeout first (t ∷ earlier) s =
    let before : first ≤ latest first earlier = first-latest timeout first earlier s.1 in
    omega (arith, before, s.0)

-- a tick after the copies
copies-tick : (t : ℕ) (ts : List ℕ) (timeout first : ℕ) (copies : List ℕ) → IsSpaced timeout first copies → latest first copies ≤ t → ArePrompt ts timeout first copies → ArePrompt (t ∷ ts) timeout first copies
copies-tick t ts timeout first [] s late p = tt
copies-tick t ts timeout first (c ∷ earlier) s late p = ((inr late, p.0), copies-tick t ts timeout first earlier s.1 (omega (arith, late, s.0)) p.1)

messages-tick : (t : ℕ) (ts : List ℕ) (ms : List SentMessage) → IsSequence ms → IsBehind t ms → AllByRecursion (IsPrompt ts) ms → AllByRecursion (IsPrompt (t ∷ ts)) ms
messages-tick t ts [] s b p = tt
messages-tick t ts (m ∷ older) s b p =
    let first : m.first ≤ latest m.first m.copies = first-latest m.timeout m.first m.copies s.0.spaced in
    (copies-tick t ts m.timeout m.first m.copies s.0.spaced b p.0, messages-tick t ts older s.1 (behind-later m.first t older (omega (arith, first, b)) s.0.behind) p.1)

undue-tick : (t : ℕ) (ts : List ℕ) (o : Option Outstanding) → NotYet t o → IsUndue ts o → IsUndue (t ∷ ts) o
undue-tick t ts None n u = tt
undue-tick t ts (Some o) n u = (n, u)

-- the facts on ticks where the step is a tick, and where it is none
step-prompt : (x : Step) (c : Call) (ts : List ℕ) (old new : LinkState) (ms : List SentMessage) → Leaves x.moment c old new → IsSound old → IsSequence ms → IsBehind x.moment ms
    → AllByRecursion (IsPrompt ts) ms → AllByRecursion (IsPrompt (tick_of x.moment c ++ ts)) ms
step-prompt x (submit m word) ts old new ms e h s b p = p
step-prompt x (hear d told) ts old new ms e h s b p = p
step-prompt x (tick told) ts old new ms e h s b p = messages-tick x.moment ts ms s b p
step-prompt x (forget token) ts old new ms e h s b p = p
step-prompt x (expect token on) ts old new ms e h s b p = p
step-prompt x (take_send d) ts old new ms e h s b p = p
step-prompt x refuse ts old new ms e h s b p = p

step-undue : (x : Step) (c : Call) (ts : List ℕ) (old new : LinkState) → Leaves x.moment c old new → IsSound old → IsUndue ts new.outstanding → IsUndue (tick_of x.moment c ++ ts) new.outstanding
step-undue x (submit m word) ts old new e h u = u
step-undue x (hear d told) ts old new e h u = u
step-undue x (tick told) ts old new e h u =
    undue-tick x.moment ts new.outstanding (subst (λ (r : LinkState × Told). NotYet x.moment r.0.outstanding) e (tick-not-yet x.moment old h)) u
step-undue x (forget token) ts old new e h u = u
step-undue x (expect token on) ts old new e h u = u
step-undue x (take_send d) ts old new e h u = u
step-undue x refuse ts old new e h u = u

first-undue : (t : ℕ) (ts : List ℕ) (old new : LinkState) (sent : List (List ℕ)) (queue : List Waiting) → AllByRecursion (λ u. u ≤ t) ts → SendsFirst t old new sent queue → IsUndue ts new.outstanding
first-undue t ts old new sent queue past r =
    rw r.outstanding (all-before t (t + r.w.timeout * 2 ^ 0) ts (due-later r.w.timeout 0 t r.sound.long) past)

copy-undue : (t : ℕ) (ts : List ℕ) (old new : LinkState) (sent : List (List ℕ)) (queue : List Waiting) → IsSound old → AllByRecursion (λ u. u ≤ t) ts → SendsCopy t old new sent queue → IsUndue ts new.outstanding
copy-undue t ts old new sent queue h past r =
    let turn : IsSoundOutstanding r.o = rw r.was at h.turn in
    rw r.outstanding (all-before t (t + r.o.timeout * 2 ^ (r.o.retransmissions + 1)) ts (due-later r.o.timeout (r.o.retransmissions + 1) t turn.long) past)

first-explains : (run : List Step) (now : ℕ) (all : List Transmission) (ts : List ℕ) (x : Step) (old new : LinkState) (queue : List Waiting) → now ≤ x.moment → AllByRecursion (λ u. u ≤ x.moment) ts
    → Explains run now all ts old → Queues x.call old.waiting queue → SendsFirst x.moment old new x.sent queue → Explains (x ∷ run) x.moment (with-sent x all) ts new
first-explains run now all ts x old new queue later past h q r =
    let m : SentMessage = first-message x.moment old r.w in
    let mid : mid_of m.datagram ≡ next_mid old.last_mid r.w.first_mid = mid_of-with_mid _ r.w.datagram r.sound.header in
    let free : recent x.moment h.messages ≡ in_use x.moment old.given = h.tied.given x.moment later in
    let few : in_use x.moment old.given < 32768 = r.few in
    record {
      messages = m ∷ h.messages;
      sequence = (
        record {
          least = r.sound.long;
          most = r.sound.short;
          few = omega arith;
          spaced = tt;
          behind = behind-later now x.moment h.messages later h.tied.behind;
          mid = next-mid (mid_of m.datagram) r.w.first_mid old.last_mid h.messages r.sound.mid h.tied.last mid;
          free = omega (arith, free, few);
        },
        h.sequence,
      );
      all = rw (r.is, h.all) refl;
      tied = record {
        outstanding = rw r.outstanding (record { datagram = refl; timeout = refl; retransmissions = refl; sent = refl });
        last = rw r.last mid;
        given = λ u up. in_use-cons u x.moment (map first_of h.messages) (is_in_use u x.moment) refl
            ∙ ap (λ (n : ℕ). n + in_use u (x.moment ∷ [])) (h.tied.given u (omega (arith, later, up)))
            ∙ sym (r.given u up);
        behind = omega arith;
      };
      prompt = (tt, h.prompt);
      undue = first-undue x.moment ts old new x.sent queue past r;
      queue = r.w ∷ h.queue;
      queued = (h.queue, old.waiting, queue, h.queued, q, inr (r.w, refl, r.from));
      handed_in = (ap (λ (mid : ℕ). with_mid mid r.w.datagram) (sym mid), refl, h.handed_in);
    }

-- the message with one more copy
abbrev copied : ℕ → SentMessage → SentMessage
copied t m = record { datagram = m.datagram; timeout = m.timeout; first = m.first; copies = t ∷ m.copies }

last-copied : (t : ℕ) (last : Option ℕ) (m : SentMessage) (older : List SentMessage) → IsLastMid last (m ∷ older) → IsLastMid last (copied t m ∷ older)
last-copied t None m older h = h
last-copied t (Some mid) m older h = h

sent-again : (t : ℕ) (m : SentMessage) (older : List SentMessage) (o : Outstanding) → IsLatest o m → o.retransmissions < 4 → due_of o ≤ t → IsSent m older → IsSent (copied t m) older
sent-again t m older o l few due s =
    let late : latest m.first m.copies + m.timeout * 2 ^ length m.copies ≤ t = rw (l.sent, l.timeout, l.retransmissions) at due in
    let short : length m.copies < 4 = rw l.retransmissions at few in
    record {
      least = s.least;
      most = s.most;
      few = omega (arith, short);
      spaced = (late, s.spaced);
      behind = s.behind;
      mid = s.mid;
      free = s.free;
    }

as-copied : (t : ℕ) (ws : List Waiting) (m : SentMessage) (older : List SentMessage) → AreSentAs ws (m ∷ older) → AreSentAs ws (copied t m ∷ older)
as-copied t [] m older h = h
as-copied t (w ∷ ws) m older h = h

copy-explains : (run : List Step) (now : ℕ) (all : List Transmission) (ts : List ℕ) (x : Step) (old new : LinkState) (queue : List Waiting) → now ≤ x.moment → AllByRecursion (λ u. u ≤ x.moment) ts → IsSound old
    → Explains run now all ts old → Queues x.call old.waiting queue → SendsCopy x.moment old new x.sent queue → Explains (x ∷ run) x.moment (with-sent x all) ts new
copy-explains run now all ts x old new queue later past sound h q r = by h.messages h.sequence h.all h.tied h.prompt h.handed_in
  where
    undue : AllByRecursion (λ u. u < due_of r.o) ts
    undue = rw r.was at h.undue

    by : (ms : List SentMessage) → IsSequence ms → all ≡ sendings ms → Tied now ms old → AllByRecursion (IsPrompt ts) ms → AreSentAs h.queue ms → Explains (x ∷ run) x.moment (with-sent x all) ts new
    by [] s a t p sent = absurd (let open_one : IsOpen old.outstanding [] = t.outstanding in let none : ⊥ = rw r.was at open_one in none)
    by (m ∷ older) s a t p sent =
        let l : IsLatest r.o m = rw r.was at t.outstanding in
        let before : AllByRecursion (λ u. u < latest m.first m.copies + m.timeout * 2 ^ length m.copies) ts = rw (l.sent, l.timeout, l.retransmissions) at undue in
        record {
          messages = copied x.moment m ∷ older;
          sequence = (sent-again x.moment m older r.o l r.few r.due s.0, s.1);
          all = rw (r.is, a, l.datagram) refl;
          tied = record {
            outstanding = rw r.outstanding (record { datagram = l.datagram; timeout = l.timeout; retransmissions = omega (arith, l.retransmissions); sent = refl });
            last = rw r.last (last-copied x.moment old.last_mid m older t.last);
            given = λ u up. t.given u (omega (arith, later, up)) ∙ sym (r.given u up);
            behind = omega arith;
          };
          prompt = ((all-first _ x.moment ts before, p.0), p.1);
          undue = copy-undue x.moment ts old new x.sent queue sound past r;
          queue = h.queue;
          queued = (h.queue, old.waiting, queue, h.queued, q, inl (refl, r.waiting));
          handed_in = as-copied x.moment h.queue m older sent;
        }

rest-undue : (t : ℕ) (ts : List ℕ) (old new : LinkState) (sent : List (List ℕ)) (queue : List Waiting) → Rests t old new sent queue → IsUndue ts old.outstanding → IsUndue ts new.outstanding
rest-undue t ts old new sent queue r u = by r.outstanding
  where
    by : ((new.outstanding ≡ old.outstanding) ⊎ (new.outstanding ≡ None)) → IsUndue ts new.outstanding
    by (inl e) = rw e u
    by (inr e) = rw e tt

step-explains : (run : List Step) (now : ℕ) (all : List Transmission) (ts : List ℕ) (x : Step) (old new : LinkState) (queue : List Waiting) → now ≤ x.moment → AllByRecursion (λ u. u ≤ x.moment) ts → IsSound old
    → Explains run now all ts old → Queues x.call old.waiting queue → Effect x.moment old new x.sent queue → Explains (x ∷ run) x.moment (with-sent x all) ts new
step-explains run now all ts x old new queue later past sound h q (inl r) = record {
  messages = h.messages;
  sequence = h.sequence;
  all = rw r.quiet h.all;
  tied = rests-tied now x.moment h.messages old new x.sent queue later h.tied r;
  prompt = h.prompt;
  undue = rest-undue x.moment ts old new x.sent queue r h.undue;
  queue = h.queue;
  queued = (h.queue, old.waiting, queue, h.queued, q, inl (refl, r.waiting));
  handed_in = h.handed_in;
}
step-explains run now all ts x old new queue later past sound h q (inr (inl r)) = first-explains run now all ts x old new queue later past h q r
step-explains run now all ts x old new queue later past sound h q (inr (inr r)) = copy-explains run now all ts x old new queue later past sound h q r

-- the step's own tick
tick-explains : (run : List Step) (x : Step) (all : List Transmission) (ts : List ℕ) (old new : LinkState) → Leaves x.moment x.call old new → IsSound old → Explains run x.moment all ts new
    → Explains run x.moment all (tick_of x.moment x.call ++ ts) new
tick-explains run x all ts old new e sound h = record {
  messages = h.messages;
  sequence = h.sequence;
  all = h.all;
  tied = h.tied;
  prompt = step-prompt x x.call ts old new h.messages e sound h.sequence h.tied.behind h.prompt;
  undue = step-undue x x.call ts old new e sound h.undue;
  queue = h.queue;
  queued = h.queued;
  handed_in = h.handed_in;
}

run-explains : (run : List Step) (s : LinkState) → IsRun run s → Explains run (last_moment run) (transmissions run) (ticks run) s
run-explains [] s r = record {
  messages = [];
  sequence = tt;
  all = refl;
  tied = record { outstanding = rw r tt; last = rw r tt; given = λ u up. rw r refl; behind = tt };
  prompt = tt;
  undue = rw r tt;
  queue = [];
  queued = (refl, rw r refl);
  handed_in = tt;
}
run-explains (x ∷ older) s r =
    let sound : IsSound r.0 = run-sound older r.0 r.1 in
    let past = all-later (last_moment older) x.moment (ticks older) r.2.later (ticks-past older r.0 r.1) in
    let does = step-effect (last_moment older) x r.0 s sound r.2 in
    tick-explains (x ∷ older) x (transmissions (x ∷ older)) (ticks older) r.0 s r.2.leaves sound
    (step-explains older (last_moment older) (transmissions older) (ticks older) x r.0 s does.0 r.2.later past sound (run-explains older r.0 r.1) does.1 does.2)

pub run-transmits : RunTransmits
run-transmits run s r = let e = run-explains run s r in
    record { messages = e.messages; sequence = e.sequence; all = e.all; outstanding = e.tied.outstanding; prompt = e.prompt; undue = e.undue; sent = e.queue; queued = e.queued; handed_in = e.handed_in }

pub run-keeps-turn : RunKeepsTurn
run-keeps-turn run s r = run-sound run s r

-- a link that gave no ID sent nothing
pub nothing-sent : (run : List Step) (s : LinkState) → IsRun run s → s.last_mid ≡ None → transmissions run ≡ []
nothing-sent run s r none = let e = run-explains run s r in
    by e.messages e.all (subst (λ (last : Option ℕ). IsLastMid last e.messages) none e.tied.last)
  where
    by : (ms : List SentMessage) → transmissions run ≡ sendings ms → IsLastMid None ms → transmissions run ≡ []
    by [] all last = all
    by (m ∷ older) all last = absurd last

-- and one that gave an ID sent something
pub something-sent : (run : List Step) (s : LinkState) (mid : ℕ) → IsRun run s → s.last_mid ≡ Some mid → transmissions run ≢ []
something-sent run s mid r some none = let e = run-explains run s r in
    by e.messages (sym e.all ∙ none) (subst (λ (last : Option ℕ). IsLastMid last e.messages) some e.tied.last)
  where
    at_least : (m : SentMessage) (copies : List ℕ) (rest : List Transmission) → map (λ t. transmitted t m.datagram) (copies ++ m.first ∷ []) ++ rest ≡ [] → ⊥
    at_least m [] rest e = absurd cc
    at_least m (t ∷ ts) rest e = absurd cc

    by : (ms : List SentMessage) → sendings ms ≡ [] → IsLastMid (Some mid) ms → ⊥
    by [] all last = last
    by (m ∷ older) all last = at_least m m.copies (sendings older) all
