-- What registers the proxy as an observer, and what a note says of a datagram.
use Rattle.std.proofs.Common.{◌≡◌, ℕ, ◌<◌, ◌≤◌, Bool, true, false, cond, not, ◌&&◌, leb, ltb, List, [], ◌∷◌, length, map, Option, Some, None, refl, sym, ap, ◌∙◌, arith}
use Rattle.std.specs.Prelude.{filter}
use Rattle.std.specs.List.{AllByRecursion}
use Rattle.std.proofs.lemmas.Bool.{false≢true, and_parts}
use Rattle.std.proofs.lemmas.Bool.Decides.{Decides-eqb, Decides-ltb}
use Rattle.coap_codec.specs.Spelling.{Content}
use Rattle.uri_map.specs.declared.peer.Peer.{Peer}
use Rattle.ask_model.specs.Requests.{CoapRequest}
use Rattle.ask_model.specs.Sharing.{asked_place}
use Rattle.journal_book.specs.Entries.{Hears}
use Rattle.observe_share.specs.declared.registration.Registration.{Registration}
use Rattle.observe_share.specs.declared.notice.Notice as Shared
use Rattle.observe_share.specs.declared.notice.Notice.TheVariants.{Update, Other}
use Rattle.observe_share.specs.Watches.{counts_for, first_changed, in_place}
use Rattle.history_laws.specs.Readings.{Noted, Says, Notice, Unobserved, Registers, Updates, Outdates, Starts, Cancels}
use Rattle.history_laws.specs.Progress.{Progress, Fetches, Gives, Ends}
use Rattle.history_laws.specs.Transmissions.{FirstSending, first_at}
use Rattle.history_laws.specs.Exchanges.{Begun, begun, waits_for}
use Rattle.history_laws.specs.Joining.{outrun}
use Rattle.history_laws.specs.Observing.{Watch, notice_in, observes, watch_under, watches, as_first}
use Rattle.history_laws.specs.Hearing.{answers, counts_as, has_room, is_free, is_read, is_such, is_this, is_update, may_register, notice_of, notified, observation_by, observation_of, registers, starts_for}
use Rattle.history_laws.specs.Justified.{Follows, MaySay}

-- lists

pub all-mapped : {X : Type 0} (P : X → Type 0) (f : X → X) → ((x : X) → P x → P (f x)) → (xs : List X) → AllByRecursion P xs → AllByRecursion P (map f xs)
all-mapped P f step [] a = tt
all-mapped P f step (x ∷ xs) a = (step x a.0, all-mapped P f step xs a.1)

pub all-changed : {X : Type 0} (P : X → Type 0) (p : X → Bool) (f : X → Option X) → ((x y : X) → P x → f x ≡ Some y → P y)
    → (xs : List X) → AllByRecursion P xs → AllByRecursion P (first_changed p f xs)
all-changed P p f step [] a = tt
all-changed {X = X} P p f step (x ∷ xs) a = by (p x) (all-changed P p f step xs a.1)
  where
    placed : (o : Option X) → f x ≡ o → AllByRecursion P (in_place o xs)
    placed None e = a.1
    placed (Some y) e = (step x y a.0 e, a.1)

    by : (b : Bool) → AllByRecursion P (first_changed p f xs) → AllByRecursion P (cond b (in_place (f x) xs) (x ∷ first_changed p f xs))
    by true rest = placed (f x) refl
    by false rest = (a.0, rest)

pub filter-few : {X : Type 0} (p : X → Bool) (xs : List X) (n : ℕ) → length xs ≤ n → length (filter p xs) ≤ n
filter-few p [] n le = le
filter-few p (x ∷ xs) n le = by (p x) (filter-few p xs)
  where
    by : (b : Bool) → ((n : ℕ) → length xs ≤ n → length (filter p xs) ≤ n) → length (cond b (x ∷ filter p xs) (filter p xs)) ≤ n
    by true ih = let less = ih (length xs) (omega arith) in omega (arith, le, less)
    by false ih = ih n (omega (arith, le))

pub map-len : {X Y : Type 0} (f : X → Y) (xs : List X) → length (map f xs) ≡ length xs
map-len f [] = refl
map-len f (x ∷ xs) = let rest = map-len f xs in omega (arith, rest)

pub changed-few : {X : Type 0} (p : X → Bool) (f : X → Option X) (xs : List X) → length (first_changed p f xs) ≤ length xs
changed-few p f [] = omega arith
changed-few {X = X} p f (x ∷ xs) = by (p x) (changed-few p f xs)
  where
    placed : (o : Option X) → length (in_place o xs) ≤ length (x ∷ xs)
    placed None = omega arith
    placed (Some y) = omega arith

    by : (b : Bool) → length (first_changed p f xs) ≤ length xs → length (cond b (in_place (f x) xs) (x ∷ first_changed p f xs)) ≤ length (x ∷ xs)
    by true ih = placed (f x)
    by false ih = omega (arith, ih)

-- what a note says of a datagram

pub says-to : (m n : Content) (i j : Option ℕ) (u v : Notice) → Says m i u ≡ Says n j v → i ≡ j
says-to m n i j u v e = cc

pub says-notice : (m n : Content) (i j : Option ℕ) (u v : Notice) → Says m i u ≡ Says n j v → u ≡ v
says-notice m n i j u v e = cc

-- It is what comes of what it answers.
pub record IsSaid (l : List Noted) (t : ℕ) (p : Peer) (m : Content) (i : ℕ) (notice : Notice) : Type 0 where
  pub to : answers l p m ≡ Some i
  pub observation : observation_of l t m (Some i) ≡ notice.observation

pub said : (l : List Noted) (t : ℕ) (p : Peer) (bytes : List ℕ) (m : Content) (i : ℕ) (notice : Notice)
    → Follows l t (Hears p bytes) (Says m (Some i) notice) → IsSaid l t p m i notice
said l t p bytes m i notice f =
    let it : MaySay l t p bytes (Says m (Some i) notice) m = f.3 in
    let to : answers l p m ≡ Some i = sym (says-to m m (Some i) (answers l p m) notice _ it.says) in
    let is : notice ≡ notice_of l t p m (answers l p m) = says-notice m m (Some i) (answers l p m) notice _ it.says in
    record {
      to = to;
      observation = sym (ap (λ (n : Notice). n.observation) is ∙ ap (observation_of l t m) to);
    }

-- What registers is the first reply to a message that asked to observe.
pub record IsRegistering (l : List Noted) (m : Content) (i : ℕ) : Type 0 where
  pub response : leb 32 m.code ≡ true
  pub first : FirstSending
  pub sent : first_at l i ≡ Some first
  pub waited : waits_for l first.opening ≡ Some i
  pub observing : observes l first.opening ≡ true
  pub update : is_update (notice_in m) ≡ true
  pub exchange : Begun
  pub opened : begun l first.opening ≡ Some exchange
  pub current : outrun l (asked_place exchange.request) first.opening ≡ false
  pub few : length (watches l) < 64

un-registers : Unobserved ≡ Registers → ⊥
un-registers e = cc

up-registers : Updates ≡ Registers → ⊥
up-registers e = cc

out-registers : Outdates ≡ Registers → ⊥
out-registers e = cc

can-registers : Cancels ≡ Registers → ⊥
can-registers e = cc

start-registers : (k : ℕ) (q : CoapRequest) → Starts k q ≡ Registers → ⊥
start-registers k q e = cc

starts-not : (l : List Noted) (t k : ℕ) (b : Option Begun) → starts_for l t k b ≡ Registers → ⊥
starts-not l t k None e = out-registers e
starts-not l t k (Some b) e = by (has_room l t b.request && not (is_read l b.request)) e
  where
    by : (v : Bool) → cond v (Starts k b.request) Outdates ≡ Registers → ⊥
    by true e = start-registers k b.request e
    by false e = out-registers e

counts-not : (l : List Noted) (t : ℕ) (r : Registration) (n : Shared.Notice) (u : Progress) → counts_as l t r n u ≡ Registers → ⊥
counts-not l t r (Other v) u e = can-registers e
counts-not l t r (Update v) (Ends how) e = up-registers e
counts-not l t r (Update v) (Fetches k pieces got) e = starts-not l t r.opening (begun l r.opening) e
counts-not l t r (Update v) (Gives u got) e = starts-not l t r.opening (begun l r.opening) e

notified-not : (l : List Noted) (t : ℕ) (m : Content) (w : Option Watch) → notified l t m w ≡ Registers → ⊥
notified-not l t m None e = un-registers e
notified-not l t m (Some w) e = by (is_such m.kind && counts_for (notice_in m) t w.held) e
  where
    by : (b : Bool) → cond b (counts_as l t w.held (notice_in m) (as_first 0 0 m)) Unobserved ≡ Registers → ⊥
    by true e = counts-not l t w.held (notice_in m) (as_first 0 0 m) e
    by false e = un-registers e

registers-true : (b : Bool) → registers b ≡ Registers → b ≡ true
registers-true true e = refl
registers-true false e = absurd (un-registers e)

pub this-is : (i : ℕ) (w : Option ℕ) → is_this i w ≡ true → w ≡ Some i
this-is i None e = absurd (false≢true e)
this-is i (Some j) e = ap (λ (n : ℕ). Some n) ((Decides-eqb j i).0 e)

pub not-false : (b : Bool) → not b ≡ true → b ≡ false
not-false true e = absurd (false≢true e)
not-false false e = refl

pub registering : (l : List Noted) (t : ℕ) (m : Content) (i : ℕ) → observation_of l t m (Some i) ≡ Registers → IsRegistering l m i
registering l t m i e = by (leb 32 m.code) refl (first_at l i) refl e
  where
    made : leb 32 m.code ≡ true → (f : FirstSending) → first_at l i ≡ Some f → waits_for l f.opening ≡ Some i
        → observes l f.opening ≡ true → is_update (notice_in m) ≡ true → (b : Option Begun) → begun l f.opening ≡ b → is_free l f.opening b ≡ true
        → IsRegistering l m i
    made response f sent waited observing update None opened free = absurd (false≢true free)
    made response f sent waited observing update (Some b) opened free =
        let parts = and_parts (not (outrun l (asked_place b.request) f.opening)) (ltb (length (watches l)) 64) free in
        record {
          response = response;
          first = f;
          sent = sent;
          waited = waited;
          observing = observing;
          update = update;
          exchange = b;
          opened = opened;
          current = not-false (outrun l (asked_place b.request) f.opening) parts.0;
          few = (Decides-ltb (length (watches l)) 64).0 parts.1;
        }

    so : leb 32 m.code ≡ true → (f : FirstSending) → first_at l i ≡ Some f → (b : Bool) → is_this i (waits_for l f.opening) ≡ b
        → cond b (registers (may_register l f.opening m)) (notified l t m (watch_under l m.token)) ≡ Registers → IsRegistering l m i
    so response f sent false is e = absurd (notified-not l t m (watch_under l m.token) e)
    so response f sent true is e =
        let may = registers-true (may_register l f.opening m) e in
        let a = and_parts (observes l f.opening) (is_update (notice_in m) && is_free l f.opening (begun l f.opening)) may in
        let b = and_parts (is_update (notice_in m)) (is_free l f.opening (begun l f.opening)) a.1 in
        made response f sent (this-is i (waits_for l f.opening) is) a.0 b.0 (begun l f.opening) refl b.1

    by : (b : Bool) → leb 32 m.code ≡ b → (f : Option FirstSending) → first_at l i ≡ f → cond b (observation_by l t m i f) Unobserved ≡ Registers
        → IsRegistering l m i
    by false response f sent e = absurd (un-registers e)
    by true response None sent e = absurd (un-registers e)
    by true response (Some f) sent e = so response f sent (is_this i (waits_for l f.opening)) refl e
