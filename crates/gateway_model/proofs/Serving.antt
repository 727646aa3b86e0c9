-- What an act leaves of the connections: its own, and the others.
use Rattle.std.proofs.Common.{◌≡◌, ◌≢◌, ◌⊎◌, inl, inr, ℕ, Bool, true, false, cond, List, ◌++◌, map, Some, Ok, Err, refl, sym, ap, ◌∙◌, subst, ◌+◌, length}
use Rattle.gateway_model.proofs.Recounting.{recount-at, recount-others}
use Rattle.std.specs.Prelude.{⊤, nat_lt}
use Rattle.std.proofs.lemmas.Bool.{both_ways}
use Rattle.limits.specs.declared.TheConstants.{MAX_REQUEST_SIZE}
use Rattle.http_edge.specs.Reading.{Item, asked, bad, closes as item_closes}
use Rattle.http_edge.specs.declared.request.BadKind.TheVariants.{Large}
use Rattle.ask_model.specs.Requests.{Whole as WholeRequest, Bad}
use Rattle.ask_model.specs.Sizes.{came_size}
use Rattle.ask_model.specs.Views.{Ask}
use Rattle.journal_book.specs.Entries.{Asks as Asked}
use Rattle.http_mapping.specs.Means.{closes}
use Rattle.history_claims.specs.Headline.{IsEntry}
use Rattle.exchange_model.specs.State.{State}
use Rattle.exchange_model.specs.Resting.{HasConn}
use Rattle.exchange_model.specs.Sealing.{asks_in_room}
use Rattle.exchange_core.specs.declared.fault.AskFault.TheVariants as AskFault
use Rattle.exchange_core.specs.Calls.{IsAsked, AsksSo}
use Rattle.exchange_core.specs.Values.{CoreValue, Untaken}
use Rattle.gateway_model.specs.declared.input.When.{When}
use Rattle.gateway_model.specs.Acts.{Takes, Sends, Rests, Served, Terms, AsksItem, IsAsking, IsDenying, IsClosing, Does, at, came_at}
use Rattle.gateway_model.specs.Emissions.{Emission}
use Rattle.gateway_model.specs.Resting.{IsNumbered, AwaitsBytes}
use Rattle.gateway_model.specs.Unasked.{Unasked, unasked_at, changed_at, extended, left_after}
use Rattle.gateway_model.specs.Waiting.{conn_id}
use Rattle.gateway_model.proofs.Moving.{Moves, Begins, asks-begin}
use Rattle.gateway_model.proofs.Conns.{StandOnce}
use Rattle.gateway_model.proofs.Awaiting.{IsToTell, Awaits, AskTheirOwn, StepsTo, steps-by, steps-own, steps-once, steps-await, AsksTo, asks-by, asks-once, asks-own, asks-others, asks-await, shut-await, shut-own, shut-once}
use Rattle.gateway_model.proofs.Numbers.{extended-number, closed-numbers, numbered}
use Rattle.gateway_model.proofs.Standing.{others-same, own-before, others-left, own-gone}

abbrev pub IsLast : Ask → Type 0
IsLast a = closes a.came ≡ true

abbrev pub IsAny : Ask → Type 0
IsAny a = ⊤

pub any-of : (c : ℕ) (v : CoreValue) → Awaits IsLast c v → Awaits IsAny c v
any-of c v x = record {
  number = x.number;
  moment = x.moment;
  ask = x.ask;
  asked = x.asked;
  such = tt;
  due = x.due;
}

-- what holds within an input

pub record Base (s : Served) : Type 0 where
  pub numbered : IsNumbered s
  pub once : StandOnce (map conn_id s.core.state.conns)
  pub own : AskTheirOwn s.core.state.entries s.core.state.conns

-- One whose last request was read waits for the answer to that, or to be told it.
abbrev pub LastAt : ℕ → Served → Type 0
LastAt c s = (x : Unasked) → unasked_at c s.unasked ≡ Some x → x.closing ≡ true → Awaits IsLast c s.core

-- It waits for an answer, or to be told one, or for bytes.
abbrev pub RestsNow : ℕ → Served → Type 0
RestsNow c s = (x : Unasked) → unasked_at c s.unasked ≡ Some x → Awaits IsAny c s.core ⊎ AwaitsBytes x

-- Nothing of a connection changes but that an answer comes.
pub record KeepsAt (d : ℕ) (old new : Served) : Type 0 where
  pub at_same : (x : Unasked) → unasked_at d new.unasked ≡ Some x → unasked_at d old.unasked ≡ Some x
  pub last : Awaits IsLast d old.core → Awaits IsLast d new.core
  pub any : Awaits IsAny d old.core → Awaits IsAny d new.core

pub keeps-then : (d : ℕ) (a b c : Served) → KeepsAt d a b → KeepsAt d b c → KeepsAt d a c
keeps-then d a b c h k = record {
  at_same = λ x e. h.at_same x (k.at_same x e);
  last = λ x. k.last (h.last x);
  any = λ x. k.any (h.any x);
}

pub keeps-same : (d : ℕ) (a b : Served) → b ≡ a → KeepsAt d a b
keeps-same d a b e = record {
  at_same = λ x h. subst (λ (s : Served). unasked_at d s.unasked ≡ Some x) e h;
  last = λ x. subst (λ (s : Served). Awaits IsLast d s.core) (sym e) x;
  any = λ x. subst (λ (s : Served). Awaits IsAny d s.core) (sym e) x;
}

pub last-kept : (d : ℕ) (a b : Served) → KeepsAt d a b → LastAt d a → LastAt d b
last-kept d a b h k = λ x e t. h.last (k x (h.at_same x e) t)

pub rests-kept : (d : ℕ) (a b : Served) → KeepsAt d a b → RestsNow d a → RestsNow d b
rests-kept d a b h k = λ x e. by x (k x (h.at_same x e))
  where
    by : (x : Unasked) → Awaits IsAny d a.core ⊎ AwaitsBytes x → Awaits IsAny d b.core ⊎ AwaitsBytes x
    by x (inl y) = inl (h.any y)
    by x (inr y) = inr y

pub base-same : (a b : Served) → b ≡ a → Base a → Base b
base-same a b e h = subst Base (sym e) h

-- a step of the core in which nothing is asked

pub keeps-steps : (d : ℕ) (old new : Served) → new.unasked ≡ old.unasked → StepsTo old.core new.core
    → StandOnce (map conn_id old.core.state.conns) → KeepsAt d old new
keeps-steps d old new same s o = record {
  at_same = λ x e. subst (λ (xs : List Unasked). unasked_at d xs ≡ Some x) same e;
  last = steps-await IsLast d old.core new.core s o;
  any = steps-await IsAny d old.core new.core s o;
}

pub base-steps : (old new : Served) → IsNumbered new → StepsTo old.core new.core → Base old → Base new
base-steps old new n s b = record {
  numbered = n;
  once = steps-once old.core new.core s b.once;
  own = steps-own old.core new.core s b.own;
}

-- one that is closed

pub keeps-shut : (w : When) (c d : ℕ) (old new : Served) → d ≢ c → IsClosing w c old new → KeepsAt d old new
keeps-shut w c d old new ne h = record {
  at_same = λ x e. others-left c d old.unasked x ne (subst (λ (xs : List Unasked). unasked_at d xs ≡ Some x) h.1 e);
  last = shut-await IsLast (at w old) c d old.core new.core ne h.0.1;
  any = shut-await IsAny (at w old) c d old.core new.core ne h.0.1;
}

pub gone-shut : (w : When) (c : ℕ) (old new : Served) → IsClosing w c old new → (x : Unasked)
    → unasked_at c new.unasked ≡ Some x → ⊥
gone-shut w c old new h x e = own-gone c old.unasked x (subst (λ (xs : List Unasked). unasked_at c xs ≡ Some x) h.1 e)

pub base-shut : (w : When) (c : ℕ) (old new : Served) → IsClosing w c old new → Base old → Base new
base-shut w c old new h b = record {
  numbered = closed-numbers (at w old) c old new h.0 h.1 b.numbered;
  once = shut-once (at w old) c old.core new.core h.0.1 b.once;
  own = shut-own (at w old) c old.core new.core h.0.1 b.own;
}

-- What is done for a connection keeps the others.
pub record ServesOne (c : ℕ) (old new : Served) : Type 0 where
  pub base : Base new
  pub others : (d : ℕ) → d ≢ c → KeepsAt d old new
  pub last : LastAt c old → LastAt c new

pub serves-kept : (c : ℕ) (old new : Served) → Base new → ((d : ℕ) → KeepsAt d old new) → ServesOne c old new
serves-kept c old new b k = record {
  base = b;
  others = λ d ne. k d;
  last = last-kept c old new (k c);
}

pub serves-then : (c : ℕ) (x y z : Served) → ServesOne c x y → ServesOne c y z → ServesOne c x z
serves-then c x y z h k = record {
  base = k.base;
  others = λ d ne. keeps-then d x y z (h.others d ne) (k.others d ne);
  last = λ l. k.last (h.last l);
}

pub serves-as : (c d : ℕ) (old new : Served) → d ≡ c → ServesOne d old new → ServesOne c old new
serves-as c d old new e h = subst (λ (k : ℕ). ServesOne k old new) e h

-- an ask

-- The request that is the last is one after which the connection is closed.
pub last-closes : (i : Item) → item_closes i ≡ true → closes (came_at i) ≡ true
last-closes (asked r) e = by (nat_lt MAX_REQUEST_SIZE (came_size (WholeRequest r)))
  where
    by : (b : Bool) → closes (cond b (Bad Large) (WholeRequest r)) ≡ true
    by true = refl
    by false = e
last-closes (bad kind) e = by (nat_lt MAX_REQUEST_SIZE (came_size (Bad kind)))
  where
    by : (b : Bool) → closes (cond b (Bad Large) (Bad kind)) ≡ true
    by true = refl
    by false = refl

-- what is left, of the others and of its own

pub item-others : (c d : ℕ) (M : Terms) (a : Ask) (old new : Served) → d ≢ c → AsksItem M c a old new
    → (x : Unasked) → unasked_at d new.unasked ≡ Some x → unasked_at d old.unasked ≡ Some x
item-others c d M a old new ne r x e =
    sym (others-same c d (λ (z : Unasked). left_after c r.item r.reads.rest) old.unasked ne (λ z n. refl))
    ∙ subst (λ (xs : List Unasked). unasked_at d xs ≡ Some x) r.reads.left e

pub item-last : (c : ℕ) (M : Terms) (a : Ask) (old new : Served) → AsksItem M c a old new
    → (x : Unasked) → unasked_at c new.unasked ≡ Some x → x.closing ≡ true → IsLast a
item-last c M a old new r x e t =
    let before = own-before c (λ (z : Unasked). left_after c r.item r.reads.rest) old.unasked x (λ z n. refl)
    (subst (λ (xs : List Unasked). unasked_at c xs ≡ Some x) r.reads.left e) in
    let item : item_closes r.item ≡ true = sym (ap (λ (z : Unasked). z.closing) before.2) ∙ t in
    ap closes r.came ∙ last-closes r.item item

pub asks-to : (t word c k : ℕ) (a : Ask) (v u : CoreValue) → IsAsked (Ok k) t word c a v u → AsksTo t c a v u
asks-to t word c k a v u h =
    let so = h.2 in
    let S : State = asks_in_room t c a so.numbers v.state in
    let open_still : S.sealed ≡ false = sym (ap (λ (x : CoreValue). x.state.sealed) so.is) ∙ h.1 in
    asks-by t c a S v u so.is (by S open_still (asks-begin t c a so.numbers v.state so.idle))
  where
    by : (S : State) → S.sealed ≡ false → Begins t c a v.state S ⊎ (Moves v.state S × (S.sealed ≡ true)) → Begins t c a v.state S
    by S e (inl b) = b
    by S e (inr m) = absurd (both_ways S.sealed e m.1)

pub asks-serve : (M : Terms) (w : When) (c : ℕ) (old new : Served) → IsAsking M w c old new → IsNumbered new → Base old → ServesOne c old new
asks-serve M w c old new h n b =
    let t : ℕ = at w old in
    let s : AsksTo t c h.ask old.core new.core = asks-to t w.word c h.number h.ask old.core new.core h.asked in
    record {
      base = record {
        numbered = n;
        once = asks-once t c h.ask old.core new.core s b.once;
        own = asks-own t c h.ask old.core new.core s b.own;
      };
      others = λ d ne. record {
        at_same = item-others c d M h.ask old new ne h.reads;
        last = asks-others t c h.ask old.core new.core s IsLast d ne b.once;
        any = asks-others t c h.ask old.core new.core s IsAny d ne b.once;
      };
      last = λ l x e closing. asks-await t c h.ask old.core new.core s IsLast (item-last c M h.ask old new h.reads x e closing)
          h.asked.2.idle b.once;
    }

-- one that is denied

pub denied-steps : (t word c : ℕ) (a : Ask) (v u : CoreValue) → IsAsked (Err AskFault.Sealed) t word c a v u
    → (u ≡ v) ⊎ (AsksTo t c a v u ⊎ StepsTo v u)
denied-steps t word c a v u h = by h.2
  where
    begun : (so : AsksSo t word c a v u)
        → Begins t c a v.state (asks_in_room t c a so.numbers v.state)
        ⊎ (Moves v.state (asks_in_room t c a so.numbers v.state) × ((asks_in_room t c a so.numbers v.state).sealed ≡ true))
        → (u ≡ v) ⊎ (AsksTo t c a v u ⊎ StepsTo v u)
    begun so (inl b) = inr (inl (asks-by t c a (asks_in_room t c a so.numbers v.state) v u so.is b))
    begun so (inr m) = inr (inr (steps-by (asks_in_room t c a so.numbers v.state) v u so.is m.0))

    by : ((v.state.sealed ≡ true) × (u ≡ v)) ⊎ AsksSo t word c a v u → (u ≡ v) ⊎ (AsksTo t c a v u ⊎ StepsTo v u)
    by (inl same) = inl same.1
    by (inr so) = begun so (asks-begin t c a so.numbers v.state so.idle)

pub record DeniesSo (c : ℕ) (old mid : Served) : Type 0 where
  pub once : StandOnce (map conn_id mid.core.state.conns)
  pub own : AskTheirOwn mid.core.state.entries mid.core.state.conns
  pub others : (d : ℕ) → d ≢ c → KeepsAt d old mid

pub denies-so : (M : Terms) (w : When) (c : ℕ) (old mid : Served) → IsDenying M w c old mid → Base old → DeniesSo c old mid
denies-so M w c old mid h b = by (denied-steps (at w old) w.word c h.ask old.core mid.core h.denied)
  where
    by : (mid.core ≡ old.core) ⊎ (AsksTo (at w old) c h.ask old.core mid.core ⊎ StepsTo old.core mid.core) → DeniesSo c old mid
    by (inl e) = record {
      once = subst (λ (v : CoreValue). StandOnce (map conn_id v.state.conns)) (sym e) b.once;
      own = subst (λ (v : CoreValue). AskTheirOwn v.state.entries v.state.conns) (sym e) b.own;
      others = λ d ne. record {
        at_same = item-others c d M h.ask old mid ne h.reads;
        last = λ x. subst (Awaits IsLast d) (sym e) x;
        any = λ x. subst (Awaits IsAny d) (sym e) x;
      };
    }
    by (inr (inl s)) = record {
      once = asks-once (at w old) c h.ask old.core mid.core s b.once;
      own = asks-own (at w old) c h.ask old.core mid.core s b.own;
      others = λ d ne. record {
        at_same = item-others c d M h.ask old mid ne h.reads;
        last = asks-others (at w old) c h.ask old.core mid.core s IsLast d ne b.once;
        any = asks-others (at w old) c h.ask old.core mid.core s IsAny d ne b.once;
      };
    }
    by (inr (inr s)) = record {
      once = steps-once old.core mid.core s b.once;
      own = steps-own old.core mid.core s b.own;
      others = λ d ne. record {
        at_same = item-others c d M h.ask old mid ne h.reads;
        last = steps-await IsLast d old.core mid.core s b.once;
        any = steps-await IsAny d old.core mid.core s b.once;
      };
    }

pub denies-serve : (M : Terms) (w : When) (c : ℕ) (old mid new : Served) → IsDenying M w c old mid → IsClosing w c mid new
    → IsNumbered new → Base old → ServesOne c old new
denies-serve M w c old mid new h k n b =
    let so : DeniesSo c old mid = denies-so M w c old mid h b in
    record {
      base = record {
        numbered = n;
        once = shut-once (at w mid) c mid.core new.core k.0.1 so.once;
        own = shut-own (at w mid) c mid.core new.core k.0.1 so.own;
      };
      others = λ d ne. keeps-then d old mid new (so.others d ne) (keeps-shut w c d mid new ne k);
      last = λ l x e closing. absurd (gone-shut w c mid new k x e);
    }

-- a connection is closed

pub shut-serves : (w : When) (c : ℕ) (old new : Served) → IsClosing w c old new → Base old → ServesOne c old new
shut-serves w c old new h b = record {
  base = base-shut w c old new h b;
  others = λ d ne. keeps-shut w c d old new ne h;
  last = λ l x e t. absurd (gone-shut w c old new h x e);
}

-- bytes come, or the client is told to go on

pub bytes-serve : (w : When) (c : ℕ) (f : Unasked → Unasked) (old new : Served)
    → ((x : Unasked) → x.number ≡ c → (f x).number ≡ c)
    → ((x : Unasked) → unasked_at c old.unasked ≡ Some x → (f x).closing ≡ true → x.closing ≡ true)
    → new.unasked ≡ changed_at c f old.unasked → new.core ≡ old.core → IsNumbered new → Base old → ServesOne c old new
bytes-serve w c f old new keeps closing left core n b = record {
  base = record {
    numbered = n;
    once = subst (λ (v : CoreValue). StandOnce (map conn_id v.state.conns)) (sym core) b.once;
    own = subst (λ (v : CoreValue). AskTheirOwn v.state.entries v.state.conns) (sym core) b.own;
  };
  others = λ d ne. record {
    at_same = λ x e. sym (others-same c d f old.unasked ne keeps)
        ∙ subst (λ (xs : List Unasked). unasked_at d xs ≡ Some x) left e;
    last = λ x. subst (Awaits IsLast d) (sym core) x;
    any = λ x. subst (Awaits IsAny d) (sym core) x;
  };
  last = λ l x e t. subst (Awaits IsLast c) (sym core) (own l x e t);
}
  where
    own : LastAt c old → (x : Unasked) → unasked_at c new.unasked ≡ Some x → x.closing ≡ true → Awaits IsLast c old.core
    own l x e t =
        let before = own-before c f old.unasked x keeps (subst (λ (xs : List Unasked). unasked_at c xs ≡ Some x) left e) in
        l before.0 before.1 (closing before.0 before.1 (sym (ap (λ (z : Unasked). z.closing) before.2) ∙ t))

pub takes-serve : (M : Terms) (w : When) (c : ℕ) (bytes : List ℕ) (old : Served) (out : List Emission) (new : Served)
    → Does M w (Takes c bytes) old out new → Base old → ServesOne c old new
takes-serve M w c bytes old out new h b =
    bytes-serve w c (extended bytes) old new (λ x n. extended-number bytes x ∙ n) (λ x e t. still x t)
    (ap (λ (s : Served). s.unasked) h.0) (ap (λ (s : Served). s.core) h.0)
    (numbered M w (Takes c bytes) old out new h b.numbered) b
  where
    still : (x : Unasked) → (extended bytes x).closing ≡ true → x.closing ≡ true
    still x t = by x.closing refl t
      where
        by : (q : Bool) → x.closing ≡ q → (cond q x (record x { text = x.text ++ bytes; unread = x.unread + length bytes })).closing ≡ true → x.closing ≡ true
        by true e t = e
        by false e t = t

-- a connection is read out

pub rests-serve : (M : Terms) (w : When) (c : ℕ) (old : Served) (out : List Emission) (new : Served)
    → Does M w (Rests c) old out new → Base old → ServesOne c old new
rests-serve M w c old out new h b = record {
  base = record {
    numbered = numbered M w (Rests c) old out new h b.numbered;
    once = subst (λ (v : CoreValue). StandOnce (map conn_id v.state.conns)) (sym h.0) b.once;
    own = subst (λ (v : CoreValue). AskTheirOwn v.state.entries v.state.conns) (sym h.0) b.own;
  };
  others = λ d ne. record {
    at_same = λ x e. sym (recount-others c d old.unasked new.unasked h.2 ne) ∙ e;
    last = λ x. subst (Awaits IsLast d) (sym h.0) x;
    any = λ x. subst (Awaits IsAny d) (sym h.0) x;
  };
  last = λ l x e t.
      let y = recount-at c c old.unasked new.unasked h.2 x e in
      subst (Awaits IsLast c) (sym h.0) (l y.0 y.1 (sym (ap (λ (z : Unasked). z.closing) y.2) ∙ t));
}

-- a datagram goes out

pub sent-await : (P : Ask → Type 0) (d : ℕ) (v u : CoreValue) → u.state ≡ v.state → u.untaken ≡ v.untaken → Awaits P d v → Awaits P d u
sent-await P d v u e f x = record {
  number = x.number;
  moment = x.moment;
  ask = x.ask;
  asked = subst (λ (S : State). IsEntry S.entries x.number x.moment (Asked d x.ask)) (sym e) x.asked;
  such = x.such;
  due = by x.due;
}
  where
    by : HasConn v.state.conns d (Some x.number) ⊎ IsToTell v.untaken d x.number
        → HasConn u.state.conns d (Some x.number) ⊎ IsToTell u.untaken d x.number
    by (inl has) = inl (subst (λ (S : State). HasConn S.conns d (Some x.number)) (sym e) has)
    by (inr told) = inr (subst (λ (us : List Untaken). IsToTell us d x.number) (sym f) told)

pub sends-keep : (M : Terms) (w : When) (d : ℕ) (old : Served) (out : List Emission) (new : Served) → Does M w Sends old out new
    → KeepsAt d old new
sends-keep M w d old out new h =
    let state : new.core.state ≡ old.core.state = ap (λ (v : CoreValue). v.state) h.sent.1 in
    let untaken : new.core.untaken ≡ old.core.untaken = ap (λ (v : CoreValue). v.untaken) h.sent.1 in
    record {
      at_same = λ x e. subst (λ (xs : List Unasked). unasked_at d xs ≡ Some x) h.unasked e;
      last = λ x. sent-await IsLast d old.core new.core state untaken x;
      any = λ x. sent-await IsAny d old.core new.core state untaken x;
    }

pub sends-base : (M : Terms) (w : When) (old : Served) (out : List Emission) (new : Served) → Does M w Sends old out new
    → Base old → Base new
sends-base M w old out new h b = record {
  numbered = numbered M w Sends old out new h b.numbered;
  once = subst (λ (v : CoreValue). StandOnce (map conn_id v.state.conns)) (sym h.sent.1) b.once;
  own = subst (λ (v : CoreValue). AskTheirOwn v.state.entries v.state.conns) (sym h.sent.1) b.own;
}
