-- What a response leaves in the store that comes for a GET in the newest entry.
use Rattle.std.proofs.Common.{◌≡◌, ℕ, ◌⊎◌, inl, inr, Bool, true, false, cond, not, List, ◌∷◌, length, take, Option, Some, refl, sym, ap, subst, ◌∙◌, arith}
use Rattle.std.specs.Prelude.{◌==◌}
use Rattle.std.specs.List.{AllByRecursion}
use Rattle.std.proofs.lemmas.Bool.{false≢true, and_parts, or_right}
use Rattle.limits.specs.declared.TheConstants.{MAX_STORED}
use Rattle.cache_key.specs.Keys.{CacheKey, same_key}
use Rattle.cache_key.specs.declared.place.Place.{Place}
use Rattle.cache_key.proofs.CallerLemmas.{keys_decided}
use Rattle.resp_cache.specs.Stored.{Stored, is_never_fresh, lifetime}
use Rattle.resp_cache.specs.Stores.{is_of, is_of_another, others}
use Rattle.resp_cache.specs.declared.pair.Pair.{Pair}
use Rattle.ask_model.specs.Requests.{CoapRequest}
use Rattle.ask_model.specs.Sharing.{asked_key, asked_place, asks_same, is_get}
use Rattle.ask_model.proofs.CallerLemmas.{same-key}
use Rattle.history_laws.specs.Readings.{Noted, at}
use Rattle.history_laws.specs.Responses.{Response, renewed_response}
use Rattle.history_laws.specs.Progress.{Reply, numbers, Renewed}
use Rattle.history_laws.specs.Exchanges.{Begun, begun, end_of, ask_behind}
use Rattle.history_laws.specs.Joining.{asks_the_same, outrun, is_joinable}
use Rattle.history_laws.specs.Observing.{outdated}
use Rattle.history_laws.specs.Storing.{ComesSo, IsStored, IsUse, IsCrowdedOut, IsRenewal, first_in, renewed_list}
use Rattle.history_laws.specs.Justified.{Legal}
use Rattle.history_laws.proofs.CallerLemmas.{all-more, all-passes, before-new, EndsWrite, some-is, at-new}
use Rattle.exchange_model.specs.State.{State}
use Rattle.exchange_model.specs.Reads.{AreLastFirst, HasPair, IsLastUse, PairIn, Reads, StoreIn}
use Rattle.exchange_model.proofs.Carried.{IsOwn}
use Rattle.exchange_model.proofs.Came.{comes-below, one-comes}
use Rattle.exchange_model.proofs.Settling.{all-kept, store-taken, true-not}
use Rattle.exchange_model.proofs.Storing.{IsEarlier, pair-stays, stored-get, stored-unwritten, stored-was, stored-when, IsNow}
use Rattle.exchange_model.proofs.StoredAlike.{joinable-alike}
use Rattle.exchange_model.proofs.Stores.{every}
use Rattle.exchange_model.proofs.Uses.{crowded-stays, has-filtered, NotServing, order-filter, order-stays, order-weaker, own-quiet, unserved, Unused, use-below}
use Rattle.exchange_model.proofs.Renewals.{SameRenewal, one-renewed, renewal-alike, renewal-below, renewed-alone, renewed-number}

-- This comes in the newest entry for a GET, and may answer equal ones.
pub record Brings (x : Noted) (l : List Noted) (q : CoapRequest) (o : ℕ) (w : Response) (first : Reply) (more : List Reply) : Type 0 where
  pub comes : ComesSo (x ∷ l) o (length l) w (first ∷ more)
  pub get : is_get q ≡ true
  pub since : ℕ
  pub opened : begun (x ∷ l) o ≡ Some (record { since = since; request = q })
  pub joins : is_joinable (x ∷ l) q o ≡ true
  pub fresh : outdated (x ∷ l) (asked_key q) first.number ≡ false
  pub current : outrun l (asked_place q) o ≡ false
  pub newest : outdated l (asked_key q) first.number ≡ false
  pub entry : Noted
  pub stands : at (x ∷ l) first.number ≡ Some entry

-- This is stored for a GET in the newest entry: what comes in it, or is renewed, is for its key alone.
pub record Arrives (x : Noted) (l : List Noted) (q : CoapRequest) (s : Stored) : Type 0 where
  pub get : is_get q ≡ true
  pub stored : IsStored (x ∷ l) q s
  pub used : (other : CacheKey) → IsUse (x ∷ l) (length l) other → (asked_key q ≡ other) × (is_never_fresh s ≡ false)
  pub uses : is_never_fresh s ≡ false → IsUse (x ∷ l) (length l) (asked_key q)
  pub unanswered : (k : CoapRequest) → (asked_key k ≡ asked_key q → ⊥) → (o : ℕ) (w : Response) (r : Reply) (rs : List Reply)
      → ComesSo (x ∷ l) o (length l) w (r ∷ rs) → is_joinable (x ∷ l) k o ≡ true → ⊥
  pub unrenewed : (k : CoapRequest) → (asked_key k ≡ asked_key q → ⊥) → IsRenewal (x ∷ l) k (length l) → ⊥
  pub replaces : (k : CoapRequest) (u : Stored) → (is : IsStored (x ∷ l) k u) → IsEarlier x l k u is → asked_key k ≡ asked_key q → ⊥
  pub only : (k : CoapRequest) (u : Stored) → IsNow x l k u → (asked_key k ≡ asked_key q) × (is_never_fresh u ≡ is_never_fresh s)

module _ (x : Noted) (l : List Noted) (S : State) (r : Reads l S) (legal : Legal (x ∷ l)) (quiet : NotServing x.written.deed x.note)
    (q : CoapRequest) (s : Stored) (b : Arrives x l q s)
    (writes : (place : Place) → EndsWrite x l place → ⊥)
    (untold : (key : CacheKey) → (key ≡ asked_key q → ⊥) → (n : ℕ) → outdated (x ∷ l) key n ≡ outdated l key n) where
  abbrev key : CacheKey
  key = asked_key q

  abbrev pub new : Pair
  new = record { key = key; stored = s }

  unused-other : (other : CacheKey) → (key ≡ other → ⊥) → Unused x l other
  unused-other other differs u = differs (b.used other u).0

  stored-new : PairIn (x ∷ l) new
  stored-new = record { request = q; get = b.get; key = refl; stored = b.stored }

  own : IsOwn x
  own = own-quiet x quiet

  -- Pairs of other keys stay.
  rest : AllByRecursion (PairIn (x ∷ l)) (others key S.store)
  rest = all-more (λ (p : Pair). PairIn l p × (is_of_another key p ≡ true)) (PairIn (x ∷ l)) one (others key S.store) (all-kept (PairIn l) (is_of_another key) S.store r.store_is.pairs)
    where
      one : (p : Pair) → PairIn l p × (is_of_another key p ≡ true) → PairIn (x ∷ l) p
      one p h = pair-stays x l legal p h.0 (record {
        own = own;
        unwritten = writes (asked_place h.0.request);
        untold = untold (asked_key h.0.request) differs;
        unanswered = λ p v t ts comes joins fresh. b.unanswered h.0.request differs p v t ts comes joins;
        unrenewed = b.unrenewed h.0.request differs;
      })
        where
          differs : asked_key h.0.request ≡ key → ⊥
          differs e = true-not (same_key p.key key) h.1 ((keys_decided p.key key).1 (sym h.0.key ∙ e))

  still-has : (k : CoapRequest) (u : Stored) → (is : IsStored (x ∷ l) k u) → IsEarlier x l k u is → HasPair S.store (asked_key k) → HasPair (others key S.store) (asked_key k)
  still-has k u is earlier had = has-filtered (asked_key k) (is_of_another key) S.store (λ p of_k. another p of_k (same_key p.key key) refl) had
    where
      another : (p : Pair) → is_of (asked_key k) p ≡ true → (c : Bool) → same_key p.key key ≡ c → not c ≡ true
      another p of_k false f = refl
      another p of_k true f = absurd (b.replaces k u is earlier (sym ((keys_decided p.key (asked_key k)).0 of_k) ∙ (keys_decided p.key key).0 f))

  before-it : (k : CoapRequest) (u : Stored) → (is : IsStored (x ∷ l) k u) → is_never_fresh u ≡ false → IsEarlier x l k u is → HasPair S.store (asked_key k) ⊎ IsCrowdedOut l (asked_key k)
  before-it k u is lasts earlier = r.store_is.kept k u (stored-was x l k u legal own (stored-unwritten x l k u legal own is) is earlier) lasts

  -- one that is never fresh takes out what was stored
  takes : is_never_fresh s ≡ true → StoreIn (x ∷ l) (others key S.store)
  takes never = record {
    pairs = rest;
    order = order-weaker (x ∷ l) (length l) (length (x ∷ l)) (others key S.store) (omega arith)
        (order-stays x l (length l) (others key S.store) legal own (every (λ (p : Pair). Unused x l p.key) (λ p. unused p.key) (others key S.store))
        (order-filter l (length l) (is_of_another key) S.store r.store_is.order));
    kept = λ k u is lasts. kept_so k u is lasts (stored-when x l k u is);
  }
    where
      unused : (other : CacheKey) → Unused x l other
      unused other u = false≢true (sym (b.used other u).1 ∙ never)

      kept_so : (k : CoapRequest) (u : Stored) → (is : IsStored (x ∷ l) k u) → is_never_fresh u ≡ false
          → IsNow x l k u ⊎ IsEarlier x l k u is
          → HasPair (others key S.store) (asked_key k) ⊎ IsCrowdedOut (x ∷ l) (asked_key k)
      kept_so k u is lasts (inl now) = absurd (false≢true (sym lasts ∙ ((b.only k u now).1 ∙ never)))
      kept_so k u is lasts (inr earlier) = elim (before-it k u is lasts earlier) [
        | inl had ↦ inl (still-has k u is earlier had)
        | inr out ↦ inr (crowded-stays x l (asked_key k) legal own (unused (asked_key k)) out)
      ]

  -- and any other takes its place
  puts : is_never_fresh s ≡ false → StoreIn (x ∷ l) (new ∷ others key S.store)
  puts lasts = record {
    pairs = (stored-new, rest);
    order = order;
    kept = λ k u is lasts_u. kept_so k u is lasts_u (stored-when x l k u is);
  }
    where
      used : IsLastUse (x ∷ l) (length l) key
      used = record {
        used = b.uses lasts;
        last = λ m u. let below = use-below (x ∷ l) m key u in omega (arith, below);
      }

      order : AreLastFirst (x ∷ l) (length (x ∷ l)) (new ∷ others key S.store)
      order = inl (
        length l,
        omega arith,
        used,
        order-stays x l (length l) (others key S.store) legal own
            (all-more (λ (p : Pair). is_of_another key p ≡ true) (λ (p : Pair). Unused x l p.key)
            (λ p apart. unused-other p.key (λ f. true-not (same_key p.key key) apart ((keys_decided p.key key).1 (sym f)))) (others key S.store)
            (all-passes (is_of_another key) S.store))
            (order-filter l (length l) (is_of_another key) S.store r.store_is.order),
      )

      kept_so : (k : CoapRequest) (u : Stored) → (is : IsStored (x ∷ l) k u) → is_never_fresh u ≡ false
          → IsNow x l k u ⊎ IsEarlier x l k u is
          → HasPair (new ∷ others key S.store) (asked_key k) ⊎ IsCrowdedOut (x ∷ l) (asked_key k)
      kept_so k u is lasts_u (inl now) = inl (rw ((keys_decided key (asked_key k)).1 (sym (b.only k u now).0)) refl)
      kept_so k u is lasts_u (inr earlier) = elim (before-it k u is lasts_u earlier) [
        | inl had ↦ inl (or_right (is_of (asked_key k) new) _ (still-has k u is earlier had))
        | inr out ↦ inr (crowded-stays x l (asked_key k) legal own (unused-other (asked_key k) (λ f. b.replaces k u is earlier (sym f))) out)
      ]

  pub store-arrived : StoreIn (x ∷ l) (take MAX_STORED (cond (is_never_fresh s) (others key S.store) (new ∷ others key S.store)))
  store-arrived = by (is_never_fresh s) refl
    where
      by : (c : Bool) → is_never_fresh s ≡ c → StoreIn (x ∷ l) (take MAX_STORED (cond c (others key S.store) (new ∷ others key S.store)))
      by true h = store-taken (x ∷ l) _ (takes h)
      by false h = store-taken (x ∷ l) _ (puts h)

-- what comes
module _ (x : Noted) (l : List Noted) (legal : Legal (x ∷ l)) (quiet : NotServing x.written.deed x.note)
    (q : CoapRequest) (o : ℕ) (w : Response) (first : Reply) (more : List Reply) (b : Brings x l q o w first more) where
  abbrev pub came : Stored
  came = record { response = w; opening = ask_behind (x ∷ l) o; heard = b.entry.written.moment; list = numbers (first ∷ more) }

  -- Another GET that it may answer has its key.
  same-request : (k : CoapRequest) (p : ℕ) (v : Response) (ts : List Reply) → ComesSo (x ∷ l) p (length l) v ts → is_joinable (x ∷ l) k p ≡ true → asked_key k ≡ asked_key q
  same-request k p v ts comes joins =
      let it = one-comes (x ∷ l) o p (length l) w v (first ∷ more) ts legal b.comes comes in
      let both = and_parts (asks_the_same k (begun (x ∷ l) p)) _ joins in
      let same : asks_same k q ≡ true = subst (λ (u : Option Begun). asks_the_same k u ≡ true) (ap (begun (x ∷ l)) (sym it.opening) ∙ b.opened) both.0 in
      same-key k q same

  not-renewed : (k : CoapRequest) → IsRenewal (x ∷ l) k (length l) → ⊥
  not-renewed k a = renewed-alone (x ∷ l) a.opening o (length l) a.kept a.reply w (first ∷ more) legal a.ended b.comes

  used-so : (other : CacheKey) → IsUse (x ∷ l) (length l) other → (asked_key q ≡ other) × (is_never_fresh came ≡ false)
  used-so other (inl u) = absurd (unserved x l other quiet u)
  used-so other (inr (inl u)) =
      let it = one-comes (x ∷ l) o u.opening (length l) w u.response (first ∷ more) (u.first ∷ u.more) legal b.comes u.comes in
      let begins = some-is _ _ (sym b.opened ∙ (ap (begun (x ∷ l)) it.opening ∙ u.opened)) in (
        ap (λ (v : Begun). asked_key v.request) begins ∙ u.is,
        ap (λ (z : Response). lifetime z.max_age == 0) it.response ∙ u.lasts,
      )
  used-so other (inr (inr u)) = absurd (renewed-alone (x ∷ l) u.opening o (length l) u.kept u.reply w (first ∷ more) legal u.ended b.comes)

  joins-as : (k : CoapRequest) (u : Stored) → IsStored (x ∷ l) k u → asked_key k ≡ asked_key q → is_joinable (x ∷ l) k o ≡ true
  joins-as k u is same = joinable-alike (x ∷ l) k q (stored-get (x ∷ l) k u is) b.get same o ∙ b.joins

  -- What was stored under its key is stored no more.
  other-key : (k : CoapRequest) (u : Stored) → (is : IsStored (x ∷ l) k u) → IsEarlier x l k u is → asked_key k ≡ asked_key q → ⊥
  other-key k u is earlier same = by is earlier (joins-as k u is same)
    where
      fresh : outdated (x ∷ l) (asked_key k) first.number ≡ false
      fresh = ap (λ (z : CacheKey). outdated (x ∷ l) z first.number) same ∙ b.fresh

      by : (is : IsStored (x ∷ l) k u) → IsEarlier x l k u is → is_joinable (x ∷ l) k o ≡ true → ⊥
      by (inl (inr is)) earlier joins = is.0.alone o (length l) w first more b.comes joins fresh
      by (inl (inl is)) other joins =
          let le = is.0.latest o (length l) w first more b.comes joins fresh in
          let below = comes-below (x ∷ l) is.0.opening is.0.ending u.response (is.0.first ∷ is.0.more) is.0.comes in
          other (omega (arith, le, below))
      by (inr is) other joins =
          let le = is.latest o (length l) w first more b.comes joins fresh in
          let below = renewal-below (x ∷ l) k is.ending is.renewal in
          other (omega (arith, le, below))

  only-this : (k : CoapRequest) (u : Stored) → IsNow x l k u → (asked_key k ≡ asked_key q) × (is_never_fresh u ≡ is_never_fresh came)
  only-this k u (inl (is, now)) =
      let comes = subst (λ (n : ℕ). ComesSo (x ∷ l) is.opening n u.response (is.first ∷ is.more)) now is.comes in (
        same-request k is.opening u.response (is.first ∷ is.more) comes is.shared,
        ap (λ (z : Response). lifetime z.max_age == 0)
            (sym (one-comes (x ∷ l) o is.opening (length l) w u.response (first ∷ more) (is.first ∷ is.more) legal b.comes comes).response),
      )
  only-this k u (inr (is, now)) = absurd (not-renewed k (subst (IsRenewal (x ∷ l) k) now is.renewal))

  pub brought-arrives : Arrives x l q came
  brought-arrives = record {
    get = b.get;
    stored = inl (inl (
      record {
        opening = o;
        ending = length l;
        first = first;
        more = more;
        comes = b.comes;
        shared = b.joins;
        newest = b.fresh;
        latest = λ p e v t ts comes joins fresh. let below = comes-below (x ∷ l) p e v (t ∷ ts) comes in omega (arith, below);
        entry = b.entry;
        heard_in = b.stands;
        heard = refl;
        origin = refl;
        list = refl;
      },
      λ e a. let below = renewal-below (x ∷ l) q e a in omega (arith, below),
    ));
    used = used-so;
    uses = λ lasts. inr (inl (record {
      opening = o;
      response = w;
      first = first;
      more = more;
      comes = b.comes;
      since = b.since;
      request = q;
      opened = b.opened;
      get = b.get;
      is = refl;
      current = ap (λ (older : List Noted). outrun older (asked_place q) o) (before-new x l) ∙ b.current;
      newest = ap (λ (older : List Noted). outdated older (asked_key q) first.number) (before-new x l) ∙ b.newest;
      lasts = lasts;
    }));
    unanswered = λ k differs p v t ts comes joins. differs (same-request k p v (t ∷ ts) comes joins);
    unrenewed = λ k differs a. not-renewed k a;
    replaces = other-key;
    only = only-this;
  }

-- This is renewed in the newest entry for a GET, and may answer equal ones.
pub record Renews (x : Noted) (l : List Noted) (q : CoapRequest) (o : ℕ) (kept : Stored) (reply : Reply) : Type 0 where
  pub get : is_get q ≡ true
  pub ended : end_of (x ∷ l) o ≡ Some (record { number = length l; how = Renewed kept reply })
  pub since : ℕ
  pub opened : begun (x ∷ l) o ≡ Some (record { since = since; request = q })
  pub current : outrun (x ∷ l) (asked_place q) kept.opening ≡ false
  pub was_current : outrun l (asked_place q) kept.opening ≡ false
  pub newest : outdated (x ∷ l) (asked_key q) (first_in kept.list) ≡ false
  pub was_newest : outdated l (asked_key q) (first_in kept.list) ≡ false

module _ (x : Noted) (l : List Noted) (legal : Legal (x ∷ l)) (quiet : NotServing x.written.deed x.note)
    (q : CoapRequest) (o : ℕ) (kept : Stored) (reply : Reply) (b : Renews x l q o kept reply) where
  abbrev pub renewed_so : Stored
  renewed_so = record {
    response = renewed_response kept.response reply.message;
    opening = kept.opening;
    heard = x.written.moment;
    list = renewed_list kept reply.number;
  }

  renewal : IsRenewal (x ∷ l) q (length l)
  renewal = record {
    opening = o;
    kept = kept;
    reply = reply;
    ended = b.ended;
    same = ap (asks_the_same q) b.opened ∙ itself;
    current = b.current;
    newest = b.newest;
  }
    where
      itself : asks_same q q ≡ true
      itself = rw (b.get, (keys_decided (asked_key q) (asked_key q)).1 refl) refl

  none-comes-so : (p : ℕ) (v : Response) (ts : List Reply) → ComesSo (x ∷ l) p (length l) v ts → ⊥
  none-comes-so p v ts comes = renewed-alone (x ∷ l) o p (length l) kept reply v ts legal b.ended comes

  same-one : (p : ℕ) (u : Stored) (v : Reply) → end_of (x ∷ l) p ≡ Some (record { number = length l; how = Renewed u v }) → SameRenewal o p kept u reply v
  same-one p u v ended = one-renewed (x ∷ l) o p (length l) kept u reply v legal b.ended ended

  key-of : (k : CoapRequest) → IsRenewal (x ∷ l) k (length l) → asked_key k ≡ asked_key q
  key-of k a =
      let it = same-one a.opening a.kept a.reply a.ended in
      same-key k q (subst (λ (u : Option Begun). asks_the_same k u ≡ true) (ap (begun (x ∷ l)) (sym it.opening) ∙ b.opened) a.same)

  used-by : (other : CacheKey) → IsUse (x ∷ l) (length l) other → (asked_key q ≡ other) × (is_never_fresh renewed_so ≡ false)
  used-by other (inl u) = absurd (unserved x l other quiet u)
  used-by other (inr (inl u)) = absurd (none-comes-so u.opening u.response (u.first ∷ u.more) u.comes)
  used-by other (inr (inr u)) =
      let it = same-one u.opening u.kept u.reply u.ended in
      let begins = some-is _ _ (sym b.opened ∙ (ap (begun (x ∷ l)) it.opening ∙ u.opened)) in (
        ap (λ (v : Begun). asked_key v.request) begins ∙ u.is,
        ap (λ (k : Stored). lifetime (renewed_response k.response reply.message).max_age == 0) it.kept
            ∙ (ap (λ (v : Reply). lifetime (renewed_response u.kept.response v.message).max_age == 0) it.reply ∙ u.lasts),
      )

  replaced : (k : CoapRequest) (u : Stored) → (is : IsStored (x ∷ l) k u) → IsEarlier x l k u is → asked_key k ≡ asked_key q → ⊥
  replaced k u is earlier same = by is earlier (renewal-alike (x ∷ l) k q (length l) (stored-get (x ∷ l) k u is) b.get same renewal)
    where
      by : (is : IsStored (x ∷ l) k u) → IsEarlier x l k u is → IsRenewal (x ∷ l) k (length l) → ⊥
      by (inl (inr is)) earlier a = is.1 (length l) a
      by (inl (inl is)) other a =
          let le = is.1 (length l) a in
          let below = comes-below (x ∷ l) is.0.opening is.0.ending u.response (is.0.first ∷ is.0.more) is.0.comes in
          other (omega (arith, le, below))
      by (inr is) other a =
          let le = is.last (length l) a in
          let below = renewal-below (x ∷ l) k is.ending is.renewal in
          other (omega (arith, le, below))

  only-so : (k : CoapRequest) (u : Stored) → IsNow x l k u → (asked_key k ≡ asked_key q) × (is_never_fresh u ≡ is_never_fresh renewed_so)
  only-so k u (inl (is, now)) = absurd (none-comes-so is.opening u.response (is.first ∷ is.more) (subst (λ (n : ℕ). ComesSo (x ∷ l) is.opening n u.response (is.first ∷ is.more)) now is.comes))
  only-so k u (inr (is, now)) =
      let it = same-one is.renewal.opening is.renewal.kept is.renewal.reply
      (subst (λ (n : ℕ). end_of (x ∷ l) is.renewal.opening ≡ Some (record { number = n; how = Renewed is.renewal.kept is.renewal.reply })) now is.renewal.ended) in (
        key-of k (subst (IsRenewal (x ∷ l) k) now is.renewal),
        ap (λ (z : Response). lifetime z.max_age == 0) is.response
            ∙ (ap (λ (v : Stored). lifetime (renewed_response v.response is.renewal.reply.message).max_age == 0) (sym it.kept)
            ∙ ap (λ (v : Reply). lifetime (renewed_response kept.response v.message).max_age == 0) (sym it.reply)),
      )

  pub renewed-arrives : Arrives x l q renewed_so
  unfolding renewal
  renewed-arrives = record {
    get = b.get;
    stored = inr (record {
      ending = length l;
      renewal = renewal;
      latest = λ p e v t ts comes joins fresh. let below = comes-below (x ∷ l) p e v (t ∷ ts) comes in omega (arith, below);
      last = λ e a. let below = renewal-below (x ∷ l) q e a in omega (arith, below);
      entry = x;
      heard_in = ap (at (x ∷ l)) (renewed-number (x ∷ l) o (length l) kept reply b.ended) ∙ at-new x l;
      heard = refl;
      origin = refl;
      list = refl;
      response = refl;
    });
    used = used-by;
    uses = λ lasts. inr (inr (record {
      opening = o;
      kept = kept;
      reply = reply;
      ended = b.ended;
      since = b.since;
      request = q;
      opened = b.opened;
      get = b.get;
      is = refl;
      current = ap (λ (older : List Noted). outrun older (asked_place q) kept.opening) (before-new x l) ∙ b.was_current;
      newest = ap (λ (older : List Noted). outdated older (asked_key q) (first_in kept.list)) (before-new x l) ∙ b.was_newest;
      lasts = lasts;
    }));
    unanswered = λ k differs p v t ts comes joins. none-comes-so p v (t ∷ ts) comes;
    unrenewed = λ k differs a. differs (key-of k a);
    replaces = replaced;
    only = only-so;
  }
