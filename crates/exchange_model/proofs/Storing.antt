-- What an entry leaves of what is stored.
use Rattle.std.proofs.Common.{◌≢◌, arith, refl, ◌≡◌, ℕ, ◌≤◌, ◌⊎◌, Bool, true, false, not, inl, inr, List, ◌∷◌, length, Option, Some, None, is_some, sym, ap, subst, ◌∙◌, zero, ◌<◌}
use Rattle.exchange_model.proofs.Pieces.{behind-stays}
use Rattle.std.specs.List.{AllByRecursion}
use Rattle.std.specs.Prelude.{◌&&◌, ⊤}
use Rattle.std.proofs.lemmas.Bool.{false≢true, and_parts}
use Rattle.std.proofs.lemmas.Bool.Decides.{eqb_tells}
use Rattle.resp_cache.specs.Stored.{Stored}
use Rattle.resp_cache.specs.declared.pair.Pair.{Pair}
use Rattle.ask_model.specs.Requests.{CoapRequest}
use Rattle.ask_model.specs.Sharing.{asked_key, asked_place, asks_same, is_get}
use Rattle.history_laws.specs.Readings.{at, newest, Noted}
use Rattle.history_laws.specs.Progress.{Reply}
use Rattle.history_laws.specs.Exchanges.{Begun, begun, end_of}
use Rattle.history_laws.specs.Responses.{Response}
use Rattle.history_laws.specs.Joining.{asks_the_same, outrun, is_joinable}
use Rattle.history_laws.specs.Observing.{counting, outdated}
use Rattle.history_laws.specs.Storing.{ComesSo, IsBrought, IsCarried, IsRenewal, IsRenewed, IsStored, first_in}
use Rattle.history_laws.specs.Justified.{Legal}
use Rattle.history_laws.proofs.CallerLemmas.{at-newest, at-old, begun-below, at-below, comes-fit, write-outruns, all-more, at-keeps, begun-keeps, EndsWrite, outrun-quiet}
use Rattle.exchange_model.specs.Reads.{PairIn}
use Rattle.exchange_model.proofs.Carried.{carries-stays, carries-was, first-before, IsOwn, opening-before}
use Rattle.exchange_model.proofs.Came.{comes-back, comes-begun, comes-keeps, comes-was, fresh-before, none-comes, uncounted-by}
use Rattle.exchange_model.proofs.Renewals.{none-renews, renewal-back, renewal-below, renewal-for, renewal-get, renewal-keeps, renewal-unwritten, renewed-number}
use Rattle.exchange_model.proofs.Watches.{outdated-quiet}

-- What stands before the newest entry stood there.
stood : (x : Noted) (l : List Noted) (n : ℕ) (y : Noted) → n < length l → at (x ∷ l) n ≡ Some y → at l n ≡ Some y
stood x l n y below e = elim (at-old x l n y e) [
  | inl w ↦ absurd (let here = w.0 in omega (arith, here, below))
  | inr w ↦ w
]

-- Nothing that comes by the entry is to what is stored for the request.
pub record Spares (x : Noted) (l : List Noted) (q : CoapRequest) : Type 0 where
  pub own : IsOwn x
  pub unwritten : EndsWrite x l (asked_place q) → ⊥
  pub untold : (n : ℕ) → outdated (x ∷ l) (asked_key q) n ≡ outdated l (asked_key q) n
  pub unanswered : (o : ℕ) (w : Response) (r : Reply) (rs : List Reply) → ComesSo (x ∷ l) o (length l) w (r ∷ rs) → is_joinable (x ∷ l) q o ≡ true
      → outdated (x ∷ l) (asked_key q) r.number ≡ false → ⊥
  pub unrenewed : IsRenewal (x ∷ l) q (length l) → ⊥

pub joinable-same : (x : Noted) (l : List Noted) (q : CoapRequest) → Legal (x ∷ l) → (EndsWrite x l (asked_place q) → ⊥) → (o : ℕ) (b : Begun) → begun l o ≡ Some b
    → is_joinable (x ∷ l) q o ≡ is_joinable l q o
joinable-same x l q legal none o b is =
    ap (λ (v : Option Begun). asks_the_same q v && not (outrun (x ∷ l) (asked_place q) o)) (begun-keeps x l o b is ∙ sym is)
    ∙ ap (λ (c : Bool). asks_the_same q (begun l o) && not c) (outrun-quiet x l (asked_place q) o legal none)

brought-stays : (x : Noted) (l : List Noted) (q : CoapRequest) (s : Stored) → Legal (x ∷ l) → Spares x l q → IsBrought l q s → IsBrought (x ∷ l) q s
brought-stays x l q s legal spares a = record {
  opening = a.opening;
  ending = a.ending;
  first = a.first;
  more = a.more;
  comes = comes-keeps x l a.opening a.ending s.response (a.first ∷ a.more) a.comes;
  shared = (let was = comes-begun l a.opening a.ending s.response (a.first ∷ a.more) legal.0 a.comes in joinable-same x l q legal spares.unwritten a.opening was.0 was.1 ∙ a.shared);
  newest = spares.untold a.first.number ∙ a.newest;
  latest = latest;
  entry = a.entry;
  heard_in = at-keeps x l a.first.number _ a.heard_in;
  heard = a.heard;
  origin = a.origin ∙ sym (let was = comes-begun l a.opening a.ending s.response (a.first ∷ a.more) legal.0 a.comes in behind-stays x l a.opening was.0 was.1);
  list = a.list;
}
  where
    latest : (o e : ℕ) (w : Response) (r : Reply) (rs : List Reply) → ComesSo (x ∷ l) o e w (r ∷ rs) → is_joinable (x ∷ l) q o ≡ true
        → outdated (x ∷ l) (asked_key q) r.number ≡ false → e ≤ a.ending
    latest o e w r rs comes joins fresh = elim (eqb_tells e (length l)) [
      | inl new ↦ absurd (spares.unanswered o w r rs (subst (λ (n : ℕ). ComesSo (x ∷ l) o n w (r ∷ rs)) new.1 comes) joins fresh)
      | inr other ↦
          let old = comes-back x l o e w (r ∷ rs) comes other.1 in
          let was = comes-begun l o e w (r ∷ rs) legal.0 old in
          a.latest o e w r rs old (sym (joinable-same x l q legal spares.unwritten o was.0 was.1) ∙ joins) (sym (spares.untold r.number) ∙ fresh)
    ]

carried-stays : (x : Noted) (l : List Noted) (q : CoapRequest) (s : Stored) → Legal (x ∷ l) → Spares x l q → IsCarried l q s → IsCarried (x ∷ l) q s
carried-stays x l q s legal spares a =
    let c = carries-stays x l a.opening s.response (a.first ∷ a.more) spares.own a.carries in
    record {
      opening = a.opening;
      first = a.first;
      more = a.more;
      carries = c.0;
      code = a.code;
      same = subst (λ (b : Begun). asks_same q b.request ≡ true) c.1 a.same;
      current = outrun-quiet x l (asked_place q) a.opening legal spares.unwritten ∙ a.current;
      newest = spares.untold a.first.number ∙ a.newest;
      alone = alone;
      entry = a.entry;
      heard_in = at-keeps x l a.first.number _ a.heard_in;
      heard = a.heard;
      origin = a.origin;
      list = a.list;
    }
  where
    alone : (o e : ℕ) (w : Response) (r : Reply) (rs : List Reply) → ComesSo (x ∷ l) o e w (r ∷ rs) → is_joinable (x ∷ l) q o ≡ true
        → outdated (x ∷ l) (asked_key q) r.number ≡ false → ⊥
    alone o e w r rs comes joins fresh = elim (eqb_tells e (length l)) [
      | inl new ↦ spares.unanswered o w r rs (subst (λ (n : ℕ). ComesSo (x ∷ l) o n w (r ∷ rs)) new.1 comes) joins fresh
      | inr other ↦
          let old = comes-back x l o e w (r ∷ rs) comes other.1 in
          let was = comes-begun l o e w (r ∷ rs) legal.0 old in
          a.alone o e w r rs old (sym (joinable-same x l q legal spares.unwritten o was.0 was.1) ∙ joins) (sym (spares.untold r.number) ∙ fresh)
    ]

-- What is renewed after it was so before.
renewed-before : (x : Noted) (l : List Noted) (q : CoapRequest) (e : ℕ) → Legal (x ∷ l) → Spares x l q → IsRenewal (x ∷ l) q e → IsRenewal l q e
renewed-before x l q e legal spares a = elim (eqb_tells e (length l)) [
  | inl w ↦ absurd (spares.unrenewed (subst (IsRenewal (x ∷ l) q) w.1 a))
  | inr w ↦ renewal-back x l q e legal a w.1
]

renewed-stays : (x : Noted) (l : List Noted) (q : CoapRequest) (s : Stored) → Legal (x ∷ l) → Spares x l q → IsRenewed l q s → IsRenewed (x ∷ l) q s
renewed-stays x l q s legal spares a = record {
  ending = a.ending;
  renewal = renewal-keeps x l q a.ending legal spares.unwritten spares.untold a.renewal;
  latest = λ o e w r rs comes joins fresh. elim (eqb_tells e (length l)) [
    | inl new ↦ absurd (spares.unanswered o w r rs (subst (λ (n : ℕ). ComesSo (x ∷ l) o n w (r ∷ rs)) new.1 comes) joins fresh)
    | inr other ↦
        let old = comes-back x l o e w (r ∷ rs) comes other.1 in
        let was = comes-begun l o e w (r ∷ rs) legal.0 old in
        a.latest o e w r rs old (sym (joinable-same x l q legal spares.unwritten o was.0 was.1) ∙ joins) (sym (spares.untold r.number) ∙ fresh)
  ];
  last = λ e b. a.last e (renewed-before x l q e legal spares b);
  entry = a.entry;
  heard_in = at-keeps x l a.renewal.reply.number _ a.heard_in;
  heard = a.heard;
  origin = a.origin;
  list = a.list;
  response = a.response;
}

pub stored-stays : (x : Noted) (l : List Noted) (q : CoapRequest) (s : Stored) → Legal (x ∷ l) → Spares x l q → IsStored l q s → IsStored (x ∷ l) q s
unfolding brought-stays carried-stays
stored-stays x l q s legal spares (inl (inl a)) = inl (inl (brought-stays x l q s legal spares a.0, λ e b. a.1 e (renewed-before x l q e legal spares b)))
stored-stays x l q s legal spares (inl (inr a)) = inl (inr (carried-stays x l q s legal spares a.0, λ e b. a.1 e (renewed-before x l q e legal spares b)))
stored-stays x l q s legal spares (inr a) = inr (renewed-stays x l q s legal spares a)

-- An entry that ends nothing, and is no notification that counts, leaves it.
pub spares-all : (x : Noted) (l : List Noted) (q : CoapRequest) → IsOwn x → ((o : ℕ) → end_of (x ∷ l) o ≡ end_of l o) → counting l x.note ≡ None → Spares x l q
spares-all x l q own same silent = record {
  own = own;
  unwritten = λ h. absurd (false≢true (sym (ap is_some (same h.opening ∙ h.going)) ∙ h.ended));
  untold = λ n. outdated-quiet x l (asked_key q) n silent;
  unanswered = λ o w r rs comes joins fresh. none-comes x l o w (r ∷ rs) (same o) silent comes;
  unrenewed = λ a. none-renews x l q same a;
}

pub pair-stays : (x : Noted) (l : List Noted) → Legal (x ∷ l) → (p : Pair) → (a : PairIn l p) → Spares x l a.request → PairIn (x ∷ l) p
pair-stays x l legal p a spares = record { request = a.request; get = a.get; key = a.key; stored = stored-stays x l a.request p.stored legal spares a.stored }

pub pairs-stay : (x : Noted) (l : List Noted) → Legal (x ∷ l) → IsOwn x → ((o : ℕ) → end_of (x ∷ l) o ≡ end_of l o) → counting l x.note ≡ None → (ps : List Pair)
    → AllByRecursion (PairIn l) ps → AllByRecursion (PairIn (x ∷ l)) ps
pairs-stay x l legal own same silent ps a = all-more (PairIn l) (PairIn (x ∷ l)) (λ p h. pair-stays x l legal p h (spares-all x l h.request own same silent)) ps a

-- What is stored for a GET is stored for each of its key.

brought-first : (l : List Noted) (o e : ℕ) (w : Response) (first : Reply) (more : List Reply) → Legal l → ComesSo l o e w (first ∷ more) → first.number < length l
brought-first l o e w first more legal comes =
    let fit = comes-fit l o e w (first ∷ more) first legal comes (zero, omega arith, refl) in
    at-below l first.number _ fit.fits.heard

-- An entry that writes nothing there, and isn't the end of what is stored, leaves what was.
brought-was : (x : Noted) (l : List Noted) (q : CoapRequest) (s : Stored) → Legal (x ∷ l) → (EndsWrite x l (asked_place q) → ⊥) → (a : IsBrought (x ∷ l) q s) → a.ending ≢ length l
    → IsBrought l q s
brought-was x l q s legal writes a other = record {
  opening = a.opening;
  ending = a.ending;
  first = a.first;
  more = a.more;
  comes = old;
  shared = sym (joinable-same x l q legal writes a.opening was.0 was.1) ∙ a.shared;
  newest = fresh-before x l (asked_key q) a.first.number a.newest;
  latest = λ o e w r rs comes joins fresh.
      let b = comes-begun l o e w (r ∷ rs) legal.0 comes in
      a.latest o e w r rs (comes-keeps x l o e w (r ∷ rs) comes) (joinable-same x l q legal writes o b.0 b.1 ∙ joins)
      (uncounted-by x l (asked_key q) a.first.number first-below a.newest r.number ∙ fresh);
  entry = a.entry;
  heard_in = stood x l a.first.number a.entry first-below a.heard_in;
  heard = a.heard;
  origin = a.origin ∙ behind-stays x l a.opening was.0 was.1;
  list = a.list;
}
  where
    old : ComesSo l a.opening a.ending s.response (a.first ∷ a.more)
    old = comes-back x l a.opening a.ending s.response (a.first ∷ a.more) a.comes other

    was : (b : Begun) × (begun l a.opening ≡ Some b)
    was = comes-begun l a.opening a.ending s.response (a.first ∷ a.more) legal.0 old

    first-below : a.first.number < length l
    first-below = brought-first l a.opening a.ending s.response a.first a.more legal.0 old

carried-was : (x : Noted) (l : List Noted) (q : CoapRequest) (s : Stored) → Legal (x ∷ l) → IsOwn x → (EndsWrite x l (asked_place q) → ⊥) → IsCarried (x ∷ l) q s → IsCarried l q s
carried-was x l q s legal own writes a =
    let c = carries-was x l a.opening s.response (a.first ∷ a.more) own a.carries in
    let below = first-before l a.opening s.response a.first a.more legal.0 c.0 in
    record {
      opening = a.opening;
      first = a.first;
      more = a.more;
      carries = c.0;
      code = a.code;
      same = subst (λ (b : Begun). asks_same q b.request ≡ true) c.1 a.same;
      current = sym (outrun-quiet x l (asked_place q) a.opening legal writes) ∙ a.current;
      newest = fresh-before x l (asked_key q) a.first.number a.newest;
      alone = λ o e w r rs comes joins fresh.
          let b = comes-begun l o e w (r ∷ rs) legal.0 comes in
          a.alone o e w r rs (comes-keeps x l o e w (r ∷ rs) comes) (joinable-same x l q legal writes o b.0 b.1 ∙ joins)
          (uncounted-by x l (asked_key q) a.first.number below a.newest r.number ∙ fresh);
      entry = a.entry;
      heard_in = stood x l a.first.number a.entry below a.heard_in;
      heard = a.heard;
      origin = a.origin;
      list = a.list;
    }

-- What a GET was answered with stands as long as it counts from a reply that is newer than all that was told.
renewal-still : (x : Noted) (l : List Noted) (q : CoapRequest) (first e : ℕ) → Legal (x ∷ l) → (EndsWrite x l (asked_place q) → ⊥) → first < length l
    → outdated (x ∷ l) (asked_key q) first ≡ false → IsRenewal l q e → IsRenewal (x ∷ l) q e
renewal-still x l q first e legal writes below fresh a = renewal-keeps x l q e legal writes (uncounted-by x l (asked_key q) first below fresh) a

-- the replies that it counts from stand before the newest entry
brought-below : (x : Noted) (l : List Noted) (q : CoapRequest) (s : Stored) → Legal (x ∷ l) → (a : IsBrought (x ∷ l) q s) → a.ending ≢ length l → a.first.number < length l
brought-below x l q s legal a other =
    brought-first l a.opening a.ending s.response a.first a.more legal.0 (comes-back x l a.opening a.ending s.response (a.first ∷ a.more) a.comes other)

carried-below : (x : Noted) (l : List Noted) (q : CoapRequest) (s : Stored) → Legal (x ∷ l) → IsOwn x → (a : IsCarried (x ∷ l) q s) → a.first.number < length l
carried-below x l q s legal own a =
    let c = carries-was x l a.opening s.response (a.first ∷ a.more) own a.carries in
    first-before l a.opening s.response a.first a.more legal.0 c.0

renewed-was : (x : Noted) (l : List Noted) (q : CoapRequest) (s : Stored) → Legal (x ∷ l) → (EndsWrite x l (asked_place q) → ⊥) → (a : IsRenewed (x ∷ l) q s) → a.ending ≢ length l
    → IsRenewed l q s
renewed-was x l q s legal writes a other =
    let was = renewal-back x l q a.ending legal a.renewal other in
    let f = renewal-for l q a.ending legal.0 was in
    let now = renewed-number (x ∷ l) a.renewal.opening a.ending a.renewal.kept a.renewal.reply a.renewal.ended in
    let lt = renewal-below l q a.ending was in
    record {
      ending = a.ending;
      renewal = was;
      latest = λ o e w r rs comes joins fresh.
          let b = comes-begun l o e w (r ∷ rs) legal.0 comes in
          a.latest o e w r rs (comes-keeps x l o e w (r ∷ rs) comes) (joinable-same x l q legal writes o b.0 b.1 ∙ joins)
          (uncounted-by x l (asked_key q) (first_in a.renewal.kept.list) f.first a.renewal.newest r.number ∙ fresh);
      last = λ e b. a.last e (renewal-still x l q (first_in a.renewal.kept.list) e legal writes f.first a.renewal.newest b);
      entry = a.entry;
      heard_in = stood x l a.renewal.reply.number a.entry (omega (arith, now, lt)) a.heard_in;
      heard = a.heard;
      origin = a.origin;
      list = a.list;
      response = a.response;
    }

-- It didn't come in the newest entry.
abbrev pub IsEarlier : (x : Noted) (l : List Noted) (q : CoapRequest) (s : Stored) → IsStored (x ∷ l) q s → Type 0
IsEarlier x l q s (inl (inl a)) = a.0.ending ≢ length l
IsEarlier x l q s (inl (inr a)) = ⊤
IsEarlier x l q s (inr a) = a.ending ≢ length l

-- It did: it was brought, or renewed.
abbrev pub IsNow : (x : Noted) (l : List Noted) (q : CoapRequest) (s : Stored) → Type 0
IsNow x l q s = ((b : IsBrought (x ∷ l) q s) × (b.ending ≡ length l)) ⊎ ((b : IsRenewed (x ∷ l) q s) × (b.ending ≡ length l))

pub stored-was : (x : Noted) (l : List Noted) (q : CoapRequest) (s : Stored) → Legal (x ∷ l) → IsOwn x → (EndsWrite x l (asked_place q) → ⊥) → (a : IsStored (x ∷ l) q s) → IsEarlier x l q s a
    → IsStored l q s
unfolding brought-was carried-was
stored-was x l q s legal own writes (inl (inl a)) other = inl (inl (
  brought-was x l q s legal writes a.0 other,
  λ e b. a.1 e (renewal-still x l q a.0.first.number e legal writes (brought-below x l q s legal a.0 other) a.0.newest b),
))
stored-was x l q s legal own writes (inl (inr a)) other = inl (inr (
  carried-was x l q s legal own writes a.0,
  λ e b. a.1 e (renewal-still x l q a.0.first.number e legal writes (carried-below x l q s legal own a.0) a.0.newest b),
))
stored-was x l q s legal own writes (inr a) other = inr (renewed-was x l q s legal writes a other)

-- It did, or not.
pub stored-when : (x : Noted) (l : List Noted) (q : CoapRequest) (s : Stored) → (a : IsStored (x ∷ l) q s)
    → IsNow x l q s ⊎ IsEarlier x l q s a
stored-when x l q s (inl (inl a)) = elim (eqb_tells a.0.ending (length l)) [ inl w ↦ inl (inl (a.0, w.1)) | inr w ↦ inr w.1 ]
stored-when x l q s (inl (inr a)) = inr tt
stored-when x l q s (inr a) = elim (eqb_tells a.ending (length l)) [ inl w ↦ inl (inr (a, w.1)) | inr w ↦ inr w.1 ]

-- Nothing did by which nothing comes.
pub stored-earlier : (x : Noted) (l : List Noted) (q : CoapRequest) (s : Stored) → ((o : ℕ) (w : Response) (rs : List Reply) → ComesSo (x ∷ l) o (length l) w rs → ⊥)
    → (IsRenewal (x ∷ l) q (length l) → ⊥) → (a : IsStored (x ∷ l) q s) → IsEarlier x l q s a
stored-earlier x l q s none unrenewed a = elim (stored-when x l q s a) [
  | inl (inl now) ↦ let b = now.0 in
      absurd (none b.opening s.response (b.first ∷ b.more) (subst (λ (n : ℕ). ComesSo (x ∷ l) b.opening n s.response (b.first ∷ b.more)) now.1 b.comes))
  | inl (inr now) ↦ absurd (unrenewed (subst (IsRenewal (x ∷ l) q) now.1 now.0.renewal))
  | inr earlier ↦ earlier
]

-- It counts from a reply that is newer than all that was told.
pub record IsFresh (x : Noted) (l : List Noted) (q : CoapRequest) : Type 0 where
  pub first : ℕ
  pub below : first < length l
  pub fresh : outdated (x ∷ l) (asked_key q) first ≡ false

pub stored-fresh : (x : Noted) (l : List Noted) (q : CoapRequest) (s : Stored) → Legal (x ∷ l) → IsOwn x → (a : IsStored (x ∷ l) q s) → IsEarlier x l q s a → IsFresh x l q
stored-fresh x l q s legal own (inl (inl a)) other =
    record { first = a.0.first.number; below = brought-below x l q s legal a.0 other; fresh = a.0.newest }
stored-fresh x l q s legal own (inl (inr a)) other =
    record { first = a.0.first.number; below = carried-below x l q s legal own a.0; fresh = a.0.newest }
stored-fresh x l q s legal own (inr a) other =
    let f = renewal-for l q a.ending legal.0 (renewal-back x l q a.ending legal a.renewal other) in
    record { first = first_in a.renewal.kept.list; below = f.first; fresh = a.renewal.newest }

-- No write ends at the place of what is stored then.
brought-unwritten : (x : Noted) (l : List Noted) (q : CoapRequest) (s : Stored) → Legal (x ∷ l) → IsBrought (x ∷ l) q s → EndsWrite x l (asked_place q) → ⊥
brought-unwritten x l q s legal a h =
    let was = comes-was x l a.opening a.ending s.response (a.first ∷ a.more) legal a.comes in
    let both = and_parts (asks_the_same q (begun (x ∷ l) a.opening)) (not (outrun (x ∷ l) (asked_place q) a.opening)) a.shared in
    not-both (outrun (x ∷ l) (asked_place q) a.opening) both.1 (write-outruns x l (asked_place q) a.opening h (begun-below l a.opening was.0 was.1))
  where
    not-both : (b : Bool) → not b ≡ true → b ≡ true → ⊥
    not-both true f e = false≢true f
    not-both false f e = false≢true e

pub stored-unwritten : (x : Noted) (l : List Noted) (q : CoapRequest) (s : Stored) → Legal (x ∷ l) → IsOwn x → IsStored (x ∷ l) q s → EndsWrite x l (asked_place q) → ⊥
stored-unwritten x l q s legal own (inl (inl a)) h = brought-unwritten x l q s legal a.0 h
stored-unwritten x l q s legal own (inl (inr a)) h =
    let c = carries-was x l a.0.opening s.response (a.0.first ∷ a.0.more) own a.0.carries in
    let below = opening-before l a.0.opening s.response (a.0.first ∷ a.0.more) c.0 in
    false≢true (sym a.0.current ∙ write-outruns x l (asked_place q) a.0.opening h below)
stored-unwritten x l q s legal own (inr a) h = renewal-unwritten x l q a.ending legal a.renewal h

-- It is stored for a GET, and was heard by now.

pub stored-get : (l : List Noted) (q : CoapRequest) (s : Stored) → IsStored l q s → is_get q ≡ true
stored-get l q s (inl (inl a)) = by (begun l a.0.opening) (and_parts (asks_the_same q (begun l a.0.opening)) _ a.0.shared).0
  where
    by : (v : Option Begun) → asks_the_same q v ≡ true → is_get q ≡ true
    by None e = absurd (false≢true e)
    by (Some f) e = (and_parts (is_get q) _ e).0
stored-get l q s (inl (inr a)) = (and_parts (is_get q) _ a.0.same).0
stored-get l q s (inr a) = renewal-get l q a.ending a.renewal

pub stored-by-now : (l : List Noted) (q : CoapRequest) (s : Stored) → Legal l → IsStored l q s → s.heard ≤ newest l
stored-by-now l q s legal (inl (inl a)) = let early = at-newest l a.0.first.number a.0.entry legal a.0.heard_in in let is = a.0.heard in omega (arith, early, is)
stored-by-now l q s legal (inl (inr a)) = let early = at-newest l a.0.first.number a.0.entry legal a.0.heard_in in let is = a.0.heard in omega (arith, early, is)
stored-by-now l q s legal (inr a) = let early = at-newest l a.renewal.reply.number a.entry legal a.heard_in in let is = a.heard in omega (arith, early, is)
