-- Which exchanges end at an entry, and what writes among them leave.
use Rattle.std.proofs.Common.{◌≡◌, ℕ, ◌⊎◌, zero, suc, inl, inr, Bool, true, false, not, eqb, List, [], ◌∷◌, ◌++◌, length, take, Option, Some, None, is_some, refl, sym, ap, subst, ◌∙◌, arith}
use Rattle.history_laws.specs.Laws.{IsReplyTo}
use Rattle.exchange_model.proofs.Comes.{heard-fits}
use Rattle.std.specs.List.{list_any, AllByRecursion, Contains}
use Rattle.std.specs.Prelude.{◌&&◌, filter, is_none, slice_get}
use Rattle.std.specs.Option.{option_map_or}
use Rattle.std.proofs.lemmas.Bool.{false≢true, and_parts}
use Rattle.std.proofs.lemmas.List.Elements.{Contains-append_cases, Contains-append_right}
use Rattle.std.proofs.lemmas.Option.{slice_get_past}
use Rattle.limits.specs.declared.TheConstants.{MAX_STORED}
use Rattle.cache_key.specs.Keys.{CacheKey, same_place}
use Rattle.cache_key.specs.declared.place.Place.{Place}
use Rattle.cache_key.proofs.CallerLemmas.{keys_decided}
use Rattle.resp_cache.specs.Stores.{is_of, is_elsewhere}
use Rattle.resp_cache.specs.declared.pair.Pair.{Pair}
use Rattle.ask_model.specs.Requests.{CoapRequest}
use Rattle.journal_book.specs.Entries.{Hears, Written}
use Rattle.ask_model.specs.Sharing.{asked_key, asked_place, writes_to}
use Rattle.history_laws.specs.Exchanges.{turn, end_here, Begun, begun, End, end_of, is_going, open_exchanges, kept as kept_of, heard_for}
use Rattle.history_laws.specs.Storing.{IsCrowdedOut, EndsSo}
use Rattle.history_laws.specs.Responses.{Response}
use Rattle.history_laws.specs.Readings.{Noted, Says, at, before, noted}
use Rattle.history_laws.specs.Progress.{Reply, Ending, Whole}
use Rattle.history_laws.specs.Justified.{Ends, Legal}
use Rattle.history_laws.proofs.CallerLemmas.{at-entries, at-keeps, at-new, before-new, contains-map, contains-none, end-below, end-old, all-filter, all-of, all-passes, contains-mapped, EndsWrite, ends-whole, entries-length, first-or-later, none-some, open-exactly, some-is, unended, heard-none}
use Rattle.exchange_model.specs.Reads.{HasPair, StoreIn, ExchangeIn, opening_of, PairIn, Reads}
use Rattle.exchange_model.specs.declared.kept.Exchange.{Exchange}
use Rattle.exchange_model.specs.State.{State}
use Rattle.exchange_model.specs.Matters.{asked_in, moment_in}
use Rattle.exchange_model.proofs.Uses.{crowded-out, order-take}
use Rattle.exchange_model.proofs.Lists.{all-both}
use Rattle.exchange_model.proofs.Outrun.{asked-here, EndsThose}

-- lists

pub all-take : {X : Type 0} (P : X → Type 0) (n : ℕ) (xs : List X) → AllByRecursion P xs → AllByRecursion P (take n xs)
all-take P zero xs a = tt
all-take P (suc n) [] a = tt
all-take P (suc n) (x ∷ xs) a = (a.0, all-take P n xs a.1)

pub all-kept : {X : Type 0} (P : X → Type 0) (q : X → Bool) (xs : List X) → AllByRecursion P xs → AllByRecursion (λ (x : X). P x × (q x ≡ true)) (filter q xs)
all-kept P q xs a = all-both P (λ x. q x ≡ true) (filter q xs) (all-filter P q xs a) (all-passes q xs)

-- At most 256 are kept: what is one too many was crowded out.
pub store-taken : (n : List Noted) (ps : List Pair) → StoreIn n ps → StoreIn n (take MAX_STORED ps)
store-taken n ps a = record {
  pairs = all-take (PairIn n) MAX_STORED ps a.pairs;
  order = order-take n (length n) MAX_STORED ps a.order;
  kept = λ q s is lasts. elim (a.kept q s is lasts) [
    | inl has ↦ among (asked_key q) has (list_any (is_of (asked_key q)) (take MAX_STORED ps)) refl
    | inr out ↦ inr out
  ];
}
  where
    among : (key : CacheKey) → HasPair ps key → (b : Bool) → list_any (is_of key) (take MAX_STORED ps) ≡ b → HasPair (take MAX_STORED ps) key ⊎ IsCrowdedOut n key
    among key has true h = inl h
    among key has false h = inr (crowded-out n key (length n) ps a.order has h)

-- with which response an exchange ended
whole-inner : (w v : Response) (rs us : List Reply) → Whole w rs ≡ Whole v us → w ≡ v
whole-inner w v rs us e = cc

abbrev pub ended-so : ℕ → Response → List Reply → Option End
ended-so n w rs = Some (record { number = n; how = Whole w rs })

pub whole-is : (n : ℕ) (w v : Response) (rs us : List Reply) → ended-so n w rs ≡ ended-so n v us → w ≡ v
whole-is n w v rs us e = whole-inner w v rs us (ap (λ (f : End). f.how) (some-is _ _ e))

-- What ended otherwise isn't a whole response.
abbrev pub ended-as : ℕ → Ending → Option End
ended-as n how = Some (record { number = n; how = how })

pub no-whole : (n : ℕ) (how : Ending) (w : Response) (rs : List Reply) → (how ≡ Whole w rs → ⊥) → ended-as n how ≡ ended-as n (Whole w rs) → ⊥
no-whole n how w rs other e = other (ap (λ (f : End). f.how) (some-is _ _ e))

-- It rests on a reply.
pub rests-on-some : (l : List Noted) (o n : ℕ) (w : Response) → Legal l → Ends l o n (Whole w []) → ⊥
rests-on-some l o n w legal e = by (ends-whole l o n w [] legal e).turned.made.others _ (ends-whole l o n w [] legal e).turned.made.ends
  where
    by : (rs : List Reply) (r : Reply) → [] ≡ rs ++ r ∷ [] → ⊥
    by [] r h = cc
    by (s ∷ rs) r h = cc

pub true-not : (b : Bool) → not b ≡ true → b ≡ true → ⊥
true-not true h e = false≢true h
true-not false h e = false≢true e

abbrev option_moment : ℕ → Option Written → ℕ
option_moment t v = option_map_or (λ (w : Written). w.moment) v t

module _ (x : Noted) (l : List Noted) (S : State) (r : Reads l S) (legal : Legal (x ∷ l)) where
  pub kept : (e : Exchange) → Contains S.exchanges e → ExchangeIn r.start l e
  kept e has = all-of (ExchangeIn r.start l) S.exchanges e r.exchanges_are has

  pub here : length S.entries ≡ length l
  here = ap length (sym r.entries_are) ∙ entries-length l

  -- The first reply of a whole response stands in the journal or is this entry: from its moment that counts.
  pub record FirstStands (first : Reply) : Type 0 where
    pub entry : Noted
    pub stands : at (x ∷ l) first.number ≡ Some entry
    pub moment : moment_in S.entries x.written.moment first.number ≡ entry.written.moment

  heard-before : (o : ℕ) (first : Reply) → IsReplyTo l o first → FirstStands first
  heard-before o first fits =
      let before_now : at l first.number ≡ Some (noted fits.moment (Hears fits.peer fits.bytes) (Says first.message (Some first.sending) fits.notice)) = fits.heard in
      record {
        entry = noted fits.moment (Hears fits.peer fits.bytes) (Says first.message (Some first.sending) fits.notice);
        stands = at-keeps x l first.number _ before_now;
        moment = ap (option_moment x.written.moment) (subst (λ (ws : List Written). slice_get ws first.number ≡ Some (record { moment = fits.moment; deed = Hears fits.peer fits.bytes })) r.entries_are (at-entries l first.number _ before_now));
      }

  stands-before : (o : ℕ) (first : Reply) → Contains (heard_for l o) first → FirstStands first
  stands-before o first has = by (begun l o) refl
    where
      by : (v : Option Begun) → begun l o ≡ v → FirstStands first
      by None none = absurd (contains-none first (subst (λ (rs : List Reply). Contains rs first) (heard-none l o r.legal none) has))
      by (Some b) opened = let it = heard-fits l o b first r.legal opened has in heard-before it.0 first it.1

  stands-now : (first : Reply) → first.number ≡ length l → FirstStands first
  stands-now first now = record {
    entry = x;
    stands = subst (λ (n : ℕ). at (x ∷ l) n ≡ Some x) (sym now) (at-new x l);
    moment = ap (option_moment x.written.moment) (slice_get_past S.entries first.number (let size = here in omega (arith, size, now)));
  }

  pub first-stands : (o : ℕ) (w : Response) (first : Reply) (more : List Reply) → Ends (x ∷ l) o (length l) (Whole w (first ∷ more)) → FirstStands first
  first-stands o w first more e =
      let it = ends-whole (x ∷ l) o (length l) w (first ∷ more) legal e in
      let last : Reply = record { number = length l; sending = it.turned.sending; message = it.turned.message } in
      let all : Contains (heard_for (before (x ∷ l) (length l)) o ++ last ∷ []) first =
      subst (λ (rs : List Reply). Contains rs first) (sym it.turned.made.split)
      (Contains-append_right it.turned.made.before (first ∷ more) first (zero, omega arith, refl)) in
      elim (Contains-append_cases (heard_for l o) (last ∷ []) first
      (subst (λ (older : List Noted). Contains (heard_for older o ++ last ∷ []) first) (before-new x l) all)) [
        | inl old ↦ stands-before o first old
        | inr new ↦ elim (first-or-later last [] first new) [
          | inl same ↦ stands-now first (ap (λ (a : Reply). a.number) (sym same))
          | inr none ↦ absurd (contains-none first none)
        ]
      ]

  was-begun : (o : ℕ) (f : End) → end_of (x ∷ l) o ≡ Some f → (b : Option Begun) → begun l o ≡ b → (b : Begun) × (begun l o ≡ Some b)
  was-begun o f ended None is = absurd (none-some f (sym (unended x l o legal is) ∙ ended))
  was-begun o f ended (Some b) is = (b, is)

  some-end : (v : Option End) → is_some v ≡ true → (f : End) × (v ≡ Some f)
  some-end None h = absurd (false≢true h)
  some-end (Some f) h = (f, refl)

  gone : (v : Option End) (f : End) → v ≡ Some f → is_none v ≡ false
  gone None f e = absurd (none-some f e)
  gone (Some g) f e = refl

  -- What ends now is one of these.
  pub is-ended : (over : List Exchange) → EndsThose x l S over → (o : ℕ) (f : End) → end_of l o ≡ None → end_of (x ∷ l) o ≡ Some f → (g : Exchange) × Contains over g × (g.opening ≡ o)
  is-ended over ends o f going ended =
      let b = was-begun o f ended (begun l o) refl in
      let open_now : Contains (open_exchanges l) o = (open-exactly l o).1 (ap is_some b.1, going) in
      let found = contains-mapped opening_of S.exchanges o (subst (λ (os : List ℕ). Contains os o) r.keys open_now) in
      let over_now : is_going (x ∷ l) found.0.opening ≡ false = subst (λ (k : ℕ). is_going (x ∷ l) k ≡ false) (sym found.2) (gone (end_of (x ∷ l) o) f ended) in
      let g = ends.all found.0 found.1 over_now in
      (g.0, g.1, g.2 ∙ found.2)

  pub request-is : (b c : Begun) → Some b ≡ Some c → b.request ≡ c.request
  request-is b c e = cc

  -- A write that ends now is one of these.
  pub write-of : (over : List Exchange) → EndsThose x l S over → (place : Place) → EndsWrite x l place
      → (g : Exchange) × Contains over g × (a : ExchangeIn r.start l g) × (writes_to place a.request ≡ true)
  write-of over ends place h =
      let f = some-end (end_of (x ∷ l) h.opening) h.ended in
      let g = is-ended over ends h.opening f.0 h.going f.1 in
      let a = kept g.0 (ends.ended g.0 g.1).0 in
      let opened : begun l h.opening ≡ Some (record { since = g.0.since; request = a.request }) = subst (λ (o : ℕ). begun l o ≡ Some (record { since = g.0.since; request = a.request })) g.2 a.opening in
      let same = request-is h.write (record { since = g.0.since; request = a.request }) (sym h.opened ∙ opened) in
      (g.0, g.1, a, subst (λ (q : CoapRequest). writes_to place q ≡ true) same h.changes)

  -- A pair that a write spares: it is of another place.
  abbrev pub Apart : Exchange → Pair → Type 0
  Apart e p = (q : CoapRequest) → asked_in S.entries e.ask ≡ Some q → eqb q.method 1 ≡ false → is_elsewhere (asked_place q) p ≡ true

  not-write : (q : CoapRequest) (b : Bool) → eqb q.method 1 ≡ b → not b ≡ true → b ≡ false
  not-write q true is h = absurd (false≢true h)
  not-write q false is h = refl

  -- So no write that ends now is at its place.
  pub unwritten : (over : List Exchange) → EndsThose x l S over → (p : Pair) (a : PairIn l p) → ((e : Exchange) → Contains over e → Apart e p) → EndsWrite x l (asked_place a.request) → ⊥
  unwritten over ends p a apart h =
      let g = write-of over ends (asked_place a.request) h in
      let both = and_parts (not (eqb g.2.request.method 1)) (same_place (asked_place a.request) (asked_place g.2.request)) g.3 in
      let away = apart g.0 g.1 g.2.request (asked-here l S r g.0 g.2) (not-write g.2.request (eqb g.2.request.method 1) refl both.0) in
      true-not (same_place p.key.place (asked_place g.2.request)) away
      (subst (λ (k : CacheKey). same_place k.place (asked_place g.2.request) ≡ true) a.key both.1)

  -- A write of these that ends now, at the place.
  pub ends-write : (over : List Exchange) → EndsThose x l S over → (e : Exchange) → Contains over e → (w : CoapRequest) → asked_in S.entries e.ask ≡ Some w → eqb w.method 1 ≡ false
      → (place : Place) → same_place place (asked_place w) ≡ true → EndsWrite x l place
  ends-write over ends e in_over w is write place same =
      let has = ends.ended e in_over in
      let a = kept e has.0 in
      let request : a.request ≡ w = some-is a.request w (sym (asked-here l S r e a) ∙ is) in
      record {
        opening = e.opening;
        write = record { since = e.since; request = a.request };
        opened = a.opening;
        changes = subst (λ (q : CoapRequest). (not (eqb q.method 1) && same_place place (asked_place q)) ≡ true) (sym request) (rw (write, same) refl);
        going = ((open-exactly l e.opening).0 (subst (λ (os : List ℕ). Contains os e.opening) (sym r.keys) (contains-map opening_of S.exchanges e has.0))).1;
        ended = some-one (end_of (x ∷ l) e.opening) has.1;
      }
    where
      some-one : (v : Option End) → is_none v ≡ false → is_some v ≡ true
      some-one None h = absurd (false≢true (sym h))
      some-one (Some f) h = refl

  -- So what is stored for a request whose place isn't written is elsewhere.
  pub is-away : (over : List Exchange) → EndsThose x l S over → (q : CoapRequest) → (EndsWrite x l (asked_place q) → ⊥)
      → (e : Exchange) → Contains over e → (w : CoapRequest) → asked_in S.entries e.ask ≡ Some w → eqb w.method 1 ≡ false
      → (p : Pair) → is_of (asked_key q) p ≡ true → is_elsewhere (asked_place w) p ≡ true
  is-away over ends q none e in_over w is write p of_q = by (same_place p.key.place (asked_place w)) refl
    where
      by : (b : Bool) → same_place p.key.place (asked_place w) ≡ b → not b ≡ true
      by false k = refl
      by true k = absurd (none (ends-write over ends e in_over w is write (asked_place q)
          (subst (λ (key : CacheKey). same_place key.place (asked_place w) ≡ true) ((keys_decided p.key (asked_key q)).0 of_q) k)))

  -- What ends now ended in this entry.
  pub was-going : (o e : ℕ) (w : Response) (rs : List Reply) → EndsSo (x ∷ l) o e w rs → e ≡ length l → end_of l o ≡ None
  was-going o e w rs so here_now = elim (end-old (end_here (begun l o) (kept_of l o) (length l) (heard_for l o) (turn l o x)) (length l) (end_of l o) _ so.ended) [
    | inl old ↦ let below = end-below l o e _ old in absurd (omega (arith, below, here_now))
    | inr new ↦ new.0
  ]

  pub now-going : (o e : ℕ) (how : Ending) → Ends (x ∷ l) o e how → e ≡ length l → end_of l o ≡ None
  now-going o e how so here_now = elim (end-old (end_here (begun l o) (kept_of l o) (length l) (heard_for l o) (turn l o x)) (length l) (end_of l o) _ so) [
    | inl old ↦ let below = end-below l o e _ old in absurd (omega (arith, below, here_now))
    | inr new ↦ new.0
  ]

  pub at-length : (o e : ℕ) (w : Response) (rs : List Reply) → EndsSo (x ∷ l) o e w rs → e ≡ length l → EndsSo (x ∷ l) o (length l) w rs
  at-length o e w rs so here_now = subst (λ (k : ℕ). EndsSo (x ∷ l) o k w rs) here_now so
