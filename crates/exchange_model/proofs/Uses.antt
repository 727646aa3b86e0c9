-- Which entries use what is stored, and the order of last uses.
use Rattle.std.proofs.Common.{◌≡◌, ◌≢◌, ℕ, zero, suc, ◌<◌, ◌≤◌, inl, inr, Bool, true, false, cond, List, [], ◌∷◌, length, take, None, Some, refl, sym, ap, subst, ◌∙◌, arith}
use Rattle.std.specs.Prelude.{◌||◌, filter}
use Rattle.std.specs.List.{AllByRecursion, list_any}
use Rattle.std.proofs.lemmas.Bool.{false≢true, or_right}
use Rattle.std.proofs.lemmas.Bool.Decides.{eqb_tells}
use Rattle.limits.specs.declared.TheConstants.{MAX_STORED}
use Rattle.cache_key.specs.Keys.{CacheKey}
use Rattle.cache_key.proofs.CallerLemmas.{keys_decided}
use Rattle.resp_cache.specs.Stores.{is_of}
use Rattle.resp_cache.specs.declared.pair.Pair.{Pair}
use Rattle.ask_model.specs.Requests.{CoapRequest, Requests}
use Rattle.ask_model.specs.Sharing.{asked_key}
use Rattle.ask_model.specs.Views.{Ask}
use Rattle.journal_book.specs.Entries.{Deed, Asks, Carries}
use Rattle.history_laws.specs.Readings.{Noted, Note, Serves, carries, noted, at}
use Rattle.history_laws.specs.Exchanges.{end_of, begun, end_here, kept, turn, heard_for}
use Rattle.history_laws.specs.Joining.{outrun}
use Rattle.history_laws.specs.Observing.{counting, outdated}
use Rattle.history_laws.specs.Storing.{IsServing, IsUnused, IsUse, IsUsedSince, KeysDiffer, IsCrowdedOut, first_in}
use Rattle.history_laws.specs.Justified.{Legal}
use Rattle.history_laws.proofs.CallerLemmas.{all-filter, all-more, at-below, at-keeps, at-old, before-keeps, begun-keeps, end-below, end-keeps, end-old, ended-begun}
use Rattle.exchange_model.specs.Reads.{AreUnused, IsLastUse, AreLastFirst, HasPair}
use Rattle.exchange_model.proofs.Carried.{IsOwn, under-stays}
use Rattle.exchange_model.proofs.Came.{comes-back, comes-begun, comes-below, comes-keeps, none-comes}
use Rattle.history_laws.specs.Progress.{Ending, Renewed}

-- a use stands

pub use-below : (l : List Noted) (n : ℕ) (key : CacheKey) → IsUse l n key → n < length l
use-below l n key (inl h) = at-below l n _ h.stands
use-below l n key (inr (inl h)) = comes-below l h.opening n h.response (h.first ∷ h.more) h.comes
use-below l n key (inr (inr h)) = end-below l h.opening n _ h.ended

pub use-keeps : (x : Noted) (l : List Noted) (n : ℕ) (key : CacheKey) → IsUse l n key → IsUse (x ∷ l) n key
use-keeps x l n key (inl h) = inl (record {
  moment = h.moment;
  conn = h.conn;
  ask = h.ask;
  replies = h.replies;
  stands = at-keeps x l n _ h.stands;
  request = h.request;
  sense = h.sense;
  is = h.is;
})
use-keeps x l n key (inr (inl h)) = inr (inl (record {
  opening = h.opening;
  response = h.response;
  first = h.first;
  more = h.more;
  comes = comes-keeps x l h.opening n h.response (h.first ∷ h.more) h.comes;
  since = h.since;
  request = h.request;
  opened = begun-keeps x l h.opening _ h.opened;
  get = h.get;
  is = h.is;
  current = ap (λ (older : List Noted). outrun older key.place h.opening) (before-keeps x l n (comes-below l h.opening n h.response (h.first ∷ h.more) h.comes)) ∙ h.current;
  newest = ap (λ (older : List Noted). outdated older key h.first.number) (before-keeps x l n (comes-below l h.opening n h.response (h.first ∷ h.more) h.comes)) ∙ h.newest;
  lasts = h.lasts;
}))
use-keeps x l n key (inr (inr h)) = inr (inr (record {
  opening = h.opening;
  kept = h.kept;
  reply = h.reply;
  ended = end-keeps x l h.opening _ h.ended;
  since = h.since;
  request = h.request;
  opened = begun-keeps x l h.opening _ h.opened;
  get = h.get;
  is = h.is;
  current = ap (λ (older : List Noted). outrun older key.place h.kept.opening) (before-keeps x l n (end-below l h.opening n _ h.ended)) ∙ h.current;
  newest = ap (λ (older : List Noted). outdated older key (first_in h.kept.list)) (before-keeps x l n (end-below l h.opening n _ h.ended)) ∙ h.newest;
  lasts = h.lasts;
}))

-- what was one before the newest entry was one
pub use-back : (x : Noted) (l : List Noted) (n : ℕ) (key : CacheKey) → Legal (x ∷ l) → IsUse (x ∷ l) n key → n ≢ length l → IsUse l n key
use-back x l n key legal (inl h) other = elim (at-old x l n _ h.stands) [
  | inl w ↦ absurd (other w.0)
  | inr w ↦ inl (record { moment = h.moment; conn = h.conn; ask = h.ask; replies = h.replies; stands = w; request = h.request; sense = h.sense; is = h.is })
]
use-back x l n key legal (inr (inl h)) other =
    let old = comes-back x l h.opening n h.response (h.first ∷ h.more) h.comes other in
    let was = comes-begun l h.opening n h.response (h.first ∷ h.more) legal.0 old in
    let below = comes-below l h.opening n h.response (h.first ∷ h.more) old in
    inr (inl (record {
      opening = h.opening;
      response = h.response;
      first = h.first;
      more = h.more;
      comes = old;
      since = h.since;
      request = h.request;
      opened = was.1 ∙ (sym (begun-keeps x l h.opening was.0 was.1) ∙ h.opened);
      get = h.get;
      is = h.is;
      current = ap (λ (older : List Noted). outrun older key.place h.opening) (sym (before-keeps x l n below)) ∙ h.current;
      newest = ap (λ (older : List Noted). outdated older key h.first.number) (sym (before-keeps x l n below)) ∙ h.newest;
      lasts = h.lasts;
    }))
use-back x l n key legal (inr (inr h)) other =
    let old : end_of l h.opening ≡ Some (record { number = n; how = Renewed h.kept h.reply }) =
    elim (end-old (end_here (begun l h.opening) (kept l h.opening) (length l) (heard_for l h.opening) (turn l h.opening x)) (length l) (end_of l h.opening) _ h.ended) [
      | inl was ↦ was
      | inr new ↦ absurd (other (sym new.1))
    ] in
    let was = ended-begun l h.opening _ legal.0 old in
    let below = end-below l h.opening n _ old in
    inr (inr (record {
      opening = h.opening;
      kept = h.kept;
      reply = h.reply;
      ended = old;
      since = h.since;
      request = h.request;
      opened = was.1 ∙ (sym (begun-keeps x l h.opening was.0 was.1) ∙ h.opened);
      get = h.get;
      is = h.is;
      current = ap (λ (older : List Noted). outrun older key.place h.kept.opening) (sym (before-keeps x l n below)) ∙ h.current;
      newest = ap (λ (older : List Noted). outdated older key (first_in h.kept.list)) (sym (before-keeps x l n below)) ∙ h.newest;
      lasts = h.lasts;
    }))

-- the newest entry uses nothing under the key
abbrev pub Unused : Noted → List Noted → CacheKey → Type 0
Unused x l key = IsUse (x ∷ l) (length l) key → ⊥

-- an entry of the journal's own that serves nothing
abbrev pub NotServing : Deed → Note → Type 0
NotServing (Asks c a) (Serves js) = ⊥
NotServing (Carries k mark done) note = ⊥
NotServing d note = Unit {0}

own-deed : (d : Deed) (note : Note) → NotServing d note → carries d ≡ false
own-deed (Carries k mark done) note h = absurd h
own-deed d note h = refl

pub own-quiet : (x : Noted) → NotServing x.written.deed x.note → IsOwn x
own-quiet x h = own-deed x.written.deed x.note h

serves-not : (x : Noted) (m c : ℕ) (a : Ask) (js : List ℕ) → NotServing x.written.deed x.note → x ≡ noted m (Asks c a) (Serves js) → ⊥
serves-not x m c a js h e = subst (λ (y : Noted). NotServing y.written.deed y.note) e h

newest-is : (x : Noted) (l : List Noted) (y : Noted) → at (x ∷ l) (length l) ≡ Some y → x ≡ y
newest-is x l y e = elim (at-old x l (length l) y e) [
  | inl w ↦ w.1
  | inr w ↦ let below = at-below l (length l) y w in absurd (omega (arith, below))
]

pub unserved : (x : Noted) (l : List Noted) (key : CacheKey) → NotServing x.written.deed x.note → IsServing (x ∷ l) (length l) key → ⊥
unserved x l key h s = serves-not x s.moment s.conn s.ask s.replies h (newest-is x l _ s.stands)

no-end : (x : Noted) (l : List Noted) (o : ℕ) (how : Ending) → end_of (x ∷ l) o ≡ end_of l o → end_of (x ∷ l) o ≡ Some (record { number = length l; how = how }) → ⊥
no-end x l o how same e = let below = end-below l o (length l) how (sym same ∙ e) in omega (arith, below)

pub unused-still : (x : Noted) (l : List Noted) → ((o : ℕ) → end_of (x ∷ l) o ≡ end_of l o) → counting l x.note ≡ None → NotServing x.written.deed x.note → (key : CacheKey) → Unused x l key
unused-still x l same silent h key (inl s) = unserved x l key h s
unused-still x l same silent h key (inr (inl s)) = none-comes x l s.opening s.response (s.first ∷ s.more) (same s.opening) silent s.comes
unused-still x l same silent h key (inr (inr s)) = no-end x l s.opening _ (same s.opening) s.ended

-- What is served is used, and nothing else.
pub served-key : (x : Noted) (l : List Noted) (t c : ℕ) (a : Ask) (js : List ℕ) (key k : CacheKey) → x ≡ noted t (Asks c a) (Serves js) → ((o : ℕ) → end_of (x ∷ l) o ≡ end_of l o) → counting l x.note ≡ None
    → ((q : CoapRequest) → a.sense ≡ Requests q → asked_key q ≡ key) → IsUse (x ∷ l) (length l) k → k ≡ key
served-key x l t c a js key k is same silent asks (inr (inl s)) = absurd (none-comes x l s.opening s.response (s.first ∷ s.more) (same s.opening) silent s.comes)
served-key x l t c a js key k is same silent asks (inr (inr s)) = absurd (no-end x l s.opening _ (same s.opening) s.ended)
served-key x l t c a js key k is same silent asks (inl s) = sym s.is ∙ asks s.request (ap (λ (b : Ask). b.sense) (ask-is (sym is ∙ newest-is x l _ s.stands)) ∙ s.sense)
  where
    ask-is : noted t (Asks c a) (Serves js) ≡ noted s.moment (Asks s.conn s.ask) (Serves s.replies) → a ≡ s.ask
    ask-is e = asks-of (ap (λ (y : Noted). y.written.deed) e)
      where
        asks-of : Asks c a ≡ Asks s.conn s.ask → a ≡ s.ask
        asks-of h = cc

-- the order of last uses

pub last-stays : (x : Noted) (l : List Noted) (n : ℕ) (key : CacheKey) → Legal (x ∷ l) → Unused x l key → IsLastUse l n key → IsLastUse (x ∷ l) n key
last-stays x l n key legal none a = record {
  used = use-keeps x l n key a.used;
  last = λ m u. elim (eqb_tells m (length l)) [
    | inl w ↦ absurd (none (subst (λ (k : ℕ). IsUse (x ∷ l) k key) w.1 u))
    | inr w ↦ a.last m (use-back x l m key legal u w.1)
  ];
}

-- What wasn't used isn't used by an entry that doesn't.
pub unused-stays : (x : Noted) (l : List Noted) (key : CacheKey) → Legal (x ∷ l) → IsOwn x → Unused x l key → IsUnused l key → IsUnused (x ∷ l) key
unused-stays x l key legal own none a = (
  under-stays x l key own a.0,
  λ n u. elim (eqb_tells n (length l)) [
    | inl w ↦ none (subst (λ (k : ℕ). IsUse (x ∷ l) k key) w.1 u)
    | inr w ↦ a.1 n (use-back x l n key legal u w.1)
  ],
)

unused-all : (x : Noted) (l : List Noted) (ps : List Pair) → Legal (x ∷ l) → IsOwn x → AllByRecursion (λ (p : Pair). Unused x l p.key) ps → AreUnused l ps → AreUnused (x ∷ l) ps
unused-all x l [] legal own none a = tt
unused-all x l (p ∷ ps) legal own none a = (unused-stays x l p.key legal own none.0 a.0, a.1, unused-all x l ps legal own none.1 a.2)

pub order-stays : (x : Noted) (l : List Noted) (b : ℕ) (ps : List Pair) → Legal (x ∷ l) → IsOwn x → AllByRecursion (λ (p : Pair). Unused x l p.key) ps → AreLastFirst l b ps → AreLastFirst (x ∷ l) b ps
order-stays x l b [] legal own none a = tt
order-stays x l b (p ∷ ps) legal own none (inl a) = inl (a.0, a.1, last-stays x l a.0 p.key legal none.0 a.2, order-stays x l a.0 ps legal own none.1 a.3)
order-stays x l b (p ∷ ps) legal own none (inr a) = inr (unused-all x l (p ∷ ps) legal own none a)

pub order-weaker : (l : List Noted) (b c : ℕ) (ps : List Pair) → b ≤ c → AreLastFirst l b ps → AreLastFirst l c ps
order-weaker l b c [] le a = tt
order-weaker l b c (p ∷ ps) le (inl a) = inl (a.0, (let lt = a.1 in omega (arith, lt, le)), a.2, a.3)
order-weaker l b c (p ∷ ps) le (inr a) = inr a

-- Those that weren't used go by any bound.
unused-order : (l : List Noted) (b : ℕ) (ps : List Pair) → AreUnused l ps → AreLastFirst l b ps
unused-order l b [] a = tt
unused-order l b (p ∷ ps) a = inr a

unused-filter : (l : List Noted) (f : Pair → Bool) (ps : List Pair) → AreUnused l ps → AreUnused l (filter f ps)
unused-filter l f [] a = tt
unused-filter l f (p ∷ ps) a = by (f p) (unused-filter l f ps a.2)
  where
    by : (c : Bool) → AreUnused l (filter f ps) → AreUnused l (cond c (p ∷ filter f ps) (filter f ps))
    by true ih = (a.0, all-filter (λ (r : Pair). p.key ≢ r.key) f ps a.1, ih)
    by false ih = ih

pub order-filter : (l : List Noted) (b : ℕ) (f : Pair → Bool) (ps : List Pair) → AreLastFirst l b ps → AreLastFirst l b (filter f ps)
order-filter l b f [] a = tt
order-filter l b f (p ∷ ps) (inr a) = unused-order l b (filter f (p ∷ ps)) (unused-filter l f (p ∷ ps) a)
order-filter l b f (p ∷ ps) (inl a) = by (f p) (order-filter l a.0 f ps a.3)
  where
    by : (c : Bool) → AreLastFirst l a.0 (filter f ps) → AreLastFirst l b (cond c (p ∷ filter f ps) (filter f ps))
    by true ih = inl (a.0, a.1, a.2, ih)
    by false ih = order-weaker l a.0 b (filter f ps) (let lt = a.1 in omega (arith, lt)) ih

all-taken : (P : Pair → Type 0) (k : ℕ) (ps : List Pair) → AllByRecursion P ps → AllByRecursion P (take k ps)
all-taken P zero ps a = tt
all-taken P (suc k) [] a = tt
all-taken P (suc k) (p ∷ ps) a = (a.0, all-taken P k ps a.1)

unused-take : (l : List Noted) (k : ℕ) (ps : List Pair) → AreUnused l ps → AreUnused l (take k ps)
unused-take l zero ps a = tt
unused-take l (suc k) [] a = tt
unused-take l (suc k) (p ∷ ps) a = (a.0, all-taken (λ (r : Pair). p.key ≢ r.key) k ps a.1, unused-take l k ps a.2)

pub order-take : (l : List Noted) (b k : ℕ) (ps : List Pair) → AreLastFirst l b ps → AreLastFirst l b (take k ps)
order-take l b zero ps a = tt
order-take l b (suc k) [] a = tt
order-take l b (suc k) (p ∷ ps) (inl a) = inl (a.0, a.1, a.2, order-take l a.0 k ps a.3)
order-take l b (suc k) (p ∷ ps) (inr a) = inr (unused-take l (suc k) (p ∷ ps) a)

-- lists of pairs

pub has-filtered : (key : CacheKey) (f : Pair → Bool) (ps : List Pair) → ((p : Pair) → is_of key p ≡ true → f p ≡ true) → HasPair ps key → HasPair (filter f ps) key
has-filtered key f [] keeps h = absurd (false≢true h)
has-filtered key f (p ∷ ps) keeps h = by (is_of key p) refl h (λ k. has-filtered key f ps keeps k) (f p) refl
  where
    by : (b : Bool) → is_of key p ≡ b → (b || list_any (is_of key) ps) ≡ true → (HasPair ps key → HasPair (filter f ps) key)
        → (c : Bool) → f p ≡ c → list_any (is_of key) (cond c (p ∷ filter f ps) (filter f ps)) ≡ true
    by true is h ih true k = rw (is) refl
    by true is h ih false k = absurd (false≢true (sym k ∙ keeps p is))
    by false is h ih true k = or_right (is_of key p) _ (ih h)
    by false is h ih false k = ih h

-- crowded out

used-since-stays : (x : Noted) (l : List Noted) (key k : CacheKey) → Legal (x ∷ l) → IsOwn x → Unused x l key → IsUsedSince l key k → IsUsedSince (x ∷ l) key k
used-since-stays x l key k legal own none (inl h) = inl (
  h.0,
  use-keeps x l h.0 k h.1,
  λ m u. elim (eqb_tells m (length l)) [
    | inl w ↦ absurd (none (subst (λ (j : ℕ). IsUse (x ∷ l) j key) w.1 u))
    | inr w ↦ h.2 m (use-back x l m key legal u w.1)
  ],
)
used-since-stays x l key k legal own none (inr h) = inr (under-stays x l k own h.0, unused-stays x l key legal own none h.1)

pub crowded-stays : (x : Noted) (l : List Noted) (key : CacheKey) → Legal (x ∷ l) → IsOwn x → Unused x l key → IsCrowdedOut l key → IsCrowdedOut (x ∷ l) key
crowded-stays x l key legal own none a = record {
  others = a.others;
  many = a.many;
  differ = a.differ;
  since = all-more (IsUsedSince l key) (IsUsedSince (x ∷ l) key) (λ k h. used-since-stays x l key k legal own none h) a.others a.since;
}

-- A key among those that weren't used wasn't used.
unused-has : (l : List Noted) (ps : List Pair) (key : CacheKey) → AreUnused l ps → HasPair ps key → IsUnused l key
unused-has l [] key a h = absurd (false≢true h)
unused-has l (p ∷ ps) key a h = by (is_of key p) refl h (λ k. unused-has l ps key a.2 k)
  where
    by : (c : Bool) → is_of key p ≡ c → (c || list_any (is_of key) ps) ≡ true → (HasPair ps key → IsUnused l key) → IsUnused l key
    by true is h ih = subst (IsUnused l) ((keys_decided p.key key).0 is) a.0
    by false is h ih = ih h

-- all uses of a pair's key lie before the bound
pub uses-before : (l : List Noted) (b : ℕ) (ps : List Pair) (key : CacheKey) → AreLastFirst l b ps → HasPair ps key → (m : ℕ) → IsUse l m key → m < b
uses-before l b [] key a h m u = absurd (false≢true h)
uses-before l b (p ∷ ps) key (inr a) h m u = absurd ((unused-has l (p ∷ ps) key a h).1 m u)
uses-before l b (p ∷ ps) key (inl a) h m u = by (is_of key p) refl h (λ k. uses-before l a.0 ps key a.3 k m u)
  where
    by : (c : Bool) → is_of key p ≡ c → (c || list_any (is_of key) ps) ≡ true → (HasPair ps key → m < a.0) → m < b
    by true is h ih =
        let le = a.2.last m (subst (IsUse l m) (sym ((keys_decided p.key key).0 is)) u) in
        let lt = a.1 in
        omega (arith, le, lt)
    by false is h ih =
        let less = ih h in
        let lt = a.1 in
        omega (arith, less, lt)

record Crowd (l : List Noted) (key : CacheKey) (k b : ℕ) : Type 0 where
  pub others : List CacheKey
  pub many : length others ≡ k
  pub differ : KeysDiffer others
  pub since : AllByRecursion (IsUsedSince l key) others
  pub before_it : AllByRecursion (λ (j : CacheKey). (m : ℕ) → IsUse l m j → m < b) others

-- Before it stand others that weren't used either.
record UnusedCrowd (l : List Noted) (key : CacheKey) (k : ℕ) (ps : List Pair) : Type 0 where
  pub others : List CacheKey
  pub many : length others ≡ k
  pub differ : KeysDiffer others
  pub unused : AllByRecursion (IsUnused l) others
  pub apart : (j : CacheKey) → AllByRecursion (λ (r : Pair). j ≢ r.key) ps → AllByRecursion (λ (i : CacheKey). j ≢ i) others

unused-crowd : (l : List Noted) (key : CacheKey) (k : ℕ) (ps : List Pair) → AreUnused l ps → HasPair ps key → list_any (is_of key) (take k ps) ≡ false → UnusedCrowd l key k ps
unused-crowd l key zero ps a has none = record { others = []; many = refl; differ = tt; unused = tt; apart = λ j h. tt }
unused-crowd l key (suc k) [] a has none = absurd (false≢true has)
unused-crowd l key (suc k) (p ∷ ps) a has none = by (is_of key p) has none (λ h n. unused-crowd l key k ps a.2 h n)
  where
    by : (c : Bool) → (c || list_any (is_of key) ps) ≡ true → (c || list_any (is_of key) (take k ps)) ≡ false
        → (HasPair ps key → list_any (is_of key) (take k ps) ≡ false → UnusedCrowd l key k ps) → UnusedCrowd l key (suc k) (p ∷ ps)
    by true h n go = absurd (false≢true (sym n))
    by false h n go =
        let ih = go h n in
        record {
          others = p.key ∷ ih.others;
          many = ap suc ih.many;
          differ = (ih.apart p.key a.1, ih.differ);
          unused = (a.0, ih.unused);
          apart = λ j h. (h.0, ih.apart j h.1);
        }

crowd : (l : List Noted) (key : CacheKey) (k b : ℕ) (ps : List Pair) → AreLastFirst l b ps → HasPair ps key → list_any (is_of key) (take k ps) ≡ false → Crowd l key k b
crowd l key zero b ps a has none = record { others = []; many = refl; differ = tt; since = tt; before_it = tt }
crowd l key (suc k) b [] a has none = absurd (false≢true has)
crowd l key (suc k) b (p ∷ ps) (inr a) has none =
    let it = unused-crowd l key (suc k) (p ∷ ps) a has none in
    let own = unused-has l (p ∷ ps) key a has in
    record {
      others = it.others;
      many = it.many;
      differ = it.differ;
      since = all-more (IsUnused l) (IsUsedSince l key) (λ j h. inr (h.0, own)) it.others it.unused;
      before_it = all-more (IsUnused l) (λ (j : CacheKey). (m : ℕ) → IsUse l m j → m < b) (λ j h m u. absurd (h.1 m u)) it.others it.unused;
    }
crowd l key (suc k) b (p ∷ ps) (inl a) has none = by (is_of key p) has none (λ h n. crowd l key k a.0 ps a.3 h n)
  where
    by : (c : Bool) → (c || list_any (is_of key) ps) ≡ true → (c || list_any (is_of key) (take k ps)) ≡ false
        → (HasPair ps key → list_any (is_of key) (take k ps) ≡ false → Crowd l key k a.0) → Crowd l key (suc k) b
    by true h n go = absurd (false≢true (sym n))
    by false h n go =
        let ih = go h n in
        record {
          others = p.key ∷ ih.others;
          many = ap suc ih.many;
          differ = (
            all-more (λ (j : CacheKey). (m : ℕ) → IsUse l m j → m < a.0) (λ (j : CacheKey). p.key ≢ j)
                (λ j f e. let less = f a.0 (subst (IsUse l a.0) e a.2.used) in omega (arith, less)) ih.others ih.before_it,
            ih.differ,
          );
          since = (inl (a.0, a.2.used, uses-before l a.0 ps key a.3 h), ih.since);
          before_it = (
            λ m u. let le = a.2.last m u in let lt = a.1 in omega (arith, le, lt),
            all-more (λ (j : CacheKey). (m : ℕ) → IsUse l m j → m < a.0) (λ (j : CacheKey). (m : ℕ) → IsUse l m j → m < b)
                (λ j f m u. let less = f m u in let lt = a.1 in omega (arith, less, lt)) ih.others ih.before_it,
          );
        }

-- What is among the pairs, and not among the first ones, was crowded out.
pub crowded-out : (l : List Noted) (key : CacheKey) (b : ℕ) (ps : List Pair) → AreLastFirst l b ps → HasPair ps key → list_any (is_of key) (take MAX_STORED ps) ≡ false → IsCrowdedOut l key
crowded-out l key b ps a has none =
    let it = crowd l key MAX_STORED b ps a has none in
    let many = it.many in
    record { others = it.others; many = omega (arith, many); differ = it.differ; since = it.since }
