-- What a step looks up was looked up before, or is the entry that it adds: table by table.
use Rattle.std.proofs.Common.{◌≡◌, ℕ, zero, suc, Bool, true, false, cond, List, [], ◌∷◌, ◌++◌, map, take, Option, Some, None, refl, sym, subst}
use Rattle.std.specs.Prelude.{◌&&◌, find, IfSome}
use Rattle.std.specs.List.{AllByRecursion}
use Rattle.std.proofs.lemmas.Bool.{false≢true}
use Rattle.std.proofs.lemmas.List.{append-nil}
use Rattle.limits.specs.declared.TheConstants.{MAX_STORED}
use Rattle.coap_codec.specs.Spelling.{Content}
use Rattle.cache_key.specs.Keys.{CacheKey}
use Rattle.observe_share.specs.declared.registration.Registration.{Registration}
use Rattle.observe_share.specs.declared.notice.Notice.{Notice}
use Rattle.observe_share.specs.declared.notice.Notice.TheVariants.{Update, Other}
use Rattle.observe_share.specs.Watches.{asked_at, counted, counts_for, first_changed, heard_by, in_place, is_of, noticed}
use Rattle.resp_cache.specs.Stored.{Stored, is_never_fresh}
use Rattle.resp_cache.specs.Stores.{is_fresh_under, is_of_another, moved, others, placed, with_first}
use Rattle.resp_cache.specs.declared.pair.Pair.{Pair}
use Rattle.ask_model.specs.Requests.{CoapRequest, Sense, Requests, Refuses}
use Rattle.ask_model.specs.Sharing.{asked_key, is_get}
use Rattle.journal_book.specs.Entries.{Deed, Opens, Asks, Sends, Hears, Passes, Answers, Shuts, Seals, Carries}
use Rattle.history_laws.proofs.CallerLemmas.{all-filter, all-push}
use Rattle.exchange_model.specs.declared.kept.Exchange.{Exchange}
use Rattle.exchange_model.specs.declared.kept.Reader.{Reader}
use Rattle.exchange_model.specs.State.{readers_after}
use Rattle.exchange_model.specs.Watching.{registered, registers, registration_of, touched}
use Rattle.exchange_model.specs.Steps.{is_under, read_at, went_out}
use Rattle.exchange_model.specs.Hearing.{put_by, retold}
use Rattle.exchange_model.specs.Memory.{IsLast, IsNamedBy}

-- lists

pub all-kept : {X : Type 0} (Q : X → Type 0) (f : X → X) (xs : List X) → ((x : X) → Q x → Q (f x)) → AllByRecursion Q xs → AllByRecursion Q (map f xs)
all-kept Q f [] h a = tt
all-kept Q f (x ∷ xs) h a = (h x a.0, all-kept Q f xs h a.1)

pub all-found : {X : Type 0} (Q : X → Type 0) (q : X → Bool) (xs : List X) (x : X) → AllByRecursion Q xs → find q xs ≡ Some x → Q x
all-found Q q [] x a e = absurd cc
all-found {X} Q q (y ∷ ys) x a e = by (q y) (all-found Q q ys x a.1) e
  where
    by : (b : Bool) → (find q ys ≡ Some x → Q x) → cond b (Some y) (find q ys) ≡ Some x → Q x
    by true rest is = let same : y ≡ x = cc in subst Q same a.0
    by false rest is = rest is

pub all-taken : {X : Type 0} (Q : X → Type 0) (n : ℕ) (xs : List X) → AllByRecursion Q xs → AllByRecursion Q (take n xs)
all-taken Q zero xs a = tt
all-taken Q (suc n) [] a = tt
all-taken Q (suc n) (x ∷ xs) a = (a.0, all-taken Q n xs a.1)

all-changed : {X : Type 0} (Q : X → Type 0) (q : X → Bool) (f : X → Option X) (xs : List X) → ((x : X) → Q x → IfSome (f x) Q)
    → AllByRecursion Q xs → AllByRecursion Q (first_changed q f xs)
all-changed Q q f [] h a = tt
all-changed {X} Q q f (x ∷ xs) h a = by (q x) (all-changed Q q f xs h a.1)
  where
    here : (o : Option X) → IfSome o Q → AllByRecursion Q (in_place o xs)
    here None k = a.1
    here (Some y) k = (k, a.1)

    by : (b : Bool) → AllByRecursion Q (first_changed q f xs) → AllByRecursion Q (cond b (in_place (f x) xs) (x ∷ first_changed q f xs))
    by true rest = here (f x) (h x a.0)
    by false rest = (a.0, rest)

-- the last one

pub last-put : (P : ℕ → Type 0) (xs : List ℕ) (n : ℕ) → P n → IsLast P (xs ++ n ∷ [])
last-put P [] n h = h
last-put P (x ∷ []) n h = h
last-put P (x ∷ y ∷ xs) n h = last-put P (y ∷ xs) n h

pub last-any : (P : ℕ → Type 0) (xs : List ℕ) → ((n : ℕ) → P n) → IsLast P xs
last-any P [] h = tt
last-any P (x ∷ []) h = h x
last-any P (x ∷ y ∷ xs) h = last-any P (y ∷ xs) h

module _ (P : ℕ → Type 0) where
  -- who waits

  abbrev pub IsReader : Reader → Type 0
  IsReader r = P r.ask

  pub readers-left : (d : Deed) (rs : List Reader) → AllByRecursion IsReader rs → AllByRecursion IsReader (readers_after rs d)
  readers-left (Opens c) rs a = a
  readers-left (Asks c q) rs a = a
  readers-left (Sends p b w) rs a = a
  readers-left (Hears p b) rs a = a
  readers-left Passes rs a = a
  readers-left (Answers c k g) rs a = all-filter IsReader _ rs a
  readers-left (Shuts c) rs a = all-filter IsReader _ rs a
  readers-left Seals rs a = a
  readers-left (Carries n m d) rs a = a

  -- exchanges

  pub named-if : (b : Bool) (e f : Exchange) → IsNamedBy P e → IsNamedBy P f → IsNamedBy P (cond b e f)
  named-if true e f h k = h
  named-if false e f h k = k

  pub went-named : (token : List ℕ) (i : ℕ) (e : Exchange) → IsNamedBy P e → IsNamedBy P (went_out token i e)
  went-named token i e h =
      named-if (is_under token e) (record e { sending = Some i; awaits = true }) e (record { ask = h.ask; registers = h.registers }) h

  pub read-named : (t o : ℕ) (e : Exchange) → IsNamedBy P e → IsNamedBy P (read_at t o e)
  read-named t o e h = record { ask = h.ask; registers = h.registers }

  -- what is observed

  abbrev pub IsOpener : Registration → Type 0
  IsOpener r = P r.opening

  asked-if : (b : Bool) (t : ℕ) (r : Registration) → IsOpener r → IsOpener (cond b (record r { asked = t }) r)
  asked-if true t r h = h
  asked-if false t r h = h

  touched-by : (b : Bool) (t : ℕ) (q : CoapRequest) (rs : List Registration) → AllByRecursion IsOpener rs
      → AllByRecursion IsOpener (cond b (map (asked_at (asked_key q) t) rs) rs)
  touched-by true t q rs a = all-kept IsOpener (asked_at (asked_key q) t) rs (λ r h. asked-if (is_of (asked_key q) r) t r h) a
  touched-by false t q rs a = a

  pub touched-named : (t : ℕ) (sense : Sense) (rs : List Registration) → AllByRecursion IsOpener rs → AllByRecursion IsOpener (touched t sense rs)
  touched-named t (Requests q) rs a = touched-by (is_get q) t q rs a
  touched-named t (Refuses cause status) rs a = a

  heard-if : (n : Notice) (b : Bool) (t : ℕ) (r : Registration) → IsOpener r → IfSome (cond b (counted n t r) (Some r)) IsOpener
  heard-if (Update v) true t r h = h
  heard-if (Other v) true t r h = tt
  heard-if n false t r h = h

  pub noticed-named : (token : List ℕ) (n : Notice) (t : ℕ) (rs : List Registration) → AllByRecursion IsOpener rs
      → AllByRecursion IsOpener (noticed token n t rs)
  noticed-named token n t rs a = all-changed IsOpener _ (heard_by n t) rs (λ r h. heard-if n (counts_for n t r) t r h) a

  registered-by : (b : Bool) (t : ℕ) (m : Content) (e : Exchange) (asked : Option CoapRequest) (rs : List Registration) → (b ≡ true → P e.opening)
      → AllByRecursion IsOpener rs → AllByRecursion IsOpener (cond b (rs ++ registration_of t m e asked) rs)
  registered-by true t m e None rs h a = subst (AllByRecursion IsOpener) (sym (append-nil rs)) a
  registered-by true t m e (Some q) rs h a = all-push IsOpener rs _ a (h refl)
  registered-by false t m e asked rs h a = a

  left-true : (a b : Bool) → (a && b) ≡ true → a ≡ true
  left-true true b e = refl
  left-true false b e = absurd (false≢true e)

  pub registered-named : (t : ℕ) (m : Content) (e : Exchange) (asked : Option CoapRequest) (rs : List Registration) → IsNamedBy P e
      → AllByRecursion IsOpener rs → AllByRecursion IsOpener (registered t m e asked rs)
  registered-named t m e asked rs h a =
      registered-by (registers m e rs) t m e asked rs (λ is. h.registers (left-true e.observes _ is)) a

  -- what is stored

  abbrev pub RestsOn : Pair → Type 0
  RestsOn p = IsLast P p.stored.list

  with-first : (found : Option Pair) (ps : List Pair) → IfSome found RestsOn → AllByRecursion RestsOn ps → AllByRecursion RestsOn (with_first found ps)
  with-first None ps h a = a
  with-first (Some p) ps h a = (h, all-filter RestsOn (is_of_another p.key) ps a)

  found-if : (key : CacheKey) (t : ℕ) (ps : List Pair) (o : Option Pair) → find (is_fresh_under key t) ps ≡ o → AllByRecursion RestsOn ps → IfSome o RestsOn
  found-if key t ps None e a = tt
  found-if key t ps (Some p) e a = all-found RestsOn (is_fresh_under key t) ps p a e

  pub moved-named : (key : CacheKey) (t : ℕ) (ps : List Pair) → AllByRecursion RestsOn ps → AllByRecursion RestsOn (moved key t ps)
  moved-named key t ps a = with-first (find (is_fresh_under key t) ps) ps (found-if key t ps (find (is_fresh_under key t) ps) refl a) a

  placed-by : (b : Bool) (key : CacheKey) (s : Stored) (ps : List Pair) → IsLast P s.list → AllByRecursion RestsOn (others key ps)
      → AllByRecursion RestsOn (cond b (others key ps) (record { key = key; stored = s } ∷ others key ps))
  placed-by true key s ps h a = a
  placed-by false key s ps h a = (h, a)

  abbrev pub IsFound : Option Stored → Type 0
  IsFound found = IfSome found (λ (s : Stored). IsLast P s.list)

  pub put-named : (found : Option Stored) (key : CacheKey) (ps : List Pair) → IsFound found → AllByRecursion RestsOn ps
      → AllByRecursion RestsOn (put_by found key ps)
  put-named None key ps h a = a
  put-named (Some s) key ps h a =
      all-taken RestsOn MAX_STORED (placed key s ps)
      (placed-by (is_never_fresh s) key s ps h (all-filter RestsOn (is_of_another key) ps a))

  pub retold-named : (found : Option Stored) (key : CacheKey) (ps : List Pair) → IsFound found → AllByRecursion RestsOn ps
      → AllByRecursion RestsOn (retold key found ps)
  retold-named None key ps h a = all-filter RestsOn (is_of_another key) ps a
  retold-named (Some s) key ps h a = put-named (Some s) key ps h a
