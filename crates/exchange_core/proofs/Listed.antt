-- What a pair rests on: pieces, and behind them a 2.03 at most.
use Rattle.std.proofs.Common.{◌≡◌, ◌⊎◌, inl, inr, ℕ, zero, suc, ◌+◌, ◌-◌, Bool, true, false, not, cond, List, [], ◌∷◌, ◌++◌, length, Option, Some, None, refl, sym, ap, subst, ◌∙◌, arith}
use Rattle.std.specs.Prelude.{◌&&◌, ◌≤◌, filter, find, is_some, slice_get, option_map, IfSome}
use Rattle.std.specs.Option.{option_map_or}
use Rattle.std.specs.List.{AllByRecursion, list_all}
use Rattle.std.proofs.lemmas.Bool.{false≢true}
use Rattle.cache_key.specs.Keys.{CacheKey}
use Rattle.resp_cache.specs.Stored.{Stored}
use Rattle.resp_cache.specs.Stores.{is_stale_under, stale_under, stored_in}
use Rattle.resp_cache.specs.declared.pair.Pair.{Pair}
use Rattle.journal_book.specs.Entries.{Written}
use Rattle.journal_book.specs.Journals.{IsHere}
use Rattle.history_laws.proofs.CallerLemmas.{got-last, some-is}
use Rattle.exchange_model.specs.Memory.{IsLast}
use Rattle.exchange_model.specs.Steps.{as_pieces, if_tagged, is_piece_at}
use Rattle.exchange_core.specs.Reading.{IsPairHere}
use Rattle.exchange_core.specs.Renewing.{AreAskable, IsAskable, IsListed, IsPiece, IsRenewedLast, IsShortTag, ends_as_heard, ends_heard, hears_valid, is_as_heard, stale_read}
use Rattle.exchange_core.proofs.Settling.{last-got}

none-some : {X : Type 0} (x : X) → None ≡ Some x → ⊥
none-some x e = cc

-- All are pieces, or one isn't.

all-pieces : (ws : List Written) (js : List ℕ) → AllByRecursion (IsPiece ws) js → list_all (is_piece_at ws) js ≡ true
all-pieces ws [] a = refl
all-pieces ws (j ∷ js) a = rw (a.0.1) (all-pieces ws js a.1)

and-false : (b : Bool) → (b && false) ≡ false
and-false true = refl
and-false false = refl

one-not : (p : ℕ → Bool) (js : List ℕ) (n : ℕ) → p n ≡ false → list_all p (js ++ n ∷ []) ≡ false
one-not p [] n e = rw (e) refl
one-not p (j ∷ js) n e = ap (λ (b : Bool). p j && b) (one-not p js n e) ∙ and-false (p j)

not-all : (ws : List Written) (js : List ℕ) → IsRenewedLast ws js → list_all (is_piece_at ws) js ≡ false
not-all ws js h = ap (list_all (is_piece_at ws)) h.is ∙ one-not (is_piece_at ws) h.pieces h.last h.renews

-- and the last tells which

get-piece : (ws : List Written) (js : List ℕ) (i n : ℕ) → AllByRecursion (IsPiece ws) js → slice_get js i ≡ Some n → IsPiece ws n
get-piece ws [] i n a e = absurd (none-some n e)
get-piece ws (j ∷ js) zero n a e = subst (IsPiece ws) (some-is j n e) a.0
get-piece ws (j ∷ js) (suc i) n a e = get-piece ws js i n a.1 e

last-is : (ws : List Written) (js : List ℕ) (n : ℕ) → (h : IsRenewedLast ws js) → slice_get js (length js - 1) ≡ Some n → h.last ≡ n
last-is ws js n h e =
    some-is h.last n (sym (last-got h.pieces h.last) ∙ (ap (λ (ks : List ℕ). slice_get ks (length ks - 1)) (sym h.is) ∙ e))

pub heard-some : (ws : List Written) (js : List ℕ) (n : ℕ) → IsListed ws js → slice_get js (length js - 1) ≡ Some n
    → not (hears_valid ws n) ≡ list_all (is_piece_at ws) js
heard-some ws js n (inl a) e =
    let piece = get-piece ws js (length js - 1) n a e in
    ap not (piece.0 ∙ ap not piece.1) ∙ sym (all-pieces ws js a)
heard-some ws js n (inr h) e =
    ap (λ (k : ℕ). not (hears_valid ws k)) (sym (last-is ws js n h e))
    ∙ (ap not (h.plain ∙ ap not h.renews) ∙ sym (not-all ws js h))

pub heard-none : (ws : List Written) (js : List ℕ) → slice_get js (length js - 1) ≡ None → true ≡ list_all (is_piece_at ws) js
heard-none ws [] e = refl
heard-none ws (j ∷ js) e = absurd (there js j e)
  where
    there : (ks : List ℕ) (k : ℕ) → slice_get (k ∷ ks) (length (k ∷ ks) - 1) ≡ None → ⊥
    there ks k f = by ks k (subst (λ (i : ℕ). slice_get (k ∷ ks) i ≡ None) (let same : length (k ∷ ks) - 1 ≡ length ks = omega arith in same) f)
      where
        by : (is : List ℕ) (i : ℕ) → slice_get (i ∷ is) (length is) ≡ None → ⊥
        by [] i g = absurd (none-some i (sym g))
        by (m ∷ is) i g = by is m g

-- What is so of the last is so of that.
pub last-here : (P : ℕ → Type 0) (js : List ℕ) (n : ℕ) → slice_get js (length js - 1) ≡ Some n → IsLast P js → P n
last-here P [] n e h = absurd (none-some n e)
last-here P (j ∷ js) n e h =
    by js j (subst (λ (i : ℕ). slice_get (j ∷ js) i ≡ Some n) (let same : length (j ∷ js) - 1 ≡ length js = omega arith in same) e) h
  where
    by : (is : List ℕ) (i : ℕ) → slice_get (i ∷ is) (length is) ≡ Some n → IsLast P (i ∷ is) → P n
    by [] i g k = subst P (some-is i n g) k
    by (m ∷ is) i g k = by is m g k

pub heard-ends : (ws : List Written) (js : List ℕ) → IsListed ws js → ends_heard ws js ≡ list_all (is_piece_at ws) js
heard-ends ws js l = by (slice_get js (length js - 1)) refl
  where
    by : (v : Option ℕ) → slice_get js (length js - 1) ≡ v → option_map_or (λ (n : ℕ). not (hears_valid ws n)) v true ≡ list_all (is_piece_at ws) js
    by None e = heard-none ws js e
    by (Some n) e = heard-some ws js n l e

-- the pieces alone

filter-all : (p : ℕ → Bool) (js : List ℕ) → list_all p js ≡ true → filter p js ≡ js
filter-all p [] e = refl
filter-all p (j ∷ js) e = by (p j) e (filter-all p js)
  where
    by : (b : Bool) → (b && list_all p js) ≡ true → (list_all p js ≡ true → filter p js ≡ js) → cond b (j ∷ filter p js) (filter p js) ≡ j ∷ js
    by true f ih = ap (λ (ks : List ℕ). j ∷ ks) (ih f)
    by false f ih = absurd (false≢true f)

pub all-kept : (ws : List Written) (s : Stored) → list_all (is_piece_at ws) s.list ≡ true → s ≡ record s { list = filter (is_piece_at ws) s.list }
all-kept ws s e = ap (λ (js : List ℕ). record s { list = js }) (sym (filter-all (is_piece_at ws) s.list e))

push-same : (xs ys : List ℕ) (x y : ℕ) → xs ++ x ∷ [] ≡ ys ++ y ∷ [] → xs ≡ ys
push-same [] [] x y e = refl
push-same [] (z ∷ []) x y e = absurd cc
push-same [] (z ∷ w ∷ ys) x y e = absurd cc
push-same (z ∷ []) [] x y e = absurd cc
push-same (z ∷ w ∷ xs) [] x y e = absurd cc
push-same (z ∷ xs) (w ∷ ys) x y e =
    ap (λ (ks : List ℕ). z ∷ ks) (push-same xs ys x y (tails z w (xs ++ x ∷ []) (ys ++ y ∷ []) e)) ∙ ap (λ (k : ℕ). k ∷ ys) (heads z w (xs ++ x ∷ []) (ys ++ y ∷ []) e)
  where
    tails : (a b : ℕ) (ks ls : List ℕ) → a ∷ ks ≡ b ∷ ls → ks ≡ ls
    tails a b ks ls f = cc

    heads : (a b : ℕ) (ks ls : List ℕ) → a ∷ ks ≡ b ∷ ls → a ≡ b
    heads a b ks ls f = cc

filter-push : (ws : List Written) (js : List ℕ) (n : ℕ) → AllByRecursion (IsPiece ws) js → is_piece_at ws n ≡ false → filter (is_piece_at ws) (js ++ n ∷ []) ≡ js
filter-push ws [] n a e = rw (e) refl
filter-push ws (j ∷ js) n a e = rw (a.0.1) (ap (λ (ks : List ℕ). j ∷ ks) (filter-push ws js n a.1 e))

pub front-kept : (ws : List Written) (s : Stored) (n : ℕ) (front : List ℕ) → IsListed ws s.list → list_all (is_piece_at ws) s.list ≡ false
    → s.list ≡ front ++ n ∷ [] → record s { list = front } ≡ record s { list = filter (is_piece_at ws) s.list }
front-kept ws s n front (inl a) e is = absurd (false≢true (sym e ∙ all-pieces ws s.list a))
front-kept ws s n front (inr h) e is =
    ap (λ (js : List ℕ). record s { list = js })
    (push-same front h.pieces n h.last (sym is ∙ h.is) ∙ sym (ap (filter (is_piece_at ws)) h.is ∙ filter-push ws h.pieces h.last h.each h.renews))

-- what is stored and isn't fresh may be asked about

pub stale-askable : (ws : List Written) (k : CacheKey) (t : ℕ) (s : Stored) (ps : List Pair) → AreAskable ws ps → stale_under k t ps ≡ Some s → IsAskable ws s
stale-askable ws k t s [] a e = absurd (none-some s e)
stale-askable ws k t s (p ∷ ps) a e = by (is_stale_under k t p) e (stale-askable ws k t s ps a.1)
  where
    by : (b : Bool) → stored_in (cond b (Some p) (find (is_stale_under k t) ps)) ≡ Some s → (stored_in (find (is_stale_under k t) ps) ≡ Some s → IsAskable ws s) → IsAskable ws s
    by true f ih = subst (IsAskable ws) (some-is p.stored s f) a.0
    by false f ih = ih f

pub stale-here : (given : ℕ) (kept : List ℕ) (k : CacheKey) (t : ℕ) (s : Stored) (ps : List Pair) → AllByRecursion (IsPairHere given kept) ps
    → stale_under k t ps ≡ Some s → IsLast (IsHere given kept) s.list
stale-here given kept k t s [] a e = absurd (none-some s e)
stale-here given kept k t s (p ∷ ps) a e = by (is_stale_under k t p) e (stale-here given kept k t s ps a.1)
  where
    by : (b : Bool) → stored_in (cond b (Some p) (find (is_stale_under k t) ps)) ≡ Some s
        → (stored_in (find (is_stale_under k t) ps) ≡ Some s → IsLast (IsHere given kept) s.list) → IsLast (IsHere given kept) s.list
    by true f ih = subst (λ (v : Stored). IsLast (IsHere given kept) v.list) (some-is p.stored s f) a.0
    by false f ih = ih f

tagged-short : (ws : List Written) (u s : Stored) (b : Bool) → IfSome u.response.etag IsShortTag → option_map (as_pieces ws) (cond b (Some u) None) ≡ Some s
    → IfSome s.response.etag IsShortTag
tagged-short ws u s true h e = subst (λ (v : Stored). IfSome v.response.etag IsShortTag) (some-is (as_pieces ws u) s e) h
tagged-short ws u s false h e = absurd (none-some s e)

pub stale-short : (k : Option CacheKey) (t : ℕ) (ws : List Written) (ps : List Pair) (s : Stored) → AreAskable ws ps
    → option_map (as_pieces ws) (stale_read k t ps) ≡ Some s → IfSome s.response.etag IsShortTag
stale-short None t ws ps s a e = absurd (none-some s e)
stale-short (Some key) t ws ps s a e = by (stale_under key t ps) refl e
  where
    by : (v : Option Stored) → stale_under key t ps ≡ v → option_map (as_pieces ws) (if_tagged v) ≡ Some s → IfSome s.response.etag IsShortTag
    by None is f = absurd (none-some s f)
    by (Some u) is f = tagged-short ws u s (is_some u.response.etag) (stale-askable ws key t u ps a is).0 f

pub short-at : (v : Option (List ℕ)) (tag : List ℕ) → IfSome v IsShortTag → v ≡ Some tag → length tag ≤ 8
short-at None tag h e = absurd (none-some tag e)
short-at (Some x) tag h e = subst (λ (y : List ℕ). length y ≤ 8) (some-is x tag e) h

-- those that are as they were heard stay

pub filter-ends : (ws : List Written) (ps : List Pair) → AreAskable ws ps → filter (ends_as_heard ws) ps ≡ filter (is_as_heard ws) ps
filter-ends ws [] a = refl
filter-ends ws (p ∷ ps) a =
    ap (λ (b : Bool). cond b (p ∷ filter (ends_as_heard ws) ps) (filter (ends_as_heard ws) ps)) (heard-ends ws p.stored.list a.0.1)
    ∙ ap (λ (qs : List Pair). cond (is_as_heard ws p) (p ∷ qs) qs) (filter-ends ws ps a.1)

pub heard-filter : (ws : List Written) (ps : List Pair) → AreAskable ws ps → (f : Pair → Bool) → AreAskable ws (filter f ps)
heard-filter ws [] a f = tt
heard-filter ws (p ∷ ps) a f = by (f p) (heard-filter ws ps a.1 f)
  where
    by : (b : Bool) → AreAskable ws (filter f ps) → AreAskable ws (cond b (p ∷ filter f ps) (filter f ps))
    by true h = (a.0, h)
    by false h = h
