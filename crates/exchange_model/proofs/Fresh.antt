-- What is newer than all that was told.
use Rattle.std.proofs.Common.{◌≡◌, ℕ, ◌+◌, ◌≤◌, eqb, inl, inr, Bool, true, false, cond, not, ltb, List, [], ◌∷◌, ◌++◌, length, Ok, Err, None, refl, sym, ap, subst, ◌∙◌, arith}
use Rattle.std.specs.Prelude.{◌&&◌, ◌||◌}
use Rattle.std.proofs.lemmas.Bool.Decides.{Decides-ltb}
use Rattle.blockwise.specs.Uploads.{UploadValue, answer_to}
use Rattle.blockwise.specs.declared.upload.Answered.{Answered}
use Rattle.blockwise.specs.declared.upload.Answered.TheVariants as A
use Rattle.blockwise.specs.Downloads.{PiecesValue, no_pieces, Judged, judged, with_piece}
use Rattle.blockwise.specs.declared.fault.BlockFault.TheVariants as F
use Rattle.blockwise.specs.declared.pieces.Step.TheVariants.{Next, Last}
use Rattle.coap_codec.specs.Recognition.{is_forwardable}
use Rattle.cache_key.specs.Keys.{CacheKey}
use Rattle.history_laws.specs.Readings.{Noted}
use Rattle.history_laws.specs.Responses.{Response, is_tellable}
use Rattle.history_laws.specs.Progress.{Reply, Ending, Whole, NotUnderstood, Progress, Fetches, Gives, Ends, answered_so, fetched_by, fetched_whole, step}
use Rattle.history_laws.specs.Observing.{counting, outdated, outdates}
use Rattle.exchange_model.specs.Reads.{IsNewest}
use Rattle.exchange_model.specs.Hearing.{got_by, newest_by}
use Rattle.exchange_model.proofs.Fetched.{IsMore}
use Rattle.exchange_model.proofs.Watches.{outdated-quiet}

-- Nothing was told after the newest entry.
pub outdated-late : (l : List Noted) (key : CacheKey) (n : ℕ) → length l ≤ n → outdated l key n ≡ false
outdated-late [] key n le = refl
outdated-late (x ∷ l) key n le = by (ltb n (length l)) refl (outdated-late l key n (omega (arith, le)))
  where
    by : (b : Bool) → ltb n (length l) ≡ b → outdated l key n ≡ false → outdated (x ∷ l) key n ≡ false
    by true e rest = let lt = (Decides-ltb n (length l)).0 e in absurd (omega (arith, lt, le))
    by false e rest = ap (λ (b : Bool). (b && outdates l key x.note) || outdated l key n) e ∙ rest

pub outdated-now : (x : Noted) (l : List Noted) (key : CacheKey) → outdated (x ∷ l) key (length l) ≡ false
outdated-now x l key = by (ltb (length l) (length l)) refl
  where
    by : (b : Bool) → ltb (length l) (length l) ≡ b → outdated (x ∷ l) key (length l) ≡ false
    by true e = let lt = (Decides-ltb (length l) (length l)).0 e in absurd (omega (arith, lt))
    by false e = ap (λ (b : Bool). (b && outdates l key x.note) || outdated l key (length l)) e ∙ outdated-late l key (length l) (omega arith)

-- What an exchange got and one reply more is as new as what it got.
pub newest-more : (x : Noted) (l : List Noted) (key : CacheKey) (b : Bool) (r : Reply) → counting l x.note ≡ None → r.number ≡ length l → (got fs : List Reply)
    → IsNewest l key got b → fs ≡ got ++ r ∷ [] → IsNewest (x ∷ l) key fs (newest_by fs b)
newest-more x l key b r silent here [] fs a is =
    subst (λ (gs : List Reply). IsNewest (x ∷ l) key gs (newest_by gs b)) (sym is)
    (ap (outdated (x ∷ l) key) here ∙ outdated-now x l key)
newest-more x l key b r silent here (g ∷ got) fs a is =
    subst (λ (gs : List Reply). IsNewest (x ∷ l) key gs (newest_by gs b)) (sym is) (by got)
  where
    by : (gs : List Reply) → outdated (x ∷ l) key g.number ≡ not (newest_by (g ∷ (gs ++ r ∷ [])) b)
    by [] = outdated-quiet x l key g.number silent ∙ a
    by (h ∷ gs) = outdated-quiet x l key g.number silent ∙ a

pub newest-gone : (x : Noted) (l : List Noted) (key : CacheKey) (b : Bool) (r : Reply) → counting l x.note ≡ None → r.number ≡ length l → (got fs : List Reply)
    → IsNewest l key got b → IsMore got r fs → IsNewest (x ∷ l) key fs (newest_by fs b)
newest-gone x l key b r silent here got fs a (inl none) = subst (λ (gs : List Reply). IsNewest (x ∷ l) key gs (newest_by gs b)) (sym none) tt
newest-gone x l key b r silent here got fs a (inr more) = newest-more x l key b r silent here got fs a more

-- A whole response rests on what was got, and the last reply.
whole-of : (got : List Reply) (r : Reply) (w : Response) (rs : List Reply) → fetched_whole (got ++ r ∷ []) ≡ Whole w rs → rs ≡ got ++ r ∷ []
whole-of [] r w rs e = cc
whole-of (g ∷ got) r w rs e = cc

fetched-all : (v : Judged) (k : ℕ) (p : PiecesValue) (got : List Reply) (r : Reply) (w : Response) (rs : List Reply) → fetched_by v k p (got ++ r ∷ []) ≡ Ends (Whole w rs) → rs ≡ got ++ r ∷ []
fetched-all (Err F.Changed) k p got r w rs e = by (eqb k 3) e
  where
    by : (b : Bool) → cond b (Ends NotUnderstood) (Fetches (k + 1) no_pieces []) ≡ Ends (Whole w rs) → rs ≡ got ++ r ∷ []
    by true f = absurd cc
    by false f = absurd cc
fetched-all (Err F.Size) k p got r w rs e = absurd cc
fetched-all (Err F.Gap) k p got r w rs e = absurd cc
fetched-all (Err F.TooLarge) k p got r w rs e = absurd cc
fetched-all (Err F.Memory) k p got r w rs e = absurd cc
fetched-all (Ok (Next b)) k p got r w rs e = absurd cc
fetched-all (Ok Last) k p got r w rs e = whole-of got r w rs (inner e)
  where
    inner : Ends (fetched_whole (got ++ r ∷ [])) ≡ Ends (Whole w rs) → fetched_whole (got ++ r ∷ []) ≡ Whole w rs
    inner f = cc

answered-all : (b : Bool) (how : Answered) (u : UploadValue) (got : List Reply) (r : Reply) (w : Response) (rs : List Reply)
    → cond b (answered_so how u got r) (Ends NotUnderstood) ≡ Ends (Whole w rs) → rs ≡ got ++ r ∷ []
answered-all true A.Next u got r w rs e = absurd cc
answered-all true A.Last u got r w rs e = cc
answered-all true A.Wrong u got r w rs e = absurd cc
answered-all false how u got r w rs e = absurd cc

pub step-all : (u : Progress) (r : Reply) (w : Response) (rs : List Reply) → ((how : Ending) → u ≡ Ends how → ⊥) → step u r ≡ Ends (Whole w rs) → rs ≡ got_by u ++ r ∷ []
step-all (Ends how) r w rs going e = absurd (going how refl)
step-all (Gives u got) r w rs going e = answered-all (is_forwardable r.message.options) (answer_to u r.message) u got r w rs e
step-all (Fetches k p got) r w rs going e = by (is_tellable r.message) e
  where
    by : (b : Bool) → cond b (fetched_by (judged p r.message) k (with_piece p r.message) (got ++ r ∷ [])) (Ends NotUnderstood) ≡ Ends (Whole w rs) → rs ≡ got ++ r ∷ []
    by true f = fetched-all (judged p r.message) k (with_piece p r.message) got r w rs f
    by false f = absurd cc
