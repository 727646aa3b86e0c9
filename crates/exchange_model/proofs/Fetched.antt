-- What a reply leaves of the pieces.
use Rattle.std.proofs.Common.{◌≡◌, ℕ, ◌+◌, ◌⊎◌, inl, inr, Bool, true, false, not, cond, eqb, List, [], ◌∷◌, ◌++◌, map, Ok, Err, refl, sym, ap, ◌∙◌}
use Rattle.std.specs.Prelude.{filter}
use Rattle.std.proofs.lemmas.Bool.{false≢true}
use Rattle.std.proofs.lemmas.List.{map_push}
use Rattle.coap_codec.specs.Recognition.{is_forwardable}
use Rattle.blockwise.specs.Uploads.{UploadValue, answer_to}
use Rattle.blockwise.specs.declared.upload.Answered.{Answered}
use Rattle.blockwise.specs.declared.upload.Answered.TheVariants as A
use Rattle.blockwise.specs.Downloads.{PiecesValue, no_pieces, Judged, judged, with_piece}
use Rattle.blockwise.specs.declared.fault.BlockFault.TheVariants as F
use Rattle.blockwise.specs.declared.pieces.Step.TheVariants.{Next, Last}
use Rattle.history_laws.specs.Responses.{is_tellable}
use Rattle.history_laws.specs.Progress.{Reply, numbers, Progress, Fetches, Gives, Ends, NotUnderstood, anew, answered_so, fetched_by, step}
use Rattle.history_laws.proofs.CallerLemmas.{eqb-itself, eqb-same, IsGoing}
use Rattle.exchange_model.specs.declared.kept.Exchange.{Exchange}
use Rattle.exchange_model.specs.declared.kept.Piece.{Piece}
use Rattle.exchange_model.specs.Matters.{numbers_of}
use Rattle.exchange_model.specs.Hearing.{got_by, is_of_other}

-- Letting go those of an exchange leaves those of the others.
pub numbers-others : (e : Exchange) (o : ℕ) → eqb o e.opening ≡ false → (xs : List Piece) → numbers_of o (filter (is_of_other e) xs) ≡ numbers_of o xs
numbers-others e o apart [] = refl
numbers-others e o apart (x ∷ xs) = by (eqb x.opening o) refl (eqb x.opening e.opening) refl (numbers-others e o apart xs)
  where
    by : (b : Bool) → eqb x.opening o ≡ b → (c : Bool) → eqb x.opening e.opening ≡ c → numbers_of o (filter (is_of_other e) xs) ≡ numbers_of o xs
        → numbers_of o (cond (not c) (x ∷ filter (is_of_other e) xs) (filter (is_of_other e) xs)) ≡ numbers_of o (x ∷ xs)
    by true is false other ih = rw (is) (ap (λ (ns : List ℕ). x.number ∷ ns) ih)
    by true is true other ih = absurd (false≢true (sym apart ∙ (ap (λ (k : ℕ). eqb k e.opening) (sym (eqb-same x.opening o is)) ∙ other)))
    by false is false other ih = rw (is) ih
    by false is true other ih = rw (is) ih

-- It has none then.
pub numbers-gone : (e : Exchange) (xs : List Piece) → numbers_of e.opening (filter (is_of_other e) xs) ≡ []
numbers-gone e [] = refl
numbers-gone e (x ∷ xs) = by (eqb x.opening e.opening) refl (numbers-gone e xs)
  where
    by : (b : Bool) → eqb x.opening e.opening ≡ b → numbers_of e.opening (filter (is_of_other e) xs) ≡ []
        → numbers_of e.opening (cond (not b) (x ∷ filter (is_of_other e) xs) (filter (is_of_other e) xs)) ≡ []
    by true is ih = ih
    by false is ih = rw (is) ih

-- One more is the last of its exchange, and of no other.
pub numbers-push-other : (o : ℕ) (y : Piece) → eqb y.opening o ≡ false → (xs : List Piece) → numbers_of o (xs ++ y ∷ []) ≡ numbers_of o xs
numbers-push-other o y apart [] = rw (apart) refl
numbers-push-other o y apart (x ∷ xs) = by (eqb x.opening o) (numbers-push-other o y apart xs)
  where
    by : (b : Bool) → numbers_of o (xs ++ y ∷ []) ≡ numbers_of o xs
        → map (λ (z : Piece). z.number) (cond b (x ∷ filter (λ (z : Piece). eqb z.opening o) (xs ++ y ∷ [])) (filter (λ (z : Piece). eqb z.opening o) (xs ++ y ∷ [])))
        ≡ map (λ (z : Piece). z.number) (cond b (x ∷ filter (λ (z : Piece). eqb z.opening o) xs) (filter (λ (z : Piece). eqb z.opening o) xs))
    by true ih = ap (λ (ns : List ℕ). x.number ∷ ns) ih
    by false ih = ih

pub numbers-push-own : (y : Piece) (xs : List Piece) → numbers_of y.opening (xs ++ y ∷ []) ≡ numbers_of y.opening xs ++ y.number ∷ []
numbers-push-own y [] = rw (eqb-itself y.opening) refl
numbers-push-own y (x ∷ xs) = by (eqb x.opening y.opening) (numbers-push-own y xs)
  where
    by : (b : Bool) → numbers_of y.opening (xs ++ y ∷ []) ≡ numbers_of y.opening xs ++ y.number ∷ []
        → map (λ (z : Piece). z.number) (cond b (x ∷ filter (λ (z : Piece). eqb z.opening y.opening) (xs ++ y ∷ [])) (filter (λ (z : Piece). eqb z.opening y.opening) (xs ++ y ∷ [])))
        ≡ map (λ (z : Piece). z.number) (cond b (x ∷ filter (λ (z : Piece). eqb z.opening y.opening) xs) (filter (λ (z : Piece). eqb z.opening y.opening) xs)) ++ y.number ∷ []
    by true ih = ap (λ (ns : List ℕ). x.number ∷ ns) ih
    by false ih = ih

pub numbers-push : (got : List Reply) (r : Reply) → numbers (got ++ r ∷ []) ≡ numbers got ++ r.number ∷ []
numbers-push got r = map_push (λ (r : Reply). r.number) got r

-- An exchange that goes on has a reply more, or begins anew.
abbrev pub IsMore : List Reply → Reply → List Reply → Type 0
IsMore got r more = (more ≡ []) ⊎ (more ≡ got ++ r ∷ [])

anew-more : (k : ℕ) (got : List Reply) (r : Reply) → IsGoing (anew k) → IsMore got r (got_by (anew k))
anew-more k got r g = by (eqb k 3) g
  where
    by : (b : Bool) → IsGoing (cond b (Ends NotUnderstood) (Fetches (k + 1) no_pieces [])) → IsMore got r (got_by (cond b (Ends NotUnderstood) (Fetches (k + 1) no_pieces [])))
    by true h = absurd h
    by false h = inl refl

fetched-more : (v : Judged) (k : ℕ) (p : PiecesValue) (got : List Reply) (r : Reply) → IsGoing (fetched_by v k p (got ++ r ∷ []))
    → IsMore got r (got_by (fetched_by v k p (got ++ r ∷ [])))
fetched-more (Err F.Changed) k p got r g = anew-more k got r g
fetched-more (Err F.Size) k p got r g = absurd g
fetched-more (Err F.Gap) k p got r g = absurd g
fetched-more (Err F.TooLarge) k p got r g = absurd g
fetched-more (Err F.Memory) k p got r g = absurd g
fetched-more (Ok (Next b)) k p got r g = inr refl
fetched-more (Ok Last) k p got r g = absurd g

answered-more : (b : Bool) (how : Answered) (u : UploadValue) (got : List Reply) (r : Reply) → IsGoing (cond b (answered_so how u got r) (Ends NotUnderstood))
    → IsMore got r (got_by (cond b (answered_so how u got r) (Ends NotUnderstood)))
answered-more true A.Next u got r g = inr refl
answered-more true A.Last u got r g = absurd g
answered-more true A.Wrong u got r g = absurd g
answered-more false how u got r g = absurd g

pub step-more : (u : Progress) (r : Reply) → IsGoing (step u r) → IsMore (got_by u) r (got_by (step u r))
step-more (Ends how) r g = absurd g
step-more (Gives u got) r g = answered-more (is_forwardable r.message.options) (answer_to u r.message) u got r g
step-more (Fetches k p got) r g = by (is_tellable r.message) g
  where
    by : (b : Bool) → IsGoing (cond b (fetched_by (judged p r.message) k (with_piece p r.message) (got ++ r ∷ [])) (Ends NotUnderstood))
        → IsMore got r (got_by (cond b (fetched_by (judged p r.message) k (with_piece p r.message) (got ++ r ∷ [])) (Ends NotUnderstood)))
    by true h = fetched-more (judged p r.message) k (with_piece p r.message) got r h
    by false h = absurd h
