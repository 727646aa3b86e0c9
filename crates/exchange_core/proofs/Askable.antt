-- What is stored may be asked about: its ETag is short, and of the entries that it rests on at most the last heard a 2.03.
use Rattle.std.proofs.Common.{◌≡◌, ◌⊎◌, inl, inr, ℕ, ◌≤◌, Bool, true, false, not, cond, eqb, List, [], ◌∷◌, ◌++◌, length, Option, Some, None, refl, sym, ap, subst, ◌∙◌}
use Rattle.std.specs.Prelude.{◌&&◌, option_and_then, IfSome, Result}
use Rattle.std.specs.List.{AllByRecursion, list_all}
use Rattle.std.specs.Option.{option_map_or}
use Rattle.std.proofs.lemmas.Bool.{and_parts, eq-eqb, false≢true}
use Rattle.coap_codec.specs.Spelling.{Content}
use Rattle.coap_codec.specs.Recognition.{is_final}
use Rattle.coap_codec.specs.declared.fault.CodecFault.{CodecFault}
use Rattle.coap_codec.proofs.Again.{message_again}
use Rattle.journal_book.specs.Entries.{Written}
use Rattle.resp_cache.specs.declared.pair.Pair.{Pair}
use Rattle.history_laws.specs.Responses.{Response, confirms, is_tellable, joined, whole_fetched}
use Rattle.history_laws.proofs.CallerLemmas.{some-is}
use Rattle.exchange_model.specs.State.{State}
use Rattle.exchange_model.specs.Room.{KeptInRoom}
use Rattle.exchange_model.specs.Steps.{heard_by, is_piece_at, is_valid, read_as}
use Rattle.exchange_model.specs.Growing.{AreCopiedAt, AreCopiedFrom, AreHeardAt, AreHeardFrom, IsCopiedAt, IsHeardAt, IsHeardIn, IsRenewedIn}
use Rattle.exchange_model.proofs.CallerLemmas.{store-heard, tags-short}
use Rattle.exchange_core.specs.Renewing.{AreAskable, IsListed, IsPiece, IsPlain, IsShortTag, has_valid_code, hears_valid, hears_valid_by}

not-true : (b : Bool) → not b ≡ true → b ≡ false
not-true true e = absurd (false≢true e)
not-true false e = refl

twice-not : (b : Bool) → not (not b) ≡ b
twice-not true = refl
twice-not false = refl

-- an ETag is short
some-short : (v : Option (List ℕ)) → ((tag : List ℕ) → v ≡ Some tag → length tag ≤ 8) → IfSome v IsShortTag
some-short None h = tt
some-short (Some tag) h = h tag refl

-- what the pieces of a whole response say

whole-parts : (b : Bool) (v w : Response) → cond b (Some v) None ≡ Some w → (b ≡ true) × (v ≡ w)
whole-parts true v w e = (refl, some-is v w e)
whole-parts false v w e = absurd cc

pub whole-tells : (m : Content) (ms : List Content) (w : Response) → whole_fetched m ms ≡ Some w
    → (list_all is_tellable (m ∷ ms) ≡ true) × (joined m ms ≡ w)
whole-tells m ms w e =
    let both = whole-parts _ (joined m ms) w e in
    ((and_parts (list_all is_tellable (m ∷ ms)) _ both.0).0, both.1)

pub final-other : (m : Content) → is_final m ≡ true → eqb m.code 67 ≡ false
final-other m e = not-true (eqb m.code 67) (and_parts _ _ (and_parts _ _ e).1).0

pub tells-other : (m : Content) → is_tellable m ≡ true → eqb m.code 67 ≡ false
tells-other m e = final-other m (and_parts _ (is_final m) e).1

-- what the entries say

heard-says : (S : State) (n : ℕ) (m : Content) → IsHeardAt S n m
    → (hears_valid S.entries n ≡ eqb m.code 67) × (is_piece_at S.entries n ≡ not (eqb m.code 67))
heard-says S n m k = (
  ap (λ (v : Option Written). option_map_or (λ (w : Written). hears_valid_by w.deed) v false) k.stands
      ∙ ap has_valid_code k.spelled.whole,
  ap (λ (v : Option Written). not (is_valid (option_and_then (λ (w : Written). heard_by n w.deed) v))) k.stands
      ∙ ap (λ (r : Result Content CodecFault). not (is_valid (read_as n r))) (message_again m k.bytes k.spelled),
)

heard-plain : (S : State) (n : ℕ) (m : Content) → IsHeardAt S n m → IsPlain S.entries n
heard-plain S n m k =
    let says = heard-says S n m k in
    says.0 ∙ sym (ap not says.1 ∙ twice-not (eqb m.code 67))

heard-piece : (S : State) (n : ℕ) (m : Content) → IsHeardAt S n m → is_tellable m ≡ true → IsPiece S.entries n
heard-piece S n m k e = (heard-plain S n m k, (heard-says S n m k).1 ∙ ap not (tells-other m e))

copied-piece : (S : State) (n : ℕ) (m : Content) → IsCopiedAt S n m → IsPiece S.entries n
copied-piece S n m k =
    let piece : is_piece_at S.entries n ≡ true =
    ap (λ (v : Option Written). not (is_valid (option_and_then (λ (w : Written). heard_by n w.deed) v))) k.stands in (
      ap (λ (v : Option Written). option_map_or (λ (w : Written). hears_valid_by w.deed) v false) k.stands ∙ sym (ap not piece),
      piece,
    )

heard-pieces : (S : State) (ns : List ℕ) (ms : List Content) → AreHeardAt S ns ms → list_all is_tellable ms ≡ true → AllByRecursion (IsPiece S.entries) ns
heard-pieces S [] [] a e = tt
heard-pieces S [] (m ∷ ms) a e = absurd a
heard-pieces S (n ∷ ns) [] a e = absurd a
heard-pieces S (n ∷ ns) (m ∷ ms) a e =
    let both = and_parts (is_tellable m) (list_all is_tellable ms) e in
    (heard-piece S n m a.0 both.0, heard-pieces S ns ms a.1 both.1)

copied-pieces : (S : State) (ns : List ℕ) (ms : List Content) → AreCopiedAt S ns ms → AllByRecursion (IsPiece S.entries) ns
copied-pieces S [] [] a = tt
copied-pieces S [] (m ∷ ms) a = absurd a
copied-pieces S (n ∷ ns) [] a = absurd a
copied-pieces S (n ∷ ns) (m ∷ ms) a = (copied-piece S n m a.0, copied-pieces S ns ms a.1)

pub pieces-of : (S : State) (ns : List ℕ) (m : Content) (ms : List Content) (w : Response) → AreHeardAt S ns (m ∷ ms) ⊎ AreCopiedAt S ns (m ∷ ms)
    → whole_fetched m ms ≡ Some w → AllByRecursion (IsPiece S.entries) ns
pieces-of S ns m ms w (inl a) e = heard-pieces S ns (m ∷ ms) a (whole-tells m ms w e).0
pieces-of S ns m ms w (inr a) e = copied-pieces S ns (m ∷ ms) a

listed-heard : (S : State) (p : Pair) → IsHeardIn S p → IsListed S.entries p.stored.list
listed-heard S p h = inl (subst (AllByRecursion (IsPiece S.entries)) (sym h.list) (by h.heard))
  where
    by : AreHeardFrom S p.stored.heard (h.number ∷ h.others) (h.message ∷ h.more)
        ⊎ AreCopiedFrom S p.stored.heard (h.number ∷ h.others) (h.message ∷ h.more) → AllByRecursion (IsPiece S.entries) (h.number ∷ h.others)
    by (inl a) = pieces-of S (h.number ∷ h.others) h.message h.more p.stored.response (inl (a.0, a.2)) h.whole
    by (inr a) = pieces-of S (h.number ∷ h.others) h.message h.more p.stored.response (inr (a.0, a.2)) h.whole

pub valid-is : (n : ℕ) → n ≡ 67 → eqb n 67 ≡ true
valid-is n e = eq-eqb n 67 e

-- A message that confirms is a 2.03.
confirmed-code : (v : Option (List ℕ)) (m : Content) → confirms v m ≡ true → eqb m.code 67 ≡ true
confirmed-code None m e = absurd (false≢true e)
confirmed-code (Some tag) m e = (and_parts (eqb m.code 67) _ (and_parts _ _ e).1).0

pub says-valid : (v : Option (List ℕ)) (m : Content) → confirms v m ≡ true → eqb m.code 67 ≡ true
says-valid v m e = confirmed-code v m e

listed-renewed : (S : State) (p : Pair) → IsRenewedIn S p → IsListed S.entries p.stored.list
listed-renewed S p h = inr (record {
  pieces = h.kept.list;
  last = h.number;
  is = h.list;
  each = pieces-of S h.kept.list h.was.message h.was.more h.was.response h.was.heard h.was.whole;
  plain = heard-plain S h.number h.renewal h.confirmed.0;
  renews = (heard-says S h.number h.renewal h.confirmed.0).1 ∙ ap not (says-valid h.kept.response.etag h.renewal h.says);
})

listed-one : (S : State) (p : Pair) → IsHeardIn S p ⊎ IsRenewedIn S p → IsListed S.entries p.stored.list
listed-one S p (inl h) = listed-heard S p h
listed-one S p (inr h) = listed-renewed S p h

both : (S : State) (ps : List Pair) → AllByRecursion (λ (p : Pair). IsHeardIn S p ⊎ IsRenewedIn S p) ps
    → AllByRecursion (λ (p : Pair). (tag : List ℕ) → p.stored.response.etag ≡ Some tag → length tag ≤ 8) ps → AreAskable S.entries ps
both S [] a b = tt
both S (p ∷ ps) a b = ((some-short p.stored.response.etag b.0, listed-one S p a.0), both S ps a.1 b.1)

pub askable : (S : State) → KeptInRoom S → AreAskable S.entries S.store
askable S k = both S S.store (store-heard S k) (tags-short S k)
