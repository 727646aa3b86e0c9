-- From which moment what entries heard counts.
use Rattle.std.proofs.Common.{◌≡◌, ◌↔◌, inl, inr, ℕ, ◌-◌, Bool, IsTrue, true, false, eqb, List, [], ◌∷◌, length, Option, Some, None, refl, sym, ap, subst, ◌∙◌, arith}
use Rattle.std.specs.Prelude.{slice_get, option_map, MatchOption}
use Rattle.std.proofs.lemmas.Bool.{false≢true}
use Rattle.coap_codec.specs.Spelling.{Content}
use Rattle.journal_book.specs.Entries.{Written}
use Rattle.history_laws.specs.Responses.{last_of}
use Rattle.exchange_core.specs.Values.{written}
use Rattle.exchange_core.specs.Answering.{HeardAs, AreHeard, CountsFromReplies, last_in}
use Rattle.gateway_desk.specs.Shown.{CountsAt, IsHeardAt, IsMadeAt, ends_valid}
use Rattle.gateway_desk.proofs.Outcomes.{message-one, some-same}

none-not : (n : ℕ) → None ≡ Some n → ⊥
none-not n e = cc

false-not : (r : Bool) → r ≡ false → IsTrue r → ⊥
false-not r e is = false≢true (sym e ∙ is)

last-at : (j : ℕ) (js : List ℕ) → slice_get (j ∷ js) (length js) ≡ Some (last_in j js)
last-at j [] = refl
last-at j (k ∷ ks) = last-at k ks

last-heard : (h : List Written) (j : ℕ) (js : List ℕ) (m : Content) (ms : List Content) → AreHeard h (j ∷ js) (m ∷ ms)
    → IsHeardAt h (last_in j js) (last_of m ms)
last-heard h j [] m [] a = a.0
last-heard h j [] m (n ∷ ms) a = absurd a.1
last-heard h j (k ∷ js) m [] a = absurd a.1
last-heard h j (k ∷ js) m (n ∷ ms) a = last-heard h k js n ms a.1

made-heard : (h : List Written) (j t : ℕ) (m : Content) → IsHeardAt h j m → IsMadeAt h j t → HeardAs h j t m
made-heard h j t m a w =
    let moment : a.0 ≡ t = ap (λ (v : Written). v.moment) (some-same (written a.0 a.1.deed) w.0 (sym a.1.stands ∙ w.1)) ∙ w.2 in
    subst (λ (s : ℕ). HeardAs h j s m) moment a.1

heard-made : (h : List Written) (j t : ℕ) (m : Content) → HeardAs h j t m → IsMadeAt h j t
heard-made h j t m a = (written t a.deed, a.stands, refl)

-- Where the last is a 2.03, it counts from that,
from-last : (h : List Written) (j : ℕ) (js : List ℕ) (m : Content) (ms : List Content) (t : ℕ) → AreHeard h (j ∷ js) (m ∷ ms)
    → eqb (last_of m ms).code 67 ≡ true → IsMadeAt h (last_in j js) t ↔ CountsFromReplies h j js t
from-last h j js m ms t a ends = (to, from)
  where
    last : IsHeardAt h (last_in j js) (last_of m ms)
    last = last-heard h j js m ms a

    to : IsMadeAt h (last_in j js) t → CountsFromReplies h j js t
    to w = inr (record { message = last_of m ms; last = made-heard h (last_in j js) t (last_of m ms) last w; says = ends })

    from : CountsFromReplies h j js t → IsMadeAt h (last_in j js) t
    from (inr c) = heard-made h (last_in j js) t c.message c.last
    from (inl c) =
        let same = message-one h (last_in j js) c.last (last_of m ms) (c.moment, c.ends) last in
        absurd (false≢true (sym c.other ∙ (ap (λ (m : Content). eqb m.code 67) same ∙ ends)))

-- and else from the first.
from-first : (h : List Written) (j : ℕ) (js : List ℕ) (m : Content) (ms : List Content) (t : ℕ) → AreHeard h (j ∷ js) (m ∷ ms)
    → eqb (last_of m ms).code 67 ≡ false → IsMadeAt h j t ↔ CountsFromReplies h j js t
from-first h j js m ms t a ends = (to, from)
  where
    last : IsHeardAt h (last_in j js) (last_of m ms)
    last = last-heard h j js m ms a

    to : IsMadeAt h j t → CountsFromReplies h j js t
    to w = inl (record { message = m; first = made-heard h j t m a.0 w; moment = last.0; last = last_of m ms; ends = last.1; other = ends })

    from : CountsFromReplies h j js t → IsMadeAt h j t
    from (inl c) = heard-made h j t c.message c.first
    from (inr c) =
        let same = message-one h (last_in j js) c.message (last_of m ms) (t, c.last) last in
        absurd (false≢true (sym ends ∙ (ap (λ (m : Content). eqb m.code 67) (sym same) ∙ c.says)))

-- So it is of a list.
pub counts-last : (h : List Written) (js : List ℕ) (ms : List Content) (t n : ℕ) → AreHeard h js ms → ends_valid ms ≡ true
    → slice_get js (length js - 1) ≡ Some n → IsMadeAt h n t ↔ CountsAt h t js
counts-last h [] ms t n a ends at = absurd cc
counts-last h (j ∷ js) [] t n a ends at = absurd a
counts-last h (j ∷ js) (m ∷ ms) t n a ends at =
    let place : length (j ∷ js) - 1 ≡ length js = omega arith in
    let is : n ≡ last_in j js = some-same n (last_in j js) (sym at ∙ (ap (slice_get (j ∷ js)) place ∙ last-at j js)) in
    subst (λ (k : ℕ). IsMadeAt h k t ↔ CountsFromReplies h j js t) (sym is) (from-last h j js m ms t a ends)

pub counts-first : (h : List Written) (js : List ℕ) (ms : List Content) (t n : ℕ) → AreHeard h js ms → ends_valid ms ≡ false
    → slice_get js 0 ≡ Some n → IsMadeAt h n t ↔ CountsAt h t js
counts-first h [] ms t n a ends at = absurd cc
counts-first h (j ∷ js) [] t n a ends at = absurd a
counts-first h (j ∷ js) (m ∷ ms) t n a ends at =
    let is : n ≡ j = some-same n j (sym at) in
    subst (λ (k : ℕ). IsMadeAt h k t ↔ CountsFromReplies h j js t) (sym is) (from-first h j js m ms t a ends)

-- As a look at the first or the last of them tells it.
pub last-counts : {X : Type 0} (o : Option X) (now : X → ℕ) (r : Bool) (h : List Written) (js : List ℕ) (ms : List Content) (t : ℕ) → AreHeard h js ms
    → ends_valid ms ≡ true → option_map now o ≡ slice_get js (length js - 1)
    → MatchOption o (r ≡ false) (λ x. IsTrue r ↔ IsMadeAt h (now x) t) → IsTrue r ↔ CountsAt h t js
last-counts (Some x) now r h js ms t a ends at same =
    let so = counts-last h js ms t (now x) a ends (sym at) in ((λ is. so.0 (same.0 is)), (λ c. same.1 (so.1 c)))
last-counts None now r h [] ms t a ends at same = ((λ is. absurd (false-not r same is)), (λ c. absurd c))
last-counts None now r h (j ∷ js) ms t a ends at same =
    let place : length (j ∷ js) - 1 ≡ length js = omega arith in
    absurd (none-not (last_in j js) (at ∙ (ap (slice_get (j ∷ js)) place ∙ last-at j js)))

pub first-counts : {X : Type 0} (o : Option X) (now : X → ℕ) (r : Bool) (h : List Written) (js : List ℕ) (ms : List Content) (t : ℕ) → AreHeard h js ms
    → ends_valid ms ≡ false → option_map now o ≡ slice_get js 0
    → MatchOption o (r ≡ false) (λ x. IsTrue r ↔ IsMadeAt h (now x) t) → IsTrue r ↔ CountsAt h t js
first-counts (Some x) now r h js ms t a ends at same =
    let so = counts-first h js ms t (now x) a ends (sym at) in ((λ is. so.0 (same.0 is)), (λ c. same.1 (so.1 c)))
first-counts None now r h [] ms t a ends at same = ((λ is. absurd (false-not r same is)), (λ c. absurd c))
first-counts None now r h (j ∷ js) ms t a ends at same = absurd (none-not j at)
