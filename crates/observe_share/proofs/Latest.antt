-- Of notifications in any order the latest is kept.
use Rattle.std.proofs.Common.{◌≡◌, ℕ, suc, zero, ◌+◌, ◌-◌, ◌<◌, ◌≤◌, ◌%◌, ◌⊎◌, inl, inr, List, [], ◌∷◌, Contains, Bool, true, false, Some, refl, sym, arith, rules, ◌∙◌, cond}
use Rattle.std.specs.Bool.{Decides}
use Rattle.std.proofs.lemmas.Bool.{false≢true}
use Rattle.std.specs.List.{find}
use Rattle.observe_share.specs.declared.registration.Registration.{Registration}
use Rattle.observe_share.specs.declared.notice.Notice.{Notice}
use Rattle.observe_share.specs.declared.notice.Notice.TheVariants.{Update}
use Rattle.observe_share.specs.Newer.{newer, IsNewer}
use Rattle.observe_share.specs.Watches.{is_under, heard_by, noticed}
use Rattle.observe_share.specs.Order.{Came, number_of, IsAmong, with_newest, NewestWins}

newer_decided : (v1 t1 v2 t2 : ℕ) → Decides (newer v1 t1 v2 t2) (IsNewer v1 t1 v2 t2)
newer_decided v1 t1 v2 t2 = search rules

newer_is_later : (n m k a b s : ℕ) → k ≤ n → n < k + 8388608 → k ≤ m → m < k + 8388608 → s ≤ a → b ≤ s + 128000 → IsNewer (n % 16777216) a (m % 16777216) b → n < m
newer_is_later n m k a b s n1 n2 m1 m2 a1 b2 (inl h) = omega (arith, h.0, h.1)
newer_is_later n m k a b s n1 n2 m1 m2 a1 b2 (inr (inl h)) = omega (arith, h.0, h.1)
newer_is_later n m k a b s n1 n2 m1 m2 a1 b2 (inr (inr h)) = absurd (omega (arith, h))

-- A greater number comes after the smaller, or went past the last one.
round : (n m k : ℕ) → k ≤ n → n < m → m < k + 8388608 → ((n % 16777216 < m % 16777216) × (m % 16777216 - n % 16777216 < 8388608)) ⊎ ((m % 16777216 < n % 16777216) × (8388608 < n % 16777216 - m % 16777216))
round n m k n1 lt m2 = elim (order (n % 16777216) (m % 16777216)) [ inl h ↦ inl (h, omega arith) | inr h ↦ inr (omega arith, omega arith) ]
  where
    order : (a b : ℕ) → (a < b) ⊎ (b ≤ a)
    order a b = search rules

later_newer : (n m k a b : ℕ) → k ≤ n → n < m → m < k + 8388608 → IsNewer (n % 16777216) a (m % 16777216) b
later_newer n m k a b n1 lt m2 = elim (round n m k n1 lt m2) [ inl h ↦ inl h | inr h ↦ inr (inl h) ]

-- which of two is kept, where the second comes after the first
abbrev kept_of : Came → Came → Came
kept_of c d = cond (newer (number_of c) c.moment (number_of d) d.moment) d c

record IsKept (c d k : Came) : Type 0 where
  one : (k ≡ c) ⊎ (k ≡ d)
  first : c.change ≤ k.change
  second : d.change ≤ k.change

kept_by : (from since : ℕ) (c d : Came) → IsAmong from since c → IsAmong from since d → (b : Bool) → newer (number_of c) c.moment (number_of d) d.moment ≡ b → IsKept c d (cond b d c)
kept_by from since c d p q true e =
    let lt = newer_is_later c.change d.change from c.moment d.moment since p.above p.below q.above q.below p.after q.soon ((newer_decided _ _ _ _).0 e) in
    record { one = inr refl; first = omega (arith, lt); second = omega arith }
kept_by from since c d p q false e =
    record { one = inl refl; first = omega arith; second = elim (order d.change c.change) [ inl h ↦ h | inr h ↦ absurd (told (later_newer c.change d.change from c.moment d.moment p.above h q.below)) ] }
  where
    order : (a b : ℕ) → (a ≤ b) ⊎ (b < a)
    order a b = search rules

    told : IsNewer (number_of c) c.moment (number_of d) d.moment → ⊥
    told h = false≢true (sym e ∙ (newer_decided (number_of c) c.moment (number_of d) d.moment).1 h)

kept : (from since : ℕ) (c d : Came) → IsAmong from since c → IsAmong from since d → IsKept c d (kept_of c d)
kept from since c d p q = kept_by from since c d p q _ refl

kept_among : (from since : ℕ) (c d k : Came) → (k ≡ c) ⊎ (k ≡ d) → IsAmong from since c → IsAmong from since d → IsAmong from since k
kept_among from since c d k (inl e) p q = rw e p
kept_among from since c d k (inr e) p q = rw e q

contains_more : (c d k e : Came) (ds : List Came) → (k ≡ c) ⊎ (k ≡ d) → Contains (k ∷ ds) e → Contains (c ∷ d ∷ ds) e
contains_more c d k e ds (inl s) (zero, lt, at) = (0, omega arith, sym s ∙ at)
contains_more c d k e ds (inr s) (zero, lt, at) = (1, omega arith, sym s ∙ at)
contains_more c d k e ds s (suc j, lt, at) = (suc (suc j), omega (arith, lt), at)

found_at_front : (token : List ℕ) (n : Notice) (t : ℕ) (w : Registration) (ws : List Registration) (q y : Registration) (b : Bool) → is_under token w ≡ b
    → (find (is_under token) ws ≡ Some q → find (is_under token) (noticed token n t ws) ≡ Some y)
    → cond b (Some w) (find (is_under token) ws) ≡ Some q → heard_by n t q ≡ Some y → y.token ≡ q.token
    → find (is_under token) (noticed token n t (w ∷ ws)) ≡ Some y
found_at_front token n t w ws q y true e others found h same =
    let w_is : w ≡ q = some_same w q found in
    let under : is_under token y ≡ true = rw (same, ← w_is) e in
    rw (e, w_is, h, under) refl
  where
    some_same : (x z : Registration) → Some x ≡ Some z → x ≡ z
    some_same x z s = cc
found_at_front token n t w ws q y false e others found h same = rw (e, e, others found) refl

found_behind : (token : List ℕ) (n : Notice) (t : ℕ) (ws : List Registration) (q y : Registration) → find (is_under token) ws ≡ Some q → heard_by n t q ≡ Some y → y.token ≡ q.token
    → find (is_under token) (noticed token n t ws) ≡ Some y
found_behind token n t [] q y found h same = absurd cc
found_behind token n t (w ∷ ws) q y found h same =
    found_at_front token n t w ws q y _ refl (λ f. found_behind token n t ws q y f h same) found h same

heard_as : (c d : Came) (r : Registration) (b : Bool) → cond b (Some (with_newest d r)) (Some (with_newest c r)) ≡ Some (with_newest (cond b d c) r)
heard_as c d r true = refl
heard_as c d r false = refl

pub latest : NewestWins
latest token ws r from since c [] found among =
    (c, record { one = (0, omega arith, refl); latest = (omega arith, tt) }, found)
latest token ws r from since c (d ∷ ds) found among =
    let k = kept_of c d in
    let h : IsKept c d (kept_of c d) = kept from since c d among.0 among.1.0 in
    let goes_on : find (is_under token) (noticed token (Update (number_of d)) d.moment ws) ≡ Some (with_newest (kept_of c d) r) =
    found_behind token (Update (number_of d)) d.moment ws (with_newest c r) (with_newest (kept_of c d) r) found (heard_as c d r _) refl in
    let e = latest token (noticed token (Update (number_of d)) d.moment ws) r from since (kept_of c d) ds goes_on (kept_among from since c d (kept_of c d) h.one among.0 among.1.0, among.1.1) in
    (e.0, record { one = contains_more c d (kept_of c d) e.0 ds h.one e.1.one; latest = (omega (arith, h.first, e.1.latest.0), (omega (arith, h.second, e.1.latest.0), e.1.latest.1)) }, e.2)
