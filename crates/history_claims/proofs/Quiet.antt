-- What ended since an entry was asked since, or was pending then. So no write has ended where none was.
use Rattle.std.proofs.Common.{◌≡◌, ℕ, ◌<◌, ◌≤◌, ◌⊎◌, Bool, true, false, inl, inr, List, [], ◌∷◌, length, Option, Some, None, refl, sym, ap, subst, ◌∙◌, arith}
use Rattle.std.specs.Prelude.{is_none}
use Rattle.std.proofs.lemmas.Bool.Decides.{eqb_tells, leb_tells}
use Rattle.std.proofs.lemmas.Bool.{false≢true, and_parts}
use Rattle.ask_model.specs.Requests.{CoapRequest}
use Rattle.ask_model.specs.Sharing.{asked_place, is_get, asks_same}
use Rattle.ask_model.proofs.CallerLemmas.{asks-onward}
use Rattle.history_laws.specs.Readings.{Noted, entries, at, before}
use Rattle.history_laws.specs.Connections.{is_sealed}
use Rattle.history_laws.specs.Exchanges.{Begun, begun, End, end_of, is_going}
use Rattle.history_laws.specs.Joining.{writes_at}
use Rattle.history_laws.specs.Justified.{Legal}
use Rattle.history_laws.proofs.CallerLemmas.{AskedFor, at-below, begun-early, end-since, ends-first, length-before, some-is}
use Rattle.history_claims.specs.Headline.{IsPending}
use Rattle.history_claims.specs.Once.{IsUnwritten}
use Rattle.history_claims.proofs.Entries.{grows}
use Rattle.history_claims.proofs.Pending.{pending-is}
use Rattle.history_claims.proofs.Unsent.{sealed-still}
use Rattle.history_claims.proofs.Unshared.{write-asked, writes-method, asked-request, asks-itself, is-write}

-- an entry stands at each number
pub at-there : (l : List Noted) (n : ℕ) → n < length l → (x : Noted) × (at l n ≡ Some x)
at-there [] n lt = absurd (omega (arith, lt))
at-there (x ∷ older) n lt =
    elim (eqb_tells n (length older)) [
      | inl w ↦ (x, rw (w.0) refl)
      | inr w ↦ let other = w.1 in let it = at-there older n (omega (arith, lt, other)) in (it.0, rw (w.0) it.1)
    ]

-- what isn't sealed wasn't
pub unsealed-before : (l : List Noted) (n : ℕ) → is_sealed l ≡ false → is_sealed (before l n) ≡ false
unsealed-before l n unsealed = go (is_sealed (before l n)) refl
  where
    go : (b : Bool) → is_sealed (before l n) ≡ b → b ≡ false
    go false e = refl
    go true e =
        absurd (false≢true (sym unsealed ∙ grows (λ (l : List Noted). is_sealed l ≡ true) (λ x l h. sealed-still x.written.deed (is_sealed l) h) l n e))

-- What ended since was opened since, or was open then.
pub open-since : (l : List Noted) (s o : ℕ) (y : Noted) (b : Begun) (e : End) → Legal l → at l s ≡ Some y
    → begun l o ≡ Some b → end_of l o ≡ Some e → s ≤ e.number → (o ≡ s → ⊥)
    → (s < o) ⊎ ((is_going (before l s) o ≡ true) × (begun (before l s) o ≡ Some b))
open-since l s o y b e legal there opened ended late other =
    elim (leb_tells o s) [
      | inl w ↦ elim (eqb_tells o s) [
        | inl u ↦ absurd (other u.1)
        | inr u ↦
            let le = w.1 in
            let not = u.1 in
            let lt : o < s = omega (arith, le, not) in
            inr (going (end_of (before l s) o) refl, begun-early l s o b (at-below l s y there) opened lt)
      ]
      | inr w ↦ inl w.1
    ]
  where
    going : (f : Option End) → end_of (before l s) o ≡ f → is_none f ≡ true
    going None is = refl
    going (Some f) is =
        let first = ends-first (before l s) o f.number f.how is in
        let below = subst (λ (m : ℕ). f.number < m) (length-before l s y there) (at-below (before l s) f.number first.0 first.1) in
        let same : f.number ≡ e.number = ap (λ (e : End). e.number) (some-is f e (sym (end-since l s o f is) ∙ ended)) in
        absurd (omega (arith, below, same, late))

pub asked-since : (l : List Noted) (s o : ℕ) (y : Noted) (b : Begun) (e : End) → Legal l → at l s ≡ Some y → is_sealed (before l s) ≡ false
    → begun l o ≡ Some b → end_of l o ≡ Some e → s ≤ e.number → (o ≡ s → ⊥) → AskedFor l o b → (s < o) ⊎ IsPending (entries l) s o b.request
asked-since l s o y b e legal there unsealed opened ended late other asked = elim (open-since l s o y b e legal there opened ended late other) [
  | inl lt ↦ inl lt
  | inr w ↦ inr (pending-is l s o y legal there unsealed w.0 b w.1 asked).0
]

-- a write to the place, which ended since
module _ (l : List Noted) (s k : ℕ) (y : Noted) (q : CoapRequest) (legal : Legal l) (there : at l s ≡ Some y) (unsealed : is_sealed (before l s) ≡ false)
    (none : IsUnwritten (entries l) s k q) where
  pub none-ended : (w : ℕ) (v : Begun) (e : End) → begun l w ≡ Some v → writes_at (asked_place q) v ≡ true → w < k → end_of l w ≡ Some e
      → s ≤ e.number → (w ≡ s → ⊥) → ⊥
  none-ended w v e opened changes below ended late other =
      let write = is-write l q w v legal opened changes in
      let same : v.request ≡ write.request = asked-request l w write.conn write.moment v write.request legal opened write.asked in
      none w write
      (record {
        conn = write.conn;
        moment = write.moment;
        asked = write.asked;
        before = below;
        since = subst (λ (r : CoapRequest). (s < w) ⊎ IsPending (entries l) s w r) same (asked-since l s w y v e legal there unsealed opened ended late other (write-asked l w v legal opened (writes-method q v changes)));
      })

-- To ask the same is mutual, and goes on.
pub asks-a-get : (q r : CoapRequest) → asks_same q r ≡ true → is_get q ≡ true
asks-a-get q r e = (and_parts (is_get q) _ e).0

pub asks-back : (q r : CoapRequest) → asks_same q r ≡ true → asks_same r q ≡ true
asks-back q r e = asks-onward q r q e (asks-itself q (asks-a-get q r e))

pub asks-through : (q r s : CoapRequest) → asks_same q r ≡ true → asks_same r s ≡ true → asks_same q s ≡ true
asks-through q r s e f = asks-onward r q s (asks-back q r e) f
