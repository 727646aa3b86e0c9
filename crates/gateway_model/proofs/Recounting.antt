-- Where only how many bytes of a connection count as unread changes, all else of it stays.
use Rattle.std.proofs.Common.{◌≡◌, ◌≢◌, ◌⊎◌, inl, inr, ℕ, List, Some, None, refl, sym, ap, ◌∙◌, subst}
use Rattle.history_laws.proofs.CallerLemmas.{none-some, some-is}
use Rattle.gateway_model.specs.Unasked.{Unasked, unasked_at, Recounted, Recounts}
use Rattle.gateway_model.proofs.Asked.{own-after}
use Rattle.gateway_model.proofs.Awaiting.{which}
use Rattle.gateway_model.proofs.Numbers.{at-number}
use Rattle.gateway_model.proofs.Standing.{others-same}

abbrev recounted : Unasked → ℕ → Unasked → Unasked
recounted before n x = record before { unread = n }

keeps-number : (c : ℕ) (old new : List Unasked) (r : Recounted c old new) (x : Unasked) → x.number ≡ c → r.before.number ≡ c
keeps-number c old new r x e = at-number c old r.before r.stands

others-stay : (c d : ℕ) (old new : List Unasked) (r : Recounted c old new) → d ≢ c → unasked_at d new ≡ unasked_at d old
others-stay c d old new r ne =
    ap (unasked_at d) r.left ∙ others-same c d (recounted r.before r.unread) old ne (keeps-number c old new r)

own-now : (c : ℕ) (old new : List Unasked) (r : Recounted c old new) → unasked_at c new ≡ Some (record r.before { unread = r.unread })
own-now c old new r =
    ap (unasked_at c) r.left ∙ own-after c (recounted r.before r.unread) old r.before (keeps-number c old new r) r.stands

-- the others stay
pub recount-others : (c d : ℕ) (old new : List Unasked) → Recounts c old new → d ≢ c → unasked_at d new ≡ unasked_at d old
recount-others c d old new (inl e) ne = ap (unasked_at d) e
recount-others c d old new (inr r) ne = others-stay c d old new r ne

-- what stands stood so before, but for that count
pub recount-at : (c d : ℕ) (old new : List Unasked) → Recounts c old new → (x : Unasked) → unasked_at d new ≡ Some x
    → (y : Unasked) × (unasked_at d old ≡ Some y) × (x ≡ record y { unread = x.unread })
recount-at c d old new (inl e) x is = (x, sym (ap (unasked_at d) e) ∙ is, refl)
recount-at c d old new (inr r) x is = by (which d c)
  where
    by : (d ≡ c) ⊎ (d ≢ c) → (y : Unasked) × (unasked_at d old ≡ Some y) × (x ≡ record y { unread = x.unread })
    by (inl same) =
        let here : unasked_at c new ≡ Some x = subst (λ (k : ℕ). unasked_at k new ≡ Some x) same is in
        let e : x ≡ record r.before { unread = r.unread } = some-is x (record r.before { unread = r.unread }) (sym here ∙ own-now c old new r) in (
          r.before,
          subst (λ (k : ℕ). unasked_at k old ≡ Some r.before) (sym same) r.stands,
          e ∙ ap (λ (n : ℕ). record r.before { unread = n }) (sym (ap (λ (z : Unasked). z.unread) e)),
        )
    by (inr ne) = (x, sym (others-stay c d old new r ne) ∙ is, refl)

-- what stood stands still
pub recount-after : (c d : ℕ) (old new : List Unasked) → Recounts c old new → (u : Unasked) → unasked_at d old ≡ Some u
    → (v : Unasked) × (unasked_at d new ≡ Some v) × (v.closing ≡ u.closing) × (v.text ≡ u.text)
recount-after c d old new (inl e) u is = (u, ap (unasked_at d) e ∙ is, refl, refl)
recount-after c d old new (inr r) u is = by (which d c)
  where
    by : (d ≡ c) ⊎ (d ≢ c) → (v : Unasked) × (unasked_at d new ≡ Some v) × (v.closing ≡ u.closing) × (v.text ≡ u.text)
    by (inl same) =
        let here : unasked_at c old ≡ Some u = subst (λ (k : ℕ). unasked_at k old ≡ Some u) same is in
        let e : r.before ≡ u = some-is r.before u (sym r.stands ∙ here) in (
          record r.before { unread = r.unread },
          subst (λ (k : ℕ). unasked_at k new ≡ Some (record r.before { unread = r.unread })) (sym same) (own-now c old new r),
          ap (λ (z : Unasked). z.closing) e,
          ap (λ (z : Unasked). z.text) e,
        )
    by (inr ne) = (u, others-stay c d old new r ne ∙ is, refl, refl)

pub recount-none : (c d : ℕ) (old new : List Unasked) → Recounts c old new → unasked_at d old ≡ None → unasked_at d new ≡ None
recount-none c d old new (inl e) is = ap (unasked_at d) e ∙ is
recount-none c d old new (inr r) is = by (which d c)
  where
    by : (d ≡ c) ⊎ (d ≢ c) → unasked_at d new ≡ None
    by (inl same) = absurd (none-some r.before (sym (subst (λ (k : ℕ). unasked_at k old ≡ None) same is) ∙ r.stands))
    by (inr ne) = others-stay c d old new r ne ∙ is
