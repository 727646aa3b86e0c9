use Rattle.std.proofs.Common.{◌≡◌, ℕ, Bool, zero, suc, ◌+◌, ◌<◌, ◌++◌, ◌∷◌, [], List, Option, drop, get_or, length, map, refl, sym, ap, subst, ◌∙◌, append-nil, arith}
use Rattle.std.proofs.lemmas.List.{drop_all}
use Rattle.reply_reading.specs.Findings.{Found}
use Rattle.history_laws.specs.Progress.{Ending}
use Rattle.exchange_model.specs.declared.kept.Reader.{Reader}
use Rattle.exchange_progress.specs.Coming.{found_for, renews}
use Rattle.exchange_core.specs.Matters.{telling_for}
use Rattle.exchange_core.proofs.ending.readers_told.Goals as goal

-- one more is told
more-told : {X Y : Type 0} (f : X → Y) (told : List Y) (xs : List X) (i : ℕ) (d : X) (y : Y) (all : List Y) → i < length xs → y ≡ f (get_or xs i d)
    → told ++ map f (drop i xs) ≡ all → (told ++ y ∷ []) ++ map f (drop (i + 1) xs) ≡ all
more-told {X = X} {Y = Y} f told xs i d y all lt is e =
    together told ∙ ap (λ (ys : List Y). told ++ ys) (ap (λ (z : Y). z ∷ map f (drop (i + 1) xs)) is ∙ ap (map f) (sym (next xs i lt))) ∙ e
  where
    together : (ys : List Y) → (ys ++ y ∷ []) ++ map f (drop (i + 1) xs) ≡ ys ++ y ∷ map f (drop (i + 1) xs)
    together [] = refl
    together (z ∷ zs) = ap (λ (ws : List Y). z ∷ ws) (together zs)

    next : (zs : List X) (k : ℕ) → k < length zs → drop k zs ≡ get_or zs k d ∷ drop (k + 1) zs
    next [] k less = absurd (omega (arith, less))
    next (z ∷ zs) zero less = refl
    next (z ∷ zs) (suc k) less = next zs k (omega (arith, less)) ∙ ap (λ (j : ℕ). get_or zs k d ∷ drop j (z ∷ zs)) (let e : suc (k + 1) ≡ suc k + 1 = omega arith in e)

telling-is : (how : Ending) (n : ℕ) (sending : Option ℕ) (r : Reader) (f : Found) (b : Bool) → f ≡ found_for how n sending r → b ≡ renews how
    → (record { reader = r; finding = f; renewed = b }) ≡ telling_for how n sending r
telling-is how n sending r f b e d =
    ap (λ (g : Found). record { reader = r; finding = g; renewed = b }) e
    ∙ ap (λ (c : Bool). record { reader = r; finding = found_for how n sending r; renewed = c }) d

pub each-preserved : goal.each-preserved
each-preserved c = λ n how i.
    let sending = c.args.exchange.now.sending in
    let tell = telling_for how n sending in
    let waiting = c.of-waiting.result.now in
    rw (c.in_ok-push_back.ensures.items)
    (more-told tell c.each.told.items waiting c.each.reader-index _ _ (map tell waiting) c.each-test.true
    (telling-is how n sending _ _ _ (c.in_ok-finding_for.ensures n how sending i) (c.is_renewed-renewed.ensures n how i)) (c.each.invariant n how i))

pub returns : goal.returns
returns c = λ n how i.
    let tell = telling_for how n c.args.exchange.now.sending in
    let waiting = c.of-waiting.result.now in
    sym (append-nil c.each.told.items)
    ∙ subst (λ (rs : List Reader). c.each.told.items ++ map tell rs ≡ map tell waiting)
    (drop_all c.each.reader-index waiting c.each-test.false) (c.each.invariant n how i)
    ∙ ap (map tell) c.of-waiting.ensures
