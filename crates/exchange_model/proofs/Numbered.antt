-- The connections stand in the order of their numbers.
use Rattle.std.proofs.Common.{◌≡◌, ℕ, zero, suc, ◌+◌, ◌<◌, List, [], ◌∷◌, map, sym, ap, ◌∙◌, subst, arith}
use Rattle.std.specs.List.{AllByRecursion, range_with_len}
use Rattle.history_laws.specs.Readings.{Noted}
use Rattle.history_laws.specs.Connections.{is_open, opened, has_opened}
use Rattle.history_laws.specs.Sealing as H
use Rattle.history_laws.proofs.CallerLemmas.{all-filter, next-above, Rising, rising-filter}
use Rattle.exchange_model.specs.declared.kept.Conn.{Conn}
use Rattle.exchange_model.specs.State.{State}
use Rattle.exchange_model.specs.Reads.{Reads}
use Rattle.exchange_model.specs.Growing.{Rise, ConnsBelow, ConnsRise}
use Rattle.exchange_model.proofs.Lists.{all-mapped}
use Rattle.exchange_model.proofs.Tallies.{id_of, range-below, open-ids}

above : (k a n : ℕ) → k < a → AllByRecursion (λ (m : ℕ). k < m) (range_with_len a n)
above k a zero h = tt
above k a (suc n) h = (h, above k (a + 1) n (omega (arith, h)))

pub range-rises : (a n : ℕ) → Rising (range_with_len a n)
range-rises a zero = tt
range-rises a (suc n) = (above a (a + 1) n (omega arith), range-rises (a + 1) n)

pub rise : (xs : List Conn) → Rising (map id_of xs) → Rise xs
rise [] h = tt
rise (x ∷ xs) h = (all-mapped id_of (λ (n : ℕ). x.id < n) xs h.0, rise xs h.1)

ids-are : (l : List Noted) (S : State) → Reads l S → map id_of S.conns ≡ H.open_conns l
ids-are l S r = ap (map id_of) (sym r.conns_are) ∙ open-ids l r.legal

pub conns-rise : ConnsRise
conns-rise S k =
    let l = k.kept.reading in
    let r = k.kept.rests.reads in
    rise S.conns (subst Rising (sym (ids-are l S r))
    (rising-filter (is_open l) (range_with_len 0 (opened l)) (range-rises 0 (opened l))))

pub conns-below : ConnsBelow
conns-below S k =
    let l = k.kept.reading in
    let r = k.kept.rests.reads in
    all-mapped id_of (λ (n : ℕ). n < S.opened) S.conns
    (subst (λ (ks : List ℕ). AllByRecursion (λ (n : ℕ). n < S.opened) ks) (sym (ids-are l S r))
    (all-filter (λ (n : ℕ). n < S.opened) (is_open l) (range_with_len 0 (opened l))
    (let above = next-above (has_opened l) (opened l) S.opened r.opened_are in range-below 0 (opened l) S.opened (omega (arith, above)))))
