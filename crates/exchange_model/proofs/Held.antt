-- What is held free for the connections and the seal gets less by one at most with each entry.
use Rattle.std.proofs.Common.{◌≡◌, ℕ, zero, suc, ◌+◌, ◌-◌, ◌<◌, ◌≤◌, Bool, true, false, not, eqb, inl, inr, List, [], ◌∷◌, ◌++◌, length, filter, take, drop, Some, None, refl, sym, ap, subst, ◌∙◌, arith, length-append}
use Rattle.std.specs.List.{AllByRecursion, range_with_len}
use Rattle.std.proofs.lemmas.Bool.Decides.{eqb_tells}
use Rattle.std.proofs.lemmas.List.{length-map, length-take, same_from_push, take-append-drop, take-append-le, take_all, take_at}
use Rattle.journal_book.specs.Entries.{Deed, Opens, Asks, Answers, Shuts, Seals, Written}
use Rattle.history_laws.specs.Readings.{Noted, entries}
use Rattle.history_laws.specs.Connections.{is_open, is_sealed, opened, sealed_by}
use Rattle.history_laws.specs.Justified.{Legal}
use Rattle.history_laws.proofs.CallerLemmas.{entries-length, Rising, rising-filter}
use Rattle.exchange_model.specs.declared.kept.Conn.{Conn}
use Rattle.exchange_model.specs.State.{State, conns_after, pend}
use Rattle.exchange_model.specs.Reads.{conns_of}
use Rattle.exchange_model.specs.Growing.{Rise}
use Rattle.exchange_model.specs.Room.{KeptInRoom, seals_left}
use Rattle.exchange_model.proofs.Numbered.{range-rises, rise}
use Rattle.exchange_model.proofs.Tallies.{open-ids}

risen : (l : List Noted) → Legal l → Rise (conns_of l)
risen l legal =
    rise (conns_of l) (subst Rising (sym (open-ids l legal))
    (rising-filter (is_open l) (range_with_len 0 (opened l)) (range-rises 0 (opened l))))

-- Of connections that each have a number of their own one is shut at most.
others-stay : (xs : List Conn) (c : ℕ) → AllByRecursion (λ (y : Conn). c < y.id) xs → filter (λ (x : Conn). not (eqb x.id c)) xs ≡ xs
others-stay [] c a = refl
others-stay (x ∷ xs) c a = elim (eqb_tells x.id c) [
  | inl w ↦ let lt = a.0 in let same = w.1 in absurd (omega (arith, lt, same))
  | inr w ↦ rw (w.0) (ap (λ (ys : List Conn). x ∷ ys) (others-stay xs c a.1))
]

one-less : (xs : List Conn) (c : ℕ) → Rise xs → length xs ≤ length (filter (λ (x : Conn). not (eqb x.id c)) xs) + 1
one-less [] c r = omega arith
one-less (x ∷ xs) c r = elim (eqb_tells x.id c) [
  | inl w ↦
      let above : AllByRecursion (λ (y : Conn). c < y.id) xs = subst (λ (k : ℕ). AllByRecursion (λ (y : Conn). k < y.id) xs) w.1 r.0 in
      let same = ap (λ (ys : List Conn). length ys) (others-stay xs c above) in
      rw (w.0) (omega (arith, same))
  | inr w ↦ let rest = one-less xs c r.1 in rw (w.0) (omega (arith, rest))
]

few-seals : (b : Bool) → seals_left b ≤ 1
few-seals true = omega arith
few-seals false = omega arith

-- one entry more
step-held : (l : List Noted) (n : ℕ) (d : Deed) → Rise (conns_of l)
    → length (conns_of l) + seals_left (is_sealed l)
    ≤ length (conns_after (conns_of l) n d) + seals_left (sealed_by d (is_sealed l)) + 1
step-held l n (Opens c) r =
    let more = length-append (conns_of l) (record { id = c; pending = None } ∷ []) in omega (arith, more)
step-held l n (Asks c a) r = let same = length-map (conns_of l) (pend c (Some n)) in omega (arith, same)
step-held l n (Answers c k g) r = let same = length-map (conns_of l) (pend c None) in omega (arith, same)
step-held l n (Shuts c) r = let one = one-less (conns_of l) c r in omega (arith, one)
step-held l n Seals r = let one = few-seals (is_sealed l) in omega (arith, one)
step-held l n d r = omega arith

-- all entries since
since-held : (ns l : List Noted) → Legal (ns ++ l)
    → length (conns_of l) + seals_left (is_sealed l)
    ≤ length (conns_of (ns ++ l)) + seals_left (is_sealed (ns ++ l)) + length ns
since-held [] l legal = omega arith
since-held (x ∷ ns) l legal =
    let rest = since-held ns l legal.0 in
    let step = step-held (ns ++ l) (length (ns ++ l)) x.written.deed (risen (ns ++ l) legal.0) in
    omega (arith, rest, step)

-- Equal entries hold as much.
same-held : (a b : List Noted) → entries a ≡ entries b → (conns_of a ≡ conns_of b) × (is_sealed a ≡ is_sealed b)
same-held [] [] e = (refl, refl)
same-held [] (y ∷ b) e =
    let n = ap (λ (ws : List Written). length ws) e in
    let one = length-append (entries b) (y.written ∷ []) in absurd (omega (arith, n, one))
same-held (x ∷ a) [] e =
    let n = ap (λ (ws : List Written). length ws) e in
    let one = length-append (entries a) (x.written ∷ []) in absurd (omega (arith, n, one))
same-held (x ∷ a) (y ∷ b) e =
    let both = same_from_push (entries a) (entries b) x.written y.written e in
    let rest = same-held a b both.0 in
    let len : length a ≡ length b =
    sym (entries-length a) ∙ (ap (λ (ws : List Written). length ws) both.0 ∙ entries-length b) in (
      ap (λ (cs : List Conn). conns_after cs (length a) x.written.deed) rest.0
          ∙ (ap (λ (k : ℕ). conns_after (conns_of b) k x.written.deed) len
          ∙ ap (λ (w : Written). conns_after (conns_of b) (length b) w.deed) both.1),
      ap (sealed_by x.written.deed) rest.1 ∙ ap (λ (w : Written). sealed_by w.deed (is_sealed b)) both.1,
    )

-- the entries before the newest
older-entries : (k : ℕ) (l : List Noted) → k ≤ length l → entries (drop k l) ≡ take (length l - k) (entries l)
older-entries zero l le =
    let len = entries-length l in sym (take_all (length l - 0) (entries l) (omega (arith, len)))
older-entries (suc k) [] le = absurd (omega (arith, le))
older-entries (suc k) (x ∷ older) le =
    let len = entries-length older in
    let less : suc (length older) - suc k ≡ length older - k = omega arith in
    older-entries k older (omega (arith, le))
    ∙ (sym (take-append-le (length older - k) (entries older) (x.written ∷ []) (omega (arith, len)))
    ∙ ap (λ (n : ℕ). take n (entries older ++ x.written ∷ [])) (sym less))

pub held-before : (S S1 : State) (more : List Written) → KeptInRoom S → KeptInRoom S1 → S1.entries ≡ S.entries ++ more
    → length S.conns + seals_left S.sealed ≤ length S1.conns + seals_left S1.sealed + length more
held-before S S1 more k k1 is =
    let l = k1.kept.reading in
    let r = k.kept.rests.reads in
    let r1 = k1.kept.rests.reads in
    let n : ℕ = length more in
    let count = entries-length l in
    let all : length (entries l) ≡ length S.entries + n =
    ap (λ (ws : List Written). length ws) (r1.entries_are ∙ is) ∙ length-append S.entries more in
    let o : List Noted = drop n l in
    let ns : List Noted = take n l in
    let old_are : entries o ≡ S.entries =
    older-entries n l (omega (arith, count, all))
    ∙ (ap (λ (ws : List Written). take (length l - n) ws) (r1.entries_are ∙ is)
    ∙ take_at S.entries more (length l - n) (omega (arith, count, all))) in
    let same = same-held k.kept.reading o (r.entries_are ∙ sym old_are) in
    let whole : ns ++ o ≡ l = take-append-drop n l in
    let since = since-held ns o (subst Legal (sym whole) r1.legal) in
    let few = length-take n l in
    let conns0 = ap (λ (cs : List Conn). length cs) (sym same.0 ∙ r.conns_are) in
    let seals0 = ap seals_left (sym same.1 ∙ r.sealed_is) in
    let conns1 = ap (λ (x : List Noted). length (conns_of x)) whole ∙ ap (λ (cs : List Conn). length cs) r1.conns_are in
    let seals1 = ap (λ (x : List Noted). seals_left (is_sealed x)) whole ∙ ap seals_left r1.sealed_is in
    omega (arith, since, few, conns0, seals0, conns1, seals1)
