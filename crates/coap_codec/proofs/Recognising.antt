-- Options that aren't recognised, by marks on the numbers of those that were.
use Rattle.std.proofs.Common.{◌≡◌, ℕ, zero, suc, ◌+◌, ◌<◌, Bool, true, false, not, ◌&&◌, ◌||◌, cond, eqb, List, [], ◌∷◌, length, get_or, drop, replicate, add-one, refl, sym, ap, subst, ◌∙◌, inl, inr, arith}
use Rattle.std.proofs.Math.ListN.{set}
use Rattle.std.specs.List.{list_any, list_all}
use Rattle.std.proofs.lemmas.List.{length-set, get_or-set_same, get_or-set_other}
use Rattle.std.proofs.lemmas.Bool.{cases_eq, eq-eqb, ne_eqb, false≢true, and_left}
use Rattle.coap_codec.specs.declared.opt.Opt.{Opt}
use Rattle.coap_codec.specs.Spelling.{Entry, entry, entries}
use Rattle.coap_codec.proofs.Appends.{next_entry}
use Rattle.coap_codec.specs.Recognition.{is_defined, may_repeat, strays}

-- The numbers that are marked are those of the options recognised so far, and what is left decides.
pub record Going (p : Entry → Bool) (all rest : List Entry) (marks : List Bool) : Type 0 where
  pub seen : List ℕ
  pub size : length marks ≡ 64
  pub marked : (n : ℕ) → get_or marks n false ≡ list_any (λ (k : ℕ). eqb k n) seen
  pub left : list_all p (strays seen rest) ≡ list_all p (strays [] all)

unmarked : (size n : ℕ) → get_or (replicate size false) n false ≡ false
unmarked zero n = refl
unmarked (suc size) zero = refl
unmarked (suc size) (suc n) = unmarked size n

pub starts : (p : Entry → Bool) (all : List Entry) (marks : List Bool) → length marks ≡ 64 → marks ≡ replicate 64 false → Going p all all marks
starts p all marks size e =
    record { seen = []; size = size; marked = λ n. ap (λ (xs : List Bool). get_or xs n false) e ∙ unmarked 64 n; left = refl }

marks-one : (marks : List Bool) (seen : List ℕ) (j : ℕ) → j < length marks → ((n : ℕ) → get_or marks n false ≡ list_any (λ (k : ℕ). eqb k n) seen)
    → (n : ℕ) → get_or (set marks j true) n false ≡ (eqb j n || list_any (λ (k : ℕ). eqb k n) seen)
marks-one marks seen j lt h n =
    elim (cases_eq j n) [
      | inl same ↦ rw (eq-eqb j n same) (ap (λ (i : ℕ). get_or (set marks j true) i false) (sym same) ∙ get_or-set_same marks j true false lt)
      | inr other ↦ rw (ne_eqb j n other) (get_or-set_other marks j n true false (λ q. other (sym q)) ∙ h n)
    ]

known-by : (p : Entry → Bool) (all rest : List Entry) (e : Entry) (marks : List Bool) (known : Bool) (g : Going p all (e ∷ rest) marks)
    → known ≡ (is_defined e && (may_repeat e || not (get_or marks e.number false)))
    → list_all p (cond known (strays (e.number ∷ g.seen) rest) (e ∷ strays g.seen rest)) ≡ list_all p (strays [] all)
known-by p all rest e marks known g k =
    let same : known ≡ (is_defined e && (may_repeat e || not (list_any (λ (n : ℕ). eqb n e.number) g.seen))) =
    k ∙ ap (λ (m : Bool). is_defined e && (may_repeat e || not m)) (g.marked e.number) in
    ap (λ (b : Bool). list_all p (cond b (strays (e.number ∷ g.seen) rest) (e ∷ strays g.seen rest))) same ∙ g.left

and-rest : (a b t : Bool) → a ≡ true → (a && b) ≡ t → b ≡ t
and-rest true b t e h = h
and-rest false b t e h = absurd (false≢true e)

pub goes-on : (p : Entry → Bool) (all rest : List Entry) (e : Entry) (marks next : List Bool) (known : Bool) → Going p all (e ∷ rest) marks
    → known ≡ (is_defined e && (may_repeat e || not (get_or marks e.number false))) → next ≡ cond known (set marks e.number true) marks
    → (known ≡ true → e.number < 64) → (known ≡ false → p e ≡ true) → Going p all rest next
goes-on p all rest e marks next true g k m small pass =
    let lt : e.number < 64 = small refl in
    let within : e.number < length marks = omega (arith, g.size, lt) in
    subst (λ (xs : List Bool). Going p all rest xs) (sym m) (record {
      seen = e.number ∷ g.seen;
      size = length-set marks e.number true ∙ g.size;
      marked = marks-one marks g.seen e.number within g.marked;
      left = known-by p all rest e marks true g k;
    })
goes-on p all rest e marks next false g k m small pass =
    subst (λ (xs : List Bool). Going p all rest xs) (sym m) (record {
      seen = g.seen;
      size = g.size;
      marked = g.marked;
      left = and-rest (p e) (list_all p (strays g.seen rest)) (list_all p (strays [] all)) (pass refl) (known-by p all rest e marks false g k);
    })

pub stops : (p : Entry → Bool) (all rest : List Entry) (e : Entry) (marks : List Bool) (known : Bool) → Going p all (e ∷ rest) marks
    → known ≡ (is_defined e && (may_repeat e || not (get_or marks e.number false))) → known ≡ false → p e ≡ false
    → false ≡ list_all p (strays [] all)
stops p all rest e marks true g k unknown pe = absurd (false≢true (sym unknown))
stops p all rest e marks false g k _ pe = sym (and_left (p e) (list_all p (strays g.seen rest)) pe) ∙ known-by p all rest e marks false g k

in-front : (os : List Opt) (i : ℕ) (o : Opt) → i < length os → o ≡ get_or os i o → entries (drop i os) ≡ entry o ∷ entries (drop (i + 1) os)
in-front os i o lt e = rw add-one (next_entry os i o lt e)

front-going : (p : Entry → Bool) (os : List Opt) (i : ℕ) (o : Opt) (marks : List Bool) → i < length os → o ≡ get_or os i o
    → Going p (entries os) (entries (drop i os)) marks → Going p (entries os) (entry o ∷ entries (drop (i + 1) os)) marks
front-going p os i o marks lt e g = subst (λ (xs : List Entry). Going p (entries os) xs marks) (in-front os i o lt e) g

pub steps : (p : Entry → Bool) (os : List Opt) (i : ℕ) (o : Opt) (marks next : List Bool) (known : Bool) → i < length os → o ≡ get_or os i o
    → Going p (entries os) (entries (drop i os)) marks
    → known ≡ (is_defined (entry o) && (may_repeat (entry o) || not (get_or marks o.number false)))
    → next ≡ cond known (set marks o.number true) marks → (known ≡ true → o.number < 64) → (known ≡ false → p (entry o) ≡ true)
    → Going p (entries os) (entries (drop (i + 1) os)) next
steps p os i o marks next known lt e g k m small pass =
    goes-on p (entries os) (entries (drop (i + 1) os)) (entry o) marks next known (front-going p os i o marks lt e g) k m small pass

pub halts : (p : Entry → Bool) (os : List Opt) (i : ℕ) (o : Opt) (marks : List Bool) (known : Bool) → i < length os → o ≡ get_or os i o
    → Going p (entries os) (entries (drop i os)) marks
    → known ≡ (is_defined (entry o) && (may_repeat (entry o) || not (get_or marks o.number false))) → known ≡ false → p (entry o) ≡ false
    → false ≡ list_all p (strays [] (entries os))
halts p os i o marks known lt e g k unknown pe =
    stops p (entries os) (entries (drop (i + 1) os)) (entry o) marks known (front-going p os i o marks lt e g) k unknown pe
