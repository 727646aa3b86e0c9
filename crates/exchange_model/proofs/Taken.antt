-- What the pairs that are carried over rest on.
use Rattle.std.proofs.Common.{◌≡◌, ◌≢◌, ◌⊎◌, ℕ, zero, Bool, true, false, cond, eqb, inl, inr, List, [], ◌∷◌, ◌++◌, Option, Some, None, refl, sym, ap, subst, ◌∙◌, arith}
use Rattle.std.specs.Prelude.{◌||◌, option_map}
use Rattle.std.specs.List.{AllByRecursion, Contains, list_any, list_all}
use Rattle.std.proofs.lemmas.Bool.{false≢true, or_right, or_left, and_parts}
use Rattle.std.proofs.lemmas.Bool.Decides.{eqb_tells}
use Rattle.std.proofs.lemmas.List.Folds.{list_any-append}
use Rattle.ask_model.specs.Requests.{CoapRequest}
use Rattle.cache_key.proofs.CallerLemmas.{keys_decided}
use Rattle.resp_cache.specs.declared.pair.Pair.{Pair}
use Rattle.resp_cache.specs.Stores.{is_of}
use Rattle.journal_book.specs.Entries.{Written}
use Rattle.history_laws.specs.Readings.{Noted, entries}
use Rattle.history_laws.specs.Progress.{Reply, numbers}
use Rattle.history_laws.specs.Storing.{IsUse}
use Rattle.history_laws.specs.Justified.{Legal}
use Rattle.history_laws.proofs.CallerLemmas.{all-more, all-of, contains-later, contains-none, eqb-itself, first-or-later, none-some, some-is}
use Rattle.exchange_model.specs.State.{State}
use Rattle.exchange_model.specs.Reads.{AreLastFirst, AreUnused, HasPair}
use Rattle.exchange_model.specs.Backing.{backing, replies_backing, replied_to, with_reply}
use Rattle.exchange_model.specs.Rotating.{has, are_few, copies_with, may_carry, Backed, backed_by, backed_if, backed, few_of, carried_numbers}
use Rattle.exchange_model.proofs.Uses.{uses-before}
use Rattle.exchange_model.proofs.StoredFacts.{ReplyFacts, StoredFacts}
use Rattle.exchange_model.proofs.Traced.{traced-own}
use Rattle.exchange_model.specs.Steps.{is_piece_at}
use Rattle.resp_cache.specs.Stored.{is_fresh}

-- Each key stands once.

abbrev pub KeysApart : List Pair → Type 0
KeysApart [] = Unit {0}
KeysApart (p ∷ ps) = AllByRecursion (λ (r : Pair). p.key ≢ r.key) ps × KeysApart ps

all-have : (ps : List Pair) → AllByRecursion (λ (r : Pair). HasPair ps r.key) ps
all-have [] = tt
all-have (p ∷ ps) = (
  or_left (is_of p.key p) (list_any (is_of p.key) ps) ((keys_decided p.key p.key).1 refl),
  all-more (λ (r : Pair). HasPair ps r.key) (λ (r : Pair). HasPair (p ∷ ps) r.key) (λ r h. or_right (is_of r.key p) (list_any (is_of r.key) ps) h) ps (all-have ps),
)

unused-apart : (l : List Noted) (ps : List Pair) → AreUnused l ps → KeysApart ps
unused-apart l [] h = tt
unused-apart l (p ∷ ps) h = (h.1, unused-apart l ps h.2)

pub keys-apart : (l : List Noted) (b : ℕ) (ps : List Pair) → AreLastFirst l b ps → KeysApart ps
keys-apart l b [] h = tt
keys-apart l b (p ∷ ps) (inr h) = unused-apart l (p ∷ ps) h
keys-apart l b (p ∷ ps) (inl h) = (
  all-more (λ (r : Pair). HasPair ps r.key) (λ (r : Pair). p.key ≢ r.key)
      (λ r has same. let lt = uses-before l h.0 ps r.key h.3 has h.0 (subst (IsUse l h.0) same h.2.used) in omega (arith, lt)) ps (all-have ps),
  keys-apart l h.0 ps h.3,
)

-- What is carried over are pairs of the store, in its order, with what they rest on.

abbrev pub BackedApart : List Backed → Type 0
BackedApart [] = Unit {0}
BackedApart (b ∷ bs) = AllByRecursion (λ (c : Backed). b.pair.key ≢ c.pair.key) bs × BackedApart bs

-- such a pair, and what is known of it
pub record BackedFacts (l : List Noted) (b : Backed) : Type 0 where
  pub facts : StoredFacts l b.pair
  pub backs : backing (entries l) b.pair.stored ≡ Some b.numbers

module _ (t : ℕ) (S : State) where
  all-backed : (P : Pair → Type 0) (ps : List Pair) → AllByRecursion P ps → AllByRecursion (λ (b : Backed). P b.pair) (backed t S ps)
  all-backed P [] h = tt
  all-backed P (p ∷ ps) h = by (may_carry t S p) (all-backed P ps h.1)
    where
      to : (v : Option (List ℕ)) → AllByRecursion (λ (b : Backed). P b.pair) (backed t S ps) → AllByRecursion (λ (b : Backed). P b.pair) (backed_by p v ++ backed t S ps)
      to None ih = ih
      to (Some ns) ih = (h.0, ih)

      by : (c : Bool) → AllByRecursion (λ (b : Backed). P b.pair) (backed t S ps) → AllByRecursion (λ (b : Backed). P b.pair) (backed_if c S.entries p ++ backed t S ps)
      by true ih = to (backing S.entries p.stored) ih
      by false ih = ih

  backed-apart : (ps : List Pair) → KeysApart ps → BackedApart (backed t S ps)
  backed-apart [] h = tt
  backed-apart (p ∷ ps) h = by (may_carry t S p) (backed-apart ps h.1)
    where
      to : (v : Option (List ℕ)) → BackedApart (backed t S ps) → BackedApart (backed_by p v ++ backed t S ps)
      to None ih = ih
      to (Some ns) ih = (all-backed (λ (r : Pair). p.key ≢ r.key) ps h.0, ih)

      by : (c : Bool) → BackedApart (backed t S ps) → BackedApart (backed_if c S.entries p ++ backed t S ps)
      by true ih = to (backing S.entries p.stored) ih
      by false ih = ih

  -- those without a 2.03 among their replies
  abbrev pub AreFacts : List Noted → List Pair → Type 0
  AreFacts l ps = AllByRecursion (λ (p : Pair). list_all (is_piece_at S.entries) p.stored.list ≡ true → StoredFacts l p) ps

  backed-facts : (l : List Noted) → entries l ≡ S.entries → (ps : List Pair) → AreFacts l ps → AllByRecursion (BackedFacts l) (backed t S ps)
  backed-facts l same [] h = tt
  backed-facts l same (p ∷ ps) h = by (may_carry t S p) refl (backed-facts l same ps h.1)
    where
      to : StoredFacts l p → (v : Option (List ℕ)) → backing S.entries p.stored ≡ v → AllByRecursion (BackedFacts l) (backed t S ps) → AllByRecursion (BackedFacts l) (backed_by p v ++ backed t S ps)
      to facts None is ih = ih
      to facts (Some ns) is ih = (record { facts = facts; backs = ap (λ (ws : List Written). backing ws p.stored) same ∙ is }, ih)

      by : (c : Bool) → may_carry t S p ≡ c → AllByRecursion (BackedFacts l) (backed t S ps) → AllByRecursion (BackedFacts l) (backed_if c S.entries p ++ backed t S ps)
      by true may ih = to (h.0 (and_parts (list_all (is_piece_at S.entries) p.stored.list) _ (and_parts (is_fresh t p.stored) _ may).1).0) (backing S.entries p.stored) refl ih
      by false may ih = ih

-- the first of them
all-few : (P : Backed → Type 0) (t : ℕ) (ws : List Written) (gs : List ℕ) (bs : List Backed) → AllByRecursion P bs → AllByRecursion P (few_of t ws gs bs)
all-few P t ws gs [] h = tt
all-few P t ws gs (b ∷ bs) h = by (are_few (copies_with t ws (gs ++ b.numbers))) (all-few P t ws (gs ++ b.numbers) bs h.1)
  where
    by : (c : Bool) → AllByRecursion P (few_of t ws (gs ++ b.numbers) bs) → AllByRecursion P (cond c (b ∷ few_of t ws (gs ++ b.numbers) bs) [])
    by true ih = (h.0, ih)
    by false ih = tt

few-apart : (t : ℕ) (ws : List Written) (gs : List ℕ) (bs : List Backed) → BackedApart bs → BackedApart (few_of t ws gs bs)
few-apart t ws gs [] h = tt
few-apart t ws gs (b ∷ bs) h = by (are_few (copies_with t ws (gs ++ b.numbers))) (few-apart t ws (gs ++ b.numbers) bs h.1)
  where
    by : (c : Bool) → BackedApart (few_of t ws (gs ++ b.numbers) bs) → BackedApart (cond c (b ∷ few_of t ws (gs ++ b.numbers) bs) [])
    by true ih = (all-few (λ (c : Backed). b.pair.key ≢ c.pair.key) t ws (gs ++ b.numbers) bs h.0, ih)
    by false ih = tt

pub record AreTaken (l : List Noted) (bs : List Backed) : Type 0 where
  pub facts : AllByRecursion (BackedFacts l) bs
  pub apart : BackedApart bs

pub are-taken : (t : ℕ) (S : State) (l : List Noted) → entries l ≡ S.entries → AreFacts t S l S.store → KeysApart S.store
    → AreTaken l (few_of t S.entries [] (backed t S S.store))
are-taken t S l same facts apart = record {
  facts = all-few (BackedFacts l) t S.entries [] (backed t S S.store) (backed-facts t S l same S.store facts);
  apart = few-apart t S.entries [] (backed t S S.store) (backed-apart t S S.store apart);
}

pub one-pair : (bs : List Backed) (b c : Backed) → BackedApart bs → Contains bs b → Contains bs c → b.pair.key ≡ c.pair.key → b ≡ c
one-pair [] b c apart hb hc same = absurd (contains-none b hb)
one-pair (d ∷ bs) b c apart hb hc same =
    elim (first-or-later d bs b hb) [
      | inl u ↦ elim (first-or-later d bs c hc) [
        | inl v ↦ sym u ∙ v
        | inr v ↦ absurd (all-of (λ (c : Backed). d.pair.key ≢ c.pair.key) bs c apart.0 v (ap (λ (b : Backed). b.pair.key) u ∙ same))
      ]
      | inr u ↦ elim (first-or-later d bs c hc) [
        | inl v ↦ absurd (all-of (λ (c : Backed). d.pair.key ≢ c.pair.key) bs b apart.0 u (ap (λ (b : Backed). b.pair.key) v ∙ sym same))
        | inr v ↦ one-pair bs b c apart.1 u v same
      ]
    ]

-- The numbers are those of the ask, the messages and the replies.

abbrev pub two_of : List Reply → List ℕ
two_of [] = []
two_of (r ∷ rs) = r.sending ∷ r.number ∷ two_of rs

two-are : (l : List Noted) (o : ℕ) (q : CoapRequest) (rs : List Reply) (ns : List ℕ) → Legal l → ((r : Reply) → Contains rs r → ReplyFacts l o q r)
    → replies_backing (entries l) (numbers rs) ≡ Some ns → ns ≡ two_of rs
two-are l o q [] ns legal h e = sym (some-is [] ns e)
two-are l o q (r ∷ rs) ns legal h e =
    by (replied_to (entries l) r.number) refl (replies_backing (entries l) (numbers rs)) (λ ms are. two-are l o q rs ms legal (λ x has_it. h x (contains-later r rs x has_it)) are) e
  where
    by : (v : Option ℕ) → replied_to (entries l) r.number ≡ v → (u : Option (List ℕ)) → ((ms : List ℕ) → u ≡ Some ms → ms ≡ two_of rs)
        → with_reply r.number v u ≡ Some ns → ns ≡ two_of (r ∷ rs)
    by (Some i) is (Some ms) ih e =
        sym (some-is (i ∷ r.number ∷ ms) ns e)
        ∙ (ap (λ (i : ℕ). i ∷ r.number ∷ ms) (traced-own l o q r i legal (h r (zero, omega arith, refl)) is)
        ∙ ap (λ (ms : List ℕ). r.sending ∷ r.number ∷ ms) (ih ms refl))
    by (Some i) is None ih e = absurd (none-some ns e)
    by None is u ih e = absurd (none-some ns e)

pub numbers-are : (l : List Noted) (b : Backed) → Legal l → (h : BackedFacts l b) → b.numbers ≡ b.pair.stored.opening ∷ two_of (h.facts.first ∷ h.facts.more)
numbers-are l b legal h = by (replies_backing (entries l) b.pair.stored.list) refl h.backs
  where
    rs : List Reply
    rs = h.facts.first ∷ h.facts.more

    by : (v : Option (List ℕ)) → replies_backing (entries l) b.pair.stored.list ≡ v → option_map (λ (ns : List ℕ). b.pair.stored.opening ∷ ns) v ≡ Some b.numbers
        → b.numbers ≡ b.pair.stored.opening ∷ two_of rs
    by None is e = absurd (none-some b.numbers e)
    by (Some ns) is e =
        sym (some-is _ _ e)
        ∙ ap (λ (ns : List ℕ). b.pair.stored.opening ∷ ns)
        (two-are l b.pair.stored.opening h.facts.request rs ns legal h.facts.replies (ap (replies_backing (entries l)) (sym h.facts.list) ∙ is))

-- what an entry with one of these numbers is
abbrev pub IsOneOf : ℕ → List Reply → ℕ → Type 0
IsOneOf o rs n = (n ≡ o) ⊎ ((r : Reply) × Contains rs r × ((n ≡ r.sending) ⊎ (n ≡ r.number)))

or-cases : (a b : Bool) → (a || b) ≡ true → (a ≡ true) ⊎ (b ≡ true)
or-cases true b e = inl refl
or-cases false b e = inr e

same-of : (a n : ℕ) → eqb a n ≡ true → n ≡ a
same-of a n e = elim (eqb_tells a n) [ inl w ↦ sym w.1 | inr w ↦ absurd (false≢true (sym w.0 ∙ e)) ]

has-two : (rs : List Reply) (n : ℕ) → has (two_of rs) n ≡ true → (r : Reply) × Contains rs r × ((n ≡ r.sending) ⊎ (n ≡ r.number))
has-two [] n e = absurd (false≢true e)
has-two (r ∷ rs) n e =
    elim (or-cases (eqb r.sending n) _ e) [
      | inl u ↦ (r, (zero, omega arith, refl), inl (same-of r.sending n u))
      | inr u ↦ elim (or-cases (eqb r.number n) _ u) [
        | inl v ↦ (r, (zero, omega arith, refl), inr (same-of r.number n v))
        | inr v ↦ let it = has-two rs n v in (it.0, contains-later r rs it.0 it.1, it.2)
      ]
    ]

two-has : (rs : List Reply) (r : Reply) → Contains rs r → (has (two_of rs) r.sending ≡ true) × (has (two_of rs) r.number ≡ true)
two-has [] r h = absurd (contains-none r h)
two-has (x ∷ rs) r h =
    elim (first-or-later x rs r h) [
      | inl u ↦ (
        or_left (eqb x.sending r.sending) _ (ap (λ (y : Reply). eqb x.sending y.sending) (sym u) ∙ eqb-itself x.sending),
        or_right (eqb x.sending r.number) _ (or_left (eqb x.number r.number) _ (ap (λ (y : Reply). eqb x.number y.number) (sym u) ∙ eqb-itself x.number)),
      )
      | inr u ↦
          let ih = two-has rs r u in (
            or_right (eqb x.sending r.sending) _ (or_right (eqb x.number r.sending) _ ih.0),
            or_right (eqb x.sending r.number) _ (or_right (eqb x.number r.number) _ ih.1),
          )
    ]

has-append : (ns ms : List ℕ) (n : ℕ) → has (ns ++ ms) n ≡ (has ns n || has ms n)
has-append ns ms n = list_any-append (λ (g : ℕ). eqb g n) ns ms

-- of which of the pairs
pub record IsListed (l : List Noted) (bs : List Backed) (n : ℕ) : Type 0 where
  pub backed : Backed
  pub among : Contains bs backed
  pub known : BackedFacts l backed
  pub one : IsOneOf backed.pair.stored.opening (known.facts.first ∷ known.facts.more) n

pub listed : (l : List Noted) (bs : List Backed) (n : ℕ) → Legal l → AllByRecursion (BackedFacts l) bs → has (carried_numbers bs) n ≡ true → IsListed l bs n
listed l [] n legal h e = absurd (false≢true e)
listed l (b ∷ bs) n legal h e =
    elim (or-cases (has b.numbers n) (has (carried_numbers bs) n) (sym (has-append b.numbers (carried_numbers bs) n) ∙ e)) [
      | inl u ↦
          let is = ap (λ (ns : List ℕ). has ns n) (sym (numbers-are l b legal h.0)) ∙ u in
          record {
            backed = b;
            among = (zero, omega arith, refl);
            known = h.0;
            one = elim (or-cases (eqb b.pair.stored.opening n) _ is) [
              | inl v ↦ inl (same-of b.pair.stored.opening n v)
              | inr v ↦ inr (has-two (h.0.facts.first ∷ h.0.facts.more) n v)
            ];
          }
      | inr u ↦
          let it = listed l bs n legal h.1 u in
          record { backed = it.backed; among = contains-later b bs it.backed it.among; known = it.known; one = it.one }
    ]

has-numbers : (bs : List Backed) (b : Backed) (n : ℕ) → Contains bs b → has b.numbers n ≡ true → has (carried_numbers bs) n ≡ true
has-numbers [] b n h e = absurd (contains-none b h)
has-numbers (c ∷ bs) b n h e =
    elim (first-or-later c bs b h) [
      | inl u ↦ has-append c.numbers (carried_numbers bs) n ∙ or_left (has c.numbers n) _ (ap (λ (b : Backed). has b.numbers n) u ∙ e)
      | inr u ↦ has-append c.numbers (carried_numbers bs) n ∙ or_right (has c.numbers n) _ (has-numbers bs b n u e)
    ]

module _ (l : List Noted) (bs : List Backed) (b : Backed) (legal : Legal l) (among : Contains bs b) (h : BackedFacts l b) where
  pub opening-listed : has (carried_numbers bs) b.pair.stored.opening ≡ true
  opening-listed =
      has-numbers bs b b.pair.stored.opening among
      (ap (λ (ns : List ℕ). has ns b.pair.stored.opening) (numbers-are l b legal h)
      ∙ or_left (eqb b.pair.stored.opening b.pair.stored.opening) _ (eqb-itself b.pair.stored.opening))

  pub reply-listed : (r : Reply) → Contains (h.facts.first ∷ h.facts.more) r
      → (has (carried_numbers bs) r.sending ≡ true) × (has (carried_numbers bs) r.number ≡ true)
  reply-listed r has_it =
      let two = two-has (h.facts.first ∷ h.facts.more) r has_it in (
        has-numbers bs b r.sending among
            (ap (λ (ns : List ℕ). has ns r.sending) (numbers-are l b legal h) ∙ or_right (eqb b.pair.stored.opening r.sending) _ two.0),
        has-numbers bs b r.number among
            (ap (λ (ns : List ℕ). has ns r.number) (numbers-are l b legal h) ∙ or_right (eqb b.pair.stored.opening r.number) _ two.1),
      )
