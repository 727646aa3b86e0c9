-- Asks that are answered in their own step.
use Rattle.std.proofs.Common.{◌≡◌, ℕ, suc, ◌+◌, Bool, true, false, cond, List, [], ◌∷◌, ◌++◌, length, slice_get, Some, refl, sym, ap, subst, ◌∙◌, arith}
use Rattle.ask_model.specs.declared.cause.Cause.{Cause}
use Rattle.ask_model.specs.Views.{Mapping, Ask}
use Rattle.journal_book.specs.Entries.{Grounds, Fault, Deed, Asks, Answers, Written}
use Rattle.journal_book.specs.Views.{ask_of}
use Rattle.observe_share.specs.declared.registration.Registration.{Registration}
use Rattle.exchange_model.specs.State.{State}
use Rattle.exchange_model.specs.Watching.{touched}
use Rattle.exchange_model.specs.Entering.{refusal_deeds, entered_all}
use Rattle.exchange_model.specs.Steps.{seals}
use Rattle.exchange_model.specs.Hearing.{Numbers}
use Rattle.exchange_model.specs.Calls.{asked}
use Rattle.exchange_model.specs.Room.{fits}
use Rattle.exchange_model.specs.Sealing.{in_room, asks_in_room}
use Rattle.exchange_core.proofs.Stepping.{entered-entries}
use Rattle.exchange_core.specs.Values.{written}
use Rattle.exchange_core.specs.Answering.{IsGiven}
use Rattle.exchange_core.specs.Drafts.{DraftValue, Drafts, IsDrafted}
use Rattle.exchange_core.specs.States.{refusal_given}
use Rattle.std.specs.List.{AllByRecursion}

pub answer-drafted : (t c n : ℕ) (S : State) (m m1 : Mapping) (g h : Grounds) (d0 d1 d2 : DraftValue)
    → n ≡ length S.entries → m1 ≡ m → g ≡ h → Drafts t S [] d0
    → (Drafts t S [] d0 → Drafts t S (Asks c (ask_of m1) ∷ []) d1)
    → (n + 1 ≡ d1.next → Drafts t S (Asks c (ask_of m1) ∷ []) d1 → Drafts t S (Asks c (ask_of m1) ∷ Answers c n g ∷ []) d2)
    → Drafts t S (Asks c (ask_of m) ∷ Answers c (length S.entries) h ∷ []) d2
answer-drafted t c n S m m1 g h d0 d1 d2 len same grounds none one two =
    let a = one none in
    let next : n + 1 ≡ d1.next = let k = a.next in omega (arith, k, len) in
    let b = two next a in
    let whole : Asks c (ask_of m1) ∷ Answers c n g ∷ [] ≡ Asks c (ask_of m) ∷ Answers c (length S.entries) h ∷ [] = rw (same, grounds, len) refl in
    subst (λ (ds : List Deed). Drafts t S ds d2) whole b

pub refusal-drafted : (t c n : ℕ) (S : State) (m m1 : Mapping) (cause : Cause) (g : Grounds) (d0 d1 d2 : DraftValue)
    → n ≡ length S.entries → m1 ≡ m → g ≡ Fault cause n → Drafts t S [] d0
    → (Drafts t S [] d0 → Drafts t S (Asks c (ask_of m1) ∷ []) d1)
    → (n + 1 ≡ d1.next → Drafts t S (Asks c (ask_of m1) ∷ []) d1 → Drafts t S (Asks c (ask_of m1) ∷ Answers c n g ∷ []) d2)
    → Drafts t S (refusal_deeds c (ask_of m) cause S) d2
refusal-drafted t c n S m m1 cause g d0 d1 d2 len same grounds none one two =
    answer-drafted t c n S m m1 g (Fault cause (length S.entries)) d0 d1 d2 len same (grounds ∙ ap (Fault cause) len) none one two

-- an ask in its room

pub cond-false : (b : Bool) (x y : State) → b ≡ false → cond b x y ≡ y
cond-false true x y e = absurd cc
cond-false false x y e = refl

pub cond-true : (b : Bool) (x y : State) → b ≡ true → cond b x y ≡ x
cond-true true x y e = refl
cond-true false x y e = absurd cc

pub asks-entered : (t c : ℕ) (a : Ask) (n : Numbers) (S U : State) → S.sealed ≡ false → asked t c a n S ≡ U → fits U ≡ true → asks_in_room t c a n S ≡ U
asks-entered t c a n S U unsealed is fit =
    cond-false S.sealed S (in_room t (asked t c a n S) S) unsealed
    ∙ (ap (λ (V : State). in_room t V S) is ∙ cond-true (fits U) U (seals t S) fit)

pub asks-sealed : (t c : ℕ) (a : Ask) (n : Numbers) (S U : State) → S.sealed ≡ false → asked t c a n S ≡ U → fits U ≡ false → asks_in_room t c a n S ≡ seals t S
asks-sealed t c a n S U unsealed is fit =
    cond-false S.sealed S (in_room t (asked t c a n S) S) unsealed
    ∙ (ap (λ (V : State). in_room t V S) is ∙ cond-false (fits U) U (seals t S) fit)

-- the answer stands in the journal

pub refusal-there : (xs : List Written) (u v : Written) → (slice_get (xs ++ u ∷ v ∷ []) (length xs) ≡ Some u) × (slice_get (xs ++ u ∷ v ∷ []) (length xs + 1) ≡ Some v)
refusal-there [] u v = (refl, refl)
refusal-there (x ∷ xs) u v =
    let ih = refusal-there xs u v in
    let e : suc (length xs) + 1 ≡ suc (length xs + 1) = omega arith in
    (ih.0, subst (λ (k : ℕ). slice_get (x ∷ (xs ++ u ∷ v ∷ [])) k ≡ Some v) (sym e) ih.1)

refusal-given-stands : (t c : ℕ) (S : State) (m : Mapping) (cause : Cause)
    → IsGiven (entered_all t (refusal_deeds c (ask_of m) cause S) S).entries (refusal_given (length S.entries) t c m cause)
refusal-given-stands t c S m cause =
    let n = length S.entries in
    let there = refusal-there S.entries (written t (Asks c (ask_of m))) (written t (Answers c n (Fault cause n))) in
    let es = entered-entries t (refusal_deeds c (ask_of m) cause S) S in
    subst (λ (h : List Written). IsGiven h (refusal_given n t c m cause)) (sym es)
    (record { asked = t; ask_stands = there.0; stands = there.1; found = refl; format = tt; counts = refl })

pub refusal-so : (t c : ℕ) (S : State) (m : Mapping) (cause : Cause) (d : DraftValue) → Drafts t S (refusal_deeds c (ask_of m) cause S) d
    → d.answers ≡ refusal_given (length S.entries) t c m cause ∷ []
    → IsDrafted t S (refusal_deeds c (ask_of m) cause S) d
refusal-so t c S m cause d h answers =
    let ds = refusal_deeds c (ask_of m) cause S in
    let es : (entered_all t ds S).entries ≡ S.entries ++ d.entries = entered-entries t ds S ∙ ap (λ (ws : List Written). S.entries ++ ws) (sym h.entries) in
    record {
      drafts = h;
      given = subst (AllByRecursion (IsGiven (S.entries ++ d.entries))) (sym answers)
          (subst (λ (ws : List Written). IsGiven ws (refusal_given (length S.entries) t c m cause)) es (refusal-given-stands t c S m cause), tt);
    }

-- What is observed was asked for.
pub touched-after : (S1 W : State) (k m : Mapping) (t : ℕ) (rs : List Registration) → S1 ≡ W → rs ≡ touched t k.sense S1.watches → k ≡ m
    → record S1 { watches = rs } ≡ record W { watches = touched t m.sense W.watches }
touched-after S1 W k m t rs is noted same =
    ap (λ (xs : List Registration). record S1 { watches = xs }) (noted ∙ ap (λ (x : Mapping). touched t x.sense S1.watches) same)
    ∙ ap (λ (U : State). record U { watches = touched t m.sense U.watches }) is
