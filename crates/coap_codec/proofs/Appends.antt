-- What the writers append is the spelling.
use Rattle.std.proofs.Common.{◌≡◌, ℕ, zero, suc, ◌≤◌, ◌<◌, ◌+◌, ◌-◌, ◌*◌, ◌/◌, ◌%◌, List, [], ◌∷◌, ◌++◌, length, drop, get_or, add-one, refl, sym, ap, subst, ◌∙◌, append_assoc, arith, inl, inr}
use Rattle.std.proofs.lemmas.List.{append-nil, drop_all}
use Rattle.std.proofs.lemmas.Bool.{cases_lt, lt-ltb, le-ltb}
use Rattle.std.specs.List.{AllByRecursion}
use Rattle.coap_codec.specs.declared.opt.Opt.{Opt}
use Rattle.coap_codec.specs.Spelling.{Entry, Content, entry, entries, StandsFor, SpellsOption, SpellsOptions, SpellsPayload, Spells}
use Rattle.coap_codec.specs.Writing.{IsInOrder, IsShort, IsEncodable, IsInRange, nibble, more, AppendsOption, AppendsOptions, head_text, payload_text}

nibble_stands : (n : ℕ) → StandsFor (nibble n) (more n) n
nibble_stands n =
    elim (cases_lt n 13) [
      | inl small ↦ rw (lt-ltb n 13 small) (small, refl)
      | inr large ↦ elim (cases_lt n 269) [
        | inl middle ↦ rw (le-ltb n 13 large, lt-ltb n 269 middle) (refl, omega arith, omega arith)
        | inr huge ↦ rw (le-ltb n 13 large, le-ltb n 269 huge) (refl, omega arith, omega arith)
      ]
    ]

pub option_spelled : (before : ℕ) (o : Entry) → before ≤ o.number → o.number < 65536 → SpellsOption before o ((16 * nibble (o.number - before) + nibble (length o.value)) ∷ more (o.number - before) ++ more (length o.value) ++ o.value)
option_spelled before o order fits = record {
  delta = o.number - before;
  delta_nibble = nibble (o.number - before);
  delta_more = more (o.number - before);
  length_nibble = nibble (length o.value);
  length_more = more (length o.value);
  number = omega arith;
  in_range = fits;
  delta_is = nibble_stands (o.number - before);
  length_is = nibble_stands (length o.value);
  whole = refl;
}

-- some options are written, and what spells the others completes them
pub record Wrote (all : List Entry) (before : ℕ) (others : List Entry) (old new : List ℕ) : Type 0 where
  pub text : List ℕ
  pub is : new ≡ old ++ text
  pub completes : (tail : List ℕ) → SpellsOptions before others tail → SpellsOptions 0 all (text ++ tail)
  pub in_order : IsInOrder before others
  pub short : AllByRecursion IsShort others

pub writes_more : (all : List Entry) (before : ℕ) (o : Entry) (others : List Entry) (old new newer : List ℕ) → Wrote all before (o ∷ others) old new → AppendsOption before o new newer → Wrote all o.number others old newer
writes_more all before o others old new newer w a = record {
  text = w.text ++ a.0;
  is = a.1 ∙ ap (λ (x : List ℕ). x ++ a.0) w.is ∙ append_assoc old w.text a.0;
  completes = λ tail s. subst (SpellsOptions 0 all) (sym (append_assoc w.text a.0 tail)) (w.completes (a.0 ++ tail) (a.0, tail, refl, a.2, s));
  in_order = w.in_order.1;
  short = w.short.1;
}

pub wrote_all : (all : List Entry) (before : ℕ) (old new : List ℕ) → Wrote all before [] old new → AppendsOptions all old new
wrote_all all before old new w = (w.text, w.is, subst (SpellsOptions 0 all) (append-nil w.text) (w.completes [] refl))

pub four_parts : (old a b c d x1 x2 x3 x4 : List ℕ) → x1 ≡ old ++ a → x2 ≡ x1 ++ b → x3 ≡ x2 ++ c → x4 ≡ x3 ++ d → x4 ≡ old ++ (a ++ (b ++ c ++ d))
four_parts old a b c d x1 x2 x3 x4 e1 e2 e3 e4 = rw (e4, e3, e2, e1) (simp append_assoc)

pub next_entry : (options : List Opt) (i : ℕ) (o : Opt) → i < length options → o ≡ get_or options i o → entries (drop i options) ≡ entry o ∷ entries (drop (suc i) options)
next_entry [] i o lt e = absurd (omega arith)
next_entry (x ∷ xs) zero o lt e = ap (λ (y : Opt). entry y ∷ entries xs) (sym e)
next_entry (x ∷ xs) (suc i) o lt e = next_entry xs i o (omega arith) e

pub writes_entry : (options : List Opt) (i before : ℕ) (o : Opt) (old new newer : List ℕ) → i < length options → o ≡ get_or options i o → Wrote (entries options) before (entries (drop i options)) old new → AppendsOption before (entry o) new newer
    → Wrote (entries options) o.number (entries (drop (i + 1) options)) old newer
writes_entry options i before o old new newer lt e w a =
    let w' : Wrote (entries options) before (entry o ∷ entries (drop (suc i) options)) old new = rw (next_entry options i o lt e) at w in
    rw add-one (writes_more (entries options) before (entry o) (entries (drop (suc i) options)) old new newer w' a)

pub wrote_entries : (options : List Opt) (i before : ℕ) (old new : List ℕ) → length options ≤ i → Wrote (entries options) before (entries (drop i options)) old new → AppendsOptions (entries options) old new
wrote_entries options i before old new le w =
    let none : drop i options ≡ [] = drop_all i options le in
    let w' : Wrote (entries options) before [] old new = subst (λ (r : List Opt). Wrote (entries options) before (entries r) old new) none w in
    wrote_all (entries options) before old new w'

payload_spelled : (payload : List ℕ) → SpellsPayload payload (payload_text payload)
payload_spelled [] = refl
payload_spelled (p ∷ ps) = refl

-- what encode wrote
pub is_spelled : (m : Content) (x1 x2 x3 : List ℕ) → IsEncodable m → length m.token ≤ 8 → m.mid < 65536 → x1 ≡ head_text m → AppendsOptions m.options x1 x2 → x3 ≡ x2 ++ payload_text m.payload → Spells m x3
is_spelled m x1 x2 x3 can short mid e1 a e3 = record {
  options = a.0;
  payload = payload_text m.payload;
  mid_high = m.mid / 256;
  mid_low = m.mid % 256;
  short_token = short;
  mid = omega arith;
  mid_low_is_byte = omega arith;
  options_are = a.2;
  payload_is = payload_spelled m.payload;
  nothing_else = can.nothing_else;
  whole = rw (e3, a.1, e1) refl;
}

-- ---- what may be encoded has a spelling

options_spelled : (before : ℕ) (os : List Entry) → IsInOrder before os → AllByRecursion (λ o. o.number < 65536) os → (text : List ℕ) × SpellsOptions before os text
options_spelled before [] order range = ([], refl)
options_spelled before (o ∷ os) order range =
    let others = options_spelled o.number os order.1 range.1 in
    (_, (_, others.0, refl, option_spelled before o order.0 range.0, others.1))

pub encodable_spelled : (m : Content) → IsEncodable m → IsInRange m → (bytes : List ℕ) × Spells m bytes
encodable_spelled m can range =
    let options = options_spelled 0 m.options can.in_order range.numbers in
    (_, is_spelled m (head_text m) (head_text m ++ options.0) (head_text m ++ options.0 ++ payload_text m.payload) can range.token range.mid refl (options.0, refl, options.1) refl)
