-- Options that are written one after the other are spelled together, and with a head and a payload they are a message.
use Rattle.std.proofs.Common.{◌≡◌, ◌≢◌, ℕ, zero, suc, ◌+◌, ◌*◌, ◌/◌, ◌%◌, ◌≤◌, ◌<◌, true, List, [], ◌∷◌, ◌++◌, length, drop, get_or, Option, Some, None, Result, Ok, Err, IfOk, OnOk, refl, sym, ap, subst, ◌∙◌, append_assoc, add-one, arith}
use Rattle.std.proofs.lemmas.List.{append-nil, drop_all}
use Rattle.std.specs.List.{AllByRecursion}
use Rattle.coap_codec.specs.declared.message.MsgType.TheVariants.{Con}
use Rattle.coap_codec.specs.Spelling.{Entry, Content, Spells, SpellsOptions, SpellsPayload}
use Rattle.coap_codec.specs.Writing.{AppendsOption, IsShort, head_of, payload_text}
use Rattle.std.specs.declared.alloc.AllocError.{AllocError}
use Rattle.uri_map.specs.declared.target.Target.{Target}
use Rattle.uri_map.specs.Limits.{options_with, option_with}
use Rattle.ask_model.specs.Requests.{optional}
use Rattle.ask_model.specs.Written.{AreAppended, last_number, resource_options}

spelled_both : (before : ℕ) (os others : List Entry) (text more : List ℕ) → SpellsOptions before os text → SpellsOptions (last_number before os) others more → SpellsOptions before (os ++ others) (text ++ more)
spelled_both before [] others text more s t = rw s t
spelled_both before (o ∷ os) others text more s t =
    (s.0, s.1 ++ more, ap (λ (x : List ℕ). x ++ more) s.2 ∙ append_assoc s.0 s.1 more, s.3, spelled_both o.number os others s.1 more s.4 t)

last_of_both : (before : ℕ) (os others : List Entry) → last_number before (os ++ others) ≡ last_number (last_number before os) others
last_of_both before [] others = refl
last_of_both before (o ∷ os) others = last_of_both o.number os others

pub both : {before middle last : ℕ} {os others : List Entry} {x y z : List ℕ} → AreAppended before os middle x y → AreAppended middle others last y z → AreAppended before (os ++ others) last x z
both {before} {middle} {last} {os} {others} {x} {y} {z} a b = record {
  text = a.text ++ b.text;
  is = b.is ∙ ap (λ (v : List ℕ). v ++ b.text) a.is ∙ append_assoc x a.text b.text;
  spelled = spelled_both before os others a.text b.text a.spelled (subst (λ (n : ℕ). SpellsOptions n others b.text) (sym a.ends) b.spelled);
  ends = last_of_both before os others ∙ ap (λ (n : ℕ). last_number n others) a.ends ∙ b.ends;
}

pub one : {before : ℕ} (o : Entry) {x y : List ℕ} → AppendsOption before o x y → AreAppended before (o ∷ []) o.number x y
one {before} o {x} {y} a = record { text = a.0; is = a.1; spelled = (a.0, [], sym (append-nil a.0), a.2, refl); ends = refl }

-- what is written after that, if it is
pub behind : (before middle : ℕ) (os others : List Entry) (x y z : List ℕ) (r : Result ℕ AllocError) → AreAppended before os middle x y → IfOk r (λ last. AreAppended middle others last y z) → IfOk r (λ last. AreAppended before (os ++ others) last x z)
behind before middle os others x y z (Ok last) a b = both a b
behind before middle os others x y z (Err e) a b = tt

pub resource_written : (t : Target) (format accept f a : Option ℕ) (path query : List (List ℕ)) (before p k q : ℕ) (x y1 y2 y3 z : List ℕ) (r : Result ℕ AllocError) → path ≡ t.path → f ≡ format → query ≡ t.query → a ≡ accept
    → AreAppended before (options_with 11 path) p x y1 → AreAppended p (optional 12 f) k y1 y2 → AreAppended k (options_with 15 query) q y2 y3 → IfOk r (λ last. AreAppended q (optional 17 a) last y3 z)
    → IfOk r (λ last. AreAppended before (resource_options t format accept) last x z)
resource_written t format accept f a path query before p k q x y1 y2 y3 z r e1 e2 e3 e4 w1 w2 w3 w4 =
    rw (← e1, ← e2, ← e3, ← e4)
    (behind before p (options_with 11 path) (optional 12 f ++ (options_with 15 query ++ optional 17 a)) x y1 z r w1
    (behind p k (optional 12 f) (options_with 15 query ++ optional 17 a) y1 y2 z r w2
    (behind k q (options_with 15 query) (optional 17 a) y2 y3 z r w3 w4)))

pub same_value : (before number : ℕ) (v w x y : List ℕ) (r : Result (Unit {0}) AllocError) → OnOk r (AppendsOption before (record { number = number; value = v }) x y) → v ≡ w → OnOk r (AppendsOption before (option_with number w) x y)
same_value before number v w x y r h e = subst (λ (u : List ℕ). OnOk r (AppendsOption before (option_with number u) x y)) e h

-- some texts are written as options of one number, and others are left
pub record Appends (first number : ℕ) (all : List Entry) (before : ℕ) (others : List (List ℕ)) (old new : List ℕ) : Type 0 where
  pub text : List ℕ
  pub is : new ≡ old ++ text
  pub completes : (tail : List ℕ) → SpellsOptions before (options_with number others) tail → SpellsOptions first all (text ++ tail)
  pub ends : last_number first all ≡ last_number before (options_with number others)
  pub low : before ≤ number
  pub short : AllByRecursion IsShort (options_with number others)

next_text : (texts : List (List ℕ)) (i : ℕ) (t : List ℕ) → i < length texts → t ≡ get_or texts i t → drop i texts ≡ t ∷ drop (suc i) texts
next_text [] i t lt e = absurd (omega arith)
next_text (x ∷ xs) zero t lt e = ap (λ (y : List ℕ). y ∷ xs) (sym e)
next_text (x ∷ xs) (suc i) t lt e = next_text xs i t (omega arith) e

appends_more : (first number : ℕ) (all : List Entry) (before : ℕ) (t : List ℕ) (others : List (List ℕ)) (old new newer : List ℕ) → Appends first number all before (t ∷ others) old new → AppendsOption before (option_with number t) new newer → Appends first number all number others old newer
appends_more first number all before t others old new newer w a = record {
  text = w.text ++ a.0;
  is = a.1 ∙ ap (λ (x : List ℕ). x ++ a.0) w.is ∙ append_assoc old w.text a.0;
  completes = λ tail s. subst (SpellsOptions first all) (sym (append_assoc w.text a.0 tail)) (w.completes (a.0 ++ tail) (a.0, tail, refl, a.2, s));
  ends = w.ends;
  low = omega arith;
  short = w.short.1;
}

pub appends_text : (first number : ℕ) (all : List Entry) (before : ℕ) (texts : List (List ℕ)) (i : ℕ) (t old new newer : List ℕ) → i < length texts → t ≡ get_or texts i t → Appends first number all before (drop i texts) old new → AppendsOption before (option_with number t) new newer → Appends first number all number (drop (i + 1) texts) old newer
appends_text first number all before texts i t old new newer lt e w a =
    let w' : Appends first number all before (t ∷ drop (suc i) texts) old new = subst (λ (r : List (List ℕ)). Appends first number all before r old new) (next_text texts i t lt e) w in
    rw add-one (appends_more first number all before t (drop (suc i) texts) old new newer w' a)

pub appended_all : (first number : ℕ) (texts : List (List ℕ)) (before i : ℕ) (old new : List ℕ) → length texts ≤ i → Appends first number (options_with number texts) before (drop i texts) old new → AreAppended first (options_with number texts) before old new
appended_all first number texts before i old new le w =
    let all = options_with number texts in
    let w' : Appends first number all before [] old new = subst (λ (r : List (List ℕ)). Appends first number all before r old new) (drop_all i texts le) w in
    record {
      text = w'.text;
      is = w'.is;
      spelled = subst (SpellsOptions first all) (append-nil w'.text) (w'.completes [] refl);
      ends = w'.ends;
    }

spelled_payload : (payload : List ℕ) → SpellsPayload payload (payload_text payload)
spelled_payload [] = refl
spelled_payload (p ∷ ps) = refl

-- the whole message
pub written_whole : (code mid : ℕ) (token : List ℕ) (os : List Entry) (last : ℕ) (payload x1 x2 x3 : List ℕ) → code ≢ 0 → length token ≤ 8 → mid < 65536 → x1 ≡ head_of Con code mid token → AreAppended 0 os last x1 x2 → x3 ≡ x2 ++ payload_text payload
    → Spells (record { kind = Con; code = code; mid = mid; token = token; options = os; payload = payload }) x3
written_whole code mid token os last payload x1 x2 x3 some short small e1 a e3 = record {
  options = a.text;
  payload = payload_text payload;
  mid_high = mid / 256;
  mid_low = mid % 256;
  short_token = short;
  mid = omega arith;
  mid_low_is_byte = omega arith;
  options_are = a.spelled;
  payload_is = spelled_payload payload;
  nothing_else = λ zero. absurd (some zero);
  whole = rw (e3, a.is, e1) refl;
}
