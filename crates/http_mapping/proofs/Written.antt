-- A response can be read off its bytes: a status line, the lines of fields, and a body.
use Rattle.std.proofs.Common.{◌≡◌, ℕ, ◌+◌, ◌^◌, ◌<◌, ◌≤◌, List, [], ◌∷◌, ◌++◌, map, length, codes, decimal, refl, sym, ap, ◌∙◌, append_assoc, subst, arith, Bool, true, false, if◌then◌else◌, Result, Ok, Err, OnOk}
use Rattle.std.proofs.lemmas.List.{length-append, append-nil}
use Rattle.std.proofs.lemmas.List.Concat.{flat_map-append}
use Rattle.std.specs.List.{flat_map}
use Rattle.std.specs.declared.alloc.Global.{Global}
use Rattle.std.specs.declared.vec.Vec.{Vec}
use Rattle.http_edge.specs.Answers.{body_bytes, field_line, answer_text}
use Rattle.http_edge.specs.declared.answer.Field.{Field}
use Rattle.http_edge.specs.declared.answer.Body.TheVariants.{Owned}
use Rattle.http_edge.specs.declared.answer.HttpAnswer.{HttpAnswer}
use Rattle.code_map.specs.declared.status.Status.{Status}
use Rattle.code_map.specs.Statuses.{number_of, phrase_of}
use Rattle.ask_model.specs.declared.cause.Cause.{Cause}
use Rattle.ask_model.specs.Causes.{cause_text}
use Rattle.ask_model.specs.Requests.{Came}
use Rattle.ask_model.specs.Views.{Mapping}
use Rattle.history_laws.specs.Responses.{Response}
use Rattle.http_mapping.specs.Located.{located}
use Rattle.http_mapping.specs.Means.{Pairs, pair_of, only, IsOwn, told_status, status_for, caching, value_if, retry_after, connection, content_length, is_head}
use Rattle.http_mapping.specs.Writes.{line, lines, Adds, first_line, WritesShown, WritesOwn}

-- a fact of what a call left, said as lines that it added
pub then_adds : {A E : Type 0} (r : Result A E) (s t u : List ℕ) (pairs : Pairs) → OnOk r (t ≡ u) → u ++ codes "\r\n" ≡ s ++ codes "\r\n" ++ lines pairs → OnOk r (Adds s t pairs)
then_adds (Ok a) s t u pairs h e = ap (λ (x : List ℕ). x ++ codes "\r\n") h ∙ e
then_adds (Err f) s t u pairs h e = tt

-- lines, and behind them more
pub adds_more : (s t u : List ℕ) (p q : Pairs) → Adds s t p → Adds t u q → Adds s u (p ++ q)
adds_more s t u p q one more =
    more ∙ ap (λ (x : List ℕ). x ++ lines q) one ∙ append_assoc (s ++ codes "\r\n") (lines p) (lines q)
    ∙ ap (λ (x : List ℕ). s ++ codes "\r\n" ++ x) (sym (flat_map-append line p q))

pub then_more : {A E : Type 0} (r : Result A E) (s t u : List ℕ) (p q : Pairs) → Adds s t p → OnOk r (Adds t u q) → OnOk r (Adds s u (p ++ q))
then_more (Ok a) s t u p q one more = adds_more s t u p q one more
then_more (Err f) s t u p q one more = tt

behind : (s front value : List ℕ) → s ++ front ++ value ++ codes "\r\n" ≡ s ++ (front ++ value ++ codes "\r\n")
behind s front value = ap (λ (t : List ℕ). t ++ codes "\r\n") (append_assoc s front value) ∙ append_assoc s (front ++ value) (codes "\r\n")

-- a line by itself
pub one_line : (s front value name : List ℕ) → front ≡ codes "\r\n" ++ name ++ codes ": "
    → s ++ front ++ value ++ codes "\r\n" ≡ s ++ codes "\r\n" ++ lines (only name value)
one_line s front value name e =
    behind s front value
    ∙ ap (λ (f : List ℕ). s ++ (f ++ value ++ codes "\r\n")) e
    ∙ sym (append_assoc s (codes "\r\n") (line (name, value)))
    ∙ ap (λ (t : List ℕ). s ++ codes "\r\n" ++ t) (sym (append-nil (line (name, value))))

pub number_line : (s front digits name text : List ℕ) → front ≡ codes "\r\n" ++ name ++ codes ": " ++ text
    → s ++ front ++ digits ++ codes "\r\n" ≡ s ++ codes "\r\n" ++ lines (only name (text ++ digits))
number_line s front digits name text e =
    behind s front digits
    ∙ ap (λ (f : List ℕ). s ++ (f ++ digits ++ codes "\r\n")) e
    ∙ sym (append_assoc s (codes "\r\n") (name ++ codes ": " ++ text ++ digits ++ codes "\r\n"))
    ∙ ap (λ (t : List ℕ). s ++ codes "\r\n" ++ (t ++ codes "\r\n")) (append_assoc (name ++ codes ": ") text digits)
    ∙ ap (λ (t : List ℕ). s ++ codes "\r\n" ++ t) (sym (append-nil (line (name, text ++ digits))))

-- the lines of three rules
pub three_added : (a b c : Pairs) (s t1 t2 t3 : List ℕ) → Adds s t1 a → Adds t1 t2 b → Adds t2 t3 c → Adds s t3 (a ++ b ++ c)
three_added a b c s t1 t2 t3 h1 h2 h3 = adds_more s t2 t3 (a ++ b) c (adds_more s t1 t2 a b h1 h2) h3

-- the lines of six rules
pub six_added : (a b c d e f : Pairs) (s t1 t2 t3 t4 t5 t6 : List ℕ) → Adds s t1 a → Adds t1 t2 b → Adds t2 t3 c → Adds t3 t4 d → Adds t4 t5 e → Adds t5 t6 f
    → Adds s t6 (a ++ b ++ c ++ d ++ e ++ f)
six_added a b c d e f s t1 t2 t3 t4 t5 t6 h1 h2 h3 h4 h5 h6 =
    let three = three_added a b c s t1 t2 t3 h1 h2 h3 in
    let four = adds_more s t3 t4 (a ++ b ++ c) d three h4 in
    let five = adds_more s t4 t5 (a ++ b ++ c ++ d) e four h5 in
    adds_more s t5 t6 (a ++ b ++ c ++ d ++ e) f five h6

-- a status line, the lines of fields, and what stands behind the head
pub all_added : (status : Status) (pairs : Pairs) (begun head out body : List ℕ) → begun ++ codes "\r\n" ≡ first_line status → Adds begun head pairs
    → out ≡ head ++ codes "\r\n" ++ codes "\r\n" ++ body → out ≡ first_line status ++ lines pairs ++ codes "\r\n" ++ body
all_added status pairs begun head out body start more is =
    is ∙ ap (λ (t : List ℕ). t ++ codes "\r\n" ++ body) (more ∙ ap (λ (t : List ℕ). t ++ lines pairs) start)

-- values of these items; where they lie is told of none
abbrev vec_with : {X : Type 0} → Vec ℕ Global → (items : List X) → length items < 2 ^ 63 → Vec X Global
vec_with like items small = record { ptr = like.ptr; len = length items; cap = length items; alloc = like.alloc; items = items; ok = (refl, omega arith); small = small }

abbrev field_with : Vec ℕ Global → (name value : List ℕ) → length value < 2 ^ 63 → Field
field_with like name value small = record { name = record { ref_ptr = (0, 0); now = name }; value = vec_with like value small }

record Fielded (pairs : Pairs) : Type 0 where
  fields : List Field
  are : map pair_of fields ≡ pairs
  written : flat_map field_line fields ≡ lines pairs
  few : length fields ≤ length (lines pairs)

fielded : Vec ℕ Global → (pairs : Pairs) → length (lines pairs) < 2 ^ 63 → Fielded pairs
fielded like [] small = record { fields = []; are = refl; written = refl; few = omega arith }
fielded like ((name, value) ∷ pairs) small =
    let one : length (line (name, value)) ≡ length name + length (codes ": ") + length value + length (codes "\r\n") =
    length-append (name ++ codes ": " ++ value) (codes "\r\n")
    ∙ ap (λ (n : ℕ). n + length (codes "\r\n")) (length-append (name ++ codes ": ") value ∙ ap (λ (n : ℕ). n + length value) (length-append name (codes ": "))) in
    let all : length (lines ((name, value) ∷ pairs)) ≡ length (line (name, value)) + length (lines pairs) = length-append (line (name, value)) (lines pairs) in
    let colon : length (codes ": ") ≡ 2 = refl in
    let rest : Fielded pairs = fielded like pairs (omega (arith, small, all)) in
    let few = rest.few in
    record {
      fields = field_with like name value (omega (arith, small, all, one)) ∷ rest.fields;
      are = ap (λ (ps : Pairs). (name, value) ∷ ps) rest.are;
      written = ap (λ (t : List ℕ). line (name, value) ++ t) rest.written;
      few = omega (arith, few, all, one, colon);
    }

record Answered (status : Status) (pairs : Pairs) (body bytes : List ℕ) : Type 0 where
  answer : HttpAnswer
  number : answer.status ≡ number_of status
  phrase : answer.phrase.now ≡ phrase_of status
  fields : map pair_of answer.fields.items ≡ pairs
  shown : body_bytes answer.body ≡ body
  text : bytes ≡ answer_text answer

answered : (out : Vec ℕ Global) (status : Status) (pairs : Pairs) (body : List ℕ) → out.items ≡ first_line status ++ lines pairs ++ codes "\r\n" ++ body
    → Answered status pairs body out.items
answered out status pairs body is =
    let all : length out.items ≡ length (first_line status) + length (lines pairs) + length (codes "\r\n") + length body =
    ap (λ (t : List ℕ). length t) is
    ∙ length-append (first_line status ++ lines pairs ++ codes "\r\n") body
    ∙ ap (λ (n : ℕ). n + length body) (length-append (first_line status ++ lines pairs) (codes "\r\n")
    ∙ ap (λ (n : ℕ). n + length (codes "\r\n")) (length-append (first_line status) (lines pairs))) in
    let len = out.ok.0 in
    let within = out.ok.1 in
    let small = out.small in
    let f : Fielded pairs = fielded out pairs (omega (arith, all, len, within, small)) in
    let few = f.few in
    record {
      answer = record {
        status = number_of status;
        phrase = record { ref_ptr = (0, 0); now = phrase_of status };
        fields = vec_with out f.fields (omega (arith, all, len, within, small, few));
        body = Owned (vec_with out body (omega (arith, all, len, within, small)));
      };
      number = refl;
      phrase = refl;
      fields = f.are;
      shown = refl;
      text = is ∙ ap (λ (t : List ℕ). first_line status ++ t ++ codes "\r\n" ++ body) (sym f.written);
    }

-- The bytes that show a response are those of an answer that shows it.
pub shown : (m : Mapping) (w : Response) (typing : Pairs) (body : List ℕ) (age : ℕ) (out : Vec ℕ Global)
    → out.items ≡ first_line (status_for w)
    ++ lines (typing ++ caching m.came w age ++ value_if (codes "Location") (located m.rules m.sense w) ++ retry_after w ++ connection m.came ++ content_length (status_for w) (length body))
    ++ codes "\r\n" ++ (if is_head m.came then [] else body)
    → WritesShown m w typing body age out.items
shown m w typing body age out is =
    let a = answered out (status_for w) _ _ is in
    record { answer = a.answer; shows = record { status = a.number; phrase = a.phrase; fields = a.fields; shown = a.shown }; text = a.text }

-- the same, of a status and of what came that are the response's
pub shown_so : (m : Mapping) (w : Response) (typing : Pairs) (body : List ℕ) (age : ℕ) (out : Vec ℕ Global) (status : Status) (came : Came)
    → status ≡ status_for w → came ≡ m.came
    → out.items ≡ first_line status
    ++ lines (typing ++ caching came w age ++ value_if (codes "Location") (located m.rules m.sense w) ++ retry_after w ++ connection came ++ content_length status (length body))
    ++ codes "\r\n" ++ (if is_head came then [] else body)
    → WritesShown m w typing body age out.items
shown_so m w typing body age out status came is_status is_came is =
    let location = value_if (codes "Location") (located m.rules m.sense w) in
    let so = subst (λ (s : Status). out.items ≡ first_line s
    ++ lines (typing ++ caching came w age ++ location ++ retry_after w ++ connection came ++ content_length s (length body))
    ++ codes "\r\n" ++ (if is_head came then [] else body)) is_status is in
    shown m w typing body age out (subst (λ (k : Came). out.items ≡ first_line (status_for w)
    ++ lines (typing ++ caching k w age ++ location ++ retry_after w ++ connection k ++ content_length (status_for w) (length body))
    ++ codes "\r\n" ++ (if is_head k then [] else body)) is_came so)

whichever : (b : Bool) (x : List ℕ) → (if b then x else x) ≡ x
whichever true x = refl
whichever false x = refl

-- The bytes that tell a cause are those of an answer of the proxy's own.
pub told_so : (m : Mapping) (cause : Cause) (number : ℕ) (out : Vec ℕ Global) (status : Status) (came : Came)
    → IsOwn (told_status m.sense cause) status → came ≡ m.came
    → out.items ≡ first_line status
    ++ lines (only (codes "HC-Cause") (cause_text cause ++ codes " " ++ decimal number) ++ connection came ++ content_length status 0)
    ++ codes "\r\n" ++ (if is_head came then [] else [])
    → WritesOwn m cause number out.items
told_so m cause number out status came own is_came is =
    let front = only (codes "HC-Cause") (cause_text cause ++ codes " " ++ decimal number) in
    let bare = is ∙ ap (λ (t : List ℕ). first_line status ++ lines (front ++ connection came ++ content_length status 0) ++ codes "\r\n" ++ t) (whichever (is_head came) []) in
    let so = subst (λ (k : Came). out.items ≡ first_line status ++ lines (front ++ connection k ++ content_length status 0) ++ codes "\r\n" ++ []) is_came bare in
    let a = answered out status _ [] so in
    record {
      answer = a.answer;
      tells = record { told = status; is_own = own; status = a.number; phrase = a.phrase; fields = a.fields; body = a.shown };
      text = a.text;
    }
