-- Whether messages are the pieces of a response and the 2.03 that renewed it.
use Rattle.std.proofs.Common.{◌≡◌, ◌↔◌, ◌⊎◌, inl, inr, ℕ, Bool, true, false, not, ◌&&◌, cond, eqb, IsTrue, List, [], ◌∷◌, ◌++◌, length, map, Option, Some, None, Result, IfOk, refl, sym, ap, subst, ◌∙◌, eqb-true, arith}
use Rattle.std.specs.Prelude.{is_some, slice_get, ◌-◌}
use Rattle.std.specs.List.{list_all}
use Rattle.std.proofs.lemmas.Bool.{and_parts, false≢true}
use Rattle.coap_codec.specs.Recognition.{is_final, is_forwardable}
use Rattle.std.proofs.lemmas.List.{map_push}
use Rattle.coap_codec.specs.Spelling.{Content, content}
use Rattle.coap_codec.specs.declared.message.Message.{Message}
use Rattle.blockwise.specs.Downloads.{given, nothing}
use Rattle.blockwise.specs.Uploads.{begun}
use Rattle.history_laws.specs.Responses.{Response, response_of, first_some, is_tellable, joined, last_of, whole_given}
use Rattle.reply_reading.specs.Findings.{Told, Tells, joined_all}
use Rattle.exchange_core.specs.Answering.{IsRenewal}
use Rattle.gateway_desk.specs.Shown.{IsRenewedBy, IsResponseBy, TellsRenewed, ends_valid, fetched_in}
use Rattle.gateway_desk.proofs.Outcomes.{if-same, some-same}
use Rattle.gateway_desk.proofs.Whole.{fetched-as}

none-some : (w : Response) → None ≡ Some w → ⊥
none-some w e = cc

first-same : (x y : Content) (xs ys : List Content) → x ∷ xs ≡ y ∷ ys → x ≡ y
first-same x y xs ys e = cc

rest-same : (x y : Content) (xs ys : List Content) → x ∷ xs ≡ y ∷ ys → xs ≡ ys
rest-same x y xs ys e = cc

empty-not : {x : Content} (xs : List Content) → [] ≡ x ∷ xs → ⊥
empty-not xs e = cc

flip : (b : Bool) → not b ≡ true → b ≡ false
flip true e = sym e
flip false e = refl

-- A 2.03 ends no request of itself (RFC 7252 section 5.9.1.3).
final-not : (m : Content) → is_final m ≡ true → eqb m.code 67 ≡ false
final-not m e =
    flip (eqb m.code 67)
    (and_parts (not (eqb m.code 67)) _ (and_parts _ (not (eqb m.code 67) && (not (eqb m.code 95) && not (eqb m.code 136))) e).1).0

last-tells : (m : Content) (ms : List Content) → list_all is_tellable (m ∷ ms) ≡ true → is_tellable (last_of m ms) ≡ true
last-tells m [] e = (and_parts (is_tellable m) true e).0
last-tells m (n ∷ ms) e = last-tells n ms (and_parts (is_tellable m) (list_all is_tellable (n ∷ ms)) e).1

cond-some : (b : Bool) (v w : Response) → cond b (Some v) None ≡ Some w → b ≡ true
cond-some true v w e = refl
cond-some false v w e = absurd (none-some w e)

fetched-ends : (ms : List Content) (w : Response) → fetched_in ms ≡ Some w → ends_valid ms ≡ false
fetched-ends [] w e = refl
fetched-ends (m ∷ ms) w e =
    let tells = (and_parts (list_all is_tellable (m ∷ ms)) (is_some (given nothing (m ∷ ms))) (cond-some _ (joined m ms) w e)).0 in
    final-not (last_of m ms) (and_parts (is_forwardable (last_of m ms).options) (is_final (last_of m ms)) (last-tells m ms tells)).1

-- What renews ends with a 2.03.
last-of-push : (m n : Content) (ms : List Content) → last_of m (ms ++ n ∷ []) ≡ n
last-of-push m n [] = refl
last-of-push m n (k ∷ ms) = last-of-push k n ms

renewal-ends : (ms : List Content) (w : Response) → IsRenewal ms w → ends_valid ms ≡ true
renewal-ends ms w r =
    ap ends_valid r.is
    ∙ (ap (λ (m : Content). eqb m.code 67) (last-of-push r.first r.last r.more)
    ∙ subst (λ (c : ℕ). eqb c 67 ≡ true) (sym r.says) refl)

-- So which of the two it may be is told by the last of the messages.
by-get : (method : ℕ) (w : Response) (ms : List Content) (len : ℕ) → method ≡ 1 → IsResponseBy method len ms w → (fetched_in ms ≡ Some w) ⊎ IsRenewal ms w
by-get method w ms len get (inl e) =
    let one : eqb method 1 ≡ true = subst (λ (n : ℕ). eqb n 1 ≡ true) (sym get) refl in inl (rw (one) at e)
by-get method w ms len get (inr r) = inr r.1

get-by : (method : ℕ) (w : Response) (ms : List Content) (len : ℕ) → method ≡ 1 → fetched_in ms ≡ Some w → IsResponseBy method len ms w
get-by method w ms len get e =
    let one : eqb method 1 ≡ true = subst (λ (n : ℕ). eqb n 1 ≡ true) (sym get) refl in inl (rw (one) e)

pub renewal-so : {E : Type 0} (r : Result Bool E) (method len : ℕ) (ms : List Content) (w : Response) → method ≡ 1 → ends_valid ms ≡ true
    → IfOk r (λ is. IsTrue is ↔ IsRenewal ms w) → IfOk r (λ is. IsTrue is ↔ IsResponseBy method len ms w)
renewal-so r method len ms w get ends = if-same r _ _ ((λ x. inr (get, x)), (λ x. from (by-get method w ms len get x)))
  where
    from : (fetched_in ms ≡ Some w) ⊎ IsRenewal ms w → IsRenewal ms w
    from (inl e) = absurd (false≢true (sym (fetched-ends ms w e) ∙ ends))
    from (inr x) = x

pub fetched-so : {E : Type 0} (r : Result Bool E) (method len : ℕ) (ms : List Content) (w : Response) → method ≡ 1 → ends_valid ms ≡ false
    → IfOk r (λ is. IsTrue is ↔ (fetched_in ms ≡ Some w)) → IfOk r (λ is. IsTrue is ↔ IsResponseBy method len ms w)
fetched-so r method len ms w get ends = if-same r _ _ ((λ e. get-by method w ms len get e), (λ x. from (by-get method w ms len get x)))
  where
    from : (fetched_in ms ≡ Some w) ⊎ IsRenewal ms w → fetched_in ms ≡ Some w
    from (inl e) = e
    from (inr x) = absurd (false≢true (sym ends ∙ renewal-ends ms w x))

pub answered-by : {E : Type 0} (r : Result Bool E) (method len : ℕ) (ms : List Content) (w : Response) → eqb method 1 ≡ false
    → IfOk r (λ is. IsTrue is ↔ (whole_given (begun len 6) ms ≡ Some w)) → IfOk r (λ is. IsTrue is ↔ IsResponseBy method len ms w)
answered-by r method len ms w other = if-same r _ _ ((λ e. inl (to e)), from)
  where
    to : whole_given (begun len 6) ms ≡ Some w → cond (eqb method 1) (fetched_in ms) (whole_given (begun len 6) ms) ≡ Some w
    to e = rw (other) e

    from : IsResponseBy method len ms w → whole_given (begun len 6) ms ≡ Some w
    from (inl e) = rw (other) at e
    from (inr x) = absurd (false≢true (sym other ∙ subst (λ (n : ℕ). eqb n 1 ≡ true) (sym x.0) refl))

-- the last of the messages
abbrev last-message : Message → List Message → Message
last-message x [] = x
last-message x (y ∷ ys) = last-message y ys

at-end : (x : Message) (ms : List Message) → slice_get (x ∷ ms) (length ms) ≡ Some (last-message x ms)
at-end x [] = refl
at-end x (y ∷ ys) = at-end y ys

of-end : (x : Message) (ms : List Message) → last_of (content x) (map content ms) ≡ content (last-message x ms)
of-end x [] = refl
of-end x (y ∷ ys) = of-end y ys

pub ends-so : (ms : List Message) (m : Message) → Some m ≡ slice_get ms (length ms - 1) → eqb m.code 67 ≡ ends_valid (map content ms)
ends-so [] m e = absurd cc
ends-so (x ∷ ms) m e =
    let place : length (x ∷ ms) - 1 ≡ length ms = omega arith in
    let is : m ≡ last-message x ms = some-same m (last-message x ms) (e ∙ (ap (slice_get (x ∷ ms)) place ∙ at-end x ms)) in
    ap (λ (n : Message). eqb (content n).code 67) is ∙ ap (λ (n : Content). eqb n.code 67) (sym (of-end x ms))

-- What is renewed so was in its own format before, as far as that can be told.
first-first : (a b : Option ℕ) → first_some a (first_some a b) ≡ first_some a b
first-first None b = refl
first-first (Some n) b = refl

pub renewed-same : (said by w : Response) (b : Bool)
    → IsTrue b ↔ (record said { format = first_some by.format w.format; max_age = by.max_age } ≡ w) → IsTrue b ↔ IsRenewedBy said by w
renewed-same said by w b same = ((λ is. (w.format, sym (same.0 is))), (λ x. same.1 (back x)))
  where
    back : IsRenewedBy said by w → record said { format = first_some by.format w.format; max_age = by.max_age } ≡ w
    back x =
        let format : w.format ≡ first_some by.format x.0 = ap (λ (v : Response). v.format) x.1 in
        ap (λ (f : Option ℕ). record said { format = f; max_age = by.max_age }) (ap (first_some by.format) format ∙ first-first by.format x.0) ∙ sym x.1

-- ---- one by one

push-same : (xs ys : List Content) (x y : Content) → xs ++ x ∷ [] ≡ ys ++ y ∷ [] → (xs ≡ ys) × (x ≡ y)
push-same [] [] x y e = (refl, first-same x y [] [] e)
push-same [] (b ∷ []) x y e = absurd (empty-not [] (rest-same x b [] (y ∷ []) e))
push-same [] (b ∷ c ∷ ys) x y e = absurd (empty-not (ys ++ y ∷ []) (rest-same x b [] (c ∷ (ys ++ y ∷ [])) e))
push-same (a ∷ []) [] x y e = absurd (empty-not [] (sym (rest-same a y (x ∷ []) [] e)))
push-same (a ∷ c ∷ xs) [] x y e = absurd (empty-not (xs ++ x ∷ []) (sym (rest-same a y (c ∷ (xs ++ x ∷ [])) [] e)))
push-same (a ∷ xs) (b ∷ ys) x y e =
    let it = push-same xs ys x y (rest-same a b (xs ++ x ∷ []) (ys ++ y ∷ []) e) in
    (ap (λ (c : Content). c ∷ xs) (first-same a b (xs ++ x ∷ []) (ys ++ y ∷ []) e) ∙ ap (λ (zs : List Content). b ∷ zs) it.0, it.1)

fetched-gives : (ms : List Content) (w : Response) → fetched_in ms ≡ Some w
    → (list_all is_tellable ms ≡ true) × (is_some (given nothing ms) ≡ true)
fetched-gives [] w e = absurd (none-some w e)
fetched-gives (m ∷ ms) w e =
    and_parts (list_all is_tellable (m ∷ ms)) (is_some (given nothing (m ∷ ms))) (cond-some _ (joined m ms) w e)

-- what such messages are
record Renews (ps : List Content) (v : Content) (w : Response) : Type 0 where
  said : Response
  whole : fetched_in ps ≡ Some said
  by : IsRenewedBy said (response_of v) w

renewal-parts : (ps : List Content) (v : Content) (w : Response) → IsRenewal (ps ++ v ∷ []) w → Renews ps v w
renewal-parts ps v w r =
    let same = push-same ps (r.first ∷ r.more) v r.last r.is in
    record {
      said = r.response;
      whole = ap fetched_in same.0 ∙ r.whole;
      by = subst (λ (m : Content). IsRenewedBy r.response (response_of m) w) (sym same.1) (r.before, r.renewed);
    }

parts-renewal : (ps : List Content) (v : Content) (w : Response) → v.code ≡ 67 → Renews ps v w → IsRenewal (ps ++ v ∷ []) w
parts-renewal [] v w code x = absurd (none-some x.said x.whole)
parts-renewal (m ∷ ms) v w code x = record {
  first = m;
  more = ms;
  last = v;
  is = refl;
  response = x.said;
  whole = x.whole;
  says = code;
  before = x.by.0;
  renewed = x.by.1;
}

ends-code : (ps : List Content) (v : Content) → ends_valid (ps ++ v ∷ []) ≡ true → v.code ≡ 67
ends-code [] v e = eqb-true v.code 67 e
ends-code (m ∷ ms) v e = eqb-true v.code 67 (ap (λ (n : Content). eqb n.code 67) (sym (last-of-push m v ms)) ∙ e)

-- the messages as they are taken apart
messages-are : (all front : List Message) (last : Message) → all ≡ front ++ last ∷ [] → map content all ≡ map content front ++ content last ∷ []
messages-are all front last e = ap (map content) e ∙ map_push content front last

renewal-by : (all pieces : List Message) (v : Message) (w : Response) → all ≡ pieces ++ v ∷ [] → IsRenewal (map content all) w
    → Renews (map content pieces) (content v) w
renewal-by all pieces v w e r =
    renewal-parts (map content pieces) (content v) w (subst (λ (ms : List Content). IsRenewal ms w) (messages-are all pieces v e) r)

-- It is none where the last is no 2.03, or where the others are no pieces of one representation.
pub not-ends : (all : List Message) (w : Response) → ends_valid (map content all) ≡ false → IsRenewal (map content all) w → ⊥
not-ends all w ends r = false≢true (sym ends ∙ renewal-ends (map content all) w r)

pub not-tells : (all pieces : List Message) (v : Message) (w : Response) → all ≡ pieces ++ v ∷ [] → list_all is_tellable (map content pieces) ≡ false
    → IsRenewal (map content all) w → ⊥
not-tells all pieces v w e tells r =
    let x = renewal-by all pieces v w e r in false≢true (sym tells ∙ (fetched-gives (map content pieces) x.said x.whole).0)

pub not-gives : (all pieces : List Message) (v : Message) (w : Response) → all ≡ pieces ++ v ∷ [] → is_some (given nothing (map content pieces)) ≡ false
    → IsRenewal (map content all) w → ⊥
not-gives all pieces v w e gives r =
    let x = renewal-by all pieces v w e r in false≢true (sym gives ∙ (fetched-gives (map content pieces) x.said x.whole).1)

pub not-none : (all pieces : List Message) (v : Message) (w : Response) → all ≡ pieces ++ v ∷ [] → pieces ≡ [] → IsRenewal (map content all) w → ⊥
not-none all pieces v w e none r =
    let x = renewal-by all pieces v w e r in
    none-some x.said (sym (ap (λ (ms : List Message). fetched_in (map content ms)) none) ∙ x.whole)

-- Else it is just what the two say.
pub renewal-is : (all pieces earlier : List Message) (v last : Message) (w : Response) (said by : Told) (b : Bool) → all ≡ pieces ++ v ∷ []
    → pieces ≡ earlier ++ last ∷ [] → ends_valid (map content all) ≡ true → list_all is_tellable (map content pieces) ≡ true
    → is_some (given nothing (map content pieces)) ≡ true → said ≡ Tells (joined_all (map content earlier) (content last))
    → by ≡ Tells (response_of (content v)) → IsTrue b ↔ TellsRenewed said by w → IsTrue b ↔ IsRenewal (map content all) w
renewal-is all pieces earlier v last w said by b e f ends tells gives told_said told_by same = ((λ is. to (so.0 is)), (λ r. so.1 (from r)))
  where
    R : Response
    R = joined_all (map content earlier) (content last)

    so : IsTrue b ↔ IsRenewedBy R (response_of (content v)) w
    so = subst (λ (x : Told). IsTrue b ↔ TellsRenewed (Tells R) x w) told_by (subst (λ (x : Told). IsTrue b ↔ TellsRenewed x by w) told_said same)

    pieces_are : map content pieces ≡ map content earlier ++ content last ∷ []
    pieces_are = messages-are pieces earlier last f

    fetched : fetched_in (map content pieces) ≡ Some R
    fetched = ap fetched_in pieces_are
        ∙ fetched-as (map content earlier) (content last) (sym (ap (list_all is_tellable) pieces_are) ∙ tells)
        (sym (ap (λ (ms : List Content). is_some (given nothing ms)) pieces_are) ∙ gives)

    all_are : map content all ≡ map content pieces ++ content v ∷ []
    all_are = messages-are all pieces v e

    to : IsRenewedBy R (response_of (content v)) w → IsRenewal (map content all) w
    to x =
        subst (λ (ms : List Content). IsRenewal ms w) (sym all_are)
        (parts-renewal (map content pieces) (content v) w (ends-code (map content pieces) (content v) (sym (ap ends_valid all_are) ∙ ends))
        (record { said = R; whole = fetched; by = x }))

    from : IsRenewal (map content all) w → IsRenewedBy R (response_of (content v)) w
    from r =
        let x = renewal-by all pieces v w e r in
        subst (λ (s : Response). IsRenewedBy s (response_of (content v)) w) (some-same x.said R (sym x.whole ∙ fetched)) x.by
