-- The options of a request can be written: they are in order, and those of a target within its limits are short.
use Rattle.std.proofs.Common.{◌≡◌, ℕ, ◌≤◌, true, List, [], ◌∷◌, ◌++◌, length, Option, Some, None, arith, sym, ap, ◌∙◌, append_assoc}
use Rattle.std.proofs.lemmas.Bool.{and_parts, leb-true}
use Rattle.std.proofs.lemmas.Bool.Decides.{nat_tests}
use Rattle.std.specs.List.{AllByRecursion, list_all}
use Rattle.coap_codec.specs.Spelling.{Entry}
use Rattle.coap_codec.specs.declared.message.MsgType.TheVariants.{Con}
use Rattle.coap_codec.specs.Writing.{IsInOrder, IsShort, IsEncodable}
use Rattle.code_map.specs.declared.method.Method.{Method}
use Rattle.code_map.specs.Methods.{request_code}
use Rattle.uri_map.specs.declared.target.Target.{Target}
use Rattle.uri_map.specs.declared.target.Host.{Host}
use Rattle.uri_map.specs.declared.target.Host.TheVariants.{Name, V4, V6}
use Rattle.uri_map.specs.Limits.{options_with, host_options, uri_options, is_short, fits}
use Rattle.ask_model.specs.Requests.{uint_bytes, optional, options_asking, observing_options, validating_options}
use Rattle.ask_model.proofs.Codes.{code_is_not_zero}

-- options after one of a lower number
weaker : (before n : ℕ) (os : List Entry) → before ≤ n → IsInOrder n os → IsInOrder before os
weaker before n [] le h = tt
weaker before n (o ∷ os) le h = (omega (arith, le, h.0), h.1)

-- options of one number, and others after them
behind_equal : (before n : ℕ) (values : List (List ℕ)) (os : List Entry) → before ≤ n → IsInOrder n os → IsInOrder before (options_with n values ++ os)
behind_equal before n [] os le h = weaker before n os le h
behind_equal before n (v ∷ values) os le h = (le, behind_equal n n values os (omega arith) h)

-- an option where there is one, and others after it
behind_optional : (before n : ℕ) (v : Option ℕ) (os : List Entry) → before ≤ n → IsInOrder n os → IsInOrder before (optional n v ++ os)
behind_optional before n None os le h = weaker before n os le h
behind_optional before n (Some v) os le h = (le, h)

last_optional : (before n : ℕ) (v : Option ℕ) → before ≤ n → IsInOrder before (optional n v)
last_optional before n None le = tt
last_optional before n (Some v) le = (le, tt)

behind_host : (host : Host) (os : List Entry) → IsInOrder 11 os → IsInOrder 0 (host_options host ++ os)
behind_host (Name name) os h = (omega arith, weaker 3 11 os (omega arith) h)
behind_host (V4 address) os h = weaker 0 11 os (omega arith) h
behind_host (V6 address) os h = weaker 0 11 os (omega arith) h

pub asking_in_order : (t : Target) (format accept : Option ℕ) → IsInOrder 0 (options_asking t format accept)
asking_in_order t format accept =
    behind_host t.host _ (behind_equal 11 11 t.path _ (omega arith)
    (behind_optional 11 12 format _ (omega arith)
    (behind_equal 12 15 t.query _ (omega arith) (last_optional 15 17 accept (omega arith)))))

-- the same with one that asks for a block, which stands last
asking_before : (t : Target) (format accept : Option ℕ) (last : List Entry) → options_asking t format accept ++ last ≡ host_options t.host ++ (options_with 11 t.path ++ (optional 12 format ++ (options_with 15 t.query ++ (optional 17 accept ++ last))))
asking_before t format accept last =
    append_assoc (host_options t.host) _ last
    ∙ ap (λ (os : List Entry). host_options t.host ++ os) (append_assoc (options_with 11 t.path) _ last
    ∙ ap (λ (os : List Entry). options_with 11 t.path ++ os) (append_assoc (optional 12 format) _ last
    ∙ ap (λ (os : List Entry). optional 12 format ++ os) (append_assoc (options_with 15 t.query) (optional 17 accept) last)))

pub blocks_in_order : (t : Target) (number : ℕ) (format accept block : Option ℕ) → 17 ≤ number → IsInOrder 0 (options_asking t format accept ++ optional number block)
blocks_in_order t number format accept block le =
    rw (asking_before t format accept (optional number block))
    (behind_host t.host _ (behind_equal 11 11 t.path _ (omega arith)
    (behind_optional 11 12 format _ (omega arith)
    (behind_equal 12 15 t.query _ (omega arith)
    (behind_optional 15 17 accept _ (omega arith) (last_optional 17 number block le))))))

pub short : (os : List Entry) → list_all is_short os ≡ true → AllByRecursion IsShort os
short [] h = tt
short (o ∷ os) h =
    let p = and_parts (is_short o) (list_all is_short os) h in
    let le : length o.value ≤ 255 = leb-true (length o.value) 255 p.0 in
    (omega (arith, le), short os p.1)

short_first : (os others : List Entry) → AllByRecursion IsShort (os ++ others) → AllByRecursion IsShort os
short_first [] others h = tt
short_first (o ∷ os) others h = (h.0, short_first os others h.1)

short_second : (os others : List Entry) → AllByRecursion IsShort (os ++ others) → AllByRecursion IsShort others
short_second [] others h = h
short_second (o ∷ os) others h = short_second os others h.1

pub uint_bytes_short : (n : ℕ) → length (uint_bytes n) ≤ 3
uint_bytes_short n = grind (arith, nat_tests)

-- the options of a target within its limits are short
pub path_short : (t : Target) → fits (uri_options t) ≡ true → AllByRecursion IsShort (options_with 11 t.path)
path_short t h =
    let all = short (uri_options t) (and_parts (list_all is_short (uri_options t)) _ h).0 in
    let place = short_first (host_options t.host ++ options_with 11 t.path) (options_with 15 t.query) all in
    short_second (host_options t.host) (options_with 11 t.path) place

pub query_short : (t : Target) → fits (uri_options t) ≡ true → AllByRecursion IsShort (options_with 15 t.query)
query_short t h =
    let all = short (uri_options t) (and_parts (list_all is_short (uri_options t)) _ h).0 in
    short_second (host_options t.host ++ options_with 11 t.path) (options_with 15 t.query) all

-- the same of one that asks to be told of changes
host_before : (host : Host) (n : ℕ) (os : List Entry) → 3 ≤ n → IsInOrder n os → IsInOrder 0 (host_options host ++ os)
host_before (Name name) n os le h = (omega arith, weaker 3 n os le h)
host_before (V4 address) n os le h = weaker 0 n os (omega arith) h
host_before (V6 address) n os le h = weaker 0 n os (omega arith) h

pub observing_in_order : (t : Target) (format accept : Option ℕ) → IsInOrder 0 (observing_options t format accept)
observing_in_order t format accept =
    host_before t.host 6 _ (omega arith) (
      omega arith,
      behind_equal 6 11 t.path _ (omega arith)
          (behind_optional 11 12 format _ (omega arith)
          (behind_equal 12 15 t.query _ (omega arith) (last_optional 15 17 accept (omega arith)))),
    )

-- and of one that asks whether something is valid still
pub validating_in_order : (etag : List ℕ) (t : Target) (format accept : Option ℕ) → IsInOrder 0 (validating_options etag t format accept)
validating_in_order etag t format accept =
    host_before t.host 4 _ (omega arith) (
      omega arith,
      behind_equal 4 11 t.path _ (omega arith)
          (behind_optional 11 12 format _ (omega arith)
          (behind_equal 12 15 t.query _ (omega arith) (last_optional 15 17 accept (omega arith)))),
    )
