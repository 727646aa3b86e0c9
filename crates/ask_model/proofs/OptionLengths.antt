-- How many bytes the options of a request take in a message.
use Rattle.std.proofs.Common.{◌≡◌, ℕ, ◌+◌, ◌-◌, ◌*◌, ◌<◌, ◌≤◌, ◌==◌, if◌then◌else◌, Bool, true, false, nat_le, List, [], ◌∷◌, ◌++◌, drop, length, Option, Some, None, option_map, Result, Ok, Err, IfOk, IfSome, refl, sym, subst, ap, ◌∙◌, arith, append_assoc}
use Rattle.std.proofs.lemmas.Bool.{and_parts, leb-true}
use Rattle.std.proofs.lemmas.Bool.Decides.{Decides-eqb, nat_tests}
use Rattle.std.proofs.lemmas.List.{append-nil, length-take}
use Rattle.std.specs.List.{list_all}
use Rattle.coap_codec.specs.Spelling.{Entry, Content, Spells}
use Rattle.coap_codec.specs.declared.block.Block.{Block}
use Rattle.coap_codec.specs.Writing.{IsInOrder}
use Rattle.blockwise.specs.Reading.{size_of}
use Rattle.blockwise.specs.Uploads.{begun, is_whole, block_at, next_block, slice_of}
use Rattle.blockwise.proofs.CallerLemmas.{small_size}
use Rattle.uri_map.specs.declared.target.Target.{Target}
use Rattle.uri_map.specs.Limits.{extra, spelled_len, options_with, host_options, uri_options, is_short, fits, option_with}
use Rattle.uri_map.proofs.CallerLemmas.{options_len}
use Rattle.std.specs.declared.alloc.AllocError.{AllocError}
use Rattle.ask_model.specs.Requests.{CoapRequest, Sense, Requests, Refuses, optional, options_asking, observing_options, observe_message, validating_options, validate_message, request_options, block_option, block_value, carried_by, block_message}
use Rattle.ask_model.specs.Observing.{IsObserving, is_named}
use Rattle.ask_model.specs.Validating.{IsValidating}
use Rattle.ask_model.specs.Sharing.{is_get}
use Rattle.ask_model.specs.Views.{Rules}
use Rattle.ask_model.specs.Datagrams.{FitsMessages, IsSendable, IsSentFor, block_named, block_or_first}
use Rattle.ask_model.proofs.Payloads.{spelled_length}
use Rattle.ask_model.proofs.Blocks.{asked, block_message_as}
use Rattle.ask_model.proofs.OptionOrder.{asking_in_order, observing_in_order, validating_in_order, blocks_in_order, uint_bytes_short}

extra_max : (n : ℕ) → extra n ≤ 2
extra_max n = grind (arith, nat_tests)

extra_mono : (m n : ℕ) → m ≤ n → extra m ≤ extra n
extra_mono m n le = grind (arith, nat_tests)

-- Options take no more bytes after a higher number.
behind_higher : (before later : ℕ) (os : List Entry) → before ≤ later → spelled_len later os ≤ spelled_len before os
behind_higher before later [] le = omega arith
behind_higher before later (o ∷ os) le =
    let delta = extra_mono (o.number - later) (o.number - before) (omega (arith, le)) in
    omega (arith, delta)

-- One more option among others takes at most five bytes beside its value.
with_one : (before : ℕ) (os others : List Entry) (o : Entry) → IsInOrder before (os ++ (o ∷ others)) → spelled_len before (os ++ (o ∷ others)) ≤ spelled_len before (os ++ others) + 5 + length o.value
with_one before [] others o h =
    let behind = behind_higher before o.number others h.0 in
    let delta = extra_max (o.number - before) in
    let len = extra_max (length o.value) in
    omega (arith, behind, delta, len)
with_one before (first ∷ os) others o h =
    let rest = with_one first.number os others o h.1 in
    omega (arith, rest)

with_optional : (before number : ℕ) (os others : List Entry) (v : Option ℕ) → IsInOrder before (os ++ (optional number v ++ others)) → spelled_len before (os ++ (optional number v ++ others)) ≤ spelled_len before (os ++ others) + 8
with_optional before number os others None h = omega arith
with_optional before number os others (Some v) h =
    let one = with_one before os others _ h in
    let value = uint_bytes_short v in
    omega (arith, one, value)

asking_len : (t : Target) (format accept : Option ℕ) → spelled_len 0 (options_asking t format accept) ≤ spelled_len 0 (uri_options t) + 16
asking_len t format accept =
    let host = host_options t.host in
    let path = options_with 11 t.path in
    let query = options_with 15 t.query in
    let last = optional 17 accept in
    let InOrder : List Entry → Type 0 = λ os. IsInOrder 0 os in
    let regrouped : (middle : List Entry) → host ++ (path ++ (middle ++ (query ++ last))) ≡ (host ++ path) ++ (middle ++ (query ++ last)) = λ middle. sym (append_assoc host path (middle ++ (query ++ last))) in
    let ended : (host ++ path) ++ (query ++ last) ≡ ((host ++ path) ++ query) ++ (last ++ []) = rw append-nil (sym (append_assoc (host ++ path) query last)) in
    let with_format = with_optional 0 12 (host ++ path) (query ++ last) format (subst InOrder (regrouped (optional 12 format)) (asking_in_order t format accept)) in
    let with_accept = with_optional 0 17 ((host ++ path) ++ query) [] accept (subst InOrder (regrouped [] ∙ ended) (asking_in_order t None accept)) in
    let one : spelled_len 0 (options_asking t format accept) ≡ spelled_len 0 ((host ++ path) ++ (optional 12 format ++ (query ++ last))) = ap (spelled_len 0) (regrouped (optional 12 format)) in
    let two : spelled_len 0 ((host ++ path) ++ (query ++ last)) ≡ spelled_len 0 (((host ++ path) ++ query) ++ (last ++ [])) = ap (spelled_len 0) ended in
    let three : spelled_len 0 (((host ++ path) ++ query) ++ []) ≡ spelled_len 0 (uri_options t) = ap (spelled_len 0) (append-nil ((host ++ path) ++ query)) in
    omega (arith, one, two, three, with_format, with_accept)

target_len : (t : Target) → fits (uri_options t) ≡ true → spelled_len 0 (uri_options t) ≤ 960
target_len t h = leb-true (spelled_len 0 (uri_options t)) 960 (and_parts (list_all is_short (uri_options t)) (nat_le (spelled_len 0 (uri_options t)) 960) h).1

-- the same, with one that names a block
blocks_len : (q : CoapRequest) (number : ℕ) (block : Option ℕ) → 17 ≤ number → spelled_len 0 (request_options q ++ optional number block) ≤ spelled_len 0 (uri_options q.target) + 24
blocks_len q number block le =
    let os = request_options q in
    let InOrder : List Entry → Type 0 = λ os. IsInOrder 0 os in
    let last : os ++ optional number block ≡ os ++ (optional number block ++ []) = rw append-nil refl in
    let with_block = with_optional 0 number os [] block (subst InOrder last (blocks_in_order q.target number q.format q.accept block le)) in
    let one : spelled_len 0 (os ++ optional number block) ≡ spelled_len 0 (os ++ (optional number block ++ [])) = ap (spelled_len 0) last in
    let two : spelled_len 0 (os ++ []) ≡ spelled_len 0 os = ap (spelled_len 0) (append-nil os) in
    let asking = asking_len q.target q.format q.accept in
    omega (arith, one, two, with_block, asking)

pub option_is_late : (method : ℕ) → 17 ≤ block_option method
option_is_late method = by (method == 1)
  where
    by : (b : Bool) → 17 ≤ (if b then 23 else 27)
    by true = omega arith
    by false = omega arith

-- A message has at most 1,024 bytes of a body.
slice_short : (b : Block) (body : List ℕ) → b.szx < 7 → length (slice_of b body) ≤ 1024
slice_short b body lt =
    let size = small_size b.szx lt in
    rw (length-take (size_of b.szx) (drop (b.num * size_of b.szx) body)) (omega (arith, size))

all_or_first : (method : ℕ) (body : List ℕ) (whole : Bool) → (method == 1) ≡ false → is_whole (begun (length body) 6) ≡ whole
    → length (carried_by method (if whole then None else Some (block_at (begun (length body) 6))) body) ≤ 1024
all_or_first method body true write is = leb-true (length body) 1024 is
all_or_first method body false write is = rw (write) (slice_short (block_at (begun (length body) 6)) body (omega arith))

carried_short : (q : CoapRequest) (block : Option Block) → (q.method ≡ 1 → q.body ≡ []) → IfSome block (λ b. b.szx < 7)
    → length (carried_by q.method (block_or_first q block) q.body) ≤ 1024
carried_short q block none small = by (q.method == 1) refl block small
  where
    by : (get : Bool) → (q.method == 1) ≡ get → (block : Option Block) → IfSome block (λ b. b.szx < 7)
        → length (carried_by q.method (block_or_first q block) q.body) ≤ 1024
    by true is None small = let empty = ap (λ (v : List ℕ). length v) (none ((Decides-eqb q.method 1).0 is)) in rw (is) (omega (arith, empty))
    by true is (Some b) small = let empty = ap (λ (v : List ℕ). length v) (none ((Decides-eqb q.method 1).0 is)) in rw (is) (omega (arith, empty))
    by false is (Some b) small = rw (is) (slice_short b q.body small)
    by false is None small =
        subst (λ (b : Bool). length (carried_by q.method (if b then None else next_block (begun (length q.body) 6)) q.body) ≤ 1024) (sym is)
        (all_or_first q.method q.body (is_whole (begun (length q.body) 6)) is refl)

-- The datagram of a request for a block, or for the first.
pub datagram_len : (q : CoapRequest) (block : Option Block) (mid : ℕ) (token bytes : List ℕ) → FitsMessages q → IfSome block (λ b. b.szx < 7)
    → Spells (block_message q (block_or_first q block) mid token) bytes → length bytes ≤ 2024
datagram_len q block mid token bytes f small spelled =
    let named = block_or_first q block in
    let m = asked q named mid token in
    let s : Spells m bytes = subst (λ (n : Content). Spells n bytes) (block_message_as q named mid token) spelled in
    let all = spelled_length m bytes s in
    let options = options_len 0 m.options s.options s.options_are in
    let asking = blocks_len q (block_option q.method) (option_map block_value named) (option_is_late q.method) in
    let target = target_len q.target f.target in
    let body = carried_short q block f.get small in
    omega (arith, all, options, asking, target, body, s.short_token)

-- What is sent for a request is no longer than that.
pub sent_len : (sense : Sense) (block : Option Block) (mid : ℕ) (token : List ℕ) (r : Result (Option (List ℕ)) AllocError) → IsSendable sense → IfSome block (λ b. b.szx < 7)
    → IfOk r (λ o. IsSentFor sense (block_named sense block) mid token o) → IfOk r (λ o. IfSome o (λ bytes. length bytes ≤ 2024))
sent_len sense block mid token (Err e) f small s = tt
sent_len sense block mid token (Ok None) f small s = tt
sent_len (Requests q) block mid token (Ok (Some bytes)) f small s = datagram_len q block mid token bytes f small s
sent_len (Refuses cause status) block mid token (Ok (Some bytes)) f small s = absurd cc

-- one that asks to be told of changes
observing_len : (t : Target) (format accept : Option ℕ) → spelled_len 0 (observing_options t format accept) ≤ spelled_len 0 (uri_options t) + 24
observing_len t format accept =
    let one = with_optional 0 6 (host_options t.host) (options_with 11 t.path ++ (optional 12 format ++ (options_with 15 t.query ++ optional 17 accept))) (Some 0) (observing_in_order t format accept) in
    let asking = asking_len t format accept in
    omega (arith, one, asking)

observed_len : (q : CoapRequest) (mid : ℕ) (token bytes : List ℕ) → FitsMessages q → is_get q ≡ true → Spells (observe_message q mid token) bytes → length bytes ≤ 2024
observed_len q mid token bytes f get s =
    let all = spelled_length (observe_message q mid token) bytes s in
    let options = options_len 0 (observing_options q.target q.format q.accept) s.options s.options_are in
    let observing = observing_len q.target q.format q.accept in
    let target = target_len q.target f.target in
    let parts = and_parts (q.method == 1) _ get in
    let empty = ap (λ (v : List ℕ). length v) (f.get ((Decides-eqb q.method 1).0 parts.0)) in
    omega (arith, all, options, observing, target, empty, s.short_token)

pub observing_sent_len : (s : Rules) (sense : Sense) (mid : ℕ) (token : List ℕ) (r : Result (Option (List ℕ)) AllocError) → IsSendable sense
    → IfOk r (λ o. IsObserving s sense mid token o) → IfOk r (λ o. IfSome o (λ bytes. length bytes ≤ 2024))
observing_sent_len s sense mid token (Err e) f h = tt
observing_sent_len s sense mid token (Ok None) f h = tt
observing_sent_len s (Requests q) mid token (Ok (Some bytes)) f h = observed_len q mid token bytes f (and_parts (is_get q) (is_named s.observed q.target.host) h.0).0 h.1
observing_sent_len s (Refuses cause status) mid token (Ok (Some bytes)) f h = absurd cc

-- one that asks whether something is valid still
validating_len : (etag : List ℕ) (t : Target) (format accept : Option ℕ) → length etag ≤ 8 → spelled_len 0 (validating_options etag t format accept) ≤ spelled_len 0 (uri_options t) + 32
validating_len etag t format accept le =
    let one = with_one 0 (host_options t.host) (options_with 11 t.path ++ (optional 12 format ++ (options_with 15 t.query ++ optional 17 accept))) (option_with 4 etag) (validating_in_order etag t format accept) in
    let asking = asking_len t format accept in
    omega (arith, one, asking, le)

validated_len : (etag : List ℕ) (q : CoapRequest) (mid : ℕ) (token bytes : List ℕ) → length etag ≤ 8 → FitsMessages q → is_get q ≡ true → Spells (validate_message etag q mid token) bytes → length bytes ≤ 2024
validated_len etag q mid token bytes le f get s =
    let all = spelled_length (validate_message etag q mid token) bytes s in
    let options = options_len 0 (validating_options etag q.target q.format q.accept) s.options s.options_are in
    let validating = validating_len etag q.target q.format q.accept le in
    let target = target_len q.target f.target in
    let parts = and_parts (q.method == 1) _ get in
    let empty = ap (λ (v : List ℕ). length v) (f.get ((Decides-eqb q.method 1).0 parts.0)) in
    omega (arith, all, options, validating, target, empty, s.short_token)

pub validating_sent_len : (etag : List ℕ) (sense : Sense) (mid : ℕ) (token : List ℕ) (r : Result (Option (List ℕ)) AllocError) → length etag ≤ 8 → IsSendable sense
    → IfOk r (λ o. IsValidating etag sense mid token o) → IfOk r (λ o. IfSome o (λ bytes. length bytes ≤ 2024))
validating_sent_len etag sense mid token (Err e) le f h = tt
validating_sent_len etag sense mid token (Ok None) le f h = tt
validating_sent_len etag (Requests q) mid token (Ok (Some bytes)) le f h = validated_len etag q mid token bytes le f h.0 h.1
validating_sent_len etag (Refuses cause status) mid token (Ok (Some bytes)) le f h = absurd cc
