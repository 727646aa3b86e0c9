-- What pieces say together, of which the last is given and those before it.
use Rattle.std.proofs.Common.{◌≡◌, ℕ, List, [], ◌∷◌, ◌++◌, map, Option, Some, refl, sym, ap, ◌∙◌, append_assoc}
use Rattle.std.specs.Prelude.{slice_get}
use Rattle.std.proofs.lemmas.List.{append-nil}
use Rattle.coap_codec.specs.Spelling.{Content, content}
use Rattle.coap_codec.specs.declared.message.Message.{Message}
use Rattle.blockwise.specs.Joins.{payloads}
use Rattle.history_laws.specs.Responses.{Response, response_of, last_of}
use Rattle.reply_reading.specs.Findings.{joined_all}

last-at-end : (m : Content) (ms : List Content) (n : Content) → last_of m (ms ++ n ∷ []) ≡ n
last-at-end m [] n = refl
last-at-end m (o ∷ ms) n = last-at-end o ms n

payloads-at-end : (ms : List Content) (n : Content) → payloads (ms ++ n ∷ []) ≡ payloads ms ++ n.payload
payloads-at-end [] n = append-nil n.payload
payloads-at-end (m ∷ ms) n =
    ap (λ (bytes : List ℕ). m.payload ++ bytes) (payloads-at-end ms n)
    ∙ sym (append_assoc m.payload (payloads ms) n.payload)

abbrev pub response_with : Content → Content → List ℕ → Response
response_with first last body = record (response_of last) { max_age = (response_of first).max_age; body = body }

-- some came before the last
joined-some : (first : Message) (ms : List Message) (last : Content) (body : List ℕ)
    → body ≡ payloads (map content (first ∷ ms)) ++ last.payload
    → response_with (content first) last body ≡ joined_all (map content (first ∷ ms)) last
joined-some first ms last body is =
    let rest = map content ms in
    ap (response_with (content first) last) (is ∙ sym (payloads-at-end (content first ∷ rest) last))
    ∙ ap (λ (m : Content). response_with (content first) m (payloads (content first ∷ (rest ++ last ∷ []))))
    (sym (last-at-end (content first) rest last))

same-first : (m n : Message) → Some m ≡ Some n → m ≡ n
same-first m n e = cc

pub joined-many : (first : Message) (ms : List Message) (last : Content) (r : Response) (age : Option ℕ) (body : List ℕ)
    → Some first ≡ slice_get ms 0 → r ≡ response_of last → age ≡ (response_of (content first)).max_age
    → body ≡ payloads (map content ms) ++ last.payload
    → record r { max_age = age; body = body } ≡ joined_all (map content ms) last
joined-many first [] last r age body some said aged is = absurd cc
joined-many first (m ∷ ms) last r age body some said aged is =
    rw (said, aged, same-first first m some) (joined-some m ms last body is)
