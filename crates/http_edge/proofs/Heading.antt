-- What the parser's answer says of the head at the front of unread bytes.
use Rattle.std.proofs.Common.{◌≡◌, inl, inr, ℕ, ◌≤◌, ◌<◌, ◌+◌, List, [], ◌∷◌, ◌++◌, length, take, drop, map, Bool, refl, sym, ap, subst, ◌∙◌, arith}
use Rattle.std.proofs.lemmas.List.{length-map, length-append, length-take-le, append-nil}
use Rattle.std.proofs.Math.Seq.{take-length}
use Rattle.std.specs.List.{flat_map}
use Rattle.std.specs.Prelude.{IsTrue}
use Rattle.httparse.specs.Ascii.{space}
use Rattle.std.proofs.lemmas.List.Elements.{All-nil, All-cons}
use Rattle.std.proofs.lemmas.Str.{IsUtf8-from_ascii}
use Rattle.std.proofs.lemmas.Str.Ascii.{IsAscii-nil, IsAscii-cons}
use Rattle.http_edge.specs.Edges.{HeadWaits}
use Rattle.httparse.specs.Grammar.{RequestHead, IsRequestHead, is_token_byte, is_uri_byte, HasNoRequest, LineEnd, crlf, lf, print_end, print_blank, print_version, print_section, print_field, print_request}
use Rattle.httparse.specs.Spans.{name_and_value, header_bytes, span_bytes, IsRequestWithin, IsRequestAt}
use Rattle.httparse.specs.declared.spans.HeaderSpan.{HeaderSpan}
use Rattle.httparse.specs.declared.spans.RequestSpans.{RequestSpans}
use Rattle.http_edge.specs.declared.request.BadKind.TheVariants.{Syntax}
use Rattle.http_edge.specs.declared.framing.Framing.{Framing}
use Rattle.http_edge.specs.declared.body.Left.{Left}
use Rattle.http_edge.specs.Framing.{framing, framing_of}
use Rattle.http_edge.specs.Requests.{Content, content_of, request_from, expects, expects_of}
use Rattle.http_edge.specs.Reading.{BeginsWith, IsRefused}
use Rattle.http_edge.specs.Bodies.{SoFar}

pub begins_at : (text : List ℕ) (headers : List HeaderSpan) (r : RequestSpans) (h : RequestHead) → length text ≤ 8192 → length headers ≡ 64 → IsRequestWithin text headers r → IsRequestAt text headers r h → BeginsWith text h (drop r.len text)
begins_at text headers r h short room w at =
    let fits = w.section.len_fits in
    let many : length (take r.headers headers) ≡ r.headers = length-take-le r.headers headers w.section.count_fits in
    let spans : length (map (header_bytes text) (take r.headers headers)) ≡ length (take r.headers headers) = length-map (take r.headers headers) (header_bytes text) in
    let pairs : length (map name_and_value h.fields) ≡ length h.fields = length-map h.fields name_and_value in
    let same : length (map (header_bytes text) (take r.headers headers)) ≡ length (map name_and_value h.fields) = ap length at.fields in
    record { reads = at.reads; short = omega (arith, at.len, fits, short); few = omega (arith, many, spans, pairs, same, room, w.section.count_fits) }

framing_at : (text : List ℕ) (headers : List HeaderSpan) (r : RequestSpans) (h : RequestHead) (f : Framing) → IsRequestAt text headers r h → f ≡ framing_of r.version (map (header_bytes text) (take r.headers headers)) → f ≡ framing h
framing_at text headers r h f at is = is ∙ rw (at.version, at.fields) refl

pub left_at : (text : List ℕ) (headers : List HeaderSpan) (r : RequestSpans) (h : RequestHead) (f : Framing) (left : Left) (t : List ℕ) → IsRequestAt text headers r h → f ≡ framing_of r.version (map (header_bytes text) (take r.headers headers)) → SoFar f left [] t t → SoFar (framing h) left [] t t
left_at text headers r h f left t at is s = subst (λ (x : Framing). SoFar x left [] t t) (framing_at text headers r h f at is) s

pub content_at : (text : List ℕ) (headers : List HeaderSpan) (r : RequestSpans) (h : RequestHead) (c : Content) → IsRequestAt text headers r h
    → c ≡ request_from (span_bytes text r.method) (span_bytes text r.path) r.version (map (header_bytes text) (take r.headers headers)) → c ≡ content_of h []
content_at text headers r h c at is = is ∙ rw (at.method, at.path, at.version, at.fields) refl

pub wants_at : (text : List ℕ) (headers : List HeaderSpan) (r : RequestSpans) (h : RequestHead) (wants : Bool) → IsRequestAt text headers r h → wants ≡ expects_of r.version (map (header_bytes text) (take r.headers headers)) → wants ≡ expects h
wants_at text headers r h wants at is = is ∙ rw (at.version, at.fields) refl

pub full : (text : List ℕ) → length text ≡ 8192 → HasNoRequest text → IsRefused text Syntax
full text size none =
    let whole : take 8192 text ≡ text = ap (λ (n : ℕ). take n text) (sym size) ∙ take-length text in
    inl (inr (omega (arith, size), subst HasNoRequest (sym whole) none), refl)

end_is_some : (e : LineEnd) → 0 < length (print_end e)
end_is_some crlf = omega arith
end_is_some lf = omega arith

-- a head isn't empty
pub head_is_some : (h : RequestHead) → 0 < length (print_request h)
unfolding print_request
head_is_some h =
    let front = print_blank h.blank ++ h.method ++ space ∷ h.target ++ space ∷ print_version h.minor ++ print_end h.line_end in
    let whole : length (front ++ print_section h.fields h.last) ≡ length front + length (print_section h.fields h.last) = length-append front (print_section h.fields h.last) in
    let section : length (print_section h.fields h.last) ≡ length (flat_map print_field h.fields) + length (print_end h.last) = length-append (flat_map print_field h.fields) (print_end h.last) in
    omega (arith, whole, section, end_is_some h.last)

-- nothing may become a head, and is none

no_head : HasNoRequest []
no_head h rest r =
    let size : 0 ≡ length (print_request h ++ rest) = ap length r.1 in
    let parts : length (print_request h ++ rest) ≡ length (print_request h) + length rest = length-append (print_request h) rest in
    absurd (omega (arith, size, parts, head_is_some h))

shortest : RequestHead
shortest = record { blank = []; method = 65 ∷ []; target = 47 ∷ []; minor = 1; line_end = crlf; fields = []; last = crlf }

shortest_is : IsRequestHead shortest
unfolding is_token_byte shortest
shortest_is = record {
  method = (omega arith, All-cons (λ b. IsTrue (is_token_byte b)) 65 [] refl (All-nil _));
  target = (omega arith, All-cons (λ b. IsTrue (is_uri_byte b)) 47 [] refl (All-nil _));
  target_text = IsUtf8-from_ascii (47 ∷ []) (IsAscii-cons 47 [] (omega arith) IsAscii-nil);
  minor = omega arith;
  fields = All-nil _;
}

pub nothing_waits : HeadWaits []
nothing_waits = (no_head, inl (print_request shortest, shortest, (shortest_is, sym (append-nil _))), omega arith)
