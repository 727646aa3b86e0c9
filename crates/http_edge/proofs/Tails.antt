-- What stands after a head, a chunk or a body is an end of the text.
use Rattle.std.proofs.Common.{◌≡◌, ℕ, ◌+◌, ◌≤◌, ◌<◌, inl, inr, List, [], ◌∷◌, ◌++◌, length, sym, refl, ap, ◌∙◌, arith, Bool, false, Option, Some, None, append_assoc, length-append}
use Rattle.httparse.specs.Ascii.{crlf_bytes}
use Rattle.httparse.specs.Grammar.{print_request, print_section, print_chunk_line}
use Rattle.http_edge.specs.declared.framing.Framing.{Framing}
use Rattle.http_edge.specs.declared.framing.Framing.TheVariants.{Sized, Chunked, Refused}
use Rattle.http_edge.specs.declared.body.Left.{Left}
use Rattle.http_edge.specs.declared.body.Left.TheVariants.{Bytes, Line, Data, Trailers}
use Rattle.http_edge.specs.declared.begun.Begun.{Begun}
use Rattle.http_edge.specs.Framing.{framing}
use Rattle.http_edge.specs.Requests.{Content}
use Rattle.http_edge.specs.Chunks.{BeginsChunk, BeginsLast, TakesChunks}
use Rattle.http_edge.specs.Bodies.{Chunks, BehindLine, SoFar}
use Rattle.http_edge.specs.Reading.{TakesBody, Item, asked, bad, First, closes}
use Rattle.http_edge.specs.Edges.{GoesOn, StandsBegun, IsUnread}
use Rattle.http_edge.proofs.Heading.{head_is_some}

-- The text ends in the rest.
pub record EndsIn (text rest : List ℕ) : Type 0 where
  pub front : List ℕ
  pub whole : text ≡ front ++ rest

here : (text : List ℕ) → EndsIn text text
here text = record { front = []; whole = refl }

-- the end of an end
further : (text front middle rest : List ℕ) → text ≡ front ++ middle → EndsIn middle rest → EndsIn text rest
further text front middle rest e x = record { front = front ++ x.front; whole = e ∙ ap (λ (t : List ℕ). front ++ t) x.whole ∙ sym (append_assoc front x.front rest) }

pub no_longer : (text rest : List ℕ) → EndsIn text rest → length rest ≤ length text
no_longer text rest x = let e = ap length x.whole ∙ length-append x.front rest in omega (arith, e)

chunk_ends : (before : ℕ) (text bytes rest : List ℕ) → BeginsChunk before text bytes rest → EndsIn text rest
chunk_ends before text bytes rest x =
    further text (print_chunk_line x.line) x.behind rest x.begins.reads.1 (further x.behind bytes (crlf_bytes ++ rest) rest x.whole.1 (record { front = crlf_bytes; whole = refl }))

last_ends : (text rest : List ℕ) → BeginsLast text rest → EndsIn text rest
last_ends text rest x =
    further text (print_chunk_line x.line) x.behind rest x.begins.reads.1
    (record { front = print_section x.trailers.fields x.trailers.last; whole = x.trailers.reads.1 })

chunks_end : (before : ℕ) (text : List ℕ) (cs : List (List ℕ)) (rest : List ℕ) → TakesChunks before text cs rest → EndsIn text rest
chunks_end before text [] rest x = last_ends text rest x
chunks_end before text (c ∷ cs) rest x =
    let s = chunk_ends before text c x.0 x.1 in
    further text s.front x.0 rest s.whole (chunks_end (before + length c) x.0 cs rest x.2)

body_ends : (f : Framing) (text body rest : List ℕ) → TakesBody f text body rest → EndsIn text rest
body_ends (Sized n) text body rest x = record { front = body; whole = x.1 }
body_ends Chunked text body rest x = chunks_end 0 text x.0 rest x.1
body_ends (Refused k) text body rest x = absurd x

-- A request leaves an end of the text that is shorter.
pub ends_shorter : (text : List ℕ) (i : Item) (rest : List ℕ) → First text i rest → closes i ≡ false → EndsIn text rest × (length rest < length text)
ends_shorter text (asked r) rest x open_still =
    let e = body_ends (framing x.head) x.behind r.body rest x.body in
    let le = no_longer x.behind rest e in
    let some = head_is_some x.head in
    let whole = ap length x.begins.reads.1 ∙ length-append (print_request x.head) x.behind in
    (further text (print_request x.head) x.behind rest x.begins.reads.1 e, omega (arith, le, some, whole))
ends_shorter text (bad k) rest x open_still = absurd cc

-- so far

so_many : (n : ℕ) (text : List ℕ) (cs : List (List ℕ)) (rest : List ℕ) (after : ℕ) → Chunks n text cs rest after → EndsIn text rest
so_many n text [] rest after x = record { front = []; whole = sym x.0 }
so_many n text (c ∷ cs) rest after x =
    let s = chunk_ends n text c x.0 x.1 in
    further text s.front x.0 rest s.whole (so_many (n + length c) x.0 cs rest after x.2)

line_ends : (text : List ℕ) (size : ℕ) (behind body : List ℕ) → BehindLine text size behind body → EndsIn text behind
line_ends text size behind body x =
    let s = so_many 0 text x.chunks x.middle x.after x.read in
    further text s.front x.middle behind s.whole (record { front = print_chunk_line x.line; whole = x.begins.reads.1 })

so_far_ends : (f : Framing) (left : Left) (body unread text : List ℕ) → SoFar f left body unread text → EndsIn text unread
so_far_ends f (Bytes missing) body unread text x = record { front = body; whole = x.1 }
so_far_ends f Line body unread text x = so_many 0 text x.1.0 unread (length body) x.1.1
so_far_ends f (Data missing) body unread text x =
    let s = line_ends text (length x.1.1 + missing) (x.1.1 ++ unread) x.1.0 x.1.2 in
    further text s.front (x.1.1 ++ unread) unread s.whole (record { front = x.1.1; whole = refl })
so_far_ends f Trailers body unread text x = line_ends text 0 unread body x.1

goes_on_ends : (c : Content) (left : Left) (wants : Bool) (unread text : List ℕ) → GoesOn c left wants unread text → IsUnread text (length unread)
goes_on_ends c left wants unread text g =
    inr (record { head = g.head; behind = g.behind; begins = g.begins; few = no_longer g.behind unread (so_far_ends (framing g.head) left c.body unread g.behind g.body_is) })

-- how many bytes are unread
pub unread_is : (o : Option Begun) (unread text : List ℕ) → StandsBegun o unread text → IsUnread text (length unread)
unread_is None unread text x = inl (ap length (sym x))
unread_is (Some b) unread text x = goes_on_ends _ b.left b.wants unread text x
