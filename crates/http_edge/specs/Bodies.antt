-- How much of a body came in.
use Rattle.std.specs.Prelude.{◌≡◌, ◌⊎◌, ℕ, ◌+◌, ◌<◌, ◌≤◌, List, [], ◌∷◌, ◌++◌, length, drop}
use Rattle.std.specs.List.{concat}
use Rattle.limits.specs.declared.TheConstants.{MAX_BODY_LEN}
use Rattle.httparse.specs.Grammar.{ChunkLine, chunk_size, HasNoChunkLine, MayBecomeSection, HasNoSection}
use Rattle.http_edge.specs.declared.request.BadKind.{BadKind}
use Rattle.http_edge.specs.declared.framing.Framing.{Framing}
use Rattle.http_edge.specs.declared.framing.Framing.TheVariants.{Sized, Chunked, Refused}
use Rattle.http_edge.specs.declared.body.Left.{Left}
use Rattle.http_edge.specs.declared.body.Left.TheVariants.{Bytes, Line, Data, Trailers}
use Rattle.http_edge.specs.declared.body.Next.{Next}
use Rattle.http_edge.specs.declared.body.Next.TheVariants.{On, Whole, Wait, Bad}
use Rattle.http_edge.specs.declared.body.Fill.{Fill}
use Rattle.http_edge.specs.declared.body.Fill.TheVariants as filled
use Rattle.http_edge.specs.Chunks.{BeginsLine, BeginsChunk}
use Rattle.http_edge.specs.Reading.{TakesBody, NeverTakes}

-- A text is chunks of those bytes, and then the rest; so many bytes came then.
abbrev pub Chunks : ℕ → List ℕ → List (List ℕ) → List ℕ → ℕ → Type 0
Chunks before text [] rest after = (rest ≡ text) × (after ≡ before)
Chunks before text (c ∷ cs) rest after = (behind : List ℕ) × BeginsChunk before text c behind
    × Chunks (before + length c) behind cs rest after

-- Chunks, and then a chunk's line.
pub record BehindLine (text : List ℕ) (size : ℕ) (behind body : List ℕ) : Type 0 where
  pub chunks : List (List ℕ)
  pub after : ℕ
  pub middle : List ℕ
  pub line : ChunkLine
  pub read : Chunks 0 text chunks middle after
  pub begins : BeginsLine middle line behind
  pub size_is : chunk_size line ≡ size
  pub fits : after + size ≤ MAX_BODY_LEN
  pub after_is : after ≡ length body
  pub body_is : body ≡ concat chunks

-- Whole chunks came in.
abbrev pub AtLine : List ℕ → List ℕ → List ℕ → Type 0
AtLine body unread text =
    (chunks : List (List ℕ)) × Chunks 0 text chunks unread (length body)
    × (length body ≤ MAX_BODY_LEN) × (body ≡ concat chunks)

-- Bytes of a chunk came in, and so many of them are missing.
abbrev pub InData : ℕ → List ℕ → List ℕ → List ℕ → Type 0
InData missing body unread text =
    (front : List ℕ) × (got : List ℕ) × BehindLine text (length got + missing) (got ++ unread) front
    × (0 < length got + missing) × (body ≡ front ++ got)

-- The line of the last chunk came in.
abbrev pub AtTrailers : List ℕ → List ℕ → List ℕ → Type 0
AtTrailers body unread text = BehindLine text 0 unread body

-- The body so far and the unread bytes are those of the text, whose body is so framed.
abbrev pub SoFar : Framing → Left → List ℕ → List ℕ → List ℕ → Type 0
SoFar f (Bytes missing) body unread text = (f ≡ Sized (length body + missing))
    × (text ≡ body ++ unread)
SoFar f Line body unread text = (f ≡ Chunked) × AtLine body unread text
SoFar f (Data missing) body unread text = (f ≡ Chunked) × InData missing body unread text
SoFar f Trailers body unread text = (f ≡ Chunked) × AtTrailers body unread text

-- No body so framed is whole, and none is refused.
pub record NoBody (f : Framing) (text : List ℕ) : Type 0 where
  pub takes : (body rest : List ℕ) → ¬ (TakesBody f text body rest)
  pub fails : (kind : BadKind) → ¬ (NeverTakes f text kind)

-- The trailers aren't whole, and the parser can't say more yet.
pub record OpenTrailers (text : List ℕ) : Type 0 where
  pub body : List ℕ
  pub unread : List ℕ
  pub at : AtTrailers body unread text
  pub none : HasNoSection unread
  pub may : MayBecomeSection unread
  pub short : length unread < 8192

-- What is left of a text that begins with no whole chunk: all, where its line isn't whole; or what
-- stands after that line and the bytes that it announces, which is an open line end, or trailers.
abbrev pub ChunkLeaves : List ℕ → List ℕ → Type 0
ChunkLeaves text rest =
    (HasNoChunkLine text × (rest ≡ text))
    ⊎ ((l : ChunkLine) × (behind : List ℕ) × BeginsLine text l behind
    × (rest ≡ drop (chunk_size l) behind))

-- What is left of a chunked body that isn't whole, after all whole chunks (RFC 9112, section 7.1).
pub record ChunksLeave (text rest : List ℕ) : Type 0 where
  pub chunks : List (List ℕ)
  pub after : ℕ
  pub middle : List ℕ
  pub read : Chunks 0 text chunks middle after
  pub no_more : (chunk behind : List ℕ) → ¬ (BeginsChunk after middle chunk behind)
  pub left : ChunkLeaves middle rest

-- What is left of a body so framed that isn't whole: where it has a length, all its bytes are taken
-- as they come, and none is left (RFC 9112, section 6).
abbrev pub BodyLeaves : Framing → List ℕ → List ℕ → Type 0
BodyLeaves (Sized n) text rest = rest ≡ []
BodyLeaves Chunked text rest = ChunksLeave text rest
BodyLeaves (Refused k) text rest = ⊥

-- What a step over a text comes to.
abbrev pub Goes : Framing → Next → Left → List ℕ → List ℕ → List ℕ → Type 0
Goes f On left body unread text = SoFar f left body unread text
Goes f Whole left body unread text = TakesBody f text body unread
Goes f Wait left body unread text = SoFar f left body unread text
    × (NoBody f text ⊎ ((f ≡ Chunked) × OpenTrailers text)) × BodyLeaves f text unread
Goes f (Bad kind) left body unread text = NeverTakes f text kind

-- What all steps that there are bytes for come to.
abbrev pub Comes : Framing → Fill → Left → List ℕ → List ℕ → List ℕ → Type 0
Comes f filled.Whole left body unread text = TakesBody f text body unread
Comes f filled.Wait left body unread text = SoFar f left body unread text
    × (NoBody f text ⊎ ((f ≡ Chunked) × OpenTrailers text)) × BodyLeaves f text unread
Comes f (filled.Bad kind) left body unread text = NeverTakes f text kind
