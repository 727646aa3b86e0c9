-- A chunked body (RFC 9112, section 7.1): chunks, a last one of no bytes, and trailers.
use Rattle.std.specs.Prelude.{◌≡◌, ◌⊎◌, ℕ, ◌+◌, ◌<◌, ◌≤◌, List, [], ◌∷◌, ◌++◌, length, take}
use Rattle.limits.specs.declared.TheConstants.{MAX_BODY_LEN}
use Rattle.httparse.specs.Ascii.{crlf_bytes}
use Rattle.httparse.specs.Grammar.{ChunkLine, print_chunk_line, chunk_size, ReadsChunkLine, HasNoChunkLine, NeverHasChunkLine, Field, LineEnd, print_section, ReadsSection, HasNoSection}
use Rattle.httparse.specs.Spans.{SectionOverflows}
use Rattle.http_edge.specs.declared.request.BadKind.{BadKind}
use Rattle.http_edge.specs.declared.request.BadKind.TheVariants.{Syntax, Large}

-- A text begins with the chunk line, within the limit, and goes on after it.
pub record BeginsLine (text : List ℕ) (l : ChunkLine) (behind : List ℕ) : Type 0 where
  pub reads : ReadsChunkLine text l behind
  pub short : length (print_chunk_line l) ≤ 256

-- No continuation begins with a chunk line within the limit.
abbrev pub NeverLine : List ℕ → Type 0
NeverLine text = NeverHasChunkLine text ⊎ ((256 < length text) × HasNoChunkLine (take 256 text))

-- A text begins with trailers, within the limits.
pub record BeginsTrailers (text rest : List ℕ) : Type 0 where
  pub fields : List Field
  pub last : LineEnd
  pub reads : ReadsSection text fields last rest
  pub short : length (print_section fields last) ≤ 8192
  pub few : length fields ≤ 64

-- No continuation begins with trailers within the limits.
abbrev pub NeverTrailers : List ℕ → Type 0
NeverTrailers text = SectionOverflows 64 text
    ⊎ ((8192 ≤ length text) × HasNoSection (take 8192 text))

-- So many bytes, and a line end after them.
abbrev pub BeginsData : ℕ → List ℕ → List ℕ → List ℕ → Type 0
BeginsData size text bytes rest = (length bytes ≡ size) × (text ≡ bytes ++ (crlf_bytes ++ rest))

-- No continuation has a line end after so many bytes.
abbrev pub NeverData : ℕ → List ℕ → Type 0
NeverData size text = (more bytes rest : List ℕ) → BeginsData size (text ++ more) bytes rest → ⊥

-- A text begins with a chunk of those bytes, where so many came before it.
pub record BeginsChunk (before : ℕ) (text bytes rest : List ℕ) : Type 0 where
  pub line : ChunkLine
  pub behind : List ℕ
  pub begins : BeginsLine text line behind
  pub some : 0 < chunk_size line
  pub fits : before + chunk_size line ≤ MAX_BODY_LEN
  pub whole : BeginsData (chunk_size line) behind bytes rest

-- A text begins with the last chunk and trailers.
pub record BeginsLast (text rest : List ℕ) : Type 0 where
  pub line : ChunkLine
  pub behind : List ℕ
  pub begins : BeginsLine text line behind
  pub none : chunk_size line ≡ 0
  pub trailers : BeginsTrailers behind rest

-- Why what stands after a chunk line is refused.
abbrev pub RefusedBehind : ℕ → ℕ → List ℕ → BadKind → Type 0
RefusedBehind before size text kind =
    ((MAX_BODY_LEN < before + size) × (kind ≡ Large))
    ⊎ (((0 < size) × (before + size ≤ MAX_BODY_LEN) × NeverData size text × (kind ≡ Syntax))
    ⊎ ((size ≡ 0) × (before + size ≤ MAX_BODY_LEN) × NeverTrailers text × (kind ≡ Syntax)))

pub record RefusedLine (before : ℕ) (text : List ℕ) (kind : BadKind) : Type 0 where
  pub line : ChunkLine
  pub behind : List ℕ
  pub begins : BeginsLine text line behind
  pub refused : RefusedBehind before (chunk_size line) behind kind

-- What stands where a chunk begins is refused.
abbrev pub RefusedChunk : ℕ → List ℕ → BadKind → Type 0
RefusedChunk before text kind = (NeverLine text × (kind ≡ Syntax)) ⊎ RefusedLine before text kind

-- A text is chunks of those bytes, and then the last.
abbrev pub TakesChunks : ℕ → List ℕ → List (List ℕ) → List ℕ → Type 0
TakesChunks before text [] rest = BeginsLast text rest
TakesChunks before text (c ∷ cs) rest = (behind : List ℕ) × BeginsChunk before text c behind
    × TakesChunks (before + length c) behind cs rest

-- A text is chunks of those bytes, and then something refused.
abbrev pub FailsChunks : ℕ → List ℕ → List (List ℕ) → BadKind → Type 0
FailsChunks before text [] kind = RefusedChunk before text kind
FailsChunks before text (c ∷ cs) kind = (behind : List ℕ) × BeginsChunk before text c behind
    × FailsChunks (before + length c) behind cs kind
