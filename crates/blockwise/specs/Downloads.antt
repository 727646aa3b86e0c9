-- Which piece may follow those that came, and what they join to.
use Rattle.std.specs.Prelude.{◌&&◌, ◌||◌, ◌≡◌, ◌⊎◌, ◌<◌, IsOk, ℕ, ◌+◌, ◌^◌, Bool, true, false, not, List, [], ◌∷◌, ◌++◌, length, Option, Some, None, Result, Ok, Err, ◌==◌, nat_le, nat_lt, if◌then◌else◌}
use Rattle.limits.specs.declared.TheConstants.{MAX_BODY_LEN}
use Rattle.coap_codec.specs.Spelling.{Content}
use Rattle.coap_codec.specs.declared.block.Block.{Block}
use Rattle.blockwise.specs.Reading.{block_in, size_of, offset_in, is_alone}
use Rattle.blockwise.specs.Representations.{representation_of, same_representation}
use Rattle.blockwise.specs.declared.representation.Representation.{Representation}
use Rattle.blockwise.specs.declared.fault.BlockFault.{BlockFault}
use Rattle.blockwise.specs.declared.fault.BlockFault.TheVariants.{Changed, Size, Gap, TooLarge, Memory}
use Rattle.blockwise.specs.declared.pieces.Step.{Step}
use Rattle.blockwise.specs.declared.pieces.Step.TheVariants.{Next, Last}
use Rattle.blockwise.specs.declared.download.Progress.{Progress}
use Rattle.blockwise.specs.declared.download.Progress.TheVariants as Progresses

-- what is known of pieces that follow each other: the representation of the first, how many bytes
-- they have, and the size exponent of the last
pub record PiecesValue : Type 0 where
  pub of : Option Representation
  pub len : ℕ
  pub szx : ℕ

abbrev pub no_pieces : PiecesValue
no_pieces = record { of = None; len = 0; szx = 6 }

-- It is of another representation than the first.
abbrev pub differs : Option Representation → Content → Bool
differs None m = false
differs (Some first) m = not (same_representation first (representation_of m))

-- As long as a block where more follow, and else no longer. Without Block2 any size goes.
abbrev pub is_sized : Option Block → ℕ → Bool
is_sized None len = true
is_sized (Some b) len = if b.more then len == size_of b.szx else nat_le len (size_of b.szx)

abbrev pub is_no_larger : Option Block → ℕ → Bool
is_no_larger None szx = true
is_no_larger (Some b) szx = nat_le b.szx szx

abbrev pub fits_blocks : PiecesValue → Option Block → ℕ → Bool
fits_blocks p b len = is_sized b len && is_no_larger b p.szx

-- what keeps it from being the next piece: the first of these
abbrev pub fault_of : PiecesValue → Content → Option BlockFault
fault_of p m =
    if differs p.of m then Some Changed
    else (if not (fits_blocks p (block_in 23 m) (length m.payload)) then Some Size
    else (if not (offset_in (block_in 23 m) == p.len) then Some Gap
    else (if nat_lt MAX_BODY_LEN (p.len + length m.payload) then Some TooLarge else None)))

abbrev pub first_of : Option Representation → Content → Option Representation
first_of None m = Some (representation_of m)
first_of (Some first) m = Some first

abbrev pub last_szx : Option Block → ℕ → ℕ
last_szx None szx = szx
last_szx (Some b) szx = b.szx

abbrev pub with_piece : PiecesValue → Content → PiecesValue
with_piece p m = record {
  of = first_of p.of m;
  len = p.len + length m.payload;
  szx = last_szx (block_in 23 m) p.szx;
}

-- After a piece the next one is asked for, with the next number in the same size.
abbrev pub next_block : Block → Block
next_block b = record { num = b.num + 1; more = false; szx = b.szx }

abbrev pub step_of : Option Block → Step
step_of None = Last
step_of (Some b) = if b.more then Next (next_block b) else Last

abbrev pub Judged : Type 0
Judged = Result Step BlockFault

abbrev pub judged_by : Option BlockFault → Step → Judged
judged_by (Some fault) step = Err fault
judged_by None step = Ok step

-- whether it may be the next piece, and what comes after it
abbrev pub judged : PiecesValue → Content → Judged
judged p m = judged_by (fault_of p m) (step_of (block_in 23 m))

-- By itself it is all of a representation: the first piece and the last (RFC 7959, section 2.4).
abbrev pub is_only_piece : Content → Bool
is_only_piece m = is_alone (block_in 23 m) && is_sized (block_in 23 m) (length m.payload)

abbrev pub Added : Type 0
Added = Result (PiecesValue × Step) BlockFault

abbrev pub adds_by : Judged → PiecesValue → Added
adds_by (Err fault) p = Err fault
adds_by (Ok step) p = Ok (p, step)

-- what one more piece makes of those before it
abbrev pub adds : PiecesValue → Content → Added
adds p m = adds_by (judged p m) (with_piece p m)

-- A Block option can say it.
abbrev pub IsSayable : Block → Type 0
IsSayable b = (b.num < 2 ^ 20) × (b.szx < 7)

abbrev pub CanBeAsked : Step → Type 0
CanBeAsked (Next block) = IsSayable block
CanBeAsked Last = Unit {0}

-- a download: the pieces that came, with their bytes
pub record DownloadValue : Type 0 where
  pub of : Option Representation
  pub bytes : List ℕ
  pub szx : ℕ

abbrev pub nothing : DownloadValue
nothing = record { of = None; bytes = []; szx = 6 }

abbrev pub pieces_of : DownloadValue → PiecesValue
pieces_of d = record { of = d.of; len = length d.bytes; szx = d.szx }

-- a download as it is held, where so many more bytes want no memory
pub record HeldDownload : Type 0 where
  pub download : DownloadValue
  pub room : ℕ

-- A piece of so many bytes wants no memory: there is room, or no bytes came yet, and its own are
-- moved in.
abbrev pub has_room : ℕ → HeldDownload → Bool
has_room len h = (length h.download.bytes == 0) || nat_le len h.room

-- what is told of a piece, without where it lies in memory
pub data Told : Type 0 where
  asks : (block : Block) → Told
  is_whole : (body : List ℕ) → Told

abbrev pub told : Progress → Told
told (Progresses.Next block) = asks block
told (Progresses.Whole body) = is_whole body.items

abbrev pub NextCanBeAsked : Progress → Type 0
NextCanBeAsked (Progresses.Next block) = IsSayable block
NextCanBeAsked (Progresses.Whole body) = Unit {0}

abbrev pub goes_to : PiecesValue → Step → List ℕ → DownloadValue × Told
goes_to p (Next block) bytes =
    (record { of = p.of; bytes = bytes; szx = p.szx }, asks block)
goes_to p Last bytes = (nothing, is_whole bytes)

abbrev pub Taken : Type 0
Taken = Result (DownloadValue × Told) BlockFault

abbrev pub taken_by : Added → List ℕ → Taken
taken_by (Err fault) bytes = Err fault
taken_by (Ok x) bytes = Ok (goes_to x.0 x.1 bytes)

-- what one more piece makes of a download
abbrev pub takes : DownloadValue → Content → Taken
takes d m = taken_by (adds (pieces_of d) m) (d.bytes ++ m.payload)

-- Memory is wanted only where a piece may be joined.
abbrev pub IsRefused : BlockFault → Taken → Type 0
IsRefused fault r = (r ≡ Err fault) ⊎ ((fault ≡ Memory) × IsOk r)

-- The body that these messages give, one after the other: by the last of them, and by none before.
abbrev pub body_by : Told → Option (List ℕ) → List Content → Option (List ℕ)
body_by (asks block) later ms = later
body_by (is_whole body) later [] = Some body
body_by (is_whole body) later (m ∷ ms) = None

abbrev pub given_by : Taken → (DownloadValue → Option (List ℕ)) → List Content → Option (List ℕ)
given_by (Err fault) goes ms = None
given_by (Ok x) goes ms = body_by x.1 (goes x.0) ms

abbrev pub given : DownloadValue → List Content → Option (List ℕ)
given d [] = None
given d (m ∷ ms) = given_by (takes d m) (λ (e : DownloadValue). given e ms) ms
