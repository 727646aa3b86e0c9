-- What a file gives.
use Rattle.std.specs.Prelude.{◌≡◌, ◌==◌, ℕ, ◌+◌, ◌≤◌, ◌<◌, Bool, List, length, take, count_by, Option, Some, None, Result, Ok, Err, ⊤}
use Rattle.std.specs.Str.{IsUtf8, IsValidUpTo}
use Rattle.proxy_settings.specs.declared.file.FileFault.{FileFault}
use Rattle.proxy_settings.specs.declared.file.FileFault.TheVariants.{Unread, TooLarge, NotText, Refused, Memory}
use Rattle.proxy_settings.specs.declared.part.Part.{Part}
use Rattle.proxy_settings.specs.declared.part.Part.TheVariants as part
use Rattle.proxy_settings.specs.declared.part.Setup.{Setup}
use Rattle.proxy_settings.specs.declared.part.Setup.TheVariants as setup
use Rattle.proxy_settings.specs.Setups.{StandsFor}

-- how many bytes a file has at most
abbrev pub file_limit : ℕ
file_limit = 1048576

-- It can't be read, or memory ran out: no bytes of a file tell of these.
abbrev pub IsFailure : FileFault → Type 0
IsFailure (Unread error) = ⊤
IsFailure TooLarge = ⊥
IsFailure (NotText line) = ⊥
IsFailure (Refused line reason) = ⊥
IsFailure Memory = ⊤

-- What was read of a file with these bytes.
abbrev pub IsReadOf : {V : Type 0} → (V → List ℕ) → List ℕ → Result V FileFault → Type 0
IsReadOf items bytes (Ok read) = (items read ≡ bytes) × (length bytes ≤ file_limit)
IsReadOf items bytes (Err (Unread error)) = ⊤
IsReadOf items bytes (Err TooLarge) = file_limit < length bytes
IsReadOf items bytes (Err (NotText line)) = ⊥
IsReadOf items bytes (Err (Refused line reason)) = ⊥
IsReadOf items bytes (Err Memory) = ⊤

abbrev pub is_line_end : ℕ → Bool
is_line_end byte = byte == 10

-- how many lines there are; what comes after the last line end is one too
abbrev pub lines_in : List ℕ → ℕ
lines_in bytes = count_by is_line_end bytes + 1

-- the number of the line, from 1, in which the byte at that place stands
abbrev pub line_at : List ℕ → ℕ → ℕ
line_at bytes place = lines_in (take place bytes)

-- Text stands in front of the byte in that line, and with it there is none.
pub record IsNoTextFrom (line : ℕ) (bytes : List ℕ) : Type 0 where
  pub none : IsUtf8 bytes → ⊥
  pub len : ℕ
  pub front : IsValidUpTo bytes len
  pub at : line ≡ line_at bytes len

-- A line that is told is one of them.
abbrev pub IsLineOf : List ℕ → Option ℕ → Type 0
IsLineOf bytes None = ⊤
IsLineOf bytes (Some line) = (0 < line) × (line ≤ lines_in bytes)

-- The settings of a file with these bytes, or why it has none.
abbrev pub IsFoundIn : Part → List ℕ → Result Setup FileFault → Type 0
IsFoundIn which bytes (Ok s) = IsUtf8 bytes × StandsFor which bytes s
IsFoundIn which bytes (Err (Unread error)) = ⊤
IsFoundIn which bytes (Err TooLarge) = file_limit < length bytes
IsFoundIn which bytes (Err (NotText line)) = IsNoTextFrom line bytes
IsFoundIn which bytes (Err (Refused line reason)) =
    IsLineOf bytes line × ((s : Setup) → StandsFor which bytes s → ⊥)
IsFoundIn which bytes (Err Memory) = ⊤

-- The settings are those of the part.
abbrev pub IsOf : Part → Setup → Type 0
IsOf part.Serve (setup.Serve s) = ⊤
IsOf part.Serve (setup.Origin d) = ⊥
IsOf part.Origin (setup.Serve s) = ⊥
IsOf part.Origin (setup.Origin d) = ⊤
