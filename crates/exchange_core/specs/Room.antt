-- The room of a journal that isn't sealed, in numbers.
use Rattle.std.specs.Prelude.{ℕ, ◌+◌, ◌*◌, Bool, ◌&&◌, nat_le}
use Rattle.limits.specs.declared.TheConstants.{MAX_ANSWER_SIZE, MAX_ENTRIES, MAX_JOURNAL_LEN}

-- so many entries and bytes, connections, and asks that wait
abbrev pub fits_by : ℕ → ℕ → ℕ → ℕ → Bool
fits_by entries bytes conns pending =
    nat_le (entries + conns + pending + 1) MAX_ENTRIES
    && nat_le (bytes + 64 * conns + MAX_ANSWER_SIZE * pending + 64) MAX_JOURNAL_LEN
