-- The marks of exchanges: digests of what they were opened for, by which those of one key, and
-- those of one place, are found.
use Rattle.std.specs.Prelude.{ℕ, ◌%◌, Bool, ◌==◌, List, map}
use Rattle.cache_key.specs.declared.digest.Digests.{Digests}
use Rattle.exchange_model.specs.declared.kept.Exchange.{Exchange}
use Rattle.exchange_table.specs.declared.index.Named.{Named}
use Rattle.exchange_table.specs.declared.marks.Mark.{Mark}
use Rattle.exchange_table.specs.Groups.{AreGrouped}
use Rattle.exchange_table.specs.Tables.{IsIndexed}

abbrev pub digest_in : Mark → ℕ
digest_in m = m.digest

abbrev pub opening_marked : Mark → ℕ
opening_marked m = m.opening

abbrev pub has_digest : ℕ → Mark → Bool
has_digest d m = m.digest == d

abbrev pub is_mark_of : ℕ → Mark → Bool
is_mark_of o m = m.opening == o

-- the lower halves of those of keys, and of places
abbrev pub key_in : Digests → ℕ
key_in d = d.key % 4294967296

abbrev pub place_in : Digests → ℕ
place_in d = d.place % 4294967296

-- the mark of an exchange by that of its digests
abbrev pub mark_by : (Digests → ℕ) → Exchange → Mark
mark_by n e = record { digest = n e.digests; opening = e.opening }

-- The marks are those of the exchanges, and those of one digest stand together.
abbrev pub AreMarked : (Digests → ℕ) → List Exchange → List Mark → Type 0
AreMarked n es marks = AreGrouped digest_in (map (mark_by n) es) marks

-- The index of tokens and the marks, by key and by place, are those of the exchanges.
pub record IsTable (es : List Exchange) (names : List Named)
    (keys places : List Mark) : Type 0 where
  pub indexed : IsIndexed es names
  pub keyed : AreMarked key_in es keys
  pub placed : AreMarked place_in es places
