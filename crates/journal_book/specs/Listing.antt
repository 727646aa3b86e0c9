-- Numbers, wherever they are kept.
use Rattle.std.specs.Prelude.{ℕ, List, [], ◌∷◌}
use Rattle.journal_book.specs.declared.numbers.Items.{Items}
use Rattle.journal_book.specs.declared.numbers.Items.TheVariants.{One, Many}

abbrev pub listed : Items → List ℕ
listed (One number) = number ∷ []
listed (Many numbers) = numbers.items
