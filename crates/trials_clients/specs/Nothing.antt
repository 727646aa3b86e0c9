-- A relation that relates nothing.
use Rattle.std.specs.Prelude.{ℕ, List}
use Rattle.media_map.specs.declared.form.Form.{Form}

abbrev pub HoldsNothing : Form → Form → List ℕ → List ℕ → Type 0
HoldsNothing from to input output = ⊥

abbrev pub TakesNothing : Form → Form → List ℕ → Type 0
TakesNothing from to input = ⊥
