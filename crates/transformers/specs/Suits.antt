-- What a caller of a bank states.
use Rattle.std.specs.Prelude.{◌≡◌, ℕ, List, map}
use Rattle.media_map.specs.declared.form.Form.{Form}
use Rattle.transformers.specs.Keeps.{AllKeep, pair_of}
use Rattle.transformers.specs.declared.bank.Bank.{Bank}

-- A bank suits a list of routes if its transformers keep the relation, and their pairs are the
-- routes.
pub record Suits {R X : Type 0} {F : X → Type 0} {g : _}
    (holds : Form → Form → List ℕ → List ℕ → Type 0) (takes : Form → Form → List ℕ → Type 0)
    (routes : List (Form × Form)) (bank : Bank R X F g) : Type 0 where
  pub keep : AllKeep holds takes bank.stored.items
  pub routes_are : routes ≡ map pair_of bank.stored.items
