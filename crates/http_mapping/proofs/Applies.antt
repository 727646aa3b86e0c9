-- What a bank made of a body.
use Rattle.std.proofs.Common.{◌≡◌, ℕ, ◌≤◌, List, length}
use Rattle.std.specs.declared.alloc.Global.{Global}
use Rattle.std.specs.declared.vec.Vec.{Vec}
use Rattle.std.specs.List.{Contains}
use Rattle.media_map.specs.declared.form.Form.{Form}
use Rattle.http_mapping.specs.declared.applying.Made.{Made}
use Rattle.http_mapping.specs.declared.applying.Made.TheVariants as A
use Rattle.http_mapping.specs.Means.{FailsTo}
use Rattle.http_mapping.specs.Showings.{IsApplied}

module _ (routes : List (Form × Form)) (holds : Form → Form → List ℕ → List ℕ → Type 0) (takes : Form → Form → List ℕ → Type 0)
    (from to : Form) (body : List ℕ) (m : Made) where
  pub made_bytes : (bytes : Vec ℕ Global) → m ≡ A.Bytes bytes → IsApplied routes holds takes from to body m
      → Contains routes (from, to) × holds from to body bytes.items × (length bytes.items ≤ 65536)
  made_bytes bytes is h = let t : IsApplied routes holds takes from to body (A.Bytes bytes) = rw is at h in t

  pub made_nothing : m ≡ A.Nothing → IsApplied routes holds takes from to body m → Contains routes (from, to) → ⊥
  made_nothing is h = let t : IsApplied routes holds takes from to body A.Nothing = rw is at h in t

  pub made_failed : m ≡ A.Failed → IsApplied routes holds takes from to body m → Contains routes (from, to) × FailsTo holds takes from to body
  made_failed is h = let t : IsApplied routes holds takes from to body A.Failed = rw is at h in t
