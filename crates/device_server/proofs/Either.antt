-- What a kind does, one of either kind does.
use Rattle.std.proofs.Common.{◌⊎◌, inl, inr, ℕ, List, Ok, Err}
use Rattle.demo_origin.specs.Values.{Replied}
use Rattle.demo_origin.specs.Keeps.{Answer, Fits}

pub fits_left : (p q : List ℕ → Replied → Type 0) (r : Answer)
    → Fits p r → Fits (λ after reply. p after reply ⊎ q after reply) r
fits_left p q (Ok x) h = record { kept = inl h.kept; code = h.code; short = h.short }
fits_left p q (Err e) h = tt

pub fits_right : (p q : List ℕ → Replied → Type 0) (r : Answer)
    → Fits q r → Fits (λ after reply. p after reply ⊎ q after reply) r
fits_right p q (Ok x) h = record { kept = inr h.kept; code = h.code; short = h.short }
fits_right p q (Err e) h = tt
