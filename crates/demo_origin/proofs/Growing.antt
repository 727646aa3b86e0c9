-- What observers are told goes out after what was to go out before.
use Rattle.std.proofs.Common.{◌≡◌, ℕ, zero, suc, List, [], ◌∷◌, ◌++◌, append_assoc, append-nil, slice_get, length, Option, Some, None, Bool, true, false, sym, ap, ◌∙◌}
use Rattle.demo_origin.specs.Notifying.{Talk, newer, is_busy, TellsNewer, TellsUnless, TellsOf, TellsFirst, TellsAll}
use Rattle.demo_origin.specs.declared.state.Datagram.{Datagram}
use Rattle.demo_origin.specs.declared.state.Held.{Held}
use Rattle.demo_origin.specs.declared.state.Observer.{Observer}

pub record Grows (old new : Talk) : Type 0 where
  pub more : List Datagram
  pub is : new.out ≡ old.out ++ more

same : (old new : Talk) → new ≡ old → Grows old new
same old new e =
    record { more = []; is = ap (λ (k : Talk). k.out) e ∙ sym (append-nil old.out) }

newer_grows : (t szx i : ℕ) (h : Option Held) (o : Observer) (old new : Talk)
    → TellsNewer t szx i h o old new → Grows old new
newer_grows t szx i None o old new e = same old new e
newer_grows t szx i (Some h) o old new x =
    record {
      more = record { peer = o.peer; bytes = x.bytes } ∷ [];
      is = ap (λ (k : Talk). k.out) x.is;
    }

unless_grows : (b : Bool) (t szx : ℕ) (rs : List Held) (i : ℕ) (o : Observer) (old new : Talk)
    → TellsUnless b t szx rs i o old new → Grows old new
unless_grows true t szx rs i o old new e = same old new e
unless_grows false t szx rs i o old new x = newer_grows t szx i (newer rs o) o old new x

of_grows : (t szx : ℕ) (rs : List Held) (i : ℕ) (o : Option Observer) (old new : Talk)
    → TellsOf t szx rs i o old new → Grows old new
of_grows t szx rs i None old new e = same old new e
of_grows t szx rs i (Some o) old new x =
    unless_grows (is_busy o.peer old.observers) t szx rs i o old new x

first_grows : (t szx : ℕ) (rs : List Held) (n : ℕ) (old new : Talk)
    → TellsFirst t szx rs n old new → Grows old new
first_grows t szx rs zero old new e = same old new e
first_grows t szx rs (suc n) old new x =
    let a = first_grows t szx rs n old x.0 x.1 in
    let b = of_grows t szx rs n (slice_get x.0.observers n) x.0 new x.2 in
    record {
      more = a.more ++ b.more;
      is = b.is ∙ ap (λ (ds : List Datagram). ds ++ b.more) a.is
          ∙ append_assoc old.out a.more b.more;
    }

pub all_grow : (t szx : ℕ) (rs : List Held) (old new : Talk)
    → TellsAll t szx rs old new → Grows old new
all_grow t szx rs old new x = first_grows t szx rs (length old.observers) old new x
