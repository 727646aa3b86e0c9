-- The journal is turned over.
use Rattle.std.proofs.Common.{◌≡◌, ℕ, zero, suc, ◌≤◌, List, [], ◌∷◌, Some, refl, sym, subst, arith}
use Rattle.std.specs.Prelude.{slice_get}
use Rattle.journal_book.specs.Entries.{Written}
use Rattle.history_laws.proofs.CallerLemmas.{none-some, some-is}
use Rattle.demo_origin.specs.Values.{Device, Relation}
use Rattle.gateway_model.specs.Emissions.{Emission}
use Rattle.gateway_model.proofs.CallerLemmas.{AreCopies}
use Rattle.gateway_world.specs.Worlds.{WorldValue}
use Rattle.three_parties.specs.Flights.{Going}
use Rattle.three_parties.specs.Scenes.{Scene, gave as gave_out}
use Rattle.three_parties.proofs.Tales.{Tale, IsBroughtBy, IsDoneBy}

-- Each entry of a journal of copies is one.
pub copy-at : (ws : List Written) → AreCopies ws → (n : ℕ) (w : Written) → slice_get ws n ≡ Some w → AreCopies (w ∷ [])
copy-at [] copies n w e = absurd (none-some w e)
copy-at (y ∷ ys) copies zero w e = subst (λ (w : Written). AreCopies (w ∷ [])) (some-is y w e) (copies.0, tt)
copy-at (y ∷ ys) copies (suc n) w e = copy-at ys copies.1 n w e

-- What happened until then is told of the same calls.
pub tale-turned : (R : Relation) (first : Device) (s : Scene) (t : ℕ) (w : WorldValue) (given : List Emission) → s.moment ≤ t → (h : Tale R first s)
    → (gave_out t w given s).flights ≡ s.flights → AreCopies w.core.state.entries → Tale R first (gave_out t w given s)
tale-turned R first s t w given le h flights copies =
    let late = h.late in
    record {
      calls = h.calls;
      places = h.places;
      follow = h.follow;
      left = h.left;
      timed = h.timed;
      late = omega (arith, late, le);
      before = λ n g e. let b = h.before n g (subst (λ (fs : List Going). slice_get fs n ≡ Some g) flights e) in omega (arith, b, le);
      brought = λ a u p d k c e c_is. subst (λ (fs : List Going). IsBroughtBy fs u p d) (sym flights) (h.brought a u p d k c e c_is);
      given = λ n g e device. h.given n g (subst (λ (fs : List Going). slice_get fs n ≡ Some g) flights e) device;
      heard_it = λ n u bytes e. absurd (copy-at w.core.state.entries copies n _ e).0;
      done = λ e y k. subst (λ (fs : List Going). IsDoneBy fs h.calls h.places e y) (sym flights) (h.done e y k);
      told = h.told;
      apart = h.apart;
      below = h.below;
      few = h.few;
    }

pub tale-turned-is : (R : Relation) (first : Device) (s : Scene) (t : ℕ) (w : WorldValue) (given : List Emission) (le : s.moment ≤ t) (h : Tale R first s)
    (flights : (gave_out t w given s).flights ≡ s.flights) (copies : AreCopies w.core.state.entries)
    → ((tale-turned R first s t w given le h flights copies).calls ≡ h.calls) × ((tale-turned R first s t w given le h flights copies).places ≡ h.places)
unfolding tale-turned
tale-turned-is R first s t w given le h flights copies = (refl, refl)
