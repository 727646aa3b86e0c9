-- The proxy takes an input, and gives datagrams out.
use Rattle.std.proofs.Common.{◌≡◌, ℕ, zero, suc, ◌≤◌, inl, inr, List, [], ◌∷◌, ◌++◌, map, refl, sym, ap, subst, arith}
use Rattle.uri_map.specs.declared.peer.Peer.{Peer}
use Rattle.journal_book.specs.Entries.{Hears, Written}
use Rattle.history_laws.proofs.CallerLemmas.{none-some, some-is}
use Rattle.history_claims.specs.Headline.{IsEntry}
use Rattle.demo_origin.specs.Calls.{Call}
use Rattle.demo_origin.specs.Values.{Device, Relation}
use Rattle.gateway_model.specs.Emissions.{Emission}
use Rattle.gateway_model.specs.Going.{goes_in}
use Rattle.gateway_model.specs.Hearing.{IsUnheard, AreUnheard}
use Rattle.gateway_world.specs.Worlds.{WorldValue}
use Rattle.three_parties.specs.Flights.{Going, Sender, ByProxy, ByDevice, by_proxy, device_at, proxy_at}
use Rattle.three_parties.specs.Scenes.{Scene, gave as gave_out}
use Rattle.three_parties.specs.declared.story.Execution.{Execution}
use Rattle.three_parties.proofs.Calls.{WasGiven}
use Rattle.three_parties.proofs.Lists.{got-both, got-front, got-map}
use Rattle.three_parties.proofs.Tales.{IsBroughtBy, IsDoneBy, Tale}

abbrev pub AllHeard : Device → List Call → List Written → Type 0
AllHeard first calls more = (k t : ℕ) (bytes : List ℕ) → IsEntry more k t (Hears device_at bytes) → WasGiven first calls proxy_at bytes

pub none-heard : (first : Device) (calls : List Call) (more : List Written) → AreUnheard more → AllHeard first calls more
none-heard first calls [] h k t bytes e = absurd (none-some _ e)
none-heard first calls (w ∷ ws) h zero t bytes e =
    absurd (subst IsUnheard (ap (λ (v : Written). v.deed) (some-is w _ e)) h.0)
none-heard first calls (w ∷ ws) h (suc k) t bytes e = none-heard first calls ws h.1 k t bytes e

pub brought-later : (flights more : List Going) (t : ℕ) (p : Peer) (d : List ℕ) → IsBroughtBy flights t p d → IsBroughtBy (flights ++ more) t p d
brought-later flights more t p d b = record {
  from = b.from;
  number = b.number;
  flight = b.flight;
  stands = got-front flights more b.number b.flight b.stands;
  by = b.by;
  to = b.to;
  bytes = b.bytes;
  after = b.after;
  within = b.within;
}

done-later : (flights more : List Going) (calls : List Call) (places : List ℕ) (e : ℕ) (y : Execution)
    → IsDoneBy flights calls places e y → IsDoneBy (flights ++ more) calls places e y
done-later flights more calls places e y b =
    record {
      place = b.place;
      call = b.call;
      placed = b.placed;
      stands = b.stands;
      flight = b.flight;
      sent = got-front flights more y.number b.flight b.sent;
      by = b.by;
      comes = b.comes;
    }

not-both : (s : Sender) → s ≡ ByProxy → s ≡ ByDevice → ⊥
not-both s e f = cc

pub tale-gave : (R : Relation) (first : Device) (s : Scene) (t : ℕ) (w : WorldValue) (given : List Emission) (more : List Written)
    → s.moment ≤ t → (h : Tale R first s) → w.core.state.entries ≡ s.world.core.state.entries ++ more
    → AllHeard first h.calls more → Tale R first (gave_out t w given s)
tale-gave R first s t w given more le h added all =
    let late = h.late in
    let out = map (by_proxy t) (goes_in given) in
    record {
      calls = h.calls;
      places = h.places;
      follow = h.follow;
      left = h.left;
      timed = h.timed;
      late = omega (arith, late, le);
      before = λ n g e. elim (got-both s.flights out n g e) [
        | inl k ↦ let b = h.before n g k in omega (arith, b, le)
        | inr k ↦ let it = got-map (by_proxy t) (goes_in given) k.0 g k.2 in
            subst (λ (g : Going). g.moment ≤ t) it.2 (omega arith)
      ];
      brought = λ a u p d k c e c_is. brought-later s.flights out u p d (h.brought a u p d k c e c_is);
      given = λ n g e device. elim (got-both s.flights out n g e) [
        | inl k ↦ h.given n g k device
        | inr k ↦ let it = got-map (by_proxy t) (goes_in given) k.0 g k.2 in
            absurd (not-both g.by (sym (ap (λ (g : Going). g.by) it.2)) device)
      ];
      heard_it = λ n u bytes e.
          elim (got-both s.world.core.state.entries more n _ (subst (λ (x : List Written). IsEntry x n u (Hears device_at bytes)) added e)) [
            | inl k ↦ h.heard_it n u bytes k
            | inr k ↦ all k.0 u bytes k.2
          ];
      done = λ e y k. done-later s.flights out h.calls h.places e y (h.done e y k);
      told = h.told;
      apart = h.apart;
      below = h.below;
      few = h.few;
    }

pub tale-gave-is : (R : Relation) (first : Device) (s : Scene) (t : ℕ) (w : WorldValue) (given : List Emission) (more : List Written)
    (le : s.moment ≤ t) (h : Tale R first s) (added : w.core.state.entries ≡ s.world.core.state.entries ++ more) (all : AllHeard first h.calls more)
    → ((tale-gave R first s t w given more le h added all).calls ≡ h.calls) × ((tale-gave R first s t w given more le h added all).places ≡ h.places)
unfolding tale-gave
tale-gave-is R first s t w given more le h added all = (refl, refl)
