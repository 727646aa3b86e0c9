-- What is known after some turns: their tale, its order, and that no moment is ahead.
use Rattle.std.proofs.Common.{◌≡◌, inl, inr, ℕ, ◌≤◌, List, [], ◌∷◌, ◌++◌, append-nil, length, map, Option, Some, refl, subst, sym, ap, ◌∙◌, arith}
use Rattle.std.specs.Prelude.{slice_get}
use Rattle.std.proofs.lemmas.List.{append_cancel_left}
use Rattle.limits.specs.declared.TheConstants.{LAST_MOMENT}
use Rattle.media_map.specs.declared.form.Form.{Form}
use Rattle.ask_model.specs.Views.{Rules}
use Rattle.journal_book.specs.Entries.{Written}
use Rattle.history_laws.proofs.CallerLemmas.{none-some}
use Rattle.demo_origin.specs.Once.{Event}
use Rattle.demo_origin.specs.Values.{Device, Relation}
use Rattle.demo_origin.specs.declared.execution.Taken.{Taken}
use Rattle.exchange_core.specs.Calls.{now}
use Rattle.exchange_core.specs.Values.{CoreValue, Outgoing}
use Rattle.exchange_model.specs.Rotating.{turned}
use Rattle.exchange_model.specs.State.{State}
use Rattle.gateway_model.specs.Acts.{at}
use Rattle.gateway_model.specs.Emissions.{Emission}
use Rattle.gateway_model.specs.Going.{goes_in}
use Rattle.gateway_model.specs.Rotating.{IsRotated, IsUnrotated}
use Rattle.gateway_model.specs.Tellings.{terms_of}
use Rattle.gateway_model.proofs.CallerLemmas.{AreCopies, AreNoJournals, begins-copied, rotation-is}
use Rattle.gateway_model.specs.declared.input.Input.{Input}
use Rattle.gateway_world.specs.Inputs.{TakesActs, TakesRotation}
use Rattle.gateway_world.specs.Worlds.{WorldValue, counted, served_in, when_in}
use Rattle.gateway_world.proofs.Parted.{handled-none}
use Rattle.three_parties.specs.Flights.{by_proxy}
use Rattle.three_parties.specs.Scenes.{Scene, answered, executed, gave as gave_out, later}
use Rattle.three_parties.specs.Stories.{opening}
use Rattle.three_parties.proofs.Calling.{IsCalled, a_call, tale-called, tale-called-is, told-places}
use Rattle.three_parties.proofs.Calls.{gives}
use Rattle.three_parties.proofs.Giving.{AllHeard, tale-gave, tale-gave-is}
use Rattle.three_parties.proofs.Bearing.{Issued}
use Rattle.three_parties.proofs.Moments.{Counts}
use Rattle.three_parties.proofs.Ordering.{order-called}
use Rattle.three_parties.proofs.Orders.{IsTimely, Order, given-both, given_in, no-order, order-as, order-gave, order-later, order-turned}
use Rattle.three_parties.proofs.Stamping.{AreAt, IsSentIn, Stamps, all-stamp, goes-stand}
use Rattle.three_parties.proofs.Tales.{Tale, no-tale, no-tale-is, tale-later, tale-later-is}
use Rattle.three_parties.proofs.Tokens.{all-issue, turned-issued}
use Rattle.three_parties.proofs.Turning.{tale-turned, tale-turned-is}

pub record Known (R : Relation) (first : Device) (s : Scene) : Type 0 where
  pub tale : Tale R first s
  pub order : Order first s tale.calls tale.places
  pub timely : IsTimely s

pub known-none : (R : Relation) (rules : Rules) (first : Device) → Known R first (opening rules first)
known-none R rules first = record {
  tale = no-tale R rules first;
  order =
      let is = no-tale-is R rules first in
      order-as first (opening rules first) (no-tale R rules first).calls [] (no-tale R rules first).places [] is.0 is.1 (no-order rules first);
  timely = record { entries = omega arith; world = omega arith; last = omega arith };
}

pub known-later : (R : Relation) (first : Device) (s : Scene) (t : ℕ) → s.moment ≤ t → t ≤ LAST_MOMENT → Known R first s → Known R first (later t s)
known-later R first s t le top k =
    let a = k.timely.entries in
    let b = k.timely.world in
    record {
      tale = tale-later R first s t le k.tale;
      order =
          let tale = tale-later R first s t le k.tale in
          let is = tale-later-is R first s t le k.tale in
          order-as first (later t s) tale.calls k.tale.calls tale.places k.tale.places is.0 is.1 (order-later first s t k.tale.calls k.tale.places k.order);
      timely = record { entries = omega (arith, a, le); world = omega (arith, b, le); last = top };
    }

pub known-called : (R : Relation) (first : Device) (s : Scene) (t n : ℕ) (e : Event) (d : Device) (told : Option Taken) → s.moment ≤ t → t ≤ LAST_MOMENT
    → Known R first s → IsCalled R s t n e d told → Known R first (answered t d (executed t n told) s)
known-called R first s t n e d told le top k c =
    let a = k.timely.entries in
    let b = k.timely.world in
    record {
      tale = tale-called R first s t n e d told le k.tale c;
      order =
          let tale = tale-called R first s t n e d told le k.tale c in
          let is = tale-called-is R first s t n e d told le k.tale c in
          order-as first (answered t d (executed t n told) s) tale.calls (k.tale.calls ++ a_call e s.device d ∷ gives d d.out) tale.places
          (k.tale.places ++ told-places (length k.tale.calls) told) is.0 is.1 (order-called R first s t n e d told k.tale c k.order);
      timely = record { entries = omega (arith, a, le); world = omega (arith, b, le); last = top };
    }

-- The moment of an input is that of its turn.
pub now-is : (m w t : ℕ) → m ≤ t → w ≤ t → t ≤ LAST_MOMENT → now m (counted w t) ≡ t
now-is m w t a b top = omega (arith, a, b, top)

counted-is : (w t : ℕ) → w ≤ t → t ≤ LAST_MOMENT → counted w t ≡ t
counted-is w t a top = omega (arith, a, top)

counts-below : (t : ℕ) (S S1 : State) → S.moment ≤ t → Counts t S S1 → S1.moment ≤ t
counts-below t S S1 le (inl e) = omega (arith, le, e)
counts-below t S S1 le (inr e) = omega (arith, e)

-- The proxy gives something out, and adds to its journal.
pub known-gave : (R : Relation) (first : Device) (t : ℕ) (s : Scene) (given : List Emission) (w : WorldValue) (more : List Written) → s.moment ≤ t → t ≤ LAST_MOMENT
    → (k : Known R first s) → w.core.state.entries ≡ s.world.core.state.entries ++ more → AllHeard first k.tale.calls more → AreAt t more
    → ((n : ℕ) (d : Outgoing) → slice_get (goes_in given) n ≡ Some d → IsSentIn t more d) → AreNoJournals given
    → ((lo : ℕ) → Issued lo s.world.core.state → Issued lo w.core.state) → w.core.state.moment ≤ t → w.moment ≤ t
    → Known R first (gave_out t w given s)
known-gave R first t s given w more le top k added all bear sends silent issues entries world = record {
  tale = tale-gave R first s t w given more le k.tale added all;
  order =
      let tale = tale-gave R first s t w given more le k.tale added all in
      let is = tale-gave-is R first s t w given more le k.tale added all in
      order-as first (gave_out t w given s) tale.calls k.tale.calls tale.places k.tale.places is.0 is.1
      (order-gave first s t w given more k.tale.calls k.tale.places k.order added all bear (let late = k.tale.late in omega (arith, late, le)) sends silent issues);
  timely = record { entries = entries; world = world; last = top };
}

module _ (holds : Form → Form → List ℕ → List ℕ → Type 0) (takes : Form → Form → List ℕ → Type 0) (R : Relation) (first : Device) where
  module _ (t : ℕ) (s : Scene) (le : s.moment ≤ t) (top : t ≤ LAST_MOMENT) (k : Known R first s) where
    early : s.world.core.state.moment ≤ t
    early = let x = k.timely.entries in omega (arith, x, le)

    below : s.world.moment ≤ t
    below = let x = k.timely.world in omega (arith, x, le)

    -- acts
    pub known-acted : (i : Input) (given : List Emission) (w : WorldValue) → (a : TakesActs holds takes (record i { moment = t }) s.world given w)
        → AllHeard first k.tale.calls a.shows.more → Known R first (gave_out t w given s)
    known-acted i given w a all =
        known-gave R first t s given w a.shows.more le top k a.shows.added all bear sends
        (handled-none (terms_of holds takes s.world.rules) (record i { moment = t }) s.world w given a.handles)
        (λ lo. all-issue lo (terms_of holds takes s.world.rules) (when_in s.world (record i { moment = t })) a.handles.acts.acts (served_in s.world) a.handles.acts.given
        (served_in w) a.handles.acts.done)
        (counts-below t s.world.core.state w.core.state early stamps.counts)
        (let m = a.handles.moment ∙ counted-is s.world.moment t below top in omega (arith, m))
      where
        stamps : Stamps t s.world.core.state w.core.state
        stamps =
            subst (λ (t : ℕ). Stamps t s.world.core.state w.core.state) (now-is s.world.core.state.moment s.world.moment t early below top)
            (all-stamp (terms_of holds takes s.world.rules) (when_in s.world (record i { moment = t })) a.handles.acts.acts (served_in s.world) a.handles.acts.given (served_in w)
            a.handles.acts.done)

        bear : AreAt t a.shows.more
        bear = subst (AreAt t) (append_cancel_left s.world.core.state.entries stamps.more a.shows.more (sym stamps.added ∙ a.shows.added)) stamps.bear

        sends : (n : ℕ) (d : Outgoing) → slice_get (goes_in given) n ≡ Some d → IsSentIn t a.shows.more d
        sends n d e = goes-stand t s.world.core w.core given a.shows.more a.shows.added stamps a.sends n d e

    -- The journal isn't given out.
    pub known-refused : (i : Input) (given : List Emission) (w : WorldValue) → (r : TakesRotation holds takes (record i { moment = t }) s.world given w)
        → IsUnrotated (at (when_in s.world (record i { moment = t })) (served_in s.world)) s.world.core given w.core → Known R first (gave_out t w given s)
    known-refused i given w r u =
        known-gave R first t s given w [] le top k (ap (λ (S : State). S.entries) same ∙ sym (append-nil s.world.core.state.entries)) (λ k u b e. absurd (none-some _ e)) tt
        (λ n d e. absurd (none-some d (subst (λ (es : List Emission). slice_get (goes_in es) n ≡ Some d) u.given e)))
        (subst AreNoJournals (sym u.given) (tt, tt)) (λ lo h. subst (Issued lo) (sym same) h)
        (let m = ap (λ (S : State). S.moment) same in let e = early in omega (arith, m, e))
        (let m = r.moment ∙ counted-is s.world.moment t below top in omega (arith, m))
      where
        same : w.core.state ≡ s.world.core.state
        same = ap (λ (v : CoreValue). v.state) u.same

    -- It is.
    pub known-rotated : (i : Input) (given : List Emission) (w : WorldValue) → (r : TakesRotation holds takes (record i { moment = t }) s.world given w)
        → IsRotated (at (when_in s.world (record i { moment = t })) (served_in s.world)) s.world.core given w.core → Known R first (gave_out t w given s)
    known-rotated i given w r x = record {
      tale = tale;
      order =
          let same = tale-turned-is R first s t w given le k.tale flights copies in
          order-as first new tale.calls k.tale.calls tale.places k.tale.places same.0 same.1
          (order-turned first s new k.tale.calls k.tale.places k.order r.stands copies issued flights out refl k.tale.brought);
      timely = record {
        entries = let m : w.core.state.moment ≡ u = ap (λ (S : State). S.moment) is in omega (arith, m, turn_at);
        world = let m = r.moment ∙ counted-is s.world.moment t below top in omega (arith, m);
        last = top;
      };
    }
      where
        u : ℕ
        u = at (when_in s.world (record i { moment = t })) (served_in s.world)

        turn_at : u ≡ t
        turn_at = now-is s.world.core.state.moment s.world.moment t early below top

        new : Scene
        new = gave_out t w given s

        is : w.core.state ≡ turned u s.world.core.state
        is = (rotation-is u s.world.core.state s.world.core.state.entries w.core.state x.turned.is).is

        copies : AreCopies w.core.state.entries
        copies = subst (λ (S : State). AreCopies S.entries) (sym is) (begins-copied u s.world.core.state)

        issued : Issued s.world.core.state.issued w.core.state
        issued = subst (Issued s.world.core.state.issued) (sym is) (turned-issued u s.world.core.state)

        flights : new.flights ≡ s.flights
        flights = ap (λ (es : List Emission). s.flights ++ map (by_proxy t) (goes_in es)) x.given ∙ append-nil s.flights

        out : given_in new.out ≡ given_in s.out ++ s.world.core.state.entries ∷ []
        out = given-both s.out given ∙ ap (λ (es : List Emission). given_in s.out ++ given_in es) x.given

        tale : Tale R first new
        tale = tale-turned R first s t w given le k.tale flights copies
