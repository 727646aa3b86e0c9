-- What holds after some turns holds after one more.
use Rattle.std.proofs.Common.{◌≡◌, ℕ, zero, suc, ◌+◌, ◌≤◌, Bool, true, false, cond, ltb, inl, inr, List, [], ◌∷◌, Option, Some, None, refl, sym, ap, subst, ◌∙◌, arith}
use Rattle.std.specs.Prelude.{slice_get}
use Rattle.std.specs.Borrow.{Bor}
use Rattle.std.proofs.lemmas.Bool.{ltb-false}
use Rattle.limits.specs.declared.TheConstants.{LAST_MOMENT}
use Rattle.media_map.specs.declared.form.Form.{Form}
use Rattle.uri_map.specs.declared.peer.Peer.{Peer}
use Rattle.uri_map.specs.Peers.{same_peer}
use Rattle.uri_map.proofs.CallerLemmas.{same_peer-same}
use Rattle.journal_book.specs.Entries.{Hears, Written}
use Rattle.history_laws.proofs.CallerLemmas.{none-some, some-is}
use Rattle.history_claims.specs.Headline.{IsEntry}
use Rattle.demo_origin.specs.Calls.{Call}
use Rattle.demo_origin.specs.Once.{heard, looked, Steps}
use Rattle.demo_origin.specs.Values.{Device, Relation}
use Rattle.demo_origin.specs.declared.execution.Taken.{Taken}
use Rattle.gateway_model.specs.declared.input.Happening.{Happening}
use Rattle.gateway_model.specs.declared.input.Happening.TheVariants as H
use Rattle.gateway_model.specs.declared.input.Input.{Input}
use Rattle.gateway_model.specs.Hearing.{AreUnheard, BeginsBy, ShowsWhatCame}
use Rattle.gateway_world.specs.Inputs.{Takes}
use Rattle.gateway_world.specs.Worlds.{WorldValue, Shows, counted}
use Rattle.story_laws.specs.declared.TheConstants.{LONGEST_WAY}
use Rattle.three_parties.specs.Flights.{Going, Sender, ByProxy, ByDevice, device_at, proxy_at, Reach, ToProxy, ToDevice, Nowhere, reach, reach_by}
use Rattle.three_parties.specs.Scenes.{Scene, answered, executed, gave as gave_out, ProxyTakes, ProxyHears, Reaches, TakesInput, TakesTurn, TakesTurns}
use Rattle.three_parties.specs.declared.turn.Turn.{Turn}
use Rattle.three_parties.specs.declared.turn.Turn.TheVariants as T
use Rattle.three_parties.proofs.Calls.{WasGiven}
use Rattle.three_parties.proofs.Giving.{AllHeard, none-heard}
use Rattle.three_parties.proofs.Knowing.{Known, known-acted, known-called, known-later, known-refused, known-rotated}

-- what an input shows that is no datagram
hush : (i : Input) (a b : WorldValue) (x : Happening) → i.happening ≡ x
    → ((u : ℕ) (a b : WorldValue) (more : List Written) → ShowsWhatCame x u a.core.state b.core.state more → AreUnheard more)
    → (s : Shows i a b) → AreUnheard s.more
hush i a b x is none s =
    let quiet : (u : ℕ) (a b : WorldValue) (more : List Written) → ShowsWhatCame i.happening u a.core.state b.core.state more → AreUnheard more =
    subst (λ (x : Happening). (u : ℕ) (a b : WorldValue) (more : List Written) → ShowsWhatCame x u a.core.state b.core.state more → AreUnheard more) (sym is) none in
    quiet _ a b s.more s.shown

-- ---- turns

pub counted-later : (last m : ℕ) → last ≤ counted last m
counted-later last m = omega arith

pub counted-last : (last m : ℕ) → last ≤ LAST_MOMENT → counted last m ≤ LAST_MOMENT
counted-last last m top = omega (arith, top)

looked-not : (t u : ℕ) (p : Peer) (b : List ℕ) (k : Option Taken) → looked t ≡ heard u p b k → ⊥
looked-not t u p b k e = cc

no-told : (x : Taken) → None ≡ Some x → ⊥
no-told x e = none-some x e

pub known-looked : (R : Relation) (first : Device) (s : Scene) (t : ℕ) (d : Device) → s.moment ≤ t → t ≤ LAST_MOMENT → Known R first s
    → Steps R (looked t) s.device d → Known R first (answered t d [] s)
known-looked R first s t d le top k steps =
    known-called R first s t 0 (looked t) d None le top k (record {
      steps = steps;
      moment = λ u. refl;
      brought = λ u p b k e. absurd (looked-not t u p b k e);
      tells = λ x e. absurd (no-told x e);
    })

-- what a datagram reaches
reaches-device : (t : ℕ) (o : Option Going) (bytes : List ℕ) → reach t o ≡ ToDevice bytes
    → (g : Going) × (o ≡ Some g) × (g.by ≡ ByProxy) × (g.peer ≡ device_at) × (g.bytes ≡ bytes) × (t ≤ g.moment + LONGEST_WAY)
reaches-device t None bytes e = absurd cc
reaches-device t (Some g) bytes e = go (ltb (g.moment + LONGEST_WAY) t) refl e
  where
    to-device : (b : Bool) → same_peer g.peer device_at ≡ b → cond b (ToDevice g.bytes) Nowhere ≡ ToDevice bytes
        → (g.peer ≡ device_at) × (g.bytes ≡ bytes)
    to-device true same f = (same_peer-same g.peer device_at same, let P : ToDevice g.bytes ≡ ToDevice bytes = f in cc)
    to-device false same f = absurd cc

    by : (s : Sender) → g.by ≡ s → reach_by s g.peer g.bytes ≡ ToDevice bytes → (g.by ≡ ByProxy) × ((g.peer ≡ device_at) × (g.bytes ≡ bytes))
    by ByProxy is f = (is, to-device (same_peer g.peer device_at) refl f)
    by ByDevice is f = absurd (other (same_peer g.peer proxy_at) f)
      where
        other : (b : Bool) → cond b (ToProxy g.bytes) Nowhere ≡ ToDevice bytes → ⊥
        other true f = cc
        other false f = cc

    go : (b : Bool) → ltb (g.moment + LONGEST_WAY) t ≡ b → cond b Nowhere (reach_by g.by g.peer g.bytes) ≡ ToDevice bytes
        → (k : Going) × (Some g ≡ Some k) × (k.by ≡ ByProxy) × (k.peer ≡ device_at) × (k.bytes ≡ bytes) × (t ≤ k.moment + LONGEST_WAY)
    go true is f = absurd cc
    go false is f =
        let it = by g.by refl f in
        let le = ltb-false (g.moment + LONGEST_WAY) t is in
        (g, refl, it.0, it.1.0, it.1.1, omega (arith, le))

reaches-proxy : (t : ℕ) (o : Option Going) (bytes : List ℕ) → reach t o ≡ ToProxy bytes
    → (g : Going) × (o ≡ Some g) × (g.by ≡ ByDevice) × (g.peer ≡ proxy_at) × (g.bytes ≡ bytes)
reaches-proxy t None bytes e = absurd cc
reaches-proxy t (Some g) bytes e = go (ltb (g.moment + LONGEST_WAY) t) e
  where
    to-proxy : (b : Bool) → same_peer g.peer proxy_at ≡ b → cond b (ToProxy g.bytes) Nowhere ≡ ToProxy bytes
        → (g.peer ≡ proxy_at) × (g.bytes ≡ bytes)
    to-proxy true same f = (same_peer-same g.peer proxy_at same, let P : ToProxy g.bytes ≡ ToProxy bytes = f in cc)
    to-proxy false same f = absurd cc

    by : (s : Sender) → g.by ≡ s → reach_by s g.peer g.bytes ≡ ToProxy bytes → (g.by ≡ ByDevice) × ((g.peer ≡ proxy_at) × (g.bytes ≡ bytes))
    by ByDevice is f = (is, to-proxy (same_peer g.peer proxy_at) refl f)
    by ByProxy is f = absurd (other (same_peer g.peer device_at) f)
      where
        other : (b : Bool) → cond b (ToDevice g.bytes) Nowhere ≡ ToProxy bytes → ⊥
        other true f = cc
        other false f = cc

    go : (b : Bool) → cond b Nowhere (reach_by g.by g.peer g.bytes) ≡ ToProxy bytes
        → (k : Going) × (Some g ≡ Some k) × (k.by ≡ ByDevice) × (k.peer ≡ proxy_at) × (k.bytes ≡ bytes)
    go true f = absurd cc
    go false f = let it = by g.by refl f in (g, refl, it.0, it.1.0, it.1.1)

heard-same : (t u : ℕ) (p q : Peer) (a b : List ℕ) (k x : Option Taken) → heard t p a k ≡ heard u q b x
    → (t ≡ u) × (p ≡ q) × (a ≡ b) × (k ≡ x)
heard-same t u p q a b k x e = (cc, cc, cc, cc)

pub known-heard : (R : Relation) (first : Device) (s : Scene) (t n : ℕ) (bytes : List ℕ) (d : Device) (told : Option Taken) → s.moment ≤ t
    → t ≤ LAST_MOMENT → Known R first s → reach t (slice_get s.flights n) ≡ ToDevice bytes → Steps R (heard t proxy_at bytes told) s.device d
    → Known R first (answered t d (executed t n told) s)
known-heard R first s t n bytes d told le top h to steps =
    let it = reaches-device t (slice_get s.flights n) bytes to in
    let before = h.tale.before n it.0 it.1 in
    known-called R first s t n (heard t proxy_at bytes told) d told le top h (record {
      steps = steps;
      moment = λ u. refl;
      brought = λ u p b k e.
          let same = heard-same t u proxy_at p bytes b told k e in
          let moment = same.0 in
          let within = it.5 in (
            record {
              from = sym same.1;
              number = n;
              flight = it.0;
              stands = it.1;
              by = it.2;
              to = it.3;
              bytes = it.4 ∙ same.2;
              after = omega (arith, before, le, moment);
              within = omega (arith, within, moment);
            },
            sym same.3,
          );
      tells = λ x e. (it.0, it.1, it.2, ap (λ (b : List ℕ). heard t proxy_at b told) (sym it.4) ∙ ap (λ (o : Option Taken). heard t proxy_at it.0.bytes o) e);
    })

module _ (holds : Form → Form → List ℕ → List ℕ → Type 0) (takes : Form → Form → List ℕ → Type 0) (R : Relation) (first : Device) where
  -- an input that hears nothing
  quiet : (t : ℕ) (i : Input) (old new : Scene) → old.moment ≤ t → t ≤ LAST_MOMENT → (x : Happening) → i.happening ≡ x
      → ((u : ℕ) (a b : WorldValue) (more : List Written) → ShowsWhatCame x u a.core.state b.core.state more → AreUnheard more)
      → ProxyTakes holds takes R t i old new → Known R first old → Known R first new
  quiet t i old new le top x is none p h = subst (Known R first) (sym p.is) (by p.takes_it)
    where
      by : Takes holds takes (record i { moment = t }) old.world p.given p.world → Known R first (gave_out t p.world p.given old)
      by (inl a) =
          let unheard = hush (record i { moment = t }) old.world p.world x is none a.shows in
          known-acted holds takes R first t old le top h i p.given p.world a (none-heard first h.tale.calls a.shows.more unheard)
      by (inr r) = elim (r.rotates) [
        | inl k ↦ known-rotated holds takes R first t old le top h i p.given p.world r k
        | inr k ↦ known-refused holds takes R first t old le top h i p.given p.world r k
      ]

  input : (t : ℕ) (i : Input) (old new : Scene) → old.moment ≤ t → t ≤ LAST_MOMENT → (x : Happening) → i.happening ≡ x
      → TakesInput holds takes R t i x old new → Known R first old → Known R first new
  input t i old new le top (H.Datagram p b) is e h = subst (Known R first) (sym e) (known-later R first old t le top h)
  input t i old new le top H.Open is e h = quiet t i old new le top H.Open is (λ u a b more k. k) e h
  input t i old new le top (H.Bytes c b) is e h = quiet t i old new le top (H.Bytes c b) is (λ u a b more k. k) e h
  input t i old new le top H.Tick is e h = quiet t i old new le top H.Tick is (λ u a b more k. k) e h
  input t i old new le top (H.Close c) is e h = quiet t i old new le top (H.Close c) is (λ u a b more k. k) e h
  input t i old new le top H.Rotate is e h = quiet t i old new le top H.Rotate is (λ u a b more k. k) e h

  -- a datagram of the device's, and nothing else, is heard
  one-heard : (calls : List Call) (b : Bor (List ℕ)) (bytes : List ℕ) (u : ℕ) (more : List Written) → b.now ≡ bytes
      → WasGiven first calls proxy_at bytes → BeginsBy u (Hears device_at b.now) more → AllHeard first calls more
  one-heard calls b bytes u more has given begins k t d e =
      go k (subst (λ (ws : List Written). IsEntry ws k t (Hears device_at d)) begins.are e)
    where
      hears-same : (p q : Peer) (x y : List ℕ) → Hears p x ≡ Hears q y → x ≡ y
      hears-same p q x y e = cc

      go : (k : ℕ) → IsEntry (record { moment = u; deed = Hears device_at b.now } ∷ begins.rest) k t (Hears device_at d) → WasGiven first calls proxy_at d
      go zero f =
          let same : b.now ≡ d = hears-same device_at device_at b.now d (ap (λ (w : Written). w.deed) (some-is _ _ f)) in
          subst (λ (d : List ℕ). WasGiven first calls proxy_at d) (sym has ∙ same) given
      go (suc k) f = none-heard first calls begins.rest begins.unheard k t d f

  proxy : (t word n : ℕ) (bytes : List ℕ) (old new : Scene) → old.moment ≤ t → t ≤ LAST_MOMENT → reach t (slice_get old.flights n) ≡ ToProxy bytes
      → ProxyHears holds takes R t word bytes old new → Known R first old → Known R first new
  proxy t word n bytes old new le top to p h = by p.takes_it.takes_it
    where
      given : WasGiven first h.tale.calls proxy_at bytes
      given =
          let it = reaches-proxy t (slice_get old.flights n) bytes to in
          subst (λ (b : List ℕ). WasGiven first h.tale.calls proxy_at b) it.4
          (subst (λ (q : Peer). WasGiven first h.tale.calls q it.0.bytes) it.3 (h.tale.given n it.0 it.1 it.2))

      rotates-not : H.Datagram device_at p.datagram ≡ H.Rotate → ⊥
      rotates-not e = cc

      by : Takes holds takes (record { moment = t; word = word; happening = H.Datagram device_at p.datagram }) old.world p.takes_it.given p.takes_it.world → Known R first new
      by (inl a) =
          subst (Known R first) (sym p.takes_it.is)
          (known-acted holds takes R first t old le top h (record { moment = t; word = word; happening = H.Datagram device_at p.datagram }) p.takes_it.given
          p.takes_it.world a
          (elim a.shows.shown [
            | inl k ↦ one-heard h.tale.calls p.datagram bytes _ a.shows.more p.has given k
            | inr k ↦ none-heard first h.tale.calls a.shows.more k.0
          ]))
      by (inr r) = absurd (rotates-not r.wants)

  delivery : (t word n : ℕ) (r : Reach) (old new : Scene) → old.moment ≤ t → t ≤ LAST_MOMENT → reach t (slice_get old.flights n) ≡ r
      → Reaches holds takes R t word n r old new → Known R first old → Known R first new
  delivery t word n (ToProxy bytes) old new le top to e h = proxy t word n bytes old new le top to e h
  delivery t word n (ToDevice bytes) old new le top to e h =
      subst (Known R first) (sym e.is) (known-heard R first old t n bytes e.device e.told le top h to e.hears)
  delivery t word n Nowhere old new le top to e h = subst (Known R first) (sym e) (known-later R first old t le top h)

  pub turn : (x : Turn) (old new : Scene) → TakesTurn holds takes R x old new → Known R first old → Known R first new
  turn (T.Proxy i) old new e h =
      input (counted old.moment i.moment) i old new (counted-later old.moment i.moment) (counted-last old.moment i.moment h.timely.last) i.happening refl e h
  turn (T.Device m) old new e h =
      subst (Known R first) (sym e.is) (known-looked R first old (counted old.moment m) e.device (counted-later old.moment m) (counted-last old.moment m h.timely.last) h e.ticks)
  turn (T.Deliver w n) old new e h =
      delivery (counted old.moment w.moment) w.word n _ old new (counted-later old.moment w.moment) (counted-last old.moment w.moment h.timely.last) refl e h

  pub turns-told : (xs : List Turn) (old new : Scene) → TakesTurns holds takes R xs old new → Known R first old → Known R first new
  turns-told [] old new e h = subst (Known R first) (sym e) h
  turns-told (x ∷ xs) old new e h = turns-told xs e.0 new e.2 (turn x old e.0 e.1 h)
