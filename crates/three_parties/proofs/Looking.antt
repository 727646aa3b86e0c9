-- Where the proxy looks at its timers each second, its copies are punctual.
use Rattle.std.proofs.Common.{◌≡◌, inl, inr, ℕ, ◌+◌, ◌≤◌, List, [], ◌∷◌, ◌++◌, refl, sym, ap, subst, ◌∙◌, arith}
use Rattle.std.specs.List.{AllByRecursion}
use Rattle.limits.specs.declared.TheConstants.{LAST_MOMENT}
use Rattle.media_map.specs.declared.form.Form.{Form}
use Rattle.ask_model.specs.Views.{Rules}
use Rattle.journal_book.specs.Entries.{Written}
use Rattle.history_laws.specs.Justified.{Stands}
use Rattle.history_laws.proofs.CallerLemmas.{none-some}
use Rattle.demo_origin.specs.Values.{Device, Relation}
use Rattle.exchange_model.specs.Rotating.{turned}
use Rattle.exchange_model.specs.State.{State}
use Rattle.exchange_core.specs.Values.{CoreValue}
use Rattle.gateway_model.specs.Acts.{Terms, at}
use Rattle.gateway_model.specs.Emissions.{Emission}
use Rattle.gateway_model.specs.Orders.{IsInOrder}
use Rattle.gateway_model.specs.Tellings.{terms_of}
use Rattle.gateway_model.specs.declared.input.Happening.{Happening}
use Rattle.gateway_model.specs.declared.input.Happening.TheVariants as H
use Rattle.gateway_model.specs.declared.input.Input.{Input}
use Rattle.gateway_model.specs.declared.input.When.{When}
use Rattle.gateway_model.proofs.CallerLemmas.{AreNoJournals, begins-copied, rotation-is}
use Rattle.gateway_world.specs.Inputs.{Takes, TakesActs, TakesRotation}
use Rattle.gateway_world.specs.Worlds.{WorldValue, DoesDue, counted, served_in, when_in}
use Rattle.gateway_world.proofs.Parted.{handled-none}
use Rattle.story_laws.specs.Lateness.{ArePunctual}
use Rattle.story_laws.proofs.Pacing.{AreTimely, none-timely, punctual}
use Rattle.three_parties.specs.Flights.{Reach, ToProxy, ToDevice, Nowhere, device_at}
use Rattle.three_parties.specs.Scenes.{Scene, gave as gave_out, ProxyTakes, Reaches, TakesInput, TakesTurn, TakesTurns}
use Rattle.three_parties.specs.Stories.{opening}
use Rattle.three_parties.specs.Ticks.{LooksEachSecond, LooksInTime, looked_by, looked_in, moment_in}
use Rattle.three_parties.specs.declared.TheConstants.{LONGEST_PAUSE}
use Rattle.three_parties.specs.declared.turn.Turn.{Turn}
use Rattle.three_parties.specs.declared.turn.Turn.TheVariants as T
use Rattle.three_parties.proofs.Knowing.{Known, known-none, now-is}
use Rattle.three_parties.proofs.Lists.{all-joined}
use Rattle.three_parties.proofs.Orders.{given-both, given-more, given_in}
use Rattle.three_parties.proofs.Telling.{counted-last, counted-later, turn}
use Rattle.three_parties.proofs.Ticking.{Paced, paced-input, paced-tick}
use Rattle.three_parties.proofs.Tokens.{turned-quiet}
use Rattle.three_parties.proofs.Turning.{copy-at}

abbrev state_in : Scene → State
state_in s = s.world.core.state

-- So it is of the journal that there is, and was of those that were given out.
record Pace (u : ℕ) (s : Scene) : Type 0 where
  now : Paced u (state_in s)
  past : AllByRecursion AreTimely (given_in s.out)

abbrev pub AreAllTimely : Scene → Type 0
AreAllTimely s = AllByRecursion AreTimely (given_in s.out) × AreTimely (state_in s).entries

module _ (holds : Form → Form → List ℕ → List ℕ → Type 0) (takes : Form → Form → List ℕ → Type 0) (R : Relation) (first : Device) where
  -- the proxy takes an input that is no rotation
  acted : (t u : ℕ) (i : Input) (s : Scene) (given : List Emission) (w : WorldValue) → s.moment ≤ t → t ≤ LAST_MOMENT
      → TakesActs holds takes (record i { moment = t }) s.world given w → Known R first s → u ≤ t → looked_by t i.happening u ≤ u + LONGEST_PAUSE
      → Paced u (state_in s) → Paced (looked_by t i.happening u) w.core.state
  acted t u i s given w le top a k early soon p = by i.happening refl soon
    where
      M : Terms
      M = terms_of holds takes s.world.rules

      when : When
      when = when_in s.world (record i { moment = t })

      same : at when (served_in s.world) ≡ t
      same =
          let x = k.timely.entries in
          let y = k.timely.world in
          now-is (state_in s).moment s.world.moment t (omega (arith, x, le)) (omega (arith, y, le)) top

      first-at : u ≤ at when (served_in s.world)
      first-at = subst (λ (t : ℕ). u ≤ t) (sym same) early

      other : (x : Happening) → i.happening ≡ x → (x ≡ H.Tick → ⊥) → Paced u w.core.state
      other x is not =
          paced-input M when u x a.handles.acts.acts (served_in s.world) a.handles.acts.given (served_in w) a.handles.acts.done
          (subst (λ (x : Happening). IsInOrder x a.handles.acts.acts) is a.handles.acts.order) not first-at p

      by : (x : Happening) → i.happening ≡ x → looked_by t x u ≤ u + LONGEST_PAUSE → Paced (looked_by t x u) w.core.state
      by H.Tick is late =
          subst (λ (t : ℕ). Paced t w.core.state) same
          (paced-tick M when u a.handles.acts.acts (served_in s.world) a.handles.acts.given (served_in w) a.shows.more a.handles.acts.done
          (subst (λ (x : Happening). IsInOrder x a.handles.acts.acts) is a.handles.acts.order)
          (subst (λ (x : Happening). DoesDue x (at when (served_in s.world)) (state_in s) a.shows.more) is a.shows.due)
          first-at (subst (λ (t : ℕ). t ≤ u + LONGEST_PAUSE) (sym same) late) p)
      by H.Open is late = other H.Open is (λ e. cc)
      by (H.Bytes c b) is late = other (H.Bytes c b) is (λ e. cc)
      by (H.Datagram q b) is late = other (H.Datagram q b) is (λ e. cc)
      by (H.Close c) is late = other (H.Close c) is (λ e. cc)
      by H.Rotate is late = other H.Rotate is (λ e. cc)

  -- the proxy's journal is turned over
  turned-paced : (t u : ℕ) (S : State) → Paced u (turned t S)
  turned-paced t u S = record {
    timely = λ n v p b e four y way. absurd (copy-at (turned t S).entries (begins-copied t S) n _ e).0;
    due = λ not p o out. absurd (none-some o (sym (turned-quiet t S p).0 ∙ out));
  }

  rotated-paced : (t u : ℕ) (i : Input) (s : Scene) (given : List Emission) (w : WorldValue)
      → TakesRotation holds takes (record i { moment = t }) s.world given w → Pace u s → Pace u (gave_out t w given s)
  rotated-paced t u i s given w r p = elim (r.rotates) [
    | inl k ↦
        let v : ℕ = at (when_in s.world (record i { moment = t })) (served_in s.world) in
        let is = (rotation-is v s.world.core.state s.world.core.state.entries w.core.state k.turned.is).is in
        record {
          now = subst (Paced u) (sym is) (turned-paced v u s.world.core.state);
          past = subst (AllByRecursion AreTimely) (sym (given-both s.out given ∙ ap (λ (es : List Emission). given_in s.out ++ given_in es) k.given))
              (all-joined AreTimely (given_in s.out) (s.world.core.state.entries ∷ []) p.past (p.now.timely, tt));
        }
    | inr k ↦ record {
      now = subst (Paced u) (sym (ap (λ (v : CoreValue). v.state) k.same)) p.now;
      past = subst (AllByRecursion AreTimely) (sym (given-more s.out given (subst AreNoJournals (sym k.given) (tt, tt)))) p.past;
    }
  ]

  proxy-paced : (t u : ℕ) (i : Input) (old new : Scene) → old.moment ≤ t → t ≤ LAST_MOMENT
      → ProxyTakes holds takes R t i old new → Known R first old → u ≤ t → looked_by t i.happening u ≤ u + LONGEST_PAUSE
      → Pace u old → Pace (looked_by t i.happening u) new × (new.moment ≡ t)
  proxy-paced t u i old new le top x k early soon p =
      (subst (Pace (looked_by t i.happening u)) (sym x.is) (by x.takes_it), ap (λ (s : Scene). s.moment) x.is)
    where
      by : Takes holds takes (record i { moment = t }) old.world x.given x.world → Pace (looked_by t i.happening u) (gave_out t x.world x.given old)
      by (inl a) = record {
        now = acted t u i old x.given x.world le top a k early soon p.now;
        past = subst (AllByRecursion AreTimely)
            (sym (given-more old.out x.given (handled-none (terms_of holds takes old.world.rules) (record i { moment = t }) old.world x.world x.given a.handles))) p.past;
      }
      by (inr r) =
          subst (λ (x : Happening). Pace (looked_by t x u) (gave_out t x_world given old)) (sym r.wants) (rotated-paced t u i old given x_world r p)
        where
          x_world : WorldValue
          x_world = x.world

          given : List Emission
          given = x.given

  taken-as : (t u : ℕ) (i : Input) (old new : Scene) → old.moment ≤ t → t ≤ LAST_MOMENT → (x : Happening) → i.happening ≡ x
      → ProxyTakes holds takes R t i old new → Known R first old → u ≤ t → looked_by t x u ≤ u + LONGEST_PAUSE
      → Pace u old → Pace (looked_by t x u) new × (new.moment ≡ t)
  taken-as t u i old new le top x is takes_it k early soon p =
      subst (λ (v : Happening). Pace (looked_by t v u) new × (new.moment ≡ t)) is
      (proxy-paced t u i old new le top takes_it k early (subst (λ (v : Happening). looked_by t v u ≤ u + LONGEST_PAUSE) (sym is) soon) p)

  still-paced : (u : ℕ) (old new : Scene) → new.world ≡ old.world → new.out ≡ old.out → Pace u old → Pace u new
  still-paced u old new world out p = record {
    now = subst (λ (w : WorldValue). Paced u w.core.state) (sym world) p.now;
    past = subst (λ (es : List Emission). AllByRecursion AreTimely (given_in es)) (sym out) p.past;
  }

  input-paced : (t u : ℕ) (i : Input) (old new : Scene) → old.moment ≤ t → t ≤ LAST_MOMENT → (x : Happening) → i.happening ≡ x
      → TakesInput holds takes R t i x old new → Known R first old → u ≤ t → looked_by t x u ≤ u + LONGEST_PAUSE
      → Pace u old → Pace (looked_by t x u) new × (new.moment ≡ t)
  input-paced t u i old new le top (H.Datagram q b) is x k early soon p =
      (still-paced u old new (ap (λ (s : Scene). s.world) x) (ap (λ (s : Scene). s.out) x) p, ap (λ (s : Scene). s.moment) x)
  input-paced t u i old new le top H.Open is x k early soon p = taken-as t u i old new le top H.Open is x k early soon p
  input-paced t u i old new le top (H.Bytes c b) is x k early soon p = taken-as t u i old new le top (H.Bytes c b) is x k early soon p
  input-paced t u i old new le top H.Tick is x k early soon p = taken-as t u i old new le top H.Tick is x k early soon p
  input-paced t u i old new le top (H.Close c) is x k early soon p = taken-as t u i old new le top (H.Close c) is x k early soon p
  input-paced t u i old new le top H.Rotate is x k early soon p = taken-as t u i old new le top H.Rotate is x k early soon p

  delivery-paced : (t u word n : ℕ) (r : Reach) (old new : Scene) → old.moment ≤ t → t ≤ LAST_MOMENT → Reaches holds takes R t word n r old new
      → Known R first old → u ≤ t → Pace u old → Pace u new × (new.moment ≡ t)
  delivery-paced t u word n (ToProxy bytes) old new le top x k early p =
      proxy-paced t u (record { moment = t; word = word; happening = H.Datagram device_at x.datagram }) old new le top x.takes_it k early (omega arith) p
  delivery-paced t u word n (ToDevice bytes) old new le top x k early p =
      (still-paced u old new (ap (λ (s : Scene). s.world) x.is) (ap (λ (s : Scene). s.out) x.is) p, ap (λ (s : Scene). s.moment) x.is)
  delivery-paced t u word n Nowhere old new le top x k early p =
      (still-paced u old new (ap (λ (s : Scene). s.world) x) (ap (λ (s : Scene). s.out) x) p, ap (λ (s : Scene). s.moment) x)

  turn-paced : (x : Turn) (u : ℕ) (old new : Scene) → TakesTurn holds takes R x old new → Known R first old
      → u ≤ moment_in old.moment x → looked_in (moment_in old.moment x) x u ≤ u + LONGEST_PAUSE → Pace u old
      → Pace (looked_in (moment_in old.moment x) x u) new × (new.moment ≡ moment_in old.moment x)
  turn-paced (T.Proxy i) u old new e k early soon p =
      input-paced (counted old.moment i.moment) u i old new (counted-later old.moment i.moment) (counted-last old.moment i.moment k.timely.last)
      i.happening refl e k early soon p
  turn-paced (T.Device m) u old new e k early soon p =
      (still-paced u old new (ap (λ (s : Scene). s.world) e.is) (ap (λ (s : Scene). s.out) e.is) p, ap (λ (s : Scene). s.moment) e.is)
  turn-paced (T.Deliver w n) u old new e k early soon p =
      delivery-paced (counted old.moment w.moment) u w.word n _ old new (counted-later old.moment w.moment)
      (counted-last old.moment w.moment k.timely.last) e k early p

  moment-later : (last : ℕ) (x : Turn) → last ≤ moment_in last x
  moment-later last (T.Proxy i) = counted-later last i.moment
  moment-later last (T.Device m) = counted-later last m
  moment-later last (T.Deliver w n) = counted-later last w.moment

  looked-before : (t : ℕ) (x : Turn) (u : ℕ) → u ≤ t → looked_in t x u ≤ t
  looked-before t (T.Proxy i) u le = by i.happening
    where
      by : (x : Happening) → looked_by t x u ≤ t
      by H.Tick = omega arith
      by H.Open = le
      by (H.Bytes c b) = le
      by (H.Datagram q b) = le
      by (H.Close c) = le
      by H.Rotate = le
  looked-before t (T.Device m) u le = le
  looked-before t (T.Deliver w n) u le = le

  -- turns, the first of which isn't before the last look
  turns-paced : (x : Turn) (xs : List Turn) (u : ℕ) (old new : Scene)
      → TakesTurns holds takes R (x ∷ xs) old new → Known R first old → u ≤ moment_in old.moment x → LooksEachSecond old.moment u (x ∷ xs)
      → Pace u old → AreAllTimely new
  turns-paced x [] u old new e k early looks p =
      let one = turn-paced x u old e.0 e.1 k early looks.0 p in
      subst AreAllTimely (sym e.2) (one.0.past, one.0.now.timely)
  turns-paced x (y ∷ ys) u old new e k early looks p =
      let one = turn-paced x u old e.0 e.1 k early looks.0 p in
      let t : ℕ = moment_in old.moment x in
      let next : ℕ = looked_in t x u in
      let before = looked-before t x u early in
      let later = moment-later e.0.moment y in
      let same = one.1 in
      turns-paced y ys next e.0 new e.2 (turn holds takes R first x old e.0 e.1 k) (omega (arith, before, later, same))
      (subst (λ (m : ℕ). LooksEachSecond m next (y ∷ ys)) (sym same) looks.1) one.0

  pub in-time : (xs : List Turn) (rules : Rules) (new : Scene)
      → TakesTurns holds takes R xs (opening rules first) new → LooksInTime xs → AreAllTimely new
  in-time [] rules new e looks = subst AreAllTimely (sym e) (tt, none-timely)
  in-time (x ∷ xs) rules new e looks =
      turns-paced x xs (moment_in 0 x) (opening rules first) new e (known-none R rules first) (omega arith) looks
      (record { now = record { timely = none-timely; due = λ not p o out. absurd (none-some o out) }; past = tt })

-- Copies are punctual, by any reading.
pub punctual-in : (h : List Written) (stands : Stands h) → AreTimely h → ArePunctual stands.reading
punctual-in h stands timely = punctual stands.reading stands.legal (subst AreTimely (sym stands.entries_are) timely)
