-- What acts lead to holds of an input that is handled.
use Rattle.std.proofs.Common.{◌≡◌, inl, inr, ℕ, ◌≤◌, ◌^◌, List, [], ◌∷◌, ◌++◌, length, drop, map, Some, refl, sym, ap, subst, ◌∙◌}
use Rattle.std.proofs.Math.Seq.{drop-append_seam}
use Rattle.media_map.specs.declared.form.Form.{Form}
use Rattle.ask_model.specs.Views.{Rules}
use Rattle.journal_book.specs.Entries.{Written}
use Rattle.history_laws.specs.Justified.{Stands}
use Rattle.history_laws.proofs.CallerLemmas.{none-some}
use Rattle.exchange_model.specs.declared.kept.Conn.{Conn}
use Rattle.exchange_model.specs.State.{State}
use Rattle.exchange_model.specs.Resting.{HasConn}
use Rattle.exchange_model.specs.Room.{KeptInRoom}
use Rattle.exchange_model.specs.Rotating.{turned}
use Rattle.gateway_connections.specs.Inlets.{Inlet, TableValue}
use Rattle.gateway_model.specs.declared.input.Happening.{Happening}
use Rattle.gateway_model.specs.declared.input.Happening.TheVariants as H
use Rattle.gateway_model.specs.declared.input.Input.{Input}
use Rattle.gateway_model.specs.declared.input.When.{When}
use Rattle.gateway_model.specs.Acts.{Act, Served, Terms, DoesAll, at}
use Rattle.exchange_core.specs.Values.{CoreValue}
use Rattle.gateway_model.specs.declared.input.Output.{Output}
use Rattle.gateway_model.specs.Closing.{Closes}
use Rattle.gateway_model.specs.Emissions.{Emission, emissions}
use Rattle.gateway_model.specs.Unasked.{Unasked, unasked_at, unasked_in}
use Rattle.gateway_model.specs.Going.{SendsJust}
use Rattle.gateway_model.specs.Hearing.{DoesWhatIsDue}
use Rattle.gateway_model.specs.Orders.{IsInOrder}
use Rattle.gateway_model.specs.Resting.{AllRest, IsNumbered, number_of}
use Rattle.gateway_model.specs.Rotating.{Rotates}
use Rattle.gateway_model.specs.Tellings.{terms_of, AreMapped}
use Rattle.gateway_model.specs.Told.{TellsAll}
use Rattle.gateway_model.specs.Waiting.{IsDrained, conn_id}
use Rattle.gateway_model.proofs.CallerLemmas.{all-send-just, all-tell, begins-copied, copies-mean, input-closes, input-rests, input-shows as acts-show, nobody-there, rotation-is, tick-shows}
use Rattle.gateway_world.specs.declared.engine.Engine.{Engine}
use Rattle.gateway_world.specs.Engines.{inlet_number}
use Rattle.gateway_world.specs.Keeping.{IsKept}
use Rattle.gateway_world.specs.Leading.{LeadsBy, RotatesBy, StepsBy, served_of}
use Rattle.gateway_world.proofs.Numbered.{numbers-led}
use Rattle.gateway_world.specs.Worlds.{WorldValue, Handles, Shows, DoesDue, served_in, when_in, world_of}

module _ {R : Type 0} (holds : Form → Form → List ℕ → List ℕ → Type 0) (takes : Form → Form → List ℕ → Type 0) (rules : Rules) where
  pub led-tells : (w : When) (x : Happening) (old new : Engine R) (before after : List (Output R))
      → LeadsBy (terms_of holds takes rules) w (IsInOrder x) old before new after → emissions before ≡ []
      → IsDrained old.core → IsDrained new.core → Stands new.core.state.entries
      → AreMapped holds takes rules old.core.state.entries
      → TellsAll holds takes rules old.core new.core (emissions after)
  led-tells w x old new before after l none drained done stands mapped =
      subst (TellsAll holds takes rules old.core new.core) (sym (l.added ∙ ap (λ (es : List Emission). es ++ l.given) none))
      (all-tell holds takes rules w x l.acts (served_of old) l.given (served_of new) l.done l.order drained done stands mapped)

  pub led-sends : (w : When) (P : List Act → Type 0) (old new : Engine R) (before after : List (Output R))
      → LeadsBy (terms_of holds takes rules) w P old before new after → emissions before ≡ []
      → IsDrained old.core → IsDrained new.core → SendsJust old.core (emissions after) new.core
  led-sends w P old new before after l none drained done =
      subst (λ (es : List Emission). SendsJust old.core es new.core) (sym (l.added ∙ ap (λ (es : List Emission). es ++ l.given) none))
      (all-send-just holds takes rules w l.acts (served_of old) l.given (served_of new) l.done drained.sends done.sends)

same-more : (h a b : List Written) → h ++ a ≡ h ++ b → a ≡ b
same-more h a b e = sym (drop-append_seam h a) ∙ (ap (drop (length h)) e ∙ drop-append_seam h b)

due-done : (M : Terms) (w : When) (x : Happening) (acts : List Act) (old : Served) (out : List Emission) (new : Served) (more : List Written)
    → DoesAll M w acts old out new → IsInOrder x acts → KeptInRoom old.core.state
    → new.core.state.entries ≡ old.core.state.entries ++ more → DoesDue x (at w old) old.core.state more
due-done M w H.Open acts old out new more h o kept e = tt
due-done M w (H.Bytes c bytes) acts old out new more h o kept e = tt
due-done M w (H.Datagram p bytes) acts old out new more h o kept e = tt
due-done M w H.Tick acts old out new more h o kept e =
    let t = tick-shows M w acts old out new h o kept in
    subst (DoesWhatIsDue (at w old) old.core.state) (same-more old.core.state.entries t.0 more (sym t.1 ∙ e)) t.2
due-done M w (H.Close c) acts old out new more h o kept e = tt
due-done M w H.Rotate acts old out new more h o kept e = tt

pub input-shows : (M : Terms) (i : Input) (old new : WorldValue) (out : List Emission) → Handles M i old out new
    → KeptInRoom old.core.state → Shows i old new
input-shows M i old new out h kept =
    let a = h.acts in
    let s = acts-show M (when_in old i) i.happening a.acts (served_in old) a.given (served_in new) a.done a.order kept in
    record {
      more = s.0;
      added = s.1;
      shown = s.2;
      due = due-done M (when_in old i) i.happening a.acts (served_in old) a.given (served_in new) s.0 a.done a.order kept s.1;
    }

pub led-closes : {R : Type 0} (M : Terms) (w : When) (x : Happening) (old new : Engine R) (before after : List (Output R))
    → LeadsBy M w (IsInOrder x) old before new after → emissions before ≡ []
    → old.core.untaken ≡ [] → new.core.untaken ≡ [] → Closes M x old.core.state new.core.state (emissions after)
led-closes M w x old new before after l none told done =
    subst (Closes M x old.core.state new.core.state) (sym (l.added ∙ ap (λ (es : List Emission). es ++ l.given) none))
    (input-closes M w x l.acts (served_of old) l.given (served_of new) l.done l.order told done)

-- A world is what it was where its core and its connections are.
pub world-back : {R : Type 0} (e f : Engine R) (rules : Rules) (m : ℕ) → f.core ≡ e.core → f.table.current ≡ e.table.current
    → world_of f rules m ≡ world_of e rules m
world-back e f rules m core current =
    λ i. record { core = core i; inlets = current i; rules = rules; moment = m }

-- What the type of a world keeps of its engine.

module _ {R : Type 0} (holds : Form → Form → List ℕ → List ℕ → Type 0) (takes : Form → Form → List ℕ → Type 0) (rules : Rules) (m : ℕ) where
  -- It is kept where all is as it was.
  pub kept-back : (e f : Engine R) → f.core ≡ e.core → f.table.current ≡ e.table.current → f.table.marked ≡ e.table.marked
      → IsKept holds takes rules m e → IsKept holds takes rules m f
  kept-back e f core current marked h =
      let served : served_of f ≡ served_of e = λ i. record { core = core i; unasked = unasked_in (current i) } in (
        record {
          numbers = ap (map inlet_number) current ∙ (h.0.numbers ∙ sym (ap (λ (v : CoreValue). map conn_id v.state.conns) core));
          marked = marked ∙ (h.0.marked ∙ sym current);
        },
        subst IsDrained (sym core) h.1,
        h.2,
        subst AllRest (sym served) h.3,
        subst (λ (v : CoreValue). AreMapped holds takes rules v.state.entries) (sym core) h.4,
      )

-- After an input's acts it is kept, once the connections are marked as they are.
module _ {R : Type 0} (holds : Form → Form → List ℕ → List ℕ → Type 0) (takes : Form → Form → List ℕ → Type 0) (rules : Rules) where
  pub kept-led : (w : When) (x : Happening) (n m : ℕ) (old mid new : Engine R) (before after : List (Output R))
      → LeadsBy (terms_of holds takes rules) w (IsInOrder x) old before mid after → IsKept holds takes rules n old
      → IsDrained mid.core → KeptInRoom old.core.state → Stands mid.core.state.entries
      → new.core ≡ mid.core → new.table.current ≡ mid.table.current → new.table.marked ≡ mid.table.current → m ≤ 2 ^ 62
      → IsKept holds takes rules m new
  kept-led w x n m old mid new before after l h drained kept stands core current marked le =
      let M : Terms = terms_of holds takes rules in
      let all = all-tell holds takes rules w x l.acts (served_of old) l.given (served_of mid) l.done l.order h.1 drained stands h.4 in
      kept-back holds takes rules m (record mid { table = record mid.table { marked = mid.table.current } }) new core current marked (
        record {
          numbers = numbers-led M w (IsInOrder x) old.core mid.core old.table.current mid.table.current (emissions before) (emissions after) l h.0.numbers;
          marked = refl;
        },
        drained,
        le,
        input-rests M w x l.acts (served_of old) l.given (served_of mid) l.done l.order kept drained.answers h.3,
        all.mapped,
      )

-- Where nobody is connected nothing rests.

pub none-unasked : (xs : List Unasked) → map number_of xs ≡ [] → xs ≡ []
none-unasked [] e = refl
none-unasked (x ∷ xs) e = absurd cc

pub rests-alone : (s : Served) → s.core.state.conns ≡ [] → IsNumbered s → AllRest s
rests-alone s none numbered = record {
  numbered = numbered;
  asked = λ c k has. absurd (subst (λ (cs : List Conn). HasConn cs c (Some k)) none has);
  last = λ c x e closing. absurd (nobody c x e);
  rests = λ c x e. absurd (nobody c x e);
}
  where
    empty : s.unasked ≡ []
    empty = none-unasked s.unasked (numbered ∙ ap (map conn_id) none)

    nobody : (c : ℕ) (x : Unasked) → unasked_at c s.unasked ≡ Some x → ⊥
    nobody c x e = none-some x (sym (ap (unasked_at c) empty) ∙ e)

-- So it is kept where the journal was given out, or wasn't.
module _ {R : Type 0} (holds : Form → Form → List ℕ → List ℕ → Type 0) (takes : Form → Form → List ℕ → Type 0) (rules : Rules) where
  pub kept-rotated : (w : When) (n m : ℕ) (old mid new : Engine R) (before after : List (Output R))
      → RotatesBy w old before mid after → IsKept holds takes rules n old
      → new.core ≡ mid.core → new.table.current ≡ mid.table.current → new.table.marked ≡ mid.table.current → m ≤ 2 ^ 62
      → IsKept holds takes rules m new
  kept-rotated w n m old mid new before after r h core current marked le = by r.rotates
    where
      by : Rotates (at w (served_of old)) old.core r.given mid.core → IsKept holds takes rules m new
      by (inl x) =
          let is = rotation-is (at w (served_of old)) old.core.state old.core.state.entries mid.core.state x.turned.is in
          let alone : old.core.state.conns ≡ [] = nobody-there (at w (served_of old)) old.core.state is.fit in
          let none : mid.core.state.conns ≡ [] = ap (λ (S : State). S.conns) is.is in
          let conns : mid.core.state.conns ≡ old.core.state.conns = none ∙ sym alone in
          let inlets : mid.table.current ≡ old.table.current = ap (λ (t : TableValue). t.current) r.table in
          let numbers : map inlet_number mid.table.current ≡ map conn_id mid.core.state.conns =
          ap (map inlet_number) inlets ∙ (h.0.numbers ∙ sym (ap (map conn_id) conns)) in
          let numbered : IsNumbered (served_of mid) =
          ap (λ (xs : List Inlet). map number_of (unasked_in xs)) inlets ∙ (h.3.numbered ∙ sym (ap (map conn_id) conns)) in
          kept-back holds takes rules m (record mid { table = record mid.table { marked = mid.table.current } }) new core current marked (
            record { numbers = numbers; marked = refl },
            record { sends = x.turned.unsent; answers = x.turned.untaken },
            le,
            rests-alone (served_of mid) none numbered,
            subst (λ (S : State). AreMapped holds takes rules S.entries) (sym is.is)
                (copies-mean (terms_of holds takes rules) (turned (at w (served_of old)) old.core.state).entries
                (begins-copied (at w (served_of old)) old.core.state)),
          )
      by (inr x) =
          let inlets : mid.table.current ≡ old.table.current = ap (λ (t : TableValue). t.current) r.table in
          kept-back holds takes rules m old new (core ∙ x.same) (current ∙ inlets)
          (marked ∙ (inlets ∙ sym h.0.marked)) (h.0, h.1, le, h.3, h.4)

  -- What happens is one or the other.
  pub kept-stepped : (w : When) (x : Happening) (n m : ℕ) (old mid new : Engine R) (before after : List (Output R))
      → StepsBy (terms_of holds takes rules) w x old before mid after → IsKept holds takes rules n old
      → IsDrained mid.core → KeptInRoom old.core.state → Stands mid.core.state.entries
      → new.core ≡ mid.core → new.table.current ≡ mid.table.current → new.table.marked ≡ mid.table.current → m ≤ 2 ^ 62
      → IsKept holds takes rules m new
  kept-stepped w x n m old mid new before after (inl l) h drained kept stands core current marked le =
      kept-led holds takes rules w x n m old mid new before after l h drained kept stands core current marked le
  kept-stepped w x n m old mid new before after (inr r) h drained kept stands core current marked le =
      kept-rotated w n m old mid new before after r.1 h core current marked le
