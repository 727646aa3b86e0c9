-- Where entries leave memory, all that is said of a world stays.
use Rattle.std.proofs.Common.{◌≡◌, inl, inr, ℕ, ◌+◌, List, Option, Some, None, Result, Ok, Err, refl, sym, ap, ◌∙◌}
use Rattle.std.specs.Prelude.{IfOk, IfSome, OnErr}
use Rattle.media_map.specs.declared.form.Form.{Form}
use Rattle.ask_model.specs.Views.{Rules}
use Rattle.journal_book.specs.Entries.{Written}
use Rattle.journal_book.specs.Journals.{kept_after}
use Rattle.exchange_model.specs.State.{State}
use Rattle.exchange_core.specs.Giving.{GivesNone, IsGivenOut as IsCoreGivenOut}
use Rattle.exchange_core.specs.Values.{CoreValue}
use Rattle.gateway_model.specs.declared.input.Input.{Input}
use Rattle.gateway_model.specs.Acts.{Served, Terms, at}
use Rattle.gateway_model.specs.Emissions.{Emission}
use Rattle.gateway_model.specs.Resting.{AllRest, AwaitsAnswer, AwaitsBytes, AwaitsLast, IsAskOf}
use Rattle.gateway_model.specs.Unasked.{Unasked}
use Rattle.gateway_model.specs.Waiting.{IsDrained}
use Rattle.gateway_model.specs.Rotating.{Rotates}
use Rattle.gateway_model.specs.Tellings.{terms_of}
use Rattle.gateway_model.proofs.CallerLemmas.{Paced, acts-hold, none-given, rotation-is}
use Rattle.gateway_world.specs.declared.engine.Engine.{Engine}
use Rattle.gateway_world.specs.Giving.{IsGivenOut}
use Rattle.gateway_world.specs.Inputs.{Takes}
use Rattle.gateway_world.specs.Keeping.{IsKept}
use Rattle.gateway_world.specs.Worlds.{WorldValue, IsAtRest, Memory, served_in, when_in, with_memory, world_of}
use Rattle.gateway_world.proofs.Promises.{kept-back}

pub drained-memory : (m : Memory) (w : WorldValue) → IsDrained w.core → IsDrained (with_memory m w).core
drained-memory m w h = record { sends = h.sends; answers = h.answers }

abbrev ask-memory : (m : Memory) (w : WorldValue) (c k : ℕ) → IsAskOf c k (served_in w) → IsAskOf c k (served_in (with_memory m w))
ask-memory m w c k h = record { moment = h.moment; ask = h.ask; stands = h.stands }

last-memory : (m : Memory) (w : WorldValue) (c : ℕ) → AwaitsLast c (served_in w) → AwaitsLast c (served_in (with_memory m w))
last-memory m w c h = record {
  number = h.number;
  waits = h.waits;
  asked = ask-memory m w c h.number h.asked;
  last = h.last;
}

pub rests-memory : (m : Memory) (w : WorldValue) → AllRest (served_in w) → AllRest (served_in (with_memory m w))
rests-memory m w h = record {
  numbered = h.numbered;
  asked = λ c k has. ask-memory m w c k (h.asked c k has);
  last = λ c x e closing. last-memory m w c (h.last c x e closing);
  rests = h.rests;
}

pub at-rest-memory : (m : Memory) (w : WorldValue) → IsAtRest w → IsAtRest (with_memory m w)
at-rest-memory m w h = record { drained = drained-memory m w h.drained; rests = rests-memory m w h.rests }

-- What was told goes on from there.
pub paced-memory : (M : Terms) (F : ℕ → Type 0) (m : Memory) (from : Served) (w : WorldValue) (out : List Emission)
    → Paced M F from out (served_in w) → Paced M F from out (served_in (with_memory m w))
paced-memory M F m from w out p = record {
  did = record {
    more = p.did.more;
    added = p.did.added;
    conns = p.did.conns;
    sent = p.did.sent;
    meant = p.did.meant;
    told = p.did.told;
  };
  paced = λ h rest stands is waits.
      let r = p.paced h rest stands is waits in
      (r.0, λ c f. record { told = (r.1 c f).told; flow = (r.1 c f).flow });
}

-- What the type of a world keeps stays.
pub kept-memory : {R : Type 0} (holds : Form → Form → List ℕ → List ℕ → Type 0) (takes : Form → Form → List ℕ → Type 0)
    (rules : Rules) (n : ℕ) (m : Memory) (e f : Engine R) → f.core ≡ (with_memory m (world_of e rules n)).core
    → f.table.current ≡ e.table.current → f.table.marked ≡ e.table.marked
    → IsKept holds takes rules n e → IsKept holds takes rules n f
kept-memory holds takes rules n m e f core current marked h =
    kept-back holds takes rules n (record e { core = (with_memory m (world_of e rules n)).core }) f core current marked (
      record { numbers = h.0.numbers; marked = h.0.marked },
      drained-memory m (world_of e rules n) h.1,
      h.2,
      rests-memory m (world_of e rules n) h.3,
      h.4,
    )

-- The next segment left memory.
pub given-memory : {R : Type 0} (rules : Rules) (n : ℕ) (segment : List Written) (e f : Engine R)
    → IsCoreGivenOut segment e.core f.core → f.table.current ≡ e.table.current
    → IsGivenOut segment (world_of e rules n) (world_of f rules n)
given-memory rules n segment e f g current = record {
  segment_is = g.segment_is;
  memory = record {
    given = e.core.state.given + 1024;
    kept = kept_after e.core.state.given e.core.state.kept g.numbers;
  };
  given = refl;
  is = λ i. record { core = g.is i; inlets = current i; rules = rules; moment = n };
}

-- So it is whatever a giving came to.
module _ {X E R : Type 0} (items : X → List Written) (rules : Rules) (n : ℕ) (r : Result (Option X) E) (e f : Engine R)
    (given : IfOk r (λ (o : Option X). IfSome o (λ (s : X). IsCoreGivenOut (items s) e.core f.core)))
    (current : f.table.current ≡ e.table.current) where
  pub given-so : IfOk r (λ (o : Option X). IfSome o (λ (s : X). IsGivenOut (items s) (world_of e rules n) (world_of f rules n)))
  given-so = by r given
    where
      by : (v : Result (Option X) E) → IfOk v (λ (o : Option X). IfSome o (λ (s : X). IsCoreGivenOut (items s) e.core f.core))
          → IfOk v (λ (o : Option X). IfSome o (λ (s : X). IsGivenOut (items s) (world_of e rules n) (world_of f rules n)))
      by (Ok (Some s)) g = given-memory rules n (items s) e f g current
      by (Ok None) g = tt
      by (Err x) g = tt

  pub kept-given : (holds : Form → Form → List ℕ → List ℕ → Type 0) (takes : Form → Form → List ℕ → Type 0)
      → IfOk r (λ (o : Option X). o ≡ None → (f.core ≡ e.core) × GivesNone e.core.state) → OnErr r (f.core ≡ e.core)
      → f.table.marked ≡ e.table.marked → IsKept holds takes rules n e → IsKept holds takes rules n f
  kept-given holds takes none memory marked kept = by r given none memory
    where
      by : (v : Result (Option X) E) → IfOk v (λ (o : Option X). IfSome o (λ (s : X). IsCoreGivenOut (items s) e.core f.core))
          → IfOk v (λ (o : Option X). o ≡ None → (f.core ≡ e.core) × GivesNone e.core.state) → OnErr v (f.core ≡ e.core)
          → IsKept holds takes rules n f
      by (Ok (Some s)) g h k =
          let m : Memory = record {
            given = e.core.state.given + 1024;
            kept = kept_after e.core.state.given e.core.state.kept g.numbers;
          } in
          kept-memory holds takes rules n m e f g.is current marked kept
      by (Ok None) g h k = kept-back holds takes rules n e f (h refl).0 current marked kept
      by (Err x) g h k = kept-back holds takes rules n e f k current marked kept

-- An input gives nothing out.
module _ (holds : Form → Form → List ℕ → List ℕ → Type 0) (takes : Form → Form → List ℕ → Type 0) where
  pub takes-hold : (i : Input) (a b : WorldValue) (out : List Emission) → Takes holds takes i a out b
      → b.core.state.given ≡ a.core.state.given
  takes-hold i a b out (inl k) =
      let l = k.handles.acts in
      acts-hold (terms_of holds takes a.rules) (when_in a i) l.acts (served_in a) l.given (served_in b) l.done
  takes-hold i a b out (inr k) = by k.rotates
    where
      by : Rotates (at (when_in a i) (served_in a)) a.core out b.core → b.core.state.given ≡ a.core.state.given
      by (inl r) =
          let now : ℕ = at (when_in a i) (served_in a) in
          let next = rotation-is now a.core.state a.core.state.entries b.core.state r.turned.is in
          ap (λ (S : State). S.given) next.is ∙ sym (none-given now a.core.state next.fit)
      by (inr u) = ap (λ (v : CoreValue). v.state.given) u.same
