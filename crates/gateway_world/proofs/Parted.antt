-- What was given out while a journal was added to is what the journal says.
use Rattle.std.proofs.Common.{◌≡◌, inl, inr, ℕ, ◌+◌, List, [], ◌∷◌, ◌++◌, length, refl, sym, ap, subst, ◌∙◌, arith}
use Rattle.std.specs.Prelude.{flat_map}
use Rattle.std.specs.List.{AllByRecursion}
use Rattle.std.proofs.lemmas.Grind.{flat_map-append}
use Rattle.std.proofs.lemmas.List.{append-nil, append_assoc}
use Rattle.media_map.specs.declared.form.Form.{Form}
use Rattle.ask_model.specs.Views.{Rules}
use Rattle.journal_book.specs.Entries.{Written}
use Rattle.history_laws.specs.Justified.{Stands}
use Rattle.history_claims.specs.Causes.{AreCaused}
use Rattle.history_claims.specs.Once.{AreAskedOnce}
use Rattle.history_claims.specs.Order.{AreInOrder, KeepsOrder}
use Rattle.history_claims.proofs.CallerLemmas.{asks-once, names-cause}
use Rattle.exchange_model.specs.State.{State}
use Rattle.exchange_core.specs.Values.{sent_in}
use Rattle.gateway_model.specs.declared.input.Input.{Input}
use Rattle.gateway_model.specs.Acts.{Served, Terms, at}
use Rattle.gateway_model.specs.Emissions.{Emission, Says, Goes, Closed, GivenUp, Turned, Rotated, Unrotated, given_up_by, given_up_in}
use Rattle.gateway_model.specs.Going.{SendsJust}
use Rattle.gateway_model.specs.Rotating.{Rotates}
use Rattle.gateway_model.specs.Tellings.{AreMapped, terms_of}
use Rattle.gateway_model.specs.Told.{IsToldAnswers, answers_to}
use Rattle.gateway_model.specs.Unasked.{unasked_in}
use Rattle.gateway_model.specs.Waiting.{IsDrained}
use Rattle.gateway_model.proofs.CallerLemmas.{acts-keep, all-append, all-as, answers-after, AreCopies, AreNoJournals, begins-copied, copies-mean, did-send, give-none, IsNoJournal, Nobody, Paced, paced-all, paced-none, paced-silent, paced-tell, paced-then, rotation-is, sends-after, TellsEach}
use Rattle.gateway_world.specs.Inputs.{Takes, TakesAll}
use Rattle.gateway_world.specs.Journals.{Part, gives_first, parts_of, journal_in, all_entries, EachJournal, EachPart, AreSent, AreTold}
use Rattle.gateway_world.specs.Worlds.{WorldValue, Handles, new_world, served_in, when_in, with_memory}
use Rattle.gateway_world.proofs.Memories.{drained-memory, paced-memory}
use Rattle.gateway_world.proofs.Running.{takes-rules}

-- What is given out before anything else belongs to the first part.

abbrev pub add_first : List Emission → List Part → List Part
add_first before [] = []
add_first before (p ∷ ps) = record p { out = before ++ p.out } ∷ ps

add-none : (ps : List Part) → add_first [] ps ≡ ps
add-none [] = refl
add-none (p ∷ ps) = refl

gives-add : (e : Emission) (before : List Emission) (ps : List Part) → gives_first e (add_first before ps) ≡ add_first (e ∷ before) ps
gives-add e before [] = refl
gives-add e before (p ∷ ps) = refl

gives-so : (e : Emission) (out : List Emission) (last : List Written) → IsNoJournal e → parts_of (e ∷ out) last ≡ gives_first e (parts_of out last)
gives-so (Says c bytes) out last i = refl
gives-so (Goes d) out last i = refl
gives-so (Closed c) out last i = refl
gives-so (GivenUp c) out last i = refl
gives-so Turned out last i = refl
gives-so (Rotated h) out last i = absurd i
gives-so (Unrotated fault) out last i = refl

pub parts-first : (before out : List Emission) (last : List Written) → AreNoJournals before
    → parts_of (before ++ out) last ≡ add_first before (parts_of out last)
parts-first [] out last h = sym (add-none (parts_of out last))
parts-first (e ∷ before) out last h =
    gives-so e (before ++ out) last h.0
    ∙ (ap (gives_first e) (parts-first before out last h.1) ∙ gives-add e before (parts_of out last))

joined-same : (before : List Emission) (ps : List Part) → flat_map journal_in (add_first before ps) ≡ flat_map journal_in ps
joined-same before [] = refl
joined-same before (p ∷ ps) = refl

-- It has no entries of its own.
pub entries-same : (before out : List Emission) (last : List Written) → AreNoJournals before
    → all_entries (before ++ out) last ≡ all_entries out last
entries-same before out last h =
    ap (flat_map journal_in) (parts-first before out last h) ∙ joined-same before (parts_of out last)

handled-paced : (M : Terms) (i : Input) (old new : WorldValue) (out : List Emission) → Handles M i old out new
    → given_up_in out ≡ [] → Paced M Nobody (served_in old) out (served_in new)
handled-paced M i old new out h whole =
    subst (λ (es : List Emission). Paced M Nobody (served_in old) es (served_in new)) (sym h.acts.added)
    (paced-all M Nobody (when_in old i) h.acts.acts (served_in old) h.acts.given (served_in new)
    (acts-keep M (when_in old i) h.acts.acts (served_in old) h.acts.given (served_in new) h.acts.done
    (sym (ap given_up_in h.acts.added) ∙ whole)) h.acts.done)

pub handled-none : (M : Terms) (i : Input) (old new : WorldValue) (out : List Emission) → Handles M i old out new → AreNoJournals out
handled-none M i old new out h =
    subst AreNoJournals (sym h.acts.added)
    (give-none M (when_in old i) h.acts.acts (served_in old) h.acts.given (served_in new) h.acts.done)

pub served-same : (a b : WorldValue) → b.core ≡ a.core → b.inlets ≡ a.inlets → served_in b ≡ served_in a
served-same a b core inlets = λ i. record { core = core i; unasked = unasked_in (inlets i) }

-- none is given up by either of two parts

both-empty : (xs ys : List ℕ) → xs ++ ys ≡ [] → (xs ≡ []) × (ys ≡ [])
both-empty [] ys e = (refl, e)
both-empty (x ∷ xs) ys e = absurd cc

pub whole-both : (a b : List Emission) → given_up_in (a ++ b) ≡ [] → (given_up_in a ≡ []) × (given_up_in b ≡ [])
whole-both a b e = both-empty (given_up_in a) (given_up_in b) (sym (flat_map-append given_up_by a b) ∙ e)

pub whole-then : (a b : List Emission) → given_up_in a ≡ [] → given_up_in b ≡ [] → given_up_in (a ++ b) ≡ []
whole-then a b h k = flat_map-append given_up_by a b ∙ (ap (λ (ks : List ℕ). ks ++ given_up_in b) h ∙ k)

module _ (holds : Form → Form → List ℕ → List ℕ → Type 0) (takes : Form → Form → List ℕ → Type 0) (rules : Rules) where
  abbrev M : Terms
  M = terms_of holds takes rules

  -- From copies on, a journal was added to until it was this one; that was told and sent which was given out.
  record Stretch (h : List Written) (out : List Emission) : Type 0 where
    from : Served
    to : Served
    begins : IsDrained from.core
    copied : AreCopies from.core.state.entries
    paced : Paced M Nobody from out to
    ends : IsDrained to.core
    is : to.core.state.entries ≡ h
    stands : Stands h

  told-from : (before more : List Written) (c : ℕ) (out : List Emission) → AreCopies before
      → IsToldAnswers holds takes before more c out → IsToldAnswers holds takes [] (before ++ more) c out
  told-from before more c out copied x =
      let none : length before ≡ 0 + length before = omega arith in
      record {
        pieces = x.pieces;
        said = x.said;
        each = x.each;
        once = x.once;
        answers = x.answers ∙ (ap (λ (n : ℕ). answers_to c n more) none ∙ sym (answers-after c 0 before more copied));
      }

  stretch-all : (h : List Written) (out : List Emission) (s : Stretch h out) → TellsEach holds takes rules s.from.core s.to.core out
  stretch-all h out s =
      paced-tell holds takes rules s.from s.to out s.paced s.begins s.ends (subst Stands (sym s.is) s.stands)
      (copies-mean M s.from.core.state.entries s.copied)

  stretch-tells : (h : List Written) (out : List Emission) → Stretch h out → AreTold holds takes h out
  stretch-tells h out s c =
      let all = stretch-all h out s in
      subst (λ (k : List Written). IsToldAnswers holds takes [] k c out) (sym all.added ∙ s.is)
      (told-from s.from.core.state.entries all.more c out s.copied (all.told c))

  stretch-mapped : (h : List Written) (out : List Emission) → Stretch h out → AreMapped holds takes rules h
  stretch-mapped h out s = subst (AreMapped holds takes rules) s.is (stretch-all h out s).mapped

  stretch-sends : (h : List Written) (out : List Emission) → Stretch h out → AreSent h out
  stretch-sends h out s =
      let all : SendsJust s.from.core out s.to.core = did-send holds takes Nobody rules s.from.core s.to.core out s.paced.did s.begins.sends s.ends.sends in
      all.sent
      ∙ (sym (sends-after s.from.core.state.entries all.more s.copied)
      ∙ ap sent_in (sym all.added ∙ s.is))

  stretch-causes : (h : List Written) (out : List Emission) → Stretch h out → AreCaused h
  stretch-causes h out s = names-cause h s.stands

  -- So it is of each part of a run.

  module _ (last : List Written) where
    abbrev Parts : List Emission → Type 0
    Parts out = EachPart Stretch out last

    parts-then : (before out : List Emission) → AreNoJournals before → AllByRecursion (λ (p : Part). Stretch p.journal p.out) (add_first before (parts_of out last))
        → Parts (before ++ out)
    parts-then before out none h =
        subst (λ (ps : List Part). AllByRecursion (λ (p : Part). Stretch p.journal p.out) ps) (sym (parts-first before out last none)) h

    -- what follows, whatever was given out since the journal began
    abbrev Rest : WorldValue → List Emission → Type 0
    Rest mid rest =
        (before : List Emission) (from : Served) → IsDrained from.core → AreCopies from.core.state.entries
        → Paced M Nobody from before (served_in mid) → AreNoJournals before → Parts (before ++ rest)

    -- one input, and what follows it
    parts-step : (i : Input) (a mid : WorldValue) (first rest before : List Emission) (from : Served) → a.rules ≡ rules
        → IsDrained from.core → AreCopies from.core.state.entries → Paced M Nobody from before (served_in a) → AreNoJournals before
        → IsDrained a.core → Takes holds takes i a first mid → given_up_in first ≡ [] → Rest mid rest
        → Parts (before ++ (first ++ rest))
    parts-step i a mid first rest before from e begins copied paced none rests taken whole go = by taken
      where
        go-on : Paced M Nobody (served_in a) first (served_in mid) → AreNoJournals first → Parts (before ++ (first ++ rest))
        go-on more quiet =
            subst Parts (append_assoc before first rest)
            (go (before ++ first) from begins copied
            (paced-then M Nobody from (served_in a) (served_in mid) before first paced more)
            (all-append IsNoJournal before first none quiet))

        turn : IsDrained mid.core → mid.inlets ≡ a.inlets → Stands a.core.state.entries
            → Rotates (at (when_in a i) (served_in a)) a.core first mid.core → Parts (before ++ (first ++ rest))
        turn drained inlets stands (inl r) =
            let now : ℕ = at (when_in a i) (served_in a) in
            let next = rotation-is now a.core.state a.core.state.entries mid.core.state r.turned.is in
            subst (λ (es : List Emission). Parts (before ++ (es ++ rest))) (sym r.given)
            (parts-then before (Rotated a.core.state.entries ∷ rest) none (
              record {
                from = from;
                to = served_in a;
                begins = begins;
                copied = copied;
                paced = subst (λ (es : List Emission). Paced M Nobody from es (served_in a)) (sym (append-nil before)) paced;
                ends = rests;
                is = refl;
                stands = stands;
              },
              go [] (served_in mid) drained
                  (subst (λ (S : State). AreCopies S.entries) (sym next.is) (begins-copied now a.core.state))
                  (paced-none M Nobody (served_in mid) [] (served_in mid) refl refl) tt,
            ))
        turn drained inlets stands (inr u) =
            go-on
            (subst (λ (s : Served). Paced M Nobody (served_in a) first s) (sym (served-same a mid u.same inlets))
            (subst (λ (es : List Emission). Paced M Nobody (served_in a) es (served_in a)) (sym u.given)
            (paced-silent M Nobody (served_in a) (Unrotated u.fault ∷ []) refl (λ c. refl))))
            (subst AreNoJournals (sym u.given) (tt, tt))

        by : Takes holds takes i a first mid → Parts (before ++ (first ++ rest))
        by (inl k) =
            let h : Handles M i a first mid = subst (λ (r : Rules). Handles (terms_of holds takes r) i a first mid) e k.handles in
            go-on (handled-paced M i a mid first h whole) (handled-none M i a mid first h)
        by (inr k) = turn k.rests.drained k.inlets k.stands k.rotates

    after : (i : Input) (a mid : WorldValue) (first : List Emission) → Takes holds takes i a first mid → IsDrained mid.core
    after i a mid first (inl k) = k.rests.drained
    after i a mid first (inr k) = k.rests.drained

    parts-so : (is : List Input) (a b : WorldValue) (out before : List Emission) (from : Served) → a.rules ≡ rules
        → IsDrained from.core → AreCopies from.core.state.entries → Paced M Nobody from before (served_in a)
        → AreNoJournals before → IsDrained a.core → TakesAll holds takes is a out b → given_up_in out ≡ []
        → b.core.state.entries ≡ last → Stands last → Parts (before ++ out)
    parts-so [] a b out before from e begins copied paced none rests run whole ends stands =
        subst (λ (es : List Emission). Parts (before ++ es)) (sym run.2)
        (parts-then before [] none (
          record {
            from = from;
            to = served_in a;
            begins = begins;
            copied = copied;
            paced = subst (λ (es : List Emission). Paced M Nobody from es (served_in a)) (sym (append-nil before)) paced;
            ends = rests;
            is = ap (λ (w : WorldValue). w.core.state.entries) (sym run.1) ∙ ends;
            stands = stands;
          },
          tt,
        ))
    parts-so (i ∷ is) a b out before from e begins copied paced none rests run whole ends stands =
        subst (λ (es : List Emission). Parts (before ++ es)) (sym run.6)
        (parts-step i now run.1 run.2 run.3 before from e begins copied (paced-memory M Nobody run.0 from a before paced) none
        (drained-memory run.0 a rests) run.4 both.0
        (λ since start begun were pace quiet.
        parts-so is run.1 b run.3 since start (takes-rules holds takes i now run.1 run.2 run.4 ∙ e) begun were pace quiet
        (after i now run.1 run.2 run.4) run.5 both.1 ends stands))
      where
        now : WorldValue
        now = with_memory run.0 a

        both : (given_up_in run.2 ≡ []) × (given_up_in run.3 ≡ [])
        both = whole-both run.2 run.3 (sym (ap given_up_in run.6) ∙ whole)

  -- a run from a world to which nothing has happened on
  module _ (is : List Input) (old new : WorldValue) (h : List Written) (out : List Emission) (e : old ≡ new_world rules)
      (run : TakesAll holds takes is old out new) (stands : Stands new.core.state.entries)
      (same : h ≡ new.core.state.entries) (whole : given_up_in out ≡ []) where
    run-parts : EachPart Stretch out h
    run-parts =
        parts-so h is (new_world rules) new out [] (served_in (new_world rules)) refl
        (record { sends = refl; answers = refl }) tt
        (paced-none M Nobody (served_in (new_world rules)) [] (served_in (new_world rules)) refl refl) tt
        (record { sends = refl; answers = refl })
        (subst (λ (w : WorldValue). TakesAll holds takes is w out new) e run) whole (sym same) (subst Stands (sym same) stands)

    pub run-stands : EachJournal Stands out h
    run-stands =
        all-as (λ (p : Part). Stretch p.journal p.out) (λ (p : Part). Stands p.journal) (parts_of out h) (λ p s. s.stands) run-parts

    pub run-tells : EachPart (AreTold holds takes) out h
    run-tells =
        all-as (λ (p : Part). Stretch p.journal p.out) (λ (p : Part). AreTold holds takes p.journal p.out) (parts_of out h)
        (λ p s. stretch-tells p.journal p.out s) run-parts

    pub run-mapped : EachJournal (AreMapped holds takes rules) out h
    run-mapped =
        all-as (λ (p : Part). Stretch p.journal p.out) (λ (p : Part). AreMapped holds takes rules p.journal) (parts_of out h)
        (λ p s. stretch-mapped p.journal p.out s) run-parts

    pub run-causes : EachJournal AreCaused out h
    run-causes =
        all-as (λ (p : Part). Stretch p.journal p.out) (λ (p : Part). AreCaused p.journal) (parts_of out h)
        (λ p s. stretch-causes p.journal p.out s) run-parts

    pub run-once : EachJournal AreAskedOnce out h
    run-once =
        all-as (λ (p : Part). Stretch p.journal p.out) (λ (p : Part). AreAskedOnce p.journal) (parts_of out h)
        (λ p s. asks-once p.journal s.stands) run-parts

    pub run-in-order : KeepsOrder → EachJournal AreInOrder out h
    run-in-order law =
        all-as (λ (p : Part). Stretch p.journal p.out) (λ (p : Part). AreInOrder p.journal) (parts_of out h)
        (λ p s. law p.journal s.stands) run-parts

    pub run-sends : EachPart AreSent out h
    run-sends =
        all-as (λ (p : Part). Stretch p.journal p.out) (λ (p : Part). AreSent p.journal p.out) (parts_of out h)
        (λ p s. stretch-sends p.journal p.out s) run-parts
