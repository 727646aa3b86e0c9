-- An answer that is forgone is the last to its connection.
use Rattle.std.proofs.Common.{◌≡◌, ◌≢◌, ◌⊎◌, inl, inr, ℕ, ◌+◌, Bool, true, false, cond, List, [], ◌∷◌, ◌++◌, length, map, refl, sym, ap, ◌∙◌, subst, append_assoc, append-nil, length-append, eq-eqb, eqb-true}
use Rattle.std.specs.Prelude.{◌==◌, ⊤, if◌then◌else◌}
use Rattle.std.specs.List.{AllByRecursion, Contains, flat_map}
use Rattle.std.proofs.lemmas.Grind.{flat_map-append}
use Rattle.std.proofs.lemmas.List.{map-append}
use Rattle.std.proofs.lemmas.List.Elements.{Contains-append_right}
use Rattle.history_laws.proofs.CallerLemmas.{all-of}
use Rattle.journal_book.specs.Entries.{Shuts, Written}
use Rattle.history_laws.specs.Justified.{Stands}
use Rattle.exchange_model.specs.Growing.{at_moment}
use Rattle.exchange_core.specs.Drafts.{untaken_of}
use Rattle.exchange_core.specs.Values.{Untaken, answered_in}
use Rattle.exchange_core.proofs.CallerLemmas.{answered-append}
use Rattle.gateway_model.specs.declared.input.Happening.{Happening}
use Rattle.gateway_model.specs.declared.input.Happening.TheVariants as H
use Rattle.gateway_model.specs.declared.input.When.{When}
use Rattle.gateway_model.specs.Acts.{Act, Opens, TurnsAway, Takes, Hears, Passes, Asks, Denies, Sends, Tells, GoesOn, GivesUp, Forgoes, Rests, Leaves, Misses, Served, Terms, Does, DoesAll}
use Rattle.gateway_model.specs.Closing.{IsNotTo}
use Rattle.gateway_model.specs.Emissions.{Emission, Says, Goes, Closed, GivenUp, Turned, Rotated, Unrotated, given_up_by, given_up_in}
use Rattle.gateway_model.specs.Orders.{IsInOrder}
use Rattle.gateway_model.specs.Told.{Piece, bytes_in, answers_in, said_by, said_to}
use Rattle.gateway_model.proofs.Awaiting.{which}
use Rattle.gateway_model.proofs.Closers.{IsServing, ShutsOne, shuts-one}
use Rattle.gateway_model.proofs.Closings.{Gone, taken-others, taken-entries}
use Rattle.gateway_model.proofs.Doing.{MayForgo, did-all}
use Rattle.gateway_model.proofs.Moves.{Whoever, Nobody, IsSaid, Wait, Did, num_of, nums, told-then}
use Rattle.gateway_model.proofs.Opened.{here}
use Rattle.gateway_model.proofs.Order.{all-append, each-out, each-delivers}
use Rattle.gateway_model.proofs.Pacing.{Flow, flow-then, IsQuiet, PacedAt, Paced, none-waits, paced-act, paced-none}
use Rattle.gateway_model.proofs.Taken.{taken-nums}
use Rattle.gateway_model.proofs.Shutting.{AreServing, all-close, each-serving}

-- each act of an input, but where it forgoes none

abbrev pub AreKept : List Act → Type 0
AreKept acts = AllByRecursion (MayForgo Nobody) acts

pub serving-or-kept : (x : Happening) (acts : List Act) → IsInOrder x acts → AreServing acts ⊎ AreKept acts
serving-or-kept H.Open acts (inl one) = inr (subst AreKept (sym one.1) (tt, tt))
serving-or-kept H.Open acts (inr one) = inr (subst AreKept (sym one) (tt, tt))
serving-or-kept (H.Bytes c bytes) acts o =
    inl (subst AreServing (sym o.are) (tt, each-out IsServing each-serving c o.rest o.then))
serving-or-kept (H.Datagram p bytes) acts o =
    inl (subst AreServing (sym o.are) (tt, each-delivers IsServing each-serving o.rest o.then))
serving-or-kept H.Tick acts o =
    inl (subst AreServing (sym o.are) (tt, each-delivers IsServing each-serving o.rest o.then))
serving-or-kept (H.Close c) acts (inl one) = inr (subst AreKept (sym one) (tt, tt))
serving-or-kept (H.Close c) acts (inr one) = inr (subst AreKept (sym one) (tt, tt))
serving-or-kept H.Rotate acts o = absurd o

-- Where nobody is given up, no answer is forgone.

act-keeps : (M : Terms) (w : When) (a : Act) (old : Served) (out : List Emission) (new : Served) → Does M w a old out new
    → given_up_in out ≡ [] → MayForgo Nobody a
act-keeps M w (Opens c) old out new h e = tt
act-keeps M w TurnsAway old out new h e = tt
act-keeps M w (Takes c bytes) old out new h e = tt
act-keeps M w (Hears p bytes) old out new h e = tt
act-keeps M w Passes old out new h e = tt
act-keeps M w (Asks c) old out new h e = tt
act-keeps M w (Denies c) old out new h e = tt
act-keeps M w Sends old out new h e = tt
act-keeps M w (Tells c k) old out new h e = tt
act-keeps M w (GoesOn c) old out new h e = tt
act-keeps M w (GivesUp c) old out new h e = tt
act-keeps M w (Forgoes c k) old out new h e = one (sym (ap given_up_in h.3) ∙ e)
  where
    one : c ∷ [] ≡ [] → ⊥
    one e = cc
act-keeps M w (Rests c) old out new h e = tt
act-keeps M w (Leaves c) old out new h e = tt
act-keeps M w (Misses c) old out new h e = tt

both-empty : (xs ys : List ℕ) → xs ++ ys ≡ [] → (xs ≡ []) × (ys ≡ [])
both-empty [] ys e = (refl, e)
both-empty (x ∷ xs) ys e = absurd cc

pub acts-keep : (M : Terms) (w : When) (acts : List Act) (old : Served) (out : List Emission) (new : Served)
    → DoesAll M w acts old out new → given_up_in out ≡ [] → AreKept acts
acts-keep M w [] old out new h e = tt
acts-keep M w (a ∷ acts) old out new h e =
    let none = both-empty (given_up_in h.1) (given_up_in h.2)
    (sym (flat_map-append given_up_by h.1 h.2) ∙ (sym (ap given_up_in h.5) ∙ e)) in
    (act-keeps M w a old h.1 h.0 h.3 none.0, acts-keep M w acts h.0 h.2 new h.4 none.1)

-- whoever acts may forgo

may-any : (a : Act) → MayForgo Whoever a
may-any (Opens c) = tt
may-any TurnsAway = tt
may-any (Takes c bytes) = tt
may-any (Hears p bytes) = tt
may-any Passes = tt
may-any (Asks c) = tt
may-any (Denies c) = tt
may-any Sends = tt
may-any (Tells c k) = tt
may-any (GoesOn c) = tt
may-any (GivesUp c) = tt
may-any (Forgoes c k) = tt
may-any (Rests c) = tt
may-any (Leaves c) = tt
may-any (Misses c) = tt

pub all-any : (acts : List Act) → AllByRecursion (MayForgo Whoever) acts
all-any [] = tt
all-any (a ∷ acts) = (may-any a, all-any acts)

-- whose answer an act forgoes
abbrev ForgoesOf : Act → ℕ → Type 0
ForgoesOf (Forgoes d k) c = d ≡ c
ForgoesOf _ c = ⊥

forgoes-or : (a : Act) (c : ℕ) → ((k : ℕ) × (a ≡ Forgoes c k)) ⊎ (ForgoesOf a c → ⊥)
forgoes-or (Opens d) c = inr (λ x. x)
forgoes-or TurnsAway c = inr (λ x. x)
forgoes-or (Takes d bytes) c = inr (λ x. x)
forgoes-or (Hears p bytes) c = inr (λ x. x)
forgoes-or Passes c = inr (λ x. x)
forgoes-or (Asks d) c = inr (λ x. x)
forgoes-or (Denies d) c = inr (λ x. x)
forgoes-or Sends c = inr (λ x. x)
forgoes-or (Tells d k) c = inr (λ x. x)
forgoes-or (GoesOn d) c = inr (λ x. x)
forgoes-or (GivesUp d) c = inr (λ x. x)
forgoes-or (Forgoes d k) c = by (which d c)
  where
    by : (d ≡ c) ⊎ (d ≢ c) → ((j : ℕ) × (Forgoes d k ≡ Forgoes c j)) ⊎ (d ≡ c → ⊥)
    by (inl e) = inl (k, ap (λ (i : ℕ). Forgoes i k) e)
    by (inr ne) = inr ne
forgoes-or (Rests d) c = inr (λ x. x)
forgoes-or (Leaves d) c = inr (λ x. x)
forgoes-or (Misses d) c = inr (λ x. x)

forgoes-of : (a : Act) (c k : ℕ) → a ≡ Forgoes c k → ForgoesOf a c
forgoes-of a c k e = subst (λ (b : Act). ForgoesOf b c) (sym e) refl

-- who is told nothing, and isn't closed

silent-said : (c : ℕ) (out : List Emission) → AllByRecursion (IsNotTo c) out → said_to c out ≡ []
silent-said c [] h = refl
silent-said c (Says d bytes ∷ out) h = by (d == c) refl (silent-said c out h.1)
  where
    by : (b : Bool) → (d == c) ≡ b → said_to c out ≡ [] → cond b (bytes ∷ []) [] ++ said_to c out ≡ []
    by true t e = absurd (h.0 (eqb-true d c t))
    by false t e = e
silent-said c (Goes d ∷ out) h = silent-said c out h.1
silent-said c (Closed d ∷ out) h = silent-said c out h.1
silent-said c (GivenUp d ∷ out) h = silent-said c out h.1
silent-said c (Turned ∷ out) h = silent-said c out h.1
silent-said c (Rotated old ∷ out) h = silent-said c out h.1
silent-said c (Unrotated fault ∷ out) h = silent-said c out h.1

silent-kept : (c : ℕ) (out : List Emission) → AllByRecursion (IsNotTo c) out → AllByRecursion (λ (d : ℕ). d ≢ c) (given_up_in out)
silent-kept c [] h = tt
silent-kept c (Says d bytes ∷ out) h = silent-kept c out h.1
silent-kept c (Goes d ∷ out) h = silent-kept c out h.1
silent-kept c (Closed d ∷ out) h = silent-kept c out h.1
silent-kept c (GivenUp d ∷ out) h = (h.0, silent-kept c out h.1)
silent-kept c (Turned ∷ out) h = silent-kept c out h.1
silent-kept c (Rotated old ∷ out) h = silent-kept c out h.1
silent-kept c (Unrotated fault ∷ out) h = silent-kept c out h.1

no-pieces : (ps : List Piece) → [] ≡ map bytes_in ps → ps ≡ []
no-pieces [] e = refl
no-pieces (p ∷ ps) e = absurd cc

num-own : (c : ℕ) (u : Untaken) → u.conn ≡ c → num_of c u ≡ u.number ∷ []
num-own c u e = ap (λ (b : Bool). if b then u.number ∷ [] else []) (eq-eqb u.conn c e)

module _ (M : Terms) (w : When) (c : ℕ) (h : List Written) (stands : Stands h) where
  -- It was told all but the last of its answers, and is given up.
  pub record ForgoneAt (old : Served) (more : List Written) (out : List Emission) : Type 0 where
    pub pieces : List Piece
    pub said : said_to c out ≡ map bytes_in pieces
    pub each : AllByRecursion (IsSaid M Whoever h c) pieces
    pub flow : Flow (IsQuiet c old) pieces ⊤
    pub untold : ℕ
    pub answers : flat_map answers_in pieces ++ untold ∷ []
        ≡ nums c old.core.untaken ++ nums c (answered_in (length old.core.state.entries) more)
    pub given_up : Contains (given_up_in out) c

  pub record AtMostLast (old : Served) (out : List Emission) (new : Served) : Type 0 where
    pub more : List Written
    pub added : new.core.state.entries ≡ old.core.state.entries ++ more
    pub told : PacedAt M h c old more out new ⊎ ForgoneAt old more out

  given-up-after : (xs ys : List Emission) → Contains (given_up_in ys) c → Contains (given_up_in (xs ++ ys)) c
  given-up-after xs ys k =
      subst (λ (ks : List ℕ). Contains ks c) (sym (flat_map-append given_up_by xs ys))
      (Contains-append_right (given_up_in xs) (given_up_in ys) c k)

  -- the answers among entries, in two parts
  nums-both : (old mid : Served) (xs ys : List Written) → mid.core.state.entries ≡ old.core.state.entries ++ xs
      → nums c (answered_in (length old.core.state.entries) (xs ++ ys))
      ≡ nums c (answered_in (length old.core.state.entries) xs) ++ nums c (answered_in (length mid.core.state.entries) ys)
  nums-both old mid xs ys e =
      let n : ℕ = length old.core.state.entries in
      let long : length mid.core.state.entries ≡ n + length xs = ap length e ∙ length-append old.core.state.entries xs in
      ap (nums c) (answered-append n xs ys)
      ∙ (flat_map-append (num_of c) (answered_in n xs) (answered_in (n + length xs) ys)
      ∙ ap (λ (i : ℕ). nums c (answered_in n xs) ++ nums c (answered_in i ys)) (sym long))

  -- it is told by one act, and by the others all but the last
  forgone-later : (old mid : Served) (xs ys : List Emission) (more rest : List Written)
      → mid.core.state.entries ≡ old.core.state.entries ++ more → PacedAt M h c old more xs mid
      → ForgoneAt mid rest ys → ForgoneAt old (more ++ rest) (xs ++ ys)
  forgone-later old mid xs ys more rest e f g =
      let p : List ℕ = flat_map answers_in f.told.pieces in
      let q : List ℕ = flat_map answers_in g.pieces in
      let r : List ℕ = nums c (answered_in (length old.core.state.entries) more) in
      let s : List ℕ = nums c (answered_in (length mid.core.state.entries) rest) in
      let before : List ℕ = nums c old.core.untaken in
      record {
        pieces = f.told.pieces ++ g.pieces;
        said = flat_map-append (said_by c) xs ys
            ∙ (ap (λ (t : List (List ℕ)). t ++ said_to c ys) f.told.said
            ∙ (ap (λ (t : List (List ℕ)). map bytes_in f.told.pieces ++ t) g.said
            ∙ sym (map-append bytes_in f.told.pieces g.pieces)));
        each = all-append (IsSaid M Whoever h c) f.told.pieces g.pieces f.told.each g.each;
        flow = flow-then (IsQuiet c old) (IsQuiet c mid) ⊤ f.told.pieces g.pieces f.flow g.flow;
        untold = g.untold;
        answers = ap (λ (t : List ℕ). t ++ g.untold ∷ []) (flat_map-append answers_in f.told.pieces g.pieces)
            ∙ (append_assoc p q (g.untold ∷ [])
            ∙ (ap (λ (t : List ℕ). p ++ t) g.answers
            ∙ (sym (append_assoc p (nums c mid.core.untaken) s)
            ∙ (ap (λ (t : List ℕ). t ++ s) f.told.answers
            ∙ (append_assoc before r s
            ∙ ap (λ (t : List ℕ). before ++ t) (sym (nums-both old mid more rest e)))))));
        given_up = given-up-after xs ys g.given_up;
      }

  paced-later : (old mid new : Served) (xs ys : List Emission) (more rest : List Written)
      → mid.core.state.entries ≡ old.core.state.entries ++ more → PacedAt M h c old more xs mid
      → PacedAt M h c mid rest ys new → PacedAt M h c old (more ++ rest) (xs ++ ys) new
  paced-later old mid new xs ys more rest e f g =
      let long : length mid.core.state.entries ≡ length old.core.state.entries + length more =
      ap length e ∙ length-append old.core.state.entries more in
      record {
        told = told-then M Whoever h c (length old.core.state.entries) (length mid.core.state.entries) more rest
            old.core.untaken mid.core.untaken new.core.untaken xs ys long f.told g.told;
        flow = flow-then (IsQuiet c old) (IsQuiet c mid) (IsQuiet c new) f.told.pieces g.told.pieces f.flow g.flow;
      }

  told-later : (old mid new : Served) (xs ys : List Emission) (more : List Written)
      → mid.core.state.entries ≡ old.core.state.entries ++ more → PacedAt M h c old more xs mid
      → AtMostLast mid ys new → AtMostLast old (xs ++ ys) new
  told-later old mid new xs ys more e f r = record {
    more = more ++ r.more;
    added = r.added ∙ (ap (λ (es : List Written). es ++ r.more) e ∙ append_assoc old.core.state.entries more r.more);
    told = by r.told;
  }
    where
      by : PacedAt M h c mid r.more ys new ⊎ ForgoneAt mid r.more ys
          → PacedAt M h c old (more ++ r.more) (xs ++ ys) new ⊎ ForgoneAt old (more ++ r.more) (xs ++ ys)
      by (inl g) = inl (paced-later old mid new xs ys more r.more e f g)
      by (inr g) = inr (forgone-later old mid xs ys more r.more e f g)

  -- Who is gone is told nothing by what follows.
  nothing-later : (mid new : Served) (ys : List Emission) → Gone c mid → Gone c new → AllByRecursion (IsNotTo c) ys
      → (r : AtMostLast mid ys new) → nums c (answered_in (length mid.core.state.entries) r.more) ≡ []
  nothing-later mid new ys gone after silent r = by r.told
    where
      by : PacedAt M h c mid r.more ys new ⊎ ForgoneAt mid r.more ys
          → nums c (answered_in (length mid.core.state.entries) r.more) ≡ []
      by (inl g) =
          let none : g.told.pieces ≡ [] = no-pieces g.told.pieces (sym (silent-said c ys silent) ∙ g.told.said) in
          sym (ap (λ (ks : List ℕ). ks ++ nums c (answered_in (length mid.core.state.entries) r.more)) (none-waits c mid.core.untaken gone.told))
          ∙ (sym g.told.answers
          ∙ (ap (λ (ps : List Piece). flat_map answers_in ps ++ nums c new.core.untaken) none
          ∙ none-waits c new.core.untaken after.told))
      by (inr g) =
          absurd (all-of (λ (d : ℕ). d ≢ c) (given_up_in ys) c (silent-kept c ys silent) g.given_up refl)

  -- Its answer is forgone, and it is closed.
  forgone-now : (k : ℕ) (old : Served) (out : List Emission) (mid new : Served) (ys : List Emission) (rest : List Written)
      → Does M w (Forgoes c k) old out mid → h ≡ old.core.state.entries ++ rest → Wait h old.core.untaken
      → AtMostLast mid ys new → (Gone c mid → Gone c new × AllByRecursion (IsNotTo c) ys)
      → AtMostLast old (out ++ ys) new
  forgone-now k old out mid new ys rest d is waits r after = record {
    more = at_moment shut.moment (Shuts c) ∷ r.more;
    added = r.added
        ∙ (ap (λ (es : List Written). es ++ r.more) entries
        ∙ append_assoc old.core.state.entries (at_moment shut.moment (Shuts c) ∷ []) r.more);
    told = inr (subst (λ (es : List Emission). ForgoneAt old (at_moment shut.moment (Shuts c) ∷ r.more) (es ++ ys)) (sym d.3) (record {
      pieces = [];
      said = silent-said c ys later.1;
      each = tt;
      flow = λ q. tt;
      untold = d.1.answer.number;
      answers =
          sym own
          ∙ (sym (append-nil (nums c old.core.untaken))
          ∙ ap (λ (ks : List ℕ). nums c old.core.untaken ++ ks)
          (sym (ap (λ (i : ℕ). nums c (answered_in i r.more)) (sym long) ∙ nothing-later mid new ys gone later.0 later.1 r)));
      given_up = here c c (given_up_in ys) refl;
    }));
  }
    where
      shut : ShutsOne c d.0 mid
      shut = shuts-one w c d.0 mid d.2

      entries : mid.core.state.entries ≡ old.core.state.entries ++ at_moment shut.moment (Shuts c) ∷ []
      entries = shut.entries
          ∙ ap (λ (es : List Written). es ++ at_moment shut.moment (Shuts c) ∷ []) (taken-entries c k old d.0 d.1)

      long : length mid.core.state.entries ≡ length old.core.state.entries + 1
      long = ap length entries ∙ length-append old.core.state.entries (at_moment shut.moment (Shuts c) ∷ [])

      others : AllByRecursion (λ (u : Untaken). u.conn ≢ c) d.0.core.untaken
      others = taken-others c k old d.0 d.1 waits.apart

      gone : Gone c mid
      gone = shut.own others

      later : Gone c new × AllByRecursion (IsNotTo c) ys
      later = after gone

      own : nums c old.core.untaken ≡ d.1.answer.number ∷ []
      own = sym (taken-nums h rest old.core d.0.core k d.1.answer stands d.1.taken
          (is ∙ ap (λ (es : List Written). es ++ rest) (sym (taken-entries c k old d.0 d.1))) waits c)
          ∙ (ap (λ (ks : List ℕ). num_of c (untaken_of d.1.answer) ++ ks) (none-waits c d.0.core.untaken others)
          ∙ (append-nil (num_of c (untaken_of d.1.answer)) ∙ num-own c (untaken_of d.1.answer) d.1.own))

  -- one act, and those after it
  at-most-step : (a : Act) (acts : List Act) (old : Served) (xs : List Emission) (mid : Served) (ys : List Emission) (new : Served)
      (rest : List Written) → AreServing acts → Does M w a old xs mid → DoesAll M w acts mid ys new
      → h ≡ new.core.state.entries ++ rest → Wait h old.core.untaken
      → (Wait h mid.core.untaken → AtMostLast mid ys new) → AtMostLast old (xs ++ ys) new
  at-most-step a acts old xs mid ys new rest i d ds is waits go = by (forgoes-or a c)
    where
      all : Did M Whoever Whoever mid.core ys new.core
      all = did-all M Whoever w acts mid ys new (all-any acts) ds

      one : Paced M (ForgoesOf a) old xs mid
      one = paced-act M (ForgoesOf a) w a (forgoes-of a) old xs mid d

      seen : h ≡ mid.core.state.entries ++ (all.more ++ rest)
      seen = is ∙ (ap (λ (es : List Written). es ++ rest) all.added ∙ append_assoc mid.core.state.entries all.more rest)

      first : Wait h mid.core.untaken × ((e : ℕ) → (ForgoesOf a e → ⊥) → PacedAt M h e old one.did.more xs mid)
      first = one.paced h (all.more ++ rest) stands seen waits

      by : ((k : ℕ) × (a ≡ Forgoes c k)) ⊎ (ForgoesOf a c → ⊥) → AtMostLast old (xs ++ ys) new
      by (inl x) =
          forgone-now x.0 old xs mid new ys (one.did.more ++ (all.more ++ rest))
          (subst (λ (b : Act). Does M w b old xs mid) x.1 d)
          (seen ∙ (ap (λ (es : List Written). es ++ (all.more ++ rest)) one.did.added
          ∙ append_assoc old.core.state.entries one.did.more (all.more ++ rest)))
          waits (go first.0) (λ g. (all-close M w acts mid ys new i ds).gone c g)
      by (inr other) = told-later old mid new xs ys one.did.more one.did.added (first.1 c other) (go first.0)

  pub at-most-last : (acts : List Act) (old : Served) (out : List Emission) (new : Served) (rest : List Written)
      → AreServing acts → DoesAll M w acts old out new → h ≡ new.core.state.entries ++ rest → Wait h old.core.untaken
      → AtMostLast old out new
  at-most-last [] old out new rest i d is waits =
      let p : Paced M Nobody old out new = paced-none M Nobody old out new d.0 d.1 in
      record {
        more = p.did.more;
        added = p.did.added;
        told = inl ((p.paced h rest stands is waits).1 c (λ x. x));
      }
  at-most-last (a ∷ acts) old out new rest i d is waits =
      subst (λ (es : List Emission). AtMostLast old es new) (sym d.5)
      (at-most-step a acts old d.1 d.0 d.2 new rest i.1 d.3 d.4 is waits
      (λ k. at-most-last acts d.0 d.2 new rest i.1 d.4 is k))
