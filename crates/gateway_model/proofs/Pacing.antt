-- A connection that was told to go on is told an answer before it is told so again.
use Rattle.std.proofs.Common.{◌≡◌, ◌≢◌, ◌⊎◌, inl, inr, ℕ, ◌+◌, Bool, true, false, cond, List, [], ◌∷◌, ◌++◌, length, map, Some, None, refl, sym, ap, ◌∙◌, subst, append_assoc, append-nil, length-append, eqb-true}
use Rattle.std.specs.Prelude.{◌==◌, ⊤, ◌<◌}
use Rattle.std.specs.List.{AllByRecursion, flat_map}
use Rattle.std.proofs.lemmas.List.{append_cancel_left}
use Rattle.std.proofs.lemmas.Bool.{both_ways}
use Rattle.http_mapping.specs.Means.{closes}
use Rattle.ask_model.specs.Views.{Ask}
use Rattle.journal_book.specs.Entries.{Asks as Asked, Shuts, Written}
use Rattle.history_laws.specs.Justified.{Stands}
use Rattle.history_laws.proofs.CallerLemmas.{some-is}
use Rattle.exchange_model.specs.Growing.{at_moment, conns_with}
use Rattle.exchange_model.specs.Resting.{HasConn}
use Rattle.exchange_model.specs.Sealing.{asks_in_room}
use Rattle.exchange_core.specs.Values.{CoreValue, Outgoing, Untaken, answered_in}
use Rattle.gateway_model.specs.declared.input.When.{When}
use Rattle.gateway_model.specs.Acts.{Act, Opens, TurnsAway, Takes, Hears, Passes, Asks, Denies, Sends, Tells, GoesOn, GivesUp, Forgoes, Rests, Leaves, Misses, Served, Terms, AsksItem, IsClosing, Ends, Does, DoesAll, at, continue_text}
use Rattle.gateway_model.specs.Emissions.{Emission}
use Rattle.gateway_model.specs.Going.{goes_in}
use Rattle.gateway_model.specs.Told.{Piece, interim, final, bytes_in, answers_in, said_to, IsAnswerFirst, AreOnce}
use Rattle.gateway_model.specs.Unasked.{Unasked, unasked_at, no_bytes, changed_at, extended, left_after, Recounts}
use Rattle.gateway_model.proofs.Asked.{own-after, left-same}
use Rattle.gateway_model.proofs.Awaiting.{which}
use Rattle.gateway_model.proofs.Counting.{count, count-both, count-more, AreCounted, counted-rest, counted-first, stands-counted, NoneIdle, first-empty, none-with, HasEnough, enough-after, enough-with}
use Rattle.gateway_model.proofs.Doing.{did-act, did-denied, MayForgo, forgoes-as}
use Rattle.gateway_model.proofs.Moves.{Whoever, IsSaid, ToldIn, Wait, Did, nums, did-then, told-then}
use Rattle.gateway_model.proofs.Moving.{Moves, Begins, asks-begin}
use Rattle.gateway_model.proofs.Numbers.{at-number, extended-number}
use Rattle.gateway_model.proofs.Standing.{others-same}

-- From a state to another it is told these pieces: where it may not be told to go on at first, an
-- answer comes before that; and so after it was told to.
abbrev pub Flow : Type 0 → List Piece → Type 0 → Type 0
Flow a [] b = a → b
Flow a (interim ∷ ps) b = (a → ⊥) × Flow ⊤ ps b
Flow a (final n bytes ∷ ps) b = Flow ⊥ ps b

flow-less : (a b c : Type 0) (ps : List Piece) → (a → b) → Flow b ps c → Flow a ps c
flow-less a b c [] f h = λ x. h (f x)
flow-less a b c (interim ∷ ps) f h = ((λ x. h.0 (f x)), h.1)
flow-less a b c (final n bytes ∷ ps) f h = h

pub flow-then : (a b c : Type 0) (ps qs : List Piece) → Flow a ps b → Flow b qs c → Flow a (ps ++ qs) c
flow-then a b c [] qs h k = flow-less a b c qs h k
flow-then a b c (interim ∷ ps) qs h k = (h.0, flow-then ⊤ b c ps qs h.1 k)
flow-then a b c (final n bytes ∷ ps) qs h k = flow-then ⊥ b c ps qs h k

flow-first : (b : Type 0) (ps : List Piece) → Flow ⊤ ps b → IsAnswerFirst ps
flow-first b [] h = tt
flow-first b (interim ∷ ps) h = h.0 tt
flow-first b (final n bytes ∷ ps) h = tt

pub flow-once : (a b : Type 0) (ps : List Piece) → Flow a ps b → AreOnce ps
flow-once a b [] h = tt
flow-once a b (interim ∷ ps) h = (flow-first b ps h.1, flow-once ⊤ b ps h.1)
flow-once a b (final n bytes ∷ ps) h = flow-once ⊥ b ps h

-- It may not be told to go on: it was for the request that is next; or it isn't idle, and won't be
-- before an answer; or an answer waits.

abbrev pub IsToldSo : ℕ → Served → Type 0
IsToldSo c s = (x : Unasked) × (unasked_at c s.unasked ≡ Some x) × (x.told ≡ true)

abbrev pub IsSpent : ℕ → CoreValue → Type 0
IsSpent c v = (c < count 0 v.state.entries) × NoneIdle c v.state.conns

abbrev pub IsQuiet : ℕ → Served → Type 0
IsQuiet c s = IsToldSo c s ⊎ (IsSpent c s.core ⊎ (nums c s.core.untaken ≡ [] → ⊥))

-- what entries of the connection are added after which it isn't idle
pub record Enough (c : ℕ) (old new : Served) : Type 0 where
  pub more : List Written
  pub added : new.core.state.entries ≡ old.core.state.entries ++ more
  pub has : HasEnough c more

-- That it was told stays, or such an entry is added.

told-as : (c : ℕ) (old new : Served) → unasked_at c new.unasked ≡ unasked_at c old.unasked → IsToldSo c old
    → IsToldSo c new ⊎ Enough c old new
told-as c old new e q = inl (q.0, e ∙ q.1, q.2)

told-same : (c : ℕ) (old new : Served) → new.unasked ≡ old.unasked → IsToldSo c old → IsToldSo c new ⊎ Enough c old new
told-same c old new e q = told-as c old new (ap (unasked_at c) e) q

still-at : (c : ℕ) (xs ys : List Unasked) (x : Unasked) → unasked_at c xs ≡ Some x → unasked_at c (xs ++ ys) ≡ Some x
still-at c [] ys x e = absurd cc
still-at c (y ∷ xs) ys x e = by (y.number == c) e (still-at c xs ys x)
  where
    by : (b : Bool) → cond b (Some y) (unasked_at c xs) ≡ Some x → (unasked_at c xs ≡ Some x → unasked_at c (xs ++ ys) ≡ Some x)
        → cond b (Some y) (unasked_at c (xs ++ ys)) ≡ Some x
    by true e ih = e
    by false e ih = ih e

-- the bytes of this connection, or of another, change
told-changed : (c d : ℕ) (f : Unasked → Unasked) (old new : Served) → new.unasked ≡ changed_at d f old.unasked
    → ((x : Unasked) → x.number ≡ d → (f x).number ≡ d)
    → ((x : Unasked) → c ≡ d → unasked_at d old.unasked ≡ Some x → x.told ≡ true → (f x).told ≡ true)
    → IsToldSo c old → IsToldSo c new ⊎ Enough c old new
told-changed c d f old new e keeps told q = by (which c d)
  where
    by : (c ≡ d) ⊎ (c ≢ d) → IsToldSo c new ⊎ Enough c old new
    by (inl same) =
        let there : unasked_at d old.unasked ≡ Some q.0 = subst (λ (i : ℕ). unasked_at i old.unasked ≡ Some q.0) same q.1 in
        inl (
          f q.0,
          subst (λ (i : ℕ). unasked_at i new.unasked ≡ Some (f q.0)) (sym same)
              (ap (unasked_at d) e ∙ own-after d f old.unasked q.0 keeps there),
          told q.0 same there q.2,
        )
    by (inr ne) = told-as c old new (ap (unasked_at c) e ∙ others-same d c f old.unasked ne keeps) q

-- it, or another, is closed
told-closed : (w : When) (c d : ℕ) (old new : Served) → IsClosing w d old new → IsToldSo c old → IsToldSo c new ⊎ Enough c old new
told-closed w c d old new h q = by (which c d)
  where
    by : (c ≡ d) ⊎ (c ≢ d) → IsToldSo c new ⊎ Enough c old new
    by (inl same) = inr (record {
      more = at_moment (at w old) (Shuts d) ∷ [];
      added = ap (λ (v : CoreValue). v.state.entries) h.0.1;
      has = inl (sym same);
    })
    by (inr ne) = told-as c old new (ap (unasked_at c) h.1 ∙ left-same d c old.unasked ne) q

-- what is next is another's
item-same : (M : Terms) (c d : ℕ) (ask : Ask) (old new : Served) → AsksItem M d ask old new → c ≢ d
    → unasked_at c new.unasked ≡ unasked_at c old.unasked
item-same M c d ask old new r ne =
    ap (unasked_at c) r.reads.left
    ∙ others-same d c (λ (z : Unasked). left_after d r.item r.reads.rest) old.unasked ne (λ z n. refl)

-- two steps, the second of which closes
told-after : (c : ℕ) (old mid new : Served) (more : List Written) → mid.core.state.entries ≡ old.core.state.entries ++ more
    → Enough c mid new → Enough c old new
told-after c old mid new more e x = record {
  more = more ++ x.more;
  added = x.added ∙ (ap (λ (h : List Written). h ++ x.more) e ∙ append_assoc old.core.state.entries more x.more);
  has = enough-after c more x.more x.has;
}

told-on : (M : Terms) (w : When) (c : ℕ) (a : Act) (old : Served) (out : List Emission) (new : Served) → Does M w a old out new
    → IsToldSo c old → IsToldSo c new ⊎ Enough c old new
told-on M w c (Opens d) old out new h q =
    inl (q.0, ap (unasked_at c) h.1 ∙ still-at c old.unasked (no_bytes d ∷ []) q.0 q.1, q.2)
told-on M w c TurnsAway old out new h q = told-same c old new h.1 q
told-on M w c (Takes d bytes) old out new h q =
    told-changed c d (extended bytes) old new (ap (λ (s : Served). s.unasked) h.0) (λ z n. extended-number bytes z ∙ n)
    (λ x same e t. kept x x.closing t) q
  where
    kept : (x : Unasked) (b : Bool) → x.told ≡ true
        → (cond b x (record x { text = x.text ++ bytes; unread = x.unread + length bytes })).told ≡ true
    kept x true t = t
    kept x false t = t
told-on M w c (Hears p bytes) old out new h q = told-same c old new h.1 q
told-on M w c Passes old out new h q = told-same c old new (ap (λ (s : Served). s.unasked) h.0) q
told-on M w c (Asks d) old out new h q = by (which c d)
  where
    entered : c ≡ d → Begins (at w old) d h.0.ask old.core.state (asks_in_room (at w old) d h.0.ask h.0.asked.2.numbers old.core.state)
        ⊎ (Moves old.core.state (asks_in_room (at w old) d h.0.ask h.0.asked.2.numbers old.core.state)
        × ((asks_in_room (at w old) d h.0.ask h.0.asked.2.numbers old.core.state).sealed ≡ true)) → Enough c old new
    entered same (inl b) = record {
      more = at_moment (at w old) (Asked d h.0.ask) ∷ b.rest;
      added = ap (λ (v : CoreValue). v.state.entries) h.0.asked.2.is ∙ b.entries;
      has = inl (sym same);
    }
    entered same (inr m) =
        absurd (both_ways new.core.state.sealed h.0.asked.1 (ap (λ (v : CoreValue). v.state.sealed) h.0.asked.2.is ∙ m.1))

    by : (c ≡ d) ⊎ (c ≢ d) → IsToldSo c new ⊎ Enough c old new
    by (inl same) =
        inr (entered same (asks-begin (at w old) d h.0.ask h.0.asked.2.numbers old.core.state h.0.asked.2.idle))
    by (inr ne) = told-as c old new (item-same M c d h.0.ask old new h.0.reads ne) q
told-on M w c (Denies d) old out new h q = by (which c d)
  where
    denied : Did M Whoever Whoever old.core [] h.0.core
    denied = did-denied M Whoever Whoever (at w old) w.word d h.1.ask old.core h.0.core h.1.denied h.1.reads.meant

    after : IsToldSo c h.0 ⊎ Enough c old h.0 → IsToldSo c new ⊎ Enough c old new
    after (inl k) = last (told-closed w c d h.0 new h.2 k)
      where
        last : IsToldSo c new ⊎ Enough c h.0 new → IsToldSo c new ⊎ Enough c old new
        last (inl x) = inl x
        last (inr x) = inr (told-after c old h.0 new denied.more denied.added x)
    after (inr x) = inr (record {
      more = x.more ++ at_moment (at w h.0) (Shuts d) ∷ [];
      added = ap (λ (v : CoreValue). v.state.entries) h.2.0.1
          ∙ (ap (λ (g : List Written). g ++ at_moment (at w h.0) (Shuts d) ∷ []) x.added
          ∙ append_assoc old.core.state.entries x.more (at_moment (at w h.0) (Shuts d) ∷ []));
      has = first c x.more (at_moment (at w h.0) (Shuts d) ∷ []) x.has;
    })
      where
        first : (c : ℕ) (xs ys : List Written) → HasEnough c xs → HasEnough c (xs ++ ys)
        first c [] ys k = absurd k
        first c (x ∷ xs) ys (inl k) = inl k
        first c (x ∷ xs) ys (inr k) = inr (first c xs ys k)

    by : (c ≡ d) ⊎ (c ≢ d) → IsToldSo c new ⊎ Enough c old new
    by (inl same) = inr (told-after c old h.0 new denied.more denied.added (record {
      more = at_moment (at w h.0) (Shuts d) ∷ [];
      added = ap (λ (v : CoreValue). v.state.entries) h.2.0.1;
      has = inl (sym same);
    }))
    by (inr ne) = after (told-as c old h.0 (item-same M c d h.1.ask old h.0 h.1.reads ne) q)
told-on M w c Sends old out new h q = told-same c old new h.unasked q
told-on M w c (Tells d k) old out new h q =
    ended (closes h.answer.mapping.came) h.ends
  where
    taken : h.told.core.state.entries ≡ old.core.state.entries ++ []
    taken = ap (λ (v : CoreValue). v.state.entries) h.taken.3 ∙ sym (append-nil old.core.state.entries)

    mid : IsToldSo c h.told
    mid = (q.0, ap (unasked_at c) h.unasked ∙ q.1, q.2)

    last : IsToldSo c new ⊎ Enough c h.told new → IsToldSo c new ⊎ Enough c old new
    last (inl x) = inl x
    last (inr x) = inr (told-after c old h.told new [] taken x)

    ended : (b : Bool) → Ends w d b h.told h.after new → IsToldSo c new ⊎ Enough c old new
    ended true e = last (told-closed w c d h.told new e.0 mid)
    ended false e = inl (mid.0, ap (λ (s : Served). unasked_at c s.unasked) e.0 ∙ mid.1, mid.2)
told-on M w c (GoesOn d) old out new h q =
    told-changed c d (λ (z : Unasked). record h.0.before { told = true; unread = h.0.unread }) old new h.0.left
    (λ z n. at-number d old.unasked h.0.before h.0.stands) (λ x same e t. refl) q
told-on M w c (GivesUp d) old out new h q = told-closed w c d old new h.0 q
told-on M w c (Forgoes d k) old out new h q =
    last (told-closed w c d h.0 new h.2 (q.0, ap (unasked_at c) h.1.unasked ∙ q.1, q.2))
  where
    taken : h.0.core.state.entries ≡ old.core.state.entries ++ []
    taken = ap (λ (v : CoreValue). v.state.entries) h.1.taken.3 ∙ sym (append-nil old.core.state.entries)

    last : IsToldSo c new ⊎ Enough c h.0 new → IsToldSo c new ⊎ Enough c old new
    last (inl x) = inl x
    last (inr x) = inr (told-after c old h.0 new [] taken x)
told-on M w c (Rests d) old out new h q = by h.2
  where
    by : Recounts d old.unasked new.unasked → IsToldSo c new ⊎ Enough c old new
    by (inl e) = told-same c old new e q
    by (inr r) =
        told-changed c d (λ (z : Unasked). record r.before { unread = r.unread }) old new r.left
        (λ z n. at-number d old.unasked r.before r.stands)
        (λ x same e t. ap (λ (z : Unasked). z.told) (some-is r.before x (sym r.stands ∙ e)) ∙ t) q
told-on M w c (Leaves d) old out new h q = told-closed w c d old new h.0 q
told-on M w c (Misses d) old out new h q = told-same c old new (ap (λ (s : Served). s.unasked) h.0) q

-- Where no answer is told, a connection that may not be told to go on stays so.
module _ (c : ℕ) (old new : Served) (more : List Written) (added : new.core.state.entries ≡ old.core.state.entries ++ more)
    (conns : new.core.state.conns ≡ conns_with old.core.state.conns (length old.core.state.entries) more)
    (counted : AreCounted (count 0 old.core.state.entries) more)
    (waits : nums c new.core.untaken ≡ nums c old.core.untaken ++ nums c (answered_in (length old.core.state.entries) more)) where
  counts : count 0 new.core.state.entries ≡ count (count 0 old.core.state.entries) more
  counts = ap (count 0) added ∙ count-both 0 old.core.state.entries more

  spends : (c < count (count 0 old.core.state.entries) more)
      × NoneIdle c (conns_with old.core.state.conns (length old.core.state.entries) more) → IsSpent c new.core
  spends x = (
    subst (λ (n : ℕ). c < n) (sym counts) x.0,
    λ has. x.1 (subst (λ cs. HasConn cs c None) conns has),
  )

  -- an answer comes to wait, or none does
  comes : (ks : List ℕ) → nums c (answered_in (length old.core.state.entries) more) ≡ ks
      → (ks ≡ [] → IsSpent c new.core) → IsSpent c new.core ⊎ (nums c new.core.untaken ≡ [] → ⊥)
  comes [] e spent = inl (spent refl)
  comes (k ∷ ks) e spent = inr (λ none. listed (nums c old.core.untaken) (ap (λ (js : List ℕ). nums c old.core.untaken ++ js) (sym e) ∙ (sym waits ∙ none)))
    where
      listed : (is : List ℕ) → is ++ k ∷ ks ≡ [] → ⊥
      listed [] e = cc
      listed (i ∷ is) e = cc

  quiet-on : IsToldSo c new ⊎ Enough c old new → IsQuiet c new
  quiet-on (inl x) = inl x
  quiet-on (inr x) =
      let same : x.more ≡ more = append_cancel_left old.core.state.entries x.more more (sym x.added ∙ added) in
      inr (comes (nums c (answered_in (length old.core.state.entries) more)) refl
      (λ none. spends (enough-with c (count 0 old.core.state.entries) (length old.core.state.entries) more old.core.state.conns counted none
      (subst (HasEnough c) same x.has))))

  pub quiet-stays : (IsToldSo c old → IsToldSo c new ⊎ Enough c old new) → IsQuiet c old → IsQuiet c new
  quiet-stays told (inl x) = quiet-on (told x)
  quiet-stays told (inr (inl x)) =
      inr (comes (nums c (answered_in (length old.core.state.entries) more)) refl
      (λ none. spends (
        count-more c (count 0 old.core.state.entries) more counted x.0,
        none-with c (count 0 old.core.state.entries) (length old.core.state.entries) more old.core.state.conns counted x.0 none x.1,
      )))
  quiet-stays told (inr (inr x)) =
      inr (inr (λ none. x (first-empty (nums c old.core.untaken) (nums c (answered_in (length old.core.state.entries) more)) (sym waits ∙ none))))

-- A connection that is told to go on might be, and may not be after it.

pub none-waits : (c : ℕ) (us : List Untaken) → AllByRecursion (λ (u : Untaken). u.conn ≢ c) us → nums c us ≡ []
none-waits c [] h = refl
none-waits c (u ∷ us) h = by (u.conn == c) refl (none-waits c us h.1)
  where
    by : (b : Bool) → (u.conn == c) ≡ b → nums c us ≡ [] → cond b (u.number ∷ []) [] ++ nums c us ≡ []
    by true t rest = absurd (h.0 (eqb-true u.conn c t))
    by false t rest = rest

goes : (M : Terms) (w : When) (c : ℕ) (old : Served) (out : List Emission) (new : Served) → Does M w (GoesOn c) old out new
    → (IsQuiet c old → ⊥) × IsQuiet c new
goes M w c old out new h = (
  no,
  inl (
    record h.0.before { told = true; unread = h.0.unread },
    ap (unasked_at c) h.0.left
        ∙ own-after c (λ (z : Unasked). record h.0.before { told = true; unread = h.0.unread }) old.unasked h.0.before
        (λ z n. at-number c old.unasked h.0.before h.0.stands) h.0.stands,
    refl,
  ),
)
  where
    no : IsQuiet c old → ⊥
    no (inl x) =
        (both_ways h.0.before.told h.0.untold (ap (λ (z : Unasked). z.told) (some-is h.0.before x.0 (sym h.0.stands ∙ x.1)) ∙ x.2))
    no (inr (inl x)) = x.1 h.3.idle
    no (inr (inr x)) = x (none-waits c old.core.untaken h.3.told)

two-one : (x y b : List ℕ) (xs : List (List ℕ)) (t : Bool) → cond {A = List (List ℕ)} t (b ∷ []) [] ++ [] ≡ x ∷ (y ∷ xs) → ⊥
two-one x y b xs true e = cc
two-one x y b xs false e = cc

-- what one act tells
module _ (M : Terms) (w : When) (c : ℕ) (a : Act) (old : Served) (out : List Emission) (new : Served) (h : List Written)
    (does : Does M w a old out new) where
  abbrev pub ByAct : ℕ → Type 0
  ByAct d = a ≡ GoesOn d

  finals : (ps : List Piece) → AllByRecursion (IsSaid M ByAct h c) ps → (ByAct c → ⊥) → Flow ⊥ ps (IsQuiet c new)
  finals [] each other = λ x. absurd x
  finals (interim ∷ ps) each other = absurd (other each.0)
  finals (final n bytes ∷ ps) each other = finals ps each.1 other

  as-goes : ByAct c → Does M w (GoesOn c) old out new
  as-goes e = subst (λ (b : Act). Does M w b old out new) e does

  pub act-flow : (ps : List Piece) → said_to c out ≡ map bytes_in ps → AllByRecursion (IsSaid M ByAct h c) ps
      → (ps ≡ [] → IsQuiet c old → IsQuiet c new) → Flow (IsQuiet c old) ps (IsQuiet c new)
  act-flow [] said each stay = stay refl
  act-flow (interim ∷ []) said each stay =
      let g = goes M w c old out new (as-goes each.0) in (g.0, λ x. g.1)
  act-flow (final n bytes ∷ []) said each stay = λ x. absurd x
  act-flow (interim ∷ p ∷ ps) said each stay = absurd (long interim p ps said each.0)
    where
      long : (p q : Piece) (ps : List Piece) → said_to c out ≡ map bytes_in (p ∷ (q ∷ ps)) → ByAct c → ⊥
      long p q ps said e =
          two-one (bytes_in p) (bytes_in q) continue_text (map bytes_in ps) (c == c)
          (sym (ap (said_to c) (as-goes e).2) ∙ said)
  act-flow (final n bytes ∷ p ∷ ps) said each stay =
      finals (p ∷ ps) each.1 (λ e. long (final n bytes) p ps said e)
    where
      long : (p q : Piece) (ps : List Piece) → said_to c out ≡ map bytes_in (p ∷ (q ∷ ps)) → ByAct c → ⊥
      long p q ps said e =
          two-one (bytes_in p) (bytes_in q) continue_text (map bytes_in ps) (c == c)
          (sym (ap (said_to c) (as-goes e).2) ∙ said)

-- what is told, in its pace
pub record PacedAt (M : Terms) (h : List Written) (c : ℕ) (old : Served) (more : List Written) (out : List Emission) (new : Served)
    : Type 0 where
  pub told : ToldIn M Whoever h c (length old.core.state.entries) more old.core.untaken out new.core.untaken
  pub flow : Flow (IsQuiet c old) told.pieces (IsQuiet c new)

pub record Paced (M : Terms) (F : ℕ → Type 0) (old : Served) (out : List Emission) (new : Served) : Type 0 where
  pub did : Did M Whoever F old.core out new.core
  pub paced :
      (h rest : List Written) → Stands h → h ≡ new.core.state.entries ++ rest → Wait h old.core.untaken
      → Wait h new.core.untaken × ((c : ℕ) → (F c → ⊥) → PacedAt M h c old did.more out new)

pub paced-then : (M : Terms) (F : ℕ → Type 0) (u v w : Served) (a b : List Emission) → Paced M F u a v → Paced M F v b w
    → Paced M F u (a ++ b) w
paced-then M F u v w a b x y =
    let long : length v.core.state.entries ≡ length u.core.state.entries + length x.did.more =
    ap length x.did.added ∙ length-append u.core.state.entries x.did.more in
    record {
      did = did-then M Whoever F u.core v.core w.core a b x.did y.did;
      paced = λ h rest stands is waits.
          let first = x.paced h (y.did.more ++ rest) stands
          (is ∙ (ap (λ (q : List Written). q ++ rest) y.did.added ∙ append_assoc v.core.state.entries y.did.more rest)) waits in
          let next = y.paced h rest stands is first.0 in (
            next.0,
            λ c f. record {
              told = told-then M Whoever h c (length u.core.state.entries) (length v.core.state.entries) x.did.more y.did.more
                  u.core.untaken v.core.untaken w.core.untaken a b long (first.1 c f).told (next.1 c f).told;
              flow = flow-then (IsQuiet c u) (IsQuiet c v) (IsQuiet c w) (first.1 c f).told.pieces (next.1 c f).told.pieces
                  (first.1 c f).flow (next.1 c f).flow;
            },
          );
    }

-- Nothing is said, sent or done.
pub paced-silent : (M : Terms) (F : ℕ → Type 0) (s : Served) (out : List Emission) → goes_in out ≡ [] → ((c : ℕ) → said_to c out ≡ [])
    → Paced M F s out s
paced-silent M F s out goes says = record {
  did = record {
    more = [];
    added = sym (append-nil s.core.state.entries);
    conns = refl;
    sent = ap (λ (os : List Outgoing). os ++ s.core.unsent) goes ∙ sym (append-nil s.core.unsent);
    meant = tt;
    told = λ h rest stands is waits. (waits, λ c f. none h c);
  };
  paced = λ h rest stands is waits. (waits, λ c f. record { told = none h c; flow = λ x. x });
}
  where
    none : (h : List Written) (c : ℕ) → ToldIn M Whoever h c (length s.core.state.entries) [] s.core.untaken out s.core.untaken
    none h c = record { pieces = []; said = says c; each = tt; answers = sym (append-nil (nums c s.core.untaken)) }

pub paced-none : (M : Terms) (F : ℕ → Type 0) (old : Served) (out : List Emission) (new : Served) → new ≡ old → out ≡ [] → Paced M F old out new
paced-none M F old out new e o =
    subst (λ (es : List Emission). Paced M F old es new) (sym o)
    (subst (λ (s : Served). Paced M F old [] s) (sym e) (paced-silent M F old [] refl (λ c. refl)))

-- each act
module _ (M : Terms) (F : ℕ → Type 0) (w : When) (a : Act) (free : (c k : ℕ) → a ≡ Forgoes c k → F c) (old : Served) (out : List Emission) (new : Served) (does : Does M w a old out new) where
  abbrev Here : ℕ → Type 0
  Here d = a ≡ GoesOn d

  all-said : (h : List Written) (c : ℕ) (ps : List Piece) → AllByRecursion (IsSaid M Here h c) ps → AllByRecursion (IsSaid M Whoever h c) ps
  all-said h c [] each = tt
  all-said h c (interim ∷ ps) each = (tt, all-said h c ps each.1)
  all-said h c (final n bytes ∷ ps) each = (each.0, all-said h c ps each.1)

  told-so : (h : List Written) (c : ℕ) (more : List Written)
      → ToldIn M Here h c (length old.core.state.entries) more old.core.untaken out new.core.untaken
      → ToldIn M Whoever h c (length old.core.state.entries) more old.core.untaken out new.core.untaken
  told-so h c more x = record { pieces = x.pieces; said = x.said; each = all-said h c x.pieces x.each; answers = x.answers }

  here : Did M Here F old.core out new.core
  here = did-act M Here F w a (λ c e. e) free old out new does

  counted-here : (h rest : List Written) → Stands h → h ≡ new.core.state.entries ++ rest
      → AreCounted (count 0 old.core.state.entries) here.more
  counted-here h rest stands is =
      counted-first (count 0 old.core.state.entries) here.more rest
      (counted-rest 0 old.core.state.entries (here.more ++ rest)
      (subst (AreCounted 0) (is ∙ (ap (λ (q : List Written). q ++ rest) here.added ∙ append_assoc old.core.state.entries here.more rest))
      (stands-counted h stands)))

  stays-here : (c : ℕ) (h rest : List Written) → Stands h → h ≡ new.core.state.entries ++ rest
      → (ps : List Piece)
      → flat_map answers_in ps ++ nums c new.core.untaken ≡ nums c old.core.untaken ++ nums c (answered_in (length old.core.state.entries) here.more)
      → ps ≡ [] → IsQuiet c old → IsQuiet c new
  stays-here c h rest stands is ps answers e =
      quiet-stays c old new here.more here.added here.conns (counted-here h rest stands is)
      (sym (ap (λ (qs : List Piece). flat_map answers_in qs ++ nums c new.core.untaken) e) ∙ answers)
      (told-on M w c a old out new does)

  pub paced-act : Paced M F old out new
  unfolding told-so here
  paced-act = record {
    did = record {
      more = here.more;
      added = here.added;
      conns = here.conns;
      sent = here.sent;
      meant = here.meant;
      told = λ h rest stands is waits.
          let r = here.told h rest stands is waits in (r.0, λ c f. told-so h c here.more (r.1 c f));
    };
    paced = λ h rest stands is waits.
        let r = here.told h rest stands is waits in (
          r.0,
          λ c f. record {
            told = told-so h c here.more (r.1 c f);
            flow = act-flow M w c a old out new h does (r.1 c f).pieces (r.1 c f).said (r.1 c f).each
                (stays-here c h rest stands is (r.1 c f).pieces (r.1 c f).answers);
          },
        );
  }

pub paced-all : (M : Terms) (F : ℕ → Type 0) (w : When) (acts : List Act) (old : Served) (out : List Emission) (new : Served)
    → AllByRecursion (MayForgo F) acts → DoesAll M w acts old out new → Paced M F old out new
paced-all M F w [] old out new f h = paced-none M F old out new h.0 h.1
paced-all M F w (a ∷ acts) old out new f h =
    subst (λ (out : List Emission). Paced M F old out new) (sym h.5)
    (paced-then M F old h.0 new h.1 h.2 (paced-act M F w a (forgoes-as F a f.0) old h.1 h.0 h.3) (paced-all M F w acts h.0 h.2 new f.1 h.4))
