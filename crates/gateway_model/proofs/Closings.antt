-- Whom acts close, and what acts leave that close nobody.
use Rattle.std.proofs.Common.{◌≡◌, ◌≢◌, ◌⊎◌, inl, inr, ℕ, ◌+◌, true, not, List, [], ◌∷◌, ◌++◌, length, map, Option, Some, None, refl, sym, ap, ◌∙◌, subst}
use Rattle.std.specs.Prelude.{⊤, ◌==◌}
use Rattle.std.specs.List.{AllByRecursion, Contains, filter}
use Rattle.std.proofs.lemmas.List.{append-nil, append_cancel_left}
use Rattle.ask_model.specs.Views.{Ask}
use Rattle.journal_book.specs.Views.{ask_of}
use Rattle.journal_book.specs.Entries.{Deed, Opens as Opened, Asks as Asked, Sends as Sent, Hears as Heard, Passes as Passed, Answers, Shuts, Seals, Carries, Written}
use Rattle.http_mapping.specs.Means.{closes}
use Rattle.history_claims.specs.Headline.{IsEntry}
use Rattle.exchange_model.specs.declared.kept.Conn.{Conn}
use Rattle.exchange_model.specs.State.{State}
use Rattle.exchange_model.specs.Resting.{HasConn}
use Rattle.exchange_model.specs.Growing.{Adds, at_moment, IsOfAsk}
use Rattle.exchange_model.specs.Sealing.{asks_in_room}
use Rattle.exchange_model.proofs.CallerLemmas.{asks-add, asks-answer}
use Rattle.exchange_core.specs.Calls.{AsksSo}
use Rattle.exchange_core.specs.Drafts.{untaken_of}
use Rattle.exchange_core.specs.Values.{CoreValue, Untaken, answered_in}
use Rattle.gateway_model.specs.declared.input.When.{When}
use Rattle.gateway_model.specs.Acts.{Served, Terms, IsAsking, IsForgoing, at}
use Rattle.gateway_model.specs.Closing.{closed_in, shut_by, shut_in, IsNotTo, IsLastAnswer, IsNoTurn}
use Rattle.gateway_model.specs.Emissions.{Emission, Says, Closed, GivenUp}
use Rattle.gateway_model.specs.Unasked.{Unasked, unasked_at, changed_at}
use Rattle.gateway_model.specs.Waiting.{conn_id, AreApart}
use Rattle.gateway_model.proofs.Awaiting.{IsToTell, entry-more, same-entry, others-told, told-more, StepsTo, steps-ids, AsksTo, which}
use Rattle.gateway_model.proofs.Moving.{IsInner, AreInner}
use Rattle.gateway_model.proofs.Numbers.{asks-ids}
use Rattle.gateway_model.proofs.Opened.{open-conn, conn-open, open-ids}
use Rattle.gateway_model.proofs.Order.{all-append, all-as}
use Rattle.gateway_model.proofs.Serving.{asks-to, item-others}
use Rattle.gateway_model.proofs.Standing.{others-same, own-before}
use Rattle.gateway_model.proofs.Untold.{AreToOthers, all-to-others, apart-with, apart-both, all-own, left-all, left-apart, told-one, told-apart, IsToldBy, each-told}

-- It closes none.
abbrev pub IsPlain : Emission → Type 0
IsPlain (Closed c) = ⊥
IsPlain (GivenUp c) = ⊥
IsPlain _ = ⊤

-- The connection isn't open, and nothing waits to be told to it.
pub record Gone (c : ℕ) (s : Served) : Type 0 where
  pub told : AreToOthers c s.core.untaken
  pub shut : (p : Option ℕ) → HasConn s.core.state.conns c p → ⊥
  pub unasked : (x : Unasked) → unasked_at c s.unasked ≡ Some x → ⊥

-- One is closed since the journal takes nothing more; or after its last answer.
pub record Denied (new : Served) (out : List Emission) : Type 0 where
  pub conn : ℕ
  pub is : out ≡ Closed conn ∷ []
  pub sealed : new.core.state.sealed ≡ true
  pub gone : Gone conn new

pub record Ended (M : Terms) (new : Served) (out : List Emission) : Type 0 where
  pub conn : ℕ
  pub bytes : List ℕ
  pub is : out ≡ Says conn bytes ∷ Closed conn ∷ []
  pub answer : IsLastAnswer M new.core.state.entries conn bytes
  pub gone : Gone conn new

-- Or one is given up.
pub record Forgone (new : Served) (out : List Emission) : Type 0 where
  pub conn : ℕ
  pub is : out ≡ GivenUp conn ∷ []
  pub gone : Gone conn new

abbrev pub Form : Terms → Served → List Emission → Type 0
Form M new out = AllByRecursion IsPlain out ⊎ (Denied new out ⊎ (Ended M new out ⊎ Forgone new out))

pub record ActCloses (M : Terms) (old new : Served) (out : List Emission) : Type 0 where
  pub more : List Written
  pub entries : new.core.state.entries ≡ old.core.state.entries ++ more
  pub shut : closed_in out ≡ shut_in more
  pub sealed : old.core.state.sealed ≡ true → new.core.state.sealed ≡ true
  pub turned : AllByRecursion IsNoTurn out
  pub gone : (c : ℕ) → Gone c old → Gone c new × AllByRecursion (IsNotTo c) out
  pub form : AreApart old.core.untaken → Form M new out
  pub apart : AreApart old.core.untaken → AreApart new.core.untaken
  pub told : (c k t : ℕ) (a : Ask) (later : List Written) → IsToTell old.core.untaken c k
      → IsEntry (new.core.state.entries ++ later) k t (Asked c a) → closes a.came ≡ true
      → IsToTell new.core.untaken c k ⊎ Contains (closed_in out) c
  pub answered : AllByRecursion (λ (w : Written). IsToldBy new.core.untaken w.deed) more

-- acts after which all stays but bytes

pub same-closes : (M : Terms) (old new : Served) (out : List Emission) → new.core.state ≡ old.core.state → new.core.untaken ≡ old.core.untaken
    → ((c : ℕ) (x : Unasked) → unasked_at c new.unasked ≡ Some x → (y : Unasked) × (unasked_at c old.unasked ≡ Some y))
    → closed_in out ≡ [] → AllByRecursion IsNoTurn out → AllByRecursion IsPlain out
    → ((c : ℕ) → Gone c old → AllByRecursion (IsNotTo c) out) → ActCloses M old new out
same-closes M old new out state untaken bytes none turned plain others = record {
  more = [];
  entries = ap (λ (S : State). S.entries) state ∙ sym (append-nil old.core.state.entries);
  shut = none;
  sealed = λ s. ap (λ (S : State). S.sealed) state ∙ s;
  turned = turned;
  gone = λ c g. (
    record {
      told = subst (AreToOthers c) (sym untaken) g.told;
      shut = λ p has. g.shut p (subst (λ (S : State). HasConn S.conns c p) state has);
      unasked = λ x e. let y = bytes c x e in g.unasked y.0 y.1;
    },
    others c g,
  );
  form = λ a. inl plain;
  apart = λ a. subst AreApart (sym untaken) a;
  told = λ c k t a later told e last. inl (subst (λ (us : List Untaken). IsToTell us c k) (sym untaken) told);
  answered = tt;
}

pub changed-before : (c d : ℕ) (f : Unasked → Unasked) (xs : List Unasked) (x : Unasked)
    → ((x : Unasked) → x.number ≡ c → (f x).number ≡ c) → unasked_at d (changed_at c f xs) ≡ Some x
    → (y : Unasked) × (unasked_at d xs ≡ Some y)
changed-before c d f xs x keeps e = by (which d c)
  where
    by : (d ≡ c) ⊎ (d ≢ c) → (y : Unasked) × (unasked_at d xs ≡ Some y)
    by (inl same) =
        let own = own-before c f xs x keeps (subst (λ (i : ℕ). unasked_at i (changed_at c f xs) ≡ Some x) same e) in
        (own.0, subst (λ (i : ℕ). unasked_at i xs ≡ Some own.0) (sym same) own.1)
    by (inr ne) = (x, sym (others-same c d f xs ne keeps) ∙ e)

-- a step of the core in which nothing is asked

inner-deed : (d : Deed) → IsInner d → shut_by d ≡ []
inner-deed (Opened c) h = absurd cc
inner-deed (Asked c a) h = absurd cc
inner-deed (Sent p b t) h = refl
inner-deed (Heard p b) h = refl
inner-deed Passed h = refl
inner-deed (Answers c k g) h = refl
inner-deed (Shuts c) h = absurd cc
inner-deed Seals h = refl
inner-deed (Carries number mark done) h = refl

inner-shuts : (ws : List Written) → AreInner ws → shut_in ws ≡ []
inner-shuts [] h = refl
inner-shuts (w ∷ ws) h = let one = inner-deed w.deed h.0 in let rest = inner-shuts ws h.1 in rw (one, rest) refl

was-there : (c : ℕ) (p : Option ℕ) (cs ds : List Conn) → map conn_id ds ≡ map conn_id cs → HasConn ds c p → (q : Option ℕ) × HasConn cs c q
was-there c p cs ds e h = conn-open c cs (open-ids c ds cs (sym e) (open-conn c p ds h))

pub steps-close : (M : Terms) (old new : Served) → new.unasked ≡ old.unasked → StepsTo old.core new.core → old.core.untaken ≡ []
    → (old.core.state.sealed ≡ true → new.core.state.sealed ≡ true) → ActCloses M old new []
steps-close M old new same s none sealed = record {
  more = s.more;
  entries = s.entries;
  shut = sym (inner-shuts s.more s.inner);
  sealed = sealed;
  turned = tt;
  gone = λ c g. (
    record {
      told = subst (AreToOthers c) (sym s.untaken)
          (all-append (λ (u : Untaken). u.conn ≢ c) old.core.untaken (answered_in (length old.core.state.entries) s.more) g.told
          (all-to-others c (length old.core.state.entries) old.core.state.conns s.more s.inner s.awaited (λ k has. g.shut (Some k) has)));
      shut = λ p has. let old_one = was-there c p old.core.state.conns new.core.state.conns (steps-ids old.core new.core s) has in
          g.shut old_one.0 old_one.1;
      unasked = λ x e. g.unasked x (subst (λ (xs : List Unasked). unasked_at c xs ≡ Some x) same e);
    },
    tt,
  );
  form = λ a. inl tt;
  apart = λ a. subst AreApart (sym s.untaken)
      (subst (λ (us : List Untaken). AreApart (us ++ answered_in (length old.core.state.entries) s.more)) (sym none)
      (apart-with (length old.core.state.entries) old.core.state.conns s.more s.inner s.awaited));
  told = λ c k t a later told e last. absurd (subst (λ (us : List Untaken). IsToTell us c k) none told);
  answered = subst (λ (us : List Untaken). AllByRecursion (λ (w : Written). IsToldBy us w.deed) s.more) (sym s.untaken)
      (each-told old.core.untaken (length old.core.state.entries) s.more);
}

-- an ask

ask-own : (t word c : ℕ) (a : Ask) (v u : CoreValue) (so : AsksSo t word c a v u) (s : AsksTo t c a v u)
    → AllByRecursion (λ (w : Written). IsOfAsk (length v.state.entries) c a w.deed) s.rest
ask-own t word c a v u so s =
    let S : State = asks_in_room t c a so.numbers v.state in
    let x : Adds t v.state S = asks-add t c a so.numbers v.state in
    let is : x.more ≡ at_moment t (Asked c a) ∷ s.rest =
    append_cancel_left v.state.entries x.more (at_moment t (Asked c a) ∷ s.rest)
    (sym x.entries ∙ (sym (ap (λ (y : CoreValue). y.state.entries) so.is) ∙ s.entries)) in
    (subst (λ (ws : List Written). AllByRecursion (λ (w : Written). IsOfAsk (length v.state.entries) c a w.deed) ws) is
    (asks-answer t c a so.numbers v.state x)).1

pub asks-apart : (c d : ℕ) (old : Served) → HasConn old.core.state.conns c None → Gone d old → d ≢ c
asks-apart c d old idle g same = g.shut None (subst (λ (i : ℕ). HasConn old.core.state.conns i None) (sym same) idle)

asks-close-by : (M : Terms) (w : When) (c t : ℕ) (old new : Served) (h : IsAsking M w c old new)
    (s : AsksTo t c h.ask old.core new.core)
    → AllByRecursion (λ (u : Untaken). u.conn ≡ c) (answered_in (length old.core.state.entries + 1) s.rest)
    → (old.core.state.sealed ≡ true → new.core.state.sealed ≡ true) → ActCloses M old new []
asks-close-by M w c t old new h s own sealed = record {
  more = at_moment t (Asked c h.ask) ∷ s.rest;
  entries = s.entries;
  shut = sym (inner-shuts s.rest s.inner);
  sealed = sealed;
  turned = tt;
  gone = λ d g. (
    record {
      told = subst (AreToOthers d) (sym s.untaken)
          (all-append (λ (u : Untaken). u.conn ≢ d) old.core.untaken (answered_in (length old.core.state.entries + 1) s.rest) g.told
          (all-as (λ (u : Untaken). u.conn ≡ c) (λ (u : Untaken). u.conn ≢ d) (answered_in (length old.core.state.entries + 1) s.rest)
          (λ u e same. asks-apart c d old h.asked.2.idle g (sym same ∙ e)) own));
      shut = λ p has. let old_one = was-there d p old.core.state.conns new.core.state.conns
          (asks-ids (at w old) w.word c h.ask old.core new.core h.asked.2) has in
          g.shut old_one.0 old_one.1;
      unasked = λ x e. g.unasked x (item-others c d M h.ask old new (asks-apart c d old h.asked.2.idle g) h.reads x e);
    },
    tt,
  );
  form = λ a. inl tt;
  apart = λ a. subst AreApart (sym s.untaken)
      (apart-both c old.core.untaken (answered_in (length old.core.state.entries + 1) s.rest) h.told own a
      (apart-with (length old.core.state.entries + 1) _ s.rest s.inner s.awaited));
  told = λ d k u a later told e last. inl (subst (λ (us : List Untaken). IsToTell us d k) (sym s.untaken)
      (told-more old.core.untaken (answered_in (length old.core.state.entries + 1) s.rest) d k told));
  answered = (
    tt,
    subst (λ (us : List Untaken). AllByRecursion (λ (w : Written). IsToldBy us w.deed) s.rest) (sym s.untaken)
        (each-told old.core.untaken (length old.core.state.entries + 1) s.rest),
  );
}

pub asks-close : (M : Terms) (w : When) (c : ℕ) (old new : Served) → IsAsking M w c old new
    → (old.core.state.sealed ≡ true → new.core.state.sealed ≡ true) → ActCloses M old new []
asks-close M w c old new h sealed =
    let n : ℕ = length old.core.state.entries in
    let s : AsksTo (at w old) c h.ask old.core new.core = asks-to (at w old) w.word c h.number h.ask old.core new.core h.asked in
    asks-close-by M w c (at w old) old new h s
    (all-own (n + 1) n c h.ask s.rest (ask-own (at w old) w.word c h.ask old.core new.core h.asked.2 s)) sealed

-- an answer is taken

module _ (c k : ℕ) (old new : Served) (h : IsForgoing c k old new) where
  pub taken-apart : (d : ℕ) → Gone d old → c ≢ d
  taken-apart d g same = told-one d old.core.untaken (untaken_of h.answer) g.told h.taken.1 (h.own ∙ same)

  pub taken-gone : (d : ℕ) → Gone d old → Gone d new
  taken-gone d g = record {
    told = subst (λ (v : CoreValue). AreToOthers d v.untaken) (sym h.taken.3) (left-all (λ (u : Untaken). u.conn ≢ d) k old.core.untaken g.told);
    shut = λ p has. g.shut p (subst (λ (v : CoreValue). HasConn v.state.conns d p) h.taken.3 has);
    unasked = λ x e. g.unasked x (subst (λ (xs : List Unasked). unasked_at d xs ≡ Some x) h.unasked e);
  }

  pub taken-still-apart : AreApart old.core.untaken → AreApart new.core.untaken
  taken-still-apart a = subst (λ (v : CoreValue). AreApart v.untaken) (sym h.taken.3) (left-apart k old.core.untaken a)

  -- none waits for its connection then
  pub taken-others : AreApart old.core.untaken → AreToOthers c new.core.untaken
  taken-others a =
      subst (λ (v : CoreValue). AreToOthers c v.untaken) (sym h.taken.3)
      (subst (λ (j : ℕ). AreToOthers c (filter (λ (u : Untaken). not (u.ask == j)) old.core.untaken)) h.taken.0
      (subst (λ (i : ℕ). AreToOthers i (filter (λ (u : Untaken). not (u.ask == h.answer.ask)) old.core.untaken)) h.own
      (told-apart old.core.untaken (untaken_of h.answer) a h.taken.1)))

  pub taken-still : (d j : ℕ) → j ≢ k → IsToTell old.core.untaken d j → IsToTell new.core.untaken d j
  taken-still d j ne told =
      subst (λ (v : CoreValue). IsToTell v.untaken d j) (sym h.taken.3) (others-told d k j old.core.untaken ne told)

  -- the ask of this answer
  pub taken-ask : (d j t : ℕ) (a : Ask) (ws : List Written) → j ≡ k → IsEntry (old.core.state.entries ++ ws) j t (Asked d a)
      → (d ≡ c) × (a ≡ ask_of h.answer.mapping)
  taken-ask d j t a ws e stands =
      let given = h.taken.2 in
      let mine : IsEntry (old.core.state.entries ++ ws) h.answer.ask t (Asked d a) =
      subst (λ (i : ℕ). IsEntry (old.core.state.entries ++ ws) i t (Asked d a)) (e ∙ sym h.taken.0) stands in
      let same = same-entry (old.core.state.entries ++ ws) h.answer.ask t given.asked d h.answer.conn a
      (ask_of h.answer.mapping) mine
      (entry-more old.core.state.entries ws h.answer.ask given.asked (Asked h.answer.conn (ask_of h.answer.mapping)) given.ask_stands) in
      (same.0 ∙ h.own, same.1)

  pub taken-entries : new.core.state.entries ≡ old.core.state.entries
  taken-entries = ap (λ (v : CoreValue). v.state.entries) h.taken.3
