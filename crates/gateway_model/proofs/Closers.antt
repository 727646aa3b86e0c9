-- Acts that close a connection: what is asked there is denied, or a last answer is told; and so each act.
use Rattle.std.proofs.Common.{◌≡◌, ◌≢◌, ◌⊎◌, inl, inr, ℕ, Bool, true, false, cond, not, List, [], ◌∷◌, ◌++◌, Option, Some, Err, refl, sym, ap, ◌∙◌, subst, eq-eqb}
use Rattle.gateway_model.proofs.Recounting.{recount-at}
use Rattle.std.specs.Prelude.{◌==◌, ⊤}
use Rattle.std.specs.List.{AllByRecursion, Contains, filter}
use Rattle.std.proofs.lemmas.List.{append-nil, append_assoc}
use Rattle.std.proofs.lemmas.Bool.{both_ways}
use Rattle.http_edge.specs.Answers.{answer_text}
use Rattle.ask_model.specs.Views.{Ask}
use Rattle.journal_book.specs.Entries.{Asks as Asked, Answers, Shuts, Seals, Written}
use Rattle.journal_book.specs.Views.{ask_of}
use Rattle.http_mapping.specs.Means.{closes}
use Rattle.history_claims.specs.Headline.{IsEntry}
use Rattle.exchange_model.specs.declared.kept.Conn.{Conn}
use Rattle.exchange_model.specs.State.{State}
use Rattle.exchange_model.specs.Steps.{shuts, seals}
use Rattle.exchange_model.specs.Hearing.{Numbers}
use Rattle.exchange_model.specs.Calls.{heard}
use Rattle.exchange_model.specs.Resting.{HasConn}
use Rattle.exchange_model.specs.Growing.{at_moment}
use Rattle.exchange_model.specs.Sealing.{asks_in_room, hears_in_room, ticks_in_room}
use Rattle.exchange_core.specs.declared.fault.AskFault.TheVariants as AskFault
use Rattle.exchange_core.specs.Calls.{IsAsked, IsClosed, AsksSo}
use Rattle.exchange_core.specs.Values.{CoreValue, Untaken, stepped}
use Rattle.gateway_model.specs.declared.input.When.{When}
use Rattle.gateway_model.specs.Acts.{IsAllTold, Act, Opens, TurnsAway, Takes, Hears, Passes, Asks, Denies, Sends, Tells, GoesOn, GivesUp, Forgoes, Rests, Leaves, Misses, Served, Terms, IsDenying, IsClosing, Ends, IsTelling, IsForgoing, Does, at, continue_text}
use Rattle.gateway_model.specs.Closing.{shut_in, IsLastAnswer}
use Rattle.gateway_model.specs.Emissions.{Emission, Says, Goes, Closed, GivenUp}
use Rattle.gateway_model.specs.Unasked.{Unasked, unasked_at, extended}
use Rattle.gateway_model.specs.Waiting.{AreApart}
use Rattle.gateway_model.proofs.Awaiting.{IsToTell, entry-more, steps-by, told-of, which}
use Rattle.gateway_model.proofs.Enters.{goes, stays-sealed}
use Rattle.gateway_model.proofs.Moving.{hears-move, ticks-move, denied-is}
use Rattle.gateway_model.proofs.Numbers.{at-number, extended-number}
use Rattle.gateway_model.proofs.Opened.{here}
use Rattle.gateway_model.proofs.Serving.{item-others, gone-shut}
use Rattle.gateway_model.proofs.ServesFor.{told-forgone}
use Rattle.gateway_model.proofs.Standing.{others-left}
use Rattle.gateway_model.proofs.Untold.{AreToOthers, IsToldBy}
use Rattle.gateway_model.proofs.Closings.{Gone, ActCloses, same-closes, changed-before, steps-close, asks-apart, asks-close, taken-apart, taken-gone, taken-still-apart, taken-others, taken-still, taken-ask, taken-entries}

-- a connection is closed

not-left : (b : Bool) (c : ℕ) (p : Option ℕ) (x : Conn) (ys : List Conn) → (x.id == c) ≡ b → (HasConn ys c p → ⊥)
    → HasConn (cond (not b) (x ∷ ys) ys) c p → ⊥
not-left true c p x ys t f h = f h
not-left false c p x ys t f (inl h) = (both_ways (x.id == c) t (eq-eqb x.id c h.0))
not-left false c p x ys t f (inr h) = f h

shut-out : (c : ℕ) (p : Option ℕ) (cs : List Conn) → HasConn (filter (λ (x : Conn). not (x.id == c)) cs) c p → ⊥
shut-out c p [] h = h
shut-out c p (x ∷ xs) h = not-left (x.id == c) c p x (filter (λ (y : Conn). not (y.id == c)) xs) refl (shut-out c p xs) h

pub closed-gone : (t c : ℕ) (p : Option ℕ) (v u : CoreValue) → IsClosed t c v u → HasConn u.state.conns c p → ⊥
closed-gone t c p v u h has = shut-out c p v.state.conns (subst (λ (x : CoreValue). HasConn x.state.conns c p) h.1 has)

still-shut : (b : Bool) (d : ℕ) (p : Option ℕ) (x : Conn) (ys : List Conn) → ((x.id ≡ d) × (x.pending ≡ p) → ⊥) → (HasConn ys d p → ⊥)
    → HasConn (cond b (x ∷ ys) ys) d p → ⊥
still-shut true d p x ys f g (inl h) = f h
still-shut true d p x ys f g (inr h) = g h
still-shut false d p x ys f g h = g h

others-shut : (c d : ℕ) (p : Option ℕ) (cs : List Conn) → (HasConn cs d p → ⊥)
    → HasConn (filter (λ (x : Conn). not (x.id == c)) cs) d p → ⊥
others-shut c d p [] f h = h
others-shut c d p (x ∷ xs) f h =
    still-shut (not (x.id == c)) d p x (filter (λ (y : Conn). not (y.id == c)) xs) (λ e. f (inl e))
    (others-shut c d p xs (λ k. f (inr k))) h

pub record ShutsOne (c : ℕ) (mid new : Served) : Type 0 where
  pub moment : ℕ
  pub entries : new.core.state.entries ≡ mid.core.state.entries ++ at_moment moment (Shuts c) ∷ []
  pub untaken : new.core.untaken ≡ mid.core.untaken
  pub sealed : mid.core.state.sealed ≡ true → new.core.state.sealed ≡ true
  pub own : AreToOthers c mid.core.untaken → Gone c new
  pub others : (d : ℕ) → d ≢ c → Gone d mid → Gone d new

pub shuts-one : (w : When) (c : ℕ) (mid new : Served) → IsClosing w c mid new → ShutsOne c mid new
shuts-one w c mid new h = record {
  moment = at w mid;
  entries = ap (λ (v : CoreValue). v.state.entries) h.0.1;
  untaken = untaken;
  sealed = λ s. ap (λ (v : CoreValue). v.state.sealed) h.0.1 ∙ s;
  own = λ told. record {
    told = subst (AreToOthers c) (sym untaken) told;
    shut = λ p has. shut-out c p mid.core.state.conns (subst (λ (v : CoreValue). HasConn v.state.conns c p) h.0.1 has);
    unasked = gone-shut w c mid new h;
  };
  others = λ d ne g. record {
    told = subst (AreToOthers d) (sym untaken) g.told;
    shut = λ p has. others-shut c d p mid.core.state.conns (g.shut p)
        (subst (λ (v : CoreValue). HasConn v.state.conns d p) h.0.1 has);
    unasked = λ x e. g.unasked x (others-left c d mid.unasked x ne (subst (λ (xs : List Unasked). unasked_at d xs ≡ Some x) h.1 e));
  };
}
  where
    untaken : new.core.untaken ≡ mid.core.untaken
    untaken =
        told-of (shuts (at w mid) c mid.core.state) mid.core new.core (at_moment (at w mid) (Shuts c) ∷ []) h.0.1 refl
        ∙ append-nil mid.core.untaken

-- one that is denied adds the seal at most

abbrev IsSeal : List Written → Type 0
IsSeal more = (more ≡ []) ⊎ ((t : ℕ) × (more ≡ at_moment t Seals ∷ []))

record DeniedCore (v u : CoreValue) : Type 0 where
  more : List Written
  entries : u.state.entries ≡ v.state.entries ++ more
  seal : IsSeal more
  conns : u.state.conns ≡ v.state.conns
  untaken : u.untaken ≡ v.untaken

denied-core : (t word c : ℕ) (a : Ask) (v u : CoreValue) → IsAsked (Err AskFault.Sealed) t word c a v u → DeniedCore v u
denied-core t word c a v u h = by h.2
  where
    begun : (so : AsksSo t word c a v u)
        → (asks_in_room t c a so.numbers v.state ≡ v.state) ⊎ (asks_in_room t c a so.numbers v.state ≡ seals t v.state) → DeniedCore v u
    begun so (inl e) =
        let is : u ≡ stepped v.state v = so.is ∙ ap (λ (S : State). stepped S v) e in
        record {
          more = [];
          entries = ap (λ (x : CoreValue). x.state.entries) is ∙ sym (append-nil v.state.entries);
          seal = inl refl;
          conns = ap (λ (x : CoreValue). x.state.conns) is;
          untaken = told-of v.state v u [] is (sym (append-nil v.state.entries)) ∙ append-nil v.untaken;
        }
    begun so (inr e) =
        let is : u ≡ stepped (seals t v.state) v = so.is ∙ ap (λ (S : State). stepped S v) e in
        record {
          more = at_moment t Seals ∷ [];
          entries = ap (λ (x : CoreValue). x.state.entries) is;
          seal = inr (t, refl);
          conns = ap (λ (x : CoreValue). x.state.conns) is;
          untaken = told-of (seals t v.state) v u (at_moment t Seals ∷ []) is refl ∙ append-nil v.untaken;
        }

    by : ((v.state.sealed ≡ true) × (u ≡ v)) ⊎ AsksSo t word c a v u → DeniedCore v u
    by (inl same) = record {
      more = [];
      entries = ap (λ (x : CoreValue). x.state.entries) same.1 ∙ sym (append-nil v.state.entries);
      seal = inl refl;
      conns = ap (λ (x : CoreValue). x.state.conns) same.1;
      untaken = ap (λ (x : CoreValue). x.untaken) same.1;
    }
    by (inr so) = begun so (denied-is t c a so.numbers v.state
        (sym (ap (λ (x : CoreValue). x.state.sealed) so.is) ∙ h.0))

seal-shuts : (t c : ℕ) (more : List Written) → IsSeal more → c ∷ [] ≡ shut_in (more ++ at_moment t (Shuts c) ∷ [])
seal-shuts t c more (inl e) = sym (ap (λ (ws : List Written). shut_in (ws ++ at_moment t (Shuts c) ∷ [])) e)
seal-shuts t c more (inr e) = sym (ap (λ (ws : List Written). shut_in (ws ++ at_moment t (Shuts c) ∷ [])) e.1)

seal-told : (us : List Untaken) (t c : ℕ) (more : List Written) → IsSeal more
    → AllByRecursion (λ (w : Written). IsToldBy us w.deed) (more ++ at_moment t (Shuts c) ∷ [])
seal-told us t c more (inl e) =
    subst (λ (ws : List Written). AllByRecursion (λ (w : Written). IsToldBy us w.deed) (ws ++ at_moment t (Shuts c) ∷ [])) (sym e) (tt, tt)
seal-told us t c more (inr e) =
    subst (λ (ws : List Written). AllByRecursion (λ (w : Written). IsToldBy us w.deed) (ws ++ at_moment t (Shuts c) ∷ [])) (sym e.1) (tt, (tt, tt))

denies-close-by : (M : Terms) (w : When) (c : ℕ) (old mid new : Served) → IsDenying M w c old mid
    → DeniedCore old.core mid.core → ShutsOne c mid new
    → (old.core.state.sealed ≡ true → new.core.state.sealed ≡ true) → ActCloses M old new (Closed c ∷ [])
denies-close-by M w c old mid new h core shut sealed = record {
  more = core.more ++ at_moment shut.moment (Shuts c) ∷ [];
  entries =
      shut.entries ∙ (ap (λ (ws : List Written). ws ++ at_moment shut.moment (Shuts c) ∷ []) core.entries
      ∙ append_assoc old.core.state.entries core.more (at_moment shut.moment (Shuts c) ∷ []));
  shut = seal-shuts shut.moment c core.more core.seal;
  sealed = sealed;
  turned = (tt, tt);
  gone = λ d g. (
    shut.others d (asks-apart c d old h.denied.1 g) (mid_gone d g),
    (λ same. asks-apart c d old h.denied.1 g (sym same), tt),
  );
  form = λ a. inr (inl (record {
    conn = c;
    is = refl;
    sealed = shut.sealed h.denied.0;
    gone = shut.own (subst (AreToOthers c) (sym core.untaken) h.answered);
  }));
  apart = λ a. subst AreApart (sym (shut.untaken ∙ core.untaken)) a;
  told = λ d j t a later told e last. inl (subst (λ (us : List Untaken). IsToTell us d j) (sym (shut.untaken ∙ core.untaken)) told);
  answered = seal-told new.core.untaken shut.moment c core.more core.seal;
}
  where
    mid_gone : (d : ℕ) → Gone d old → Gone d mid
    mid_gone d g = record {
      told = subst (AreToOthers d) (sym core.untaken) g.told;
      shut = λ p has. g.shut p (subst (λ (cs : List Conn). HasConn cs d p) core.conns has);
      unasked = λ x e. g.unasked x (item-others c d M h.ask old mid (asks-apart c d old h.denied.1 g) h.reads x e);
    }

denies-close : (M : Terms) (w : When) (c : ℕ) (old mid new : Served) (out : List Emission) → IsDenying M w c old mid → IsClosing w c mid new
    → out ≡ Closed c ∷ [] → (old.core.state.sealed ≡ true → new.core.state.sealed ≡ true) → ActCloses M old new out
denies-close M w c old mid new out h k e sealed =
    subst (ActCloses M old new) (sym e)
    (denies-close-by M w c old mid new h (denied-core (at w old) w.word c h.ask old.core mid.core h.denied)
    (shuts-one w c mid new k) sealed)

-- an answer is taken, and its connection closed

module _ (w : When) (c k : ℕ) (old mid new : Served) (h : IsForgoing c k old mid) (shut : ShutsOne c mid new) where
  long-entries : new.core.state.entries ≡ old.core.state.entries ++ at_moment shut.moment (Shuts c) ∷ []
  long-entries =
      shut.entries ∙ ap (λ (es : List Written). es ++ at_moment shut.moment (Shuts c) ∷ []) (taken-entries c k old mid h)

  tell-shut : (d j u : ℕ) (a : Ask) (later : List Written) → IsToTell old.core.untaken d j
      → (j ≡ k) ⊎ (j ≢ k) → IsEntry (new.core.state.entries ++ later) j u (Asked d a)
      → IsToTell new.core.untaken d j ⊎ Contains (c ∷ []) d
  tell-shut d j u a later told (inr ne) e =
      inl (subst (λ (us : List Untaken). IsToTell us d j) (sym shut.untaken) (taken-still c k old mid h d j ne told))
  tell-shut d j u a later told (inl same) e =
      let long : new.core.state.entries ++ later
      ≡ old.core.state.entries ++ (at_moment shut.moment (Shuts c) ∷ [] ++ later) =
      ap (λ (es : List Written). es ++ later) long-entries
      ∙ append_assoc old.core.state.entries (at_moment shut.moment (Shuts c) ∷ []) later in
      let own = taken-ask c k old mid h d j u a (at_moment shut.moment (Shuts c) ∷ [] ++ later) same
      (subst (λ (es : List Written). IsEntry es j u (Asked d a)) long e) in
      inr (here c d [] (sym own.0))

-- nobody is told it

gives-up-by : (M : Terms) (c : ℕ) (old new : Served) → ShutsOne c old new → IsAllTold c old.core
    → ((d : ℕ) → Gone d old → d ≢ c) → (old.core.state.sealed ≡ true → new.core.state.sealed ≡ true)
    → ActCloses M old new (GivenUp c ∷ [])
gives-up-by M c old new shut all_told others sealed = record {
  more = at_moment shut.moment (Shuts c) ∷ [];
  entries = shut.entries;
  shut = refl;
  sealed = sealed;
  turned = (tt, tt);
  gone = λ d g. (shut.others d (others d g) g, (λ same. others d g (sym same), tt));
  form = λ a. inr (inr (inr (record { conn = c; is = refl; gone = shut.own all_told })));
  apart = λ a. subst AreApart (sym shut.untaken) a;
  told = λ d j t a later told e last. inl (subst (λ (us : List Untaken). IsToTell us d j) (sym shut.untaken) told);
  answered = (tt, tt);
}

gives-up-close : (M : Terms) (w : When) (c : ℕ) (old : Served) (out : List Emission) (new : Served) → Does M w (GivesUp c) old out new
    → (old.core.state.sealed ≡ true → new.core.state.sealed ≡ true) → ActCloses M old new out
gives-up-close M w c old out new h sealed =
    subst (ActCloses M old new) (sym h.1)
    (gives-up-by M c old new (shuts-one w c old new h.0) h.2
    (λ d g same. g.shut h.0.0.0.0 (subst (λ (i : ℕ). HasConn old.core.state.conns i h.0.0.0.0) (sym same) h.0.0.0.1)) sealed)

forgoes-by : (M : Terms) (w : When) (c k : ℕ) (old mid new : Served) → IsForgoing c k old mid → ShutsOne c mid new
    → (old.core.state.sealed ≡ true → new.core.state.sealed ≡ true) → ActCloses M old new (GivenUp c ∷ [])
forgoes-by M w c k old mid new h shut sealed = record {
  more = at_moment shut.moment (Shuts c) ∷ [];
  entries = long-entries w c k old mid new h shut;
  shut = refl;
  sealed = sealed;
  turned = (tt, tt);
  gone = λ d g. (
    shut.others d (λ same. taken-apart c k old mid h d g (sym same)) (taken-gone c k old mid h d g),
    (taken-apart c k old mid h d g, tt),
  );
  form = λ a. inr (inr (inr (record { conn = c; is = refl; gone = shut.own (taken-others c k old mid h a) })));
  apart = λ a. subst AreApart (sym shut.untaken) (taken-still-apart c k old mid h a);
  told = λ d j u a later told e last. tell-shut w c k old mid new h shut d j u a later told (which j k) e;
  answered = (tt, tt);
}

forgoes-close : (M : Terms) (w : When) (c k : ℕ) (old : Served) (out : List Emission) (new : Served) → Does M w (Forgoes c k) old out new
    → (old.core.state.sealed ≡ true → new.core.state.sealed ≡ true) → ActCloses M old new out
forgoes-close M w c k old out new h sealed =
    subst (ActCloses M old new) (sym h.3)
    (forgoes-by M w c k old h.0 new h.1 (shuts-one w c h.0 new h.2) sealed)

-- an answer that is told

tells-close : (M : Terms) (w : When) (c k : ℕ) (old : Served) (out : List Emission) (new : Served) → IsTelling M w c k old out new
    → (old.core.state.sealed ≡ true → new.core.state.sealed ≡ true) → ActCloses M old new out
tells-close M w c k old out new h sealed = subst (ActCloses M old new) (sym h.given) (by (closes h.answer.mapping.came) refl h.ends)
  where
    taken : IsForgoing c k old h.told
    taken = told-forgone M w c k old out new h

    apart : (d : ℕ) → Gone d old → c ≢ d
    apart = taken-apart c k old h.told taken

    last_answer : (ws : List Written) → closes h.answer.mapping.came ≡ true
        → IsLastAnswer M (old.core.state.entries ++ ws) c (answer_text h.response)
    last_answer ws t =
        let given = h.taken.2 in
        subst (λ (i : ℕ). IsLastAnswer M (old.core.state.entries ++ ws) i (answer_text h.response)) h.conn (record {
          answer = h.answer;
          before = given.asked;
          asked = entry-more old.core.state.entries ws h.answer.ask given.asked
              (Asked h.answer.conn (ask_of h.answer.mapping)) given.ask_stands;
          last = t;
          answered = entry-more old.core.state.entries ws h.answer.number h.answer.moment
              (Answers h.answer.conn h.answer.ask h.answer.found.grounds) given.stands;
          response = h.response;
          tells = h.tells;
          text = refl;
        })

    still_entries : (s : Served) → s ≡ h.told → s.core.state.entries ≡ old.core.state.entries ++ []
    still_entries s e =
        ap (λ (x : Served). x.core.state.entries) e
        ∙ (taken-entries c k old h.told taken ∙ sym (append-nil old.core.state.entries))

    closes_so : (shut : ShutsOne c h.told new) → closes h.answer.mapping.came ≡ true
        → ActCloses M old new (Says c (answer_text h.response) ∷ Closed c ∷ [])
    closes_so shut t = record {
      more = at_moment shut.moment (Shuts c) ∷ [];
      entries = long-entries w c k old h.told new taken shut;
      shut = refl;
      sealed = sealed;
      turned = (tt, (tt, tt));
      gone = λ d g. (shut.others d (λ same. apart d g (sym same)) (taken-gone c k old h.told taken d g), (apart d g, (apart d g, tt)));
      form = λ a. inr (inr (inl (record {
        conn = c;
        bytes = answer_text h.response;
        is = refl;
        answer = subst (λ (es : List Written). IsLastAnswer M es c (answer_text h.response)) (sym (long-entries w c k old h.told new taken shut))
            (last_answer (at_moment shut.moment (Shuts c) ∷ []) t);
        gone = shut.own (taken-others c k old h.told taken a);
      })));
      apart = λ a. subst AreApart (sym shut.untaken) (taken-still-apart c k old h.told taken a);
      told = λ d j u a later told e last. tell-shut w c k old h.told new taken shut d j u a later told (which j k) e;
      answered = (tt, tt);
    }

    by : (q : Bool) → closes h.answer.mapping.came ≡ q → Ends w c q h.told h.after new
        → ActCloses M old new (Says c (answer_text h.response) ∷ h.after)
    by true t ends =
        subst (λ (after : List Emission). ActCloses M old new (Says c (answer_text h.response) ∷ after)) (sym ends.1)
        (closes_so (shuts-one w c h.told new ends.0) t)
    by false t ends = subst (λ (after : List Emission). ActCloses M old new (Says c (answer_text h.response) ∷ after)) (sym ends.1) (record {
      more = [];
      entries = still_entries new ends.0;
      shut = refl;
      sealed = sealed;
      turned = (tt, tt);
      gone = λ d g. (subst (Gone d) (sym ends.0) (taken-gone c k old h.told taken d g), (apart d g, tt));
      form = λ a. inl (tt, tt);
      apart = λ a. subst (λ (s : Served). AreApart s.core.untaken) (sym ends.0) (taken-still-apart c k old h.told taken a);
      told = λ d j u a later told e last. tell d j u a later told (which j k) e last;
      answered = tt;
    })
      where
        tell : (d j u : ℕ) (a : Ask) (later : List Written) → IsToTell old.core.untaken d j → (j ≡ k) ⊎ (j ≢ k)
            → IsEntry (new.core.state.entries ++ later) j u (Asked d a) → closes a.came ≡ true
            → IsToTell new.core.untaken d j ⊎ Contains [] d
        tell d j u a later told (inr ne) e last = inl (subst (λ (s : Served). IsToTell s.core.untaken d j) (sym ends.0) (taken-still c k old h.told taken d j ne told))
        tell d j u a later told (inl same) e last =
            let long : new.core.state.entries ++ later ≡ old.core.state.entries ++ ([] ++ later) =
            ap (λ (es : List Written). es ++ later) (still_entries new ends.0) ∙ append_assoc old.core.state.entries [] later in
            let own = taken-ask c k old h.told taken d j u a later same (subst (λ (es : List Written). IsEntry es j u (Asked d a)) long e) in
            absurd (both_ways (closes h.answer.mapping.came) t (sym (ap (λ (b : Ask). closes b.came) own.1) ∙ last))

-- each act of an input but those of openings and closes

abbrev pub IsServing : Act → Type 0
IsServing (Opens c) = ⊥
IsServing TurnsAway = ⊥
IsServing (Leaves c) = ⊥
IsServing (Misses c) = ⊥
IsServing _ = ⊤

pub act-closes : (M : Terms) (w : When) (a : Act) (old : Served) (out : List Emission) (new : Served)
    → IsServing a → Does M w a old out new → ActCloses M old new out
act-closes M w (Opens c) old out new i h = absurd i
act-closes M w TurnsAway old out new i h = absurd i
act-closes M w (Takes c bytes) old out new i h =
    subst (ActCloses M old new) (sym h.1)
    (same-closes M old new [] (ap (λ (s : Served). s.core.state) h.0) (ap (λ (s : Served). s.core.untaken) h.0)
    (λ d x e. changed-before c d (extended bytes) old.unasked x (λ x n. extended-number bytes x ∙ n)
    (subst (λ (s : Served). unasked_at d s.unasked ≡ Some x) h.0 e)) refl tt tt (λ d g. tt))
act-closes M w (Hears p bytes) old out new i h =
    let n : Numbers = h.0.numbers in
    subst (ActCloses M old new) (sym h.2)
    (steps-close M old new h.1
    (steps-by (hears_in_room (at w old) p bytes n old.core.state) old.core new.core h.0.is
    (hears-move (at w old) p bytes n old.core.state h.4)) h.3
    (λ s. ap (λ (v : CoreValue). v.state.sealed) h.0.is ∙ stays-sealed (at w old) (heard (at w old) p bytes n old.core.state) old.core.state s))
act-closes M w Passes old out new i h =
    subst (ActCloses M old new) (sym h.1)
    (steps-close M old new (ap (λ (s : Served). s.unasked) h.0)
    (steps-by (ticks_in_room (at w old) old.core.state) old.core new.core (ap (λ (s : Served). s.core) h.0)
    (ticks-move (at w old) old.core.state h.3)) h.2 (goes M w Passes old out new tt h).sealed)
act-closes M w (Asks c) old out new i h =
    subst (ActCloses M old new) (sym h.1) (asks-close M w c old new h.0 (goes M w (Asks c) old out new tt h).sealed)
act-closes M w (Denies c) old out new i h =
    denies-close M w c old h.0 new out h.1 h.2 h.3 (goes M w (Denies c) old out new tt h).sealed
act-closes M w Sends old out new i h =
    subst (ActCloses M old new) (sym h.given)
    (same-closes M old new (Goes h.datagram ∷ []) (ap (λ (v : CoreValue). v.state) h.sent.1) (ap (λ (v : CoreValue). v.untaken) h.sent.1)
    (λ d x e. (x, subst (λ (xs : List Unasked). unasked_at d xs ≡ Some x) h.unasked e)) refl (tt, tt) (tt, tt) (λ d g. (tt, tt)))
act-closes M w (Tells c k) old out new i h = tells-close M w c k old out new h (goes M w (Tells c k) old out new tt h).sealed
act-closes M w (GoesOn c) old out new i h =
    subst (ActCloses M old new) (sym h.2)
    (same-closes M old new (Says c continue_text ∷ []) (ap (λ (v : CoreValue). v.state) h.1) (ap (λ (v : CoreValue). v.untaken) h.1)
    (λ d x e. changed-before c d (λ (x : Unasked). record h.0.before { told = true; unread = h.0.unread }) old.unasked x
    (λ x n. at-number c old.unasked h.0.before h.0.stands)
    (subst (λ (xs : List Unasked). unasked_at d xs ≡ Some x) h.0.left e)) refl (tt, tt) (tt, tt)
    (λ d g. (λ same. g.unasked h.0.before (subst (λ (i : ℕ). unasked_at i old.unasked ≡ Some h.0.before) same h.0.stands), tt)))
act-closes M w (GivesUp c) old out new i h = gives-up-close M w c old out new h (goes M w (GivesUp c) old out new tt h).sealed
act-closes M w (Forgoes c k) old out new i h = forgoes-close M w c k old out new h (goes M w (Forgoes c k) old out new tt h).sealed
act-closes M w (Rests c) old out new i h =
    subst (ActCloses M old new) (sym h.1)
    (same-closes M old new [] (ap (λ (v : CoreValue). v.state) h.0) (ap (λ (v : CoreValue). v.untaken) h.0)
    (λ d x e. let y = recount-at c d old.unasked new.unasked h.2 x e in (y.0, y.1)) refl tt tt (λ d g. tt))
act-closes M w (Leaves c) old out new i h = absurd i
act-closes M w (Misses c) old out new i h = absurd i
