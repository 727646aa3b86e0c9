-- Whom an input closes.
use Rattle.std.proofs.Common.{◌≡◌, ◌⊎◌, inl, inr, ℕ, true, List, [], ◌∷◌, ◌++◌, Option, Some, None, refl, sym, ap, ◌∙◌, subst}
use Rattle.std.specs.Prelude.{⊤}
use Rattle.std.specs.List.{AllByRecursion, Contains}
use Rattle.std.proofs.lemmas.Grind.{flat_map-append}
use Rattle.std.proofs.lemmas.List.{append-nil, append_assoc}
use Rattle.std.proofs.lemmas.List.Elements.{Contains-append_left, Contains-append_right}
use Rattle.ask_model.specs.Views.{Ask}
use Rattle.journal_book.specs.Entries.{Deed, Opens as Opened, Asks as Asked, Sends as Sent, Hears as Heard, Passes as Passed, Answers, Shuts, Seals, Carries, Written}
use Rattle.journal_book.specs.Views.{ask_of}
use Rattle.http_mapping.specs.Means.{closes}
use Rattle.history_claims.specs.Headline.{IsEntry}
use Rattle.exchange_model.specs.State.{State}
use Rattle.exchange_model.specs.Resting.{HasConn}
use Rattle.exchange_core.specs.Values.{Untaken}
use Rattle.gateway_model.specs.declared.input.Happening.{Happening}
use Rattle.gateway_model.specs.declared.input.Happening.TheVariants as H
use Rattle.gateway_model.specs.declared.input.When.{When}
use Rattle.gateway_model.specs.Acts.{Act, Opens, TurnsAway, Leaves, Misses, Served, Terms, DoesAll}
use Rattle.gateway_model.specs.Closing.{closed_by, closed_in, shut_by, shut_in, IsNotTo, StayClosed, IsLastAnswer, IsClosedFor, AreClosedFor, ClosesAfter, IsNoTurn, ClosesJust, Closes, InputsClose}
use Rattle.gateway_model.specs.Emissions.{Emission, Says, Goes, Closed, GivenUp, Turned, Rotated, Unrotated}
use Rattle.gateway_model.specs.Orders.{IsInOrder}
use Rattle.gateway_model.specs.Resting.{any_terms}
use Rattle.gateway_model.specs.Unasked.{Unasked, unasked_at}
use Rattle.gateway_model.specs.Waiting.{AreApart}
use Rattle.gateway_model.proofs.Awaiting.{IsToTell, entry-more}
use Rattle.gateway_model.proofs.Closings.{IsPlain, Gone, Form, ActCloses}
use Rattle.gateway_model.proofs.Closers.{IsServing, act-closes}
use Rattle.gateway_model.proofs.Order.{all-append, all-as, Each, each-out, each-delivers}
use Rattle.gateway_model.proofs.Untold.{AreToOthers, IsToldBy}

-- An answer of these entries was told, or waits; and after a last one its connection is closed.
abbrev pub IsSettled : Served → List Emission → Deed → Type 0
IsSettled new out (Answers c k g) =
    (t : ℕ) (a : Ask) (later : List Written) → IsEntry (new.core.state.entries ++ later) k t (Asked c a) → closes a.came ≡ true
    → IsToTell new.core.untaken c k ⊎ Contains (closed_in out) c
IsSettled new out _ = ⊤

pub record AllClose (M : Terms) (old new : Served) (out : List Emission) : Type 0 where
  more : List Written
  entries : new.core.state.entries ≡ old.core.state.entries ++ more
  shut : closed_in out ≡ shut_in more
  sealed : old.core.state.sealed ≡ true → new.core.state.sealed ≡ true
  turned : AllByRecursion IsNoTurn out
  pub gone : (c : ℕ) → Gone c old → Gone c new × AllByRecursion (IsNotTo c) out
  last : AreApart old.core.untaken → StayClosed out
  why : AreApart old.core.untaken → (before : Option Emission) → AreClosedFor M new.core.state before out
  told : (c k t : ℕ) (a : Ask) (later : List Written) → IsToTell old.core.untaken c k
      → IsEntry (new.core.state.entries ++ later) k t (Asked c a) → closes a.came ≡ true
      → IsToTell new.core.untaken c k ⊎ Contains (closed_in out) c
  settled : AllByRecursion (λ (w : Written). IsSettled new out w.deed) more

none-close : (M : Terms) (old new : Served) (out : List Emission) → new ≡ old → out ≡ [] → AllClose M old new out
none-close M old new out e f = subst (AllClose M old new) (sym f) (subst (λ (s : Served). AllClose M old s []) (sym e) (record {
  more = [];
  entries = sym (append-nil old.core.state.entries);
  shut = refl;
  sealed = λ s. s;
  turned = tt;
  gone = λ c g. (g, tt);
  last = λ a. tt;
  why = λ a before. tt;
  told = λ c k t a later told stands last. inl told;
  settled = tt;
}))

shut-append : (xs ys : List Written) → shut_in (xs ++ ys) ≡ shut_in xs ++ shut_in ys
shut-append [] ys = refl
shut-append (x ∷ xs) ys =
    ap (λ (ks : List ℕ). shut_by x.deed ++ ks) (shut-append xs ys) ∙ sym (append_assoc (shut_by x.deed) (shut_in xs) (shut_in ys))

-- what is closed by the first act, and then by the others

stay-plain : (xs ys : List Emission) → AllByRecursion IsPlain xs → StayClosed ys → StayClosed (xs ++ ys)
stay-plain [] ys p h = h
stay-plain (Says c b ∷ xs) ys p h = stay-plain xs ys p.1 h
stay-plain (Goes d ∷ xs) ys p h = stay-plain xs ys p.1 h
stay-plain (Closed c ∷ xs) ys p h = absurd p.0
stay-plain (GivenUp c ∷ xs) ys p h = absurd p.0
stay-plain (Turned ∷ xs) ys p h = stay-plain xs ys p.1 h
stay-plain (Rotated old ∷ xs) ys p h = stay-plain xs ys p.1 h
stay-plain (Unrotated fault ∷ xs) ys p h = stay-plain xs ys p.1 h

why-plain : (M : Terms) (S : State) (before : Option Emission) (xs ys : List Emission) → AllByRecursion IsPlain xs
    → ((b : Option Emission) → AreClosedFor M S b ys) → AreClosedFor M S before (xs ++ ys)
why-plain M S before [] ys p h = h before
why-plain M S before (Says c b ∷ xs) ys p h = why-plain M S (Some (Says c b)) xs ys p.1 h
why-plain M S before (Goes d ∷ xs) ys p h = why-plain M S (Some (Goes d)) xs ys p.1 h
why-plain M S before (Closed c ∷ xs) ys p h = absurd p.0
why-plain M S before (GivenUp c ∷ xs) ys p h = absurd p.0
why-plain M S before (Turned ∷ xs) ys p h = why-plain M S (Some Turned) xs ys p.1 h
why-plain M S before (Rotated old ∷ xs) ys p h = why-plain M S (Some (Rotated old)) xs ys p.1 h
why-plain M S before (Unrotated fault ∷ xs) ys p h = why-plain M S (Some (Unrotated fault)) xs ys p.1 h

sealed-why : (M : Terms) (S : State) (c : ℕ) (before : Option Emission) → S.sealed ≡ true → IsClosedFor M S c before
sealed-why M S c None s = s
sealed-why M S c (Some (Says d b)) s = inr s
sealed-why M S c (Some (Goes d)) s = s
sealed-why M S c (Some (Closed d)) s = s
sealed-why M S c (Some (GivenUp d)) s = s
sealed-why M S c (Some Turned) s = s
sealed-why M S c (Some (Rotated old)) s = s
sealed-why M S c (Some (Unrotated fault)) s = s

last-more : (M : Terms) (h more : List Written) (c : ℕ) (bytes : List ℕ) → IsLastAnswer M h c bytes → IsLastAnswer M (h ++ more) c bytes
last-more M h more c bytes x = record {
  answer = x.answer;
  before = x.before;
  asked = entry-more h more x.answer.ask x.before (Asked c (ask_of x.answer.mapping)) x.asked;
  last = x.last;
  answered = entry-more h more x.answer.number x.answer.moment (Answers c x.answer.ask x.answer.found.grounds) x.answered;
  response = x.response;
  tells = x.tells;
  text = x.text;
}

stay-then : (M : Terms) (mid new : Served) (xs ys : List Emission) → Form M mid xs → AllClose M mid new ys → StayClosed ys → StayClosed (xs ++ ys)
stay-then M mid new xs ys (inl plain) k h = stay-plain xs ys plain h
stay-then M mid new xs ys (inr (inl d)) k h =
    subst (λ (zs : List Emission). StayClosed (zs ++ ys)) (sym d.is) ((k.gone d.conn d.gone).1, h)
stay-then M mid new xs ys (inr (inr (inl e))) k h =
    subst (λ (zs : List Emission). StayClosed (zs ++ ys)) (sym e.is) ((k.gone e.conn e.gone).1, h)
stay-then M mid new xs ys (inr (inr (inr f))) k h =
    subst (λ (zs : List Emission). StayClosed (zs ++ ys)) (sym f.is) ((k.gone f.conn f.gone).1, h)

why-then : (M : Terms) (mid new : Served) (before : Option Emission) (xs ys : List Emission) → Form M mid xs → AllClose M mid new ys
    → ((b : Option Emission) → AreClosedFor M new.core.state b ys) → AreClosedFor M new.core.state before (xs ++ ys)
why-then M mid new before xs ys (inl plain) k h = why-plain M new.core.state before xs ys plain h
why-then M mid new before xs ys (inr (inl d)) k h =
    subst (λ (zs : List Emission). AreClosedFor M new.core.state before (zs ++ ys)) (sym d.is)
    (sealed-why M new.core.state d.conn before (k.sealed d.sealed), h (Some (Closed d.conn)))
why-then M mid new before xs ys (inr (inr (inl e))) k h =
    subst (λ (zs : List Emission). AreClosedFor M new.core.state before (zs ++ ys)) (sym e.is) (
      inl (
        refl,
        subst (λ (es : List Written). IsLastAnswer M es e.conn e.bytes) (sym k.entries)
            (last-more M mid.core.state.entries k.more e.conn e.bytes e.answer),
      ),
      h (Some (Closed e.conn)),
    )
why-then M mid new before xs ys (inr (inr (inr f))) k h =
    subst (λ (zs : List Emission). AreClosedFor M new.core.state before (zs ++ ys)) (sym f.is) (h (Some (GivenUp f.conn)))

-- an answer that waits is told by the others, or waits still

later-told : (M : Terms) (mid new : Served) (xs ys : List Emission) → AllClose M mid new ys → (c k t : ℕ) (a : Ask) (later : List Written)
    → IsEntry (new.core.state.entries ++ later) k t (Asked c a) → closes a.came ≡ true
    → IsToTell mid.core.untaken c k ⊎ Contains (closed_in xs) c
    → IsToTell new.core.untaken c k ⊎ Contains (closed_in (xs ++ ys)) c
later-told M mid new xs ys k c j t a later stands last (inl told) = by (k.told c j t a later told stands last)
  where
    by : IsToTell new.core.untaken c j ⊎ Contains (closed_in ys) c → IsToTell new.core.untaken c j ⊎ Contains (closed_in (xs ++ ys)) c
    by (inl h) = inl h
    by (inr h) = inr (subst (λ (ks : List ℕ). Contains ks c) (sym (flat_map-append closed_by xs ys))
        (Contains-append_right (closed_in xs) (closed_in ys) c h))
later-told M mid new xs ys k c j t a later stands last (inr h) =
    inr (subst (λ (ks : List ℕ). Contains ks c) (sym (flat_map-append closed_by xs ys))
    (Contains-append_left (closed_in xs) (closed_in ys) c h))

settled-first : (M : Terms) (mid new : Served) (xs ys : List Emission) → AllClose M mid new ys → (d : Deed) → IsToldBy mid.core.untaken d
    → IsSettled new (xs ++ ys) d
settled-first M mid new xs ys k (Opened c) h = tt
settled-first M mid new xs ys k (Asked c a) h = tt
settled-first M mid new xs ys k (Sent p b t) h = tt
settled-first M mid new xs ys k (Heard p b) h = tt
settled-first M mid new xs ys k Passed h = tt
settled-first M mid new xs ys k (Answers c j g) h = λ t a later stands last. later-told M mid new xs ys k c j t a later stands last (inl h)
settled-first M mid new xs ys k (Shuts c) h = tt
settled-first M mid new xs ys k Seals h = tt
settled-first M mid new xs ys k (Carries number mark done) h = tt

settled-rest : (new : Served) (xs ys : List Emission) (d : Deed) → IsSettled new ys d → IsSettled new (xs ++ ys) d
settled-rest new xs ys (Opened c) h = tt
settled-rest new xs ys (Asked c a) h = tt
settled-rest new xs ys (Sent p b t) h = tt
settled-rest new xs ys (Heard p b) h = tt
settled-rest new xs ys Passed h = tt
settled-rest new xs ys (Answers c j g) h = λ t a later stands last. by (h t a later stands last)
  where
    by : IsToTell new.core.untaken c j ⊎ Contains (closed_in ys) c → IsToTell new.core.untaken c j ⊎ Contains (closed_in (xs ++ ys)) c
    by (inl k) = inl k
    by (inr k) = inr (subst (λ (ks : List ℕ). Contains ks c) (sym (flat_map-append closed_by xs ys))
        (Contains-append_right (closed_in xs) (closed_in ys) c k))
settled-rest new xs ys (Shuts c) h = tt
settled-rest new xs ys Seals h = tt
settled-rest new xs ys (Carries number mark done) h = tt

closes-then : (M : Terms) (old mid new : Served) (xs ys : List Emission) → ActCloses M old mid xs → AllClose M mid new ys → AllClose M old new (xs ++ ys)
closes-then M old mid new xs ys h k = record {
  more = h.more ++ k.more;
  entries =
      k.entries ∙ (ap (λ (es : List Written). es ++ k.more) h.entries
      ∙ append_assoc old.core.state.entries h.more k.more);
  shut =
      flat_map-append closed_by xs ys
      ∙ (ap (λ (ks : List ℕ). ks ++ closed_in ys) h.shut
      ∙ (ap (λ (ks : List ℕ). shut_in h.more ++ ks) k.shut
      ∙ sym (shut-append h.more k.more)));
  sealed = λ s. k.sealed (h.sealed s);
  turned = all-append IsNoTurn xs ys h.turned k.turned;
  gone = λ c g. let first = h.gone c g in let rest = k.gone c first.0 in
      (rest.0, all-append (IsNotTo c) xs ys first.1 rest.1);
  last = λ a. stay-then M mid new xs ys (h.form a) k (k.last (h.apart a));
  why = λ a before. why-then M mid new before xs ys (h.form a) k (k.why (h.apart a));
  told = λ c j t a later told stands last. later-told M mid new xs ys k c j t a later stands last
      (h.told c j t a (k.more ++ later) told
      (subst (λ (es : List Written). IsEntry es j t (Asked c a))
      (ap (λ (es : List Written). es ++ later) k.entries ∙ append_assoc mid.core.state.entries k.more later) stands) last);
  settled = all-append (λ (w : Written). IsSettled new (xs ++ ys) w.deed) h.more k.more
      (all-as (λ (w : Written). IsToldBy mid.core.untaken w.deed) (λ (w : Written). IsSettled new (xs ++ ys) w.deed) h.more
      (λ w told. settled-first M mid new xs ys k w.deed told) h.answered)
      (all-as (λ (w : Written). IsSettled new ys w.deed) (λ (w : Written). IsSettled new (xs ++ ys) w.deed) k.more
      (λ w s. settled-rest new xs ys w.deed s) k.settled);
}

pub all-close : (M : Terms) (w : When) (acts : List Act) (old : Served) (out : List Emission) (new : Served)
    → AllByRecursion IsServing acts → DoesAll M w acts old out new → AllClose M old new out
all-close M w [] old out new i h = none-close M old new out h.0 h.1
all-close M w (a ∷ acts) old out new i h =
    subst (AllClose M old new) (sym h.5)
    (closes-then M old h.0 new h.1 h.2 (act-closes M w a old h.1 h.0 i.0 h.3) (all-close M w acts h.0 h.2 new i.1 h.4))

-- the acts of an input
pub each-serving : Each IsServing
each-serving = record { asks = λ c. tt; denies = λ c. tt; sends = tt; tells = λ c k. tt; goes_on = λ c. tt; gives_up = λ c. tt; forgoes = λ c k. tt; rests = λ c. tt }

abbrev pub AreServing : List Act → Type 0
AreServing acts = AllByRecursion IsServing acts

settled-closes : (new : Served) (out : List Emission) → new.core.untaken ≡ [] → (d : Deed) → IsSettled new out d
    → ClosesAfter new.core.state.entries out d
settled-closes new out none (Opened c) h = tt
settled-closes new out none (Asked c a) h = tt
settled-closes new out none (Sent p b t) h = tt
settled-closes new out none (Heard p b) h = tt
settled-closes new out none Passed h = tt
settled-closes new out none (Answers c k g) h = λ t a stands last.
    by (h t a [] (subst (λ (es : List Written). IsEntry es k t (Asked c a)) (sym (append-nil new.core.state.entries)) stands) last)
  where
    by : IsToTell new.core.untaken c k ⊎ Contains (closed_in out) c → Contains (closed_in out) c
    by (inl told) = absurd (subst (λ (us : List Untaken). IsToTell us c k) none told)
    by (inr there_so) = there_so
settled-closes new out none (Shuts c) h = tt
settled-closes new out none Seals h = tt
settled-closes new out none (Carries number mark done) h = tt

closes-just : (M : Terms) (w : When) (acts : List Act) (old : Served) (out : List Emission) (new : Served)
    → AreServing acts → DoesAll M w acts old out new → old.core.untaken ≡ [] → new.core.untaken ≡ []
    → ClosesJust M old.core.state new.core.state out
closes-just M w acts old out new i h before after =
    let all : AllClose M old new out = all-close M w acts old out new i h in
    let apart : AreApart old.core.untaken = subst AreApart (sym before) tt in
    record {
      more = all.more;
      entries = all.entries;
      shut = all.shut;
      why = all.why apart None;
      last = all.last apart;
      all = all-as (λ (w : Written). IsSettled new out w.deed) (λ (w : Written). ClosesAfter new.core.state.entries out w.deed) all.more
          (λ w s. settled-closes new out after w.deed s) all.settled;
      turned = all.turned;
    }

pub input-closes : (M : Terms) (w : When) (x : Happening) (acts : List Act) (old : Served) (out : List Emission) (new : Served)
    → DoesAll M w acts old out new → IsInOrder x acts → old.core.untaken ≡ [] → new.core.untaken ≡ []
    → Closes M x old.core.state new.core.state out
input-closes M w H.Open acts old out new h o before after = by o
  where
    by : ((c : ℕ) × (acts ≡ Opens c ∷ [])) ⊎ (acts ≡ TurnsAway ∷ []) → (out ≡ []) ⊎ (out ≡ Turned ∷ [])
    by (inl one) =
        let d = subst (λ (xs : List Act). DoesAll M w xs old out new) one.1 h in
        inl (d.5 ∙ (ap (λ (ys : List Emission). ys ++ d.2) d.3.2 ∙ d.4.1))
    by (inr one) =
        let d = subst (λ (xs : List Act). DoesAll M w xs old out new) one h in
        inr (d.5 ∙ (ap (λ (ys : List Emission). ys ++ d.2) d.3.2 ∙ ap (λ (ys : List Emission). Turned ∷ ys) d.4.1))
input-closes M w (H.Bytes c bytes) acts old out new h o before after =
    closes-just M w acts old out new (subst AreServing (sym o.are) (tt, each-out IsServing each-serving c o.rest o.then)) h before after
input-closes M w (H.Datagram p bytes) acts old out new h o before after =
    closes-just M w acts old out new (subst AreServing (sym o.are) (tt, each-delivers IsServing each-serving o.rest o.then)) h before after
input-closes M w H.Tick acts old out new h o before after =
    closes-just M w acts old out new (subst AreServing (sym o.are) (tt, each-delivers IsServing each-serving o.rest o.then)) h before after
input-closes M w (H.Close c) acts old out new h o before after = by o
  where
    by : (acts ≡ Leaves c ∷ []) ⊎ (acts ≡ Misses c ∷ []) → out ≡ []
    by (inl one) =
        let d = subst (λ (xs : List Act). DoesAll M w xs old out new) one h in
        d.5 ∙ (ap (λ (ys : List Emission). ys ++ d.2) d.3.1 ∙ d.4.1)
    by (inr one) =
        let d = subst (λ (xs : List Act). DoesAll M w xs old out new) one h in
        d.5 ∙ (ap (λ (ys : List Emission). ys ++ d.2) d.3.1 ∙ d.4.1)
input-closes M w H.Rotate acts old out new h o before after = absurd o

-- Who isn't connected, and isn't by this input, is told nothing and isn't closed.
pub input-silent : (M : Terms) (w : When) (x : Happening) (acts : List Act) (old : Served) (out : List Emission) (new : Served)
    → DoesAll M w acts old out new → IsInOrder x acts → old.core.untaken ≡ [] → new.core.untaken ≡ []
    → (c : ℕ) → ((p : Option ℕ) → HasConn old.core.state.conns c p → ⊥)
    → ((u : Unasked) → unasked_at c old.unasked ≡ Some u → ⊥) → AllByRecursion (IsNotTo c) out
input-silent M w x acts old out new h o before after c shut unasked = by x o
  where
    gone : Gone c old
    gone = record { told = subst (AreToOthers c) (sym before) tt; shut = shut; unasked = unasked }

    serving : AreServing acts → AllByRecursion (IsNotTo c) out
    serving i = ((all-close M w acts old out new i h).gone c gone).1

    quiet : (out ≡ []) ⊎ (out ≡ Turned ∷ []) → AllByRecursion (IsNotTo c) out
    quiet (inl e) = subst (λ (es : List Emission). AllByRecursion (IsNotTo c) es) (sym e) tt
    quiet (inr e) = subst (λ (es : List Emission). AllByRecursion (IsNotTo c) es) (sym e) (tt, tt)

    by : (x : Happening) → IsInOrder x acts → AllByRecursion (IsNotTo c) out
    by H.Open o = quiet (input-closes M w H.Open acts old out new h o before after)
    by (H.Bytes d bytes) o = serving (subst AreServing (sym o.are) (tt, each-out IsServing each-serving d o.rest o.then))
    by (H.Datagram p bytes) o = serving (subst AreServing (sym o.are) (tt, each-delivers IsServing each-serving o.rest o.then))
    by H.Tick o = serving (subst AreServing (sym o.are) (tt, each-delivers IsServing each-serving o.rest o.then))
    by (H.Close d) o = quiet (inl (input-closes M w (H.Close d) acts old out new h o before after))
    by H.Rotate o = absurd o

pub inputs-close : InputsClose
inputs-close w x acts old out new h o before after = input-closes any_terms w x acts old out new h o before after
