-- What each act asks on a connection.
use Rattle.std.proofs.Common.{◌≡◌, ◌≢◌, ◌⊎◌, inl, inr, ℕ, Bool, true, false, cond, List, [], ◌∷◌, ◌++◌, Some, None, Ok, Err, refl, sym, ap, ◌∙◌, subst, eqb-true, eq-eqb, ◌+◌, length}
use Rattle.gateway_model.proofs.Recounting.{recount-after, recount-none}
use Rattle.std.specs.Prelude.{◌==◌, ⊤}
use Rattle.std.specs.List.{AllByRecursion}
use Rattle.std.proofs.lemmas.Bool.{ne_eqb, both_ways}
use Rattle.std.proofs.lemmas.List.{append-nil, append_assoc}
use Rattle.history_laws.proofs.CallerLemmas.{none-some, some-is}
use Rattle.http_edge.specs.Reading.{ReadsFirst, Item, closes as item_closes}
use Rattle.ask_model.specs.Views.{Ask}
use Rattle.journal_book.specs.Entries.{Asks as Asked, Written}
use Rattle.http_mapping.specs.Means.{closes}
use Rattle.exchange_model.specs.State.{State}
use Rattle.exchange_model.specs.Steps.{shuts, seals}
use Rattle.exchange_model.specs.Growing.{at_moment}
use Rattle.exchange_model.specs.Sealing.{opens_in_room, asks_in_room, hears_in_room, ticks_in_room}
use Rattle.exchange_core.specs.declared.fault.OpenFault.TheVariants as Open
use Rattle.exchange_core.specs.Calls.{IsOpened, IsAsked, AsksSo}
use Rattle.exchange_core.specs.Values.{CoreValue}
use Rattle.gateway_model.specs.declared.input.When.{When}
use Rattle.gateway_model.specs.Acts.{Act, Opens, TurnsAway, Takes, Hears, Passes, Asks, Denies, Sends, Tells, GoesOn, GivesUp, Forgoes, Rests, Leaves, Misses, Served, Terms, IsAsking, IsDenying, IsClosing, Ends, Does, DoesAll, at}
use Rattle.gateway_model.specs.Asking.{asked_on, IsLeft, IsOver, AreAsked}
use Rattle.gateway_model.specs.Emissions.{Emission}
use Rattle.gateway_model.specs.Unasked.{Unasked, unasked_at, without, changed_at, extended, left_after}
use Rattle.gateway_model.proofs.Asked.{own-after, own-none, left-same, none-left, asked-both, asked-inner, Effect, effect-then}
use Rattle.gateway_model.proofs.Awaiting.{which}
use Rattle.gateway_model.proofs.Moving.{Moves, Begins as AsksBegin, hears-move, ticks-move, turns-away, asks-begin, denied-is}
use Rattle.gateway_model.proofs.Numbers.{at-number, extended-number}
use Rattle.gateway_model.proofs.Standing.{others-same}

-- steps of a core that ask nothing on a connection

record Silent (c : ℕ) (S S1 : State) : Type 0 where
  more : List Written
  entries : S1.entries ≡ S.entries ++ more
  opened : S1.opened ≡ S.opened
  none : asked_on c more ≡ []

silent-same : (c : ℕ) (S S1 : State) → S1 ≡ S → Silent c S S1
silent-same c S S1 e = record {
  more = [];
  entries = ap (λ (X : State). X.entries) e ∙ sym (append-nil S.entries);
  opened = ap (λ (X : State). X.opened) e;
  none = refl;
}

silent-moves : (c : ℕ) (S S1 : State) → Moves S S1 → Silent c S S1
silent-moves c S S1 m = record {
  more = m.more;
  entries = m.entries;
  opened = m.opened;
  none = asked-inner c m.more m.inner;
}

silent-as : (c : ℕ) (S S1 S2 : State) → S2 ≡ S1 → Silent c S S1 → Silent c S S2
silent-as c S S1 S2 e h = subst (λ (X : State). Silent c S X) (sym e) h

silent-then : (c : ℕ) (S S1 S2 : State) → Silent c S S1 → Silent c S1 S2 → Silent c S S2
silent-then c S S1 S2 a b = record {
  more = a.more ++ b.more;
  entries =
      b.entries ∙ ap (λ (es : List Written). es ++ b.more) a.entries
      ∙ append_assoc S.entries a.more b.more;
  opened = b.opened ∙ a.opened;
  none =
      asked-both c a.more b.more ∙ ap (λ (ks : List Ask). ks ++ asked_on c b.more) a.none ∙ b.none;
}

silent-shut : (c t d : ℕ) (S : State) → Silent c S (shuts t d S)
silent-shut c t d S = record { more = _; entries = refl; opened = refl; none = refl }

module _ (P : Ask → Type 0) (c : ℕ) (old new : Served) (s : Silent c old.core.state new.core.state) where
  -- The connection keeps its bytes, and whether its last request was read.
  kept-effect : ((u : Unasked) → unasked_at c old.unasked ≡ Some u
      → (v : Unasked) × (unasked_at c new.unasked ≡ Some v) × (v.closing ≡ u.closing) × (v.text ≡ u.text))
      → (unasked_at c old.unasked ≡ None → unasked_at c new.unasked ≡ None)
      → Effect P c [] old new
  kept-effect some none = record {
    more = s.more;
    entries = s.entries;
    opened = s.opened;
    reads = λ u is goes.
        let v = some u is in
        record {
          items = [];
          rest = u.text ++ [];
          reads = refl;
          asks = subst (AreAsked P []) (sym s.none) tt;
          left =
              subst (IsLeft [] (u.text ++ [])) (sym v.1)
              (inl (tt, v.2 ∙ goes, v.3 ∙ sym (append-nil u.text)));
        };
    last = λ u is closing.
        let v = some u is in (s.none, subst IsOver (sym v.1) (v.2 ∙ closing));
    gone = λ is. (s.none, none is);
  }

  same-effect : unasked_at c new.unasked ≡ unasked_at c old.unasked → Effect P c [] old new
  same-effect e = kept-effect (λ u is. (u, e ∙ is, refl, refl)) (λ is. e ∙ is)

  -- It isn't open any more.
  shut-effect : unasked_at c new.unasked ≡ None → Effect P c [] old new
  shut-effect e = record {
    more = s.more;
    entries = s.entries;
    opened = s.opened;
    reads = λ u is goes. record {
      items = [];
      rest = u.text ++ [];
      reads = refl;
      asks = subst (AreAsked P []) (sym s.none) tt;
      left = subst (IsLeft [] (u.text ++ [])) (sym e) tt;
    };
    last = λ u is closing. (s.none, subst IsOver (sym e) tt);
    gone = λ is. (s.none, e);
  }

abbrev pub state-of : CoreValue → State
state-of v = v.state

closing-effect : (P : Ask → Type 0) (w : When) (c d : ℕ) (old new : Served) → IsClosing w d old new → Effect P c [] old new
closing-effect P w c d old new h = by (which c d)
  where
    s : Silent c old.core.state new.core.state
    s = silent-as c old.core.state (shuts (at w old) d old.core.state) new.core.state (ap state-of h.0.1)
        (silent-shut c (at w old) d old.core.state)

    by : (c ≡ d) ⊎ (c ≢ d) → Effect P c [] old new
    by (inl e) =
        shut-effect P c old new s
        (ap (unasked_at c) h.1 ∙ ap (λ (k : ℕ). unasked_at c (without k old.unasked)) (sym e) ∙ none-left c old.unasked)
    by (inr ne) = same-effect P c old new s (ap (unasked_at c) h.1 ∙ left-same d c old.unasked ne)

-- a request is asked

begun-at : (t word d k : ℕ) (a : Ask) (v u : CoreValue) → IsAsked (Ok k) t word d a v u → AsksBegin t d a v.state u.state
begun-at t word d k a v u h =
    let so = h.2 in
    let S : State = asks_in_room t d a so.numbers v.state in
    let unsealed : S.sealed ≡ false = sym (ap (λ (x : CoreValue). x.state.sealed) so.is) ∙ h.1 in
    subst (AsksBegin t d a v.state) (sym (ap state-of so.is)) (by S unsealed (asks-begin t d a so.numbers v.state so.idle))
  where
    by : (S : State) → S.sealed ≡ false → AsksBegin t d a v.state S ⊎ (Moves v.state S × (S.sealed ≡ true)) → AsksBegin t d a v.state S
    by S e (inl b) = b
    by S e (inr m) = absurd (both_ways S.sealed e m.1)

asks-effect : (M : Terms) (w : When) (c d : ℕ) (old new : Served) → IsAsking M w d old new → Effect M.IsMeaning c [] old new
asks-effect M w c d old new h = by (which c d)
  where
    b : AsksBegin (at w old) d h.ask old.core.state new.core.state
    b = begun-at (at w old) w.word d h.number h.ask old.core new.core h.asked

    r : List ℕ
    r = h.reads.reads.rest

    i : Item
    i = h.reads.item

    asked : (x : Bool) → (d == c) ≡ x → asked_on c (at_moment (at w old) (Asked d h.ask) ∷ b.rest) ≡ cond x (h.ask ∷ []) []
    asked x e =
        ap (λ (ks : List Ask). cond (d == c) (h.ask ∷ []) [] ++ ks) (asked-inner c b.rest b.inner)
        ∙ append-nil (cond (d == c) (h.ask ∷ []) [])
        ∙ ap (λ (y : Bool). cond y (h.ask ∷ []) []) e

    other : c ≢ d → Effect M.IsMeaning c [] old new
    other ne =
        same-effect M.IsMeaning c old new
        (record {
          more = at_moment (at w old) (Asked d h.ask) ∷ b.rest;
          entries = b.entries;
          opened = b.opened;
          none = asked false (ne_eqb d c (λ q. ne (sym q)));
        })
        (ap (unasked_at c) h.reads.reads.left
        ∙ others-same d c (λ (x : Unasked). left_after d i r) old.unasked ne (λ x e. refl))

    -- what it leaves
    now : c ≡ d → unasked_at c new.unasked ≡ Some (left_after d i r)
    now e =
        ap (λ (k : ℕ). unasked_at k new.unasked) e ∙ ap (unasked_at d) h.reads.reads.left
        ∙ own-after d (λ (x : Unasked). left_after d i r) old.unasked h.reads.reads.before (λ x n. refl) h.reads.reads.stands

    left : (x : Bool) → item_closes i ≡ x → IsLeft (i ∷ []) r (Some (left_after d i r))
    left true e = inr (e, e)
    left false e = inl ((e, tt), e, ap (λ (x : Bool). cond x [] r) e)

    was : c ≡ d → (u : Unasked) → unasked_at c old.unasked ≡ Some u → u ≡ h.reads.reads.before
    was e u is =
        some-is u h.reads.reads.before
        (sym is ∙ ap (λ (k : ℕ). unasked_at k old.unasked) e ∙ h.reads.reads.stands)

    own : c ≡ d → Effect M.IsMeaning c [] old new
    own e = record {
      more = at_moment (at w old) (Asked d h.ask) ∷ b.rest;
      entries = b.entries;
      opened = b.opened;
      reads = λ u is goes. record {
        items = i ∷ [];
        rest = r;
        reads =
            subst (λ (t : List ℕ). ReadsFirst t (i ∷ []) r)
            (sym (append-nil u.text ∙ ap (λ (x : Unasked). x.text) (was e u is)))
            (r, h.reads.reads.first, refl, λ x. refl);
        asks =
            subst (AreAsked M.IsMeaning (i ∷ [])) (sym (asked true (eq-eqb d c (sym e))))
            (h.reads.came, h.reads.meant, tt);
        left = subst (IsLeft (i ∷ []) r) (sym (now e)) (left (item_closes i) refl);
      };
      last = λ u is closing.
          absurd (both_ways h.reads.reads.before.closing h.reads.reads.goes_on (sym (ap (λ (x : Unasked). x.closing) (was e u is)) ∙ closing));
      gone = λ is.
          absurd (none-some h.reads.reads.before
          (sym is ∙ ap (λ (k : ℕ). unasked_at k old.unasked) e ∙ h.reads.reads.stands));
    }

    by : (c ≡ d) ⊎ (c ≢ d) → Effect M.IsMeaning c [] old new
    by (inl e) = own e
    by (inr ne) = other ne

-- or not taken any more

denies-effect : (M : Terms) (w : When) (c d : ℕ) (old mid new : Served) → IsDenying M w d old mid → IsClosing w d mid new
    → Effect M.IsMeaning c [] old new
denies-effect M w c d old mid new h k = by (which c d)
  where
    denied : Silent c old.core.state mid.core.state
    denied = so h.denied.2
      where
        so : ((old.core.state.sealed ≡ true) × (mid.core ≡ old.core)) ⊎ AsksSo (at w old) w.word d h.ask old.core mid.core
            → Silent c old.core.state mid.core.state
        so (inl same) = silent-same c old.core.state mid.core.state (ap state-of same.1)
        so (inr x) =
            let S : State = asks_in_room (at w old) d h.ask x.numbers old.core.state in
            silent-as c old.core.state S mid.core.state (ap state-of x.is)
            (is S (denied-is (at w old) d h.ask x.numbers old.core.state
            (sym (ap (λ (v : CoreValue). v.state.sealed) x.is) ∙ h.denied.0)))
          where
            is : (S : State) → (S ≡ old.core.state) ⊎ (S ≡ seals (at w old) old.core.state) → Silent c old.core.state S
            is S (inl e) = silent-same c old.core.state S e
            is S (inr e) = silent-as c old.core.state (seals (at w old) old.core.state) S e
                (record { more = _; entries = refl; opened = refl; none = refl })

    shut : Silent c mid.core.state new.core.state
    shut = silent-as c mid.core.state (shuts (at w mid) d mid.core.state) new.core.state (ap state-of k.0.1)
        (silent-shut c (at w mid) d mid.core.state)

    s : Silent c old.core.state new.core.state
    s = silent-then c old.core.state mid.core.state new.core.state denied shut

    by : (c ≡ d) ⊎ (c ≢ d) → Effect M.IsMeaning c [] old new
    by (inl e) =
        shut-effect M.IsMeaning c old new s
        (ap (unasked_at c) k.1 ∙ ap (λ (j : ℕ). unasked_at c (without j mid.unasked)) (sym e) ∙ none-left c mid.unasked)
    by (inr ne) =
        same-effect M.IsMeaning c old new s
        (ap (unasked_at c) k.1 ∙ left-same d c mid.unasked ne ∙ ap (unasked_at c) h.reads.reads.left
        ∙ others-same d c (λ (x : Unasked). left_after d h.reads.item h.reads.reads.rest) old.unasked ne (λ x e. refl))

-- bytes come in

pub takes-effect : (P : Ask → Type 0) (c d : ℕ) (bytes : List ℕ) (old new : Served)
    → new ≡ record old { unasked = changed_at d (extended bytes) old.unasked }
    → Effect P c (cond (d == c) bytes []) old new
takes-effect P c d bytes old new h = by (d == c) refl
  where
    s : Silent c old.core.state new.core.state
    s = silent-same c old.core.state new.core.state (ap (λ (x : Served). x.core.state) h)

    number : (x : Unasked) → x.number ≡ d → (extended bytes x).number ≡ d
    number x e = extended-number bytes x ∙ e

    unasked : new.unasked ≡ changed_at d (extended bytes) old.unasked
    unasked = ap (λ (x : Served). x.unasked) h

    at-own : d ≡ c → (u : Unasked) → unasked_at c old.unasked ≡ Some u → unasked_at c new.unasked ≡ Some (extended bytes u)
    at-own e u is =
        ap (unasked_at c) unasked ∙ ap (λ (k : ℕ). unasked_at k (changed_at d (extended bytes) old.unasked)) (sym e)
        ∙ own-after d (extended bytes) old.unasked u number (ap (λ (k : ℕ). unasked_at k old.unasked) e ∙ is)

    goes-on : (u : Unasked) → u.closing ≡ false → extended bytes u ≡ record u { text = u.text ++ bytes; unread = u.unread + length bytes }
    goes-on u f = ap (λ (b : Bool). cond b u (record u { text = u.text ++ bytes; unread = u.unread + length bytes })) f

    by : (b : Bool) → (d == c) ≡ b → Effect P c (cond b bytes []) old new
    by false e =
        same-effect P c old new s
        (ap (unasked_at c) unasked
        ∙ others-same d c (extended bytes) old.unasked (λ q. (both_ways (d == c) e (eq-eqb d c (sym q)))) number)
    by true e =
        let is : d ≡ c = eqb-true d c e in
        record {
          more = [];
          entries = ap (λ (x : Served). x.core.state.entries) h ∙ sym (append-nil old.core.state.entries);
          opened = s.opened;
          reads = λ u stood goes. record {
            items = [];
            rest = u.text ++ bytes;
            reads = refl;
            asks = tt;
            left =
                subst (IsLeft [] (u.text ++ bytes)) (sym (at-own is u stood))
                (inl (tt, ap (λ (x : Unasked). x.closing) (goes-on u goes) ∙ goes, ap (λ (x : Unasked). x.text) (goes-on u goes)));
          };
          last = λ u stood closing. (
            refl,
            subst IsOver (sym (at-own is u stood ∙ ap (λ (b : Bool). Some (cond b u (record u { text = u.text ++ bytes; unread = u.unread + length bytes }))) closing)) closing,
          );
          gone = λ stood. (
            refl,
            ap (unasked_at c) unasked ∙ ap (λ (k : ℕ). unasked_at k (changed_at d (extended bytes) old.unasked)) (sym is)
                ∙ own-none d (extended bytes) old.unasked number (ap (λ (k : ℕ). unasked_at k old.unasked) is ∙ stood),
          );
        }

-- any act but an opening, and bytes that come

abbrev pub IsPlain : Act → Type 0
IsPlain (Opens d) = ⊥
IsPlain (Takes d bytes) = ⊥
IsPlain _ = ⊤

ends-effect : (P : Ask → Type 0) (w : When) (c d : ℕ) (b : Bool) (told : Served) (after : List Emission) (new : Served)
    → Ends w d b told after new → Effect P c [] told new
ends-effect P w c d true told after new e = closing-effect P w c d told new e.0
ends-effect P w c d false told after new e =
    same-effect P c told new (silent-same c told.core.state new.core.state (ap (λ (s : Served). s.core.state) e.0))
    (ap (λ (s : Served). unasked_at c s.unasked) e.0)

-- nothing changes
still-effect : (P : Ask → Type 0) (c : ℕ) (old new : Served) → new ≡ old → Effect P c [] old new
still-effect P c old new e =
    same-effect P c old new (silent-same c old.core.state new.core.state (ap (λ (s : Served). s.core.state) e))
    (ap (λ (s : Served). unasked_at c s.unasked) e)

plain-effect : (M : Terms) (w : When) (c : ℕ) (a : Act) (old : Served) (out : List Emission) (new : Served)
    → IsPlain a → Does M w a old out new → Effect M.IsMeaning c [] old new
plain-effect M w c (Opens d) old out new p h = absurd p
plain-effect M w c TurnsAway old out new p h = same-effect M.IsMeaning c old new (by h.0) (ap (unasked_at c) h.1)
  where
    by : IsOpened (Err Open.Full) (at w old) old.core new.core ⊎ IsOpened (Err Open.Sealed) (at w old) old.core new.core
        → Silent c old.core.state new.core.state
    by (inl full) = silent-same c old.core.state new.core.state (ap state-of full.0)
    by (inr sealed) =
        let S : State = opens_in_room (at w old) old.core.state in
        silent-as c old.core.state S new.core.state (ap state-of sealed.0)
        (silent-moves c old.core.state S
        (turns-away (at w old) old.core.state (sym (ap (λ (v : CoreValue). v.state.sealed) sealed.0) ∙ sealed.1)))
plain-effect M w c (Takes d bytes) old out new p h = absurd p
plain-effect M w c (Hears q bytes) old out new p h =
    let S : State = hears_in_room (at w old) q bytes h.0.numbers old.core.state in
    same-effect M.IsMeaning c old new
    (silent-as c old.core.state S new.core.state (ap state-of h.0.is)
    (silent-moves c old.core.state S (hears-move (at w old) q bytes h.0.numbers old.core.state h.4)))
    (ap (unasked_at c) h.1)
plain-effect M w c Passes old out new p h =
    let S : State = ticks_in_room (at w old) old.core.state in
    same-effect M.IsMeaning c old new
    (silent-as c old.core.state S new.core.state (ap (λ (s : Served). s.core.state) h.0)
    (silent-moves c old.core.state S (ticks-move (at w old) old.core.state h.3)))
    (ap (λ (s : Served). unasked_at c s.unasked) h.0)
plain-effect M w c (Asks d) old out new p h = asks-effect M w c d old new h.0
plain-effect M w c (Denies d) old out new p h = denies-effect M w c d old h.0 new h.1 h.2
plain-effect M w c Sends old out new p h =
    same-effect M.IsMeaning c old new (silent-same c old.core.state new.core.state (ap state-of h.sent.1))
    (ap (unasked_at c) h.unasked)
plain-effect M w c (Tells d k) old out new p h =
    effect-then M.IsMeaning c [] [] old h.told new
    (same-effect M.IsMeaning c old h.told (silent-same c old.core.state h.told.core.state (ap state-of h.taken.3))
    (ap (unasked_at c) h.unasked))
    (ends-effect M.IsMeaning w c d (closes h.answer.mapping.came) h.told h.after new h.ends)
plain-effect M w c (GoesOn d) old out new p h = by (which c d)
  where
    f : Unasked → Unasked
    f x = record h.0.before { told = true; unread = h.0.unread }

    number : (x : Unasked) → x.number ≡ d → (f x).number ≡ d
    number x e = at-number d old.unasked h.0.before h.0.stands

    s : Silent c old.core.state new.core.state
    s = silent-same c old.core.state new.core.state (ap state-of h.1)

    at-own : c ≡ d → unasked_at c old.unasked ≡ Some h.0.before
    at-own e = ap (λ (k : ℕ). unasked_at k old.unasked) e ∙ h.0.stands

    now : c ≡ d → unasked_at c new.unasked ≡ Some (f h.0.before)
    now e =
        ap (λ (k : ℕ). unasked_at k new.unasked) e ∙ ap (unasked_at d) h.0.left
        ∙ own-after d f old.unasked h.0.before number h.0.stands

    by : (c ≡ d) ⊎ (c ≢ d) → Effect M.IsMeaning c [] old new
    by (inl e) =
        kept-effect M.IsMeaning c old new s
        (λ u is.
        let same : u ≡ h.0.before = some-is u h.0.before (sym is ∙ at-own e) in
        (f h.0.before, now e, ap (λ (x : Unasked). x.closing) (sym same), ap (λ (x : Unasked). x.text) (sym same)))
        (λ is. absurd (none-some h.0.before (sym is ∙ at-own e)))
    by (inr ne) =
        same-effect M.IsMeaning c old new s (ap (unasked_at c) h.0.left ∙ others-same d c f old.unasked ne number)
plain-effect M w c (GivesUp d) old out new p h = closing-effect M.IsMeaning w c d old new h.0
plain-effect M w c (Forgoes d k) old out new p h =
    effect-then M.IsMeaning c [] [] old h.0 new
    (same-effect M.IsMeaning c old h.0 (silent-same c old.core.state h.0.core.state (ap state-of h.1.taken.3))
    (ap (unasked_at c) h.1.unasked))
    (closing-effect M.IsMeaning w c d h.0 new h.2)
plain-effect M w c (Rests d) old out new p h =
    kept-effect M.IsMeaning c old new (silent-same c old.core.state new.core.state (ap state-of h.0))
    (λ u is. recount-after d c old.unasked new.unasked h.2 u is) (λ is. recount-none d c old.unasked new.unasked h.2 is)
plain-effect M w c (Leaves d) old out new p h = closing-effect M.IsMeaning w c d old new h.0
plain-effect M w c (Misses d) old out new p h = still-effect M.IsMeaning c old new h.0

abbrev pub ArePlain : List Act → Type 0
ArePlain acts = AllByRecursion IsPlain acts

pub all-effect : (M : Terms) (w : When) (c : ℕ) (acts : List Act) (old : Served) (out : List Emission) (new : Served)
    → ArePlain acts → DoesAll M w acts old out new → Effect M.IsMeaning c [] old new
all-effect M w c [] old out new p h = still-effect M.IsMeaning c old new h.0
all-effect M w c (a ∷ acts) old out new p h =
    effect-then M.IsMeaning c [] [] old h.0 new (plain-effect M w c a old h.1 h.0 p.0 h.3)
    (all-effect M w c acts h.0 h.2 new p.1 h.4)
