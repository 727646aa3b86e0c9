-- Which of the open exchanges writes have outrun.
use Rattle.std.proofs.Common.{◌≡◌, ℕ, Bool, true, false, cond, not, inl, inr, List, [], ◌∷◌, map, Option, Some, None, is_some, is_none, refl, sym, ap, subst, ◌∙◌}
use Rattle.ask_model.specs.Views.{Ask}
use Rattle.std.specs.Prelude.{option_and_then}
use Rattle.std.specs.List.{AllByRecursion, Contains, list_any, slice_get}
use Rattle.std.proofs.lemmas.Bool.{false≢true}
use Rattle.ask_model.specs.Requests.{CoapRequest, Requests}
use Rattle.ask_model.specs.Sharing.{asked_place, writes_to}
use Rattle.journal_book.specs.Entries.{Asks, Written}
use Rattle.history_laws.specs.Readings.{Noted}
use Rattle.history_laws.specs.Exchanges.{Begun, begun, End, end_of, is_going, open_exchanges}
use Rattle.history_laws.specs.Joining.{outrun}
use Rattle.history_laws.specs.Justified.{Legal, IsAsk}
use Rattle.history_laws.proofs.CallerLemmas.{all-of, any-of, ask-behind, at-entries, begun-below, contains-none, contains-map, contains-mapped, EndsWrite, find-any, find-some, open-exactly, outrun-keeps, outrun-new, write-outruns}
use Rattle.exchange_model.specs.declared.kept.Exchange.{Exchange}
use Rattle.exchange_model.specs.State.{State}
use Rattle.exchange_model.specs.Matters.{asked_in, request_by, request_in, outruns, outrun_by, left_by}
use Rattle.exchange_model.specs.Reads.{ExchangeIn, opening_of, Reads}
use Rattle.exchange_model.specs.Resting.{HasExchange}

-- what an exchange was opened for

pub asked-by : (l : List Noted) (S : State) (r : Reads l S) (k c : ℕ) (a : Ask) (q : CoapRequest) → IsAsk l k c a → a.sense ≡ Requests q → asked_in S.entries k ≡ Some q
asked-by l S r k c a q it sense = ap (option_and_then (λ (w : Written). request_by w.deed)) stands ∙ ap request_in sense
  where
    stands : slice_get S.entries k ≡ Some (record { moment = it.moment; deed = Asks c a })
    stands = subst (λ (h : List Written). slice_get h k ≡ Some (record { moment = it.moment; deed = Asks c a })) r.entries_are (at-entries l k _ it.stands)

pub asked-here : (l : List Noted) (S : State) (r : Reads l S) (e : Exchange) → (a : ExchangeIn r.start l e) → asked_in S.entries e.ask ≡ Some a.request
asked-here l S r e a =
    let it = ask-behind l e.opening _ r.legal a.opening in
    subst (λ (k : ℕ). asked_in S.entries k ≡ Some a.request) (sym it.is ∙ a.behind) (asked-by l S r it.number it.conn it.ask a.request it.asked it.sense)

-- what holds whether one is outrun or not

pub left-all : (P : Exchange → Type 0) → ((e : Exchange) → P e → P (record e { current = false })) → (ws : List Written) (over es : List Exchange)
    → AllByRecursion P es → AllByRecursion P (left_by ws over es)
left-all P h ws over [] a = tt
left-all P h ws over (e ∷ es) a = (by (list_any (outruns ws (asked_in ws e.ask)) over), left-all P h ws over es a.1)
  where
    by : (b : Bool) → P (cond b (record e { current = false }) e)
    by true = h e a.0
    by false = a.0

-- or what holds of each as it is left
pub left-each : (P Q : Exchange → Type 0) (ws : List Written) (over : List Exchange) → ((e : Exchange) → Q e → P (record e { current = (outrun_by ws over e).current }))
    → (es : List Exchange) → AllByRecursion Q es → AllByRecursion P (left_by ws over es)
left-each P Q ws over h [] a = tt
left-each P Q ws over h (e ∷ es) a = (by (list_any (outruns ws (asked_in ws e.ask)) over) (h e a.0), left-each P Q ws over h es a.1)
  where
    by : (b : Bool) → P (record e { current = (cond b (record e { current = false }) e).current }) → P (cond b (record e { current = false }) e)
    by true k = k
    by false k = k

pub left-openings : (ws : List Written) (over es : List Exchange) → map opening_of (left_by ws over es) ≡ map opening_of es
left-openings ws over [] = refl
left-openings ws over (e ∷ es) = by (list_any (outruns ws (asked_in ws e.ask)) over) (left-openings ws over es)
  where
    by : (b : Bool) → map opening_of (left_by ws over es) ≡ map opening_of es
        → ((cond b (record e { current = false }) e).opening ∷ map opening_of (left_by ws over es)) ≡ (e.opening ∷ map opening_of es)
    by true ih = ap (λ (os : List ℕ). e.opening ∷ os) ih
    by false ih = ap (λ (os : List ℕ). e.opening ∷ os) ih

pub left-has : (ws : List Written) (over es : List Exchange) (k : ℕ) → HasExchange es k → HasExchange (left_by ws over es) k
left-has ws over [] k h = absurd h
left-has ws over (e ∷ es) k (inl h) = inl (by (list_any (outruns ws (asked_in ws e.ask)) over))
  where
    by : (b : Bool) → (cond b (record e { current = false }) e).opening ≡ k
    by true = h
    by false = h
left-has ws over (e ∷ es) k (inr h) = inr (left-has ws over es k h)

pub none-left : (ws : List Written) (es : List Exchange) → left_by ws [] es ≡ es
none-left ws [] = refl
none-left ws (e ∷ es) = ap (λ (xs : List Exchange). e ∷ xs) (none-left ws es)

-- These are the exchanges that end at an entry.
pub record EndsThose (x : Noted) (l : List Noted) (S : State) (over : List Exchange) : Type 0 where
  pub ended : (f : Exchange) → Contains over f → Contains S.exchanges f × (is_going (x ∷ l) f.opening ≡ false)
  pub all : (f : Exchange) → Contains S.exchanges f → is_going (x ∷ l) f.opening ≡ false → (g : Exchange) × Contains over g × (g.opening ≡ f.opening)

-- the entry ends none of them
pub none-ends : (x : Noted) (l : List Noted) (S : State) (r : Reads l S) → ((o : ℕ) → end_of (x ∷ l) o ≡ end_of l o) → EndsThose x l S []
none-ends x l S r same = record { ended = λ f h. absurd (contains-none f h); all = λ f has gone. absurd (false≢true (sym gone ∙ (ap is_none (same f.opening) ∙ open_now f has))) }
  where
    open_now : (f : Exchange) → Contains S.exchanges f → is_going l f.opening ≡ true
    open_now f has = ap is_none ((open-exactly l f.opening).0 (subst (λ (os : List ℕ). Contains os f.opening) (sym r.keys) (contains-map opening_of S.exchanges f has))).1

module _ (x : Noted) (l : List Noted) (S : State) (r : Reads l S) (over : List Exchange) (ends : EndsThose x l S over) (legal : Legal (x ∷ l)) where
  kept : (f : Exchange) → Contains S.exchanges f → ExchangeIn r.start l f
  kept f has = all-of (ExchangeIn r.start l) S.exchanges f r.exchanges_are has

  going : (f : Exchange) → Contains S.exchanges f → end_of l f.opening ≡ None
  going f has = ((open-exactly l f.opening).0 (subst (λ (os : List ℕ). Contains os f.opening) (sym r.keys) (contains-map opening_of S.exchanges f has))).1

  is-ended : (v : Option End) → is_none v ≡ false → is_some v ≡ true
  is-ended None h = absurd (false≢true (sym h))
  is-ended (Some e) h = refl

  -- one of them is a write at the place
  is-write : (e : Exchange) (a : ExchangeIn r.start l e) (f : Exchange) (b : ExchangeIn r.start l f)
      → outruns S.entries (asked_in S.entries e.ask) f ≡ writes_to (asked_place a.request) b.request
  is-write e a f b = rw (asked-here l S r e a, asked-here l S r f b) refl

  by-write : (e : Exchange) (a : ExchangeIn r.start l e) → list_any (outruns S.entries (asked_in S.entries e.ask)) over ≡ true → EndsWrite x l (asked_place a.request)
  by-write e a any =
      let found = find-any (outruns S.entries (asked_in S.entries e.ask)) over any in
      let is = find-some (outruns S.entries (asked_in S.entries e.ask)) over found.0 found.1 in
      let f = found.0 in
      let in_S = ends.ended f is.0 in
      let b = kept f in_S.0 in
      record {
        opening = f.opening;
        write = record { since = f.since; request = b.request };
        opened = b.opening;
        changes = sym (is-write e a f b) ∙ is.1;
        going = going f in_S.0;
        ended = is-ended (end_of (x ∷ l) f.opening) in_S.1;
      }

  none-writes : (e : Exchange) (a : ExchangeIn r.start l e) → list_any (outruns S.entries (asked_in S.entries e.ask)) over ≡ false → EndsWrite x l (asked_place a.request) → ⊥
  none-writes e a none h =
      let open_now : Contains (open_exchanges l) h.opening = (open-exactly l h.opening).1 (ap is_some h.opened, h.going) in
      let found = contains-mapped opening_of S.exchanges h.opening (subst (λ (os : List ℕ). Contains os h.opening) r.keys open_now) in
      let f = found.0 in
      let gone : is_going (x ∷ l) f.opening ≡ false = subst (λ (o : ℕ). is_going (x ∷ l) o ≡ false) (sym found.2) (not-none (end_of (x ∷ l) h.opening) h.ended) in
      let g = ends.all f found.1 gone in
      let in_S = ends.ended g.0 g.1 in
      let b = kept g.0 in_S.0 in
      let opened : begun l h.opening ≡ Some (record { since = g.0.since; request = b.request }) = subst (λ (o : ℕ). begun l o ≡ Some (record { since = g.0.since; request = b.request })) (g.2 ∙ found.2) b.opening in
      let same = write-is h.write (record { since = g.0.since; request = b.request }) (sym h.opened ∙ opened) in
      let writes : writes_to (asked_place a.request) b.request ≡ true = subst (λ (q : CoapRequest). writes_to (asked_place a.request) q ≡ true) same h.changes in
      false≢true (sym none ∙ any-of (outruns S.entries (asked_in S.entries e.ask)) over g.0 g.1 (is-write e a g.0 b ∙ writes))
    where
      not-none : (v : Option End) → is_some v ≡ true → is_none v ≡ false
      not-none None h = absurd (false≢true h)
      not-none (Some e) h = refl

      write-is : (b c : Begun) → Some b ≡ Some c → b.request ≡ c.request
      write-is b c e = cc

  -- An open exchange is current unless a write to its place has ended.
  pub current-now : (e : Exchange) (a : ExchangeIn r.start l e) → (outrun_by S.entries over e).current ≡ not (outrun (x ∷ l) (asked_place a.request) e.opening)
  current-now e a = by (list_any (outruns S.entries (asked_in S.entries e.ask)) over) refl
    where
      older : (b c : Bool) → outrun l (asked_place a.request) e.opening ≡ b → outrun (x ∷ l) (asked_place a.request) e.opening ≡ c
          → (EndsWrite x l (asked_place a.request) → ⊥) → not b ≡ not c
      older true true was is none = refl
      older false false was is none = refl
      older true false was is none = absurd (false≢true (sym is ∙ outrun-keeps x l (asked_place a.request) e.opening was))
      older false true was is none = elim (outrun-new x l (asked_place a.request) e.opening legal is) [
        | inl w ↦ absurd (false≢true (sym was ∙ w))
        | inr h ↦ absurd (none h)
      ]

      by : (b : Bool) → list_any (outruns S.entries (asked_in S.entries e.ask)) over ≡ b → (cond b (record e { current = false }) e).current ≡ not (outrun (x ∷ l) (asked_place a.request) e.opening)
      by true any = sym (ap not (write-outruns x l (asked_place a.request) e.opening (by-write e a any) (begun-below l e.opening _ a.opening)))
      by false none = a.current ∙ older (outrun l (asked_place a.request) e.opening) (outrun (x ∷ l) (asked_place a.request) e.opening) refl refl (none-writes e a none)

  -- Where none ends it stays so.
  pub current-still : over ≡ [] → (e : Exchange) (a : ExchangeIn r.start l e) → e.current ≡ not (outrun (x ∷ l) (asked_place a.request) e.opening)
  current-still none e a = ap (λ (fs : List Exchange). (outrun_by S.entries fs e).current) (sym none) ∙ current-now e a
