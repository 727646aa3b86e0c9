-- The pairs that are carried over over a turn, in the terms of its functions.
use Rattle.std.proofs.Common.{◌≡◌, ℕ, Bool, true, false, cond, not, ◌&&◌, eqb, List, [], ◌∷◌, ◌++◌, Option, Some, None, refl, sym, ap, subst, ◌∙◌}
use Rattle.std.specs.Prelude.{◌||◌, filter}
use Rattle.std.specs.List.{list_any}
use Rattle.std.specs.Option.{option_map_or}
use Rattle.cache_key.specs.Keys.{same_place}
use Rattle.ask_model.specs.Requests.{CoapRequest}
use Rattle.ask_model.specs.Sharing.{asked_key, asked_place, is_get, writes_to}
use Rattle.journal_book.specs.Entries.{Written}
use Rattle.resp_cache.specs.Stored.{is_fresh}
use Rattle.resp_cache.specs.Stores.{is_elsewhere}
use Rattle.resp_cache.specs.declared.pair.Pair.{Pair}
use Rattle.exchange_model.specs.declared.kept.Exchange.{Exchange}
use Rattle.exchange_model.specs.State.{State}
use Rattle.exchange_model.specs.Matters.{asked_in}
use Rattle.exchange_model.specs.Hearing.{put_by, retired, settled, settled_by}
use Rattle.exchange_model.specs.Rotating.{Backed, backed, backed_if, few_of, taken, writes_at}
use Rattle.journal_copies.specs.Carrying.{backed_in, few_in}
use Rattle.exchange_core.specs.Renewing.{AreAskable, is_as_heard}
use Rattle.exchange_core.proofs.Listed.{heard-filter}

-- filters

filter-so : (f g : Pair → Bool) → ((p : Pair) → f p ≡ g p) → (ps : List Pair) → filter f ps ≡ filter g ps
filter-so f g e [] = refl
filter-so f g e (p ∷ ps) =
    ap (λ (b : Bool). cond b (p ∷ filter f ps) (filter f ps)) (e p)
    ∙ ap (λ (qs : List Pair). cond (g p) (p ∷ qs) qs) (filter-so f g e ps)

filter-true : (ps : List Pair) → filter (λ (p : Pair). true) ps ≡ ps
filter-true [] = refl
filter-true (p ∷ ps) = ap (λ (qs : List Pair). p ∷ qs) (filter-true ps)

filter-both : (f g : Pair → Bool) (ps : List Pair) → filter g (filter f ps) ≡ filter (λ (p : Pair). f p && g p) ps
filter-both f g [] = refl
filter-both f g (p ∷ ps) = by (filter-both f g ps) (f p)
  where
    by : filter g (filter f ps) ≡ filter (λ (q : Pair). f q && g q) ps → (b : Bool)
        → filter g (cond b (p ∷ filter f ps) (filter f ps))
        ≡ cond (b && g p) (p ∷ filter (λ (q : Pair). f q && g q) ps) (filter (λ (q : Pair). f q && g q) ps)
    by ih true = ap (λ (qs : List Pair). cond (g p) (p ∷ qs) qs) ih
    by ih false = ih

-- An open exchange that is a write retires its place.
abbrev spares : List Written → Exchange → Pair → Bool
spares ws e p = not (writes_at ws p.key.place e)

abbrev is_unwritten : List Written → List Exchange → Pair → Bool
is_unwritten ws es p = not (list_any (writes_at ws p.key.place) es)

settled-none : (ws : List Written) (e : Exchange) (ps : List Pair) → settled ws (Some e) None ps ≡ filter (spares ws e) ps
settled-none ws e ps = by (asked_in ws e.ask)
  where
    so : (q : CoapRequest) (m : Bool) (read : Bool)
        → cond m (cond read (put_by None (asked_key q) ps) ps) (filter (is_elsewhere (asked_place q)) ps)
        ≡ filter (λ (p : Pair). not (not m && same_place p.key.place (asked_place q))) ps
    so q true true = sym (filter-true ps)
    so q true false = sym (filter-true ps)
    so q false read = refl

    by : (o : Option CoapRequest) → settled_by o e.current None ps
        ≡ filter (λ (p : Pair). not (option_map_or (writes_to p.key.place) o false)) ps
    by None = sym (filter-true ps)
    by (Some q) = so q (eqb q.method 1) (is_get q && e.current)

not-or : (a b : Bool) → (not a && not b) ≡ not (a || b)
not-or true b = refl
not-or false b = refl

pub unwritten-are : (ws : List Written) (es : List Exchange) (ps : List Pair) → retired ws es ps ≡ filter (is_unwritten ws es) ps
unwritten-are ws [] ps = sym (filter-true ps)
unwritten-are ws (e ∷ es) ps =
    ap (retired ws es) (settled-none ws e ps)
    ∙ (unwritten-are ws es (filter (spares ws e) ps)
    ∙ (filter-both (spares ws e) (is_unwritten ws es) ps
    ∙ filter-so (λ (p : Pair). spares ws e p && is_unwritten ws es p) (is_unwritten ws (e ∷ es))
    (λ p. not-or (writes_at ws p.key.place e) (list_any (writes_at ws p.key.place) es)) ps))

-- What stays of what may be asked about may be asked about.
pub askable-retired : (ws : List Written) (es : List Exchange) (ps : List Pair) → AreAskable ws ps → AreAskable ws (retired ws es ps)
askable-retired ws es ps a = subst (AreAskable ws) (sym (unwritten-are ws es ps)) (heard-filter ws ps a (is_unwritten ws es))

-- So those that may be carried over are looked at.
module _ (t : ℕ) (S : State) where
  and-false : (b : Bool) → (b && false) ≡ false
  and-false true = refl
  and-false false = refl

  and-true : (b : Bool) → (b && true) ≡ b
  and-true true = refl
  and-true false = refl

  -- as it was heard, and written to by none
  abbrev goes_on : Pair → Bool
  goes_on p = is_unwritten S.entries S.exchanges p && is_as_heard S.entries p

  backed-are : (ps : List Pair) → backed_in t S.entries (filter goes_on ps) ≡ backed t S ps
  backed-are [] = refl
  backed-are (p ∷ ps) = by (backed-are ps) (is_unwritten S.entries S.exchanges p) (is_as_heard S.entries p)
    where
      by : backed_in t S.entries (filter goes_on ps) ≡ backed t S ps → (b c : Bool)
          → backed_in t S.entries (cond (b && c) (p ∷ filter goes_on ps) (filter goes_on ps))
          ≡ backed_if (is_fresh t p.stored && (c && b)) S.entries p ++ backed t S ps
      by ih true true =
          ap (λ (bs : List Backed). backed_if (is_fresh t p.stored) S.entries p ++ bs) ih
          ∙ ap (λ (b : Bool). backed_if b S.entries p ++ backed t S ps) (sym (and-true (is_fresh t p.stored)))
      by ih true false =
          ih
          ∙ ap (λ (b : Bool). backed_if b S.entries p ++ backed t S ps) (sym (and-false (is_fresh t p.stored)))
      by ih false true =
          ih
          ∙ ap (λ (b : Bool). backed_if b S.entries p ++ backed t S ps) (sym (and-false (is_fresh t p.stored)))
      by ih false false =
          ih
          ∙ ap (λ (b : Bool). backed_if b S.entries p ++ backed t S ps) (sym (and-false (is_fresh t p.stored)))

  pub taken-are : (ps : List Pair) → ps ≡ filter (is_as_heard S.entries) (retired S.entries S.exchanges S.store) → few_in t S.entries ps ≡ taken t S
  taken-are ps is =
      ap (λ (qs : List Pair). few_in t S.entries qs)
      (is ∙ ap (λ (qs : List Pair). filter (is_as_heard S.entries) qs) (unwritten-are S.entries S.exchanges S.store)
      ∙ filter-both (is_unwritten S.entries S.exchanges) (is_as_heard S.entries) S.store)
      ∙ ap (λ (bs : List Backed). few_of t S.entries [] bs) (backed-are S.store)
