-- A GET joins in the history what it joins in the state.
use Rattle.std.proofs.Common.{◌≡◌, ℕ, Bool, true, false, not, cond, List, [], ◌∷◌, map, Some, refl, sym, ap, ◌∙◌}
use Rattle.std.specs.Prelude.{◌&&◌, find, option_map}
use Rattle.std.specs.List.{AllByRecursion}
use Rattle.ask_model.specs.Requests.{CoapRequest}
use Rattle.ask_model.specs.Sharing.{asked_place, asks_same}
use Rattle.ask_model.proofs.CallerLemmas.{same-place}
use Rattle.history_laws.specs.Readings.{Noted}
use Rattle.history_laws.specs.Joining.{outrun, is_joinable, joins}
use Rattle.history_laws.proofs.CallerLemmas.{all-more}
use Rattle.exchange_model.specs.declared.kept.Exchange.{Exchange}
use Rattle.exchange_model.specs.State.{State}
use Rattle.exchange_model.specs.Reads.{ExchangeIn, opening_of, Reads}
use Rattle.exchange_model.specs.Calls.{is_joined, joined}
use Rattle.exchange_model.proofs.Outrun.{asked-here}

find-mapped : (p : ℕ → Bool) (q : Exchange → Bool) (es : List Exchange) → AllByRecursion (λ (e : Exchange). p e.opening ≡ q e) es
    → find p (map opening_of es) ≡ option_map opening_of (find q es)
find-mapped p q [] a = refl
find-mapped p q (e ∷ es) a = rw (a.0) (by (q e) (find-mapped p q es a.1))
  where
    by : (b : Bool) → find p (map opening_of es) ≡ option_map opening_of (find q es)
        → cond b (Some e.opening) (find p (map opening_of es)) ≡ option_map opening_of (cond b (Some e) (find q es))
    by true ih = refl
    by false ih = ih

pub joins-tell : (l : List Noted) (S : State) (r : Reads l S) (q : CoapRequest) → joins l q ≡ option_map opening_of (joined q S)
joins-tell l S r q =
    ap (find (is_joinable l q)) r.keys
    ∙ find-mapped (is_joinable l q) (is_joined S.entries q) S.exchanges (all-more (ExchangeIn r.start l) _ one S.exchanges r.exchanges_are)
  where
    and-true : (b : Bool) → (b && true) ≡ b
    and-true true = refl
    and-true false = refl

    and-false : (b : Bool) → (b && false) ≡ false
    and-false true = refl
    and-false false = refl

    one : (e : Exchange) → ExchangeIn r.start l e → is_joinable l q e.opening ≡ is_joined S.entries q e
    one e a = rw (a.opening, asked-here l S r e a, a.current) (by (asks_same q a.request) refl)
      where
        by : (b : Bool) → asks_same q a.request ≡ b
            → (b && not (outrun l (asked_place q) e.opening)) ≡ (not (outrun l (asked_place a.request) e.opening) && b)
        by true same = rw (same-place q a.request same) (sym (and-true (not (outrun l (asked_place a.request) e.opening))))
        by false other = sym (and-false (not (outrun l (asked_place a.request) e.opening)))
