-- Who waits for an exchange, and what they are told.
use Rattle.std.proofs.Common.{◌≡◌, ℕ, ◌+◌, ◌≤◌, suc, List, [], ◌∷◌, length, map, Option, Some, None, refl, sym, ap, subst, ◌∙◌, arith}
use Rattle.std.specs.Prelude.{filter_map, option_map}
use Rattle.std.specs.List.{AllByRecursion, cons_option}
use Rattle.std.proofs.lemmas.List.Sums.{count_by-le-length}
use Rattle.journal_book.specs.Entries.{Deed, Written}
use Rattle.history_laws.proofs.CallerLemmas.{all-more}
use Rattle.exchange_model.specs.declared.kept.Exchange.{Exchange}
use Rattle.exchange_model.specs.declared.kept.Reader.{Reader}
use Rattle.exchange_model.specs.Calls.{read_by, timeout_for, told_late}
use Rattle.exchange_model.specs.Entering.{answer_of}
use Rattle.exchange_model.specs.Growing.{IsKnown}
use Rattle.exchange_model.specs.Room.{KeptInRoom, asks_waiting, has_asked}
use Rattle.exchange_model.specs.State.{State}
use Rattle.exchange_model.specs.Resting.{HasConn}
use Rattle.exchange_model.proofs.CallerLemmas.{conns-tell, few-waiting, kept-served, readers-known}
use Rattle.exchange_core.specs.Asked.{IsAskedIn}
use Rattle.exchange_core.specs.Ending.{IsTold, deed_of, late_of, out_of_time}

-- who is known has asked
asked-by : (S : State) (r : Reader) → IsKnown S r → IsAskedIn S.entries r
asked-by S r k = record { moment = k.moment; ask = k.ask; request = k.request; stands = k.stands; sense = k.sense }

pub all-asked : (S : State) → KeptInRoom S → AllByRecursion (IsAskedIn S.entries) S.readers
all-asked S k = all-more (IsKnown S) (IsAskedIn S.entries) (asked-by S) S.readers (readers-known S k)

-- A connection on which somebody waits is known to wait for the answer to just that ask.
pub waits-on : (S : State) (c : ℕ) (p : Option ℕ) → KeptInRoom S → HasConn S.conns c p → AllByRecursion (λ (r : Reader). r.conn ≡ c → p ≡ Some r.ask) S.readers
waits-on S c p k has =
    let l = k.kept.reading in
    let reads = k.kept.rests.reads in
    let tells = (conns-tell l S c reads).1 in
    all-more (λ (r : Reader). HasConn S.conns r.conn (Some r.ask)) (λ (r : Reader). r.conn ≡ c → p ≡ Some r.ask)
    (λ r waits on. sym (tells p has).1 ∙ (tells (Some r.ask) (subst (λ (d : ℕ). HasConn S.conns d (Some r.ask)) on waits)).1)
    S.readers (kept-served l S reads).waits

-- They are no more than wait for an answer, and no more than are connected.

pub few-readers : (S : State) → KeptInRoom S → length S.readers ≤ asks_waiting S
few-readers S k =
    let served = kept-served k.kept.reading S k.kept.rests.reads in
    few-waiting S.readers S.conns served.waits served.apart

pub readers-connected : (S : State) → KeptInRoom S → length S.conns ≤ 256 → length S.readers ≤ 256
readers-connected S k few =
    let waiting = few-readers S k in
    let all = count_by-le-length has_asked S.conns in omega (arith, waiting, all, few)

-- No more are told.
pub few-told : {X : Type 0} (f : Reader → Option X) (rs : List Reader)
    → length (filter_map f rs) ≤ length rs
few-told f [] = omega arith
few-told {X = X} f (r ∷ rs) = by (f r) (few-told f rs)
  where
    by : (o : Option X) → length (filter_map f rs) ≤ length rs
        → length (cons_option o (filter_map f rs)) ≤ suc (length rs)
    by None ih = omega (arith, ih)
    by (Some x) ih = omega (arith, ih)

-- Those that took too long are told as the step says.

pub late-same : (es : List Exchange) (rs : List Reader) → map deed_of (out_of_time es rs) ≡ map answer_of (told_late es rs)
late-same es [] = refl
late-same es (r ∷ rs) = by (read_by es r) (late-same es rs)
  where
    by : (o : Option Exchange) → map deed_of (out_of_time es rs) ≡ map answer_of (told_late es rs)
        → map deed_of (cons_option (option_map (late_of r) o) (out_of_time es rs))
        ≡ map answer_of (cons_option (option_map (timeout_for r) o) (told_late es rs))
    by None ih = ih
    by (Some e) ih = ap (λ (ds : List Deed). deed_of (late_of r e) ∷ ds) ih

pub late-told : (h drafted : List Written) (t : ℕ) (es : List Exchange) (rs : List Reader)
    → AllByRecursion (IsAskedIn h) rs → AllByRecursion (IsTold h drafted t) (out_of_time es rs)
late-told h drafted t es [] a = tt
late-told h drafted t es (r ∷ rs) a = by (read_by es r) (late-told h drafted t es rs a.1)
  where
    by : (o : Option Exchange) → AllByRecursion (IsTold h drafted t) (out_of_time es rs)
        → AllByRecursion (IsTold h drafted t) (cons_option (option_map (late_of r) o) (out_of_time es rs))
    by None ih = ih
    by (Some e) ih = (record { asked = a.0; found = refl; format = tt; counts = refl }, ih)
