-- What is read again stands in memory.
use Rattle.std.proofs.Common.{◌≡◌, ℕ, ◌+◌, ◌≤◌, inl, inr, Bool, true, false, cond, List, [], ◌∷◌, ◌++◌, map, Option, Some, None, Result, Ok, Err, refl, sym, ap, subst, ◌∙◌, arith}
use Rattle.std.specs.Prelude.{IfOk, filter, filter_map, find, option_map}
use Rattle.std.specs.List.{AllByRecursion, cons_option, list_any}
use Rattle.observe_share.specs.declared.registration.Registration.{Registration}
use Rattle.resp_cache.specs.declared.pair.Pair.{Pair}
use Rattle.reply_reading.specs.Findings.{Found}
use Rattle.journal_book.specs.Entries.{Grounds, Written}
use Rattle.journal_book.specs.Journals.{IsHere}
use Rattle.history_laws.specs.Progress.{Ending, Whole, Renewed, NotUnderstood, Reset, TimedOut, Turned}
use Rattle.history_laws.proofs.CallerLemmas.{all-filter, all-more, all-of, find-some}
use Rattle.exchange_model.specs.declared.kept.Exchange.{Exchange}
use Rattle.exchange_model.specs.declared.kept.Piece.{Piece}
use Rattle.exchange_model.specs.declared.kept.Reader.{Reader}
use Rattle.exchange_model.specs.State.{State}
use Rattle.exchange_model.specs.Matters.{asked_in, is_piece_of, left_by, outruns}
use Rattle.exchange_model.specs.Calls.{is_reader_of, read_by}
use Rattle.exchange_model.specs.Memory.{Here, IsLast, IsNamedBy}
use Rattle.exchange_table.specs.Asks.{IsAskedHere}
use Rattle.exchange_progress.specs.Coming.{IsEnded, found_for, renews}
use Rattle.exchange_progress.specs.Pieces.{IsPieceHere}
use Rattle.exchange_progress.specs.declared.coming.Ended.{Ended}
use Rattle.exchange_progress.specs.declared.coming.Ended.TheVariants as How
use Rattle.exchange_core.specs.declared.ending.Telling.{Telling}
use Rattle.exchange_core.specs.Ending.{late_of, late_to, out_of_time}
use Rattle.exchange_core.specs.Matters.{readers_told, telling_for}
use Rattle.exchange_core.specs.Reading.{IsCountedHere, IsEndHere, IsFirst, IsPairHere, IsReaderHere, IsTellingHere, IsWatchHere, numbers_of}

-- each table of a state

pub asks-here : (S : State) → Here S → AllByRecursion (IsAskedHere S.given S.kept) S.exchanges
asks-here S h =
    all-more (IsNamedBy (IsHere S.given S.kept)) (IsAskedHere S.given S.kept) (λ e k. k.ask) S.exchanges
    h.named.exchanges

pub readers-here : (S : State) → Here S → AllByRecursion (IsReaderHere S.given S.kept) S.readers
readers-here S h = h.named.readers

pub watches-here : (S : State) → Here S → AllByRecursion (IsWatchHere S.given S.kept) S.watches
watches-here S h = h.named.watches

pub pairs-here : (S : State) → Here S → AllByRecursion (IsPairHere S.given S.kept) S.store
pairs-here S h = h.named.store

pub pieces-here : (S : State) (o : ℕ) → Here S
    → AllByRecursion (IsPieceHere S.given S.kept) (filter (is_piece_of o) S.pieces)
pieces-here S o h =
    all-filter (IsPieceHere S.given S.kept) (is_piece_of o) S.pieces
    (all-more (λ (x : Piece). IsHere S.given S.kept x.number) (IsPieceHere S.given S.kept) (λ x k. k)
    S.pieces h.named.pieces)

-- one that is found
pub found-here : (S : State) (q : Exchange → Bool) (e : Exchange) → Here S → find q S.exchanges ≡ Some e
    → IsAskedHere S.given S.kept e
found-here S q e h is =
    all-of (IsAskedHere S.given S.kept) S.exchanges e (asks-here S h) (find-some q S.exchanges e is).0

-- They are asked for the same where writes outran them.
pub asks-left : (given : ℕ) (kept : List ℕ) (ws : List Written) (over es : List Exchange)
    → AllByRecursion (IsAskedHere given kept) es → AllByRecursion (IsAskedHere given kept) (left_by ws over es)
asks-left given kept ws over [] a = tt
asks-left given kept ws over (e ∷ es) a =
    (by (list_any (outruns ws (asked_in ws e.ask)) over), asks-left given kept ws over es a.1)
  where
    by : (b : Bool) → IsAskedHere given kept (cond b (record e { current = false }) e)
    by true = a.0
    by false = a.0

-- Of a journal of which nothing was given out all can be read.

pub whole-here : (given : ℕ) (kept : List ℕ) → given ≡ 0 → (n : ℕ) → IsHere given kept n
whole-here given kept none n = inl (omega (arith, none))

pub whole-asks : (given : ℕ) (kept : List ℕ) → given ≡ 0 → (es : List Exchange)
    → AllByRecursion (IsAskedHere given kept) es
whole-asks given kept none [] = tt
whole-asks given kept none (e ∷ es) = (whole-here given kept none e.ask, whole-asks given kept none es)

pub whole-last : (given : ℕ) (kept : List ℕ) → given ≡ 0 → (ns : List ℕ) → IsLast (IsHere given kept) ns
whole-last given kept none [] = tt
whole-last given kept none (n ∷ []) = whole-here given kept none n
whole-last given kept none (n ∷ m ∷ ns) = whole-last given kept none (m ∷ ns)

-- one number more at the end
pub last-put : (P : ℕ → Type 0) (ns : List ℕ) (n : ℕ) → P n → IsLast P (ns ++ n ∷ [])
last-put P [] n p = p
last-put P (m ∷ []) n p = p
last-put P (m ∷ k ∷ ns) n p = last-put P (k ∷ ns) n p

-- Who is told has that from an end.

pub counted-found : (given : ℕ) (kept : List ℕ) (b : Bool) (f g : Found) → f ≡ g
    → IsCountedHere given kept b f.grounds → IsCountedHere given kept b g.grounds
counted-found given kept b f g is h =
    subst (λ (x : Found). IsCountedHere given kept b x.grounds) is h

pub end-counted : (given : ℕ) (kept : List ℕ) (n : ℕ) (ended : Ended) (how : Ending)
    (sending : Option ℕ) (r : Reader) → IsEnded n ended how → IsEndHere given kept ended
    → IsCountedHere given kept (renews how) (found_for how n sending r).grounds
end-counted given kept n (How.Found f) how sending r is h =
    subst (λ (b : Bool). IsCountedHere given kept b (found_for how n sending r).grounds) (sym is.1)
    (counted-found given kept false f (found_for how n sending r) (is.0 sending r) h)
end-counted given kept n (How.Renewed f o) how sending r is h =
    let so : renews how ≡ true = ap renews is.1.2 in
    subst (λ (b : Bool). IsCountedHere given kept b (found_for how n sending r).grounds) (sym so)
    (counted-found given kept true f (found_for how n sending r) (is.0 sending r) h)
end-counted given kept n How.Turned how sending r is h =
    subst (λ (x : Ending). IsCountedHere given kept (renews x) (found_for x n sending r).grounds) (sym is) tt

pub telling-here : (given : ℕ) (kept : List ℕ) (n : ℕ) (ended : Ended) (how : Ending)
    (sending : Option ℕ) (r : Reader) → IsEnded n ended how → IsEndHere given kept ended
    → IsReaderHere given kept r → IsTellingHere given kept (telling_for how n sending r)
telling-here given kept n ended how sending r is h k =
    record { ask = k; counted = end-counted given kept n ended how sending r is h }

pub told-here : (given : ℕ) (kept : List ℕ) (n : ℕ) (ended : Ended) (how : Ending) (e : Exchange)
    (rs : List Reader) → IsEnded n ended how → IsEndHere given kept ended
    → AllByRecursion (IsReaderHere given kept) rs
    → AllByRecursion (IsTellingHere given kept) (readers_told how n e rs)
told-here given kept n ended how e rs is h all =
    by (filter (is_reader_of e) rs) (all-filter (IsReaderHere given kept) (is_reader_of e) rs all)
  where
    by : (xs : List Reader) → AllByRecursion (IsReaderHere given kept) xs
        → AllByRecursion (IsTellingHere given kept) (map (telling_for how n e.sending) xs)
    by [] a = tt
    by (x ∷ xs) a = (telling-here given kept n ended how e.sending x is h a.0, by xs a.1)

-- Nothing counts where it took too long.
pub late-here : (given : ℕ) (kept : List ℕ) (es : List Exchange) (rs : List Reader)
    → AllByRecursion (IsReaderHere given kept) rs
    → AllByRecursion (IsTellingHere given kept) (out_of_time es rs)
late-here given kept es [] a = tt
late-here given kept es (r ∷ rs) a = by (read_by es r) (late-here given kept es rs a.1)
  where
    by : (o : Option Exchange) → AllByRecursion (IsTellingHere given kept) (out_of_time es rs)
        → AllByRecursion (IsTellingHere given kept) (cons_option (option_map (late_of r) o) (out_of_time es rs))
    by None h = h
    by (Some e) h = (record { ask = a.0; counted = tt }, h)

-- what holds of what an operation yields
pub ok-more : {X E : Type 0} (P Q : X → Type 0) → ((x : X) → P x → Q x) → (r : Result X E) → IfOk r P → IfOk r Q
ok-more P Q f (Ok x) h = f x h
ok-more P Q f (Err e) h = tt
