-- What is stored stands in the journal, and its pieces are told apart there.
use Rattle.std.proofs.Common.{◌≡◌, inl, inr, ℕ, zero, true, not, List, [], ◌∷◌, Some, refl, sym, ap, subst, ◌∙◌, arith}
use Rattle.std.specs.Prelude.{is_some, option_and_then, Option}
use Rattle.std.specs.List.{AllByRecursion, Contains, slice_get}
use Rattle.resp_cache.specs.Stored.{Stored}
use Rattle.ask_model.specs.Requests.{CoapRequest}
use Rattle.journal_book.specs.Entries.{Ground, Carries, Written}
use Rattle.journal_book.specs.Entries as D
use Rattle.history_laws.specs.Readings.{Noted, at}
use Rattle.history_laws.specs.Progress.{Reply}
use Rattle.history_laws.specs.Laws.{IsReplyTo}
use Rattle.history_laws.specs.Grounds.{IsCarriedReply, IsToldFor}
use Rattle.history_laws.specs.Storing.{IsAsHeard, IsStored, is_valid_in, pieces_of}
use Rattle.history_laws.proofs.CallerLemmas.{at-entries, comes-fit, contains-later, filter-by, heard-of, number-of, renewed-of, replies-fit}
use Rattle.exchange_model.specs.State.{State}
use Rattle.exchange_model.specs.Reads.{Reads}
use Rattle.exchange_model.specs.Steps.{as_pieces, heard_by, is_piece_at, is_valid}
use Rattle.exchange_model.proofs.Comes.{stands-in}
use Rattle.exchange_model.proofs.Carried.{reply-stands}
use Rattle.exchange_model.proofs.Renewals.{kept-told, renewal-for}
use Rattle.std.proofs.lemmas.List.Elements.{Contains-push_cases}

-- A reply that is told for a request: the entries say of it what the history says.
abbrev pub IsTelling : List Noted → State → ℕ → Type 0
IsTelling l S j = (is_piece_at S.entries j ≡ not (is_valid_in (at l j))) × (is_some (at l j) ≡ true)

pub heard-tells : (l : List Noted) (S : State) → Reads l S → (o : ℕ) (r : Reply) → IsReplyTo l o r → IsTelling l S r.number
heard-tells l S reads o r fit = (
  ap (λ (v : Option Reply). not (is_valid v)) (stands-in l S o r reads fit) ∙ sym (ap (λ (v : Option Noted). not (is_valid_in v)) fit.heard),
  ap is_some fit.heard,
)

pub copied-tells : (l : List Noted) (S : State) → Reads l S → (o : ℕ) (q : CoapRequest) (r : Reply) → IsCarriedReply l o q r → IsTelling l S r.number
copied-tells l S reads o q r fit =
    let stands : slice_get S.entries r.number ≡ Some (record { moment = fit.moment; deed = Carries fit.number Ground (D.Heard q.peer fit.bytes) }) =
    subst (λ (ws : List Written). slice_get ws r.number ≡ Some (record { moment = fit.moment; deed = Carries fit.number Ground (D.Heard q.peer fit.bytes) })) reads.entries_are
    (at-entries l r.number _ fit.heard) in (
      ap (λ (v : Option Written). not (is_valid (option_and_then (λ (w : Written). heard_by r.number w.deed) v))) stands
          ∙ sym (ap (λ (v : Option Noted). not (is_valid_in v)) fit.heard),
      ap is_some fit.heard,
    )

told-tells : (l : List Noted) (S : State) → Reads l S → (since : ℕ) (q : CoapRequest) (j : ℕ) → IsToldFor l since q j → IsTelling l S j
told-tells l S reads since q j (inl h) = subst (IsTelling l S) h.number (heard-tells l S reads h.opening h.reply h.fits.fits)
told-tells l S reads since q j (inr h) = subst (IsTelling l S) h.number (copied-tells l S reads since h.exchange.request h.reply h.fits)

-- So it is of all that is stored.
pub stored-tells : (l : List Noted) (S : State) → Reads l S → (q : CoapRequest) (s : Stored) → IsStored l q s → (j : ℕ) → Contains s.list j → IsTelling l S j
stored-tells l S reads q s (inl it) j has = by (heard-of l q s it)
  where
    by : IsAsHeard l q s → IsTelling l S j
    by (inl a) =
        let found = number-of (a.first ∷ a.more) j (subst (λ (js : List ℕ). Contains js j) a.list has) in
        subst (IsTelling l S) found.2
        (let fit = comes-fit l a.opening a.ending s.response (a.first ∷ a.more) found.0 reads.legal a.comes found.1 in
        heard-tells l S reads fit.owner found.0 fit.fits)
    by (inr a) =
        let found = number-of (a.first ∷ a.more) j (subst (λ (js : List ℕ). Contains js j) a.list has) in
        subst (IsTelling l S) found.2
        (copied-tells l S reads a.opening a.carries.exchange.request found.0 (reply-stands l a.opening s.response (a.first ∷ a.more) reads.legal a.carries found.0 found.1))
stored-tells l S reads q s (inr it) j has =
    let f = renewal-for l q it.ending reads.legal it.renewal in
    let o : ℕ = it.renewal.opening in
    let u : Reply = it.renewal.reply in
    elim (Contains-push_cases it.renewal.kept.list u.number j (subst (λ (js : List ℕ). Contains js j) it.list has)) [
      | inl w ↦ told-tells l S reads it.renewal.kept.opening f.exchange.request j (kept-told l o f.exchange it.renewal.kept j reads.legal f.renews w).0
      | inr w ↦
          subst (IsTelling l S) w (heard-tells l S reads o u (replies-fit l o u reads.legal (renewed-of l o it.ending it.renewal.kept u it.renewal.ended)))
    ]

-- An exchange that is opened keeps its pieces.
pub pieces-told : (l : List Noted) (S : State) → Reads l S → (q : CoapRequest) (s : Stored) → IsStored l q s → as_pieces S.entries s ≡ pieces_of l s
pieces-told l S reads q s is =
    ap (λ (js : List ℕ). record s { list = js })
    (filter-by (is_piece_at S.entries) (λ (j : ℕ). not (is_valid_in (at l j))) s.list (all s.list (stored-tells l S reads q s is)))
  where
    all : (js : List ℕ) → ((j : ℕ) → Contains js j → IsTelling l S j)
        → AllByRecursion (λ (j : ℕ). is_piece_at S.entries j ≡ not (is_valid_in (at l j))) js
    all [] h = tt
    all (j ∷ js) h = ((h j (zero, omega arith, refl)).0, all js (λ k has. h k (contains-later j js k has)))
