-- What a tick ends is over, and is told so.
use Rattle.history_links.specs.Agrees.{Start}
use Rattle.std.proofs.Common.{◌≡◌, ℕ, ◌⊎◌, true, inl, inr, List, ◌∷◌, length, Option, Some, None, refl}
use Rattle.std.specs.Prelude.{unwrap_or}
use Rattle.ask_model.specs.declared.cause.Cause.TheVariants as C
use Rattle.journal_book.specs.Entries.{Passes, Fault}
use Rattle.history_laws.specs.Readings.{Noted, Plain, noted}
use Rattle.history_laws.specs.Progress.{TimedOut}
use Rattle.history_laws.specs.Transmissions.{sent_last}
use Rattle.history_laws.specs.Exchanges.{expires as ends_at, waits_for, end_of}
use Rattle.history_laws.specs.Justified.{Ends}
use Rattle.exchange_model.specs.declared.kept.Exchange.{Exchange}
use Rattle.exchange_model.specs.Reads.{ExchangeIn}
use Rattle.exchange_model.proofs.Grounds.{GroundsFor}

-- It ends at the tick, and what was sent last is named, or the ask of who waits.
pub passed-over : {start : Start} (l : List Noted) (t k : ℕ) (e : Exchange) → ExchangeIn start l e → end_of l e.opening ≡ None → ends_at l e.opening t (waits_for l e.opening) ≡ true
    → GroundsFor (noted t Passes Plain ∷ l) k e.opening (Fault C.Timeout (unwrap_or e.sending k))
passed-over l t k e a going due = (named e.sending a.sending, (length l, ended))
  where
    named : (s : Option ℕ) → sent_last l e.opening ≡ s
        → (sent_last l e.opening ≡ Some (unwrap_or s k)) ⊎ ((sent_last l e.opening ≡ None) × (unwrap_or s k ≡ k))
    named (Some i) h = inl h
    named None h = inr (h, refl)

    ended : Ends (noted t Passes Plain ∷ l) e.opening (length l) TimedOut
    ended = rw (due, going) refl
