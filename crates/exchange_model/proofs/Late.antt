-- A tick of a sealed core: who waits for an exchange that is past is answered.
use Rattle.history_links.specs.Agrees.{Start}
use Rattle.std.proofs.Common.{◌≡◌, ◌⊎◌, ℕ, ◌+◌, ◌<◌, ◌≤◌, Bool, true, false, cond, inl, inr, List, [], ◌∷◌, Option, Some, None, refl, sym, ap, subst, ◌∙◌}
use Rattle.std.specs.Prelude.{filter, unwrap_or}
use Rattle.std.specs.List.{AllByRecursion, Contains}
use Rattle.std.proofs.lemmas.Bool.{false≢true}
use Rattle.std.proofs.lemmas.Bool.Decides.{eqb_tells, leb_tells}
use Rattle.limits.specs.declared.TheConstants.{MAX_TRANSMIT_WAIT}
use Rattle.history_laws.specs.Readings.{Noted}
use Rattle.history_laws.specs.Connections.{is_sealed}
use Rattle.history_laws.specs.Transmissions.{sent_last}
use Rattle.history_laws.specs.Exchanges.{end_of, is_late, begun}
use Rattle.history_laws.specs.Justified.{HasGrounds}
use Rattle.history_laws.proofs.CallerLemmas.{all-filter, all-more, all-of, all-passes, none-of}
use Rattle.exchange_model.specs.declared.kept.Exchange.{Exchange}
use Rattle.exchange_model.specs.declared.kept.Reader.{Reader}
use Rattle.exchange_model.specs.State.{State}
use Rattle.exchange_model.specs.Hearing.{is_past}
use Rattle.exchange_model.specs.Calls.{Telling, is_reader_of, timeout_for, told_late}
use Rattle.exchange_model.specs.Keeping.{Kept}
use Rattle.exchange_model.specs.Sealing.{late, IsPrompt, ArePrompt}
use Rattle.exchange_model.proofs.Readers.{ReaderIn, readers-wait, readers-rise-in, readers-apart, rise-filter, Apart}
use Rattle.exchange_model.proofs.Telling.{readers_in, Told, all-in, all-told, kept-told, tells-exchanges}
use Rattle.exchange_model.proofs.Tellings.{late_reads, readers-late, among-late, late-all}
use Rattle.exchange_model.specs.Growing.{RiseByAsk}
use Rattle.exchange_model.specs.Resting.{HasExchange}
use Rattle.exchange_model.proofs.Lists.{all-both}
use Rattle.exchange_model.proofs.Opened.{OpenIn, open-ones}

-- That an exchange is past is a reason in a sealed journal.
overdue : {start : Start} (l : List Noted) (t : ℕ) (e : Exchange) (r : Reader) → OpenIn start l e → ReaderIn l r → r.opening ≡ e.opening → is_sealed l ≡ true
    → is_past t e ≡ true → HasGrounds l t r.ask (timeout_for r e).grounds
overdue l t e r a w same sealed past =
    let going : end_of l e.opening ≡ None = none-of (end_of l e.opening) a.1 in
    let late_now : is_late t (begun l e.opening) ≡ true = rw (a.0.opening) past in (
      e.opening,
      rw (w.stands, w.reads) (ap Some same),
      named e.sending a.0.sending,
      inr (sealed, going, late_now),
    )
  where
    named : (s : Option ℕ) → sent_last l e.opening ≡ s
        → (sent_last l e.opening ≡ Some (unwrap_or s r.ask)) ⊎ ((sent_last l e.opening ≡ None) × (unwrap_or s r.ask ≡ r.ask))
    named (Some i) k = inl k
    named None k = inr (k, refl)

-- what it leaves
late-told : (t : ℕ) (S : State) (k : Kept S) → S.sealed ≡ true → S.moment ≤ t
    → (n : List Noted) × Told k.reading t (told_late (filter (is_past t) S.exchanges) S.readers) S n (late t S)
late-told t S k sealed later =
    let l = k.reading in
    let r = k.rests in
    let es = filter (is_past t) S.exchanges in
    let readers : AllByRecursion (ReaderIn l) S.readers = subst (AllByRecursion (ReaderIn l)) r.reads.readers_are (readers-wait l r.reads.legal) in
    let apart : Apart (readers_in (told_late es S.readers)) = rw (readers-late es S.readers)
    (readers-apart l _ (rise-filter (late_reads es) S.readers (subst RiseByAsk r.reads.readers_are (readers-rise-in l r.reads.legal))) (all-filter (ReaderIn l) (late_reads es) S.readers readers)) in
    let has : AllByRecursion (Contains S.readers) (readers_in (told_late es S.readers)) = rw (readers-late es S.readers) (all-filter (Contains S.readers) (late_reads es) S.readers (all-in S.readers)) in
    let past = all-both (OpenIn r.reads.start l) (λ (e : Exchange). is_past t e ≡ true) es (all-filter (OpenIn r.reads.start l) (is_past t) S.exchanges (open-ones l S r.reads)) (all-passes (is_past t) S.exchanges) in
    all-told (told_late es S.readers) l t S (record { reads = r.reads; later = later }) r.quiet r.served has apart
    (late-all (λ (x : Telling). HasGrounds l t x.reader.ask x.grounds) (ReaderIn l) es S.readers
    (λ e x in_es a same. let one = all-of _ es e past in_es in overdue l t e x one.0 a same (r.reads.sealed_is ∙ sealed) one.1) readers)

pub late-kept : (t : ℕ) (S : State) → Kept S → S.sealed ≡ true → S.moment ≤ t → Kept (late t S)
late-kept t S k sealed later =
    let told = late-told t S k sealed later in
    kept-told k.reading t (told_late (filter (is_past t) S.exchanges) S.readers) S told.0 told.1 k.rests.links k.rests.in_time
    (all-more _ _ (λ (x : Reader) h. inl h) S.readers k.rests.reading) k.mids

-- Nobody is left who waits for one that is past.

prompt-one : (t : ℕ) (r : Reader) (es : List Exchange) → (HasExchange (filter (is_past t) es) r.opening → ⊥) → IsPrompt t es r
prompt-one t r [] none = tt
prompt-one t r (e ∷ es) none = by (is_past t e) refl none (λ h. prompt-one t r es h)
  where
    before : is_past t e ≡ false → t < e.since + MAX_TRANSMIT_WAIT
    before is = elim (leb_tells (e.since + MAX_TRANSMIT_WAIT) t) [
      | inl w ↦ absurd (false≢true (sym is ∙ w.0))
      | inr w ↦ w.1
    ]

    same : is_reader_of e r ≡ true → e.opening ≡ r.opening
    same k = elim (eqb_tells r.opening e.opening) [ inl w ↦ sym w.1 | inr w ↦ absurd (false≢true (sym w.0 ∙ k)) ]

    by : (b : Bool) → is_past t e ≡ b
        → (HasExchange (cond b (e ∷ filter (is_past t) es) (filter (is_past t) es)) r.opening → ⊥)
        → ((HasExchange (filter (is_past t) es) r.opening → ⊥) → IsPrompt t es r) → IsPrompt t (e ∷ es) r
    by true is h ih = (λ k. absurd (h (inl (same k))), ih (λ k. h (inr k)))
    by false is h ih = (λ k. before is, ih h)

pub late-prompt : (t : ℕ) (S : State) → Kept S → S.sealed ≡ true → S.moment ≤ t
    → ArePrompt t (late t S)
late-prompt t S k sealed later =
    let es = filter (is_past t) S.exchanges in
    let told = late-told t S k sealed later in
    subst (λ (fs : List Exchange). AllByRecursion (IsPrompt t fs) (late t S).readers) (sym (tells-exchanges t (told_late es S.readers) S))
    (all-more _ (IsPrompt t S.exchanges) (λ (r : Reader) h. prompt-one t r S.exchanges (λ w. h.1 (all-of _ S.readers r (among-late es S.readers) h.0 w))) (late t S).readers told.1.left)
