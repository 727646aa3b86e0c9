-- How far an exchange comes by a reply is the same in the history and in the state.
use Rattle.std.proofs.Common.{◌≡◌, ℕ, List, [], ◌∷◌, ◌++◌, length, map, Option, Some, None, refl, sym, ap, subst, ◌∙◌, inl, inr}
use Rattle.history_laws.specs.Justified.{Legal}
use Rattle.std.specs.Prelude.{filter_map, slice_get, option_and_then}
use Rattle.std.specs.List.{AllByRecursion, Contains}
use Rattle.std.proofs.lemmas.List.Elements.{Contains-append_cases, Contains-append_right}
use Rattle.coap_codec.specs.Spelling.{Content}
use Rattle.coap_codec.proofs.Again.{message_again}
use Rattle.ask_model.specs.Requests.{CoapRequest}
use Rattle.journal_book.specs.Entries.{Hears, Written}
use Rattle.history_laws.specs.Readings.{Noted}
use Rattle.history_laws.specs.Progress.{Reply, numbers, Progress, Fetches, Gives, Ends, progress, step}
use Rattle.history_laws.specs.Exchanges.{Begun, begun, replies, end_of, begins_with, heard_for}
use Rattle.history_laws.specs.Laws.{IsReplyTo}
use Rattle.history_laws.proofs.CallerLemmas.{all-of, at-entries, CameTo, contains-none, entries-length, goes-so, GoesSo, progress-push, replies-fit, begun-by}
use Rattle.exchange_model.specs.declared.kept.Exchange.{Exchange}
use Rattle.exchange_model.specs.State.{State}
use Rattle.exchange_model.specs.declared.kept.Work.{Work}
use Rattle.exchange_model.specs.declared.kept.Work.TheVariants as W
use Rattle.exchange_model.specs.Reads.{got_for, got_in, ExchangeIn, Reads}
use Rattle.exchange_model.specs.Steps.{heard_by, heard_in, read_as}
use Rattle.exchange_model.specs.Matters.{comes_to, fetched_in, numbers_of, progress_with}
use Rattle.exchange_model.specs.Hearing.{got_by}
use Rattle.exchange_model.proofs.Bare.{bare, bare_progress, step-bare}
use Rattle.exchange_model.proofs.Lists.{each-of}

-- What an open exchange has fetched is among what was heard for it.

got-among : (q : CoapRequest) (rs : List Reply) (u : Progress) → CameTo q rs u → (r : Reply) → Contains (got_by u) r → Contains rs r
got-among q rs (Fetches k p got) h r has =
    subst (λ (v : List Reply). Contains v r) (sym h.1.split) (Contains-append_right h.1.before got r has)
got-among q rs (Gives u got) h r has = subst (λ (v : List Reply). Contains v r) (sym h.1.all) has
got-among q rs (Ends how) h r has = absurd (contains-none r has)

pub got-heard : (l : List Noted) (o : ℕ) → Legal l → end_of l o ≡ None → (r : Reply) → Contains (got_in l o) r → Contains (heard_for l o) r
got-heard l o legal going r has = by (begun l o) (goes-so l o legal going) has
  where
    by : (b : Option Begun) → GoesSo b (heard_for l o) → Contains (got_for b (heard_for l o)) r → Contains (heard_for l o) r
    by None h k = absurd (contains-none r k)
    by (Some b) h k = got-among b.request (heard_for l o) (progress b.request (heard_for l o)) h.1 r k

-- Each came to a message of the exchange, or, where a notification opened that, of the ask that it goes back to.
pub heard-fits : (l : List Noted) (o : ℕ) (b : Begun) (r : Reply) → Legal l → begun l o ≡ Some b → Contains (heard_for l o) r → (k : ℕ) × IsReplyTo l k r
heard-fits l o b r legal opened has = elim (Contains-append_cases (begins_with l o) (replies l o) r has) [
  | inl first ↦ let it = begun-by l o b r legal opened first in (it.ask, it.fits)
  | inr more ↦ (o, replies-fit l o r legal more)
]

pub got-fits : (l : List Noted) (o : ℕ) (b : Begun) → Legal l → begun l o ≡ Some b → end_of l o ≡ None → (r : Reply) → Contains (got_in l o) r
    → (k : ℕ) × IsReplyTo l k r
got-fits l o b legal opened going r has = heard-fits l o b r legal opened (got-heard l o legal going r has)

-- Each stands in the journal.
pub stands-in : (l : List Noted) (S : State) (o : ℕ) (r : Reply) → Reads l S → IsReplyTo l o r → heard_in S.entries r.number ≡ Some (bare r)
stands-in l S o r reads fit =
    let stands : slice_get S.entries r.number ≡ Some (record { moment = fit.moment; deed = Hears fit.peer fit.bytes }) =
    subst (λ (ws : List Written). slice_get ws r.number ≡ Some (record { moment = fit.moment; deed = Hears fit.peer fit.bytes })) reads.entries_are
    (at-entries l r.number _ fit.heard) in
    ap (option_and_then (λ (w : Written). heard_by r.number w.deed)) stands
    ∙ ap (read_as r.number) (message_again r.message fit.bytes fit.spelled)

all-read : (ws : List Written) (rs : List Reply) → AllByRecursion (λ (r : Reply). heard_in ws r.number ≡ Some (bare r)) rs
    → filter_map (heard_in ws) (numbers rs) ≡ map bare rs
all-read ws [] h = refl
all-read ws (r ∷ rs) h = rw (h.0) (ap (λ (v : List Reply). bare r ∷ v) (all-read ws rs h.1))

pub fetched-same : (l : List Noted) (S : State) (e : Exchange) (b : Begun) → Reads l S → Contains S.exchanges e → begun l e.opening ≡ Some b
    → end_of l e.opening ≡ None → fetched_in S.entries e.opening S.pieces ≡ map bare (got_in l e.opening)
fetched-same l S e b r has opened going =
    let own : numbers (got_in l e.opening) ≡ numbers_of e.opening S.pieces =
    all-of (λ (x : Exchange). numbers (got_in l x.opening) ≡ numbers_of x.opening S.pieces) S.exchanges e r.pieces_are.fetched has in
    ap (filter_map (heard_in S.entries)) (sym own)
    ∙ all-read S.entries (got_in l e.opening)
    (each-of (λ (x : Reply). heard_in S.entries x.number ≡ Some (bare x)) (got_in l e.opening)
    (λ x in_got. let it = got-fits l e.opening b r.legal opened going x in_got in stands-in l S it.0 x r it.1))

as-bare : (w : Work) (got : List Reply) → progress_with w (map bare got) ≡ bare_progress (progress_with w got)
as-bare (W.Fetches restarts pieces) got = refl
as-bare (W.Gives upload) got = refl

pub comes-to : (l : List Noted) (S : State) (e : Exchange) (i : ℕ) (m : Content) (r : Reads l S) → Contains S.exchanges e → end_of l e.opening ≡ None
    → (a : ExchangeIn r.start l e)
    → comes_to m S e ≡ bare_progress (progress a.request (heard_for l e.opening ++ record { number = length l; sending = i; message = m } ∷ []))
comes-to l S e i m r has going a =
    let reply : Reply = record { number = length l; sending = i; message = m } in
    let here : length S.entries ≡ length l = ap length (sym r.entries_are) ∙ entries-length l in
    ap (λ (got : List Reply). step (progress_with e.work got) (record { number = length S.entries; sending = 0; message = m })) (fetched-same l S e _ r has a.opening going)
    ∙ (ap (λ (n : ℕ). step (progress_with e.work (map bare (got_in l e.opening))) (record { number = n; sending = 0; message = m })) here
    ∙ (ap (λ (u : Progress). step u (bare reply)) (as-bare e.work (got_in l e.opening))
    ∙ (step-bare (progress_with e.work (got_in l e.opening)) reply
    ∙ ap bare_progress (ap (λ (u : Progress). step u reply) (sym a.progress) ∙ sym (progress-push a.request (heard_for l e.opening) reply)))))
