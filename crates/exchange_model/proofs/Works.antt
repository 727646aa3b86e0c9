-- What is kept of an exchange is of the kind that its request asks for, and was begun anew three times at most.
use Rattle.std.proofs.Common.{◌≡◌, ◌≢◌, ℕ, ◌+◌, ◌≤◌, Bool, true, false, cond, eqb, List, [], ◌∷◌, ◌++◌, length, Option, Some, Ok, Err, refl, sym, ap, subst, ◌∙◌, arith}
use Rattle.exchange_model.proofs.Lists.{all-map}
use Rattle.history_laws.specs.Observing.{Watch, watches}
use Rattle.observe_share.specs.declared.registration.Registration.{Registration}
use Rattle.std.specs.Prelude.{fold, is_some}
use Rattle.std.specs.List.{AllByRecursion}
use Rattle.std.proofs.lemmas.Bool.{eq-eqb, eqb-false, false≢true}
use Rattle.coap_codec.specs.Recognition.{is_forwardable}
use Rattle.blockwise.specs.Downloads.{PiecesValue, Judged, judged, no_pieces, with_piece}
use Rattle.blockwise.specs.Uploads.{UploadValue, begun, answer_to}
use Rattle.blockwise.specs.declared.fault.BlockFault.TheVariants as F
use Rattle.blockwise.specs.declared.pieces.Step.TheVariants.{Next, Last}
use Rattle.blockwise.specs.declared.upload.Answered.{Answered}
use Rattle.blockwise.specs.declared.upload.Answered.TheVariants as A
use Rattle.cache_key.specs.Digests.{digests_of}
use Rattle.ask_model.specs.Requests.{CoapRequest}
use Rattle.ask_model.specs.Sharing.{asked_key}
use Rattle.history_laws.specs.Readings.{Noted}
use Rattle.history_laws.specs.Responses.{is_tellable}
use Rattle.history_laws.specs.Exchanges.{heard_for}
use Rattle.history_laws.specs.Progress.{Reply, NotUnderstood, Progress, Fetches, Gives, Ends, anew, answered_so, fetched_by, first_progress, progress, step}
use Rattle.history_laws.proofs.CallerLemmas.{all-more, eqb-apart, eqb-same, some-is, watches-fit, WatchFits}
use Rattle.history_links.specs.Agrees.{Start}
use Rattle.exchange_model.specs.declared.kept.Exchange.{Exchange}
use Rattle.exchange_model.specs.declared.kept.Work.{Work}
use Rattle.exchange_model.specs.declared.kept.Work.TheVariants as W
use Rattle.exchange_model.specs.State.{State}
use Rattle.exchange_model.specs.Reads.{ExchangeIn, got_in, held_of}
use Rattle.exchange_model.specs.Growing.{IsFewTimes, IsWorkOf}
use Rattle.exchange_model.specs.Keeping.{Kept}
use Rattle.exchange_model.specs.Matters.{IsDigested, asked_in, progress_with}
use Rattle.exchange_model.proofs.Outrun.{asked-here, asked-by}

abbrev IsFor : CoapRequest → Progress → Type 0
IsFor q (Fetches k p got) = (eqb q.method 1 ≡ true) × (k ≤ 3)
IsFor q (Gives u got) = (eqb q.method 1 ≡ false) × (u.len ≡ length q.body)
IsFor q (Ends how) = Unit {0}

for-anew : (q : CoapRequest) (k : ℕ) → eqb q.method 1 ≡ true → k ≤ 3 → IsFor q (anew k)
for-anew q k get le = by (eqb k 3) refl
  where
    by : (b : Bool) → eqb k 3 ≡ b → IsFor q (cond b (Ends NotUnderstood) (Fetches (k + 1) no_pieces []))
    by true is = tt
    by false is = (get, let ne = eqb-false k 3 is in omega (arith, le, ne))

for-judged : (q : CoapRequest) (j : Judged) (k : ℕ) (p : PiecesValue) (got : List Reply) → eqb q.method 1 ≡ true → k ≤ 3 → IsFor q (fetched_by j k p got)
for-judged q (Err F.Changed) k p got get le = for-anew q k get le
for-judged q (Err F.Size) k p got get le = tt
for-judged q (Err F.Gap) k p got get le = tt
for-judged q (Err F.TooLarge) k p got get le = tt
for-judged q (Err F.Memory) k p got get le = tt
for-judged q (Ok (Next b)) k p got get le = (get, le)
for-judged q (Ok Last) k p got get le = tt

for-answered : (q : CoapRequest) (b : Bool) (how : Answered) (u : UploadValue) (got : List Reply) (r : Reply) → eqb q.method 1 ≡ false → u.len ≡ length q.body
    → IsFor q (cond b (answered_so how u got r) (Ends NotUnderstood))
for-answered q true A.Next u got r write len = (write, len)
for-answered q true A.Last u got r write len = tt
for-answered q true A.Wrong u got r write len = tt
for-answered q false how u got r write len = tt

for-step : (q : CoapRequest) (u : Progress) (r : Reply) → IsFor q u → IsFor q (step u r)
for-step q (Ends how) r h = tt
for-step q (Gives u got) r h = for-answered q (is_forwardable r.message.options) (answer_to u r.message) u got r h.0 h.1
for-step q (Fetches k p got) r h = by (is_tellable r.message)
  where
    by : (b : Bool) → IsFor q (cond b (fetched_by (judged p r.message) k (with_piece p r.message) (got ++ r ∷ [])) (Ends NotUnderstood))
    by true = for-judged q (judged p r.message) k (with_piece p r.message) (got ++ r ∷ []) h.0 h.1
    by false = tt

for-all : (q : CoapRequest) (rs : List Reply) (u : Progress) → IsFor q u → IsFor q (fold step u rs)
for-all q [] u h = h
for-all q (r ∷ rs) u h = for-all q rs (step u r) (for-step q u r h)

for-progress : (q : CoapRequest) (rs : List Reply) → IsFor q (progress q rs)
for-progress q rs = for-all q rs (first_progress q) (by (eqb q.method 1) refl)
  where
    by : (b : Bool) → eqb q.method 1 ≡ b → IsFor q (cond b (Fetches 0 no_pieces []) (Gives (begun (length q.body) 6) []))
    by true is = (is, omega arith)
    by false is = (is, refl)

-- What fetches by a reply is a GET.
pub comes-get : (q : CoapRequest) (w : Work) (got more : List Reply) (r : Reply) (restarts : ℕ) (pieces : PiecesValue) → IsWorkOf q w → IsFewTimes w
    → step (progress_with w got) r ≡ Fetches restarts pieces more → q.method ≡ 1
comes-get q w got more r restarts pieces of few is =
    eqb-same q.method 1 (subst (IsFor q) is (for-step q (progress_with w got) r (by w of few))).0
  where
    by : (w : Work) → IsWorkOf q w → IsFewTimes w → IsFor q (progress_with w got)
    by (W.Fetches k p) of few = (eq-eqb q.method 1 of, few)
    by (W.Gives upload) of few = (eqb-apart q.method 1 of.0, of.1)

pub work-of : {start : Start} (l : List Noted) (e : Exchange) (a : ExchangeIn start l e) → IsWorkOf a.request e.work × IsFewTimes e.work
work-of l e a = by e.work (subst (IsFor a.request) a.progress (for-progress a.request (heard_for l e.opening)))
  where
    get : (n : ℕ) → eqb n 1 ≡ false → n ≢ 1
    get n other same = false≢true (sym other ∙ subst (λ (k : ℕ). eqb k 1 ≡ true) (sym same) refl)

    by : (w : Work) → IsFor a.request (progress_with w (got_in l e.opening)) → IsWorkOf a.request w × IsFewTimes w
    by (W.Fetches restarts pieces) h = (eqb-same a.request.method 1 h.0, h.1)
    by (W.Gives upload) h = ((get a.request.method h.0, h.1), tt)

-- Each was asked for, and what is kept of it is what that asks for.
abbrev pub IsAskedIn : State → Exchange → Type 0
IsAskedIn S e =
    (is_some (asked_in S.entries e.ask) ≡ true)
    × ((q : CoapRequest) → asked_in S.entries e.ask ≡ Some q → IsWorkOf q e.work)

pub all-asked-for : (S : State) → Kept S → AllByRecursion (IsAskedIn S) S.exchanges
all-asked-for S k =
    let l = k.reading in let r = k.rests.reads in
    all-more (ExchangeIn r.start l) (IsAskedIn S)
    (λ (e : Exchange) a. (
      ap (λ (v : Option CoapRequest). is_some v) (asked-here l S r e a),
      λ q is. subst (λ (q : CoapRequest). IsWorkOf q e.work) (some-is _ _ (sym (asked-here l S r e a) ∙ is)) (work-of l e a).0,
    ))
    S.exchanges r.exchanges_are

-- The digests of each are those of what it was opened for.
pub all-digested : (S : State) → Kept S → AllByRecursion (IsDigested S.entries) S.exchanges
all-digested S k =
    let l = k.reading in let r = k.rests.reads in
    all-more (ExchangeIn r.start l) (IsDigested S.entries)
    (λ (e : Exchange) a. λ q is. ap (λ (v : CoapRequest). digests_of (asked_key v)) (some-is _ _ (sym is ∙ asked-here l S r e a)) ∙ a.digests)
    S.exchanges r.exchanges_are

-- What is fetched was begun anew three times at most.
pub restarts-few : (S : State) → Kept S → AllByRecursion (λ (e : Exchange). IsFewTimes e.work) S.exchanges
restarts-few S k =
    let l = k.reading in let r = k.rests.reads in
    all-more (ExchangeIn r.start l) (λ (e : Exchange). IsFewTimes e.work) (λ (e : Exchange) a. (work-of l e a).1) S.exchanges r.exchanges_are

-- What is observed was asked for by an ask that stands in the entries.
pub all-watched-for : (S : State) → Kept S → AllByRecursion (λ (w : Registration). is_some (asked_in S.entries w.opening) ≡ true) S.watches
all-watched-for S k =
    let l = k.reading in let r = k.rests.reads in
    subst (AllByRecursion (λ (w : Registration). is_some (asked_in S.entries w.opening) ≡ true)) r.watches_are
    (all-map held_of (λ (w : Registration). is_some (asked_in S.entries w.opening) ≡ true) (watches l)
    (all-more (WatchFits l) _ (λ (w : Watch) a.
    let it = a.for_it in
    ap (λ (v : Option CoapRequest). is_some v)
    (asked-by l S r w.held.opening it.conn it.ask a.exchange.request (record { moment = a.exchange.since; note = it.note; stands = it.stands }) it.sense)) (watches l) (watches-fit l r.legal)))
