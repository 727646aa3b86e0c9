-- What a message that is new leaves of the exchanges that are open.
use Rattle.std.proofs.Common.{◌≡◌, ℕ, zero, ◌+◌, ◌<◌, ◌⊎◌, inl, inr, Bool, true, false, cond, List, [], ◌∷◌, length, Option, Some, None, refl, sym, ap, subst, ◌∙◌, arith, ◌++◌}
use Rattle.exchange_model.specs.Calls.{goes_with}
use Rattle.std.specs.Prelude.{map, filter, find, not}
use Rattle.std.specs.List.{AllByRecursion, Contains, list_any}
use Rattle.std.proofs.lemmas.Bool.{not-false, and_parts, ltb-true}
use Rattle.std.proofs.lemmas.Slice.Eq.{bytes_eq-Decides}
use Rattle.limits.specs.declared.TheConstants.{MAX_MESSAGE_IDS, MAX_TRANSMIT_WAIT}
use Rattle.coap_codec.specs.Spelling.{Content}
use Rattle.uri_map.specs.declared.peer.Peer.{Peer}
use Rattle.message_layer.specs.Values.{LinkState}
use Rattle.message_layer.specs.Sending.{due_of, mids_in_use, waits}
use Rattle.message_layer.specs.declared.state.Outstanding.{Outstanding}
use Rattle.message_layer.specs.declared.state.Waiting.{Waiting}
use Rattle.message_layer.specs.declared.verdict.News.{News}
use Rattle.message_layer.specs.declared.verdict.News.TheVariants as N
use Rattle.journal_book.specs.Entries.{Written}
use Rattle.history_laws.specs.Numbering.{token_number}
use Rattle.history_laws.specs.Progress.{Ending, Whole, NotUnderstood, Reset as ResetSo, TimedOut, Turned, Progress, Fetches, Gives, Ends, Renewed}
use Rattle.history_laws.specs.Readings.{Noted}
use Rattle.history_laws.specs.Justified.{Legal, Ends as EndsAs}
use Rattle.history_laws.proofs.CallerLemmas.{all-filter, all-more, all-of, contains-later, ends-renewed, before-new, renews-for, none-some, all-push}
use Rattle.history_links.specs.Agrees.{Start}
use Rattle.history_links.specs.Steps.{heard as heard_entry}
use Rattle.exchange_model.specs.declared.kept.Exchange.{Exchange}
use Rattle.exchange_model.specs.State.{State, link_of}
use Rattle.history_laws.specs.Exchanges.{kept as kept_of}
use Rattle.exchange_model.specs.Reads.{ExchangeIn, Reads}
use Rattle.cache_key.specs.Keys.{CacheKey}
use Rattle.observe_share.specs.declared.registration.Registration.{Registration}
use Rattle.observe_share.specs.Watches as W
use Rattle.observe_share.specs.declared.notice.Notice.{Notice}
use Rattle.observe_share.specs.declared.notice.Notice.TheVariants.{Update, Other}
use Rattle.history_laws.specs.Observing.{as_first, notice_in}
use Rattle.exchange_model.specs.Watching.{counts_to}
use Rattle.exchange_model.specs.Steps.{is_under, reply_at}
use Rattle.exchange_model.specs.Matters.{is_other, found_in, Matter, Nothing, Tells, tells_of, told_alone, Goes, Over, matter_by, replied, comes_to, stale_in, unless_valid, Starts, has_place, is_reading, may_start, starting, told_so}
use Rattle.exchange_model.specs.Hearing.{outdated_by, Numbers, continued, goes_so, exchanges_by, more_by, link_with}
use Rattle.exchange_model.specs.Resting.{IsUndue, HasExchange}
use Rattle.exchange_model.specs.Keeping.{HasMids}
use Rattle.exchange_model.proofs.Tellings.{over_in, ended_list}
use Rattle.exchange_model.proofs.Lists.{all-map}
use Rattle.exchange_model.proofs.Outrun.{left-all, left-has}
use Rattle.exchange_model.proofs.Opened.{cancel, OpenIn, one-rank}
use Rattle.exchange_model.proofs.Brief.{TellsFew, kept-few}
use Rattle.exchange_model.proofs.Stepping.{enough-ids}
use Rattle.history_laws.specs.Responses.{confirms as confirms_tag}
use Rattle.resp_cache.specs.Stored.{Stored}

has-part : (q : Exchange → Bool) (es : List Exchange) (k : ℕ) → HasExchange es k → HasExchange (filter q es) k ⊎ ((e : Exchange) × Contains es e × (q e ≡ false) × (e.opening ≡ k))
has-part q [] k h = absurd h
has-part q (e ∷ es) k (inl h) = by (q e) refl
  where
    by : (b : Bool) → q e ≡ b → HasExchange (cond b (e ∷ filter q es) (filter q es)) k ⊎ ((y : Exchange) × Contains (e ∷ es) y × (q y ≡ false) × (y.opening ≡ k))
    by true is = inl (inl h)
    by false is = inr (e, (zero, omega arith, refl), is, h)
has-part q (e ∷ es) k (inr h) = elim (has-part q es k h) [
  | inl w ↦ inl (by (q e) w)
  | inr w ↦ inr (w.0, contains-later e es w.0 w.1, w.2, w.3)
]
  where
    by : (b : Bool) → HasExchange (filter q es) k → HasExchange (cond b (e ∷ filter q es) (filter q es)) k
    by true w = inr w
    by false w = w

-- What an exchange keeps that goes on.

goes-opening : (e : Exchange) (token : List ℕ) (progress : Progress) (y : Exchange) → (goes_so e token progress y).opening ≡ y.opening
goes-opening e token progress y = by (is_under e.token y) progress
  where
    by : (b : Bool) (progress : Progress) → (cond b (continued token progress y) y).opening ≡ y.opening
    by false progress = refl
    by true progress = refl

goes-since : (e : Exchange) (token : List ℕ) (progress : Progress) (y : Exchange) → (goes_so e token progress y).since ≡ y.since
goes-since e token progress y = by (is_under e.token y) progress
  where
    by : (b : Bool) (progress : Progress) → (cond b (continued token progress y) y).since ≡ y.since
    by false progress = refl
    by true progress = refl

goes-has : (e : Exchange) (token : List ℕ) (progress : Progress) (es : List Exchange) (k : ℕ) → HasExchange es k → HasExchange (map (goes_so e token progress) es) k
goes-has e token progress [] k h = absurd h
goes-has e token progress (y ∷ es) k (inl h) = inl (goes-opening e token progress y ∙ h)
goes-has e token progress (y ∷ es) k (inr h) = inr (goes-has e token progress es k h)

outdated-since : (ws : List Written) (key : CacheKey) (y : Exchange) → (outdated_by ws key y).since ≡ y.since
outdated-since ws key y = by (is_reading ws key y)
  where
    by : (b : Bool) → (cond b (record y { newest = false }) y).since ≡ y.since
    by true = refl
    by false = refl

outdated-has : (ws : List Written) (key : CacheKey) (es : List Exchange) (k : ℕ) → HasExchange es k → HasExchange (map (outdated_by ws key) es) k
outdated-has ws key [] k h = absurd h
outdated-has ws key (y ∷ es) k (inl h) = inl (by (is_reading ws key y))
  where
    by : (b : Bool) → (cond b (record y { newest = false }) y).opening ≡ k
    by true = h
    by false = h
outdated-has ws key (y ∷ es) k (inr h) = inr (outdated-has ws key es k h)

outdated-all : (tick : ℕ) (ws : List Written) (key : CacheKey) (es : List Exchange) → AllByRecursion (λ (e : Exchange). tick < e.since + MAX_TRANSMIT_WAIT) es
    → AllByRecursion (λ (e : Exchange). tick < e.since + MAX_TRANSMIT_WAIT) (map (outdated_by ws key) es)
outdated-all tick ws key es a =
    all-map (outdated_by ws key) (λ (y : Exchange). tick < y.since + MAX_TRANSMIT_WAIT) es
    (all-more (λ (y : Exchange). tick < y.since + MAX_TRANSMIT_WAIT) (λ (y : Exchange). tick < (outdated_by ws key y).since + MAX_TRANSMIT_WAIT)
    (λ y h. subst (λ (n : ℕ). tick < n + MAX_TRANSMIT_WAIT) (sym (outdated-since ws key y)) h) es a)

pushed-has : (es : List Exchange) (e : Exchange) (k : ℕ) → HasExchange es k → HasExchange (es ++ e ∷ []) k
pushed-has [] e k h = absurd h
pushed-has (y ∷ es) e k (inl h) = inl h
pushed-has (y ∷ es) e k (inr h) = inr (pushed-has es e k h)

pub by-since : (tick : ℕ) (ws : List Written) (token : List ℕ) (x : Matter) (es : List Exchange) → AllByRecursion (λ (e : Exchange). tick < e.since + MAX_TRANSMIT_WAIT) es
    → ((r : Registration) (e : Exchange) (progress : Progress) → x ≡ Starts r e progress → tick < e.since + MAX_TRANSMIT_WAIT)
    → AllByRecursion (λ (e : Exchange). tick < e.since + MAX_TRANSMIT_WAIT) (exchanges_by ws token x es)
by-since tick ws token Nothing es a new = a
by-since tick ws token (Tells r stored) es a new = outdated-all tick ws r.key es a
by-since tick ws token (Starts r e progress) es a new =
    all-push (λ (y : Exchange). tick < y.since + MAX_TRANSMIT_WAIT) (map (outdated_by ws r.key) es) (record e { token = token })
    (outdated-all tick ws r.key es a) (new r e progress refl)
by-since tick ws token (Goes e progress) es a new =
    all-map (goes_so e token progress) (λ (y : Exchange). tick < y.since + MAX_TRANSMIT_WAIT) es
    (all-more (λ (y : Exchange). tick < y.since + MAX_TRANSMIT_WAIT) (λ (y : Exchange). tick < (goes_so e token progress y).since + MAX_TRANSMIT_WAIT)
    (λ y h. subst (λ (n : ℕ). tick < n + MAX_TRANSMIT_WAIT) (sym (goes-since e token progress y)) h) es a)
by-since tick ws token (Over e how) es a new =
    left-all (λ (e : Exchange). tick < e.since + MAX_TRANSMIT_WAIT) (λ e h. h) ws (e ∷ []) (filter (is_other e.token) es)
    (all-filter (λ (e : Exchange). tick < e.since + MAX_TRANSMIT_WAIT) (is_other e.token) es a)

-- what was open is open still, or has just ended
pub served-part : (start : Start) (l : List Noted) (S : State) (token : List ℕ) (x : Matter) → Legal l → AllByRecursion (OpenIn start l) S.exchanges
    → ((e : Exchange) (how : Ending) → x ≡ Over e how → Contains S.exchanges e) → (k : ℕ) → HasExchange S.exchanges k
    → HasExchange (exchanges_by S.entries token x S.exchanges) k ⊎ HasExchange (ended_list (over_in x)) k
served-part start l S token Nothing legal all among k h = inl h
served-part start l S token (Tells r stored) legal all among k h = inl (outdated-has S.entries r.key S.exchanges k h)
served-part start l S token (Starts r e progress) legal all among k h =
    inl (pushed-has (map (outdated_by S.entries r.key) S.exchanges) (record e { token = token }) k (outdated-has S.entries r.key S.exchanges k h))
served-part start l S token (Goes e progress) legal all among k h = inl (goes-has e token progress S.exchanges k h)
served-part start l S token (Over e how) legal all among k h = elim (has-part (is_other e.token) S.exchanges k h) [
  | inl w ↦ inl (left-has S.entries (e ∷ []) (filter (is_other e.token) S.exchanges) k w)
  | inr w ↦ inr (inl (by w.0 w.1 w.2 ∙ w.3))
]
  where
    by : (y : Exchange) → Contains S.exchanges y → is_other e.token y ≡ false → e.opening ≡ y.opening
    by y has is =
        let its = all-of (OpenIn start l) S.exchanges e all (among e how refl) in
        let mine = all-of (OpenIn start l) S.exchanges y all has in
        let same : y.token ≡ e.token = (bytes_eq-Decides y.token e.token).0 (not-false (is_under e.token y) is) in
        one-rank l e.opening y.opening _ _ legal its.0.opening mine.0.opening its.1 mine.1 (cancel start.issued _ _ (its.0.number ∙ (ap token_number (sym same) ∙ sym mine.0.number)))

-- There is a place for the next message of an exchange that goes on.

-- what an exchange goes on or begins with finds an ID
abbrev HasIds : ℕ → Peer → State → Matter → Type 0
HasIds t p S x = (e : Exchange) (progress : Progress) → goes_with x ≡ Some (e, progress) → mids_in_use t (link_of S.links p) < MAX_MESSAGE_IDS

none-goes : (t : ℕ) (p : Peer) (S : State) (x : Matter) → goes_with x ≡ None → HasIds t p S x
none-goes t p S x is e progress h = absurd (none-some (e, progress) (sym is ∙ h))

module _ (t : ℕ) (p : Peer) (m : Content) (S : State) where
  ids-replied : (place : Bool) (f : Exchange) (u : Progress) → (place ≡ true → mids_in_use t (link_of S.links p) < MAX_MESSAGE_IDS) → HasIds t p S (replied place f u)
  ids-replied true f u few = λ e progress h. few refl
  ids-replied false f (Fetches restarts pieces got) few = none-goes t p S (Over f Turned) refl
  ids-replied false f (Gives upload got) few = none-goes t p S (Over f Turned) refl
  ids-replied false f (Ends how) few = none-goes t p S (Over f how) refl

  ids-valid : (v : Option Stored) (place : Bool) (f : Exchange) (u : Progress) → (place ≡ true → mids_in_use t (link_of S.links p) < MAX_MESSAGE_IDS)
      → HasIds t p S (unless_valid v m S f (replied place f u))
  ids-valid None place f u few = ids-replied place f u few
  ids-valid (Some s) place f u few = by (confirms_tag s.response.etag m)
    where
      by : (b : Bool) → HasIds t p S (cond b (Over f (Renewed s (reply_at (length S.entries) m))) (replied place f u))
      by true = none-goes t p S (Over f (Renewed s (reply_at (length S.entries) m))) refl
      by false = ids-replied place f u few

  ids-begun : (r : Registration) (u : Progress) (b : Bool) → may_start t p r S ≡ b → HasIds t p S (cond b (Starts r (starting t p r u S) u) (Tells r None))
  ids-begun r u true may = λ e progress h.
      let place = (and_parts (has_place t p S) (not (list_any (is_reading S.entries r.key) S.exchanges)) may).0 in
      ltb-true _ _ (and_parts _ _ (and_parts _ _ place).1).1
  ids-begun r u false may = none-goes t p S (Tells r None) refl

  ids-told : (r : Registration) (n : Notice) (u : Progress) → HasIds t p S (told_so t p S r n u)
  ids-told r (Other v) u = none-goes t p S (Tells r None) refl
  ids-told r (Update v) (Ends how) = none-goes t p S (Tells r (found_in t S (Update v) r.opening (Ends how))) refl
  ids-told r (Update v) (Fetches k pieces got) = ids-begun r (Fetches k pieces got) (may_start t p r S) refl
  ids-told r (Update v) (Gives w got) = ids-begun r (Gives w got) (may_start t p r S) refl

  ids-of : (v : Option Registration) → HasIds t p S (tells_of t p m S v)
  ids-of None = none-goes t p S Nothing refl
  ids-of (Some r) = by (counts_to t m r)
    where
      by : (b : Bool) → HasIds t p S (cond b (told_so t p S r (notice_in m) (as_first (length S.entries) 0 m)) Nothing)
      by true = ids-told r (notice_in m) (as_first (length S.entries) 0 m)
      by false = none-goes t p S Nothing refl

  ids-alone : (news : News) → HasIds t p S (told_alone t p news m S)
  ids-alone N.Response = ids-of (find (W.is_under m.token) S.watches)
  ids-alone N.Quiet = none-goes t p S Nothing refl
  ids-alone (N.Reset token) = none-goes t p S Nothing refl
  ids-alone N.Lost = none-goes t p S Nothing refl

  pub goes-ids : (news : News) (place : Bool) (v : Option Exchange) → (place ≡ true → mids_in_use t (link_of S.links p) < MAX_MESSAGE_IDS)
      → HasIds t p S (matter_by t p news place m S v)
  goes-ids news place None few = ids-alone news
  goes-ids (N.Reset token) place (Some f) few = none-goes t p S (Over f ResetSo) refl
  goes-ids N.Quiet place (Some f) few = ids-valid (stale_in f.opening S.stales) place f (comes_to m S f) few
  goes-ids N.Response place (Some f) few = ids-valid (stale_in f.opening S.stales) place f (comes_to m S f) few
  goes-ids N.Lost place (Some f) few = ids-valid (stale_in f.opening S.stales) place f (comes_to m S f) few

  -- What begins is opened now.
  abbrev IsNow : Matter → Type 0
  IsNow x = (r : Registration) (e : Exchange) (progress : Progress) → x ≡ Starts r e progress → e.since ≡ t

  replied-not : (place : Bool) (f : Exchange) (u : Progress) → IsNow (replied place f u)
  replied-not true f (Fetches restarts pieces got) r e progress h = absurd cc
  replied-not true f (Gives upload got) r e progress h = absurd cc
  replied-not true f (Ends how) r e progress h = absurd cc
  replied-not false f (Fetches restarts pieces got) r e progress h = absurd cc
  replied-not false f (Gives upload got) r e progress h = absurd cc
  replied-not false f (Ends how) r e progress h = absurd cc

  valid-not : (v : Option Stored) (place : Bool) (f : Exchange) (u : Progress) → IsNow (unless_valid v m S f (replied place f u))
  valid-not None place f u = replied-not place f u
  valid-not (Some s) place f u = by (confirms_tag s.response.etag m)
    where
      by : (b : Bool) → IsNow (cond b (Over f (Renewed s (reply_at (length S.entries) m))) (replied place f u))
      by true = λ r e progress h. absurd (cc h)
      by false = replied-not place f u

  begun-now : (r : Registration) (u : Progress) (b : Bool) → IsNow (cond b (Starts r (starting t p r u S) u) (Tells r None))
  begun-now r u true s e progress h = sym (same h)
    where
      same : Starts r (starting t p r u S) u ≡ Starts s e progress → t ≡ e.since
      same g = ap (λ (y : Exchange). y.since) (one g)
        where
          one : Starts r (starting t p r u S) u ≡ Starts s e progress → starting t p r u S ≡ e
          one k = cc
  begun-now r u false s e progress h = absurd cc

  told-now : (r : Registration) (n : Notice) (u : Progress) → IsNow (told_so t p S r n u)
  told-now r (Other v) u = λ s e progress h. absurd (cc h)
  told-now r (Update v) (Ends how) = λ s e progress h. absurd (cc h)
  told-now r (Update v) (Fetches k pieces got) = begun-now r (Fetches k pieces got) (may_start t p r S)
  told-now r (Update v) (Gives w got) = begun-now r (Gives w got) (may_start t p r S)

  of-now : (v : Option Registration) → IsNow (tells_of t p m S v)
  of-now None = λ r e progress h. absurd (cc h)
  of-now (Some r) = by (counts_to t m r)
    where
      by : (b : Bool) → IsNow (cond b (told_so t p S r (notice_in m) (as_first (length S.entries) 0 m)) Nothing)
      by true = told-now r (notice_in m) (as_first (length S.entries) 0 m)
      by false = λ s e progress h. absurd (cc h)

  alone-now : (news : News) → IsNow (told_alone t p news m S)
  alone-now N.Response = of-now (find (W.is_under m.token) S.watches)
  alone-now N.Quiet = λ r e progress h. absurd (cc h)
  alone-now (N.Reset token) = λ r e progress h. absurd (cc h)
  alone-now N.Lost = λ r e progress h. absurd (cc h)

  pub starts-now : (news : News) (place : Bool) (v : Option Exchange) → IsNow (matter_by t p news place m S v)
  starts-now news place None = alone-now news
  starts-now (N.Reset token) place (Some f) = λ r e progress h. absurd (cc h)
  starts-now N.Quiet place (Some f) = valid-not (stale_in f.opening S.stales) place f (comes_to m S f)
  starts-now N.Response place (Some f) = valid-not (stale_in f.opening S.stales) place f (comes_to m S f)
  starts-now N.Lost place (Some f) = valid-not (stale_in f.opening S.stales) place f (comes_to m S f)

pub ids-with : (t : ℕ) (x : Matter) (n : Numbers) (s u : LinkState) → HasMids u → mids_in_use t u ≡ mids_in_use t s
    → ((e : Exchange) (progress : Progress) → goes_with x ≡ Some (e, progress) → mids_in_use t s < MAX_MESSAGE_IDS) → HasMids (link_with t (more_by n x) u)
ids-with t Nothing n s u h same few = h
ids-with t (Tells r stored) n s u h same few = h
ids-with t (Over e how) n s u h same few = h
ids-with t (Starts r e progress) n s u h same few =
    let less = few e progress refl in enough-ids t u (waits n.token n.text n.word) h (omega arith) (omega (arith, less, same))
ids-with t (Goes e progress) n s u h same few =
    let less = few e progress refl in enough-ids t u (waits n.token n.text n.word) h (omega arith) (omega (arith, less, same))

pub early-after : (tick : ℕ) (ends : Bool) (v : Option Outstanding) (ws : List Waiting) (o : Outstanding) → IsUndue tick v ws → cond ends None v ≡ Some o → tick < due_of o
early-after tick true v ws o h e = cc
early-after tick false v ws o h e = subst (λ (k : Option Outstanding). IsUndue tick k ws) e h

-- What an exchange asks about has few pieces.
pub tells-few : {start : Start} (l : List Noted) (t : ℕ) (p : Peer) (d : List ℕ) (mess : Content) (S : State) → Reads l S → (e : Exchange) → ExchangeIn start l e → (real : Ending)
    → EndsAs (heard_entry l t p d mess ∷ l) e.opening (length l) real → TellsFew real
tells-few l t p d mess S r e a (Renewed s u) ends =
    let x = heard_entry l t p d mess in
    let was = ends-renewed (x ∷ l) e.opening (length l) s u ends in
    let keeps : kept_of l e.opening ≡ Some s = subst (λ (k : List Noted). kept_of k e.opening ≡ Some s) (before-new x l) was.turned.keeps in
    kept-few l e.opening _ s r.legal (renews-for l e.opening _ s r.legal a.opening keeps)
tells-few l t p d mess S r e a (Whole w rs) ends = tt
tells-few l t p d mess S r e a NotUnderstood ends = tt
tells-few l t p d mess S r e a ResetSo ends = tt
tells-few l t p d mess S r e a TimedOut ends = tt
tells-few l t p d mess S r e a Turned ends = tt
