-- What a message is to the exchanges, by what its link tells of it.
use Rattle.std.proofs.Common.{◌≡◌, ◌⊎◌, inl, inr, ℕ, Bool, true, false, cond, List, [], length, Option, Some, None, refl, sym, ap, subst, ◌∙◌}
use Rattle.std.specs.Prelude.{find, is_none, is_some, IfSome}
use Rattle.std.proofs.lemmas.Bool.{false≢true}
use Rattle.std.specs.List.{AllByRecursion, Contains}
use Rattle.coap_codec.specs.Spelling.{Content, Spells}
use Rattle.coap_codec.specs.declared.block.Block.{Block}
use Rattle.uri_map.specs.declared.peer.Peer.{Peer}
use Rattle.ask_model.specs.Requests.{CoapRequest, Sense, Requests, Refuses, Plainly, asking, block_message}
use Rattle.journal_book.specs.Entries.{Written}
use Rattle.message_layer.specs.Values.{LinkValue, Told, no_news, response, was_reset, timed_out, was_dropped}
use Rattle.message_layer.specs.Hearing.{says}
use Rattle.message_layer.specs.Prepared.{IsUnnumberedCon, MayFollow}
use Rattle.exchange_model.specs.Calls.{goes_with}
use Rattle.message_layer.specs.declared.prepared.Heeding.{Heeding}
use Rattle.message_layer.specs.declared.prepared.Submission.{Submission}
use Rattle.message_layer.specs.declared.verdict.News.{News}
use Rattle.message_layer.specs.declared.verdict.News.TheVariants as N
use Rattle.resp_cache.specs.Stored.{Stored}
use Rattle.history_laws.specs.Responses.{confirms}
use Rattle.history_laws.specs.Progress.{Reply, Ending, Renewed, Reset, Turned, Progress, Ends, block_after, next_message}
use Rattle.history_links.specs.Steps.{ended_token}
use Rattle.history_laws.proofs.CallerLemmas.{all-of, find-some, none-some, some-is}
use Rattle.exchange_model.specs.declared.kept.Exchange.{Exchange}
use Rattle.exchange_model.specs.declared.kept.Work.{Work}
use Rattle.exchange_model.specs.declared.kept.Work.TheVariants as W
use Rattle.exchange_model.specs.State.{State}
use Rattle.exchange_model.specs.Steps.{is_under, reply_at}
use Rattle.exchange_model.specs.Matters.{Matter, Nothing, Goes, Over, answered_in, asked_in, comes_to, fetched_in, has_next_place, matter_by, progress_with, replied, request_in, stale_in, told_alone, unless_valid}
use Rattle.exchange_model.specs.Hearing.{Numbers}
use Rattle.exchange_model.specs.Laws.{IsContinued}
use Rattle.exchange_progress.specs.Coming.{IsComing, IsEnded, block_in, comes_by, is_fetched}
use Rattle.exchange_model.specs.Growing.{IsWorkOf}
use Rattle.exchange_model.proofs.CallerLemmas.{comes-get}
use Rattle.ask_model.specs.Datagrams.{IsSentFor, block_named, block_or_first}
use Rattle.exchange_progress.specs.declared.coming.Coming.{Coming}
use Rattle.exchange_progress.specs.declared.coming.Coming.TheVariants as Comes
use Rattle.exchange_progress.specs.declared.coming.Ended.{Ended}
use Rattle.exchange_progress.specs.declared.coming.Ended.TheVariants as How
use Rattle.exchange_progress.specs.declared.coming.Onward.{Onward}
use Rattle.exchange_core.specs.declared.matter.Matter.{Matter as RustMatter}
use Rattle.exchange_core.specs.declared.matter.Matter.TheVariants as M
use Rattle.exchange_core.specs.Notifying.{is_alone, matter_alone}
use Rattle.exchange_core.specs.Matters.{Answer, IsAnsweredSo, IsAskedFor, IsFewTimes, IsMatter, IsNextFor, IsNextToken, IsPrepared, more_in, answer_in, comes_or_renews, matter_for, matter_with, replied_to}
use Rattle.exchange_core.specs.Renewing.{unless_confirmed}

-- it is the same as by the news

-- where what it asks about is valid still it ends, whatever it would come to
unless-valid : (v : Option Stored) (m : Content) (S : State) (e : Exchange) (place : Bool) (u : Progress)
    → unless_valid v m S e (replied place e u) ≡ replied place e (unless_confirmed v (length S.entries) m u)
unless-valid None m S e place u = refl
unless-valid (Some s) m S e place u = by (confirms s.response.etag m)
  where
    by : (b : Bool) → cond b (Over e (Renewed s (reply_at (length S.entries) m))) (replied place e u)
        ≡ replied place e (cond b (Ends (Renewed s (reply_at (length S.entries) m))) u)
    by true = refl
    by false = refl

pub matter-told : (t : ℕ) (p : Peer) (v : News) (m : Content) (b : Bool) (S : State)
    → matter_by t p v b m S (answered_in (ended_token v m.token) S.exchanges)
    ≡ cond (is_alone (says v m) m.token S.exchanges) (matter_alone t p (says v m) S) (matter_with b (answer_in (says v m) m.token S))
matter-told t p N.Quiet m b S = refl
matter-told t p N.Lost m b S = refl
matter-told t p N.Response m b S = by (find (is_under m.token) S.exchanges)
  where
    by : (v : Option Exchange) → matter_by t p N.Response b m S v ≡ cond (is_none v) (told_alone t p N.Response m S) (matter_with b (replied_to v (comes_or_renews m S)))
    by None = refl
    by (Some e) = unless-valid (stale_in e.opening S.stales) m S e b (comes_to m S e)
matter-told t p (N.Reset of) m b S = by (find (is_under of) S.exchanges)
  where
    by : (v : Option Exchange) → matter_by t p (N.Reset of) b m S v ≡ matter_with b (replied_to v (λ e. Ends Reset))
    by None = refl
    by (Some e) = refl

-- the exchange that is answered

abbrev exchange_in : Answer → Exchange
exchange_in a = a.exchange

found-stands : (v : Option Exchange) (token : List ℕ) (es : List Exchange) (comes : Exchange → Progress) (a : Answer) → find (is_under token) es ≡ v
    → replied_to v comes ≡ Some a → Contains es a.exchange
found-stands None token es comes a is e = absurd (none-some a e)
found-stands (Some x) token es comes a is e =
    subst (λ (y : Exchange). Contains es y) (ap exchange_in (some-is (record { exchange = x; progress = comes x }) a e)) (find-some (is_under token) es x is).0

pub answer-stands : (told : Told) (token : List ℕ) (S : State) (a : Answer) → answer_in told token S ≡ Some a → Contains S.exchanges a.exchange
answer-stands (response m) token S a e = found-stands (find (is_under token) S.exchanges) token S.exchanges (comes_or_renews m S) a refl e
answer-stands (was_reset of) token S a e = found-stands (find (is_under of) S.exchanges) of S.exchanges (λ x. Ends Reset) a refl e
answer-stands no_news token S a e = absurd (none-some a e)
answer-stands (timed_out of) token S a e = absurd (none-some a e)
answer-stands was_dropped token S a e = absurd (none-some a e)

pub found-in : (q : Exchange → Bool) (es : List Exchange) (e : Exchange) → find q es ≡ Some e → Contains es e
found-in q es e is = (find-some q es e is).0

pub few-found : (q : Exchange → Bool) (es : List Exchange) (e : Exchange) → AllByRecursion IsFewTimes es → find q es ≡ Some e → IsFewTimes e
few-found q es e all is = all-of IsFewTimes es e all (found-in q es e is)

-- what is found

pub response-some : (n : ℕ) (m : Content) (token : List ℕ) (S : State) (e : Exchange) (c : Coming) → find (is_under token) S.exchanges ≡ Some e → n ≡ length S.entries
    → IsComing n c (unless_confirmed (stale_in e.opening S.stales) n m (comes_by S.entries S.pieces e n m))
    → IsAnsweredSo (length S.entries) e c (answer_in (response m) token S)
response-some n m token S e c is number comes =
    let u : ℕ → Progress = λ k. unless_confirmed (stale_in e.opening S.stales) k m (comes_by S.entries S.pieces e k m) in (
      u (length S.entries),
      ap (λ (v : Option Exchange). replied_to v (comes_or_renews m S)) is,
      subst (λ (k : ℕ). IsComing k c (u k)) number comes,
    )

pub reset-none : (of token : List ℕ) (S : State) → find (is_under of) S.exchanges ≡ None → answer_in (was_reset of) token S ≡ None
reset-none of token S e = ap (λ (v : Option Exchange). replied_to v (λ x. Ends Reset)) e

pub reset-some : (n : ℕ) (of token : List ℕ) (S : State) (e : Exchange) (x : Ended) → find (is_under of) S.exchanges ≡ Some e → n ≡ length S.entries → IsEnded n x Reset
    → IsAnsweredSo (length S.entries) e (Comes.Ends x) (answer_in (was_reset of) token S)
reset-some n of token S e x is number ended = (
  Ends Reset,
  ap (λ (v : Option Exchange). replied_to v (λ y. Ends Reset)) is,
  (Reset, refl, subst (λ (k : ℕ). IsEnded k x Reset) number ended),
)

-- what is prepared of it

-- What neither goes on nor begins has no next message.
still-goes : (x : Matter) (e : Exchange) (u : Progress) → goes_with x ≡ None → goes_with x ≡ Some (e, u) → ⊥
still-goes x e u still h = none-some (e, u) (sym still ∙ h)

pub prepared-still : (t word : ℕ) (link : LinkValue) (x : Heeding) (S : State) (token : List ℕ) (k : RustMatter) (matter : Matter) → IsNextToken word token S
    → goes_with matter ≡ None → more_in k ≡ None → ((new : Numbers) → IsMatter (length S.entries) new k matter)
    → IsPrepared t word link x S k matter
prepared-still t word link x S token k matter fresh still none is =
    let n : Numbers = record { token = token; text = []; word = word } in
    record {
      numbers = n;
      worded = fresh;
      is = is n;
      continued = λ e u h. absurd (still-goes matter e u still h);
      short = λ e u h. absurd (still-goes matter e u still h);
      follows = subst (MayFollow t link x) (sym none) tt;
    }

pub goes-exchange : (f e : Exchange) (v u : Progress) → Goes f v ≡ Goes e u → f ≡ e
goes-exchange f e v u h = cc

pub goes-progress : (f e : Exchange) (v u : Progress) → Goes f v ≡ Goes e u → v ≡ u
goes-progress f e v u h = cc

-- what comes of a reply

abbrev pub ComesBy : State → Exchange → Progress → Type 0
ComesBy S e u = ((how : Ending) × (u ≡ Ends how)) ⊎ ((m : Content) × (u ≡ comes_to m S e))

comes-so : (v : Option Stored) (S : State) (m : Content) (x : Exchange) → ComesBy S x (unless_confirmed v (length S.entries) m (comes_to m S x))
comes-so None S m x = inr (m, refl)
comes-so (Some s) S m x = by (confirms s.response.etag m)
  where
    by : (b : Bool) → ComesBy S x (cond b (Ends (Renewed s (reply_at (length S.entries) m))) (comes_to m S x))
    by true = inl (Renewed s (reply_at (length S.entries) m), refl)
    by false = inr (m, refl)

comes-found : (v : Option Exchange) (S : State) (m : Content) (a : Answer) → replied_to v (comes_or_renews m S) ≡ Some a → ComesBy S a.exchange a.progress
comes-found None S m a e = absurd (none-some a e)
comes-found (Some x) S m a e =
    subst (λ (a : Answer). ComesBy S a.exchange a.progress) (some-is (record { exchange = x; progress = comes_or_renews m S x }) a e)
    (comes-so (stale_in x.opening S.stales) S m x)

reset-found : (v : Option Exchange) (S : State) (a : Answer) → replied_to v (λ x. Ends Reset) ≡ Some a → ComesBy S a.exchange a.progress
reset-found None S a e = absurd (none-some a e)
reset-found (Some x) S a e =
    subst (λ (a : Answer). ComesBy S a.exchange a.progress) (some-is (record { exchange = x; progress = Ends Reset }) a e) (inl (Reset, refl))

pub comes-by : (told : Told) (token : List ℕ) (S : State) (a : Answer) → answer_in told token S ≡ Some a → ComesBy S a.exchange a.progress
comes-by (response m) token S a e = comes-found (find (is_under token) S.exchanges) S m a e
comes-by (was_reset of) token S a e = reset-found (find (is_under of) S.exchanges) S a e
comes-by no_news token S a e = absurd (none-some a e)
comes-by (timed_out of) token S a e = absurd (none-some a e)
comes-by was_dropped token S a e = absurd (none-some a e)

ends-not : (how : Ending) (w : Work) (got : List Reply) → Ends how ≡ progress_with w got → ⊥
ends-not how (W.Fetches restarts pieces) got e = cc
ends-not how (W.Gives upload) got e = cc

-- A message that names no block is that of a GET.
named-by : (S : State) (q : CoapRequest) (block : Option Block) (w : Work) (got : List Reply) (e : Exchange) {u : Progress} → ComesBy S e u → u ≡ progress_with w got
    → block ≡ block_in w → (is_none block ≡ true → is_fetched w ≡ true) → IsWorkOf q e.work → IsFewTimes e
    → block_or_first q block ≡ block_in w
named-by S q (Some b) w got e comes is at fetches of few = at
named-by S q None (W.Gives upload) got e comes is at fetches of few = absurd (false≢true (fetches refl))
named-by S q None (W.Fetches restarts pieces) got e (inl ends) is at fetches of few = absurd (ends-not ends.0 (W.Fetches restarts pieces) got (sym ends.1 ∙ is))
named-by S q None (W.Fetches restarts pieces) got e (inr came) is at fetches of few =
    let get = comes-get q e.work (fetched_in S.entries e.opening S.pieces) got (reply_at (length S.entries) came.0) restarts pieces of few (sym came.1 ∙ is) in
    rw (get) at

-- what has come so far goes on

goes-with : (place : Bool) (e : Exchange) (w : Work) (got : List Reply) → place ≡ true → replied place e (progress_with w got) ≡ Goes e (progress_with w got)
goes-with true e (W.Fetches restarts pieces) got is = refl
goes-with true e (W.Gives upload) got is = refl
goes-with false e w got is = absurd (false≢true is)

turned-with : (place : Bool) (e : Exchange) (w : Work) (got : List Reply) → place ≡ false → replied place e (progress_with w got) ≡ Over e Turned
turned-with false e (W.Fetches restarts pieces) got is = refl
turned-with false e (W.Gives upload) got is = refl
turned-with true e w got is = absurd (false≢true (sym is))

pub next-with : (q : CoapRequest) (w : Work) (got : List Reply) (token : List ℕ) → next_message Plainly q (progress_with w got) 0 token ≡ Some (block_message q (block_in w) 0 token)
next-with q (W.Fetches restarts pieces) got token = plain (block_after pieces)
  where
    plain : (b : Option Block) → Some (asking Plainly q b 0 token) ≡ Some (block_message q b 0 token)
    plain None = refl
    plain (Some b) = refl
next-with q (W.Gives upload) got token = refl

module _ (t word : ℕ) (p : Peer) (link : LinkValue) (x : Heeding) (told : Told) (S : State) (token : List ℕ) (fresh : IsNextToken word token S) where
  abbrev place : Bool
  place = has_next_place t p x.verdict S

  pub prepared-nothing : answer_in told x.token S ≡ None → IsPrepared t word link x S M.Nothing (matter_for t p x told S)
  prepared-nothing none =
      let is : matter_for t p x told S ≡ Nothing = ap (matter_with place) none in
      prepared-still t word link x S token M.Nothing (matter_for t p x told S) fresh (ap goes_with is) refl (λ new. is)

  over-by : (e : Exchange) (ended : Ended) (how : Ending) → matter_for t p x told S ≡ Over e how → IsEnded (length S.entries) ended how
      → IsPrepared t word link x S (M.Over e ended) (matter_for t p x told S)
  over-by e ended how is ends =
      prepared-still t word link x S token (M.Over e ended) (matter_for t p x told S) fresh (ap goes_with is) refl (λ new. (how, is, ends))

  pub prepared-ends : (e : Exchange) (ended : Ended) → IsAnsweredSo (length S.entries) e (Comes.Ends ended) (answer_in told x.token S)
      → IsPrepared t word link x S (M.Over e ended) (matter_for t p x told S)
  prepared-ends e ended h =
      over-by e ended h.2.0 (ap (matter_with place) h.1 ∙ ap (replied place e) h.2.1) h.2.2

  pub prepared-turned : (e : Exchange) (o : Onward) → place ≡ false → IsAnsweredSo (length S.entries) e (Comes.Goes o) (answer_in told x.token S)
      → IsPrepared t word link x S (M.Over e How.Turned) (matter_for t p x told S)
  prepared-turned e o full h =
      over-by e How.Turned Turned (ap (matter_with place) h.1 ∙ (ap (replied place e) h.2.is ∙ turned-with place e o.work h.2.got full)) refl

  pub prepared-goes : (e : Exchange) (o : Onward) (q : CoapRequest) (s : Submission) → AllByRecursion IsFewTimes S.exchanges → AllByRecursion (IsAskedFor S.entries) S.exchanges
      → place ≡ true → asked_in S.entries e.ask ≡ Some q
      → IsNextFor t word link x q o.block token s
      → IsAnsweredSo (length S.entries) e (Comes.Goes o) (answer_in told x.token S)
      → IsPrepared t word link x S (M.Goes (record { exchange = e; onward = o; token = token; submission = s })) (matter_for t p x told S)
  prepared-goes e o q s few worked free asked next h =
      let u : Progress = progress_with o.work h.2.got in
      let is : matter_for t p x told S ≡ Goes e u =
      ap (matter_with place) h.1 ∙ (ap (replied place e) h.2.is ∙ goes-with place e o.work h.2.got free) in
      let n : Numbers = record { token = token; text = next.text; word = word } in
      let made : IsContinued e u n S = record {
        request = q;
        asked = asked;
        message = block_message q (block_in o.work) 0 token;
        next = next-with q o.work h.2.got token;
        spelled = subst (λ (b : Option Block). Spells (block_message q b 0 token) next.text) named next.spelled;
        token_size = fresh.token_size;
        number = fresh.number;
      } in
      record {
        numbers = n;
        worded = record { word_is = refl; token_size = fresh.token_size; number = fresh.number; random = fresh.random };
        is = (u, is, record { got = h.2.got; is = refl; block = h.2.block; anew = h.2.anew; fetches = h.2.fetches }, refl, next.prepared.waiting);
        continued = λ f v k.
            subst (λ (y : Exchange × Progress). IsContinued y.0 y.1 n S) (some-is (e, u) (f, v) (sym (ap goes_with is) ∙ k)) made;
        short = λ f v k. next.short;
        follows = next.prepared.ready;
      }
    where
      stands : Contains S.exchanges e
      stands = answer-stands told x.token S (record { exchange = e; progress = h.0 }) h.1

      named : block_or_first q o.block ≡ block_in o.work
      named =
          named-by S q o.block o.work h.2.got e (comes-by told x.token S (record { exchange = e; progress = h.0 }) h.1) h.2.is h.2.block h.2.fetches
          ((all-of (IsAskedFor S.entries) S.exchanges e worked stands).1 q asked) (all-of IsFewTimes S.exchanges e few stands)

-- the text of the next message

pub sent-for : (sense : Sense) (q : CoapRequest) (block : Option Block) (token text : List ℕ) → request_in sense ≡ Some q → IsSentFor sense (block_named sense block) 0 token (Some text)
    → Spells (block_message q (block_or_first q block) 0 token) text
sent-for (Requests r) q block token text is sent = subst (λ (k : CoapRequest). Spells (block_message k (block_or_first k block) 0 token) text) (some-is r q is) sent
sent-for (Refuses cause status) q block token text is sent = absurd (none-some q is)

pub none-sent : (sense : Sense) (block : Option Block) (token : List ℕ) → is_some (request_in sense) ≡ true → IsSentFor sense block 0 token None → ⊥
none-sent (Requests r) block token some sent = sent
none-sent (Refuses cause status) block token some sent = absurd (false≢true some)

pub unnumbered : (q : CoapRequest) (block : Option Block) (token text : List ℕ) → Spells (block_message q block 0 token) text → IsUnnumberedCon token text
unnumbered q None token text spelled = record { m = block_message q None 0 token; spelled = spelled; con = refl; under = refl; unnumbered = refl }
unnumbered q (Some b) token text spelled = record { m = block_message q (Some b) 0 token; spelled = spelled; con = refl; under = refl; unnumbered = refl }

pub sent-unnumbered : (sense : Sense) (block : Option Block) (token text : List ℕ) → IsSentFor sense block 0 token (Some text) → IsUnnumberedCon token text
sent-unnumbered (Requests r) block token text sent = unnumbered r block token text sent
sent-unnumbered (Refuses cause status) block token text sent = absurd (some-none text sent)
  where
    some-none : (x : List ℕ) → Some x ≡ None → ⊥
    some-none x e = cc

-- the request of the exchange that is answered

pub asked-for : (S : State) (e : Exchange) → AllByRecursion (IsAskedFor S.entries) S.exchanges → Contains S.exchanges e → is_some (asked_in S.entries e.ask) ≡ true
asked-for S e all stands = (all-of (IsAskedFor S.entries) S.exchanges e all stands).0

pub request-of : (ws : List Written) (e : Exchange) → is_some (asked_in ws e.ask) ≡ true → (q : CoapRequest) × (asked_in ws e.ask ≡ Some q)
request-of ws e some = by (asked_in ws e.ask) some
  where
    by : (v : Option CoapRequest) → is_some v ≡ true → (q : CoapRequest) × (v ≡ Some q)
    by None h = absurd (false≢true h)
    by (Some q) h = (q, refl)
