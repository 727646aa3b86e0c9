-- An exchange that begins with the first piece of an update.
use Rattle.std.proofs.Common.{◌≡◌, ℕ, Bool, true, false, not, cond, List, [], ◌∷◌, ◌++◌, length, Option, Some, None, Result, Ok, Err, refl, sym, ap, subst, ◌∙◌, ◌-◌, ltb, arith, ◌&&◌, ◌≤◌, ◌<◌}
use Rattle.message_layer.specs.declared.verdict.Verdict.{Verdict}
use Rattle.limits.specs.declared.TheConstants.{MAX_EXCHANGES, MAX_MESSAGE_IDS, MAX_WAITING}
use Rattle.std.proofs.lemmas.Bool.{and_parts, and_from}
use Rattle.std.proofs.lemmas.Bool.Decides.{Decides-ltb}
use Rattle.std.specs.Prelude.{is_none, is_some, map, IfOk}
use Rattle.coap_codec.specs.Spelling.{Content, Spells}
use Rattle.coap_codec.specs.declared.block.Block.{Block}
use Rattle.uri_map.specs.declared.peer.Peer.{Peer}
use Rattle.blockwise.specs.declared.fault.BlockFault.{BlockFault}
use Rattle.blockwise.specs.declared.fault.BlockFault.TheVariants as Fault
use Rattle.blockwise.specs.declared.pieces.Step.{Step}
use Rattle.blockwise.specs.declared.pieces.Step.TheVariants.{Next, Last}
use Rattle.blockwise.specs.Downloads.{judged, judged_by, no_pieces, with_piece}
use Rattle.ask_model.specs.Datagrams.{block_or_first}
use Rattle.ask_model.specs.Requests.{CoapRequest, Plainly, block_message}
use Rattle.observe_share.specs.declared.registration.Registration.{Registration}
use Rattle.observe_share.specs.declared.notice.Notice.TheVariants.{Update}
use Rattle.message_layer.specs.Values.{LinkState, LinkValue}
use Rattle.message_layer.specs.Sending.{HasPlace, mids_in_use}
use Rattle.cache_key.specs.Keys.{CacheKey}
use Rattle.message_layer.specs.declared.prepared.Heeding.{Heeding}
use Rattle.message_layer.specs.declared.prepared.Submission.{Submission}
use Rattle.history_laws.specs.Observing.{as_first, first_reply}
use Rattle.history_laws.specs.Progress.{Reply, Progress, Fetches, Gives, Ends, NotUnderstood, fetched_by, next_message}
use Rattle.history_laws.specs.Responses.{is_tellable}
use Rattle.history_laws.proofs.CallerLemmas.{all-more, none-some, some-is}
use Rattle.exchange_model.specs.declared.kept.Exchange.{Exchange}
use Rattle.exchange_model.specs.declared.kept.Work.{Work}
use Rattle.exchange_model.specs.declared.kept.Work.TheVariants as W
use Rattle.exchange_model.specs.State.{State, link_of}
use Rattle.exchange_model.specs.Calls.{goes_with}
use Rattle.exchange_model.specs.Laws.{IsContinued}
use Rattle.exchange_model.specs.Matters.{Starts, Tells, asked_in, may_start, progress_with, starting, told_so, work_by, has_place, has_next_place, is_reading}
use Rattle.exchange_model.specs.Hearing.{Numbers, outdated_by}
use Rattle.exchange_model.proofs.CallerLemmas.{all-map}
use Rattle.history_laws.specs.Numbering.{token_number}
use Rattle.exchange_table.specs.Tables.{IsLatest, number_of}
use Rattle.journal_book.specs.Entries.{Written}
use Rattle.exchange_progress.specs.declared.coming.Onward.{Onward}
use Rattle.exchange_progress.specs.Coming.{IsOnward, block_in, first_got}
use Rattle.exchange_core.specs.declared.matter.Matter.{Matter as RustMatter}
use Rattle.exchange_core.specs.declared.matter.Matter.TheVariants as M
use Rattle.exchange_core.specs.Matters.{IsNextFor, IsNextToken, IsPrepared}
use Rattle.exchange_core.specs.Notifying.{IsStarted, has_link_place, started, starting_with}
use Rattle.exchange_core.proofs.MatterBy.{next-with}
use Rattle.exchange_core.proofs.Notified.{told-goes}

-- What comes first has a first reply where it goes on.
abbrev pub HasFirst : Progress → Type 0
HasFirst (Fetches restarts pieces got) = is_none (first_got got) ≡ false
HasFirst (Gives upload got) = is_none (first_got got) ≡ false
HasFirst (Ends how) = Unit {0}

unchanged : (a b c : Bool) → cond a (Some Fault.Size) (cond b (Some Fault.Gap) (cond c (Some Fault.TooLarge) None)) ≡ Some Fault.Changed → ⊥
unchanged true b c e = cc
unchanged false true c e = cc
unchanged false false true e = cc
unchanged false false false e = cc

judged-has : (v : Option BlockFault) → (v ≡ Some Fault.Changed → ⊥) → (s : Step) (m : Content) (r : Reply)
    → HasFirst (fetched_by (judged_by v s) 0 (with_piece no_pieces m) (r ∷ []))
judged-has None other (Next b) m r = refl
judged-has None other Last m r = tt
judged-has (Some Fault.Changed) other s m r = absurd (other refl)
judged-has (Some Fault.Size) other s m r = tt
judged-has (Some Fault.Gap) other s m r = tt
judged-has (Some Fault.TooLarge) other s m r = tt
judged-has (Some Fault.Memory) other s m r = tt

pub first-has : (n : ℕ) (m : Content) → HasFirst (as_first n 0 m)
first-has n m = by (is_tellable m)
  where
    r : Reply
    r = first_reply n 0 m

    by : (b : Bool) → HasFirst (cond b (fetched_by (judged no_pieces m) 0 (with_piece no_pieces m) (r ∷ [])) (Ends NotUnderstood))
    by true = judged-has _ (unchanged _ _ _) _ m r
    by false = tt

with-first : (w : Work) (got : List Reply) → HasFirst (progress_with w got) → is_none (first_got got) ≡ false
with-first (W.Fetches restarts pieces) got h = h
with-first (W.Gives upload) got h = h

none-not : (b : Option Block) → is_none b ≡ false → is_some b ≡ true
none-not None e = absurd (cc e)
none-not (Some b) e = refl

-- Where there is a place for one exchange more, there is one for its message after any datagram.
next-less : (n most : ℕ) (ends : Bool) → ltb n most ≡ true → ltb (n - cond ends 1 0) most ≡ true
next-less n most true lt = let less = (Decides-ltb n most).0 lt in (Decides-ltb (n - 1) most).1 (omega (arith, less))
next-less n most false lt = let less = (Decides-ltb n most).0 lt in (Decides-ltb (n - 0) most).1 (omega (arith, less))

pub next-place : (t : ℕ) (p : Peer) (v : Verdict) (S : State) (b : Bool) → (has_place t p S && b) ≡ true → has_next_place t p v S ≡ true
next-place t p v S b may =
    let free = (and_parts (has_place t p S) b may).0 in
    let link = and_parts (ltb (length (link_of S.links p).waiting) MAX_WAITING) _ (and_parts (ltb (length S.exchanges) MAX_EXCHANGES) _ free).1 in
    and_from _ _ (next-less (length (link_of S.links p).waiting) MAX_WAITING v.ends link.0) link.1

-- It names the block after the first.
pub names-next : (o : Onward) (n : ℕ) (m : Content) → IsOnward o (as_first n 0 m) → is_some o.block ≡ true
names-next o n m h =
    none-not o.block (h.anew ∙ with-first o.work h.got (subst HasFirst h.is (first-has n m)))

works : (w : Work) (got : List Reply) (old : Work) → work_by (progress_with w got) old ≡ w
works (W.Fetches restarts pieces) got old = refl
works (W.Gives upload) got old = refl

named-so : (q : CoapRequest) (b : Option Block) → is_some b ≡ true → block_or_first q b ≡ b
named-so q None e = absurd (cc e)
named-so q (Some b) e = refl

module _ (t word : ℕ) (p : Peer) (link : LinkValue) (x : Heeding) (S : State) (token : List ℕ) (fresh : IsNextToken word token S) where
  pub starts-prepared : (k : RustMatter) (r : Registration) (v : ℕ) (m : Content) (o : Onward) (q : CoapRequest)
      → IsOnward o (as_first (length S.entries) 0 m) → may_start t p r S ≡ true
      → asked_in S.entries r.opening ≡ Some q → IsStarted t word token p link x q r o S k
      → IsPrepared t word link x S k (told_so t p S r (Update v) (as_first (length S.entries) 0 m))
  starts-prepared k r v m o q h free asked made =
      let n : ℕ = length S.entries in
      let u : Progress = as_first n 0 m in
      let s : Submission = made.0 in
      let next = made.2 in
      let some : is_some o.block ≡ true = names-next o n m h in
      let e : Exchange = starting t p r u S in
      let new : Numbers = record { token = token; text = next.text; word = word } in
      let is : told_so t p S r (Update v) u ≡ Starts r e u =
      told-goes t p S r v u o.work h.got h.is ∙ ap (λ (b : Bool). cond b (Starts r e u) (Tells r None)) free in
      let same : e ≡ record (started t p r token o.work n) { token = [] } =
      ap (λ (w : Work). record (started t p r token w n) { token = [] }) (ap (λ (y : Progress). work_by y (W.Fetches 0 no_pieces)) h.is ∙ works o.work h.got (W.Fetches 0 no_pieces)) in
      let continued : IsContinued e u new S = record {
        request = q;
        asked = asked;
        message = block_message q (block_in o.work) 0 token;
        next = ap (λ (y : Progress). next_message Plainly q y 0 token) h.is ∙ next-with q o.work h.got token;
        spelled = subst (λ (b : Option Block). Spells (block_message q b 0 token) next.text) (named-so q o.block some ∙ h.block) next.spelled;
        token_size = fresh.token_size;
        number = fresh.number;
      } in
      subst (λ (j : RustMatter). IsPrepared t word link x S j (told_so t p S r (Update v) u)) (sym made.1)
      (record {
        numbers = new;
        worded = record { word_is = refl; token_size = fresh.token_size; number = fresh.number; random = fresh.random };
        is = (r, u, is ∙ ap (λ (y : Exchange). Starts r y u) same, refl, refl, h, some, refl, refl, refl, next.prepared.waiting);
        continued = λ f w g. subst (λ (y : Exchange × Progress). IsContinued y.0 y.1 new S) (some-is (e, u) (f, w) (sym (ap goes_with is) ∙ g)) continued;
        short = λ f w g. next.short;
        follows = next.prepared.ready;
      })

  pub begins-prepared : {E : Type 0} (z : Result RustMatter E) (r : Registration) (v n : ℕ) (m : Content) (o : Onward) (q : CoapRequest)
      → n ≡ length S.entries → IsOnward o (as_first n 0 m) → may_start t p r S ≡ true
      → asked_in S.entries r.opening ≡ Some q
      → IfOk z (λ (k : RustMatter). IsStarted t word token p link x q r o S k)
      → IfOk z (λ (k : RustMatter). IsPrepared t word link x S k (told_so t p S r (Update v) (as_first (length S.entries) 0 m)))
  begins-prepared (Ok k) r v n m o q at h free asked made =
      starts-prepared k r v m o q (subst (λ (j : ℕ). IsOnward o (as_first j 0 m)) at h) free asked made
  begins-prepared (Err e) r v n m o q at h free asked made = tt

-- its value

pub starts-as : (t n m : ℕ) (p : Peer) (r : Registration) (k : CacheKey) (e : Exchange) (o : Onward) (token : List ℕ) (s : Submission)
    → k ≡ r.key → e ≡ started t p r token o.work n → n ≡ m
    → M.Starts (record { key = k; watch = r.token; going = record { exchange = e; onward = o; token = token; submission = s } })
    ≡ M.Starts (starting_with r (started t p r token o.work m) o token s)
starts-as t n m p r k e o token s key is at = rw (key, is, at) refl

pub some-asked : (v : Option CoapRequest) → is_some v ≡ true → (q : CoapRequest) × (v ≡ Some q)
some-asked None h = absurd (cc h)
some-asked (Some q) h = (q, refl)

-- a place for a message

full-queue : (n m : ℕ) (b : Bool) → n ≤ m → false ≡ (ltb m n && b)
full-queue n m b le = by (ltb m n) refl
  where
    by : (c : Bool) → ltb m n ≡ c → false ≡ (c && b)
    by true e = let lt = (Decides-ltb m n).0 e in absurd (omega (arith, lt, le))
    by false e = refl

full-after : (n m : ℕ) (b : Bool) → n ≤ m → false ≡ (b && ltb m n)
full-after n m true le = full-queue n m true le ∙ by (ltb m n)
  where
    by : (c : Bool) → (c && true) ≡ c
    by true = refl
    by false = refl
full-after n m false le = refl

pub no-place : (t : ℕ) (s : LinkState) → MAX_WAITING ≤ length s.waiting → false ≡ has_link_place t s
no-place t s le = full-queue MAX_WAITING (length s.waiting) (ltb (mids_in_use t s) MAX_MESSAGE_IDS) le

pub no-number : (t : ℕ) (s : LinkState) → MAX_MESSAGE_IDS ≤ mids_in_use t s → false ≡ has_link_place t s
no-number t s le = full-after MAX_MESSAGE_IDS (mids_in_use t s) (ltb (length s.waiting) MAX_WAITING) le

pub both-places : (t : ℕ) (s : LinkState) → HasPlace t s → true ≡ has_link_place t s
both-places t s h =
    sym (and_from (ltb (length s.waiting) MAX_WAITING) (ltb (mids_in_use t s) MAX_MESSAGE_IDS)
    ((Decides-ltb (length s.waiting) MAX_WAITING).1 h.0) ((Decides-ltb (mids_in_use t s) MAX_MESSAGE_IDS).1 h.1))

-- What is out of date stays in its place.

pub outdated-latest : (ws : List Written) (key : CacheKey) (e : Exchange) (es : List Exchange) → IsLatest e es → IsLatest e (map (outdated_by ws key) es)
outdated-latest ws key e es h = record {
  opening = all-map (outdated_by ws key) (λ (f : Exchange). f.opening < e.opening) es
      (all-more (λ (f : Exchange). f.opening < e.opening) (λ (f : Exchange). (outdated_by ws key f).opening < e.opening) opens es h.opening);
  token = all-map (outdated_by ws key) (λ (f : Exchange). number_of f < token_number e.token) es
      (all-more (λ (f : Exchange). number_of f < token_number e.token) (λ (f : Exchange). number_of (outdated_by ws key f) < token_number e.token) issued es h.token);
}
  where
    opens : (x : Exchange) → x.opening < e.opening → (outdated_by ws key x).opening < e.opening
    opens x lt = by (is_reading ws key x)
      where
        by : (b : Bool) → (cond b (record x { newest = false }) x).opening < e.opening
        by true = lt
        by false = lt

    issued : (x : Exchange) → number_of x < token_number e.token → number_of (outdated_by ws key x) < token_number e.token
    issued x lt = by (is_reading ws key x)
      where
        by : (b : Bool) → number_of (cond b (record x { newest = false }) x) < token_number e.token
        by true = lt
        by false = lt
