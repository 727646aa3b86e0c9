-- What is kept of open exchanges, for the program that goes on with them.
use Rattle.std.proofs.Common.{◌≡◌, ℕ, Bool, true, false, eqb, ◌&&◌, List, [], ◌∷◌, length, Option, Some, None, refl, sym, ap, subst, ◌∙◌, inl, inr}
use Rattle.history_laws.specs.Justified.{Legal}
use Rattle.std.specs.Prelude.{is_none}
use Rattle.std.specs.List.{AllByRecursion}
use Rattle.std.proofs.lemmas.Bool.{false≢true, and_parts}
use Rattle.std.proofs.lemmas.Bool.Decides.{Decides-eqb}
use Rattle.std.proofs.lemmas.List.{length-map}
use Rattle.coap_codec.specs.Spelling.{Content}
use Rattle.uri_map.specs.declared.peer.Peer.{Peer}
use Rattle.ask_model.specs.Requests.{CoapRequest}
use Rattle.ask_model.specs.Observing.{is_named, may_observe}
use Rattle.ask_model.specs.Sharing.{is_get}
use Rattle.message_layer.specs.Hearing.{verdict_of}
use Rattle.message_layer.specs.declared.verdict.News.TheVariants as N
use Rattle.history_laws.specs.Readings.{Noted, at, before, Note, Begins, Renews}
use Rattle.history_laws.specs.Exchanges.{end_of, is_going, replies, opens_by, Begun, begun}
use Rattle.history_laws.specs.Hearing.{is_update}
use Rattle.history_laws.specs.Observing.{as_first, is_some_of, notice_by, notice_in, unless_replied, version, wants_in, wants_by}
use Rattle.history_laws.specs.Progress.{Reply, numbers}
use Rattle.history_laws.proofs.CallerLemmas.{all-more, all-of, some-is, opened-for}
use Rattle.exchange_model.specs.declared.kept.Exchange.{Exchange}
use Rattle.exchange_model.specs.Keeping.{Kept}
use Rattle.exchange_model.specs.State.{State, link_of}
use Rattle.exchange_model.specs.Reads.{ExchangeIn, got_in}
use Rattle.exchange_model.specs.Matters.{asked_in, fetched_in, numbers_of}
use Rattle.exchange_model.proofs.Bare.{bare}
use Rattle.exchange_model.proofs.Comes.{fetched-same}
use Rattle.exchange_model.proofs.Lists.{each-of}
use Rattle.exchange_model.proofs.Opened.{OpenIn, open-ones}
use Rattle.exchange_model.proofs.Outrun.{asked-here}
use Rattle.exchange_model.proofs.Over.{reset-empty}
use Rattle.ask_model.specs.Views.{Ask}
use Rattle.journal_book.specs.Entries.{Asks}

-- One whose next message asks to observe is for a GET.
abbrev pub ReadsIt : State → Exchange → Type 0
ReadsIt S e = e.observes ≡ true → (q : CoapRequest) × (asked_in S.entries e.ask ≡ Some q) × (is_get q ≡ true)

wanted : (b : Bool) (rs : List Reply) → unless_replied b rs ≡ true → b ≡ true
wanted b [] e = e
wanted b (r ∷ rs) e = absurd (false≢true e)

-- What wants to observe may.
pub wants-may : (l : List Noted) (c : ℕ) (a : Ask) (note : Note) (q : CoapRequest) → opens_by note ≡ Some q → wants_by l (Asks c a) note ≡ true → may_observe a.rules q ≡ true
wants-may l c a (Begins r) q e so = subst (λ (v : CoapRequest). may_observe a.rules v ≡ true) (some-is r q e) (and_parts (may_observe a.rules r) _ so).0
wants-may l c a (Renews r s) q e so = absurd (false≢true so)
wants-may l c a note q e so = absurd (false≢true so)

-- Only for a GET does it ask to observe.
pub reads-get : (l : List Noted) (o : ℕ) (b : Begun) → Legal l → begun l o ≡ Some b → wants_in (before l o) (at l o) ≡ true → is_get b.request ≡ true
reads-get l o b legal opened wants = elim (opened-for l o b legal opened) [
  | inl it ↦
      (and_parts (is_get b.request) (is_named it.ask.rules.observed b.request.target.host)
      (wants-may (before l o) it.conn it.ask it.note b.request it.opens (subst (λ (v : Option Noted). wants_in (before l o) v ≡ true) it.stands wants))).0
  | inr it ↦ absurd (false≢true (subst (λ (v : Option Noted). wants_in (before l o) v ≡ true) it.stands wants))
]

pub asks-get : (S : State) → Kept S → AllByRecursion (ReadsIt S) S.exchanges
asks-get S k =
    let l = k.reading in let r = k.rests.reads in
    all-more (ExchangeIn r.start l) (ReadsIt S)
    (λ (e : Exchange) a observes.
    let wants : wants_in (before l e.opening) (at l e.opening) ≡ true = wanted _ (replies l e.opening) (a.observes ∙ observes) in
    (a.request, asked-here l S r e a, reads-get l e.opening _ r.legal a.opening wants))
    S.exchanges r.exchanges_are

-- Each of the replies by which it goes on stands in the entries.
none-of : {X : Type 0} (v : Option X) → is_none v ≡ true → v ≡ None
none-of None e = refl
none-of (Some x) e = absurd (false≢true e)

pub fetched-count : (S : State) → Kept S
    → AllByRecursion (λ (e : Exchange). length (fetched_in S.entries e.opening S.pieces) ≡ length (numbers_of e.opening S.pieces)) S.exchanges
fetched-count S k =
    let l = k.reading in let r = k.rests.reads in
    each-of (λ (e : Exchange). length (fetched_in S.entries e.opening S.pieces) ≡ length (numbers_of e.opening S.pieces)) S.exchanges
    (λ e has.
    let going : is_going l e.opening ≡ true = (all-of (OpenIn r.start l) S.exchanges e (open-ones l S r) has).1 in
    let own : numbers (got_in l e.opening) ≡ numbers_of e.opening S.pieces =
    all-of (λ (x : Exchange). numbers (got_in l x.opening) ≡ numbers_of x.opening S.pieces) S.exchanges e r.pieces_are.fetched has in
    let a = all-of (ExchangeIn r.start l) S.exchanges e r.exchanges_are has in
    ap length (fetched-same l S e _ r has a.opening (none-of (end_of l e.opening) going))
    ∙ (length-map (got_in l e.opening) bare
    ∙ (sym (length-map (got_in l e.opening) (λ (x : Reply). x.number)) ∙ ap length own)))

-- An RST is no update.
pub reset-notes : (t : ℕ) (p : Peer) (m : Content) (S : State) (of : List ℕ) → (verdict_of t (link_of S.links p) m).news ≡ N.Reset of
    → is_update (notice_in m) ≡ false
reset-notes t p m S of e =
    ap (λ (c : ℕ). is_update (notice_by (eqb c 69 && is_some_of (as_first 0 0 m)) (version m))) ((Decides-eqb m.code 0).0 (reset-empty [] t p m S of e))
