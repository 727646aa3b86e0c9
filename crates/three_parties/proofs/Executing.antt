-- A POST of a story that was answered by success was executed exactly once.
use Rattle.std.proofs.Common.{◌≡◌, ℕ, ◌≤◌, inl, inr, List, [], ◌∷◌, length, map, take, Option, Some, None, refl, sym, ap, subst, ◌∙◌, arith}
use Rattle.std.specs.Prelude.{slice_get, unwrap_or, Result, Ok, Err, IfOk}
use Rattle.std.specs.List.{AllByRecursion}
use Rattle.coap_codec.specs.Spelling.{Content, Spells}
use Rattle.coap_codec.proofs.Unique.{spells_one}
use Rattle.media_map.specs.declared.form.Form.{Form}
use Rattle.uri_map.specs.declared.peer.Peer.{Peer}
use Rattle.ask_model.specs.Requests.{CoapRequest}
use Rattle.ask_model.specs.Views.{Rules}
use Rattle.journal_book.specs.Entries.{Hears, Written}
use Rattle.history_laws.specs.Justified.{Stands}
use Rattle.history_laws.specs.Readings.{Note, noted, at}
use Rattle.history_laws.proofs.CallerLemmas.{at-entries, none-some, some-is}
use Rattle.history_claims.specs.Headline.{IsEntry}
use Rattle.history_claims.specs.Order.{AreSentFor, KeepsOrder}
use Rattle.demo_origin.specs.Calls.{Call}
use Rattle.demo_origin.specs.Done.{told_in}
use Rattle.demo_origin.specs.Once.{Event, heard, looked, gave}
use Rattle.demo_origin.specs.Origins.{fresh}
use Rattle.demo_origin.specs.Values.{Device, Relation}
use Rattle.demo_origin.specs.declared.execution.Taken.{Taken}
use Rattle.demo_origin.specs.declared.state.Held.{Held}
use Rattle.story_laws.specs.Executions.{Executes}
use Rattle.story_laws.specs.Lateness.{ArePunctual}
use Rattle.story_laws.specs.Networks.{IsDelivered, IsForeign, IsBrought, Networks, AreGiven}
use Rattle.story_laws.specs.Orders.{IsOrdered}
use Rattle.story_laws.specs.Posts.{IsDoneOnce, PostsOnce as Law}
use Rattle.story_laws.proofs.Apart.{one-answer, one-reply}
use Rattle.story_laws.proofs.Asked.{asked-once}
use Rattle.story_laws.proofs.Pacing.{AreTimely}
use Rattle.story_laws.proofs.Posting.{noted-at}
use Rattle.gateway_model.specs.Emissions.{Emission}
use Rattle.gateway_world.specs.Journals.{EachJournal}
use Rattle.three_parties.specs.Flights.{Going, device_at, proxy_at}
use Rattle.three_parties.specs.Promises.{IsOf, IsExecutedOnce, AreExecuted, AreExecutedApart, AreAtMostOnce, PostsOnce, PostsOnceInTime}
use Rattle.three_parties.specs.Scenes.{Scene}
use Rattle.three_parties.specs.Stories.{IsStory, opening}
use Rattle.three_parties.specs.Ticks.{LooksInTime}
use Rattle.three_parties.specs.declared.story.Execution.{Execution}
use Rattle.three_parties.specs.declared.turn.Turn.{Turn}
use Rattle.three_parties.proofs.Calls.{is-given, moment_then}
use Rattle.three_parties.proofs.Foreign.{IsApart, foreign}
use Rattle.three_parties.proofs.Bearing.{AreIssued}
use Rattle.three_parties.proofs.Knowing.{Known, known-none}
use Rattle.three_parties.proofs.Lists.{all-from, got-below, got-in}
use Rattle.three_parties.proofs.Looking.{AreAllTimely, in-time, punctual-in}
use Rattle.three_parties.proofs.Chapters.{ArePast, Chapter, IsGivenBefore, IsPast, IsSentBefore, taken_of}
use Rattle.three_parties.proofs.Orders.{given_in, now-past}
use Rattle.three_parties.proofs.Parts.{each-journal}
use Rattle.three_parties.proofs.Tales.{IsDone, IsDoneBy, Tale}
use Rattle.three_parties.proofs.Telling.{turns-told}

-- One journal of a story: which of the calls went before its entries, and that what the device heard of another one bears none of its tokens.
pub record Book (R : Relation) (first : Device) (s : Scene) (h : List Written) : Type 0 where
  pub tale : Tale R first s
  pub lo : ℕ
  pub hi : ℕ
  pub issued : AreIssued lo hi h
  pub begun : ℕ
  pub order : Chapter (IsApart lo hi) begun first s.flights tale.calls h
  pub tells : told_in tale.calls ≡ map taken_of s.taken
  pub ranks : (e a : ℕ) → slice_get tale.places e ≡ Some a → length (told_in (take a tale.calls)) ≡ e

abbrev pub book-of : (R : Relation) (first : Device) (s : Scene) (known : Known R first s) (top : ℕ) (h : List Written) → IsPast first s.flights known.tale.calls top h
    → Book R first s h
book-of R first s known top h p =
    record { tale = known.tale; lo = p.lo; hi = p.hi; issued = p.issued; begun = p.begun; order = p.chapter; tells = known.order.tells; ranks = known.order.ranks }

pub book-now : (R : Relation) (first : Device) (s : Scene) → Known R first s → Stands s.world.core.state.entries → Book R first s s.world.core.state.entries
book-now R first s known stands =
    book-of R first s known s.world.core.state.issued s.world.core.state.entries (now-past first s known.tale.calls known.tale.places known.order stands)

module _ (R : Relation) (first : Device) (s : Scene) (h : List Written) (known : Book R first s h) (stands : Stands h)
    (punctual : ArePunctual stands.reading) where
  abbrev tale : Tale R first s
  tale = known.tale

  abbrev order : Chapter (IsApart known.lo known.hi) known.begun first s.flights known.tale.calls h
  order = known.order

  abbrev delivered : (a t : ℕ) (d : List ℕ) → IsSentBefore h order.counts a t d → IsDelivered stands.reading device_at t d
  delivered a t d b =
      let it = noted-at stands.reading h b.number b.moment _ stands.entries_are b.stands in record {
        number = b.number;
        moment = b.moment;
        timeout = b.timeout;
        note = it.note;
        stands = it.stands;
        after = b.after;
        within = b.within;
      }

  other : (d : List ℕ) → IsApart known.lo known.hi d → IsForeign stands.reading d
  other d = foreign stands.reading known.lo known.hi d stands.legal (subst (AreIssued known.lo known.hi) (sym stands.entries_are) known.issued)

  brought : (a : ℕ) (c : Call) → slice_get tale.calls a ≡ Some c → IsBrought stands.reading device_at proxy_at c.event
  brought a c e = by c.event refl
    where
      by : (v : Event) → c.event ≡ v → IsBrought stands.reading device_at proxy_at v
      by (heard t p d k) is = λ from.
          elim (order.sent_first a t p d k c e is) [ inl b ↦ inl (delivered a t d b) | inr b ↦ inr (other d b) ]
      by (looked t) is = tt
      by gave is = tt

  pub networks : Networks R stands.reading device_at proxy_at first tale.calls
  networks = record {
    legal = stands.legal;
    punctual = punctual;
    follow = tale.follow;
    timed = tale.timed;
    brought = all-from (λ (c : Call). IsBrought stands.reading device_at proxy_at c.event) tale.calls brought;
  }

  -- an entry that heard a datagram, as the history has it
  heard-entry : (n t : ℕ) (bytes : List ℕ) (note : Note) → at stands.reading n ≡ Some (noted t (Hears device_at bytes) note)
      → IsGivenBefore first tale.calls order.counts n t bytes
  heard-entry n t bytes note e =
      order.heard_after n t bytes (subst (λ (h : List Written). IsEntry h n t (Hears device_at bytes)) stands.entries_are (at-entries stands.reading n _ e))

  pub given : AreGiven stands.reading device_at proxy_at first tale.calls
  given n t bytes note e = is-given first tale.calls proxy_at bytes (heard-entry n t bytes note e).given

  -- how many calls there were before an entry
  abbrev pub calls_before : ℕ → ℕ
  calls_before i = unwrap_or (slice_get order.counts i) (length tale.calls)

  before-is : (i a : ℕ) → slice_get order.counts i ≡ Some a → calls_before i ≡ a
  before-is i a e = ap (λ (o : Option ℕ). unwrap_or o (length tale.calls)) e

  -- which weren't later than what was heard
  pub calls-in-time : (n t : ℕ) (bytes : List ℕ) → IsEntry h n t (Hears device_at bytes) → moment_then 0 (take (calls_before n) tale.calls) ≤ t
  calls-in-time n t bytes e =
      let it = order.heard_after n t bytes e in
      subst (λ (a : ℕ). moment_then 0 (take a tale.calls) ≤ t) (sym (before-is n it.count it.counted)) it.by

  -- none fewer than there were before the journal
  pub calls-least : (i : ℕ) → known.begun ≤ calls_before i
  calls-least i = by (slice_get order.counts i) refl
    where
      by : (v : Option ℕ) → slice_get order.counts i ≡ v → known.begun ≤ unwrap_or v (length tale.calls)
      by (Some a) e = order.least i a e
      by None e = order.started

  rises : (i j : ℕ) → i ≤ j → calls_before i ≤ calls_before j
  rises i j le = by (slice_get order.counts i) (slice_get order.counts j) refl refl
    where
      by : (v u : Option ℕ) → slice_get order.counts i ≡ v → slice_get order.counts j ≡ u
          → unwrap_or v (length tale.calls) ≤ unwrap_or u (length tale.calls)
      by (Some a) (Some b) e f = order.rising i j a b le e f
      by (Some a) None e f = order.most i a e
      by None None e f = omega arith
      by None (Some b) e f =
          let lt = got-below order.counts j b f in
          let it = got-in order.counts i (omega (arith, lt, le)) in
          absurd (none-some it.0 (sym e ∙ it.1))

  pub ordered : IsOrdered stands.reading device_at proxy_at first tale.calls calls_before
  ordered = record {
    rises = rises;
    brought = λ a t d k c e is.
        elim (order.sent_first a t proxy_at d k c e is) [
          | inl b ↦ inl (delivered a t d b, subst (λ (x : ℕ). x ≤ a) (sym (before-is b.number b.count b.counted)) b.before)
          | inr b ↦ inr (other d b)
        ];
    given = λ n t bytes note e.
        let g = heard-entry n t bytes note e in
        (is-given first tale.calls proxy_at bytes g.given, subst (λ (x : ℕ). length g.given.front ≤ x) (sym (before-is n g.count g.counted)) g.before);
  }

  -- the execution of a message is the call that executes it
  executes : (m : Content) (b : ℕ) (y : Execution) → (d : IsDoneBy s.flights tale.calls tale.places b y) → IsOf s.flights m y → Executes proxy_at m d.call
  executes m b y d o = record {
    moment = y.moment;
    datagram = d.flight.bytes;
    taken = y.taken;
    comes = d.comes;
    spelled = subst (λ (g : Going). Spells m g.bytes) (some-is o.flight d.flight (sym o.stands ∙ d.sent)) o.spelled;
  }

  bytes-same : (t u : ℕ) (p q : Peer) (a b : List ℕ) (k x : Option Taken) → heard t p a k ≡ heard u q b x → a ≡ b
  bytes-same t u p q a b k x e = cc

  is-of : (m : Content) (c : Call) (y : Execution) (b : ℕ) → (d : IsDoneBy s.flights tale.calls tale.places b y) → d.call ≡ c
      → (x : Executes proxy_at m c) → IsOf s.flights m y
  is-of m c y b d same x = record {
    flight = d.flight;
    stands = d.sent;
    by = d.by;
    spelled = subst (λ (b : List ℕ). Spells m b)
        (sym (bytes-same y.moment x.moment proxy_at proxy_at d.flight.bytes x.datagram (Some y.taken) (Some x.taken)
        (sym d.comes ∙ (ap (λ (c : Call). c.event) same ∙ x.comes)))) x.spelled;
  }

  -- What was done once was executed once, and that call is the execution's.
  pub done-at : (k : ℕ) (q : CoapRequest) (js : List ℕ) → (w : IsDoneOnce h k q js proxy_at tale.calls)
      → (x : IsExecutedOnce h k q js s.flights s.taken) × (slice_get tale.places x.place ≡ Some w.place)
  done-at k q js w = (
    record {
      since = w.since;
      not_before = w.not_before;
      block = w.block;
      earlier = w.earlier;
      last = w.last;
      are = w.are;
      message = w.message;
      reply = w.reply;
      place = done.number;
      execution = done.execution;
      stands = done.stands;
      its = is-of w.reply.sent w.call done.execution done.number by call w.executes;
      once = λ b y e o.
          let other = tale.done b y e in
          let same : other.place ≡ w.place = w.once other.place other.call other.stands (executes w.reply.sent b y other o) in
          tale.apart b done.number w.place (other.placed ∙ ap (λ (a : ℕ). Some a) same) done.placed;
    },
    done.placed,
  )
    where
      done : IsDone s.taken tale.places w.place
      done = tale.told w.place w.executes.moment proxy_at w.executes.datagram w.executes.taken w.call w.stands w.executes.comes

      by : IsDoneBy s.flights tale.calls tale.places done.number done.execution
      by = tale.done done.number done.execution done.stands

      place : by.place ≡ w.place
      place = some-is by.place w.place (sym by.placed ∙ done.placed)

      call : by.call ≡ w.call
      call = some-is by.call w.call (sym by.stands ∙ (ap (slice_get tale.calls) place ∙ w.stands))

  -- Of the messages for one ask one at most was executed.
  pub at-most : KeepsOrder → AreAtMostOnce h s.flights s.taken
  at-most order_kept = record {
    sent = sent;
    once = λ i j t u p r m n a b x y f g changes other own at there e d.
        let first = tale.done a x at in
        let second = tale.done b y there in
        let same =
        asked-once R h device_at proxy_at start_of tale.calls stands networks sent i j t u p r m n first.place second.place first.call second.call f g changes other own
        first.stands second.stands (executes m a x first e) (executes n b y second d) in
        tale.apart a b second.place (first.placed ∙ ap (λ (i : ℕ). Some i) same) second.placed;
  }
    where
      sent : AreSentFor h
      sent = (order_kept h stands).sent

      start_of : Device
      start_of = first

-- Two answers of success that rest on one execution are one.
same-bytes : (flights : List Going) (taken : List Execution) (a b : ℕ) (x y : Execution) (m n : Content) → slice_get taken a ≡ Some x → slice_get taken b ≡ Some y
    → a ≡ b → IsOf flights m x → IsOf flights n y → m ≡ n
same-bytes flights taken a b x y m n at there same e d =
    let one : x ≡ y = some-is x y (sym at ∙ (ap (slice_get taken) same ∙ there)) in
    let flight : e.flight ≡ d.flight = some-is e.flight d.flight (sym e.stands ∙ (ap (λ (v : Execution). slice_get flights v.number) one ∙ d.stands)) in
    spells_one m n d.flight.bytes (subst (λ (g : Going). Spells m g.bytes) flight e.spelled) d.spelled

executed-apart : KeepsOrder → (h : List Written) → Stands h → (flights : List Going) (taken : List Execution) → AreExecutedApart h flights taken
executed-apart order h stands flights taken n t c k m u d o js ls first second r s changes peers x y same =
    let message = same-bytes flights taken x.place y.place x.execution y.execution x.reply.sent y.reply.sent x.stands y.stands same x.its y.its in
    let reply =
    one-reply h r.request s.request x.since y.since x.last y.last x.block y.block x.message y.message x.reply y.reply peers message in
    one-answer h stands (order h stands) n m t u c d k o js ls x.earlier y.earlier x.last y.last first second r changes x.are y.are reply

-- A story of a device that is a new one.
module _ (holds : Form → Form → List ℕ → List ℕ → Type 0) (takes : Form → Form → List ℕ → Type 0) (R : Relation)
    (rules : Rules) (block : ℕ) (resources : List Held) (turns : List Turn) (out : List Emission) (flights : List Going) (h : List Written) (last : Device)
    (taken : List Execution) (story : IsStory holds takes R rules (fresh block resources) turns out flights h last taken) where
  abbrev pub at_end : Scene
  at_end = record { moment = story.moment; world = story.world; device = last; out = out; flights = flights; taken = taken }

  pub known-then : Known R (fresh block resources) at_end
  known-then =
      turns-told holds takes R (fresh block resources) turns (opening rules (fresh block resources)) at_end story.is (known-none R rules (fresh block resources))

  pub book-then : Stands story.world.core.state.entries → Book R (fresh block resources) at_end story.world.core.state.entries
  book-then stands = book-now R (fresh block resources) at_end known-then stands

  pub timely-then : LooksInTime turns → AreAllTimely at_end
  timely-then looks = in-time holds takes R (fresh block resources) turns rules at_end story.is looks

  -- of one journal
  executed-in : Law R → (w : List Written) → Book R (fresh block resources) at_end w → (stands : Stands w) → AreTimely w → AreExecuted w flights taken
  executed-in law w book stands timely n t c k js answered rests post to class =
      let punctual = punctual-in w stands timely in
      (done-at R (fresh block resources) at_end w book stands punctual rests.opening rests.request js
      (law w device_at proxy_at block resources book.tale.calls n t c k js stands
      (networks R (fresh block resources) at_end w book stands punctual) (given R (fresh block resources) at_end w book stands punctual) answered rests post to
      class)).0

  posts-in : Law R → KeepsOrder → (w : List Written) → Book R (fresh block resources) at_end w → Stands w → AreTimely w → PostsOnce w flights taken
  posts-in law order w book stands timely = record {
    executed = executed-in law w book stands timely;
    apart = executed-apart order w stands flights taken;
    at_most = at-most R (fresh block resources) at_end w book stands (punctual-in w stands timely) order;
  }

  past-posts : Law R → KeepsOrder → (top from to : ℕ) (ws : List (List Written)) → ArePast (fresh block resources) flights known-then.tale.calls top from ws to
      → AllByRecursion AreTimely ws → AllByRecursion (λ (w : List Written). PostsOnce w flights taken) ws
  past-posts law order top from to [] past timely = tt
  past-posts law order top from to (w ∷ ws) past timely = (
    posts-in law order w (book-of R (fresh block resources) at_end known-then top w past.0) past.0.stands timely.0,
    past-posts law order top past.0.ended to ws past.2 timely.1,
  )

  posts-then : Law R → KeepsOrder → Stands story.world.core.state.entries → LooksInTime turns
      → EachJournal (λ (w : List Written). PostsOnce w flights taken) out story.world.core.state.entries
  posts-then law order stands looks =
      let timely = timely-then looks in
      each-journal (λ (w : List Written). PostsOnce w flights taken) out story.world.core.state.entries
      (past-posts law order known-then.order.lo 0 known-then.order.begun (given_in out) known-then.order.past timely.0)
      (posts-in law order story.world.core.state.entries (book-then stands) stands timely.1)

  pub posts-once : Law R → KeepsOrder → Stands h → LooksInTime turns → EachJournal (λ (w : List Written). PostsOnce w flights taken) out h
  posts-once law order =
      subst (λ (w : List Written). Stands w → LooksInTime turns → EachJournal (λ (w : List Written). PostsOnce w flights taken) out w) (sym story.journal) (posts-then law order)

-- what follows of what is answered
pub if-ok : {S E : Type 0} (P U Q : S → Type 0) → ((s : S) → P s → U s → Q s) → (r : Result S E) → IfOk r P → IfOk r U → IfOk r Q
if-ok P U Q f (Ok s) h k = f s h k
if-ok P U Q f (Err e) h k = h

pub posts-of : (R : Relation) → Law R → KeepsOrder → (holds : Form → Form → List ℕ → List ℕ → Type 0) (takes : Form → Form → List ℕ → Type 0)
    (rules : Rules) (first : Device) (turns : List Turn) (out : List Emission) (flights : List Going) (h : List Written) (last : Device)
    (taken : List Execution) → IsStory holds takes R rules first turns out flights h last taken → Stands h
    → (block : ℕ) (resources : List Held) → first ≡ fresh block resources → PostsOnceInTime turns out h flights taken
posts-of R law order holds takes rules first turns out flights h last taken story stands block resources e looks =
    posts-once holds takes R rules block resources turns out flights h last taken
    (subst (λ (d : Device). IsStory holds takes R rules d turns out flights h last taken) e story) law order stands looks
