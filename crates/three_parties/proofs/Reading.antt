-- An answer to a GET shows what the resource held, and no less than what was confirmed before.
use Rattle.std.proofs.Common.{◌≡◌, ◌≢◌, ◌⊎◌, ℕ, zero, ◌<◌, ◌≤◌, max, inl, inr, List, [], ◌∷◌, length, take, Option, Some, refl, sym, ap, subst, ◌∙◌, arith}
use Rattle.std.specs.Prelude.{slice_get, unwrap_or}
use Rattle.std.specs.List.{AllByRecursion, Contains}
use Rattle.std.proofs.lemmas.Bool.Decides.{leb_tells}
use Rattle.coap_codec.specs.Spelling.{Content}
use Rattle.coap_codec.specs.Values.{values}
use Rattle.coap_codec.specs.declared.block.Block.{Block}
use Rattle.uri_map.specs.declared.peer.Peer.{Peer}
use Rattle.ask_model.specs.Requests.{CoapRequest, Plainly}
use Rattle.journal_book.specs.Entries.{Hears, Live, Fault, Answers, Written}
use Rattle.ask_model.specs.declared.cause.Cause.TheVariants as C
use Rattle.resp_cache.specs.Stored.{Stored}
use Rattle.history_laws.specs.Justified.{Stands}
use Rattle.history_claims.specs.Headline.{IsEntry, IsJoined, IsJoinedTo, IsSentFor, IsWriteAnswer, RestsOn}
use Rattle.history_claims.specs.Stored.{RestsOnRenewed, WasStored, WasWhole}
use Rattle.demo_origin.specs.Calls.{Call}
use Rattle.demo_origin.specs.Done.{left_with, told_by, told_in}
use Rattle.demo_origin.specs.Once.{heard}
use Rattle.demo_origin.specs.Origins.{fresh}
use Rattle.demo_origin.specs.Values.{Relation}
use Rattle.demo_origin.specs.declared.state.Held.{Held}
use Rattle.story_laws.specs.Lateness.{ArePunctual}
use Rattle.story_laws.specs.Networks.{moment_after}
use Rattle.story_laws.specs.Orders.{AreDoneBefore, WritesShow as Law}
use Rattle.story_laws.specs.Reads.{AreToldFor, IsToldFor, ShowsHeld as ShowsSo}
use Rattle.story_laws.proofs.Ordering.{sent-first}
use Rattle.story_laws.proofs.Posting.{last as reply-of, entry as entry-of, executed as executed-of, done-by}
use Rattle.three_parties.specs.Flights.{device_at, proxy_at}
use Rattle.three_parties.specs.Reads.{AreAllDone, AreDone, IsHeldAt, ShowsHeld}
use Rattle.three_parties.specs.Scenes.{Scene}
use Rattle.three_parties.specs.Stories.{opening}
use Rattle.three_parties.specs.declared.story.Execution.{Execution}
use Rattle.three_parties.proofs.Executing.{Book, book-of, calls-in-time, calls-least, calls_before, done-at, networks, ordered}
use Rattle.three_parties.proofs.Knowing.{Known}
use Rattle.three_parties.proofs.Lists.{got-below, got-in}
use Rattle.three_parties.proofs.Chapters.{IsPast}
use Rattle.three_parties.proofs.Tales.{IsDoneBy}
use Rattle.three_parties.proofs.Pages.{IsEarlier, end}
use Rattle.three_parties.proofs.Standing.{stood-first}
use Rattle.three_parties.proofs.Calls.{moment_then}
use Rattle.three_parties.proofs.Timing.{timed-after, timed-fewer, timed-then, timed-upto, heard-at, more-told, no-less-told, told-before}

-- ---- a reply

-- Which writes were answered before the ask is given by how far back what was sent for it goes.
abbrev pub GoesBack : List Written → ℕ → ℕ → CoapRequest → Type 0
GoesBack h k o q =
    (n t c w : ℕ) (js : List ℕ) → IsEntry h n t (Answers c w (Live js)) → (y : RestsOn h n c w js)
    → y.request.method ≢ 1 → y.request.peer ≡ q.peer → y.request.target.path ≡ q.target.path → n < k → n ≤ o

module _ (R : Relation) (block : ℕ) (resources : List Held) (s : Scene) (known : Known R (fresh block resources) s) (top : ℕ) (h : List Written)
    (page : IsPast (fresh block resources) s.flights known.tale.calls top h) (punctual : ArePunctual page.stands.reading) (before : List (List Written))
    (earlier_ones : AllByRecursion (IsEarlier R (fresh block resources) s known top page.begun) before) where
  abbrev stands : Stands h
  stands = page.stands

  abbrev book : Book R (fresh block resources) s h
  book = book-of R (fresh block resources) s known top h page

  abbrev calls : List Call
  calls = known.tale.calls

  abbrev count : ℕ → ℕ
  count a = length (told_in (take a calls))

  -- an execution, and whether it was told before a call
  ranked-below : (e : ℕ) (y : Execution) (d : IsDoneBy s.flights calls known.tale.places e y) (a : ℕ) → d.place < a → e < count a
  ranked-below e y d a lt =
      let rank = known.order.ranks e d.place d.placed in
      let more = more-told calls d.place a d.call y.taken lt d.stands (ap told_by d.comes) in
      omega (arith, rank, more)

  ranked-above : (e : ℕ) (y : Execution) (d : IsDoneBy s.flights calls known.tale.places e y) (a : ℕ) → a ≤ d.place → count a ≤ e
  ranked-above e y d a le =
      let rank = known.order.ranks e d.place d.placed in
      let less = no-less-told calls a d.place le in
      omega (arith, rank, less)

  module _ (since bound : ℕ) (m : Content) (state : List ℕ)
      (shown : ShowsSo since bound proxy_at (fresh block resources) calls m state) where
    -- when it held this: when the device heard the message, or at the last call before, if that came later
    pub when : ℕ
    when = max shown.moment (moment_then 0 (take shown.place calls))

    hears : (u : ℕ) → moment_after u shown.asked.call.event ≡ shown.moment
    hears = heard-at shown.asked.call shown.moment proxy_at shown.asked.datagram shown.asked.taken shown.asked.comes

    pub not-before : since ≤ when
    unfolding when
    not-before = let le = shown.not_before in omega (arith, le)

    -- before what was heard then
    pub not-after : (until : ℕ) → moment_then 0 (take bound calls) ≤ until → when ≤ until
    unfolding when
    not-after until in_time =
        let asked = timed-upto 0 calls shown.asked.place bound shown.moment shown.asked.call known.tale.timed shown.asked.stands shown.heard hears in
        let held = timed-fewer 0 calls shown.place bound known.tale.timed shown.not_after in
        omega (arith, asked, held, in_time)

    earlier : (e : ℕ) (y : Execution) → slice_get s.taken e ≡ Some y → e < count shown.place → y.moment ≤ when
    unfolding when
    earlier e y f lt =
        let d = known.tale.done e y f in
        elim (leb_tells shown.place d.place) [
          | inl k ↦ let no = ranked-above e y d shown.place k.1 in absurd (omega (arith, lt, no))
          | inr k ↦
              let le = timed-upto 0 calls d.place shown.place y.moment d.call known.tale.timed d.stands k.1
              (heard-at d.call y.moment proxy_at d.flight.bytes (Some y.taken) d.comes) in
              omega (arith, le)
        ]

    later : (e : ℕ) (y : Execution) → slice_get s.taken e ≡ Some y → count shown.place ≤ e → when ≤ y.moment
    unfolding when
    later e y f le =
        let d = known.tale.done e y f in
        let at = heard-at d.call y.moment proxy_at d.flight.bytes (Some y.taken) d.comes in
        elim (leb_tells shown.place d.place) [
          | inl k ↦
              let asked = shown.later in
              let then = k.1 in
              let one = timed-then 0 calls shown.asked.place d.place shown.moment y.moment shown.asked.call d.call known.tale.timed shown.asked.stands d.stands
              (omega (arith, asked, then)) hears at in
              let two = timed-after 0 calls shown.place d.place y.moment d.call known.tale.timed d.stands then at in
              omega (arith, one, two)
          | inr k ↦ let no = ranked-below e y d shown.place k.1 in absurd (omega (arith, le, no))
        ]

    pub held-at : IsHeldAt when (values 11 m.options) resources s.taken (count shown.place) state
    held-at =
        let there = stood-first R calls (fresh block resources) shown.place (values 11 m.options) shown.number shown.held known.tale.follow shown.there in
        record {
          earlier = earlier;
          later = later;
          place = there.0;
          first = there.1;
          stands = there.2;
          left = shown.left there.0 there.1 there.2
              ∙ ap (left_with (values 11 m.options) there.1.state) (told-before calls shown.place s.taken known.order.tells);
        }

  -- what the device showed by a message, and which writes it had done
  abbrev pub ShownBy : (o since bound : ℕ) (m : Content) (state : List ℕ) → Type 0
  ShownBy o since bound m state =
      (shown : ShowsSo since bound proxy_at (fresh block resources) calls m state) × AreDoneBefore h device_at proxy_at calls o shown.place

  -- the writes of an earlier journal
  done-earlier : (j : List Written) → IsEarlier R (fresh block resources) s known top page.begun j → (q : CoapRequest) → q.peer ≡ device_at → (place : ℕ)
      → page.begun ≤ place → AreDone j s.flights s.taken (length j) q (count place)
  done-earlier j e q of place from n t c w js answered y changes peer path class lt =
      let mine = book-of R (fresh block resources) s known top j e.past in
      let net = networks R (fresh block resources) s j mine e.past.stands e.punctual in
      let to = peer ∙ of in
      let its = reply-of R j device_at proxy_at block resources calls n c w js e.past.stands net y changes to class in
      let noted = entry-of R j device_at proxy_at block resources calls n c w js e.past.stands net y changes to class in
      let g = (ordered R (fresh block resources) s j mine e.past.stands e.punctual).given its.number its.heard.response.moment its.heard.response.heard.bytes noted.note
      noted.stands in
      let done = done-by R j device_at proxy_at block resources calls n c w js e.past.stands net y changes to class g.0.count
      (executed-of R j device_at proxy_at block resources calls n c w js e.past.stands net y changes to class g.0) in
      let own = done-at R (fresh block resources) s j mine e.past.stands e.punctual y.opening y.request js done.0 in
      let rank = known.order.ranks own.0.place done.0.place own.1 in
      let there : its.number < length j = got-below j its.number _ its.heard.response.heard.stands in
      let counted = e.past.chapter.whole in
      let at = got-in e.past.chapter.counts its.number (omega (arith, there, counted)) in
      let is : calls_before R (fresh block resources) s j mine e.past.stands e.punctual its.number ≡ at.0 =
      ap (λ (o : Option ℕ). unwrap_or o (length calls)) at.1 in
      let upto = e.past.upto its.number at.0 at.1 in
      let early = done.1 in
      let gave = g.1 in
      let end = e.early in
      let more = more-told calls done.0.place place done.0.call done.0.executes.taken (omega (arith, early, gave, is, upto, end, from)) done.0.stands
      (ap told_by done.0.executes.comes) in
      (own.0, omega (arith, rank, more))

  pub all-earlier : (q : CoapRequest) → q.peer ≡ device_at → (place : ℕ) → page.begun ≤ place → (js : List (List Written))
      → AllByRecursion (IsEarlier R (fresh block resources) s known top page.begun) js → AreAllDone js s.flights s.taken q (count place)
  all-earlier q of place from [] e = tt
  all-earlier q of place from (j ∷ js) e = (done-earlier j e.0 q of place from, all-earlier q of place from js e.1)

  pub shows-so : (k o : ℕ) (q r : CoapRequest) (b : Option Block) (i bound until : ℕ) (m : Content) (state : List ℕ) → (x : IsSentFor h o r b i m)
      → ShownBy o x.moment bound m state → moment_then 0 (take bound calls) ≤ until → q.peer ≡ device_at → GoesBack h k o q
      → ShowsHeld before h k o q r until resources s.flights s.taken state
  shows-so k o q r b i bound until m state x it in_time of back = record {
    block = b;
    sending = i;
    message = m;
    sent = x;
    shows = record {
      moment = when x.moment bound m state it.0;
      not_before = not-before x.moment bound m state it.0;
      not_after = not-after x.moment bound m state it.0 until in_time;
      count = count it.0.place;
      held = held-at x.moment bound m state it.0;
      written = done;
      written_before = all-earlier q of it.0.place since before earlier_ones;
    };
  }
    where
      since : page.begun ≤ it.0.place
      since =
          let sent = sent-first R h device_at proxy_at block resources calls (calls_before R (fresh block resources) s h book stands punctual) stands
          (networks R (fresh block resources) s h book stands punctual) (ordered R (fresh block resources) s h book stands punctual) i x.moment bound r.peer m state x.first it.0 in
          let least = calls-least R (fresh block resources) s h book stands punctual i in
          omega (arith, sent, least)

      done : AreDone h s.flights s.taken k q (count it.0.place)
      done n t c w js answered y changes peer path class lt =
          let call = it.1 n t c w js answered y changes (peer ∙ of) class (back n t c w js answered y changes peer path lt) in
          let own = done-at R (fresh block resources) s h book stands punctual y.opening y.request js call.0 in
          let rank = known.order.ranks own.0.place call.0.place own.1 in
          let more = more-told calls call.0.place it.0.place call.0.call call.0.executes.taken call.1 call.0.stands (ap told_by call.0.executes.comes) in
          (own.0, omega (arith, rank, more))

  -- the calls before what was heard for a request to the device, by this moment
  pub heard-in-time : (j : ℕ) (r : CoapRequest) (o : ℕ) (m : Content) (x : IsToldFor h o r j m) → r.peer ≡ device_at → (until : ℕ) → x.response.moment ≤ until
      → moment_then 0 (take (calls_before R (fresh block resources) s h book stands punctual j) calls) ≤ until
  heard-in-time j r o m x to until le =
      let came = x.response.heard in
      let by = calls-in-time R (fresh block resources) s h book stands punctual j x.response.moment came.bytes
      (subst (λ (p : Peer). IsEntry h j x.response.moment (Hears p came.bytes)) to came.stands) in
      omega (arith, by, le)

  pub shows : Law R → (k o : ℕ) (q r : CoapRequest) (j until : ℕ) (m : Content) → (x : IsToldFor h o r j m) → x.response.moment ≤ until → r.method ≡ 1
      → r.peer ≡ device_at → q.peer ≡ device_at → m.code ≡ 69 → values 23 m.options ≡ [] → GoesBack h k o q
      → ShowsHeld before h k o q r until resources s.flights s.taken m.payload
  shows law k o q r j until m x le get to of content whole back =
      shows-so k o q r x.block x.sending (calls_before R (fresh block resources) s h book stands punctual j) until x.sent m.payload x.sent_for
      (law h device_at proxy_at block resources calls (calls_before R (fresh block resources) s h book stands punctual) o r j m stands
      (networks R (fresh block resources) s h book stands punctual) (ordered R (fresh block resources) s h book stands punctual) x get to content whole) (heard-in-time j r o m x to until le) of back

-- ---- an answer

-- one message alone
pub one-told : (w : List Written) (k : ℕ) (q : CoapRequest) (js : List ℕ) (ms : List Content) (m : Content) → ms ≡ m ∷ []
    → AreToldFor w k q js ms → (j : ℕ) × IsToldFor w k q j m × Contains js j
one-told w k q js ms m e all = by js (subst (AreToldFor w k q js) e all)
  where
    by : (js : List ℕ) → AreToldFor w k q js (m ∷ []) → (j : ℕ) × IsToldFor w k q j m × Contains js j
    by [] x = absurd x
    by (j ∷ js) x = (j, x.0, (zero, omega arith, refl))

-- A write that was answered, as the claims have it.
write-answer : (h : List Written) (q : CoapRequest) (n t c w : ℕ) (js : List ℕ) → IsEntry h n t (Answers c w (Live js)) → (y : RestsOn h n c w js)
    → y.request.method ≢ 1 → y.request.peer ≡ q.peer → y.request.target.path ≡ q.target.path → IsWriteAnswer h q n
write-answer h q n t c w js answered y changes peer path = record {
  ask = w;
  write = record {
    conn = c;
    moment = y.shared.moment;
    request = y.request;
    asked = y.shared.asked;
    changes = changes;
    place = (peer, path);
  };
  moment = t;
  grounds = Live js;
  answers = answered;
  had_room = inl not-fault;
}
  where
    not-fault : Live js ≡ Fault C.Busy w → ⊥
    not-fault e = cc

-- What a live answer rests on was sent after each write that was answered before its ask.
pub live-back : (h : List Written) (n c k : ℕ) (js : List ℕ) → (r : RestsOn h n c k js) → GoesBack h k r.opening r.request
live-back h n c k js r m t d w is answered y changes peer path lt =
    elim (r.shared.shares) [
      | inl own ↦ let same = own.1 in omega (arith, same, lt)
      | inr (inl joined) ↦
          let before = joined.1.fresh m (write-answer h r.request m t d w is answered y changes peer path) lt in
          omega (arith, before)
      | inr (inr fetched) ↦
          let before = fetched.fresh m (write-answer h r.request m t d w is answered y changes peer path) lt in
          omega (arith, before)
    ]

-- So was what was stored before such a one was asked for,
pub stored-back : (h : List Written) (k : ℕ) (q : CoapRequest) (v : Stored) → (w : WasStored h k q v) → GoesBack h k w.first.opening q
stored-back h k q v w n u d i js answered y changes peer path lt =
    let before = w.current n (write-answer h q n u d i js answered y changes peer path) lt in
    omega (arith, before)

-- and what was stored before that was asked for which an answer shares.
pub renewed-back : (h : List Written) (n c k : ℕ) (js : List ℕ) → (r : RestsOnRenewed h n c k js) → GoesBack h k r.was.first.opening r.request
renewed-back h n c k js r m t d w is answered y changes peer path lt =
    let write = write-answer h r.request m t d w is answered y changes peer path in
    let before = r.was.current m write (early (r.shared.shares) write) in
    omega (arith, before)
  where
    early : ((r.opening ≡ k) × (r.opening ≡ k) × (r.since ≡ r.shared.moment))
        ⊎ (((r.opening ≡ r.opening) × (j : IsJoined h k r.request r.opening) × (r.since ≡ j.pending.moment))
        ⊎ IsJoinedTo h k r.opening r.request r.opening r.since)
        → IsWriteAnswer h r.request m → m < r.opening
    early (inl own) write = let same = own.1 in omega (arith, same, lt)
    early (inr (inl joined)) write = joined.1.fresh m write lt
    early (inr (inr fetched)) write = fetched.fresh m write lt

-- What it was heard for is a GET too.
pub other-gets : (h : List Written) (q : CoapRequest) (first : Stored) → (w : WasWhole h q first) → w.other.method ≡ 1
other-gets h q first w = sym (ap (λ (m : Content). m.code) (w.same.2 Plainly 0 [])) ∙ w.same.0
