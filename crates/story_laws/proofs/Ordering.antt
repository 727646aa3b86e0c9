-- What is heard for a GET shows what the writes did that were answered before its message was sent.
use Rattle.std.proofs.Common.{◌≡◌, ◌≢◌, ℕ, ◌/◌, ◌<◌, ◌≤◌, inl, inr, List, [], Option, Some, refl, sym, subst, arith}
use Rattle.std.specs.List.{Contains}
use Rattle.std.proofs.lemmas.List.Elements.{Contains-push}
use Rattle.uri_map.specs.declared.peer.Peer.{Peer}
use Rattle.coap_codec.specs.Spelling.{Content}
use Rattle.coap_codec.specs.Values.{values}
use Rattle.coap_codec.specs.declared.block.Block.{Block}
use Rattle.coap_codec.proofs.Again.{message_again}
use Rattle.blockwise.specs.Joins.{DownloadsJoin}
use Rattle.ask_model.specs.Requests.{CoapRequest}
use Rattle.journal_book.specs.Entries.{Live, Answers, Written}
use Rattle.history_laws.specs.Justified.{Stands}
use Rattle.history_laws.specs.Responses.{Response, whole_of}
use Rattle.history_claims.specs.Headline.{IsEntry, IsFirstSending, IsSentFor, RestsOn}
use Rattle.demo_origin.specs.Calls.{Call}
use Rattle.demo_origin.specs.Origins.{fresh}
use Rattle.demo_origin.specs.Values.{Relation}
use Rattle.demo_origin.specs.declared.state.Held.{Held}
use Rattle.story_laws.specs.Networks.{Networks}
use Rattle.story_laws.specs.Orders.{IsOrdered, AreDoneBefore, WholesShow, WritesShow}
use Rattle.story_laws.specs.Posts.{IsDoneOnce}
use Rattle.story_laws.specs.Reads.{AreNew, AreToldFor, IsToldFor, ShowsHeld, ShowsWhole}
use Rattle.story_laws.proofs.Posting.{first-sent, last, entry, executed, done-by}
use Rattle.story_laws.proofs.Sending.{sent-after}
use Rattle.story_laws.proofs.Showing.{given-ordered, held-more, replies-show}
use Rattle.story_laws.proofs.Wholes.{whole-shown}

module _ (R : Relation) (h : List Written) (device proxy : Peer) (block : ℕ) (resources : List Held) (cs : List Call)
    (calls_before : ℕ → ℕ) (s : Stands h)
    (net : Networks R s.reading device proxy (fresh block resources) cs)
    (order : IsOrdered s.reading device proxy (fresh block resources) cs calls_before) where
  -- a message that was sent, and what it shows
  module _ (i t count : ℕ) (p : Peer) (m : Content) (state : List ℕ) (f : IsFirstSending h i t p m)
      (shown : ShowsHeld t count proxy (fresh block resources) cs m state) where
    -- it was sent before the device heard it
    pub sent-first : calls_before i ≤ shown.place
    sent-first =
        let first = first-sent s.reading h i t p m s.legal s.entries_are f in
        let asked = shown.asked in
        elim (order.brought asked.place shown.moment asked.datagram asked.taken asked.call asked.stands asked.comes) [
          | inl came ↦
              let after = sent-after s.reading t first.0 i came.0.number came.0.moment p device m s.legal first.1 (record {
                bytes = asked.datagram;
                timeout = came.0.timeout;
                note = came.0.note;
                stands = came.0.stands;
                spelled = asked.spelled;
              }) in
              let rise = order.rises i came.0.number after in
              let late = came.1 in
              let then = shown.later in
              omega (arith, rise, late, then)
          | inr other ↦ absurd (other t first.0 i p m m first.1 (message_again m asked.datagram asked.spelled) refl)
        ]

    -- A write was done by then whose replies were heard before.
    pub done-since : (n u c o : ℕ) (js : List ℕ) → (r : RestsOn h n c o js) → r.request.method ≢ 1 → r.request.peer ≡ device
        → r.response.code / 32 ≡ 2 → ((j : ℕ) → Contains js j → j < i)
        → (done : IsDoneOnce h r.opening r.request js proxy cs) × (done.place < shown.place)
    done-since n u c o js r changes to class early_ones =
        let its = last R h device proxy block resources cs n c o js s net r changes to class in
        let noted = entry R h device proxy block resources cs n c o js s net r changes to class in
        let g = order.given its.number its.heard.response.moment its.heard.response.heard.bytes noted.note noted.stands in
        let done = done-by R h device proxy block resources cs n c o js s net r changes to class g.0.count
        (executed R h device proxy block resources cs n c o js s net r changes to class g.0) in
        let early = done.1 in
        let gave = g.1 in
        let before = early_ones its.number (subst (λ (ns : List ℕ). Contains ns its.number) (sym its.are) (Contains-push its.earlier its.number)) in
        let rise = order.rises its.number i (omega (arith, before)) in
        let came = sent-first in
        (done.0, omega (arith, early, gave, rise, came))

  module _ (k : ℕ) (q : CoapRequest) where
    done-first : (b : Option Block) (i count : ℕ) (m : Content) (state : List ℕ) (x : IsSentFor h k q b i m)
        → (shown : ShowsHeld x.moment count proxy (fresh block resources) cs m state) → AreDoneBefore h device proxy cs k shown.place
    done-first b i count m state x shown n t c o js answered r changes to class le =
        let after = x.after in
        done-since i x.moment count q.peer m state x.first shown n t c o js r changes to class
        (λ j has. let below = r.before j has in omega (arith, below, le, after))

    pub shows-both : (j : ℕ) (m : Content) (x : IsToldFor h k q j m) → q.method ≡ 1 → q.peer ≡ device
        → m.code ≡ 69 → values 23 m.options ≡ []
        → (shown : ShowsHeld x.sent_for.moment (calls_before j) proxy (fresh block resources) cs x.sent m.payload) × AreDoneBefore h device proxy cs k shown.place
    shows-both j m x get to content whole =
        let g = given-ordered R h device proxy block resources cs calls_before s order q.peer j m x.response.moment to x.response.heard in
        let shown = held-more x.sent_for.moment g.0.count (calls_before j) proxy (fresh block resources) cs x.sent m.payload g.1
        (replies-show R h device proxy block resources cs k q j m s net x g.0 get content whole) in
        (shown, done-first x.block x.sending (calls_before j) x.sent m.payload x.sent_for shown)

    pub whole-both : DownloadsJoin → AreNew resources → (js : List ℕ) (ms : List Content) (w : Response) → AreToldFor h k q js ms
        → whole_of q ms ≡ Some w → q.method ≡ 1 → q.peer ≡ device → w.code ≡ 69
        → (shown : ShowsWhole h k q js proxy (fresh block resources) cs calls_before w.body) × AreDoneBefore h device proxy cs k shown.shown.place
    whole-both join new js ms w told whole get to content =
        let x = whole-shown R h device proxy block resources cs calls_before s net order new q get to join k js ms w told whole content in
        (x, done-first x.block x.sending (calls_before x.entry) x.message w.body x.sent x.shown)

pub writes-show : (R : Relation) → WritesShow R
writes-show R h device proxy block resources cs calls_before k q j m s net order x get to content whole =
    shows-both R h device proxy block resources cs calls_before s net order k q j m x get to content whole

pub wholes-show : (R : Relation) → DownloadsJoin → WholesShow R
wholes-show R join h device proxy block resources cs calls_before k q js ms w s net order new told whole get to content =
    whole-both R h device proxy block resources cs calls_before s net order k q join new js ms w told whole get to content
