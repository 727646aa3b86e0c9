-- An answer that rests on what its journal begins with shows what the resource held, and no less than what was confirmed before.
use Rattle.std.proofs.Common.{◌≡◌, inl, inr, ℕ, zero, suc, ◌≤◌, true, false, List, [], ◌∷◌, length, take, Option, Some, refl, sym, ap, subst, ◌∙◌, arith}
use Rattle.std.specs.List.{AllByRecursion, Contains}
use Rattle.std.proofs.lemmas.Bool.{false≢true}
use Rattle.std.proofs.lemmas.Bool.Decides.{leb_tells}
use Rattle.coap_codec.specs.Spelling.{Content}
use Rattle.coap_codec.specs.Values.{values}
use Rattle.coap_codec.specs.declared.block.Block.{Block}
use Rattle.uri_map.specs.declared.peer.Peer.{Peer}
use Rattle.ask_model.specs.Requests.{CoapRequest, request_options}
use Rattle.journal_book.specs.Entries.{Mark, Ground, Done, Sent, Heard, Deed, Carries, Grounds, Live, Answers, Written}
use Rattle.history_laws.specs.Justified.{Stands}
use Rattle.history_laws.specs.Readings.{carries}
use Rattle.history_laws.proofs.CallerLemmas.{at-still, copy-at, follows-at, some-is}
use Rattle.history_claims.specs.Headline.{AsksFor, IsEntry, IsFirstSending, IsSameGet}
use Rattle.history_claims.specs.Carried.{AreCarriedFor, IsAskCopied, IsCarriedFor}
use Rattle.demo_origin.specs.Calls.{Call}
use Rattle.demo_origin.specs.Done.{told_in}
use Rattle.demo_origin.specs.Origins.{fresh}
use Rattle.demo_origin.specs.Values.{Relation}
use Rattle.demo_origin.specs.declared.state.Held.{Held}
use Rattle.story_laws.specs.Lateness.{ArePunctual}
use Rattle.story_laws.specs.Reads.{ShowsHeld as ShowsSo}
use Rattle.story_laws.proofs.Posting.{code-of, noted-at}
use Rattle.story_laws.proofs.Showing.{ShowsPart, held-shown, held-shown-is}
use Rattle.story_laws.proofs.Wholes.{AreShown, path-of}
use Rattle.three_parties.specs.Flights.{device_at, proxy_at}
use Rattle.three_parties.specs.Reads.{AreAllDone, AreDone, ShowsCarried}
use Rattle.three_parties.specs.Scenes.{Scene}
use Rattle.three_parties.proofs.Carrying.{IsReplyCopied}
use Rattle.three_parties.proofs.Chapters.{IsPast}
use Rattle.three_parties.proofs.Inherited.{IsInherited}
use Rattle.three_parties.proofs.Knowing.{Known}
use Rattle.three_parties.proofs.Lists.{all-map}
use Rattle.three_parties.proofs.Pages.{IsEarlier}
use Rattle.three_parties.proofs.Paths.{same-path}
use Rattle.three_parties.proofs.Calls.{moment_then}
use Rattle.three_parties.proofs.Reading.{GoesBack, held-at, not-after, not-before, when}

-- a copy of a message and of its reply
abbrev reply-copied : (h : List Written) (o : ℕ) (r : CoapRequest) (j : ℕ) (m : Content) (device : Peer) → r.peer ≡ device → (x : IsCarriedFor h o r j m)
    → IsReplyCopied h x.sending j device x.sent m
reply-copied h o r j m device to x =
    record {
      sent_at = x.sent_at;
      sent_as = x.sent_as;
      text = x.text;
      timeout = x.timeout;
      first = subst (λ (p : Peer). IsEntry h x.sending x.sent_at (Carries x.sent_as Ground (Sent p x.text (Some x.timeout)))) to x.first;
      sent_spelled = x.sent_spelled;
      heard_at = x.heard_at;
      heard_as = x.heard_as;
      bytes = x.bytes;
      heard = subst (λ (p : Peer). IsEntry h j x.heard_at (Carries x.heard_as Ground (Heard p x.bytes))) to x.heard;
      spelled = x.spelled;
      token = sym x.token;
      after = x.order.1;
    }

-- No answer stands before a copy.
no-answer : (h : List Written) → Stands h → (n t c k o u number : ℕ) (g : Grounds) (mark : Mark) (done : Done) → IsEntry h n t (Answers c k g)
    → IsEntry h o u (Carries number mark done) → n ≤ o → ⊥
no-answer h s n t c k o u number g mark done answered copied le =
    let l = s.reading in
    let x = noted-at l h o u (Carries number mark done) s.entries_are copied in
    let y = noted-at l h n t (Answers c k g) s.entries_are answered in
    elim (leb_tells o n) [
      | inl w ↦
          let here = w.1 in
          let same : n ≡ o = omega (arith, here, le) in
          apart (ap (λ (w : Written). carries w.deed) (some-is _ _ (sym (subst (λ (n : ℕ). IsEntry h n t (Answers c k g)) same answered) ∙ copied)))
      | inr w ↦ apart (copy-at _ n _ (follows-at l o _ s.legal x.stands).0 (at-still l o n _ _ x.stands w.1 y.stands))
    ]
  where
    apart : false ≡ true → ⊥
    apart e = false≢true e

module _ (R : Relation) (block : ℕ) (resources : List Held) (s : Scene) (known : Known R (fresh block resources) s) (top : ℕ)
    (before : List (List Written)) (h : List Written) (page : IsPast (fresh block resources) s.flights known.tale.calls top h)
    (punctual : ArePunctual page.stands.reading)
    (earlier : AllByRecursion (IsEarlier R (fresh block resources) s known top page.begun) before)
    (inherited : IsInherited R block resources s known top before h) where
  abbrev calls : List Call
  calls = known.tale.calls

  abbrev count : ℕ → ℕ
  count a = length (told_in (take a calls))

  -- a message for r that was sent in one of the journals before, and what was done before the device heard it; it was heard by this moment
  pub record IsKnownBefore (r : CoapRequest) (until t : ℕ) (sent : Content) (place bound : ℕ) : Type 0 where
    pub by : moment_then 0 (take bound calls) ≤ until
    pub block_named : Option Block
    pub asks : AsksFor r block_named sent
    pub journal : List Written
    pub among : Contains before journal
    pub number : ℕ
    pub first : IsFirstSending journal number t device_at sent
    pub done : AreAllDone before s.flights s.taken r (count place)

  -- what was copied shows a piece each, as it is known
  pub all-carried : (o until : ℕ) (r : CoapRequest) (js : List ℕ) (ms : List Content) → ((j u : ℕ) (d : Deed) → Contains js j → IsEntry h j u d → u ≤ until)
      → IsAskCopied h o r → r.method ≡ 1 → r.peer ≡ device_at
      → AreCarriedFor h o r js ms → AreShown proxy_at (fresh block resources) calls (values 11 (request_options r)) (IsKnownBefore r until) ms
  all-carried o until r [] [] early asked get to heard = tt
  all-carried o until r [] (m ∷ ms) early asked get to heard = absurd heard
  all-carried o until r (j ∷ js) [] early asked get to heard = absurd heard
  all-carried o until r (j ∷ js) (m ∷ ms) early asked get to heard = (
    λ content.
        let x = heard.0 in
        let code : x.sent.code ≡ 1 = ap (λ (m : Content). m.code) x.asks.1 ∙ (code-of x.asks.0 r x.block x.sent.mid x.sent.token ∙ get) in
        let it = inherited x.sending j x.sent m (reply-copied h o r j m device_at to x) code content in
        record {
          since = it.since;
          count = it.bound;
          sent = x.sent;
          part = it.part;
          asks = ap (λ (c : Content). values 11 c.options) x.asks.1 ∙ path-of x.asks.0 r x.block x.sent.mid x.sent.token;
          known = record {
            by = let by = it.by in let sooner = early j x.heard_at _ (zero, omega arith, refl) x.heard in omega (arith, by, sooner);
            block_named = x.block;
            asks = x.asks;
            journal = it.journal;
            among = it.among;
            number = it.number;
            first = it.first;
            done = it.done o r asked x.order.0 to;
          };
        },
    all-carried o until r js ms (λ i u d has e. early i u d (let lt = has.1 in (suc has.0, omega (arith, lt), has.2)) e) asked get to heard.1,
  )

  -- what a piece that is all shows
  module _ (t bound : ℕ) (sent m : Content) (part : ShowsPart t bound proxy_at (fresh block resources) calls sent m) (state : List ℕ)
      (is : state ≡ part.held.state) where
    shown : ShowsSo t bound proxy_at (fresh block resources) calls sent state
    shown = held-shown R proxy_at block resources calls t bound sent m state known.tale.follow part is

    place-is : shown.place ≡ part.place
    unfolding shown
    place-is = held-shown-is R proxy_at block resources calls t bound sent m state known.tale.follow part is

  pub carried-shown : (k o until : ℕ) (q r : CoapRequest) (t bound : ℕ) (sent m : Content) (part : ShowsPart t bound proxy_at (fresh block resources) calls sent m)
      → IsKnownBefore r until t sent part.place bound
      → (state : List ℕ) → state ≡ part.held.state → IsAskCopied h o r → IsSameGet q r → q.peer ≡ device_at → GoesBack h k o q
      → ShowsCarried before h k q r until resources s.flights s.taken state
  carried-shown k o until q r t bound sent m part known_so state is asked same to back = record {
    message = sent;
    sent = record {
      block = known_so.block_named;
      asks = known_so.asks;
      journal = known_so.journal;
      among = known_so.among;
      number = known_so.number;
      moment = t;
      first = subst (λ (p : Peer). IsFirstSending known_so.journal known_so.number t p sent) (sym to ∙ same.1) known_so.first;
    };
    shows = record {
      moment = when R block resources s known top h page punctual before earlier t bound sent state (shown t bound sent m part state is);
      not_before = not-before R block resources s known top h page punctual before earlier t bound sent state (shown t bound sent m part state is);
      not_after = not-after R block resources s known top h page punctual before earlier t bound sent state (shown t bound sent m part state is) until known_so.by;
      count = count (shown t bound sent m part state is).place;
      held = held-at R block resources s known top h page punctual before earlier t bound sent state (shown t bound sent m part state is);
      written = λ n u c w js answered y changes peer path class lt.
          absurd (no-answer h page.stands n u c w o asked.moment asked.number (Live js) _ _ answered asked.stands (back n u c w js answered y changes peer path lt));
      written_before = all-map (λ (w : List Written). AreDone w s.flights s.taken (length w) r (count (shown t bound sent m part state is).place))
          (λ (w : List Written). AreDone w s.flights s.taken (length w) q (count (shown t bound sent m part state is).place))
          (λ w d n u c a js answered y changes peer path class lt. d n u c a js answered y changes (peer ∙ same.1) (path ∙ same-path q r same) class lt) before
          (subst (λ (a : ℕ). AreAllDone before s.flights s.taken r (count a)) (sym (place-is t bound sent m part state is)) known_so.done);
    };
  }
