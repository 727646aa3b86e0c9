-- An answer to a GET shows what the resource held, in one piece or in several.
use Rattle.std.proofs.Common.{◌≡◌, ℕ, ◌≤◌, List, [], Some, refl, sym, subst, ◌∙◌}
use Rattle.std.specs.List.{AllByRecursion, Contains}
use Rattle.media_map.specs.declared.form.Form.{Form}
use Rattle.ask_model.specs.Requests.{CoapRequest, request_options}
use Rattle.ask_model.specs.Views.{Rules}
use Rattle.coap_codec.specs.Spelling.{Content}
use Rattle.coap_codec.specs.Values.{values}
use Rattle.blockwise.specs.Joins.{DownloadsJoin}
use Rattle.journal_book.specs.Entries.{Deed, Written}
use Rattle.resp_cache.specs.Stored.{Stored}
use Rattle.history_laws.specs.Justified.{Stands}
use Rattle.history_laws.specs.Responses.{Response, whole_of}
use Rattle.history_claims.specs.Headline.{IsEntry}
use Rattle.history_claims.specs.Stored.{WasCarried, WasHeardHere, WasRenewed, WasWhole, never, again}
use Rattle.demo_origin.specs.Origins.{fresh}
use Rattle.demo_origin.specs.Values.{Device, Relation}
use Rattle.demo_origin.specs.declared.state.Held.{Held}
use Rattle.story_laws.specs.Lateness.{ArePunctual}
use Rattle.story_laws.specs.Orders.{WholesShow as Law}
use Rattle.story_laws.specs.Reads.{AreNew, AreToldFor}
use Rattle.story_laws.proofs.Told.{kept-told, rests-told}
use Rattle.story_laws.proofs.Wholes.{body-shown}
use Rattle.gateway_model.specs.Emissions.{Emission}
use Rattle.three_parties.specs.Flights.{Going, device_at, proxy_at}
use Rattle.three_parties.specs.Reads.{EachAfter, GetsShowWhole, KeptShowWhole, RenewedShowWhole, ShowsCarried, ShowsFirst, ShowsHeld, WholesShowInTime, journals}
use Rattle.three_parties.specs.Scenes.{Scene}
use Rattle.three_parties.specs.Stories.{IsStory}
use Rattle.three_parties.specs.declared.story.Execution.{Execution}
use Rattle.three_parties.specs.declared.turn.Turn.{Turn}
use Rattle.three_parties.proofs.Executing.{Book, book-of, calls_before, networks, ordered}
use Rattle.three_parties.proofs.Knowing.{Known}
use Rattle.three_parties.proofs.Carried.{IsKnownBefore, all-carried, carried-shown}
use Rattle.three_parties.proofs.Chapters.{IsPast}
use Rattle.three_parties.proofs.Inherited.{IsInherited}
use Rattle.three_parties.proofs.Pages.{IsEarlier}
use Rattle.three_parties.proofs.Walking.{at_last, each-after, known_last}
use Rattle.three_parties.proofs.Rising.{entries-rise, kept-by, renewed-by, told-among}
use Rattle.three_parties.proofs.Reading.{GoesBack, heard-in-time, live-back, other-gets, renewed-back, shows-so, stored-back}

-- A 2.03 renews no body.
body-stays : (h : List Written) (q : CoapRequest) (first : Stored) (n : ℕ) (s : Stored) → WasRenewed h q first n s
    → s.response.body ≡ first.response.body
body-stays h q first n s (never before) = refl
body-stays h q first n s (again {s = old} o c t j r m asked same was it before) = body-stays h q first o old was

module _ (R : Relation) (law : Law R) (join : DownloadsJoin) (block : ℕ) (resources : List Held) (new : AreNew resources) (s : Scene) (known : Known R (fresh block resources) s) (top : ℕ)
    (before : List (List Written)) (h : List Written) (page : IsPast (fresh block resources) s.flights known.tale.calls top h)
    (punctual : ArePunctual page.stands.reading)
    (earlier : AllByRecursion (IsEarlier R (fresh block resources) s known top page.begun) before)
    (inherited : IsInherited R block resources s known top before h) where
  abbrev its : Book R (fresh block resources) s h
  its = book-of R (fresh block resources) s known top h page

  whole-shows : (k o until : ℕ) (q r : CoapRequest) (js : List ℕ) (ms : List Content) (w : Response) → AreToldFor h o r js ms
      → ((j u : ℕ) (d : Deed) → Contains js j → IsEntry h j u d → u ≤ until)
      → whole_of r ms ≡ Some w → r.method ≡ 1 → r.peer ≡ device_at → q.peer ≡ device_at → w.code ≡ 69
      → GoesBack h k o q → ShowsHeld before h k o q r until resources s.flights s.taken w.body
  whole-shows k o until q r js ms w told early whole get to of content back =
      let it =
      law h device_at proxy_at block resources known.tale.calls (calls_before R (fresh block resources) s h its page.stands punctual) o r js ms w page.stands
      (networks R (fresh block resources) s h its page.stands punctual) (ordered R (fresh block resources) s h its page.stands punctual) new told whole get to content in
      let one = told-among h o r js ms told it.0.entry it.0.among in
      let by = early it.0.entry one.1.response.moment _ it.0.among one.1.response.heard.stands in
      shows-so R block resources s known top h page punctual before earlier k o q r it.0.block it.0.sending
      (calls_before R (fresh block resources) s h its page.stands punctual it.0.entry) until it.0.message w.body it.0.sent (it.0.shown, it.1)
      (heard-in-time R block resources s known top h page punctual before earlier it.0.entry r o one.0 one.1 to until by) of back

  gets-whole : GetsShowWhole before resources h s.flights s.taken
  gets-whole n t c k js answered r get to content =
      whole-shows k r.opening t r.request r.request js r.messages r.response (rests-told h n c k js r)
      (λ j u d has e. entries-rise h page.stands j n u t d _ e answered (r.before j has)) r.whole get to to content
      (live-back h n c k js r)

  -- What is stored was heard by this moment.
  abbrev IsHeardBy : Stored → ℕ → Type 0
  IsHeardBy first until = (j u : ℕ) (d : Deed) → Contains first.list j → IsEntry h j u d → u ≤ until

  here-whole : (k until : ℕ) (q : CoapRequest) (first : Stored) (w : WasWhole h q first) → IsHeardBy first until
      → WasHeardHere h first.opening w.other first.list w.messages first.heard → q.peer ≡ device_at
      → GoesBack h k first.opening q → ShowsHeld before h k first.opening q w.other until resources s.flights s.taken first.response.body
  here-whole k until q first w early here to back =
      whole-shows k first.opening until q w.other first.list w.messages first.response (kept-told h first.opening w.other first.list w.messages first.heard here)
      early w.whole
      (other-gets h q first w) (sym w.same.1 ∙ to) to w.content back

  copies-whole : (k until : ℕ) (q : CoapRequest) (first : Stored) (w : WasWhole h q first) → IsHeardBy first until
      → WasCarried h first.opening w.other first.list w.messages first.heard → q.peer ≡ device_at
      → GoesBack h k first.opening q → ShowsCarried before h k q w.other until resources s.flights s.taken first.response.body
  copies-whole k until q first w early copied to back =
      let get = other-gets h q first w in
      let all = all-carried R block resources s known top before h page punctual earlier inherited first.opening until w.other first.list w.messages early copied.asked get
      (sym w.same.1 ∙ to) copied.heard in
      let it = body-shown R proxy_at block resources known.tale.calls known.tale.follow new (values 11 (request_options w.other))
      (IsKnownBefore R block resources s known top before h page punctual earlier inherited w.other until) join w.other get w.messages first.response all w.whole w.content in
      carried-shown R block resources s known top before h page punctual earlier inherited k first.opening until q w.other it.since it.count it.sent it.message it.part it.known
      first.response.body it.is copied.asked w.same to back

  first-whole : (k until : ℕ) (q : CoapRequest) (first : Stored) (w : WasWhole h q first) → IsHeardBy first until → q.peer ≡ device_at
      → GoesBack h k first.opening q → ShowsFirst before h k q first w until resources s.flights s.taken first.response.body
  first-whole k until q first w early to back =
      (λ here. here-whole k until q first w early here to back, λ copied. copies-whole k until q first w early copied to back)

  renewed-whole : RenewedShowWhole before resources h s.flights s.taken
  renewed-whole n t c k js answered r to =
      subst (ShowsFirst before h k r.request r.was.first r.was.whole t resources s.flights s.taken)
      (sym (body-stays h r.request r.was.first r.opening r.stored r.was.renewed))
      (first-whole k t r.request r.was.first r.was.whole (renewed-by h page.stands n t c k js answered r) to (renewed-back h n c k js r))

  kept-whole : KeptShowWhole before resources h s.flights s.taken
  kept-whole n t c k js answered r to =
      subst (ShowsFirst before h k r.request r.is.first r.is.whole t resources s.flights s.taken)
      (sym (body-stays h r.request r.is.first k r.stored r.is.renewed))
      (first-whole k t r.request r.is.first r.is.whole (kept-by h page.stands t c k js r) to (stored-back h k r.request r.stored r.is))

  pub all-whole : GetsShowWhole before resources h s.flights s.taken × RenewedShowWhole before resources h s.flights s.taken
      × KeptShowWhole before resources h s.flights s.taken
  all-whole = (gets-whole, renewed-whole, kept-whole)

-- what is said of one journal, and what of all
abbrev WholesOne : List Held → List Going → List Execution → List (List Written) → List Written → Type 0
WholesOne resources flights taken before h =
    GetsShowWhole before resources h flights taken × RenewedShowWhole before resources h flights taken × KeptShowWhole before resources h flights taken

-- a story of a device that is a new one
pub wholes-of : (R : Relation) → Law R → DownloadsJoin → (holds : Form → Form → List ℕ → List ℕ → Type 0) (takes : Form → Form → List ℕ → Type 0)
    (rules : Rules) (first : Device) (turns : List Turn) (out : List Emission) (flights : List Going) (h : List Written) (last : Device)
    (taken : List Execution) → IsStory holds takes R rules first turns out flights h last taken → Stands h
    → (block : ℕ) (resources : List Held) → first ≡ fresh block resources → AreNew resources
    → WholesShowInTime turns resources out h flights taken
wholes-of R law join holds takes rules first turns out flights h last taken story stands block resources e fresh_ones looks =
    subst (λ (w : List Written). Stands w → EachAfter (WholesOne resources flights taken) [] (journals out w)) (sym new.journal) shown stands
  where
    new : IsStory holds takes R rules (fresh block resources) turns out flights h last taken
    new = subst (λ (d : Device). IsStory holds takes R rules d turns out flights h last taken) e story

    shown : Stands new.world.core.state.entries → EachAfter (WholesOne resources flights taken) [] (journals out new.world.core.state.entries)
    shown stands =
        each-after R holds takes rules block resources turns out flights h last taken new (WholesOne resources flights taken) stands looks
        (λ top before w page punctual earlier inherited.
        all-whole R law join block resources fresh_ones (at_last R holds takes rules block resources turns out flights h last taken new)
        (known_last R holds takes rules block resources turns out flights h last taken new) top before w page punctual earlier inherited)
