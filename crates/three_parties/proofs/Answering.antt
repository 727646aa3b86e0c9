-- An answer to a GET shows what the resource held, where it rests on one reply.
use Rattle.std.proofs.Common.{◌≡◌, ℕ, ◌≤◌, List, [], ◌∷◌, sym, ap, subst, ◌∙◌}
use Rattle.std.specs.List.{AllByRecursion, Contains}
use Rattle.coap_codec.specs.Spelling.{Content}
use Rattle.coap_codec.specs.Values.{values}
use Rattle.media_map.specs.declared.form.Form.{Form}
use Rattle.ask_model.specs.Requests.{CoapRequest, request_options}
use Rattle.ask_model.specs.Views.{Rules}
use Rattle.journal_book.specs.Entries.{Deed, Written}
use Rattle.resp_cache.specs.Stored.{Stored}
use Rattle.history_laws.specs.Justified.{Stands}
use Rattle.history_claims.specs.Headline.{IsEntry}
use Rattle.history_claims.specs.Stored.{WasCarried, WasHeardHere, WasWhole}
use Rattle.demo_origin.specs.Answers.{shown_part}
use Rattle.demo_origin.specs.Origins.{fresh}
use Rattle.demo_origin.specs.Values.{Device, Relation}
use Rattle.demo_origin.specs.declared.state.Held.{Held}
use Rattle.story_laws.specs.Lateness.{ArePunctual}
use Rattle.story_laws.specs.Orders.{WritesShow as Law}
use Rattle.story_laws.proofs.Showing.{described-whole}
use Rattle.story_laws.proofs.Told.{kept-told, rests-told}
use Rattle.story_laws.proofs.Wholes.{AreShown}
use Rattle.gateway_model.specs.Emissions.{Emission}
use Rattle.three_parties.specs.Flights.{Going, device_at, proxy_at}
use Rattle.three_parties.specs.Reads.{EachAfter, GetsShow, GetsShowInTime, KeptShow, RenewedShow, ShowsCarried, ShowsFirst, ShowsHeld, journals}
use Rattle.three_parties.specs.Scenes.{Scene}
use Rattle.three_parties.specs.Stories.{IsStory}
use Rattle.three_parties.specs.declared.story.Execution.{Execution}
use Rattle.three_parties.specs.declared.turn.Turn.{Turn}
use Rattle.three_parties.proofs.Carried.{IsKnownBefore, all-carried, carried-shown}
use Rattle.three_parties.proofs.Chapters.{IsPast}
use Rattle.three_parties.proofs.Inherited.{IsInherited}
use Rattle.three_parties.proofs.Knowing.{Known}
use Rattle.three_parties.proofs.Pages.{IsEarlier}
use Rattle.three_parties.proofs.Rising.{entries-rise, kept-by, renewed-by}
use Rattle.three_parties.proofs.Reading.{GoesBack, live-back, one-told, other-gets, renewed-back, shows, stored-back}
use Rattle.three_parties.proofs.Walking.{at_last, each-after, known_last}

module _ (R : Relation) (law : Law R) (block : ℕ) (resources : List Held) (s : Scene) (known : Known R (fresh block resources) s) (top : ℕ)
    (before : List (List Written)) (h : List Written) (page : IsPast (fresh block resources) s.flights known.tale.calls top h)
    (punctual : ArePunctual page.stands.reading)
    (earlier : AllByRecursion (IsEarlier R (fresh block resources) s known top page.begun) before)
    (inherited : IsInherited R block resources s known top before h) where
  gets-show : GetsShow before resources h s.flights s.taken
  gets-show n t c k js m answered r one get to content whole =
      let x = one-told h r.opening r.request js r.messages m one (rests-told h n c k js r) in
      let rise = entries-rise h page.stands x.0 n x.1.response.moment t _ _ x.1.response.heard.stands answered (r.before x.0 x.2) in
      shows R block resources s known top h page punctual before earlier law k r.opening r.request r.request x.0 t m x.1 rise get to to content whole
      (live-back h n c k js r)

  -- What is stored was heard by this moment.
  abbrev IsHeardBy : Stored → ℕ → Type 0
  IsHeardBy first until = (j u : ℕ) (d : Deed) → Contains first.list j → IsEntry h j u d → u ≤ until

  -- what was heard first of what is stored: here,
  here-shows : (k until : ℕ) (q : CoapRequest) (first : Stored) (w : WasWhole h q first) (m : Content) → IsHeardBy first until
      → WasHeardHere h first.opening w.other first.list w.messages first.heard → w.messages ≡ m ∷ [] → q.peer ≡ device_at
      → m.code ≡ 69 → values 23 m.options ≡ [] → GoesBack h k first.opening q
      → ShowsHeld before h k first.opening q w.other until resources s.flights s.taken m.payload
  here-shows k until q first w m early here one to content whole back =
      let told = kept-told h first.opening w.other first.list w.messages first.heard here in
      let x = one-told h first.opening w.other first.list w.messages m one told in
      shows R block resources s known top h page punctual before earlier law k first.opening q w.other x.0 until m x.1
      (early x.0 x.1.response.moment _ x.2 x.1.response.heard.stands) (other-gets h q first w) (sym w.same.1 ∙ to) to content whole back

  -- or before
  copies-show : (k until : ℕ) (q : CoapRequest) (first : Stored) (w : WasWhole h q first) (m : Content) → IsHeardBy first until
      → WasCarried h first.opening w.other first.list w.messages first.heard → w.messages ≡ m ∷ [] → q.peer ≡ device_at
      → m.code ≡ 69 → values 23 m.options ≡ [] → GoesBack h k first.opening q
      → ShowsCarried before h k q w.other until resources s.flights s.taken m.payload
  copies-show k until q first w m early copied one to content whole back =
      let all = all-carried R block resources s known top before h page punctual earlier inherited first.opening until w.other first.list w.messages early copied.asked
      (other-gets h q first w) (sym w.same.1 ∙ to) copied.heard in
      let x = (subst (AreShown proxy_at (fresh block resources) known.tale.calls (values 11 (request_options w.other))
      (IsKnownBefore R block resources s known top before h page punctual earlier inherited w.other until)) one all).0 content in
      let p = x.part in
      let alone = described-whole p.held p.observed p.part m.options p.describes whole in
      carried-shown R block resources s known top before h page punctual earlier inherited k first.opening until q w.other x.since x.count x.sent m p x.known m.payload
      (p.shown ∙ ap (λ (b : _). shown_part b p.held.state) alone) copied.asked w.same to back

  first-shows : (k until : ℕ) (q : CoapRequest) (first : Stored) (w : WasWhole h q first) (m : Content) → IsHeardBy first until → w.messages ≡ m ∷ []
      → q.peer ≡ device_at → m.code ≡ 69 → values 23 m.options ≡ [] → GoesBack h k first.opening q
      → ShowsFirst before h k q first w until resources s.flights s.taken m.payload
  first-shows k until q first w m early one to content whole back = (
    λ here. here-shows k until q first w m early here one to content whole back,
    λ copied. copies-show k until q first w m early copied one to content whole back,
  )

  renewed-show : RenewedShow before resources h s.flights s.taken
  renewed-show n t c k js m answered r one to content whole =
      first-shows k t r.request r.was.first r.was.whole m (renewed-by h page.stands n t c k js answered r) one to content whole (renewed-back h n c k js r)

  kept-show : KeptShow before resources h s.flights s.taken
  kept-show n t c k js m answered r one to content whole =
      first-shows k t r.request r.is.first r.is.whole m (kept-by h page.stands t c k js r) one to content whole (stored-back h k r.request r.stored r.is)

  pub all-show : GetsShow before resources h s.flights s.taken × RenewedShow before resources h s.flights s.taken
      × KeptShow before resources h s.flights s.taken
  all-show = (gets-show, renewed-show, kept-show)

-- what is said of one journal
abbrev ReadsOne : List Held → List Going → List Execution → List (List Written) → List Written → Type 0
ReadsOne resources flights taken before h =
    GetsShow before resources h flights taken × RenewedShow before resources h flights taken × KeptShow before resources h flights taken

-- a story of a device that is a new one
pub reads-of : (R : Relation) → Law R → (holds : Form → Form → List ℕ → List ℕ → Type 0) (takes : Form → Form → List ℕ → Type 0)
    (rules : Rules) (first : Device) (turns : List Turn) (out : List Emission) (flights : List Going) (h : List Written) (last : Device)
    (taken : List Execution) → IsStory holds takes R rules first turns out flights h last taken → Stands h
    → (block : ℕ) (resources : List Held) → first ≡ fresh block resources
    → GetsShowInTime turns resources out h flights taken
reads-of R law holds takes rules first turns out flights h last taken story stands block resources e looks =
    subst (λ (w : List Written). Stands w → EachAfter (ReadsOne resources flights taken) [] (journals out w)) (sym new.journal) shown stands
  where
    new : IsStory holds takes R rules (fresh block resources) turns out flights h last taken
    new = subst (λ (d : Device). IsStory holds takes R rules d turns out flights h last taken) e story

    shown : Stands new.world.core.state.entries → EachAfter (ReadsOne resources flights taken) [] (journals out new.world.core.state.entries)
    shown stands =
        each-after R holds takes rules block resources turns out flights h last taken new (ReadsOne resources flights taken) stands looks
        (λ top before w page punctual earlier inherited.
        all-show R law block resources (at_last R holds takes rules block resources turns out flights h last taken new)
        (known_last R holds takes rules block resources turns out flights h last taken new) top before w page punctual earlier inherited)
