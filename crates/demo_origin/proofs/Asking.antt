-- Registrations are asked for: a call adds none but for a GET with Observe 0.
use Rattle.std.proofs.Common.{◌≡◌, ℕ, zero, suc, List, [], ◌∷◌, ◌++◌, append_assoc, append-nil, length, take, slice_get, Option, Some, None, Result, Ok, Err, Bool, true, false, nat_lt, refl, sym, ap, subst, ◌∙◌}
use Rattle.std.specs.List.{AllByRecursion, list_any}
use Rattle.uri_map.specs.declared.peer.Peer.{Peer}
use Rattle.coap_codec.specs.Spelling.{Content, Entry}
use Rattle.coap_codec.specs.Reading.{message_at}
use Rattle.coap_codec.specs.Values.{values}
use Rattle.coap_codec.specs.declared.block.Block.{Block}
use Rattle.coap_codec.specs.declared.fault.CodecFault.{CodecFault}
use Rattle.message_layer.specs.Hearing.{reset_for}
use Rattle.demo_origin.specs.Values.{Device, Relation}
use Rattle.demo_origin.specs.Answers.{AnswersGet, Declines, Reads, ReadsBy, ReadsPart}
use Rattle.demo_origin.specs.Arrivals.{arrival}
use Rattle.demo_origin.specs.Asked.{IsAskedIn, IsAskedFor, RegistrationsAreAsked}
use Rattle.demo_origin.specs.Blocks.{named_by, part_of}
use Rattle.demo_origin.specs.Calls.{Call, Follow}
use Rattle.demo_origin.specs.Hearing.{asker, piece_after, undecoded, Executes, TakesPiece, Asks, Processes, Takes, HearsRead, HearsBy}
use Rattle.demo_origin.specs.Notifying.{talk_of, without_lost, Settles}
use Rattle.demo_origin.specs.Observing.{wish_of, enlisted, left_by, newcomer, is_entry, is_no_entry, has_place, is_sent_as, is_not_sent_as, relieved, acknowledged, rejected}
use Rattle.demo_origin.specs.Once.{Event, heard, looked, gave, Steps}
use Rattle.demo_origin.specs.Origins.{fresh, sent_by, Ticks}
use Rattle.demo_origin.specs.Requests.{IsAt, judged}
use Rattle.demo_origin.specs.Tags.{is_valid}
use Rattle.demo_origin.specs.Uploads.{with_piece, with_body}
use Rattle.demo_origin.specs.declared.execution.Taken.{Taken}
use Rattle.demo_origin.specs.declared.request.Method.{Method}
use Rattle.demo_origin.specs.declared.observers.Wish.{Wish}
use Rattle.demo_origin.specs.declared.observers.Wish.TheVariants.{Register, Deregister, Nothing}
use Rattle.demo_origin.specs.declared.state.Datagram.{Datagram}
use Rattle.demo_origin.specs.declared.state.Held.{Held}
use Rattle.demo_origin.specs.declared.state.Observer.{Observer}
use Rattle.demo_origin.specs.declared.arrival.Arrival.{Arrival}
use Rattle.demo_origin.specs.declared.arrival.Arrival.TheVariants.{Ignored, Empty, Rejected, Repeated, Fresh, Acknowledged, Reset}
use Rattle.demo_origin.specs.declared.judge.Judged.{Judged}
use Rattle.demo_origin.specs.declared.judge.Judged.TheVariants.{Dropped, Refused, NotAcceptable, Read, Asked}
use Rattle.demo_origin.specs.declared.blocks.Part.{Part}
use Rattle.demo_origin.specs.declared.blocks.Part.TheVariants.{Whole, Piece, Past}
use Rattle.demo_origin.specs.declared.uploads.Joined.{Joined}
use Rattle.demo_origin.specs.declared.uploads.Joined.TheVariants.{Gap, TooLarge, Next, Last}
use Rattle.demo_origin.proofs.Alls.{all_push, all_filter, all_map, all_found, all_same, all_among}
use Rattle.demo_origin.proofs.Judging.{either_way, IsRight, judged_right}
use Rattle.demo_origin.proofs.Talking.{ToldMade, NoteMade, Stems, stems_itself, TalkMade, Announced, tells_all, copies_all, without}

-- ---- what is said to observers makes and ends no registration

abbrev AnyDatagram : Datagram → Type 0
AnyDatagram d = Unit {0}

anything : (all : List Observer) (rs : List Held) (szx : ℕ) → Announced AnyDatagram all rs szx
anything all rs szx o p bytes h mid among to stands notifies = tt

noted_so : (o : Observer) → ToldMade AnyDatagram o
noted_so o =
    elim o.outstanding as (λ n. NoteMade AnyDatagram o.peer n) [ None ↦ tt | Some n ↦ tt ]

talk : (s : Device) → TalkMade AnyDatagram s.observers (talk_of s)
talk s = record {
  out = all_among AnyDatagram s.out (λ d c. tt);
  told = all_among (ToldMade AnyDatagram) s.observers (λ o c. noted_so o);
  stems = stems_itself s.observers;
}

settled_stems : (t : ℕ) (old new : Device) → Settles t old new
    → AllByRecursion (Stems old.observers) new.observers
settled_stems t old new s =
    let P : Device → Type 0 = λ d. AllByRecursion (Stems old.observers) d.observers in
    subst P (sym s.is)
    (tells_all AnyDatagram old.observers old.resources t old.block
    (anything old.observers old.resources old.block) (talk_of old) s.talk s.tells
    (talk old)).stems

ticked_stems : (t : ℕ) (old new : Device) → Ticks t old new
    → AllByRecursion (Stems old.observers) new.observers
ticked_stems t old new h =
    let any = anything old.observers old.resources old.block in
    let P : Device → Type 0 = λ d. AllByRecursion (Stems old.observers) d.observers in
    let copied = copies_all AnyDatagram old.observers old.resources t old.block any
    (without_lost t (talk_of old)) h.copied h.copies
    (without AnyDatagram old.observers old.resources t old.block any (talk_of old) (talk old)) in
    subst P (sym h.is)
    (tells_all AnyDatagram old.observers old.resources t old.block any h.copied h.told h.tells
    copied).stems

-- ---- what holds of a registration whatever it was told

module _ (P : Observer → Type 0)
    (same : (a b : Observer) → b.peer ≡ a.peer → b.token ≡ a.token → b.place ≡ a.place
    → P a → P b) where
  stemming : (all os : List Observer) → AllByRecursion (Stems all) os → AllByRecursion P all
      → AllByRecursion P os
  stemming all os stems h =
      all_same (Stems all) P os
      (λ o s. same s.from o s.peer s.token s.place (all_found P all s.from h s.among)) stems

  as_before : (old new : Device) → new.observers ≡ old.observers → AllByRecursion P old.observers
      → AllByRecursion P new.observers
  as_before old new e h =
      let Q : List Observer → Type 0 = λ os. AllByRecursion P os in
      subst Q (sym e) h

  settles : (t : ℕ) (old new : Device) → Settles t old new → AllByRecursion P old.observers
      → AllByRecursion P new.observers
  settles t old new s h =
      stemming old.observers new.observers (settled_stems t old new s) h

  relieves : (p : Peer) (mid : ℕ) (o : Observer) → P o → P (relieved p mid o)
  relieves p mid o h =
      either_way P (is_sent_as p mid o) (record o { outstanding = None }) o
      (λ e. same o (record o { outstanding = None }) refl refl refl h) (λ e. h)

  enlists : (wish : Wish) (p : Peer) (i : ℕ) (token : List ℕ) (version : ℕ) (os : List Observer)
      → (wish ≡ Register → P (newcomer p i token version)) → AllByRecursion P os
      → AllByRecursion P (enlisted wish p i token version os)
  enlists Register p i token version os k h =
      let Q : List Observer → Type 0 = λ xs. AllByRecursion P xs in
      either_way Q (list_any (is_entry p i token) os) os _ (λ e. h)
      (λ e. either_way Q (has_place i os) (os ++ newcomer p i token version ∷ []) os
      (λ e. all_push P os (newcomer p i token version) h (k refl)) (λ e. h))
  enlists Deregister p i token version os k h = all_filter P (is_no_entry p i token) os h
  enlists Nothing p i token version os k h = h

  leaves : (wish : Wish) (p : Peer) (i : ℕ) (token : List ℕ) (os : List Observer)
      → AllByRecursion P os → AllByRecursion P (left_by wish p i token os)
  leaves Register p i token os h = h
  leaves Deregister p i token os h = all_filter P (is_no_entry p i token) os h
  leaves Nothing p i token os h = h

  -- ---- a datagram

  module _ (R : Relation) (t : ℕ) (p : Peer) (d : List ℕ) (old : Device)
      (registers : (m : Content) → message_at d ≡ Ok m → m.code ≡ 1
      → wish_of (values 6 m.options) ≡ Register → (i : ℕ) (h : Held)
      → IsAt (values 11 m.options) old.resources i h → (version : ℕ)
      → P (newcomer p i m.token version)) where
    module _ (m : Content) (e : message_at d ≡ Ok m) where
      gets : (i : ℕ) (held : Held) (code : ℕ) (describes_as : Bool → List Entry → Type 0)
          (payload : List ℕ) (new : Device) → m.code ≡ 1
          → IsAt (values 11 m.options) old.resources i held
          → AnswersGet (asker t p m) i (wish_of (values 6 m.options)) held.version code
          describes_as payload old new
          → AllByRecursion P old.observers → AllByRecursion P new.observers
      gets i held code describes_as payload new get at s h =
          let Q : List Observer → Type 0 = λ os. AllByRecursion P os in
          subst Q (sym (ap (λ (x : Device). x.observers) s.is))
          (enlists (wish_of (values 6 m.options)) p i m.token held.version s.middle.observers
          (λ wish. registers m e get wish i held at held.version)
          (subst Q (sym (ap (λ (x : Device). x.observers) s.answers.is)) h))

      declines : (i : ℕ) (wish : Wish) (code : ℕ) (new : Device)
          → Declines (asker t p m) i wish code old new → AllByRecursion P old.observers
          → AllByRecursion P new.observers
      declines i wish code new s h =
          let Q : List Observer → Type 0 = λ os. AllByRecursion P os in
          subst Q (sym (ap (λ (x : Device). x.observers) s.is))
          (leaves wish p i m.token s.middle.observers
          (subst Q (sym (ap (λ (x : Device). x.observers) s.answers.is)) h))

      parts : (i : ℕ) (held : Held) (part : Part) (new : Device) → m.code ≡ 1
          → IsAt (values 11 m.options) old.resources i held
          → ReadsPart (asker t p m) i (wish_of (values 6 m.options)) held part old new
          → AllByRecursion P old.observers → AllByRecursion P new.observers
      parts i held Whole new get at s h = gets i held _ _ _ new get at s h
      parts i held (Piece b) new get at s h = gets i held _ _ _ new get at s h
      parts i held Past new get at s h =
          declines i (wish_of (values 6 m.options)) 128 new s h

      by_tag : (b : Bool) (i : ℕ) (held : Held) (new : Device) → m.code ≡ 1
          → IsAt (values 11 m.options) old.resources i held
          → ReadsBy b (asker t p m) i (wish_of (values 6 m.options))
          (named_by (values 23 m.options)) held old new
          → AllByRecursion P old.observers → AllByRecursion P new.observers
      by_tag true i held new get at s h = gets i held _ _ _ new get at s h
      by_tag false i held new get at s h =
          parts i held
          (part_of (named_by (values 23 m.options)) old.block (length held.state)) new get at s h

      reads : (i : ℕ) (o : Option Held) (new : Device) → slice_get old.resources i ≡ o
          → IsRight m old.resources (Read i)
          → Reads (asker t p m) i (wish_of (values 6 m.options)) (values 4 m.options)
          (named_by (values 23 m.options)) o old new
          → AllByRecursion P old.observers → AllByRecursion P new.observers
      reads i None new at right s h = absurd s
      reads i (Some held) new at right s h =
          by_tag (is_valid (values 4 m.options) (named_by (values 23 m.options)) held.version) i
          held new right.get (record { first = right.stands.first; stands = at }) s h

      executes : (body : List ℕ) (i : ℕ) (method : Method) (new : Device) (done : Taken)
          → Executes R (asker t p m) (with_body body m) i method old new done
          → AllByRecursion P old.observers → AllByRecursion P new.observers
      executes body i method new done x h =
          let Q : List Observer → Type 0 = λ os. AllByRecursion P os in
          settles t x.changes.middle new x.changes.settles
          (subst Q (sym (ap (λ (y : Device). y.observers) x.changes.answers.is)) h)

      pieces : (i : ℕ) (method : Method) (b : Block) (j : Joined) (new : Device)
          (taken : Option Taken) → TakesPiece R (asker t p m) m i method b j old new taken
          → AllByRecursion P old.observers → AllByRecursion P new.observers
      pieces i method b Gap new taken x h =
          as_before old new
          (ap (λ (y : Device). y.observers) x.0.is
          ∙ ap (λ (y : Device). y.observers) x.0.answers.is) h
      pieces i method b TooLarge new taken x h =
          as_before old new
          (ap (λ (y : Device). y.observers) x.0.is
          ∙ ap (λ (y : Device). y.observers) x.0.answers.is) h
      pieces i method b Next new taken x h =
          as_before old new (ap (λ (y : Device). y.observers) x.0.answers.is) h
      pieces i method b Last new taken x h =
          as_before x.2.0 new (ap (λ (y : Device). y.observers) x.2.2)
          (executes (with_piece p i b m.payload old) i method x.2.0 x.0 x.2.1 h)

      asks : (i : ℕ) (method : Method) (named : Option Block) (new : Device)
          (taken : Option Taken) → Asks R (asker t p m) m i method named old new taken
          → AllByRecursion P old.observers → AllByRecursion P new.observers
      asks i method None new taken x h = executes m.payload i method new x.0 x.2 h
      asks i method (Some b) new taken x h =
          pieces i method b (piece_after p i b m old) new taken x h

      processes : (j : Judged) (new : Device) (taken : Option Taken)
          → IsRight m old.resources j → Processes R (asker t p m) m j old new taken
          → AllByRecursion P old.observers → AllByRecursion P new.observers
      processes Dropped new taken right x h =
          as_before old new (ap (λ (y : Device). y.observers) x.0) h
      processes (Refused code) new taken right x h =
          as_before old new (ap (λ (y : Device). y.observers) x.0.is) h
      processes (NotAcceptable i) new taken right x h =
          declines i (wish_of (values 6 m.options)) 134 new x.0 h
      processes (Read i) new taken right x h =
          reads i (slice_get old.resources i) new refl right x.0 h
      processes (Asked i method) new taken right x h =
          asks i method (named_by (values 27 m.options)) new taken x h

      arrives : (a : Arrival) (new : Device) (taken : Option Taken)
          → Takes R t p m a old new taken → AllByRecursion P old.observers
          → AllByRecursion P new.observers
      arrives Ignored new taken x h =
          as_before old new (ap (λ (y : Device). y.observers) x.0) h
      arrives Empty new taken x h =
          as_before old new (ap (λ (y : Device). y.observers) x.0) h
      arrives Rejected new taken x h =
          as_before old new (ap (λ (y : Device). y.observers) x.0) h
      arrives (Repeated answer) new taken x h =
          as_before old new (ap (λ (y : Device). y.observers) x.0) h
      arrives Acknowledged new taken x h =
          settles t (acknowledged p m.mid old) new x.0
          (all_map P (relieved p m.mid) old.observers (λ o k. relieves p m.mid o k) h)
      arrives Reset new taken x h =
          settles t (rejected p m.mid old) new x.0
          (all_filter P (is_not_sent_as p m.mid) old.observers h)
      arrives Fresh new taken x h =
          processes (judged m old.resources) new taken (judged_right m old.resources) x h

    undecodes : (o : Option ℕ) (new : Device) → new ≡ undecoded p o old
        → new.observers ≡ old.observers
    undecodes None new e = ap (λ (y : Device). y.observers) e
    undecodes (Some mid) new e = ap (λ (y : Device). y.observers) e

    by_read : (r : Result Content CodecFault) (new : Device) (taken : Option Taken)
        → message_at d ≡ r → HearsRead R t p d r old new taken
        → AllByRecursion P old.observers → AllByRecursion P new.observers
    by_read (Ok m) new taken e x h = arrives m e (arrival t p m old) new taken x h
    by_read (Err f) new taken e x h =
        as_before old new (undecodes (reset_for d) new x.0) h

    hears : (b : Bool) (new : Device) (taken : Option Taken) → HearsBy b R t p d old new taken
        → AllByRecursion P old.observers → AllByRecursion P new.observers
    hears true new taken x h = as_before old new (ap (λ (y : Device). y.observers) x.0) h
    hears false new taken x h = by_read (message_at d) new taken refl x h

-- ---- a call

gives : (ds : List Datagram) (s : Device) → (sent_by s ds).0.observers ≡ s.observers
gives [] s = refl
gives (d ∷ ds) s = refl

calls : (R : Relation) (P : Observer → Type 0)
    (same : (a b : Observer) → b.peer ≡ a.peer → b.token ≡ a.token → b.place ≡ a.place
    → P a → P b)
    (e : Event) (old new : Device)
    → ((o : Observer) → IsAskedIn (record { event = e; before = old; after = new }) o → P o)
    → Steps R e old new → AllByRecursion P old.observers → AllByRecursion P new.observers
calls R P same (heard t p d taken) old new k x h =
    hears P same R t p d old
    (λ m reads get wish i held at version. k (newcomer p i m.token version) (record {
      moment = t;
      datagram = d;
      taken = taken;
      comes = refl;
      message = m;
      reads = reads;
      get = get;
      wish = wish;
      token = refl;
      held = held;
      stood = at;
    }))
    (nat_lt 2048 (length d)) new taken x h
calls R P same (looked t) old new k x h =
    stemming P same old.observers new.observers (ticked_stems t old new x) h
calls R P same gave old new k x h =
    as_before P same old new
    (ap (λ (y : Device). y.observers) x ∙ gives old.out old) h

-- ---- a run

asked_alike : (cs : List Call) (a b : Observer) → b.peer ≡ a.peer → b.token ≡ a.token
    → b.place ≡ a.place → IsAskedFor cs a → IsAskedFor cs b
asked_alike cs a b peer token place x =
    let P : Peer → Type 0 = λ p. x.call.event ≡ heard x.asks.moment p x.asks.datagram x.asks.taken
    in
    let Q : ℕ → Type 0 = λ i.
    IsAt (values 11 x.asks.message.options) x.call.before.resources i x.asks.held in
    record {
      number = x.number;
      call = x.call;
      among = x.among;
      asks = record {
        moment = x.asks.moment;
        datagram = x.asks.datagram;
        taken = x.asks.taken;
        comes = subst P (sym peer) x.asks.comes;
        message = x.asks.message;
        reads = x.asks.reads;
        get = x.asks.get;
        wish = x.asks.wish;
        token = token ∙ x.asks.token;
        held = x.asks.held;
        stood = subst Q (sym place) x.asks.stood;
      };
    }

get_push : (cs : List Call) (c : Call) → slice_get (cs ++ c ∷ []) (length cs) ≡ Some c
get_push [] c = refl
get_push (x ∷ xs) c = get_push xs c

get_append : (cs more : List Call) (k : ℕ) (c : Call) → slice_get cs k ≡ Some c
    → slice_get (cs ++ more) k ≡ Some c
get_append [] more k c e = absurd cc
get_append (x ∷ xs) more zero c e = e
get_append (x ∷ xs) more (suc k) c e = get_append xs more k c e

follows : (R : Relation) (done : List Call) (s : Device) (cs : List Call) (k : ℕ) (c : Call)
    → Follow R s cs → slice_get cs k ≡ Some c → AllByRecursion (IsAskedFor done) s.observers
    → AllByRecursion (IsAskedFor (done ++ take k cs)) c.before.observers
follows R done s [] k c f at h = absurd cc
follows R done s (x ∷ xs) zero c f at h =
    let is : x ≡ c = cc in
    let e : c.before ≡ s = ap (λ (v : Call). v.before) (sym is) ∙ f.0 in
    let P : List Call → Type 0 = λ cs. AllByRecursion (IsAskedFor cs) c.before.observers in
    let Q : Device → Type 0 = λ v. AllByRecursion (IsAskedFor done) v.observers in
    subst P (sym (append-nil done)) (subst Q (sym e) h)
follows R done s (x ∷ xs) (suc k) c f at h =
    let more : List Call = done ++ x ∷ [] in
    let Q : Device → Type 0 = λ v. AllByRecursion (IsAskedFor more) v.observers in
    let longer : AllByRecursion (IsAskedFor more) s.observers =
    all_same (IsAskedFor done) (IsAskedFor more) s.observers
    (λ o y. record {
      number = y.number;
      call = y.call;
      among = get_append done (x ∷ []) y.number y.call y.among;
      asks = y.asks;
    }) h in
    let after : AllByRecursion (IsAskedFor more) x.after.observers =
    calls R (IsAskedFor more) (λ a b peer token place y. asked_alike more a b peer token place y)
    x.event x.before x.after
    (λ o y. record { number = length done; call = x; among = get_push done x; asks = y })
    f.1 (subst Q (sym f.0) longer) in
    let P : List Call → Type 0 = λ cs. AllByRecursion (IsAskedFor cs) c.before.observers in
    subst P (append_assoc done (x ∷ []) (take k xs))
    (follows R more x.after xs k c f.2 at after)

pub registrations_are_asked : (R : Relation) → RegistrationsAreAsked R
registrations_are_asked R block resources cs k c f at =
    follows R [] (fresh block resources) cs k c f at tt
