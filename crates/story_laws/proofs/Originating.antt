-- What the device hears from the proxy, and what it gives out to it, goes back to a first sending.
use Rattle.std.proofs.Common.{◌≡◌, ℕ, zero, suc, ◌+◌, ◌<◌, ◌≤◌, ◌*◌, ◌/◌, ◌%◌, Bool, true, false, inl, inr, List, [], ◌∷◌, ◌++◌, length, take, Option, Some, None, refl, sym, ap, subst, ◌∙◌, arith}
use Rattle.std.specs.Prelude.{slice_get, Result, Ok}
use Rattle.std.specs.List.{AllByRecursion, Contains}
use Rattle.coap_codec.specs.Spelling.{Content, Entry, Spells, code_of}
use Rattle.coap_codec.specs.Reading.{message_at}
use Rattle.coap_codec.specs.declared.fault.CodecFault.{CodecFault}
use Rattle.coap_codec.proofs.Again.{message_again}
use Rattle.coap_codec.proofs.Unique.{spells_one}
use Rattle.uri_map.specs.declared.peer.Peer.{Peer}
use Rattle.journal_book.specs.Entries.{Deed, Sends}
use Rattle.history_laws.specs.Readings.{Noted, Note, First, Copies, Confirms, Plain, Begins, Renews, Joins, Serves, Says, Repeats, Garbled, Bygone, Recalls, noted, at, before}
use Rattle.history_laws.specs.Justified.{Follows, Legal}
use Rattle.history_laws.specs.Laws.{IsFirst}
use Rattle.history_laws.proofs.CallerLemmas.{all-of, at-before, at-same, follows-at, legal-before, none-some, some-is}
use Rattle.demo_origin.specs.Answers.{answer_to}
use Rattle.demo_origin.specs.Arrivals.{is_request}
use Rattle.demo_origin.specs.Asked.{IsAskedFor}
use Rattle.demo_origin.specs.Calls.{Call, Follow, left_by}
use Rattle.demo_origin.specs.Hearing.{asker, rst}
use Rattle.demo_origin.specs.Made.{Says as Tells, ShowsState, ShowsValid, ShowsReply, WantsMore, Declined, Resets, Responds, Announces, Makes, IsMade}
use Rattle.demo_origin.specs.Once.{Event, heard}
use Rattle.demo_origin.specs.Origins.{fresh}
use Rattle.demo_origin.specs.Values.{Device, Relation}
use Rattle.demo_origin.specs.declared.execution.Taken.{Taken}
use Rattle.demo_origin.specs.declared.state.Datagram.{Datagram}
use Rattle.demo_origin.specs.declared.state.Held.{Held}
use Rattle.demo_origin.specs.declared.state.Observer.{Observer}
use Rattle.demo_origin.proofs.Asking.{registrations_are_asked}
use Rattle.demo_origin.proofs.Making.{answers_are_made}
use Rattle.story_laws.specs.Executions.{Executes}
use Rattle.story_laws.specs.Networks.{IsDelivered, IsBrought, IsGiven, Networks}
use Rattle.story_laws.proofs.Calling.{all-at}
use Rattle.story_laws.proofs.Sending.{first-same}

-- ---- calls among the first ones

pub follow-take : (R : Relation) (cs : List Call) (s : Device) (n : ℕ) → Follow R s cs → Follow R s (take n cs)
follow-take R cs s zero f = tt
follow-take R [] s (suc n) f = tt
follow-take R (c ∷ cs) s (suc n) f = (f.0, f.1, follow-take R cs c.after n f.2)

pub at-take : (cs : List Call) (n a : ℕ) (c : Call) → slice_get (take n cs) a ≡ Some c → slice_get cs a ≡ Some c
at-take cs zero a c e = absurd (none-some c e)
at-take [] (suc n) a c e = absurd (none-some c e)
at-take (x ∷ cs) (suc n) zero c e = e
at-take (x ∷ cs) (suc n) (suc a) c e = at-take cs n a c e

pub below-take : (cs : List Call) (n a : ℕ) (c : Call) → slice_get (take n cs) a ≡ Some c → a < n
below-take cs zero a c e = absurd (none-some c e)
below-take [] (suc n) a c e = absurd (none-some c e)
below-take (x ∷ cs) (suc n) zero c e = omega arith
below-take (x ∷ cs) (suc n) (suc a) c e = let lt = below-take cs n a c e in omega (arith, lt)

pub at-contained : (cs : List Call) (c : Call) → Contains cs c → (a : ℕ) × (slice_get cs a ≡ Some c)
at-contained [] c h = absurd (omega (arith, h.1))
at-contained (x ∷ cs) c (zero, lt, e) = (0, ap (λ (v : Call). Some v) e)
at-contained (x ∷ cs) c (suc k, lt, e) =
    let rest = at-contained cs c (k, omega arith, e) in (suc rest.0, rest.1)

-- ---- what a datagram of the proxy's is

-- it spells the message of a first sending, or is empty
pub record IsSpelled (l : List Noted) (bytes : List ℕ) (m : Content) : Type 0 where
  pub moment : ℕ
  pub opening : ℕ
  pub number : ℕ
  pub peer : Peer
  pub first : IsFirst l moment opening number peer m
  pub spelled : Spells m bytes

read-as : (m n : Content) (bytes : List ℕ) → Spells n bytes → message_at bytes ≡ Ok m → n ≡ m
read-as m n bytes s e = ok-is n m (message_at bytes) (message_again n bytes s) e
  where
    ok-is : (a b : Content) (r : Result Content CodecFault) → r ≡ Ok a → r ≡ Ok b → a ≡ b
    ok-is a b r f g = cc

by-note : (l : List Noted) (n t : ℕ) (p : Peer) (b : List ℕ) (w : Option ℕ) (note : Note) (m : Content) → Legal l
    → at l n ≡ Some (noted t (Sends p b w) note) → message_at b ≡ Ok m → is_request m.code ≡ true
    → Follows (before l n) t (Sends p b w) note → IsSpelled l b m
by-note l n t p b w (First o k) m legal e reads asks may =
    let same : k ≡ m = read-as m k b may.1.1.spelled reads in
    subst (λ (c : Content). IsSpelled l b c) same (record {
      moment = t;
      opening = o;
      number = n;
      peer = p;
      first = record { bytes = b; timeout = w; stands = e };
      spelled = may.1.1.spelled;
    })
by-note l n t p b w (Copies j) m legal e reads asks may =
    let copy = may.1.2 in
    let first : IsFirst (before l n) copy.moment copy.opening j p copy.message = record { bytes = b; timeout = copy.timeout; stands = copy.stands } in
    let whole : IsFirst l copy.moment copy.opening j p copy.message = record { bytes = b; timeout = copy.timeout; stands = at-before l n j _ copy.stands } in
    let spelled : Spells copy.message b = (follows-at (before l n) j _ (legal-before l n legal) copy.stands).1.1.spelled in
    let same : copy.message ≡ m = read-as m copy.message b spelled reads in
    subst (λ (c : Content). IsSpelled l b c) same (record {
      moment = copy.moment;
      opening = copy.opening;
      number = j;
      peer = p;
      first = whole;
      spelled = spelled;
    })
by-note l n t p b w Confirms m legal e reads asks may =
    let confirms = may.1.1 in
    let same = read-as m _ b confirms.spelled reads in
    let none : 0 ≡ m.code = ap (λ (c : Content). c.code) same in
    let empty : is_request 0 ≡ true = subst (λ (c : ℕ). is_request c ≡ true) (sym none) asks in
    absurd cc
by-note l n t p b w Plain m legal e reads asks may = absurd may.1
by-note l n t p b w (Begins q) m legal e reads asks may = absurd may.1
by-note l n t p b w (Renews q kept) m legal e reads asks may = absurd may.1
by-note l n t p b w (Joins q) m legal e reads asks may = absurd may.1
by-note l n t p b w (Serves js) m legal e reads asks may = absurd may.1
by-note l n t p b w (Says k to notice) m legal e reads asks may = absurd may.1
by-note l n t p b w (Repeats k j) m legal e reads asks may = absurd may.1
by-note l n t p b w Garbled m legal e reads asks may = absurd may.1
by-note l n t p b w (Bygone k) m legal e reads asks may = absurd may.1
by-note l n t p b w (Recalls k answer) m legal e reads asks may = absurd may.1

pub heard-spelled : (l : List Noted) (device : Peer) (t : ℕ) (b : List ℕ) (m : Content) → Legal l → IsDelivered l device t b
    → message_at b ≡ Ok m → is_request m.code ≡ true → IsSpelled l b m
heard-spelled l device t b m legal d reads asks =
    by-note l d.number d.moment device b d.timeout d.note m legal d.stands reads asks (follows-at l d.number _ legal d.stands)

-- the message of a first sending
abbrev message_in : Content → Note → Content
message_in other (First o m) = m
message_in other note = other

pub first-message : (l : List Noted) (s t o q i : ℕ) (p r : Peer) (m n : Content) → IsFirst l s o i p m → IsFirst l t q i r n → m ≡ n
first-message l s t o q i p r m n f g =
    ap (λ (v : Noted). message_in n v.note) (at-same l i _ _ f.stands g.stands)

-- the message with the token of a first sending is that
pub token-same : (l : List Noted) (t o i : ℕ) (p : Peer) (m n : Content) (b : List ℕ) → Legal l → IsFirst l t o i p m → IsSpelled l b n
    → n.token ≡ m.token → n ≡ m
token-same l t o i p m n b legal f h e =
    let same = first-same l h.moment t h.opening o h.number i h.peer p n m legal h.first f e in
    let g : IsFirst l h.moment h.opening i h.peer n = subst (λ (j : ℕ). IsFirst l h.moment h.opening j h.peer n) same h.first in
    first-message l h.moment t h.opening o i h.peer p n m g f

-- ---- what a response of the device's goes back to

-- The call, one of the first, executed the message under whose token a response of success came.
pub record IsAnsweredBy (proxy : Peer) (m : Content) (cs : List Call) (count : ℕ) : Type 0 where
  pub place : ℕ
  pub early : place < count
  pub call : Call
  pub stands : slice_get cs place ≡ Some call
  pub executes : Executes proxy m call

-- a heard datagram with a request's token spells just that request
pub heard-it : (l : List Noted) (device proxy : Peer) (cs : List Call) (a t o i u : ℕ) (p : Peer) (m n : Content) (c : Call) (d : List ℕ) (k : Option Taken)
    → Legal l → AllByRecursion (λ (c : Call). IsBrought l device proxy c.event) cs → IsFirst l t o i p m
    → slice_get cs a ≡ Some c → c.event ≡ heard u proxy d k → message_at d ≡ Ok n → is_request n.code ≡ true → n.token ≡ m.token
    → (n ≡ m) × Spells m d
heard-it l device proxy cs a t o i u p m n c d k legal brought f e comes reads asks token =
    let all = all-at (λ (c : Call). IsBrought l device proxy c.event) cs a c brought e in
    elim ((subst (λ (v : Event). IsBrought l device proxy v) comes all) refl) [
      | inl by ↦
          let it = heard-spelled l device u d n legal by reads asks in
          let same = token-same l t o i p m n d legal f it token in
          (same, subst (λ (c : Content). Spells c d) same it.spelled)
      | inr other ↦ absurd (other t o i p m n f reads token)
    ]

-- what it says of a request but a GET, if that is success and not 2.31, was executed
said : (R : Relation) (before : Device) (m : Content) (taken : Option Taken) (code : ℕ) (options : List Entry) (payload : List ℕ)
    → (m.code ≡ 1 → ⊥) → code / 32 ≡ 2 → (code ≡ 95 → ⊥) → Tells R before m taken code options payload → (done : Taken) × (taken ≡ Some done)
said R before m taken code options payload changes class more (inl s) = absurd (changes s.get)
said R before m taken code options payload changes class more (inr (inl s)) = absurd (changes s.get)
said R before m taken code options payload changes class more (inr (inr (inl s))) = (s.done, s.executed)
said R before m taken code options payload changes class more (inr (inr (inr (inl s)))) = absurd (more s.continue)
said R before m taken code options payload changes class more (inr (inr (inr (inr s)))) =
    elim s.class [ inl w ↦ absurd (omega (arith, class, w)) | inr w ↦ absurd (omega (arith, class, w)) ]

pub rst-code : (m : Content) (mid : ℕ) → Spells m (rst mid) → m.code ≡ 0
rst-code m mid s = second (64 + 16 * code_of m.kind + length m.token) m.code (s.mid_high ∷ s.mid_low ∷ m.token ++ s.options ++ s.payload)
    112 0 ((mid / 256) ∷ (mid % 256) ∷ []) s.whole
  where
    second : (a b : ℕ) (xs : List ℕ) (c d : ℕ) (ys : List ℕ) → c ∷ d ∷ ys ≡ a ∷ b ∷ xs → b ≡ d
    second a b xs c d ys e = cc

by-making : (R : Relation) (l : List Noted) (device proxy : Peer) (block : ℕ) (resources : List Held) (cs : List Call) (count t o i a : ℕ)
    (p : Peer) (m answer : Content) (c : Call) (d : Datagram)
    → Networks R l device proxy (fresh block resources) cs → IsFirst l t o i p m → (m.code ≡ 1 → ⊥)
    → slice_get (take count cs) a ≡ Some c → d.peer ≡ proxy → Spells answer d.bytes → answer.token ≡ m.token
    → answer.code / 32 ≡ 2 → (answer.code ≡ 95 → ⊥) → Makes R c d → IsAnsweredBy proxy m cs count
by-making R l device proxy block resources cs count t o i a p m answer c d n f changes e to spelled token class more (inl r) =
    let none = rst-code answer r.mid (subst (λ (b : List ℕ). Spells answer b) r.is spelled) in
    absurd (omega (arith, none, class))
by-making R l device proxy block resources cs count t o i a p m answer c d n f changes e to spelled token class more (inr (inl r)) =
    let e' = at-take cs count a c e in
    let comes : c.event ≡ heard r.moment proxy r.datagram r.taken = r.comes ∙ ap (λ (q : Peer). heard r.moment q r.datagram r.taken) to in
    let said_so = spells_one answer _ d.bytes spelled r.spelled in
    let its : answer.token ≡ r.message.token = ap (λ (c : Content). c.token) said_so in
    let code : answer.code ≡ r.code = ap (λ (c : Content). c.code) said_so in
    let it = heard-it l device proxy cs a t o i r.moment p m r.message c r.datagram r.taken n.legal n.brought f e' comes r.reads r.request (sym its ∙ token) in
    let done = said R c.before r.message r.taken r.code r.options r.payload (λ get. changes (sym (ap (λ (c : Content). c.code) it.0) ∙ get))
    (subst (λ (k : ℕ). k / 32 ≡ 2) code class) (λ h. more (code ∙ h)) r.says in
    record {
      place = a;
      early = below-take cs count a c e;
      call = c;
      stands = e';
      executes = record {
        moment = r.moment;
        datagram = r.datagram;
        taken = done.0;
        comes = comes ∙ ap (λ (k : Option Taken). heard r.moment proxy r.datagram k) done.1;
        spelled = it.1;
      };
    }
by-making R l device proxy block resources cs count t o i a p m answer c d n f changes e to spelled token class more (inr (inr r)) =
    let first = fresh block resources in
    let asked = all-of (IsAskedFor (take a (take count cs))) c.before.observers r.observer
    (registrations_are_asked R block resources (take count cs) a c (follow-take R cs first count n.follow) e) r.registered in
    let by = asked.asks in
    let e' = at-take cs count asked.number asked.call (at-take (take count cs) a asked.number asked.call asked.among) in
    let from : r.observer.peer ≡ proxy = sym r.to ∙ to in
    let comes : asked.call.event ≡ heard by.moment proxy by.datagram by.taken = by.comes ∙ ap (λ (q : Peer). heard by.moment q by.datagram by.taken) from in
    let said_so = spells_one answer _ d.bytes spelled r.notifies.spelled in
    let its : answer.token ≡ r.observer.token = ap (λ (c : Content). c.token) said_so in
    let asks : is_request by.message.code ≡ true = subst (λ (k : ℕ). is_request k ≡ true) (sym by.get) refl in
    let it = heard-it l device proxy cs asked.number t o i by.moment p m by.message asked.call by.datagram by.taken n.legal n.brought f e' comes by.reads asks
    (sym by.token ∙ (sym its ∙ token)) in
    absurd (changes (sym (ap (λ (c : Content). c.code) it.0) ∙ by.get))

-- What the proxy heard from the device as success under the token of a request but a GET tells that it was executed.
pub answered-executed : (R : Relation) (l : List Noted) (device proxy : Peer) (block : ℕ) (resources : List Held) (cs : List Call) (t o i : ℕ)
    (p : Peer) (m answer : Content) (bytes : List ℕ)
    → Networks R l device proxy (fresh block resources) cs → (g : IsGiven (fresh block resources) cs proxy bytes) → IsFirst l t o i p m
    → (m.code ≡ 1 → ⊥) → Spells answer bytes → answer.token ≡ m.token → answer.code / 32 ≡ 2 → (answer.code ≡ 95 → ⊥)
    → IsAnsweredBy proxy m cs g.count
answered-executed R l device proxy block resources cs t o i p m answer bytes n g f changes spelled token class more =
    let first = fresh block resources in
    let made = all-of (IsMade R (take g.count cs)) (left_by first (take g.count cs)).out g.datagram
    (answers_are_made R block resources (take g.count cs) (follow-take R cs first g.count n.follow)) g.given in
    let place = at-contained (take g.count cs) made.call made.among in
    by-making R l device proxy block resources cs g.count t o i place.0 p m answer made.call g.datagram n f changes place.1 g.to
    (subst (λ (b : List ℕ). Spells answer b) (sym g.has) spelled) token class more made.makes
