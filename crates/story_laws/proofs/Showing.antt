-- What is heard for a GET shows a state that the resource held.
use Rattle.std.proofs.Common.{◌≡◌, ℕ, suc, ◌+◌, ◌*◌, ◌<◌, ◌≤◌, ◌/◌, Bool, true, false, cond, leb, inl, inr, List, [], ◌∷◌, length, take, drop, Option, Some, None, refl, sym, ap, subst, ◌∙◌, arith}
use Rattle.std.specs.Prelude.{slice_get}
use Rattle.std.specs.Int.{w64, to_be_bytes}
use Rattle.std.proofs.lemmas.Bool.{false≢true, leb-true}
use Rattle.std.proofs.lemmas.List.{take_all}
use Rattle.coap_codec.specs.Spelling.{Content, Entry, Spells}
use Rattle.coap_codec.specs.Values.{values}
use Rattle.coap_codec.specs.declared.block.Block.{Block}
use Rattle.coap_codec.proofs.Unique.{spells_one}
use Rattle.uri_map.specs.declared.peer.Peer.{Peer}
use Rattle.blockwise.specs.Reading.{size_of}
use Rattle.ask_model.specs.Requests.{CoapRequest}
use Rattle.journal_book.specs.Entries.{Hears, Written}
use Rattle.history_laws.specs.Justified.{Stands}
use Rattle.history_laws.specs.Laws.{IsFirst}
use Rattle.history_laws.specs.Readings.{Noted, noted, at}
use Rattle.history_laws.proofs.CallerLemmas.{all-of, none-some, some-is}
use Rattle.history_claims.specs.Headline.{IsFirstSending, IsHeard}
use Rattle.demo_origin.specs.Answers.{with_observe, shown_part, Describes}
use Rattle.demo_origin.specs.Arrivals.{is_request}
use Rattle.demo_origin.specs.Asked.{IsAskedFor}
use Rattle.demo_origin.specs.Calls.{Call, Follow, left_by}
use Rattle.demo_origin.specs.Done.{left_with, told_in}
use Rattle.demo_origin.specs.Made.{Says, Makes, IsMade}
use Rattle.demo_origin.specs.Notifying.{opening}
use Rattle.demo_origin.specs.Once.{heard}
use Rattle.demo_origin.specs.Origins.{fresh}
use Rattle.demo_origin.specs.Requests.{IsAt, method_code}
use Rattle.demo_origin.specs.Values.{Device, Relation}
use Rattle.demo_origin.specs.declared.execution.Taken.{Taken}
use Rattle.demo_origin.specs.declared.request.Method.{Method}
use Rattle.demo_origin.specs.declared.request.Method.TheVariants as M
use Rattle.demo_origin.specs.declared.state.Datagram.{Datagram}
use Rattle.demo_origin.specs.declared.state.Held.{Held}
use Rattle.demo_origin.proofs.Asking.{registrations_are_asked}
use Rattle.demo_origin.proofs.Making.{answers_are_made}
use Rattle.story_laws.specs.Arriving.{HearsMessage}
use Rattle.story_laws.specs.Networks.{IsGiven, Networks}
use Rattle.story_laws.specs.Orders.{IsOrdered}
use Rattle.story_laws.specs.Reads.{IsToldFor, ShowsHeld}
use Rattle.story_laws.proofs.Executing.{arrives}
use Rattle.story_laws.proofs.Originating.{at-contained, at-take, below-take, follow-take, heard-it, rst-code}
use Rattle.story_laws.proofs.Pieces.{EndsBy, part-ends}
use Rattle.story_laws.proofs.Standing.{after-left, before-left, stands-then, told-over}
use Rattle.story_laws.proofs.Posting.{code-of, first-sent, noted-at}

-- ---- what the resource held

pub same-place : (path : List (List ℕ)) (rs : List Held) (i j : ℕ) (a b : Held) → IsAt path rs i a → IsAt path rs j b → a ≡ b
same-place path rs i j a b x y =
    let place : i ≡ j = some-is i j (sym x.first ∙ y.first) in
    some-is a b (sym x.stands ∙ (ap (slice_get rs) place ∙ y.stands))

held-left : (R : Relation) (cs : List Call) (s : Device) (a : ℕ) (path : List (List ℕ)) (number i : ℕ) (held first : Held)
    → Follow R s cs → IsAt path (left_by s (take a cs)).resources number held → IsAt path s.resources i first
    → held.state ≡ left_with path first.state (told_in (take a cs))
held-left R cs s a path number i held first f now before =
    let it = told-over R (take a cs) s path i first (follow-take R cs s a f) before in
    ap (λ (h : Held). h.state) (same-place path (left_by s (take a cs)).resources number i held it.held now it.stands) ∙ it.state

-- ---- what the device says

abbrev pub shown_options : List ℕ → Bool → List ℕ → List ℕ → List ℕ → List Entry → List Entry
shown_options version observed observe format max_age block =
    record { number = 4; value = version } ∷ with_observe observed observe (record { number = 12; value = format } ∷ record { number = 14; value = max_age } ∷ block)

names-block : (version : List ℕ) (observed : Bool) (observe format max_age value : List ℕ)
    → values 23 (shown_options version observed observe format max_age (record { number = 23; value = value } ∷ [])) ≡ [] → ⊥
names-block version true observe format max_age value f = cc
names-block version false observe format max_age value f = cc

pub described-whole : (h : Held) (observed : Bool) (b : Option Block) (options : List Entry) → Describes h observed b options
    → values 23 options ≡ [] → b ≡ None
described-whole h observed None options d e = refl
described-whole h observed (Some b) options d e =
    let all : options ≡ shown_options (to_be_bytes w64 h.version) observed d.observe d.format d.max_age (record { number = 23; value = d.block_is.0 } ∷ []) =
    d.options_are ∙ ap (shown_options (to_be_bytes w64 h.version) observed d.observe d.format d.max_age) d.block_is.1 in
    absurd (names-block (to_be_bytes w64 h.version) observed d.observe d.format d.max_age d.block_is.0
    (subst (λ (os : List Entry). values 23 os ≡ []) all e))

not-get : (method : Method) → method_code method ≡ 1 → ⊥
not-get M.Post e = absurd (omega (arith, e))
not-get M.Put e = absurd (omega (arith, e))
not-get M.Delete e = absurd (omega (arith, e))

-- what it says of a GET, if that is a 2.05: the state, or a piece of it
record SaysPart (before : Device) (m : Content) (options : List Entry) (payload : List ℕ) : Type 0 where
  number : ℕ
  held : Held
  there : IsAt (values 11 m.options) before.resources number held
  observed : Bool
  part : Option Block
  ends : EndsBy (length held.state) part
  describes : Describes held observed part options
  shown : payload ≡ shown_part part held.state

said-part : (R : Relation) (before : Device) (m : Content) (taken : Option Taken) (code : ℕ) (options : List Entry) (payload : List ℕ)
    → m.code ≡ 1 → code ≡ 69 → Says R before m taken code options payload → SaysPart before m options payload
said-part R before m taken code options payload get content (inl s) = record {
  number = s.place;
  held = s.held;
  there = s.stands;
  observed = s.observed;
  part = s.part;
  ends = part-ends (values 23 m.options) before.block (length s.held.state) s.part s.chosen;
  describes = s.describes;
  shown = s.shown;
}
said-part R before m taken code options payload get content (inr (inl s)) = let valid = s.valid in absurd (omega (arith, content, valid))
said-part R before m taken code options payload get content (inr (inr (inl s))) = absurd (not-get s.method (s.method_is ∙ get))
said-part R before m taken code options payload get content (inr (inr (inr (inl s)))) = let more = s.continue in absurd (omega (arith, content, more))
said-part R before m taken code options payload get content (inr (inr (inr (inr s)))) =
    elim s.class [ inl w ↦ absurd (omega (arith, content, w)) | inr w ↦ absurd (omega (arith, content, w)) ]

first-byte : (n : ℕ) → 0 ≡ 0 * n
first-byte n = omega arith

-- what it tells an observer: the state, or its first piece
told-part : (szx : ℕ) (state : List ℕ) → take (size_of szx) state ≡ shown_part (opening szx (length state)) state
told-part szx state = by (leb (length state) (size_of szx)) refl
  where
    by : (b : Bool) → leb (length state) (size_of szx) ≡ b
        → take (size_of szx) state ≡ shown_part (cond b None (Some (record { num = 0; more = true; szx = szx }))) state
    by true e = take_all (size_of szx) state (leb-true (length state) (size_of szx) e)
    by false e = ap (λ (n : ℕ). take (size_of szx) (drop n state)) (first-byte (size_of szx))

told-ends : (szx len : ℕ) → EndsBy len (opening szx len)
told-ends szx len = by (leb len (size_of szx))
  where
    by : (b : Bool) → EndsBy len (cond b None (Some (record { num = 0; more = true; szx = szx })))
    by true = tt
    by false = λ e. absurd (false≢true (sym e))

-- The answer shows the state of the resource, or a piece of it, as it stood when the device heard the message, in one of its first so many
-- calls, or between later ones of these, or after all of them.
pub record ShowsPart (since count : ℕ) (proxy : Peer) (s : Device) (cs : List Call) (m answer : Content) : Type 0 where
  pub moment : ℕ
  pub asked : HearsMessage proxy m cs moment
  pub not_before : since ≤ moment
  pub heard : asked.place < count
  pub place : ℕ
  pub later : asked.place ≤ place
  pub not_after : place ≤ count
  pub number : ℕ
  pub held : Held
  pub there : IsAt (values 11 m.options) (left_by s (take place cs)).resources number held
  pub observed : Bool
  pub part : Option Block
  pub ends : EndsBy (length held.state) part
  pub describes : Describes held observed part answer.options
  pub shown : answer.payload ≡ shown_part part held.state

by-making : (R : Relation) (l : List Noted) (device proxy : Peer) (block : ℕ) (resources : List Held) (cs : List Call) (count t o i a : ℕ)
    (p : Peer) (m answer : Content) (c : Call) (d : Datagram)
    → Networks R l device proxy (fresh block resources) cs → IsFirst l t o i p m → m.code ≡ 1
    → slice_get (take count cs) a ≡ Some c → d.peer ≡ proxy → Spells answer d.bytes → answer.token ≡ m.token
    → answer.code ≡ 69 → Makes R c d → ShowsPart t count proxy (fresh block resources) cs m answer
by-making R l device proxy block resources cs count t o i a p m answer c d n f get e to spelled token content (inl r) =
    let none = rst-code answer r.mid (subst (λ (b : List ℕ). Spells answer b) r.is spelled) in
    absurd (omega (arith, none, content))
by-making R l device proxy block resources cs count t o i a p m answer c d n f get e to spelled token content (inr (inl r)) =
    let e' = at-take cs count a c e in
    let first = fresh block resources in
    let comes : c.event ≡ heard r.moment proxy r.datagram r.taken = r.comes ∙ ap (λ (q : Peer). heard r.moment q r.datagram r.taken) to in
    let said_so = spells_one answer _ d.bytes spelled r.spelled in
    let its : answer.token ≡ r.message.token = ap (λ (c : Content). c.token) said_so in
    let code : answer.code ≡ r.code = ap (λ (c : Content). c.code) said_so in
    let options : answer.options ≡ r.options = ap (λ (c : Content). c.options) said_so in
    let payload : answer.payload ≡ r.payload = ap (λ (c : Content). c.payload) said_so in
    let it = heard-it l device proxy cs a t o i r.moment p m r.message c r.datagram r.taken n.legal n.brought f e' comes r.reads r.request (sym its ∙ token) in
    let gets : r.message.code ≡ 1 = ap (λ (c : Content). c.code) it.0 ∙ get in
    let says = said-part R c.before r.message r.taken r.code r.options r.payload gets (sym code ∙ content) r.says in record {
      moment = r.moment;
      asked = record { place = a; call = c; stands = e'; datagram = r.datagram; taken = r.taken; comes = comes; spelled = it.1 };
      not_before = (arrives R l device proxy p first cs t o i a r.moment m c r.datagram r.taken n f e' comes it.1).0;
      heard = below-take cs count a c e;
      place = a;
      later = omega arith;
      not_after = let lt = below-take cs count a c e in omega (arith, lt);
      number = says.number;
      held = says.held;
      there = subst (λ (d : Device). IsAt (values 11 m.options) d.resources says.number says.held) (before-left R cs first a c n.follow e')
          (subst (λ (k : Content). IsAt (values 11 k.options) c.before.resources says.number says.held) it.0 says.there);
      observed = says.observed;
      part = says.part;
      ends = says.ends;
      describes = subst (λ (os : List Entry). Describes says.held says.observed says.part os) (sym options) says.describes;
      shown = payload ∙ says.shown;
    }
by-making R l device proxy block resources cs count t o i a p m answer c d n f get e to spelled token content (inr (inr r)) =
    let first = fresh block resources in
    let whole = at-take cs count a c e in
    let asked = all-of (IsAskedFor (take a (take count cs))) c.before.observers r.observer
    (registrations_are_asked R block resources (take count cs) a c (follow-take R cs first count n.follow) e) r.registered in
    let by = asked.asks in
    let e' = at-take cs count asked.number asked.call (at-take (take count cs) a asked.number asked.call asked.among) in
    let early = below-take (take count cs) a asked.number asked.call asked.among in
    let from : r.observer.peer ≡ proxy = sym r.to ∙ to in
    let comes : asked.call.event ≡ heard by.moment proxy by.datagram by.taken = by.comes ∙ ap (λ (q : Peer). heard by.moment q by.datagram by.taken) from in
    let said_so = spells_one answer _ d.bytes spelled r.notifies.spelled in
    let its : answer.token ≡ r.observer.token = ap (λ (c : Content). c.token) said_so in
    let options : answer.options ≡ r.notifies.options = ap (λ (c : Content). c.options) said_so in
    let payload : answer.payload ≡ take (size_of c.after.block) r.held.state = ap (λ (c : Content). c.payload) said_so in
    let asks : is_request by.message.code ≡ true = subst (λ (k : ℕ). is_request k ≡ true) (sym by.get) refl in
    let it = heard-it l device proxy cs asked.number t o i by.moment p m by.message asked.call by.datagram by.taken n.legal n.brought f e' comes by.reads asks
    (sym by.token ∙ (sym its ∙ token)) in
    let stood = subst (λ (d : Device). IsAt (values 11 m.options) d.resources r.observer.place by.held)
    (before-left R cs first asked.number asked.call n.follow e')
    (subst (λ (k : Content). IsAt (values 11 k.options) asked.call.before.resources r.observer.place by.held) it.0 by.stood) in
    let then = stands-then R cs first asked.number (suc a) (values 11 m.options) r.observer.place by.held n.follow (omega (arith, early)) stood in
    let here = subst (λ (d : Device). slice_get d.resources r.observer.place ≡ Some r.held) (after-left R cs first a c n.follow whole) r.stands in
    record {
      moment = by.moment;
      asked = record { place = asked.number; call = asked.call; stands = e'; datagram = by.datagram; taken = by.taken; comes = comes; spelled = it.1 };
      not_before = (arrives R l device proxy p first cs t o i asked.number by.moment m asked.call by.datagram by.taken n f e' comes it.1).0;
      heard = let lt = below-take cs count a c e in omega (arith, early, lt);
      place = suc a;
      later = omega (arith, early);
      not_after = below-take cs count a c e;
      number = r.observer.place;
      held = r.held;
      there = subst (λ (h : Held). IsAt (values 11 m.options) (left_by first (take (suc a) cs)).resources r.observer.place h)
          (some-is then.held r.held (sym then.stands.stands ∙ here)) then.stands;
      observed = true;
      part = opening c.after.block (length r.held.state);
      ends = told-ends c.after.block (length r.held.state);
      describes = subst (λ (os : List Entry). Describes r.held true (opening c.after.block (length r.held.state)) os) (sym options) r.notifies.describes;
      shown = payload ∙ told-part c.after.block r.held.state;
    }

-- What was heard under the token of a GET shows the state of the resource, or a piece of it.
pub answer-part : (R : Relation) (h : List Written) (device proxy : Peer) (block : ℕ) (resources : List Held) (cs : List Call)
    (p : Peer) (i t j u : ℕ) (sent m : Content) (s : Stands h)
    → Networks R s.reading device proxy (fresh block resources) cs
    → IsFirstSending h i t p sent → (came : IsHeard h p j u m) → (g : IsGiven (fresh block resources) cs proxy came.bytes)
    → m.token ≡ sent.token → sent.code ≡ 1 → m.code ≡ 69 → ShowsPart t g.count proxy (fresh block resources) cs sent m
answer-part R h device proxy block resources cs p i t j u sent m s net first_sent came g token get content =
    let first = first-sent s.reading h i t p sent s.legal s.entries_are first_sent in
    let start = fresh block resources in
    let made = all-of (IsMade R (take g.count cs)) (left_by start (take g.count cs)).out g.datagram
    (answers_are_made R block resources (take g.count cs) (follow-take R cs start g.count net.follow)) g.given in
    let place = at-contained (take g.count cs) made.call made.among in
    by-making R s.reading device proxy block resources cs g.count t first.0 i place.0 p sent m made.call g.datagram net first.1 get place.1 g.to
    (subst (λ (b : List ℕ). Spells m b) (sym g.has) came.spelled) token content made.makes

-- So does what was heard for one.
pub told-shows : (R : Relation) (h : List Written) (device proxy : Peer) (block : ℕ) (resources : List Held) (cs : List Call)
    (k : ℕ) (q : CoapRequest) (j : ℕ) (m : Content) (s : Stands h)
    → Networks R s.reading device proxy (fresh block resources) cs
    → (x : IsToldFor h k q j m) → (g : IsGiven (fresh block resources) cs proxy x.response.heard.bytes) → q.method ≡ 1
    → m.code ≡ 69 → ShowsPart x.sent_for.moment g.count proxy (fresh block resources) cs x.sent m
told-shows R h device proxy block resources cs k q j m s net x g get content =
    let for_it = x.sent_for in
    let code : x.sent.code ≡ 1 = ap (λ (m : Content). m.code) for_it.asks.1 ∙ (code-of for_it.asks.0 q x.block x.sent.mid x.sent.token ∙ get) in
    answer-part R h device proxy block resources cs q.peer x.sending for_it.moment j x.response.moment x.sent m s net for_it.first x.response.heard g
    x.response.token code content

-- What was heard was given out before.
pub given-ordered : (R : Relation) (h : List Written) (device proxy : Peer) (block : ℕ) (resources : List Held) (cs : List Call) (calls_before : ℕ → ℕ)
    (s : Stands h) → IsOrdered s.reading device proxy (fresh block resources) cs calls_before → (p : Peer) (j : ℕ) (m : Content) (u : ℕ) → p ≡ device
    → (came : IsHeard h p j u m) → (g : IsGiven (fresh block resources) cs proxy came.bytes) × (g.count ≤ calls_before j)
given-ordered R h device proxy block resources cs calls_before s order p j m u to came =
    let entry = noted-at s.reading h j u _ s.entries_are came.stands in
    order.given j u came.bytes entry.note (subst (λ (p : Peer). at s.reading j ≡ Some (noted u (Hears p came.bytes) entry.note)) to entry.stands)

-- What was given out by some calls was by more.
pub part-more : (since low high : ℕ) (proxy : Peer) (s : Device) (cs : List Call) (m answer : Content) → low ≤ high
    → ShowsPart since low proxy s cs m answer → ShowsPart since high proxy s cs m answer
part-more since low high proxy s cs m answer le p =
    let lt = p.heard in
    let most = p.not_after in
    record {
      moment = p.moment;
      asked = p.asked;
      not_before = p.not_before;
      heard = omega (arith, lt, le);
      place = p.place;
      later = p.later;
      not_after = omega (arith, most, le);
      number = p.number;
      held = p.held;
      there = p.there;
      observed = p.observed;
      part = p.part;
      ends = p.ends;
      describes = p.describes;
      shown = p.shown;
    }

pub held-more : (since low high : ℕ) (proxy : Peer) (s : Device) (cs : List Call) (m : Content) (state : List ℕ) → low ≤ high
    → ShowsHeld since low proxy s cs m state → ShowsHeld since high proxy s cs m state
held-more since low high proxy s cs m state le p =
    let lt = p.heard in
    let most = p.not_after in
    record {
      moment = p.moment;
      asked = p.asked;
      not_before = p.not_before;
      heard = omega (arith, lt, le);
      place = p.place;
      later = p.later;
      not_after = omega (arith, most, le);
      number = p.number;
      held = p.held;
      there = p.there;
      shown = p.shown;
      left = p.left;
    }

-- What is shown is what the resource held, and what the executions before left it with.
pub held-shown : (R : Relation) (proxy : Peer) (block : ℕ) (resources : List Held) (cs : List Call) (since count : ℕ) (m answer : Content) (state : List ℕ)
    → Follow R (fresh block resources) cs → (p : ShowsPart since count proxy (fresh block resources) cs m answer) → state ≡ p.held.state
    → ShowsHeld since count proxy (fresh block resources) cs m state
held-shown R proxy block resources cs since count m answer state follow p shown = record {
  moment = p.moment;
  asked = p.asked;
  not_before = p.not_before;
  heard = p.heard;
  place = p.place;
  later = p.later;
  not_after = p.not_after;
  number = p.number;
  held = p.held;
  there = p.there;
  shown = shown;
  left = λ i first before.
      shown ∙ held-left R cs (fresh block resources) p.place (values 11 m.options) p.number i p.held first follow p.there before;
}

pub held-shown-is : (R : Relation) (proxy : Peer) (block : ℕ) (resources : List Held) (cs : List Call) (since count : ℕ) (m answer : Content) (state : List ℕ)
    (follow : Follow R (fresh block resources) cs) (p : ShowsPart since count proxy (fresh block resources) cs m answer) (shown : state ≡ p.held.state)
    → (held-shown R proxy block resources cs since count m answer state follow p shown).place ≡ p.place
unfolding held-shown
held-shown-is R proxy block resources cs since count m answer state follow p shown = refl

pub replies-show : (R : Relation) (h : List Written) (device proxy : Peer) (block : ℕ) (resources : List Held) (cs : List Call)
    (k : ℕ) (q : CoapRequest) (j : ℕ) (m : Content) (s : Stands h)
    → Networks R s.reading device proxy (fresh block resources) cs
    → (x : IsToldFor h k q j m) → (g : IsGiven (fresh block resources) cs proxy x.response.heard.bytes) → q.method ≡ 1
    → m.code ≡ 69 → values 23 m.options ≡ []
    → ShowsHeld x.sent_for.moment g.count proxy (fresh block resources) cs x.sent m.payload
replies-show R h device proxy block resources cs k q j m s net x g get content whole =
    let p = told-shows R h device proxy block resources cs k q j m s net x g get content in
    let none = described-whole p.held p.observed p.part m.options p.describes whole in
    held-shown R proxy block resources cs x.sent_for.moment g.count x.sent m m.payload net.follow p
    (p.shown ∙ ap (λ (b : Option Block). shown_part b p.held.state) none)
