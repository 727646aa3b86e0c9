-- What was answered is remembered, whatever is heard after it.
use Rattle.std.proofs.Common.{◌≡◌, ℕ, ◌-◌, ◌≤◌, ◌⊎◌, inl, inr, List, [], ◌∷◌, ◌++◌, length, filter, slice_get, Contains, Option, Some, None, Result, Ok, Err, Bool, true, false, ◌==◌, nat_lt, refl, sym, ap, subst, ◌∙◌, arith}
use Rattle.std.specs.List.{AllByRecursion}
use Rattle.std.proofs.lemmas.Bool.{and_parts, ltb-true, lt-ltb}
use Rattle.std.proofs.lemmas.List.Elements.{Contains-append_left}
use Rattle.uri_map.specs.declared.peer.Peer.{Peer}
use Rattle.coap_codec.specs.Spelling.{Content}
use Rattle.coap_codec.specs.Reading.{message_at}
use Rattle.coap_codec.specs.declared.fault.CodecFault.{CodecFault}
use Rattle.message_layer.specs.Hearing.{reset_for}
use Rattle.demo_origin.specs.Values.{Device, Relation}
use Rattle.uri_map.specs.Peers.{same_peer}
use Rattle.demo_origin.specs.Arrivals.{is_live, is_repeat, arrival}
use Rattle.demo_origin.specs.Answers.{Reads, ReadsBy, ReadsPart, memory_of}
use Rattle.demo_origin.specs.Observing.{wish_of}
use Rattle.demo_origin.specs.declared.observers.Wish.{Wish}
use Rattle.coap_codec.specs.Values.{values}
use Rattle.demo_origin.specs.Blocks.{named_by, part_of}
use Rattle.demo_origin.specs.declared.blocks.Part.{Part}
use Rattle.demo_origin.specs.declared.blocks.Part.TheVariants.{Whole, Piece, Past}
use Rattle.demo_origin.specs.Requests.{judged}
use Rattle.demo_origin.specs.Tags.{is_valid}
use Rattle.coap_codec.specs.declared.block.Block.{Block}
use Rattle.demo_origin.specs.Pieces.{holding, KeepsPiece, GivesUp}
use Rattle.demo_origin.specs.declared.uploads.Joined.{Joined}
use Rattle.demo_origin.specs.declared.uploads.Joined.TheVariants.{Gap, TooLarge, Next, Last}
use Rattle.demo_origin.specs.declared.request.Method.{Method}
use Rattle.demo_origin.specs.Hearing.{piece_after, TakesPiece, Asks, asker, rst, undecoded, Processes, Takes, HearsRead, HearsBy}
use Rattle.demo_origin.specs.Origins.{sent_by}
use Rattle.demo_origin.specs.Once.{IsRemembered, IsFirst, Event, heard, looked, gave, Steps, Runs, IsBy, Executed, ExecutedOnce}
use Rattle.demo_origin.specs.declared.answer.Asker.{Asker}
use Rattle.demo_origin.specs.declared.state.Held.{Held}
use Rattle.demo_origin.specs.declared.state.Datagram.{Datagram}
use Rattle.demo_origin.specs.declared.state.Remembered.{Remembered}
use Rattle.demo_origin.specs.declared.execution.Taken.{Taken}
use Rattle.demo_origin.specs.declared.arrival.Arrival.{Arrival}
use Rattle.demo_origin.specs.declared.arrival.Arrival.TheVariants.{Ignored, Empty, Rejected, Repeated, Fresh, Acknowledged, Reset}
use Rattle.demo_origin.specs.declared.judge.Judged.{Judged}
use Rattle.demo_origin.specs.declared.judge.Judged.TheVariants.{Dropped, Refused, NotAcceptable, Read, Asked}
use Rattle.demo_origin.proofs.First.{stays, answers_add, declines_add, gets_add, executes_adds, finishes_add, Adds, hears_first}

-- What is remembered stays, or only what is too old goes and something is added.
abbrev pub Keeps : ℕ → Device → Device → Type 0
Keeps t old new =
    (new.remembered ≡ old.remembered)
    ⊎ ((more : List Remembered)
    × (new.remembered ≡ filter (is_live t) old.remembered ++ more))

same : (t : ℕ) (old new : Device) → new ≡ old → Keeps t old new
same t old new e = inl (ap (λ (d : Device). d.remembered) e)

adds : (to : Asker) (old new : Device) → Adds to old new → Keeps to.moment old new
adds to old new h = inr (memory_of to (Some h.bytes) ∷ [], h.is)

parts : (to : Asker) (i : ℕ) (wish : Wish) (held : Held) (part : Part) (old new : Device)
    → ReadsPart to i wish held part old new → Keeps to.moment old new
parts to i wish held Whole old new h = adds to old new (gets_add to i wish _ _ _ _ old new h)
parts to i wish held (Piece b) old new h = adds to old new (gets_add to i wish _ _ _ _ old new h)
parts to i wish held Past old new h = adds to old new (declines_add to i wish 128 old new h)

by_tag : (b : Bool) (to : Asker) (i : ℕ) (wish : Wish) (named : Option Block) (held : Held)
    (old new : Device) → ReadsBy b to i wish named held old new → Keeps to.moment old new
by_tag true to i wish named held old new h = adds to old new (gets_add to i wish _ _ _ _ old new h)
by_tag false to i wish named held old new h =
    parts to i wish held (part_of named old.block (length held.state)) old new h

reads : (to : Asker) (i : ℕ) (wish : Wish) (tags : List (List ℕ)) (named : Option Block)
    (o : Option Held) (old new : Device) → Reads to i wish tags named o old new
    → Keeps to.moment old new
reads to i wish tags named None old new h = absurd h
reads to i wish tags named (Some held) old new h =
    by_tag (is_valid tags named held.version) to i wish named held old new h

gives_up : (to : Asker) (i code : ℕ) (old new : Device)
    → GivesUp to i code old new → Keeps to.moment old new
gives_up to i code old new h =
    let a = answers_add to code [] [] old h.middle h.answers in
    inr (memory_of to (Some a.bytes) ∷ [], ap (λ (d : Device). d.remembered) h.is ∙ a.is)

keeps_piece : (to : Asker) (i : ℕ) (b : Block) (payload : List ℕ) (old new : Device)
    → KeepsPiece to i b payload old new → Keeps to.moment old new
keeps_piece to i b payload old new h =
    let a = answers_add to 95 h.options [] (holding to i b payload old) new h.answers in
    inr (memory_of to (Some a.bytes) ∷ [], a.is)

pieces : (R : Relation) (to : Asker) (m : Content) (i : ℕ) (method : Method) (b : Block)
    (j : Joined) (old new : Device) (taken : Option Taken)
    → TakesPiece R to m i method b j old new taken → Keeps to.moment old new
pieces R to m i method b Gap old new taken h = gives_up to i 136 old new h.0
pieces R to m i method b TooLarge old new taken h = gives_up to i 141 old new h.0
pieces R to m i method b Next old new taken h = keeps_piece to i b m.payload old new h.0
pieces R to m i method b Last old new taken h =
    adds to old new (finishes_add R to m i method b old new h.0 h.2)

asks : (R : Relation) (to : Asker) (m : Content) (i : ℕ) (method : Method)
    (named : Option Block) (old new : Device) (taken : Option Taken)
    → Asks R to m i method named old new taken → Keeps to.moment old new
asks R to m i method None old new taken h =
    adds to old new (executes_adds R to m i method old new h.0 h.2)
asks R to m i method (Some b) old new taken h =
    pieces R to m i method b (piece_after to.peer i b m old) old new taken h

processes : (R : Relation) (to : Asker) (m : Content) (j : Judged) (old new : Device)
    (taken : Option Taken) → Processes R to m j old new taken → Keeps to.moment old new
processes R to m Dropped old new taken h =
    inr (memory_of to None ∷ [], ap (λ (d : Device). d.remembered) h.0)
processes R to m (Refused code) old new taken h =
    adds to old new (answers_add to code [] [] old new h.0)
processes R to m (NotAcceptable i) old new taken h =
    adds to old new (declines_add to i (wish_of (values 6 m.options)) 134 old new h.0)
processes R to m (Read i) old new taken h =
    reads to i (wish_of (values 6 m.options)) (values 4 m.options)
    (named_by (values 23 m.options))
    (slice_get old.resources i) old new h.0
processes R to m (Asked i method) old new taken h =
    asks R to m i method (named_by (values 27 m.options)) old new taken h

takes : (R : Relation) (t : ℕ) (p : Peer) (m : Content) (a : Arrival) (old new : Device)
    (taken : Option Taken) → Takes R t p m a old new taken → Keeps t old new
takes R t p m Ignored old new taken h = same t old new h.0
takes R t p m Empty old new taken h =
    inr (memory_of (asker t p m) None ∷ [], ap (λ (d : Device). d.remembered) h.0)
takes R t p m Rejected old new taken h =
    inr (
      memory_of (asker t p m) (Some (rst m.mid)) ∷ [],
      ap (λ (d : Device). d.remembered) h.0,
    )
takes R t p m (Repeated answer) old new taken h =
    inl (ap (λ (d : Device). d.remembered) h.0)
takes R t p m Acknowledged old new taken h =
    inl (ap (λ (d : Device). d.remembered) h.0.is)
takes R t p m Reset old new taken h = inl (ap (λ (d : Device). d.remembered) h.0.is)
takes R t p m Fresh old new taken h =
    processes R (asker t p m) m (judged m old.resources) old new taken h

resets : (t : ℕ) (p : Peer) (o : Option ℕ) (old new : Device)
    → new ≡ undecoded p o old → Keeps t old new
resets t p None old new e = same t old new e
resets t p (Some mid) old new e = inl (ap (λ (d : Device). d.remembered) e)

hears_read : (R : Relation) (t : ℕ) (p : Peer) (d : List ℕ) (r : Result Content CodecFault)
    (old new : Device) (taken : Option Taken)
    → HearsRead R t p d r old new taken → Keeps t old new
hears_read R t p d (Ok m) old new taken h =
    takes R t p m (arrival t p m old) old new taken h
hears_read R t p d (Err f) old new taken h = resets t p (reset_for d) old new h.0

pub hears : (b : Bool) (R : Relation) (t : ℕ) (p : Peer) (d : List ℕ) (old new : Device)
    (taken : Option Taken) → HearsBy b R t p d old new taken → Keeps t old new
hears true R t p d old new taken h = same t old new h.0
hears false R t p d old new taken h = hears_read R t p d (message_at d) old new taken h

-- what is a repeat later is live before
pub live_before : (t u : ℕ) (p : Peer) (mid : ℕ) (r : Remembered)
    → t ≤ u → is_repeat u p mid r ≡ true → is_live t r ≡ true
live_before t u p mid r le e =
    let a = and_parts (r.mid == mid) _ e in
    let b = and_parts (same_peer r.peer p) _ a.1 in
    let c = ltb-true (u - r.moment) 247000 b.1 in
    lt-ltb (t - r.moment) 247000 (omega (arith, c))

keeps : (t u : ℕ) (p : Peer) (mid : ℕ) (old new : Device)
    → t ≤ u → Keeps t old new → IsRemembered u p mid old → IsRemembered u p mid new
keeps t u p mid old new le k r =
    let P : List Remembered → Type 0 = λ rs. Contains rs r.0 in
    elim k [
      | inl e ↦ (r.0, subst P (sym e) r.1, r.2)
      | inr m ↦ (
        r.0,
        subst P (sym m.1) (Contains-append_left (filter (is_live t) old.remembered) m.0 r.0
            (stays (is_live t) old.remembered r.0 (live_before t u p mid r.0 le r.2) r.1)),
        r.2,
      )
    ]

gives : (u : ℕ) (p : Peer) (mid : ℕ) (ds : List Datagram) (s : Device)
    → IsRemembered u p mid s → IsRemembered u p mid (sent_by s ds).0
gives u p mid [] s r = r
gives u p mid (d ∷ ds) s r = r

steps : (R : Relation) (u : ℕ) (p : Peer) (mid : ℕ) (e : Event) (old new : Device)
    → IsBy u e → Steps R e old new → IsRemembered u p mid old → IsRemembered u p mid new
steps R u p mid (heard t q d taken) old new by s r =
    keeps t u p mid old new by (hears (nat_lt 2048 (length d)) R t q d old new taken s) r
steps R u p mid (looked t) old new by s r =
    let P : Device → Type 0 = λ x. IsRemembered u p mid x in
    subst P (sym s.is) (
      r.0,
      stays (is_live t) old.remembered r.0 (live_before t u p mid r.0 by r.2) r.1,
      r.2,
    )
steps R u p mid gave old new by s r =
    let P : Device → Type 0 = λ x. IsRemembered u p mid x in
    subst P (sym s) (gives u p mid old.out old r)

runs : (R : Relation) (u : ℕ) (p : Peer) (mid : ℕ) (es : List Event) (old new : Device)
    → AllByRecursion (IsBy u) es → Runs R es old new
    → IsRemembered u p mid old → IsRemembered u p mid new
runs R u p mid [] old new by s r =
    let P : Device → Type 0 = λ x. IsRemembered u p mid x in subst P (sym s) r
runs R u p mid (e ∷ es) old new by s r =
    runs R u p mid es s.0 new by.1 s.2 (steps R u p mid e old s.0 by.0 s.1 r)

same_mid : (d : List ℕ) (m n : Content)
    → message_at d ≡ Ok m → message_at d ≡ Ok n → m.mid ≡ n.mid
same_mid d m n e f =
    let same : m ≡ n = cc in ap (λ (x : Content). x.mid) same

first : (R : Relation) (t : ℕ) (p : Peer) (mid : ℕ) (old new : Device)
    (x : Executed R t p mid old new) (f : IsFirst t p x.datagram old new) → f.message.mid ≡ mid
first R t p mid old new x f =
    same_mid x.datagram f.message x.message f.reads x.reads ∙ x.mid_is

pub executed_once : (R : Relation) → ExecutedOnce R
executed_once R es old a b new t u p mid x run by lt y =
    let f = hears_first R t p x.datagram old a (Some x.taken) x.hears refl in
    let g = hears_first R u p y.datagram b new (Some y.taken) y.hears refl in
    let P : ℕ → Type 0 = λ n. IsRemembered u p n a in
    let Q : ℕ → Type 0 = λ n. ¬ IsRemembered u p n b in
    let kept : IsRemembered u p mid a =
    subst P (first R t p mid old a x f) (f.kept u lt) in
    let none : ¬ IsRemembered u p mid b = subst Q (first R u p mid b new y g) g.first in
    none (runs R u p mid es a b by run kept)
