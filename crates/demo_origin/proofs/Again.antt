-- A request that is heard again is answered by the same datagram, whatever is heard between them.
use Rattle.std.proofs.Common.{◌≡◌, zero, suc, ◌⊎◌, inl, inr, ℕ, ◌+◌, ◌<◌, ◌≤◌, List, [], ◌∷◌, ◌++◌, length, length-append, filter, slice_get, Contains, Option, Some, None, Result, Ok, Bool, true, false, cond, ◌==◌, nat_lt, refl, sym, ap, subst, ◌∙◌, arith}
use Rattle.std.specs.List.{find, AllByRecursion}
use Rattle.std.specs.Option.{option_or}
use Rattle.std.proofs.lemmas.Bool.{and_parts, and_from, le-ltb, false≢true}
use Rattle.std.proofs.lemmas.List.{append_cancel_left}
use Rattle.std.proofs.lemmas.List.Folds.{find-append}
use Rattle.uri_map.specs.declared.peer.Peer.{Peer}
use Rattle.coap_codec.specs.Spelling.{Content}
use Rattle.coap_codec.specs.Reading.{message_at}
use Rattle.coap_codec.specs.Values.{values}
use Rattle.coap_codec.specs.declared.block.Block.{Block}
use Rattle.coap_codec.specs.declared.fault.CodecFault.{CodecFault}
use Rattle.coap_codec.specs.declared.message.MsgType.TheVariants.{Con}
use Rattle.demo_origin.specs.Values.{Device, Relation}
use Rattle.uri_map.specs.Peers.{same_peer}
use Rattle.demo_origin.specs.Arrivals.{is_live, is_repeat, is_full, is_request, heard_again, heard_first, arrived, arrival_by, arrival}
use Rattle.demo_origin.specs.Answers.{Reads, ReadsBy, ReadsPart, sent, memory_of}
use Rattle.demo_origin.specs.Blocks.{named_by, part_of}
use Rattle.demo_origin.specs.Requests.{judged}
use Rattle.demo_origin.specs.Tags.{is_valid}
use Rattle.demo_origin.specs.Observing.{wish_of}
use Rattle.demo_origin.specs.declared.observers.Wish.{Wish}
use Rattle.demo_origin.specs.Hearing.{asker, rst, piece_after, TakesPiece, Asks, Processes, Takes, HearsRead, HearsBy, Hears}
use Rattle.demo_origin.specs.Origins.{sent_by}
use Rattle.demo_origin.specs.Pieces.{holding}
use Rattle.demo_origin.specs.Once.{IsRemembered, Event, heard, looked, gave, Steps, Runs, IsBy, HearsCon, FirstAnswered, AnsweredAlike}
use Rattle.demo_origin.specs.declared.answer.Asker.{Asker}
use Rattle.demo_origin.specs.declared.state.Held.{Held}
use Rattle.demo_origin.specs.declared.state.Datagram.{Datagram}
use Rattle.demo_origin.specs.declared.state.Remembered.{Remembered}
use Rattle.demo_origin.specs.declared.execution.Taken.{Taken}
use Rattle.demo_origin.specs.declared.request.Method.{Method}
use Rattle.demo_origin.specs.declared.arrival.Arrival.{Arrival}
use Rattle.demo_origin.specs.declared.arrival.Arrival.TheVariants.{Ignored, Rejected, Repeated, Fresh}
use Rattle.demo_origin.specs.declared.judge.Judged.{Judged}
use Rattle.demo_origin.specs.declared.judge.Judged.TheVariants.{Dropped, Refused, NotAcceptable, Read, Asked}
use Rattle.demo_origin.specs.declared.blocks.Part.{Part}
use Rattle.demo_origin.specs.declared.blocks.Part.TheVariants.{Whole, Piece, Past}
use Rattle.demo_origin.specs.declared.uploads.Joined.{Joined}
use Rattle.demo_origin.specs.declared.uploads.Joined.TheVariants.{Gap, TooLarge, Next, Last}
use Rattle.demo_origin.proofs.First.{answers_add, declines_add, gets_add, executes_adds, finishes_add, repeats, Adds}
use Rattle.demo_origin.proofs.Repeats.{Keeps, hears, live_before}

-- ---- look-ups

not_true : (b : Bool) → (b ≡ true → ⊥) → b ≡ false
not_true true h = absurd (h refl)
not_true false h = refl

skipped : {X : Type 0} (p : X → Bool) (x : X) (xs : List X)
    → p x ≡ false → find p (x ∷ xs) ≡ find p xs
skipped {X} p x xs e =
    let P : Bool → Type 0 = λ b. cond b (Some x) (find p xs) ≡ find p xs in
    subst P (sym e) refl

fails : {X : Type 0} (p q : X → Bool) (x : X)
    → ((y : X) → p y ≡ true → q y ≡ true) → q x ≡ false → p x ≡ false
fails p q x h e = not_true (p x) (λ t. false≢true (sym e ∙ h x t))

-- What passes a stronger test is found in what passes a weaker one.
find_kept : {X : Type 0} (p q : X → Bool) (xs : List X)
    → ((y : X) → p y ≡ true → q y ≡ true) → find p (filter q xs) ≡ find p xs
find_kept p q [] h = refl
find_kept {X} p q (x ∷ xs) h =
    let more : find p (filter q xs) ≡ find p xs = find_kept p q xs h in
    let P : Bool → Type 0 = λ b.
    q x ≡ b → find p (cond b (x ∷ filter q xs) (filter q xs)) ≡ find p (x ∷ xs) in
    let each : (b : Bool) → P b = λ b. elim b as P [
      | true ↦ λ e. ap (λ (o : Option X). cond (p x) (Some x) o) more
      | false ↦ λ e. more ∙ sym (skipped p x xs (fails p q x h e))
    ] in
    each (q x) refl

none_weaker : {X : Type 0} (p q : X → Bool) (xs : List X)
    → ((y : X) → p y ≡ true → q y ≡ true) → find q xs ≡ None → find p xs ≡ None
none_weaker p q [] h none = refl
none_weaker {X} p q (x ∷ xs) h none =
    let P : Bool → Type 0 = λ b.
    q x ≡ b → cond b (Some x) (find q xs) ≡ None → find p (x ∷ xs) ≡ None in
    let each : (b : Bool) → P b = λ b. elim b as P [
      | true ↦ λ e n. cc
      | false ↦ λ e n. skipped p x xs (fails p q x h e) ∙ none_weaker p q xs h n
    ] in
    each (q x) refl none

pub found_is : {X : Type 0} (p : X → Bool) (xs : List X) (x : X)
    → find p xs ≡ Some x → Contains xs x × (p x ≡ true)
found_is p [] x e = cc
found_is {X} p (y ∷ ys) x e =
    let P : Bool → Type 0 = λ b.
    p y ≡ b → cond b (Some y) (find p ys) ≡ Some x → Contains (y ∷ ys) x × (p x ≡ true) in
    let each : (b : Bool) → P b = λ b. elim b as P [
      | true ↦ λ t s. (let same : y ≡ x = cc in
          ((zero, omega arith, same), ap p (sym same) ∙ t))
      | false ↦ λ f s. (let more = found_is p ys x s in
          ((suc more.0.0, omega (arith, more.0.1), more.0.2), more.1))
    ] in
    each (p y) refl e

found_first : {X : Type 0} (p : X → Bool) (xs ys : List X) (x : X)
    → find p xs ≡ Some x → find p (xs ++ ys) ≡ Some x
found_first p xs ys x e =
    find-append p xs ys ∙ ap (λ o. option_or o (find p ys)) e

found_last : {X : Type 0} (p : X → Bool) (xs : List X) (x : X)
    → find p xs ≡ None → p x ≡ true → find p (xs ++ x ∷ []) ≡ Some x
found_last {X} p xs x none t =
    let P : Bool → Type 0 = λ b. cond b (Some x) None ≡ Some x in
    let one : find p (x ∷ []) ≡ Some x = subst P (sym t) refl in
    find-append p xs (x ∷ []) ∙ ap (λ o. option_or o (find p (x ∷ []))) none ∙ one

grown : {X : Type 0} (xs : List X) (x : X) (others : List X) → xs ≡ xs ++ x ∷ others → ⊥
grown {X} xs x others e =
    let n = ap (λ (ys : List X). length ys) e in
    absurd (omega (arith, n, length-append xs (x ∷ others)))

-- ---- a repeat later is one before

earlier : (t u : ℕ) (p : Peer) (mid : ℕ) (r : Remembered)
    → t ≤ u → is_repeat u p mid r ≡ true → is_repeat t p mid r ≡ true
earlier t u p mid r le e =
    let a = and_parts (r.mid == mid) _ e in
    let b = and_parts (same_peer r.peer p) _ a.1 in
    and_from _ _ a.0 (and_from _ _ b.0 (live_before t u p mid r le e))

-- ---- what is found stays

abbrev Finds : ℕ → Peer → ℕ → Remembered → Device → Type 0
Finds u p mid r s = find (is_repeat u p mid) s.remembered ≡ Some r

kept : (t u : ℕ) (p : Peer) (mid : ℕ) (r : Remembered) (s : Device)
    → t ≤ u → Finds u p mid r s
    → find (is_repeat u p mid) (filter (is_live t) s.remembered) ≡ Some r
kept t u p mid r s le e =
    find_kept (is_repeat u p mid) (is_live t) s.remembered
    (λ x h. live_before t u p mid x le h) ∙ e

keeps : (t u : ℕ) (p : Peer) (mid : ℕ) (r : Remembered) (old new : Device)
    → t ≤ u → Keeps t old new → Finds u p mid r old → Finds u p mid r new
keeps t u p mid r old new le k e =
    let P : List Remembered → Type 0 = λ rs. find (is_repeat u p mid) rs ≡ Some r in
    elim k [
      | inl same ↦ subst P (sym same) e
      | inr m ↦ subst P (sym m.1)
          (found_first (is_repeat u p mid) (filter (is_live t) old.remembered) m.0 r
          (kept t u p mid r old le e))
    ]

gives : (u : ℕ) (p : Peer) (mid : ℕ) (r : Remembered) (ds : List Datagram) (s : Device)
    → Finds u p mid r s → Finds u p mid r (sent_by s ds).0
gives u p mid r [] s e = e
gives u p mid r (d ∷ ds) s e = e

steps : (R : Relation) (u : ℕ) (p : Peer) (mid : ℕ) (r : Remembered) (e : Event)
    (old new : Device) → IsBy u e → Steps R e old new
    → Finds u p mid r old → Finds u p mid r new
steps R u p mid r (heard t q d taken) old new by s f =
    keeps t u p mid r old new by (hears (nat_lt 2048 (length d)) R t q d old new taken s) f
steps R u p mid r (looked t) old new by s f =
    let P : Device → Type 0 = λ x. Finds u p mid r x in
    subst P (sym s.is) (kept t u p mid r old by f)
steps R u p mid r gave old new by s f =
    let P : Device → Type 0 = λ x. Finds u p mid r x in
    subst P (sym s) (gives u p mid r old.out old f)

runs : (R : Relation) (u : ℕ) (p : Peer) (mid : ℕ) (r : Remembered) (es : List Event)
    (old new : Device) → AllByRecursion (IsBy u) es → Runs R es old new
    → Finds u p mid r old → Finds u p mid r new
runs R u p mid r [] old new by s f =
    let P : Device → Type 0 = λ x. Finds u p mid r x in subst P (sym s) f
runs R u p mid r (e ∷ es) old new by s f =
    runs R u p mid r es s.0 new by.1 s.2 (steps R u p mid r e old s.0 by.0 s.1 f)

-- ---- the first answer

abbrev AddsOrNot : Asker → Device → Device → Type 0
AddsOrNot to old new = Adds to old new ⊎ (new.out ≡ old.out)

parts : (to : Asker) (i : ℕ) (wish : Wish) (held : Held) (part : Part) (old new : Device)
    → ReadsPart to i wish held part old new → Adds to old new
parts to i wish held Whole old new h = gets_add to i wish _ _ _ _ old new h
parts to i wish held (Piece b) old new h = gets_add to i wish _ _ _ _ old new h
parts to i wish held Past old new h = declines_add to i wish 128 old new h

by_tag : (b : Bool) (to : Asker) (i : ℕ) (wish : Wish) (named : Option Block) (held : Held)
    (old new : Device) → ReadsBy b to i wish named held old new → Adds to old new
by_tag true to i wish named held old new h = gets_add to i wish _ _ _ _ old new h
by_tag false to i wish named held old new h =
    parts to i wish held (part_of named old.block (length held.state)) old new h

reads : (to : Asker) (i : ℕ) (wish : Wish) (tags : List (List ℕ)) (named : Option Block)
    (o : Option Held) (old new : Device) → Reads to i wish tags named o old new
    → Adds to old new
reads to i wish tags named None old new h = absurd h
reads to i wish tags named (Some held) old new h =
    by_tag (is_valid tags named held.version) to i wish named held old new h

pieces : (R : Relation) (to : Asker) (m : Content) (i : ℕ) (method : Method) (b : Block)
    (j : Joined) (old new : Device) (taken : Option Taken)
    → TakesPiece R to m i method b j old new taken → Adds to old new
pieces R to m i method b Gap old new taken h =
    let a = answers_add to 136 [] [] old h.0.middle h.0.answers in
    record {
      bytes = a.bytes;
      is = ap (λ (d : Device). d.remembered) h.0.is ∙ a.is;
      others = a.others;
      out = ap (λ (d : Device). d.out) h.0.is ∙ a.out;
    }
pieces R to m i method b TooLarge old new taken h =
    let a = answers_add to 141 [] [] old h.0.middle h.0.answers in
    record {
      bytes = a.bytes;
      is = ap (λ (d : Device). d.remembered) h.0.is ∙ a.is;
      others = a.others;
      out = ap (λ (d : Device). d.out) h.0.is ∙ a.out;
    }
pieces R to m i method b Next old new taken h =
    let a = answers_add to 95 h.0.options [] (holding to i b m.payload old) new h.0.answers in
    record { bytes = a.bytes; is = a.is; others = a.others; out = a.out }
pieces R to m i method b Last old new taken h =
    finishes_add R to m i method b old new h.0 h.2

asks : (R : Relation) (to : Asker) (m : Content) (i : ℕ) (method : Method)
    (named : Option Block) (old new : Device) (taken : Option Taken)
    → Asks R to m i method named old new taken → Adds to old new
asks R to m i method None old new taken h =
    executes_adds R to m i method old new h.0 h.2
asks R to m i method (Some b) old new taken h =
    pieces R to m i method b (piece_after to.peer i b m old) old new taken h

processes : (R : Relation) (to : Asker) (m : Content) (j : Judged) (old new : Device)
    (taken : Option Taken) → Processes R to m j old new taken → AddsOrNot to old new
processes R to m Dropped old new taken h = inr (ap (λ (d : Device). d.out) h.0)
processes R to m (Refused code) old new taken h =
    inl (answers_add to code [] [] old new h.0)
processes R to m (NotAcceptable i) old new taken h =
    inl (declines_add to i (wish_of (values 6 m.options)) 134 old new h.0)
processes R to m (Read i) old new taken h =
    inl (reads to i (wish_of (values 6 m.options)) (values 4 m.options)
    (named_by (values 23 m.options))
    (slice_get old.resources i) old new h.0)
processes R to m (Asked i method) old new taken h =
    inl (asks R to m i method (named_by (values 27 m.options)) old new taken h)

-- a CON that isn't remembered is dropped or a new one
new_arrival : (t : ℕ) (p : Peer) (m : Content) (s : Device) → m.kind ≡ Con
    → find (is_repeat t p m.mid) s.remembered ≡ None
    → arrival t p m s ≡ cond (is_full t p s) Ignored (heard_first true m.code)
new_arrival t p m s k none =
    let o : Option Remembered → Arrival = λ v. arrived true m.code v (is_full t p s) in
    ap (λ kind. arrival_by kind t p m s) k ∙ ap o none

not_remembered : (t : ℕ) (p : Peer) (mid : ℕ) (s : Device)
    → ¬ IsRemembered t p mid s → find (is_repeat t p mid) s.remembered ≡ None
not_remembered t p mid s unknown =
    let P : Option Remembered → Type 0 = λ o.
    find (is_repeat t p mid) s.remembered ≡ o
    → find (is_repeat t p mid) s.remembered ≡ None in
    let each : (o : Option Remembered) → P o = λ o. elim o as P [
      | None ↦ λ e. e
      | Some r ↦ λ e. (let f = found_is (is_repeat t p mid) s.remembered r e in
          absurd (unknown (r, f.0, f.1)))
    ] in
    each (find (is_repeat t p mid) s.remembered) refl

-- a request, or what is rejected
takes_new : (R : Relation) (t : ℕ) (p : Peer) (m : Content) (b : Bool) (old new : Device)
    (taken : Option Taken) → Takes R t p m (cond b Fresh Rejected) old new taken
    → AddsOrNot (asker t p m) old new
takes_new R t p m true old new taken h =
    processes R (asker t p m) m (judged m old.resources) old new taken h
takes_new R t p m false old new taken h =
    inl (record {
      bytes = rst m.mid;
      is = ap (λ (d : Device). d.remembered) h.0;
      others = [];
      out = ap (λ (d : Device). d.out) h.0;
    })

takes_first : (R : Relation) (t : ℕ) (p : Peer) (m : Content) (full : Bool) (old new : Device)
    (taken : Option Taken)
    → Takes R t p m (cond full Ignored (heard_first true m.code)) old new taken
    → AddsOrNot (asker t p m) old new
takes_first R t p m true old new taken h = inr (ap (λ (d : Device). d.out) h.0)
takes_first R t p m false old new taken h =
    takes_new R t p m (is_request m.code) old new taken h

-- a datagram that was read is that message, and not too long
read_as : (R : Relation) (t : ℕ) (p : Peer) (d : List ℕ) (m : Content) (old new : Device)
    (taken : Option Taken) → length d ≤ 2048 → message_at d ≡ Ok m
    → Hears R t p d old new taken → Takes R t p m (arrival t p m old) old new taken
read_as R t p d m old new taken short e h =
    let P : Bool → Type 0 = λ b. HearsBy b R t p d old new taken in
    let Q : Result Content CodecFault → Type 0 = λ r. HearsRead R t p d r old new taken in
    subst Q e (subst P (le-ltb 2048 (length d) short) h)

-- a new CON that is answered is remembered with its answer
first_found : (R : Relation) (t u : ℕ) (p : Peer) (m : Content) (answer : List ℕ)
    (others : List Datagram) (old new : Device) → t ≤ u → u < t + 247000
    → find (is_repeat t p m.mid) old.remembered ≡ None
    → new.out ≡ old.out ++ record { peer = p; bytes = answer } ∷ others
    → Adds (asker t p m) old new
    → Finds u p m.mid (memory_of (asker t p m) (Some answer)) new
first_found R t u p m answer others old new le lt none goes h =
    let r = memory_of (asker t p m) (Some h.bytes) in
    let pass = is_repeat u p m.mid in
    let P : List Remembered → Type 0 = λ rs. find pass rs ≡ Some r in
    let Q : List ℕ → Type 0 = λ xs. Finds u p m.mid (memory_of (asker t p m) (Some xs)) new in
    let later : find pass old.remembered ≡ None =
    none_weaker pass (is_repeat t p m.mid) old.remembered
    (λ x e. earlier t u p m.mid x le e) none in
    let front : find pass (filter (is_live t) old.remembered) ≡ None =
    find_kept pass (is_live t) old.remembered
    (λ x e. live_before t u p m.mid x le e) ∙ later in
    let here : Finds u p m.mid r new =
    subst P (sym h.is)
    (found_last pass (filter (is_live t) old.remembered) r front
    (repeats t u p m (Some h.bytes) lt)) in
    let to_peer : List ℕ → Datagram = λ xs. record { peer = p; bytes = xs } in
    let one : to_peer h.bytes ∷ h.others ≡ to_peer answer ∷ others =
    append_cancel_left old.out (to_peer h.bytes ∷ h.others) (to_peer answer ∷ others)
    (sym h.out ∙ goes) in
    let sends : to_peer h.bytes ≡ to_peer answer = cc in
    let same : h.bytes ≡ answer = ap (λ (d : Datagram). d.bytes) sends in
    subst Q same here

same_out : (old new : Device) (x : Datagram) (others : List Datagram)
    → new.out ≡ old.out → new.out ≡ old.out ++ x ∷ others → ⊥
same_out old new x others e goes = grown old.out x others (sym e ∙ goes)

first_adds : (R : Relation) (t : ℕ) (p : Peer) (mid : ℕ) (answer : List ℕ) (old new : Device)
    (x : FirstAnswered R t p mid answer old new)
    → find (is_repeat t p x.con.message.mid) old.remembered ≡ None
    → Adds (asker t p x.con.message) old new
first_adds R t p mid answer old new x none =
    let m = x.con.message in
    let P : Arrival → Type 0 = λ a. Takes R t p m a old new x.taken in
    let taken = read_as R t p x.con.datagram m old new x.taken x.con.short x.con.reads
    x.con.hears in
    let came = new_arrival t p m old x.con.kind_is none in
    elim (takes_first R t p m (is_full t p old) old new x.taken (subst P came taken)) [
      | inl h ↦ h
      | inr e ↦ absurd (same_out old new _ x.others e x.goes)
    ]

again : (R : Relation) (u : ℕ) (p : Peer) (mid : ℕ) (r : Remembered) (answer : List ℕ)
    (old new : Device) (taken : Option Taken) (y : HearsCon R u p mid old new taken)
    → r.answer ≡ Some answer → Finds u p y.message.mid r old
    → (new ≡ sent p answer old) × (taken ≡ None)
again R u p mid r answer old new taken y some f =
    let m = y.message in
    let o : Option Remembered → Arrival = λ v. arrived true m.code v (is_full u p old) in
    let came : arrival u p m old ≡ Repeated answer =
    ap (λ kind. arrival_by kind u p m old) y.kind_is ∙ ap o f
    ∙ ap (λ (v : Option (List ℕ)). heard_again true v) some in
    let P : Arrival → Type 0 = λ a. Takes R u p m a old new taken in
    subst P came (read_as R u p y.datagram m old new taken y.short y.reads y.hears)

pub answered_alike : (R : Relation) → AnsweredAlike R
answered_alike R es old a b new t u p mid answer taken x run by le lt y =
    let m = x.con.message in
    let r = memory_of (asker t p m) (Some answer) in
    let F : ℕ → Type 0 = λ n. Finds u p n r b in
    let N : ℕ → Type 0 = λ n. ¬ IsRemembered t p n old in
    let none : find (is_repeat t p m.mid) old.remembered ≡ None =
    not_remembered t p m.mid old (subst N (sym x.con.mid_is) x.first) in
    let added = first_adds R t p mid answer old a x none in
    let found : Finds u p m.mid r a =
    first_found R t u p m answer x.others old a le lt none x.goes added in
    let later : Finds u p m.mid r b = runs R u p m.mid r es a b by run found in
    again R u p mid r answer b new taken y refl
    (subst F (x.con.mid_is ∙ sym y.mid_is) later)
