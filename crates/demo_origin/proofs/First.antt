-- A request is executed the first time that it is heard, and not again while it is remembered.
use Rattle.std.proofs.Common.{◌≡◌, ℕ, zero, suc, ◌+◌, ◌-◌, ◌<◌, List, [], ◌∷◌, ◌++◌, filter, Contains, Option, Some, None, Result, Ok, Err, IfOk, IsSome, Bool, true, false, cond, nat_lt, length, append_assoc, refl, sym, ap, subst, ◌∙◌, arith}
use Rattle.std.specs.List.{find}
use Rattle.std.proofs.lemmas.Bool.{and_from, lt-ltb}
use Rattle.std.proofs.lemmas.Bool.Decides.{Decides-eqb}
use Rattle.std.proofs.lemmas.List.Elements.{Contains-push}
use Rattle.uri_map.specs.declared.peer.Peer.{Peer}
use Rattle.coap_codec.specs.Spelling.{Content, Entry}
use Rattle.coap_codec.specs.Reading.{message_at}
use Rattle.coap_codec.specs.declared.fault.CodecFault.{CodecFault}
use Rattle.coap_codec.specs.declared.message.MsgType.{MsgType}
use Rattle.coap_codec.specs.declared.message.MsgType.TheVariants.{Con, Non, Ack, Rst}
use Rattle.demo_origin.specs.Values.{Device, Relation}
use Rattle.uri_map.proofs.CallerLemmas.{same_peer-itself}
use Rattle.demo_origin.specs.Arrivals.{is_live, is_repeat, is_full, heard_again, arrived, arrival_of, is_heeded, arrival_by, arrival}
use Rattle.demo_origin.specs.Answers.{memory_of, Answers, AnswersGet, Declines}
use Rattle.demo_origin.specs.Requests.{judged}
use Rattle.coap_codec.specs.Values.{values}
use Rattle.coap_codec.specs.declared.block.Block.{Block}
use Rattle.demo_origin.specs.Blocks.{named_by}
use Rattle.demo_origin.specs.Uploads.{with_piece, with_body}
use Rattle.demo_origin.specs.declared.uploads.Joined.{Joined}
use Rattle.demo_origin.specs.declared.uploads.Joined.TheVariants.{Gap, TooLarge, Next, Last}
use Rattle.demo_origin.specs.declared.request.Method.{Method}
use Rattle.demo_origin.specs.Hearing.{asker, piece_after, Finishes, TakesPiece, Asks, Executes, Processes, Takes, HearsRead, HearsBy, Hears}
use Rattle.demo_origin.specs.Once.{IsRemembered, IsFirst}
use Rattle.demo_origin.specs.declared.answer.Asker.{Asker}
use Rattle.demo_origin.specs.Notifying.{talk_of}
use Rattle.demo_origin.specs.declared.observers.Wish.{Wish}
use Rattle.demo_origin.specs.declared.state.Datagram.{Datagram}
use Rattle.demo_origin.specs.declared.state.Remembered.{Remembered}
use Rattle.demo_origin.proofs.Growing.{all_grow}
use Rattle.demo_origin.specs.declared.fault.Memory.{Memory}
use Rattle.demo_origin.specs.declared.execution.Taken.{Taken}
use Rattle.demo_origin.specs.declared.arrival.Arrival.{Arrival}
use Rattle.demo_origin.specs.declared.arrival.Arrival.TheVariants.{Ignored, Empty, Rejected, Repeated, Fresh, Acknowledged, Reset}
use Rattle.demo_origin.specs.declared.judge.Judged.{Judged}
use Rattle.demo_origin.specs.declared.judge.Judged.TheVariants.{Dropped, Refused, NotAcceptable, Read, Asked}

-- none is found, so none is there
none_found : {X : Type 0} (p : X → Bool) (xs : List X) (x : X)
    → find p xs ≡ None → Contains xs x → p x ≡ true → ⊥
none_found p [] x none (k, lt, is) passes = absurd (omega arith)
none_found {X} p (y ∷ ys) x none (zero, lt, is) passes =
    let at : p y ≡ true = ap p is ∙ passes in
    let P : Bool → Type 0 = λ b. cond b (Some y) (find p ys) ≡ None in
    let found : Some y ≡ None = subst P at none in
    cc
none_found {X} p (y ∷ ys) x none (suc k, lt, is) passes =
    let more : find p ys ≡ None → ⊥ =
    λ e. none_found p ys x e (k, omega arith, is) passes in
    let Q : Bool → Type 0 = λ b. cond b (Some y) (find p ys) ≡ None → ⊥ in
    let each : (b : Bool) → Q b = λ b. elim b as Q [ true ↦ λ e. cc | false ↦ more ] in
    each (p y) none

-- what passes stays in a filtered list
pub stays : {X : Type 0} (p : X → Bool) (xs : List X) (x : X)
    → p x ≡ true → Contains xs x → Contains (filter p xs) x
stays p [] x passes (k, lt, is) = absurd (omega arith)
stays {X} p (y ∷ ys) x passes (zero, lt, is) =
    let at : p y ≡ true = ap p is ∙ passes in
    let P : Bool → Type 0 = λ b. Contains (cond b (y ∷ filter p ys) (filter p ys)) x in
    subst P (sym at) (zero, omega arith, is)
stays {X} p (y ∷ ys) x passes (suc k, lt, is) =
    let more : Contains (filter p ys) x = stays p ys x passes (k, omega arith, is) in
    let P : Bool → Type 0 = λ b. Contains (cond b (y ∷ filter p ys) (filter p ys)) x in
    elim (p y) as P [ true ↦ (suc more.0, omega (arith, more.1), more.2) | false ↦ more ]

-- what an answer leaves is remembered for 247 s
pub repeats : (t u : ℕ) (p : Peer) (m : Content) (answer : Option (List ℕ))
    → u < t + 247000 → is_repeat u p m.mid (memory_of (asker t p m) answer) ≡ true
repeats t u p m answer lt =
    and_from _ _ ((Decides-eqb m.mid m.mid).1 refl)
    (and_from _ _ (same_peer-itself p) (lt-ltb (u - t) 247000 (omega arith)))

-- What is new was not remembered.
pub again_is_old : (c : Bool) (answer : Option (List ℕ)) → heard_again c answer ≡ Fresh → ⊥
again_is_old true (Some bytes) e = cc
again_is_old true None e = cc
again_is_old false (Some bytes) e = cc
again_is_old false None e = cc

before_is_none : (c : Bool) (code : ℕ) (o : Option Remembered) (full : Bool)
    → arrived c code o full ≡ Fresh → o ≡ None
before_is_none c code (Some r) full e = absurd (again_is_old c r.answer e)
before_is_none c code None full e = refl

of_kind : (c : Bool) (t : ℕ) (p : Peer) (m : Content) (s : Device)
    → arrival_of c t p m s ≡ Fresh → find (is_repeat t p m.mid) s.remembered ≡ None
of_kind c t p m s e =
    before_is_none c m.code (find (is_repeat t p m.mid) s.remembered) (is_full t p s) e

acknowledging : (b : Bool) (o : Option Remembered) → cond b Acknowledged Ignored ≡ Fresh → o ≡ None
acknowledging true o e = cc
acknowledging false o e = cc

resetting : (b : Bool) (o : Option Remembered) → cond b Reset Ignored ≡ Fresh → o ≡ None
resetting true o e = cc
resetting false o e = cc

by_kind : (k : MsgType) (t : ℕ) (p : Peer) (m : Content) (s : Device)
    → arrival_by k t p m s ≡ Fresh → find (is_repeat t p m.mid) s.remembered ≡ None
by_kind Con t p m s e = of_kind true t p m s e
by_kind Non t p m s e = of_kind false t p m s e
by_kind Ack t p m s e = acknowledging (is_heeded p m s) _ e
by_kind Rst t p m s e = resetting (is_heeded p m s) _ e

pub is_new : (t : ℕ) (p : Peer) (m : Content) (s : Device)
    → arrival t p m s ≡ Fresh → ¬ IsRemembered t p m.mid s
is_new t p m s e r =
    none_found (is_repeat t p m.mid) s.remembered r.0 (by_kind m.kind t p m s e) r.1 r.2

-- An answer adds what is remembered of its request, and goes out before what observers are told.
pub record Adds (to : Asker) (old new : Device) : Type 0 where
  pub bytes : List ℕ
  pub is :
      new.remembered
      ≡ filter (is_live to.moment) old.remembered ++ memory_of to (Some bytes) ∷ []
  pub others : List Datagram
  pub out : new.out ≡ old.out ++ record { peer = to.peer; bytes = bytes } ∷ others

pub executes_adds : (R : Relation) (to : Asker) (m : Content) (i : ℕ) (method : _)
    (old new : Device) (taken : Taken)
    → Executes R to m i method old new taken → Adds to old new
executes_adds R to m i method old new taken h =
    let x = h.changes in
    let s = x.settles in
    let d : Datagram = record { peer = to.peer; bytes = x.answers.bytes } in
    let g =
    all_grow to.moment x.middle.block x.middle.resources (talk_of x.middle) s.talk s.tells in
    record {
      bytes = x.answers.bytes;
      is = ap (λ (d : Device). d.remembered) s.is ∙ ap (λ (d : Device). d.remembered) x.answers.is;
      others = g.more;
      out = ap (λ (d : Device). d.out) s.is ∙ g.is
          ∙ ap (λ (e : Device). e.out ++ g.more) x.answers.is
          ∙ append_assoc old.out (d ∷ []) g.more;
    }

pub answers_add : (to : Asker) (code : ℕ) (options : _) (payload : List ℕ) (old new : Device)
    → Answers to code options payload old new → Adds to old new
answers_add to code options payload old new h =
    record {
      bytes = h.bytes;
      is = ap (λ (d : Device). d.remembered) h.is;
      others = [];
      out = ap (λ (d : Device). d.out) h.is;
    }

pub gets_add : (to : Asker) (i : ℕ) (wish : Wish) (version code : ℕ)
    (describes_as : Bool → List Entry → Type 0) (payload : List ℕ) (old new : Device)
    → AnswersGet to i wish version code describes_as payload old new → Adds to old new
gets_add to i wish version code describes_as payload old new h =
    let a = answers_add to code h.options payload old h.middle h.answers in
    record {
      bytes = a.bytes;
      is = ap (λ (d : Device). d.remembered) h.is ∙ a.is;
      others = a.others;
      out = ap (λ (d : Device). d.out) h.is ∙ a.out;
    }

pub declines_add : (to : Asker) (i : ℕ) (wish : Wish) (code : ℕ) (old new : Device)
    → Declines to i wish code old new → Adds to old new
declines_add to i wish code old new h =
    let a = answers_add to code [] [] old h.middle h.answers in
    record {
      bytes = a.bytes;
      is = ap (λ (d : Device). d.remembered) h.is ∙ a.is;
      others = a.others;
      out = ap (λ (d : Device). d.out) h.is ∙ a.out;
    }

not_some : (o : Option Taken) → o ≡ None → IsSome o → ⊥
not_some None e s = cc
not_some (Some x) e s = cc

pub finishes_add : (R : Relation) (to : Asker) (m : Content) (i : ℕ) (method : Method)
    (b : Block) (old new : Device) (taken : Taken)
    → Finishes R to m i method b old new taken → Adds to old new
finishes_add R to m i method b old new taken h =
    let body = with_piece to.peer i b m.payload old in
    let a = executes_adds R to (with_body body m) i method old h.0 taken h.1 in
    record {
      bytes = a.bytes;
      is = ap (λ (d : Device). d.remembered) h.2 ∙ a.is;
      others = a.others;
      out = ap (λ (d : Device). d.out) h.2 ∙ a.out;
    }

takes_piece : (R : Relation) (to : Asker) (m : Content) (i : ℕ) (method : Method) (b : Block)
    (j : Joined) (old new : Device) (taken : Option Taken)
    → TakesPiece R to m i method b j old new taken → IsSome taken → Adds to old new
takes_piece R to m i method b Gap old new taken h s = absurd (not_some taken h.1 s)
takes_piece R to m i method b TooLarge old new taken h s = absurd (not_some taken h.1 s)
takes_piece R to m i method b Next old new taken h s = absurd (not_some taken h.1 s)
takes_piece R to m i method b Last old new taken h s =
    finishes_add R to m i method b old new h.0 h.2

asks_add : (R : Relation) (to : Asker) (m : Content) (i : ℕ) (method : Method)
    (named : Option Block) (old new : Device) (taken : Option Taken)
    → Asks R to m i method named old new taken → IsSome taken → Adds to old new
asks_add R to m i method None old new taken h s =
    executes_adds R to m i method old new h.0 h.2
asks_add R to m i method (Some b) old new taken h s =
    takes_piece R to m i method b (piece_after to.peer i b m old) old new taken h s

processes_adds : (R : Relation) (to : Asker) (m : Content) (j : Judged) (old new : Device)
    (taken : Option Taken) → Processes R to m j old new taken → IsSome taken → Adds to old new
processes_adds R to m Dropped old new taken h s = absurd (not_some taken h.1 s)
processes_adds R to m (Refused code) old new taken h s = absurd (not_some taken h.1 s)
processes_adds R to m (NotAcceptable i) old new taken h s = absurd (not_some taken h.1 s)
processes_adds R to m (Read i) old new taken h s = absurd (not_some taken h.1 s)
processes_adds R to m (Asked i method) old new taken h s =
    asks_add R to m i method (named_by (values 27 m.options)) old new taken h s

takes_first : (R : Relation) (t : ℕ) (p : Peer) (m : Content) (a : Arrival) (old new : Device)
    (taken : Option Taken) → arrival t p m old ≡ a → Takes R t p m a old new taken
    → IsSome taken
    → Adds (asker t p m) old new × (¬ IsRemembered t p m.mid old)
takes_first R t p m Ignored old new taken e h s = absurd (not_some taken h.1 s)
takes_first R t p m Empty old new taken e h s = absurd (not_some taken h.1 s)
takes_first R t p m Rejected old new taken e h s = absurd (not_some taken h.1 s)
takes_first R t p m (Repeated answer) old new taken e h s = absurd (not_some taken h.1 s)
takes_first R t p m Acknowledged old new taken e h s = absurd (not_some taken h.1 s)
takes_first R t p m Reset old new taken e h s = absurd (not_some taken h.1 s)
takes_first R t p m Fresh old new taken e h s = (
  processes_adds R (asker t p m) m (judged m old.resources) old new taken h s,
  is_new t p m old e,
)

remembers : (t : ℕ) (p : Peer) (m : Content) (old new : Device) → Adds (asker t p m) old new
    → (u : ℕ) → u < t + 247000 → IsRemembered u p m.mid new
remembers t p m old new h u lt =
    let r = memory_of (asker t p m) (Some h.bytes) in
    let P : List Remembered → Type 0 = λ rs. Contains rs r in (
      r,
      subst P (sym h.is) (Contains-push (filter (is_live t) old.remembered) r),
      repeats t u p m (Some h.bytes) lt,
    )

reads_first : (R : Relation) (t : ℕ) (p : Peer) (d : List ℕ) (r : Result Content CodecFault)
    (old new : Device) (taken : Option Taken) → message_at d ≡ r
    → HearsRead R t p d r old new taken → IsSome taken → IsFirst t p d old new
reads_first R t p d (Ok m) old new taken e h s =
    let x = takes_first R t p m (arrival t p m old) old new taken refl h s in
    record { message = m; reads = e; first = x.1; kept = remembers t p m old new x.0 }
reads_first R t p d (Err f) old new taken e h s = absurd (not_some taken h.1 s)

by_length : (b : Bool) (R : Relation) (t : ℕ) (p : Peer) (d : List ℕ) (old new : Device)
    (taken : Option Taken) → HearsBy b R t p d old new taken → IsSome taken
    → IsFirst t p d old new
by_length true R t p d old new taken h s = absurd (not_some taken h.1 s)
by_length false R t p d old new taken h s =
    reads_first R t p d (message_at d) old new taken refl h s

pub hears_first : (R : Relation) (t : ℕ) (p : Peer) (d : List ℕ) (old new : Device)
    (taken : Option Taken) → Hears R t p d old new taken → IsSome taken → IsFirst t p d old new
hears_first R t p d old new taken h s =
    by_length (nat_lt 2048 (length d)) R t p d old new taken h s

pub first_of : (R : Relation) (t : ℕ) (p : Peer) (d : List ℕ) (old new : Device)
    (r : Result (Option Taken) Memory) → IfOk r (λ taken. Hears R t p d old new taken)
    → IfOk r (λ taken. IsSome taken → IsFirst t p d old new)
first_of R t p d old new (Ok taken) h = λ s. hears_first R t p d old new taken h s
first_of R t p d old new (Err e) h = tt
