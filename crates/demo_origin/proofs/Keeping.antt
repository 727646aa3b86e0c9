-- What is to be given out was made, and so was what may be given out again, after each part of a call.
use Rattle.std.proofs.Common.{◌≡◌, ℕ, List, [], ◌∷◌, ◌++◌, filter, Option, Some, None, sym, ap, subst}
use Rattle.std.specs.List.{AllByRecursion, list_any}
use Rattle.uri_map.specs.declared.peer.Peer.{Peer}
use Rattle.coap_codec.specs.Spelling.{Entry}
use Rattle.demo_origin.specs.Values.{Device}
use Rattle.demo_origin.specs.Answers.{memory_of, noted, sent, Answers}
use Rattle.demo_origin.specs.Arrivals.{is_live}
use Rattle.demo_origin.specs.Notifying.{talk_of, Settles}
use Rattle.demo_origin.specs.Observing.{enlisted, left_by as left_over, newcomer, is_entry, is_no_entry, has_place}
use Rattle.demo_origin.specs.declared.answer.Asker.{Asker}
use Rattle.demo_origin.specs.declared.observers.Wish.{Wish}
use Rattle.demo_origin.specs.declared.observers.Wish.TheVariants.{Register, Deregister, Nothing}
use Rattle.demo_origin.specs.declared.state.Datagram.{Datagram}
use Rattle.demo_origin.specs.declared.state.Held.{Held}
use Rattle.demo_origin.specs.declared.state.Notification.{Notification}
use Rattle.demo_origin.specs.declared.state.Observer.{Observer}
use Rattle.demo_origin.specs.declared.state.Remembered.{Remembered}
use Rattle.demo_origin.proofs.Alls.{all_push, all_filter, all_same}
use Rattle.demo_origin.proofs.Judging.{either_way}
use Rattle.demo_origin.proofs.Talking.{NoteMade, ToldMade, Stems, Announced, tells_all}

abbrev pub AnswerMade : (Datagram → Type 0) → Peer → Option (List ℕ) → Type 0
AnswerMade M p None = Unit {0}
AnswerMade M p (Some bytes) = M (record { peer = p; bytes = bytes })

abbrev pub KeptMade : (Datagram → Type 0) → Remembered → Type 0
KeptMade M r = AnswerMade M r.peer r.answer

-- what is to be given out was made, and what may be given out again
pub record AllMade (M : Datagram → Type 0) (s : Device) : Type 0 where
  pub out : AllByRecursion M s.out
  pub kept : AllByRecursion (KeptMade M) s.remembered
  pub told : AllByRecursion (ToldMade M) s.observers

answer_weaker : (M N : Datagram → Type 0) → ((d : Datagram) → M d → N d) → (r : Remembered)
    (answer : Option (List ℕ)) → AnswerMade M r.peer answer → AnswerMade N r.peer answer
answer_weaker M N k r None h = tt
answer_weaker M N k r (Some bytes) h = k (record { peer = r.peer; bytes = bytes }) h

told_weaker : (M N : Datagram → Type 0) → ((d : Datagram) → M d → N d) → (o : Observer)
    (n : Option Notification) → NoteMade M o.peer n → NoteMade N o.peer n
told_weaker M N k o None h = tt
told_weaker M N k o (Some n) h = k (record { peer = o.peer; bytes = n.bytes }) h

pub weaker : (M N : Datagram → Type 0) → ((d : Datagram) → M d → N d) → (s : Device)
    → AllMade M s → AllMade N s
weaker M N k s g = record {
  out = all_same M N s.out k g.out;
  kept = all_same (KeptMade M) (KeptMade N) s.remembered
      (λ r h. answer_weaker M N k r r.answer h) g.kept;
  told = all_same (ToldMade M) (ToldMade N) s.observers
      (λ o h. told_weaker M N k o o.outstanding h) g.told;
}

-- ---- parts of a call

module _ (M : Datagram → Type 0) where
  pub same_made : (old new : Device) → new ≡ old → AllMade M old → AllMade M new
  same_made old new e g = let P : Device → Type 0 = λ s. AllMade M s in subst P (sym e) g

  pub sends : (p : Peer) (bytes : List ℕ) (s : Device) → M (record { peer = p; bytes = bytes })
      → AllMade M s → AllMade M (sent p bytes s)
  sends p bytes s m g = record {
    out = all_push M s.out (record { peer = p; bytes = bytes }) g.out m;
    kept = g.kept;
    told = g.told;
  }

  pub notes : (to : Asker) (answer : Option (List ℕ)) (s : Device) → AnswerMade M to.peer answer
      → AllMade M s → AllMade M (noted to answer s)
  notes to answer s m g = record {
    out = g.out;
    kept = all_push (KeptMade M) (filter (is_live to.moment) s.remembered)
        (memory_of to answer)
        (all_filter (KeptMade M) (is_live to.moment) s.remembered g.kept) m;
    told = g.told;
  }

  pub answers : (to : Asker) (code : ℕ) (options : List Entry) (payload : List ℕ) (old new : Device)
      (a : Answers to code options payload old new)
      → M (record { peer = to.peer; bytes = a.bytes }) → AllMade M old → AllMade M new
  answers to code options payload old new a m g =
      let P : Device → Type 0 = λ s. AllMade M s in
      subst P (sym a.is) (record {
        out = all_push M old.out (record { peer = to.peer; bytes = a.bytes }) g.out m;
        kept = all_push (KeptMade M) (filter (is_live to.moment) old.remembered)
            (memory_of to (Some a.bytes))
            (all_filter (KeptMade M) (is_live to.moment) old.remembered g.kept) m;
        told = g.told;
      })

  pub enlists : (wish : Wish) (p : Peer) (i : ℕ) (token : List ℕ) (version : ℕ) (os : List Observer)
      → AllByRecursion (ToldMade M) os
      → AllByRecursion (ToldMade M) (enlisted wish p i token version os)
  enlists Register p i token version os h =
      either_way (λ xs. AllByRecursion (ToldMade M) xs) (list_any (is_entry p i token) os) os _
      (λ e. h)
      (λ e. either_way (λ xs. AllByRecursion (ToldMade M) xs) (has_place i os)
      (os ++ newcomer p i token version ∷ []) os
      (λ e. all_push (ToldMade M) os (newcomer p i token version) h tt) (λ e. h))
  enlists Deregister p i token version os h =
      all_filter (ToldMade M) (is_no_entry p i token) os h
  enlists Nothing p i token version os h = h

  pub leaves : (wish : Wish) (p : Peer) (i : ℕ) (token : List ℕ) (os : List Observer)
      → AllByRecursion (ToldMade M) os
      → AllByRecursion (ToldMade M) (left_over wish p i token os)
  leaves Register p i token os h = h
  leaves Deregister p i token os h = all_filter (ToldMade M) (is_no_entry p i token) os h
  leaves Nothing p i token os h = h

  pub settles : (all : List Observer) (t : ℕ) (old new : Device) (s : Settles t old new)
      → Announced M all new.resources new.block
      → AllByRecursion (Stems all) old.observers → AllMade M old → AllMade M new
  settles all t old new s a stems g =
      let P : List Held → Type 0 = λ rs. Announced M all rs new.block in
      let Q : ℕ → Type 0 = λ n. Announced M all old.resources n in
      let made : Announced M all old.resources old.block =
      subst Q (ap (λ (d : Device). d.block) s.is)
      (subst P (ap (λ (d : Device). d.resources) s.is) a) in
      let talk = tells_all M all old.resources t old.block made (talk_of old) s.talk s.tells
      (record { out = g.out; told = g.told; stems = stems }) in
      let D : Device → Type 0 = λ d. AllMade M d in
      subst D (sym s.is) (record { out = talk.out; kept = g.kept; told = talk.told })
