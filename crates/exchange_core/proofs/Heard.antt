-- The message that goes out next, after a datagram, is the one that the step sends.
use Rattle.std.proofs.Common.{◌≡◌, ℕ, ◌≤◌, Bool, true, false, List, [], ◌∷◌, ◌++◌, length, map, Option, Some, None, refl, sym, subst, arith, length-append}
use Rattle.std.specs.Prelude.{is_some, not, ◌||◌}
use Rattle.uri_map.specs.declared.peer.Peer.{Peer}
use Rattle.message_layer.specs.Values.{LinkState, LinkValue}
use Rattle.message_layer.specs.Hearing.{answered_in, ended, listed, remembered_in, replies}
use Rattle.message_layer.specs.Sending.{IsNext, first_sent, next_by}
use Rattle.message_layer.specs.Prepared.{MayFollow, MayHeed, at_once, heeded}
use Rattle.message_layer.specs.declared.prepared.FirstSending.{FirstSending}
use Rattle.message_layer.specs.declared.prepared.Heeding.{Heeding}
use Rattle.message_layer.specs.declared.prepared.Submission.{Submission}
use Rattle.message_layer.specs.declared.state.Outstanding.{Outstanding}
use Rattle.message_layer.specs.declared.state.Waiting.{Waiting}
use Rattle.exchange_model.specs.declared.kept.Exchange.{Exchange}
use Rattle.exchange_model.specs.State.{State, link_of}
use Rattle.exchange_model.specs.Entering.{confirm, first_deeds, going_as, in_turn, next_out, sent_as}
use Rattle.exchange_model.specs.Keeping.{Kept}
use Rattle.exchange_model.specs.Resting.{IsUndue}
use Rattle.history_laws.specs.Exchanges.{waiting}
use Rattle.history_laws.specs.Readings.{ticked}
use Rattle.history_links.specs.Agrees.{WaitIn}
use Rattle.exchange_core.specs.Hearing.{link_deeds, note_next}
use Rattle.exchange_core.specs.Matters.{or_handed_in}
use Rattle.exchange_core.specs.Sending.{IsTimed, sent_first}

-- It is the first sending of this message, or there is none.
abbrev pub IsFirstOf : ℕ → Option ℕ → Option Waiting → Option FirstSending → Type 0
IsFirstOf t last None None = Unit {0}
IsFirstOf t last None (Some f) = ⊥
IsFirstOf t last (Some w) None = ⊥
IsFirstOf t last (Some w) (Some f) = (f.message ≡ first_sent t last w) × (f.datagram ≡ f.message.datagram)

abbrev pub waiting_in : Option Submission → Option Waiting
waiting_in None = None
waiting_in (Some s) = Some s.waiting

-- the message that waits first
first-of : (t : ℕ) (last : Option ℕ) (ws : List Waiting) (v : Option FirstSending) → IsNext t last ws v → IsFirstOf t last (in_turn true ws) v
first-of t last [] None i = tt
first-of t last [] (Some f) i = absurd i
first-of t last (w ∷ ws) None i = absurd i
first-of t last (w ∷ ws) (Some f) i = i

pub none-handed : (v : Option FirstSending) → or_handed_in v None ≡ v
none-handed None = refl
none-handed (Some f) = refl

-- where none is handed in
alone : (t : ℕ) (ends : Bool) (s : LinkState) (v : Option FirstSending) → (ends ≡ true → IsNext t s.last_mid s.waiting v) → (ends ≡ false → v ≡ None)
    → IsFirstOf t s.last_mid (in_turn ends s.waiting) v
alone t true s v next none = first-of t s.last_mid s.waiting v (next refl)
alone t false s v next none = rw (none refl) tt

-- where one is, while nothing is outstanding
turned : (t : ℕ) (s u : LinkState) (v : Option FirstSending) (x : Submission) (ws : List Waiting) → s.waiting ≡ ws → IsNext t s.last_mid ws v
    → IsNext t (next_by t u ws).last_mid (at_once x.waiting (next_by t u ws).outstanding) x.sent → u.last_mid ≡ s.last_mid
    → IsFirstOf t s.last_mid (in_turn true (ws ++ x.waiting ∷ [])) (or_handed_in v (Some x))
turned t s u None x [] e next sent same = first-of t s.last_mid (x.waiting ∷ []) x.sent (subst (λ (last : Option ℕ). IsNext t last (x.waiting ∷ []) x.sent) same sent)
turned t s u (Some f) x [] e next sent same = absurd next
turned t s u None x (w ∷ ws) e next sent same = absurd next
turned t s u (Some f) x (w ∷ ws) e next sent same = next

-- where one is, and what is outstanding stays
stays : (t : ℕ) (last : Option ℕ) (o : Option Outstanding) (ws : List Waiting) (x : Submission) → (o ≡ None → ws ≡ []) → IsNext t last (at_once x.waiting o) x.sent
    → IsFirstOf t last (in_turn (false || not (is_some o)) (ws ++ x.waiting ∷ [])) x.sent
stays t last None ws x rests sent = rw (rests refl) (first-of t last (x.waiting ∷ []) x.sent sent)
stays t last (Some o) ws x rests sent = first-of t last [] x.sent sent

pub next-is : (t : ℕ) (link : LinkValue) (x : Heeding) (more : Option Submission) → MayHeed t link x → MayFollow t link x more
    → (link.state.outstanding ≡ None → link.state.waiting ≡ [])
    → IsFirstOf t link.state.last_mid (next_out x.verdict link.state (waiting_in more)) (or_handed_in x.next more)
next-is t link x None h f rests = rw (none-handed x.next) (alone t x.verdict.ends link.state x.next h.next h.none)
next-is t link x (Some y) h f rests = by x.verdict.ends h.next h.none f.sent
  where
    s : LinkState
    s = link.state

    u : LinkState
    u = record s {
      awaited = answered_in x.token x.verdict.news s.awaited;
      heard = remembered_in t x.mid x.verdict.reply x.verdict.remembered s.heard;
      out = s.out ++ replies x.mid x.verdict.reply;
    }

    by : (b : Bool) → (b ≡ true → IsNext t s.last_mid s.waiting x.next) → (b ≡ false → x.next ≡ None)
        → IsNext t (ended t b u).last_mid (at_once y.waiting (ended t b u).outstanding) y.sent
        → IsFirstOf t s.last_mid (in_turn (b || not (is_some s.outstanding)) (s.waiting ++ y.waiting ∷ [])) (or_handed_in x.next (Some y))
    by true next none sent = turned t s u x.next y s.waiting refl (next refl) sent refl
    by false next none sent =
        subst (λ (v : Option FirstSending). IsFirstOf t s.last_mid (in_turn (false || not (is_some s.outstanding)) (s.waiting ++ y.waiting ∷ [])) (or_handed_in v (Some y)))
        (sym (none refl)) (stays t s.last_mid s.outstanding s.waiting y rests sent)

-- between two steps nothing waits where nothing is outstanding
pub idle-waits : (p : Peer) (S : State) → Kept S → (link_of S.links p).outstanding ≡ None → (link_of S.links p).waiting ≡ []
idle-waits p S k none = subst (λ (v : Option Outstanding). IsUndue (ticked k.reading) v (link_of S.links p).waiting) none (k.rests.links p)

pub next-deeds : (t : ℕ) (p : Peer) (last : Option ℕ) (w : Option Waiting) (v : Option FirstSending) → IsFirstOf t last w v → sent_first p v ≡ first_deeds t p last w
next-deeds t p last None None i = refl
next-deeds t p last None (Some f) i = absurd i
next-deeds t p last (Some w) None i = absurd i
next-deeds t p last (Some w) (Some f) i = rw (i.1, i.0) refl

pub next-noted : (t n : ℕ) (last : Option ℕ) (w : Option Waiting) (v : Option FirstSending) (es : List Exchange) → IsFirstOf t last w v
    → note_next n v es ≡ sent_as (going_as n w) es
next-noted t n last None None es i = refl
next-noted t n last None (Some f) es i = absurd i
next-noted t n last (Some w) None es i = absurd i
next-noted t n last (Some w) (Some f) es i = rw (i.0) refl

-- its timeout has 32 bits

waited-timed : (t : ℕ) (p : Peer) (S : State) (link : LinkValue) (x : Heeding) → MayHeed t link x
    → link.state ≡ link_of S.links p → Kept S → IsTimed x.next
waited-timed t p S link x h at k =
    by x.verdict.ends x.next link.state.waiting h.next h.none (waiting k.reading p)
    (subst (λ (u : LinkState). WaitIn k.rests.reads.start k.reading (waiting k.reading p) u.waiting) (sym at)
    (k.rests.reads.links_are p).waits)
  where
    some-none : (f : FirstSending) → Some f ≡ None → ⊥
    some-none f e = cc

    by : (b : Bool) (v : Option FirstSending) (ws : List Waiting)
        → (b ≡ true → IsNext t link.state.last_mid ws v) → (b ≡ false → v ≡ None)
        → (os : List ℕ) → WaitIn k.rests.reads.start k.reading os ws → IsTimed v
    by b None ws next none os a = tt
    by false (Some f) ws next none os a = absurd (some-none f (none refl))
    by true (Some f) [] next none os a = absurd (next refl)
    by true (Some f) (w ∷ ws) next none [] a = absurd a
    by true (Some f) (w ∷ ws) next none (o ∷ os) a =
        let e = next refl in let s = a.0.greatest in rw (e.0) (omega (arith, s))

more-timed : (t : ℕ) (last : Option ℕ) (w : Waiting) (o : Option Outstanding) (v : Option FirstSending) → w.timeout ≤ 3000 → IsNext t last (at_once w o) v → IsTimed v
more-timed t last w o None short next = tt
more-timed t last w None (Some f) short next = rw (next.0) (omega (arith, short))
more-timed t last w (Some o) (Some f) short next = absurd next

pub next-timed : (t : ℕ) (p : Peer) (S : State) (link : LinkValue) (x : Heeding) (more : Option Submission) → MayHeed t link x → MayFollow t link x more
    → link.state ≡ link_of S.links p → Kept S → IsTimed (or_handed_in x.next more)
next-timed t p S link x more h f at k = by x.next more f (waited-timed t p S link x h at k)
  where
    by : (v : Option FirstSending) (m : Option Submission) → MayFollow t link x m → IsTimed v → IsTimed (or_handed_in v m)
    by (Some f) m follows timed = timed
    by None None follows timed = tt
    by None (Some y) follows timed =
        more-timed t (heeded t x link.state).last_mid y.waiting (heeded t x link.state).outstanding y.sent follows.sound.short follows.sent

-- how many there are

next-short : (p : Peer) (v : Option FirstSending) → length (sent_first p v) ≤ 1
next-short p None = omega arith
next-short p (Some x) = omega arith

pub reply-few : (p : Peer) (v : Option (List ℕ)) → length (map (confirm p) (listed v)) ≤ 1
reply-few p None = omega arith
reply-few p (Some b) = omega arith

pub link-few : (p : Peer) (d : List ℕ) (x : Heeding) (v : Option FirstSending) → length (link_deeds p d x v) ≤ 3
link-few p d x v =
    let r = reply-few p x.reply in
    let n = next-short p v in
    let l = length-append (map (confirm p) (listed x.reply)) (sent_first p v) in
    omega (arith, r, n, l)
