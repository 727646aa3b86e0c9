-- What a datagram leaves to a message that is taken after it.
use Rattle.std.proofs.Common.{◌≡◌, ℕ, suc, ◌+◌, ◌-◌, ◌≤◌, ◌^◌, List, [], ◌∷◌, ◌++◌, length, count_by, Option, Some, None, Bool, true, false, not, cond, nat_lt, filter, is_some, refl, ap, ◌∙◌, arith, length-append}
use Rattle.std.proofs.lemmas.Bool.{lt-ltb}
use Rattle.std.proofs.lemmas.List.Elements.{filter-append}
use Rattle.std.proofs.lemmas.List.Sums.{fold-append}
use Rattle.message_layer.specs.Values.{LinkState, LinkValue, IsSound}
use Rattle.message_layer.proofs.Sound.{applied-sound, submitted-sound}
use Rattle.message_layer.specs.Mids.{is_in_use, pruned}
use Rattle.message_layer.specs.Sending.{first_sent, mids_in_use, next_by, queued, submitted, with_outstanding, IsNext, IsNextOf}
use Rattle.message_layer.specs.Laws.{turned, TakesAfter}
use Rattle.message_layer.specs.Hearing.{answered_in, ended, remembered_in, replies}
use Rattle.message_layer.specs.Prepared.{heeded, followed, is_free, sendings, MayFollow, MayHeed}
use Rattle.message_layer.specs.declared.state.Waiting.{Waiting}
use Rattle.message_layer.specs.declared.state.Outstanding.{Outstanding}
use Rattle.message_layer.specs.declared.prepared.FirstSending.{FirstSending}
use Rattle.message_layer.specs.declared.prepared.Heeding.{Heeding}
use Rattle.message_layer.specs.declared.prepared.Submission.{Submission}

-- what waited, and the IDs in use, as the end of what is outstanding leaves them
pub record IsTurned (t : ℕ) (old new : LinkState) (next : Option FirstSending) (ends : Bool) : Type 0 where
  pub count : length new.waiting + sendings next ≡ length old.waiting
  pub mids : mids_in_use t new ≡ mids_in_use t old
  pub free : not (is_some new.outstanding) ≡ is_free next ends old.outstanding
  pub last : is_free next ends old.outstanding ≡ true → new.last_mid ≡ old.last_mid

-- an ID that is given now is in use
in-use-now : (t : ℕ) → is_in_use t t ≡ true
in-use-now t = lt-ltb (t - t) 494000 (omega arith)

pub one-more : (t : ℕ) (given : List ℕ) → count_by (is_in_use t) (given ++ t ∷ []) ≡ suc (count_by (is_in_use t) given)
one-more t given = fold-append _ 0 given (t ∷ []) ∙ rw (in-use-now t) (omega arith)

next-turned : (t : ℕ) (s : LinkState) (ws : List Waiting) (next : Option FirstSending) → s.waiting ≡ ws
    → IsNext t s.last_mid ws next → IsTurned t s (next_by t s ws) next true
next-turned t s [] None e i = record { count = omega arith; mids = refl; free = refl; last = λ f. refl }
next-turned t s [] (Some first) e i = absurd i
next-turned t s (w ∷ ws) None e i = absurd i
next-turned t s (w ∷ ws) (Some first) e i = record {
  count = rw e (omega arith);
  mids = rw (e, one-more t s.given) (omega arith);
  free = refl;
  last = λ f. absurd (let g : false ≡ true = f in cc);
}

ended-turned : (t : ℕ) (ends : Bool) (s : LinkState) (next : Option FirstSending)
    → (ends ≡ true → IsNextOf t s next) → (ends ≡ false → next ≡ None)
    → IsTurned t s (ended t ends s) next ends
ended-turned t true s next i none = next-turned t s s.waiting next refl (i refl)
ended-turned t false s next i none = rw (none refl) (record { count = omega arith; mids = refl; free = refl; last = λ f. refl })

pub heeded-turned : (t : ℕ) (link : LinkValue) (x : Heeding) → MayHeed t link x
    → IsTurned t link.state (heeded t x link.state) x.next x.verdict.ends
heeded-turned t link x h =
    let s : LinkState = record {
      waiting = link.state.waiting;
      outstanding = link.state.outstanding;
      last_mid = link.state.last_mid;
      given = link.state.given;
      awaited = answered_in x.token x.verdict.news link.state.awaited;
      heard = remembered_in t x.mid x.verdict.reply x.verdict.remembered link.state.heard;
      out = link.state.out ++ replies x.mid x.verdict.reply;
    } in
    let i : IsTurned t s (ended t x.verdict.ends s) x.next x.verdict.ends = ended-turned t x.verdict.ends s x.next h.next h.none in
    record { count = i.count; mids = i.mids; free = i.free; last = i.last }

-- what a message after it leaves
pub followed-sound : (t : ℕ) (link : LinkValue) (x : Heeding) (more : Option Submission) → t ≤ 2 ^ 62 → IsSound link.state
    → MayFollow t link x more → IsSound (followed t more (heeded t x link.state))
followed-sound t link x None late h m = applied-sound t x.mid x.token x.verdict link.state late h
followed-sound t link x (Some more) late h m =
    submitted-sound t more.waiting (heeded t x link.state) late (applied-sound t x.mid x.token x.verdict link.state late h) m.sound m.free

-- Whether the message is queued before the turn of the next one or after it is the same.

choose : (t : ℕ) (b : Bool) (xs ys : List ℕ) → cond b (xs ++ t ∷ []) (ys ++ t ∷ []) ≡ cond b xs ys ++ t ∷ []
choose t true xs ys = refl
choose t false xs ys = refl

pruned-more : (t n : ℕ) (given : List ℕ) → pruned t n (given ++ t ∷ []) ≡ pruned t (suc n) given ++ t ∷ []
pruned-more t n given =
    let p : ℕ → Bool = is_in_use t in
    let e : length (given ++ t ∷ []) + n ≡ length given + suc n = omega (arith, length-append given (t ∷ [])) in
    let f : filter p (given ++ t ∷ []) ≡ filter p given ++ t ∷ [] = filter-append p given (t ∷ []) ∙ rw (in-use-now t) refl in
    rw (e, f) (choose t (nat_lt (length given + suc n) 32768) given (filter p given))

ended-queued : (t : ℕ) (w : Waiting) (ends : Bool) (s : LinkState)
    → submitted t w (ended t ends s) ≡ turned t (queued t w (record s { outstanding = cond ends None s.outstanding }))
ended-queued t w false s = refl
ended-queued t w true s = by s.waiting refl
  where
    free : LinkState
    free = record s { outstanding = None }

    by : (ws : List Waiting) → s.waiting ≡ ws
        → submitted t w (next_by t s ws) ≡ next_by t (queued t w free) (s.waiting ++ w ∷ [])
    by [] e = refl
    by (v ∷ ws) e =
        let first : Outstanding = first_sent t s.last_mid v in
        rw e (ap (λ (given : List ℕ). record (queued t w (with_outstanding s ws first)) { given = given }) (pruned-more t (length ws) s.given))

pub takes-after : TakesAfter
takes-after t mid token v w s = ended-queued t w v.ends (record s {
  awaited = answered_in token v.news s.awaited;
  heard = remembered_in t mid v.reply v.remembered s.heard;
  out = s.out ++ replies mid v.reply;
})
