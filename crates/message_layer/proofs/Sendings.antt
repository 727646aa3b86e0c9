-- What RFC 7252 says of sendings.
use Rattle.std.proofs.Common.{◌≡◌, ℕ, ◌+◌, ◌*◌, ◌/◌, ◌%◌, ◌^◌, ◌≤◌, List, [], ◌∷◌, Option, Some, None, Bool, true, false, nat_lt, ◌⊎◌, inl, inr, length, Result, Ok, Err, refl, arith, sym, ◌∙◌, ap}
use Rattle.coap_codec.specs.Spelling.{Content}
use Rattle.coap_codec.specs.Reading.{message_at}
use Rattle.coap_codec.specs.declared.fault.CodecFault.{CodecFault}
use Rattle.message_layer.specs.Values.{LinkState, Told, IsSound, IsSoundOutstanding}
use Rattle.message_layer.specs.Sending.{due_of, next_outstanding, next_by, ticked_by, with_mid}
use Rattle.message_layer.specs.Hearing.{hears_from, hears_read, ended, undecoded, reset_for, verdict_of}
use Rattle.message_layer.specs.Laws.{IsQuiet, IsCopy, IsGivenUp, TickSends, HeardSends, SentSpells}
use Rattle.message_layer.specs.declared.state.Waiting.{Waiting}
use Rattle.message_layer.specs.declared.state.Outstanding.{Outstanding}
use Rattle.message_layer.proofs.Sound.{either}
use borrow.Author.Tests.{ltb-true, ltb-false}

next-outstanding : (t : ℕ) (s : LinkState) (ws : List Waiting) → (next_by t s ws).outstanding ≡ next_outstanding t s.last_mid ws
next-outstanding t s [] = refl
next-outstanding t s (w ∷ ws) = refl

some-same : (f g : Outstanding) → Some f ≡ Some g → f ≡ g
some-same f g e = cc

tick_by : (t : ℕ) (s : LinkState) (o : Option Outstanding) → s.outstanding ≡ o → IsSound s
    → IsQuiet t s (ticked_by t s o) ⊎ (IsCopy t s (ticked_by t s o) ⊎ IsGivenUp t s (ticked_by t s o))
tick_by t s None is h = inl (record { same = refl; early = λ f e. absurd (let x : Some f ≡ None = sym e ∙ is in cc) })
tick_by t s (Some f) is h =
    let P : LinkState × Told → Type 0 = λ r. IsQuiet t s r ⊎ (IsCopy t s r ⊎ IsGivenUp t s r) in
    let turn : IsSoundOutstanding f = rw is at h.turn in
    either P (nat_lt t (due_of f)) _ _
    (λ e. inl (record { same = refl; early = λ g u. rw (some-same g f (sym u ∙ is)) (ltb-true t (due_of f) e) }))
    (λ e. either P (nat_lt f.retransmissions 4) _ _
    (λ d. inr (inl (record { outstanding = f; was = is; few = ltb-true f.retransmissions 4 d; due = ltb-false t (due_of f) e; is = refl; out = refl; says = refl })))
    (λ d.
    let four : f.retransmissions ≡ 4 = omega (arith, ltb-false f.retransmissions 4 d, turn.retransmissions) in
    let late : due_of f ≤ t = ltb-false t (due_of f) e in
    let late_at : f.sent + f.timeout * 2 ^ 4 ≤ t = rw four at late in
    inr (inr (record { outstanding = f; was = is; five = four; due = omega (arith, late_at); is = next-outstanding t s s.waiting; says = refl }))))

pub tick-sends : TickSends
tick-sends t s h = tick_by t s s.outstanding refl h

ended-outstanding : (t : ℕ) (b : Bool) (s : LinkState) → ((ended t b s).outstanding ≡ s.outstanding) ⊎ ((ended t b s).outstanding ≡ next_outstanding t s.last_mid s.waiting)
ended-outstanding t false s = inl refl
ended-outstanding t true s = inr (next-outstanding t s s.waiting)

undecoded-outstanding : (o : Option ℕ) (s : LinkState) → (undecoded o s).outstanding ≡ s.outstanding
undecoded-outstanding None s = refl
undecoded-outstanding (Some mid) s = refl

read-outstanding : (t : ℕ) (d : List ℕ) (s : LinkState) (r : Result Content CodecFault)
    → ((hears_read t d s r).0.outstanding ≡ s.outstanding) ⊎ ((hears_read t d s r).0.outstanding ≡ next_outstanding t s.last_mid s.waiting)
read-outstanding t d s (Ok m) = ended-outstanding t (verdict_of t s m).ends _
read-outstanding t d s (Err e) = inl (undecoded-outstanding (reset_for d) s)

from-outstanding : (t : ℕ) (d : List ℕ) (s : LinkState) (o : Option ℕ)
    → ((hears_from t d s o).0.outstanding ≡ s.outstanding) ⊎ ((hears_from t d s o).0.outstanding ≡ next_outstanding t s.last_mid s.waiting)
from-outstanding t d s None = inl refl
from-outstanding t d s (Some mid) =
    let P : LinkState × Told → Type 0 = λ r. (r.0.outstanding ≡ s.outstanding) ⊎ (r.0.outstanding ≡ next_outstanding t s.last_mid s.waiting) in
    either P (nat_lt 2048 (length d)) _ _ (λ e. inl refl) (λ e. read-outstanding t d s (message_at d))

pub heard-sends : HeardSends
heard-sends t d s = from-outstanding t d s s.last_mid

pub sent-spells : SentSpells
sent-spells m text mid s =
    record {
      options = s.options;
      payload = s.payload;
      mid_high = mid / 256;
      mid_low = mid % 256;
      short_token = s.short_token;
      mid = omega arith;
      mid_low_is_byte = omega arith;
      options_are = s.options_are;
      payload_is = s.payload_is;
      nothing_else = s.nothing_else;
      whole = ap (with_mid mid) s.whole;
    }
