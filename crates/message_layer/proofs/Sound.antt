-- What stays true of a link.
use Rattle.std.proofs.Common.{◌≡◌, ℕ, ◌+◌, ◌^◌, ◌≤◌, ◌<◌, List, [], ◌∷◌, ◌++◌, length, filter, Option, Some, None, Bool, true, false, cond, nat_lt, refl, arith, length-append, count_by, subst, Result, Ok, Err}
use Rattle.std.proofs.lemmas.List.Sums.{length-filter}
use Rattle.std.proofs.lemmas.List.Sums.{count_by-le-length}
use Rattle.coap_codec.specs.Reading.{message_at}
use Rattle.coap_codec.specs.declared.fault.CodecFault.{CodecFault}
use Rattle.message_layer.specs.Hearing.{ended, applied, undecoded, hears_read, hears_from, hears, verdict_of, reset_for}
use Rattle.message_layer.specs.declared.verdict.Verdict.{Verdict}
use Rattle.message_layer.specs.Calls.{forgotten, kept_link, rid_of, waits_not_under, waits_on}
use borrow.Author.Tests.{ltb-true}
use Rattle.std.proofs.Common.{eq-eqb, ◌*◌, ◌/◌}
use Rattle.coap_codec.specs.declared.message.MsgType.TheVariants.{Con}
use Rattle.std.specs.List.{AllByRecursion}
use Rattle.message_layer.specs.Values.{LinkState, Told, IsSound, IsSoundOutstanding, IsSoundWaiting, IsSoundTurn, is_con}
use Rattle.message_layer.specs.Sending.{next_by, ticked, ticked_by, due_of, mids_in_use, submitted, submitted_by, queued, waits, unnumbered, Submits, with_mid}
use Rattle.message_layer.specs.Mids.{is_in_use, pruned}
use Rattle.coap_codec.specs.Spelling.{Content, Spells}
use Rattle.message_layer.specs.declared.state.Waiting.{Waiting}
use Rattle.message_layer.specs.declared.state.Outstanding.{Outstanding}

-- the ID is not the first byte
pub with_mid-con : (mid : ℕ) (d : List ℕ) → 4 ≤ length d → is_con d ≡ true → is_con (with_mid mid d) ≡ true
with_mid-con mid [] h c = absurd (omega arith)
with_mid-con mid (a ∷ []) h c = absurd (omega arith)
with_mid-con mid (a ∷ b ∷ []) h c = absurd (omega arith)
with_mid-con mid (a ∷ b ∷ e ∷ []) h c = absurd (omega arith)
with_mid-con mid (a ∷ b ∷ e ∷ f ∷ rest) h c = c

pub next_by-sound : (t : ℕ) (s : LinkState) (ws : List Waiting) → t ≤ 2 ^ 62 → AllByRecursion IsSoundWaiting ws
    → length s.given + length ws ≤ 32768 → s.waiting ≡ ws → IsSound (next_by t s ws)
next_by-sound t s [] late all few is = record { turn = is; waiting = rw is all; given = rw is few }
next_by-sound t s (w ∷ ws) late all few is = record {
  turn = record { confirmable = with_mid-con _ w.datagram all.0.header all.0.confirmable; short = all.0.short; long = all.0.long; sent = late; retransmissions = omega arith };
  waiting = all.1;
  given = omega (arith, length-append s.given (t ∷ []));
}

-- a choice has a property where both sides do
pub either : {A : Type 0} (P : A → Type 0) (b : Bool) (x y : A) → (b ≡ true → P x) → (b ≡ false → P y) → P (cond b x y)
either P true x y p q = p refl
either P false x y p q = q refl

pub ticked_by-sound : (t : ℕ) (s : LinkState) (f : Option Outstanding) → t ≤ 2 ^ 62 → IsSound s → s.outstanding ≡ f → IsSound (ticked_by t s f).0
ticked_by-sound t s None late h is = h
ticked_by-sound t s (Some f) late h is =
    let turn : IsSoundOutstanding f = rw is at h.turn in
    let P : LinkState × Told → Type 0 = λ x. IsSound x.0 in
    either P (nat_lt t (due_of f)) _ _ (λ e. h) (λ e. either P (nat_lt f.retransmissions 4) _ _
    (λ d. record {
      turn = record { confirmable = turn.confirmable; short = turn.short; long = turn.long; sent = late; retransmissions = omega (arith, ltb-true f.retransmissions 4 d) };
      waiting = h.waiting;
      given = h.given;
    })
    (λ d. next_by-sound t s s.waiting late h.waiting h.given refl))

pub ticked-sound : (t : ℕ) (s : LinkState) → t ≤ 2 ^ 62 → IsSound s → IsSound (ticked t s).0
ticked-sound t s late h = ticked_by-sound t s s.outstanding late h refl

-- what waits is one more
pub all-push : (ws : List Waiting) (w : Waiting) → AllByRecursion IsSoundWaiting ws → IsSoundWaiting w → AllByRecursion IsSoundWaiting (ws ++ w ∷ [])
all-push [] w h p = (p, tt)
all-push (x ∷ ws) w h p = (h.0, all-push ws w h.1 p)

pub few_in_use : (t : ℕ) (us : List ℕ) → count_by (is_in_use t) us ≤ length us
few_in_use t us = count_by-le-length (is_in_use t) us

pub few-pruned : (t n : ℕ) (us : List ℕ) → count_by (is_in_use t) us + n < 32768 → length (pruned t n us) + n < 32768
few-pruned t n us h = either (λ (xs : List ℕ). length xs + n < 32768) (nat_lt (length us + n) 32768) _ _ (λ e. ltb-true (length us + n) 32768 e) (λ e. rw (length-filter (is_in_use t) us) h)

pub submitted-sound : (t : ℕ) (w : Waiting) (s : LinkState) → t ≤ 2 ^ 62 → IsSound s → IsSoundWaiting w → mids_in_use t s < 32768 → IsSound (submitted t w s)
submitted-sound t w s late h p few = by s.outstanding refl
  where
    all : AllByRecursion IsSoundWaiting (s.waiting ++ w ∷ [])
    all = all-push s.waiting w h.waiting p

    fits : length (pruned t (length s.waiting) s.given) + length (s.waiting ++ w ∷ []) ≤ 32768
    fits = rw (length-append s.waiting (w ∷ [])) (omega (arith, few-pruned t (length s.waiting) s.given few))

    by : (f : Option Outstanding) → s.outstanding ≡ f → IsSound (submitted_by t (queued t w s) f)
    by None e = next_by-sound t (queued t w s) (s.waiting ++ w ∷ []) late all fits refl
    by (Some f) e = record { turn = turn_kept; waiting = all; given = fits }
      where
        turn_kept : IsSoundTurn s.outstanding (s.waiting ++ w ∷ [])
        turn_kept = rw e (rw e at h.turn)

pub Spells-long : (m : Content) (bytes : List ℕ) → Spells m bytes → 4 ≤ length bytes
Spells-long m bytes s = rw s.whole (omega arith)

pub spelled_con : (m : Content) (bytes : List ℕ) → m.kind ≡ Con → Spells m bytes → is_con bytes ≡ true
spelled_con m bytes kind s =
    let short : length m.token ≤ 8 = s.short_token in
    let four : (64 + 16 * 0 + length m.token) / 16 ≡ 4 = omega (arith, short) in
    rw (s.whole, kind) (eq-eqb _ _ four)

pub waits-sound : (m : Content) (text : List ℕ) (word : ℕ) → m.kind ≡ Con → Spells m text → IsSoundWaiting (waits m.token text word)
waits-sound m text word kind s = record {
  confirmable = spelled_con m text kind s;
  header = Spells-long m text s;
  short = omega arith;
  long = omega arith;
  mid = omega arith;
}

pub Submits-sound : (t word : ℕ) (m : Content) (old new : LinkState) → t ≤ 2 ^ 62 → m.kind ≡ Con → IsSound old → mids_in_use t old < 32768 → Submits t word m old new → IsSound new
Submits-sound t word m old new late kind h few s =
    rw (s.is) (submitted-sound t (waits m.token s.text word) old late h (waits-sound (unnumbered m) s.text word kind s.spelled) few)

pub ended-sound : (t : ℕ) (b : Bool) (s : LinkState) → t ≤ 2 ^ 62 → IsSound s → IsSound (ended t b s)
ended-sound t false s late h = h
ended-sound t true s late h = next_by-sound t s s.waiting late h.waiting h.given refl

pub applied-sound : (t mid : ℕ) (token : List ℕ) (v : Verdict) (s : LinkState) → t ≤ 2 ^ 62 → IsSound s → IsSound (applied t mid token v s)
applied-sound t mid token v s late h = ended-sound t v.ends _ late (record { turn = h.turn; waiting = h.waiting; given = h.given })

pub undecoded-sound : (o : Option ℕ) (s : LinkState) → IsSound s → IsSound (undecoded o s)
undecoded-sound None s h = h
undecoded-sound (Some mid) s h = record { turn = h.turn; waiting = h.waiting; given = h.given }

pub hears_read-sound : (t : ℕ) (d : List ℕ) (s : LinkState) (r : Result Content CodecFault) → t ≤ 2 ^ 62 → IsSound s → IsSound (hears_read t d s r).0
hears_read-sound t d s (Ok m) late h = applied-sound t m.mid m.token (verdict_of t s m) s late h
hears_read-sound t d s (Err e) late h = undecoded-sound (reset_for d) s h

pub hears_from-sound : (t : ℕ) (d : List ℕ) (s : LinkState) (o : Option ℕ) → t ≤ 2 ^ 62 → IsSound s → IsSound (hears_from t d s o).0
hears_from-sound t d s None late h = h
hears_from-sound t d s (Some mid) late h =
    let P : LinkState × Told → Type 0 = λ x. IsSound x.0 in
    either P (nat_lt 2048 (length d)) _ _ (λ e. h) (λ e. hears_read-sound t d s (message_at d) late h)

pub hears-sound : (t : ℕ) (d : List ℕ) (s new : LinkState) (says : Told) → t ≤ 2 ^ 62 → IsSound s → hears t d s ≡ (new, says) → IsSound new
hears-sound t d s new says late h e = subst (λ (x : LinkState × Told). IsSound x.0) e (hears_from-sound t d s s.last_mid late h)

pub all-filter : (p : Waiting → Bool) (ws : List Waiting) → AllByRecursion IsSoundWaiting ws → AllByRecursion IsSoundWaiting (filter p ws)
all-filter p [] h = h
all-filter p (w ∷ ws) h = either (AllByRecursion IsSoundWaiting) (p w) _ _ (λ e. (h.0, all-filter p ws h.1)) (λ e. all-filter p ws h.1)

pub forgotten-sound : (token : List ℕ) (s : LinkState) → IsSound s → IsSound (forgotten token s)
forgotten-sound token s h = record {
  turn = by s.outstanding refl;
  waiting = all-filter (waits_not_under token) s.waiting h.waiting;
  given = omega (arith, h.given, length-filter (waits_not_under token) s.waiting, count_by-le-length (waits_not_under token) s.waiting);
}
  where
    by : (f : Option Outstanding) → s.outstanding ≡ f → IsSoundTurn f (filter (waits_not_under token) s.waiting)
    by None e = let w : s.waiting ≡ [] = rw e at h.turn in rw w refl
    by (Some f) e = rw e at h.turn

pub rid_of-sound : (gone : List ℕ → Bool) (s : LinkState) → IsSound s → IsSound (rid_of gone s)
rid_of-sound gone s h = record {
  turn = by s.outstanding refl;
  waiting = all-filter (waits_on gone) s.waiting h.waiting;
  given = omega (
    arith,
    h.given,
    length-filter (waits_on gone) s.waiting,
    count_by-le-length (waits_on gone) s.waiting,
  );
}
  where
    by : (f : Option Outstanding) → s.outstanding ≡ f
        → IsSoundTurn f (filter (waits_on gone) s.waiting)
    by None e = let w : s.waiting ≡ [] = rw e at h.turn in rw w refl
    by (Some f) e = rw e at h.turn

pub kept-sound : (t : ℕ) (s : LinkState) → IsSound s → IsSound (kept_link t s)
kept-sound t s h = record {
  turn = refl;
  waiting = tt;
  given = omega (arith, h.given, length-filter (is_in_use t) s.given, count_by-le-length (is_in_use t) s.given);
}
