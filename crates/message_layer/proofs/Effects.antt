-- What a step does to the message that is outstanding: nothing, or it ends; a first sending; or a copy.
use Rattle.std.proofs.Common.{◌≡◌, ℕ, ◌+◌, ◌≤◌, ◌<◌, List, [], ◌∷◌, ◌++◌, length, filter, Option, Some, None, Bool, true, false, cond, nat_lt, ◌⊎◌, inl, inr, Result, Ok, Err, refl, sym, ◌∙◌, ap, arith, length-append, count_by, append_assoc, append-nil}
use Rattle.std.proofs.lemmas.Bool.{lt-ltb}
use Rattle.std.proofs.lemmas.List.{append_cancel_left}
use Rattle.std.proofs.lemmas.List.Elements.{filter-append}
use Rattle.std.proofs.lemmas.List.Sums.{length-filter, count_by-le-length}
use Rattle.std.specs.List.{AllByRecursion}
use Rattle.coap_codec.specs.Spelling.{Content}
use Rattle.coap_codec.specs.Reading.{message_at}
use Rattle.coap_codec.specs.declared.fault.CodecFault.{CodecFault}
use Rattle.message_layer.specs.Values.{LinkState, Told, IsSound, IsSoundWaiting, IsSoundOutstanding, is_con}
use Rattle.message_layer.specs.Sending.{with_mid, next_mid, first_sent, next_by, again, due_of, ticked, ticked_by, queued, submitted, submitted_by}
use Rattle.message_layer.specs.Mids.{is_in_use, pruned}
use Rattle.message_layer.specs.Hearing.{replies, verdict_of, ended, hears, hears_from, hears_read, undecoded, reset_for}
use Rattle.message_layer.specs.declared.state.Reply.{Reply}
use Rattle.message_layer.specs.declared.state.Reply.TheVariants as reply
use Rattle.message_layer.specs.declared.state.Waiting.{Waiting}
use Rattle.message_layer.specs.declared.state.Outstanding.{Outstanding}
use Rattle.message_layer.specs.declared.verdict.Verdict.{Verdict}
use Rattle.message_layer.proofs.Sound.{either, with_mid-con, all-push, few-pruned}
use borrow.Author.Tests.{ltb-true, ltb-false}

-- how many of these are in use
abbrev pub in_use : ℕ → List ℕ → ℕ
in_use t given = length (filter (is_in_use t) given)

-- in each case of what waits, once the call has changed that itself
pub record Rests (t : ℕ) (old new : LinkState) (sent : List (List ℕ)) (queue : List Waiting) : Type 0 where
  pub outstanding : (new.outstanding ≡ old.outstanding) ⊎ (new.outstanding ≡ None)
  pub last : new.last_mid ≡ old.last_mid
  pub given : (u : ℕ) → t ≤ u → in_use u new.given ≡ in_use u old.given
  pub quiet : filter is_con sent ≡ []
  pub waiting : new.waiting ≡ queue

pub record SendsFirst (t : ℕ) (old new : LinkState) (sent : List (List ℕ)) (queue : List Waiting) : Type 0 where
  pub w : Waiting
  pub sound : IsSoundWaiting w
  pub outstanding : new.outstanding ≡ Some (first_sent t old.last_mid w)
  pub last : new.last_mid ≡ Some (next_mid old.last_mid w.first_mid)
  pub given : (u : ℕ) → t ≤ u → in_use u new.given ≡ in_use u old.given + in_use u (t ∷ [])
  pub few : in_use t old.given < 32768
  pub is : filter is_con sent ≡ with_mid (next_mid old.last_mid w.first_mid) w.datagram ∷ []
  pub from : queue ≡ w ∷ new.waiting

pub record SendsCopy (t : ℕ) (old new : LinkState) (sent : List (List ℕ)) (queue : List Waiting) : Type 0 where
  pub o : Outstanding
  pub was : old.outstanding ≡ Some o
  pub few : o.retransmissions < 4
  pub due : due_of o ≤ t
  pub outstanding : new.outstanding ≡ Some (again t o)
  pub last : new.last_mid ≡ old.last_mid
  pub given : (u : ℕ) → t ≤ u → in_use u new.given ≡ in_use u old.given
  pub is : filter is_con sent ≡ o.datagram ∷ []
  pub waiting : new.waiting ≡ queue

abbrev pub Effect : ℕ → LinkState → LinkState → List (List ℕ) → List Waiting → Type 0
Effect t old new sent queue = Rests t old new sent queue ⊎ (SendsFirst t old new sent queue ⊎ SendsCopy t old new sent queue)

-- a test that follows from another keeps its elements
kept-step : {X : Type 0} (p : X → Bool) (x : X) (ys zs : List X) (b c : Bool) → (c ≡ true → b ≡ true) → p x ≡ c → filter p ys ≡ zs
    → filter p (cond b (x ∷ ys) ys) ≡ cond c (x ∷ zs) zs
kept-step p x ys zs true true h px e = rw (px, e) refl
kept-step p x ys zs true false h px e = rw (px, e) refl
kept-step p x ys zs false true h px e = absurd (let f : false ≡ true = h refl in cc)
kept-step p x ys zs false false h px e = e

pub filter-kept : {X : Type 0} (p q : X → Bool) → ((x : X) → p x ≡ true → q x ≡ true) → (xs : List X) → filter p (filter q xs) ≡ filter p xs
filter-kept p q h [] = refl
filter-kept p q h (x ∷ xs) = kept-step p x (filter q xs) (filter p xs) (q x) (p x) (h x) refl (filter-kept p q h xs)

still-in-use : (t u x : ℕ) → t ≤ u → is_in_use u x ≡ true → is_in_use t x ≡ true
still-in-use t u x later h = lt-ltb _ _ (omega (arith, ltb-true _ _ h))

pub pruned-given : (t u n : ℕ) (given : List ℕ) → t ≤ u → in_use u (pruned t n given) ≡ in_use u given
pruned-given t u n given later =
    either (λ (xs : List ℕ). in_use u xs ≡ in_use u given) (nat_lt (length given + n) 32768) _ _ (λ e. refl)
    (λ e. ap (λ (xs : List ℕ). length xs) (filter-kept (is_in_use u) (is_in_use t) (λ x. still-in-use t u x later) given))

pub in_use-fits : (t : ℕ) (given : List ℕ) → in_use t given ≤ length given
in_use-fits t given = rw (length-filter (is_in_use t) given) (count_by-le-length (is_in_use t) given)

in_use-push : (u t : ℕ) (given : List ℕ) → in_use u (given ++ t ∷ []) ≡ in_use u given + in_use u (t ∷ [])
in_use-push u t given = rw (filter-append (is_in_use u) given (t ∷ [])) (length-append _ _)

-- a link that goes on from the old one after answers alone
pub record GoesOn (t : ℕ) (old s : LinkState) (answers : List (List ℕ)) : Type 0 where
  pub last : s.last_mid ≡ old.last_mid
  pub given : (u : ℕ) → t ≤ u → in_use u s.given ≡ in_use u old.given
  pub out : s.out ≡ old.out ++ answers
  pub quiet : filter is_con answers ≡ []

pub quiet-sent : (old answers sent : List (List ℕ)) → filter is_con answers ≡ [] → old ++ answers ≡ old ++ sent → filter is_con sent ≡ []
quiet-sent old answers sent quiet e = rw (← append_cancel_left old answers sent e) quiet

append-again : (a b c : List (List ℕ)) → (a ++ b) ++ c ≡ a ++ (b ++ c)
append-again a b c = simp append_assoc

pub con-sent : (old answers : List (List ℕ)) (d : List ℕ) (sent : List (List ℕ)) → filter is_con answers ≡ [] → is_con d ≡ true
    → (old ++ answers) ++ d ∷ [] ≡ old ++ sent → filter is_con sent ≡ d ∷ []
con-sent old answers d sent quiet con e =
    let is : answers ++ d ∷ [] ≡ sent = append_cancel_left old _ sent (sym (append-again old answers (d ∷ [])) ∙ e) in
    rw (← is, filter-append is_con answers (d ∷ []), quiet, con) refl

next-effect : (t : ℕ) (old s : LinkState) (answers sent : List (List ℕ)) (ws : List Waiting) → GoesOn t old s answers
    → AllByRecursion IsSoundWaiting ws → length s.given + length ws ≤ 32768 → (next_by t s ws).out ≡ old.out ++ sent → s.waiting ≡ ws
    → Effect t old (next_by t s ws) sent ws
next-effect t old s answers sent [] g all few out is = inl (record {
  outstanding = inr refl;
  last = g.last;
  given = g.given;
  quiet = quiet-sent old.out answers sent g.quiet (sym g.out ∙ out);
  waiting = is;
})
next-effect t old s answers sent (w ∷ ws) g all few out is =
    let d : List ℕ = with_mid (next_mid s.last_mid w.first_mid) w.datagram in
    let con : is_con d ≡ true = with_mid-con (next_mid s.last_mid w.first_mid) w.datagram all.0.header all.0.confirmable in
    let whole : (old.out ++ answers) ++ d ∷ [] ≡ old.out ++ sent = ap (λ (x : List (List ℕ)). x ++ d ∷ []) (sym g.out) ∙ out in
    let fits : in_use t s.given ≤ length s.given = in_use-fits t s.given in
    let same : in_use t s.given ≡ in_use t old.given = g.given t (omega arith) in
    inr (inl (record {
      w = w;
      sound = all.0;
      outstanding = ap (λ (last : Option ℕ). Some (first_sent t last w)) g.last;
      last = ap (λ (last : Option ℕ). Some (next_mid last w.first_mid)) g.last;
      given = λ u later. in_use-push u t s.given ∙ ap (λ (n : ℕ). n + in_use u (t ∷ [])) (g.given u later);
      few = omega (arith, fits, same, few);
      is = rw (← g.last) (con-sent old.out answers d sent g.quiet con whole);
      from = refl;
    }))

-- nothing is sent and nothing ends
pub rest : (t : ℕ) (old new : LinkState) (answers sent : List (List ℕ)) (queue : List Waiting) → GoesOn t old new answers → new.outstanding ≡ old.outstanding → new.out ≡ old.out ++ sent → new.waiting ≡ queue → Rests t old new sent queue
rest t old new answers sent queue g same out waiting = record {
  outstanding = inl same;
  last = g.last;
  given = g.given;
  quiet = quiet-sent old.out answers sent g.quiet (sym g.out ∙ out);
  waiting = waiting;
}

append-none : (xs : List (List ℕ)) → xs ≡ xs ++ []
append-none xs = sym (append-nil xs)

pub stays : (t : ℕ) (old : LinkState) → GoesOn t old old []
stays t old = record { last = refl; given = λ u later. refl; out = append-none old.out; quiet = refl }

pub submit-effect : (t : ℕ) (w : Waiting) (s : LinkState) (sent : List (List ℕ)) → IsSound s → IsSoundWaiting w → count_by (is_in_use t) s.given + length s.waiting < 32768
    → (submitted t w s).out ≡ s.out ++ sent → Effect t s (submitted t w s) sent (s.waiting ++ w ∷ [])
submit-effect t w s sent h sound few out = by s.outstanding refl out
  where
    g : GoesOn t s (queued t w s) []
    g = record { last = refl; given = λ u later. pruned-given t u (length s.waiting) s.given later; out = append-none s.out; quiet = refl }

    fits : length (pruned t (length s.waiting) s.given) + length (s.waiting ++ w ∷ []) ≤ 32768
    fits = rw (length-append s.waiting (w ∷ [])) (omega (arith, few-pruned t (length s.waiting) s.given few))

    by : (o : Option Outstanding) → s.outstanding ≡ o → (submitted_by t (queued t w s) o).out ≡ s.out ++ sent → Effect t s (submitted_by t (queued t w s) o) sent (s.waiting ++ w ∷ [])
    by None e out = next-effect t s (queued t w s) [] sent (s.waiting ++ w ∷ []) g (all-push s.waiting w h.waiting sound) fits out refl
    by (Some o) e out = inl (rest t s (queued t w s) [] sent (s.waiting ++ w ∷ []) g refl out refl)

copied-effect : (t : ℕ) (s new : LinkState) (o : Outstanding) (sent : List (List ℕ)) → s.outstanding ≡ Some o → is_con o.datagram ≡ true → o.retransmissions < 4 → due_of o ≤ t
    → new.outstanding ≡ Some (again t o) → new.last_mid ≡ s.last_mid → new.given ≡ s.given → s.out ++ o.datagram ∷ [] ≡ s.out ++ sent → new.waiting ≡ s.waiting → SendsCopy t s new sent s.waiting
copied-effect t s new o sent was con few due is last given out waiting = record {
  o = o;
  was = was;
  few = few;
  due = due;
  outstanding = is;
  last = last;
  given = λ u later. ap (λ (xs : List ℕ). in_use u xs) given;
  is = let e : o.datagram ∷ [] ≡ sent = append_cancel_left s.out (o.datagram ∷ []) sent out in rw (← e, con) refl;
  waiting = waiting;
}

pub tick-effect : (t : ℕ) (s : LinkState) (sent : List (List ℕ)) → IsSound s → (ticked t s).0.out ≡ s.out ++ sent → Effect t s (ticked t s).0 sent s.waiting
tick-effect t s sent h out = by s.outstanding refl out
  where
    P : LinkState × Told → Type 0
    P r = r.0.out ≡ s.out ++ sent → Effect t s r.0 sent s.waiting

    by : (o : Option Outstanding) → s.outstanding ≡ o → P (ticked_by t s o)
    by None e = λ out. inl (rest t s s [] sent s.waiting (stays t s) refl out refl)
    by (Some o) e =
        let turn : IsSoundOutstanding o = rw e at h.turn in
        either P (nat_lt t (due_of o)) _ _ (λ early out. inl (rest t s s [] sent s.waiting (stays t s) refl out refl))
        (λ due. either P (nat_lt o.retransmissions 4) _ _
        (λ few out. inr (inr (copied-effect t s _ o sent e turn.confirmable (ltb-true o.retransmissions 4 few) (ltb-false t (due_of o) due) refl refl refl out refl)))
        (λ few out. next-effect t s s [] sent s.waiting (stays t s) h.waiting h.given out refl))

replies-quiet : (mid : ℕ) (r : Reply) → filter is_con (replies mid r) ≡ []
replies-quiet mid reply.Nothing = refl
replies-quiet mid reply.Ack = refl
replies-quiet mid reply.Rst = refl

ended-effect : (t : ℕ) (old s : LinkState) (answers sent : List (List ℕ)) (b : Bool) → GoesOn t old s answers → s.outstanding ≡ old.outstanding → IsSound s
    → (ended t b s).out ≡ old.out ++ sent → Effect t old (ended t b s) sent s.waiting
ended-effect t old s answers sent false g same h out = inl (rest t old s answers sent s.waiting g same out refl)
ended-effect t old s answers sent true g same h out = next-effect t old s answers sent s.waiting g h.waiting h.given out refl

undecoded-effect : (t : ℕ) (o : Option ℕ) (s : LinkState) (sent : List (List ℕ)) → (undecoded o s).out ≡ s.out ++ sent → Effect t s (undecoded o s) sent s.waiting
undecoded-effect t None s sent out = inl (rest t s s [] sent s.waiting (stays t s) refl out refl)
undecoded-effect t (Some mid) s sent out =
    inl (rest t s _ (replies mid reply.Rst) sent s.waiting (record { last = refl; given = λ u later. refl; out = refl; quiet = refl }) refl out refl)

read-effect : (t : ℕ) (d : List ℕ) (s : LinkState) (sent : List (List ℕ)) (r : Result Content CodecFault) → IsSound s
    → (hears_read t d s r).0.out ≡ s.out ++ sent → Effect t s (hears_read t d s r).0 sent s.waiting
read-effect t d s sent (Ok m) h out =
    let v : Verdict = verdict_of t s m in
    ended-effect t s _ (replies m.mid v.reply) sent v.ends (record { last = refl; given = λ u later. refl; out = refl; quiet = replies-quiet m.mid v.reply }) refl
    (record { turn = h.turn; waiting = h.waiting; given = h.given }) out
read-effect t d s sent (Err e) h out = undecoded-effect t (reset_for d) s sent out

pub hear-effect : (t : ℕ) (d : List ℕ) (s : LinkState) (sent : List (List ℕ)) → IsSound s → (hears t d s).0.out ≡ s.out ++ sent → Effect t s (hears t d s).0 sent s.waiting
hear-effect t d s sent h = by s.last_mid
  where
    P : LinkState × Told → Type 0
    P r = r.0.out ≡ s.out ++ sent → Effect t s r.0 sent s.waiting

    by : (o : Option ℕ) → P (hears_from t d s o)
    by None = λ out. inl (rest t s s [] sent s.waiting (stays t s) refl out refl)
    by (Some mid) = either P (nat_lt 2048 (length d)) _ _ (λ e out. inl (rest t s s [] sent s.waiting (stays t s) refl out refl)) (λ e out. read-effect t d s sent (message_at d) h out)
