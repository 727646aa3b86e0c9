-- What a link answers in a whole run.
use Rattle.std.proofs.Common.{◌≡◌, ◌≢◌, ℕ, suc, zero, ◌-◌, ◌≤◌, ◌<◌, List, [], ◌∷◌, ◌++◌, length, filter, Option, Some, None, Result, Ok, Err, Bool, true, false, not, cond, nat_lt, ◌&&◌, ◌⊎◌, inl, inr, refl, sym, ◌∙◌, ap, subst, arith, append_assoc, append-nil, count_by}
use Rattle.std.specs.Prelude.{◌==◌, if◌then◌else◌}
use Rattle.std.specs.List.{find, list_any}
use Rattle.std.proofs.lemmas.Bool.{lt-ltb, eqb-true, eqb-false}
use Rattle.std.proofs.lemmas.List.{append_cancel_left}
use Rattle.std.proofs.lemmas.List.Elements.{filter-append}
use Rattle.std.proofs.lemmas.List.Sums.{length-filter}
use Rattle.std.specs.List.{AllByRecursion}
use Rattle.coap_codec.specs.Spelling.{Content}
use Rattle.coap_codec.specs.Reading.{message_at}
use Rattle.coap_codec.specs.declared.fault.CodecFault.{CodecFault}
use Rattle.coap_codec.specs.declared.message.MsgType.{MsgType}
use Rattle.coap_codec.specs.declared.message.MsgType.TheVariants.{Con, Non, Ack, Rst}
use Rattle.message_layer.specs.Values.{LinkState, Told, no_news, response, IsSound, IsSoundWaiting, IsSoundOutstanding, is_con}
use Rattle.message_layer.specs.Sending.{with_mid, next_mid, next_by, ticked, ticked_by, submitted, submitted_by, queued, waits, due_of, unnumbered}
use Rattle.message_layer.specs.Hearing.{is_fresh, is_repeat, is_awaited, is_awaited_by_ack, replies, says, reset_for, verdict_of, verdict_by, new_verdict, heard_verdict, ack_verdict, rst_verdict, applied, ended, hears, hears_from, hears_read, undecoded, remembered_in}
use Rattle.message_layer.specs.Calls.{taken_by}
use Rattle.message_layer.specs.Runs.{Step, Call, submit, hear, tick, forget, expect, take_send, refuse, Leaves, Puts, IsStep, IsRun, last_moment, transmissions}
use Rattle.message_layer.specs.Answers.{answers, reset, accepts, IsTaken, IsOwn, IsNotRemembered, told_by_ack, told_by_rst, IsMessage, IsOutstanding, IsAnswered, HasTaken, RunAnswers}
use Rattle.message_layer.specs.declared.state.Heard.{Heard}
use Rattle.message_layer.specs.declared.state.Outstanding.{Outstanding}
use Rattle.message_layer.specs.declared.state.Waiting.{Waiting}
use Rattle.message_layer.specs.declared.state.Reply.{Reply}
use Rattle.message_layer.specs.declared.state.Reply.TheVariants as reply
use Rattle.message_layer.specs.declared.verdict.News.TheVariants.{Quiet, Response}
use Rattle.message_layer.specs.declared.verdict.Verdict.{Verdict}
use Rattle.message_layer.proofs.Sound.{either, with_mid-con, all-push, waits-sound}
use Rattle.message_layer.proofs.Effects.{filter-kept}
use Rattle.message_layer.specs.Transmissions.{mid_of}
use Rattle.message_layer.specs.Awaiting.{awaits, awaits_ack, outstanding_of}
use Rattle.message_layer.proofs.RunLaws.{run-sound, nothing-sent, something-sent}
use Rattle.message_layer.proofs.AwaitLaws.{Follows, run-follows}
use borrow.Author.Tests.{ltb-true, ltb-false}

-- what is remembered of those that were taken
abbrev pub Remembers : ℕ → List Heard → List Heard → Type 0
Remembers now taken heard = (u : ℕ) → now ≤ u → filter (is_fresh u) heard ≡ filter (is_fresh u) taken

find-step : {X : Type 0} (p : X → Bool) (x : X) (ys : List X) (found : Option X) (b c : Bool) → (c ≡ true → b ≡ true) → p x ≡ c → find p ys ≡ found
    → find p (cond b (x ∷ ys) ys) ≡ cond c (Some x) found
find-step p x ys found true true h px e = rw px refl
find-step p x ys found true false h px e = rw px e
find-step p x ys found false true h px e = absurd (let f : false ≡ true = h refl in cc)
find-step p x ys found false false h px e = e

find-kept : {X : Type 0} (p q : X → Bool) → ((x : X) → p x ≡ true → q x ≡ true) → (xs : List X) → find p (filter q xs) ≡ find p xs
find-kept p q h [] = refl
find-kept p q h (x ∷ xs) = find-step p x (filter q xs) (find p xs) (q x) (p x) (h x) refl (find-kept p q h xs)

and-right : (a b : Bool) → (a && b) ≡ true → b ≡ true
and-right true b e = e
and-right false b e = absurd cc

and-left : (a b : Bool) → (a && b) ≡ true → a ≡ true
and-left true b e = refl
and-left false b e = absurd cc

same-find : (u mid : ℕ) (heard taken : List Heard) → filter (is_fresh u) heard ≡ filter (is_fresh u) taken → find (is_repeat u mid) heard ≡ find (is_repeat u mid) taken
same-find u mid heard taken e =
    let fresh : (h : Heard) → is_repeat u mid h ≡ true → is_fresh u h ≡ true = λ h. and-right (h.mid == mid) (is_fresh u h) in
    sym (find-kept (is_repeat u mid) (is_fresh u) fresh heard)
    ∙ ap (λ (xs : List Heard). find (is_repeat u mid) xs) e
    ∙ find-kept (is_repeat u mid) (is_fresh u) fresh taken

same-count : (u : ℕ) (heard taken : List Heard) → filter (is_fresh u) heard ≡ filter (is_fresh u) taken → count_by (is_fresh u) heard ≡ count_by (is_fresh u) taken
same-count u heard taken e =
    sym (length-filter (is_fresh u) heard) ∙ ap (λ (xs : List Heard). length xs) e ∙ length-filter (is_fresh u) taken

still-fresh : (t u : ℕ) → t ≤ u → (h : Heard) → is_fresh u h ≡ true → is_fresh t h ≡ true
still-fresh t u later h e = lt-ltb (t - h.moment) 247000 (omega (arith, ltb-true (u - h.moment) 247000 e))

-- one more that was taken
remembers-more : (t : ℕ) (taken heard : List Heard) (h : Heard) → Remembers t taken heard → Remembers t (taken ++ h ∷ []) (filter (is_fresh t) heard ++ h ∷ [])
remembers-more t taken heard h r u later =
    let a : filter (is_fresh u) (filter (is_fresh t) heard) ≡ filter (is_fresh u) taken = filter-kept (is_fresh u) (is_fresh t) (still-fresh t u later) heard ∙ r u later in
    filter-append (is_fresh u) (filter (is_fresh t) heard) (h ∷ [])
    ∙ ap (λ (xs : List Heard). xs ++ filter (is_fresh u) (h ∷ [])) a
    ∙ sym (filter-append (is_fresh u) taken (h ∷ []))

abbrev noted : Bool → Heard → List Heard → List Heard
noted false h taken = taken
noted true h taken = taken ++ h ∷ []

remembers-noted : (t mid : ℕ) (r : Reply) (b : Bool) (taken heard : List Heard) → Remembers t taken heard
    → Remembers t (noted b (record { mid = mid; moment = t; reply = r }) taken) (remembered_in t mid r b heard)
remembers-noted t mid r false taken heard h = h
remembers-noted t mid r true taken heard h = remembers-more t taken heard _ h

-- what a next message adds is no answer
append-none : (xs : List (List ℕ)) → xs ≡ xs ++ []
append-none xs = sym (append-nil xs)

pub record AddsMessages (old new : List (List ℕ)) : Type 0 where
  pub more : List (List ℕ)
  pub is : new ≡ old ++ more
  pub quiet : answers more ≡ []

next-adds : (t : ℕ) (s : LinkState) (ws : List Waiting) → AllByRecursion IsSoundWaiting ws → AddsMessages s.out (next_by t s ws).out
next-adds t s [] all = record { more = []; is = append-none s.out; quiet = refl }
next-adds t s (w ∷ ws) all =
    let con : is_con (with_mid (next_mid s.last_mid w.first_mid) w.datagram) ≡ true = with_mid-con _ w.datagram all.0.header all.0.confirmable in
    record { more = with_mid (next_mid s.last_mid w.first_mid) w.datagram ∷ []; is = refl; quiet = rw con refl }

ended-adds : (t : ℕ) (b : Bool) (s : LinkState) → IsSound s → AddsMessages s.out (ended t b s).out
ended-adds t false s h = record { more = []; is = append-none s.out; quiet = refl }
ended-adds t true s h = next-adds t s s.waiting h.waiting

next-heard : (t : ℕ) (s : LinkState) (ws : List Waiting) → (next_by t s ws).heard ≡ s.heard
next-heard t s [] = refl
next-heard t s (w ∷ ws) = refl

ended-heard : (t : ℕ) (b : Bool) (s : LinkState) → (ended t b s).heard ≡ s.heard
ended-heard t false s = refl
ended-heard t true s = next-heard t s s.waiting

append-again : (a b c : List (List ℕ)) → (a ++ b) ++ c ≡ a ++ (b ++ c)
append-again a b c = simp append_assoc

answers-are : (old reply sent : List (List ℕ)) (new : List (List ℕ)) → AddsMessages (old ++ reply) new → new ≡ old ++ sent → answers sent ≡ answers reply
answers-are old reply sent new a e =
    let is : reply ++ a.more ≡ sent = append_cancel_left old _ sent (sym (append-again old reply a.more) ∙ sym a.is ∙ e) in
    let both : answers (reply ++ a.more) ≡ answers reply ++ answers a.more = filter-append (λ d. not (is_con d)) reply a.more in
    rw (← is, both, a.quiet) (append-nil (answers reply))

replies-answer : (mid : ℕ) (r : Reply) → answers (replies mid r) ≡ replies mid r
replies-answer mid reply.Nothing = refl
replies-answer mid reply.Ack = refl
replies-answer mid reply.Rst = refl

no-answers : (old sent new : List (List ℕ)) → AddsMessages old new → new ≡ old ++ sent → answers sent ≡ []
no-answers old sent new a e = answers-are old [] sent new (record { more = a.more; is = rw (← append-none old) a.is; quiet = a.quiet }) e

-- the answer that a verdict names
applied-answers : (t mid : ℕ) (token : List ℕ) (v : Verdict) (s : LinkState) (sent : List (List ℕ)) → IsSound s → (applied t mid token v s).out ≡ s.out ++ sent → answers sent ≡ replies mid v.reply
applied-answers t mid token v s sent h e =
    answers-are s.out (replies mid v.reply) sent _ (ended-adds t v.ends _ (record { turn = h.turn; waiting = h.waiting; given = h.given })) e ∙ replies-answer mid v.reply

-- a test that fails
and-false : (a b : Bool) → (a && b) ≡ false → (a ≡ false) ⊎ (b ≡ false)
and-false true b e = inr e
and-false false b e = inl refl

-- a message that was not heard before
new-own : (t : ℕ) (older : List Step) (s : LinkState) (m : Content) (confirms : Bool) (sent : List (List ℕ)) (taken : List Heard) → list_any (is_awaited m.token) s.awaited ≡ awaits m.token older → count_by (is_fresh t) taken < 1024
    → let v = new_verdict s m (accepts confirms) (if confirms then reply.Rst else reply.Nothing) in
    answers sent ≡ replies m.mid v.reply → IsTaken t older confirms m (says v.news m) sent taken (noted v.remembered (record { mid = m.mid; moment = t; reply = v.reply }) taken)
new-own t older s m confirms sent taken same few =
    let P : Verdict → Type 0 = λ v. answers sent ≡ replies m.mid v.reply → IsTaken t older confirms m (says v.news m) sent taken (noted v.remembered (record { mid = m.mid; moment = t; reply = v.reply }) taken) in
    either P (m.code == 0) _ _
    (λ e a. record { reply = _; room = few; fits = inr (inr (record { code = eqb-true m.code 0 e; says = refl; reply = refl })); answer = a; memory = refl })
    (λ e. either P (nat_lt 31 m.code && list_any (is_awaited m.token) s.awaited) _ _
    (λ f a. record {
      reply = _;
      room = few;
      fits = inl (record { code = ltb-true 31 m.code (and-left (nat_lt 31 m.code) (list_any (is_awaited m.token) s.awaited) f); awaited = sym same ∙ and-right (nat_lt 31 m.code) (list_any (is_awaited m.token) s.awaited) f; says = refl; reply = refl });
      answer = a;
      memory = refl;
    })
    (λ f a. record {
      reply = _;
      room = few;
      fits = inr (inl (record { code = positive m.code (eqb-false m.code 0 e); unmatched = unmatched (and-false (nat_lt 31 m.code) (list_any (is_awaited m.token) s.awaited) f); says = refl; reply = refl }));
      answer = a;
      memory = refl;
    }))
  where
    positive : (n : ℕ) → (n ≡ 0 → ⊥) → 0 < n
    positive zero h = absurd (h refl)
    positive (suc n) h = omega arith

    unmatched : ((nat_lt 31 m.code ≡ false) ⊎ (list_any (is_awaited m.token) s.awaited ≡ false)) → (m.code ≤ 31) ⊎ (awaits m.token older ≡ false)
    unmatched (inl e) = inl (ltb-false 31 m.code e)
    unmatched (inr e) = inr (sym same ∙ e)

own : (t : ℕ) (older : List Step) (s : LinkState) (m : Content) (confirms : Bool) (sent : List (List ℕ)) (taken : List Heard) (o : Option Heard) → list_any (is_awaited m.token) s.awaited ≡ awaits m.token older → count_by (is_fresh t) s.heard ≡ count_by (is_fresh t) taken
    → let v = heard_verdict t s m confirms o in
    answers sent ≡ replies m.mid v.reply → IsOwn t older confirms m o (says v.news m) sent taken (noted v.remembered (record { mid = m.mid; moment = t; reply = v.reply }) taken)
own t older s m confirms sent taken (Some h) awaited same = λ a. record { says = refl; answer = a; memory = refl }
own t older s m confirms sent taken None awaited same =
    let P : Verdict → Type 0 = λ v. answers sent ≡ replies m.mid v.reply → IsOwn t older confirms m None (says v.news m) sent taken (noted v.remembered (record { mid = m.mid; moment = t; reply = v.reply }) taken) in
    either P (nat_lt (count_by (is_fresh t) s.heard) 1024) _ _
    (λ e a. inl (new-own t older s m confirms sent taken awaited (rw same at (ltb-true (count_by (is_fresh t) s.heard) 1024 e)) a))
    (λ e a. inr (record { full = rw same at (ltb-false (count_by (is_fresh t) s.heard) 1024 e); says = refl; answer = a; memory = refl }))

by-ack : (t : ℕ) (older : List Step) (s : LinkState) (m : Content) (sent : List (List ℕ)) (taken : List Heard) (h : Heard) → list_any (is_awaited_by_ack m.mid m.token) s.awaited ≡ awaits_ack m.mid m.token older
    → let v = ack_verdict s m in
    answers sent ≡ replies m.mid v.reply → (says v.news m ≡ told_by_ack older m) × IsNotRemembered [] sent taken (noted v.remembered h taken)
by-ack t older s m sent taken h same =
    let P : Verdict → Type 0 = λ v. answers sent ≡ replies m.mid v.reply → (says v.news m ≡ told_by_ack older m) × IsNotRemembered [] sent taken (noted v.remembered h taken) in
    either P (m.code == 0) _ _
    (λ e a. (empty (eqb-true m.code 0 e), record { answer = a; memory = refl }))
    (λ e. either P (nat_lt 31 m.code) _ _
    (λ f a. (rw (f, same) (told (awaits_ack m.mid m.token older)), record { answer = a; memory = refl }))
    (λ f a. (rw f refl, record { answer = a; memory = refl })))
  where
    empty : m.code ≡ 0 → no_news ≡ told_by_ack older m
    empty e = rw e refl

    told : (b : Bool) → says (cond b Response Quiet) m ≡ cond b (response m) no_news
    told true = refl
    told false = refl

by-rst : (m : Content) (o : Option Outstanding) (last : Option (List ℕ)) (sent : List (List ℕ)) (taken : List Heard) (h : Heard) → IsOutstanding o last
    → let v = rst_verdict m o in
    answers sent ≡ replies m.mid v.reply → (says v.news m ≡ told_by_rst last m) × IsNotRemembered [] sent taken (noted v.remembered h taken)
by-rst m None None sent taken h i = λ a. (refl, record { answer = a; memory = refl })
by-rst m None (Some d) sent taken h i = absurd i
by-rst m (Some o) None sent taken h i = absurd i
by-rst m (Some o) (Some d) sent taken h i =
    let P : Verdict → Type 0 = λ v. answers sent ≡ replies m.mid v.reply → (says v.news m ≡ told_by_rst (Some d) m) × IsNotRemembered [] sent taken (noted v.remembered h taken) in
    let same : ((m.code == 0) && (o.mid == m.mid)) ≡ ((m.code == 0) && (mid_of d == m.mid)) = rw i.1 refl in
    either P ((m.code == 0) && (o.mid == m.mid)) _ _
    (λ e a. (rw (i.2, sym same ∙ e) refl, record { answer = a; memory = refl }))
    (λ e a. (rw (sym same ∙ e) refl, record { answer = a; memory = refl }))

message-answered : (t : ℕ) (older : List Step) (s : LinkState) (m : Content) (kind : MsgType) (sent : List (List ℕ)) (taken : List Heard) → Follows older s → Remembers t taken s.heard
    → let v = verdict_by t s m kind in
    answers sent ≡ replies m.mid v.reply → IsMessage t older kind m (says v.news m) sent taken (noted v.remembered (record { mid = m.mid; moment = t; reply = v.reply }) taken)
message-answered t older s m Con sent taken f r a =
    let e : find (is_repeat t m.mid) s.heard ≡ find (is_repeat t m.mid) taken = same-find t m.mid s.heard taken (r t (omega arith)) in
    let v : Verdict = verdict_by t s m Con in
    let P : Option Heard → Type 0 = λ o. IsOwn t older true m o (says v.news m) sent taken (noted v.remembered (record { mid = m.mid; moment = t; reply = v.reply }) taken) in
    subst P e (own t older s m true sent taken (find (is_repeat t m.mid) s.heard) (f.awaited m.token) (same-count t s.heard taken (r t (omega arith))) a)
message-answered t older s m Non sent taken f r a =
    let e : find (is_repeat t m.mid) s.heard ≡ find (is_repeat t m.mid) taken = same-find t m.mid s.heard taken (r t (omega arith)) in
    let v : Verdict = verdict_by t s m Non in
    let P : Option Heard → Type 0 = λ o. IsOwn t older false m o (says v.news m) sent taken (noted v.remembered (record { mid = m.mid; moment = t; reply = v.reply }) taken) in
    subst P e (own t older s m false sent taken (find (is_repeat t m.mid) s.heard) (f.awaited m.token) (same-count t s.heard taken (r t (omega arith))) a)
message-answered t older s m Ack sent taken f r a = by-ack t older s m sent taken _ (f.acks m.mid m.token) a
message-answered t older s m Rst sent taken f r a = by-rst m s.outstanding (outstanding_of older) sent taken _ f.outstanding a

-- what a step leaves of those that were taken, and how it fits what was taken before
pub record Goes (x : Step) (older : List Step) (c : Call) (before : List Heard) (heard : List Heard) : Type 0 where
  pub taken : List Heard
  pub answered : IsAnswered x older c before taken
  pub remembers : Remembers x.moment taken heard

read-goes : (x : Step) (older : List Step) (d : List ℕ) (s : LinkState) (taken : List Heard) → IsSound s → Follows older s → Remembers x.moment taken s.heard → length d ≤ 2048 → transmissions older ≢ []
    → (o : Result Content CodecFault) → o ≡ message_at d
    → (hears_read x.moment d s o).0.out ≡ s.out ++ x.sent → Goes x older (hear d (hears_read x.moment d s o).1) taken (hears_read x.moment d s o).0.heard
read-goes x older d s taken h f r short begun (Ok m) is out =
    let v : Verdict = verdict_of x.moment s m in
    let a : answers x.sent ≡ replies m.mid v.reply = applied-answers x.moment m.mid m.token v s x.sent h out in
    let n : Heard = record { mid = m.mid; moment = x.moment; reply = v.reply } in
    record {
      taken = noted v.remembered n taken;
      answered = inr (record { short = short; begun = begun; read = rw (← is) (message-answered x.moment older s m m.kind x.sent taken f r a) });
      remembers = rw (ended-heard x.moment v.ends _) (remembers-noted x.moment m.mid v.reply v.remembered taken s.heard r);
    }
read-goes x older d s taken h f r short begun (Err e) is out = record {
  taken = taken;
  answered = inr (record { short = short; begun = begun; read = rw (← is) (refl, record { answer = by (reset_for d) out; memory = refl }) });
  remembers = same (reset_for d);
}
  where
    by : (o : Option ℕ) → (undecoded o s).out ≡ s.out ++ x.sent → answers x.sent ≡ reset o
    by None e = no-answers s.out x.sent s.out (record { more = []; is = append-none s.out; quiet = refl }) e
    by (Some mid) e = let is : replies mid reply.Rst ≡ x.sent = append_cancel_left s.out _ _ e in rw (← is) refl

    same : (o : Option ℕ) → Remembers x.moment taken (undecoded o s).heard
    same None = r
    same (Some mid) = r

hear-goes : (x : Step) (older : List Step) (d : List ℕ) (s : LinkState) (taken : List Heard) → IsRun older s → IsSound s → Remembers x.moment taken s.heard
    → (hears x.moment d s).0.out ≡ s.out ++ x.sent → Goes x older (hear d (hears x.moment d s).1) taken (hears x.moment d s).0.heard
hear-goes x older d s taken run h r = by s.last_mid refl
  where
    P : LinkState × Told → Type 0
    P a = a.0.out ≡ s.out ++ x.sent → Goes x older (hear d a.1) taken a.0.heard

    nothing : (s.out ≡ s.out ++ x.sent) → answers x.sent ≡ []
    nothing out = no-answers s.out x.sent s.out (record { more = []; is = append-none s.out; quiet = refl }) out

    by : (o : Option ℕ) → s.last_mid ≡ o → P (hears_from x.moment d s o)
    by None none = λ out. record {
      taken = taken;
      answered = inl (record { why = inr (nothing-sent older s run none); says = refl; answer = nothing out; memory = refl });
      remembers = r;
    }
    by (Some mid) some = either P (nat_lt 2048 (length d)) _ _
        (λ e out. record {
          taken = taken;
          answered = inl (record { why = inl (ltb-true 2048 (length d) e); says = refl; answer = nothing out; memory = refl });
          remembers = r;
        })
        (λ e out. read-goes x older d s taken h (run-follows older s run) r (ltb-false 2048 (length d) e) (something-sent older s mid run some) (message_at d) refl out)

tick-adds : (t : ℕ) (s : LinkState) → IsSound s → AddsMessages s.out (ticked t s).0.out × ((ticked t s).0.heard ≡ s.heard)
tick-adds t s h = by s.outstanding refl
  where
    P : LinkState × Told → Type 0
    P r = AddsMessages s.out r.0.out × (r.0.heard ≡ s.heard)

    by : (o : Option Outstanding) → s.outstanding ≡ o → P (ticked_by t s o)
    by None e = (record { more = []; is = append-none s.out; quiet = refl }, refl)
    by (Some o) e =
        let turn : IsSoundOutstanding o = rw e at h.turn in
        either P (nat_lt t (due_of o)) _ _ (λ early. (record { more = []; is = append-none s.out; quiet = refl }, refl))
        (λ due. either P (nat_lt o.retransmissions 4) _ _
        (λ few. (record { more = o.datagram ∷ []; is = refl; quiet = rw turn.confirmable refl }, refl))
        (λ few. (next-adds t s s.waiting h.waiting, next-heard t s s.waiting)))

submit-adds : (t : ℕ) (w : Waiting) (s : LinkState) → IsSound s → IsSoundWaiting w → AddsMessages s.out (submitted t w s).out × ((submitted t w s).heard ≡ s.heard)
submit-adds t w s h sound = by s.outstanding
  where
    by : (o : Option Outstanding) → AddsMessages s.out (submitted_by t (queued t w s) o).out × ((submitted_by t (queued t w s) o).heard ≡ s.heard)
    by None = (next-adds t (queued t w s) (s.waiting ++ w ∷ []) (all-push s.waiting w h.waiting sound), next-heard t (queued t w s) (s.waiting ++ w ∷ []))
    by (Some o) = (record { more = []; is = append-none s.out; quiet = refl }, refl)

quiet : (sent : List (List ℕ)) (taken : List Heard) → sent ≡ [] → IsNotRemembered [] sent taken taken
quiet sent taken e = record { answer = rw e refl; memory = refl }

step-goes : (older : List Step) (x : Step) (old new : LinkState) (taken : List Heard) → IsRun older old → IsSound old → Remembers (last_moment older) taken old.heard → IsStep (last_moment older) x old new
    → Goes x older x.call taken new.heard
step-goes older x old new taken run h before i = by x.call i.leaves i.puts
  where
    r : Remembers x.moment taken old.heard
    r u up = before u (omega (arith, i.later, up))

    by : (c : Call) → Leaves x.moment c old new → Puts c x.sent old new → Goes x older c taken new.heard
    by (submit m word) e p =
        let w : Waiting = waits m.token e.submits.text word in
        let is : new ≡ submitted x.moment w old = e.submits.is in
        let a = submit-adds x.moment w old h (waits-sound (unnumbered m) e.submits.text word e.confirmable e.submits.spelled) in
        record {
          taken = taken;
          answered = record { answer = no-answers old.out x.sent _ a.0 (rw is at p); memory = refl };
          remembers = rw (is, a.1) r;
        }
    by (hear d told) e p =
        let Q : LinkState × Told → Type 0 = λ a. a.0.out ≡ old.out ++ x.sent → Goes x older (hear d a.1) taken a.0.heard in
        subst Q e (hear-goes x older d old taken run h r) p
    by (tick told) e p =
        let Q : LinkState × Told → Type 0 = λ a. AddsMessages old.out a.0.out × (a.0.heard ≡ old.heard) in
        let a = subst Q e (tick-adds x.moment old h) in
        record { taken = taken; answered = record { answer = no-answers old.out x.sent new.out a.0 p; memory = refl }; remembers = rw a.1 r }
    by (forget token) e p = record { taken = taken; answered = quiet x.sent taken p; remembers = rw e r }
    by (expect token on) e p = record { taken = taken; answered = quiet x.sent taken p; remembers = rw e r }
    by (take_send d) e p =
        let Q : LinkState × Option (List ℕ) → Type 0 = λ a. a.0.heard ≡ old.heard in
        let same : new.heard ≡ old.heard = subst Q e (taken_same old.out) in
        record { taken = taken; answered = quiet x.sent taken p; remembers = rw same r }
      where
        taken_same : (out : List (List ℕ)) → (taken_by old out).0.heard ≡ old.heard
        taken_same [] = refl
        taken_same (y ∷ ys) = refl
    by refuse e p = record { taken = taken; answered = quiet x.sent taken p; remembers = rw e r }

pub record Answered (run : List Step) (s : LinkState) : Type 0 where
  pub taken : List Heard
  pub all : HasTaken run taken
  pub remembers : Remembers (last_moment run) taken s.heard

pub run-answered : (run : List Step) (s : LinkState) → IsRun run s → Answered run s
run-answered [] s r = record { taken = []; all = refl; remembers = λ u up. rw r refl }
run-answered (x ∷ older) s r =
    let b = run-answered older r.0 r.1 in
    let g = step-goes older x r.0 s b.taken r.1 (run-sound older r.0 r.1) b.remembers r.2 in
    record { taken = g.taken; all = (b.taken, b.all, g.answered); remembers = g.remembers }

pub run-answers : RunAnswers
run-answers run s r =
    let a = run-answered run s r in
    let f = run-follows run s r in
    record { taken = a.taken; all = a.all; awaited = f.awaited; by_ack = f.acks; outstanding = f.outstanding }
