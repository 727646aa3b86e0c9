-- What a link keeps as awaited and as outstanding is what the run says.
use Rattle.std.proofs.Common.{◌≡◌, ℕ, ◌+◌, ◌*◌, ◌%◌, ◌≤◌, List, [], ◌∷◌, ◌++◌, length, filter, take, Option, Some, None, Result, Ok, Err, Bool, true, false, not, nat_lt, ◌&&◌, ◌||◌, refl, sym, ◌∙◌, ap, subst, arith, append_assoc, append-nil}
use Rattle.std.specs.List.{list_any, AllByRecursion}
use Rattle.std.proofs.lemmas.List.Folds.{list_any-append}
use Rattle.coap_codec.specs.Spelling.{Content, Spells, code_of}
use Rattle.coap_codec.specs.Reading.{message_at}
use Rattle.coap_codec.specs.declared.fault.CodecFault.{CodecFault}
use Rattle.coap_codec.specs.declared.message.MsgType.{MsgType}
use Rattle.coap_codec.specs.declared.message.MsgType.TheVariants.{Con}
use Rattle.message_layer.specs.Values.{LinkState, Told, no_news, was_dropped, IsSound, IsSoundWaiting, is_con}
use Rattle.message_layer.specs.Sending.{with_mid, next_mid, next_by, next_sent, ticked, ticked_by, submitted, submitted_by, queued, waits, due_of, unnumbered, again}
use Rattle.message_layer.specs.Hearing.{is_awaited, is_awaited_by_ack, replies, says, reset_for, verdict_of, applied, ended, hears, hears_from, hears_read, undecoded, answered_in, remembered_in}
use Rattle.message_layer.specs.Calls.{taken_by, waits_not_under}
use Rattle.message_layer.specs.Runs.{Step, Call, submit, hear, tick, forget, expect, take_send, refuse, Leaves, Puts, IsStep, IsRun, last_moment}
use Rattle.message_layer.specs.Transmissions.{mid_of}
use Rattle.message_layer.specs.Awaiting.{token_of, is_under, is_as, tells_under, firsts_by, expects_by, awaits, keeps_by, awaits_ack, heard_by, left_by, first_or, outstanding_of}
use Rattle.message_layer.specs.Answers.{IsOutstanding}
use Rattle.message_layer.specs.declared.state.Waiting.{Waiting}
use Rattle.message_layer.specs.declared.state.Outstanding.{Outstanding}
use Rattle.message_layer.specs.declared.state.Reply.{Reply}
use Rattle.message_layer.specs.declared.state.Reply.TheVariants as reply
use Rattle.message_layer.specs.declared.verdict.Verdict.{Verdict}
use Rattle.message_layer.proofs.Sound.{either, with_mid-con, all-push, waits-sound}
use Rattle.message_layer.proofs.Effects.{quiet-sent, con-sent}
use Rattle.message_layer.proofs.RunLaws.{run-sound, mid_of-with_mid}
use Rattle.message_layer.proofs.AwaitTable.{or-false, and-true, news-awaited, news-acks, expected-awaited, expected-acks}
use Rattle.message_layer.proofs.AwaitEnds.{left-fits}

-- the bytes of what waits have its token
abbrev pub IsSpelled : Waiting → Type 0
IsSpelled w = token_of w.datagram ≡ w.token

take-front : {A : Type 0} (front rest : List A) → take (length front) (front ++ rest) ≡ front
take-front [] rest = refl
take-front (x ∷ front) rest = ap (λ xs. x ∷ xs) (take-front front rest)

spelled-token : (m : Content) (text : List ℕ) → m.kind ≡ Con → Spells (unnumbered m) text → token_of text ≡ m.token
spelled-token m text kind s =
    let short : length m.token ≤ 8 = s.short_token in
    let front : text ≡ (64 + 16 * code_of m.kind + length m.token) ∷ m.code ∷ s.mid_high ∷ s.mid_low ∷ m.token ++ s.options ++ s.payload = s.whole in
    let count : (64 + 16 * 0 + length m.token) % 16 ≡ length m.token = omega (arith, short) in
    let low : (64 + 16 * code_of m.kind + length m.token) % 16 ≡ length m.token = subst (λ (k : MsgType). (64 + 16 * code_of k + length m.token) % 16 ≡ length m.token) (sym kind) count in
    let regrouped : m.token ++ s.options ++ s.payload ≡ m.token ++ (s.options ++ s.payload) = simp append_assoc in
    ap (λ (xs : List ℕ). token_of xs) front
    ∙ ap (λ (n : ℕ). take n (m.token ++ s.options ++ s.payload)) low
    ∙ ap (λ (xs : List ℕ). take (length m.token) xs) regrouped
    ∙ take-front m.token (s.options ++ s.payload)

-- an ID set into the header leaves the token
numbered-token : (mid : ℕ) (d : List ℕ) → 4 ≤ length d → token_of (with_mid mid d) ≡ token_of d
numbered-token mid [] h = absurd (omega arith)
numbered-token mid (a ∷ []) h = absurd (omega arith)
numbered-token mid (a ∷ b ∷ []) h = absurd (omega arith)
numbered-token mid (a ∷ b ∷ e ∷ []) h = absurd (omega arith)
numbered-token mid (a ∷ b ∷ e ∷ f ∷ rest) h = refl

-- what is awaited and outstanding, as functions of the token and the ID
pub record Knows (s : LinkState) (under : List ℕ → Bool) (by_ack : ℕ → List ℕ → Bool) (last : Option (List ℕ)) : Type 0 where
  pub awaited : (token : List ℕ) → list_any (is_awaited token) s.awaited ≡ under token
  pub acks : (mid : ℕ) (token : List ℕ) → list_any (is_awaited_by_ack mid token) s.awaited ≡ by_ack mid token
  pub outstanding : IsOutstanding s.outstanding last
  pub waiting : AllByRecursion IsSpelled s.waiting

abbrev pub Follows : List Step → LinkState → Type 0
Follows run s = Knows s (λ token. awaits token run) (λ mid token. awaits_ack mid token run) (outstanding_of run)

-- the same, once these messages were sent first
abbrev KnowsBehind : LinkState → (List ℕ → Bool) → (ℕ → List ℕ → Bool) → Option (List ℕ) → List (List ℕ) → Type 0
KnowsBehind s under by_ack last firsts = Knows s (λ token. under token || list_any (is_under token) firsts) (λ mid token. by_ack mid token || list_any (is_as mid token) firsts) (first_or firsts last)

abbrev FollowsBy : Step → List Step → Call → LinkState → Type 0
FollowsBy x older c s = KnowsBehind s (λ token. expects_by token c (awaits token older)) (λ mid token. keeps_by token c (awaits_ack mid token older)) (left_by c (outstanding_of older)) (firsts_by c x.sent)

nothing-first : (s : LinkState) (under : List ℕ → Bool) (by_ack : ℕ → List ℕ → Bool) (last : Option (List ℕ)) (firsts : List (List ℕ)) → firsts ≡ [] → Knows s under by_ack last → KnowsBehind s under by_ack last firsts
nothing-first s under by_ack last firsts none h = subst (λ (xs : List (List ℕ)). KnowsBehind s under by_ack last xs) (sym none) (record {
  awaited = λ token. h.awaited token ∙ or-false (under token);
  acks = λ mid token. h.acks mid token ∙ or-false (by_ack mid token);
  outstanding = h.outstanding;
  waiting = h.waiting;
})

nothing-by : (x : Step) (older : List Step) (c : Call) (s : LinkState) → firsts_by c x.sent ≡ []
    → Knows s (λ token. expects_by token c (awaits token older)) (λ mid token. keeps_by token c (awaits_ack mid token older)) (left_by c (outstanding_of older)) → FollowsBy x older c s
nothing-by x older c s none h = nothing-first s (λ token. expects_by token c (awaits token older)) (λ mid token. keeps_by token c (awaits_ack mid token older)) (left_by c (outstanding_of older)) (firsts_by c x.sent) none h

-- the message that goes out next
abbrev next_firsts : LinkState → List Waiting → List (List ℕ)
next_firsts s [] = []
next_firsts s (w ∷ ws) = with_mid (next_mid s.last_mid w.first_mid) w.datagram ∷ []

next-firsts : (t : ℕ) (s : LinkState) (ws : List Waiting) (old answers sent : List (List ℕ)) → AllByRecursion IsSoundWaiting ws → s.out ≡ old ++ answers → filter is_con answers ≡ []
    → (next_by t s ws).out ≡ old ++ sent → filter is_con sent ≡ next_firsts s ws
next-firsts t s [] old answers sent all is quiet out = quiet-sent old answers sent quiet (sym is ∙ out)
next-firsts t s (w ∷ ws) old answers sent all is quiet out =
    let d : List ℕ = with_mid (next_mid s.last_mid w.first_mid) w.datagram in
    let con : is_con d ≡ true = with_mid-con (next_mid s.last_mid w.first_mid) w.datagram all.0.header all.0.confirmable in
    con-sent old answers d sent quiet con (ap (λ (xs : List (List ℕ)). xs ++ d ∷ []) (sym is) ∙ out)

next-knows : (t : ℕ) (s : LinkState) (ws : List Waiting) (under : List ℕ → Bool) (by_ack : ℕ → List ℕ → Bool) → AllByRecursion IsSoundWaiting ws → AllByRecursion IsSpelled ws → s.waiting ≡ ws
    → ((token : List ℕ) → list_any (is_awaited token) s.awaited ≡ under token)
    → ((mid : ℕ) (token : List ℕ) → list_any (is_awaited_by_ack mid token) s.awaited ≡ by_ack mid token)
    → KnowsBehind (next_by t s ws) under by_ack None (next_firsts s ws)
next-knows t s [] under by_ack all spelled is a k = nothing-first _ under by_ack None [] refl (record { awaited = a; acks = k; outstanding = tt; waiting = rw is tt })
next-knows t s (w ∷ ws) under by_ack all spelled is a k =
    let mid : ℕ = next_mid s.last_mid w.first_mid in
    let n : mid_of (with_mid mid w.datagram) ≡ mid = mid_of-with_mid mid w.datagram all.0.header in
    let token_is : token_of (with_mid mid w.datagram) ≡ w.token = numbered-token mid w.datagram all.0.header ∙ spelled.0 in
    record {
      awaited = λ token. list_any-append (is_awaited token) s.awaited (record { token = w.token; mid = Some mid } ∷ []) ∙ rw (token_is, a token) refl;
      acks = λ other token. list_any-append (is_awaited_by_ack other token) s.awaited (record { token = w.token; mid = Some mid } ∷ []) ∙ rw (n, token_is, k other token) refl;
      outstanding = (refl, sym n, sym token_is);
      waiting = spelled.1;
    }

abbrev ended_firsts : Bool → LinkState → List (List ℕ)
ended_firsts false s = []
ended_firsts true s = next_firsts s s.waiting

ended-firsts : (t : ℕ) (b : Bool) (s : LinkState) (old answers sent : List (List ℕ)) → AllByRecursion IsSoundWaiting s.waiting → s.out ≡ old ++ answers → filter is_con answers ≡ []
    → (ended t b s).out ≡ old ++ sent → filter is_con sent ≡ ended_firsts b s
ended-firsts t false s old answers sent all is quiet out = quiet-sent old answers sent quiet (sym is ∙ out)
ended-firsts t true s old answers sent all is quiet out = next-firsts t s s.waiting old answers sent all is quiet out

ended-knows : (t : ℕ) (b : Bool) (s : LinkState) (under : List ℕ → Bool) (by_ack : ℕ → List ℕ → Bool) (last left : Option (List ℕ)) → AllByRecursion IsSoundWaiting s.waiting
    → Knows s under by_ack last → ((b ≡ true → left ≡ None) × (b ≡ false → left ≡ last)) → KnowsBehind (ended t b s) under by_ack left (ended_firsts b s)
ended-knows t false s under by_ack last left all h l =
    subst (λ (o : Option (List ℕ)). KnowsBehind s under by_ack o []) (sym (l.1 refl)) (nothing-first s under by_ack last [] refl h)
ended-knows t true s under by_ack last left all h l =
    subst (λ (o : Option (List ℕ)). KnowsBehind (next_sent t s) under by_ack o (next_firsts s s.waiting)) (sym (l.0 refl))
    (next-knows t s s.waiting under by_ack all h.waiting refl h.awaited h.acks)

replies-quiet : (mid : ℕ) (r : Reply) → filter is_con (replies mid r) ≡ []
replies-quiet mid reply.Nothing = refl
replies-quiet mid reply.Ack = refl
replies-quiet mid reply.Rst = refl

nothing-sent-by : (old sent : List (List ℕ)) → old ≡ old ++ sent → filter is_con sent ≡ []
nothing-sent-by old sent e = quiet-sent old [] sent refl (append-nil old ∙ e)

taken-follows : (x : Step) (older : List Step) (m : Content) (s : LinkState) → IsSound s → Follows older s
    → let v = verdict_of x.moment s m in
    (applied x.moment m.mid m.token v s).out ≡ s.out ++ x.sent
    → KnowsBehind (applied x.moment m.mid m.token v s) (λ token. awaits token older) (λ mid token. awaits_ack mid token older && not (tells_under token (says v.news m)))
    (heard_by (says v.news m) (Ok m) (outstanding_of older)) (filter is_con x.sent)
taken-follows x older m s h f out =
    let v : Verdict = verdict_of x.moment s m in
    let mid_state : LinkState = record {
      waiting = s.waiting;
      outstanding = s.outstanding;
      last_mid = s.last_mid;
      given = s.given;
      awaited = answered_in m.token v.news s.awaited;
      heard = remembered_in x.moment m.mid v.reply v.remembered s.heard;
      out = s.out ++ replies m.mid v.reply;
    } in
    let under : List ℕ → Bool = λ token. awaits token older in
    let by_ack : ℕ → List ℕ → Bool = λ mid token. awaits_ack mid token older && not (tells_under token (says v.news m)) in
    let knows : Knows mid_state under by_ack (outstanding_of older) = record {
      awaited = λ token. news-awaited v.news m token s.awaited ∙ f.awaited token;
      acks = λ mid token. news-acks v.news m mid token s.awaited ∙ ap (λ (b : Bool). b && not (tells_under token (says v.news m))) (f.acks mid token);
      outstanding = f.outstanding;
      waiting = f.waiting;
    } in
    let left : Option (List ℕ) = heard_by (says v.news m) (Ok m) (outstanding_of older) in
    let firsts : filter is_con x.sent ≡ ended_firsts v.ends mid_state = ended-firsts x.moment v.ends mid_state s.out (replies m.mid v.reply) x.sent h.waiting refl (replies-quiet m.mid v.reply) out in
    subst (λ (xs : List (List ℕ)). KnowsBehind (ended x.moment v.ends mid_state) under by_ack left xs) (sym firsts)
    (ended-knows x.moment v.ends mid_state under by_ack (outstanding_of older) left h.waiting knows (left-fits x.moment s m s.outstanding (outstanding_of older) refl f.outstanding))

-- a step that changes nothing of this and sends nothing first
same-follows : (x : Step) (older : List Step) (s : LinkState) (told : Told) (read : Result Content CodecFault) → Follows older s → filter is_con x.sent ≡ [] → ((token : List ℕ) → tells_under token told ≡ false)
    → heard_by told read (outstanding_of older) ≡ outstanding_of older
    → KnowsBehind s (λ token. awaits token older) (λ mid token. awaits_ack mid token older && not (tells_under token told)) (heard_by told read (outstanding_of older)) (filter is_con x.sent)
same-follows x older s told read f none quiet left = nothing-first s (λ token. awaits token older) (λ mid token. awaits_ack mid token older && not (tells_under token told)) (heard_by told read (outstanding_of older)) (filter is_con x.sent) none (record {
  awaited = f.awaited;
  acks = λ mid token. f.acks mid token ∙ rw (quiet token) (and-true (awaits_ack mid token older));
  outstanding = rw left f.outstanding;
  waiting = f.waiting;
})

dropped-left : (read : Result Content CodecFault) (last : Option (List ℕ)) → heard_by was_dropped read last ≡ last
dropped-left (Err e) last = refl
dropped-left (Ok m) None = refl
dropped-left (Ok m) (Some d) = refl

undecoded-follows : (x : Step) (older : List Step) (s : LinkState) (e : CodecFault) (o : Option ℕ) → Follows older s → (undecoded o s).out ≡ s.out ++ x.sent
    → KnowsBehind (undecoded o s) (λ token. awaits token older) (λ mid token. awaits_ack mid token older && not (tells_under token no_news)) (heard_by no_news (Err e) (outstanding_of older)) (filter is_con x.sent)
undecoded-follows x older s e None f out = same-follows x older s no_news (Err e) f (nothing-sent-by s.out x.sent out) (λ token. refl) refl
undecoded-follows x older s e (Some mid) f out =
    let same : Follows older (undecoded (Some mid) s) = record { awaited = f.awaited; acks = f.acks; outstanding = f.outstanding; waiting = f.waiting } in
    same-follows x older (undecoded (Some mid) s) no_news (Err e) same (quiet-sent s.out (replies mid reply.Rst) x.sent refl out) (λ token. refl) refl

read-follows : (x : Step) (older : List Step) (d : List ℕ) (s : LinkState) → IsSound s → Follows older s → (read : Result Content CodecFault) → let r = hears_read x.moment d s read in
    r.0.out ≡ s.out ++ x.sent
    → KnowsBehind r.0 (λ token. awaits token older) (λ mid token. awaits_ack mid token older && not (tells_under token r.1)) (heard_by r.1 read (outstanding_of older)) (filter is_con x.sent)
read-follows x older d s h f (Ok m) out = taken-follows x older m s h f out
read-follows x older d s h f (Err e) out = undecoded-follows x older s e (reset_for d) f out

hear-follows : (x : Step) (older : List Step) (d : List ℕ) (s : LinkState) → IsSound s → Follows older s → (hears x.moment d s).0.out ≡ s.out ++ x.sent
    → FollowsBy x older (hear d (hears x.moment d s).1) (hears x.moment d s).0
hear-follows x older d s h f = by s.last_mid
  where
    P : LinkState × Told → Type 0
    P r = r.0.out ≡ s.out ++ x.sent → FollowsBy x older (hear d r.1) r.0

    dropped : P (s, was_dropped)
    dropped out = same-follows x older s was_dropped (message_at d) f (nothing-sent-by s.out x.sent out) (λ token. refl) (dropped-left (message_at d) (outstanding_of older))

    by : (o : Option ℕ) → P (hears_from x.moment d s o)
    by None = dropped
    by (Some mid) = either P (nat_lt 2048 (length d)) _ _ (λ e. dropped) (λ e out. read-follows x older d s h f (message_at d) out)

-- time and what is handed in
tick-follows : (x : Step) (older : List Step) (s : LinkState) → IsSound s → Follows older s → (ticked x.moment s).0.out ≡ s.out ++ x.sent
    → FollowsBy x older (tick (ticked x.moment s).1) (ticked x.moment s).0
tick-follows x older s h f = by s.outstanding refl
  where
    P : LinkState × Told → Type 0
    P r = r.0.out ≡ s.out ++ x.sent → FollowsBy x older (tick r.1) r.0

    quiet : (r : LinkState) → Follows older r → FollowsBy x older (tick no_news) r
    quiet r g = nothing-by x older (tick no_news) r refl g

    again_open : (o : Outstanding) (last : Option (List ℕ)) → IsOutstanding (Some o) last → IsOutstanding (Some (again x.moment o)) last
    again_open o None g = g
    again_open o (Some d) g = g

    by : (o : Option Outstanding) → s.outstanding ≡ o → P (ticked_by x.moment s o)
    by None e = λ out. quiet s f
    by (Some o) e = either P (nat_lt x.moment (due_of o)) _ _ (λ early out. quiet s f)
        (λ due. either P (nat_lt o.retransmissions 4) _ _
        (λ few out. quiet _ (record { awaited = f.awaited; acks = f.acks; outstanding = again_open o (outstanding_of older) (subst (λ (p : Option Outstanding). IsOutstanding p (outstanding_of older)) e f.outstanding); waiting = f.waiting }))
        (λ few out.
        let firsts : filter is_con x.sent ≡ next_firsts s s.waiting = next-firsts x.moment s s.waiting s.out [] x.sent h.waiting (sym (append-nil s.out)) refl out in
        subst (λ (xs : List (List ℕ)). KnowsBehind (next_sent x.moment s) (λ token. awaits token older) (λ mid token. awaits_ack mid token older) None xs) (sym firsts)
        (next-knows x.moment s s.waiting (λ token. awaits token older) (λ mid token. awaits_ack mid token older) h.waiting f.waiting refl f.awaited f.acks)))

spelled-push : (ws : List Waiting) (w : Waiting) → AllByRecursion IsSpelled ws → IsSpelled w → AllByRecursion IsSpelled (ws ++ w ∷ [])
spelled-push [] w h p = (p, tt)
spelled-push (x ∷ ws) w h p = (h.0, spelled-push ws w h.1 p)

submit-follows : (x : Step) (older : List Step) (w : Waiting) (s : LinkState) → IsSound s → Follows older s → IsSoundWaiting w → IsSpelled w → (submitted x.moment w s).out ≡ s.out ++ x.sent
    → KnowsBehind (submitted x.moment w s) (λ token. awaits token older) (λ mid token. awaits_ack mid token older) (outstanding_of older) (filter is_con x.sent)
submit-follows x older w s h f sound spelled = by s.outstanding (outstanding_of older) refl refl f.outstanding
  where
    q : LinkState
    q = queued x.moment w s

    P : Option Outstanding → Option (List ℕ) → Type 0
    P o last = (submitted_by x.moment q o).out ≡ s.out ++ x.sent → KnowsBehind (submitted_by x.moment q o) (λ token. awaits token older) (λ mid token. awaits_ack mid token older) last (filter is_con x.sent)

    by : (o : Option Outstanding) (last : Option (List ℕ)) → s.outstanding ≡ o → outstanding_of older ≡ last → IsOutstanding o last → P o last
    by None None e l i = λ out.
        let all = all-push s.waiting w h.waiting sound in
        let firsts : filter is_con x.sent ≡ next_firsts q (s.waiting ++ w ∷ []) = next-firsts x.moment q (s.waiting ++ w ∷ []) s.out [] x.sent all (sym (append-nil s.out)) refl out in
        subst (λ (xs : List (List ℕ)). KnowsBehind (next_sent x.moment q) (λ token. awaits token older) (λ mid token. awaits_ack mid token older) None xs) (sym firsts)
        (next-knows x.moment q (s.waiting ++ w ∷ []) (λ token. awaits token older) (λ mid token. awaits_ack mid token older) all (spelled-push s.waiting w f.waiting spelled) refl f.awaited f.acks)
    by None (Some d) e l i = absurd i
    by (Some o) None e l i = absurd i
    by (Some o) (Some d) e l i = λ out. nothing-first q (λ token. awaits token older) (λ mid token. awaits_ack mid token older) (Some d) (filter is_con x.sent) (nothing-sent-by s.out x.sent out)
        (record { awaited = f.awaited; acks = f.acks; outstanding = rw e i; waiting = spelled-push s.waiting w f.waiting spelled })

spelled-filter : (p : Waiting → Bool) (ws : List Waiting) → AllByRecursion IsSpelled ws → AllByRecursion IsSpelled (filter p ws)
spelled-filter p [] h = h
spelled-filter p (w ∷ ws) h = either (AllByRecursion IsSpelled) (p w) _ _ (λ e. (h.0, spelled-filter p ws h.1)) (λ e. spelled-filter p ws h.1)

no-cons : (sent : List (List ℕ)) → sent ≡ [] → filter is_con sent ≡ []
no-cons sent e = rw e refl

step-follows : (last : ℕ) (older : List Step) (x : Step) (old new : LinkState) → IsSound old → Follows older old → IsStep last x old new → FollowsBy x older x.call new
step-follows last older x old new h f i = by x.call i.leaves i.puts
  where
    by : (c : Call) → Leaves x.moment c old new → Puts c x.sent old new → FollowsBy x older c new
    by (submit m word) e p =
        let w : Waiting = waits m.token e.submits.text word in
        let is : new ≡ submitted x.moment w old = e.submits.is in
        rw is (submit-follows x older w old h f (waits-sound (unnumbered m) e.submits.text word e.confirmable e.submits.spelled) (spelled-token m e.submits.text e.confirmable e.submits.spelled) (rw is at p))
    by (hear d told) e p =
        let Q : LinkState × Told → Type 0 = λ r. r.0.out ≡ old.out ++ x.sent → FollowsBy x older (hear d r.1) r.0 in
        subst Q e (hear-follows x older d old h f) p
    by (tick told) e p =
        let Q : LinkState × Told → Type 0 = λ r. r.0.out ≡ old.out ++ x.sent → FollowsBy x older (tick r.1) r.0 in
        subst Q e (tick-follows x older old h f) p
    by (forget token) e p = nothing-by x older (forget token) new (no-cons x.sent p)
        (rw e (record { awaited = f.awaited; acks = f.acks; outstanding = f.outstanding; waiting = spelled-filter (waits_not_under token) old.waiting f.waiting }))
    by (expect token on) e p = nothing-by x older (expect token on) new (no-cons x.sent p) (rw e (record {
      awaited = λ other. expected-awaited token other on old.awaited ∙ rw (f.awaited other) refl;
      acks = λ mid other. expected-acks token other mid on old.awaited ∙ rw (f.acks mid other) refl;
      outstanding = f.outstanding;
      waiting = f.waiting;
    }))
    by (take_send d) e p =
        let Q : LinkState × Option (List ℕ) → Type 0 = λ r. Follows older r.0 in
        nothing-by x older (take_send d) new (no-cons x.sent p) (subst Q e (taken_out old.out))
      where
        taken_out : (out : List (List ℕ)) → Follows older (taken_by old out).0
        taken_out [] = f
        taken_out (y ∷ ys) = record { awaited = f.awaited; acks = f.acks; outstanding = f.outstanding; waiting = f.waiting }
    by refuse e p = nothing-by x older refuse new (no-cons x.sent p) (rw e f)

pub run-follows : (run : List Step) (s : LinkState) → IsRun run s → Follows run s
run-follows [] s r = rw r (record { awaited = λ token. refl; acks = λ mid token. refl; outstanding = tt; waiting = tt })
run-follows (x ∷ older) s r =
    let k = step-follows (last_moment older) older x r.0 s (run-sound older r.0 r.1) (run-follows older r.0 r.1) r.2 in
    record { awaited = k.awaited; acks = k.acks; outstanding = k.outstanding; waiting = k.waiting }
