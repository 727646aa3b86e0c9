-- What is prepared for a call is what the call does.
use Rattle.std.proofs.Common.{◌≡◌, ℕ, List, [], ◌∷◌, length, filter, Option, Some, None, Result, Ok, Err, Bool, true, false, nat_lt, ◌==◌, refl, ◌∙◌, ap, arith, append-nil}
use Rattle.std.proofs.lemmas.Bool.{le-ltb, eqb-true}
use Rattle.std.specs.List.{find, AllByRecursion}
use Rattle.coap_codec.specs.Reading.{message_at}
use Rattle.coap_codec.specs.Spelling.{Content}
use Rattle.coap_codec.specs.declared.fault.CodecFault.{CodecFault}
use Rattle.message_layer.specs.Values.{LinkState, Told, told, no_news}
use Rattle.message_layer.specs.Sending.{first_sent, IsNext}
use Rattle.message_layer.specs.Hearing.{applied, reset_for, undecoded, hears_read, hears_from}
use Rattle.message_layer.specs.Calls.{is_among, waits_on, is_awaited_on, without}
use Rattle.message_layer.specs.Prepared.{IsRead, IsOfNone, HearsAsPrepared}
use Rattle.message_layer.specs.declared.state.Waiting.{Waiting}
use Rattle.message_layer.specs.declared.state.Awaited.{Awaited}
use Rattle.message_layer.specs.declared.prepared.FirstSending.{FirstSending}
use Rattle.message_layer.specs.declared.prepared.Hearing.{Hearing}

-- without no token nothing is taken away
all-wait : (ws : List Waiting) → ws ≡ filter (waits_on (is_among [])) ws
all-wait [] = refl
all-wait (w ∷ ws) = ap (λ (xs : List Waiting). w ∷ xs) (all-wait ws)

all-awaited : (ws : List Awaited) → ws ≡ filter (is_awaited_on (is_among [])) ws
all-awaited [] = refl
all-awaited (a ∷ ws) = ap (λ (xs : List Awaited). a ∷ xs) (all-awaited ws)

pub without-none : (s : LinkState) → s ≡ without [] s
without-none s =
    let waiting : List Waiting = filter (waits_on (is_among [])) s.waiting in
    ap (λ (ws : List Waiting). record s { waiting = ws }) (all-wait s.waiting)
    ∙ ap (λ (ws : List Awaited). record s { waiting = waiting; awaited = ws }) (all-awaited s.awaited)

-- the length of no token
pub none-long : (tokens : List (List ℕ)) → (length tokens == 0) ≡ true → tokens ≡ []
none-long [] e = refl
none-long (token ∷ tokens) e =
    let f : length (token ∷ tokens) ≡ 0 = eqb-true (length (token ∷ tokens)) 0 e in
    absurd (omega (arith, f))

pub same-without : (tokens : List (List ℕ)) (s : LinkState) → tokens ≡ [] → s ≡ without tokens s
same-without tokens s e = rw e (without-none s)

-- the first that is found is the first that is left
pub found-none : (t : ℕ) (last_mid : Option ℕ) (p : Waiting → Bool) (ws : List Waiting)
    → find p ws ≡ None → IsNext t last_mid (filter p ws) None
found-none t last_mid p [] e = tt
found-none t last_mid p (w ∷ ws) e = by (p w) refl (found-none t last_mid p ws)
  where
    by : (b : Bool) → p w ≡ b → (find p ws ≡ None → IsNext t last_mid (filter p ws) None)
        → IsNext t last_mid (filter p (w ∷ ws)) None
    by true f rest = absurd (let g : Some w ≡ None = rw f at e in cc)
    by false f rest = rw f (rest (rw f at e))

pub found-some : (t : ℕ) (last_mid : Option ℕ) (p : Waiting → Bool) (ws : List Waiting)
    (w : Waiting) (x : FirstSending) → find p ws ≡ Some w
    → x.message ≡ first_sent t last_mid w → x.datagram ≡ x.message.datagram
    → IsNext t last_mid (filter p ws) (Some x)
found-some t last_mid p [] w x e is same = absurd cc
found-some t last_mid p (v ∷ ws) w x e is same =
    by (p v) refl (λ h. found-some t last_mid p ws w x h is same)
  where
    by : (b : Bool) → p v ≡ b → (find p ws ≡ Some w → IsNext t last_mid (filter p ws) (Some x))
        → IsNext t last_mid (filter p (v ∷ ws)) (Some x)
    by true f rest =
        let g : Some v ≡ Some w = rw f at e in
        let h : v ≡ w = cc in
        rw f (rw h (is, same))
    by false f rest = rw f (rest (rw f at e))

pub found-all : (P : Waiting → Type 0) (p : Waiting → Bool) (ws : List Waiting) (w : Waiting)
    → AllByRecursion P ws → find p ws ≡ Some w → P w
found-all P p [] w all e = absurd cc
found-all P p (v ∷ ws) w all e = by (p v) refl (found-all P p ws w all.1)
  where
    by : (b : Bool) → p v ≡ b → (find p ws ≡ Some w → P w) → P w
    by true f rest =
        let g : Some v ≡ Some w = rw f at e in
        let h : v ≡ w = cc in
        rw (← h) all.0
    by false f rest = rest (rw f at e)

-- what is no message
of-none : (t : ℕ) (s : LinkState) (h : Hearing) (mid : Option ℕ) → IsOfNone mid h
    → ◌≡◌ {A = LinkState × Told} (undecoded mid s, no_news)
    (applied t h.heeding.mid h.heeding.token h.heeding.verdict s, told h.up)
of-none t s h None i = rw (i.up, i.verdict, append-nil s.out) refl
of-none t s h (Some mid) i = rw (i.up, i.mid_is, i.verdict) refl

of-read : (t : ℕ) (d : List ℕ) (s : LinkState) (h : Hearing) (r : Result Content CodecFault)
    → IsRead t d s r h
    → hears_read t d s r ≡ (applied t h.heeding.mid h.heeding.token h.heeding.verdict s, told h.up)
of-read t d s h (Ok m) i = rw (i.up, i.mid, i.token, i.verdict) refl
of-read t d s h (Err e) i = of-none t s h (reset_for d) i

pub hears-as-prepared : HearsAsPrepared
hears-as-prepared t d link h i = by link.state.last_mid refl
  where
    x : LinkState × Told
    x = (applied t h.heeding.mid h.heeding.token h.heeding.verdict link.state, told h.up)

    by : (o : Option ℕ) → link.state.last_mid ≡ o → hears_from t d link.state o ≡ x
    by None e = absurd (let f : false ≡ true = rw e at i.known in cc)
    by (Some mid) e =
        let long : nat_lt 2048 (length d) ≡ false = le-ltb 2048 (length d) i.short in
        rw long (of-read t d link.state h (message_at d) i.is)
