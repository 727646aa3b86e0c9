-- What ends the interaction of the message that is outstanding.
use Rattle.std.proofs.Common.{◌≡◌, ℕ, List, Option, Some, None, Ok, Bool, true, false, not, cond, nat_lt, ◌&&◌, refl, sym, ◌∙◌, ap, count_by}
use Rattle.std.specs.Prelude.{◌==◌, if◌then◌else◌}
use Rattle.std.specs.List.{list_any, find}
use Rattle.std.specs.Str.{bytes_eq}
use Rattle.coap_codec.specs.Spelling.{Content}
use Rattle.coap_codec.specs.declared.message.MsgType.{MsgType}
use Rattle.coap_codec.specs.declared.message.MsgType.TheVariants.{Con, Non, Ack, Rst}
use Rattle.coap_codec.specs.Recognition.{is_rejected}
use Rattle.message_layer.specs.Values.{LinkState, Told, no_news, response, timed_out, was_reset, was_dropped}
use Rattle.message_layer.specs.Hearing.{is_awaited, is_awaited_by_ack, is_outstanding_under, is_outstanding_as, is_repeat, is_fresh, says, verdict_of, verdict_by, new_verdict, heard_verdict, ack_verdict, rst_verdict}
use Rattle.message_layer.specs.Transmissions.{mid_of}
use Rattle.message_layer.specs.Awaiting.{token_of, tells_under, is_drop, ends_by, heard_by}
use Rattle.message_layer.specs.Answers.{IsOutstanding}
use Rattle.message_layer.specs.declared.state.Outstanding.{Outstanding}
use Rattle.message_layer.specs.declared.state.Heard.{Heard}
use Rattle.message_layer.specs.declared.state.Reply.{Reply}
use Rattle.message_layer.specs.declared.state.Reply.TheVariants as reply
use Rattle.message_layer.specs.declared.verdict.News.TheVariants.{Quiet, Response, Lost}
use Rattle.message_layer.specs.declared.verdict.Verdict.{Verdict}
use Rattle.message_layer.proofs.Sound.{either}
use Rattle.message_layer.proofs.AwaitTable.{and-true}

-- what ends the outstanding interaction
under-same : (s : LinkState) (o : Outstanding) (d token : List ℕ) → s.outstanding ≡ Some o → o.token ≡ token_of d → is_outstanding_under token s.outstanding ≡ bytes_eq (token_of d) token
under-same s o d token e f = rw (e, f) refl

new-ends : (s : LinkState) (m : Content) (a b : Reply) (o : Outstanding) (d : List ℕ) → s.outstanding ≡ Some o → o.token ≡ token_of d
    → (new_verdict s m a b).ends ≡ tells_under (token_of d) (says (new_verdict s m a b).news m)
new-ends s m a b o d e f =
    let P : Verdict → Type 0 = λ v. v.ends ≡ tells_under (token_of d) (says v.news m) in
    let empty : Verdict = record { reply = b; remembered = true; ends = false; news = Quiet } in
    let told : Verdict = record { reply = if is_rejected m then reply.Rst else a; remembered = true; ends = is_outstanding_under m.token s.outstanding; news = Response } in
    let unmatched : Verdict = record { reply = reply.Rst; remembered = true; ends = false; news = Quiet } in
    either P (m.code == 0) empty (if nat_lt 31 m.code && list_any (is_awaited m.token) s.awaited then told else unmatched) (λ g. refl)
    (λ g. either P (nat_lt 31 m.code && list_any (is_awaited m.token) s.awaited) told unmatched (λ h. under-same s o d m.token e f) (λ h. refl))

not-dropped : (token : List ℕ) (told : Told) → tells_under token told ≡ (not (is_drop told) && tells_under token told)
not-dropped token no_news = refl
not-dropped token (response m) = refl
not-dropped token (timed_out other) = refl
not-dropped token (was_reset other) = refl
not-dropped token was_dropped = refl

heard-ends : (t : ℕ) (s : LinkState) (m : Content) (confirms : Bool) (found : Option Heard) (o : Outstanding) (d : List ℕ) → s.outstanding ≡ Some o → o.token ≡ token_of d
    → let v = heard_verdict t s m confirms found in v.ends ≡ (not (is_drop (says v.news m)) && tells_under (token_of d) (says v.news m))
heard-ends t s m confirms (Some h) o d e f = refl
heard-ends t s m confirms None o d e f =
    let P : Verdict → Type 0 = λ v. v.ends ≡ (not (is_drop (says v.news m)) && tells_under (token_of d) (says v.news m)) in
    let accepts : Reply = if confirms then reply.Ack else reply.Nothing in
    let empties : Reply = if confirms then reply.Rst else reply.Nothing in
    let lost : Verdict = record { reply = reply.Nothing; remembered = false; ends = false; news = Lost } in
    either P (nat_lt (count_by (is_fresh t) s.heard) 1024) (new_verdict s m accepts empties) lost
    (λ g. new-ends s m accepts empties o d e f ∙ not-dropped (token_of d) (says (new_verdict s m accepts empties).news m))
    (λ g. refl)

no-and : (b : Bool) → false ≡ (b && false)
no-and true = refl
no-and false = refl

ack-ends : (s : LinkState) (m : Content) (o : Outstanding) (d : List ℕ) → s.outstanding ≡ Some o → o.mid ≡ mid_of d → o.token ≡ token_of d
    → let v = ack_verdict s m in v.ends ≡ (not (is_drop (says v.news m)) && ends_by d (says v.news m) m Ack)
ack-ends s m o d e n f =
    let P : Verdict → Type 0 = λ v. v.ends ≡ (not (is_drop (says v.news m)) && ends_by d (says v.news m) m Ack) in
    let same_mid : is_outstanding_as m.mid s.outstanding ≡ (mid_of d == m.mid) = rw (e, n) refl in
    either P (m.code == 0) _ _
    (λ g. rw (same_mid, g) (and-true (mid_of d == m.mid)))
    (λ g. either P (nat_lt 31 m.code) _ _
    (λ h. rw (same_mid, under-same s o d m.token e f, g, h) (brought (list_any (is_awaited_by_ack m.mid m.token) s.awaited) ((mid_of d == m.mid) && bytes_eq (token_of d) m.token)))
    (λ h. rw (g, h) (no-and (mid_of d == m.mid))))
  where
    brought : (b x : Bool) → x ≡ (not (is_drop (says (cond b Response Quiet) m)) && x)
    brought true x = refl
    brought false x = refl

rst-ends : (m : Content) (o : Outstanding) (d : List ℕ) → o.mid ≡ mid_of d
    → let v = rst_verdict m (Some o) in v.ends ≡ (not (is_drop (says v.news m)) && ends_by d (says v.news m) m Rst)
rst-ends m o d n =
    let P : Verdict → Type 0 = λ v. v.ends ≡ (not (is_drop (says v.news m)) && ((m.code == 0) && (mid_of d == m.mid))) in
    let same : ((m.code == 0) && (o.mid == m.mid)) ≡ ((m.code == 0) && (mid_of d == m.mid)) = rw n refl in
    either P ((m.code == 0) && (o.mid == m.mid)) _ _ (λ g. sym g ∙ same) (λ g. sym g ∙ same)

verdict-ends : (t : ℕ) (s : LinkState) (m : Content) (kind : MsgType) (o : Outstanding) (d : List ℕ) → s.outstanding ≡ Some o → o.mid ≡ mid_of d → o.token ≡ token_of d
    → let v = verdict_by t s m kind in v.ends ≡ (not (is_drop (says v.news m)) && ends_by d (says v.news m) m kind)
verdict-ends t s m Con o d e n f = heard-ends t s m true (find (is_repeat t m.mid) s.heard) o d e f
verdict-ends t s m Non o d e n f = heard-ends t s m false (find (is_repeat t m.mid) s.heard) o d e f
verdict-ends t s m Ack o d e n f = ack-ends s m o d e n f
verdict-ends t s m Rst o d e n f = rw e (rst-ends m o d n)

-- after what was heard
pub left-fits : (t : ℕ) (s : LinkState) (m : Content) (o : Option Outstanding) (last : Option (List ℕ)) → s.outstanding ≡ o → IsOutstanding o last
    → let v = verdict_of t s m in (v.ends ≡ true → heard_by (says v.news m) (Ok m) last ≡ None) × (v.ends ≡ false → heard_by (says v.news m) (Ok m) last ≡ last)
left-fits t s m None None e h = (λ g. refl, λ g. refl)
left-fits t s m None (Some d) e h = absurd h
left-fits t s m (Some o) None e h = absurd h
left-fits t s m (Some o) (Some d) e h =
    let v : Verdict = verdict_of t s m in
    let is : v.ends ≡ (not (is_drop (says v.news m)) && ends_by d (says v.news m) m m.kind) = verdict-ends t s m m.kind o d e h.1 h.2 in
    (λ g. ap (λ (b : Bool). cond b None (Some d)) (sym is ∙ g), λ g. ap (λ (b : Bool). cond b None (Some d)) (sym is ∙ g))
