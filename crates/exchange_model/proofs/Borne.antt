-- The token that a new message ends was sent to its endpoint.
use Rattle.std.proofs.Common.{◌≡◌, ℕ, ◌⊎◌, inl, inr, Bool, true, false, cond, eqb, ltb, leb, List, ◌++◌, Option, Some, None, refl, sym, ap, subst, ◌∙◌}
use Rattle.std.specs.Prelude.{◌&&◌, count_by}
use Rattle.std.specs.List.{find, list_any}
use Rattle.std.proofs.lemmas.Bool.{false≢true, or_cases}
use Rattle.std.proofs.lemmas.Option.{same_Some}
use Rattle.coap_codec.specs.Spelling.{Content}
use Rattle.coap_codec.specs.declared.message.MsgType.{MsgType}
use Rattle.coap_codec.specs.declared.message.MsgType.TheVariants.{Con, Non, Ack, Rst}
use Rattle.uri_map.specs.declared.peer.Peer.{Peer}
use Rattle.uri_map.specs.Peers.{same_peer}
use Rattle.message_layer.specs.Values.{LinkState}
use Rattle.message_layer.specs.Hearing.{is_fresh, is_repeat, is_awaited, is_awaited_by_ack, new_verdict, heard_verdict, ack_verdict, rst_verdict, verdict_by}
use Rattle.message_layer.specs.declared.state.Heard.{Heard}
use Rattle.message_layer.specs.declared.state.Outstanding.{Outstanding}
use Rattle.message_layer.specs.declared.state.Reply.{Reply}
use Rattle.message_layer.specs.declared.verdict.News.TheVariants.{Quiet, Response}
use Rattle.message_layer.specs.declared.verdict.Verdict.{Verdict}
use Rattle.history_laws.specs.Readings.{Noted}
use Rattle.history_laws.specs.Transmissions.{FirstSending, first_at}
use Rattle.history_laws.specs.Exchanges.{awaited}
use Rattle.history_laws.specs.Hearing.{went_under, went_as, is_under, is_as, open_at, expected, answers_by, answers}
use Rattle.history_laws.proofs.CallerLemmas.{and-left, and-right, find-any, find-some}
use Rattle.history_laws.specs.Observing.{watched}
use Rattle.history_links.specs.Agrees.{Start, TurnIn, Agrees, awaits, notified}
use Rattle.history_links.specs.Steps.{ended_token}
use Rattle.history_links.proofs.CallerLemmas.{out-first, out-peer, token-found}

-- a first sending to the endpoint bears it
pub record IsBorne (l : List Noted) (p : Peer) (token : List ℕ) : Type 0 where
  pub number : ℕ
  pub first : FirstSending
  pub is : first_at l number ≡ Some first
  pub peer : same_peer first.peer p ≡ true
  pub token_is : first.message.token ≡ token

pub any-one : {X : Type 0} (q : X → Bool) (xs : List X) → list_any q xs ≡ true → (x : X) × (q x ≡ true)
any-one q xs e = let it = find-any q xs e in (it.0, (find-some q xs it.0 it.1).1)

pub under-borne : (l : List Noted) (p : Peer) (token : List ℕ) (i : ℕ) → went_under p token (first_at l i) ≡ true → IsBorne l p token
under-borne l p token i e =
    let f = token-found p token (first_at l i) e in
    record {
      number = i;
      first = f.0;
      is = f.1;
      peer = and-left (same_peer f.0.peer p) _ (subst (λ (v : Option FirstSending). went_under p token v ≡ true) f.1 e);
      token_is = f.2;
    }

if-awaited : {start : Start} (l : List Noted) (p : Peer) (s : LinkState) (m : Content) (of : List ℕ) → Agrees start l p s → list_any (is_awaited m.token) s.awaited ≡ true → Some m.token ≡ Some of → IsBorne l p of
if-awaited l p s m of a e same =
    subst (IsBorne l p) (same_Some m.token of same) (elim (or_cases (awaits l p m.token) (notified l p m.token) (sym (a.awaits m.token) ∙ e)) [
      | inl reply ↦
          let one = any-one (λ (i : ℕ). went_under p m.token (first_at l i)) (awaited l) reply in
          under-borne l p m.token one.0 one.1
      | inr news ↦
          let one = any-one (λ (i : ℕ). went_under p m.token (first_at l i)) (watched l) news in
          under-borne l p m.token one.0 one.1
    ])

pub split : (c : Bool) (x y : Verdict) (token of : List ℕ) → ended_token (cond c x y).news token ≡ Some of
    → ((c ≡ true) × (ended_token x.news token ≡ Some of)) ⊎ ((c ≡ false) × (ended_token y.news token ≡ Some of))
split true x y token of h = inl (refl, h)
split false x y token of h = inr (refl, h)

new-borne : {start : Start} (l : List Noted) (p : Peer) (s : LinkState) (m : Content) (of : List ℕ) (r e : Reply) → Agrees start l p s → ended_token (new_verdict s m r e).news m.token ≡ Some of → IsBorne l p of
new-borne l p s m of r e a h = elim (split (eqb m.code 0) _ _ m.token of h) [
  | inl w ↦ absurd (nothing w.1)
  | inr w ↦ elim (split (ltb 31 m.code && list_any (is_awaited m.token) s.awaited) _ _ m.token of w.1) [
    | inl v ↦ if-awaited l p s m of a (and-right (ltb 31 m.code) _ v.0) v.1
    | inr v ↦ absurd (nothing v.1)
  ]
]
  where
    nothing : None ≡ Some of → ⊥
    nothing e = cc

heard-borne : {start : Start} (l : List Noted) (t : ℕ) (p : Peer) (s : LinkState) (m : Content) (of : List ℕ) (confirms : Bool) (v : Option Heard) → Agrees start l p s
    → ended_token (heard_verdict t s m confirms v).news m.token ≡ Some of → IsBorne l p of
heard-borne l t p s m of confirms (Some k) a h = absurd cc
heard-borne l t p s m of confirms None a h = elim (split (ltb (count_by (is_fresh t) s.heard) 1024) _ _ m.token of h) [
  | inl w ↦ new-borne l p s m of _ _ a w.1
  | inr w ↦ absurd (nothing w.1)
]
  where
    nothing : None ≡ Some of → ⊥
    nothing e = cc

if-acked : {start : Start} (l : List Noted) (p : Peer) (s : LinkState) (m : Content) (of : List ℕ) → Agrees start l p s → (b : Bool) → list_any (is_awaited_by_ack m.mid m.token) s.awaited ≡ b
    → ended_token (cond b Response Quiet) m.token ≡ Some of → IsBorne l p of
if-acked l p s m of a false e h = absurd cc
if-acked l p s m of a true e h =
    let one = any-one (λ (i : ℕ). went_under p m.token (first_at l i) && went_as p m.mid (first_at l i)) (awaited l) (sym (a.acks m.mid m.token) ∙ e) in
    subst (IsBorne l p) (same_Some m.token of h) (under-borne l p m.token one.0 (and-left (went_under p m.token (first_at l one.0)) _ one.1))

ack-borne : {start : Start} (l : List Noted) (p : Peer) (s : LinkState) (m : Content) (of : List ℕ) → Agrees start l p s → ended_token (ack_verdict s m).news m.token ≡ Some of → IsBorne l p of
ack-borne l p s m of a h = elim (split (eqb m.code 0) _ _ m.token of h) [
  | inl w ↦ absurd (nothing w.1)
  | inr w ↦ elim (split (ltb 31 m.code) _ _ m.token of w.1) [
    | inl v ↦ if-acked l p s m of a (list_any (is_awaited_by_ack m.mid m.token) s.awaited) refl v.1
    | inr v ↦ absurd (nothing v.1)
  ]
]
  where
    nothing : None ≡ Some of → ⊥
    nothing e = cc

rst-borne : (l : List Noted) (p : Peer) (m : Content) (of : List ℕ) (v : Option Outstanding) → TurnIn l p v → ended_token (rst_verdict m v).news m.token ≡ Some of → IsBorne l p of
rst-borne l p m of None a h = absurd cc
rst-borne l p m of (Some o) a h = elim (split ((eqb m.code 0) && (eqb o.mid m.mid)) _ _ m.token of h) [
  | inl w ↦ record { number = a.first.number; first = a.first; is = out-first l p o a; peer = out-peer l p o a; token_is = a.token ∙ same_Some o.token of w.1 }
  | inr w ↦ absurd (nothing w.1)
]
  where
    nothing : None ≡ Some of → ⊥
    nothing e = cc

pub ended-borne : {start : Start} (l : List Noted) (t : ℕ) (p : Peer) (s : LinkState) (m : Content) (of : List ℕ) (k : MsgType) → Agrees start l p s
    → ended_token (verdict_by t s m k).news m.token ≡ Some of → IsBorne l p of
ended-borne l t p s m of Con a h = heard-borne l t p s m of true (find (is_repeat t m.mid) s.heard) a h
ended-borne l t p s m of Non a h = heard-borne l t p s m of false (find (is_repeat t m.mid) s.heard) a h
ended-borne l t p s m of Ack a h = ack-borne l p s m of a h
ended-borne l t p s m of Rst a h = rst-borne l p m of s.outstanding a.turn h

-- What a message answers went to its endpoint.

as-peer : (p : Peer) (mid : ℕ) (v : Option FirstSending) (f : FirstSending) → v ≡ Some f → went_as p mid v ≡ true → same_peer f.peer p ≡ true
as-peer p mid v f is e = and-left (same_peer f.peer p) _ (subst (λ (u : Option FirstSending). went_as p mid u ≡ true) is e)

under-peer : (p : Peer) (token : List ℕ) (v : Option FirstSending) (f : FirstSending) → v ≡ Some f → went_under p token v ≡ true → same_peer f.peer p ≡ true
under-peer p token v f is e = and-left (same_peer f.peer p) _ (subst (λ (u : Option FirstSending). went_under p token u ≡ true) is e)

answers-what : (l : List Noted) (p : Peer) (m : Content) (k : MsgType) (empty response : Bool) (i : ℕ) → answers_by l p m k empty response ≡ Some i
    → (is_under l p m i ≡ true) ⊎ (is_as l p m i ≡ true)
answers-what l p m Con empty true i e = inl ((find-some (is_under l p m) (expected l) i e).1)
answers-what l p m Con empty false i e = absurd cc
answers-what l p m Non empty true i e = inl ((find-some (is_under l p m) (expected l) i e).1)
answers-what l p m Non empty false i e = absurd cc
answers-what l p m Ack empty true i e = inl (and-left (is_under l p m i) _ ((find-some (λ (j : ℕ). is_under l p m j && is_as l p m j) (awaited l ++ open_at l p) i e).1))
answers-what l p m Ack true false i e = inr ((find-some (is_as l p m) (open_at l p) i e).1)
answers-what l p m Ack false false i e = absurd cc
answers-what l p m Rst true response i e = inr ((find-some (is_as l p m) (open_at l p) i e).1)
answers-what l p m Rst false response i e = absurd cc

pub answers-peer : (l : List Noted) (p : Peer) (m : Content) (i : ℕ) (f : FirstSending) → answers l p m ≡ Some i → first_at l i ≡ Some f → same_peer f.peer p ≡ true
answers-peer l p m i f e is = elim (answers-what l p m m.kind (eqb m.code 0) (leb 32 m.code) i e) [
  | inl w ↦ under-peer p m.token (first_at l i) f is w
  | inr w ↦ as-peer p m.mid (first_at l i) f is w
]

-- It is one that stands.
pub answers-first : (l : List Noted) (p : Peer) (m : Content) (i : ℕ) → answers l p m ≡ Some i → (f : FirstSending) × (first_at l i ≡ Some f)
answers-first l p m i e = by (first_at l i) refl (answers-what l p m m.kind (eqb m.code 0) (leb 32 m.code) i e)
  where
    by : (v : Option FirstSending) → first_at l i ≡ v → (is_under l p m i ≡ true) ⊎ (is_as l p m i ≡ true) → (f : FirstSending) × (first_at l i ≡ Some f)
    by (Some f) is w = (f, is)
    by None is (inl w) = absurd (false≢true (sym (ap (went_under p m.token) is) ∙ w))
    by None is (inr w) = absurd (false≢true (sym (ap (went_as p m.mid) is) ∙ w))
