-- There is a place for what comes next in the history where there is one in the state.
use Rattle.std.proofs.Common.{◌≡◌, ℕ, Bool, true, false, cond, eqb, ltb, inl, inr, List, [], ◌∷◌, length, Option, Some, None, refl, sym, ap, subst, ◌∙◌, suc}
use Rattle.std.specs.Prelude.{is_some, ◌&&◌, find, count_by}
use Rattle.std.specs.List.{list_any}
use Rattle.std.proofs.lemmas.Bool.Decides.{eqb_tells}
use Rattle.coap_codec.specs.Spelling.{Content}
use Rattle.coap_codec.specs.declared.message.MsgType.{MsgType}
use Rattle.coap_codec.specs.declared.message.MsgType.TheVariants.{Con, Non, Ack, Rst}
use Rattle.uri_map.specs.declared.peer.Peer.{Peer}
use Rattle.uri_map.specs.Peers.{same_peer}
use Rattle.uri_map.proofs.CallerLemmas.{same_peer-same}
use Rattle.message_layer.specs.Values.{LinkState}
use Rattle.message_layer.specs.Hearing.{is_fresh, is_repeat, is_awaited, new_verdict, heard_verdict, ack_verdict, verdict_by, verdict_of}
use Rattle.message_layer.specs.declared.state.Heard.{Heard}
use Rattle.message_layer.specs.declared.state.Outstanding.{Outstanding}
use Rattle.message_layer.specs.declared.state.Reply.{Reply as LinkReply}
use Rattle.message_layer.specs.declared.state.Waiting.{Waiting}
use Rattle.message_layer.specs.declared.verdict.Verdict.{Verdict}
use Rattle.history_laws.specs.Readings.{Noted}
use Rattle.history_laws.specs.Transmissions.{FirstSending, Transmission, transmission, outstanding, last_sent}
use Rattle.history_laws.specs.Exchanges.{waits_for}
use Rattle.history_laws.specs.Hearing.{repeated, can_be_remembered, answers, has_place, notice_of}
use Rattle.history_laws.specs.Justified.{Legal}
use Rattle.history_laws.specs.Laws.{IsFirst}
use Rattle.history_laws.proofs.CallerLemmas.{eqb-itself, first-found, none-is, outstanding-last, some-is, waits-first}
use Rattle.history_links.specs.Agrees.{Start, TurnIn, WaitIn, way_of}
use Rattle.history_links.proofs.CallerLemmas.{judge, Judged}
use Rattle.exchange_model.specs.State.{State, link_of}
use Rattle.exchange_model.specs.Matters.{has_next_place}
use Rattle.exchange_model.specs.Laws.{Before}
use Rattle.exchange_model.proofs.Borne.{answers-peer}
use Rattle.exchange_model.proofs.Silent.{now-from}

-- Where nothing is outstanding, nothing is ended.

either-ends : (b : Bool) (x y : Verdict) → x.ends ≡ false → y.ends ≡ false → (cond b x y).ends ≡ false
either-ends true x y p q = p
either-ends false x y p q = q

none-under : (token : List ℕ) (v : Option Outstanding) → v ≡ None → (s : LinkState) → s.outstanding ≡ v → (m : Content) (r e : LinkReply) → (new_verdict s m r e).ends ≡ false
none-under token v none s is m r e =
    either-ends (eqb m.code 0) _ _ refl (either-ends (ltb 31 m.code && list_any (is_awaited m.token) s.awaited) _ _ (rw (is, none) refl) refl)

heard-ends : (t : ℕ) (s : LinkState) (m : Content) (confirms : Bool) (v : Option Heard) → s.outstanding ≡ None → (heard_verdict t s m confirms v).ends ≡ false
heard-ends t s m confirms (Some h) none = refl
heard-ends t s m confirms None none =
    either-ends (ltb (count_by (is_fresh t) s.heard) 1024) _ _ (none-under m.token None refl s none m _ _) refl

ack-ends : (s : LinkState) (m : Content) → s.outstanding ≡ None → (ack_verdict s m).ends ≡ false
ack-ends s m none = either-ends (eqb m.code 0) _ _ (rw (none) refl) (either-ends (ltb 31 m.code) _ _ (rw (none) refl) refl)

ends-none : (t : ℕ) (s : LinkState) (m : Content) (k : MsgType) → s.outstanding ≡ None → (verdict_by t s m k).ends ≡ false
ends-none t s m Con none = heard-ends t s m true (find (is_repeat t m.mid) s.heard) none
ends-none t s m Non none = heard-ends t s m false (find (is_repeat t m.mid) s.heard) none
ends-none t s m Ack none = ack-ends s m none
ends-none t s m Rst none = rw (none) refl

-- What a reply is to is outstanding just where the link ends that.

out-last : (l : List Noted) (p : Peer) (f : FirstSending) (y : Transmission) → last_sent l p ≡ Some f → transmission l f.number ≡ Some y
    → outstanding l p ≡ Some f
out-last l p f y e g = rw (e, g) refl

same-end : (start : Start) (l : List Noted) (s t o i : ℕ) (p : Peer) (n : Content) (link : LinkState) (m : Content) → Legal l → IsFirst l s o i p n
    → TurnIn l p link.outstanding → Judged l p link m (Some i) (verdict_of t link m) → is_some (transmission l i) ≡ (verdict_of t link m).ends
same-end start l s t o i p n link m legal first turn judged = by (transmission l i) refl link.outstanding refl turn
  where
    last : (y : Transmission) → transmission l i ≡ Some y → (f : FirstSending) × (outstanding l p ≡ Some f) × (f.number ≡ i)
    last y e =
        let it = outstanding-last l s o i p n y legal first e in
        (it.0, out-last l p it.0 y it.1 (subst (λ (k : ℕ). transmission l k ≡ Some y) (sym it.2) e), it.2)

    by : (w : Option Transmission) → transmission l i ≡ w → (v : Option Outstanding) → link.outstanding ≡ v → TurnIn l p v → is_some w ≡ (verdict_of t link m).ends
    by None e None is a = sym (ends-none t link m m.kind is)
    by (Some y) e None is a = let it = last y e in absurd (none-is it.0 (sym it.1 ∙ a))
    by (Some y) e (Some q) is a =
        let it = last y e in
        let same : a.first ≡ it.0 = some-is _ _ (sym a.is ∙ it.1) in
        let number : a.first.number ≡ i = ap (λ (f : FirstSending). f.number) same ∙ it.2 in
        sym (judged.ends q a is ∙ (ap (eqb i) number ∙ eqb-itself i))
    by None e (Some q) is a = sym (judged.ends q a is ∙ not-it)
      where
        not-it : eqb i a.first.number ≡ false
        not-it = elim (eqb_tells i a.first.number) [
          | inl w ↦ absurd (none-is (way_of q) (sym (subst (λ (k : ℕ). transmission l k ≡ Some (way_of q)) (sym w.1) a.way) ∙ e))
          | inr w ↦ w.0
        ]

as-many : (start : Start) (l : List Noted) (os : List ℕ) (ws : List Waiting) → WaitIn start l os ws → length os ≡ length ws
as-many start l [] [] a = refl
as-many start l [] (w ∷ ws) a = absurd a
as-many start l (o ∷ os) [] a = absurd a
as-many start l (o ∷ os) (w ∷ ws) a = ap suc (as-many start l os ws a.1)

pub place-same : (l : List Noted) (t : ℕ) (p : Peer) (m : Content) (S : State) (o i : ℕ) (b : Before l t S) → repeated l t p m ≡ None → can_be_remembered l t p m ≡ true
    → waits_for l o ≡ Some i → answers l p m ≡ Some i → (notice_of l t p m (answers l p m)).place ≡ has_next_place t p (verdict_of t (link_of S.links p) m) S
place-same l t p m S o i b none room waits is =
    let r = b.reads in
    let s = link_of S.links p in
    let agrees = r.links_are p in
    let f = waits-first l o i waits in
    let peer : same_peer f.1 p ≡ true = answers-peer l p m i _ is (first-found l f.0 o i f.1 f.2 f.3) in
    let first : IsFirst l f.0 o i p f.2 = subst (λ (q : Peer). IsFirst l f.0 o i q f.2) (same_peer-same f.1 p peer) f.3 in
    let judged = subst (λ (to : Option ℕ). Judged l p s m to (verdict_of t s m)) is (judge l t p s m m.kind (now-from l t S b) r.legal agrees refl none room) in
    let ends = same-end r.start l f.0 t o i p f.2 s m r.legal first agrees.turn judged in
    ap (has_place l t p) is
    ∙ rw (ends, as-many r.start l _ _ agrees.waits, ← agrees.given t (now-from l t S b)) refl
