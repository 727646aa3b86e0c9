-- How a link and the history judge a new CON or NON.
use Rattle.std.proofs.Common.{◌≡◌, ℕ, Bool, true, false, cond, eqb, leb, List, Option, Some, None, refl, sym, ap, subst, ◌∙◌}
use Rattle.std.specs.Prelude.{◌&&◌, is_some}
use Rattle.std.specs.List.{find, list_any}
use Rattle.std.proofs.lemmas.List.Folds.{list_any-append}
use Rattle.std.proofs.lemmas.Bool.{false≢true}
use Rattle.coap_codec.specs.declared.message.MsgType.{MsgType}
use Rattle.coap_codec.specs.declared.message.MsgType.TheVariants.{Con, Non, Ack, Rst}
use Rattle.coap_codec.specs.Spelling.{Content}
use Rattle.coap_codec.specs.Recognition.{is_rejected}
use Rattle.uri_map.specs.declared.peer.Peer.{Peer}
use Rattle.history_laws.specs.Confirmations.{answer_by}
use Rattle.message_layer.specs.Values.{LinkState}
use Rattle.message_layer.specs.Hearing.{is_awaited, is_outstanding_under, new_verdict}
use Rattle.message_layer.specs.declared.state.Outstanding.{Outstanding}
use Rattle.message_layer.specs.declared.state.Reply.{Reply}
use Rattle.message_layer.specs.declared.state.Reply.TheVariants as R
use Rattle.message_layer.specs.declared.verdict.News.TheVariants.{Quiet, Response}
use Rattle.history_laws.specs.Readings.{Noted}
use Rattle.history_laws.specs.Transmissions.{first_at}
use Rattle.history_laws.specs.Exchanges.{awaited}
use Rattle.history_laws.specs.Observing.{watched}
use Rattle.history_laws.specs.Hearing.{is_such, went_under, is_under, answers_by, expected}
use Rattle.history_laws.specs.Justified.{Legal}
use Rattle.history_laws.proofs.CallerLemmas.{any-find, find-some}
use Rattle.history_links.specs.Agrees.{Start, reply_of, IsOut, Agrees}
use Rattle.history_links.proofs.Replying.{ends_by}
use Rattle.history_links.proofs.Judging.{Judged, out-under, same-under, ends-under, empty-code}

-- A CON or NON.

abbrev pub IsOwn : MsgType → Type 0
IsOwn Con = Unit {0}
IsOwn Non = Unit {0}
IsOwn _ = ⊥

abbrev pub accepts : MsgType → Reply
accepts Con = R.Ack
accepts _ = R.Nothing

abbrev pub empties : MsgType → Reply
empties Con = R.Rst
empties _ = R.Nothing

own-to : (l : List Noted) (p : Peer) (m : Content) (k : MsgType) (e r : Bool) → IsOwn k → answers_by l p m k e r ≡ cond r (find (is_under l p m) (expected l)) None
own-to l p m Con e true i = refl
own-to l p m Con e false i = refl
own-to l p m Non e true i = refl
own-to l p m Non e false i = refl
own-to l p m Ack e r i = absurd i
own-to l p m Rst e r i = absurd i

own-such : (k : MsgType) → IsOwn k → true ≡ is_such k
own-such Con i = refl
own-such Non i = refl
own-such Ack i = absurd i
own-such Rst i = absurd i

own-ends : (k : MsgType) (c : ℕ) → IsOwn k → ends_by k c ≡ leb 32 c
own-ends Con c i = refl
own-ends Non c i = refl
own-ends Ack c i = absurd i
own-ends Rst c i = absurd i

vain-reply : (k : MsgType) (rejected : Bool) → IsOwn k → empties k ≡ reply_of (answer_by k false rejected true)
vain-reply Con rejected i = refl
vain-reply Non rejected i = refl
vain-reply Ack rejected i = absurd i
vain-reply Rst rejected i = absurd i

unmatched-reply : (k : MsgType) (rejected : Bool) → IsOwn k → R.Rst ≡ reply_of (answer_by k false rejected false)
unmatched-reply Con rejected i = refl
unmatched-reply Non rejected i = refl
unmatched-reply Ack rejected i = absurd i
unmatched-reply Rst rejected i = absurd i

matched-reply : (k : MsgType) (rejected vain : Bool) → IsOwn k → cond rejected R.Rst (accepts k) ≡ reply_of (answer_by k true rejected vain)
matched-reply Con true vain i = refl
matched-reply Con false vain i = refl
matched-reply Non true vain i = refl
matched-reply Non false vain i = refl
matched-reply Ack rejected vain i = absurd i
matched-reply Rst rejected vain i = absurd i

pub own-judged : {start : Start} (l : List Noted) (p : Peer) (s : LinkState) (m : Content) → Legal l → Agrees start l p s → IsOwn m.kind
    → Judged l p s m (answers_by l p m m.kind (eqb m.code 0) (leb 32 m.code)) (new_verdict s m (accepts m.kind) (empties m.kind))
own-judged l p s m legal a own =
    subst (λ (to : Option ℕ). Judged l p s m to (new_verdict s m (accepts m.kind) (empties m.kind))) (sym (own-to l p m m.kind (eqb m.code 0) (leb 32 m.code) own))
    (by (eqb m.code 0) refl (leb 32 m.code) refl (find (is_under l p m) (expected l)) refl)
  where
    found-so : list_any (is_awaited m.token) s.awaited ≡ is_some (find (is_under l p m) (expected l))
    found-so = a.awaits m.token ∙ (sym (list_any-append (is_under l p m) (awaited l) (watched l)) ∙ any-find (is_under l p m) (expected l))

    told : find (is_under l p m) (expected l) ≡ None → list_any (is_awaited m.token) s.awaited ≡ false
    told e = found-so ∙ ap (λ (v : Option ℕ). is_some v) e

    tells : (i : ℕ) → find (is_under l p m) (expected l) ≡ Some i → list_any (is_awaited m.token) s.awaited ≡ true
    tells i e = found-so ∙ ap (λ (v : Option ℕ). is_some v) e

    outstanding : (i : ℕ) → went_under p m.token (first_at l i) ≡ true → (o : Outstanding) (b : IsOut l p o) → (v : Option Outstanding) → v ≡ Some o
        → is_outstanding_under m.token v ≡ eqb i b.first.number
    outstanding i e o b None f = cc
    outstanding i e o b (Some w) f = ap (is_outstanding_under m.token) f ∙ (sym (out-under l p o b m.token) ∙ same-under l p i b.first.number m.token legal e)

    by : (e : Bool) → eqb m.code 0 ≡ e → (r : Bool) → leb 32 m.code ≡ r → (v : Option ℕ) → find (is_under l p m) (expected l) ≡ v
        → Judged l p s m (cond r v None)
        (cond e (record { reply = empties m.kind; remembered = true; ends = false; news = Quiet })
        (cond (r && list_any (is_awaited m.token) s.awaited)
        (record { reply = cond (is_rejected m) R.Rst (accepts m.kind); remembered = true; ends = is_outstanding_under m.token s.outstanding; news = Response })
        (record { reply = R.Rst; remembered = true; ends = false; news = Quiet })))
    by true e true f v g = absurd (false≢true (sym (empty-code m.code e) ∙ f))
    by true e false f v g = record {
      ends = λ o b h. refl;
      awaits = λ i token h k. refl;
      reply = rw (e) (vain-reply m.kind (is_rejected m) own);
      remembered = own-such m.kind own;
    }
    by false e false f v g = record {
      ends = λ o b h. refl;
      awaits = λ i token h k. refl;
      reply = rw (e) (unmatched-reply m.kind (is_rejected m) own);
      remembered = own-such m.kind own;
    }
    by false e true f None g = rw (told g) (record {
      ends = λ o b h. refl;
      awaits = λ i token h k. refl;
      reply = rw (e) (unmatched-reply m.kind (is_rejected m) own);
      remembered = own-such m.kind own;
    })
    by false e true f (Some i) g =
        let under = (find-some (is_under l p m) (expected l) i g).1 in
        rw (tells i g) (record {
          ends = λ o b h. outstanding i under o b s.outstanding h;
          awaits = λ j token h k. ends-under l p m i m.token legal (own-ends m.kind m.code own ∙ f) under j token k;
          reply = matched-reply m.kind (is_rejected m) (eqb m.code 0) own;
          remembered = own-such m.kind own;
        })
