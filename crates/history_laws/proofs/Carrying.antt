-- What a journal begins with that answers may rest on.
use Rattle.std.proofs.Common.{◌||◌, ◌≡◌, ℕ, ◌<◌, Bool, true, false, cond, eqb, inl, inr, List, [], ◌∷◌, ◌++◌, length, Option, Some, None, is_some, refl, sym, ap, subst, ◌∙◌, arith}
use Rattle.std.specs.List.{Contains, list_any}
use Rattle.std.specs.Str.{bytes_eq}
use Rattle.std.proofs.lemmas.Bool.Decides.{eqb_tells}
use Rattle.std.proofs.lemmas.Bool.{false≢true, and_parts, or_parts}
use Rattle.std.proofs.lemmas.Slice.Eq.{bytes_eq-Decides}
use Rattle.std.proofs.lemmas.List.Elements.{Contains-push_cases}
use Rattle.coap_codec.specs.Spelling.{Content, Spells}
use Rattle.coap_codec.specs.declared.block.Block.{Block}
use Rattle.uri_map.specs.declared.peer.Peer.{Peer}
use Rattle.uri_map.specs.Peers.{same_peer}
use Rattle.uri_map.proofs.CallerLemmas.{same_peer-same}
use Rattle.ask_model.specs.Requests.{CoapRequest, Sense, Requests, Refuses, Manner, asking}
use Rattle.ask_model.specs.Views.{Ask}
use Rattle.journal_book.specs.Entries.{Mark, Deed, Opens, Asks, Sends, Hears, Passes, Answers, Shuts, Seals, Carries}
use Rattle.journal_book.specs.Entries as D
use Rattle.history_laws.specs.Responses.{Response}
use Rattle.history_laws.specs.Readings.{Noted, Note, Begins, Renews, First, Recalls, Answered, carries, are_copies, at, before, noted, Says}
use Rattle.history_laws.specs.Progress.{Reply, Renewed}
use Rattle.history_laws.specs.Transmissions.{FirstSending, firsts}
use Rattle.history_laws.specs.Exchanges.{Begun, begun, begun_by, opens_by, kept_by, kept}
use Rattle.history_laws.specs.Hearing.{IsReplyKind}
use Rattle.history_laws.specs.Carrying.{asked_for, carried_by, carried, replied_by, is_replied_by, reply_to, carried_replies_by, carried_replies, CarriesSo}
use Rattle.resp_cache.specs.Stored.{Stored}
use Rattle.history_laws.specs.Storing.{IsAsHeard, IsBrought, IsRenewal, IsUnrenewed, IsStored}
use Rattle.history_laws.specs.Justified.{Ends as EndsAs, CopiedNote, RepliesToCopied, IsSentForCopied, IsApart, Follows, Legal}
use Rattle.history_laws.specs.Grounds.{IsCarriedReply, CarriedRepliesFit}
use Rattle.history_laws.proofs.Elements.{contains-none, find-some}
use Rattle.history_laws.proofs.Going.{ends-renewed}
use Rattle.history_laws.proofs.Kept.{kept-before}
use Rattle.history_laws.proofs.Facts.{at-before, eqb-itself, eqb-same, follows-at, length-before}
use Rattle.history_laws.proofs.Firsts.{all-listed}
use Rattle.history_laws.proofs.Places.{at-below, at-cases, at-keeps, at-new, at-old, at-same}
use Rattle.history_laws.proofs.Resting.{and-left, and-right, none-some, some-is}
use Rattle.history_laws.proofs.Sent.{begun-opening}

-- the copy of an ask
pub record CarriedAsk (l : List Noted) (o : ℕ) (b : Begun) : Type 0 where
  pub old : ℕ
  pub conn : ℕ
  pub ask : Ask
  pub note : Note
  pub stands : at l o ≡ Some (noted b.since (Carries old D.Ground (D.Asked conn ask)) note)
  pub sense : ask.sense ≡ Requests b.request

asked-keeps : (x : Noted) (l : List Noted) (o : ℕ) (b : Begun) → CarriedAsk l o b → CarriedAsk (x ∷ l) o b
asked-keeps x l o b h = record { old = h.old; conn = h.conn; ask = h.ask; note = h.note; stands = at-keeps x l o _ h.stands; sense = h.sense }

-- what such a copy is of
record IsCopyOf (d : Deed) (q : CoapRequest) : Type 0 where
  old : ℕ
  conn : ℕ
  ask : Ask
  is : d ≡ Carries old D.Ground (D.Asked conn ask)
  sense : ask.sense ≡ Requests q

copy-of : (d : Deed) (q : CoapRequest) → carried_by d ≡ Some q → IsCopyOf d q
copy-of (Carries k D.Ground (D.Asked c a)) q e = record { old = k; conn = c; ask = a; is = refl; sense = by a.sense refl e }
  where
    by : (s : Sense) → a.sense ≡ s → asked_for s ≡ Some q → a.sense ≡ Requests q
    by (Requests r) is f = is ∙ ap Requests (some-is r q f)
    by (Refuses cause status) is f = absurd (none-some q f)
copy-of d q e = cc

carried-step : (l : List Noted) (o t : ℕ) (d : Deed) (note : Note) (b : Begun) → (carried l o ≡ Some b → CarriedAsk l o b)
    → (asked : Option CoapRequest) → carried_by d ≡ asked → (here : Bool) → eqb (length l) o ≡ here
    → begun_by asked here t (carried l o) ≡ Some b → CarriedAsk (noted t d note ∷ l) o b
carried-step l o t d note b ih (Some q) is true same e =
    let made : record { since = t; request = q } ≡ b = some-is _ _ e in
    let it = copy-of d q is in
    let x : Noted = noted t (Carries it.old D.Ground (D.Asked it.conn it.ask)) note in
    let stands : at (noted t d note ∷ l) o ≡ Some x =
    subst (λ (o : ℕ). at (noted t d note ∷ l) o ≡ Some x) (eqb-same (length l) o same)
    (at-new (noted t d note) l ∙ ap (λ (e : Deed). Some (noted t e note)) it.is) in
    subst (CarriedAsk (noted t d note ∷ l) o) made (record { old = it.old; conn = it.conn; ask = it.ask; note = note; stands = stands; sense = it.sense })
carried-step l o t d note b ih (Some q) is false same e = asked-keeps (noted t d note) l o b (ih e)
carried-step l o t d note b ih None is true same e = asked-keeps (noted t d note) l o b (ih e)
carried-step l o t d note b ih None is false same e = asked-keeps (noted t d note) l o b (ih e)

pub carried-at : (l : List Noted) (o : ℕ) (b : Begun) → carried l o ≡ Some b → CarriedAsk l o b
carried-at [] o b e = cc
carried-at (x ∷ older) o b e =
    carried-step older o x.written.moment x.written.deed x.note b (carried-at older o b)
    (carried_by x.written.deed) refl (eqb (length older) o) refl e

pub carried-below : (l : List Noted) (o : ℕ) (b : Begun) → carried l o ≡ Some b → o < length l
carried-below l o b e = let h = carried-at l o b e in at-below l o _ h.stands

not-here : (asked : Option CoapRequest) (t : ℕ) (old : Option Begun) → begun_by asked false t old ≡ old
not-here None t old = refl
not-here (Some q) t old = refl

pub carried-keeps : (x : Noted) (l : List Noted) (o : ℕ) (b : Begun) → carried l o ≡ Some b → carried (x ∷ l) o ≡ Some b
carried-keeps x l o b e =
    let below = carried-below l o b e in
    elim (eqb_tells (length l) o) [
      | inl w ↦ let a = w.1 in absurd (omega (arith, a, below))
      | inr w ↦ rw (w.0) (not-here (carried_by x.written.deed) x.written.moment (carried l o) ∙ e)
    ]

-- what stands there is carried
pub at-carried : (l : List Noted) (o t k c : ℕ) (a : Ask) (q : CoapRequest) (note : Note) → at l o ≡ Some (noted t (Carries k D.Ground (D.Asked c a)) note)
    → a.sense ≡ Requests q → carried l o ≡ Some (record { since = t; request = q })
at-carried [] o t k c a q note e sense = cc
at-carried (x ∷ older) o t k c a q note e sense =
    elim (at-cases x older o) [
      | inl w ↦
          let copy : Noted = noted t (Carries k D.Ground (D.Asked c a)) note in
          let is : x ≡ copy = some-is _ _ (sym w.1 ∙ e) in
          let made : carried (copy ∷ older) (length older) ≡ Some (record { since = t; request = q }) =
          rw (eqb-itself (length older)) (ap (λ (s : Sense). begun_by (asked_for s) true t (carried older (length older))) sense) in
          subst (λ (x : Noted). carried (x ∷ older) o ≡ Some (record { since = t; request = q })) (sym is)
          (subst (λ (o : ℕ). carried (copy ∷ older) o ≡ Some (record { since = t; request = q })) (sym w.0) made)
      | inr w ↦ carried-keeps x older o _ (at-carried older o t k c a q note (sym w.1 ∙ e) sense)
    ]

pub carried-before : (l : List Noted) (n o : ℕ) (b : Begun) → carried (before l n) o ≡ Some b → carried l o ≡ Some b
carried-before l n o b e =
    let h = carried-at (before l n) o b e in
    at-carried l o b.since h.old h.conn h.ask b.request h.note (at-before l n o _ h.stands) h.sense

-- An exchange of the journal isn't one of those.
pub begun-uncarried : (l : List Noted) (o : ℕ) (b c : Begun) → Legal l → carried l o ≡ Some b → begun l o ≡ Some c → ⊥
begun-uncarried l o b c legal e f =
    let h = carried-at l o b e in
    let g = begun-opening l o c f in
    let note = ap (λ (x : Noted). x.note) (at-same l o _ _ h.stands g.2) in
    let may : Follows (before l o) b.since (Carries h.old D.Ground (D.Asked h.conn h.ask)) h.note = follows-at l o _ legal h.stands in
    never (before l o) b.since h.conn h.ask g.1 c.request g.3 (subst (λ (v : Note). CopiedNote (before l o) b.since D.Ground (D.Asked h.conn h.ask) v) note may.2)
  where
    never : (l : List Noted) (t c : ℕ) (a : Ask) (note : Note) (q : CoapRequest) → opens_by note ≡ Some q → CopiedNote l t D.Ground (D.Asked c a) note → ⊥
    never l t c a (Begins r) q e h = h
    never l t c a (Renews r s) q e h = h
    never l t c a (Says m to notice) q e h = h
    never l t c a note q e h = cc

-- An entry of the journal's own copies nothing.

own-ask : (d : Deed) → carries d ≡ false → carried_by d ≡ None
own-ask (Carries k mark done) own = absurd (false≢true (sym own))
own-ask d own = refl

pub carried-own : (x : Noted) (l : List Noted) (o : ℕ) → carries x.written.deed ≡ false → carried (x ∷ l) o ≡ carried l o
carried-own x l o own = ap (λ (q : Option CoapRequest). begun_by q (eqb (length l) o) x.written.moment (carried l o)) (own-ask x.written.deed own)

own-replies : (l : List Noted) (o : ℕ) (d : Deed) (note : Note) (old : List Reply) → carries d ≡ false → carried_replies_by l o d note old ≡ old
own-replies l o (Carries k mark done) note old own = absurd (false≢true (sym own))
own-replies l o d note old own = refl

pub carried-replies-own : (x : Noted) (l : List Noted) (o : ℕ) → carries x.written.deed ≡ false → carried_replies (x ∷ l) o ≡ carried_replies l o
carried-replies-own x l o own = own-replies l o x.written.deed x.note (carried_replies l o) own

pub carries-keeps : (x : Noted) (l : List Noted) (o : ℕ) (w : Response) (rs : List Reply) → carries x.written.deed ≡ false → CarriesSo l o w rs → CarriesSo (x ∷ l) o w rs
carries-keeps x l o w rs own h = record {
  exchange = h.exchange;
  asked = carried-own x l o own ∙ h.asked;
  get = h.get;
  replies = carried-replies-own x l o own ∙ h.replies;
  whole = h.whole;
}

pub carries-back : (x : Noted) (l : List Noted) (o : ℕ) (w : Response) (rs : List Reply) → carries x.written.deed ≡ false → CarriesSo (x ∷ l) o w rs → CarriesSo l o w rs
carries-back x l o w rs own h = record {
  exchange = h.exchange;
  asked = sym (carried-own x l o own) ∙ h.asked;
  get = h.get;
  replies = sym (carried-replies-own x l o own) ∙ h.replies;
  whole = h.whole;
}

-- Only copies stand before a copy, and nothing but the journal's own after an entry of that.

pub copy-at : (l : List Noted) (n : ℕ) (x : Noted) → are_copies l ≡ true → at l n ≡ Some x → carries x.written.deed ≡ true
copy-at [] n x all e = cc
copy-at (y ∷ older) n x all e = elim (at-old y older n x e) [
  | inl w ↦ ap (λ (v : Noted). carries v.written.deed) (sym w.1) ∙ and-left (carries y.written.deed) _ all
  | inr w ↦ copy-at older n x (and-right (carries y.written.deed) _ all) w
]

-- the copy of a message that was sent for such an ask
pub record Backs (l : List Noted) (f : FirstSending) (b : Begun) : Type 0 where
  pub manner : Manner
  pub block : Option Block
  pub old : ℕ
  pub text : List ℕ
  pub timeout : Option ℕ
  pub stands : at l f.number ≡ Some (noted f.moment (Carries old D.Ground (D.Sent f.peer text timeout)) (First f.opening f.message))
  pub spelled : Spells f.message text
  pub peer : f.peer ≡ b.request.peer
  pub asks : f.message ≡ asking manner b.request block f.message.mid f.message.token
  pub opened : f.opening < f.number

pub backs : (l : List Noted) (f : FirstSending) (b : Begun) → Legal l → Contains (firsts l) f → carried l f.opening ≡ Some b → are_copies l ≡ true → Backs l f b
backs l f b legal has e all = elim (all-listed l f has) [
  | inl own ↦ absurd (false≢true (copy-at l f.number _ all own.stands))
  | inr copy ↦ elim copy.own [
    | inl w ↦
        let ask = carried-at l f.opening b e in
        absurd (apart _ _ _ _ _ _ _ _ _ _ _ _ _ (at-same l f.number _ _ copy.stands (subst (λ (n : ℕ). at l n ≡ Some (noted b.since (Carries ask.old D.Ground (D.Asked ask.conn ask.ask)) ask.note)) w.1 ask.stands)))
    | inr w ↦
        let stands : at l f.number ≡ Some (noted f.moment (Carries copy.old copy.mark (D.Sent f.peer copy.bytes copy.timeout)) (First f.opening f.message)) =
        subst (λ (note : Note). at l f.number ≡ Some (noted f.moment (Carries copy.old copy.mark (D.Sent f.peer copy.bytes copy.timeout)) note)) w copy.stands in
        by copy.mark copy.old copy.bytes copy.timeout stands (follows-at l f.number _ legal stands).2
  ]
]
  where
    apart : (s t j k c : ℕ) (mark : Mark) (p : Peer) (bytes : List ℕ) (w : Option ℕ) (a : Ask) (u v : Note) (other : Mark)
        → noted s (Carries j mark (D.Sent p bytes w)) u ≡ noted t (Carries k other (D.Asked c a)) v → ⊥
    apart s t j k c mark p bytes w a u v other e = go (ap (λ (x : Noted). x.written.deed) e)
      where
        go : Carries j mark (D.Sent p bytes w) ≡ Carries k other (D.Asked c a) → ⊥
        go h = cc

    by : (mark : Mark) (old : ℕ) (text : List ℕ) (w : Option ℕ) → at l f.number ≡ Some (noted f.moment (Carries old mark (D.Sent f.peer text w)) (First f.opening f.message))
        → CopiedNote (before l f.number) f.moment mark (D.Sent f.peer text w) (First f.opening f.message) → Backs l f b
    by D.Past old text w stands h = absurd h
    by D.Ground old text w stands h =
        let apart : IsApart (before l f.number) f.moment f.peer text f.message w = h.0 in
        let sent : IsSentForCopied (before l f.number) f.opening f.peer f.message = h.1 in
        let same : sent.exchange ≡ b = some-is _ _ (sym (carried-before l f.number f.opening sent.exchange sent.asked) ∙ e) in
        let below = carried-below (before l f.number) f.opening sent.exchange sent.asked in
        let size = length-before l f.number _ stands in
        record {
          manner = sent.manner;
          block = sent.block;
          old = old;
          text = text;
          timeout = w;
          stands = stands;
          spelled = apart.spelled;
          peer = sent.peer ∙ ap (λ (c : Begun). c.request.peer) same;
          asks = subst (λ (c : Begun). f.message ≡ asking sent.manner c.request sent.block f.message.mid f.message.token) same sent.asks;
          opened = omega (arith, below, size);
        }

-- Each reply that is carried came to such a message.

abbrev Fits : List Noted → ℕ → Reply → Type 0
Fits l o r = (b : Begun) × (carried l o ≡ Some b) × IsCarriedReply l o b.request r

fits-keeps : (x : Noted) (l : List Noted) (o : ℕ) (r : Reply) → Fits l o r → Fits (x ∷ l) o r
fits-keeps x l o r (b, asked, h) = (
  b,
  carried-keeps x l o b asked,
  record {
    manner = h.manner;
    block = h.block;
    mid = h.mid;
    sent_at = h.sent_at;
    old = h.old;
    text = h.text;
    timeout = h.timeout;
    sent = at-keeps x l r.sending _ h.sent;
    asks = h.asks;
    opened = h.opened;
    moment = h.moment;
    number = h.number;
    bytes = h.bytes;
    answer = h.answer;
    heard = at-keeps x l r.number _ h.heard;
    spelled = h.spelled;
    after = h.after;
    response = h.response;
    kind = h.kind;
  },
)

-- The newest entry is the copy of a reply.
fits-new : (l : List Noted) (t k o : ℕ) (p : Peer) (bytes : List ℕ) (m : Content) (a : Answered) (f : FirstSending) → Legal l → are_copies l ≡ true
    → RepliesToCopied l t p bytes m → replied_by l p m ≡ Some f → f.opening ≡ o
    → Fits (noted t (Carries k D.Ground (D.Heard p bytes)) (Recalls m a) ∷ l) o (record { number = length l; sending = f.number; message = m })
fits-new l t k o p bytes m a f legal all may is same = subst (λ (n : ℕ). Fits (noted t (Carries k D.Ground (D.Heard p bytes)) (Recalls m a) ∷ l) n (record { number = length l; sending = f.number; message = m })) same (made f may.first (some-is _ _ (sym is ∙ may.under)) is may.kind may.exchange may.asked)
  where
    made : (g h : FirstSending) → g ≡ h → replied_by l p m ≡ Some g → IsReplyKind m.kind m.mid h.message.mid → (b : Begun) → carried l h.opening ≡ Some b
        → Fits (noted t (Carries k D.Ground (D.Heard p bytes)) (Recalls m a) ∷ l) g.opening (record { number = length l; sending = g.number; message = m })
    made g h same found kind b asked =
        let x : Noted = noted t (Carries k D.Ground (D.Heard p bytes)) (Recalls m a) in
        let it = find-some (is_replied_by p m) (firsts l) g found in
        let here : carried l g.opening ≡ Some b = subst (λ (v : FirstSending). carried l v.opening ≡ Some b) (sym same) asked in
        let copy = backs l g b legal it.0 here all in
        let parts = and_parts (same_peer g.peer p) (bytes_eq g.message.token m.token) it.1 in
        let peer : p ≡ b.request.peer = sym (same_peer-same g.peer p parts.0) ∙ copy.peer in
        let token : g.message.token ≡ m.token = (bytes_eq-Decides g.message.token m.token).0 parts.1 in
        let asks : g.message ≡ asking copy.manner b.request copy.block g.message.mid m.token =
        copy.asks ∙ ap (λ (v : List ℕ). asking copy.manner b.request copy.block g.message.mid v) token in
        let below = at-below l g.number _ copy.stands in (
          b,
          carried-keeps x l g.opening b here,
          record {
            manner = copy.manner;
            block = copy.block;
            mid = g.message.mid;
            sent_at = g.moment;
            old = copy.old;
            text = copy.text;
            timeout = copy.timeout;
            sent = at-keeps x l g.number _
                (subst (λ (v : Peer). at l g.number ≡ Some (noted g.moment (Carries copy.old D.Ground (D.Sent v copy.text copy.timeout)) (First g.opening (asking copy.manner b.request copy.block g.message.mid m.token)))) copy.peer
                (subst (λ (v : Content). at l g.number ≡ Some (noted g.moment (Carries copy.old D.Ground (D.Sent g.peer copy.text copy.timeout)) (First g.opening v))) asks copy.stands));
            asks = subst (λ (v : Content). Spells v copy.text) asks copy.spelled;
            opened = copy.opened;
            moment = t;
            number = k;
            bytes = bytes;
            answer = a;
            heard = at-new x l ∙ ap (λ (v : Peer). Some (noted t (Carries k D.Ground (D.Heard v bytes)) (Recalls m a))) peer;
            spelled = may.spelled;
            after = below;
            response = may.response;
            kind = subst (λ (v : FirstSending). IsReplyKind m.kind m.mid v.message.mid) (sym same) kind;
          },
        )

fits-step : (l : List Noted) (t o : ℕ) (d : Deed) (note : Note) (r : Reply) → Legal l → Follows l t d note → (Contains (carried_replies l o) r → Fits l o r)
    → Contains (carried_replies_by l o d note (carried_replies l o)) r → Fits (noted t d note ∷ l) o r
fits-step l t o (Carries k D.Ground (D.Heard p bytes)) (Recalls m a) r legal may ih has = by (replied_by l p m) refl has
  where
    by : (v : Option FirstSending) → replied_by l p m ≡ v → Contains (reply_to o (length l) m v (carried_replies l o)) r → Fits (noted t (Carries k D.Ground (D.Heard p bytes)) (Recalls m a) ∷ l) o r
    by None is h = fits-keeps (noted t (Carries k D.Ground (D.Heard p bytes)) (Recalls m a)) l o r (ih h)
    by (Some f) is h = there (eqb f.opening o) refl h
      where
        there : (c : Bool) → eqb f.opening o ≡ c
            → Contains (cond c (carried_replies l o ++ record { number = length l; sending = f.number; message = m } ∷ []) (carried_replies l o)) r → Fits (noted t (Carries k D.Ground (D.Heard p bytes)) (Recalls m a) ∷ l) o r
        there false other g = fits-keeps (noted t (Carries k D.Ground (D.Heard p bytes)) (Recalls m a)) l o r (ih g)
        there true same g = elim (Contains-push_cases (carried_replies l o) (record { number = length l; sending = f.number; message = m }) r g) [
          | inl w ↦ fits-keeps (noted t (Carries k D.Ground (D.Heard p bytes)) (Recalls m a)) l o r (ih w)
          | inr w ↦ subst (Fits (noted t (Carries k D.Ground (D.Heard p bytes)) (Recalls m a) ∷ l) o) w (fits-new l t k o p bytes m a f legal may.0 may.2 is (eqb-same f.opening o same))
        ]
fits-step l t o d note r legal may ih has = fits-keeps (noted t d note) l o r (ih has)

pub carried-reply : (l : List Noted) (o : ℕ) (r : Reply) → Legal l → Contains (carried_replies l o) r → (b : Begun) × (carried l o ≡ Some b) × IsCarriedReply l o b.request r
carried-reply [] o r legal has = absurd (none has)
  where
    none : Contains [] r → ⊥
    none h = contains-none r h
carried-reply (x ∷ older) o r legal has = fits-step older x.written.moment o x.written.deed x.note r legal.0 legal.2 (carried-reply older o r legal.0) has

pub reply-before : (l : List Noted) (k o : ℕ) (q : CoapRequest) (r : Reply) → IsCarriedReply (before l k) o q r → IsCarriedReply l o q r
reply-before l k o q r h = record {
  manner = h.manner;
  block = h.block;
  mid = h.mid;
  sent_at = h.sent_at;
  old = h.old;
  text = h.text;
  timeout = h.timeout;
  sent = at-before l k r.sending _ h.sent;
  asks = h.asks;
  opened = h.opened;
  moment = h.moment;
  number = h.number;
  bytes = h.bytes;
  answer = h.answer;
  heard = at-before l k r.number _ h.heard;
  spelled = h.spelled;
  after = h.after;
  response = h.response;
  kind = h.kind;
}

pub carried-fit : CarriedRepliesFit
carried-fit l o b r legal asked has =
    let it = carried-reply l o r legal has in
    subst (λ (c : Begun). IsCarriedReply l o c.request r) (some-is _ _ (sym it.1 ∙ asked)) it.2

-- Where nothing is carried, nothing of that kind is stored.
abbrev pub is-carried : Noted → Bool
is-carried x = is_some (carried_by x.written.deed)

abbrev pub has-carried : List Noted → Bool
has-carried l = list_any is-carried l

pub none-carried : (l : List Noted) (o : ℕ) → has-carried l ≡ false → carried l o ≡ None
none-carried [] o none = refl
none-carried (x ∷ older) o none =
    let both = or_parts (is-carried x) (has-carried older) none in
    by (carried_by x.written.deed) both.0 (none-carried older o both.1)
  where
    by : (v : Option CoapRequest) → is_some v ≡ false → carried older o ≡ None → begun_by v (eqb (length older) o) x.written.moment (carried older o) ≡ None
    by None e ih = ih
    by (Some q) e ih = absurd (false≢true (sym e))

pub no-carried : (l : List Noted) (o : ℕ) (w : Response) (rs : List Reply) → has-carried l ≡ false → CarriesSo l o w rs → ⊥
no-carried l o w rs none h = none-some h.exchange (sym (none-carried l o none) ∙ h.asked)

-- Where nothing is kept, nothing is renewed.
abbrev pub is-renewing : Noted → Bool
is-renewing x = is_some (kept_by x.note)

abbrev pub has-renewing : List Noted → Bool
has-renewing l = list_any is-renewing l

pub none-kept : (l : List Noted) (o : ℕ) → has-renewing l ≡ false → kept l o ≡ None
none-kept [] o none = refl
none-kept (x ∷ older) o none =
    let both = or_parts (is-renewing x) (has-renewing older) none in
    by (eqb (length older) o) (kept_by x.note) both.0 (none-kept older o both.1)
  where
    by : (b : Bool) (v : Option Stored) → is_some v ≡ false → kept older o ≡ None → cond b v (kept older o) ≡ None
    by true None e ih = refl
    by true (Some s) e ih = absurd (false≢true (sym e))
    by false v e ih = ih

pub no-renewed : (l : List Noted) (o e : ℕ) (s : Stored) (r : Reply) → has-renewing l ≡ false → EndsAs l o e (Renewed s r) → ⊥
no-renewed l o e s r none h =
    let it = ends-renewed l o e s r h in
    let keeps = kept-before l e o s it.turned.keeps in
    none-some s (sym (none-kept l o none) ∙ keeps)

pub no-renewal : (l : List Noted) (q : CoapRequest) (e : ℕ) → has-renewing l ≡ false → IsRenewal l q e → ⊥
no-renewal l q e none h = no-renewed l h.opening e h.kept h.reply none h.ended

pub heard-of : (l : List Noted) (q : CoapRequest) (s : Stored) → IsUnrenewed l q s → IsAsHeard l q s
heard-of l q s (inl it) = inl it.0
heard-of l q s (inr it) = inr it.0

pub as-heard : (l : List Noted) (q : CoapRequest) (s : Stored) → has-renewing l ≡ false → IsStored l q s → IsAsHeard l q s
as-heard l q s none (inl it) = heard-of l q s it
as-heard l q s none (inr it) = absurd (no-renewal l q it.ending none it.renewal)

pub uncarried : (l : List Noted) (q : CoapRequest) (s : Stored) → (has-carried l || has-renewing l) ≡ false → IsStored l q s → IsBrought l q s
uncarried l q s none is = by (as-heard l q s (or_parts (has-carried l) (has-renewing l) none).1 is)
  where
    by : IsAsHeard l q s → IsBrought l q s
    by (inl it) = it
    by (inr it) = absurd (no-carried l it.opening s.response (it.first ∷ it.more) (or_parts (has-carried l) (has-renewing l) none).0 it.carries)

-- what is as it was heard where nothing is renewed
pub unrenewed-stored : (l : List Noted) (q : CoapRequest) (s : Stored) → has-renewing l ≡ false → IsAsHeard l q s → IsStored l q s
unrenewed-stored l q s none (inl it) = inl (inl (it, λ e h. absurd (no-renewal l q e none h)))
unrenewed-stored l q s none (inr it) = inl (inr (it, λ e h. absurd (no-renewal l q e none h)))
