-- The replies to an exchange: each came to a first sending of it, after that, and is no repeat.
use Rattle.std.proofs.Common.{◌≡◌, ℕ, Bool, true, false, ◌&&◌, eqb, leb, inl, inr, List, [], ◌∷◌, ◌++◌, length, Option, Some, None, refl, sym, ap, subst, ◌∙◌}
use Rattle.std.specs.List.{Contains}
use Rattle.std.specs.Str.{bytes_eq}
use Rattle.std.proofs.lemmas.List.Elements.{Contains-push_cases}
use Rattle.std.proofs.lemmas.Bool.Decides.{leb_tells}
use Rattle.std.proofs.lemmas.Bool.{false≢true, and_parts}
use Rattle.std.proofs.lemmas.Slice.Eq.{bytes_eq-Decides}
use Rattle.coap_codec.specs.declared.message.MsgType.{MsgType}
use Rattle.coap_codec.specs.declared.message.MsgType.TheVariants.{Con, Non, Ack, Rst}
use Rattle.coap_codec.specs.Spelling.{Content}
use Rattle.uri_map.specs.declared.peer.Peer.{Peer}
use Rattle.uri_map.specs.Peers.{same_peer}
use Rattle.uri_map.proofs.CallerLemmas.{same_peer-same}
use Rattle.journal_book.specs.Entries.{Hears}
use Rattle.history_laws.specs.Readings.{Noted, Says, Notice}
use Rattle.history_laws.specs.Progress.{Reply}
use Rattle.history_laws.specs.Transmissions.{FirstSending, first_at}
use Rattle.history_laws.specs.Exchanges.{Turn, Nothing, Sent, Replied, Rejected, Expired, turn, replies_by, replies, awaited}
use Rattle.history_laws.specs.Hearing.{went_under, went_as, is_under, is_as, open_at, expected, answers_by, answers}
use Rattle.history_laws.specs.Justified.{Follows, Legal, MaySay}
use Rattle.history_laws.specs.Hearing.{IsReplyKind}
use Rattle.history_laws.specs.Laws.{IsFirst, IsReplyTo}
use Rattle.history_laws.proofs.Places.{at-new, at-keeps, at-below, before-keeps, before-new}
use Rattle.history_laws.proofs.Facts.{IsFirst-keeps, IsFirst-below, eqb-same}
use Rattle.history_laws.proofs.Elements.{contains-none, find-some}
use Rattle.history_laws.proofs.Firsts.{first-is}
use Rattle.history_laws.proofs.Turns.{NotRst, ReplyTurn, turn-replied, waits-first}

-- what a response answers went to its peer under its token, and with its ID where that is an ACK's
abbrev Under : MsgType → List Noted → Peer → Content → ℕ → Type 0
Under Ack l p m i = (is_under l p m i ≡ true) × (is_as l p m i ≡ true)
Under _ l p m i = is_under l p m i ≡ true

answered-under : (l : List Noted) (p : Peer) (m : Content) (i : ℕ) (k : MsgType) (vain : Bool) → NotRst k → answers_by l p m k vain true ≡ Some i
    → Under k l p m i
answered-under l p m i Con true not e = (find-some (is_under l p m) (expected l) i e).1
answered-under l p m i Con false not e = (find-some (is_under l p m) (expected l) i e).1
answered-under l p m i Non true not e = (find-some (is_under l p m) (expected l) i e).1
answered-under l p m i Non false not e = (find-some (is_under l p m) (expected l) i e).1
answered-under l p m i Ack true not e =
    and_parts (is_under l p m i) (is_as l p m i) (find-some (λ (i : ℕ). is_under l p m i && is_as l p m i) (awaited l ++ open_at l p) i e).1
answered-under l p m i Ack false not e =
    and_parts (is_under l p m i) (is_as l p m i) (find-some (λ (i : ℕ). is_under l p m i && is_as l p m i) (awaited l ++ open_at l p) i e).1
answered-under l p m i Rst vain not e = absurd not

-- the first sending that it went to
pub record Found (l : List Noted) (p : Peer) (m : Content) (i : ℕ) : Type 0 where
  pub first : FirstSending
  pub is : first_at l i ≡ Some first
  pub peer : first.peer ≡ p
  pub token : first.message.token ≡ m.token
  pub kind : IsReplyKind m.kind m.mid first.message.mid

found-under : (l : List Noted) (p : Peer) (m : Content) (i : ℕ) → is_under l p m i ≡ true
    → (f : FirstSending) × (first_at l i ≡ Some f) × (f.peer ≡ p) × (f.message.token ≡ m.token)
found-under l p m i e = go (first_at l i) refl e
  where
    go : (o : Option FirstSending) → first_at l i ≡ o → went_under p m.token o ≡ true
        → (f : FirstSending) × (first_at l i ≡ Some f) × (f.peer ≡ p) × (f.message.token ≡ m.token)
    go None is h = absurd (false≢true h)
    go (Some f) is h =
        let both = and_parts (same_peer f.peer p) (bytes_eq f.message.token m.token) h in
        (f, is, same_peer-same f.peer p both.0, (bytes_eq-Decides f.message.token m.token).0 both.1)

found-as : (l : List Noted) (p : Peer) (m : Content) (i : ℕ) (f : FirstSending) → first_at l i ≡ Some f → is_as l p m i ≡ true → f.message.mid ≡ m.mid
found-as l p m i f is e =
    let h : went_as p m.mid (Some f) ≡ true = subst (λ (o : Option FirstSending). went_as p m.mid o ≡ true) is e in
    eqb-same f.message.mid m.mid (and_parts (same_peer f.peer p) (eqb f.message.mid m.mid) h).1

found-kind : (l : List Noted) (p : Peer) (m : Content) (i : ℕ) (k : MsgType) → m.kind ≡ k → NotRst k → Under k l p m i → Found l p m i
found-kind l p m i Con is not h =
    let f = found-under l p m i h in
    record { first = f.0; is = f.1; peer = f.2; token = f.3; kind = subst (λ (k : MsgType). IsReplyKind k m.mid f.0.message.mid) (sym is) tt }
found-kind l p m i Non is not h =
    let f = found-under l p m i h in
    record { first = f.0; is = f.1; peer = f.2; token = f.3; kind = subst (λ (k : MsgType). IsReplyKind k m.mid f.0.message.mid) (sym is) tt }
found-kind l p m i Ack is not h =
    let f = found-under l p m i h.0 in
    let mid = found-as l p m i f.0 f.1 h.1 in
    record { first = f.0; is = f.1; peer = f.2; token = f.3; kind = subst (λ (k : MsgType). IsReplyKind k m.mid f.0.message.mid) (sym is) (sym mid) }
found-kind l p m i Rst is not h = absurd not

pub found : (l : List Noted) (p : Peer) (m : Content) (i : ℕ) → leb 32 m.code ≡ true → NotRst m.kind → answers l p m ≡ Some i → Found l p m i
found l p m i response not e =
    let by : answers_by l p m m.kind (eqb m.code 0) true ≡ Some i =
    subst (λ (b : Bool). answers_by l p m m.kind (eqb m.code 0) b ≡ Some i) response e in
    found-kind l p m i m.kind refl not (answered-under l p m i m.kind (eqb m.code 0) not by)

says-to : (m : Content) (i : Option ℕ) (j : Option ℕ) (u v : Notice) → Says m i u ≡ Says m j v → i ≡ j
says-to m i j u v e = cc

pub IsReplyTo-keeps : (x : Noted) (l : List Noted) (o : ℕ) (r : Reply) → IsReplyTo l o r → IsReplyTo (x ∷ l) o r
IsReplyTo-keeps x l o r h =
    record {
      peer = h.peer;
      sent = h.sent;
      sent_at = h.sent_at;
      first = IsFirst-keeps x l _ o _ _ _ h.first;
      moment = h.moment;
      bytes = h.bytes;
      notice = h.notice;
      heard = at-keeps x l _ _ h.heard;
      spelled = h.spelled;
      after = h.after;
      token = h.token;
      response = h.response;
      kind = h.kind;
      unheard = rw (before-keeps x l r.number (at-below l r.number _ h.heard)) (h.unheard);
    }

reply-new : (x : Noted) (l : List Noted) (o i : ℕ) (m : Content) (place : Bool) → Follows l x.written.moment x.written.deed x.note
    → ReplyTurn l o x i m place → IsReplyTo (x ∷ l) o (record { number = length l; sending = i; message = m })
reply-new x l o i m place may h =
    let t = x.written.moment in
    let follows : Follows l t (Hears h.peer h.bytes) (Says m (Some i) h.notice) =
    subst (λ (v : Noted). Follows l v.written.moment v.written.deed v.note) h.entry may in
    let says : MaySay l t h.peer h.bytes (Says m (Some i) h.notice) m = follows.3 in
    let f = found l h.peer m i h.response h.kind (sym (says-to m _ _ _ _ says.says)) in
    let waits = waits-first l o i h.waited in
    let is = first-is l waits.0 o i waits.1 waits.2 f.first waits.3 f.is in
    let own : IsFirst l f.first.moment o i f.first.peer f.first.message =
    subst (λ (g : FirstSending). IsFirst l g.moment o i g.peer g.message) (sym is) waits.3 in
    let to_it : IsFirst l f.first.moment o i h.peer f.first.message =
    subst (λ (p : Peer). IsFirst l f.first.moment o i p f.first.message) f.peer own in
    record {
      peer = h.peer;
      sent = f.first.message;
      sent_at = f.first.moment;
      first = IsFirst-keeps x l _ o i _ _ to_it;
      moment = t;
      bytes = h.bytes;
      notice = h.notice;
      heard = at-new x l ∙ ap (λ (v : Noted). Some v) h.entry;
      spelled = says.spelled;
      after = IsFirst-below l _ o i _ _ to_it;
      token = sym f.token;
      response = elim (leb_tells 32 m.code) [ inl v ↦ v.1 | inr v ↦ absurd (false≢true (sym v.0 ∙ h.response)) ];
      kind = f.kind;
      unheard = rw (before-new x l) (says.unheard);
    }

replies-step : (x : Noted) (l : List Noted) (o : ℕ) (r : Reply) → Follows l x.written.moment x.written.deed x.note
    → (Contains (replies l o) r → IsReplyTo l o r)
    → (u : Turn) → turn l o x ≡ u → Contains (replies_by (length l) u (replies l o)) r → IsReplyTo (x ∷ l) o r
replies-step x l o r may ih (Replied i m place) w h =
    elim (Contains-push_cases (replies l o) _ r h) [
      | inl old ↦ IsReplyTo-keeps x l o r (ih old)
      | inr new ↦ subst (IsReplyTo (x ∷ l) o) new (reply-new x l o i m place may (turn-replied l o x i m place w))
    ]
replies-step x l o r may ih Nothing w h = IsReplyTo-keeps x l o r (ih h)
replies-step x l o r may ih (Sent i) w h = IsReplyTo-keeps x l o r (ih h)
replies-step x l o r may ih Rejected w h = IsReplyTo-keeps x l o r (ih h)
replies-step x l o r may ih Expired w h = IsReplyTo-keeps x l o r (ih h)

pub replies-fit : (l : List Noted) (o : ℕ) (r : Reply) → Legal l → Contains (replies l o) r → IsReplyTo l o r
replies-fit [] o r legal h = absurd (contains-none r h)
replies-fit (x ∷ older) o r legal h =
    replies-step x older o r legal.2 (replies-fit older o r legal.0) (turn older o x) refl h
