-- What an entry is to an exchange: what sends, and what replies.
use Rattle.std.proofs.Common.{◌≡◌, ℕ, Bool, true, false, cond, eqb, leb, inl, inr, List, [], ◌∷◌, length, Option, Some, None, refl, sym, ap, subst, ◌∙◌}
use Rattle.std.specs.Prelude.{⊤}
use Rattle.std.proofs.lemmas.Bool.Decides.{eqb_tells}
use Rattle.coap_codec.specs.declared.message.MsgType.{MsgType}
use Rattle.coap_codec.specs.declared.message.MsgType.TheVariants.{Con, Non, Ack, Rst}
use Rattle.coap_codec.specs.Spelling.{Content}
use Rattle.uri_map.specs.declared.peer.Peer.{Peer}
use Rattle.journal_book.specs.Entries.{Deed, Sends, Hears, Passes}
use Rattle.history_laws.specs.Readings.{Noted, Note, First, Says, Notice, noted}
use Rattle.history_laws.specs.Exchanges.{Turn, Nothing, Sent, Replied, Rejected, Expired, expires, answered_by, heard_turn, turn_by, turn, waits_by, waits_for}
use Rattle.history_laws.specs.Laws.{IsFirst}
use Rattle.history_laws.proofs.Places.{at-new}
use Rattle.history_laws.proofs.Facts.{IsFirst-keeps}
use Rattle.history_laws.proofs.Resting.{some-is}

abbrev pub NotRst : MsgType → Type 0
NotRst Rst = ⊥
NotRst _ = ⊤

-- a response answers a first sending that waits
pub record Answering (i : ℕ) (m : Content) (place : Bool) (j : ℕ) (n : Content) (found : Bool) : Type 0 where
  pub sending : i ≡ j
  pub message : m ≡ n
  pub room : place ≡ found
  pub response : leb 32 m.code ≡ true
  pub kind : NotRst m.kind

replied-same : (i j : ℕ) (m n : Content) (b c : Bool) → Replied i m b ≡ Replied j n c → (i ≡ j) × (m ≡ n) × (b ≡ c)
replied-same i j m n b c e = (cc, cc, cc)

replied-by : (i : ℕ) (m : Content) (place b : Bool) → leb 32 m.code ≡ b → NotRst m.kind → (j : ℕ) (n : Content) (found : Bool)
    → cond b (Replied i m place) Nothing ≡ Replied j n found → Answering i m place j n found
replied-by i m place true is kind j n found e =
    let same = replied-same i j m n place found e in
    record { sending = same.0; message = same.1; room = same.2; response = is; kind = kind }
replied-by i m place false is kind j n found e = cc

answered-reply : (i : ℕ) (m : Content) (place : Bool) (k : MsgType) → m.kind ≡ k → (j : ℕ) (n : Content) (found : Bool)
    → answered_by i m place k ≡ Replied j n found → Answering i m place j n found
answered-reply i m place Con is j n found e = replied-by i m place (leb 32 m.code) refl (subst NotRst (sym is) tt) j n found e
answered-reply i m place Non is j n found e = replied-by i m place (leb 32 m.code) refl (subst NotRst (sym is) tt) j n found e
answered-reply i m place Ack is j n found e = replied-by i m place (leb 32 m.code) refl (subst NotRst (sym is) tt) j n found e
answered-reply i m place Rst is j n found e = cc

sends-not : (i : ℕ) (m : Content) (place b : Bool) (j : ℕ) → cond b (Replied i m place) Nothing ≡ Sent j → ⊥
sends-not i m place true j e = cc
sends-not i m place false j e = cc

answered-sends : (i : ℕ) (m : Content) (place : Bool) (k : MsgType) (j : ℕ) → answered_by i m place k ≡ Sent j → ⊥
answered-sends i m place Con j e = sends-not i m place (leb 32 m.code) j e
answered-sends i m place Non j e = sends-not i m place (leb 32 m.code) j e
answered-sends i m place Ack j e = sends-not i m place (leb 32 m.code) j e
answered-sends i m place Rst j e = cc

nothing-sends : (j : ℕ) → Nothing ≡ Sent j → ⊥
nothing-sends j e = cc

nothing-replies : (j : ℕ) (n : Content) (found : Bool) → Nothing ≡ Replied j n found → ⊥
nothing-replies j n found e = cc

pub heard-sends : (i : ℕ) (m : Content) (place : Bool) (waits : Option ℕ) (j : ℕ) → heard_turn i m place waits ≡ Sent j → ⊥
heard-sends i m place None j e = cc
heard-sends i m place (Some w) j e =
    elim (eqb_tells w i) [
      | inl u ↦ answered-sends i m place m.kind j (rw (u.0) at e)
      | inr u ↦ nothing-sends j (rw (u.0) at e)
    ]

-- a turn that sends
pub record SentTurn (l : List Noted) (o : ℕ) (x : Noted) (i : ℕ) : Type 0 where
  pub peer : Peer
  pub bytes : List ℕ
  pub timeout : Option ℕ
  pub message : Content
  pub entry : x ≡ noted x.written.moment (Sends peer bytes timeout) (First o message)
  pub here : length l ≡ i

expired-not : (b : Bool) (j : ℕ) → cond b Expired Nothing ≡ Sent j → ⊥
expired-not true j e = cc
expired-not false j e = cc

sent-step : (l : List Noted) (o t : ℕ) (d : Deed) (note : Note) (waits : Option ℕ) (i : ℕ) → turn_by l o t d note waits ≡ Sent i
    → SentTurn l o (noted t d note) i
sent-step l o t (Sends p b w) (First q m) waits i e =
    elim (eqb_tells q o) [
      | inl u ↦ record {
        peer = p;
        bytes = b;
        timeout = w;
        message = m;
        entry = ap (λ (q : ℕ). noted t (Sends p b w) (First q m)) u.1;
        here = same (length l) (rw (u.0) at e);
      }
      | inr u ↦ absurd (nothing-sends i (rw (u.0) at e))
    ]
  where
    same : (n : ℕ) → Sent n ≡ Sent i → n ≡ i
    same n f = cc
sent-step l o t (Hears p b) (Says m (Some j) notice) waits i e = absurd (heard-sends j m notice.place waits i e)
sent-step l o t Passes note waits i e = absurd (expired-not (expires l o t waits) i e)
sent-step l o t d note waits i e = cc

pub turn-sent : (l : List Noted) (o : ℕ) (x : Noted) (i : ℕ) → turn l o x ≡ Sent i → SentTurn l o x i
turn-sent l o x i e = sent-step l o x.written.moment x.written.deed x.note (waits_for l o) i e

-- a turn that replies
pub record ReplyTurn (l : List Noted) (o : ℕ) (x : Noted) (i : ℕ) (m : Content) (place : Bool) : Type 0 where
  pub peer : Peer
  pub bytes : List ℕ
  pub notice : Notice
  pub entry : x ≡ noted x.written.moment (Hears peer bytes) (Says m (Some i) notice)
  pub room : notice.place ≡ place
  pub waited : waits_for l o ≡ Some i
  pub response : leb 32 m.code ≡ true
  pub kind : NotRst m.kind

heard-reply : (l : List Noted) (o t : ℕ) (p : Peer) (b : List ℕ) (j : ℕ) (m : Content) (notice : Notice) (waits : Option ℕ)
    (i : ℕ) (n : Content) (place : Bool)
    → waits_for l o ≡ waits → heard_turn j m notice.place waits ≡ Replied i n place
    → ReplyTurn l o (noted t (Hears p b) (Says m (Some j) notice)) i n place
heard-reply l o t p b j m notice None i n place is e = cc
heard-reply l o t p b j m notice (Some w) i n place is e =
    elim (eqb_tells w j) [
      | inl u ↦
          let h = answered-reply j m notice.place m.kind refl i n place (rw (u.0) at e) in
          let says : Content → ℕ → Noted = λ m j. noted t (Hears p b) (Says m (Some j) notice) in
          record {
            peer = p;
            bytes = b;
            notice = notice;
            entry = ap (λ (m : Content). says m j) h.message ∙ ap (says n) h.sending;
            room = h.room;
            waited = is ∙ ap (λ (v : ℕ). Some v) (u.1 ∙ h.sending);
            response = subst (λ (m : Content). leb 32 m.code ≡ true) h.message h.response;
            kind = subst (λ (m : Content). NotRst m.kind) h.message h.kind;
          }
      | inr u ↦ absurd (nothing-replies i n place (rw (u.0) at e))
    ]

sent-replies : (j : ℕ) (b : Bool) (i : ℕ) (n : Content) (place : Bool) → cond b (Sent j) Nothing ≡ Replied i n place → ⊥
sent-replies j true i n place e = cc
sent-replies j false i n place e = cc

expired-replies : (b : Bool) (i : ℕ) (n : Content) (place : Bool) → cond b Expired Nothing ≡ Replied i n place → ⊥
expired-replies true i n place e = cc
expired-replies false i n place e = cc

reply-step : (l : List Noted) (o t : ℕ) (d : Deed) (note : Note) (i : ℕ) (n : Content) (place : Bool)
    → turn_by l o t d note (waits_for l o) ≡ Replied i n place → ReplyTurn l o (noted t d note) i n place
reply-step l o t (Sends p b w) (First q m) i n place e = absurd (sent-replies (length l) (eqb q o) i n place e)
reply-step l o t (Hears p b) (Says m (Some j) notice) i n place e = heard-reply l o t p b j m notice (waits_for l o) i n place refl e
reply-step l o t Passes note i n place e = absurd (expired-replies (expires l o t (waits_for l o)) i n place e)
reply-step l o t d note i n place e = cc

pub turn-replied : (l : List Noted) (o : ℕ) (x : Noted) (i : ℕ) (m : Content) (place : Bool)
    → turn l o x ≡ Replied i m place → ReplyTurn l o x i m place
turn-replied l o x i m place e = reply-step l o x.written.moment x.written.deed x.note i m place e

-- what an exchange waits for is a first sending of it
abbrev pub WaitsIn : List Noted → ℕ → ℕ → Type 0
WaitsIn l o i = (t : ℕ) × (p : Peer) × (m : Content) × IsFirst l t o i p m

WaitsIn-keeps : (x : Noted) (l : List Noted) (o i : ℕ) → WaitsIn l o i → WaitsIn (x ∷ l) o i
WaitsIn-keeps x l o i h = (h.0, h.1, h.2, IsFirst-keeps x l h.0 o i h.1 h.2 h.3)

waits-new : (x : Noted) (l : List Noted) (o i : ℕ) → SentTurn l o x i → WaitsIn (x ∷ l) o i
waits-new x l o i h =
    subst (WaitsIn (x ∷ l) o) h.here
    (x.written.moment, h.peer, h.message, record { bytes = h.bytes; timeout = h.timeout; stands = at-new x l ∙ ap (λ (v : Noted). Some v) h.entry })

waits-step : (x : Noted) (l : List Noted) (o i : ℕ) → (waits_for l o ≡ Some i → WaitsIn l o i)
    → (u : Turn) → turn l o x ≡ u → waits_by u (waits_for l o) ≡ Some i → WaitsIn (x ∷ l) o i
waits-step x l o i ih (Sent j) w e = subst (WaitsIn (x ∷ l) o) (some-is j i e) (waits-new x l o j (turn-sent l o x j w))
waits-step x l o i ih Nothing w e = WaitsIn-keeps x l o i (ih e)
waits-step x l o i ih (Replied j m place) w e = cc
waits-step x l o i ih Rejected w e = cc
waits-step x l o i ih Expired w e = cc

pub waits-first : (l : List Noted) (o i : ℕ) → waits_for l o ≡ Some i → WaitsIn l o i
waits-first [] o i e = cc
waits-first (x ∷ older) o i e = waits-step x older o i (waits-first older o i) (turn older o x) refl e
