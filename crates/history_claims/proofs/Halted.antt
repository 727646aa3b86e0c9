-- How an exchange ended by a reply, or was over after one.
use Rattle.std.proofs.Common.{◌≡◌, ℕ, zero, ◌<◌, ◌≤◌, Bool, true, false, inl, List, [], ◌∷◌, ◌++◌, Option, Some, None, refl, sym, ap, subst, ◌∙◌, arith, append_assoc, append-nil}
use Rattle.std.specs.Prelude.{is_none}
use Rattle.std.specs.List.{Contains}
use Rattle.std.proofs.lemmas.List.Elements.{Contains-append_right, Contains-push}
use Rattle.coap_codec.specs.Spelling.{Content}
use Rattle.uri_map.specs.declared.peer.Peer.{Peer}
use Rattle.ask_model.specs.Requests.{CoapRequest}
use Rattle.journal_book.specs.Entries.{Grounds, Answers, Hears}
use Rattle.history_laws.specs.Readings.{Noted, Note, Says, Notice, entries, at, before, noted}
use Rattle.history_laws.specs.Progress.{Reply, NotUnderstood, Turned, progress, ended_by}
use Rattle.history_laws.specs.Exchanges.{kept, Begun, begun, Replied, turn, waits_for, replies, end_of, is_going, ask_behind, begins_with, heard_for}
use Rattle.history_laws.specs.Hearing.{answers, notice_of, has_place}
use Rattle.history_laws.specs.Justified.{Ends, MaySay, Follows, Legal}
use Rattle.history_laws.specs.Laws.{IsFirst}
use Rattle.history_laws.proofs.CallerLemmas.{at-before, at-below, at-entries, at-same, before-twice, begun-before, ends-first, follows-at, legal-before, length-before, none-after-end, replies-fit, sent-for, some-is, turn-replied, waits-first}
use Rattle.history_claims.specs.Causes.{IsUnsent, AreRepliesFor, IsCutOff, IsRepliedTo, IsNotUnderstood}
use Rattle.history_claims.proofs.Sending.{first-before, sent-as}
use Rattle.history_claims.proofs.Pieces.{begins-till, heard-fits, progress-like, still-going}
use Rattle.history_claims.proofs.Heard.{replies-for, replies-for-like}
use Rattle.history_claims.proofs.Pending.{unsent-in}
use Rattle.history_claims.proofs.Readers.{Reads}
use Rattle.history_claims.proofs.Ending.{failed-turn, cut-turn, reply-placed}
use Rattle.history_claims.proofs.Unsent.{Over, sent-earlier}
use Rattle.history_claims.proofs.Crowded.{full-at}

pub stands-as : (l : List Noted) (n : ℕ) (x y : Noted) → at l n ≡ Some x → x ≡ y → at l n ≡ Some y
stands-as l n x y e f = e ∙ ap (λ (v : Noted). Some v) f

says-so : (m : Content) (i : Option ℕ) (u v : Notice) (w : Option ℕ) → Says m i u ≡ Says m w v → (i ≡ w) × (u ≡ v)
says-so m i u v w e = (cc, cc)

-- what is said of it is so
placed : (v : List Noted) (s : ℕ) (p : Peer) (b : List ℕ) (m : Content) (i : ℕ) (notice : Notice) → notice.place ≡ false
    → Follows v s (Hears p b) (Says m (Some i) notice) → has_place v s p (Some i) ≡ false
placed v s p b m i notice room may =
    let says : MaySay v s p b (Says m (Some i) notice) m = may.3 in
    let it = says-so m (Some i) notice (notice_of v s p m (answers v p m)) (answers v p m) says.says in
    subst (λ (w : Option ℕ). has_place v s p w ≡ false) (sym it.0) (sym (ap (λ (n : Notice). n.place) it.1) ∙ room)

hears-same : (s t : ℕ) (p r : Peer) (b d : List ℕ) (u v : Note) → noted s (Hears p b) u ≡ noted t (Hears r d) v → p ≡ r
hears-same s t p r b d u v e = go (ap (λ (x : Noted). x.written.deed) e)
  where
    go : Hears p b ≡ Hears r d → p ≡ r
    go f = cc

-- What was heard for an exchange came after what it answers was sent.
sent-sooner : (l : List Noted) (o : ℕ) (b : Begun) (r : Reply) → Legal l → begun l o ≡ Some b → Contains (heard_for l o) r → r.sending < r.number
sent-sooner l o b r legal opened has = (heard-fits l o b r legal opened has).1.after

-- an exchange that the ask of an answer reads
module _ (l : List Noted) (n t c k o : ℕ) (g : Grounds) (legal : Legal l) (note : Note) (here : at l n ≡ Some (noted t (Answers c k g) note))
    (x : Reads l n c k o) where
  below : (i : ℕ) (y : Noted) → at (before l n) i ≡ Some y → i < n
  below i y e = subst (λ (m : ℕ). i < m) (length-before l n _ here) (at-below (before l n) i y e)

  early : Legal (before l n)
  early = legal-before l n legal

  abbrev q : CoapRequest
  q = x.request

  -- the replies till then that an entry ended the exchange with
  module _ (e i : ℕ) (y : Noted) (m : Content) (place : Bool) (there : at (before l n) e ≡ Some y)
      (is : turn (before (before l n) e) o y ≡ Replied i m place) where
    abbrev last : Reply
    last = record { number = e; sending = i; message = m }

    abbrev others : List Reply
    others = heard_for (before (before l n) e) o

    asked-then : (w : ℕ) × (p : Peer) × (m : Content) × IsFirst (before (before l n) e) w o i p m
    asked-then = waits-first (before (before l n) e) o i (turn-replied (before (before l n) e) o y i m place is).waited

    opened-then : begun (before (before l n) e) o ≡ Some x.exchange
    opened-then =
        let w = asked-then in
        let s = sent-for (before (before l n) e) w.0 o i w.1 w.2 (legal-before (before l n) e early) w.3 in
        s.opened ∙ ap (λ (b : Begun). Some b) (some-is _ _ (sym (begun-before l n o _ (begun-before (before l n) e o _ s.opened)) ∙ x.opened))

    heard-then : AreRepliesFor (entries l) (ask_behind l o) q (others ++ last ∷ [])
    heard-then =
        let v : List Noted = before l n in
        let till : List Reply = replies (before v e) o in
        let it = reply-placed v e o i m place y there is in
        let all : replies v o ≡ (till ++ last ∷ []) ++ it.0 = it.1 ∙ sym (append_assoc till (last ∷ []) it.0) in
        let begins = begins-till v e o x.exchange y there opened-then in
        let same : begins_with v o ++ (till ++ last ∷ []) ≡ others ++ last ∷ [] =
        sym (append_assoc (begins_with v o) till (last ∷ [])) ∙ ap (λ (hs : List Reply). (hs ++ till) ++ last ∷ []) (sym begins) in
        replies-for-like (entries l) (ask_behind l o) x.exchange.request q (others ++ last ∷ []) x.like
        (subst (λ (rs : List Reply). AreRepliesFor (entries l) (ask_behind l o) x.exchange.request rs) same
        (replies-for l n o x.exchange _ legal x.opened here (begun-before v e o _ opened-then) (till ++ last ∷ []) it.0 all))

  pub not-understood : (j : ℕ) → Ends (before l n) o j NotUnderstood → (j < n) × IsNotUnderstood (entries l) c k j
  not-understood j h =
      let end = ends-first (before l n) o j NotUnderstood h in
      let y : Noted = end.0 in
      let late = before (before l n) j in
      let failed = failed-turn (begun late o) (kept late o) (turn late o y) j (heard_for late o) end.3 in
      let it = failed.1 in
      let rs : List Reply = heard_for late o ++ record { number = j; sending = it.sending; message = it.message } ∷ [] in (
        below j y end.1,
        record {
          request = q;
          opening = ask_behind l o;
          since = x.exchange.since;
          entry = o;
          shared = x.shared;
          live = x.later j NotUnderstood h;
          others = heard_for late o;
          last = record { number = j; sending = it.sending; message = it.message };
          number = refl;
          heard = heard-then j it.sending y it.message failed.0 end.1 it.is;
          fails = sym (progress-like x.exchange.request q rs x.like)
              ∙ it.so x.exchange (opened-then j it.sending y it.message failed.0 end.1 it.is);
        },
      )

  -- Nothing is sent for an exchange that is over but what was sent before the answer.
  sent-till : Over o (before l n) → (s i : ℕ) (p : Peer) (m : Content) → IsFirst l s o i p m → IsFirst (before l n) s o i p m
  sent-till over s i p m f = sent-earlier l n t c k o g note legal here over s i p m f

  pub unsent-after : (r : ℕ) → Over o (before l n)
      → ((s i : ℕ) (p : Peer) (m : Content) → r < i → IsFirst (before l n) s o i p m → ⊥) → IsUnsent (entries l) r k o q
  unsent-after r over none =
      unsent-in l r k o q legal (λ s i p m late f. none s i p m late (sent-till over s i p m (x.sent s i p m f)))
      (λ s i p m late f. none s i p m late (sent-till over s i p m f))

  -- it came from the endpoint of what was asked
  heard-of : (e i : ℕ) (y : Noted) (m : Content) (place : Bool) (there : at (before l n) e ≡ Some y)
      (is : turn (before (before l n) e) o y ≡ Replied i m place)
      → (turn-replied (before (before l n) e) o y i m place is).peer ≡ x.exchange.request.peer
  heard-of e i y m place there is =
      let replied = turn-replied (before (before l n) e) o y i m place is in
      let it = reply-placed (before l n) e o i m place y there is in
      let r : Reply = record { number = e; sending = i; message = m } in
      let fits = replies-fit (before l n) o r early
      (subst (λ (v : List Reply). Contains v r) (sym it.1) (Contains-append_right (replies (before (before l n) e) o) (r ∷ it.0) r (zero, omega arith, refl))) in
      let sent = sent-as l fits.sent_at o i fits.peer fits.sent x.exchange legal x.opened (first-before l n fits.sent_at o i fits.peer fits.sent fits.first) in
      hears-same y.written.moment fits.moment replied.peer fits.peer replied.bytes fits.bytes _ _
      (at-same (before l n) e _ _ (stands-as (before l n) e y _ there replied.entry) fits.heard) ∙ sent.0

  -- after a reply there was no place
  pub cut-off : (e : ℕ) → Ends (before l n) o e Turned → IsCutOff (entries l) n c k
  cut-off e h =
      let end = ends-first (before l n) o e Turned h in
      let y : Noted = end.0 in
      let late = before (before l n) e in
      let it = cut-turn (begun late o) (kept late o) (turn late o y) e (heard_for late o) end.3 in
      let replied = turn-replied late o y it.sending it.message false it.is in
      let opened = opened-then e it.sending y it.message false end.1 it.is in
      let peer = heard-of e it.sending y it.message false end.1 it.is in
      let twice : late ≡ before l e = before-twice l n e _ here (below e y end.1) in
      let heard : at l e ≡ Some (noted y.written.moment (Hears q.peer replied.bytes) (Says it.message (Some it.sending) replied.notice)) =
      subst (λ (p : Peer). at l e ≡ Some (noted y.written.moment (Hears p replied.bytes) (Says it.message (Some it.sending) replied.notice))) (peer ∙ x.like.peer)
      (stands-as l e y _ (at-before l n e y end.1) replied.entry) in
      let rs : List Reply = heard_for late o ++ record { number = e; sending = it.sending; message = it.message } ∷ [] in
      record {
        request = q;
        opening = ask_behind l o;
        since = x.exchange.since;
        entry = o;
        shared = x.shared;
        others = heard_for late o;
        last = record { number = e; sending = it.sending; message = it.message };
        went = record {
          heard = heard-then e it.sending y it.message false end.1 it.is;
          going = ap (ended_by true) (sym (progress-like x.exchange.request q rs x.like)) ∙ it.so x.exchange opened;
        };
        live = x.later e Turned h;
        before = below e y end.1;
        moment = y.written.moment;
        bytes = replied.bytes;
        heard = at-entries l e _ heard;
        full = full-at l e y.written.moment o it.sending q.peer replied.bytes (Says it.message (Some it.sending) replied.notice) x.exchange legal heard
            (subst (λ (v : List Noted). begun v o ≡ Some x.exchange) twice opened) x.like.peer
            (subst (λ (v : List Noted). is_going v o ≡ true) twice (ap is_none end.2))
            (subst (λ (v : List Noted). waits_for v o ≡ Some it.sending) twice replied.waited)
            (placed (before l e) y.written.moment q.peer replied.bytes it.message it.sending replied.notice replied.room (follows-at l e _ legal heard));
        unsent = unsent-after e (inl (ap is_none h))
            (λ s i p m after f. let sooner = none-after-end (before l n) s o i e p m Turned early f h in absurd (omega (arith, after, sooner)));
      }

  -- No more was sent after the last of the replies.
  pub replied-last : (j e : ℕ) (y : Noted) → at l e ≡ Some y → begun (before l e) o ≡ Some x.exchange → end_of (before l e) o ≡ None
      → Over o (before l n) → ((s i : ℕ) (p : Peer) (m : Content) → IsFirst (before l n) s o i p m → i ≤ j) → (others : List Reply) (last : Reply)
      → heard_for (before l e) o ≡ others ++ last ∷ [] → last.sending ≡ j → last.number < n → IsRepliedTo (entries l) n k o (ask_behind l o) q j
  replied-last j e y there opened going over newest others last all names soon =
      let rs : List Reply = others ++ last ∷ [] in
      let then : List Reply = replies (before l e) o in
      let heard : AreRepliesFor (entries l) (ask_behind l o) x.exchange.request rs =
      subst (λ (rs : List Reply). AreRepliesFor (entries l) (ask_behind l o) x.exchange.request rs) all
      (replies-for l e o x.exchange y legal x.opened there opened then [] (sym (append-nil then))) in
      let has : Contains (heard_for (before l e) o) last = subst (λ (v : List Reply). Contains v last) (sym all) (Contains-push others last) in
      let after = sent-sooner (before l e) o x.exchange last (legal-before l e legal) opened has in
      record {
        others = others;
        last = last;
        names = names;
        went = record {
          heard = replies-for-like (entries l) (ask_behind l o) x.exchange.request q rs x.like heard;
          going = ap (ended_by true) (sym (progress-like x.exchange.request q rs x.like)) ∙ still-going (before l e) o x.exchange rs (legal-before l e legal) opened going all;
        };
        before = soon;
        unsent = unsent-after last.number over
            (λ s i p m late f. let le = newest s i p m f in absurd (omega (arith, late, le, names, after)));
      }
