-- The copies of a legal history are a legal one.
use Rattle.std.proofs.Common.{◌≡◌, ℕ, ◌+◌, ◌≤◌, Bool, true, false, ◌&&◌, cond, eqb, ltb, List, [], ◌∷◌, length, Option, Some, None, is_some, refl, ap, arith, sym, subst, ◌∙◌}
use Rattle.history_laws.specs.Carrying.{carried}
use Rattle.history_laws.specs.Exchanges.{ask_behind}
use Rattle.std.specs.Prelude.{not, ◌||◌}
use Rattle.std.specs.Str.{bytes_eq}
use Rattle.std.proofs.lemmas.Bool.{ltb-true, lt-ltb}
use Rattle.limits.specs.declared.TheConstants.{MESSAGE_ID_LIFETIME, MAX_REMEMBERED}
use Rattle.coap_codec.specs.Spelling.{Content, Spells}
use Rattle.uri_map.specs.declared.peer.Peer.{Peer}
use Rattle.uri_map.specs.Peers.{same_peer}
use Rattle.ask_model.specs.Views.{Ask}
use Rattle.journal_book.specs.Entries.{Mark, Past, Deed, Asks, Sends, Hears, Carries}
use Rattle.journal_book.specs.Entries as D
use Rattle.history_laws.specs.Readings.{Noted, Note, Plain, First, Says, Bygone, Recalls, Answered, newest, are_copies}
use Rattle.history_laws.specs.Hearing.{is_such, heard_before, live_heard, repeated, can_be_remembered}
use Rattle.history_laws.specs.Justified.{Follows, Legal, IsApart, MayRecall, CopiedNote, copied_below}
use Rattle.exchange_model.specs.Rotating.{has}
use Rattle.history_laws.specs.Confirming.{answered}
use Rattle.exchange_model.proofs.Shapes.{answered_as, Kept, Sending, Hearing, Copy, Sent, Aimed, Heard, Bare, if_such, kept_as, copy_as, copy_by, backing_copy, past_if, past_of}
use Rattle.exchange_model.proofs.Copies.{add_copy, copied, copy_in, all-copies, newest-copied, below-copied, none-copied, unheard-copied, few-copied}
use Rattle.exchange_model.proofs.Backed.{AreBacked, ArePlaced, BackedAsk, BackedEntry, BackedReply, BackedSending, carried-back, carried-copied, IsHome}
use Rattle.exchange_model.proofs.BackedFirsts.{moved, replied-copied, RepliedCopy}

-- what a copy owes
abbrev pub OwesAs : List Noted → ℕ → Copy → Type 0
OwesAs l s (Sent mark p b w m) = CopiedNote l s mark (D.Sent p b w) (Bygone m)
OwesAs l s (Aimed p b w o m) = CopiedNote l s D.Ground (D.Sent p b w) (First o m)
OwesAs l s (Heard mark p b m a) = CopiedNote l s mark (D.Heard p b) (Recalls m a)
OwesAs l s (Bare done) = CopiedNote l s D.Ground done Plain

abbrev pub Owes : List Noted → ℕ → Option Copy → Type 0
Owes l s None = Unit {0}
Owes l s (Some c) = OwesAs l s c

-- what was heard, and repeats nothing, and can be remembered
pub record IsNew (l : List Noted) (s : ℕ) (p : Peer) (bytes : List ℕ) (m : Content) : Type 0 where
  pub spelled : Spells m bytes
  pub unheard : repeated l s p m ≡ None
  pub remembered : can_be_remembered l s p m ≡ true

-- What is remembered of an entry was apart, or new, where it came.

abbrev pub WasOwed : List Noted → ℕ → Kept → Type 0
WasOwed l s (Sending p b w m) = IsApart l s p b m w
WasOwed l s (Hearing p b m a) = IsNew l s p b m

apart-of : (l : List Noted) (s : ℕ) (p : Peer) (b : List ℕ) (w : Option ℕ) (o : ℕ) (m : Content) → Follows l s (Sends p b w) (First o m) → IsApart l s p b m w
apart-of l s p b w o m f =
    let may = f.1.1 in
    record { spelled = may.spelled; token_size = may.token_size; token_apart = may.token_apart; mid_apart = may.mid_apart; first_wait = ap is_some may.first_wait }

-- Among the copies it is so still.
module _ (f home : ℕ → ℕ) (gs : List ℕ) (t : ℕ) where
  apart-copied : (l : List Noted) (s : ℕ) (p : Peer) (b : List ℕ) (m : Content) (w : Option ℕ) → IsApart l s p b m w → IsApart (copied home gs t l) s p b m w
  apart-copied l s p b m w h = record {
    spelled = h.spelled;
    token_size = h.token_size;
    token_apart = none-copied (λ u q n. bytes_eq n.token m.token) home gs t l h.token_apart;
    mid_apart = none-copied (λ u q n. (same_peer q p && ltb s (u + MESSAGE_ID_LIFETIME)) && eqb n.mid m.mid) home gs t l h.mid_apart;
    first_wait = h.first_wait;
  }

  still-unheard : (l : List Noted) (s : ℕ) (p : Peer) (m : Content) → repeated l s p m ≡ None → repeated (copied home gs t l) s p m ≡ None
  still-unheard l s p m e = by (is_such m.kind) e
    where
      by : (b : Bool) → cond b (heard_before l s p m.mid) None ≡ None → cond b (heard_before (copied home gs t l) s p m.mid) None ≡ None
      by true e = unheard-copied s p m.mid home gs t l e
      by false e = refl

  still-room : (l : List Noted) (s : ℕ) (p : Peer) (m : Content) → can_be_remembered l s p m ≡ true → can_be_remembered (copied home gs t l) s p m ≡ true
  still-room l s p m e = by (is_such m.kind) e
    where
      by : (b : Bool) → (not b || ltb (live_heard l s p) MAX_REMEMBERED) ≡ true → (not b || ltb (live_heard (copied home gs t l) s p) MAX_REMEMBERED) ≡ true
      by true e =
          let fewer = few-copied s p home gs t l in
          let few = ltb-true (live_heard l s p) MAX_REMEMBERED e in
          lt-ltb (live_heard (copied home gs t l) s p) MAX_REMEMBERED (omega (arith, fewer, few))
      by false e = refl

  recall-copied : (l : List Noted) (s : ℕ) (p : Peer) (b : List ℕ) (m : Content) → is_such m.kind ≡ true → IsNew l s p b m → MayRecall (copied home gs t l) s p b m
  recall-copied l s p b m such h = record {
    spelled = h.spelled;
    such = such;
    unheard = still-unheard l s p m h.unheard;
    remembered = still-room l s p m h.remembered;
  }

  -- What is remembered alone,

  past-such : (l : List Noted) (s : ℕ) (p : Peer) (b : List ℕ) (m : Content) (a : Answered) → IsNew l s p b m → (c : Bool) → is_such m.kind ≡ c
      → Owes (copied home gs t l) s (past_of t s (if_such c (Hearing p b m a)))
  past-such l s p b m a h true such = by (ltb t (s + 247000))
    where
      by : (v : Bool) → Owes (copied home gs t l) s (past_if v (Hearing p b m a))
      by true = recall-copied l s p b m such h
      by false = tt
  past-such l s p b m a h false such = tt

  past-sent : (l : List Noted) (s : ℕ) (p : Peer) (b : List ℕ) (w : Option ℕ) (m : Content) → IsApart l s p b m w
      → Owes (copied home gs t l) s (past_of t s (Some (Sending p b w m)))
  past-sent l s p b w m h = by (ltb t (s + MESSAGE_ID_LIFETIME))
    where
      by : (v : Bool) → Owes (copied home gs t l) s (past_if v (Sending p b w m))
      by true = apart-copied l s p b m w h
      by false = tt

  past-owes : (l : List Noted) (s : ℕ) (d : Deed) (note : Note) → Follows l s d note → Owes (copied home gs t l) s (past_of t s (kept_as d note))
  past-owes l s (Sends p b w) (First o m) h = past-sent l s p b w m (apart-of l s p b w o m h)
  past-owes l s (Sends p b w) note h = tt
  past-owes l s (Hears p b) (Says m to notice) h =
      let may = h.3 in
      past-such l s p b m _ (record { spelled = may.spelled; unheard = may.unheard; remembered = may.remembered }) (is_such m.kind) refl
  past-owes l s (Hears p b) note h = tt
  past-owes l s (Carries n Past (D.Sent p b w)) (Bygone m) h = past-sent l s p b w m h.2
  past-owes l s (Carries n D.Ground (D.Sent p b w)) (First o m) h = past-sent l s p b w m h.2.0
  past-owes l s (Carries n Past (D.Sent p b w)) note h = absurd h.2
  past-owes l s (Carries n D.Ground (D.Sent p b w)) note h = absurd h.2
  past-owes l s (Carries n Past (D.Heard p b)) (Recalls m a) h =
      let may = h.2 in
      past-such l s p b m a (record { spelled = may.spelled; unheard = may.unheard; remembered = may.remembered }) (is_such m.kind) refl
  past-owes l s (Carries n D.Ground (D.Heard p b)) (Recalls m a) h =
      let may = h.2 in
      past-such l s p b m a (record { spelled = may.spelled; unheard = may.unheard; remembered = may.remembered }) (is_such m.kind) refl
  past-owes l s (Carries n Past (D.Heard p b)) note h = absurd h.2
  past-owes l s (Carries n D.Ground (D.Heard p b)) note h = absurd h.2
  past-owes l s (Carries n mark (D.Asked c a)) note h = tt
  past-owes l s d note h = tt

  -- and what answers may rest on.
  module _ (l : List Noted) (backed : AreBacked gs l) (placed : ArePlaced gs f home t l) where
    asked-owes : (s : ℕ) (c : ℕ) (a : Ask) → BackedAsk gs l a → OwesAs (copied home gs t l) s (Bare (D.Asked c a))
    asked-owes s c a h = (
      h.request,
      h.sense,
      h.get,
      λ o b e. let it = carried-back gs f home t l o b placed e in h.once it.number b it.listed it.asked,
    )

    sent-owes : (s : ℕ) (p : Peer) (b : List ℕ) (w : Option ℕ) (o : ℕ) (m : Content) → IsApart l s p b m w → BackedSending gs l p o m
        → home o ≡ f (ask_behind l o) → OwesAs (copied home gs t l) s (Aimed p b w (home o) m)
    sent-owes s p b w o m apart h is_home = (
      apart-copied l s p b m w apart,
      record {
        exchange = h.exchange;
        asked = subst (λ (k : ℕ). carried (copied home gs t l) k ≡ Some h.exchange) (sym (is_home ∙ ap f h.back))
            (carried-copied gs f home t l h.ask h.exchange placed h.listed h.asked);
        peer = h.peer;
        manner = h.manner;
        block = h.block;
        asks = h.asks;
      },
    )

    heard-owes : (s : ℕ) (p : Peer) (b : List ℕ) (m : Content) (a : Answered) → IsNew l s p b m → BackedReply gs l p m
        → OwesAs (copied home gs t l) s (Heard D.Ground p b m a)
    heard-owes s p b m a new h =
        let it : RepliedCopy p m gs f home t l h.first = replied-copied p m gs f home t l h.first backed placed h.under h.listed in
        record {
          spelled = new.spelled;
          response = h.response;
          unheard = still-unheard l s p m new.unheard;
          remembered = still-room l s p m new.remembered;
          first = moved p m gs f home t h.first;
          under = it.replied;
          kind = h.kind;
          exchange = it.exchange;
          asked = subst (λ (k : ℕ). carried (copied home gs t l) k ≡ Some it.exchange) (sym it.placed)
              (carried-copied gs f home t l it.ask it.exchange placed it.listed it.asked);
        }

    backed-owes : (s : ℕ) (d : Deed) (note : Note) → Follows l s d note → BackedEntry gs l d note → IsHome gs f home t l d note → Owes (copied home gs t l) s (backing_copy home d note)
    backed-owes s (Asks c a) note h k is = asked-owes s c a k
    backed-owes s (Carries n mark (D.Asked c a)) note h k is = asked-owes s c a k
    backed-owes s (Sends p b w) (First o m) h k is = sent-owes s p b w o m (apart-of l s p b w o m h) k is
    backed-owes s (Carries n D.Ground (D.Sent p b w)) (First o m) h k is = sent-owes s p b w o m h.2.0 k is
    backed-owes s (Carries n Past (D.Sent p b w)) (First o m) h k is = absurd h.2
    backed-owes s (Hears p b) (Says m to notice) h k is =
        let may = h.3 in
        heard-owes s p b m (answered_as (answered (Says m to notice))) (record { spelled = may.spelled; unheard = may.unheard; remembered = may.remembered }) k
    backed-owes s (Carries n Past (D.Heard p b)) (Recalls m a) h k is =
        let may = h.2 in
        heard-owes s p b m a (record { spelled = may.spelled; unheard = may.unheard; remembered = may.remembered }) k
    backed-owes s (Carries n D.Ground (D.Heard p b)) (Recalls m a) h k is =
        let may = h.2 in
        heard-owes s p b m a (record { spelled = may.spelled; unheard = may.unheard; remembered = may.remembered }) k
    backed-owes s d note h k is = absurd k

    copy-owes : (s : ℕ) (d : Deed) (note : Note) (b : Bool) → Follows l s d note → (b ≡ true → BackedEntry gs l d note)
        → (b ≡ true → IsHome gs f home t l d note) → Owes (copied home gs t l) s (copy_by b home t s d note)
    copy-owes s d note true h k is = backed-owes s d note h (k refl) (is refl)
    copy-owes s d note false h k is = past-owes l s d note h

  legal-cons : (n s : ℕ) (k : Copy) (c : List Noted) → Legal c → newest c ≤ s → are_copies c ≡ true → copied_below c ≤ n → OwesAs c s k → Legal (copy_as n s k ∷ c)
  legal-cons n s (Sent mark p b w m) c legal later all below h = (legal, later, (all, below, h))
  legal-cons n s (Aimed p b w o m) c legal later all below h = (legal, later, (all, below, h))
  legal-cons n s (Heard mark p b m a) c legal later all below h = (legal, later, (all, below, h))
  legal-cons n s (Bare done) c legal later all below h = (legal, later, (all, below, h))

  legal-add : (n s : ℕ) (oc : Option Copy) (c : List Noted) → Legal c → newest c ≤ s → are_copies c ≡ true → copied_below c ≤ n → Owes c s oc → Legal (add_copy n s oc c)
  legal-add n s None c legal later all below h = legal
  legal-add n s (Some k) c legal later all below h = legal-cons n s k c legal later all below h

  pub legal-copied : (l : List Noted) → Legal l → AreBacked gs l → ArePlaced gs f home t l → Legal (copied home gs t l)
  legal-copied [] legal backed placed = tt
  legal-copied (x ∷ older) legal backed placed =
      let early = newest-copied home gs t older legal.0 in
      let later = legal.1 in
      legal-add (length older) x.written.moment (copy_in home gs t (length older) x) (copied home gs t older) (legal-copied older legal.0 backed.0 placed.0)
      (omega (arith, early, later)) (all-copies home gs t older) (below-copied home gs t older)
      (copy-owes older backed.0 placed.0 x.written.moment x.written.deed x.note (has gs (length older)) legal.2 backed.1 (λ mine. (placed.1 mine).1))
