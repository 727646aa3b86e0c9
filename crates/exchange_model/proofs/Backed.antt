-- What of a history answers may rest on, entry by entry.
use Rattle.std.proofs.Common.{◌≡◌, ◌≢◌, ◌⊎◌, ℕ, ◌<◌, ◌≤◌, Bool, true, false, eqb, inl, inr, List, [], ◌∷◌, length, Option, Some, None, refl, sym, ap, subst, ◌∙◌, arith}
use Rattle.std.proofs.lemmas.Bool.Decides.{eqb_tells}
use Rattle.coap_codec.specs.Spelling.{Content}
use Rattle.coap_codec.specs.declared.block.Block.{Block}
use Rattle.uri_map.specs.declared.peer.Peer.{Peer}
use Rattle.ask_model.specs.Requests.{CoapRequest, Requests, asking, Manner}
use Rattle.ask_model.specs.Sharing.{asks_same, is_get}
use Rattle.ask_model.specs.Views.{Ask}
use Rattle.journal_book.specs.Entries.{Mark, Past, Done, done_of, Deed, Asks, Sends, Hears, Carries}
use Rattle.journal_book.specs.Entries as D
use Rattle.history_laws.specs.Readings.{Noted, Note, First, Says, Bygone, Recalls}
use Rattle.history_laws.specs.Transmissions.{FirstSending}
use Rattle.history_laws.specs.Exchanges.{Begun, begun_by, ask_behind}
use Rattle.history_laws.specs.Hearing.{IsReplyKind}
use Rattle.history_laws.specs.Carrying.{asked_for, carried, carried_by, replied_by}
use Rattle.history_laws.proofs.CallerLemmas.{carried-keeps, eqb-itself, none-some, some-is}
use Rattle.exchange_model.specs.Rotating.{has}
use Rattle.exchange_model.proofs.Shapes.{Kept, Sending, Hearing, Copy, Sent, Aimed, Heard, Bare, kept_as, copy_as, copy_by, backing_copy, past_if, past_of, still_kept}
use Rattle.exchange_model.proofs.Copies.{add_copy, copied, copy_in}
use Rattle.exchange_model.proofs.CopiedUnknown.{AreSound, IsSound}

-- what the entry with this number asks for, be it a copy
abbrev pub asks_by : Option Done → Option CoapRequest
asks_by (Some (D.Asked c a)) = asked_for a.sense
asks_by _ = None

abbrev pub asked_at : List Noted → ℕ → Option Begun
asked_at [] o = None
asked_at (x ∷ older) o = begun_by (asks_by (done_of x.written.deed)) (eqb (length older) o) x.written.moment (asked_at older o)

pub not-here : (asked : Option CoapRequest) (t : ℕ) (old : Option Begun) → begun_by asked false t old ≡ old
not-here None t old = refl
not-here (Some q) t old = refl

pub asked-below : (l : List Noted) (o : ℕ) (b : Begun) → asked_at l o ≡ Some b → o < length l
asked-below [] o b e = cc
asked-below (x ∷ older) o b e =
    elim (eqb_tells (length older) o) [
      | inl w ↦ let same = w.1 in omega (arith, same)
      | inr w ↦ let ih = asked-below older o b (sym (not-here (asks_by (done_of x.written.deed)) x.written.moment (asked_at older o)) ∙ (rw (w.0) at e)) in omega (arith, ih)
    ]

pub asked-keeps : (x : Noted) (l : List Noted) (o : ℕ) (b : Begun) → asked_at l o ≡ Some b → asked_at (x ∷ l) o ≡ Some b
asked-keeps x l o b e =
    let below = asked-below l o b e in
    elim (eqb_tells (length l) o) [
      | inl w ↦ let same = w.1 in absurd (omega (arith, same, below))
      | inr w ↦ rw (w.0) (not-here (asks_by (done_of x.written.deed)) x.written.moment (asked_at l o) ∙ e)
    ]

pub behind-more : (x : Noted) (l : List Noted) (o : ℕ) → o < length l → ask_behind (x ∷ l) o ≡ ask_behind l o
behind-more x l o lt = elim (eqb_tells (length l) o) [
  | inl w ↦ let same = w.1 in absurd (omega (arith, same, lt))
  | inr w ↦ rw (w.0) refl
]

module _ (gs : List ℕ) where
  -- an ask for a GET, for which no other of these asks
  pub record BackedAsk (l : List Noted) (a : Ask) : Type 0 where
    pub request : CoapRequest
    pub sense : a.sense ≡ Requests request
    pub get : is_get request ≡ true
    pub once : (o : ℕ) (b : Begun) → has gs o ≡ true → asked_at l o ≡ Some b → asks_same request b.request ≡ false

  -- a first sending for such an ask: of the exchange that goes back to it
  pub record BackedSending (l : List Noted) (p : Peer) (o : ℕ) (m : Content) : Type 0 where
    pub opened : o < length l
    pub ask : ℕ
    pub back : ask_behind l o ≡ ask
    pub exchange : Begun
    pub asked : asked_at l ask ≡ Some exchange
    pub listed : has gs ask ≡ true
    pub peer : p ≡ exchange.request.peer
    pub manner : Manner
    pub block : Option Block
    pub asks : m ≡ asking manner exchange.request block m.mid m.token

  -- a reply to such a sending
  pub record BackedReply (l : List Noted) (p : Peer) (m : Content) : Type 0 where
    pub response : 32 ≤ m.code
    pub first : FirstSending
    pub under : replied_by l p m ≡ Some first
    pub listed : has gs first.number ≡ true
    pub kind : IsReplyKind m.kind m.mid first.message.mid

  abbrev pub BackedEntry : List Noted → Deed → Note → Type 0
  BackedEntry l (Asks c a) note = BackedAsk l a
  BackedEntry l (Carries k mark (D.Asked c a)) note = BackedAsk l a
  BackedEntry l (Sends p b w) (First o m) = BackedSending l p o m
  BackedEntry l (Carries k mark (D.Sent p b w)) (First o m) = BackedSending l p o m
  BackedEntry l (Hears p b) (Says m to notice) = BackedReply l p m
  BackedEntry l (Carries k mark (D.Heard p b)) (Recalls m a) = BackedReply l p m
  BackedEntry l d note = ⊥

  -- Each entry with one of these numbers is one of those.
  abbrev pub AreBacked : List Noted → Type 0
  AreBacked [] = Unit {0}
  AreBacked (x ∷ older) =
      AreBacked older × (has gs (length older) ≡ true → BackedEntry older x.written.deed x.note)

  module _ (f home : ℕ → ℕ) (t : ℕ) where
    -- Of each that is copied f tells where the copy stands; and of an exchange home tells where that of the ask does that it
    -- goes back to.
    abbrev pub IsHome : List Noted → Deed → Note → Type 0
    IsHome l (Sends p b w) (First o m) = home o ≡ f (ask_behind l o)
    IsHome l (Carries k mark (D.Sent p b w)) (First o m) = home o ≡ f (ask_behind l o)
    IsHome l d note = Unit {0}

    abbrev pub ArePlaced : List Noted → Type 0
    ArePlaced [] = Unit {0}
    ArePlaced (x ∷ older) =
        ArePlaced older
        × (has gs (length older) ≡ true → (f (length older) ≡ length (copied home gs t older)) × IsHome older x.written.deed x.note)

    -- Copies are as there may be.

    past-sound : (s : ℕ) (k : Option Kept) → IsSound (past_of t s k)
    past-sound s None = tt
    past-sound s (Some k) = by k (still_kept t s k)
      where
        by : (k : Kept) (b : Bool) → IsSound (past_if b k)
        by (Sending p b w m) true = tt
        by (Hearing p b m a) true = tt
        by k false = tt

    backed-sound : (l : List Noted) (d : Deed) (note : Note) → BackedEntry l d note → IsSound (backing_copy home d note)
    backed-sound l (Asks c a) note h = tt
    backed-sound l (Carries k mark (D.Asked c a)) note h = tt
    backed-sound l (Sends p b w) (First o m) h = tt
    backed-sound l (Carries k mark (D.Sent p b w)) (First o m) h = tt
    backed-sound l (Hears p b) (Says m to notice) h = tt
    backed-sound l (Carries k mark (D.Heard p b)) (Recalls m a) h = tt
    backed-sound l d note h = absurd h

    pub are-sound : (l : List Noted) → AreBacked l → AreSound home gs t l
    are-sound [] h = tt
    are-sound (x ∷ older) h = (are-sound older h.0, by (has gs (length older)) h.1)
      where
        by : (b : Bool) → (b ≡ true → BackedEntry older x.written.deed x.note) → IsSound (copy_by b home t x.written.moment x.written.deed x.note)
        by true h = backed-sound older x.written.deed x.note (h refl)
        by false h = past-sound x.written.moment (kept_as x.written.deed x.note)

    -- Where the copy of an ask stands that ask is carried,

    ask-copy : (d : Deed) (note : Note) (q : CoapRequest) → asks_by (done_of d) ≡ Some q
        → (c : ℕ) × (a : Ask) × (backing_copy home d note ≡ Some (Bare (D.Asked c a))) × (asked_for a.sense ≡ Some q)
    ask-copy (Asks c a) note q e = (c, a, refl, e)
    ask-copy (Carries k mark (D.Asked c a)) note q e = (c, a, refl, e)
    ask-copy (Carries k mark (D.Sent p b w)) note q e = absurd (none-some q e)
    ask-copy (Carries k mark (D.Heard p b)) note q e = absurd (none-some q e)
    ask-copy (Sends p b w) note q e = absurd (none-some q e)
    ask-copy (Hears p b) note q e = absurd (none-some q e)
    ask-copy d note q e = absurd (none-some q e)

    carried-here : (n s : ℕ) (oc : Option Copy) (c : ℕ) (a : Ask) (q : CoapRequest) (l : List Noted) → oc ≡ Some (Bare (D.Asked c a)) → asked_for a.sense ≡ Some q
        → carried (add_copy n s oc l) (length l) ≡ Some (record { since = s; request = q })
    carried-here n s oc c a q l is sense =
        subst (λ (oc : Option Copy). carried (add_copy n s oc l) (length l) ≡ Some (record { since = s; request = q })) (sym is)
        (rw (eqb-itself (length l)) (ap (λ (v : Option CoapRequest). begun_by v true s (carried l (length l))) sense))

    carried-more : (n s : ℕ) (oc : Option Copy) (l : List Noted) (o : ℕ) (b : Begun) → carried l o ≡ Some b → carried (add_copy n s oc l) o ≡ Some b
    carried-more n s None l o b e = e
    carried-more n s (Some c) l o b e = carried-keeps (copy_as n s c) l o b e

    pub carried-copied : (l : List Noted) (o : ℕ) (b : Begun) → ArePlaced l → has gs o ≡ true → asked_at l o ≡ Some b → carried (copied home gs t l) (f o) ≡ Some b
    carried-copied [] o b placed listed e = cc
    carried-copied (x ∷ older) o b placed listed e =
        elim (eqb_tells (length older) o) [
          | inr w ↦
              carried-more (length older) x.written.moment (copy_in home gs t (length older) x) (copied home gs t older) (f o) b
              (carried-copied older o b placed.0 listed (sym (not-here (asks_by (done_of x.written.deed)) x.written.moment (asked_at older o)) ∙ (rw (w.0) at e)))
          | inl w ↦ by (asks_by (done_of x.written.deed)) refl w.1 (rw (w.0) at e)
        ]
      where
        n : ℕ
        n = length older

        s : ℕ
        s = x.written.moment

        by : (v : Option CoapRequest) → asks_by (done_of x.written.deed) ≡ v → n ≡ o → begun_by v true s (asked_at older o) ≡ Some b
            → carried (copied home gs t (x ∷ older)) (f o) ≡ Some b
        by None is same e = absurd (let below = asked-below older o b e in omega (arith, below, same))
        by (Some q) is same e =
            let it = ask-copy x.written.deed x.note q is in
            let mine : has gs n ≡ true = ap (has gs) same ∙ listed in
            let copy : copy_in home gs t n x ≡ Some (Bare (D.Asked it.0 it.1)) =
            ap (λ (b : Bool). copy_by b home t s x.written.deed x.note) mine ∙ it.2 in
            let place : length (copied home gs t older) ≡ f o = sym (placed.1 mine).0 ∙ ap f same in
            subst (λ (k : ℕ). carried (copied home gs t (x ∷ older)) k ≡ Some b) place
            (carried-here n s (copy_in home gs t n x) it.0 it.1 q (copied home gs t older) copy it.3 ∙ e)

    -- and none is carried else.

    pub record IsCopiedAsk (l : List Noted) (k : ℕ) (b : Begun) : Type 0 where
      pub number : ℕ
      pub listed : has gs number ≡ true
      pub asked : asked_at l number ≡ Some b
      pub place : f number ≡ k

    older-ask : (x : Noted) (l : List Noted) (k : ℕ) (b : Begun) → IsCopiedAsk l k b → IsCopiedAsk (x ∷ l) k b
    older-ask x l k b h = record { number = h.number; listed = h.listed; asked = asked-keeps x l h.number b h.asked; place = h.place }

    -- what an entry asks for of which there is the copy of an ask

    past-ask : (s : ℕ) (k : Option Kept) (c : ℕ) (a : Ask) → past_of t s k ≡ Some (Bare (D.Asked c a)) → ⊥
    past-ask s None c a e = cc
    past-ask s (Some k) c a e = by k (still_kept t s k) e
      where
        by : (k : Kept) (b : Bool) → past_if b k ≡ Some (Bare (D.Asked c a)) → ⊥
        by (Sending p bytes w m) true e = cc
        by (Hearing p bytes m v) true e = cc
        by k false e = cc

    same-ask : (d c : ℕ) (e a : Ask) → Some (Bare (D.Asked d e)) ≡ Some (Bare (D.Asked c a)) → e ≡ a
    same-ask d c e a is = cc

    backing-ask : (d : Deed) (note : Note) (c : ℕ) (a : Ask) → backing_copy home d note ≡ Some (Bare (D.Asked c a)) → asks_by (done_of d) ≡ asked_for a.sense
    backing-ask (Asks d e) note c a is = ap (λ (v : Ask). asked_for v.sense) (same-ask d c e a is)
    backing-ask (Sends p b w) (First o m) c a is = absurd cc
    backing-ask (Sends p b w) note c a is = absurd cc
    backing-ask (Hears p b) (Says m to notice) c a is = absurd cc
    backing-ask (Hears p b) note c a is = absurd cc
    backing-ask (Carries k mark (D.Sent p b w)) (First o m) c a is = absurd cc
    backing-ask (Carries k mark (D.Sent p b w)) (Bygone m) c a is = absurd cc
    backing-ask (Carries k mark (D.Sent p b w)) note c a is = absurd cc
    backing-ask (Carries k mark (D.Heard p b)) (Recalls m v) c a is = absurd cc
    backing-ask (Carries k mark (D.Heard p b)) note c a is = absurd cc
    backing-ask (Carries k mark (D.Asked d e)) note c a is = ap (λ (v : Ask). asked_for v.sense) (same-ask d c e a is)
    backing-ask d note c a is = absurd cc

    copied-ask : (b : Bool) (s : ℕ) (d : Deed) (note : Note) (c : ℕ) (a : Ask) → copy_by b home t s d note ≡ Some (Bare (D.Asked c a))
        → (b ≡ true) × (asks_by (done_of d) ≡ asked_for a.sense)
    copied-ask true s d note c a is = (refl, backing-ask d note c a is)
    copied-ask false s d note c a is = absurd (past-ask s (kept_as d note) c a is)

    -- What a copy carries is that of an ask.
    uncarried-sent : (n : ℕ) (mark : Mark) (p : Peer) (b : List ℕ) (w : Option ℕ) → carried_by (Carries n mark (D.Sent p b w)) ≡ None
    uncarried-sent n Past p b w = refl
    uncarried-sent n D.Ground p b w = refl

    uncarried-heard : (n : ℕ) (mark : Mark) (p : Peer) (b : List ℕ) → carried_by (Carries n mark (D.Heard p b)) ≡ None
    uncarried-heard n Past p b = refl
    uncarried-heard n D.Ground p b = refl

    pub record IsCarriedHere (s : ℕ) (oc : Option Copy) (c : List Noted) (k : ℕ) (b : Begun) : Type 0 where
      pub conn : ℕ
      pub ask : Ask
      pub is : oc ≡ Some (Bare (D.Asked conn ask))
      pub sense : asked_for ask.sense ≡ Some b.request
      pub since : b.since ≡ s
      pub place : length c ≡ k

    carried-none : (n s : ℕ) (copy : Copy) (c : List Noted) (k : ℕ) (b : Begun) → carried_by (copy_as n s copy).written.deed ≡ None → carried (copy_as n s copy ∷ c) k ≡ Some b
        → carried c k ≡ Some b
    carried-none n s copy c k b none e =
        sym (ap (λ (v : Option CoapRequest). begun_by v (eqb (length c) k) (copy_as n s copy).written.moment (carried c k)) none) ∙ e

    carried-cases : (n s : ℕ) (oc : Option Copy) (c : List Noted) (k : ℕ) (b : Begun) → carried (add_copy n s oc c) k ≡ Some b
        → (carried c k ≡ Some b) ⊎ IsCarriedHere s oc c k b
    carried-cases n s None c k b e = inl e
    carried-cases n s (Some (Sent mark p bytes w m)) c k b e = inl (carried-none n s (Sent mark p bytes w m) c k b (uncarried-sent n mark p bytes w) e)
    carried-cases n s (Some (Aimed p bytes w o m)) c k b e = inl (carried-none n s (Aimed p bytes w o m) c k b refl e)
    carried-cases n s (Some (Heard mark p bytes m a)) c k b e = inl (carried-none n s (Heard mark p bytes m a) c k b (uncarried-heard n mark p bytes) e)
    carried-cases n s (Some (Bare (D.Sent p bytes w))) c k b e = inl (carried-none n s (Bare (D.Sent p bytes w)) c k b refl e)
    carried-cases n s (Some (Bare (D.Heard p bytes))) c k b e = inl (carried-none n s (Bare (D.Heard p bytes)) c k b refl e)
    carried-cases n s (Some (Bare (D.Asked conn a))) c k b e = by (asked_for a.sense) refl (eqb_tells (length c) k) e
      where
        by : (v : Option CoapRequest) → asked_for a.sense ≡ v → ((eqb (length c) k ≡ true) × (length c ≡ k)) ⊎ ((eqb (length c) k ≡ false) × (length c ≢ k))
            → begun_by v (eqb (length c) k) s (carried c k) ≡ Some b
            → (carried c k ≡ Some b) ⊎ IsCarriedHere s (Some (Bare (D.Asked conn a))) c k b
        by None is at e = inl e
        by (Some q) is (inr w) e = inl (rw (w.0) at e)
        by (Some q) is (inl w) e =
            let made : record { since = s; request = q } ≡ b = some-is _ _ (rw (w.0) at e) in
            inr (record {
              conn = conn;
              ask = a;
              is = refl;
              sense = is ∙ ap (λ (b : Begun). Some b.request) made;
              since = ap (λ (b : Begun). b.since) (sym made);
              place = w.1;
            })

    pub carried-back : (l : List Noted) (k : ℕ) (b : Begun) → ArePlaced l → carried (copied home gs t l) k ≡ Some b → IsCopiedAsk l k b
    carried-back [] k b placed e = cc
    carried-back (x ∷ older) k b placed e =
        elim (carried-cases n s (copy_in home gs t n x) (copied home gs t older) k b e) [
          | inl w ↦ older-ask x older k b (carried-back older k b placed.0 w)
          | inr w ↦
              let it = copied-ask (has gs n) s x.written.deed x.note w.conn w.ask w.is in
              let begun : Some (record { since = s; request = b.request }) ≡ Some b = ap (λ (u : ℕ). Some (record { since = u; request = b.request })) (sym w.since) in
              record {
                number = n;
                listed = it.0;
                asked =
                    rw (eqb-itself n) (ap (λ (v : Option CoapRequest). begun_by v true s (asked_at older n)) (it.1 ∙ w.sense) ∙ begun);
                place = (placed.1 it.0).0 ∙ w.place;
              }
        ]
      where
        n : ℕ
        n = length older

        s : ℕ
        s = x.written.moment
