-- What a reading takes for new, or for a repeat, is so among its entries.
use Rattle.std.proofs.Common.{◌≡◌, ℕ, zero, suc, ◌+◌, ◌<◌, ◌⊎◌, Bool, true, false, cond, ◌&&◌, eqb, inl, inr, List, [], ◌∷◌, length, Option, Some, None, refl, sym, ap, subst, arith}
use Rattle.std.specs.Prelude.{nat_lt, ⊤}
use Rattle.std.proofs.lemmas.Bool.{false≢true, ltb-true, lt-ltb, and_parts}
use Rattle.limits.specs.declared.TheConstants.{EXCHANGE_LIFETIME}
use Rattle.coap_codec.specs.declared.message.MsgType.{MsgType}
use Rattle.coap_codec.specs.declared.message.MsgType.TheVariants.{Con, Non, Ack, Rst}
use Rattle.coap_codec.specs.Spelling.{Content, Spells}
use Rattle.coap_codec.proofs.Unique.{spells_one}
use Rattle.uri_map.specs.declared.peer.Peer.{Peer}
use Rattle.uri_map.specs.Peers.{same_peer}
use Rattle.uri_map.proofs.CallerLemmas.{same_peer-itself, same_peer-same}
use Rattle.journal_book.specs.Entries.{Mark, Ground, Past, Asked, Sent, Heard, done_of, Deed, Hears, Carries}
use Rattle.history_laws.specs.Readings.{Noted, Note, Says, Repeats, Garbled, Recalls, Notice, entries, at, before, noted}
use Rattle.history_laws.specs.Hearing.{is_such, is_live, bears, is_like, heard_before, repeated}
use Rattle.history_laws.specs.Justified.{MaySay, CopiedNote, Follows, Legal}
use Rattle.history_laws.proofs.CallerLemmas.{at-before, at-below, at-entries, at-keeps, at-new, at-old, at-same, at-still, eqb-itself, eqb-same, follows-at, length-before, none-is, none-some, some-is}
use Rattle.history_claims.specs.Headline.{IsHeard, WasHeard, MayRepeat, IsAlike, IsNew, anew, IsRepeat, again}
use Rattle.history_claims.proofs.Entries.{entries-at, own-or-copied}

-- what is heard is taken for a message of its own, or for a repeat
pub record SaysAt (l : List Noted) (p : Peer) (j t : ℕ) (m : Content) : Type 0 where
  pub bytes : List ℕ
  pub to : Option ℕ
  pub notice : Notice
  pub stands : at l j ≡ Some (noted t (Hears p bytes) (Says m to notice))
  pub may : MaySay (before l j) t p bytes (Says m to notice) m

pub record RepeatsAt (l : List Noted) (p : Peer) (j t : ℕ) (m : Content) : Type 0 where
  pub bytes : List ℕ
  pub first : ℕ
  pub stands : at l j ≡ Some (noted t (Hears p bytes) (Repeats m first))
  pub spelled : Spells m bytes
  pub repeats : repeated (before l j) t p m ≡ Some first

heard-as : (l : List Noted) (p : Peer) (j t : ℕ) (b : List ℕ) (m : Content) (note : Note)
    → at l j ≡ Some (noted t (Hears p b) note) → Spells m b → Follows (before l j) t (Hears p b) note
    → SaysAt l p j t m ⊎ RepeatsAt l p j t m
heard-as l p j t b m (Says n to notice) stands spelled may =
    inl (subst (λ (n : Content). SaysAt l p j t n) (spells_one n m b may.3.spelled spelled)
    (record { bytes = b; to = to; notice = notice; stands = stands; may = may.3 }))
heard-as l p j t b m (Repeats n i) stands spelled may =
    inr (subst (λ (n : Content). RepeatsAt l p j t n) (spells_one n m b may.3.0 spelled)
    (record { bytes = b; first = i; stands = stands; spelled = may.3.0; repeats = may.3.1 }))
heard-as l p j t b m Garbled stands spelled may = absurd (may.3.1 m spelled)
heard-as l p j t b m note stands spelled may = absurd may.3

pub heard-at : (l : List Noted) (p : Peer) (j t : ℕ) (m : Content) → Legal l → IsHeard (entries l) p j t m → SaysAt l p j t m ⊎ RepeatsAt l p j t m
heard-at l p j t m legal h =
    let there = entries-at l j _ h.stands in
    heard-as l p j t h.bytes m there.0 there.1 h.spelled (follows-at l j _ legal there.1)

pub heard-entry : (l : List Noted) (p : Peer) (j t : ℕ) (b : List ℕ) (m : Content) (note : Note) → at l j ≡ Some (noted t (Hears p b) note) → Spells m b
    → IsHeard (entries l) p j t m
heard-entry l p j t b m note stands spelled = record { bytes = b; stands = at-entries l j _ stands; spelled = spelled }

-- what is taken for new: it was heard, or is recalled where it is a copy
abbrev pub IsOwn : Peer → List ℕ → Content → Deed → Note → Type 0
IsOwn p b m (Hears q c) (Says n to notice) = (q ≡ p) × (c ≡ b) × (n ≡ m)
IsOwn p b m (Carries k mark (Heard q c)) (Recalls n a) = (q ≡ p) × (c ≡ b) × (n ≡ m)
IsOwn p b m d note = ⊥

pub record NewAt (l : List Noted) (p : Peer) (j t : ℕ) (m : Content) : Type 0 where
  pub bytes : List ℕ
  pub deed : Deed
  pub note : Note
  pub stands : at l j ≡ Some (noted t deed note)
  pub own : IsOwn p bytes m deed note
  pub spelled : Spells m bytes
  pub unheard : repeated (before l j) t p m ≡ None

own-heard : (p : Peer) (b : List ℕ) (m : Content) (d : Deed) (note : Note) → IsOwn p b m d note → done_of d ≡ Some (Heard p b)
own-heard p b m (Hears q c) (Says n to notice) own = subst (λ (r : Peer). Some (Heard q c) ≡ Some (Heard r b)) own.0 (ap (λ (x : List ℕ). Some (Heard q x)) own.1)
own-heard p b m (Hears q c) note own = absurd own
own-heard p b m (Carries k mark (Heard q c)) (Recalls n a) own = subst (λ (r : Peer). Some (Heard q c) ≡ Some (Heard r b)) own.0 (ap (λ (x : List ℕ). Some (Heard q x)) own.1)
own-heard p b m (Carries k mark (Heard q c)) note own = absurd own
own-heard p b m (Carries k mark (Sent q c w)) note own = absurd own
own-heard p b m (Carries k mark (Asked q c)) note own = absurd own
own-heard p b m d note own = absurd own

own-spelled : (l : List Noted) (t : ℕ) (p : Peer) (b : List ℕ) (m : Content) (d : Deed) (note : Note) → Follows l t d note → IsOwn p b m d note → Spells m b
own-spelled l t p b m (Hears q c) (Says n to notice) f own = subst (λ (x : Content). Spells x b) own.2 (subst (Spells n) own.1 f.3.spelled)
own-spelled l t p b m (Hears q c) note f own = absurd own
own-spelled l t p b m (Carries k Past (Heard q c)) (Recalls n a) f own = subst (λ (x : Content). Spells x b) own.2 (subst (Spells n) own.1 f.2.spelled)
own-spelled l t p b m (Carries k Ground (Heard q c)) (Recalls n a) f own = subst (λ (x : Content). Spells x b) own.2 (subst (Spells n) own.1 f.2.spelled)
own-spelled l t p b m (Carries k mark (Heard q c)) note f own = absurd own
own-spelled l t p b m (Carries k mark (Sent q c w)) note f own = absurd own
own-spelled l t p b m (Carries k mark (Asked q c)) note f own = absurd own
own-spelled l t p b m d note f own = absurd own

was-heard : (l : List Noted) (p : Peer) (j t : ℕ) (b : List ℕ) (m : Content) (d : Deed) (note : Note) → at l j ≡ Some (noted t d note) → IsOwn p b m d note → Spells m b
    → WasHeard (entries l) p j t m
was-heard l p j t b m d note stands own spelled = record {
  bytes = b;
  done = record { deed = d; stands = at-entries l j _ stands; says = own-heard p b m d note own };
  spelled = spelled;
}

recalled-as : (l : List Noted) (p : Peer) (j t k : ℕ) (b : List ℕ) (m : Content) (mark : Mark) (note : Note)
    → at l j ≡ Some (noted t (Carries k mark (Heard p b)) note) → Spells m b → CopiedNote (before l j) t mark (Heard p b) note → NewAt l p j t m
recalled-as l p j t k b m Past (Recalls n answer) stands spelled may =
    let one = spells_one n m b may.spelled spelled in
    record {
      bytes = b;
      deed = Carries k Past (Heard p b);
      note = Recalls n answer;
      stands = stands;
      own = (refl, refl, one);
      spelled = spelled;
      unheard = subst (λ (x : Content). repeated (before l j) t p x ≡ None) one may.unheard;
    }
recalled-as l p j t k b m Ground (Recalls n answer) stands spelled may =
    let one = spells_one n m b may.spelled spelled in
    record {
      bytes = b;
      deed = Carries k Ground (Heard p b);
      note = Recalls n answer;
      stands = stands;
      own = (refl, refl, one);
      spelled = spelled;
      unheard = subst (λ (x : Content). repeated (before l j) t p x ≡ None) one may.unheard;
    }
recalled-as l p j t k b m mark note stands spelled may = absurd may

said-new : (l : List Noted) (p : Peer) (j t : ℕ) (m : Content) → SaysAt l p j t m → NewAt l p j t m
said-new l p j t m s =
    record {
      bytes = s.bytes;
      deed = Hears p s.bytes;
      note = Says m s.to s.notice;
      stands = s.stands;
      own = (refl, refl, refl);
      spelled = s.may.spelled;
      unheard = s.may.unheard;
    }

was-heard-at : (l : List Noted) (p : Peer) (j t : ℕ) (m : Content) → Legal l → WasHeard (entries l) p j t m → NewAt l p j t m ⊎ RepeatsAt l p j t m
was-heard-at l p j t m legal h =
    elim (own-or-copied (entries l) j t (Heard p h.bytes) h.done) [
      | inl own ↦ elim (heard-at l p j t m legal (record { bytes = h.bytes; stands = own; spelled = h.spelled })) [
        | inl s ↦ inl (said-new l p j t m s)
        | inr r ↦ inr r
      ]
      | inr old ↦
          let there = entries-at l j _ old.2 in
          inl (recalled-as l p j t old.0 h.bytes m old.1 there.0 there.1 h.spelled (follows-at l j _ legal there.1).2)
    ]

-- what may come again
such : (k : MsgType) → MayRepeat k → is_such k ≡ true
such Con h = refl
such Non h = refl
such Ack h = absurd h
such Rst h = absurd h

may-repeat : (k : MsgType) → is_such k ≡ true → MayRepeat k
may-repeat Con e = tt
may-repeat Non e = tt
may-repeat Ack e = absurd (false≢true e)
may-repeat Rst e = absurd (false≢true e)

-- a like one is found
like-said : (t s : ℕ) (p q : Peer) (m n : Content) (mid : ℕ) → MayRepeat m.kind → t < s + EXCHANGE_LIFETIME → m.mid ≡ mid → q ≡ p → n ≡ m
    → ((is_such n.kind && (same_peer q p && nat_lt t (s + EXCHANGE_LIFETIME))) && eqb n.mid mid) ≡ true
like-said t s p q m n mid kind recent id peer one =
    subst (λ (x : Content). ((is_such x.kind && (same_peer q p && nat_lt t (s + EXCHANGE_LIFETIME))) && eqb x.mid mid) ≡ true) (sym one)
    (subst (λ (r : Peer). ((is_such m.kind && (same_peer r p && nat_lt t (s + EXCHANGE_LIFETIME))) && eqb m.mid mid) ≡ true) (sym peer)
    (rw (such m.kind kind, same_peer-itself p, lt-ltb t (s + EXCHANGE_LIFETIME) recent, id) (eqb-itself mid)))

like-one : (t s : ℕ) (p : Peer) (b : List ℕ) (m : Content) (d : Deed) (note : Note) (mid : ℕ) → IsOwn p b m d note → MayRepeat m.kind
    → t < s + EXCHANGE_LIFETIME → m.mid ≡ mid → is_like t p mid (noted s d note) ≡ true
like-one t s p b m (Hears q c) (Says n to notice) mid own kind recent id = like-said t s p q m n mid kind recent id own.0 own.2
like-one t s p b m (Hears q c) note mid own kind recent id = absurd own
like-one t s p b m (Carries k mark (Heard q c)) (Recalls n a) mid own kind recent id = like-said t s p q m n mid kind recent id own.0 own.2
like-one t s p b m (Carries k mark (Heard q c)) note mid own kind recent id = absurd own
like-one t s p b m (Carries k mark (Sent q c w)) note mid own kind recent id = absurd own
like-one t s p b m (Carries k mark (Asked q c)) note mid own kind recent id = absurd own
like-one t s p b m d note mid own kind recent id = absurd own

heard-any : (l : List Noted) (i : ℕ) (x : Noted) (t : ℕ) (p : Peer) (mid : ℕ) → at l i ≡ Some x → is_like t p mid x ≡ true
    → heard_before l t p mid ≡ None → ⊥
heard-any [] i x t p mid e like none = none-some x e
heard-any (y ∷ older) i x t p mid e like none =
    elim (at-old y older i x e) [
      | inl w ↦
          let here : is_like t p mid y ≡ true = subst (λ (x : Noted). is_like t p mid x ≡ true) (sym w.1) like in
          none-is (length older) (subst (λ (b : Bool). cond b (Some (length older)) (heard_before older t p mid) ≡ None) here none)
      | inr w ↦ go (is_like t p mid y) none (λ n. heard-any older i x t p mid w like n)
    ]
  where
    go : (b : Bool) → cond b (Some (length older)) (heard_before older t p mid) ≡ None → (heard_before older t p mid ≡ None → ⊥) → ⊥
    go true n ih = none-is _ n
    go false n ih = ih n

-- and what is found is a like one
record Found (l : List Noted) (t : ℕ) (p : Peer) (mid i : ℕ) : Type 0 where
  moment : ℕ
  bytes : List ℕ
  message : Content
  deed : Deed
  note : Note
  stands : at l i ≡ Some (noted moment deed note)
  own : IsOwn p bytes message deed note
  kind : MayRepeat message.kind
  recent : t < moment + EXCHANGE_LIFETIME
  id : message.mid ≡ mid

found-keeps : (x : Noted) (l : List Noted) (t : ℕ) (p : Peer) (mid i : ℕ) → Found l t p mid i → Found (x ∷ l) t p mid i
found-keeps x l t p mid i h = record {
  moment = h.moment;
  bytes = h.bytes;
  message = h.message;
  deed = h.deed;
  note = h.note;
  stands = at-keeps x l i _ h.stands;
  own = h.own;
  kind = h.kind;
  recent = h.recent;
  id = h.id;
}

record Likeness (t s : ℕ) (p q : Peer) (m : Content) (mid : ℕ) : Type 0 where
  peer : q ≡ p
  kind : MayRepeat m.kind
  recent : t < s + EXCHANGE_LIFETIME
  id : m.mid ≡ mid

likeness : (t s : ℕ) (p q : Peer) (m : Content) (mid : ℕ) → ((is_such m.kind && (same_peer q p && nat_lt t (s + EXCHANGE_LIFETIME))) && eqb m.mid mid) ≡ true
    → Likeness t s p q m mid
likeness t s p q m mid e =
    let both = and_parts (is_such m.kind && (same_peer q p && nat_lt t (s + EXCHANGE_LIFETIME))) (eqb m.mid mid) e in
    let live = and_parts (is_such m.kind) (same_peer q p && nat_lt t (s + EXCHANGE_LIFETIME)) both.0 in
    let near = and_parts (same_peer q p) (nat_lt t (s + EXCHANGE_LIFETIME)) live.1 in
    record {
      peer = same_peer-same q p near.0;
      kind = may-repeat m.kind live.0;
      recent = ltb-true t (s + EXCHANGE_LIFETIME) near.1;
      id = eqb-same m.mid mid both.1;
    }

found-new : (l : List Noted) (t : ℕ) (p : Peer) (mid s : ℕ) (d : Deed) (note : Note) → (is_live t p s d note && bears mid note) ≡ true
    → Found (noted s d note ∷ l) t p mid (length l)
found-new l t p mid s (Hears q b) (Says m to notice) e =
    let like = likeness t s p q m mid e in
    record {
      moment = s;
      bytes = b;
      message = m;
      deed = Hears q b;
      note = Says m to notice;
      stands = at-new (noted s (Hears q b) (Says m to notice)) l;
      own = (like.peer, refl, refl);
      kind = like.kind;
      recent = like.recent;
      id = like.id;
    }
found-new l t p mid s (Hears q b) note e = absurd (false≢true e)
found-new l t p mid s (Carries k mark (Heard q b)) (Recalls m a) e =
    let like = likeness t s p q m mid e in
    record {
      moment = s;
      bytes = b;
      message = m;
      deed = Carries k mark (Heard q b);
      note = Recalls m a;
      stands = at-new (noted s (Carries k mark (Heard q b)) (Recalls m a)) l;
      own = (like.peer, refl, refl);
      kind = like.kind;
      recent = like.recent;
      id = like.id;
    }
found-new l t p mid s (Carries k mark (Heard q b)) note e = absurd (false≢true e)
found-new l t p mid s (Carries k mark (Sent q b w)) note e = absurd (false≢true e)
found-new l t p mid s (Carries k mark (Asked q b)) note e = absurd (false≢true e)
found-new l t p mid s d note e = absurd (false≢true e)

found-before : (l : List Noted) (t : ℕ) (p : Peer) (mid i : ℕ) → heard_before l t p mid ≡ Some i → Found l t p mid i
found-before [] t p mid i e = absurd (none-some i e)
found-before (x ∷ older) t p mid i e = go (is_like t p mid x) refl e (λ f. found-before older t p mid i f)
  where
    go : (b : Bool) → is_like t p mid x ≡ b → cond b (Some (length older)) (heard_before older t p mid) ≡ Some i
        → (heard_before older t p mid ≡ Some i → Found older t p mid i) → Found (x ∷ older) t p mid i
    go true like f ih =
        subst (Found (x ∷ older) t p mid) (some-is (length older) i f)
        (found-new older t p mid x.written.moment x.written.deed x.note like)
    go false like f ih = found-keeps x older t p mid i (ih f)

-- a message of its own repeats none
abbrev pub Said : Note → Type 0
Said (Says m to notice) = ⊤
Said (Recalls m a) = ⊤
Said _ = ⊥

own-said : (p : Peer) (b : List ℕ) (m : Content) (d : Deed) (note : Note) → IsOwn p b m d note → Said note
own-said p b m (Hears q c) (Says n to notice) own = tt
own-said p b m (Hears q c) note own = absurd own
own-said p b m (Carries k mark (Heard q c)) (Recalls n a) own = tt
own-said p b m (Carries k mark (Heard q c)) note own = absurd own
own-said p b m (Carries k mark (Sent q c w)) note own = absurd own
own-said p b m (Carries k mark (Asked q c)) note own = absurd own
own-said p b m d note own = absurd own

alike-none : (l : List Noted) (p : Peer) (i j : ℕ) (alike : IsAlike (entries l) p i j) → NewAt l p i alike.moment alike.first
    → NewAt l p j alike.later alike.second → ⊥
alike-none l p i j alike a b =
    let old = at-still l j i _ _ b.stands alike.earlier a.stands in
    let like = like-one alike.later alike.moment p a.bytes alike.first a.deed a.note alike.second.mid a.own alike.kinds.0 alike.recent alike.id in
    heard-any (before l j) i _ alike.later p alike.second.mid old like
    (subst (λ (b : Bool). cond b (heard_before (before l j) alike.later p alike.second.mid) None ≡ None) (such alike.second.kind alike.kinds.1) b.unheard)

new-step : (l : List Noted) (p : Peer) (j : ℕ) (x : Noted) → Legal l → at l j ≡ Some x → Said x.note
    → ((i t : ℕ) (m : Content) → i < j → RepeatsAt l p i t m → IsRepeat (entries l) p i) → IsNew (entries l) p j
new-step l p j x legal here said ih =
    anew (λ i alike. elim (was-heard-at l p i alike.moment alike.first legal alike.heard_first) [
      | inl a ↦ elim (was-heard-at l p j alike.later alike.second legal alike.heard_second) [
        | inl b ↦ absurd (alike-none l p i j alike a b)
        | inr b ↦ absurd (subst (λ (x : Noted). Said x.note) (at-same l j _ _ here b.stands) said)
      ]
      | inr a ↦ ih i alike.moment alike.first alike.earlier a
    ])

-- a repeat repeats one of its own
repeat-step : (l : List Noted) (p : Peer) (j t : ℕ) (m : Content) → Legal l → RepeatsAt l p j t m
    → ((i : ℕ) (x : Noted) → i < j → at l i ≡ Some x → Said x.note → IsNew (entries l) p i) → IsRepeat (entries l) p j
repeat-step l p j t m legal h ih = go (is_such m.kind) refl h.repeats
  where
    go : (b : Bool) → is_such m.kind ≡ b → cond b (heard_before (before l j) t p m.mid) None ≡ Some h.first → IsRepeat (entries l) p j
    go false is e = absurd (none-some h.first e)
    go true is e =
        let it = found-before (before l j) t p m.mid h.first e in
        let stands = at-before l j h.first _ it.stands in
        let below = subst (λ (n : ℕ). h.first < n) (length-before l j _ h.stands) (at-below (before l j) h.first _ it.stands) in
        let spelled = own-spelled (before l h.first) it.moment p it.bytes it.message it.deed it.note (follows-at l h.first _ legal stands) it.own in
        again h.first
        (record {
          earlier = below;
          moment = it.moment;
          first = it.message;
          heard_first = was-heard l p h.first it.moment it.bytes it.message it.deed it.note stands it.own spelled;
          later = t;
          second = m;
          heard_second = record { bytes = h.bytes; done = record { deed = Hears p h.bytes; stands = at-entries l j _ h.stands; says = refl }; spelled = h.spelled };
          kinds = (it.kind, may-repeat m.kind is);
          id = it.id;
          recent = it.recent;
        })
        (ih h.first _ below stands (own-said p it.bytes it.message it.deed it.note it.own))

abbrev Known : List Noted → Peer → ℕ → Type 0
Known l p n =
    ((j : ℕ) (x : Noted) → j < n → at l j ≡ Some x → Said x.note → IsNew (entries l) p j)
    × ((j t : ℕ) (m : Content) → j < n → RepeatsAt l p j t m → IsRepeat (entries l) p j)

known : (n : ℕ) (l : List Noted) (p : Peer) → Legal l → Known l p n
known zero l p legal = (λ j x lt e s. absurd (omega (arith, lt)), λ j t m lt r. absurd (omega (arith, lt)))
known (suc n) l p legal =
    let ih = known n l p legal in (
      λ j x lt e said. new-step l p j x legal e said (λ i t m less r. ih.1 i t m (omega (arith, lt, less)) r),
      λ j t m lt r. repeat-step l p j t m legal r (λ i x less e said. ih.0 i x (omega (arith, lt, less)) e said),
    )

pub says-new : (l : List Noted) (p : Peer) (j : ℕ) (x : Noted) → Legal l → at l j ≡ Some x → Said x.note → IsNew (entries l) p j
says-new l p j x legal e said = (known (suc j) l p legal).0 j x (omega arith) e said

pub repeats-again : (l : List Noted) (p : Peer) (j t : ℕ) (m : Content) → Legal l → RepeatsAt l p j t m → IsRepeat (entries l) p j
repeats-again l p j t m legal h = (known (suc j) l p legal).1 j t m (omega arith) h
