-- Messages on their way: at each peer one, which is the last that was sent to it.
use Rattle.std.proofs.lemmas.Bool.{false≢true}
use Rattle.std.proofs.Common.{◌≡◌, ℕ, ◌<◌, ◌≤◌, ◌⊎◌, Bool, true, false, cond, inl, inr, List, [], ◌∷◌, length, Option, Some, None, is_some, refl, sym, ap, subst, ◌∙◌, arith}
use Rattle.std.specs.Prelude.{option_map}
use Rattle.std.proofs.lemmas.Bool.Decides.{eqb_tells}
use Rattle.limits.specs.declared.TheConstants.{MAX_RETRANSMIT}
use Rattle.coap_codec.specs.Spelling.{Content}
use Rattle.uri_map.specs.declared.peer.Peer.{Peer}
use Rattle.uri_map.specs.Peers.{same_peer}
use Rattle.uri_map.proofs.CallerLemmas.{same_peer-same, same_peer-itself}
use Rattle.journal_book.specs.Entries.{Deed, Sends, Hears, Passes, Opens, Asks, Answers, Shuts, Seals, Carries}
use Rattle.history_laws.specs.Readings.{Noted, Note, First, Copies, Says, noted, carries, are_copies}
use Rattle.history_laws.specs.Transmissions.{FirstSending, last_sent, Transmission, begun_way, copied_way, given_up, transmission_by, transmission, outstanding}
use Rattle.history_laws.specs.Justified.{MayBeFirst, MayBeCopy, Follows, Legal}
use Rattle.history_laws.specs.Laws.{IsFirst}
use Rattle.history_laws.proofs.Resting.{some-is, none-is, none-some, and-left, and-right}
use Rattle.history_laws.proofs.Facts.{IsFirst-below}
use Rattle.history_laws.proofs.Sendings.{IsFirst-old, may-be}
use Rattle.history_laws.proofs.Elements.{is-some}

-- how a message came to be outstanding: by its first sending, by a copy, or before
pub record WayBegun (x : Noted) (l : List Noted) (i : ℕ) (y : Transmission) : Type 0 where
  pub peer : Peer
  pub bytes : List ℕ
  pub timeout : Option ℕ
  pub opening : ℕ
  pub message : Content
  pub here : length l ≡ i
  pub entry : x ≡ noted x.written.moment (Sends peer bytes timeout) (First opening message)
  pub is : begun_way timeout x.written.moment ≡ y

pub record WayCopied (x : Noted) (l : List Noted) (i : ℕ) (y : Transmission) : Type 0 where
  pub peer : Peer
  pub bytes : List ℕ
  pub timeout : Option ℕ
  pub way : Transmission
  pub entry : x ≡ noted x.written.moment (Sends peer bytes timeout) (Copies i)
  pub was : transmission l i ≡ Some way
  pub is : copied_way x.written.moment way ≡ y

abbrev pub Way : Noted → List Noted → ℕ → Transmission → Type 0
Way x l i y = WayBegun x l i y ⊎ (WayCopied x l i y ⊎ (transmission l i ≡ Some y))

way-step : (l : List Noted) (t : ℕ) (d : Deed) (note : Note) (i : ℕ) (y : Transmission)
    → transmission_by i (length l) t d note (transmission l i) ≡ Some y → Way (noted t d note) l i y
way-step l t (Sends p b w) (First o m) i y e =
    elim (eqb_tells (length l) i) [
      | inl u ↦ inl (record { peer = p; bytes = b; timeout = w; opening = o; message = m; here = u.1; entry = refl; is = some-is _ _ (rw (u.0) at e) })
      | inr u ↦ inr (inr (rw (u.0) at e))
    ]
way-step l t (Sends p b w) (Copies j) i y e =
    elim (eqb_tells j i) [
      | inl u ↦ inr (inl (go (transmission l i) refl (rw (u.0) at e) u.1))
      | inr u ↦ inr (inr (rw (u.0) at e))
    ]
  where
    go : (old : Option Transmission) → transmission l i ≡ old → option_map (copied_way t) old ≡ Some y → j ≡ i
        → WayCopied (noted t (Sends p b w) (Copies j)) l i y
    go None was f same = cc
    go (Some z) was f same =
        record { peer = p; bytes = b; timeout = w; way = z; entry = ap (λ (j : ℕ). noted t (Sends p b w) (Copies j)) same; was = was; is = some-is _ _ f }
way-step l t (Hears p b) (Says m (Some j) notice) i y e =
    elim (eqb_tells j i) [
      | inl u ↦ absurd (none-some _ (rw (u.0) at e))
      | inr u ↦ inr (inr (rw (u.0) at e))
    ]
way-step l t Passes note i y e = go (given_up t (transmission l i)) e
  where
    go : (b : Bool) → cond b None (transmission l i) ≡ Some y → Way (noted t Passes note) l i y
    go true f = cc
    go false f = inr (inr f)
way-step l t d note i y e = inr (inr e)

pub way-cases : (x : Noted) (l : List Noted) (i : ℕ) (y : Transmission) → transmission (x ∷ l) i ≡ Some y → Way x l i y
way-cases x l i y e = way-step l x.written.moment x.written.deed x.note i y e

-- Nothing that is copied is on its way.
copies-step : (i n t : ℕ) (d : Deed) (note : Note) (old : Option Transmission) → carries d ≡ true → old ≡ None → transmission_by i n t d note old ≡ None
copies-step i n t (Carries k mark done) note old c e = e
copies-step i n t (Sends p b w) note old c e = absurd (false≢true c)
copies-step i n t (Hears p b) note old c e = absurd (false≢true c)
copies-step i n t Passes note old c e = absurd (false≢true c)
copies-step i n t (Opens k) note old c e = absurd (false≢true c)
copies-step i n t (Asks k a) note old c e = absurd (false≢true c)
copies-step i n t (Answers k a g) note old c e = absurd (false≢true c)
copies-step i n t (Shuts k) note old c e = absurd (false≢true c)
copies-step i n t Seals note old c e = absurd (false≢true c)

pub copies-way : (l : List Noted) (i : ℕ) → are_copies l ≡ true → transmission l i ≡ None
copies-way [] i h = refl
copies-way (x ∷ older) i h =
    copies-step i (length older) x.written.moment x.written.deed x.note (transmission older i) (and-left (carries x.written.deed) _ h)
    (copies-way older i (and-right (carries x.written.deed) _ h))

-- the last that was sent to the peer has this number
abbrev pub IsLast : List Noted → Peer → ℕ → Type 0
IsLast l p i = (f : FirstSending) × (last_sent l p ≡ Some f) × (f.number ≡ i)

found-out : (l : List Noted) (p : Peer) (f : FirstSending) (y : Transmission) → last_sent l p ≡ Some f → transmission l f.number ≡ Some y
    → outstanding l p ≡ Some f
found-out l p f y e g = rw (e, g) refl

not-free : (l : List Noted) (p : Peer) (i : ℕ) (y : Transmission) → IsLast l p i → transmission l i ≡ Some y → outstanding l p ≡ None → ⊥
not-free l p i y h e free =
    none-is h.0 (sym (found-out l p h.0 y h.1 (subst (λ (i : ℕ). transmission l i ≡ Some y) (sym h.2) e)) ∙ free)

last-step : (l : List Noted) (t : ℕ) (d : Deed) (note : Note) (p : Peer) (i : ℕ) (y : Transmission) → Follows l t d note
    → IsLast l p i → transmission l i ≡ Some y → IsLast (noted t d note ∷ l) p i
last-step l t (Sends r b w) (First q n) p i y may h e = go (same_peer r p) refl
  where
    go : (s : Bool) → same_peer r p ≡ s → IsLast (noted t (Sends r b w) (First q n) ∷ l) p i
    go true same =
        absurd (not-free l p i y h e (subst (λ (r : Peer). outstanding l r ≡ None) (same_peer-same r p same) may.1.1.free))
    go false other = (h.0, rw other (h.1), h.2)
last-step l t (Carries k mark done) note p i y may h e = absurd (none-some y (sym (copies-way l i may.0) ∙ e))
last-step l t d note p i y may h e = h

last-new : (l : List Noted) (t o : ℕ) (p : Peer) (b : List ℕ) (w : Option ℕ) (m : Content) → IsLast (noted t (Sends p b w) (First o m) ∷ l) p (length l)
last-new l t o p b w m =
    (record { number = length l; moment = t; opening = o; peer = p; message = m }, rw (same_peer-itself p) refl, refl)

-- What is outstanding at a peer is the last that was sent to it.
pub outstanding-last : (l : List Noted) (s o i : ℕ) (p : Peer) (m : Content) (y : Transmission) → Legal l → IsFirst l s o i p m
    → transmission l i ≡ Some y → IsLast l p i
outstanding-last [] s o i p m y legal f e = cc (f.stands)
outstanding-last (x ∷ older) s o i p m y legal f e =
    elim (IsFirst-old x older s o i p m f) [
      | inl u ↦
          let new : IsLast (x ∷ older) p (length older) =
          subst (λ (v : Noted). IsLast (v ∷ older) p (length older)) (sym u.1.2) (last-new older s o p u.1.0 u.1.1 m) in
          subst (λ (i : ℕ). IsLast (x ∷ older) p i) (sym u.0) new
      | inr u ↦
          let below = IsFirst-below older s o i p m u in
          let was : (z : Transmission) → transmission older i ≡ Some z → IsLast (x ∷ older) p i =
          λ z g. last-step older x.written.moment x.written.deed x.note p i z legal.2 (outstanding-last older s o i p m z legal.0 u g) g in
          elim (way-cases x older i y e) [
            | inl v ↦ let here = v.here in absurd (omega (arith, below, here))
            | inr (inl v) ↦ was v.way v.was
            | inr (inr v) ↦ was y v
          ]
    ]

pub one-outstanding : (l : List Noted) (s t o i q j : ℕ) (p : Peer) (m n : Content) → Legal l → IsFirst l s o i p m → IsFirst l t q j p n
    → is_some (transmission l i) ≡ true → is_some (transmission l j) ≡ true → i ≡ j
one-outstanding l s t o i q j p m n legal f g e h =
    let x = is-some (transmission l i) e in
    let y = is-some (transmission l j) h in
    let a = outstanding-last l s o i p m x.0 legal f x.1 in
    let b = outstanding-last l t q j p n y.0 legal g y.1 in
    sym a.2 ∙ (ap (λ (f : FirstSending). f.number) (some-is a.0 b.0 (sym a.1 ∙ b.1)) ∙ b.2)

-- few copies, and a timeout of two seconds or more
pub record Sound (y : Transmission) : Type 0 where
  pub few : y.copies ≤ MAX_RETRANSMIT
  pub least : 2000 ≤ y.timeout

may-copy : (x : Noted) (l : List Noted) (t i : ℕ) (p : Peer) (b : List ℕ) (w : Option ℕ) → Follows l x.written.moment x.written.deed x.note
    → x ≡ noted t (Sends p b w) (Copies i) → MayBeCopy l i p b
may-copy x l t i p b w may e =
    let f : Follows l t (Sends p b w) (Copies i) = subst (λ (v : Noted). Follows l v.written.moment v.written.deed v.note) e may in
    f.1.2

sound-first : (l : List Noted) (t o : ℕ) (p : Peer) (b : List ℕ) (m : Content) (w : Option ℕ) → MayBeFirst l t o p b m w → Sound (begun_way w t)
sound-first l t o p b m w may =
    subst (λ (w : Option ℕ). Sound (begun_way w t)) (sym may.first_wait) (record { few = omega arith; least = may.least })

sound-copy : (l : List Noted) (t i : ℕ) (p : Peer) (b : List ℕ) (y : Transmission) → MayBeCopy l i p b → transmission l i ≡ Some y → Sound y
    → Sound (copied_way t y)
sound-copy l t i p b y may e h =
    let few = subst (λ (v : Transmission). v.copies < MAX_RETRANSMIT) (some-is _ _ (sym may.is_outstanding ∙ e)) may.few in
    record { few = omega (arith, few); least = h.least }

pub sound : (l : List Noted) (i : ℕ) (y : Transmission) → Legal l → transmission l i ≡ Some y → Sound y
sound [] i y legal e = absurd (none-some y e)
sound (x ∷ older) i y legal e =
    elim (way-cases x older i y e) [
      | inl v ↦ subst Sound v.is (sound-first older x.written.moment v.opening v.peer v.bytes v.message v.timeout
          (may-be x older x.written.moment v.opening v.peer v.bytes v.timeout v.message legal.2 v.entry))
      | inr (inl v) ↦ subst Sound v.is (sound-copy older x.written.moment i v.peer v.bytes v.way
          (may-copy x older x.written.moment i v.peer v.bytes v.timeout legal.2 v.entry) v.was (sound older i v.way legal.0 v.was))
      | inr (inr v) ↦ sound older i y legal.0 v
    ]

pub few-copies : (l : List Noted) (i : ℕ) (y : Transmission) → Legal l → transmission l i ≡ Some y → y.copies ≤ MAX_RETRANSMIT
few-copies l i y legal e = (sound l i y legal e).few
