-- Whatever sends a message does so within 49 seconds of its first sending.
use Rattle.std.proofs.Common.{◌≡◌, ℕ, zero, suc, eqb, ◌+◌, ◌*◌, ◌^◌, ◌<◌, ◌≤◌, inl, inr, List, [], ◌∷◌, length, Option, Some, refl, sym, ap, subst, ◌∙◌, arith}
use Rattle.std.specs.Prelude.{⊤}
use Rattle.std.specs.List.{Contains}
use Rattle.limits.specs.declared.TheConstants.{MAX_RETRANSMIT, LONGEST_ACK_TIMEOUT}
use Rattle.std.proofs.lemmas.Bool.Decides.{eqb_tells}
use Rattle.coap_codec.specs.Spelling.{Content, Spells}
use Rattle.coap_codec.proofs.Unique.{spells_one}
use Rattle.uri_map.specs.declared.peer.Peer.{Peer}
use Rattle.journal_book.specs.Entries.{Deed, Sends}
use Rattle.history_laws.specs.Readings.{Noted, Note, First, Copies, Confirms, Plain, Begins, Renews, Joins, Serves, Says, Repeats, Garbled, Bygone, Recalls, noted, at, before, newest}
use Rattle.history_laws.specs.Transmissions.{FirstSending, firsts, Transmission, begun_way, copied_way, due, transmission}
use Rattle.history_laws.specs.Justified.{MayBeFirst, MayBeCopy, Follows, Legal}
use Rattle.history_laws.specs.Laws.{IsFirst}
use Rattle.history_laws.proofs.CallerLemmas.{at-before, at-below, at-new, at-newest, at-old, at-same, find-some, first-found, firsts-tokens, follows-at, IsFirst-below, IsFirst-old, legal-before, length-before, may-be, none-some, some-is, way-cases, way-first}
use Rattle.story_laws.specs.Lateness.{IsPunctual, ArePunctual, SendsMessage}
use Rattle.story_laws.specs.declared.TheConstants.{LATEST_COPY, LONGEST_SENDING}

-- ---- how late copies are

-- how long after the first sending so many copies may have gone out
allowed : ℕ → ℕ
allowed zero = 0
allowed (suc zero) = 4000
allowed (suc (suc zero)) = 11000
allowed (suc (suc (suc zero))) = 24000
allowed (suc (suc (suc (suc n)))) = 49000

-- one more
once-more : (c timeout : ℕ) → c < 4 → timeout ≤ 3000 → allowed c + timeout * 2 ^ c + 1000 ≤ allowed (suc c)
unfolding allowed
once-more zero timeout few least = omega (arith, least)
once-more (suc zero) timeout few least = omega (arith, least)
once-more (suc (suc zero)) timeout few least = omega (arith, least)
once-more (suc (suc (suc zero))) timeout few least = omega (arith, least)
once-more (suc (suc (suc (suc n)))) timeout few least = absurd (omega (arith, few))

all-allowed : (c : ℕ) → allowed c ≤ 49000
unfolding allowed
all-allowed zero = omega arith
all-allowed (suc zero) = omega arith
all-allowed (suc (suc zero)) = omega arith
all-allowed (suc (suc (suc zero))) = omega arith
all-allowed (suc (suc (suc (suc n)))) = omega arith

-- what is outstanding after a first sending at this moment
record Spent (s : ℕ) (y : Transmission) : Type 0 where
  short : y.timeout ≤ 3000
  last : y.last ≤ s + allowed y.copies

copy-may : (x : Noted) (l : List Noted) (t i : ℕ) (p : Peer) (b : List ℕ) (w : Option ℕ) → Follows l x.written.moment x.written.deed x.note
    → x ≡ noted t (Sends p b w) (Copies i) → MayBeCopy l i p b
copy-may x l t i p b w may e =
    let f : Follows l t (Sends p b w) (Copies i) = subst (λ (v : Noted). Follows l v.written.moment v.written.deed v.note) e may in
    f.1.2

spent-first : (l : List Noted) (t o : ℕ) (p : Peer) (b : List ℕ) (m : Content) (w : Option ℕ) → MayBeFirst l t o p b m w → Spent t (begun_way w t)
unfolding allowed
spent-first l t o p b m w may =
    let least = may.greatest in
    subst (λ (w : Option ℕ). Spent t (begun_way w t)) (sym may.first_wait) (record { short = omega (arith, least); last = omega arith })

spent-copy : (l : List Noted) (s t i : ℕ) (p : Peer) (b : List ℕ) (y : Transmission) → MayBeCopy l i p b → transmission l i ≡ Some y
    → t ≤ due y + LATEST_COPY → Spent s y → Spent s (copied_way t y)
spent-copy l s t i p b y may e late h =
    let few = subst (λ (v : Transmission). v.copies < MAX_RETRANSMIT) (some-is _ _ (sym may.is_outstanding ∙ e)) may.few in
    let last = h.last in
    let step = once-more y.copies y.timeout (omega (arith, few)) h.short in
    let same : allowed (y.copies + 1) ≡ allowed (suc y.copies) = ap allowed (omega arith) in
    record { short = h.short; last = omega (arith, last, step, late, same) }

-- the newest entry is a copy: it is punctual
prompt : (x : Noted) (l : List Noted) (t i : ℕ) (p : Peer) (b : List ℕ) (w : Option ℕ) (y : Transmission) → IsPunctual l x.written.moment x.note
    → x ≡ noted t (Sends p b w) (Copies i) → transmission l i ≡ Some y → x.written.moment ≤ due y + LATEST_COPY
prompt x l t i p b w y h e way =
    let f : IsPunctual l t (Copies i) = subst (λ (v : Noted). IsPunctual l v.written.moment v.note) e h in
    subst (λ (v : Noted). v.written.moment ≤ due y + LATEST_COPY) (sym e) (f y way)

spent : (l : List Noted) (s o i : ℕ) (p : Peer) (m : Content) (y : Transmission) → Legal l → ArePunctual l → IsFirst l s o i p m
    → transmission l i ≡ Some y → Spent s y
spent [] s o i p m y legal prompts f e = absurd (none-some y e)
spent (x ∷ older) s o i p m y legal prompts f e =
    elim (IsFirst-old x older s o i p m f) [
      | inl u ↦ elim (way-cases x older i y e) [
        | inl v ↦
            let same : x.written.moment ≡ s = ap (λ (z : Noted). z.written.moment) u.1.2 in
            subst (λ (s : ℕ). Spent s y) same (subst (Spent x.written.moment) v.is (spent-first older x.written.moment v.opening v.peer v.bytes v.message v.timeout
            (may-be x older x.written.moment v.opening v.peer v.bytes v.timeout v.message legal.2 v.entry)))
        | inr (inl v) ↦ absurd (too-new v.way v.was u.0)
        | inr (inr v) ↦ absurd (too-new y v u.0)
      ]
      | inr u ↦ elim (way-cases x older i y e) [
        | inl v ↦ let here = v.here in let below = IsFirst-below older s o i p m u in absurd (omega (arith, here, below))
        | inr (inl v) ↦ subst (Spent s) v.is (spent-copy older s x.written.moment i v.peer v.bytes v.way
            (copy-may x older x.written.moment i v.peer v.bytes v.timeout legal.2 v.entry) v.was
            (prompt x older x.written.moment i v.peer v.bytes v.timeout v.way prompts.1 v.entry v.was)
            (spent older s o i p m v.way legal.0 prompts.0 u v.was))
        | inr (inr v) ↦ spent older s o i p m y legal.0 prompts.0 u v
      ]
    ]
  where
    too-new : (z : Transmission) → transmission older i ≡ Some z → i ≡ length older → ⊥
    too-new z was here =
        let old = way-first older i z was in
        let below = IsFirst-below older old.0 old.1 i old.2 old.3 old.4 in
        omega (arith, here, below)

-- ---- what came before an entry

punctual-before : (l : List Noted) (n : ℕ) → ArePunctual l → ArePunctual (before l n)
punctual-before [] n h = h
punctual-before (y ∷ older) n h =
    elim (eqb_tells n (length older)) [ inl w ↦ rw (w.0) (h.0) | inr w ↦ rw (w.0) (punctual-before older n h.0) ]

punctual-at : (l : List Noted) (n : ℕ) (x : Noted) → ArePunctual l → at l n ≡ Some x → IsPunctual (before l n) x.written.moment x.note
punctual-at [] n x h e = absurd (none-some x e)
punctual-at (y ∷ older) n x h e =
    elim (eqb_tells n (length older)) [
      | inl w ↦
          let same = some-is y x (rw (w.0) at e) in
          rw (w.0) (subst (λ (v : Noted). IsPunctual older v.written.moment v.note) same h.1)
      | inr w ↦ rw (w.0) (punctual-at older n x h.0 (rw (w.0) at e))
    ]

moment-at : (l : List Noted) (n : ℕ) (x : Noted) → Legal l → at l n ≡ Some x → newest (before l n) ≤ x.written.moment
moment-at [] n x legal e = absurd (none-some x e)
moment-at (y ∷ older) n x legal e =
    elim (eqb_tells n (length older)) [
      | inl w ↦
          let same = some-is y x (rw (w.0) at e) in
          rw (w.0) (subst (λ (v : Noted). newest older ≤ v.written.moment) same legal.1)
      | inr w ↦ rw (w.0) (moment-at older n x legal.0 (rw (w.0) at e))
    ]

-- ---- first sendings of one message are one

abbrev pub sending_of : ℕ → ℕ → ℕ → Peer → Content → FirstSending
sending_of i t o p m = record { number = i; moment = t; opening = o; peer = p; message = m }

pub first-member : (l : List Noted) (t o i : ℕ) (p : Peer) (m : Content) → IsFirst l t o i p m → Contains (firsts l) (sending_of i t o p m)
first-member l t o i p m f =
    (find-some (λ (g : FirstSending). eqb g.number i) (firsts l) (sending_of i t o p m) (first-found l t o i p m f)).0

pub first-same : (l : List Noted) (s t o q i j : ℕ) (p r : Peer) (m n : Content) → Legal l → IsFirst l s o i p m → IsFirst l t q j r n
    → m.token ≡ n.token → i ≡ j
first-same l s t o q i j p r m n legal f g e =
    firsts-tokens l (sending_of i s o p m) (sending_of j t q r n) legal (first-member l s o i p m f) (first-member l t q j r n g) e

first-moment : (l : List Noted) (s t o q i : ℕ) (p r : Peer) (m n : Content) → IsFirst l s o i p m → IsFirst l t q i r n → s ≡ t
first-moment l s t o q i p r m n f g =
    ap (λ (v : Noted). v.written.moment) (at-same l i _ _ f.stands g.stands)

-- what a first sending spells, and how long its token is
pub first-spelled : (l : List Noted) (s o i : ℕ) (p : Peer) (m : Content) → Legal l → (f : IsFirst l s o i p m)
    → Spells m f.bytes × (length m.token ≡ 8)
first-spelled l s o i p m legal f =
    let may = follows-at l i _ legal f.stands in
    (may.1.1.spelled, may.1.1.token_size)

-- ---- whatever sends a message

by-note : (l : List Noted) (s o i n t : ℕ) (p r : Peer) (m : Content) (b : List ℕ) (w : Option ℕ) (note : Note) → Legal l → ArePunctual l
    → IsFirst l s o i p m → at l n ≡ Some (noted t (Sends r b w) note) → Spells m b → Follows (before l n) t (Sends r b w) note
    → (s ≤ t) × (t ≤ s + LONGEST_SENDING)
by-note l s o i n t p r m b w (First q k) legal prompts f e spelled may =
    let other : IsFirst l t q n r k = record { bytes = b; timeout = w; stands = e } in
    let same : m ≡ k = spells_one m k b spelled may.1.1.spelled in
    let here : i ≡ n = first-same l s t o q i n p r m k legal f other (ap (λ (c : Content). c.token) same) in
    let g : IsFirst l t q i r k = subst (λ (j : ℕ). IsFirst l t q j r k) (sym here) other in
    let moments = first-moment l s t o q i p r m k f g in
    (omega (arith, moments), omega (arith, moments))
by-note l s o i n t p r m b w (Copies j) legal prompts f e spelled may =
    let copy = may.1.2 in
    let first : IsFirst (before l n) copy.moment copy.opening j r copy.message = record { bytes = b; timeout = copy.timeout; stands = copy.stands } in
    let old = legal-before l n legal in
    let same : m ≡ copy.message = spells_one m copy.message b spelled (first-spelled (before l n) copy.moment copy.opening j r copy.message old first).0 in
    let whole : IsFirst l copy.moment copy.opening j r copy.message = record { bytes = b; timeout = copy.timeout; stands = at-before l n j _ copy.stands } in
    let here : i ≡ j = first-same l s copy.moment o copy.opening i j p r m copy.message legal f whole (ap (λ (c : Content). c.token) same) in
    let moments : s ≡ copy.moment = first-moment l s copy.moment o copy.opening j p r m copy.message (subst (λ (k : ℕ). IsFirst l s o k p m) here f) whole in
    let it = spent (before l n) copy.moment copy.opening j r copy.message copy.way old (punctual-before l n prompts) first copy.is_outstanding in
    let late = punctual-at l n _ prompts e copy.way copy.is_outstanding in
    let last = it.last in
    let few = copy.few in
    let step = once-more copy.way.copies copy.way.timeout (omega (arith, few)) it.short in
    let all = all-allowed (suc copy.way.copies) in
    let low = at-newest (before l n) j _ old copy.stands in
    let high = moment-at l n _ legal e in
    (omega (arith, moments, low, high), omega (arith, moments, last, late, step, all))
by-note l s o i n t p r m b w Confirms legal prompts f e spelled may =
    let confirms = may.1.1 in
    let same = spells_one m _ b spelled confirms.spelled in
    let size = (first-spelled l s o i p m legal f).1 in
    let none : length m.token ≡ 0 = ap (λ (c : Content). length c.token) same in
    absurd (omega (arith, size, none))
by-note l s o i n t p r m b w Plain legal prompts f e spelled may = absurd may.1
by-note l s o i n t p r m b w (Begins q) legal prompts f e spelled may = absurd may.1
by-note l s o i n t p r m b w (Renews q kept) legal prompts f e spelled may = absurd may.1
by-note l s o i n t p r m b w (Joins q) legal prompts f e spelled may = absurd may.1
by-note l s o i n t p r m b w (Serves js) legal prompts f e spelled may = absurd may.1
by-note l s o i n t p r m b w (Says k to notice) legal prompts f e spelled may = absurd may.1
by-note l s o i n t p r m b w (Repeats k j) legal prompts f e spelled may = absurd may.1
by-note l s o i n t p r m b w Garbled legal prompts f e spelled may = absurd may.1
by-note l s o i n t p r m b w (Bygone k) legal prompts f e spelled may = absurd may.1
by-note l s o i n t p r m b w (Recalls k answer) legal prompts f e spelled may = absurd may.1

pub sent-within : (l : List Noted) (s o i n t : ℕ) (p r : Peer) (m : Content) → Legal l → ArePunctual l → IsFirst l s o i p m → SendsMessage l n t r m
    → (s ≤ t) × (t ≤ s + LONGEST_SENDING)
sent-within l s o i n t p r m legal prompts f h =
    by-note l s o i n t p r m h.bytes h.timeout h.note legal prompts f h.stands h.spelled (follows-at l n _ legal h.stands)

-- ---- nothing sends a message before its first sending

after-note : (l : List Noted) (s o i n t : ℕ) (p r : Peer) (m : Content) (b : List ℕ) (w : Option ℕ) (note : Note) → Legal l
    → IsFirst l s o i p m → at l n ≡ Some (noted t (Sends r b w) note) → Spells m b → Follows (before l n) t (Sends r b w) note → i ≤ n
after-note l s o i n t p r m b w (First q k) legal f e spelled may =
    let other : IsFirst l t q n r k = record { bytes = b; timeout = w; stands = e } in
    let same : m ≡ k = spells_one m k b spelled may.1.1.spelled in
    let here : i ≡ n = first-same l s t o q i n p r m k legal f other (ap (λ (c : Content). c.token) same) in
    omega (arith, here)
after-note l s o i n t p r m b w (Copies j) legal f e spelled may =
    let copy = may.1.2 in
    let first : IsFirst (before l n) copy.moment copy.opening j r copy.message = record { bytes = b; timeout = copy.timeout; stands = copy.stands } in
    let same : m ≡ copy.message =
    spells_one m copy.message b spelled (first-spelled (before l n) copy.moment copy.opening j r copy.message (legal-before l n legal) first).0 in
    let whole : IsFirst l copy.moment copy.opening j r copy.message = record { bytes = b; timeout = copy.timeout; stands = at-before l n j _ copy.stands } in
    let here : i ≡ j = first-same l s copy.moment o copy.opening i j p r m copy.message legal f whole (ap (λ (c : Content). c.token) same) in
    let below : j < n = subst (λ (k : ℕ). j < k) (length-before l n _ e) (at-below (before l n) j _ copy.stands) in
    omega (arith, here, below)
after-note l s o i n t p r m b w Confirms legal f e spelled may =
    let confirms = may.1.1 in
    let same = spells_one m _ b spelled confirms.spelled in
    let size = (first-spelled l s o i p m legal f).1 in
    let none : length m.token ≡ 0 = ap (λ (c : Content). length c.token) same in
    absurd (omega (arith, size, none))
after-note l s o i n t p r m b w Plain legal f e spelled may = absurd may.1
after-note l s o i n t p r m b w (Begins q) legal f e spelled may = absurd may.1
after-note l s o i n t p r m b w (Renews q kept) legal f e spelled may = absurd may.1
after-note l s o i n t p r m b w (Joins q) legal f e spelled may = absurd may.1
after-note l s o i n t p r m b w (Serves js) legal f e spelled may = absurd may.1
after-note l s o i n t p r m b w (Says k to notice) legal f e spelled may = absurd may.1
after-note l s o i n t p r m b w (Repeats k j) legal f e spelled may = absurd may.1
after-note l s o i n t p r m b w Garbled legal f e spelled may = absurd may.1
after-note l s o i n t p r m b w (Bygone k) legal f e spelled may = absurd may.1
after-note l s o i n t p r m b w (Recalls k answer) legal f e spelled may = absurd may.1

pub sent-after : (l : List Noted) (s o i n t : ℕ) (p r : Peer) (m : Content) → Legal l → IsFirst l s o i p m → SendsMessage l n t r m → i ≤ n
sent-after l s o i n t p r m legal f h =
    after-note l s o i n t p r m h.bytes h.timeout h.note legal f h.stands h.spelled (follows-at l n _ legal h.stands)
