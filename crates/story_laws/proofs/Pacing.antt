-- Copies are punctual where each goes out a second after it is due at the latest, by what the entries before it sent.
use Rattle.std.proofs.Common.{◌≡◌, ◌≢◌, ℕ, zero, suc, eqb, ◌+◌, ◌<◌, ◌≤◌, ◌⊎◌, inl, inr, Bool, true, false, cond, List, [], ◌∷◌, ◌++◌, append_assoc, length, length-append, take, Option, Some, None, refl, sym, ap, subst, ◌∙◌, arith}
use Rattle.std.specs.Prelude.{option_map, slice_get, ⊤}
use Rattle.std.specs.List.{AllByRecursion}
use Rattle.std.specs.Str.{bytes_eq}
use Rattle.std.proofs.lemmas.Bool.{false≢true}
use Rattle.std.proofs.lemmas.Bool.Decides.{eqb_tells}
use Rattle.std.proofs.lemmas.List.{take-append-le, take_all}
use Rattle.std.proofs.lemmas.Slice.Eq.{bytes_eq-Decides}
use Rattle.coap_codec.specs.Spelling.{Content, Spells}
use Rattle.coap_codec.proofs.Unique.{spells_one}
use Rattle.uri_map.specs.declared.peer.Peer.{Peer}
use Rattle.ask_model.specs.Requests.{Sense, Requests, Refuses}
use Rattle.journal_book.specs.Entries.{Mark, Ground, Past, Done, Asked, Sent, Heard, Deed, Opens, Asks, Sends, Hears, Passes, Answers, Shuts, Seals, Carries, Written}
use Rattle.history_laws.specs.Readings.{Noted, Note, First, Copies, Confirms, Plain, Begins, Renews, Joins, Serves, Says, Repeats, Garbled, Bygone, Recalls, noted, at, entries}
use Rattle.history_laws.specs.Transmissions.{FirstSending, firsts, bears_token, Transmission, begun_way, copied_way, due, given_up, transmission, transmission_by}
use Rattle.history_laws.specs.Justified.{AskNote, CopiedNote, MayBeCopy, Follows, Legal}
use Rattle.history_laws.specs.Laws.{IsFirst}
use Rattle.history_laws.proofs.CallerLemmas.{any-first, at-below, at-old, at-same, got-last, got-more, none-some, some-is}
use Rattle.history_claims.specs.Headline.{IsEntry}
use Rattle.story_laws.specs.Lateness.{IsPunctual, ArePunctual}
use Rattle.story_laws.specs.declared.TheConstants.{LATEST_COPY}
use Rattle.story_laws.proofs.Sending.{first-same, first-spelled}

-- ---- places in lists

pub got-below : {X : Type 0} (xs : List X) (n : ℕ) (y : X) → slice_get xs n ≡ Some y → n < length xs
got-below [] n y e = absurd (none-some y e)
got-below (x ∷ xs) zero y e = omega arith
got-below (x ∷ xs) (suc n) y e = let lt = got-below xs n y e in omega (arith, lt)

got-both : {X : Type 0} (xs ys : List X) (n : ℕ) (y : X) → slice_get (xs ++ ys) n ≡ Some y
    → (slice_get xs n ≡ Some y) ⊎ ((k : ℕ) × (n ≡ length xs + k) × (slice_get ys k ≡ Some y))
got-both [] ys n y e = inr (n, omega arith, e)
got-both (x ∷ xs) ys zero y e = inl e
got-both (x ∷ xs) ys (suc n) y e =
    elim (got-both xs ys n y e) [
      | inl w ↦ inl w
      | inr w ↦ let same = w.1 in inr (w.0, omega (arith, same), w.2)
    ]

-- ---- how a datagram went out by entries, the oldest first: a first sending alone bears a timeout

abbrev pub way_by : List ℕ → ℕ → Deed → Option Transmission → Option Transmission
way_by bytes t (Sends p b (Some w)) old = cond (bytes_eq b bytes) (Some (begun_way (Some w) t)) old
way_by bytes t (Sends p b None) old = cond (bytes_eq b bytes) (option_map (copied_way t) old) old
way_by bytes t d old = old

abbrev pub way_after : List ℕ → List Written → Option Transmission → Option Transmission
way_after bytes [] old = old
way_after bytes (w ∷ ws) old = way_after bytes ws (way_by bytes w.moment w.deed old)

after-both : (bytes : List ℕ) (xs ys : List Written) (old : Option Transmission)
    → way_after bytes (xs ++ ys) old ≡ way_after bytes ys (way_after bytes xs old)
after-both bytes [] ys old = refl
after-both bytes (x ∷ xs) ys old = after-both bytes xs ys (way_by bytes x.moment x.deed old)

-- the bytes of what is sent
abbrev sent_bytes : Deed → List ℕ
sent_bytes (Sends p b w) = b
sent_bytes d = []

itself : (b : List ℕ) → bytes_eq b b ≡ true
itself b = (bytes_eq-Decides b b).1 refl

-- ---- it is the way of what is outstanding

-- bytes of another message
other-way : (b c : List ℕ) (t : ℕ) (p : Peer) (w : Option ℕ) (old : Option Transmission) → (c ≡ b → ⊥) → way_by b t (Sends p c w) old ≡ old
other-way b c t p None old apart = by (bytes_eq c b) refl
  where
    by : (x : Bool) → bytes_eq c b ≡ x → cond x (option_map (copied_way t) old) old ≡ old
    by true e = absurd (apart ((bytes_eq-Decides c b).0 e))
    by false e = refl
other-way b c t p (Some w) old apart = by (bytes_eq c b) refl
  where
    by : (x : Bool) → bytes_eq c b ≡ x → cond x (Some (begun_way (Some w) t)) old ≡ old
    by true e = absurd (apart ((bytes_eq-Decides c b).0 e))
    by false e = refl

first-way : (b : List ℕ) (t v : ℕ) (p : Peer) (old : Option Transmission) → way_by b t (Sends p b (Some v)) old ≡ Some (begun_way (Some v) t)
first-way b t v p old = let e = itself b in rw e refl

copy-way : (b : List ℕ) (t : ℕ) (p : Peer) (z : Transmission) → way_by b t (Sends p b None) (Some z) ≡ Some (copied_way t z)
copy-way b t p z = let e = itself b in rw e refl

abbrev first-at : (l : List Noted) (s o i : ℕ) (p : Peer) (m : Content) (b : List ℕ) (w : Option ℕ) → at l i ≡ Some (noted s (Sends p b w) (First o m))
    → IsFirst l s o i p m
first-at l s o i p m b w e = record { bytes = b; timeout = w; stands = e }

module _ (l : List Noted) (legal : Legal l) (s o i : ℕ) (p : Peer) (m : Content) (b : List ℕ) (w : Option ℕ)
    (stands : at l i ≡ Some (noted s (Sends p b w) (First o m)))
    (older : (z : Transmission) → transmission l i ≡ Some z → way_after b (entries l) None ≡ Some z) where
  spelled : Spells m b
  spelled = (first-spelled l s o i p m legal (first-at l s o i p m b w stands)).0

  -- a new first sending has other bytes
  new-apart : (c : List ℕ) (n : Content) → Spells n c → bears_token l n.token ≡ false → c ≡ b → ⊥
  new-apart c n sp none e =
      let same : n ≡ m = spells_one n m b (subst (λ (c : List ℕ). Spells n c) e sp) spelled in
      let bears : bears_token l n.token ≡ true =
      any-first (λ (f : FirstSending). bytes_eq f.message.token n.token) l s o i p m (first-at l s o i p m b w stands)
      ((bytes_eq-Decides m.token n.token).1 (ap (λ (c : Content). c.token) (sym same))) in
      false≢true (sym none ∙ bears)

  -- so has a copy of another one
  copy-apart : (c : List ℕ) (q : Peer) (j : ℕ) → MayBeCopy l j q c → (j ≡ i → ⊥) → c ≡ b → ⊥
  copy-apart c q j may apart e =
      let f : IsFirst l may.moment may.opening j q may.message = first-at l may.moment may.opening j q may.message c may.timeout may.stands in
      let same : may.message ≡ m =
      spells_one may.message m b (subst (λ (c : List ℕ). Spells may.message c) e (first-spelled l may.moment may.opening j q may.message legal f).0) spelled in
      apart (first-same l may.moment s may.opening o j i q p may.message m legal f (first-at l s o i p m b w stands) (ap (λ (c : Content). c.token) same))

  -- and an ACK or RST
  empty-apart : (c : List ℕ) (n : Content) → Spells n c → n.token ≡ [] → c ≡ b → ⊥
  empty-apart c n sp none e =
      let same : n ≡ m = spells_one n m b (subst (λ (c : List ℕ). Spells n c) e sp) spelled in
      let size = (first-spelled l s o i p m legal (first-at l s o i p m b w stands)).1 in
      let zero-len : length m.token ≡ 0 = ap (λ (c : Content). length c.token) (sym same) ∙ ap (λ (ts : List ℕ). length ts) none in
      absurd (omega (arith, size, zero-len))

  below : i < length l
  below = at-below l i _ stands

  step : (t : ℕ) (d : Deed) (note : Note) → Follows l t d note → (y : Transmission)
      → transmission_by i (length l) t d note (transmission l i) ≡ Some y → way_by b t d (way_after b (entries l) None) ≡ Some y
  step t (Sends q c v) (First k n) may y e = elim (eqb_tells (length l) i) [
    | inl u ↦ let here = u.1 in let lt = below in absurd (omega (arith, here, lt))
    | inr u ↦
        other-way b c t q v (way_after b (entries l) None) (new-apart c n may.1.1.spelled may.1.1.token_apart) ∙ older y (rw (u.0) at e)
  ]
  step t (Sends q c v) (Copies j) may y e = elim (eqb_tells j i) [
    | inl u ↦ copied (transmission l i) refl (rw (u.0) at e) (same u.1)
    | inr u ↦ other-way b c t q v (way_after b (entries l) None) (copy-apart c q j may.1.2 u.1) ∙ older y (rw (u.0) at e)
  ]
    where
      same : j ≡ i → c ≡ b
      same is =
          let copy = may.1.2 in
          let it : noted copy.moment (Sends q c copy.timeout) (First copy.opening copy.message) ≡ noted s (Sends p b w) (First o m) =
          at-same l i _ _ (subst (λ (j : ℕ). at l j ≡ Some (noted copy.moment (Sends q c copy.timeout) (First copy.opening copy.message))) is copy.stands) stands in
          ap (λ (v : Noted). sent_bytes v.written.deed) it

      copied : (old : Option Transmission) → transmission l i ≡ old → option_map (copied_way t) old ≡ Some y → c ≡ b
          → way_by b t (Sends q c v) (way_after b (entries l) None) ≡ Some y
      copied None was f is = absurd (none-some y f)
      copied (Some z) was f is =
          ap (λ (v : Option ℕ). way_by b t (Sends q c v) (way_after b (entries l) None)) may.1.1
          ∙ (ap (λ (c : List ℕ). way_by b t (Sends q c None) (way_after b (entries l) None)) is
          ∙ (ap (way_by b t (Sends q b None)) (older z was) ∙ (copy-way b t q z ∙ f)))
  step t (Sends q c v) Confirms may y e =
      other-way b c t q v (way_after b (entries l) None) (empty-apart c _ may.1.1.spelled refl) ∙ older y e
  step t (Sends q c v) Plain may y e = absurd may.1
  step t (Sends q c v) (Begins r) may y e = absurd may.1
  step t (Sends q c v) (Renews r kept) may y e = absurd may.1
  step t (Sends q c v) (Joins r) may y e = absurd may.1
  step t (Sends q c v) (Serves js) may y e = absurd may.1
  step t (Sends q c v) (Says n to notice) may y e = absurd may.1
  step t (Sends q c v) (Repeats n j) may y e = absurd may.1
  step t (Sends q c v) Garbled may y e = absurd may.1
  step t (Sends q c v) (Bygone n) may y e = absurd may.1
  step t (Sends q c v) (Recalls n answer) may y e = absurd may.1
  step t (Hears q c) (Says n (Some j) notice) may y e = elim (eqb_tells j i) [
    | inl u ↦ absurd (none-some y (rw (u.0) at e))
    | inr u ↦ older y (rw (u.0) at e)
  ]
  step t Passes note may y e = by (given_up t (transmission l i)) e
    where
      by : (x : Bool) → cond x None (transmission l i) ≡ Some y → way_after b (entries l) None ≡ Some y
      by true f = absurd (none-some y f)
      by false f = older y f
  step t d note may y e = older y e

-- The way of what is outstanding is that of the bytes of its first sending.
pub way-sent : (l : List Noted) (s o i : ℕ) (p : Peer) (m : Content) (b : List ℕ) (w : Option ℕ) (y : Transmission) → Legal l
    → at l i ≡ Some (noted s (Sends p b w) (First o m)) → transmission l i ≡ Some y → way_after b (entries l) None ≡ Some y
way-sent [] s o i p m b w y legal stands e = absurd (none-some _ stands)
way-sent (x ∷ older) s o i p m b w y legal stands e =
    after-both b (entries older) (x.written ∷ []) None
    ∙ elim (at-old x older i _ stands) [
      | inl u ↦ newest u.0 u.1
      | inr u ↦
          step older legal.0 s o i p m b w u (λ z f. way-sent older s o i p m b w z legal.0 u f) x.written.moment x.written.deed x.note legal.2 y e
    ]
  where
    begun-is : transmission_by i (length older) s (Sends p b w) (First o m) (transmission older i) ≡ Some y → i ≡ length older → Some (begun_way w s) ≡ Some y
    begun-is f here = elim (eqb_tells (length older) i) [
      | inl u ↦ rw (u.0) at f
      | inr u ↦ absurd (u.1 (sym here))
    ]

    newest : i ≡ length older → x ≡ noted s (Sends p b w) (First o m)
        → way_by b x.written.moment x.written.deed (way_after b (entries older) None) ≡ Some y
    newest here is =
        let may : Follows older s (Sends p b w) (First o m) =
        subst (λ (v : Noted). Follows older v.written.moment v.written.deed v.note) is legal.2 in
        let timeout = may.1.1.first_wait in
        let begun : transmission_by i (length older) s (Sends p b w) (First o m) (transmission older i) ≡ Some y =
        subst (λ (v : Noted). transmission_by i (length older) v.written.moment v.written.deed v.note (transmission older i) ≡ Some y) is e in
        ap (λ (v : Noted). way_by b v.written.moment v.written.deed (way_after b (entries older) None)) is
        ∙ (ap (λ (v : Option ℕ). way_by b s (Sends p b v) (way_after b (entries older) None)) timeout
        ∙ (first-way b s may.1.1.wait p (way_after b (entries older) None)
        ∙ (ap (λ (v : Option ℕ). Some (begun_way v s)) (sym timeout) ∙ begun-is begun here)))

-- ---- each copy goes out a second after it is due at the latest

abbrev pub IsTimely : List Written → ℕ → List ℕ → Type 0
IsTimely h t b = (y : Transmission) → way_after b h None ≡ Some y → t ≤ due y + LATEST_COPY

-- An ACK or RST is four bytes, and no copy.
abbrev pub AreTimely : List Written → Type 0
AreTimely h = (n t : ℕ) (p : Peer) (b : List ℕ) → IsEntry h n t (Sends p b None) → length b ≢ 4 → IsTimely (take n h) t b

-- So they are, by any reading.
long : (m : Content) (b : List ℕ) → Spells m b → length m.token ≡ 8 → length b ≢ 4
long m b sp size four =
    let whole = ap (λ (bs : List ℕ). length bs) sp.whole in
    let more = length-append m.token (sp.options ++ sp.payload) in
    let same : m.token ++ sp.options ++ sp.payload ≡ m.token ++ (sp.options ++ sp.payload) = append_assoc m.token sp.options sp.payload in
    let len = ap (λ (bs : List ℕ). length bs) same in
    absurd (omega (arith, whole, more, len, size, four))

pub punctual : (l : List Noted) → Legal l → AreTimely (entries l) → ArePunctual l
punctual [] legal h = tt
punctual (x ∷ older) legal h = (punctual older legal.0 before, by x.note refl)
  where
    before : AreTimely (entries older)
    before n t p b e four y way =
        let lt = got-below (entries older) n _ e in
        let same : take n (entries older ++ x.written ∷ []) ≡ take n (entries older) = take-append-le n (entries older) (x.written ∷ []) (omega (arith, lt)) in
        h n t p b (got-more (entries older) (x.written ∷ []) n _ e) four y
        (subst (λ (ws : List Written). way_after b ws None ≡ Some y) (sym same) way)

    copied : (i : ℕ) (q : Peer) (c : List ℕ) (v : Option ℕ) → x.written.deed ≡ Sends q c v → x.note ≡ Copies i → Follows older x.written.moment (Sends q c v) (Copies i)
        → IsPunctual older x.written.moment (Copies i)
    copied i q c v deed note may way was =
        let copy = may.1.2 in
        let f : IsFirst older copy.moment copy.opening i q copy.message =
        first-at older copy.moment copy.opening i q copy.message c copy.timeout copy.stands in
        let sp = first-spelled older copy.moment copy.opening i q copy.message legal.0 f in
        let none : Sends q c v ≡ Sends q c None = ap (λ (v : Option ℕ). Sends q c v) may.1.1 in
        let written : x.written ≡ record { moment = x.written.moment; deed = Sends q c None } =
        ap (λ (d : Deed). record { moment = x.written.moment; deed = d }) (deed ∙ none) in
        let entry : IsEntry (entries older ++ x.written ∷ []) (length (entries older)) x.written.moment (Sends q c None) =
        got-last (entries older) x.written [] ∙ ap (λ (w : Written). Some w) written in
        let all : take (length (entries older)) (entries older ++ x.written ∷ []) ≡ entries older =
        take-append-le (length (entries older)) (entries older) (x.written ∷ []) (omega arith) ∙ take_all (length (entries older)) (entries older) (omega arith) in
        h (length (entries older)) x.written.moment q c entry (long copy.message c sp.0 sp.1) way
        (subst (λ (ws : List Written). way_after c ws None ≡ Some way) (sym all)
        (way-sent older copy.moment copy.opening i q copy.message c copy.timeout way legal.0 copy.stands was))

    by : (note : Note) → x.note ≡ note → IsPunctual older x.written.moment note
    by (Copies i) is = sends x.written.deed refl (subst (λ (n : Note). Follows older x.written.moment x.written.deed n) is legal.2)
      where
        sends : (d : Deed) → x.written.deed ≡ d → Follows older x.written.moment d (Copies i) → IsPunctual older x.written.moment (Copies i)
        sends (Sends q c v) deed may = copied i q c v deed is may
        sends (Opens c) deed may = absurd may.2
        sends (Asks c a) deed may = absurd (not-asked a.sense may.3)
          where
            not-asked : (k : Sense) → AskNote older x.written.moment k (Copies i) → ⊥
            not-asked (Requests q) m = m
            not-asked (Refuses cause status) m = m
        sends (Hears q c) deed may = absurd may.3
        sends Passes deed may = absurd may.1
        sends (Answers c k g) deed may = absurd may.4
        sends (Shuts c) deed may = absurd may.2
        sends Seals deed may = absurd may.2
        sends (Carries k mark done) deed may = absurd (not-copied mark done may.2)
          where
            not-copied : (mark : Mark) (done : Done) → CopiedNote older x.written.moment mark done (Copies i) → ⊥
            not-copied Past (Asked c a) m = m
            not-copied Past (Sent q c v) m = m
            not-copied Past (Heard q c) m = m
            not-copied Ground (Asked c a) m = m
            not-copied Ground (Sent q c v) m = m
            not-copied Ground (Heard q c) m = m
    by (First o m) is = tt
    by Confirms is = tt
    by Plain is = tt
    by (Begins q) is = tt
    by (Renews q kept) is = tt
    by (Joins q) is = tt
    by (Serves js) is = tt
    by (Says m to notice) is = tt
    by (Repeats m j) is = tt
    by Garbled is = tt
    by (Bygone m) is = tt
    by (Recalls m answer) is = tt

-- ---- entries of one moment more

-- The entry copies nothing, or does so in time after those.
abbrev pub IsExcused : List Written → ℕ → Deed → Type 0
IsExcused h t (Sends p b None) = length b ≢ 4 → IsTimely h t b
IsExcused h t (Sends p b (Some w)) = ⊤
IsExcused h t d = ⊤

-- What went out at the moment itself is not late.
fresh : (b : List ℕ) (t : ℕ) (ws : List Written) (old : Option Transmission) (y : Transmission) → AllByRecursion (λ (w : Written). w.moment ≡ t) ws
    → way_after b ws old ≡ Some y → (old ≡ Some y) ⊎ (y.last ≡ t)
fresh b t [] old y at e = inl e
fresh b t (w ∷ ws) old y at e =
    elim (fresh b t ws (way_by b w.moment w.deed old) y at.1 e) [
      | inl k ↦ one w.deed k
      | inr k ↦ inr k
    ]
  where
    one : (d : Deed) → way_by b w.moment d old ≡ Some y → (old ≡ Some y) ⊎ (y.last ≡ t)
    one (Sends q c (Some v)) e = by (bytes_eq c b) e
      where
        by : (x : Bool) → cond x (Some (begun_way (Some v) w.moment)) old ≡ Some y → (old ≡ Some y) ⊎ (y.last ≡ t)
        by true f = inr (sym (ap (λ (z : Transmission). z.last) (some-is (begun_way (Some v) w.moment) y f)) ∙ at.0)
        by false f = inl f
    one (Sends q c None) e = by (bytes_eq c b) e
      where
        again : (v : Option Transmission) → option_map (copied_way w.moment) v ≡ Some y → y.last ≡ t
        again None f = absurd (none-some y f)
        again (Some z) f = sym (ap (λ (z : Transmission). z.last) (some-is (copied_way w.moment z) y f)) ∙ at.0

        by : (x : Bool) → cond x (option_map (copied_way w.moment) old) old ≡ Some y → (old ≡ Some y) ⊎ (y.last ≡ t)
        by true f = inr (again old f)
        by false f = inl f
    one (Opens c) e = inl e
    one (Asks c a) e = inl e
    one (Hears q c) e = inl e
    one Passes e = inl e
    one (Answers c k g) e = inl e
    one (Shuts c) e = inl e
    one Seals e = inl e
    one (Carries k mark done) e = inl e

taken-at : (k : ℕ) (ws : List Written) (t : ℕ) → AllByRecursion (λ (w : Written). w.moment ≡ t) ws
    → AllByRecursion (λ (w : Written). w.moment ≡ t) (take k ws)
taken-at zero [] t h = tt
taken-at zero (w ∷ ws) t h = tt
taken-at (suc k) [] t h = tt
taken-at (suc k) (w ∷ ws) t h = (h.0, taken-at k ws t h.1)

pub got-all : {X : Type 0} (P : X → Type 0) (xs : List X) (n : ℕ) (x : X) → AllByRecursion P xs → slice_get xs n ≡ Some x → P x
got-all P [] n x h e = absurd (none-some x e)
got-all P (y ∷ ys) zero x h e = subst P (some-is y x e) h.0
got-all P (y ∷ ys) (suc n) x h e = got-all P ys n x h.1 e

pub timely-more : (h ws : List Written) (t : ℕ) → AreTimely h → AllByRecursion (λ (w : Written). w.moment ≡ t) ws
    → AllByRecursion (λ (w : Written). IsExcused h t w.deed) ws → AreTimely (h ++ ws)
timely-more h ws t old at excused n u p b e four y way =
    elim (got-both h ws n _ e) [
      | inl k ↦
          let lt = got-below h n _ k in
          let same : take n (h ++ ws) ≡ take n h = take-append-le n h ws (omega (arith, lt)) in
          old n u p b k four y (subst (λ (xs : List Written). way_after b xs None ≡ Some y) same way)
      | inr k ↦
          let moment : u ≡ t = got-all (λ (w : Written). w.moment ≡ t) ws k.0 _ at k.2 in
          let may : length b ≢ 4 → IsTimely h t b = got-all (λ (w : Written). IsExcused h t w.deed) ws k.0 _ excused k.2 in
          let is = k.1 in
          let parts : take n (h ++ ws) ≡ h ++ take k.0 ws = taken-more h ws n k.0 is in
          let whole : way_after b (take k.0 ws) (way_after b h None) ≡ Some y =
          sym (after-both b h (take k.0 ws) None) ∙ subst (λ (xs : List Written). way_after b xs None ≡ Some y) parts way in
          elim (fresh b t (take k.0 ws) (way_after b h None) y (taken-at k.0 ws t at) whole) [
            | inl v ↦ let late = may four y v in omega (arith, late, moment)
            | inr v ↦ omega (arith, v, moment)
          ]
    ]
  where
    taken-more : (xs ys : List Written) (n k : ℕ) → n ≡ length xs + k → take n (xs ++ ys) ≡ xs ++ take k ys
    taken-more [] ys n k is = ap (λ (n : ℕ). take n ys) (is ∙ omega arith)
    taken-more (x ∷ xs) ys zero k is = absurd (omega (arith, is))
    taken-more (x ∷ xs) ys (suc n) k is = ap (λ (zs : List Written). x ∷ zs) (taken-more xs ys n k (omega (arith, is)))

pub none-timely : AreTimely []
none-timely n t p b e four y way = absurd (none-some _ e)
