-- Of what is carried over the copies have just its replies, in order.
use Rattle.std.proofs.Common.{◌≡◌, ℕ, zero, suc, ◌<◌, Bool, true, false, cond, eqb, ltb, inl, inr, List, [], ◌∷◌, ◌++◌, length, map, Option, Some, None, refl, sym, ap, subst, ◌∙◌, arith}
use Rattle.std.specs.Prelude.{filter}
use Rattle.std.specs.List.{AllByRecursion, Contains}
use Rattle.std.proofs.lemmas.Bool.{false≢true, ltb-true, lt-ltb, ltb-false, le-ltb}
use Rattle.std.proofs.lemmas.Bool.Decides.{eqb_tells}
use Rattle.std.proofs.lemmas.List.{map-append}
use Rattle.coap_codec.specs.Spelling.{Content}
use Rattle.uri_map.specs.declared.peer.Peer.{Peer}
use Rattle.journal_book.specs.Entries.{Mark, Past, Done, done_of, Deed, Asks, Sends, Hears, Carries}
use Rattle.journal_book.specs.Entries as D
use Rattle.history_laws.specs.Readings.{Noted, Note, First, Says, Recalls, Answered, at, before}
use Rattle.history_laws.specs.Progress.{Reply}
use Rattle.history_laws.specs.Transmissions.{FirstSending}
use Rattle.history_laws.specs.Exchanges.{Begun, ask_behind}
use Rattle.history_laws.specs.Carrying.{carried_replies, replied_by, reply_to}
use Rattle.history_laws.proofs.CallerLemmas.{all-of, at-below, at-keeps, at-new, before-keeps, before-new, carried-below, contains-later, contains-none, eqb-apart, eqb-itself, first-or-later, some-is}
use Rattle.exchange_model.specs.Rotating.{has}
use Rattle.history_laws.specs.Confirming.{answered}
use Rattle.exchange_model.proofs.Shapes.{answered_as, Kept, Sending, Hearing, Heard, kept_as, copy_as, copy_by, backing_copy, past_if, past_of, still_kept}
use Rattle.exchange_model.proofs.Copies.{add_copy, copied}
use Rattle.exchange_model.proofs.Backed.{asked_at, not-here, AreBacked, ArePlaced, BackedEntry, BackedReply, carried-copied}
use Rattle.exchange_model.proofs.BackedFirsts.{moved, replied-copied}
use Rattle.exchange_model.proofs.StoredFacts.{AreRising, HearsAs}

-- the replies before an entry

abbrev pub is_before : ℕ → Reply → Bool
is_before n r = ltb r.number n

abbrev pub early : ℕ → List Reply → List Reply
early n rs = filter (is_before n) rs

early-none : (n : ℕ) (rs : List Reply) → ((r : Reply) → Contains rs r → r.number ≡ n → ⊥) → early (suc n) rs ≡ early n rs
early-none n [] h = refl
early-none n (r ∷ rs) h = by (ltb r.number n) refl (early-none n rs (λ x has. h x (contains-later r rs x has)))
  where
    apart : r.number ≡ n → ⊥
    apart = h r (zero, omega arith, refl)

    by : (b : Bool) → ltb r.number n ≡ b → early (suc n) rs ≡ early n rs
        → cond (ltb r.number (suc n)) (r ∷ early (suc n) rs) (early (suc n) rs) ≡ cond (ltb r.number n) (r ∷ early n rs) (early n rs)
    by true is ih =
        let lt = ltb-true r.number n is in
        rw (is, lt-ltb r.number (suc n) (omega (arith, lt))) (ap (λ (v : List Reply). r ∷ v) ih)
    by false is ih =
        let le = ltb-false r.number n is in
        rw (is, le-ltb r.number (suc n) (elim (eqb_tells r.number n) [ inl w ↦ absurd (apart w.1) | inr w ↦ let ne = w.1 in omega (arith, le, ne) ])) ih

late-none : (n : ℕ) (rs : List Reply) → AllByRecursion (λ (x : Reply). n < x.number) rs → (early (suc n) rs ≡ []) × (early n rs ≡ [])
late-none n [] h = (refl, refl)
late-none n (r ∷ rs) h =
    let lt = h.0 in
    let ih = late-none n rs h.1 in (
      rw (le-ltb r.number (suc n) (omega (arith, lt))) ih.0,
      rw (le-ltb r.number n (omega (arith, lt))) ih.1,
    )

early-one : (n : ℕ) (rs : List Reply) (r : Reply) → AreRising rs → Contains rs r → r.number ≡ n → early (suc n) rs ≡ early n rs ++ r ∷ []
early-one n [] r rises has same = absurd (contains-none r has)
early-one n (x ∷ rs) r rises has same =
    elim (first-or-later x rs r has) [
      | inl u ↦
          let number : x.number ≡ n = ap (λ (x : Reply). x.number) u ∙ same in
          let later = late-none n rs (subst (λ (k : ℕ). AllByRecursion (λ (y : Reply). k < y.number) rs) number rises.0) in
          rw (lt-ltb x.number (suc n) (omega (arith, number)), le-ltb x.number n (omega (arith, number)), later.0, later.1)
          (ap (λ (x : Reply). x ∷ []) u)
      | inr u ↦
          let lt : x.number < n = subst (λ (k : ℕ). x.number < k) same (all-of (λ (y : Reply). x.number < y.number) rs r rises.0 u) in
          rw (lt-ltb x.number (suc n) (omega (arith, lt)), lt-ltb x.number n lt)
          (ap (λ (v : List Reply). x ∷ v) (early-one n rs r rises.1 u same))
    ]

pub early-all : (n : ℕ) (rs : List Reply) → ((r : Reply) → Contains rs r → r.number < n) → early n rs ≡ rs
early-all n [] h = refl
early-all n (r ∷ rs) h =
    rw (lt-ltb r.number n (h r (zero, omega arith, refl))) (ap (λ (v : List Reply). r ∷ v) (early-all n rs (λ x has. h x (contains-later r rs x has))))

early-zero : (rs : List Reply) → early 0 rs ≡ []
early-zero [] = refl
early-zero (r ∷ rs) = rw (le-ltb r.number 0 (omega arith)) (early-zero rs)

module _ (gs : List ℕ) (f home : ℕ → ℕ) (t : ℕ) where
  abbrev pub renumbered : Reply → Reply
  renumbered r = record { number = f r.number; sending = f r.sending; message = r.message }

  -- Copies of asks stand in order.
  pub place-rises : (l : List Noted) (o n : ℕ) (b : Begun) → ArePlaced gs f home t l → has gs o ≡ true → has gs n ≡ true → asked_at l o ≡ Some b → o < n → n < length l
      → f o < f n
  place-rises [] o n b placed ho hn e lt below = absurd (omega (arith, below))
  place-rises (x ∷ older) o n b placed ho hn e lt below =
      let older_asks : asked_at older o ≡ Some b =
      sym (not-here _ x.written.moment (asked_at older o))
      ∙ (rw (eqb-apart (length older) o (λ same. omega (arith, same, lt, below))) at e) in
      elim (eqb_tells (length older) n) [
        | inl w ↦
            let place : f n ≡ length (copied home gs t older) = ap f (sym w.1) ∙ (placed.1 (ap (has gs) w.1 ∙ hn)).0 in
            let less = carried-below (copied home gs t older) (f o) b (carried-copied gs f home t older o b placed.0 ho older_asks) in
            omega (arith, place, less)
        | inr w ↦
            let ne = w.1 in
            place-rises older o n b placed.0 ho hn older_asks lt (omega (arith, below, ne))
      ]

  -- What is remembered alone is no reply that is carried.
  past-adds : (s n k : ℕ) (v : Option Kept) (c : List Noted) → carried_replies (add_copy n s (past_of t s v) c) k ≡ carried_replies c k
  past-adds s n k None c = refl
  past-adds s n k (Some v) c = by v (still_kept t s v)
    where
      by : (v : Kept) (b : Bool) → carried_replies (add_copy n s (past_if b v) c) k ≡ carried_replies c k
      by (Sending p b w m) true = refl
      by (Hearing p b m a) true = refl
      by v false = refl

  -- one that is carried
  hears-adds : (s n k : ℕ) (c : List Noted) (p : Peer) (b : List ℕ) (m : Content) (a : Answered) (g : FirstSending) → replied_by c p m ≡ Some g
      → carried_replies (copy_as n s (Heard D.Ground p b m a) ∷ c) k
      ≡ cond (eqb g.opening k) (carried_replies c k ++ record { number = length c; sending = g.number; message = m } ∷ []) (carried_replies c k)
  hears-adds s n k c p b m a g is = ap (λ (v : Option FirstSending). reply_to k (length c) m v (carried_replies c k)) is

  -- These are the replies that the pair with this opening rests on: what an entry is to them.
  module _ (o : ℕ) (rs : List Reply) (rises : AreRising rs) (peer : Peer) where
    pub record FitsHere (l : List Noted) (n : ℕ) (d : Deed) (note : Note) : Type 0 where
      -- each of them is copied, and came to a message of the ask
      pub one : (r : Reply) → Contains rs r → r.number ≡ n
          → (has gs n ≡ true) × HearsAs d note peer r.message
          × ((g : FirstSending) × (replied_by l peer r.message ≡ Some g) × (ask_behind l g.opening ≡ o))
      -- and what else came to one is one of them
      pub all : (p : Peer) (m : Content) (g : FirstSending) → has gs n ≡ true → HearsAs d note p m → replied_by l p m ≡ Some g → ask_behind l g.opening ≡ o
          → Contains rs (record { number = n; sending = g.number; message = m })
      -- No other ask has its copy in the same place.
      pub apart : (q : ℕ) (b : Begun) → has gs q ≡ true → asked_at l q ≡ Some b → f q ≡ f o → q ≡ o

    abbrev pub AreFit : List Noted → Type 0
    AreFit [] = Unit {0}
    AreFit (x ∷ older) = AreFit older × FitsHere older (length older) x.written.deed x.note

    pub all-fit : (l : List Noted) → ((n : ℕ) (x : Noted) → at l n ≡ Some x → FitsHere (before l n) n x.written.deed x.note) → AreFit l
    all-fit [] h = tt
    all-fit (x ∷ older) h = (
      all-fit older
          (λ n y stands.
          subst (λ (k : List Noted). FitsHere k n y.written.deed y.note) (before-keeps x older n (at-below older n y stands)) (h n y (at-keeps x older n y stands))),
      subst (λ (k : List Noted). FitsHere k (length older) x.written.deed x.note) (before-new x older) (h (length older) x (at-new x older)),
    )

    -- An entry that isn't copied, and one that is no reply, adds none.
    none-adds : (l : List Noted) (n : ℕ) (d : Deed) (note : Note) → FitsHere l n d note → ((m : Content) → has gs n ≡ true → HearsAs d note peer m → ⊥)
        → early (suc n) rs ≡ early n rs
    none-adds l n d note fit none = early-none n rs (λ r has_it same. let it = fit.one r has_it same in none r.message it.0 it.1)

    reply-adds : (d : Deed) (note : Note) (l : List Noted) (s : ℕ) (p : Peer) (b : List ℕ) (m : Content) (a : Answered) → AreBacked gs l → ArePlaced gs f home t l
        → f (length l) ≡ length (copied home gs t l)
        → has gs (length l) ≡ true → BackedReply gs l p m → FitsHere l (length l) d note → HearsAs d note p m
        → ((q : Peer) (n : Content) → HearsAs d note q n → (p ≡ q) × (m ≡ n))
        → carried_replies (copied home gs t l) (f o) ≡ map renumbered (early (length l) rs)
        → carried_replies (copy_as (length l) s (Heard D.Ground p b m a) ∷ copied home gs t l) (f o) ≡ map renumbered (early (suc (length l)) rs)
    reply-adds d note l s p b m a backed placed place mine h fit hears only ih =
        let g = h.first in
        let it = replied-copied p m gs f home t l g backed placed h.under h.listed in
        hears-adds s (length l) (f o) (copied home gs t l) p b m a (moved p m gs f home t g) it.replied
        ∙ elim (eqb_tells it.ask o) [
          | inl w ↦
              let r : Reply = record { number = length l; sending = g.number; message = m } in
              let has_it = fit.all p m g mine hears h.under (it.back ∙ w.1) in
              rw (ap (λ (k : ℕ). eqb k (f o)) it.placed ∙ (ap (λ (k : ℕ). eqb (f k) (f o)) w.1 ∙ eqb-itself (f o)))
              (ap (λ (n : ℕ). carried_replies (copied home gs t l) (f o) ++ record { number = n; sending = f g.number; message = m } ∷ []) (sym place)
              ∙ (ap (λ (v : List Reply). v ++ renumbered r ∷ []) ih
              ∙ (sym (map-append renumbered (early (length l) rs) (r ∷ []))
              ∙ ap (map renumbered) (sym (early-one (length l) rs r rises has_it refl)))))
          | inr w ↦
              let ne = w.1 in
              rw (eqb-apart (home g.opening) (f o) (λ same. ne (fit.apart it.ask it.exchange it.listed it.asked (sym it.placed ∙ same))))
              (ih ∙ ap (map renumbered)
              (sym (early-none (length l) rs
              (λ r has_it same.
              let one = fit.one r has_it same in
              let is = only peer r.message one.1 in
              let other = one.2 in
              let found : replied_by l p m ≡ Some other.0 =
              ap (λ (q : Peer). replied_by l q m) is.0 ∙ (ap (λ (n : Content). replied_by l peer n) is.1 ∙ other.1) in
              ne (sym it.back ∙ (ap (λ (g : FirstSending). ask_behind l g.opening) (some-is _ _ (sym h.under ∙ found)) ∙ other.2))))))
        ]

    entry-adds : (l : List Noted) (x : Noted) → AreBacked gs (x ∷ l) → ArePlaced gs f home t (x ∷ l) → FitsHere l (length l) x.written.deed x.note
        → carried_replies (copied home gs t l) (f o) ≡ map renumbered (early (length l) rs)
        → (c : Bool) → has gs (length l) ≡ c
        → carried_replies (add_copy (length l) x.written.moment (copy_by c home t x.written.moment x.written.deed x.note) (copied home gs t l)) (f o)
        ≡ map renumbered (early (suc (length l)) rs)
    entry-adds l x backed placed fit ih false not =
        past-adds x.written.moment (length l) (f o) (kept_as x.written.deed x.note) (copied home gs t l)
        ∙ (ih ∙ ap (map renumbered) (sym (none-adds l (length l) x.written.deed x.note fit (λ m mine hears. false≢true (sym not ∙ mine)))))
    entry-adds l x backed placed fit ih true mine = kinds x.written.deed x.note (backed.1 mine) fit
      where
        n : ℕ
        n = length l

        s : ℕ
        s = x.written.moment

        quiet : (d : Deed) (note : Note) → FitsHere l n d note → ((m : Content) → HearsAs d note peer m → ⊥) → carried_replies (copied home gs t l) (f o) ≡ map renumbered (early (suc n) rs)
        quiet d note fit none = ih ∙ ap (map renumbered) (sym (none-adds l n d note fit (λ m mine hears. none m hears)))

        kinds : (d : Deed) (note : Note) → BackedEntry gs l d note → FitsHere l n d note
            → carried_replies (add_copy n s (backing_copy home d note) (copied home gs t l)) (f o) ≡ map renumbered (early (suc n) rs)
        kinds (Asks c a) note h fit = quiet (Asks c a) note fit (λ m hears. hears)
        kinds (Carries k mark (D.Asked c a)) note h fit = quiet (Carries k mark (D.Asked c a)) note fit (λ m hears. hears)
        kinds (Sends p b w) (First q m) h fit = quiet (Sends p b w) (First q m) fit (λ m hears. hears)
        kinds (Carries k mark (D.Sent p b w)) (First q m) h fit = quiet (Carries k mark (D.Sent p b w)) (First q m) fit (λ m hears. hears)
        kinds (Hears p b) (Says m to notice) h fit =
            reply-adds (Hears p b) (Says m to notice) l s p b m (answered_as (answered (Says m to notice))) backed.0 placed.0 (placed.1 mine).0 mine h fit (refl, refl) (λ q n hears. hears) ih
        kinds (Carries k mark (D.Heard p b)) (Recalls m a) h fit =
            reply-adds (Carries k mark (D.Heard p b)) (Recalls m a) l s p b m a backed.0 placed.0 (placed.1 mine).0 mine h fit (refl, refl) (λ q n hears. hears) ih
        kinds d note h fit = absurd h

    pub replies-copied : (l : List Noted) → AreBacked gs l → ArePlaced gs f home t l → AreFit l
        → carried_replies (copied home gs t l) (f o) ≡ map renumbered (early (length l) rs)
    replies-copied [] backed placed fit = ap (map renumbered) (sym (early-zero rs))
    replies-copied (x ∷ older) backed placed fit =
        entry-adds older x backed placed fit.1 (replies-copied older backed.0 placed.0 fit.0) (has gs (length older)) refl
