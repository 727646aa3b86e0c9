-- Between the end of an exchange and the answer to its ask nothing comes.
use Rattle.std.proofs.Common.{◌≡◌, ℕ, ◌<◌, ◌≤◌, Bool, true, false, not, ◌||◌, inl, inr, List, [], ◌∷◌, length, Option, Some, None, refl, sym, subst, ◌∙◌, arith}
use Rattle.std.specs.Prelude.{is_none}
use Rattle.std.specs.Option.{option_map_or}
use Rattle.std.specs.List.{slice_get}
use Rattle.std.proofs.lemmas.Option.{slice_get_within}
use Rattle.std.proofs.lemmas.Bool.Decides.{eqb_tells, leb_tells}
use Rattle.std.proofs.lemmas.Bool.{false≢true}
use Rattle.coap_codec.specs.Spelling.{Content}
use Rattle.uri_map.specs.declared.peer.Peer.{Peer}
use Rattle.ask_model.specs.Views.{Ask}
use Rattle.journal_book.specs.Entries.{Grounds, Deed, Opens, Asks, Answers, Shuts}
use Rattle.history_laws.specs.Readings.{Noted, Note, at, before, noted}
use Rattle.history_laws.specs.Connections.{has_opened, open_by, is_open, asks_of, answers_of, opened_by, opened}
use Rattle.history_laws.specs.Progress.{Ending}
use Rattle.history_laws.specs.Exchanges.{Begun, begun, is_late, Turn, Nothing, Sent, Replied, Rejected, Expired, expires, turn, waits_for, kept, end_here, end_of, is_going, heard_for}
use Rattle.history_laws.specs.Justified.{IsAsk, Ends, reads_in, reads, reads_open, pending, is_in_hand, Follows, Legal, AtRest, MayCome}
use Rattle.history_laws.specs.Laws.{IsFirst}
use Rattle.history_laws.proofs.CallerLemmas.{ask-listed, asks-keep, asks-once, at-same, at-still, before-twice, begun-below, ends-first, few-waiting, follows-at, IsFirst-below, legal-before, length-before, more-answers, next-above, none-some, open-below, range-passes, sent-for, turn-replied, waits-first}
use Rattle.history_claims.proofs.Entries.{grows}
use Rattle.history_claims.proofs.Ending.{turn-rejected, turn-expired}
use Rattle.history_claims.proofs.Unsent.{ended-at}

-- as many connections were opened, and asks answered, as before, or more
more-opened : (l : List Noted) (t : ℕ) (d : Deed) (note : Note) → Follows l t d note → opened l ≤ opened_by d (opened l)
more-opened l t (Opens c) note may = let here = next-above (has_opened l) (opened l) c may.1 in omega (arith, here)
more-opened l t d note may = omega arith

pub opened-before : (l : List Noted) (n : ℕ) → Legal l → opened (before l n) ≤ opened l
opened-before [] n legal = omega arith
opened-before (x ∷ older) n legal =
    elim (eqb_tells n (length older)) [
      | inl w ↦ rw (w.0) (more-opened older x.written.moment x.written.deed x.note legal.2)
      | inr w ↦
          let ih = opened-before older n legal.0 in
          let more = more-opened older x.written.moment x.written.deed x.note legal.2 in
          rw (w.0) (omega (arith, ih, more))
    ]

answers-before : (l : List Noted) (n c : ℕ) → length (answers_of (before l n) c) ≤ length (answers_of l c)
answers-before [] n c = omega arith
answers-before (x ∷ older) n c =
    elim (eqb_tells n (length older)) [
      | inl w ↦ rw (w.0) (more-answers older c x.written.deed)
      | inr w ↦
          let ih = answers-before older n c in
          let more = more-answers older c x.written.deed in
          rw (w.0) (omega (arith, ih, more))
    ]

-- A connection that is open, and had a number before, was open then.
open-was : (l : List Noted) (t c : ℕ) (d : Deed) (note : Note) → c < opened l → Follows l t d note → open_by c d (is_open l c) ≡ true → is_open l c ≡ true
open-was l t c (Opens e) note below may h =
    elim (eqb_tells e c) [
      | inl w ↦ let same = w.1 in let here = next-above (has_opened l) (opened l) e may.1 in absurd (omega (arith, same, here, below))
      | inr w ↦ rw (w.0) at h
    ]
open-was l t c (Shuts e) note below may h =
    elim (eqb_tells e c) [ inl w ↦ absurd (false≢true (rw (w.0) at h)) | inr w ↦ rw (w.0) at h ]
open-was l t c d note below may h = h

pub open-back : (l : List Noted) (n c : ℕ) → Legal l → c < opened (before l n) → is_open l c ≡ true → is_open (before l n) c ≡ true
open-back [] n c legal below h = h
open-back (x ∷ older) n c legal below h =
    elim (eqb_tells n (length older)) [
      | inl w ↦ rw (w.0) (open-was older x.written.moment c x.written.deed x.note (rw (w.0) at below) legal.2 h)
      | inr w ↦
          let less : c < opened (before older n) = rw (w.0) at below in
          let more = opened-before older n legal.0 in
          rw (w.0) (open-back older n c legal.0 less (open-was older x.written.moment c x.written.deed x.note (omega (arith, less, more)) legal.2 h))
    ]

-- The ask that a connection waits for it waited for before, from the ask on.
pub pending-back : (l : List Noted) (i c k : ℕ) (a : Ask) → Legal l → pending l c ≡ Some k → IsAsk (before l i) k c a → pending (before l i) c ≡ Some k
pending-back l i c k a legal next ask =
    let listed = ask-listed (before l i) k c a ask in
    let q : ℕ = listed.0 in
    let still = grows (λ (l : List Noted). slice_get (asks_of l c) q ≡ Some k) (λ x l h. asks-keep l c x.written.deed q k h) l i listed.1 in
    let same : q ≡ length (answers_of l c) = asks-once l c q (length (answers_of l c)) k still next in
    let few = few-waiting (before l i) c (legal-before l i legal) in
    let within = slice_get_within (asks_of (before l i) c) q k listed.1 in
    let less = answers-before l i c in
    let place : q ≡ length (answers_of (before l i) c) = omega (arith, same, few, within, less) in
    subst (λ (q : ℕ). slice_get (asks_of (before l i) c) q ≡ Some k) place listed.1

-- what an open connection waits for goes on while an input may come
pub in-hand : (l : List Noted) (c k o : ℕ) → AtRest l → c < opened l → is_open l c ≡ true → pending l c ≡ Some k → reads l k ≡ Some o → is_going l o ≡ true
in-hand l c k o rest below now next own =
    let hand : is_in_hand l c ≡ true = range-passes (is_in_hand l) 0 (opened l) c rest.waits (omega arith) (omega (arith, below)) in
    let here : (not true || option_map_or (λ (k : ℕ). reads_open l (reads l k)) (pending l c) true) ≡ true =
    subst (λ (b : Bool). (not b || option_map_or (λ (k : ℕ). reads_open l (reads l k)) (pending l c) true) ≡ true) now hand in
    let reading : option_map_or (λ (k : ℕ). reads_open l (reads l k)) (Some k) true ≡ true =
    subst (λ (o : Option ℕ). option_map_or (λ (k : ℕ). reads_open l (reads l k)) o true ≡ true) next here in
    subst (λ (o : Option ℕ). reads_open l o ≡ true) own reading

-- At rest, an ask that an open connection waits for reads an exchange.
pub reads-something : (l : List Noted) (k c : ℕ) → Legal l → AtRest l → is_open l c ≡ true → pending l c ≡ Some k → reads l k ≡ None → ⊥
reads-something l k c legal rest now next none =
    let below = open-below l legal c now in
    let hand : is_in_hand l c ≡ true = range-passes (is_in_hand l) 0 (opened l) c rest.waits (omega arith) (omega (arith, below)) in
    let open_one : (not true || option_map_or (λ (k : ℕ). reads_open l (reads l k)) (pending l c) true) ≡ true =
    subst (λ (b : Bool). (not b || option_map_or (λ (k : ℕ). reads_open l (reads l k)) (pending l c) true) ≡ true) now hand in
    let reading : option_map_or (λ (k : ℕ). reads_open l (reads l k)) (Some k) true ≡ true =
    subst (λ (o : Option ℕ). option_map_or (λ (k : ℕ). reads_open l (reads l k)) o true ≡ true) next open_one in
    false≢true (subst (λ (o : Option ℕ). reads_open l o ≡ true) none reading)

-- So between an ask that reads none and its answer no input comes.
module _ (l : List Noted) (n k c t s : ℕ) (a : Ask) (g : Grounds) (note at_end : Note) (legal : Legal l) (here : at l k ≡ Some (noted t (Asks c a) note))
    (answered : at l n ≡ Some (noted s (Answers c k g) at_end)) (none : reads l k ≡ None) where
  waits : (is_open (before l n) c ≡ true) × (pending (before l n) c ≡ Some k)
  waits = by (follows-at l n _ legal answered)
    where
      by : Follows (before l n) s (Answers c k g) at_end → (is_open (before l n) c ≡ true) × (pending (before l n) c ≡ Some k)
      by may = (may.1, may.2)

  open-then : is_open (before l k) c ≡ true
  open-then = by (follows-at l k _ legal here)
    where
      by : Follows (before l k) t (Asks c a) note → is_open (before l k) c ≡ true
      by may = may.1

  pub none-comes : (i : ℕ) (x : Noted) → k < i → i < n → at l i ≡ Some x → MayCome (before l i) → ⊥
  none-comes i x after less there come =
      let early = legal-before l n legal in
      let twice = before-twice l n i _ answered less in
      let sooner = before-twice l i k _ there after in
      let inner = at-still l n i _ _ answered less there in
      let below = open-below (before l k) (legal-before l k legal) c open-then in
      let more = opened-before (before l i) k (legal-before l i legal) in
      let size : c < opened (before l i) = omega (arith, subst (λ (v : List Noted). c < opened v) (sym sooner) below, more) in
      let now = open-back (before l n) i c early (subst (λ (v : List Noted). c < opened v) (sym twice) size) waits.0 in
      let asked : IsAsk (before l i) k c a = record { moment = t; note = note; stands = at-still l i k _ _ there after here } in
      let still = pending-back (before l n) i c k a early waits.1 (subst (λ (v : List Noted). IsAsk v k c a) (sym twice) asked) in
      reads-something (before l i) k c (legal-before l i legal) come.1
      (subst (λ (v : List Noted). is_open v c ≡ true) twice now)
      (subst (λ (v : List Noted). pending v c ≡ Some k) twice still)
      (subst (λ (x : Option Noted). reads_in k x ≡ None) (here ∙ sym asked.stands) none)

-- an exchange waits, and expires, after it was opened
waits-after : (l : List Noted) (k i : ℕ) → Legal l → waits_for l k ≡ Some i → k < length l
waits-after l k i legal is = expires-after (waits-first l k i is)
  where
    expires-after : (t : ℕ) × (p : Peer) × (m : Content) × IsFirst l t k i p m → k < length l
    expires-after it =
        let after = (sent-for l it.0 k i it.1 it.2 legal it.3).after in
        let below = IsFirst-below l it.0 k i it.1 it.2 it.3 in
        omega (arith, after, below)

late-begun : (l : List Noted) (k t : ℕ) (b : Option Begun) → begun l k ≡ b → is_late t b ≡ true → k < length l
late-begun l k t None is late = absurd (false≢true late)
late-begun l k t (Some b) is late = begun-below l k b is

expires-begun : (l : List Noted) (k t : ℕ) (w : Option ℕ) → Legal l → waits_for l k ≡ w → expires l k t w ≡ true → k < length l
expires-begun l k t None legal is over = late-begun l k t (begun l k) refl over
expires-begun l k t (Some i) legal is over = waits-after l k i legal is

-- and whatever ends it comes after that
pub ends-after : (l : List Noted) (k e : ℕ) (how : Ending) → Legal l → Ends l k e how → k < e
ends-after l k e how legal ended =
    let end = ends-first l k e how ended in
    subst (λ (n : ℕ). k < n) (length-before l e end.0 end.1) (go end.0 (turn (before l e) k end.0) refl end.3)
  where
    go : (x : Noted) (u : Turn) → turn (before l e) k x ≡ u → end_here (begun (before l e) k) (kept (before l e) k) e (heard_for (before l e) k) u ≡ Some how → k < length (before l e)
    go x (Replied i m place) is h = waits-after (before l e) k i (legal-before l e legal) (turn-replied (before l e) k x i m place is).waited
    go x Rejected is h = let it = turn-rejected (before l e) k x is in waits-after (before l e) k it.to (legal-before l e legal) it.waited
    go x Expired is h =
        expires-begun (before l e) k x.written.moment (waits_for (before l e) k) (legal-before l e legal) refl (turn-expired (before l e) k x is).over
    go x Nothing is h = absurd (none-some how h)
    go x (Sent i) is h = absurd (none-some how h)

-- What goes on when a connection asks ends after that.
asks-end-none : (l : List Noted) (o n t c : ℕ) (a : Ask) (note : Note) (how : Ending)
    → end_here (begun l o) (kept l o) n (heard_for l o) (turn l o (noted t (Asks c a) note)) ≡ Some how → ⊥
asks-end-none l o n t c a note how h = none-some how h

pub not-at-ask : (l : List Noted) (o e t c : ℕ) (a : Ask) (note : Note) (how : Ending) → Ends l o e how → at l e ≡ Some (noted t (Asks c a) note) → ⊥
not-at-ask l o e t c a note how ended here =
    let end = ends-first l o e how ended in
    asks-end-none (before l e) o e t c a note how
    (subst (λ (x : Noted). end_here (begun (before l e) o) (kept (before l e) o) e (heard_for (before l e) o) (turn (before l e) o x) ≡ Some how)
    (at-same l e end.0 (noted t (Asks c a) note) end.1 here) end.3)

pub ends-later : (l : List Noted) (k c o e : ℕ) (a : Ask) (how : Ending) → IsAsk l k c a → is_going (before l k) o ≡ true → Ends l o e how → k < e
ends-later l k c o e a how ask going ended =
    elim (leb_tells k e) [
      | inl w ↦ elim (eqb_tells k e) [
        | inl u ↦
            absurd (not-at-ask l o e ask.moment c a ask.note how ended
            (subst (λ (k : ℕ). at l k ≡ Some (noted ask.moment (Asks c a) ask.note)) u.1 ask.stands))
        | inr u ↦ let le = w.1 in let not = u.1 in omega (arith, le, not)
      ]
      | inr w ↦
          let end = ends-first l o e how ended in
          let twice = before-twice l k e _ ask.stands w.1 in
          let over : is_none (end_of (before l k) o) ≡ false =
          ended-at (before l k) o e end.0 how (at-still l k e _ _ ask.stands w.1 end.1)
          (subst (λ (v : List Noted). end_here (begun v o) (kept v o) e (heard_for v o) (turn v o end.0) ≡ Some how) (sym twice) end.3) in
          absurd (false≢true (sym over ∙ going))
    ]

-- the ask of an answer, and where the exchange that it reads ended
module _ (l : List Noted) (c k o e : ℕ) (how : Ending) (a : Ask) (legal : Legal l) (ask : IsAsk l k c a) (own : reads l k ≡ Some o) (ended : Ends l o e how) (after : k < e) where
  asked-open : is_open (before l k) c ≡ true
  asked-open = by (follows-at l k _ legal ask.stands)
    where
      by : Follows (before l k) ask.moment (Asks c a) ask.note → is_open (before l k) c ≡ true
      by may = may.1

  pub no-input : is_open l c ≡ true → pending l c ≡ Some k → (i : ℕ) (x : Noted) → e < i → at l i ≡ Some x → MayCome (before l i) → ⊥
  no-input now next i x late here come =
      let less : k < i = omega (arith, after, late) in
      let early = legal-before l i legal in
      let stands : IsAsk (before l i) k c a = record { moment = ask.moment; note = ask.note; stands = at-still l i k _ _ here less ask.stands } in
      let end = ends-first l o e how ended in
      let twice = before-twice l i e x here late in
      let over : is_none (end_of (before l i) o) ≡ false =
      ended-at (before l i) o e end.0 how (at-still l i e _ _ here late end.1)
      (subst (λ (v : List Noted). end_here (begun v o) (kept v o) e (heard_for v o) (turn v o end.0) ≡ Some how) (sym twice) end.3) in
      let below_ask : c < opened (before l k) = open-below (before l k) (legal-before l k legal) c asked-open in
      let more = opened-before (before l i) k (legal-before l i legal) in
      let sooner = before-twice l i k x here less in
      let below : c < opened (before l i) =
      omega (arith, subst (λ (v : List Noted). c < opened v) (sym sooner) below_ask, more) in
      let reading : reads (before l i) k ≡ Some o =
      subst (λ (x : Option Noted). reads_in k x ≡ Some o) (ask.stands ∙ sym stands.stands) own in
      let going = in-hand (before l i) c k o come.1 below (open-back l i c legal below now) (pending-back l i c k a legal next stands) reading in
      false≢true (sym over ∙ going)
