-- A response isn't crowded out while few others are asked for.
use Rattle.std.proofs.Common.{◌≡◌, ◌≢◌, ℕ, ◌+◌, ◌<◌, ◌≤◌, ◌⊎◌, eqb, inl, inr, List, [], ◌∷◌, length, Some, refl, sym, subst, ◌∙◌, arith, true, false, Bool, cond}
use Rattle.std.specs.List.{Contains, AllByRecursion}
use Rattle.std.proofs.lemmas.Bool.Decides.{leb_tells}
use Rattle.cache_key.specs.Keys.{CacheKey}
use Rattle.ask_model.specs.Requests.{CoapRequest, Requests}
use Rattle.ask_model.specs.Sharing.{asked_key, is_get}
use Rattle.ask_model.specs.Views.{Ask}
use Rattle.journal_book.specs.Entries.{Deed, Opens, Asks, Sends, Hears, Passes, Answers, Shuts, Seals, Carries}
use Rattle.history_laws.specs.Readings.{Noted, Note, Serves, First, entries, at, before, noted}
use Rattle.history_laws.specs.Connections.{is_sealed}
use Rattle.history_laws.specs.Progress.{Ending, Whole, Renewed}
use Rattle.history_laws.specs.Exchanges.{Begun, begun, End, Nothing, Sent, turn, replies, kept, end_here, end_of, heard_for}
use Rattle.history_laws.specs.Storing.{IsUse, IsUsedSince, KeysDiffer, IsCrowdedOut, ComesSo, IsStoring}
use Rattle.history_laws.specs.Justified.{Follows, Legal, MayCome}
use Rattle.history_laws.proofs.CallerLemmas.{at-before, at-below, begun-before, begun-below, contains-later, contains-none, end-since, ends-first, first-or-later, follows-at, none-some, opened-for, served-by, length-before, updates-since}
use Rattle.history_claims.specs.Once.{AreFew}
use Rattle.history_claims.proofs.Alone.{requests-same}
use Rattle.history_claims.proofs.Entries.{asked-entry}
use Rattle.history_claims.proofs.Quiet.{asked-since, open-since}
use Rattle.history_claims.proofs.Pending.{fetching-is}
use Rattle.history_claims.proofs.Alike.{stored-get}
use Rattle.history_claims.proofs.Notified.{notice-began, update-is}

-- Of keys that differ, and are among others, there are no more than of these.
without : (ys : List CacheKey) (x : CacheKey) → Contains ys x
    → (zs : List CacheKey) × (length ys ≡ length zs + 1) × ((z : CacheKey) → x ≢ z → Contains ys z → Contains zs z)
without [] x has = absurd (contains-none x has)
without (y ∷ ys) x has =
    elim (first-or-later y ys x has) [
      | inl same ↦ (
        ys,
        omega arith,
        λ z other there. elim (first-or-later y ys z there) [ inl u ↦ absurd (other (sym same ∙ u)) | inr u ↦ u ],
      )
      | inr later ↦
          let it = without ys x later in
          let size = it.1 in (
            y ∷ it.0,
            omega (arith, size),
            λ z other there. elim (first-or-later y ys z there) [
              | inl u ↦ subst (λ (v : CacheKey). Contains (y ∷ it.0) v) u (here y it.0)
              | inr u ↦ contains-later y it.0 z (it.2 z other u)
            ],
          )
    ]
  where
    here : (y : CacheKey) (zs : List CacheKey) → Contains (y ∷ zs) y
    here y zs = (0, omega arith, refl)

others-too : (x : CacheKey) (ys zs xs : List CacheKey) → ((z : CacheKey) → x ≢ z → Contains ys z → Contains zs z)
    → AllByRecursion (λ (j : CacheKey). x ≢ j) xs → AllByRecursion (Contains ys) xs → AllByRecursion (Contains zs) xs
others-too x ys zs [] keeps other there = tt
others-too x ys zs (v ∷ xs) keeps other there = (keeps v other.0 there.0, others-too x ys zs xs keeps other.1 there.1)

pub few-keys : (xs ys : List CacheKey) → KeysDiffer xs → AllByRecursion (Contains ys) xs → length xs ≤ length ys
few-keys [] ys differ there = omega arith
few-keys (x ∷ xs) ys differ there =
    let it = without ys x there.0 in
    let size = it.1 in
    let ih = few-keys xs it.0 differ.1 (others-too x ys it.0 xs it.2 differ.0 there.1) in
    omega (arith, size, ih)

-- What ends an exchange is an input.
sent-ends-none : (b : Bool) (l : List Noted) (o n i : ℕ) (how : Ending) → end_here (begun l o) (kept l o) n (heard_for l o) (cond b (Sent i) Nothing) ≡ Some how → ⊥
sent-ends-none true l o n i how e = none-some how e
sent-ends-none false l o n i how e = none-some how e

sends-end-none : (l : List Noted) (o n t : ℕ) (d : Deed) (note : Note) (how : Ending) → end_here (begun l o) (kept l o) n (heard_for l o) (turn l o (noted t d note)) ≡ Some how
    → Follows l t d note → MayCome l
sends-end-none l o n t (Hears p b) note how e may = may.0
sends-end-none l o n t Passes note how e may = may.0
sends-end-none l o n t (Sends p b w) (First q m) how e may = absurd (sent-ends-none (eqb q o) l o n (length l) how e)
sends-end-none l o n t (Sends p b w) note how e may = absurd (none-some how e)
sends-end-none l o n t (Opens c) note how e may = absurd (none-some how e)
sends-end-none l o n t (Asks c a) note how e may = absurd (none-some how e)
sends-end-none l o n t (Answers c k g) note how e may = absurd (none-some how e)
sends-end-none l o n t (Shuts c) note how e may = absurd (none-some how e)
sends-end-none l o n t Seals note how e may = absurd (none-some how e)
sends-end-none l o n t (Carries k mark done) note how e may = absurd (none-some how e)

pub ends-come : (l : List Noted) (o : ℕ) (e : End) → Legal l → end_of l o ≡ Some e → (x : Noted) × (at l e.number ≡ Some x) × MayCome (before l e.number)
ends-come l o e legal ended =
    let first = ends-first l o e.number e.how ended in
    let x : Noted = first.0 in (
      x,
      first.1,
      sends-end-none (before l e.number) o e.number x.written.moment x.written.deed x.note e.how first.3 (follows-at l e.number x legal first.1),
    )

pub asks-come : (l : List Noted) (t c : ℕ) (a : Ask) (note : Note) → Follows l t (Asks c a) note → MayCome l
asks-come l t c a note may = may.0

-- what is served is a GET
served-get : (l : List Noted) (t i c : ℕ) (a : Ask) (js : List ℕ) (q : CoapRequest) → Legal l → at l i ≡ Some (noted t (Asks c a) (Serves js))
    → a.sense ≡ Requests q → is_get q ≡ true
served-get l t i c a js q legal stands sense =
    let it = served-by l t i c a js legal stands in
    subst (λ (q : CoapRequest). is_get q ≡ true) (requests-same it.request q (sym it.sense ∙ sense))
    (stored-get (before l i) it.request it.stored it.is)

-- The key was used in the entry u, and since then nothing came up to the entry s; since that few others were asked for.
module _ (l : List Noted) (s u k : ℕ) (y : Noted) (q : CoapRequest) (legal : Legal l) (there : at l s ≡ Some y) (unsealed : is_sealed (before l s) ≡ false)
    (unopened : (b : Begun) → begun l s ≡ Some b → ⊥) (few : AreFew (entries l) s k q)
    (quiet : (i : ℕ) (x : Noted) → u < i → i ≤ s → at l i ≡ Some x → MayCome (before l i) → ⊥)
    (m : ℕ) (v : Noted) (here : at l m ≡ Some v) (le : m ≤ k) (own : IsUse (before l m) u (asked_key q)) where
  size : length (before l m) ≡ m
  size = length-before l m v here

  abbrev IsAmong : CacheKey → Type 0
  IsAmong key = (key ≡ asked_key q) ⊎ Contains few.others key

  later-than : (i : ℕ) (x : Noted) → u < i → at l i ≡ Some x → MayCome (before l i) → s < i
  later-than i x late stands come = elim (leb_tells i s) [ inl w ↦ absurd (quiet i x late w.1 stands come) | inr w ↦ w.1 ]

  -- An exchange that ended since was asked for since, or was pending then.
  ended-of : (i : ℕ) (key : CacheKey) (o since : ℕ) (r : CoapRequest) → u < i → begun (before l m) o ≡ Some (record { since = since; request = r })
      → (how : Ending) → end_of (before l m) o ≡ Some (record { number = i; how = how }) → is_get r ≡ true → asked_key r ≡ key → IsAmong key
  ended-of i key o since r late begun_then how ended_then get is =
      let b : Begun = record { since = since; request = r } in
      let opened = begun-before l m o b begun_then in
      let below = subst (λ (n : ℕ). o < n) size (begun-below (before l m) o b begun_then) in
      let e : End = record { number = i; how = how } in
      let ended = end-since l m o e ended_then in
      let came = ends-come l o e legal ended in
      let after = later-than i came.0 late came.1 came.2 in
      let other : o ≡ s → ⊥ = λ same. unopened b (subst (λ (o : ℕ). begun l o ≡ Some b) same opened) in
      elim (opened-for l o b legal opened) [
        | inl ask ↦
            subst IsAmong is
            (few.all o r (record {
              conn = ask.conn;
              moment = since;
              asked = asked-entry l o ask.conn since ask.ask _ (Requests r) ask.stands ask.sense;
              before = omega (arith, below, le);
              since = asked-since l s o y b e legal there unsealed opened ended (omega (arith, after)) other ask;
            })
            get)
        | inr notice ↦
            subst IsAmong is
            (few.told notice.ask o r notice.message (notice-began l o b legal notice).notified (omega (arith, below, le))
            (elim (open-since l s o y b e legal there opened ended (omega (arith, after)) other) [
              | inl lt ↦ inl lt
              | inr w ↦ inr (since, fetching-is l s o y legal there w.0 b w.1 notice)
            ]))
      ]

  -- what was used since
  used-of : (i : ℕ) (key : CacheKey) → u < i → IsUse (before l m) i key → IsAmong key
  used-of i key late (inl it) =
      let stands = at-before l m i _ it.stands in
      let below = subst (λ (n : ℕ). i < n) size (at-below (before l m) i _ it.stands) in
      subst IsAmong it.is
      (few.all i it.request (record {
        conn = it.conn;
        moment = it.moment;
        asked = asked-entry l i it.conn it.moment it.ask _ (Requests it.request) stands it.sense;
        before = omega (arith, below, le);
        since = inl (later-than i _ late stands (asks-come (before l i) it.moment it.conn it.ask _ (follows-at l i _ legal stands)));
      })
      (served-get l it.moment i it.conn it.ask it.replies it.request legal stands it.sense))
  used-of i key late (inr (inr it)) =
      ended-of i key it.opening it.since it.request late it.opened (Renewed it.kept it.reply) it.ended it.get it.is
  used-of i key late (inr (inl it)) = stored-of i key late it it.comes
    where
      stored-of : (i : ℕ) (key : CacheKey) → u < i → (it : IsStoring (before l m) i key) → ComesSo (before l m) it.opening i it.response (it.first ∷ it.more)
          → IsAmong key
      stored-of i key late it (inl ends) =
          ended-of i key it.opening it.since it.request late it.opened (Whole it.response (it.first ∷ it.more)) ends.ended it.get it.is
      stored-of i key late it (inr t) =
          let b : Begun = record { since = it.since; request = it.request } in
          let opened = begun-before l m it.opening b it.opened in
          let now = updates-since l m v it.opening i it.response (it.first ∷ it.more) here t in
          let told = update-is l it.opening i it.response (it.first ∷ it.more) b legal opened now in
          let after = later-than i _ late now.stands (follows-at l i _ legal now.stands).0 in
          let below = subst (λ (n : ℕ). i < n) size (at-below (before l m) i _ t.stands) in
          subst IsAmong it.is (few.told it.opening i it.request now.message told.0 (omega (arith, below, le)) (inl after))

  all-used : (keys : List CacheKey) → AllByRecursion (IsUsedSince (before l m) (asked_key q)) keys → AllByRecursion (Contains few.others) keys
  all-used [] h = tt
  all-used (key ∷ keys) h = (one h.0, all-used keys h.1)
    where
      one : IsUsedSince (before l m) (asked_key q) key → Contains few.others key
      one (inr it) = absurd (it.1.1 u own)
      one (inl it) =
          elim (used-of it.0 key (it.2 u own) it.1) [
            | inl same ↦
                let last = it.2 it.0 (subst (λ (v : CacheKey). IsUse (before l m) it.0 v) same it.1) in
                absurd (omega (arith, last))
            | inr other ↦ other
          ]

  pub uncrowded : IsCrowdedOut (before l m) (asked_key q) → ⊥
  uncrowded h =
      let le = few-keys h.others few.others h.differ (all-used h.others h.since) in
      let many = h.many in
      let less = few.few in
      omega (arith, le, many, less)
