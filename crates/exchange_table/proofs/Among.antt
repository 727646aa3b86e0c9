-- Rows that are changed in their places, one after another, by the marks of one digest.
use Rattle.std.proofs.Common.{◌≡◌, ℕ, zero, suc, ◌+◌, ◌%◌, ◌<◌, ◌≤◌, inl, inr, Bool, true, false, not, cond, ◌&&◌, ◌||◌, eqb, List, [], ◌∷◌, ◌++◌, length, map, take, get_or, Option, Some, None, refl, sym, ap, subst, ◌∙◌, arith}
use Rattle.std.specs.Prelude.{filter}
use Rattle.std.proofs.Math.ListN.{set}
use Rattle.std.specs.List.{AllByRecursion, list_any}
use Rattle.std.specs.Option.{option_map_or}
use Rattle.std.proofs.lemmas.Bool.{false≢true}
use Rattle.std.proofs.lemmas.Bool.Decides.{eqb_tells}
use Rattle.history_laws.proofs.CallerLemmas.{all-more}
use Rattle.cache_key.specs.declared.digest.Digests.{Digests}
use Rattle.cache_key.specs.declared.place.Place.{Place}
use Rattle.cache_key.specs.Digests.{digests_of}
use Rattle.cache_key.specs.Keys.{CacheKey, same_key, same_place}
use Rattle.cache_key.proofs.CallerLemmas.{keys_told_by, places_told_by}
use Rattle.ask_model.specs.Requests.{CoapRequest, Sense, Requests, Refuses}
use Rattle.ask_model.specs.Sharing.{asked_key, asked_place, is_get, place_written}
use Rattle.journal_book.specs.Entries.{Written}
use Rattle.exchange_model.specs.declared.kept.Exchange.{Exchange}
use Rattle.exchange_model.specs.Matters.{IsDigested, asked_in, is_reading, reads_key, request_in}
use Rattle.exchange_model.specs.Hearing.{outdated_by}
use Rattle.exchange_table.specs.declared.marks.Mark.{Mark}
use Rattle.exchange_table.specs.Marks.{AreMarked, has_digest, key_in, mark_by, place_in}
use Rattle.exchange_table.specs.Outrunning.{only_at, outdates, outrun_with}
use Rattle.exchange_table.specs.Places.{IsNowhere, IsOnlyAt, RiseBy}
use Rattle.exchange_table.specs.Tables.{is_opened_at, opening_of}
use Rattle.exchange_table.proofs.Searching.{any-with, or-first, or-second, same-as, some-is, none-some}
use Rattle.exchange_table.proofs.Standing.{map-none, map-only, only-is, rise-map}

-- one in its place

at-other : (o : ℕ) (f : Exchange → Exchange) (e : Exchange) → is_opened_at o e ≡ false → only_at o f e ≡ e
at-other o f e is = ap (λ (b : Bool). cond b (f e) e) is

pub at-nowhere : (o : ℕ) (f : Exchange → Exchange) (es : List Exchange) → IsNowhere (is_opened_at o) es → map (only_at o f) es ≡ es
at-nowhere o f es none = map-none (is_opened_at o) (only_at o f) es (at-other o f) none

pub at-only : (o : ℕ) (f : Exchange → Exchange) (es : List Exchange) (i : ℕ) (d : Exchange) → IsOnlyAt (is_opened_at o) es i
    → map (only_at o f) es ≡ set es i (f (get_or es i d))
at-only o f es i d only =
    map-only (is_opened_at o) (only_at o f) es i d (at-other o f) only
    ∙ ap (set es i) (ap (λ (b : Bool). cond b (f (get_or es i d)) (get_or es i d)) (only-is (is_opened_at o) es i d only))

-- those whose marks are among these

abbrev pub has_mark : List Mark → Exchange → Bool
has_mark ms e = list_any (λ (m : Mark). is_opened_at m.opening e) ms

abbrev pub among : List Mark → (Exchange → Exchange) → Exchange → Exchange
among ms f e = cond (has_mark ms e) (f e) e

-- Once changed it stays so, and its opening stays.
pub record Settles (f : Exchange → Exchange) : Type 0 where
  pub once : (e : Exchange) → f (f e) ≡ f e
  pub opening : (e : Exchange) → (f e).opening ≡ e.opening

one-more : (f : Exchange → Exchange) → Settles f → (ms : List Mark) (m : Mark) (e : Exchange) → only_at m.opening f (among ms f e) ≡ among (ms ++ m ∷ []) f e
one-more f s ms m e =
    by (has_mark ms e) ∙ sym (ap (λ (b : Bool). cond b (f e) e) (any-with (λ (k : Mark). is_opened_at k.opening e) ms m))
  where
    stays : (b : Bool) → cond b (f (f e)) (f e) ≡ f e
    stays true = s.once e
    stays false = refl

    by : (b : Bool) → only_at m.opening f (cond b (f e) e) ≡ cond (b || is_opened_at m.opening e) (f e) e
    by true = stays (is_opened_at m.opening (f e))
    by false = refl

map-more : (f : Exchange → Exchange) → Settles f → (ms : List Mark) (m : Mark) (es : List Exchange)
    → map (only_at m.opening f) (map (among ms f) es) ≡ map (among (ms ++ m ∷ []) f) es
map-more f s ms m [] = refl
map-more f s ms m (e ∷ es) =
    ap (λ (x : Exchange). x ∷ map (only_at m.opening f) (map (among ms f) es)) (one-more f s ms m e)
    ∙ ap (λ (xs : List Exchange). among (ms ++ m ∷ []) f e ∷ xs) (map-more f s ms m es)

take-next : (ms : List Mark) (i : ℕ) (d : Mark) → i < length ms → take (suc i) ms ≡ take i ms ++ get_or ms i d ∷ []
take-next [] i d lt = absurd (omega (arith, lt))
take-next (m ∷ ms) zero d lt = refl
take-next (m ∷ ms) (suc i) d lt = ap (λ (xs : List Mark). m ∷ xs) (take-next ms i d (omega (arith, lt)))

pub among-none : (f : Exchange → Exchange) (es : List Exchange) → map (among [] f) es ≡ es
among-none f [] = refl
among-none f (e ∷ es) = ap (λ (xs : List Exchange). e ∷ xs) (among-none f es)

pub among-next : (f : Exchange → Exchange) → Settles f → (ms : List Mark) (i : ℕ) (d : Mark) (old now new : List Exchange)
    → i < length ms → now ≡ map (among (take i ms) f) old → new ≡ map (only_at (get_or ms i d).opening f) now → new ≡ map (among (take (i + 1) ms) f) old
among-next f s ms i d old now new lt here last =
    last ∙ ap (map (only_at (get_or ms i d).opening f)) here ∙ map-more f s (take i ms) (get_or ms i d) old
    ∙ ap (λ (xs : List Mark). map (among xs f) old) (sym (take-next ms i d lt) ∙ ap (λ (k : ℕ). take k ms) (sym more))
  where
    more : i + 1 ≡ suc i
    more = omega arith

take-all : (ms : List Mark) (i : ℕ) → length ms ≤ i → take i ms ≡ ms
take-all [] zero le = refl
take-all [] (suc i) le = refl
take-all (m ∷ ms) zero le = absurd (omega (arith, le))
take-all (m ∷ ms) (suc i) le = ap (λ (xs : List Mark). m ∷ xs) (take-all ms i (omega (arith, le)))

pub among-done : (f : Exchange → Exchange) (ms : List Mark) (i : ℕ) (old now : List Exchange) → length ms ≤ i → now ≡ map (among (take i ms) f) old → now ≡ map (among ms f) old
among-done f ms i old now le here = here ∙ ap (λ (xs : List Mark). map (among xs f) old) (take-all ms i le)

pub among-rise : (f : Exchange → Exchange) → Settles f → (ms : List Mark) (es : List Exchange) → RiseBy opening_of es → RiseBy opening_of (map (among ms f) es)
among-rise f s ms es rise = rise-map opening_of (among ms f) es (λ (e : Exchange). by e (has_mark ms e)) rise
  where
    by : (e : Exchange) (b : Bool) → opening_of (cond b (f e) e) ≡ opening_of e
    by e true = s.opening e
    by e false = refl

-- Where no other is changed than those of the digest, all are.
module _ (n : Digests → ℕ) (d : ℕ) where
  abbrev of_digest : List Exchange → List Mark
  of_digest es = filter (has_digest d) (map (mark_by n) es)

  there : (es : List Exchange) → AllByRecursion (λ (e : Exchange). eqb (n e.digests) d ≡ true → has_mark (of_digest es) e ≡ true) es
  there [] = tt
  there (e ∷ es) = (
    here (eqb (n e.digests) d),
    all-more (λ (x : Exchange). eqb (n x.digests) d ≡ true → has_mark (of_digest es) x ≡ true)
        (λ (x : Exchange). eqb (n x.digests) d ≡ true → has_mark (cond (eqb (n e.digests) d) (mark_by n e ∷ of_digest es) (of_digest es)) x ≡ true)
        (λ x h is. more (eqb (n e.digests) d) x (h is)) es (there es),
  )
    where
      here : (b : Bool) → b ≡ true → has_mark (cond b (mark_by n e ∷ of_digest es) (of_digest es)) e ≡ true
      here true h = or-first (is_opened_at e.opening e) (has_mark (of_digest es) e) (same-as e.opening e.opening refl)
      here false h = absurd (false≢true h)

      more : (b : Bool) (x : Exchange) → has_mark (of_digest es) x ≡ true → has_mark (cond b (mark_by n e ∷ of_digest es) (of_digest es)) x ≡ true
      more true x h = or-second (is_opened_at e.opening x) (has_mark (of_digest es) x) h
      more false x h = h

  each-among : (f : Exchange → Exchange) (ms : List Mark) (es : List Exchange) → AllByRecursion (λ (e : Exchange). eqb (n e.digests) d ≡ true → has_mark ms e ≡ true) es
      → AllByRecursion (λ (e : Exchange). eqb (n e.digests) d ≡ false → f e ≡ e) es → map (among ms f) es ≡ map f es
  each-among f ms [] t o = refl
  each-among f ms (e ∷ es) t o =
      ap (λ (x : Exchange). x ∷ map (among ms f) es) (one (eqb (n e.digests) d) (has_mark ms e) t.0 o.0)
      ∙ ap (λ (xs : List Exchange). f e ∷ xs) (each-among f ms es t.1 o.1)
    where
      one : (b c : Bool) → (b ≡ true → c ≡ true) → (b ≡ false → f e ≡ e) → cond c (f e) e ≡ f e
      one b true u v = refl
      one true false u v = absurd (false≢true (u refl))
      one false false u v = sym (v refl)

  pub among-all : (f : Exchange → Exchange) (es : List Exchange) (marks : List Mark) → AreMarked n es marks
      → AllByRecursion (λ (e : Exchange). eqb (n e.digests) d ≡ false → f e ≡ e) es → map (among (filter (has_digest d) marks) f) es ≡ map f es
  among-all f es marks are others =
      ap (λ (ms : List Mark). map (among ms f) es) (are.same d) ∙ each-among f (of_digest es) es (there es) others

and-false : (b : Bool) → (b && false) ≡ false
and-false true = refl
and-false false = refl

apart : (a b : ℕ) → eqb a b ≡ false → a ≡ b → ⊥
apart a b is e = false≢true (sym is ∙ same-as a b e)

-- Where their halves differ, so do two digests.
halves-apart : (a b : ℕ) → eqb (a % 4294967296) (b % 4294967296) ≡ false → eqb a b ≡ false
halves-apart a b is = elim (eqb_tells a b) [
  | inl w ↦ absurd (apart (a % 4294967296) (b % 4294967296) is (ap (λ (k : ℕ). k % 4294967296) w.1))
  | inr w ↦ w.0
]

-- what a write outruns

pub outrun-settles : (w : Option CoapRequest) (ws : List Written) → Settles (outrun_with w ws)
outrun-settles w ws = record {
  once = λ e. once e (outdates w (asked_in ws e.ask)) refl;
  opening = λ e. opening e (outdates w (asked_in ws e.ask));
}
  where
    once : (e : Exchange) (b : Bool) → outdates w (asked_in ws e.ask) ≡ b
        → outrun_with w ws (cond b (record e { current = false }) e) ≡ cond b (record e { current = false }) e
    once e true is = ap (λ (c : Bool). cond c (record e { current = false }) (record e { current = false })) is
    once e false is = ap (λ (c : Bool). cond c (record e { current = false }) e) is

    opening : (e : Exchange) (b : Bool) → (cond b (record e { current = false }) e).opening ≡ e.opening
    opening e true = refl
    opening e false = refl

pub outrun-others : (ws : List Written) (sense : Sense) (k : CacheKey) (es : List Exchange) → Some k.place ≡ place_written sense → AllByRecursion (IsDigested ws) es
    → AllByRecursion (λ (e : Exchange). eqb (place_in e.digests) (place_in (digests_of k)) ≡ false → outrun_with (request_in sense) ws e ≡ e) es
outrun-others ws sense k es at digested =
    all-more (IsDigested ws) (λ (e : Exchange). eqb (place_in e.digests) (place_in (digests_of k)) ≡ false → outrun_with (request_in sense) ws e ≡ e)
    (λ e h is. ap (λ (b : Bool). cond b (record e { current = false }) e) (no sense at e h is (asked_in ws e.ask) refl)) es digested
  where
    written : (r : CoapRequest) (b : Bool) → Some k.place ≡ cond b None (Some (asked_place r)) → k.place ≡ asked_place r
    written r true e = absurd (none-some k.place (sym e))
    written r false e = some-is k.place (asked_place r) e

    no : (s : Sense) → Some k.place ≡ place_written s → (e : Exchange) → IsDigested ws e → eqb (place_in e.digests) (place_in (digests_of k)) ≡ false
        → (v : Option CoapRequest) → asked_in ws e.ask ≡ v → outdates (request_in s) v ≡ false
    no (Refuses cause status) so e h is None asks = refl
    no (Refuses cause status) so e h is (Some q) asks = refl
    no (Requests r) so e h is None asks = refl
    no (Requests r) so e h is (Some q) asks =
        let whole : eqb e.digests.place (digests_of k).place ≡ false = halves-apart e.digests.place (digests_of k).place is in
        let other : same_place (asked_place q) k.place ≡ false =
        sym (places_told_by (asked_key q) k e.digests (digests_of k) (sym (h q asks)) refl (apart e.digests.place (digests_of k).place whole)) ∙ whole in
        let none : same_place (asked_place q) (asked_place r) ≡ false = subst (λ (p : Place). same_place (asked_place q) p ≡ false) (written r (eqb r.method 1) so) other in
        ap (λ (b : Bool). (not (eqb r.method 1)) && b) none ∙ and-false (not (eqb r.method 1))

-- what a notification outdates

pub outdated-settles : (ws : List Written) (key : CacheKey) → Settles (outdated_by ws key)
outdated-settles ws key = record {
  once = λ e. once e (option_map_or (reads_key key) (asked_in ws e.ask) false) refl;
  opening = λ e. opening e (option_map_or (reads_key key) (asked_in ws e.ask) false);
}
  where
    once : (e : Exchange) (b : Bool) → option_map_or (reads_key key) (asked_in ws e.ask) false ≡ b
        → outdated_by ws key (cond b (record e { newest = false }) e) ≡ cond b (record e { newest = false }) e
    once e true is = ap (λ (c : Bool). cond c (record e { newest = false }) (record e { newest = false })) is
    once e false is = ap (λ (c : Bool). cond c (record e { newest = false }) e) is

    opening : (e : Exchange) (b : Bool) → (cond b (record e { newest = false }) e).opening ≡ e.opening
    opening e true = refl
    opening e false = refl

-- what has another digest doesn't read what is under the key
pub not-reading : (ws : List Written) (key : CacheKey) (e : Exchange) → IsDigested ws e
    → eqb (key_in e.digests) (key_in (digests_of key)) ≡ false → is_reading ws key e ≡ false
not-reading ws key e h is = no (asked_in ws e.ask) refl
  where
    no : (v : Option CoapRequest) → asked_in ws e.ask ≡ v → option_map_or (reads_key key) v false ≡ false
    no None asks = refl
    no (Some q) asks =
        let whole : eqb e.digests.key (digests_of key).key ≡ false = halves-apart e.digests.key (digests_of key).key is in
        let other : same_key (asked_key q) key ≡ false =
        sym (keys_told_by (asked_key q) key e.digests (digests_of key) (sym (h q asks)) refl (apart e.digests.key (digests_of key).key whole)) ∙ whole in
        ap (λ (b : Bool). is_get q && b) other ∙ and-false (is_get q)

pub outdated-others : (ws : List Written) (key : CacheKey) (es : List Exchange) → AllByRecursion (IsDigested ws) es
    → AllByRecursion (λ (e : Exchange). eqb (key_in e.digests) (key_in (digests_of key)) ≡ false → outdated_by ws key e ≡ e) es
outdated-others ws key es digested =
    all-more (IsDigested ws) (λ (e : Exchange). eqb (key_in e.digests) (key_in (digests_of key)) ≡ false → outdated_by ws key e ≡ e)
    (λ e h is. ap (λ (b : Bool). cond b (record e { newest = false }) e) (not-reading ws key e h is)) es digested
