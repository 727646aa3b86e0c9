-- What a first sending leaves: its exchange awaits a reply, and the others are as they were.
use Rattle.std.proofs.Common.{◌≡◌, ℕ, ◌≤◌, ◌+◌, ◌-◌, Bool, true, false, cond, eqb, ltb, inl, inr, List, [], ◌∷◌, ◌++◌, length, Option, Some, None, refl, sym, ap, ◌∙◌, arith, ◌<◌}
use Rattle.std.specs.Prelude.{count_by, ◌&&◌, ◌||◌, is_none}
use Rattle.std.specs.List.{list_any, filter_map}
use Rattle.std.proofs.lemmas.Bool.{false≢true, lt-ltb, le-ltb, ltb-true, ltb-false}
use Rattle.std.proofs.lemmas.Bool.Decides.{eqb_tells}
use Rattle.coap_codec.specs.Spelling.{Content}
use Rattle.uri_map.specs.declared.peer.Peer.{Peer}
use Rattle.resp_cache.specs.Stored.{Stored}
use Rattle.journal_book.specs.Entries.{Sends}
use Rattle.history_laws.specs.Readings.{Noted, First, noted}
use Rattle.history_laws.specs.Progress.{Reply}
use Rattle.history_laws.specs.Exchanges.{Begun, Sent, Nothing, End, end_here, end_by, end_of, turn, waits_by, waits_for, heard_for, goes_to, begun, kept, is_waiting}
use Rattle.history_laws.proofs.CallerLemmas.{none-some, NoReply}
use Rattle.history_links.proofs.Mids.{count-cons}
use Rattle.history_laws.specs.Transmissions.{first_at}

abbrev pub sent : ℕ → Peer → List ℕ → Option ℕ → ℕ → Content → Noted
sent t p b w o m = noted t (Sends p b w) (First o m)

-- exchanges

none-ended : (a : Option Begun) (s : Option Stored) (n : ℕ) (rs : List Reply) (b : Bool) (old : Option End) → end_by (end_here a s n rs (cond b (Sent n) Nothing)) n old ≡ old
none-ended a s n rs true old = refl
none-ended a s n rs false old = refl

pub ends-sent : (l : List Noted) (t : ℕ) (p : Peer) (b : List ℕ) (w : Option ℕ) (o : ℕ) (m : Content) (q : ℕ) → end_of (sent t p b w o m ∷ l) q ≡ end_of l q
ends-sent l t p b w o m q = none-ended (begun l q) (kept l q) (length l) (heard_for l q) (eqb o q) (end_of l q)

awaits-by : (n : ℕ) (b : Bool) (old : Option ℕ) → waits_by (cond b (Sent n) Nothing) old ≡ cond b (Some n) old
awaits-by n true old = refl
awaits-by n false old = refl

pub waits-sent : (l : List Noted) (t : ℕ) (p : Peer) (b : List ℕ) (w : Option ℕ) (o : ℕ) (m : Content) (q : ℕ)
    → waits_for (sent t p b w o m ∷ l) q ≡ cond (eqb o q) (Some (length l)) (waits_for l q)
waits-sent l t p b w o m q = awaits-by (length l) (eqb o q) (waits_for l q)

-- who waits

not-awaiting : (a b : Bool) (n : ℕ) (old : Option ℕ) → (a && (b && is_none (cond true (Some n) old))) ≡ false
not-awaiting true true n old = refl
not-awaiting true false n old = refl
not-awaiting false b n old = refl

pub waiting-sent : (l : List Noted) (t : ℕ) (p r : Peer) (b : List ℕ) (w : Option ℕ) (o : ℕ) (m : Content) (q : ℕ) → eqb o q ≡ false
    → is_waiting (sent t p b w o m ∷ l) r q ≡ is_waiting l r q
waiting-sent l t p r b w o m q e = rw (ends-sent l t p b w o m q, waits-sent l t p b w o m q, e) refl

pub not-waiting : (l : List Noted) (t : ℕ) (p r : Peer) (b : List ℕ) (w : Option ℕ) (o : ℕ) (m : Content) → is_waiting (sent t p b w o m ∷ l) r o ≡ false
not-waiting l t p r b w o m =
    elim (eqb_tells o o) [
      | inl e ↦ rw (ends-sent l t p b w o m o, waits-sent l t p b w o m o, e.0) (not-awaiting (goes_to r (begun l o)) (is_none (end_of l o)) (length l) (waits_for l o))
      | inr e ↦ absurd (e.1 refl)
    ]

-- It is no reply.
pub sent-quiet : (l : List Noted) (t : ℕ) (p : Peer) (b : List ℕ) (w : Option ℕ) (o : ℕ) (m : Content) (q : ℕ) → NoReply (turn l q (sent t p b w o m))
sent-quiet l t p b w o m q = by (eqb o q)
  where
    by : (c : Bool) → NoReply (cond c (Sent (length l)) Nothing)
    by true = tt
    by false = tt

-- what is awaited

or-shift : (a b c : Bool) → (c || (a || (b && c))) ≡ (a || c)
or-shift true b true = refl
or-shift true b false = refl
or-shift false b true = refl
or-shift false true false = refl
or-shift false false false = refl

or-swap : (i a b c : Bool) → (i || (a || (b && c))) ≡ ((i || a) || (b && c))
or-swap true a b c = refl
or-swap false a b c = refl

-- One more is awaited: the exchange of this opening awaits a reply to the sending with this number.
pub one-awaited : (f g : ℕ → Bool) (now old : ℕ → Option ℕ) (o n : ℕ) → ((q : ℕ) → now q ≡ cond (eqb o q) (Some n) (old q)) → old o ≡ None
    → ((q i : ℕ) → old q ≡ Some i → f i ≡ g i) → (os : List ℕ)
    → list_any f (filter_map now os) ≡ (list_any g (filter_map old os) || (list_any (eqb o) os && f n))
one-awaited f g now old o n is none same [] = refl
one-awaited f g now old o n is none same (q ∷ os) = by (eqb o q) refl (old q) refl (one-awaited f g now old o n is none same os)
  where
    here : Option ℕ → List ℕ → List ℕ
    here None rest = rest
    here (Some i) rest = i ∷ rest

    by : (b : Bool) → eqb o q ≡ b → (v : Option ℕ) → old q ≡ v
        → list_any f (filter_map now os) ≡ (list_any g (filter_map old os) || (list_any (eqb o) os && f n))
        → list_any f (filter_map now (q ∷ os)) ≡ (list_any g (filter_map old (q ∷ os)) || (list_any (eqb o) (q ∷ os) && f n))
    by true e (Some i) v ih =
        let same_one : o ≡ q = elim (eqb_tells o q) [ inl w ↦ w.1 | inr w ↦ absurd (false≢true (sym (w.0) ∙ e)) ] in
        absurd (none-some i (sym none ∙ (ap old same_one ∙ v)))
    by true e None v ih = rw (is q, e, v) (ap (λ (x : Bool). f n || x) ih ∙ or-shift (list_any g (filter_map old os)) (list_any (eqb o) os) (f n))
    by false e None v ih = rw (is q, e, v) ih
    by false e (Some i) v ih = rw (is q, e, v, same q i v) (ap (λ (x : Bool). g i || x) ih ∙ or-swap (g i) (list_any g (filter_map old os)) (list_any (eqb o) os) (f n))

-- moments at which IDs were given

pub count-push : {X : Type 0} (p : X → Bool) (xs : List X) (x : X) → count_by p (xs ++ x ∷ []) ≡ cond (p x) (1 + count_by p xs) (count_by p xs)
count-push p [] x = count-cons p x []
count-push {X = X} p (y ∷ xs) x = count-cons p y (xs ++ x ∷ []) ∙ (by (p y) (p x) (count-push p xs x) ∙ ap (λ (n : ℕ). cond (p x) (1 + n) n) (sym (count-cons p y xs)))
  where
    by : (b c : Bool) → count_by p (xs ++ x ∷ []) ≡ cond c (1 + count_by p xs) (count_by p xs)
        → cond b (1 + count_by p (xs ++ x ∷ [])) (count_by p (xs ++ x ∷ []))
        ≡ cond c (1 + cond b (1 + count_by p xs) (count_by p xs)) (cond b (1 + count_by p xs) (count_by p xs))
    by true true h = omega (arith, h)
    by true false h = omega (arith, h)
    by false true h = h
    by false false h = h

pub in-use-recent : (u t : ℕ) → t ≤ u → ltb (u - t) 494000 ≡ ltb u (t + 494000)
in-use-recent u t later = by (ltb u (t + 494000)) refl
  where
    by : (b : Bool) → ltb u (t + 494000) ≡ b → ltb (u - t) 494000 ≡ b
    by true e = lt-ltb (u - t) 494000 (let h = ltb-true u (t + 494000) e in omega (arith, h, later))
    by false e = le-ltb (u - t) 494000 (let h = ltb-false u (t + 494000) e in omega (arith, h, later))

-- Older first sendings are found as before.
pub first-other : (l : List Noted) (t : ℕ) (r : Peer) (b : List ℕ) (w : Option ℕ) (o : ℕ) (m : Content) (i : ℕ) → i < length l
    → first_at (sent t r b w o m ∷ l) i ≡ first_at l i
first-other l t r b w o m i lt = elim (eqb_tells (length l) i) [ inl e ↦ let same = e.1 in absurd (omega (arith, lt, same)) | inr e ↦ rw (e.0) refl ]
