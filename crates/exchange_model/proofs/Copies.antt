-- The reading of the copies of a history: what of it is a copy of what.
use Rattle.std.proofs.Common.{◌≡◌, ℕ, ◌+◌, ◌≤◌, Bool, true, false, ◌&&◌, cond, List, [], ◌∷◌, length, Option, Some, None, refl, sym, ap, subst, ◌∙◌, arith}
use Rattle.std.specs.Prelude.{◌||◌}
use Rattle.std.specs.List.{list_any}
use Rattle.std.proofs.lemmas.Bool.{false≢true}
use Rattle.coap_codec.specs.Spelling.{Content}
use Rattle.uri_map.specs.declared.peer.Peer.{Peer}
use Rattle.history_laws.specs.Readings.{Noted, newest, are_copies}
use Rattle.history_laws.specs.Transmissions.{FirstSending, firsts}
use Rattle.history_laws.specs.Hearing.{is_live, is_like, heard_before, live_heard}
use Rattle.history_laws.specs.Justified.{Legal, copied_below}
use Rattle.exchange_model.specs.Rotating.{has}
use Rattle.exchange_model.proofs.Shapes.{Kept, Sending, Hearing, Copy, Sent, Aimed, Heard, Bare, kept_as, kept_of, copy_as, copy_by, copy-fits, kept-copy, moment-copy, Fits, opening_as, first_as, firsts-as, live_as, live-as, bears_as, like-as}

abbrev pub add_copy : ℕ → ℕ → Option Copy → List Noted → List Noted
add_copy n s None l = l
add_copy n s (Some c) l = copy_as n s c ∷ l

-- The copies at this moment: of what is remembered, and of the entries with these numbers. Where asks are copied, f tells.
abbrev pub copy_in : (ℕ → ℕ) → List ℕ → ℕ → ℕ → Noted → Option Copy
copy_in f gs t n x = copy_by (has gs n) f t x.written.moment x.written.deed x.note

abbrev pub copied : (ℕ → ℕ) → List ℕ → ℕ → List Noted → List Noted
copied f gs t [] = []
copied f gs t (x ∷ older) = add_copy (length older) x.written.moment (copy_in f gs t (length older) x) (copied f gs t older)

abbrev pub kept_in : Noted → Option Kept
kept_in x = kept_as x.written.deed x.note

pub fits-in : (f : ℕ → ℕ) (gs : List ℕ) (t n : ℕ) (x : Noted) → Fits t x.written.moment (copy_in f gs t n x) (kept_in x)
fits-in f gs t n x = copy-fits (has gs n) f t x.written.moment x.written.deed x.note

-- they are copies, in their order

copies-cons : (n s : ℕ) (c : Copy) (l : List Noted) → are_copies l ≡ true → are_copies (copy_as n s c ∷ l) ≡ true
copies-cons n s (Sent mark p b w m) l h = h
copies-cons n s (Aimed p b w o m) l h = h
copies-cons n s (Heard mark p b m a) l h = h
copies-cons n s (Bare done) l h = h

copies-add : (n s : ℕ) (o : Option Copy) (l : List Noted) → are_copies l ≡ true → are_copies (add_copy n s o l) ≡ true
copies-add n s None l h = h
copies-add n s (Some c) l h = copies-cons n s c l h

pub all-copies : (f : ℕ → ℕ) (gs : List ℕ) (t : ℕ) (l : List Noted) → are_copies (copied f gs t l) ≡ true
all-copies f gs t [] = refl
all-copies f gs t (x ∷ older) =
    copies-add (length older) x.written.moment (copy_in f gs t (length older) x) (copied f gs t older) (all-copies f gs t older)

newest-add : (n s u : ℕ) (o : Option Copy) (l : List Noted) → s ≤ u → newest l ≤ u → newest (add_copy n s o l) ≤ u
newest-add n s u None l le h = h
newest-add n s u (Some c) l le h = let same = moment-copy n s c in omega (arith, same, le)

pub newest-copied : (f : ℕ → ℕ) (gs : List ℕ) (t : ℕ) (l : List Noted) → Legal l → newest (copied f gs t l) ≤ newest l
newest-copied f gs t [] legal = omega arith
newest-copied f gs t (x ∷ older) legal =
    newest-add (length older) x.written.moment x.written.moment (copy_in f gs t (length older) x) (copied f gs t older) (omega arith)
    (let ih = newest-copied f gs t older legal.0 in let le = legal.1 in omega (arith, ih, le))

below-cons : (n s : ℕ) (c : Copy) (l : List Noted) → copied_below (copy_as n s c ∷ l) ≡ n + 1
below-cons n s (Sent mark p b w m) l = refl
below-cons n s (Aimed p b w o m) l = refl
below-cons n s (Heard mark p b m a) l = refl
below-cons n s (Bare done) l = refl

below-add : (n s : ℕ) (o : Option Copy) (l : List Noted) → copied_below l ≤ n → copied_below (add_copy n s o l) ≤ n + 1
below-add n s None l h = omega (arith, h)
below-add n s (Some c) l h = let same = below-cons n s c l in omega (arith, same)

pub below-copied : (f : ℕ → ℕ) (gs : List ℕ) (t : ℕ) (l : List Noted) → copied_below (copied f gs t l) ≤ length l
below-copied f gs t [] = omega arith
below-copied f gs t (x ∷ older) =
    let more = below-add (length older) x.written.moment (copy_in f gs t (length older) x) (copied f gs t older) (below-copied f gs t older) in omega (arith, more)

-- What holds of no first sending holds of no copy.

abbrev pub Test : Type 0
Test = ℕ → Peer → Content → Bool

abbrev pub any_first : Test → List Noted → Bool
any_first r l = list_any (λ (f : FirstSending). r f.moment f.peer f.message) (firsts l)

abbrev pub test_as : Test → ℕ → Option Kept → Bool
test_as r s (Some (Sending p b w m)) = r s p m
test_as r s _ = false

any-as : (r : Test) (n s o : ℕ) (k : Option Kept) (old : List FirstSending)
    → list_any (λ (f : FirstSending). r f.moment f.peer f.message) (first_as n s o k old)
    ≡ (test_as r s k || list_any (λ (f : FirstSending). r f.moment f.peer f.message) old)
any-as r n s o (Some (Sending p b w m)) old = refl
any-as r n s o (Some (Hearing p b m a)) old = refl
any-as r n s o None old = refl

pub any-entry : (r : Test) (x : Noted) (l : List Noted) → any_first r (x ∷ l) ≡ (test_as r x.written.moment (kept_as x.written.deed x.note) || any_first r l)
any-entry r x l =
    ap (list_any (λ (f : FirstSending). r f.moment f.peer f.message)) (firsts-as (length l) x.written.moment x.written.deed x.note (firsts l))
    ∙ any-as r (length l) x.written.moment (opening_as (length l) x.note) (kept_as x.written.deed x.note) (firsts l)

pub any-copy : (r : Test) (n s : ℕ) (c : Copy) (l : List Noted) → any_first r (copy_as n s c ∷ l) ≡ (test_as r s (kept_of c) || any_first r l)
any-copy r n s c l =
    any-entry r (copy_as n s c) l
    ∙ (ap (λ (u : ℕ). test_as r u (kept_in (copy_as n s c)) || any_first r l) (moment-copy n s c)
    ∙ ap (λ (k : Option Kept). test_as r s k || any_first r l) (kept-copy n s c))

or-false : (a b : Bool) → (a || b) ≡ false → (a ≡ false) × (b ≡ false)
or-false true b e = absurd (false≢true (sym e))
or-false false b e = (refl, e)

none-add : (r : Test) (t n s : ℕ) (o : Option Copy) (k : Option Kept) (l : List Noted) → Fits t s o k → test_as r s k ≡ false → any_first r l ≡ false
    → any_first r (add_copy n s o l) ≡ false
none-add r t n s None k l fits e h = h
none-add r t n s (Some c) k l fits e h =
    any-copy r n s c l ∙ (ap (λ (k : Option Kept). test_as r s k || any_first r l) fits ∙ (ap (λ (v : Bool). v || any_first r l) e ∙ h))

pub none-copied : (r : Test) (f : ℕ → ℕ) (gs : List ℕ) (t : ℕ) (l : List Noted) → any_first r l ≡ false → any_first r (copied f gs t l) ≡ false
none-copied r f gs t [] e = refl
none-copied r f gs t (x ∷ older) e =
    let both = or-false _ _ (sym (any-entry r x older) ∙ e) in
    none-add r t (length older) x.written.moment (copy_in f gs t (length older) x) (kept_in x) (copied f gs t older) (fits-in f gs t (length older) x) both.0
    (none-copied r f gs t older both.1)

-- What repeats nothing repeats no copy.

abbrev pub like_as : ℕ → Peer → ℕ → ℕ → Option Kept → Bool
like_as t p mid s k = live_as t p s k && bears_as mid k

pub like-copy : (t : ℕ) (p : Peer) (mid n s : ℕ) (c : Copy) → is_like t p mid (copy_as n s c) ≡ like_as t p mid s (kept_of c)
like-copy t p mid n s c =
    like-as t p mid (copy_as n s c).written.moment (copy_as n s c).written.deed (copy_as n s c).note
    ∙ (ap (λ (u : ℕ). like_as t p mid u (kept_in (copy_as n s c))) (moment-copy n s c)
    ∙ ap (like_as t p mid s) (kept-copy n s c))

pub live-copy : (t : ℕ) (p : Peer) (n s : ℕ) (c : Copy)
    → is_live t p (copy_as n s c).written.moment (copy_as n s c).written.deed (copy_as n s c).note ≡ live_as t p s (kept_of c)
live-copy t p n s c =
    live-as t p (copy_as n s c).written.moment (copy_as n s c).written.deed (copy_as n s c).note
    ∙ (ap (λ (u : ℕ). live_as t p u (kept_in (copy_as n s c))) (moment-copy n s c)
    ∙ ap (live_as t p s) (kept-copy n s c))

none-by : (b : Bool) (n : ℕ) (old : Option ℕ) → cond b (Some n) old ≡ None → (b ≡ false) × (old ≡ None)
none-by true n old e = cc
none-by false n old e = (refl, e)

unheard-add : (u : ℕ) (p : Peer) (mid t n s : ℕ) (o : Option Copy) (k : Option Kept) (l : List Noted) → Fits t s o k → like_as u p mid s k ≡ false
    → heard_before l u p mid ≡ None → heard_before (add_copy n s o l) u p mid ≡ None
unheard-add u p mid t n s None k l fits e h = h
unheard-add u p mid t n s (Some c) k l fits e h =
    ap (λ (v : Bool). cond v (Some (length l)) (heard_before l u p mid)) (like-copy u p mid n s c ∙ (ap (like_as u p mid s) fits ∙ e)) ∙ h

pub unheard-copied : (u : ℕ) (p : Peer) (mid : ℕ) (f : ℕ → ℕ) (gs : List ℕ) (t : ℕ) (l : List Noted) → heard_before l u p mid ≡ None
    → heard_before (copied f gs t l) u p mid ≡ None
unheard-copied u p mid f gs t [] e = refl
unheard-copied u p mid f gs t (x ∷ older) e =
    let both = none-by (is_like u p mid x) (length older) (heard_before older u p mid) e in
    unheard-add u p mid t (length older) x.written.moment (copy_in f gs t (length older) x) (kept_in x) (copied f gs t older) (fits-in f gs t (length older) x)
    (sym (like-as u p mid x.written.moment x.written.deed x.note) ∙ both.0) (unheard-copied u p mid f gs t older both.1)

-- No more are remembered.

few-add : (u : ℕ) (p : Peer) (t n s most : ℕ) (o : Option Copy) (k : Option Kept) (l : List Noted) → Fits t s o k → live_heard l u p ≤ most
    → live_heard (add_copy n s o l) u p ≤ cond (live_as u p s k) (most + 1) most
few-add u p t n s most None k l fits h = by (live_as u p s k)
  where
    by : (v : Bool) → live_heard l u p ≤ cond v (most + 1) most
    by true = omega (arith, h)
    by false = h
few-add u p t n s most (Some c) k l fits h = by (live_as u p s k) (live-copy u p n s c ∙ ap (live_as u p s) fits)
  where
    by : (v : Bool) → is_live u p (copy_as n s c).written.moment (copy_as n s c).written.deed (copy_as n s c).note ≡ v
        → live_heard (copy_as n s c ∷ l) u p ≤ cond v (most + 1) most
    by true e = rw (e) (omega (arith, h))
    by false e = rw (e) h

pub few-copied : (u : ℕ) (p : Peer) (f : ℕ → ℕ) (gs : List ℕ) (t : ℕ) (l : List Noted) → live_heard (copied f gs t l) u p ≤ live_heard l u p
few-copied u p f gs t [] = omega arith
few-copied u p f gs t (x ∷ older) =
    subst (λ (v : Bool). live_heard (copied f gs t (x ∷ older)) u p ≤ cond v (live_heard older u p + 1) (live_heard older u p))
    (sym (live-as u p x.written.moment x.written.deed x.note))
    (few-add u p t (length older) x.written.moment (live_heard older u p) (copy_in f gs t (length older) x) (kept_in x) (copied f gs t older) (fits-in f gs t (length older) x)
    (few-copied u p f gs t older))
