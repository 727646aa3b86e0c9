-- What a notice makes of the watch in its place.
use Rattle.std.proofs.Common.{◌≡◌, ℕ, List, Bool, true, false, Option, Some, None, refl, sym, ◌∙◌, get_or, set}
use Rattle.std.specs.List.{position, find, remove}
use Rattle.std.proofs.lemmas.List.{set-get_or}
use Rattle.observe_share.specs.declared.registration.Registration.{Registration}
use Rattle.observe_share.specs.declared.notice.Notice.{Notice}
use Rattle.observe_share.specs.declared.notice.Notice.TheVariants.{Update, Other}
use Rattle.observe_share.specs.Watches.{is_under, counts_for, heard_by, noticed, Told, of_none, as_older, as_update, as_end, notice_tells}
use Rattle.observe_share.proofs.First.{first_at, none_at}

-- what became of the watches, and what is told
pub record Leaves (token : List ℕ) (n : Notice) (t : ℕ) (ws after : List Registration) (news : Told) : Type 0 where
  pub watches : after ≡ noticed token n t ws
  pub told : news ≡ notice_tells n t (find (is_under token) ws)

pub unknown : (token : List ℕ) (n : Notice) (t : ℕ) (ws : List Registration) → position (is_under token) ws ≡ None → Leaves token n t ws ws of_none
unknown token n t ws at =
    let h = none_at (is_under token) ws at in
    record { watches = sym (h.unchanged (heard_by n t)); told = rw h.unfound refl }

set_itself : {X : Type 0} (xs : List X) (i : ℕ) (r : X) → r ≡ get_or xs i r → set xs i r ≡ xs
set_itself xs i r read = rw read (set-get_or xs i r)

pub older : (token : List ℕ) (n : Notice) (t : ℕ) (ws : List Registration) (i : ℕ) (r : Registration) → position (is_under token) ws ≡ Some i → r ≡ get_or ws i r → counts_for n t r ≡ false → Leaves token n t ws ws as_older
older token n t ws i r at read late =
    let h = first_at (is_under token) ws i r at read in
    let kept : heard_by n t r ≡ Some r = rw late refl in
    record { watches = sym (h.changed (heard_by n t) ∙ rw kept (set_itself ws i r read)); told = rw (h.found, late) refl }

pub update : (token : List ℕ) (v : ℕ) (t : ℕ) (ws : List Registration) (i : ℕ) (r : Registration) → position (is_under token) ws ≡ Some i → r ≡ get_or ws i r → counts_for (Update v) t r ≡ true
    → Leaves token (Update v) t ws (set ws i (record r { version = v; moment = t })) as_update
update token v t ws i r at read fresh =
    let h = first_at (is_under token) ws i r at read in
    let changed : heard_by (Update v) t r ≡ Some (record r { version = v; moment = t }) = rw fresh refl in
    record { watches = sym (h.changed (heard_by (Update v) t) ∙ rw changed refl); told = rw (h.found, fresh) refl }

pub ending : (token : List ℕ) (v : Option ℕ) (t : ℕ) (ws : List Registration) (i : ℕ) (r : Registration) → position (is_under token) ws ≡ Some i → r ≡ get_or ws i r → counts_for (Other v) t r ≡ true
    → Leaves token (Other v) t ws (remove ws i) (as_end r)
ending token v t ws i r at read fresh =
    let h = first_at (is_under token) ws i r at read in
    let changed : heard_by (Other v) t r ≡ None = rw fresh refl in
    record { watches = sym (h.changed (heard_by (Other v) t) ∙ rw changed refl); told = rw (h.found, fresh) refl }

-- the element in a place, read twice
pub one_read : {X : Type 0} (p : X → Bool) (xs : List X) (i : ℕ) (q r : X) → position p xs ≡ Some i → q ≡ get_or xs i q → r ≡ get_or xs i r → q ≡ r
one_read p xs i q r at a b =
    let same : Some q ≡ Some r = sym (first_at p xs i q at a).found ∙ (first_at p xs i r at b).found in cc
