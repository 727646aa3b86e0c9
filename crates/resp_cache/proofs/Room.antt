-- Room for one more pair.
use Rattle.std.proofs.Common.{◌≡◌, ℕ, zero, suc, ◌<◌, ◌≤◌, Bool, true, false, ◌&&◌, ◌||◌, nat_lt, nat_le, refl, sym, ◌∙◌, arith, rules}
use Rattle.std.specs.Bool.{Decides}
use Rattle.std.proofs.lemmas.Bool.{false≢true}
use Rattle.resp_cache.proofs.Lists.{is_false}

pub lt_decided : (a b : ℕ) → Decides (nat_lt a b) (a < b)
lt_decided a b = search rules

pub le_decided : (a b : ℕ) → Decides (nat_le a b) (a ≤ b)
le_decided a b = search rules

pub not_up_to : (a b : ℕ) → b < a → nat_le a b ≡ false
not_up_to a b lt = is_false (nat_le a b) (λ e. let le = (le_decided a b).0 e in absurd (omega (arith, le, lt)))

-- It is full; or a place in the index is left, and a slot is empty or can be opened.
abbrev pub RoomBy : Bool → Bool → Bool → Bool → Bool
RoomBy full name empty slot = full || (name && (empty || slot))

pub by_empty : (full name empty slot : Bool) → name ≡ true → empty ≡ true → RoomBy full name empty slot ≡ true
by_empty true name empty slot n e = refl
by_empty false name empty slot n e = rw (n, e) refl

slot_else : (e s : Bool) → (e || s) ≡ true → e ≡ false → s ≡ true
slot_else true s h e = absurd (false≢true (sym e))
slot_else false s h e = h

name_left : (name rest : Bool) → (name && rest) ≡ true → (name ≡ true) × (rest ≡ true)
name_left true rest h = (refl, h)
name_left false rest h = absurd (false≢true h)

pub room_parts : (full name empty slot : Bool) → RoomBy full name empty slot ≡ true → full ≡ false → (name ≡ true) × (empty ≡ false → slot ≡ true)
room_parts true name empty slot r f = absurd (false≢true (sym f))
room_parts false name empty slot r f =
    let h = name_left name (empty || slot) r in
    (h.0, slot_else empty slot h.1)

not_less : (a b : ℕ) → (a < b → ⊥) → b ≤ a
not_less a zero f = omega arith
not_less zero (suc b) f = absurd (f (omega arith))
not_less (suc a) (suc b) f = let rest = not_less a b (λ lt. f (omega (arith, lt))) in omega (arith, rest)

pub up_to : (a b : ℕ) → nat_lt a b ≡ false → b ≤ a
up_to a b e = not_less a b (λ lt. false≢true (sym e ∙ (lt_decided a b).1 lt))
