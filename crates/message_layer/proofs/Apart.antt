-- Message IDs are apart.
use Rattle.std.proofs.Common.{◌≡◌, ℕ, suc, ◌+◌, ◌-◌, ◌%◌, ◌≤◌, ◌<◌, List, [], ◌∷◌, ◌++◌, length, Bool, true, false, nat_lt, refl, arith}
use Rattle.std.proofs.lemmas.Bool.{lt-ltb}
use Rattle.message_layer.proofs.RunLaws.{first-latest}
use borrow.Author.Tests.{ltb-true, ltb-false}
use Rattle.message_layer.specs.Mids.{is_in_use}
use Rattle.message_layer.specs.Transmissions.{SentMessage, mid_of, latest, recent, IsSequence, MidsApart}

-- a later message is sent later
not-before : (m : SentMessage) (between : List SentMessage) (n : SentMessage) (older : List SentMessage) → IsSequence (m ∷ between ++ n ∷ older) → n.first ≤ m.first
not-before m [] n older s =
    let b : latest n.first n.copies ≤ m.first = s.0.behind in
    omega (arith, b, first-latest n.timeout n.first n.copies s.1.0.spaced)
not-before m (b ∷ between) n older s =
    let c : latest b.first b.copies ≤ m.first = s.0.behind in
    omega (arith, c, first-latest b.timeout b.first b.copies s.1.0.spaced, not-before b between n older s.1)

mid-below : (n : SentMessage) (older : List SentMessage) → IsSequence (n ∷ older) → mid_of n.datagram < 65536
mid-below n [] s = s.0.mid
mid-below n (o ∷ older) s = let e : mid_of n.datagram ≡ (mid_of o.datagram + 1) % 65536 = s.0.mid in omega (arith, e)

-- IDs count on
mid-on : (m : SentMessage) (between : List SentMessage) (n : SentMessage) (older : List SentMessage) → IsSequence (m ∷ between ++ n ∷ older)
    → mid_of m.datagram ≡ (mid_of n.datagram + (length between + 1)) % 65536
mid-on m [] n older s = s.0.mid
mid-on m (b ∷ between) n older s =
    let e : mid_of m.datagram ≡ (mid_of b.datagram + 1) % 65536 = s.0.mid in
    let f : mid_of b.datagram ≡ (mid_of n.datagram + (length between + 1)) % 65536 = mid-on b between n older s.1 in
    omega (arith, e, f)

in-use : (t first last : ℕ) → last ≤ first → t < last + 494000 → is_in_use t first ≡ true
in-use t first last later soon = lt-ltb (t - first) 494000 (omega (arith, later, soon))

one-more : (t : ℕ) (m : SentMessage) (ms : List SentMessage) → is_in_use t m.first ≡ true → recent t (m ∷ ms) ≡ suc (recent t ms)
one-more t m ms e = rw e refl

-- all that were sent since are in use
many : (t : ℕ) (between : List SentMessage) (n : SentMessage) (older : List SentMessage) → IsSequence (between ++ n ∷ older) → t < n.first + 494000
    → length between + 1 ≤ recent t (between ++ n ∷ older)
many t [] n older s soon = rw (one-more t n older (in-use t n.first n.first (omega arith) soon)) (omega arith)
many t (b ∷ between) n older s soon =
    let more : length between + 1 ≤ recent t (between ++ n ∷ older) = many t between n older s.1 soon in
    rw (one-more t b (between ++ n ∷ older) (in-use t b.first n.first (not-before b between n older s) soon)) (omega (arith, more))

tail : (between : List SentMessage) (n : SentMessage) (older : List SentMessage) → IsSequence (between ++ n ∷ older) → IsSequence (n ∷ older)
tail [] n older s = s
tail (b ∷ between) n older s = tail between n older s.1

-- 32,768 of those between would be in use
not-soon : (m : SentMessage) (between : List SentMessage) (n : SentMessage) (older : List SentMessage)
    → IsSequence (m ∷ between ++ n ∷ older) → mid_of m.datagram ≡ mid_of n.datagram → m.first < n.first + 494000 → ⊥
not-soon m between n older s same soon =
    let free : recent m.first (between ++ n ∷ older) < 32768 = s.0.free in
    let many_ones : length between + 1 ≤ recent m.first (between ++ n ∷ older) = many m.first between n older s.1 soon in
    let on : mid_of m.datagram ≡ (mid_of n.datagram + (length between + 1)) % 65536 = mid-on m between n older s in
    let below : mid_of n.datagram < 65536 = mid-below n older (tail between n older s.1) in
    omega (arith, free, many_ones, on, below, same)

pub mids-apart : MidsApart
mids-apart m between n older s same = by (nat_lt m.first (n.first + 494000)) refl
  where
    by : (b : Bool) → nat_lt m.first (n.first + 494000) ≡ b → n.first + 494000 ≤ m.first
    by true e = absurd (not-soon m between n older s same (ltb-true m.first (n.first + 494000) e))
    by false e = ltb-false m.first (n.first + 494000) e
