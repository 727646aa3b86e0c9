-- What one journal sends bears no token of another one's.
use Rattle.std.proofs.Common.{◌≡◌, ◌⊎◌, inl, inr, ℕ, zero, suc, ◌+◌, ◌*◌, ◌/◌, ◌%◌, ◌≤◌, ◌<◌, Bool, true, false, cond, eqb, ltb, ◌||◌, List, [], ◌∷◌, ◌++◌, length, take, drop, Option, Ok, Err, refl, sym, ap, subst, ◌∙◌, arith}
use Rattle.std.specs.Prelude.{◌&&◌, nat_lt}
use Rattle.coap_codec.specs.Spelling.{Content}
use Rattle.coap_codec.specs.Reading.{Head, head_at, kind_of, message_at, options_at, payload_at, value_at}
use Rattle.coap_codec.specs.declared.fault.CodecFault.TheVariants.{EmptyExtra, TokenLength, Truncated, Version}
use Rattle.coap_codec.proofs.Steps.{bind_ok, ok_is}
use Rattle.uri_map.specs.declared.peer.Peer.{Peer}
use Rattle.journal_book.specs.Entries.{Sends, Written}
use Rattle.history_laws.specs.Justified.{Legal}
use Rattle.history_laws.specs.Laws.{IsFirst}
use Rattle.history_laws.specs.Numbering.{token_number}
use Rattle.history_laws.specs.Readings.{Noted, entries}
use Rattle.history_laws.proofs.CallerLemmas.{at-entries, follows-at}
use Rattle.story_laws.specs.Networks.{IsForeign}
use Rattle.three_parties.proofs.Lists.{all-got}
use Rattle.three_parties.proofs.Bearing.{AreIssued, Bears, IsIssued, bears-token}

-- ---- the token that is read

token-at : (len : ℕ) (xs : List ℕ) (x : List ℕ × List ℕ) → value_at len xs ≡ Ok x → x.0 ≡ take len xs
token-at len xs x e = by (nat_lt (length xs) len) e
  where
    by : (b : Bool) → cond b (Err Truncated) (Ok (take len xs, drop len xs)) ≡ Ok x → x.0 ≡ take len xs
    by true f = absurd cc
    by false f = ap (λ (y : List ℕ × List ℕ). y.0) (sym (ok_is (take len xs, drop len xs) x f))

head-is : (first code high low : ℕ) (xs : List ℕ) (x : Head × List ℕ) → head_at (first ∷ code ∷ high ∷ low ∷ xs) ≡ Ok x
    → (x.0.len ≡ first % 16) × (x.1 ≡ xs)
head-is first code high low xs x e =
    by (eqb (first / 64) 1) (ltb 8 (first % 16)) ((eqb code 0) && (ltb 0 (first % 16) || ltb 0 (length xs))) e
  where
    h : Head
    h = record { kind = kind_of (first / 16 % 4); code = code; mid = 256 * high + low; len = first % 16 }

    by : (a b c : Bool) → cond a (cond b (Err TokenLength) (cond c (Err EmptyExtra) (Ok (h, xs)))) (Err Version) ≡ Ok x
        → (x.0.len ≡ first % 16) × (x.1 ≡ xs)
    by false b c f = absurd cc
    by true true c f = absurd cc
    by true false true f = absurd cc
    by true false false f =
        let is = ok_is (h, xs) x f in (ap (λ (y : Head × List ℕ). y.0.len) (sym is), ap (λ (y : Head × List ℕ). y.1) (sym is))

read-token : (first code high low : ℕ) (xs : List ℕ) (m : Content) → message_at (first ∷ code ∷ high ∷ low ∷ xs) ≡ Ok m → m.token ≡ take (first % 16) xs
unfolding message_at
read-token first code high low xs m e =
    let a = bind_ok (head_at (first ∷ code ∷ high ∷ low ∷ xs)) _ m e in
    let b = bind_ok (value_at a.0.0.len a.0.1) _ m a.2 in
    let c = bind_ok (options_at (length b.0.1) 0 b.0.1) _ m b.2 in
    let d = bind_ok (payload_at c.0.1) _ m c.2 in
    let head = head-is first code high low xs a.0 a.1 in
    let made : Content = record { kind = a.0.0.kind; code = a.0.0.code; mid = a.0.0.mid; token = b.0.0; options = c.0.0; payload = d.0 } in
    ap (λ (m : Content). m.token) (sym (ok_is made m d.2))
    ∙ (token-at a.0.0.len a.0.1 b.0 b.1
    ∙ (ap (λ (n : ℕ). take n a.0.1) head.0 ∙ ap (take (first % 16)) head.1))

-- ---- datagrams of other journals

-- It is an ACK or RST, or bears the token of a journal that ended before this number, or began with that one or later.
abbrev pub IsApart : ℕ → ℕ → List ℕ → Type 0
IsApart lo hi d = (length d ≡ 4) ⊎ ((a : ℕ) × (b : ℕ) × Bears a b d × ((b ≤ lo) ⊎ (hi ≤ a)))

-- the token of a journal that ended before this number
abbrev pub IsOlder : ℕ → List ℕ → Type 0
IsOlder lo d = (length d ≡ 4) ⊎ ((a : ℕ) × (b : ℕ) × Bears a b d × (b ≤ lo))

pub older-apart : (lo hi : ℕ) (d : List ℕ) → IsOlder lo d → IsApart lo hi d
older-apart lo hi d (inl four) = inl four
older-apart lo hi d (inr h) = inr (h.0, h.1, h.2, inl h.3)

pub still-older : (lo top : ℕ) (d : List ℕ) → lo ≤ top → IsOlder lo d → IsOlder top d
still-older lo top d le (inl four) = inl four
still-older lo top d le (inr h) = let below = h.3 in inr (h.0, h.1, h.2, omega (arith, below, le))

take-front : (xs ys : List ℕ) (n : ℕ) → length xs ≡ n → take n (xs ++ ys) ≡ xs
take-front [] [] n is = ap (λ (n : ℕ). take n []) (sym is)
take-front [] (y ∷ ys) n is = ap (λ (n : ℕ). take n (y ∷ ys)) (sym is)
take-front (x ∷ xs) ys n is =
    ap (λ (n : ℕ). take n (x ∷ xs ++ ys)) (sym is) ∙ ap (λ (zs : List ℕ). x ∷ zs) (take-front xs ys (length xs) refl)

short-read : (d : List ℕ) (n : Content) → length d ≡ 4 → message_at d ≡ Ok n → length n.token ≡ 0
short-read [] n four e = absurd (omega (arith, four))
short-read (a ∷ []) n four e = absurd (omega (arith, four))
short-read (a ∷ b ∷ []) n four e = absurd (omega (arith, four))
short-read (a ∷ b ∷ c ∷ []) n four e = absurd (omega (arith, four))
short-read (a ∷ b ∷ c ∷ d ∷ []) n four e = ap length (read-token a b c d [] n e) ∙ none (a % 16) [] refl
  where
    none : (k : ℕ) (ys : List ℕ) → length ys ≡ 0 → length (take k ys) ≡ 0
    none zero [] is = refl
    none (suc k) [] is = refl
    none k (y ∷ ys) is = absurd (omega (arith, is))
short-read (a ∷ b ∷ c ∷ d ∷ x ∷ xs) n four e = absurd (omega (arith, four))

bears-read : (lo hi : ℕ) (d : List ℕ) (n : Content) (h : Bears lo hi d) → message_at d ≡ Ok n → n.token ≡ h.token
bears-read lo hi d n h e =
    let eight : (72 + 16 * h.kind) % 16 ≡ 8 = omega arith in
    let size = h.size in
    read-token (72 + 16 * h.kind) h.code h.mid_high h.mid_low (h.token ++ h.rest) n (subst (λ (d : List ℕ). message_at d ≡ Ok n) h.whole e)
    ∙ take-front h.token h.rest ((72 + 16 * h.kind) % 16) (omega (arith, size, eight))

-- The message of a first sending bears a token of its journal.
first-bears : (l : List Noted) (lo hi t o i : ℕ) (p : Peer) (m : Content) → Legal l → AreIssued lo hi (entries l) → IsFirst l t o i p m
    → (length m.token ≡ 8) × (lo ≤ token_number m.token) × (token_number m.token < hi)
first-bears l lo hi t o i p m legal issued f =
    let may = (follows-at l i _ legal f.stands).1.1 in
    let stands = at-entries l i _ f.stands in
    let its : IsIssued lo hi (Sends p f.bytes f.timeout) = all-got (λ (w : Written). IsIssued lo hi w.deed) (entries l) issued i _ stands in
    bears-token lo hi f.bytes m (subst (λ (w : Option ℕ). IsIssued lo hi (Sends p f.bytes w)) may.first_wait its) may.spelled

pub foreign : (l : List Noted) (lo hi : ℕ) (d : List ℕ) → Legal l → AreIssued lo hi (entries l) → IsApart lo hi d → IsForeign l d
foreign l lo hi d legal issued (inl four) t o i p m n f reads same =
    let its = (first-bears l lo hi t o i p m legal issued f).0 in
    let none = short-read d n four reads in
    let len = ap length same in
    absurd (omega (arith, its, none, len))
foreign l lo hi d legal issued (inr h) t o i p m n f reads same =
    let its = first-bears l lo hi t o i p m legal issued f in
    let low = its.1 in
    let high = its.2 in
    let is = ap token_number (sym (bears-read h.0 h.1 d n h.2 reads) ∙ same) in
    let from = h.2.from in
    let below = h.2.below in
    elim (h.3) [
      | inl w ↦ absurd (omega (arith, is, from, below, low, high, w))
      | inr w ↦ absurd (omega (arith, is, from, below, low, high, w))
    ]
