-- Tokens that one journal gives out: those of numbers from that on which it began with.
use Rattle.std.proofs.Common.{◌≡◌, ◌⊎◌, inl, inr, ℕ, ◌+◌, ◌*◌, ◌≤◌, ◌<◌, Bool, true, false, cond, List, [], ◌∷◌, ◌++◌, append_assoc, length, Some, None, refl, sym, ap, ◌∙◌, arith}
use Rattle.std.specs.Prelude.{filter, ⊤}
use Rattle.std.specs.List.{AllByRecursion}
use Rattle.coap_codec.specs.Spelling.{Content, Spells, code_of}
use Rattle.uri_map.specs.declared.peer.Peer.{Peer}
use Rattle.message_layer.specs.Values.{LinkState}
use Rattle.message_layer.specs.Sending.{waits, with_mid}
use Rattle.message_layer.specs.declared.state.Outstanding.{Outstanding}
use Rattle.message_layer.specs.declared.state.Waiting.{Waiting}
use Rattle.journal_book.specs.Entries.{Deed, Opens, Asks, Sends, Hears, Passes, Answers, Shuts, Seals, Carries, Written}
use Rattle.history_laws.specs.Numbering.{token_number}
use Rattle.exchange_model.specs.State.{State, link_of}

-- ---- a datagram's token

-- The datagram bears a token of eight bytes, which has one of these numbers.
pub record Bears (lo hi : ℕ) (b : List ℕ) : Type 0 where
  pub kind : ℕ
  pub code : ℕ
  pub mid_high : ℕ
  pub mid_low : ℕ
  pub token : List ℕ
  pub rest : List ℕ
  pub whole : b ≡ (72 + 16 * kind) ∷ code ∷ mid_high ∷ mid_low ∷ token ++ rest
  pub size : length token ≡ 8
  pub from : lo ≤ token_number token
  pub below : token_number token < hi

pub bears-more : (lo hi top : ℕ) (b : List ℕ) → hi ≤ top → Bears lo hi b → Bears lo top b
bears-more lo hi top b le h =
    let below = h.below in
    record { kind = h.kind; code = h.code; mid_high = h.mid_high; mid_low = h.mid_low; token = h.token; rest = h.rest; whole = h.whole; size = h.size; from = h.from; below = omega (arith, le, below) }

pub spelled-bears : (lo n : ℕ) (m : Content) (b : List ℕ) → Spells m b → length m.token ≡ 8 → token_number m.token ≡ n → lo ≤ n → Bears lo (n + 1) b
spelled-bears lo n m b s size is le = record {
  kind = code_of m.kind;
  code = m.code;
  mid_high = s.mid_high;
  mid_low = s.mid_low;
  token = m.token;
  rest = s.options ++ s.payload;
  whole = s.whole ∙ (ap (λ (x : ℕ). x ∷ m.code ∷ s.mid_high ∷ s.mid_low ∷ m.token ++ s.options ++ s.payload) first
      ∙ ap (λ (xs : List ℕ). (72 + 16 * code_of m.kind) ∷ m.code ∷ s.mid_high ∷ s.mid_low ∷ xs) (append_assoc m.token s.options s.payload));
  size = size;
  from = omega (arith, le, is);
  below = omega (arith, is);
}
  where
    first : 64 + 16 * code_of m.kind + length m.token ≡ 72 + 16 * code_of m.kind
    first = omega (arith, size)

pub mid-bears : (lo hi mid : ℕ) (b : List ℕ) → Bears lo hi b → Bears lo hi (with_mid mid b)
mid-bears lo hi mid b h = record {
  kind = h.kind;
  code = h.code;
  mid_high = _;
  mid_low = _;
  token = h.token;
  rest = h.rest;
  whole = ap (with_mid mid) h.whole;
  size = h.size;
  from = h.from;
  below = h.below;
}

same-front : (xs ys us vs : List ℕ) → length xs ≡ length ys → xs ++ us ≡ ys ++ vs → xs ≡ ys
same-front [] [] us vs len e = refl
same-front [] (y ∷ ys) us vs len e = absurd (omega (arith, len))
same-front (x ∷ xs) [] us vs len e = absurd (omega (arith, len))
same-front (x ∷ xs) (y ∷ ys) us vs len e =
    let rest = same-front xs ys us vs (omega (arith, len)) (tails x y (xs ++ us) (ys ++ vs) e) in
    ap (λ (z : ℕ). z ∷ xs) (heads x y (xs ++ us) (ys ++ vs) e) ∙ ap (λ (zs : List ℕ). y ∷ zs) rest
  where
    heads : (x y : ℕ) (us vs : List ℕ) → x ∷ us ≡ y ∷ vs → x ≡ y
    heads x y us vs e = cc

    tails : (x y : ℕ) (us vs : List ℕ) → x ∷ us ≡ y ∷ vs → us ≡ vs
    tails x y us vs e = cc

-- the message that it spells has that token
pub bears-token : (lo hi : ℕ) (b : List ℕ) (m : Content) → Bears lo hi b → Spells m b
    → (length m.token ≡ 8) × (lo ≤ token_number m.token) × (token_number m.token < hi)
bears-token lo hi b m h s =
    let from = h.from in
    let below = h.below in
    let is = ap token_number token in
    (size, omega (arith, from, is), omega (arith, below, is))
  where
    both : (72 + 16 * h.kind) ∷ h.code ∷ h.mid_high ∷ h.mid_low ∷ h.token ++ h.rest
        ≡ (64 + 16 * code_of m.kind + length m.token) ∷ m.code ∷ s.mid_high ∷ s.mid_low ∷ m.token ++ s.options ++ s.payload
    both = sym h.whole ∙ s.whole

    head : (a b c d x y z w : ℕ) (xs ys : List ℕ) → a ∷ b ∷ c ∷ d ∷ xs ≡ x ∷ y ∷ z ∷ w ∷ ys → (a ≡ x) × (xs ≡ ys)
    head a b c d x y z w xs ys e = (cc, cc)

    parts : (72 + 16 * h.kind ≡ 64 + 16 * code_of m.kind + length m.token) × (h.token ++ h.rest ≡ m.token ++ s.options ++ s.payload)
    parts = head _ _ _ _ _ _ _ _ _ _ both

    size : length m.token ≡ 8
    size = let short = s.short_token in let first = parts.0 in omega (arith, short, first)

    token : m.token ≡ h.token
    token =
        let mine = h.size in
        let its = size in
        sym (same-front h.token m.token h.rest (s.options ++ s.payload) (omega (arith, mine, its)) (parts.1 ∙ append_assoc m.token s.options s.payload))

-- ---- what a core sent, and what waits

-- A first sending bears such a token; what bears no timeout does too, or is an ACK or RST.
abbrev pub IsIssued : ℕ → ℕ → Deed → Type 0
IsIssued lo hi (Sends p b (Some w)) = Bears lo hi b
IsIssued lo hi (Sends p b None) = (length b ≡ 4) ⊎ Bears lo hi b
IsIssued lo hi d = ⊤

abbrev pub AreIssued : ℕ → ℕ → List Written → Type 0
AreIssued lo hi ws = AllByRecursion (λ (w : Written). IsIssued lo hi w.deed) ws

pub record LinkIssued (lo hi : ℕ) (s : LinkState) : Type 0 where
  pub out : (o : Outstanding) → s.outstanding ≡ Some o → Bears lo hi o.datagram
  pub waits : AllByRecursion (λ (w : Waiting). Bears lo hi w.datagram) s.waiting

-- So it is of all that was sent, is on its way or waits.
pub record Issued (lo : ℕ) (S : State) : Type 0 where
  pub least : lo ≤ S.issued
  pub sent : AreIssued lo S.issued S.entries
  pub links : (p : Peer) → LinkIssued lo S.issued (link_of S.links p)

is-more : (lo hi top : ℕ) → hi ≤ top → (d : Deed) → IsIssued lo hi d → IsIssued lo top d
is-more lo hi top le (Sends p b (Some w)) h = bears-more lo hi top b le h
is-more lo hi top le (Sends p b None) (inl four) = inl four
is-more lo hi top le (Sends p b None) (inr h) = inr (bears-more lo hi top b le h)
is-more lo hi top le (Opens c) h = tt
is-more lo hi top le (Asks c a) h = tt
is-more lo hi top le (Hears p b) h = tt
is-more lo hi top le Passes h = tt
is-more lo hi top le (Answers c n g) h = tt
is-more lo hi top le (Shuts c) h = tt
is-more lo hi top le Seals h = tt
is-more lo hi top le (Carries n m d) h = tt

pub are-more : (lo hi top : ℕ) → hi ≤ top → (ws : List Written) → AreIssued lo hi ws → AreIssued lo top ws
are-more lo hi top le [] h = tt
are-more lo hi top le (w ∷ ws) h = (is-more lo hi top le w.deed h.0, are-more lo hi top le ws h.1)

wait-more : (lo hi top : ℕ) → hi ≤ top → (ws : List Waiting) → AllByRecursion (λ (w : Waiting). Bears lo hi w.datagram) ws
    → AllByRecursion (λ (w : Waiting). Bears lo top w.datagram) ws
wait-more lo hi top le [] h = tt
wait-more lo hi top le (w ∷ ws) h = (bears-more lo hi top w.datagram le h.0, wait-more lo hi top le ws h.1)

pub link-more : (lo hi top : ℕ) → hi ≤ top → (s : LinkState) → LinkIssued lo hi s → LinkIssued lo top s
link-more lo hi top le s h = record {
  out = λ o e. bears-more lo hi top o.datagram le (h.out o e);
  waits = wait-more lo hi top le s.waiting h.waits;
}

pub all-both : {X : Type 0} (Q : X → Type 0) (xs ys : List X) → AllByRecursion Q xs → AllByRecursion Q ys → AllByRecursion Q (xs ++ ys)
all-both Q [] ys a b = b
all-both Q (x ∷ xs) ys a b = (a.0, all-both Q xs ys a.1 b)

pub all-filter : {X : Type 0} (Q : X → Type 0) (f : X → Bool) (xs : List X) → AllByRecursion Q xs → AllByRecursion Q (filter f xs)
all-filter Q f [] h = tt
all-filter Q f (x ∷ xs) h = by (f x) (all-filter Q f xs h.1)
  where
    by : (b : Bool) → AllByRecursion Q (filter f xs) → AllByRecursion Q (cond b (x ∷ filter f xs) (filter f xs))
    by true rest = (h.0, rest)
    by false rest = rest
