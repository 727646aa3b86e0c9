-- What a message ID does to the bytes of a datagram.
use Rattle.std.proofs.Common.{◌≡◌, ℕ, ◌+◌, ◌*◌, ◌%◌, Option, List, [], ◌∷◌, ◌++◌, length, refl, sym, ap, ◌∙◌, arith}
use Rattle.coap_codec.specs.Spelling.{Content, Spells, code_of}
use Rattle.message_layer.specs.Sending.{with_mid, next_mid, first_sent, waits}
use Rattle.message_layer.specs.Prepared.{IsUnnumberedCon}
use Rattle.message_layer.specs.declared.state.Waiting.{Waiting}
use Rattle.message_layer.specs.declared.state.Outstanding.{Outstanding}

-- of two IDs the later one stands there
pub last_id : (a b : ℕ) (d : List ℕ) → with_mid a (with_mid b d) ≡ with_mid a d
last_id a b [] = refl
last_id a b (v ∷ []) = refl
last_id a b (v ∷ w ∷ []) = refl
last_id a b (v ∷ w ∷ x ∷ []) = refl
last_id a b (v ∷ w ∷ x ∷ y ∷ d) = refl

-- it is as long as before
pub as_long : (a : ℕ) (d : List ℕ) → length (with_mid a d) ≡ length d
as_long a [] = refl
as_long a (v ∷ []) = refl
as_long a (v ∷ w ∷ []) = refl
as_long a (v ∷ w ∷ x ∷ []) = refl
as_long a (v ∷ w ∷ x ∷ y ∷ d) = refl

zeros : (a c high low : ℕ) (rest : List ℕ) → high ≡ 0 → low ≡ 0
    → with_mid 0 (a ∷ c ∷ high ∷ low ∷ rest) ≡ a ∷ c ∷ high ∷ low ∷ rest
zeros a c high low rest e f = rw (e, f) refl

-- what is spelled under ID 0 stays as it is
pub spelled_under_0 : (m : Content) (text : List ℕ) → Spells m text → m.mid ≡ 0 → with_mid 0 text ≡ text
spelled_under_0 m text s e =
    let high : s.mid_high ≡ 0 = omega (arith, s.mid, e) in
    let low : s.mid_low ≡ 0 = omega (arith, s.mid, e) in
    ap (with_mid 0) s.whole
    ∙ (zeros (64 + 16 * code_of m.kind + length m.token) m.code s.mid_high s.mid_low
    (m.token ++ s.options ++ s.payload) high low
    ∙ sym s.whole)

pub unnumbered_text : (token text : List ℕ) → IsUnnumberedCon token text → with_mid 0 text ≡ text
unnumbered_text token text u = spelled_under_0 u.m text u.spelled u.unnumbered

-- a datagram made of bytes whose ID doesn't count
pub numbered-of : (mid : ℕ) (b d e text : List ℕ) → b ≡ with_mid mid e → e ≡ d → with_mid 0 d ≡ text → b ≡ with_mid mid text
numbered-of mid b d e text f g h = f ∙ (ap (with_mid mid) g ∙ (sym (last_id mid 0 d) ∙ ap (with_mid mid) h))

-- the bytes of a datagram that was made of what is spelled under ID 0, without its ID
unnumbered-of : (mid : ℕ) (u b text : List ℕ) → u ≡ with_mid 0 b → b ≡ with_mid mid text
    → with_mid 0 text ≡ text → u ≡ text
unnumbered-of mid u b text e f g = e ∙ (ap (with_mid 0) f ∙ (last_id 0 mid text ∙ g))

pub waits-for : (mid word : ℕ) (token u b text : List ℕ) (w : Waiting) → w ≡ waits token u word
    → u ≡ with_mid 0 b → b ≡ with_mid mid text → with_mid 0 text ≡ text → w ≡ waits token text word
waits-for mid word token u b text w is e f g =
    is ∙ ap (λ (bytes : List ℕ). waits token bytes word) (unnumbered-of mid u b text e f g)

pub sent-for : (t word mid first : ℕ) (last_mid : Option ℕ) (token b text : List ℕ) (w : Waiting) (o : Outstanding)
    → w ≡ waits token text word → first ≡ word % 65536 → mid ≡ next_mid last_mid first → b ≡ with_mid mid text
    → o ≡ record { token = w.token; mid = mid; datagram = b; timeout = w.timeout; sent = t; retransmissions = 0 }
    → o ≡ first_sent t last_mid w
sent-for t word mid first last_mid token b text w o e f g h i = rw (i, h, g, f, e) refl
