-- What is left of a text of which no item is whole is one.
use Rattle.std.proofs.Common.{◌≡◌, inl, inr, ℕ, ◌+◌, List, [], ◌∷◌, length, drop, sym, subst, ◌∙◌}
use Rattle.httparse.specs.Grammar.{chunk_size}
use Rattle.http_edge.specs.declared.framing.Framing.{Framing}
use Rattle.http_edge.specs.declared.framing.Framing.TheVariants.{Sized, Chunked, Refused}
use Rattle.http_edge.specs.Framing.{framing}
use Rattle.http_edge.specs.Chunks.{BeginsChunk}
use Rattle.http_edge.specs.Bodies.{Chunks, ChunkLeaves, BodyLeaves}
use Rattle.http_edge.specs.Edges.{Leaves}
use Rattle.http_edge.proofs.Chunking.{chunk_one, same_line}
use Rattle.http_edge.proofs.Readings.{same_head}

abbrev NoMore : ℕ → List ℕ → Type 0
NoMore before text = (chunk behind : List ℕ) → BeginsChunk before text chunk behind → ⊥

-- one with no more chunks has no first chunk
no_first : (n a : ℕ) (t m c r : List ℕ) → m ≡ t → a ≡ n → NoMore a m → BeginsChunk n t c r → ⊥
no_first n a t m c r e f none x =
    none c r (subst (λ (s : List ℕ). BeginsChunk a s c r) (sym e) (subst (λ (k : ℕ). BeginsChunk k t c r) (sym f) x))

-- all whole chunks leave one rest
chunks_left : (n : ℕ) (t : List ℕ) (cs ds : List (List ℕ)) (m k : List ℕ) (a b : ℕ) → Chunks n t cs m a → Chunks n t ds k b → NoMore a m → NoMore b k → m ≡ k
chunks_left n t [] [] m k a b x y none last = x.0 ∙ sym y.0
chunks_left n t [] (d ∷ ds) m k a b x y none last = absurd (no_first n a t m d y.0 x.0 x.1 none y.1)
chunks_left n t (c ∷ cs) [] m k a b x y none last = absurd (no_first n b t k c x.0 y.0 y.1 last x.1)
chunks_left n t (c ∷ cs) (d ∷ ds) m k a b x y none last =
    let s = chunk_one n t c d x.0 y.0 x.1 y.1 in
    chunks_left (n + length c) x.0 cs ds m k a b x.2
    (subst (λ (u : List ℕ). Chunks (n + length c) u ds k b) (sym s.1) (subst (λ (e : List ℕ). Chunks (n + length e) y.0 ds k b) (sym s.0) y.2)) none last

chunk_left : (m r q : List ℕ) → ChunkLeaves m r → ChunkLeaves m q → r ≡ q
chunk_left m r q (inl x) (inl y) = x.1 ∙ sym y.1
chunk_left m r q (inl x) (inr y) = absurd (x.0 y.0 y.1 y.2.reads)
chunk_left m r q (inr x) (inl y) = absurd (y.0 x.0 x.1 x.2.reads)
chunk_left m r q (inr x) (inr y) = x.3 ∙ sym (same_line (λ l t. q ≡ drop (chunk_size l) t) m x.0 y.0 x.1 y.1 x.2 y.2 y.3)

body_left : (f : Framing) (t r q : List ℕ) → BodyLeaves f t r → BodyLeaves f t q → r ≡ q
body_left (Sized n) t r q x y = x ∙ sym y
body_left Chunked t r q x y =
    let m = chunks_left 0 t x.chunks y.chunks x.middle y.middle x.after y.after x.read y.read x.no_more y.no_more in
    chunk_left x.middle r q x.left (subst (λ (s : List ℕ). ChunkLeaves s q) (sym m) y.left)
body_left (Refused k) t r q x y = absurd x

pub left_is_one : (text r q : List ℕ) → Leaves text r → Leaves text q → r ≡ q
left_is_one text r q (inl x) (inl y) = x.1 ∙ sym y.1
left_is_one text r q (inl x) (inr y) = absurd (x.0 y.head y.behind y.begins.reads)
left_is_one text r q (inr x) (inl y) = absurd (y.0 x.head x.behind x.begins.reads)
left_is_one text r q (inr x) (inr y) =
    body_left (framing x.head) x.behind r q x.left (same_head (λ h t. BodyLeaves (framing h) t q) text x.head y.head x.behind y.behind x.begins y.begins y.left)
