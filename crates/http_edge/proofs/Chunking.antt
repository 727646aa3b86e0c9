-- A chunked body is read in one way, and reading goes on.
use Rattle.std.proofs.Common.{◌≡◌, inl, inr, ℕ, ◌≤◌, ◌<◌, ◌+◌, ◌-◌, List, [], ◌∷◌, ◌++◌, length, take, refl, sym, ap, subst, ◌∙◌, arith, append_assoc}
use Rattle.std.proofs.lemmas.List.{take-append-le, length-append}
use Rattle.httparse.specs.Ascii.{crlf_bytes}
use Rattle.httparse.specs.Grammar.{ChunkLine, print_chunk_line, chunk_size, HasNoChunkLine, print_section, HasNoSection}
use Rattle.httparse.proofs.ChunkLemmas.{chunk_line_unique, ReadsChunkLine-append}
use Rattle.httparse.proofs.GrammarLemmas.{section_unique, ReadsSection-append}
use Rattle.http_edge.specs.declared.request.BadKind.{BadKind}
use Rattle.http_edge.specs.Chunks.{BeginsLine, NeverLine, BeginsTrailers, NeverTrailers, BeginsData, NeverData, BeginsChunk, BeginsLast, RefusedBehind, RefusedChunk, TakesChunks, FailsChunks}
use Rattle.http_edge.proofs.Fronts.{take_behind, same_length}

-- lines

line_one : (text : List ℕ) (l k : ChunkLine) (a b : List ℕ) → BeginsLine text l a → BeginsLine text k b → (l ≡ k) × (a ≡ b)
line_one text l k a b x y = chunk_line_unique text l k a b x.reads y.reads

pub line_on : (text : List ℕ) (l : ChunkLine) (a more : List ℕ) → BeginsLine text l a → BeginsLine (text ++ more) l (a ++ more)
line_on text l a more x = record { reads = ReadsChunkLine-append text l a more x.reads; short = x.short }

pub line_never : (text : List ℕ) (l : ChunkLine) (a : List ℕ) → NeverLine text → BeginsLine text l a → ⊥
line_never text l a (inl never) x = never [] l (a ++ []) (ReadsChunkLine-append text l a [] x.reads)
line_never text l a (inr long) x =
    long.1 l (take (256 - length (print_chunk_line l)) a)
    (x.reads.0, ap (λ (t : List ℕ). take 256 t) x.reads.1 ∙ take_behind 256 (print_chunk_line l) a x.short)

never_line_on : (text more : List ℕ) → NeverLine text → NeverLine (text ++ more)
never_line_on text more (inl never) = inl (λ m l rest x. never (more ++ m) l rest (x.0, sym (append_assoc text more m) ∙ x.1))
never_line_on text more (inr long) =
    let whole : length (text ++ more) ≡ length text + length more = length-append text more in
    let fits : 256 ≤ length text = omega (arith, long.0) in
    inr (omega (arith, long.0, whole), subst HasNoChunkLine (sym (take-append-le 256 text more fits)) long.1)

-- trailers

trailers_one : (text a b : List ℕ) → BeginsTrailers text a → BeginsTrailers text b → a ≡ b
trailers_one text a b x y = (section_unique text x.fields y.fields x.last y.last a b x.reads y.reads).2

trailers_on : (text a more : List ℕ) → BeginsTrailers text a → BeginsTrailers (text ++ more) (a ++ more)
trailers_on text a more x = record { fields = x.fields; last = x.last; reads = ReadsSection-append text x.fields x.last a more x.reads; short = x.short; few = x.few }

pub trailers_never : (text a : List ℕ) → NeverTrailers text → BeginsTrailers text a → ⊥
trailers_never text a (inl many) x = absurd (omega (arith, many [] x.fields x.last (a ++ []) (ReadsSection-append text x.fields x.last a [] x.reads), x.few))
trailers_never text a (inr long) x =
    long.1 x.fields x.last (take (8192 - length (print_section x.fields x.last)) a)
    (x.reads.0, ap (λ (t : List ℕ). take 8192 t) x.reads.1 ∙ take_behind 8192 (print_section x.fields x.last) a x.short)

never_trailers_on : (text more : List ℕ) → NeverTrailers text → NeverTrailers (text ++ more)
never_trailers_on text more (inl many) = inl (λ m fs e rest x. many (more ++ m) fs e rest (x.0, sym (append_assoc text more m) ∙ x.1))
never_trailers_on text more (inr long) =
    let whole : length (text ++ more) ≡ length text + length more = length-append text more in
    inr (omega (arith, long.0, whole), subst HasNoSection (sym (take-append-le 8192 text more long.0)) long.1)

-- data

pub data_on : (size : ℕ) (text bytes rest more : List ℕ) → BeginsData size text bytes rest → BeginsData size (text ++ more) bytes (rest ++ more)
data_on size text bytes rest more x =
    (x.0, ap (λ (t : List ℕ). t ++ more) x.1 ∙ append_assoc bytes (crlf_bytes ++ rest) more ∙ ap (λ (t : List ℕ). bytes ++ t) (append_assoc crlf_bytes rest more))

data_one : (size : ℕ) (text a b r q : List ℕ) → BeginsData size text a r → BeginsData size text b q → (a ≡ b) × (r ≡ q)
data_one size text a b r q x y =
    let s = same_length a b (crlf_bytes ++ r) (crlf_bytes ++ q) (x.0 ∙ sym y.0) (sym x.1 ∙ y.1) in
    (s.0, (same_length crlf_bytes crlf_bytes r q refl s.1).1)

never_data_on : (size : ℕ) (text more : List ℕ) → NeverData size text → NeverData size (text ++ more)
never_data_on size text more never m bytes rest x = never (more ++ m) bytes rest (x.0, sym (append_assoc text more m) ∙ x.1)

-- the same line

pub same_line : (P : ChunkLine → List ℕ → Type 0) (text : List ℕ) (l k : ChunkLine) (r q : List ℕ) → BeginsLine text l r → BeginsLine text k q → P k q → P l r
same_line P text l k r q x y p =
    let s = line_one text l k r q x y in
    subst (λ (t : List ℕ). P l t) (sym s.1) (subst (λ (g : ChunkLine). P g q) (sym s.0) p)

pub chunk_one : (before : ℕ) (text a b r q : List ℕ) → BeginsChunk before text a r → BeginsChunk before text b q → (a ≡ b) × (r ≡ q)
chunk_one before text a b r q x y =
    data_one (chunk_size x.line) x.behind a b r q x.whole
    (same_line (λ l t. BeginsData (chunk_size l) t b q) text x.line y.line x.behind y.behind x.begins y.begins y.whole)

pub chunk_on : (before : ℕ) (text a r more : List ℕ) → BeginsChunk before text a r → BeginsChunk before (text ++ more) a (r ++ more)
chunk_on before text a r more x =
    record { line = x.line; behind = x.behind ++ more; begins = line_on text x.line x.behind more x.begins; some = x.some; fits = x.fits; whole = data_on (chunk_size x.line) x.behind a r more x.whole }

pub last_one : (text r q : List ℕ) → BeginsLast text r → BeginsLast text q → r ≡ q
last_one text r q x y =
    trailers_one x.behind r q x.trailers (same_line (λ l t. BeginsTrailers t q) text x.line y.line x.behind y.behind x.begins y.begins y.trailers)

last_on : (text r more : List ℕ) → BeginsLast text r → BeginsLast (text ++ more) (r ++ more)
last_on text r more x =
    record { line = x.line; behind = x.behind ++ more; begins = line_on text x.line x.behind more x.begins; none = x.none; trailers = trailers_on x.behind r more x.trailers }

pub chunk_last : (before : ℕ) (text a r q : List ℕ) → BeginsChunk before text a r → BeginsLast text q → ⊥
chunk_last before text a r q x y =
    let none = same_line (λ l t. chunk_size l ≡ 0) text x.line y.line x.behind y.behind x.begins y.begins y.none in
    absurd (omega (arith, none, x.some))

chunk_behind : (before size : ℕ) (text a r : List ℕ) (k : BadKind) → RefusedBehind before size text k → 0 < size → before + size ≤ 65536 → BeginsData size text a r → ⊥
chunk_behind before size text a r k (inl x) some fits y = absurd (omega (arith, x.0, fits))
chunk_behind before size text a r k (inr (inl x)) some fits y = x.2 [] a (r ++ []) (data_on size text a r [] y)
chunk_behind before size text a r k (inr (inr x)) some fits y = absurd (omega (arith, x.0, some))

last_behind : (before size : ℕ) (text r : List ℕ) (k : BadKind) → RefusedBehind before size text k → before ≤ 65536 → size ≡ 0 → BeginsTrailers text r → ⊥
last_behind before size text r k (inl x) small none y = absurd (omega (arith, x.0, small, none))
last_behind before size text r k (inr (inl x)) small none y = absurd (omega (arith, x.0, none))
last_behind before size text r k (inr (inr x)) small none y = trailers_never text r x.2 y

pub chunk_refused : (before : ℕ) (text a r : List ℕ) (k : BadKind) → RefusedChunk before text k → BeginsChunk before text a r → ⊥
chunk_refused before text a r k (inl x) y = line_never text y.line y.behind x.0 y.begins
chunk_refused before text a r k (inr x) y =
    chunk_behind before (chunk_size y.line) y.behind a r k
    (same_line (λ l t. RefusedBehind before (chunk_size l) t k) text y.line x.line y.behind x.behind y.begins x.begins x.refused) y.some y.fits y.whole

pub last_refused : (before : ℕ) (text r : List ℕ) (k : BadKind) → before ≤ 65536 → RefusedChunk before text k → BeginsLast text r → ⊥
last_refused before text r k small (inl x) y = line_never text y.line y.behind x.0 y.begins
last_refused before text r k small (inr x) y =
    last_behind before (chunk_size y.line) y.behind r k
    (same_line (λ l t. RefusedBehind before (chunk_size l) t k) text y.line x.line y.behind x.behind y.begins x.begins x.refused) small y.none y.trailers

behind_one : (before size : ℕ) (text : List ℕ) (j k : BadKind) → RefusedBehind before size text j → RefusedBehind before size text k → j ≡ k
behind_one before size text j k (inl x) (inl y) = x.1 ∙ sym y.1
behind_one before size text j k (inl x) (inr (inl y)) = absurd (omega (arith, x.0, y.1))
behind_one before size text j k (inl x) (inr (inr y)) = absurd (omega (arith, x.0, y.1))
behind_one before size text j k (inr (inl x)) (inl y) = absurd (omega (arith, y.0, x.1))
behind_one before size text j k (inr (inl x)) (inr (inl y)) = x.3 ∙ sym y.3
behind_one before size text j k (inr (inl x)) (inr (inr y)) = absurd (omega (arith, x.0, y.0))
behind_one before size text j k (inr (inr x)) (inl y) = absurd (omega (arith, y.0, x.1))
behind_one before size text j k (inr (inr x)) (inr (inl y)) = absurd (omega (arith, x.0, y.0))
behind_one before size text j k (inr (inr x)) (inr (inr y)) = x.3 ∙ sym y.3

behind_on : (before size : ℕ) (text more : List ℕ) (k : BadKind) → RefusedBehind before size text k → RefusedBehind before size (text ++ more) k
behind_on before size text more k (inl x) = inl x
behind_on before size text more k (inr (inl x)) = inr (inl (x.0, x.1, never_data_on size text more x.2, x.3))
behind_on before size text more k (inr (inr x)) = inr (inr (x.0, x.1, never_trailers_on text more x.2, x.3))

refused_chunk_one : (before : ℕ) (text : List ℕ) (j k : BadKind) → RefusedChunk before text j → RefusedChunk before text k → j ≡ k
refused_chunk_one before text j k (inl x) (inl y) = x.1 ∙ sym y.1
refused_chunk_one before text j k (inl x) (inr y) = absurd (line_never text y.line y.behind x.0 y.begins)
refused_chunk_one before text j k (inr x) (inl y) = absurd (line_never text x.line x.behind y.0 x.begins)
refused_chunk_one before text j k (inr x) (inr y) =
    behind_one before (chunk_size x.line) x.behind j k x.refused
    (same_line (λ l t. RefusedBehind before (chunk_size l) t k) text x.line y.line x.behind y.behind x.begins y.begins y.refused)

refused_chunk_on : (before : ℕ) (text more : List ℕ) (k : BadKind) → RefusedChunk before text k → RefusedChunk before (text ++ more) k
refused_chunk_on before text more k (inl x) = inl (never_line_on text more x.0, x.1)
refused_chunk_on before text more k (inr x) =
    inr (record { line = x.line; behind = x.behind ++ more; begins = line_on text x.line x.behind more x.begins; refused = behind_on before (chunk_size x.line) x.behind more k x.refused })

-- the whole body

pub chunks_one : (before : ℕ) (text : List ℕ) (cs ds : List (List ℕ)) (r q : List ℕ) → TakesChunks before text cs r → TakesChunks before text ds q → (cs ≡ ds) × (r ≡ q)
chunks_one before text [] [] r q x y = (refl, last_one text r q x y)
chunks_one before text [] (d ∷ ds) r q x y = absurd (chunk_last before text d y.0 r y.1 x)
chunks_one before text (c ∷ cs) [] r q x y = absurd (chunk_last before text c x.0 q x.1 y)
chunks_one before text (c ∷ cs) (d ∷ ds) r q x y =
    let s = chunk_one before text c d x.0 y.0 x.1 y.1 in
    let t : TakesChunks (before + length c) x.0 ds q = subst (λ (b : List ℕ). TakesChunks (before + length c) b ds q) (sym s.1) (subst (λ (e : List ℕ). TakesChunks (before + length e) y.0 ds q) (sym s.0) y.2) in
    let u = chunks_one (before + length c) x.0 cs ds r q x.2 t in
    (rw (s.0, u.0) refl, u.1)

pub chunks_on : (before : ℕ) (text : List ℕ) (cs : List (List ℕ)) (r more : List ℕ) → TakesChunks before text cs r → TakesChunks before (text ++ more) cs (r ++ more)
chunks_on before text [] r more x = last_on text r more x
chunks_on before text (c ∷ cs) r more x = (x.0 ++ more, chunk_on before text c x.0 more x.1, chunks_on (before + length c) x.0 cs r more x.2)

pub fails_on : (before : ℕ) (text : List ℕ) (cs : List (List ℕ)) (k : BadKind) (more : List ℕ) → FailsChunks before text cs k → FailsChunks before (text ++ more) cs k
fails_on before text [] k more x = refused_chunk_on before text more k x
fails_on before text (c ∷ cs) k more x = (x.0 ++ more, chunk_on before text c x.0 more x.1, fails_on (before + length c) x.0 cs k more x.2)

grows : (before : ℕ) (text a r : List ℕ) → BeginsChunk before text a r → before + length a ≤ 65536
grows before text a r x = omega (arith, x.fits, x.whole.0)

pub fails_one : (before : ℕ) (text : List ℕ) (cs ds : List (List ℕ)) (j k : BadKind) → FailsChunks before text cs j → FailsChunks before text ds k → j ≡ k
fails_one before text [] [] j k x y = refused_chunk_one before text j k x y
fails_one before text [] (d ∷ ds) j k x y = absurd (chunk_refused before text d y.0 j x y.1)
fails_one before text (c ∷ cs) [] j k x y = absurd (chunk_refused before text c x.0 k y x.1)
fails_one before text (c ∷ cs) (d ∷ ds) j k x y =
    let s = chunk_one before text c d x.0 y.0 x.1 y.1 in
    fails_one (before + length c) x.0 cs ds j k x.2
    (subst (λ (b : List ℕ). FailsChunks (before + length c) b ds k) (sym s.1) (subst (λ (e : List ℕ). FailsChunks (before + length e) y.0 ds k) (sym s.0) y.2))

pub fails_and_takes : (before : ℕ) (text : List ℕ) (cs ds : List (List ℕ)) (k : BadKind) (r : List ℕ) → before ≤ 65536 → FailsChunks before text cs k → TakesChunks before text ds r → ⊥
fails_and_takes before text [] [] k r small x y = last_refused before text r k small x y
fails_and_takes before text [] (d ∷ ds) k r small x y = chunk_refused before text d y.0 k x y.1
fails_and_takes before text (c ∷ cs) [] k r small x y = chunk_last before text c x.0 r x.1 y
fails_and_takes before text (c ∷ cs) (d ∷ ds) k r small x y =
    let s = chunk_one before text c d x.0 y.0 x.1 y.1 in
    fails_and_takes (before + length c) x.0 cs ds k r (grows before text c x.0 x.1) x.2
    (subst (λ (b : List ℕ). TakesChunks (before + length c) b ds r) (sym s.1) (subst (λ (e : List ℕ). TakesChunks (before + length e) y.0 ds r) (sym s.0) y.2))
