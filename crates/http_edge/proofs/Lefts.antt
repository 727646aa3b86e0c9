-- A body so far: what its next part does to the text.
use Rattle.std.proofs.Common.{◌≡◌, inl, inr, ℕ, zero, suc, ◌≤◌, ◌<◌, ◌+◌, ◌-◌, List, [], ◌∷◌, ◌++◌, length, map, take, drop, min, replicate, refl, sym, ap, subst, ◌∙◌, arith, append_assoc}
use Rattle.std.specs.List.{concat}
use Rattle.std.proofs.lemmas.List.{length-append, append-nil, length-take-le, length-take, length-map, take-append-drop, take-append-le, length-replicate, drop-drop}
use Rattle.std.proofs.lemmas.List.Folds.{concat-append}
use Rattle.std.proofs.Math.Seq.{take-length, drop-append_seam}
use Rattle.httparse.specs.Ascii.{crlf_bytes}
use Rattle.httparse.specs.Grammar.{ChunkLine, print_chunk_line, print_extension, chunk_size, ReadsChunkLine, HasNoChunkLine, MayBecomeChunkLine, print_section, HasNoSection}
use Rattle.httparse.specs.Spans.{IsChunkLineAt, IsSectionWithin, IsSectionOf, header_bytes, name_and_value}
use Rattle.httparse.specs.declared.spans.HeaderSpan.{HeaderSpan}
use Rattle.httparse.proofs.ChunkLemmas.{chunk_line_unique, ReadsChunkLine-append}
use Rattle.http_edge.specs.declared.request.BadKind.{BadKind}
use Rattle.http_edge.specs.declared.request.BadKind.TheVariants.{Syntax, Large}
use Rattle.http_edge.specs.declared.framing.Framing.{Framing}
use Rattle.http_edge.specs.declared.framing.Framing.TheVariants.{Chunked}
use Rattle.http_edge.specs.Chunks.{BeginsLine, NeverLine, BeginsTrailers, NeverTrailers, BeginsData, NeverData, BeginsChunk, BeginsLast, RefusedBehind, RefusedChunk, TakesChunks, FailsChunks}
use Rattle.http_edge.specs.Reading.{TakesBody, NeverTakes}
use Rattle.http_edge.specs.declared.body.Left.{Left}
use Rattle.http_edge.specs.declared.body.Left.TheVariants.{Line}
use Rattle.http_edge.specs.Bodies.{SoFar, Chunks, BehindLine, AtLine, InData, AtTrailers, NoBody, ChunksLeave, BodyLeaves}
use Rattle.http_edge.proofs.Fronts.{same_length}
use Rattle.http_edge.proofs.Chunking.{chunk_one, chunk_last, chunk_refused, line_never, same_line}

nothing : {A : Type 0} (xs : List A) → length xs ≡ 0 → xs ≡ []
nothing [] e = refl
nothing (x ∷ xs) e = absurd (omega (arith, e))

-- fronts of chunks

add_chunk : (n : ℕ) (t : List ℕ) (cs : List (List ℕ)) (m : List ℕ) (a : ℕ) (c r : List ℕ) → Chunks n t cs m a → BeginsChunk a m c r → Chunks n t (cs ++ c ∷ []) r (a + length c)
add_chunk n t [] m a c r x y =
    let z : BeginsChunk n t c r = subst (λ (s : List ℕ). BeginsChunk n s c r) x.0 (subst (λ (k : ℕ). BeginsChunk k m c r) x.1 y) in
    (r, z, (refl, ap (λ (k : ℕ). k + length c) x.1))
add_chunk n t (d ∷ cs) m a c r x y = (x.0, x.1, add_chunk (n + length d) x.0 cs m a c r x.2 y)

ends : (n : ℕ) (t : List ℕ) (cs : List (List ℕ)) (m : List ℕ) (a : ℕ) (r : List ℕ) → Chunks n t cs m a → BeginsLast m r → TakesChunks n t cs r
ends n t [] m a r x y = subst (λ (s : List ℕ). BeginsLast s r) x.0 y
ends n t (d ∷ cs) m a r x y = (x.0, x.1, ends (n + length d) x.0 cs m a r x.2 y)

fails : (n : ℕ) (t : List ℕ) (cs : List (List ℕ)) (m : List ℕ) (a : ℕ) (k : BadKind) → Chunks n t cs m a → RefusedChunk a m k → FailsChunks n t cs k
fails n t [] m a k x y = subst (λ (s : List ℕ). RefusedChunk n s k) x.0 (subst (λ (j : ℕ). RefusedChunk j m k) x.1 y)
fails n t (d ∷ cs) m a k x y = (x.0, x.1, fails (n + length d) x.0 cs m a k x.2 y)

-- what takes the whole takes the rest
pub splits : (n : ℕ) (t : List ℕ) (cs ds : List (List ℕ)) (m : List ℕ) (a : ℕ) (r : List ℕ) → Chunks n t cs m a → TakesChunks n t ds r → (es : List (List ℕ)) × TakesChunks a m es r
splits n t [] ds m a r x y = (ds, subst (λ (s : List ℕ). TakesChunks a s ds r) (sym x.0) (subst (λ (k : ℕ). TakesChunks k t ds r) (sym x.1) y))
splits n t (c ∷ cs) [] m a r x y = absurd (chunk_last n t c x.0 r x.1 y)
splits n t (c ∷ cs) (d ∷ ds) m a r x y =
    let s = chunk_one n t c d x.0 y.0 x.1 y.1 in
    splits (n + length c) x.0 cs ds m a r x.2
    (subst (λ (b : List ℕ). TakesChunks (n + length c) b ds r) (sym s.1) (subst (λ (e : List ℕ). TakesChunks (n + length e) y.0 ds r) (sym s.0) y.2))

-- what refuses the whole refuses the rest
pub splits_fail : (n : ℕ) (t : List ℕ) (cs ds : List (List ℕ)) (m : List ℕ) (a : ℕ) (k : BadKind) → Chunks n t cs m a → FailsChunks n t ds k → (es : List (List ℕ)) × FailsChunks a m es k
splits_fail n t [] ds m a k x y = (ds, subst (λ (s : List ℕ). FailsChunks a s ds k) (sym x.0) (subst (λ (j : ℕ). FailsChunks j t ds k) (sym x.1) y))
splits_fail n t (c ∷ cs) [] m a k x y = absurd (chunk_refused n t c x.0 k y x.1)
splits_fail n t (c ∷ cs) (d ∷ ds) m a k x y =
    let s = chunk_one n t c d x.0 y.0 x.1 y.1 in
    splits_fail (n + length c) x.0 cs ds m a k x.2
    (subst (λ (b : List ℕ). FailsChunks (n + length c) b ds k) (sym s.1) (subst (λ (e : List ℕ). FailsChunks (n + length e) y.0 ds k) (sym s.0) y.2))

-- a chunk's line is due

no_take : (n : ℕ) (t : List ℕ) (es : List (List ℕ)) (r : List ℕ) → HasNoChunkLine t → TakesChunks n t es r → ⊥
no_take n t [] r none x = none x.line x.behind x.begins.reads
no_take n t (e ∷ es) r none x = none x.1.line x.1.behind x.1.begins.reads

not_never : (t : List ℕ) → MayBecomeChunkLine t → length t ≤ 256 → NeverLine t → ⊥
not_never t may short (inl never) = never may.0 may.1 [] may.2
not_never t may short (inr long) = absurd (omega (arith, long.0, short))

no_fail : (n : ℕ) (t : List ℕ) (es : List (List ℕ)) (k : BadKind) → HasNoChunkLine t → MayBecomeChunkLine t → length t ≤ 256 → FailsChunks n t es k → ⊥
no_fail n t [] k none may short (inl x) = not_never t may short x.0
no_fail n t [] k none may short (inr x) = none x.line x.behind x.begins.reads
no_fail n t (e ∷ es) k none may short x = none x.1.line x.1.behind x.1.begins.reads

pub line_waits : (t body unread : List ℕ) → AtLine body unread t → HasNoChunkLine unread → MayBecomeChunkLine unread → length unread ≤ 256 → NoBody Chunked t
line_waits t body unread s none may short = record {
  takes = λ b rest x. let y = splits 0 t s.0 x.0 unread (length body) rest s.1 x.1 in no_take (length body) unread y.0 rest none y.1;
  fails = λ k x. let y = splits_fail 0 t s.0 x.0 unread (length body) k s.1 x.1 in no_fail (length body) unread y.0 k none may short y.1;
}

pub bad_line : (t body unread : List ℕ) → AtLine body unread t → NeverLine unread → NeverTakes Chunked t Syntax
bad_line t body unread s never = (s.0, fails 0 t s.0 unread (length body) Syntax s.1 (inl (never, refl)))

pub front_none : (n : ℕ) (t : List ℕ) → HasNoChunkLine t → HasNoChunkLine (take n t)
front_none n t none l r x =
    none l (r ++ drop n t) (subst (λ (u : List ℕ). ReadsChunkLine u l (r ++ drop n t)) (take-append-drop n t) (ReadsChunkLine-append (take n t) l r (drop n t) x))

other : (t : List ℕ) (n size : ℕ) (l : ChunkLine) → IsChunkLineAt t n size l → 256 < n → HasNoChunkLine (take 256 t)
other t n size l at much k r x =
    let y : ReadsChunkLine t k (r ++ drop 256 t) = subst (λ (u : List ℕ). ReadsChunkLine u k (r ++ drop 256 t)) (take-append-drop 256 t) (ReadsChunkLine-append (take 256 t) k r (drop 256 t) x) in
    let same = (chunk_line_unique t l k (drop n t) (r ++ drop 256 t) at.reads y).0 in
    let size_same : length (print_chunk_line l) ≡ length (print_chunk_line k) = ap (λ (c : ChunkLine). length (print_chunk_line c)) same in
    let cut : length (take 256 t) ≡ min 256 (length t) = length-take 256 t in
    let whole : length (take 256 t) ≡ length (print_chunk_line k ++ r) = ap length x.1 in
    let parts : length (print_chunk_line k ++ r) ≡ length (print_chunk_line k) + length r = length-append (print_chunk_line k) r in
    absurd (omega (arith, at.len_is, much, size_same, cut, whole, parts))

pub too_long : (t : List ℕ) (n size : ℕ) (l : ChunkLine) → IsChunkLineAt t n size l → 256 < n → NeverLine t
too_long t n size l at much =
    let whole : length t ≡ length (print_chunk_line l ++ drop n t) = ap length at.reads.1 in
    let parts : length (print_chunk_line l ++ drop n t) ≡ length (print_chunk_line l) + length (drop n t) = length-append (print_chunk_line l) (drop n t) in
    inr (omega (arith, whole, parts, at.len_is, much), λ k r x. other t n size l at much k r x)

line_at : (t : List ℕ) (n size : ℕ) (l : ChunkLine) → IsChunkLineAt t n size l → n ≤ 256 → BeginsLine t l (drop n t)
line_at t n size l at few = record { reads = at.reads; short = omega (arith, at.len_is, few) }

-- a chunk's line isn't empty, and lies in the text
pub line_fits : (t : List ℕ) (n size : ℕ) → (l : ChunkLine) × IsChunkLineAt t n size l → (0 < n) × (n ≤ length t)
unfolding print_chunk_line
line_fits t n size at =
    let l = at.0 in
    let whole : length t ≡ length (print_chunk_line l ++ drop n t) = ap length at.1.reads.1 in
    let parts : length (print_chunk_line l ++ drop n t) ≡ length (print_chunk_line l) + length (drop n t) = length-append (print_chunk_line l) (drop n t) in
    let last : length (print_chunk_line l) ≡ length (l.digits ++ l.pad ++ print_extension l.extension) + length crlf_bytes = length-append (l.digits ++ l.pad ++ print_extension l.extension) crlf_bytes in
    let two : length crlf_bytes ≡ 2 = refl in
    (omega (arith, at.1.len_is, last, two), omega (arith, at.1.len_is, whole, parts))

pub large_at : (t body unread : List ℕ) (n size : ℕ) → AtLine body unread t → (l : ChunkLine) × IsChunkLineAt unread n size l → n ≤ 256 → 65536 - length body < size → NeverTakes Chunked t Large
large_at t body unread n size s at few much =
    let size_is : size ≡ chunk_size at.0 = at.1.size_is in
    (s.0, fails 0 t s.0 unread (length body) Large s.1 (inr (record { line = at.0; behind = drop n unread; begins = line_at unread n size at.0 at.1 few; refused = inl (omega (arith, much, size_is), refl) })))

-- the same, where the framing is chunked

pub never_by : (f : Framing) (t : List ℕ) (k : BadKind) → f ≡ Chunked → NeverTakes Chunked t k → NeverTakes f t k
never_by f t k e x = subst (λ (g : Framing). NeverTakes g t k) (sym e) x

pub none_by : (f : Framing) (t : List ℕ) → f ≡ Chunked → NoBody Chunked t → NoBody f t
none_by f t e x = subst (λ (g : Framing). NoBody g t) (sym e) x

pub takes_by : (f : Framing) (t body rest : List ℕ) → f ≡ Chunked → TakesBody Chunked t body rest → TakesBody f t body rest
takes_by f t body rest e x = subst (λ (g : Framing). TakesBody g t body rest) (sym e) x

-- what is so far, where it is known what is read next
pub left_is : (f : Framing) (left now : Left) (body unread t : List ℕ) → left ≡ now → SoFar f left body unread t → SoFar f now body unread t
left_is f left now body unread t e s = subst (λ (x : Left). SoFar f x body unread t) e s

pub bad_line_by : (f : Framing) (left : Left) (t body unread : List ℕ) → left ≡ Line → NeverLine unread → SoFar f left body unread t → NeverTakes f t Syntax
bad_line_by f left t body unread e never x =
    let s = left_is f left Line body unread t e x in
    never_by f t Syntax s.0 (bad_line t body unread s.1 never)

-- what was read is gone
pub shorter : (unread rest : List ℕ) (n : ℕ) → rest ≡ drop n unread → 0 < n → n ≤ length unread → length rest < length unread
shorter unread rest n e some fits =
    let size : length rest ≡ length (drop n unread) = ap length e in
    let parts : length (take n unread ++ drop n unread) ≡ length (take n unread) + length (drop n unread) = length-append (take n unread) (drop n unread) in
    let whole : length (take n unread ++ drop n unread) ≡ length unread = ap length (take-append-drop n unread) in
    let front : length (take n unread) ≡ n = length-take-le n unread fits in
    omega (arith, size, parts, whole, front, some)

-- bytes of a chunk came in

pub moved : (t body unread : List ℕ) (missing n : ℕ) → InData missing body unread t → n ≤ missing → n ≤ length unread → InData (missing - n) (body ++ take n unread) (drop n unread) t
moved t body unread missing n s few fits =
    let whole : length (s.1 ++ take n unread) ≡ length s.1 + length (take n unread) = length-append s.1 (take n unread) in
    let taken : length (take n unread) ≡ n = length-take-le n unread fits in
    let size : length (s.1 ++ take n unread) + (missing - n) ≡ length s.1 + missing = omega (arith, whole, taken, few) in
    let parts : s.1 ++ take n unread ++ drop n unread ≡ s.1 ++ unread = append_assoc s.1 (take n unread) (drop n unread) ∙ ap (λ (u : List ℕ). s.1 ++ u) (take-append-drop n unread) in (
      s.0,
      s.1 ++ take n unread,
      subst (λ (k : ℕ). BehindLine t k (s.1 ++ take n unread ++ drop n unread) s.0) (sym size) (subst (λ (u : List ℕ). BehindLine t (length s.1 + missing) u s.0) (sym parts) s.2),
      omega (arith, size, s.3),
      ap (λ (b : List ℕ). b ++ take n unread) s.4 ∙ append_assoc s.0 s.1 (take n unread),
    )

-- the bytes of a chunk and its line end aren't all there, and may come
pub record MayEnd (missing : ℕ) (unread : List ℕ) : Type 0 where
  pub short : length unread < missing + 2
  pub more : List ℕ
  pub bytes : List ℕ
  pub size : length bytes ≡ missing
  pub whole : unread ++ more ≡ bytes ++ crlf_bytes

not_whole : (missing : ℕ) (got unread bytes rest : List ℕ) → MayEnd missing unread → BeginsData (length got + missing) (got ++ unread) bytes rest → ⊥
not_whole missing got unread bytes rest may x =
    let size : length (got ++ unread) ≡ length (bytes ++ (crlf_bytes ++ rest)) = ap length x.1 in
    let left : length (got ++ unread) ≡ length got + length unread = length-append got unread in
    let right : length (bytes ++ (crlf_bytes ++ rest)) ≡ length bytes + length (crlf_bytes ++ rest) = length-append bytes (crlf_bytes ++ rest) in
    let end : length (crlf_bytes ++ rest) ≡ length crlf_bytes + length rest = length-append crlf_bytes rest in
    let two : length crlf_bytes ≡ 2 = refl in
    absurd (omega (arith, size, left, right, end, two, x.0, may.short))

not_never_data : (missing : ℕ) (got unread : List ℕ) → MayEnd missing unread → NeverData (length got + missing) (got ++ unread) → ⊥
not_never_data missing got unread may never =
    let size : length (got ++ may.bytes) ≡ length got + length may.bytes = length-append got may.bytes in
    let regrouped : got ++ unread ++ may.more ≡ got ++ may.bytes ++ (crlf_bytes ++ []) = append_assoc got unread may.more ∙ ap (λ (u : List ℕ). got ++ u) may.whole ∙ sym (append_assoc got may.bytes crlf_bytes) in
    never may.more (got ++ may.bytes) [] (omega (arith, size, may.size), regrouped)

no_take_data : (missing a : ℕ) (m got unread : List ℕ) (l : ChunkLine) (es : List (List ℕ)) (r : List ℕ) → BeginsLine m l (got ++ unread) → chunk_size l ≡ length got + missing → 0 < length got + missing → MayEnd missing unread → TakesChunks a m es r → ⊥
no_take_data missing a m got unread l [] r at size some may x =
    let none = same_line (λ k t. chunk_size k ≡ 0) m l x.line (got ++ unread) x.behind at x.begins x.none in
    absurd (omega (arith, none, size, some))
no_take_data missing a m got unread l (e ∷ es) r at size some may x =
    let whole = same_line (λ k t. BeginsData (chunk_size k) t e x.0) m l x.1.line (got ++ unread) x.1.behind at x.1.begins x.1.whole in
    not_whole missing got unread e x.0 may (subst (λ (n : ℕ). BeginsData n (got ++ unread) e x.0) size whole)

no_fail_behind : (missing a size : ℕ) (got unread : List ℕ) (k : BadKind) → size ≡ length got + missing → 0 < length got + missing → a + size ≤ 65536 → MayEnd missing unread → RefusedBehind a size (got ++ unread) k → ⊥
no_fail_behind missing a size got unread k is some fits may (inl x) = absurd (omega (arith, x.0, fits))
no_fail_behind missing a size got unread k is some fits may (inr (inl x)) = not_never_data missing got unread may (subst (λ (n : ℕ). NeverData n (got ++ unread)) is x.2)
no_fail_behind missing a size got unread k is some fits may (inr (inr x)) = absurd (omega (arith, x.0, is, some))

no_fail_data : (missing a : ℕ) (m got unread : List ℕ) (l : ChunkLine) (es : List (List ℕ)) (k : BadKind) → BeginsLine m l (got ++ unread) → chunk_size l ≡ length got + missing → 0 < length got + missing → a + chunk_size l ≤ 65536 → MayEnd missing unread → FailsChunks a m es k → ⊥
no_fail_data missing a m got unread l [] k at size some fits may (inl x) = line_never m l (got ++ unread) x.0 at
no_fail_data missing a m got unread l [] k at size some fits may (inr x) =
    no_fail_behind missing a (chunk_size l) got unread k size some fits may
    (same_line (λ g t. RefusedBehind a (chunk_size g) t k) m l x.line (got ++ unread) x.behind at x.begins x.refused)
no_fail_data missing a m got unread l (e ∷ es) k at size some fits may x =
    let whole = same_line (λ g t. BeginsData (chunk_size g) t e x.0) m l x.1.line (got ++ unread) x.1.behind at x.1.begins x.1.whole in
    not_whole missing got unread e x.0 may (subst (λ (n : ℕ). BeginsData n (got ++ unread) e x.0) size whole)

pub data_waits : (t body unread : List ℕ) (missing : ℕ) → InData missing body unread t → MayEnd missing unread → NoBody Chunked t
data_waits t body unread missing s may =
    let w = s.2 in
    let fits : w.after + chunk_size w.line ≤ 65536 = omega (arith, w.fits, w.size_is) in
    record {
      takes = λ b rest x. let y = splits 0 t w.chunks x.0 w.middle w.after rest w.read x.1 in no_take_data missing w.after w.middle s.1 unread w.line y.0 rest w.begins w.size_is s.3 may y.1;
      fails = λ k x. let y = splits_fail 0 t w.chunks x.0 w.middle w.after k w.read x.1 in no_fail_data missing w.after w.middle s.1 unread w.line y.0 k w.begins w.size_is s.3 fits may y.1;
    }

-- no line end can stand after a chunk
pub NotEnd : List ℕ → Type 0
NotEnd unread = (more rest : List ℕ) → unread ++ more ≡ crlf_bytes ++ rest → ⊥

pub bad_end : (t body unread : List ℕ) → InData 0 body unread t → NotEnd unread → NeverTakes Chunked t Syntax
unfolding NotEnd
bad_end t body unread s never =
    let w = s.2 in
    let refused : NeverData (chunk_size w.line) (s.1 ++ unread) = λ more bytes rest x.
    let size : length s.1 ≡ length bytes = omega (arith, x.0, w.size_is) in
    let parts = same_length s.1 bytes (unread ++ more) (crlf_bytes ++ rest) size (sym (append_assoc s.1 unread more) ∙ x.1) in
    never more rest parts.1 in (
      w.chunks,
      fails 0 t w.chunks w.middle w.after Syntax w.read (inr (record {
        line = w.line;
        behind = s.1 ++ unread;
        begins = w.begins;
        refused = inr (inl (omega (arith, w.size_is, s.3), omega (arith, w.fits, w.size_is), refused, refl));
      })),
    )

pub end_read : (t body unread rest : List ℕ) → InData 0 body unread t → unread ≡ crlf_bytes ++ rest → AtLine body rest t
end_read t body unread rest s e =
    let w = s.2 in
    let begins : BeginsChunk w.after w.middle s.1 rest = record {
      line = w.line;
      behind = s.1 ++ unread;
      begins = w.begins;
      some = omega (arith, w.size_is, s.3);
      fits = omega (arith, w.fits, w.size_is);
      whole = (omega (arith, w.size_is), ap (λ (u : List ℕ). s.1 ++ u) e);
    } in
    let size : length body ≡ length s.0 + length s.1 = ap length s.4 ∙ length-append s.0 s.1 in
    let sum : w.after + length s.1 ≡ length body = omega (arith, size, w.after_is) in
    let joined : concat (w.chunks ++ s.1 ∷ []) ≡ s.0 ++ s.1 = concat-append w.chunks (s.1 ∷ []) ∙ ap (λ (u : List ℕ). concat w.chunks ++ u) (append-nil s.1) ∙ ap (λ (u : List ℕ). u ++ s.1) (sym w.body_is) in (
      w.chunks ++ s.1 ∷ [],
      subst (λ (n : ℕ). Chunks 0 t (w.chunks ++ s.1 ∷ []) rest n) sum (add_chunk 0 t w.chunks w.middle w.after s.1 rest w.read begins),
      omega (arith, sum, w.fits),
      s.4 ∙ sym joined,
    )

-- two bytes, or fewer, that begin a line end or don't

pub not_end : (unread : List ℕ) (n : ℕ) → n ≤ length unread → n ≤ 2 → (take n unread ≡ take n crlf_bytes → ⊥) → NotEnd unread
unfolding NotEnd
not_end unread n fits few differ more rest e =
    let two : n ≤ length crlf_bytes = few in
    differ (sym (take-append-le n unread more fits) ∙ ap (λ (u : List ℕ). take n u) e ∙ take-append-le n crlf_bytes rest two)

pub may_end : (unread : List ℕ) (n : ℕ) → n ≡ length unread → n < 2 → take n unread ≡ take n crlf_bytes → MayEnd 0 unread
may_end unread n is few same =
    let whole : unread ≡ take n crlf_bytes = sym (take-length unread) ∙ ap (λ (k : ℕ). take k unread) (sym is) ∙ same in
    record { short = omega (arith, is, few); more = drop n crlf_bytes; bytes = []; size = refl; whole = ap (λ (u : List ℕ). u ++ drop n crlf_bytes) whole ∙ take-append-drop n crlf_bytes }

pub is_end : (unread : List ℕ) (n : ℕ) → n ≡ 2 → take n unread ≡ take n crlf_bytes → unread ≡ crlf_bytes ++ drop n unread
is_end unread n is same =
    let two : take n crlf_bytes ≡ crlf_bytes = ap (λ (k : ℕ). take k crlf_bytes) is in
    sym (take-append-drop n unread) ∙ ap (λ (u : List ℕ). u ++ drop n unread) (same ∙ two)

pub may_move : (missing : ℕ) (unread : List ℕ) → length unread ≡ 0 → MayEnd missing unread
may_move missing unread none =
    let empty = nothing unread none in
    record { short = omega (arith, none); more = replicate missing 0 ++ crlf_bytes; bytes = replicate missing 0; size = length-replicate missing 0; whole = ap (λ (u : List ℕ). u ++ (replicate missing 0 ++ crlf_bytes)) empty }

-- trailers

pub trailers_whole : (t body unread rest : List ℕ) → AtTrailers body unread t → BeginsTrailers unread rest → TakesBody Chunked t body rest
trailers_whole t body unread rest w x =
    (w.chunks, ends 0 t w.chunks w.middle w.after rest w.read (record { line = w.line; behind = unread; begins = w.begins; none = w.size_is; trailers = x }), w.body_is)

pub bad_trailers : (t body unread : List ℕ) → AtTrailers body unread t → NeverTrailers unread → NeverTakes Chunked t Syntax
bad_trailers t body unread w never = (
  w.chunks,
  fails 0 t w.chunks w.middle w.after Syntax w.read (inr (record {
    line = w.line;
    behind = unread;
    begins = w.begins;
    refused = inr (inr (w.size_is, omega (arith, w.fits, w.size_is), never, refl));
  })),
)

pub trailers_read : (unread : List ℕ) (headers : List HeaderSpan) (len count : ℕ) → length unread ≤ 8192 → length headers ≡ 64 → IsSectionWithin unread headers len count → IsSectionOf unread 0 headers (len, count) → BeginsTrailers unread (drop len unread)
trailers_read unread headers len count short room w at =
    let many : length (take count headers) ≡ count = length-take-le count headers w.count_fits in
    let spans : length (map (header_bytes unread) (take count headers)) ≡ length (take count headers) = length-map (take count headers) (header_bytes unread) in
    let pairs : length (map name_and_value at.0) ≡ length at.0 = length-map at.0 name_and_value in
    let same : length (map (header_bytes unread) (take count headers)) ≡ length (map name_and_value at.0) = ap length at.2.fields_are in
    let size : len ≡ 0 + length (print_section at.0 at.1) = at.2.len_is in
    record { fields = at.0; last = at.1; reads = at.2.reads; short = omega (arith, size, w.len_fits, short); few = omega (arith, many, spans, pairs, same, room, w.count_fits) }

pub trailers_full : (unread : List ℕ) → length unread ≡ 8192 → HasNoSection unread → NeverTrailers unread
trailers_full unread size none =
    let whole : take 8192 unread ≡ unread = ap (λ (n : ℕ). take n unread) (sym size) ∙ take-length unread in
    inr (omega (arith, size), subst HasNoSection (sym whole) none)

-- what is left of a body that isn't whole

pub leaves_by : (f : Framing) (t rest : List ℕ) → f ≡ Chunked → ChunksLeave t rest → BodyLeaves f t rest
leaves_by f t rest e x = subst (λ (g : Framing). BodyLeaves g t rest) (sym e) x

pub line_leaves : (t body unread : List ℕ) → AtLine body unread t → HasNoChunkLine unread → ChunksLeave t unread
line_leaves t body unread s none =
    record { chunks = s.0; after = length body; middle = unread; read = s.1; no_more = λ c b x. none x.line x.behind x.begins.reads; left = inl (none, refl) }

pub all_moved : (missing : ℕ) (unread : List ℕ) → length unread ≡ 0 → unread ≡ drop missing unread
all_moved zero unread none = refl
all_moved (suc missing) [] none = refl
all_moved (suc missing) (b ∷ bs) none = absurd (omega (arith, none))

pub data_leaves : (t body unread : List ℕ) (missing : ℕ) → InData missing body unread t → MayEnd missing unread → unread ≡ drop missing unread → ChunksLeave t unread
data_leaves t body unread missing s may all =
    let w = s.2 in
    let behind : drop (length s.1 + missing) (s.1 ++ unread) ≡ unread = sym (drop-drop missing (length s.1) (s.1 ++ unread)) ∙ ap (drop missing) (drop-append_seam s.1 unread) ∙ sym all in
    record {
      chunks = w.chunks;
      after = w.after;
      middle = w.middle;
      read = w.read;
      no_more = λ c b x.
          let whole = same_line (λ k u. BeginsData (chunk_size k) u c b) w.middle w.line x.line (s.1 ++ unread) x.behind w.begins x.begins x.whole in
          not_whole missing s.1 unread c b may (subst (λ (n : ℕ). BeginsData n (s.1 ++ unread) c b) w.size_is whole);
      left = inr (w.line, s.1 ++ unread, w.begins, sym (ap (λ (n : ℕ). drop n (s.1 ++ unread)) w.size_is ∙ behind));
    }

pub trailers_leave : (t body unread : List ℕ) → AtTrailers body unread t → ChunksLeave t unread
trailers_leave t body unread w = record {
  chunks = w.chunks;
  after = w.after;
  middle = w.middle;
  read = w.read;
  no_more = λ c b x.
      let some = same_line (λ k u. 0 < chunk_size k) w.middle w.line x.line unread x.behind w.begins x.begins x.some in
      let size = w.size_is in
      absurd (omega (arith, some, size));
  left = inr (w.line, unread, w.begins, sym (ap (λ (n : ℕ). drop n unread) w.size_is));
}
