-- What an edge does to the text that it stands for.
use Rattle.std.proofs.Common.{◌≡◌, ◌⊎◌, ◌&&◌, not, inl, inr, ℕ, ◌≤◌, ◌<◌, ◌+◌, List, [], ◌∷◌, ◌++◌, length, drop, refl, sym, ap, subst, ◌∙◌, arith, append_assoc, Bool, true, false, Option, Some, None, IsSome, Result, Ok, Err, IfOk, OnErr}
use Rattle.httparse.specs.Grammar.{RequestHead, ChunkLine, chunk_size, HasNoSection}
use Rattle.httparse.specs.Spans.{RequestOverflows, SectionOverflows}
use Rattle.http_edge.specs.declared.memory.Memory.{Memory}
use Rattle.http_edge.specs.declared.request.BadKind.{BadKind}
use Rattle.http_edge.specs.declared.request.Incoming.{Incoming}
use Rattle.http_edge.specs.declared.framing.Framing.{Framing}
use Rattle.http_edge.specs.declared.framing.Framing.TheVariants.{Chunked}
use Rattle.http_edge.specs.declared.body.Left.{Left}
use Rattle.http_edge.specs.declared.body.Left.TheVariants.{Bytes, Line, Data, Trailers}
use Rattle.http_edge.specs.declared.body.Fill.{Fill}
use Rattle.http_edge.specs.declared.body.Fill.TheVariants as fill
use Rattle.http_edge.specs.declared.begun.Begun.{Begun}
use Rattle.http_edge.specs.declared.head.Start.{Start}
use Rattle.http_edge.specs.declared.head.Start.TheVariants.{Bad, Head}
use Rattle.http_edge.specs.Framing.{framing}
use Rattle.http_edge.specs.Requests.{Content, content, content_of, expects}
use Rattle.http_edge.specs.Reading.{BeginsWith, TakesBody, NeverTakes, Spells, IsRefused, Item, asked, bad, First, HasNone}
use Rattle.http_edge.specs.Chunks.{BeginsLine, BeginsTrailers, NeverTrailers, RefusedBehind, TakesChunks, FailsChunks}
use Rattle.http_edge.specs.Bodies.{SoFar, Chunks, BehindLine, NoBody, OpenTrailers, Comes}
use Rattle.http_edge.specs.Edges.{GoesOn, IsStart, StandsBegun, HeadWaits, TrailersWait, Waits, HasTooMany, Expects, StandsIn, WaitsIn, Leaves, Falls, FillsBegun, FillsIn}
use Rattle.http_edge.proofs.Chunking.{chunk_on, line_on, line_never, same_line}
use Rattle.http_edge.proofs.Heading.{nothing_waits}
use Rattle.http_edge.proofs.Lefts.{splits, splits_fail}
use Rattle.http_edge.proofs.Readings.{same_head, begins_on, never_and_begins}

-- more bytes

chunks_front_on : (n : ℕ) (t : List ℕ) (cs : List (List ℕ)) (rest : List ℕ) (a : ℕ) (more : List ℕ) → Chunks n t cs rest a → Chunks n (t ++ more) cs (rest ++ more) a
chunks_front_on n t [] rest a more x = (ap (λ (u : List ℕ). u ++ more) x.0, x.1)
chunks_front_on n t (c ∷ cs) rest a more x = (x.0 ++ more, chunk_on n t c x.0 more x.1, chunks_front_on (n + length c) x.0 cs rest a more x.2)

behind_on : (t : List ℕ) (size : ℕ) (behind body more : List ℕ) → BehindLine t size behind body → BehindLine (t ++ more) size (behind ++ more) body
behind_on t size behind body more x = record {
  chunks = x.chunks;
  after = x.after;
  middle = x.middle ++ more;
  line = x.line;
  read = chunks_front_on 0 t x.chunks x.middle x.after more x.read;
  begins = line_on x.middle x.line behind more x.begins;
  size_is = x.size_is;
  fits = x.fits;
  after_is = x.after_is;
  body_is = x.body_is;
}

so_far_on : (f : Framing) (left : Left) (body unread text more : List ℕ) → SoFar f left body unread text → SoFar f left body (unread ++ more) (text ++ more)
so_far_on f (Bytes missing) body unread text more x = (x.0, ap (λ (u : List ℕ). u ++ more) x.1 ∙ append_assoc body unread more)
so_far_on f Line body unread text more x = (x.0, (x.1.0, chunks_front_on 0 text x.1.0 unread (length body) more x.1.1, x.1.2, x.1.3))
so_far_on f (Data missing) body unread text more x =
    let s = x.1 in
    let b = behind_on text (length s.1 + missing) (s.1 ++ unread) s.0 more s.2 in
    (x.0, (s.0, s.1, subst (λ (u : List ℕ). BehindLine (text ++ more) (length s.1 + missing) u s.0) (append_assoc s.1 unread more) b, s.3, s.4))
so_far_on f Trailers body unread text more x = (x.0, behind_on text 0 unread body more x.1)

goes_on_on : (c : Content) (left : Left) (wants : Bool) (unread text more : List ℕ) → GoesOn c left wants unread text → GoesOn c left wants (unread ++ more) (text ++ more)
goes_on_on c left wants unread text more g = record {
  head = g.head;
  behind = g.behind ++ more;
  begins = begins_on text g.head g.behind more g.begins;
  body_is = so_far_on (framing g.head) left c.body unread g.behind more g.body_is;
  content_is = g.content_is;
  wants_is = g.wants_is;
}

pub feeds : (o : Option Begun) (unread text more : List ℕ) → StandsBegun o unread text → StandsBegun o (unread ++ more) (text ++ more)
feeds None unread text more x = ap (λ (u : List ℕ). u ++ more) x
feeds (Some b) unread text more x = goes_on_on _ _ _ unread text more x

-- the head at the front

pub text_is : (o : Option Begun) (unread text : List ℕ) → o ≡ None → StandsBegun o unread text → text ≡ unread
text_is o unread text e s = subst (λ (x : Option Begun). StandsBegun x unread text) e s

pub refused : (o : Option Begun) (unread text : List ℕ) (start : Start) (k : BadKind) → o ≡ None → start ≡ Bad k → IsStart unread start → StandsBegun o unread text → IsRefused text k
refused o unread text start k e is r s =
    let q : IsRefused unread k = subst (λ (x : Start). IsStart unread x) is r in
    subst (λ (t : List ℕ). IsRefused t k) (sym (text_is o unread text e s)) q

-- a request without a body is whole with its head
pub whole_at : (o : Option Begun) (unread text : List ℕ) (start : Start) (b : Begun) (n : ℕ) → o ≡ None → start ≡ Head b n → b.left ≡ Bytes 0 → IsStart unread start → StandsBegun o unread text → First text (asked (content b.request)) (drop n unread)
whole_at o unread text start b n e is left r s =
    let rest = drop n unread in
    let x : IsStart unread (Head b n) = subst (λ (y : Start). IsStart unread y) is r in
    let so : SoFar (framing x.0) (Bytes 0) [] rest rest = subst (λ (l : Left). SoFar (framing x.0) l [] rest rest) left x.3 in
    let none : (content b.request).body ≡ [] = ap (λ (c : Content). c.body) x.4 in
    let empty : TakesBody (framing x.0) rest [] rest = subst (λ (f : Framing). TakesBody f rest [] rest) (sym so.0) (refl, refl) in
    subst (λ (t : List ℕ). Spells t (content b.request) rest) (sym (text_is o unread text e s)) (record {
      head = x.0;
      behind = rest;
      begins = x.1;
      body = subst (λ (y : List ℕ). TakesBody (framing x.0) rest y rest) (sym none) empty;
      content = x.4 ∙ ap (λ (y : List ℕ). content_of x.0 y) (sym none);
    })

-- after a request whose connection stays open, nothing is begun
pub stays_open : (close waits : Bool) (o : Option Begun) (unread : List ℕ) → waits ≡ false → o ≡ None → ((close ≡ true) × (close ≡ true)) ⊎ ((close ≡ false) × StandsIn close waits o unread unread)
stays_open true waits o unread f e = inl (refl, refl)
stays_open false waits o unread f e =
    inr (refl, (refl, subst (λ (x : Option Begun). StandsBegun x unread unread) (sym e) refl, λ w. absurd (let differ = sym w ∙ f in cc)))

-- where nothing is unread, a head is waited for

pub empty_waits : (o : Option Begun) (unread text : List ℕ) → o ≡ None → unread ≡ [] → StandsBegun o unread text → HeadWaits text
empty_waits o unread text e none s = subst (λ (t : List ℕ). HeadWaits t) (sym (text_is o unread text e s ∙ none)) nothing_waits

pub empty_leaves : (o : Option Begun) (unread text : List ℕ) → o ≡ None → unread ≡ [] → StandsBegun o unread text → WaitsIn o text × Leaves text unread
empty_leaves o unread text e none s =
    let waits = empty_waits o unread text e none s in
    (subst (λ (x : Option Begun). WaitsIn x text) (sym e) waits, inl (waits.0, sym (text_is o unread text e s)))

-- what leaves less to read than was left at last leaves less than at first
pub falls_from : (r : Result (Option Incoming) Memory) (old mid new : ℕ) → mid ≤ old → IfOk r (λ i. Falls i mid new) → IfOk r (λ i. Falls i old new)
falls_from (Ok None) old mid new le x = omega (arith, le, x)
falls_from (Ok (Some i)) old mid new le x = omega (arith, le, x)
falls_from (Err m) old mid new le x = x

-- the body of the request begun

none_whole : (c : Content) (left : Left) (wants : Bool) (unread text : List ℕ) → GoesOn c left wants unread text → ((h : RequestHead) (behind : List ℕ) → BeginsWith text h behind → NoBody (framing h) behind) → HasNone text
none_whole c left wants unread text g none (asked r) rest x = (none x.head x.behind x.begins).takes r.body rest x.body
none_whole c left wants unread text g none (bad k) rest (inl x, e) = never_and_begins text g.head g.behind x.0 g.begins
none_whole c left wants unread text g none (bad k) rest (inr x, e) = (none x.head x.behind x.begins).fails k x.body

waits_by : (c : Content) (left : Left) (wants : Bool) (unread text : List ℕ) (g : GoesOn c left wants unread text) → NoBody (framing g.head) g.behind ⊎ ((framing g.head ≡ Chunked) × OpenTrailers g.behind) → HasNone text ⊎ Waits text
waits_by c left wants unread text g (inl none) =
    inl (none_whole c left wants unread text g (λ h behind begins. same_head (λ k t. NoBody (framing k) t) text h g.head behind g.behind begins g.begins none))
waits_by c left wants unread text g (inr open_) = inr (inr (record { head = g.head; behind = g.behind; begins = g.begins; framed = open_.0; waits = open_.1 }))

moved_on : (c : Content) (left now : Left) (wants : Bool) (body unread rest text : List ℕ) (g : GoesOn c left wants unread text) → SoFar (framing g.head) now body rest g.behind → GoesOn (record c { body = body }) now wants rest text
moved_on c left now wants body unread rest text g s = record {
  head = g.head;
  behind = g.behind;
  begins = g.begins;
  body_is = s;
  content_is = ap (λ (d : Content). record d { body = body }) g.content_is;
  wants_is = g.wants_is;
}

pub fills : (r : Result Fill Memory) (c : Content) (left now : Left) (wants : Bool) (body unread rest text : List ℕ) → GoesOn c left wants unread text
    → IfOk r (λ f. (g : Framing) (t : List ℕ) → SoFar g left c.body unread t → Comes g f now body rest t)
    → OnErr r ((g : Framing) (t : List ℕ) → SoFar g left c.body unread t → SoFar g now body rest t)
    → FillsBegun r (record c { body = body }) now wants rest text
unfolding moved_on
fills (Ok fill.Whole) c left now wants body unread rest text g ok err =
    record { head = g.head; behind = g.behind; begins = g.begins; body_is = ok (framing g.head) g.behind g.body_is; content_is = ap (λ (d : Content). record d { body = body }) g.content_is }
fills (Ok fill.Wait) c left now wants body unread rest text g ok err =
    let s = ok (framing g.head) g.behind g.body_is in
    let m = moved_on c left now wants body unread rest text g s.0 in
    (m, waits_by (record c { body = body }) now wants rest text m s.1, inr (record { head = g.head; behind = g.behind; begins = g.begins; left = s.2 }))
fills (Ok (fill.Bad k)) c left now wants body unread rest text g ok err =
    inr (record { head = g.head; behind = g.behind; begins = g.begins; body = ok (framing g.head) g.behind g.body_is })
fills (Err m) c left now wants body unread rest text g ok err = moved_on c left now wants body unread rest text g (err (framing g.head) g.behind g.body_is)

reads_still : (waits : Bool) (b : Begun) (unread text : List ℕ) → waits ≡ false → waits ≡ true → WaitsIn (Some b) text × Leaves text unread
reads_still waits b unread text f e = absurd (let differ = sym e ∙ f in cc)

pub in_edge : (r : Result Fill Memory) (ended waits : Bool) (b : Begun) (unread text : List ℕ) → ended ≡ false → waits ≡ false → FillsBegun r (content b.request) b.left b.wants unread text → FillsIn r ended waits (Some b) unread text
unfolding reads_still
in_edge (Ok fill.Whole) ended waits b unread text e f x = (refl, x)
in_edge (Ok fill.Wait) ended waits b unread text e f x = ((e, x.0, reads_still waits b unread text f), x.1, x.2)
in_edge (Ok (fill.Bad k)) ended waits b unread text e f x = x
in_edge (Err m) ended waits b unread text e f x = (e, x, reads_still waits b unread text f)

-- where the parser waits, a refusal can only be that of a 65th field or of a target

head_waits : (text : List ℕ) (i : Item) (rest : List ℕ) → HeadWaits text → First text i rest → RequestOverflows 64 text
head_waits text (asked r) rest w x = absurd (w.0 x.head x.behind x.begins.reads)
head_waits text (bad k) rest w (inl (inl many, e), f) = many
head_waits text (bad k) rest w (inl (inr long, e), f) = absurd (omega (arith, long.0, w.2))
head_waits text (bad k) rest w (inr x, f) = absurd (w.0 x.head x.behind x.begins.reads)

-- nothing takes a body whose trailers aren't whole
no_take_open : (a : ℕ) (m unread : List ℕ) (l : ChunkLine) (es : List (List ℕ)) (r : List ℕ) → BeginsLine m l unread → chunk_size l ≡ 0 → HasNoSection unread → TakesChunks a m es r → ⊥
no_take_open a m unread l [] r at size none x =
    let t = same_line (λ k t. BeginsTrailers t r) m l x.line unread x.behind at x.begins x.trailers in
    none t.fields t.last r t.reads
no_take_open a m unread l (e ∷ es) r at size none x =
    let some = same_line (λ k t. 0 < chunk_size k) m l x.1.line unread x.1.behind at x.1.begins x.1.some in
    absurd (omega (arith, some, size))

only_many : (unread : List ℕ) → length unread < 8192 → NeverTrailers unread → SectionOverflows 64 unread
only_many unread short (inl many) = many
only_many unread short (inr long) = absurd (omega (arith, long.0, short))

behind_many : (a size : ℕ) (unread : List ℕ) (k : BadKind) → size ≡ 0 → a ≤ 65536 → length unread < 8192 → RefusedBehind a size unread k → SectionOverflows 64 unread
behind_many a size unread k none fits short (inl x) = absurd (omega (arith, x.0, none, fits))
behind_many a size unread k none fits short (inr (inl x)) = absurd (omega (arith, x.0, none))
behind_many a size unread k none fits short (inr (inr x)) = only_many unread short x.2

fails_many : (a : ℕ) (m unread : List ℕ) (l : ChunkLine) (es : List (List ℕ)) (k : BadKind) → BeginsLine m l unread → chunk_size l ≡ 0 → a ≤ 65536 → length unread < 8192 → FailsChunks a m es k → SectionOverflows 64 unread
fails_many a m unread l [] k at size fits short (inl x) = absurd (line_never m l unread x.0 at)
fails_many a m unread l [] k at size fits short (inr x) =
    behind_many a (chunk_size l) unread k size fits short
    (same_line (λ g t. RefusedBehind a (chunk_size g) t k) m l x.line unread x.behind at x.begins x.refused)
fails_many a m unread l (e ∷ es) k at size fits short x =
    let some = same_line (λ g t. 0 < chunk_size g) m l x.1.line unread x.1.behind at x.1.begins x.1.some in
    absurd (omega (arith, some, size))

takes_open : (text body rest : List ℕ) → OpenTrailers text → TakesBody Chunked text body rest → ⊥
takes_open text body rest o x =
    let w = o.at in
    let y = splits 0 text w.chunks x.0 w.middle w.after rest w.read x.1 in
    no_take_open w.after w.middle o.unread w.line y.0 rest w.begins w.size_is o.none y.1

fails_open : (text : List ℕ) (k : BadKind) (o : OpenTrailers text) → NeverTakes Chunked text k → SectionOverflows 64 o.unread
fails_open text k o x =
    let w = o.at in
    let y = splits_fail 0 text w.chunks x.0 w.middle w.after k w.read x.1 in
    let fits : w.after ≤ 65536 = omega (arith, w.fits) in
    fails_many w.after w.middle o.unread w.line y.0 k w.begins w.size_is fits o.short y.1

trailers_wait : (text : List ℕ) (i : Item) (rest : List ℕ) (w : TrailersWait text) → First text i rest → SectionOverflows 64 w.waits.unread
trailers_wait text (asked r) rest w x =
    let b = same_head (λ h t. TakesBody (framing h) t r.body rest) text w.head x.head w.behind x.behind w.begins x.begins x.body in
    absurd (takes_open w.behind r.body rest w.waits (subst (λ (f : Framing). TakesBody f w.behind r.body rest) w.framed b))
trailers_wait text (bad k) rest w (inl x, e) = absurd (never_and_begins text w.head w.behind x.0 w.begins)
trailers_wait text (bad k) rest w (inr x, e) =
    let b = same_head (λ h t. NeverTakes (framing h) t k) text w.head x.head w.behind x.behind w.begins x.begins x.body in
    fails_open w.behind k w.waits (subst (λ (f : Framing). NeverTakes f w.behind k) w.framed b)

pub waits_only : (text : List ℕ) (i : Item) (rest : List ℕ) → Waits text → First text i rest → HasTooMany text
waits_only text i rest (inl w) x = inl (head_waits text i rest w x)
waits_only text i rest (inr w) x = inr (w, trailers_wait text i rest w x)

-- who asks for 100 Continue is known of the request begun
pub asking : (c : Content) (left : Left) (wants : Bool) (unread text : List ℕ) → GoesOn c left wants unread text → Expects text → wants ≡ true
asking c left wants unread text g x = g.wants_is ∙ same_head (λ h t. expects h ≡ true) text g.head x.head g.behind x.behind g.begins x.begins x.asks

-- where nothing can be read

pub waits-so : (o : Option Begun) (text : List ℕ) → WaitsIn o text → HasNone text ⊎ Waits text
waits-so None text w = inr (inl w)
waits-so (Some b) text w = w

pub waits-begun : (o : Option Begun) (text : List ℕ) → IsSome o → HasNone text ⊎ Waits text → WaitsIn o text
waits-begun None text some w = absurd cc
waits-begun (Some b) text some w = w

-- the request begun asks for it
pub expected : (c : Content) (left : Left) (wants : Bool) (unread text : List ℕ) → GoesOn c left wants unread text → wants ≡ true → Expects text
expected c left wants unread text g so = record { head = g.head; behind = g.behind; begins = g.begins; asks = sym g.wants_is ∙ so }

-- who isn't told to go on though it asks was told before
pub told-before : (wants told : Bool) → (wants && not told) ≡ false → wants ≡ true → told ≡ true
told-before wants true either so = refl
told-before true false either so = absurd cc
told-before false false either so = absurd cc
