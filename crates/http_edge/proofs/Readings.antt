-- Two readings of one text are one, and reading goes on.
use Rattle.std.proofs.Common.{◌≡◌, ◌⊎◌, inl, inr, ℕ, ◌+◌, ◌-◌, List, [], ◌∷◌, ◌++◌, length, take, refl, sym, ap, subst, ◌∙◌, arith, true, false, append_assoc}
use Rattle.std.specs.List.{concat}
use Rattle.std.proofs.lemmas.List.{take-append-le, length-append}
use Rattle.httparse.specs.Grammar.{RequestHead, print_request, HasNoRequest}
use Rattle.httparse.proofs.GrammarLemmas.{request_unique, ReadsRequest-append}
use Rattle.http_edge.proofs.Fronts.{take_behind, same_length}
use Rattle.http_edge.proofs.Chunking.{chunks_one, chunks_on, fails_on, fails_one, fails_and_takes}
use Rattle.http_edge.specs.declared.request.BadKind.{BadKind}
use Rattle.http_edge.specs.declared.framing.Framing.{Framing}
use Rattle.http_edge.specs.declared.framing.Framing.TheVariants.{Sized, Chunked, Refused}
use Rattle.http_edge.specs.Framing.{framing}
use Rattle.http_edge.specs.Requests.{Content, content_of}
use Rattle.http_edge.specs.Reading.{BeginsWith, NeverBegins, TakesBody, NeverTakes, Spells, IsRefused, Item, asked, bad, First, closes, Reads, AllOpen}

-- heads

pub begins_one : (text : List ℕ) (h k : RequestHead) (r q : List ℕ) → BeginsWith text h r → BeginsWith text k q → (h ≡ k) × (r ≡ q)
begins_one text h k r q x y = request_unique text h k r q x.reads y.reads

pub begins_on : (text : List ℕ) (h : RequestHead) (rest more : List ℕ) → BeginsWith text h rest → BeginsWith (text ++ more) h (rest ++ more)
begins_on text h rest more x = record { reads = ReadsRequest-append text h rest more x.reads; short = x.short; few = x.few }

pub never_and_begins : (text : List ℕ) (h : RequestHead) (rest : List ℕ) → NeverBegins text → BeginsWith text h rest → ⊥
never_and_begins text h rest (inl many) x = absurd (omega (arith, many [] h (rest ++ []) (ReadsRequest-append text h rest [] x.reads), x.few))
never_and_begins text h rest (inr long) x =
    long.1 h (take (8192 - length (print_request h)) rest)
    (x.reads.0, ap (λ (t : List ℕ). take 8192 t) x.reads.1 ∙ take_behind 8192 (print_request h) rest x.short)

pub never_on : (text more : List ℕ) → NeverBegins text → NeverBegins (text ++ more)
never_on text more (inl many) =
    inl (λ m h rest x. many (more ++ m) h rest (x.0, sym (append_assoc text more m) ∙ x.1))
never_on text more (inr long) =
    let whole : length (text ++ more) ≡ length text + length more = length-append text more in
    inr (omega (arith, long.0, whole), subst HasNoRequest (sym (take-append-le 8192 text more long.0)) long.1)

-- bodies

pub takes_one : (f : Framing) (text a b r q : List ℕ) → TakesBody f text a r → TakesBody f text b q → (a ≡ b) × (r ≡ q)
takes_one (Sized n) text a b r q x y = same_length a b r q (x.0 ∙ sym y.0) (sym x.1 ∙ y.1)
takes_one Chunked text a b r q x y =
    let s = chunks_one 0 text x.0 y.0 r q x.1 y.1 in
    (x.2 ∙ ap concat s.0 ∙ sym y.2, s.1)
takes_one (Refused k) text a b r q x y = absurd x

pub takes_on : (f : Framing) (text body rest more : List ℕ) → TakesBody f text body rest → TakesBody f (text ++ more) body (rest ++ more)
takes_on (Sized n) text body rest more x = (x.0, ap (λ (t : List ℕ). t ++ more) x.1 ∙ append_assoc body rest more)
takes_on Chunked text body rest more x = (x.0, chunks_on 0 text x.0 rest more x.1, x.2)
takes_on (Refused k) text body rest more x = absurd x

pub never_takes_one : (f : Framing) (text : List ℕ) (j k : BadKind) → NeverTakes f text j → NeverTakes f text k → j ≡ k
never_takes_one (Sized n) text j k x y = absurd x
never_takes_one Chunked text j k x y = fails_one 0 text x.0 y.0 j k x.1 y.1
never_takes_one (Refused i) text j k x y = sym x ∙ y

pub never_takes_on : (f : Framing) (text more : List ℕ) (k : BadKind) → NeverTakes f text k → NeverTakes f (text ++ more) k
never_takes_on (Sized n) text more k x = absurd x
never_takes_on Chunked text more k x = (x.0, fails_on 0 text x.0 k more x.1)
never_takes_on (Refused i) text more k x = x

pub never_and_takes : (f : Framing) (text body rest : List ℕ) (k : BadKind) → NeverTakes f text k → TakesBody f text body rest → ⊥
never_and_takes (Sized n) text body rest k x y = x
never_and_takes Chunked text body rest k x y = fails_and_takes 0 text x.0 y.0 k rest (omega arith) x.1 y.1
never_and_takes (Refused i) text body rest k x y = y

-- requests and refusals

-- the body after the same head
pub same_head : (P : RequestHead → List ℕ → Type 0) (text : List ℕ) (h k : RequestHead) (r q : List ℕ) → BeginsWith text h r → BeginsWith text k q → P k q → P h r
same_head P text h k r q x y p =
    let s = begins_one text h k r q x y in
    subst (λ (t : List ℕ). P h t) (sym s.1) (subst (λ (g : RequestHead). P g q) (sym s.0) p)

pub spells_one : (text : List ℕ) (r q : Content) (a b : List ℕ) → Spells text r a → Spells text q b → (r ≡ q) × (a ≡ b)
spells_one text r q a b x y =
    let y' = same_head (λ h t. TakesBody (framing h) t q.body b × (q ≡ content_of h q.body)) text x.head y.head x.behind y.behind x.begins y.begins (y.body, y.content) in
    let s = takes_one (framing x.head) x.behind r.body q.body a b x.body y'.0 in
    (x.content ∙ ap (content_of x.head) s.0 ∙ sym y'.1, s.1)

pub spells_on : (text : List ℕ) (r : Content) (rest more : List ℕ) → Spells text r rest → Spells (text ++ more) r (rest ++ more)
spells_on text r rest more x =
    record { head = x.head; behind = x.behind ++ more; begins = begins_on text x.head x.behind more x.begins; body = takes_on (framing x.head) x.behind r.body rest more x.body; content = x.content }

pub refused_and_spells : (text : List ℕ) (k : BadKind) (r : Content) (rest : List ℕ) → IsRefused text k → Spells text r rest → ⊥
refused_and_spells text k r rest (inl never) x = never_and_begins text x.head x.behind never.0 x.begins
refused_and_spells text k r rest (inr b) x =
    never_and_takes (framing x.head) x.behind r.body rest k
    (same_head (λ h t. NeverTakes (framing h) t k) text x.head b.head x.behind b.behind x.begins b.begins b.body) x.body

pub refused_one : (text : List ℕ) (j k : BadKind) → IsRefused text j → IsRefused text k → j ≡ k
refused_one text j k (inl x) (inl y) = x.1 ∙ sym y.1
refused_one text j k (inl x) (inr y) = absurd (never_and_begins text y.head y.behind x.0 y.begins)
refused_one text j k (inr x) (inl y) = absurd (never_and_begins text x.head x.behind y.0 x.begins)
refused_one text j k (inr x) (inr y) =
    never_takes_one (framing x.head) x.behind j k x.body
    (same_head (λ h t. NeverTakes (framing h) t k) text x.head y.head x.behind y.behind x.begins y.begins y.body)

pub refused_on : (text more : List ℕ) (k : BadKind) → IsRefused text k → IsRefused (text ++ more) k
refused_on text more k (inl x) = inl (never_on text more x.0, x.1)
refused_on text more k (inr x) =
    inr (record { head = x.head; behind = x.behind ++ more; begins = begins_on text x.head x.behind more x.begins; body = never_takes_on (framing x.head) x.behind more k x.body })

-- items

pub first_one : (text : List ℕ) (i j : Item) (a b : List ℕ) → First text i a → First text j b → (i ≡ j) × (a ≡ b)
first_one text (asked r) (asked q) a b x y = let s = spells_one text r q a b x y in (ap asked s.0, s.1)
first_one text (asked r) (bad k) a b x y = absurd (refused_and_spells text k r a y.0 x)
first_one text (bad k) (asked r) a b x y = absurd (refused_and_spells text k r b x.0 y)
first_one text (bad j) (bad k) a b x y = (ap bad (refused_one text j k x.0 y.0), x.1 ∙ sym y.1)

pub first_on : (text : List ℕ) (i : Item) (rest more : List ℕ) → First text i rest → First (text ++ more) i (rest ++ more)
first_on text (asked r) rest more x = spells_on text r rest more x
first_on text (bad k) rest more x = (refused_on text more k x.0, ap (λ (t : List ℕ). t ++ more) x.1)

-- what stands after an item
abbrev Tail : Item → List ℕ → List Item → List ℕ → Type 0
Tail i behind items rest = ((closes i ≡ true) × (items ≡ []) × (rest ≡ behind)) ⊎ ((closes i ≡ false) × Reads behind items rest)

tails_one : (i : Item) (b : List ℕ) (is js : List Item) (r q : List ℕ) → (Reads b is r → Reads b js q → (is ≡ js) × (r ≡ q)) → Tail i b is r → Tail i b js q → (is ≡ js) × (r ≡ q)
tails_one i b is js r q others (inl x) (inl y) = (x.1 ∙ sym y.1, x.2 ∙ sym y.2)
tails_one i b is js r q others (inl x) (inr y) = absurd (let e = sym x.0 ∙ y.0 in cc)
tails_one i b is js r q others (inr x) (inl y) = absurd (let e = sym x.0 ∙ y.0 in cc)
tails_one i b is js r q others (inr x) (inr y) = others x.1 y.1

pub reads_one : (text : List ℕ) (is js : List Item) (r q : List ℕ) → Reads text is r → Reads text js q → (is ≡ js) × (r ≡ q)
reads_one text [] [] r q x y = (refl, x.0 ∙ sym y.0)
reads_one text [] (j ∷ js) r q x y = absurd (x.1 j y.0 y.1)
reads_one text (i ∷ is) [] r q x y = absurd (y.1 i x.0 x.1)
reads_one text (i ∷ is) (j ∷ js) r q x y =
    let s = first_one text i j x.0 y.0 x.1 y.1 in
    let t : Tail i x.0 js q = subst (λ (b : List ℕ). Tail i b js q) (sym s.1) (subst (λ (k : Item). Tail k y.0 js q) (sym s.0) y.2) in
    let u = tails_one i x.0 is js r q (λ v w. reads_one x.0 is js r q v w) x.2 t in
    (rw (s.0, u.0) refl, u.1)

tail_on : (i : Item) (b is_rest more : List ℕ) (is js : List Item) (q : List ℕ) → closes i ≡ false → (Reads b is is_rest → Reads (b ++ more) (is ++ js) q) → Tail i b is is_rest → Tail i (b ++ more) (is ++ js) q
tail_on i b r more is js q stays others (inl x) = absurd (let e = sym x.0 ∙ stays in cc)
tail_on i b r more is js q stays others (inr x) = inr (stays, others x.1)

pub reads_on : (text more : List ℕ) (is js : List Item) (r q : List ℕ) → AllOpen is → Reads text is r → Reads (r ++ more) js q → Reads (text ++ more) (is ++ js) q
reads_on text more [] js r q stays x y = subst (λ (t : List ℕ). Reads (t ++ more) js q) x.0 y
reads_on text more (i ∷ is) js r q stays x y = (
  x.0 ++ more,
  first_on text i x.0 more x.1,
  tail_on i x.0 r more is js q stays.0 (λ v. reads_on x.0 more is js r q stays.1 v y) x.2,
)
