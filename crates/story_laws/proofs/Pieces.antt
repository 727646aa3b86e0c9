-- Pieces of one state are that state.
use Rattle.std.proofs.Common.{◌≡◌, ℕ, zero, suc, ◌+◌, ◌-◌, ◌*◌, ◌/◌, ◌%◌, ◌^◌, ◌<◌, ◌≤◌, Bool, true, false, cond, eqb, leb, ltb, ◌&&◌, inl, inr, List, [], ◌∷◌, ◌++◌, append-nil, length, length-drop, take, drop, take-append-drop, drop-drop, Option, Some, None, option_map, refl, sym, ap, subst, ◌∙◌, arith}
use Rattle.std.specs.Prelude.{◌||◌, find, min, not, ⊤}
use Rattle.std.specs.List.{list_all, list_any}
use Rattle.std.specs.Int.{w64, to_be_bytes}
use Rattle.std.proofs.lemmas.Bool.{and_parts, false≢true, ltb-false, ltb-true}
use Rattle.std.proofs.lemmas.List.{take_all}
use Rattle.std.proofs.Math.Nat.{suc-mul}
use Rattle.coap_codec.specs.Spelling.{Content, Entry}
use Rattle.coap_codec.specs.Recognition.{is_defined, is_forwardable, may_pass, may_repeat, strays, value_of}
use Rattle.coap_codec.specs.Values.{uint, IsBlock}
use Rattle.coap_codec.specs.declared.block.Block.{Block}
use Rattle.blockwise.specs.Joins.{AreFollowing, IsFull, IsPiece, IsSized, payloads}
use Rattle.blockwise.specs.Reading.{block_by, block_in, goes_on, offset_in, size_of}
use Rattle.blockwise.specs.Downloads.{last_szx}
use Rattle.blockwise.specs.Uploads.{IsAligned}
use Rattle.blockwise.specs.declared.representation.Representation.{Representation}
use Rattle.blockwise.proofs.CallerLemmas.{one_block_more, whole_number}
use Rattle.history_laws.proofs.CallerLemmas.{none-some, some-is}
use Rattle.demo_origin.specs.Answers.{Describes, shown_part, with_observe}
use Rattle.demo_origin.specs.Blocks.{is_block, named_by, part_at, part_of}
use Rattle.demo_origin.specs.Made.{as_part}
use Rattle.demo_origin.specs.declared.blocks.Part.{Part}
use Rattle.demo_origin.specs.declared.blocks.Part.TheVariants.{Whole, Piece, Past}
use Rattle.demo_origin.specs.declared.state.Held.{Held}

-- ---- the last piece ends the state

abbrev pub EndsBy : ℕ → Option Block → Type 0
EndsBy len None = ⊤
EndsBy len (Some b) = b.more ≡ false → len ≤ b.num * size_of b.szx + size_of b.szx

made-by : (szx offset len : ℕ) (b : Block) → part_at szx offset len ≡ Piece b
    → b ≡ record { num = offset / size_of szx; more = ltb (offset + size_of szx) len; szx = szx }
made-by szx offset len b e = first ((eqb offset 0) && leb len (size_of szx)) e
  where
    piece : Block
    piece = record { num = offset / size_of szx; more = ltb (offset + size_of szx) len; szx = szx }

    piece-is : Piece piece ≡ Piece b → b ≡ piece
    piece-is f = cc

    second : (x : Bool) → cond x (Piece piece) Past ≡ Piece b → b ≡ piece
    second true f = piece-is f
    second false f = absurd cc

    first : (x : Bool) → cond x Whole (cond (ltb offset (min len 65536)) (Piece piece) Past) ≡ Piece b → b ≡ piece
    first true f = absurd cc
    first false f = second (ltb offset (min len 65536)) f

ends-at : (szx offset len : ℕ) (b : Block) → offset ≤ offset / size_of szx * size_of szx → part_at szx offset len ≡ Piece b → EndsBy len (Some b)
ends-at szx offset len b le e last =
    let is = made-by szx offset len b e in
    let none : ltb (offset + size_of szx) len ≡ false = ap (λ (b : Block). b.more) (sym is) ∙ last in
    let short = ltb-false (offset + size_of szx) len none in
    subst (λ (b : Block). len ≤ b.num * size_of b.szx + size_of b.szx) (sym is) (omega (arith, short, le))

aligned : (n a b : ℕ) → b ≤ a → IsAligned (n * size_of a) b
aligned zero a b le = record { num = 0; blocks = omega arith }
aligned (suc n) a b le =
    let next = one_block_more (n * size_of a) a b le (record { num = n; blocks = refl }) in
    subst (λ (t : ℕ). IsAligned t b) (sym (suc-mul n (size_of a))) next

named-small : (vs : List (List ℕ)) (c : Block) → named_by vs ≡ Some c → c.szx < 7
named-small [] c e = absurd (none-some c e)
named-small (v ∷ vs) c e = by (is_block v) refl e
  where
    by : (x : Bool) → is_block v ≡ x → cond x (Some (block_by v)) None ≡ Some c → c.szx < 7
    by false f g = absurd (none-some c g)
    by true f g =
        let both = and_parts (leb (length v) 3) (ltb (uint v % 8) 7) f in
        let small : uint v % 8 < 7 = ltb-true (uint v % 8) 7 both.1 in
        subst (λ (b : Block). b.szx < 7) (some-is (block_by v) c g) small

pub part-ends : (vs : List (List ℕ)) (own len : ℕ) (part : Option Block) → part_of (named_by vs) own len ≡ as_part part → EndsBy len part
part-ends vs own len None e = tt
part-ends vs own len (Some b) e = by (named_by vs) refl e
  where
    by : (named : Option Block) → named_by vs ≡ named → part_of named own len ≡ Piece b → EndsBy len (Some b)
    by None f g = ends-at own 0 len b (omega arith) g
    by (Some c) f g =
        let small = named-small vs c f in
        let szx : ℕ = min c.szx own in
        let offset : ℕ = c.num * size_of c.szx in
        let whole : offset / size_of szx * size_of szx ≡ offset =
        whole_number offset szx (omega (arith, small)) (aligned c.num c.szx szx (omega arith)) in
        ends-at szx offset len b (omega (arith, whole)) g

-- ---- what a response of the device says by its options

abbrev shown_by : List ℕ → Bool → List ℕ → List ℕ → List ℕ → List Entry → List Entry
shown_by version observed observe format max_age block =
    record { number = 4; value = version } ∷ with_observe observed observe (record { number = 12; value = format } ∷ record { number = 14; value = max_age } ∷ block)

-- An option that isn't defined may pass, where all options are forwarded.
strays-pass : (f : Entry → Bool) (front : List Entry) (o : Entry) (back : List Entry) (seen : List ℕ) → list_all f (strays seen (front ++ o ∷ back)) ≡ true
    → is_defined o ≡ false → f o ≡ true
strays-pass f [] o back seen e unknown = by (is_defined o) unknown e
  where
    by : (x : Bool) → x ≡ false → list_all f (cond (x && (may_repeat o || not (list_any (λ (n : ℕ). eqb n o.number) seen))) (strays (o.number ∷ seen) back) (o ∷ strays seen back)) ≡ true
        → f o ≡ true
    by true n g = absurd (false≢true (sym n))
    by false n g = (and_parts (f o) (list_all f (strays seen back)) g).0
strays-pass f (p ∷ front) o back seen e unknown =
    by (is_defined p && (may_repeat p || not (list_any (λ (n : ℕ). eqb n p.number) seen))) e
    (λ g. strays-pass f front o back (p.number ∷ seen) g unknown) (λ g. strays-pass f front o back seen g unknown)
  where
    by : (x : Bool) → list_all f (cond x (strays (p.number ∷ seen) (front ++ o ∷ back)) (p ∷ strays seen (front ++ o ∷ back))) ≡ true
        → (list_all f (strays (p.number ∷ seen) (front ++ o ∷ back)) ≡ true → f o ≡ true)
        → (list_all f (strays seen (front ++ o ∷ back)) ≡ true → f o ≡ true) → f o ≡ true
    by true g one other = one g
    by false g one other = other (and_parts (f p) (list_all f (strays seen (front ++ o ∷ back))) g).1

-- So the Block2 of what is told is defined.
block-defined : (version : List ℕ) (observed : Bool) (observe format max_age value : List ℕ)
    → is_forwardable (shown_by version observed observe format max_age (record { number = 23; value = value } ∷ [])) ≡ true
    → is_defined (record { number = 23; value = value }) ≡ true
block-defined version observed observe format max_age value e = by (is_defined o) refl
  where
    o : Entry
    o = record { number = 23; value = value }

    front : Bool → List Entry
    front true = record { number = 4; value = version } ∷ record { number = 6; value = observe } ∷ record { number = 12; value = format } ∷ record { number = 14; value = max_age } ∷ []
    front false = record { number = 4; value = version } ∷ record { number = 12; value = format } ∷ record { number = 14; value = max_age } ∷ []

    parts : (x : Bool) → shown_by version x observe format max_age (o ∷ []) ≡ front x ++ o ∷ []
    parts true = refl
    parts false = refl

    by : (x : Bool) → is_defined o ≡ x → x ≡ true
    by true f = refl
    by false f =
        absurd (false≢true (strays-pass (λ (o : Entry). may_pass true o.number) (front observed) o [] []
        (subst (λ (os : List Entry). is_forwardable os ≡ true) (parts observed) e) f))

block-again : (b : Block) (value : List ℕ) → IsBlock b (uint value) → block_by value ≡ b
block-again b value is = by b.more refl
  where
    parts : (x : Bool) → uint value ≡ 16 * b.num + cond x 8 0 + b.szx → block_by value ≡ record { num = b.num; more = x; szx = b.szx }
    parts true e =
        let small = is.szx in
        let num : uint value / 16 ≡ b.num = omega (arith, e, small) in
        let more : (uint value / 8) % 2 ≡ 1 = omega (arith, e, small) in
        let szx : uint value % 8 ≡ b.szx = omega (arith, e, small) in
        rw (num, more, szx) refl
    parts false e =
        let small = is.szx in
        let num : uint value / 16 ≡ b.num = omega (arith, e, small) in
        let more : (uint value / 8) % 2 ≡ 0 = omega (arith, e, small) in
        let szx : uint value % 8 ≡ b.szx = omega (arith, e, small) in
        rw (num, more, szx) refl

    by : (x : Bool) → b.more ≡ x → block_by value ≡ b
    by x e =
        parts x (is.parts ∙ ap (λ (m : Bool). 16 * b.num + cond m 8 0 + b.szx) e)
        ∙ ap (λ (m : Bool). record { num = b.num; more = m; szx = b.szx }) (sym e)

-- its Block2 and its ETag
pub block-named : (h : Held) (observed : Bool) (part : Option Block) (m : Content) → Describes h observed part m.options
    → is_forwardable m.options ≡ true → block_in 23 m ≡ part
block-named h observed None m d f =
    ap (λ (os : List Entry). option_map block_by (option_map (λ (o : Entry). o.value) (find (λ (o : Entry). (eqb o.number 23) && is_defined o) os))) all
    ∙ none observed
  where
    all : m.options ≡ shown_by (to_be_bytes w64 h.version) observed d.observe d.format d.max_age []
    all = d.options_are ∙ ap (shown_by (to_be_bytes w64 h.version) observed d.observe d.format d.max_age) d.block_is

    none : (x : Bool)
        → option_map block_by (option_map (λ (o : Entry). o.value) (find (λ (o : Entry). (eqb o.number 23) && is_defined o) (shown_by (to_be_bytes w64 h.version) x d.observe d.format d.max_age []))) ≡ None
    none true = refl
    none false = refl
block-named h observed (Some b) m d f =
    ap (λ (os : List Entry). option_map block_by (option_map (λ (o : Entry). o.value) (find (λ (o : Entry). (eqb o.number 23) && is_defined o) os))) all
    ∙ (some observed ∙ ap (λ (b : Block). Some b) (block-again b d.block_is.0 d.block_is.2))
  where
    last : List Entry
    last = record { number = 23; value = d.block_is.0 } ∷ []

    all : m.options ≡ shown_by (to_be_bytes w64 h.version) observed d.observe d.format d.max_age last
    all = d.options_are ∙ ap (shown_by (to_be_bytes w64 h.version) observed d.observe d.format d.max_age) d.block_is.1

    defined : is_defined (record { number = 23; value = d.block_is.0 }) ≡ true
    defined =
        block-defined (to_be_bytes w64 h.version) observed d.observe d.format d.max_age d.block_is.0
        (subst (λ (os : List Entry). is_forwardable os ≡ true) all f)

    some : (x : Bool)
        → option_map block_by (option_map (λ (o : Entry). o.value) (find (λ (o : Entry). (eqb o.number 23) && is_defined o) (shown_by (to_be_bytes w64 h.version) x d.observe d.format d.max_age last)))
        ≡ Some (block_by d.block_is.0)
    some true = rw defined refl
    some false = rw defined refl

pub tag-named : (h : Held) (observed : Bool) (part : Option Block) (m : Content) → Describes h observed part m.options
    → value_of 4 m ≡ Some (to_be_bytes w64 h.version)
tag-named h observed part m d =
    ap (λ (os : List Entry). option_map (λ (o : Entry). o.value) (find (λ (o : Entry). (eqb o.number 4) && is_defined o) os)) d.options_are
    ∙ refl

-- ---- they join to it

-- the message shows a piece of this state, or all of it
pub record IsPartOf (state : List ℕ) (m : Content) : Type 0 where
  pub part : Option Block
  pub named : block_in 23 m ≡ part
  pub shown : m.payload ≡ shown_part part state
  pub ends : EndsBy (length state) part

abbrev pub ArePartsOf : List ℕ → List Content → Type 0
ArePartsOf state [] = ⊤
ArePartsOf state (m ∷ ms) = IsPartOf state m × ArePartsOf state ms

last-part : (state : List ℕ) (of : Representation) (at szx : ℕ) (m : Content) (part : Option Block) → IsPiece of at szx m → block_in 23 m ≡ part
    → m.payload ≡ shown_part part state → EndsBy (length state) part → goes_on part ≡ false → m.payload ≡ drop at state
last-part state of at szx m None piece named shown ends last =
    let here : 0 ≡ at = ap offset_in (sym named) ∙ piece.offset in
    shown ∙ ap (λ (n : ℕ). drop n state) here
last-part state of at szx m (Some b) piece named shown ends last =
    let here : b.num * size_of b.szx ≡ at = ap offset_in (sym named) ∙ piece.offset in
    let short = ends last in
    let len = length-drop at state in
    shown
    ∙ (ap (λ (n : ℕ). take (size_of b.szx) (drop n state)) here ∙ take_all (size_of b.szx) (drop at state) (omega (arith, short, len, here)))

first-part : (state : List ℕ) (of : Representation) (at szx : ℕ) (m : Content) (part : Option Block) (rest : List ℕ) → IsPiece of at szx m
    → block_in 23 m ≡ part → m.payload ≡ shown_part part state → goes_on part ≡ true → rest ≡ drop (at + length m.payload) state
    → m.payload ++ rest ≡ drop at state
first-part state of at szx m None rest piece named shown more e = absurd (false≢true more)
first-part state of at szx m (Some b) rest piece named shown more e =
    let here : b.num * size_of b.szx ≡ at = ap offset_in (sym named) ∙ piece.offset in
    let size : length m.payload ≡ size_of b.szx =
    subst (λ (x : Bool). IsFull x (length m.payload) (size_of b.szx)) more
    (subst (λ (o : Option Block). IsSized o (length m.payload)) named piece.sized) in
    let payload : m.payload ≡ take (size_of b.szx) (drop at state) = shown ∙ ap (λ (n : ℕ). take (size_of b.szx) (drop n state)) here in
    let others : rest ≡ drop (size_of b.szx) (drop at state) =
    e ∙ (ap (λ (n : ℕ). drop (at + n) state) size ∙ sym (drop-drop (size_of b.szx) at state)) in
    ap (λ (xs : List ℕ). xs ++ rest) payload
    ∙ (ap (λ (ys : List ℕ). take (size_of b.szx) (drop at state) ++ ys) others ∙ take-append-drop (size_of b.szx) (drop at state))

pub parts-join : (state : List ℕ) (of : Representation) (at szx : ℕ) (m : Content) (ms : List Content) → AreFollowing of at szx (m ∷ ms)
    → ArePartsOf state (m ∷ ms) → payloads (m ∷ ms) ≡ drop at state
parts-join state of at szx m [] f p =
    append-nil m.payload
    ∙ last-part state of at szx m p.0.part f.0 p.0.named p.0.shown p.0.ends (ap goes_on (sym p.0.named) ∙ f.1)
parts-join state of at szx m (n ∷ ms) f p =
    first-part state of at szx m p.0.part (payloads (n ∷ ms)) f.0 p.0.named p.0.shown (ap goes_on (sym p.0.named) ∙ f.1)
    (parts-join state of (at + length m.payload) (last_szx (block_in 23 m) szx) n ms f.2 p.1)
