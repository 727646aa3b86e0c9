-- What an edge gives, however its text is cut.
use Rattle.std.proofs.Common.{◌≡◌, ◌⊎◌, inl, inr, ℕ, List, [], ◌∷◌, ◌++◌, refl, sym, ap, subst, ◌∙◌, true, false, append_assoc, Option, Some, None, Result, Ok, Err}
use Rattle.std.proofs.lemmas.List.{append-nil}
use Rattle.http_edge.specs.declared.memory.Memory.{Memory}
use Rattle.http_edge.specs.declared.request.Incoming.{Incoming}
use Rattle.http_edge.specs.declared.edge.Edge.{Edge}
use Rattle.http_edge.specs.Reading.{Item, First, closes, HasNone, Reads}
use Rattle.http_edge.specs.Edges.{item, Stands, Steps, Waits}
use Rattle.http_edge.specs.Cuts.{Act, fed, gave, Run, text_of, given, items_of, HoweverCut, ReadsAll, NoneHeldBack}
use Rattle.http_edge.proofs.Readings.{first_one, first_on}

-- an edge that has ended gives nothing more
ended_gives : (e : Edge) (acts : List Act) → e.ended ≡ true → Run e acts → items_of acts ≡ []
ended_gives e [] ended r = refl
ended_gives e (fed bytes new ∷ acts) ended r = ended_gives new acts (r.0.1 ∙ ended) r.1
ended_gives e (gave result new ∷ acts) ended r =
    let g = r.0.1 ended in
    ap (λ (x : Result (Option Incoming) Memory). given x (items_of acts)) g.0 ∙ ended_gives new acts g.1 r.1

abbrev Prefix : List Item → List Item → Type 0
Prefix front items = (others : List Item) × (items ≡ front ++ others)

which : (i j : Item) (a b : List ℕ) (js : List Item) (rest : List ℕ) → i ≡ j → a ≡ b → (((closes j ≡ true) × (js ≡ []) × (rest ≡ b)) ⊎ ((closes j ≡ false) × Reads b js rest))
    → ((closes i ≡ true) × (js ≡ [])) ⊎ ((closes i ≡ false) × Reads a js rest)
which i j a b js rest e f (inl x) = inl (ap closes e ∙ x.0, x.1)
which i j a b js rest e f (inr x) = inr (ap closes e ∙ x.0, subst (λ (t : List ℕ). Reads t js rest) (sym f) x.1)

-- the first item of a text, and what stands after it
tail_of : (text : List ℕ) (i : Item) (behind : List ℕ) (items : List Item) (rest : List ℕ) → First text i behind → Reads text items rest
    → (others : List Item) × (items ≡ i ∷ others) × (((closes i ≡ true) × (others ≡ [])) ⊎ ((closes i ≡ false) × Reads behind others rest))
tail_of text i behind [] rest x r = absurd (r.1 i behind x)
tail_of text i behind (j ∷ js) rest x r =
    let s = first_one text i j behind r.0 x r.1 in
    (js, ap (λ (k : Item). k ∷ js) (sym s.0), which i j behind r.0 js rest s.0 s.1 r.2)

behind_item : (i : Item) (acts : List Act) (new : Edge) (after more : List ℕ) (others : List Item) (rest : List ℕ)
    → ((closes i ≡ true) × (new.ended ≡ true)) ⊎ ((closes i ≡ false) × Stands new after)
    → ((closes i ≡ true) × (others ≡ [])) ⊎ ((closes i ≡ false) × Reads (after ++ more) others rest)
    → Run new acts
    → (Stands new after → Reads (after ++ more) others rest → Prefix (items_of acts) others)
    → Prefix (items_of acts) others
behind_item i acts new after more others rest (inl x) y r go =
    let none = ended_gives new acts x.1 r in
    (others, ap (λ (l : List Item). l ++ others) (sym none))
behind_item i acts new after more others rest (inr x) (inl y) r go = absurd (let e = sym x.0 ∙ y.0 in cc)
behind_item i acts new after more others rest (inr x) (inr y) r go = go x.1 y.1

pub however_cut : HoweverCut
however_cut e [] text items rest s r x = (items, refl)
however_cut e (fed bytes new ∷ acts) text items rest s r x =
    however_cut new acts (text ++ bytes) items rest (r.0.0 text s) r.1
    (subst (λ (t : List ℕ). Reads t items rest) (sym (append_assoc text bytes (text_of acts))) x)
however_cut e (gave (Err m) new ∷ acts) text items rest s r x = however_cut new acts text items rest (r.0.0 text s) r.1 x
however_cut e (gave (Ok None) new ∷ acts) text items rest s r x = however_cut new acts text items rest (r.0.0 text s).0 r.1 x
however_cut e (gave (Ok (Some i)) new ∷ acts) text items rest s r x =
    let g = r.0.0 text s in
    let t = tail_of (text ++ text_of acts) (item i) (g.0 ++ text_of acts) items rest (first_on text (item i) g.0 (text_of acts) g.1) x in
    let p = behind_item (item i) acts new g.0 (text_of acts) t.0 rest g.2 t.2 r.1 (λ u v. however_cut new acts g.0 t.0 rest u r.1 v) in
    (p.0, t.1 ∙ ap (λ (l : List Item). item i ∷ l) p.1)

-- nothing is held back

none_left : (text : List ℕ) → HasNone text ⊎ Waits text → ReadsAll (text ++ []) []
none_left text (inl none) = inl (text, (sym (append-nil text), subst HasNone (sym (append-nil text)) none))
none_left text (inr waits) = inr (text, sym (append-nil text), waits)

reads_behind : (text : List ℕ) (i : Item) (behind : List ℕ) (items : List Item) → First text i behind → closes i ≡ false → ReadsAll behind items → ReadsAll text (i ∷ items)
reads_behind text i behind items x stays (inl r) = inl (r.0, (behind, x, inr (stays, r.1)))
reads_behind text i behind items x stays (inr r) = inr (r.0, (behind, x, stays, r.1), r.2)

all_behind : (i : Item) (acts : List Act) (new : Edge) (text behind : List ℕ) → First text i behind
    → ((closes i ≡ true) × (new.ended ≡ true)) ⊎ ((closes i ≡ false) × Stands new behind)
    → Run new acts → (Stands new behind → ReadsAll (behind ++ text_of acts) (items_of acts))
    → ReadsAll (text ++ text_of acts) (i ∷ items_of acts)
all_behind i acts new text behind x (inl closed) r go =
    let none = ended_gives new acts closed.1 r in
    inl (behind ++ text_of acts, (behind ++ text_of acts, first_on text i behind (text_of acts) x, inl (closed.0, none, refl)))
all_behind i acts new text behind x (inr stays) r go =
    reads_behind (text ++ text_of acts) i (behind ++ text_of acts) (items_of acts) (first_on text i behind (text_of acts) x) stays.0 (go stays.1)

last_of : (result : Result (Option Incoming) Memory) (e new : Edge) (text : List ℕ) → Steps result new text → result ≡ Ok None → ReadsAll (text ++ []) (given result [])
last_of (Ok None) e new text s is = none_left text s.1
last_of (Ok (Some i)) e new text s is = absurd cc
last_of (Err m) e new text s is = absurd cc

step_of : (result : Result (Option Incoming) Memory) (e new : Edge) (acts : List Act) (text : List ℕ) → Steps result new text → Run new acts
    → ((t : List ℕ) → Stands new t → ReadsAll (t ++ text_of acts) (items_of acts)) → ReadsAll (text ++ text_of acts) (given result (items_of acts))
step_of (Ok None) e new acts text s r go = go text s.0
step_of (Ok (Some i)) e new acts text s r go = all_behind (item i) acts new text s.0 s.1 s.2 r (λ t. go s.0 t)
step_of (Err m) e new acts text s r go = go text s

pub none_held_back : NoneHeldBack
none_held_back e [] text s r last = absurd last
none_held_back e (fed bytes new ∷ acts) text s r last =
    subst (λ (t : List ℕ). ReadsAll t (items_of acts)) (append_assoc text bytes (text_of acts)) (none_held_back new acts (text ++ bytes) (r.0.0 text s) r.1 last)
none_held_back e (gave result new ∷ []) text s r last = last_of result e new text (r.0.0 text s) last
none_held_back e (gave result new ∷ act ∷ acts) text s r last =
    step_of result e new (act ∷ acts) text (r.0.0 text s) r.1 (λ t u. none_held_back new (act ∷ acts) t u r.1 last)
