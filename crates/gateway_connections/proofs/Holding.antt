-- The text of a connection, as its bytes go into the edge and requests come out.
use Rattle.std.proofs.Common.{◌≡◌, ℕ, zero, suc, ◌+◌, ◌-◌, ◌≤◌, ◌<◌, ◌⊎◌, inl, inr, true, false, List, [], ◌∷◌, ◌++◌, length, take, drop, sym, ap, subst, ◌∙◌, arith}
use Rattle.std.proofs.Math.ListN.{drop_of_length-le}
use Rattle.std.proofs.Math.Seq.{take-add, take-append_seam, drop-append_seam}
use Rattle.std.proofs.lemmas.List.{append-nil, take_rest, take-append-drop, take-append-le, drop-append-le, length-take-le, length-drop, length-append, append_assoc}
use Rattle.http_edge.specs.declared.edge.Edge.{Edge}
use Rattle.http_edge.specs.Reading.{Item, First, HasNone, closes}
use Rattle.http_edge.specs.Edges.{Stands, Waits, Expects, IsUnread, unread_len}
use Rattle.http_edge.proofs.Edging.{waits-so}
use Rattle.http_edge.proofs.Readings.{first_on, begins_on}
use Rattle.http_edge.proofs.Tails.{ends_shorter}
use Rattle.gateway_connections.specs.declared.reader.Reader.{Reader}
use Rattle.gateway_connections.specs.declared.inbox.Mark.{Mark}
use Rattle.gateway_connections.specs.Inlets.{left_by}
use Rattle.gateway_connections.specs.Inboxes.{at_mark}
use Rattle.gateway_connections.specs.Reads.{IsIdle}
use Rattle.gateway_connections.specs.Readers.{text_of, given_of, IsInStep, Rests}

drop-more : {X : Type 0} (m n : ℕ) (xs : List X) → drop n (drop m xs) ≡ drop (m + n) xs
drop-more zero n xs = ap (λ (k : ℕ). drop k xs) (omega arith)
drop-more (suc m) n [] = drop_of_length-le [] (omega arith) ∙ sym (drop_of_length-le [] (omega arith))
drop-more {X} (suc m) n (x ∷ xs) =
    let place : suc m + n ≡ suc (m + n) = omega arith in
    drop-more m n xs ∙ ap (λ (k : ℕ). drop k (x ∷ xs)) (sym place)

-- the bytes after those that the edge was given
behind : (b : List ℕ) (s t : ℕ) → s ≤ t → drop (t - s) (drop s b) ≡ drop t b
behind b s t le = let place : s + (t - s) ≡ t = omega (arith, le) in drop-more s (t - s) b ∙ ap (λ (k : ℕ). drop k b) place

-- The text is what the edge was given, and then the rest.
pub text-parts : (b : List ℕ) (s t : ℕ) → s ≤ t → drop s b ≡ take (t - s) (drop s b) ++ drop t b
text-parts b s t le = sym (take-append-drop (t - s) (drop s b)) ∙ ap (λ (u : List ℕ). take (t - s) (drop s b) ++ u) (behind b s t le)

given-len : (b : List ℕ) (s t : ℕ) → s ≤ t → t ≤ length b → length (take (t - s) (drop s b)) ≡ t - s
given-len b s t le fits =
    let long = length-drop s b in
    length-take-le (t - s) (drop s b) (omega (arith, long, fits))

-- what it takes then stands after
pub given-fed : (b v : List ℕ) (s t n : ℕ) → v ≡ b → s ≤ t → take ((t + n) - s) (drop s b) ≡ take (t - s) (drop s b) ++ take n (take (length v - t) (drop t v))
given-fed b v s t n same le =
    let all : take (length v - t) (drop t v) ≡ drop t b = take_rest v t ∙ ap (drop t) same in
    let place : (t + n) - s ≡ (t - s) + n = omega (arith, le) in
    ap (λ (k : ℕ). take k (drop s b)) place ∙ take-add (t - s) n (drop s b) ∙ ap (λ (u : List ℕ). take (t - s) (drop s b) ++ take n u) (behind b s t le ∙ sym all)

-- a request is read, and the rest is what the edge holds unread

pub left-fits : (b : List ℕ) (s t : ℕ) (front rest : List ℕ) → s ≤ t → t ≤ length b → take (t - s) (drop s b) ≡ front ++ rest → s + length front + length rest ≡ t
left-fits b s t front rest le fits parts =
    let whole : t - s ≡ length front + length rest = sym (given-len b s t le fits) ∙ ap length parts ∙ length-append front rest in
    omega (arith, whole, le)

pub left-text : (b : List ℕ) (s t : ℕ) (front rest : List ℕ) → s ≤ t → t ≤ length b → take (t - s) (drop s b) ≡ front ++ rest → drop (t - length rest) b ≡ rest ++ drop t b
left-text b s t front rest le fits parts =
    let sum = left-fits b s t front rest le fits parts in
    let place : t - length rest ≡ s + length front = omega (arith, sum) in
    ap (λ (k : ℕ). drop k b) place ∙ sym (drop-more s (length front) b) ∙ ap (drop (length front)) (text-parts b s t le ∙ ap (λ (u : List ℕ). u ++ drop t b) parts ∙ append_assoc front rest (drop t b))
    ∙ drop-append_seam front (rest ++ drop t b)

pub left-given : (b : List ℕ) (s t : ℕ) (front rest : List ℕ) → s ≤ t → t ≤ length b → take (t - s) (drop s b) ≡ front ++ rest → take (t - (t - length rest)) (drop (t - length rest) b) ≡ rest
left-given b s t front rest le fits parts =
    let sum = left-fits b s t front rest le fits parts in
    let place : t - (t - length rest) ≡ length rest = omega (arith, sum) in
    ap (λ (k : ℕ). take k (drop (t - length rest) b)) place ∙ ap (take (length rest)) (left-text b s t front rest le fits parts) ∙ take-append_seam rest (drop t b)

pub none-left : (b : List ℕ) (k : ℕ) → k ≡ length b → drop k b ≡ []
none-left b k e = drop_of_length-le b (omega (arith, e))

-- where all bytes are the edge's, the text is what it was given
pub all-given : (b : List ℕ) (s t : ℕ) → s ≤ t → drop t b ≡ [] → drop s b ≡ take (t - s) (drop s b)
all-given b s t le none = text-parts b s t le ∙ ap (λ (u : List ℕ). take (t - s) (drop s b) ++ u) none ∙ append-nil (take (t - s) (drop s b))

-- what counts as unread, where more stands after
pub unread-behind : (front more : List ℕ) (n m : ℕ) → m ≡ length more → IsUnread front n → IsUnread (front ++ more) (n + m)
unread-behind front more n m is (inl e) = let whole = length-append front more in inl (omega (arith, whole, e, is))
unread-behind front more n m is (inr x) =
    let whole = length-append x.behind more in
    let few = x.few in
    inr (record { head = x.head; behind = x.behind ++ more; begins = begins_on front x.head x.behind more x.begins; few = omega (arith, whole, few, is) })

pub expects-behind : (front more : List ℕ) → Expects front → Expects (front ++ more)
expects-behind front more x = record { head = x.head; behind = x.behind ++ more; begins = begins_on front x.head x.behind more x.begins; asks = x.asks }

-- what an item leaves, where it is the last, or isn't

pub left-last : (i : Item) (rest left : List ℕ) → closes i ≡ true → left ≡ [] → left ≡ left_by i rest
left-last i rest left last none = rw last none

pub left-more : (i : Item) (rest left : List ℕ) → closes i ≡ false → left ≡ rest → left ≡ left_by i rest
left-more i rest left more is = rw more is

-- A request is read that isn't the last: the edge holds the rest of what it was given.
pub record LeftBehind (i : Item) (e : Edge) (given : List ℕ) (n : ℕ) : Type 0 where
  pub front : List ℕ
  pub rest : List ℕ
  pub first : First given i rest
  pub parts : given ≡ front ++ rest
  pub stands : Stands e rest
  pub len : n ≡ length rest
  pub shorter : length rest < length given

pub left-behind : (i : Item) (e : Edge) (given : List ℕ) (n : ℕ) → closes i ≡ false
    → (rest : List ℕ) × First given i rest × (((closes i ≡ true) × (e.ended ≡ true)) ⊎ ((closes i ≡ false) × Stands e rest))
    → ((text : List ℕ) → Stands e text → text ≡ e.unread) → n ≡ unread_len e → LeftBehind i e given n
left-behind i e given n goes_on steps behind count =
    let ends = ends_shorter given i steps.0 steps.1 goes_on in
    let stands : Stands e steps.0 = elim (steps.2) [ inl last ↦ absurd (differs (sym last.0 ∙ goes_on)) | inr more ↦ more.1 ] in
    record {
      front = ends.0.front;
      rest = steps.0;
      first = steps.1;
      parts = ends.0.whole;
      stands = stands;
      len = count ∙ ap length (sym (behind steps.0 stands));
      shorter = ends.1;
    }
  where
    differs : true ≡ false → ⊥
    differs f = absurd cc

module _ (b : List ℕ) (s t : ℕ) (le : s ≤ t) (fits : t ≤ length b) where
  -- the first of the whole text
  pub first-whole : (i : Item) (rest : List ℕ) → First (take (t - s) (drop s b)) i rest → First (drop s b) i (rest ++ drop t b)
  first-whole i rest first = subst (λ (u : List ℕ). First u i (rest ++ drop t b)) (sym (text-parts b s t le)) (first_on (take (t - s) (drop s b)) i rest (drop t b) first)

  module _ (i : Item) (e : Edge) (n : ℕ) (l : LeftBehind i e (take (t - s) (drop s b)) n) where
    pub left-start : n ≤ t
    left-start = let sum = left-fits b s t l.front l.rest le fits l.parts in let len = l.len in omega (arith, sum, len)

    pub left-is : drop (t - n) b ≡ l.rest ++ drop t b
    left-is = ap (λ (k : ℕ). drop (t - k) b) l.len ∙ left-text b s t l.front l.rest le fits l.parts

    pub left-stands : Stands e (take (t - (t - n)) (drop (t - n) b))
    left-stands = subst (λ (u : List ℕ). Stands e u) (sym (ap (λ (k : ℕ). take (t - (t - k)) (drop (t - k) b)) l.len ∙ left-given b s t l.front l.rest le fits l.parts)) l.stands

    pub left-shorter : length (drop (t - n) b) < length (drop s b)
    left-shorter =
        let after = ap length left-is ∙ length-append l.rest (drop t b) in
        let before = ap length (text-parts b s t le) ∙ length-append (take (t - s) (drop s b)) (drop t b) in
        let lt = l.shorter in
        omega (arith, after, before, lt)

-- bytes after those that wait
pub more-text : (b more b1 : List ℕ) (s s1 : ℕ) → s1 ≡ s → b1 ≡ b ++ more → s ≤ length b → drop s1 b1 ≡ drop s b ++ more
more-text b more b1 s s1 same put fits = ap (λ (k : ℕ). drop k b1) same ∙ ap (drop s) put ∙ drop-append-le s b more fits

pub mark-more : (n : ℕ) (m : Mark) (b more : List ℕ) → m.end ≤ length b → at_mark n m (b ++ more) ≡ at_mark n m b
mark-more n m b more fits =
    ap (λ (u : List ℕ). record { number = n; text = drop m.start u; told = m.told; closing = m.closing; unread = m.unread }) (take-append-le m.end b more fits)

-- Where the edge has all bytes and waits, nothing can be asked.
pub idle-text : (r : Reader) → IsInStep r → Rests r → IsIdle (text_of r)
idle-text r stands rests =
    inr (subst (λ (u : List ℕ). HasNone u ⊎ Waits u) (sym (all-given r.bytes.items r.start r.taken r.order rests.0)) (waits-so r.edge.begun (given_of r) (stands.2 rests.1).0))
