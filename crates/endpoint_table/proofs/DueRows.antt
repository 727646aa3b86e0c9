-- Only the endpoints are asked whose timers have run out: at those between them nothing is due.
use Rattle.std.proofs.Common.{◌≡◌, ℕ, suc, ◌+◌, ◌-◌, ◌<◌, ◌≤◌, Bool, true, false, cond, List, [], ◌∷◌, ◌++◌, length, drop, get_or, map, set, take, Option, Some, None, refl, sym, ap, subst, ◌∙◌, arith, append-nil}
use Rattle.std.specs.Option.{option_map}
use Rattle.std.proofs.lemmas.List.{drop_more, drop-set-lt, length-drop, length-set, set-get_or, take_all}
use Rattle.message_layer.specs.Sending.{due_of}
use Rattle.message_layer.specs.declared.state.Outstanding.{Outstanding}
use Rattle.exchange_model.specs.Calls.{is_due, link_due}
use Rattle.exchange_model.specs.Due.{has_come, timer}
use Rattle.endpoint_table.specs.declared.endpoint.Endpoint.{Endpoint}
use Rattle.endpoint_table.specs.declared.turns.Turn.{Turn}
use Rattle.endpoint_table.specs.Dues.{due_places, timers_of}
use Rattle.endpoint_table.specs.Tables.{has_room, peer_link}
use Rattle.endpoint_table.specs.Turns.{AreTurns, IsTurnOf}
use Rattle.endpoint_table.proofs.Ticked.{map-set, turns-push}

came : (t : ℕ) (e : Endpoint) → has_come t (timer (peer_link e)) ≡ link_due t (peer_link e)
came t e = by e.link.state.outstanding
  where
    by : (v : Option Outstanding) → has_come t (option_map due_of v) ≡ is_due t v
    by None = refl
    by (Some o) = refl

abbrev pub left_due : ℕ → List Endpoint → ℕ → List ℕ
left_due t ys i = due_places t i (timers_of (drop i ys))

-- What holds up to the next place at which something is due, and those that are left after it.
pub record Reached (t : ℕ) (ys : List Endpoint) (P : ℕ → Type 0) (p : ℕ) (ps : List ℕ)
    : Type 0 where
  pub place : p < length ys
  pub due : (d : Endpoint) → link_due t (peer_link (get_or ys p d)) ≡ true
  pub holds : P p
  pub left : ps ≡ left_due t ys (p + 1)

module _ (t : ℕ) (ys : List Endpoint) (P : ℕ → Type 0)
    (skip : (i : ℕ) (z : Endpoint) → i < length ys → z ≡ get_or ys i z
    → link_due t (peer_link z) ≡ false → P i → P (i + 1)) where
  below : (i : ℕ) (z : Endpoint) (zs : List Endpoint) → z ∷ zs ≡ drop i ys → i < length ys
  below i z zs is =
      let n : suc (length zs) ≡ length ys - i = ap length is ∙ length-drop i ys in omega (arith, n)

  parts : (i : ℕ) (z d : Endpoint) (zs : List Endpoint) → z ∷ zs ≡ drop i ys
      → z ∷ zs ≡ get_or ys i d ∷ drop (i + 1) ys
  parts i z d zs is = is ∙ drop_more ys i d (below i z zs is)

  here : (i : ℕ) (z d : Endpoint) (zs : List Endpoint) → z ∷ zs ≡ drop i ys → z ≡ get_or ys i d
  here i z d zs is = let e = parts i z d zs is in cc

  others : (i : ℕ) (z : Endpoint) (zs : List Endpoint) → z ∷ zs ≡ drop i ys
      → zs ≡ drop (i + 1) ys
  others i z zs is = let e = parts i z z zs is in cc

  pub reach : (zs : List Endpoint) (i p : ℕ) (ps : List ℕ) → zs ≡ drop i ys → P i
      → p ∷ ps ≡ due_places t i (timers_of zs) → Reached t ys P p ps
  reach [] i p ps is h e = absurd cc
  reach (z ∷ zs) i p ps is h e =
      by (link_due t (peer_link z)) refl (e ∙ ap (λ (b : Bool). cond b (i ∷ rest) rest) (came t z))
      (reach zs (i + 1) p ps (others i z zs is))
    where
      rest : List ℕ
      rest = due_places t (i + 1) (timers_of zs)

      by : (b : Bool) → link_due t (peer_link z) ≡ b → p ∷ ps ≡ cond b (i ∷ rest) rest
          → (P (i + 1) → p ∷ ps ≡ rest → Reached t ys P p ps) → Reached t ys P p ps
      by true f g later =
          let same : i ≡ p = cc in
          let tail : ps ≡ rest = cc in
          subst (λ (q : ℕ). Reached t ys P q ps) same (record {
            place = below i z zs is;
            due = λ d. ap (λ (x : Endpoint). link_due t (peer_link x)) (sym (here i z d zs is)) ∙ f;
            holds = h;
            left = tail ∙ ap (λ (es : List Endpoint). due_places t (i + 1) (timers_of es))
                (others i z zs is);
          })
      by false f g later = later (skip i z (below i z zs is) (here i z z zs is) f h) g

  pub ended : (zs : List Endpoint) (i : ℕ) → zs ≡ drop i ys → i ≤ length ys → P i
      → [] ≡ due_places t i (timers_of zs) → P (length ys)
  ended [] i is le h e =
      let n : 0 ≡ length ys - i = ap length is ∙ length-drop i ys in
      let same : i ≡ length ys = omega (arith, n, le) in
      subst P same h
  ended (z ∷ zs) i is le h e =
      by (link_due t (peer_link z)) refl (e ∙ ap (λ (b : Bool). cond b (i ∷ rest) rest) (came t z))
      (ended zs (i + 1) (others i z zs is)
      (let lt = below i z zs is in omega (arith, lt)))
    where
      rest : List ℕ
      rest = due_places t (i + 1) (timers_of zs)

      by : (b : Bool) → link_due t (peer_link z) ≡ b → [] ≡ cond b (i ∷ rest) rest
          → (P (i + 1) → [] ≡ rest → P (length ys)) → P (length ys)
      by true f g later = absurd cc
      by false f g later = later (skip i z (below i z zs is) (here i z z zs is) f h) g

-- the turns that are prepared so far

abbrev pub TurnsUpTo : ℕ → List (List ℕ) → List Endpoint → List Turn → ℕ → Type 0
TurnsUpTo t gone ys ks i = AreTurns t gone (map peer_link (take i ys)) (map has_room (take i ys)) ks

pub record TurnsSoFar (t : ℕ) (gone : List (List ℕ)) (ps : List ℕ) (xs ys : List Endpoint)
    (ks : List Turn) : Type 0 where
  pub next : ℕ
  pub within : next ≤ length ys
  pub turns : TurnsUpTo t gone ys ks next
  pub left : ps ≡ left_due t ys next
  pub same : map peer_link ys ≡ map peer_link xs

module _ (t : ℕ) (gone : List (List ℕ)) (ys : List Endpoint) (ks : List Turn) where
  no-turn : (i : ℕ) (z : Endpoint) → i < length ys → z ≡ get_or ys i z
      → link_due t (peer_link z) ≡ false → TurnsUpTo t gone ys ks i
      → TurnsUpTo t gone ys ks (i + 1)
  no-turn i z lt is none h =
      let kept : set ys i z ≡ ys = ap (set ys i) is ∙ set-get_or ys i z in
      let more : TurnsUpTo t gone (set ys i z) (ks ++ []) (i + 1) =
      turns-push t gone ys i z None ks lt h none in
      subst (λ (js : List Turn). TurnsUpTo t gone ys js (i + 1)) (append-nil ks)
      (subst (λ (zs : List Endpoint). TurnsUpTo t gone zs (ks ++ []) (i + 1)) kept more)

  pub turn-next : (p : ℕ) (ps : List ℕ) (xs : List Endpoint)
      → TurnsSoFar t gone (p ∷ ps) xs ys ks → Reached t ys (TurnsUpTo t gone ys ks) p ps
  turn-next p ps xs so_far =
      reach t ys (TurnsUpTo t gone ys ks) no-turn (drop so_far.next ys) so_far.next p ps refl
      so_far.turns so_far.left

  pub turns-done : (xs : List Endpoint) → TurnsSoFar t gone [] xs ys ks
      → AreTurns t gone (map peer_link ys) (map has_room ys) ks
  turns-done xs so_far =
      let all = ended t ys (TurnsUpTo t gone ys ks) no-turn (drop so_far.next ys) so_far.next refl
      so_far.within so_far.turns so_far.left in
      subst (λ (zs : List Endpoint). AreTurns t gone (map peer_link zs) (map has_room zs) ks)
      (take_all (length ys) ys (omega arith)) all

  pub turn-more : (p : ℕ) (ps : List ℕ) (xs : List Endpoint) (r d : Endpoint) (k : Turn)
      → TurnsSoFar t gone (p ∷ ps) xs ys ks → peer_link r ≡ peer_link (get_or ys p d)
      → IsTurnOf t gone (peer_link r) r.link.room (Some k)
      → TurnsSoFar t gone ps xs (set ys p r) (ks ++ k ∷ [])
  turn-more p ps xs r d k so_far as_before is =
      let reached = turn-next p ps xs so_far in
      let n : length (set ys p r) ≡ length ys = length-set ys p r in
      record {
        next = p + 1;
        within = let lt = reached.place in omega (arith, lt, n);
        turns = turns-push t gone ys p r (Some k) ks reached.place reached.holds is;
        left = reached.left ∙ ap (λ (es : List Endpoint). due_places t (p + 1) (timers_of es))
            (sym (drop-set-lt (p + 1) ys p r (omega arith)));
        same = map-set peer_link ys p r d as_before ∙ so_far.same;
      }
