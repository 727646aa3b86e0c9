-- What a reader of an Accept field keeps is what holds of the elements.
use Rattle.std.proofs.Common.{◌≡◌, ◌∙◌, sym, ap, refl, ℕ, List, [], ◌∷◌, Bool, true, false, Option, Some, None}
use Rattle.std.specs.Prelude.{◌||◌}
use Rattle.std.specs.List.{filter_map, list_any, cons_option}
use Rattle.media_map.specs.declared.form.Form.{Form}
use Rattle.media_map.specs.declared.policy.Policy.{Policy}
use Rattle.media_map.specs.declared.wanted.Wanted.{Wanted}
use Rattle.media_map.specs.Texts.{pieces}
use Rattle.media_map.specs.Accepting.{Element, element_at, takes_anything, is_payload, choice_of, choices, best_from, accept, accept_at}
use Rattle.media_map.specs.Tallying.{Seen, seen_from, with_piece, with_parsed, with_element, chosen, nothing, told}

or_false : (b : Bool) → b ≡ (b || false)
or_false true = refl
or_false false = refl

or_true : (b : Bool) → (b || true) ≡ true
or_true true = refl
or_true false = refl

or_assoc : (a b c : Bool) → ((a || b) || c) ≡ (a || (b || c))
or_assoc true b c = refl
or_assoc false b c = refl

some_of : List Element → Bool
some_of [] = false
some_of (e ∷ es) = true

summary : Policy → List (Form × Form) → Seen → List Element → Seen
summary policy routes s es = record {
  elements = s.elements || some_of es;
  anything = s.anything || list_any takes_anything es;
  payload = s.payload || list_any is_payload es;
  best = best_from s.best (choices policy routes es);
}

same_seen : (s : Seen) (elements anything payload : Bool) (best : Option (ℕ × Wanted)) → s.elements ≡ elements → s.anything ≡ anything
    → s.payload ≡ payload → s.best ≡ best → s ≡ record { elements = elements; anything = anything; payload = payload; best = best }
same_seen s elements anything payload best a b c d = rw (← a, ← b, ← c, ← d) refl

best_or : (best c : Option (ℕ × Wanted)) (cs : List (ℕ × Wanted)) → best_from (chosen best c) cs ≡ best_from best (cons_option c cs)
best_or best None cs = refl
best_or best (Some c) cs = refl

one_more : (policy : Policy) (routes : List (Form × Form)) (s : Seen) (e : Element) (es : List Element)
    → summary policy routes (with_element policy routes s e) es ≡ summary policy routes s (e ∷ es)
unfolding summary some_of
one_more policy routes s e es = same_seen _ _ _ _ _
    (sym (or_true s.elements))
    (or_assoc s.anything (takes_anything e) (list_any takes_anything es))
    (or_assoc s.payload (is_payload e) (list_any is_payload es))
    (best_or s.best (choice_of policy routes e) (choices policy routes es))

parsed : (policy : Policy) (routes : List (Form × Form)) (s : Seen) (e : Option Element) (ps : List (List ℕ))
    → ((t : Seen) → seen_from policy routes t ps ≡ summary policy routes t (filter_map element_at ps))
    → seen_from policy routes (with_parsed policy routes s e) ps ≡ summary policy routes s (cons_option e (filter_map element_at ps))
parsed policy routes s None ps others = others s
parsed policy routes s (Some e) ps others = others (with_element policy routes s e) ∙ one_more policy routes s e (filter_map element_at ps)

all_seen : (policy : Policy) (routes : List (Form × Form)) (ps : List (List ℕ)) (s : Seen)
    → seen_from policy routes s ps ≡ summary policy routes s (filter_map element_at ps)
unfolding summary some_of with_piece
all_seen policy routes [] s = same_seen s _ _ _ _ (or_false s.elements) (or_false s.anything) (or_false s.payload) refl
all_seen policy routes (p ∷ ps) s = parsed policy routes s (element_at p) ps (λ t. all_seen policy routes ps t)

told_of : (policy : Policy) (routes : List (Form × Form)) (es : List Element) → told (summary policy routes nothing es) ≡ accept policy routes es
unfolding summary some_of
told_of policy routes [] = refl
told_of policy routes (e ∷ es) = refl

pub told_is : (policy : Policy) (routes : List (Form × Form)) (value : List ℕ)
    → told (seen_from policy routes nothing (pieces false 44 value)) ≡ accept_at policy routes value
unfolding accept_at
told_is policy routes value = ap told (all_seen policy routes (pieces false 44 value) nothing) ∙ told_of policy routes (filter_map element_at (pieces false 44 value))
