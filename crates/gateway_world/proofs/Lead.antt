-- Acts that are done one after another.
use Rattle.std.proofs.Common.{◌≡◌, List, [], ◌∷◌, ◌++◌, refl, sym, subst, ap, ◌∙◌}
use Rattle.std.proofs.lemmas.List.{append_assoc, append-nil}
use Rattle.gateway_model.specs.declared.input.When.{When}
use Rattle.gateway_model.specs.Acts.{Act, Served, Terms, Does, DoesAll}
use Rattle.gateway_model.specs.Emissions.{Emission}
use Rattle.gateway_world.specs.Leading.{Leads}

pub does-both : (M : Terms) (w : When) (xs ys : List Act) (a b c : Served) (o p : List Emission)
    → DoesAll M w xs a o b → DoesAll M w ys b p c → DoesAll M w (xs ++ ys) a (o ++ p) c
does-both M w [] ys a b c o p h k =
    subst (λ (s : Served). DoesAll M w ys s (o ++ p) c) h.0
    (subst (λ (q : List Emission). DoesAll M w ys b (q ++ p) c) (sym h.1) k)
does-both M w (x ∷ xs) ys a b c o p h k = (
  h.0,
  h.1,
  h.2 ++ p,
  h.3,
  does-both M w xs ys h.0 b c h.2 p h.4 k,
  ap (λ (q : List Emission). q ++ p) h.5 ∙ append_assoc h.1 h.2 p,
)

-- what is done so is of another kind, too
pub leads-as : (M : Terms) (w : When) (P Q : List Act → Type 0) (a b : Served) (x y : List Emission)
    → ((xs : List Act) → P xs → Q xs) → Leads M w P a x b y → Leads M w Q a x b y
leads-as M w P Q a b x y f h = record {
  acts = h.acts;
  order = f h.acts h.order;
  given = h.given;
  done = h.done;
  added = h.added;
}

pub leads-none : (M : Terms) (w : When) (P : List Act → Type 0) (a : Served) (x : List Emission)
    → P [] → Leads M w P a x a x
leads-none M w P a x h = record {
  acts = [];
  order = h;
  given = [];
  done = (refl, refl);
  added = sym (append-nil x);
}

pub leads-one : (M : Terms) (w : When) (P : List Act → Type 0) (act : Act)
    (a b : Served) (x o y : List Emission)
    → P (act ∷ []) → Does M w act a o b → y ≡ x ++ o → Leads M w P a x b y
leads-one M w P act a b x o y h does added = record {
  acts = act ∷ [];
  order = h;
  given = o;
  done = (b, o, [], does, (refl, refl), sym (append-nil o));
  added = added;
}

pub leads-then : (M : Terms) (w : When) (P Q S : List Act → Type 0)
    (a b c : Served) (x y z : List Emission)
    → ((xs ys : List Act) → P xs → Q ys → S (xs ++ ys))
    → Leads M w P a x b y → Leads M w Q b y c z → Leads M w S a x c z
leads-then M w P Q S a b c x y z f h k = record {
  acts = h.acts ++ k.acts;
  order = f h.acts k.acts h.order k.order;
  given = h.given ++ k.given;
  done = does-both M w h.acts k.acts a b c h.given k.given h.done k.done;
  added = k.added ∙ (ap (λ (q : List Emission). q ++ k.given) h.added ∙ append_assoc x h.given k.given);
}
