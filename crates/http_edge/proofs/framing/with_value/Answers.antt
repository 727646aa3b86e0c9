use Rattle.std.proofs.Common.{◌≡◌, ◌∙◌, sym, subst, ℕ, List, true, false}
use Rattle.http_edge.specs.Framing.{Finds}
use Rattle.http_edge.specs.Lists.{same_name, named}
use Rattle.http_edge.proofs.Framings as law
use Rattle.http_edge.proofs.framing.with_value.Goals as goal

pub returns-then-not-is_named : goal.returns-then-not-is_named
returns-then-not-is_named c = λ fields f.
    let other : same_name c.args.name.now c.args.wanted.now ≡ false = sym c.is_named.ensures ∙ c.if-not-is_named.true in
    subst (λ (vs : List (List ℕ)). Finds c.args.values vs) (law.other_name c.args.wanted.now fields c.args.name.now c.args.value.now other) f

pub returns-in-Nothing : goal.returns-in-Nothing
returns-in-Nothing c = λ fields f.
    let same : same_name c.args.name.now c.args.wanted.now ≡ true = sym c.is_named.ensures ∙ c.if-not-is_named.false in
    law.first_value c.args.wanted.now fields c.args.name.now c.args.value.now same (rw c.in-Nothing.is at f)

pub returns-in_default : goal.returns-in_default
returns-in_default c = λ fields f.
    let same : same_name c.args.name.now c.args.wanted.now ≡ true = sym c.is_named.ensures ∙ c.if-not-is_named.false in
    law.value_again c.args.wanted.now fields c.args.name.now c.args.value.now same
    (law.found_some c.args.values (named c.args.wanted.now fields) c.in_default.not-Nothing f)
