use Rattle.std.proofs.Common.{◌≡◌, ℕ, ◌<◌, List, [], ◌∷◌, length, Ok, None, refl, sym, arith}
use Rattle.media_map.specs.declared.form.Form.{Form}
use Rattle.media_map.specs.declared.policy.Policy.{Policy}
use Rattle.media_map.specs.Texts.{trim}
use Rattle.media_map.specs.MediaTypes.{media_at, is_essence, slash_in}
use Rattle.media_map.specs.Accepting.{accept_at, element_at}
use Rattle.media_map.specs.Picking.{wanted_by}
use Rattle.media_map.proofs.accept.accept_of.Goals as goal

-- An empty Accept asks for nothing.
nothing_asked : (policy : Policy) (routes : List (Form × Form)) (accept : List ℕ) → length accept < 1 → accept_at policy routes accept ≡ Ok None
unfolding accept_at element_at media_at is_essence slash_in trim
nothing_asked policy routes [] lt = refl
nothing_asked policy routes (b ∷ text) lt = absurd (omega (arith, lt))

pub returns-in-empty-clause-wanted : goal.returns-in-empty-clause-wanted
returns-in-empty-clause-wanted c = nothing_asked c.args.policy c.args.routes.now c.args.accept.now c.in-empty.len_below

pub returns-in_err-to_wanted-in-Some-clause-memory : goal.returns-in_err-to_wanted-in-Some-clause-memory
returns-in_err-to_wanted-in-Some-clause-memory c = λ _. (wanted_by c.in-Some.pick, sym (rw (c.in-Some.is, c.as_slice.ensures) at c.in_ok-pick.ensures.wanted))
