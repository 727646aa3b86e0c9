-- The rules stay, step by step.
use Rattle.std.proofs.Common.{◌≡◌, ap, ◌∙◌}
use Rattle.std.proofs.lemmas.Result.{IfOk-weaker}
use Rattle.gateway_world.specs.Worlds.{WorldValue}
use Rattle.gateway_loop.proofs.turns.Loop.turn.Goals as goal

pub seat_all-requires : goal.seat_all-requires
seat_all-requires g c = record { suits = rw c.take_signs.ensures c.requires.suits }

pub hear_all-requires : goal.hear_all-requires
hear_all-requires g c = record { suits = rw (c.in_ok-it.ensures.rules, c.take_signs.ensures) c.requires.suits }

pub go_on-requires : goal.go_on-requires
go_on-requires g c = record {
  suits = rw (c.in_ok-it-2.ensures.rules, c.in_ok-it.ensures.rules, c.take_signs.ensures) c.requires.suits;
}

pub end_turn-requires : goal.end_turn-requires
end_turn-requires g c = record {
  suits = rw (c.let_go.ensures.rules, c.in_ok-it-3.ensures.rules, c.in_ok-it-2.ensures.rules, c.in_ok-it.ensures.rules, c.take_signs.ensures) c.requires.suits;
}

pub returns-then-is_over : goal.returns-then-is_over
returns-then-is_over g c = record {
  rules = c.let_go.ensures.rules
      ∙ (c.in_ok-it-3.ensures.rules
      ∙ (c.in_ok-it-2.ensures.rules ∙ (c.in_ok-it.ensures.rules ∙ ap (λ (w : WorldValue). w.rules) c.take_signs.ensures)));
}

pub returns : goal.returns
returns g c =
    let same = c.let_go.ensures.rules
    ∙ (c.in_ok-it-3.ensures.rules
    ∙ (c.in_ok-it-2.ensures.rules ∙ (c.in_ok-it.ensures.rules ∙ ap (λ (w : WorldValue). w.rules) c.take_signs.ensures))) in
    record { rules = IfOk-weaker c.end_turn.result _ _ (λ l e. e ∙ same) c.end_turn.ensures.rules }
