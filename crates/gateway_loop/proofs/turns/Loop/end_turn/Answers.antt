-- The rules stay, step by step.
use Rattle.std.proofs.Common.{◌∙◌}
use Rattle.gateway_loop.proofs.turns.Loop.end_turn.Goals as goal

pub pass-requires : goal.pass-requires
pass-requires g c = record { suits = rw c.in_ok-it.ensures.rules c.requires.suits }

pub sweep-requires : goal.sweep-requires
sweep-requires g c = record { suits = rw (c.in_ok-it-2.ensures.rules, c.in_ok-it.ensures.rules) c.requires.suits }

pub returns : goal.returns
returns g c = record {
  rules = c.in_ok-it-3.ensures.rules ∙ (c.in_ok-it-2.ensures.rules ∙ c.in_ok-it.ensures.rules);
}
