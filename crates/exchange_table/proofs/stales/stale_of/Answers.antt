use Rattle.std.proofs.Common.{option_map, rules, refl, sym, ap}
use Rattle.exchange_model.specs.declared.kept.Stale.{Stale}
use Rattle.exchange_model.specs.Matters.{is_stale_of}
use Rattle.exchange_table.proofs.Standing.{find-only, find-none}
use Rattle.exchange_table.proofs.stales.stale_of.Goals as goal

pub returns-in_err-place : goal.returns-in_err-place
returns-in_err-place c = rw (find-none (is_stale_of c.args.opening) c.args.stales.now (c.in_err-place.ensures.none refl)) (search rules)

pub returns : goal.returns
returns c =
    let x = c.index-stales-place.result in
    sym (ap (option_map (λ (y : Stale). y.stored)) (find-only (is_stale_of c.args.opening) c.args.stales.now c.in_ok-place.place x c.in_ok-place.ensures.some))
