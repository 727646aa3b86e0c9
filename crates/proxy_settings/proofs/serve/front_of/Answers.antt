use Rattle.toml.specs.View.{table_view}
use Rattle.proxy_settings.specs.declared.serve.Serve.{Serve}
use Rattle.proxy_settings.specs.Setups.{IsServe}
use Rattle.proxy_settings.proofs.Setups.{on_err}
use Rattle.proxy_settings.proofs.serve.front_of.Goals as goal

pub returns-in_err-check-2-clause-err : goal.returns-in_err-check-2-clause-err
returns-in_err-check-2-clause-err c =
    on_err c.from_residual-in_err-check-2.result ((s : Serve) → IsServe (table_view c.args.table.now) s → ⊥)
    (λ s h. c.in_err-check-2.ensures h.written h.origins)

pub returns-in_err-check-3-clause-err : goal.returns-in_err-check-3-clause-err
returns-in_err-check-3-clause-err c =
    on_err c.from_residual-in_err-check-3.result ((s : Serve) → IsServe (table_view c.args.table.now) s → ⊥)
    (λ s h. c.in_err-check-3.ensures s.down h.down)

pub returns-in_err-check-4-clause-err : goal.returns-in_err-check-4-clause-err
returns-in_err-check-4-clause-err c =
    on_err c.from_residual-in_err-check-4.result ((s : Serve) → IsServe (table_view c.args.table.now) s → ⊥)
    (λ s h. c.in_err-check-4.ensures s.up h.up)
