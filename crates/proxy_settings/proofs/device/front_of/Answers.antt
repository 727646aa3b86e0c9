use Rattle.toml.specs.View.{table_view}
use Rattle.proxy_settings.specs.declared.device.Device.{Device}
use Rattle.proxy_settings.specs.Setups.{IsDevice}
use Rattle.proxy_settings.proofs.Setups.{on_err}
use Rattle.proxy_settings.proofs.device.front_of.Goals as goal

pub returns-in_err-check-2-clause-err : goal.returns-in_err-check-2-clause-err
returns-in_err-check-2-clause-err c =
    on_err c.from_residual-in_err-check-2.result ((d : Device) → IsDevice (table_view c.args.table.now) d → ⊥)
    (λ d h. c.in_err-check-2.ensures h.written h.resources)
