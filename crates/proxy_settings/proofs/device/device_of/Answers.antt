use Rattle.std.proofs.Common.{codes, Err, ap, ◌∙◌}
use Rattle.std.proofs.lemmas.Result.{err_from_is_err_and}
use Rattle.toml.specs.View.{table_view}
use Rattle.proxy_settings.specs.Members.{HasRows}
use Rattle.proxy_settings.specs.Rows.{IsResource}
use Rattle.proxy_settings.specs.Setups.{IsDevice}
use Rattle.proxy_settings.proofs.Setups.{some_device, wants_memory, part_fails}
use Rattle.proxy_settings.proofs.device.device_of.Goals as goal

pub returns-in_err-written : goal.returns-in_err-written
returns-in_err-written c =
    let t = table_view c.args.table.now in
    let p = err_from_is_err_and c.from_residual-in_err-written.result c.from_residual-in_err-written.ensures.1 in
    part_fails (IsDevice t) (HasRows t (codes "resource") IsResource) c.in_err-written.field-0.0 c.from_residual-in_err-written.result (p.1 ∙ ap (λ e. Err e) p.2)
    (some_device t c.in_ok-front.front c.in_ok-front.ensures.ok) c.in_err-written.ensures (λ d h. (h.written, h.resources))

pub returns-in_err-resources : goal.returns-in_err-resources
returns-in_err-resources c =
    let t = table_view c.args.table.now in
    let p = err_from_is_err_and c.from_residual-in_err-resources.result c.from_residual-in_err-resources.ensures.1 in
    wants_memory (IsDevice t) c.from_residual-in_err-resources.result (p.1 ∙ ap (λ e. Err e) p.2) (some_device t c.in_ok-front.front c.in_ok-front.ensures.ok)
