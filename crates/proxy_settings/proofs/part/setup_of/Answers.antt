use Rattle.std.proofs.Common.{Err, ap, ◌∙◌}
use Rattle.std.proofs.lemmas.Result.{err_from_is_err_and}
use Rattle.toml.specs.View.{table_view}
use Rattle.proxy_settings.proofs.Setups.{serve_fails, device_fails}
use Rattle.proxy_settings.proofs.part.setup_of.Goals as goal

pub returns-in_err-serve_of-in-Serve : goal.returns-in_err-serve_of-in-Serve
returns-in_err-serve_of-in-Serve c =
    let p = err_from_is_err_and c.from_residual.result c.from_residual.ensures.1 in
    serve_fails (table_view c.args.table.now) c.in_err-serve_of-in-Serve.field-0.0 c.from_residual.result c.args.part
    (p.1 ∙ ap (λ e. Err e) p.2) c.in-Serve.is c.in_err-serve_of-in-Serve.ensures

pub returns-in_err-device_of-in-Origin : goal.returns-in_err-device_of-in-Origin
returns-in_err-device_of-in-Origin c =
    let p = err_from_is_err_and c.from_residual-in_err-device_of-in-Origin.result c.from_residual-in_err-device_of-in-Origin.ensures.1 in
    device_fails (table_view c.args.table.now) c.in_err-device_of-in-Origin.field-0.0 c.from_residual-in_err-device_of-in-Origin.result c.args.part
    (p.1 ∙ ap (λ e. Err e) p.2) c.in-Origin.is c.in_err-device_of-in-Origin.ensures
