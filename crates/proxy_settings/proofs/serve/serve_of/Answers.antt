use Rattle.std.proofs.Common.{codes, Err, ap, ◌∙◌}
use Rattle.std.proofs.lemmas.Result.{err_from_is_err_and}
use Rattle.toml.specs.View.{table_view}
use Rattle.proxy_settings.specs.declared.route.Way.TheVariants.{Down, Up}
use Rattle.proxy_settings.specs.Members.{HasRows}
use Rattle.proxy_settings.specs.Rows.{IsOrigin, IsRoute}
use Rattle.proxy_settings.specs.Setups.{IsServe}
use Rattle.proxy_settings.proofs.Setups.{some_serve, wants_memory, part_fails}
use Rattle.proxy_settings.proofs.serve.serve_of.Goals as goal

pub returns-in_err-base : goal.returns-in_err-base
returns-in_err-base c =
    let t = table_view c.args.table.now in
    let p = err_from_is_err_and c.from_residual-in_err-base.result c.from_residual-in_err-base.ensures.1 in
    wants_memory (IsServe t) c.from_residual-in_err-base.result (p.1 ∙ ap (λ e. Err e) p.2) (some_serve t c.in_ok-front.front c.in_ok-front.ensures.ok)

pub returns-in_err-origins : goal.returns-in_err-origins
returns-in_err-origins c =
    let t = table_view c.args.table.now in
    let p = err_from_is_err_and c.from_residual-in_err-origins.result c.from_residual-in_err-origins.ensures.1 in
    wants_memory (IsServe t) c.from_residual-in_err-origins.result (p.1 ∙ ap (λ e. Err e) p.2) (some_serve t c.in_ok-front.front c.in_ok-front.ensures.ok)

pub returns-in_err-written : goal.returns-in_err-written
returns-in_err-written c =
    let t = table_view c.args.table.now in
    let p = err_from_is_err_and c.from_residual-in_err-written.result c.from_residual-in_err-written.ensures.1 in
    part_fails (IsServe t) (HasRows t (codes "origin") IsOrigin) c.in_err-written.field-0.0 c.from_residual-in_err-written.result (p.1 ∙ ap (λ e. Err e) p.2)
    (some_serve t c.in_ok-front.front c.in_ok-front.ensures.ok) c.in_err-written.ensures (λ s h. (h.written, h.origins))

pub returns-in_err-down : goal.returns-in_err-down
returns-in_err-down c =
    let t = table_view c.args.table.now in
    let p = err_from_is_err_and c.from_residual-in_err-down.result c.from_residual-in_err-down.ensures.1 in
    part_fails (IsServe t) (HasRows t (codes "down") (IsRoute Down)) c.in_err-down.field-0.0 c.from_residual-in_err-down.result (p.1 ∙ ap (λ e. Err e) p.2)
    (some_serve t c.in_ok-front.front c.in_ok-front.ensures.ok) c.in_err-down.ensures (λ s h. (s.down, h.down))

pub returns-in_err-up : goal.returns-in_err-up
returns-in_err-up c =
    let t = table_view c.args.table.now in
    let p = err_from_is_err_and c.from_residual-in_err-up.result c.from_residual-in_err-up.ensures.1 in
    part_fails (IsServe t) (HasRows t (codes "up") (IsRoute Up)) c.in_err-up.field-0.0 c.from_residual-in_err-up.result (p.1 ∙ ap (λ e. Err e) p.2)
    (some_serve t c.in_ok-front.front c.in_ok-front.ensures.ok) c.in_err-up.ensures (λ s h. (s.up, h.up))
