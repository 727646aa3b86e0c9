-- The places that are let go were empty.
use Rattle.std.proofs.Common.{rules, arith}
use Rattle.gateway_loop.proofs.Forgetting.{let-go}
use Rattle.gateway_loop.proofs.clients.Clients.forget.Goals as goal

pub returns : goal.returns
returns g c =
    let e =
    let-go c.self.inside.past c.empty_before-empty.result c.in-Ok.past c.self.inside.places.items
    c.rotate_left.new.self.items c.truncate.new.self.items (search rules) (search rules) (search rules) (search rules)
    in
    grind (arith, e)
