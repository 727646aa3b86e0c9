use Rattle.std.proofs.Common.{◌++◌, Some}
use Rattle.uri_map.specs.Limits.{host_options}
use Rattle.ask_model.specs.Requests.{optional}
use Rattle.ask_model.specs.Written.{resource_options}
use Rattle.ask_model.proofs.Written.{behind}
use Rattle.ask_model.proofs.writing.append_observing.Goals as goal

pub returns : goal.returns
returns c =
    let resource = resource_options c.args.target.now c.args.format c.args.accept in
    behind 0 c.in_ok-host.host (host_options c.args.target.now.host) (optional 6 (Some 0) ++ resource) c.args.out.now.items c.append_host.new.out.items c.append_resource.new.out.items c.append_resource.result c.in_ok-host.ensures.ok
    (behind c.in_ok-host.host c.in_ok-observing.observing (optional 6 (Some 0)) resource c.append_host.new.out.items c.append_optional.new.out.items c.append_resource.new.out.items c.append_resource.result c.in_ok-observing.ensures.ok c.append_resource.ensures.ok)
