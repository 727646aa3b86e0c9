use Rattle.uri_map.specs.Limits.{host_options}
use Rattle.ask_model.specs.Written.{resource_options}
use Rattle.ask_model.proofs.Written.{behind}
use Rattle.ask_model.proofs.writing.append_asking.Goals as goal

pub returns-clause-ok : goal.returns-clause-ok
returns-clause-ok c =
    behind 0 c.in_ok-host.host (host_options c.args.target.now.host) (resource_options c.args.target.now c.args.format c.args.accept) c.args.out.now.items c.append_host.new.out.items c.append_resource.new.out.items c.append_resource.result c.in_ok-host.ensures.ok c.append_resource.ensures.ok
