use Rattle.std.proofs.Common.{◌∷◌, []}
use Rattle.uri_map.specs.Limits.{host_options, option_with}
use Rattle.ask_model.specs.Written.{resource_options}
use Rattle.ask_model.proofs.Written.{behind, one}
use Rattle.ask_model.proofs.writing.append_validating.Goals as goal

pub returns : goal.returns
returns c =
    let resource = resource_options c.args.target.now c.args.format c.args.accept in
    let etag = option_with 4 c.args.etag.now in
    behind 0 c.in_ok-host.host (host_options c.args.target.now.host) (etag ∷ resource) c.args.out.now.items c.append_host.new.out.items c.append_resource.new.out.items c.append_resource.result c.in_ok-host.ensures.ok
    (behind c.in_ok-host.host 4 (etag ∷ []) resource c.append_host.new.out.items c.append_option.new.out.items c.append_resource.new.out.items c.append_resource.result (one etag c.in_ok-append_option.ensures) c.append_resource.ensures.ok)
