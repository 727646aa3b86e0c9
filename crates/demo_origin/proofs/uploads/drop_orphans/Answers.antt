use Rattle.std.proofs.Common.{rules}
use Rattle.std.proofs.lemmas.Fn.{filter_same}
use Rattle.demo_origin.specs.Uploads.{is_from}
use Rattle.demo_origin.proofs.uploads.drop_orphans.Goals as goal

pub returns : goal.returns
returns c =
    filter_same _ (is_from c.args.clients.now) _ (λ x b f' k. search rules) _ _
    c.retain.ensures.filtered
