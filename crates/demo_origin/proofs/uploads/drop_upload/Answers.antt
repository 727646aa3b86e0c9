use Rattle.std.proofs.Common.{not, rules}
use Rattle.std.proofs.lemmas.Fn.{filter_same}
use Rattle.demo_origin.specs.Uploads.{is_of}
use Rattle.demo_origin.specs.declared.state.Upload.{Upload}
use Rattle.demo_origin.proofs.uploads.drop_upload.Goals as goal

pub returns : goal.returns
returns c =
    filter_same _ (λ (u : Upload). not (is_of c.args.peer.now c.args.place u)) _
    (λ x b f' k. search rules) _ _ c.retain.ensures.filtered
