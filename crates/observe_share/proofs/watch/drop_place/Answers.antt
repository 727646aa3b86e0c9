use Rattle.std.proofs.Common.{rules, not}
use Rattle.std.proofs.lemmas.Fn.{filter_same}
use Rattle.observe_share.specs.Watches.{is_at}
use Rattle.observe_share.proofs.First.{length-filtered}
use Rattle.observe_share.proofs.watch.drop_place.Goals as goal

pub returns : goal.returns
returns c =
    let same = filter_same _ (λ r. not (is_at c.args.lookup.now.place r)) _ (λ x b f' k. search rules) _ _ c.retain.ensures.filtered in
    record { items = same; fewer = rw same (length-filtered _ _); capacity = c.retain.ensures.capacity }
