use Rattle.std.proofs.Common.{length}
use Rattle.cache_key.proofs.order.+cmp_texts.Given as goal

abbrev pub decreases-cmp_texts : goal.decreases-cmp_texts
decreases-cmp_texts l = length l.a.now
