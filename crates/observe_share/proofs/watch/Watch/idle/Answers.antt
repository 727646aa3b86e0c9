use Rattle.std.proofs.Common.{◌≡◌, true, not, sym, ◌∙◌}
use Rattle.cache_key.specs.Digests.{rank_of}
use Rattle.observe_share.specs.declared.registration.Registration.{Registration}
use Rattle.observe_share.specs.Hints.{is_hinted}
use Rattle.observe_share.specs.Watches.{is_idle}
use Rattle.observe_share.proofs.Hinted.{all-filter, without-any}
use Rattle.observe_share.proofs.watch.Watch.idle.Goals as goal

pub returns-then-not-has_idle-clause-watches : goal.returns-then-not-has_idle-clause-watches
returns-then-not-has_idle-clause-watches c =
    sym (without-any (is_idle c.args.moment) c.args.self.now.standing (sym c.has_idle.ensures ∙ c.if-not-has_idle.true))

pub hint_anew-requires : goal.hint_anew-requires
hint_anew-requires c =
    rw (c.deref_mut.ensures.value, c.deref-2.ensures.value, c.drop_idle.ensures.items)
    (all-filter (λ (r : Registration). is_hinted c.self.inside.hints.items (rank_of r.key) ≡ true) (λ (r : Registration). not (is_idle c.args.moment r)) c.self.inside.standing.items c.self.invariant.hinted)
