use Rattle.std.proofs.Common.{◌≡◌, true, not, refl, sym}
use Rattle.cache_key.specs.Digests.{rank_of}
use Rattle.cache_key.specs.Keys.{place_of}
use Rattle.observe_share.specs.declared.registration.Registration.{Registration}
use Rattle.observe_share.specs.Hints.{is_hinted}
use Rattle.observe_share.specs.Watches.{is_at}
use Rattle.observe_share.proofs.Hinted.{all-filter, without-none}
use Rattle.observe_share.proofs.watch.Watch.retire.Goals as goal

pub hint_anew-requires : goal.hint_anew-requires
hint_anew-requires c =
    rw (c.deref_mut.ensures.value, c.deref-in-Some.ensures.value, c.drop_place.ensures.items)
    (all-filter (λ (r : Registration). is_hinted c.self.inside.hints.items (rank_of r.key) ≡ true) (λ (r : Registration). not (is_at c.in-Some.lookup.place r)) c.self.inside.standing.items c.self.invariant.hinted)

pub returns-in_default-clause-watches : goal.returns-in_default-clause-watches
returns-in_default-clause-watches c = sym (without-none (is_at (place_of c.args.writing.now.peer c.args.writing.now.target.now)) c.args.self.now.standing (c.in_default.ensures.none refl))
