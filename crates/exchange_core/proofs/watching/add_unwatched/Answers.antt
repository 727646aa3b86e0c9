use Rattle.std.proofs.Common.{◌≡◌, ◌++◌, List, length, rules, sym, ap, ◌∙◌}
use Rattle.observe_share.specs.declared.registration.Registration.{Registration}
use Rattle.exchange_core.proofs.Watched.{unwatched-none}
use Rattle.exchange_core.proofs.watching.add_unwatched.Goals as goal

pub returns-then-not-has_idle : goal.returns-then-not-has_idle
returns-then-not-has_idle g c =
    unwatched-none c.args.moment c.args.journal.now.entries c.args.over.now c.args.tokens.now.items c.args.watches.now.standing (search rules) (search rules)
