-- What a tick leaves.
use Rattle.std.specs.Prelude.{ℕ, Bool, List, filter, map}
use Rattle.exchange_model.specs.declared.kept.Exchange.{Exchange}
use Rattle.exchange_model.specs.State.{State}
use Rattle.exchange_model.specs.Hearing.{is_of_none, is_stale_of_none, retired}
use Rattle.exchange_model.specs.Entering.{link_after}
use Rattle.observe_share.specs.Watches.{without}
use Rattle.exchange_core.specs.Drafts.{DraftValue}
use Rattle.exchange_core.specs.States.{with_draft}
use Rattle.exchange_core.specs.Watching.{is_unwatched_by}

-- The state after the links, the exchanges and what is observed moved on, and what was drafted
-- came.
abbrev pub moved_on :
    ℕ → (List ℕ → Bool) → List Exchange → List Exchange → DraftValue → State → State
moved_on t gone over es d S = let V = with_draft t d S in record V {
  exchanges = es;
  pieces = filter (is_of_none over) S.pieces;
  stales = filter (is_stale_of_none over) S.stales;
  watches = without (is_unwatched_by t S.entries over) S.watches;
  store = retired S.entries over S.store;
  links = map (link_after t gone) S.links;
}
