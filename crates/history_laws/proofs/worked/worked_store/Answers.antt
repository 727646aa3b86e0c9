use Rattle.history_laws.proofs.Store.{read_from_store-holds, fetched_when_stale-holds, fetched_though_fresh-refused, read_expired-refused, kept_late-refused, other_query-refused, other_accept-refused, read_outdated-refused, read_older-refused}
use Rattle.history_laws.proofs.worked.worked_store.Goals as goal

pub returns-clause-served : goal.returns-clause-served
returns-clause-served c = read_from_store-holds

pub returns-clause-anew : goal.returns-clause-anew
returns-clause-anew c = fetched_when_stale-holds

pub returns-clause-vain : goal.returns-clause-vain
returns-clause-vain c = fetched_though_fresh-refused

pub returns-clause-expired : goal.returns-clause-expired
returns-clause-expired c = read_expired-refused

pub returns-clause-late : goal.returns-clause-late
returns-clause-late c = kept_late-refused

pub returns-clause-query : goal.returns-clause-query
returns-clause-query c = other_query-refused

pub returns-clause-accept : goal.returns-clause-accept
returns-clause-accept c = other_accept-refused

pub returns-clause-outdated : goal.returns-clause-outdated
returns-clause-outdated c = read_outdated-refused

pub returns-clause-older : goal.returns-clause-older
returns-clause-older c = read_older-refused
