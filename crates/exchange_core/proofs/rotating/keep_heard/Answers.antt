use Rattle.std.proofs.Common.{◌≡◌, Bool, List, length, rules, sym, subst, arith}
use Rattle.std.specs.Prelude.{filter}
use Rattle.std.proofs.lemmas.Fn.{filter_same}
use Rattle.std.proofs.lemmas.List.Sums.{length-filter, count_by-le-length}
use Rattle.resp_cache.specs.Stores.{IsStore}
use Rattle.resp_cache.specs.declared.pair.Pair.{Pair}
use Rattle.resp_cache.proofs.Apart.{apart-filtered}
use Rattle.exchange_core.specs.Renewing.{ends_as_heard}
use Rattle.exchange_core.proofs.rotating.keep_heard.Goals as goal

store-filtered : (f : Pair → Bool) (ps : List Pair) → IsStore ps → IsStore (filter f ps)
store-filtered f ps s = record {
  few =
      let few = s.few in
      let is = length-filter f ps in
      let le = count_by-le-length f ps in omega (arith, few, is, le);
  apart = apart-filtered f ps s.apart;
}

pub returns-clause-pairs : goal.returns-clause-pairs
returns-clause-pairs g c =
    filter_same _ (ends_as_heard c.args.journal.now.entries) _ (λ x b f' k. search rules) _ _ c.retain.ensures.filtered

pub returns-clause-store : goal.returns-clause-store
returns-clause-store g c = λ s.
    let ps : List Pair = c.args.pairs.now.items in
    let left : c.retain.new.self.items ≡ filter (ends_as_heard c.args.journal.now.entries) ps =
    filter_same _ (ends_as_heard c.args.journal.now.entries) _ (λ x b f' k. search rules) _ _ c.retain.ensures.filtered in
    subst IsStore (sym left) (store-filtered (ends_as_heard c.args.journal.now.entries) ps s)
