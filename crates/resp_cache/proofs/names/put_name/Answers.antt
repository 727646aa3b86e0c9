use Rattle.std.proofs.Common.{◌≡◌, rules, sym, subst}
use Rattle.std.specs.Prelude.{insert}
use Rattle.resp_cache.specs.Names.{IsFirstFrom, IsNamed}
use Rattle.resp_cache.proofs.Naming.{named-put}
use Rattle.resp_cache.proofs.names.put_name.Goals as goal

pub returns-clause-named : goal.returns-clause-named
returns-clause-named c = λ slots after p rank empty puts named.
    let names = c.args.names.now.items in
    let place : IsFirstFrom c.args.rank names c.first_from-place.result = rw (c.from.ensures, c.as_slice.ensures.value) at c.first_from-place.ensures in
    let items : c.insert.new.self.items ≡ insert names c.first_from-place.result (record { rank = c.args.rank; slot = c.args.slot }) = search rules in
    subst (IsNamed after) (sym items) (named-put slots after names c.first_from-place.result c.args.rank c.args.slot p place rank empty puts named)
