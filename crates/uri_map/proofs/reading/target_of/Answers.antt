use Rattle.uri_map.proofs.Faults.{only_found, never_found}
use Rattle.std.proofs.lemmas.Result.{err_from_is_err_and}
use Rattle.uri_map.proofs.reading.target_of.Goals as goal

pub returns-clause-memory : goal.returns-clause-memory
returns-clause-memory c = only_found c.args.base.now c.args.text.now c.in_ok-written.written c.build.result c.in_ok-written.ensures c.build.ensures

pub returns-in_err-written-clause-memory : goal.returns-in_err-written-clause-memory
returns-in_err-written-clause-memory c =
    let fault = err_from_is_err_and c.from_residual.result c.from_residual.ensures.1 in
    never_found c.args.base.now c.args.text.now c.from_residual.result _ _ fault.1 fault.2 c.in_err-written.ensures
