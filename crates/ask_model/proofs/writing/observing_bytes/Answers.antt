use Rattle.std.proofs.Common.{[], arith, sym}
use Rattle.std.proofs.lemmas.List.{append-nil}
use Rattle.ask_model.proofs.Written.{written_whole}
use Rattle.ask_model.proofs.writing.observing_bytes.Goals as goal

pub returns : goal.returns
returns c =
    written_whole c.args.code c.args.mid c.args.token.now _ _ [] _ _ c.append_observing.new.out.items c.requires.code c.in_ok-out.ensures.token (omega arith) c.in_ok-out.ensures.ok c.in_ok-append_observing.ensures (sym (append-nil c.append_observing.new.out.items))
