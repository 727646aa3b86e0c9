use Rattle.std.proofs.Common.{arith, rules}
use Rattle.ask_model.proofs.Written.{both, written_whole}
use Rattle.ask_model.proofs.writing.asking_bytes.Goals as goal

pub returns : goal.returns
returns c =
    written_whole c.args.code c.args.mid c.args.token.now _ _ c.args.payload.now _ _ c.append_payload.new.out.items c.requires.code c.in_ok-out.ensures.token (omega arith) c.in_ok-out.ensures.ok (both c.in_ok-last.ensures.ok c.in_ok-append_block.ensures) c.in_ok-append_payload.ensures
