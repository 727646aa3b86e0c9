use Rattle.std.proofs.Common.{rules}
use Rattle.ask_model.proofs.Written.{same_value}
use Rattle.ask_model.proofs.writing.append_uint.Goals as goal

pub returns : goal.returns
returns c = same_value c.args.before c.args.number _ _ _ _ c.append_option.result c.append_option.ensures (search rules)
