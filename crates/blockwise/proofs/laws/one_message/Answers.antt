use Rattle.blockwise.proofs.OneMessage.{only_piece, only_answer}
use Rattle.blockwise.proofs.laws.one_message.Goals as goal

pub returns-clause-downloads : goal.returns-clause-downloads
returns-clause-downloads c = only_piece

pub returns-clause-uploads : goal.returns-clause-uploads
returns-clause-uploads c = only_answer
