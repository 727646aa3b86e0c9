-- No more went than there was.
use Rattle.std.proofs.Common.{length}
use Rattle.loop_system.proofs.client.ClientStream.write.Goals as goal

pub returns-clause-fits : goal.returns-clause-fits
returns-clause-fits c = c.told.ensures (length c.args.bytes.now) c.write.ensures.bound
