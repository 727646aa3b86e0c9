-- What was read is kept.
use Rattle.std.proofs.Common.{rules, take}
use Rattle.gateway_loop.proofs.client.Client.read.Goals as goal

pub returns-in-Ok-clause-reads : goal.returns-in-Ok-clause-reads
returns-in-Ok-clause-reads g c = λ never. record {
  bytes = take c.in-Bytes.n c.read.new.buffer;
  came = search rules;
  quiet = search rules;
  left = search rules;
  unfed = search rules;
  leaving = search rules;
}
