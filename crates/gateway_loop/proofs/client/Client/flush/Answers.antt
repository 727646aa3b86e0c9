-- What was written was the first of what was left.
use Rattle.std.proofs.Common.{rules, ◌-◌, length, take, drop}
use Rattle.gateway_loop.proofs.Moving.{split_rest}
use Rattle.gateway_loop.proofs.client.Client.flush.Goals as goal

pub returns-after-self-len-2-clause-writes : goal.returns-after-self-len-2-clause-writes
returns-after-self-len-2-clause-writes g c =
    let gone = c.self.inside.gone in
    let out = c.deref.result.now in
    let parts = split_rest gone c.in-Bytes.n out c.self.inside.out.items c.deref.ensures.value in
    record {
      bytes = take c.in-Bytes.n (take (length out - gone) (drop gone out));
      went = search rules;
      quiet = search rules;
      left = search (rules, parts);
      unfed = search rules;
      leaving = search rules;
    }
