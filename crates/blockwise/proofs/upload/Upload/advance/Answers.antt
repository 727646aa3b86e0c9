use Rattle.std.proofs.Common.{arith, ◌≤◌, ◌<◌, ◌+◌, ap, ◌∙◌}
use Rattle.blockwise.specs.Reading.{size_of}
use Rattle.blockwise.specs.Uploads.{is_last, next_szx}
use Rattle.blockwise.proofs.WholeBlocks.{one_block_more}
use Rattle.blockwise.proofs.Sent.{next_szx-le, more_left}
use Rattle.blockwise.proofs.upload.Upload.advance.Goals as goal

pub invariant_of-self : goal.invariant_of-self
invariant_of-self c =
    let i = c.self.invariant in
    let lt : c.self.inside.taken + size_of c.self.inside.szx < c.self.inside.len = more_left c.self.inside.len (c.self.inside.taken + size_of c.self.inside.szx) (ap is_last c.self.view_is ∙ c.requires.before_last) in
    let le : next_szx c.block1_in.result c.self.inside.szx ≤ c.self.inside.szx = next_szx-le c.block1_in.result c.self.inside.szx in
    record {
      len = i.len;
      taken = rw c.size_of.ensures.value (omega (arith, lt));
      szx = rw c.next_szx-self-inside.ensures (omega (arith, le, i.szx));
      aligned = rw (c.size_of.ensures.value, c.next_szx-self-inside.ensures) (one_block_more c.self.inside.taken c.self.inside.szx (next_szx c.block1_in.result c.self.inside.szx) le i.aligned);
    }
