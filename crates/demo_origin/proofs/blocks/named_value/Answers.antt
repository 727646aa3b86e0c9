use Rattle.demo_origin.proofs.Pieces.{value_named}
use Rattle.demo_origin.proofs.blocks.named_value.Goals as goal

pub returns-clause-is : goal.returns-clause-is
returns-clause-is c =
    value_named c.block_of.result c.args.value.now c.block_of.ensures.found
    c.block_of.ensures.none
