use Rattle.std.proofs.Common.{rules, ◌≡◌, ◌≤◌, ◌<◌, ◌%◌, ◌∙◌, ap, length, Some, option_map}
use Rattle.coap_codec.specs.Spelling.{content}
use Rattle.coap_codec.specs.Values.{uint}
use Rattle.coap_codec.specs.Recognition.{value_of}
use Rattle.blockwise.specs.Reading.{block_by}
use Rattle.blockwise.proofs.Blocks.{block_found}
use Rattle.blockwise.proofs.reading.block2_in.Goals as goal

pub returns-in-Some-clause-value : goal.returns-in-Some-clause-value
returns-in-Some-clause-value c =
    let first : Some c.in-Some.value.now ≡ value_of 23 (content c.args.m.now) = c.in-Some.ensures.value in
    let len : length c.in-Some.value.now ≤ 3 = search rules in
    let szx : uint c.in-Some.value.now % 8 < 7 = search rules in
    block_found c.block_of.result c.in-Some.value.now c.block_of.ensures.found c.block_of.ensures.none len szx ∙ ap (option_map block_by) first
