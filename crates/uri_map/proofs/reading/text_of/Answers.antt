use Rattle.uri_map.proofs.TextLists.{ok_is_decoded}
use Rattle.uri_map.proofs.PlainTexts.{plain_decoded}
use Rattle.uri_map.proofs.reading.text_of.Goals as goal

pub returns-then-is_plain : goal.returns-then-is_plain
returns-then-is_plain c =
    let decoded = ok_is_decoded c.args.part c.args.piece.now c.requires in
    let same = plain_decoded c.args.piece.now (c.is_plain.ensures c.if-is_plain.true) in
    cc (decoded, same, c.in_ok-copy_of.ensures, c.ascii_str.ensures)
