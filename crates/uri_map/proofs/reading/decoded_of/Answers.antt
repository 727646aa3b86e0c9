use Rattle.std.proofs.Common.{◌≡◌, sym, ◌∙◌}
use Rattle.percent_encoding.specs.declared.DecodeError.TheVariants.{OutOfMemory, Utf8}
use Rattle.uri_map.proofs.TextLists.{ok_is_utf8, ok_is_decoded}
use Rattle.uri_map.proofs.reading.decoded_of.Goals as goal

pub returns-in-Utf8 : goal.returns-in-Utf8
returns-in-Utf8 c =
    let only = c.in-Err.ensures.utf8 (rw c.percent_decode.ensures.bytes (ok_is_utf8 c.args.part c.args.piece.now c.requires)) in
    let both : Utf8 c.in-Utf8.field-0 ≡ OutOfMemory = sym c.in-Utf8.is ∙ only in
    absurd cc

pub returns-in_ok-copy_of-in-Ok : goal.returns-in_ok-copy_of-in-Ok
returns-in_ok-copy_of-in-Ok c =
    let decoded = ok_is_decoded c.args.part c.args.piece.now c.requires in
    cc (decoded, c.in_ok-copy_of-in-Ok.ensures, c.as_str.ensures.value, c.in-Ok.ensures.value, c.percent_decode.ensures.bytes)
