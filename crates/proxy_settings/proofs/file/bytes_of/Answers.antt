use native.Mathlib.Omega.{arith}
use Rattle.proxy_settings.specs.Files.{file_limit}
use Rattle.proxy_settings.proofs.Files.{fits_known}
use Rattle.proxy_settings.proofs.file.bytes_of.Goals as goal

pub returns-in-Ok-2 : goal.returns-in-Ok-2
returns-in-Ok-2 g c =
    fits_known g.F.Read.remaining c.take-front.result.limit file_limit c.args.file c.take-front.result.inner
    c.read_to_end.new.buf.items c.new-bytes.result.items c.take-front.ensures.limit c.take-front.ensures.inner
    c.new-bytes.ensures.items c.in-Ok-2.ensures.bytes
    (omega (arith, c.if-len-gt-FILE_LIMIT.false, c.len.ensures, c.read_to_end.new.buf.ok.0))
