use Rattle.proxy_settings.proofs.Files.{refused}
use Rattle.proxy_settings.proofs.file.setup_in.Goals as goal

pub returns-in-Err-Refused-clause-found : goal.returns-in-Err-Refused-clause-found
returns-in-Err-Refused-clause-found c = (
  c.place_of.ensures,
  refused c.args.part c.in-Ok.text.now c.args.bytes.now c.in-Err-Refused.field-0 c.in-Err-Refused.reason c.in-Ok.ensures.cases.0
      c.in-Err-Refused.field-0-is c.in-Err-Refused.ensures,
)
