use Rattle.std.proofs.Common.{◌∙◌}
use Rattle.uri_map.proofs.CallerLemmas.{ipv4_read}
use Rattle.proxy_settings.proofs.values.ipv4.Goals as goal

pub returns : goal.returns
returns c = c.ok.ensures.value ∙ ipv4_read c.args.text.now _ c.parse_ascii.ensures
