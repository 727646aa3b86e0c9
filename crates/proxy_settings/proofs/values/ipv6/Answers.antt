use Rattle.std.proofs.Common.{◌∙◌}
use Rattle.uri_map.proofs.CallerLemmas.{ipv6_read}
use Rattle.proxy_settings.proofs.values.ipv6.Goals as goal

pub returns : goal.returns
returns c = c.ok.ensures.value ∙ ipv6_read c.args.text.now _ c.parse_ascii.ensures
