use Rattle.std.proofs.Common.{◌≡◌, drop, map}
use Rattle.std.specs.List.{list_all}
use Rattle.coap_codec.specs.Spelling.{content}
use Rattle.history_laws.specs.Responses.{is_tellable}
use Rattle.gateway_desk.proofs.replies.are_tellable.Given as goal

abbrev pub invariant-each : goal.invariant-each
invariant-each l = list_all is_tellable (map content (drop l.m-index l.messages)) ≡ list_all is_tellable (map content l.messages)
