-- No route so far leads to the media type.
use Rattle.std.proofs.Common.{◌≡◌, drop}
use Rattle.media_map.specs.Accepting.{routed}
use Rattle.media_map.specs.Views.{named_of}
use Rattle.media_map.proofs.pick.first_route.Given as goal

abbrev pub invariant-each : goal.invariant-each
invariant-each l = routed l.routes (named_of l.media) ≡ routed (drop l.route-index l.routes) (named_of l.media)
