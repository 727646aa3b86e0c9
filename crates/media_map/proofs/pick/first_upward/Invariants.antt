-- No route so far leads from the media type.
use Rattle.std.proofs.Common.{◌≡◌, drop}
use Rattle.std.specs.List.{find}
use Rattle.media_map.specs.declared.form.Form.{Form}
use Rattle.media_map.specs.Accepting.{is_from}
use Rattle.media_map.specs.Views.{named_of}
use Rattle.media_map.proofs.pick.first_upward.Given as goal

abbrev pub invariant-each : goal.invariant-each
invariant-each l =
    find (λ (pair : Form × Form). is_from (named_of l.media) pair.0 pair.1) l.routes
    ≡ find (λ (pair : Form × Form). is_from (named_of l.media) pair.0 pair.1) (drop l.route-index l.routes)
