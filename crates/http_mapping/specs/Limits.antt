-- How large a request may be.
use Rattle.std.specs.Prelude.{nat_lt, if◌then◌else◌}
use Rattle.limits.specs.declared.TheConstants.{MAX_REQUEST_SIZE}
use Rattle.http_edge.specs.declared.request.BadKind.TheVariants.{Large}
use Rattle.ask_model.specs.Requests.{Came, Bad}
use Rattle.ask_model.specs.Sizes.{came_size}

-- What came in, or that it is too large.
abbrev pub limited : Came → Came
limited came = if nat_lt MAX_REQUEST_SIZE (came_size came) then Bad Large else came
