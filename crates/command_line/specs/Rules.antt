-- The rules that settings give the gateway.
use Rattle.std.specs.Prelude.{ℕ, List, ◌++◌, map, filter}
use Rattle.std.specs.Str.{str_to_ascii_lowercase}
use Rattle.media_map.specs.declared.form.Form.{Form}
use Rattle.uri_map.specs.declared.directory.Listed.{Listed}
use Rattle.uri_map.specs.Peers.{Lines}
use Rattle.ask_model.specs.Views.{Rules}
use Rattle.proxy_settings.specs.declared.origin.Origin.{Origin}
use Rattle.proxy_settings.specs.declared.route.Route.{Route}
use Rattle.proxy_settings.specs.declared.serve.Serve.{Serve}

abbrev pub line_of : Origin → Listed
line_of o = record { name = str_to_ascii_lowercase o.host; address = o.address }

abbrev pub observed_hosts : List Origin → List (List ℕ)
observed_hosts os = map (λ o. o.host) (filter (λ o. o.observe) os)

-- the two forms that a route is between
abbrev pub forms_of : Route → Form × Form
forms_of r = (r.from, r.to)

-- the routes on the way to clients, then those on the way to devices
abbrev pub routes_in : Serve → List (Form × Form)
routes_in s = map forms_of s.down ++ map forms_of s.up

abbrev pub directory_in : Serve → Lines
directory_in s = record { lines = map line_of s.origins; literals = s.literals }

abbrev pub rules_in : Serve → Rules
rules_in s = record {
  base = s.base;
  directory = directory_in s;
  observed = observed_hosts s.origins;
  policy = s.policy;
  routes = routes_in s;
}
