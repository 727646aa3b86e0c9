-- What contracts see of a request and its meaning, and of the settings that it was mapped under.
use Rattle.std.specs.Prelude.{ℕ, List, []}
use Rattle.uri_map.specs.Peers.{Lines}
use Rattle.media_map.specs.declared.form.Form.{Form}
use Rattle.media_map.specs.declared.policy.Policy.{Policy}
use Rattle.code_map.specs.Methods.{request_code}
use Rattle.code_map.specs.Statuses.{number_of}
use Rattle.http_edge.specs.declared.request.Incoming.{Incoming}
use Rattle.http_edge.specs.declared.request.Incoming.TheVariants as In
use Rattle.http_edge.specs.Requests.{content}
use Rattle.ask_model.specs.declared.meaning.Meaning.{Meaning}
use Rattle.ask_model.specs.declared.meaning.Meaning.TheVariants as Means
use Rattle.ask_model.specs.declared.meaning.Payload.{Payload}
use Rattle.ask_model.specs.declared.meaning.Payload.TheVariants.{Empty, Same, Changed}
use Rattle.ask_model.specs.declared.settings.Settings.{Settings}
use Rattle.ask_model.specs.Requests.{Came, Whole, Bad, Sense, Requests, Refuses}

abbrev pub came_of : Incoming → Came
came_of (In.Request r) = Whole (content r)
came_of (In.Bad kind) = Bad kind

-- the body that came
abbrev pub body_of : Came → List ℕ
body_of (Whole r) = r.body
body_of (Bad kind) = []

abbrev pub payload_of : Payload → List ℕ → List ℕ
payload_of Empty body = []
payload_of Same body = body
payload_of (Changed bytes) body = bytes

abbrev pub sense_of : Meaning → List ℕ → Sense
sense_of (Means.Ask method target peer accept format payload) body =
    Requests (record {
      method = request_code method;
      peer = peer;
      target = target;
      accept = accept;
      format = format;
      body = payload_of payload body;
    })
sense_of (Means.Refuse cause status) body = Refuses cause (number_of status)

-- the rules that requests are mapped by
pub record Rules : Type 0 where
  pub base : List ℕ
  pub directory : Lines
  pub observed : List (List ℕ)
  pub policy : Policy
  pub routes : List (Form × Form)

abbrev pub rules_of : Settings → Rules
rules_of s =
    record {
      base = s.base;
      directory = s.directory;
      observed = s.observed;
      policy = s.policy;
      routes = s.routes;
    }

-- a request that came in, its meaning, and the rules by which that is its mapping
pub record Ask : Type 0 where
  pub came : Came
  pub sense : Sense
  pub rules : Rules

-- the same, where it isn't asked yet
pub record Mapping : Type 0 where
  pub came : Came
  pub sense : Sense
  pub rules : Rules
