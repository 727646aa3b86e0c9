-- Messages that are given up at a tick.
use Rattle.std.specs.Prelude.{ℕ, List, Option, Some, None, Bool}
use Rattle.std.specs.List.{filter_map, find}
use Rattle.std.specs.Option.{option_map}
use Rattle.uri_map.specs.declared.peer.Peer.{Peer}
use Rattle.uri_map.specs.Peers.{same_peer}
use Rattle.message_layer.specs.Values.{LinkState, Told, timed_out}
use Rattle.message_layer.specs.Sending.{ticked}
use Rattle.message_layer.specs.declared.prepared.Ticking.{Ticking}
use Rattle.message_layer.specs.declared.prepared.Ticking.TheVariants.{GivesUp}
use Rattle.exchange_model.specs.State.{PeerLink}
use Rattle.endpoint_table.specs.declared.given_up.GivenUp.{GivenUp}

-- the token of the message that a link gives up at a tick
abbrev pub given_up_by : Told → Option (List ℕ)
given_up_by (timed_out token) = Some token
given_up_by _ = None

abbrev pub token_given : Ticking → Option (List ℕ)
token_given (GivesUp token next) = Some token
token_given _ = None

abbrev pub given_up : ℕ → LinkState → Option (List ℕ)
given_up t s = given_up_by (ticked t s).1

-- that of an endpoint, where one is listed
abbrev pub is_at : Peer → GivenUp → Bool
is_at p x = same_peer x.peer p

abbrev pub token_in : GivenUp → List ℕ
token_in x = x.token

abbrev pub given_at : List GivenUp → Peer → Option (List ℕ)
given_at gs p = option_map token_in (find (is_at p) gs)

-- those of the endpoints that give up one, in order
abbrev pub given_from : Peer → List ℕ → GivenUp
given_from p token = record { peer = p; token = token }

abbrev pub given_by : ℕ → PeerLink → Option GivenUp
given_by t x = option_map (given_from x.peer) (given_up t x.link)

abbrev pub given_ups : ℕ → List PeerLink → List GivenUp
given_ups t xs = filter_map (given_by t) xs
