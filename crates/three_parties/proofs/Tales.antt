-- What holds after some turns.
use Rattle.std.proofs.Common.{◌≡◌, ℕ, ◌+◌, ◌<◌, ◌≤◌, List, [], length, Option, Some, refl, arith}
use Rattle.std.specs.Prelude.{slice_get}
use Rattle.uri_map.specs.declared.peer.Peer.{Peer}
use Rattle.ask_model.specs.Views.{Rules}
use Rattle.journal_book.specs.Entries.{Hears}
use Rattle.history_laws.proofs.CallerLemmas.{none-some}
use Rattle.history_claims.specs.Headline.{IsEntry}
use Rattle.demo_origin.specs.Calls.{Call, Follow, left_by}
use Rattle.demo_origin.specs.Once.{heard}
use Rattle.demo_origin.specs.Values.{Device, Relation}
use Rattle.demo_origin.specs.declared.execution.Taken.{Taken}
use Rattle.story_laws.specs.Networks.{AreTimed}
use Rattle.story_laws.specs.declared.TheConstants.{LONGEST_WAY}
use Rattle.three_parties.specs.Flights.{Going, ByProxy, ByDevice, device_at, proxy_at}
use Rattle.three_parties.specs.Scenes.{Scene, later}
use Rattle.three_parties.specs.Stories.{opening}
use Rattle.three_parties.specs.declared.story.Execution.{Execution}
use Rattle.three_parties.proofs.Calls.{last_moment, WasGiven}

-- what the device heard is a datagram of the proxy's to it, that was sent at most 100 s before
pub record IsBroughtBy (flights : List Going) (t : ℕ) (p : Peer) (d : List ℕ) : Type 0 where
  pub from : p ≡ proxy_at
  pub number : ℕ
  pub flight : Going
  pub stands : slice_get flights number ≡ Some flight
  pub by : flight.by ≡ ByProxy
  pub to : flight.peer ≡ device_at
  pub bytes : flight.bytes ≡ d
  pub after : flight.moment ≤ t
  pub within : t ≤ flight.moment + LONGEST_WAY

-- an execution, and the call that told it
pub record IsDoneBy (flights : List Going) (calls : List Call) (places : List ℕ) (e : ℕ) (y : Execution) : Type 0 where
  pub place : ℕ
  pub call : Call
  pub placed : slice_get places e ≡ Some place
  pub stands : slice_get calls place ≡ Some call
  pub flight : Going
  pub sent : slice_get flights y.number ≡ Some flight
  pub by : flight.by ≡ ByProxy
  pub comes : call.event ≡ heard y.moment proxy_at flight.bytes (Some y.taken)

-- the execution that a call told
pub record IsDone (taken : List Execution) (places : List ℕ) (a : ℕ) : Type 0 where
  pub number : ℕ
  pub execution : Execution
  pub stands : slice_get taken number ≡ Some execution
  pub placed : slice_get places number ≡ Some a

pub record Tale (R : Relation) (first : Device) (s : Scene) : Type 0 where
  pub calls : List Call
  pub places : List ℕ
  pub follow : Follow R first calls
  pub left : left_by first calls ≡ s.device
  pub timed : AreTimed 0 calls
  pub late : last_moment 0 calls ≤ s.moment
  pub before : (n : ℕ) (g : Going) → slice_get s.flights n ≡ Some g → g.moment ≤ s.moment
  pub brought : (a t : ℕ) (p : Peer) (d : List ℕ) (k : Option Taken) (c : Call) → slice_get calls a ≡ Some c
      → c.event ≡ heard t p d k → IsBroughtBy s.flights t p d
  pub given : (n : ℕ) (g : Going) → slice_get s.flights n ≡ Some g → g.by ≡ ByDevice → WasGiven first calls g.peer g.bytes
  pub heard_it : (n t : ℕ) (bytes : List ℕ) → IsEntry s.world.core.state.entries n t (Hears device_at bytes)
      → WasGiven first calls proxy_at bytes
  pub done : (e : ℕ) (y : Execution) → slice_get s.taken e ≡ Some y → IsDoneBy s.flights calls places e y
  pub told : (a t : ℕ) (p : Peer) (d : List ℕ) (x : Taken) (c : Call) → slice_get calls a ≡ Some c
      → c.event ≡ heard t p d (Some x) → IsDone s.taken places a
  pub apart : (e b a : ℕ) → slice_get places e ≡ Some a → slice_get places b ≡ Some a → e ≡ b
  pub below : (e a : ℕ) → slice_get places e ≡ Some a → a < length calls
  pub few : length places ≡ length s.taken

-- ---- nothing happens

pub no-tale : (R : Relation) (rules : Rules) (first : Device) → Tale R first (opening rules first)
unfolding last_moment
no-tale R rules first = record {
  calls = [];
  places = [];
  follow = tt;
  left = refl;
  timed = tt;
  late = omega arith;
  before = λ n g e. absurd (none-some g e);
  brought = λ a t p d k c e h. absurd (none-some c e);
  given = λ n g e b. absurd (none-some g e);
  heard_it = λ n t bytes e. absurd (none-some _ e);
  done = λ e y h. absurd (none-some y h);
  told = λ a t p d x c e h. absurd (none-some c e);
  apart = λ e b a h k. absurd (none-some a h);
  below = λ e a h. absurd (none-some a h);
  few = refl;
}

pub no-tale-is : (R : Relation) (rules : Rules) (first : Device) → ((no-tale R rules first).calls ≡ []) × ((no-tale R rules first).places ≡ [])
unfolding no-tale
no-tale-is R rules first = (refl, refl)

pub tale-later : (R : Relation) (first : Device) (s : Scene) (t : ℕ) → s.moment ≤ t → Tale R first s → Tale R first (later t s)
tale-later R first s t le h =
    let late = h.late in
    record {
      calls = h.calls;
      places = h.places;
      follow = h.follow;
      left = h.left;
      timed = h.timed;
      late = omega (arith, late, le);
      before = λ n g e. let b = h.before n g e in omega (arith, b, le);
      brought = h.brought;
      given = h.given;
      heard_it = h.heard_it;
      done = h.done;
      told = h.told;
      apart = h.apart;
      below = h.below;
      few = h.few;
    }

pub tale-later-is : (R : Relation) (first : Device) (s : Scene) (t : ℕ) (le : s.moment ≤ t) (h : Tale R first s)
    → ((tale-later R first s t le h).calls ≡ h.calls) × ((tale-later R first s t le h).places ≡ h.places)
unfolding tale-later
tale-later-is R first s t le h = (refl, refl)
