-- A target, read step by step.
use Rattle.std.proofs.Common.{◌≡◌, ℕ, Bool, true, false, if◌then◌else◌, List, Result, Ok, Err, refl, ◌∙◌}
use Rattle.std.specs.List.{before_first}
use Rattle.uri_map.specs.declared.fault.UriFault.{UriFault}
use Rattle.uri_map.specs.declared.room.Room.{Room}
use Rattle.uri_map.specs.declared.escapes.Part.TheVariants.{Path, Query}
use Rattle.uri_map.specs.declared.target.Host.{Host}
use Rattle.uri_map.specs.declared.target.Target.{Target}
use Rattle.uri_map.specs.Marks.{ends_authority}
use Rattle.uri_map.specs.Splitting.{from_first, behind_base, behind_scheme, written_path, written_query, pieces}
use Rattle.uri_map.specs.Escapes.{part_at}
use Rattle.uri_map.specs.Authority.{authority_at}
use Rattle.uri_map.specs.Limits.{within_limits, fits, uri_options}
use Rattle.uri_map.specs.Steps.{◌>>=◌}
use Rattle.uri_map.specs.declared.fault.UriFault.TheVariants.{TooLong}
use Rattle.uri_map.specs.Rooms.{room_for}
use Rattle.uri_map.specs.Naming.{target_at}
use Rattle.uri_map.proofs.TextLists.{texts_decoded}
use Rattle.uri_map.proofs.RoomLeft.{room_found, room_missing}

-- All that reading finds before the limits.
pub record Found (base text : List ℕ) : Type 0 where
  pub below : List ℕ
  pub rest : List ℕ
  pub host : Host
  pub port : ℕ
  pub path : List (List ℕ)
  pub query : List (List ℕ)
  pub below_is : behind_base base text ≡ Ok below
  pub rest_is : behind_scheme below ≡ Ok rest
  pub place_is : authority_at (before_first ends_authority rest) ≡ Ok (host, port)
  pub path_is : part_at Path (written_path (from_first ends_authority rest)) ≡ Ok path
  pub query_is : part_at Query (written_query (from_first ends_authority rest)) ≡ Ok query

abbrev pub target : {base text : List ℕ} → Found base text → Target
target f = record { host = f.host; port = f.port; path = f.path; query = f.query }

abbrev pub room_of : {base text : List ℕ} → Found base text → Result Room UriFault
room_of f = room_for f.host (pieces 47 (written_path (from_first ends_authority f.rest))) (pieces 38 (written_query (from_first ends_authority f.rest)))

pub limits_left : (base text : List ℕ) (f : Found base text) → target_at base text ≡ within_limits (target f)
unfolding target_at
limits_left base text f = rw (f.below_is, f.rest_is, f.place_is, f.path_is, f.query_is) refl

pub target_found : (base text : List ℕ) (f : Found base text) (room : Room) → room_of f ≡ Ok room → target_at base text ≡ Ok (target f)
target_found base text f room e =
    limits_left base text f ∙ room_found (target f) _ _ room e (texts_decoded Path _ f.path f.path_is) (texts_decoded Query _ f.query f.query_is)

pub target_long : (base text : List ℕ) (f : Found base text) (fault : UriFault) → room_of f ≡ Err fault → target_at base text ≡ Err fault
target_long base text f fault e =
    limits_left base text f ∙ room_missing (target f) _ _ fault e (texts_decoded Path _ f.path f.path_is) (texts_decoded Query _ f.query f.query_is)

-- a value came by way of one before
pub by_way : {A B : Type 0} (r : Result A UriFault) (f : A → Result B UriFault) (y : B) → (r >>= f) ≡ Ok y → (x : A) × (r ≡ Ok x) × (f x ≡ Ok y)
by_way (Ok x) f y e = (x, refl, e)
by_way (Err fault) f y e = absurd cc

abbrev passed : Target → Result Target UriFault
passed t = Ok t

abbrev refused : Result Target UriFault
refused = Err TooLong

kept : (b : Bool) (t u : Target) → (if b then passed t else refused) ≡ Ok u → (t ≡ u) × (b ≡ true)
kept true t u e = (cc, refl)
kept false t u e = absurd cc

pub limits_kept : (t u : Target) → within_limits t ≡ Ok u → (t ≡ u) × (fits (uri_options t) ≡ true)
limits_kept t u e = kept (fits (uri_options t)) t u e

-- A target that is read has been found, and is within the limits.
pub record Reached (base text : List ℕ) (t : Target) : Type 0 where
  pub found : Found base text
  pub same : target found ≡ t
  pub limits : fits (uri_options t) ≡ true

pub reached : (base text : List ℕ) (t : Target) → target_at base text ≡ Ok t → Reached base text t
unfolding target_at
reached base text t e =
    let (below, below_is, e₁) = by_way (behind_base base text) _ t e in
    let (rest, rest_is, e₂) = by_way (behind_scheme below) _ t e₁ in
    let (place, place_is, e₃) = by_way (authority_at (before_first ends_authority rest)) _ t e₂ in
    let (path, path_is, e₄) = by_way (part_at Path (written_path (from_first ends_authority rest))) _ t e₃ in
    let (query, query_is, e₅) = by_way (part_at Query (written_query (from_first ends_authority rest))) _ t e₄ in
    let kept = limits_kept _ t e₅ in
    record {
      found = record { below = below; rest = rest; host = place.0; port = place.1; path = path; query = query; below_is = below_is; rest_is = rest_is; place_is = place_is; path_is = path_is; query_is = query_is };
      same = kept.0;
      limits = rw (← kept.0) kept.1;
    }
