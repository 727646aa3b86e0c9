-- The watches that stand, and what each call makes of them: plain lists.
use Rattle.std.specs.Prelude.{ℕ, ◌+◌, List, [], ◌∷◌, filter, Option, Some, None, Bool, true, not, nat_le, if◌then◌else◌}
use Rattle.std.specs.Str.{bytes_eq}
use Rattle.cache_key.specs.Keys.{CacheKey, same_key, same_place}
use Rattle.cache_key.specs.declared.place.Place.{Place}
use Rattle.observe_share.specs.declared.registration.Registration.{Registration}
use Rattle.observe_share.specs.declared.notice.Notice.{Notice}
use Rattle.observe_share.specs.declared.notice.Notice.TheVariants.{Update, Other}
use Rattle.observe_share.specs.declared.notice.Notified.{Notified}
use Rattle.observe_share.specs.declared.notice.Notified.TheVariants.{Unknown, Older, Updated, Ended}
use Rattle.observe_share.specs.Newer.{newer}

-- the watches in the order of their registration, and whether one more takes no memory
pub record WatchValue : Type 0 where
  pub standing : List Registration
  pub room : Bool

abbrev pub with_room : WatchValue → WatchValue
with_room w = record w { room = true }

-- it came for the request that had this token
abbrev pub is_under : List ℕ → Registration → Bool
is_under token r = bytes_eq r.token token

abbrev pub is_of : CacheKey → Registration → Bool
is_of key r = same_key r.key key

abbrev pub is_at : Place → Registration → Bool
is_at place r = same_place r.key.place place

-- nobody asked for its key in the last 120,000 ms
abbrev pub is_idle : ℕ → Registration → Bool
is_idle t r = nat_le (r.asked + 120000) t

-- those that don't pass, in their order
abbrev pub without : {X : Type 0} → (X → Bool) → List X → List X
without p xs = filter (λ x. not (p x)) xs

-- The key was asked for at this moment.
abbrev pub asked_at : CacheKey → ℕ → Registration → Registration
asked_at key t r = if is_of key r then (record r { asked = t }) else r

-- What has no number counts; what has one counts where that is newer (RFC 7641 section 3.4).
abbrev pub counts_for : Notice → ℕ → Registration → Bool
counts_for (Update v) t r = newer r.version r.moment v t
counts_for (Other (Some v)) t r = newer r.version r.moment v t
counts_for (Other None) t r = true

-- the watch, if the notice counts for it
abbrev pub if_counts : Notice → ℕ → Option Registration → Option Registration
if_counts n t None = None
if_counts n t (Some r) = if counts_for n t r then Some r else None

-- what a notice that counts makes of its watch
abbrev pub counted : Notice → ℕ → Registration → Option Registration
counted (Update v) t r = Some (record r { version = v; moment = t })
counted (Other v) t r = None

abbrev pub heard_by : Notice → ℕ → Registration → Option Registration
heard_by n t r = if counts_for n t r then counted n t r else Some r

-- the first element that passes is changed, or goes
abbrev pub in_place : {X : Type 0} → Option X → List X → List X
in_place None xs = xs
in_place (Some y) xs = y ∷ xs

abbrev pub first_changed : {X : Type 0} → (X → Bool) → (X → Option X) → List X → List X
first_changed p f [] = []
first_changed p f (x ∷ xs) = if p x then in_place (f x) xs else x ∷ first_changed p f xs

-- What came under the token, at this moment, is noted.
abbrev pub noticed : List ℕ → Notice → ℕ → List Registration → List Registration
noticed token n t ws = first_changed (is_under token) (heard_by n t) ws

-- what is told of a notice, without where it lies in memory
pub data Told : Type 0 where
  of_none : Told
  as_older : Told
  as_update : Told
  as_end : (registration : Registration) → Told

abbrev pub told_of : Notified → Told
told_of Unknown = of_none
told_of Older = as_older
told_of Updated = as_update
told_of (Ended r) = as_end r

abbrev pub counts_as : Notice → Registration → Told
counts_as (Update v) r = as_update
counts_as (Other v) r = as_end r

-- what is told of a notice, by the watch under its token
abbrev pub notice_tells : Notice → ℕ → Option Registration → Told
notice_tells n t None = of_none
notice_tells n t (Some r) = if counts_for n t r then counts_as n r else as_older
