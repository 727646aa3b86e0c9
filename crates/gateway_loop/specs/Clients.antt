-- The connection of a client.
use Rattle.std.specs.Prelude.{◌≡◌, ℕ, Bool, true, false, if◌then◌else◌, List, [], ◌++◌, drop, Option}
use Rattle.gateway_loop.specs.declared.stage.Stage.{Stage}
use Rattle.gateway_loop.specs.declared.stage.Stage.TheVariants as At
use Rattle.gateway_loop.specs.Sockets.{Grown}

-- the stream; what was given out for it and isn't written; what was read and isn't an input yet; and
-- whether it leaves, so that what is read is dropped
pub record ClientValue (S : Type 0) : Type 0 where
  pub stream : S
  pub left : List ℕ
  pub unfed : List ℕ
  pub leaving : Bool

abbrev pub is_leaving : Stage → Bool
is_leaving At.Open = false
is_leaving At.Closing = false
is_leaving At.Parked = false
is_leaving At.Leaving = true

-- one of which nothing was read, and for which nothing was given out
abbrev pub unserved : {S : Type 0} → S → ClientValue S
unserved s = record { stream = s; left = []; unfed = []; leaving = false }

-- These bytes come first of what isn't an input yet.
pub record BeginsUnfed {S : Type 0} (piece : List ℕ) (x : ClientValue S) : Type 0 where
  pub rest : List ℕ
  pub parts : x.unfed ≡ piece ++ rest

-- what isn't an input yet, with what is read
abbrev pub kept : Bool → List ℕ → List ℕ → List ℕ
kept leaving unfed bytes = if leaving then unfed else unfed ++ bytes

-- Bytes are given out for it, and are left to be written.
abbrev pub Gets : {S : Type 0} → List ℕ → ClientValue S → ClientValue S → Type 0
Gets bytes old new = new ≡ record old { left = old.left ++ bytes }

-- So many more are an input, the first of those that weren't yet.
abbrev pub Feeds : {S : Type 0} → ℕ → ClientValue S → ClientValue S → Type 0
Feeds count old new = new ≡ record old { unfed = drop count old.unfed }

module _ {S : Type 0} (written gave : S → Option (List ℕ)) where
  -- These are written, the first of what was left.
  pub record Writes (old new : ClientValue S) : Type 0 where
    pub bytes : List ℕ
    pub went : Grown (written old.stream) (written new.stream) bytes
    pub quiet : Grown (gave old.stream) (gave new.stream) []
    pub left : old.left ≡ bytes ++ new.left
    pub unfed : new.unfed ≡ old.unfed
    pub leaving : new.leaving ≡ old.leaving

  -- These are read.
  pub record Reads (old new : ClientValue S) : Type 0 where
    pub bytes : List ℕ
    pub came : Grown (gave old.stream) (gave new.stream) bytes
    pub quiet : Grown (written old.stream) (written new.stream) []
    pub left : new.left ≡ old.left
    pub unfed : new.unfed ≡ kept old.leaving old.unfed bytes
    pub leaving : new.leaving ≡ old.leaving

  -- It leaves: what isn't an input yet is dropped.
  pub record Leaves (old new : ClientValue S) : Type 0 where
    pub wrote : Grown (written old.stream) (written new.stream) []
    pub quiet : Grown (gave old.stream) (gave new.stream) []
    pub left : new.left ≡ old.left
    pub unfed : new.unfed ≡ []
    pub leaving : new.leaving ≡ true
