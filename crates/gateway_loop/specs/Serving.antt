-- What the loop keeps: it drives one world, and what was written to each connection, and what is
-- left of it, is what the world gave out for it.
use Rattle.std.specs.Prelude.{◌≡◌, ⊤, ℕ, false, List, [], ◌∷◌, ◌++◌, length, flat_map, slice_get, Option, Some}
use Rattle.std.specs.List.{concat}
use Rattle.media_map.specs.declared.form.Form.{Form}
use Rattle.exchange_core.specs.Values.{Outgoing}
use Rattle.gateway_model.specs.declared.input.Happening.{Happening}
use Rattle.gateway_model.specs.declared.input.Happening.TheVariants as H
use Rattle.gateway_model.specs.declared.input.Input.{Input}
use Rattle.gateway_model.specs.Asking.{brought_by}
use Rattle.gateway_model.specs.Emissions.{Emission}
use Rattle.gateway_model.specs.Going.{goes_in}
use Rattle.gateway_model.specs.Told.{said_to}
use Rattle.gateway_world.specs.Inputs.{TakesAll}
use Rattle.gateway_world.specs.Worlds.{WorldValue, new_world}
use Rattle.gateway_loop.specs.Clients.{ClientValue}
use Rattle.gateway_loop.specs.Sockets.{Are, Hold}
use Rattle.gateway_loop.specs.Telling.{AreLast, NotesValue}

-- the bytes that are given out for a connection, in order
abbrev pub said : ℕ → List Emission → List ℕ
said c out = concat (said_to c out)

-- the bytes that inputs bring it
abbrev pub brought_in : ℕ → Input → List ℕ
brought_in c i = brought_by c i.happening

abbrev pub brought : ℕ → List Input → List ℕ
brought c is = flat_map (brought_in c) is

-- the datagrams that inputs bring
abbrev pub heard_by : Happening → List Outgoing
heard_by (H.Datagram p bytes) = record { peer = p; bytes = bytes.now } ∷ []
heard_by _ = []

abbrev pub heard_at : Input → List Outgoing
heard_at i = heard_by i.happening

abbrev pub heard_in : List Input → List Outgoing
heard_in is = flat_map heard_at is

-- the inputs that a world took, and what it gave out
pub record Past : Type 0 where
  pub inputs : List Input
  pub given : List Emission

abbrev pub then : Past → Past → Past
then p q = record { inputs = p.inputs ++ q.inputs; given = p.given ++ q.given }

-- a stream was served as the connection with this number: what had happened before that opened, and
-- since then until it went on as the next one
pub record Span : Type 0 where
  pub number : ℕ
  pub before : Past
  pub during : Past

-- what was given out for a stream as its earlier connections, the last of which comes first
abbrev pub said_over : List Span → List ℕ
said_over [] = []
said_over (s ∷ ss) = said_over ss ++ said s.number s.during.given

-- what inputs brought these
abbrev pub brought_over : List Span → List ℕ
brought_over [] = []
brought_over (s ∷ ss) = brought_over ss ++ brought s.number s.during.inputs

module _ (holds : Form → Form → List ℕ → List ℕ → Type 0)
    (takes : Form → Form → List ℕ → Type 0) where
  -- The world is one to which nothing had happened, after this.
  abbrev pub IsAfter : Past → WorldValue → Type 0
  IsAfter past w = TakesAll holds takes past.inputs (new_world w.rules) past.given w

  -- The connection with this number would open next, after this.
  abbrev pub IsNext : ℕ → Past → Type 0
  IsNext c past = (w : WorldValue) × IsAfter past w × (w.core.state.opened ≡ c)

  -- The connections follow one another: each went on until this, where the one after it opens.
  abbrev pub AreSpans : List Span → Past → Type 0
  AreSpans [] past = ⊤
  AreSpans (s ∷ ss) past =
      IsNext s.number s.before × (past ≡ then s.before s.during) × AreSpans ss s.before

  module _ {S : Type 0} (written gave : S → Option (List ℕ)) where
    -- Since the connection opened, what was written to it and what is left is what was given out
    -- for it. What was read of it is what inputs brought it, and what isn't an input yet; and, only
    -- where it leaves, what was dropped. Where its stream was served as other connections before,
    -- what was given out for them, and what inputs brought them, comes first.
    pub record IsServed (c : ℕ) (past : Past) (x : ClientValue S) : Type 0 where
      pub before : Past
      pub since : Past
      pub past_is : past ≡ then before since
      pub opened : IsNext c before
      pub spans : List Span
      pub earlier : AreSpans spans before
      pub wrote : List ℕ
      pub is_written : Are (written x.stream) wrote
      pub left : wrote ++ x.left ≡ said_over spans ++ said c since.given
      pub read : List ℕ
      pub was_read : Are (gave x.stream) read
      pub dropped : List ℕ
      pub unfed : read ≡ brought_over spans ++ brought c since.inputs ++ x.unfed ++ dropped
      pub none : x.leaving ≡ false → dropped ≡ []

    -- So each connection is served, by its number; the datagrams that the wire was given to send are
    -- those that were given out; those that it gave were inputs, in their order, but for those that
    -- were lost since memory was refused; and what is told is the last of what was given out.
    module _ {W : Type 0} (sent heard : W → Option (List Outgoing)) where
      pub record IsServing (w : WorldValue) (clients : List (Option (ClientValue S))) (wire : W)
          (told : NotesValue) : Type 0 where
        pub past : Past
        pub after : IsAfter past w
        pub numbers : length clients ≡ w.core.state.opened
        pub each :
            (c : ℕ) (x : ClientValue S) → slice_get clients c ≡ Some (Some x) → IsServed c past x
        pub goes : Are (sent wire) (goes_in past.given)
        pub came : Hold (heard wire) (heard_in past.inputs)
        pub last : AreLast past.given told
