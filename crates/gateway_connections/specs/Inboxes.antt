-- A connection's bytes now and at the mark.
use Rattle.std.specs.Prelude.{ℕ, Bool, List, take, drop}
use Rattle.gateway_connections.specs.declared.inbox.Mark.{Mark}
use Rattle.gateway_connections.specs.declared.reader.Reader.{Reader}
use Rattle.gateway_connections.specs.Inlets.{Inlet}
use Rattle.gateway_connections.specs.Readers.{text_of}

pub record InboxValue : Type 0 where
  pub current : Inlet
  pub marked : Inlet

-- The bytes are those that the reader holds.
abbrev pub inlet_of : ℕ → Reader → Bool → Bool → ℕ → Inlet
inlet_of n r told closing unread =
    record { number = n; text = text_of r; told = told; closing = closing; unread = unread }

-- What was held at the mark stands between its two places.
abbrev pub at_mark : ℕ → Mark → List ℕ → Inlet
at_mark n m bytes = record {
  number = n;
  text = drop m.start (take m.end bytes);
  told = m.told;
  closing = m.closing;
  unread = m.unread;
}
