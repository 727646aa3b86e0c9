-- Messages that go out for the first time.
use Rattle.std.specs.Prelude.{◌^◌, ◌<◌, Option, Some, None, ⊤}
use Rattle.message_layer.specs.declared.prepared.FirstSending.{FirstSending}
pub use Rattle.endpoint_table.specs.Turns.{sent_first}

-- A first timeout has 32 bits.
abbrev pub IsTimed : Option FirstSending → Type 0
IsTimed None = ⊤
IsTimed (Some x) = x.message.timeout < 2 ^ 32
