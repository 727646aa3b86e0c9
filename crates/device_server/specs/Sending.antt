-- A device that gave out all that was to be sent.
use Rattle.std.specs.Prelude.{[]}
use Rattle.demo_origin.specs.Values.{Device}

abbrev pub emptied : Device → Device
emptied s = record s { out = [] }
