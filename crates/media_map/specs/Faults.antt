-- What is printed of a fault.
use Rattle.std.specs.Prelude.{ℕ, List, codes}
use Rattle.media_map.specs.declared.fault.MediaFault.{MediaFault}
use Rattle.media_map.specs.declared.fault.MediaFault.TheVariants.{Unmapped, PassThrough, Syntax, Memory}

abbrev pub message_of : MediaFault → List ℕ
message_of Unmapped = codes "no content format stands for the media type"
message_of PassThrough = codes "coap-payload isn't passed through"
message_of Syntax = codes "malformed media type"
message_of Memory = codes "out of memory"
