-- What is printed of a fault.
use Rattle.std.specs.Prelude.{ℕ, List, codes}
use Rattle.exchange_core.specs.declared.fault.OpenFault.{OpenFault}
use Rattle.exchange_core.specs.declared.fault.OpenFault.TheVariants as Open
use Rattle.exchange_core.specs.declared.fault.AskFault.{AskFault}
use Rattle.exchange_core.specs.declared.fault.AskFault.TheVariants as Ask
use Rattle.exchange_core.specs.declared.fault.RotateFault.{RotateFault}
use Rattle.exchange_core.specs.declared.fault.RotateFault.TheVariants as Rotate

abbrev pub opening_text : OpenFault → List ℕ
opening_text Open.Full = codes "as many connections are open as may be"
opening_text Open.Sealed = codes "the journal is sealed"
opening_text Open.Memory = codes "out of memory"

abbrev pub asking_text : AskFault → List ℕ
asking_text Ask.Unknown = codes "no such connection is open"
asking_text Ask.Pending = codes "the connection waits for an answer"
asking_text Ask.Sealed = codes "the journal is sealed"
asking_text Ask.Memory = codes "out of memory"

abbrev pub rotating_text : RotateFault → List ℕ
rotating_text Rotate.Unsealed = codes "the journal isn't sealed"
rotating_text Rotate.Given = codes "its first entries were given out"
rotating_text Rotate.Connected = codes "a connection is open"
rotating_text Rotate.Exchanging = codes "an exchange is open"
rotating_text Rotate.Spent = codes "too few numbers are left"
rotating_text Rotate.Crowded = codes "too much is to be copied"
rotating_text Rotate.Memory = codes "out of memory"
