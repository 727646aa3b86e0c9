-- How a cause is told.
use Rattle.std.specs.Prelude.{ℕ, List, codes}
use Rattle.ask_model.specs.declared.cause.Cause.{Cause}
use Rattle.ask_model.specs.declared.cause.Cause.TheVariants.{BadHttp, NoMap, Method, Media, Busy, Timeout, Reset, NotUnderstood}

abbrev pub cause_text : Cause → List ℕ
cause_text BadHttp = codes "bad-http"
cause_text NoMap = codes "no-map"
cause_text Method = codes "method"
cause_text Media = codes "media"
cause_text Busy = codes "busy"
cause_text Timeout = codes "timeout"
cause_text Reset = codes "reset"
cause_text NotUnderstood = codes "not-understood"
