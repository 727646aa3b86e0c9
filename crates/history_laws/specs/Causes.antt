-- Which causes requests are refused for.
use Rattle.std.specs.Prelude.{⊤}
use Rattle.ask_model.specs.declared.cause.Cause.{Cause}
use Rattle.ask_model.specs.declared.cause.Cause.TheVariants.{BadHttp, NoMap, Method, Media}

-- The cause is one that a request is refused for.
abbrev pub IsRefusal : Cause → Type 0
IsRefusal BadHttp = ⊤
IsRefusal NoMap = ⊤
IsRefusal Method = ⊤
IsRefusal Media = ⊤
IsRefusal _ = ⊥
