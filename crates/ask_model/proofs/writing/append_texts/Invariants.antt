use Rattle.std.proofs.Common.{drop}
use Rattle.uri_map.specs.Limits.{options_with}
use Rattle.ask_model.proofs.Written.{Appends}
use Rattle.ask_model.proofs.writing.append_texts.Given as goal

abbrev pub invariant-each : goal.invariant-each
invariant-each l = Appends l.initial.last l.number (options_with l.number l.texts) l.last (drop l.text-index l.texts) l.initial.out.items l.out.items
