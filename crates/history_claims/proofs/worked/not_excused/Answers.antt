use Rattle.history_claims.proofs.Named.{unnamed}
use Rattle.history_claims.proofs.Refused.{second, unheeded, unrejected, abandoned}
use Rattle.history_claims.proofs.worked.not_excused.Goals as goal

pub returns-clause-second : goal.returns-clause-second
returns-clause-second c = second

pub returns-clause-unheeded : goal.returns-clause-unheeded
returns-clause-unheeded c = unheeded

pub returns-clause-unnamed : goal.returns-clause-unnamed
returns-clause-unnamed c = unnamed

pub returns-clause-unrejected : goal.returns-clause-unrejected
returns-clause-unrejected c = unrejected

pub returns-clause-abandoned : goal.returns-clause-abandoned
returns-clause-abandoned c = abandoned
