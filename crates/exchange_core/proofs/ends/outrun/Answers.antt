use Rattle.std.proofs.Common.{◌≡◌, ◌∷◌, [], true, List, length, sym, subst, ◌∙◌}
use Rattle.std.specs.Prelude.{◌==◌}
use Rattle.exchange_model.specs.declared.kept.Exchange.{Exchange}
use Rattle.exchange_model.specs.Matters.{outrun_by}
use Rattle.exchange_core.proofs.Empty.{stay-as-they-are}
use Rattle.exchange_core.proofs.ends.outrun.Goals as goal

pub returns-then-is_empty : goal.returns-then-is_empty
returns-then-is_empty g c =
    stay-as-they-are (outrun_by c.args.journal.now.entries (c.args.ended.now ∷ [])) c.args.exchanges.now.exchanges
    (subst (λ (es : List Exchange). (length es == 0) ≡ true) c.as_slice.ensures.all (sym c.is_empty.ensures ∙ c.if-is_empty.true))
