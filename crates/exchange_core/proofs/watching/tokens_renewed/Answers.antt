use Rattle.std.proofs.Common.{◌++◌, List, ℕ, sym, ap, ◌∙◌}
use Rattle.std.specs.Prelude.{option_map}
use Rattle.cache_key.specs.Keys.{key_of}
use Rattle.observe_share.specs.Watches.{is_of}
use Rattle.exchange_model.specs.Watching.{tokens_of}
use Rattle.exchange_core.specs.Watching.{is_renewed_for}
use Rattle.exchange_core.proofs.Empty.{no-tokens}
use Rattle.exchange_core.proofs.Watched.{renewed-none, renewed-some}
use Rattle.exchange_core.proofs.watching.tokens_renewed.Goals as goal

pub returns-then-is_empty : goal.returns-then-is_empty
returns-then-is_empty g c =
    c.new-tokens.ensures.items
    ∙ no-tokens (is_renewed_for c.args.mapped.now.sense) c.args.watches.now.standing (sym c.is_empty.ensures ∙ c.if-is_empty.true)

pub returns-in_default : goal.returns-in_default
returns-in_default g c =
    c.new-tokens.ensures.items ∙ renewed-none c.args.mapped.now.sense c.args.watches.now.standing (sym (ap (option_map _) c.in_default.is) ∙ c.reading.ensures)

pub returns : goal.returns
returns g c =
    let r = c.in-Some.reading in
    let key = key_of r.peer r.target.now r.accept in
    c.in_ok-add_renewed.ensures
    ∙ (ap (λ (ts : List (List ℕ)). ts ++ tokens_of (is_of key) c.among.result.now) c.new-tokens.ensures.items
    ∙ renewed-some c.args.mapped.now.sense key c.among.result.now c.args.watches.now.standing (sym (ap (option_map _) c.in-Some.is) ∙ c.reading.ensures) c.among.ensures.of)
