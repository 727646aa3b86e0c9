use Rattle.std.proofs.Common.{◌≡◌, ◌++◌, List, ℕ, sym, ap, subst, ◌∙◌}
use Rattle.std.specs.Prelude.{OnOk, option_and_then, option_map}
use Rattle.cache_key.specs.Keys.{place_of}
use Rattle.exchange_core.proofs.Watched.{written-none, written-nothing, written-some}
use Rattle.exchange_core.proofs.watching.add_written.Goals as goal

pub returns-in_default : goal.returns-in_default
returns-in_default g c =
    written-none c.args.journal.now.entries c.args.ended.now.ask c.args.tokens.now.items c.args.watches.now.standing
    (sym (ap (option_and_then _) c.in_default.is) ∙ c.asked.ensures)

pub returns-in_default-writing : goal.returns-in_default-writing
returns-in_default-writing g c =
    written-nothing c.args.journal.now.entries c.args.ended.now.ask c.in-Some.mapped.now.sense c.args.tokens.now.items c.args.watches.now.standing
    (sym (ap (option_and_then _) c.in-Some.is) ∙ c.asked.ensures)
    (sym (ap (option_map _) c.in_default-writing.is) ∙ c.writing.ensures)

pub returns : goal.returns
returns g c =
    let w = c.in-Some-writing.writing in
    let place = place_of w.peer w.target.now in
    subst (λ (us : List (List ℕ)). OnOk c.add_at.result (c.add_at.new.tokens.items ≡ c.args.tokens.now.items ++ us))
    (written-some c.args.journal.now.entries c.args.ended.now.ask c.in-Some.mapped.now.sense place c.among.result.now c.args.watches.now.standing
    (sym (ap (option_and_then _) c.in-Some.is) ∙ c.asked.ensures)
    (sym (ap (option_map _) c.in-Some-writing.is) ∙ c.writing.ensures) c.among.ensures.at) c.add_at.ensures
