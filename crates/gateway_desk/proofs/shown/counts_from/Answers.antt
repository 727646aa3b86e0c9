-- What the last of the messages is says which entry it counts from.
use Rattle.std.proofs.Common.{◌≡◌, true, false, map, rules, sym, ◌∙◌}
use Rattle.coap_codec.specs.Spelling.{content}
use Rattle.gateway_desk.proofs.Counts.{first-counts, last-counts}
use Rattle.gateway_desk.proofs.shown.counts_from.Goals as goal

pub returns-then-ends_valid : goal.returns-then-ends_valid
returns-then-ends_valid g c =
    let yes : c.ends_valid.result ≡ true = search rules in
    last-counts c.last.result (λ x. x.now) c.is_made_at.result c.args.journal.now.entries c.args.numbers.now (map content c.args.messages.now) c.args.moment
    c.requires.heard (sym c.ends_valid.ensures ∙ yes) c.last.ensures.value c.is_made_at.ensures

pub returns : goal.returns
returns g c =
    let no : c.ends_valid.result ≡ false = search rules in
    first-counts c.first.result (λ x. x.now) c.is_made_at-2.result c.args.journal.now.entries c.args.numbers.now (map content c.args.messages.now) c.args.moment
    c.requires.heard (sym c.ends_valid.ensures ∙ no) c.first.ensures.value c.is_made_at-2.ensures
