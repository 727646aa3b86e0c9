use Rattle.std.proofs.Common.{List, rules, sym, subst, ap, ◌∙◌}
use Rattle.std.proofs.lemmas.Fn.{filter_same}
use Rattle.journal_book.specs.Journals.{is_among}
use Rattle.journal_book.specs.Keeping.{AreOf, number_of, numbers_in}
use Rattle.journal_book.specs.declared.kept.KeptEntry.{KeptEntry}
use Rattle.journal_book.proofs.Named.{filter-map, of-filter}
use Rattle.journal_book.proofs.kept.keep_named.Goals as goal

pub returns-clause-numbers : goal.returns-clause-numbers
returns-clause-numbers g c =
    let kept = filter_same _ (λ (k : KeptEntry g.row.R.Denot). is_among c.args.named.now k.number) _ (λ x b f' k. search rules) _ _ c.retain.ensures.filtered in
    ap (λ (ks : List (KeptEntry g.row.R.Denot)). numbers_in ks) kept
    ∙ filter-map number_of (is_among c.args.named.now) c.args.kept.now.items

pub returns-clause-entries : goal.returns-clause-entries
returns-clause-entries g c =
    let kept = filter_same _ (λ (k : KeptEntry g.row.R.Denot). is_among c.args.named.now k.number) _ (λ x b f' k. search rules) _ _ c.retain.ensures.filtered in
    λ ws h. subst (λ (ks : List (KeptEntry g.row.R.Denot)). AreOf ws ks) (sym kept)
    (of-filter ws (λ (k : KeptEntry g.row.R.Denot). is_among c.args.named.now k.number) c.args.kept.now.items h)
