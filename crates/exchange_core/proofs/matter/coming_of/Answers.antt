use Rattle.std.proofs.Common.{List, map, ap, subst, inl, sym}
use Rattle.std.specs.Prelude.{filter_map, IfOk}
use Rattle.coap_codec.specs.Spelling.{content}
use Rattle.history_laws.specs.Progress.{Progress, step}
use Rattle.exchange_model.specs.declared.kept.Piece.{Piece}
use Rattle.exchange_model.specs.Steps.{heard_in, reply_at}
use Rattle.exchange_model.specs.Matters.{progress_with}
use Rattle.exchange_progress.specs.Coming.{IsComing, comes_by}
use Rattle.std.specs.List.{AllByRecursion}
use Rattle.journal_book.specs.Journals.{IsHere}
use Rattle.exchange_progress.specs.Pieces.{IsPieceHere}
use Rattle.exchange_core.specs.Reading.{IsComingHere}
use Rattle.exchange_core.proofs.ComesHere.{comes-first, coming-here}
use Rattle.exchange_core.proofs.Read.{ok-more}
use Rattle.exchange_core.proofs.matter.coming_of.Goals as goal

pub returns-clause-coming : goal.returns-clause-coming
returns-clause-coming g c =
    let n = c.args.number in
    let e = c.args.exchange.now in
    let comes = λ (xs : List Piece). step (progress_with e.work (filter_map (heard_in c.args.s.now.journal.entries) (map (λ (x : Piece). x.number) xs))) (reply_at n (content c.args.message)) in
    subst (λ (p : Progress). IfOk c.comes_to.result (λ x. IsComing n x p)) (ap comes c.among-pieces.ensures) c.comes_to.ensures.coming

pub comes_to-requires-clause-here : goal.comes_to-requires-clause-here
comes_to-requires-clause-here g c =
    subst (AllByRecursion (IsPieceHere c.args.s.now.journal.given c.args.s.now.journal.kept)) (sym c.among-pieces.ensures)
    c.requires.here

pub returns-clause-here : goal.returns-clause-here
returns-clause-here g c =
    let journal = c.args.s.now.journal in
    let xs = c.args.s.now.fetched.pieces in
    let e = c.args.exchange.now in
    let n = c.args.number in
    let m = content c.args.message in
    let comes = comes-first (IsHere journal.given journal.kept) journal.entries xs e n m c.requires.here (inl c.requires.number) in
    ok-more (λ x. IsComing n x (comes_by journal.entries xs e n m)) (IsComingHere journal.given journal.kept)
    (λ x i. coming-here journal.given journal.kept n x (comes_by journal.entries xs e n m) i comes) _ (returns-clause-coming g c)
