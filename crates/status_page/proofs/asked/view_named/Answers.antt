-- The bytes that were matched are the path.
use Rattle.std.proofs.Common.{rules, ◌≡◌, refl, codes}
use Rattle.std.proofs.lemmas.Slice.Eq.{text_from_reads}
use Rattle.status_page.proofs.asked.view_named.Goals as goal

pub returns-in-47-2 : goal.returns-in-47-2
returns-in-47-2 c = let e : c.args.path.now ≡ codes "/health" = text_from_reads c.args.path.now (codes "/health") (search rules) (search rules) in rw e refl

pub returns-in-47-3 : goal.returns-in-47-3
returns-in-47-3 c = let e : c.args.path.now ≡ codes "/metrics" = text_from_reads c.args.path.now (codes "/metrics") (search rules) (search rules) in rw e refl
