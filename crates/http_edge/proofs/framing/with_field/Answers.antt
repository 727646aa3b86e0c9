use Rattle.http_edge.proofs.Framings.{listed_before, listed_last}
use Rattle.http_edge.proofs.framing.with_field.Goals as goal
use Rattle.http_edge.proofs.framing.with_field.Goals.{then-found, else-found, then-found-2, else-found-2}

pub returns : goal.returns
returns c = λ fields f. (
  c.with_value.ensures fields f.0,
  c.with_value-2.ensures fields f.1,
  c.with_value-3.ensures fields f.2,
  elim c.if-found.branch [
    | then-found w ↦ rw w.result-is (listed_before _ _ fields _ c.args.found.closes f.3 w.if-found.true)
    | else-found w ↦ rw w.result-is (listed_last _ _ fields _ c.args.found.closes _ f.3 w.if-found.false w.field_lists.ensures)
  ],
  elim c.if-found-2.branch [
    | then-found-2 w ↦ rw w.result-is (listed_before _ _ fields _ c.args.found.expects f.4 w.if-found-2.true)
    | else-found-2 w ↦ rw w.result-is (listed_last _ _ fields _ c.args.found.expects _ f.4 w.if-found-2.false w.field_lists-else-found-2.ensures)
  ],
)
