use Rattle.std.proofs.Common.{◌≡◌, ◌&&◌, Bool, true, false, leb, le-leb, arith, ap, sym, ◌∙◌}
use Rattle.std.proofs.lemmas.Bool.{lt-leb}
use Rattle.limits.specs.declared.TheConstants.{MAX_COPIES, MAX_COPIES_LEN}
use Rattle.journal_copies.proofs.Copied.{few-is}
use Rattle.journal_copies.proofs.marks.Marks.are_few.Goals as goal

pub returns-then-self-le-MAX_COPIES : goal.returns-then-self-le-MAX_COPIES
returns-then-self-le-MAX_COPIES c = λ t ws gs h.
    let m = c.args.self.now in
    let test = c.if-self-le-MAX_COPIES.true in
    let few : leb m.count MAX_COPIES ≡ true = le-leb m.count MAX_COPIES (omega (arith, test)) in
    sym (ap (λ (b : Bool). b && leb m.bytes MAX_COPIES_LEN) few) ∙ few-is t ws gs m h

pub returns-else-self-le-MAX_COPIES : goal.returns-else-self-le-MAX_COPIES
returns-else-self-le-MAX_COPIES c = λ t ws gs h.
    let m = c.args.self.now in
    let test = c.if-self-le-MAX_COPIES.false in
    let many : leb m.count MAX_COPIES ≡ false = lt-leb m.count MAX_COPIES (omega (arith, test)) in
    many ∙ (sym (ap (λ (b : Bool). b && leb m.bytes MAX_COPIES_LEN) many) ∙ few-is t ws gs m h)
