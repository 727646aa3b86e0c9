-- The bytes that were matched are the name.
use Rattle.std.proofs.Common.{rules, ◌≡◌, refl, codes}
use Rattle.std.proofs.lemmas.Slice.Eq.{text_from_reads}
use Rattle.code_map.proofs.method.method_of.Goals as goal

pub returns-in-DELETE : goal.returns-in-DELETE
returns-in-DELETE c = let e : c.args.name.now ≡ codes "DELETE" = text_from_reads c.args.name.now (codes "DELETE") (search rules) (search rules) in rw e refl

pub returns-in-PUT : goal.returns-in-PUT
returns-in-PUT c = let e : c.args.name.now ≡ codes "PUT" = text_from_reads c.args.name.now (codes "PUT") (search rules) (search rules) in rw e refl
