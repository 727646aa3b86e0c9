-- Where it fails, a part of the text is written.
use Rattle.std.proofs.Common.{ℕ, List, OnErr, subst, take}
use Rattle.sessions.specs.Devices.{Rises, Grown}
use Rattle.sessions.proofs.writing.write_continue.Goals as goal

pub returns-clause-err : goal.returns-clause-err
returns-clause-err g c =
    let w = g.S.Stream.written c.args.stream.now in
    let x = g.S.Stream.written c.write.new.self in
    let n = g.S.Stream.count c.args.stream.now in
    let k = g.S.Stream.count c.write.new.self in
    subst (λ (text : List ℕ). OnErr c.write.result (((i : ℕ) × Grown w x (take i text)) × Rises n k)) c.as_bytes.ensures.value c.write.ensures.err
