use Rattle.std.proofs.Common.{◌≡◌, ◌%◌, ◌≤◌, ℕ, length, ap, arith, nat_lt, nat_le, vec_len}
use Rattle.std.proofs.lemmas.Bool.{and_parts, leb-true}
use Rattle.message_layer.proofs.Following.{chained-more}
use Rattle.message_layer.proofs.chains.chain.Goals as goal

pub returns : goal.returns
returns c =
    let room = and_parts (nat_lt 0 c.args.chains.now.before.room) (nat_le 256 (vec_len c.args.chains.now.last)) c.requires.room in
    let table : 256 ≤ length c.args.chains.now.last.items = omega (arith, leb-true 256 (vec_len c.args.chains.now.last) room.1) in
    let count : c.len.result ≡ length c.args.messages.now.items = omega (arith, c.len.ensures.all) in
    rw (c.push_reserved.ensures.items, count)
    (chained-more _ _ _ _ c.args.h.now _ _ c.requires.chained c.requires.few table (ap (λ (n : ℕ). n % 256) c.from-own.ensures) c.index.ensures)
