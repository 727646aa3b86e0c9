use Rattle.std.proofs.Common.{◌≡◌, ◌<◌, get_or, length, refl, arith}
use Rattle.std.proofs.Math.ListN.{set}
use Rattle.resp_cache.proofs.Linking.{linked_last, read_at}
use Rattle.resp_cache.proofs.ring.link_last.Goals as goal

pub returns-clause-linked : goal.returns-clause-linked
returns-clause-linked c =
    let ls = c.args.older.now.items in
    let ns = c.args.newer.now.items in
    let n = c.args.number in
    let lo : length ls ≡ c.args.older.now.len = omega (arith, c.args.older.now.ok) in
    let ln : length ns ≡ c.args.newer.now.len = omega (arith, c.args.newer.now.ok) in
    let sl : n < length ls = omega (arith, lo, c.requires.within.0) in
    let sn : n < length ns = omega (arith, ln, c.requires.within.1) in
    let last : c.index-last.result.now ≡ get_or ns 0 0 = read_at ns 0 c.index-last.result.now (omega (arith, sn)) c.index-last.ensures in
    let ll : get_or ns 0 0 < length ls = omega (arith, lo, c.requires.last) in
    rw (c.from.ensures, c.from-2.ensures, c.from-3.ensures, last) (linked_last ls ns (set (set ls (get_or ns 0 0) n) n 0) (set (set ns n (get_or ns 0 0)) 0 n) n ll sl sn c.requires.some refl refl)
