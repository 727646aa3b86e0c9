use Rattle.std.proofs.Common.{◌≡◌, ◌<◌, get_or, length, refl, arith}
use Rattle.std.proofs.Math.ListN.{set}
use Rattle.resp_cache.proofs.Linking.{linked_first, read_at}
use Rattle.resp_cache.proofs.ring.link_first.Goals as goal

pub returns-clause-linked : goal.returns-clause-linked
returns-clause-linked c =
    let ls = c.args.older.now.items in
    let ns = c.args.newer.now.items in
    let n = c.args.number in
    let lo : length ls ≡ c.args.older.now.len = omega (arith, c.args.older.now.ok) in
    let ln : length ns ≡ c.args.newer.now.len = omega (arith, c.args.newer.now.ok) in
    let sl : n < length ls = omega (arith, lo, c.requires.within.0) in
    let sn : n < length ns = omega (arith, ln, c.requires.within.1) in
    let first : c.index-first.result.now ≡ get_or ls 0 0 = read_at ls 0 c.index-first.result.now (omega (arith, sl)) c.index-first.ensures in
    let fn : get_or ls 0 0 < length ns = omega (arith, ln, c.requires.first) in
    rw (c.from.ensures, c.from-2.ensures, c.from-3.ensures, first) (linked_first ls ns (set (set ls n (get_or ls 0 0)) 0 n) (set (set ns (get_or ls 0 0) n) n 0) n fn sl sn c.requires.some refl refl)
