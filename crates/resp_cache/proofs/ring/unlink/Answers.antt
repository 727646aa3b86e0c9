use Rattle.std.proofs.Common.{◌≡◌, ◌<◌, get_or, length, refl, arith}
use Rattle.std.proofs.Math.ListN.{set}
use Rattle.resp_cache.proofs.Linking.{linked_without, read_at}
use Rattle.resp_cache.proofs.ring.unlink.Goals as goal

pub returns-clause-linked : goal.returns-clause-linked
returns-clause-linked c =
    let ls = c.args.older.now.items in
    let ns = c.args.newer.now.items in
    let n = c.args.number in
    let lo : length ls ≡ c.args.older.now.len = omega (arith, c.args.older.now.ok) in
    let ln : length ns ≡ c.args.newer.now.len = omega (arith, c.args.newer.now.ok) in
    let inl_ : n < length ls = omega (arith, lo, c.requires.within.0) in
    let inr_ : n < length ns = omega (arith, ln, c.requires.within.1) in
    let before : c.index-before.result.now ≡ get_or ns n 0 = read_at ns n c.index-before.result.now inr_ (rw c.from.ensures at c.index-before.ensures) in
    let behind : c.index-behind.result.now ≡ get_or ls n 0 = read_at ls n c.index-behind.result.now inl_ (rw c.from-2.ensures at c.index-behind.ensures) in
    let pl : get_or ns n 0 < length ls = omega (arith, lo, c.requires.before) in
    let qn : get_or ls n 0 < length ns = omega (arith, ln, c.requires.behind) in
    rw (c.from-3.ensures, c.from-4.ensures, before, behind) (linked_without ls ns (set ls (get_or ns n 0) (get_or ls n 0)) (set ns (get_or ls n 0) (get_or ns n 0)) n pl qn refl refl)
