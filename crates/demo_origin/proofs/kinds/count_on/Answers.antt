use Rattle.std.proofs.Common.{◌≡◌, ◌+◌, ◌<◌, ◌≤◌, Bool, true, nat_lt, length, inl, refl, sym, ap, subst, arith, rules}
use Rattle.std.proofs.lemmas.Bool.{lt-ltb}
use Rattle.std.proofs.lemmas.Fmt.{length-decimal-le}
use Rattle.std.specs.Fmt.{decimal}
use Rattle.demo_origin.specs.Values.{Replied, replied}
use Rattle.demo_origin.specs.Kinds.{CountsOn}
use Rattle.demo_origin.proofs.kinds.count_on.Goals as goal

pub returns-clause-does : goal.returns-clause-does
returns-clause-does c =
    let n = c.args.n in
    let lt : n < 18446744073709551615 =
    omega (arith, c.if-n-eq18446744073709551615.false, c.ranges.n.fits) in
    let test : nat_lt n 18446744073709551615 ≡ true = lt-ltb n 18446744073709551615 lt in
    let after = c.in_ok-from_slice-2.field-0.items in
    let reply = replied c.in_ok-reply-2.reply in
    let bytes : after ≡ decimal (n + 1) = search rules in
    let says : reply ≡ record { code = 68; payload = decimal (n + 1); changed = true } =
    search rules in
    let few : length (decimal (n + 1)) ≤ 20 =
    length-decimal-le 20 (n + 1) (omega arith) (omega arith) (omega arith) in
    let code : reply.code ≡ 68 = ap (λ (r : Replied). r.code) says in
    let P : Bool → Type 0 = λ b. CountsOn b n c.args.state.now after reply in
    record {
      kept = subst P (sym test) (bytes, says);
      code = rw code (inl refl);
      short = rw bytes (omega (arith, few));
    }
