use Rattle.std.proofs.Common.{◌≡◌, ◌++◌, ◌∷◌, [], ◌-◌, ◌*◌, ◌+◌, length, arith, rules}
use Rattle.coap_codec.specs.Writing.{nibble, more}
use Rattle.coap_codec.proofs.Appends.{option_spelled, four_parts}
use Rattle.coap_codec.proofs.writing.append_option.Goals as goal

pub returns : goal.returns
returns c =
    let delta = c.args.number - c.args.before in
    let value = c.args.value.now in
    let first : c.push.new.self.items ≡ c.args.out.now.items ++ (16 * nibble delta + nibble (length value)) ∷ [] = search rules in
    let second : c.push_more.new.out.items ≡ c.push.new.self.items ++ more delta = c.in_ok-push_more.ensures in
    let third : c.push_more-2.new.out.items ≡ c.push_more.new.out.items ++ more (length value) = search rules in
    let fourth : c.extend_from_slice.new.self.items ≡ c.push_more-2.new.out.items ++ value = search rules in
    (_, four_parts c.args.out.now.items _ (more delta) (more (length value)) value _ _ _ c.extend_from_slice.new.self.items first second third fourth, option_spelled c.args.before (record { number = c.args.number; value = value }) c.requires.in_order (omega arith))
