use Rattle.std.proofs.Common.{◌≡◌, ℕ, ◌-◌, length, get_or, not, ap, ◌∙◌, arith}
use Rattle.message_layer.specs.Remembering.{is_fresh}
use Rattle.message_layer.specs.declared.state.Heard.{Heard}
use Rattle.message_layer.proofs.Ordering.{many-fresh}
use Rattle.message_layer.proofs.remembered.has_free_last.Goals as goal

pub returns : goal.returns
returns c =
    let h = c.at-last.result in
    let count : c.len.result ≡ length c.args.messages.now.items = omega (arith, c.len.ensures.all) in
    let is : h ≡ get_or c.args.messages.now.items (length c.args.messages.now.items - 1024) h =
    c.at-last.ensures ∙ ap (λ (n : ℕ). get_or c.args.messages.now.items (n - 1024) h) count in
    ap not (c.is_fresh.ensures ∙ ap (λ (m : Heard). is_fresh c.args.moment m) is)
    ∙ many-fresh c.args.moment 1024 c.args.messages.now.items h c.requires.in_order (omega arith) c.requires.many
