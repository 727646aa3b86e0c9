use Rattle.std.proofs.Common.{sym, ap, subst}
use Rattle.std.specs.Prelude.{is_none, IfOk}
use Rattle.coap_codec.specs.Spelling.{content}
use Rattle.message_layer.specs.Values.{Told, told}
use Rattle.endpoint_table.specs.Tables.{link_at}
use Rattle.exchange_model.specs.Matters.{Matter}
use Rattle.exchange_core.specs.declared.matter.Matter.{Matter as RustMatter}
use Rattle.exchange_core.specs.Matters.{IsPrepared}
use Rattle.exchange_core.specs.Notifying.{matter_told}
use Rattle.exchange_core.specs.States.{state_of}
use Rattle.exchange_core.proofs.Notified.{told-watch}
use Rattle.exchange_core.proofs.updates.matter_told.Goals as goal

pub returns-in-Response-clause-prepared : goal.returns-in-Response-clause-prepared
returns-in-Response-clause-prepared g c =
    let S = state_of c.args.s.now in
    let x = c.args.heeding.now in
    let link = link_at c.args.s.now.endpoints c.args.peer.now in
    let alone = ap is_none (c.requires.alone (content c.in-Response.message) (ap told c.in-Response.is)) in
    subst (λ (u : Told). IfOk c.tells.result (λ (k : RustMatter). IsPrepared c.args.moment c.args.word link x S k (matter_told c.args.moment c.args.peer.now x u S))) (sym (ap told c.in-Response.is))
    (subst (λ (y : Matter). IfOk c.tells.result (λ (k : RustMatter). IsPrepared c.args.moment c.args.word link x S k y))
    (told-watch c.args.moment c.args.peer.now x S (content c.in-Response.message) alone) c.tells.ensures.prepared)

pub returns-in-Reset-clause-prepared : goal.returns-in-Reset-clause-prepared
returns-in-Reset-clause-prepared g c =
    let S = state_of c.args.s.now in
    let x = c.args.heeding.now in
    let link = link_at c.args.s.now.endpoints c.args.peer.now in
    subst (λ (u : Told). IsPrepared c.args.moment c.args.word link x S c.reset_of.result (matter_told c.args.moment c.args.peer.now x u S)) (sym (ap told c.in-Reset.is))
    (c.reset_of.ensures.prepared c.args.moment c.args.word c.args.token.now c.args.peer.now link x c.requires.token)
