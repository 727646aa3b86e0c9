use Rattle.std.proofs.Common.{◌≡◌, Some, length, subst, sym, ◌∙◌}
use Rattle.std.specs.Prelude.{IfOk, find}
use Rattle.coap_codec.specs.Spelling.{content}
use Rattle.observe_share.specs.Watches.{if_counts, is_under}
use Rattle.observe_share.specs.declared.notice.Notice.{Notice}
use Rattle.observe_share.specs.declared.notice.Notice.TheVariants.{Other}
use Rattle.endpoint_table.specs.Tables.{link_at}
use Rattle.history_laws.specs.Observing.{as_first}
use Rattle.exchange_model.specs.Matters.{Matter}
use Rattle.exchange_core.specs.declared.matter.Matter.{Matter as RustMatter}
use Rattle.exchange_core.specs.Matters.{IsPrepared}
use Rattle.exchange_core.specs.States.{state_of}
use Rattle.exchange_core.proofs.Notified.{alone-counting, counted-watched, other-prepared, watch-here}
use Rattle.exchange_core.proofs.updates.tells.Goals as goal

pub update-requires-clause-asked : goal.update-requires-clause-asked
update-requires-clause-asked g c =
    counted-watched c.args.s.now.journal.entries (is_under c.args.message.token) c.args.s.now.watches.standing c.args.notice c.args.moment c.in-Some.watch.now
    c.requires.watched c.in-Some.ensures

pub returns-in-Other-clause-prepared : goal.returns-in-Other-clause-prepared
returns-in-Other-clause-prepared g c =
    let S = state_of c.args.s.now in
    let t = c.args.moment in
    let p = c.args.peer.now in
    let x = c.args.heeding.now in
    let m = content c.args.message in
    let r = c.in-Some.watch.now in
    let v = c.in-Other.field-0 in
    let link = link_at c.args.s.now.endpoints p in
    subst (λ (y : Matter). IfOk c.notification.result (λ (k : RustMatter). IsPrepared t c.args.word link x S k y))
    (alone-counting t p m S (Other v) r (sym c.in-Other.is ∙ c.requires.notice) (sym c.if-not-is_such.ensures)
    (subst (λ (n : Notice). Some r ≡ if_counts n t (find (is_under m.token) S.watches)) c.in-Other.is c.in-Some.ensures))
    (other-prepared t c.args.word p link x S c.args.token.now c.requires.token c.notification.result r v (as_first (length S.entries) 0 m) c.notification.ensures.is)

pub update-requires-clause-watch : goal.update-requires-clause-watch
update-requires-clause-watch g c =
    watch-here c.args.s.now.journal.given c.args.s.now.journal.kept (is_under c.args.message.token) c.args.s.now.watches.standing c.args.notice c.args.moment
    c.in-Some.watch.now c.requires.watches c.in-Some.ensures

pub returns-in-Other-clause-here : goal.returns-in-Other-clause-here
returns-in-Other-clause-here g c = c.notification.ensures.here _ _
