use Rattle.std.proofs.Common.{refl, ap, ◌∙◌, arith}
use Rattle.std.specs.Arc.{arc_value}
use Rattle.ask_model.specs.Views.{Mapping}
use Rattle.exchange_table.specs.Tables.{number_of, opening_of}
use Rattle.exchange_core.specs.States.{state_of}
use Rattle.exchange_core.proofs.Ordered.{latest, stales-before}
use Rattle.exchange_core.proofs.BeginLinks.{link-takes}
use Rattle.exchange_core.proofs.Begins.{timely, sent-next}
use Rattle.exchange_core.proofs.BeginSound.{enters-sound, enters-ok, enters-err, entered-by, exchange-is}
use Rattle.exchange_core.proofs.Sounding.{place-left}
use Rattle.exchange_core.proofs.beginning.ask.Goals as goal

pub draft_ask-requires-clause-timely : goal.draft_ask-requires-clause-timely
draft_ask-requires-clause-timely g c = timely c.args.moment c.args.message.peer _ c.args.message.submission (link-takes _ _ c.args.s.now.endpoints _ c.requires.message.ready)

pub exchange_of-exchange-requires : goal.exchange_of-exchange-requires
exchange_of-exchange-requires g c =
    let left = place-left _ _ _ _ c.requires.sound in
    let n = c.len-number.ensures in
    omega (arith, left, n)

pub returns-in-Ok-clause-sound : goal.returns-in-Ok-clause-sound
returns-in-Ok-clause-sound g c =
    let n = c.len-number.ensures in
    let asked = ap (λ (m : Mapping). m.sense) c.deref.ensures in
    let k = link-takes c.args.moment c.args.message.peer c.args.s.now.endpoints c.args.message.submission
    c.requires.message.ready in
    let next = sent-next _ _ _ _ _ k c.requires.message.waiting in
    let h = c.in_ok-draft_ask.ensures.drafts in
    let i = entered-by c.enter.result _ _ _ _ _ _ _ _ _ _ _ _ c.draft_ask.new.draft c.args.s.now c.enter.new.s
    (ap (λ (m : Mapping). m.sense) c.deref-2.ensures) (exchange-is _ _ _ _ _ _ _ _ _ _ _ asked c.requires.observes n c.exchange_of-exchange.ensures) n c.requires.keeps c.requires.message.waiting c.enter.ensures in
    enters-sound c.args.moment c.args.word c.args.conn (arc_value c.args.mapped) c.args.message.peer c.args.message.token c.args.message.first.text c.args.message.submission.sent c.draft_ask.new.draft c.args.s.now c.enter.new.s
    c.requires.sound c.requires.begins h next c.in_ok-draft_ask.ensures.answers c.enter.result i

pub returns-in-Err-clause-sound : goal.returns-in-Err-clause-sound
returns-in-Err-clause-sound g c =
    let n = c.len-number.ensures in
    let asked = ap (λ (m : Mapping). m.sense) c.deref.ensures in
    let k = link-takes c.args.moment c.args.message.peer c.args.s.now.endpoints c.args.message.submission
    c.requires.message.ready in
    let next = sent-next _ _ _ _ _ k c.requires.message.waiting in
    let h = c.in_ok-draft_ask.ensures.drafts in
    let i = entered-by c.enter.result _ _ _ _ _ _ _ _ _ _ _ _ c.draft_ask.new.draft c.args.s.now c.enter.new.s
    (ap (λ (m : Mapping). m.sense) c.deref-2.ensures) (exchange-is _ _ _ _ _ _ _ _ _ _ _ asked c.requires.observes n c.exchange_of-exchange.ensures) n c.requires.keeps c.requires.message.waiting c.enter.ensures in
    enters-sound c.args.moment c.args.word c.args.conn (arc_value c.args.mapped) c.args.message.peer c.args.message.token c.args.message.first.text c.args.message.submission.sent c.draft_ask.new.draft c.args.s.now c.enter.new.s
    c.requires.sound c.requires.begins h next c.in_ok-draft_ask.ensures.answers c.enter.result i

pub returns-in-Ok-clause-ok : goal.returns-in-Ok-clause-ok
returns-in-Ok-clause-ok g c =
    let n = c.len-number.ensures in
    let asked = ap (λ (m : Mapping). m.sense) c.deref.ensures in
    let k = link-takes c.args.moment c.args.message.peer c.args.s.now.endpoints c.args.message.submission
    c.requires.message.ready in
    let next = sent-next _ _ _ _ _ k c.requires.message.waiting in
    let h = c.in_ok-draft_ask.ensures.drafts in
    let i = entered-by c.enter.result _ _ _ _ _ _ _ _ _ _ _ _ c.draft_ask.new.draft c.args.s.now c.enter.new.s
    (ap (λ (m : Mapping). m.sense) c.deref-2.ensures) (exchange-is _ _ _ _ _ _ _ _ _ _ _ asked c.requires.observes n c.exchange_of-exchange.ensures) n c.requires.keeps c.requires.message.waiting c.enter.ensures in
    let b =
    enters-ok c.args.moment c.args.word c.args.conn (arc_value c.args.mapped) c.args.message.peer c.args.message.token c.args.message.first.text c.args.message.submission.sent c.draft_ask.new.draft c.args.s.now c.enter.new.s
    c.requires.sound c.requires.begins h next c.in_ok-draft_ask.ensures.answers c.in-Ok.field-0 (rw (c.in-Ok.is) at i) in
    (refl, refl, (n, b.1, b.2))

pub returns-in-Err-clause-err : goal.returns-in-Err-clause-err
returns-in-Err-clause-err g c =
    let n = c.len-number.ensures in
    let asked = ap (λ (m : Mapping). m.sense) c.deref.ensures in
    let k = link-takes c.args.moment c.args.message.peer c.args.s.now.endpoints c.args.message.submission
    c.requires.message.ready in
    let next = sent-next _ _ _ _ _ k c.requires.message.waiting in
    let h = c.in_ok-draft_ask.ensures.drafts in
    let i = entered-by c.enter.result _ _ _ _ _ _ _ _ _ _ _ _ c.draft_ask.new.draft c.args.s.now c.enter.new.s
    (ap (λ (m : Mapping). m.sense) c.deref-2.ensures) (exchange-is _ _ _ _ _ _ _ _ _ _ _ asked c.requires.observes n c.exchange_of-exchange.ensures) n c.requires.keeps c.requires.message.waiting c.enter.ensures in
    enters-err c.args.moment c.args.word c.args.conn (arc_value c.args.mapped) c.args.message.peer c.args.message.token c.args.message.first.text c.args.message.submission.sent c.draft_ask.new.draft c.args.s.now c.enter.new.s
    c.requires.sound c.requires.begins h next c.in_ok-draft_ask.ensures.answers (Unit {0}) c.in-Err.fault (rw (c.in-Err.is) at i)

pub enter-requires-clause-later : goal.enter-requires-clause-later
enter-requires-clause-later g c =
    stales-before (state_of c.args.s.now) c.requires.sound.kept.kept c.exchange_of-exchange.result.opening
    (ap opening_of c.exchange_of-exchange.ensures ∙ c.len-number.ensures)

pub enter-requires-clause-latest : goal.enter-requires-clause-latest
enter-requires-clause-latest g c =
    latest (state_of c.args.s.now) c.exchange_of-exchange.result c.requires.sound.kept.kept
    (ap opening_of c.exchange_of-exchange.ensures ∙ c.len-number.ensures)
    (ap number_of c.exchange_of-exchange.ensures ∙ c.requires.begins.worded.number)
