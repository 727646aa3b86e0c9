use Rattle.std.proofs.Common.{length, ap, refl, subst, arith}
use Rattle.std.specs.Prelude.{is_none}
use Rattle.coap_codec.specs.Spelling.{content}
use Rattle.message_layer.specs.Values.{response}
use Rattle.message_layer.specs.declared.state.Up.TheVariants as U
use Rattle.endpoint_table.specs.Tables.{link_at}
use Rattle.exchange_model.specs.Matters.{Matter}
use Rattle.exchange_model.specs.State.{State}
use Rattle.exchange_model.specs.Steps.{is_under}
use Rattle.exchange_model.proofs.CallerLemmas.{restarts-few}
use Rattle.exchange_progress.specs.Coming.{AsksSayable}
use Rattle.exchange_progress.specs.declared.coming.Coming.{Coming}
use Rattle.exchange_core.specs.declared.matter.Matter.TheVariants as M
use Rattle.exchange_core.specs.Matters.{IsAnsweredSo, IsPrepared, answer_in}
use Rattle.exchange_core.specs.Notifying.{notice_told}
use Rattle.exchange_core.specs.States.{state_of}
use Rattle.exchange_core.proofs.MatterBy.{few-found, prepared-ends, response-some}
use Rattle.exchange_core.proofs.Notified.{told-exchange}
use Rattle.exchange_core.specs.Reading.{IsComingHere}
use Rattle.exchange_core.proofs.Read.{found-here, pieces-here}
use Rattle.exchange_core.proofs.hearing.take_reply.Goals as goal

pub replied_to-requires-clause-few : goal.replied_to-requires-clause-few
replied_to-requires-clause-few g c =
    few-found (is_under c.args.heeding.token) c.args.s.now.exchanges.exchanges c.args.exchange.now (restarts-few (state_of c.args.s.now) c.requires.sound.kept.kept) c.requires.open

pub take_coming-requires-clause-comes : goal.take_coming-requires-clause-comes
take_coming-requires-clause-comes g c =
    let S : State = state_of c.args.s.now in
    record {
      message = c.args.message;
      hears = c.requires.hears;
      notice = c.notice_of-notice.ensures;
      comes = response-some c.len-number.result (content c.args.message) c.args.heeding.token S c.args.exchange.now c.in_ok-coming.coming c.requires.open c.len-number.ensures
          c.in_ok-coming.ensures.coming;
    }

pub take_coming-requires-in-Goes-clause-sayable : goal.take_coming-requires-in-Goes-clause-sayable
take_coming-requires-in-Goes-clause-sayable g c = subst AsksSayable c.in-Goes.is c.in_ok-coming.ensures.sayable

pub take_coming-requires-in-Goes-clause-comes : goal.take_coming-requires-in-Goes-clause-comes
take_coming-requires-in-Goes-clause-comes g c =
    let S : State = state_of c.args.s.now in
    record {
      message = c.args.message;
      hears = c.requires.hears;
      notice = c.notice_of-notice.ensures;
      comes = subst (λ (k : Coming). IsAnsweredSo (length S.entries) c.args.exchange.now k (answer_in (response (content c.args.message)) c.args.heeding.token S)) c.in-Goes.is
          (response-some c.len-number.result (content c.args.message) c.args.heeding.token S c.args.exchange.now c.in_ok-coming.coming c.requires.open c.len-number.ensures
          c.in_ok-coming.ensures.coming);
    }

pub end-requires-clause-observes : goal.end-requires-clause-observes
end-requires-clause-observes g c = c.ends_apart-is_apart.ensures.observes c.if-not-is_apart.false

pub end-requires-clause-writes : goal.end-requires-clause-writes
end-requires-clause-writes g c = c.ends_apart-is_apart.ensures.writes c.if-not-is_apart.false

pub end-requires-clause-judged : goal.end-requires-clause-judged
end-requires-clause-judged g c =
    let S : State = state_of c.args.s.now in
    let x = c.args.heeding in
    let e = c.args.exchange.now in
    let said = response (content c.args.message) in
    let link = link_at c.args.s.now.endpoints c.args.peer in (
      notice_told said,
      record {
        word = c.args.word;
        by = record {
          up = U.Response c.args.message;
          hears = c.requires.hears;
          notice = refl;
          prepared = subst (λ (y : Matter). IsPrepared c.args.moment c.args.word link x S (M.Over e c.in-Ends.ended) y)
              (told-exchange c.args.moment c.args.peer x S said (ap is_none c.requires.open))
              (prepared-ends c.args.moment c.args.word c.args.peer link x said S c.args.token.now c.requires.token e c.in-Ends.ended
              (subst (λ (k : Coming). IsAnsweredSo (length S.entries) e k (answer_in said x.token S)) c.in-Ends.is
              (response-some c.len-number.result (content c.args.message) x.token S e c.in_ok-coming.coming c.requires.open c.len-number.ensures
              c.in_ok-coming.ensures.coming)));
        };
      },
    )

pub returns-in-Ends-clause-heard : goal.returns-in-Ends-clause-heard
returns-in-Ends-clause-heard g c =
    let S : State = state_of c.args.s.now in
    let x = c.args.heeding in
    let e = c.args.exchange.now in
    let said = response (content c.args.message) in
    let link = link_at c.args.s.now.endpoints c.args.peer in
    c.end.ensures.heard c.args.word (notice_told said)
    (record {
      up = U.Response c.args.message;
      hears = c.requires.hears;
      notice = refl;
      prepared = subst (λ (y : Matter). IsPrepared c.args.moment c.args.word link x S (M.Over e c.in-Ends.ended) y)
          (told-exchange c.args.moment c.args.peer x S said (ap is_none c.requires.open))
          (prepared-ends c.args.moment c.args.word c.args.peer link x said S c.args.token.now c.requires.token e c.in-Ends.ended
          (subst (λ (k : Coming). IsAnsweredSo (length S.entries) e k (answer_in said x.token S)) c.in-Ends.is
          (response-some c.len-number.result (content c.args.message) x.token S e c.in_ok-coming.coming c.requires.open c.len-number.ensures
          c.in_ok-coming.ensures.coming)));
    })

pub replied_to-requires-clause-here : goal.replied_to-requires-clause-here
replied_to-requires-clause-here g c =
    pieces-here (state_of c.args.s.now) c.args.exchange.now.opening c.requires.sound.kept.here

pub replied_to-requires-clause-number : goal.replied_to-requires-clause-number
replied_to-requires-clause-number g c =
    let within = c.requires.sound.kept.here.counted.within in
    let len = c.len-number.ensures in omega (arith, within, len)

pub ends_apart-is_apart-requires : goal.ends_apart-is_apart-requires
ends_apart-is_apart-requires g c =
    found-here (state_of c.args.s.now) (is_under c.args.heeding.token) c.args.exchange.now c.requires.sound.kept.here c.requires.open

pub take_coming-requires-in-Goes-clause-coming : goal.take_coming-requires-in-Goes-clause-coming
take_coming-requires-in-Goes-clause-coming g c =
    subst (IsComingHere c.args.s.now.journal.given c.args.s.now.journal.kept) c.in-Goes.is c.in_ok-coming.ensures.here

pub end-requires-clause-here : goal.end-requires-clause-here
end-requires-clause-here g c = (
  found-here (state_of c.args.s.now) (is_under c.args.heeding.token) c.args.exchange.now c.requires.sound.kept.here c.requires.open,
  subst (IsComingHere c.args.s.now.journal.given c.args.s.now.journal.kept) c.in-Ends.is c.in_ok-coming.ensures.here,
)
