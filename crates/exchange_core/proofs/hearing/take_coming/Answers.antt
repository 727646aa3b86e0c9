use Rattle.std.proofs.Common.{ap, subst}
use Rattle.std.specs.Prelude.{is_none}
use Rattle.coap_codec.specs.Spelling.{content}
use Rattle.message_layer.specs.Values.{response}
use Rattle.message_layer.specs.declared.state.Up.TheVariants as U
use Rattle.endpoint_table.specs.Tables.{link_at}
use Rattle.exchange_model.specs.Matters.{Matter}
use Rattle.exchange_model.specs.Steps.{is_under}
use Rattle.exchange_model.proofs.CallerLemmas.{all-asked-for, restarts-few}
use Rattle.exchange_core.specs.Matters.{IsPrepared}
use Rattle.exchange_core.specs.States.{state_of}
use Rattle.exchange_core.proofs.MatterBy.{found-in}
use Rattle.exchange_core.proofs.Notified.{told-exchange}
use Rattle.exchange_core.proofs.Read.{found-here}
use Rattle.exchange_core.proofs.hearing.take_coming.Goals as goal

pub matter_by-requires-clause-few : goal.matter_by-requires-clause-few
matter_by-requires-clause-few g c = restarts-few (state_of c.args.s.now) c.requires.sound.kept.kept

pub matter_by-requires-clause-asked : goal.matter_by-requires-clause-asked
matter_by-requires-clause-asked g c = all-asked-for (state_of c.args.s.now) c.requires.sound.kept.kept

pub matter_by-requires-clause-open : goal.matter_by-requires-clause-open
matter_by-requires-clause-open g c = found-in (is_under c.args.heeding.token) c.args.s.now.exchanges.exchanges c.args.exchange.now c.requires.open

pub matter_by-requires-clause-ready : goal.matter_by-requires-clause-ready
matter_by-requires-clause-ready g c = c.requires.comes.hears.ready

pub matter_by-requires-clause-known : goal.matter_by-requires-clause-known
matter_by-requires-clause-known g c = c.requires.comes.hears.known

pub act-requires-clause-judged : goal.act-requires-clause-judged
act-requires-clause-judged g c =
    let S = state_of c.args.s.now in
    let x = c.args.heeding in
    let said = response (content c.requires.comes.message) in
    record {
      word = c.args.word;
      by = record {
        up = U.Response c.requires.comes.message;
        hears = c.requires.comes.hears;
        notice = c.requires.comes.notice;
        prepared = subst (λ (y : Matter). IsPrepared c.args.moment c.args.word (link_at c.args.s.now.endpoints c.args.peer) x S c.in_ok-matter.matter y)
            (told-exchange c.args.moment c.args.peer x S said (ap is_none c.requires.open)) (c.in_ok-matter.ensures.prepared said c.requires.comes.comes);
      };
    }

pub returns-clause-heard : goal.returns-clause-heard
returns-clause-heard g c =
    let S = state_of c.args.s.now in
    let x = c.args.heeding in
    let said = response (content c.requires.comes.message) in
    c.act.ensures.heard c.args.word (record {
      up = U.Response c.requires.comes.message;
      hears = c.requires.comes.hears;
      notice = c.requires.comes.notice;
      prepared = subst (λ (y : Matter). IsPrepared c.args.moment c.args.word (link_at c.args.s.now.endpoints c.args.peer) x S c.in_ok-matter.matter y)
          (told-exchange c.args.moment c.args.peer x S said (ap is_none c.requires.open)) (c.in_ok-matter.ensures.prepared said c.requires.comes.comes);
    })

pub matter_by-requires-clause-here : goal.matter_by-requires-clause-here
matter_by-requires-clause-here g c =
    found-here (state_of c.args.s.now) (is_under c.args.heeding.token) c.args.exchange.now c.requires.sound.kept.here c.requires.open
