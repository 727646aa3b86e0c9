use Rattle.std.proofs.Common.{List, Option, refl, ap, sym, subst}
use Rattle.message_layer.specs.Prepared.{IsPreparedFor}
use Rattle.message_layer.specs.declared.prepared.Hearing.{Hearing}
use Rattle.exchange_model.specs.State.{PeerLink, link_of}
use Rattle.endpoint_table.specs.Tables.{link_at}
use Rattle.exchange_core.specs.Calls.{HearsSo}
use Rattle.exchange_core.specs.Values.{CoreValue}
use Rattle.exchange_core.specs.States.{state_of, seen, given_in, outgoing, core_of}
use Rattle.exchange_core.proofs.HeardSteps.{lost-so, sealed-so}
use Rattle.exchange_core.proofs.hearing.hear.Goals as goal

pub returns-in-None-clause-heard : goal.returns-in-None-clause-heard
returns-in-None-clause-heard g c =
    let S = state_of c.args.s.now in
    let same = c.prepare_heard.ensures.same in
    let at = ap (λ (ls : List PeerLink). link_of ls c.args.peer) same in
    let token = c.token_of-token.ensures in
    subst (λ (v : CoreValue). HearsSo c.args.moment c.args.word c.args.peer c.args.datagram.now (seen c.args.s.now) v)
    (sym (ap (λ (ls : List PeerLink). core_of (record S { links = ls }) (given_in c.args.s.now) (outgoing c.args.s.now)) same))
    (lost-so c.args.moment c.args.word c.args.peer c.args.datagram.now _ S
    (link_of c.prepare_heard.new.self.links c.args.peer) (given_in c.args.s.now) (outgoing c.args.s.now)
    (record { word_is = refl; token_size = token.size; number = token.number; random = token.word })
    c.requires.sound.kept at
    (subst (λ (o : Option Hearing). IsPreparedFor c.args.moment c.args.datagram.now
    (link_at c.prepare_heard.new.self c.args.peer) o)
    c.in-None.is c.in_ok-hearing.ensures.ok))

pub returns-then-s-clause-heard : goal.returns-then-s-clause-heard
returns-then-s-clause-heard g c =
    let token = c.token_of-token.ensures in
    sealed-so c.args.moment c.args.word c.args.peer c.args.datagram.now _ (state_of c.args.s.now) (given_in c.args.s.now) (outgoing c.args.s.now)
    (record { word_is = refl; token_size = token.size; number = token.number; random = token.word }) c.if-s.true
