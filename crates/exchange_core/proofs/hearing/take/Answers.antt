use Rattle.std.proofs.Common.{◌≡◌, ℕ, List, refl, sym, subst}
use Rattle.coap_codec.specs.Spelling.{Content}
use Rattle.coap_codec.specs.declared.message.Message.{Message}
use Rattle.message_layer.specs.Prepared.{IsHearing}
use Rattle.message_layer.specs.Values.{no_news, response, timed_out, told, was_dropped, was_reset}
use Rattle.message_layer.specs.declared.state.Up.{Up}
use Rattle.message_layer.specs.declared.state.Up.TheVariants as U
use Rattle.endpoint_table.specs.Tables.{link_at}
use Rattle.exchange_core.proofs.hearing.take.Goals as goal

-- What isn't a response is none.

nothing-else : (m : Content) → no_news ≡ response m → ⊥
nothing-else m e = cc

timed-else : (of : List ℕ) (m : Content) → timed_out of ≡ response m → ⊥
timed-else of m e = cc

reset-else : (of : List ℕ) (m : Content) → was_reset of ≡ response m → ⊥
reset-else of m e = cc

dropped-else : (m : Content) → was_dropped ≡ response m → ⊥
dropped-else m e = cc

else-none : (u : Up) (m : Content) → told u ≡ response m → ((x : Message) → u ≡ U.Response x → ⊥) → ⊥
else-none (U.Response x) m e none = none x refl
else-none U.Nothing m e none = nothing-else m e
else-none (U.TimedOut of) m e none = timed-else of m e
else-none (U.Reset of) m e none = reset-else of m e
else-none U.Dropped m e none = dropped-else m e

pub take_reply-requires-clause-hears : goal.take_reply-requires-clause-hears
take_reply-requires-clause-hears g c =
    subst (λ (u : Up). IsHearing c.args.moment c.args.datagram.now (link_at c.args.s.now.endpoints c.args.peer) (record { heeding = c.args.hearing.heeding; up = u })) c.in-Response.is c.requires.hears

pub take_reply-requires-clause-open : goal.take_reply-requires-clause-open
take_reply-requires-clause-open g c = sym c.in-Some.ensures

pub take_alone-requires-clause-hears : goal.take_alone-requires-clause-hears
take_alone-requires-clause-hears g c = c.requires.hears

pub take_alone-requires-clause-alone : goal.take_alone-requires-clause-alone
take_alone-requires-clause-alone g c = λ m is. absurd (else-none c.args.hearing.up m is c.in_default.not-Response)

pub take_alone-requires-in-None-clause-hears : goal.take_alone-requires-in-None-clause-hears
take_alone-requires-in-None-clause-hears g c =
    subst (λ (u : Up). IsHearing c.args.moment c.args.datagram.now (link_at c.args.s.now.endpoints c.args.peer) (record { heeding = c.args.hearing.heeding; up = u })) c.in-Response.is c.requires.hears

pub take_alone-requires-in-None-clause-alone : goal.take_alone-requires-in-None-clause-alone
take_alone-requires-in-None-clause-alone g c = λ m is. sym c.in-None.ensures
