use Rattle.std.proofs.Common.{◌≡◌, Bool, true, false, not, refl, sym, ◌∙◌, arith}
use Rattle.std.proofs.lemmas.Bool.{false≢true}
use Rattle.endpoint_table.specs.Tables.{link_at}
use Rattle.exchange_core.specs.Matters.{more_in}
use Rattle.exchange_core.specs.States.{state_of}
use Rattle.exchange_model.proofs.CallerLemmas.{all-digested}
use Rattle.exchange_core.proofs.BeginSound.{issued-below}
use Rattle.exchange_core.proofs.Ordered.{conns-ordered, ordered}
use Rattle.exchange_core.proofs.Heard.{next-timed}
use Rattle.message_layer.specs.Values.{told}
use Rattle.message_layer.specs.declared.prepared.Hearing.{Hearing}
use Rattle.exchange_core.specs.Hearing.{watches_after}
use Rattle.exchange_core.proofs.HeardNotes.{first-so, reads-in, watched-as}
use Rattle.exchange_core.proofs.Heeds.{bytes-small, effect}
use Rattle.exchange_core.proofs.HeardSteps.{newest-in, sound-sealed, seen-sealed, sound-heard, seen-heard, tells-so}
use Rattle.exchange_core.proofs.Readers.{readers-connected}
use Rattle.exchange_core.proofs.Sounding.{few-for, few-entries}
use Rattle.exchange_core.proofs.Read.{asks-here, readers-here}
use Rattle.exchange_core.proofs.acting.act.Goals as goal

untaken : (b : Bool) → not b ≡ true → b ≡ false
untaken true e = absurd (false≢true e)
untaken false e = refl

is-taken : (b : Bool) → not b ≡ false → b ≡ true
is-taken true e = refl
is-taken false e = absurd (false≢true (sym e))

pub bring-requires-clause-reads : goal.bring-requires-clause-reads
bring-requires-clause-reads g c =
    let made = c.requires.judged.by.prepared in let h : Hearing = record { heeding = c.args.heeding; up = c.requires.judged.by.up } in
    reads-in c.args.moment c.args.peer c.args.heeding (told h.up) (state_of c.args.s.now) _ made.numbers c.args.matter c.requires.sound.kept.kept made.is

pub bring-requires-clause-readers : goal.bring-requires-clause-readers
bring-requires-clause-readers g c = readers-connected (state_of c.args.s.now) c.requires.sound.kept c.requires.sound.few

pub bring-requires-clause-timed : goal.bring-requires-clause-timed
bring-requires-clause-timed g c =
    next-timed c.args.moment c.args.peer (state_of c.args.s.now) (link_at c.args.s.now.endpoints c.args.peer) c.args.heeding
    (more_in c.args.matter) c.requires.judged.by.hears.ready c.requires.judged.by.prepared.follows refl c.requires.sound.kept.kept

pub bring-requires-clause-tells : goal.bring-requires-clause-tells
bring-requires-clause-tells g c =
    let h : Hearing = record { heeding = c.args.heeding; up = c.requires.judged.by.up } in
    tells-so c.args.moment c.requires.judged.word c.args.peer c.args.datagram.now (state_of c.args.s.now) (link_at c.args.s.now.endpoints c.args.peer) h _ _ _
    c.requires.sound c.requires.unsealed c.requires.later c.requires.early
    (bytes-small c.args.datagram.now (λ i. omega (arith, c.type_inv.datagram i)))
    c.requires.judged.by.hears refl c.args.matter c.requires.judged.by.prepared

pub bring-requires-clause-ordered : goal.bring-requires-clause-ordered
bring-requires-clause-ordered g c = conns-ordered (state_of c.args.s.now) c.requires.sound.kept

pub add_heard-requires-clause-ordered : goal.add_heard-requires-clause-ordered
add_heard-requires-clause-ordered g c = ordered (state_of c.args.s.now) c.requires.sound.kept

pub add_heard-requires-clause-issued : goal.add_heard-requires-clause-issued
add_heard-requires-clause-issued g c = issued-below _ _ _ _ c.requires.sound

pub add_heard-requires-clause-newest : goal.add_heard-requires-clause-newest
add_heard-requires-clause-newest g c =
    let made = c.requires.judged.by.prepared in
    newest-in (state_of c.args.s.now) c.requires.sound.kept.kept c.args.matter _ made.numbers made.is made.worded.number

pub add_heard-requires-clause-digests : goal.add_heard-requires-clause-digests
add_heard-requires-clause-digests g c = all-digested (state_of c.args.s.now) c.requires.sound.kept.kept

pub add_heard-requires-clause-follows : goal.add_heard-requires-clause-follows
add_heard-requires-clause-follows g c = c.requires.judged.by.prepared.follows

pub add_heard-requires-clause-known : goal.add_heard-requires-clause-known
add_heard-requires-clause-known g c = c.requires.judged.by.hears.known

pub add_heard-requires-clause-few : goal.add_heard-requires-clause-few
add_heard-requires-clause-few g c =
    few-for c.args.moment (state_of c.args.s.now) c.bring.new.draft c.requires.sound.kept
    (sym (c.in_ok-brought.ensures.taken c.args.moment) ∙ is-taken _ c.if-not-brought.false)

pub returns-then-not-brought-clause-sound : goal.returns-then-not-brought-clause-sound
returns-then-not-brought-clause-sound g c =
    let e = c.seal.ensures in let made = c.requires.judged.by.prepared in let h : Hearing = record { heeding = c.args.heeding; up = c.requires.judged.by.up } in
    sound-sealed c.args.moment c.requires.judged.word c.args.peer c.args.datagram.now
    (state_of c.args.s.now) (link_at c.args.s.now.endpoints c.args.peer) h _ _ _
    c.requires.sound c.requires.unsealed c.requires.later c.requires.early
    (bytes-small c.args.datagram.now (λ i. omega (arith, c.type_inv.datagram i)))
    c.requires.judged.by.hears refl c.args.matter made
    c.bring.new.draft (c.in_ok-brought.ensures.drafted made.numbers _ made.is) _ _ (watched-as c.args.moment c.requires.judged.word c.args.peer c.args.datagram.now (state_of c.args.s.now) (link_at c.args.s.now.endpoints c.args.peer) h
    c.args.matter c.requires.judged.by.hears refl made c.in_ok-brought.brought.watching c.args.notice c.requires.judged.by.notice c.in_ok-brought.ensures.watched) _ _ _ _
    (sym (c.in_ok-brought.ensures.taken c.args.moment) ∙ untaken _ c.if-not-brought.true) e.state e.bytes e.room e.answers

pub returns-then-not-brought-clause-heard : goal.returns-then-not-brought-clause-heard
returns-then-not-brought-clause-heard g c = λ word j.
    let e = c.seal.ensures in let made = j.prepared in let h : Hearing = record { heeding = c.args.heeding; up = j.up } in
    seen-sealed c.args.moment word c.args.peer c.args.datagram.now
    (state_of c.args.s.now) (link_at c.args.s.now.endpoints c.args.peer) h _ _ _
    c.requires.sound c.requires.unsealed c.requires.later c.requires.early
    (bytes-small c.args.datagram.now (λ i. omega (arith, c.type_inv.datagram i)))
    j.hears refl c.args.matter made
    c.bring.new.draft (c.in_ok-brought.ensures.drafted made.numbers _ made.is) _ _ (watched-as c.args.moment word c.args.peer c.args.datagram.now (state_of c.args.s.now) (link_at c.args.s.now.endpoints c.args.peer) h
    c.args.matter j.hears refl made c.in_ok-brought.brought.watching c.args.notice j.notice c.in_ok-brought.ensures.watched) _ _ _ _
    (sym (c.in_ok-brought.ensures.taken c.args.moment) ∙ untaken _ c.if-not-brought.true) e.state e.answers e.sends

pub returns-clause-sound : goal.returns-clause-sound
returns-clause-sound g c =
    let e = c.in_ok-add_heard.ensures in let made = c.requires.judged.by.prepared in let h : Hearing = record { heeding = c.args.heeding; up = c.requires.judged.by.up } in
    sound-heard c.args.moment c.requires.judged.word c.args.peer c.args.datagram.now
    (state_of c.args.s.now) (link_at c.args.s.now.endpoints c.args.peer) h _ _ _
    c.requires.sound c.requires.unsealed c.requires.later c.requires.early
    (bytes-small c.args.datagram.now (λ i. omega (arith, c.type_inv.datagram i)))
    c.requires.judged.by.hears refl c.args.matter made
    c.bring.new.draft (c.in_ok-brought.ensures.drafted made.numbers _ made.is) _ _ (watched-as c.args.moment c.requires.judged.word c.args.peer c.args.datagram.now (state_of c.args.s.now) (link_at c.args.s.now.endpoints c.args.peer) h
    c.args.matter c.requires.judged.by.hears refl made c.in_ok-brought.brought.watching c.args.notice c.requires.judged.by.notice c.in_ok-brought.ensures.watched) _ _ _ _
    (sym (c.in_ok-brought.ensures.taken c.args.moment) ∙ is-taken _ c.if-not-brought.false)
    (e.state (effect c.args.moment c.requires.judged.word c.args.peer c.args.datagram.now (state_of c.args.s.now) (link_at c.args.s.now.endpoints c.args.peer) h
    c.args.matter c.requires.judged.by.hears refl made (watches_after c.args.moment c.args.s.now.journal.entries c.in_ok-brought.brought.watching.notice c.args.matter
    c.in_ok-brought.brought.watching.more c.args.s.now.watches.standing) c.in_ok-brought.brought.watching.gone.items) (record { matter = made.is; first = first-so c.args.moment c.args.peer c.args.heeding (told h.up) (state_of c.args.s.now) _ made.numbers c.args.matter c.requires.sound.kept.kept made.is; watches = refl; gone = refl }) (c.in_ok-brought.ensures.put made.numbers _ made.is)) e.bytes e.held e.answers

pub returns-clause-heard : goal.returns-clause-heard
returns-clause-heard g c = λ word j.
    let e = c.in_ok-add_heard.ensures in let made = j.prepared in let h : Hearing = record { heeding = c.args.heeding; up = j.up } in
    seen-heard c.args.moment word c.args.peer c.args.datagram.now
    (state_of c.args.s.now) (link_at c.args.s.now.endpoints c.args.peer) h _ _ _
    c.requires.sound c.requires.unsealed c.requires.later c.requires.early
    (bytes-small c.args.datagram.now (λ i. omega (arith, c.type_inv.datagram i)))
    j.hears refl c.args.matter made
    c.bring.new.draft (c.in_ok-brought.ensures.drafted made.numbers _ made.is) _ _ (watched-as c.args.moment word c.args.peer c.args.datagram.now (state_of c.args.s.now) (link_at c.args.s.now.endpoints c.args.peer) h
    c.args.matter j.hears refl made c.in_ok-brought.brought.watching c.args.notice j.notice c.in_ok-brought.ensures.watched) _ _ _ _
    (sym (c.in_ok-brought.ensures.taken c.args.moment) ∙ is-taken _ c.if-not-brought.false)
    (e.state (effect c.args.moment word c.args.peer c.args.datagram.now (state_of c.args.s.now) (link_at c.args.s.now.endpoints c.args.peer) h
    c.args.matter j.hears refl made (watches_after c.args.moment c.args.s.now.journal.entries c.in_ok-brought.brought.watching.notice c.args.matter
    c.in_ok-brought.brought.watching.more c.args.s.now.watches.standing) c.in_ok-brought.brought.watching.gone.items) (record { matter = made.is; first = first-so c.args.moment c.args.peer c.args.heeding (told h.up) (state_of c.args.s.now) _ made.numbers c.args.matter c.requires.sound.kept.kept made.is; watches = refl; gone = refl }) (c.in_ok-brought.ensures.put made.numbers _ made.is)) e.answers e.sends

pub bring-requires-clause-few : goal.bring-requires-clause-few
bring-requires-clause-few g c = few-entries (state_of c.args.s.now) c.requires.sound.kept

pub bring-requires-clause-waiting : goal.bring-requires-clause-waiting
bring-requires-clause-waiting g c = readers-here (state_of c.args.s.now) c.requires.sound.kept.here

pub add_heard-requires-clause-here : goal.add_heard-requires-clause-here
add_heard-requires-clause-here g c = asks-here (state_of c.args.s.now) c.requires.sound.kept.here
