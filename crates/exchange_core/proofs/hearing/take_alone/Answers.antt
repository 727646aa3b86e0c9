use Rattle.coap_codec.specs.Reading.{message_at}
use Rattle.exchange_model.proofs.CallerLemmas.{all-digested, all-watched-for}
use Rattle.exchange_core.specs.States.{state_of}
use Rattle.exchange_core.proofs.HeardNotes.{under-told}
use Rattle.exchange_core.proofs.Read.{asks-here, watches-here}
use Rattle.exchange_core.proofs.Sounding.{few-entries}
use Rattle.exchange_core.proofs.hearing.take_alone.Goals as goal

pub matter_told-requires-clause-watched : goal.matter_told-requires-clause-watched
matter_told-requires-clause-watched g c = all-watched-for (state_of c.args.s.now) c.requires.sound.kept.kept

pub matter_told-requires-clause-digests : goal.matter_told-requires-clause-digests
matter_told-requires-clause-digests g c = all-digested (state_of c.args.s.now) c.requires.sound.kept.kept

pub matter_told-requires-clause-ready : goal.matter_told-requires-clause-ready
matter_told-requires-clause-ready g c = c.requires.hears.ready

pub matter_told-requires-clause-known : goal.matter_told-requires-clause-known
matter_told-requires-clause-known g c = c.requires.hears.known

pub matter_told-requires-clause-under : goal.matter_told-requires-clause-under
matter_told-requires-clause-under g c =
    under-told c.args.moment c.args.datagram.now _ (record { heeding = c.args.heeding; up = c.args.up }) (message_at c.args.datagram.now) c.requires.hears.is

pub act-requires-clause-judged : goal.act-requires-clause-judged
act-requires-clause-judged g c = record {
  word = c.args.word;
  by = record {
    up = c.args.up;
    hears = c.requires.hears;
    notice = c.notice_told-notice.ensures;
    prepared = c.in_ok-matter.ensures.prepared;
  };
}

pub returns-clause-heard : goal.returns-clause-heard
returns-clause-heard g c = c.act.ensures.heard c.args.word (record {
  up = c.args.up;
  hears = c.requires.hears;
  notice = c.notice_told-notice.ensures;
  prepared = c.in_ok-matter.ensures.prepared;
})

pub matter_told-requires-clause-entries : goal.matter_told-requires-clause-entries
matter_told-requires-clause-entries g c = few-entries (state_of c.args.s.now) c.requires.sound.kept

pub matter_told-requires-clause-here : goal.matter_told-requires-clause-here
matter_told-requires-clause-here g c = asks-here (state_of c.args.s.now) c.requires.sound.kept.here

pub matter_told-requires-clause-watches : goal.matter_told-requires-clause-watches
matter_told-requires-clause-watches g c = watches-here (state_of c.args.s.now) c.requires.sound.kept.here
