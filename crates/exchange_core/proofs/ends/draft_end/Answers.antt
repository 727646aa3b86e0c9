use Rattle.std.proofs.Common.{◌++◌, length, map, ℕ, List, Option, refl, ap, sym, subst, ◌∙◌, arith}
use Rattle.std.specs.List.{AllByRecursion}
use Rattle.journal_book.specs.Entries.{Deed, Written}
use Rattle.message_layer.specs.declared.prepared.FirstSending.{FirstSending}
use Rattle.exchange_model.specs.State.{State}
use Rattle.exchange_model.specs.Matters.{Matter}
use Rattle.exchange_model.specs.Calls.{told_for}
use Rattle.exchange_model.specs.Entering.{answer_of}
use Rattle.exchange_core.specs.Drafts.{IsDrafted}
use Rattle.exchange_core.specs.Ending.{IsTold, deed_of}
use Rattle.exchange_core.specs.Hearing.{link_deeds}
use Rattle.exchange_core.specs.Matters.{told_of}
use Rattle.exchange_core.specs.Sending.{IsTimed}
use Rattle.exchange_core.specs.States.{state_of}
use Rattle.exchange_core.specs.Values.{written}
use Rattle.exchange_core.proofs.Drafting.{answers-none}
use Rattle.exchange_core.proofs.Heard.{link-few, none-handed}
use Rattle.exchange_core.proofs.Tolds.{told-same}
use Rattle.exchange_core.proofs.ends.draft_end.Goals as goal

pub draft_link-requires-clause-timed : goal.draft_link-requires-clause-timed
draft_link-requires-clause-timed g c = subst IsTimed (none-handed c.args.heeding.now.next) c.requires.timed

pub tell_readers-requires-clause-room : goal.tell_readers-requires-clause-room
tell_readers-requires-clause-room g c =
    let next = c.in_ok-draft_link.ensures.drafts.next in
    let few = c.requires.few in
    let link = link-few c.args.peer c.args.datagram.now c.args.heeding.now c.args.heeding.now.next in
    let readers = c.requires.readers in
    omega (arith, next, few, link, readers)

pub tell_readers-requires-clause-told : goal.tell_readers-requires-clause-told
tell_readers-requires-clause-told g c =
    let t = c.args.moment in
    let S : State = state_of c.args.s.now in
    let k = c.requires.tells in
    let d = c.args.datagram.now in
    let x = c.args.heeding.now in
    record {
      number = length S.entries;
      how = k.is.0;
      is = k.is.2;
      told = subst (λ (y : Matter). AllByRecursion (IsTold S.entries c.draft_link.new.draft.entries t) (told_of (length S.entries) y S.readers)) k.is.1
          (subst (λ (ws : List Written). AllByRecursion (IsTold S.entries ws t) (told_of (length S.entries) k.matter S.readers))
          (ap (λ (v : Option FirstSending). map (written t) (link_deeds c.args.peer d x v)) (none-handed x.next)
          ∙ sym c.in_ok-draft_link.ensures.drafts.entries) k.told);
    }

pub returns : goal.returns
returns g c = λ new x i.
    let t = c.args.moment in
    let S : State = state_of c.args.s.now in
    let n : ℕ = length S.entries in
    let ds = link_deeds c.args.peer c.args.datagram.now c.args.heeding.now in
    let now = c.args.heeding.now.next in
    subst (λ (es : List Deed). IsDrafted t S es c.tell_readers.new.draft)
    (ap (λ (y : Matter). ds now ++ map deed_of (told_of n y S.readers)) (sym i.1)
    ∙ (ap (λ (es : List Deed). ds now ++ es) (told-same n x S.readers)
    ∙ ap (λ v. ds v ++ map answer_of (told_for n x S.readers)) (sym (none-handed now))))
    (c.in_ok-tell_readers.ensures S (ds now) n i.0 i.2 refl
    (answers-none t S (ds now) c.draft_link.new.draft c.in_ok-draft_link.ensures.drafts c.in_ok-draft_link.ensures.answers))
