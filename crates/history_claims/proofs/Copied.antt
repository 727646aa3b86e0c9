-- The worked journals that begin with copies, as entries.
use Rattle.std.proofs.Common.{◌≡◌, [], ◌∷◌, Some, refl, sym, ap, subst, arith}
use Rattle.coap_codec.specs.Spelling.{Content, Spells}
use Rattle.coap_codec.proofs.Unique.{spells_one}
use Rattle.journal_book.specs.Entries.{Past, Sent, Carries}
use Rattle.history_laws.specs.Readings.{entries}
use Rattle.history_laws.specs.Worked.{server}
use Rattle.history_laws.specs.WorkedMessages as M
use Rattle.history_laws.specs.WorkedCopies as W
use Rattle.history_laws.proofs.CallerLemmas.{answered_anew-holds, content-spelled, get-spelled}
use Rattle.history_claims.specs.Headline.{WasFirstSent}
use Rattle.history_claims.specs.Worked.{AnsweredAnew, Repeated, SentAgain, sent_again}
use Rattle.history_claims.proofs.Examples.{texts}
use Rattle.history_claims.proofs.Repeats.{repeats-again}
use Rattle.history_claims.proofs.Resting.{rests-heard}

pub answered-anew : AnsweredAnew
answered-anew = rests-heard W.answered_anew 9 100100 2 6 (8 ∷ []) answered_anew-holds.0 refl refl

pub repeated : Repeated
repeated =
    repeats-again W.answered_anew server 3 100000 M.content_message answered_anew-holds.0
    (record { bytes = M.content_bytes; first = 2; stands = refl; spelled = content-spelled; repeats = refl })

pub sent-again : SentAgain
sent-again block m s =
    let f = s.first in
    let text : M.get_bytes ≡ f.bytes = texts 100000 s.moment server server M.get_bytes f.bytes _ (Some f.timeout) f.stands in
    let is : m ≡ M.get_message = spells_one m M.get_message f.bytes f.spelled (subst (Spells M.get_message) text get-spelled) in
    let copy : WasFirstSent (entries sent_again) 0 0 server M.get_message =
    record {
      bytes = M.get_bytes;
      timeout = 2000;
      done = record { deed = Carries 2 Past (Sent server M.get_bytes (Some 2000)); stands = refl; says = refl };
      spelled = get-spelled;
    } in
    let same : 0 ≡ 7 = s.issued 0 0 server M.get_message copy (sym (ap (λ (m : Content). m.token) is)) in
    absurd (omega (arith, same))
