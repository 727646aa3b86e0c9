-- The worked journals that begin with copies.
use Rattle.std.proofs.Common.{inl, refl, sym, lit≤}
use Rattle.std.proofs.lemmas.Bool.{false≢true}
use Rattle.coap_codec.specs.declared.message.MsgType.TheVariants.{Ack}
use Rattle.coap_codec.specs.Spelling.{Spells}
use Rattle.coap_codec.specs.Reading.{message_at}
use Rattle.coap_codec.specs.Reading as X
use Rattle.history_laws.specs.Justified.{Legal}
use Rattle.history_laws.specs.Worked.{Holds, Refused, server}
use Rattle.history_laws.specs.WorkedMessages.{get_light}
use Rattle.history_laws.specs.WorkedCopies.{get_under, get_again, content_again_bytes, content_again, begun_with, asking_anew, answered_anew, token_used_again, id_used_again, copy_heard_as_new, copied_late}
use Rattle.history_laws.proofs.Missing.{none-stored}
use Rattle.history_laws.proofs.Messages.{get-spelled, put-spelled, content-spelled, ack-52-spelled}
use Rattle.history_laws.proofs.Resting.{at-rest, may-come, none-is}
use Rattle.history_laws.proofs.Spelled.{spelled}

pub get-again-spelled : Spells get_again (get_under 2 2)
unfolding message_at X.options_at X.option_at
get-again-spelled = spelled (get_under 2 2) _ refl refl

content-again-spelled : Spells content_again content_again_bytes
unfolding message_at X.options_at X.option_at
content-again-spelled = spelled content_again_bytes _ refl refl

legal-begun : Legal begun_with
legal-begun = (
  (
    (tt, lit≤ tt, (refl, lit≤ tt, record { spelled = get-spelled; token_size = refl; token_apart = refl; mid_apart = refl; first_wait = refl })),
    lit≤ tt,
    (refl, lit≤ tt, record { spelled = put-spelled; token_size = refl; token_apart = refl; mid_apart = refl; first_wait = refl }),
  ),
  lit≤ tt,
  (refl, lit≤ tt, record { spelled = content-spelled; such = refl; unheard = refl; remembered = refl }),
)

legal-asking : Legal asking_anew
legal-asking = (
  (
    (
      (legal-begun, lit≤ tt, (may-come _ refl refl, lit≤ tt, refl, (content-spelled, refl))),
      lit≤ tt,
      (refl, (refl, record { confirmation = record { peer = server; kind = Ack; mid = 52 }; is_owed = refl; peer = refl; spelled = ack-52-spelled })),
    ),
    lit≤ tt,
    (may-come _ refl refl, lit≤ tt, tt),
  ),
  lit≤ tt,
  (may-come _ refl refl, refl, refl, (refl, refl, refl), none-stored _ _ _ refl),
)

pub answered_anew-holds : Holds answered_anew
answered_anew-holds = (
  (
    (
      (
        legal-asking,
        lit≤ tt,
        (
          refl,
          (
            refl,
            record {
              since = 100000;
              request = get_light;
              opening = refl;
              others = _;
              first = refl;
              free = refl;
              peer = refl;
              message = refl;
              spelled = get-again-spelled;
              token_size = refl;
              token_apart = refl;
              mid_apart = refl;
              wait = 2000;
              first_wait = refl;
              least = lit≤ tt;
              greatest = lit≤ tt;
            },
          ),
        ),
      ),
      lit≤ tt,
      (may-come _ refl refl, lit≤ tt, refl, record { spelled = content-again-spelled; unheard = refl; remembered = refl; says = refl }),
    ),
    lit≤ tt,
    (refl, refl, refl, inl (6, 8, _, _, refl, refl, refl), tt),
  ),
  at-rest _ refl,
)

-- not so

pub token_used_again-refused : Refused token_used_again
token_used_again-refused h = false≢true (sym h.2.1.1.token_apart)

pub id_used_again-refused : Refused id_used_again
id_used_again-refused h = false≢true (sym h.2.1.1.mid_apart)

pub copy_heard_as_new-refused : Refused copy_heard_as_new
copy_heard_as_new-refused h = none-is _ h.2.3.unheard

pub copied_late-refused : Refused copied_late
copied_late-refused h = false≢true h.2.0
