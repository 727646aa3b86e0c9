-- The worked journals of messages on their way.
use Rattle.std.proofs.Common.{◌≤◌, inl, inr, refl, sym, subst, arith, lit≤, lit<}
use Rattle.std.specs.Prelude.{Some}
use Rattle.std.proofs.lemmas.Bool.{false≢true}
use Rattle.coap_codec.specs.declared.message.MsgType.TheVariants.{Ack}
use Rattle.coap_codec.specs.Spelling.{Spells}
use Rattle.coap_codec.specs.Reading.{message_at}
use Rattle.coap_codec.specs.Reading as X
use Rattle.history_laws.specs.Confirmations.{empty}
use Rattle.history_laws.specs.Justified.{Legal}
use Rattle.history_laws.specs.Worked.{Holds, Refused, server, empty_ack}
use Rattle.history_laws.specs.WorkedMessages.{get_light, put_light, get_bytes, put_bytes, get_message, put_message, content_bytes, content_message, changed_bytes, changed_message, waiting, copied, let_go, answered, all_answered, given_up, copied_early, not_waited, not_acknowledged, not_copied}
use Rattle.history_laws.specs.Transmissions.{Transmission, due}
use Rattle.history_laws.proofs.Missing.{none-stored}
use Rattle.history_laws.proofs.Resting.{at-rest, may-come, some-is, none-is}
use Rattle.history_laws.proofs.Spelled.{spelled}

pub get-spelled : Spells get_message get_bytes
unfolding message_at X.options_at X.option_at
get-spelled = spelled get_bytes _ refl refl

pub put-spelled : Spells put_message put_bytes
unfolding message_at X.options_at X.option_at
put-spelled = spelled put_bytes _ refl refl

pub content-spelled : Spells content_message content_bytes
unfolding message_at X.options_at X.option_at
content-spelled = spelled content_bytes _ refl refl

pub changed-spelled : Spells changed_message changed_bytes
unfolding message_at X.options_at X.option_at
changed-spelled = spelled changed_bytes _ refl refl

pub ack-spelled : Spells (empty Ack 0) (empty_ack 0)
unfolding message_at X.options_at X.option_at
ack-spelled = spelled (empty_ack 0) _ refl refl

pub ack-52-spelled : Spells (empty Ack 52) (empty_ack 52)
unfolding message_at X.options_at X.option_at
ack-52-spelled = spelled (empty_ack 52) _ refl refl

pub legal-waiting : Legal waiting
legal-waiting = (
  (
    (
      ((tt, lit≤ tt, (may-come _ refl refl, lit≤ tt, tt)), lit≤ tt, (may-come _ refl refl, refl, refl, (refl, refl, refl), none-stored _ _ _ refl)),
      lit≤ tt,
      (
        refl,
        (
          refl,
          record {
            since = 0;
            request = get_light;
            opening = refl;
            others = _;
            first = refl;
            free = refl;
            peer = refl;
            message = refl;
            spelled = get-spelled;
            token_size = refl;
            token_apart = refl;
            mid_apart = refl;
            wait = 2000;
            first_wait = refl;
            least = lit≤ tt;
            greatest = lit≤ tt;
          },
        ),
      ),
    ),
    lit≤ tt,
    (may-come _ refl refl, refl, tt),
  ),
  lit≤ tt,
  (may-come _ refl refl, refl, refl, (refl, refl, refl), none-stored _ _ _ refl),
)

pub legal-copied : Legal copied
legal-copied = (
  (legal-waiting, lit≤ tt, (may-come _ refl refl, tt)),
  lit≤ tt,
  (
    refl,
    (
      refl,
      refl,
      record {
        opening = 1;
        message = get_message;
        moment = 0;
        timeout = Some 2000;
        way = record { timeout = 2000; copies = 0; last = 0 };
        stands = refl;
        is_outstanding = refl;
        few = lit< tt;
        is_due = lit≤ tt;
      },
    ),
  ),
)

pub legal-let-go : Legal let_go
legal-let-go = (
  (legal-copied, lit≤ tt, (may-come _ refl refl, lit≤ tt, refl, record { spelled = ack-spelled; unheard = refl; remembered = refl; says = refl })),
  lit≤ tt,
  (
    refl,
    (
      refl,
      record {
        since = 500;
        request = put_light;
        opening = refl;
        others = _;
        first = refl;
        free = refl;
        peer = refl;
        message = refl;
        spelled = put-spelled;
        token_size = refl;
        token_apart = refl;
        mid_apart = refl;
        wait = 2000;
        first_wait = refl;
        least = lit≤ tt;
        greatest = lit≤ tt;
      },
    ),
  ),
)

pub legal-answered : Legal answered
legal-answered = (
  (
    (legal-let-go, lit≤ tt, (may-come _ refl refl, lit≤ tt, refl, record { spelled = content-spelled; unheard = refl; remembered = refl; says = refl })),
    lit≤ tt,
    (refl, (refl, record { confirmation = record { peer = server; kind = Ack; mid = 52 }; is_owed = refl; peer = refl; spelled = ack-52-spelled })),
  ),
  lit≤ tt,
  (refl, refl, refl, inl (1, 9, _, _, refl, refl, refl), tt),
)

legal-all : Legal all_answered
legal-all = (
  (
    (
      (
        (
          (legal-answered, lit≤ tt, (may-come _ refl refl, lit≤ tt, refl, (content-spelled, refl))),
          lit≤ tt,
          (refl, (refl, record { confirmation = record { peer = server; kind = Ack; mid = 52 }; is_owed = refl; peer = refl; spelled = ack-52-spelled })),
        ),
        lit≤ tt,
        (may-come _ refl refl, tt),
      ),
      lit≤ tt,
      (
        refl,
        (
          refl,
          refl,
          record {
            opening = 4;
            message = put_message;
            moment = 2100;
            timeout = Some 2000;
            way = record { timeout = 2000; copies = 0; last = 2100 };
            stands = refl;
            is_outstanding = refl;
            few = lit< tt;
            is_due = lit≤ tt;
          },
        ),
      ),
    ),
    lit≤ tt,
    (may-come _ refl refl, lit≤ tt, refl, record { spelled = changed-spelled; unheard = refl; remembered = refl; says = refl }),
  ),
  lit≤ tt,
  (refl, refl, refl, inl (4, 16, _, _, refl, refl, refl), tt),
)

pub all_answered-holds : Holds all_answered
all_answered-holds = (legal-all, at-rest _ refl)

legal-given-up : Legal given_up
legal-given-up = (
  (
    (
      (legal-waiting, lit≤ tt, (may-come _ refl refl, tt)),
      lit≤ tt,
      (
        refl,
        (
          refl,
          refl,
          record {
            opening = 1;
            message = get_message;
            moment = 0;
            timeout = Some 2000;
            way = record { timeout = 2000; copies = 0; last = 0 };
            stands = refl;
            is_outstanding = refl;
            few = lit< tt;
            is_due = lit≤ tt;
          },
        ),
      ),
    ),
    lit≤ tt,
    (refl, refl, refl, (1, refl, inl refl, inl (5, refl)), tt),
  ),
  lit≤ tt,
  (refl, refl, refl, (4, refl, inr (refl, refl), inl (5, refl)), tt),
)

pub given_up-holds : Holds given_up
given_up-holds = (legal-given-up, at-rest _ refl)

-- not so

pub copied_early-refused : Refused copied_early
copied_early-refused h =
    let late : 2000 ≤ 1999 = subst (λ (x : Transmission). due x ≤ 1999) (sym (some-is _ _ h.2.1.2.is_outstanding)) h.2.1.2.is_due in
    absurd (omega (arith, late))

pub not_waited-refused : Refused not_waited
not_waited-refused h = none-is _ h.2.1.1.free

pub not_acknowledged-refused : Refused not_acknowledged
not_acknowledged-refused h = none-is _ (h.2.0.1.given refl)

pub not_copied-refused : Refused not_copied
not_copied-refused h = false≢true (h.2.0.1.copied refl)
