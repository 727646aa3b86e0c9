-- The worked journals of how exchanges end.
use Rattle.std.proofs.Common.{◌≡◌, ℕ, ◌<◌, ◌≤◌, inl, List, refl, lit≤, lit<}
use Rattle.std.specs.Prelude.{Some}
use Rattle.limits.specs.declared.TheConstants.{MAX_RETRANSMIT}
use Rattle.coap_codec.specs.declared.message.MsgType.TheVariants.{Rst}
use Rattle.coap_codec.specs.Spelling.{Spells}
use Rattle.coap_codec.specs.Reading.{message_at}
use Rattle.coap_codec.specs.Reading as X
use Rattle.journal_book.specs.Entries.{Sends}
use Rattle.history_laws.specs.Confirmations.{empty}
use Rattle.history_laws.specs.Readings.{Noted, First, at, ticked, noted}
use Rattle.history_laws.specs.Transmissions.{transmission, due}
use Rattle.history_laws.specs.Justified.{Legal, MayBeCopy}
use Rattle.history_laws.specs.Worked.{Holds, server, empty_rst}
use Rattle.history_laws.specs.WorkedMessages.{get_bytes, get_message, put_light}
use Rattle.history_laws.specs.WorkedEndings.{non_bytes, non_message, rejected, copied_out, timed_out}
use Rattle.history_laws.proofs.Resting.{at-rest, may-come}
use Rattle.history_laws.proofs.Spelled.{spelled}
use Rattle.history_laws.proofs.Messages.{put-spelled, legal-waiting, legal-copied}

pub non-spelled : Spells non_message non_bytes
unfolding message_at X.options_at X.option_at
non-spelled = spelled non_bytes _ refl refl

rst-spelled : Spells (empty Rst 1) (empty_rst 1)
unfolding message_at X.options_at X.option_at
rst-spelled = spelled (empty_rst 1) _ refl refl

legal-rejected : Legal rejected
legal-rejected = (
  (
    (
      (
        (legal-waiting, lit≤ tt, (may-come _ refl refl, lit≤ tt, refl, record { spelled = non-spelled; unheard = refl; remembered = refl; says = refl })),
        lit≤ tt,
        (refl, refl, refl, inl (1, 5, _, _, refl, refl, refl), tt),
      ),
      lit≤ tt,
      (
        refl,
        (
          refl,
          record {
            since = 500;
            request = put_light;
            opening = refl;
            others = _;
            first = refl;
            free = refl;
            peer = refl;
            message = refl;
            spelled = put-spelled;
            token_size = refl;
            token_apart = refl;
            mid_apart = refl;
            wait = 3000;
            first_wait = refl;
            least = lit≤ tt;
            greatest = lit≤ tt;
          },
        ),
      ),
    ),
    lit≤ tt,
    (may-come _ refl refl, lit≤ tt, refl, record { spelled = rst-spelled; unheard = refl; remembered = refl; says = refl }),
  ),
  lit≤ tt,
  (refl, refl, refl, (4, refl, refl), tt),
)

pub rejected-holds : Holds rejected
rejected-holds = (legal-rejected, at-rest _ refl)

-- a copy of the GET's message
get-copy : (l : List Noted) (copies last : ℕ) → at l 2 ≡ Some (noted 0 (Sends server get_bytes (Some 2000)) (First 1 get_message))
    → transmission l 2 ≡ Some (record { timeout = 2000; copies = copies; last = last }) → copies < MAX_RETRANSMIT
    → due (record { timeout = 2000; copies = copies; last = last }) ≤ ticked l → MayBeCopy l 2 server get_bytes
get-copy l copies last stands way few late =
    record {
      opening = 1;
      message = get_message;
      moment = 0;
      timeout = Some 2000;
      way = record { timeout = 2000; copies = copies; last = last };
      stands = stands;
      is_outstanding = way;
      few = few;
      is_due = late;
    }

legal-copied-out : Legal copied_out
legal-copied-out = (
  (
    (
      (
        (
          (legal-copied, lit≤ tt, (may-come _ refl refl, tt)),
          lit≤ tt,
          (refl, (refl, refl, get-copy _ 1 2000 refl refl (lit< tt) (lit≤ tt))),
        ),
        lit≤ tt,
        (may-come _ refl refl, tt),
      ),
      lit≤ tt,
      (refl, (refl, refl, get-copy _ 2 6000 refl refl (lit< tt) (lit≤ tt))),
    ),
    lit≤ tt,
    (may-come _ refl refl, tt),
  ),
  lit≤ tt,
  (refl, (refl, refl, get-copy _ 3 14000 refl refl (lit< tt) (lit≤ tt))),
)

legal-timed-out : Legal timed_out
legal-timed-out = (
  (
    (legal-copied-out, lit≤ tt, (may-come _ refl refl, tt)),
    lit≤ tt,
    (refl, refl, refl, (1, refl, inl refl, inl (13, refl)), tt),
  ),
  lit≤ tt,
  (
    refl,
    (
      refl,
      record {
        since = 500;
        request = put_light;
        opening = refl;
        others = _;
        first = refl;
        free = refl;
        peer = refl;
        message = refl;
        spelled = put-spelled;
        token_size = refl;
        token_apart = refl;
        mid_apart = refl;
        wait = 2000;
        first_wait = refl;
        least = lit≤ tt;
        greatest = lit≤ tt;
      },
    ),
  ),
)

pub timed_out-holds : Holds timed_out
timed_out-holds = (legal-timed-out, at-rest _ refl)
