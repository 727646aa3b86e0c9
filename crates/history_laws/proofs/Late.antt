-- The worked journals of what comes too late.
use Rattle.std.proofs.Common.{inl, [], ◌∷◌, refl, lit≤, lit<}
use Rattle.std.specs.Prelude.{Some}
use Rattle.coap_codec.specs.declared.message.MsgType.TheVariants.{Rst}
use Rattle.coap_codec.specs.Spelling.{Spells}
use Rattle.coap_codec.specs.Reading.{message_at}
use Rattle.coap_codec.specs.Reading as X
use Rattle.journal_book.specs.Entries.{Opens, Asks, Sends}
use Rattle.history_laws.specs.Confirmations.{empty}
use Rattle.history_laws.specs.Readings.{Plain, Begins, First, noted}
use Rattle.history_laws.specs.Justified.{Legal}
use Rattle.history_laws.specs.Worked.{Holds, server, ask_for, empty_rst}
use Rattle.history_laws.specs.WorkedMessages.{get_light, get_bytes, get_message, put_message}
use Rattle.history_laws.specs.WorkedLate.{other_bytes, other_message, heard_twice, half_answered, rejected_after, abandoned}
use Rattle.history_laws.proofs.Missing.{none-stored}
use Rattle.history_laws.proofs.Resting.{at-rest, may-come}
use Rattle.history_laws.proofs.Spelled.{spelled}
use Rattle.history_laws.proofs.Messages.{get-spelled, legal-let-go, legal-answered}

pub other-spelled : Spells other_message other_bytes
unfolding message_at X.options_at X.option_at
other-spelled = spelled other_bytes _ refl refl

rst-53-spelled : Spells (empty Rst 53) (empty_rst 53)
unfolding message_at X.options_at X.option_at
rst-53-spelled = spelled (empty_rst 53) _ refl refl

pub rst-0-spelled : Spells (empty Rst 0) (empty_rst 0)
unfolding message_at X.options_at X.option_at
rst-0-spelled = spelled (empty_rst 0) _ refl refl

legal-heard-twice : Legal heard_twice
legal-heard-twice = (
  (legal-answered, lit≤ tt, (may-come _ refl refl, lit≤ tt, refl, record { spelled = other-spelled; unheard = refl; remembered = refl; says = refl })),
  lit≤ tt,
  (refl, (refl, record { confirmation = record { peer = server; kind = Rst; mid = 53 }; is_owed = refl; peer = refl; spelled = rst-53-spelled })),
)

pub heard_twice-holds : Holds heard_twice
heard_twice-holds = (legal-heard-twice, at-rest _ refl)

legal-half-answered : Legal half_answered
legal-half-answered = (
  (
    (legal-answered, lit≤ tt, (may-come _ refl refl, tt)),
    lit≤ tt,
    (
      refl,
      (
        refl,
        refl,
        record {
          opening = 4;
          message = put_message;
          moment = 2100;
          timeout = Some 2000;
          way = record { timeout = 2000; copies = 0; last = 2100 };
          stands = refl;
          is_outstanding = refl;
          few = lit< tt;
          is_due = lit≤ tt;
        },
      ),
    ),
  ),
  lit≤ tt,
  (refl, refl, refl, (4, refl, inl refl, inl (12, refl)), tt),
)

pub half_answered-holds : Holds half_answered
half_answered-holds = (legal-half-answered, at-rest _ refl)

legal-rejected-after : Legal rejected_after
legal-rejected-after =
    (legal-let-go, lit≤ tt, (may-come _ refl refl, lit≤ tt, refl, record { spelled = rst-0-spelled; unheard = refl; remembered = refl; says = refl }))

pub rejected_after-holds : Holds rejected_after
rejected_after-holds = (legal-rejected-after, at-rest _ refl)

-- entry by entry
abandoned-sent : Legal (noted 0 (Sends server get_bytes (Some 2000)) (First 1 get_message) ∷ noted 0 (Asks 0 (ask_for get_light)) (Begins get_light) ∷ noted 0 (Opens 0) Plain ∷ [])
abandoned-sent = (
  ((tt, lit≤ tt, (may-come _ refl refl, lit≤ tt, tt)), lit≤ tt, (may-come _ refl refl, refl, refl, (refl, refl, refl), none-stored _ _ _ refl)),
  lit≤ tt,
  (
    refl,
    (
      refl,
      record {
        since = 0;
        request = get_light;
        opening = refl;
        others = _;
        first = refl;
        free = refl;
        peer = refl;
        message = refl;
        spelled = get-spelled;
        token_size = refl;
        token_apart = refl;
        mid_apart = refl;
        wait = 2000;
        first_wait = refl;
        least = lit≤ tt;
        greatest = lit≤ tt;
      },
    ),
  ),
)

legal-abandoned : Legal abandoned
legal-abandoned = (
  (
    (
      ((abandoned-sent, lit≤ tt, (refl, refl, tt)), lit≤ tt, (may-come _ refl refl, refl, tt)),
      lit≤ tt,
      (may-come _ refl refl, tt),
    ),
    lit≤ tt,
    (
      refl,
      (
        refl,
        refl,
        record {
          opening = 1;
          message = get_message;
          moment = 0;
          timeout = Some 2000;
          way = record { timeout = 2000; copies = 0; last = 0 };
          stands = refl;
          is_outstanding = refl;
          few = lit< tt;
          is_due = lit≤ tt;
        },
      ),
    ),
  ),
  lit≤ tt,
  (may-come _ refl refl, refl, refl, (refl, refl, refl), none-stored _ _ _ refl),
)

pub abandoned-holds : Holds abandoned
abandoned-holds = (legal-abandoned, at-rest _ refl)
