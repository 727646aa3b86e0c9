-- The worked journals of GETs that are asked by several.
use Rattle.std.proofs.Common.{inl, refl, lit≤}
use Rattle.std.proofs.lemmas.Bool.{false≢true}
use Rattle.history_laws.specs.Justified.{Legal}
use Rattle.history_laws.specs.Worked.{Holds, Refused}
use Rattle.history_laws.specs.WorkedMessages.{get_light, put_light}
use Rattle.history_laws.specs.WorkedReaders.{joined, heard_for_both, both_answered, written_between, read_anew, asked_twice, read_before, put_once, one_told}
use Rattle.history_laws.proofs.Missing.{none-stored}
use Rattle.history_laws.proofs.Resting.{at-rest, may-come, none-is, none-some}
use Rattle.history_laws.proofs.Messages.{put-spelled, changed-spelled, legal-waiting, legal-let-go}
use Rattle.history_laws.proofs.Endings.{non-spelled}
use Rattle.history_laws.proofs.Copied.{get-again-spelled}

legal-joined : Legal joined
legal-joined = ((legal-waiting, lit≤ tt, (may-come _ refl refl, refl, tt)), lit≤ tt, (may-come _ refl refl, refl, refl, refl, none-stored _ _ _ refl))

legal-heard : Legal heard_for_both
legal-heard = (
  (legal-joined, lit≤ tt, (may-come _ refl refl, lit≤ tt, refl, record { spelled = non-spelled; unheard = refl; remembered = refl; says = refl })),
  lit≤ tt,
  (refl, refl, refl, inl (1, 7, _, _, refl, refl, refl), tt),
)

legal-both : Legal both_answered
legal-both = (
  (legal-heard, lit≤ tt, (refl, refl, refl, inl (1, 7, _, _, refl, refl, refl), tt)),
  lit≤ tt,
  (
    refl,
    (
      refl,
      record {
        since = 500;
        request = put_light;
        opening = refl;
        others = _;
        first = refl;
        free = refl;
        peer = refl;
        message = refl;
        spelled = put-spelled;
        token_size = refl;
        token_apart = refl;
        mid_apart = refl;
        wait = 3000;
        first_wait = refl;
        least = lit≤ tt;
        greatest = lit≤ tt;
      },
    ),
  ),
)

pub both_answered-holds : Holds both_answered
both_answered-holds = (legal-both, at-rest _ refl)

legal-between : Legal written_between
legal-between = (
  (
    (legal-let-go, lit≤ tt, (may-come _ refl refl, lit≤ tt, refl, record { spelled = changed-spelled; unheard = refl; remembered = refl; says = refl })),
    lit≤ tt,
    (refl, refl, refl, inl (4, 9, _, _, refl, refl, refl), tt),
  ),
  lit≤ tt,
  (may-come _ refl refl, refl, tt),
)

legal-anew : Legal read_anew
legal-anew = (
  (legal-between, lit≤ tt, (may-come _ refl refl, refl, refl, (refl, refl, refl), none-stored _ _ _ refl)),
  lit≤ tt,
  (
    refl,
    (
      refl,
      record {
        since = 2300;
        request = get_light;
        opening = refl;
        others = _;
        first = refl;
        free = refl;
        peer = refl;
        message = refl;
        spelled = get-again-spelled;
        token_size = refl;
        token_apart = refl;
        mid_apart = refl;
        wait = 2000;
        first_wait = refl;
        least = lit≤ tt;
        greatest = lit≤ tt;
      },
    ),
  ),
)

pub read_anew-holds : Holds read_anew
read_anew-holds = (legal-anew, at-rest _ refl)

-- not so

pub asked_twice-refused : Refused asked_twice
asked_twice-refused h = none-is _ h.2.3.1

pub read_before-refused : Refused read_before
read_before-refused h = none-some _ h.2.3

pub put_once-refused : Refused put_once
put_once-refused h = none-some _ h.2.3

pub one_told-refused : Refused one_told
one_told-refused h = false≢true h.2.0.1.waits
