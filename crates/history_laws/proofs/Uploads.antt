-- The worked journals of a body that goes in pieces.
use Rattle.std.proofs.Common.{inl, ◌≡◌, ℕ, List, [], ◌∷◌, Option, Some, None, refl, sym, ap, subst, arith, lit≤, false}
use Rattle.coap_codec.specs.Spelling.{Entry, Content, Spells}
use Rattle.coap_codec.specs.Reading.{message_at}
use Rattle.coap_codec.specs.Reading as X
use Rattle.ask_model.specs.Requests.{CoapRequest, Plainly}
use Rattle.history_laws.specs.Exchanges.{Begun, replies}
use Rattle.history_laws.specs.Justified.{Legal}
use Rattle.history_laws.specs.Progress.{progress, next_message}
use Rattle.history_laws.specs.Worked.{Holds, Refused}
use Rattle.history_laws.specs.WorkedUploads.{put_file, piece_bytes, piece, taken_bytes, taken_message, rest_bytes, rest, piece_sent, piece_taken, rest_sent, changed_bytes, changed_message, uploaded, too_large_bytes, too_large_message, turned_down, taken_again_bytes, taken_again_message, endless, hurried, again, overlapping}
use Rattle.history_laws.proofs.Missing.{none-stored}
use Rattle.history_laws.proofs.Resting.{at-rest, may-come, none-some, some-is}
use Rattle.history_laws.proofs.Spelled.{spelled}

piece-spelled : Spells piece piece_bytes
unfolding message_at X.options_at X.option_at
piece-spelled = spelled piece_bytes _ refl refl

taken-spelled : Spells taken_message taken_bytes
unfolding message_at X.options_at X.option_at
taken-spelled = spelled taken_bytes _ refl refl

rest-spelled : Spells rest rest_bytes
unfolding message_at X.options_at X.option_at
rest-spelled = spelled rest_bytes _ refl refl

pub answer-spelled : Spells changed_message changed_bytes
unfolding message_at X.options_at X.option_at
answer-spelled = spelled changed_bytes _ refl refl

too_large-spelled : Spells too_large_message too_large_bytes
unfolding message_at X.options_at X.option_at
too_large-spelled = spelled too_large_bytes _ refl refl

taken_again-spelled : Spells taken_again_message taken_again_bytes
unfolding message_at X.options_at X.option_at
taken_again-spelled = spelled taken_again_bytes _ refl refl

legal-sent : Legal piece_sent
legal-sent = (
  ((tt, lit≤ tt, (may-come _ refl refl, lit≤ tt, tt)), lit≤ tt, (may-come _ refl refl, refl, refl, (refl, refl, refl), none-stored _ _ _ refl)),
  lit≤ tt,
  (
    refl,
    (
      refl,
      record {
        since = 0;
        request = put_file;
        opening = refl;
        others = _;
        first = refl;
        free = refl;
        peer = refl;
        message = refl;
        spelled = piece-spelled;
        token_size = refl;
        token_apart = refl;
        mid_apart = refl;
        wait = 2000;
        first_wait = refl;
        least = lit≤ tt;
        greatest = lit≤ tt;
      },
    ),
  ),
)

legal-taken : Legal piece_taken
legal-taken =
    (legal-sent, lit≤ tt, (may-come _ refl refl, lit≤ tt, refl, record { spelled = taken-spelled; unheard = refl; remembered = refl; says = refl }))

legal-rest : Legal rest_sent
legal-rest = (
  legal-taken,
  lit≤ tt,
  (
    refl,
    (
      refl,
      record {
        since = 0;
        request = put_file;
        opening = refl;
        others = _;
        first = refl;
        free = refl;
        peer = refl;
        message = refl;
        spelled = rest-spelled;
        token_size = refl;
        token_apart = refl;
        mid_apart = refl;
        wait = 2000;
        first_wait = refl;
        least = lit≤ tt;
        greatest = lit≤ tt;
      },
    ),
  ),
)

pub uploaded-holds : Holds uploaded
uploaded-holds = (
  (
    (legal-rest, lit≤ tt, (may-come _ refl refl, lit≤ tt, refl, record { spelled = answer-spelled; unheard = refl; remembered = refl; says = refl })),
    lit≤ tt,
    (refl, refl, refl, inl (1, 5, _, _, refl, refl, refl), tt),
  ),
  at-rest _ refl,
)

pub turned_down-holds : Holds turned_down
turned_down-holds = (
  (
    (legal-sent, lit≤ tt, (may-come _ refl refl, lit≤ tt, refl, record { spelled = too_large-spelled; unheard = refl; remembered = refl; says = refl })),
    lit≤ tt,
    (refl, refl, refl, inl (1, 3, _, _, refl, refl, refl), tt),
  ),
  at-rest _ refl,
)

pub endless-holds : Holds endless
endless-holds = (
  (
    (legal-rest, lit≤ tt, (may-come _ refl refl, lit≤ tt, refl, record { spelled = taken_again-spelled; unheard = refl; remembered = refl; says = refl })),
    lit≤ tt,
    (refl, refl, refl, (1, refl, refl), tt),
  ),
  at-rest _ refl,
)

-- Not so: the first piece is outstanding yet.
pub hurried-refused : Refused hurried
hurried-refused h = none-some _ (sym h.2.1.1.free)

-- Not so: another piece was next.

abbrev first_byte : List ℕ → ℕ
first_byte [] = 0
first_byte (b ∷ bytes) = b

abbrev third : List Entry → ℕ
third (a ∷ b ∷ o ∷ more) = first_byte o.value
third options = 0

abbrev third_of : Option Content → ℕ
third_of None = 0
third_of (Some m) = third m.options

pub overlapping-refused : Refused overlapping
overlapping-refused h =
    let may = h.2.1.1 in
    let opened : record { since = 0; request = put_file } ≡ record { since = may.since; request = may.request } = some-is _ _ may.opening in
    let asks : put_file ≡ may.request = ap (λ (b : Begun). b.request) opened in
    let next : next_message Plainly put_file (progress put_file (replies piece_taken 1)) again.mid again.token ≡ Some again =
    subst (λ (q : CoapRequest). next_message Plainly q (progress q (replies piece_taken 1)) again.mid again.token ≡ Some again) (sym asks) may.message in
    let other : 68 ≡ 60 = ap third_of next in
    absurd (omega (arith, other))
