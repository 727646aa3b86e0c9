-- The worked journals of a response in two pieces.
use Rattle.std.proofs.Common.{inl, ◌≡◌, ℕ, List, [], ◌∷◌, Option, Some, None, refl, sym, ap, subst, arith, lit≤, false}
use Rattle.coap_codec.specs.Spelling.{Entry, Content, Spells}
use Rattle.coap_codec.specs.Reading.{message_at}
use Rattle.coap_codec.specs.Reading as X
use Rattle.ask_model.specs.Requests.{CoapRequest, Plainly}
use Rattle.history_laws.specs.Exchanges.{Begun, replies}
use Rattle.history_laws.specs.Justified.{Legal}
use Rattle.history_laws.specs.Progress.{progress, next_message}
use Rattle.history_laws.specs.Worked.{Holds, Refused}
use Rattle.history_laws.specs.WorkedMessages.{get_light}
use Rattle.history_laws.specs.WorkedPieces.{piece_bytes, piece_message, rest_bytes, rest_message, get_block_bytes, get_block, gap_bytes, gap_message, piece_heard, next_asked, fetched, gap_heard, other_asked}
use Rattle.history_laws.proofs.Resting.{at-rest, may-come, some-is}
use Rattle.history_laws.proofs.Spelled.{spelled}
use Rattle.history_laws.proofs.Messages.{legal-waiting}

pub piece-spelled : Spells piece_message piece_bytes
unfolding message_at X.options_at X.option_at
piece-spelled = spelled piece_bytes _ refl refl

pub rest-spelled : Spells rest_message rest_bytes
unfolding message_at X.options_at X.option_at
rest-spelled = spelled rest_bytes _ refl refl

pub get-next-spelled : Spells (get_block 1) (get_block_bytes 1)
unfolding message_at X.options_at X.option_at
get-next-spelled = spelled (get_block_bytes 1) _ refl refl

pub get-other-spelled : Spells (get_block 2) (get_block_bytes 2)
unfolding message_at X.options_at X.option_at
get-other-spelled = spelled (get_block_bytes 2) _ refl refl

legal-piece : Legal piece_heard
legal-piece =
    (legal-waiting.0.0, lit≤ tt, (may-come _ refl refl, lit≤ tt, refl, record { spelled = piece-spelled; unheard = refl; remembered = refl; says = refl }))

legal-next : Legal (next_asked 1)
legal-next = (
  legal-piece,
  lit≤ tt,
  (
    refl,
    (
      refl,
      record {
        since = 0;
        request = get_light;
        opening = refl;
        others = _;
        first = refl;
        free = refl;
        peer = refl;
        message = refl;
        spelled = get-next-spelled;
        token_size = refl;
        token_apart = refl;
        mid_apart = refl;
        wait = 2000;
        first_wait = refl;
        least = lit≤ tt;
        greatest = lit≤ tt;
      },
    ),
  ),
)

pub fetched-holds : Holds fetched
fetched-holds = (
  (
    (legal-next, lit≤ tt, (may-come _ refl refl, lit≤ tt, refl, record { spelled = rest-spelled; unheard = refl; remembered = refl; says = refl })),
    lit≤ tt,
    (refl, refl, refl, inl (1, 5, _, _, refl, refl, refl), tt),
  ),
  at-rest _ refl,
)

gap-spelled : Spells gap_message gap_bytes
unfolding message_at X.options_at X.option_at
gap-spelled = spelled gap_bytes _ refl refl

pub gap_heard-holds : Holds gap_heard
gap_heard-holds = (
  (
    (legal-next, lit≤ tt, (may-come _ refl refl, lit≤ tt, refl, record { spelled = gap-spelled; unheard = refl; remembered = refl; says = refl })),
    lit≤ tt,
    (refl, refl, refl, (1, refl, refl), tt),
  ),
  at-rest _ refl,
)

-- Not so: the next one wasn't asked for.

abbrev first_byte : List ℕ → ℕ
first_byte [] = 0
first_byte (b ∷ bytes) = b

abbrev third : List Entry → ℕ
third (a ∷ b ∷ o ∷ more) = first_byte o.value
third options = 0

abbrev third_of : Option Content → ℕ
third_of None = 0
third_of (Some m) = third m.options

pub other_asked-refused : Refused other_asked
other_asked-refused h =
    let may = h.2.1.1 in
    let opened : record { since = 0; request = get_light } ≡ record { since = may.since; request = may.request } = some-is _ _ may.opening in
    let asks : get_light ≡ may.request = ap (λ (b : Begun). b.request) opened in
    let next : next_message Plainly get_light (progress get_light (replies piece_heard 1)) (get_block 2).mid (get_block 2).token ≡ Some (get_block 2) =
    subst (λ (q : CoapRequest). next_message Plainly q (progress q (replies piece_heard 1)) (get_block 2).mid (get_block 2).token ≡ Some (get_block 2)) (sym asks)
    may.message in
    let other : 16 ≡ 32 = ap third_of next in
    absurd (omega (arith, other))
