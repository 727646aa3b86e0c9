-- The worked journals of what isn't understood, and of what is renewed in pieces.
use Rattle.std.proofs.Common.{◌≡◌, ℕ, true, inl, inr, List, [], ◌∷◌, Option, Some, None, refl, sym, ap, subst, ◌∙◌, arith, lit≤}
use Rattle.std.proofs.lemmas.Bool.{false≢true}
use Rattle.coap_codec.specs.Spelling.{Content, Entry, Spells}
use Rattle.coap_codec.specs.Reading.{message_at}
use Rattle.coap_codec.specs.Reading as X
use Rattle.resp_cache.specs.Stored.{Stored}
use Rattle.ask_model.specs.Requests.{CoapRequest, Plainly}
use Rattle.journal_book.specs.Entries.{Live}
use Rattle.history_laws.specs.Readings.{Noted}
use Rattle.history_laws.specs.Progress.{Whole, Renewed, NotUnderstood, progress, next_message}
use Rattle.history_laws.specs.Exchanges.{Begun, end_of, replies}
use Rattle.history_laws.specs.Joining.{is_joinable}
use Rattle.history_laws.specs.Storing.{IsBrought}
use Rattle.history_laws.specs.Justified.{HasGrounds, Legal, reads}
use Rattle.history_laws.specs.Worked.{Holds, Refused, token}
use Rattle.history_laws.specs.WorkedMessages.{get_light}
use Rattle.history_laws.specs.WorkedPieces.{get_block}
use Rattle.history_laws.specs.WorkedRenewed.{valid_bytes, valid_message, validates, heard_that, unknown_tag, other_tag, asked_while_fresh, piece_bytes, piece, next_bytes, continued, heard_late, late_unknown, valid_late, tagged_late, written_since, asked_outrun}
use Rattle.history_laws.proofs.Carrying.{uncarried}
use Rattle.history_laws.proofs.Elements.{contains-none, first-or-later}
use Rattle.history_laws.proofs.Resting.{at-rest, may-come, some-is}
use Rattle.history_laws.proofs.Spelled.{spelled}
use Rattle.history_laws.proofs.Renewed.{valid-again-spelled, opened-among, joined-same, ends-as, legal-asked}

-- What isn't understood.

pub valid-8-spelled : Spells (valid_message 8) (valid_bytes 8)
unfolding message_at X.options_at X.option_at
valid-8-spelled = spelled (valid_bytes 8) _ refl refl

pub unknown_tag-holds : Holds unknown_tag
unknown_tag-holds = (
  (
    (
      legal-asked,
      lit≤ tt,
      (may-come _ refl refl, lit≤ tt, refl, record { spelled = valid-8-spelled; unheard = refl; remembered = refl; says = refl }),
    ),
    lit≤ tt,
    (refl, refl, refl, (7, refl, refl), tt),
  ),
  at-rest _ refl,
)

piece-spelled : Spells piece piece_bytes
unfolding message_at X.options_at X.option_at
piece-spelled = spelled piece_bytes _ refl refl

pub next-spelled : Spells (record (get_block 1) { mid = 2; token = token 2 }) next_bytes
unfolding message_at X.options_at X.option_at
next-spelled = spelled next_bytes _ refl refl

legal-continued : Legal continued
legal-continued = (
  legal-asked,
  lit≤ tt,
  (may-come _ refl refl, lit≤ tt, refl, record { spelled = piece-spelled; unheard = refl; remembered = refl; says = refl }),
)

pub late_unknown-holds : Holds late_unknown
late_unknown-holds = (
  (
    (
      (
        legal-continued,
        lit≤ tt,
        (
          refl,
          (
            refl,
            record {
              since = 1040;
              request = get_light;
              opening = refl;
              others = _;
              first = refl;
              free = refl;
              peer = refl;
              message = refl;
              spelled = next-spelled;
              token_size = refl;
              token_apart = refl;
              mid_apart = refl;
              wait = 2000;
              first_wait = refl;
              least = lit≤ tt;
              greatest = lit≤ tt;
            },
          ),
        ),
      ),
      lit≤ tt,
      (may-come _ refl refl, lit≤ tt, refl, record { spelled = valid-again-spelled; unheard = refl; remembered = refl; says = refl }),
    ),
    lit≤ tt,
    (refl, refl, refl, (7, refl, refl), tt),
  ),
  at-rest _ refl,
)

-- Not so: what isn't understood answers nobody.
not-live : (l : List Noted) (t k o n : ℕ) (js : List ℕ) → reads l k ≡ Some o → end_of l o ≡ Some (record { number = n; how = NotUnderstood })
    → HasGrounds l t k (Live js) → ⊥
not-live l t k o n js reading ended (inl h) = apart (ends-as l o h.0 h.1 n _ _ (some-is o h.0 (sym reading ∙ h.4)) ended h.5).1
  where
    apart : NotUnderstood ≡ Whole h.2 h.3 → ⊥
    apart e = cc
not-live l t k o n js reading ended (inr h) = apart (ends-as l o h.0 h.1 n _ _ (some-is o h.0 (sym reading ∙ h.4)) ended h.5).1
  where
    apart : NotUnderstood ≡ Renewed h.2 h.3 → ⊥
    apart e = cc

pub other_tag-refused : Refused other_tag
other_tag-refused h = not-live (heard_that 8) 1100 7 7 9 (5 ∷ 9 ∷ []) refl refl h.2.3

pub valid_late-refused : Refused valid_late
valid_late-refused h = not-live heard_late 1200 7 7 11 (5 ∷ 11 ∷ []) refl refl h.2.3

pub asked_while_fresh-refused : Refused asked_while_fresh
asked_while_fresh-refused h = false≢true (sym h.2.3.7)

pub asked_outrun-refused : Refused asked_outrun
asked_outrun-refused h = by h.2.3.4 (uncarried written_since get_light h.2.3.4 refl h.2.3.5)
  where
    by : (s : Stored) → IsBrought written_since get_light s → ⊥
    by s is =
        elim (first-or-later 3 (7 ∷ []) is.opening (opened-among written_since get_light is.opening (joined-same written_since get_light is.opening is.shared))) [
          | inl w ↦ false≢true (subst (λ (o : ℕ). is_joinable written_since get_light o ≡ true) (sym w) is.shared)
          | inr v ↦ elim (first-or-later 7 [] is.opening v) [
            | inl w ↦ false≢true (subst (λ (o : ℕ). is_joinable written_since get_light o ≡ true) (sym w) is.shared)
            | inr w ↦ contains-none is.opening w
          ]
        ]

-- The next message asks for a block alone.
abbrev second : List Entry → ℕ
second (a ∷ b ∷ more) = b.number
second options = 0

abbrev second_of : Option Content → ℕ
second_of None = 0
second_of (Some m) = second m.options

pub tagged_late-refused : Refused tagged_late
tagged_late-refused h =
    let may = h.2.1.1 in
    let opened : record { since = 1040; request = get_light } ≡ record { since = may.since; request = may.request } = some-is _ _ may.opening in
    let asks : get_light ≡ may.request = ap (λ (b : Begun). b.request) opened in
    let next : next_message Plainly get_light (progress get_light (replies continued 7)) 2 (token 2) ≡ Some (validates 2 2) =
    subst (λ (q : CoapRequest). next_message Plainly q (progress q (replies continued 7)) 2 (token 2) ≡ Some (validates 2 2)) (sym asks) may.message in
    let other : 11 ≡ 4 = ap second_of next in
    absurd (omega (arith, other))
