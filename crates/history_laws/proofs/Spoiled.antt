-- The spoiled journals are not legal: what the last entry owes is not so.
use Rattle.std.proofs.Common.{◌≡◌, ℕ, List, [], ◌∷◌, Option, refl, sym, ap, subst, ◌∙◌, arith, inl, inr}
use Rattle.std.specs.Prelude.{Some, None}
use Rattle.std.proofs.lemmas.Bool.{false≢true}
use Rattle.coap_codec.specs.Spelling.{Content}
use Rattle.journal_book.specs.Entries.{Deed, Live, Sends, Passes}
use Rattle.history_laws.specs.Readings.{Noted, Plain, Notice, Says, noted}
use Rattle.history_laws.specs.Progress.{Ending}
use Rattle.history_laws.specs.Exchanges.{end_of}
use Rattle.history_laws.specs.Justified.{Ends, HasGrounds}
use Rattle.history_laws.specs.Worked.{Refused}
use Rattle.history_laws.specs.WorkedEndings.{copied_out}
use Rattle.history_laws.specs.WorkedMessages.{answered}
use Rattle.history_laws.specs.WorkedSpoiled.{sent_six_times, timed_out_early, renumbered, overtaken, used_again, heard_as_new, rejected_late, crossed, sealed_early}
use Rattle.history_laws.proofs.Resting.{none-is, none-some, some-is}

pub sent_six_times-refused : Refused sent_six_times
sent_six_times-refused h = none-some _ h.2.1.2.is_outstanding

-- an exchange that has not ended has no end
not-ended : (l : List Noted) (o e : ℕ) (how : Ending) → end_of l o ≡ None → Ends l o e how → ⊥
not-ended l o e how going h = none-some _ (sym going ∙ h)

pub timed_out_early-refused : Refused timed_out_early
timed_out_early-refused h =
    let o = some-is 1 h.2.3.0 h.2.3.1 in
    elim (h.2.3.3) [
      | inl w ↦ not-ended (noted 61999 Passes Plain ∷ copied_out) h.2.3.0 w.0 _ (subst (λ (o : ℕ). end_of (noted 61999 Passes Plain ∷ copied_out) o ≡ None) o refl) w.1
      | inr w ↦ false≢true w.0
    ]

-- the message ID of what is sent
abbrev mid_in : List ℕ → ℕ
mid_in (a ∷ b ∷ c ∷ d ∷ more) = d
mid_in bytes = 0

abbrev mid_sent : Deed → ℕ
mid_sent (Sends p bytes w) = mid_in bytes
mid_sent d = 0

abbrev mid_of : Option Noted → ℕ
mid_of None = 0
mid_of (Some x) = mid_sent x.written.deed

pub renumbered-refused : Refused renumbered
renumbered-refused h = let other : 0 ≡ 9 = ap mid_of h.2.1.2.stands in absurd (omega (arith, other))

pub overtaken-refused : Refused overtaken
overtaken-refused h = let other : 4 ≡ 6 = ap first_of h.2.1.1.first in absurd (omega (arith, other))
  where
    first_of : List ℕ → ℕ
    first_of (o ∷ os) = o
    first_of os = 0

pub used_again-refused : Refused used_again
used_again-refused h = false≢true (sym h.2.1.1.mid_apart)

pub heard_as_new-refused : Refused heard_as_new
heard_as_new-refused h = none-is _ h.2.3.unheard

says-to : (m : Content) (i j : Option ℕ) (u v : Notice) → Says m i u ≡ Says m j v → i ≡ j
says-to m i j u v e = cc

pub rejected_late-refused : Refused rejected_late
rejected_late-refused h = none-is _ (says-to _ _ _ _ _ h.2.3.says)

pub crossed-refused : Refused crossed
crossed-refused h = by h.2.3
  where
    by : HasGrounds answered 5000 4 (Live (9 ∷ [])) → ⊥
    by (inl it) =
        let o = some-is 4 it.0 it.4 in
        not-ended answered it.0 it.1 _ (subst (λ (o : ℕ). end_of answered o ≡ None) o refl) it.5
    by (inr it) =
        let o = some-is 4 it.0 it.4 in
        not-ended answered it.0 it.1 _ (subst (λ (o : ℕ). end_of answered o ≡ None) o refl) it.5

pub sealed_early-refused : Refused sealed_early
sealed_early-refused h =
    elim (h.2.1) [
      | inl w ↦ let few = w in absurd (omega (arith, few))
      | inr w ↦ let small = w in absurd (omega (arith, small))
    ]
