-- What a tick leaves, by whether something is due and whether that fits.
use Rattle.std.proofs.Common.{◌≡◌, ℕ, ◌+◌, ◌≤◌, cond, Bool, true, false, List, length, map, sym, ap, subst, ◌∙◌}
use Rattle.std.specs.Prelude.{fold, filter}
use Rattle.journal_book.specs.Entries.{Passes}
use Rattle.message_layer.specs.Calls.{is_among}
use Rattle.exchange_model.specs.declared.kept.Exchange.{Exchange}
use Rattle.exchange_model.specs.State.{State}
use Rattle.exchange_model.specs.Steps.{seals}
use Rattle.exchange_model.specs.Matters.{left_by}
use Rattle.exchange_model.specs.Hearing.{passes, is_gone, is_of_none, is_stale_of_none, retired, timed_out, goes_on}
use Rattle.exchange_model.specs.Calls.{tells, told_late, something_due, move_all, ticked}
use Rattle.exchange_model.specs.Entering.{entered_all, all_going, sent_as, gone_tokens, link_after, tick_deeds, IsDrained}
use Rattle.exchange_model.specs.Keeping.{MayStep}
use Rattle.exchange_model.specs.Room.{fits, KeptInRoom}
use Rattle.exchange_model.specs.Sealing.{late, ticks_in_room}
use Rattle.exchange_model.proofs.CallerLemmas.{stays-drained, ticks-enter, ticks-in-room}
use Rattle.exchange_core.specs.Drafts.{DraftValue, Drafts}
use Rattle.exchange_core.specs.Passing.{moved_on}
use Rattle.observe_share.specs.Watches.{without}
use Rattle.exchange_core.specs.Watching.{is_unwatched_by}
use Rattle.exchange_core.specs.States.{with_draft}
use Rattle.exchange_core.proofs.TickDraft.{gone-is}
use Rattle.exchange_core.proofs.Stepping.{with-draft}

-- the cases of a tick
pub when-sealed : (t : ℕ) (S : State) → S.sealed ≡ true → ticks_in_room t S ≡ late t S
when-sealed t S e =
    ap (λ (b : Bool). cond b (late t S)
    (cond (fits (ticked t S)) (ticked t S) (late t (seals t S)))) e

unsealed-is : (t : ℕ) (S : State) → S.sealed ≡ false
    → ticks_in_room t S ≡ cond (fits (ticked t S)) (ticked t S) (late t (seals t S))
unsealed-is t S e =
    ap (λ (b : Bool). cond b (late t S)
    (cond (fits (ticked t S)) (ticked t S) (late t (seals t S)))) e

pub when-fits : (t : ℕ) (S : State) → S.sealed ≡ false → fits (ticked t S) ≡ true
    → ticks_in_room t S ≡ ticked t S
when-fits t S e fit =
    unsealed-is t S e ∙ ap (λ (b : Bool). cond b (ticked t S) (late t (seals t S))) fit

pub when-full : (t : ℕ) (S : State) → S.sealed ≡ false → fits (ticked t S) ≡ false
    → ticks_in_room t S ≡ late t (seals t S)
when-full t S e full =
    unsealed-is t S e ∙ ap (λ (b : Bool). cond b (ticked t S) (late t (seals t S))) full

pub when-none : (t : ℕ) (S : State) → KeptInRoom S → S.sealed ≡ false → something_due t S ≡ false
    → ticks_in_room t S ≡ S
when-none t S k e none =
    let stays : ticked t S ≡ S =
    ap (λ (b : Bool).
    cond b (fold (tells t) (move_all t (passes t S)) (told_late (timed_out t S) S.readers)) S) none in
    when-fits t S e (ap fits stays ∙ k.fit) ∙ stays

pub fits-in-room : (t : ℕ) (S : State) → KeptInRoom S → S.moment ≤ t → S.sealed ≡ false
    → fits (ticked t S) ≡ true → KeptInRoom (ticked t S)
fits-in-room t S k later e fit = subst KeptInRoom (when-fits t S e fit) (ticks-in-room t S k later)

module _ (t : ℕ) (S : State) (may : MayStep t S) (drained : IsDrained S)
    (due : something_due t S ≡ true) where
  pub tick-drained : IsDrained (ticked t S)
  tick-drained = subst IsDrained (sym (ticks-enter t S may drained due)) ((stays-drained t S drained).2)

  module _ (d : DraftValue) (h : Drafts t S (tick_deeds t S) d) where
    drawn : with_draft t d S ≡ entered_all t (tick_deeds t S) S
    drawn = with-draft t S Passes _ d h

    pub tick-fits : fits (with_draft t d S) ≡ fits (ticked t S)
    tick-fits = ap fits drawn ∙ sym (ap fits (ticks-enter t S may drained due))

    pub tick-moved : (gone : List (List ℕ)) (over es : List Exchange) → gone ≡ gone_tokens t S
        → over ≡ timed_out t S → es ≡ sent_as (all_going t (is_gone t S) (length S.entries + 1) S.links)
        (left_by S.entries (timed_out t S) (filter (goes_on t S) S.exchanges))
        → moved_on t (is_among gone) over es d S ≡ ticked t S
    tick-moved gone over es g o e =
        ap (λ (V : State). record V {
          exchanges = es;
          pieces = filter (is_of_none over) S.pieces;
          stales = filter (is_stale_of_none over) S.stales;
          watches = without (is_unwatched_by t S.entries over) S.watches;
          store = retired S.entries over S.store;
          links = map (link_after t (is_among gone)) S.links;
        }) drawn
        ∙ ap (λ (q : List ℕ → Bool). let V = entered_all t (tick_deeds t S) S in record V {
          exchanges = es;
          pieces = filter (is_of_none over) S.pieces;
          stales = filter (is_stale_of_none over) S.stales;
          watches = without (is_unwatched_by t S.entries over) S.watches;
          store = retired S.entries over S.store;
          links = map (link_after t q) S.links;
        }) (gone-is t S gone g)
        ∙ ap (λ (xs : List Exchange). let V = entered_all t (tick_deeds t S) S in record V {
          exchanges = es;
          pieces = filter (is_of_none xs) S.pieces;
          stales = filter (is_stale_of_none xs) S.stales;
          watches = without (is_unwatched_by t S.entries xs) S.watches;
          store = retired S.entries xs S.store;
          links = map (link_after t (is_gone t S)) S.links;
        }) o
        ∙ ap (λ (fs : List Exchange). let V = entered_all t (tick_deeds t S) S in record V {
          exchanges = fs;
          pieces = filter (is_of_none (timed_out t S)) S.pieces;
          stales = filter (is_stale_of_none (timed_out t S)) S.stales;
          watches = without (is_unwatched_by t S.entries (timed_out t S)) S.watches;
          store = retired S.entries (timed_out t S) S.store;
          links = map (link_after t (is_gone t S)) S.links;
        }) e
        ∙ sym (ticks-enter t S may drained due)
