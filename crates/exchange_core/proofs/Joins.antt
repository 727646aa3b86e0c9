-- What an ask that joins an exchange leaves.
use Rattle.std.proofs.Common.{◌≡◌, ◌≤◌, ◌^◌, ℕ, ◌+◌, true, false, List, [], ◌∷◌, ◌++◌, length, map, refl, sym, ap, subst, ◌∙◌}
use Rattle.std.specs.Prelude.{sum_by}
use Rattle.ask_model.specs.Requests.{Sense}
use Rattle.ask_model.specs.Views.{Ask}
use Rattle.ask_model.specs.Sizes.{capped}
use Rattle.journal_book.specs.Entries.{Asks, entry_size}
use Rattle.exchange_model.specs.declared.kept.Reader.{Reader}
use Rattle.exchange_model.specs.State.{State}
use Rattle.exchange_model.specs.Steps.{joins, read_at, seals}
use Rattle.exchange_model.specs.Hearing.{Numbers}
use Rattle.exchange_model.specs.Entering.{IsDrained}
use Rattle.exchange_model.specs.Room.{fits, KeptInRoom}
use Rattle.exchange_model.specs.Sealing.{asks_in_room}
use Rattle.exchange_model.specs.Watching.{touched}
use Rattle.exchange_core.specs.Answering.{Given}
use Rattle.exchange_core.specs.Drafts.{DraftValue, Drafts}
use Rattle.exchange_core.specs.Joining.{MayJoin}
use Rattle.exchange_core.specs.Sound.{SoundState}
use Rattle.exchange_core.specs.States.{core_of, with_draft}
use Rattle.exchange_core.specs.Values.{Outgoing, stepped}
use Rattle.exchange_core.proofs.Drafting.{answers-none}
use Rattle.exchange_core.proofs.Refusals.{asks-entered, asks-sealed}
use Rattle.exchange_core.proofs.Sounding.{first-of, second-of, sound-drafted, sound-seal}
use Rattle.exchange_core.proofs.Stepping.{committed, same-core, stepped-seal, with-draft}

-- one reader more of an exchange, by an ask that is noted
abbrev pub with_reader : ℕ → Sense → Reader → State → State
with_reader t sense r S = record S {
  exchanges = map (read_at t r.opening) S.exchanges;
  readers = S.readers ++ r ∷ [];
  watches = touched t sense S.watches;
}

abbrev pub reader_of : ℕ → ℕ → ℕ → Reader
reader_of k c o = record { ask = k; conn = c; opening = o }

module _ (t c o : ℕ) (a : Ask) (S : State) (d : DraftValue) (h : Drafts t S (Asks c a ∷ []) d) where
  pub joined-is : with_reader t a.sense (reader_of (length S.entries) c o) (with_draft t d S) ≡ joins t c a o S
  joined-is = ap (with_reader t a.sense (reader_of (length S.entries) c o)) (with-draft t S (Asks c a) [] d h)

  fit-same : fits (joins t c a o S) ≡ fits (with_draft t d S)
  fit-same = ap fits (sym joined-is)

  module _ (bytes room : ℕ) (gs : List Given) (os : List Outgoing) (s : SoundState S bytes room gs) (unsealed : S.sealed ≡ false)
      (j : MayJoin t c a o S) (none : d.answers ≡ []) where
    pub join-sealed : (S2 : State) (bytes1 room1 : ℕ) (gs1 : List Given) → t ≤ 2 ^ 62 → fits (with_draft t d S) ≡ false → S2 ≡ seals t S
        → bytes1 ≡ capped (bytes + 64) → room1 + 1 ≡ room → gs1 ≡ gs → SoundState S2 bytes1 room1 gs1
    join-sealed S2 bytes1 room1 gs1 early fit is bs rs gave =
        sound-seal t S S2 bytes bytes1 room room1 gs gs1 s unsealed (second-of (fits (joins t c a o S)) (joins t c a o S) (seals t S) (fit-same ∙ fit) j.kept) early is bs rs gave

    pub join-seals : (S2 : State) (gs1 : List Given) (os1 : List Outgoing) (n : Numbers) → fits (with_draft t d S) ≡ false → S2 ≡ seals t S
        → gs1 ≡ gs → os1 ≡ os → core_of S2 gs1 os1 ≡ stepped (asks_in_room t c a n S) (core_of S gs os)
    join-seals S2 gs1 os1 n fit is gave sends =
        same-core S2 (seals t S) gs1 gs os1 os is gave sends
        ∙ stepped-seal t S gs os
        ∙ ap (λ (V : State). stepped V (core_of S gs os)) (sym (asks-sealed t c a n S (joins t c a o S) unsealed (j.is n) (fit-same ∙ fit)))

    pub join-sound : (S2 : State) (bytes1 room1 : ℕ) (gs1 : List Given) → t ≤ 2 ^ 62 → fits (with_draft t d S) ≡ true
        → S2 ≡ with_reader t a.sense (reader_of (length S.entries) c o) (with_draft t d S)
        → bytes1 ≡ capped (bytes + capped (sum_by entry_size d.entries)) → length S.conns + 1 ≤ room1 → gs1 ≡ gs ++ d.answers
        → SoundState S2 bytes1 room1 gs1
    join-sound S2 bytes1 room1 gs1 early fit is bs rs gave =
        let V = with_reader t a.sense (reader_of (length S.entries) c o) (with_draft t d S) in
        let drained : IsDrained V = record { once = s.drained.once; out = s.drained.out } in
        subst (λ (U : State). SoundState U bytes1 room1 gs1) (sym is)
        (sound-drafted t S V bytes bytes1 room room1 gs gs1 (Asks c a ∷ []) d s (answers-none t S _ d h none) refl refl early refl
        (subst KeptInRoom (sym joined-is) (first-of (fits (joins t c a o S)) (joins t c a o S) (seals t S) (fit-same ∙ fit) j.kept)) drained bs rs gave)

    pub join-steps : (S2 : State) (gs1 : List Given) (os1 : List Outgoing) (n : Numbers) → fits (with_draft t d S) ≡ true
        → S2 ≡ with_reader t a.sense (reader_of (length S.entries) c o) (with_draft t d S)
        → gs1 ≡ gs ++ d.answers → os1 ≡ os ++ d.sends → core_of S2 gs1 os1 ≡ stepped (asks_in_room t c a n S) (core_of S gs os)
    join-steps S2 gs1 os1 n fit is gave sends =
        let V = with_reader t a.sense (reader_of (length S.entries) c o) (with_draft t d S) in
        same-core S2 V gs1 gs1 os1 os1 is refl refl
        ∙ committed t S V _ d gs gs1 os os1 h refl gave sends
        ∙ ap (λ (U : State). stepped U (core_of S gs os))
        (joined-is ∙ sym (asks-entered t c a n S (joins t c a o S) unsealed (j.is n) (fit-same ∙ fit)))
