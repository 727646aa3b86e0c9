-- A core after entries were given out.
use Rattle.std.proofs.Common.{◌≡◌, ℕ, ◌+◌, ◌-◌, ◌≤◌, List, drop, length, take, true, inr, sym, ap, subst, ◌∙◌, arith}
use Rattle.std.specs.Prelude.{◌⊎◌, ◌↔◌, sum_by}
use Rattle.ask_model.specs.Sizes.{capped}
use Rattle.journal_book.specs.Entries.{entry_size}
use Rattle.journal_book.specs.Journals.{IsHere, is_among}
use Rattle.exchange_model.specs.State.{State}
use Rattle.exchange_model.specs.Here.{HasNumbers}
use Rattle.exchange_model.specs.Room.{gives}
use Rattle.exchange_model.proofs.CallerLemmas.{fits-parts, gives-here, gives-keeps, next-behind}
use Rattle.exchange_core.specs.Answering.{Given}
use Rattle.exchange_core.specs.Giving.{named}
use Rattle.exchange_core.specs.Sound.{SoundState}
use Rattle.exchange_core.proofs.Naming.{all-stay}

module _ (S : State) (bytes room : ℕ) (gs : List Given) (s : SoundState S bytes room gs) where
  -- what the first entries count
  pub size-small : (size : ℕ) → size ≡ capped (sum_by entry_size (take 1024 (drop S.given S.entries))) → size ≤ bytes
  size-small size is =
      let count = s.count in
      let parts = next-behind entry_size S.given 1024 S.entries in omega (arith, count, parts, is)

  -- what the rest counts
  bytes-left : (size : ℕ) → size ≡ capped (sum_by entry_size (take 1024 (drop S.given S.entries)))
      → bytes - size ≡ sum_by entry_size (drop (S.given + 1024) S.entries)
  bytes-left size is =
      let count = s.count in
      let few = (fits-parts S s.kept.fit).1 in
      let parts = next-behind entry_size S.given 1024 S.entries in omega (arith, count, few, parts, is)

  -- It is sound, where what is looked up was named.
  pub gives-sound : (ks ns : List ℕ) (size : ℕ) → HasNumbers S → S.given + 1024 ≤ length S.entries
      → ((n : ℕ) → is_among ns n ≡ is_among (named S) n)
      → ((n : ℕ) → IsHere (S.given + 1024) ks n ↔ ((S.given + 1024 ≤ n) ⊎ (IsHere S.given S.kept n × (is_among ns n ≡ true))))
      → size ≡ capped (sum_by entry_size (take 1024 (drop S.given S.entries)))
      → SoundState (gives 1024 ks S) (bytes - size) room gs
  gives-sound ks ns size left within names here is = record {
    kept = gives-keeps 1024 ks S s.kept
        (gives-here 1024 ks S (omega arith) within left
        (all-stay (IsHere S.given S.kept) (IsHere (S.given + 1024) ks) S s.kept.here.named
        (λ n p m. (here n).1 (inr (p, names n ∙ m)))));
    drained = record { once = s.drained.once; out = s.drained.out };
    early = s.early;
    few = s.few;
    count = bytes-left size is;
    places = s.places;
    given = s.given;
  }
