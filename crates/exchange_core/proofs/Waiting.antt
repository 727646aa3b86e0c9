-- What has room for more asks that wait has room for fewer.
use Rattle.std.proofs.Common.{◌≡◌, ℕ, ◌+◌, ◌-◌, ◌*◌, ◌≤◌, drop, min, inl, inr, Bool, true, false, ◌++◌, length, leb, refl, sym, ap, ◌∙◌, arith, length-append}
use Rattle.std.specs.Prelude.{◌&&◌, count_by, sum_by}
use Rattle.std.proofs.lemmas.Bool.{cases_Bool, false≢true, le-leb, leb-true, and_from, and_parts}
use Rattle.std.proofs.lemmas.Bool.Decides.{leb_tells}
use Rattle.std.proofs.lemmas.List.Sums.{count_by-le-length}
use Rattle.limits.specs.declared.TheConstants.{MAX_ENTRIES, MAX_JOURNAL_LEN}
use Rattle.ask_model.specs.Sizes.{capped}
use Rattle.journal_book.specs.Entries.{entry_size}
use Rattle.exchange_model.specs.Growing.{conns_with}
use Rattle.exchange_model.specs.Room.{fits, has_asked, seals_left}
use Rattle.exchange_model.specs.State.{State}
use Rattle.exchange_model.proofs.CallerLemmas.{more-behind}
use Rattle.exchange_core.specs.Drafts.{AllKeep, DraftValue}
use Rattle.exchange_core.specs.Room.{fits_by}
use Rattle.exchange_core.specs.States.{with_draft}
use Rattle.exchange_core.proofs.Stepping.{conns-keep}

pub room-fewer : (entries bytes conns n m : ℕ) → m ≤ n → fits_by entries bytes conns n ≡ true → fits_by entries bytes conns m ≡ true
room-fewer entries bytes conns n m le e =
    let both = and_parts (leb (entries + conns + n + 1) MAX_ENTRIES) (leb (bytes + 64 * conns + 90000 * n + 64) MAX_JOURNAL_LEN) e in
    let one = leb-true (entries + conns + n + 1) MAX_ENTRIES both.0 in
    let two = leb-true (bytes + 64 * conns + 90000 * n + 64) MAX_JOURNAL_LEN both.1 in
    and_from (leb (entries + conns + m + 1) MAX_ENTRIES) (leb (bytes + 64 * conns + 90000 * m + 64) MAX_JOURNAL_LEN)
    (le-leb (entries + conns + m + 1) MAX_ENTRIES (omega (arith, one, le)))
    (le-leb (bytes + 64 * conns + 90000 * m + 64) MAX_JOURNAL_LEN (omega (arith, two, le)))

-- What a drafted state takes, by numbers that may be capped.

same-le : (x y m : ℕ) → (x ≤ m → y ≤ m) → (y ≤ m → x ≤ m) → leb x m ≡ leb y m
same-le x y m f g = elim (leb_tells x m) [
  | inl w ↦ w.0 ∙ sym (le-leb y m (f w.1))
  | inr w ↦ elim (leb_tells y m) [
    | inl v ↦ let le = g v.1 in let gt = w.1 in absurd (omega (arith, le, gt))
    | inr v ↦ w.0 ∙ sym v.0
  ]
]

pub fits-so : (t : ℕ) (S : State) (d : DraftValue) (e b c drafted : ℕ) → S.sealed ≡ false → AllKeep d.entries
    → S.given ≤ length S.entries
    → e ≡ min (length S.entries - S.given + length d.entries) 18446744073709551615
    → b ≡ min (sum_by entry_size (drop S.given S.entries) + drafted) 18446744073709551615
    → drafted ≡ capped (sum_by entry_size d.entries) → c ≡ length S.conns
    → fits (with_draft t d S) ≡ fits_by e b c (count_by has_asked (conns_with S.conns (length S.entries) d.entries))
fits-so t S d e b c drafted unsealed keep within es bs ds cs =
    let conns = conns_with S.conns (length S.entries) d.entries in
    let n = count_by has_asked conns in
    let entries = length-append S.entries d.entries in
    let sums : sum_by entry_size (drop S.given (S.entries ++ d.entries)) ≡ sum_by entry_size (drop S.given S.entries) + sum_by entry_size d.entries = more-behind entry_size S.given S.entries d.entries within in
    let open_now : length conns ≡ length S.conns = conns-keep d.entries (length S.entries) S.conns keep in
    let one : leb (length (S.entries ++ d.entries) - S.given + length conns + n + 1) MAX_ENTRIES ≡ leb (e + c + n + 1) MAX_ENTRIES =
    same-le (length (S.entries ++ d.entries) - S.given + length conns + n + 1) (e + c + n + 1) MAX_ENTRIES
    (λ le. omega (arith, le, within, entries, open_now, es, cs)) (λ le. omega (arith, le, within, entries, open_now, es, cs)) in
    let two : leb (sum_by entry_size (drop S.given (S.entries ++ d.entries)) + 64 * length conns + 90000 * n + 64) MAX_JOURNAL_LEN ≡ leb (b + 64 * c + 90000 * n + 64) MAX_JOURNAL_LEN =
    same-le (sum_by entry_size (drop S.given (S.entries ++ d.entries)) + 64 * length conns + 90000 * n + 64) (b + 64 * c + 90000 * n + 64) MAX_JOURNAL_LEN
    (λ le. omega (arith, le, sums, open_now, bs, ds, cs)) (λ le. omega (arith, le, sums, open_now, bs, ds, cs)) in
    ap (λ (k : Bool). leb (length (S.entries ++ d.entries) - S.given + length conns + n + seals_left k) MAX_ENTRIES
    && leb (sum_by entry_size (drop S.given (S.entries ++ d.entries)) + 64 * length conns + 90000 * n + 64 * seals_left k) MAX_JOURNAL_LEN) unsealed
    ∙ rw (one, two) refl

-- no more wait than are open
pub few-waiting : (S : State) (d : DraftValue) → AllKeep d.entries
    → count_by has_asked (conns_with S.conns (length S.entries) d.entries) ≤ length S.conns
few-waiting S d keep =
    let conns = conns_with S.conns (length S.entries) d.entries in
    let le = count_by-le-length has_asked conns in
    let len = conns-keep d.entries (length S.entries) S.conns keep in
    omega (arith, le, len)

-- what has no room for asks that wait has none with them
pub room-none : (entries bytes conns n : ℕ) → fits_by entries bytes conns 0 ≡ false → fits_by entries bytes conns n ≡ false
room-none entries bytes conns n none = elim (cases_Bool (fits_by entries bytes conns n)) [
  | inl e ↦ absurd (false≢true (sym none ∙ room-fewer entries bytes conns n 0 (omega arith) e))
  | inr e ↦ e
]
