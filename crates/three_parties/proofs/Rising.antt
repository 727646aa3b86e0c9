-- The moments of a journal's entries, and of what a stored response was heard in.
use Rattle.std.proofs.Common.{◌≡◌, ℕ, zero, suc, ◌<◌, ◌≤◌, inl, inr, List, [], ◌∷◌, Some, subst, arith}
use Rattle.std.specs.List.{Contains}
use Rattle.coap_codec.specs.Spelling.{Content}
use Rattle.ask_model.specs.Requests.{CoapRequest}
use Rattle.journal_book.specs.Entries.{Deed, Live, Answers, Written}
use Rattle.resp_cache.specs.Stored.{Stored}
use Rattle.history_laws.specs.Justified.{Legal, Stands}
use Rattle.history_laws.specs.Readings.{Noted, at, newest}
use Rattle.history_laws.proofs.CallerLemmas.{at-below, at-newest, at-old, none-some}
use Rattle.history_claims.specs.Headline.{IsEntry}
use Rattle.history_claims.specs.Stored.{IsServed, RestsOnRenewed, WasRenewed, never, again}
use Rattle.story_laws.specs.Reads.{AreToldFor, IsToldFor}
use Rattle.story_laws.proofs.Posting.{noted-at}

moments-rise : (l : List Noted) (i k : ℕ) (x y : Noted) → Legal l → at l i ≡ Some x → at l k ≡ Some y → i < k → x.written.moment ≤ y.written.moment
moments-rise [] i k x y legal there here lt = absurd (none-some x there)
moments-rise (z ∷ older) i k x y legal there here lt =
    elim (at-old z older k y here) [
      | inl w ↦ elim (at-old z older i x there) [
        | inl v ↦ let one = w.0 in let two = v.0 in absurd (omega (arith, one, two, lt))
        | inr v ↦
            let old = at-newest older i x legal.0 v in
            subst (λ (y : Noted). x.written.moment ≤ y.written.moment) w.1 (let step = legal.1 in omega (arith, old, step))
      ]
      | inr w ↦ elim (at-old z older i x there) [
        | inl v ↦ let here_below = at-below older k y w in let two = v.0 in absurd (omega (arith, here_below, two, lt))
        | inr v ↦ moments-rise older i k x y legal.0 v w lt
      ]
    ]

pub entries-rise : (h : List Written) → Stands h → (i k t u : ℕ) (d e : Deed) → IsEntry h i t d → IsEntry h k u e → i < k → t ≤ u
entries-rise h s i k t u d e first second lt =
    let x = noted-at s.reading h i t d s.entries_are first in
    let y = noted-at s.reading h k u e s.entries_are second in
    moments-rise s.reading i k _ _ s.legal x.stands y.stands lt

-- What is stored was heard first before.
pub first-heard : (h : List Written) (q : CoapRequest) (first : Stored) (n : ℕ) (s : Stored) → WasRenewed h q first n s → (j : ℕ) → Contains first.list j → j < n
first-heard h q first n s (never before) j has = before j has
first-heard h q first n s (again {s = old} o c t i r m asked same was it below) j has =
    let sooner = first-heard h q first o old was j has in
    let sent = it.heard.sent_for.after in
    let came = it.heard.response.after in
    omega (arith, sooner, sent, came, below)

-- So it was before the answer that rests on it,
pub kept-by : (h : List Written) → Stands h → (t c k : ℕ) (js : List ℕ) → (r : IsServed h t c k js) → (j u : ℕ) (d : Deed) → Contains r.is.first.list j
    → IsEntry h j u d → u ≤ t
kept-by h s t c k js r j u d has e = entries-rise h s j k u t d _ e r.asked.stands (first-heard h r.request r.is.first k r.stored r.is.renewed j has)

-- or on what renewed it.
pub renewed-by : (h : List Written) → Stands h → (n t c k : ℕ) (js : List ℕ) → IsEntry h n t (Answers c k (Live js)) → (r : RestsOnRenewed h n c k js)
    → (j u : ℕ) (d : Deed) → Contains r.was.first.list j → IsEntry h j u d → u ≤ t
renewed-by h s n t c k js answered r j u d has e =
    let sooner = first-heard h r.request r.was.first r.opening r.stored r.was.renewed j has in
    let sent = r.valid.heard.sent_for.after in
    let came = r.valid.heard.response.after in
    let before = r.before in
    entries-rise h s j n u t d _ e answered (omega (arith, sooner, sent, came, before))

-- one of the messages that were told
pub told-among : (h : List Written) (k : ℕ) (q : CoapRequest) (js : List ℕ) (ms : List Content) → AreToldFor h k q js ms → (j : ℕ) → Contains js j
    → (m : Content) × IsToldFor h k q j m
told-among h k q [] ms told j has = absurd (omega (arith, has.1))
told-among h k q (i ∷ js) [] told j has = absurd told
told-among h k q (i ∷ js) (m ∷ ms) told j (zero, lt, e) = (m, subst (λ (j : ℕ). IsToldFor h k q j m) e told.0)
told-among h k q (i ∷ js) (m ∷ ms) told j (suc n, lt, e) = told-among h k q js ms told.1 j (n, omega (arith, lt), e)
