-- Connections and exchanges stand in the order of their numbers.
use Rattle.std.proofs.Common.{◌≡◌, ℕ, ◌<◌, zero, suc, inl, inr, Bool, true, false, cond, eqb, Option, List, [], ◌∷◌, length, map, get_or, refl, sym, ap, subst, ◌∙◌, arith}
use Rattle.std.proofs.Math.ListN.{set}
use Rattle.std.proofs.lemmas.Bool.{eqb-true, eq-eqb, false≢true}
use Rattle.history_laws.specs.Numbering.{token_number}
use Rattle.history_laws.specs.Readings.{Noted}
use Rattle.history_laws.specs.Exchanges.{openings, is_going}
use Rattle.std.specs.List.{AllByRecursion}
use Rattle.history_laws.proofs.CallerLemmas.{all-more, begun-below, entries-length, openings-rising, rank-below, Rising, rising-filter}
use Rattle.exchange_model.specs.declared.kept.Conn.{Conn}
use Rattle.exchange_model.specs.declared.kept.Exchange.{Exchange}
use Rattle.exchange_model.specs.declared.kept.Reader.{Reader}
use Rattle.exchange_model.specs.declared.kept.Stale.{Stale}
use Rattle.exchange_model.specs.Resting.{HasConn}
use Rattle.exchange_model.specs.State.{State, pend}
use Rattle.exchange_model.specs.Reads.{ExchangeIn, Reads}
use Rattle.exchange_model.specs.Growing.{Rise, RiseByAsk}
use Rattle.exchange_model.specs.Keeping.{Kept}
use Rattle.exchange_model.specs.Room.{KeptInRoom}
use Rattle.exchange_model.proofs.CallerLemmas.{conns-rise, readers-rise, OpenIn, open-ones}
use Rattle.exchange_core.specs.Places.{IsOrdered, has_id, id_of}
use Rattle.exchange_table.specs.Places.{RiseBy, IsNowhere, IsOnlyAt}
use Rattle.exchange_table.specs.Readers.{ask_in}
use Rattle.exchange_table.specs.Tables.{IsLatest, opening_of}
use Rattle.exchange_table.proofs.CallerLemmas.{map-none, map-only, only-is, rise-map, Tells}

-- what passes a test bears the number

pub id-tells : (c : ℕ) → Tells id_of c (has_id c)
id-tells c x e = eqb-true x.id c e

-- the order of a core's tables

by-id : (cs : List Conn) → Rise cs → RiseBy id_of cs
by-id [] r = tt
by-id (x ∷ xs) r = (r.0, by-id xs r.1)

pub conns-ordered : (S : State) → KeptInRoom S → RiseBy id_of S.conns
conns-ordered S k = by-id S.conns (conns-rise S k)

by-ask : (rs : List Reader) → RiseByAsk rs → RiseBy ask_in rs
by-ask [] r = tt
by-ask (x ∷ xs) r = (r.0, by-ask xs r.1)

pub asks-ordered : (S : State) → KeptInRoom S → RiseBy ask_in S.readers
asks-ordered S k = by-ask S.readers (readers-rise S k)

pub ordered : (S : State) → KeptInRoom S → IsOrdered S
ordered S k = record { conns = conns-ordered S k; readers = asks-ordered S k }

-- Exchanges stand in the order of their openings.

by-opening : (es : List Exchange) → Rising (map opening_of es) → RiseBy opening_of es
by-opening [] r = tt
by-opening (e ∷ es) r = (above es r.0, by-opening es r.1)
  where
    above : (fs : List Exchange) → AllByRecursion (λ (o : ℕ). e.opening < o) (map opening_of fs)
        → AllByRecursion (λ (f : Exchange). e.opening < f.opening) fs
    above [] a = tt
    above (f ∷ fs) a = (a.0, above fs a.1)

pub exchanges-ordered : (S : State) → Kept S → RiseBy opening_of S.exchanges
exchanges-ordered S k =
    let l = k.reading in
    by-opening S.exchanges
    (subst Rising k.rests.reads.keys (rising-filter (is_going l) (openings l) (openings-rising l)))

-- What is opened next comes after all that is open.
pub latest : (S : State) (e : Exchange) → Kept S → e.opening ≡ length S.entries → token_number e.token ≡ S.issued → IsLatest e S.exchanges
latest S e k opening token = record {
  opening = all-more (ExchangeIn r.start l) _ (λ (f : Exchange) i. let below = begun-below l f.opening _ i.opening in omega (arith, below, opening, len)) S.exchanges r.exchanges_are;
  token = all-more (OpenIn r.start l) _ (λ (f : Exchange) i.
      let below = rank-below l f.opening _ r.legal i.0.opening i.1 in
      let number = i.0.number in
      let issued = r.issued_are in
      omega (arith, below, number, issued, token)) S.exchanges (open-ones l S r);
}
  where
    l : List Noted
    l = k.reading

    r : Reads l S
    r = k.rests.reads

    len : length l ≡ length S.entries
    len = sym (entries-length l) ∙ ap length r.entries_are

-- What exchanges ask about was noted at their openings.
pub stales-before : (S : State) → Kept S → (o : ℕ) → o ≡ length S.entries → AllByRecursion (λ (x : Stale). x.opening < o) S.stales
stales-before S k o is =
    let r = k.rests.reads in
    let len : length k.reading ≡ length S.entries = sym (entries-length k.reading) ∙ ap length r.entries_are in
    all-more (λ (x : Stale). x.opening < length k.reading) (λ (x : Stale). x.opening < o) (λ x lt. omega (arith, lt, len, is)) S.stales r.stales_are.below

-- What a connection waits for is no part of the order.

id-stays : (c : ℕ) (p : Option ℕ) (x : Conn) → id_of (pend c p x) ≡ id_of x
id-stays c p x = by (eqb x.id c)
  where
    by : (b : Bool) → id_of (cond b (record x { pending = p }) x) ≡ id_of x
    by true = refl
    by false = refl

pub rise-pend : (c : ℕ) (p : Option ℕ) (cs : List Conn) → RiseBy id_of cs → RiseBy id_of (map (pend c p) cs)
rise-pend c p cs r = rise-map id_of (pend c p) cs (id-stays c p) r

other-pend : (c : ℕ) (p : Option ℕ) (x : Conn) → has_id c x ≡ false → pend c p x ≡ x
other-pend c p x e = rw e refl

pub pend-nowhere : (c : ℕ) (p : Option ℕ) (cs : List Conn) → IsNowhere (has_id c) cs → map (pend c p) cs ≡ cs
pend-nowhere c p cs h = map-none (has_id c) (pend c p) cs (other-pend c p) h

pub pend-only : (c : ℕ) (p : Option ℕ) (cs : List Conn) (i : ℕ) (d : Conn) → IsOnlyAt (has_id c) cs i → map (pend c p) cs ≡ set cs i (record (get_or cs i d) { pending = p })
pend-only c p cs i d h = map-only (has_id c) (pend c p) cs i d (other-pend c p) h
    ∙ ap (set cs i) (ap (λ (b : Bool). cond b (record (get_or cs i d) { pending = p }) (get_or cs i d)) (only-is (has_id c) cs i d h))

-- the connection with the number, and what it waits for

pub has-only : (c : ℕ) (cs : List Conn) (i : ℕ) (d : Conn) → IsOnlyAt (has_id c) cs i → HasConn cs c (get_or cs i d).pending
has-only c [] i d h = absurd h
has-only c (x ∷ xs) zero d h = inl (eqb-true x.id c h.0, refl)
has-only c (x ∷ xs) (suc i) d h = inr (has-only c xs i d h.1)

pub has-none : (c : ℕ) (cs : List Conn) → IsNowhere (has_id c) cs → (p : Option ℕ) → HasConn cs c p → ⊥
has-none c [] h p k = absurd k
has-none c (x ∷ xs) h p (inl k) = absurd (false≢true (sym h.0 ∙ eq-eqb x.id c k.0))
has-none c (x ∷ xs) h p (inr k) = has-none c xs h.1 p k
