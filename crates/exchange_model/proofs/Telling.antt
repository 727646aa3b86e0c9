-- Within a step: who waits for exchanges that have ended is answered.
use Rattle.std.proofs.Common.{◌≡◌, ◌≢◌, ℕ, ◌+◌, ◌<◌, ◌⊎◌, inl, inr, Bool, true, false, not, eqb, cond, List, [], ◌∷◌, map, filter, fold, Option, Some, None, refl, sym, ap, subst, ◌∙◌, arith}
use Rattle.std.specs.Prelude.{length}
use Rattle.std.specs.List.{AllByRecursion, Contains}
use Rattle.std.proofs.lemmas.Bool.{false≢true, not-true}
use Rattle.std.proofs.lemmas.Bool.Decides.{eqb_tells}
use Rattle.std.proofs.lemmas.List.Elements.{All-contains_itself, recursion_from_All}
use Rattle.limits.specs.declared.TheConstants.{MAX_TRANSMIT_WAIT}
use Rattle.uri_map.specs.declared.peer.Peer.{Peer}
use Rattle.ask_model.specs.Views.{Ask}
use Rattle.ask_model.specs.declared.cause.Cause.TheVariants as C
use Rattle.journal_book.specs.Entries.{Grounds, Live, Kept as KeptGround, Fault, Asks, Answers}
use Rattle.history_laws.specs.Readings.{Noted, Note, Plain, at, noted, ticked}
use Rattle.history_laws.specs.Connections.{answers_of}
use Rattle.history_laws.specs.Confirming.{owed}
use Rattle.history_laws.specs.Justified.{HasGrounds, reads, reads_in, Caused}
use Rattle.history_laws.proofs.CallerLemmas.{all-more, all-of, asks-stand, at-keeps, at-same, contains-filter, filtered-from}
use Rattle.exchange_model.specs.declared.kept.Conn.{Conn}
use Rattle.exchange_model.specs.declared.kept.Exchange.{Exchange}
use Rattle.exchange_model.specs.declared.kept.Reader.{Reader}
use Rattle.exchange_model.specs.State.{State, link_of, pend}
use Rattle.exchange_model.specs.Reads.{Reads}
use Rattle.exchange_model.specs.Laws.{Before, Leads}
use Rattle.exchange_model.specs.Resting.{LinkRests, HasExchange, HasReader, IsServed, HasConn}
use Rattle.exchange_model.specs.Keeping.{HasMids, Kept}
use Rattle.exchange_model.specs.Calls.{Telling, tells}
use Rattle.exchange_model.specs.Entering.{answer_of, entered_all}
use Rattle.exchange_model.proofs.ConnsTell.{conns-tell}
use Rattle.exchange_model.proofs.Lists.{all-map, all-both}
use Rattle.exchange_model.proofs.Readers.{ReaderIn, readers-wait, Apart}
use Rattle.exchange_model.proofs.Silent.{answers-leads}

-- What is told are entries alone.
pub tells-enter : (t : ℕ) (xs : List Telling) (S : State) → fold (tells t) S xs ≡ entered_all t (map answer_of xs) S
tells-enter t [] S = refl
tells-enter t (x ∷ xs) S = tells-enter t xs (tells t S x)

pub tells-links : (t : ℕ) (xs : List Telling) (S : State) → (fold (tells t) S xs).links ≡ S.links
tells-links t [] S = refl
tells-links t (x ∷ xs) S = tells-links t xs (tells t S x)

pub tells-exchanges : (t : ℕ) (xs : List Telling) (S : State) → (fold (tells t) S xs).exchanges ≡ S.exchanges
tells-exchanges t [] S = refl
tells-exchanges t (x ∷ xs) S = tells-exchanges t xs (tells t S x)

pub tells-sealed : (t : ℕ) (xs : List Telling) (S : State) → (fold (tells t) S xs).sealed ≡ S.sealed
tells-sealed t [] S = refl
tells-sealed t (x ∷ xs) S = tells-sealed t xs (tells t S x)

-- connections

pub all-conns : (P : Conn → Type 0) (cs : List Conn) → ((x : Conn) → HasConn cs x.id x.pending → P x) → AllByRecursion P cs
all-conns P [] h = tt
all-conns P (x ∷ xs) h = (h x (inl (refl, refl)), all-conns P xs (λ y k. h y (inr k)))

pub conn-of : (P : Conn → Type 0) (cs : List Conn) (c : ℕ) (p : Option ℕ) → AllByRecursion P cs → HasConn cs c p → (x : Conn) × P x × (x.id ≡ c) × (x.pending ≡ p)
conn-of P [] c p a h = absurd h
conn-of P (x ∷ xs) c p a (inl h) = (x, a.0, h.0, h.1)
conn-of P (x ∷ xs) c p a (inr h) = conn-of P xs c p a.1 h

conn-same : (m t c d : ℕ) (b a : Ask) (u v : Note) → noted m (Asks c b) u ≡ noted t (Asks d a) v → c ≡ d
conn-same m t c d b a u v e = asks (ap (λ (x : Noted). x.written.deed) e)
  where
    asks : Asks c b ≡ Asks d a → c ≡ d
    asks f = cc

-- the connection that waits for an ask is the one that asked
pub reader-is : (l : List Noted) (S : State) (c : ℕ) (r : Reader) → Reads l S → ReaderIn l r → HasConn S.conns c (Some r.ask) → c ≡ r.conn
reader-is l S c r reads a h =
    let told = (conns-tell l S c reads).1 (Some r.ask) h in
    let ask = asks-stand l c (length (answers_of l c)) r.ask told.1 in
    conn-same ask.1.moment a.moment c r.conn ask.0 a.ask ask.1.note a.note (at-same l r.ask _ _ ask.1.stands a.stands)

-- An answer leaves what other answers rest on.

reads-keep : (x : Noted) (l : List Noted) (k o : ℕ) → reads l k ≡ Some o → reads (x ∷ l) k ≡ Some o
reads-keep x l k o h = by (at l k) refl h
  where
    by : (v : Option Noted) → at l k ≡ v → reads_in k v ≡ Some o → reads_in k (at (x ∷ l) k) ≡ Some o
    by None e h = absurd cc
    by (Some y) e h = rw (at-keeps x l k y e) h

grounds-keep : (l : List Noted) (t s c j : ℕ) (a : Grounds) (k : ℕ) (g : Grounds) → HasGrounds l t k g → HasGrounds (noted s (Answers c j a) Plain ∷ l) t k g
grounds-keep l t s c j a k (Live js) (inl (o, e, w, rs, is, ends, same)) = inl (o, e, w, rs, reads-keep _ l k o is, ends, same)
grounds-keep l t s c j a k (Live js) (inr (o, e, u, r, is, ends, same)) = inr (o, e, u, r, reads-keep _ l k o is, ends, same)
grounds-keep l t s c j a k (KeptGround js) (d, b, stands) = (d, b, at-keeps _ l k _ stands)
grounds-keep l t s c j a k (Fault cause n) h = by cause h
  where
    x : Noted
    x = noted s (Answers c j a) Plain

    by : (cause : _) → Caused l t k cause n → Caused (x ∷ l) t k cause n
    by C.Busy (is, inl h) =
        (is, inl (record { moment = h.moment; conn = h.conn; ask = h.ask; request = h.request; stands = at-keeps x l k _ h.stands; sense = h.sense }))
    by C.Busy (is, inr (o, e, at_it, ends)) = (is, inr (o, e, reads-keep x l k o at_it, ends))
    by C.Timeout (o, is, named, over) = (o, reads-keep x l k o is, named, over)
    by C.Reset (o, is, ends) = (o, reads-keep x l k o is, ends)
    by C.NotUnderstood (o, is, ends) = (o, reads-keep x l k o is, ends)
    by cause h = (h.0, h.1, record { conn = h.2.conn; ask = h.2.ask; status = h.2.status; asked = record { moment = h.2.asked.moment; note = h.2.asked.note; stands = at-keeps x l k _ h.2.asked.stands }; sense = h.2.sense })

-- who waits, once that one is told

abbrev pub readers_in : List Telling → List Reader
readers_in xs = map (λ (x : Telling). x.reader) xs

abbrev pub IsAmong : List Telling → ℕ → Type 0
IsAmong [] k = ⊥
IsAmong (x ∷ xs) k = (x.reader.ask ≡ k) ⊎ IsAmong xs k

-- Each reads an exchange that is open, or is still to be told.
abbrev pub ReadWith : List Exchange → List Telling → List Reader → Type 0
ReadWith es xs rs = AllByRecursion (λ (r : Reader). HasExchange es r.opening ⊎ IsAmong xs r.ask) rs

abbrev pub AreServed : List Reader → List Conn → Type 0
AreServed rs cs = AllByRecursion (λ (x : Conn). IsServed rs x.pending) cs

pub apart-by : (a c : ℕ) → not (eqb a c) ≡ true → a ≢ c
apart-by a c e same = elim (eqb_tells a c) [ inl u ↦ false≢true (sym (not-true (eqb a c) e) ∙ u.0) | inr u ↦ u.1 same ]

pub other-by : (a c : ℕ) → a ≢ c → not (eqb a c) ≡ true
other-by a c e = elim (eqb_tells a c) [ inl u ↦ absurd (e u.1) | inr u ↦ rw (u.0) refl ]

pub has-left : (rs : List Reader) (k j : ℕ) → HasReader rs j → j ≢ k → HasReader (filter (λ (r : Reader). not (eqb r.ask k)) rs) j
has-left [] k j h other = absurd h
has-left (r ∷ rs) k j (inl h) other = rw (other-by r.ask k (λ e. other (sym h ∙ e))) (inl h)
has-left (r ∷ rs) k j (inr h) other = by (not (eqb r.ask k)) (has-left rs k j h other)
  where
    by : (b : Bool) → HasReader (filter (λ (r : Reader). not (eqb r.ask k)) rs) j
        → HasReader (cond b (r ∷ filter (λ (r : Reader). not (eqb r.ask k)) rs) (filter (λ (r : Reader). not (eqb r.ask k)) rs)) j
    by true ih = inr ih
    by false ih = ih

served-left : (rs : List Reader) (c k : ℕ) (y : Conn) → (y.pending ≡ Some k → y.id ≡ c) → IsServed rs y.pending
    → IsServed (filter (λ (r : Reader). not (eqb r.ask k)) rs) (pend c None y).pending
served-left rs c k y mine h = elim (eqb_tells y.id c) [
  | inl w ↦ rw (w.0) tt
  | inr w ↦ rw (w.0) (by y.pending refl h (λ e. w.1 (mine e)))
]
  where
    by : (v : Option ℕ) → y.pending ≡ v → IsServed rs v → (y.pending ≡ Some k → ⊥) → IsServed (filter (λ (r : Reader). not (eqb r.ask k)) rs) v
    by None is h other = tt
    by (Some j) is h other = has-left rs k j h (λ e. other (is ∙ ap Some e))

-- what is left once all are told
pub record Told (l : List Noted) (t : ℕ) (xs : List Telling) (S : State) (n : List Noted) (S1 : State) : Type 0 where
  pub before : Before n t S1
  pub quiet : owed n ≡ None
  pub tick : ticked n ≡ ticked l
  pub served : AreServed S1.readers S1.conns
  pub left : AllByRecursion (λ (r : Reader). Contains S.readers r × (IsAmong xs r.ask → ⊥)) S1.readers

pub all-in : (rs : List Reader) → AllByRecursion (Contains rs) rs
all-in rs = recursion_from_All (Contains rs) rs (All-contains_itself rs)

-- one of them is told
record One (l : List Noted) (t : ℕ) (x : Telling) (xs : List Telling) (S : State) : Type 0 where
  before : Before (noted t (Answers x.reader.conn x.reader.ask x.grounds) Plain ∷ l) t (tells t S x)
  served : AreServed (tells t S x).readers (tells t S x).conns
  has : AllByRecursion (Contains (tells t S x).readers) (readers_in xs)
  grounds : AllByRecursion (λ (y : Telling). HasGrounds (noted t (Answers x.reader.conn x.reader.ask x.grounds) Plain ∷ l) t y.reader.ask y.grounds) xs

one-told : (x : Telling) (xs : List Telling) (l : List Noted) (t : ℕ) (S : State) → Before l t S → owed l ≡ None → AreServed S.readers S.conns
    → AllByRecursion (Contains S.readers) (readers_in (x ∷ xs)) → Apart (readers_in (x ∷ xs))
    → AllByRecursion (λ (x : Telling). HasGrounds l t x.reader.ask x.grounds) (x ∷ xs) → One l t x xs S
one-told x xs l t S b quiet served has apart grounds = record {
  before = record { reads = made.reads; later = omega arith };
  served = all-map (pend r.conn None) (λ (y : Conn). IsServed S1.readers y.pending) S.conns
      (all-more (λ (y : Conn). (y.pending ≡ Some r.ask → y.id ≡ r.conn) × IsServed S.readers y.pending) (λ (y : Conn). IsServed S1.readers (pend r.conn None y).pending)
      (λ y h. served-left S.readers r.conn r.ask y h.0 h.1) S.conns
      (all-both _ (λ (y : Conn). IsServed S.readers y.pending) S.conns
      (all-conns (λ (y : Conn). y.pending ≡ Some r.ask → y.id ≡ r.conn) S.conns
      (λ y h same. reader-is l S y.id r b.reads waits (subst (HasConn S.conns y.id) same h))) served));
  has = all-more (λ (s : Reader). Contains S.readers s × ((r.ask ≢ s.ask) × (r.conn ≢ s.conn))) (Contains S1.readers)
      (λ s h. contains-filter (λ (u : Reader). not (eqb u.ask r.ask)) S.readers s h.0 (other-by s.ask r.ask (λ e. h.1.0 (sym e)))) (readers_in xs)
      (all-both (Contains S.readers) _ (readers_in xs) has.1 apart.0);
  grounds = all-more (λ (y : Telling). HasGrounds l t y.reader.ask y.grounds) _ (λ y h. grounds-keep l t t r.conn r.ask x.grounds y.reader.ask y.grounds h) xs grounds.1;
}
  where
    r : Reader
    r = x.reader

    S1 : State
    S1 = tells t S x

    waits : ReaderIn l r
    waits = all-of (ReaderIn l) S.readers r (subst (AllByRecursion (ReaderIn l)) b.reads.readers_are (readers-wait l b.reads.legal)) has.0

    made : Leads l (noted t (Answers r.conn r.ask x.grounds) Plain) S1
    made = answers-leads l t r.conn r.ask x.grounds S b quiet waits.open_now waits.waits grounds.0

still-left : (x : Telling) (xs : List Telling) (rs : List Reader) (s : Reader)
    → Contains (filter (λ (r : Reader). not (eqb r.ask x.reader.ask)) rs) s × (IsAmong xs s.ask → ⊥) → Contains rs s × (IsAmong (x ∷ xs) s.ask → ⊥)
still-left x xs rs s h = (from.0, by)
  where
    from : Contains rs s × (not (eqb s.ask x.reader.ask) ≡ true)
    from = filtered-from (λ (r : Reader). not (eqb r.ask x.reader.ask)) rs s h.0

    by : IsAmong (x ∷ xs) s.ask → ⊥
    by (inl e) = apart-by s.ask x.reader.ask from.1 (sym e)
    by (inr k) = h.1 k

pub all-told : (xs : List Telling) (l : List Noted) (t : ℕ) (S : State) → Before l t S → owed l ≡ None → AreServed S.readers S.conns
    → AllByRecursion (Contains S.readers) (readers_in xs) → Apart (readers_in xs)
    → AllByRecursion (λ (x : Telling). HasGrounds l t x.reader.ask x.grounds) xs
    → (n : List Noted) × Told l t xs S n (fold (tells t) S xs)
all-told [] l t S b quiet served has apart grounds = (
  l,
  record {
    before = b;
    quiet = quiet;
    tick = refl;
    served = served;
    left = all-more (Contains S.readers) _ (λ r h. (h, λ k. absurd k)) S.readers (all-in S.readers);
  },
)
all-told (x ∷ xs) l t S b quiet served has apart grounds =
    let one = one-told x xs l t S b quiet served has apart grounds in
    let more = all-told xs (noted t (Answers x.reader.conn x.reader.ask x.grounds) Plain ∷ l) t (tells t S x) one.before refl one.served one.has apart.1 one.grounds in (
      more.0,
      record {
        before = more.1.before;
        quiet = more.1.quiet;
        tick = more.1.tick;
        served = more.1.served;
        left = all-more (λ (s : Reader). Contains (tells t S x).readers s × (IsAmong xs s.ask → ⊥)) (λ (s : Reader). Contains S.readers s × (IsAmong (x ∷ xs) s.ask → ⊥))
            (still-left x xs S.readers) (fold (tells t) S (x ∷ xs)).readers more.1.left;
      },
    )

-- Who is left reads what is open.
pub left-reads : (es : List Exchange) (xs : List Telling) (rs left : List Reader) → ReadWith es xs rs
    → AllByRecursion (λ (r : Reader). Contains rs r × (IsAmong xs r.ask → ⊥)) left → AllByRecursion (λ (r : Reader). HasExchange es r.opening) left
left-reads es xs rs left a h = all-more _ (λ (r : Reader). HasExchange es r.opening) (λ r k. by r k.1 (all-of _ rs r a k.0)) left h
  where
    by : (r : Reader) → (IsAmong xs r.ask → ⊥) → HasExchange es r.opening ⊎ IsAmong xs r.ask → HasExchange es r.opening
    by r none (inl w) = w
    by r none (inr w) = absurd (none w)

-- What is kept of a core stays so.
pub kept-told : (l : List Noted) (t : ℕ) (xs : List Telling) (S : State) (n : List Noted) → Told l t xs S n (fold (tells t) S xs)
    → ((p : Peer) → LinkRests (ticked l) (link_of S.links p)) → AllByRecursion (λ (e : Exchange). ticked l < e.since + MAX_TRANSMIT_WAIT) S.exchanges
    → ReadWith S.exchanges xs S.readers → ((p : Peer) → HasMids (link_of S.links p)) → Kept (fold (tells t) S xs)
kept-told l t xs S n told rest in_time reading mids = record {
  reading = n;
  rests = record {
    reads = told.before.reads;
    quiet = told.quiet;
    links = λ p. rw (told.tick, tells-links t xs S) (rest p);
    in_time = rw (told.tick, tells-exchanges t xs S) in_time;
    served = told.served;
    reading = rw (tells-exchanges t xs S) (left-reads S.exchanges xs S.readers (fold (tells t) S xs).readers reading told.left);
  };
  mids = λ p. rw (tells-links t xs S) (mids p);
}
