-- Connections that wait for an answer, or for being told one, as a core steps.
use Rattle.std.proofs.Common.{◌≡◌, ◌≢◌, ◌⊎◌, inl, inr, ℕ, ◌+◌, Bool, true, false, cond, not, List, [], ◌∷◌, ◌++◌, length, map, drop, Some, None, refl, sym, ap, ◌∙◌, subst, length-append, eqb-true, eq-eqb}
use Rattle.std.specs.Prelude.{◌==◌}
use Rattle.std.specs.List.{AllByRecursion, filter}
use Rattle.std.proofs.Math.Seq.{drop-append_seam}
use Rattle.std.proofs.lemmas.List.{append-nil, append_assoc}
use Rattle.std.proofs.lemmas.Bool.{both_ways}
use Rattle.history_laws.proofs.CallerLemmas.{got-last, got-more, none-some, some-is}
use Rattle.ask_model.specs.Views.{Ask}
use Rattle.journal_book.specs.Entries.{Deed, Opens, Asks, Sends, Hears, Passes, Answers, Shuts, Seals, Carries, Written}
use Rattle.history_claims.specs.Headline.{IsEntry}
use Rattle.exchange_model.specs.declared.kept.Conn.{Conn}
use Rattle.exchange_model.specs.State.{State, pend, conns_after}
use Rattle.exchange_model.specs.Resting.{HasConn}
use Rattle.exchange_model.specs.Growing.{at_moment, conns_with}
use Rattle.exchange_model.specs.Steps.{shuts}
use Rattle.exchange_core.specs.Values.{Untaken, CoreValue, answered_by, answered_in, stepped}
use Rattle.gateway_model.specs.Waiting.{conn_id}
use Rattle.gateway_model.proofs.Moving.{IsAwaited, AreAwaited, IsInner, AreInner, Moves, Begins, asks-for}
use Rattle.gateway_model.proofs.Conns.{StandOnce, same-conn, others-wait, waited-before, others-open, was-open, was-waiting}
use Rattle.gateway_model.proofs.Numbers.{pend-ids}

-- an answer to this ask of the connection waits to be told
abbrev pub IsToTell : List Untaken → ℕ → ℕ → Type 0
IsToTell [] c k = ⊥
IsToTell (u ∷ us) c k = ((u.conn ≡ c) × (u.ask ≡ k)) ⊎ IsToTell us c k

-- The connection asked this, which is such, and waits for the answer, or to be told it.
pub record Awaits (P : Ask → Type 0) (c : ℕ) (v : CoreValue) : Type 0 where
  pub number : ℕ
  pub moment : ℕ
  pub ask : Ask
  pub asked : IsEntry v.state.entries number moment (Asks c ask)
  pub such : P ask
  pub due : HasConn v.state.conns c (Some number) ⊎ IsToTell v.untaken c number

-- What each connection waits for is an ask of its own.
abbrev pub AskTheirOwn : List Written → List Conn → Type 0
AskTheirOwn h cs = (c k : ℕ) → HasConn cs c (Some k) → (t : ℕ) × (a : Ask) × IsEntry h k t (Asks c a)

-- what stands among entries

pub entry-more : (h g : List Written) (k t : ℕ) (d : Deed) → IsEntry h k t d → IsEntry (h ++ g) k t d
entry-more h g k t d e = got-more h g k (at_moment t d) e

pub entry-last : (h g : List Written) (t : ℕ) (d : Deed) → IsEntry (h ++ at_moment t d ∷ g) (length h) t d
entry-last h g t d = got-last h (at_moment t d) g

pub same-entry : (h : List Written) (k t u c d : ℕ) (a b : Ask) → IsEntry h k t (Asks c a) → IsEntry h k u (Asks d b)
    → (c ≡ d) × (a ≡ b)
same-entry h k t u c d a b e f =
    same-ask c d a b (ap (λ (w : Written). w.deed) (some-is (at_moment t (Asks c a)) (at_moment u (Asks d b)) (sym e ∙ f)))
  where
    same-ask : (c d : ℕ) (a b : Ask) → Asks c a ≡ Asks d b → (c ≡ d) × (a ≡ b)
    same-ask c d a b e = (cc, cc)

-- Whatever comes, each connection waits for an ask of its own.
own-after : (h : List Written) (cs : List Conn) (t : ℕ) (d : Deed) → AskTheirOwn h cs
    → AskTheirOwn (h ++ at_moment t d ∷ []) (conns_after cs (length h) d)
own-after h cs t (Opens x) own c k has =
    let o = own c k (was-waiting c k x cs has) in (o.0, o.1, entry-more h _ k o.0 (Asks c o.1) o.2)
own-after h cs t (Asks x a) own c k has = by (waited-before x c (Some (length h)) (Some k) cs has)
  where
    by : ((c ≡ x) × (Some (length h) ≡ Some k)) ⊎ HasConn cs c (Some k)
        → (u : ℕ) × (b : Ask) × IsEntry (h ++ at_moment t (Asks x a) ∷ []) k u (Asks c b)
    by (inl e) =
        let same : length h ≡ k = some-is (length h) k e.1 in
        let stands : IsEntry (h ++ at_moment t (Asks x a) ∷ []) k t (Asks x a) =
        subst (λ (i : ℕ). IsEntry (h ++ at_moment t (Asks x a) ∷ []) i t (Asks x a)) same (entry-last h [] t (Asks x a)) in
        (t, a, subst (λ (z : ℕ). IsEntry (h ++ at_moment t (Asks x a) ∷ []) k t (Asks z a)) (sym e.0) stands)
    by (inr before) = let o = own c k before in (o.0, o.1, entry-more h _ k o.0 (Asks c o.1) o.2)
own-after h cs t (Sends p b w) own c k has =
    let o = own c k has in (o.0, o.1, entry-more h _ k o.0 (Asks c o.1) o.2)
own-after h cs t (Hears p b) own c k has =
    let o = own c k has in (o.0, o.1, entry-more h _ k o.0 (Asks c o.1) o.2)
own-after h cs t Passes own c k has =
    let o = own c k has in (o.0, o.1, entry-more h _ k o.0 (Asks c o.1) o.2)
own-after h cs t (Answers x j g) own c k has = by (waited-before x c None (Some k) cs has)
  where
    by : ((c ≡ x) × (None ≡ Some k)) ⊎ HasConn cs c (Some k)
        → (u : ℕ) × (b : Ask) × IsEntry (h ++ at_moment t (Answers x j g) ∷ []) k u (Asks c b)
    by (inl e) = absurd (none-some k e.1)
    by (inr before) = let o = own c k before in (o.0, o.1, entry-more h _ k o.0 (Asks c o.1) o.2)
own-after h cs t (Shuts x) own c k has =
    let o = own c k (was-open x c (Some k) cs has) in (o.0, o.1, entry-more h _ k o.0 (Asks c o.1) o.2)
own-after h cs t Seals own c k has =
    let o = own c k has in (o.0, o.1, entry-more h _ k o.0 (Asks c o.1) o.2)
own-after h cs t (Carries number mark done) own c k has =
    let o = own c k has in (o.0, o.1, entry-more h _ k o.0 (Asks c o.1) o.2)

pub own-with : (h : List Written) (cs : List Conn) (ws : List Written) → AskTheirOwn h cs
    → AskTheirOwn (h ++ ws) (conns_with cs (length h) ws)
own-with h cs [] own = subst (λ (g : List Written). AskTheirOwn g cs) (sym (append-nil h)) own
own-with h cs (w ∷ ws) own =
    let long : length (h ++ w ∷ []) ≡ length h + 1 = length-append h (w ∷ []) in
    subst (λ (n : ℕ). AskTheirOwn (h ++ w ∷ ws) (conns_with (conns_after cs (length h) w.deed) n ws)) long
    (subst (λ (g : List Written). AskTheirOwn g (conns_with (conns_after cs (length h) w.deed) (length (h ++ w ∷ [])) ws))
    (append_assoc h (w ∷ []) ws)
    (own-with (h ++ w ∷ []) (conns_after cs (length h) w.deed) ws (own-after h cs w.moment w.deed own)))

-- A connection that waits does so until the answer is to be told.

pub told-more : (us vs : List Untaken) (c k : ℕ) → IsToTell us c k → IsToTell (us ++ vs) c k
told-more [] vs c k h = absurd h
told-more (u ∷ us) vs c k (inl h) = inl h
told-more (u ∷ us) vs c k (inr h) = inr (told-more us vs c k h)

pub told-after : (us vs : List Untaken) (c k : ℕ) → IsToTell vs c k → IsToTell (us ++ vs) c k
told-after [] vs c k h = h
told-after (u ∷ us) vs c k h = inr (told-after us vs c k h)

inner-ids : (cs : List Conn) (n : ℕ) (d : Deed) → IsInner d → map conn_id (conns_after cs n d) ≡ map conn_id cs
inner-ids cs n (Opens c) h = absurd cc
inner-ids cs n (Asks c a) h = absurd cc
inner-ids cs n (Sends p b t) h = refl
inner-ids cs n (Hears p b) h = refl
inner-ids cs n Passes h = refl
inner-ids cs n (Answers c k g) h = pend-ids c None cs
inner-ids cs n (Shuts c) h = absurd cc
inner-ids cs n Seals h = refl
inner-ids cs n (Carries number mark done) h = refl

-- the connection is this one, or another
pub which : (c d : ℕ) → (c ≡ d) ⊎ (c ≢ d)
which c d = by (c == d) refl
  where
    by : (b : Bool) → (c == d) ≡ b → (c ≡ d) ⊎ (c ≢ d)
    by true e = inl (eqb-true c d e)
    by false e = inr (λ same. (both_ways (c == d) e (eq-eqb c d same)))

due-after : (d k n : ℕ) (cs : List Conn) (x : Deed) → StandOnce (map conn_id cs) → IsInner x → IsAwaited cs x
    → HasConn cs d (Some k) → HasConn (conns_after cs n x) d (Some k) ⊎ IsToTell (answered_by n x) d k
due-after d k n cs (Opens c) o i a h = absurd cc
due-after d k n cs (Asks c b) o i a h = absurd cc
due-after d k n cs (Sends p b t) o i a h = inl h
due-after d k n cs (Hears p b) o i a h = inl h
due-after d k n cs Passes o i a h = inl h
due-after d k n cs (Answers c j g) o i a h = by (which d c)
  where
    by : (d ≡ c) ⊎ (d ≢ c) → HasConn (map (pend c None) cs) d (Some k) ⊎ IsToTell (record { conn = c; ask = j; number = n } ∷ []) d k
    by (inl e) =
        let own : HasConn cs d (Some j) = subst (λ (z : ℕ). HasConn cs z (Some j)) (sym e) a in
        inr (inl (sym e, some-is j k (same-conn d (Some j) (Some k) cs o own h)))
    by (inr ne) = inl (others-wait c d None (Some k) cs ne h)
due-after d k n cs (Shuts c) o i a h = absurd cc
due-after d k n cs Seals o i a h = inl h
due-after d k n cs (Carries number mark done) o i a h = inl h

pub due-with : (d k n : ℕ) (cs : List Conn) (ws : List Written) → StandOnce (map conn_id cs) → AreInner ws → AreAwaited cs n ws
    → HasConn cs d (Some k) → HasConn (conns_with cs n ws) d (Some k) ⊎ IsToTell (answered_in n ws) d k
due-with d k n cs [] o i a h = inl h
due-with d k n cs (w ∷ ws) o i a h = by (due-after d k n cs w.deed o i.0 a.0 h)
    (λ has. due-with d k (n + 1) (conns_after cs n w.deed) ws (subst StandOnce (sym (inner-ids cs n w.deed i.0)) o) i.1 a.1 has)
  where
    later : HasConn (conns_with (conns_after cs n w.deed) (n + 1) ws) d (Some k) ⊎ IsToTell (answered_in (n + 1) ws) d k
        → HasConn (conns_with cs n (w ∷ ws)) d (Some k) ⊎ IsToTell (answered_by n w.deed ++ answered_in (n + 1) ws) d k
    later (inl has) = inl has
    later (inr told) = inr (told-after (answered_by n w.deed) (answered_in (n + 1) ws) d k told)

    by : HasConn (conns_after cs n w.deed) d (Some k) ⊎ IsToTell (answered_by n w.deed) d k
        → (HasConn (conns_after cs n w.deed) d (Some k)
        → HasConn (conns_with (conns_after cs n w.deed) (n + 1) ws) d (Some k) ⊎ IsToTell (answered_in (n + 1) ws) d k)
        → HasConn (conns_with cs n (w ∷ ws)) d (Some k) ⊎ IsToTell (answered_by n w.deed ++ answered_in (n + 1) ws) d k
    by (inl has) rest = later (rest has)
    by (inr told) rest = inr (told-more (answered_by n w.deed) (answered_in (n + 1) ws) d k told)

-- steps of a core

-- It adds such entries, and their answers are to be told.
pub record StepsTo (v u : CoreValue) : Type 0 where
  pub more : List Written
  pub entries : u.state.entries ≡ v.state.entries ++ more
  pub inner : AreInner more
  pub conns : u.state.conns ≡ conns_with v.state.conns (length v.state.entries) more
  pub awaited : AreAwaited v.state.conns (length v.state.entries) more
  pub untaken : u.untaken ≡ v.untaken ++ answered_in (length v.state.entries) more

pub told-of : (S : State) (v u : CoreValue) (more : List Written) → u ≡ stepped S v → S.entries ≡ v.state.entries ++ more
    → u.untaken ≡ v.untaken ++ answered_in (length v.state.entries) more
told-of S v u more e entries =
    let n : ℕ = length v.state.entries in
    ap (λ (x : CoreValue). x.untaken) e
    ∙ ap (λ (ws : List Written). v.untaken ++ answered_in n ws)
    (ap (drop n) entries ∙ drop-append_seam v.state.entries more)

pub steps-by : (S : State) (v u : CoreValue) → u ≡ stepped S v → Moves v.state S → StepsTo v u
steps-by S v u e m = record {
  more = m.more;
  entries = ap (λ (x : CoreValue). x.state.entries) e ∙ m.entries;
  inner = m.inner;
  conns = ap (λ (x : CoreValue). x.state.conns) e ∙ m.conns;
  awaited = m.awaited;
  untaken = told-of S v u m.more e m.entries;
}

pub steps-own : (v u : CoreValue) → StepsTo v u → AskTheirOwn v.state.entries v.state.conns
    → AskTheirOwn u.state.entries u.state.conns
steps-own v u s own =
    subst (λ (h : List Written). AskTheirOwn h u.state.conns) (sym s.entries)
    (subst (λ (cs : List Conn). AskTheirOwn (v.state.entries ++ s.more) cs) (sym s.conns)
    (own-with v.state.entries v.state.conns s.more own))

ids-with : (cs : List Conn) (n : ℕ) (ws : List Written) → AreInner ws → map conn_id (conns_with cs n ws) ≡ map conn_id cs
ids-with cs n [] h = refl
ids-with cs n (w ∷ ws) h = ids-with (conns_after cs n w.deed) (n + 1) ws h.1 ∙ inner-ids cs n w.deed h.0

pub steps-ids : (v u : CoreValue) → StepsTo v u → map conn_id u.state.conns ≡ map conn_id v.state.conns
steps-ids v u s = ap (map conn_id) s.conns ∙ ids-with v.state.conns (length v.state.entries) s.more s.inner

pub steps-once : (v u : CoreValue) → StepsTo v u → StandOnce (map conn_id v.state.conns) → StandOnce (map conn_id u.state.conns)
steps-once v u s o =
    subst StandOnce (sym (steps-ids v u s)) o

pub steps-await : (P : Ask → Type 0) (c : ℕ) (v u : CoreValue) → StepsTo v u → StandOnce (map conn_id v.state.conns)
    → Awaits P c v → Awaits P c u
steps-await P c v u s o x = record {
  number = x.number;
  moment = x.moment;
  ask = x.ask;
  asked = subst (λ (h : List Written). IsEntry h x.number x.moment (Asks c x.ask)) (sym s.entries)
      (entry-more v.state.entries s.more x.number x.moment (Asks c x.ask) x.asked);
  such = x.such;
  due = by x.due;
}
  where
    put : HasConn (conns_with v.state.conns (length v.state.entries) s.more) c (Some x.number) ⊎ IsToTell (answered_in (length v.state.entries) s.more) c x.number
        → HasConn u.state.conns c (Some x.number) ⊎ IsToTell u.untaken c x.number
    put (inl has) = inl (subst (λ (cs : List Conn). HasConn cs c (Some x.number)) (sym s.conns) has)
    put (inr told) = inr (subst (λ (us : List Untaken). IsToTell us c x.number) (sym s.untaken)
        (told-after v.untaken (answered_in (length v.state.entries) s.more) c x.number told))

    by : HasConn v.state.conns c (Some x.number) ⊎ IsToTell v.untaken c x.number
        → HasConn u.state.conns c (Some x.number) ⊎ IsToTell u.untaken c x.number
    by (inl has) = put (due-with c x.number (length v.state.entries) v.state.conns s.more o s.inner s.awaited has)
    by (inr told) = inr (subst (λ (us : List Untaken). IsToTell us c x.number) (sym s.untaken)
        (told-more v.untaken (answered_in (length v.state.entries) s.more) c x.number told))

-- an ask

pub record AsksTo (t c : ℕ) (a : Ask) (v u : CoreValue) : Type 0 where
  pub rest : List Written
  pub entries : u.state.entries ≡ v.state.entries ++ at_moment t (Asks c a) ∷ rest
  pub inner : AreInner rest
  pub conns : u.state.conns
      ≡ conns_with (map (pend c (Some (length v.state.entries))) v.state.conns) (length v.state.entries + 1) rest
  pub awaited : AreAwaited (map (pend c (Some (length v.state.entries))) v.state.conns) (length v.state.entries + 1) rest
  pub untaken : u.untaken ≡ v.untaken ++ answered_in (length v.state.entries + 1) rest

pub asks-by : (t c : ℕ) (a : Ask) (S : State) (v u : CoreValue) → u ≡ stepped S v → Begins t c a v.state S → AsksTo t c a v u
asks-by t c a S v u e b = record {
  rest = b.rest;
  entries = ap (λ (x : CoreValue). x.state.entries) e ∙ b.entries;
  inner = b.inner;
  conns = ap (λ (x : CoreValue). x.state.conns) e ∙ b.conns;
  awaited = b.awaited;
  untaken = told-of S v u (at_moment t (Asks c a) ∷ b.rest) e b.entries;
}

module _ (t c : ℕ) (a : Ask) (v u : CoreValue) (s : AsksTo t c a v u) where
  abbrev n : ℕ
  n = length v.state.entries

  once-pended : StandOnce (map conn_id v.state.conns) → StandOnce (map conn_id (map (pend c (Some n)) v.state.conns))
  once-pended o = subst StandOnce (sym (pend-ids c (Some n) v.state.conns)) o

  pub asks-once : StandOnce (map conn_id v.state.conns) → StandOnce (map conn_id u.state.conns)
  asks-once o =
      subst StandOnce
      (sym (ap (map conn_id) s.conns
      ∙ ids-with (map (pend c (Some n)) v.state.conns) (n + 1) s.rest s.inner)) (once-pended o)

  pub asks-own : AskTheirOwn v.state.entries v.state.conns → AskTheirOwn u.state.entries u.state.conns
  asks-own own =
      subst (λ (h : List Written). AskTheirOwn h u.state.conns) (sym s.entries)
      (subst (λ (cs : List Conn). AskTheirOwn (v.state.entries ++ at_moment t (Asks c a) ∷ s.rest) cs) (sym s.conns)
      (own-with v.state.entries v.state.conns (at_moment t (Asks c a) ∷ s.rest) own))

  due-then : (d k : ℕ) → StandOnce (map conn_id v.state.conns) → HasConn (map (pend c (Some n)) v.state.conns) d (Some k)
      → HasConn u.state.conns d (Some k) ⊎ IsToTell u.untaken d k
  due-then d k o has = put (due-with d k (n + 1) (map (pend c (Some n)) v.state.conns) s.rest (once-pended o) s.inner s.awaited has)
    where
      put : HasConn (conns_with (map (pend c (Some n)) v.state.conns) (n + 1) s.rest) d (Some k) ⊎ IsToTell (answered_in (n + 1) s.rest) d k
          → HasConn u.state.conns d (Some k) ⊎ IsToTell u.untaken d k
      put (inl has) = inl (subst (λ (cs : List Conn). HasConn cs d (Some k)) (sym s.conns) has)
      put (inr told) = inr (subst (λ (us : List Untaken). IsToTell us d k) (sym s.untaken)
          (told-after v.untaken (answered_in (n + 1) s.rest) d k told))

  -- others wait as before
  pub asks-others : (P : Ask → Type 0) (d : ℕ) → d ≢ c → StandOnce (map conn_id v.state.conns) → Awaits P d v → Awaits P d u
  asks-others P d ne o x = record {
    number = x.number;
    moment = x.moment;
    ask = x.ask;
    asked = subst (λ (h : List Written). IsEntry h x.number x.moment (Asks d x.ask)) (sym s.entries)
        (entry-more v.state.entries (at_moment t (Asks c a) ∷ s.rest) x.number x.moment (Asks d x.ask) x.asked);
    such = x.such;
    due = by x.due;
  }
    where
      by : HasConn v.state.conns d (Some x.number) ⊎ IsToTell v.untaken d x.number
          → HasConn u.state.conns d (Some x.number) ⊎ IsToTell u.untaken d x.number
      by (inl has) = due-then d x.number o (others-wait c d (Some n) (Some x.number) v.state.conns ne has)
      by (inr told) = inr (subst (λ (us : List Untaken). IsToTell us d x.number) (sym s.untaken)
          (told-more v.untaken (answered_in (n + 1) s.rest) d x.number told))

  -- its own connection waits for it
  pub asks-await : (P : Ask → Type 0) → P a → HasConn v.state.conns c None → StandOnce (map conn_id v.state.conns) → Awaits P c u
  asks-await P such idle o = record {
    number = n;
    moment = t;
    ask = a;
    asked = subst (λ (h : List Written). IsEntry h n t (Asks c a)) (sym s.entries) (entry-last v.state.entries s.rest t (Asks c a));
    such = such;
    due = due-then c n o (asks-for c None (Some n) v.state.conns idle);
  }

-- a connection is shut

pub shut-await : (P : Ask → Type 0) (t c d : ℕ) (v u : CoreValue) → d ≢ c → u ≡ stepped (shuts t c v.state) v
    → Awaits P d v → Awaits P d u
shut-await P t c d v u ne e x = record {
  number = x.number;
  moment = x.moment;
  ask = x.ask;
  asked = subst (λ (w : CoreValue). IsEntry w.state.entries x.number x.moment (Asks d x.ask)) (sym e)
      (entry-more v.state.entries (at_moment t (Shuts c) ∷ []) x.number x.moment (Asks d x.ask) x.asked);
  such = x.such;
  due = by x.due;
}
  where
    untaken : u.untaken ≡ v.untaken ++ []
    untaken = told-of (shuts t c v.state) v u (at_moment t (Shuts c) ∷ []) e refl

    by : HasConn v.state.conns d (Some x.number) ⊎ IsToTell v.untaken d x.number
        → HasConn u.state.conns d (Some x.number) ⊎ IsToTell u.untaken d x.number
    by (inl has) = inl (subst (λ (w : CoreValue). HasConn w.state.conns d (Some x.number)) (sym e)
        (others-open c d (Some x.number) v.state.conns ne has))
    by (inr told) = inr (subst (λ (us : List Untaken). IsToTell us d x.number) (sym untaken)
        (told-more v.untaken [] d x.number told))

pub shut-own : (t c : ℕ) (v u : CoreValue) → u ≡ stepped (shuts t c v.state) v → AskTheirOwn v.state.entries v.state.conns
    → AskTheirOwn u.state.entries u.state.conns
shut-own t c v u e own =
    subst (λ (w : CoreValue). AskTheirOwn w.state.entries w.state.conns) (sym e)
    (own-with v.state.entries v.state.conns (at_moment t (Shuts c) ∷ []) own)

once-one : (b : Bool) (x : Conn) (ys : List Conn) → AllByRecursion (λ (k : ℕ). x.id ≢ k) (map conn_id ys) → StandOnce (map conn_id ys)
    → StandOnce (map conn_id (cond b (x ∷ ys) ys))
once-one true x ys a o = (a, o)
once-one false x ys a o = o

all-one : (P : ℕ → Type 0) (b : Bool) (x : Conn) (ys : List Conn) → P x.id → AllByRecursion P (map conn_id ys)
    → AllByRecursion P (map conn_id (cond b (x ∷ ys) ys))
all-one P true x ys p a = (p, a)
all-one P false x ys p a = a

all-left : (P : ℕ → Type 0) (c : ℕ) (cs : List Conn) → AllByRecursion P (map conn_id cs)
    → AllByRecursion P (map conn_id (filter (λ (x : Conn). not (x.id == c)) cs))
all-left P c [] h = tt
all-left P c (x ∷ xs) h =
    all-one P (not (x.id == c)) x (filter (λ (x : Conn). not (x.id == c)) xs) h.0 (all-left P c xs h.1)

once-left : (c : ℕ) (cs : List Conn) → StandOnce (map conn_id cs)
    → StandOnce (map conn_id (filter (λ (x : Conn). not (x.id == c)) cs))
once-left c [] h = tt
once-left c (x ∷ xs) h =
    once-one (not (x.id == c)) x (filter (λ (x : Conn). not (x.id == c)) xs)
    (all-left (λ (k : ℕ). x.id ≢ k) c xs h.0) (once-left c xs h.1)

pub shut-once : (t c : ℕ) (v u : CoreValue) → u ≡ stepped (shuts t c v.state) v → StandOnce (map conn_id v.state.conns)
    → StandOnce (map conn_id u.state.conns)
shut-once t c v u e o =
    subst (λ (w : CoreValue). StandOnce (map conn_id w.state.conns)) (sym e) (once-left c v.state.conns o)

-- an answer is taken

taken-one : (b : Bool) (c k j : ℕ) (u : Untaken) (us vs : List Untaken) → (u.ask == k) ≡ b → j ≢ k
    → (IsToTell us c j → IsToTell vs c j) → IsToTell (u ∷ us) c j → IsToTell (cond (not b) (u ∷ vs) vs) c j
taken-one true c k j u us vs t ne f (inl h) = absurd (ne (sym h.1 ∙ eqb-true u.ask k t))
taken-one true c k j u us vs t ne f (inr h) = f h
taken-one false c k j u us vs t ne f (inl h) = inl h
taken-one false c k j u us vs t ne f (inr h) = inr (f h)

pub others-told : (c k j : ℕ) (us : List Untaken) → j ≢ k → IsToTell us c j
    → IsToTell (filter (λ (u : Untaken). not (u.ask == k)) us) c j
others-told c k j [] ne h = absurd h
others-told c k j (u ∷ us) ne h =
    taken-one (u.ask == k) c k j u us (filter (λ (u : Untaken). not (u.ask == k)) us) refl ne
    (others-told c k j us ne) h

-- Whoever waits for another answer waits for it still.
pub taken-await : (P : Ask → Type 0) (c k : ℕ) (v u : CoreValue)
    → u ≡ record v { untaken = filter (λ (u : Untaken). not (u.ask == k)) v.untaken }
    → (x : Awaits P c v) → x.number ≢ k → Awaits P c u
taken-await P c k v u e x ne = record {
  number = x.number;
  moment = x.moment;
  ask = x.ask;
  asked = subst (λ (w : CoreValue). IsEntry w.state.entries x.number x.moment (Asks c x.ask)) (sym e) x.asked;
  such = x.such;
  due = by x.due;
}
  where
    by : HasConn v.state.conns c (Some x.number) ⊎ IsToTell v.untaken c x.number
        → HasConn u.state.conns c (Some x.number) ⊎ IsToTell u.untaken c x.number
    by (inl has) = inl (subst (λ (w : CoreValue). HasConn w.state.conns c (Some x.number)) (sym e) has)
    by (inr told) = inr (subst (λ (w : CoreValue). IsToTell w.untaken c x.number) (sym e)
        (others-told c k x.number v.untaken ne told))
