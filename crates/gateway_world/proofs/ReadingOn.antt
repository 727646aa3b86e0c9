-- What of the connections' bytes isn't asked, after what the table does.
use Rattle.std.proofs.Common.{◌≡◌, ◌⊎◌, ℕ, ◌+◌, ◌<◌, Bool, true, false, cond, List, [], ◌∷◌, ◌++◌, length, map, Option, Some, None, inl, inr, refl, sym, ap, subst, ◌∙◌, not, eqb-true, eq-eqb}
use Rattle.std.specs.Prelude.{option_map, ◌==◌, if◌then◌else◌}
use Rattle.std.proofs.lemmas.List.{map_push}
use Rattle.history_laws.proofs.CallerLemmas.{none-some, some-is}
use Rattle.http_edge.specs.Reading.{Item}
use Rattle.gateway_connections.specs.Inlets.{Inlet, inlet_at, fresh, changed_at as inlets_changed_at, with_inlet, extended as inlet_extended, appended, without as without_inlet}
use Rattle.gateway_connections.specs.Reads.{Asks, Continues, AwaitsMore, Settles, ChangesAt, IsAbsent}
use Rattle.exchange_model.specs.declared.kept.Conn.{Conn}
use Rattle.exchange_model.specs.Resting.{HasConn}
use Rattle.gateway_model.specs.Waiting.{conn_id}
use Rattle.gateway_world.specs.Engines.{inlet_number, work_in}
use Rattle.gateway_model.specs.Unasked.{Unasked, unasked_of, unasked_in, unasked_at, no_bytes, changed_at, extended, taken, without, left_after, TakesItem, TellsToGoOn, Recounted, Recounts, IsReadOut}

at-inlet : (b : Bool) (x : Inlet) (o : Option Inlet) (u : Option Unasked) → u ≡ option_map unasked_of o
    → (if b then Some (unasked_of x) else u) ≡ option_map unasked_of (if b then Some x else o)
at-inlet true x o u e = refl
at-inlet false x o u e = e

pub unasked-at : (c : ℕ) (xs : List Inlet)
    → unasked_at c (unasked_in xs) ≡ option_map unasked_of (inlet_at c xs)
unasked-at c [] = refl
unasked-at c (x ∷ xs) =
    at-inlet (x.number == c) x (inlet_at c xs) (unasked_at c (unasked_in xs)) (unasked-at c xs)

pub stands-at : (c : ℕ) (xs : List Inlet) (x : Inlet) → inlet_at c xs ≡ Some x
    → unasked_at c (unasked_in xs) ≡ Some (unasked_of x)
stands-at c xs x e = unasked-at c xs ∙ ap (option_map unasked_of) e

changed-one : (b : Bool) (f : Inlet → Inlet) (g : Unasked → Unasked) (x : Inlet)
    → unasked_of (f x) ≡ g (unasked_of x)
    → unasked_of (if b then f x else x) ≡ (if b then g (unasked_of x) else unasked_of x)
changed-one true f g x e = e
changed-one false f g x e = refl

-- a change of the inlets that shows is one of what isn't asked
pub unasked-changed : (c : ℕ) (f : Inlet → Inlet) (g : Unasked → Unasked) (xs : List Inlet)
    → ((x : Inlet) → unasked_of (f x) ≡ g (unasked_of x))
    → unasked_in (inlets_changed_at c f xs) ≡ changed_at c g (unasked_in xs)
unasked-changed c f g [] h = refl
unasked-changed c f g (x ∷ xs) h =
    let first : unasked_of (if x.number == c then f x else x)
    ≡ (if x.number == c then g (unasked_of x) else unasked_of x) =
    changed-one (x.number == c) f g x (h x) in
    let rest = unasked-changed c f g xs h in
    rw (first, rest) refl

kept-one : (b : Bool) (x : Inlet) (rest : List Inlet) (us : List Unasked) → unasked_in rest ≡ us
    → unasked_in (cond b (x ∷ rest) rest) ≡ cond b (unasked_of x ∷ us) us
kept-one true x rest us e = ap (λ (vs : List Unasked). unasked_of x ∷ vs) e
kept-one false x rest us e = e

pub unasked-without : (c : ℕ) (xs : List Inlet) → unasked_in (without_inlet c xs) ≡ without c (unasked_in xs)
unasked-without c [] = refl
unasked-without c (x ∷ xs) =
    kept-one (not (x.number == c)) x (without_inlet c xs) (without c (unasked_in xs)) (unasked-without c xs)

extended-one : (b : Bool) (x y : Inlet) (u : Unasked) → unasked_of y ≡ u
    → unasked_of (if b then x else y) ≡ (if b then unasked_of x else u)
extended-one true x y u e = refl
extended-one false x y u e = e

pub unasked-taken : (c : ℕ) (bytes : List ℕ) (xs : List Inlet)
    → unasked_in (appended c bytes xs) ≡ taken c bytes (unasked_in xs)
unasked-taken c bytes xs =
    unasked-changed c (inlet_extended bytes) (extended bytes) xs
    (λ x. extended-one x.closing x (record x { text = x.text ++ bytes; unread = x.unread + length bytes }) _ refl)

pub unasked-opened : (c : ℕ) (xs : List Inlet)
    → unasked_in (xs ++ fresh c ∷ []) ≡ unasked_in xs ++ no_bytes c ∷ []
unasked-opened c xs = map_push unasked_of xs (fresh c)

-- the connection that is read

number-one : (b : Bool) (c : ℕ) (x y : Inlet) (o : Option Inlet) → (x.number == c) ≡ b
    → (o ≡ Some y → y.number ≡ c) → (if b then Some x else o) ≡ Some y → y.number ≡ c
number-one true c x y o t f e =
    subst (λ (z : Inlet). z.number ≡ c) (some-is x y e) (eqb-true x.number c t)
number-one false c x y o t f e = f e

pub number-at : (c : ℕ) (xs : List Inlet) (y : Inlet) → inlet_at c xs ≡ Some y → y.number ≡ c
number-at c [] y e = absurd (none-some y e)
number-at c (x ∷ xs) y e =
    number-one (x.number == c) c x y (inlet_at c xs) refl (number-at c xs y) e

found-one : (t : Bool) (c : ℕ) (x y b : Inlet) (r : List Inlet) (o : Option Inlet) → (x.number == c) ≡ t
    → y.number ≡ c → (o ≡ Some b → inlet_at c r ≡ Some y) → (if t then Some x else o) ≡ Some b
    → inlet_at c ((if t then y else x) ∷ r) ≡ Some y
found-one true c x y b r o t n f e = let same : (y.number == c) ≡ true = eq-eqb y.number c n in rw same refl
found-one false c x y b r o t n f e = rw t (f e)

found-so : (c : ℕ) (y b : Inlet) (xs : List Inlet) → y.number ≡ c → inlet_at c xs ≡ Some b
    → inlet_at c (inlets_changed_at c (λ (x : Inlet). y) xs) ≡ Some y
found-so c y b [] n e = absurd (none-some b e)
found-so c y b (x ∷ xs) n e =
    found-one (x.number == c) c x y b (inlets_changed_at c (λ (z : Inlet). y) xs) (inlet_at c xs) refl n
    (found-so c y b xs n) e

pub found-with : (c : ℕ) (y b : Inlet) (xs : List Inlet) → y.number ≡ c → inlet_at c xs ≡ Some b
    → inlet_at c (with_inlet y xs) ≡ Some y
found-with c y b xs n e =
    subst (λ (k : ℕ). inlet_at c (inlets_changed_at k (λ (x : Inlet). y) xs) ≡ Some y) (sym n)
    (found-so c y b xs n e)

with-changed : (c : ℕ) (y : Inlet) (u : Unasked) (xs : List Inlet) → y.number ≡ c → unasked_of y ≡ u
    → unasked_in (with_inlet y xs) ≡ changed_at c (λ (x : Unasked). u) (unasked_in xs)
with-changed c y u xs n e =
    subst (λ (k : ℕ). unasked_in (inlets_changed_at k (λ (x : Inlet). y) xs)
    ≡ changed_at c (λ (x : Unasked). u) (unasked_in xs)) (sym n)
    (unasked-changed c (λ (x : Inlet). y) (λ (x : Unasked). u) xs (λ x. e))

-- What is asked is taken off its connection's text.
pub takes-item : (c : ℕ) (i : Item) (xs ys : List Inlet) → ChangesAt (Asks i) c xs ys
    → TakesItem c i (unasked_in xs) (unasked_in ys)
takes-item c i xs ys h =
    let n : h.before.number ≡ c = number-at c xs h.before h.stands in
    let is : unasked_of h.after ≡ left_after c i h.goes.rest =
    ap unasked_of h.goes.left ∙ ap (λ (k : ℕ). left_after k i h.goes.rest) n in
    let m : h.after.number ≡ c = ap (λ (x : Inlet). x.number) h.goes.left ∙ n in
    record {
      before = unasked_of h.before;
      stands = stands-at c xs h.before h.stands;
      goes_on = h.goes.goes_on;
      rest = h.goes.rest;
      first = h.goes.first;
      left = ap unasked_in h.left ∙ with-changed c h.after (left_after c i h.goes.rest) xs m is;
    }

pub tells-on : (c : ℕ) (xs ys : List Inlet) → ChangesAt Continues c xs ys
    → TellsToGoOn c (unasked_in xs) (unasked_in ys)
tells-on c xs ys h =
    let m : h.after.number ≡ c = ap (λ (x : Inlet). x.number) h.goes.left ∙ number-at c xs h.before h.stands in
    record {
      before = unasked_of h.before;
      stands = stands-at c xs h.before h.stands;
      goes_on = h.goes.goes_on;
      untold = h.goes.untold;
      expects = h.goes.expects;
      idle = h.goes.idle;
      unread = h.after.unread;
      counted = h.goes.counted;
      left = ap unasked_in h.left ∙ with-changed c h.after (record (unasked_of h.before) { told = true; unread = h.after.unread }) xs m (ap unasked_of h.goes.left);
    }

-- only what counts as unread changes

settled-counts : (c : ℕ) (xs ys : List Inlet) → ChangesAt Settles c xs ys → Recounted c (unasked_in xs) (unasked_in ys)
settled-counts c xs ys h =
    let m : h.after.number ≡ c = ap (λ (x : Inlet). x.number) h.goes.left ∙ number-at c xs h.before h.stands in
    record {
      before = unasked_of h.before;
      stands = stands-at c xs h.before h.stands;
      unread = h.after.unread;
      left = ap unasked_in h.left ∙ with-changed c h.after (record (unasked_of h.before) { unread = h.after.unread }) xs m (ap unasked_of h.goes.left);
    }

-- what is left to read

gone-one : (t : Bool) (c : ℕ) (x : Inlet) (xs : List Inlet) → (x.number == c) ≡ t → inlet_at c xs ≡ None
    → inlet_at c (cond (not t) (x ∷ xs) xs) ≡ None
gone-one true c x xs t e = e
gone-one false c x xs t e = rw t e

pub gone-without : (c : ℕ) (xs : List Inlet) → inlet_at c (without_inlet c xs) ≡ None
gone-without c [] = refl
gone-without c (x ∷ xs) = gone-one (x.number == c) c x (without_inlet c xs) refl (gone-without c xs)

pub asks-less : (c : ℕ) (i : Item) (xs ys : List Inlet) → ChangesAt (Asks i) c xs ys
    → work_in (inlet_at c ys) < work_in (inlet_at c xs)
asks-less c i xs ys h =
    let m : h.after.number ≡ c = ap (λ (x : Inlet). x.number) h.goes.left ∙ number-at c xs h.before h.stands in
    let new : inlet_at c ys ≡ Some h.after = ap (inlet_at c) h.left ∙ found-with c h.after h.before xs m h.stands in
    let old : inlet_at c xs ≡ Some h.before = h.stands in
    rw (new, old) h.goes.less

-- a connection that is read out

pub read-absent : (c : ℕ) (xs : List Inlet) → inlet_at c xs ≡ None → IsReadOut (unasked_at c (unasked_in xs))
read-absent c xs e =
    subst (λ (o : Option Unasked). IsReadOut o) (sym (unasked-at c xs ∙ ap (option_map unasked_of) e)) tt

read-there : (c : ℕ) (y b : Inlet) (xs ys : List Inlet) → y.number ≡ c → inlet_at c xs ≡ Some b → ys ≡ with_inlet y xs
    → IsReadOut (Some (unasked_of y)) → IsReadOut (unasked_at c (unasked_in ys))
read-there c y b xs ys n e is out =
    subst (λ (o : Option Unasked). IsReadOut o) (sym (stands-at c ys y (ap (inlet_at c) is ∙ found-with c y b xs n e))) out

settled-out : (x y : Inlet) → Settles x y → IsReadOut (Some (unasked_of y))
settled-out x y h =
    let same : unasked_of y ≡ record (unasked_of x) { unread = y.unread } = ap unasked_of h.left in
    subst (λ (u : Unasked). IsReadOut (Some u)) (sym same) (why-out h.why)
  where
    why-out : (x.closing ≡ true) ⊎ AwaitsMore x y → IsReadOut (Some (record (unasked_of x) { unread = y.unread }))
    why-out (inl e) = inl e
    why-out (inr m) = inr (m.idle, m.told, m.counted)

pub read-settled : (c : ℕ) (xs ys : List Inlet) → ChangesAt Settles c xs ys → IsReadOut (unasked_at c (unasked_in ys))
read-settled c xs ys h =
    let n : h.after.number ≡ c = ap (λ (x : Inlet). x.number) h.goes.left ∙ number-at c xs h.before h.stands in
    read-there c h.after h.before xs ys n h.stands h.left (settled-out h.before h.after h.goes)

pub read-told : (c : ℕ) (xs ys : List Inlet) → ChangesAt Continues c xs ys → IsReadOut (unasked_at c (unasked_in ys))
read-told c xs ys h =
    let n : h.after.number ≡ c = ap (λ (x : Inlet). x.number) h.goes.left ∙ number-at c xs h.before h.stands in
    read-there c h.after h.before xs ys n h.stands h.left (told-out h.before h.after h.goes)
  where
    told-out : (x y : Inlet) → Continues x y → IsReadOut (Some (unasked_of y))
    told-out x y k =
        let is : unasked_of y ≡ record (unasked_of x) { told = true; unread = y.unread } = ap unasked_of k.left in
        subst (λ (u : Unasked). IsReadOut (Some u)) (sym is) (inr (k.idle, (λ e. refl), k.counted))

-- nothing is asked

pub nothing-counts : (c : ℕ) (xs ys : List Inlet) → IsAbsent c xs ys ⊎ ChangesAt Settles c xs ys
    → Recounts c (unasked_in xs) (unasked_in ys)
nothing-counts c xs ys (inl h) = inl (ap unasked_in h.1)
nothing-counts c xs ys (inr h) = inr (settled-counts c xs ys h)

pub nothing-read : (c : ℕ) (xs ys : List Inlet) → IsAbsent c xs ys ⊎ ChangesAt Settles c xs ys
    → IsReadOut (unasked_at c (unasked_in ys))
nothing-read c xs ys (inl h) = read-absent c ys (ap (inlet_at c) h.1 ∙ h.0)
nothing-read c xs ys (inr h) = read-settled c xs ys h

-- Once a connection is gone, how it changed before doesn't show.

dropped-one : (b : Bool) (c : ℕ) (f : Unasked → Unasked) (x : Unasked) (ys zs : List Unasked) → (x.number == c) ≡ b
    → ((x : Unasked) → x.number ≡ c → (f x).number ≡ c) → ys ≡ zs
    → cond (not ((cond b (f x) x).number == c)) (cond b (f x) x ∷ ys) ys ≡ cond (not b) (x ∷ zs) zs
dropped-one true c f x ys zs t h e =
    let same : ((f x).number == c) ≡ true = eq-eqb (f x).number c (h x (eqb-true x.number c t)) in
    ap (λ (b : Bool). cond (not b) (f x ∷ ys) ys) same ∙ e
dropped-one false c f x ys zs t h e =
    ap (λ (b : Bool). cond (not b) (x ∷ ys) ys) t ∙ ap (λ (us : List Unasked). x ∷ us) e

pub without-changed : (c : ℕ) (f : Unasked → Unasked) (xs : List Unasked) → ((x : Unasked) → x.number ≡ c → (f x).number ≡ c)
    → without c (changed_at c f xs) ≡ without c xs
without-changed c f [] h = refl
without-changed c f (x ∷ xs) h =
    dropped-one (x.number == c) c f x (without c (changed_at c f xs)) (without c xs) refl h (without-changed c f xs h)

extended-number : (bytes : List ℕ) (x : Unasked) → (extended bytes x).number ≡ x.number
extended-number bytes x = by x.closing
  where
    by : (b : Bool) → (cond b x (record x { text = x.text ++ bytes; unread = x.unread + length bytes })).number ≡ x.number
    by true = refl
    by false = refl

pub without-taken : (c : ℕ) (bytes : List ℕ) (us : List Unasked) → without c (taken c bytes us) ≡ without c us
without-taken c bytes us = without-changed c (extended bytes) us (λ x e. extended-number bytes x ∙ e)

pub without-item : (c : ℕ) (i : Item) (us vs : List Unasked) → TakesItem c i us vs → without c us ≡ without c vs
without-item c i us vs h =
    sym (ap (without c) h.left ∙ without-changed c (λ (x : Unasked). left_after c i h.rest) us (λ x e. refl))

pub without-read : (c : ℕ) (Goes : Inlet → Inlet → Type 0) (xs ys : List Inlet) → ChangesAt Goes c xs ys
    → ((x y : Inlet) → Goes x y → y.number ≡ x.number)
    → without c (unasked_in xs) ≡ without c (unasked_in ys)
without-read c Goes xs ys h keeps =
    let n : h.after.number ≡ c = keeps h.before h.after h.goes ∙ number-at c xs h.before h.stands in
    sym (ap (λ (zs : List Inlet). without c (unasked_in zs)) h.left
    ∙ (ap (without c) (with-changed c h.after (unasked_of h.after) xs n refl)
    ∙ without-changed c (λ (x : Unasked). unasked_of h.after) (unasked_in xs) (λ x e. n)))

-- Bytes of a connection that isn't there change nothing.
abbrev pub IsAmong : List ℕ → ℕ → Type 0
IsAmong [] c = ⊥
IsAmong (k ∷ ks) c = (k ≡ c) ⊎ IsAmong ks c

unchanged-one : (b : Bool) (c : ℕ) (f : Unasked → Unasked) (x : Unasked) (ys zs : List Unasked) → (x.number == c) ≡ b
    → (x.number ≡ c → ⊥) → ys ≡ zs → cond b (f x) x ∷ ys ≡ x ∷ zs
unchanged-one true c f x ys zs t other e = absurd (other (eqb-true x.number c t))
unchanged-one false c f x ys zs t other e = ap (λ (us : List Unasked). x ∷ us) e

pub taken-none : (c : ℕ) (bytes : List ℕ) (xs : List Inlet) → (IsAmong (map inlet_number xs) c → ⊥)
    → taken c bytes (unasked_in xs) ≡ unasked_in xs
taken-none c bytes [] other = refl
taken-none c bytes (x ∷ xs) other =
    unchanged-one (x.number == c) c (extended bytes) (unasked_of x) (taken c bytes (unasked_in xs)) (unasked_in xs) refl
    (λ e. other (inl e)) (taken-none c bytes xs (λ k. other (inr k)))

pub among-open : (c : ℕ) (cs : List Conn) → IsAmong (map conn_id cs) c → (p : Option ℕ) × HasConn cs c p
among-open c [] h = absurd h
among-open c (x ∷ cs) (inl e) = (x.pending, inl (e, refl))
among-open c (x ∷ cs) (inr h) = let more = among-open c cs h in (more.0, inr more.1)
