-- What an input brings, and what it gives out, leaves the connections served.
use Rattle.std.proofs.Common.{◌≡◌, ◌≢◌, ◌⊎◌, inl, inr, ℕ, zero, suc, ◌+◌, List, [], ◌∷◌, ◌++◌, length, drop, Option, Some, None, refl, sym, ap, subst, ◌∙◌, length-append, rules}
use Rattle.std.specs.Prelude.{slice_get}
use Rattle.media_map.specs.declared.form.Form.{Form}
use Rattle.exchange_core.specs.Values.{CoreValue, Outgoing}
use Rattle.gateway_model.specs.declared.input.Happening.{Happening}
use Rattle.gateway_model.specs.declared.input.Happening.TheVariants as H
use Rattle.gateway_model.specs.declared.input.Input.{Input}
use Rattle.gateway_model.specs.Asking.{brought_by}
use Rattle.gateway_model.specs.Closing.{Closes}
use Rattle.gateway_model.specs.Acts.{Terms}
use Rattle.gateway_model.specs.Emissions.{Emission}
use Rattle.gateway_model.specs.Going.{goes_in}
use Rattle.gateway_model.specs.Tellings.{terms_of}
use Rattle.exchange_model.specs.State.{State}
use Rattle.gateway_world.specs.Inputs.{Takes}
use Rattle.gateway_world.specs.Openings.{IsCounted}
use Rattle.gateway_world.specs.Worlds.{WorldValue}
use Rattle.gateway_loop.specs.Clients.{ClientValue, Feeds, unserved}
use Rattle.gateway_loop.specs.Delivery.{AreGiven, IsGiven, IsLost, given_to}
use Rattle.gateway_loop.specs.Places.{EachChanges, EachKept, IsCarried, OnlyAt}
use Rattle.gateway_loop.specs.Serving.{IsAfter, IsServed, IsServing, Past, brought_in, heard_at, said, then}
use Rattle.gateway_loop.specs.Sockets.{Are, Grown}
use Rattle.gateway_loop.specs.Telling.{NotesValue, Tells}
use Rattle.gateway_loop.proofs.Changing.{all-as, all-from, all-kept, all-then, each-with, same-or-not}
use Rattle.gateway_loop.proofs.Giving.{given-quietly}
use Rattle.gateway_loop.proofs.Served.{once, served-carried, served-first, served-on, serving-on}

-- only an input for one opens a connection
pub counted-other : (x : Happening) (n : Option ℕ) (old new : CoreValue) → (x ≡ H.Open → ⊥) → IsCounted x n old new
    → new.state.opened ≡ old.state.opened
counted-other x (Some c) old new ne h = absurd (ne h.0)
counted-other x None old new ne h = h

-- how many there were, as an input for one tells

pub counted-none : (x : Happening) (o : Option ℕ) (old new : CoreValue) → o ≡ None → IsCounted x o old new
    → new.state.opened ≡ old.state.opened
counted-none x None old new e h = h
counted-none x (Some c) old new e h = absurd cc

pub counted-some : (x : Happening) (o : Option ℕ) (k : ℕ) (old new : CoreValue) → o ≡ Some k → IsCounted x o old new
    → new.state.opened ≡ old.state.opened + 1
counted-some x None k old new e h = absurd cc
counted-some x (Some c) k old new e h = h.2 ∙ ap (λ (n : ℕ). n + 1) h.1

-- a connection at an input: what it brings was read and isn't an input yet
pub record Brings {S : Type 0} (i : Input) (out : List Emission) (c : ℕ) (x y : ClientValue S) : Type 0 where
  pub stream : y.stream ≡ x.stream
  pub left : y.left ≡ x.left ++ said c out
  pub unfed : x.unfed ≡ brought_in c i ++ y.unfed
  pub leaving : y.leaving ≡ x.leaving

module _ {S : Type 0} (i : Input) (out : List Emission) where
  -- one that brings it nothing
  pub brings-one : (c : ℕ) (x y : ClientValue S) → brought_in c i ≡ [] → y ≡ given_to c out x → Brings i out c x y
  brings-one c x y none e = record {
    stream = ap (λ (z : ClientValue S). z.stream) e;
    left = ap (λ (z : ClientValue S). z.left) e;
    unfed = sym (ap (λ (z : ClientValue S). z.unfed) e) ∙ ap (λ (t : List ℕ). t ++ y.unfed) (sym none);
    leaving = ap (λ (z : ClientValue S). z.leaving) e;
  }

  pub brings-none : (xs ys : List (Option (ClientValue S))) → ((c : ℕ) → brought_in c i ≡ []) → AreGiven out xs ys
      → EachKept (Brings i out) (IsLost out) xs ys
  brings-none xs ys none g =
      all-as (IsGiven out) (Brings i out) (IsLost out) (IsLost out) xs ys (λ c x y at e. brings-one c x y (none c) e) (λ c x h. h) g

  -- one that brings the first of what was read of a connection
  pub brings-piece : (xs zs ys : List (Option (ClientValue S))) (k n : ℕ)
      → EachChanges (OnlyAt k (Feeds n)) xs zs
      → ((x : ClientValue S) → slice_get xs k ≡ Some (Some x) → x.unfed ≡ brought_in k i ++ drop n x.unfed)
      → ((c : ℕ) → c ≢ k → brought_in c i ≡ [])
      → AreGiven out zs ys → EachKept (Brings i out) (IsLost out) xs ys
  brings-piece xs zs ys k n e piece none g =
      all-then Feed (IsGiven out) (Brings i out) Never (IsLost out) (IsLost out) xs zs ys on (λ c x h. absurd h) (λ c x z f h. h)
      (all-kept Feed Never xs zs (each-with (OnlyAt k (Feeds n)) Feed xs zs feed e)) g
    where
      Never : ℕ → ClientValue S → Type 0
      Never c x = ⊥

      Feed : ℕ → ClientValue S → ClientValue S → Type 0
      Feed c x z = (z.stream ≡ x.stream) × (z.left ≡ x.left) × (x.unfed ≡ brought_in c i ++ z.unfed) × (z.leaving ≡ x.leaving)

      on : (c : ℕ) (x z y : ClientValue S) → Feed c x z → IsGiven out c z y → Brings i out c x y
      on c x z y f e = record {
        stream = ap (λ (u : ClientValue S). u.stream) e ∙ f.0;
        left = ap (λ (u : ClientValue S). u.left) e ∙ ap (λ (t : List ℕ). t ++ said c out) f.1;
        unfed = f.2 ∙ ap (λ (t : List ℕ). brought_in c i ++ t) (sym (ap (λ (u : ClientValue S). u.unfed) e));
        leaving = ap (λ (u : ClientValue S). u.leaving) e ∙ f.3;
      }

      feed : (c : ℕ) (x z : ClientValue S) → slice_get xs c ≡ Some (Some x) → OnlyAt k (Feeds n) c x z → Feed c x z
      feed c x z at o = by (same-or-not c k)
        where
          by : (c ≡ k) ⊎ (c ≢ k) → Feed c x z
          by (inl q) =
              let is : z ≡ record x { unfed = drop n x.unfed } = o.changes q in (
                ap (λ (u : ClientValue S). u.stream) is,
                ap (λ (u : ClientValue S). u.left) is,
                piece x (ap (slice_get xs) (sym q) ∙ at)
                    ∙ (ap (λ (m : ℕ). brought_in m i ++ drop n x.unfed) (sym q)
                    ∙ ap (λ (t : List ℕ). brought_in c i ++ t) (sym (ap (λ (u : ClientValue S). u.unfed) is))),
                ap (λ (u : ClientValue S). u.leaving) is,
              )
          by (inr ne) =
              let is : z ≡ x = o.same ne in (
                ap (λ (u : ClientValue S). u.stream) is,
                ap (λ (u : ClientValue S). u.left) is,
                sym (ap (λ (t : List ℕ). t ++ z.unfed) (none c ne) ∙ ap (λ (u : ClientValue S). u.unfed) is),
                ap (λ (u : ClientValue S). u.leaving) is,
              )

-- what stands in a list with one more

pub get-push : {A : Type 0} (xs : List A) (a b : A) (c : ℕ) → slice_get (xs ++ a ∷ []) c ≡ Some b
    → (slice_get xs c ≡ Some b) ⊎ ((c ≡ length xs) × (b ≡ a))
get-push {A} [] a b zero e = inr (refl, same a b e)
  where
    same : (u v : A) → Some u ≡ Some v → v ≡ u
    same u v q = cc
get-push [] a b (suc c) e = absurd cc
get-push (x ∷ xs) a b zero e = inl e
get-push {A} (x ∷ xs) a b (suc c) e = by (get-push xs a b c e)
  where
    by : (slice_get xs c ≡ Some b) ⊎ ((c ≡ length xs) × (b ≡ a))
        → (slice_get xs c ≡ Some b) ⊎ ((suc c ≡ suc (length xs)) × (b ≡ a))
    by (inl h) = inl h
    by (inr h) = inr (ap suc h.0, h.1)

open-or-rotate : (x : Happening) → x ≡ H.Open → x ≡ H.Rotate → ⊥
open-or-rotate x e f = absurd cc

-- who wants a connection is told nothing on it
quiet-open : (M : Terms) (S S1 : State) (out : List Emission) (c : ℕ) → Closes M H.Open S S1 out → said c out ≡ []
quiet-open M S S1 out c (inl e) = ap (said c) e
quiet-open M S S1 out c (inr e) = ap (said c) e

quiet-taken : (holds : Form → Form → List ℕ → List ℕ → Type 0) (takes : Form → Form → List ℕ → Type 0)
    (i : Input) (out : List Emission) (w v : WorldValue) (c : ℕ) → i.happening ≡ H.Open → Takes holds takes i w out v → said c out ≡ []
quiet-taken holds takes i out w v c opens (inl k) =
    quiet-open (terms_of holds takes w.rules) w.core.state v.core.state out c
    (subst (λ (x : Happening). Closes (terms_of holds takes w.rules) x w.core.state v.core.state out) opens k.closes)
quiet-taken holds takes i out w v c opens (inr k) = absurd (open-or-rotate i.happening opens k.wants)

module _ (holds : Form → Form → List ℕ → List ℕ → Type 0) (takes : Form → Form → List ℕ → Type 0)
    {S W : Type 0} (written gave : S → Option (List ℕ)) (sent heard : W → Option (List Outgoing)) where
  pub serving-takes : (i : Input) (out : List Emission) (w v : WorldValue) (xs ys : List (Option (ClientValue S))) (m n : W)
      (n0 n1 : NotesValue) → IsServing holds takes written gave sent heard w xs m n0 → Takes holds takes i w out v
      → v.core.state.opened ≡ w.core.state.opened → EachKept (Brings i out) (IsLost out) xs ys
      → Grown (sent m) (sent n) (goes_in out) → Grown (heard m) (heard n) (heard_at i) → Tells out n0 n1
      → IsServing holds takes written gave sent heard v ys n n1
  serving-takes i out w v xs ys m n n0 n1 h t same e goes came told =
      serving-on holds takes written gave sent heard i out w v xs ys m n n0 n1 h t (e.count ∙ (h.numbers ∙ sym same))
      (λ past after each c y at. let x = all-from (Brings i out) (IsLost out) xs ys c y e at in
      served-on holds takes written gave c past i out x.0 y (each c x.0 x.1) x.2.stream x.2.left x.2.unfed x.2.leaving) goes came told

  -- A connection opens: its place was made before.
  pub serving-opens : (i : Input) (out : List Emission) (w v : WorldValue) (xs zs ys : List (Option (ClientValue S))) (m n : W) (s : S)
      (n0 n1 : NotesValue) → IsServing holds takes written gave sent heard w xs m n0 → Takes holds takes i w out v → i.happening ≡ H.Open
      → v.core.state.opened ≡ w.core.state.opened + 1 → zs ≡ xs ++ Some (unserved s) ∷ [] → AreGiven out zs ys
      → Are (written s) [] → Are (gave s) []
      → Grown (sent m) (sent n) (goes_in out) → Grown (heard m) (heard n) (heard_at i) → Tells out n0 n1
      → IsServing holds takes written gave sent heard v ys n n1
  serving-opens i out w v xs zs ys m n s n0 n1 h t opens more e g wrote read goes came told =
      serving-on holds takes written gave sent heard i out w v xs ys m n n0 n1 h t
      (g.count ∙ (ap length e ∙ (length-more xs ∙ (ap (λ (k : ℕ). k + 1) h.numbers ∙ sym more))))
      each goes came told
    where
      none : (c : ℕ) → brought_in c i ≡ []
      none c = subst (λ (x : Happening). brought_by c x ≡ []) (sym opens) refl

      length-more : (us : List (Option (ClientValue S))) → length (us ++ Some (unserved s) ∷ []) ≡ length us + 1
      length-more us = search (length-append, rules)

      each : (past : Past) → IsAfter holds takes past w
          → ((c : ℕ) (x : ClientValue S) → slice_get xs c ≡ Some (Some x) → IsServed holds takes written gave c past x)
          → (c : ℕ) (y : ClientValue S) → slice_get ys c ≡ Some (Some y)
          → IsServed holds takes written gave c (then past (once i out)) y
      each past after old c y at =
          let x = all-from (IsGiven out) (IsLost out) zs ys c y g at in
          by x.0 x.2 (get-push xs (Some (unserved s)) (Some x.0) c (sym (ap (λ (us : List (Option (ClientValue S))). slice_get us c) e) ∙ x.1))
        where
          same : (u v : ClientValue S) → Some u ≡ Some v → u ≡ v
          same u v q = cc

          by : (x : ClientValue S) → y ≡ given_to c out x
              → (slice_get xs c ≡ Some (Some x)) ⊎ ((c ≡ length xs) × (Some x ≡ Some (unserved s)))
              → IsServed holds takes written gave c (then past (once i out)) y
          by x given (inl here) =
              let b = brings-one i out c x y (none c) given in
              served-on holds takes written gave c past i out x y (old c x here) b.stream b.left b.unfed b.leaving
          by x given (inr (last, is)) =
              let quiet = quiet-taken holds takes i out w v c opens t in
              subst (IsServed holds takes written gave c (then past (once i out)))
              (sym (given ∙ (given-quietly c out x quiet ∙ same x (unserved s) is)))
              (served-first holds takes written gave c past i out w s after (sym h.numbers ∙ sym last) wrote read quiet (none c))

  -- .. or a stream that was served before goes on as it.
  pub serving-carries : (i : Input) (out : List Emission) (w v : WorldValue) (xs zs ys : List (Option (ClientValue S))) (m n : W)
      (d : ℕ) (n0 n1 : NotesValue)
      → IsServing holds takes written gave sent heard w xs m n0 → Takes holds takes i w out v → i.happening ≡ H.Open
      → v.core.state.opened ≡ w.core.state.opened + 1 → IsCarried d xs zs → AreGiven out zs ys
      → Grown (sent m) (sent n) (goes_in out) → Grown (heard m) (heard n) (heard_at i) → Tells out n0 n1
      → IsServing holds takes written gave sent heard v ys n n1
  serving-carries i out w v xs zs ys m n d n0 n1 h t opens more e g goes came told =
      serving-on holds takes written gave sent heard i out w v xs ys m n n0 n1 h t
      (g.count ∙ (ap length e.next ∙ (length-more e.rest ∙ (ap (λ (k : ℕ). k + 1) (e.emptied.count ∙ h.numbers) ∙ sym more))))
      each goes came told
    where
      none : (c : ℕ) → brought_in c i ≡ []
      none c = subst (λ (x : Happening). brought_by c x ≡ []) (sym opens) refl

      length-more : (all : List (Option (ClientValue S))) → length (all ++ Some e.here ∷ []) ≡ length all + 1
      length-more all = search (length-append, rules)

      each : (past : Past) → IsAfter holds takes past w
          → ((c : ℕ) (x : ClientValue S) → slice_get xs c ≡ Some (Some x) → IsServed holds takes written gave c past x)
          → (c : ℕ) (y : ClientValue S) → slice_get ys c ≡ Some (Some y)
          → IsServed holds takes written gave c (then past (once i out)) y
      each past after old c y at =
          let x = all-from (IsGiven out) (IsLost out) zs ys c y g at in
          by x.0 x.2 (get-push e.rest (Some e.here) (Some x.0) c (sym (ap (λ (all : List (Option (ClientValue S))). slice_get all c) e.next) ∙ x.1))
        where
          same : (u v : ClientValue S) → Some u ≡ Some v → u ≡ v
          same u v q = cc

          -- one of the others was there
          was : (z : ClientValue S) → slice_get e.rest c ≡ Some (Some z) → (c ≡ d) ⊎ (c ≢ d) → slice_get xs c ≡ Some (Some z)
          was z there (inl q) = absurd (e.emptied.none z (sym (ap (slice_get e.rest) q) ∙ there))
          was z there (inr ne) = sym (e.emptied.others c ne) ∙ there

          by : (x : ClientValue S) → y ≡ given_to c out x
              → (slice_get e.rest c ≡ Some (Some x)) ⊎ ((c ≡ length e.rest) × (Some x ≡ Some e.here))
              → IsServed holds takes written gave c (then past (once i out)) y
          by x given (inl there) =
              let b = brings-one i out c x y (none c) given in
              served-on holds takes written gave c past i out x y (old c x (was x there (same-or-not c d))) b.stream b.left b.unfed b.leaving
          by x given (inr (last, is)) =
              let quiet = quiet-taken holds takes i out w v c opens t in
              subst (IsServed holds takes written gave c (then past (once i out)))
              (sym (given ∙ (given-quietly c out x quiet ∙ same x e.here is)))
              (served-carried holds takes written gave d past i out w c e.here after
              (sym h.numbers ∙ (sym e.emptied.count ∙ sym last)) (old d e.here e.was) quiet (none c))
