-- Each kind of input leaves the connections served.
use Rattle.std.proofs.Common.{◌≡◌, ◌≢◌, ◌≤◌, ℕ, Bool, List, [], ◌∷◌, ◌++◌, length, drop, Option, Some, None, refl, sym, ap, subst, ◌∙◌, arith, length-append, eq-eqb}
use Rattle.std.specs.Prelude.{slice_get, if◌then◌else◌}
use Rattle.media_map.specs.declared.form.Form.{Form}
use Rattle.exchange_core.specs.Values.{Outgoing}
use Rattle.gateway_model.specs.declared.input.Happening.{Happening}
use Rattle.gateway_model.specs.declared.input.Happening.TheVariants as H
use Rattle.gateway_model.specs.declared.input.Input.{Input}
use Rattle.gateway_model.specs.Asking.{brought_by}
use Rattle.gateway_model.specs.Emissions.{Emission}
use Rattle.gateway_model.specs.Going.{goes_in}
use Rattle.gateway_world.specs.Inputs.{Takes}
use Rattle.gateway_world.specs.Openings.{IsCounted}
use Rattle.gateway_world.specs.Worlds.{WorldValue}
use Rattle.gateway_loop.specs.Clients.{BeginsUnfed, ClientValue, Feeds, unserved}
use Rattle.gateway_loop.specs.Delivery.{AreGiven}
use Rattle.gateway_loop.specs.Gateways.{IsBare}
use Rattle.gateway_loop.specs.Places.{EachChanges, HasUnfed, IsCarried, IsPiece, OnlyAt}
use Rattle.gateway_loop.specs.Serving.{IsServing, heard_by, heard_in}
use Rattle.gateway_loop.specs.Sockets.{Are, Grown}
use Rattle.gateway_loop.specs.Telling.{NotesValue, Tells}
use Rattle.gateway_loop.proofs.Bringing.{brings-none, brings-piece, counted-none, counted-other, counted-some, serving-carries, serving-opens, serving-takes}
use Rattle.gateway_loop.proofs.Changing.{not-same}
use Rattle.gateway_loop.proofs.Growing.{are-same, grown-then, hold-same}
use Rattle.gateway_loop.proofs.Tellings.{last-same}

-- a piece of what isn't an input yet

drop-front : (p r : List ℕ) → drop (length p) (p ++ r) ≡ r
drop-front [] r = refl
drop-front (x ∷ p) r = drop-front p r

begins-long : (p r t : List ℕ) → t ≡ p ++ r → length p ≤ length t
begins-long p r t e = subst (λ (u : List ℕ). length p ≤ length u) (sym e) (long p r)
  where
    long : (p r : List ℕ) → length p ≤ length (p ++ r)
    long p r = rw length-append (omega arith)

pub piece-unfed : {S : Type 0} (o : Option (Option (ClientValue S))) (p : List ℕ) → IsPiece o p → HasUnfed (length p) o
piece-unfed (Some (Some x)) p h = begins-long p h.rest x.unfed h.parts
piece-unfed (Some None) p h = tt
piece-unfed None p h = tt

piece-first : {S : Type 0} (o : Option (Option (ClientValue S))) (p : List ℕ) (x : ClientValue S) → IsPiece o p
    → o ≡ Some (Some x) → x.unfed ≡ p ++ drop (length p) x.unfed
piece-first {S} (Some (Some y)) p x h e = subst (λ (z : ClientValue S). z.unfed ≡ p ++ drop (length p) z.unfed) (same y x e) (parts y h)
  where
    same : (u v : ClientValue S) → Some (Some u) ≡ Some (Some v) → u ≡ v
    same u v q = cc

    parts : (y : ClientValue S) → BeginsUnfed p y → y.unfed ≡ p ++ drop (length p) y.unfed
    parts y h = h.parts ∙ ap (λ (t : List ℕ). p ++ t) (sym (ap (drop (length p)) h.parts ∙ drop-front p h.rest))
piece-first (Some None) p x h e = absurd cc
piece-first None p x h e = absurd cc

-- what an input brings

bare-other : (x : Happening) → IsBare x → x ≡ H.Open → ⊥
bare-other H.Open h e = absurd h
bare-other (H.Bytes d b) h e = absurd h
bare-other (H.Datagram p b) h e = absurd h
bare-other H.Tick h e = cc
bare-other H.Rotate h e = absurd h
bare-other (H.Close d) h e = cc

bare-brings : (x : Happening) (c : ℕ) → IsBare x → brought_by c x ≡ []
bare-brings H.Open c h = refl
bare-brings (H.Bytes d b) c h = absurd h
bare-brings (H.Datagram p b) c h = refl
bare-brings H.Tick c h = refl
bare-brings H.Rotate c h = absurd h
bare-brings (H.Close d) c h = refl

bare-heard : (x : Happening) → IsBare x → heard_by x ≡ []
bare-heard H.Open h = refl
bare-heard (H.Bytes d b) h = refl
bare-heard (H.Datagram p b) h = absurd h
bare-heard H.Tick h = refl
bare-heard H.Rotate h = absurd h
bare-heard (H.Close d) h = refl

-- It brings a datagram.
abbrev pub BringsDatagram : Outgoing → Happening → Type 0
BringsDatagram d (H.Datagram p bytes) = d ≡ record { peer = p; bytes = bytes.now }
BringsDatagram d _ = ⊥

datagram-other : (x : Happening) (d : Outgoing) → BringsDatagram d x → x ≡ H.Open → ⊥
datagram-other H.Open d h e = absurd h
datagram-other (H.Bytes c b) d h e = absurd h
datagram-other (H.Datagram p b) d h e = cc
datagram-other H.Tick d h e = absurd h
datagram-other H.Rotate d h e = absurd h
datagram-other (H.Close c) d h e = absurd h

datagram-brings : (x : Happening) (d : Outgoing) (c : ℕ) → BringsDatagram d x → brought_by c x ≡ []
datagram-brings H.Open d c h = absurd h
datagram-brings (H.Bytes n b) d c h = absurd h
datagram-brings (H.Datagram p b) d c h = refl
datagram-brings H.Tick d c h = absurd h
datagram-brings H.Rotate d c h = absurd h
datagram-brings (H.Close n) d c h = absurd h

datagram-heard : (x : Happening) (d : Outgoing) → BringsDatagram d x → heard_by x ≡ d ∷ []
datagram-heard H.Open d h = absurd h
datagram-heard (H.Bytes n b) d h = absurd h
datagram-heard (H.Datagram p b) d h = ap (λ (e : Outgoing). e ∷ []) (sym h)
datagram-heard H.Tick d h = absurd h
datagram-heard H.Rotate d h = absurd h
datagram-heard (H.Close n) d h = absurd h

-- It brings these bytes of the connection.
abbrev pub BringsBytes : ℕ → List ℕ → Happening → Type 0
BringsBytes n p (H.Bytes d b) = (d ≡ n) × (b.now ≡ p)
BringsBytes n p _ = ⊥

bytes-other : (x : Happening) (n : ℕ) (p : List ℕ) → BringsBytes n p x → x ≡ H.Open → ⊥
bytes-other H.Open n p h e = absurd h
bytes-other (H.Bytes d b) n p h e = cc
bytes-other (H.Datagram q b) n p h e = absurd h
bytes-other H.Tick n p h e = absurd h
bytes-other H.Rotate n p h e = absurd h
bytes-other (H.Close c) n p h e = absurd h

bytes-own : (x : Happening) (n : ℕ) (p : List ℕ) → BringsBytes n p x → brought_by n x ≡ p
bytes-own H.Open n p h = absurd h
bytes-own (H.Bytes d b) n p h = ap (λ (t : Bool). if t then b.now else []) (eq-eqb d n h.0) ∙ h.1
bytes-own (H.Datagram q b) n p h = absurd h
bytes-own H.Tick n p h = absurd h
bytes-own H.Rotate n p h = absurd h
bytes-own (H.Close c) n p h = absurd h

bytes-none : (x : Happening) (n : ℕ) (p : List ℕ) (c : ℕ) → BringsBytes n p x → c ≢ n → brought_by c x ≡ []
bytes-none H.Open n p c h ne = absurd h
bytes-none (H.Bytes d b) n p c h ne = ap (λ (t : Bool). if t then b.now else []) (not-same d c (λ e. ne (sym e ∙ h.0)))
bytes-none (H.Datagram q b) n p c h ne = absurd h
bytes-none H.Tick n p c h ne = absurd h
bytes-none H.Rotate n p c h ne = absurd h
bytes-none (H.Close d) n p c h ne = absurd h

bytes-heard : (x : Happening) (n : ℕ) (p : List ℕ) → BringsBytes n p x → heard_by x ≡ []
bytes-heard H.Open n p h = absurd h
bytes-heard (H.Bytes d b) n p h = refl
bytes-heard (H.Datagram q b) n p h = absurd h
bytes-heard H.Tick n p h = absurd h
bytes-heard H.Rotate n p h = absurd h
bytes-heard (H.Close c) n p h = absurd h

module _ (holds : Form → Form → List ℕ → List ℕ → Type 0) (takes : Form → Form → List ℕ → Type 0)
    {S W : Type 0} (written gave : S → Option (List ℕ)) (sent heard : W → Option (List Outgoing)) where
  -- time goes on, or a connection closes
  pub serving-passes : (i : Input) (o : Option ℕ) (out : List Emission) (w v : WorldValue)
      (xs ys : List (Option (ClientValue S))) (m n : W) (n0 n1 : NotesValue)
      → IsServing holds takes written gave sent heard w xs m n0 → Takes holds takes i w out v
      → IsCounted i.happening o w.core v.core → IsBare i.happening → AreGiven out xs ys
      → Grown (sent m) (sent n) (goes_in out) → Grown (heard m) (heard n) [] → Tells out n0 n1
      → IsServing holds takes written gave sent heard v ys n n1
  serving-passes i o out w v xs ys m n n0 n1 h t count bare g goes quiet told =
      serving-takes holds takes written gave sent heard i out w v xs ys m n n0 n1 h t
      (counted-other i.happening o w.core v.core (bare-other i.happening bare) count)
      (brings-none i out xs ys (λ c. bare-brings i.happening c bare) g) goes
      (subst (Grown (heard m) (heard n)) (sym (bare-heard i.happening bare)) quiet) told

  -- a client that wants a connection is turned away
  pub serving-turned : (i : Input) (o : Option ℕ) (out : List Emission) (w v : WorldValue)
      (xs ys : List (Option (ClientValue S))) (m n : W) (n0 n1 : NotesValue)
      → IsServing holds takes written gave sent heard w xs m n0 → Takes holds takes i w out v
      → IsCounted i.happening o w.core v.core → i.happening ≡ H.Open → o ≡ None → AreGiven out xs ys
      → Grown (sent m) (sent n) (goes_in out) → Grown (heard m) (heard n) [] → Tells out n0 n1
      → IsServing holds takes written gave sent heard v ys n n1
  serving-turned i o out w v xs ys m n n0 n1 h t count opens none g goes quiet told =
      serving-takes holds takes written gave sent heard i out w v xs ys m n n0 n1 h t
      (counted-none i.happening o w.core v.core none count)
      (brings-none i out xs ys (λ c. subst (λ (x : Happening). brought_by c x ≡ []) (sym opens) refl) g) goes
      (subst (Grown (heard m) (heard n)) (subst (λ (x : Happening). [] ≡ heard_by x) (sym opens) refl) quiet) told

  -- .. or gets one
  pub serving-admits : (i : Input) (o : Option ℕ) (k : ℕ) (out : List Emission) (w v : WorldValue)
      (xs zs ys : List (Option (ClientValue S))) (m n : W) (s : S) (n0 n1 : NotesValue)
      → IsServing holds takes written gave sent heard w xs m n0 → Takes holds takes i w out v
      → IsCounted i.happening o w.core v.core → i.happening ≡ H.Open → o ≡ Some k
      → zs ≡ xs ++ Some (unserved s) ∷ [] → AreGiven out zs ys → Are (written s) [] → Are (gave s) []
      → Grown (sent m) (sent n) (goes_in out) → Grown (heard m) (heard n) [] → Tells out n0 n1
      → IsServing holds takes written gave sent heard v ys n n1
  serving-admits i o k out w v xs zs ys m n s n0 n1 h t count opens some e g wrote read goes quiet told =
      serving-opens holds takes written gave sent heard i out w v xs zs ys m n s n0 n1 h t opens
      (counted-some i.happening o k w.core v.core some count) e g wrote read goes
      (subst (Grown (heard m) (heard n)) (subst (λ (x : Happening). [] ≡ heard_by x) (sym opens) refl) quiet) told

  -- .. or a stream that was served before goes on as it
  pub serving-resumes : (i : Input) (o : Option ℕ) (k : ℕ) (out : List Emission) (w v : WorldValue)
      (xs zs ys : List (Option (ClientValue S))) (m n : W) (d : ℕ) (n0 n1 : NotesValue)
      → IsServing holds takes written gave sent heard w xs m n0 → Takes holds takes i w out v
      → IsCounted i.happening o w.core v.core → i.happening ≡ H.Open → o ≡ Some k
      → IsCarried d xs zs → AreGiven out zs ys
      → Grown (sent m) (sent n) (goes_in out) → Grown (heard m) (heard n) [] → Tells out n0 n1
      → IsServing holds takes written gave sent heard v ys n n1
  serving-resumes i o k out w v xs zs ys m n d n0 n1 h t count opens some e g goes quiet told =
      serving-carries holds takes written gave sent heard i out w v xs zs ys m n d n0 n1 h t opens
      (counted-some i.happening o k w.core v.core some count) e g goes
      (subst (Grown (heard m) (heard n)) (subst (λ (x : Happening). [] ≡ heard_by x) (sym opens) refl) quiet) told

  -- no datagram came in
  pub serving-waits : (w : WorldValue) (xs : List (Option (ClientValue S))) (m n : W) (n0 n1 : NotesValue)
      → IsServing holds takes written gave sent heard w xs m n0
      → Grown (sent m) (sent n) [] → Grown (heard m) (heard n) [] → n1 ≡ n0
      → IsServing holds takes written gave sent heard w xs n n1
  serving-waits w xs m n n0 n1 h still quiet same = record {
    past = h.past;
    after = h.after;
    numbers = h.numbers;
    each = h.each;
    goes = are-same (sent m) (sent n) (goes_in h.past.given) h.goes still;
    came = hold-same (heard m) (heard n) (heard_in h.past.inputs) [] h.came quiet;
    last = last-same h.past.given n0 n1 same h.last;
  }

  -- nothing happened, and what came in at the wire is lost
  pub serving-stays : (w v : WorldValue) (xs : List (Option (ClientValue S))) (m n : W) (lost : List Outgoing) (n0 n1 : NotesValue)
      → IsServing holds takes written gave sent heard w xs m n0 → v ≡ w
      → Grown (sent m) (sent n) [] → Grown (heard m) (heard n) lost → n1 ≡ n0
      → IsServing holds takes written gave sent heard v xs n n1
  serving-stays w v xs m n lost n0 n1 h is still came same =
      subst (λ (u : WorldValue). IsServing holds takes written gave sent heard u xs n n1) (sym is) (record {
        past = h.past;
        after = h.after;
        numbers = h.numbers;
        each = h.each;
        goes = are-same (sent m) (sent n) (goes_in h.past.given) h.goes still;
        came = hold-same (heard m) (heard n) (heard_in h.past.inputs) lost h.came came;
        last = last-same h.past.given n0 n1 same h.last;
      })

  -- a datagram came in
  pub serving-hears : (i : Input) (o : Option ℕ) (out : List Emission) (w v : WorldValue)
      (xs ys : List (Option (ClientValue S))) (m k n : W) (d : Outgoing) (n0 n1 : NotesValue)
      → IsServing holds takes written gave sent heard w xs m n0 → Takes holds takes i w out v
      → IsCounted i.happening o w.core v.core → BringsDatagram d i.happening → AreGiven out xs ys
      → Grown (sent m) (sent k) [] → Grown (sent k) (sent n) (goes_in out)
      → Grown (heard m) (heard k) (d ∷ []) → Grown (heard k) (heard n) [] → Tells out n0 n1
      → IsServing holds takes written gave sent heard v ys n n1
  serving-hears i o out w v xs ys m k n d n0 n1 h t count brings g still goes came quiet told =
      serving-takes holds takes written gave sent heard i out w v xs ys m n n0 n1 h t
      (counted-other i.happening o w.core v.core (datagram-other i.happening d brings) count)
      (brings-none i out xs ys (λ c. datagram-brings i.happening d c brings) g)
      (grown-then (sent m) (sent k) (sent n) [] (goes_in out) still goes)
      (subst (Grown (heard m) (heard n)) (sym (datagram-heard i.happening d brings))
      (grown-then (heard m) (heard k) (heard n) (d ∷ []) [] came quiet)) told

  -- what was read of a connection
  pub serving-feeds : (i : Input) (o : Option ℕ) (out : List Emission) (w v : WorldValue)
      (xs zs ys : List (Option (ClientValue S))) (m n : W) (k : ℕ) (p : List ℕ) (n0 n1 : NotesValue)
      → IsServing holds takes written gave sent heard w xs m n0 → Takes holds takes i w out v
      → IsCounted i.happening o w.core v.core → BringsBytes k p i.happening
      → IsPiece (slice_get xs k) p → EachChanges (OnlyAt k (Feeds (length p))) xs zs → AreGiven out zs ys
      → Grown (sent m) (sent n) (goes_in out) → Grown (heard m) (heard n) [] → Tells out n0 n1
      → IsServing holds takes written gave sent heard v ys n n1
  serving-feeds i o out w v xs zs ys m n k p n0 n1 h t count brings piece feeds g goes quiet told =
      serving-takes holds takes written gave sent heard i out w v xs ys m n n0 n1 h t
      (counted-other i.happening o w.core v.core (bytes-other i.happening k p brings) count)
      (brings-piece i out xs zs ys k (length p) feeds
      (λ x at. piece-first (slice_get xs k) p x piece at
      ∙ ap (λ (t : List ℕ). t ++ drop (length p) x.unfed) (sym (bytes-own i.happening k p brings)))
      (λ c ne. bytes-none i.happening k p c brings ne) g) goes
      (subst (Grown (heard m) (heard n)) (sym (bytes-heard i.happening k p brings)) quiet) told
