-- What an input asks on a connection.
use Rattle.std.proofs.Common.{◌≡◌, ◌⊎◌, inl, inr, ℕ, ◌+◌, ◌≤◌, Bool, true, false, cond, List, [], ◌∷◌, ◌++◌, length, drop, Some, None, refl, sym, ap, ◌∙◌, subst, arith, eqb-true}
use Rattle.std.specs.Prelude.{⊤, ◌==◌}
use Rattle.std.proofs.Math.Seq.{drop-append_seam}
use Rattle.std.proofs.lemmas.List.{append-nil}
use Rattle.media_map.specs.declared.form.Form.{Form}
use Rattle.ask_model.specs.Views.{Ask}
use Rattle.journal_book.specs.Entries.{Opens as Opened, Written}
use Rattle.exchange_model.specs.State.{State}
use Rattle.exchange_model.specs.Steps.{opens}
use Rattle.exchange_model.specs.Growing.{at_moment}
use Rattle.exchange_core.specs.Values.{CoreValue}
use Rattle.gateway_model.specs.declared.input.Happening.{Happening}
use Rattle.gateway_model.specs.declared.input.Happening.TheVariants as H
use Rattle.gateway_model.specs.declared.input.When.{When}
use Rattle.gateway_model.specs.Acts.{Act, Opens, TurnsAway, Leaves, Misses, Served, Terms, Does, DoesAll, at}
use Rattle.gateway_model.specs.Asking.{brought_by, IsLeft, IsOver, Begins, Heeds, AllHeed, InputsAsk}
use Rattle.gateway_model.specs.Emissions.{Emission, Turned}
use Rattle.gateway_model.specs.Orders.{IsInOrder}
use Rattle.gateway_model.specs.Tellings.{terms_of}
use Rattle.gateway_model.specs.Unasked.{Unasked, unasked_at, no_bytes}
use Rattle.gateway_model.proofs.Asked.{added-same, added-none, Effect, effect-then}
use Rattle.gateway_model.proofs.Moving.{opens-as}
use Rattle.gateway_model.proofs.Order.{Each, each-out, each-delivers}
use Rattle.gateway_model.proofs.Heeding.{IsPlain, ArePlain, all-effect, takes-effect, state-of}

-- what follows the first act of an input is such
each-plain : Each IsPlain
each-plain = record { asks = λ c. tt; denies = λ c. tt; sends = tt; tells = λ c k. tt; goes_on = λ c. tt; gives_up = λ c. tt; forgoes = λ c k. tt; rests = λ c. tt }

-- a connection opens

opens-heed : (M : Terms) (w : When) (d : ℕ) (old : Served) (out : List Emission) (new : Served) → Does M w (Opens d) old out new
    → AllHeed M.IsMeaning H.Open old new
opens-heed M w d old out new h = record {
  more = at_moment t (Opened old.core.state.opened) ∷ [];
  added = ap (λ (S : State). S.entries) is;
  opened = subst (λ (n : ℕ). old.core.state.opened ≤ n) (sym more) (omega arith);
  each = λ c. record {
    reads = λ u stood goes. record {
      items = [];
      rest = u.text ++ [];
      reads = refl;
      asks = tt;
      left =
          subst (IsLeft [] (u.text ++ [])) (sym (here c u stood)) (inl (tt, goes, sym (append-nil u.text)));
    };
    last = λ u stood closing. (refl, subst IsOver (sym (here c u stood)) closing);
    gone = λ stood. (refl, opens-now c stood (d == c) refl);
  };
}
  where
    t : ℕ
    t = at w old

    is : new.core.state ≡ opens t old.core.state
    is =
        ap state-of h.0.1
        ∙ opens-as t old.core.state (sym (ap (λ (v : CoreValue). v.state.sealed) h.0.1) ∙ h.0.2)

    more : new.core.state.opened ≡ old.core.state.opened + 1
    more = ap (λ (S : State). S.opened) is

    here : (c : ℕ) (u : Unasked) → unasked_at c old.unasked ≡ Some u → unasked_at c new.unasked ≡ Some u
    here c u stood = ap (unasked_at c) h.1 ∙ added-same d c old.unasked u stood

    opens-now : (c : ℕ) → unasked_at c old.unasked ≡ None → (b : Bool) → (d == c) ≡ b
        → (unasked_at c new.unasked ≡ None) ⊎ Begins c H.Open old new
    opens-now c stood false e =
        inl (ap (unasked_at c) h.1 ∙ added-none d c old.unasked stood ∙ ap (λ (b : Bool). cond b (Some (no_bytes d)) None) e)
    opens-now c stood true e =
        let same : d ≡ c = eqb-true d c e in
        inr (record {
          wants = refl;
          fresh = sym same ∙ h.0.0;
          opened = more ∙ ap (λ (n : ℕ). n + 1) (sym h.0.0 ∙ same);
          waits =
              ap (unasked_at c) h.1 ∙ added-none d c old.unasked stood ∙ ap (λ (b : Bool). cond b (Some (no_bytes d)) None) e
              ∙ ap (λ (k : ℕ). Some (no_bytes k)) same;
        })

-- an input

same-more : (h a b : List Written) → h ++ a ≡ h ++ b → a ≡ b
same-more h a b e = sym (drop-append_seam h a) ∙ (ap (drop (length h)) e ∙ drop-append_seam h b)

heeds : (P : Ask → Type 0) (c : ℕ) (x : Happening) (old new : Served) (more : List Written) → (e : Effect P c (brought_by c x) old new)
    → e.more ≡ more → Heeds P c x old new more
heeds P c x old new more e same =
    subst (Heeds P c x old new) same
    (record { reads = e.reads; last = e.last; gone = λ is. let g = e.gone is in (g.0, inl g.1) })

all-heed : (P : Ask → Type 0) (x : Happening) (old new : Served) → ((c : ℕ) → Effect P c (brought_by c x) old new)
    → AllHeed P x old new
all-heed P x old new f = record {
  more = (f 0).more;
  added = (f 0).entries;
  opened = subst (λ (n : ℕ). old.core.state.opened ≤ n) (sym (f 0).opened) (no-less old.core.state.opened);
  each = λ c.
      heeds P c x old new (f 0).more (f c)
      (same-more old.core.state.entries (f c).more (f 0).more (sym (f c).entries ∙ (f 0).entries));
}
  where
    no-less : (n : ℕ) → n ≤ n
    no-less n = omega arith

pub input-asks : (M : Terms) (w : When) (x : Happening) (acts : List Act) (old : Served) (out : List Emission) (new : Served)
    → DoesAll M w acts old out new → IsInOrder x acts → AllHeed M.IsMeaning x old new
input-asks M w H.Open acts old out new h o = by o
  where
    by : ((c : ℕ) × (acts ≡ Opens c ∷ [])) ⊎ (acts ≡ TurnsAway ∷ []) → AllHeed M.IsMeaning H.Open old new
    by (inl one) =
        let d = subst (λ (xs : List Act). DoesAll M w xs old out new) one.1 h in
        subst (AllHeed M.IsMeaning H.Open old) (sym d.4.0) (opens-heed M w one.0 old d.1 d.0 d.3)
    by (inr one) =
        all-heed M.IsMeaning H.Open old new
        (λ c. all-effect M w c acts old out new (subst ArePlain (sym one) (tt, tt)) h)
input-asks M w (H.Bytes d bytes) acts old out new h o =
    let k = subst (λ (xs : List Act). DoesAll M w xs old out new) o.are h in
    all-heed M.IsMeaning (H.Bytes d bytes) old new
    (λ c.
    subst (λ (came : List ℕ). Effect M.IsMeaning c came old new) (append-nil (cond (d == c) bytes.now []))
    (effect-then M.IsMeaning c (cond (d == c) bytes.now []) [] old k.0 new
    (takes-effect M.IsMeaning c d bytes.now old k.0 k.3.0)
    (all-effect M w c o.rest k.0 k.2 new (each-out IsPlain each-plain d o.rest o.then) k.4)))
input-asks M w (H.Datagram p bytes) acts old out new h o =
    all-heed M.IsMeaning (H.Datagram p bytes) old new
    (λ c. all-effect M w c acts old out new (subst ArePlain (sym o.are) (tt, each-delivers IsPlain each-plain o.rest o.then)) h)
input-asks M w H.Tick acts old out new h o =
    all-heed M.IsMeaning H.Tick old new
    (λ c. all-effect M w c acts old out new (subst ArePlain (sym o.are) (tt, each-delivers IsPlain each-plain o.rest o.then)) h)
input-asks M w (H.Close d) acts old out new h o = by o
  where
    by : (acts ≡ Leaves d ∷ []) ⊎ (acts ≡ Misses d ∷ []) → AllHeed M.IsMeaning (H.Close d) old new
    by (inl one) =
        all-heed M.IsMeaning (H.Close d) old new
        (λ c. all-effect M w c acts old out new (subst ArePlain (sym one) (tt, tt)) h)
    by (inr one) =
        all-heed M.IsMeaning (H.Close d) old new
        (λ c. all-effect M w c acts old out new (subst ArePlain (sym one) (tt, tt)) h)
input-asks M w H.Rotate acts old out new h o = absurd o

-- how many connections have opened, after an input

abbrev wants : Happening → Type 0
wants H.Open = ⊤
wants _ = ⊥

abbrev pub CountsOpened : Happening → List Emission → ℕ → ℕ → Type 0
CountsOpened x out n m =
    ((x ≡ H.Open) × (out ≡ []) × (m ≡ n + 1))
    ⊎ (((x ≡ H.Open) × (out ≡ Turned ∷ []) × (m ≡ n)) ⊎ ((x ≡ H.Open → ⊥) × (m ≡ n)))

module _ (M : Terms) (w : When) where
  opens-counted : (d : ℕ) (old : Served) (out : List Emission) (new : Served) → Does M w (Opens d) old out new
      → new.core.state.opened ≡ old.core.state.opened + 1
  opens-counted d old out new h =
      let t = at w old in
      ap (λ (S : State). S.opened)
      (ap state-of h.0.1 ∙ opens-as t old.core.state (sym (ap (λ (v : CoreValue). v.state.sealed) h.0.1) ∙ h.0.2))

  plain-counted : (acts : List Act) (old : Served) (out : List Emission) (new : Served) → DoesAll M w acts old out new
      → ArePlain acts → new.core.state.opened ≡ old.core.state.opened
  plain-counted acts old out new h plain = (all-effect M w 0 acts old out new plain h).opened

  pub input-counts : (x : Happening) (acts : List Act) (old : Served) (out : List Emission) (new : Served)
      → DoesAll M w acts old out new → IsInOrder x acts
      → CountsOpened x out old.core.state.opened new.core.state.opened
  input-counts H.Open acts old out new h o = by o
    where
      by : ((c : ℕ) × (acts ≡ Opens c ∷ [])) ⊎ (acts ≡ TurnsAway ∷ [])
          → CountsOpened H.Open out old.core.state.opened new.core.state.opened
      by (inl one) =
          let d = subst (λ (xs : List Act). DoesAll M w xs old out new) one.1 h in
          inl (
            refl,
            d.5 ∙ (ap (λ (es : List Emission). es ++ d.2) d.3.2 ∙ d.4.1),
            ap (λ (s : Served). s.core.state.opened) d.4.0 ∙ opens-counted one.0 old d.1 d.0 d.3,
          )
      by (inr one) =
          let d = subst (λ (xs : List Act). DoesAll M w xs old out new) one h in
          inr (inl (
            refl,
            d.5 ∙ (ap (λ (es : List Emission). es ++ d.2) d.3.2 ∙ ap (λ (es : List Emission). Turned ∷ es) d.4.1),
            plain-counted acts old out new h (subst ArePlain (sym one) (tt, tt)),
          ))
  input-counts (H.Bytes d bytes) acts old out new h o =
      let k = subst (λ (xs : List Act). DoesAll M w xs old out new) o.are h in
      inr (inr (
        λ e. subst wants (sym e) tt,
        plain-counted o.rest k.0 k.2 new k.4 (each-out IsPlain each-plain d o.rest o.then)
            ∙ (takes-effect M.IsMeaning 0 d bytes.now old k.0 k.3.0).opened,
      ))
  input-counts (H.Datagram p bytes) acts old out new h o =
      inr (inr (
        λ e. subst wants (sym e) tt,
        plain-counted acts old out new h (subst ArePlain (sym o.are) (tt, each-delivers IsPlain each-plain o.rest o.then)),
      ))
  input-counts H.Tick acts old out new h o =
      inr (inr (
        λ e. subst wants (sym e) tt,
        plain-counted acts old out new h (subst ArePlain (sym o.are) (tt, each-delivers IsPlain each-plain o.rest o.then)),
      ))
  input-counts (H.Close d) acts old out new h o = inr (inr (λ e. subst wants (sym e) tt, by o))
    where
      by : (acts ≡ Leaves d ∷ []) ⊎ (acts ≡ Misses d ∷ []) → new.core.state.opened ≡ old.core.state.opened
      by (inl one) = plain-counted acts old out new h (subst ArePlain (sym one) (tt, tt))
      by (inr one) = plain-counted acts old out new h (subst ArePlain (sym one) (tt, tt))
  input-counts H.Rotate acts old out new h o = absurd o

pub inputs-ask : (holds : Form → Form → List ℕ → List ℕ → Type 0) (takes : Form → Form → List ℕ → Type 0) → InputsAsk holds takes
inputs-ask holds takes rules w x acts old out new h o = input-asks (terms_of holds takes rules) w x acts old out new h o
