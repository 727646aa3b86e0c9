-- Versions don't fall, and tell states apart.
use Rattle.std.proofs.Common.{◌≡◌, inl, inr, ℕ, ◌<◌, ◌^◌, ◌==◌, List, [], ◌∷◌, length, length-set, set, slice_get, Option, Some, Bool, true, false, not, ◌||◌, refl, sym, ap, subst, ◌∙◌, arith}
use Rattle.std.specs.Str.{bytes_eq}
use Rattle.std.specs.Int.{from_be_bytes, to_be_bytes, w64}
use Rattle.std.proofs.lemmas.Bool.{eqb-false}
use Rattle.std.proofs.lemmas.Nat.{from_be_bytes-to_be_bytes_8}
use Rattle.std.proofs.lemmas.Slice.Eq.{bytes_eq-Decides}
use Rattle.uri_map.specs.declared.peer.Peer.{Peer}
use Rattle.coap_codec.specs.Spelling.{Content}
use Rattle.demo_origin.specs.Values.{Device, Relation, Replied}
use Rattle.demo_origin.specs.Hearing.{is_change, stated, asker, Executes}
use Rattle.demo_origin.specs.Uploads.{with_body}
use Rattle.demo_origin.specs.Origins.{sent_by}
use Rattle.demo_origin.specs.Once.{Event, heard, looked, gave, Steps, Runs}
use Rattle.demo_origin.specs.Versions.{IsLater, StandsLater, TagsTell, VersionsTell}
use Rattle.demo_origin.specs.declared.answer.Asker.{Asker}
use Rattle.demo_origin.specs.declared.state.Held.{Held}
use Rattle.demo_origin.specs.declared.state.Datagram.{Datagram}
use Rattle.demo_origin.specs.declared.execution.Taken.{Taken}
use Rattle.demo_origin.specs.declared.request.Method.{Method}
use Rattle.demo_origin.proofs.Acting.{Acts, acts}
use Rattle.demo_origin.proofs.Judging.{is_left}
use Rattle.demo_origin.proofs.Watching.{get_set, get_other}
use Rattle.demo_origin.proofs.Saying.{same_or_not}

-- ---- one resource

pub itself : (h : Held) → IsLater h h
itself h = record {
  path = refl;
  format = refl;
  max_age = refl;
  version = omega arith;
  eight_bytes = λ lt. lt;
  state = λ e. refl;
}

pub later_on : (a b c : Held) → IsLater a b → IsLater b c → IsLater a c
later_on a b c x y = record {
  path = y.path ∙ x.path;
  format = y.format ∙ x.format;
  max_age = y.max_age ∙ x.max_age;
  version = omega (arith, x.version, y.version);
  eight_bytes = λ lt. y.eight_bytes (x.eight_bytes lt);
  state = λ e. y.state (omega (arith, e, x.version, y.version))
      ∙ x.state (omega (arith, e, x.version, y.version));
}

-- what is no change leaves the state
same_state : (b c : Bool) → (b || not c) ≡ false → c ≡ true
same_state true c e = cc
same_state false true e = refl
same_state false false e = cc

pub kept_state : (before after : List ℕ) (reply : Replied)
    → is_change before after reply ≡ false → after ≡ before
kept_state before after reply e =
    sym ((bytes_eq-Decides before after).0
    (same_state reply.changed (bytes_eq before after) e))

pub stated_later : (h : Held) (changed : Bool) (after : List ℕ)
    → (changed ≡ false → after ≡ h.state) → (h.version == 18446744073709551615) ≡ false
    → IsLater h (stated h changed after)
stated_later h true after same left = record {
  path = refl;
  format = refl;
  max_age = refl;
  version = omega arith;
  eight_bytes = λ lt. omega (arith, lt, eqb-false h.version 18446744073709551615 left);
  state = λ e. absurd (omega (arith, e));
}
stated_later h false after same left = record {
  path = refl;
  format = refl;
  max_age = refl;
  version = omega arith;
  eight_bytes = λ lt. lt;
  state = λ e. same refl;
}

-- ---- all of them

record Later (old new : List Held) : Type 0 where
  each : (i : ℕ) (h : Held) → slice_get old i ≡ Some h → StandsLater i h new
  as_many : length new ≡ length old

unchanged : (old new : List Held) → new ≡ old → Later old new
unchanged old new e = record {
  each = λ i h at. record {
    held = h;
    stands = ap (λ (rs : List Held). slice_get rs i) e ∙ at;
    later = itself h;
  };
  as_many = ap (λ (rs : List Held). length rs) e;
}

one_changed : (old : List Held) (i : ℕ) (h x : Held) → slice_get old i ≡ Some h → IsLater h x
    → Later old (set old i x)
one_changed old i h x here later = record { each = changed; as_many = length-set old i x }
  where
    changed : (j : ℕ) (g : Held) → slice_get old j ≡ Some g → StandsLater j g (set old i x)
    changed j g at =
        elim (same_or_not i j) [
          | inl e ↦ (let same : Some h ≡ Some g =
              sym here ∙ ap (λ (k : ℕ). slice_get old k) (sym e) ∙ at in
              let is : h ≡ g = cc in
              let P : Held → Type 0 = λ y. IsLater y x in
              record {
                held = x;
                stands = ap (λ (k : ℕ). slice_get (set old i x) k) e ∙ get_set old i h x here;
                later = subst P is later;
              })
          | inr ne ↦ record { held = g; stands = get_other old i j x ne ∙ at; later = itself g }
        ]

both : (a b c : List Held) → Later a b → Later b c → Later a c
both a b c x y = record {
  each = λ i h at.
      let m = x.each i h at in
      let n = y.each i m.held m.stands in
      record { held = n.held; stands = n.stands; later = later_on h m.held n.held m.later n.later };
  as_many = y.as_many ∙ x.as_many;
}

-- ---- one call

same : (old new : Device) → new.resources ≡ old.resources → Later old.resources new.resources
same old new e = unchanged old.resources new.resources e

executes : (R : Relation) (to : Asker) (m : Content) (i : ℕ) (method : Method) (old new : Device)
    (taken : Taken) → Executes R to m i method old new taken
    → ((g : Held) → slice_get old.resources i ≡ Some g
    → (g.version == 18446744073709551615) ≡ false)
    → Later old.resources new.resources
executes R to m i method old new taken h left =
    let x = h.changes in
    let now = stated h.held (is_change h.held.state h.after h.reply) h.after in
    let is : new.resources ≡ set old.resources i now =
    ap (λ (d : Device). d.resources) x.settles.is
    ∙ ap (λ (d : Device). d.resources) x.answers.is in
    let P : List Held → Type 0 = λ rs. Later old.resources rs in
    subst P (sym is)
    (one_changed old.resources i h.held now h.there
    (stated_later h.held (is_change h.held.state h.after h.reply) h.after
    (kept_state h.held.state h.after h.reply) (left h.held h.there)))

hears : (R : Relation) (t : ℕ) (p : Peer) (d : List ℕ) (old new : Device) (taken : Option Taken)
    → Acts R t p d old new taken → Later old.resources new.resources
hears R t p d old new taken a =
    let P : List Held → Type 0 = λ rs. Later old.resources rs in
    elim a [
      | inl none ↦ same old new none.1
      | inr did ↦ subst P (sym did.left)
          (executes R (asker t p did.message) (with_body did.body did.message) did.place
          did.method old did.middle did.done did.executes
          (λ g at. is_left did.message old.resources did.place did.method g did.right at))
    ]

pub gives : (ds : List Datagram) (s : Device) → (sent_by s ds).0.resources ≡ s.resources
gives [] s = refl
gives (d ∷ ds) s = refl

steps : (R : Relation) (e : Event) (old new : Device)
    → Steps R e old new → Later old.resources new.resources
steps R (heard t p d taken) old new h =
    hears R t p d old new taken (acts R t p d old new taken h)
steps R (looked t) old new h = same old new (ap (λ (d : Device). d.resources) h.is)
steps R gave old new h =
    same old new (ap (λ (d : Device). d.resources) h ∙ gives old.out old)

runs : (R : Relation) (es : List Event) (old new : Device)
    → Runs R es old new → Later old.resources new.resources
runs R [] old new h = same old new (ap (λ (d : Device). d.resources) h)
runs R (e ∷ es) old new h =
    both old.resources h.0.resources new.resources (steps R e old h.0 h.1)
    (runs R es h.0 new h.2)

pub versions_tell : (R : Relation) → VersionsTell R
versions_tell R es old new i held h at = (runs R es old new h).each i held at

-- A device has as many resources as before.
pub as_many : (R : Relation) (es : List Event) (old new : Device) → Runs R es old new
    → length new.resources ≡ length old.resources
as_many R es old new h = (runs R es old new h).as_many

-- ---- ETags

pub same_version : (a b : ℕ) → a < 2 ^ 64 → b < 2 ^ 64 → to_be_bytes w64 a ≡ to_be_bytes w64 b → a ≡ b
same_version a b small fits e =
    sym (from_be_bytes-to_be_bytes_8 a small)
    ∙ ap (λ (bytes : List ℕ). from_be_bytes w64 bytes) e
    ∙ from_be_bytes-to_be_bytes_8 b fits

pub tags_tell : (R : Relation) → TagsTell R
tags_tell R es old new i held now h at then fits e =
    let later = (runs R es old new h).each i held at in
    let same : Some later.held ≡ Some now = sym later.stands ∙ then in
    let is : later.held ≡ now = cc in
    let after : IsLater held now = subst (λ (x : Held). IsLater held x) is later.later in
    after.state (same_version now.version held.version (after.eight_bytes fits) fits e)
