-- What a request is judged to be, read backwards.
use Rattle.std.proofs.Common.{◌≡◌, ◌⊎◌, inl, inr, ℕ, ◌/◌, List, slice_get, Option, Some, None, Bool, true, false, cond, ◌==◌, position, refl, sym, subst, ◌∙◌}
use Rattle.std.proofs.lemmas.Bool.Decides.{Decides-eqb}
use Rattle.coap_codec.specs.Spelling.{Content}
use Rattle.coap_codec.specs.Values.{values}
use Rattle.demo_origin.specs.Requests.{is_understood, number_in, is_at, IsAt, suits, confirms, method_code, asked_for, judged_method, unsuited, judged_held, judged_at, judged}
use Rattle.demo_origin.specs.declared.state.Held.{Held}
use Rattle.demo_origin.specs.declared.request.Method.{Method}
use Rattle.demo_origin.specs.declared.request.Method.TheVariants.{Post, Put, Delete}
use Rattle.demo_origin.specs.declared.judge.Judged.{Judged}
use Rattle.demo_origin.specs.declared.judge.Judged.TheVariants.{Dropped, Refused, NotAcceptable, Read, Asked}

pub either_way : {X : Type 0} (P : X → Type 0) (b : Bool) (x y : X)
    → (b ≡ true → P x) → (b ≡ false → P y) → P (cond b x y)
either_way P true x y h k = h refl
either_way P false x y h k = k refl

-- a GET of the resource of that number
pub record Gets (m : Content) (rs : List Held) (i : ℕ) : Type 0 where
  pub get : m.code ≡ 1
  pub held : Held
  pub stands : IsAt (values 11 m.options) rs i held

-- a request for which the handler of the resource of that number is asked
pub record AsksFor (m : Content) (rs : List Held) (i : ℕ) (method : Method) : Type 0 where
  pub code : method_code method ≡ m.code
  pub held : Held
  pub stands : IsAt (values 11 m.options) rs i held
  pub left : (held.version == 18446744073709551615) ≡ false

abbrev pub IsRight : Content → List Held → Judged → Type 0
IsRight m rs Dropped = Unit {0}
IsRight m rs (Refused code) = (code / 32 ≡ 4) ⊎ (code / 32 ≡ 5)
IsRight m rs (NotAcceptable i) = Unit {0}
IsRight m rs (Read i) = Gets m rs i
IsRight m rs (Asked i method) = AsksFor m rs i method

-- it has a version left
pub is_left : (m : Content) (rs : List Held) (i : ℕ) (method : Method) (h : Held)
    → AsksFor m rs i method → slice_get rs i ≡ Some h
    → (h.version == 18446744073709551615) ≡ false
is_left m rs i method h asks at =
    let same : Some asks.held ≡ Some h = sym asks.stands.stands ∙ at in
    let is : asks.held ≡ h = cc in
    subst (λ (x : Held). (x.version == 18446744073709551615) ≡ false) is asks.left

changes : (m : Content) (rs : List Held) (i : ℕ) (h : Held) (method : Method)
    → method_code method ≡ m.code → IsAt (values 11 m.options) rs i h
    → IsRight m rs (asked_for i h.version method)
changes m rs i h method code at =
    either_way (IsRight m rs) (h.version == 18446744073709551615) (Refused 160)
    (Asked i method) (λ e. inr refl)
    (λ e. record { code = code; held = h; stands = at; left = e })

methods : (m : Content) (rs : List Held) (i : ℕ) (h : Held) → IsAt (values 11 m.options) rs i h
    → IsRight m rs (judged_method m.code i h.version)
methods m rs i h at =
    let by_code : (n : ℕ) (method : Method) → method_code method ≡ n → (m.code == n) ≡ true
    → IsRight m rs (asked_for i h.version method) =
    λ n method code e.
    changes m rs i h method (code ∙ sym ((Decides-eqb m.code n).0 e)) at in
    either_way (IsRight m rs) (m.code == 1) (Read i) _
    (λ e. record { get = (Decides-eqb m.code 1).0 e; held = h; stands = at })
    (λ e. either_way (IsRight m rs) (m.code == 2) (asked_for i h.version Post) _
    (λ e. by_code 2 Post refl e)
    (λ e. either_way (IsRight m rs) (m.code == 3) (asked_for i h.version Put) _
    (λ e. by_code 3 Put refl e)
    (λ e. either_way (IsRight m rs) (m.code == 4) (asked_for i h.version Delete)
    (Refused 133) (λ e. by_code 4 Delete refl e) (λ e. inl refl))))

others : (m : Content) (rs : List Held) (i : ℕ) → IsRight m rs (unsuited m.code i)
others m rs i =
    either_way (IsRight m rs) (m.code == 1) (NotAcceptable i) (Refused 134)
    (λ e. tt) (λ e. inl refl)

of_held : (m : Content) (rs : List Held) (i : ℕ) (v : Option Held)
    → position (is_at (values 11 m.options)) rs ≡ Some i → slice_get rs i ≡ v
    → IsRight m rs (judged_held m i v)
of_held m rs i None first at = inl refl
of_held m rs i (Some h) first at =
    either_way (IsRight m rs) (suits (number_in (values 17 m.options)) h.format)
    (judged_method m.code i h.version) (unsuited m.code i)
    (λ e. methods m rs i h (record { first = first; stands = at }))
    (λ e. others m rs i)

at_place : (m : Content) (rs : List Held) (o : Option ℕ)
    → position (is_at (values 11 m.options)) rs ≡ o → IsRight m rs (judged_at m rs o)
at_place m rs None e = inl refl
at_place m rs (Some i) e = of_held m rs i (slice_get rs i) e refl

pub judged_right : (m : Content) (rs : List Held) → IsRight m rs (judged m rs)
judged_right m rs =
    either_way (IsRight m rs) (is_understood m.options)
    (judged_at m rs (position (is_at (values 11 m.options)) rs)) _
    (λ e. at_place m rs (position (is_at (values 11 m.options)) rs) refl)
    (λ e. either_way (IsRight m rs) (confirms m.kind) (Refused 130) Dropped
    (λ e. inl refl) (λ e. tt))
