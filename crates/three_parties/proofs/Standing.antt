-- A resource that the device has stood there before its first call.
use Rattle.std.proofs.Common.{◌≡◌, ◌==◌, ℕ, ◌<◌, ◌≤◌, inl, inr, true, List, length, take, Option, Some, None, sym, ap, ◌∙◌, arith}
use Rattle.std.specs.Prelude.{slice_get}
use Rattle.std.specs.Cmp.Lexicographic.{pointwise}
use Rattle.std.specs.List.{position_or_len}
use Rattle.std.proofs.lemmas.Bool.{cond_below, false≢true}
use Rattle.std.proofs.lemmas.Bool.Decides.{leb_tells}
use Rattle.std.proofs.lemmas.List.Quantifiers.{position-Some}
use Rattle.std.proofs.lemmas.List.Sums.{fails_before_first}
use Rattle.history_laws.proofs.CallerLemmas.{some-is}
use Rattle.demo_origin.specs.Calls.{Call, Follow, left_by}
use Rattle.demo_origin.specs.Requests.{is_at, IsAt}
use Rattle.demo_origin.specs.Values.{Device, Relation}
use Rattle.demo_origin.specs.declared.state.Held.{Held}
use Rattle.demo_origin.proofs.Alls.{get_or_of}
use Rattle.demo_origin.proofs.Versioning.{as_many, versions_tell}
use Rattle.story_laws.proofs.Originating.{follow-take}
use Rattle.story_laws.proofs.Standing.{events-of}
use Rattle.three_parties.proofs.Lists.{got-below, got-in}

-- Where one of these bears the path, the path finds one.
found : (path : List (List ℕ)) (rs : List Held) (n : ℕ) (x : Held) → slice_get rs n ≡ Some x → is_at path x ≡ true
    → (i : ℕ) × (first : Held) × IsAt path rs i first
found path rs n x e bears =
    let k = position_or_len (is_at path) rs in
    let lt = got-below rs n x e in
    let inside : k < length rs =
    elim (leb_tells (length rs) k) [
      | inl w ↦
          let past = w.1 in
          absurd (false≢true (sym (fails_before_first (is_at path) rs n x (omega (arith, past, lt)))
          ∙ (ap (λ (h : Held). is_at path h) (get_or_of rs n x x e) ∙ bears)))
      | inr w ↦ let below = w.1 in omega (arith, below)
    ] in
    let there = got-in rs k inside in
    (k, there.0, record { first = sym (cond_below k (length rs) (Some k) None inside); stands = there.1 })

pub stood-first : (R : Relation) (cs : List Call) (s : Device) (a : ℕ) (path : List (List ℕ)) (number : ℕ) (held : Held) → Follow R s cs
    → IsAt path (left_by s (take a cs)).resources number held → (i : ℕ) × (first : Held) × IsAt path s.resources i first
stood-first R cs s a path number held follow there =
    let now : Device = left_by s (take a cs) in
    let ran = events-of R (take a cs) s (follow-take R cs s a follow) in
    let many = as_many R ran.events s now ran.runs in
    let below = got-below now.resources number held there.stands in
    let old = got-in s.resources number (omega (arith, many, below)) in
    let later = versions_tell R ran.events s now number old.0 ran.runs old.1 in
    let path-kept : held.path ≡ old.0.path =
    ap (λ (x : Held). x.path) (some-is held later.held (sym there.stands ∙ later.stands)) ∙ later.later.path in
    let bears : is_at path held ≡ true =
    ap (λ (x : Held). is_at path x) (sym (get_or_of now.resources number held held there.stands))
    ∙ (position-Some (is_at path) now.resources number held there.first).1 in
    found path s.resources number old.0 old.1
    (ap (λ (p : List (List ℕ)). pointwise (pointwise ◌==◌) p path) (sym path-kept) ∙ bears)
