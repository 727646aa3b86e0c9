-- What goes out to observers is a notification of the state as it stands.
use Rattle.std.proofs.Common.{◌≡◌, ◌⊎◌, inl, inr, ℕ, zero, suc, List, [], ◌∷◌, ◌++◌, append_assoc, append-nil, set, slice_get, length, Option, Some, None, Bool, true, false, cond, ◌==◌, refl, sym, ap, subst, ◌∙◌, arith}
use Rattle.std.specs.List.{AllByRecursion}
use Rattle.demo_origin.specs.Values.{Device}
use Rattle.demo_origin.specs.Peers.{own_mid}
use Rattle.demo_origin.specs.Notifying.{Talk, talk_of, notified, newer_by, newer, is_busy, Notifies, TellsNewer, TellsUnless, TellsOf, TellsFirst}
use Rattle.demo_origin.specs.Told.{IsNotice, SendsNotices, OnlyObserversTold}
use Rattle.demo_origin.specs.declared.state.Datagram.{Datagram}
use Rattle.demo_origin.specs.declared.state.Held.{Held}
use Rattle.demo_origin.specs.declared.state.Observer.{Observer}
use Rattle.demo_origin.proofs.Watching.{get_set, get_other}

all_append : {X : Type 0} (P : X → Type 0) (xs : List X) (x : X)
    → AllByRecursion P xs → P x → AllByRecursion P (xs ++ x ∷ [])
all_append P [] x all one = (one, tt)
all_append P (y ∷ ys) x all one = (all.0, all_append P ys x all.1 one)

all_same : {X : Type 0} (P Q : X → Type 0) (xs : List X)
    → ((x : X) → P x → Q x) → AllByRecursion P xs → AllByRecursion Q xs
all_same P Q [] h all = tt
all_same P Q (x ∷ xs) h all = (h x all.0, all_same P Q xs h all.1)

pub same_or_not : (i j : ℕ) → (j ≡ i) ⊎ (j ≡ i → ⊥)
same_or_not zero zero = inl refl
same_or_not zero (suc j) = inr (λ e. absurd (omega (arith, e)))
same_or_not (suc i) zero = inr (λ e. absurd (omega (arith, e)))
same_or_not (suc i) (suc j) = elim (same_or_not i j) [
  | inl e ↦ inl (ap (λ (n : ℕ). suc n) e)
  | inr n ↦ inr (λ e. n (omega (arith, e)))
]

-- it stays one where an observer is told
stays_one : (rs : List Held) (os : List Observer) (szx i version : ℕ) (o : Observer) (n : _)
    (d : Datagram) → slice_get os i ≡ Some o → IsNotice rs os szx d
    → IsNotice rs (set os i (record o { told = version; outstanding = n })) szx d
stays_one rs os szx i version o n d at h =
    let told : Observer = record o { told = version; outstanding = n } in
    elim (same_or_not i h.number) [
      | inl e ↦ (let same : Some o ≡ Some h.observer =
          sym at ∙ ap (λ (k : ℕ). slice_get os k) (sym e) ∙ h.stands in
          let is : o ≡ h.observer = cc in
          record {
            number = i;
            observer = told;
            stands = get_set os i o told at;
            to = h.to ∙ sym (ap (λ (x : Observer). x.peer) is);
            held = h.held;
            place = ap (λ (x : Observer). slice_get rs x.place) is ∙ h.place;
            mid = h.mid;
            notifies = (let P : List ℕ → Type 0 = λ token.
                Notifies token h.mid h.held szx d.bytes in
                subst P (sym (ap (λ (x : Observer). x.token) is)) h.notifies);
          })
      | inr ne ↦ record {
        number = h.number;
        observer = h.observer;
        stands = get_other os i h.number told ne ∙ h.stands;
        to = h.to;
        held = h.held;
        place = h.place;
        mid = h.mid;
        notifies = h.notifies;
      }
    ]

-- the newer state is that of the resource
newer_is : (told : ℕ) (v : Option Held) (h : Held) → newer_by told v ≡ Some h → v ≡ Some h
newer_is told None h e = cc
newer_is told (Some g) h e =
    let P : Bool → Type 0 = λ b. cond b None (Some g) ≡ Some h → Some g ≡ Some h in
    let each : (b : Bool) → P b = λ b. elim b as P [ true ↦ λ f. cc | false ↦ λ f. f ] in
    each (g.version == told) e

-- what was said, from the beginning of the round
record Says (rs : List Held) (szx : ℕ) (first k : Talk) : Type 0 where
  pub more : List Datagram
  pub is : k.out ≡ first.out ++ more
  pub each : AllByRecursion (IsNotice rs k.observers szx) more

unchanged : (rs : List Held) (szx : ℕ) (first old new : Talk)
    → new ≡ old → Says rs szx first old → Says rs szx first new
unchanged rs szx first old new e h =
    let P : Talk → Type 0 = λ k. Says rs szx first k in subst P (sym e) h

says_newer : (t szx i : ℕ) (rs : List Held) (h : Option Held) (o : Observer) (first old new : Talk)
    → slice_get old.observers i ≡ Some o → newer rs o ≡ h → TellsNewer t szx i h o old new
    → Says rs szx first old → Says rs szx first new
says_newer t szx i rs None o first old new at none e before =
    unchanged rs szx first old new e before
says_newer t szx i rs (Some h) o first old new at some x before =
    let n = Some (notified t (own_mid o.peer old.clients) x.bytes 0) in
    let told : Observer = record o { told = h.version; outstanding = n } in
    let os = set old.observers i told in
    let d : Datagram = record { peer = o.peer; bytes = x.bytes } in
    let P : Talk → Type 0 = λ k. Says rs szx first k in
    let earlier = all_same (IsNotice rs old.observers szx) (IsNotice rs os szx) before.more
    (λ y z. stays_one rs old.observers szx i h.version o n y at z) before.each in
    let one : IsNotice rs os szx d = record {
      number = i;
      observer = told;
      stands = get_set old.observers i o told at;
      to = refl;
      held = h;
      place = newer_is o.told (slice_get rs o.place) h some;
      mid = own_mid o.peer old.clients;
      notifies = x.notifies;
    } in
    subst P (sym x.is) (record {
      more = before.more ++ d ∷ [];
      is = ap (λ (ds : List Datagram). ds ++ d ∷ []) before.is
          ∙ append_assoc first.out before.more (d ∷ []);
      each = all_append (IsNotice rs os szx) before.more d earlier one;
    })

says_unless : (b : Bool) (t szx i : ℕ) (rs : List Held) (o : Observer) (first old new : Talk)
    → slice_get old.observers i ≡ Some o → TellsUnless b t szx rs i o old new
    → Says rs szx first old → Says rs szx first new
says_unless true t szx i rs o first old new at e before =
    unchanged rs szx first old new e before
says_unless false t szx i rs o first old new at x before =
    says_newer t szx i rs (newer rs o) o first old new at refl x before

says_of : (t szx i : ℕ) (rs : List Held) (v : Option Observer) (first old new : Talk)
    → slice_get old.observers i ≡ v → TellsOf t szx rs i v old new
    → Says rs szx first old → Says rs szx first new
says_of t szx i rs None first old new at e before = unchanged rs szx first old new e before
says_of t szx i rs (Some o) first old new at x before =
    says_unless (is_busy o.peer old.observers) t szx i rs o first old new at x before

says : (t szx : ℕ) (rs : List Held) (n : ℕ) (old new : Talk)
    → TellsFirst t szx rs n old new → Says rs szx old new
says t szx rs zero old new e =
    unchanged rs szx old old new e
    (record { more = []; is = sym (append-nil old.out); each = tt })
says t szx rs (suc n) old new x =
    says_of t szx n rs (slice_get x.0.observers n) old x.0 new refl x.2
    (says t szx rs n old x.0 x.1)

pub only_observers_told : OnlyObserversTold
only_observers_told t old new x =
    let h = says t old.block old.resources (length old.observers) (talk_of old) x.talk x.tells in
    let P : Device → Type 0 = λ s. SendsNotices old s in
    subst P (sym x.is) (record { more = h.more; out = h.is; each = h.each })
