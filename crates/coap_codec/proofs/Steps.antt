-- Steps that may fail.
use Rattle.std.proofs.Common.{◌≡◌, Bool, true, false, cond, Result, Ok, Err, refl, inl, inr, ◌⊎◌}
use Rattle.coap_codec.specs.declared.fault.CodecFault.{CodecFault}
use Rattle.coap_codec.specs.Reading.{◌>>=◌}

-- the value of a step that did not fail
pub bind_ok : {A B : Type 0} (r : Result A CodecFault) (f : A → Result B CodecFault) (y : B) → (r >>= f) ≡ Ok y → (x : A) × (r ≡ Ok x) × (f x ≡ Ok y)
bind_ok (Ok x) f y e = (x, refl, e)
bind_ok (Err d) f y e = absurd cc

-- the fault of steps of which the later ones have none
pub bind_err : {A B : Type 0} (r : Result A CodecFault) (f : A → Result B CodecFault) (d : CodecFault) → (r >>= f) ≡ Err d → ((x : A) → f x ≡ Err d → ⊥) → r ≡ Err d
bind_err (Ok x) f d e later = absurd (later x e)
bind_err (Err c) f d e later = cc

-- steps that go on alike
pub bind_same : {A B : Type 0} (r : Result A CodecFault) (f g : A → Result B CodecFault) → ((x : A) → r ≡ Ok x → f x ≡ g x) → (r >>= f) ≡ (r >>= g)
bind_same (Ok x) f g same = same x refl
bind_same (Err d) f g same = refl

-- a test that did not fail
pub guard_ok : {A : Type 0} (b : Bool) (d : CodecFault) (x y : Result A CodecFault) (z : A) → x ≡ Err d → cond b x y ≡ Ok z → (b ≡ false) × (y ≡ Ok z)
guard_ok true d x y z fails e = absurd cc
guard_ok false d x y z fails e = (refl, e)

-- which way a test went
pub chosen : {A : Type 0} (b : Bool) (x y z : A) → cond b x y ≡ z → ((b ≡ true) × (x ≡ z)) ⊎ ((b ≡ false) × (y ≡ z))
chosen true x y z e = inl (refl, e)
chosen false x y z e = inr (refl, e)

abbrev done : {A : Type 0} → A → Result A CodecFault
done x = Ok x

pub ok_is : {A : Type 0} (x y : A) → done x ≡ done y → x ≡ y
ok_is x y e = cc

pub chosen_err : {A : Type 0} (b : Bool) (x y : Result A CodecFault) (d : CodecFault) → cond b x y ≡ Err d → ((b ≡ true) × (x ≡ Err d)) ⊎ ((b ≡ false) × (y ≡ Err d))
chosen_err true x y d e = inl (refl, e)
chosen_err false x y d e = inr (refl, e)

-- where a fault comes from: the first step, or what follows it
pub bind_fails : {A B : Type 0} (r : Result A CodecFault) (f : A → Result B CodecFault) (d : CodecFault) → (r >>= f) ≡ Err d → (r ≡ Err d) ⊎ ((x : A) × (r ≡ Ok x) × (f x ≡ Err d))
bind_fails (Ok x) f d e = inr (x, refl, e)
bind_fails (Err c) f d e = inl cc

abbrev failed : {A : Type 0} → CodecFault → Result A CodecFault
failed d = Err d

pub err_is : {A : Type 0} (d f : CodecFault) → failed {A = A} d ≡ failed {A = A} f → d ≡ f
err_is d f e = cc
