-- What a table stands for once its single values are read.
use Rattle.std.proofs.Common.{◌≡◌, ℕ, List, Result, Ok, Err, Some, None, OnErr, ◌↔◌, unwrap_or, refl, sym, ap, subst, ◌∙◌}
use Rattle.toml.specs.Data.{Members}
use Rattle.toml.specs.Parse.{parse_document}
use Rattle.proxy_settings.specs.declared.fault.Reason.{Reason}
use Rattle.proxy_settings.specs.declared.part.Part.{Part}
use Rattle.proxy_settings.specs.declared.part.Part.TheVariants as part
use Rattle.proxy_settings.specs.declared.part.Setup.{Setup}
use Rattle.proxy_settings.specs.declared.part.Setup.TheVariants as setup
use Rattle.proxy_settings.specs.declared.fault.SetupFault.{SetupFault}
use Rattle.proxy_settings.specs.declared.fault.SetupFault.TheVariants.{Refused, Memory}
use Rattle.proxy_settings.specs.declared.serve.Serve.{Serve}
use Rattle.proxy_settings.specs.declared.serve.Front.{Front}
use Rattle.proxy_settings.specs.declared.device.Device.{Device}
use Rattle.proxy_settings.specs.declared.device.DeviceFront.{DeviceFront}
use Rattle.proxy_settings.specs.Steps.{Finds, FindsLast}
use Rattle.proxy_settings.specs.Firsts.{firsts}
use Rattle.proxy_settings.specs.Setups.{IsServe, IsDevice, IsSetup, StandsFor}
use Rattle.proxy_settings.specs.Fronts.{IsFront, IsDeviceFront}

pub some_serve : (t : Members) (f : Front) → IsFront t f → (s : Serve) × IsServe t s
some_serve t f h =
    let s : Serve = record { listen = f.listen; udp = f.udp; base = f.base.now; literals = f.literals; policy = f.policy; origins = firsts (λ o. o.host) h.origins.0; down = h.down.0; up = h.up.0 } in
    (s, record { keys = h.keys; listen = h.listen; udp = h.udp; base = h.base; literals = h.literals; loose = h.loose; pass = h.pass; written = h.origins.0; origins = h.origins.1; first_hosts = refl; down = h.down.1; up = h.up.1 })

pub some_device : (t : Members) (f : DeviceFront) → IsDeviceFront t f → (d : Device) × IsDevice t d
some_device t f h =
    let d : Device = record { listen = f.listen; block = f.block; resources = firsts (λ r. r.path) h.resources.0 } in
    (d, record { keys = h.keys; listen = h.listen; block = h.block; written = h.resources.0; resources = h.resources.1; first_paths = refl })

-- Memory is wanted where there is something.
pub wants_memory : {X : Type 0} (R : X → Type 0) (r : Result X SetupFault) → r ≡ Err Memory → (x : X) × R x → FindsLast r R
wants_memory R r is some = rw is some

-- A fault of a part is one of the whole, since the whole has the part.
fault_of_part : {X Y : Type 0} (R : X → Type 0) (S : Y → Type 0) (e : SetupFault) → (x : X) × R x
    → Finds {X = Y} (Err e) S → ((x : X) → R x → (y : Y) × S y) → FindsLast {X = X} (Err e) R
fault_of_part R S Memory some f has_part = some
fault_of_part R S (Refused reason) some f has_part = λ x is. let (y, has) = has_part x is in f y has

pub part_fails : {X Y : Type 0} (R : X → Type 0) (S : Y → Type 0) (e : SetupFault) (r : Result X SetupFault) → r ≡ Err e
    → (x : X) × R x → Finds {X = Y} (Err e) S → ((x : X) → R x → (y : Y) × S y) → FindsLast r R
part_fails R S e r is some f has_part = rw is (fault_of_part R S e some f has_part)

pub on_err : {X E : Type 0} (r : Result X E) (P : Type 0) → P → OnErr r P
on_err (Ok x) P p = tt
on_err (Err e) P p = p

-- Where a table stands for no settings of its part, it stands for none.
no_serve : (t : Members) → ((s : Serve) → IsServe t s → ⊥) → (x : Setup) → IsSetup part.Serve t x → ⊥
no_serve t none (setup.Serve s) is = none s is
no_serve t none (setup.Origin d) is = is

no_device : (t : Members) → ((d : Device) → IsDevice t d → ⊥) → (x : Setup) → IsSetup part.Origin t x → ⊥
no_device t none (setup.Serve s) is = is
no_device t none (setup.Origin d) is = none d is

serve_fault : (t : Members) (e : SetupFault) → FindsLast {X = Serve} (Err e) (IsServe t) → FindsLast {X = Setup} (Err e) (IsSetup part.Serve t)
serve_fault t Memory (s, is) = (setup.Serve s, is)
serve_fault t (Refused reason) none = no_serve t none

device_fault : (t : Members) (e : SetupFault) → FindsLast {X = Device} (Err e) (IsDevice t) → FindsLast {X = Setup} (Err e) (IsSetup part.Origin t)
device_fault t Memory (d, is) = (setup.Origin d, is)
device_fault t (Refused reason) none = no_device t none

pub serve_fails : (t : Members) (e : SetupFault) (r : Result Setup SetupFault) (which : Part) → r ≡ Err e → which ≡ part.Serve
    → FindsLast {X = Serve} (Err e) (IsServe t) → FindsLast r (IsSetup which t)
serve_fails t e r which is same f = rw (is, same) (serve_fault t e f)

pub device_fails : (t : Members) (e : SetupFault) (r : Result Setup SetupFault) (which : Part) → r ≡ Err e → which ≡ part.Origin
    → FindsLast {X = Device} (Err e) (IsDevice t) → FindsLast r (IsSetup which t)
device_fails t e r which is same f = rw (is, same) (device_fault t e f)

absurd_fault : (reason : Reason) → Refused reason ≡ Memory → ⊥
absurd_fault reason h = cc

absurd_table : {t : Members} → None ≡ Some t → ⊥
absurd_table h = cc

-- What a text's table stands for is what the text does.
pub as_table : (which : Part) (text : List ℕ) (t : Members) (r : Result Setup SetupFault) → parse_document text ≡ Some t
    → FindsLast r (IsSetup which t) → Finds r (StandsFor which text)
as_table which text t (Ok s) e is = record { table = t; read = e; settings = is }
as_table which text t (Err Memory) e is = tt
as_table which text t (Err (Refused reason)) e none =
    λ s h. let same : h.table ≡ t = ap (λ o. unwrap_or o t) (sym h.read ∙ e) in none s (subst (λ m. IsSetup which m s) same h.settings)

-- A text that has no table stands for nothing.
pub no_table : (which : Part) (text : List ℕ) (f : SetupFault) (M : Type 0) → (f ≡ Memory) ↔ M
    → ((M → ⊥) → parse_document text ≡ None) → Finds {X = Setup} (Err f) (StandsFor which text)
no_table which text Memory M told none = tt
no_table which text (Refused reason) M told none =
    λ s h.
    let other : M → ⊥ = λ m. absurd_fault reason (told.1 m) in
    absurd_table (sym (none other) ∙ h.read)
