-- What is read of a file, and what it gives.
use Rattle.std.specs.Prelude.{◌≡◌, ℕ, ◌+◌, ◌≤◌, List, [], ◌++◌, length, Option, Some, None, Err, IfSome}
use Rattle.std.specs.Option.{option_map}
use Rattle.std.proofs.Common.{sym, ◌∙◌, ap, subst, arith, min}
use Rattle.std.proofs.Math.ListN.{take}
use Rattle.std.proofs.lemmas.List.{length-take, take_all}
use Rattle.proxy_settings.specs.declared.file.FileFault.{FileFault}
use Rattle.proxy_settings.specs.declared.file.FileFault.TheVariants.{Unread, TooLarge, NotText, Refused, Memory}
use Rattle.proxy_settings.specs.declared.fault.Reason.{Reason}
use Rattle.proxy_settings.specs.declared.fault.SetupFault.{SetupFault}
use Rattle.proxy_settings.specs.declared.fault.SetupFault.TheVariants as Fault
use Rattle.proxy_settings.specs.declared.part.Part.{Part}
use Rattle.proxy_settings.specs.declared.part.Setup.{Setup}
use Rattle.proxy_settings.specs.Setups.{StandsFor}
use Rattle.proxy_settings.specs.Steps.{Finds}
use Rattle.proxy_settings.specs.Files.{IsFailure, IsReadOf}

-- A failure says nothing of the bytes.
failure : {V : Type 0} (items : V → List ℕ) (bytes : List ℕ) (e : FileFault) → IsFailure e → IsReadOf items bytes (Err e)
failure items bytes (Unread error) h = tt
failure items bytes TooLarge h = absurd h
failure items bytes (NotText line) h = h
failure items bytes (Refused line reason) h = h
failure items bytes Memory h = tt

-- What fits was read whole.
fits : (limit : ℕ) (read bytes : List ℕ) → read ≡ [] ++ take (limit + 1) bytes → length read ≤ limit
    → (read ≡ bytes) × (length bytes ≤ limit)
fits limit read bytes same short =
    let cut : length (take (limit + 1) bytes) ≡ min (limit + 1) (length bytes) = length-take (limit + 1) bytes in
    let least : min (limit + 1) (length bytes) ≤ limit = subst (λ n. n ≤ limit) (ap (λ l. length l) same ∙ cut) short in
    let small : length bytes ≤ limit = omega (arith, least) in
    (same ∙ take_all (limit + 1) bytes (omega (arith, small)), small)

fits_in : (limit : ℕ) (read : List ℕ) (known : Option (List ℕ))
    → IfSome (option_map (take (limit + 1)) known) (λ bytes. read ≡ [] ++ bytes) → length read ≤ limit
    → IfSome known (λ bytes. (read ≡ bytes) × (length bytes ≤ limit))
fits_in limit read None same short = tt
fits_in limit read (Some bytes) same short = fits limit read bytes same short

pub fits_known : {F : Type 0} (remaining : F → Option (List ℕ)) (most limit : ℕ) (file inner : F) (read before : List ℕ)
    → most ≡ limit + 1 → inner ≡ file → before ≡ []
    → IfSome (option_map (take most) (remaining inner)) (λ bytes. read ≡ before ++ bytes) → length read ≤ limit
    → IfSome (remaining file) (λ bytes. (read ≡ bytes) × (length bytes ≤ limit))
fits_known remaining most limit file inner read before is same none known short =
    let P : ℕ → Type 0 = λ n. IfSome (option_map (take n) (remaining inner)) (λ bytes. read ≡ before ++ bytes) in
    let Q : List ℕ → Type 0 = λ l. IfSome (option_map (take (limit + 1)) (remaining inner)) (λ bytes. read ≡ l ++ bytes) in
    let there : IfSome (remaining inner) (λ bytes. (read ≡ bytes) × (length bytes ≤ limit)) =
    fits_in limit read (remaining inner) (subst Q none (subst P is known)) short in
    subst (λ f. IfSome (remaining f) (λ bytes. (read ≡ bytes) × (length bytes ≤ limit))) same there

-- A text that stands for nothing does so as the bytes that it is.
pub refused : (which : Part) (text bytes : List ℕ) (fault : SetupFault) (reason : Reason) → text ≡ bytes
    → fault ≡ Fault.Refused reason → Finds {X = Setup} (Err fault) (StandsFor which text)
    → (s : Setup) → StandsFor which bytes s → ⊥
refused which text bytes fault reason same is none s stands =
    let told : Finds {X = Setup} (Err (Fault.Refused reason)) (StandsFor which text) =
    subst (λ f. Finds {X = Setup} (Err f) (StandsFor which text)) is none in
    told s (subst (λ t. StandsFor which t s) (sym same) stands)
