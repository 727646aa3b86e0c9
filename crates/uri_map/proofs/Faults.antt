-- No step of reading a target says that memory ran out.
use Rattle.std.proofs.Common.{◌≡◌, ◌==◌, ℕ, Bool, true, false, if◌then◌else◌, List, [], ◌∷◌, Option, Some, None, Result, Ok, Err, IsErrOf, MatchResult, sym, ◌∙◌}
use Rattle.std.specs.Option.{ok_or}
use Rattle.std.specs.List.{before_first}
use Rattle.std.specs.declared.net.ipv6_addr.Ipv6Addr.{Ipv6Addr}
use Rattle.uri_map.specs.declared.fault.UriFault.{UriFault}
use Rattle.uri_map.specs.declared.fault.UriFault.TheVariants.{OtherBase, Scheme, Authority, Escape, TooLong, Memory}
use Rattle.uri_map.specs.declared.escapes.Part.TheVariants.{Path, Query}
use Rattle.uri_map.specs.declared.escapes.Part.{Part}
use Rattle.uri_map.specs.declared.target.Target.{Target}
use Rattle.uri_map.specs.Steps.{◌>>=◌}
use Rattle.uri_map.specs.declared.reading.Written.{Written}
use Rattle.uri_map.specs.Scanning.{Stands, IsBuilt}
use Rattle.uri_map.specs.Marks.{ends_authority}
use Rattle.uri_map.specs.Splitting.{behind_base, behind_scheme, from_first, written_path, written_query, pieces}
use Rattle.uri_map.specs.Escapes.{text_at, texts_at, part_at}
use Rattle.uri_map.specs.Authority.{written_port, port_at, named_at, name_and_port, bracketed_at, host_and_port, authority_at}
use Rattle.uri_map.specs.Naming.{target_at}

-- the fault, if there is one, is not want of memory
pub record Never {A : Type 0} (r : Result A UriFault) : Type 0 where
  pub never : r ≡ Err Memory → ⊥

never_ok : {A : Type 0} (x : A) → Never {A = A} (Ok x)
never_ok x = record { never = λ e. absurd cc }

never_base : {A : Type 0} → Never {A = A} (Err OtherBase)
never_base = record { never = λ e. absurd cc }

never_coap : {A : Type 0} → Never {A = A} (Err Scheme)
never_coap = record { never = λ e. absurd cc }

never_place : {A : Type 0} → Never {A = A} (Err Authority)
never_place = record { never = λ e. absurd cc }

never_escape : {A : Type 0} → Never {A = A} (Err Escape)
never_escape = record { never = λ e. absurd cc }

never_long : {A : Type 0} → Never {A = A} (Err TooLong)
never_long = record { never = λ e. absurd cc }

err_same : {A B : Type 0} (e : UriFault) → ◌≡◌ {A = Result A UriFault} (Err e) (Err Memory) → ◌≡◌ {A = Result B UriFault} (Err e) (Err Memory)
err_same e h = cc

never_step : {A B : Type 0} (r : Result A UriFault) (f : A → Result B UriFault) → Never r → ((x : A) → Never (f x)) → Never (r >>= f)
never_step (Ok x) f one others = others x
never_step {A} {B} (Err e) f one others = record { never = λ h. one.never (err_same {A = B} {B = A} e h) }

never_either : {A : Type 0} (b : Bool) (x y : Result A UriFault) → Never x → Never y → Never (if b then x else y)
never_either true x y p q = p
never_either false x y p q = q

never_written : (port : Option ℕ) → Never (ok_or port Authority)
never_written None = never_place
never_written (Some n) = never_ok n

never_port : (text : List ℕ) → Never (port_at text)
never_port [] = never_ok 5683
never_port (b ∷ rest) = never_written (written_port (b ∷ rest))

never_named : (text : List ℕ) → Never (named_at text)
unfolding named_at
never_named text = never_either _ _ _ (never_ok _) never_place

never_name : (text : List ℕ) → Never (name_and_port text)
unfolding name_and_port
never_name text =
    let behind = from_first (λ b. b == 58) text in
    let front = before_first (λ b. b == 58) text in
    never_step (port_at behind) _ (never_port behind) (λ port. never_step (named_at front) _ (never_named front) (λ host. never_ok (host, port)))

never_host : (x : Option (Ipv6Addr × List ℕ)) (text : List ℕ) → Never (host_and_port x text)
never_host None text = never_name text
never_host (Some x) text = never_step (port_at x.1) _ (never_port x.1) (λ port. never_ok _)

never_authority : (text : List ℕ) → Never (authority_at text)
unfolding authority_at
never_authority text = never_either _ _ _ never_place (never_host (bracketed_at text) text)

never_text : (part : Part) (piece : List ℕ) → Never (text_at part piece)
unfolding text_at
never_text part piece = never_either _ _ _ (never_ok _) never_escape

never_texts : (part : Part) (ps : List (List ℕ)) → Never (texts_at part ps)
never_texts part [] = never_ok []
never_texts part (p ∷ ps) = never_step (text_at part p) _ (never_text part p) (λ text. never_step (texts_at part ps) _ (never_texts part ps) (λ texts. never_ok _))

never_scheme : (text : List ℕ) → Never (behind_scheme text)
never_scheme text = never_either _ _ _ (never_either _ _ _ (never_ok _) never_coap) (never_ok _)

never_target : (base text : List ℕ) → Never (target_at base text)
unfolding target_at
never_target base text =
    never_step (behind_base base text) _ (never_either _ _ _ (never_ok _) never_base) (λ below.
    never_step (behind_scheme below) _ (never_scheme below) (λ rest.
    let front = before_first ends_authority rest in
    let tail = from_first ends_authority rest in
    never_step (authority_at front) _ (never_authority front) (λ place.
    never_step (part_at Path (written_path tail)) _ (never_texts Path (pieces 47 (written_path tail))) (λ path.
    never_step (part_at Query (written_query tail)) _ (never_texts Query (pieces 38 (written_query tail))) (λ query.
    never_either _ _ _ (never_ok _) never_long)))))

pub no_memory : (base text : List ℕ) → target_at base text ≡ Err Memory → ⊥
no_memory base text e = (never_target base text).never e

-- Where parts stand for a target, want of memory is told only of that.
pub only_found : (base text : List ℕ) (w : Written) (r : Result Target UriFault) → Stands w (target_at base text) → MatchResult r (IsBuilt w) (λ e. e ≡ Memory) → IsErrOf r Memory → (t : Target) × (target_at base text ≡ Ok t)
only_found base text w r (path, query, path_is, query_is, named) built memory = (_, named)

-- Where reading has a fault, that is not want of memory.
pub never_found : (base text : List ℕ) (r : Result Target UriFault) (d e : UriFault) → r ≡ Err d → d ≡ e → target_at base text ≡ Err e → IsErrOf r Memory → (t : Target) × (target_at base text ≡ Ok t)
never_found base text r d e is same fault memory =
    let told : target_at base text ≡ Err d = rw same fault in
    absurd (no_memory base text (told ∙ sym is ∙ memory))
