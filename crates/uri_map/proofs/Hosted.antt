-- What hosts a target is read again.
use Rattle.std.proofs.Common.{◌≡◌, ℕ, nat_eq, true, List, [], ◌∷◌, ◌++◌, Result, Ok, refl, sym, ap, ◌∙◌, subst, append_assoc, eq-eqb}
use Rattle.std.specs.List.{starts_with, before_first}
use Rattle.std.proofs.lemmas.List.Elements.{All-weaker}
use Rattle.std.proofs.Math.Seq.{drop-append_seam}
use Rattle.uri_map.specs.declared.fault.UriFault.{UriFault}
use Rattle.uri_map.specs.declared.hosting.TheConstants.{SEGMENT}
use Rattle.uri_map.specs.declared.escapes.Part.TheVariants.{Path, Query}
use Rattle.uri_map.specs.declared.target.Target.{Target}
use Rattle.uri_map.specs.Marks.{ends_authority}
use Rattle.uri_map.specs.Splitting.{behind_base, behind_scheme, written_path, written_query}
use Rattle.uri_map.specs.Escapes.{part_at}
use Rattle.uri_map.specs.Authority.{authority_at}
use Rattle.uri_map.specs.Limits.{within_limits, fits, uri_options}
use Rattle.uri_map.specs.Naming.{target_at}
use Rattle.uri_map.specs.Hosting.{host_text, port_text, texts_behind, query_text, hosting}
use Rattle.uri_map.proofs.Cuts.{Ends, Fails, front_cut, rest_cut}
use Rattle.uri_map.proofs.HostedParts.{parts_again}
use Rattle.uri_map.proofs.Placed.{placed}
use Rattle.uri_map.proofs.HostedPlace.{Plain, Again, place_again}
use Rattle.uri_map.proofs.TargetSteps.{Found, target, limits_left, Reached, reached}

abbrev ok : Target → Result Target UriFault
ok t = Ok t

starts_again : (base rest : List ℕ) → starts_with nat_eq (base ++ rest) base ≡ true
starts_again [] rest = refl
starts_again (b ∷ base) rest = rw (eq-eqb b b refl) (starts_again base rest)

base_again : (base rest : List ℕ) → behind_base base (base ++ rest) ≡ Ok rest
base_again base rest = rw (starts_again base rest, drop-append_seam base rest) refl

scheme_again : (rest : List ℕ) → behind_scheme (99 ∷ 111 ∷ 97 ∷ 112 ∷ 58 ∷ 47 ∷ 47 ∷ rest) ≡ Ok rest
scheme_again rest = refl

-- a path or a query ends an authority
parts_end : (path query : List (List ℕ)) → Ends ends_authority (texts_behind SEGMENT 47 path ++ query_text query)
parts_end [] [] = tt
parts_end [] (q ∷ query) = refl
parts_end (p ∷ path) query = refl

-- All that reading finds again of what hosts a target.
found_again : (base text : List ℕ) (t : Target) → target_at base text ≡ Ok t → Again t.host t.port → (f : Found base (hosting base t)) × (target f ≡ t)
found_again base text t e place =
    let parts = texts_behind SEGMENT 47 t.path ++ query_text t.query in
    let authority = host_text t.host ++ port_text t.port in
    let below = 99 ∷ 111 ∷ 97 ∷ 112 ∷ 58 ∷ 47 ∷ 47 ∷ (authority ++ parts) in
    let shown : hosting base t ≡ base ++ below = simp append_assoc in
    let (path, query) = parts_again base text t e in
    let bytes = All-weaker Plain (Fails ends_authority) (λ b p. p.0) authority place.bytes in
    let front = front_cut ends_authority authority parts bytes (parts_end t.path t.query) in
    let rest = rest_cut ends_authority authority parts bytes (parts_end t.path t.query) in (
      record {
        below = below;
        rest = authority ++ parts;
        host = t.host;
        port = t.port;
        path = t.path;
        query = t.query;
        below_is = ap (behind_base base) shown ∙ base_again base below;
        rest_is = scheme_again (authority ++ parts);
        place_is = ap authority_at front ∙ place.read;
        path_is = ap (λ x. part_at Path (written_path x)) rest ∙ path;
        query_is = ap (λ x. part_at Query (written_query x)) rest ∙ query;
      },
      refl {a = t},
    )

within : (t : Target) → fits (uri_options t) ≡ true → within_limits t ≡ Ok t
within t e = rw e refl

place_of : (base text : List ℕ) (t : Target) → Reached base text t → Again t.host t.port
place_of base text t r =
    let f = r.found in
    let facts = placed (before_first ends_authority f.rest) f.host f.port f.place_is in
    subst (λ (u : Target). Again u.host u.port) r.same (place_again f.host f.port facts.0 facts.1)

-- What hosts a target that was read names that target.
pub hosted_again : (base text : List ℕ) (t : Target) → target_at base text ≡ Ok t → target_at base (hosting base t) ≡ Ok t
hosted_again base text t e =
    let r = reached base text t e in
    let (f, same) = found_again base text t e (place_of base text t r) in
    limits_left base (hosting base t) f ∙ ap within_limits same ∙ within t r.limits

named_one : (t u : Target) → ok t ≡ ok u → t ≡ u
named_one t u e = cc

-- No two targets that were read are hosted under one text.
pub hosted_one : (base text other : List ℕ) (t u : Target) → target_at base text ≡ Ok t → target_at base other ≡ Ok u → hosting base t ≡ hosting base u → t ≡ u
hosted_one base text other t u e f same = named_one t u (sym (hosted_again base text t e) ∙ ap (target_at base) same ∙ hosted_again base other u f)
