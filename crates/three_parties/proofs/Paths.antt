-- The path of what a message asks for.
use Rattle.std.proofs.Common.{◌≡◌, ℕ, Bool, false, cond, List, [], ◌∷◌, ◌++◌, append-nil, Option, Some, None, refl, sym, ap, subst, ◌∙◌}
use Rattle.std.specs.Prelude.{◌==◌}
use Rattle.coap_codec.specs.Spelling.{Content, Entry}
use Rattle.coap_codec.specs.Values.{values}
use Rattle.uri_map.specs.Limits.{host_options, options_with}
use Rattle.uri_map.specs.declared.target.Host.{Host}
use Rattle.uri_map.specs.declared.target.Host.TheVariants as H
use Rattle.ask_model.specs.Requests.{CoapRequest, Plainly, optional, request_options, uint_bytes}
use Rattle.history_claims.specs.Headline.{IsSameGet}
use Rattle.story_laws.proofs.Wholes.{values-both}

none-host : (h : Host) → values 11 (host_options h) ≡ []
none-host (H.Name name) = refl
none-host (H.V4 address) = refl
none-host (H.V6 address) = refl

all-path : (vs : List (List ℕ)) → values 11 (options_with 11 vs) ≡ vs
all-path [] = refl
all-path (v ∷ vs) = ap (λ (xs : List (List ℕ)). v ∷ xs) (all-path vs)

none-query : (vs : List (List ℕ)) → values 11 (options_with 15 vs) ≡ []
none-query [] = refl
none-query (v ∷ vs) = none-query vs

none-optional : (n : ℕ) → (n == 11) ≡ false → (v : Option ℕ) → values 11 (optional n v) ≡ []
none-optional n not None = refl
none-optional n not (Some k) = subst (λ (t : Bool). cond t (uint_bytes k ∷ []) [] ≡ []) (sym not) refl

pub asked-path : (q : CoapRequest) → values 11 (request_options q) ≡ q.target.path
asked-path q =
    values-both 11 host (path ++ rest)
    ∙ (ap (λ (vs : List (List ℕ)). vs ++ values 11 (path ++ rest)) (none-host q.target.host)
    ∙ (values-both 11 path rest
    ∙ (ap (λ (vs : List (List ℕ)). vs ++ values 11 rest) (all-path q.target.path)
    ∙ (ap (λ (vs : List (List ℕ)). q.target.path ++ vs) none ∙ append-nil q.target.path))))
  where
    host : List Entry
    host = host_options q.target.host

    path : List Entry
    path = options_with 11 q.target.path

    query : List Entry
    query = options_with 15 q.target.query

    rest : List Entry
    rest = optional 12 q.format ++ (query ++ optional 17 q.accept)

    none : values 11 rest ≡ []
    none =
        values-both 11 (optional 12 q.format) (query ++ optional 17 q.accept)
        ∙ (ap (λ (vs : List (List ℕ)). vs ++ values 11 (query ++ optional 17 q.accept)) (none-optional 12 refl q.format)
        ∙ (values-both 11 query (optional 17 q.accept)
        ∙ (ap (λ (vs : List (List ℕ)). vs ++ values 11 (optional 17 q.accept)) (none-query q.target.query) ∙ none-optional 17 refl q.accept)))

-- Equal GETs read one path.
pub same-path : (q r : CoapRequest) → IsSameGet q r → q.target.path ≡ r.target.path
same-path q r same = sym (asked-path q) ∙ (ap (λ (m : Content). values 11 m.options) (same.2 Plainly 0 []) ∙ asked-path r)
