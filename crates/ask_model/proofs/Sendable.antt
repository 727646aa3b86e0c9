-- A request that is a mapping can be sent.
use Rattle.std.proofs.Common.{◌≡◌, ℕ, ◌≤◌, Bool, true, false, ◌&&◌, nat_lt, List, [], ◌∷◌, length, Option, Some, None, Result, Ok, Err, refl, sym, ◌∙◌, ap, subst, arith}
use Rattle.std.proofs.lemmas.Bool.{or_parts, ltb-false}
use Rattle.media_map.specs.declared.form.Form.{Form}
use Rattle.code_map.specs.declared.method.Method.{Method}
use Rattle.code_map.specs.declared.method.Method.TheVariants as M
use Rattle.code_map.specs.Methods.{method_named, request_code, writes}
use Rattle.uri_map.specs.declared.fault.UriFault.{UriFault}
use Rattle.uri_map.specs.declared.peer.Peer.{Peer}
use Rattle.uri_map.specs.declared.target.Target.{Target}
use Rattle.uri_map.specs.Limits.{fits, uri_options}
use Rattle.uri_map.specs.Naming.{target_at}
use Rattle.uri_map.specs.Peers.{peer_in}
use Rattle.uri_map.specs.Splitting.{origin_form}
use Rattle.uri_map.proofs.CallerLemmas.{reached}
use Rattle.http_edge.specs.Requests.{Content as HttpRequest}
use Rattle.ask_model.specs.declared.cause.Cause.{Cause}
use Rattle.ask_model.specs.declared.meaning.Meaning.{Meaning}
use Rattle.ask_model.specs.Requests.{CoapRequest, Came, Whole, Bad, Sense, Requests, Refuses}
use Rattle.ask_model.specs.Views.{Rules, body_of, sense_of}
use Rattle.ask_model.specs.Maps.{Maps, MapsMethod, MapsWrite, MapsTarget, MapsPeer, MapsBody, Becomes, Typing, Untyped, Typed, Routed, Untypable, typing_of, carried, is_conditional, is_refused_write}
use Rattle.ask_model.specs.Datagrams.{IsSendable}
use Rattle.ask_model.proofs.Codes.{code_is_not_zero}

-- a refusal sends nothing
refused : (sense : Sense) (cause : Cause) (status : ℕ) → sense ≡ Refuses cause status → IsSendable sense
refused sense cause status e = subst IsSendable (sym e) tt

carried_short : (m : Method) (r : HttpRequest) → is_refused_write m r ≡ false → length (carried m r.body) ≤ 65536
carried_short m r e = ltb-false 65536 (length (carried m r.body)) (or_parts (writes m && is_conditional r) (nat_lt 65536 (length (carried m r.body))) e).1

module _ (holds : Form → Form → List ℕ → List ℕ → Type 0) (takes : Form → Form → List ℕ → Type 0) where
  nothing : (s : Rules) (r : HttpRequest) (body : List ℕ) (format : Option ℕ) (payload : List ℕ) → body ≡ []
      → Becomes holds takes (typing_of s r body) body format payload → payload ≡ []
  nothing s r [] format payload e h = h.1
  nothing s r (b ∷ body) format payload e h = absurd cc

  -- what a body becomes that keeps the limit keeps it too
  becomes_short : (typing : Typing) (body : List ℕ) (format : Option ℕ) (payload : List ℕ) → length body ≤ 65536 → Becomes holds takes typing body format payload → length payload ≤ 65536
  becomes_short Untyped body format payload short h = omega (arith, ap length h.1, short)
  becomes_short (Typed n) body format payload short h = omega (arith, ap length h.1, short)
  becomes_short (Routed from n) body format payload short h = h.2
  becomes_short Untypable body format payload short h = absurd h

  -- a GET, as which a HEAD goes too, has no body
  get_empty : (s : Rules) (r : HttpRequest) (m : Method) (body : List ℕ) (format : Option ℕ) (payload : List ℕ) → request_code m ≡ 1 → body ≡ carried m r.body
      → Becomes holds takes (typing_of s r body) body format payload → payload ≡ []
  get_empty s r M.Get body format payload e is h = nothing s r body format payload is h
  get_empty s r M.Head body format payload e is h = nothing s r body format payload is h
  get_empty s r M.Post body format payload e is h = absurd cc
  get_empty s r M.Put body format payload e is h = absurd cc
  get_empty s r M.Delete body format payload e is h = absurd cc

  by_body : (s : Rules) (r : HttpRequest) (m : Method) (t : Target) (p : Peer) (sense : Sense) → is_refused_write m r ≡ false → fits (uri_options t) ≡ true → MapsBody holds takes s r m t p sense → IsSendable sense
  by_body s r m t p (Requests q) short within h =
      record {
        code = λ zero. code_is_not_zero m (sym h.0 ∙ zero);
        target = ap (λ u. fits (uri_options u)) h.1 ∙ within;
        get = λ one. get_empty s r m (carried m r.body) q.format q.body (sym h.0 ∙ one) refl h.3;
        body = becomes_short (typing_of s r (carried m r.body)) (carried m r.body) q.format q.body (carried_short m r short) h.3;
      }
  by_body s r m t p (Refuses cause status) short within h = tt

  by_peer : (s : Rules) (r : HttpRequest) (m : Method) (t : Target) (p : Option Peer) (sense : Sense) → is_refused_write m r ≡ false → fits (uri_options t) ≡ true → MapsPeer holds takes s r m t p sense → IsSendable sense
  by_peer s r m t None sense short within h = refused sense Cause.NoMap 501 h
  by_peer s r m t (Some p) sense short within h = by_body s r m t p sense short within h

  by_target : (s : Rules) (r : HttpRequest) (m : Method) (base text : List ℕ) (x : Result Target UriFault) (sense : Sense) → is_refused_write m r ≡ false → target_at base text ≡ x → MapsTarget holds takes s r m x sense → IsSendable sense
  by_target s r m base text (Err f) sense short at_text h = refused sense Cause.NoMap _ h
  by_target s r m base text (Ok t) sense short at_text h = by_peer s r m t (peer_in s.directory t) sense short (reached base text t at_text).limits h

  by_write : (s : Rules) (r : HttpRequest) (m : Method) (b : Bool) (sense : Sense) → is_refused_write m r ≡ b → MapsWrite holds takes s r m b sense → IsSendable sense
  by_write s r m true sense e h = refused sense Cause.Method 501 h
  by_write s r m false sense e h = by_target s r m s.base (origin_form r.target) (target_at s.base (origin_form r.target)) sense e refl h

  by_method : (s : Rules) (r : HttpRequest) (m : Option Method) (sense : Sense) → MapsMethod holds takes s r m sense → IsSendable sense
  by_method s r None sense h = refused sense Cause.Method 501 h
  by_method s r (Some m) sense h = by_write s r m (is_refused_write m r) sense refl h

  pub mapped_sendable : (s : Rules) (came : Came) (sense : Sense) → Maps holds takes s came sense → IsSendable sense
  mapped_sendable s (Bad kind) sense h = refused sense Cause.BadHttp _ h
  mapped_sendable s (Whole r) sense h = by_method s r (method_named r.method) sense h

  -- so its body keeps the limit of bodies
  pub mapped_short : (s : Rules) (came : Came) (sense : Sense) (q : CoapRequest) → Maps holds takes s came sense → sense ≡ Requests q → length q.body ≤ 65536
  mapped_short s came sense q h e = by sense e (mapped_sendable s came sense h)
    where
      by : (sense : Sense) → sense ≡ Requests q → IsSendable sense → length q.body ≤ 65536
      by (Requests r) e h = subst (λ (r : CoapRequest). length r.body ≤ 65536) (same r e) h.body
        where
          same : (r : CoapRequest) → Requests r ≡ Requests q → r ≡ q
          same r e = cc
      by (Refuses cause status) e h = absurd cc

  -- the same, of a meaning with the body that it speaks of
  pub meaning_sendable : (s : Rules) (came : Came) (sense : Sense) (meaning : Meaning) (body : List ℕ) → Maps holds takes s came sense → sense_of meaning (body_of came) ≡ sense → body ≡ body_of came → IsSendable (sense_of meaning body)
  meaning_sendable s came sense meaning body h is same = rw (same, is) (mapped_sendable s came sense h)
