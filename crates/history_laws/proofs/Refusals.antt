-- A request is refused for one of the causes that refuse requests.
use Rattle.std.proofs.Common.{◌≡◌, ℕ, Bool, true, false, List, Option, Some, None, Result, Ok, Err, inl, inr, sym, subst}
use Rattle.uri_map.specs.declared.fault.UriFault.{UriFault}
use Rattle.uri_map.specs.declared.peer.Peer.{Peer}
use Rattle.uri_map.specs.declared.target.Target.{Target}
use Rattle.uri_map.specs.Splitting.{origin_form}
use Rattle.uri_map.specs.Naming.{target_at}
use Rattle.uri_map.specs.Peers.{peer_in}
use Rattle.code_map.specs.declared.method.Method.{Method as HttpMethod}
use Rattle.code_map.specs.Methods.{method_named}
use Rattle.media_map.specs.declared.form.Form.{Form}
use Rattle.http_edge.specs.Requests.{Content as HttpRequest}
use Rattle.ask_model.specs.declared.cause.Cause.{Cause}
use Rattle.ask_model.specs.Requests.{Came, Whole, Bad, Refuses}
use Rattle.ask_model.specs.Views.{Rules}
use Rattle.ask_model.specs.Maps.{Maps, MapsMethod, MapsWrite, MapsTarget, MapsPeer, MapsBody, IsUnsent, Typing, typing_of, carried, is_refused_write}
use Rattle.history_laws.specs.Causes.{IsRefusal}

same-cause : (c d : Cause) (s t : ℕ) → Refuses c s ≡ Refuses d t → c ≡ d
same-cause c d s t e = cc

module _ (holds : Form → Form → List ℕ → List ℕ → Type 0) (takes : Form → Form → List ℕ → Type 0) where
  unsent-refusal : (typing : Typing) (body : List ℕ) (c : Cause) (status : ℕ) → IsUnsent holds takes typing body c status → IsRefusal c
  unsent-refusal typing body c status h = subst IsRefusal (sym h.0) tt

  body-refusal : (s : Rules) (r : HttpRequest) (m : HttpMethod) (t : Target) (p : Peer) (c : Cause) (status : ℕ)
      → MapsBody holds takes s r m t p (Refuses c status) → IsRefusal c
  body-refusal s r m t p c status h =
      elim h [
        | inl u ↦ unsent-refusal (typing_of s r (carried m r.body)) (carried m r.body) c status u
        | inr u ↦ subst IsRefusal (sym u.0) tt
      ]

  peer-refusal : (s : Rules) (r : HttpRequest) (m : HttpMethod) (t : Target) (p : Option Peer) (c : Cause) (status : ℕ)
      → MapsPeer holds takes s r m t p (Refuses c status) → IsRefusal c
  peer-refusal s r m t None c status h = subst IsRefusal (sym (same-cause _ _ _ _ h)) tt
  peer-refusal s r m t (Some p) c status h = body-refusal s r m t p c status h

  target-refusal : (s : Rules) (r : HttpRequest) (m : HttpMethod) (t : Result Target UriFault) (c : Cause) (status : ℕ)
      → MapsTarget holds takes s r m t (Refuses c status) → IsRefusal c
  target-refusal s r m (Ok t) c status h = peer-refusal s r m t (peer_in s.directory t) c status h
  target-refusal s r m (Err f) c status h = subst IsRefusal (sym (same-cause _ _ _ _ h)) tt

  write-refusal : (s : Rules) (r : HttpRequest) (m : HttpMethod) (b : Bool) (c : Cause) (status : ℕ)
      → MapsWrite holds takes s r m b (Refuses c status) → IsRefusal c
  write-refusal s r m true c status h = subst IsRefusal (sym (same-cause _ _ _ _ h)) tt
  write-refusal s r m false c status h = target-refusal s r m (target_at s.base (origin_form r.target)) c status h

  method-refusal : (s : Rules) (r : HttpRequest) (m : Option HttpMethod) (c : Cause) (status : ℕ)
      → MapsMethod holds takes s r m (Refuses c status) → IsRefusal c
  method-refusal s r None c status h = subst IsRefusal (sym (same-cause _ _ _ _ h)) tt
  method-refusal s r (Some m) c status h = write-refusal s r m (is_refused_write m r) c status h

  pub maps-refusal : (s : Rules) (came : Came) (c : Cause) (status : ℕ) → Maps holds takes s came (Refuses c status) → IsRefusal c
  maps-refusal s (Bad kind) c status h = subst IsRefusal (sym (same-cause _ _ _ _ h)) tt
  maps-refusal s (Whole r) c status h = method-refusal s r (method_named r.method) c status h
