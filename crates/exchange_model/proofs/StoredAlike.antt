-- What is stored for a GET is stored for each of its key.
use Rattle.std.proofs.Common.{◌≡◌, ℕ, Bool, true, false, not, inl, inr, List, sym, ap, ◌∙◌}
use Rattle.std.specs.Prelude.{◌&&◌}
use Rattle.std.specs.Option.{option_map_or}
use Rattle.cache_key.specs.Keys.{CacheKey, same_key}
use Rattle.resp_cache.specs.Stored.{Stored}
use Rattle.ask_model.specs.Requests.{CoapRequest}
use Rattle.ask_model.specs.Sharing.{asked_key, asks_same, is_get}
use Rattle.history_laws.specs.Readings.{Noted}
use Rattle.history_laws.specs.Exchanges.{Begun, begun}
use Rattle.history_laws.specs.Joining.{outrun, is_joinable}
use Rattle.history_laws.specs.Observing.{outdated}
use Rattle.history_laws.specs.Storing.{IsBrought, IsCarried, IsStored}
use Rattle.exchange_model.proofs.Renewals.{renewal-alike}

joinable-by : List Noted → ℕ → Bool → CacheKey → Bool
joinable-by l o get key =
    option_map_or (λ (b : Begun). get && (is_get b.request && same_key key (asked_key b.request))) (begun l o) false && not (outrun l key.place o)

pub joinable-alike : (l : List Noted) (q r : CoapRequest) → is_get q ≡ true → is_get r ≡ true → asked_key q ≡ asked_key r → (o : ℕ) → is_joinable l q o ≡ is_joinable l r o
unfolding joinable-by
joinable-alike l q r get other keys o =
    ap (λ (g : Bool). joinable-by l o g (asked_key q)) (get ∙ sym other)
    ∙ ap (joinable-by l o (is_get r)) keys

brought-alike : (l : List Noted) (q r : CoapRequest) (s : Stored) → is_get q ≡ true → is_get r ≡ true → asked_key q ≡ asked_key r → IsBrought l r s → IsBrought l q s
brought-alike l q r s get other keys a = record {
  opening = a.opening;
  ending = a.ending;
  first = a.first;
  more = a.more;
  comes = a.comes;
  shared = joinable-alike l q r get other keys a.opening ∙ a.shared;
  newest = ap (λ (k : CacheKey). outdated l k a.first.number) keys ∙ a.newest;
  latest = λ o e w u rs comes joins fresh. a.latest o e w u rs comes (sym (joinable-alike l q r get other keys o) ∙ joins)
      (ap (λ (k : CacheKey). outdated l k u.number) (sym keys) ∙ fresh);
  entry = a.entry;
  heard_in = a.heard_in;
  heard = a.heard;
  origin = a.origin;
  list = a.list;
}

asks-alike : (q r v : CoapRequest) → is_get q ≡ true → is_get r ≡ true → asked_key q ≡ asked_key r → asks_same q v ≡ asks_same r v
asks-alike q r v get other keys =
    ap (λ (g : Bool). g && (is_get v && same_key (asked_key q) (asked_key v))) (get ∙ sym other)
    ∙ ap (λ (k : CacheKey). is_get r && (is_get v && same_key k (asked_key v))) keys

carried-alike : (l : List Noted) (q r : CoapRequest) (s : Stored) → is_get q ≡ true → is_get r ≡ true → asked_key q ≡ asked_key r → IsCarried l r s → IsCarried l q s
carried-alike l q r s get other keys a = record {
  opening = a.opening;
  first = a.first;
  more = a.more;
  carries = a.carries;
  code = a.code;
  same = asks-alike q r a.carries.exchange.request get other keys ∙ a.same;
  current = ap (λ (k : CacheKey). outrun l k.place a.opening) keys ∙ a.current;
  newest = ap (λ (k : CacheKey). outdated l k a.first.number) keys ∙ a.newest;
  alone = λ o e w u rs comes joins fresh. a.alone o e w u rs comes (sym (joinable-alike l q r get other keys o) ∙ joins)
      (ap (λ (k : CacheKey). outdated l k u.number) (sym keys) ∙ fresh);
  entry = a.entry;
  heard_in = a.heard_in;
  heard = a.heard;
  origin = a.origin;
  list = a.list;
}

pub stored-alike : (l : List Noted) (q r : CoapRequest) (s : Stored) → is_get q ≡ true → is_get r ≡ true → asked_key q ≡ asked_key r → IsStored l r s → IsStored l q s
unfolding brought-alike carried-alike
stored-alike l q r s get other keys (inl (inl a)) = inl (inl (brought-alike l q r s get other keys a.0, λ e b. a.1 e (renewal-alike l r q e other get (sym keys) b)))
stored-alike l q r s get other keys (inl (inr a)) = inl (inr (carried-alike l q r s get other keys a.0, λ e b. a.1 e (renewal-alike l r q e other get (sym keys) b)))
stored-alike l q r s get other keys (inr a) = inr (record {
  ending = a.ending;
  renewal = renewal-alike l q r a.ending get other keys a.renewal;
  latest = λ o e w u rs comes joins fresh. a.latest o e w u rs comes (sym (joinable-alike l q r get other keys o) ∙ joins)
      (ap (λ (k : CacheKey). outdated l k u.number) (sym keys) ∙ fresh);
  last = λ e b. a.last e (renewal-alike l r q e other get (sym keys) b);
  entry = a.entry;
  heard_in = a.heard_in;
  heard = a.heard;
  origin = a.origin;
  list = a.list;
  response = a.response;
})

-- the first reply of what came stands
