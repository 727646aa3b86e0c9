-- The order of places and of keys is total, and tells apart what isn't equal.
use Rattle.std.proofs.Common.{◌≡◌, ℕ, Bool, true, false, ◌&&◌, ◌==◌, List, Option, Some, None, [], ◌∷◌, ◌<◌, length, refl, sym, ◌∙◌, arith}
use Rattle.std.specs.Cmp.{IsTotalOrder, Equal-is, nat_cmp_total, unsigned_ties, on_total, then_total, both_tied}
use Rattle.std.specs.Cmp.Lexicographic.{slice_cmp, lists_total, lists_ties, nat_list_cmp_total, options_total, texts_ties}
use Rattle.std.specs.Option.{option_cmp}
use Rattle.std.specs.declared.cmp.Ordering.TheVariants.{Greater}
use Rattle.std.specs.Ordering.{nat_cmp, is_eq}
use Rattle.std.specs.declared.net.ip_addr.IpAddr.{IpAddr}
use Rattle.std.specs.declared.net.ip_addr.IpAddr.TheVariants as Ip
use Rattle.uri_map.specs.declared.target.Host.{Host}
use Rattle.uri_map.specs.declared.target.Host.TheVariants.{Name, V4, V6}
use Rattle.cache_key.specs.declared.place.Place.{Place}
use Rattle.uri_map.specs.Peers.{same_address}
use Rattle.cache_key.specs.Keys.{CacheKey, same_texts, same_place, same_host, same_accept, same_key}
use Rattle.cache_key.specs.Order.{address_numbers, address_cmp, host_numbers, host_cmp, texts_cmp, place_cmp, key_cmp, TellsApart}
use Rattle.cache_key.proofs.Told.{places_decided, keys_decided}

texts_total : IsTotalOrder texts_cmp
texts_total = lists_total nat_list_cmp_total

address_total : IsTotalOrder address_cmp
address_total = on_total address_numbers nat_list_cmp_total

host_total : IsTotalOrder host_cmp
host_total = on_total host_numbers nat_list_cmp_total

place_total : IsTotalOrder place_cmp
place_total =
    then_total (on_total (λ (p : Place). p.peer.address) address_total)
    (then_total (on_total (λ (p : Place). p.peer.port) nat_cmp_total) (on_total (λ (p : Place). p.path) texts_total))

accept_total : IsTotalOrder (option_cmp nat_cmp)
accept_total = options_total nat_cmp_total

key_total : IsTotalOrder key_cmp
key_total =
    then_total (on_total (λ (k : CacheKey). k.place) place_total)
    (then_total (on_total (λ (k : CacheKey). k.host) host_total)
    (then_total (on_total (λ (k : CacheKey). k.query) texts_total) (on_total (λ (k : CacheKey). k.accept) accept_total)))

-- what passes for the same is what the order doesn't tell apart
address-tied : (a b : IpAddr) → same_address a b ≡ is_eq (address_cmp a b)
address-tied (Ip.V4 a) (Ip.V4 b) = texts_ties a.octets b.octets
address-tied (Ip.V6 a) (Ip.V6 b) = texts_ties a.segments b.segments
address-tied (Ip.V4 a) (Ip.V6 b) = refl
address-tied (Ip.V6 a) (Ip.V4 b) = refl

host-tied : (a b : Host) → same_host a b ≡ is_eq (host_cmp a b)
host-tied (Name a) (Name b) = texts_ties a b
host-tied (V4 a) (V4 b) = texts_ties a.octets b.octets
host-tied (V6 a) (V6 b) = texts_ties a.segments b.segments
host-tied (Name a) (V4 b) = refl
host-tied (Name a) (V6 b) = refl
host-tied (V4 a) (Name b) = refl
host-tied (V4 a) (V6 b) = refl
host-tied (V6 a) (Name b) = refl
host-tied (V6 a) (V4 b) = refl

accept-tied : (a b : Option ℕ) → same_accept a b ≡ is_eq (option_cmp nat_cmp a b)
accept-tied None None = refl
accept-tied None (Some n) = refl
accept-tied (Some m) None = refl
accept-tied (Some m) (Some n) = unsigned_ties m n

texts-tied : (a b : List (List ℕ)) → same_texts a b ≡ is_eq (texts_cmp a b)
texts-tied a b = lists_ties (slice_cmp nat_cmp) texts_ties a b

and-assoc : (a b c : Bool) → ((a && b) && c) ≡ (a && (b && c))
and-assoc true b c = refl
and-assoc false b c = refl

place-tied : (p q : Place) → same_place p q ≡ is_eq (place_cmp p q)
place-tied p q =
    and-assoc (same_address p.peer.address q.peer.address) (p.peer.port == q.peer.port) (same_texts p.path q.path)
    ∙ both_tied _ _ (address_cmp p.peer.address q.peer.address) _ (address-tied p.peer.address q.peer.address)
    (both_tied _ _ (nat_cmp p.peer.port q.peer.port) (texts_cmp p.path q.path) (unsigned_ties p.peer.port q.peer.port) (texts-tied p.path q.path))

key-tied : (k l : CacheKey) → same_key k l ≡ is_eq (key_cmp k l)
key-tied k l =
    both_tied _ _ (place_cmp k.place l.place) _ (place-tied k.place l.place)
    (both_tied _ _ (host_cmp k.host l.host) _ (host-tied k.host l.host)
    (both_tied _ _ (texts_cmp k.query l.query) (option_cmp nat_cmp k.accept l.accept) (texts-tied k.query l.query) (accept-tied k.accept l.accept)))

pub places_apart : TellsApart place_cmp
places_apart = record {
  total = place_total;
  equal = λ p q. (
    λ e. (places_decided p q).0 (place-tied p q ∙ (Equal-is (place_cmp p q)).1 e),
    λ e. (Equal-is (place_cmp p q)).0 (sym (place-tied p q) ∙ (places_decided p q).1 e),
  );
}

pub keys_apart : TellsApart key_cmp
keys_apart = record {
  total = key_total;
  equal = λ k l. (
    λ e. (keys_decided k l).0 (key-tied k l ∙ (Equal-is (key_cmp k l)).1 e),
    λ e. (Equal-is (key_cmp k l)).0 (sym (key-tied k l) ∙ (keys_decided k l).1 e),
  );
}

-- a list before those that it begins
pub longer_after : (a b : List (List ℕ)) → 0 < length a → length b ≡ 0 → Greater ≡ texts_cmp a b
longer_after [] b some none = absurd (omega (arith, some))
longer_after (x ∷ xs) [] some none = refl
longer_after (x ∷ xs) (y ∷ ys) some none = absurd (omega (arith, none))
