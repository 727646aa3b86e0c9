-- What each endpoint gives up, by its peer.
use Rattle.std.proofs.Common.{◌≡◌, ℕ, suc, zero, ◌+◌, ◌<◌, Bool, true, false, cond, List, [], ◌∷◌, ◌++◌, length, map, take, get_or, Option, Some, None, refl, sym, ap, ◌∙◌, arith}
use Rattle.std.specs.Prelude.{◌||◌}
use Rattle.std.specs.List.{cons_option, filter_map, list_any}
use Rattle.std.specs.Option.{option_map, option_to_list}
use Rattle.uri_map.specs.declared.peer.Peer.{Peer}
use Rattle.uri_map.specs.Peers.{same_peer}
use Rattle.uri_map.proofs.CallerLemmas.{same_peer-same}
use Rattle.exchange_model.specs.Calls.{peer_of}
use Rattle.exchange_model.specs.Room.{AreApart}
use Rattle.exchange_model.specs.State.{PeerLink, link_of}
use Rattle.endpoint_table.specs.GivenUps.{given_at, given_from, given_up, given_ups}

-- one more of a list that shows as another
pub given-push : {A B C : Type 0} (f : A → B) (g : B → Option C) (xs ys : List A) (i : ℕ) (d : A)
    → i < length xs → map f ys ≡ map f xs
    → filter_map g (map f (take (i + 1) xs))
    ≡ filter_map g (map f (take i xs)) ++ option_to_list (g (f (get_or ys i d)))
given-push f g [] ys i d lt e = absurd (omega (arith, lt))
given-push f g (x ∷ xs) [] i d lt e = absurd cc
given-push f g (x ∷ xs) (y ∷ ys) zero d lt e =
    let head : f y ≡ f x = cc in
    one (g (f x)) ∙ ap (λ z. option_to_list (g z)) (sym head)
  where
    one : {C : Type 0} (o : Option C) → cons_option o [] ≡ option_to_list o
    one None = refl
    one (Some c) = refl
given-push f g (x ∷ xs) (y ∷ ys) (suc i) d lt e =
    let tail : map f ys ≡ map f xs = cc in
    let n : suc i + 1 ≡ suc (i + 1) = omega arith in
    ap (λ (k : ℕ). filter_map g (map f (take k (x ∷ xs)))) n
    ∙ (ap (λ zs. cons_option (g (f x)) zs) (given-push f g xs ys i d (omega (arith, lt)) tail)
    ∙ front (g (f x)) (filter_map g (map f (take i xs))) (option_to_list (g (f (get_or ys i d)))))
  where
    front : {C : Type 0} (o : Option C) (cs ds : List C)
        → cons_option o (cs ++ ds) ≡ cons_option o cs ++ ds
    front None cs ds = refl
    front (Some c) cs ds = refl

-- none is given up at an endpoint that isn't there
none-given : (t : ℕ) (q p : Peer) (xs : List PeerLink) → q ≡ p
    → list_any (λ (r : Peer). same_peer r q) (map peer_of xs) ≡ false
    → given_at (given_ups t xs) p ≡ None
none-given t q p [] e h = refl
none-given t q p (x ∷ xs) e h =
    by (given_up t x.link) (same_peer x.peer q) refl h (none-given t q p xs e)
  where
    by : (o : Option (List ℕ)) (b : Bool) → same_peer x.peer q ≡ b
        → (b || list_any (λ (r : Peer). same_peer r q) (map peer_of xs)) ≡ false
        → (list_any (λ (r : Peer). same_peer r q) (map peer_of xs) ≡ false
        → given_at (given_ups t xs) p ≡ None)
        → given_at (cons_option (option_map (given_from x.peer) o) (given_ups t xs)) p ≡ None
    by o true f k rest = absurd cc
    by None false f k rest = rest k
    by (Some token) false f k rest = rw (sym (ap (same_peer x.peer) e) ∙ f) (rest k)

-- the token that is listed for an endpoint is that of the message that its link gives up
pub given-is : (t : ℕ) (p : Peer) (xs : List PeerLink) → AreApart (map peer_of xs)
    → given_at (given_ups t xs) p ≡ given_up t (link_of xs p)
given-is t p [] apart = refl
given-is t p (x ∷ xs) apart =
    by (given_up t x.link) refl (same_peer x.peer p) refl (given-is t p xs apart.1)
  where
    by : (o : Option (List ℕ)) → given_up t x.link ≡ o → (b : Bool) → same_peer x.peer p ≡ b
        → given_at (given_ups t xs) p ≡ given_up t (link_of xs p)
        → given_at (cons_option (option_map (given_from x.peer) o) (given_ups t xs)) p
        ≡ given_up t (cond b x.link (link_of xs p))
    by None e true f ih =
        none-given t x.peer p xs (same_peer-same x.peer p f) apart.0 ∙ sym e
    by None e false f ih = ih
    by (Some token) e true f ih = rw (f) (sym e)
    by (Some token) e false f ih = rw (f) ih
