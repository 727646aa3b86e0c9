-- What is given up, at the endpoints alone whose timers have run out.
use Rattle.std.proofs.Common.{◌≡◌, ℕ, ◌+◌, ◌<◌, ◌≤◌, false, List, [], ◌∷◌, ◌++◌, length, drop, get_or, map, set, take, Option, None, refl, sym, ap, ◌∙◌, arith, append-nil}
use Rattle.std.specs.Option.{option_map, option_to_list}
use Rattle.std.proofs.lemmas.List.{drop-set-lt, length-set, take_all, take-map}
use Rattle.message_layer.specs.Values.{LinkState, Told}
use Rattle.exchange_model.specs.Calls.{link_due}
use Rattle.exchange_model.specs.State.{PeerLink}
use Rattle.endpoint_table.specs.declared.endpoint.Endpoint.{Endpoint}
use Rattle.endpoint_table.specs.declared.given_up.GivenUp.{GivenUp}
use Rattle.endpoint_table.specs.Dues.{due_places, timers_of}
use Rattle.endpoint_table.specs.GivenUps.{given_by, given_from, given_up_by, given_ups}
use Rattle.endpoint_table.specs.Tables.{peer_link}
use Rattle.endpoint_table.proofs.Deeds.{not-due}
use Rattle.endpoint_table.proofs.DueRows.{ended, left_due, reach, Reached}
use Rattle.endpoint_table.proofs.Given.{given-push}
use Rattle.endpoint_table.proofs.Ticked.{map-set}

none-by : (t : ℕ) (x : PeerLink) → link_due t x ≡ false → given_by t x ≡ None
none-by t x e =
    ap (λ (r : LinkState × Told). option_map (given_from x.peer) (given_up_by r.1))
    (not-due t x.link x.link.outstanding e)

abbrev pub GivenUpTo : ℕ → List Endpoint → List GivenUp → ℕ → Type 0
GivenUpTo t ys gs i = gs ≡ given_ups t (map peer_link (take i ys))

pub record GivenSoFar (t : ℕ) (ps : List ℕ) (xs ys : List Endpoint) (gs : List GivenUp)
    : Type 0 where
  pub next : ℕ
  pub within : next ≤ length ys
  pub given : GivenUpTo t ys gs next
  pub left : ps ≡ left_due t ys next
  pub same : map peer_link ys ≡ map peer_link xs

module _ (t : ℕ) (ys : List Endpoint) (gs : List GivenUp) where
  one-more : (i : ℕ) (d : Endpoint) → i < length ys
      → given_ups t (map peer_link (take (i + 1) ys))
      ≡ given_ups t (map peer_link (take i ys))
      ++ option_to_list (given_by t (peer_link (get_or ys i d)))
  one-more i d lt = given-push peer_link (given_by t) ys ys i d lt refl

  none-given : (i : ℕ) (z : Endpoint) → i < length ys → z ≡ get_or ys i z
      → link_due t (peer_link z) ≡ false → GivenUpTo t ys gs i → GivenUpTo t ys gs (i + 1)
  none-given i z lt is none h =
      let nothing : given_by t (peer_link (get_or ys i z)) ≡ None =
      ap (λ (x : Endpoint). given_by t (peer_link x)) (sym is) ∙ none-by t (peer_link z) none in
      h ∙ sym (one-more i z lt
      ∙ (ap (λ (o : Option GivenUp). given_ups t (map peer_link (take i ys)) ++ option_to_list o)
      nothing ∙ append-nil (given_ups t (map peer_link (take i ys)))))

  pub given-next : (p : ℕ) (ps : List ℕ) (xs : List Endpoint)
      → GivenSoFar t (p ∷ ps) xs ys gs → Reached t ys (GivenUpTo t ys gs) p ps
  given-next p ps xs so_far =
      reach t ys (GivenUpTo t ys gs) none-given (drop so_far.next ys) so_far.next p ps refl
      so_far.given so_far.left

  pub given-done : (xs : List Endpoint) → GivenSoFar t [] xs ys gs
      → gs ≡ given_ups t (map peer_link xs)
  given-done xs so_far =
      ended t ys (GivenUpTo t ys gs) none-given (drop so_far.next ys) so_far.next refl
      so_far.within so_far.given so_far.left
      ∙ (ap (λ (zs : List Endpoint). given_ups t (map peer_link zs))
      (take_all (length ys) ys (omega arith))
      ∙ ap (given_ups t) so_far.same)

  pub given-more : (p : ℕ) (ps : List ℕ) (xs : List Endpoint) (r d : Endpoint)
      (more : List GivenUp) → GivenSoFar t (p ∷ ps) xs ys gs
      → peer_link r ≡ peer_link (get_or ys p d)
      → more ≡ gs ++ option_to_list (given_by t (peer_link (get_or ys p d)))
      → GivenSoFar t ps xs (set ys p r) more
  given-more p ps xs r d more so_far as_before is =
      let reached = given-next p ps xs so_far in
      let zs : List Endpoint = set ys p r in
      let n : length zs ≡ length ys = length-set ys p r in
      let shown : map peer_link zs ≡ map peer_link ys = map-set peer_link ys p r d as_before in
      let taken : map peer_link (take (p + 1) ys) ≡ map peer_link (take (p + 1) zs) =
      sym (take-map peer_link (p + 1) ys)
      ∙ (ap (take (p + 1)) (sym shown) ∙ take-map peer_link (p + 1) zs) in
      record {
        next = p + 1;
        within = let lt = reached.place in omega (arith, lt, n);
        given = is
            ∙ (ap (λ (hs : List GivenUp).
            hs ++ option_to_list (given_by t (peer_link (get_or ys p d)))) reached.holds
            ∙ (sym (one-more p d reached.place) ∙ ap (given_ups t) taken));
        left = reached.left ∙ ap (λ (es : List Endpoint). due_places t (p + 1) (timers_of es))
            (sym (drop-set-lt (p + 1) ys p r (omega arith)));
        same = shown ∙ so_far.same;
      }
