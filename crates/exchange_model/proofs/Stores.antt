-- What is stored after an entry that ends no exchange.
use Rattle.std.proofs.Common.{[], is_some, ◌≡◌, ◌≢◌, ℕ, ◌⊎◌, inl, inr, Bool, true, false, not, List, ◌∷◌, length, Option, Some, None, refl, sym, ap, subst, ◌∙◌, arith}
use Rattle.std.specs.List.{Contains, AllByRecursion}
use Rattle.std.specs.Prelude.{find}
use Rattle.std.proofs.lemmas.Bool.{false≢true, and_parts, or_right}
use Rattle.cache_key.specs.Keys.{CacheKey, same_key}
use Rattle.cache_key.proofs.CallerLemmas.{keys_decided}
use Rattle.resp_cache.specs.Stored.{Stored, is_fresh, is_never_fresh}
use Rattle.resp_cache.specs.Stores.{is_of, is_of_another, is_fresh_under, moved, others, served, stored_in, with_first}
use Rattle.resp_cache.specs.declared.pair.Pair.{Pair}
use Rattle.ask_model.specs.Requests.{CoapRequest, Requests}
use Rattle.ask_model.specs.Sharing.{asked_key}
use Rattle.ask_model.specs.Views.{Ask}
use Rattle.journal_book.specs.Entries.{Asks}
use Rattle.history_laws.specs.Carrying.{carried}
use Rattle.history_laws.specs.Exchanges.{Begun, begun, openings, end_of}
use Rattle.history_laws.specs.Joining.{asks_the_same}
use Rattle.history_laws.specs.Readings.{Noted, Serves, carries, noted}
use Rattle.history_laws.specs.Observing.{counting}
use Rattle.history_laws.specs.Storing.{IsStored, IsCrowdedOut}
use Rattle.history_laws.specs.Justified.{Legal}
use Rattle.history_laws.proofs.CallerLemmas.{begun-listed, contains-none, all-filter, all-more, all-of, all-passes, at-new, find-some, none-some}
use Rattle.exchange_model.specs.Reads.{PairIn, IsLastUse, HasPair, StoreIn}
use Rattle.exchange_model.proofs.Carried.{IsOwn}
use Rattle.exchange_model.proofs.Came.{none-comes}
use Rattle.exchange_model.proofs.Storing.{pairs-stay, spares-all, stored-earlier, stored-was}
use Rattle.exchange_model.proofs.Uses.{crowded-stays, has-filtered, NotServing, order-filter, order-stays, order-weaker, own-quiet, served-key, Unused, unused-still, use-below}
use Rattle.exchange_model.proofs.Renewals.{none-renews}

-- Where nothing was opened, and no ask is carried, nothing is stored.
pub no-store : (l : List Noted) → openings l ≡ [] → ((o : ℕ) → carried l o ≡ None) → StoreIn l []
no-store l none bare = record { pairs = tt; order = tt; kept = λ q s is lasts. absurd (unstored q s is) }
  where
    was : (q : CoapRequest) (v : Option Begun) → asks_the_same q v ≡ true → is_some v ≡ true
    was q None e = absurd (false≢true e)
    was q (Some b) e = refl

    unstored : (q : CoapRequest) (s : Stored) → IsStored l q s → ⊥
    unstored q s (inl (inr is)) = none-some is.0.carries.exchange (sym (bare is.0.opening) ∙ is.0.carries.asked)
    unstored q s (inl (inl is)) = contains-none is.0.opening (subst (λ (os : List ℕ). Contains os is.0.opening) none
        (begun-listed l is.0.opening (was q (begun l is.0.opening) (and_parts (asks_the_same q (begun l is.0.opening)) _ is.0.shared).0)))
    unstored q s (inr is) = contains-none is.renewal.opening (subst (λ (os : List ℕ). Contains os is.renewal.opening) none
        (begun-listed l is.renewal.opening (was q (begun l is.renewal.opening) is.renewal.same)))

-- all of a kind
pub every : {X : Type 0} (P : X → Type 0) → ((x : X) → P x) → (xs : List X) → AllByRecursion P xs
every P h [] = tt
every P h (x ∷ xs) = (h x, every P h xs)

module _ (x : Noted) (l : List Noted) (legal : Legal (x ∷ l)) (same : (o : ℕ) → end_of (x ∷ l) o ≡ end_of l o) (silent : counting l x.note ≡ None) where
  -- It was stored before.
  was-stored : IsOwn x → (q : CoapRequest) (s : Stored) → IsStored (x ∷ l) q s → IsStored l q s
  was-stored own q s a = stored-was x l q s legal own (spares-all x l q own same silent).unwritten a
      (stored-earlier x l q s (λ o w rs comes. none-comes x l o w rs (same o) silent comes) (λ r. none-renews x l q same r) a)

  -- one that serves nothing
  pub store-still : NotServing x.written.deed x.note → (ps : List Pair) → StoreIn l ps → StoreIn (x ∷ l) ps
  store-still quiet ps a = record {
    pairs = pairs-stay x l legal (own-quiet x quiet) same silent ps a.pairs;
    order = order-weaker (x ∷ l) (length l) (length (x ∷ l)) ps (omega arith)
        (order-stays x l (length l) ps legal (own-quiet x quiet) (every (λ (p : Pair). Unused x l p.key) (λ p. unused-still x l same silent quiet p.key) ps) a.order);
    kept = λ q s is lasts. elim (a.kept q s (was-stored (own-quiet x quiet) q s is) lasts) [
      | inl has ↦ inl has
      | inr out ↦ inr (crowded-stays x l (asked_key q) legal (own-quiet x quiet) (unused-still x l same silent quiet (asked_key q)) out)
    ];
  }

  -- one that serves what is stored for its request
  module _ (t c : ℕ) (a : Ask) (q : CoapRequest) (js : List ℕ) (is : x ≡ noted t (Asks c a) (Serves js)) (sense : a.sense ≡ Requests q) where
    asks : (r : CoapRequest) → a.sense ≡ Requests r → asked_key r ≡ asked_key q
    asks r e = ap asked_key (same-request (sym e ∙ sense))
      where
        same-request : Requests r ≡ Requests q → r ≡ q
        same-request h = cc

    -- Of other keys nothing is used.
    other-unused : (key : CacheKey) → key ≢ asked_key q → Unused x l key
    other-unused key other u = other (served-key x l t c a js (asked_key q) key is same silent asks u)

    own : IsOwn x
    own = ap (λ (y : Noted). carries y.written.deed) is

    in-front : (p : Pair) → p.key ≡ asked_key q → IsLastUse (x ∷ l) (length l) p.key
    in-front p e = record {
      used = inl (record {
        moment = t;
        conn = c;
        ask = a;
        replies = js;
        stands = at-new x l ∙ ap Some is;
        request = q;
        sense = sense;
        is = sym e;
      });
      last = λ m u. let below = use-below (x ∷ l) m p.key u in omega (arith, below);
    }

    pub store-served : (s : Stored) (ps : List Pair) → StoreIn l ps → served (asked_key q) t ps ≡ Some s → StoreIn (x ∷ l) (moved (asked_key q) t ps)
    store-served s ps h e = by (find (is_fresh_under (asked_key q) t) ps) refl e
      where
        by : (v : Option Pair) → find (is_fresh_under (asked_key q) t) ps ≡ v → stored_in v ≡ Some s → StoreIn (x ∷ l) (with_first v ps)
        by None found e = absurd (none-some s e)
        by (Some p) found e =
            let it = find-some (is_fresh_under (asked_key q) t) ps p found in
            let key : p.key ≡ asked_key q = (keys_decided p.key (asked_key q)).0 (and_parts (same_key p.key (asked_key q)) (is_fresh t p.stored) it.1).0 in
            let all : AllByRecursion (PairIn (x ∷ l)) ps = pairs-stay x l legal own same silent ps h.pairs in
            record {
              pairs = (all-of (PairIn (x ∷ l)) ps p all it.0, all-filter (PairIn (x ∷ l)) (is_of_another p.key) ps all);
              order = inl (
                length l,
                omega arith,
                in-front p key,
                order-stays x l (length l) (others p.key ps) legal own
                    (all-more (λ (r : Pair). is_of_another p.key r ≡ true) (λ (r : Pair). Unused x l r.key)
                    (λ r apart. other-unused r.key (λ same_as. differs r p apart (same_as ∙ sym key))) (others p.key ps) (all-passes (is_of_another p.key) ps))
                    (order-filter l (length l) (is_of_another p.key) ps h.order),
              );
              kept = λ r u stored lasts. kept r u p key stored lasts (same_key p.key (asked_key r)) refl;
            }
          where
            differs : (r p : Pair) → is_of_another p.key r ≡ true → r.key ≡ p.key → ⊥
            differs r p apart e = not-both (same_key r.key p.key) apart ((keys_decided r.key p.key).1 e)
              where
                not-both : (b : Bool) → not b ≡ true → b ≡ true → ⊥
                not-both true f g = false≢true f
                not-both false f g = false≢true g

            kept : (r : CoapRequest) (u : Stored) (p : Pair) → p.key ≡ asked_key q → IsStored (x ∷ l) r u → is_never_fresh u ≡ false → (b : Bool) → same_key p.key (asked_key r) ≡ b
                → HasPair (p ∷ others p.key ps) (asked_key r) ⊎ IsCrowdedOut (x ∷ l) (asked_key r)
            kept r u p key stored lasts true is_it = inl (rw (is_it) refl)
            kept r u p key stored lasts false other = elim (h.kept r u (was-stored own r u stored) lasts) [
              | inl has ↦ inl (or_right (same_key p.key (asked_key r)) _ (has-filtered (asked_key r) (is_of_another p.key) ps (λ z of_r. another z of_r) has))
              | inr out ↦ inr (crowded-stays x l (asked_key r) legal own (other-unused (asked_key r) (λ e. false≢true (sym other ∙ (keys_decided p.key (asked_key r)).1 (key ∙ sym e)))) out)
            ]
              where
                another : (z : Pair) → is_of (asked_key r) z ≡ true → is_of_another p.key z ≡ true
                another z of_r = flip (same_key z.key p.key) refl
                  where
                    flip : (b : Bool) → same_key z.key p.key ≡ b → not b ≡ true
                    flip false k = refl
                    flip true k = absurd (false≢true (sym other ∙ (keys_decided p.key (asked_key r)).1
                        (sym ((keys_decided z.key p.key).0 k) ∙ (keys_decided z.key (asked_key r)).0 of_r)))
