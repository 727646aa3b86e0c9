-- What comes under the tokens of watches, before and after a first sending.
use Rattle.std.proofs.Common.{◌≡◌, ℕ, ◌<◌, Bool, true, false, List, [], ◌∷◌, length, Option, refl, sym, ap, subst, ◌∙◌, arith}
use Rattle.std.specs.Prelude.{◌||◌}
use Rattle.std.specs.List.{Contains, list_any}
use Rattle.coap_codec.specs.Spelling.{Content}
use Rattle.uri_map.specs.declared.peer.Peer.{Peer}
use Rattle.history_laws.specs.Readings.{Noted}
use Rattle.history_laws.specs.Transmissions.{first_at}
use Rattle.history_laws.specs.Observing.{sending_of, watched, watches}
use Rattle.history_laws.specs.Hearing.{went_under}
use Rattle.history_laws.specs.Justified.{Legal}
use Rattle.history_laws.proofs.CallerLemmas.{at-below, contains-later, contains-mapped, watch-fits}
use Rattle.history_links.specs.Agrees.{awaits, notified, expects}
use Rattle.history_links.proofs.Sent.{first-other, sent}

any-alike : (f g : ℕ → Bool) (xs : List ℕ) → ((i : ℕ) → Contains xs i → f i ≡ g i) → list_any f xs ≡ list_any g xs
any-alike f g [] same = refl
any-alike f g (x ∷ xs) same = rw (same x (0, omega arith, refl), any-alike f g xs (λ i h. same i (contains-later x xs i h))) refl

watch-below : (l : List Noted) (i : ℕ) → Legal l → Contains (watched l) i → i < length l
watch-below l i legal h =
    let it = contains-mapped sending_of (watches l) i h in
    let fits = watch-fits l it.0 legal it.1 in
    subst (λ (i : ℕ). i < length l) it.2 (at-below l it.0.sending _ fits.first.stands)

pub notified-sent : (l : List Noted) (t : ℕ) (p r : Peer) (b : List ℕ) (w : Option ℕ) (o : ℕ) (m : Content) (token : List ℕ) → Legal l
    → notified (sent t r b w o m ∷ l) p token ≡ notified l p token
notified-sent l t p r b w o m token legal =
    any-alike (λ (i : ℕ). went_under p token (first_at (sent t r b w o m ∷ l) i)) (λ (i : ℕ). went_under p token (first_at l i)) (watched l)
    (λ i h. ap (went_under p token) (first-other l t r b w o m i (watch-below l i legal h)))

or-turn : (a b c : Bool) → ((a || b) || c) ≡ ((a || c) || b)
or-turn true b c = refl
or-turn false true true = refl
or-turn false true false = refl
or-turn false false c = sym (or-no c)
  where
    or-no : (c : Bool) → (c || false) ≡ c
    or-no true = refl
    or-no false = refl

-- A first sending to another peer leaves what is expected, and one to the peer adds its token.
pub expects-other : (l : List Noted) (t : ℕ) (p r : Peer) (b : List ℕ) (w : Option ℕ) (o : ℕ) (m : Content) (token : List ℕ) → Legal l
    → awaits (sent t r b w o m ∷ l) p token ≡ awaits l p token → expects (sent t r b w o m ∷ l) p token ≡ expects l p token
expects-other l t p r b w o m token legal same =
    ap (λ (v : Bool). v || notified (sent t r b w o m ∷ l) p token) same ∙ ap (λ (v : Bool). awaits l p token || v) (notified-sent l t p r b w o m token legal)

pub expects-more : (l : List Noted) (t : ℕ) (p : Peer) (b : List ℕ) (w : Option ℕ) (o : ℕ) (m : Content) (token : List ℕ) (new : Bool) → Legal l
    → awaits (sent t p b w o m ∷ l) p token ≡ (awaits l p token || new) → expects (sent t p b w o m ∷ l) p token ≡ (expects l p token || new)
expects-more l t p b w o m token new legal more =
    ap (λ (v : Bool). v || notified (sent t p b w o m ∷ l) p token) more
    ∙ (ap (λ (v : Bool). (awaits l p token || new) || v) (notified-sent l t p p b w o m token legal)
    ∙ or-turn (awaits l p token) new (notified l p token))
