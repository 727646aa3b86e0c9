-- What is stored begins with a piece, which counts still.
use Rattle.std.proofs.Common.{◌≡◌, inl, inr, ℕ, zero, suc, ◌<◌, ◌≤◌, Bool, true, false, cond, not, eqb, ltb, List, [], ◌∷◌, ◌++◌, length, Option, Some, None, refl, sym, ap, subst, ◌∙◌, arith}
use Rattle.std.specs.Prelude.{is_some, ◌&&◌, ◌||◌}
use Rattle.std.specs.List.{Contains, list_all}
use Rattle.std.proofs.lemmas.Bool.{false≢true, and_parts, or_parts, not-true}
use Rattle.std.proofs.lemmas.Bool.Decides.{Decides-ltb}
use Rattle.coap_codec.specs.Spelling.{Content}
use Rattle.coap_codec.specs.Recognition.{class_of, is_forwardable}
use Rattle.blockwise.specs.Downloads.{given, nothing}
use Rattle.blockwise.specs.Uploads.{begun as begun_as}
use Rattle.cache_key.specs.Keys.{CacheKey, same_key}
use Rattle.resp_cache.specs.Stored.{Stored}
use Rattle.ask_model.specs.Requests.{CoapRequest}
use Rattle.ask_model.specs.Sharing.{asked_key, asks_same, is_get}
use Rattle.history_laws.specs.Responses.{Response, is_tellable, joined, valid, whole_fetched, whole_given, whole_of}
use Rattle.history_laws.specs.Readings.{Noted, at, before}
use Rattle.history_laws.specs.Progress.{Reply, messages, numbers}
use Rattle.history_laws.specs.Exchanges.{Begun, begun}
use Rattle.history_laws.specs.Joining.{asks_the_same}
use Rattle.history_laws.specs.Observing.{outdated, outdates}
use Rattle.history_laws.specs.Storing.{ComesSo, IsAsHeard, IsStored, first_in, is_valid_in, pieces_in}
use Rattle.history_laws.specs.Justified.{Legal}
use Rattle.history_laws.proofs.CallerLemmas.{at-still, begun-below, comes-fit, ends-all, first-response, heard-of, legal-before, length-before, none-some, shared-is, stored-told}
use Rattle.exchange_model.proofs.Carried.{reply-stands}
use Rattle.exchange_model.proofs.Renewals.{renewal-for, told-in}

-- What comes for a GET is the response that its messages make.
pub whole-get : (q : CoapRequest) (m : Content) (ms : List Content) → eqb q.method 1 ≡ true → whole_of q (m ∷ ms) ≡ whole_fetched m ms
whole-get q m ms get = ap (λ (b : Bool). cond b (whole_fetched m ms) (whole_given (begun_as (length q.body) 6) (m ∷ ms))) get

pub whole-come : (l : List Noted) (o e : ℕ) (w : Response) (r : Reply) (rs : List Reply) (q : CoapRequest) → Legal l → asks_the_same q (begun l o) ≡ true
    → eqb q.method 1 ≡ true → ComesSo l o e w (r ∷ rs) → whole_fetched r.message (messages rs) ≡ Some w
whole-come l o e w r rs q legal same get (inl ends) =
    let it = ends-all l o e w (r ∷ rs) legal ends.ended in
    let alike : asks_same q it.exchange.request ≡ true = subst (λ (v : Option Begun). asks_the_same q v ≡ true) it.opened same in
    sym (whole-get it.exchange.request r.message (messages rs) (is-get it.exchange.request alike)) ∙ it.whole
  where
    is-get : (x : CoapRequest) → asks_same q x ≡ true → eqb x.method 1 ≡ true
    is-get x e =
        let b = and_parts (is_get q) (is_get x && same_key (asked_key q) (asked_key x)) e in
        let c = and_parts (is_get x) (same_key (asked_key q) (asked_key x)) b.1 in
        (and_parts (eqb x.method 1) _ c.0).0
whole-come l o e w r rs q legal same get (inr update) =
    sym (whole-get q r.message (messages rs) get)
    ∙ first-response q e update.sending update.message w (r ∷ rs) get update.whole

pub get-by : (q x : CoapRequest) → asks_same q x ≡ true → eqb q.method 1 ≡ true
get-by q x e =
    let b = and_parts (is_get q) (is_get x && same_key (asked_key q) (asked_key x)) e in
    (and_parts (eqb q.method 1) _ b.0).0

-- None of what is told whole is a 2.03.
pub tellable-not : (m : Content) → is_tellable m ≡ true → eqb m.code valid ≡ false
tellable-not m e =
    let final = and_parts (is_forwardable m.options) _ e in
    let parts = and_parts ((eqb (class_of m) 2) || ((eqb (class_of m) 4) || (eqb (class_of m) 5))) _ final.1 in
    not-true (eqb m.code valid) (and_parts (not (eqb m.code valid)) _ parts.1).0

pub all-tellable : (m : Content) (ms : List Content) (w : Response) → whole_fetched m ms ≡ Some w → list_all is_tellable (m ∷ ms) ≡ true
all-tellable m ms w e = by (list_all is_tellable (m ∷ ms) && is_some (given nothing (m ∷ ms))) refl e
  where
    by : (b : Bool) → (list_all is_tellable (m ∷ ms) && is_some (given nothing (m ∷ ms))) ≡ b → cond b (Some (joined m ms)) None ≡ Some w
        → list_all is_tellable (m ∷ ms) ≡ true
    by false is f = absurd (none-some w f)
    by true is f = (and_parts (list_all is_tellable (m ∷ ms)) _ is).0

told-first : (m : Content) (ms : List Content) (w : Response) → whole_fetched m ms ≡ Some w → eqb m.code valid ≡ false
told-first m ms w e = tellable-not m (and_parts (is_tellable m) _ (all-tellable m ms w e)).0

-- What is stored begins so.
pub record BeginsSo (l : List Noted) (js : List ℕ) : Type 0 where
  pub first : ℕ
  pub more : List ℕ
  pub is : js ≡ first ∷ more
  pub tells : is_valid_in (at l first) ≡ false

with-it : (l : List Noted) (j : ℕ) (js : List ℕ) → is_valid_in (at l j) ≡ false → pieces_in l (j ∷ js) ≡ j ∷ pieces_in l js
with-it l j js e = rw (e) refl

heard-first : (l : List Noted) (q : CoapRequest) (s : Stored) → Legal l → IsAsHeard l q s → BeginsSo l s.list
heard-first l q s legal (inl a) =
    let joined_to = shared-is l q a.opening a.shared in
    let both = and_parts (asks_the_same q (begun l a.opening)) _ a.shared in
    let fit = comes-fit l a.opening a.ending s.response (a.first ∷ a.more) a.first legal a.comes (zero, omega arith, refl) in
    let whole = whole-come l a.opening a.ending s.response a.first a.more q legal both.0 (get-by q joined_to.exchange.request joined_to.same) a.comes in
    record {
      first = a.first.number;
      more = numbers a.more;
      is = a.list;
      tells = ap is_valid_in fit.fits.heard ∙ told-first a.first.message (messages a.more) s.response whole;
    }
heard-first l q s legal (inr a) =
    let fit = reply-stands l a.opening s.response (a.first ∷ a.more) legal a.carries a.first (zero, omega arith, refl) in
    record { first = a.first.number; more = numbers a.more; is = a.list; tells = ap is_valid_in fit.heard }

pub begins-so : (fuel : ℕ) (l : List Noted) (q : CoapRequest) (s : Stored) → length l < fuel → Legal l → IsStored l q s → BeginsSo l s.list
begins-so zero l q s lt legal is = absurd (omega (arith, lt))
begins-so (suc fuel) l q s lt legal (inl it) = heard-first l q s legal (heard-of l q s it)
begins-so (suc fuel) l q s lt legal (inr it) =
    let f = renewal-for l q it.ending legal it.renewal in
    let o : ℕ = it.renewal.opening in
    let below = begun-below l o f.exchange f.opened in
    let len = length-before l o _ f.renews.stands in
    let was = begins-so fuel (before l o) f.exchange.request f.renews.stored (omega (arith, lt, below, len)) (legal-before l o legal) f.renews.is in
    let told = stored-told (suc o) l o _ f.exchange.request f.renews.stored was.first (omega arith) legal f.renews.stands f.renews.is
    (subst (λ (js : List ℕ). Contains js was.first) (sym was.is) (zero, omega arith, refl)) in
    let there = told-in l f.renews.stored.opening f.exchange.request was.first told.0 in
    record {
      first = was.first;
      more = pieces_in (before l o) was.more ++ it.renewal.reply.number ∷ [];
      is = it.list
          ∙ ap (λ (js : List ℕ). js ++ it.renewal.reply.number ∷ [])
          (ap (λ (v : Stored). v.list) f.renews.pieces ∙ (ap (pieces_in (before l o)) was.is ∙ with-it (before l o) was.first was.more was.tells));
      tells = ap is_valid_in (there.1 ∙ sym (at-still l o was.first _ there.0 f.renews.stands told.1 there.1)) ∙ was.tells;
    }

-- No notification that counts came since a later entry either.
pub outdated-later : (l : List Noted) (key : CacheKey) (a b : ℕ) → a ≤ b → outdated l key a ≡ false → outdated l key b ≡ false
outdated-later [] key a b le e = refl
outdated-later (x ∷ older) key a b le e =
    let parts = or_parts (ltb a (length older) && outdates older key x.note) (outdated older key a) e in
    by (ltb a (length older)) refl (ltb b (length older)) refl (outdates older key x.note) parts.0 (outdated-later older key a b le parts.1)
  where
    by : (c : Bool) → ltb a (length older) ≡ c → (d : Bool) → ltb b (length older) ≡ d → (z : Bool) → (c && z) ≡ false → outdated older key b ≡ false
        → ((d && z) || outdated older key b) ≡ false
    by c is false later z none ih = ih
    by true is true later false none ih = ih
    by true is true later true none ih = absurd (false≢true (sym none))
    by false is true later z none ih =
        let lt = (Decides-ltb b (length older)).0 later in
        absurd (false≢true (sym is ∙ (Decides-ltb a (length older)).1 (omega (arith, lt, le))))

first-later : (js : List ℕ) (n : ℕ) → first_in js ≤ first_in (js ++ n ∷ [])
first-later [] n = omega arith
first-later (j ∷ js) n = omega arith

-- Of what is stored none came since its first reply.
stored-newest : (l : List Noted) (q : CoapRequest) (s : Stored) → IsStored l q s → outdated l (asked_key q) (first_in s.list) ≡ false
stored-newest l q s (inl it) = by (heard-of l q s it)
  where
    by : IsAsHeard l q s → outdated l (asked_key q) (first_in s.list) ≡ false
    by (inl a) = ap (λ (js : List ℕ). outdated l (asked_key q) (first_in js)) a.list ∙ a.newest
    by (inr a) = ap (λ (js : List ℕ). outdated l (asked_key q) (first_in js)) a.list ∙ a.newest
stored-newest l q s (inr it) =
    ap (λ (js : List ℕ). outdated l (asked_key q) (first_in js)) it.list
    ∙ outdated-later l (asked_key q) (first_in it.renewal.kept.list) (first_in (it.renewal.kept.list ++ it.renewal.reply.number ∷ []))
    (first-later it.renewal.kept.list it.renewal.reply.number) it.renewal.newest

-- So of its pieces.
pub pieces-newest : (l : List Noted) (q : CoapRequest) (s : Stored) → Legal l → IsStored l q s → outdated l (asked_key q) (first_in (pieces_in l s.list)) ≡ false
pieces-newest l q s legal is =
    let it = begins-so (suc (length l)) l q s (omega arith) legal is in
    ap (λ (j : ℕ). outdated l (asked_key q) j)
    (ap (λ (js : List ℕ). first_in (pieces_in l js)) it.is ∙ (ap first_in (with-it l it.first it.more it.tells) ∙ sym (ap first_in it.is)))
    ∙ stored-newest l q s is
