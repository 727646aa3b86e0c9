-- What was renewed in an entry, before and after the next one.
use Rattle.std.proofs.Common.{◌≡◌, ◌≢◌, ℕ, suc, ◌<◌, inl, inr, not, Bool, true, false, List, [], ◌∷◌, length, Option, Some, None, refl, sym, ap, subst, ◌∙◌, arith, zero, eqb, cond, append-nil}
use Rattle.std.specs.List.{AllByRecursion, Contains}
use Rattle.std.specs.Prelude.{◌&&◌, filter}
use Rattle.std.specs.Option.{option_map_or}
use Rattle.std.proofs.lemmas.Bool.{false≢true, and_parts}
use Rattle.cache_key.specs.Keys.{CacheKey, same_key}
use Rattle.resp_cache.specs.Stored.{Stored}
use Rattle.ask_model.specs.Requests.{CoapRequest}
use Rattle.ask_model.specs.Sharing.{asked_key, asked_place, is_get}
use Rattle.history_laws.specs.Readings.{Noted, at, before}
use Rattle.history_laws.specs.Responses.{Response, confirms, valid}
use Rattle.history_laws.specs.Progress.{Reply, Whole, Renewed}
use Rattle.history_laws.specs.Exchanges.{Begun, begun, End, end_here, end_of, kept, replies, turn, heard_for, Replied}
use Rattle.history_laws.specs.Joining.{asks_the_same, outrun}
use Rattle.history_laws.specs.Observing.{outdated}
use Rattle.history_laws.specs.Storing.{ComesSo, IsRenewal, first_in, is_valid_in, pieces_in, renewed_list}
use Rattle.history_laws.specs.Justified.{Legal}
use Rattle.history_laws.proofs.CallerLemmas.{begun-below, begun-keeps, contains-later, end-below, end-keeps, end-old, ended-begun, ends-renewed, EndsWrite, filter-by, kept-before, kept-listed, at-still, news-unreplied, outrun-keeps, outrun-quiet, renewed-of, renews-for, RenewsFor, some-is, stored-since, stored-told, update-news, write-outruns, replies-fit, sent-for, at-before, legal-before, ends-whole}
use Rattle.exchange_model.proofs.Came.{fresh-before, opened-by-one, one-turn}
use Rattle.exchange_model.specs.Reads.{kept_in, kept_yet}
use Rattle.coap_codec.specs.Spelling.{Content}
use Rattle.coap_codec.specs.Recognition.{is_forwardable}
use Rattle.std.proofs.lemmas.List.Elements.{filter-append}
use Rattle.history_laws.specs.Grounds.{IsToldFor}

pub renewal-below : (l : List Noted) (q : CoapRequest) (e : ℕ) → IsRenewal l q e → e < length l
renewal-below l q e a = end-below l a.opening e _ a.ended

-- What an exchange keeps rests on replies that were asked for since then, before it was opened.
pub kept-told : (l : List Noted) (o : ℕ) (b : Begun) (s : Stored) (j : ℕ) → Legal l → RenewsFor l o b s → Contains s.list j → IsToldFor l s.opening b.request j × (j < o)
kept-told l o b s j legal it has =
    let told = stored-told (suc o) l o _ b.request it.stored j (omega arith) legal it.stands it.is (kept-listed (before l o) s it.stored j it.pieces has) in
    (subst (λ (n : ℕ). IsToldFor l n b.request j) (sym (ap (λ (v : Stored). v.opening) it.pieces)) told.0, told.1)

pub kept-since : (l : List Noted) (o : ℕ) (b : Begun) (s : Stored) → Legal l → RenewsFor l o b s → s.opening < o
kept-since l o b s legal it =
    let since = stored-since (suc o) l o _ b.request it.stored (omega arith) legal it.stands it.is in
    let same = ap (λ (v : Stored). v.opening) it.pieces in
    omega (arith, since, same)

-- how its exchange was opened
pub record RenewalFor (l : List Noted) (q : CoapRequest) (e : ℕ) (a : IsRenewal l q e) : Type 0 where
  pub exchange : Begun
  pub opened : begun l a.opening ≡ Some exchange
  pub renews : RenewsFor l a.opening exchange a.kept
  pub since : a.kept.opening < a.opening
  pub first : first_in a.kept.list < length l
  pub earlier : (j : ℕ) → Contains a.kept.list j → j < a.opening

pub renewal-for : (l : List Noted) (q : CoapRequest) (e : ℕ) → Legal l → (a : IsRenewal l q e) → RenewalFor l q e a
renewal-for l q e legal a =
    let b = ended-begun l a.opening _ legal a.ended in
    let was = ends-renewed l a.opening e a.kept a.reply a.ended in
    let for_it = renews-for l a.opening b.0 a.kept legal b.1 (kept-before l e a.opening a.kept was.turned.keeps) in
    let below = begun-below l a.opening b.0 b.1 in
    record {
      exchange = b.0;
      opened = b.1;
      renews = for_it;
      since = kept-since l a.opening b.0 a.kept legal for_it;
      first = by a.kept.list (λ j has. (kept-told l a.opening b.0 a.kept j legal for_it has).1) below;
      earlier = λ j has. (kept-told l a.opening b.0 a.kept j legal for_it has).1;
    }
  where
    by : (js : List ℕ) → ((j : ℕ) → Contains js j → j < a.opening) → a.opening < length l → first_in js < length l
    by [] each below = omega (arith, below)
    by (j ∷ js) each below = let lt = each j (zero, omega arith, refl) in omega (arith, lt, below)

-- What an open exchange asks about counts from a reply before.
pub was-kept : (l : List Noted) (o : ℕ) (s : Stored) → kept_in l o ≡ Some s → kept l o ≡ Some s
was-kept l o s k = by (replies l o) k
  where
    by : (rs : List Reply) → kept_yet (kept l o) rs ≡ Some s → kept l o ≡ Some s
    by [] f = f
    by (r ∷ rs) f = absurd cc

pub kept-first : (l : List Noted) (o : ℕ) (b : Begun) (s : Stored) → Legal l → begun l o ≡ Some b → kept_in l o ≡ Some s → first_in s.list < length l
kept-first l o b s legal opened k =
    let for_it = renews-for l o b s legal opened (was-kept l o s k) in
    by s.list (λ j has. (kept-told l o b s j legal for_it has).1) (begun-below l o b opened)
  where
    by : (js : List ℕ) → ((j : ℕ) → Contains js j → j < o) → o < length l → first_in js < length l
    by [] each below = omega (arith, below)
    by (j ∷ js) each below = let lt = each j (zero, omega arith, refl) in omega (arith, lt, below)

pub kept-get : (l : List Noted) (o : ℕ) (b : Begun) (s : Stored) → Legal l → begun l o ≡ Some b → kept_in l o ≡ Some s → is_get b.request ≡ true
kept-get l o b s legal opened k = (renews-for l o b s legal opened (was-kept l o s k)).get

-- It was renewed before the newest entry.
pub was-renewed : (x : Noted) (l : List Noted) (q : CoapRequest) (e : ℕ) → (a : IsRenewal (x ∷ l) q e) → e ≢ length l
    → end_of l a.opening ≡ Some (record { number = e; how = Renewed a.kept a.reply })
was-renewed x l q e a other =
    elim (end-old (end_here (begun l a.opening) (kept l a.opening) (length l) (heard_for l a.opening) (turn l a.opening x)) (length l) (end_of l a.opening) _ a.ended) [
      | inl old ↦ old
      | inr new ↦ absurd (other (sym new.1))
    ]

pub was-same : (x : Noted) (l : List Noted) (q : CoapRequest) (e : ℕ) → Legal (x ∷ l) → (a : IsRenewal (x ∷ l) q e) → e ≢ length l → asks_the_same q (begun l a.opening) ≡ true
was-same x l q e legal a other =
    let b = ended-begun l a.opening _ legal.0 (was-renewed x l q e a other) in
    ap (asks_the_same q) (b.1 ∙ sym (begun-keeps x l a.opening b.0 b.1)) ∙ a.same

pub was-current : (x : Noted) (l : List Noted) (q : CoapRequest) (e : ℕ) → (a : IsRenewal (x ∷ l) q e) → outrun l (asked_place q) a.kept.opening ≡ false
was-current x l q e a = unrun (outrun l (asked_place q) a.kept.opening) refl
  where
    unrun : (b : Bool) → outrun l (asked_place q) a.kept.opening ≡ b → b ≡ false
    unrun false h = refl
    unrun true h = absurd (false≢true (sym a.current ∙ outrun-keeps x l (asked_place q) a.kept.opening h))

abbrev pub renewal-back : (x : Noted) (l : List Noted) (q : CoapRequest) (e : ℕ) → Legal (x ∷ l) → IsRenewal (x ∷ l) q e → e ≢ length l → IsRenewal l q e
renewal-back x l q e legal a other = record {
  opening = a.opening;
  kept = a.kept;
  reply = a.reply;
  ended = was-renewed x l q e a other;
  same = was-same x l q e legal a other;
  current = was-current x l q e a;
  newest = fresh-before x l (asked_key q) (first_in a.kept.list) a.newest;
}

-- It stands, unless a write ends at the place, or a notification counts.
pub still-same : (x : Noted) (l : List Noted) (q : CoapRequest) (e : ℕ) → Legal l → (a : IsRenewal l q e) → asks_the_same q (begun (x ∷ l) a.opening) ≡ true
still-same x l q e legal a =
    let b = ended-begun l a.opening _ legal a.ended in
    ap (asks_the_same q) (begun-keeps x l a.opening b.0 b.1 ∙ sym b.1) ∙ a.same

abbrev pub renewal-keeps : (x : Noted) (l : List Noted) (q : CoapRequest) (e : ℕ) → Legal (x ∷ l) → (EndsWrite x l (asked_place q) → ⊥)
    → ((n : ℕ) → outdated (x ∷ l) (asked_key q) n ≡ outdated l (asked_key q) n) → IsRenewal l q e → IsRenewal (x ∷ l) q e
renewal-keeps x l q e legal writes untold a = record {
  opening = a.opening;
  kept = a.kept;
  reply = a.reply;
  ended = end-keeps x l a.opening _ a.ended;
  same = still-same x l q e legal.0 a;
  current = outrun-quiet x l (asked_place q) a.kept.opening legal writes ∙ a.current;
  newest = untold (first_in a.kept.list) ∙ a.newest;
}

-- What stays renewed is as it was.
pub renewal-unwritten : (x : Noted) (l : List Noted) (q : CoapRequest) (e : ℕ) → Legal (x ∷ l) → IsRenewal (x ∷ l) q e → EndsWrite x l (asked_place q) → ⊥
renewal-unwritten x l q e legal a h =
    let f = renewal-for (x ∷ l) q e legal a in
    let since = f.since in
    let below = begun-below (x ∷ l) a.opening f.exchange f.opened in
    false≢true (sym a.current ∙ write-outruns x l (asked_place q) a.kept.opening h (omega (arith, since, below)))

-- Where no exchange ends, none does so.
pub none-renews : (x : Noted) (l : List Noted) (q : CoapRequest) → ((o : ℕ) → end_of (x ∷ l) o ≡ end_of l o) → IsRenewal (x ∷ l) q (length l) → ⊥
none-renews x l q same a = let below = end-below l a.opening (length l) _ (sym (same a.opening) ∙ a.ended) in omega (arith, below)

-- What is renewed in one entry is one.
pub record SameRenewal (o p : ℕ) (s u : Stored) (r v : Reply) : Type 0 where
  pub opening : o ≡ p
  pub kept : s ≡ u
  pub reply : r ≡ v

pub renewed-number : (l : List Noted) (o e : ℕ) (s : Stored) (r : Reply) → end_of l o ≡ Some (record { number = e; how = Renewed s r }) → r.number ≡ e
renewed-number l o e s r h = sym (ap (λ (v : Reply). v.number) (ends-renewed l o e s r h).turned.reply)

pub one-renewed : (l : List Noted) (o p e : ℕ) (s u : Stored) (r v : Reply) → Legal l → end_of l o ≡ Some (record { number = e; how = Renewed s r })
    → end_of l p ≡ Some (record { number = e; how = Renewed u v }) → SameRenewal o p s u r v
one-renewed l o p e s u r v legal a b =
    let opening = opened-by-one l o p r v legal (renewed-of l o e s r a) (renewed-of l p e u v b)
    (renewed-number l o e s r a ∙ sym (renewed-number l p e u v b)) in
    let how = inner (ap (λ (z : End). z.how) (some-is _ _ (sym a ∙ (ap (end_of l) opening ∙ b)))) in
    record { opening = opening; kept = how.0; reply = how.1 }
  where
    inner : Renewed s r ≡ Renewed u v → (s ≡ u) × (r ≡ v)
    inner h = (cc, cc)

-- Nothing comes whole in it.
pub renewed-alone : (l : List Noted) (o p e : ℕ) (s : Stored) (r : Reply) (w : Response) (rs : List Reply) → Legal l
    → end_of l o ≡ Some (record { number = e; how = Renewed s r }) → ComesSo l p e w rs → ⊥
renewed-alone l o p e s r w rs legal a (inl b) =
    let it = ends-whole l p e w rs legal b.ended in
    let mine = ends-renewed l o e s r a in
    let opening = one-turn (before l e) o p it.entry mine.turned.sending it.turned.sending mine.turned.message it.turned.message mine.turned.place it.turned.place
    (subst (λ (x : Noted). turn (before l e) o x ≡ Replied mine.turned.sending mine.turned.message mine.turned.place) (some-is _ _ (sym mine.stands ∙ it.stands)) mine.turned.is)
    it.turned.is in
    not-whole (ap (λ (z : End). z.how) (some-is _ _ (sym a ∙ (ap (end_of l) opening ∙ b.ended))))
  where
    not-whole : Renewed s r ≡ Whole w rs → ⊥
    not-whole h = cc
renewed-alone l o p e s r w rs legal a (inr u) =
    let it = ends-renewed l o e s r a in
    news-unreplied l e u.watch o it.turned.sending it.turned.message it.turned.place it.entry legal (update-news l p e w rs u) it.stands it.turned.is

-- What is renewed for a GET is so for each of its key.
alike-by : (get : Bool) (key : CacheKey) (b : Option Begun) → Bool
alike-by get key b = option_map_or (λ (b : Begun). get && (is_get b.request && same_key key (asked_key b.request))) b false

pub alike-same : (l : List Noted) (q r : CoapRequest) (o : ℕ) → is_get q ≡ true → is_get r ≡ true → asked_key q ≡ asked_key r → asks_the_same r (begun l o) ≡ true
    → asks_the_same q (begun l o) ≡ true
unfolding alike-by
alike-same l q r o get other keys same =
    ap (λ (g : Bool). alike-by g (asked_key q) (begun l o)) (get ∙ sym other)
    ∙ (ap (λ (k : CacheKey). alike-by (is_get r) k (begun l o)) keys ∙ same)

abbrev pub renewal-alike : (l : List Noted) (q r : CoapRequest) (e : ℕ) → is_get q ≡ true → is_get r ≡ true → asked_key q ≡ asked_key r → IsRenewal l r e → IsRenewal l q e
renewal-alike l q r e get other keys a = record {
  opening = a.opening;
  kept = a.kept;
  reply = a.reply;
  ended = a.ended;
  same = alike-same l q r a.opening get other keys a.same;
  current = ap (λ (k : CacheKey). outrun l k.place a.kept.opening) keys ∙ a.current;
  newest = ap (λ (k : CacheKey). outdated l k (first_in a.kept.list)) keys ∙ a.newest;
}

-- It is one for a GET.
pub renewal-get : (l : List Noted) (q : CoapRequest) (e : ℕ) → IsRenewal l q e → is_get q ≡ true
renewal-get l q e a = by (begun l a.opening) a.same
  where
    by : (v : Option Begun) → asks_the_same q v ≡ true → is_get q ≡ true
    by None h = absurd (false≢true h)
    by (Some f) h = (and_parts (is_get q) _ h).0

-- What says so is a 2.03.
pub says-valid : (v : Option (List ℕ)) (m : Content) → confirms v m ≡ true → eqb m.code valid ≡ true
says-valid None m e = absurd (false≢true e)
says-valid (Some tag) m e = (and_parts (eqb m.code valid) _ (and_parts (is_forwardable m.options) _ e).1).0

-- The 2.03 comes after the opening of its exchange.
pub renewal-after : (l : List Noted) (q : CoapRequest) (e : ℕ) → Legal l → (a : IsRenewal l q e) → a.opening < a.reply.number
renewal-after l q e legal a =
    let fits = replies-fit l a.opening a.reply legal (renewed-of l a.opening e a.kept a.reply a.ended) in
    let sent = sent-for l fits.sent_at a.opening a.reply.sending fits.peer fits.sent legal fits.first in
    let early = sent.after in
    let late = fits.after in
    omega (arith, early, late)

-- entries that stand in an older history
pub told-in : (l : List Noted) (since : ℕ) (q : CoapRequest) (j : ℕ) → IsToldFor l since q j → (y : Noted) × (at l j ≡ Some y)
told-in l since q j (inl h) = (_, ap (at l) (sym h.number) ∙ h.fits.fits.heard)
told-in l since q j (inr h) = (_, ap (at l) (sym h.number) ∙ h.fits.heard)

filter-twice : (f : ℕ → Bool) (js : List ℕ) → filter f (filter f js) ≡ filter f js
filter-twice f [] = refl
filter-twice f (j ∷ js) = by (f j) refl (filter-twice f js)
  where
    by : (b : Bool) → f j ≡ b → filter f (filter f js) ≡ filter f js → filter f (cond b (j ∷ filter f js) (filter f js)) ≡ cond b (j ∷ filter f js) (filter f js)
    by true is ih = rw (is) (ap (λ (ks : List ℕ). j ∷ ks) ih)
    by false is ih = ih

-- The pieces of what was stored are the same later.
pub pieces-before : (l : List Noted) (o : ℕ) (b : Begun) (s : Stored) → Legal l → (it : RenewsFor l o b s) → pieces_in (before l o) it.stored.list ≡ pieces_in l it.stored.list
pieces-before l o b s legal it =
    filter-by (λ (j : ℕ). not (is_valid_in (at (before l o) j))) (λ (j : ℕ). not (is_valid_in (at l j))) it.stored.list (all it.stored.list one)
  where
    one : (j : ℕ) → Contains it.stored.list j → not (is_valid_in (at (before l o) j)) ≡ not (is_valid_in (at l j))
    one j has =
        let told = stored-told (suc o) l o _ b.request it.stored j (omega arith) legal it.stands it.is has in
        let there = told-in l it.stored.opening b.request j told.0 in
        ap (λ (v : Option Noted). not (is_valid_in v)) (at-still l o j _ there.0 it.stands told.1 there.1 ∙ sym there.1)

    all : (js : List ℕ) → ((j : ℕ) → Contains js j → not (is_valid_in (at (before l o) j)) ≡ not (is_valid_in (at l j)))
        → AllByRecursion (λ (j : ℕ). not (is_valid_in (at (before l o) j)) ≡ not (is_valid_in (at l j))) js
    all [] h = tt
    all (j ∷ js) h = (h j (zero, omega arith, refl), all js (λ k has. h k (contains-later j js k has)))

-- What renewed something before an entry is no piece of it after that either.
pub pieces-since : (l : List Noted) (k : ℕ) (x : Noted) (q : CoapRequest) (e : ℕ) → Legal l → at l k ≡ Some x → (a : IsRenewal (before l k) q e) → (f : RenewalFor (before l k) q e a)
    → pieces_in l (renewed_list a.kept a.reply.number) ≡ pieces_in l f.renews.stored.list
pieces-since l k x q e legal stands a f =
    let m : List Noted = before l k in
    let legal_m = legal-before l k legal in
    let fits = replies-fit m a.opening a.reply legal_m (renewed-of m a.opening e a.kept a.reply a.ended) in
    let was = ends-renewed m a.opening e a.kept a.reply a.ended in
    let last : is_valid_in (at l a.reply.number) ≡ true =
    ap is_valid_in (at-before l k a.reply.number _ fits.heard) ∙ says-valid a.kept.response.etag a.reply.message was.turned.tells in
    let test : ℕ → Bool = λ j. not (is_valid_in (at l j)) in
    let listed : List ℕ = f.renews.stored.list in
    let same : pieces_in m listed ≡ pieces_in l listed =
    filter-by (λ (j : ℕ). not (is_valid_in (at m j))) test listed
    (each listed (λ j has.
    let told = told-in m f.renews.stored.opening f.exchange.request j
    (stored-told (suc a.opening) m a.opening _ f.exchange.request f.renews.stored j (omega arith) legal_m f.renews.stands f.renews.is has).0 in
    ap (λ (v : Option Noted). not (is_valid_in v)) (told.1 ∙ sym (at-before l k j told.0 told.1)))) in
    filter-append test a.kept.list (a.reply.number ∷ [])
    ∙ (rw (last) (append-nil (filter test a.kept.list))
    ∙ (ap (λ (v : Stored). filter test v.list) f.renews.pieces
    ∙ (ap (filter test) (pieces-before m a.opening f.exchange a.kept legal_m f.renews ∙ same) ∙ filter-twice test listed)))
  where
    each : (js : List ℕ) → ((j : ℕ) → Contains js j → not (is_valid_in (at (before l k) j)) ≡ not (is_valid_in (at l j)))
        → AllByRecursion (λ (j : ℕ). not (is_valid_in (at (before l k) j)) ≡ not (is_valid_in (at l j))) js
    each [] h = tt
    each (j ∷ js) h = (h j (zero, omega arith, refl), each js (λ i has. h i (contains-later j js i has)))
