-- What is stored after exchanges have ended without a response.
use Rattle.std.proofs.Common.{◌≡◌, ℕ, ◌⊎◌, zero, inl, inr, Bool, true, false, cond, eqb, List, [], ◌∷◌, length, Option, Some, None, refl, sym, subst, ◌∙◌, arith}
use Rattle.std.specs.Prelude.{◌&&◌, filter}
use Rattle.std.specs.List.{AllByRecursion, Contains}
use Rattle.std.proofs.lemmas.Bool.{false≢true}
use Rattle.cache_key.specs.Keys.{CacheKey}
use Rattle.resp_cache.specs.Stores.{is_of, is_elsewhere}
use Rattle.resp_cache.specs.declared.pair.Pair.{Pair}
use Rattle.ask_model.specs.Requests.{CoapRequest}
use Rattle.ask_model.specs.Sharing.{asked_key, asked_place, is_get}
use Rattle.history_laws.specs.Responses.{Response}
use Rattle.history_laws.specs.Readings.{Noted}
use Rattle.history_laws.specs.Progress.{Reply, Whole, Renewed}
use Rattle.history_laws.specs.Exchanges.{end_of}
use Rattle.history_laws.specs.Justified.{Ends, Legal}
use Rattle.history_laws.specs.Observing.{counting}
use Rattle.history_laws.specs.Storing.{ComesSo, IsRenewal, IsRenewing}
use Rattle.history_laws.proofs.CallerLemmas.{contains-later, all-more, contains-none, first-or-later, none-some, some-is}
use Rattle.exchange_model.specs.Reads.{AreLastFirst, HasPair, StoreIn, PairIn, Reads}
use Rattle.exchange_model.specs.declared.kept.Exchange.{Exchange}
use Rattle.exchange_model.specs.State.{State}
use Rattle.exchange_model.specs.Matters.{asked_in}
use Rattle.exchange_model.specs.Hearing.{put_by, settled_by, settled, retired}
use Rattle.exchange_model.proofs.Carried.{IsOwn}
use Rattle.exchange_model.proofs.Came.{none-updates}
use Rattle.exchange_model.proofs.Watches.{outdated-quiet}
use Rattle.exchange_model.proofs.Storing.{stored-earlier, stored-unwritten, stored-was, pair-stays}
use Rattle.exchange_model.proofs.Stores.{every}
use Rattle.exchange_model.proofs.Uses.{crowded-stays, has-filtered, NotServing, order-filter, order-stays, order-weaker, own-quiet, unserved, Unused}
use Rattle.exchange_model.proofs.Outrun.{EndsThose}
use Rattle.exchange_model.proofs.Settling.{all-kept, Apart, unwritten, is-away, was-going, now-going}
use Rattle.resp_cache.specs.Stored.{Stored}

module _ (x : Noted) (l : List Noted) (S : State) (r : Reads l S) (legal : Legal (x ∷ l)) where
  -- what comes of those that store nothing

  settled-none : (P : Pair → Type 0) (e : Exchange) (ps : List Pair) → AllByRecursion P ps → AllByRecursion (λ (p : Pair). P p × Apart x l S r legal e p) (settled S.entries (Some e) None ps)
  settled-none P e ps a = by (asked_in S.entries e.ask) refl
    where
      stays : (q : CoapRequest) → asked_in S.entries e.ask ≡ Some q → eqb q.method 1 ≡ true → AllByRecursion (λ (p : Pair). P p × Apart x l S r legal e p) ps
      stays q is get = all-more P (λ (p : Pair). P p × Apart x l S r legal e p)
          (λ p h. (h, λ u i other. absurd (false≢true (sym other ∙ subst (λ (k : CoapRequest). eqb k.method 1 ≡ true) (some-is q u (sym is ∙ i)) get)))) ps a

      either : (b : Bool) → AllByRecursion (λ (p : Pair). P p × Apart x l S r legal e p) ps → AllByRecursion (λ (p : Pair). P p × Apart x l S r legal e p) (cond b ps ps)
      either true h = h
      either false h = h

      of : (q : CoapRequest) → asked_in S.entries e.ask ≡ Some q → (b : Bool) → eqb q.method 1 ≡ b
          → AllByRecursion (λ (p : Pair). P p × Apart x l S r legal e p) (cond b (cond (is_get q && e.current) (put_by None (asked_key q) ps) ps) (filter (is_elsewhere (asked_place q)) ps))
      of q is true get = either (is_get q && e.current) (stays q is get)
      of q is false write = all-more (λ (p : Pair). P p × (is_elsewhere (asked_place q) p ≡ true)) (λ (p : Pair). P p × Apart x l S r legal e p)
          (λ p h. (h.0, λ u i other. subst (λ (k : CoapRequest). is_elsewhere (asked_place k) p ≡ true) (some-is q u (sym is ∙ i)) h.1)) (filter (is_elsewhere (asked_place q)) ps)
          (all-kept P (is_elsewhere (asked_place q)) ps a)

      by : (v : Option CoapRequest) → asked_in S.entries e.ask ≡ v → AllByRecursion (λ (p : Pair). P p × Apart x l S r legal e p) (settled_by v e.current None ps)
      by None is = all-more P (λ (p : Pair). P p × Apart x l S r legal e p) (λ p h. (h, λ q i. absurd (none-some q (sym is ∙ i)))) ps a
      by (Some q) is = of q is (eqb q.method 1) refl

  retired-all : (P : Pair → Type 0) (over : List Exchange) (ps : List Pair) → AllByRecursion P ps
      → AllByRecursion (λ (p : Pair). P p × ((e : Exchange) → Contains over e → Apart x l S r legal e p)) (retired S.entries over ps)
  retired-all P [] ps a = all-more P (λ (p : Pair). P p × ((e : Exchange) → Contains [] e → Apart x l S r legal e p)) (λ p h. (h, λ e has. absurd (contains-none e has))) ps a
  retired-all P (e ∷ es) ps a =
      let later = retired-all (λ (p : Pair). P p × Apart x l S r legal e p) es (settled S.entries (Some e) None ps) (settled-none P e ps a) in
      all-more (λ (p : Pair). (P p × Apart x l S r legal e p) × ((f : Exchange) → Contains es f → Apart x l S r legal f p)) (λ (p : Pair). P p × ((f : Exchange) → Contains (e ∷ es) f → Apart x l S r legal f p))
      (λ p h. (h.0.0, λ f has. one p h f (first-or-later e es f has))) (retired S.entries es (settled S.entries (Some e) None ps)) later
    where
      one : (p : Pair) → (P p × Apart x l S r legal e p) × ((f : Exchange) → Contains es f → Apart x l S r legal f p) → (f : Exchange) → (e ≡ f) ⊎ Contains es f → Apart x l S r legal f p
      one p h f (inl same) = subst (λ (g : Exchange). Apart x l S r legal g p) same h.0.1
      one p h f (inr has) = h.1 f has

  settled-order : (e : Exchange) (b : ℕ) (ps : List Pair) → AreLastFirst l b ps → AreLastFirst l b (settled S.entries (Some e) None ps)
  settled-order e b ps a = by (asked_in S.entries e.ask)
    where
      either : (c : Bool) → AreLastFirst l b (cond c ps ps)
      either true = a
      either false = a

      of : (q : CoapRequest) (c : Bool) → AreLastFirst l b (cond c (cond (is_get q && e.current) (put_by None (asked_key q) ps) ps) (filter (is_elsewhere (asked_place q)) ps))
      of q true = either (is_get q && e.current)
      of q false = order-filter l b (is_elsewhere (asked_place q)) ps a

      by : (v : Option CoapRequest) → AreLastFirst l b (settled_by v e.current None ps)
      by None = a
      by (Some q) = of q (eqb q.method 1)

  retired-order : (over : List Exchange) (b : ℕ) (ps : List Pair) → AreLastFirst l b ps → AreLastFirst l b (retired S.entries over ps)
  retired-order [] b ps a = a
  retired-order (e ∷ es) b ps a = retired-order es b (settled S.entries (Some e) None ps) (settled-order e b ps a)

  abbrev Away : Exchange → CacheKey → Type 0
  Away e key = (w : CoapRequest) → asked_in S.entries e.ask ≡ Some w → eqb w.method 1 ≡ false → (p : Pair) → is_of key p ≡ true → is_elsewhere (asked_place w) p ≡ true

  settled-has : (e : Exchange) (key : CacheKey) (ps : List Pair) → Away e key → HasPair ps key → HasPair (settled S.entries (Some e) None ps) key
  settled-has e key ps away h = by (asked_in S.entries e.ask) refl
    where
      either : (c : Bool) → HasPair (cond c ps ps) key
      either true = h
      either false = h

      of : (q : CoapRequest) → asked_in S.entries e.ask ≡ Some q → (c : Bool) → eqb q.method 1 ≡ c
          → HasPair (cond c (cond (is_get q && e.current) (put_by None (asked_key q) ps) ps) (filter (is_elsewhere (asked_place q)) ps)) key
      of q is true k = either (is_get q && e.current)
      of q is false k = has-filtered key (is_elsewhere (asked_place q)) ps (away q is k) h

      by : (v : Option CoapRequest) → asked_in S.entries e.ask ≡ v → HasPair (settled_by v e.current None ps) key
      by None is = h
      by (Some q) is = of q is (eqb q.method 1) refl

  retired-has : (over : List Exchange) (key : CacheKey) (ps : List Pair) → ((e : Exchange) → Contains over e → Away e key) → HasPair ps key → HasPair (retired S.entries over ps) key
  retired-has [] key ps away h = h
  retired-has (e ∷ es) key ps away h = retired-has es key (settled S.entries (Some e) None ps) (λ f has. away f (contains-later e es f has))
      (settled-has e key ps (away e (zero, omega arith, refl)) h)

  -- so where nothing that is renewed may be stored
  pub store-left : (over : List Exchange) → EndsThose x l S over → counting l x.note ≡ None → NotServing x.written.deed x.note
      → ((o : ℕ) (w : Response) (rs : List Reply) → end_of l o ≡ None → Ends (x ∷ l) o (length l) (Whole w rs) → ⊥)
      → ((k : CoapRequest) → IsRenewal (x ∷ l) k (length l) → ⊥) → ((key : CacheKey) → IsRenewing (x ∷ l) (length l) key → ⊥)
      → StoreIn (x ∷ l) (retired S.entries over S.store)
  store-left over ends silent quiet none unrenewed unrenewing = record {
    pairs = all-more (λ (p : Pair). PairIn l p × ((e : Exchange) → Contains over e → Apart x l S r legal e p)) (PairIn (x ∷ l))
        (λ p h. pair-stays x l legal p h.0 (record {
          own = own;
          unwritten = unwritten x l S r legal over ends p h.0 h.1;
          untold = λ n. outdated-quiet x l (asked_key h.0.request) n silent;
          unanswered = λ o w r rs comes joins fresh. none-come o w (r ∷ rs) comes;
          unrenewed = unrenewed h.0.request;
        }))
        (retired S.entries over S.store) (retired-all (PairIn l) over S.store r.store_is.pairs);
    order = order-weaker (x ∷ l) (length l) (length (x ∷ l)) (retired S.entries over S.store) (omega arith)
        (order-stays x l (length l) (retired S.entries over S.store) legal own (every (λ (p : Pair). Unused x l p.key) (λ p. unused p.key) (retired S.entries over S.store))
        (retired-order over (length l) S.store r.store_is.order));
    kept = λ q s is lasts. elim (r.store_is.kept q s (stored-was x l q s legal own (stored-unwritten x l q s legal own is) is (stored-earlier x l q s none-come (unrenewed q) is)) lasts) [
      | inl has ↦ inl (retired-has over (asked_key q) S.store (λ e in_over w at write p of_q. is-away x l S r legal over ends q (stored-unwritten x l q s legal own is) e in_over w at write p of_q) has)
      | inr out ↦ inr (crowded-stays x l (asked_key q) legal own (unused (asked_key q)) out)
    ];
  }
    where
      own : IsOwn x
      own = own-quiet x quiet

      none-come : (o : ℕ) (w : Response) (rs : List Reply) → ComesSo (x ∷ l) o (length l) w rs → ⊥
      none-come o w rs (inl so) = none o w rs (was-going x l S r legal o (length l) w rs so refl) so.ended
      none-come o w rs (inr u) = none-updates x l o w rs silent u

      unused : (key : CacheKey) → Unused x l key
      unused key (inl u) = unserved x l key quiet u
      unused key (inr (inl u)) = none-come u.opening u.response (u.first ∷ u.more) u.comes
      unused key (inr (inr u)) = unrenewing key u

  -- Exchanges that end with no whole response leave what is stored elsewhere.
  pub store-retired : (over : List Exchange) → EndsThose x l S over → counting l x.note ≡ None → NotServing x.written.deed x.note
      → ((o : ℕ) (w : Response) (rs : List Reply) → end_of l o ≡ None → Ends (x ∷ l) o (length l) (Whole w rs) → ⊥)
      → ((o : ℕ) (s : Stored) (r : Reply) → end_of l o ≡ None → Ends (x ∷ l) o (length l) (Renewed s r) → ⊥)
      → StoreIn (x ∷ l) (retired S.entries over S.store)
  store-retired over ends silent quiet none never =
      store-left over ends silent quiet none
      (λ k a. never a.opening a.kept a.reply (now-going x l S r legal a.opening (length l) (Renewed a.kept a.reply) a.ended refl) a.ended)
      (λ key u. never u.opening u.kept u.reply (now-going x l S r legal u.opening (length l) (Renewed u.kept u.reply) u.ended refl) u.ended)
