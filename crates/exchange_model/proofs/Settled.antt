-- What is stored after an exchange has ended.
use Rattle.std.proofs.Common.{◌≡◌, ℕ, ◌⊎◌, zero, inl, inr, Bool, true, false, not, cond, eqb, List, [], ◌∷◌, length, map, Option, Some, None, refl, sym, ap, subst, ◌∙◌, arith}
use Rattle.exchange_model.proofs.Pieces.{behind-stays}
use Rattle.std.specs.Prelude.{◌==◌, ◌&&◌, filter}
use Rattle.std.specs.List.{AllByRecursion, Contains}
use Rattle.std.proofs.lemmas.Bool.{false≢true, and_parts}
use Rattle.std.proofs.lemmas.Bool.Decides.{Decides-eqb}
use Rattle.cache_key.specs.Keys.{CacheKey, same_key, same_place}
use Rattle.cache_key.specs.declared.place.Place.{Place}
use Rattle.cache_key.proofs.CallerLemmas.{keys_decided}
use Rattle.resp_cache.specs.Stored.{lifetime, Stored, is_never_fresh, stored_of}
use Rattle.resp_cache.specs.Stores.{is_elsewhere}
use Rattle.resp_cache.specs.declared.pair.Pair.{Pair}
use Rattle.ask_model.specs.Requests.{CoapRequest}
use Rattle.ask_model.specs.Sharing.{asked_key, asked_place, asks_same, is_get}
use Rattle.ask_model.proofs.CallerLemmas.{same-key, same-place}
use Rattle.history_laws.specs.Storing.{ComesSo, IsBrought, IsStored, IsUse, IsCrowdedOut, content, EndsSo}
use Rattle.history_laws.specs.Observing.{counting, outdated}
use Rattle.history_laws.specs.Readings.{Noted}
use Rattle.history_laws.specs.Responses.{Response}
use Rattle.history_laws.specs.Progress.{Reply, numbers, Ending, Whole, NotUnderstood, Reset, TimedOut, Turned, Renewed}
use Rattle.history_laws.specs.Exchanges.{Begun, begun, End, end_of, ask_behind}
use Rattle.history_laws.specs.Joining.{asks_the_same, outrun, is_joinable}
use Rattle.history_laws.specs.Justified.{Ends, Legal}
use Rattle.history_laws.proofs.CallerLemmas.{before-new, all-more, begun-keeps, contains-none, EndsWrite, first-or-later, outrun-keeps, outrun-quiet, some-is}
use Rattle.exchange_model.specs.Reads.{AreLastFirst, HasPair, StoreIn, ExchangeIn, PairIn, Reads}
use Rattle.exchange_model.specs.declared.kept.Exchange.{Exchange}
use Rattle.exchange_model.specs.State.{State}
use Rattle.exchange_model.specs.Matters.{asked_in, content_by, moment_in}
use Rattle.exchange_model.specs.Hearing.{newest_by, newest_content, put_by, settled_by, settled}
use Rattle.exchange_model.proofs.Bare.{bare, bare_ending, numbers-bare}
use Rattle.exchange_model.proofs.Brought.{Brings, brought-arrives, store-arrived}
use Rattle.exchange_model.proofs.Carried.{IsOwn}
use Rattle.exchange_model.proofs.Came.{fresh-before, none-updates}
use Rattle.exchange_model.proofs.Watches.{outdated-quiet}
use Rattle.exchange_model.proofs.Storing.{IsEarlier, stored-unwritten, stored-was, stored-when, pair-stays, IsNow}
use Rattle.exchange_model.proofs.Stores.{every}
use Rattle.exchange_model.proofs.Uses.{crowded-stays, has-filtered, NotServing, order-filter, order-stays, order-weaker, unserved, Unused}
use Rattle.exchange_model.proofs.Outrun.{asked-here, EndsThose}
use Rattle.exchange_model.proofs.Settling.{all-kept, first-stands, no-whole, rests-on-some, whole-is, true-not, kept, is-ended, request-is, write-of, unwritten, is-away, was-going, now-going}

newest-bare : (rs : List Reply) (b : Bool) → newest_by (map bare rs) b ≡ newest_by rs b
newest-bare [] b = refl
newest-bare (f ∷ []) b = refl
newest-bare (f ∷ g ∷ rs) b = refl

module _ (x : Noted) (l : List Noted) (S : State) (r : Reads l S) (legal : Legal (x ∷ l)) where
  -- the exchange that ends alone, by which nothing else is told
  module _ (e : Exchange) (has : Contains S.exchanges e) (ends : EndsThose x l S (e ∷ [])) (real : Ending) (came : Ends (x ∷ l) e.opening (length l) real)
      (silent : counting l x.note ≡ None) (own : IsOwn x) (plain : (u : Stored) (v : Reply) → real ≡ Renewed u v → ⊥) where
    abbrev a : ExchangeIn r.start l e
    a = kept x l S r legal e has

    abbrev q : CoapRequest
    q = a.request

    only : (g : Exchange) → Contains (e ∷ []) g → e ≡ g
    only g h = by (first-or-later e [] g h)
      where
        by : (e ≡ g) ⊎ Contains [] g → e ≡ g
        by (inl same) = same
        by (inr none) = absurd (contains-none g none)

    -- What answers a pair's request now is this one, and may.
    record Answers (p : Pair) (b : PairIn l p) : Type 0 where
      pub same : asks_same b.request q ≡ true
      pub current : e.current ≡ true

    answers : (p : Pair) (b : PairIn l p) (o : ℕ) (w : Response) (rs : List Reply) → end_of l o ≡ None → EndsSo (x ∷ l) o (length l) w rs → is_joinable (x ∷ l) b.request o ≡ true
        → Answers p b × (e.opening ≡ o)
    answers p b o w rs going so joins =
        let g = is-ended x l S r legal (e ∷ []) ends o _ going so.ended in
        let at_o : e.opening ≡ o = ap (λ (f : Exchange). f.opening) (only g.0 g.1) ∙ g.2 in
        let both = and_parts (asks_the_same b.request (begun (x ∷ l) o)) (not (outrun (x ∷ l) (asked_place b.request) o)) joins in
        let opened : begun (x ∷ l) o ≡ Some (record { since = e.since; request = q }) = begun-keeps x l o _ (subst (λ (k : ℕ). begun l k ≡ Some (record { since = e.since; request = q })) at_o a.opening) in
        let same : asks_same b.request q ≡ true = subst (λ (u : Option Begun). asks_the_same b.request u ≡ true) opened both.0 in
        let fresh : not (outrun (x ∷ l) (asked_place q) e.opening) ≡ true = subst (λ (k : ℕ). not (outrun (x ∷ l) (asked_place q) k) ≡ true) (sym at_o) (subst (λ (k : Place). not (outrun (x ∷ l) k o) ≡ true) (same-place b.request q same) both.1) in
        (record { same = same; current = a.current ∙ current (outrun l (asked_place q) e.opening) refl fresh }, at_o)
      where
        current : (c : Bool) → outrun l (asked_place q) e.opening ≡ c → not (outrun (x ∷ l) (asked_place q) e.opening) ≡ true → not c ≡ true
        current true is fresh = absurd (true-not (outrun (x ∷ l) (asked_place q) e.opening) fresh (outrun-keeps x l (asked_place q) e.opening is))
        current false is fresh = refl

    get-of : (p : Pair) (b : PairIn l p) → Answers p b → is_get q ≡ true
    get-of p b h = (and_parts (is_get q) (same_key (asked_key b.request) (asked_key q)) ((and_parts (is_get b.request) (is_get q && same_key (asked_key b.request) (asked_key q)) h.same).1)).0

    method-of : is_get q ≡ true → eqb q.method 1 ≡ true
    method-of get = (and_parts (eqb q.method 1) _ get).0

    -- What comes now comes by its end.
    ends-only : (o : ℕ) (w : Response) (rs : List Reply) → ComesSo (x ∷ l) o (length l) w rs → EndsSo (x ∷ l) o (length l) w rs
    ends-only o w rs (inl so) = so
    ends-only o w rs (inr u) = absurd (none-updates x l o w rs silent u)

    -- Nothing is renewed now.
    no-renewal : (o : ℕ) (u : Stored) (v : Reply) → Ends (x ∷ l) o (length l) (Renewed u v) → ⊥
    no-renewal o u v ended =
        let g = is-ended x l S r legal (e ∷ []) ends o _ (now-going x l S r legal o (length l) (Renewed u v) ended refl) ended in
        let at_o : e.opening ≡ o = ap (λ (f : Exchange). f.opening) (only g.0 g.1) ∙ g.2 in
        plain u v (ap (λ (z : End). z.how) (some-is _ _ (sym came ∙ (ap (end_of (x ∷ l)) at_o ∙ ended))))

    -- a pair that this neither writes to nor replaces
    spared : (p : Pair) (b : PairIn l p) → (EndsWrite x l (asked_place b.request) → ⊥)
        → ((w : Response) (f : Reply) (rs : List Reply) → EndsSo (x ∷ l) e.opening (length l) w (f ∷ rs) → Answers p b → outdated (x ∷ l) (asked_key b.request) f.number ≡ false → ⊥)
        → PairIn (x ∷ l) p
    spared p b writes none = pair-stays x l legal p b (record {
      own = own;
      unwritten = writes;
      untold = λ n. outdated-quiet x l (asked_key b.request) n silent;
      unanswered = λ o w f rs comes joins fresh.
          let so = ends-only o w (f ∷ rs) comes in
          let it = answers p b o w (f ∷ rs) (was-going x l S r legal o (length l) w (f ∷ rs) so refl) so joins in
          none w f rs (subst (λ (k : ℕ). EndsSo (x ∷ l) k (length l) w (f ∷ rs)) (sym it.1) so) it.0 fresh;
      unrenewed = λ a. no-renewal a.opening a.kept a.reply a.ended;
    })

    -- A GET writes nothing.
    gets : eqb q.method 1 ≡ true → (place : Place) → EndsWrite x l place → ⊥
    gets get place h =
        let g = write-of x l S r legal (e ∷ []) ends place h in
        let request : q ≡ g.2.request = some-is q g.2.request (sym (asked-here l S r e a) ∙ (ap (λ (f : Exchange). asked_in S.entries f.ask) (only g.0 g.1) ∙ asked-here l S r g.0 g.2)) in
        let both = and_parts (not (eqb g.2.request.method 1)) (same_place place (asked_place g.2.request)) g.3 in
        true-not (eqb g.2.request.method 1) both.0 (subst (λ (k : CoapRequest). eqb k.method 1 ≡ true) request get)

    -- Equal GETs may be answered with it.
    joins-now : is_get q ≡ true → e.current ≡ true → is_joinable (x ∷ l) q e.opening ≡ true
    joins-now get current = subst (λ (u : Option Begun). (asks_the_same q u && not (outrun (x ∷ l) (asked_place q) e.opening)) ≡ true) (sym (begun-keeps x l e.opening _ a.opening)) joins
      where
        itself : asks_same q q ≡ true
        itself = rw (get, (keys_decided (asked_key q) (asked_key q)).1 refl) refl

        fresh : outrun (x ∷ l) (asked_place q) e.opening ≡ false
        fresh = outrun-quiet x l (asked_place q) e.opening legal (gets (method-of get) (asked_place q)) ∙ unrun (outrun l (asked_place q) e.opening) (sym a.current ∙ current)
          where
            unrun : (b : Bool) → not b ≡ true → b ≡ false
            unrun true h = absurd (false≢true h)
            unrun false h = refl

        joins : (asks_same q q && not (outrun (x ∷ l) (asked_place q) e.opening)) ≡ true
        joins = rw (itself, fresh) refl

    -- What uses its key now stores what it came to.
    module _ (quiet : NotServing x.written.deed x.note) where
      same-entry : (o : ℕ) (w : Response) (rs : List Reply) → ComesSo (x ∷ l) o (length l) w rs → e.opening ≡ o
      same-entry o w rs comes =
          let so = ends-only o w rs comes in
          let g = is-ended x l S r legal (e ∷ []) ends o _ (was-going x l S r legal o (length l) w rs so refl) so.ended in
          ap (λ (f : Exchange). f.opening) (only g.0 g.1) ∙ g.2

      -- what it stores
      record Uses : Type 0 where
        response : Response
        first : Reply
        more : List Reply
        so : EndsSo (x ∷ l) e.opening (length l) response (first ∷ more)
        get : is_get q ≡ true
        current : e.current ≡ true
        fresh : outdated (x ∷ l) (asked_key q) first.number ≡ false
        lasts : (lifetime response.max_age == 0) ≡ false

      uses : (key : CacheKey) → IsUse (x ∷ l) (length l) key → Uses
      uses key (inl u) = absurd (unserved x l key quiet u)
      uses key (inr (inr u)) = absurd (no-renewal u.opening u.kept u.reply u.ended)
      uses key (inr (inl u)) =
          let at_o = same-entry u.opening u.response (u.first ∷ u.more) u.comes in
          let opened : Some (record { since = u.since; request = u.request }) ≡ Some (record { since = e.since; request = q }) =
          sym u.opened ∙ (ap (begun (x ∷ l)) (sym at_o) ∙ begun-keeps x l e.opening _ a.opening) in
          let request : u.request ≡ q = request-is x l S r legal _ _ opened in
          let key_is : asked_key q ≡ key = ap asked_key (sym request) ∙ u.is in
          let fresh : outrun l (asked_place q) e.opening ≡ false =
          subst (λ (o : ℕ). outrun l (asked_place q) o ≡ false) (sym at_o)
          (subst (λ (k : CacheKey). outrun l k.place u.opening ≡ false) (sym key_is)
          (sym (ap (λ (older : List Noted). outrun older key.place u.opening) (before-new x l)) ∙ u.current)) in
          record {
            response = u.response;
            first = u.first;
            more = u.more;
            so = subst (λ (o : ℕ). EndsSo (x ∷ l) o (length l) u.response (u.first ∷ u.more)) (sym at_o) (ends-only u.opening u.response (u.first ∷ u.more) u.comes);
            get = ap is_get (sym request) ∙ u.get;
            current = a.current ∙ ap not fresh;
            fresh = outdated-quiet x l (asked_key q) u.first.number silent
                ∙ (ap (λ (k : CacheKey). outdated l k u.first.number) key_is
                ∙ (sym (ap (λ (older : List Noted). outdated older key u.first.number) (before-new x l)) ∙ u.newest));
            lasts = u.lasts;
          }

      -- what is stored anew is its own
      anew : (k : CoapRequest) (s : Stored) → (is : IsBrought (x ∷ l) k s) → is.ending ≡ length l → is_never_fresh s ≡ false → Uses
      anew k s is now lasts =
          let comes = subst (λ (n : ℕ). ComesSo (x ∷ l) is.opening n s.response (is.first ∷ is.more)) now is.comes in
          let so = ends-only is.opening s.response (is.first ∷ is.more) comes in
          let at_o = same-entry is.opening s.response (is.first ∷ is.more) comes in
          let both = and_parts (asks_the_same k (begun (x ∷ l) is.opening)) (not (outrun (x ∷ l) (asked_place k) is.opening)) is.shared in
          let opened : begun (x ∷ l) is.opening ≡ Some (record { since = e.since; request = q }) = ap (begun (x ∷ l)) (sym at_o) ∙ begun-keeps x l e.opening _ a.opening in
          let same : asks_same k q ≡ true = subst (λ (u : Option Begun). asks_the_same k u ≡ true) opened both.0 in
          let fresh : not (outrun (x ∷ l) (asked_place q) e.opening) ≡ true = subst (λ (o : ℕ). not (outrun (x ∷ l) (asked_place q) o) ≡ true) (sym at_o)
          (subst (λ (z : Place). not (outrun (x ∷ l) z is.opening) ≡ true) (same-place k q same) both.1) in
          record {
            response = s.response;
            first = is.first;
            more = is.more;
            so = subst (λ (o : ℕ). EndsSo (x ∷ l) o (length l) s.response (is.first ∷ is.more)) (sym at_o) so;
            get = get-by k same;
            current = a.current ∙ unrun (outrun l (asked_place q) e.opening) refl fresh;
            fresh = ap (λ (z : CacheKey). outdated (x ∷ l) z is.first.number) (sym (same-key k q same)) ∙ is.newest;
            lasts = lasts;
          }
        where
          unrun : (c : Bool) → outrun l (asked_place q) e.opening ≡ c → not (outrun (x ∷ l) (asked_place q) e.opening) ≡ true → not c ≡ true
          unrun true is fresh = absurd (true-not (outrun (x ∷ l) (asked_place q) e.opening) fresh (outrun-keeps x l (asked_place q) e.opening is))
          unrun false is fresh = refl

          get-by : (k : CoapRequest) → asks_same k q ≡ true → is_get q ≡ true
          get-by k same = (and_parts (is_get q) (same_key (asked_key k) (asked_key q)) ((and_parts (is_get k) (is_get q && same_key (asked_key k) (asked_key q)) same).1)).0

      -- What was stored before stays so, or is crowded out.
      before-it : (k : CoapRequest) (s : Stored) → (is : IsStored (x ∷ l) k s) → is_never_fresh s ≡ false → IsEarlier x l k s is → HasPair S.store (asked_key k) ⊎ IsCrowdedOut l (asked_key k)
      before-it k s is lasts earlier = r.store_is.kept k s (stored-was x l k s legal own (stored-unwritten x l k s legal own is) is earlier) lasts

      -- where nothing is stored
      still-all : (ps : List Pair) → AllByRecursion (PairIn (x ∷ l)) ps → AreLastFirst l (length l) ps → (Uses → ⊥)
          → ((k : CoapRequest) (s : Stored) → IsStored (x ∷ l) k s → HasPair S.store (asked_key k) → HasPair ps (asked_key k))
          → StoreIn (x ∷ l) ps
      still-all ps pairs order none has = record {
        pairs = pairs;
        order = order-weaker (x ∷ l) (length l) (length (x ∷ l)) ps (omega arith)
            (order-stays x l (length l) ps legal own (every (λ (p : Pair). Unused x l p.key) (λ p u. none (uses p.key u)) ps) order);
        kept = λ k s is lasts. kept_so k s is lasts (stored-when x l k s is);
      }
        where
          kept_so : (k : CoapRequest) (s : Stored) → (is : IsStored (x ∷ l) k s) → is_never_fresh s ≡ false
              → IsNow x l k s ⊎ IsEarlier x l k s is
              → HasPair ps (asked_key k) ⊎ IsCrowdedOut (x ∷ l) (asked_key k)
          kept_so k s is lasts (inl (inl now)) = absurd (none (anew k s now.0 now.1 lasts))
          kept_so k s is lasts (inl (inr now)) =
              absurd (no-renewal now.0.renewal.opening now.0.renewal.kept now.0.renewal.reply (subst (λ (n : ℕ). Ends (x ∷ l) now.0.renewal.opening n (Renewed now.0.renewal.kept now.0.renewal.reply)) now.1 now.0.renewal.ended))
          kept_so k s is lasts (inr earlier) = elim (before-it k s is lasts earlier) [
            | inl had ↦ inl (has k s is had)
            | inr out ↦ inr (crowded-stays x l (asked_key k) legal own (λ u. none (uses (asked_key k) u)) out)
          ]

      -- a write
      written : eqb q.method 1 ≡ false → StoreIn (x ∷ l) (filter (is_elsewhere (asked_place q)) S.store)
      written write = still-all (filter (is_elsewhere (asked_place q)) S.store)
          (all-more (λ (p : Pair). PairIn l p × (is_elsewhere (asked_place q) p ≡ true)) (PairIn (x ∷ l))
          (λ p h. spared p h.0 (unwritten x l S r legal (e ∷ []) ends p h.0 (λ g in_e u is other. away p h.1 g in_e u is))
          (λ w f rs so it fresh. false≢true (sym write ∙ method-of (get-of p h.0 it)))) (filter (is_elsewhere (asked_place q)) S.store)
          (all-kept (PairIn l) (is_elsewhere (asked_place q)) S.store r.store_is.pairs))
          (order-filter l (length l) (is_elsewhere (asked_place q)) S.store r.store_is.order)
          (λ u. false≢true (sym write ∙ method-of u.get))
          (λ k s is had. has-filtered (asked_key k) (is_elsewhere (asked_place q)) S.store
          (is-away x l S r legal (e ∷ []) ends k (stored-unwritten x l k s legal own is) e (zero, omega arith, refl) q (asked-here l S r e a) write) had)
        where
          away : (p : Pair) → is_elsewhere (asked_place q) p ≡ true → (g : Exchange) → Contains (e ∷ []) g → (u : CoapRequest) → asked_in S.entries g.ask ≡ Some u → is_elsewhere (asked_place u) p ≡ true
          away p h g in_e u is = subst (λ (k : CoapRequest). is_elsewhere (asked_place k) p ≡ true)
              (some-is q u (sym (asked-here l S r e a) ∙ (ap (λ (f : Exchange). asked_in S.entries f.ask) (only g in_e) ∙ is))) h

      -- a GET that comes to nothing that is stored
      stays : eqb q.method 1 ≡ true
          → ((w : Response) (f : Reply) (rs : List Reply) → EndsSo (x ∷ l) e.opening (length l) w (f ∷ rs) → is_get q ≡ true → e.current ≡ true → outdated (x ∷ l) (asked_key q) f.number ≡ false → ⊥)
          → StoreIn (x ∷ l) S.store
      stays get none = still-all S.store
          (all-more (PairIn l) (PairIn (x ∷ l)) (λ p b. spared p b (gets get (asked_place b.request))
          (λ w f rs so it fresh. none w f rs so (get-of p b it) it.current (ap (λ (z : CacheKey). outdated (x ∷ l) z f.number) (sym (same-key b.request q it.same)) ∙ fresh))) S.store r.store_is.pairs)
          r.store_is.order (λ u. none u.response u.first u.more u.so u.get u.current u.fresh) (λ k s is had. had)

      other-than : (u : Ending) → Ends (x ∷ l) e.opening (length l) u → ((w : Response) (rs : List Reply) → u ≡ Whole w rs → ⊥) → eqb q.method 1 ≡ true → StoreIn (x ∷ l) S.store
      other-than u c none get = stays get (λ w f rs so g k fresh. no-whole (length l) u w (f ∷ rs) (none w (f ∷ rs)) (sym c ∙ so.ended))

      -- one whose response is stored, or takes out what was
      brings : is_get q ≡ true → e.current ≡ true → (w : Response) (first : Reply) (more : List Reply) → Ends (x ∷ l) e.opening (length l) (Whole w (first ∷ more)) → w.code ≡ content
          → outdated (x ∷ l) (asked_key q) first.number ≡ false → Brings x l q e.opening w first more
      brings is_g current w first more c code fresh = let stands = first-stands x l S r legal e.opening w first more c in record {
        comes = inl (record { ended = c; code = code });
        get = is_g;
        since = e.since;
        opened = begun-keeps x l e.opening _ a.opening;
        joins = joins-now is_g current;
        fresh = fresh;
        current = unrun (outrun l (asked_place q) e.opening) (sym a.current ∙ current);
        newest = fresh-before x l (asked_key q) first.number fresh;
        entry = stands.entry;
        stands = stands.stands;
      }
        where
          unrun : (b : Bool) → not b ≡ true → b ≡ false
          unrun true h = absurd (false≢true h)
          unrun false h = refl

      -- It goes back to its ask.
      back : ask_behind (x ∷ l) e.opening ≡ e.ask
      back = behind-stays x l e.opening _ a.opening ∙ a.behind

      put : eqb q.method 1 ≡ true → is_get q ≡ true → e.current ≡ true → (w : Response) (first : Reply) (more : List Reply) → Ends (x ∷ l) e.opening (length l) (Whole w (first ∷ more)) → w.code ≡ content
          → outdated (x ∷ l) (asked_key q) first.number ≡ false
          → StoreIn (x ∷ l) (put_by (Some (stored_of w e.ask (moment_in S.entries x.written.moment first.number) (numbers (first ∷ more)))) (asked_key q) S.store)
      unfolding brings
      put get is_g current w first more c code fresh =
          subst (λ (o : ℕ). StoreIn (x ∷ l) (put_by (Some (stored_of w o (moment_in S.entries x.written.moment first.number) (numbers (first ∷ more)))) (asked_key q) S.store)) back
          (subst (λ (t : ℕ). StoreIn (x ∷ l) (put_by (Some (stored_of w (ask_behind (x ∷ l) e.opening) t (numbers (first ∷ more)))) (asked_key q) S.store))
          (sym (first-stands x l S r legal e.opening w first more c).moment)
          (store-arrived x l S r legal quiet q _ (brought-arrives x l legal quiet q e.opening w first more (brings is_g current w first more c code fresh)) (gets get) (λ key other n. outdated-quiet x l key n silent)))

      comes : eqb q.method 1 ≡ true → is_get q ≡ true → e.current ≡ true → (u : Ending) → Ends (x ∷ l) e.opening (length l) u
          → ((w : Response) (first : Reply) (more : List Reply) → u ≡ Whole w (first ∷ more) → outdated (x ∷ l) (asked_key q) first.number ≡ not (newest_by (first ∷ more) e.newest))
          → StoreIn (x ∷ l) (put_by (newest_content S.entries x.written.moment e (bare_ending u)) (asked_key q) S.store)
      comes get is_g current (Renewed u v) c fresh = absurd (no-renewal e.opening u v c)
      comes get is_g current NotUnderstood c fresh = other-than NotUnderstood c (λ w rs f. absurd (cc (f))) get
      comes get is_g current Reset c fresh = other-than Reset c (λ w rs f. absurd (cc (f))) get
      comes get is_g current TimedOut c fresh = other-than TimedOut c (λ w rs f. absurd (cc (f))) get
      comes get is_g current Turned c fresh = other-than Turned c (λ w rs f. absurd (cc (f))) get
      comes get is_g current (Whole w []) c fresh = absurd (rests-on-some (x ∷ l) e.opening (length l) w legal c)
      comes get is_g current (Whole w (first ∷ more)) c fresh =
          subst (λ (b : Bool). StoreIn (x ∷ l) (put_by (cond b (content_by S.entries x.written.moment e.ask (bare_ending (Whole w (first ∷ more)))) None) (asked_key q) S.store))
          (sym (newest-bare (first ∷ more) e.newest)) (newest-or (newest_by (first ∷ more) e.newest) (fresh w first more refl))
        where
          coded : (b : Bool) → eqb w.code content ≡ b → outdated (x ∷ l) (asked_key q) first.number ≡ false
              → StoreIn (x ∷ l) (put_by (cond b (Some (stored_of w e.ask (moment_in S.entries x.written.moment first.number) (numbers (map bare (first ∷ more))))) None) (asked_key q) S.store)
          coded true same f =
              subst (λ (ns : List ℕ). StoreIn (x ∷ l) (put_by (Some (stored_of w e.ask (moment_in S.entries x.written.moment first.number) ns)) (asked_key q) S.store))
              (sym (numbers-bare (first ∷ more))) (put get is_g current w first more c ((Decides-eqb w.code content).0 same) f)
          coded false other f = stays get (λ u g us so is k fr. absurd (false≢true (sym other ∙ (Decides-eqb w.code content).1
              (ap (λ (z : Response). z.code) (whole-is (length l) w u (first ∷ more) (g ∷ us) (sym c ∙ so.ended)) ∙ so.code))))

          same-first : (u : Response) (g : Reply) (us : List Reply) → EndsSo (x ∷ l) e.opening (length l) u (g ∷ us) → first ≡ g
          same-first u g us so = of (ap (λ (z : End). z.how) (some-is _ _ (sym c ∙ so.ended)))
            where
              of : Whole w (first ∷ more) ≡ Whole u (g ∷ us) → first ≡ g
              of h = cc

          newest-or : (b : Bool) → outdated (x ∷ l) (asked_key q) first.number ≡ not b
              → StoreIn (x ∷ l) (put_by (cond b (content_by S.entries x.written.moment e.ask (bare_ending (Whole w (first ∷ more)))) None) (asked_key q) S.store)
          newest-or true f = coded (eqb w.code content) refl f
          newest-or false f = stays get (λ u g us so is k fr. absurd (false≢true (sym fr ∙ (ap (λ (z : Reply). outdated (x ∷ l) (asked_key q) z.number) (sym (same-first u g us so)) ∙ f))))

      -- Its first reply is newer than what was told, or isn't.
      pub store-settled : (is_get q ≡ true → (w : Response) (first : Reply) (more : List Reply) → real ≡ Whole w (first ∷ more)
          → outdated (x ∷ l) (asked_key q) first.number ≡ not (newest_by (first ∷ more) e.newest))
          → StoreIn (x ∷ l) (settled S.entries (Some e) (newest_content S.entries x.written.moment e (bare_ending real)) S.store)
      store-settled fresh = subst (λ (u : Option CoapRequest). StoreIn (x ∷ l) (settled_by u e.current found S.store)) (sym (asked-here l S r e a)) (of (eqb q.method 1) refl)
        where
          found : Option Stored
          found = newest_content S.entries x.written.moment e (bare_ending real)

          of : (b : Bool) → eqb q.method 1 ≡ b
              → StoreIn (x ∷ l) (cond b (cond (is_get q && e.current) (put_by found (asked_key q) S.store) S.store) (filter (is_elsewhere (asked_place q)) S.store))
          of false write = written write
          of true get = either (is_get q) e.current refl refl
            where
              either : (g c : Bool) → is_get q ≡ g → e.current ≡ c → StoreIn (x ∷ l) (cond (g && c) (put_by found (asked_key q) S.store) S.store)
              either true true is k = comes get is k real came (fresh is)
              either true false is k = stays get (λ w f rs so g j fr. false≢true (sym k ∙ j))
              either false c is k = stays get (λ w f rs so g j fr. false≢true (sym is ∙ g))
