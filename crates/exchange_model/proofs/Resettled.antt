-- What is stored after an exchange has renewed what it asked about.
use Rattle.std.proofs.Common.{◌≡◌, ℕ, inl, inr, Bool, true, false, not, cond, eqb, List, [], ◌∷◌, ◌++◌, length, Option, Some, None, refl, sym, ap, subst, ◌∙◌, arith}
use Rattle.exchange_model.proofs.Stales.{no-replies}
use Rattle.std.specs.Prelude.{◌&&◌, filter}
use Rattle.std.specs.Option.{option_map_or}
use Rattle.std.specs.List.{Contains}
use Rattle.std.proofs.lemmas.Bool.{false≢true, and_parts}
use Rattle.std.proofs.lemmas.Option.{slice_get_past}
use Rattle.cache_key.specs.Keys.{CacheKey, same_place}
use Rattle.cache_key.specs.declared.place.Place.{Place}
use Rattle.resp_cache.specs.Stored.{Stored, stored_of}
use Rattle.resp_cache.specs.Stores.{is_elsewhere}
use Rattle.ask_model.specs.Requests.{CoapRequest}
use Rattle.ask_model.specs.Sharing.{asked_key, asked_place, asks_same, is_get}
use Rattle.ask_model.proofs.CallerLemmas.{same-key, same-place}
use Rattle.journal_book.specs.Entries.{Written}
use Rattle.history_laws.specs.Observing.{counting, outdated}
use Rattle.history_laws.specs.Readings.{Noted}
use Rattle.history_laws.specs.Responses.{Response, renewed_response}
use Rattle.history_laws.specs.Progress.{Reply, Whole, Renewed}
use Rattle.history_laws.specs.Exchanges.{Begun, begun, End, end_of, kept as kept_of, replies, heard_for}
use Rattle.history_laws.specs.Joining.{asks_the_same, outrun}
use Rattle.history_laws.specs.Storing.{first_in}
use Rattle.history_laws.specs.Justified.{Ends, Legal}
use Rattle.history_laws.proofs.CallerLemmas.{before-new, begun-keeps, contains-none, ends-renewed, EndsWrite, first-or-later, outrun-quiet, renews-for, RenewsFor, some-is}
use Rattle.exchange_model.specs.Reads.{ExchangeIn, Reads, StoreIn, kept_yet}
use Rattle.exchange_model.specs.declared.kept.Exchange.{Exchange}
use Rattle.exchange_model.specs.State.{State}
use Rattle.exchange_model.specs.Matters.{asked_in, moment_in}
use Rattle.exchange_model.specs.Hearing.{newest_content, put_by, retired, settled, settled_by}
use Rattle.exchange_model.proofs.Bare.{bare_ending}
use Rattle.exchange_model.proofs.Brought.{Renews, renewed-arrives, renewed_so, store-arrived}
use Rattle.exchange_model.proofs.Outlasts.{outrun-as}
use Rattle.exchange_model.proofs.Outrun.{asked-here, EndsThose}
use Rattle.exchange_model.proofs.Renewals.{one-renewed, renewed-number, SameRenewal}
use Rattle.exchange_model.proofs.Retiring.{store-left}
use Rattle.exchange_model.proofs.Settling.{here, is-ended, kept, now-going, true-not, write-of}
use Rattle.exchange_model.proofs.Uses.{NotServing}
use Rattle.exchange_model.proofs.Watches.{outdated-quiet}

module _ (x : Noted) (l : List Noted) (S : State) (r : Reads l S) (legal : Legal (x ∷ l))
    (e : Exchange) (has : Contains S.exchanges e) (ends : EndsThose x l S (e ∷ [])) (s : Stored) (u : Reply)
    (came : Ends (x ∷ l) e.opening (length l) (Renewed s u)) (silent : counting l x.note ≡ None) (quiet : NotServing x.written.deed x.note) where
  abbrev a : ExchangeIn r.start l e
  a = kept x l S r legal e has

  abbrev q : CoapRequest
  q = a.request

  keeps : kept_of l e.opening ≡ Some s
  keeps = subst (λ (k : List Noted). kept_of k e.opening ≡ Some s) (before-new x l) (ends-renewed (x ∷ l) e.opening (length l) s u came).turned.keeps

  unreplied : replies l e.opening ≡ []
  unreplied = no-replies l e.opening (subst (λ (k : List Noted). heard_for k e.opening ≡ []) (before-new x l) (ends-renewed (x ∷ l) e.opening (length l) s u came).turned.first)

  asks_it : RenewsFor l e.opening (record { since = e.since; request = q }) s
  asks_it = renews-for l e.opening _ s r.legal a.opening keeps

  get : is_get q ≡ true
  get = asks_it.get

  method : eqb q.method 1 ≡ true
  method = (and_parts (eqb q.method 1) _ get).0

  only : (g : Exchange) → Contains (e ∷ []) g → e ≡ g
  only g h = elim (first-or-later e [] g h) [
    | inl same ↦ same
    | inr none ↦ absurd (contains-none g none)
  ]

  -- A GET writes nothing.
  writes : (place : Place) → EndsWrite x l place → ⊥
  writes place h =
      let g = write-of x l S r legal (e ∷ []) ends place h in
      let request : q ≡ g.2.request = some-is q g.2.request (sym (asked-here l S r e a) ∙ (ap (λ (f : Exchange). asked_in S.entries f.ask) (only g.0 g.1) ∙ asked-here l S r g.0 g.2)) in
      let both = and_parts (not (eqb g.2.request.method 1)) (same_place place (asked_place g.2.request)) g.3 in
      true-not (eqb g.2.request.method 1) both.0 (subst (λ (k : CoapRequest). eqb k.method 1 ≡ true) request method)

  current-is : outrun l (asked_place q) s.opening ≡ not e.current
  current-is = outrun-as l e.opening _ s r.legal a.opening asks_it ∙ (turned (outrun l (asked_place q) e.opening) ∙ ap not (sym a.current))
    where
      turned : (b : Bool) → b ≡ not (not b)
      turned true = refl
      turned false = refl

  newest-is : outdated l (asked_key q) (first_in s.list) ≡ not e.newest
  newest-is = a.newest_kept s (ap (λ (rs : List Reply). kept_yet (kept_of l e.opening) rs) unreplied ∙ keeps)

  opened : begun (x ∷ l) e.opening ≡ Some (record { since = e.since; request = q })
  opened = begun-keeps x l e.opening _ a.opening

  -- What is renewed now is this.
  at-it : (o : ℕ) (v : Stored) (w : Reply) → Ends (x ∷ l) o (length l) (Renewed v w) → SameRenewal e.opening o s v u w
  at-it o v w ended = one-renewed (x ∷ l) e.opening o (length l) s v u w legal came ended

  -- what is stored by it, where no write outran it and it is newer than all that was told
  abbrev new : Stored
  new = stored_of (renewed_response s.response u.message) s.opening (moment_in S.entries x.written.moment u.number) (s.list ++ u.number ∷ [])

  moment-is : moment_in S.entries x.written.moment u.number ≡ x.written.moment
  moment-is =
      ap (λ (v : Option Written). option_map_or (λ (w : Written). w.moment) v x.written.moment)
      (slice_get_past S.entries u.number (let size = here x l S r legal in let n = renewed-number (x ∷ l) e.opening (length l) s u came in omega (arith, size, n)))

  new-is : (b : Renews x l q e.opening s u) → new ≡ renewed_so x l legal quiet q e.opening s u b
  new-is b =
      ap (λ (t : ℕ). stored_of (renewed_response s.response u.message) s.opening t (s.list ++ u.number ∷ [])) moment-is

  renews : e.current ≡ true → e.newest ≡ true → Renews x l q e.opening s u
  renews current newest =
      let free : outrun l (asked_place q) s.opening ≡ false = current-is ∙ ap not current in
      let fresh : outdated l (asked_key q) (first_in s.list) ≡ false = newest-is ∙ ap not newest in
      record {
        get = get;
        ended = came;
        since = e.since;
        opened = opened;
        current = outrun-quiet x l (asked_place q) s.opening legal (writes (asked_place q)) ∙ free;
        was_current = free;
        newest = outdated-quiet x l (asked_key q) (first_in s.list) silent ∙ fresh;
        was_newest = fresh;
      }

  put : e.current ≡ true → e.newest ≡ true → StoreIn (x ∷ l) (put_by (Some new) (asked_key q) S.store)
  put current newest =
      subst (λ (v : Stored). StoreIn (x ∷ l) (put_by (Some v) (asked_key q) S.store)) (sym (new-is (renews current newest)))
      (store-arrived x l S r legal quiet q _ (renewed-arrives x l legal quiet q e.opening s u (renews current newest)) writes (λ key other n. outdated-quiet x l key n silent))

  -- Otherwise nothing may be stored.
  stays : (e.current ≡ true → e.newest ≡ true → ⊥) → StoreIn (x ∷ l) S.store
  stays none = subst (StoreIn (x ∷ l)) same
      (store-left x l S r legal (e ∷ []) ends silent quiet
      (λ o w rs going so. renewed-whole o w rs so)
      (λ k b. let it = at-it b.opening b.kept b.reply b.ended in
      let alike : asks_same k q ≡ true = subst (λ (v : Option Begun). asks_the_same k v ≡ true) (ap (begun (x ∷ l)) (sym it.opening) ∙ opened) b.same in
      never (outrun-quiet-back (ap (λ (p : Place). outrun (x ∷ l) p s.opening) (sym (same-place k q alike)) ∙ (ap (λ (v : Stored). outrun (x ∷ l) (asked_place k) v.opening) it.kept ∙ b.current)))
      (sym (outdated-quiet x l (asked_key q) (first_in s.list) silent)
      ∙ (ap (λ (c : CacheKey). outdated (x ∷ l) c (first_in s.list)) (sym (same-key k q alike)) ∙ (ap (λ (v : Stored). outdated (x ∷ l) (asked_key k) (first_in v.list)) it.kept ∙ b.newest))))
      (λ key b. let it = at-it b.opening b.kept b.reply b.ended in
      let request = ap (λ (v : Begun). v.request) (some-is _ _ (sym opened ∙ (ap (begun (x ∷ l)) it.opening ∙ b.opened))) in
      let is_key : asked_key q ≡ key = ap asked_key request ∙ b.is in
      never (ap (λ (c : CacheKey). outrun l c.place s.opening) is_key ∙ (ap (λ (v : Stored). outrun l key.place v.opening) it.kept
      ∙ (ap (λ (older : List Noted). outrun older key.place b.kept.opening) (sym (before-new x l)) ∙ b.current)))
      (ap (λ (c : CacheKey). outdated l c (first_in s.list)) is_key ∙ (ap (λ (v : Stored). outdated l key (first_in v.list)) it.kept
      ∙ (ap (λ (older : List Noted). outdated older key (first_in b.kept.list)) (sym (before-new x l)) ∙ b.newest)))))
    where
      flip : (b : Bool) → false ≡ not b → b ≡ true
      flip true f = refl
      flip false f = absurd (false≢true f)

      never : outrun l (asked_place q) s.opening ≡ false → outdated l (asked_key q) (first_in s.list) ≡ false → ⊥
      never free fresh = none (flip e.current (sym free ∙ current-is)) (flip e.newest (sym fresh ∙ newest-is))

      outrun-quiet-back : outrun (x ∷ l) (asked_place q) s.opening ≡ false → outrun l (asked_place q) s.opening ≡ false
      outrun-quiet-back f = sym (outrun-quiet x l (asked_place q) s.opening legal (writes (asked_place q))) ∙ f

      renewed-whole : (o : ℕ) (w : Response) (rs : List Reply) → Ends (x ∷ l) o (length l) (Whole w rs) → ⊥
      renewed-whole o w rs so =
          let g = is-ended x l S r legal (e ∷ []) ends o _ (now-going x l S r legal o (length l) (Whole w rs) so refl) so in
          let at_o : e.opening ≡ o = ap (λ (f : Exchange). f.opening) (only g.0 g.1) ∙ g.2 in
          not-whole w rs (ap (λ (z : End). z.how) (some-is _ _ (sym came ∙ (ap (end_of (x ∷ l)) at_o ∙ so))))
        where
          not-whole : (w : Response) (rs : List Reply) → Renewed s u ≡ Whole w rs → ⊥
          not-whole w rs h = cc

      same : retired S.entries (e ∷ []) S.store ≡ S.store
      same = ap (λ (v : Option CoapRequest). settled_by v e.current None S.store) (asked-here l S r e a)
          ∙ (ap (λ (b : Bool). cond b (cond (is_get q && e.current) S.store S.store) (filter (is_elsewhere (asked_place q)) S.store)) method ∙ either (is_get q && e.current))
        where
          either : (b : Bool) → cond b S.store S.store ≡ S.store
          either true = refl
          either false = refl

  pub store-resettled : StoreIn (x ∷ l) (settled S.entries (Some e) (newest_content S.entries x.written.moment e (bare_ending (Renewed s u))) S.store)
  store-resettled =
      subst (λ (v : Option CoapRequest). StoreIn (x ∷ l) (settled_by v e.current (newest_content S.entries x.written.moment e (bare_ending (Renewed s u))) S.store)) (sym (asked-here l S r e a))
      (subst (λ (b : Bool). StoreIn (x ∷ l) (cond b (cond (is_get q && e.current) (put_by (cond e.newest (Some new) None) (asked_key q) S.store) S.store) (filter (is_elsewhere (asked_place q)) S.store))) (sym method)
      (subst (λ (b : Bool). StoreIn (x ∷ l) (cond (b && e.current) (put_by (cond e.newest (Some new) None) (asked_key q) S.store) S.store)) (sym get)
      (by e.current refl e.newest refl)))
    where
      by : (c : Bool) → e.current ≡ c → (n : Bool) → e.newest ≡ n → StoreIn (x ∷ l) (cond c (put_by (cond n (Some new) None) (asked_key q) S.store) S.store)
      by true current true newest = put current newest
      by true current false newest = stays (λ c n. false≢true (sym newest ∙ n))
      by false current n newest = stays (λ c m. false≢true (sym current ∙ c))
