-- What a notification that counts leaves in the store.
use Rattle.std.proofs.Common.{◌≡◌, ◌<◌, ℕ, inl, inr, Bool, true, false, cond, not, eqb, List, [], ◌∷◌, length, map, Option, Some, None, Ok, Err, refl, sym, ap, subst, ◌∙◌, arith}
use Rattle.exchange_model.proofs.Pieces.{behind-stays}
use Rattle.std.specs.Prelude.{◌&&◌}
use Rattle.std.specs.Option.{option_map_or}
use Rattle.std.proofs.lemmas.Bool.{false≢true, and_parts, not-true}
use Rattle.std.proofs.lemmas.Option.{slice_get_past}
use Rattle.std.proofs.lemmas.Bool.Decides.{Decides-eqb}
use Rattle.coap_codec.specs.Spelling.{Content, Spells}
use Rattle.uri_map.specs.declared.peer.Peer.{Peer}
use Rattle.cache_key.specs.Keys.{CacheKey, same_key}
use Rattle.cache_key.specs.declared.place.Place.{Place}
use Rattle.cache_key.proofs.CallerLemmas.{keys_decided}
use Rattle.observe_share.specs.declared.registration.Registration.{Registration}
use Rattle.observe_share.specs.declared.notice.Notice.{Notice as Told}
use Rattle.observe_share.specs.declared.notice.Notice.TheVariants.{Update, Other}
use Rattle.resp_cache.specs.Stored.{Stored, stored_of}
use Rattle.resp_cache.specs.Stores.{is_of, is_of_another, others}
use Rattle.resp_cache.specs.declared.pair.Pair.{Pair}
use Rattle.ask_model.specs.Requests.{CoapRequest}
use Rattle.ask_model.specs.Sharing.{asked_key, asked_place, asks_same, is_get}
use Rattle.journal_book.specs.Entries.{Hears, Written}
use Rattle.history_laws.specs.Readings.{Noted, Observation, Updates, Notice, Says, noted}
use Rattle.blockwise.specs.Downloads.{no_pieces, Judged, judged, with_piece}
use Rattle.blockwise.specs.declared.fault.BlockFault.TheVariants as F
use Rattle.blockwise.specs.declared.pieces.Step.TheVariants.{Next, Last}
use Rattle.history_laws.specs.Responses.{Response, is_tellable}
use Rattle.history_laws.specs.Progress.{Reply, numbers, Ending, Whole, NotUnderstood, Reset, TimedOut, Turned, Progress, Fetches, Gives, Ends, fetched_by, Renewed}
use Rattle.history_laws.specs.Exchanges.{Begun, begun, end_of, ask_behind}
use Rattle.history_laws.specs.Hearing.{answers, can_be_remembered, counts_as, notice_of, repeated}
use Rattle.history_laws.specs.Joining.{asks_the_same, is_joinable, outrun}
use Rattle.history_laws.specs.Observing.{Watch, as_first, first_reply, notice_by, notice_in, is_some_of, is_current, outdated, version, watch_under, watches}
use Rattle.history_laws.specs.Observing as O
use Rattle.history_laws.specs.Storing.{ComesSo, content, EndsSo, IsStored, UpdatesSo}
use Rattle.history_laws.specs.Justified.{Legal}
use Rattle.history_laws.proofs.CallerLemmas.{all-more, all-of, at-below, at-new, at-old, before-new, begun-keeps, contains-none, entries-length, EndsWrite, find-some, first-whole, outrun-quiet, some-is, watch-fits, WatchFits, ask-own}
use Rattle.history_links.specs.Steps.{heard}
use Rattle.exchange_model.specs.State.{State}
use Rattle.exchange_model.specs.Reads.{PairIn, StoreIn}
use Rattle.exchange_model.specs.Matters.{answered_in, found_in, moment_in, stored_by}
use Rattle.exchange_model.specs.Hearing.{Numbers, put_by, retold}
use Rattle.exchange_model.specs.Laws.{MayHear}
use Rattle.exchange_model.proofs.Answered.{ended}
use Rattle.exchange_model.proofs.Bare.{bare, bare_progress, step-bare, first-unrenewed}
use Rattle.exchange_model.proofs.Brought.{Brings, store-arrived, brought-arrives}
use Rattle.exchange_model.proofs.Fresh.{outdated-late, outdated-now}
use Rattle.exchange_model.proofs.Left.{legal-so}
use Rattle.exchange_model.proofs.ToldAlone.{IsTold}
use Rattle.exchange_model.proofs.Outrun.{EndsThose}
use Rattle.exchange_model.proofs.Settling.{all-kept, is-ended, true-not, was-going, write-of, now-going}
use Rattle.exchange_model.proofs.Storing.{pair-stays, stored-earlier, stored-fresh, stored-unwritten, stored-was}
use Rattle.exchange_model.proofs.Stores.{every}
use Rattle.exchange_model.proofs.Unwritten.{watches-current}
use Rattle.exchange_model.proofs.Uses.{crowded-stays, has-filtered, order-filter, order-stays, order-weaker, unserved, Unused}

-- A whole representation that is told.
pub whole-bare : (n i : ℕ) (m : Content) → as_first n 0 m ≡ bare_progress (as_first n i m)
whole-bare n i m = step-bare (Fetches 0 no_pieces []) (first_reply n i m)

first-ends : (l : List Noted) (t : ℕ) (r : Registration) (n i : ℕ) (m : Content) (w : Response) (rs : List Reply) (v : ℕ) → as_first n i m ≡ Ends (Whole w rs)
    → (counts_as l t r (Update v) (as_first 0 0 m) ≡ Updates) × (w.code ≡ m.code)
first-ends l t r n i m w rs v e = by (is_tellable m) (judged no_pieces m) e
  where
    code-of : (y : Response) (ts : List Reply) → y.code ≡ m.code → Ends (Whole y ts) ≡ Ends (Whole w rs) → w.code ≡ m.code
    code-of y ts c f = ap (λ (z : Response). z.code) (sym (inner f)) ∙ c
      where
        inner : Ends (Whole y ts) ≡ Ends (Whole w rs) → y ≡ w
        inner g = cc

    by : (b : Bool) (j : Judged) → cond b (fetched_by j 0 (with_piece no_pieces m) (first_reply n i m ∷ [])) (Ends NotUnderstood) ≡ Ends (Whole w rs)
        → (counts_as l t r (Update v) (cond b (fetched_by j 0 (with_piece no_pieces m) (first_reply 0 0 m ∷ [])) (Ends NotUnderstood)) ≡ Updates) × (w.code ≡ m.code)
    by true (Ok Last) f = (refl, code-of _ _ refl f)
    by true (Ok (Next block)) f = absurd cc
    by true (Err F.Changed) f = absurd cc
    by true (Err F.Size) f = absurd cc
    by true (Err F.Gap) f = absurd cc
    by true (Err F.TooLarge) f = absurd cc
    by true (Err F.Memory) f = absurd cc
    by false j f = absurd cc

-- What tells an update is a 2.05.
updated-code : (m : Content) (v : ℕ) → notice_in m ≡ Update v → m.code ≡ content
updated-code m v e = by (eqb m.code 69) refl (is_some_of (as_first 0 0 m)) (version m) e
  where
    by : (b : Bool) → eqb m.code 69 ≡ b → (c : Bool) (o : Option ℕ) → notice_by (b && c) o ≡ Update v → m.code ≡ content
    by true is c o f = (Decides-eqb m.code 69).0 is
    by false is c o f = absurd cc

-- No entry says two things.
said-same : (t v : ℕ) (p r : Peer) (c d : List ℕ) (m n : Content) (i j : Option ℕ) (f g : Notice) → noted t (Hears p c) (Says m i f) ≡ noted v (Hears r d) (Says n j g) → (m ≡ n) × (f ≡ g) × (i ≡ j)
said-same t v p r c d m n i j f g e = says (ap (λ (x : Noted). x.note) e)
  where
    says : Says m i f ≡ Says n j g → (m ≡ n) × (f ≡ g) × (i ≡ j)
    says h = (cc, cc, cc)

module _ (l : List Noted) (t : ℕ) (p : Peer) (d : List ℕ) (m : Content) (n : Numbers) (S : State) (h : MayHear l t p d S)
    (spelled : Spells m d) (none : repeated l t p m ≡ None) (room : can_be_remembered l t p m ≡ true)
    (is : answered_in (ended l t p d m S h none room) S.exchanges ≡ None) (r : Registration) (found : Option Stored)
    (k : IsTold l t p d m S h none room is r found) where
  abbrev x : Noted
  x = heard l t p d m

  legal : Legal (x ∷ l)
  legal = legal-so l t p d m n S h spelled none room

  module _ (ends : EndsThose x l S [])
      (out-now : (key : CacheKey) (i : ℕ) → same_key r.key key ≡ true → i < length l → outdated (x ∷ l) key i ≡ true)
      (out-not : (key : CacheKey) (i : ℕ) → same_key r.key key ≡ false → outdated (x ∷ l) key i ≡ outdated l key i) where
    here : length S.entries ≡ length l
    here = ap length (sym h.before.reads.entries_are) ∙ entries-length l

    fits : WatchFits l k.watch
    fits = watch-fits l k.watch h.before.reads.legal (find-some (O.is_under m.token) (watches l) k.watch k.under).0

    abbrev q : CoapRequest
    q = fits.exchange.request

    key-is : asked_key q ≡ r.key
    key-is = sym fits.key ∙ ap (λ (z : Registration). z.key) k.held

    get : is_get q ≡ true
    get = (and_parts (is_get q) _ fits.may).0

    opening-is : k.watch.held.opening ≡ r.opening
    opening-is = ap (λ (z : Registration). z.opening) k.held

    writes : (place : Place) → EndsWrite x l place → ⊥
    writes place e = let g = write-of x l S h.before.reads legal [] ends place e in contains-none g.0 g.1

    -- Nothing ends by it.
    no-renewal : (o : ℕ) (s : Stored) (u : Reply) → end_of (x ∷ l) o ≡ Some (record { number = length l; how = Renewed s u }) → ⊥
    no-renewal o s u e =
        let g = is-ended x l S h.before.reads legal [] ends o _ (now-going x l S h.before.reads legal o (length l) (Renewed s u) e refl) e in
        contains-none g.0 g.1

    no-end : (o : ℕ) (w : Response) (rs : List Reply) → EndsSo (x ∷ l) o (length l) w rs → ⊥
    no-end o w rs so =
        let g = is-ended x l S h.before.reads legal [] ends o _ (was-going x l S h.before.reads legal o (length l) w rs so refl) so.ended in
        contains-none g.0 g.1

    observation-is : (notice_of l t p m (answers l p m)).observation ≡ counts_as l t r (notice_in m) (as_first 0 0 m)
    observation-is = k.seen

    other-keys : (key : CacheKey) → (key ≡ asked_key q → ⊥) → same_key r.key key ≡ false
    other-keys key differs = by (same_key r.key key) refl
      where
        by : (b : Bool) → same_key r.key key ≡ b → b ≡ false
        by false e = refl
        by true e = absurd (differs (sym ((keys_decided r.key key).0 e) ∙ sym key-is))

    -- a whole representation takes the place of what was stored
    module _ (v : ℕ) (update : notice_in m ≡ Update v) (w : Response) (rs : List Reply) (whole : as_first (length l) k.sending m ≡ Ends (Whole w rs)) where
      one-reply : rs ≡ first_reply (length l) k.sending m ∷ []
      one-reply = first-whole (length l) k.sending m w rs whole

      abbrev first : Reply
      first = first_reply (length l) k.sending m

      updates : UpdatesSo (x ∷ l) r.opening (length l) w (first ∷ [])
      updates = record {
        moment = t;
        peer = p;
        bytes = d;
        message = m;
        sending = k.sending;
        place = (notice_of l t p m (answers l p m)).place;
        stands = at-new x l ∙ ap (λ (y : Noted). Some y) entry-is;
        watch = k.watch;
        under = subst (λ (older : List Noted). watch_under older m.token ≡ Some k.watch) (sym (before-new x l)) k.under;
        registered = opening-is;
        whole = whole ∙ ap (λ (ts : List Reply). Ends (Whole w ts)) one-reply;
        code = code-is;
      }
        where
          told-whole : counts_as l t r (Update v) (as_first 0 0 m) ≡ Updates
          told-whole = (first-ends l t r (length l) k.sending m w rs v whole).0

          entry-is : x ≡ noted t (Hears p d) (Says m (Some k.sending) (record { place = (notice_of l t p m (answers l p m)).place; observation = Updates }))
          entry-is =
              ap (λ (to : Option ℕ). noted t (Hears p d) (Says m to (notice_of l t p m (answers l p m)))) k.to
              ∙ ap (λ (o : Observation). noted t (Hears p d) (Says m (Some k.sending) (record { place = (notice_of l t p m (answers l p m)).place; observation = o })))
              (observation-is ∙ (ap (λ (z : Told). counts_as l t r z (as_first 0 0 m)) update ∙ told-whole))

          code-is : w.code ≡ content
          code-is = (first-ends l t r (length l) k.sending m w rs v whole).1 ∙ updated-code m v update

      brings : Brings x l q r.opening w first []
      brings = record {
        comes = inr updates;
        get = get;
        since = fits.exchange.since;
        opened = begun-keeps x l r.opening fits.exchange opened-is;
        joins = joins-is;
        fresh = outdated-now x l (asked_key q);
        current = current-is;
        newest = outdated-late l (asked_key q) (length l) (omega arith);
        entry = x;
        stands = at-new x l;
      }
        where
          opened-is : begun l r.opening ≡ Some fits.exchange
          opened-is = subst (λ (o : ℕ). begun l o ≡ Some fits.exchange) opening-is fits.opened

          current-is : outrun l (asked_place q) r.opening ≡ false
          current-is =
              let all = all-of (λ (w : Watch). is_current l w ≡ true) (watches l) k.watch (watches-current l h.before.reads.legal) (find-some (O.is_under m.token) (watches l) k.watch k.under).0 in
              subst (λ (o : ℕ). outrun l (asked_place q) o ≡ false) opening-is
              (subst (λ (c : CacheKey). outrun l c.place k.watch.held.opening ≡ false) fits.key (not-true (outrun l k.watch.held.key.place k.watch.held.opening) all))

          itself : asks_same q q ≡ true
          itself = rw (get, (keys_decided (asked_key q) (asked_key q)).1 refl) refl

          joins-is : is_joinable (x ∷ l) q r.opening ≡ true
          joins-is =
              ap (λ (b : Option Begun). asks_the_same q b && not (outrun (x ∷ l) (asked_place q) r.opening)) (begun-keeps x l r.opening fits.exchange opened-is)
              ∙ (ap (λ (b : Bool). b && not (outrun (x ∷ l) (asked_place q) r.opening)) itself
              ∙ ap not (outrun-quiet x l (asked_place q) r.opening legal (writes (asked_place q)) ∙ current-is))

      back : ask_behind (x ∷ l) r.opening ≡ r.opening
      back = subst (λ (o : ℕ). ask_behind (x ∷ l) o ≡ o) opening-is
          (behind-stays x l k.watch.held.opening fits.exchange fits.opened ∙ ask-own l k.watch.held.opening fits.exchange h.before.reads.legal fits.for_it)

      pub put : StoreIn (x ∷ l) (put_by (Some (stored_of w r.opening t (numbers (first ∷ [])))) r.key S.store)
      unfolding brings
      put =
          subst (λ (o : ℕ). StoreIn (x ∷ l) (put_by (Some (stored_of w o t (numbers (first ∷ [])))) r.key S.store)) back
          (subst (λ (c : CacheKey). StoreIn (x ∷ l) (put_by (Some (stored_of w (ask_behind (x ∷ l) r.opening) t (numbers (first ∷ [])))) c S.store)) key-is
          (store-arrived x l S h.before.reads legal tt q _ (brought-arrives x l legal tt q r.opening w first [] brings) writes (λ key differs i. out-not key i (other-keys key differs))))

    -- what was stored for its key is out of date, and nothing takes its place
    module _ (nothing : (o : ℕ) (w : Response) (rs : List Reply) → ComesSo (x ∷ l) o (length l) w rs → ⊥) where
      unused : (key : CacheKey) → Unused x l key
      unused key (inl u) = unserved x l key tt u
      unused key (inr (inl u)) = nothing u.opening u.response (u.first ∷ u.more) u.comes
      unused key (inr (inr u)) = no-renewal u.opening u.kept u.reply u.ended

      pair-of-other : (y : Pair) → PairIn l y × (is_of_another r.key y ≡ true) → PairIn (x ∷ l) y
      pair-of-other y a = pair-stays x l legal y a.0 (record {
        own = refl;
        unwritten = writes (asked_place a.0.request);
        untold = λ i. out-not (asked_key a.0.request) i (by (same_key r.key (asked_key a.0.request)) refl);
        unanswered = λ o w f rs comes joins fresh. nothing o w (f ∷ rs) comes;
        unrenewed = λ a. no-renewal a.opening a.kept a.reply a.ended;
      })
        where
          by : (b : Bool) → same_key r.key (asked_key a.0.request) ≡ b → b ≡ false
          by false e = refl
          by true e = absurd (true-not (same_key y.key r.key) a.1 ((keys_decided y.key r.key).1 (sym a.0.key ∙ sym ((keys_decided r.key (asked_key a.0.request)).0 e))))

      pub taken : StoreIn (x ∷ l) (others r.key S.store)
      taken = record {
        pairs = all-more (λ (y : Pair). PairIn l y × (is_of_another r.key y ≡ true)) (PairIn (x ∷ l)) pair-of-other (others r.key S.store) (all-kept (PairIn l) (is_of_another r.key) S.store h.before.reads.store_is.pairs);
        order = order-weaker (x ∷ l) (length l) (length (x ∷ l)) (others r.key S.store) (omega arith)
            (order-stays x l (length l) (others r.key S.store) legal refl (every (λ (y : Pair). Unused x l y.key) (λ y. unused y.key) (others r.key S.store))
            (order-filter l (length l) (is_of_another r.key) S.store h.before.reads.store_is.order));
        kept = λ c s stored lasts. elim (h.before.reads.store_is.kept c s (was-so c s stored) lasts) [
          | inl had ↦ inl (has-filtered (asked_key c) (is_of_another r.key) S.store (λ y of_c. another c s stored y of_c (same_key y.key r.key) refl) had)
          | inr out ↦ inr (crowded-stays x l (asked_key c) legal refl (unused (asked_key c)) out)
        ];
      }
        where
          was-so : (c : CoapRequest) (s : Stored) → IsStored (x ∷ l) c s → IsStored l c s
          was-so c s stored = stored-was x l c s legal refl (stored-unwritten x l c s legal refl stored) stored (stored-earlier x l c s nothing (λ a. no-renewal a.opening a.kept a.reply a.ended) stored)

          -- What is stored is newer than all that was told, and so of another key.
          another : (c : CoapRequest) (s : Stored) → IsStored (x ∷ l) c s → (y : Pair) → is_of (asked_key c) y ≡ true → (b : Bool) → same_key y.key r.key ≡ b → not b ≡ true
          another c s stored y of_c false e = refl
          another c s stored y of_c true e =
              let it = stored-fresh x l c s legal refl stored (stored-earlier x l c s nothing (λ a. no-renewal a.opening a.kept a.reply a.ended) stored) in
              absurd (false≢true (sym it.fresh ∙ out-now (asked_key c) it.first
              ((keys_decided r.key (asked_key c)).1 (sym ((keys_decided y.key r.key).0 e) ∙ (keys_decided y.key (asked_key c)).0 of_c)) it.below))

    -- what comes by it is a whole update
    comes-whole : (o : ℕ) (w : Response) (rs : List Reply) → ComesSo (x ∷ l) o (length l) w rs
        → (counts_as l t r (notice_in m) (as_first 0 0 m) ≡ Updates) × (as_first (length l) k.sending m ≡ Ends (Whole w rs))
    comes-whole o w rs (inl so) = absurd (no-end o w rs so)
    comes-whole o w rs (inr u) = elim (at-old x l (length l) _ u.stands) [
      | inr old ↦ absurd (let below = at-below l (length l) _ old in omega (arith, below))
      | inl new ↦
          let same = said-same t u.moment p u.peer d u.bytes m u.message (answers l p m) (Some u.sending) (notice_of l t p m (answers l p m)) _ new.1 in
          let sending : u.sending ≡ k.sending = some-is u.sending k.sending (sym same.2 ∙ k.to) in (
            sym observation-is ∙ ap (λ (y : Notice). y.observation) same.1,
            ap (as_first (length l) k.sending) same.0 ∙ (ap (λ (i : ℕ). as_first (length l) i u.message) (sym sending) ∙ u.whole),
          )
    ]

    not-updates : (v : Option ℕ) (u : Progress) → counts_as l t r (Other v) u ≡ Updates → ⊥
    not-updates v u e = cc

    found-is : (z : Told) → notice_in m ≡ z → (u : Progress) → as_first (length l) k.sending m ≡ u → found ≡ found_in t S z r.opening (bare_progress u)
    found-is z is_z u is_u =
        k.is_stored
        ∙ (ap (λ (y : Told). found_in t S y r.opening (as_first (length S.entries) 0 m)) is_z
        ∙ ap (found_in t S z r.opening) (ap (λ (i : ℕ). as_first i 0 m) here ∙ (whole-bare (length l) k.sending m ∙ ap bare_progress is_u)))

    by-none : found ≡ None → ((o : ℕ) (w : Response) (rs : List Reply) → ComesSo (x ∷ l) o (length l) w rs → ⊥) → StoreIn (x ∷ l) (retold r.key found S.store)
    by-none is_none nothing = subst (λ (v : Option Stored). StoreIn (x ∷ l) (retold r.key v S.store)) (sym is_none) (taken nothing)

    no-whole : (u : Progress) → as_first (length l) k.sending m ≡ u → ((w : Response) (rs : List Reply) → u ≡ Ends (Whole w rs) → ⊥)
        → (o : ℕ) (w : Response) (rs : List Reply) → ComesSo (x ∷ l) o (length l) w rs → ⊥
    no-whole u is_u never o w rs comes = never w rs (sym is_u ∙ (comes-whole o w rs comes).1)

    moment-now : moment_in S.entries t (length l) ≡ t
    moment-now = ap (λ (v : Option Written). option_map_or (λ (w : Written). w.moment) v t) (slice_get_past S.entries (length l) (let size = here in omega (arith, size)))

    pub store-told : StoreIn (x ∷ l) (retold r.key found S.store)
    store-told = by (notice_in m) refl (as_first (length l) k.sending m) refl
      where
        ended-so : (v : ℕ) → notice_in m ≡ Update v → (how : Ending) → as_first (length l) k.sending m ≡ Ends how → StoreIn (x ∷ l) (retold r.key found S.store)
        ended-so v is_z (Renewed s u) is_u = absurd (first-unrenewed (length l) k.sending m s u is_u)
        ended-so v is_z NotUnderstood is_u = by-none (found-is (Update v) is_z (Ends NotUnderstood) is_u) (no-whole (Ends NotUnderstood) is_u (λ w rs f. cc))
        ended-so v is_z Reset is_u = by-none (found-is (Update v) is_z (Ends Reset) is_u) (no-whole (Ends Reset) is_u (λ w rs f. cc))
        ended-so v is_z TimedOut is_u = by-none (found-is (Update v) is_z (Ends TimedOut) is_u) (no-whole (Ends TimedOut) is_u (λ w rs f. cc))
        ended-so v is_z Turned is_u = by-none (found-is (Update v) is_z (Ends Turned) is_u) (no-whole (Ends Turned) is_u (λ w rs f. cc))
        ended-so v is_z (Whole w rs) is_u =
            let one = one-reply v is_z w rs is_u in
            let code = (first-ends l t r (length l) k.sending m w rs v is_u).1 ∙ updated-code m v is_z in
            subst (λ (f : Option Stored). StoreIn (x ∷ l) (retold r.key f S.store))
            (sym (found-is (Update v) is_z (Ends (Whole w rs)) is_u
            ∙ (ap (λ (ts : List Reply). stored_by S.entries t r.opening w (map bare ts)) one
            ∙ (ap (λ (b : Bool). cond b (Some (stored_of w r.opening (moment_in S.entries t (length l)) (length l ∷ []))) None) ((Decides-eqb w.code content).1 code)
            ∙ ap (λ (i : ℕ). Some (stored_of w r.opening i (length l ∷ []))) moment-now))))
            (put v is_z w rs is_u)

        by : (z : Told) → notice_in m ≡ z → (u : Progress) → as_first (length l) k.sending m ≡ u → StoreIn (x ∷ l) (retold r.key found S.store)
        by (Other v) is_z u is_u = by-none (found-is (Other v) is_z u is_u) (λ o w rs comes. not-updates v (as_first 0 0 m) (sym (ap (λ (y : Told). counts_as l t r y (as_first 0 0 m)) is_z) ∙ (comes-whole o w rs comes).0))
        by (Update v) is_z (Fetches c pieces got) is_u = by-none (found-is (Update v) is_z (Fetches c pieces got) is_u) (no-whole (Fetches c pieces got) is_u (λ w rs f. cc))
        by (Update v) is_z (Gives y got) is_u = by-none (found-is (Update v) is_z (Gives y got) is_u) (no-whole (Gives y got) is_u (λ w rs f. cc))
        by (Update v) is_z (Ends how) is_u = ended-so v is_z how is_u
