-- A message that ends an exchange leaves the others.
use Rattle.std.proofs.Common.{◌≡◌, ℕ, zero, ◌+◌, true, false, not, eqb, List, [], ◌∷◌, ◌++◌, length, map, Option, Some, None, inl, inr, refl, sym, ap, subst, ◌∙◌, arith}
use Rattle.std.specs.Prelude.{filter, is_none}
use Rattle.std.specs.List.{AllByRecursion, Contains}
use Rattle.std.proofs.lemmas.Bool.{false≢true, not-false}
use Rattle.coap_codec.specs.Spelling.{Content, Spells}
use Rattle.uri_map.specs.declared.peer.Peer.{Peer}
use Rattle.history_laws.specs.Readings.{Noted}
use Rattle.history_laws.specs.Hearing.{answers, can_be_remembered, notice_of, repeated}
use Rattle.ask_model.specs.Sharing.{asked_key, is_get}
use Rattle.observe_share.specs.Watches.{without}
use Rattle.history_laws.specs.Observing.{counting, outdated, watches}
use Rattle.history_laws.specs.Responses.{Response}
use Rattle.history_laws.specs.Progress.{Ending, Ends as EndsSoFar, numbers, Progress, progress, Reply, step, Whole, Renewed, NotUnderstood, Reset, TimedOut, Turned}
use Rattle.history_laws.specs.Exchanges.{Begun, End, end_of, is_going, heard_for}
use Rattle.ask_model.specs.Requests.{CoapRequest}
use Rattle.history_laws.proofs.CallerLemmas.{all-filter, all-more, all-of, all-passes, contains-none, eqb-same, filter-by, first-or-later, progress-push, some-is}
use Rattle.history_links.specs.Steps.{heard}
use Rattle.history_links.proofs.CallerLemmas.{says-agrees}
use Rattle.exchange_model.specs.declared.kept.Exchange.{Exchange}
use Rattle.exchange_model.specs.State.{State, link_of}
use Rattle.exchange_model.specs.declared.kept.Work.{Work}
use Rattle.exchange_model.specs.declared.kept.Work.TheVariants as W
use Rattle.exchange_model.specs.Watching.{is_one_of, is_written_by, tokens_of}
use Rattle.exchange_model.specs.Reads.{ExchangeIn, got_in, held_of, opening_of, PiecesIn, StoreIn, WaitsUnder, StalesIn, kept_in}
use Rattle.exchange_model.specs.Matters.{Over, asked_in, progress_with, is_other, left_by, numbers_of, outrun_by, stale_in}
use Rattle.exchange_model.specs.Hearing.{gone_by, got_by, newest_by, newest_content, watches_by, is_of_other, Numbers, settled, is_stale_of_other}
use Rattle.exchange_model.specs.Laws.{MayHear}
use Rattle.exchange_model.proofs.Answered.{hits, issued-still, kept-hits, none-goes-on, other-going, other-opening, other-unhit, same-opening, start, openings-same}
use Rattle.exchange_model.proofs.Begins.{waits-with}
use Rattle.exchange_model.proofs.Fetched.{numbers-others}
use Rattle.exchange_model.proofs.Hearing.{kept-one, open-later, replies-kept}
use Rattle.exchange_model.proofs.Fresh.{newest-more, step-all}
use Rattle.exchange_model.proofs.Left.{follows-so, Left, legal-so, told}
use Rattle.exchange_model.proofs.Noticing.{answered-silent, answered-told, told as told_in, answered-unopened}
use Rattle.exchange_model.proofs.Observed.{answered-resets, over-forgets, over-unnoticed}
use Rattle.exchange_model.proofs.Watches.{newest-quiet, outdated-quiet}
use Rattle.exchange_model.proofs.Written.{one-written, told-stand, written-left}
use Rattle.exchange_model.proofs.Lists.{all-both, each-of}
use Rattle.exchange_model.proofs.Opened.{OpenIn, open-ones}
use Rattle.exchange_model.proofs.Outrun.{current-now, EndsThose, left-all, left-each, left-openings}
use Rattle.exchange_model.proofs.Over.{IsOver, reply_of}
use Rattle.exchange_model.proofs.Pieces.{below-more, got-stays}
use Rattle.exchange_model.proofs.Settled.{store-settled}
use Rattle.exchange_model.proofs.Settling.{kept}
use Rattle.exchange_model.proofs.Silent.{link-before}
use Rattle.exchange_model.proofs.Stales.{kept-stays, stale-others, stales-below}
use Rattle.history_laws.specs.Storing.{first_in}
use Rattle.resp_cache.specs.Stored.{Stored}
use Rattle.exchange_model.proofs.Bare.{bare_ending}
use Rattle.exchange_model.proofs.Resettled.{store-resettled}

module _ (l : List Noted) (t : ℕ) (p : Peer) (d : List ℕ) (m : Content) (n : Numbers) (S : State) (h : MayHear l t p d S)
    (spelled : Spells m d) (none : repeated l t p m ≡ None) (room : can_be_remembered l t p m ≡ true)
    (e : Exchange) (how : Ending) (over : IsOver (start l t p d m S h none room) l t p d m S e how) where
  abbrev x : Noted
  x = heard l t p d m

  abbrev others : List Exchange
  others = filter (is_other e.token) S.exchanges

  is-gone : (v : Option End) (f : End) → v ≡ Some f → is_none v ≡ false
  is-gone None f same = absurd (cc (same))
  is-gone (Some g) f same = refl

  gone : is_going (x ∷ l) e.opening ≡ false
  gone = is-gone (end_of (x ∷ l) e.opening) _ over.ends

  -- one under its token is it
  under-gone : (f : Exchange) → OpenIn h.before.reads.start l f → is_other e.token f ≡ false → is_going (x ∷ l) f.opening ≡ false
  under-gone f a same =
      subst (λ (o : ℕ). is_going (x ∷ l) o ≡ false) (sym (same-opening l t p d m S h none room e over.it f a (not-false _ same))) gone

  opens : AllByRecursion (OpenIn h.before.reads.start l) S.exchanges
  opens = open-ones l S h.before.reads

  open-in : (f : Exchange) → Contains S.exchanges f → OpenIn h.before.reads.start l f
  open-in f has = all-of (OpenIn h.before.reads.start l) S.exchanges f opens has

  each-other : AllByRecursion (λ (f : Exchange). OpenIn h.before.reads.start l f × (is_other e.token f ≡ true)) others
  each-other = all-both _ _ others (all-filter (OpenIn h.before.reads.start l) (is_other e.token) S.exchanges opens) (all-passes (is_other e.token) S.exchanges)

  only : (f : Exchange) → Contains (e ∷ []) f → e ≡ f
  only f c = elim (first-or-later e [] f c) [
    | inl same ↦ same
    | inr none ↦ absurd (contains-none f none)
  ]

  ends : EndsThose x l S (e ∷ [])
  ends = record {
    ended = λ f c. subst (λ (g : Exchange). Contains S.exchanges g × (is_going (x ∷ l) g.opening ≡ false)) (only f c) (over.it.has, gone);
    all = λ f has ended. elim (told (is_other e.token f)) [
      | inl other ↦ absurd (false≢true (sym ended ∙ other-going l t p d m S h none room e over.it f (open-in f has) other))
      | inr same ↦ (e, (zero, omega arith, refl), sym (same-opening l t p d m S h none room e over.it f (open-in f has) (not-false _ same)))
    ];
  }

  same-test : (f : Exchange) → Contains S.exchanges f → is_going (x ∷ l) f.opening ≡ is_other e.token f
  same-test f has = elim (told (is_other e.token f)) [
    | inl other ↦ other-going l t p d m S h none room e over.it f (open-in f has) other ∙ sym other
    | inr same ↦ under-gone f (open-in f has) same ∙ sym same
  ]

  hit-gone : (f : Exchange) → Contains S.exchanges f → hits l t p d m S h none room f.opening ≡ true → is_going (x ∷ l) f.opening ≡ false
  hit-gone f has hit =
      under-gone f (open-in f has) (sym (kept-hits l t p d m S h none room e over.it f (open-in f has).0) ∙ ap not hit)

  -- The pieces of the others.
  apart : (f : Exchange) → OpenIn h.before.reads.start l f → is_other e.token f ≡ true → eqb f.opening e.opening ≡ false
  apart f a other = elim (told (eqb f.opening e.opening)) [
    | inl same ↦ absurd (other-opening l t p d m S h none room e over.it f a.0 other (eqb-same f.opening e.opening same))
    | inr differs ↦ differs
  ]

  one-fetched : (f : Exchange) → (numbers (got_in l f.opening) ≡ numbers_of f.opening S.pieces) × (OpenIn h.before.reads.start l f × (is_other e.token f ≡ true))
      → numbers (got_in (x ∷ l) f.opening) ≡ numbers_of f.opening (filter (is_of_other e) S.pieces)
  one-fetched f a =
      ap numbers (got-stays x l f.opening _ a.1.0.0.opening (replies-kept l t p d m f.opening (other-unhit l t p d m S h none room e over.it f a.1.0.0 a.1.1)))
      ∙ (a.0 ∙ sym (numbers-others e f.opening (apart f a.1.0 a.1.1) S.pieces))

  pieces-left : PiecesIn (x ∷ l) (left_by S.entries (e ∷ []) others) (filter (is_of_other e) S.pieces)
  pieces-left = record {
    fetched = left-all (λ (f : Exchange). numbers (got_in (x ∷ l) f.opening) ≡ numbers_of f.opening (filter (is_of_other e) S.pieces)) (λ f k. k) S.entries (e ∷ []) others
        (all-more _ _ one-fetched others (all-both _ _ others (all-filter _ (is_other e.token) S.exchanges h.before.reads.pieces_are.fetched) each-other));
    below = all-filter _ (is_of_other e) S.pieces (below-more l (x ∷ l) S.pieces (omega arith) h.before.reads.pieces_are.below);
  }

  -- and what those ask about
  one-stale : (f : Exchange) → (kept_in l f.opening ≡ stale_in f.opening S.stales) × (OpenIn h.before.reads.start l f × (is_other e.token f ≡ true))
      → kept_in (x ∷ l) f.opening ≡ stale_in f.opening (filter (is_stale_of_other e) S.stales)
  one-stale f a =
      kept-stays x l f.opening _ a.1.0.0.opening (replies-kept l t p d m f.opening (other-unhit l t p d m S h none room e over.it f a.1.0.0 a.1.1))
      ∙ (a.0 ∙ sym (stale-others e f.opening (apart f a.1.0 a.1.1) S.stales))

  stales-left : StalesIn (x ∷ l) (left_by S.entries (e ∷ []) others) (filter (is_stale_of_other e) S.stales)
  stales-left = record {
    kept = left-all (λ (f : Exchange). kept_in (x ∷ l) f.opening ≡ stale_in f.opening (filter (is_stale_of_other e) S.stales)) (λ f k. k) S.entries (e ∷ []) others
        (all-more _ _ one-stale others (all-both _ _ others (all-filter _ (is_other e.token) S.exchanges h.before.reads.stales_are.kept) each-other));
    below = all-filter _ (is_stale_of_other e) S.stales (stales-below l (x ∷ l) S.stales (omega arith) h.before.reads.stales_are.below);
  }

  silent : counting l x.note ≡ None
  silent = answered-silent l t p d m S h none room e over.it

  -- what is observed after it
  left : map held_of (watches (x ∷ l)) ≡ watches_by t m S.entries (Over e how) S.watches
  left =
      let legal = legal-so l t p d m n S h spelled none room in
      written-left x l S h.before.reads (e ∷ []) ends legal (told_in l t p d m S h none room)
      (told-stand l t p d m (answers l p m) (notice_of l t p m (answers l p m)) h.before.reads.legal (follows-so l t p d m n S h spelled none room))
      ∙ (one-written S e (map held_of (told_in l t p d m S h none room))
      ∙ ap (without (is_written_by (asked_in S.entries e.ask))) (answered-told l t p d m S h none room e over.it))

  -- Its first reply is this one, or one of those before.
  abbrev kept-it : ExchangeIn h.before.reads.start l e
  kept-it = kept x l S h.before.reads (legal-so l t p d m n S h spelled none room) e over.it.has

  request-same : over.it.kept.request ≡ kept-it.request
  request-same = ap (λ (b : Begun). b.request) (some-is _ _ (sym over.it.kept.opening ∙ kept-it.opening))

  first-fresh : is_get kept-it.request ≡ true → (w : Response) (first : Reply) (more : List Reply) → over.real ≡ Whole w (first ∷ more)
      → outdated (x ∷ l) (asked_key kept-it.request) first.number ≡ not (newest_by (first ∷ more) e.newest)
  first-fresh get w first more is =
      let a = kept-it in
      let reply = reply_of l over.it.sending m in
      let stepped : step (progress_with e.work (got_in l e.opening)) reply ≡ EndsSoFar (Whole w (first ∷ more)) =
      ap (λ (u : Progress). step u reply) (sym a.progress) ∙ (sym (progress-push a.request (heard_for l e.opening) reply)
      ∙ (ap (λ (q : CoapRequest). progress q (heard_for l e.opening ++ reply ∷ [])) (sym request-same) ∙ over.whole w (first ∷ more) is)) in
      newest-more x l (asked_key a.request) e.newest reply silent refl (got_in l e.opening) (first ∷ more) (a.newest get)
      (step-all (progress_with e.work (got_in l e.opening)) reply w (first ∷ more) (going e.work) stepped ∙ ap (λ (gs : List Reply). gs ++ reply ∷ []) (got-with e.work (got_in l e.opening)))
    where
      going : (k : Work) (how : Ending) → progress_with k (got_in l e.opening) ≡ EndsSoFar how → ⊥
      going (W.Fetches k p) how f = cc
      going (W.Gives u) how f = cc

      got-with : (k : Work) (got : List Reply) → got_by (progress_with k got) ≡ got
      got-with (W.Fetches k p) got = refl
      got-with (W.Gives u) got = refl

  -- what is stored after it
  settles : Ending → Type 0
  settles real = StoreIn (x ∷ l) (settled S.entries (Some e) (newest_content S.entries t e (bare_ending real)) S.store)

  plainly : ((u : Stored) (v : Reply) → over.real ≡ Renewed u v → ⊥) → settles over.real
  unfolding settles
  plainly plain = store-settled x l S h.before.reads (legal-so l t p d m n S h spelled none room) e over.it.has ends over.real over.ends silent refl plain tt first-fresh

  store-over : (real : Ending) → over.real ≡ real → StoreIn (x ∷ l) (settled S.entries (Some e) (newest_content S.entries t e (bare_ending over.real)) S.store)
  unfolding settles
  store-over (Renewed s u) is =
      subst settles (sym is)
      (store-resettled x l S h.before.reads (legal-so l t p d m n S h spelled none room) e over.it.has ends s u
      (subst (λ (how : Ending). end_of (x ∷ l) e.opening ≡ Some (record { number = length l; how = how })) is over.ends) silent tt)
  store-over (Whole w rs) is = plainly (λ u v f. cc (sym is ∙ f))
  store-over NotUnderstood is = plainly (λ u v f. cc (sym is ∙ f))
  store-over Reset is = plainly (λ u v f. cc (sym is ∙ f))
  store-over TimedOut is = plainly (λ u v f. cc (sym is ∙ f))
  store-over Turned is = plainly (λ u v f. cc (sym is ∙ f))

  pub left-over : Left l t p d m n S h spelled none room (Over e how)
  left-over =
      let r = h.before.reads in
      let legal = legal-so l t p d m n S h spelled none room in
      let waits = all-filter (λ (f : Exchange). WaitsUnder (link_of S.links f.peer).waiting f) (is_other e.token) S.exchanges r.waiting_are in
      record {
        issued_are = ap (λ (k : ℕ). r.start.issued + k) (issued-still l t p d m S h none room (answered-unopened l t p d m S h none room e over.it) hit-gone) ∙ r.issued_are;
        keys = open-later x l S.exchanges (openings-same l t p d m S h none room (answered-unopened l t p d m S h none room e over.it)) r.keys
            ∙ (ap (map opening_of) (filter-by (λ (f : Exchange). is_going (x ∷ l) f.opening) (is_other e.token) S.exchanges (each-of _ S.exchanges same-test))
            ∙ sym (left-openings S.entries (e ∷ []) others));
        exchanges_are = left-each (ExchangeIn r.start (x ∷ l)) (λ (f : Exchange). OpenIn r.start l f × (is_other e.token f ≡ true)) S.entries (e ∷ [])
            (λ f a. kept-one l t p (link_of S.links p) d m r.legal f (outrun_by S.entries (e ∷ []) f).current f.newest a.0.0
            (other-unhit l t p d m S h none room e over.it f a.0.0 a.1) (current-now x l S r (e ∷ []) ends legal f a.0.0)
            (λ get. newest-quiet x l (asked_key a.0.0.request) (got_in l f.opening) f.newest silent (a.0.0.newest get))
            (λ s k. outdated-quiet x l (asked_key a.0.0.request) (first_in s.list) silent ∙ a.0.0.newest_kept s k)) others each-other;
        pieces_are = pieces-left;
        stales_are = stales-left;
        watches_are = left;
        unnoticed = λ q away. over-unnoticed l t p d m n S h spelled none room e over.it left q away;
        store_is = subst (λ (u : Ending). StoreIn (x ∷ l) (settled S.entries (Some e) (newest_content S.entries t e u) S.store)) (sym over.same)
            (store-over over.real refl);
        tokens_are = r.tokens_are;
        waiting_are = left-all (λ (f : Exchange). WaitsUnder (link_of _ f.peer).waiting f) (λ f k. k) S.entries (e ∷ []) others
            (waits-with p _ S.links others (all-more _ _ (λ f k at_p. subst (λ (q : Peer). WaitsUnder (link_of S.links q).waiting f) at_p k) others waits) waits);
        link_is = says-agrees _ l t p (link_of S.links p) d m (is_one_of (gone_by m S.entries (Over e how) S.watches)) (link-before l t S h.before p) none room
            (over-forgets l t p d m n S h spelled none room e over.it left)
            (answered-resets l t p d m n S h spelled none room e over.it (tokens_of (is_written_by (asked_in S.entries e.ask)) S.watches))
            (none-goes-on l t p d m S h none room (answered-unopened l t p d m S h none room e over.it) hit-gone);
      }
