-- A message by which an exchange goes on leaves all of them open.
use Rattle.std.proofs.Common.{◌≡◌, ℕ, ◌+◌, ◌<◌, Bool, true, false, not, cond, eqb, List, [], ◌∷◌, ◌++◌, length, map, None, inl, inr, refl, sym, ap, subst, ◌∙◌, append-nil, arith}
use Rattle.std.specs.Prelude.{filter, is_none}
use Rattle.std.specs.List.{AllByRecursion, Contains}
use Rattle.std.specs.Str.{bytes_eq}
use Rattle.std.proofs.lemmas.Bool.{false≢true}
use Rattle.coap_codec.specs.Spelling.{Content, Spells}
use Rattle.uri_map.specs.declared.peer.Peer.{Peer}
use Rattle.message_layer.specs.Values.{LinkState}
use Rattle.message_layer.specs.Sending.{queued, waits}
use Rattle.message_layer.specs.Hearing.{verdict_of}
use Rattle.ask_model.specs.Sharing.{asked_key, asked_place}
use Rattle.history_laws.specs.Numbering.{token_number}
use Rattle.history_laws.specs.Readings.{Noted}
use Rattle.history_laws.specs.Transmissions.{FirstSending, firsts}
use Rattle.history_laws.specs.Hearing.{answers, can_be_remembered, notice_of, repeated}
use Rattle.history_laws.specs.Observing.{counting, watches}
use Rattle.history_laws.specs.Joining.{outrun}
use Rattle.history_laws.specs.Justified.{Ends}
use Rattle.history_laws.specs.Progress.{Reply, numbers, Progress, Whole, Ending, Renewed}
use Rattle.history_laws.specs.Exchanges.{end_of, is_going, kept as kept_of, replies}
use Rattle.history_laws.proofs.CallerLemmas.{all-filter, all-more, all-of, all-push, contains-none, entries-length, eqb-itself, eqb-same, filter-all, IsGoing, begun-below}
use Rattle.history_links.specs.Steps.{EndsReset, heard, heard_link}
use Rattle.history_links.proofs.CallerLemmas.{goes-on-agrees}
use Rattle.exchange_model.specs.declared.kept.Exchange.{Exchange}
use Rattle.exchange_model.specs.declared.kept.Piece.{Piece}
use Rattle.exchange_model.specs.State.{State, link_of, with_link}
use Rattle.exchange_model.specs.Watching.{is_one_of, registered}
use Rattle.exchange_model.specs.Reads.{ExchangeIn, got_in, held_of, opening_of, PiecesIn, WaitsUnder, StalesIn, kept_in, kept_yet}
use Rattle.exchange_model.specs.Steps.{is_under}
use Rattle.exchange_model.specs.Matters.{Goes, asked_in, numbers_of, stale_in}
use Rattle.exchange_model.specs.Hearing.{gone_by, unless_registered, continued, goes_so, got_by, is_of_other, Numbers, pieces_with, is_stale_of_other}
use Rattle.exchange_model.specs.Laws.{IsContinued, MayHear}
use Rattle.exchange_model.proofs.Answered.{hits, other-going, other-opening, other-unhit, same-opening, start, openings-same}
use Rattle.exchange_model.proofs.Bare.{bare, bare_progress, got-bare}
use Rattle.exchange_model.proofs.Begins.{waits-with}
use Rattle.exchange_model.proofs.Fetched.{IsMore, numbers-gone, numbers-others, numbers-push, numbers-push-other, numbers-push-own}
use Rattle.exchange_model.proofs.Hearing.{kept-one, open-later, replies-kept}
use Rattle.exchange_model.proofs.Left.{follows-so, Left, legal-so, told}
use Rattle.exchange_model.proofs.Noticing.{answered-silent, answered-told, told as told_in, answered-unopened}
use Rattle.exchange_model.proofs.Observed.{answered-resets, registered-forgets, registered-unnoticed}
use Rattle.exchange_model.proofs.Watches.{newest-quiet, outdated-quiet}
use Rattle.exchange_model.proofs.Written.{none-dropped, told-stand, written-left}
use Rattle.exchange_model.proofs.Lists.{all-map, each-of}
use Rattle.exchange_model.proofs.Onward.{goes-on, got-now, is-more, issued-now, kept-on, waits-new, waits-old, waits-yet, replies-now}
use Rattle.exchange_model.proofs.Opened.{OpenIn, open-ones}
use Rattle.exchange_model.proofs.Outrun.{current-still, EndsThose}
use Rattle.exchange_model.proofs.Over.{IsOnward, reply_of}
use Rattle.exchange_model.proofs.Pieces.{below-more, got-stays}
use Rattle.exchange_model.proofs.Retiring.{store-retired}
use Rattle.exchange_model.proofs.Settling.{is-ended}
use Rattle.exchange_model.proofs.Silent.{link-before}
use Rattle.exchange_model.proofs.Stales.{kept-replied, kept-stays, stale-gone, stale-others, stales-below}
use Rattle.history_laws.specs.Storing.{first_in}

goes-openings : (e : Exchange) (token : List ℕ) (how : Progress) (fs : List Exchange)
    → map opening_of (map (goes_so e token how) fs) ≡ map opening_of fs
goes-openings e token how [] = refl
goes-openings e token how (f ∷ fs) = by (bytes_eq f.token e.token) (goes-openings e token how fs)
  where
    by : (b : Bool) → map opening_of (map (goes_so e token how) fs) ≡ map opening_of fs
        → ((cond b (continued token how f) f).opening ∷ map opening_of (map (goes_so e token how) fs)) ≡ (f.opening ∷ map opening_of fs)
    by true ih = ap (λ (os : List ℕ). f.opening ∷ os) ih
    by false ih = ap (λ (os : List ℕ). f.opening ∷ os) ih

module _ (l : List Noted) (t : ℕ) (p : Peer) (d : List ℕ) (m : Content) (n : Numbers) (S : State) (h : MayHear l t p d S)
    (spelled : Spells m d) (none : repeated l t p m ≡ None) (room : can_be_remembered l t p m ≡ true)
    (e : Exchange) (real_now how : Progress) (is_going_on : IsGoing real_now)
    (on : IsOnward (start l t p d m S h none room) l t p d m S e how) (real : on.real ≡ real_now)
    (g : IsContinued e how n S) where
  abbrev x : Noted
  x = heard l t p d m

  abbrev now : Progress
  now = bare_progress real_now

  abbrev more : List Reply
  more = got_by real_now

  open-in : (f : Exchange) → Contains S.exchanges f → OpenIn h.before.reads.start l f
  open-in f has = all-of (OpenIn h.before.reads.start l) S.exchanges f (open-ones l S h.before.reads) has

  at-it : (f : Exchange) → OpenIn h.before.reads.start l f → is_under e.token f ≡ true → f.opening ≡ e.opening
  at-it f a under = same-opening l t p d m S h none room e on.it f a under

  unhit : (f : Exchange) → OpenIn h.before.reads.start l f → is_under e.token f ≡ false → hits l t p d m S h none room f.opening ≡ false
  unhit f a other = other-unhit l t p d m S h none room e on.it f a.0 (ap not other)

  goes : (f : Exchange) → Contains S.exchanges f → is_going (x ∷ l) f.opening ≡ true
  goes f has = elim (told (is_under e.token f)) [
    | inl under ↦ subst (λ (o : ℕ). is_going (x ∷ l) o ≡ true) (sym (at-it f (open-in f has) under)) (ap is_none on.going)
    | inr other ↦ other-going l t p d m S h none room e on.it f (open-in f has) (ap not other)
  ]

  ends : EndsThose x l S []
  ends = record { ended = λ f c. absurd (contains-none f c); all = λ f has gone. absurd (false≢true (sym gone ∙ goes f has)) }

  none-now : (o : ℕ) (end : Ending) → end_of l o ≡ None → Ends (x ∷ l) o (length l) end → ⊥
  none-now o end going so =
      let found = is-ended x l S h.before.reads (legal-so l t p d m n S h spelled none room) [] ends o _ going so in
      contains-none found.0 found.1

  current : (f : Exchange) (a : ExchangeIn h.before.reads.start l f) → f.current ≡ not (outrun (x ∷ l) (asked_place a.request) f.opening)
  current f a = current-still x l S h.before.reads [] ends (legal-so l t p d m n S h spelled none room) refl f a

  silent : counting l x.note ≡ None
  silent = answered-silent l t p d m S h none room e on.it

  left : map held_of (watches (x ∷ l)) ≡ registered t m e (asked_in S.entries e.ask) S.watches
  left =
      let legal = legal-so l t p d m n S h spelled none room in
      written-left x l S h.before.reads [] ends legal (told_in l t p d m S h none room)
      (told-stand l t p d m (answers l p m) (notice_of l t p m (answers l p m)) h.before.reads.legal (follows-so l t p d m n S h spelled none room))
      ∙ (none-dropped (map held_of (told_in l t p d m S h none room)) ∙ answered-told l t p d m S h none room e on.it)

  resets : EndsReset l p (verdict_of t (link_of S.links p) m).news (is_one_of (unless_registered m e S.watches))
  resets = subst (λ (ks : List (List ℕ)). EndsReset l p (verdict_of t (link_of S.links p) m).news (is_one_of ks)) (append-nil (unless_registered m e S.watches))
      (answered-resets l t p d m n S h spelled none room e on.it [])

  one-kept : (f : Exchange) → Contains S.exchanges f → (b : Bool) → is_under e.token f ≡ b
      → ExchangeIn h.before.reads.start (x ∷ l) (cond b (continued n.token now f) f)
  one-kept f has true under =
      let a = open-in f has in
      kept-on l t p d m S h none room e real_now how is_going_on on real n g f (at-it f a under) a.0 (current f a.0)
  one-kept f has false other =
      let a = open-in f has in
      kept-one l t p (link_of S.links p) d m h.before.reads.legal f f.current f.newest a.0 (unhit f a other) (current f a.0)
      (λ get. newest-quiet x l (asked_key a.0.request) (got_in l f.opening) f.newest silent (a.0.newest get))
      (λ s k. outdated-quiet x l (asked_key a.0.request) (first_in s.list) silent ∙ a.0.newest_kept s k)

  -- the pieces

  here : length S.entries ≡ length l
  here = ap length (sym h.before.reads.entries_are) ∙ entries-length l

  abbrev last : Piece
  last = record { opening = e.opening; number = length S.entries }

  fetched-before : (f : Exchange) → Contains S.exchanges f → numbers (got_in l f.opening) ≡ numbers_of f.opening S.pieces
  fetched-before f has = all-of (λ (f : Exchange). numbers (got_in l f.opening) ≡ numbers_of f.opening S.pieces) S.exchanges f h.before.reads.pieces_are.fetched has

  got-other : (f : Exchange) → Contains S.exchanges f → is_under e.token f ≡ false → numbers (got_in (x ∷ l) f.opening) ≡ numbers_of f.opening S.pieces
  got-other f has other =
      let a = open-in f has in
      ap numbers (got-stays x l f.opening _ a.0.opening (replies-kept l t p d m f.opening (unhit f a other))) ∙ fetched-before f has

  apart : (f : Exchange) → Contains S.exchanges f → is_under e.token f ≡ false → eqb f.opening e.opening ≡ false
  apart f has other = elim (told (eqb f.opening e.opening)) [
    | inl same ↦ absurd (other-opening l t p d m S h none room e on.it f (open-in f has).0 (ap not other) (eqb-same f.opening e.opening same))
    | inr differs ↦ differs
  ]

  turned-round : (a b : ℕ) → eqb a b ≡ false → eqb b a ≡ false
  turned-round a b differs = elim (told (eqb b a)) [
    | inl same ↦ absurd (false≢true (sym differs ∙ subst (λ (c : ℕ). eqb a c ≡ true) (sym (eqb-same b a same)) (eqb-itself a)))
    | inr other ↦ other
  ]

  opening-of : (f : Exchange) (b : Bool) → (cond b (continued n.token now f) f).opening ≡ f.opening
  opening-of f true = refl
  opening-of f false = refl

  -- it begins anew
  anew-fetched : more ≡ [] → (f : Exchange) → Contains S.exchanges f → numbers (got_in (x ∷ l) f.opening) ≡ numbers_of f.opening (filter (is_of_other e) S.pieces)
  anew-fetched none_yet f has = elim (told (is_under e.token f)) [
    | inl under ↦
        let same = at-it f (open-in f has) under in
        ap (λ (o : ℕ). numbers (got_in (x ∷ l) o)) same
        ∙ (ap numbers (got-now l t p d m S h none room e real_now how is_going_on on real n g ∙ none_yet)
        ∙ (sym (numbers-gone e S.pieces) ∙ ap (λ (o : ℕ). numbers_of o (filter (is_of_other e) S.pieces)) (sym same)))
    | inr other ↦ got-other f has other ∙ sym (numbers-others e f.opening (apart f has other) S.pieces)
  ]

  -- or has a piece more
  more-fetched : more ≡ got_in l e.opening ++ reply_of l on.it.sending m ∷ [] → (f : Exchange) → Contains S.exchanges f
      → numbers (got_in (x ∷ l) f.opening) ≡ numbers_of f.opening (S.pieces ++ last ∷ [])
  more-fetched one_more f has = elim (told (is_under e.token f)) [
    | inl under ↦
        let same = at-it f (open-in f has) under in
        let before_it : numbers (got_in l e.opening) ≡ numbers_of e.opening S.pieces = subst (λ (o : ℕ). numbers (got_in l o) ≡ numbers_of o S.pieces) same (fetched-before f has) in
        ap (λ (o : ℕ). numbers (got_in (x ∷ l) o)) same
        ∙ (ap numbers (got-now l t p d m S h none room e real_now how is_going_on on real n g ∙ one_more)
        ∙ (numbers-push (got_in l e.opening) (reply_of l on.it.sending m)
        ∙ (ap (λ (ns : List ℕ). ns ++ length l ∷ []) before_it
        ∙ (ap (λ (i : ℕ). numbers_of e.opening S.pieces ++ i ∷ []) (sym here)
        ∙ (sym (numbers-push-own last S.pieces) ∙ ap (λ (o : ℕ). numbers_of o (S.pieces ++ last ∷ [])) (sym same))))))
    | inr other ↦ got-other f has other ∙ sym (numbers-push-other f.opening last (turned-round f.opening e.opening (apart f has other)) S.pieces)
  ]

  pieces-so : (xs : List Piece) → ((f : Exchange) → Contains S.exchanges f → numbers (got_in (x ∷ l) f.opening) ≡ numbers_of f.opening xs)
      → AllByRecursion (λ (y : Piece). y.opening < length (x ∷ l)) xs → PiecesIn (x ∷ l) (map (goes_so e n.token now) S.exchanges) xs
  pieces-so xs each below = record {
    fetched = all-map (goes_so e n.token now) (λ (f : Exchange). numbers (got_in (x ∷ l) f.opening) ≡ numbers_of f.opening xs) S.exchanges
        (each-of _ S.exchanges (λ f has. subst (λ (o : ℕ). numbers (got_in (x ∷ l) o) ≡ numbers_of o xs) (sym (opening-of f (is_under e.token f))) (each f has)));
    below = below;
  }

  pieces-left : PiecesIn (x ∷ l) (map (goes_so e n.token now) S.exchanges) (pieces_with e (length S.entries) (got_by now) S.pieces)
  pieces-left =
      subst (λ (got : List Reply). PiecesIn (x ∷ l) (map (goes_so e n.token now) S.exchanges) (pieces_with e (length S.entries) got S.pieces)) (sym (got-bare real_now))
      (by more refl (is-more l t p d m S h none room e real_now how is_going_on on real n g))
    where
      old : AllByRecursion (λ (y : Piece). y.opening < length (x ∷ l)) S.pieces
      old = below-more l (x ∷ l) S.pieces (omega arith) h.before.reads.pieces_are.below

      push-not : (got : List Reply) (r : Reply) → [] ≡ got ++ r ∷ [] → ⊥
      push-not [] r f = cc
      push-not (y ∷ got) r f = cc

      by : (rs : List Reply) → more ≡ rs → IsMore (got_in l e.opening) (reply_of l on.it.sending m) more
          → PiecesIn (x ∷ l) (map (goes_so e n.token now) S.exchanges) (pieces_with e (length S.entries) (map bare rs) S.pieces)
      by [] is any = pieces-so (filter (is_of_other e) S.pieces) (anew-fetched is) (all-filter _ (is_of_other e) S.pieces old)
      by (y ∷ rs) is (inl gone) = absurd (cc (sym is ∙ gone))
      by (y ∷ rs) is (inr one_more) =
          pieces-so (S.pieces ++ last ∷ []) (more-fetched one_more)
          (all-push (λ (y : Piece). y.opening < length (x ∷ l)) S.pieces last old
          (let below = begun-below l e.opening _ on.it.kept.opening in omega (arith, below)))

  -- What it asked about is nothing to it any more.
  stale-now : (f : Exchange) → Contains S.exchanges f → kept_in (x ∷ l) f.opening ≡ stale_in f.opening (filter (is_stale_of_other e) S.stales)
  stale-now f has = elim (told (is_under e.token f)) [
    | inl under ↦
        let same = at-it f (open-in f has) under in
        ap (kept_in (x ∷ l)) same
        ∙ (ap (kept_yet (kept_of (x ∷ l) e.opening)) (replies-now l t p d m S h none room e real_now how is_going_on on real n g)
        ∙ (kept-replied (kept_of (x ∷ l) e.opening) (replies l e.opening) (reply_of l on.it.sending m)
        ∙ (sym (stale-gone e S.stales) ∙ ap (λ (o : ℕ). stale_in o (filter (is_stale_of_other e) S.stales)) (sym same))))
    | inr other ↦
        let a = open-in f has in
        kept-stays x l f.opening _ a.0.opening (replies-kept l t p d m f.opening (unhit f a other))
        ∙ (all-of (λ (f : Exchange). kept_in l f.opening ≡ stale_in f.opening S.stales) S.exchanges f h.before.reads.stales_are.kept has
        ∙ sym (stale-others e f.opening (apart f has other) S.stales))
  ]

  stales-left : StalesIn (x ∷ l) (map (goes_so e n.token now) S.exchanges) (filter (is_stale_of_other e) S.stales)
  stales-left = record {
    kept = all-map (goes_so e n.token now) (λ (f : Exchange). kept_in (x ∷ l) f.opening ≡ stale_in f.opening (filter (is_stale_of_other e) S.stales)) S.exchanges
        (each-of _ S.exchanges (λ f has. subst (λ (o : ℕ). kept_in (x ∷ l) o ≡ stale_in o (filter (is_stale_of_other e) S.stales)) (sym (opening-of f (is_under e.token f))) (stale-now f has)));
    below = all-filter _ (is_stale_of_other e) S.stales (stales-below l (x ∷ l) S.stales (omega arith) h.before.reads.stales_are.below);
  }

  -- what waits

  abbrev new_link : LinkState
  new_link = queued t (waits n.token n.text n.word)
      (heard_link t m.mid m.token (is_one_of (gone_by m S.entries (Goes e now) S.watches)) (verdict_of t (link_of S.links p) m) (link_of S.links p))

  abbrev on_it : Bool → Exchange → Exchange
  on_it b f = cond b (continued n.token now f) f

  waits-before : (f : Exchange) → Contains S.exchanges f → WaitsUnder (link_of S.links f.peer).waiting f
  waits-before f has = all-of (λ (f : Exchange). WaitsUnder (link_of S.links f.peer).waiting f) S.exchanges f h.before.reads.waiting_are has

  waits-there : (f : Exchange) → Contains S.exchanges f → (b : Bool) → WaitsUnder (link_of S.links (on_it b f).peer).waiting (on_it b f)
  waits-there f has true = waits-yet l t p d m S h none room e real_now how is_going_on on real n g f f.peer
  waits-there f has false = waits-before f has

  waits-here : (f : Exchange) → Contains S.exchanges f → (b : Bool) → (on_it b f).peer ≡ p → WaitsUnder new_link.waiting (on_it b f)
  waits-here f has true at_p = waits-new l t p d m S h none room e real_now how is_going_on on real n g f
  waits-here f has false at_p = waits-old l t p d m S h none room e real_now how is_going_on on real n g f (open-in f has) (waits-before f has) at_p

  waits-left : AllByRecursion (λ (f : Exchange). WaitsUnder (link_of (with_link p new_link S.links) f.peer).waiting f) (map (goes_so e n.token now) S.exchanges)
  waits-left = waits-with p new_link S.links (map (goes_so e n.token now) S.exchanges)
      (all-map (goes_so e n.token now) (λ (f : Exchange). f.peer ≡ p → WaitsUnder new_link.waiting f) S.exchanges (each-of _ S.exchanges (λ f has. waits-here f has (is_under e.token f))))
      (all-map (goes_so e n.token now) (λ (f : Exchange). WaitsUnder (link_of S.links f.peer).waiting f) S.exchanges (each-of _ S.exchanges (λ f has. waits-there f has (is_under e.token f))))

  pub left-going : Left l t p d m n S h spelled none room (Goes e now)
  left-going =
      let r = h.before.reads in
      record {
        issued_are = (let one = issued-now l t p d m S h none room e real_now how is_going_on on real n g in let before_it = r.issued_are in omega (arith, one, before_it));
        keys = open-later x l S.exchanges (openings-same l t p d m S h none room (answered-unopened l t p d m S h none room e on.it)) r.keys
            ∙ (ap (map opening_of) (filter-all (λ (f : Exchange). is_going (x ∷ l) f.opening) S.exchanges (each-of _ S.exchanges goes))
            ∙ sym (goes-openings e n.token now S.exchanges));
        exchanges_are = all-map (goes_so e n.token now) (ExchangeIn r.start (x ∷ l)) S.exchanges (each-of _ S.exchanges (λ f has. one-kept f has (is_under e.token f) refl));
        pieces_are = pieces-left;
        stales_are = stales-left;
        watches_are = left;
        unnoticed = λ q away. registered-unnoticed l t p d m n S h spelled none room e on.it left q away;
        store_is = store-retired x l S r (legal-so l t p d m n S h spelled none room) [] ends silent tt (λ o w rs going so. none-now o (Whole w rs) going so) (λ o s u going so. none-now o (Renewed s u) going so);
        tokens_are = all-more _ (λ (f : FirstSending). token_number f.message.token < S.issued + 1) (λ f less. omega (arith, less)) (firsts l) r.tokens_are;
        waiting_are = waits-left;
        link_is = goes-on-agrees _ l t p (link_of S.links p) d m e.opening n.token n.text n.word (is_one_of (unless_registered m e S.watches)) (link-before l t S h.before p) none room
            (registered-forgets l t p d m n S h spelled none room e on.it left) resets
            (goes-on l t p d m S h none room e real_now how is_going_on on real n g);
      }
