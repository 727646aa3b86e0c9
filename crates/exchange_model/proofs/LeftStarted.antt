-- A notification that brings the first piece of a representation opens an exchange, which fetches the rest of it.
use Rattle.std.proofs.Common.{◌≡◌, ℕ, ◌+◌, ◌<◌, Bool, true, false, cond, eqb, List, [], ◌∷◌, ◌++◌, length, map, Option, None, inl, inr, refl, sym, ap, subst, ◌∙◌, append-nil, arith}
use Rattle.std.specs.Prelude.{filter, is_some}
use Rattle.std.specs.List.{AllByRecursion, Contains}
use Rattle.std.proofs.lemmas.List.{map_push}
use Rattle.std.proofs.lemmas.List.Elements.{Contains-push_cases}
use Rattle.coap_codec.specs.Spelling.{Content, Spells}
use Rattle.uri_map.specs.declared.peer.Peer.{Peer}
use Rattle.message_layer.specs.Values.{LinkState}
use Rattle.message_layer.specs.Sending.{queued, waits as waits_with}
use Rattle.message_layer.specs.Hearing.{verdict_of}
use Rattle.message_layer.specs.declared.state.Waiting.{Waiting}
use Rattle.observe_share.specs.declared.notice.Notice.TheVariants.{Update}
use Rattle.observe_share.specs.declared.registration.Registration.{Registration}
use Rattle.ask_model.specs.Requests.{CoapRequest}
use Rattle.history_laws.specs.Numbering.{token_number}
use Rattle.history_laws.specs.Readings.{Noted}
use Rattle.history_laws.specs.Transmissions.{FirstSending, firsts}
use Rattle.history_laws.specs.Progress.{Reply, numbers, Progress}
use Rattle.history_laws.specs.Exchanges.{is_going, open_exchanges, opened_by, openings}
use Rattle.history_laws.specs.Hearing.{can_be_remembered, repeated}
use Rattle.history_laws.proofs.CallerLemmas.{all-filter, all-more, all-of, all-push, begun-below, filter-all, filter-push, opened-issued, rank-below, eqb-same}
use Rattle.history_links.specs.Steps.{heard, heard_link}
use Rattle.history_links.proofs.CallerLemmas.{goes-on-agrees}
use Rattle.exchange_model.specs.declared.kept.Exchange.{Exchange}
use Rattle.exchange_model.specs.declared.kept.Piece.{Piece}
use Rattle.exchange_model.specs.State.{State, link_of, with_link}
use Rattle.exchange_model.specs.Watching.{is_one_of}
use Rattle.exchange_model.specs.Reads.{ExchangeIn, got_in, kept_in, opening_of, PiecesIn, StalesIn, WaitsUnder}
use Rattle.exchange_model.specs.Matters.{Starts as StartsIt, answered_in, is_reading, numbers_of, stale_in}
use Rattle.exchange_model.specs.Hearing.{got_by, is_of_other, Numbers, outdated_by, pieces_with}
use Rattle.exchange_model.specs.Laws.{IsContinued, MayHear}
use Rattle.exchange_model.proofs.Answered.{ended}
use Rattle.exchange_model.proofs.Bare.{bare, got-bare}
use Rattle.exchange_model.proofs.Begins.{below-issued, waits-with}
use Rattle.exchange_model.proofs.Fetched.{IsMore, numbers-gone, numbers-others, numbers-push-other, numbers-push-own}
use Rattle.exchange_model.proofs.Fetches as Fetches
use Rattle.exchange_model.proofs.Hearing.{going-later}
use Rattle.exchange_model.proofs.Left.{Left}
use Rattle.exchange_model.proofs.LeftTold.{ends, goes, left, one-told, out-not, out-now, outdated-openings, pieces, stales, waits}
use Rattle.exchange_model.proofs.Lists.{all-map, each-of}
use Rattle.exchange_model.proofs.Observed.{told-forgets, told-resets, told-unnoticed}
use Rattle.exchange_model.proofs.Opened.{OpenIn, open-ones}
use Rattle.exchange_model.proofs.Pieces.{none-of-new}
use Rattle.exchange_model.proofs.Retold.{store-told}
use Rattle.exchange_model.proofs.Silent.{link-before}
use Rattle.exchange_model.proofs.Stales.{stale-new}
use Rattle.exchange_model.proofs.ToldAlone.{IsStarted}

not-same : (a b : ℕ) → a < b → eqb a b ≡ false
not-same a b lt = by (eqb a b) refl
  where
    by : (c : Bool) → eqb a b ≡ c → c ≡ false
    by false e = refl
    by true e = let same = eqb-same a b e in absurd (omega (arith, same, lt))

not-same-as : (a b : ℕ) → b < a → eqb a b ≡ false
not-same-as a b lt = by (eqb a b) refl
  where
    by : (c : Bool) → eqb a b ≡ c → c ≡ false
    by false e = refl
    by true e = let same = eqb-same a b e in absurd (omega (arith, same, lt))

module _ (l : List Noted) (t : ℕ) (p : Peer) (d : List ℕ) (m : Content) (n : Numbers) (S : State) (h : MayHear l t p d S)
    (spelled : Spells m d) (none : repeated l t p m ≡ None) (room : can_be_remembered l t p m ≡ true)
    (is : answered_in (ended l t p d m S h none room) S.exchanges ≡ None) (r : Registration) (e : Exchange) (u : Progress)
    (k : IsStarted l t p d m S h none room is r e u) (g : IsContinued e u n S) where
  abbrev x : Noted
  x = heard l t p d m

  abbrev new : Exchange
  new = record e { token = n.token }

  abbrev old : List Exchange
  old = map (outdated_by S.entries r.key) S.exchanges

  abbrev first : Reply
  first = record { number = length l; sending = k.is_told.sending; message = m }

  here : length S.entries ≡ length l
  here = Fetches.here l t p d m n S h spelled none room is r e u k g

  opening-new : e.opening ≡ length l
  opening-new = ap (λ (f : Exchange). f.opening) k.begins ∙ here

  -- Those of before were opened before.
  opened-before : AllByRecursion (λ (f : Exchange). f.opening < length l) old
  opened-before = all-map (outdated_by S.entries r.key) (λ (f : Exchange). f.opening < length l) S.exchanges
      (all-more (OpenIn h.before.reads.start l) _ (λ f a. one f (begun-below l f.opening _ a.0.opening)) S.exchanges (open-ones l S h.before.reads))
    where
      one : (f : Exchange) → f.opening < length l → (outdated_by S.entries r.key f).opening < length l
      one f lt = by (is_reading S.entries r.key f)
        where
          by : (b : Bool) → (cond b (record f { newest = false }) f).opening < length l
          by true = lt
          by false = lt

  keys-now : open_exchanges (x ∷ l) ≡ map opening_of (old ++ new ∷ [])
  keys-now =
      ap (filter (is_going (x ∷ l))) (ap (λ (v : Option CoapRequest). opened_by (length l) v (openings l)) (Fetches.opens l t p d m n S h spelled none room is r e u k g))
      ∙ (filter-push (is_going (x ∷ l)) (openings l) (length l) (Fetches.goes-new l t p d m n S h spelled none room is r e u k g)
      ∙ (ap (λ (os : List ℕ). os ++ length l ∷ []) (going-later x l S.exchanges h.before.reads.keys
      ∙ (ap (map opening_of) (filter-all (λ (f : Exchange). is_going (x ∷ l) f.opening) S.exchanges (each-of _ S.exchanges (goes l t p d m n S h spelled none room is r None k.is_told)))
      ∙ sym (outdated-openings S.entries r.key S.exchanges)))
      ∙ (ap (λ (o : ℕ). map opening_of old ++ o ∷ []) (sym opening-new)
      ∙ sym (map_push opening_of old new))))

  -- the pieces

  pieces-so : (xs : List Piece)
      → ((f : Exchange) → f.opening < length l → numbers_of f.opening xs ≡ numbers_of f.opening S.pieces)
      → numbers (got_in (x ∷ l) e.opening) ≡ numbers_of e.opening xs
      → AllByRecursion (λ (y : Piece). y.opening < length (x ∷ l)) xs → PiecesIn (x ∷ l) (old ++ new ∷ []) xs
  pieces-so xs same own below = record {
    fetched = all-push (λ (f : Exchange). numbers (got_in (x ∷ l) f.opening) ≡ numbers_of f.opening xs) old new
        (both old opened-before (pieces l t p d m n S h spelled none room is r None k.is_told).fetched) own;
    below = below;
  }
    where
      both : (fs : List Exchange) → AllByRecursion (λ (f : Exchange). f.opening < length l) fs
          → AllByRecursion (λ (f : Exchange). numbers (got_in (x ∷ l) f.opening) ≡ numbers_of f.opening S.pieces) fs
          → AllByRecursion (λ (f : Exchange). numbers (got_in (x ∷ l) f.opening) ≡ numbers_of f.opening xs) fs
      both [] a b = tt
      both (f ∷ fs) a b = (b.0 ∙ sym (same f a.0), both fs a.1 b.1)

  none-before : numbers_of e.opening S.pieces ≡ []
  none-before = ap (λ (o : ℕ). numbers_of o S.pieces) opening-new ∙ none-of-new (length l) S.pieces h.before.reads.pieces_are.below

  got-now : got_in (x ∷ l) e.opening ≡ got_by (Fetches.real l t p d m n S h spelled none room is r e u k g)
  got-now = ap (got_in (x ∷ l)) opening-new ∙ Fetches.got-first l t p d m n S h spelled none room is r e u k g

  pieces-left : PiecesIn (x ∷ l) (old ++ new ∷ []) (pieces_with e (length S.entries) (got_by u) S.pieces)
  pieces-left =
      subst (λ (got : List Reply). PiecesIn (x ∷ l) (old ++ new ∷ []) (pieces_with e (length S.entries) got S.pieces))
      (sym (ap got_by (Fetches.same-how l t p d m n S h spelled none room is r e u k g) ∙ got-bare (Fetches.real l t p d m n S h spelled none room is r e u k g)))
      (by (got_by (Fetches.real l t p d m n S h spelled none room is r e u k g)) refl (Fetches.is-first l t p d m n S h spelled none room is r e u k g))
    where
      still : AllByRecursion (λ (y : Piece). y.opening < length (x ∷ l)) S.pieces
      still = (pieces l t p d m n S h spelled none room is r None k.is_told).below

      by : (rs : List Reply) → got_by (Fetches.real l t p d m n S h spelled none room is r e u k g) ≡ rs → IsMore [] first rs
          → PiecesIn (x ∷ l) (old ++ new ∷ []) (pieces_with e (length S.entries) (map bare rs) S.pieces)
      by [] same more =
          pieces-so (filter (is_of_other e) S.pieces)
          (λ f lt. numbers-others e f.opening (subst (λ (o : ℕ). eqb f.opening o ≡ false) (sym opening-new) (not-same f.opening (length l) lt)) S.pieces)
          (ap numbers (got-now ∙ same) ∙ sym (numbers-gone e S.pieces))
          (all-filter _ (is_of_other e) S.pieces still)
      by (y ∷ rs) same (inl gone) = absurd (cc gone)
      by (y ∷ rs) same (inr one) =
          pieces-so (S.pieces ++ record { opening = e.opening; number = length S.entries } ∷ [])
          (λ f lt. numbers-push-other f.opening (record { opening = e.opening; number = length S.entries })
          (subst (λ (o : ℕ). eqb o f.opening ≡ false) (sym opening-new) (not-same-as (length l) f.opening lt)) S.pieces)
          (ap numbers (got-now ∙ (same ∙ one))
          ∙ (ap (λ (j : ℕ). j ∷ []) (sym here)
          ∙ sym (numbers-push-own (record { opening = e.opening; number = length S.entries }) S.pieces ∙ ap (λ (ns : List ℕ). ns ++ length S.entries ∷ []) none-before)))
          (all-push (λ (z : Piece). z.opening < length (x ∷ l)) S.pieces (record { opening = e.opening; number = length S.entries }) still (let o = opening-new in omega (arith, o)))

  -- It asks about nothing.
  stales-left : StalesIn (x ∷ l) (old ++ new ∷ []) S.stales
  stales-left =
      let before_it = stales l t p d m n S h spelled none room is r None k.is_told in
      record {
        kept = all-push (λ (f : Exchange). kept_in (x ∷ l) f.opening ≡ stale_in f.opening S.stales) old new before_it.kept
            (subst (λ (o : ℕ). kept_in (x ∷ l) o ≡ stale_in o S.stales) (sym opening-new)
            (Fetches.keeps-none l t p d m n S h spelled none room is r e u k g
            ∙ sym (sym (ap (stale_in (length l)) (append-nil S.stales)) ∙ stale-new (length l) None S.stales h.before.reads.stales_are.below)));
        below = before_it.below;
      }

  -- what waits

  abbrev last : Waiting
  last = waits_with n.token n.text n.word

  above : (a : Peer) (v : Waiting) → Contains (link_of S.links a).waiting v → token_number v.token ≡ token_number n.token → ⊥
  above a v has same =
      let less = below-issued l S a v h.before.reads has in
      let number = g.number in
      omega (arith, less, same, number)

  waits-old : (f : Exchange) → OpenIn h.before.reads.start l f → WaitsUnder (link_of S.links f.peer).waiting f → WaitsUnder ((link_of S.links f.peer).waiting ++ last ∷ []) f
  waits-old f a under v has same = elim (Contains-push_cases (link_of S.links f.peer).waiting last v has) [
    | inl earlier ↦ under v earlier same
    | inr now ↦
        let less = rank-below l f.opening _ h.before.reads.legal a.0.opening a.1 in
        let mine = a.0.number in
        let issued = h.before.reads.issued_are in
        let it = ap (λ (w : Waiting). token_number w.token) now in
        let number = g.number in
        absurd (omega (arith, less, mine, issued, it, same, number))
  ]

  all-old : AllByRecursion (λ (f : Exchange). WaitsUnder ((link_of S.links f.peer).waiting ++ last ∷ []) f) old
  all-old = waits l t p d m n S h spelled none room is r None k.is_told (λ (q : Peer). (link_of S.links q).waiting ++ last ∷ [])
      (each-of _ S.exchanges (λ f has. waits-old f (all-of (OpenIn h.before.reads.start l) S.exchanges f (open-ones l S h.before.reads) has)
      (all-of (λ (f : Exchange). WaitsUnder (link_of S.links f.peer).waiting f) S.exchanges f h.before.reads.waiting_are has)))

  waits-new : WaitsUnder ((link_of S.links p).waiting ++ last ∷ []) new
  waits-new v has same = elim (Contains-push_cases (link_of S.links p).waiting last v has) [
    | inl earlier ↦ absurd (above p v earlier same)
    | inr now ↦ ap (λ (w : Waiting). w.token) (sym now)
  ]

  abbrev new_link : LinkState
  new_link = queued t last (heard_link t m.mid m.token (is_one_of []) (verdict_of t (link_of S.links p) m) (link_of S.links p))

  waits-left : AllByRecursion (λ (f : Exchange). WaitsUnder (link_of (with_link p new_link S.links) f.peer).waiting f) (old ++ new ∷ [])
  waits-left = waits-with p new_link S.links (old ++ new ∷ [])
      (all-push (λ (f : Exchange). f.peer ≡ p → WaitsUnder new_link.waiting f) old new
      (all-more _ _ (λ f a at_p. subst (λ (q : Peer). WaitsUnder ((link_of S.links q).waiting ++ last ∷ []) f) at_p a) old all-old) (λ at_p. waits-new))
      (all-push (λ (f : Exchange). WaitsUnder (link_of S.links f.peer).waiting f) old new
      (waits l t p d m n S h spelled none room is r None k.is_told (λ (q : Peer). (link_of S.links q).waiting) h.before.reads.waiting_are)
      (λ v has same. absurd (above e.peer v has same)))

  pub left-started : Left l t p d m n S h spelled none room (StartsIt r e u)
  left-started =
      let b = h.before.reads in
      let changed = left l t p d m n S h spelled none room is r None k.is_told in
      record {
        issued_are = (let more = opened-issued x l b.legal (ap is_some (Fetches.opened l t p d m n S h spelled none room is r e u k g)) (Fetches.goes-new l t p d m n S h spelled none room is r e u k g) in
            let before_it = b.issued_are in omega (arith, more, before_it));
        keys = keys-now;
        exchanges_are = all-push (ExchangeIn b.start (x ∷ l)) old new
            (all-map (outdated_by S.entries r.key) (ExchangeIn b.start (x ∷ l)) S.exchanges (each-of _ S.exchanges (one-told l t p d m n S h spelled none room is r None k.is_told)))
            (Fetches.kept-first l t p d m n S h spelled none room is r e u k g);
        pieces_are = pieces-left;
        stales_are = stales-left;
        watches_are = changed;
        unnoticed = λ q away. told-unnoticed l t p d m n S h spelled none room is r None k.is_told changed (Update k.version_is) k.update q away;
        store_is = store-told l t p d m n S h spelled none room is r None k.is_told (ends l t p d m n S h spelled none room is r None k.is_told)
            (out-now l t p d m n S h spelled none room is r None k.is_told) (out-not l t p d m n S h spelled none room is r None k.is_told);
        tokens_are = all-more _ (λ (f : FirstSending). token_number f.message.token < S.issued + 1) (λ f less. omega (arith, less)) (firsts l) b.tokens_are;
        waiting_are = waits-left;
        link_is = goes-on-agrees _ l t p (link_of S.links p) d m (length l) n.token n.text n.word (is_one_of []) (link-before l t S h.before p) none room
            (told-forgets l t p d m n S h spelled none room is r None k.is_told changed (Update k.version_is) k.update)
            (told-resets l t p d m n S h spelled none room is r None k.is_told (is_one_of []))
            (Fetches.goes-first l t p d m n S h spelled none room is r e u k g);
      }
