-- An ask that can be answered by what is stored is.
use Rattle.std.proofs.Common.{◌≡◌, ℕ, zero, suc, ◌+◌, ◌<◌, ◌≤◌, true, false, inl, inr, List, Option, Some, refl, sym, ap, subst, ◌∙◌, arith}
use Rattle.std.proofs.lemmas.Bool.Decides.{leb_tells}
use Rattle.coap_codec.specs.Spelling.{Content}
use Rattle.uri_map.specs.declared.peer.Peer.{Peer}
use Rattle.cache_key.specs.declared.place.Place.{Place}
use Rattle.ask_model.specs.Requests.{CoapRequest, Sense, Requests}
use Rattle.ask_model.specs.Sharing.{asked_key, asks_same}
use Rattle.ask_model.specs.Views.{Ask}
use Rattle.ask_model.proofs.CallerLemmas.{asks-onward, same-key, same-place}
use Rattle.resp_cache.specs.Stored.{Stored, lifetime, is_fresh}
use Rattle.journal_book.specs.Entries.{Grounds, Live, Asks, Hears, Answers, Written}
use Rattle.history_laws.specs.Readings.{Noted, Note, Begins, Renews, Serves, entries, at, before, noted, Says}
use Rattle.history_laws.specs.Connections.{is_sealed}
use Rattle.history_laws.specs.Exchanges.{opens_by, Begun, begun}
use Rattle.history_laws.specs.Joining.{outrun, is_joinable, asks_the_same}
use Rattle.history_laws.specs.Storing.{IsRenewal, IsStored, IsCrowdedOut, MissesAlone, first_in}
use Rattle.history_laws.specs.Justified.{AskNote, Follows, Legal, AtRest, Stands, UnservedNote}
use Rattle.history_laws.specs.Laws.{IsFirst}
use Rattle.history_laws.proofs.CallerLemmas.{at-below, at-same, at-still, before-twice, begun-opening, follows-at, legal-before, none-some, opened-for, renewal-shared, shared-is, unserved-of}
use Rattle.history_claims.specs.Headline.{IsAsked}
use Rattle.history_claims.specs.Once.{AreFew, IsHeld, told, used, IsUnwritten, WasTold, IsAtHand, IsServedSo, CanWaitFor, IsSentNothing, AreAskedOnce, IsUnnotified}
use Rattle.history_claims.specs.Order.{CanBeSpared}
use Rattle.history_claims.proofs.Entries.{entries-at}
use Rattle.history_claims.proofs.Given.{served-so}
use Rattle.history_claims.proofs.Held.{asks-come, uncrowded}
use Rattle.history_claims.proofs.Quiet.{asks-a-get, asks-through, at-there, unsealed-before}
use Rattle.history_claims.proofs.Told.{e, fresh-so, listed-so, quiet, stored, stored-then, told-in, untold-since, used-then}
use Rattle.history_claims.proofs.Latest.{IsLatest, joinable-so, stored-once}
use Rattle.history_claims.proofs.Messages.{moments-rise}
use Rattle.history_claims.proofs.Notified.{notice-began}
use Rattle.history_claims.proofs.Unsent.{none-for-other}
use Rattle.history_claims.proofs.Unshared.{asks-itself}
use Rattle.history_claims.proofs.Waits.{opens-none, sent-nothing}
use Rattle.history_claims.proofs.Written.{unsealed}
use Rattle.cache_key.specs.Keys.{CacheKey}
use Rattle.history_laws.specs.Observing.{outdated}

held-later : (h : List Written) (q : CoapRequest) (n k : ℕ) → IsHeld h q n k → n < k
held-later h q n k (told lt few) = lt
held-later h q n k (used o c t r asked same held lt few) = let below = held-later h q n o held in omega (arith, below, lt)

-- What is stored for a GET is stored for each equal one.
for-equal : (l : List Noted) (q r : CoapRequest) (s : Stored) → asks_same q r ≡ true → IsLatest l q s → IsLatest l r s
for-equal l q r s same (it, last) =
    let a = shared-is l q it.opening it.shared in (
      record {
        opening = it.opening;
        ending = it.ending;
        first = it.first;
        more = it.more;
        comes = it.comes;
        shared = joinable-so l r it.opening a.exchange a.opened (asks-onward q r a.exchange.request same a.same)
            (subst (λ (p : Place). outrun l p it.opening ≡ false) (same-place q r same) a.fresh);
        newest = subst (λ (k : CacheKey). outdated l k it.first.number ≡ false) (same-key q r same) it.newest;
        latest = λ o e w first rs comes may new.
            it.latest o e w first rs comes (back o may) (subst (λ (k : CacheKey). outdated l k first.number ≡ false) (sym (same-key q r same)) new);
        entry = it.entry;
        heard_in = it.heard_in;
        heard = it.heard;
        origin = it.origin;
        list = it.list;
      },
      λ e renewal. last e (renewal-back renewal),
    )
  where
    renewal-back : {e : ℕ} → IsRenewal l r e → IsRenewal l q e
    renewal-back h =
        let b = renewal-shared l r h.opening h.same in
        record {
          opening = h.opening;
          kept = h.kept;
          reply = h.reply;
          ended = h.ended;
          same = subst (λ (v : Option Begun). asks_the_same q v ≡ true) (sym b.1) (asks-through q r b.0.request same b.2);
          current = subst (λ (p : Place). outrun l p h.kept.opening ≡ false) (sym (same-place q r same)) h.current;
          newest = subst (λ (k : CacheKey). outdated l k (first_in h.kept.list) ≡ false) (sym (same-key q r same)) h.newest;
        }

    back : (o : ℕ) → is_joinable l r o ≡ true → is_joinable l q o ≡ true
    back o may =
        let b = shared-is l r o may in
        joinable-so l q o b.exchange b.opened (asks-through q r b.exchange.request same b.same)
        (subst (λ (p : Place). outrun l p o ≡ false) (sym (same-place q r same)) b.fresh)

asks-no-answer : (s t c d k : ℕ) (a : Ask) (g : Grounds) (u v : Note) → noted s (Asks c a) u ≡ noted t (Answers d k g) v → ⊥
asks-no-answer s t c d k a g u v e = go (ap (λ (x : Noted). x.written.deed) e)
  where
    go : Asks c a ≡ Answers d k g → ⊥
    go f = cc

hears-no-answer : (s t : ℕ) (p : Peer) (b : List ℕ) (d k : ℕ) (g : Grounds) (u v : Note) → noted s (Hears p b) u ≡ noted t (Answers d k g) v → ⊥
hears-no-answer s t p b d k g u v e = go (ap (λ (x : Noted). x.written.deed) e)
  where
    go : Hears p b ≡ Answers d k g → ⊥
    go f = cc

-- what was told in the entry n, and the ask k of a later moment
module _ (l : List Noted) (legal : Legal l) (q : CoapRequest) (o n : ℕ) (js : List ℕ) (was : WasTold (entries l) q o n js)
    (k : ℕ) (z : Noted) (here : at l k ≡ Some z) (later : n < k) (none : IsUnwritten (entries l) o k q) (untold : IsUnnotified (entries l) js k q)
    (young : z.written.moment < was.since + lifetime was.response.max_age) (open_then : is_sealed (before l k) ≡ false) where
  abbrev S : Stored
  S = stored l legal q o n js was

  abbrev IsCrowded : ℕ → Type 0
  IsCrowded m = IsCrowdedOut (before l m) (asked_key q)

  young-at : (i : ℕ) (x : Noted) → at l i ≡ Some x → i < k → is_fresh x.written.moment S ≡ true
  young-at i x there lt =
      let le = moments-rise l i k x z legal there here lt in
      fresh-so l legal q o n js was x.written.moment (omega (arith, le, young))

  -- Where it is stored, an equal GET is served, but where others crowded it out.
  misses-none : (i c t : ℕ) (a : Ask) (note : Note) (r : CoapRequest) → a.sense ≡ Requests r → asks_same q r ≡ true → IsLatest (before l i) q S
      → is_fresh t S ≡ true → (IsCrowded i → ⊥) → MissesAlone (before l i) t r → ⊥
  misses-none i c t a note r sense same is fresh free misses =
      free (subst (IsCrowdedOut (before l i)) (sym (same-key q r same)) (misses S (unrenewed (for-equal (before l i) q r S same is)) fresh))
    where
      unrenewed : IsLatest (before l i) r S → IsStored (before l i) r S
      unrenewed (is, last) = inl (inl (is, λ e it. let lt = last e it in omega (arith, lt)))

  serves : (i c t : ℕ) (a : Ask) (note : Note) (r : CoapRequest) → at l i ≡ Some (noted t (Asks c a) note) → a.sense ≡ Requests r → asks_same q r ≡ true
      → IsLatest (before l i) q S → is_fresh t S ≡ true → (IsCrowded i → ⊥) → (ns : List ℕ) × (note ≡ Serves ns)
  serves i c t a note r stands sense same is fresh free = by note (unserved (follows-at l i _ legal stands))
    where
      unserved : Follows (before l i) t (Asks c a) note → UnservedNote (before l i) t (Requests r) note
      unserved may = subst (λ (s : Sense). UnservedNote (before l i) t s note) sense (unserved-of (before l i) t a note may.4)

      by : (note : Note) → UnservedNote (before l i) t (Requests r) note → (ns : List ℕ) × (note ≡ Serves ns)
      by (Serves ns) h = (ns, refl)
      by note h = absurd (misses-none i c t a note r sense same is fresh free h)

  -- Where it was stored and not crowded out, none was opened for an equal GET.
  told-misses : (y c t : ℕ) (a : Ask) (note : Note) (r : CoapRequest) → opens_by note ≡ Some r → a.sense ≡ Requests r
      → Follows (before l y) t (Asks c a) note → MissesAlone (before l y) t r
  told-misses y c t a note r opens sense may =
      told-so note opens (subst (λ (s : Sense). AskNote (before l y) t s note) sense may.3)
      (subst (λ (s : Sense). UnservedNote (before l y) t s note) sense (unserved-of (before l y) t a note may.4))
    where
      told-so : (note : Note) → opens_by note ≡ Some r → AskNote (before l y) t (Requests r) note → UnservedNote (before l y) t (Requests r) note
          → MissesAlone (before l y) t r
      told-so (Begins s) opens asks h = h
      told-so (Renews s u) opens asks h = h
      told-so (Says m to notice) opens asks h = absurd asks
      told-so note opens asks h = absurd cc

  none-opened : (m : ℕ) → m ≤ k → ((y : ℕ) → n < y → y < m → IsCrowded y → ⊥) → ((y : ℕ) → n < y → y < m → IsLatest (before l y) q S)
      → (y : ℕ) (b : Begun) → e l legal q o n js was < y → y < m → begun l y ≡ Some b → asks_same q b.request ≡ true → ⊥
  none-opened m high free earlier y b after less opened same =
      elim (opened-for l y b legal opened) [
        | inl ask ↦
            let may = follows-at l y _ legal ask.stands in
            elim (leb_tells y n) [
              | inl u ↦ quiet l legal q o n js was y _ after u.1 ask.stands (asks-come (before l y) b.since ask.conn ask.ask ask.note may)
              | inr u ↦
                  misses-none y ask.conn b.since ask.ask ask.note b.request ask.sense same (earlier y u.1 less)
                  (young-at y _ ask.stands (omega (arith, less, high))) (free y u.1 less)
                  (told-misses y ask.conn b.since ask.ask ask.note b.request ask.opens ask.sense may)
            ]
        | inr notice ↦
            untold-since l legal q o n js was k z here later none untold young k later (omega arith) notice.ask y b.request notice.message after (omega (arith, less, high))
            (notice-began l y b legal notice).notified same
      ]

  stored-at : (fuel m : ℕ) → m < fuel → n < m → m ≤ k → ((y : ℕ) → n < y → y < m → IsCrowded y → ⊥) → IsLatest (before l m) q S
  stored-at zero m lt low high free = absurd (omega (arith, lt))
  stored-at (suc fuel) m lt low high free =
      stored-then l legal q o n js was k z here later none untold young m low high
      (none-opened m high free
      (λ y above less. stored-at fuel y (omega (arith, lt, less)) above (omega (arith, less, high)) (λ i over below. free i over (omega (arith, below, less)))))

  there-at : (m : ℕ) → m ≤ k → (v : Noted) × (at l m ≡ Some v)
  there-at m le = let below = at-below l k z here in at-there l m (omega (arith, below, le))

  unsealed-at : (m : ℕ) → m < k → is_sealed (before l m) ≡ false
  unsealed-at m lt =
      subst (λ (v : List Noted). is_sealed v ≡ false) (before-twice l k m z here lt) (unsealed-before (before l k) m open_then)

  -- It isn't crowded out after the answer that told it, while few others are asked for,
  free-told : (up : ℕ) → up ≤ k → AreFew (entries l) n up q → (m : ℕ) → n < m → m ≤ up → IsCrowded m → ⊥
  free-told up le few m low high =
      let answer = told-in l legal q o n js was in
      let it = there-at m (omega (arith, high, le)) in
      uncrowded l n (e l legal q o n js was) up _ q legal answer.1 (unsealed-at n later) unopened few (quiet l legal q o n js was) m it.0 it.1 high (used-then l legal q o n js was k z here later none untold young m low (omega (arith, high, le)))
    where
      unopened : (b : Begun) → begun l n ≡ Some b → ⊥
      unopened b opened =
          let answer = told-in l legal q o n js was in
          elim (opened-for l n b legal opened) [
            | inl ask ↦ asks-no-answer b.since was.told_at ask.conn was.conn o ask.ask (Live js) ask.note answer.0 (at-same l n _ _ ask.stands answer.1)
            | inr notice ↦ hears-no-answer b.since was.told_at notice.peer notice.bytes was.conn o (Live js) _ answer.0 (at-same l n _ _ notice.stands answer.1)
          ]

  -- nor after an ask to which it was served
  module _ (a c t : ℕ) (r : CoapRequest) (asked : IsAsked (entries l) a c t (Requests r)) (same : asks_same q r ≡ true) (after : n < a) (below : a < k)
      (earlier : (m : ℕ) → n < m → m ≤ a → IsCrowded m → ⊥) where
    abbrev asker : Ask
    asker = record { came = asked.came; sense = Requests r; rules = asked.rules }

    there : (note : Note) × (at l a ≡ Some (noted t (Asks c asker) note))
    there = entries-at l a _ asked.stands

    served : (ns : List ℕ) × (there.0 ≡ Serves ns)
    served =
        serves a c t asker there.0 r there.1 refl same
        (stored-at (suc a) a (omega arith) after (omega (arith, below)) (λ y above less. earlier y above (omega (arith, less))))
        (young-at a _ there.1 below) (earlier a after (omega arith))

    stands : at l a ≡ Some (noted t (Asks c asker) (Serves served.0))
    stands = subst (λ (note : Note). at l a ≡ Some (noted t (Asks c asker) note)) served.1 there.1

    unopened : (b : Begun) → begun l a ≡ Some b → ⊥
    unopened b opened =
        let opening = begun-opening l a b opened in
        none-some b.request (sym (ap (λ (x : Noted). opens_by x.note) (at-same l a _ _ opening.2 stands)) ∙ opening.3)

    at-m : (m : ℕ) → a < m → m ≤ k → at (before l m) a ≡ Some (noted t (Asks c asker) (Serves served.0))
    at-m m less high =
        let deep = at-below l k z here in
        let it = at-there l m (omega (arith, deep, high)) in
        at-still l m a it.0 _ it.1 less stands

    free-used : (up : ℕ) → up ≤ k → AreFew (entries l) a up q → (m : ℕ) → a < m → m ≤ up → IsCrowded m → ⊥
    free-used up le few m less high =
        let it = there-at m (omega (arith, high, le)) in
        uncrowded l a a up _ q legal stands (unsealed-at a below) unopened few (λ i x more at_most e come. omega (arith, more, at_most)) m it.0 it.1 high
        (inl (record {
          moment = t;
          conn = c;
          ask = asker;
          replies = served.0;
          stands = at-m m less (omega (arith, high, le));
          request = r;
          sense = refl;
          is = sym (same-key q r same);
        }))

  -- So while it is held, it isn't crowded out.
  uncrowded-at : (up : ℕ) → up ≤ k → IsHeld (entries l) q n up → (m : ℕ) → n < m → m ≤ up → IsCrowded m → ⊥
  uncrowded-at up le (told lt few) m low high = free-told up le few m low high
  uncrowded-at up le (used a c t r asked same held lt few) m low high =
      elim (leb_tells m a) [
        | inl u ↦ uncrowded-at a (omega (arith, lt, le)) held m low u.1
        | inr u ↦
            free-used a c t r asked same (held-later (entries l) q n a held) (omega (arith, lt, le))
            (λ v above at_most. uncrowded-at a (omega (arith, lt, le)) held v above at_most) up le few m u.1 high
      ]

-- So the ask is served, by what was told.
abbrev ask_in : (h : List Written) (k c t : ℕ) (q : CoapRequest) → IsAsked h k c t (Requests q) → Ask
ask_in h k c t q a = record { came = a.came; sense = Requests q; rules = a.rules }

served-note : (l : List Noted) → Legal l → (k c t : ℕ) (q : CoapRequest) (js : List ℕ) (asked : IsAsked (entries l) k c t (Requests q))
    → IsAtHand (entries l) k t q js → at l k ≡ Some (noted t (Asks c (ask_in (entries l) k c t q asked)) (Serves js))
served-note l legal k c t q js asked h =
    let asker : Ask = ask_in (entries l) k c t q asked in
    let there = entries-at l k _ asked.stands in
    let later = held-later (entries l) q h.answer k h.held in
    let open_then = unsealed l k c asker legal (record { moment = t; note = there.0; stands = there.1 }) in
    let z : Noted = noted t (Asks c asker) there.0 in
    let free = uncrowded-at l legal q h.ask h.answer js h.told k z there.1 later h.unwritten h.unnotified h.fresh open_then k (omega arith) h.held in
    let is = stored-at l legal q h.ask h.answer js h.told k z there.1 later h.unwritten h.unnotified h.fresh open_then (suc k) k (omega arith) later (omega arith)
    (λ y above less. free y above (omega (arith, less))) in
    let get = asks-a-get q h.told.request h.told.same in
    let note = serves l legal q h.ask h.answer js h.told k z there.1 later h.unwritten h.unnotified h.fresh open_then k c t asker there.0 q there.1 refl (asks-itself q get)
    is (fresh-so l legal q h.ask h.answer js h.told t h.fresh) (free k later (omega arith)) in
    let stands = subst (λ (note : Note). at l k ≡ Some (noted t (Asks c asker) note)) note.1 there.1 in
    let it = given-of l k c t asker q note.0 (follows-at l k _ legal stands) in
    let list : note.0 ≡ js =
    sym it.2 ∙ (sym (stored-once (before l k) q (stored l legal q h.ask h.answer js h.told) it.0 (legal-before l k legal) is it.1) ∙ listed-so l legal q h.ask h.answer js h.told) in
    subst (λ (ns : List ℕ). at l k ≡ Some (noted t (Asks c asker) (Serves ns))) list stands
  where
    given-of : (l : List Noted) (k c t : ℕ) (a : Ask) (q : CoapRequest) (ns : List ℕ)
        → Follows (before l k) t (Asks c (record { came = a.came; sense = Requests q; rules = a.rules })) (Serves ns)
        → (s : Stored) × IsStored (before l k) q s × (s.list ≡ ns)
    given-of l k c t a q ns may = by may.3
      where
        by : AskNote (before l k) t (Requests q) (Serves ns) → (s : Stored) × IsStored (before l k) q s × (s.list ≡ ns)
        by it = (it.0, it.1, it.3)

pub served-in : (l : List Noted) → Legal l → AtRest l → (k c t : ℕ) (q : CoapRequest) (js : List ℕ) → IsAsked (entries l) k c t (Requests q)
    → IsAtHand (entries l) k t q js → IsServedSo (entries l) k c t q js
served-in l legal rest k c t q js asked h =
    served-so l k c t (ask_in (entries l) k c t q asked) q js legal (served-note l legal k c t q js asked h) refl rest

waits-in : (l : List Noted) → Legal l → (k c t o : ℕ) (q : CoapRequest) → IsAsked (entries l) k c t (Requests q) → CanWaitFor (entries l) k o q
    → IsSentNothing (entries l) k c q
waits-in l legal k c t o q asked h =
    let there = entries-at l k _ asked.stands in
    sent-nothing l k t c (record { came = asked.came; sense = Requests q; rules = asked.rules }) there.0 q legal there.1 refl o h

serves-opens-none : (js : List ℕ) (q : CoapRequest) → opens_by (Serves js) ≡ Some q → ⊥
serves-opens-none js q e = none-some q e

pub spared-in : (l : List Noted) → Legal l → (k c t : ℕ) (q : CoapRequest) → IsAsked (entries l) k c t (Requests q) → CanBeSpared (entries l) k t q
    → (s i : ℕ) (p : Peer) (m : Content) → IsFirst l s k i p m → ⊥
spared-in l legal k c t q asked (inl h) s i p m f =
    none-for-other l k c t (ask_in (entries l) k c t q asked) (Serves h.0) legal (served-note l legal k c t q h.0 asked h.1)
    (λ r e. serves-opens-none h.0 r e) s i p m f
spared-in l legal k c t q asked (inr h) s i p m f =
    let there = entries-at l k _ asked.stands in
    none-for-other l k c t (ask_in (entries l) k c t q asked) there.0 legal there.1
    (opens-none l k t c (ask_in (entries l) k c t q asked) there.0 q legal there.1 refl h.0 h.1) s i p m f

pub asks-once : (h : List Written) → Stands h → AreAskedOnce h
asks-once h s =
    subst AreAskedOnce s.entries_are
    (record { served = served-in s.reading s.legal s.at_rest; waits = waits-in s.reading s.legal })
