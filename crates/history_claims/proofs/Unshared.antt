-- Of two open exchanges for one GET the later wasn't joined to the earlier: a write came between.
use Rattle.std.proofs.Common.{◌≡◌, ℕ, ◌<◌, Bool, true, false, ◌&&◌, not, eqb, inl, inr, List, Option, Some, None, refl, sym, ap, subst, ◌∙◌, arith}
use Rattle.std.specs.Prelude.{is_none, is_some}
use Rattle.std.specs.List.{Contains}
use Rattle.uri_map.specs.declared.peer.Peer.{Peer}
use Rattle.std.proofs.lemmas.Bool.{false≢true, and_parts}
use Rattle.cache_key.specs.declared.place.Place.{Place}
use Rattle.cache_key.specs.Keys.{same_key, same_place}
use Rattle.cache_key.proofs.CallerLemmas.{keys_decided, places_decided}
use Rattle.ask_model.specs.Requests.{CoapRequest, Requests}
use Rattle.ask_model.specs.Sharing.{asked_key, asked_place, is_get, asks_same}
use Rattle.ask_model.specs.Views.{Ask}
use Rattle.journal_book.specs.Entries.{Grounds, Deed, Asks, Answers, Hears}
use Rattle.history_laws.specs.Readings.{Noted, Note, entries, at, before, noted}
use Rattle.history_laws.specs.Connections.{is_sealed}
use Rattle.history_laws.specs.Exchanges.{opens_by, Begun, begun, End, end_of, is_going, open_exchanges}
use Rattle.history_laws.specs.Joining.{asks_the_same, writes_at, outrun, joins}
use Rattle.history_laws.specs.Justified.{AskNote, Follows, Legal}
use Rattle.history_laws.proofs.CallerLemmas.{any-of, AskedFor, at-below, at-same, before-twice, begun-before, begun-below, begun-early, begun-opening, end-since, ends-first, follows-at, length-before, none-joined, open-exactly, opened-for, opens-so, outran, Outran, some-is, started, StartedFor}
use Rattle.history_claims.specs.Headline.{IsEntry, IsAsked, IsWrite}
use Rattle.history_claims.specs.Causes.{AreUnshared}
use Rattle.history_claims.proofs.Entries.{entries-at, asked-entry, grows}
use Rattle.history_claims.proofs.Asking.{answers-ask}
use Rattle.history_claims.proofs.Unsent.{sealed-still}
use Rattle.history_claims.proofs.Pending.{asked-reads, senses, over-grounds}
use Rattle.history_claims.proofs.Written.{is-ended}

-- an exchange is for what its ask asks
pub asked-request : (l : List Noted) (o c t : ℕ) (b : Begun) (q : CoapRequest) → Legal l → begun l o ≡ Some b → IsAsked (entries l) o c t (Requests q)
    → b.request ≡ q
asked-request l o c t b q legal e asked =
    let there = entries-at l o _ asked.stands in
    elim (opened-for l o b legal e) [
      | inl it ↦
          requests-same b.request q
          (sym it.sense ∙ senses b.since t it.conn c it.ask _ it.note there.0 (at-same l o _ _ it.stands there.1))
      | inr it ↦ absurd (asks-not t b.since c _ it.peer it.bytes there.0 _ (at-same l o _ _ there.1 it.stands))
    ]
  where
    asks-not : (s t c : ℕ) (a : Ask) (p : Peer) (b : List ℕ) (u v : Note) → noted s (Asks c a) u ≡ noted t (Hears p b) v → ⊥
    asks-not s t c a p b u v e = go (ap (λ (x : Noted). x.written.deed) e)
      where
        go : Asks c a ≡ Hears p b → ⊥
        go f = cc

    requests-same : (q r : CoapRequest) → Requests q ≡ Requests r → q ≡ r
    requests-same q r e = cc

-- a GET asks the same as itself
both-true : (a b : Bool) → a ≡ true → b ≡ true → (a && b) ≡ true
both-true true b e f = f
both-true false b e f = absurd (false≢true e)

pub asks-itself : (q : CoapRequest) → is_get q ≡ true → asks_same q q ≡ true
asks-itself q e =
    both-true (is_get q) _ e (both-true (is_get q) (same_key (asked_key q) (asked_key q)) e ((keys_decided (asked_key q) (asked_key q)).1 refl))

-- What isn't a GET was opened by an ask.
pub write-asked : (l : List Noted) (o : ℕ) (b : Begun) → Legal l → begun l o ≡ Some b → eqb b.request.method 1 ≡ false → AskedFor l o b
write-asked l o b legal opened write = elim (opened-for l o b legal opened) [
  | inl it ↦ it
  | inr it ↦ absurd (false≢true (sym write ∙ (and_parts (eqb b.request.method 1) _ (started l o b legal it).get).0))
]

pub writes-method : (q : CoapRequest) (v : Begun) → writes_at (asked_place q) v ≡ true → eqb v.request.method 1 ≡ false
writes-method q v is = not-false (eqb v.request.method 1) (and_parts (not (eqb v.request.method 1)) (same_place (asked_place q) (asked_place v.request)) is).0
  where
    not-false : (b : Bool) → not b ≡ true → b ≡ false
    not-false true e = absurd (false≢true e)
    not-false false e = refl

-- what outruns is a write
pub is-write : (l : List Noted) (q : CoapRequest) (w : ℕ) (v : Begun) → Legal l → begun l w ≡ Some v → writes_at (asked_place q) v ≡ true
    → IsWrite (entries l) q w
is-write l q w v legal opened is =
    let it = write-asked l w v legal opened (writes-method q v is) in
    let parts = and_parts (not (eqb v.request.method 1)) (same_place (asked_place q) (asked_place v.request)) is in
    let place = (places_decided (asked_place q) (asked_place v.request)).0 parts.1 in
    record {
      conn = it.conn;
      moment = v.since;
      request = v.request;
      asked = asked-entry l w it.conn v.since it.ask it.note (Requests v.request) it.stands it.sense;
      changes = λ e. false≢true (subst (λ (n : ℕ). not (eqb n 1) ≡ true) e parts.0);
      place = (sym (ap (λ (p : Place). p.peer) place), sym (ap (λ (p : Place). p.path) place));
    }

-- An answer comes after the end of its exchange.
pub answered-after : (l : List Noted) (k : ℕ) (x : Noted) → Legal l → at l k ≡ Some x → is_sealed (before l k) ≡ false
    → (w : ℕ) (v : Begun) (end : End) → begun l w ≡ Some v → AskedFor l w v → end_of (before l k) w ≡ Some end
    → (n u e : ℕ) (g : Grounds) → n < k → IsEntry (entries l) n u (Answers e w g) → end.number < n
answered-after l k x legal here unsealed w v end opened it ended n u e g lt entry =
    let its = answers-ask l n u e w g legal entry in
    let twice = before-twice l k n x here lt in
    elim (over-grounds l n w v.since it.conn it.ask it.note v.request it.opens (asked-reads l w v legal it) it.stands it.sense u g its.0.grounds) [
      | inl over ↦
          let y = is-ended (end_of (before l n) w) over in
          let last = ends-first (before l n) w y.0.number y.0.how y.1 in
          let still = end-since (before l k) n w y.0 (subst (λ (v : List Noted). end_of v w ≡ Some y.0) (sym twice) y.1) in
          let same : y.0 ≡ end = some-is y.0 end (sym still ∙ ended) in
          subst (λ (e : End). e.number < n) same
          (subst (λ (m : ℕ). y.0.number < m) its.1 (at-below (before l n) y.0.number last.0 last.1))
      | inr sealed ↦
          let now = grows (λ (l : List Noted). is_sealed l ≡ true) (λ y l h. sealed-still y.written.deed (is_sealed l) h) (before l k) n
          (subst (λ (v : List Noted). is_sealed v ≡ true) (sym twice) sealed) in
          absurd (false≢true (sym unsealed ∙ now))
    ]

-- Nothing is fetched for a notification while an exchange for the same is open.
pub not-fetched : (l : List Noted) (b : ℕ) (second : Begun) → Legal l → StartedFor l b second → (a : ℕ) (first : Begun) → begun (before l b) a ≡ Some first
    → end_of (before l b) a ≡ None → asks_same second.request first.request ≡ true → ⊥
not-fetched l b second legal it a first opened going same =
    let unread = (started l b second legal it).starts.unread in
    let among = (open-exactly (before l b) a).1 (ap is_some opened, going) in
    let any = any-of (λ (o : ℕ). asks_the_same second.request (begun (before l b) o)) (open_exchanges (before l b)) a among
    (subst (λ (v : Option Begun). asks_the_same second.request v ≡ true) (sym opened) same) in
    false≢true (sym unread ∙ any)

module _ (l : List Noted) (k : ℕ) (x : Noted) (legal : Legal l) (here : at l k ≡ Some x) (unsealed : is_sealed (before l k) ≡ false)
    (a b : ℕ) (first second : Begun) (opened_first : begun (before l k) a ≡ Some first) (opened_second : begun (before l k) b ≡ Some second)
    (going : is_going (before l k) a ≡ true) (lt : a < b) where
  below : b < k
  below = subst (λ (m : ℕ). b < m) (length-before l k x here) (begun-below (before l k) b second opened_second)

  opened_later : begun l b ≡ Some second
  opened_later = begun-before l k b second opened_second

  opening : (d : Deed) × (note : Note) × (at l b ≡ Some (noted second.since d note)) × (opens_by note ≡ Some second.request)
  opening = begun-opening l b second opened_later

  -- the earlier was open
  was-open : end_of (before l b) a ≡ None
  was-open = go (end_of (before l b) a) refl
    where
      go : (e : Option End) → end_of (before l b) a ≡ e → e ≡ None
      go None is = refl
      go (Some e) is =
          let still = end-since (before l k) b a e (subst (λ (v : List Noted). end_of v a ≡ Some e) (sym (before-twice l k b x here below)) is) in
          absurd (false≢true (subst (λ (e : Option End). is_none e ≡ true) still going))

  opened-then : begun (before l b) a ≡ Some first
  opened-then = begun-early l b a first (at-below l b _ opening.2) (begun-before l k a first opened_first) lt

  among : Contains (open_exchanges (before l b)) a
  among = (open-exactly (before l b) a).1 (ap is_some opened-then, was-open)

  -- so a write outran it, or the later ask would have joined it
  outran-it : asks_same second.request first.request ≡ true → AskedFor l b second → Outran (before l b) (asked_place second.request) a
  outran-it same it = go (outrun (before l b) (asked_place second.request) a) refl
    where
      note : Follows (before l b) second.since (Asks it.conn it.ask) it.note → AskNote (before l b) second.since it.ask.sense it.note
      note may = may.3

      joined-none : joins (before l b) second.request ≡ None
      joined-none = (opens-so (before l b) second.since it.ask.sense it.note second.request it.opens (note (follows-at l b _ legal it.stands))).alone

      go : (late : Bool) → outrun (before l b) (asked_place second.request) a ≡ late → Outran (before l b) (asked_place second.request) a
      go true is = outran (before l b) (asked_place second.request) a is
      go false is =
          absurd (none-joined (before l b) second.request a joined-none (record {
            is_open = among;
            exchange = first;
            opened = opened-then;
            same = same;
            fresh = is;
          }))

  -- and it wasn't answered before its end
  late-answer : (q : CoapRequest) (h : Outran (before l b) (asked_place q) a) (n u e : ℕ) (g : Grounds) → n < a
      → IsEntry (entries l) n u (Answers e h.opening g) → ⊥
  late-answer q h n u e g early entry =
      let ended = end-since (before l k) b h.opening h.end (subst (λ (v : List Noted). end_of v h.opening ≡ Some h.end) (sym (before-twice l k b x here below)) h.ended) in
      let lower = below in
      let opened = begun-before l b h.opening h.write h.opened in
      let asked = write-asked l h.opening h.write legal opened (writes-method q h.write h.changes) in
      let after = answered-after l k x legal here unsealed h.opening h.write h.end opened asked ended n u e g (omega (arith, early, lt, lower)) entry in
      let later = h.later in
      absurd (omega (arith, after, early, later))

  pub unshared : AreUnshared (entries l) a b first.request second.request
  unshared same = elim (opened-for l b second legal opened_later) [
    | inl it ↦
        let h = outran-it same it in (
          h.opening,
          is-write l second.request h.opening h.write legal (begun-before l b h.opening h.write h.opened) h.changes,
          subst (λ (m : ℕ). h.opening < m) (length-before l b _ opening.2) (begun-below (before l b) h.opening h.write h.opened),
          λ n u e g early entry. late-answer second.request h n u e g early entry,
        )
    | inr it ↦ absurd (not-fetched l b second legal it a first opened-then was-open same)
  ]
