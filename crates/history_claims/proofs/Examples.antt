-- The worked journals, as entries.
use Rattle.std.proofs.Common.{◌≡◌, ℕ, zero, ◌+◌, ◌*◌, ◌^◌, ◌≤◌, Bool, true, false, ◌||◌, not, eqb, inl, inr, List, [], ◌∷◌, length, Option, Some, None, refl, sym, ap, subst, ◌∙◌, arith}
use Rattle.std.specs.List.{slice_get, list_all, range_with_len}
use Rattle.std.proofs.lemmas.Option.{slice_get_within}
use Rattle.std.proofs.lemmas.Bool.{false≢true, or_cases}
use Rattle.limits.specs.declared.TheConstants.{MAX_RETRANSMIT}
use Rattle.coap_codec.specs.declared.block.Block.{Block}
use Rattle.coap_codec.specs.Spelling.{Content, Spells}
use Rattle.coap_codec.proofs.Unique.{spells_one}
use Rattle.uri_map.specs.declared.peer.Peer.{Peer}
use Rattle.ask_model.specs.Requests.{CoapRequest, Requests}
use Rattle.ask_model.specs.Views.{Ask}
use Rattle.ask_model.specs.declared.cause.Cause.TheVariants as C
use Rattle.journal_book.specs.Entries.{Deed, Opens, Asks, Sends, Hears, Written}
use Rattle.history_laws.specs.Readings.{entries}
use Rattle.history_laws.specs.Progress.{first_point, block_for}
use Rattle.history_laws.specs.Worked.{ask_for}
use Rattle.history_laws.specs.WorkedMessages as M
use Rattle.history_laws.specs.WorkedEndings as E
use Rattle.history_laws.specs.WorkedSpoiled as S
use Rattle.history_laws.proofs.CallerLemmas.{all_answered-holds, content-spelled, eqb-same, given_up-holds, put-spelled, range-passes, rejected-holds, some-is, timed_out-holds}
use Rattle.history_claims.specs.Headline.{IsEntry, IsAsked, IsPending, IsShared, IsHeardFor, AreHeardFor, IsNotified}
use Rattle.history_claims.specs.Causes.{AreCopies, IsGivenUp}
use Rattle.history_claims.specs.Worked.{Answered, TimedOut, Rejected, GivenUp, Crossed, Foreseen, Early}
use Rattle.history_claims.proofs.Resting.{rests-heard}
use Rattle.history_claims.proofs.Causes.{causes-in}

pub answered : Answered
answered = (
  rests-heard M.all_answered 11 5000 0 1 (9 ∷ []) all_answered-holds.0 refl refl,
  rests-heard M.all_answered 17 5300 1 4 (16 ∷ []) all_answered-holds.0 refl refl,
)

pub timed-out : TimedOut
timed-out = (
  (causes-in M.given_up 7 93500 0 1 C.Timeout 2 given_up-holds.0 refl).1,
  (causes-in M.given_up 8 93500 1 4 C.Timeout 4 given_up-holds.0 refl).1,
)

pub rejected : Rejected
rejected = (causes-in E.rejected 9 700 1 4 C.Reset 8 rejected-holds.0 refl).1

pub given-up : GivenUp
given-up = (causes-in E.timed_out 14 62000 0 1 C.Timeout 2 timed_out-holds.0 refl).1

-- not so

pub foreseen : Foreseen
foreseen h = let late = h.before 16 (zero, omega arith, refl) in absurd (omega (arith, late))

-- which entries of a list are first sendings, and which are copies
abbrev pub is_first : Deed → Bool
is_first (Sends p b (Some w)) = true
is_first d = false

abbrev is_copy : Deed → Bool
is_copy (Sends p b None) = true
is_copy d = false

abbrev pub passes_in : (Deed → Bool) → Option Written → Bool
passes_in g None = false
passes_in g (Some e) = g e.deed

abbrev pub lies_in : List ℕ → ℕ → Bool
lies_in [] j = false
lies_in (n ∷ ns) j = eqb j n || lies_in ns j

abbrev pub lies_so : (Deed → Bool) → List Written → List ℕ → ℕ → Bool
lies_so g h ns j = not (passes_in g (slice_get h j)) || lies_in ns j

pub places : (g : Deed → Bool) (h : List Written) (ns : List ℕ) (len j t : ℕ) (d : Deed) → length h ≡ len → list_all (lies_so g h ns) (range_with_len 0 len) ≡ true
    → IsEntry h j t d → g d ≡ true → lies_in ns j ≡ true
places g h ns len j t d size all e is =
    let within = slice_get_within h j _ e in
    let so = range-passes (lies_so g h ns) 0 len j all (omega arith) (omega (arith, within, size)) in
    subst (λ (b : Bool). (not b || lies_in ns j) ≡ true) (ap (passes_in g) e ∙ is) so

abbrev pub is_hearing : Deed → Bool
is_hearing (Hears p b) = true
is_hearing d = false

-- A notification comes after another response: where one message was heard, none is one.
pub not-notified : (h : List Written) (o : ℕ) (q : CoapRequest) (j : ℕ) (m : Content) (a : ℕ) → IsNotified h o q j m
    → ((i s : ℕ) (d : Deed) → IsEntry h i s d → is_hearing d ≡ true → i ≤ j → i ≡ a) → ⊥
not-notified h o q j m a n only =
    let later = n.later in
    let it = n.observed.heard.response in
    let first = only n.registered it.moment _ it.heard.stands refl (omega (arith, later)) in
    let second = only j n.response.moment _ n.response.heard.stands refl (omega arith) in
    omega (arith, later, first, second)

abbrev pub entry_of : ℕ → Deed → Written
entry_of t d = record { moment = t; deed = d }

-- The first ask shares with no other.
opens-asks : (t s c d : ℕ) (a : Ask) → Some (entry_of t (Opens c)) ≡ Some (entry_of s (Asks d a)) → ⊥
opens-asks t s c d a e = go (ap (λ (x : Written). x.deed) (some-is _ _ e))
  where
    go : Opens c ≡ Asks d a → ⊥
    go f = cc

pub sense-same : (t s c d : ℕ) (a b : Ask) → Some (entry_of t (Asks c a)) ≡ Some (entry_of s (Asks d b)) → a.sense ≡ b.sense
sense-same t s c d a b e = go (ap (λ (x : Written). x.deed) (some-is _ _ e))
  where
    asks-same : Asks c a ≡ Asks d b → a ≡ b
    asks-same f = cc

    go : Asks c a ≡ Asks d b → a.sense ≡ b.sense
    go f = ap (λ (a : Ask). a.sense) (asks-same f)

pub first-alone : (h : List Written) (c : ℕ) (q : CoapRequest) (n o since t d : ℕ) → IsEntry h 0 t (Opens d) → (s : IsShared h c 1 q n o since)
    → (n ≡ 1) × (o ≡ 1) × (since ≡ s.moment)
first-alone h c q n o since t d here s = elim (s.shares) [
  | inl own ↦ own
  | inr (inl j) ↦ absurd (none j.1.request j.1.pending)
  | inr (inr to) ↦
      let before = to.fetching.before in
      let sent = to.fetching.notified.response.after in
      absurd (omega (arith, before, sent))
]
  where
    none : (r : CoapRequest) → IsPending h 1 o r → ⊥
    none r p =
        let below = p.before in
        let first : o ≡ 0 = omega (arith, below) in
        let asked = subst (λ (o : ℕ). IsAsked h o p.conn p.moment (Requests r)) first p.asked in
        opens-asks t p.moment d p.conn _ (sym here ∙ asked.stands)

-- the response to the GET came under the GET's token
pub texts : (t s : ℕ) (p r : Peer) (b c : List ℕ) (w v : Option ℕ)
    → Some (entry_of t (Sends p b w)) ≡ Some (entry_of s (Sends r c v)) → b ≡ c
texts t s p r b c w v e = go (ap (λ (x : Written). x.deed) (some-is _ _ e))
  where
    go : Sends p b w ≡ Sends r c v → b ≡ c
    go f = cc

pub heard-texts : (t s : ℕ) (p r : Peer) (b c : List ℕ)
    → Some (entry_of t (Hears p b)) ≡ Some (entry_of s (Hears r c)) → b ≡ c
heard-texts t s p r b c e = go (ap (λ (x : Written). x.deed) (some-is _ _ e))
  where
    go : Hears p b ≡ Hears r c → b ≡ c
    go f = cc

abbrev pub fourth : List ℕ → ℕ
fourth (a ∷ b ∷ c ∷ d ∷ more) = d
fourth bytes = 0

crossed-heard : (q : CoapRequest) (block : Option Block) (m : Content) → IsHeardFor (entries S.crossed) 4 q block 9 m → ⊥
crossed-heard q block m h =
    let after = h.sent_for.after in
    let before = h.response.after in
    let lies = places is_first (entries S.crossed) (2 ∷ 8 ∷ []) 13 h.sending _ _ refl refl h.sent_for.first.stands refl in
    elim (or_cases (eqb h.sending 2) _ lies) [
      | inl w ↦ let place = eqb-same h.sending 2 w in absurd (omega (arith, place, after))
      | inr w ↦ elim (or_cases (eqb h.sending 8) false w) [
        | inl v ↦ go (eqb-same h.sending 8 v)
        | inr v ↦ false≢true v
      ]
    ]
  where
    go : h.sending ≡ 8 → ⊥
    go place =
        let f = h.sent_for.first in
        let text : M.put_bytes ≡ f.bytes =
        texts 2100 h.sent_for.moment _ q.peer M.put_bytes f.bytes _ (Some f.timeout)
        (subst (λ (i : ℕ). IsEntry (entries S.crossed) i h.sent_for.moment (Sends q.peer f.bytes (Some f.timeout))) place f.stands) in
        let sent = spells_one h.sent M.put_message f.bytes f.spelled (subst (Spells M.put_message) text put-spelled) in
        let datagram : M.content_bytes ≡ h.response.heard.bytes = heard-texts 5000 h.response.moment _ q.peer M.content_bytes h.response.heard.bytes h.response.heard.stands in
        let said = spells_one m M.content_message h.response.heard.bytes h.response.heard.spelled (subst (Spells M.content_message) datagram content-spelled) in
        let tokens : M.content_message.token ≡ M.put_message.token =
        sym (ap (λ (m : Content). m.token) said) ∙ (h.response.token ∙ ap (λ (m : Content). m.token) sent) in
        let numbers : 0 ≡ 1 = ap fourth tokens in
        absurd (omega (arith, numbers))

-- what asks for the PUT shares with no other
put-alone : (q : CoapRequest) (n o since : ℕ) → IsShared (entries S.crossed) 1 4 q n o since → n ≡ 4
put-alone q n o since s = elim (s.shares) [
  | inl own ↦ own.0
  | inr (inl j) ↦ absurd (no-get (sense-same 500 s.moment 1 1 (ask_for M.put_light) _ s.asked.stands) j.1.same.0)
  | inr (inr to) ↦ absurd (no-get (sense-same 500 s.moment 1 1 (ask_for M.put_light) _ s.asked.stands) to.alike.0)
]
  where
    asked-same : (q r : CoapRequest) → Requests q ≡ Requests r → q ≡ r
    asked-same q r e = cc

    no-get : Requests M.put_light ≡ Requests q → q.method ≡ 1 → ⊥
    no-get e get =
        let three : 3 ≡ q.method = ap (λ (q : CoapRequest). q.method) (asked-same M.put_light q e) in
        absurd (omega (arith, three, get))

pub crossed : Crossed
crossed h =
    let own = put-alone h.request h.entry h.opening h.since h.shared in
    elim (h.heard) [
      | inl heard ↦ go h.messages (subst (λ (k : ℕ). AreHeardFor (entries S.crossed) k h.request (first_point h.request) (9 ∷ []) h.messages) own heard)
      | inr on ↦ let begins = on.0 in absurd (omega (arith, own, begins))
    ]
  where
    go : (ms : List Content) → AreHeardFor (entries S.crossed) 4 h.request (first_point h.request) (9 ∷ []) ms → ⊥
    go [] heard = absurd heard
    go (m ∷ ms) heard = crossed-heard h.request (block_for (first_point h.request)) m heard.0

-- four copies lie where they lie
copy-places : (j t : ℕ) (p : Peer) (b : List ℕ) → IsEntry (entries S.timed_out_early) j t (Sends p b None) → lies_in (6 ∷ 8 ∷ 10 ∷ 12 ∷ []) j ≡ true
copy-places j t p b e = places is_copy (entries S.timed_out_early) (6 ∷ 8 ∷ 10 ∷ 12 ∷ []) 15 j t (Sends p b None) refl refl e refl

copy-one-of : (j : ℕ) → lies_in (6 ∷ 8 ∷ 10 ∷ 12 ∷ []) j ≡ true → (m : ℕ) × (j ≡ 2 * m) × (3 ≤ m) × (m ≤ 6)
copy-one-of j e =
    elim (or_cases (eqb j 6) _ e) [
      | inl w ↦ (3, eqb-same j 6 w, omega arith, omega arith)
      | inr e1 ↦ elim (or_cases (eqb j 8) _ e1) [
        | inl w ↦ (4, eqb-same j 8 w, omega arith, omega arith)
        | inr e2 ↦ elim (or_cases (eqb j 10) _ e2) [
          | inl w ↦ (5, eqb-same j 10 w, omega arith, omega arith)
          | inr e3 ↦ elim (or_cases (eqb j 12) false e3) [
            | inl w ↦ (6, eqb-same j 12 w, omega arith, omega arith)
            | inr e4 ↦ absurd (false≢true e4)
          ]
        ]
      ]
    ]

last-place : (p : Peer) (b : List ℕ) (w t : ℕ) (j : ℕ) (js : List ℕ) (last : ℕ) → AreCopies (entries S.timed_out_early) p b w 2 t (j ∷ js) last
    → (m : ℕ) × (j ≡ 2 * m) × (3 + length js ≤ m) × (m ≤ 6)
last-place p b w t j [] last h = copy-one-of j (copy-places j last p b h.0)
last-place p b w t j (i ∷ js) last h =
    let more = last-place p b w t i js h.2.0 h.2.2 in
    let it = copy-one-of j (copy-places j last p b h.0) in
    let m : ℕ = it.0 in
    let n : ℕ = more.0 in
    let lt = h.1 in
    let a = it.1 in
    let b = more.1 in
    let c = more.2 in
    (m, a, omega (arith, a, b, c, lt), it.3)

pub moment-same : (t s : ℕ) (d e : Deed) → Some (entry_of t d) ≡ Some (entry_of s e) → t ≡ s
moment-same t s d e f = ap (λ (x : Written). x.moment) (some-is _ _ f)

timeout-same : (t s : ℕ) (p r : Peer) (b c : List ℕ) (w v : ℕ)
    → Some (entry_of t (Sends p b (Some w))) ≡ Some (entry_of s (Sends r c (Some v))) → w ≡ v
timeout-same t s p r b c w v e = go (ap (λ (x : Written). x.deed) (some-is _ _ e))
  where
    go : Sends p b (Some w) ≡ Sends r c (Some v) → w ≡ v
    go f = cc

too-early : (last w s : ℕ) → 30000 ≡ last → 2000 ≡ w → last + w * 2 ^ MAX_RETRANSMIT ≤ s → s ≤ 61999 → ⊥
too-early last w s a b due by =
    let all : 30000 + 2000 * 2 ^ MAX_RETRANSMIT ≤ s =
    subst (λ (w : ℕ). 30000 + w * 2 ^ MAX_RETRANSMIT ≤ s) (sym b) (subst (λ (t : ℕ). t + w * 2 ^ MAX_RETRANSMIT ≤ s) (sym a) due) in
    absurd (omega (arith, all, by))

given-up-early : (p : Peer) (m : Content) → IsGivenUp (entries S.timed_out_early) 1 61999 p 2 m → ⊥
given-up-early p m g = go g.copies g.four g.last g.again g.due
  where
    timeout : 2000 ≡ g.first.timeout
    timeout = timeout-same 0 g.moment _ p _ g.first.bytes 2000 g.first.timeout g.first.stands

    go : (js : List ℕ) → length js ≡ MAX_RETRANSMIT → (last : ℕ) → AreCopies (entries S.timed_out_early) p g.first.bytes g.first.timeout 2 g.moment js last
        → last + g.first.timeout * 2 ^ MAX_RETRANSMIT ≤ g.ticked → ⊥
    go [] four last h due = absurd (omega (arith, four))
    go (j ∷ js) four last h due =
        let it = last-place p g.first.bytes g.first.timeout g.moment j js last h in
        let a = it.1 in
        let b = it.2 in
        let c = it.3 in
        let place : j ≡ 12 = omega (arith, a, b, c, four) in
        let stands = subst (λ (j : ℕ). IsEntry (entries S.timed_out_early) j last (Sends p g.first.bytes None)) place h.0 in
        too-early last g.first.timeout g.ticked (moment-same 30000 last _ _ stands) timeout due g.by

pub early : Early
early h =
    elim (h.over) [
      | inl w ↦
          let asked : 0 ≡ h.shared.moment = moment-same 0 h.shared.moment _ _ h.shared.asked.stands in
          let alone = (first-alone (entries S.timed_out_early) 0 h.request h.entry h.opening h.since 0 0 refl h.shared).2 in
          absurd (omega (arith, w, asked, alone))
      | inr w ↦ given-up-early h.request.peer w.0 w.3
    ]
