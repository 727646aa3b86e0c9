-- The worked journals of several who ask for the same, as entries.
use Rattle.std.proofs.Common.{◌≡◌, ℕ, ◌<◌, Bool, true, false, eqb, inl, inr, List, [], ◌∷◌, length, Some, refl, sym, ap, subst, ◌∙◌, arith, lit<}
use Rattle.std.specs.List.{list_all, range_with_len}
use Rattle.std.proofs.lemmas.Bool.{false≢true, or_cases}
use Rattle.coap_codec.specs.Spelling.{Entry, Content}
use Rattle.uri_map.specs.declared.peer.Peer.{Peer}
use Rattle.history_laws.specs.Progress.{first_point}
use Rattle.ask_model.specs.declared.cause.Cause.TheVariants as C
use Rattle.ask_model.specs.Requests.{CoapRequest, Plainly, Requests, request_message}
use Rattle.ask_model.specs.Views.{Ask}
use Rattle.journal_book.specs.Entries.{Live, Fault, Deed, Asks, Sends, Passes, Answers, Shuts, Written}
use Rattle.history_laws.specs.Readings.{entries}
use Rattle.history_laws.specs.Worked.{ask_for}
use Rattle.history_laws.specs.WorkedMessages as M
use Rattle.history_laws.specs.WorkedReaders as R
use Rattle.history_laws.specs.WorkedSpoiled as S
use Rattle.history_laws.proofs.CallerLemmas.{both_answered-holds, eqb-same, some-is}
use Rattle.history_claims.specs.Headline.{IsEntry, IsAsked, IsPending, IsSameGet, IsWrite, IsWriteAnswer, AreHeardFor, AreHeardOn}
use Rattle.history_claims.specs.Causes.{AreUnshared}
use Rattle.history_claims.specs.Worked.{Joined, told_before, OutOfDate, HeardBefore, lamp_given_up, Unlike, asked_by_two, CountedTwice, Unjoined}
use Rattle.history_claims.proofs.Examples.{is_first, places, lies_in, lies_so, entry_of, moment-same, sense-same}
use Rattle.history_claims.proofs.Resting.{rests-heard, only-one}

pub joined : Joined
joined = (
  rests-heard R.both_answered 8 700 0 1 (7 ∷ []) both_answered-holds.0 refl refl,
  rests-heard R.both_answered 9 700 2 6 (7 ∷ []) both_answered-holds.0 refl refl,
)

pub heard-before : HeardBefore
heard-before h =
    let it = h.live in
    let below = only-one it.0 4 5 (lit< tt) it.2 in
    let later = it.1 in
    absurd (omega (arith, below, later))

pub requests-same : (q r : CoapRequest) → Requests q ≡ Requests r → q ≡ r
requests-same q r e = cc

-- the PUT of entry 4, answered in entry 10
busy-not : (js : List ℕ) (k : ℕ) → Live js ≡ Fault C.Busy k → ⊥
busy-not js k e = cc

written : IsWriteAnswer (entries told_before) M.get_light 10
written =
    record {
      ask = 4;
      write = record {
        conn = 1;
        moment = 500;
        request = M.put_light;
        asked = record { came = (ask_for M.put_light).came; rules = (ask_for M.put_light).rules; stands = refl };
        changes = λ e. absurd (omega (arith, e));
        place = (refl, refl);
      };
      moment = 2200;
      grounds = Live (9 ∷ []);
      answers = refl;
      had_room = inl (busy-not (9 ∷ []) 4);
    }

sent-early : (j : ℕ) → lies_in (2 ∷ 8 ∷ []) j ≡ true → j < 9
sent-early j e =
    elim (or_cases (eqb j 2) _ e) [
      | inl w ↦ let same = eqb-same j 2 w in omega (arith, same)
      | inr w ↦ elim (or_cases (eqb j 8) false w) [ inl v ↦ let same = eqb-same j 8 v in omega (arith, same) | inr v ↦ absurd (false≢true v) ]
    ]

pub out-of-date : OutOfDate
out-of-date h = elim (h.heard) [
  | inl heard ↦ go h.messages heard
  | inr on ↦ on-notice h.messages on.1
]
  where
    asks : h.request ≡ M.get_light
    asks = sym (requests-same M.get_light h.request (sense-same 2300 h.shared.moment 2 2 (ask_for M.get_light) _ h.shared.asked.stands))

    answer : IsWriteAnswer (entries told_before) h.request 10
    answer = subst (λ (q : CoapRequest). IsWriteAnswer (entries told_before) q 10) (sym asks) written

    late : (10 < h.entry) × (10 < h.opening)
    late =
        elim (h.shared.shares) [
          | inl own ↦ let entry = own.0 in let same = own.1 in (omega (arith, entry), omega (arith, same))
          | inr (inl j) ↦
              let fresh = j.1.fresh 10 answer (lit< tt) in
              let entry = j.0 in
              (omega (arith, fresh, entry), fresh)
          | inr (inr to) ↦
              let fresh = to.fresh 10 answer (lit< tt) in
              let sent = to.fetching.notified.observed.heard.sent_for.after in
              let came = to.fetching.notified.response.after in
              (omega (arith, fresh, sent, came), fresh)
        ]

    on-notice : (ms : List Content) → AreHeardOn (entries told_before) h.opening h.request (13 ∷ []) ms → ⊥
    on-notice [] heard = absurd heard
    on-notice (m ∷ ms) heard =
        let it = heard.0.2.observed.heard in
        let s = it.sent_for in
        let early = sent-early it.sending (places is_first (entries told_before) (2 ∷ 8 ∷ []) 15 it.sending _ _ refl refl s.first.stands refl) in
        let after = s.after in
        let opened = late.1 in
        absurd (omega (arith, early, after, opened))

    go : (ms : List Content) → AreHeardFor (entries told_before) h.entry h.request (first_point h.request) (13 ∷ []) ms → ⊥
    go [] heard = absurd heard
    go (m ∷ ms) heard =
        let s = heard.0.sent_for in
        let early = sent-early heard.0.sending (places is_first (entries told_before) (2 ∷ 8 ∷ []) 15 heard.0.sending _ _ refl refl s.first.stands refl) in
        let after = s.after in
        let opened = late.0 in
        absurd (omega (arith, early, after, opened))

-- what each asks for is told by the length of the path's segment
abbrev second : List Entry → ℕ
second (o ∷ p ∷ more) = length p.value
second options = 0

abbrev segment : CoapRequest → ℕ
segment q = second (request_message q 0 []).options

same-segment : (q r : CoapRequest) → IsSameGet q r → segment q ≡ segment r
same-segment q r same = ap (λ (m : Content). second m.options) (same.2 Plainly 0 [])

abbrev pub is_ask : Deed → Bool
is_ask (Asks c a) = true
is_ask d = false

asks-light : (o t c : ℕ) (r : CoapRequest) → IsAsked (entries lamp_given_up) o c t (Requests r) → o < 6 → segment r ≡ 5
asks-light o t c r asked below =
    elim (or_cases (eqb o 1) _ (places is_ask (entries lamp_given_up) (1 ∷ 4 ∷ 6 ∷ []) 9 o t _ refl refl asked.stands refl)) [
      | inl w ↦ here 1 0 0 M.get_light (eqb-same o 1 w) refl refl
      | inr v ↦ elim (or_cases (eqb o 4) _ v) [
        | inl w ↦ here 4 500 1 M.put_light (eqb-same o 4 w) refl refl
        | inr u ↦ elim (or_cases (eqb o 6) false u) [
          | inl w ↦ let same = eqb-same o 6 w in absurd (omega (arith, same, below))
          | inr w ↦ absurd (false≢true w)
        ]
      ]
    ]
  where
    here : (n s d : ℕ) (q : CoapRequest) → o ≡ n → IsEntry (entries lamp_given_up) n s (Asks d (ask_for q)) → segment q ≡ 5 → segment r ≡ 5
    here n s d q same stands long =
        let it = subst (λ (o : ℕ). IsAsked (entries lamp_given_up) o c t (Requests r)) same asked in
        let is = requests-same q r (sense-same s t d c (ask_for q) _ (sym stands ∙ it.stands)) in
        subst (λ (q : CoapRequest). segment q ≡ 5) is long

pub asks-sends : (t s c : ℕ) (a : Ask) (p : Peer) (b : List ℕ) (w : ℕ) → Some (entry_of t (Asks c a)) ≡ Some (entry_of s (Sends p b (Some w))) → ⊥
asks-sends t s c a p b w e = go (ap (λ (x : Written). x.deed) (some-is _ _ e))
  where
    go : Asks c a ≡ Sends p b (Some w) → ⊥
    go f = cc

pub unlike : Unlike
unlike h =
    elim (h.over) [
      | inl old ↦ elim (h.shared.shares) [
        | inl own ↦
            let asked : 600 ≡ h.shared.moment = moment-same 600 h.shared.moment _ _ h.shared.asked.stands in
            let since = own.2 in
            absurd (omega (arith, old, asked, since))
        | inr (inl j) ↦ absurd (other j.1.request j.1.same j.1.pending.moment j.1.pending.conn j.1.pending.asked j.1.pending.before)
        | inr (inr to) ↦
            let it = to.fetching.notified.observed in
            let sent = it.heard.sent_for.after in
            let came = to.fetching.notified.response.after in
            let before = to.fetching.before in
            absurd (other to.request to.alike it.moment it.conn it.asked (omega (arith, sent, came, before)))
      ]
      | inr up ↦
          let f = up.2.first in
          absurd (asks-sends 600 up.2.moment 2 (ask_for S.get_lamp) h.request.peer f.bytes f.timeout f.stands)
    ]
  where
    other : (r : CoapRequest) → IsSameGet h.request r → (t c : ℕ) → IsAsked (entries lamp_given_up) h.opening c t (Requests r) → h.opening < 6 → ⊥
    other r same t c asked before =
        let is = requests-same S.get_lamp h.request (sense-same 600 h.shared.moment 2 2 (ask_for S.get_lamp) _ h.shared.asked.stands) in
        let four : segment h.request ≡ 4 = subst (λ (q : CoapRequest). segment q ≡ 4) is refl in
        let five = asks-light h.opening t c r asked before in
        let lengths = same-segment h.request r same in
        absurd (omega (arith, four, five, lengths))

-- no write was asked
pub counted-twice : CountedTwice
counted-twice h =
    let it = h refl in
    none it.0 it.1
  where
    here : (w n s d : ℕ) (write : IsWrite (entries asked_by_two) M.get_light w) → w ≡ n
        → IsEntry (entries asked_by_two) n s (Asks d (ask_for M.get_light)) → ⊥
    here w n s d write same stands =
        let it = subst (λ (w : ℕ). IsAsked (entries asked_by_two) w write.conn write.moment (Requests write.request)) same write.asked in
        let is = requests-same M.get_light write.request (sense-same s write.moment d write.conn (ask_for M.get_light) _ (sym stands ∙ it.stands)) in
        write.changes (sym (ap (λ (q : CoapRequest). q.method) is))

    none : (w : ℕ) → IsWrite (entries asked_by_two) M.get_light w → ⊥
    none w write =
        elim (or_cases (eqb w 1) _ (places is_ask (entries asked_by_two) (1 ∷ 4 ∷ []) 5 w write.moment _ refl refl write.asked.stands refl)) [
          | inl u ↦ here w 1 0 0 write (eqb-same w 1 u) refl
          | inr v ↦ elim (or_cases (eqb w 4) false v) [
            | inl u ↦ here w 4 600 1 write (eqb-same w 4 u) refl
            | inr u ↦ absurd (false≢true u)
          ]
        ]

-- the first is pending, and its connection wasn't shut
abbrev is_shut : Deed → Bool
is_shut (Shuts c) = true
is_shut d = false

abbrev is_answer : Deed → Bool
is_answer (Answers c k g) = true
is_answer d = false

abbrev is_tick : Deed → Bool
is_tick Passes = true
is_tick d = false

nowhere : (g : Deed → Bool) (n t : ℕ) (d : Deed) → list_all (lies_so g (entries asked_by_two) []) (range_with_len 0 5) ≡ true
    → IsEntry (entries asked_by_two) n t d → g d ≡ true → ⊥
nowhere g n t d none stands is = false≢true (places g (entries asked_by_two) [] 5 n t d refl none stands is)

pub unjoined : Unjoined
unjoined h =
    counted-twice
    (subst (λ (q : CoapRequest). AreUnshared (entries asked_by_two) 1 4 q q) (sym asks)
    (h.alone 1 (subst (λ (q : CoapRequest). IsPending (entries asked_by_two) 4 1 q) asks first) (λ m s lt shut. nowhere is_shut m s _ refl shut refl)))
  where
    asks : M.get_light ≡ h.request
    asks = requests-same M.get_light h.request (sense-same 600 h.moment 1 1 (ask_for M.get_light) _ h.asked.stands)

    first : IsPending (entries asked_by_two) 4 1 M.get_light
    first =
        record {
          before = lit< tt;
          conn = 0;
          moment = 0;
          asked = record { came = (ask_for M.get_light).came; rules = (ask_for M.get_light).rules; stands = refl };
          unanswered = λ n t c g lt stands. nowhere is_answer n t _ refl stands refl;
          in_time = λ i t after less tick. absurd (nowhere is_tick i t _ refl tick refl);
        }
