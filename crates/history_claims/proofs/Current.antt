-- An answer to a GET rests on messages that were sent after the answer to a write, where that came before the ask.
use Rattle.std.proofs.Common.{◌≡◌, ℕ, ◌<◌, ◌≤◌, zero, inl, inr, List, [], ◌∷◌, refl, sym, ap, subst, ◌∙◌, arith, ◌⊎◌}
use Rattle.std.specs.List.{Contains}
use Rattle.std.proofs.lemmas.List.Elements.{Contains-push_cases}
use Rattle.coap_codec.specs.Spelling.{Content}
use Rattle.uri_map.specs.declared.peer.Peer.{Peer}
use Rattle.ask_model.specs.Requests.{CoapRequest, Requests}
use Rattle.ask_model.specs.Views.{Ask}
use Rattle.journal_book.specs.Entries.{Grounds, Live, Kept, Fault, Mark, Ground, Done, Deed, Asks, Answers, Carries, Written}
use Rattle.resp_cache.specs.Stored.{Stored}
use Rattle.history_laws.specs.Justified.{Stands}
use Rattle.history_laws.specs.Grounds.{replies_in}
use Rattle.history_laws.specs.Progress.{Point, first_point, point_after}
use Rattle.history_laws.proofs.CallerLemmas.{contains-none, first-or-later, some-is}
use Rattle.history_claims.specs.Headline.{IsEntry, IsAsked, AreHeardFor, AreHeardOn, IsShared, IsWriteAnswer, RestsOn}
use Rattle.history_claims.specs.Carried.{AreCarriedFor}
use Rattle.history_claims.specs.Stored.{IsServed, RestsOnRenewed, WasWhole, WasRenewed, never, again}
use Rattle.history_claims.specs.Order.{AnswersLater}
use Rattle.history_claims.proofs.Copies.{copies-first}
use Rattle.history_claims.proofs.Plain.{some-heard}
use Rattle.history_claims.proofs.Resting.{rests-on-replies}
use Rattle.history_claims.proofs.Served.{rests-on-stored}
use Rattle.history_claims.proofs.Together.{requests-same}

-- each of the replies came to a message that was sent after this entry
heard-later : (h : List Written) (k w : ℕ) (q : CoapRequest) (point : Point) (js : List ℕ) (ms : List Content) (j : ℕ) → w ≤ k
    → AreHeardFor h k q point js ms → Contains js j → AnswersLater h w q.peer j
heard-later h k w q point [] [] j le heard has = absurd (contains-none j has)
heard-later h k w q point [] (m ∷ ms) j le heard has = absurd heard
heard-later h k w q point (i ∷ js) [] j le heard has = absurd heard
heard-later h k w q point (i ∷ js) (m ∷ ms) j le heard has =
    let it = heard.0 in
    let after = it.sent_for.after in
    let came = it.response.after in
    elim (first-or-later i js j has) [
      | inl same ↦
          subst (AnswersLater h w q.peer) same
          (it.sending, it.sent_for.moment, it.sent, m, omega (arith, le, after), it.sent_for.first, it.response)
      | inr later ↦ heard-later h i w q (point_after point m) js ms j (omega (arith, le, after, came)) heard.1 later
    ]

-- so did a notification, and what was heard on from that
heard-on-later : (h : List Written) (k w : ℕ) (q : CoapRequest) (js : List ℕ) (ms : List Content) (j : ℕ) → w ≤ k
    → AreHeardOn h k q js ms → Contains js j → AnswersLater h w q.peer j
heard-on-later h k w q [] ms j le heard has = absurd heard
heard-on-later h k w q (i ∷ js) [] j le heard has = absurd heard
heard-on-later h k w q (i ∷ js) (m ∷ ms) j le heard has =
    let same = heard.0.1 in
    let n = heard.0.2 in
    let it = n.observed.heard in
    let after = it.sent_for.after in
    let came = n.response.after in
    elim (first-or-later i js j has) [
      | inl e ↦
          subst (AnswersLater h w q.peer) e
          (subst (λ (p : Peer). AnswersLater h w p i) (sym same.1)
          (it.sending, it.sent_for.moment, it.sent, m, omega (arith, le, after), it.sent_for.first, n.response))
      | inr later ↦ heard-later h i w q (point_after (first_point q) m) js ms j (omega (arith, le, after, came)) heard.1 later
    ]

kept-later : (h : List Written) (k w : ℕ) (q : CoapRequest) (js : List ℕ) (ms : List Content) (j : ℕ) → w ≤ k
    → AreHeardFor h k q (first_point q) js ms ⊎ AreHeardOn h k q js ms → Contains js j → AnswersLater h w q.peer j
kept-later h k w q js ms j le (inl heard) has = heard-later h k w q (first_point q) js ms j le heard has
kept-later h k w q js ms j le (inr heard) has = heard-on-later h k w q js ms j le heard has

-- A write that was answered before an ask was answered before what that shares was begun.
shared-later : (h : List Written) (c k w n o since : ℕ) (q : CoapRequest) → IsWriteAnswer h q w → w < k → IsShared h c k q n o since
    → (w < n) × (w < o)
shared-later h c k w n o since q answer lt s = elim (s.shares) [
  | inl own ↦ let entry = own.0 in let here = own.1 in (omega (arith, lt, entry), omega (arith, lt, here))
  | inr (inl joined) ↦
      let entry = joined.0 in
      let fresh = joined.1.fresh w answer lt in
      (omega (arith, fresh, entry), fresh)
  | inr (inr to) ↦
      let fresh = to.fresh w answer lt in
      let n = to.fetching.notified in
      let sent = n.observed.heard.sent_for.after in
      let came = n.response.after in
      (omega (arith, fresh, sent, came), fresh)
]

-- what an ask asks
abbrev entry_of : ℕ → Deed → Written
entry_of t d = record { moment = t; deed = d }

asks-same : (s t c d : ℕ) (a b : Ask) → entry_of s (Asks c a) ≡ entry_of t (Asks d b) → a.sense ≡ b.sense
asks-same s t c d a b e = go (ap (λ (w : Written). w.deed) e)
  where
    same : Asks c a ≡ Asks d b → a ≡ b
    same f = cc

    go : Asks c a ≡ Asks d b → a.sense ≡ b.sense
    go f = ap (λ (a : Ask). a.sense) (same f)

asked-one : (h : List Written) (k c d s t : ℕ) (q r : CoapRequest) → IsAsked h k c s (Requests q) → IsAsked h k d t (Requests r) → q ≡ r
asked-one h k c d s t q r a b = requests-same q r (asks-same s t c d _ _ (some-is _ _ (sym a.stands ∙ b.stands)))

-- Nor does a journal have an answer before a copy.
carries-no-answer : (c k n : ℕ) (g : Grounds) (mark : Mark) (done : Done) → Answers c k g ≡ Carries n mark done → ⊥
carries-no-answer c k n g mark done e = cc

-- What is stored for a GET came of what was asked after such an answer.
module _ (h : List Written) (stands : Stands h) (q : CoapRequest) (first : Stored) (whole : WasWhole h q first) where
  opened-before : (j : ℕ) → Contains first.list j → first.opening < j
  opened-before j has = elim (whole.heard) [
    | inl here ↦
        let it = kept-later h first.opening first.opening whole.other first.list whole.messages j (omega arith) here.heard has in
        let sent = it.4 in
        let came = it.6.after in
        omega (arith, sent, came)
    | inr copied ↦ copied-later first.list whole.messages copied.heard has
  ]
    where
      copied-later : (js : List ℕ) (ms : List Content) → AreCarriedFor h first.opening whole.other js ms → Contains js j → first.opening < j
      copied-later [] ms a has = absurd (contains-none j has)
      copied-later (i ∷ js) [] a has = absurd a
      copied-later (i ∷ js) (m ∷ ms) a has =
          elim (first-or-later i js j has) [
            | inl same ↦
                let sent = a.0.order.0 in
                let came = a.0.order.1 in
                subst (λ (j : ℕ). first.opening < j) same (omega (arith, sent, came))
            | inr later ↦ copied-later js ms a.1 later
          ]

  opened-first : (n : ℕ) (s : Stored) → WasRenewed h q first n s → first.opening < n
  opened-first n s (never below) =
      let some = some-heard h q first whole in
      let has : Contains first.list some.0 = subst (λ (js : List ℕ). Contains js some.0) (sym some.2) (zero, omega arith, refl) in
      let after = opened-before some.0 has in
      let lt = below some.0 has in
      omega (arith, after, lt)
  opened-first n s (again o c t i r m asked same was it lt) =
      let after = opened-first o _ was in
      let sent = it.heard.sent_for.after in
      let came = it.heard.response.after in
      omega (arith, after, sent, came, lt)

  module _ (w : ℕ) (write : IsWriteAnswer h q w) (earlier : w < first.opening) (j : ℕ) where
    first-later : Contains first.list j → AnswersLater h w q.peer j
    first-later has = elim (whole.heard) [
      | inl here ↦
          subst (λ (p : Peer). AnswersLater h w p j) (sym whole.same.1)
          (kept-later h first.opening w whole.other first.list whole.messages j (omega (arith, earlier)) here.heard has)
      | inr copied ↦
          let a = copied.asked in
          let it = copies-first h w first.opening write.moment a.moment a.number _ Ground _ stands write.answers a.stands earlier in
          absurd (carries-no-answer write.write.conn write.ask it.0 write.grounds it.1 it.2 it.3)
    ]

    stored-later : (n : ℕ) (s : Stored) → WasRenewed h q first n s → Contains s.list j → AnswersLater h w q.peer j
    stored-later n s (never below) has = first-later has
    stored-later n s (again o c t i r m asked same was it lt) has =
        elim (Contains-push_cases first.list i j has) [
          | inl u ↦ first-later u
          | inr u ↦
              let late = opened-first o _ was in
              let after = it.heard.sent_for.after in
              subst (λ (p : Peer). AnswersLater h w p j) (sym same.1)
              (subst (AnswersLater h w r.peer) u
              (it.heard.sending, it.heard.sent_for.moment, it.heard.sent, m, omega (arith, earlier, late, after), it.heard.sent_for.first, it.heard.response))
        ]

current-kept : (h : List Written) → Stands h → (t c k s w j : ℕ) (js : List ℕ) (q : CoapRequest) → IsAsked h k c s (Requests q) → IsWriteAnswer h q w
    → Contains js j → w < k → IsServed h t c k js → AnswersLater h w q.peer j
current-kept h stands t c k s w j js q asked write has lt it =
    let same = asked-one h k c c s t q it.request asked it.asked in
    let answer = subst (λ (q : CoapRequest). IsWriteAnswer h q w) same write in
    subst (λ (q : CoapRequest). AnswersLater h w q.peer j) (sym same)
    (stored-later h stands it.request it.is.first it.is.whole w answer (it.is.current w answer lt) j k it.stored it.is.renewed
    (subst (λ (js : List ℕ). Contains js j) (sym it.list) has))

current-live : (h : List Written) → Stands h → (n c k s w j : ℕ) (js : List ℕ) (q : CoapRequest) → IsAsked h k c s (Requests q) → IsWriteAnswer h q w
    → Contains js j → w < k → RestsOn h n c k js ⊎ RestsOnRenewed h n c k js → AnswersLater h w q.peer j
current-live h stands n c k s w j js q asked write has lt (inl it) =
    let same = asked-one h k c c s it.shared.moment q it.request asked it.shared.asked in
    let answer = subst (λ (q : CoapRequest). IsWriteAnswer h q w) same write in
    let earlier = shared-later h c k w it.entry it.opening it.since it.request answer lt it.shared in
    let sooner = earlier.0 in
    let first = earlier.1 in
    subst (λ (q : CoapRequest). AnswersLater h w q.peer j) (sym same)
    (elim (it.heard) [
      | inl heard ↦ heard-later h it.entry w it.request (first_point it.request) js it.messages j (omega (arith, sooner)) heard has
      | inr heard ↦ heard-on-later h it.opening w it.request js it.messages j (omega (arith, first)) heard.1 has
    ])
current-live h stands n c k s w j js q asked write has lt (inr it) =
    let same = asked-one h k c c s it.shared.moment q it.request asked it.shared.asked in
    let answer = subst (λ (q : CoapRequest). IsWriteAnswer h q w) same write in
    let earlier : w < it.opening = (shared-later h c k w it.opening it.opening it.since it.request answer lt it.shared).1 in
    let v = it.valid.heard in
    let after = v.sent_for.after in
    subst (λ (q : CoapRequest). AnswersLater h w q.peer j) (sym same)
    (elim (Contains-push_cases it.was.first.list it.number j (subst (λ (js : List ℕ). Contains js j) (sym it.list) has)) [
      | inl u ↦ first-later h stands it.request it.was.first it.was.whole w answer (it.was.current w answer earlier) j u
      | inr u ↦
          subst (AnswersLater h w it.request.peer) u
          (v.sending, v.sent_for.moment, v.sent, it.message, omega (arith, earlier, after), v.sent_for.first, v.response)
    ])

pub current : (h : List Written) → Stands h → (n t c k s w j : ℕ) (g : Grounds) (q : CoapRequest) → IsAsked h k c s (Requests q) → q.method ≡ 1
    → IsEntry h n t (Answers c k g) → Contains (replies_in g) j → IsWriteAnswer h q w → w < k → AnswersLater h w q.peer j
current h stands n t c k s w j (Live js) q asked get e has write lt =
    current-live h stands n c k s w j js q asked write has lt (rests-on-replies h n t c k js stands e)
current h stands n t c k s w j (Kept js) q asked get e has write lt =
    current-kept h stands t c k s w j js q asked write has lt (rests-on-stored h n t c k js stands e)
current h stands n t c k s w j (Fault cause i) q asked get e has write lt = absurd (contains-none j has)
