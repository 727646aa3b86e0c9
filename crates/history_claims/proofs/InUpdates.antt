-- The worked journal of an update in two pieces, as entries.
use Rattle.std.proofs.Common.{◌≡◌, ℕ, ◌≤◌, false, eqb, inl, inr, List, [], ◌∷◌, Some, None, refl, sym, ap, subst, ◌∙◌, arith}
use Rattle.std.proofs.lemmas.Bool.{false≢true, or_cases}
use Rattle.coap_codec.specs.Spelling.{Content, Spells}
use Rattle.coap_codec.proofs.Unique.{spells_one}
use Rattle.uri_map.specs.declared.peer.Peer.{Peer}
use Rattle.ask_model.specs.Requests.{CoapRequest, Manner, Plainly, Observing, Validating, asking, block_message}
use Rattle.journal_book.specs.Entries.{Written}
use Rattle.history_laws.specs.Progress.{first_point, block_for}
use Rattle.history_laws.specs.Readings.{entries}
use Rattle.history_laws.specs.Worked.{Holds, server, token}
use Rattle.history_laws.specs.WorkedPieces.{block}
use Rattle.history_laws.specs.WorkedUpdates as D
use Rattle.history_laws.specs.WorkedWatches as O
use Rattle.history_laws.proofs.CallerLemmas.{eqb-same, watch-get-spelled}
use Rattle.history_claims.specs.Headline.{IsFirstSending, IsHeardFor, IsShared, AreHeardFor, AsksFor}
use Rattle.history_claims.specs.Worked.{UpdatedInPieces, RestAlone}
use Rattle.history_claims.proofs.Examples.{is_first, places, texts, heard-texts, fourth, sense-same}
use Rattle.history_claims.proofs.InPieces.{third}
use Rattle.history_claims.proofs.Resting.{rests-heard}
use Rattle.history_claims.proofs.Served.{served-in}
use Rattle.history_claims.proofs.Together.{requests-same}

pub both : Holds D.served_both → UpdatedInPieces
both holds = (
  rests-heard D.served_both 10 1200 1 8 (5 ∷ 9 ∷ []) holds.0 refl refl,
  served-in D.served_both 12 1300 1 11 (5 ∷ 9 ∷ []) holds.0 refl,
)

-- not so

abbrev alone : List Written
alone = entries D.told_the_rest

abbrev next : Content
next = block_message O.get_t (Some (block 1)) 1 (token 1)

-- What asks for all of it has no block as its third option.
not-a-block : (manner : Manner) (m : Content) → m ≡ asking manner O.get_t None m.mid m.token → third m.options ≡ 16 → ⊥
not-a-block Plainly m e is = let other : third m.options ≡ 0 = ap (λ (n : Content). third n.options) e in absurd (omega (arith, is, other))
not-a-block Observing m e is = let other : third m.options ≡ 116 = ap (λ (n : Content). third n.options) e in absurd (omega (arith, is, other))
not-a-block (Validating etag) m e is =
    let other : third m.options ≡ 116 = ap (λ (n : Content). third n.options) e in absurd (omega (arith, is, other))

begun-before : (h : List Written) (c k : ℕ) (q : CoapRequest) (n o since : ℕ) → IsShared h c k q n o since → n ≤ k
begun-before h c k q n o since s = elim (s.shares) [
  | inl own ↦ let same = own.0 in omega (arith, same)
  | inr (inl j) ↦ let same = j.0 in let before = j.1.pending.before in omega (arith, same, before)
  | inr (inr to) ↦ let before = to.fetching.before in omega (arith, before)
]

pub rest-alone : Holds D.served_both → RestAlone
rest-alone holds s = elim (s.heard) [
  | inl heard ↦ go s.messages heard
  | inr on ↦
      let begins = on.0 in
      let before = begun-before alone 1 8 s.request s.entry s.opening s.since s.shared in
      absurd (omega (arith, begins, before))
]
  where
    asks : O.get_t ≡ s.request
    asks = requests-same O.get_t s.request (sense-same 1100 s.shared.moment 1 1 (O.observed O.get_t) _ s.shared.asked.stands)

    rest-spelled : Spells D.rest_message D.rest_bytes
    rest-spelled = holds.0.0.0.0.2.3.spelled

    next-spelled : Spells next D.next_bytes
    next-spelled = holds.0.0.0.0.0.0.0.2.1.1.spelled

    -- It came under the token of the second message,
    to-first : (t : ℕ) (p : Peer) (m n : Content) (bytes : List ℕ) → IsFirstSending alone 2 t p m → Spells n bytes
        → D.rest_bytes ≡ bytes → n.token ≡ m.token → ⊥
    to-first t p m n bytes f spelled text token =
        let sent = texts 0 t server p O.get_bytes f.bytes (Some 2000) (Some f.timeout) f.stands in
        let first = spells_one m O.get_message f.bytes f.spelled (subst (Spells O.get_message) sent watch-get-spelled) in
        let said = spells_one n D.rest_message bytes spelled (subst (Spells D.rest_message) text rest-spelled) in
        let tokens : D.rest_message.token ≡ O.get_message.token =
        sym (ap (λ (m : Content). m.token) said) ∙ (token ∙ ap (λ (m : Content). m.token) first) in
        let numbers : 1 ≡ 0 = ap fourth tokens in
        absurd (omega (arith, numbers))

    -- which asks for a block.
    to-next : (t : ℕ) (p : Peer) (m : Content) → IsFirstSending alone 6 t p m → AsksFor s.request (block_for (first_point s.request)) m → ⊥
    to-next t p m f asked =
        let sent = texts 1000 t server p D.next_bytes f.bytes (Some 2000) (Some f.timeout) f.stands in
        let is : third m.options ≡ 16 =
        ap (λ (n : Content). third n.options) (spells_one m next f.bytes f.spelled (subst (Spells next) sent next-spelled)) in
        let all = subst (λ (q : CoapRequest). AsksFor q (block_for (first_point q)) m) (sym asks) asked in
        not-a-block all.0 m all.1 is

    one : (m : Content) → IsHeardFor alone s.entry s.request (block_for (first_point s.request)) 9 m → ⊥
    one m r =
        let f = r.sent_for.first in
        let heard = r.response.heard in
        let text = heard-texts 1200 r.response.moment server s.request.peer D.rest_bytes heard.bytes heard.stands in
        elim (or_cases (eqb r.sending 2) _ (places is_first alone (2 ∷ 6 ∷ []) 11 r.sending _ _ refl refl f.stands refl)) [
          | inl w ↦
              to-first r.sent_for.moment s.request.peer r.sent m heard.bytes
              (subst (λ (i : ℕ). IsFirstSending alone i r.sent_for.moment s.request.peer r.sent) (eqb-same r.sending 2 w) f) heard.spelled
              text r.response.token
          | inr v ↦ elim (or_cases (eqb r.sending 6) false v) [
            | inl w ↦
                to-next r.sent_for.moment s.request.peer r.sent
                (subst (λ (i : ℕ). IsFirstSending alone i r.sent_for.moment s.request.peer r.sent) (eqb-same r.sending 6 w) f) r.sent_for.asks
            | inr w ↦ absurd (false≢true w)
          ]
        ]

    go : (ms : List Content) → AreHeardFor alone s.entry s.request (first_point s.request) (9 ∷ []) ms → ⊥
    go [] heard = heard
    go (m ∷ ms) heard = one m heard.0
