-- The worked journals of a response in two pieces, as entries.
use Rattle.std.proofs.Common.{◌≡◌, ℕ, true, ◌<◌, false, eqb, inl, inr, List, [], ◌∷◌, Some, refl, sym, ap, subst, arith}
use Rattle.std.proofs.lemmas.Bool.{false≢true, or_cases}
use Rattle.coap_codec.specs.Spelling.{Entry, Content, Spells}
use Rattle.coap_codec.proofs.Unique.{spells_one}
use Rattle.uri_map.specs.declared.peer.Peer.{Peer}
use Rattle.blockwise.specs.Downloads.{no_pieces, with_piece}
use Rattle.ask_model.specs.Requests.{CoapRequest, asking}
use Rattle.ask_model.specs.declared.cause.Cause.TheVariants as C
use Rattle.journal_book.specs.Entries.{Written}
use Rattle.history_laws.specs.Progress.{block_after, first_point, block_for, point_after}
use Rattle.history_laws.specs.Readings.{entries}
use Rattle.history_laws.specs.Worked.{server, ask_for}
use Rattle.history_laws.specs.WorkedMessages as M
use Rattle.history_laws.specs.WorkedPieces as P
use Rattle.history_laws.proofs.CallerLemmas.{eqb-same, fetched-holds, gap_heard-holds, get-other-spelled, get-spelled, piece-spelled}
use Rattle.history_claims.specs.Headline.{IsFirstSending, IsHeardFor, AreHeardFor, AsksFor}
use Rattle.history_claims.specs.Worked.{Fetched, Astray, asked_early, AskedEarly, Gap}
use Rattle.history_claims.proofs.Causes.{causes-in}
use Rattle.history_claims.proofs.Examples.{first-alone, is_first, places, lies_in, texts, heard-texts, sense-same}
use Rattle.history_claims.proofs.Resting.{rests-heard}
use Rattle.history_claims.proofs.Together.{requests-same}

pub fetched : Fetched
fetched = rests-heard P.fetched 6 900 0 1 (3 ∷ 5 ∷ []) fetched-holds.0 refl refl

pub gap : Gap
gap = (causes-in P.gap_heard 6 900 0 1 C.NotUnderstood 5 gap_heard-holds.0 refl).1

-- not so

-- both were asked for before entry 4
pub asked-early : AskedEarly
asked-early h = elim (h.heard) [
  | inl heard ↦ go h.messages heard
  | inr on ↦
      let own = (first-alone (entries asked_early) 0 h.request h.entry h.opening h.since 0 0 refl h.shared).0 in
      let begins = on.0 in
      absurd (omega (arith, own, begins))
]
  where
    soon : (i : ℕ) → lies_in (2 ∷ 3 ∷ []) i ≡ true → i < 4
    soon i e =
        elim (or_cases (eqb i 2) _ e) [
          | inl w ↦ let same = eqb-same i 2 w in omega (arith, same)
          | inr v ↦ elim (or_cases (eqb i 3) false v) [
            | inl w ↦ let same = eqb-same i 3 w in omega (arith, same)
            | inr w ↦ absurd (false≢true w)
          ]
        ]

    go : (ms : List Content) → AreHeardFor (entries asked_early) h.entry h.request (first_point h.request) (4 ∷ 5 ∷ []) ms → ⊥
    go [] heard = heard
    go (m ∷ []) heard = heard.1
    go (m ∷ n ∷ ms) heard =
        let s = heard.1.0.sent_for in
        let early = soon heard.1.0.sending (places is_first (entries asked_early) (2 ∷ 3 ∷ []) 7 heard.1.0.sending _ _ refl refl s.first.stands refl) in
        let after = s.after in
        absurd (omega (arith, early, after))

abbrev wrong : List Written
wrong = entries (P.fetched_with 2)

-- the first byte of the third option, which is the block that is asked for, if one is
abbrev first_byte : List ℕ → ℕ
first_byte [] = 0
first_byte (b ∷ bytes) = b

abbrev pub third : List Entry → ℕ
third (a ∷ b ∷ o ∷ more) = first_byte o.value
third options = 0

-- none, or block 2
sent-first : (t : ℕ) (p : Peer) (m : Content) → IsFirstSending wrong 2 t p m → third m.options ≡ 0
sent-first t p m f =
    let text = texts 0 t server p M.get_bytes f.bytes (Some 2000) (Some f.timeout) f.stands in
    ap (λ (m : Content). third m.options) (spells_one m M.get_message f.bytes f.spelled (subst (Spells M.get_message) text get-spelled))

sent-second : (t : ℕ) (p : Peer) (m : Content) → IsFirstSending wrong 4 t p m → third m.options ≡ 32
sent-second t p m f =
    let text = texts 700 t server p (P.get_block_bytes 2) f.bytes (Some 2000) (Some f.timeout) f.stands in
    ap (λ (m : Content). third m.options) (spells_one m (P.get_block 2) f.bytes f.spelled (subst (Spells (P.get_block 2)) text get-other-spelled))

pub astray : Astray
astray h = elim (h.heard) [
  | inl heard ↦ go h.messages heard
  | inr on ↦
      let own = (first-alone wrong 0 h.request h.entry h.opening h.since 0 0 refl h.shared).0 in
      let begins = on.0 in
      absurd (omega (arith, own, begins))
]
  where
    asks : M.get_light ≡ h.request
    asks = requests-same M.get_light h.request (sense-same 0 h.shared.moment 0 0 (ask_for M.get_light) _ h.shared.asked.stands)

    -- what asks for the block after the first piece asks for block 1
    next : (m n : Content) → m ≡ P.piece_message → AsksFor h.request (block_for (point_after (first_point h.request) m)) n → third n.options ≡ 16
    next m n is e =
        let it = subst (λ (q : CoapRequest). n ≡ asking e.0 q (block_for (point_after (first_point q) m)) n.mid n.token) (sym asks) e.1 in
        let all = subst (λ (m : Content). n ≡ asking e.0 M.get_light (block_after (with_piece no_pieces m)) n.mid n.token) is it in
        ap (λ (m : Content). third m.options) all

    second : (m n : Content) → m ≡ P.piece_message → IsHeardFor wrong 3 h.request (block_for (point_after (first_point h.request) m)) 5 n → ⊥
    second m n is s =
        let f = s.sent_for.first in
        let block = next m s.sent is s.sent_for.asks in
        elim (or_cases (eqb s.sending 2) _ (places is_first wrong (2 ∷ 4 ∷ []) 7 s.sending _ _ refl refl f.stands refl)) [
          | inl w ↦
              let other = sent-first s.sent_for.moment h.request.peer s.sent
              (subst (λ (i : ℕ). IsFirstSending wrong i s.sent_for.moment h.request.peer s.sent) (eqb-same s.sending 2 w) f) in
              absurd (omega (arith, block, other))
          | inr v ↦ elim (or_cases (eqb s.sending 4) false v) [
            | inl w ↦
                let other = sent-second s.sent_for.moment h.request.peer s.sent
                (subst (λ (i : ℕ). IsFirstSending wrong i s.sent_for.moment h.request.peer s.sent) (eqb-same s.sending 4 w) f) in
                absurd (omega (arith, block, other))
            | inr w ↦ absurd (false≢true w)
          ]
        ]

    go : (ms : List Content) → AreHeardFor wrong h.entry h.request (first_point h.request) (3 ∷ 5 ∷ []) ms → ⊥
    go [] heard = heard
    go (m ∷ []) heard = heard.1
    go (m ∷ n ∷ o ∷ ms) heard = heard.1.1
    go (m ∷ n ∷ []) heard =
        let r = heard.0.response.heard in
        let text : P.piece_bytes ≡ r.bytes = heard-texts 700 heard.0.response.moment server h.request.peer P.piece_bytes r.bytes r.stands in
        second m n (spells_one m P.piece_message r.bytes r.spelled (subst (Spells P.piece_message) text piece-spelled)) heard.1.0
