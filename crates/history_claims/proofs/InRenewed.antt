-- The worked journals of what is renewed, as entries.
use Rattle.std.proofs.Common.{◌≡◌, ℕ, ◌<◌, false, eqb, ◌⊎◌, inl, inr, List, [], ◌∷◌, ◌++◌, Option, Some, None, refl, sym, ap, subst, ◌∙◌, arith, lit<}
use Rattle.std.proofs.lemmas.Bool.{false≢true, or_cases}
use Rattle.coap_codec.specs.Recognition.{value_of}
use Rattle.coap_codec.specs.Spelling.{Entry, Content, Spells}
use Rattle.coap_codec.proofs.Unique.{spells_one}
use Rattle.uri_map.specs.declared.peer.Peer.{Peer}
use Rattle.ask_model.specs.Requests.{CoapRequest, Manner, Validating, asking}
use Rattle.ask_model.specs.declared.cause.Cause.TheVariants as C
use Rattle.journal_book.specs.Entries.{Ground, Live, Fault, Heard, Sends, Hears, Carries, Written}
use Rattle.resp_cache.specs.Stored.{Stored}
use Rattle.history_laws.specs.Progress.{first_point}
use Rattle.history_laws.specs.Readings.{entries}
use Rattle.history_laws.specs.Responses.{Response, response_of, whole_of}
use Rattle.history_laws.specs.Worked.{server, ask_for, token}
use Rattle.history_laws.specs.WorkedPieces.{get_block}
use Rattle.history_laws.specs.WorkedMessages as M
use Rattle.history_laws.specs.WorkedRenewed as N
use Rattle.history_laws.proofs.CallerLemmas.{eqb-same, get-spelled, next-spelled, renewed-holds, renewed_again-holds, served_renewed-holds, some-is, tagged-spelled, valid-8-spelled, valid-again-spelled, validates-spelled}
use Rattle.history_claims.specs.Headline.{IsEntry, IsFirstSending, IsHeard, IsWriteAnswer, AreHeardFor, AreHeardOn}
use Rattle.history_claims.specs.Carried.{IsCarriedFirst}
use Rattle.history_claims.specs.Stored.{WasHeardHere, WasCarried, WasWhole, WasRenewed, never, again}
use Rattle.history_claims.specs.Worked.{Renewed, OtherTag, ValidLate, asked_after, RenewedAfter}
use Rattle.history_claims.proofs.Examples.{is_first, places, texts, heard-texts, fourth, sense-same}
use Rattle.history_claims.proofs.Resting.{rests-renewed}
use Rattle.history_claims.proofs.Served.{served-in}
use Rattle.history_claims.proofs.Stored.{whole-etag}
use Rattle.history_claims.proofs.Together.{requests-same}

pub renewed : Renewed
renewed = (
  rests-renewed N.renewed 10 1100 1 7 (5 ∷ 9 ∷ []) renewed-holds.0 refl 7 9 N.stored
      (record { number = 9; sending = 8; message = N.valid_message 7 }) refl refl refl,
  (
    served-in N.served_renewed 12 10099 2 11 (5 ∷ 9 ∷ []) served_renewed-holds.0 refl,
    rests-renewed N.renewed_again 14 10200 2 11 (5 ∷ 13 ∷ []) renewed_again-holds.0 refl 11 13 N.kept_anew
        (record { number = 13; sending = 12; message = N.valid_again }) refl refl refl,
  ),
)

-- not so

-- What is renewed has the ETag that it had.
etag-kept : (h : List Written) (q : CoapRequest) (first : Stored) (n : ℕ) (s : Stored) → WasRenewed h q first n s
    → s.response.etag ≡ first.response.etag
etag-kept h q first n s (never below) = refl
etag-kept h q first n s (again o c t j r m asked same was it below) = etag-kept h q first o _ was

-- A list of two is one entry and the last.
parts-of : (xs : List ℕ) (n i j : ℕ) → xs ++ n ∷ [] ≡ i ∷ j ∷ [] → (xs ≡ i ∷ []) × (n ≡ j)
parts-of [] n i j e = cc
parts-of (x ∷ []) n i j e = (ap (λ (v : ℕ). v ∷ []) (firsts e), seconds e)
  where
    firsts : x ∷ n ∷ [] ≡ i ∷ j ∷ [] → x ≡ i
    firsts f = cc

    seconds : x ∷ n ∷ [] ≡ i ∷ j ∷ [] → n ≡ j
    seconds f = cc
parts-of (x ∷ y ∷ xs) n i j e = absurd (long xs e)
  where
    long : (xs : List ℕ) → x ∷ y ∷ (xs ++ n ∷ []) ≡ i ∷ j ∷ [] → ⊥
    long [] f = cc
    long (z ∷ xs) f = cc

-- The response of entry 5, which alone was heard first, has the ETag 7.
module _ (h : List Written) (q : CoapRequest) (s : Stored) (list : s.list ≡ 5 ∷ []) (five : IsEntry h 5 40 (Hears server N.tagged_bytes)) where
  tag-by : (m : Content) (o : CoapRequest) (w : Response) (p : Peer) (t : ℕ) → IsHeard h p 5 t m → whole_of o (m ∷ []) ≡ Some w → w.etag ≡ Some (7 ∷ [])
  tag-by m o w p t r whole =
      let text : N.tagged_bytes ≡ r.bytes = heard-texts 40 t server p N.tagged_bytes r.bytes (sym five ∙ r.stands) in
      let is : m ≡ N.tagged = spells_one m N.tagged r.bytes r.spelled (subst (Spells N.tagged) text tagged-spelled) in
      sym (whole-etag o m w whole) ∙ ap (λ (m : Content). (response_of m).etag) is

  carries-no-hears : (t k : ℕ) (p : Peer) (b : List ℕ) → IsEntry h 5 t (Carries k Ground (Heard p b)) → ⊥
  carries-no-hears t k p b e = go (ap (λ (x : Written). x.deed) (some-is _ _ (sym five ∙ e)))
    where
      go : Hears server N.tagged_bytes ≡ Carries k Ground (Heard p b) → ⊥
      go g = cc

  abbrev IsSeven : Type 0
  IsSeven = (s.response.etag ≡ Some (7 ∷ [])) × (s.opening < 5)

  pub seven : WasWhole h q s → IsSeven
  seven w = by w.heard
    where
      heard-so : (ms : List Content) → AreHeardFor h s.opening w.other (first_point w.other) (5 ∷ []) ms → whole_of w.other ms ≡ Some s.response
          → IsSeven
      heard-so [] a whole = absurd a
      heard-so (m ∷ n ∷ ms) a whole = absurd a.1
      heard-so (m ∷ []) a whole =
          let sent = a.0.sent_for.after in
          let came = a.0.response.after in
          (tag-by m w.other s.response w.other.peer a.0.response.moment a.0.response.heard whole, omega (arith, sent, came))

      told-so : (ms : List Content) → AreHeardOn h s.opening w.other (5 ∷ []) ms → whole_of w.other ms ≡ Some s.response → IsSeven
      told-so [] a whole = absurd a
      told-so (m ∷ n ∷ ms) a whole = absurd a.1
      told-so (m ∷ []) a whole =
          let sent = a.0.2.observed.heard.sent_for.after in
          let came = a.0.2.response.after in
          (tag-by m w.other s.response a.0.0.peer a.0.2.response.moment a.0.2.response.heard whole, omega (arith, sent, came))

      by : WasHeardHere h s.opening w.other s.list w.messages s.heard ⊎ WasCarried h s.opening w.other s.list w.messages s.heard
          → IsSeven
      by (inl here) =
          elim (here.heard) [
            | inl a ↦ heard-so w.messages (subst (λ (js : List ℕ). AreHeardFor h s.opening w.other (first_point w.other) js w.messages) list a) w.whole
            | inr a ↦ told-so w.messages (subst (λ (js : List ℕ). AreHeardOn h s.opening w.other js w.messages) list a) w.whole
          ]
      by (inr copied) =
          let first = subst (λ (js : List ℕ). IsCarriedFirst h s.heard js) list copied.first in
          absurd (carries-no-hears s.heard first.1 first.0 first.2 first.3)

-- The 2.03 has the ETag 8.
abbrev head_of : List ℕ → ℕ
head_of [] = 0
head_of (x ∷ xs) = x

tags-apart : ◌≡◌ {A = Option (List ℕ)} (Some (7 ∷ [])) (Some (8 ∷ [])) → ⊥
tags-apart e =
    let heads : 7 ≡ 8 = ap head_of (some-is (7 ∷ []) (8 ∷ []) e) in
    absurd (omega (arith, heads))

pub other-tag : OtherTag
other-tag h =
    let parts = parts-of h.was.first.list h.number 5 9 h.list in
    let v = h.valid in
    let r = subst (λ (n : ℕ). IsHeard (entries (N.told_with 8)) h.request.peer n v.heard.response.moment h.message) parts.1 v.heard.response.heard in
    let text : N.valid_bytes 8 ≡ r.bytes = heard-texts 1100 v.heard.response.moment server h.request.peer (N.valid_bytes 8) r.bytes r.stands in
    let is : h.message ≡ N.valid_message 8 = spells_one h.message (N.valid_message 8) r.bytes r.spelled (subst (Spells (N.valid_message 8)) text valid-8-spelled) in
    let eight : Some v.tag ≡ Some (8 ∷ []) = sym v.confirmed ∙ ap (value_of 4) is in
    let had : Some v.tag ≡ Some (7 ∷ []) =
    sym v.has
    ∙ (etag-kept (entries (N.told_with 8)) h.request h.was.first h.opening h.stored h.was.renewed
    ∙ (seven (entries (N.told_with 8)) h.request h.was.first parts.0 refl h.was.whole).0) in
    tags-apart (sym had ∙ eight)

-- The message of entry 10 bears no ETag, and no other is under that token.
token-of : (t : ℕ) (p : Peer) (i : ℕ) (m : Content) (bytes : List ℕ) (at : ℕ) (b : List ℕ) (sent : Content) → Spells sent b
    → (f : IsFirstSending (entries N.valid_late) i t p m) → IsEntry (entries N.valid_late) i at (Sends server b (Some 2000)) → m ≡ sent
token-of t p i m bytes at b sent spelled f e =
    let text : b ≡ f.bytes = texts at t server p b f.bytes (Some 2000) (Some f.timeout) (sym e ∙ f.stands) in
    spells_one m sent f.bytes f.spelled (subst (Spells sent) text spelled)

abbrev next : Content
next = record (get_block 1) { mid = 2; token = token 2 }

-- its second option is the path, and not an ETag
abbrev second_number : List Entry → ℕ
second_number (a ∷ b ∷ more) = b.number
second_number options = 0

untagged : (tag : List ℕ) (mid : ℕ) (token : List ℕ) → next ≡ asking (Validating tag) M.get_light None mid token → ⊥
untagged tag mid token e =
    let numbers : 11 ≡ 4 = ap (λ (m : Content). second_number m.options) e in
    absurd (omega (arith, numbers))

pub valid-late : ValidLate
valid-late h =
    let parts = parts-of h.was.first.list h.number 5 11 h.list in
    let v = h.valid in
    let it = v.heard in
    let r = subst (λ (n : ℕ). IsHeard (entries N.valid_late) h.request.peer n it.response.moment h.message) parts.1 it.response.heard in
    let text : N.valid_again_bytes ≡ r.bytes = heard-texts 1200 it.response.moment server h.request.peer N.valid_again_bytes r.bytes r.stands in
    let is : h.message ≡ N.valid_again = spells_one h.message N.valid_again r.bytes r.spelled (subst (Spells N.valid_again) text valid-again-spelled) in
    let two : fourth it.sent.token ≡ 2 = ap fourth (sym it.response.token ∙ ap (λ (m : Content). m.token) is) in
    let f = it.sent_for.first in
    elim (or_cases (eqb it.sending 4) _ (places is_first (entries N.valid_late) (4 ∷ 8 ∷ 10 ∷ []) 13 it.sending _ _ refl refl f.stands refl)) [
      | inl w ↦
          let g = subst (λ (i : ℕ). IsFirstSending (entries N.valid_late) i it.sent_for.moment h.request.peer it.sent) (eqb-same it.sending 4 w) f in
          let sent = token-of it.sent_for.moment h.request.peer 4 it.sent g.bytes 0 M.get_bytes M.get_message get-spelled g refl in
          let other : fourth it.sent.token ≡ 0 = ap (λ (m : Content). fourth m.token) sent in
          absurd (omega (arith, two, other))
      | inr u ↦ elim (or_cases (eqb it.sending 8) _ u) [
        | inl w ↦
            let g = subst (λ (i : ℕ). IsFirstSending (entries N.valid_late) i it.sent_for.moment h.request.peer it.sent) (eqb-same it.sending 8 w) f in
            let sent = token-of it.sent_for.moment h.request.peer 8 it.sent g.bytes 1040 (N.validate_bytes 1 1) (N.validates 1 1) validates-spelled g refl in
            let other : fourth it.sent.token ≡ 1 = ap (λ (m : Content). fourth m.token) sent in
            absurd (omega (arith, two, other))
        | inr x ↦ elim (or_cases (eqb it.sending 10) false x) [
          | inl w ↦
              let g = subst (λ (i : ℕ). IsFirstSending (entries N.valid_late) i it.sent_for.moment h.request.peer it.sent) (eqb-same it.sending 10 w) f in
              let sent = token-of it.sent_for.moment h.request.peer 10 it.sent g.bytes 1100 N.next_bytes next next-spelled g refl in
              let asks : h.request ≡ M.get_light = sym (requests-same M.get_light h.request (sense-same 1040 h.shared.moment 1 1 (ask_for M.get_light) _ h.shared.asked.stands)) in
              let tagged : it.sent ≡ asking (Validating v.tag) M.get_light None it.sent.mid it.sent.token =
              subst (λ (q : CoapRequest). it.sent ≡ asking (Validating v.tag) q None it.sent.mid it.sent.token) asks
              (subst (λ (f : Manner). it.sent ≡ asking f h.request None it.sent.mid it.sent.token) v.asked it.sent_for.asks.1) in
              untagged v.tag it.sent.mid it.sent.token (sym sent ∙ tagged)
          | inr w ↦ absurd (false≢true w)
        ]
      ]
    ]

-- The PUT of entry 7, answered in entry 10, after which the ask came.
live-not : (js : List ℕ) (k : ℕ) → Live js ≡ Fault C.Busy k → ⊥
live-not js k e = cc

written : IsWriteAnswer (entries asked_after) M.get_light 10
written =
    record {
      ask = 7;
      write = record {
        conn = 2;
        moment = 50;
        request = M.put_light;
        asked = record { came = (ask_for M.put_light).came; rules = (ask_for M.put_light).rules; stands = refl };
        changes = λ e. absurd (omega (arith, e));
        place = (refl, refl);
      };
      moment = 100;
      grounds = Live (9 ∷ []);
      answers = refl;
      had_room = inl (live-not (9 ∷ []) 7);
    }

pub renewed-after : RenewedAfter
renewed-after h =
    let parts = parts-of h.was.first.list h.number 5 13 h.list in
    let after = h.was.current 10 mine opened-after in
    let below = (seven (entries asked_after) h.request h.was.first parts.0 refl h.was.whole).1 in
    absurd (omega (arith, after, below))
  where
    asks : h.request ≡ M.get_light
    asks = sym (requests-same M.get_light h.request (sense-same 1040 h.shared.moment 1 1 (ask_for M.get_light) _ h.shared.asked.stands))

    mine : IsWriteAnswer (entries asked_after) h.request 10
    mine = subst (λ (q : CoapRequest). IsWriteAnswer (entries asked_after) q 10) (sym asks) written

    opened-after : 10 < h.opening
    opened-after =
        elim (h.shared.shares) [
          | inl own ↦ let same = own.0 in omega (arith, same)
          | inr (inl j) ↦ j.1.fresh 10 mine (lit< tt)
          | inr (inr to) ↦ to.fresh 10 mine (lit< tt)
        ]
