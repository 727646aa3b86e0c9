-- The worked journals that begin with what is stored, as entries.
use Rattle.std.proofs.Common.{◌≡◌, ℕ, ◌+◌, ◌<◌, Bool, true, false, eqb, inl, inr, List, [], ◌∷◌, length, Option, Some, refl, sym, ap, subst, arith, lit<}
use Rattle.std.proofs.lemmas.Bool.{false≢true, or_cases}
use Rattle.coap_codec.specs.Spelling.{Content, Spells}
use Rattle.coap_codec.proofs.Unique.{spells_one}
use Rattle.uri_map.specs.declared.peer.Peer.{Peer}
use Rattle.ask_model.specs.declared.cause.Cause.TheVariants as C
use Rattle.ask_model.specs.Requests.{CoapRequest, Plainly, request_message}
use Rattle.ask_model.specs.Views.{Ask}
use Rattle.resp_cache.specs.Stored.{lifetime}
use Rattle.journal_book.specs.Entries.{Ground, Asked, Heard, Live, Fault, Deed, Carries, Written}
use Rattle.history_laws.specs.Responses.{response_of, whole_of}
use Rattle.history_laws.specs.Readings.{entries}
use Rattle.history_laws.specs.Worked.{server, ask_for}
use Rattle.history_laws.specs.WorkedCarried as A
use Rattle.history_laws.specs.WorkedMessages as M
use Rattle.history_laws.specs.WorkedStore.{get_bright}
use Rattle.history_laws.proofs.CallerLemmas.{content-spelled, eqb-same, served_carried-holds, some-is}
use Rattle.history_claims.specs.Headline.{IsWriteAnswer}
use Rattle.history_claims.specs.Carried.{IsAskCopied, IsCarriedFor, AreCarriedFor}
use Rattle.history_claims.specs.Worked.{ServedCarried, CarriedLate, CarriedForAnother, CarriedOutrun}
use Rattle.history_claims.proofs.Examples.{entry_of, places, moment-same, sense-same}
use Rattle.history_claims.proofs.Plain.{ServedCopied, served-copied}
use Rattle.history_claims.proofs.Served.{served-in}
use Rattle.history_claims.proofs.Stored.{whole-age}
use Rattle.history_claims.proofs.Together.{requests-same}

pub served-carried : ServedCarried
served-carried = served-in A.served_carried 5 64999 2 4 (2 ∷ []) served_carried-holds.0 refl

-- not so

copied-texts : (t s n k : ℕ) (p r : Peer) (b c : List ℕ) → Some (entry_of t (Carries n Ground (Heard p b))) ≡ Some (entry_of s (Carries k Ground (Heard r c))) → b ≡ c
copied-texts t s n k p r b c e = go (ap (λ (x : Written). x.deed) (some-is _ _ e))
  where
    go : Carries n Ground (Heard p b) ≡ Carries k Ground (Heard r c) → b ≡ c
    go f = cc

pub carried-late : CarriedLate
carried-late is = go h.messages h.heard h.whole
  where
    h : ServedCopied (entries A.carried_late) 65000 2 4 (2 ∷ [])
    h = served-copied (entries A.carried_late) 65000 2 4 2 5000 9 Ground (Heard server M.content_bytes) refl is

    since : 5000 ≡ h.heard_at
    since = moment-same 5000 h.heard_at _ _ h.first.3

    by-age : (m : Content) → IsCarriedFor (entries A.carried_late) h.opening h.copied 2 m → whole_of h.copied (m ∷ []) ≡ Some h.response → ⊥
    by-age m r whole =
        let text : M.content_bytes ≡ r.bytes = copied-texts 5000 r.heard_at 9 r.heard_as server h.copied.peer M.content_bytes r.bytes r.heard in
        let is : m ≡ M.content_message = spells_one m M.content_message r.bytes r.spelled (subst (Spells M.content_message) text content-spelled) in
        let age : (response_of M.content_message).max_age ≡ h.response.max_age =
        subst (λ (m : Content). (response_of m).max_age ≡ h.response.max_age) is (whole-age h.copied m h.response whole) in
        let late : 65000 < 5000 + lifetime (response_of M.content_message).max_age =
        subst (λ (age : Option ℕ). 65000 < 5000 + lifetime age) (sym age)
        (subst (λ (t : ℕ). 65000 < t + lifetime h.response.max_age) (sym since) h.fresh) in
        let same : 65000 < 65000 = late in
        absurd (omega (arith, same))

    go : (ms : List Content) → AreCarriedFor (entries A.carried_late) h.opening h.copied (2 ∷ []) ms → whole_of h.copied ms ≡ Some h.response → ⊥
    go [] heard whole = absurd heard
    go (m ∷ n ∷ ms) heard whole = absurd heard.1
    go (m ∷ []) heard whole = by-age m heard.0 whole

-- the one ask that is copied
abbrev is_copied : Deed → Bool
is_copied (Carries n mark (Asked c a)) = true
is_copied d = false

copied-sense : (t s n k c d : ℕ) (a b : Ask) → Some (entry_of t (Carries n Ground (Asked c a))) ≡ Some (entry_of s (Carries k Ground (Asked d b))) → a.sense ≡ b.sense
copied-sense t s n k c d a b e = go (ap (λ (x : Written). x.deed) (some-is _ _ e))
  where
    same : Carries n Ground (Asked c a) ≡ Carries k Ground (Asked d b) → a ≡ b
    same f = cc

    go : Carries n Ground (Asked c a) ≡ Carries k Ground (Asked d b) → a.sense ≡ b.sense
    go f = ap (λ (a : Ask). a.sense) (same f)

pub carried-for-another : CarriedForAnother
carried-for-another is =
    let asks : h.request ≡ get_bright = sym (requests-same get_bright h.request (sense-same 64999 64999 2 2 (ask_for get_bright) _ h.asked.stands)) in
    let three : length (request_message h.request 0 []).options ≡ 3 = subst (λ (q : CoapRequest). length (request_message q 0 []).options ≡ 3) (sym asks) refl in
    let two : length (request_message h.copied 0 []).options ≡ 2 = subst (λ (q : CoapRequest). length (request_message q 0 []).options ≡ 2) asked refl in
    let same : length (request_message h.request 0 []).options ≡ length (request_message h.copied 0 []).options = ap (λ (m : Content). length m.options) (h.same.2 Plainly 0 []) in
    absurd (omega (arith, three, two, same))
  where
    h : ServedCopied (entries A.carried_for_another) 64999 2 4 (2 ∷ [])
    h = served-copied (entries A.carried_for_another) 64999 2 4 2 5000 9 Ground (Heard server M.content_bytes) refl is

    place : h.opening ≡ 0
    place =
        elim (or_cases (eqb h.opening 0) false (places is_copied (entries A.carried_for_another) (0 ∷ []) 5 h.opening h.copied_asked.moment _ refl refl h.copied_asked.stands refl)) [
          | inl w ↦ eqb-same h.opening 0 w
          | inr w ↦ absurd (false≢true w)
        ]

    asked : M.get_light ≡ h.copied
    asked =
        let it = subst (λ (o : ℕ). IsAskCopied (entries A.carried_for_another) o h.copied) place h.copied_asked in
        requests-same M.get_light h.copied (copied-sense 0 it.moment 1 it.number 0 it.conn (ask_for M.get_light) _ it.stands)

-- the PUT of entry 4, answered in entry 7
live-not : (js : List ℕ) (k : ℕ) → Live js ≡ Fault C.Busy k → ⊥
live-not js k e = cc

written : IsWriteAnswer (entries A.carried_outrun) M.get_light 7
written =
    record {
      ask = 4;
      write = record {
        conn = 2;
        moment = 9000;
        request = M.put_light;
        asked = record { came = (ask_for M.put_light).came; rules = (ask_for M.put_light).rules; stands = refl };
        changes = λ e. absurd (omega (arith, e));
        place = (refl, refl);
      };
      moment = 10000;
      grounds = Live (6 ∷ []);
      answers = refl;
      had_room = inl (live-not (6 ∷ []) 4);
    }

pub carried-outrun : CarriedOutrun
carried-outrun is =
    let asks : h.request ≡ M.get_light = sym (requests-same M.get_light h.request (sense-same 10001 10001 2 2 (ask_for M.get_light) _ h.asked.stands)) in
    early h.messages h.heard (h.current 7 (subst (λ (q : CoapRequest). IsWriteAnswer (entries A.carried_outrun) q 7) (sym asks) written) (lit< tt))
  where
    h : ServedCopied (entries A.carried_outrun) 10001 2 8 (2 ∷ [])
    h = served-copied (entries A.carried_outrun) 10001 2 8 2 5000 9 Ground (Heard server M.content_bytes) refl is

    early : (ms : List Content) → AreCarriedFor (entries A.carried_outrun) h.opening h.copied (2 ∷ []) ms → 7 < h.opening → ⊥
    early [] heard lt = heard
    early (m ∷ ms) heard lt =
        let order = heard.0.order in
        let sent = order.0 in
        let came = order.1 in
        absurd (omega (arith, lt, sent, came))
