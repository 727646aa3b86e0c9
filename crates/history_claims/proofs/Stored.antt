-- The worked journals of what is stored, as entries.
use Rattle.std.proofs.Common.{◌≡◌, ℕ, ◌+◌, ◌<◌, Bool, true, false, eqb, cond, inl, inr, List, [], ◌∷◌, length, Option, Some, None, refl, sym, ap, subst, ◌∙◌, arith, lit<}
use Rattle.std.proofs.lemmas.Bool.{false≢true, or_cases}
use Rattle.std.specs.List.{list_all, range_with_len}
use Rattle.uri_map.specs.declared.peer.Peer.{Peer}
use Rattle.coap_codec.specs.Spelling.{Content, Spells}
use Rattle.coap_codec.proofs.Unique.{spells_one}
use Rattle.coap_codec.specs.Recognition.{is_forwardable}
use Rattle.blockwise.specs.Uploads.{begun, answer_to}
use Rattle.blockwise.specs.declared.upload.Answered.{Answered}
use Rattle.blockwise.specs.declared.upload.Answered.TheVariants as A
use Rattle.ask_model.specs.Requests.{CoapRequest, Requests, Plainly, request_message}
use Rattle.history_laws.specs.Progress.{first_point}
use Rattle.ask_model.specs.declared.cause.Cause.TheVariants as C
use Rattle.resp_cache.specs.Stored.{lifetime}
use Rattle.journal_book.specs.Entries.{Live, Fault, Deed, Asks, Carries, Written}
use Rattle.history_laws.specs.Responses.{Response, response_of, joined, whole_by, whole_fetched, whole_given, whole_of}
use Rattle.history_laws.specs.Readings.{carries, entries}
use Rattle.history_laws.specs.Worked.{server, ask_for}
use Rattle.history_laws.specs.WorkedMessages as M
use Rattle.history_laws.specs.WorkedEndings as E
use Rattle.history_laws.specs.WorkedStore as K
use Rattle.history_laws.proofs.CallerLemmas.{eqb-same, none-some, read_from_store-holds, some-is}
use Rattle.history_claims.specs.Headline.{IsAsked, IsWriteAnswer, AreHeardFor, IsHeard, AreHeardOn}
use Rattle.history_claims.specs.Worked.{Served, Expired, Overwritten, OtherQuery}
use Rattle.history_claims.proofs.Examples.{lies_so, places, heard-texts, moment-same, sense-same}
use Rattle.history_claims.proofs.Plain.{HasNoCopies, ServedHere, served-here}
use Rattle.history_claims.proofs.Served.{served-in}
use Rattle.history_claims.proofs.Together.{requests-same}

pub no-copies : (h : List Written) (len : ℕ) → length h ≡ len → list_all (lies_so carries h []) (range_with_len 0 len) ≡ true → HasNoCopies h
no-copies h len size all n t k mark done e = false≢true (places carries h [] len n t (Carries k mark done) size all e refl)

pub served : Served
served =
    served-in K.read_from_store 6 60699 0 5 (3 ∷ []) read_from_store-holds.0 refl

-- not so

-- what the response says that the reply is
some-whole : {X : Type 0} (f : Response → X) (b : Bool) (v w : Response) → cond b (Some v) None ≡ Some w → f v ≡ f w
some-whole f true v w e = ap f (some-is v w e)
some-whole f false v w e = absurd (none-some w e)

whole-so : {X : Type 0} (f : Response → X) (q : CoapRequest) (m : Content) (w : Response) → f (joined m []) ≡ f (response_of m) → whole_of q (m ∷ []) ≡ Some w
    → f (response_of m) ≡ f w
whole-so f q m w same e = by (eqb q.method 1) e
  where
    answer : (b : Bool) (how : Answered) → cond b (whole_by how m [] None) None ≡ Some w → f (response_of m) ≡ f w
    answer true A.Next e = absurd (none-some w e)
    answer true A.Last e = ap f (some-is (response_of m) w e)
    answer true A.Wrong e = absurd (none-some w e)
    answer false how e = absurd (none-some w e)

    by : (b : Bool) → cond b (whole_fetched m []) (whole_given (begun (length q.body) 6) (m ∷ [])) ≡ Some w → f (response_of m) ≡ f w
    by true e = sym same ∙ some-whole f _ (joined m []) w e
    by false e = answer (is_forwardable m.options) (answer_to (begun (length q.body) 6) m) e

pub whole-age : (q : CoapRequest) (m : Content) (w : Response) → whole_of q (m ∷ []) ≡ Some w → (response_of m).max_age ≡ w.max_age
whole-age q m w e = whole-so (λ (w : Response). w.max_age) q m w refl e

pub whole-etag : (q : CoapRequest) (m : Content) (w : Response) → whole_of q (m ∷ []) ≡ Some w → (response_of m).etag ≡ w.etag
whole-etag q m w e = whole-so (λ (w : Response). w.etag) q m w refl e

non-spelled : Spells E.non_message E.non_bytes
non-spelled = read_from_store-holds.0.0.0.0.2.3.spelled

pub expired : Expired
expired is = elim h.heard [ inl w ↦ go h.messages w h.whole | inr w ↦ told-so h.messages w h.whole ]
  where
    h : ServedHere (entries K.read_expired) 60700 0 5 (3 ∷ [])
    h = served-here (entries K.read_expired) 60700 0 5 3 (no-copies (entries K.read_expired) 7 refl refl) is

    since : 700 ≡ h.since
    since = moment-same 700 h.since _ _ h.first.2

    by-age : (p : Peer) (m : Content) (t : ℕ) → IsHeard (entries K.read_expired) p 3 t m → whole_of h.other (m ∷ []) ≡ Some h.response → ⊥
    by-age p m t r whole =
        let text : E.non_bytes ≡ r.bytes = heard-texts 700 t server p E.non_bytes r.bytes r.stands in
        let is : m ≡ E.non_message = spells_one m E.non_message r.bytes r.spelled (subst (Spells E.non_message) text non-spelled) in
        let age : (response_of E.non_message).max_age ≡ h.response.max_age =
        subst (λ (m : Content). (response_of m).max_age ≡ h.response.max_age) is (whole-age h.other m h.response whole) in
        let late : 60700 < 700 + lifetime (response_of E.non_message).max_age =
        subst (λ (age : Option ℕ). 60700 < 700 + lifetime age) (sym age)
        (subst (λ (t : ℕ). 60700 < t + lifetime h.response.max_age) (sym since) h.fresh) in
        let same : 60700 < 60700 = late in
        absurd (omega (arith, same))

    go : (ms : List Content) → AreHeardFor (entries K.read_expired) h.opening h.other (first_point h.other) (3 ∷ []) ms → whole_of h.other ms ≡ Some h.response → ⊥
    go [] heard whole = absurd heard
    go (m ∷ n ∷ ms) heard whole = absurd heard.1
    go (m ∷ []) heard whole = by-age h.other.peer m heard.0.response.moment heard.0.response.heard whole

    told-so : (ms : List Content) → AreHeardOn (entries K.read_expired) h.opening h.other (3 ∷ []) ms → whole_of h.other ms ≡ Some h.response → ⊥
    told-so [] heard whole = absurd heard
    told-so (m ∷ n ∷ ms) heard whole = absurd heard.1
    told-so (m ∷ []) heard whole = by-age heard.0.0.peer m heard.0.2.response.moment heard.0.2.response.heard whole

-- the PUT of entry 4, answered in entry 17
busy-not : (js : List ℕ) (k : ℕ) → Live js ≡ Fault C.Busy k → ⊥
busy-not js k e = cc

written : IsWriteAnswer (entries K.read_outdated) M.get_light 17
written =
    record {
      ask = 4;
      write = record {
        conn = 1;
        moment = 500;
        request = M.put_light;
        asked = record { came = (ask_for M.put_light).came; rules = (ask_for M.put_light).rules; stands = refl };
        changes = λ e. absurd (omega (arith, e));
        place = (refl, refl);
      };
      moment = 5300;
      grounds = Live (16 ∷ []);
      answers = refl;
      had_room = inl (busy-not (16 ∷ []) 4);
    }

pub overwritten : Overwritten
overwritten is = elim h.heard [ inl w ↦ go h.messages w | inr w ↦ told-so h.messages w ]
  where
    h : ServedHere (entries K.read_outdated) 5400 0 18 (9 ∷ [])
    h = served-here (entries K.read_outdated) 5400 0 18 9 (no-copies (entries K.read_outdated) 20 refl refl) is

    asks : h.request ≡ M.get_light
    asks = sym (requests-same M.get_light h.request (sense-same 5400 5400 0 0 (ask_for M.get_light) _ h.asked.stands))

    later : 17 < h.opening
    later = h.current 17 (subst (λ (q : CoapRequest). IsWriteAnswer (entries K.read_outdated) q 17) (sym asks) written) (lit< tt)

    go : (ms : List Content) → AreHeardFor (entries K.read_outdated) h.opening h.other (first_point h.other) (9 ∷ []) ms → ⊥
    go [] heard = absurd heard
    go (m ∷ ms) heard =
        let opened = later in
        let sent = heard.0.sent_for.after in
        let came = heard.0.response.after in
        absurd (omega (arith, opened, sent, came))

    told-so : (ms : List Content) → AreHeardOn (entries K.read_outdated) h.opening h.other (9 ∷ []) ms → ⊥
    told-so [] heard = absurd heard
    told-so (m ∷ n ∷ ms) heard = absurd heard.1
    told-so (m ∷ []) heard =
        let opened = later in
        let sent = heard.0.2.observed.heard.sent_for.after in
        let came = heard.0.2.response.after in
        absurd (omega (arith, opened, sent, came))

-- the one ask before it
abbrev is_ask : Deed → Bool
is_ask (Asks c a) = true
is_ask d = false

pub other-query : OtherQuery
other-query is =
    let asks : h.request ≡ K.get_bright = sym (requests-same K.get_bright h.request (sense-same 800 800 0 0 (ask_for K.get_bright) _ h.asked.stands)) in
    let three : length (request_message h.request 0 []).options ≡ 3 = subst (λ (q : CoapRequest). length (request_message q 0 []).options ≡ 3) (sym asks) refl in
    let two : length (request_message h.other 0 []).options ≡ 2 = subst (λ (q : CoapRequest). length (request_message q 0 []).options ≡ 2) asked refl in
    let same : length (request_message h.request 0 []).options ≡ length (request_message h.other 0 []).options = ap (λ (m : Content). length m.options) (h.same.2 Plainly 0 []) in
    absurd (omega (arith, three, two, same))
  where
    h : ServedHere (entries K.other_query) 800 0 5 (3 ∷ [])
    h = served-here (entries K.other_query) 800 0 5 3 (no-copies (entries K.other_query) 6 refl refl) is

    place : h.opening ≡ 1
    place =
        elim (or_cases (eqb h.opening 1) _ (places is_ask (entries K.other_query) (1 ∷ 5 ∷ []) 6 h.opening h.moment _ refl refl h.other_asked.stands refl)) [
          | inl w ↦ eqb-same h.opening 1 w
          | inr v ↦ elim (or_cases (eqb h.opening 5) false v) [
            | inl w ↦ let five = eqb-same h.opening 5 w in let below = h.earlier in absurd (omega (arith, five, below))
            | inr w ↦ absurd (false≢true w)
          ]
        ]

    asked : M.get_light ≡ h.other
    asked =
        let it = subst (λ (o : ℕ). IsAsked (entries K.other_query) o h.conn h.moment (Requests h.other)) place h.other_asked in
        requests-same M.get_light h.other (sense-same 0 h.moment 0 h.conn (ask_for M.get_light) _ it.stands)
