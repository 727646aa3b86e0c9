-- What was renewed is what was stored for the ask, by the 2.03 that is last in its list.
use Rattle.std.proofs.Common.{◌≡◌, ℕ, inl, inr, true, false, eqb, List, [], ◌∷◌, ◌++◌, Some, refl, sym, ap, subst, ◌∙◌}
use Rattle.std.proofs.lemmas.Bool.{false≢true}
use Rattle.coap_codec.specs.Spelling.{Content}
use Rattle.uri_map.specs.declared.peer.Peer.{Peer}
use Rattle.ask_model.specs.Requests.{CoapRequest, Plainly, request_message}
use Rattle.journal_book.specs.Entries.{Kept, Hears, Written}
use Rattle.resp_cache.specs.Stored.{Stored}
use Rattle.history_laws.specs.Responses.{Response, last_of, renewed_response, whole_fetched, whole_of}
use Rattle.history_laws.proofs.CallerLemmas.{none-some, some-is}
use Rattle.history_claims.specs.Headline.{IsHeard, IsSameGet}
use Rattle.history_claims.specs.Stored.{WasWhole, WasRenewed, never, again}
use Rattle.exchange_core.specs.Answering.{HeardAs, AreHeard, CountsFrom, IsRenewal, IsResponse}
use Rattle.exchange_core.specs.Answering as Given
use Rattle.gateway_model.specs.Told.{IsAsStored, IsInFormat, IsRenewedAs}
use Rattle.gateway_model.proofs.Spelled.{at-last, both-heard, by-message, counts-first, counts-last, heard-one, last-of-push, messages-whole, since-whole, whole-not}

fetched-of : (q : CoapRequest) (m : Content) (ms : List Content) (w : Response) → q.method ≡ 1 → whole_of q (m ∷ ms) ≡ Some w → whole_fetched m ms ≡ Some w
fetched-of q m ms w get e =
    let one : eqb q.method 1 ≡ true = subst (λ (n : ℕ). eqb n 1 ≡ true) (sym get) refl in
    rw (one) at e

is-valid : (m : Content) → m.code ≡ 67 → eqb m.code 67 ≡ true
is-valid m code = subst (λ (c : ℕ). eqb c 67 ≡ true) (sym code) refl

-- Messages of which the last is a 2.03 are no whole response.
pub renewal-whole : (q : CoapRequest) (ms : List Content) (v w : Response) → IsRenewal ms v → whole_of q ms ≡ Some w → ⊥
renewal-whole q ms v w r e =
    let whole : whole_of q ((r.first ∷ r.more) ++ r.last ∷ []) ≡ Some w = subst (λ (ms : List Content). whole_of q ms ≡ Some w) r.is e in
    let other : eqb r.last.code 67 ≡ false =
    subst (λ (m : Content). eqb m.code 67 ≡ false) (last-of-push r.first r.last r.more) (whole-not q r.first (r.more ++ r.last ∷ []) w whole) in
    false≢true (sym other ∙ is-valid r.last r.says)

pub valid-whole : (h : List Written) (js : List ℕ) (n u : ℕ) (m : Content) (q : CoapRequest) (ms : List Content) (w : Response) → HeardAs h n u m
    → m.code ≡ 67 → AreHeard h (js ++ n ∷ []) ms → whole_of q ms ≡ Some w → ⊥
valid-whole h js n u m q [] w at code heard e = none-some w e
valid-whole h js n u m q (x ∷ ms) w at code heard e =
    let last = at-last h js n x ms heard in
    let same : last_of x ms ≡ m = (heard-one h n last.0 u (last_of x ms) m last.1 at).1 in
    false≢true (sym (whole-not q x ms w e) ∙ (ap (λ (m : Content). eqb m.code 67) same ∙ is-valid m code))

pub heard-valid : (h : List Written) (p : Peer) (j t : ℕ) (m : Content) → IsHeard h p j t m → HeardAs h j t m
heard-valid h p j t m a = record { peer = p; bytes = a.bytes; deed = Hears p a.bytes; stands = a.stands; says = refl; spelled = a.spelled }

same-method : (q r : CoapRequest) → IsSameGet q r → r.method ≡ 1
same-method q r s = sym (ap (λ (m : Content). m.code) (s.2 Plainly 0 [])) ∙ s.0

-- What is renewed again and again is as it was heard first, but for its format and Max-Age.
chain : (h : List Written) (q : CoapRequest) (first : Stored) (n : ℕ) (s : Stored) → WasRenewed h q first n s
    → s.response ≡ record first.response { format = s.response.format; max_age = s.response.max_age }
chain h q first n s (never before) = refl
chain h q first n s (again {s = old} o c t j r m asked same was it before) =
    ap (λ (v : Response). renewed_response v m) (chain h q first o old was)

-- The format was heard of it.
pub in-format : (h : List Written) (js : List ℕ) (w : Response) → Given.IsInFormat h js w → IsInFormat h js w
in-format h js w a = record {
  peer = a.heard.peer;
  number = a.number;
  moment = a.moment;
  message = a.message;
  heard = record {
    bytes = a.heard.bytes;
    done = record { deed = a.heard.deed; stands = a.heard.stands; says = a.heard.says };
    spelled = a.heard.spelled;
  };
  format = a.format;
  source = a.source;
}

-- The pieces are what was heard first, and the last is the 2.03 that renews that.
pub renewed-as : (h : List Written) (q : CoapRequest) (first old : Stored) (k n u : ℕ) (m : Content) (ms : List Content) (w : Response)
    → AreHeard h (first.list ++ n ∷ []) ms → IsRenewal ms w → HeardAs h n u m → WasWhole h q first → WasRenewed h q first k old
    → IsInFormat h (first.list ++ n ∷ []) w → IsRenewedAs h (first.list ++ n ∷ []) old.response m w
renewed-as h q first old k n u m ms w heard r at whole was format =
    let both = both-heard h first.list n (r.first ∷ r.more) r.last (subst (AreHeard h (first.list ++ n ∷ [])) r.is heard) in
    let last : r.last ≡ m = (heard-one h n both.1.0 u r.last m both.1.1 at).1 in
    let texts : whole.messages ≡ r.first ∷ r.more =
    messages-whole h first.opening whole.other first.list whole.messages (r.first ∷ r.more) first.heard whole.heard both.0 in
    let fetched : whole_fetched r.first r.more ≡ Some first.response =
    fetched-of whole.other r.first r.more first.response (same-method q whole.other whole.same)
    (subst (λ (ms : List Content). whole_of whole.other ms ≡ Some first.response) texts whole.whole) in
    let response : r.response ≡ first.response = some-is r.response first.response (sym r.whole ∙ fetched) in
    record {
      before = r.before;
      is = r.renewed
          ∙ (ap (λ (v : Response). renewed_response (record v { format = r.before }) r.last) response
          ∙ (ap (λ (x : Content). renewed_response (record first.response { format = r.before }) x) last
          ∙ sym (ap (λ (v : Response). renewed_response (record v { format = r.before }) m) (chain h q first k old was))));
      format = format;
    }

-- What is stored is what was given, and counts from the same moment.
pub served-as : (h : List Written) (t heard k : ℕ) (q r : CoapRequest) (ms : List Content) (w : Response) (first s : Stored) → r ≡ q
    → AreHeard h s.list ms → IsResponse q ms w → CountsFrom h (Kept s.list) t heard → IsInFormat h s.list w → WasWhole h r first → (was : WasRenewed h r first k s)
    → IsAsStored h r first k s was w × (s.heard ≡ heard)
served-as h t heard k q r ms w first s is all (inl whole) counts format first_whole (never before) =
    let texts : first_whole.messages ≡ ms =
    messages-whole h first.opening first_whole.other first.list first_whole.messages ms first.heard first_whole.heard all in
    let message : request_message first_whole.other 0 [] ≡ request_message q 0 [] =
    sym (first_whole.same.2 Plainly 0 []) ∙ ap (λ (k : CoapRequest). request_message k 0 []) is in (
      sym (some-is first.response w
          (sym first_whole.whole ∙ (by-message first_whole.other q first_whole.messages message ∙ (ap (whole_of q) texts ∙ whole)))),
      since-whole h first.opening first_whole.other first.list first_whole.messages first.heard heard first_whole.heard
          (counts-first h first.list t heard q ms w all whole counts),
    )
served-as h t heard k q r ms w first s is all (inr renewal) counts format first_whole (never before) =
    let texts : first_whole.messages ≡ ms =
    messages-whole h first.opening first_whole.other first.list first_whole.messages ms first.heard first_whole.heard all in
    absurd (renewal-whole first_whole.other ms w first.response renewal.1
    (subst (λ (ms : List Content). whole_of first_whole.other ms ≡ Some first.response) texts first_whole.whole))
served-as h t heard k q r ms w first s is all (inl whole) counts format first_whole (again {s = old} o c u j other m asked same was it before) =
    let at = heard-valid h other.peer j it.heard.response.moment m it.heard.response.heard in
    absurd (valid-whole h first.list j it.heard.response.moment m q ms w at it.code all whole)
served-as h t heard k q r ms w first s is all (inr renewal) counts format first_whole (again {s = old} o c u j other m asked same was it before) =
    let at = heard-valid h other.peer j it.heard.response.moment m it.heard.response.heard in (
      renewed-as h r first old o j it.heard.response.moment m ms w all renewal.1 at first_whole was format,
      sym (counts-last h first.list j t heard it.heard.response.moment m at (is-valid m it.code) counts),
    )

pub counts-valid : (h : List Written) (js : List ℕ) (n t heard u : ℕ) (m : Content) → HeardAs h n u m → m.code ≡ 67
    → CountsFrom h (Kept (js ++ n ∷ [])) t heard → heard ≡ u
counts-valid h js n t heard u m at code counts = counts-last h js n t heard u m at (is-valid m code) counts
