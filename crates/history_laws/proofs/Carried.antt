-- The worked journals that begin with what is stored.
use Rattle.std.proofs.Common.{◌≡◌, ℕ, Bool, true, false, cond, eqb, inl, inr, List, [], ◌∷◌, Some, None, is_some, refl, sym, ap, subst, ◌∙◌, lit≤}
use Rattle.std.specs.List.{Contains}
use Rattle.std.proofs.lemmas.Bool.{false≢true}
use Rattle.std.proofs.lemmas.Bool.Decides.{eqb_tells}
use Rattle.coap_codec.specs.Spelling.{Content}
use Rattle.coap_codec.specs.declared.block.Block.{Block}
use Rattle.std.specs.Prelude.{Option, nat_lt, ◌+◌}
use Rattle.resp_cache.specs.Stored.{Stored, lifetime, is_fresh}
use Rattle.ask_model.specs.Requests.{CoapRequest, Requests, Manner, Plainly, Observing, Validating, asking}
use Rattle.ask_model.specs.Sharing.{asked_place, asks_same}
use Rattle.journal_book.specs.Entries.{Opens}
use Rattle.history_laws.specs.Responses.{Response, response_of, whole_of}
use Rattle.history_laws.specs.Readings.{Noted, Plain, at, noted}
use Rattle.history_laws.specs.Progress.{Reply, messages}
use Rattle.history_laws.specs.Transmissions.{FirstSending}
use Rattle.history_laws.specs.Exchanges.{Begun, openings}
use Rattle.history_laws.specs.Joining.{is_joinable, outrun}
use Rattle.history_laws.specs.Carrying.{carried, carried_replies}
use Rattle.history_laws.specs.Storing.{IsAsHeard, IsCarried}
use Rattle.history_laws.specs.Justified.{Legal}
use Rattle.history_laws.specs.Worked.{Holds, Refused, server, token}
use Rattle.history_laws.specs.WorkedMessages.{get_light, get_message, put_message, content_message}
use Rattle.history_laws.specs.WorkedStore.{get_bright}
use Rattle.history_laws.specs.WorkedCarried.{carried_light, served_carried, carried_late, carried_for_another, written_since, carried_outrun, carried_other_message, remembered_alone, carried_without_message, carried_twice}
use Rattle.history_laws.proofs.Elements.{contains-none, first-or-later}
use Rattle.history_laws.proofs.Joining.{shared-is}
use Rattle.history_laws.proofs.Messages.{get-spelled, content-spelled}
use Rattle.history_laws.proofs.Openings.{begun-listed}
use Rattle.history_laws.proofs.Carrying.{as-heard, unrenewed-stored}
use Rattle.history_laws.proofs.Resting.{at-rest, may-come, none-some, some-is}

legal-light : Legal carried_light
legal-light = (
  (
    (tt, lit≤ tt, (refl, lit≤ tt, (get_light, refl, refl, λ o b e. absurd (none-some b e)))),
    lit≤ tt,
    (
      refl,
      lit≤ tt,
      (
        record { spelled = get-spelled; token_size = refl; token_apart = refl; mid_apart = refl; first_wait = refl },
        record { exchange = record { since = 0; request = get_light }; asked = refl; peer = refl; manner = Plainly; block = None; asks = refl },
      ),
    ),
  ),
  lit≤ tt,
  (
    refl,
    lit≤ tt,
    record {
      spelled = content-spelled;
      response = lit≤ tt;
      unheard = refl;
      remembered = refl;
      first = record { number = 1; moment = 0; opening = 0; peer = server; message = get_message };
      under = refl;
      kind = tt;
      exchange = record { since = 0; request = get_light };
      asked = refl;
    },
  ),
)

abbrev stored-light : Stored
stored-light = record { response = response_of content_message; opening = 0; heard = 5000; list = 2 ∷ [] }

-- No exchange of a journal that has opened none may answer a GET.
none-opened : (l : List Noted) (q : CoapRequest) (o : ℕ) → openings l ≡ [] → is_joinable l q o ≡ true → ⊥
none-opened l q o none may =
    contains-none o (subst (λ (os : List ℕ). Contains os o) none (begun-listed l o (ap is_some (shared-is l q o may).opened)))

-- A connection opens at this moment, and asks.
abbrev opened_at : ℕ → List Noted
opened_at t = noted t (Opens 2) Plain ∷ carried_light

is-light : IsCarried (opened_at 64999) get_light stored-light
is-light = record {
  opening = 0;
  first = record { number = 2; sending = 1; message = content_message };
  more = [];
  carries = record { exchange = record { since = 0; request = get_light }; asked = refl; get = refl; replies = refl; whole = refl };
  code = refl;
  same = refl;
  current = refl;
  newest = refl;
  alone = λ o e w r rs comes may fresh. none-opened (opened_at 64999) get_light o refl may;
  entry = _;
  heard_in = refl;
  heard = refl;
  origin = refl;
  list = refl;
}

pub served_carried-holds : Holds served_carried
served_carried-holds = (
  (
    (
      (legal-light, lit≤ tt, (may-come _ refl refl, lit≤ tt, tt)),
      lit≤ tt,
      (may-come _ refl refl, refl, refl, (stored-light, unrenewed-stored (opened_at 64999) get_light stored-light refl (inr is-light), refl, refl), tt),
    ),
    lit≤ tt,
    (refl, refl, refl, (2, _, refl), tt),
  ),
  at-rest _ refl,
)

-- not so

abbrev light-begun : Begun
light-begun = record { since = 0; request = get_light }

-- What is stored came of the one ask that is carried.
only-ask : (b : Bool) → cond b (Some light-begun) None ≡ None → b ≡ false
only-ask true e = absurd (none-some _ (sym e))
only-ask false e = refl

of-light : (o : ℕ) (b : Begun) → cond (eqb 0 o) (Some light-begun) None ≡ Some b → (0 ≡ o) × (light-begun ≡ b)
of-light o b e = elim (eqb_tells 0 o) [
  | inl w ↦ (w.1, some-is light-begun b (subst (λ (c : Bool). cond c (Some light-begun) None ≡ Some b) w.0 e))
  | inr w ↦ absurd (none-some b (subst (λ (c : Bool). cond c (Some light-begun) None ≡ Some b) w.0 e))
]

stale-then : (s : Stored) → IsAsHeard (opened_at 65000) get_light s → is_fresh 65000 s ≡ true → ⊥
stale-then s (inl is) fresh = none-opened (opened_at 65000) get_light is.opening refl is.shared
stale-then s (inr is) fresh =
    let one = of-light is.opening is.carries.exchange is.carries.asked in
    let replies : carried_replies (opened_at 65000) 0 ≡ is.first ∷ is.more =
    subst (λ (o : ℕ). carried_replies (opened_at 65000) o ≡ is.first ∷ is.more) (sym one.0) is.carries.replies in
    let first : record { number = 2; sending = 1; message = content_message } ≡ is.first = first-of _ _ replies in
    let whole : whole_of get_light (messages (is.first ∷ is.more)) ≡ Some s.response =
    subst (λ (b : Begun). whole_of b.request (messages (is.first ∷ is.more)) ≡ Some s.response) (sym one.1) is.carries.whole in
    let response : response_of content_message ≡ s.response =
    some-is _ _ (subst (λ (rs : List Reply). whole_of get_light (messages rs) ≡ Some s.response) (sym replies) whole) in
    let entry = some-is _ _ (subst (λ (r : Reply). at (opened_at 65000) r.number ≡ Some is.entry) (sym first) is.heard_in) in
    let heard : 5000 ≡ s.heard = ap (λ (x : Noted). x.written.moment) entry ∙ sym is.heard in
    let late : nat_lt 65000 (5000 + lifetime (response_of content_message).max_age) ≡ true =
    subst (λ (w : Response). nat_lt 65000 (5000 + lifetime w.max_age) ≡ true) (sym response)
    (subst (λ (n : ℕ). nat_lt 65000 (n + lifetime s.response.max_age) ≡ true) (sym heard) fresh) in
    false≢true late
  where
    first-of : (x y : Reply) {xs ys : List Reply} → x ∷ xs ≡ y ∷ ys → x ≡ y
    first-of x y e = cc

pub carried_late-refused : Refused carried_late
carried_late-refused h = stale-then h.2.3.0 (as-heard (opened_at 65000) get_light h.2.3.0 refl h.2.3.1) h.2.3.2

pub carried_for_another-refused : Refused carried_for_another
carried_for_another-refused h = by h.2.3.0 (as-heard (opened_at 64999) get_bright h.2.3.0 refl h.2.3.1)
  where
    by : (s : Stored) → IsAsHeard (opened_at 64999) get_bright s → ⊥
    by s (inl is) = none-opened (opened_at 64999) get_bright is.opening refl is.shared
    by s (inr is) =
        let one = of-light is.opening is.carries.exchange is.carries.asked in
        false≢true (subst (λ (b : Begun). asks_same get_bright b.request ≡ true) (sym one.1) is.same)

pub carried_outrun-refused : Refused carried_outrun
carried_outrun-refused h = by h.2.3.0 (as-heard written_since get_light h.2.3.0 refl h.2.3.1)
  where
    opened : (o : ℕ) → is_joinable written_since get_light o ≡ true → 4 ≡ o
    opened o may = elim (first-or-later 4 [] o (begun-listed written_since o (ap is_some (shared-is written_since get_light o may).opened))) [
      | inl w ↦ w
      | inr w ↦ absurd (contains-none o w)
    ]

    by : (s : Stored) → IsAsHeard written_since get_light s → ⊥
    by s (inl is) = false≢true (subst (λ (o : ℕ). is_joinable written_since get_light o ≡ true) (sym (opened is.opening is.shared)) is.shared)
    by s (inr is) =
        let one = of-light is.opening is.carries.exchange is.carries.asked in
        false≢true (sym (subst (λ (o : ℕ). outrun written_since (asked_place get_light) o ≡ false) (sym one.0) is.current))

asks-code : (manner : Manner) (block : Option Block) (q : CoapRequest) (mid : ℕ) (token : List ℕ) → (asking manner q block mid token).code ≡ q.method
asks-code manner (Some b) q mid token = refl
asks-code Plainly None q mid token = refl
asks-code Observing None q mid token = refl
asks-code (Validating tag) None q mid token = refl

pub carried_other_message-refused : Refused carried_other_message
carried_other_message-refused h =
    let sent = h.2.2.1 in
    let exchange : light-begun ≡ sent.exchange = some-is _ _ sent.asked in
    apart (ap (λ (m : Content). m.code) sent.asks ∙ (asks-code sent.manner sent.block sent.exchange.request 1 (token 1)
    ∙ sym (ap (λ (b : Begun). b.request.method) exchange)))
  where
    apart : put_message.code ≡ get_light.method → ⊥
    apart e = cc

pub carried_without_message-refused : Refused carried_without_message
carried_without_message-refused h =
    let reply = h.2.2 in
    let first = some-is _ _ reply.under in
    none-some reply.exchange (subst (λ (f : FirstSending). carried remembered_alone f.opening ≡ Some reply.exchange) (sym first) reply.asked)

pub carried_twice-refused : Refused carried_twice
carried_twice-refused h =
    let copy = h.2.2 in
    let same : get_light ≡ copy.0 = request-is get_light copy.0 copy.1 in
    false≢true (sym (subst (λ (q : CoapRequest). asks_same q get_light ≡ false) (sym same) (copy.3 0 light-begun refl)))
  where
    request-is : (q r : CoapRequest) → Requests q ≡ Requests r → q ≡ r
    request-is q r e = cc
