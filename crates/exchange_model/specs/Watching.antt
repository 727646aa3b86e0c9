-- What asks, messages and ends do to the resources that are observed (RFC 7641).
use Rattle.std.specs.Prelude.{ℕ, Bool, false, not, ◌&&◌, ◌==◌, List, [], ◌∷◌, ◌++◌, filter, length, map, nat_lt, Option, Some, None, if◌then◌else◌}
use Rattle.std.specs.List.{list_any}
use Rattle.std.specs.Str.{bytes_eq}
use Rattle.coap_codec.specs.Spelling.{Content}
use Rattle.observe_share.specs.declared.registration.Registration.{Registration}
use Rattle.observe_share.specs.Watches.{is_of, is_at, asked_at, counts_for, without}
use Rattle.ask_model.specs.Requests.{CoapRequest, Sense, Requests, Refuses}
use Rattle.ask_model.specs.Sharing.{asked_key, asked_place, is_get}
use Rattle.ask_model.specs.Observing.{may_observe}
use Rattle.ask_model.specs.Views.{Ask}
use Rattle.history_laws.specs.Observing.{most_watches, notice_in, number_or_zero, version}
use Rattle.history_laws.specs.Hearing.{is_such, is_update}
use Rattle.exchange_model.specs.declared.kept.Exchange.{Exchange}

-- An ask for what is observed is noted, unless it opens an exchange.
abbrev pub touched_for : ℕ → CoapRequest → List Registration → List Registration
touched_for t q rs = if is_get q then map (asked_at (asked_key q) t) rs else rs

abbrev pub touched : ℕ → Sense → List Registration → List Registration
touched t (Requests q) rs = touched_for t q rs
touched t (Refuses cause status) rs = rs

-- An exchange for what one observes ends it.
abbrev pub is_renewed_by : CoapRequest → Registration → Bool
is_renewed_by q r = is_get q && is_of (asked_key q) r

-- Its first message asks to observe where its server may be observed, and fewer others are than may
-- be.
abbrev pub wants : Ask → CoapRequest → List Registration → Bool
wants a q rs = may_observe a.rules q && nat_lt (length (without (is_renewed_by q) rs)) most_watches

-- By the reply to it the exchange registers what it asks for (RFC 7641 section 4.1).
abbrev pub registers : Content → Exchange → List Registration → Bool
registers m e rs =
    e.observes && (is_update (notice_in m) && (e.current && nat_lt (length rs) most_watches))

abbrev pub registration_of : ℕ → Content → Exchange → Option CoapRequest → List Registration
registration_of t m e None = []
registration_of t m e (Some q) = record {
  key = asked_key q;
  token = m.token;
  opening = e.opening;
  version = number_or_zero (version m);
  moment = t;
  asked = e.asked;
} ∷ []

abbrev pub registered : ℕ → Content → Exchange → Option CoapRequest → List Registration
    → List Registration
registered t m e asked rs = if registers m e rs then rs ++ registration_of t m e asked else rs

-- A CON or NON under the token of one is a notification, which counts where it is newer (RFC 7641
-- section 3.4).
abbrev pub counts_to : ℕ → Content → Registration → Bool
counts_to t m r = is_such m.kind && counts_for (notice_in m) t r

-- Those of its place end with a write.
abbrev pub is_written_by : Option CoapRequest → Registration → Bool
is_written_by None r = false
is_written_by (Some q) r = not (q.method == 1) && is_at (asked_place q) r

-- the tokens of those that end
abbrev pub token_of : Registration → List ℕ
token_of r = r.token

abbrev pub tokens_of : (Registration → Bool) → List Registration → List (List ℕ)
tokens_of ends rs = map token_of (filter ends rs)

abbrev pub is_one_of : List (List ℕ) → List ℕ → Bool
is_one_of tokens token = list_any (bytes_eq token) tokens
