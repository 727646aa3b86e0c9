-- Requests that one message asks: what was sent for the one was sent for the other.
use Rattle.std.proofs.Common.{◌≡◌, ℕ, ◌⊎◌, true, eqb, inl, inr, List, [], Option, None, refl, sym, ap, subst, ◌∙◌}
use Rattle.std.proofs.lemmas.Bool.{and_parts}
use Rattle.coap_codec.specs.Spelling.{Content}
use Rattle.coap_codec.specs.declared.block.Block.{Block}
use Rattle.uri_map.specs.declared.peer.Peer.{Peer}
use Rattle.ask_model.specs.Requests.{CoapRequest, Manner, Plainly, asking}
use Rattle.ask_model.specs.Sharing.{is_get, asks_same}
use Rattle.ask_model.proofs.CallerLemmas.{asks-alike}
use Rattle.journal_book.specs.Entries.{Written}
use Rattle.resp_cache.specs.Stored.{Stored}
use Rattle.history_laws.specs.Readings.{Noted}
use Rattle.history_laws.specs.Storing.{IsStored}
use Rattle.history_laws.proofs.CallerLemmas.{asking-alike, eqb-same, reader-alike, Reader, renewal-shared, shared-is}
use Rattle.history_claims.specs.Headline.{IsFirstSending, IsSentFor, IsResponse, IsNew, IsUnanswered, IsHeardFor, IsSameGet}

pub record IsLike (r q : CoapRequest) : Type 0 where
  pub peer : r.peer ≡ q.peer
  pub message : (manner : Manner) (mid : ℕ) (token : List ℕ) → asking manner r None mid token ≡ asking manner q None mid token

pub like-method : (r q : CoapRequest) → IsLike r q → r.method ≡ q.method
like-method r q like = ap (λ (m : Content). m.code) (like.message Plainly 0 [])

pub like-get : (r q : CoapRequest) → IsLike r q → q.method ≡ 1 → IsSameGet q r
like-get r q like get = (get, sym like.peer, λ manner mid token. sym (like.message manner mid token))

-- What is for the same as the one is for the same as the other.
pub same-through : (r q s : CoapRequest) → IsLike r q → IsSameGet r s → IsSameGet q s
same-through r q s like g = (
  sym (like-method r q like) ∙ g.0,
  sym like.peer ∙ g.1,
  λ manner mid token. sym (like.message manner mid token) ∙ g.2 manner mid token,
)

-- A GET is for the same as itself.
pub own-get : (q : CoapRequest) → q.method ≡ 1 → IsSameGet q q
own-get q get = (get, refl, λ manner mid token. refl)

pub sent-like : (h : List Written) (o : ℕ) (r q : CoapRequest) (block : Option Block) (i : ℕ) (m : Content) → IsLike r q
    → IsSentFor h o r block i m → IsSentFor h o q block i m
sent-like h o r q block i m like s =
    record {
      after = s.after;
      moment = s.moment;
      first = subst (λ (p : Peer). IsFirstSending h i s.moment p m) like.peer s.first;
      asks = (s.asks.0, s.asks.1 ∙ asking-alike s.asks.0 r q m.mid m.token block (like.peer, like.message));
      issued = s.issued;
    }

pub heard-like : (h : List Written) (o : ℕ) (r q : CoapRequest) (block : Option Block) (j : ℕ) (m : Content) → IsLike r q
    → (s : IsHeardFor h o r block j m) → (t : IsHeardFor h o q block j m) × (t.sending ≡ s.sending)
heard-like h o r q block j m like s = (
  record {
    sending = s.sending;
    sent = s.sent;
    sent_for = sent-like h o r q block s.sending s.sent like s.sent_for;
    response = subst (λ (p : Peer). IsResponse h p s.sending s.sent j m) like.peer s.response;
    new = subst (λ (p : Peer). IsNew h p j) like.peer s.new;
    first = subst (λ (p : Peer). IsUnanswered h p s.sending s.sent j) like.peer s.first;
  },
  refl,
)

pub get-method : (q : CoapRequest) → is_get q ≡ true → q.method ≡ 1
get-method q e = eqb-same q.method 1 (and_parts (eqb q.method 1) _ e).0

-- what asks the same is a GET
pub same-get : (q r : CoapRequest) → asks_same q r ≡ true → q.method ≡ 1
same-get q r e = get-method q (and_parts (is_get q) _ e).0

-- nor is anything else answered with what is stored
pub stored-get : (l : List Noted) (q : CoapRequest) (s : Stored) → IsStored l q s → is_get q ≡ true
stored-get l q s (inl (inl is)) = (and_parts (is_get q) _ (shared-is l q is.0.opening is.0.shared).same).0
stored-get l q s (inl (inr is)) = (and_parts (is_get q) _ is.0.same).0
stored-get l q s (inr it) = (and_parts (is_get q) _ (renewal-shared l q it.renewal.opening it.renewal.same).2).0

pub asks-like : (q r : CoapRequest) → asks_same q r ≡ true → IsLike r q
asks-like q r e =
    let alike = asks-alike q r e in
    record { peer = sym alike.0; message = λ manner mid token. sym (alike.1 manner mid token) }

-- an exchange is for what its reader asks, which is a GET if it joined
pub reader-like : (l : List Noted) (k o : ℕ) (it : Reader l k o) → IsLike it.exchange.request it.request
reader-like l k o it =
    let alike = reader-alike l k o it in
    record { peer = sym alike.0; message = λ manner mid token. sym (alike.1 manner mid token) }

pub reader-get : (l : List Noted) (k o : ℕ) (it : Reader l k o) → (o ≡ k) ⊎ (it.request.method ≡ 1)
reader-get l k o it =
    elim (it.way) [ inl own ↦ inl own.0 | inr along ↦ inr (same-get it.request it.exchange.request along.same) ]
