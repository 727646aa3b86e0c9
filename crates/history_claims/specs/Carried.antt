-- What a journal begins with that an answer may rest on: copies of an older one's entries.
use Rattle.std.specs.Prelude.{◌≡◌, ℕ, ◌<◌, ◌≤◌, List, [], ◌∷◌, Option, Some, ⊤}
use Rattle.coap_codec.specs.declared.block.Block.{Block}
use Rattle.coap_codec.specs.Spelling.{Content, Spells}
use Rattle.uri_map.specs.declared.peer.Peer.{Peer}
use Rattle.ask_model.specs.Requests.{CoapRequest, Came, Requests}
use Rattle.ask_model.specs.Views.{Rules}
use Rattle.journal_book.specs.Entries.{Ground, Asked, Sent, Heard, Carries, Written}
use Rattle.history_claims.specs.Headline.{IsEntry, WasFirstSent, AsksFor, BringsResponse}

-- The entry is a copy of one in which this was asked.
pub record IsAskCopied (h : List Written) (o : ℕ) (q : CoapRequest) : Type 0 where
  pub conn : ℕ
  pub moment : ℕ
  pub number : ℕ
  pub came : Came
  pub rules : Rules
  pub stands : IsEntry h o moment (Carries number Ground
      (Asked conn (record { came = came; sense = Requests q; rules = rules })))

-- The entry j is a copy of one that heard this reply. It came to a message of which a copy stands
-- between these entries, and which asked for q, or for a block of it, under a token that no other
-- message bears (RFC 7252 section 5.3.1).
pub record IsCarriedFor (h : List Written) (o : ℕ) (q : CoapRequest) (j : ℕ) (m : Content)
    : Type 0 where
  pub sending : ℕ
  pub sent_at : ℕ
  pub sent_as : ℕ
  pub sent : Content
  pub text : List ℕ
  pub timeout : ℕ
  pub first : IsEntry h sending sent_at (Carries sent_as Ground (Sent q.peer text (Some timeout)))
  pub sent_spelled : Spells sent text
  pub block : Option Block
  pub asks : AsksFor q block sent
  pub issued : (i s : ℕ) (p : Peer) (n : Content) → WasFirstSent h i s p n
      → n.token ≡ sent.token → i ≡ sending
  pub heard_at : ℕ
  pub heard_as : ℕ
  pub bytes : List ℕ
  pub heard : IsEntry h j heard_at (Carries heard_as Ground (Heard q.peer bytes))
  pub spelled : Spells m bytes
  pub order : (o < sending) × (sending < j)
  pub response : 32 ≤ m.code
  pub token : sent.token ≡ m.token
  pub kind : BringsResponse m.kind m.mid sent.mid

-- So are these entries, one by one.
abbrev pub AreCarriedFor : List Written → ℕ → CoapRequest → List ℕ → List Content → Type 0
AreCarriedFor h o q [] [] = ⊤
AreCarriedFor h o q (j ∷ js) (m ∷ ms) = IsCarriedFor h o q j m × AreCarriedFor h o q js ms
AreCarriedFor h o q _ _ = ⊥

-- The first of them was heard at this moment.
abbrev pub IsCarriedFirst : List Written → ℕ → List ℕ → Type 0
IsCarriedFirst h t [] = ⊥
IsCarriedFirst h t (j ∷ js) =
    (p : Peer) × (number : ℕ) × (bytes : List ℕ)
    × IsEntry h j t (Carries number Ground (Heard p bytes))
