-- What keeps requests, replies and answers apart in every journal that stands, and copies before
-- all else: said of its entries alone.
use Rattle.std.specs.Prelude.{◌≡◌, ◌⊎◌, ℕ, ◌+◌, ◌<◌, ◌≤◌, List, [], ◌∷◌, ◌++◌, length, take, ◌==◌, if◌then◌else◌}
use Rattle.std.specs.List.{Contains}
use Rattle.limits.specs.declared.TheConstants.{MESSAGE_ID_LIFETIME}
use Rattle.coap_codec.specs.Spelling.{Content}
use Rattle.uri_map.specs.declared.peer.Peer.{Peer}
use Rattle.ask_model.specs.Requests.{CoapRequest, Requests}
use Rattle.ask_model.specs.Views.{Ask}
use Rattle.journal_book.specs.Entries.{Grounds, Mark, Done, Deed, Asks, Answers, Carries, Written}
use Rattle.history_laws.specs.Justified.{Stands}
use Rattle.history_laws.specs.Grounds.{replies_in}
use Rattle.history_claims.specs.Headline.{IsEntry, IsAsked, WasFirstSent, IsSameGet}

-- A token is borne by one message of all (RFC 7252 section 5.3.1).
abbrev pub TokensOnce : Type 0
TokensOnce =
    (h : List Written) (i j s t : ℕ) (p r : Peer) (m n : Content) → Stands h
    → WasFirstSent h i s p m → WasFirstSent h j t r n → m.token ≡ n.token → i ≡ j

-- To one endpoint a message ID is used once in 494 seconds (RFC 7252 section 4.4).
abbrev pub IdsOnce : Type 0
IdsOnce =
    (h : List Written) (i j s t : ℕ) (p : Peer) (m n : Content) → Stands h
    → WasFirstSent h i s p m → WasFirstSent h j t p n → m.mid ≡ n.mid → i < j
    → s + MESSAGE_ID_LIFETIME ≤ t

-- The two asks are GETs for the same.
pub record AreSameGets (h : List Written) (k o : ℕ) : Type 0 where
  pub conn : ℕ
  pub moment : ℕ
  pub request : CoapRequest
  pub asked : IsAsked h k conn moment (Requests request)
  pub other_conn : ℕ
  pub other_moment : ℕ
  pub other : CoapRequest
  pub other_asked : IsAsked h o other_conn other_moment (Requests other)
  pub same : IsSameGet request other

-- No reply is part of the answers to two asks, of live or kept ones, but to GETs for the same.
abbrev pub RepliesOnce : Type 0
RepliesOnce =
    (h : List Written) (i j s t c d k o n : ℕ) (g e : Grounds) → Stands h
    → IsEntry h i s (Answers c k g) → IsEntry h j t (Answers d o e)
    → Contains (replies_in g) n → Contains (replies_in e) n → (k ≡ o) ⊎ AreSameGets h k o

-- An ask is answered once.
abbrev pub AnsweredOnce : Type 0
AnsweredOnce =
    (h : List Written) (i j s t c d k : ℕ) (g e : Grounds) → Stands h
    → IsEntry h i s (Answers c k g) → IsEntry h j t (Answers d k e) → i ≡ j

-- An answer is to an ask of its connection, which stands before it.
abbrev pub AnswersAnAsk : Type 0
AnswersAnAsk =
    (h : List Written) (n t c k : ℕ) (g : Grounds) → Stands h → IsEntry h n t (Answers c k g)
    → (k < n) × ((s : ℕ) × (a : Ask) × IsEntry h k s (Asks c a))

-- A connection asks again only after its answer: of two answers to it, what the later one is to was
-- asked after the earlier one (RFC 9112 section 9.3.2).
abbrev pub AskedInTurn : Type 0
AskedInTurn =
    (h : List Written) (i j s t c k o : ℕ) (g e : Grounds) → Stands h
    → IsEntry h i s (Answers c k g) → IsEntry h j t (Answers c o e) → i < j → i < o

-- the asks of a connection, in order, where the first entry has this number; and the asks that its
-- answers are to, in order
abbrev pub asked_by : ℕ → ℕ → Deed → List ℕ
asked_by c n (Asks d a) = if d == c then n ∷ [] else []
asked_by c n _ = []

abbrev pub asked : ℕ → ℕ → List Written → List ℕ
asked c n [] = []
asked c n (e ∷ h) = asked_by c n e.deed ++ asked c (n + 1) h

abbrev pub answered_by : ℕ → Deed → List ℕ
answered_by c (Answers d k g) = if d == c then k ∷ [] else []
answered_by c _ = []

abbrev pub answered : ℕ → List Written → List ℕ
answered c [] = []
answered c (e ∷ h) = answered_by c e.deed ++ answered c h

-- The n-th answer of a connection is to its n-th ask (RFC 9112 section 9.3).
abbrev pub AnsweredInOrder : Type 0
AnsweredInOrder =
    (h : List Written) (c : ℕ) → Stands h
    → answered c h ≡ take (length (answered c h)) (asked c 0 h)

-- Before a copy stand only copies, of entries that stood before its own in the older journal.
abbrev pub CopiesFirst : Type 0
CopiesFirst =
    (h : List Written) (i j s t n : ℕ) (d : Deed) (mark : Mark) (done : Done) → Stands h
    → IsEntry h i s d → IsEntry h j t (Carries n mark done) → i < j
    → (k : ℕ) × (other : Mark) × (what : Done) × (d ≡ Carries k other what) × (k < n)
