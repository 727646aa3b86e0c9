-- What the bytes of a connection spell, as one text (RFC 9112, sections 2, 6 and 9.3): requests,
-- and what stands after them.
use Rattle.std.specs.Prelude.{◌≡◌, ◌⊎◌, ⊤, ℕ, ◌≤◌, List, [], ◌∷◌, ◌++◌, length, take, Bool, true, false}
use Rattle.std.specs.List.{concat}
use Rattle.httparse.specs.Grammar.{RequestHead, print_request, ReadsRequest, HasNoRequest}
use Rattle.httparse.specs.Spans.{RequestOverflows}
use Rattle.http_edge.specs.declared.request.BadKind.{BadKind}
use Rattle.http_edge.specs.declared.request.BadKind.TheVariants.{Syntax}
use Rattle.http_edge.specs.declared.framing.Framing.{Framing}
use Rattle.http_edge.specs.declared.framing.Framing.TheVariants.{Sized, Chunked, Refused}
use Rattle.http_edge.specs.Framing.{framing}
use Rattle.http_edge.specs.Requests.{Content, content_of}
use Rattle.http_edge.specs.Chunks.{TakesChunks, FailsChunks}

-- A text begins with the head, within the limits, and goes on with the rest.
pub record BeginsWith (text : List ℕ) (h : RequestHead) (rest : List ℕ) : Type 0 where
  pub reads : ReadsRequest text h rest
  pub short : length (print_request h) ≤ 8192
  pub few : length h.fields ≤ 64

-- No continuation begins with a head within the limits.
abbrev pub NeverBegins : List ℕ → Type 0
NeverBegins text = RequestOverflows 64 text ⊎ ((8192 ≤ length text) × HasNoRequest (take 8192 text))

-- A text begins with a body so framed, and goes on with the rest.
abbrev pub TakesBody : Framing → List ℕ → List ℕ → List ℕ → Type 0
TakesBody (Sized n) text body rest = (length body ≡ n) × (text ≡ body ++ rest)
TakesBody Chunked text body rest = (chunks : List (List ℕ)) × TakesChunks 0 text chunks rest
    × (body ≡ concat chunks)
TakesBody (Refused k) text body rest = ⊥

-- No continuation begins with a body so framed.
abbrev pub NeverTakes : Framing → List ℕ → BadKind → Type 0
NeverTakes (Sized n) text kind = ⊥
NeverTakes Chunked text kind = (chunks : List (List ℕ)) × FailsChunks 0 text chunks kind
NeverTakes (Refused k) text kind = k ≡ kind

-- A text begins with the request.
pub record Spells (text : List ℕ) (r : Content) (rest : List ℕ) : Type 0 where
  pub head : RequestHead
  pub behind : List ℕ
  pub begins : BeginsWith text head behind
  pub body : TakesBody (framing head) behind r.body rest
  pub content : r ≡ content_of head r.body

-- A text begins with a head whose body is refused.
pub record RefusedBody (text : List ℕ) (kind : BadKind) : Type 0 where
  pub head : RequestHead
  pub behind : List ℕ
  pub begins : BeginsWith text head behind
  pub body : NeverTakes (framing head) behind kind

-- The text is refused, with the first refusal.
abbrev pub IsRefused : List ℕ → BadKind → Type 0
IsRefused text kind = (NeverBegins text × (kind ≡ Syntax)) ⊎ RefusedBody text kind

-- What comes first in a text.
pub data Item : Type 0 where
  asked : Content → Item
  bad : BadKind → Item

abbrev pub First : List ℕ → Item → List ℕ → Type 0
First text (asked r) rest = Spells text r rest
First text (bad kind) rest = IsRefused text kind × (rest ≡ text)

-- Nothing is read after it.
abbrev pub closes : Item → Bool
closes (asked r) = r.close
closes (bad kind) = true

-- No item is whole.
abbrev pub HasNone : List ℕ → Type 0
HasNone text = (i : Item) (rest : List ℕ) → ¬ (First text i rest)

-- A text is those items, one after the other, and then the rest, from which nothing more is read.
abbrev pub Reads : List ℕ → List Item → List ℕ → Type 0
Reads text [] rest = (rest ≡ text) × HasNone text
Reads text (i ∷ items) rest =
    (behind : List ℕ) × First text i behind
    × (((closes i ≡ true) × (items ≡ []) × (rest ≡ behind))
    ⊎ ((closes i ≡ false) × Reads behind items rest))

-- The text begins with these items, each where the one before it ends, and this is left. After one
-- that closes the connection none is read.
abbrev pub ReadsFirst : List ℕ → List Item → List ℕ → Type 0
ReadsFirst text [] rest = rest ≡ text
ReadsFirst text (i ∷ items) rest =
    (after : List ℕ) × First text i after × ReadsFirst after items rest
    × (closes i ≡ true → items ≡ [])

-- Each item leaves the connection open.
abbrev pub AllOpen : List Item → Type 0
AllOpen [] = ⊤
AllOpen (i ∷ items) = (closes i ≡ false) × AllOpen items
