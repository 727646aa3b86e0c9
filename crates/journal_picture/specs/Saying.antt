-- What the line of an entry says, word by word, with single spaces between.
use Rattle.std.specs.Prelude.{ℕ, ◌≡◌, List, ◌∷◌, ◌++◌, codes, Option, Some, None}
use Rattle.std.specs.Str.Parse.{digits_value, without_leading_plus}
use Rattle.journal_picture.specs.declared.entry.Answer.{Answer}
use Rattle.journal_picture.specs.declared.entry.Carried.{Carried}
use Rattle.journal_picture.specs.declared.entry.Datagram.{Datagram}
use Rattle.journal_picture.specs.declared.entry.Entry.{Entry}
use Rattle.journal_picture.specs.declared.entry.Event.{Event}
use Rattle.journal_picture.specs.declared.entry.Event.TheVariants.{Opened, Asked, Bad, Sent, Heard, Passed, Answered, Shut, Sealed}
use Rattle.journal_picture.specs.declared.entry.Grounds.{Grounds}
use Rattle.journal_picture.specs.declared.entry.Grounds.TheVariants.{Live, Kept, Fault}
use Rattle.journal_picture.specs.declared.entry.Request.{Request}

-- The digits give the number, as Rust's `parse` reads them.
abbrev pub IsNumber : List ℕ → ℕ → Type 0
IsNumber digits n = n ≡ digits_value 10 (without_leading_plus digits)

-- PEER HEX
abbrev pub SaysDatagram : Datagram → List ℕ → Type 0
SaysDatagram d text = text ≡ d.peer.now ++ 32 ∷ d.digits.now

-- live N,N.., kept N,N.., or fault KIND N
abbrev pub SaysGrounds : Grounds → List ℕ → Type 0
SaysGrounds (Live numbers) text = text ≡ codes "live" ++ 32 ∷ numbers.now
SaysGrounds (Kept numbers) text = text ≡ codes "kept" ++ 32 ∷ numbers.now
SaysGrounds (Fault kind n) text = (digits : List ℕ)
    × (text ≡ codes "fault" ++ 32 ∷ (kind.now ++ 32 ∷ digits)) × IsNumber digits n

-- CONN ASK and the grounds
pub record SaysAnswer (a : Answer) (text : List ℕ) : Type 0 where
  pub connection : List ℕ
  pub ask : List ℕ
  pub grounds : List ℕ
  pub whole : text ≡ connection ++ 32 ∷ (ask ++ 32 ∷ grounds)
  pub is_connection : IsNumber connection a.connection
  pub is_ask : IsNumber ask a.ask
  pub rests_on : SaysGrounds a.grounds grounds

-- CONN METHOD TARGET LENGTH
pub record SaysRequest (connection : ℕ) (r : Request) (text : List ℕ) : Type 0 where
  pub digits : List ℕ
  pub length : List ℕ
  pub whole : text ≡ digits ++ 32 ∷ (r.method.now ++ 32 ∷ (r.target.now ++ 32 ∷ length))
  pub is_connection : IsNumber digits connection
  pub is_length : IsNumber length r.length

-- CONN bad
abbrev pub SaysBad : ℕ → List ℕ → Type 0
SaysBad connection text = (digits : List ℕ) × (text ≡ digits ++ 32 ∷ codes "bad")
    × IsNumber digits connection

-- what follows the word asked
abbrev pub SaysAsked : Event → List ℕ → Type 0
SaysAsked (Asked connection r) text = SaysRequest connection r text
SaysAsked (Bad connection) text = SaysBad connection text
SaysAsked other text = ⊥

-- the word and CONN
abbrev pub SaysConnection : List ℕ → ℕ → List ℕ → Type 0
SaysConnection word connection text = (digits : List ℕ) × (text ≡ word ++ 32 ∷ digits)
    × IsNumber digits connection

abbrev pub Says : Event → List ℕ → Type 0
Says (Opened connection) text = SaysConnection (codes "opened") connection text
Says (Asked connection r) text = (rest : List ℕ) × (text ≡ codes "asked" ++ 32 ∷ rest)
    × SaysRequest connection r rest
Says (Bad connection) text = (rest : List ℕ) × (text ≡ codes "asked" ++ 32 ∷ rest)
    × SaysBad connection rest
Says (Sent d) text = (rest : List ℕ) × (text ≡ codes "sent" ++ 32 ∷ rest) × SaysDatagram d rest
Says (Heard d) text = (rest : List ℕ) × (text ≡ codes "heard" ++ 32 ∷ rest) × SaysDatagram d rest
Says Passed text = text ≡ codes "passed"
Says (Answered a) text = (rest : List ℕ) × (text ≡ codes "answered" ++ 32 ∷ rest)
    × SaysAnswer a rest
Says (Shut connection) text = SaysConnection (codes "shut") connection text
Says Sealed text = text ≡ codes "sealed"

-- of a copy carried OLD MARK, and then the words of what it copies
abbrev pub SaysCarried : Option Carried → List ℕ → List ℕ → Type 0
SaysCarried None words text = text ≡ words
SaysCarried (Some c) words text =
    (digits : List ℕ) × (text ≡ codes "carried" ++ 32 ∷ (digits ++ 32 ∷ (c.mark.now ++ 32 ∷ words)))
    × IsNumber digits c.number

-- NUMBER MOMENT and the event
pub record SaysEntry (e : Entry) (line : List ℕ) : Type 0 where
  pub number : List ℕ
  pub moment : List ℕ
  pub said : List ℕ
  pub whole : line ≡ number ++ 32 ∷ (moment ++ 32 ∷ said)
  pub is_number : IsNumber number e.number
  pub is_moment : IsNumber moment e.moment
  pub is_carried : SaysCarried e.carried e.text.now said
  pub event : Says e.event e.text.now
