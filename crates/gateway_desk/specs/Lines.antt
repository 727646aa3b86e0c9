-- What a session asked, was given and was told, in order.
use Rattle.std.specs.Prelude.{ℕ, Bool, true, false}
use Rattle.exchange_core.specs.Answering.{Given, given_of}
use Rattle.gateway_desk.specs.declared.receipt.Receipt.{Receipt}
use Rattle.gateway_desk.specs.declared.pass.Note.{Note}
use Rattle.gateway_desk.specs.declared.pass.Note.TheVariants as Of

-- a receipt: the number of the ask's entry, and the answer
pub record Slip : Type 0 where
  pub number : ℕ
  pub given : Given

abbrev pub slip_of : {R : Type 0} → Receipt R → Slip
slip_of r = record { number = r.number; given = given_of r.answer }

-- a note: an ask by the number of its entry, an answer to one, or an answer to an ask of another
-- session
pub data Line : Type 0 where
  made : (ask : ℕ) → Line
  got : (slip : Slip) → Line
  told : (slip : Slip) → Line

abbrev pub is_made : Line → Bool
is_made (made n) = true
is_made _ = false

abbrev pub line_of : {R : Type 0} → Note R → Line
line_of (Of.Asked n) = made n
line_of (Of.Got r) = got (slip_of r)
line_of (Of.Told r) = told (slip_of r)
