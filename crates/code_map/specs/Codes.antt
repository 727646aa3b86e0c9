-- Which status a CoAP response code gives (RFC 8075 section 7). A code c.dd is one byte: three
-- bits of class, five of detail (RFC 7252 section 3).
use Rattle.std.specs.Prelude.{ℕ, ◌+◌, ◌*◌, ◌/◌, ◌%◌, List, [], ◌∷◌, Bool, ◌==◌, ◌||◌, ◌&&◌, not, if◌then◌else◌, map}
use Rattle.code_map.specs.declared.status.Status.{Status}
use Rattle.code_map.specs.declared.status.Status.TheVariants.{Okay, Created, NoContent, BadRequest, Forbidden, NotFound, MethodNotAllowed, NotAcceptable, PreconditionFailed, ContentTooLarge, UnsupportedMediaType, InternalServerError, NotImplemented, BadGateway, ServiceUnavailable, GatewayTimeout}

-- Class, detail, the status with a payload, the status without one.
abbrev pub Row : Type 0
Row = ℕ × ℕ × Status × Status

-- 2.03, 2.31 and 4.08 answer what only the proxy itself can have asked, so no client gets them.
-- 4.02 refuses an option that the proxy chose, so it is the proxy's own error.
abbrev pub table : List Row
table =
    (2, 1, Created, Created)
    ∷ (2, 2, Okay, NoContent)
    ∷ (2, 3, BadGateway, BadGateway)
    ∷ (2, 4, Okay, NoContent)
    ∷ (2, 5, Okay, Okay)
    ∷ (2, 31, BadGateway, BadGateway)
    ∷ (4, 0, BadRequest, BadRequest)
    ∷ (4, 1, Forbidden, Forbidden)
    ∷ (4, 2, InternalServerError, InternalServerError)
    ∷ (4, 3, Forbidden, Forbidden)
    ∷ (4, 4, NotFound, NotFound)
    ∷ (4, 5, MethodNotAllowed, MethodNotAllowed)
    ∷ (4, 6, NotAcceptable, NotAcceptable)
    ∷ (4, 8, BadGateway, BadGateway)
    ∷ (4, 12, PreconditionFailed, PreconditionFailed)
    ∷ (4, 13, ContentTooLarge, ContentTooLarge)
    ∷ (4, 15, UnsupportedMediaType, UnsupportedMediaType)
    ∷ (5, 0, InternalServerError, InternalServerError)
    ∷ (5, 1, NotImplemented, NotImplemented)
    ∷ (5, 2, BadGateway, BadGateway)
    ∷ (5, 3, ServiceUnavailable, ServiceUnavailable)
    ∷ (5, 4, GatewayTimeout, GatewayTimeout)
    ∷ (5, 5, BadGateway, BadGateway)
    ∷ []

-- A code that is not in the table counts as x.00 of its class (RFC 7252 section 5.2), in class 2 as
-- 2.04. The other classes are no answers.
abbrev pub of_class : ℕ → Bool → Status
of_class class has_body =
    if class == 2 then (if has_body then Okay else NoContent) else (
    if class == 4 then BadRequest else (
    if class == 5 then InternalServerError else BadGateway))

abbrev pub status_in : List Row → ℕ → ℕ → Bool → Status
status_in [] class detail has_body = of_class class has_body
status_in (r ∷ rs) class detail has_body =
    if (class == r.0) && (detail == r.1) then (if has_body then r.2 else r.3)
    else status_in rs class detail has_body

abbrev pub status_of : ℕ → Bool → Status
status_of code has_body = status_in table (code / 32) (code % 32) has_body

-- The byte of c.dd.
abbrev pub byte_of : ℕ → ℕ → ℕ
byte_of class detail = 32 * class + detail

-- The codes that stand in the table.
abbrev pub recognised : List ℕ
recognised = map (λ (r : Row). byte_of r.0 r.1) table

-- The codes of answers that a reader gets. All others end in the proxy's own 502.
abbrev pub passed_on : ℕ → Bool
passed_on code =
    ((code / 32 == 2) || (code / 32 == 4) || (code / 32 == 5))
    && not ((code == byte_of 2 3) || (code == byte_of 2 31) || (code == byte_of 4 8))
