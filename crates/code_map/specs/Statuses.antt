-- Status codes and their reason phrases (RFC 9110 section 15, RFC 9112 section 4).
use Rattle.std.specs.Prelude.{ℕ, List, ◌++◌, codes}
use Rattle.std.specs.Fmt.{decimal}
use Rattle.code_map.specs.declared.status.Status.{Status}
use Rattle.code_map.specs.declared.status.Status.TheVariants.{Okay, Created, NoContent, BadRequest, Forbidden, NotFound, MethodNotAllowed, NotAcceptable, PreconditionFailed, ContentTooLarge, UriTooLong, UnsupportedMediaType, InternalServerError, NotImplemented, BadGateway, ServiceUnavailable, GatewayTimeout}

abbrev pub line_of : Status → ℕ × List ℕ
line_of Okay = (200, codes "OK")
line_of Created = (201, codes "Created")
line_of NoContent = (204, codes "No Content")
line_of BadRequest = (400, codes "Bad Request")
line_of Forbidden = (403, codes "Forbidden")
line_of NotFound = (404, codes "Not Found")
line_of NotAcceptable = (406, codes "Not Acceptable")
line_of PreconditionFailed = (412, codes "Precondition Failed")
line_of ContentTooLarge = (413, codes "Content Too Large")
line_of UriTooLong = (414, codes "URI Too Long")
line_of UnsupportedMediaType = (415, codes "Unsupported Media Type")
line_of InternalServerError = (500, codes "Internal Server Error")
line_of NotImplemented = (501, codes "Not Implemented")
line_of BadGateway = (502, codes "Bad Gateway")
line_of ServiceUnavailable = (503, codes "Service Unavailable")
line_of GatewayTimeout = (504, codes "Gateway Timeout")
-- 405 would need an Allow field, which a CoAP server doesn't give (RFC 8075 section 7).
line_of MethodNotAllowed = (400, codes "CoAP server returned 4.05")

abbrev pub number_of : Status → ℕ
number_of status = (line_of status).0

abbrev pub phrase_of : Status → List ℕ
phrase_of status = (line_of status).1

-- Number and phrase, as in a status line.
abbrev pub shown : Status → List ℕ
shown status = decimal (number_of status) ++ codes " " ++ phrase_of status
