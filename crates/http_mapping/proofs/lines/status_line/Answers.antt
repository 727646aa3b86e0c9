-- Each is the status line by its number and phrase.
use Rattle.std.proofs.Common.{refl}
use Rattle.http_mapping.proofs.lines.status_line.Goals as goal

pub returns-in-Okay : goal.returns-in-Okay
returns-in-Okay c = rw c.in-Okay.is refl

pub returns-in-Created : goal.returns-in-Created
returns-in-Created c = rw c.in-Created.is refl

pub returns-in-NoContent : goal.returns-in-NoContent
returns-in-NoContent c = rw c.in-NoContent.is refl

pub returns-in-BadRequest : goal.returns-in-BadRequest
returns-in-BadRequest c = rw c.in-BadRequest.is refl

pub returns-in-Forbidden : goal.returns-in-Forbidden
returns-in-Forbidden c = rw c.in-Forbidden.is refl

pub returns-in-NotFound : goal.returns-in-NotFound
returns-in-NotFound c = rw c.in-NotFound.is refl

pub returns-in-MethodNotAllowed : goal.returns-in-MethodNotAllowed
returns-in-MethodNotAllowed c = rw c.in-MethodNotAllowed.is refl

pub returns-in-NotAcceptable : goal.returns-in-NotAcceptable
returns-in-NotAcceptable c = rw c.in-NotAcceptable.is refl

pub returns-in-PreconditionFailed : goal.returns-in-PreconditionFailed
returns-in-PreconditionFailed c = rw c.in-PreconditionFailed.is refl

pub returns-in-ContentTooLarge : goal.returns-in-ContentTooLarge
returns-in-ContentTooLarge c = rw c.in-ContentTooLarge.is refl

pub returns-in-UriTooLong : goal.returns-in-UriTooLong
returns-in-UriTooLong c = rw c.in-UriTooLong.is refl

pub returns-in-UnsupportedMediaType : goal.returns-in-UnsupportedMediaType
returns-in-UnsupportedMediaType c = rw c.in-UnsupportedMediaType.is refl

pub returns-in-InternalServerError : goal.returns-in-InternalServerError
returns-in-InternalServerError c = rw c.in-InternalServerError.is refl

pub returns-in-NotImplemented : goal.returns-in-NotImplemented
returns-in-NotImplemented c = rw c.in-NotImplemented.is refl

pub returns-in-BadGateway : goal.returns-in-BadGateway
returns-in-BadGateway c = rw c.in-BadGateway.is refl

pub returns-in-ServiceUnavailable : goal.returns-in-ServiceUnavailable
returns-in-ServiceUnavailable c = rw c.in-ServiceUnavailable.is refl

pub returns-in-GatewayTimeout : goal.returns-in-GatewayTimeout
returns-in-GatewayTimeout c = rw c.in-GatewayTimeout.is refl
