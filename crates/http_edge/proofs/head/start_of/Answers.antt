use Rattle.std.proofs.Common.{rules, ◌≡◌, length, refl, All, take, drop, [], arith}
use Rattle.httparse.specs.Grammar.{HasNoRequest}
use Rattle.httparse.specs.Spans.{IsRequestOf, IsRequestWithin, IsHeaderWithin}
use Rattle.http_edge.specs.Requests.{content}
use Rattle.http_edge.specs.Bodies.{SoFar}
use Rattle.http_edge.proofs.Heading as law
use Rattle.http_edge.proofs.Fields.{are_fields}
use Rattle.http_edge.proofs.head.start_of.Goals as goal

pub returns-then-unread-eq8192 : goal.returns-then-unread-eq8192
returns-then-unread-eq8192 c =
    let none : HasNoRequest c.args.unread.now = search rules in
    law.full c.args.unread.now c.if-unread-eq8192.true none

pub request_of-requires-clause-fields : goal.request_of-requires-clause-fields
request_of-requires-clause-fields c =
    let at : IsRequestOf c.args.unread.now c.parse_request.new.headers c.in-Ok-Complete.head = search rules in
    let w : IsRequestWithin c.args.unread.now c.parse_request.new.headers c.in-Ok-Complete.head = search rules in
    let within : All (IsHeaderWithin (length c.args.unread.now)) (take c.in-Ok-Complete.head.headers c.parse_request.new.headers) = search rules in
    are_fields c.args.unread.now (take c.in-Ok-Complete.head.headers c.parse_request.new.headers) at.0.fields at.1.fields at.1.reads.0.fields within c.requires

pub returns : goal.returns
returns c =
    let at : IsRequestOf c.args.unread.now c.parse_request.new.headers c.in-Ok-Complete.head = search rules in
    let w : IsRequestWithin c.args.unread.now c.parse_request.new.headers c.in-Ok-Complete.head = search rules in
    let room : length c.parse_request.new.headers ≡ 64 = search rules in
    let behind = drop c.in-Ok-Complete.head.len c.args.unread.now in
    let left : SoFar c.framing_by.result c.in-Ok.left [] behind behind = rw c.in-Ok.is at (c.left_of.ensures behind) in (
      at.0,
      law.begins_at c.args.unread.now c.parse_request.new.headers c.in-Ok-Complete.head at.0 c.requires room w at.1,
      w.section.len_fits,
      law.left_at c.args.unread.now c.parse_request.new.headers c.in-Ok-Complete.head at.0 c.framing_by.result c.in-Ok.left behind at.1 (c.framing_by.ensures _ c.found_in-found.ensures) left,
      law.content_at c.args.unread.now c.parse_request.new.headers c.in-Ok-Complete.head at.0 (content c.in_ok-request.request) at.1 c.in_ok-request.ensures,
      law.wants_at c.args.unread.now c.parse_request.new.headers c.in-Ok-Complete.head at.0 c.expects_in-wants.result at.1 (c.expects_in-wants.ensures _ c.found_in-found.ensures),
      refl,
      omega (arith, at.1.len, law.head_is_some at.0),
    )
