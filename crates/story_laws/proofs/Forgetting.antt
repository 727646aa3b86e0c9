-- A message is forgotten before its ID comes again.
use Rattle.std.proofs.Common.{◌≡◌, ℕ, ◌+◌, ◌<◌, ◌≤◌, List, Some, refl, arith}
use Rattle.limits.specs.declared.TheConstants.{EXCHANGE_LIFETIME, MESSAGE_ID_LIFETIME}
use Rattle.coap_codec.specs.Spelling.{Content}
use Rattle.uri_map.specs.declared.peer.Peer.{Peer}
use Rattle.history_laws.specs.Readings.{Noted}
use Rattle.history_laws.specs.Laws.{IsFirst}
use Rattle.history_laws.proofs.CallerLemmas.{firsts-ids}
use Rattle.demo_origin.specs.Calls.{Call}
use Rattle.demo_origin.specs.Values.{Device, Relation}
use Rattle.story_laws.specs.Arriving.{ArrivesWithin, ForgottenBefore, HearsMessage}
use Rattle.story_laws.specs.Networks.{Networks}
use Rattle.story_laws.specs.declared.TheConstants.{LONGEST_SENDING, LONGEST_WAY}
use Rattle.story_laws.proofs.Executing.{arrives}
use Rattle.story_laws.proofs.Sending.{first-member, sending_of}

pub arrives-within : (R : Relation) → ArrivesWithin R
arrives-within R l device proxy p s cs t o i u m net f h =
    arrives R l device proxy p s cs t o i h.place u m h.call h.datagram h.taken net f h.stands h.comes h.spelled

pub forgotten-before : (R : Relation) → ForgottenBefore R
forgotten-before R l device proxy p s cs t v o k i j u m n net f g lt same h =
    let late = (arrives-within R l device proxy p s cs t o i u m net f h).1 in
    let apart : t + MESSAGE_ID_LIFETIME ≤ v =
    firsts-ids l (sending_of i t o p m) (sending_of j v k p n) net.legal (first-member l t o i p m f) (first-member l v k j p n g) refl same lt in
    omega (arith, late, apart)
