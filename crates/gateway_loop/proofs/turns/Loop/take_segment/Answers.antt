-- The rules stay where a segment leaves.
use Rattle.gateway_loop.proofs.Remembering.{next-rules}
use Rattle.gateway_loop.proofs.turns.Loop.take_segment.Goals as goal
