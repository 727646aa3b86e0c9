use Rattle.uri_map.proofs.Hosted.{hosted_again, hosted_one}
use Rattle.uri_map.proofs.laws.hosted_is_read.Goals as goal

pub returns-clause-again : goal.returns-clause-again
returns-clause-again c = λ base text t e. hosted_again base text t e

pub returns-clause-only : goal.returns-clause-only
returns-clause-only c = λ base text other t u e f same. hosted_one base text other t u e f same
