use Rattle.order.proofs.Tests.{by_and, by_eq}
use Rattle.record.proofs.events.same_instruction.Goals as goal

pub returns : goal.returns
returns c = search (by_and, by_eq)
