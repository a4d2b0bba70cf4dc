use Rattle.record.specs.Says.{execution_of}
use Rattle.orders.proofs.Earliest.{Seeking}
use Rattle.orders.proofs.preserved.earliest.Given as goal

abbrev pub invariant-loop-e : goal.invariant-loop-e
invariant-loop-e l = Seeking (execution_of l.s) l.fn.rest l.e-iterator.rest l.least l.r
