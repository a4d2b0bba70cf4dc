use Rattle.record.specs.Says.{execution_of}
use Rattle.orders.proofs.Headings.{Heading}
use Rattle.orders.proofs.preserved.heads.Given as goal

abbrev pub invariant-loop-e : goal.invariant-loop-e
invariant-loop-e l = Heading (execution_of l.s) l.fn.own l.e-iterator.rest l.next l.r
