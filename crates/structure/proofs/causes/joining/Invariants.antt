use Rattle.order.specs.Least.{None}
use Rattle.record.specs.Says.{execution_of}
use Rattle.structure.specs.Structure.{Joining}
use Rattle.structure.proofs.causes.joining.Given as goal

abbrev pub invariant-loop-i : goal.invariant-loop-i
invariant-loop-i l = None l.i (Joining (execution_of l.s))
