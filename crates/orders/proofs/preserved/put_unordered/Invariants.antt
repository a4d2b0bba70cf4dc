use Rattle.rows.proofs.Members.{value}
use Rattle.record.specs.Says.{execution_of}
use Rattle.orders.proofs.Programs.{Running}
use Rattle.orders.proofs.preserved.put_unordered.Given as goal

abbrev pub invariant-loop-c : goal.invariant-loop-c
invariant-loop-c l = Running (execution_of l.s) l.initial.rest l.rest l.initial.t l.t

abbrev pub decreases-loop-c : goal.decreases-loop-c
decreases-loop-c l = value l.rest
