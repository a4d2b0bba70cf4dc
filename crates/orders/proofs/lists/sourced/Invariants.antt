use Rattle.record.specs.Says.{execution_of}
use Rattle.rows.specs.Members.{Is}
use Rattle.orders.proofs.Sourcing.{EndsTo}
use Rattle.orders.proofs.lists.sourced.Given as goal

abbrev pub invariant-loop-i : goal.invariant-loop-i
invariant-loop-i l = Is l.r (EndsTo (execution_of l.s).sources l.i)
