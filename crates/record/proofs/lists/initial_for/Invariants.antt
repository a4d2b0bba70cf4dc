use Rattle.order.specs.Least.{None}
use Rattle.record.specs.Says.{execution_of}
use Rattle.record.specs.Words.{InitialFor}
use Rattle.record.proofs.lists.initial_for.Given as goal

abbrev pub invariant-loop-i : goal.invariant-loop-i
invariant-loop-i l = None l.i (λ j. InitialFor l.x ((execution_of l.s).initials.item j))
