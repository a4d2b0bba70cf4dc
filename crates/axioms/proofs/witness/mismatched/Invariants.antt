use Rattle.order.specs.Least.{None}
use Rattle.record.specs.Says.{execution_of}
use Rattle.model.specs.Rules.{WrongSource}
use Rattle.axioms.proofs.witness.mismatched.Given as goal

abbrev pub invariant-loop-i : goal.invariant-loop-i
invariant-loop-i l = None l.i (WrongSource (execution_of l.s))
