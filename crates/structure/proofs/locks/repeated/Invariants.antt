use mathlib.Core.Path.{◌≡◌}
use Rattle.order.specs.Least.{None}
use Rattle.record.specs.Execution.{Execution}
use Rattle.facts.specs.Facts.{Entered}
use Rattle.structure.specs.Structure.{Eventless}
use Rattle.structure.proofs.Locked.{Repeats}
use Rattle.structure.proofs.locks.repeated.Given as goal

abbrev pub invariant-loop-i : goal.invariant-loop-i
invariant-loop-i l = (x : Execution) → Entered x l.k → l.g ≡ x.locks.size → None l.g (Eventless x) → Repeats x l.earlier l.i
