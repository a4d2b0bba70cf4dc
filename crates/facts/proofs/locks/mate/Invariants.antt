use Rattle.rows.specs.Table.{Adds}
use Rattle.record.specs.Says.{execution_of}
use Rattle.facts.proofs.Counting.{Upto}
use Rattle.facts.proofs.Entering.{Mates}
use Rattle.facts.proofs.locks.mate.Given as goal

abbrev pub invariant-loop-i : goal.invariant-loop-i
invariant-loop-i l = Adds l.initial.m l.m (Upto (Mates (execution_of l.s)) l.i)
