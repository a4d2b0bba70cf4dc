use Rattle.rows.specs.Table.{Adds}
use Rattle.record.specs.Says.{execution_of}
use Rattle.facts.proofs.Counting.{Upto, PairStep}
use Rattle.structure.proofs.causes.put_causes.Given as goal

abbrev pub invariant-loop-i : goal.invariant-loop-i
invariant-loop-i l = Adds l.initial.t l.t (Upto (PairStep (execution_of l.s).causes) l.i)
