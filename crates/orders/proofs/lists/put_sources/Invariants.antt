use Rattle.record.specs.Says.{execution_of}
use Rattle.rows.specs.Table.{Adds}
use Rattle.facts.proofs.Counting.{Upto, PairStep}
use Rattle.orders.proofs.lists.put_sources.Given as goal

abbrev pub invariant-loop-i : goal.invariant-loop-i
invariant-loop-i l = Adds l.initial.t l.t (Upto (PairStep (execution_of l.s).sources) l.i)
