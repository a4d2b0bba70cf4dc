use Rattle.rows.specs.Table.{Adds}
use Rattle.record.specs.Says.{execution_of}
use Rattle.facts.proofs.Counting.{Upto}
use Rattle.facts.proofs.Sorting.{Sorts}
use Rattle.facts.proofs.sorts.sort.Given as goal

abbrev pub invariant-loop-e : goal.invariant-loop-e
invariant-loop-e l = Adds l.initial.f l.f (Upto (Sorts (execution_of l.s)) l.e)
