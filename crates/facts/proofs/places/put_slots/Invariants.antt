use Rattle.rows.specs.Table.{Adds}
use Rattle.record.specs.Says.{execution_of}
use Rattle.facts.proofs.Counting.{Upto}
use Rattle.facts.proofs.Slotting.{Slots}
use Rattle.facts.proofs.places.put_slots.Given as goal

abbrev pub invariant-loop-e : goal.invariant-loop-e
invariant-loop-e l = Adds l.initial.t l.t (Upto (Slots (execution_of l.s)) l.e)
