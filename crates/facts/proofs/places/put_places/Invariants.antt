use Rattle.rows.proofs.Members.{value}
use Rattle.record.specs.Says.{execution_of}
use Rattle.facts.proofs.Placing.{Placing}
use Rattle.facts.proofs.places.put_places.Given as goal

abbrev pub invariant-loop-e : goal.invariant-loop-e
invariant-loop-e l = Placing (execution_of l.s) l.initial.q l.q l.left

abbrev pub decreases-loop-e : goal.decreases-loop-e
decreases-loop-e l = value l.left
