use Rattle.order.specs.Rule.{Any}
use Rattle.rows.proofs.Seeks.{Seeking}
use Rattle.record.specs.Says.{execution_of}
use Rattle.structure.specs.Structure.{Unordered}
use Rattle.structure.proofs.registers.unordered.Given as goal

abbrev pub invariant-loop-a : goal.invariant-loop-a
invariant-loop-a l = Seeking (λ a. Any 1 (Unordered (execution_of l.s) a)) l.fn.registers l.a-iterator.rest
