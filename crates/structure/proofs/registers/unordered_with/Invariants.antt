use Rattle.rows.proofs.Seeks.{Seeking}
use Rattle.record.specs.Says.{execution_of}
use Rattle.structure.specs.Structure.{Unordered}
use Rattle.structure.proofs.Partners.{Partners}
use Rattle.structure.proofs.registers.unordered_with.Given as goal

abbrev pub invariant-loop-b : goal.invariant-loop-b
invariant-loop-b l = record {
  near : Partners (execution_of l.s) l.a l.initial.b-iterator.rest;
  left : Seeking (Unordered (execution_of l.s) l.a) l.initial.b-iterator.rest l.b-iterator.rest;
}
