use Prim.Native.Nat.{ℕ}
use mathlib.Core.List.{List}
use Rattle.order.specs.Least.{None}
use Rattle.order.specs.Rule.{Any, AllKept}
use Rattle.record.specs.Execution.{Execution}
use Rattle.record.specs.Formed.{Formed}
use Rattle.structure.specs.Structure.{structure_rules}
use Rattle.sequences.specs.Sequence.{Reversed}
use Rattle.replay.specs.Known.{Sequenced, Programmed}
use Rattle.replay.proofs.steps.reversed.Given as goal

abbrev pub invariant-loop-a : goal.invariant-loop-a
invariant-loop-a v =
    (z : Execution) (l b : List ℕ) → Formed z → AllKept (structure_rules z) → Programmed z v.t → Sequenced z l b v.u
    → None v.a (λ e. Any 1 (Reversed z l e))
