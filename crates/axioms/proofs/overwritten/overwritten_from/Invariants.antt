use Prim.Native.Nat.{ℕ}
use Rattle.order.specs.Rule.{Any}
use Rattle.rows.specs.Members.{In}
use Rattle.record.specs.Execution.{Execution}
use Rattle.model.specs.Rules.{Overwritten}
use Rattle.axioms.specs.Scene.{Sources, Scene}
use Rattle.rows.proofs.Seeks.{Seeking}
use Rattle.axioms.proofs.overwritten.overwritten_from.Given as goal

abbrev pub invariant-loop-r : goal.invariant-loop-r
invariant-loop-r l = (z : Execution) (p : ℕ) → Scene z p l.t l.q l.c l.seen → Sources z l.u → In l.seen l.w → Seeking (λ e. Any 1 (Overwritten z p l.w e)) l.initial.r-iterator.rest l.r-iterator.rest
