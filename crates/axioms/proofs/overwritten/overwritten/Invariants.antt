use Prim.Native.Nat.{ℕ}
use Rattle.order.specs.Rule.{Any}
use Rattle.record.specs.Execution.{Execution}
use Rattle.model.specs.Rules.{Overwritten}
use Rattle.axioms.specs.Scene.{Sources, Scene}
use Rattle.rows.proofs.Seeks.{Seeking}
use Rattle.axioms.proofs.overwritten.overwritten.Given as goal

abbrev pub invariant-loop-w : goal.invariant-loop-w
invariant-loop-w l = (z : Execution) (p : ℕ) → Scene z p l.t l.q l.c l.seen → Sources z l.u → Seeking (λ e. Any 2 (Overwritten z p e)) l.initial.w-iterator.rest l.w-iterator.rest
