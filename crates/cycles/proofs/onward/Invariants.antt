use Rattle.cycles.proofs.Layers.{Going}
use Rattle.cycles.proofs.onward.Given as goal

abbrev pub invariant-loop-a : goal.invariant-loop-a
invariant-loop-a l = Going l.t l.fn.w l.a-iterator.rest l.r
