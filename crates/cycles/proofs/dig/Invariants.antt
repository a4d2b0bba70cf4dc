use Prim.Native.Nat.{◌+◌}
use Rattle.rows.proofs.Members.{value}
use Rattle.cycles.proofs.Digs.{Digging, free}
use Rattle.cycles.proofs.dig.Given as goal

abbrev pub invariant-loop-w : goal.invariant-loop-w
invariant-loop-w l = Digging l.t l.fn.all l.live l.from l.start l.v

abbrev pub decreases-loop-w : goal.decreases-loop-w
decreases-loop-w l = value l.live + free l.from
