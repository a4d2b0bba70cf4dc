use Prim.Native.Nat.{◌<◌}
use Rattle.rows.specs.Members.{Is}
use Rattle.rows.specs.Table.{on}
use Rattle.cycles.specs.Search.{Round}
use Rattle.cycles.proofs.closing.Given as goal

abbrev pub invariant-loop-k : goal.invariant-loop-k
invariant-loop-k l = (0 < l.k) × Is l.r (Round (on l.n l.t) l.s l.len l.k)
