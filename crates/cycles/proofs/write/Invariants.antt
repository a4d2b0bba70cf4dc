use Rattle.rows.specs.Table.{on}
use Rattle.cycles.proofs.Fills.{Filling}
use Rattle.cycles.proofs.write.Given as goal

abbrev pub invariant-loop-i : goal.invariant-loop-i
invariant-loop-i l = Filling (on l.n l.t) l.n l.s l.len l.initial.out l.out l.v l.i
