use Rattle.rows.specs.Table.{on}
use Rattle.cycles.proofs.Layers.{Levelling}
use Rattle.cycles.proofs.levels.Given as goal

abbrev pub invariant-loop-k : goal.invariant-loop-k
invariant-loop-k l = Levelling (on l.n l.t) l.all l.s l.initial.u l.u l.seen l.front l.k
