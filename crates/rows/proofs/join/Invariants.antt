use Rattle.std.proofs.Common.{◌<◌}
use Rattle.rows.specs.Table.{rel, Adds}
use Rattle.rows.proofs.join.Given as goal

abbrev pub invariant-loop-a : goal.invariant-loop-a
invariant-loop-a l = Adds l.initial.t l.t (λ x y. (x < l.a) × rel l.s x y)
