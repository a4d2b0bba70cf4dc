use Rattle.rows.proofs.Filters.{Filtering}
use Rattle.rows.specs.Table.{rel}
use Rattle.cycles.specs.Search.{Into}
use Rattle.cycles.proofs.back.Given as goal

abbrev pub invariant-loop-a : goal.invariant-loop-a
invariant-loop-a l = Filtering (Into (rel l.t) l.w) l.fn.from l.a-iterator.rest l.r
