use Rattle.cycles.specs.Search.{among}
use Rattle.cycles.proofs.Layers.{Nearing}
use Rattle.cycles.proofs.steps.Given as goal

abbrev pub invariant-loop-k : goal.invariant-loop-k
invariant-loop-k l = Nearing (among l.t l.all) l.all l.s l.s l.seen l.front l.k
