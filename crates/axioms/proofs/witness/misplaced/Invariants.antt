use Rattle.facts.specs.Lists.{list_of}
use Rattle.axioms.proofs.Placings.{Placing}
use Rattle.axioms.proofs.witness.misplaced.Given as goal

abbrev pub invariant-loop-i : goal.invariant-loop-i
invariant-loop-i l = Placing (list_of l.s l.list) l.i l.once l.twice
