use Rattle.facts.proofs.Keeping.{Keeping}
use Rattle.facts.proofs.sets.keep.Given as goal

abbrev pub invariant-loop-e : goal.invariant-loop-e
invariant-loop-e g l = Keeping (goal.F-post g l.test) l.fn.all l.e-iterator.rest l.kept
