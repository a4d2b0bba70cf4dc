use Rattle.form.proofs.Seeing.{Topped}
use Rattle.form.proofs.glance.below.Given as goal

abbrev pub invariant-loop-b : goal.invariant-loop-b
invariant-loop-b l = Topped l.s l.at l.m l.most l.b-index
