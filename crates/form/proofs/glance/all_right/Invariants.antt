use Rattle.form.proofs.Seeing.{Flagged}
use Rattle.form.proofs.glance.all_right.Given as goal

abbrev pub invariant-loop-i : goal.invariant-loop-i
invariant-loop-i g l = Flagged l.fn.c l.s l.k l.at l.m l.right l.i
