use Rattle.judge.proofs.Watchings.{Watched}
use Rattle.judge.proofs.views.from_twentyfour.Given as goal

abbrev pub invariant-loop-p : goal.invariant-loop-p
invariant-loop-p l = Watched l.s l.initial.ev l.ev l.at l.all l.p
