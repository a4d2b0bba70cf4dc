use Rattle.judge.specs.Later.{place}
use Rattle.judge.proofs.Closings.{Quieted}
use Rattle.judge.proofs.closer.seek.Given as goal

abbrev pub invariant-loop-p : goal.invariant-loop-p
invariant-loop-p l = Quieted l.s (place l.fn.rule) l.initial.ev l.ev l.at l.p
