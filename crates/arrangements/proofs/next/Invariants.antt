use Rattle.arrangements.proofs.Arrangements.{Rolled}
use Rattle.arrangements.proofs.next.Given as goal

abbrev pub invariant-loop-k : goal.invariant-loop-k
invariant-loop-k l = Rolled l.initial.l l.l l.k
