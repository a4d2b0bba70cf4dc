use Rattle.record.specs.Says.{execution_of}
use Rattle.axioms.proofs.Initials.{Unread}
use Rattle.axioms.proofs.initial.uninitial.Given as goal

abbrev pub invariant-loop-r : goal.invariant-loop-r
invariant-loop-r l = Unread (execution_of l.s) l.t l.q l.c l.seen l.r-iterator.rest
