use Rattle.readoff.proofs.Pickings.{Picking}
use Rattle.readoff.proofs.sections.put_some.Given as goal

abbrev pub invariant-loop-e : goal.invariant-loop-e
invariant-loop-e l = Picking l.list l.some l.initial.out l.at l.out l.to l.e-index
