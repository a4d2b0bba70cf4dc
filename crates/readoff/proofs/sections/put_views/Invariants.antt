use Prim.Native.Nat.{◌+◌}
use Rattle.readoff.proofs.Viewings.{Viewing}
use Rattle.readoff.proofs.sections.put_views.Given as goal

abbrev pub invariant-loop-p : goal.invariant-loop-p
invariant-loop-p l = Viewing l.list l.f l.stores l.initial.out (l.at + 2) l.out l.to l.p
