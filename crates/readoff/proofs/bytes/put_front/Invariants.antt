use lib.ListN.{take}
use Rattle.lent.specs.Put.{Put}
use Rattle.readoff.proofs.bytes.put_front.Given as goal

abbrev pub invariant-loop-i : goal.invariant-loop-i
invariant-loop-i l = Put l.initial.out 0 (take l.i l.bytes) l.out
