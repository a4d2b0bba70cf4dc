use Prim.Native.Nat.{◌+◌}
use lib.ListN.{take}
use Rattle.lent.specs.Put.{PutTo}
use Rattle.listing.proofs.Texts.{digits}
use Rattle.listing.proofs.numbers.put_number.Given as goal

abbrev pub invariant-loop-p : goal.invariant-loop-p
invariant-loop-p l = PutTo l.initial.out (l.at + 1) (digits (take l.p-index l.p-items) l.x) l.out l.to
