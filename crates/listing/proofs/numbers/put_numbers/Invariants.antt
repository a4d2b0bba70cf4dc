use lib.ListN.{take}
use Rattle.lent.specs.Put.{PutTo}
use Rattle.listing.specs.Text.{spaced}
use Rattle.listing.proofs.numbers.put_numbers.Given as goal

abbrev pub invariant-loop-x : goal.invariant-loop-x
invariant-loop-x l = PutTo l.initial.out l.at (spaced (take l.x-index l.list)) l.out l.to
