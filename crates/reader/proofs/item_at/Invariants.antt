use Rattle.reader.proofs.Walking.{Walking}
use Rattle.reader.proofs.item_at.Given as goal

abbrev pub invariant-loop-k : goal.invariant-loop-k
invariant-loop-k l = Walking l.s l.at l.k l.first
