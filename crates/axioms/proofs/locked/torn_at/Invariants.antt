use Rattle.rows.proofs.Seeks.{Seeking}
use Rattle.axioms.proofs.Tears.{Split}
use Rattle.axioms.proofs.locked.torn_at.Given as goal

abbrev pub invariant-loop-b : goal.invariant-loop-b
invariant-loop-b l = Seeking (Split l.t l.others l.initial.b-iterator.rest) l.initial.b-iterator.rest l.b-iterator.rest
