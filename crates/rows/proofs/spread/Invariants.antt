use Rattle.rows.proofs.Spreads.{Spreading}
use Rattle.rows.specs.Members.{In}
use Rattle.rows.proofs.spread.Given as goal

abbrev pub invariant-loop-a : goal.invariant-loop-a
invariant-loop-a l = Spreading (λ a b. In l.y b) l.fn.x l.a-iterator.rest l.initial.t l.t
