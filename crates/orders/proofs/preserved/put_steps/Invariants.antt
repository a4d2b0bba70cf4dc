use mathlib.Core.Logic.{◌⊎◌}
use Rattle.rows.specs.Members.{In}
use Rattle.rows.specs.Table.{rel}
use Rattle.rows.proofs.Spreads.{Spreading}
use Rattle.orders.proofs.preserved.put_steps.Given as goal

abbrev pub invariant-loop-a : goal.invariant-loop-a
invariant-loop-a l = Spreading (λ a b. In l.later b × (rel l.q a b ⊎ In l.always b)) l.fn.x l.a-iterator.rest l.initial.t l.t
