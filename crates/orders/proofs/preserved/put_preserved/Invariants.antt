use Prim.Native.Nat.{◌<◌}
use Rattle.rows.specs.Table.{Adds}
use Rattle.record.specs.Says.{execution_of}
use Rattle.model.specs.Model.{Preserved}
use Rattle.orders.proofs.preserved.put_preserved.Given as goal

abbrev pub invariant-loop-p : goal.invariant-loop-p
invariant-loop-p l = Adds l.initial.t l.t (λ a b. (((execution_of l.s).events.item a).processor < l.p) × Preserved (execution_of l.s) a b)
