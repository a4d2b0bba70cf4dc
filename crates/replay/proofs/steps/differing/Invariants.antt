use Prim.Native.Nat.{ℕ}
use mathlib.Core.Path.{◌≡◌}
use mathlib.Core.List.{List}
use lib.ListN.{length}
use Rattle.order.specs.Least.{None}
use Rattle.record.specs.Says.{execution_of}
use Rattle.sequences.specs.Sequence.{Differs}
use Rattle.replay.specs.Known.{Narrowed, StateAt}
use Rattle.replay.proofs.steps.differing.Given as goal

abbrev pub invariant-loop-i : goal.invariant-loop-i
invariant-loop-i v =
    (l : List ℕ) → Narrowed (execution_of v.s).events.size l v.b → v.n ≡ length l
    → StateAt (execution_of v.s) l v.i v.state × None v.i (Differs (execution_of v.s) l)
