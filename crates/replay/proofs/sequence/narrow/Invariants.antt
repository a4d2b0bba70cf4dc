use Prim.Native.Nat.{ℕ, ◌<◌}
use mathlib.Core.Path.{◌≡◌}
use lib.ListN.{get_or}
use Rattle.order.specs.Least.{None}
use Rattle.sequences.specs.Sequence.{steps}
use Rattle.replay.proofs.Narrowings.{Large}
use Rattle.replay.proofs.sequence.narrow.Given as goal

abbrev pub invariant-loop-i : goal.invariant-loop-i
invariant-loop-i l = None l.i (Large l.n l.list) × ((k : ℕ) → k < l.i → get_or l.b k 0 ≡ (steps l.list).item k)
