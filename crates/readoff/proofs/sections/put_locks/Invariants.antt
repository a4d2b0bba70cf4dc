use Prim.Native.Nat.{◌+◌, ◌≤◌}
use mathlib.Core.Path.{◌≡◌}
use lib.ListN.{length}
use Rattle.record.specs.Execution.{Execution}
use Rattle.readoff.proofs.Entries.{Locks, Listing}
use Rattle.readoff.proofs.sections.put_locks.Given as goal

abbrev pub invariant-loop-e : goal.invariant-loop-e
invariant-loop-e v =
    (v.at + 2 ≤ v.to) × (v.to ≤ v.at + 2 + v.e-index) × (length v.out ≡ length v.initial.out)
    × ((z : Execution) → Locks z v.list v.k v.g v.initial.left → Listing z v.list v.initial.out v.at v.out v.left v.to v.e-index)
