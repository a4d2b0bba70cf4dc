-- What the replay's contract promises: one result.
use Prim.Native.Nat.{ℕ}
use mathlib.Core.Path.{◌≡◌}
use mathlib.Core.List.{List}
use Rattle.record.specs.Says.{execution_of}
use Rattle.structure.proofs.Examining.{answered_unique}
use Rattle.replay.specs.Replayed.{Replayed}
use Rattle.sequences.specs.Sequence.{replay_rules}

-- two results that it allows are one: the answer, the number of entries, and every entry of the buffer
pub replayed_unique : (s l before x y : List ℕ) (a b k m : ℕ) → Replayed s l before x a k → Replayed s l before y b m → (a ≡ b) × (k ≡ m) × (x ≡ y)
replayed_unique s l = answered_unique s (replay_rules (execution_of s) l)
