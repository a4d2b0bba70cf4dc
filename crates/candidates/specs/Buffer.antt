-- Buffers that are lent.
use Rattle.std.specs.Prelude.{◌≡◌, ℕ, List, length}
use Rattle.std.specs.Borrow.{MutBor}

-- The two are one buffer: what was lent, and as long as it was.
abbrev pub Same : MutBor (List ℕ) → MutBor (List ℕ) → Type 0
Same old new = (new.ghost_name ≡ old.ghost_name) × (length new.now ≡ length old.now)
