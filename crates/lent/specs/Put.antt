-- Bytes that are written into a lent buffer.
use Rattle.std.specs.Prelude.{ℕ, ◌+◌, ◌≤◌, ◌≡◌, List, ◌++◌, length, take, drop}

-- the bytes stand at `at`, and all else is as it was
pub record Put (before : List ℕ) (at : ℕ) (bytes after : List ℕ) : Type 0 where
  pub fits : at + length bytes ≤ length before
  pub is : after ≡ take at before ++ (bytes ++ drop (at + length bytes) before)

-- and they end at z
abbrev pub PutTo : List ℕ → ℕ → List ℕ → List ℕ → ℕ → Type 0
PutTo before at bytes after z = Put before at bytes after × (z ≡ at + length bytes)
