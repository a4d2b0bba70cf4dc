-- What is seen at one glance: how many entries, from the first on, are right.
use Rattle.std.specs.Prelude.{ℕ, ◌+◌, ◌*◌, ◌<◌, ◌≤◌, ◌≡◌, List, length, Ok}
use Rattle.form.specs.Bytes.{num}
use Rattle.form.specs.Form.{width, fields_from, fields, entry}
use Rattle.form.specs.declared.Counts.{Counts}

-- the first r of the m bytes at `at` are there, and below n
pub record Leading (s : List ℕ) (n at m r : ℕ) : Type 0 where
  pub most : r ≤ m
  pub low : (j : ℕ) → j < r → (at + j + 1 ≤ length s) × (num 1 s (at + j) < n)

-- the fields of the entry of section k at `at` are right
abbrev pub FieldsRight : Counts → List ℕ → ℕ → ℕ → Type 0
FieldsRight c s k at = Ok (at + width k) ≡ fields_from k (fields c s k at) at

-- the first r of the m entries of section k at `at` are right
pub record Seen (c : Counts) (s : List ℕ) (k m at r : ℕ) : Type 0 where
  pub most : r ≤ m
  pub right : (j : ℕ) → j < r → entry c s k (at + j * width k) ≡ Ok (at + (j + 1) * width k)
