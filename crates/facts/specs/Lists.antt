-- A list of one-byte numbers that stands in a record.
use Rattle.std.specs.Prelude.{ℕ, ◌+◌, ◌<◌, ◌≤◌, List, length}
use Rattle.form.specs.Bytes.{num}
use Rattle.record.specs.Execution.{Items}
use Rattle.record.specs.declared.Part.{Part}

abbrev pub list_of : List ℕ → Part → Items ℕ
list_of s p = record { size = p.count; item = λ i. num 1 s (p.at + i) }

-- the list is in the record, and its numbers are below n
pub record Listed (s : List ℕ) (n : ℕ) (p : Part) : Type 0 where
  pub fits : p.at + p.count ≤ length s
  pub short : p.at + p.count ≤ 2346
  pub low : (i : ℕ) → i < p.count → (list_of s p).item i < n
