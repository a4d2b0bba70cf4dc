-- A table that holds the section 3 pairs.
use Rattle.std.specs.Prelude.{ℕ, ◌↔◌, List}
use Rattle.rows.specs.Table.{HasRows, rel}
use Rattle.record.specs.Execution.{Execution}
use Rattle.record.specs.Words.{Causes}

pub record Held (x : Execution) (t : List ℕ) : Type 0 where
  pub rows : HasRows t 64
  pub pairs : (a b : ℕ) → rel t a b ↔ Causes x a b
