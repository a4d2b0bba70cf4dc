-- The order of a list of groups, and a table of happens-before.
use Rattle.std.specs.Prelude.{ℕ, ◌↔◌, List}
use Rattle.order.specs.Least.{Some}
use Rattle.order.specs.Relation.{Rel}
use Rattle.rows.specs.Table.{HasRows, rel}
use Rattle.record.specs.Execution.{Items, Execution}
use Rattle.model.specs.Model.{HappensBefore}

-- a is of a group that stands in the list at a place before one of b's
abbrev pub BeforeIn : (ℕ → ℕ → Type 0) → Items ℕ → Rel
BeforeIn Of l a b = Some l.size (λ j. Some j (λ i. Of (l.item i) a × Of (l.item j) b))

-- the table has happens-before
pub record Happens (z : Execution) (t : List ℕ) : Type 0 where
  pub rows : HasRows t 64
  pub pairs : (a b : ℕ) → rel t a b ↔ HappensBefore z a b
