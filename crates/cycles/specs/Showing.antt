-- The cycle that is shown, written into a lent part.
use Rattle.std.specs.Prelude.{ℕ, ◌≡◌, List, Option, MatchOption}
use Rattle.order.specs.Relation.{Rel, Cyclic}
use Rattle.order.specs.Shown.{Shown}
use Rattle.order.specs.Evidence.{Written}

-- the cycle that is shown stands in the first k entries, and the others are as they were
abbrev pub Exhibited : Rel → List ℕ → List ℕ → ℕ → Type 0
Exhibited R before after k = (l : List ℕ) × Shown R l × Written l before after k

-- there is no cycle, and nothing is written; or there is, and the one that is shown is written
abbrev pub Showing : Rel → List ℕ → List ℕ → Option ℕ → Type 0
Showing R before after r = MatchOption r ((Cyclic R → ⊥) × (after ≡ before)) (Exhibited R before after)
