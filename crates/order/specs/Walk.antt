-- Chains by the number of their steps: what a search counts.
use Rattle.std.specs.Prelude.{ℕ, zero, suc, ◌≡◌}
use Rattle.order.specs.Relation.{Rel}

-- k steps from a to b
abbrev pub Walk : Rel → ℕ → ℕ → ℕ → Type 0
Walk R zero a b = a ≡ b
Walk R (suc k) a b = (c : ℕ) × R a c × Walk R k c b
