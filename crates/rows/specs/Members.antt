-- The members of a set.
use Rattle.std.specs.Prelude.{ℕ, ◌<◌, ◌≤◌, ◌/◌, ◌%◌, ◌^◌, ◌≡◌, Option, Some, None}
use Rattle.order.specs.Least.{Least}
use Rattle.rows.specs.declared.Set.{Set}

-- bit k of a word: 0 or 1
unfoldable pub bit : ℕ → ℕ → ℕ
bit w k = w / 2 ^ k % 2

-- k is a member of s
unfoldable pub In : Set → ℕ → Type 0
In s k = (k < 64) × (bit s.word k ≡ 1)

abbrev pub Member : Set → Type 0
Member s = (k : ℕ) × In s k

-- x and y have a member in common
abbrev pub Meet : Set → Set → Type 0
Meet x y = (k : ℕ) × In x k × In y k

-- m is the greatest member of s
abbrev pub Greatest : Set → ℕ → Type 0
Greatest s m = In s m × ((k : ℕ) → In s k → k ≤ m)

-- the members of s are the numbers with P
pub record Is (s : Set) (P : ℕ → Type 0) : Type 0 where
  pub says : (k : ℕ) → In s k → P k
  pub has : (k : ℕ) → P k → In s k

-- r is the least member of s, if it has one, and t has the others
abbrev pub Takes : Set → Option ℕ → Set → Type 0
Takes s (Some k) t = Least (In s) k × Is t (λ j. In s j × (j ≡ k → ⊥))
Takes s None t = Member s → ⊥
