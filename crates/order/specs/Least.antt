-- Numbers with a property: one below a bound, none, the least, what a search for the least gives, and how many.
use Rattle.std.specs.Prelude.{ℕ, zero, suc, ◌<◌, ◌≤◌, ◌≡◌, ◌⊎◌, Option, MatchOption}

-- a number below n has P
abbrev pub Some : ℕ → (ℕ → Type 0) → Type 0
Some n P = (k : ℕ) × (k < n) × P k

-- no number below n has P
abbrev pub None : ℕ → (ℕ → Type 0) → Type 0
None n P = (k : ℕ) → k < n → P k → ⊥

-- m is the least number with P
abbrev pub Least : (ℕ → Type 0) → ℕ → Type 0
Least P m = P m × None m P

-- r is the least number below n with P, or n where there is none
pub record Hit (n : ℕ) (P : ℕ → Type 0) (r : ℕ) : Type 0 where
  pub most : r ≤ n
  pub none : None r P
  pub hit : r < n → P r

-- r of the numbers below n have P
unfoldable pub Counted : ℕ → (ℕ → Type 0) → ℕ → Type 0
Counted zero P r = r ≡ 0
Counted (suc n) P r = (P n × ((m : ℕ) × (r ≡ suc m) × Counted n P m)) ⊎ ((P n → ⊥) × Counted n P r)

-- r is the least number below n with P, if there is one
abbrev pub Found : ℕ → (ℕ → Type 0) → Option ℕ → Type 0
Found n P r = MatchOption r (None n P) (λ m. (m < n) × Least P m)
