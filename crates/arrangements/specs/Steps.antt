-- What the private steps of `next` promise.
use Rattle.std.specs.Prelude.{ℕ, ◌<◌, Bool, false, List, [], ◌∷◌, get_or}
use Rattle.arrangements.specs.Arrangement.{Next}

-- the number at k, not the first, is above the first
abbrev pub Above : List ℕ → ℕ → Type 0
Above l k = (0 < k) × (get_or l 0 0 < get_or l k 0)

-- where the numbers behind the first came round from t₀, their last arrangement, to t, their first, m is next to a ∷ t₀
abbrev pub Raised : List ℕ → List ℕ → Bool → Type 0
Raised [] m found = ⊥
Raised (a ∷ t) m found = (t₀ : List ℕ) → Next t₀ t false → Next (a ∷ t₀) m found
