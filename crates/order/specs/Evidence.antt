-- What is left in a lent buffer.
use Rattle.std.specs.Prelude.{ℕ, ◌<◌, ◌≡◌, List, ◌++◌, length, drop, Option, MatchOption}
use Rattle.order.specs.Rule.{Rule, Shows, Kept}

-- k entries are written, those of e, at the front, and not one entry more
abbrev pub Written : List ℕ → List ℕ → List ℕ → ℕ → Type 0
Written e before after k = (k ≡ length e) × (after ≡ e ++ drop k before)

-- a judgement, handed out as an answer and as evidence in a lent buffer
abbrev pub Given : (ℕ → List ℕ → Type 0) → List ℕ → List ℕ → ℕ → ℕ → Type 0
Given J before after a k = (e : List ℕ) × J a e × Written e before after k

-- what the search for one rule's evidence leaves: the rule is kept, and nothing is written; or its evidence is
abbrev pub Ruled : Rule → List ℕ → List ℕ → Option ℕ → Type 0
Ruled q before after r = MatchOption r (Kept q × (after ≡ before)) (λ k. (e : List ℕ) × Shows q e × (0 < k) × Written e before after k)
