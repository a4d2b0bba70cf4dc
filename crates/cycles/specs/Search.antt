-- What the functions find on their way to the cycle that is shown. R is the relation of a table's first n rows.
use Rattle.std.specs.Prelude.{ℕ, suc, ◌-◌, ◌<◌, ◌≤◌, ◌≡◌, List, ◌⊎◌, ◌↔◌, Option, MatchOption}
use Rattle.order.specs.Relation.{Rel, Cyclic}
use Rattle.order.specs.Walk.{Walk}
use Rattle.rows.specs.Members.{In}
use Rattle.rows.specs.Table.{rel}
use Rattle.rows.specs.declared.Set.{Set}

-- the steps of a table between members of a set
abbrev pub among : List ℕ → Set → Rel
among t all a b = In all a × In all b × rel t a b

-- every closed walk is in s, and where s has a member there is a cycle
pub record Left (R : Rel) (s : Set) : Type 0 where
  pub covers : (k a : ℕ) → Walk R (suc k) a a → In s a
  pub cyclic : (a : ℕ) → In s a → Cyclic R

-- a member of w has a step to b
abbrev pub From : Rel → Set → ℕ → Type 0
From R w b = (a : ℕ) × In w a × R a b

-- a has a step to a member of w
abbrev pub Into : Rel → Set → ℕ → Type 0
Into R w a = (b : ℕ) × In w b × R a b

-- from 1 up to k - 1 steps lead from a to b
abbrev pub Reached : Rel → ℕ → ℕ → ℕ → Type 0
Reached R a k b = (j : ℕ) × (0 < j) × (j < k) × Walk R j a b

-- k steps lead from a to b, and no fewer, but for none
abbrev pub Distance : Rel → ℕ → ℕ → ℕ → Type 0
Distance R k a b = Walk R k a b × (Reached R a k b → ⊥)

-- r is the least number of steps, at least one and below the limit, that lead from a to b, if there is one
abbrev pub Away : Rel → ℕ → ℕ → ℕ → Option ℕ → Type 0
Away R a b limit r = MatchOption r (Reached R a limit b → ⊥) (λ k. (0 < k) × (k < limit) × Distance R k a b)

-- len is the length of the shortest closed walk, and s the least event with one as short
pub record Shortest (R : Rel) (len s : ℕ) : Type 0 where
  pub positive : 0 < len
  pub closed : Walk R len s s
  pub none : (b : ℕ) → Reached R b len b → ⊥
  pub least : (b : ℕ) → b < s → Walk R len b b → ⊥

-- row k of u, for k below len, has the events that are k steps away from s
abbrev pub Levels : Rel → List ℕ → ℕ → ℕ → Type 0
Levels R u s len = (k x : ℕ) → k < len → rel u k x ↔ Distance R k s x

-- x is s, or k steps away from s, with k at least i, and on a closed walk of len steps at s
abbrev pub Round : Rel → ℕ → ℕ → ℕ → ℕ → Type 0
Round R s len i x = (x ≡ s) ⊎ ((k : ℕ) × (i ≤ k) × (k < len) × Distance R k s x × Walk R (len - k) x s)
