-- The cycle that is shown.
use Rattle.std.specs.Prelude.{ℕ, ◌≤◌, ◌≡◌, List, [], ◌∷◌, length}
use Rattle.order.specs.Relation.{Rel, Cycle}
use Rattle.order.specs.Dictionary.{Lex}

-- every event of the list is a or above
abbrev pub AtLeast : ℕ → List ℕ → Type 0
AtLeast a [] = Unit {0}
AtLeast a (x ∷ l) = (a ≤ x) × AtLeast a l

-- the list begins at its least event
abbrev pub Begun : List ℕ → Type 0
Begun [] = ⊥
Begun (a ∷ l) = AtLeast a l

-- the shortest cycle there is, begun at its least event; among those the least in dictionary order
pub record Shown (R : Rel) (l : List ℕ) : Type 0 where
  pub cycle : Cycle R l
  pub shortest : (m : List ℕ) → Cycle R m → length l ≤ length m
  pub begun : Begun l
  pub least : (m : List ℕ) → Cycle R m → length m ≡ length l → Begun m → Lex l m
