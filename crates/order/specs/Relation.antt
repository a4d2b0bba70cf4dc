-- Relations on events, chains and cycles. An event is its number.
use Rattle.std.specs.Prelude.{ℕ, ◌<◌, ◌≡◌, List, [], ◌∷◌}

-- R a b: there is a step from a to b
abbrev pub Rel : Type 1
Rel = ℕ → ℕ → Type 0

-- steps from a through the events of the list, in turn, to b
abbrev pub Trail : Rel → ℕ → List ℕ → ℕ → Type 0
Trail R a [] b = R a b
Trail R a (c ∷ l) b = R a c × Trail R c l b

-- a chain of one or more steps
abbrev pub Chain : Rel → ℕ → ℕ → Type 0
Chain R a b = (l : List ℕ) × Trail R a l b

-- each event of the list has a step to the next, and the last to the first
abbrev pub Cycle : Rel → List ℕ → Type 0
Cycle R [] = ⊥
Cycle R (a ∷ l) = Trail R a l a

abbrev pub Cyclic : Rel → Type 0
Cyclic R = (l : List ℕ) × Cycle R l

-- every step starts and ends below n
abbrev pub Below : ℕ → Rel → Type 0
Below n R = (a b : ℕ) → R a b → (a < n) × (b < n)

-- the part of R on the events below n
abbrev pub within : ℕ → Rel → Rel
within n R a b = (a < n) × (b < n) × R a b

-- a is not in the list
abbrev pub Absent : ℕ → List ℕ → Type 0
Absent a [] = Unit {0}
Absent a (x ∷ l) = (a ≡ x → ⊥) × Absent a l

-- no event stands in the list twice
abbrev pub Once : List ℕ → Type 0
Once [] = Unit {0}
Once (a ∷ l) = Absent a l × Once l
