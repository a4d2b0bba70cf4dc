-- Dictionary order of lists of numbers, and the first list with a property.
use Rattle.std.specs.Prelude.{ℕ, ◌<◌, ◌≡◌, ◌⊎◌, List, [], ◌∷◌}

-- l is m, or stands before m
abbrev pub Lex : List ℕ → List ℕ → Type 0
Lex [] m = Unit {0}
Lex (a ∷ l) [] = ⊥
Lex (a ∷ l) (b ∷ m) = (a < b) ⊎ ((a ≡ b) × Lex l m)

-- w is the first list with P
pub record Firstly (P : List ℕ → Type 0) (w : List ℕ) : Type 0 where
  pub has : P w
  pub least : (m : List ℕ) → P m → Lex w m
