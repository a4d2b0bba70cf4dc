-- Words and numbers as text: lists of bytes.
use Rattle.std.specs.Prelude.{ℕ, ◌+◌, ◌/◌, ◌%◌, Bool, true, false, List, [], ◌∷◌, ◌++◌, ltb}

-- answer, evidence, event
abbrev pub answer : List ℕ
answer = 97 ∷ 110 ∷ 115 ∷ 119 ∷ 101 ∷ 114 ∷ []

abbrev pub evidence : List ℕ
evidence = 101 ∷ 118 ∷ 105 ∷ 100 ∷ 101 ∷ 110 ∷ 99 ∷ 101 ∷ []

abbrev pub event : List ℕ
event = 101 ∷ 118 ∷ 101 ∷ 110 ∷ 116 ∷ []

-- the digit of x at the power p of ten, if x is not below it
abbrev pub digit_by : Bool → ℕ → ℕ → List ℕ
digit_by true p x = []
digit_by false p x = (48 + x / p % 10) ∷ []

abbrev pub digit_at : ℕ → ℕ → List ℕ
digit_at p x = digit_by (ltb x p) p x

-- a number below 100,000 in decimal
unfoldable pub decimal : ℕ → List ℕ
decimal x = digit_at 10000 x ++ (digit_at 1000 x ++ (digit_at 100 x ++ (digit_at 10 x ++ ((48 + x % 10) ∷ []))))

-- numbers, each after a space
unfoldable pub spaced : List ℕ → List ℕ
spaced [] = []
spaced (x ∷ l) = (32 ∷ decimal x) ++ spaced l

-- a line: a word, its numbers
unfoldable pub line : List ℕ → List ℕ → List ℕ
line word l = word ++ (spaced l ++ (10 ∷ []))
