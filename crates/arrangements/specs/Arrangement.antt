-- Arrangements of a list's numbers, one after the other in dictionary order.
use Rattle.std.specs.Prelude.{ℕ, suc, ◌≡◌, Bool, true, false, cond, ◌⊎◌, List, [], ◌∷◌, eqb}
use Rattle.order.specs.Dictionary.{Lex, Firstly}

-- how often k stands in the list
unfoldable pub times : ℕ → List ℕ → ℕ
times k [] = 0
times k (a ∷ l) = cond (eqb k a) (suc (times k l)) (times k l)

-- m has the numbers of l, each as often
abbrev pub Arranged : List ℕ → List ℕ → Type 0
Arranged l m = (k : ℕ) → times k m ≡ times k l

-- m is an arrangement of l's numbers that stands behind l
abbrev pub Behind : List ℕ → List ℕ → Type 0
Behind l m = Arranged l m × (Lex m l → ⊥)

-- m is the arrangement next to l; or none stands behind l, and m is the first of all
abbrev pub Next : List ℕ → List ℕ → Bool → Type 0
Next l m found =
    ((found ≡ true) × Firstly (Behind l) m)
    ⊎ ((found ≡ false) × ((w : List ℕ) → Behind l w → ⊥) × Firstly (Arranged l) m)
