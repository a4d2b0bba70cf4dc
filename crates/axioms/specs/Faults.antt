-- What begins the evidence against rule 26.
use Rattle.std.specs.Prelude.{ℕ, ◌≡◌, ◌⊎◌, List, ◌∷◌}
use Rattle.record.specs.Execution.{Execution}
use Rattle.model.specs.Model.{ViewOrder}
use Rattle.model.specs.Rules.{WritesPlace, NoInitial, Initially, WrongInitial}
use Rattle.axioms.specs.declared.initial.Start.{Start}
use Rattle.axioms.specs.declared.initial.Start.TheVariants.{Absent, Other, Same}

-- evidence against rule 26 begins with p and r
abbrev pub WrongFrom : Execution → ℕ → ℕ → Type 0
WrongFrom z p r = (w : List ℕ) × WrongInitial z (p ∷ r ∷ w)

-- what is told of r: its place has no initial value (0), another (1), or r's value (2), so that only a write before r can be at fault
abbrev pub Coded : Execution → ℕ → ℕ → Type 0
Coded z r code =
    ((code ≡ 0) × NoInitial z (z.events.item r))
    ⊎ (((code ≡ 1) × ((v : ℕ) × Initially z (z.events.item r) v × (v ≡ (z.events.item r).value → ⊥)))
    ⊎ ((code ≡ 2) × Initially z (z.events.item r) (z.events.item r).value))

-- the number that evidence has for it
abbrev pub code : Start → ℕ
code Absent = 0
code Other = 1
code Same = 2

-- x is a write of r's place and stands before r in p's view
abbrev pub Precedes : Execution → ℕ → ℕ → ℕ → Type 0
Precedes z p r x = WritesPlace z x r × ViewOrder z p x r
