-- The structure rules, 10 to 14.
use Rattle.std.specs.Prelude.{ℕ, ◌<◌, ◌≡◌, ◌⊎◌, List, [], ◌∷◌}
use Rattle.order.specs.Least.{Some, None}
use Rattle.order.specs.Rule.{Rule, rule, entry_rule, cycle_rule}
use Rattle.record.specs.Execution.{Execution}
use Rattle.record.specs.Words.{SameInstruction, SameRegister, RegisterWrite, Belongs, Causes}

-- 10: section 3 pair i joins two instructions
unfoldable pub Joining : Execution → ℕ → Type 0
Joining x i =
    (i < x.causes.size)
    × (SameInstruction (x.events.item (x.causes.item i).from) (x.events.item (x.causes.item i).to) → ⊥)

abbrev pub pair_of : Execution → ℕ → List ℕ
pair_of x i = (x.causes.item i).from ∷ (x.causes.item i).to ∷ []

-- 12: a and b are of one instruction at one register, one or both writing, and section 3 has neither pair
unfoldable pub Unordered : Execution → ℕ → ℕ → Type 0
Unordered x a b =
    (a < b)
    × (b < x.events.size)
    × SameInstruction (x.events.item a) (x.events.item b)
    × SameRegister (x.events.item a) (x.events.item b)
    × (RegisterWrite (x.events.item a) ⊎ RegisterWrite (x.events.item b))
    × (Causes x a b → ⊥)
    × (Causes x b a → ⊥)

-- 13: section 4 entry i has no event
unfoldable pub Eventless : Execution → ℕ → Type 0
Eventless x i = (i < x.locks.size) × None x.events.size (λ e. Belongs (x.events.item e) (x.locks.item i))

-- 14: section 4 entry i repeats an earlier one
unfoldable pub Repeated : Execution → ℕ → Type 0
Repeated x i = (i < x.locks.size) × Some i (λ j. x.locks.item j ≡ x.locks.item i)

-- the structure rules; 11: section 3 has a cycle
abbrev pub structure_rules : Execution → List Rule
structure_rules x =
    entry_rule 10 (Joining x) (pair_of x)
    ∷ cycle_rule 11 (Causes x)
    ∷ rule 12 2 (Unordered x)
    ∷ rule 13 1 (Eventless x)
    ∷ rule 14 1 (Repeated x)
    ∷ []
