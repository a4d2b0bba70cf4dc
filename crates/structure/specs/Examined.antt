-- What the check, the replay and the read-off begin with: the form rules, then the structure rules.
use Rattle.std.specs.Prelude.{ℕ, ◌<◌, ◌≤◌, ◌≡◌, List, [], ◌∷◌, ◌++◌, ◌⊎◌, length, Ok, Err}
use Rattle.order.specs.Rule.{Rule, Judged}
use Rattle.order.specs.Evidence.{Given}
use Rattle.form.specs.Whole.{whole}
use Rattle.form.specs.Steps.{Step}
use Rattle.record.specs.Says.{execution_of}
use Rattle.structure.specs.Structure.{structure_rules}

-- the fault that reading meets, with its section as evidence; else the judgement of the rules
abbrev pub examined_by : Step → List Rule → ℕ → List ℕ → Type 0
examined_by (Err f) rules a e = (a ≡ f.answer) × (e ≡ f.section ∷ [])
examined_by (Ok z) rules a e = Judged rules a e

-- the judgement of a record: the form rules, the structure rules, and what comes after them
unfoldable pub examination : List ℕ → List Rule → ℕ → List ℕ → Type 0
examination s rules = examined_by (whole s) (structure_rules (execution_of s) ++ rules)

-- what an operation with a buffer for evidence hands back: of fewer than 65 entries, answer 1, and it is untouched; else the judgement
abbrev pub Answered : List ℕ → List Rule → List ℕ → List ℕ → ℕ → ℕ → Type 0
Answered s rules before after a k =
    ((length before < 65) × (a ≡ 1) × (k ≡ 0) × (after ≡ before))
    ⊎ ((65 ≤ length before) × Given (examination s rules) before after a k)
