-- What the check hands back.
use Rattle.std.specs.Prelude.{ℕ, List}
use Rattle.structure.specs.Examined.{Answered}
use Rattle.record.specs.Says.{execution_of}
use Rattle.model.specs.Rules.{check_rules}

-- the judgement by all rules
abbrev pub Checked : List ℕ → List ℕ → List ℕ → ℕ → ℕ → Type 0
Checked s = Answered s (check_rules (execution_of s))
