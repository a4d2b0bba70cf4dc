-- Which records pass form and structure, what the check answers, and which executions are valid by the HOL specification.
use Rattle.std.specs.Prelude.{ℕ, List, []}
use Rattle.record.specs.Execution.{Execution}
use Rattle.structure.specs.Examined.{examination}
use Rattle.record.specs.Says.{execution_of}
use Rattle.model.specs.Rules.{check_rules}
use Rattle.model.specs.Hol.{valid_execution}
use Rattle.model.specs.Says.{structure_of, witness_of, Spelled}

-- the record s passes the form rules and the structure rules
abbrev pub Passes : List ℕ → Type 0
Passes s = examination s [] 0 []

-- the check of the record s gives the answer a, with the evidence e
abbrev pub Answers : List ℕ → ℕ → List ℕ → Type 0
Answers s a e = examination s (check_rules (execution_of s)) a e

-- the orders that the lists spell are valid, and the lists are right where the orders do not show it
abbrev pub Valid : Execution → Type 1
Valid z = Spelled z × valid_execution (structure_of z) (witness_of z)
