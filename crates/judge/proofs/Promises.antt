-- What the contracts of the check and of the order table promise: one result, and 0 exactly to the valid executions.
use Prim.Native.Nat.{ℕ, ◌≤◌}
use mathlib.Core.Path.{◌≡◌}
use mathlib.Core.Logic.{◌↔◌}
use mathlib.Core.List.{List}
use lib.ListN.{length}
use Rattle.order.specs.Least.{Some}
use Rattle.order.specs.Relation.{Cyclic}
use Rattle.order.specs.Rule.{AllKept}
use Rattle.record.specs.Says.{execution_of}
use Rattle.structure.proofs.Examining.{answered_unique, answered_judged}
use Rattle.model.specs.Model.{OrderFor}
use Rattle.model.specs.Rules.{witness_rules, check_rules}
use Rattle.model.specs.Validity.{Passes, Answers, Valid}
use Rattle.model.proofs.Validity.{zero_valid, causality}
use Rattle.judge.specs.Checked.{Checked}

-- two results that the check's contract allows are one: the answer, the number of entries, and every entry of the buffer
pub checked_unique : (s before x y : List ℕ) (a b k l : ℕ) → Checked s before x a k → Checked s before y b l → (a ≡ b) × (k ≡ l) × (x ≡ y)
checked_unique s = answered_unique s (check_rules (execution_of s))

-- a check with a buffer that is long enough
module _ (s before after : List ℕ) (a k : ℕ) (c : Checked s before after a k) (long : 65 ≤ length before) where
  answers : (e : List ℕ) × Answers s a e
  answers = answered_judged s (check_rules (execution_of s)) before after a k long c

  -- demand 2: of a record that passes form and structure, the answer is 0 exactly if what it says is a valid execution
  pub check_valid : Passes s → (a ≡ 0) ↔ Valid (execution_of s)
  check_valid p = zero_valid s p a answers.0 answers.1

  -- where the rules before it hold, it is 24 exactly if some processor's view order joined with happens-before has a cycle
  pub check_causality : Passes s → AllKept (witness_rules (execution_of s))
      → (a ≡ 24) ↔ Some (execution_of s).processors (λ p. Cyclic (OrderFor (execution_of s) p))
  check_causality p w = causality s p w a answers.0 answers.1
