-- What is known when the rules about the orders are judged.
use Rattle.std.specs.Prelude.{ℕ, ◌<◌, List}
use Rattle.order.specs.Relation.{Cyclic}
use Rattle.order.specs.Rule.{AllKept}
use Rattle.rows.specs.Members.{Is}
use Rattle.rows.specs.declared.Set.{Set}
use Rattle.record.specs.Execution.{Execution}
use Rattle.record.specs.Says.{execution_of}
use Rattle.facts.specs.Facts.{Mated, Classed, Ready}
use Rattle.facts.specs.declared.Classes.{Classes}
use Rattle.model.specs.Model.{Sourced, OrderFor}
use Rattle.model.specs.Rules.{witness_rules}
use Rattle.orders.specs.Groups.{Happens}
use Rattle.axioms.specs.Scene.{Viewed, Sources, Scene}
use Rattle.judge.specs.declared.Known.{Known}

-- the facts that the rules about the orders ask for: h has happens-before, and the witness has passed its rules
pub record Ordered (s : List ℕ) (q m u h : List ℕ) (g : Known) : Type 0 where
  pub ready : Ready s g.layout q g.classes
  pub mated : Mated (execution_of s) m
  pub sources : Sources (execution_of s) u
  pub sourced : Is g.sourced (Sourced (execution_of s))
  pub before : Happens (execution_of s) h
  pub witness : AllKept (witness_rules (execution_of s))

-- no view order joined with happens-before has a cycle
abbrev pub NoCycle : Execution → Type 0
NoCycle z = (p : ℕ) → p < z.processors → Cyclic (OrderFor z p) → ⊥

-- what the searches of one view suppose, of some execution
abbrev pub ReadsSeen : ℕ → List ℕ → List ℕ → List ℕ → Classes → Set → Type 0
ReadsSeen p t q u c seen = (z : Execution) × (Scene z p t q c seen × Sources z u)

abbrev pub LocksSeen : ℕ → List ℕ → List ℕ → Classes → Set → Type 0
LocksSeen p t m c seen = (z : Execution) × (Viewed z p t seen × (Mated z m × Classed z c))
