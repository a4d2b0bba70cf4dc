-- With sections 1 to 8 given, each of the rules 24 to 27 speaks of one processor's view, which its evidence names first, and of no other
-- view. So a refusal that names p refuses p's view, whatever the other views are.
use Rattle.std.specs.Prelude.{ℕ, ◌<◌, ◌≤◌, ◌≡◌, ◌⊎◌, List, [], ◌∷◌}
use Rattle.order.specs.Rule.{Rule, Judged, AllKept}
use Rattle.record.specs.Execution.{Execution}
use Rattle.record.specs.Formed.{Formed}
use Rattle.record.specs.Says.{execution_of}
use Rattle.model.specs.Agree.{AgreeFor}
use Rattle.model.specs.Rules.{order_rules}
use Rattle.model.specs.Validity.{Passes, Answers}

-- the list w breaks rule n, and e is what is shown of it
abbrev pub Broken : List Rule → ℕ → List ℕ → List ℕ → Type 0
Broken [] n w e = ⊥
Broken (q ∷ qs) n w e = ((n ≡ q.number) × q.Breaks w × (e ≡ q.shown w)) ⊎ Broken qs n w e

-- e begins with p
abbrev pub Names : List ℕ → ℕ → Type 0
Names [] p = ⊥
Names (q ∷ e) p = p ≡ q

-- e names a processor p, and no execution with this view of p keeps the rules 24 to 27
abbrev pub Refuses : Execution → List ℕ → Type 0
Refuses z e = (p : ℕ) × (p < z.processors) × Names e p × ((y : Execution) → AgreeFor p z y → AllKept (order_rules y) → ⊥)

pub record ViewAlone : Type 0 where
  -- what breaks one of the rules 24 to 27 names a processor first, and so does what is shown of it
  pub names : (z : Execution) (n : ℕ) (w e : List ℕ) → Broken (order_rules z) n w e
      → (p : ℕ) × (p < z.processors) × Names w p × Names e p
  -- what names p and breaks a rule breaks it whatever the other views are
  pub alone : (z y : Execution) → Formed z → (p : ℕ) → AgreeFor p z y
      → (n : ℕ) (w e : List ℕ) → Names w p → Broken (order_rules z) n w e → Broken (order_rules y) n w e
  -- so a refusal by one of them refuses the view of the processor that it names
  pub refused : (z : Execution) → Formed z → (a : ℕ) (e : List ℕ) → Judged (order_rules z) a e → (a ≡ 0 → ⊥) → Refuses z e
  -- and of records that pass form and structure: where the check of s answers 24 or above, it names a p, and no t with this view of p gets 0
  pub answered : (s : List ℕ) → Passes s → (a : ℕ) (e : List ℕ) → Answers s a e → 24 ≤ a
      → (p : ℕ) × (p < (execution_of s).processors) × Names e p
      × ((t : List ℕ) → Passes t → AgreeFor p (execution_of s) (execution_of t) → (d : List ℕ) → Answers t 0 d → ⊥)
