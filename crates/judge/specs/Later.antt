-- Rule 24 and the rules after it, in one view.
use Rattle.std.specs.Prelude.{ℕ, zero, suc, ◌<◌, ◌≡◌, List, [], ◌∷◌, true, Option, MatchOption}
use Rattle.order.specs.Dictionary.{Firstly}
use Rattle.order.specs.Relation.{Cyclic}
use Rattle.order.specs.Rule.{Rule}
use Rattle.order.specs.Evidence.{Written}
use Rattle.record.specs.Execution.{Execution}
use Rattle.model.specs.Model.{OrderFor}
use Rattle.model.specs.Rules.{rule24, rule25, rule26, rule27}
use Rattle.judge.specs.declared.Later.{Later}
use Rattle.judge.specs.declared.Later.TheVariants.{Overwritten, Uninitial, Torn}
use Rattle.judge.specs.declared.Look.{Look}
use Rattle.judge.specs.declared.Look.TheVariants.{Cycle, Acyclic}

-- the rules 25 to 27, by number from 0 on
abbrev pub later_rule : Execution → ℕ → Rule
later_rule z zero = rule25 z
later_rule z (suc zero) = rule26 z
later_rule z (suc (suc i)) = rule27 z

-- the place of a rule among them
abbrev pub place : Later → ℕ
place Overwritten = 0
place Uninitial = 1
place Torn = 2

abbrev pub later_rules : Execution → List Rule
later_rules z = later_rule z 0 ∷ later_rule z 1 ∷ later_rule z 2 ∷ []

-- nothing that begins with p breaks the rule
abbrev pub QuietAt : Rule → ℕ → Type 0
QuietAt q p = (w : List ℕ) → q.Breaks (p ∷ w) → ⊥

-- the first that begins with p and breaks the rule is written
abbrev pub ShownAt : Rule → ℕ → List ℕ → List ℕ → ℕ → Type 0
ShownAt q p before after k =
    (w : List ℕ) × Firstly (λ v. q.Breaks (p ∷ v)) w × (0 < k) × Written (q.shown (p ∷ w)) before after k

-- one or the other
abbrev pub RuledAt : Rule → ℕ → List ℕ → List ℕ → Option ℕ → Type 0
RuledAt q p before after r = MatchOption r (QuietAt q p × (after ≡ before)) (ShownAt q p before after)

-- what a look at p's view hands back: the evidence against rule 24; or p's order has no cycle, and where the view is said to be calm,
-- nothing that begins with p breaks the rules after it
abbrev pub Looked : Execution → ℕ → List ℕ → List ℕ → Look → Type 0
Looked z p before after (Cycle k) = ShownAt (rule24 z) p before after k
Looked z p before after (Acyclic calm) =
    (after ≡ before) × (Cyclic (OrderFor z p) → ⊥) × (calm ≡ true → (i : ℕ) → i < 3 → QuietAt (later_rule z i) p)
