use mathlib.Core.Path.{◌≡◌}
use Rattle.order.specs.Least.{None}
use Rattle.order.specs.Rule.{Any}
use Rattle.form.specs.Place.{view_start}
use Rattle.record.specs.Says.{execution_of}
use Rattle.model.specs.Rules.{WrongView}
use Rattle.witness.proofs.witness.Given as goal

abbrev pub invariant-loop-p : goal.invariant-loop-p
invariant-loop-p l = (l.at ≡ view_start l.s l.p) × (l.ev ≡ l.initial.ev) × None l.p (λ k. Any 1 (WrongView (execution_of l.s) k))
