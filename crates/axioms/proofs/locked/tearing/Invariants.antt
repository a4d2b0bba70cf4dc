use Prim.Native.Nat.{ℕ}
use Rattle.order.specs.Rule.{Any}
use Rattle.rows.specs.Members.{In}
use Rattle.record.specs.Execution.{Items, Execution}
use Rattle.facts.specs.Facts.{Mated}
use Rattle.model.specs.Model.{Locked}
use Rattle.model.specs.Rules.{BreaksUp}
use Rattle.axioms.specs.Scene.{Lined}
use Rattle.rows.proofs.Seeks.{Seeking}
use Rattle.axioms.proofs.locked.tearing.Given as goal

abbrev pub invariant-loop-x : goal.invariant-loop-x
invariant-loop-x l = (z : Execution) (line : Items ℕ) → Lined z line l.t l.all → Mated z l.m → Locked z l.a → In l.all l.a → Seeking (λ x. Any 1 (BreaksUp z line l.a x)) l.initial.x-iterator.rest l.x-iterator.rest
