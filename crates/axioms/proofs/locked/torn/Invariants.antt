use Prim.Native.Nat.{ℕ}
use Rattle.order.specs.Rule.{Any}
use Rattle.order.specs.Least.{Some}
use Rattle.rows.specs.Members.{Is}
use Rattle.record.specs.Execution.{Items, Execution}
use Rattle.record.specs.Words.{OfLock}
use Rattle.facts.specs.Facts.{Mated}
use Rattle.model.specs.Rules.{BreaksUp}
use Rattle.axioms.specs.Scene.{Lined}
use Rattle.rows.proofs.Seeks.{Seeking}
use Rattle.axioms.proofs.locked.torn.Given as goal

abbrev pub invariant-loop-a : goal.invariant-loop-a
invariant-loop-a l = (z : Execution) (line : Items ℕ) → Lined z line l.t l.all → Mated z l.m → Is l.fn.locked (λ e. Some z.locks.size (λ i. OfLock z i e)) → Seeking (λ a. Any 2 (BreaksUp z line a)) l.initial.a-iterator.rest l.a-iterator.rest
