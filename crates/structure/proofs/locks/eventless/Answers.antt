use Rattle.order.proofs.Searches.{none_next}
use Rattle.structure.proofs.Locked.{eventless_is, eventless_not}
use native.Mathlib.Omega.{arith}
use Rattle.structure.proofs.locks.eventless.Goals as goal

pub returns-then-not-any-clause-found : goal.returns-then-not-any-clause-found
returns-then-not-any-clause-found c = let t = c.loop-i-test.true in
    λ x f e. (t, (eventless_is x _ f _ (omega arith) _ c.row.ensures (c.any.ensures.fails c.if-not-any.true), c.loop-i.invariant x f e))

pub loop-i-preserved : goal.loop-i-preserved
loop-i-preserved c = let t = c.loop-i-test.true in
    λ x f e. none_next _ _ (c.loop-i.invariant x f e) (eventless_not x _ f _ (omega arith) _ c.row.ensures (c.any.ensures.holds c.if-not-any.false))
