use native.Mathlib.Omega.{arith}
use Rattle.structure.proofs.Locked.{repeats_found, repeats_more}
use Rattle.structure.proofs.locks.repeated.Goals as goal

pub returns-then-meets-clause-found : goal.returns-then-meets-clause-found
returns-then-meets-clause-found c = λ x f e z.
    repeats_found x _ f _ _ e c.loop-i-test.true _ c.row-here.ensures _ (c.loop-i.invariant x f e z) (c.meets.ensures.holds c.if-meets.true)

pub loop-i-preserved : goal.loop-i-preserved
loop-i-preserved c = λ x f e z.
    repeats_more x _ f _ _ e c.loop-i-test.true _ c.row-here.ensures _ (c.loop-i.invariant x f e z) z (c.meets.ensures.fails c.if-meets.false) _ c.bitor-earlier.ensures

pub returns-clause-found : goal.returns-clause-found
returns-clause-found c = λ x f e z k l. (c.loop-i.invariant x f e z).none k (omega arith)
