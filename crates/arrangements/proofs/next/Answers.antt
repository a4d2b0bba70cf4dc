use native.Mathlib.Omega.{arith}
use Rattle.arrangements.proofs.Arrangements.{rolled_none, rolled_at, rolled_found, rolled_more}
use Rattle.arrangements.proofs.next.Goals as goal

pub loop-k-init : goal.loop-k-init
loop-k-init c = rolled_none _

pub returns-then-raise : goal.returns-then-raise
returns-then-raise c =
    let r = c.raise in
    rolled_found _ _ _ (rolled_at _ _ _ c.loop-k.invariant (omega arith)) r.new.l _ r.ensures c.if-raise.true

pub loop-k-preserved : goal.loop-k-preserved
loop-k-preserved c =
    let r = c.raise in
    rolled_more _ _ _ (rolled_at _ _ _ c.loop-k.invariant (omega arith)) r.new.l _ r.ensures c.if-raise.false r.auto.l
