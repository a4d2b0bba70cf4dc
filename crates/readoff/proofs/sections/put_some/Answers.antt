use native.Mathlib.Omega.{arith}
use Rattle.readoff.proofs.Pickings.{picking_none, picking_more, picking_skip, picking_done}
use Rattle.readoff.proofs.sections.put_some.Goals.{then-has, else-has}
use Rattle.readoff.proofs.sections.put_some.Goals as goal

pub loop-e-init : goal.loop-e-init
loop-e-init c = let h = c.requires.2 in picking_none _ _ _ _ (omega arith)

pub loop-e-preserved : goal.loop-e-preserved
loop-e-preserved c =
    let v = c.loop-e.invariant in
    let h = c.requires.2 in
    let t = c.loop-e-test.true in
    elim c.if-has.branch [
      | then-has w ↦ rw (w.to-is, w.out-is) (picking_more _ _ _ _ _ _ _ v t (c.has.ensures.holds w.if-has.true) (omega arith))
      | else-has w ↦ rw (w.to-is, w.out-is) (picking_skip _ _ _ _ _ _ _ v t (c.has.ensures.fails w.if-has.false))
    ]

pub returns : goal.returns
returns c = picking_done _ _ _ _ _ _ _ c.loop-e.invariant c.loop-e-test.false _ c.put_count.ensures
