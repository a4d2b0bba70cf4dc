use native.Mathlib.Omega.{arith}
use Rattle.rows.proofs.Members.{in_low}
use Rattle.rows.proofs.Spreads.{spread_more, spread_done}
use Rattle.orders.proofs.Instructions.{steps_is}
use Rattle.orders.proofs.preserved.put_steps.Goals as goal

pub row-requires : goal.row-requires
row-requires c = let h = in_low _ _ c.in-Some.ensures.steps.0.0 in
    let g = c.requires.1 in
    omega arith

pub add-requires : goal.add-requires
add-requires c = let h = in_low _ _ c.in-Some.ensures.steps.0.0 in omega arith

pub loop-a-preserved : goal.loop-a-preserved
loop-a-preserved c = let s = c.in-Some.ensures.steps in
    let i = steps_is _ _ _ _ _ _ _ c.row.ensures c.bitor.ensures c.bitand.ensures in
    spread_more _ _ _ _ _ _ c.loop-a.invariant _ s.0.0 _ i c.add.ensures _ s.1

pub returns : goal.returns
returns c = spread_done _ _ _ _ _ c.loop-a.invariant c.in-None.ensures.steps
