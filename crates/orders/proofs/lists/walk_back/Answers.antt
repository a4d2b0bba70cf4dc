use native.Mathlib.Omega.{arith}
use Rattle.orders.proofs.Walking.{walk_begin, walk_more, walk_done, add_one}
use Rattle.orders.proofs.lists.walk_back.Goals as goal

pub loop-i-init : goal.loop-i-init
loop-i-init g c = walk_begin _ _ _ _ _ c.none-later.ensures

pub loop-i-preserved : goal.loop-i-preserved
loop-i-preserved g c =
    walk_more _ _ _ _ _ _ _ c.loop-i.invariant _ (omega arith) _ c.number-e.ensures _ _ c.one.ensures c.to.ensures
    _ _ _ c.bitand.ensures (add_one _ _ _ _ _ c.one.ensures c.add.ensures) c.bitor-later.ensures

pub returns : goal.returns
returns g c = walk_done _ _ _ _ _ _ _ c.loop-i.invariant (omega arith)
