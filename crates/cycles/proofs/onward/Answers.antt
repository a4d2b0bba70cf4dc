use Rattle.cycles.proofs.Layers.{go_begin, go_more, go_done}
use Rattle.cycles.proofs.onward.Goals as goal

pub loop-a-init : goal.loop-a-init
loop-a-init c = rw c.into_iter-a-iterator.ensures.into_iter_gives (go_begin _ _ _ c.none-r.ensures)

pub loop-a-preserved : goal.loop-a-preserved
loop-a-preserved c = let s = c.in-Some.ensures.steps in
    go_more _ _ _ _ c.loop-a.invariant _ s.0.0 _ _ _ c.row.ensures c.bitor-r.ensures s.1

pub returns : goal.returns
returns c = go_done _ _ _ c.requires.1 _ _ _ c.loop-a.invariant c.in-None.ensures.steps c.bitand.ensures
