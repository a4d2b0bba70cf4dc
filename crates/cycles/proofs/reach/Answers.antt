use Rattle.cycles.proofs.Reaches.{reach_begin, reach_less, reach_more, reach_done}
use Rattle.cycles.proofs.reach.Goals as goal

pub loop-found-init : goal.loop-found-init
loop-found-init c = reach_begin _ _ _ c.requires.2 _ _ _ c.full-rest.ensures c.one.ensures c.back-found.ensures

pub loop-found-smaller : goal.loop-found-smaller
loop-found-smaller c = reach_less _ _ _ _ _ c.loop-found.invariant _ c.sub-rest.ensures (c.any.ensures.holds c.loop-found-test.true)

pub loop-found-preserved : goal.loop-found-preserved
loop-found-preserved c = reach_more _ _ _ _ _ c.loop-found.invariant _ c.sub-rest.ensures _ c.back-found-in-loop-found.ensures

pub returns : goal.returns
returns c = reach_done _ _ _ _ _ c.loop-found.invariant (c.any.ensures.fails c.loop-found-test.false) _ _ c.full.ensures c.sub.ensures
