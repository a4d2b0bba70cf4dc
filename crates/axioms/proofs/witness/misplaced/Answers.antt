use Rattle.axioms.proofs.Placings.{placing_more, placing_done}
use Rattle.axioms.proofs.witness.misplaced.Goals as goal

pub loop-i-preserved : goal.loop-i-preserved
loop-i-preserved c = placing_more _ _ _ _ c.loop-i.invariant c.loop-i-test.true _ c.number.ensures _ _ _ _ c.one-here.ensures c.bitand.ensures c.bitor-twice.ensures c.bitor-once.ensures

pub returns : goal.returns
returns c = placing_done _ _ _ _ c.loop-i.invariant c.loop-i-test.false _ _ _ _ _ c.sub.ensures c.sub-2.ensures c.bitor-differing.ensures c.bitor.ensures _ c.first.ensures
