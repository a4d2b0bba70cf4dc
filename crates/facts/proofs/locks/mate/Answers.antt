use native.Mathlib.Omega.{arith}
use Rattle.record.proofs.Formings.{formed}
use Rattle.record.proofs.Lockings.{lock_within}
use Rattle.facts.proofs.Counting.{upto_none}
use Rattle.facts.proofs.Entering.{mate_more, mate_done}
use Rattle.facts.proofs.locks.mate.Goals as goal

pub loop-i-init : goal.loop-i-init
loop-i-init c = upto_none _ _

pub row-here-requires : goal.row-here-requires
row-here-requires c = let p = c.requires in
    let h = lock_within _ p.0 _ p.1 c.loop-i.i c.loop-i-test.true in
    let b = (formed _ p.0).locks.within in
    let r = p.2.rows in
    omega arith

pub loop-i-preserved : goal.loop-i-preserved
loop-i-preserved c = let p = c.requires in
    let h = lock_within _ p.0 _ p.1 c.loop-i.i c.loop-i-test.true in
    mate_more _ _ _ _ p.2 h _ c.row-here.ensures _ _ c.loop-i.invariant c.spread.ensures

pub returns : goal.returns
returns c = let p = c.requires in
    let q = p.1.number in
    mate_done _ _ _ (omega arith) _ p.3 p.4 c.loop-i.invariant
