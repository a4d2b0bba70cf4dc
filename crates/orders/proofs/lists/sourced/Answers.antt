use native.Mathlib.Omega.{arith}
use Rattle.record.specs.Says.{execution_of}
use Rattle.orders.proofs.Sourcing.{reader_low, ends_none, ends_more, sourced_all}
use Rattle.orders.proofs.lists.sourced.Goals as goal

pub loop-i-init : goal.loop-i-init
loop-i-init c = ends_none (execution_of c.args.s.now).sources _ c.none-r.ensures

pub one-requires : goal.one-requires
one-requires c = let p = c.requires in
    let b = reader_low _ p.0 _ p.1 c.loop-i.i c.loop-i-test.true in
    let y = c.reader_of.ensures in
    omega arith

pub loop-i-preserved : goal.loop-i-preserved
loop-i-preserved c = ends_more (execution_of c.args.s.now).sources _ _ c.loop-i.invariant _ c.reader_of.ensures _ _ c.one.ensures c.bitor-r.ensures

pub returns : goal.returns
returns c = let q = c.requires.1.number in
    sourced_all (execution_of c.args.s.now) _ (omega arith) _ c.loop-i.invariant
