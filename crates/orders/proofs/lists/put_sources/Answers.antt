use native.Mathlib.Omega.{arith}
use Rattle.record.specs.Says.{execution_of}
use Rattle.facts.proofs.Counting.{PairStep, upto_none, pairs_more}
use Rattle.orders.proofs.Sourcing.{source_low, reader_low, sources_all}
use Rattle.orders.proofs.lists.put_sources.Goals as goal

pub loop-i-init : goal.loop-i-init
loop-i-init c = upto_none (PairStep (execution_of c.args.s.now).sources) _

pub link-requires : goal.link-requires
link-requires c = let p = c.requires in
    let a = source_low _ p.0 _ p.1 c.loop-i.i c.loop-i-test.true in
    let b = reader_low _ p.0 _ p.1 c.loop-i.i c.loop-i-test.true in
    let x = c.source_of.ensures in
    let y = c.reader_of.ensures in
    let z = c.loop-i.invariant.same in
    let t = p.2 in
    (omega arith, omega arith)

pub loop-i-preserved : goal.loop-i-preserved
loop-i-preserved c =
    pairs_more (execution_of c.args.s.now).sources _ _ _ _ c.loop-i.invariant _ _ c.source_of.ensures c.reader_of.ensures c.link.ensures

pub returns : goal.returns
returns c = let q = c.requires.1.number in
    sources_all (execution_of c.args.s.now) _ (omega arith) _ _ c.loop-i.invariant
