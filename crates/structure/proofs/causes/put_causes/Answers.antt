use native.Mathlib.Omega.{arith}
use Rattle.record.specs.Says.{execution_of}
use Rattle.record.proofs.Formings.{formed}
use Rattle.facts.proofs.Counting.{PairStep, upto_none, pairs_more}
use Rattle.structure.proofs.Pairs.{causes_all}
use Rattle.structure.proofs.causes.put_causes.Goals as goal

pub loop-i-init : goal.loop-i-init
loop-i-init c = upto_none (PairStep (execution_of c.args.s.now).causes) _

pub link-requires : goal.link-requires
link-requires c =
    let n = (formed _ c.requires.0).events.within in
    let l = c.pair-from.ensures.low in
    let z = c.loop-i.invariant.same in
    let t = c.requires.2 in
    (omega arith, omega arith)

pub loop-i-preserved : goal.loop-i-preserved
loop-i-preserved c =
    let e = c.pair-from.ensures in
    pairs_more (execution_of c.args.s.now).causes _ _ _ _ c.loop-i.invariant _ _ e.from e.to c.link.ensures

pub returns : goal.returns
returns c = let q = c.requires.1.number in causes_all _ _ _ _ (omega arith) c.loop-i.invariant
